use Rattle.std.proofs.Common.{[], ◌∷◌, rules}
use Rattle.std.proofs.lemmas.List.{set_split, drop_all}
use Rattle.validator.proofs.groups.leave_of_last.Goals as goal

pub returns-in-Some : goal.returns-in-Some
returns-in-Some c = (c.in-Some.group ∷ [], search (rules, set_split, drop_all), c.in-Some.ensures)
