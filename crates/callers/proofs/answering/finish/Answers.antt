use Rattle.std.proofs.Common.{◌≡◌, refl, sym, ap, ◌∙◌, option_map, Some}
use Rattle.callers.proofs.answering.finish.Goals as goal

pub returns-in-Some : goal.returns-in-Some
returns-in-Some g c = (c.in-Some.thread.promise, ap (option_map (λ t. t.promise)) c.in-Some.is, c.join.ensures)
