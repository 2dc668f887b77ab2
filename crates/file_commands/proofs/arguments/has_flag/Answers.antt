use Rattle.std.proofs.Common.{ap, sym, ◌∙◌, [], Bool, Option}
use Rattle.std.specs.Prelude.{bytes_eq, codes, unwrap_or}
use Rattle.clap.proofs.WalkLemmas.{first_value-rows}
use Rattle.clap.specs.Matches.{found_of}
use Rattle.clap.specs.Walk.{Text}
use Rattle.file_commands.proofs.arguments.has_flag.Goals as goal

abbrev is_true : Option Text → Bool
is_true value = bytes_eq (unwrap_or value []) (codes "true")

pub returns-in-Some : goal.returns-in-Some
returns-in-Some c =
    sym (c.eq.ensures ∙ ap is_true (c.in-Some.ensures ∙ first_value-rows (found_of c.args.found.now) c.args.name.now))

pub returns-in-None : goal.returns-in-None
returns-in-None c = sym (ap is_true (c.in-None.ensures ∙ first_value-rows (found_of c.args.found.now) c.args.name.now))
