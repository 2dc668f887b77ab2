use Rattle.std.proofs.Common.{ap, sym, ◌∙◌, Some}
use Rattle.clap.proofs.WalkLemmas.{first_value-rows}
use Rattle.clap.specs.Matches.{found_of}
use Rattle.file_commands.specs.Command.{number_from}
use Rattle.file_commands.proofs.FoundLemmas.{number_parses}
use Rattle.file_commands.proofs.arguments.number_of.Goals as goal

pub returns-in_default : goal.returns-in_default
returns-in_default c =
    sym (ap number_from (c.in_default.ensures ∙ first_value-rows (found_of c.args.found.now) c.args.name.now))

pub returns : goal.returns
returns c =
    sym (ap Some c.in-Ok.ensures.value.0.1
    ∙ ap number_from (c.in-Some.ensures ∙ first_value-rows (found_of c.args.found.now) c.args.name.now))

pub unreachable-requires : goal.unreachable-requires
unreachable-requires c =
    c.in-Err.ensures.value.0
    (number_parses c.in-Some.text.now
    (c.requires c.in-Some.text.now
    (sym (c.in-Some.ensures ∙ first_value-rows (found_of c.args.found.now) c.args.name.now))))
