use Rattle.std.proofs.Common.{ap, sym, ◌∙◌, Some}
use Rattle.clap.proofs.WalkLemmas.{first_value-rows}
use Rattle.clap.specs.Matches.{found_of}
use Rattle.file_commands.proofs.arguments.value_of.Goals as goal

pub returns-in_default : goal.returns-in_default
returns-in_default c = sym (c.in_default.ensures ∙ first_value-rows (found_of c.args.found.now) c.args.name.now)

pub returns : goal.returns
returns c =
    sym
    (ap Some c.in_ok-value.ensures.ok
    ∙ (c.in-Some.ensures ∙ first_value-rows (found_of c.args.found.now) c.args.name.now))
