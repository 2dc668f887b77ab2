use Rattle.std.proofs.Common.{sym, ap, ◌∙◌, codes, Some}
use Rattle.clap.proofs.WalkLemmas.{first_value-rows}
use Rattle.clap.specs.Matches.{found_of}
use Rattle.clap.specs.Walk.{rows_of}
use Rattle.file_commands.proofs.FoundLemmas.{first_of_all}
use Rattle.file_commands.proofs.arguments.file_of.Goals as goal

pub unreachable-requires : goal.unreachable-requires
unreachable-requires c =
    first_of_all (codes "FILE") (rows_of (found_of c.args.found.now)) c.requires
    (sym (first_value-rows (found_of c.args.found.now) (codes "FILE")) ∙ sym c.in_default.ensures)

pub returns : goal.returns
returns c =
    sym (first_value-rows (found_of c.args.found.now) (codes "FILE"))
    ∙ (sym c.in-Some.ensures ∙ ap Some (sym c.in_ok-file.ensures.ok))
