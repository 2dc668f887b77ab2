use Rattle.std.proofs.Common.{◌≡◌, ap, sym, ◌∙◌, subst, map, string_bytes}
use Rattle.std.proofs.lemmas.Result.{IfErr-weaker, IfOk-weaker}
use Rattle.clap.specs.Faults.{is_simple_and_free, fault_of}
use Rattle.clap.specs.Kinds.{HasKind}
use Rattle.clap.specs.Simple.{app_of, is_simple, subcommand_of}
use Rattle.clap.specs.Values.{kind_of}
use Rattle.file_commands.specs.Command.{program}
use Rattle.file_commands.specs.Inside.Chosen.{IsFound}
use Rattle.file_commands.proofs.FoundLemmas.{found_whole}
use Rattle.file_commands.proofs.CommandLemmas.{program_is_simple, program_is_free, named_from_chosen, named_from_shown, faulty_from_kind, faulty_from_unfit}
use Rattle.file_commands.proofs.command.command_of.Goals as goal

pub returns-in-Ok-clause-ok : goal.returns-in-Ok-clause-ok
returns-in-Ok-clause-ok c =
    let arguments = map string_bytes c.args.arguments.now in
    let read : app_of c.in_ok-parser.parser ≡ program = c.in_ok-parser.ensures in
    let found = c.in-Ok.ensures.matches (ap is_simple read ∙ program_is_simple) in
    let faults = c.in-Ok.ensures.kinds (ap is_simple_and_free read ∙ program_is_free) in
    IfOk-weaker c.whole.result _ _
    (λ d h. named_from_chosen arguments _ (found.1 ∙ ap (λ a. subcommand_of a arguments) read)
    (ap (λ a. fault_of a arguments) (sym read) ∙ faults) d h) c.whole.ensures.ok

pub returns-in-Ok-clause-err : goal.returns-in-Ok-clause-err
returns-in-Ok-clause-err c =
    let arguments = map string_bytes c.args.arguments.now in
    let read : app_of c.in_ok-parser.parser ≡ program = c.in_ok-parser.ensures in
    let found = c.in-Ok.ensures.matches (ap is_simple read ∙ program_is_simple) in
    let faults = c.in-Ok.ensures.kinds (ap is_simple_and_free read ∙ program_is_free) in
    IfErr-weaker c.whole.result _ _
    (λ f h. faulty_from_unfit arguments _ (found.1 ∙ ap (λ a. subcommand_of a arguments) read)
    (ap (λ a. fault_of a arguments) (sym read) ∙ faults) f h) c.whole.ensures.err

pub returns-in-Err-clause-ok : goal.returns-in-Err-clause-ok
returns-in-Err-clause-ok c =
    let arguments = map string_bytes c.args.arguments.now in
    let read : app_of c.in_ok-parser.parser ≡ program = c.in_ok-parser.ensures in
    let kinds = c.in-Err.ensures.kinds (ap is_simple_and_free read ∙ program_is_free) in
    let among = subst (λ a. HasKind (fault_of a arguments) c.in-Err.error) read kinds in
    IfOk-weaker c.unmatched.result _ _ (named_from_shown arguments (kind_of c.in-Err.error) among)
    c.unmatched.ensures.ok

pub returns-in-Err-clause-err : goal.returns-in-Err-clause-err
returns-in-Err-clause-err c =
    let arguments = map string_bytes c.args.arguments.now in
    let read : app_of c.in_ok-parser.parser ≡ program = c.in_ok-parser.ensures in
    let kinds = c.in-Err.ensures.kinds (ap is_simple_and_free read ∙ program_is_free) in
    let among = subst (λ a. HasKind (fault_of a arguments) c.in-Err.error) read kinds in
    IfErr-weaker c.unmatched.result _ _ (faulty_from_kind arguments (kind_of c.in-Err.error) among)
    c.unmatched.ensures.err

pub whole-requires : goal.whole-requires
whole-requires c =
    let arguments = map string_bytes c.args.arguments.now in
    let read : app_of c.in_ok-parser.parser ≡ program = c.in_ok-parser.ensures in
    let found = c.in-Ok.ensures.matches (ap is_simple read ∙ program_is_simple) in
    let faults = c.in-Ok.ensures.kinds (ap is_simple_and_free read ∙ program_is_free) in
    subst IsFound (sym (found.1 ∙ ap (λ a. subcommand_of a arguments) read))
    (found_whole arguments (ap (λ a. fault_of a arguments) (sym read) ∙ faults))
