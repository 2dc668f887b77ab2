use Rattle.std.proofs.Common.{◌≡◌, true, rules}
use Rattle.file_commands.specs.Command.{is_unfit}
use Rattle.file_commands.proofs.command.complete.Goals as goal

pub returns-in-Some-clause-err : goal.returns-in-Some-clause-err
returns-in-Some-clause-err c = λ found is.
    let unfit : is_unfit c.args.command ≡ true = search rules in
    (c.args.command, is, unfit)
