use Rattle.clap.specs.Simple.{subcommand_rows_of}
use Rattle.file_commands.proofs.command.whole.Goals as goal

pub returns-clause-err : goal.returns-clause-err
returns-clause-err c = c.complete.ensures.err (subcommand_rows_of c.args.matches.now) c.in_ok-command.ensures
