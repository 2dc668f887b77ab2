use Rattle.std.proofs.Common.{map, option_map, string_bytes}
use Rattle.file_commands.specs.Command.{is_no_format, command_in}
use Rattle.file_commands.specs.declared.command.Command.TheVariants.{Replay, Asm, Check, Run}
use Rattle.file_commands.specs.Callers.{are_unfit}
use Rattle.file_commands.proofs.CommandLemmas.{workers_within, takes_file}
use Rattle.file_commands.proofs.laws.commands_name_what_they_take.Goals as goal

pub returns-clause-workers : goal.returns-clause-workers
returns-clause-workers c arguments workers scripts callers explain log format name =
    workers_within workers (are_unfit (map string_bytes scripts.items) (map string_bytes callers.items))
    (is_no_format (option_map string_bytes format)) name.2

pub returns-clause-replay : goal.returns-clause-replay
returns-clause-replay c arguments file name = takes_file (command_in arguments) (Replay file) name.1

pub returns-clause-asm : goal.returns-clause-asm
returns-clause-asm c arguments file output explain name =
    takes_file (command_in arguments) (Asm file output explain) name.1

pub returns-clause-check : goal.returns-clause-check
returns-clause-check c arguments file list task memory explain name =
    takes_file (command_in arguments) (Check file list task memory explain) name.1

pub returns-clause-run : goal.returns-clause-run
returns-clause-run c arguments name args settings explain named =
    takes_file (command_in arguments) (Run name args settings explain) named.1
