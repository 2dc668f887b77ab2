-- How the program's command line is read, by `clap`'s own reading of its arguments.
use Rattle.std.specs.Prelude.{ℕ, ◌≡◌, ◌≢◌, ◌⊎◌, List, [], ◌∷◌, map, Bool, true, false, not, ◌&&◌, ◌||◌, nat_le, bytes_eq, Option, Some, None, is_some, option_map, unwrap_or, fold, codes, string_bytes, IsSomeAnd}
use Rattle.std.specs.Str.Parse.{digits_value, without_leading_plus}
use Rattle.clap.specs.Faults.{fault_of}
use Rattle.clap.specs.Kinds.{Kinds, IsAmong}
use Rattle.clap.specs.Simple.{App, Shape, new_shape, new_rule, subcommand_of, with_subcommand}
use Rattle.clap.specs.Lexer.{usize_max}
use Rattle.clap.specs.Walk.{Row, Rule, Text, first_of, all_of}
use Rattle.clap.specs.declared.builder.action.ArgAction.TheVariants.{Append, SetTrue}
use Rattle.clap.specs.declared.builder.value_parser.ValueParser.TheVariants.{Unsigned}
use Rattle.clap.specs.declared.error.kind.ErrorKind.{ErrorKind}
use Rattle.clap.specs.declared.error.kind.ErrorKind.TheVariants.{DisplayHelp, DisplayVersion}
use Rattle.file_commands.specs.Callers.{are_unfit}
use Rattle.file_commands.specs.declared.command.Command.{Command}
use Rattle.file_commands.specs.declared.command.Command.TheVariants.{Serve, Replay, Asm, Check, Run, Show}
use Rattle.file_commands.specs.declared.command.CommandError.{CommandError}
use Rattle.file_commands.specs.declared.command.CommandError.TheVariants.{OutOfMemory, Arguments}

-- the argument FILE, which there has to be
abbrev pub file_rule : Rule
file_rule = record (new_rule (codes "FILE")) { required = true }

-- the flag of this name
abbrev pub flag_rule : (name : Text) → Rule
flag_rule name = record (new_rule name) { long = Some name; action = Some SetTrue }

-- the option of this name, with a value
abbrev pub option_rule : (name : Text) → Rule
option_rule name = record (new_rule name) { long = Some name; value_names = 1 }

-- the option of this name, whose value is a number in this range
abbrev pub number_rule : (name : Text) → (least most : ℕ) → Rule
number_rule name least most = record (option_rule name) { parser = Some (Unsigned least most) }

-- the option of this name, with one value more each time that it is given
abbrev pub repeated_rule : (name : Text) → Rule
repeated_rule name = record (option_rule name) { action = Some Append }

-- the option `-o` or `--output`, whose value is the name of a file
abbrev pub output_rule : Rule
output_rule = record (option_rule (codes "output")) { short = Some 111 }

-- the limit on a task's memory: any number of bytes
abbrev pub memory_rule : Rule
memory_rule = number_rule (codes "memory") 0 18446744073709551615

-- the files of callers, of which there may be several
abbrev pub script_rule : Rule
script_rule = record (new_rule (codes "SCRIPT")) {
  range = Some (record { start_inclusive = 1; end_inclusive = usize_max });
}

-- the file of a module and all words that follow it, those that begin with a dash too
abbrev pub module_rule : Rule
module_rule = record (new_rule (codes "MODULE")) {
  required = true;
  trailing_var_arg = true;
  range = Some (record { start_inclusive = 1; end_inclusive = usize_max });
  value_names = 2;
}

-- a command with these arguments
abbrev pub command_shape : (name : Text) → List Rule → Shape
command_shape name rules = record (new_shape name) { rules = rules; has_version = true }

-- the program without its commands, of which it wants one
abbrev pub bare_program : App
bare_program = record {
  top = record (new_shape (codes "wasm-shim"))
      { has_version = true; subcommand_required = true };
  subs = [];
}

-- `serve [--workers N] [--explain] [--log] [--log-format FORMAT] [--caller IN:OUT]* [SCRIPT..]`
abbrev pub serve_shape : Shape
serve_shape = command_shape (codes "serve")
    (number_rule (codes "workers") 1 16 ∷ flag_rule (codes "explain") ∷ flag_rule (codes "log")
    ∷ option_rule (codes "log-format") ∷ repeated_rule (codes "caller") ∷ script_rule ∷ [])

-- `replay FILE`
abbrev pub replay_shape : Shape
replay_shape = command_shape (codes "replay") (file_rule ∷ [])

-- `asm [-o OUTPUT] [--explain] FILE`
abbrev pub asm_shape : Shape
asm_shape = command_shape (codes "asm") (output_rule ∷ flag_rule (codes "explain") ∷ file_rule ∷ [])

-- `check [--task [--memory BYTES]] [--list] [--explain] FILE`
abbrev pub check_shape : Shape
check_shape = command_shape (codes "check")
    (flag_rule (codes "task") ∷ memory_rule ∷ flag_rule (codes "list") ∷ flag_rule (codes "explain")
    ∷ file_rule ∷ [])

-- `run [--env NAME=VALUE]* [--memory BYTES] [--explain] MODULE [ARG..]`
abbrev pub run_shape : Shape
run_shape = command_shape (codes "run")
    (repeated_rule (codes "env") ∷ memory_rule ∷ flag_rule (codes "explain") ∷ module_rule ∷ [])

abbrev pub program : App
program = fold with_subcommand bare_program
    (serve_shape ∷ replay_shape ∷ asm_shape ∷ check_shape ∷ run_shape ∷ [])

-- ---- what is found of the arguments of a command

abbrev pub file_in : List Row → Option Text
file_in = first_of (codes "FILE")

-- the file of a module and the words after it
abbrev pub module_in : List Row → Option (List Text)
module_in = all_of (codes "MODULE")

-- the flag of this name is among them
abbrev pub has_flag : (name : Text) → List Row → Bool
has_flag name rows = bytes_eq (unwrap_or (first_of name rows) []) (codes "true")

-- the values of the argument of this name, in their order
abbrev pub texts_in : (name : Text) → List Row → List Text
texts_in name rows = unwrap_or (all_of name rows) []

abbrev pub number_from : Option Text → Option ℕ
number_from = option_map (λ text. digits_value 10 (without_leading_plus text))

-- the number that the option of this name has, if it is given
abbrev pub number_in : (name : Text) → List Row → Option ℕ
number_in name rows = number_from (first_of name rows)

-- how many workers there are: the number given, or else 2
abbrev pub workers_in : List Row → ℕ
workers_in rows = unwrap_or (number_in (codes "workers") rows) 2

-- a format that the log does not have
abbrev pub is_no_format : Option Text → Bool
is_no_format None = false
is_no_format (Some name) = not (bytes_eq name (codes "text") || bytes_eq name (codes "json"))

-- the command that the arguments name, and what is found of its own
abbrev pub command_in : List Text → Option (Text × List Row)
command_in = subcommand_of program

-- this is the command of this name, with what is found of its arguments
abbrev pub IsRead : (name : Text) → List Row → Command → Type 0
IsRead name rows (Serve workers scripts callers explain log format) =
    (name ≡ codes "serve") × (workers_in rows ≡ workers)
    × (texts_in (codes "SCRIPT") rows ≡ map string_bytes scripts.items)
    × (texts_in (codes "caller") rows ≡ map string_bytes callers.items)
    × (has_flag (codes "explain") rows ≡ explain) × (has_flag (codes "log") rows ≡ log)
    × (first_of (codes "log-format") rows ≡ option_map string_bytes format)
IsRead name rows (Replay file) = (name ≡ codes "replay") × (file_in rows ≡ Some (string_bytes file))
IsRead name rows (Asm file output explain) =
    (name ≡ codes "asm") × (file_in rows ≡ Some (string_bytes file))
    × (first_of (codes "output") rows ≡ option_map string_bytes output)
    × (has_flag (codes "explain") rows ≡ explain)
IsRead name rows (Check file list task memory explain) =
    (name ≡ codes "check") × (file_in rows ≡ Some (string_bytes file))
    × (has_flag (codes "list") rows ≡ list) × (has_flag (codes "task") rows ≡ task)
    × (number_in (codes "memory") rows ≡ memory) × (has_flag (codes "explain") rows ≡ explain)
IsRead name rows (Run file args settings explain) =
    (name ≡ codes "run") × (module_in rows ≡ Some (string_bytes file ∷ map string_bytes args.items))
    × (texts_in (codes "env") rows ≡ map string_bytes settings.env.items)
    × (number_in (codes "memory") rows ≡ settings.memory)
    × (has_flag (codes "explain") rows ≡ explain)
IsRead name rows (Show text) = ⊥

-- this is the command that was found
abbrev pub IsCommand : Option (Text × List Row) → Command → Type 0
IsCommand found command = IsSomeAnd found (λ f. IsRead f.0 f.1 command)

-- what is wrong with the arguments, help and version included; empty where nothing is
abbrev pub faults_in : List Text → Kinds
faults_in = fault_of program

-- the arguments ask for help or for the version
abbrev pub AskToShow : List Text → Type 0
AskToShow arguments =
    IsAmong DisplayHelp (faults_in arguments) ⊎ IsAmong DisplayVersion (faults_in arguments)

-- how many workers there are at most
abbrev pub most_workers : ℕ
most_workers = 16

-- a number of workers that there cannot be
abbrev pub is_no_count : ℕ → Bool
is_no_count workers = not (nat_le 1 workers && nat_le workers most_workers)

-- a serve whose workers, whose callers or whose log's format do not fit, or a check with a limit on
-- the memory of a task that is not asked for
abbrev pub is_unfit : Command → Bool
is_unfit (Serve workers scripts callers explain log format) = is_no_count workers
    || are_unfit (map string_bytes scripts.items) (map string_bytes callers.items)
    || is_no_format (option_map string_bytes format)
is_unfit (Check file list task memory explain) = is_some memory && not task
is_unfit other = false

-- the arguments name this command
abbrev pub Name : List Text → Command → Type 0
Name arguments (Show text) = AskToShow arguments
Name arguments command = (faults_in arguments ≡ []) × IsCommand (command_in arguments) command
    × (is_unfit command ≡ false)

-- one of the faults of the arguments is no wish for help or the version
pub record HasFault (arguments : List Text) : Type 0 where
  pub kind : ErrorKind
  pub fault : IsAmong kind (faults_in arguments)
  pub no_help : kind ≢ DisplayHelp
  pub no_version : kind ≢ DisplayVersion

-- this is a command that is unfit
abbrev pub IsUnfit : Option (Text × List Row) → Type 0
IsUnfit found = (command : Command) × IsCommand found command × (is_unfit command ≡ true)

-- the arguments are at fault, unless memory is
abbrev pub AreFaulty : List Text → CommandError → Type 0
AreFaulty arguments OutOfMemory = Unit {0}
AreFaulty arguments (Arguments text) =
    HasFault arguments ⊎ ((faults_in arguments ≡ []) × IsUnfit (command_in arguments))
