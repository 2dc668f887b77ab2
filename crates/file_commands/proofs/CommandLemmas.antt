-- The program's command line, and what was found of its arguments.
use Rattle.std.proofs.Common.{◌≡◌, ◌⊎◌, ◌≤◌, ℕ, nat_le, List, [], ◌∷◌, map, codes, string_bytes, Option, Some, None, Bool, true, false, not, ◌&&◌, ◌||◌, refl, ap, subst, inl, inr, arith}
use Rattle.std.proofs.lemmas.Bool.{and_parts}
use Rattle.std.proofs.lemmas.Bool.Decides.{nat_tests}
use Rattle.clap.specs.Faults.{is_simple_and_free}
use Rattle.clap.specs.Kinds.{IsAmong}
use Rattle.clap.specs.Simple.{is_simple}
use Rattle.clap.specs.Walk.{Row, Text}
use Rattle.clap.specs.declared.error.kind.ErrorKind.{ErrorKind}
use Rattle.clap.specs.declared.error.kind.ErrorKind.TheVariants.{OutOfMemory}
use Rattle.clap.proofs.OnLiterals.{clap_on_literals}
use Rattle.file_commands.specs.Command.{program, command_in, faults_in, is_unfit, is_no_count, most_workers, file_in, module_in, IsUnfit, IsCommand, Name, AreFaulty}
use Rattle.file_commands.specs.Inside.Chosen.{IsShown, IsRefusedFor, IsOfArguments}
use Rattle.file_commands.specs.declared.command.Command.{Command}
use Rattle.file_commands.specs.declared.command.Command.TheVariants.{Serve, Replay, Asm, Check, Run, Show}
use Rattle.file_commands.specs.declared.command.CommandError.{CommandError}
use Rattle.file_commands.specs.declared.command.CommandError.TheVariants as failed

pub program_is_simple : is_simple program ≡ true
unfolding clap_on_literals
program_is_simple = refl

pub program_is_free : is_simple_and_free program ≡ true
unfolding clap_on_literals
program_is_free = refl

pub named_from_chosen :
    (arguments : List Text) (found : Option (Text × List Row)) → found ≡ command_in arguments → faults_in arguments ≡ []
    → (c : Command) → IsCommand found c × (is_unfit c ≡ false) → Name arguments c
named_from_chosen arguments found e none (Serve workers scripts callers explain log format) (h, complete) =
    (none, subst (λ f. IsCommand f (Serve workers scripts callers explain log format)) e h, complete)
named_from_chosen arguments found e none (Replay file) (h, complete) =
    (none, subst (λ f. IsCommand f (Replay file)) e h, complete)
named_from_chosen arguments found e none (Asm file output explain) (h, complete) =
    (none, subst (λ f. IsCommand f (Asm file output explain)) e h, complete)
named_from_chosen arguments found e none (Check file list task memory explain) (h, complete) =
    (none, subst (λ f. IsCommand f (Check file list task memory explain)) e h, complete)
named_from_chosen arguments found e none (Run name args settings explain) (h, complete) =
    (none, subst (λ f. IsCommand f (Run name args settings explain)) e h, complete)
named_from_chosen arguments None e none (Show text) (h, complete) = absurd h
named_from_chosen arguments (Some f) e none (Show text) (h, complete) = absurd h

pub named_from_shown :
    (arguments : List Text) (kind : ErrorKind) → (kind ≡ OutOfMemory) ⊎ IsAmong kind (faults_in arguments)
    → (c : Command) → IsShown kind c → Name arguments c
named_from_shown arguments kind (inl memory) (Show text) (inl help) = cc
named_from_shown arguments kind (inl memory) (Show text) (inr version) = cc
named_from_shown arguments kind (inr among) (Show text) (inl help) =
    inl (subst (λ k. IsAmong k (faults_in arguments)) help among)
named_from_shown arguments kind (inr among) (Show text) (inr version) =
    inr (subst (λ k. IsAmong k (faults_in arguments)) version among)
named_from_shown arguments kind h _ shown = absurd shown

pub faulty_from_kind :
    (arguments : List Text) (kind : ErrorKind) → (kind ≡ OutOfMemory) ⊎ IsAmong kind (faults_in arguments)
    → (f : CommandError) → IsOfArguments kind f → AreFaulty arguments f
faulty_from_kind arguments kind h failed.OutOfMemory g = tt
faulty_from_kind arguments kind (inl memory) (failed.Arguments text) g = absurd (g.0 memory)
faulty_from_kind arguments kind (inr among) (failed.Arguments text) g =
    inl (record { kind = kind; fault = among; no_help = g.1; no_version = g.2 })

pub faulty_from_unfit :
    (arguments : List Text) (found : Option (Text × List Row)) → found ≡ command_in arguments → faults_in arguments ≡ []
    → (f : CommandError) → IsRefusedFor found f → AreFaulty arguments f
faulty_from_unfit arguments found e none failed.OutOfMemory h = tt
faulty_from_unfit arguments found e none (failed.Arguments text) h = inr (none, subst IsUnfit e h)

-- ---- what a command takes

first_false : (a b : Bool) → (a || b) ≡ false → a ≡ false
first_false true b h = cc
first_false false b h = refl

not_false : (a : Bool) → not a ≡ false → a ≡ true
not_false true h = refl
not_false false h = cc

pub workers_within : (n : ℕ) (a b : Bool) → (is_no_count n || a || b) ≡ false → (1 ≤ n) × (n ≤ most_workers)
workers_within n a b h =
    let fits = first_false (is_no_count n) a (first_false (is_no_count n || a) b h) in
    let within = not_false (nat_le 1 n && nat_le n most_workers) fits in
    let both = and_parts (nat_le 1 n) (nat_le n most_workers) within in
    let low = both.0 in
    let high = both.1 in
    (grind (arith, nat_tests, low), grind (arith, nat_tests, high))

-- the command that was found, and what is found of its arguments
abbrev Takes : {X : Type 0} → Option (Text × List Row) → (name : Text) → (List Row → Option X) → X → Type 0
Takes found name of x = (rows : List Row) × (found ≡ Some (name, rows)) × (of rows ≡ Some x)

abbrev pub TakesFile : Option (Text × List Row) → Command → Type 0
TakesFile found (Replay file) = Takes found (codes "replay") file_in (string_bytes file)
TakesFile found (Asm file output explain) = Takes found (codes "asm") file_in (string_bytes file)
TakesFile found (Check file list task memory explain) = Takes found (codes "check") file_in (string_bytes file)
TakesFile found (Run name args settings explain) =
    Takes found (codes "run") module_in (string_bytes name ∷ map string_bytes args.items)
TakesFile found other = Unit {0}

pub takes_file : (found : Option (Text × List Row)) (c : Command) → IsCommand found c → TakesFile found c
takes_file None c h = absurd h
takes_file (Some f) (Serve workers scripts callers explain log format) h = tt
takes_file (Some f) (Replay file) (named, is) = (f.1, ap (λ (n : Text). Some (n, f.1)) named, is)
takes_file (Some f) (Asm file output explain) (named, is, out, told) = (f.1, ap (λ (n : Text). Some (n, f.1)) named, is)
takes_file (Some f) (Check file list task memory explain) (named, is, listed, tasked, limit, told) =
    (f.1, ap (λ (n : Text). Some (n, f.1)) named, is)
takes_file (Some f) (Run name args settings explain) (named, is, entries, limit, told) =
    (f.1, ap (λ (n : Text). Some (n, f.1)) named, is)
takes_file (Some f) (Show text) h = absurd h
