-- How what a function returned answers what reading gives.
use Rattle.std.specs.Prelude.{◌≡◌, List, ◌++◌, Result, Ok, Err, Option, Some, None}
use Rattle.text_assembler.specs.declared.fault.Fault.{Fault}
use Rattle.text_assembler.specs.declared.fault.Fault.TheVariants.{Malformed, TooDeep}
use Rattle.text_assembler.specs.declared.fault.ReadError.{ReadError}
use Rattle.text_assembler.specs.declared.fault.ReadError.TheVariants as errors
use Rattle.text_assembler.specs.Reading.{Read, ◌>>=◌}

-- the fault is that of reading, wherever it is placed, unless memory ran out
abbrev pub Fails : {Y : Type 0} → ReadError → Result Y Fault → Type 0
Fails errors.Memory read = Unit {0}
Fails (errors.Malformed left) read = read ≡ Err Malformed
Fails errors.TooDeep read = read ≡ Err TooDeep

-- nothing is denoted, wherever the fault is placed
abbrev pub IsMalformed : ReadError → Type 0
IsMalformed (errors.Malformed left) = Unit {0}
IsMalformed other = ⊥

-- what was returned, seen by view, is what reading gives, unless memory ran out
abbrev pub Gives : {X Y : Type 0} → (X → Y) → Result X ReadError → Result Y Fault → Type 0
Gives view (Ok x) read = read ≡ Ok (view x)
Gives view (Err e) read = Fails e read

-- what was found, seen by view, is what reading gives
abbrev pub Finds : {X Y : Type 0} → (X → Y) → Option X → Result Y Fault → Type 0
Finds view (Some x) read = read ≡ Ok (view x)
Finds view None read = read ≡ Err Malformed

-- what reading gives, after what is there already
abbrev pub with_front : {I X : Type 0} → List X → Read I (List X) → Read I (List X)
with_front front read = read >>= λ x. Ok (front ++ x.0, x.1)
