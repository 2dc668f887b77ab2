-- How a text is read from the front: one part after the other, up to the first fault.
use Rattle.std.specs.Prelude.{ℕ, zero, suc, List, [], ◌++◌, length, Result, Ok, Err, Bool, if◌then◌else◌}
use Rattle.text_assembler.specs.declared.fault.Fault.{Fault}
use Rattle.text_assembler.specs.declared.fault.Fault.TheVariants.{Malformed}

-- an X, and what follows it
abbrev pub Read : (I X : Type 0) → Type 0
Read I X = Result (X × List I) Fault

infixl 10 ◌>>=◌
abbrev pub ◌>>=◌ : {A B : Type 0} → Result A Fault → (A → Result B Fault) → Result B Fault
(Ok x) >>= f = f x
(Err e) >>= f = Err e

-- nothing is denoted if the test fails
abbrev pub need : {A : Type 0} → Bool → Result A Fault → Result A Fault
need b read = if b then read else Err Malformed

-- parts up to an end, and what each of them gives joined; at most this many
unfoldable pub read_some :
    {I X : Type 0} → (ends : List I → Bool) → (part : List I → Read I (List X)) →
    (most : ℕ) → List I → Read I (List X)
read_some ends part zero input = need (ends input) (Ok ([], input))
read_some ends part (suc n) input =
    if ends input then Ok ([], input)
    else (part input >>= λ x. read_some ends part n x.1 >>= λ xs. Ok (x.0 ++ xs.0, xs.1))

-- parts up to an end: as each has at least one item of the input, no more than there are items
unfoldable pub read_parts :
    {I X : Type 0} → (ends : List I → Bool) → (part : List I → Read I (List X)) →
    List I → Read I (List X)
read_parts ends part input = read_some ends part (length input) input
