-- Parts read one after the other, as loops do.
use Rattle.std.proofs.Common.{◌≡◌, ℕ, zero, suc, ◌-◌, ◌+◌, ◌≤◌, ◌<◌, List, [], ◌∷◌, ◌++◌, length, Result, Ok, Err, Bool, true, false, ◌==◌, refl, sym, ap, ap₂, ◌∙◌, append_assoc, arith}
use Rattle.std.proofs.lemmas.List.{append-nil}
use Rattle.text_assembler.specs.declared.fault.Fault.{Fault}
use Rattle.text_assembler.specs.declared.fault.Fault.TheVariants.{Malformed, TooDeep}
use Rattle.text_assembler.specs.declared.fault.ReadError.{ReadError}
use Rattle.text_assembler.specs.declared.fault.ReadError.TheVariants as errors
use Rattle.text_assembler.specs.Reading.{Read, ◌>>=◌, read_some, read_parts}
use Rattle.text_assembler.specs.Tokens.{is_empty}
use Rattle.text_assembler.specs.Inside.Answers.{Fails, IsMalformed, with_front}

-- before the first
pub begins : {I X : Type 0} (total : Read I (List X)) → with_front [] total ≡ total
begins (Ok x) = refl
begins (Err f) = refl

pub starts :
    {I X : Type 0} (ends : List I → Bool) (part : List I → Read I (List X)) (input : List I)
    → with_front [] (read_some ends part (length input - 0) input) ≡ read_parts ends part input
unfolding read_parts
starts ends part input =
    let k : length input - 0 ≡ length input = omega arith in
    rw k (begins (read_some ends part (length input) input))

pub starts_after :
    {I X : Type 0} (ends : List I → Bool) (part : List I → Read I (List X)) (front : List X) (input : List I)
    → with_front front (read_some ends part (length input - 0) input) ≡ with_front front (read_parts ends part input)
unfolding read_parts
starts_after ends part front input =
    let k : length input - 0 ≡ length input = omega arith in
    rw k refl

regroup :
    {I X : Type 0} (front added : List X) (read : Read I (List X))
    → with_front front (read >>= λ xs. Ok (added ++ xs.0, xs.1)) ≡ with_front (front ++ added) read
regroup {I} {X} front added (Ok x) = ap (λ (xs : List X). Ok (xs, x.1)) (sym (append_assoc front added x.0))
regroup front added (Err f) = refl

value_or : {Y : Type 0} → Y → Result Y Fault → Y
value_or y (Ok x) = x
value_or y (Err f) = y

goes_by :
    {I X : Type 0} (ends : List I → Bool) (part : List I → Read I (List X)) (n : ℕ) (front : List X)
    (read : Read I (List X)) (out : List X) (after : List I)
    → with_front front read ≡ Ok (out, after)
    → with_front front (read >>= λ x. read_some ends part n x.1 >>= λ xs. Ok (x.0 ++ xs.0, xs.1))
    ≡ with_front out (read_some ends part n after)
unfolding value_or
goes_by {I} {X} ends part n front (Ok x) out after h =
    let one :
    with_front front (read_some ends part n x.1 >>= λ xs. Ok (x.0 ++ xs.0, xs.1))
    ≡ with_front (front ++ x.0) (read_some ends part n x.1) = regroup front x.0 (read_some ends part n x.1) in
    let e : front ++ x.0 ≡ out = ap (λ (r : Read I (List X)). (value_or (out, after) r).0) h in
    let f : x.1 ≡ after = ap (λ (r : Read I (List X)). (value_or (out, after) r).1) h in
    one ∙ ap₂ (λ (o : List X) (a : List I). with_front o (read_some ends part n a)) e f
goes_by ends part n front (Err f) out after h = cc

pub goes_on :
    {I X : Type 0} (ends : List I → Bool) (part : List I → Read I (List X)) (front : List X) (most i : ℕ)
    (input : List I) (out : List X) (after : List I) (total : Read I (List X)) → i < most
    → ends input ≡ false → with_front front (part input) ≡ Ok (out, after)
    → with_front front (read_some ends part (most - i) input) ≡ total
    → with_front out (read_some ends part (most - (i + 1)) after) ≡ total
unfolding read_some
goes_on ends part front most i input out after total lt e h so_far =
    let k : most - i ≡ suc (most - (i + 1)) = omega arith in
    let one :
    with_front front (read_some ends part (most - i) input)
    ≡ with_front out (read_some ends part (most - (i + 1)) after) =
    rw (k, e) (goes_by ends part (most - (i + 1)) front (part input) out after h) in
    sym one ∙ so_far

fails_by :
    {I X : Type 0} (ends : List I → Bool) (part : List I → Read I (List X)) (n : ℕ) (front : List X)
    (read : Read I (List X)) (f : Fault)
    → with_front front read ≡ Err f
    → with_front front (read >>= λ x. read_some ends part n x.1 >>= λ xs. Ok (x.0 ++ xs.0, xs.1)) ≡ Err f
fails_by ends part n front (Ok x) f h = cc
fails_by ends part n front (Err g) f h = h

fails_with :
    {I X : Type 0} (ends : List I → Bool) (part : List I → Read I (List X)) (f : Fault) (front : List X) (most i : ℕ)
    (input : List I) (total : Read I (List X)) → i < most
    → ends input ≡ false → with_front front (part input) ≡ Err f
    → with_front front (read_some ends part (most - i) input) ≡ total → total ≡ Err f
unfolding read_some
fails_with ends part f front most i input total lt e h so_far =
    let k : most - i ≡ suc (most - (i + 1)) = omega arith in
    let one :
    with_front front (read_some ends part (most - i) input) ≡ Err f =
    rw (k, e) (fails_by ends part (most - (i + 1)) front (part input) f h) in
    sym so_far ∙ one

pub fails :
    {I X : Type 0} (ends : List I → Bool) (part : List I → Read I (List X)) (e : ReadError) (front : List X)
    (most i : ℕ) (input : List I) (total : Read I (List X)) → i < most
    → ends input ≡ false → Fails e (with_front front (part input))
    → with_front front (read_some ends part (most - i) input) ≡ total → Fails e total
fails ends part errors.Memory front most i input total lt e h so_far = tt
fails ends part (errors.Malformed left) front most i input total lt e h so_far =
    fails_with ends part Malformed front most i input total lt e h so_far
fails ends part errors.TooDeep front most i input total lt e h so_far =
    fails_with ends part TooDeep front most i input total lt e h so_far

ended :
    {I X : Type 0} (ends : List I → Bool) (part : List I → Read I (List X)) (front : List X) (n : ℕ) (input : List I)
    → ends input ≡ true → with_front front (read_some ends part n input) ≡ Ok (front, input)
unfolding read_some
ended {I} {X} ends part front zero input e = rw e (ap (λ (xs : List X). Ok (xs, input)) (append-nil front))
ended {I} {X} ends part front (suc n) input e = rw e (ap (λ (xs : List X). Ok (xs, input)) (append-nil front))

-- at the end
pub is_done :
    {I X : Type 0} (ends : List I → Bool) (part : List I → Read I (List X)) (front : List X) (n : ℕ) (input : List I)
    (total : Read I (List X)) → ends input ≡ true
    → with_front front (read_some ends part n input) ≡ total → total ≡ Ok (front, input)
is_done ends part front n input total e so_far = sym so_far ∙ ended ends part front n input e

-- where there is no end
pub runs_out :
    {I X : Type 0} (ends : List I → Bool) (part : List I → Read I (List X)) (front : List X) (most i : ℕ)
    (input : List I) (total : Read I (List X)) → most ≤ i → ends input ≡ false
    → with_front front (read_some ends part (most - i) input) ≡ total → total ≡ Err Malformed
unfolding read_some
runs_out ends part front most i input total le e so_far =
    let k : most - i ≡ 0 = omega arith in
    let one : with_front front (read_some ends part (most - i) input) ≡ Err Malformed = rw (k, e) refl in
    sym so_far ∙ one

-- ---- the empty input

pub empty_is : (xs : List ℕ) → true ≡ (length xs == 0) → is_empty xs ≡ true
empty_is [] h = refl
empty_is (x ∷ xs) h = absurd (grind arith)

pub nonempty_is : (xs : List ℕ) → false ≡ (length xs == 0) → is_empty xs ≡ false
nonempty_is [] h = absurd (grind arith)
nonempty_is (x ∷ xs) h = refl

-- a fault of the parts is one of the whole
pub fails_all :
    {I X Y : Type 0} (e : ReadError) (read : Read I X) (f : X × List I → Result Y Fault) → Fails e read
    → Fails e (read >>= f)
fails_all errors.Memory read f h = tt
fails_all (errors.Malformed left) read f h = rw h refl
fails_all errors.TooDeep read f h = rw h refl

-- a fault at another place
pub moved : {Y : Type 0} (e : ReadError) (read : Result Y Fault) → IsMalformed e → read ≡ Err Malformed → Fails e read
moved errors.Memory read m h = absurd m
moved (errors.Malformed left) read m h = h
moved errors.TooDeep read m h = absurd m
