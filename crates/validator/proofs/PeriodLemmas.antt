-- Bytes that are there again after a period.
use Rattle.std.proofs.Common.{◌≡◌, ◌≤◌, ◌<◌, ◌⊎◌, inl, inr, ◌+◌, ◌-◌, ℕ, zero, suc, length, List, take, drop, get_or, get_or-take, get_or-drop, ext_get_or, sym, ap, ◌∙◌, arith}
use Rattle.std.proofs.lemmas.Bool.{cases_lt}
use Rattle.std.proofs.lemmas.List.{length-take, length-drop, take_rest}
use Rattle.validator.specs.Inside.Periods.{Repeats}

at_place : (bytes : List ℕ) (d m n : ℕ) → m ≡ n → get_or bytes m d ≡ get_or bytes n d
at_place bytes d m n same = ap (λ k. get_or bytes k d) same

-- 0 says nothing
pub not_known : (bytes : List ℕ) → Repeats 0 bytes
not_known bytes = λ i d within. at_place bytes d (0 + i) i (omega arith)

-- the bytes from the period on are the first ones
pub again : (period : ℕ) (bytes : List ℕ)
    → take (length bytes - period) (drop period bytes) ≡ take (length bytes - period) bytes
    → Repeats period bytes
again period bytes same = λ i d within.
    let rest : drop period bytes ≡ take (length bytes - period) bytes = sym (take_rest bytes period) ∙ same in
    sym (get_or-drop period bytes i d)
    ∙ (ap (λ (bs : List ℕ). get_or bs i d) rest
    ∙ get_or-take (length bytes - period) bytes i d (omega (arith, within)))

pub part_repeats : (period first count : ℕ) (bytes : List ℕ) → Repeats period bytes
    → Repeats period (take count (drop first bytes))
part_repeats period first count bytes repeats = λ i d within.
    let rest = drop first bytes in
    let taken = length-take count rest in
    let left = length-drop first bytes in
    let there : period + i < count = omega (arith, within, taken) in
    let in_bytes : period + (first + i) < length bytes = omega (arith, within, taken, left) in
    get_or-take count rest (period + i) d there
    ∙ (get_or-drop first bytes (period + i) d
    ∙ (at_place bytes d (first + (period + i)) (period + (first + i)) (omega arith)
    ∙ (repeats (first + i) d in_bytes
    ∙ (sym (get_or-drop first bytes i d) ∙ sym (get_or-take count rest i d (omega (arith, there)))))))

-- ---- bytes with one period that begin alike are the same

same_either : (period : ℕ) (bytes others : List ℕ) (i d : ℕ) → Repeats period bytes → Repeats period others
    → length bytes ≡ length others → take period bytes ≡ take period others → i < length bytes
    → (period ≤ i → get_or bytes (i - period) d ≡ get_or others (i - period) d)
    → (i < period) ⊎ (period ≤ i) → get_or bytes i d ≡ get_or others i d
same_either period bytes others i d repeats other count begin within before (inl early) =
    sym (get_or-take period bytes i d early)
    ∙ (ap (λ (bs : List ℕ). get_or bs i d) begin ∙ get_or-take period others i d early)
same_either period bytes others i d repeats other count begin within before (inr late) =
    let place : period + (i - period) ≡ i = omega (arith, late) in
    at_place bytes d i (period + (i - period)) (sym place)
    ∙ (repeats (i - period) d (omega (arith, within, place))
    ∙ (before late
    ∙ (sym (other (i - period) d (omega (arith, within, count, place)))
    ∙ at_place others d (period + (i - period)) i place)))

same_at : (n period : ℕ) (bytes others : List ℕ) (i d : ℕ) → 0 < period → Repeats period bytes
    → Repeats period others → length bytes ≡ length others → take period bytes ≡ take period others → i < n
    → i < length bytes → get_or bytes i d ≡ get_or others i d
same_at zero period bytes others i d some repeats other count begin few within = absurd (omega (arith, few))
same_at (suc n) period bytes others i d some repeats other count begin few within =
    same_either period bytes others i d repeats other count begin within
    (λ late.
    same_at n period bytes others (i - period) d some repeats other count begin (omega (arith, some, few, late))
    (omega (arith, within)))
    (cases_lt i period)

pub same_bytes : (period : ℕ) (bytes others : List ℕ) → 0 < period
    → Repeats period bytes → Repeats period others
    → length bytes ≡ length others → take period bytes ≡ take period others → bytes ≡ others
same_bytes period bytes others some repeats other count begin =
    ext_get_or 0 bytes others count
    (λ i within. same_at (length bytes) period bytes others i 0 some repeats other count begin within within)
