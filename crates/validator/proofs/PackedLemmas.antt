-- Lists of types with eight types in a byte.
use Rattle.std.proofs.Common.{◌≡◌, ◌≤◌, ◌<◌, ◌⊎◌, inl, inr, ◌+◌, ◌-◌, ◌*◌, ◌/◌, ◌%◌, ℕ, zero, suc, length, List, [], ◌∷◌, ◌++◌, take, drop, get_or, Some, refl, sym, ap, subst, ◌∙◌, arith}
use Rattle.std.specs.Prelude.{slice_get}
use Rattle.std.proofs.lemmas.Bool.{cases_lt}
use Rattle.std.proofs.lemmas.List.{take_rest, drop-drop, drop_all, take-append-drop, take-append-le, drop-append-le, length-append, length-take-le, length-drop}
use Rattle.wasm_ast.specs.declared.values.ValType.{ValType}
use Rattle.wasm_ast.specs.declared.values.ValType.TheVariants.{I32, I64}
use Rattle.wasm_ast.specs.declared.values.FuncType.{FuncType}
use Rattle.validator.specs.declared.packed.PackedParams.{PackedParams}
use Rattle.validator.specs.Inside.Packed.{packed, IsRow, AreRows, AreOfType, AreOfTypes}

-- ---- one byte

pub same_packed : (ts us : List ValType) → length ts ≡ length us → packed ts ≡ packed us → ts ≡ us
same_packed [] [] count h = refl
same_packed [] (u ∷ us) count h = cc
same_packed (t ∷ ts) [] count h = cc
same_packed (I32 ∷ ts) (I32 ∷ us) count h =
    ap (λ (vs : List ValType). I32 ∷ vs) (same_packed ts us (omega (arith, count)) (omega (arith, h)))
same_packed (I32 ∷ ts) (I64 ∷ us) count h = absurd (omega (arith, h))
same_packed (I64 ∷ ts) (I32 ∷ us) count h = absurd (omega (arith, h))
same_packed (I64 ∷ ts) (I64 ∷ us) count h =
    ap (λ (vs : List ValType). I64 ∷ vs) (same_packed ts us (omega (arith, count)) (omega (arith, h)))

pub two_halves : (ts : List ValType) → 4 ≤ length ts
    → packed (take 8 ts) ≡ packed (take 4 ts) + 16 * packed (take 4 (drop 4 ts))
two_halves [] h = absurd (omega (arith, h))
two_halves (a ∷ []) h = absurd (omega (arith, h))
two_halves (a ∷ b ∷ []) h = absurd (omega (arith, h))
two_halves (a ∷ b ∷ c ∷ []) h = absurd (omega (arith, h))
two_halves (a ∷ b ∷ c ∷ d ∷ ts) h = omega arith

-- ---- a row

row_of_none : (bytes : List ℕ) → IsRow bytes []
row_of_none [] = tt
row_of_none (b ∷ bytes) = ((λ h. absurd (omega (arith, h))), row_of_none bytes)

after_front : (bytes : List ℕ) (ts us : List ValType)
    → ((vs : List ValType) → IsRow bytes (vs ++ us) → IsRow bytes vs) → IsRow bytes (drop 8 (ts ++ us))
    → (length ts < 8) ⊎ (8 ≤ length ts) → IsRow bytes (drop 8 ts)
after_front bytes ts us inner row (inl few) =
    subst (IsRow bytes) (sym (drop_all 8 ts (omega (arith, few)))) (row_of_none bytes)
after_front bytes ts us inner row (inr some) =
    inner (drop 8 ts) (subst (IsRow bytes) (drop-append-le 8 ts us some) row)

row_of_front : (bytes : List ℕ) (ts us : List ValType) → IsRow bytes (ts ++ us) → IsRow bytes ts
row_of_front [] ts us row = tt
row_of_front (b ∷ bytes) ts us row = (
  (λ h. row.0 (omega (arith, h, length-append ts us)) ∙ ap packed (take-append-le 8 ts us h)),
  after_front bytes ts us (λ vs. row_of_front bytes vs us) row.1 (cases_lt (length ts) 8),
)

pub next_one : (n : ℕ) (ts : List ValType) → drop n (drop 1 ts) ≡ drop (suc n) ts
next_one n ts =
    let more : 1 + n ≡ suc n = omega arith in
    drop-drop n 1 ts ∙ ap (λ k. drop k ts) more

next_eight : (k : ℕ) (ts : List ValType) → drop (8 * k) (drop 8 ts) ≡ drop (8 * suc k) ts
next_eight k ts =
    let more : 8 + 8 * k ≡ 8 * suc k = omega arith in
    drop-drop (8 * k) 8 ts ∙ ap (λ n. drop n ts) more

pub row_after : (k : ℕ) (bytes : List ℕ) (ts : List ValType) → IsRow bytes ts
    → IsRow (drop k bytes) (drop (8 * k) ts)
row_after zero bytes ts row = row
row_after (suc k) [] ts row = tt
row_after (suc k) (b ∷ bytes) ts row =
    subst (IsRow (drop k bytes)) (next_eight k ts) (row_after k bytes (drop 8 ts) row.1)

pub row_before : (n : ℕ) (bytes : List ℕ) (ts : List ValType) → IsRow bytes ts → IsRow (take n bytes) ts
row_before zero bytes ts row = tt
row_before (suc n) [] ts row = tt
row_before (suc n) (b ∷ bytes) ts row = (row.0, row_before n bytes (drop 8 ts) row.1)

-- lists with the same row that end alike are the same
pub same_rows : (bytes : List ℕ) (ts us : List ValType) → IsRow bytes ts → IsRow bytes us
    → length ts ≡ length us → 8 * length bytes ≤ length ts
    → drop (8 * length bytes) ts ≡ drop (8 * length bytes) us → ts ≡ us
same_rows [] ts us row other count fits rest = rest
same_rows (b ∷ bytes) ts us row other count fits rest =
    let some : 8 ≤ length ts = omega (arith, fits) in
    let many : 8 ≤ length us = omega (arith, some, count) in
    let first : take 8 ts ≡ take 8 us =
    same_packed (take 8 ts) (take 8 us) (length-take-le 8 ts some ∙ sym (length-take-le 8 us many))
    (sym (row.0 some) ∙ other.0 many) in
    let others : drop 8 ts ≡ drop 8 us =
    same_rows bytes (drop 8 ts) (drop 8 us) row.1 other.1
    (omega (arith, length-drop 8 ts, length-drop 8 us, count)) (omega (arith, length-drop 8 ts, fits))
    (next_eight (length bytes) ts ∙ (rest ∙ sym (next_eight (length bytes) us))) in
    sym (take-append-drop 8 ts)
    ∙ (ap (λ (vs : List ValType). vs ++ drop 8 ts) first
    ∙ (ap (λ (vs : List ValType). take 8 us ++ vs) others ∙ take-append-drop 8 us))

pub row_pushed : (bytes : List ℕ) (b : ℕ) (ts : List ValType) → IsRow bytes ts
    → b ≡ packed (take 8 (drop (8 * length bytes) ts)) → IsRow (bytes ++ (b ∷ [])) ts
row_pushed [] b ts row is = ((λ h. is), tt)
row_pushed (c ∷ bytes) b ts row is = (
  row.0,
  row_pushed bytes b (drop 8 ts) row.1
      (is ∙ ap (λ (vs : List ValType). packed (take 8 vs)) (sym (next_eight (length bytes) ts))),
)

-- ---- rows

rows_of_none : (rows : List (List ℕ)) → AreRows rows []
rows_of_none [] = tt
rows_of_none (row ∷ rows) = (row_of_none row, rows_of_none rows)

rows_of_list : (rows : List (List ℕ)) (ts us : List ValType) → AreRows rows (ts ++ us) → AreRows rows ts
rows_of_list [] ts us h = tt
rows_of_list (row ∷ rows) [] us h = (row_of_none row, rows_of_none rows)
rows_of_list (row ∷ rows) (t ∷ ts) us h = (row_of_front row (t ∷ ts) us h.0, rows_of_list rows ts us h.1)

pub rows_of_front : (rows : List (List ℕ)) (n : ℕ) (ts : List ValType) → AreRows rows ts → AreRows rows (take n ts)
rows_of_front rows n ts h =
    rows_of_list rows (take n ts) (drop n ts) (subst (AreRows rows) (sym (take-append-drop n ts)) h)

pub row_at : (rows : List (List ℕ)) (n : ℕ) (ts : List ValType) (row : List ℕ) → AreRows rows ts
    → slice_get rows n ≡ Some row → IsRow row (drop n ts)
row_at [] n ts row h is = cc
row_at (first ∷ rows) zero ts row h is =
    let same : first ≡ row = cc in
    subst (λ (bytes : List ℕ). IsRow bytes ts) same h.0
row_at (first ∷ rows) (suc n) ts row h is =
    subst (IsRow row) (next_one n ts) (row_at rows n (drop 1 ts) row h.1 is)

pub rows_pushed : (rows : List (List ℕ)) (row : List ℕ) (ts : List ValType) → AreRows rows ts
    → IsRow row (drop (length rows) ts) → AreRows (rows ++ (row ∷ [])) ts
rows_pushed [] row ts h is = (is, tt)
rows_pushed (first ∷ rows) row ts h is =
    (h.0, rows_pushed rows row (drop 1 ts) h.1 (subst (IsRow row) (sym (next_one (length rows) ts)) is))

pub rows_there : (types : List FuncType) (ps : List PackedParams) (i n : ℕ) (p : PackedParams) (t : FuncType)
    → AreOfTypes types ps → i < length ps → p ≡ get_or ps i p → p.of ≡ n → slice_get types n ≡ Some t
    → AreRows p.rows.items t.params
rows_there types ps i n p t all within at of is =
    let here : AreOfType types p = subst (AreOfType types) (sym at) (all i p within) in
    let both : Some here.0 ≡ Some t = sym here.1 ∙ (ap (slice_get types) of ∙ is) in
    let same : here.0 ≡ t = cc in
    subst (λ (u : FuncType). AreRows p.rows.items u.params) same here.2

-- bytes of a row, from one on and n of them
pub row_between : (rows : List (List ℕ)) (row : List ℕ) (at n : ℕ) (ts : List ValType) → AreRows rows ts
    → slice_get rows (at % 8) ≡ Some row → IsRow (take n (drop (at / 8) row)) (drop at ts)
row_between rows row at n ts h is =
    let whole = row_after (at / 8) row (drop (at % 8) ts) (row_at rows (at % 8) ts row h is) in
    let place : at % 8 + 8 * (at / 8) ≡ at = omega arith in
    let same = drop-drop (8 * (at / 8)) (at % 8) ts ∙ ap (λ k. drop k ts) place in
    row_before n (drop (at / 8) row) (drop at ts) (subst (IsRow (drop (at / 8) row)) same whole)

-- what follows n types, as the code has it
pub same_rest : (ts us : List ValType) (at from n k : ℕ) → n ≡ k
    → take (length ts - (at + k)) (drop (at + k) ts) ≡ take (length us - (from + k)) (drop (from + k) us)
    → drop n (drop at ts) ≡ drop n (drop from us)
same_rest ts us at from n k count same =
    let rest : drop (at + k) ts ≡ drop (from + k) us =
    sym (take_rest ts (at + k)) ∙ (same ∙ take_rest us (from + k)) in
    drop-drop n at ts
    ∙ (ap (λ m. drop (at + m) ts) count
    ∙ (rest ∙ (ap (λ m. drop (from + m) us) (sym count) ∙ sym (drop-drop n from us))))
