-- Longest runs of locals, as they are built local by local.
use Rattle.std.proofs.Common.{◌≡◌, ℕ, zero, suc, ◌+◌, ◌<◌, ◌^◌, Bool, true, false, List, [], ◌∷◌, ◌++◌, length, take, replicate, fold, refl, sym, ap, ◌∙◌, append_assoc, cond, arith}
use Rattle.std.proofs.lemmas.List.{append-nil, replicate_more, length-take}
use Rattle.wasm_ast.specs.declared.values.ValType.{ValType}
use Rattle.wasm_ast.specs.Types.{is_same_type}
use Rattle.wasm_ast.proofs.SameTypes.{same_type, itself}
use Rattle.wasm_binary.specs.Grammar.{locals_of}
use Rattle.wasm_binary.specs.Canonical.{add_local, AreLongest, runs_of}

abbrev Run : Type 0
Run = ℕ × ValType

add_at :
    (front : List Run) (run : Run) (t : ValType) → add_local (front ++ run ∷ []) t ≡ front ++ add_local (run ∷ []) t
add_at [] run t = refl
add_at (r ∷ []) run t = refl
add_at (r ∷ s ∷ rs) run t = ap (λ (xs : List Run). r ∷ xs) (add_at (s ∷ rs) run t)

pub same_run :
    (old front new : List Run) (n : ℕ) (u t : ValType) → old ≡ front ++ (n, u) ∷ [] → is_same_type u t ≡ true
    → new ≡ front ++ (n + 1, u) ∷ [] → new ≡ add_local old t
same_run old front new n u t e same f =
    let one : add_local ((n, u) ∷ []) t ≡ (n + 1, u) ∷ [] = rw same refl in
    f ∙ ap (λ (xs : List Run). front ++ xs) (sym one) ∙ sym (add_at front (n, u) t)
    ∙ ap (λ (xs : List Run). add_local xs t) (sym e)

pub new_run :
    (old front mid new : List Run) (n : ℕ) (u t : ValType) → old ≡ front ++ (n, u) ∷ [] → is_same_type u t ≡ false
    → mid ≡ front ++ (n, u) ∷ [] → new ≡ mid ++ (1, t) ∷ [] → new ≡ add_local old t
new_run old front mid new n u t e other f g =
    let one : add_local ((n, u) ∷ []) t ≡ (n, u) ∷ (1, t) ∷ [] = rw other refl in
    g ∙ ap (λ (xs : List Run). xs ++ (1, t) ∷ []) f ∙ append_assoc front ((n, u) ∷ []) ((1, t) ∷ [])
    ∙ ap (λ (xs : List Run). front ++ xs) (sym one) ∙ sym (add_at front (n, u) t)
    ∙ ap (λ (xs : List Run). add_local xs t) (sym e)

locals_case :
    (n : ℕ) (u t : ValType) (b : Bool) → is_same_type u t ≡ b
    → locals_of (cond b ((n + 1, u) ∷ []) ((n, u) ∷ (1, t) ∷ [])) ≡ locals_of ((n, u) ∷ []) ++ t ∷ []
locals_case n u t true e =
    append-nil (replicate (n + 1) u) ∙ sym (replicate_more n u)
    ∙ ap (λ (v : ValType). replicate n u ++ v ∷ []) (same_type u t e)
    ∙ ap (λ (xs : List ValType). xs ++ t ∷ []) (sym (append-nil (replicate n u)))
locals_case n u t false e = ap (λ (xs : List ValType). xs ++ t ∷ []) (sym (append-nil (replicate n u)))

locals_add : (rs : List Run) (t : ValType) → locals_of (add_local rs t) ≡ locals_of rs ++ t ∷ []
locals_add [] t = refl
locals_add (r ∷ []) t = locals_case r.0 r.1 t (is_same_type r.1 t) refl
locals_add (r ∷ s ∷ rs) t =
    ap (λ (xs : List ValType). replicate r.0 r.1 ++ xs) (locals_add (s ∷ rs) t)
    ∙ sym (append_assoc (replicate r.0 r.1) (locals_of (s ∷ rs)) (t ∷ []))

locals_fold : (rs : List Run) (ts : List ValType) → locals_of (fold add_local rs ts) ≡ locals_of rs ++ ts
locals_fold rs [] = sym (append-nil (locals_of rs))
locals_fold rs (t ∷ ts) =
    locals_fold (add_local rs t) ts ∙ ap (λ (xs : List ValType). xs ++ ts) (locals_add rs t)
    ∙ append_assoc (locals_of rs) (t ∷ []) ts

-- the runs are of these locals
pub locals_runs : (ts : List ValType) → locals_of (runs_of ts) ≡ ts
locals_runs ts = locals_fold [] ts

pub few_before :
    (ts : List ValType) (runs : List Run) (i : ℕ) → runs ≡ runs_of (take i ts) → i < length ts → length ts < 2 ^ 64
    → length (locals_of runs) + 1 < 2 ^ 64
few_before ts runs i e lt small =
    omega
    (arith, ap (λ (rs : List Run). length (locals_of rs)) e, ap length (locals_runs (take i ts)), length-take i ts)

-- ---- the only longest runs

other_type : (u t : ValType) (b : Bool) → is_same_type u t ≡ b → (u ≡ t → ⊥) → is_same_type u t ≡ false
other_type u t true e differs = absurd (differs (same_type u t e))
other_type u t false e differs = e

-- locals of the last run's type make it longer
run_grows :
    (front : List Run) (k n : ℕ) (t : ValType) (ts : List ValType)
    → fold add_local (front ++ (k, t) ∷ []) (replicate n t ++ ts) ≡ fold add_local (front ++ (k + n, t) ∷ []) ts
run_grows front k zero t ts =
    let e : k ≡ k + 0 = omega arith in ap (λ (m : ℕ). fold add_local (front ++ (m, t) ∷ []) ts) e
run_grows front k (suc n) t ts =
    let one : add_local ((k, t) ∷ []) t ≡ (k + 1, t) ∷ [] = rw (itself t) refl in
    let grown :
    add_local (front ++ (k, t) ∷ []) t ≡ front ++ (k + 1, t) ∷ [] =
    add_at front (k, t) t ∙ ap (λ (xs : List Run). front ++ xs) one in
    let more : (k + 1) + n ≡ k + suc n = omega arith in
    ap (λ (xs : List Run). fold add_local xs (replicate n t ++ ts)) grown ∙ run_grows front (k + 1) n t ts
    ∙ ap (λ (m : ℕ). fold add_local (front ++ (m, t) ∷ []) ts) more

-- a local of another type begins a run
run_begins : (front : List Run) (run : Run) (n : ℕ) (t : ValType) (ts : List ValType) → (run.1 ≡ t → ⊥) → 0 < n
    → fold add_local (front ++ run ∷ []) (replicate n t ++ ts) ≡ fold add_local ((front ++ run ∷ []) ++ (n, t) ∷ []) ts
run_begins front run zero t ts differs some = absurd (omega arith)
run_begins front run (suc n) t ts differs some =
    let one :
    add_local (run ∷ []) t ≡ run ∷ (1, t) ∷ [] = rw (other_type run.1 t (is_same_type run.1 t) refl differs) refl in
    let begun : add_local (front ++ run ∷ []) t ≡ (front ++ run ∷ []) ++ (1, t) ∷ [] =
    add_at front run t ∙ ap (λ (xs : List Run). front ++ xs) one ∙ sym (append_assoc front (run ∷ []) ((1, t) ∷ [])) in
    let count : 1 + n ≡ suc n = omega arith in
    ap (λ (xs : List Run). fold add_local xs (replicate n t ++ ts)) begun ∙ run_grows (front ++ run ∷ []) 1 n t ts
    ∙ ap (λ (m : ℕ). fold add_local ((front ++ run ∷ []) ++ (m, t) ∷ []) ts) count

runs_follow :
    (front : List Run) (run : Run) (runs : List Run) → AreLongest (run ∷ runs)
    → fold add_local (front ++ run ∷ []) (locals_of runs) ≡ front ++ run ∷ runs
runs_follow front run [] h = refl
runs_follow front run (r ∷ []) h =
    run_begins front run r.0 r.1 [] h.1 h.2 ∙ append_assoc front (run ∷ []) (r ∷ [])
runs_follow front run (r ∷ s ∷ rs) h =
    run_begins front run r.0 r.1 (locals_of (s ∷ rs)) h.1 h.2.0 ∙ runs_follow (front ++ run ∷ []) r (s ∷ rs) h.2
    ∙ append_assoc front (run ∷ []) (r ∷ s ∷ rs)

some_run : (run : Run) (runs : List Run) → AreLongest (run ∷ runs) → 0 < run.0
some_run run [] h = h
some_run run (r ∷ rs) h = h.0

run_first :
    (n : ℕ) (t : ValType) (ts : List ValType) → 0 < n
    → fold add_local [] (replicate n t ++ ts) ≡ fold add_local ((n, t) ∷ []) ts
run_first zero t ts some = absurd (omega arith)
run_first (suc n) t ts some =
    let count : 1 + n ≡ suc n = omega arith in
    run_grows [] 1 n t ts ∙ ap (λ (m : ℕ). fold add_local ((m, t) ∷ []) ts) count

pub only_runs : (runs : List Run) → AreLongest runs → runs_of (locals_of runs) ≡ runs
only_runs [] h = refl
only_runs (run ∷ runs) h = run_first run.0 run.1 (locals_of runs) (some_run run runs h) ∙ runs_follow [] run runs h
