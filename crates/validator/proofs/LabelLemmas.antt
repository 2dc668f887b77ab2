-- Labels of which it is noted that they take the same types.
use Rattle.std.proofs.Common.{◌≡◌, ◌≤◌, ◌<◌, ◌⊎◌, inl, inr, ℕ, zero, suc, Bool, true, List, [], ◌∷◌, length, Some, refl, sym, subst, ap, ◌∙◌, arith}
use Rattle.std.specs.Prelude.{slice_get, slice_set, option_map}
use Rattle.std.proofs.lemmas.Option.{slice_get-map}
use Rattle.wasm_ast.specs.declared.values.ValType.{ValType}
use Rattle.validator.specs.declared.labels.Label.{Label}
use Rattle.validator.specs.Inside.Labels.{taken_by, AreAlike, HaveSameTypes}
use Rattle.wasm_ast.specs.Types.{are_same_types}
use Rattle.wasm_ast.proofs.SameTypes.{same_types, themselves}

label_at : (ls : List Label) (k : ℕ) → k < length ls → (l : Label) × (slice_get ls k ≡ Some l)
label_at [] k within = absurd (omega (arith, within))
label_at (l ∷ ls) zero within = (l, refl)
label_at (l ∷ ls) (suc k) within = label_at ls k (omega (arith, within))

-- the types of a label that is there
pub types_there : (ls : List Label) (k : ℕ) (l : Label) → slice_get ls k ≡ Some l
    → slice_get (taken_by ls) k ≡ Some l.types
types_there ls k l there =
    slice_get-map (λ (l : Label). l.types) ls k ∙ ap (option_map (λ (l : Label). l.types)) there

-- the label whose types are there
pub label_there : (ls : List Label) (k : ℕ) (ts : List ValType) → slice_get (taken_by ls) k ≡ Some ts
    → (l : Label) × (slice_get ls k ≡ Some l) × (l.types ≡ ts)
label_there [] k ts there = cc
label_there (l ∷ ls) zero ts there = (l, refl, cc)
label_there (l ∷ ls) (suc k) ts there = label_there ls k ts there

-- labels that are there and take the same types
pub compared : (ls : List Label) (k other : ℕ) → k < length ls → other < length ls
    → HaveSameTypes ls k other true → slice_get (taken_by ls) k ≡ slice_get (taken_by ls) other
compared ls k other within within' same =
    let l = label_at ls k within in
    let m = label_at ls other within' in
    let ts = types_there ls k l.0 l.1 in
    let us = types_there ls other m.0 m.1 in
    ts ∙ (ap Some (sym (same_types m.0.types l.0.types (sym (same l.0.types m.0.types ts us)))) ∙ sym us)

-- labels of which that is known are told to be the same
pub told_same : (ls : List Label) (k other : ℕ) → slice_get (taken_by ls) k ≡ slice_get (taken_by ls) other
    → HaveSameTypes ls k other true
told_same ls k other same = λ ts us first second.
    let e : ts ≡ us = some_same ts us (sym first ∙ (same ∙ second)) in
    subst (λ vs. true ≡ are_same_types vs ts) e (sym (themselves ts)) where
      some_same : (ts us : List ValType) → Some ts ≡ Some us → ts ≡ us
      some_same ts us e = cc

-- the same of two labels by the outermost ones that they are known to be like
pub roots : (slice items : List Label) (first index second other : ℕ) (same : Bool) → slice ≡ items → first ≤ index
    → second ≤ other → index < length items → other < length items → HaveSameTypes slice first second same
    → same ≡ true → slice_get (taken_by items) first ≡ slice_get (taken_by items) second
roots slice items first index second other same is within within' inside inside' told alike =
    compared items first second (omega (arith, within, inside)) (omega (arith, within', inside'))
    (subst (λ b. HaveSameTypes items first second b) alike
    (subst (λ ls. HaveSameTypes ls first second same) is told))

pub rooted : (slice items : List Label) (root index : ℕ) → slice ≡ items
    → slice_get (taken_by slice) root ≡ slice_get (taken_by slice) index
    → slice_get (taken_by items) root ≡ slice_get (taken_by items) index
rooted slice items root index is same =
    subst (λ ls. slice_get (taken_by ls) root ≡ slice_get (taken_by ls) index) is same

-- what a label takes stays if another is named
pub types_stay : (ls : List Label) (i a : ℕ) (l : Label) → slice_get ls i ≡ Some l
    → taken_by (slice_set ls i (record { types = l.types; alike = a })) ≡ taken_by ls
types_stay [] i a l there = refl
types_stay (x ∷ ls) zero a l there =
    let same : x ≡ l = cc in ap (λ (y : Label). y.types ∷ taken_by ls) (sym same)
types_stay (x ∷ ls) (suc i) a l there = ap (λ ts. x.types ∷ ts) (types_stay ls i a l there)

-- a label is the one that was set, or as before
either : (ls : List Label) (i k : ℕ) (x l : Label) → slice_get (slice_set ls i x) k ≡ Some l
    → ((k ≡ i) × (l ≡ x)) ⊎ (slice_get ls k ≡ Some l)
either [] i k x l there = inr there
either (y ∷ ls) zero zero x l there = inl (refl, cc)
either (y ∷ ls) zero (suc k) x l there = inr there
either (y ∷ ls) (suc i) zero x l there = inr there
either (y ∷ ls) (suc i) (suc k) x l there = later (either ls i k x l there) where
  later : ((k ≡ i) × (l ≡ x)) ⊎ (slice_get ls k ≡ Some l)
      → ((suc k ≡ suc i) × (l ≡ x)) ⊎ (slice_get ls k ≡ Some l)
  later (inl both) = inl (ap suc both.0, both.1)
  later (inr there) = inr there

module _ (ls : List Label) (i a : ℕ) (l : Label) (there : slice_get ls i ≡ Some l) where
  abbrev pub now : List Label
  now = slice_set ls i (record { types = l.types; alike = a })

  -- the one that is named is there, with the same types
  named : (k : ℕ) (ts : List ValType) → slice_get (taken_by ls) k ≡ Some ts
      → (m : Label) × (slice_get now k ≡ Some m) × (m.types ≡ ts)
  named k ts old =
      label_there now k ts (ap (λ ts. slice_get ts k) (types_stay ls i a l there) ∙ old)

  pub alike_set : AreAlike ls → a ≤ i → slice_get (taken_by ls) a ≡ slice_get (taken_by ls) i → AreAlike now
  alike_set alike within same = λ k m at. found k m (either ls i k (record { types = l.types; alike = a }) m at) where
    found : (k : ℕ) (m : Label)
        → ((k ≡ i) × (m ≡ record { types = l.types; alike = a })) ⊎ (slice_get ls k ≡ Some m)
        → (m.alike ≤ k) × (n : Label) × (slice_get now m.alike ≡ Some n) × (n.types ≡ m.types)
    found k m (inl both) =
        subst (λ (m : Label). (m.alike ≤ k) × (n : Label) × (slice_get now m.alike ≡ Some n) × (n.types ≡ m.types))
        (sym both.1)
        (let n = named a l.types (same ∙ types_there ls i l there) in
        (subst (λ k. a ≤ k) (sym both.0) within, n.0, n.1, n.2))
    found k m (inr old) =
        let is = alike k m old in
        let n = named m.alike m.types (types_there ls m.alike is.1 is.2 ∙ ap Some is.3) in
        (is.0, n.0, n.1, n.2)
