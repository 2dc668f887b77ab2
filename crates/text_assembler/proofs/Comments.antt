-- Comments read two characters at a time.
use Rattle.std.proofs.Common.{◌≡◌, ℕ, ◌+◌, ◌-◌, List, ◌∷◌, true, false, refl}
use Rattle.std.proofs.lemmas.Bool.{ne_eqb}
use Rattle.text_assembler.specs.Tokens.{opens_comment, closes_comment, after_comment}

pub opens :
    (depth c d : ℕ) (cs : List ℕ) → opens_comment c d ≡ true
    → after_comment depth (c ∷ d ∷ cs) ≡ after_comment (depth + 1) cs
unfolding after_comment
opens depth c d cs h = rw h refl

pub closes :
    (depth c d : ℕ) (cs : List ℕ) → opens_comment c d ≡ false → closes_comment c d ≡ true → (depth ≡ 1 → ⊥)
    → after_comment depth (c ∷ d ∷ cs) ≡ after_comment (depth - 1) cs
unfolding after_comment
closes depth c d cs o h ne = rw (o, h, ne_eqb depth 1 ne) refl

pub passes :
    (depth c d : ℕ) (cs : List ℕ) → opens_comment c d ≡ false → closes_comment c d ≡ false
    → after_comment depth (c ∷ d ∷ cs) ≡ after_comment depth (d ∷ cs)
unfolding after_comment
passes depth c d cs o h = rw (o, h) refl
