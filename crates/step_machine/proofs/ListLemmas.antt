-- An element of a list of which something holds throughout.
use Rattle.std.proofs.Common.{◌≡◌, ℕ, zero, suc, List, [], ◌∷◌, All, Some, subst}
use Rattle.std.specs.Prelude.{slice_get}
use Rattle.std.proofs.lemmas.List.Elements.{All-head, All-tail}

pub element : {X : Type 0} (P : X → Type 0) (xs : List X) (k : ℕ) (x : X) → All P xs → slice_get xs k ≡ Some x → P x
element P [] k x h e = cc
element P (y ∷ ys) zero x h e = let same : y ≡ x = cc in subst P same (All-head P y ys h)
element P (y ∷ ys) (suc k) x h e = element P ys k x (All-tail P y ys h) e
