-- Lines that are answered one after another, each by one text: the same for a script and for a stream.
use Rattle.std.specs.Prelude.{◌≡◌, ℕ, List, [], ◌∷◌}

module _ {S : Type 0} (IsAnswered : S → (line text : List ℕ) → S → Type 0) where
  abbrev pub Session : S → (lines texts : List (List ℕ)) → S → Type 0
  Session s [] [] s' = s' ≡ s
  Session s (line ∷ lines) (text ∷ texts) s' =
      (mid : S) × IsAnswered s line text mid × Session mid lines texts s'
  Session s lines texts s' = ⊥
