-- Beginnings of lists.
use Rattle.std.specs.Prelude.{◌≡◌, ◌++◌, List}

-- the second list begins with the first
abbrev pub Begins : {A : Type 0} → List A → List A → Type 0
Begins {A} xs ys = (rest : List A) × (xs ++ rest ≡ ys)
