-- What a `Front` knows: each of its cells holds its value for good.
use Rattle.std.specs.Prelude.{ℕ, List, [], ◌∷◌, map, Some}
use base.Fml.{Fml, ftrue, fsep}
use denote.RattleType.{RattleType}
use Rattle.once_cell.specs.Once.{noted}

abbrev pub known : (R : RattleType) → List (ℕ × R.Denot) → Fml
known R [] = ftrue
known R (c ∷ cs) = fsep (noted R c.0 (Some c.1)) (known R cs)

-- the names of cells that are known
abbrev pub names_of : {T : Type 0} → List (ℕ × T) → List ℕ
names_of cs = map (λ c. c.0) cs

abbrev pub values_of : {T : Type 0} → List (ℕ × T) → List T
values_of cs = map (λ c. c.1) cs
