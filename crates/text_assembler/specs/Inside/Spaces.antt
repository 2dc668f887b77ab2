-- How names are found in index spaces.
use Rattle.std.specs.Prelude.{◌≡◌, ℕ, Option}
use Rattle.std.specs.BTreeMap.{get_by}
use Rattle.std.specs.Cmp.Lexicographic.{slice_cmp}
use Rattle.std.specs.Ordering.{nat_cmp}
use Rattle.text_assembler.specs.declared.places.Places.{Places}
use Rattle.text_assembler.specs.Numbers.{given}
use Rattle.text_assembler.specs.Names.{Name, Ids, position}

-- the place of a name
abbrev pub place_of : Places → Name → Option ℕ
place_of p name = get_by (λ k. slice_cmp nat_cmp name k.items) p.map

-- each name is found where it is first
abbrev pub IsIndex : Places → Ids → Type 0
IsIndex p ids = (name : Name) → given (place_of p name) ≡ position 0 name ids
