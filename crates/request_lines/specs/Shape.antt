-- The text and JSON value of a line, and objects by the list of their members.
use Rattle.std.specs.Prelude.{◌≡◌, ◌≤◌, ℕ, List, [], ◌∷◌, Some, IsUtf8, length, codes}
use Rattle.serde_json.specs.Data.{Data, object, string, number, unsigned, Members, member, no_members}
use Rattle.serde_json.specs.Read.{read}

-- bytes of a line at most, its line feed not counted
abbrev pub max_line_bytes : ℕ
max_line_bytes = 1048576

-- the line is UTF-8, no longer than a line may be, and reads as this JSON value
pub record IsJson (line : List ℕ) (d : Data) : Type 0 where
  pub short : length line ≤ max_line_bytes
  pub utf8 : IsUtf8 line
  pub value : read line ≡ Some d

-- members by key and value, in the order of their keys
abbrev pub members : List (List ℕ × Data) → Members
members [] = no_members
members (m ∷ ms) = member m.0 m.1 (members ms)

abbrev pub object_of : List (List ℕ × Data) → Data
object_of ms = object (members ms)

abbrev pub count : ℕ → Data
count n = number (unsigned n)

-- members that requests and replies have
abbrev pub id_member : (id : List ℕ) → List ℕ × Data
id_member id = (codes "id", string id)

abbrev pub digest_member : (digest : List ℕ) → List ℕ × Data
digest_member digest = (codes "digest", string digest)
