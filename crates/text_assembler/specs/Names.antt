-- Identifiers and the index spaces that they name entries of (6.3.5, 6.6.1). An identifier is
-- written with its `$`.
use Rattle.std.specs.Prelude.{ℕ, ◌+◌, ◌^◌, List, [], ◌∷◌, ◌++◌, Bool, false, ◌||◌, nat_lt, ◌==◌, if◌then◌else◌, Result, Ok, Err, Option, Some, None, bytes_eq}
use Rattle.std.specs.List.{list_any}
use Rattle.text_assembler.specs.declared.fault.Fault.{Fault}
use Rattle.text_assembler.specs.declared.fault.Fault.TheVariants.{Malformed}
use Rattle.text_assembler.specs.Reading.{◌>>=◌, need}
use Rattle.text_assembler.specs.Characters.{dollar, is_between}
use Rattle.text_assembler.specs.Numbers.{small_number}

abbrev pub Name : Type 0
Name = List ℕ

-- the entries of an index space in order, each with its identifier if it has one
abbrev pub Ids : Type 0
Ids = List (Option Name)

-- `$` and at least one character
unfoldable pub is_id : List ℕ → Bool
is_id (c ∷ d ∷ cs) = c == dollar
is_id word = false

-- whether an index begins so: with `$` or a digit
unfoldable pub is_index : List ℕ → Bool
is_index [] = false
is_index (c ∷ cs) = c == dollar || is_between 0x30 0x39 c

abbrev pub is_named : Name → Option Name → Bool
is_named name None = false
is_named name (Some id) = bytes_eq id name

unfoldable pub is_declared : Name → Ids → Bool
is_declared name ids = list_any (is_named name) ids

-- one more entry: no identifier is declared twice in a space
unfoldable pub with_id : Ids → Option Name → Result Ids Fault
with_id ids None = Ok (ids ++ None ∷ [])
with_id ids (Some name) = if is_declared name ids then Err Malformed else Ok (ids ++ Some name ∷ [])

-- the place of the first entry with this name, with this many entries before the list
unfoldable pub position : (before : ℕ) → Name → Ids → Result ℕ Fault
position before name [] = Err Malformed
position before name (id ∷ ids) =
    if is_named name id then Ok before else position (before + 1) name ids

-- the index that a word is in this space: an identifier of an entry, or a number
unfoldable pub index_of : Ids → List ℕ → Result ℕ Fault
index_of ids word =
    if is_id word then (position 0 word ids >>= λ n. need (nat_lt n (2 ^ 32)) (Ok n))
    else small_number word
