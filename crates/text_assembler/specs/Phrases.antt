-- The phrases that all fields share (6.4, 6.5.1, 6.6.3), read from the front of the tokens.
use Rattle.std.specs.Prelude.{ℕ, List, [], ◌∷◌, map, drop, Bool, true, false, not, if◌then◌else◌, Result, Ok, Err, Option, Some, None, codes, bytes_eq}
use Rattle.std.specs.Str.{is_utf8}
use Rattle.wasm_ast.specs.declared.values.ValType.{ValType}
use Rattle.wasm_ast.specs.declared.values.ValType.TheVariants as type
use Rattle.wasm_ast.specs.declared.module.Limits.{Limits}
use Rattle.text_assembler.specs.declared.fault.Fault.{Fault}
use Rattle.text_assembler.specs.declared.fault.Fault.TheVariants.{Malformed}
use Rattle.text_assembler.specs.declared.token.Lexeme.{Lexeme}
use Rattle.text_assembler.specs.declared.token.Lexeme.TheVariants.{Open, Close, Word, Text}
use Rattle.text_assembler.specs.declared.phrases.Binding.{Binding}
use Rattle.text_assembler.specs.Reading.{Read, ◌>>=◌, need, read_parts}
use Rattle.text_assembler.specs.Numbers.{small_number}
use Rattle.text_assembler.specs.Names.{Name, Ids, is_id, is_index, index_of}

abbrev pub Tokens : Type 0
Tokens = List Lexeme

abbrev pub Reader : Type 0 → Type 0
Reader X = Tokens → Read Lexeme X

-- ---- single tokens

unfoldable pub is_close : Tokens → Bool
is_close (Close ∷ ts) = true
is_close ts = false

unfoldable pub skip_close : Tokens → Result Tokens Fault
skip_close (Close ∷ ts) = Ok ts
skip_close ts = Err Malformed

unfoldable pub skip_open : Tokens → Result Tokens Fault
skip_open (Open ∷ ts) = Ok ts
skip_open ts = Err Malformed

unfoldable pub take_word : Reader (List ℕ)
take_word (Word w ∷ ts) = Ok (w, ts)
take_word ts = Err Malformed

unfoldable pub take_text : Reader (List ℕ)
take_text (Text bytes ∷ ts) = Ok (bytes, ts)
take_text ts = Err Malformed

-- whether this keyword is next
unfoldable pub begins_word : List ℕ → Tokens → Bool
begins_word word (Word w ∷ ts) = bytes_eq w word
begins_word word ts = false

unfoldable pub skip_word : List ℕ → Tokens → Result Tokens Fault
skip_word word ts = need (begins_word word ts) (Ok (drop 1 ts))

-- whether `(` and this keyword are next
unfoldable pub begins_group : List ℕ → Tokens → Bool
begins_group word (Open ∷ ts) = begins_word word ts
begins_group word ts = false

-- whether no group with this keyword is next
abbrev pub is_past_groups : List ℕ → Tokens → Bool
is_past_groups word ts = not (begins_group word ts)

unfoldable pub skip_group : List ℕ → Tokens → Result Tokens Fault
skip_group word ts = skip_open ts >>= λ rest. skip_word word rest

-- ---- names, identifiers and numbers

-- a name: a string whose bytes are UTF-8 (6.3.4)
unfoldable pub read_name : Reader (List ℕ)
read_name ts = take_text ts >>= λ name. need (is_utf8 name.0) (Ok name)

unfoldable pub begins_id : Tokens → Bool
begins_id (Word w ∷ ts) = is_id w
begins_id ts = false

-- an identifier, which may be left out
unfoldable pub id_of : Tokens → Option Name
id_of (Word w ∷ ts) = if is_id w then Some w else None
id_of ts = None

unfoldable pub after_id : Tokens → Tokens
after_id ts = if begins_id ts then drop 1 ts else ts

unfoldable pub read_number : Reader ℕ
read_number ts = take_word ts >>= λ w. small_number w.0 >>= λ n. Ok (n, w.1)

unfoldable pub begins_index : Tokens → Bool
begins_index (Word w ∷ ts) = is_index w
begins_index ts = false

-- whether no index is next
abbrev pub is_past_indices : Tokens → Bool
is_past_indices ts = not (begins_index ts)

-- an index of this space (6.6.1)
unfoldable pub read_index : Ids → Reader ℕ
read_index ids ts = take_word ts >>= λ w. index_of ids w.0 >>= λ n. Ok (n, w.1)

unfoldable pub one_index : Ids → Reader (List ℕ)
one_index ids ts = read_index ids ts >>= λ n. Ok (n.0 ∷ [], n.1)

-- indices as long as there are more
unfoldable pub read_indices : Ids → Reader (List ℕ)
read_indices ids ts = read_parts is_past_indices (one_index ids) ts

-- ---- types (6.4)

unfoldable pub val_type_of : List ℕ → Result ValType Fault
val_type_of word =
    if bytes_eq word (codes "i32") then Ok type.I32
    else need (bytes_eq word (codes "i64")) (Ok type.I64)

unfoldable pub read_val_type : Reader ValType
read_val_type ts = take_word ts >>= λ w. val_type_of w.0 >>= λ t. Ok (t, w.1)

unfoldable pub one_type : Reader (List ValType)
one_type ts = read_val_type ts >>= λ t. Ok (t.0 ∷ [], t.1)

-- the types of `( result t* )`
unfoldable pub read_result : Reader (List ValType)
read_result ts = do
  from ← skip_group (codes "result") ts
  types ← read_parts is_close one_type from
  rest ← skip_close types.1
  Ok (types.0, rest)

unfoldable pub read_results : Reader (List ValType)
read_results ts = read_parts (is_past_groups (codes "result")) read_result ts

unfoldable pub one_nameless : Reader (List Binding)
one_nameless ts = read_val_type ts >>= λ t. Ok (record { name = None; val_type = t.0 } ∷ [], t.1)

-- what follows the keyword of `( param id t )` or `( param t* )`
unfoldable pub read_bound : Reader (List Binding)
read_bound ts =
    if begins_id ts
    then (read_val_type (after_id ts)
    >>= λ t. Ok (record { name = id_of ts; val_type = t.0 } ∷ [], t.1))
    else read_parts is_close one_nameless ts

-- parameters, or locals, of one group with this keyword
unfoldable pub read_group : (keyword : List ℕ) → Reader (List Binding)
read_group keyword ts = do
  from ← skip_group keyword ts
  bound ← read_bound from
  rest ← skip_close bound.1
  Ok (bound.0, rest)

unfoldable pub read_bindings : (keyword : List ℕ) → Reader (List Binding)
read_bindings keyword ts = read_parts (is_past_groups keyword) (read_group keyword) ts

abbrev pub names_of : List Binding → Ids
names_of bindings = map (λ b. b.name) bindings

abbrev pub types_of : List Binding → List ValType
types_of bindings = map (λ b. b.val_type) bindings

-- a first size, and a largest one if there is one (6.4.5)
unfoldable pub read_limits : Reader Limits
read_limits ts = read_number ts >>= λ min.
    if begins_index min.1
    then (read_number min.1 >>= λ max. Ok (record { min = min.0; max = Some max.0 }, max.1))
    else Ok (record { min = min.0; max = None }, min.1)
