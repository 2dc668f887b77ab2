-- Instructions (6.5), read from the front of the tokens. What they name is in the scopes of the
-- module, in the locals of the function, and in the labels of the open blocks, the innermost first.
use Rattle.std.specs.Prelude.{ℕ, zero, suc, ◌+◌, ◌^◌, List, [], ◌∷◌, length, take, drop, replicate, Bool, true, false, ◌&&◌, ◌||◌, ◌==◌, if◌then◌else◌, Result, Ok, Err, Option, Some, None, is_none, codes, bytes_eq, slice_get}
use Rattle.std.specs.List.{list_all}
use Rattle.wasm_ast.specs.declared.values.ValType.{ValType}
use Rattle.wasm_ast.specs.declared.values.ValType.TheVariants as type
use Rattle.wasm_ast.specs.declared.values.FuncType.{FuncType}
use Rattle.wasm_ast.specs.declared.values.Value.TheVariants as value
use Rattle.wasm_ast.specs.declared.instr.BlockType.{BlockType}
use Rattle.wasm_ast.specs.declared.instr.BlockType.TheVariants.{Empty, One, Index}
use Rattle.wasm_ast.specs.declared.instr.MemArg.{MemArg}
use Rattle.wasm_ast.specs.declared.instr.Simple.{Simple}
use Rattle.wasm_ast.specs.declared.instr.Simple.TheVariants as instr
use Rattle.wasm_ast.specs.Syntax.{Op, simple, block, loop, if', Ops, ops_of}
use Rattle.wasm_ast.specs.Types.{are_same_types}
use Rattle.wasm_ast.specs.Access.{load_bytes, store_bytes}
use Rattle.text_assembler.specs.declared.fault.Fault.{Fault}
use Rattle.text_assembler.specs.declared.fault.Fault.TheVariants.{Malformed, TooDeep}
use Rattle.text_assembler.specs.declared.token.Lexeme.TheVariants.{Close, Word}
use Rattle.text_assembler.specs.declared.keyword.Keyword.{Keyword}
use Rattle.text_assembler.specs.declared.keyword.Keyword.TheVariants as keyword
use Rattle.text_assembler.specs.declared.phrases.Binding.{Binding}
use Rattle.text_assembler.specs.declared.scopes.Scopes.{Scopes}
use Rattle.text_assembler.specs.Reading.{◌>>=◌, need, read_parts}
use Rattle.text_assembler.specs.Numbers.{given, small_number, constant}
use Rattle.text_assembler.specs.Words.{keyword_of}
use Rattle.text_assembler.specs.Names.{Name, Ids, is_id, is_named, with_id}
use Rattle.text_assembler.specs.Phrases.{Tokens, Reader, skip_close, take_word, begins_word, skip_word, begins_group, skip_group, id_of, after_id, read_index, read_indices, read_val_type, read_results, read_bindings, names_of, types_of}

-- ---- uses of types (6.6.3)

unfoldable pub declare_all : Ids → List (Option Name) → Result Ids Fault
declare_all ids [] = Ok ids
declare_all ids (name ∷ names) = with_id ids name >>= λ more. declare_all more names

abbrev pub is_unwritten : List Binding → List ValType → Bool
is_unwritten params results = length params == 0 && length results == 0

-- parameters and results, where any is written, are those of the type
unfoldable pub fits_signature : FuncType → List Binding → List ValType → Bool
fits_signature t params results =
    are_same_types t.params (types_of params) && are_same_types t.results results

-- the parameters of a use as locals
unfoldable pub params_of_use : FuncType → List Binding → List ValType → Result Ids Fault
params_of_use t params results =
    if is_unwritten params results then Ok (replicate (length t.params) None)
    else need (fits_signature t params results) (declare_all [] (names_of params))

-- `( type index )` of a written type
unfoldable pub read_type_index : Scopes → Reader ℕ
read_type_index s ts = do
  from ← skip_group (codes "type") ts
  index ← read_index s.types from
  rest ← skip_close index.1
  Ok (index.0, rest)

-- the index of a type, and the parameters as locals
unfoldable pub read_use : Scopes → Reader (ℕ × Ids)
read_use s ts = do
  index ← read_type_index s ts
  params ← read_bindings (codes "param") index.1
  results ← read_results params.1
  t ← given (slice_get s.signatures index.0)
  names ← params_of_use t params.0 results.0
  Ok ((index.0, names), results.1)

unfoldable pub are_nameless : Ids → Bool
are_nameless ids = list_all is_none ids

-- the index of a use whose parameters have no identifiers
unfoldable pub read_nameless_use : Scopes → Reader ℕ
read_nameless_use s ts = read_use s ts >>= λ u. need (are_nameless u.0.1) (Ok (u.0.0, u.1))

-- ---- what follows the word of an instruction without a body

unfoldable pub read_call_indirect : Scopes → Reader Simple
read_call_indirect s ts = read_nameless_use s ts >>= λ i. Ok (instr.CallIndirect i.0, i.1)

-- all but the last, and the last
unfoldable pub last_of : List ℕ → Result (List ℕ × ℕ) Fault
last_of [] = Err Malformed
last_of (n ∷ []) = Ok ([], n)
last_of (n ∷ m ∷ ns) = last_of (m ∷ ns) >>= λ l. Ok (n ∷ l.0, l.1)

unfoldable pub read_br_table : Ids → Reader Simple
read_br_table labels ts =
    read_indices labels ts >>= λ all. last_of all.0 >>= λ l. Ok (instr.BrTable l.1 l.0, all.1)

-- the exponent of a power of two: k or one of the numbers after it
unfoldable pub exponent_from : (tries k : ℕ) → ℕ → Result ℕ Fault
exponent_from zero k n = Err Malformed
exponent_from (suc tries) k n = if n == 2 ^ k then Ok k else exponent_from tries (k + 1) n

-- what follows this prefix in the next word, and what follows the word
unfoldable pub digits_after : (prefix : List ℕ) → Tokens → Option (List ℕ × Tokens)
digits_after prefix (Word w ∷ ts) =
    if bytes_eq (take (length prefix) w) prefix then Some (drop (length prefix) w, ts) else None
digits_after prefix ts = None

unfoldable pub with_digits : Option (List ℕ × Tokens) → (other : ℕ) → Reader ℕ
with_digits None other ts = Ok (other, ts)
with_digits (Some digits) other ts = small_number digits.0 >>= λ n. Ok (n, digits.1)

-- a number after this prefix, or another one if no word begins so
unfoldable pub read_option : (prefix : List ℕ) → (other : ℕ) → Reader ℕ
read_option prefix other ts = with_digits (digits_after prefix ts) other ts

-- offset and alignment (6.5.5): this number of bytes where none is written
unfoldable pub read_mem_arg : (natural : ℕ) → Reader MemArg
read_mem_arg natural ts = do
  offset ← read_option (codes "offset=") 0 ts
  align ← read_option (codes "align=") natural offset.1
  exponent ← exponent_from 32 0 align.0
  Ok (record { align = exponent; offset = offset.0 }, align.1)

unfoldable pub read_const : ValType → Reader Simple
read_const type.I32 ts =
    take_word ts >>= λ w. constant 32 w.0 >>= λ n. Ok (instr.Const (value.I32 n), w.1)
read_const type.I64 ts =
    take_word ts >>= λ w. constant 64 w.0 >>= λ n. Ok (instr.Const (value.I64 n), w.1)

-- an index, and the instruction that has it
unfoldable pub with_index : Ids → (ℕ → Simple) → Reader Simple
with_index ids make ts = read_index ids ts >>= λ n. Ok (make n.0, n.1)

unfoldable pub read_immediates : Scopes → (locals labels : Ids) → Keyword → Reader Simple
read_immediates s locals labels keyword.Unreachable ts = Ok (instr.Unreachable, ts)
read_immediates s locals labels keyword.Nop ts = Ok (instr.Nop, ts)
read_immediates s locals labels keyword.Br ts = with_index labels instr.Br ts
read_immediates s locals labels keyword.BrIf ts = with_index labels instr.BrIf ts
read_immediates s locals labels keyword.BrTable ts = read_br_table labels ts
read_immediates s locals labels keyword.Return ts = Ok (instr.Return, ts)
read_immediates s locals labels keyword.Call ts = with_index s.funcs instr.Call ts
read_immediates s locals labels keyword.CallIndirect ts = read_call_indirect s ts
read_immediates s locals labels keyword.Drop ts = Ok (instr.Drop, ts)
read_immediates s locals labels keyword.Select ts = Ok (instr.Select, ts)
read_immediates s locals labels keyword.MemorySize ts = Ok (instr.MemorySize, ts)
read_immediates s locals labels keyword.MemoryGrow ts = Ok (instr.MemoryGrow, ts)
read_immediates s locals labels (keyword.Local op) ts = with_index locals (instr.Local op) ts
read_immediates s locals labels (keyword.Global op) ts = with_index s.globals (instr.Global op) ts
read_immediates s locals labels (keyword.Load op) ts =
    read_mem_arg (load_bytes op) ts >>= λ at. Ok (instr.Load op at.0, at.1)
read_immediates s locals labels (keyword.Store op) ts =
    read_mem_arg (store_bytes op) ts >>= λ at. Ok (instr.Store op at.0, at.1)
read_immediates s locals labels (keyword.Const t) ts = read_const t ts
read_immediates s locals labels (keyword.Unary t op) ts = Ok (instr.Unary t op, ts)
read_immediates s locals labels (keyword.Binary t op) ts = Ok (instr.Binary t op, ts)
read_immediates s locals labels (keyword.Test t op) ts = Ok (instr.Test t op, ts)
read_immediates s locals labels (keyword.Compare t op) ts = Ok (instr.Compare t op, ts)
read_immediates s locals labels (keyword.Convert op) ts = Ok (instr.Convert op, ts)

-- ---- blocks (6.5.2)

-- nothing, or `( result t )`; or the use of a type, whose parameters have no identifiers (Core 2.0, 6.5.2)
unfoldable pub read_block_type : Scopes → Reader BlockType
read_block_type s ts =
    if begins_group (codes "type") ts
    then (read_nameless_use s ts >>= λ i. Ok (Index i.0, i.1))
    else if begins_group (codes "result") ts then (do
      from ← skip_group (codes "result") ts
      t ← read_val_type from
      rest ← skip_close t.1
      Ok (One t.0, rest))
    else Ok (Empty, ts)

-- an identifier after `else` or `end` is that of the block
unfoldable pub skip_label : Option Name → Tokens → Result Tokens Fault
skip_label label (Word w ∷ ts) =
    if is_id w then need (is_named w label) (Ok ts) else Ok (Word w ∷ ts)
skip_label label ts = Ok ts

unfoldable pub skip_end : Option Name → Tokens → Result Tokens Fault
skip_end label ts = skip_word (codes "end") ts >>= λ rest. skip_label label rest

-- how bodies are read, given the labels of the open blocks
abbrev pub Bodies : Type 0
Bodies = Ids → Reader (List Op)

-- the type, the body and the end of a block or a loop
unfoldable pub read_enclosed : Scopes → Bodies → Ids → Reader (BlockType × Ops)
read_enclosed s bodies labels ts = do
  t ← read_block_type s (after_id ts)
  body ← bodies (id_of ts ∷ labels) t.1
  rest ← skip_end (id_of ts) body.1
  Ok ((t.0, ops_of body.0), rest)

-- the else arm, which may be left out
unfoldable pub read_else : Bodies → (label : Option Name) → Ids → Reader (List Op)
read_else bodies label labels ts =
    if begins_word (codes "else") ts then (do
      from ← skip_word (codes "else") ts
      start ← skip_label label from
      bodies labels start)
    else Ok ([], ts)

unfoldable pub read_if : Scopes → Bodies → Ids → Reader Op
read_if s bodies labels ts = do
  t ← read_block_type s (after_id ts)
  then_arm ← bodies (id_of ts ∷ labels) t.1
  else_arm ← read_else bodies (id_of ts) (id_of ts ∷ labels) then_arm.1
  rest ← skip_end (id_of ts) else_arm.1
  Ok (if' t.0 (ops_of then_arm.0) (ops_of else_arm.0), rest)

abbrev pub opens_block : List ℕ → Bool
opens_block word =
    bytes_eq word (codes "block") || bytes_eq word (codes "loop") || bytes_eq word (codes "if")

-- what follows the word of an instruction that has bodies
unfoldable pub read_nested : Scopes → Bodies → (word : List ℕ) → Ids → Reader Op
read_nested s bodies word labels ts =
    if bytes_eq word (codes "if") then read_if s bodies labels ts
    else (read_enclosed s bodies labels ts >>= λ x.
    Ok (if bytes_eq word (codes "block") then block x.0.0 x.0.1 else loop x.0.0 x.0.1, x.1))

unfoldable pub read_simple : Scopes → (locals labels : Ids) → (word : List ℕ) → Reader Op
read_simple s locals labels word ts = do
  k ← given (keyword_of word)
  i ← read_immediates s locals labels k ts
  Ok (simple i.0, i.1)

-- an instruction, where bodies are read so, or no more blocks may be open
unfoldable pub read_op : Scopes → (locals : Ids) → Result Bodies Fault → (labels : Ids) → Reader Op
read_op s locals inner labels ts = take_word ts >>= λ w.
    if opens_block w.0 then (inner >>= λ bodies. read_nested s bodies w.0 labels w.1)
    else read_simple s locals labels w.0 w.1

unfoldable pub one_op :
    Scopes → (locals : Ids) → Result Bodies Fault → (labels : Ids) → Reader (List Op)
one_op s locals inner labels ts = read_op s locals inner labels ts >>= λ o. Ok (o.0 ∷ [], o.1)

-- whether instructions end here: `)`, `end` or `else` is next
unfoldable pub is_end : Tokens → Bool
is_end (Close ∷ ts) = true
is_end (Word w ∷ ts) = bytes_eq w (codes "end") || bytes_eq w (codes "else")
is_end ts = false

-- instructions up to their end, where this many more blocks may be open
unfoldable pub read_body : Scopes → (locals : Ids) → (more : ℕ) → Bodies
read_body s locals zero labels ts = read_parts is_end (one_op s locals (Err TooDeep) labels) ts
read_body s locals (suc more) labels ts =
    read_parts is_end (one_op s locals (Ok (read_body s locals more)) labels) ts
