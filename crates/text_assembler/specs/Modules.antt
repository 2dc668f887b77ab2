-- Fields and modules (6.6), read from the front of the tokens. A field may name what a later one
-- declares: so all declarations are collected first.
use Rattle.std.specs.Prelude.{◌≡◌, ◌≤◌, ℕ, zero, suc, ◌+◌, ◌-◌, List, [], ◌∷◌, ◌++◌, length, take, fold, Bool, ◌&&◌, ◌==◌, if◌then◌else◌, Result, Ok, Err, Some, None, is_none, codes, bytes_eq}
use Rattle.wasm_ast.specs.declared.values.ValType.{ValType}
use Rattle.wasm_ast.specs.declared.values.FuncType.{FuncType}
use Rattle.wasm_ast.specs.declared.module.Limits.{Limits}
use Rattle.wasm_ast.specs.declared.module.Mutability.{Mutability}
use Rattle.wasm_ast.specs.declared.module.Mutability.TheVariants as mutability
use Rattle.wasm_ast.specs.declared.module.Global as declared_global
use Rattle.wasm_ast.specs.declared.module.Element.{Element}
use Rattle.wasm_ast.specs.declared.module.Segment.{Segment}
use Rattle.wasm_ast.specs.declared.module.Import.{Import}
use Rattle.wasm_ast.specs.declared.module.Func.{Func}
use Rattle.wasm_ast.specs.declared.module.ExportKind.{ExportKind}
use Rattle.wasm_ast.specs.declared.module.ExportKind.TheVariants as kinds
use Rattle.wasm_ast.specs.declared.module.Export.{Export}
use Rattle.wasm_ast.specs.declared.module.Module.{Module}
use Rattle.wasm_ast.specs.declared.refusal.Refusal.{Refusal}
use Rattle.wasm_ast.specs.declared.refusal.Refusal.TheVariants as refusal
use Rattle.wasm_ast.specs.Syntax.{Ops, ops_of}
use Rattle.wasm_ast.specs.Limits.{max_nesting}
use Rattle.text_assembler.specs.declared.fault.Fault.{Fault}
use Rattle.text_assembler.specs.declared.fault.Fault.TheVariants.{TooDeep}
use Rattle.text_assembler.specs.declared.token.Lexeme.TheVariants.{Open, Close, Word, Text}
use Rattle.text_assembler.specs.declared.field.Field.{Field}
use Rattle.text_assembler.specs.declared.field.Field.TheVariants as field
use Rattle.text_assembler.specs.declared.scopes.Scopes.{Scopes}
use Rattle.text_assembler.specs.Characters.{line_feed, is_between}
use Rattle.text_assembler.specs.Reading.{◌>>=◌, need, read_parts}
use Rattle.text_assembler.specs.Tokens.{tokens_of}
use Rattle.text_assembler.specs.Names.{Ids, with_id}
use Rattle.text_assembler.specs.Phrases.{Tokens, Reader, is_close, skip_close, skip_open, take_word, take_text, skip_word, begins_group, skip_group, read_name, id_of, after_id, read_index, read_indices, read_val_type, read_results, read_bindings, names_of, types_of, read_limits}
use Rattle.text_assembler.specs.Instructions.{declare_all, read_use, read_body}

-- ---- fields, after their keyword

-- `id? ( func param* result* )` (6.4.4, 6.6.2)
unfoldable pub read_type : Reader FuncType
read_type ts = do
  from ← skip_group (codes "func") (after_id ts)
  params ← read_bindings (codes "param") from
  results ← read_results params.1
  rest ← skip_close results.1
  Ok (record { params = types_of params.0; results = results.0 }, rest)

-- the two names of an import, and `( func`
unfoldable pub read_imported : Reader (List ℕ × List ℕ)
read_imported ts = do
  owner ← read_name ts
  name ← read_name owner.1
  rest ← skip_group (codes "func") name.1
  Ok ((owner.0, name.0), rest)

-- `string string ( func id? use )` (6.6.4)
unfoldable pub read_import : Scopes → Reader Import
read_import s ts = do
  names ← read_imported ts
  used ← read_use s (after_id names.1)
  rest ← skip_close used.1
  Ok (record { «module» = names.0.0; name = names.0.1; type_index = used.0.0 }, rest)

-- `id? use local* instr*` (6.6.5)
unfoldable pub read_func : (nesting : ℕ) → Scopes → Reader Func
read_func nesting s ts = do
  used ← read_use s (after_id ts)
  locals ← read_bindings (codes "local") used.1
  ids ← declare_all used.0.1 (names_of locals.0)
  body ← read_body s ids nesting [] locals.1
  Ok (record { type_index = used.0.0; locals = types_of locals.0; body = ops_of body.0 }, body.1)

-- `id? limits funcref` (6.6.6)
unfoldable pub read_table : Reader Limits
read_table ts = do
  limits ← read_limits (after_id ts)
  rest ← skip_word (codes "funcref") limits.1
  Ok (limits.0, rest)

-- `id? limits` (6.6.7)
unfoldable pub read_memory : Reader Limits
read_memory ts = read_limits (after_id ts)

-- `t`, or `( mut t )` (6.4.7)
unfoldable pub read_global_type : Reader (ValType × Mutability)
read_global_type ts =
    if begins_group (codes "mut") ts then (do
      from ← skip_group (codes "mut") ts
      t ← read_val_type from
      rest ← skip_close t.1
      Ok ((t.0, mutability.Var), rest))
    else (read_val_type ts >>= λ t. Ok ((t.0, mutability.Const), t.1))

-- instructions of a constant, which has no locals and is in no block
unfoldable pub read_expression : (nesting : ℕ) → Scopes → Reader Ops
read_expression nesting s ts = read_body s [] nesting [] ts >>= λ os. Ok (ops_of os.0, os.1)

-- the global's type and `instr*` (6.6.8)
unfoldable pub read_global : (nesting : ℕ) → Scopes → Reader declared_global.Global
read_global nesting s ts = do
  t ← read_global_type (after_id ts)
  init ← read_expression nesting s t.1
  Ok (record { val_type = t.0.0; mutability = t.0.1; init = init.0 }, init.1)

unfoldable pub kind_of : List ℕ → Result ExportKind Fault
kind_of word =
    if bytes_eq word (codes "func") then Ok kinds.Func
    else if bytes_eq word (codes "table") then Ok kinds.Table
    else if bytes_eq word (codes "memory") then Ok kinds.Memory
    else need (bytes_eq word (codes "global")) (Ok kinds.Global)

-- the index space of a kind
abbrev pub space_of : Scopes → ExportKind → Ids
space_of s kinds.Func = s.funcs
space_of s kinds.Table = s.tables
space_of s kinds.Memory = s.memories
space_of s kinds.Global = s.globals

-- `( kind index )`
unfoldable pub read_exported : Scopes → Reader (ExportKind × ℕ)
read_exported s ts = do
  from ← skip_open ts
  word ← take_word from
  kind ← kind_of word.0
  index ← read_index (space_of s kind) word.1
  rest ← skip_close index.1
  Ok ((kind, index.0), rest)

-- `string ( kind index )` (6.6.9)
unfoldable pub read_export : Scopes → Reader Export
read_export s ts = do
  name ← read_name ts
  item ← read_exported s name.1
  Ok (record { name = name.0; kind = item.0.0; index = item.0.1 }, item.1)

-- `( offset instr* )`
unfoldable pub read_offset : (nesting : ℕ) → Scopes → Reader Ops
read_offset nesting s ts = do
  from ← skip_group (codes "offset") ts
  offset ← read_expression nesting s from
  rest ← skip_close offset.1
  Ok (offset.0, rest)

-- `( offset instr* ) index*`, of the table 0 (6.6.11)
unfoldable pub read_element : (nesting : ℕ) → Scopes → Reader Element
read_element nesting s ts = do
  offset ← read_offset nesting s ts
  funcs ← read_indices s.funcs offset.1
  Ok (record { table = 0; offset = offset.0; funcs = funcs.0 }, funcs.1)

-- `( offset instr* ) string*`, of the memory 0 (6.6.12)
unfoldable pub read_segment : (nesting : ℕ) → Scopes → Reader Segment
read_segment nesting s ts = do
  offset ← read_offset nesting s ts
  bytes ← read_parts is_close take_text offset.1
  Ok (record { memory = 0; offset = offset.0; bytes = bytes.0 }, bytes.1)

-- ---- fields

-- the module's own functions, tables, memories and globals, by their keyword
unfoldable pub read_defined : (nesting : ℕ) → Scopes → (word : List ℕ) → Reader Field
read_defined nesting s word ts =
    if bytes_eq word (codes "func") then (read_func nesting s ts >>= λ f. Ok (field.Func f.0, f.1))
    else if bytes_eq word (codes "table") then (read_table ts >>= λ t. Ok (field.Table t.0, t.1))
    else if bytes_eq word (codes "memory") then (read_memory ts >>= λ m. Ok (field.Memory m.0, m.1))
    else need (bytes_eq word (codes "global"))
    (read_global nesting s ts >>= λ g. Ok (field.Global g.0, g.1))

unfoldable pub read_contents : (nesting : ℕ) → Scopes → (word : List ℕ) → Reader Field
read_contents nesting s word ts =
    if bytes_eq word (codes "type") then (read_type ts >>= λ t. Ok (field.Type t.0, t.1))
    else if bytes_eq word (codes "import")
    then (read_import s ts >>= λ i. Ok (field.Import i.0, i.1))
    else if bytes_eq word (codes "export")
    then (read_export s ts >>= λ e. Ok (field.Export e.0, e.1))
    else if bytes_eq word (codes "start")
    then (read_index s.funcs ts >>= λ f. Ok (field.Start f.0, f.1))
    else if bytes_eq word (codes "elem")
    then (read_element nesting s ts >>= λ e. Ok (field.Element e.0, e.1))
    else if bytes_eq word (codes "data")
    then (read_segment nesting s ts >>= λ d. Ok (field.Segment d.0, d.1))
    else read_defined nesting s word ts

unfoldable pub read_field : (nesting : ℕ) → Scopes → Reader Field
read_field nesting s ts = do
  from ← skip_open ts
  word ← take_word from
  f ← read_contents nesting s word.0 word.1
  rest ← skip_close f.1
  Ok (f.0, rest)

-- ---- declarations

-- what a field declares, by its keyword
unfoldable pub declare_as : Scopes → (word : List ℕ) → Tokens → Result Scopes Fault
declare_as s word ts =
    if bytes_eq word (codes "type") then (do
      ids ← with_id s.types (id_of ts)
      t ← read_type ts
      Ok (record s { types = ids; signatures = s.signatures ++ t.0 ∷ [] }))
    else if bytes_eq word (codes "import") then (do
      names ← read_imported ts
      ids ← with_id s.funcs (id_of names.1)
      Ok (record s { funcs = ids }))
    else if bytes_eq word (codes "func")
    then (with_id s.funcs (id_of ts) >>= λ ids. Ok (record s { funcs = ids }))
    else if bytes_eq word (codes "table")
    then (with_id s.tables (id_of ts) >>= λ ids. Ok (record s { tables = ids }))
    else if bytes_eq word (codes "memory")
    then (with_id s.memories (id_of ts) >>= λ ids. Ok (record s { memories = ids }))
    else if bytes_eq word (codes "global")
    then (with_id s.globals (id_of ts) >>= λ ids. Ok (record s { globals = ids }))
    else Ok s

-- what the field that begins here declares, after its `(`
unfoldable pub declare_field : Scopes → Tokens → Result Scopes Fault
declare_field s ts = take_word ts >>= λ word. declare_as s word.0 word.1

-- The declarations of all fields, where this many parentheses are open. A field begins where one is.
unfoldable pub declare_fields : (depth : ℕ) → Scopes → Tokens → Result Scopes Fault
declare_fields depth s [] = Ok s
declare_fields depth s (Open ∷ ts) =
    if depth == 1 then (declare_field s ts >>= λ more. declare_fields 2 more ts)
    else declare_fields (depth + 1) s ts
declare_fields depth s (Close ∷ ts) = declare_fields (depth - 1) s ts
declare_fields depth s (Word w ∷ ts) = declare_fields depth s ts
declare_fields depth s (Text bytes ∷ ts) = declare_fields depth s ts

abbrev pub no_scopes : Scopes
no_scopes =
    record { types = []; signatures = []; funcs = []; tables = []; memories = []; globals = [] }

-- ---- modules

abbrev pub no_fields : Module
no_fields = record {
  types = [];
  imports = [];
  funcs = [];
  tables = [];
  memories = [];
  globals = [];
  exports = [];
  start = None;
  elements = [];
  segments = [];
}

-- no function, table, memory or global is defined yet
abbrev pub is_undefined : Module → Bool
is_undefined m =
    length m.funcs == 0 && length m.tables == 0 && length m.memories == 0 && length m.globals == 0

-- One more field, at the end of those of its kind. Imports come before functions, tables, memories
-- and globals, and there is at most one start function (6.6.13).
unfoldable pub add_field : Module → Field → Result Module Fault
add_field m (field.Type t) = Ok (record m { types = m.types ++ t ∷ [] })
add_field m (field.Import i) =
    need (is_undefined m) (Ok (record m { imports = m.imports ++ i ∷ [] }))
add_field m (field.Func f) = Ok (record m { funcs = m.funcs ++ f ∷ [] })
add_field m (field.Table t) = Ok (record m { tables = m.tables ++ t ∷ [] })
add_field m (field.Memory l) = Ok (record m { memories = m.memories ++ l ∷ [] })
add_field m (field.Global g) = Ok (record m { globals = m.globals ++ g ∷ [] })
add_field m (field.Export e) = Ok (record m { exports = m.exports ++ e ∷ [] })
add_field m (field.Start f) = need (is_none m.start) (Ok (record m { start = Some f }))
add_field m (field.Element e) = Ok (record m { elements = m.elements ++ e ∷ [] })
add_field m (field.Segment d) = Ok (record m { segments = m.segments ++ d ∷ [] })

-- a field, added to a module
unfoldable pub one_field : (nesting : ℕ) → Scopes → Module → Reader Module
one_field nesting s m ts =
    read_field nesting s ts >>= λ f. add_field m f.0 >>= λ more. Ok (more, f.1)

-- at most this many fields, up to `)`, added to a module
unfoldable pub read_fields : (nesting : ℕ) → Scopes → (most : ℕ) → Module → Reader Module
read_fields nesting s zero m ts = need (is_close ts) (Ok (m, ts))
read_fields nesting s (suc n) m ts =
    if is_close ts then Ok (m, ts)
    else (one_field nesting s m ts >>= λ more. read_fields nesting s n more.0 more.1)

-- `( module id? field* )`, and nothing after it
unfoldable pub read_module : (nesting : ℕ) → Scopes → Tokens → Result Module Fault
read_module nesting s ts = do
  from ← skip_group (codes "module") ts
  m ← read_fields nesting s (length ts) no_fields (after_id from)
  rest ← skip_close m.1
  need (length rest == 0) (Ok m.0)

unfoldable pub read_tokens : (nesting : ℕ) → Tokens → Result Module Fault
read_tokens nesting ts = declare_fields 0 no_scopes ts >>= λ s. read_module nesting s ts

-- the scopes that the names among these tokens are looked up in, and the module that they are read as
abbrev pub AreOf : Tokens → Scopes → Module → Type 0
AreOf ts s m =
    (declare_fields 0 no_scopes ts ≡ Ok s) × ((nesting : ℕ) × (read_tokens nesting ts ≡ Ok m))

-- the module of a text, where at most this many blocks are open at one word
unfoldable pub read_text : (nesting : ℕ) → List ℕ → Result Module Fault
read_text nesting text = tokens_of text >>= λ ts. read_tokens nesting ts

-- A text denotes a module if this is what is read, however many blocks may be open.
abbrev pub Denotes : List ℕ → Module → Type 0
Denotes text m = (nesting : ℕ) × (read_text nesting text ≡ Ok m)

-- more than 256 blocks are open at one word
abbrev pub IsTooDeep : List ℕ → Type 0
IsTooDeep text = read_text max_nesting text ≡ Err TooDeep

-- the line and the column after one more byte: a line feed ends a line, and a character has one
-- first byte, as the others of a character in UTF-8 are from 80 to BF
abbrev pub passed_byte : ℕ × ℕ → ℕ → ℕ × ℕ
passed_byte at b =
    if b == line_feed then (at.0 + 1, 1)
    else if is_between 0x80 0xBF b then at
    else (at.0, at.1 + 1)

-- the line and the column, both from 1, where these bytes of a text end
abbrev pub place_after : List ℕ → ℕ × ℕ
place_after bytes = fold passed_byte (1, 1) bytes

-- they are those of a place in the text, or of its end
abbrev pub IsPlaceIn : (text : List ℕ) → (line column : ℕ) → Type 0
IsPlaceIn text line column =
    (n : ℕ) × (n ≤ length text) × (place_after (take n text) ≡ (line, column))

-- a refusal of a text, wherever its fault is
abbrev pub IsBadText : Refusal → Type 0
IsBadText (refusal.BadText line column) = Unit {0}
IsBadText other = ⊥
