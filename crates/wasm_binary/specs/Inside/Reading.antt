-- The grammar read from the front: a plain reader of each form, which answers what is encoded and the rest,
-- or the first fault that it meets. The private functions of the crate promise what these give; no public
-- clause names them. A reader is limited, as the decoder is, or tests no limit of modules.
use Rattle.std.specs.Prelude.{◌≡◌, ◌<◌, ℕ, zero, suc, ◌+◌, ◌-◌, ◌*◌, ◌^◌, List, [], ◌∷◌, ◌++◌, length, take, drop, replicate, Result, Ok, Err, Option, Some, None, Bool, true, false, ◌&&◌, ◌||◌, nat_lt, ◌==◌, if◌then◌else◌}
use Rattle.std.specs.Str.{is_utf8, bytes_eq}
use Rattle.wasm_ast.specs.declared.values.ValType.{ValType}
use Rattle.wasm_ast.specs.declared.values.ValType.TheVariants as type
use Rattle.wasm_ast.specs.declared.values.FuncType.{FuncType}
use Rattle.wasm_ast.specs.declared.values.Value.{Value}
use Rattle.wasm_ast.specs.declared.values.Value.TheVariants as value
use Rattle.wasm_ast.specs.declared.instr.BlockType.{BlockType}
use Rattle.wasm_ast.specs.declared.instr.BlockType.TheVariants.{Empty, One, Index}
use Rattle.wasm_ast.specs.declared.instr.MemArg.{MemArg}
use Rattle.wasm_ast.specs.declared.instr.Simple.{Simple}
use Rattle.wasm_ast.specs.declared.instr.Simple.TheVariants.{Unreachable, Nop, Br, BrIf, BrTable, Return, Call, CallIndirect, Drop, Select, Local, Global, Load, Store, MemorySize, MemoryGrow, Const, Unary, Binary, Test, Compare, Convert}
use Rattle.wasm_ast.specs.declared.instr.LocalOp.TheVariants as local
use Rattle.wasm_ast.specs.declared.instr.GlobalOp.TheVariants as global
use Rattle.wasm_ast.specs.declared.operators.LoadOp.TheVariants as load
use Rattle.wasm_ast.specs.declared.operators.StoreOp.TheVariants as store
use Rattle.wasm_ast.specs.declared.operators.UnaryOp.TheVariants as unary
use Rattle.wasm_ast.specs.declared.operators.BinaryOp.TheVariants as binary
use Rattle.wasm_ast.specs.declared.operators.TestOp.TheVariants as test
use Rattle.wasm_ast.specs.declared.operators.RelationOp.TheVariants as relation
use Rattle.wasm_ast.specs.declared.operators.ConvertOp.TheVariants as convert
use Rattle.wasm_ast.specs.declared.module.Limits.{Limits}
use Rattle.wasm_ast.specs.declared.module.Mutability.{Mutability}
use Rattle.wasm_ast.specs.declared.module.Mutability.TheVariants as mutability
use Rattle.wasm_ast.specs.declared.module.Global as declared_global
use Rattle.wasm_ast.specs.declared.module.Element.{Element}
use Rattle.wasm_ast.specs.declared.module.Segment.{Segment}
use Rattle.wasm_ast.specs.declared.module.Import.{Import}
use Rattle.wasm_ast.specs.declared.module.Func.{Func}
use Rattle.wasm_ast.specs.declared.module.ExportKind.{ExportKind}
use Rattle.wasm_ast.specs.declared.module.ExportKind.TheVariants as kinds
use Rattle.wasm_ast.specs.declared.module.Export.{Export}
use Rattle.wasm_ast.specs.declared.module.Module.{Module}
use Rattle.wasm_ast.specs.Syntax.{Op, simple, block, loop, if', Ops, ops_of}
use Rattle.wasm_ast.specs.Limits.{max_module_bytes, max_functions, max_locals, max_results, max_nesting, max_table_entries, max_memory_pages, params_of}
use Rattle.wasm_binary.specs.declared.fault.Fault.{Fault}
use Rattle.wasm_binary.specs.declared.fault.Fault.TheVariants.{Bad, Over}
use Rattle.wasm_binary.specs.declared.fault.ReadError.{ReadError}
use Rattle.wasm_binary.specs.declared.fault.ReadError.TheVariants as errors
use Rattle.wasm_binary.specs.declared.sections.Front.{Front}
use Rattle.wasm_binary.specs.declared.sections.Stores.{Stores}
use Rattle.wasm_binary.specs.declared.sections.Middle.{Middle}
use Rattle.wasm_binary.specs.Opcodes.{type_byte, func_type_byte, empty_byte, min_byte, min_max_byte, table_type_byte, mutability_byte, block_byte, loop_byte, if_byte, else_byte, end_byte, opcode, reserved_byte, kind_byte, custom_section, type_section, import_section, function_section, table_section, memory_section, global_section, export_section, start_section, element_section, code_section, data_section, preamble}

infixl 10 ◌>>=◌
abbrev pub ◌>>=◌ : {A B : Type 0} → Result A Fault → (A → Result B Fault) → Result B Fault
(Ok x) >>= f = f x
(Err e) >>= f = Err e

-- the fault of bytes that could not be read, wherever it is; none if memory ran out
abbrev pub fault_of : ReadError → Option Fault
fault_of errors.Memory = None
fault_of (errors.Fault f spot) = Some f

-- what a function returned, seen by view, is what reading gives, unless memory ran out
abbrev pub FailsBy : {Y : Type 0} → Option Fault → Result Y Fault → Type 0
FailsBy None read = Unit {0}
FailsBy (Some f) read = read ≡ Err f

abbrev pub Fails : {Y : Type 0} → ReadError → Result Y Fault → Type 0
Fails e read = FailsBy (fault_of e) read

abbrev pub Gives : {X Y : Type 0} → (X → Y) → Result X ReadError → Result Y Fault → Type 0
Gives view (Ok x) read = read ≡ Ok (view x)
Gives view (Err e) read = Fails e read

-- an X, and the rest
abbrev pub Read : Type 0 → Type 0
Read X = Result (X × List ℕ) Fault

-- a fault if the test fails
abbrev pub need : {A : Type 0} → Bool → Fault → Result A Fault → Result A Fault
need b f read = if b then read else Err f

-- ---- bytes and numbers

unfoldable pub read_byte : List ℕ → Read ℕ
read_byte [] = Err Bad
read_byte (b ∷ bs) = Ok (b, bs)

-- whether this byte is the first
unfoldable pub begins_with : ℕ → List ℕ → Bool
begins_with b [] = false
begins_with b (c ∷ cs) = c == b

-- the rest after this byte
unfoldable pub skip_byte : ℕ → List ℕ → Result (List ℕ) Fault
skip_byte b bytes = need (begins_with b bytes) Bad (Ok (drop 1 bytes))

unfoldable pub read_last_unsigned : (bits : ℕ) → ℕ → Result ℕ Fault
read_last_unsigned bits b = need (nat_lt b (2 ^ bits)) Bad (Ok b)

unfoldable pub read_unsigned : (bits : ℕ) → List ℕ → Read ℕ
read_unsigned bits [] = Err Bad
read_unsigned bits (b ∷ bs) =
    if nat_lt b 128 then (read_last_unsigned bits b >>= λ n. Ok (n, bs))
    else need (nat_lt b 256 && nat_lt 7 bits) Bad
    (read_unsigned (bits - 7) bs >>= λ high. Ok (128 * high.0 + (b - 128), high.1))

unfoldable pub read_last_signed : (bits : ℕ) → ℕ → Result ℕ Fault
read_last_signed bits b =
    if nat_lt b 64 then need (nat_lt (2 * b) (2 ^ bits)) Bad (Ok b)
    else need (nat_lt 255 (2 * b + 2 ^ bits)) Bad (Ok (2 ^ bits - (128 - b)))

unfoldable pub read_signed : (bits : ℕ) → List ℕ → Read ℕ
read_signed bits [] = Err Bad
read_signed bits (b ∷ bs) =
    if nat_lt b 128 then (read_last_signed bits b >>= λ n. Ok (n, bs))
    else need (nat_lt b 256 && nat_lt 7 bits) Bad
    (read_signed (bits - 7) bs >>= λ high. Ok (128 * high.0 + (b - 128), high.1))

unfoldable pub read_u32 : List ℕ → Read ℕ
read_u32 bytes = read_unsigned 32 bytes

-- ---- parts

-- this number of bytes, and the rest
unfoldable pub read_bytes : ℕ → List ℕ → Read (List ℕ)
read_bytes n bytes = if nat_lt (length bytes) n then Err Bad else Ok (take n bytes, drop n bytes)

-- the rest after a part of this size, of which nothing may be left
unfoldable pub skip_exact : (size : ℕ) → (left : List ℕ) → List ℕ → Result (List ℕ) Fault
skip_exact size left bytes =
    need (length left == 0) Bad
    (if nat_lt (length bytes) size then Err Bad else Ok (drop size bytes))

unfoldable pub read_sized : {X : Type 0} → (List ℕ → Read X) → List ℕ → Read X
read_sized read bytes = do
  size ← read_u32 bytes
  x ← read (take size.0 size.1)
  rest ← skip_exact size.0 x.1 size.1
  Ok (x.0, rest)

unfoldable pub read_items : {X : Type 0} → (List ℕ → Read X) → ℕ → List ℕ → Read (List X)
read_items read zero bytes = Ok ([], bytes)
read_items read (suc n) bytes = do
  x ← read bytes
  xs ← read_items read n x.1
  Ok (x.0 ∷ xs.0, xs.1)

unfoldable pub read_vector : {X : Type 0} → (List ℕ → Read X) → List ℕ → Read (List X)
read_vector read bytes = do
  n ← read_u32 bytes
  read_items read n.0 n.1

-- they count more items than there are bytes left, where each item takes a byte or more
abbrev pub CountsMore : List ℕ → Type 0
CountsMore bytes =
    (n : ℕ) × (rest : List ℕ) × (read_u32 bytes ≡ Ok (n, rest)) × (length rest < n)

-- a vector whose count, together with this many before it, may not be over this limit
unfoldable pub read_bounded :
    {X : Type 0} → (limited : Bool) → (most before : ℕ) → (List ℕ → Read X) → List ℕ → Read (List X)
read_bounded limited most before read bytes = do
  n ← read_u32 bytes
  if limited && nat_lt most (before + n.0) then Err Over else read_items read n.0 n.1

-- a vector of bytes
unfoldable pub read_byte_vector : List ℕ → Read (List ℕ)
read_byte_vector bytes = do
  n ← read_u32 bytes
  read_bytes n.0 n.1

unfoldable pub read_name : List ℕ → Read (List ℕ)
read_name bytes = do
  name ← read_byte_vector bytes
  need (is_utf8 name.0) Bad (Ok name)

-- ---- types

unfoldable pub val_type_of : ℕ → List ℕ → Read ValType
val_type_of b bs =
    if b == type_byte type.I32 then Ok (type.I32, bs)
    else need (b == type_byte type.I64) Bad (Ok (type.I64, bs))

unfoldable pub read_val_type : List ℕ → Read ValType
read_val_type bytes = read_byte bytes >>= λ b. val_type_of b.0 b.1

unfoldable pub read_func_type : (limited : Bool) → List ℕ → Read FuncType
read_func_type limited bytes = need (begins_with func_type_byte bytes) Bad (do
  params ← read_vector read_val_type (drop 1 bytes)
  results ← read_bounded limited max_results 0 read_val_type params.1
  Ok (record { params = params.0; results = results.0 }, results.1))

-- a signed number of 33 bits that is not negative
unfoldable pub read_block_index : List ℕ → Read BlockType
read_block_index bytes =
    read_signed 33 bytes >>= λ n. need (nat_lt n.0 (2 ^ 32)) Bad (Ok (Index n.0, n.1))

unfoldable pub read_block_type : List ℕ → Read BlockType
read_block_type bytes =
    if begins_with empty_byte bytes then Ok (Empty, drop 1 bytes)
    else (if begins_with (type_byte type.I32) bytes then Ok (One type.I32, drop 1 bytes)
    else (if begins_with (type_byte type.I64) bytes then Ok (One type.I64, drop 1 bytes)
    else read_block_index bytes))

-- a size that may not be over this limit
unfoldable pub read_min : (limited : Bool) → (most : ℕ) → List ℕ → Read ℕ
read_min limited most bytes =
    read_u32 bytes >>= λ n. if limited && nat_lt most n.0 then Err Over else Ok n

unfoldable pub read_limits : (limited : Bool) → (most : ℕ) → List ℕ → Read Limits
read_limits limited most bytes =
    if begins_with min_byte bytes
    then (read_min limited most (drop 1 bytes) >>= λ n. Ok (record { min = n.0; max = None }, n.1))
    else (do
      from ← skip_byte min_max_byte bytes
      n ← read_min limited most from
      m ← read_u32 n.1
      Ok (record { min = n.0; max = Some m.0 }, m.1))

-- ---- instructions without bodies

abbrev pub no_offset : MemArg
no_offset = record { align = 0; offset = 0 }

-- Instructions with zeros for their numbers. Control, variables, memory and constants;
abbrev pub controls : List Simple
controls =
    Unreachable ∷ Nop ∷ Br 0 ∷ BrIf 0 ∷ BrTable 0 [] ∷ Return ∷ Call 0 ∷ CallIndirect 0 ∷ Drop ∷
    Select ∷ Local local.Get 0 ∷ Local local.Set 0 ∷ Local local.Tee 0 ∷ Global global.Get 0 ∷
    Global global.Set 0 ∷ Load load.I32 no_offset ∷ Load load.I64 no_offset ∷
    Load load.I32From8S no_offset ∷ Load load.I32From8U no_offset ∷ Load load.I32From16S no_offset ∷
    Load load.I32From16U no_offset ∷ Load load.I64From8S no_offset ∷ Load load.I64From8U no_offset ∷
    Load load.I64From16S no_offset ∷ Load load.I64From16U no_offset
    ∷ Load load.I64From32S no_offset ∷
    Load load.I64From32U no_offset ∷ Store store.I32 no_offset ∷ Store store.I64 no_offset ∷
    Store store.I32To8 no_offset ∷ Store store.I32To16 no_offset ∷ Store store.I64To8 no_offset ∷
    Store store.I64To16 no_offset ∷ Store store.I64To32 no_offset ∷ MemorySize ∷ MemoryGrow ∷
    Const (value.I32 0) ∷ Const (value.I64 0) ∷ []

-- tests, comparisons and conversions;
abbrev pub comparisons : List Simple
comparisons =
    Test type.I32 test.Eqz ∷ Compare type.I32 relation.Eq ∷ Compare type.I32 relation.Ne ∷
    Compare type.I32 relation.LtS ∷ Compare type.I32 relation.LtU ∷ Compare type.I32 relation.GtS ∷
    Compare type.I32 relation.GtU ∷ Compare type.I32 relation.LeS ∷ Compare type.I32 relation.LeU ∷
    Compare type.I32 relation.GeS ∷ Compare type.I32 relation.GeU ∷ Test type.I64 test.Eqz ∷
    Compare type.I64 relation.Eq ∷ Compare type.I64 relation.Ne ∷ Compare type.I64 relation.LtS ∷
    Compare type.I64 relation.LtU ∷ Compare type.I64 relation.GtS ∷ Compare type.I64 relation.GtU ∷
    Compare type.I64 relation.LeS ∷ Compare type.I64 relation.LeU ∷ Compare type.I64 relation.GeS ∷
    Compare type.I64 relation.GeU ∷ Convert convert.Wrap ∷ Convert convert.ExtendS ∷
    Convert convert.ExtendU ∷ Convert convert.I32From8S ∷ Convert convert.I32From16S ∷
    Convert convert.I64From8S ∷ Convert convert.I64From16S ∷ Convert convert.I64From32S ∷ []

-- and operators.
abbrev pub arithmetics : List Simple
arithmetics =
    Unary type.I32 unary.Clz ∷ Unary type.I32 unary.Ctz ∷ Unary type.I32 unary.Popcnt ∷
    Binary type.I32 binary.Add ∷ Binary type.I32 binary.Sub ∷ Binary type.I32 binary.Mul ∷
    Binary type.I32 binary.DivS ∷ Binary type.I32 binary.DivU ∷ Binary type.I32 binary.RemS ∷
    Binary type.I32 binary.RemU ∷ Binary type.I32 binary.And ∷ Binary type.I32 binary.Or ∷
    Binary type.I32 binary.Xor ∷ Binary type.I32 binary.Shl ∷ Binary type.I32 binary.ShrS ∷
    Binary type.I32 binary.ShrU ∷ Binary type.I32 binary.Rotl ∷ Binary type.I32 binary.Rotr ∷
    Unary type.I64 unary.Clz ∷ Unary type.I64 unary.Ctz ∷ Unary type.I64 unary.Popcnt ∷
    Binary type.I64 binary.Add ∷ Binary type.I64 binary.Sub ∷ Binary type.I64 binary.Mul ∷
    Binary type.I64 binary.DivS ∷ Binary type.I64 binary.DivU ∷ Binary type.I64 binary.RemS ∷
    Binary type.I64 binary.RemU ∷ Binary type.I64 binary.And ∷ Binary type.I64 binary.Or ∷
    Binary type.I64 binary.Xor ∷ Binary type.I64 binary.Shl ∷ Binary type.I64 binary.ShrS ∷
    Binary type.I64 binary.ShrU ∷ Binary type.I64 binary.Rotl ∷ Binary type.I64 binary.Rotr ∷ []

-- the first one with this opcode
unfoldable pub find_opcode : List Simple → (others : Option Simple) → ℕ → Option Simple
find_opcode [] others b = others
find_opcode (s ∷ ss) others b = if b == opcode s then Some s else find_opcode ss others b

unfoldable pub arithmetic_of : ℕ → Option Simple
arithmetic_of b = find_opcode arithmetics None b

unfoldable pub comparison_of : ℕ → Option Simple
comparison_of b = find_opcode comparisons (arithmetic_of b) b

unfoldable pub instruction_of : ℕ → Option Simple
instruction_of b = find_opcode controls (comparison_of b) b

unfoldable pub read_mem_arg : List ℕ → Read MemArg
read_mem_arg bytes = do
  align ← read_u32 bytes
  offset ← read_u32 align.1
  Ok (record { align = align.0; offset = offset.0 }, offset.1)

-- the same instruction with this index
unfoldable pub with_index : Simple → ℕ → Simple
with_index (Br label) n = Br n
with_index (BrIf label) n = BrIf n
with_index (Call func) n = Call n
with_index (Local op index) n = Local op n
with_index (Global op index) n = Global op n
with_index s n = s

unfoldable pub read_index : Simple → List ℕ → Read Simple
read_index s bytes = read_u32 bytes >>= λ n. Ok (with_index s n.0, n.1)

unfoldable pub read_reserved : Simple → List ℕ → Read Simple
read_reserved s bytes = skip_byte reserved_byte bytes >>= λ rest. Ok (s, rest)

unfoldable pub read_call_indirect : List ℕ → Read Simple
read_call_indirect bytes = do
  index ← read_u32 bytes
  read_reserved (CallIndirect index.0) index.1

-- a constant of the type of this one
unfoldable pub read_const : Value → List ℕ → Read Simple
read_const (value.I32 z) bytes = read_signed 32 bytes >>= λ n. Ok (Const (value.I32 n.0), n.1)
read_const (value.I64 z) bytes = read_signed 64 bytes >>= λ n. Ok (Const (value.I64 n.0), n.1)

unfoldable pub read_br_table : List ℕ → Read Simple
read_br_table bytes = do
  labels ← read_vector read_u32 bytes
  other ← read_u32 labels.1
  Ok (BrTable other.0 labels.0, other.1)

-- what follows the opcode of an instruction that is this one but for its numbers
unfoldable pub read_immediates : Simple → List ℕ → Read Simple
read_immediates (Br label) bytes = read_index (Br label) bytes
read_immediates (BrIf label) bytes = read_index (BrIf label) bytes
read_immediates (BrTable other labels) bytes = read_br_table bytes
read_immediates (Call func) bytes = read_index (Call func) bytes
read_immediates (CallIndirect index) bytes = read_call_indirect bytes
read_immediates (Local op index) bytes = read_index (Local op index) bytes
read_immediates (Global op index) bytes = read_index (Global op index) bytes
read_immediates (Load op at) bytes = read_mem_arg bytes >>= λ a. Ok (Load op a.0, a.1)
read_immediates (Store op at) bytes = read_mem_arg bytes >>= λ a. Ok (Store op a.0, a.1)
read_immediates MemorySize bytes = read_reserved MemorySize bytes
read_immediates MemoryGrow bytes = read_reserved MemoryGrow bytes
read_immediates (Const v) bytes = read_const v bytes
read_immediates s bytes = Ok (s, bytes)

unfoldable pub read_as : Option Simple → List ℕ → Read Simple
read_as None bytes = Err Bad
read_as (Some s) bytes = read_immediates s bytes

unfoldable pub read_simple : (opcode : ℕ) → List ℕ → Read Simple
read_simple b bytes = read_as (instruction_of b) bytes

-- ---- instructions with bodies

-- how bodies inside are read, or that no more blocks may be open
abbrev pub Inner : Type 0
Inner = Result (List ℕ → Read (List Op)) Fault

-- the type, the body and the end of a block or a loop
unfoldable pub read_enclosed : (List ℕ → Read (List Op)) → List ℕ → Read (BlockType × Ops)
read_enclosed read bytes = do
  t ← read_block_type bytes
  body ← read t.1
  rest ← skip_byte end_byte body.1
  Ok ((t.0, ops_of body.0), rest)

-- the else arm and the end of an if
unfoldable pub read_else : (List ℕ → Read (List Op)) → List ℕ → Read (List Op)
read_else read bytes = do
  arm ← if begins_with else_byte bytes then read (drop 1 bytes) else Ok ([], bytes)
  rest ← skip_byte end_byte arm.1
  Ok (arm.0, rest)

unfoldable pub read_if : (List ℕ → Read (List Op)) → List ℕ → Read Op
read_if read bytes = do
  t ← read_block_type bytes
  then_arm ← read t.1
  else_arm ← read_else read then_arm.1
  Ok (if' t.0 (ops_of then_arm.0) (ops_of else_arm.0), else_arm.1)

-- what follows the opcode of an instruction that has bodies
unfoldable pub read_nested : (List ℕ → Read (List Op)) → (opcode : ℕ) → List ℕ → Read Op
read_nested read b bytes =
    if b == if_byte then read_if read bytes
    else (read_enclosed read bytes
    >>= λ x. Ok (if b == block_byte then block x.0.0 x.0.1 else loop x.0.0 x.0.1, x.1))

unfoldable pub opens_block : ℕ → Bool
opens_block b = b == block_byte || b == loop_byte || b == if_byte

unfoldable pub read_with_opcode : Inner → (opcode : ℕ) → List ℕ → Read Op
read_with_opcode inner b bytes =
    if opens_block b then (inner >>= λ read. read_nested read b bytes)
    else (read_simple b bytes >>= λ s. Ok (simple s.0, s.1))

unfoldable pub read_op : Inner → List ℕ → Read Op
read_op inner bytes = read_byte bytes >>= λ b. read_with_opcode inner b.0 b.1

-- whether instructions end here: an end or an else is next
unfoldable pub is_end : List ℕ → Bool
is_end bytes = begins_with end_byte bytes || begins_with else_byte bytes

-- at most this many instructions, up to their end
unfoldable pub read_ops : Inner → (most : ℕ) → List ℕ → Read (List Op)
read_ops inner zero bytes = Err Bad
read_ops inner (suc n) bytes =
    if is_end bytes then Ok ([], bytes)
    else (read_op inner bytes >>= λ o. read_ops inner n o.1 >>= λ os. Ok (o.0 ∷ os.0, os.1))

-- instructions up to their end, where this many more blocks may be open
unfoldable pub read_body : (more : ℕ) → List ℕ → Read (List Op)
read_body zero bytes = read_ops (Err Over) (length bytes) bytes
read_body (suc more) bytes = read_ops (Ok (read_body more)) (length bytes) bytes

unfoldable pub inner_of : (more : ℕ) → Inner
inner_of zero = Err Over
inner_of (suc more) = Ok (read_body more)

-- how many blocks may be open: more than there are bytes cannot be
unfoldable pub nesting : (limited : Bool) → List ℕ → ℕ
nesting limited bytes = if limited then max_nesting else length bytes

unfoldable pub read_expression : (limited : Bool) → List ℕ → Read Ops
read_expression limited bytes = do
  os ← read_body (nesting limited bytes) bytes
  rest ← skip_byte end_byte os.1
  Ok (ops_of os.0, rest)

-- ---- code

-- the locals of this number of runs, with this many locals before them
unfoldable pub read_runs : (limited : Bool) → (before : ℕ) → ℕ → List ℕ → Read (List ValType)
read_runs limited before zero bytes = Ok ([], bytes)
read_runs limited before (suc k) bytes = do
  n ← read_u32 bytes
  if limited && nat_lt max_locals (before + n.0) then Err Over else (do
    t ← read_val_type n.1
    others ← read_runs limited (before + n.0) k t.1
    Ok (replicate n.0 t.0 ++ others.0, others.1))

unfoldable pub read_locals : (limited : Bool) → (params : ℕ) → List ℕ → Read (List ValType)
read_locals limited params bytes =
    if limited && nat_lt max_locals params then Err Over
    else (read_u32 bytes >>= λ count. read_runs limited params count.0 count.1)

unfoldable pub read_code : (limited : Bool) → (params index : ℕ) → List ℕ → Read Func
read_code limited params index bytes = do
  locals ← read_locals limited params bytes
  body ← read_expression limited locals.1
  Ok (record { type_index = index; locals = locals.0; body = body.0 }, body.1)

-- the entries of functions with these type indices
unfoldable pub read_entries :
    (limited : Bool) → List FuncType → (indices : List ℕ) → List ℕ → Read (List Func)
read_entries limited types [] bytes = Ok ([], bytes)
read_entries limited types (index ∷ indices) bytes = do
  f ← read_sized (read_code limited (params_of types index) index) bytes
  fs ← read_entries limited types indices f.1
  Ok (f.0 ∷ fs.0, fs.1)

-- a vector of entries, of the same length as the type indices
unfoldable pub read_codes :
    (limited : Bool) → List FuncType → (indices : List ℕ) → List ℕ → Read (List Func)
read_codes limited types indices bytes = do
  n ← read_u32 bytes
  need (n.0 == length indices) Bad (read_entries limited types indices n.1)

-- ---- the items of the other sections

unfoldable pub read_import : List ℕ → Read Import
read_import bytes = do
  m ← read_name bytes
  n ← read_name m.1
  from_type ← skip_byte (kind_byte kinds.Func) n.1
  t ← read_u32 from_type
  Ok (record { «module» = m.0; name = n.0; type_index = t.0 }, t.1)

unfoldable pub read_table : (limited : Bool) → List ℕ → Read Limits
read_table limited bytes =
    skip_byte table_type_byte bytes >>= λ from. read_limits limited max_table_entries from

unfoldable pub read_memory : (limited : Bool) → List ℕ → Read Limits
read_memory limited bytes = read_limits limited max_memory_pages bytes

-- a table, or a memory
abbrev pub read_size : (is_table limited : Bool) → List ℕ → Read Limits
read_size is_table limited bytes =
    if is_table then read_table limited bytes else read_memory limited bytes

unfoldable pub mutability_of : ℕ → List ℕ → Read Mutability
mutability_of b bs =
    if b == mutability_byte mutability.Const then Ok (mutability.Const, bs)
    else need (b == mutability_byte mutability.Var) Bad (Ok (mutability.Var, bs))

unfoldable pub read_mutability : List ℕ → Read Mutability
read_mutability bytes = read_byte bytes >>= λ b. mutability_of b.0 b.1

unfoldable pub read_global : (limited : Bool) → List ℕ → Read declared_global.Global
read_global limited bytes = do
  t ← read_val_type bytes
  m ← read_mutability t.1
  init ← read_expression limited m.1
  Ok (record { val_type = t.0; mutability = m.0; init = init.0 }, init.1)

unfoldable pub kind_of : ℕ → List ℕ → Read ExportKind
kind_of b bs =
    if b == kind_byte kinds.Func then Ok (kinds.Func, bs)
    else (if b == kind_byte kinds.Table then Ok (kinds.Table, bs)
    else (if b == kind_byte kinds.Memory then Ok (kinds.Memory, bs)
    else need (b == kind_byte kinds.Global) Bad (Ok (kinds.Global, bs))))

unfoldable pub read_kind : List ℕ → Read ExportKind
read_kind bytes = read_byte bytes >>= λ b. kind_of b.0 b.1

unfoldable pub read_export : List ℕ → Read Export
read_export bytes = do
  n ← read_name bytes
  k ← read_kind n.1
  i ← read_u32 k.1
  Ok (record { name = n.0; kind = k.0; index = i.0 }, i.1)

unfoldable pub read_start : List ℕ → Read (Option ℕ)
read_start bytes = read_u32 bytes >>= λ f. Ok (Some f.0, f.1)

-- an index, and the expression of an offset
unfoldable pub read_place : (limited : Bool) → List ℕ → Read (ℕ × Ops)
read_place limited bytes = do
  i ← read_u32 bytes
  offset ← read_expression limited i.1
  Ok ((i.0, offset.0), offset.1)

unfoldable pub read_element : (limited : Bool) → List ℕ → Read Element
read_element limited bytes = do
  place ← read_place limited bytes
  funcs ← read_vector read_u32 place.1
  Ok (record { table = place.0.0; offset = place.0.1; funcs = funcs.0 }, funcs.1)

unfoldable pub read_segment : (limited : Bool) → List ℕ → Read Segment
read_segment limited bytes = do
  place ← read_place limited bytes
  contents ← read_byte_vector place.1
  Ok (record { memory = place.0.0; offset = place.0.1; bytes = contents.0 }, contents.1)

-- ---- sections

-- the name of a custom section; the rest of its contents means nothing
unfoldable pub read_custom_name : List ℕ → Read (List ℕ)
read_custom_name bytes = read_name bytes >>= λ n. Ok (n.0, [])

-- the rest after the contents of a custom section
unfoldable pub skip_custom : List ℕ → Result (List ℕ) Fault
skip_custom bytes = read_sized read_custom_name bytes >>= λ x. Ok x.1

-- the rest after at most this many custom sections
unfoldable pub skip_some_customs : (most : ℕ) → List ℕ → Result (List ℕ) Fault
skip_some_customs zero bytes = Ok bytes
skip_some_customs (suc n) bytes =
    if begins_with custom_section bytes
    then (skip_custom (drop 1 bytes) >>= λ rest. skip_some_customs n rest) else Ok bytes

unfoldable pub skip_customs : List ℕ → Result (List ℕ) Fault
skip_customs bytes = skip_some_customs (length bytes) bytes

-- the section of this id, or the empty value
unfoldable pub read_part : {X : Type 0} → ℕ → (List ℕ → Read X) → (empty : X) → List ℕ → Read X
read_part id read empty bytes = if begins_with id bytes then (do
  x ← read_sized read (drop 1 bytes)
  rest ← skip_customs x.1
  Ok (x.0, rest)) else Ok (empty, bytes)

abbrev pub read_section : {X : Type 0} → ℕ → (List ℕ → Read (List X)) → List ℕ → Read (List X)
read_section id read = read_part id read []

-- ---- modules

unfoldable pub strip_preamble : List ℕ → Result (List ℕ) Fault
strip_preamble bytes = need (bytes_eq (take 8 bytes) preamble) Bad (Ok (drop 8 bytes))

-- types, imports and type indices
pub record Head : Type 0 where
  pub types : List FuncType
  pub imports : List Import
  pub indices : List ℕ

abbrev pub head_of : Front → Head
head_of f = record { types = f.types.items; imports = f.imports.items; indices = f.indices.items }

-- the sections up to the function section
unfoldable pub read_head : (limited : Bool) → List ℕ → Read Head
read_head limited bytes = do
  from_types ← skip_customs bytes
  types ← read_section type_section (read_vector (read_func_type limited)) from_types
  imports ← read_section import_section (read_bounded limited max_functions 0 read_import) types.1
  indices ← read_section function_section
      (read_bounded limited max_functions (length imports.0) read_u32) imports.1
  Ok (record { types = types.0; imports = imports.0; indices = indices.0 }, indices.1)

-- tables, memories and globals
pub record Stored : Type 0 where
  pub tables : List Limits
  pub memories : List Limits
  pub globals : List declared_global.Global

abbrev pub stored_of : Stores → Stored
stored_of s =
    record { tables = s.tables.items; memories = s.memories.items; globals = s.globals.items }

-- the sections after it up to the global section
unfoldable pub read_stores : (limited : Bool) → List ℕ → Read Stored
read_stores limited bytes = do
  tables ← read_section table_section (read_vector (read_size true limited)) bytes
  memories ← read_section memory_section (read_vector (read_size false limited)) tables.1
  globals ← read_section global_section (read_vector (read_global limited)) memories.1
  Ok (record { tables = tables.0; memories = memories.0; globals = globals.0 }, globals.1)

-- exports, start function and element segments
pub record Between : Type 0 where
  pub exports : List Export
  pub start : Option ℕ
  pub elements : List Element

abbrev pub between_of : Middle → Between
between_of m = record { exports = m.exports.items; start = m.start; elements = m.elements.items }

-- the sections after it up to the element section
unfoldable pub read_middle : (limited : Bool) → List ℕ → Read Between
read_middle limited bytes = do
  exports ← read_section export_section (read_vector read_export) bytes
  start ← read_part start_section read_start None exports.1
  elements ← read_section element_section (read_vector (read_element limited)) start.1
  Ok (record { exports = exports.0; start = start.0; elements = elements.0 }, elements.1)

-- the code section of functions with these type indices
unfoldable pub read_funcs :
    (limited : Bool) → List FuncType → (indices : List ℕ) → List ℕ → Read (List Func)
read_funcs limited types indices bytes = do
  funcs ← read_section code_section (read_codes limited types indices) bytes
  need (length funcs.0 == length indices) Bad (Ok funcs)

-- the data section, and nothing after it
unfoldable pub read_last : (limited : Bool) → List ℕ → Result (List Segment) Fault
read_last limited bytes = do
  segments ← read_section data_section (read_vector (read_segment limited)) bytes
  need (length segments.1 == 0) Bad (Ok segments.0)

abbrev pub module_of : Head → Stored → Between → List Func → List Segment → Module
module_of h s b funcs segments = record {
  types = h.types;
  imports = h.imports;
  funcs = funcs;
  tables = s.tables;
  memories = s.memories;
  globals = s.globals;
  exports = b.exports;
  start = b.start;
  elements = b.elements;
  segments = segments;
}

-- all that follows the preamble
unfoldable pub read_sections : (limited : Bool) → List ℕ → Result Module Fault
read_sections limited bytes = do
  h ← read_head limited bytes
  s ← read_stores limited h.1
  m ← read_middle limited s.1
  funcs ← read_funcs limited h.0.types h.0.indices m.1
  segments ← read_last limited funcs.1
  Ok (module_of h.0 s.0 m.0 funcs.0 segments)

-- all of the bytes
unfoldable pub read_module : (limited : Bool) → List ℕ → Result Module Fault
read_module limited bytes =
    if limited && nat_lt max_module_bytes (length bytes) then Err Over
    else (strip_preamble bytes >>= λ sections. read_sections limited sections)
