-- An instruction as one line of text (6.5), and of one that has bodies its opening line: numbers
-- for indices, decimal constants with their sign, an offset that is not 0, and an alignment that is
-- not natural; one space between words.
use Rattle.std.specs.Prelude.{ℕ, ◌-◌, ◌^◌, ◌<◌, List, [], ◌++◌, length, codes, decimal, nat_lt, ◌==◌, if◌then◌else◌, Result}
use Rattle.std.specs.List.{flat_map}
use Rattle.wasm_ast.specs.declared.values.Value.TheVariants.{I32, I64}
use Rattle.wasm_ast.specs.declared.instr.BlockType.{BlockType}
use Rattle.wasm_ast.specs.declared.instr.BlockType.TheVariants.{Empty, One, Index}
use Rattle.wasm_ast.specs.declared.instr.MemArg.{MemArg}
use Rattle.wasm_ast.specs.declared.instr.Simple.{Simple}
use Rattle.wasm_ast.specs.declared.instr.Simple.TheVariants as instr
use Rattle.wasm_ast.specs.Syntax.{Op, simple, block, loop, if'}
use Rattle.wasm_ast.specs.Access.{load_bytes, store_bytes}
use Rattle.wasm_ast.specs.Types.{type_of}
use Rattle.wasm_ast.specs.Numerals.{signed}
use Rattle.text_assembler.specs.declared.keyword.Keyword.{Keyword}
use Rattle.text_assembler.specs.declared.keyword.Keyword.TheVariants as keyword
use Rattle.text_assembler.specs.declared.fault.Fault.{Fault}
use Rattle.text_assembler.specs.declared.scopes.Scopes.{Scopes}
use Rattle.text_assembler.specs.Reading.{◌>>=◌}
use Rattle.text_assembler.specs.Tokens.{tokens_of}
use Rattle.text_assembler.specs.Words.{type_word, keyword_word}
use Rattle.text_assembler.specs.Names.{Ids}
use Rattle.text_assembler.specs.Phrases.{Tokens}
use Rattle.text_assembler.specs.Instructions.{Bodies, read_op}

-- the keyword of an instruction without a body
abbrev pub keyword_for : Simple → Keyword
keyword_for instr.Unreachable = keyword.Unreachable
keyword_for instr.Nop = keyword.Nop
keyword_for (instr.Br label) = keyword.Br
keyword_for (instr.BrIf label) = keyword.BrIf
keyword_for (instr.BrTable other labels) = keyword.BrTable
keyword_for instr.Return = keyword.Return
keyword_for (instr.Call func) = keyword.Call
keyword_for (instr.CallIndirect index) = keyword.CallIndirect
keyword_for instr.Drop = keyword.Drop
keyword_for instr.Select = keyword.Select
keyword_for (instr.Local op index) = keyword.Local op
keyword_for (instr.Global op index) = keyword.Global op
keyword_for (instr.Load op at) = keyword.Load op
keyword_for (instr.Store op at) = keyword.Store op
keyword_for instr.MemorySize = keyword.MemorySize
keyword_for instr.MemoryGrow = keyword.MemoryGrow
keyword_for (instr.Const v) = keyword.Const (type_of v)
keyword_for (instr.Unary t op) = keyword.Unary t op
keyword_for (instr.Binary t op) = keyword.Binary t op
keyword_for (instr.Test t op) = keyword.Test t op
keyword_for (instr.Compare t op) = keyword.Compare t op
keyword_for (instr.Convert op) = keyword.Convert op

abbrev pub numbered : ℕ → List ℕ
numbered n = codes " " ++ decimal n

abbrev pub offset_part : MemArg → List ℕ
offset_part at = if at.offset == 0 then [] else codes " offset=" ++ decimal at.offset

abbrev pub align_part : (natural : ℕ) → MemArg → List ℕ
align_part natural at =
    if 2 ^ at.align == natural then [] else codes " align=" ++ decimal (2 ^ at.align)

-- the use of a type, without its parameters and results
abbrev pub use_of : ℕ → List ℕ
use_of index = codes " (type " ++ decimal index ++ codes ")"

-- what follows the keyword
abbrev pub operands : Simple → List ℕ
operands (instr.Br label) = numbered label
operands (instr.BrIf label) = numbered label
operands (instr.BrTable other labels) = flat_map numbered labels ++ numbered other
operands (instr.Call func) = numbered func
operands (instr.CallIndirect index) = use_of index
operands (instr.Local op index) = numbered index
operands (instr.Global op index) = numbered index
operands (instr.Load op at) = offset_part at ++ align_part (load_bytes op) at
operands (instr.Store op at) = offset_part at ++ align_part (store_bytes op) at
operands (instr.Const (I32 n)) = codes " " ++ signed 32 n
operands (instr.Const (I64 n)) = codes " " ++ signed 64 n
operands other = []

-- what follows the keyword of an instruction that has bodies
abbrev pub block_type_part : BlockType → List ℕ
block_type_part Empty = []
block_type_part (One t) = codes " (result " ++ type_word t ++ codes ")"
block_type_part (Index index) = use_of index

abbrev pub line_of : Op → List ℕ
line_of (simple s) = keyword_word (keyword_for s) ++ operands s
line_of (block type body) = codes "block" ++ block_type_part type
line_of (loop type body) = codes "loop" ++ block_type_part type
line_of (if' type then_arm else_arm) = codes "if" ++ block_type_part type

-- the exponent of an alignment is below 32
abbrev pub HasAlignment : Simple → Type 0
HasAlignment (instr.Load op at) = at.align < 32
HasAlignment (instr.Store op at) = at.align < 32
HasAlignment other = Unit {0}

abbrev pub IsAligned : Op → Type 0
IsAligned (simple s) = HasAlignment s
IsAligned other = Unit {0}

-- ---- a line, read by the grammar of instructions

-- the type that the type of a block names is written
abbrev pub IsWrittenType : Scopes → BlockType → Type 0
IsWrittenType s (Index index) = index < length s.signatures
IsWrittenType s other = Unit {0}

-- the type that an instruction names is written, be it that of an indirect call or of a block
abbrev pub IsWritten : Scopes → Op → Type 0
IsWritten s (simple (instr.CallIndirect index)) = index < length s.signatures
IsWritten s (simple other) = Unit {0}
IsWritten s (block type body) = IsWrittenType s type
IsWritten s (loop type body) = IsWrittenType s type
IsWritten s (if' type then_arm else_arm) = IsWrittenType s type

-- what is read of a line as an instruction, in these scopes and with these labels, where bodies are read so
abbrev pub read_instr_line :
    Scopes → (locals : Ids) → Result Bodies Fault → (labels : Ids) → List ℕ
    → Result (Op × Tokens) Fault
read_instr_line s locals inner labels line = tokens_of line >>= read_op s locals inner labels
