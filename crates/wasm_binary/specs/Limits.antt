-- Bytes that pass a limit of the profile: they are too many; or their front, read case by case, reaches a
-- number, a sum or a depth over a limit of modules. Nothing is asked of what follows that number.
-- The sizes of the section and of the body that contain it are not checked: what counts is within
-- them and within the bytes.
use Rattle.std.specs.Prelude.{◌≡◌, ℕ, zero, suc, ◌+◌, ◌<◌, List, ◌∷◌, length, take, Some, slice_get, ◌⊎◌}
use Rattle.wasm_ast.specs.declared.values.ValType.{ValType}
use Rattle.wasm_ast.specs.declared.instr.BlockType.{BlockType}
use Rattle.wasm_ast.specs.declared.module.Mutability.{Mutability}
use Rattle.wasm_ast.specs.declared.module.Func.{Func}
use Rattle.wasm_ast.specs.declared.module.Module.{Module}
use Rattle.wasm_ast.specs.Syntax.{Ops}
use Rattle.wasm_ast.specs.Limits.{max_module_bytes, max_functions, max_locals, max_results, max_nesting, max_table_entries, max_memory_pages, params_of}
use Rattle.wasm_binary.specs.Numbers.{IsU32}
use Rattle.wasm_binary.specs.Opcodes.{func_type_byte, min_byte, min_max_byte, table_type_byte, mutability_byte, block_byte, loop_byte, if_byte, else_byte, type_section, import_section, function_section, table_section, memory_section, global_section, element_section, code_section, data_section}
use Rattle.wasm_binary.specs.Grammar.{Form, AreItems, IsVector, IsValType, IsFuncType, IsBlockType, AreOps, IsRun, locals_of, AreLocals, IsEntry, IsTable, IsMemory, IsGlobal, IsElement, IsSegment, indices_of, UpToPreamble, UpToTypes, UpToImports, UpToFunctions, UpToTables, UpToMemories, UpToStart, UpToElements, UpToCodes}

-- ---- places that are read before they are whole

-- after a size: of the bytes that it takes, those that are there
abbrev pub WithinSize : (List ℕ → Type 0) → List ℕ → Type 0
WithinSize P bytes = (size : ℕ) × (mid : List ℕ) × IsU32 bytes size mid × P (take size mid)

-- within the section of this id, which begins here
abbrev pub InSection : (id : ℕ) → (List ℕ → Type 0) → List ℕ → Type 0
InSection id P bytes = (from : List ℕ) × (bytes ≡ id ∷ from) × WithinSize P from

-- within a vector: some items are whole, and the next one begins so
abbrev pub InVector :
    {X : Type 0} → Form X → (P : (count : ℕ) → (xs : List X) → List ℕ → Type 0) → List ℕ → Type 0
InVector {X} IsX P bytes =
    (count : ℕ) × (from : List ℕ) × (xs : List X) × (mid : List ℕ)
    × IsU32 bytes count from × AreItems IsX from xs mid × (length xs < count) × P count xs mid

-- ---- what is over a limit

-- a number that is over the limit together with this many before it
abbrev pub NumberOver : (limit before : ℕ) → List ℕ → Type 0
NumberOver limit before bytes =
    (n : ℕ) × (rest : List ℕ) × IsU32 bytes n rest × (limit < before + n)

-- a function type whose parameters are whole, and whose results are too many
abbrev pub ResultsOver : List ℕ → Type 0
ResultsOver bytes =
    (from : List ℕ) × (params : List ValType) × (mid : List ℕ) × (bytes ≡ func_type_byte ∷ from)
    × IsVector IsValType from params mid × NumberOver max_results 0 mid

-- locals of a function with this many parameters: the parameters are too many by themselves; or some runs
-- are whole, and the count of the next one makes too many
abbrev pub LocalsOver : (params : ℕ) → List ℕ → Type 0
LocalsOver params bytes =
    (max_locals < params)
    ⊎ InVector IsRun (λ count runs. NumberOver max_locals (params + length (locals_of runs))) bytes

-- limits of a table or a memory, whose first size is over
abbrev pub LimitsOver : (most : ℕ) → List ℕ → Type 0
LimitsOver most bytes =
    (flag : ℕ) × (from : List ℕ) × (bytes ≡ flag ∷ from)
    × ((flag ≡ min_byte) ⊎ (flag ≡ min_max_byte))
    × NumberOver most 0 from

abbrev pub TableOver : List ℕ → Type 0
TableOver bytes =
    (from : List ℕ) × (bytes ≡ table_type_byte ∷ from) × LimitsOver max_table_entries from

abbrev pub MemoryOver : List ℕ → Type 0
MemoryOver bytes = LimitsOver max_memory_pages bytes

-- ---- blocks that are open

-- the opcode of an instruction that has bodies
abbrev pub OpensBlock : ℕ → Type 0
OpensBlock b = (b ≡ block_byte) ⊎ (b ≡ loop_byte) ⊎ (b ≡ if_byte)

-- the bytes begin with the opcode and the type of a block, a loop or an if, and its body follows
abbrev pub BeginsBlock : (bytes : List ℕ) → (body : List ℕ) → Type 0
BeginsBlock bytes body =
    (b : ℕ) × (from : List ℕ) × (type : BlockType) × (bytes ≡ b ∷ from) × OpensBlock b
    × IsBlockType from type body

-- instructions where this many more blocks may be open, and one more than these opens: after whole
-- instructions its opcode (its type is not read); or after whole instructions a block, whose body is so, or
-- whose else arm is so
unfoldable pub TooDeep : (more : ℕ) → List ℕ → Type 0
TooDeep zero bytes =
    (os : Ops) × (b : ℕ) × (rest : List ℕ) × AreOps bytes os (b ∷ rest) × OpensBlock b
TooDeep (suc more) bytes =
    (os : Ops) × (mid : List ℕ) × (body : List ℕ) × AreOps bytes os mid × BeginsBlock mid body
    × (TooDeep more body
    ⊎ ((rest : List ℕ) × (mid ≡ if_byte ∷ rest) × (then_arm : Ops) × (else_arm : List ℕ)
    × AreOps body then_arm (else_byte ∷ else_arm) × TooDeep more else_arm))

-- code in which too many blocks are open at once, after its locals
abbrev pub BlocksOver : (params : ℕ) → List ℕ → Type 0
BlocksOver params bytes =
    (locals : List ValType) × (mid : List ℕ) × AreLocals bytes locals mid × TooDeep max_nesting mid

-- a global whose first value has too many
abbrev pub GlobalOver : List ℕ → Type 0
GlobalOver bytes =
    (type : ValType) × (mutability : Mutability) × (from : List ℕ) × (mid : List ℕ)
    × IsValType bytes type from
    × (from ≡ mutability_byte mutability ∷ mid) × TooDeep max_nesting mid

-- an element segment or a data segment whose offset has too many
abbrev pub OffsetOver : List ℕ → Type 0
OffsetOver bytes = (index : ℕ) × (from : List ℕ) × IsU32 bytes index from × TooDeep max_nesting from

-- after whole entries, the code of the next function of m, which is over so with its number of parameters
abbrev pub EntryOver :
    (IsCodeOver : (params : ℕ) → List ℕ → Type 0) → (m : Module) → (count : ℕ) → (funcs : List Func)
    → List ℕ → Type 0
EntryOver IsCodeOver m count funcs bytes =
    (index : ℕ) × (count ≡ length m.funcs)
    × (slice_get (indices_of m.funcs) (length funcs) ≡ Some index)
    × WithinSize (IsCodeOver (params_of m.types index)) bytes

-- ---- bytes that pass a limit

pub data Over (bytes : List ℕ) : Type 0 where
  too_many_bytes : max_module_bytes < length bytes → Over bytes
  too_many_results : (m : Module) (rest : List ℕ) → UpToPreamble bytes m rest
      → InSection type_section (InVector IsFuncType (λ _ _. ResultsOver)) rest → Over bytes
  too_many_imports : (m : Module) (rest : List ℕ) → UpToTypes bytes m rest
      → InSection import_section (NumberOver max_functions 0) rest → Over bytes
  -- with the imports
  too_many_functions : (m : Module) (rest : List ℕ) → UpToImports bytes m rest
      → InSection function_section (NumberOver max_functions (length m.imports)) rest → Over bytes
  table_too_large : (m : Module) (rest : List ℕ) → UpToFunctions bytes m rest
      → InSection table_section (InVector IsTable (λ _ _. TableOver)) rest → Over bytes
  memory_too_large : (m : Module) (rest : List ℕ) → UpToTables bytes m rest
      → InSection memory_section (InVector IsMemory (λ _ _. MemoryOver)) rest → Over bytes
  global_too_deep : (m : Module) (rest : List ℕ) → UpToMemories bytes m rest
      → InSection global_section (InVector IsGlobal (λ _ _. GlobalOver)) rest → Over bytes
  element_too_deep : (m : Module) (rest : List ℕ) → UpToStart bytes m rest
      → InSection element_section (InVector IsElement (λ _ _. OffsetOver)) rest → Over bytes
  -- with the parameters
  too_many_locals : (m : Module) (rest : List ℕ) → UpToElements bytes m rest
      → InSection code_section (InVector IsEntry (EntryOver LocalsOver m)) rest → Over bytes
  code_too_deep : (m : Module) (rest : List ℕ) → UpToElements bytes m rest
      → InSection code_section (InVector IsEntry (EntryOver BlocksOver m)) rest → Over bytes
  segment_too_deep : (m : Module) (rest : List ℕ) → UpToCodes bytes m rest
      → InSection data_section (InVector IsSegment (λ _ _. OffsetOver)) rest → Over bytes
