-- The names of traps, and the numbers and names of refusals.
use Rattle.std.specs.Prelude.{ℕ, List, codes}
use Rattle.wasm_ast.specs.declared.trap.Trap.{Trap}
use Rattle.wasm_ast.specs.declared.trap.Trap.TheVariants as trap
use Rattle.wasm_ast.specs.declared.refusal.Refusal.{Refusal}
use Rattle.wasm_ast.specs.declared.refusal.Refusal.TheVariants as refusal

abbrev pub trap_name : Trap → List ℕ
trap_name trap.Unreachable = codes "unreachable"
trap_name trap.IntegerDivideByZero = codes "integer divide by zero"
trap_name trap.IntegerOverflow = codes "integer overflow"
trap_name trap.OutOfBoundsMemoryAccess = codes "out of bounds memory access"
trap_name trap.UndefinedElement = codes "undefined element"
trap_name trap.UninitializedElement = codes "uninitialized element"
trap_name trap.IndirectCallTypeMismatch = codes "indirect call type mismatch"
trap_name trap.Exhausted = codes "exhausted"
trap_name trap.TurnLimit = codes "turn_limit"

-- the number and the name of a refusal
abbrev pub refusal_entry : Refusal → ℕ × List ℕ
refusal_entry refusal.BadRequest = (1, codes "BadRequest")
refusal_entry refusal.BadId = (2, codes "BadId")
refusal_entry refusal.Exists = (3, codes "Exists")
refusal_entry refusal.NotFound = (4, codes "NotFound")
refusal_entry refusal.NoContent = (5, codes "NoContent")
refusal_entry refusal.InUse = (6, codes "InUse")
refusal_entry refusal.BadModule = (7, codes "BadModule")
refusal_entry (refusal.Invalid at) = (8, codes "Invalid")
refusal_entry refusal.Limit = (9, codes "Limit")
refusal_entry refusal.BadConfig = (10, codes "BadConfig")
refusal_entry refusal.WrongStatus = (11, codes "WrongStatus")
refusal_entry refusal.Busy = (12, codes "Busy")
refusal_entry refusal.OutOfRange = (13, codes "OutOfRange")
refusal_entry refusal.TooMany = (14, codes "TooMany")
refusal_entry refusal.JournalFull = (15, codes "JournalFull")
refusal_entry refusal.DigestConflict = (16, codes "DigestConflict")
refusal_entry refusal.NoMemory = (17, codes "NoMemory")
refusal_entry (refusal.BadText line column) = (18, codes "BadText")
refusal_entry refusal.Closed = (19, codes "Closed")
refusal_entry refusal.JournalFault = (20, codes "JournalFault")
refusal_entry refusal.NoEntry = (21, codes "NoEntry")
refusal_entry refusal.BadImport = (22, codes "BadImport")
refusal_entry refusal.SegmentOutOfBounds = (23, codes "SegmentOutOfBounds")

abbrev pub refusal_number : Refusal → ℕ
refusal_number r = (refusal_entry r).0

abbrev pub refusal_name : Refusal → List ℕ
refusal_name r = (refusal_entry r).1
