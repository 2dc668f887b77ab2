-- Where a row of places begins.
use Rattle.std.specs.Prelude.{◌≡◌}
use denote.RawPtr.{InBlock}
use Rattle.core.specs.declared.slots.Slots.{Slots}
use Rattle.std.specs.Mem.Slots.{slots_ptr}
use Rattle.raw_block.specs.declared.block.Start.{Start}

-- the row is in a block, and this is where it begins
abbrev pub BeginsAt : {X : Type 0} → Slots X → Start X → Type 0
BeginsAt row start = InBlock (slots_ptr row) × (start.ptr ≡ slots_ptr row)
