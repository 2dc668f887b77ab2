-- Which bytes of a block are written, and who frees it.
use Rattle.std.specs.Prelude.{◌≡◌, ℕ, ◌≤◌}
use Rattle.std.specs.Mem.Slots.{slots_filled, slots_len, slots_ptr}
use Rattle.std.specs.Mem.Slots.Ownership.{Filled}
use Rattle.core.specs.declared.slots.Slots.{Slots}
use Rattle.std.specs.declared.alloc.Global.{Global}
use Rattle.raw_block.specs.declared.block.Deed.{Deed}

-- the first n places hold a byte
abbrev pub HasFront : Slots ℕ → (n : ℕ) → Type 0
HasFront row n = (n ≤ slots_len row) × Filled (slots_filled row) 0 n

-- the second row has each front that the first has
abbrev pub KeepsFronts : Slots ℕ → Slots ℕ → Type 0
KeepsFronts old new = (n : ℕ) → HasFront old n → HasFront new n

-- the whole block is the row's, and the deed is of it
abbrev pub IsOwner : Deed ℕ Global → Slots ℕ → Global → Type 0
IsOwner d row alloc = (d.at ≡ slots_ptr row) × (d.len ≡ slots_len row) × (d.alloc ≡ alloc)
