-- A row that has the same places after a store has the same start and the same owner.
use Rattle.std.proofs.Common.{ℕ, sym, subst, ◌∙◌}
use denote.RawPtr.{InBlock}
use Rattle.std.specs.Mem.Slots.{SamePlaces}
use Rattle.core.specs.declared.slots.Slots.{Slots}
use Rattle.std.specs.declared.alloc.Global.{Global}
use Rattle.raw_block.specs.declared.block.Deed.{Deed}
use Rattle.raw_block.specs.declared.block.Start.{Start}
use Rattle.raw_block.specs.Starts.{BeginsAt}
use Rattle.linear_memory.specs.Inside.Fronts.{IsOwner}

pub start_kept : (old new : Slots ℕ) (start : Start ℕ) → SamePlaces old new → BeginsAt old start → BeginsAt new start
start_kept old new start same is = (subst InBlock (sym same.start) is.0, is.1 ∙ sym same.start)

pub owner_kept : (d : Deed ℕ Global) (old new : Slots ℕ) (alloc : Global) → SamePlaces old new
    → IsOwner d old alloc → IsOwner d new alloc
owner_kept d old new alloc same is = (is.0 ∙ sym same.start, is.1 ∙ sym same.count, is.2)
