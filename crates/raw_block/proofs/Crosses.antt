-- A block may go to another thread: what it owns are places, and the right to free them.
use Rattle.std.specs.Prelude.{ℕ, Bool, true, false, List, [], ◌∷◌}
use base.Shift.{Keyless}
use denote.RattleType.{RattleType}
use denote.RawPtr.{Ptr, block_ptr, null_ptr, ◌+ₚ◌}
use denote.Struct.Struct.{exits_of}
use denote.Struct.Owning.{fields, shape, to}
use denote.Param.Send.{IsSend, AllSend, owning_send, struct_send, sendable}
use Rattle.core.specs.declared.alloc.Allocator.{Ghosts}
use Rattle.core.specs.Mem.Slots.Ownership.{bytes_of, slot, slots, owned}
use Rattle.core.specs.contracts.slots.Slots as row
use Rattle.std_alloc.proofs.SendSync.{FreesAnywhere, lies, quiet}
use Rattle.raw_block.specs.contracts.block.Deed as deed

module _ (R : RattleType) where
  slot-Keyless : IsSend R → (f : Bool) (p : Ptr) (x : R.Denot) → Keyless (slot R f p x)
  slot-Keyless s true p x = lies R s p x
  slot-Keyless s false (block_ptr b o) x = tt
  slot-Keyless s false null_ptr x = tt

  slots-Keyless : IsSend R → (p : Ptr) (xs : List R.Denot) (fs : List Bool) → Keyless (slots R p xs fs)
  slots-Keyless s p [] fs = tt
  slots-Keyless s p (x ∷ xs) [] = tt
  slots-Keyless s p (x ∷ xs) (f ∷ fs) = (slot-Keyless s f p x, slots-Keyless s (p +ₚ bytes_of R) xs fs)

  owned-Keyless : IsSend R → (p : Ptr) (n : ℕ) (xs : List R.Denot) (fs : List Bool) → Keyless (owned R p n xs fs)
  owned-Keyless s (block_ptr b o) n xs fs = (tt, slots-Keyless s (block_ptr b o) xs fs)
  owned-Keyless s null_ptr n xs fs = (tt, tt)

  pub row_send : IsSend R → IsSend (row.the_row R)
  row_send s =
      let O = row.the_type R in
      let all : AllSend (fields O) = (search sendable, (search sendable, tt)) in
      owning_send O all (λ d. owned-Keyless s d.ptr d.len d.items d.filled)
      (λ k. quiet (to O) (exits_of k (fields O)) ((struct_send (shape O) all).leaving k))

  pub deed_send : (A : RattleType) (g : Ghosts A.Denot) → FreesAnywhere A.Denot g → IsSend (deed.the_row R A g)
  deed_send A g f =
      let O = deed.the_type R A g in
      let all : AllSend (fields O) = (search sendable, tt) in
      owning_send O all (λ d. f.frees d.alloc _ d.at)
      (λ k. quiet (to O) (exits_of k (fields O)) ((struct_send (shape O) all).leaving k))
