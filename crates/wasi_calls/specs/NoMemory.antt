-- The memory that a call is given, if the module has one. A module without a memory has one of no bytes.
use Rattle.std.specs.Prelude.{◌⊎◌, Option, Some, None}
use Rattle.std.proofs.Common.{inl, inr}
use Rattle.std.specs.Borrow.{MutBor}
use Rattle.linear_memory.specs.Memory.{Memory, new_memory}
use Rattle.linear_memory.specs.declared.memory.LinearMemory.{LinearMemory}

abbrev pub no_memory : Memory
no_memory = new_memory 0 0

-- as the call finds it
abbrev pub memory_before : Option (MutBor LinearMemory) → Memory
memory_before None = no_memory
memory_before (Some m) = m.now

-- as the call leaves it: the cases are those of the option, without and with a memory
abbrev pub memory_after : Unit {0} ⊎ ((MutBor LinearMemory × Unit {0}) ⊎ ⊥) → Memory
memory_after (inl none) = no_memory
memory_after (inr (inl m)) = m.0.now
memory_after (inr (inr never)) = elim never [ ]
