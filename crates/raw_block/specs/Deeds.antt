-- The right to free a block.
use Rattle.std.specs.Prelude.{ℕ}
use base.Fml.{Fml}
use mir.Syntax.{Ty, ty_array}
use mir.Raw.{raw}
use denote.RattleType.{RattleType}
use denote.Memory.{lone}
use denote.RawPtr.{Ptr}

-- the allocator's token for a block of n places at p
abbrev pub deed_owns : RattleType → (Ty → Ptr → Fml) → Ptr → ℕ → Fml
deed_owns R token p n = token (raw (ty_array (lone R.mir) n)) p
