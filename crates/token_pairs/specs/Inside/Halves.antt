-- What the tokens of a pair own: the two halves of a name's value. Both halves have to be there to change it.
use Rattle.std.specs.Prelude.{ℕ}
use base.Fml.{Fml, fobs, fauth}
use denote.RattleType.{RattleType}

abbrev pub stub_owns : (R : RattleType) → ℕ → R.Denot → Fml
stub_owns R γ x = fauth γ (R.coded.code x)

abbrev pub slip_owns : (R : RattleType) → ℕ → R.Denot → Fml
slip_owns R γ x = fobs γ (R.coded.code x)
