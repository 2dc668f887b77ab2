-- A `Front` holds names alone, so it may cross threads.
use Rattle.std.proofs.Common.{ℕ, List, [], ◌∷◌}
use base.Shift.{Keyless}
use denote.RattleType.{RattleType}
use denote.Param.Send.{IsSend, IsSync, sendable}
use denote.Struct.Owning
use denote.Struct.Struct
use Rattle.call_journal.specs.Inside.Known.{known}
use Rattle.call_journal.specs.contracts.front.Front as Front

known_keyless : (R : RattleType) (cs : List (ℕ × R.Denot)) → Keyless (known R cs)
known_keyless R [] = tt
known_keyless R (c ∷ cs) = (tt, known_keyless R cs)

pub front_send : (R : RattleType) → IsSend (Front.the_row R)
front_send R =
    record { owned = λ d vs. ((λ vss. (tt, ((λ uss. (tt, tt)), tt))), known_keyless R d.seen); leaving = λ k f vs. tt }

pub front_sync : (R : RattleType) → IsSync (Front.the_row R)
front_sync R =
    let fields :
    IsSync (denote.Struct.Struct.Struct (denote.Struct.Owning.shape (Front.the_type R))) = search sendable depth 20 in
    record { shared = λ d b o κ. (fields.shared (tt, tt) b o κ, known_keyless R d.seen) }
