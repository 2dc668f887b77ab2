use denote.RattleType.{RattleType}
use denote.Param.Send.{IsSync}
use Rattle.call_journal.proofs.Sent.{front_sync}
use Rattle.call_journal.specs.contracts.front.Front.{the_row}

pub sync : (T : RattleType) → IsSync (the_row T)
sync = front_sync
