use denote.RattleType.{RattleType}
use denote.Param.Send.{IsSend}
use Rattle.call_journal.proofs.Sent.{front_send}
use Rattle.call_journal.specs.contracts.front.Front.{the_row}

pub send : (T : RattleType) → IsSend (the_row T)
send = front_send
