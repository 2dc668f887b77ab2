use denote.RattleType.{RattleType}
use denote.Param.Send.{IsSend}
use Rattle.token_pairs.proofs.Sent.{slip_send}
use Rattle.token_pairs.specs.contracts.pair.Slip.{the_row}

pub send : (T : RattleType) → IsSend (the_row T)
send = slip_send
