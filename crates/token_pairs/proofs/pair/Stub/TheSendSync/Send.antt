use denote.RattleType.{RattleType}
use denote.Param.Send.{IsSend}
use Rattle.token_pairs.proofs.Sent.{stub_send}
use Rattle.token_pairs.specs.contracts.pair.Stub.{the_row}

pub send : (T : RattleType) → IsSend (the_row T)
send = stub_send
