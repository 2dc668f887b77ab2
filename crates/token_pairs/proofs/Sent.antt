-- A token holds half of a name alone, so it may go to another thread.
use denote.RattleType.{RattleType}
use denote.Param.Send.{IsSend}
use Rattle.token_pairs.specs.contracts.pair.Stub as Stub
use Rattle.token_pairs.specs.contracts.pair.Slip as Slip

pub stub_send : (R : RattleType) → IsSend (Stub.the_row R)
stub_send R = record { owned = λ d vs. ((λ vss. (tt, ((λ uss. (tt, tt)), tt))), tt); leaving = λ k f vs. tt }

pub slip_send : (R : RattleType) → IsSend (Slip.the_row R)
slip_send R = record { owned = λ d vs. ((λ vss. (tt, ((λ uss. (tt, tt)), tt))), tt); leaving = λ k f vs. tt }
