use Rattle.std.proofs.Common.{Ok, Err, refl, ap}
use Rattle.std.specs.Prelude.{not}
use Rattle.call_journal.proofs.AnswerLemmas.{told}
use Rattle.call_journal.proofs.laws.answers_are_journalled.Goals as goal

pub returns : goal.returns
returns c s r (Ok reply) s' answers = refl
returns c s r (Err e) s' answers = ap not (told s r e s' answers)
