use Rattle.std.proofs.Common.{Err, ap, refl, subst, sym}
use Rattle.std.specs.Prelude.{option_map}
use Rattle.callers.specs.Answered.{IsAnswered}
use Rattle.callers.proofs.DriveLemmas.{kept_whole, answered_unread, short_unless_long}
use Rattle.callers.proofs.caller.answer.Goals as goal

pub returns-in-Err : goal.returns-in-Err
returns-in-Err g c text kept =
    subst (λ t. IsAnswered c.args.seat t (Err c.from.result) c.args.seat)
    (kept_whole (option_map (λ b. b.now) c.args.line) c.in-Some.bytes.now text
    (sym (ap (option_map (λ b. b.now)) c.in-Some.is)) kept)
    (answered_unread c.args.seat c.in-Some.bytes.now c.in-Err.error c.from.result c.from.ensures
    (λ e. c.in-Err.ensures.none (ap Err e))
    (short_unless_long c.in-Some.bytes.now (Err c.in-Err.error) c.in-Err.error c.in-Err.ensures.long refl))
