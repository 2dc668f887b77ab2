use Rattle.call_journal.proofs.TwiceLemmas.{twice_alike, now_alike}
use Rattle.call_journal.proofs.laws.replays_agree.Goals as goal

pub returns-clause-history : goal.returns-clause-history
returns-clause-history c =
    twice_alike c.slices_advance_legally.ensures c.advances_are_slices.ensures.slices c.spells_one.ensures
    c.invalid_modules_are_not_valid.ensures c.texts_are_determined.ensures

pub returns-clause-present : goal.returns-clause-present
returns-clause-present c =
    now_alike c.slices_advance_legally.ensures c.advances_are_slices.ensures.slices c.spells_one.ensures
    c.invalid_modules_are_not_valid.ensures c.texts_are_determined.ensures
