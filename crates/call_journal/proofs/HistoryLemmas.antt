-- Histories are cut and joined.
use Rattle.std.proofs.Common.{List, [], ◌∷◌, ◌++◌, refl, subst}
use Rattle.task_board.specs.BoardState.{BoardState, empty}
use Rattle.task_board.specs.Step.{Answer, Answers}
use Rattle.call_journal.specs.declared.entry.Entry.{Entry}
use Rattle.call_journal.specs.Replay.{Finds, Replays, IsLegal, MayAnswer}

pub cut : (front back : List Entry) (s s' : BoardState) → Replays s (front ++ back) s'
    → (mid : BoardState) × Replays s front mid × Replays mid back s'
cut [] back s s' r = (s, refl, r)
cut (e ∷ front) back s s' r =
    let rest = cut front back r.1 s' r.5 in
    (rest.0, (r.0, r.1, r.2, r.3, r.4, rest.1), rest.2)

pub join : (front back : List Entry) (s mid s' : BoardState) → Replays s front mid → Replays mid back s'
    → Replays s (front ++ back) s'
join [] back s mid s' same rest = subst (λ (x : BoardState). Replays x back s') same rest
join (e ∷ front) back s mid s' r rest = (r.0, r.1, r.2, r.3, r.4, join front back r.1 mid s' r.5 rest)

pub one_more : (h : List Entry) (e : Entry) (a : Answer) (s last mid next : BoardState) → Replays s h last
    → Finds last e.request e.found mid → Answers mid e.request a next → Replays s (h ++ e ∷ []) next
one_more h e a s last mid next r finds answers = join h (e ∷ []) s last next r (mid, next, a, finds, answers, refl)

pub legal_front : (front back : List Entry) → IsLegal (front ++ back) → IsLegal front
legal_front front back legal = let parts = cut front back empty legal.0 legal.1 in (parts.0, parts.1)

pub legal_more : (h : List Entry) (e : Entry) (a : Answer) → MayAnswer h e a → IsLegal (h ++ e ∷ [])
legal_more h e a m = (m.2, one_more h e a empty m.0 m.1 m.2 m.3 m.4 m.5)

pub legal_last : (h : List Entry) (e : Entry) → IsLegal (h ++ e ∷ []) → (a : Answer) × MayAnswer h e a
legal_last h e legal =
    let parts = cut h (e ∷ []) empty legal.0 legal.1 in
    let last = parts.2 in
    (last.2, (parts.0, last.0, last.1, parts.1, last.3, last.4))
