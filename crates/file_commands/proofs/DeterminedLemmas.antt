-- What a line is answered is determined by the line and the board.
use Rattle.std.proofs.Common.{◌≡◌, ◌≢◌, ℕ, List, true, false, Err, inl, inr, ◌⊎◌, sym, ap, ◌∙◌, subst}
use Rattle.std.proofs.lemmas.Bool.{and_parts, false_from_ne_true}
use Rattle.wasm_ast.specs.declared.refusal.Refusal.TheVariants as refusal
use Rattle.task_requests.specs.declared.event.Event.{Event}
use Rattle.task_requests.specs.declared.event.Event.TheVariants as event
use Rattle.task_requests.specs.declared.event.EventReply.{EventReply}
use Rattle.task_requests.specs.declared.event.EventReply.TheVariants as answer
use Rattle.task_board.specs.BoardState.{BoardState}
use Rattle.task_board.specs.Choices.{IsDetermined}
use Rattle.task_requests.specs.Memory.{takes_memory}
use Rattle.task_board.specs.Run.{is_no_memory, met_no_memory, Happens}
use Rattle.request_lines.specs.Request.{IsEvent}
use Rattle.request_lines.specs.Reply.{json_of, event_data, line_text}
use Rattle.task_board.proofs.RunLemmas.{no_memory_is}
use Rattle.file_commands.specs.Replay.{IsPlayed, IsBad, IsReplied}
use Rattle.request_lines.proofs.OneEvent.{one_event}

-- the law of the board's events, which the laws of lines call
abbrev pub EventsAreDetermined : Type 0
EventsAreDetermined =
    (s : BoardState) (e : Event) (r : EventReply) (s1 : BoardState) (r' : EventReply) (s2 : BoardState)
    → IsDetermined e → met_no_memory e r ≡ false → met_no_memory e r' ≡ false → Happens s e r s1 → Happens s e r' s2
    → (r ≡ r') × (s1 ≡ s2)

-- ---- lack of memory shows in the text

met_reply : (e : Event) (r : EventReply) → met_no_memory e r ≡ true → r ≡ answer.Called (Err refusal.NoMemory)
met_reply (event.Call q) (answer.Called a) h =
    ap answer.Called (no_memory_is a (and_parts (takes_memory q) (is_no_memory a) h).1)
met_reply _ _ h = cc

not_met : (e : Event) (r : EventReply) (text : List ℕ) → text ≡ line_text (event_data r)
    → text ≢ line_text (json_of (Err refusal.NoMemory)) → met_no_memory e r ≡ false
not_met e r text is other =
    false_from_ne_true (met_no_memory e r) (λ h. other (is ∙ ap (λ r. line_text (event_data r)) (met_reply e r h)))

-- ---- a line of a script

same_reply : EventsAreDetermined
    → (s : BoardState) (line : List ℕ) (r : EventReply) (s1 : BoardState) (r' : EventReply) (s2 : BoardState)
    → ((e : Event) → IsEvent line e → IsDetermined e)
    → ((e : Event) → met_no_memory e r ≡ false) → ((e : Event) → met_no_memory e r' ≡ false)
    → (IsPlayed s line r s1 ⊎ IsBad s line r s1) → (IsPlayed s line r' s2 ⊎ IsBad s line r' s2) → (r ≡ r') × (s1 ≡ s2)
same_reply law s line r s1 r' s2 determined kept kept' (inl p) (inl q) =
    let same = one_event line q.event p.event q.is p.is in
    law s p.event r s1 r' s2 (determined p.event p.is) (kept p.event) (kept' p.event) p.happens
    (subst (λ e. Happens s e r' s2) same q.happens)
same_reply law s line r s1 r' s2 determined kept kept' (inl p) (inr q) = absurd (q.none p.event p.is)
same_reply law s line r s1 r' s2 determined kept kept' (inr p) (inl q) = absurd (p.none q.event q.is)
same_reply law s line r s1 r' s2 determined kept kept' (inr p) (inr q) =
    (p.refused ∙ sym q.refused, p.same ∙ sym q.same)

pub replied_once :
    EventsAreDetermined → (s : BoardState) (line text : List ℕ) (s1 : BoardState) (text' : List ℕ) (s2 : BoardState)
    → ((e : Event) → IsEvent line e → IsDetermined e)
    → text ≢ line_text (json_of (Err refusal.NoMemory)) → text' ≢ line_text (json_of (Err refusal.NoMemory))
    → IsReplied s line text s1 → IsReplied s line text' s2 → (text ≡ text') × (s1 ≡ s2)
replied_once law s line text s1 text' s2 determined kept kept' a b =
    let same =
    same_reply law s line a.0 s1 b.0 s2 determined (λ e. not_met e a.0 text a.2 kept)
    (λ e. not_met e b.0 text' b.2 kept') a.1 b.1 in
    (a.2 ∙ (ap (λ r. line_text (event_data r)) same.0 ∙ sym b.2), same.1)
