-- Changes of the store that were prepared: the store can take them, and they answer their requests.
use Rattle.std.proofs.Common.{◌≡◌, ℕ, List, [], length, Option, None, Ok, refl, sym, subst}
use Rattle.std.specs.Arc.{arc_value}
use Rattle.wasm_ast.specs.declared.refusal.Refusal.{Refusal}
use Rattle.content_leases.specs.Digests.{digest_of}
use Rattle.content_leases.specs.StoreState.{StoreState, with_content, without_content, with_lease, with_member, without_lease, unheld, collected}
use Rattle.content_leases.specs.Refusals.{Refusals, first_refusal, put_refusals, remove_refusals, lease_create_refusals, lease_add_refusals, lease_delete_refusals}
use Rattle.content_leases.proofs.StoreLemmas.{put_new, create_new, add_takes}
use Rattle.task_requests.specs.declared.request.Request.{Request}
use Rattle.task_requests.specs.declared.request.Request.TheVariants as request
use Rattle.task_requests.specs.declared.request.Reply.{Reply}
use Rattle.task_requests.specs.declared.request.Reply.TheVariants as reply
use Rattle.task_board.specs.declared.store_change.StoreChange.{StoreChange}
use Rattle.task_board.specs.declared.store_change.StoreChange.TheVariants as change
use Rattle.task_board.specs.declared.board.Board.TheInside as board
use Rattle.task_board.specs.BoardState.{BoardState, used_by, with_store}
use Rattle.task_board.specs.BoardValue.{Room}
use Rattle.task_board.specs.Texts.{IsAssembled}
use Rattle.task_board.specs.Step.{Answer, DecidedBy, OnStore, Puts, stored, Answers}
use Rattle.task_board.specs.Inside.StoreChanges.{store_request, IsMadeFor, store_reply, store_after, StorePrepared, CanTake}
use Rattle.task_board.specs.Inside.Shown.{board_state_of, board_of}

-- the effect, if no refusal's condition holds
accepted_store : (s : BoardState) (refusals : Refusals) (rep : Reply) (new : StoreState) → first_refusal refusals ≡ None
    → OnStore s refusals rep new (Ok rep) (with_store s new)
accepted_store s refusals rep new none =
    let a : Answer = Ok rep in
    let P : Option Refusal → Type 0 =
    λ x. DecidedBy x ((a ≡ Ok rep) × (with_store s new ≡ with_store s new)) s a (with_store s new) in
    subst P (sym none) (refl, refl)

pub store_answers : (s : BoardState) (room : Room) (c : StoreChange) → StorePrepared s room c
    → Answers s (store_request c) (Ok (store_reply c)) (with_store s (store_after s.store c))
store_answers s room (change.Put key bytes digest) p =
    let new = with_content s.store (arc_value bytes) in
    let size = length (arc_value bytes) in
    let done =
    accepted_store s (put_refusals s.store (arc_value bytes)) (reply.Put (digest_of (arc_value bytes)) size)
    new p.accepted in
    subst
    (λ (x : List ℕ). OnStore s (put_refusals s.store (arc_value bytes))
    (reply.Put (digest_of (arc_value bytes)) size) new (Ok (reply.Put x size)) (with_store s new))
    (sym p.fitted.1) done
store_answers s room (change.Remove digest) p =
    accepted_store s (remove_refusals (used_by s.tasks) s.store digest) (reply.Remove digest)
    (without_content s.store digest) p.accepted
store_answers s room (change.LeaseCreate key members id) p =
    accepted_store s (lease_create_refusals s.store id) (reply.LeaseCreate id) (with_lease s.store id) p.accepted
store_answers s room (change.LeaseAdd key digest id) p =
    accepted_store s (lease_add_refusals s.store digest id) (reply.LeaseAdd digest id)
    (with_member s.store digest id) p.accepted
store_answers s room (change.LeaseDelete id) p =
    accepted_store s (lease_delete_refusals s.store id) (reply.LeaseDelete id) (without_lease s.store id) p.accepted
store_answers s room (change.Gc used removed) p =
    let gone = unheld (used_by s.tasks) s.store in
    let new : List (List ℕ) → StoreState = λ u. collected u s.store in
    let done = accepted_store s [] (reply.Gc gone) (new (used_by s.tasks)) refl in
    let P : List (List ℕ) → List (List ℕ) → Type 0 =
    λ u r. OnStore s [] (reply.Gc gone) (new (used_by s.tasks)) (Ok (reply.Gc r)) (with_store s (new u)) in
    subst (λ (u : List (List ℕ)). P u removed) (sym p.fitted.0)
    (subst (λ (r : List (List ℕ)). P (used_by s.tasks) r) (sym p.fitted.1) done)

-- ---- the request for which a change is made

-- the change is the request's own, or it stores the bytes of a text
pub data MadeFor (r : Request) (c : StoreChange) : Type 0 where
  own : r ≡ store_request c → MadeFor r c
  of_text : (text bytes : List ℕ) → IsAssembled text bytes → store_request c ≡ request.Put bytes
      → r ≡ request.PutText text → MadeFor r c

made_for_text :
    (text : List ℕ) (c : StoreChange) → IsMadeFor (request.PutText text) c → MadeFor (request.PutText text) c
made_for_text text (change.Put key bytes digest) is = of_text text (arc_value bytes) is refl refl
made_for_text text _ is = absurd is

pub made_for : (r : Request) (c : StoreChange) → IsMadeFor r c → MadeFor r c
made_for (request.PutText text) c is = made_for_text text c is
made_for _ c is = own is

answers_made_for : (s : BoardState) (r : Request) (c : StoreChange) (a : Answer) (s' : BoardState) → MadeFor r c
    → Answers s (store_request c) a s' → Answers s r a s'
answers_made_for s r c a s' (own is) done = subst (λ (q : Request). Answers s q a s') (sym is) done
answers_made_for s r c a s' (of_text text bytes is put asked) done =
    let puts : Puts s bytes a s' = subst (λ (q : Request). Answers s q a s') put done in
    subst (λ (q : Request). Answers s q a s') (sym asked) (stored bytes is puts)

-- what answers the change's own request answers each for which it is made
pub made_answers : (s : BoardState) (r : Request) (c : StoreChange) (a : Answer) (s' : BoardState) → IsMadeFor r c
    → Answers s (store_request c) a s' → Answers s r a s'
made_answers s r c a s' is done = answers_made_for s r c a s' (made_for r c is) done

pub can_take :
    (b : board.Inside) (c : StoreChange) → StorePrepared (board_state_of b) (board_of b).room c → CanTake b.store c
can_take b (change.Put key bytes digest) p =
    (p.fitted.2, p.fitted.0, put_new b.store.state (arc_value bytes) p.accepted)
can_take b (change.Remove digest) p = tt
can_take b (change.LeaseCreate key members id) p =
    (p.fitted.2, p.fitted.0, p.fitted.1, create_new b.store.state id p.accepted)
can_take b (change.LeaseAdd key digest id) p =
    let t = add_takes b.store.state digest id p.accepted in (p.fitted, t.0, t.1, t.2, t.3)
can_take b (change.LeaseDelete id) p = tt
can_take b (change.Gc used removed) p = tt
