-- A refusal leaves the board.
use Rattle.std.proofs.Common.{◌≡◌, ℕ, List, [], length, Option, Some, None, Ok, Err}
use Rattle.wasm_ast.specs.declared.refusal.Refusal.{Refusal}
use Rattle.content_leases.specs.Digests.{digest_of}
use Rattle.content_leases.specs.StoreState.{StoreState, with_content, without_content, with_lease, with_member, without_lease, unheld, collected}
use Rattle.content_leases.specs.Refusals.{Refusals, first_refusal, put_refusals, remove_refusals, lease_create_refusals, lease_add_refusals, lease_delete_refusals}
use Rattle.task_requests.specs.declared.request.Request.{Request}
use Rattle.task_requests.specs.declared.request.Request.TheVariants as request
use Rattle.task_requests.specs.declared.request.Reply.{Reply}
use Rattle.task_requests.specs.declared.request.Reply.TheVariants as reply
use Rattle.task_board.specs.BoardState.{Task, BoardState, used_by, with_store, task_of}
use Rattle.task_board.specs.Refusals.{create_refusals, own_refusals, task_refusals}
use Rattle.task_board.specs.Step.{DecidedBy, Puts, PutsText, refused, stored, Done, with_left, OnFound, Creates, does, Answers}

module _ (s : BoardState) (e : Refusal) (s' : BoardState) where
  decided : (o : Option Refusal) (E : Type 0) → (E → s' ≡ s) → DecidedBy o E s (Err e) s' → s' ≡ s
  decided (Some x) E f d = d.1
  decided None E f d = f d

  not_ok : (rep : Reply) (X : Type 0) → (the_answer : (Err e ≡ Ok rep) × X) → s' ≡ s
  not_ok rep X both = let wrong = both.0 in cc

  on_store : (refusals : Refusals) (rep : Reply) (new : StoreState)
      → DecidedBy (first_refusal refusals) ((Err e ≡ Ok rep) × (s' ≡ with_store s new)) s (Err e) s' → s' ≡ s
  on_store refusals rep new d =
      decided (first_refusal refusals) ((Err e ≡ Ok rep) × (s' ≡ with_store s new))
      (λ both. not_ok rep (s' ≡ with_store s new) both) d

  on_found : (id : List ℕ) (own : Task → Refusals) (does : Task → Done) (o : Option Task)
      → OnFound id own does o s (Err e) s' → s' ≡ s
  on_found id own does None d = decided (first_refusal (task_refusals id own None)) ⊥ (λ x. absurd x) d
  on_found id own does (Some t) d =
      decided (first_refusal (task_refusals id own (Some t)))
      ((Err e ≡ Ok (does t).0) × (s' ≡ with_left s t (does t).1))
      (λ both. not_ok (does t).0 (s' ≡ with_left s t (does t).1) both) d

  puts : (bytes : List ℕ) → Puts s bytes (Err e) s' → s' ≡ s
  puts bytes d =
      on_store (put_refusals s.store bytes) (reply.Put (digest_of bytes) (length bytes)) (with_content s.store bytes) d

  puts_text : (text : List ℕ) → PutsText s text (Err e) s' → s' ≡ s
  puts_text text (refused x why is same) = same
  puts_text text (stored bytes is put) = puts bytes put

  stays : (r : Request) → Answers s r (Err e) s' → s' ≡ s
  stays (request.Put bytes) d = puts bytes d
  stays (request.PutText text) d = puts_text text d
  stays (request.Remove digest) d =
      on_store (remove_refusals (used_by s.tasks) s.store digest) (reply.Remove digest)
      (without_content s.store digest) d
  stays (request.LeaseCreate id) d =
      on_store (lease_create_refusals s.store id) (reply.LeaseCreate id) (with_lease s.store id) d
  stays (request.LeaseAdd digest id) d =
      on_store (lease_add_refusals s.store digest id) (reply.LeaseAdd digest id) (with_member s.store digest id) d
  stays (request.LeaseDelete id) d =
      on_store (lease_delete_refusals s.store id) (reply.LeaseDelete id) (without_lease s.store id) d
  stays request.Gc d = on_store [] (reply.Gc (unheld (used_by s.tasks) s.store)) (collected (used_by s.tasks) s.store) d
  stays (request.Create config id) d =
      decided (first_refusal (create_refusals s config id)) (Creates s config id (Err e) s') (λ made. made.4.1) d
  stays (request.Task id k) d = on_found id (own_refusals k) (does k) (task_of id s.tasks) d

pub refusal_stays : (s : BoardState) (r : Request) (e : Refusal) (s' : BoardState) → Answers s r (Err e) s' → s' ≡ s
refusal_stays s r e s' answers = stays s e s' r answers
