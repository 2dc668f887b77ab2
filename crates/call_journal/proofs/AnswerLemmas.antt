-- A board refuses for reasons of its own.
use Rattle.std.proofs.Common.{◌≡◌, ℕ, List, [], ◌∷◌, length, Bool, true, false, Option, Some, None, Ok, Err, refl, arith}
use Rattle.std.proofs.lemmas.Bool.{and_parts}
use Rattle.std.specs.Prelude.{◌&&◌, not, if◌then◌else◌}
use Rattle.wasm_ast.specs.declared.module.Module.{Module}
use Rattle.wasm_ast.specs.declared.refusal.Refusal.{Refusal}
use Rattle.wasm_ast.specs.declared.refusal.Refusal.TheVariants as refusal
use Rattle.content_leases.specs.Digests.{digest_of}
use Rattle.content_leases.specs.StoreState.{StoreState, with_content, without_content, with_lease, with_member, without_lease, unheld, collected}
use Rattle.content_leases.specs.Refusals.{Refusals, first_refusal, put_refusals, remove_refusals, lease_create_refusals, lease_add_refusals, lease_delete_refusals}
use Rattle.oci_config.specs.declared.process.ProcessConfig.{ProcessConfig}
use Rattle.step_machine.specs.HostCalls.{all_known}
use Rattle.step_machine.specs.Instantiation.{instantiation_refusal, can_enter, are_pages_within, are_elements_inside, empty_table, are_segments_inside, zero_memory}
use Rattle.wasm_ast.specs.Limits.{is_within}
use Rattle.task_requests.specs.declared.request.Ask.{Ask}
use Rattle.task_requests.specs.declared.request.Request.{Request}
use Rattle.task_requests.specs.declared.request.Request.TheVariants as request
use Rattle.task_requests.specs.declared.request.Ask.TheVariants as ask
use Rattle.task_requests.specs.declared.request.Reply.{Reply}
use Rattle.task_requests.specs.declared.request.Reply.TheVariants as reply
use Rattle.task_board.specs.BoardState.{Task, BoardState, used_by, with_store, task_of}
use Rattle.task_board.specs.Refusals.{create_refusals, CannotOpen, no_module, too_much, invalid, refused as unopened, own_refusals, task_refusals}
use Rattle.task_board.specs.Step.{DecidedBy, Puts, PutsText, refused, stored, Done, with_left, OnFound, Creates, does, Answers}
use Rattle.task_board.specs.Texts.{CannotAssemble, bad_text, too_much as text_too_much, too_deep}
use Rattle.call_journal.specs.Books.{is_refused}

-- each of the refusals is journalled
abbrev are_told : Refusals → Bool
are_told [] = true
are_told (c ∷ cs) = not (is_refused c.1) && are_told cs

first_told : (l : Refusals) (x : Refusal) → are_told l ≡ true → first_refusal l ≡ Some x → is_refused x ≡ false
first_told [] x told is = cc
first_told ((true, y) ∷ cs) x told is = grind arith
first_told ((false, y) ∷ cs) x told is = first_told cs x (and_parts (not (is_refused y)) (are_told cs) told).1 is

-- why a module cannot be instantiated
one_of : (a b c d : Bool) (e : Refusal)
    → (if a then Some refusal.NoEntry else if b then Some refusal.BadImport else if c then Some refusal.Limit else if d
    then Some refusal.SegmentOutOfBounds else None) ≡ Some e → is_refused e ≡ false
one_of false false false false e is = cc
one_of _ _ _ _ e is = grind arith

uninstantiated : (m : Module) (p : ProcessConfig) (e : Refusal) → instantiation_refusal m p ≡ Some e
    → is_refused e ≡ false
uninstantiated m p e is =
    one_of (not (can_enter m)) (not (all_known m.types m.imports))
    (not (is_within m && are_pages_within m.memories p.cap))
    (not (are_elements_inside (length (empty_table m.tables)) m.elements
    && are_segments_inside (zero_memory m.memories p.cap) m.segments)) e is

not_opened : (bytes : List ℕ) (p : ProcessConfig) (e : Refusal) → CannotOpen bytes p e → is_refused e ≡ false
not_opened bytes p _ (no_module none) = refl
not_opened bytes p _ (too_much over none) = refl
not_opened bytes p _ (invalid m at spelled fault) = refl
not_opened bytes p _ (unopened m e spelled valid is) = uninstantiated m p e is

not_assembled : (text : List ℕ) (e : Refusal) → CannotAssemble text e → is_refused e ≡ false
not_assembled text _ (bad_text line column none) = refl
not_assembled text _ (text_too_much m denotes over) = refl
not_assembled text _ (too_deep deep) = refl

own_told : (k : Ask) (t : Task) → are_told (own_refusals k t) ≡ true
own_told ask.Start t = refl
own_told _ t = refl

module _ (s : BoardState) (e : Refusal) (s' : BoardState) where
  decided_by : (o : Option Refusal) (E : Type 0) → ((x : Refusal) → o ≡ Some x → is_refused x ≡ false)
      → (E → is_refused e ≡ false) → DecidedBy o E s (Err e) s' → is_refused e ≡ false
  decided_by (Some x) E first f d = let same = d.0 in let is = first x refl in grind arith
  decided_by None E first f d = f d

  decided : (refusals : Refusals) (E : Type 0) → are_told refusals ≡ true → (E → is_refused e ≡ false)
      → DecidedBy (first_refusal refusals) E s (Err e) s' → is_refused e ≡ false
  decided refusals E told f d = decided_by (first_refusal refusals) E (λ x is. first_told refusals x told is) f d

  not_ok : (rep : Reply) (X : Type 0) → (the_answer : (Err e ≡ Ok rep) × X) → is_refused e ≡ false
  not_ok rep X both = let wrong = both.0 in cc

  on_store : (refusals : Refusals) (rep : Reply) (new : StoreState) → are_told refusals ≡ true
      → DecidedBy (first_refusal refusals) ((Err e ≡ Ok rep) × (s' ≡ with_store s new)) s (Err e) s'
      → is_refused e ≡ false
  on_store refusals rep new told d =
      decided refusals ((Err e ≡ Ok rep) × (s' ≡ with_store s new)) told
      (λ both. not_ok rep (s' ≡ with_store s new) both) d

  on_found : (id : List ℕ) (own : Task → Refusals) (does : Task → Done) (o : Option Task)
      → ((t : Task) → are_told (own t) ≡ true) → OnFound id own does o s (Err e) s' → is_refused e ≡ false
  on_found id own does None told d = decided (task_refusals id own None) ⊥ refl (λ x. absurd x) d
  on_found id own does (Some t) told d =
      decided (task_refusals id own (Some t)) ((Err e ≡ Ok (does t).0) × (s' ≡ with_left s t (does t).1)) (told t)
      (λ both. not_ok (does t).0 (s' ≡ with_left s t (does t).1) both) d

  puts : (bytes : List ℕ) → Puts s bytes (Err e) s' → is_refused e ≡ false
  puts bytes d =
      on_store (put_refusals s.store bytes) (reply.Put (digest_of bytes) (length bytes)) (with_content s.store bytes)
      refl d

  puts_text : (text : List ℕ) → PutsText s text (Err e) s' → is_refused e ≡ false
  puts_text text (refused x why is same) = let told = not_assembled text x why in grind arith
  puts_text text (stored bytes is put) = puts bytes put

  by_request : (r : Request) → Answers s r (Err e) s' → is_refused e ≡ false
  by_request (request.Put bytes) d = puts bytes d
  by_request (request.PutText text) d = puts_text text d
  by_request (request.Remove digest) d =
      on_store (remove_refusals (used_by s.tasks) s.store digest) (reply.Remove digest)
      (without_content s.store digest) refl d
  by_request (request.LeaseCreate id) d =
      on_store (lease_create_refusals s.store id) (reply.LeaseCreate id) (with_lease s.store id) refl d
  by_request (request.LeaseAdd digest id) d =
      on_store (lease_add_refusals s.store digest id) (reply.LeaseAdd digest id) (with_member s.store digest id) refl
      d
  by_request (request.LeaseDelete id) d =
      on_store (lease_delete_refusals s.store id) (reply.LeaseDelete id) (without_lease s.store id) refl d
  by_request request.Gc d =
      on_store [] (reply.Gc (unheld (used_by s.tasks) s.store)) (collected (used_by s.tasks) s.store) refl d
  by_request (request.Create config id) d =
      decided (create_refusals s config id) (Creates s config id (Err e) s') refl
      (λ made. not_opened made.1 made.0 e made.4.0) d
  by_request (request.Task id k) d = on_found id (own_refusals k) (does k) (task_of id s.tasks) (own_told k) d

pub told : (s : BoardState) (r : Request) (e : Refusal) (s' : BoardState) → Answers s r (Err e) s'
    → is_refused e ≡ false
told s r e s' answers = by_request s e s' r answers
