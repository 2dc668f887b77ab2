-- A call changes no task but the one that it names.
use Rattle.std.proofs.Common.{◌≡◌, ◌≢◌, ℕ, List, [], Option, Some, None, Ok, Err, refl, sym, ap, ◌∙◌}
use Rattle.wasm_ast.specs.declared.refusal.Refusal.{Refusal}
use Rattle.content_leases.specs.StoreState.{StoreState}
use Rattle.content_leases.specs.Refusals.{Refusals, first_refusal, put_refusals, remove_refusals, lease_create_refusals, lease_add_refusals, lease_delete_refusals}
use Rattle.task_lifecycle.specs.declared.status.Signal.{Signal}
use Rattle.task_lifecycle.specs.Names.{signal_of}
use Rattle.task_board.specs.declared.change.Change.TheVariants as change
use Rattle.task_requests.specs.declared.request.Ask.{Ask}
use Rattle.task_requests.specs.declared.request.Request.{Request}
use Rattle.task_requests.specs.declared.request.Request.TheVariants as request
use Rattle.task_requests.specs.declared.request.Ask.TheVariants as ask
use Rattle.task_requests.specs.declared.request.Reply.{Reply}
use Rattle.task_board.specs.BoardState.{Task, BoardState, created_task, used_by, task_of}
use Rattle.task_board.specs.Tasks.{killed_by}
use Rattle.task_board.specs.Refusals.{create_refusals, own_refusals, task_refusals}
use Rattle.task_board.specs.Step.{Answer, DecidedBy, OnStore, PutsText, refused, stored, Done, with_left, OnFound, Creates, does, Answers}
use Rattle.task_board.proofs.EntryLemmas.{none_is_not, some_is}
use Rattle.task_board.proofs.StepLemmas.{task_named}
use Rattle.task_board.proofs.EffectLemmas.{change_id}
use Rattle.task_board.specs.Claims.{asked_of}
use Rattle.call_journal.proofs.AlikeLemmas.{changed_beside, put_beside, removed_beside}

-- what a request leaves of a task has its id
abbrev KeepsId : (does : Task → Done) → Type 0
KeepsId does = (t u : Task) → (does t).1 ≡ Some u → u.id ≡ t.id

id_of : (t u v : Task) → u.id ≡ t.id → Some u ≡ Some v → v.id ≡ t.id
id_of t u v same is = ap (λ (x : Task). x.id) (sym (some_is u v is)) ∙ same

killed_id : (o : Option Signal) (t : Task) → (killed_by o t).id ≡ t.id
killed_id None t = refl
killed_id (Some signal) t = change_id (change.Kill signal) t

module _ (s : BoardState) (a : Answer) (s' : BoardState) (id : List ℕ) where
  stays : s' ≡ s → task_of id s'.tasks ≡ task_of id s.tasks
  stays is = ap (λ (x : BoardState). task_of id x.tasks) is

  decided : (o : Option Refusal) (E : Type 0) → DecidedBy o E s a s' → (E → task_of id s'.tasks ≡ task_of id s.tasks)
      → task_of id s'.tasks ≡ task_of id s.tasks
  decided None E d f = f d
  decided (Some e) E d f = stays d.1

  on_store : (refusals : Refusals) (rep : Reply) (new : StoreState) → OnStore s refusals rep new a s'
      → task_of id s'.tasks ≡ task_of id s.tasks
  on_store refusals rep new d =
      decided (first_refusal refusals) _ d (λ x. ap (λ (y : BoardState). task_of id y.tasks) x.1)

  left : (t : Task) (o : Option Task) → ((u : Task) → o ≡ Some u → u.id ≡ t.id) → t.id ≢ id → s' ≡ with_left s t o
      → task_of id s'.tasks ≡ task_of id s.tasks
  left t None keeps away is = ap (λ (y : BoardState). task_of id y.tasks) is ∙ removed_beside t.id id s.tasks away
  left t (Some u) keeps away is =
      ap (λ (y : BoardState). task_of id y.tasks) is
      ∙ changed_beside u id s.tasks (λ same. away (sym (keeps u refl) ∙ same))

  on_found : (x : List ℕ) (own : Task → Refusals) (does : Task → Done) (o : Option Task) → KeepsId does → x ≢ id
      → task_of x s.tasks ≡ o → OnFound x own does o s a s' → task_of id s'.tasks ≡ task_of id s.tasks
  on_found x own does None keeps away at d = decided (first_refusal (task_refusals x own None)) _ d (λ y. absurd y)
  on_found x own does (Some t) keeps away at d =
      decided (first_refusal (task_refusals x own (Some t))) _ d
      (λ y. left t (does t).1 (keeps t) (λ same. away (sym (task_named x s.tasks t at) ∙ same)) y.1)

  on_task : (x : List ℕ) (own : Task → Refusals) (does : Task → Done) → KeepsId does → (Some x ≡ Some id → ⊥)
      → OnFound x own does (task_of x s.tasks) s a s' → task_of id s'.tasks ≡ task_of id s.tasks
  on_task x own does keeps other d = on_found x own does (task_of x s.tasks) keeps (λ same. other (ap Some same)) refl d

  puts_text : (text : List ℕ) → PutsText s text a s' → task_of id s'.tasks ≡ task_of id s.tasks
  puts_text text (refused e why is same) = stays same
  puts_text text (stored bytes is put) = on_store (put_refusals s.store bytes) _ _ put

makes : (s : BoardState) (config new : List ℕ) (a : Answer) (s' : BoardState) (id : List ℕ) → new ≢ id
    → Creates s config new a s' → task_of id s'.tasks ≡ task_of id s.tasks
makes s config new (Err e) s' id away d = ap (λ (x : BoardState). task_of id x.tasks) d.4.1
makes s config new (Ok r) s' id away d =
    ap (λ (x : BoardState). task_of id x.tasks) d.4.3.2
    ∙ put_beside d.4.3.0 (created_task new s.creates d.1 d.4.0 d.0) id s.tasks away

pub keeps_id : (k : Ask) → KeepsId (does k)
keeps_id (ask.Kill number) t u is = id_of t _ u (killed_id (signal_of number) t) is
keeps_id ask.Delete t u is = absurd (none_is_not u is)
keeps_id _ t u is = id_of t _ u refl is

pub only_named : (s : BoardState) (r : Request) (a : Answer) (s' : BoardState) (id : List ℕ) → Answers s r a s'
    → (asked_of r ≡ Some id → ⊥) → task_of id s'.tasks ≡ task_of id s.tasks
only_named s (request.Put bytes) a s' id d other = on_store s a s' id (put_refusals s.store bytes) _ _ d
only_named s (request.PutText text) a s' id d other = puts_text s a s' id text d
only_named s (request.Remove digest) a s' id d other =
    on_store s a s' id (remove_refusals (used_by s.tasks) s.store digest) _ _ d
only_named s (request.LeaseCreate x) a s' id d other = on_store s a s' id (lease_create_refusals s.store x) _ _ d
only_named s (request.LeaseAdd digest x) a s' id d other =
    on_store s a s' id (lease_add_refusals s.store digest x) _ _ d
only_named s (request.LeaseDelete x) a s' id d other = on_store s a s' id (lease_delete_refusals s.store x) _ _ d
only_named s request.Gc a s' id d other = on_store s a s' id [] _ _ d
only_named s (request.Create config x) a s' id d other =
    decided s a s' id (first_refusal (create_refusals s config x)) _ d
    (makes s config x a s' id (λ same. other (ap Some same)))
only_named s (request.Task x k) a s' id d other = on_task s a s' id x (own_refusals k) (does k) (keeps_id k) other d
