-- A call is answered alike on two boards, the second of which is the first with slices of tasks that it does
-- not name taken and returned.
use Rattle.std.proofs.Common.{◌≡◌, ℕ, List, [], ◌∷◌, length, nat_le, not, ◌||◌, Option, Some, None, is_some, is_none, Ok, Err, refl, sym, ap, ap₂, subst}
use Rattle.wasm_ast.specs.Identifiers.{is_id}
use Rattle.wasm_ast.specs.declared.refusal.Refusal.{Refusal}
use Rattle.wasm_ast.specs.declared.refusal.Refusal.TheVariants as refusal
use Rattle.oci_config.specs.declared.process.ProcessConfig.{ProcessConfig}
use Rattle.oci_config.specs.Config.{process_read}
use Rattle.content_leases.specs.StoreState.{StoreState, without_content, unheld, collected}
use Rattle.content_leases.specs.Refusals.{Refusals, first_refusal, put_refusals, remove_refusals, lease_create_refusals, lease_add_refusals, lease_delete_refusals}
use Rattle.task_requests.specs.declared.request.Request.{Request}
use Rattle.task_requests.specs.declared.request.Request.TheVariants as request
use Rattle.task_requests.specs.declared.request.Reply.{Reply}
use Rattle.task_requests.specs.declared.request.Reply.TheVariants as reply
use Rattle.task_board.specs.Limits.{max_tasks, max_creates}
use Rattle.task_board.specs.BoardState.{Task, Entries, BoardState, created_task, used_by, with_store, task_in, task_of, put_task, change_task, remove_task, with_task, without_task, with_new_task}
use Rattle.task_board.specs.Refusals.{named_bytes, create_refusals, own_refusals}
use Rattle.task_board.specs.Step.{Answer, DecidedBy, OnStore, PutsText, refused, stored, Done, with_left, OnFound, Opens, Creates, does, Answers}
use Rattle.task_board.specs.Claims.{asked_of}
use Rattle.call_journal.specs.Replay.{HaveCome, IsSince}
use Rattle.call_journal.proofs.SinceLemmas.{same_used, same_length, same_free, still_free, both_put, both_change, both_remove}

-- the board with other tasks
abbrev pub on : BoardState → Entries → BoardState
on b es = record b { tasks = es }

-- what a create is refused for is the same if as many tasks are there, and the same one with its id
pub same_refusals :
    (b : BoardState) (es : Entries) (config id : List ℕ) → task_of id es ≡ task_of id b.tasks
    → length es ≡ length b.tasks → create_refusals (on b es) config id ≡ create_refusals b config id
same_refusals b es config id =
    ap₂ λ (o : Option Task) (n : ℕ).
    (not (is_id id), refusal.BadId) ∷ (is_some o, refusal.Exists)
    ∷ (nat_le max_tasks n || nat_le max_creates b.creates, refusal.TooMany)
    ∷ (is_none (process_read config), refusal.BadConfig) ∷ (is_none (named_bytes b config), refusal.NoContent) ∷ []

-- two boards with this between their tasks, and nothing else
pub record IsBetween (R : Entries → Entries → Type 0) (s s' : BoardState) : Type 0 where
  pub store : s'.store ≡ s.store
  pub creates : s'.creates ≡ s.creates
  pub tasks : R s.tasks s'.tasks

-- what a call reads of tasks that it does not name is the same in both, and what it does is done to both
pub record IsUnread (R : Entries → Entries → Type 0) (es us : Entries) : Type 0 where
  pub same : R es us
  pub used : used_by es ≡ used_by us
  pub count : length es ≡ length us
  pub free : (k : ℕ) → task_in k us ≡ None → task_in k es ≡ None
  pub put : (k : ℕ) (t : Task) → R (put_task k t es) (put_task k t us)
  pub change : (t : Task) → R (change_task t es) (change_task t us)
  pub remove : (id : List ℕ) → R (remove_task id es) (remove_task id us)

-- such a board is left, with this between the two
abbrev pub Leaves : (Entries → Entries → Type 0) → (BoardState → Type 0) → BoardState → Type 0
Leaves R A b' = (s' : BoardState) × A s' × IsBetween R s' b'

-- the task that the request names is the same in both
abbrev pub HaveSame : Request → Entries → Entries → Type 0
HaveSame r es us = (id : List ℕ) → asked_of r ≡ Some id → task_of id es ≡ task_of id us

module _ (R : Entries → Entries → Type 0) (b : BoardState) (es : Entries) (h : IsUnread R es b.tasks) where
  since : (x b' : BoardState) (us : Entries) → R us x.tasks → b' ≡ x → IsBetween R (on x us) b'
  since x b' us come is = record {
    store = ap (λ (y : BoardState). y.store) is;
    creates = ap (λ (y : BoardState). y.creates) is;
    tasks = subst (λ (y : BoardState). R us y.tasks) (sym is) come;
  }

  decided : (o : Option Refusal) (E : Type 0) (F : BoardState → Type 0) (a : Answer) (b' : BoardState)
      → (E → Leaves R F b') → DecidedBy o E b a b' → Leaves R (λ s'. DecidedBy o (F s') (on b es) a s') b'
  decided None E F a b' f d = f d
  decided (Some e) E F a b' f d = (on b es, (d.0, refl), since b b' es h.same d.1)

  on_store : (refusals : Refusals) (rep : Reply) (new : StoreState) (a : Answer) (b' : BoardState)
      → OnStore b refusals rep new a b' → Leaves R (λ s'. OnStore (on b es) refusals rep new a s') b'
  on_store refusals rep new a b' d =
      decided _ _ (λ s'. (a ≡ Ok rep) × (s' ≡ with_store (on b es) new)) a b'
      (λ x. (on (with_store b new) es, (x.0, refl), since (with_store b new) b' es h.same x.1)) d

  left : (t : Task) (o : Option Task) (a : Answer) (rep : Reply) (b' : BoardState)
      → (a ≡ Ok rep) × (b' ≡ with_left b t o) → Leaves R (λ s'. (a ≡ Ok rep) × (s' ≡ with_left (on b es) t o)) b'
  left t None a rep b' d = (_, (d.0, refl), since (without_task b t.id) b' (remove_task t.id es) (h.remove t.id) d.1)
  left t (Some u) a rep b' d = (_, (d.0, refl), since (with_task b u) b' (change_task u es) (h.change u) d.1)

  on_found : (id : List ℕ) (own : Task → Refusals) (does : Task → Done) (o : Option Task) (a : Answer) (b' : BoardState)
      → OnFound id own does o b a b' → Leaves R (λ s'. OnFound id own does o (on b es) a s') b'
  on_found id own does None a b' d = decided _ _ (λ s'. ⊥) a b' (λ x. absurd x) d
  on_found id own does (Some t) a b' d =
      decided _ _ (λ s'. (a ≡ Ok (does t).0) × (s' ≡ with_left (on b es) t (does t).1)) a b'
      (left t (does t).1 a (does t).0 b') d

  on_task : (id : List ℕ) (own : Task → Refusals) (does : Task → Done) (a : Answer) (b' : BoardState)
      → task_of id es ≡ task_of id b.tasks → OnFound id own does (task_of id b.tasks) b a b'
      → Leaves R (λ s'. OnFound id own does (task_of id es) (on b es) a s') b'
  on_task id own does a b' same d =
      subst (λ (o : Option Task). Leaves R (λ s'. OnFound id own does o (on b es) a s') b') (sym same)
      (on_found id own does (task_of id b.tasks) a b' d)

  puts_text : (text : List ℕ) (a : Answer) (b' : BoardState) → PutsText b text a b'
      → Leaves R (λ s'. PutsText (on b es) text a s') b'
  puts_text text a b' (refused e why is same) = (on b es, refused e why is refl, since b b' es h.same same)
  puts_text text a b' (stored bytes is put) =
      let left = on_store (put_refusals b.store bytes) _ _ a b' put in (left.0, stored bytes is left.1, left.2)

  removes : (digest : List ℕ) (a : Answer) (b' : BoardState) → Answers b (request.Remove digest) a b'
      → Leaves R (λ s'. Answers (on b es) (request.Remove digest) a s') b'
  removes digest a b' d =
      subst
      (λ (used : List (List ℕ)).
      Leaves R
      (OnStore (on b es) (remove_refusals used b.store digest) (reply.Remove digest) (without_content b.store digest) a)
      b')
      (sym h.used) (on_store (remove_refusals (used_by b.tasks) b.store digest) _ _ a b' d)

  collects : (a : Answer) (b' : BoardState) → Answers b request.Gc a b'
      → Leaves R (λ s'. Answers (on b es) request.Gc a s') b'
  collects a b' d =
      subst
      (λ (used : List (List ℕ)).
      Leaves R (OnStore (on b es) [] (reply.Gc (unheld used b.store)) (collected used b.store) a) b')
      (sym h.used) (on_store [] _ _ a b' d)

  opens : (id bytes : List ℕ) (p : ProcessConfig) (a : Answer) (b' : BoardState) → Opens b id bytes p a b'
      → Leaves R (λ s'. Opens (on b es) id bytes p a s') b'
  opens id bytes p (Err e) b' d = (on b es, (d.0, refl), since b b' es h.same d.1)
  opens id bytes p (Ok r) b' d =
      let t = created_task id b.creates bytes d.0 p in
      let slot = d.3.0 in (
        on (with_new_task b slot t) (put_task slot t es),
        (d.0, d.1, d.2, (slot, h.free slot d.3.1, refl)),
        since (with_new_task b slot t) b' (put_task slot t es) (h.put slot t) d.3.2,
      )

  makes : (config id : List ℕ) (a : Answer) (b' : BoardState) → Creates b config id a b'
      → Leaves R (λ s'. Creates (on b es) config id a s') b'
  makes config id a b' d =
      let left = opens id d.1 d.0 a b' d.4 in
      (left.0, (d.0, d.1, d.2, d.3, left.1), left.2)

  creates : (config id : List ℕ) (a : Answer) (b' : BoardState) → task_of id es ≡ task_of id b.tasks
      → Answers b (request.Create config id) a b'
      → Leaves R (λ s'. Answers (on b es) (request.Create config id) a s') b'
  creates config id a b' same d =
      subst
      (λ (rs : Refusals).
      Leaves R (λ s'. DecidedBy (first_refusal rs) (Creates (on b es) config id a s') (on b es) a s') b')
      (sym (same_refusals b es config id same h.count))
      (decided _ _ (Creates (on b es) config id a) a b' (makes config id a b') d)

  pub calls : (r : Request) (a : Answer) (b' : BoardState) → HaveSame r es b.tasks → Answers b r a b'
      → Leaves R (λ s'. Answers (on b es) r a s') b'
  calls (request.Put bytes) a b' same d = on_store (put_refusals b.store bytes) _ _ a b' d
  calls (request.PutText text) a b' same d = puts_text text a b' d
  calls (request.Remove digest) a b' same d = removes digest a b' d
  calls (request.LeaseCreate id) a b' same d = on_store (lease_create_refusals b.store id) _ _ a b' d
  calls (request.LeaseAdd digest id) a b' same d = on_store (lease_add_refusals b.store digest id) _ _ a b' d
  calls (request.LeaseDelete id) a b' same d = on_store (lease_delete_refusals b.store id) _ _ a b' d
  calls request.Gc a b' same d = collects a b' d
  calls (request.Create config id) a b' same d = creates config id a b' (same id refl) d
  calls (request.Task id k) a b' same d = on_task id (own_refusals k) (does k) a b' (same id refl) d

-- ---- before slices, and after them

unread : (es us : Entries) → HaveCome es us → IsUnread HaveCome es us
unread es us h = record {
  same = h;
  used = same_used es us h;
  count = same_length es us h;
  free = λ k. same_free k es us h;
  put = λ k t. both_put k t es us h;
  change = λ t. both_change t es us h;
  remove = λ id. both_remove id es us h;
}

pub calls_commute : (s b : BoardState) (r : Request) (a : Answer) (b' : BoardState) → IsSince s b
    → HaveSame r s.tasks b.tasks → Answers b r a b' → (s' : BoardState) × Answers s r a s' × IsSince s' b'
calls_commute s b r a b' between same d =
    let is : on b s.tasks ≡ s =
    ap₂ (λ (store : StoreState) (n : ℕ). record s { store = store; creates = n }) between.store between.creates in
    let left =
    subst (λ (x : BoardState). Leaves HaveCome (λ s'. Answers x r a s') b') is
    (calls HaveCome b s.tasks (unread s.tasks b.tasks between.tasks) r a b' same d) in
    (left.0, left.1, record { store = left.2.store; creates = left.2.creates; tasks = left.2.tasks })

-- the other way round
abbrev HadCome : Entries → Entries → Type 0
HadCome es us = HaveCome us es

unread_now : (es us : Entries) → HaveCome es us → IsUnread HadCome us es
unread_now es us h = record {
  same = h;
  used = sym (same_used es us h);
  count = sym (same_length es us h);
  free = λ k. still_free k es us h;
  put = λ k t. both_put k t es us h;
  change = λ t. both_change t es us h;
  remove = λ id. both_remove id es us h;
}

pub calls_commute_on : (s b : BoardState) (r : Request) (a : Answer) (s' : BoardState) → IsSince s b
    → HaveSame r s.tasks b.tasks → Answers s r a s' → (b' : BoardState) × Answers b r a b' × IsSince s' b'
calls_commute_on s b r a s' between same d =
    let is : on s b.tasks ≡ b =
    ap₂ (λ (store : StoreState) (n : ℕ). record b { store = store; creates = n }) (sym between.store)
    (sym between.creates) in
    let left =
    subst (λ (x : BoardState). Leaves HadCome (λ b'. Answers x r a b') s') is
    (calls HadCome s b.tasks (unread_now s.tasks b.tasks between.tasks) r a s' (λ id named. sym (same id named)) d) in
    (left.0, left.1, record { store = sym left.2.store; creates = sym left.2.creates; tasks = left.2.tasks })
