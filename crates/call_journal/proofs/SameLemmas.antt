-- A call on two boards that are the same but for slots leaves two that are; and so do whole histories.
use Rattle.std.proofs.Common.{◌≡◌, ℕ, List, [], ◌∷◌, Bool, not, ◌||◌, Option, Some, None, is_some, is_none, Ok, Err, refl, sym, ap, ap₂, ◌∙◌, subst}
use Rattle.wasm_ast.specs.declared.module.Module.{Module}
use Rattle.wasm_ast.specs.Identifiers.{is_id, is_digest}
use Rattle.wasm_ast.specs.declared.refusal.Refusal.{Refusal}
use Rattle.wasm_ast.specs.declared.refusal.Refusal.TheVariants as refusal
use Rattle.oci_config.specs.declared.process.ProcessConfig.{ProcessConfig}
use Rattle.step_machine.specs.Instantiation.{instantiation_refusal}
use Rattle.validator.specs.Typing.{ValidModule}
use Rattle.content_leases.specs.StoreState.{Content, Lease, StoreState, content_in, is_leased, is_held, with_content, without_content, collected}
use Rattle.content_leases.specs.Refusals.{Refusals, first_refusal, put_refusals, remove_refusals, lease_create_refusals, lease_add_refusals, lease_delete_refusals}
use Rattle.task_requests.specs.declared.request.Request.{Request}
use Rattle.task_requests.specs.declared.request.Request.TheVariants as request
use Rattle.task_requests.specs.declared.request.Reply.{Reply}
use Rattle.task_requests.specs.declared.request.Reply.TheVariants as reply
use Rattle.task_board.specs.BoardState.{Task, Entries, BoardState, created_task, used_by, with_store, task_of, put_task, change_task, remove_task, with_task, without_task, with_new_task}
use Rattle.task_board.specs.Choices.{AgreeOnText}
use Rattle.task_board.specs.Refusals.{create_refusals, own_refusals, task_refusals, Openable, CannotOpen, no_module, too_much, invalid, refused as unopened}
use Rattle.task_board.specs.Step.{Answer, DecidedBy, OnStore, PutsText, refused, stored, Done, with_left, OnFound, Opens, Creates, does, Answers}
use Rattle.task_board.proofs.EntryLemmas.{none_is_not, some_is}
use Rattle.task_board.proofs.StepLemmas.{none_first, none_of}
use Rattle.task_board.proofs.LawLemmas.{One, Faulty}
use Rattle.call_journal.specs.Replay.{IsAlike}
use Rattle.call_journal.proofs.CallLemmas.{on, same_refusals}
use Rattle.call_journal.proofs.AlikeLemmas.{Same, Distinct, both_changed, both_put, both_removed, same_count, same_uses, same_filter}

-- bytes that can be opened are not refused
not_both : (bytes : List ℕ) (p : ProcessConfig) (m : Module) (e : Refusal) → One → Faulty → Openable bytes p m
    → CannotOpen bytes p e → ⊥
not_both bytes p m _ one faulty opens (no_module none) = none m opens.spelled.spells
not_both bytes p m _ one faulty opens (too_much over none) = none m opens.spelled
not_both bytes p m _ one faulty opens (invalid n at spelled fault) =
    faulty n at fault (subst ValidModule (one bytes m n opens.spelled.spells spelled.spells) opens.valid)
not_both bytes p m _ one faulty opens (unopened n e spelled valid is) =
    let same : n ≡ m = one bytes n m spelled.spells opens.spelled.spells in
    none_is_not e (sym opens.opens ∙ subst (λ (x : Module). instantiation_refusal x p ≡ Some e) same is)

-- what the board promises of texts
abbrev pub TextsAgree : Type 0
TextsAgree = (s : BoardState) (text : List ℕ) (r : Answer) (s1 : BoardState) (r' : Answer) (s2 : BoardState)
    → Answers s (request.PutText text) r s1 → Answers s (request.PutText text) r' s2 → AgreeOnText text r r' × (s1 ≡ s2)

module _ (one : One) (faulty : Faulty) (texts : TextsAgree) (b : BoardState) (es : Entries) (same : Same es b.tasks)
    (d : Distinct es) (d' : Distinct b.tasks) (a a' : Answer) (n n' : BoardState) where
  alike : (x : BoardState) (us : Entries) (y z : BoardState) → Same us x.tasks → y ≡ on x us → z ≡ x → IsAlike y z
  alike x us y z tasks is is' = record {
    store = ap (λ (w : BoardState). w.store) is ∙ sym (ap (λ (w : BoardState). w.store) is');
    creates = ap (λ (w : BoardState). w.creates) is ∙ sym (ap (λ (w : BoardState). w.creates) is');
    tasks = λ id.
        ap (λ (w : BoardState). task_of id w.tasks) is
        ∙ (tasks id ∙ sym (ap (λ (w : BoardState). task_of id w.tasks) is'));
  }

  decided : (o : Option Refusal) (E F : Type 0) → DecidedBy o E (on b es) a n → DecidedBy o F b a' n'
      → (o ≡ None → E → F → IsAlike n n') → IsAlike n n'
  decided None E F x y f = f refl x y
  decided (Some e) E F x y f = alike b es n n' same x.1 y.1

  on_store : (refusals : Refusals) (rep : Reply) (new : StoreState) → OnStore (on b es) refusals rep new a n
      → OnStore b refusals rep new a' n' → IsAlike n n'
  on_store refusals rep new x y =
      decided (first_refusal refusals) _ _ x y (λ none p q. alike (with_store b new) es n n' same p.1 q.1)

  left : (t : Task) (o : Option Task) → n ≡ with_left (on b es) t o → n' ≡ with_left b t o → IsAlike n n'
  left t None x y = alike (without_task b t.id) (remove_task t.id es) n n' (both_removed t.id es b.tasks d d' same) x y
  left t (Some u) x y = alike (with_task b u) (change_task u es) n n' (both_changed u es b.tasks same) x y

  on_found : (id : List ℕ) (own : Task → Refusals) (does : Task → Done) (o : Option Task)
      → OnFound id own does o (on b es) a n → OnFound id own does o b a' n' → IsAlike n n'
  on_found id own does None x y =
      decided (first_refusal (task_refusals id own None)) _ _ x y (λ none p q. absurd p)
  on_found id own does (Some t) x y =
      decided (first_refusal (task_refusals id own (Some t))) _ _ x y (λ none p q. left t (does t).1 p.1 q.1)

  on_task : (id : List ℕ) (own : Task → Refusals) (does : Task → Done)
      → OnFound id own does (task_of id es) (on b es) a n → OnFound id own does (task_of id b.tasks) b a' n'
      → IsAlike n n'
  on_task id own does x y =
      on_found id own does (task_of id b.tasks)
      (subst (λ (o : Option Task). OnFound id own does o (on b es) a n) (same id) x) y

  -- the same put on the second board
  put_by : (o : Option Refusal) (rep : Reply) (new : StoreState)
      → DecidedBy o ((a ≡ Ok rep) × (n ≡ with_store (on b es) new)) (on b es) a n
      → (m : BoardState) × DecidedBy o ((a ≡ Ok rep) × (m ≡ with_store b new)) b a m × IsAlike n m
  put_by None rep new x =
      (with_store b new, (x.0, refl), alike (with_store b new) es n (with_store b new) same x.1 refl)
  put_by (Some e) rep new x = (b, (x.0, refl), alike b es n b same x.1 refl)

  puts_text : (text : List ℕ) → PutsText (on b es) text a n → PutsText b text a' n' → IsAlike n n'
  puts_text text (refused e why is stays) y =
      alike b es n n' same stays (sym (texts b text a b a' n' (refused e why is refl) y).1)
  puts_text text (stored bytes is put) y =
      let m = put_by (first_refusal (put_refusals b.store bytes)) _ (with_content b.store bytes) put in
      subst (IsAlike n) (texts b text a m.0 a' n' (stored bytes is m.1) y).1 m.2

  held : (leases : List Lease) (digest : List ℕ)
      → is_held (used_by es) leases digest ≡ is_held (used_by b.tasks) leases digest
  held leases digest = ap (λ (x : Bool). is_leased leases digest || x) (same_uses digest es b.tasks d d' same)

  removes : (digest : List ℕ) → Answers (on b es) (request.Remove digest) a n → Answers b (request.Remove digest) a' n'
      → IsAlike n n'
  removes digest x y =
      let refusals : remove_refusals (used_by es) b.store digest ≡ remove_refusals (used_by b.tasks) b.store digest =
      ap
      (λ (h : Bool).
      (not (is_digest digest), refusal.BadId) ∷ (is_none (content_in b.store.contents digest), refusal.NoContent)
      ∷ (h, refusal.InUse) ∷ [])
      (held b.store.leases digest) in
      on_store (remove_refusals (used_by b.tasks) b.store digest) _ _
      (subst
      (λ (rs : Refusals). OnStore (on b es) rs (reply.Remove digest) (without_content b.store digest) a n)
      refusals x)
      y

  collects : Answers (on b es) request.Gc a n → Answers b request.Gc a' n' → IsAlike n n'
  collects x y =
      let kept : collected (used_by es) b.store ≡ collected (used_by b.tasks) b.store =
      ap (λ (cs : List Content). record b.store { contents = cs })
      (same_filter (λ (c : Content). is_held (used_by es) b.store.leases c.digest)
      (λ (c : Content). is_held (used_by b.tasks) b.store.leases c.digest)
      (λ c. held b.store.leases c.digest) b.store.contents) in
      alike (with_store b (collected (used_by b.tasks) b.store)) es n n' same
      (x.1 ∙ ap (λ (store : StoreState). with_store (on b es) store) kept) y.1

  opens : (id bytes : List ℕ) (p : ProcessConfig) (c c' : Answer) → task_of id b.tasks ≡ None
      → Opens (on b es) id bytes p c n → Opens b id bytes p c' n' → IsAlike n n'
  opens id bytes p (Err e) (Err e') none x y = alike b es n n' same x.1 y.1
  opens id bytes p (Err e) (Ok r) none x y = absurd (not_both bytes p y.0 e one faulty y.1 x.0)
  opens id bytes p (Ok r) (Err e) none x y = absurd (not_both bytes p x.0 e one faulty x.1 y.0)
  opens id bytes p (Ok r) (Ok r') none x y =
      let is : y.0 ≡ x.0 = one bytes y.0 x.0 y.1.spelled.spells x.1.spelled.spells in
      let t = created_task id b.creates bytes x.0 p in
      alike (with_new_task b y.3.0 t) (put_task x.3.0 t es) n n' (both_put x.3.0 y.3.0 t es b.tasks same none) x.3.2
      (y.3.2 ∙ ap (λ (m : Module). with_new_task b y.3.0 (created_task id b.creates bytes m p)) is)

  makes : (config id : List ℕ) → task_of id b.tasks ≡ None → Creates (on b es) config id a n
      → Creates b config id a' n' → IsAlike n n'
  makes config id none x y =
      let process : y.0 ≡ x.0 = some_is y.0 x.0 (sym y.2 ∙ x.2) in
      let bytes : y.1 ≡ x.1 =
      some_is y.1 x.1 (sym y.3 ∙ (ap (λ (p : ProcessConfig). content_in b.store.contents p.module) process ∙ x.3)) in
      opens id x.1 x.0 a a' none x.4
      (subst (λ (p : ProcessConfig). Opens b id x.1 p a' n') process
      (subst (λ (bs : List ℕ). Opens b id bs y.0 a' n') bytes y.4))

  creates : (config id : List ℕ) → Answers (on b es) (request.Create config id) a n
      → Answers b (request.Create config id) a' n' → IsAlike n n'
  creates config id x y =
      decided (first_refusal (create_refusals b config id)) _ _
      (subst (λ (rs : Refusals). DecidedBy (first_refusal rs) (Creates (on b es) config id a n) (on b es) a n)
      (same_refusals b es config id (same id) (same_count es b.tasks d d' same)) x)
      y
      (λ none p q.
      let first = none_first (not (is_id id)) refusal.BadId _ none in
      let exists = none_first (is_some (task_of id b.tasks)) refusal.Exists _ first.1 in
      makes config id (none_of (task_of id b.tasks) exists.0) p q)

  pub calls : (r : Request) → Answers (on b es) r a n → Answers b r a' n' → IsAlike n n'
  calls (request.Put bytes) x y = on_store (put_refusals b.store bytes) _ _ x y
  calls (request.PutText text) x y = puts_text text x y
  calls (request.Remove digest) x y = removes digest x y
  calls (request.LeaseCreate id) x y = on_store (lease_create_refusals b.store id) _ _ x y
  calls (request.LeaseAdd digest id) x y = on_store (lease_add_refusals b.store digest id) _ _ x y
  calls (request.LeaseDelete id) x y = on_store (lease_delete_refusals b.store id) _ _ x y
  calls request.Gc x y = collects x y
  calls (request.Create config id) x y = creates config id x y
  calls (request.Task id k) x y = on_task id (own_refusals k) (does k) x y

pub calls_alike : One → Faulty → TextsAgree → (s s' : BoardState) (r : Request) (a a' : Answer) (n n' : BoardState)
    → Distinct s.tasks → Distinct s'.tasks → IsAlike s s' → Answers s r a n → Answers s' r a' n' → IsAlike n n'
calls_alike one faulty texts s s' r a a' n n' d d' same x y =
    let is : s ≡ on s' s.tasks =
    ap₂ (λ (store : StoreState) (k : ℕ). record s { store = store; creates = k }) same.store same.creates in
    calls one faulty texts s' s.tasks same.tasks d d' a a' n n' r (subst (λ (x : BoardState). Answers x r a n) is x) y
