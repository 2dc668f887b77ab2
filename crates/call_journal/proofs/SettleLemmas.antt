-- Which calls make a wait due.
use Rattle.std.proofs.Common.{◌≡◌, ◌≢◌, ◌⊎◌, inl, inr, ℕ, List, Bool, true, false, true≢false, Option, Some, None, is_some, option_map, Ok, refl, sym, ap, subst, ◌∙◌}
use Rattle.std.specs.Prelude.{◌||◌, not, if◌then◌else◌}
use Rattle.wasm_ast.specs.Identifiers.{is_id}
use Rattle.wasm_ast.specs.declared.refusal.Refusal.TheVariants as refusal
use Rattle.content_leases.specs.Refusals.{first_refusal}
use Rattle.task_lifecycle.specs.declared.lifecycle.TaskCall.TheVariants as call
use Rattle.task_lifecycle.specs.declared.status.Signal.{Signal}
use Rattle.task_lifecycle.specs.declared.status.Status.{Status}
use Rattle.task_lifecycle.specs.declared.status.Status.TheVariants.{Created, Pausing, Paused, Stopped}
use Rattle.task_lifecycle.specs.Lifecycle.{allowed}
use Rattle.task_lifecycle.specs.Names.{signal_of}
use Rattle.task_requests.specs.declared.request.Ask.{Ask}
use Rattle.task_requests.specs.declared.request.Ask.TheVariants as ask
use Rattle.task_requests.specs.declared.request.Request.{Request}
use Rattle.task_requests.specs.declared.request.Request.TheVariants as request
use Rattle.task_board.specs.BoardState.{Task, BoardState, task_of, change_task, with_task}
use Rattle.task_board.specs.Refusals.{create_refusals, own_refusals, task_refusals}
use Rattle.task_board.specs.Settled.{is_settled}
use Rattle.task_board.specs.Step.{Answer, Answers, Creates, OnFound, does, with_left}
use Rattle.task_board.specs.Tasks.{killed_while, killed_by}
use Rattle.task_board.proofs.EntryLemmas.{by_id, some_is}
use Rattle.task_board.proofs.StepLemmas.{task_named, decided, none_first, not_true}
use Rattle.task_board.proofs.EffectLemmas.{own_accepted}
use Rattle.call_journal.specs.Books.{BookValue, HasCalled, is_due, is_full, settles, is_at_rest}
use Rattle.call_journal.specs.Seats.{Known}
use Rattle.call_journal.proofs.AlikeLemmas.{changed_own}
use Rattle.call_journal.proofs.NamedLemmas.{only_named, keeps_id}

-- ---- a task that is running or pausing

-- it can be neither started, deleted nor stepped
not_started : (st : Status) → allowed call.Wait st ≡ false → allowed call.Start st ≡ true → ⊥
not_started Created off on = cc
not_started _ off on = cc

not_deleted : (st : Status) → allowed call.Wait st ≡ false → allowed call.Delete st ≡ true → ⊥
not_deleted Stopped off on = cc
not_deleted _ off on = cc

not_stepped : (st : Status) → allowed call.Wait st ≡ false → allowed call.Step st ≡ true → ⊥
not_stepped Paused off on = cc
not_stepped _ off on = cc

-- a pause leaves it paused if its machine is on the board
pauses : (out : Bool) → allowed call.Wait (if out then Pausing else Paused) ≡ true
    → is_at_rest (if out then Pausing else Paused) ≡ true
pauses true on = absurd (true≢false (sym on))
pauses false on = refl

-- a kill leaves it stopped then
kills_while : (out : Option ℕ) (signal : Signal) (t : Task) → allowed call.Wait t.status ≡ false
    → allowed call.Wait (killed_while out signal t).status ≡ true → is_at_rest (killed_while out signal t).status ≡ true
kills_while None signal t off on = refl
kills_while (Some budget) signal t off on = absurd (true≢false (sym on ∙ off))

kills : (o : Option Signal) (t : Task) → allowed call.Wait t.status ≡ false
    → allowed call.Wait (killed_by o t).status ≡ true → is_at_rest (killed_by o t).status ≡ true
kills None t off on = absurd (true≢false (sym on ∙ off))
kills (Some signal) t off on = kills_while t.out signal t off on

-- ---- a call

module _ (s : BoardState) (a : Answer) (s' : BoardState) (id : List ℕ) where
  abbrev now_due : Type 0
  now_due = is_settled (task_of id s'.tasks) ≡ true

  stays : task_of id s'.tasks ≡ task_of id s.tasks → is_settled (task_of id s.tasks) ≡ false → now_due → ⊥
  stays same off on = true≢false (sym on ∙ (ap is_settled same ∙ off))

  left : s' ≡ s → is_settled (task_of id s.tasks) ≡ false → now_due → ⊥
  left same = stays (ap (λ (x : BoardState). task_of id x.tasks) same)

  -- what is left of the task
  becomes : (t u : Task) → task_of id s.tasks ≡ Some t → u.id ≡ t.id → s' ≡ with_task s u → now_due
      → allowed call.Wait u.status ≡ true
  becomes t u at same is on =
      let own : u.id ≡ id = same ∙ task_named id s.tasks t at in
      let there : task_of id (change_task u s.tasks) ≡ Some u =
      subst (λ (x : List ℕ). task_of x (change_task u s.tasks) ≡ option_map (λ (y : Task). u) (task_of x s.tasks)) own
      (changed_own u s.tasks) ∙ ap (option_map (λ (y : Task). u)) at in
      sym (ap is_settled (ap (λ (x : BoardState). task_of id x.tasks) is ∙ there)) ∙ on

  -- a request to the task that none of its refusals concerns
  asked : (k : Ask) (t : Task) → task_of id s.tasks ≡ Some t → allowed call.Wait t.status ≡ false
      → first_refusal (own_refusals k t) ≡ None → s' ≡ with_left s t (does k t).1 → now_due
      → settles (Ok (does k t).0) ≡ true
  asked ask.Start t at off none is on =
      absurd (not_started t.status off (not_true _ (none_first _ refusal.WrongStatus None none).0))
  asked ask.Pause t at off none is on = pauses (is_some t.out) (becomes t _ at refl is on)
  asked ask.Resume t at off none is on = absurd (true≢false (sym (becomes t _ at refl is on)))
  asked (ask.Kill signal) t at off none is on =
      kills (signal_of signal) t off
      (becomes t (killed_by (signal_of signal) t) at (keeps_id (ask.Kill signal) t _ refl) is on)
  asked ask.Delete t at off none is on =
      absurd (not_deleted t.status off (not_true _ (none_first _ refusal.WrongStatus None none).0))
  asked (ask.Step count) t at off none is on =
      absurd (not_stepped t.status off (not_true _ (none_first _ refusal.WrongStatus _ none).0))
  asked _ t at off none is on = absurd (true≢false (sym (becomes t _ at refl is on) ∙ off))

  by_cases : (k : Ask) (t : Task) → task_of id s.tasks ≡ Some t → allowed call.Wait t.status ≡ false
      → is_settled (task_of id s.tasks) ≡ false
      → (s' ≡ s) ⊎ ((first_refusal (task_refusals id (own_refusals k) (Some t)) ≡ None)
      × ((a ≡ Ok (does k t).0) × (s' ≡ with_left s t (does k t).1))) → now_due → settles a ≡ true
  by_cases k t at off before (inl same) on = absurd (left same before on)
  by_cases k t at off before (inr d) on =
      ap settles d.1.0 ∙ asked k t at off (own_accepted id t (own_refusals k) d.0) d.1.1 on

  on_task : (k : Ask) (o : Option Task) → task_of id s.tasks ≡ o → is_settled o ≡ false
      → OnFound id (own_refusals k) (does k) o s a s' → now_due → settles a ≡ true
  on_task k None at off d on = absurd (true≢false off)
  on_task k (Some t) at off d on =
      by_cases k t at off (ap is_settled at ∙ off)
      (decided (first_refusal (task_refusals id (own_refusals k) (Some t))) _ s a s' d) on

  -- no task is created with the id of another
  creates : (config : List ℕ) → is_settled (task_of id s.tasks) ≡ false
      → (s' ≡ s) ⊎ ((first_refusal (create_refusals s config id) ≡ None) × Creates s config id a s') → now_due → ⊥
  creates config off (inl same) on = left same off on
  creates config off (inr d) on =
      let known = none_first (not (is_id id)) refusal.BadId _ d.0 in
      let free = none_first (is_some (task_of id s.tasks)) refusal.Exists _ known.1 in
      nobody (task_of id s.tasks) free.0 off
    where
      nobody : (o : Option Task) → is_some o ≡ false → is_settled o ≡ false → ⊥
      nobody None free off = true≢false off
      nobody (Some t) free off = true≢false free

  named_other : (x : List ℕ) → x ≢ id → Some x ≡ Some id → ⊥
  named_other x other same = other (some_is x id same)

  settled_by : (r : Request) → Answers s r a s' → is_settled (task_of id s.tasks) ≡ false → now_due → settles a ≡ true
  settled_by (request.Task x k) d off on =
      by_id x id
      (λ y same. on_task k (task_of id s.tasks) refl off
      (subst (λ (z : List ℕ). OnFound z (own_refusals k) (does k) (task_of z s.tasks) s a s') same d) on)
      (λ n other. absurd (stays (only_named s (request.Task x k) a s' id d (named_other x other)) off on))
  settled_by (request.Create config x) d off on =
      by_id x id
      (λ y same. absurd (creates config off
      (decided (first_refusal (create_refusals s config id)) _ s a s'
      (subst (λ (z : List ℕ). Answers s (request.Create config z) a s') same d)) on))
      (λ n other. absurd (stays (only_named s (request.Create config x) a s' id d (named_other x other)) off on))
  settled_by r d off on = absurd (stays (only_named s r a s' id d (λ h. cc)) off on)

-- ---- a book

neither : (a b c : Bool) → (a || (b || c)) ≡ false → (a ≡ false) × ((b ≡ false) × (c ≡ false))
neither false false c h = (refl, (refl, h))
neither false true c h = absurd (true≢false h)
neither true b c h = absurd (true≢false h)

one_of : (a b c : Bool) → a ≡ false → (a || (b || c)) ≡ true → (b ≡ true) ⊎ (c ≡ true)
one_of false true c off h = inl refl
one_of false false c off h = inr h
one_of true b c off h = absurd (true≢false off)

pub due_by_a_call : (old new : BookValue) (was now : Known) (r : Request) (a : Answer) (id : List ℕ)
    → HasCalled old new was now r a → is_due old id ≡ false → is_due new id ≡ true
    → (settles a ≡ true) ⊎ (is_full new ≡ true)
due_by_a_call old new was now r a id called off on =
    let before = neither old.closed (is_full old) (is_settled (task_of id old.board.tasks)) off in
    by (one_of new.closed (is_full new) (is_settled (task_of id new.board.tasks)) (called.closed ∙ before.0) on)
  where
    by : (is_full new ≡ true) ⊎ (is_settled (task_of id new.board.tasks) ≡ true)
        → (settles a ≡ true) ⊎ (is_full new ≡ true)
    by (inl full) = inr full
    by (inr due) =
        inl (settled_by old.board a new.board id r called.answers
        (neither old.closed (is_full old) (is_settled (task_of id old.board.tasks)) off).1.1 due)
