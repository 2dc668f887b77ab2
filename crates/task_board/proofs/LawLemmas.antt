-- Laws of steps and runs: soundness, the moves of tasks, contents, and what is determined.
use Rattle.std.proofs.Common.{◌≡◌, ◌≢◌, ℕ, List, [], ◌∷◌, ◌+◌, ◌≤◌, arith, nat_le, length, Bool, true, false, true≢false, cond, Option, Some, None, is_some, option_and_then, Ok, Err, MatchBool, inl, inr, ◌⊎◌, refl, sym, ap, ◌∙◌, subst, bytes_eq, nat_eq}
use Rattle.std.proofs.lemmas.Bool.{and_parts}
use Rattle.std.proofs.lemmas.Bool.Decides.{nat_tests}
use Rattle.wasm_ast.specs.declared.module.Module.{Module}
use Rattle.wasm_ast.specs.declared.place.Place.{Place}
use Rattle.wasm_ast.specs.declared.refusal.Refusal.{Refusal}
use Rattle.wasm_ast.specs.declared.refusal.Refusal.TheVariants as refusal
use Rattle.wasm_binary.specs.Grammar.{Spells}
use Rattle.oci_config.specs.declared.process.ProcessConfig.{ProcessConfig}
use Rattle.validator.specs.Typing.{ValidModule}
use Rattle.validator.specs.Faults.{NamesFault}
use Rattle.step_machine.specs.declared.ends.End.{End}
use Rattle.step_machine.specs.declared.ends.End.TheVariants as own
use Rattle.step_machine.specs.Instantiation.{instantiation_refusal, ended}
use Rattle.task_requests.specs.declared.event.Event.{Event}
use Rattle.task_requests.specs.declared.event.Event.TheVariants as event
use Rattle.task_requests.specs.declared.event.EventReply.{EventReply}
use Rattle.task_requests.specs.declared.event.EventReply.TheVariants as answer
use Rattle.task_requests.specs.declared.request.Request.{Request}
use Rattle.task_requests.specs.declared.request.Request.TheVariants as request
use Rattle.task_requests.specs.declared.request.Reply.{Reply}
use Rattle.task_requests.specs.declared.request.Reply.TheVariants as reply
use Rattle.task_requests.specs.Limits.{max_budget}
use Rattle.content_leases.specs.Digests.{digest_of}
use Rattle.content_leases.specs.StoreState.{StoreState, content_in, with_content, without_content, with_lease, with_member, without_lease, unheld, collected}
use Rattle.content_leases.specs.Refusals.{Refusals, first_refusal, put_refusals, remove_refusals, lease_create_refusals, lease_add_refusals, lease_delete_refusals}
use Rattle.task_lifecycle.specs.declared.lifecycle.TaskCall.TheVariants as call
use Rattle.task_lifecycle.specs.declared.status.Status.{Status}
use Rattle.task_lifecycle.specs.declared.status.Status.TheVariants.{Created}
use Rattle.task_lifecycle.specs.declared.status.Signal.{Signal}
use Rattle.task_lifecycle.specs.declared.status.ExitRecord.TheVariants as exit
use Rattle.task_lifecycle.specs.Lifecycle.{allowed, takes_turns, is_going}
use Rattle.task_board.specs.BoardState.{Task, Entries, BoardState, empty, created_task, used_by, with_store, task_in, entry_of, task_of, put_task, change_task, remove_task, with_task, without_task, with_new_task}
use Rattle.task_board.specs.Tasks.{execution_at, landing, killed_while, can_lend, lent, advanced, slice_turns}
use Rattle.wasm_binary.specs.Spelled.{IsSpelled}
use Rattle.task_board.specs.Refusals.{create_refusals, own_refusals, task_refusals, Openable, CannotOpen, no_module, too_much, invalid, refused}
use Rattle.task_board.specs.Step.{Answer, DecidedBy, OnStore, Done, with_left, OnFound, Opens, Creates, does, Answers, is_budget, lends, taken, is_out, Returns, Step}
use Rattle.task_board.specs.Run.{met_no_memory, Happens, Run}
use Rattle.task_board.specs.Sound.{AreRising, slots_of, IsSound, IsBoard}
use Rattle.task_board.specs.declared.change.Change.{Change}
use Rattle.task_board.specs.declared.change.Change.TheVariants as change
use Rattle.task_board.specs.declared.mark.Mark.{Mark}
use Rattle.task_board.specs.declared.mark.Mark.TheVariants as mark
use Rattle.task_board.specs.Inside.Changes.{change_call, changed, change_ask}
use Rattle.task_board.specs.Inside.Marks.{mark_call, marked}
use Rattle.task_board.specs.Moves.{Moves, stays, starts, pauses, resumes, is_killed, is_taken, returns, has_break, loses_break, steps, IsStepOf, Becomes, goes, remains}
use Rattle.task_board.specs.Choices.{IsDetermined, AgreeOnRefusal, AgreeOnCreate}
use Rattle.task_board.proofs.EntryLemmas.{none_is_not, some_is, by_slot, by_id, cond_true, cond_false, cond_is_true, cond_is_false, same_slot, other_slot, slot_away, named, in_slot, each_in, put_in, removed_there, removed_beside}
use Rattle.task_board.proofs.MarkLemmas.{mark_allowed}
use Rattle.task_board.proofs.StepLemmas.{found, task_named, sound_of, changed_sound, lent_sound}
use Rattle.task_board.proofs.EffectLemmas.{change_id, Effect, nothing, stores, enters, changes, deletes, effect_of, marks, answers_sound}
use Rattle.task_board.proofs.SoundLemmas.{advanced_sound}
use Rattle.task_board.proofs.RunLemmas.{run_keeps}

-- ---- soundness

pub empty_sound : IsBoard empty
empty_sound = record {
  tasks = tt;
  slots = tt;
  ids = tt;
  incarnations = tt;
  contents = tt;
  digests = tt;
  leases = tt;
  names = tt;
  few_tasks = omega arith;
  few_contents = omega arith;
  few_leases = omega arith;
  few_creates = omega arith;
}

pub budget_range : (budget : ℕ) → is_budget budget ≡ true → (1 ≤ budget) × (budget ≤ max_budget)
budget_range budget h =
    let both = and_parts (nat_le 1 budget) (nat_le budget max_budget) h in
    let low = both.0 in
    let high = both.1 in
    (grind (arith, nat_tests, low), grind (arith, nat_tests, high))

-- what a slice that is taken was taken of
pub record IsTakenOf (s : BoardState) (id : List ℕ) (budget : ℕ) (s' : BoardState) : Type 0 where
  pub task : Task
  pub range : (1 ≤ budget) × (budget ≤ max_budget)
  pub named : task_of id s.tasks ≡ Some task
  pub ready : can_lend task ≡ true
  pub leaves : s' ≡ with_task s (lent task budget)

taken_task : (s : BoardState) (id : List ℕ) (budget : ℕ) (t : Task) (s' : BoardState) (b : Bool)
    → (1 ≤ budget) × (budget ≤ max_budget) → task_of id s.tasks ≡ Some t → can_lend t ≡ b
    → cond b (Some (with_task s (lent t budget))) None ≡ Some s' → IsTakenOf s id budget s'
taken_task s id budget t s' true range is ready h =
    record {
      task = t;
      range = range;
      named = is;
      ready = ready;
      leaves = sym (some_is (with_task s (lent t budget)) s' h);
    }
taken_task s id budget t s' false range is ready h = absurd (none_is_not s' h)

taken_named : (s : BoardState) (id : List ℕ) (budget : ℕ) (o : Option Task) (s' : BoardState)
    → (1 ≤ budget) × (budget ≤ max_budget) → task_of id s.tasks ≡ o
    → option_and_then (lends s budget) o ≡ Some s' → IsTakenOf s id budget s'
taken_named s id budget None s' range is h = absurd (none_is_not s' h)
taken_named s id budget (Some t) s' range is h = taken_task s id budget t s' (can_lend t) range is refl h

taken_by : (s : BoardState) (id : List ℕ) (budget : ℕ) (s' : BoardState) (b : Bool) → is_budget budget ≡ b
    → cond b (option_and_then (lends s budget) (task_of id s.tasks)) None ≡ Some s' → IsTakenOf s id budget s'
taken_by s id budget s' true is h = taken_named s id budget (task_of id s.tasks) s' (budget_range budget is) refl h
taken_by s id budget s' false is h = absurd (none_is_not s' h)

pub taken_of : (s : BoardState) (id : List ℕ) (budget : ℕ) (s' : BoardState) → taken s id budget ≡ Some s'
    → IsTakenOf s id budget s'
taken_of s id budget s' h = taken_by s id budget s' (is_budget budget) refl h

take_sound :
    (s : BoardState) (id : List ℕ) (budget : ℕ) (s' : BoardState) → IsBoard s → IsTakenOf s id budget s' → IsBoard s'
take_sound s id budget s' b is =
    subst IsBoard (sym is.leaves)
    (changed_sound s id is.task (lent is.task budget) b is.named refl refl
    (lent_sound s.creates is.task budget (sound_of s id is.task b is.named) is.ready is.range))

return_sound : (s : BoardState) (id : List ℕ) (o : Option Task) (s' : BoardState) → IsBoard s → task_of id s.tasks ≡ o
    → Returns s o s' → IsBoard s'
return_sound s id None s' b is back = absurd back
return_sound s id (Some t) s' b is back =
    let n = slice_turns t back.1.budget in
    let leaves : s' ≡ with_task s (advanced t n) = back.2 ∙ ap (with_task s) back.1.advances in
    subst IsBoard (sym leaves)
    (changed_sound s id t (advanced t n) b is refl refl (advanced_sound s.creates t n (sound_of s id t b is)))

pub step_sound :
    (s : BoardState) (e : Event) (r : EventReply) (s' : BoardState) → IsBoard s → Step s e r s' → IsBoard s'
step_sound s (event.Call q) (answer.Called a) s' b step = answers_sound s q a s' b step
step_sound s (event.Take id budget) (answer.Taken true) s' b step =
    take_sound s id budget s' b (taken_of s id budget s' step)
step_sound s (event.Take id budget) (answer.Taken false) s' b step = subst IsBoard (sym step.1) b
step_sound s (event.Return id) (answer.Returned true) s' b step = return_sound s id (task_of id s.tasks) s' b refl step
step_sound s (event.Return id) (answer.Returned false) s' b step = subst IsBoard (sym step.1) b
step_sound s _ _ s' b step = absurd step

happens_by :
    (s : BoardState) (e : Event) (r : EventReply) (s' : BoardState) (b : Bool) → MatchBool b (s' ≡ s) (Step s e r s')
    → (s' ≡ s) ⊎ Step s e r s'
happens_by s e r s' true h = inl h
happens_by s e r s' false h = inr h

-- nothing changes, or it is a step
pub happens :
    (s : BoardState) (e : Event) (r : EventReply) (s' : BoardState) → Happens s e r s' → (s' ≡ s) ⊎ Step s e r s'
happens s e r s' h = happens_by s e r s' (met_no_memory e r) h

sound_by :
    (s : BoardState) (e : Event) (r : EventReply) (s' : BoardState) → IsBoard s → (s' ≡ s) ⊎ Step s e r s' → IsBoard s'
sound_by s e r s' b (inl same) = subst IsBoard (sym same) b
sound_by s e r s' b (inr step) = step_sound s e r s' b step

pub happens_sound :
    (s : BoardState) (e : Event) (r : EventReply) (s' : BoardState) → IsBoard s → Happens s e r s' → IsBoard s'
happens_sound s e r s' b h = sound_by s e r s' b (happens s e r s' h)

pub run_sound : (es : List Event) (rs : List EventReply) (s : BoardState) → Run empty es rs s → IsBoard s
run_sound es rs s run = run_keeps IsBoard happens_sound empty es rs s empty_sound run

-- ---- how tasks move

-- the task with an id is changed in its slot alone
change_beside : (new old : Task) (k j : ℕ) (es : Entries) → entry_of new.id es ≡ Some (k, old) → j ≢ k
    → task_in j (change_task new es) ≡ task_in j es
change_beside new old k j [] h other = refl
change_beside new old k j (e ∷ es) h other =
    by_id e.1.id new.id
    (λ y same.
    let at : e.0 ≡ k =
    ap (λ (x : ℕ × Task). x.0)
    (some_is e (k, old) (cond_true (bytes_eq e.1.id new.id) (Some e) (entry_of new.id es) (Some (k, old)) y h))
    in
    let off : nat_eq e.0 j ≡ false = other_slot e.0 j (λ x. other (sym x ∙ at)) in
    ap (task_in j) (cond_is_true (bytes_eq e.1.id new.id) ((e.0, new) ∷ es) (e ∷ change_task new es) y)
    ∙ (cond_is_false (nat_eq e.0 j) (Some new) (task_in j es) off
    ∙ sym (cond_is_false (nat_eq e.0 j) (Some e.1) (task_in j es) off)))
    (λ n differs.
    ap (task_in j) (cond_is_false (bytes_eq e.1.id new.id) ((e.0, new) ∷ es) (e ∷ change_task new es) n)
    ∙ ap (cond (nat_eq e.0 j) (Some e.1))
    (change_beside new old k j es
    (cond_false (bytes_eq e.1.id new.id) (Some e) (entry_of new.id es) (Some (k, old)) n h) other))

change_there : (new old : Task) (k : ℕ) (es : Entries) → AreRising (slots_of es) → entry_of new.id es ≡ Some (k, old)
    → task_in k (change_task new es) ≡ Some new
change_there new old k [] r h = absurd (none_is_not (k, old) h)
change_there new old k (e ∷ es) r h =
    by_id e.1.id new.id
    (λ y same.
    let at : e.0 ≡ k =
    ap (λ (x : ℕ × Task). x.0)
    (some_is e (k, old) (cond_true (bytes_eq e.1.id new.id) (Some e) (entry_of new.id es) (Some (k, old)) y h))
    in
    ap (task_in k) (cond_is_true (bytes_eq e.1.id new.id) ((e.0, new) ∷ es) (e ∷ change_task new es) y)
    ∙ cond_is_true (nat_eq e.0 k) (Some new) (task_in k es) (same_slot e.0 k at))
    (λ n differs.
    let rest = cond_false (bytes_eq e.1.id new.id) (Some e) (entry_of new.id es) (Some (k, old)) n h in
    let below = slot_away e.0 k new.id (k, old) es r.0 rest in
    ap (task_in k) (cond_is_false (bytes_eq e.1.id new.id) ((e.0, new) ∷ es) (e ∷ change_task new es) n)
    ∙ (cond_is_false (nat_eq e.0 k) (Some e.1) (task_in k (change_task new es))
    (other_slot e.0 k (λ x. omega (arith, below, x))) ∙ change_there new old k es r.1 rest))

change_moves : (c : Change) (t : Task) → allowed (change_call c) t.status ≡ true → Moves t (changed c t)
change_moves change.Start t can = starts can refl
change_moves change.Pause t can = pauses can refl
change_moves change.Resume t can = resumes can refl
change_moves (change.Step count) t can = steps count can refl
change_moves (change.Kill signal) t can = is_killed signal can refl

killed_turns : (signal : Signal) (t : Task) (o : Option ℕ) → (killed_while o signal t).turns ≡ t.turns
killed_turns signal t None = refl
killed_turns signal t (Some n) = refl

mark_moves : (m : Mark) (t : Task) → allowed (mark_call m) t.status ≡ true → Moves t (marked m t)
mark_moves (mark.Set p) t can = has_break p can refl
mark_moves (mark.Remove p) t can = loses_break p can refl

-- what becomes of a task; if it takes no turns, and the event is no step of it, its turns stay
abbrev BecomesBy : Event → Task → Option Task → Type 0
BecomesBy e t o =
    Becomes t o × ((t' : Task) → o ≡ Some t' → takes_turns t.status ≡ false → (IsStepOf e t → ⊥) → t'.turns ≡ t.turns)

abbrev Quiet : Event → Task → Task → Type 0
Quiet e t t' = takes_turns t.status ≡ false → (IsStepOf e t → ⊥) → t'.turns ≡ t.turns

-- what adds turns is a step of the task
change_quiet : (c : Change) (id : List ℕ) (t : Task) → t.id ≡ id
    → Quiet (event.Call (request.Task id (change_ask c))) t (changed c t)
change_quiet (change.Step count) id t own off other = absurd (other (sym own))
change_quiet (change.Kill signal) id t own off other = killed_turns signal t t.out
change_quiet change.Start id t own off other = refl
change_quiet change.Pause id t own off other = refl
change_quiet change.Resume id t own off other = refl

module _ (e : Event) where
  abbrev AllMove : Entries → Entries → Type 0
  AllMove ts us = (k : ℕ) → (t : Task) → task_in k ts ≡ Some t → BecomesBy e t (task_in k us)

  -- what is in a slot is there afterwards
  moves_to : (us : Entries) (k : ℕ) (t t' : Task) → task_in k us ≡ Some t' → Moves t t' → Quiet e t t'
      → BecomesBy e t (task_in k us)
  moves_to us k t t' at m quiet =
      subst (BecomesBy e t) (sym at) (
        remains t' m,
        λ u is off other. ap (λ (x : Task). x.turns) (sym (some_is t' u is)) ∙ quiet off other,
      )

  all_stay : (ts : Entries) → AllMove ts ts
  all_stay ts k t there = moves_to ts k t t there (stays refl) (λ off other. refl)

  stay_same : (s s' : BoardState) → s' ≡ s → AllMove s.tasks s'.tasks
  stay_same s s' is = subst (λ (x : BoardState). AllMove s.tasks x.tasks) (sym is) (all_stay s.tasks)

  one_moves :
      (s : BoardState) (id : List ℕ) (old new : Task) → AreRising (slots_of s.tasks) → task_of id s.tasks ≡ Some old
      → new.id ≡ old.id → Moves old new → Quiet e old new → AllMove s.tasks (with_task s new).tasks
  one_moves s id old new r is same moves quiet k t there =
      let f = found id s.tasks old is in
      let own : entry_of new.id s.tasks ≡ Some (f.0, old) =
      ap (λ (x : List ℕ). entry_of x s.tasks) (same ∙ named id s.tasks (f.0, old) f.1) ∙ f.1 in
      by_slot k f.0
      (λ y here.
      let is_old : old ≡ t =
      some_is old t
      (sym (in_slot id (f.0, old) s.tasks r f.1) ∙ subst (λ (j : ℕ). task_in j s.tasks ≡ Some t) here there) in
      moves_to (change_task new s.tasks) k t new
      (ap (λ (j : ℕ). task_in j (change_task new s.tasks)) here ∙ change_there new old f.0 s.tasks r own)
      (subst (λ (x : Task). Moves x new) is_old moves) (subst (λ (x : Task). Quiet e x new) is_old quiet))
      (λ n other. moves_to (change_task new s.tasks) k t t
      (change_beside new old f.0 k s.tasks own other ∙ there) (stays refl) (λ off step. refl))

  -- a task that is deleted leaves its slot, and the others stay
  one_goes : (s : BoardState) (id : List ℕ) (old : Task) → AreRising (slots_of s.tasks) → task_of id s.tasks ≡ Some old
      → allowed call.Delete old.status ≡ true → AllMove s.tasks (without_task s old.id).tasks
  one_goes s id old r is can k t there =
      let f = found id s.tasks old is in
      let own : entry_of old.id s.tasks ≡ Some (f.0, old) =
      ap (λ (x : List ℕ). entry_of x s.tasks) (named id s.tasks (f.0, old) f.1) ∙ f.1 in
      by_slot k f.0
      (λ y here.
      let is_old : old ≡ t =
      some_is old t
      (sym (in_slot id (f.0, old) s.tasks r f.1) ∙ subst (λ (j : ℕ). task_in j s.tasks ≡ Some t) here there) in
      let gone : task_in k (remove_task old.id s.tasks) ≡ None =
      ap (λ (j : ℕ). task_in j (remove_task old.id s.tasks)) here ∙ removed_there old.id (f.0, old) s.tasks r own in
      subst (BecomesBy e t) (sym gone) (
        goes (subst (λ (x : Task). allowed call.Delete x.status ≡ true) is_old can),
        λ u at off other. absurd (none_is_not u at),
      ))
      (λ n other. moves_to (remove_task old.id s.tasks) k t t
      (removed_beside old.id (f.0, old) k s.tasks own other ∙ there) (stays refl) (λ off step. refl))

  create_moves : (s : BoardState) (config id : List ℕ) (r : Answer) (s' : BoardState) → Creates s config id r s'
      → AllMove s.tasks s'.tasks
  create_moves s config id (Err x) s' effect = stay_same s s' effect.4.1
  create_moves s config id (Ok r) s' effect =
      let enters = effect.4.3 in
      let t = created_task id s.creates effect.1 effect.4.0 effect.0 in
      subst (λ (x : BoardState). AllMove s.tasks x.tasks) (sym enters.2)
      (λ k u there. moves_to (put_task enters.0 t s.tasks) k u u
      (put_in enters.0 k t s.tasks
      (λ same. none_is_not u (sym enters.1 ∙ subst (λ (j : ℕ). task_in j s.tasks ≡ Some u) same there)) ∙ there)
      (stays refl) (λ off other. refl))

  effect_moves : (s : BoardState) (q : Request) (s' : BoardState) → e ≡ event.Call q → AreRising (slots_of s.tasks)
      → Effect s q s' → AllMove s.tasks s'.tasks
  effect_moves s q s' of rising (nothing same) = stay_same s s' same
  effect_moves s q s' of rising (stores new change is) =
      subst (λ (x : BoardState). AllMove s.tasks x.tasks) (sym is) (all_stay s.tasks)
  effect_moves s q s' of rising (enters config id r none made) = create_moves s config id r s' made
  effect_moves s q s' of rising (changes c id t asked at can is) =
      subst (λ (x : BoardState). AllMove s.tasks x.tasks) (sym is)
      (one_moves s id t (changed c t) rising at (change_id c t) (change_moves c t can)
      (subst (λ (x : Event). Quiet x t (changed c t)) (sym (of ∙ ap event.Call asked))
      (change_quiet c id t (task_named id s.tasks t at))))
  effect_moves s q s' of rising (deletes id t at can is) =
      subst (λ (x : BoardState). AllMove s.tasks x.tasks) (sym is) (one_goes s id t rising at can)
  effect_moves s q s' of rising (marks m id t at none is) =
      subst (λ (x : BoardState). AllMove s.tasks x.tasks) (sym is)
      (one_moves s id t (marked m t) rising at refl (mark_moves m t (mark_allowed m t none)) (λ off other. refl))

  answers_move :
      (s : BoardState) (q : Request) (r : Answer) (s' : BoardState) → e ≡ event.Call q → AreRising (slots_of s.tasks)
      → Answers s q r s' → AllMove s.tasks s'.tasks
  answers_move s q r s' of rising a = effect_moves s q s' of rising (effect_of s q r s' a)

  take_moves : (s : BoardState) (id : List ℕ) (budget : ℕ) (s' : BoardState) → AreRising (slots_of s.tasks)
      → IsTakenOf s id budget s' → AllMove s.tasks s'.tasks
  take_moves s id budget s' r is =
      subst (λ (x : BoardState). AllMove s.tasks x.tasks) (sym is.leaves)
      (one_moves s id is.task (lent is.task budget) r is.named refl (is_taken budget is.ready refl)
      (λ off other. refl))

  return_moves : (s : BoardState) (id : List ℕ) (o : Option Task) (s' : BoardState) → AreRising (slots_of s.tasks)
      → task_of id s.tasks ≡ o → Returns s o s' → AllMove s.tasks s'.tasks
  return_moves s id None s' r is back = absurd back
  return_moves s id (Some t) s' r is back =
      subst (λ (x : BoardState). AllMove s.tasks x.tasks) (sym back.2)
      (one_moves s id t back.0 r is (ap (λ (x : Task). x.id) back.1.advances) (returns back.1)
      (λ off other. absurd (true≢false (sym back.1.legal.status ∙ off))))

step_moves :
    (s : BoardState) (e : Event) (r : EventReply) (s' : BoardState) → AreRising (slots_of s.tasks) → Step s e r s'
    → AllMove e s.tasks s'.tasks
step_moves s (event.Call q) (answer.Called a) s' b step = answers_move (event.Call q) s q a s' refl b step
step_moves s (event.Take id budget) (answer.Taken true) s' b step =
    take_moves (event.Take id budget) s id budget s' b (taken_of s id budget s' step)
step_moves s (event.Take id budget) (answer.Taken false) s' b step = stay_same (event.Take id budget) s s' step.1
step_moves s (event.Return id) (answer.Returned true) s' b step =
    return_moves (event.Return id) s id (task_of id s.tasks) s' b refl step
step_moves s (event.Return id) (answer.Returned false) s' b step = stay_same (event.Return id) s s' step.1
step_moves s _ _ s' b step = absurd step

moves_by : (s : BoardState) (e : Event) (r : EventReply) (s' : BoardState) → AreRising (slots_of s.tasks)
    → (s' ≡ s) ⊎ Step s e r s' → AllMove e s.tasks s'.tasks
moves_by s e r s' b (inl same) = stay_same e s s' same
moves_by s e r s' b (inr step) = step_moves s e r s' b step

happens_by_event :
    (s : BoardState) (e : Event) (r : EventReply) (s' : BoardState) → AreRising (slots_of s.tasks) → Happens s e r s'
    → AllMove e s.tasks s'.tasks
happens_by_event s e r s' b h = moves_by s e r s' b (happens s e r s' h)

pub happens_moves :
    (s : BoardState) (e : Event) (r : EventReply) (s' : BoardState) → AreRising (slots_of s.tasks) → Happens s e r s'
    → (k : ℕ) → (t : Task) → task_in k s.tasks ≡ Some t → Becomes t (task_in k s'.tasks)
happens_moves s e r s' b h k t there = (happens_by_event s e r s' b h k t there).0

pub quiet_stays :
    (s : BoardState) (e : Event) (r : EventReply) (s' : BoardState) → IsBoard s → Happens s e r s' → (k : ℕ) (t : Task)
    → task_in k s.tasks ≡ Some t → takes_turns t.status ≡ false → (IsStepOf e t → ⊥)
    → (t' : Task) → task_in k s'.tasks ≡ Some t' → t'.turns ≡ t.turns
quiet_stays s e r s' b h k t there quiet other t' at =
    (happens_by_event s e r s' b.slots h k t there).1 t' at quiet other

-- ---- how tasks end

pub sound_in : (s : BoardState) (k : ℕ) (t : Task) → IsBoard s → task_in k s.tasks ≡ Some t → IsSound s.creates t
sound_in s k t b there = each_in (IsSound s.creates) k t s.tasks b.tasks there

-- its execution has not ended after its turns
abbrev pub GoesOn : Task → Type 0
GoesOn t = ended (execution_at t t.turns) ≡ None

killed_goes_on : (signal : Signal) (t : Task) (o : Option ℕ) → GoesOn t → GoesOn (killed_while o signal t)
killed_goes_on signal t None on = on
killed_goes_on signal t (Some n) on = on

created_only : (status : Status) → allowed call.Start status ≡ true → is_going status ≡ true → ⊥
created_only Created can going = cc
created_only _ can going = cc

-- no signal ends a task where a step leads
no_signal : (o : Option End) (signal : Signal) → (landing o None true).1 ≡ Some (exit.Kill signal) → ⊥
no_signal (Some own.Returned) signal h = cc
no_signal _ signal h = cc

-- a task that goes on, and what ends it is a signal
signal_ends : (creates : ℕ) (t t' : Task) (signal : Signal) → IsSound creates t → is_going t.status ≡ true → Moves t t'
    → t'.end ≡ Some (exit.Kill signal) → GoesOn t'
signal_ends creates t t' signal h going (stays is) end = subst GoesOn (sym is) (h.goes going)
signal_ends creates t t' signal h going (starts can is) end = absurd (created_only t.status can going)
signal_ends creates t t' signal h going (pauses can is) end = subst GoesOn (sym is) (h.goes going)
signal_ends creates t t' signal h going (resumes can is) end = subst GoesOn (sym is) (h.goes going)
signal_ends creates t t' signal h going (is_killed x can is) end =
    subst GoesOn (sym is) (killed_goes_on x t t.out (h.goes going))
signal_ends creates t t' signal h going (is_taken budget can is) end = subst GoesOn (sym is) (h.goes going)
signal_ends creates t t' signal h going (has_break p can is) end = subst GoesOn (sym is) (h.goes going)
signal_ends creates t t' signal h going (loses_break p can is) end = subst GoesOn (sym is) (h.goes going)
signal_ends creates t t' signal h going (steps count can is) end =
    absurd
    (no_signal (ended (execution_at t (t.turns + slice_turns t count))) signal
    (ap (λ (x : Task). x.end) (sym is) ∙ end))
signal_ends creates t t' signal h going (returns back) end =
    let k = slice_turns t back.budget in
    let some = back.legal.some in
    let at : (advanced t k).end ≡ Some (exit.Kill signal) = ap (λ (x : Task). x.end) (sym back.advances) ∙ end in
    let made : 1 ≤ t.turns + k = omega (arith, some) in
    subst GoesOn (sym back.advances) ((advanced_sound creates t k h).end (exit.Kill signal) at made)

ends_by : (creates : ℕ) (t t' : Task) (o : Option Task) (signal : Signal) → IsSound creates t → is_going t.status ≡ true
    → Becomes t o → o ≡ Some t' → t'.end ≡ Some (exit.Kill signal) → GoesOn t'
ends_by creates t t' _ signal h going (goes can) at end = absurd (none_is_not t' at)
ends_by creates t t' _ signal h going (remains u m) at end =
    let same = some_is u t' at in
    subst GoesOn same (signal_ends creates t u signal h going m (ap (λ (x : Task). x.end) same ∙ end))

pub signals_end :
    (s : BoardState) (e : Event) (r : EventReply) (s' : BoardState) → IsBoard s → Happens s e r s' → (k : ℕ) (t : Task)
    → task_in k s.tasks ≡ Some t → is_going t.status ≡ true → (t' : Task) → task_in k s'.tasks ≡ Some t'
    → (signal : Signal) → t'.end ≡ Some (exit.Kill signal) → ended (execution_at t' t'.turns) ≡ None
signals_end s e r s' b h k t there going t' at signal end =
    ends_by s.creates t t' (task_in k s'.tasks) signal (sound_in s k t b there) going
    (happens_moves s e r s' b.slots h k t there) at end

-- ---- what is determined

abbrev pub Same : {A : Type 0} → A → BoardState → A → BoardState → Type 0
Same r s1 r' s2 = (r ≡ r') × (s1 ≡ s2)

decided_same : (o : Option Refusal) (rep : Reply) (new s : BoardState) (r : Answer) (s1 : BoardState) (r' : Answer)
    (s2 : BoardState)
    → DecidedBy o ((r ≡ Ok rep) × (s1 ≡ new)) s r s1 → DecidedBy o ((r' ≡ Ok rep) × (s2 ≡ new)) s r' s2
    → Same r s1 r' s2
decided_same None rep new s r s1 r' s2 a b = (a.0 ∙ sym b.0, a.1 ∙ sym b.1)
decided_same (Some e) rep new s r s1 r' s2 a b = (a.0 ∙ sym b.0, a.1 ∙ sym b.1)

refused_same : (o : Option Refusal) (s : BoardState) (r : Answer) (s1 : BoardState) (r' : Answer) (s2 : BoardState)
    → DecidedBy o ⊥ s r s1 → DecidedBy o ⊥ s r' s2 → Same r s1 r' s2
refused_same None s r s1 r' s2 a b = absurd a
refused_same (Some e) s r s1 r' s2 a b = (a.0 ∙ sym b.0, a.1 ∙ sym b.1)

on_task_same :
    (s : BoardState) (id : List ℕ) (own : Task → Refusals) (does : Task → Done) (o : Option Task) (r : Answer)
    (s1 : BoardState) (r' : Answer) (s2 : BoardState)
    → OnFound id own does o s r s1 → OnFound id own does o s r' s2 → Same r s1 r' s2
on_task_same s id own does None r s1 r' s2 a b =
    refused_same (first_refusal (task_refusals id own None)) s r s1 r' s2 a b
on_task_same s id own does (Some t) r s1 r' s2 a b =
    decided_same (first_refusal (task_refusals id own (Some t))) (does t).0 (with_left s t (does t).1) s r s1 r' s2 a b

on_store_same :
    (s : BoardState) (refusals : Refusals) (rep : Reply) (new : StoreState) (r : Answer) (s1 : BoardState) (r' : Answer)
    (s2 : BoardState) → OnStore s refusals rep new r s1 → OnStore s refusals rep new r' s2 → Same r s1 r' s2
on_store_same s refusals rep new r s1 r' s2 a b =
    decided_same (first_refusal refusals) rep (with_store s new) s r s1 r' s2 a b

pub answers_same : (s : BoardState) (q : Request) (r : Answer) (s1 : BoardState) (r' : Answer) (s2 : BoardState)
    → IsDetermined (event.Call q) → Answers s q r s1 → Answers s q r' s2 → Same r s1 r' s2
answers_same s (request.Put bytes) r s1 r' s2 d a b =
    on_store_same s (put_refusals s.store bytes) (reply.Put (digest_of bytes) (length bytes))
    (with_content s.store bytes) r s1 r' s2 a b
answers_same s (request.PutText text) r s1 r' s2 d a b = absurd d
answers_same s (request.Remove digest) r s1 r' s2 d a b =
    on_store_same s (remove_refusals (used_by s.tasks) s.store digest) (reply.Remove digest)
    (without_content s.store digest) r s1 r' s2 a b
answers_same s (request.LeaseCreate id) r s1 r' s2 d a b =
    on_store_same s (lease_create_refusals s.store id) (reply.LeaseCreate id) (with_lease s.store id) r s1 r' s2 a b
answers_same s (request.LeaseAdd digest id) r s1 r' s2 d a b =
    on_store_same s (lease_add_refusals s.store digest id) (reply.LeaseAdd digest id)
    (with_member s.store digest id) r s1 r' s2 a b
answers_same s (request.LeaseDelete id) r s1 r' s2 d a b =
    on_store_same s (lease_delete_refusals s.store id) (reply.LeaseDelete id) (without_lease s.store id) r s1 r' s2 a b
answers_same s request.Gc r s1 r' s2 d a b =
    on_store_same s [] (reply.Gc (unheld (used_by s.tasks) s.store))
    (collected (used_by s.tasks) s.store) r s1 r' s2 a b
answers_same s (request.Create config id) r s1 r' s2 d a b = absurd d
answers_same s (request.Task id k) r s1 r' s2 d a b =
    on_task_same s id (own_refusals k) (does k) (task_of id s.tasks) r s1 r' s2 a b

-- a task returns in one way
return_same : (s : BoardState) (o : Option Task) (s1 s2 : BoardState) → Returns s o s1 → Returns s o s2 → s1 ≡ s2
return_same s None s1 s2 a b = absurd a
return_same s (Some t) s1 s2 a b =
    let budget : a.1.budget ≡ b.1.budget = some_is a.1.budget b.1.budget (sym a.1.out ∙ b.1.out) in
    let same : a.0 ≡ b.0 = a.1.advances ∙ (ap (λ (n : ℕ). advanced t (slice_turns t n)) budget ∙ sym b.1.advances) in
    a.2 ∙ (ap (with_task s) same ∙ sym b.2)

return_out : (s : BoardState) (o : Option Task) (s' : BoardState) → Returns s o s' → is_out o ≡ true
return_out s None s' a = absurd a
return_out s (Some t) s' a = ap (is_some {T = ℕ}) a.1.out

step_same :
    (s : BoardState) (e : Event) (r : EventReply) (s1 : BoardState) (r' : EventReply) (s2 : BoardState) → IsDetermined e
    → Step s e r s1 → Step s e r' s2 → Same r s1 r' s2
step_same s (event.Call q) (answer.Called x) s1 (answer.Called y) s2 d a b =
    let same = answers_same s q x s1 y s2 d a b in (ap answer.Called same.0, same.1)
step_same s (event.Take id budget) (answer.Taken true) s1 (answer.Taken true) s2 d a b =
    (refl, some_is s1 s2 (sym a ∙ b))
step_same s (event.Take id budget) (answer.Taken true) s1 (answer.Taken false) s2 d a b =
    absurd (none_is_not s1 (sym b.0 ∙ a))
step_same s (event.Take id budget) (answer.Taken false) s1 (answer.Taken true) s2 d a b =
    absurd (none_is_not s2 (sym a.0 ∙ b))
step_same s (event.Take id budget) (answer.Taken false) s1 (answer.Taken false) s2 d a b = (refl, a.1 ∙ sym b.1)
step_same s (event.Return id) (answer.Returned true) s1 (answer.Returned true) s2 d a b =
    (refl, return_same s (task_of id s.tasks) s1 s2 a b)
step_same s (event.Return id) (answer.Returned true) s1 (answer.Returned false) s2 d a b =
    absurd (true≢false (sym (return_out s (task_of id s.tasks) s1 a) ∙ b.0))
step_same s (event.Return id) (answer.Returned false) s1 (answer.Returned true) s2 d a b =
    absurd (true≢false (sym (return_out s (task_of id s.tasks) s2 b) ∙ a.0))
step_same s (event.Return id) (answer.Returned false) s1 (answer.Returned false) s2 d a b = (refl, a.1 ∙ sym b.1)
step_same s (event.Call q) (answer.Taken x) s1 r' s2 d a b = absurd a
step_same s (event.Call q) (answer.Returned x) s1 r' s2 d a b = absurd a
step_same s (event.Take id budget) (answer.Called x) s1 r' s2 d a b = absurd a
step_same s (event.Take id budget) (answer.Returned x) s1 r' s2 d a b = absurd a
step_same s (event.Return id) (answer.Called x) s1 r' s2 d a b = absurd a
step_same s (event.Return id) (answer.Taken x) s1 r' s2 d a b = absurd a
step_same s _ _ s1 _ s2 d a b = absurd b

pub is_step : (s : BoardState) (e : Event) (r : EventReply) (s' : BoardState) → met_no_memory e r ≡ false
    → Happens s e r s' → Step s e r s'
is_step s e r s' is h = subst (λ (b : Bool). MatchBool b (s' ≡ s) (Step s e r s')) is h

pub events_same :
    (s : BoardState) (e : Event) (r : EventReply) (s1 : BoardState) (r' : EventReply) (s2 : BoardState) → IsDetermined e
    → met_no_memory e r ≡ false → met_no_memory e r' ≡ false → Happens s e r s1 → Happens s e r' s2
    → (r ≡ r') × (s1 ≡ s2)
events_same s e r s1 r' s2 d a b h g = step_same s e r s1 r' s2 d (is_step s e r s1 a h) (is_step s e r' s2 b g)

-- ---- what a create leaves open

abbrev pub One : Type 0
One = (bytes : List ℕ) (m n : Module) → Spells bytes m → Spells bytes n → m ≡ n

-- a module with a fault is not valid
abbrev pub Faulty : Type 0
Faulty = (m : Module) (at : Option Place) → NamesFault m at → ValidModule m → ⊥

-- bytes that can be opened are not refused
opened_refused : (bytes : List ℕ) (p : ProcessConfig) (m : Module) (e : Refusal) → One → Faulty → Openable bytes p m
    → CannotOpen bytes p e → ⊥
opened_refused bytes p m _ one faulty opens (no_module none) = none m opens.spelled.spells
opened_refused bytes p m _ one faulty opens (too_much over none) = none m opens.spelled
opened_refused bytes p m _ one faulty opens (invalid n at spelled fault) =
    faulty n at fault (subst ValidModule (one bytes m n opens.spelled.spells spelled.spells) opens.valid)
opened_refused bytes p m _ one faulty opens (refused n e spelled valid is) =
    let same : n ≡ m = one bytes n m spelled.spells opens.spelled.spells in
    none_is_not e (sym opens.opens ∙ subst (λ (x : Module). instantiation_refusal x p ≡ Some e) same is)

-- two refusals of the same bytes
refused_agree : (bytes : List ℕ) (p : ProcessConfig) (e e' : Refusal) → One → Faulty → CannotOpen bytes p e
    → CannotOpen bytes p e' → AgreeOnRefusal e e'
refused_agree bytes p _ _ one faulty (no_module none) (no_module none') = inl refl
refused_agree bytes p _ _ one faulty (no_module none) (too_much over none') = inr (inl (inl (refl, refl)))
refused_agree bytes p _ _ one faulty (no_module none) (invalid m at spelled fault) = absurd (none m spelled.spells)
refused_agree bytes p _ _ one faulty (no_module none) (refused m e spelled valid is) = absurd (none m spelled.spells)
refused_agree bytes p _ _ one faulty (too_much over none) (no_module none') = inr (inl (inr (refl, refl)))
refused_agree bytes p _ _ one faulty (too_much over none) (too_much over' none') = inl refl
refused_agree bytes p _ _ one faulty (too_much over none) (invalid m at spelled fault) = absurd (none m spelled)
refused_agree bytes p _ _ one faulty (too_much over none) (refused m e spelled valid is) = absurd (none m spelled)
refused_agree bytes p _ _ one faulty (invalid m at spelled fault) (no_module none) = absurd (none m spelled.spells)
refused_agree bytes p _ _ one faulty (invalid m at spelled fault) (too_much over none) = absurd (none m spelled)
refused_agree bytes p _ _ one faulty (invalid m at spelled fault) (invalid n at' spelled' fault') = inr (inr (tt, tt))
refused_agree bytes p _ _ one faulty (invalid m at spelled fault) (refused n e spelled' valid is) =
    absurd (faulty m at fault (subst ValidModule (one bytes n m spelled'.spells spelled.spells) valid))
refused_agree bytes p _ _ one faulty (refused m e spelled valid is) (no_module none) = absurd (none m spelled.spells)
refused_agree bytes p _ _ one faulty (refused m e spelled valid is) (too_much over none) = absurd (none m spelled)
refused_agree bytes p _ _ one faulty (refused m e spelled valid is) (invalid n at spelled' fault) =
    absurd (faulty n at fault (subst ValidModule (one bytes m n spelled.spells spelled'.spells) valid))
refused_agree bytes p _ _ one faulty (refused m e spelled valid is) (refused n e' spelled' valid' is') =
    let same : n ≡ m = one bytes n m spelled'.spells spelled.spells in
    inl (some_is e e' (sym is ∙ subst (λ (x : Module). instantiation_refusal x p ≡ Some e') same is'))

opens_agree : (s : BoardState) (id bytes : List ℕ) (p : ProcessConfig) (r : Answer) (s1 : BoardState) (r' : Answer)
    (s2 : BoardState) → One → Faulty → Opens s id bytes p r s1 → Opens s id bytes p r' s2 → AgreeOnCreate s r s1 r' s2
opens_agree s id bytes p (Err e) s1 (Err e') s2 one faulty a b =
    (a.1, b.1, refused_agree bytes p e e' one faulty a.0 b.0)
opens_agree s id bytes p (Err e) s1 (Ok y) s2 one faulty a b = opened_refused bytes p b.0 e one faulty b.1 a.0
opens_agree s id bytes p (Ok x) s1 (Err e') s2 one faulty a b = opened_refused bytes p a.0 e' one faulty a.1 b.0
opens_agree s id bytes p (Ok x) s1 (Ok y) s2 one faulty a b =
    let same : b.0 ≡ a.0 = one bytes b.0 a.0 b.1.spelled.spells a.1.spelled.spells in
    let t = created_task id s.creates bytes a.0 p in (
      a.2 ∙ sym b.2,
      t,
      a.3.0,
      b.3.0,
      a.3.2,
      b.3.2 ∙ ap (λ (m : Module). with_new_task s b.3.0 (created_task id s.creates bytes m p)) same,
    )

creates_agree :
    (s : BoardState) (config id : List ℕ) (r : Answer) (s1 : BoardState) (r' : Answer) (s2 : BoardState) → One → Faulty
    → Creates s config id r s1 → Creates s config id r' s2 → AgreeOnCreate s r s1 r' s2
creates_agree s config id r s1 r' s2 one faulty a b =
    let process : b.0 ≡ a.0 = some_is b.0 a.0 (sym b.2 ∙ a.2) in
    let stored : b.1 ≡ a.1 =
    some_is b.1 a.1 (sym b.3 ∙ (ap (λ (p : ProcessConfig). content_in s.store.contents p.module) process ∙ a.3)) in
    let moved = subst (λ (x : List ℕ). Opens s id x b.0 r' s2) stored b.4 in
    opens_agree s id a.1 a.0 r s1 r' s2 one faulty a.4
    (subst (λ (p : ProcessConfig). Opens s id a.1 p r' s2) process moved)

create_agrees_by :
    (s : BoardState) (config id : List ℕ) (o : Option Refusal) (r : Answer) (s1 : BoardState) (r' : Answer)
    (s2 : BoardState) → One → Faulty
    → DecidedBy o (Creates s config id r s1) s r s1 → DecidedBy o (Creates s config id r' s2) s r' s2
    → AgreeOnCreate s r s1 r' s2
create_agrees_by s config id None r s1 r' s2 one faulty a b = creates_agree s config id r s1 r' s2 one faulty a b
create_agrees_by s config id (Some e) r s1 r' s2 one faulty a b =
    let P : Answer → Answer → Type 0 = λ x y. AgreeOnCreate s x s1 y s2 in
    let both : P (Err e) (Err e) = (a.1, b.1, inl refl) in
    subst (λ (x : Answer). P x r') (sym a.0) (subst (λ (y : Answer). P (Err e) y) (sym b.0) both)

pub create_agrees :
    (s : BoardState) (config id : List ℕ) (r : Answer) (s1 : BoardState) (r' : Answer) (s2 : BoardState) → One → Faulty
    → Answers s (request.Create config id) r s1 → Answers s (request.Create config id) r' s2
    → AgreeOnCreate s r s1 r' s2
create_agrees s config id r s1 r' s2 one faulty a b =
    create_agrees_by s config id (first_refusal (create_refusals s config id)) r s1 r' s2 one faulty a b

-- ---- what is never invalid

never_invalid_by : (a b c d : Bool) (at : Option Place) → cond a (Some refusal.NoEntry)
    (cond b (Some refusal.BadImport) (cond c (Some refusal.Limit) (cond d (Some refusal.SegmentOutOfBounds) None)))
    ≡ Some (refusal.Invalid at) → ⊥
never_invalid_by false false false false at h = cc
never_invalid_by _ _ _ _ at h = cc

never_invalid : (m : Module) (p : ProcessConfig) (at : Option Place)
    → instantiation_refusal m p ≡ Some (refusal.Invalid at) → ⊥
never_invalid m p at h = never_invalid_by _ _ _ _ at h

not_invalid_by : (bytes : List ℕ) (p : ProcessConfig) (m : Module) (at : Option Place) (e : Refusal) → One → Faulty
    → IsSpelled bytes m → ValidModule m → e ≡ refusal.Invalid at → CannotOpen bytes p e → ⊥
not_invalid_by bytes p m at _ one faulty spelled valid is (no_module none) = none m spelled.spells
not_invalid_by bytes p m at _ one faulty spelled valid is (too_much over none) = none m spelled
not_invalid_by bytes p m at _ one faulty spelled valid is (invalid n at' other fault) =
    let same : m ≡ n = one bytes m n spelled.spells other.spells in
    faulty n at' fault (subst ValidModule same valid)
not_invalid_by bytes p m at _ one faulty spelled valid is (refused n e other ok why) =
    never_invalid n p at (why ∙ ap Some is)

pub not_invalid :
    (bytes : List ℕ) (p : ProcessConfig) (m : Module) (at : Option Place) → One → Faulty → IsSpelled bytes m
    → ValidModule m → CannotOpen bytes p (refusal.Invalid at) → ⊥
not_invalid bytes p m at one faulty spelled valid h =
    not_invalid_by bytes p m at (refusal.Invalid at) one faulty spelled valid refl h
