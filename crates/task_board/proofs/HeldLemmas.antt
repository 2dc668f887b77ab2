-- Held contents stay: what a lease names is there, and of each task the bytes that it was created from.
use Rattle.std.proofs.Common.{◌≡◌, ℕ, List, [], ◌∷◌, true, false, bytes_eq, nat_eq, Option, Some, None, inl, inr, ◌⊎◌, Ok, Err, refl, sym, ap, ◌∙◌, subst}
use Rattle.std.proofs.lemmas.Bool.{or_left, or_right}
use Rattle.task_requests.specs.declared.event.Event.{Event}
use Rattle.task_requests.specs.declared.event.Event.TheVariants as event
use Rattle.task_requests.specs.declared.event.EventReply.{EventReply}
use Rattle.task_requests.specs.declared.event.EventReply.TheVariants as answer
use Rattle.content_leases.specs.StoreState.{StoreState, content_in, is_among, is_leased, is_held}
use Rattle.task_board.specs.declared.change.Change.{Change}
use Rattle.task_board.specs.declared.change.Change.TheVariants as change
use Rattle.task_board.specs.Inside.Changes.{changed}
use Rattle.task_board.specs.Inside.Marks.{marked}
use Rattle.task_requests.specs.declared.request.Request.{Request}
use Rattle.task_board.specs.BoardState.{Task, Entries, BoardState, empty, created_task, used_by, task_in, entry_of, task_of, put_task, change_task, remove_task}
use Rattle.task_board.specs.Tasks.{killed_while, lent}
use Rattle.task_board.specs.Step.{Answer, Creates, Returns, Step}
use Rattle.task_board.specs.Run.{Happens, Run}
use Rattle.task_board.specs.Sound.{IsBoard}
use Rattle.task_board.proofs.EntryLemmas.{none_is_not, some_is, by_slot, same_id, cond_true, cond_false, changed_from_old, IsChangedFrom, put_in, put_there, removed_there, removed_beside}
use Rattle.task_board.proofs.StepLemmas.{found, task_named}
use Rattle.task_board.proofs.StoreLemmas.{LeasedAreThere, held_stays, leased_are_there}
use Rattle.task_board.proofs.EffectLemmas.{change_id, Effect, nothing, stores, enters, changes, deletes, marks, effect_of}
use Rattle.task_board.proofs.LawLemmas.{empty_sound, happens, happens_sound, taken_of}
use Rattle.task_board.proofs.RunLemmas.{run_keeps}

-- ---- one event

abbrev pub HeldStay : BoardState → BoardState → Type 0
HeldStay s s' =
    (digest bytes : List ℕ) → is_held (used_by s.tasks) s.store.leases digest ≡ true
    → content_in s.store.contents digest ≡ Some bytes → content_in s'.store.contents digest ≡ Some bytes

same_store : (s s' : BoardState) → s'.store ≡ s.store → HeldStay s s'
same_store s s' same digest bytes held h = ap (λ (x : StoreState). content_in x.contents digest) same ∙ h

create_store :
    (s : BoardState) (config id : List ℕ) (r : Answer) (s' : BoardState) → Creates s config id r s' → s'.store ≡ s.store
create_store s config id (Err e) s' effect = ap (λ (x : BoardState). x.store) effect.4.1
create_store s config id (Ok r) s' effect = ap (λ (x : BoardState). x.store) effect.4.3.2

effect_held : (s : BoardState) (q : Request) (s' : BoardState) → Effect s q s' → HeldStay s s'
effect_held s q s' (nothing same) = same_store s s' (ap (λ (x : BoardState). x.store) same)
effect_held s q s' (stores new change is) =
    λ digest bytes held h. ap (λ (x : BoardState). content_in x.store.contents digest) is
    ∙ held_stays (used_by s.tasks) s.store new change digest bytes held h
effect_held s q s' (enters config id r none made) = same_store s s' (create_store s config id r s' made)
effect_held s q s' (changes c id t asked at can is) = same_store s s' (ap (λ (x : BoardState). x.store) is)
effect_held s q s' (deletes id t at can is) = same_store s s' (ap (λ (x : BoardState). x.store) is)
effect_held s q s' (marks m id t at none is) = same_store s s' (ap (λ (x : BoardState). x.store) is)

return_held : (s : BoardState) (o : Option Task) (s' : BoardState) → Returns s o s' → HeldStay s s'
return_held s None s' back = absurd back
return_held s (Some t) s' back = same_store s s' (ap (λ (x : BoardState). x.store) back.2)

step_held : (s : BoardState) (e : Event) (r : EventReply) (s' : BoardState) → Step s e r s' → HeldStay s s'
step_held s (event.Call q) (answer.Called a) s' step = effect_held s q s' (effect_of s q a s' step)
step_held s (event.Take id budget) (answer.Taken true) s' step =
    same_store s s' (ap (λ (x : BoardState). x.store) (taken_of s id budget s' step).leaves)
step_held s (event.Take id budget) (answer.Taken false) s' step =
    same_store s s' (ap (λ (x : BoardState). x.store) step.1)
step_held s (event.Return id) (answer.Returned true) s' step = return_held s (task_of id s.tasks) s' step
step_held s (event.Return id) (answer.Returned false) s' step =
    same_store s s' (ap (λ (x : BoardState). x.store) step.1)
step_held s _ _ s' step = absurd step

held_by : (s : BoardState) (e : Event) (r : EventReply) (s' : BoardState) → (s' ≡ s) ⊎ Step s e r s' → HeldStay s s'
held_by s e r s' (inl same) = same_store s s' (ap (λ (x : BoardState). x.store) same)
held_by s e r s' (inr step) = step_held s e r s' step

pub happens_held : (s : BoardState) (e : Event) (r : EventReply) (s' : BoardState) → Happens s e r s' → HeldStay s s'
happens_held s e r s' h = held_by s e r s' (happens s e r s' h)

-- ---- what is held is there

-- the content of each task is there
abbrev pub TasksHave : StoreState → Entries → Type 0
TasksHave store es =
    (k : ℕ) → (t : Task) → task_in k es ≡ Some t → content_in store.contents t.process.module ≡ Some t.bytes

pub record AllThere (s : BoardState) : Type 0 where
  pub sound : IsBoard s
  pub leased : LeasedAreThere s.store
  pub tasks : TasksHave s.store s.tasks

-- the digest of a task is in use
used_in : (k : ℕ) (t : Task) (es : Entries) → task_in k es ≡ Some t → is_among t.process.module (used_by es) ≡ true
used_in k t [] h = absurd (none_is_not t h)
used_in k t (e ∷ es) h =
    by_slot e.0 k
    (λ y here.
    let is : e.1 ≡ t = some_is e.1 t (cond_true (nat_eq e.0 k) (Some e.1) (task_in k es) (Some t) y h) in
    or_left (bytes_eq e.1.process.module t.process.module) (is_among t.process.module (used_by es))
    (same_id e.1.process.module t.process.module (ap (λ (x : Task). x.process.module) is)))
    (λ n other. or_right (bytes_eq e.1.process.module t.process.module) (is_among t.process.module (used_by es))
    (used_in k t es (cond_false (nat_eq e.0 k) (Some e.1) (task_in k es) (Some t) n h)))

store_tasks : (s : BoardState) (new : StoreState)
    → ((digest bytes : List ℕ) → is_held (used_by s.tasks) s.store.leases digest ≡ true
    → content_in s.store.contents digest ≡ Some bytes → content_in new.contents digest ≡ Some bytes)
    → TasksHave s.store s.tasks → TasksHave new s.tasks
store_tasks s new stays all k t there =
    stays t.process.module t.bytes
    (or_right (is_leased s.store.leases t.process.module) (is_among t.process.module (used_by s.tasks))
    (used_in k t s.tasks there)) (all k t there)

-- a task is changed to one of the same content
one_changed : (store : StoreState) (es us : Entries) (old new : Task) (j : ℕ) (t : Task) → new.process ≡ old.process
    → new.bytes ≡ old.bytes → TasksHave store es → IsChangedFrom old new j es us
    → task_in j us ≡ Some t → content_in store.contents t.process.module ≡ Some t.bytes
one_changed store es us old new j t process bytes all (inl same) there = all j t (sym same ∙ there)
one_changed store es us old new j t process bytes all (inr one) there =
    let is : new ≡ t = some_is new t (sym one.1 ∙ there) in
    let P : Task → Type 0 = λ x. content_in store.contents x.process.module ≡ Some x.bytes in
    let own : content_in store.contents new.process.module ≡ Some new.bytes =
    ap (λ p. content_in store.contents p.module) process ∙ (all j old one.0 ∙ ap (λ (x : List ℕ). Some x) (sym bytes))
    in
    subst P is own

task_changed : (s : BoardState) (id : List ℕ) (old new : Task) → task_of id s.tasks ≡ Some old → new.id ≡ old.id
    → new.process ≡ old.process → new.bytes ≡ old.bytes
    → TasksHave s.store s.tasks → TasksHave s.store (change_task new s.tasks)
task_changed s id old new at same process bytes all j t there =
    let f = found id s.tasks old at in
    let own : entry_of new.id s.tasks ≡ Some (f.0, old) =
    ap (λ (x : List ℕ). entry_of x s.tasks) (same ∙ task_named id s.tasks old at) ∙ f.1 in
    one_changed s.store s.tasks (change_task new s.tasks) old new j t process bytes all
    (changed_from_old old new f.0 j s.tasks own) there

change_process : (c : Change) (t : Task) → ((changed c t).process ≡ t.process) × ((changed c t).bytes ≡ t.bytes)
change_process (change.Kill signal) t = by t.out
  where
    by : (o : Option ℕ) → ((killed_while o signal t).process ≡ t.process) × ((killed_while o signal t).bytes ≡ t.bytes)
    by None = (refl, refl)
    by (Some n) = (refl, refl)
change_process _ t = (refl, refl)

create_tasks : (s : BoardState) (config id : List ℕ) (r : Answer) (s' : BoardState) → Creates s config id r s'
    → TasksHave s.store s.tasks → TasksHave s'.store s'.tasks
create_tasks s config id (Err e) s' effect all =
    subst (λ (x : BoardState). TasksHave x.store x.tasks) (sym effect.4.1) all
create_tasks s config id (Ok r) s' effect all =
    let enters = effect.4.3 in
    let t = created_task id s.creates effect.1 effect.4.0 effect.0 in
    subst (λ (x : BoardState). TasksHave x.store x.tasks) (sym enters.2)
    (λ k u there.
    by_slot k enters.0
    (λ y here.
    let is : t ≡ u =
    some_is t u
    (sym (put_there enters.0 t s.tasks enters.1)
    ∙ subst (λ (j : ℕ). task_in j (put_task enters.0 t s.tasks) ≡ Some u) here there) in
    subst (λ (x : Task). content_in s.store.contents x.process.module ≡ Some x.bytes) is effect.3)
    (λ n other. all k u (sym (put_in enters.0 k t s.tasks other) ∙ there)))

delete_tasks :
    (s : BoardState) (id : List ℕ) (old : Task) → IsBoard s → task_of id s.tasks ≡ Some old → TasksHave s.store s.tasks
    → TasksHave s.store (remove_task old.id s.tasks)
delete_tasks s id old b at all k t there =
    let f = found id s.tasks old at in
    let own : entry_of old.id s.tasks ≡ Some (f.0, old) =
    ap (λ (x : List ℕ). entry_of x s.tasks) (task_named id s.tasks old at) ∙ f.1 in
    by_slot k f.0
    (λ y here. absurd
    (none_is_not t
    (sym (removed_there old.id (f.0, old) s.tasks b.slots own)
    ∙ subst (λ (j : ℕ). task_in j (remove_task old.id s.tasks) ≡ Some t) here there)))
    (λ n other. all k t (sym (removed_beside old.id (f.0, old) k s.tasks own other) ∙ there))

effect_tasks : (s : BoardState) (q : Request) (s' : BoardState) → IsBoard s → Effect s q s' → TasksHave s.store s.tasks
    → TasksHave s'.store s'.tasks
effect_tasks s q s' b (nothing same) all = subst (λ (x : BoardState). TasksHave x.store x.tasks) (sym same) all
effect_tasks s q s' b (stores new change is) all =
    subst (λ (x : BoardState). TasksHave x.store x.tasks) (sym is)
    (store_tasks s new (held_stays (used_by s.tasks) s.store new change) all)
effect_tasks s q s' b (enters config id r none made) all = create_tasks s config id r s' made all
effect_tasks s q s' b (changes c id t asked at can is) all =
    let same = change_process c t in
    subst (λ (x : BoardState). TasksHave x.store x.tasks) (sym is)
    (task_changed s id t (changed c t) at (change_id c t) same.0 same.1 all)
effect_tasks s q s' b (deletes id t at can is) all =
    subst (λ (x : BoardState). TasksHave x.store x.tasks) (sym is) (delete_tasks s id t b at all)
effect_tasks s q s' b (marks m id t at none is) all =
    subst (λ (x : BoardState). TasksHave x.store x.tasks) (sym is)
    (task_changed s id t (marked m t) at refl refl refl all)

return_tasks :
    (s : BoardState) (id : List ℕ) (o : Option Task) (s' : BoardState) → task_of id s.tasks ≡ o → Returns s o s'
    → TasksHave s.store s.tasks → TasksHave s'.store s'.tasks
return_tasks s id None s' at back all = absurd back
return_tasks s id (Some t) s' at back all =
    let is = back.1.advances in
    subst (λ (x : BoardState). TasksHave x.store x.tasks) (sym back.2)
    (task_changed s id t back.0 at (ap (λ (x : Task). x.id) is) (ap (λ (x : Task). x.process) is)
    (ap (λ (x : Task). x.bytes) is) all)

step_tasks : (s : BoardState) (e : Event) (r : EventReply) (s' : BoardState) → IsBoard s → Step s e r s'
    → TasksHave s.store s.tasks → TasksHave s'.store s'.tasks
step_tasks s (event.Call q) (answer.Called a) s' b step all = effect_tasks s q s' b (effect_of s q a s' step) all
step_tasks s (event.Take id budget) (answer.Taken true) s' b step all =
    let is = taken_of s id budget s' step in
    subst (λ (x : BoardState). TasksHave x.store x.tasks) (sym is.leaves)
    (task_changed s id is.task (lent is.task budget) is.named refl refl refl all)
step_tasks s (event.Take id budget) (answer.Taken false) s' b step all =
    subst (λ (x : BoardState). TasksHave x.store x.tasks) (sym step.1) all
step_tasks s (event.Return id) (answer.Returned true) s' b step all =
    return_tasks s id (task_of id s.tasks) s' refl step all
step_tasks s (event.Return id) (answer.Returned false) s' b step all =
    subst (λ (x : BoardState). TasksHave x.store x.tasks) (sym step.1) all
step_tasks s _ _ s' b step all = absurd step

leased_same : (s s' : BoardState) → s'.store ≡ s.store → LeasedAreThere s.store → LeasedAreThere s'.store
leased_same s s' same all = subst LeasedAreThere (sym same) all

effect_leased :
    (s : BoardState) (q : Request) (s' : BoardState) → Effect s q s' → LeasedAreThere s.store → LeasedAreThere s'.store
effect_leased s q s' (nothing same) all = leased_same s s' (ap (λ (x : BoardState). x.store) same) all
effect_leased s q s' (stores new change is) all =
    subst (λ (x : BoardState). LeasedAreThere x.store) (sym is)
    (leased_are_there (used_by s.tasks) s.store new change all)
effect_leased s q s' (enters config id r none made) all = leased_same s s' (create_store s config id r s' made) all
effect_leased s q s' (changes c id t asked at can is) all = leased_same s s' (ap (λ (x : BoardState). x.store) is) all
effect_leased s q s' (deletes id t at can is) all = leased_same s s' (ap (λ (x : BoardState). x.store) is) all
effect_leased s q s' (marks m id t at none is) all = leased_same s s' (ap (λ (x : BoardState). x.store) is) all

return_leased : (s : BoardState) (o : Option Task) (s' : BoardState) → Returns s o s' → LeasedAreThere s.store
    → LeasedAreThere s'.store
return_leased s None s' back all = absurd back
return_leased s (Some t) s' back all = leased_same s s' (ap (λ (x : BoardState). x.store) back.2) all

step_leased : (s : BoardState) (e : Event) (r : EventReply) (s' : BoardState) → Step s e r s' → LeasedAreThere s.store
    → LeasedAreThere s'.store
step_leased s (event.Call q) (answer.Called a) s' step all = effect_leased s q s' (effect_of s q a s' step) all
step_leased s (event.Take id budget) (answer.Taken true) s' step all =
    leased_same s s' (ap (λ (x : BoardState). x.store) (taken_of s id budget s' step).leaves) all
step_leased s (event.Take id budget) (answer.Taken false) s' step all =
    leased_same s s' (ap (λ (x : BoardState). x.store) step.1) all
step_leased s (event.Return id) (answer.Returned true) s' step all = return_leased s (task_of id s.tasks) s' step all
step_leased s (event.Return id) (answer.Returned false) s' step all =
    leased_same s s' (ap (λ (x : BoardState). x.store) step.1) all
step_leased s _ _ s' step all = absurd step

there_by : (s : BoardState) (e : Event) (r : EventReply) (s' : BoardState) → AllThere s → Happens s e r s'
    → (s' ≡ s) ⊎ Step s e r s' → AllThere s'
there_by s e r s' all h (inl same) = subst AllThere (sym same) all
there_by s e r s' all h (inr step) = record {
  sound = happens_sound s e r s' all.sound h;
  leased = step_leased s e r s' step all.leased;
  tasks = step_tasks s e r s' all.sound step all.tasks;
}

pub happens_there :
    (s : BoardState) (e : Event) (r : EventReply) (s' : BoardState) → AllThere s → Happens s e r s' → AllThere s'
happens_there s e r s' all h = there_by s e r s' all h (happens s e r s' h)

empty_there : AllThere empty
empty_there = record { sound = empty_sound; leased = λ digest h. cc; tasks = λ k t h. cc }

pub run_there : (es : List Event) (rs : List EventReply) (s : BoardState) → Run empty es rs s → AllThere s
run_there es rs s run = run_keeps AllThere happens_there empty es rs s empty_there run
