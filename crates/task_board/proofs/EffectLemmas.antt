-- What a request does to a board, whatever it is answered, and that the board stays sound.
use Rattle.std.proofs.Common.{◌≡◌, ◌≢◌, ℕ, List, [], ◌∷◌, length, Bool, true, false, true≢false, cond, not, nat_eq, Option, Some, None, is_none, is_some, Ok, Err, inl, inr, ◌⊎◌, refl, sym, ap, ◌∙◌, subst, arith}
use Rattle.std.proofs.lemmas.Bool.Decides.{nat_tests}
use Rattle.wasm_ast.specs.declared.refusal.Refusal.{Refusal}
use Rattle.wasm_ast.specs.declared.refusal.Refusal.TheVariants as refusal
use Rattle.task_lifecycle.specs.declared.lifecycle.TaskCall.{TaskCall}
use Rattle.task_lifecycle.specs.declared.lifecycle.TaskCall.TheVariants as call
use Rattle.task_lifecycle.specs.declared.status.Status.{Status}
use Rattle.task_lifecycle.specs.declared.status.Status.TheVariants.{Created, Running, Pausing, Paused, Stopped}
use Rattle.task_lifecycle.specs.declared.status.Signal.{Signal}
use Rattle.task_lifecycle.specs.declared.status.Signal.TheVariants as signal
use Rattle.task_lifecycle.specs.Lifecycle.{allowed, takes_turns}
use Rattle.task_lifecycle.specs.Names.{signal_number, signal_of}
use Rattle.task_board.specs.declared.change.Change.{Change}
use Rattle.task_board.specs.declared.change.Change.TheVariants as change
use Rattle.task_requests.specs.declared.request.Ask.{Ask}
use Rattle.task_requests.specs.declared.request.Request.{Request}
use Rattle.task_requests.specs.declared.request.Request.TheVariants as request
use Rattle.task_requests.specs.declared.request.Ask.TheVariants as ask
use Rattle.task_requests.specs.declared.request.Reply.{Reply}
use Rattle.task_requests.specs.declared.request.Reply.TheVariants as reply
use Rattle.wasm_ast.specs.Identifiers.{is_id}
use Rattle.content_leases.specs.Digests.{digest_of}
use Rattle.content_leases.specs.StoreState.{StoreState, with_content, without_content, with_lease, with_member, without_lease, unheld, collected}
use Rattle.content_leases.specs.Refusals.{Refusals, first_refusal, put_refusals, remove_refusals, lease_create_refusals, lease_add_refusals, lease_delete_refusals}
use Rattle.task_board.specs.BoardState.{Task, Entries, BoardState, used_by, with_store, entry_of, task_of, with_task, without_task}
use Rattle.task_board.specs.declared.mark.Mark.{Mark}
use Rattle.task_board.specs.declared.mark.Mark.TheVariants as mark
use Rattle.task_board.specs.Tasks.{started, resumed, killed_while, killed_by, place_of, state_of}
use Rattle.task_board.specs.Refusals.{own_refusals, create_refusals, unless_allowed, task_refusals}
use Rattle.task_board.specs.Step.{Answer, DecidedBy, OnStore, Puts, PutsText, refused, stored, Done, with_left, OnFound, OnTask, Creates, does, Answers}
use Rattle.task_board.specs.Sound.{IsSound, IsBoard}
use Rattle.task_board.specs.declared.ticket.Ticket.{Ticket}
use Rattle.task_board.specs.Waiting.{waiting_after_call}
use Rattle.task_board.specs.Inside.Changes.{change_call, change_ask, change_reply, changed}
use Rattle.task_board.specs.Inside.Marks.{mark_call, marked, mark_ask}
use Rattle.task_board.specs.Inside.Plans.{IsQuestion}
use Rattle.task_board.proofs.EntryLemmas.{none_is_not, some_is}
use Rattle.task_board.proofs.MarkLemmas.{marked_sound}
use Rattle.task_board.proofs.SoundLemmas.{stepped_sound, started_sound, paused_sound, resumed_sound, killed_sound, remove_sound}
use Rattle.task_board.proofs.StepLemmas.{found, task_named, unchanged, sound_of, changed_sound, decided, none_first, not_true, create_leaves}
use Rattle.task_board.proofs.StoreLemmas.{StoreEffect, puts, removes, leases, adds, ends, collects, store_sound}

-- ---- signals by their numbers

signal_known_by : (n : ℕ) (s : Signal) (a b : Bool) → nat_eq n 9 ≡ a → nat_eq n 15 ≡ b
    → cond a (Some signal.Kill) (cond b (Some signal.Terminate) None) ≡ Some s → signal_number s ≡ n
signal_known_by n s true b is at h =
    let same : n ≡ 9 = grind (arith, nat_tests, is) in
    subst (λ (x : Signal). signal_number x ≡ n) (some_is signal.Kill s h) (sym same)
signal_known_by n s false true is at h =
    let same : n ≡ 15 = grind (arith, nat_tests, at) in
    subst (λ (x : Signal). signal_number x ≡ n) (some_is signal.Terminate s h) (sym same)
signal_known_by n s false false is at h = absurd (none_is_not s h)

-- a number is that of the signal that it names
pub signal_known : (n : ℕ) (s : Signal) → signal_of n ≡ Some s → signal_number s ≡ n
signal_known n s h = signal_known_by n s (nat_eq n 9) (nat_eq n 15) refl refl h

-- ---- changes

pub change_id : (c : Change) (t : Task) → (changed c t).id ≡ t.id
change_id (change.Kill signal) t = by t.out
  where
    by : (o : Option ℕ) → (killed_while o signal t).id ≡ t.id
    by None = refl
    by (Some n) = refl
change_id _ t = refl

pub change_incarnation : (c : Change) (t : Task) → (changed c t).incarnation ≡ t.incarnation
change_incarnation (change.Kill signal) t = by t.out
  where
    by : (o : Option ℕ) → (killed_while o signal t).incarnation ≡ t.incarnation
    by None = refl
    by (Some n) = refl
change_incarnation _ t = refl

pub created_only : (status : Status) → allowed call.Start status ≡ true → status ≡ Created
created_only Created h = refl
created_only _ h = cc

running_only : (status : Status) → allowed call.Pause status ≡ true → status ≡ Running
running_only Running h = refl
running_only _ h = cc

pub paused_only : (status : Status) → allowed call.Resume status ≡ true → status ≡ Paused
paused_only Paused h = refl
paused_only _ h = cc

pub stopped_only : (status : Status) → allowed call.Delete status ≡ true → status ≡ Stopped
stopped_only Stopped h = refl
stopped_only _ h = cc

-- a change that its status allows leaves a task sound
change_sound : (creates : ℕ) (c : Change) (t : Task) → IsSound creates t → allowed (change_call c) t.status ≡ true
    → IsSound creates (changed c t)
change_sound creates change.Start t h can = started_sound creates t h
change_sound creates change.Pause t h can = paused_sound creates t h (running_only t.status can)
change_sound creates change.Resume t h can = resumed_sound creates t h (paused_only t.status can)
change_sound creates (change.Kill signal) t h can = killed_sound creates signal t h can
change_sound creates (change.Step count) t h can = stepped_sound creates t count h

-- a request's own refusals let it through
pub own_accepted :
    (id : List ℕ) (t : Task) (own : Task → Refusals) → first_refusal (task_refusals id own (Some t)) ≡ None
    → first_refusal (own t) ≡ None
own_accepted id t own h = (none_first (not (is_id id)) refusal.BadId (first_refusal (own t)) h).1

one_accepted : (id : List ℕ) (t : Task) (c : TaskCall)
    → first_refusal ((not (is_id id), refusal.BadId) ∷ (not (allowed c t.status), refusal.WrongStatus) ∷ []) ≡ None
    → allowed c t.status ≡ true
one_accepted id t c h =
    let a = none_first (not (is_id id)) refusal.BadId _ h in
    not_true (allowed c t.status) (none_first (not (allowed c t.status)) refusal.WrongStatus None a.1).0

-- a change that is not refused is allowed
pub change_allowed : (c : Change) (id : List ℕ) (t : Task)
    → first_refusal (task_refusals id (own_refusals (change_ask c)) (Some t)) ≡ None
    → allowed (change_call c) t.status ≡ true
change_allowed change.Start id t h = one_accepted id t call.Start h
change_allowed change.Pause id t h = one_accepted id t call.Pause h
change_allowed change.Resume id t h = one_accepted id t call.Resume h
change_allowed (change.Kill signal.Kill) id t h = one_accepted id t call.Kill h
change_allowed (change.Kill signal.Terminate) id t h = one_accepted id t call.Kill h
change_allowed (change.Step count) id t h =
    not_true (allowed call.Step t.status)
    (none_first (not (allowed call.Step t.status)) refusal.WrongStatus _
    (own_accepted id t (own_refusals (ask.Step count)) h)).0

-- ---- answers to requests of one task

-- a refusal of its own list
pub refused_on : (s : BoardState) (id : List ℕ) (own : Task → Refusals) (does : Task → Done)
    (o : Option Task) (e : Refusal)
    → first_refusal (task_refusals id own o) ≡ Some e → OnFound id own does o s (Err e) s
refused_on s id own does None e h = subst (λ (x : Option Refusal). DecidedBy x ⊥ s (Err e) s) (sym h) (refl, refl)
refused_on s id own does (Some t) e h =
    subst (λ (x : Option Refusal). DecidedBy x ((Err e ≡ Ok (does t).0) × (s ≡ with_left s t (does t).1)) s (Err e) s)
    (sym h) (refl, refl)

-- the effect, if no refusal's condition holds
pub accepted_on : (s : BoardState) (id : List ℕ) (own : Task → Refusals) (does : Task → Done) (t : Task)
    (s' : BoardState)
    → task_of id s.tasks ≡ Some t → first_refusal (task_refusals id own (Some t)) ≡ None → s' ≡ with_left s t (does t).1
    → OnTask id own does s (Ok (does t).0) s'
accepted_on s id own does t s' at none is =
    let a : Answer = Ok (does t).0 in
    let P : Option Refusal → Type 0 = λ x. DecidedBy x ((a ≡ Ok (does t).0) × (s' ≡ with_left s t (does t).1)) s a s' in
    subst (λ (o : Option Task). OnFound id own does o s a s') (sym at) (subst P (sym none) (refl, is))

change_does : (c : Change) (t : Task) → does (change_ask c) t ≡ (change_reply c t.id (changed c t), Some (changed c t))
change_does (change.Kill signal.Kill) t = refl
change_does _ t = refl

-- the answer to a change that is made
pub change_answers :
    (c : Change) (s : BoardState) (id : List ℕ) (t : Task) (s' : BoardState) → task_of id s.tasks ≡ Some t
    → first_refusal (task_refusals id (own_refusals (change_ask c)) (Some t)) ≡ None → s' ≡ with_task s (changed c t)
    → Answers s (request.Task id (change_ask c)) (Ok (change_reply c t.id (changed c t))) s'
change_answers c s id t s' at none is =
    subst (λ (r : Reply). Answers s (request.Task id (change_ask c)) (Ok r) s')
    (ap (λ (d : Done). d.0) (change_does c t))
    (accepted_on s id (own_refusals (change_ask c)) (does (change_ask c)) t s' at none
    (is ∙ ap (λ (d : Done). with_left s t d.1) (sym (change_does c t))))

pub delete_answers : (s : BoardState) (id : List ℕ) (t : Task) (s' : BoardState) → task_of id s.tasks ≡ Some t
    → first_refusal (task_refusals id (unless_allowed call.Delete refusal.WrongStatus) (Some t)) ≡ None
    → s' ≡ without_task s t.id → Answers s (request.Task id ask.Delete) (Ok (reply.Delete (state_of t))) s'
delete_answers s id t s' at none is =
    accepted_on s id (unless_allowed call.Delete refusal.WrongStatus) (does ask.Delete) t s' at none is

-- ---- breakpoints and steps

-- it is not out then
marks_idle : (m : Mark) (status : Status) → allowed (mark_call m) status ≡ true → takes_turns status ≡ false
marks_idle (mark.Set p) Created h = refl
marks_idle (mark.Set p) Paused h = refl
marks_idle (mark.Remove p) Created h = refl
marks_idle (mark.Remove p) Paused h = refl
marks_idle _ _ h = cc

pub not_out : (o : Option ℕ) (b : Bool) → (is_some o ≡ true → b ≡ true) → b ≡ false → o ≡ None
not_out None b h off = refl
not_out (Some n) b h off = absurd (true≢false (sym (h refl) ∙ off))

pub marked_idle :
    (creates : ℕ) (m : Mark) (t : Task) → IsSound creates t → allowed (mark_call m) t.status ≡ true → t.out ≡ None
marked_idle creates m t h can = not_out t.out (takes_turns t.status) h.out (marks_idle m t.status can)

pub steps_idle : (status : Status) → allowed call.Step status ≡ true → takes_turns status ≡ false
steps_idle Created h = refl
steps_idle Running h = cc
steps_idle Pausing h = cc
steps_idle Paused h = refl
steps_idle Stopped h = refl

-- ---- what requests do

pub data Effect (s : BoardState) (q : Request) (s' : BoardState) : Type 0 where
  nothing : s' ≡ s → Effect s q s'
  stores : (new : StoreState) → StoreEffect (used_by s.tasks) s.store new → s' ≡ with_store s new → Effect s q s'
  enters : (config id : List ℕ) → (r : Answer) → first_refusal (create_refusals s config id) ≡ None
      → Creates s config id r s' → Effect s q s'
  changes : (c : Change) → (id : List ℕ) → (t : Task) → q ≡ request.Task id (change_ask c) → task_of id s.tasks ≡ Some t
      → allowed (change_call c) t.status ≡ true → s' ≡ with_task s (changed c t) → Effect s q s'
  deletes : (id : List ℕ) → (t : Task) → task_of id s.tasks ≡ Some t → allowed call.Delete t.status ≡ true
      → s' ≡ without_task s t.id → Effect s q s'
  marks : (m : Mark) → (id : List ℕ) → (t : Task) → task_of id s.tasks ≡ Some t
      → first_refusal (own_refusals (mark_ask m) t) ≡ None → s' ≡ with_task s (marked m t) → Effect s q s'

effect_by :
    (s : BoardState) (q : Request) (s' : BoardState) (o : Option Refusal) (E : Type 0) → (o ≡ None → E → Effect s q s')
    → (s' ≡ s) ⊎ ((o ≡ None) × E) → Effect s q s'
effect_by s q s' o E f (inl same) = nothing same
effect_by s q s' o E f (inr e) = f e.0 e.1

on_store_effect :
    (s : BoardState) (q : Request) (refusals : Refusals) (rep : Reply) (new : StoreState) (r : Answer) (s' : BoardState)
    → OnStore s refusals rep new r s'
    → (first_refusal refusals ≡ None → StoreEffect (used_by s.tasks) s.store new) → Effect s q s'
on_store_effect s q refusals rep new r s' on f =
    effect_by s q s' (first_refusal refusals) ((r ≡ Ok rep) × (s' ≡ with_store s new))
    (λ none e. stores new (f none) e.1)
    (decided (first_refusal refusals) ((r ≡ Ok rep) × (s' ≡ with_store s new)) s r s' on)

on_task_effect : (s : BoardState) (q : Request) (id : List ℕ) (own : Task → Refusals) (does : Task → Done)
    (o : Option Task) (r : Answer) (s' : BoardState) → OnFound id own does o s r s'
    → ((t : Task) → o ≡ Some t → first_refusal (task_refusals id own (Some t)) ≡ None
    → s' ≡ with_left s t (does t).1 → Effect s q s') → Effect s q s'
on_task_effect s q id own does None r s' on f =
    effect_by s q s' (first_refusal (task_refusals id own None)) ⊥ (λ none e. absurd e)
    (decided (first_refusal (task_refusals id own None)) ⊥ s r s' on)
on_task_effect s q id own does (Some t) r s' on f =
    effect_by s q s' (first_refusal (task_refusals id own (Some t)))
    ((r ≡ Ok (does t).0) × (s' ≡ with_left s t (does t).1))
    (λ none e. f t refl none e.1)
    (decided (first_refusal (task_refusals id own (Some t)))
    ((r ≡ Ok (does t).0) × (s' ≡ with_left s t (does t).1)) s r s' on)

-- a kill by a number is one by its signal
kill_effect :
    (s : BoardState) (s' : BoardState) (id : List ℕ) (number : ℕ) (t : Task) (o : Option Signal) → signal_of number ≡ o
    → task_of id s.tasks ≡ Some t → first_refusal
    ((not (is_id id), refusal.BadId) ∷ (is_none o, refusal.OutOfRange)
    ∷ (not (allowed call.Kill t.status), refusal.WrongStatus) ∷ []) ≡ None
    → s' ≡ with_task s (killed_by o t) → Effect s (request.Task id (ask.Kill number)) s'
kill_effect s s' id number t None named at none is =
    let a = none_first (not (is_id id)) refusal.BadId _ none in
    absurd
    (true≢false
    (none_first true refusal.OutOfRange
    (first_refusal ((not (allowed call.Kill t.status), refusal.WrongStatus) ∷ [])) a.1).0)
kill_effect s s' id number t (Some x) named at none is =
    let a = none_first (not (is_id id)) refusal.BadId _ none in
    changes (change.Kill x) id t (ap (λ (n : ℕ). request.Task id (ask.Kill n)) (sym (signal_known number x named))) at
    (not_true (allowed call.Kill t.status)
    (none_first (not (allowed call.Kill t.status)) refusal.WrongStatus None a.1).0)
    is

put_effect :
    (s : BoardState) (q : Request) (bytes : List ℕ) (r : Answer) (s' : BoardState) → Puts s bytes r s' → Effect s q s'
put_effect s q bytes r s' a =
    on_store_effect s q (put_refusals s.store bytes) (reply.Put (digest_of bytes) (length bytes))
    (with_content s.store bytes) r s' a (λ none. puts bytes none refl)

-- a put of a text does nothing, or is one of bytes
text_effect :
    (s : BoardState) (q : Request) (text : List ℕ) (r : Answer) (s' : BoardState) → PutsText s text r s' → Effect s q s'
text_effect s q text r s' (refused e why is same) = nothing same
text_effect s q text r s' (stored bytes is put) = put_effect s q bytes r s' put

-- what is asked of a task, and is accepted
ask_effect : (s s' : BoardState) (id : List ℕ) (k : Ask) (t : Task) → task_of id s.tasks ≡ Some t
    → first_refusal (task_refusals id (own_refusals k) (Some t)) ≡ None → s' ≡ with_left s t (does k t).1
    → Effect s (request.Task id k) s'
ask_effect s s' id ask.Start t at none is = changes change.Start id t refl at (change_allowed change.Start id t none) is
ask_effect s s' id ask.Pause t at none is = changes change.Pause id t refl at (change_allowed change.Pause id t none) is
ask_effect s s' id ask.Resume t at none is =
    changes change.Resume id t refl at (change_allowed change.Resume id t none) is
ask_effect s s' id (ask.Kill number) t at none is = kill_effect s s' id number t (signal_of number) refl at none is
ask_effect s s' id ask.Delete t at none is = deletes id t at (one_accepted id t call.Delete none) is
ask_effect s s' id (ask.Break func place) t at none is =
    marks (mark.Set (place_of func place)) id t at (own_accepted id t (own_refusals (ask.Break func place)) none) is
ask_effect s s' id (ask.Unbreak func place) t at none is =
    marks (mark.Remove (place_of func place)) id t at
    (own_accepted id t (own_refusals (ask.Unbreak func place)) none) is
ask_effect s s' id (ask.Step count) t at none is =
    changes (change.Step count) id t refl at (change_allowed (change.Step count) id t none) is
ask_effect s s' id _ t at none is = nothing (is ∙ unchanged s id t at)

pub effect_of : (s : BoardState) (q : Request) (r : Answer) (s' : BoardState) → Answers s q r s' → Effect s q s'
effect_of s (request.Put bytes) r s' a = put_effect s (request.Put bytes) bytes r s' a
effect_of s (request.PutText text) r s' a = text_effect s (request.PutText text) text r s' a
effect_of s (request.Remove digest) r s' a =
    on_store_effect s (request.Remove digest) (remove_refusals (used_by s.tasks) s.store digest) (reply.Remove digest)
    (without_content s.store digest) r s' a (λ none. removes digest none refl)
effect_of s (request.LeaseCreate id) r s' a =
    on_store_effect s (request.LeaseCreate id) (lease_create_refusals s.store id) (reply.LeaseCreate id)
    (with_lease s.store id) r s' a
    (λ none. leases id none refl)
effect_of s (request.LeaseAdd digest id) r s' a =
    on_store_effect s (request.LeaseAdd digest id) (lease_add_refusals s.store digest id) (reply.LeaseAdd digest id)
    (with_member s.store digest id)
    r s' a (λ none. adds digest id none refl)
effect_of s (request.LeaseDelete id) r s' a =
    on_store_effect s (request.LeaseDelete id) (lease_delete_refusals s.store id) (reply.LeaseDelete id)
    (without_lease s.store id) r s' a
    (λ none. ends id none refl)
effect_of s request.Gc r s' a =
    on_store_effect s request.Gc [] (reply.Gc (unheld (used_by s.tasks) s.store))
    (collected (used_by s.tasks) s.store) r s' a
    (λ none. collects refl)
effect_of s (request.Create config id) r s' a =
    effect_by s (request.Create config id) s' (first_refusal (create_refusals s config id)) (Creates s config id r s')
    (λ none e. enters config id r none e)
    (decided (first_refusal (create_refusals s config id)) (Creates s config id r s') s r s' a)
effect_of s (request.Task id k) r s' a =
    on_task_effect s (request.Task id k) id (own_refusals k) (does k) (task_of id s.tasks) r s' a (ask_effect s s' id k)

-- ---- soundness

pub change_keeps_sound :
    (s : BoardState) (c : Change) (id : List ℕ) (t : Task) → IsBoard s → task_of id s.tasks ≡ Some t
    → allowed (change_call c) t.status ≡ true → IsBoard (with_task s (changed c t))
change_keeps_sound s c id t b at can =
    changed_sound s id t (changed c t) b at (change_id c t) (change_incarnation c t)
    (change_sound s.creates c t (sound_of s id t b at) can)

pub delete_keeps_sound :
    (s : BoardState) (id : List ℕ) (t : Task) → IsBoard s → task_of id s.tasks ≡ Some t → IsBoard (without_task s t.id)
delete_keeps_sound s id t b at =
    let f = found id s.tasks t at in
    remove_sound s t.id f.0 t b (ap (λ (x : List ℕ). entry_of x s.tasks) (task_named id s.tasks t at) ∙ f.1)

pub mark_keeps_sound : (s : BoardState) (m : Mark) (id : List ℕ) (t : Task) → IsBoard s → task_of id s.tasks ≡ Some t
    → first_refusal (own_refusals (mark_ask m) t) ≡ None → IsBoard (with_task s (marked m t))
mark_keeps_sound s m id t b at none =
    changed_sound s id t (marked m t) b at refl refl (marked_sound s.creates m t (sound_of s id t b at) none)

effect_sound : (s : BoardState) (q : Request) (s' : BoardState) → IsBoard s → Effect s q s' → IsBoard s'
effect_sound s q s' b (nothing same) = subst IsBoard (sym same) b
effect_sound s q s' b (stores new change is) = subst IsBoard (sym is) (store_sound s (used_by s.tasks) new b change)
effect_sound s q s' b (enters config id r none made) = create_leaves s config id r s' b none made
effect_sound s q s' b (changes c id t asked at can is) = subst IsBoard (sym is) (change_keeps_sound s c id t b at can)
effect_sound s q s' b (deletes id t at can is) = subst IsBoard (sym is) (delete_keeps_sound s id t b at)
effect_sound s q s' b (marks m id t at none is) = subst IsBoard (sym is) (mark_keeps_sound s m id t b at none)

-- ---- questions

pub decided_ok :
    (o : Option Refusal) (E : Type 0) (s : BoardState) (a : Reply) (s' : BoardState) → DecidedBy o E s (Ok a) s'
    → (o ≡ None) × E
decided_ok None E s a s' d = (refl, d)
decided_ok (Some e) E s a s' d = let is = d.0 in cc

-- what is accepted is asked of a task that is there
asked_task : (s : BoardState) (id : List ℕ) (own : Task → Refusals) (does : Task → Done) (o : Option Task) (a : Reply)
    (s' : BoardState) → OnFound id own does o s (Ok a) s' → Task
asked_task s id own does None a s' on = absurd (decided_ok (first_refusal (task_refusals id own None)) ⊥ s a s' on).1
asked_task s id own does (Some t) a s' on = t

-- what leaves each task as it is lets none enter that wait, and none leave
waits_still :
    (k : Ask) (t : Task) (id : List ℕ) (ts : Entries) (ws : List Ticket) → ((x : Task) → (does k x).1 ≡ Some x)
    → waiting_after_call (request.Task id k) ts ws ≡ ws
waits_still ask.Start t id ts ws same =
    let asked : Task = record t { signal = Some signal.Kill } in
    absurd (none_is_not signal.Kill (ap (λ (x : Task). x.signal) (some_is (started asked) asked (same asked))))
waits_still ask.Resume t id ts ws same =
    let asked : Task = record t { status = Created } in
    let is : Running ≡ Created = ap (λ (x : Task). x.status) (some_is (resumed asked) asked (same asked)) in
    cc
waits_still ask.Delete t id ts ws same = absurd (none_is_not t (same t))
waits_still _ t id ts ws same = refl

pub question_waits : (s : BoardState) (r : Request) (a : Reply) (ws : List Ticket) → IsQuestion r → Answers s r (Ok a) s
    → ws ≡ waiting_after_call r s.tasks ws
question_waits s (request.Task id k) a ws leaves on =
    sym (waits_still k (asked_task s id (own_refusals k) (does k) (task_of id s.tasks) a s on) id s.tasks ws leaves)
question_waits s _ a ws leaves on = absurd leaves

pub answers_sound :
    (s : BoardState) (q : Request) (r : Answer) (s' : BoardState) → IsBoard s → Answers s q r s' → IsBoard s'
answers_sound s q r s' b a = effect_sound s q s' b (effect_of s q r s' a)
