-- What the steps do to a board: by the task that they concern, and that the board stays sound.
use Rattle.std.proofs.Common.{◌≡◌, ◌≢◌, ℕ, ◌+◌, ◌<◌, ◌≤◌, List, [], ◌∷◌, ◌++◌, length, Bool, true, false, true≢false, cond, not, ◌||◌, ◌&&◌, nat_le, bytes_eq, Option, Some, None, is_some, is_none, option_map, option_and_then, Ok, Err, inl, inr, ◌⊎◌, refl, sym, ap, ◌∙◌, subst, arith}
use Rattle.std.proofs.lemmas.Bool.{or_parts}
use Rattle.std.proofs.lemmas.Bool.Decides.{nat_tests}
use Rattle.wasm_ast.specs.declared.module.Module.{Module}
use Rattle.wasm_ast.specs.declared.refusal.Refusal.{Refusal}
use Rattle.wasm_ast.specs.declared.refusal.Refusal.TheVariants as refusal
use Rattle.oci_config.specs.declared.process.ProcessConfig.{ProcessConfig}
use Rattle.wasm_ast.specs.declared.place.Place.{Place}
use Rattle.step_machine.specs.Instantiation.{after, ended}
use Rattle.step_machine.specs.Slices.{turns_made, ends_slice}
use Rattle.task_requests.specs.declared.request.Request.{Request}
use Rattle.task_requests.specs.declared.request.Request.TheVariants as request
use Rattle.task_requests.specs.declared.request.Reply.TheVariants as reply
use Rattle.task_lifecycle.specs.declared.status.Status.{Status}
use Rattle.task_lifecycle.specs.declared.status.Status.TheVariants.{Created, Running, Pausing, Paused, Stopped}
use Rattle.task_board.specs.Limits.{max_tasks, max_creates}
use Rattle.task_requests.specs.Limits.{max_budget}
use Rattle.wasm_ast.specs.Identifiers.{is_id}
use Rattle.content_leases.specs.Digests.{digest_of}
use Rattle.content_leases.specs.Refusals.{Refusals, first_refusal}
use Rattle.oci_config.specs.Config.{process_read}
use Rattle.task_lifecycle.specs.Lifecycle.{is_running, is_going, takes_turns}
use Rattle.task_board.specs.BoardState.{Task, Entries, BoardState, created_task, task_in, entry_of, task_of, change_task, with_task, with_new_task}
use Rattle.task_board.specs.Tasks.{advanced, can_lend, lent, slice_turns, MayAdvance, HasReturned}
use Rattle.task_board.specs.Refusals.{create_refusals, named_bytes, is_full, id_refusals}
use Rattle.task_board.specs.Step.{Answer, DecidedBy, Creates, Answers, is_budget, lends, taken, Returns}
use Rattle.task_board.specs.Sound.{IsSound, IsBoard}
use Rattle.task_board.specs.Inside.Plans.{CreatePrepared}
use Rattle.task_board.proofs.EntryLemmas.{none_is_not, some_is, by_id, cond_true, cond_false, cond_is_true, cond_is_false, each_in, entry_at, named, in_slot}
use Rattle.task_board.proofs.SoundLemmas.{change_sound, put_sound, created_sound, content_named, advanced_sound}

-- ---- the task with an id

found_by :
    (o : Option (ℕ × Task)) (t : Task) → option_map (λ (e : ℕ × Task). e.1) o ≡ Some t → (k : ℕ) × (o ≡ Some (k, t))
found_by None t h = absurd (none_is_not t h)
found_by (Some e) t h = (e.0, ap (λ (u : Task). Some (e.0, u)) (some_is e.1 t h))

-- its entry
pub found : (id : List ℕ) (es : Entries) (t : Task) → task_of id es ≡ Some t → (k : ℕ) × (entry_of id es ≡ Some (k, t))
found id es t h = found_by (entry_of id es) t h

pub task_named : (id : List ℕ) (es : Entries) (t : Task) → task_of id es ≡ Some t → t.id ≡ id
task_named id es t h = let f = found id es t h in named id es (f.0, t) f.1

unchanged_by : (t : Task) (k : ℕ) (es : Entries) → entry_of t.id es ≡ Some (k, t) → change_task t es ≡ es
unchanged_by t k [] h = absurd (none_is_not (k, t) h)
unchanged_by t k (e ∷ es) h =
    by_id e.1.id t.id
    (λ y same.
    let own : e ≡ (k, t) =
    some_is e (k, t) (cond_true (bytes_eq e.1.id t.id) (Some e) (entry_of t.id es) (Some (k, t)) y h) in
    cond_is_true (bytes_eq e.1.id t.id) ((e.0, t) ∷ es) (e ∷ change_task t es) y
    ∙ ap (λ (x : ℕ × Task). (e.0, x.1) ∷ es) (sym own))
    (λ n differs.
    cond_is_false (bytes_eq e.1.id t.id) ((e.0, t) ∷ es) (e ∷ change_task t es) n ∙ ap (λ (xs : Entries). e ∷ xs)
    (unchanged_by t k es (cond_false (bytes_eq e.1.id t.id) (Some e) (entry_of t.id es) (Some (k, t)) n h)))

-- a task that is changed to itself leaves the board as it is
pub unchanged : (s : BoardState) (id : List ℕ) (t : Task) → task_of id s.tasks ≡ Some t → with_task s t ≡ s
unchanged s id t at =
    let f = found id s.tasks t at in
    ap (λ (es : Entries). record s { tasks = es })
    (unchanged_by t f.0 s.tasks (ap (λ (x : List ℕ). entry_of x s.tasks) (task_named id s.tasks t at) ∙ f.1))

pub sound_of : (s : BoardState) (id : List ℕ) (t : Task) → IsBoard s → task_of id s.tasks ≡ Some t → IsSound s.creates t
sound_of s id t b h =
    let f = found id s.tasks t h in
    each_in (IsSound s.creates) f.0 t s.tasks b.tasks (in_slot id (f.0, t) s.tasks b.slots f.1)

-- it is changed to a sound one of its id and incarnation
pub changed_sound : (s : BoardState) (id : List ℕ) (old new : Task) → IsBoard s → task_of id s.tasks ≡ Some old
    → new.id ≡ old.id → new.incarnation ≡ old.incarnation → IsSound s.creates new → IsBoard (with_task s new)
changed_sound s id old new b h same number sound =
    let f = found id s.tasks old h in
    change_sound s f.0 old new b
    (ap (λ (x : List ℕ). entry_of x s.tasks) (same ∙ task_named id s.tasks old h) ∙ f.1) number sound

-- ---- refusals

pub decided : (o : Option Refusal) (E : Type 0) (s : BoardState) (r : Answer) (s' : BoardState) → DecidedBy o E s r s'
    → (s' ≡ s) ⊎ ((o ≡ None) × E)
decided None E s r s' d = inr (refl, d)
decided (Some e) E s r s' d = inl d.1

pub none_first :
    (b : Bool) (e : Refusal) (rest : Option Refusal) → cond b (Some e) rest ≡ None → (b ≡ false) × (rest ≡ None)
none_first true e rest h = absurd (none_is_not e (sym h))
none_first false e rest h = (refl, h)

pub not_true : (b : Bool) → not b ≡ false → b ≡ true
not_true true h = refl
not_true false h = cc

-- ---- what requests leave

pub none_of : {X : Type 0} (o : Option X) → is_some o ≡ false → o ≡ None
none_of None h = refl
none_of (Some x) h = absurd (true≢false h)

pub create_leaves : (s : BoardState) (config id : List ℕ) (r : Answer) (s' : BoardState) → IsBoard s
    → first_refusal (create_refusals s config id) ≡ None → Creates s config id r s' → IsBoard s'
create_leaves s config id (Err e) s' b none effect = subst IsBoard (sym effect.4.1) b
create_leaves s config id (Ok r) s' b none effect =
    let n = none_first (not (is_id id)) refusal.BadId _ none in
    let x = none_first (is_some (task_of id s.tasks)) refusal.Exists _ n.1 in
    let m = none_first (nat_le max_tasks (length s.tasks) || nat_le max_creates s.creates) refusal.TooMany _ x.1 in
    let both = or_parts (nat_le max_tasks (length s.tasks)) (nat_le max_creates s.creates) m.0 in
    let few_off = both.0 in
    let few : length s.tasks < max_tasks = grind (arith, nat_tests, few_off) in
    let low_off = both.1 in
    let low : s.creates < max_creates = grind (arith, nat_tests, low_off) in
    let p = effect.0 in
    let bytes = effect.1 in
    let opened = effect.4 in
    let digest : p.module ≡ digest_of bytes = content_named p.module bytes s.store.contents b.contents effect.3 in
    let t = created_task id s.creates bytes opened.0 p in
    let sound : IsSound (s.creates + 1) t =
    created_sound id s.creates bytes opened.0 p (not_true (is_id id) n.0) opened.1 digest in
    subst IsBoard (sym opened.3.2)
    (put_sound s opened.3.0 t b opened.3.1 (none_of (task_of id s.tasks) x.0) refl sound few low)

-- ---- slices

pub running_only : (status : Status) → is_running status ≡ true → status ≡ Running
running_only Running h = refl
running_only _ h = cc

both_of : (a b : Bool) → (a && b) ≡ true → (a ≡ true) × (b ≡ true)
both_of true b h = (refl, h)
both_of false b h = cc

budget_of : (n budget : ℕ) → (1 ≤ budget) × (budget ≤ max_budget) → Some budget ≡ Some n → (1 ≤ n) × (n ≤ max_budget)
budget_of n budget h is = subst (λ (x : ℕ). (1 ≤ x) × (x ≤ max_budget)) (some_is budget n is) h

lent_sound_by : (creates : ℕ) (t : Task) (budget : ℕ) → IsSound creates t → t.status ≡ Running
    → (1 ≤ budget) × (budget ≤ max_budget) → IsSound creates (lent t budget)
lent_sound_by creates t budget h is low =
    let new = lent t budget in
    let out : is_some new.out ≡ true → takes_turns new.status ≡ true = λ o. ap takes_turns is in
    let within : (n : ℕ) → new.out ≡ Some n → (1 ≤ n) × (n ≤ max_budget) = λ n o. budget_of n budget low o in
    let pausing : new.status ≡ Pausing → is_some new.out ≡ true = λ p. refl in
    let signal : is_some new.signal ≡ true → is_some new.out ≡ true = λ x. refl in
    assumption

pub lent_sound :
    (creates : ℕ) (t : Task) (budget : ℕ) → IsSound creates t → can_lend t ≡ true → (1 ≤ budget) × (budget ≤ max_budget)
    → IsSound creates (lent t budget)
lent_sound creates t budget h can low =
    lent_sound_by creates t budget h (running_only t.status (both_of (is_running t.status) (is_none t.out) can).0) low

pub in_range : (budget : ℕ) → (1 ≤ budget) × (budget ≤ max_budget) → is_budget budget ≡ true
in_range budget h =
    let low = h.0 in
    let high = h.1 in
    let a : nat_le 1 budget ≡ true = grind (arith, nat_tests, low) in
    let b : nat_le budget max_budget ≡ true = grind (arith, nat_tests, high) in
    rw (a, b) refl

-- a task in a slot is the one with its id
pub of_slot :
    (s : BoardState) (k : ℕ) (t : Task) → IsBoard s → task_in k s.tasks ≡ Some t → task_of t.id s.tasks ≡ Some t
of_slot s k t b h = ap (option_map (λ (e : ℕ × Task). e.1)) (entry_at k t s.tasks b.ids h)

pub lends_sound :
    (s : BoardState) (k : ℕ) (t : Task) (budget : ℕ) → IsBoard s → task_in k s.tasks ≡ Some t → can_lend t ≡ true
    → (1 ≤ budget) × (budget ≤ max_budget) → IsBoard (with_task s (lent t budget))
lends_sound s k t budget b there can low =
    changed_sound s t.id t (lent t budget) b (of_slot s k t b there) refl refl
    (lent_sound s.creates t budget (each_in (IsSound s.creates) k t s.tasks b.tasks there) can low)

pub takes : (s : BoardState) (k : ℕ) (t : Task) (id : List ℕ) (budget : ℕ) → IsBoard s → task_in k s.tasks ≡ Some t
    → can_lend t ≡ true → (1 ≤ budget) × (budget ≤ max_budget)
    → id ≡ t.id → taken s id budget ≡ Some (with_task s (lent t budget))
takes s k t id budget b there can low same =
    cond_is_true (is_budget budget) (option_and_then (lends s budget) (task_of id s.tasks)) None (in_range budget low)
    ∙ (ap (option_and_then (lends s budget)) (ap (λ (x : List ℕ). task_of x s.tasks) same ∙ of_slot s k t b there)
    ∙ cond_is_true (can_lend t) (Some (with_task s (lent t budget))) None can)

-- ---- create

-- a create that is accepted finds room
pub few_tasks : (s : BoardState) (config id : List ℕ) → first_refusal (create_refusals s config id) ≡ None
    → length s.tasks < max_tasks
few_tasks s config id none =
    let n = none_first (not (is_id id)) refusal.BadId _ none in
    let x = none_first (is_some (task_of id s.tasks)) refusal.Exists _ n.1 in
    let m = none_first (nat_le max_tasks (length s.tasks) || nat_le max_creates s.creates) refusal.TooMany _ x.1 in
    let both = or_parts (nat_le max_tasks (length s.tasks)) (nat_le max_creates s.creates) m.0 in
    let few_off = both.0 in
    grind (arith, nat_tests, few_off)

pub create_answers :
    (s : BoardState) (r : Request) (t : Task) (id : List ℕ) (key : ℕ) (s' : BoardState) → CreatePrepared s r t id
    → task_in key s.tasks ≡ None → s' ≡ with_new_task s key t → Answers s r (Ok (reply.Create id Created)) s'
create_answers s r t id key s' p free leaves =
    let made : s' ≡ with_new_task s key (created_task id s.creates t.bytes t.module t.process) =
    leaves ∙ ap (with_new_task s key) p.created in
    let effect : Creates s p.config id (Ok (reply.Create id Created)) s' =
    (t.process, t.bytes, p.read, p.content, (t.module, p.openable, refl, (key, free, made))) in
    let P : Option Refusal → Type 0 =
    λ o. DecidedBy o (Creates s p.config id (Ok (reply.Create id Created)) s') s (Ok (reply.Create id Created)) s'
    in
    let done :
    Answers s (request.Create p.config id) (Ok (reply.Create id Created)) s' = subst P (sym p.accepted) effect in
    subst (λ (q : Request). Answers s q (Ok (reply.Create id Created)) s') (sym p.is) done

-- ---- return

going : (status : Status) → takes_turns status ≡ true → is_going status ≡ true
going Created h = cc
going Running h = refl
going Pausing h = refl
going Paused h = cc
going Stopped h = cc

-- what the machine promises of slices
abbrev pub GoForward : Type 0
GoForward = (m : Module) (p : ProcessConfig) (n : ℕ) (bs : List Place) (budget : ℕ)
    → ended (after m p n).state ≡ None → 1 ≤ budget → 1 ≤ turns_made m p n bs budget

abbrev pub StopFirst : Type 0
StopFirst = (m : Module) (p : ProcessConfig) (n : ℕ) (bs : List Place) (budget j : ℕ)
    → 1 ≤ j → j < turns_made m p n bs budget → ends_slice bs (after m p (n + j)).state ≡ false

-- a slice of a sound task that is out advances it legally
pub slice_advances :
    (creates : ℕ) (t : Task) (budget : ℕ) → GoForward → StopFirst → IsSound creates t → t.out ≡ Some budget
    → MayAdvance t (slice_turns t budget)
slice_advances creates t budget forward first h out =
    let status : takes_turns t.status ≡ true = h.out (ap (is_some {T = ℕ}) out) in
    let goes = h.goes (going t.status status) in
    record {
      status = status;
      some = forward t.module t.process t.turns t.breaks budget goes (h.budget budget out).0;
      goes = goes;
      uncut = λ j. first t.module t.process t.turns t.breaks budget j;
    }

-- the task of a slot comes back from its slice
pub returns :
    (s : BoardState) (k : ℕ) (t : Task) (id : List ℕ) (budget : ℕ) (s' : BoardState) → GoForward → StopFirst → IsBoard s
    → task_in k s.tasks ≡ Some t → id ≡ t.id
    → t.out ≡ Some budget → s' ≡ with_task s (advanced t (slice_turns t budget)) → Returns s (task_of id s.tasks) s'
returns s k t id budget s' forward first b there same out leaves =
    let at : task_of id s.tasks ≡ Some t = ap (λ (x : List ℕ). task_of x s.tasks) same ∙ of_slot s k t b there in
    let legal =
    slice_advances s.creates t budget forward first (each_in (IsSound s.creates) k t s.tasks b.tasks there) out in
    let back : HasReturned t (advanced t (slice_turns t budget)) =
    record { budget = budget; out = out; legal = legal; advances = refl } in
    subst (λ (o : Option Task). Returns s o s') (sym at) (advanced t (slice_turns t budget), back, leaves)

pub returned_sound : (s : BoardState) (k : ℕ) (t : Task) (n : ℕ) → IsBoard s → task_in k s.tasks ≡ Some t
    → IsBoard (with_task s (advanced t n))
returned_sound s k t n b there =
    changed_sound s t.id t (advanced t n) b (of_slot s k t b there) refl refl
    (advanced_sound s.creates t n (each_in (IsSound s.creates) k t s.tasks b.tasks there))

-- ---- refusals of a create

pub first_append : (cs ds : Refusals) (e : Refusal) → first_refusal cs ≡ Some e → first_refusal (cs ++ ds) ≡ Some e
first_append [] ds e h = absurd (none_is_not e h)
first_append (x ∷ cs) ds e h =
    by_head x.0 x.1 (first_refusal cs) (first_refusal (cs ++ ds)) e (λ k. first_append cs ds e k) h
  where
    by_head : (b : Bool) (y : Refusal) (o p : Option Refusal) (e : Refusal) → (o ≡ Some e → p ≡ Some e)
        → cond b (Some y) o ≡ Some e → cond b (Some y) p ≡ Some e
    by_head true y o p e f h = h
    by_head false y o p e f h = f h

-- a refusal of the id is one of the create
pub id_refused :
    (s : BoardState) (config id : List ℕ) (e : Refusal) (E : Type 0) → first_refusal (id_refusals s id) ≡ Some e
    → DecidedBy (first_refusal (create_refusals s config id)) E s (Err e) s
id_refused s config id e E h =
    let all : first_refusal (create_refusals s config id) ≡ Some e =
    first_append (id_refusals s id)
    ((is_none (process_read config), refusal.BadConfig) ∷ (is_none (named_bytes s config), refusal.NoContent) ∷ [])
    e h in
    subst (λ (o : Option Refusal). DecidedBy o E s (Err e) s) (sym all) (refl, refl)

not_memory : (a b c : Bool) (e : Refusal)
    → cond a (Some refusal.BadId) (cond b (Some refusal.Exists) (cond c (Some refusal.TooMany) None)) ≡ Some e
    → e ≢ refusal.NoMemory
not_memory false false false e h is = cc
not_memory _ _ _ e h is = cc

pub id_refusal_known :
    (s : BoardState) (id : List ℕ) (e : Refusal) → first_refusal (id_refusals s id) ≡ Some e → e ≢ refusal.NoMemory
id_refusal_known s id e h = not_memory (not (is_id id)) (is_some (task_of id s.tasks)) (is_full s) e h

-- ---- a create that none of the refusals of its id concerns
