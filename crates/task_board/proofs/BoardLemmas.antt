-- A board after a write in a slot and after an insert.
use Rattle.std.proofs.Common.{slice_set, ◌≡◌, ℕ, ◌+◌, ◌≤◌, List, Bool, true, IsTrue, ◌↔◌, Option, Some, None, option_map, Ok, sym, ap, ◌∙◌, subst, arith}
use Rattle.slab.specs.Slab.{Slab, entries, entries_from, get, with_value, Updates, HasRoomFor}
use Rattle.task_board.specs.declared.board.Board.TheInside as board
use Rattle.task_board.specs.declared.ticket.Ticket.{Ticket}
use Rattle.task_requests.specs.declared.request.Request.{Request}
use Rattle.task_requests.specs.declared.request.Request.TheVariants as request
use Rattle.task_requests.specs.declared.request.Ask.TheVariants as ask
use Rattle.task_requests.specs.declared.request.Reply.TheVariants as reply
use Rattle.wasm_ast.specs.declared.refusal.Refusal.TheVariants as refusal
use Rattle.task_lifecycle.specs.declared.lifecycle.TaskCall.TheVariants as call
use Rattle.task_lifecycle.specs.declared.status.Status.TheVariants.{Created}
use Rattle.task_requests.specs.Limits.{max_budget}
use Rattle.task_board.specs.BoardState.{Task, Entries, BoardState, task_in, entry_of, task_of, remove_task, with_task, without_task, with_new_task}
use Rattle.task_board.specs.Tasks.{can_lend, lent, advanced, slice_turns, state_of}
use Rattle.content_leases.specs.Refusals.{Refusals, first_refusal}
use Rattle.task_board.specs.Refusals.{unless_allowed, task_refusals, own_refusals}
use Rattle.task_board.specs.Step.{Answers, does, taken, Returns}
use Rattle.task_board.specs.Sound.{IsBoard}
use Rattle.task_board.specs.Loans.{Lent, loan_of, FitsTask, Fits}
use Rattle.task_board.specs.Tickets.{ticket_in, Lends}
use Rattle.task_board.specs.Waiting.{running_ticket, AreWaiting}
use Rattle.task_board.specs.declared.change.Change.{Change}
use Rattle.std.specs.Arc.{arc_value}
use Rattle.wasm_ast.specs.declared.place.Place.{Place}
use Rattle.task_board.specs.declared.mark.Mark.{Mark}
use Rattle.task_board.specs.declared.mark.Mark.TheVariants as mark
use Rattle.task_board.specs.declared.mark.NewBreaks.{NewBreaks}
use Rattle.task_board.specs.Inside.Marks.{mark_ask, mark_reply, marked_places, marked}
use Rattle.task_board.specs.Inside.Plans.{CreatePrepared, CallPrepared, MarkPrepared}
use Rattle.task_board.specs.Inside.Changes.{change_reply, changed as changed_by, change_ask}
use Rattle.task_board.specs.Inside.Shown.{board_state_of}
use Rattle.task_board.proofs.EntryLemmas.{none_is_not, some_is, entry_at, named, in_slot, changed_in}
use Rattle.task_board.proofs.SlabLemmas.{in_slab, changed, removed, inserted, count}
use Rattle.task_board.proofs.MarkLemmas.{mark_allowed}
use Rattle.task_board.proofs.EffectLemmas.{change_id, change_incarnation, accepted_on, change_answers, delete_answers, answers_sound, marked_idle, own_accepted, mark_keeps_sound}
use Rattle.task_board.proofs.WaitingLemmas.{same_ticket, stay_changed, stay_more}
use Rattle.task_board.proofs.StepLemmas.{task_named, sound_of, few_tasks, create_answers, lends_sound, takes, GoForward, StopFirst, returns, returned_sound}

-- the board with another slab of tasks
abbrev pub with_slab : board.Inside → Slab Task → List Ticket → board.Inside
with_slab b s waiting = record b { tasks = s; waiting = waiting }

abbrev pub with_write : board.Inside → ℕ → Task → board.Inside
with_write b k t = with_slab b (with_value b.tasks k t) b.waiting

-- ---- a write in a slot

pub there : (b : board.Inside) (k : ℕ) (t : Task) → get b.tasks k ≡ Some t → task_in k (board_state_of b).tasks ≡ Some t
there b k t h = in_slab b.tasks k ∙ h

pub nothing_there :
    (b : board.Inside) (k : ℕ) (t : Task) → get b.tasks k ≡ None → task_in k (board_state_of b).tasks ≡ Some t → ⊥
nothing_there b k t h is = none_is_not t (sym h ∙ (sym (in_slab b.tasks k) ∙ is))

pub same_there : (b : board.Inside) (k : ℕ) (t u : Task) → get b.tasks k ≡ Some t
    → task_in k (board_state_of b).tasks ≡ Some u → t ≡ u
same_there b k t u h is = some_is t u (sym h ∙ (sym (in_slab b.tasks k) ∙ is))

pub written : (b : board.Inside) (k : ℕ) (old new : Task) → IsBoard (board_state_of b) → get b.tasks k ≡ Some old
    → old.id ≡ new.id → board_state_of (with_write b k new) ≡ with_task (board_state_of b) new
written b k old new sound h same =
    ap (λ (es : Entries). record (board_state_of b) { tasks = es }) (sym (changed b.tasks k old new h same sound.ids))

-- those that wait still do, if the task keeps its id and incarnation
pub written_waits : (b : board.Inside) (k : ℕ) (old new : Task) → IsBoard (board_state_of b)
    → AreWaiting (board_state_of b).tasks b.waiting → get b.tasks k ≡ Some old → old.id ≡ new.id
    → new.incarnation ≡ old.incarnation → AreWaiting (board_state_of (with_write b k new)).tasks b.waiting
written_waits b k old new sound waits h same number =
    let s = board_state_of b in
    let entry : entry_of new.id s.tasks ≡ Some (k, old) =
    ap (λ (x : List ℕ). entry_of x s.tasks) (sym same) ∙ entry_at k old s.tasks sound.ids (there b k old h) in
    let Q : BoardState → Type 0 = λ x. AreWaiting x.tasks b.waiting in
    subst Q (sym (written b k old new sound h same)) (stay_changed s k old new b.waiting entry number waits)

-- ---- take

pub lent_from : (b : board.Inside) (ticket : Ticket) (budget : ℕ) (t new : Task) (l : Lent) → IsBoard (board_state_of b)
    → get b.tasks ticket.slot ≡ Some t
    → t.incarnation ≡ ticket.incarnation → can_lend t ≡ true → l ≡ loan_of ticket.slot budget t → new ≡ lent t budget
    → Lends (board_state_of b) ticket budget l (board_state_of (with_write b ticket.slot new))
lent_from b ticket budget t new l sound h of can loan is = record {
  task = t;
  can = record { there = there b ticket.slot t h; of = of; ready = can };
  loan = loan;
  leaves =
      written b ticket.slot t new sound h (ap (λ (u : Task). u.id) (sym is)) ∙ ap (with_task (board_state_of b)) is;
}

pub lends_keeps_sound : (s : BoardState) (ticket : Ticket) (budget : ℕ) (l : Lent) (s' : BoardState) → IsBoard s
    → (1 ≤ budget) × (budget ≤ max_budget) → Lends s ticket budget l s' → IsBoard s'
lends_keeps_sound s ticket budget l s' b low is =
    subst IsBoard (sym is.leaves) (lends_sound s ticket.slot is.task budget b is.can.there is.can.ready low)

pub lends_is_taken : (s : BoardState) (ticket : Ticket) (budget : ℕ) (l : Lent) (s' : BoardState) → IsBoard s
    → (1 ≤ budget) × (budget ≤ max_budget) → Lends s ticket budget l s' → taken s l.id budget ≡ Some s'
lends_is_taken s ticket budget l s' b low is =
    takes s ticket.slot is.task l.id budget b is.can.there is.can.ready low (ap (λ (x : Lent). x.id) is.loan)
    ∙ ap (λ (x : BoardState). Some x) (sym is.leaves)

-- ---- changes

pub call_there : (b : board.Inside) (own : Task → Refusals) (slot : ℕ) (id : List ℕ) → IsBoard (board_state_of b)
    → (p : CallPrepared (board_state_of b) own slot id) → get b.tasks slot ≡ Some p.task
call_there b own slot id sound p =
    sym (in_slab b.tasks slot) ∙ in_slot id (slot, p.task) (board_state_of b).tasks sound.slots p.found

-- what a change in a slot does
pub record IsChangedThere (b : board.Inside) (c : Change) (slot : ℕ) (id : List ℕ) (new : Task) : Type 0 where
  pub answers : Answers (board_state_of b) (request.Task id (change_ask c)) (Ok (change_reply c id new))
      (board_state_of (with_write b slot new))
  pub ticket : running_ticket id (board_state_of (with_write b slot new)).tasks
      ≡ ticket_in slot (board_state_of (with_write b slot new)).tasks
  pub waiting : AreWaiting (board_state_of (with_write b slot new)).tasks b.waiting

pub changed_there :
    (b : board.Inside) (c : Change) (slot : ℕ) (id : List ℕ) (old new : Task) → IsBoard (board_state_of b)
    → AreWaiting (board_state_of b).tasks b.waiting
    → (p : CallPrepared (board_state_of b) (own_refusals (change_ask c)) slot id)
    → get b.tasks slot ≡ Some old → new ≡ changed_by c old → IsChangedThere b c slot id new
changed_there b c slot id old new sound waits p here is =
    let s = board_state_of b in
    let same :
    old ≡ p.task = some_is old p.task (sym here ∙ call_there b (own_refusals (change_ask c)) slot id sound p) in
    let keeps : old.id ≡ new.id = sym (ap (λ (u : Task). u.id) is ∙ change_id c old) in
    let leaves = written b slot old new sound here keeps in
    let by_task : new ≡ changed_by c p.task = is ∙ ap (changed_by c) same in
    let at : task_of id s.tasks ≡ Some p.task = ap (option_map (λ (e : ℕ × Task). e.1)) p.found in
    let s' = board_state_of (with_write b slot new) in
    let done = change_answers c s id p.task s' at p.accepted (leaves ∙ ap (with_task s) by_task) in
    let name : p.task.id ≡ id = named id s.tasks (slot, p.task) p.found in
    let own =
    subst
    (λ (x : List ℕ). Answers s (request.Task id (change_ask c)) (Ok (change_reply c x (changed_by c p.task))) s')
    name done in
    let answers =
    subst (λ (u : Task). Answers s (request.Task id (change_ask c)) (Ok (change_reply c id u)) s') (sym by_task) own in
    let after =
    subst IsBoard leaves
    (answers_sound s (request.Task id (change_ask c)) (Ok (change_reply c id new)) s' sound answers) in
    let own_id : id ≡ new.id = sym name ∙ (ap (λ (u : Task). u.id) (sym same) ∙ keeps) in
    let number :
    new.incarnation ≡ p.task.incarnation = ap (λ (u : Task). u.incarnation) by_task ∙ change_incarnation c p.task in
    let entry : entry_of new.id s.tasks ≡ Some (slot, p.task) =
    ap (λ (x : List ℕ). entry_of x s.tasks) (sym own_id) ∙ p.found in
    let P : BoardState → Type 0 = λ x. running_ticket id x.tasks ≡ ticket_in slot x.tasks in
    let Q : BoardState → Type 0 = λ x. AreWaiting x.tasks b.waiting in
    record {
      answers = answers;
      ticket = subst P (sym leaves) (same_ticket s slot id p.task new after own_id p.found);
      waiting = subst Q (sym leaves) (stay_changed s slot p.task new b.waiting entry number waits);
    }

-- ---- delete

-- what a removal from a slot answers
pub removed_there : (b : board.Inside) (slot : ℕ) (id : List ℕ) (new : Slab Task) (waiting : List Ticket) (old : Task)
    → IsBoard (board_state_of b)
    → CallPrepared (board_state_of b) (unless_allowed call.Delete refusal.WrongStatus) slot id
    → get b.tasks slot ≡ Some old → new.slots ≡ slice_set b.tasks.slots slot None
    → Answers (board_state_of b) (request.Task id ask.Delete) (Ok (reply.Delete (state_of old)))
    (board_state_of (with_slab b new waiting))
removed_there b slot id new waiting old sound p here slots =
    let s = board_state_of b in
    let same : old ≡ p.task =
    some_is old p.task (sym here ∙ call_there b (unless_allowed call.Delete refusal.WrongStatus) slot id sound p) in
    let left : entries new ≡ remove_task old.id (entries b.tasks) =
    ap (λ (xs : List (Option Task)). entries_from 0 xs) slots ∙ removed b.tasks slot old here sound.ids in
    let leaves : board_state_of (with_slab b new waiting) ≡ without_task s old.id =
    ap (λ (es : Entries). record s { tasks = es }) left in
    let at : task_of id s.tasks ≡ Some p.task = ap (option_map (λ (e : ℕ × Task). e.1)) p.found in
    let done =
    delete_answers s id p.task (board_state_of (with_slab b new waiting)) at p.accepted
    (leaves ∙ ap (λ (u : Task). without_task s u.id) same) in
    subst
    (λ (u : Task). Answers s (request.Task id ask.Delete) (Ok (reply.Delete (state_of u)))
    (board_state_of (with_slab b new waiting)))
    (sym same) done

-- ---- create

pub room_for_task : (b : board.Inside) (r : Request) (t : Task) (id : List ℕ) → 64 ≤ b.tasks.capacity
    → CreatePrepared (board_state_of b) r t id → HasRoomFor b.tasks 1
room_for_task b r t id room p =
    let few = few_tasks (board_state_of b) p.config id p.accepted in
    let n = count b.tasks in
    omega (arith, few, n, room)

-- the board with a task more
abbrev pub with_insert : board.Inside → Slab Task → board.Inside
with_insert b s = record b { tasks = s; creates = b.creates + 1 }

pub inserted_leaves : (b : board.Inside) (new : Slab Task) (key : ℕ) (t : Task) → get b.tasks key ≡ None
    → Updates b.tasks new key (Some t) → board_state_of (with_insert b new) ≡ with_new_task (board_state_of b) key t
inserted_leaves b new key t free updates =
    ap (λ (es : Entries). record (board_state_of b) { tasks = es; creates = b.creates + 1 })
    (inserted b.tasks new key t free updates)

pub inserted_waits :
    (b : board.Inside) (new : Slab Task) (key : ℕ) (t : Task) → AreWaiting (board_state_of b).tasks b.waiting
    → get b.tasks key ≡ None → Updates b.tasks new key (Some t)
    → AreWaiting (board_state_of (with_insert b new)).tasks b.waiting
inserted_waits b new key t waits free updates =
    let Q : BoardState → Type 0 = λ x. AreWaiting x.tasks b.waiting in
    subst Q (sym (inserted_leaves b new key t free updates))
    (stay_more (board_state_of b) key t b.waiting (in_slab b.tasks key ∙ free) waits)

pub inserted_answers :
    (b : board.Inside) (new : Slab Task) (key : ℕ) (t : Task) (r : Request) (id : List ℕ) → get b.tasks key ≡ None
    → Updates b.tasks new key (Some t) → CreatePrepared (board_state_of b) r t id
    → Answers (board_state_of b) r (Ok (reply.Create id Created)) (board_state_of (with_insert b new))
inserted_answers b new key t r id free updates p =
    create_answers (board_state_of b) r t id key (board_state_of (with_insert b new)) p (in_slab b.tasks key ∙ free)
    (inserted_leaves b new key t free updates)

-- ---- the loan of a task

pub fits_there :
    (b : board.Inside) (l : Lent) (t : Task) (r : Bool) → get b.tasks l.slot ≡ Some t → IsTrue r ↔ FitsTask l t
    → IsTrue r ↔ Fits l (board_state_of b).tasks
fits_there b l t r here is = (
  λ yes. (t, there b l.slot t here, is.0 yes),
  λ f. is.1 (subst (FitsTask l) (sym (same_there b l.slot t f.0 here f.1)) f.2),
)

pub fits_nowhere : (b : board.Inside) (l : Lent) → get b.tasks l.slot ≡ None → Fits l (board_state_of b).tasks → ⊥
fits_nowhere b l none f = nothing_there b l.slot f.0 none f.1

-- ---- return

-- what a return in a slot does
pub record IsBackThere (b : board.Inside) (l : Lent) (new : Task) : Type 0 where
  pub leaves : board_state_of (with_write b l.slot new) ≡ with_task (board_state_of b) new
  pub home :
      Returns (board_state_of b) (task_of l.id (board_state_of b).tasks) (board_state_of (with_write b l.slot new))
  pub sound : IsBoard (board_state_of (with_write b l.slot new))
  pub there : task_in l.slot (board_state_of (with_write b l.slot new)).tasks ≡ Some new

pub back_there : (b : board.Inside) (l : Lent) (t new : Task) → GoForward → StopFirst → IsBoard (board_state_of b)
    → get b.tasks l.slot ≡ Some t → FitsTask l t → new ≡ advanced t (slice_turns t l.budget) → IsBackThere b l new
back_there b l t new forward first sound here fits is =
    let s = board_state_of b in
    let at = there b l.slot t here in
    let same_id : t.id ≡ new.id = ap (λ (u : Task). u.id) (sym is) in
    let leaves = written b l.slot t new sound here same_id in
    let by_turns : board_state_of (with_write b l.slot new) ≡ with_task s (advanced t (slice_turns t l.budget)) =
    leaves ∙ ap (with_task s) is in
    record {
      leaves = leaves;
      home =
          returns s l.slot t l.id l.budget (board_state_of (with_write b l.slot new)) forward first sound at
          (ap (λ (x : Lent). x.id) fits.0) fits.1 by_turns;
      sound = subst IsBoard (sym by_turns) (returned_sound s l.slot t (slice_turns t l.budget) sound at);
      there =
          ap (λ (x : BoardState). task_in l.slot x.tasks) leaves ∙ changed_in new t l.slot s.tasks sound.ids at same_id;
    }

-- the task that a loan fits is the one in its slot
pub fits_here : (b : board.Inside) (l : Lent) (t : Task) → get b.tasks l.slot ≡ Some t
    → Fits l (board_state_of b).tasks → FitsTask l t
fits_here b l t here f = subst (FitsTask l) (sym (same_there b l.slot t f.0 here f.1)) f.2

-- ---- breakpoints

-- the task that a request was prepared for is the one in the slot
call_task :
    (b : board.Inside) (own : Task → Refusals) (slot : ℕ) (id : List ℕ) (old : Task) → IsBoard (board_state_of b)
    → (p : CallPrepared (board_state_of b) own slot id) → get b.tasks slot ≡ Some old → p.task ≡ old
call_task b own slot id old sound p here = some_is p.task old (sym (call_there b own slot id sound p) ∙ here)

pub call_at :
    (b : board.Inside) (own : Task → Refusals) (slot : ℕ) (id : List ℕ) (old : Task) → IsBoard (board_state_of b)
    → (p : CallPrepared (board_state_of b) own slot id) → get b.tasks slot ≡ Some old
    → task_of id (board_state_of b).tasks ≡ Some old
call_at b own slot id old sound p here =
    ap (option_map (λ (e : ℕ × Task). e.1)) p.found ∙ ap Some (call_task b own slot id old sound p here)

pub call_accepted :
    (b : board.Inside) (own : Task → Refusals) (slot : ℕ) (id : List ℕ) (old : Task) → IsBoard (board_state_of b)
    → (p : CallPrepared (board_state_of b) own slot id) → get b.tasks slot ≡ Some old
    → first_refusal (task_refusals id own (Some old)) ≡ None
call_accepted b own slot id old sound p here =
    subst (λ (t : Task). first_refusal (task_refusals id own (Some t)) ≡ None)
    (call_task b own slot id old sound p here) p.accepted

pub mark_may :
    (b : board.Inside) (m : Mark) (slot : ℕ) (id : List ℕ) (n : NewBreaks) (old : Task) → IsBoard (board_state_of b)
    → (p : MarkPrepared (board_state_of b) m slot id n) → get b.tasks slot ≡ Some old → old.out ≡ None
mark_may b m slot id n old sound p here =
    let s = board_state_of b in
    let at = call_at b (own_refusals (mark_ask m)) slot id old sound p.call here in
    let accepted = call_accepted b (own_refusals (mark_ask m)) slot id old sound p.call here in
    marked_idle s.creates m old (sound_of s id old sound at)
    (mark_allowed m old (own_accepted id old (own_refusals (mark_ask m)) accepted))

mark_answers : (s : BoardState) (id : List ℕ) (m : Mark) (t : Task) (s' : BoardState) → task_of id s.tasks ≡ Some t
    → first_refusal (task_refusals id (own_refusals (mark_ask m)) (Some t)) ≡ None → s' ≡ with_task s (marked m t)
    → Answers s (request.Task id (mark_ask m)) (Ok (mark_reply m t.id)) s'
mark_answers s id (mark.Set p) t s' at none is =
    accepted_on s id (own_refusals (mark_ask (mark.Set p))) (does (mark_ask (mark.Set p))) t s' at none is
mark_answers s id (mark.Remove p) t s' at none is =
    accepted_on s id (own_refusals (mark_ask (mark.Remove p))) (does (mark_ask (mark.Remove p))) t s' at none is

-- what a request that sets or removes a breakpoint does in a slot
pub record IsMarkedThere (b : board.Inside) (m : Mark) (slot : ℕ) (id : List ℕ) (new : Task) : Type 0 where
  pub sound : IsBoard (board_state_of (with_write b slot new))
  pub waiting : AreWaiting (board_state_of (with_write b slot new)).tasks b.waiting
  pub answers : Answers (board_state_of b) (request.Task id (mark_ask m)) (Ok (mark_reply m id))
      (board_state_of (with_write b slot new))

pub marked_there : (b : board.Inside) (m : Mark) (slot : ℕ) (id : List ℕ) (n : NewBreaks) (old new : Task)
    → IsBoard (board_state_of b) → AreWaiting (board_state_of b).tasks b.waiting
    → (p : MarkPrepared (board_state_of b) m slot id n) → get b.tasks slot ≡ Some old
    → new ≡ record old { breaks = arc_value n.own } → IsMarkedThere b m slot id new
marked_there b m slot id n old new sound waits p here is =
    let s = board_state_of b in
    let at = call_at b (own_refusals (mark_ask m)) slot id old sound p.call here in
    let accepted = call_accepted b (own_refusals (mark_ask m)) slot id old sound p.call here in
    let same = call_task b (own_refusals (mark_ask m)) slot id old sound p.call here in
    let becomes : new ≡ marked m old =
    is ∙ (ap (λ (bs : List Place). record old { breaks = bs }) p.own
    ∙ ap (λ (t : Task). record old { breaks = marked_places m t.breaks }) same) in
    let keeps : old.id ≡ new.id = sym (ap (λ (t : Task). t.id) becomes) in
    let leaves = written b slot old new sound here keeps ∙ ap (with_task s) becomes in
    record {
      sound =
          subst IsBoard (sym leaves)
          (mark_keeps_sound s m id old sound at (own_accepted id old (own_refusals (mark_ask m)) accepted));
      waiting = written_waits b slot old new sound waits here keeps (ap (λ (t : Task). t.incarnation) becomes);
      answers =
          subst
          (λ (x : List ℕ). Answers s (request.Task id (mark_ask m)) (Ok (mark_reply m x))
          (board_state_of (with_write b slot new)))
          (task_named id s.tasks old at)
          (mark_answers s id m old (board_state_of (with_write b slot new)) at accepted leaves);
    }
