-- That what replies say of tasks is true.
use Rattle.std.proofs.Common.{◌≡◌, ℕ, List, [], ◌∷◌, Bool, true, false, cond, ◌&&◌, nat_lt, bytes_eq, Option, Some, None, is_none, is_some, option_map, Ok, inl, inr, ◌⊎◌, refl, sym, ap, ◌∙◌, subst, unwrap_or}
use Rattle.wasm_ast.specs.declared.refusal.Refusal.TheVariants as refusal
use Rattle.oci_config.specs.declared.stream.Stream.{Stream}
use Rattle.oci_config.specs.Config.{process_read}
use Rattle.oci_config.specs.Streams.{stream_of}
use Rattle.content_leases.specs.Refusals.{Refusals, first_refusal}
use Rattle.task_lifecycle.specs.declared.status.Status.{Status}
use Rattle.task_lifecycle.specs.declared.status.Status.TheVariants.{Created, Stopped}
use Rattle.task_lifecycle.specs.declared.status.Signal.{Signal}
use Rattle.task_lifecycle.specs.declared.status.ExitRecord.{ExitRecord}
use Rattle.task_lifecycle.specs.Lifecycle.{is_stopped, is_going}
use Rattle.task_lifecycle.specs.Names.{signal_of}
use Rattle.task_requests.specs.declared.event.Event.{Event}
use Rattle.task_requests.specs.declared.event.Event.TheVariants as event
use Rattle.task_requests.specs.declared.event.EventReply.{EventReply}
use Rattle.task_requests.specs.declared.event.EventReply.TheVariants as answer
use Rattle.task_requests.specs.declared.request.Ask.{Ask}
use Rattle.task_requests.specs.declared.request.Request.{Request}
use Rattle.task_requests.specs.declared.request.Request.TheVariants as request
use Rattle.task_requests.specs.declared.request.Ask.TheVariants as ask
use Rattle.task_requests.specs.declared.request.Reply.{Reply}
use Rattle.task_requests.specs.declared.request.Reply.TheVariants as reply
use Rattle.task_requests.specs.declared.request.TaskState.{TaskState}
use Rattle.task_requests.specs.Memory.{takes_memory}
use Rattle.task_board.specs.BoardState.{Task, Entries, BoardState, empty, created_task, entry_of, task_in, task_of, put_task, change_task, with_task}
use Rattle.task_board.specs.Tasks.{state_of, output_of, memory_at, started, paused, resumed, killed_while, killed_by, place_of, with_break, without_break, stepped}
use Rattle.task_board.specs.Refusals.{own_refusals, create_refusals, task_refusals}
use Rattle.task_board.specs.Step.{Answer, Done, with_left, OnFound, OnTask, Creates, does, LeavesTask, Answers}
use Rattle.task_board.specs.Run.{Happens, Run}
use Rattle.task_board.specs.Sound.{IsSound, IsBoard}
use Rattle.task_board.specs.Moves.{Moves, stays, starts, pauses, resumes, is_killed, is_taken, returns, has_break, loses_break, steps, Becomes, goes, remains}
use Rattle.task_board.specs.Claims.{asked_of, told_on, state_told, id_told, turns_told, status_told, end_told, StatusIsTrue, ShowsTruly, AnswersTruly, SaysTruly}
use Rattle.task_board.proofs.EntryLemmas.{none_is_not, some_is, by_id, same_id, cond_true, cond_false, cond_is_true, cond_is_false, in_slot}
use Rattle.task_board.proofs.StepLemmas.{found, task_named, sound_of, none_first}
use Rattle.task_board.proofs.EffectLemmas.{own_accepted, decided_ok}
use Rattle.task_board.proofs.LawLemmas.{happens_moves, is_step}
use Rattle.task_board.proofs.HeldLemmas.{AllThere, happens_there, run_there}

-- ---- the task that a request leaves, by its id

changed_entry : (new : Task) (e : ℕ × Task) (es : Entries) → entry_of new.id es ≡ Some e
    → entry_of new.id (change_task new es) ≡ Some (e.0, new)
changed_entry new e [] h = absurd (none_is_not e h)
changed_entry new e (d ∷ es) h =
    by_id d.1.id new.id
    (λ y same.
    let own : d ≡ e = some_is d e (cond_true (bytes_eq d.1.id new.id) (Some d) (entry_of new.id es) (Some e) y h) in
    ap (entry_of new.id) (cond_is_true (bytes_eq d.1.id new.id) ((d.0, new) ∷ es) (d ∷ change_task new es) y)
    ∙ (cond_is_true (bytes_eq new.id new.id) (Some (d.0, new)) (entry_of new.id es) (same_id new.id new.id refl)
    ∙ ap (λ (x : ℕ × Task). Some (x.0, new)) own))
    (λ n differs.
    ap (entry_of new.id) (cond_is_false (bytes_eq d.1.id new.id) ((d.0, new) ∷ es) (d ∷ change_task new es) n)
    ∙ (cond_is_false (bytes_eq d.1.id new.id) (Some d) (entry_of new.id (change_task new es)) n
    ∙ changed_entry new e es (cond_false (bytes_eq d.1.id new.id) (Some d) (entry_of new.id es) (Some e) n h)))

-- it is changed to one of its id
left_named : (s : BoardState) (id : List ℕ) (t t' : Task) (s' : BoardState) → task_of id s.tasks ≡ Some t → t'.id ≡ t.id
    → s' ≡ with_task s t' → task_of id s'.tasks ≡ Some t'
left_named s id t t' s' at same is =
    let f = found id s.tasks t at in
    let name : t'.id ≡ id = same ∙ task_named id s.tasks t at in
    let entry = changed_entry t' (f.0, t) s.tasks (ap (λ (x : List ℕ). entry_of x s.tasks) name ∙ f.1) in
    ap (λ (b : BoardState). task_of id b.tasks) is ∙ (ap (λ (x : List ℕ). task_of x (change_task t' s.tasks)) (sym name)
    ∙ ap (option_map (λ (e : ℕ × Task). e.1)) entry)

put_before : (k : ℕ) (t : Task) (e : ℕ × Task) (es : Entries) (b : Bool)
    → entry_of t.id (e ∷ put_task k t es) ≡ Some (k, t)
    → entry_of t.id (cond b ((k, t) ∷ e ∷ es) (e ∷ put_task k t es)) ≡ Some (k, t)
put_before k t e es true later =
    cond_is_true (bytes_eq t.id t.id) (Some (k, t)) (entry_of t.id (e ∷ es)) (same_id t.id t.id refl)
put_before k t e es false later = later

put_entry : (k : ℕ) (t : Task) (es : Entries) → entry_of t.id es ≡ None → entry_of t.id (put_task k t es) ≡ Some (k, t)
put_entry k t [] h = cond_is_true (bytes_eq t.id t.id) (Some (k, t)) None (same_id t.id t.id refl)
put_entry k t (e ∷ es) h =
    put_before k t e es (nat_lt k e.0)
    (by_id e.1.id t.id
    (λ y same. absurd (none_is_not e (sym h ∙ cond_is_true (bytes_eq e.1.id t.id) (Some e) (entry_of t.id es) y)))
    (λ n differs.
    cond_is_false (bytes_eq e.1.id t.id) (Some e) (entry_of t.id (put_task k t es)) n
    ∙ put_entry k t es (cond_false (bytes_eq e.1.id t.id) (Some e) (entry_of t.id es) None n h)))

no_entry : (o : Option (ℕ × Task)) → is_some (option_map (λ (e : ℕ × Task). e.1) o) ≡ false → o ≡ None
no_entry None h = refl
no_entry (Some e) h = cc

-- ---- from a request's own words to what they mean

-- what a reply says, in the words of the task
record Words (t : Task) (q : Request) (a : Reply) : Type 0 where
  process : (config id : List ℕ) → q ≡ request.Create config id → process_read config ≡ Some t.process
  id : id_told a ≡ Some t.id
  turns : (turns_told a ≡ None) ⊎ (turns_told a ≡ Some t.turns)
  status : (status_told a ≡ None) ⊎ (status_told a ≡ Some t.status)
  end : (end_told a ≡ None) ⊎ (end_told a ≡ t.end)
  state : (state_told a ≡ None) ⊎ (state_told a ≡ Some (state_of t))
  shows : ShowsTruly t q a

if_told : {X : Type 0} (o : Option X) (x : X) → (o ≡ None) ⊎ (o ≡ Some x) → (y : X) → o ≡ Some y → y ≡ x
if_told o x (inl none) y is = absurd (none_is_not y (sym none ∙ is))
if_told o x (inr some) y is = some_is y x (sym is ∙ some)

if_ended : (o end : Option ExitRecord) → (o ≡ None) ⊎ (o ≡ end) → (e : ExitRecord) → o ≡ Some e → end ≡ Some e
if_ended o end (inl none) e is = absurd (none_is_not e (sym none ∙ is))
if_ended o end (inr same) e is = sym same ∙ is

stopped_is : (status : Status) → is_stopped status ≡ true → status ≡ Stopped
stopped_is Stopped h = refl
stopped_is _ h = cc

status_true : (creates : ℕ) (t : Task) (status : Status) → IsSound creates t → status ≡ t.status → StatusIsTrue t status
status_true creates t status sound is = record {
  own = is;
  created = λ at. sound.fresh (sym is ∙ at);
  going = λ on. sound.goes (subst (λ (x : Status). is_going x ≡ true) is on);
}

abbrev StopsRight : TaskState → Type 0
StopsRight x = (x.status ≡ Stopped → is_some x.end ≡ true) × (is_some x.end ≡ true → x.status ≡ Stopped)

stops_right : (creates : ℕ) (t : Task) (x : TaskState) → IsSound creates t → x ≡ state_of t → StopsRight x
stops_right creates t x sound is =
    let own : StopsRight (state_of t) =
    (λ at. sym sound.stopped ∙ ap is_stopped at, λ some. stopped_is t.status (sound.stopped ∙ some)) in
    subst StopsRight (sym is) own

-- on a board that events lead to, the words are true
says : (b : BoardState) (id : List ℕ) (t : Task) (q : Request) (a : Reply) → AllThere b → task_of id b.tasks ≡ Some t
    → Words t q a → AnswersTruly t q a → SaysTruly b.store t q a
says b id t q a there at words answers =
    let f = found id b.tasks t at in
    let sound = sound_of b id t there.sound at in
    record {
      stored = there.tasks f.0 t (in_slot id (f.0, t) b.tasks there.sound.slots f.1);
      encoded = sound.opens.spelled;
      valid = sound.opens.valid;
      process = words.process;
      id = words.id;
      turns = if_told (turns_told a) t.turns words.turns;
      status = λ x is. status_true b.creates t x sound (if_told (status_told a) t.status words.status x is);
      end = λ e is. sound.end e (if_ended (end_told a) t.end words.end e is);
      stopped = λ x is. stops_right b.creates t x sound (if_told (state_told a) (state_of t) words.state x is);
      shows = words.shows;
      answers = answers;
    }

-- ---- accepted requests

-- the task that an accepted request finds, what it is answered, and what it leaves
record Accepted (s : BoardState) (id : List ℕ) (own : Task → Refusals) (does : Task → Done) (a : Reply)
    (s' : BoardState) : Type 0 where
  task : Task
  named : task_of id s.tasks ≡ Some task
  none : first_refusal (own task) ≡ None
  answer : a ≡ (does task).0
  leaves : s' ≡ with_left s task (does task).1

ok_is : (a b : Reply) (r : Answer) → r ≡ Ok a → r ≡ Ok b → a ≡ b
ok_is a b r h g = cc

module _ (s : BoardState) (id : List ℕ) (own : Task → Refusals) (does : Task → Done) (a : Reply) (s' : BoardState) where
  accepted_by : (o : Option Task) → task_of id s.tasks ≡ o → OnFound id own does o s (Ok a) s'
      → Accepted s id own does a s'
  accepted_by None at on = absurd (decided_ok (first_refusal (task_refusals id own None)) ⊥ s a s' on).1
  accepted_by (Some t) at on =
      let is =
      decided_ok (first_refusal (task_refusals id own (Some t)))
      ((Ok a ≡ Ok (does t).0) × (s' ≡ with_left s t (does t).1)) s a s' on in
      record {
        task = t;
        named = at;
        none = own_accepted id t own is.0;
        answer = ok_is a (does t).0 (Ok a) refl is.1.0;
        leaves = is.1.1;
      }

  accepted : OnTask id own does s (Ok a) s' → Accepted s id own does a s'
  accepted on = accepted_by (task_of id s.tasks) refl on

config_is : (config asked id name : List ℕ) → request.Create config id ≡ request.Create asked name → asked ≡ config
config_is config asked id name h = cc

-- ---- what each request is answered

-- the task of which the reply speaks, and that it speaks the truth
abbrev Truly : BoardState → Request → Reply → BoardState → (id : List ℕ) → Type 0
Truly s q a s' id = (t : Task) × (task_of id (told_on q s s').tasks ≡ Some t) × SaysTruly (told_on q s s').store t q a

some_of : {X : Type 0} (o : Option X) → is_none o ≡ false → (x : X) × (o ≡ Some x)
some_of None h = cc
some_of (Some x) h = (x, refl)

killed_same : (o : Option Signal) (t : Task) → (killed_by o t).id ≡ t.id
killed_same None t = refl
killed_same (Some signal) t = by t.out
  where
    by : (out : Option ℕ) → (killed_while out signal t).id ≡ t.id
    by None = refl
    by (Some n) = refl

output_shows : (t : Task) (id : List ℕ) (number : ℕ) → first_refusal (own_refusals (ask.Output number) t) ≡ None
    → ShowsTruly t (request.Task id (ask.Output number)) (does (ask.Output number) t).0
output_shows t id number none =
    let known = some_of (stream_of number) (none_first (is_none (stream_of number)) refusal.OutOfRange _ none).0 in
    (known.0, known.1, ap (λ (o : Option Stream). output_of o t) known.1)

peek_shows :
    (t : Task) (id : List ℕ) (address length : ℕ) → first_refusal (own_refusals (ask.Peek address length) t) ≡ None
    → ShowsTruly t (request.Task id (ask.Peek address length)) (does (ask.Peek address length) t).0
peek_shows t id address length none =
    let rest = (none_first (is_some t.out) refusal.Busy _ none).1 in
    let known =
    some_of (memory_at t address length)
    (none_first (is_none (memory_at t address length)) refusal.OutOfRange None rest).0 in
    known.1 ∙ ap Some (sym (ap (λ (o : Option (List ℕ)). unwrap_or o []) known.1))

-- the task of which the reply speaks
abbrev spoken : Ask → Task → Task
spoken ask.Start t = started t
spoken ask.Pause t = paused t
spoken ask.Resume t = resumed t
spoken (ask.Kill number) t = killed_by (signal_of number) t
spoken (ask.Break func place) t = with_break t (place_of func place)
spoken (ask.Unbreak func place) t = without_break t (place_of func place)
spoken (ask.Step count) t = stepped t count
spoken other t = t

-- a reply with a status, with a state, and with neither
module _ (t : Task) (id : List ℕ) (k : Ask) (a : Reply) where
  status_words : id_told a ≡ Some t.id → turns_told a ≡ None → status_told a ≡ Some t.status → end_told a ≡ None
      → state_told a ≡ None → ShowsTruly t (request.Task id k) a → Words t (request.Task id k) a
  status_words name turns status end state shows = record {
    process = λ config other is. cc;
    id = name;
    turns = inl turns;
    status = inr status;
    end = inl end;
    state = inl state;
    shows = shows;
  }

  state_words : id_told a ≡ Some t.id → turns_told a ≡ Some t.turns → status_told a ≡ Some t.status
      → end_told a ≡ t.end → state_told a ≡ Some (state_of t) → ShowsTruly t (request.Task id k) a
      → Words t (request.Task id k) a
  state_words name turns status end state shows = record {
    process = λ config other is. cc;
    id = name;
    turns = inr turns;
    status = inr status;
    end = inr end;
    state = inr state;
    shows = shows;
  }

  plain_words : id_told a ≡ Some t.id → (turns_told a ≡ None) ⊎ (turns_told a ≡ Some t.turns) → status_told a ≡ None
      → end_told a ≡ None → state_told a ≡ None → ShowsTruly t (request.Task id k) a → Words t (request.Task id k) a
  plain_words name turns status end state shows = record {
    process = λ config other is. cc;
    id = name;
    turns = turns;
    status = inl status;
    end = inl end;
    state = inl state;
    shows = shows;
  }

words_of : (k : Ask) (t : Task) (id : List ℕ) → first_refusal (own_refusals k t) ≡ None
    → Words (spoken k t) (request.Task id k) (does k t).0
words_of ask.Start t id none = status_words (started t) id ask.Start (does ask.Start t).0 refl refl refl refl refl tt
words_of ask.Pause t id none = status_words (paused t) id ask.Pause (does ask.Pause t).0 refl refl refl refl refl tt
words_of ask.Resume t id none = status_words (resumed t) id ask.Resume (does ask.Resume t).0 refl refl refl refl refl tt
words_of (ask.Kill number) t id none =
    status_words (killed_by (signal_of number) t) id (ask.Kill number) (does (ask.Kill number) t).0
    (ap Some (sym (killed_same (signal_of number) t))) refl refl refl refl tt
words_of ask.Delete t id none = state_words t id ask.Delete (does ask.Delete t).0 refl refl refl refl refl tt
words_of ask.State t id none = state_words t id ask.State (does ask.State t).0 refl refl refl refl refl tt
words_of ask.Wait t id none = state_words t id ask.Wait (does ask.Wait t).0 refl refl refl refl refl tt
words_of (ask.Output number) t id none =
    plain_words t id (ask.Output number) (does (ask.Output number) t).0 refl (inl refl) refl refl refl
    (output_shows t id number none)
words_of (ask.Step count) t id none =
    state_words (stepped t count) id (ask.Step count) (does (ask.Step count) t).0 refl refl refl refl refl tt
words_of ask.Inspect t id none = plain_words t id ask.Inspect (does ask.Inspect t).0 refl (inr refl) refl refl refl refl
words_of (ask.Peek address length) t id none =
    plain_words t id (ask.Peek address length) (does (ask.Peek address length) t).0 refl (inl refl) refl refl refl
    (peek_shows t id address length none)
words_of k t id none = plain_words (spoken k t) id k (does k t).0 refl (inl refl) refl refl refl tt

module _ (s s' : BoardState) (a : Reply) (left : AllThere s') where
  -- a request that leaves the task changed
  changes_it :
      (q : Request) (id : List ℕ) (t t' : Task) → told_on q s s' ≡ s' → task_of id s.tasks ≡ Some t → t'.id ≡ t.id
      → s' ≡ with_task s t' → Words t' q a → AnswersTruly t' q a → Truly s q a s' id
  changes_it q id t t' on at same is words answers =
      let named : task_of id s'.tasks ≡ Some t' = left_named s id t t' s' at same is in
      let P : BoardState → Type 0 = λ b. (u : Task) × (task_of id b.tasks ≡ Some u) × SaysTruly b.store u q a in
      subst P (sym on) (t', named, says s' id t' q a left named words answers)

  -- the task that a request leaves as it is, is the one of which it was asked
  same_answer : (k : Ask) (t t' : Task) → (does k t).1 ≡ Some t' → a ≡ (does k t).0 → LeavesTask k → a ≡ (does k t').0
  same_answer k t t' left is leaves = is ∙ ap (λ (x : Task). (does k x).0) (sym (some_is t' t (sym left ∙ leaves t)))

  leaves_it : (id : List ℕ) (k : Ask) → told_on (request.Task id k) s s' ≡ s'
      → ((t : Task) → (does k t).1 ≡ Some (spoken k t)) → ((t : Task) → (spoken k t).id ≡ t.id)
      → Answers s (request.Task id k) (Ok a) s' → Truly s (request.Task id k) a s' id
  leaves_it id k on leaves same h =
      let is = accepted s id (own_refusals k) (does k) a s' h in
      let new = spoken k is.task in
      changes_it (request.Task id k) id is.task new on is.named (same is.task)
      (is.leaves ∙ ap (with_left s is.task) (leaves is.task))
      (subst (Words new (request.Task id k)) (sym is.answer) (words_of k is.task id is.none))
      (same_answer k is.task new (leaves is.task) is.answer)

  -- a delete speaks of the task that it found
  deletes_it : (id : List ℕ) → AllThere s → Answers s (request.Task id ask.Delete) (Ok a) s'
      → Truly s (request.Task id ask.Delete) a s' id
  deletes_it id there h =
      let is = accepted s id (own_refusals ask.Delete) (does ask.Delete) a s' h in (
        is.task,
        is.named,
        says s id is.task (request.Task id ask.Delete) a there is.named
            (subst (Words is.task (request.Task id ask.Delete)) (sym is.answer)
            (words_of ask.Delete is.task id is.none))
            (λ same. is.answer),
      )

  task_true : (id : List ℕ) (k : Ask) → AllThere s → Answers s (request.Task id k) (Ok a) s'
      → Truly s (request.Task id k) a s' id
  task_true id (ask.Kill number) there h =
      leaves_it id (ask.Kill number) refl (λ t. refl) (killed_same (signal_of number)) h
  task_true id ask.Delete there h = deletes_it id there h
  task_true id k there h = leaves_it id k refl (λ t. refl) (λ t. refl) h

  -- a create's task enters the board
  create_true :
      (config id : List ℕ) → Answers s (request.Create config id) (Ok a) s' → Truly s (request.Create config id) a s' id
  create_true config id h =
      let is = decided_ok (first_refusal (create_refusals s config id)) (Creates s config id (Ok a) s') s a s' h in
      let p = is.1.0 in
      let opened = is.1.4 in
      let t = created_task id s.creates is.1.1 opened.0 p in
      let known = (none_first _ refusal.BadId _ is.0).1 in
      let fresh = (none_first (is_some (task_of id s.tasks)) refusal.Exists _ known).0 in
      let entry = put_entry opened.3.0 t s.tasks (no_entry (entry_of id s.tasks) fresh) in
      let named : task_of id s'.tasks ≡ Some t =
      ap (λ (b : BoardState). task_of id b.tasks) opened.3.2 ∙ ap (option_map (λ (e : ℕ × Task). e.1)) entry in
      let words : Words t (request.Create config id) (reply.Create id Created) =
      record {
        process = λ asked name same. ap process_read (config_is config asked id name same) ∙ is.1.2;
        id = refl;
        turns = inl refl;
        status = inr refl;
        end = inl refl;
        state = inl refl;
        shows = tt;
      } in (
        t,
        named,
        says s' id t (request.Create config id) a left named
            (subst (Words t (request.Create config id)) (sym opened.2) words) tt,
      )

-- ---- every reply

replies_by :
    (s : BoardState) (q : Request) (a : Reply) (s' : BoardState) → AllThere s → AllThere s' → Answers s q (Ok a) s'
    → (id : List ℕ) → asked_of q ≡ Some id → Truly s q a s' id
replies_by s (request.Create config id) a s' there left h name is =
    subst (Truly s (request.Create config id) a s') (some_is id name is) (create_true s s' a left config id h)
replies_by s (request.Task id k) a s' there left h name is =
    subst (Truly s (request.Task id k) a s') (some_is id name is) (task_true s s' a left id k there h)
replies_by s _ a s' there left h name is = absurd (none_is_not name is)

no_and : (b : Bool) → (b && false) ≡ false
no_and true = refl
no_and false = refl

pub replies_true :
    (es : List Event) (rs : List EventReply) (s : BoardState) → Run empty es rs s → (q : Request) (a : Reply)
    (s' : BoardState) → Happens s (event.Call q) (answer.Called (Ok a)) s' → (id : List ℕ) → asked_of q ≡ Some id
    → Truly s q a s' id
replies_true es rs s run q a s' h id is =
    let there = run_there es rs s run in
    let left = happens_there s (event.Call q) (answer.Called (Ok a)) s' there h in
    let step = is_step s (event.Call q) (answer.Called (Ok a)) s' (no_and (takes_memory q)) h in
    replies_by s q a s' there left step id is

-- ---- what a task is stays

abbrev pub SameTask : Task → Task → Type 0
SameTask t' t = (t'.id ≡ t.id) × (t'.module ≡ t.module) × (t'.process ≡ t.process) × (t'.bytes ≡ t.bytes)

killed_task : (out : Option ℕ) (signal : Signal) (t : Task) → SameTask (killed_while out signal t) t
killed_task None signal t = (refl, refl, refl, refl)
killed_task (Some n) signal t = (refl, refl, refl, refl)

moves_same : (t t' : Task) → Moves t t' → SameTask t' t
moves_same t t' (stays is) = subst (λ (x : Task). SameTask x t) (sym is) (refl, refl, refl, refl)
moves_same t t' (starts can is) = subst (λ (x : Task). SameTask x t) (sym is) (refl, refl, refl, refl)
moves_same t t' (pauses can is) = subst (λ (x : Task). SameTask x t) (sym is) (refl, refl, refl, refl)
moves_same t t' (resumes can is) = subst (λ (x : Task). SameTask x t) (sym is) (refl, refl, refl, refl)
moves_same t t' (is_killed signal can is) = subst (λ (x : Task). SameTask x t) (sym is) (killed_task t.out signal t)
moves_same t t' (is_taken budget can is) = subst (λ (x : Task). SameTask x t) (sym is) (refl, refl, refl, refl)
moves_same t t' (returns back) = subst (λ (x : Task). SameTask x t) (sym back.advances) (refl, refl, refl, refl)
moves_same t t' (has_break p can is) = subst (λ (x : Task). SameTask x t) (sym is) (refl, refl, refl, refl)
moves_same t t' (loses_break p can is) = subst (λ (x : Task). SameTask x t) (sym is) (refl, refl, refl, refl)
moves_same t t' (steps count can is) = subst (λ (x : Task). SameTask x t) (sym is) (refl, refl, refl, refl)

becomes_same : (t t' : Task) (o : Option Task) → Becomes t o → o ≡ Some t' → SameTask t' t
becomes_same t t' _ (goes can) at = absurd (none_is_not t' at)
becomes_same t t' _ (remains u m) at = subst (λ (x : Task). SameTask x t) (some_is u t' at) (moves_same t u m)

pub tasks_stay_same :
    (s : BoardState) (e : Event) (r : EventReply) (s' : BoardState) → IsBoard s → Happens s e r s' → (k : ℕ) (t : Task)
    → task_in k s.tasks ≡ Some t → (t' : Task) → task_in k s'.tasks ≡ Some t' → SameTask t' t
tasks_stay_same s e r s' b h k t there t' at =
    becomes_same t t' (task_in k s'.tasks) (happens_moves s e r s' b.slots h k t there) at
