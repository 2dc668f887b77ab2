-- The journal of a run replays to its board.
use Rattle.std.proofs.Common.{◌≡◌, ℕ, List, [], ◌∷◌, ◌++◌, Bool, true, false, ◌&&◌, MatchBool, Option, Some, None, option_map, option_and_then, refl, sym, ap, ◌∙◌, subst}
use Rattle.std.proofs.lemmas.List.{append_assoc, append-nil}
use Rattle.wasm_ast.specs.declared.refusal.Refusal.TheVariants as refusal
use Rattle.task_requests.specs.declared.event.Event.{Event}
use Rattle.task_requests.specs.declared.event.Event.TheVariants as event
use Rattle.task_requests.specs.declared.event.EventReply.{EventReply}
use Rattle.task_requests.specs.declared.event.EventReply.TheVariants as answer
use Rattle.task_requests.specs.declared.request.Request.{Request}
use Rattle.task_board.specs.BoardState.{Task, Entries, BoardState, empty, task_of, with_task, change_task}
use Rattle.task_board.specs.Tasks.{lent}
use Rattle.task_board.specs.Step.{Answer, Answers, Returns, Step}
use Rattle.task_board.proofs.EntryLemmas.{none_is_not, some_is}
use Rattle.task_requests.specs.Memory.{takes_memory}
use Rattle.task_board.specs.Run.{is_no_memory, met_no_memory, Happens, Run}
use Rattle.task_board.proofs.RunLemmas.{no_memory_is}
use Rattle.task_board.proofs.LawLemmas.{IsTakenOf, taken_of}
use Rattle.task_board.proofs.StepLemmas.{task_named, in_range}
use Rattle.call_journal.specs.declared.entry.Entry.{Entry}
use Rattle.call_journal.specs.declared.entry.Found.{Found}
use Rattle.task_board.specs.Claims.{asked_of}
use Rattle.call_journal.specs.Finding.{found_in, found_of}
use Rattle.call_journal.specs.Replay.{ComesTo, is_taken, Finds, no_task, task, IsSince, IsReplay, MayAnswer}
use Rattle.call_journal.specs.Records.{entry_on, IsOfSlice, Records, ends, call, slice, no_memory}
use Rattle.call_journal.proofs.ComingLemmas.{comes_back}
use Rattle.call_journal.proofs.HistoryLemmas.{one_more}
use Rattle.call_journal.proofs.RefusalLemmas.{refusal_stays}
use Rattle.call_journal.proofs.SinceLemmas.{same_id_of, looks, came_from, came_none, later, reached, now_there}
use Rattle.call_journal.proofs.CallLemmas.{HaveSame, calls_commute}

pub replay_empty : IsReplay [] empty
replay_empty = (empty, refl, record { store = refl; creates = refl; tasks = tt })

-- ---- slices

-- a task of the present goes on
goes_on : (s b b' : BoardState) (v y : Task) → IsSince s b → task_of y.id b.tasks ≡ Some v → ComesTo v y
    → b' ≡ with_task b y → IsSince s b'
goes_on s b b' v y between at come is =
    subst (IsSince s) (sym is) (record {
      store = between.store;
      creates = between.creates;
      tasks = later v y s.tasks b.tasks between.tasks at come;
    })

at_id : (b : BoardState) (id : List ℕ) (t : Task) → task_of id b.tasks ≡ Some t → task_of t.id b.tasks ≡ Some t
at_id b id t at = ap (λ (x : List ℕ). task_of x b.tasks) (task_named id b.tasks t at) ∙ at

takes : (s b b' : BoardState) (id : List ℕ) (budget : ℕ) → IsSince s b → IsTakenOf b id budget b' → IsSince s b'
takes s b b' id budget between t =
    goes_on s b b' t.task (lent t.task budget) between (at_id b id t.task t.named)
    (is_taken budget t.ready (in_range budget t.range)) t.leaves

returns : (s b b' : BoardState) (id : List ℕ) (o : Option Task) → IsSince s b → task_of id b.tasks ≡ o → Returns b o b'
    → IsSince s b'
returns s b b' id None between at back = absurd back
returns s b b' id (Some t) between at back =
    let come = comes_back t back.0 back.1 in
    goes_on s b b' t back.0 between
    (ap (λ (x : List ℕ). task_of x b.tasks) (same_id_of t back.0 come) ∙ at_id b id t at) come back.2

since_slice : (s b b' : BoardState) (e : Event) (a : EventReply) → IsSince s b → IsOfSlice e → Step b e a b'
    → IsSince s b'
since_slice s b b' (event.Call r) a between is step = absurd is
since_slice s b b' (event.Take id budget) (answer.Taken true) between is step =
    takes s b b' id budget between (taken_of b id budget b' step)
since_slice s b b' (event.Take id budget) (answer.Taken false) between is step = subst (IsSince s) (sym step.1) between
since_slice s b b' (event.Return id) (answer.Returned true) between is step =
    returns s b b' id (task_of id b.tasks) between refl step
since_slice s b b' (event.Return id) (answer.Returned false) between is step = subst (IsSince s) (sym step.1) between
since_slice s b b' _ _ between is step = absurd step

pub replay_slice : (h : List Entry) (b b' : BoardState) (e : Event) (a : EventReply) → IsReplay h b → IsOfSlice e
    → Step b e a b' → IsReplay h b'
replay_slice h b b' e a r is step = (r.0, r.1, since_slice r.0 b b' e a r.2 is step)

-- ---- calls

-- what a call finds now is found on the earlier board, and then only slices of other tasks are between
abbrev pub Meets : BoardState → BoardState → Request → Type 0
Meets s b r = (mid : BoardState) × Finds s r (found_of b r) mid × IsSince mid b × HaveSame r mid.tasks b.tasks

meets_none : (s b : BoardState) (r : Request) → IsSince s b → asked_of r ≡ None → Meets s b r
meets_none s b r between is =
    let none : (x : BoardState) → found_of x r ≡ None =
    λ x. ap (λ (o : Option (List ℕ)). option_map found_in (option_and_then (λ (id : List ℕ). task_of id x.tasks) o)) is
    in (
      s,
      subst (λ (f : Option Found). Finds s r f s) (sym (none b)) (no_task (none s)),
      between,
      λ id at. absurd (none_is_not id (sym is ∙ at)),
    )

pub found_at :
    (x : BoardState) (r : Request) (id : List ℕ) (o : Option Task) → asked_of r ≡ Some id → task_of id x.tasks ≡ o
    → found_of x r ≡ option_map found_in o
found_at x r id o is at =
    ap (λ (p : Option (List ℕ)). option_map found_in (option_and_then (λ (i : List ℕ). task_of i x.tasks) p)) is
    ∙ ap (option_map found_in) at

same_at : (r : Request) (id : List ℕ) (es us : Entries) → asked_of r ≡ Some id → task_of id es ≡ task_of id us
    → HaveSame r es us
same_at r id es us is same other at =
    subst (λ (x : List ℕ). task_of x es ≡ task_of x us) (some_is id other (sym is ∙ at)) same

meets_some : (s b : BoardState) (r : Request) (id : List ℕ) (o : Option Task) → IsSince s b → asked_of r ≡ Some id
    → task_of id b.tasks ≡ o → Meets s b r
meets_some s b r id None between is at =
    let none : task_of id s.tasks ≡ None =
    came_none (task_of id s.tasks) (task_of id b.tasks) (looks id s.tasks b.tasks between.tasks) at in (
      s,
      subst (λ (f : Option Found). Finds s r f s) (sym (found_at b r id None is at))
          (no_task (found_at s r id None is none)),
      between,
      same_at r id s.tasks b.tasks is (none ∙ sym at),
    )
meets_some s b r id (Some u) between is at =
    let from = came_from (task_of id s.tasks) (task_of id b.tasks) u (looks id s.tasks b.tasks between.tasks) at in
    let own : u.id ≡ id = task_named id b.tasks u at in
    let there : task_of u.id (change_task u s.tasks) ≡ Some u =
    now_there u from.0 s.tasks (ap (λ (x : List ℕ). task_of x s.tasks) own ∙ from.1) in (
      with_task s u,
      subst (λ (f : Option Found). Finds s r f (with_task s u)) (sym (found_at b r id (Some u) is at))
          (task id from.0 u is from.1 from.2),
      record {
        store = between.store;
        creates = between.creates;
        tasks = reached u s.tasks b.tasks between.tasks (at_id b id u at);
      },
      same_at r id (change_task u s.tasks) b.tasks is
          (subst (λ (x : List ℕ). task_of x (change_task u s.tasks) ≡ Some u) own there ∙ sym at),
    )

meets_by : (s b : BoardState) (r : Request) (o : Option (List ℕ)) → IsSince s b → asked_of r ≡ o → Meets s b r
meets_by s b r None between is = meets_none s b r between is
meets_by s b r (Some id) between is = meets_some s b r id (task_of id b.tasks) between is refl

pub may_answer : (h : List Entry) (b b' : BoardState) (seat : ℕ) (r : Request) (a : Answer) → IsReplay h b
    → Answers b r a b' → MayAnswer h (entry_on b seat r) a
may_answer h b b' seat r a is answers =
    let m = meets_by is.0 b r (asked_of r) is.2 refl in
    let c = calls_commute m.0 b r a b' m.2 m.3 answers in
    (is.0, m.0, c.0, is.1, m.1, c.1)

pub replay_call : (h : List Entry) (b b' : BoardState) (seat : ℕ) (r : Request) (a : Answer) → IsReplay h b
    → Answers b r a b' → IsReplay (h ++ entry_on b seat r ∷ []) b'
replay_call h b b' seat r a is answers =
    let m = meets_by is.0 b r (asked_of r) is.2 refl in
    let c = calls_commute m.0 b r a b' m.2 m.3 answers in
    (c.0, one_more h (entry_on b seat r) a empty is.0 m.0 c.0 is.1 m.1 c.1, c.2)

-- ---- runs

replays : (front : List Entry) (s : BoardState) (es : List Event) (rs : List EventReply) (h : List Entry)
    (s' : BoardState) → IsReplay front s → Records s es rs h s' → IsReplay (front ++ h) s'
replays front _ _ _ _ _ is (ends s) = subst (λ (x : List Entry). IsReplay x s) (sym (append-nil front)) is
replays front _ _ _ _ _ is (call s mid s' seat r a es rs h answers rest) =
    subst (λ (x : List Entry). IsReplay x s') (append_assoc front (entry_on s seat r ∷ []) h)
    (replays (front ++ entry_on s seat r ∷ []) mid es rs h s' (replay_call front s mid seat r a is answers) rest)
replays front _ _ _ _ _ is (slice s mid s' e a es rs h of_slice step rest) =
    replays front mid es rs h s' (replay_slice front s mid e a is of_slice step) rest
replays front _ _ _ _ _ is (no_memory s s' e a es rs h on rest) = replays front s es rs h s' is rest

pub run_replays : (es : List Event) (rs : List EventReply) (h : List Entry) (s : BoardState)
    → Records empty es rs h s → IsReplay h s
run_replays es rs h s journal = replays [] empty es rs h s replay_empty journal

no_call : (e : Event) (a : EventReply) → IsOfSlice e → met_no_memory e a ≡ false
no_call (event.Call r) a is = absurd is
no_call (event.Take id budget) a is = refl
no_call (event.Return id) a is = refl

-- a call that is answered out of memory, which none is, would have changed nothing
call_happens : (s : BoardState) (r : Request) (a : Answer) (mid : BoardState) (b c : Bool) → is_no_memory a ≡ c
    → Answers s r a mid → MatchBool (b && c) (mid ≡ s) (Answers s r a mid)
call_happens s r a mid true true is answers =
    refusal_stays s r refusal.NoMemory mid (subst (λ (x : Answer). Answers s r x mid) (no_memory_is a is) answers)
call_happens s r a mid true false is answers = answers
call_happens s r a mid false c is answers = answers

pub run_of : (s : BoardState) (es : List Event) (rs : List EventReply) (h : List Entry) (s' : BoardState)
    → Records s es rs h s' → Run s es rs s'
run_of _ _ _ _ _ (ends s) = refl
run_of _ _ _ _ _ (call s mid s' seat r a es rs h answers rest) = (
  mid,
  call_happens s r a mid (takes_memory r) (is_no_memory a) refl answers,
  run_of mid es rs h s' rest,
)
run_of _ _ _ _ _ (slice s mid s' e a es rs h of_slice step rest) = (
  mid,
  subst (λ (b : Bool). MatchBool b (mid ≡ s) (Step s e a mid)) (sym (no_call e a of_slice)) step,
  run_of mid es rs h s' rest,
)
run_of _ _ _ _ _ (no_memory s s' e a es rs h on rest) = (
  s,
  subst (λ (b : Bool). MatchBool b (s ≡ s) (Step s e a s)) (sym on) refl,
  run_of s es rs h s' rest,
)

-- the events have a journal
abbrev pub HaveJournal : BoardState → List Event → List EventReply → BoardState → Type 0
HaveJournal s es rs s' = (h : List Entry) × Records s es rs h s'

call_by : (s mid s' : BoardState) (r : Request) (a : Answer) (es : List Event) (rs : List EventReply) (b : Bool)
    → met_no_memory (event.Call r) (answer.Called a) ≡ b → MatchBool b (mid ≡ s) (Answers s r a mid)
    → HaveJournal mid es rs s' → HaveJournal s (event.Call r ∷ es) (answer.Called a ∷ rs) s'
call_by s mid s' r a es rs true is same rest = (
  rest.0,
  no_memory s s' (event.Call r) (answer.Called a) es rs rest.0 is
      (subst (λ (x : BoardState). Records x es rs rest.0 s') same rest.1),
)
call_by s mid s' r a es rs false is answers rest =
    (entry_on s 0 r ∷ rest.0, call s mid s' 0 r a es rs rest.0 answers rest.1)

event_by : (s mid s' : BoardState) (e : Event) (a : EventReply) (es : List Event) (rs : List EventReply)
    → Happens s e a mid → HaveJournal mid es rs s' → HaveJournal s (e ∷ es) (a ∷ rs) s'
event_by s mid s' (event.Call r) (answer.Called a) es rs happens rest =
    call_by s mid s' r a es rs (met_no_memory (event.Call r) (answer.Called a)) refl happens rest
event_by s mid s' (event.Call r) (answer.Taken x) es rs happens rest = absurd happens
event_by s mid s' (event.Call r) (answer.Returned x) es rs happens rest = absurd happens
event_by s mid s' (event.Take id budget) a es rs happens rest =
    (rest.0, slice s mid s' (event.Take id budget) a es rs rest.0 tt happens rest.1)
event_by s mid s' (event.Return id) a es rs happens rest =
    (rest.0, slice s mid s' (event.Return id) a es rs rest.0 tt happens rest.1)

pub journal_of : (s : BoardState) (es : List Event) (rs : List EventReply) (s' : BoardState) → Run s es rs s'
    → HaveJournal s es rs s'
journal_of s [] [] s' run = ([], subst (λ (x : BoardState). Records s [] [] [] x) (sym run) (ends s))
journal_of s [] (a ∷ rs) s' run = absurd run
journal_of s (e ∷ es) [] s' run = absurd run
journal_of s (e ∷ es) (a ∷ rs) s' run = event_by s run.0 s' e a es rs run.1 (journal_of run.0 es rs s' run.2)
