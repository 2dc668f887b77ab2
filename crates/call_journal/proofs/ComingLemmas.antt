-- What takes and returns make of a task, one after another.
use Rattle.std.proofs.Common.{◌≡◌, ℕ, ◌+◌, ◌-◌, ◌<◌, ◌≤◌, nat_eq, nat_lt, List, Bool, true, false, ◌||◌, Option, Some, None, is_none, inl, inr, refl, sym, ap, ◌∙◌, subst, arith}
use Rattle.std.proofs.lemmas.Bool.{and_parts, or_parts}
use Rattle.std.proofs.lemmas.Bool.Decides.{nat_tests}
use Rattle.step_machine.specs.declared.ends.End.{End}
use Rattle.step_machine.specs.Instantiation.{ended}
use Rattle.step_machine.specs.Slices.{at_break, ends_slice}
use Rattle.task_lifecycle.specs.declared.status.Status.{Status}
use Rattle.task_lifecycle.specs.declared.status.Status.TheVariants.{Running}
use Rattle.task_lifecycle.specs.declared.status.Signal.{Signal}
use Rattle.task_lifecycle.specs.Lifecycle.{takes_turns, is_running, is_pausing}
use Rattle.task_requests.specs.declared.request.Request.{Request}
use Rattle.task_board.specs.BoardState.{Task, BoardState, task_of, with_task}
use Rattle.task_board.specs.Tasks.{execution_at, is_break_at, landing, idle_after, advanced, MayAdvance, can_lend, lent, slice_turns, HasReturned}
use Rattle.task_board.specs.Step.{is_budget}
use Rattle.task_board.proofs.EntryLemmas.{none_is_not, some_is}
use Rattle.task_board.proofs.AdvanceLemmas.{no_cut}
use Rattle.call_journal.specs.declared.entry.Found.{Found}
use Rattle.call_journal.specs.Finding.{found_in}
use Rattle.call_journal.specs.Replay.{Spans, ComesTo, stays, is_taken, advances, is_retaken, Finds, no_task, task}

-- ---- what can be lent

none_of : (o : Option ℕ) → is_none o ≡ true → o ≡ None
none_of None h = refl
none_of (Some n) h = cc

is_idle : (t : Task) → can_lend t ≡ true → t.out ≡ None
is_idle t can = none_of t.out (and_parts (is_running t.status) (is_none t.out) can).1

-- what is out is not lent
not_again : (t : Task) (budget : ℕ) → can_lend (lent t budget) ≡ true → ⊥
not_again t budget can = none_is_not budget (sym (is_idle (lent t budget) can))

-- ---- where a task lands that goes on

landing_goes : (o : Option End) (x : Option Signal) (p : Bool) → takes_turns (landing o x p).0 ≡ true
    → (o ≡ None) × (x ≡ None) × (p ≡ false)
landing_goes (Some e) x p h = cc
landing_goes None (Some s) p h = cc
landing_goes None None true h = cc
landing_goes None None false h = (refl, refl, refl)

not_pausing : (o : Option End) (x : Option Signal) (p : Bool) → takes_turns (landing o x p).0 ≡ true
    → is_pausing (landing o x p).0 ≡ false
not_pausing (Some e) x p h = cc
not_pausing None (Some s) p h = cc
not_pausing None None true h = cc
not_pausing None None false h = refl

only_running : (status : Status) → takes_turns status ≡ true → is_pausing status ≡ false → status ≡ Running
only_running Running h off = refl
only_running _ h off = cc

-- what is so of a task that has advanced by k turns and goes on
record GoesOn (t : Task) (k : ℕ) : Type 0 where
  pub ended : ended (execution_at t (t.turns + k)) ≡ None
  pub quiet : t.signal ≡ None
  pub pausing : is_pausing t.status ≡ false
  pub at_break : is_break_at t (t.turns + k) ≡ false

goes_on : (t : Task) (k : ℕ) → takes_turns (advanced t k).status ≡ true → GoesOn t k
goes_on t k goes =
    let parts =
    landing_goes (ended (execution_at t (t.turns + k))) t.signal (is_pausing t.status || is_break_at t (t.turns + k))
    goes in
    let off = or_parts (is_pausing t.status) (is_break_at t (t.turns + k)) parts.2 in
    record { ended = parts.0; quiet = parts.1; pausing = off.0; at_break = off.1 }

-- ---- k turns and then j

-- they are k + j
pub twice :
    (t : Task) (k j : ℕ) → takes_turns (advanced t k).status ≡ true → advanced (advanced t k) j ≡ advanced t (k + j)
twice t k j goes =
    let g = goes_on t k goes in
    let F : ℕ → Option Signal → Bool → Task = λ n x s. idle_after t n x (s || is_break_at t n) in
    let sum : (t.turns + k) + j ≡ t.turns + (k + j) = omega arith in
    let off : is_pausing (advanced t k).status ≡ false =
    not_pausing (ended (execution_at t (t.turns + k))) t.signal (is_pausing t.status || is_break_at t (t.turns + k))
    goes in
    ap (λ (n : ℕ). F n None (is_pausing (advanced t k).status)) sum
    ∙ (ap (λ (s : Bool). F (t.turns + (k + j)) None s) (off ∙ sym g.pausing)
    ∙ ap (λ (x : Option Signal). F (t.turns + (k + j)) x (is_pausing t.status)) (sym g.quiet))

more : (t : Task) (k j : ℕ) → takes_turns (advanced t k).status ≡ true → MayAdvance t k → MayAdvance (advanced t k) j
    → MayAdvance t (k + j)
more t k j goes h next = record {
  status = h.status;
  some = let some = h.some in omega (arith, some);
  goes = h.goes;
  uncut = λ i low high. by i low high (nat_lt i k) refl (nat_eq i k) refl;
}
  where
    here : ends_slice t.breaks (execution_at t (t.turns + k)) ≡ false
    here =
        let g = goes_on t k goes in
        no_cut t.breaks (execution_at t (t.turns + k)) g.ended g.at_break

    by : (i : ℕ) → 1 ≤ i → i < k + j → (b : Bool) → nat_lt i k ≡ b → (c : Bool) → nat_eq i k ≡ c
        → ends_slice t.breaks (execution_at t (t.turns + i)) ≡ false
    by i low high true is c at = let below : i < k = grind (arith, nat_tests, is) in h.uncut i low below
    by i low high false off true at =
        let same : i ≡ k = grind (arith, nat_tests, at) in
        subst (λ (n : ℕ). ends_slice t.breaks (execution_at t (t.turns + n)) ≡ false) (sym same) here
    by i low high false off false away =
        let above : k < i = grind (arith, nat_tests, off, away) in
        let at : (t.turns + k) + (i - k) ≡ t.turns + i = omega (arith, above) in
        subst (λ (n : ℕ). ends_slice t.breaks (execution_at t n) ≡ false) at
        (next.uncut (i - k) (omega (arith, above)) (omega (arith, above, high)))

longer : (t : Task) (k j : ℕ) (o : Option ℕ) → t.status ≡ Running → t.signal ≡ None → 1 ≤ j → Spans t k o
    → Spans t (k + j) o
longer t k j None is quiet some h = tt
longer t k j (Some budget) is quiet some (inl same) =
    let sum : slice_turns t budget < k + j = omega (arith, same, some) in inr (sum, is, quiet)
longer t k j (Some budget) is quiet some (inr far) =
    let above = far.0 in
    let sum : slice_turns t budget < k + j = omega (arith, above, some) in inr (sum, is, quiet)

spans_more : (t : Task) (k j : ℕ) → takes_turns (advanced t k).status ≡ true → MayAdvance t k
    → MayAdvance (advanced t k) j → Spans t k t.out → Spans t (k + j) t.out
spans_more t k j goes h next spans =
    let g = goes_on t k goes in
    longer t k j t.out (only_running t.status h.status g.pausing) g.quiet next.some spans

-- ---- one after another

-- a task whose slice was taken advances as it would have
unlent : (t : Task) (budget k : ℕ) → MayAdvance (lent t budget) k → MayAdvance t k
unlent t budget k h = record { status = h.status; some = h.some; goes = h.goes; uncut = h.uncut }

any_span : (t : Task) (k : ℕ) → can_lend t ≡ true → Spans t k t.out
any_span t k can = subst (Spans t k) (sym (is_idle t can)) tt

after_take : (t : Task) (budget : ℕ) → can_lend t ≡ true → is_budget budget ≡ true → (u : Task)
    → ComesTo (lent t budget) u → ComesTo t u
after_take t budget can ok _ stays = is_taken budget can ok
after_take t budget can ok _ (is_taken next can' ok') = absurd (not_again t budget can')
after_take t budget can ok _ (advances k may spans) = advances k (unlent t budget k may) (any_span t k can)
after_take t budget can ok _ (is_retaken k next may spans can' ok') =
    is_retaken k next (unlent t budget k may) (any_span t k can) can' ok'

after_advance : (t : Task) (k : ℕ) → MayAdvance t k → Spans t k t.out → (u : Task) → ComesTo (advanced t k) u
    → ComesTo t u
after_advance t k may spans _ stays = advances k may spans
after_advance t k may spans _ (is_taken budget can ok) = is_retaken k budget may spans can ok
after_advance t k may spans _ (advances j may' spans') =
    subst (ComesTo t) (sym (twice t k j may'.status))
    (advances (k + j) (more t k j may'.status may may') (spans_more t k j may'.status may may' spans))
after_advance t k may spans _ (is_retaken j budget may' spans' can ok) =
    let same = twice t k j may'.status in
    subst (λ (u : Task). ComesTo t (lent u budget)) (sym same)
    (is_retaken (k + j) budget (more t k j may'.status may may') (spans_more t k j may'.status may may' spans)
    (subst (λ (u : Task). can_lend u ≡ true) same can) ok)

pub comes_again : (t u v : Task) → ComesTo t u → ComesTo u v → ComesTo t v
comes_again t _ v stays next = next
comes_again t _ v (is_taken budget can ok) next = after_take t budget can ok v next
comes_again t _ v (advances k may spans) next = after_advance t k may spans v next
comes_again t _ v (is_retaken k budget may spans can ok) next =
    after_advance t k may spans v (after_take (advanced t k) budget can ok v next)

-- a return is one of what takes and returns make
pub comes_back : (t u : Task) → HasReturned t u → ComesTo t u
comes_back t u h =
    let k = slice_turns t h.budget in
    subst (ComesTo t) (sym h.advances) (advances k h.legal (subst (Spans t k) (sym h.out) (inl refl)))

-- ---- what an entry determines

more_turns : {P : Type 0} (n k : ℕ) → 1 ≤ k → n ≡ n + k → P
more_turns {P} n k some same = absurd (omega (arith, some, same))

same_k : (n k j : ℕ) → n + k ≡ n + j → k ≡ j
same_k n k j h = omega (arith, h)

mark_gone : {P : Type 0} (o : Option ℕ) (budget : ℕ) → o ≡ None → o ≡ Some budget → P
mark_gone {P} o budget none some = absurd (none_is_not budget (sym none ∙ some))

-- the count and the mark tell how far it has come
pub same_task : (t u v : Task) → ComesTo t u → ComesTo t v → u.turns ≡ v.turns → u.out ≡ v.out → u ≡ v
same_task t _ _ stays stays n o = refl
same_task t _ _ stays (is_taken c can ok) n o = mark_gone t.out c (is_idle t can) o
same_task t _ _ stays (advances j may spans) n o = more_turns t.turns j may.some n
same_task t _ _ stays (is_retaken j c may spans can ok) n o = more_turns t.turns j may.some n
same_task t _ _ (is_taken b can ok) stays n o = mark_gone t.out b (is_idle t can) (sym o)
same_task t _ _ (is_taken b can ok) (is_taken c can' ok') n o = ap (lent t) (some_is b c o)
same_task t _ _ (is_taken b can ok) (advances j may spans) n o = more_turns t.turns j may.some n
same_task t _ _ (is_taken b can ok) (is_retaken j c may spans can' ok') n o = more_turns t.turns j may.some n
same_task t _ _ (advances k may spans) stays n o = more_turns t.turns k may.some (sym n)
same_task t _ _ (advances k may spans) (is_taken c can ok) n o = more_turns t.turns k may.some (sym n)
same_task t _ _ (advances k may spans) (advances j may' spans') n o = ap (advanced t) (same_k t.turns k j n)
same_task t _ _ (advances k may spans) (is_retaken j c may' spans' can ok) n o = absurd (none_is_not c o)
same_task t _ _ (is_retaken k b may spans can ok) stays n o = more_turns t.turns k may.some (sym n)
same_task t _ _ (is_retaken k b may spans can ok) (is_taken c can' ok') n o = more_turns t.turns k may.some (sym n)
same_task t _ _ (is_retaken k b may spans can ok) (advances j may' spans') n o = absurd (none_is_not b (sym o))
same_task t _ _ (is_retaken k b may spans can ok) (is_retaken j c may' spans' can' ok') n o =
    ap (λ (i : ℕ). lent (advanced t i) b) (same_k t.turns k j n) ∙ ap (lent (advanced t j)) (some_is b c o)

same_finding : (s : BoardState) (id id' : List ℕ) (t t' u u' : Task) → id ≡ id' → task_of id s.tasks ≡ Some t
    → task_of id' s.tasks ≡ Some u → ComesTo t t' → ComesTo u u' → found_in t' ≡ found_in u' → t' ≡ u'
same_finding s id id' t t' u u' same at at' come come' f =
    let one : u ≡ t = some_is u t (sym at' ∙ (ap (λ (x : List ℕ). task_of x s.tasks) (sym same) ∙ at)) in
    same_task t t' u' come (subst (λ (x : Task). ComesTo x u') one come')
    (ap (λ (x : Found). x.n) f) (ap (λ (x : Found). x.out) f)

finds_by : (s : BoardState) (r : Request) (f g : Option Found) (mid next : BoardState) → Finds s r f mid
    → Finds s r g next → f ≡ g → mid ≡ next
finds_by s r _ _ _ _ (no_task none) (no_task none') is = refl
finds_by s r _ _ _ _ (no_task none) (task id t t' named at come) is = absurd (none_is_not (found_in t') is)
finds_by s r _ _ _ _ (task id t t' named at come) (no_task none) is = absurd (none_is_not (found_in t') (sym is))
finds_by s r _ _ _ _ (task id t t' named at come) (task id' u u' named' at' come') is =
    ap (with_task s)
    (same_finding s id id' t t' u u' (some_is id id' (sym named ∙ named')) at at' come come'
    (some_is (found_in t') (found_in u') is))

pub finds_same : (s : BoardState) (r : Request) (f : Option Found) (mid next : BoardState) → Finds s r f mid
    → Finds s r f next → mid ≡ next
finds_same s r f mid next a b = finds_by s r f f mid next a b refl
