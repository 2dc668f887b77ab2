-- Breakpoints that are set and removed: they stay few, and none is there twice.
use Rattle.std.proofs.Common.{◌≡◌, ◌≢◌, ℕ, suc, ◌<◌, ◌≤◌, List, [], ◌∷◌, ◌++◌, filter, length, nat_eq, nat_le, Bool, true, false, true≢false, cond, not, None, refl, sym, ap, ◌∙◌, arith}
use Rattle.std.proofs.lemmas.Bool.{or_parts}
use Rattle.std.proofs.lemmas.Bool.Decides.{nat_tests}
use Rattle.wasm_ast.specs.declared.place.Place.{Place}
use Rattle.wasm_ast.specs.declared.refusal.Refusal.TheVariants as refusal
use Rattle.step_machine.specs.Limits.{max_breakpoints}
use Rattle.step_machine.specs.Places.{has_place}
use Rattle.step_machine.specs.Slices.{is_place, is_among}
use Rattle.task_lifecycle.specs.declared.lifecycle.TaskCall.TheVariants as call
use Rattle.task_lifecycle.specs.Lifecycle.{allowed}
use Rattle.content_leases.specs.Refusals.{first_refusal}
use Rattle.task_board.specs.Refusals.{own_refusals}
use Rattle.task_board.specs.declared.mark.Mark.{Mark}
use Rattle.task_board.specs.declared.mark.Mark.TheVariants as mark
use Rattle.task_board.specs.BoardState.{Task}
use Rattle.task_board.specs.Tasks.{is_other}
use Rattle.task_board.specs.Sound.{Each, AreDistinct, IsSound}
use Rattle.task_board.specs.Inside.Marks.{mark_call, marked_places, marked, mark_ask}
use Rattle.task_board.proofs.SoundLemmas.{distinct_append, length_append}
use Rattle.task_board.proofs.StepLemmas.{none_first, not_true}

-- ---- places by their numbers

own_place : (p : Place) → is_place p p.func p.instr ≡ true
own_place p =
    let one : nat_eq p.func p.func ≡ true = grind (arith, nat_tests) in
    let two : nat_eq p.instr p.instr ≡ true = grind (arith, nat_tests) in
    rw (one, two) refl

-- ---- a breakpoint more

away : (p : Place) (bs : List Place) → is_among bs p.func p.instr ≡ false → Each (λ (b : Place). b ≢ p) bs
away p [] h = tt
away p (b ∷ bs) h =
    let both = or_parts (is_place b p.func p.instr) (is_among bs p.func p.instr) h in (
      λ e. true≢false (sym (ap (λ (x : Place). is_place x p.func p.instr) e ∙ own_place p) ∙ both.0),
      away p bs both.1,
    )

-- ---- some of them

some_each : (P : Place → Type 0) (test : Place → Bool) (bs : List Place) → Each P bs → Each P (filter test bs)
some_each P test [] each = tt
some_each P test (b ∷ bs) each =
    elim (test b) as (λ (x : Bool). Each P (cond x (b ∷ filter test bs) (filter test bs)))
    [ true ↦ (each.0, some_each P test bs each.1) | false ↦ some_each P test bs each.1 ]

some_distinct : (test : Place → Bool) (bs : List Place) → AreDistinct bs → AreDistinct (filter test bs)
some_distinct test [] d = tt
some_distinct test (b ∷ bs) d =
    elim (test b) as (λ (x : Bool). AreDistinct (cond x (b ∷ filter test bs) (filter test bs))) [
      | true ↦ (some_each (λ (x : Place). b ≢ x) test bs d.0, some_distinct test bs d.1)
      | false ↦ some_distinct test bs d.1
    ]

some_few_by : (b : Place) (bs cs : List Place) (x : Bool) → length cs ≤ length bs
    → length (cond x (b ∷ cs) cs) ≤ suc (length bs)
some_few_by b bs cs true less = omega (arith, less)
some_few_by b bs cs false less = omega (arith, less)

some_few : (test : Place → Bool) (bs : List Place) → length (filter test bs) ≤ length bs
some_few test [] = omega arith
some_few test (b ∷ bs) = some_few_by b bs (filter test bs) (test b) (some_few test bs)

-- ---- what the refusals leave

-- a call that is let through has a status that allows it
pub mark_allowed :
    (m : Mark) (t : Task) → first_refusal (own_refusals (mark_ask m) t) ≡ None → allowed (mark_call m) t.status ≡ true
mark_allowed (mark.Set p) t h =
    not_true (allowed call.Break t.status) (none_first (not (allowed call.Break t.status)) refusal.WrongStatus _ h).0
mark_allowed (mark.Remove p) t h =
    not_true (allowed call.Unbreak t.status)
    (none_first (not (allowed call.Unbreak t.status)) refusal.WrongStatus _ h).0

-- the breakpoint that is set is a new one, and there is room for it
pub record IsNew (bs : List Place) (p : Place) : Type 0 where
  pub new : is_among bs p.func p.instr ≡ false
  pub room : length bs < max_breakpoints

is_new : (p : Place) (t : Task) → first_refusal (own_refusals (mark_ask (mark.Set p)) t) ≡ None → IsNew t.breaks p
is_new p t h =
    let a = none_first (not (allowed call.Break t.status)) refusal.WrongStatus _ h in
    let b = none_first (not (has_place t.module p.func p.instr)) refusal.OutOfRange _ a.1 in
    let c = none_first (is_among t.breaks p.func p.instr) refusal.Exists _ b.1 in
    let d = none_first (nat_le max_breakpoints (length t.breaks)) refusal.TooMany None c.1 in
    let full = d.0 in
    record { new = c.0; room = grind (arith, nat_tests, full) }

-- ---- a task stays sound

set_few : (bs : List Place) (p : Place) → length bs < max_breakpoints → length (bs ++ p ∷ []) ≤ max_breakpoints
set_few bs p room = let more = length_append bs p in omega (arith, more, room)

pub few_without :
    (p : Place) (bs : List Place) → length bs ≤ max_breakpoints → length (filter (is_other p) bs) ≤ max_breakpoints
few_without p bs few = let less = some_few (is_other p) bs in omega (arith, less, few)

pub few_after :
    (m : Mark) (t : Task) → length t.breaks ≤ max_breakpoints → first_refusal (own_refusals (mark_ask m) t) ≡ None
    → length (marked_places m t.breaks) ≤ max_breakpoints
few_after (mark.Set p) t few h = set_few t.breaks p (is_new p t h).room
few_after (mark.Remove p) t few h = few_without p t.breaks few

distinct_after : (m : Mark) (t : Task) → AreDistinct t.breaks → first_refusal (own_refusals (mark_ask m) t) ≡ None
    → AreDistinct (marked_places m t.breaks)
distinct_after (mark.Set p) t d h = distinct_append t.breaks p d (away p t.breaks (is_new p t h).new)
distinct_after (mark.Remove p) t d h = some_distinct (is_other p) t.breaks d

pub marked_sound :
    (creates : ℕ) (m : Mark) (t : Task) → IsSound creates t → first_refusal (own_refusals (mark_ask m) t) ≡ None
    → IsSound creates (marked m t)
marked_sound creates m t h none =
    let few : length (marked m t).breaks ≤ max_breakpoints = few_after m t h.few_breaks none in
    let distinct : AreDistinct (marked m t).breaks = distinct_after m t h.breaks none in
    assumption
