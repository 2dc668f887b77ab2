-- How many turns steps make, and that they add up.
use Rattle.std.proofs.Common.{◌≡◌, ◌≢◌, ℕ, zero, suc, ◌+◌, ◌-◌, ◌<◌, ◌≤◌, List, Bool, true, false, cond, Option, Some, None, ap, subst, arith}
use Rattle.wasm_ast.specs.declared.module.Module.{Module}
use Rattle.wasm_ast.specs.declared.place.Place.{Place}
use Rattle.oci_config.specs.declared.process.ProcessConfig.{ProcessConfig}
use Rattle.step_machine.specs.declared.ends.End.{End}
use Rattle.step_machine.specs.declared.ends.SliceEnd.TheVariants as slice
use Rattle.step_machine.specs.Configuration.{State as ExecutionState}
use Rattle.step_machine.specs.Instantiation.{after, ended}
use Rattle.step_machine.specs.Slices.{at_break, ends_slice, turns_made, end_after, slice_end}
use Rattle.task_board.specs.BoardState.{Task}
use Rattle.task_board.specs.Tasks.{execution_at, is_break_at, idle_after, slice_turns, stepped}
use Rattle.task_board.proofs.StepLemmas.{StopFirst}
use Rattle.task_board.proofs.AdvanceLemmas.{AtMost}

-- what the machine promises of a slice that makes fewer turns than its budget
abbrev pub OnlyThere : Type 0
OnlyThere = (m : Module) (p : ProcessConfig) (n : ℕ) (bs : List Place) (budget : ℕ)
    → ended (after m p n).state ≡ None → turns_made m p n bs budget < budget
    → ends_slice bs (after m p (n + turns_made m p n bs budget)).state ≡ true

-- and of two slices, of which no breakpoint ended the first
abbrev pub Two : Type 0
Two = (m : Module) (p : ProcessConfig) (n : ℕ) (bs : List Place) (a b : ℕ) → slice_end m p n bs a ≢ slice.Break
    → turns_made m p n bs (a + b) ≡ turns_made m p n bs a + turns_made m p (n + turns_made m p n bs a) bs b

pub no_more : (t : Task) (count : ℕ) → AtMost → (stepped t count).turns ≤ t.turns + count
no_more t count most =
    let few = most t.module t.process t.turns t.breaks count in
    omega (arith, few)

pub fewer : (t : Task) (count : ℕ) → OnlyThere → ended (execution_at t t.turns) ≡ None
    → (stepped t count).turns < t.turns + count → ends_slice t.breaks (execution_at t (stepped t count).turns) ≡ true
fewer t count only goes less =
    let made : slice_turns t count < count = omega (arith, less) in
    only t.module t.process t.turns t.breaks count goes made

pub not_before : (t : Task) (count n : ℕ) → StopFirst → t.turns < n → n < (stepped t count).turns
    → ends_slice t.breaks (execution_at t n) ≡ false
not_before t count n first low high =
    let at : t.turns + (n - t.turns) ≡ n = omega (arith, low) in
    subst (λ (k : ℕ). ends_slice t.breaks (execution_at t k) ≡ false) at
    (first t.module t.process t.turns t.breaks count (n - t.turns) (omega (arith, low)) (omega (arith, low, high)))

-- what ends a slice that has come neither to an end nor to a breakpoint
no_break_by : (bs : List Place) (made : ℕ) (s : ExecutionState) (o : Option End) → o ≡ None → at_break bs s ≡ false
    → end_after bs made s o ≢ slice.Break
no_break_by bs made s (Some e) none off h = cc
no_break_by bs zero s None none off h = cc
no_break_by bs (suc k) s None none off h = by (at_break bs s) off h
  where
    by : (b : Bool) → b ≡ false → cond b slice.Break slice.Budget ≡ slice.Break → ⊥
    by true is g = cc
    by false is g = cc

pub add_up : (t : Task) (j k : ℕ) → Two → ended (execution_at t (stepped t j).turns) ≡ None
    → is_break_at t (stepped t j).turns ≡ false → stepped (stepped t j) k ≡ stepped t (j + k)
add_up t j k two none off =
    let made =
    two t.module t.process t.turns t.breaks j k
    (no_break_by t.breaks (slice_turns t j) (execution_at t (stepped t j).turns)
    (ended (execution_at t (stepped t j).turns)) none off) in
    let sum : (t.turns + slice_turns t j) + slice_turns (stepped t j) k ≡ t.turns + slice_turns t (j + k) =
    omega (arith, made) in
    ap (λ (n : ℕ). idle_after t n None true) sum
