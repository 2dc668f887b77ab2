-- Streams that are written piece by piece.
use Rattle.std.proofs.Common.{◌≡◌, ◌≢◌, inr, ℕ, ◌+◌, ◌%◌, List, ◌++◌, length, length-append, take, drop, take-append-drop, Option, Some, Result, Ok, Err, refl, sym, subst, arith, Bool, true, false}
use lib.Seq.{take-append_seam}
use Rattle.std.specs.Prelude.{IfOk, OnOk}
use Rattle.std.specs.Io.KnownBytes.{Appends}
use Rattle.std.proofs.KnownBytes.{Appends-nil, Appends-trans}
use Rattle.wasm_ast.specs.declared.module.Module.{Module}
use Rattle.oci_config.specs.declared.process.ProcessConfig.{ProcessConfig}
use Rattle.oci_config.specs.declared.stream.Stream.{Stream}
use Rattle.oci_config.specs.declared.stream.Stream.TheVariants.{Out}
use Rattle.oci_config.specs.declared.stream.Stream.TheVariants as stream
use Rattle.wasm_ast.specs.declared.refusal.Refusal.{Refusal}
use Rattle.wasm_ast.specs.declared.refusal.Refusal.TheVariants as refusal
use Rattle.step_machine.specs.declared.ends.End.{End}
use Rattle.step_machine.specs.Instantiation.{after, ended}
use Rattle.step_machine.specs.MachineView.{MachineView, state_of, written_to, output_of}
use Rattle.file_commands.specs.declared.ran.Ran.{Ran}
use Rattle.file_commands.specs.declared.run_error.RunError.{RunError}
use Rattle.file_commands.specs.Ran.{refused_run}
use Rattle.file_commands.specs.Explained.{IsToldBy}
use Rattle.task_lifecycle.specs.Names.{exit_status}
use Rattle.task_board.specs.Tasks.{exit_of}
use Rattle.file_commands.specs.TaskRun.{Given, end_lines, ran_to, CannotRun, IsRun, IsWritten, HasEnded}
use Rattle.file_commands.specs.TaskRun as task
use Rattle.file_commands.specs.Inside.Written.{IsOpened, IsCopied, IsTold}
use Rattle.file_commands.proofs.RanLemmas.{told_plain}
use Rattle.file_commands.proofs.RunLemmas.{Unless, is_run}

-- the outputs of turns grow
abbrev pub OutputsGrow : Type 0
OutputsGrow =
    (m : Module) (p : ProcessConfig) (n k : ℕ) (s : Stream)
    → (later : List ℕ) × (written_to s (after m p (n + k)).store ≡ written_to s (after m p n).store ++ later)

pub slice_grows : (v w : MachineView) (made : ℕ) → OutputsGrow → w ≡ record v { turns = v.turns + made }
    → (s : Stream) → (later : List ℕ) × (output_of w s ≡ output_of v s ++ later)
slice_grows v w made grow is s =
    subst (λ (x : MachineView). (later : List ℕ) × (output_of x s ≡ output_of v s ++ later)) (sym is)
    (grow v.module v.process v.turns made s)

pub none_copied : (s : List ℕ) (a : Option (List ℕ)) → IsCopied s 0 a a
none_copied s a = (omega arith, Appends-nil a)

-- the rest was appended
pub all_copied : (s : List ℕ) (n : ℕ) (a b c : Option (List ℕ))
    → IsCopied s n a b → Appends b c (drop n s) → Appends a c s
all_copied s n a b c h k = subst (Appends a c) (take-append-drop n s) (Appends-trans a b c (take n s) (drop n s) h.1 k)

-- all of a stream was appended, which has grown since
pub then_grown : (s t : List ℕ) (n : ℕ) (a b : Option (List ℕ))
    → Appends a b s → n ≡ length s → (later : List ℕ) × (t ≡ s ++ later) → IsCopied t n a b
then_grown s t n a b h count grown =
    subst (λ t'. IsCopied t' n a b) (sym grown.1)
    (subst (λ k. IsCopied (s ++ grown.0) k a b) (sym count)
    (omega (arith, length-append s grown.0), subst (Appends a b) (sym (take-append_seam s grown.0)) h))

pub written_as : {Is Is' : Ran → Type 0} (r : Result ℕ RunError) (o o' e e' : Option (List ℕ))
    → ((x : Ran) → Is x → Is' x) → IfOk r (IsWritten Is o o' e e') → IfOk r (IsWritten Is' o o' e e')
written_as (Ok n) o o' e e' f h = (h.0, f h.0 h.1, h.2, h.3, h.4)
written_as (Err x) o o' e e' f h = tt

-- a task that has come to its end, with all of its streams and the lines of its end
pub end_written : (v w : MachineView) (end : End) (o o' e e' e'' : Option (List ℕ)) (status : ℕ)
    → w.module ≡ v.module → w.process ≡ v.process → ended (state_of w) ≡ Some end
    → Appends o o' (output_of w Out) → Appends e e' (output_of w stream.Err) → Appends e' e''
    (end_lines (output_of w Out) (output_of w stream.Err) end)
    → status ≡ exit_status (exit_of end) % 256 → IsWritten (HasEnded v.module v.process) o o' e e'' status
end_written v w end o o' e e' e'' status same_module same_process ends out err line is =
    let r = ran_to (after w.module w.process w.turns).store end in
    let its : HasEnded w.module w.process r = record { turns = w.turns; end = end; ends = ends; is = refl } in (
      r,
      subst (λ m. HasEnded m v.process r) same_module (subst (λ p. HasEnded w.module p r) same_process its),
      out,
      Appends-trans e e' e'' (output_of w stream.Err)
          (end_lines (output_of w Out) (output_of w stream.Err) end) err line,
      is,
    )

-- the task of a file
pub run_written : (bytes : List ℕ) (g : Given) (explain : Bool) (v : MachineView)
    (r : Result ℕ RunError) (o o' e e' : Option (List ℕ))
    → IsOpened bytes g v → IfOk r (IsWritten (HasEnded v.module v.process) o o' e e')
    → IfOk r (IsWritten (IsToldBy explain refused_run (IsRun bytes g)) o o' e e')
run_written bytes g explain v r o o' e e' opened_so h =
    written_as r o o' e e'
    (λ x ended_so. told_plain (IsRun bytes g) explain refused_run x (is_run bytes g v x opened_so ended_so)) h

run_told : (bytes : List ℕ) (g : Given) (cause : Refusal) (explain : Bool) (ran : Ran) → CannotRun bytes g cause
    → IsTold explain (refused_run cause) ran → IsToldBy explain refused_run (IsRun bytes g) ran
run_told bytes g cause true ran why is = inr (cause, task.IsRun.no_task cause why, is)
run_told bytes g cause false ran why is = subst (IsRun bytes g) (sym is) (task.IsRun.no_task cause why)

-- a file without a task
pub refusal_written : (bytes : List ℕ) (g : Given) (cause : Refusal) (explain : Bool) (told : Result Ran Refusal)
    (r : Result ℕ RunError) (o o' e e' : Option (List ℕ))
    → Unless (CannotRun bytes g) cause → IfOk told (IsTold explain (refused_run cause))
    → OnOk told (cause ≢ refusal.NoMemory) → IfOk r
    (λ s. (ran : Ran) × (told ≡ Ok ran) × Appends o o' ran.out × Appends e e' ran.err × (s ≡ ran.status))
    → IfOk r (IsWritten (IsToldBy explain refused_run (IsRun bytes g)) o o' e e')
refusal_written bytes g cause explain told (Ok n) o o' e e' why is some (ran, same, out, err, status) =
    let its : IsTold explain (refused_run cause) ran =
    subst (λ (t : Result Ran Refusal). IfOk t (IsTold explain (refused_run cause))) same is in
    let other : cause ≢ refusal.NoMemory =
    subst (λ (t : Result Ran Refusal). OnOk t (cause ≢ refusal.NoMemory)) same some in
    (ran, run_told bytes g cause explain ran (why other) its, out, err, status)
refusal_written bytes g cause explain told (Err x) o o' e e' why is some h = tt
