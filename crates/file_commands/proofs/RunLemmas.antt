-- The task of a file, or why there is none.
use Rattle.std.proofs.Common.{◌≡◌, ◌≢◌, ◌⊎◌, inl, inr, ℕ, List, ◌++◌, codes, ap, ◌∙◌, Bool, true, false, Result, Ok, Err, Some, refl, sym, subst}
use Rattle.std.specs.Prelude.{IfOk, IfErr, OnOk, OnErr}
use Rattle.wasm_ast.specs.declared.module.Module.{Module}
use Rattle.wasm_ast.specs.declared.refusal.Refusal.{Refusal}
use Rattle.wasm_ast.specs.declared.refusal.Refusal.TheVariants as refusal
use Rattle.oci_config.specs.declared.process.ProcessConfig.{ProcessConfig}
use Rattle.validator.specs.Typing.{ValidModule}
use Rattle.step_machine.specs.Instantiation.{instantiation_refusal}
use Rattle.step_machine.specs.MachineView.{MachineView}
use Rattle.file_commands.specs.declared.ran.Ran.{Ran}
use Rattle.file_commands.specs.Source.{IsSource, IsNoSource}
use Rattle.file_commands.specs.TaskRun.{Given, can_have, process_given, CannotRun, IsRun, HasEnded}
use Rattle.file_commands.specs.TaskRun as task
use Rattle.file_commands.specs.Ran.{line, succeeded, refused}
use Rattle.file_commands.specs.Explained.{IsToldBy}
use Rattle.file_commands.specs.Checked.{list_if, IsTaskChecked}
use Rattle.file_commands.specs.Checked as checked
use Rattle.file_commands.specs.Inside.Written.{CannotStart, IsOpened, IsTold}
use Rattle.file_commands.specs.Inside.Written as why
use Rattle.file_commands.proofs.RanLemmas.{Told}

-- refused for this reason, unless memory ran out
abbrev pub Unless : (Refusal → Type 0) → Refusal → Type 0
Unless P e = e ≢ refusal.NoMemory → P e

pub handed_up : {W : Type 0} (P : Refusal → Type 0) (r : Result W Refusal) (e : Refusal) → r ≡ Err e → Unless P e
    → IfErr r (Unless P)
handed_up {W} P r e same h = subst (λ (q : Result W Refusal). IfErr q (Unless P)) (sym same) h

pub told_unless : (P : Refusal → Type 0) (e : Refusal) → Told P e → Unless P e
told_unless P e (inl p) other = absurd (other p)
told_unless P e (inr h) other = h

abbrev BadArguments : Bool → Refusal → Type 0
BadArguments b e = (e ≡ refusal.BadConfig) × (b ≡ false)

pub not_taken :
    {W : Type 0} (b : Bool) (r : Result W Refusal) → OnErr r ((r ≡ Err refusal.BadConfig) ⊎ (r ≡ Err refusal.NoMemory))
    → (r ≡ Err refusal.BadConfig → b ≡ false) → IfErr r (Unless (BadArguments b))
not_taken b (Ok v) h bad = tt
not_taken b (Err x) (inl p) bad = λ other. ((let same : x ≡ refusal.BadConfig = cc in same), bad p)
not_taken b (Err x) (inr p) bad = λ other. let same : x ≡ refusal.NoMemory = cc in absurd (other same)

pub not_started : {W : Type 0} (m : Module) (p : ProcessConfig) (r : Result W Refusal) → ValidModule m
    → ((e : Refusal) → r ≡ Err e → e ≢ refusal.NoMemory → instantiation_refusal m p ≡ Some e)
    → IfErr r (Unless (CannotStart m p))
not_started m p (Ok v) valid refused = tt
not_started m p (Err e) valid refused = λ other. why.CannotStart.not_instantiated e valid (refused e refl other)

-- ---- the task

pub no_module : (bytes : List ℕ) (g : Given) (e : Refusal) → Told (IsNoSource bytes) e → Unless (CannotRun bytes g) e
no_module bytes g e h other = task.CannotRun.no_module e (told_unless (IsNoSource bytes) e h other)

pub no_process : (bytes : List ℕ) (g : Given) (m : Module) (e : Refusal) → IsSource bytes m
    → Unless (BadArguments (can_have g)) e → Unless (CannotRun bytes g) e
no_process bytes g m e source h other =
    let bad = h other in
    subst (CannotRun bytes g) (sym bad.0) (task.CannotRun.bad_arguments m source bad.1)

no_start : (bytes : List ℕ) (g : Given) (m : Module) (p : ProcessConfig) (e : Refusal) → IsSource bytes m
    → can_have g ≡ true → p ≡ process_given g → CannotStart m p e → CannotRun bytes g e
no_start bytes g m p e source taken same (why.CannotStart.not_valid at fault) =
    task.CannotRun.invalid m at source taken fault
no_start bytes g m p e source taken same (why.CannotStart.not_instantiated x valid refused) =
    task.CannotRun.not_instantiated m e source taken valid
    (subst (λ (q : ProcessConfig). instantiation_refusal m q ≡ Some e) same refused)

pub no_machine : {W : Type 0} (bytes : List ℕ) (g : Given) (m : Module) (p : ProcessConfig) (r : Result W Refusal)
    → IsSource bytes m → can_have g ≡ true → p ≡ process_given g
    → IfErr r (Unless (CannotStart m p)) → IfErr r (Unless (CannotRun bytes g))
no_machine bytes g m p (Ok v) source taken same h = tt
no_machine bytes g m p (Err e) source taken same h = λ other. no_start bytes g m p e source taken same (h other)

-- ---- its end

pub is_run : (bytes : List ℕ) (g : Given) (v : MachineView) (x : Ran) → IsOpened bytes g v
    → HasEnded v.module v.process x → IsRun bytes g x
is_run bytes g v x opened_so h =
    task.IsRun.ran v.module x opened_so.runs
    (subst (λ (q : ProcessConfig). HasEnded v.module q x) opened_so.process h)

-- ---- whether there could be one

-- a module of which a task was made
pub task_checked :
    (bytes : List ℕ) (g : Given) (list : Bool) (v : MachineView) (text : List ℕ) (r : Ran) → IsOpened bytes g v
    → text ≡ line (codes "ok") ++ list_if list v.module → r ≡ succeeded text → IsTaskChecked bytes g list r
task_checked bytes g list v text r opened_so same is =
    subst (IsTaskChecked bytes g list) (sym (is ∙ ap succeeded same))
    (checked.IsTaskChecked.task v.module opened_so.runs)

-- one of which none was made
pub task_told : (bytes : List ℕ) (g : Given) (list : Bool) (e : Refusal) (explain : Bool) (r : Result Ran Refusal)
    → IfOk r (IsTold explain (refused e)) → OnOk r (e ≢ refusal.NoMemory) → Unless (CannotRun bytes g) e
    → IfOk r (IsToldBy explain refused (IsTaskChecked bytes g list))
task_told bytes g list e true (Ok x) is told why = inr (e, checked.IsTaskChecked.no_task e (why told), is)
task_told bytes g list e false (Ok x) is told why =
    subst (IsTaskChecked bytes g list) (sym is) (checked.IsTaskChecked.no_task e (why told))
task_told bytes g list e explain (Err x) is told why = tt
