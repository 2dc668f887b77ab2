-- A task and its machine: what is kept while it is idle, while it is out, and when it comes back.
use Rattle.std.proofs.Common.{◌≡◌, ℕ, List, Bool, false, IsTrue, ◌↔◌, Option, Some, None, refl, sym, ap, ◌∙◌, subst}
use Rattle.std.specs.Arc.{arc_value}
use Rattle.wasm_ast.specs.declared.module.Module.{Module}
use Rattle.wasm_binary.specs.Grammar.{Spells}
use Rattle.oci_config.specs.declared.process.ProcessConfig.{ProcessConfig}
use Rattle.step_machine.specs.MachineView.{MachineView}
use Rattle.task_board.specs.declared.checkout.Checkout.{Checkout}
use Rattle.task_board.specs.BoardState.{Task}
use Rattle.task_board.specs.Loans.{Lent, loan_of, FitsTask}
use Rattle.task_board.specs.Refusals.{Openable}
use Rattle.task_board.specs.Inside.Machines.{IsMachine}
use Rattle.task_board.specs.declared.task.Task.TheInside as task
use Rattle.task_board.specs.Inside.Kept.{IsOwn, SharesWith, IsPlaced, IsKept, IsLoan}
use Rattle.task_board.specs.Inside.Shown.{lent_with, task_of}

-- a task that is idle, with its machine
pub record IsIdle (t : Task) (c : Checkout) : Type 0 where
  pub idle : t.out ≡ None
  pub machine : IsMachine c.machine.value t.module t.process t.turns
  pub own : IsOwn c t.id t.bytes t.module t.process t.breaks

idle_by : (t : Task) (c : Checkout) (out : Option ℕ) → t.out ≡ out → IsPlaced t (Some c) out → IsIdle t c
idle_by t c None is placed = record { idle = is; machine = placed.0; own = placed.1 }
idle_by t c (Some n) is placed = absurd placed

pub idle : (t : Task) (o : Option Checkout) (c : Checkout) → IsKept t o → o ≡ Some c → IsIdle t c
idle t o c kept is = idle_by t c t.out refl (subst (λ (x : Option Checkout). IsPlaced t x t.out) is kept.1)

-- ---- a loan

-- the loan of a task that goes out with what is its own
pub lent_own : (t : Task) (c : Checkout) (slot budget : ℕ) → IsOwn c t.id t.bytes t.module t.process t.breaks
    → lent_with slot t.incarnation t.turns budget c ≡ loan_of slot budget t
lent_own t c slot budget own =
    ap (λ (x : List ℕ). record (lent_with slot t.incarnation t.turns budget c) { id = x }) own.same_id ∙ (ap
    (λ (x : List ℕ). record (lent_with slot t.incarnation t.turns budget c) { id = t.id; bytes = x }) own.same_bytes
    ∙ (ap
    (λ (x : Module). record (lent_with slot t.incarnation t.turns budget c)
    { id = t.id; bytes = t.bytes; «module» = x }) own.same_module ∙ (ap
    (λ (x : ProcessConfig). record (lent_with slot t.incarnation t.turns budget c)
    { id = t.id; bytes = t.bytes; «module» = t.module; process = x }) own.same_process ∙ ap
    (λ (x : _). record (lent_with slot t.incarnation t.turns budget c)
    { id = t.id; bytes = t.bytes; «module» = t.module; process = t.process; breaks = x }) own.same_breaks)))

pub loan_kept : (t : Task) (c : Checkout) (slot budget : ℕ) → Openable t.bytes t.process t.module → IsIdle t c
    → IsLoan (lent_with slot t.incarnation t.turns budget c) c.machine.value false
loan_kept t c slot budget opens is =
    subst (λ (l : Lent). IsLoan l c.machine.value false) (sym (lent_own t c slot budget is.own)) (opens, is.machine)

-- ---- which loan fits

pub fits_parts : (l : Lent) (t : Task) → l.incarnation ≡ t.incarnation → l.turns ≡ t.turns → t.out ≡ Some l.budget
    → l.id ≡ t.id → l.bytes ≡ t.bytes → l.module ≡ t.module → l.process ≡ t.process → l.breaks ≡ t.breaks → FitsTask l t
fits_parts l t n k out id bytes m p bs = (
  ap (λ (x : _). record l { incarnation = x }) n ∙ (ap (λ (x : _). record l { incarnation = t.incarnation; id = x }) id
      ∙ (ap (λ (x : _). record l { incarnation = t.incarnation; id = t.id; bytes = x }) bytes
      ∙ (ap (λ (x : _). record l { incarnation = t.incarnation; id = t.id; bytes = t.bytes; «module» = x }) m ∙ (ap
      (λ (x : _). record l
      { incarnation = t.incarnation; id = t.id; bytes = t.bytes; «module» = t.module; process = x }) p ∙ (ap
      (λ (x : _). record l {
        incarnation = t.incarnation;
        id = t.id;
        bytes = t.bytes;
        «module» = t.module;
        process = t.process;
        turns = x;
      }) k ∙ ap
      (λ (x : _). record l {
        incarnation = t.incarnation;
        id = t.id;
        bytes = t.bytes;
        «module» = t.module;
        process = t.process;
        turns = t.turns;
        breaks = x;
      }) bs))))),
  out,
)

-- bytes that both were opened from have one module
pub same_module : (l : Lent) (m : Module) (bytes : List ℕ) (p : ProcessConfig)
    → ((bs : List ℕ) (a b : Module) → Spells bs a → Spells bs b → a ≡ b)
    → Openable l.bytes l.process l.module → Openable bytes p m → l.bytes ≡ bytes → l.module ≡ m
same_module l m bytes p one mine other same =
    one bytes l.module m (subst (λ (bs : List ℕ). Spells bs l.module) same mine.spelled.spells) other.spelled.spells

-- a loan fits a task exactly if its numbers agree, it is the task's own budget, and it shares what the task has
pub fits_shared : (l : Lent) (t : task.Inside) (r : Bool)
    → (l.incarnation ≡ t.incarnation) × (l.turns ≡ t.turns) × (t.out ≡ Some l.budget)
    → (l.bytes ≡ arc_value (arc_value t.shared).bytes → l.module ≡ (arc_value t.shared).flat)
    → IsTrue r ↔ SharesWith l (arc_value t.shared) (arc_value t.breaks) → IsTrue r ↔ FitsTask l (task_of t)
fits_shared l t r numbers one is = (
  λ yes.
      let s = is.0 yes in
      fits_parts l (task_of t) numbers.0 numbers.1 numbers.2 s.0 s.1 (one s.1) s.2 s.3,
  λ f. is.1 (
    ap (λ (x : Lent). x.id) f.0,
    ap (λ (x : Lent). x.bytes) f.0,
    ap (λ (x : Lent). x.process) f.0,
    ap (λ (x : Lent). x.breaks) f.0,
  ),
)

-- ---- a step

-- a machine that has made turns
pub ran : (old new : MachineView) (m : Module) (p : ProcessConfig) (n made turns : ℕ) → IsMachine old m p n
    → new ≡ record old { turns = made } → turns ≡ new.turns → IsMachine new m p turns
ran old new m p n made turns is by same =
    let counts : made ≡ turns = sym (same ∙ ap (λ (x : MachineView). x.turns) by) in
    by ∙ (ap (λ (x : MachineView). record x { turns = made }) is
    ∙ ap (λ (k : ℕ). record { «module» = m; process = p; turns = k }) counts)
