-- Loans: a task's machine, checked out for one slice.
use Rattle.std.specs.Prelude.{◌≡◌, ℕ, List, Bool, false, Some}
use Rattle.wasm_ast.specs.declared.module.Module.{Module}
use Rattle.oci_config.specs.declared.process.ProcessConfig.{ProcessConfig}
use Rattle.wasm_ast.specs.declared.place.Place.{Place}
use Rattle.task_board.specs.BoardState.{Task, Entries, task_in}

-- what a loan names: its task's slot, and the task as it was when its slice was taken
pub record Lent : Type 0 where
  pub slot : ℕ
  pub incarnation : ℕ
  pub id : List ℕ
  pub bytes : List ℕ
  pub «module» : Module
  pub process : ProcessConfig
  -- the turns that the task had made
  pub turns : ℕ
  pub breaks : List Place
  pub budget : ℕ
  -- whether the slice has been run
  pub ran : Bool

-- the loan of a task's machine, not yet run
abbrev pub loan_of : (slot budget : ℕ) → Task → Lent
loan_of slot budget t = record {
  slot = slot;
  incarnation = t.incarnation;
  id = t.id;
  bytes = t.bytes;
  «module» = t.module;
  process = t.process;
  turns = t.turns;
  breaks = t.breaks;
  budget = budget;
  ran = false;
}

-- the task is out with this loan, run or not
abbrev pub FitsTask : Lent → Task → Type 0
FitsTask l t = (l ≡ record (loan_of l.slot l.budget t) { ran = l.ran }) × (t.out ≡ Some l.budget)

-- the task of the loan's slot is out with this loan
abbrev pub Fits : Lent → Entries → Type 0
Fits l ts = (t : Task) × (task_in l.slot ts ≡ Some t) × FitsTask l t
