-- What calls make of the machine's data.
use Rattle.std.specs.Prelude.{◌≡◌, ℕ, ◌<◌}
use Rattle.wasm_ast.specs.declared.trap.Trap.TheVariants.{Exhausted}
use Rattle.step_machine.specs.Program.{Program}
use Rattle.step_machine.specs.Configuration.{exited, trapped}
use Rattle.step_machine.specs.Turns.{settled}
use Rattle.label_machine.specs.declared.call.Outcome.{Outcome}
use Rattle.label_machine.specs.declared.call.Outcome.TheVariants.{Goes, Exits, Stuck}
use Rattle.label_machine.specs.declared.run.Run.{Run}
use Rattle.label_machine.specs.declared.run.Doing.TheVariants.{Next, Calls}
use Rattle.label_machine.specs.Inside.Runs.{config, configured, IsWithin, IsBeyond, IsOf, HasProcess, IsInvalid}
use Rattle.label_machine.specs.Inside.Weights.{weight}

-- a call goes on with these data, and is exhausted with their store where they are beyond the limits
pub record GoesOn (p : Program) (x y : Run) (func : ℕ) : Type 0 where
  pub goes : IsWithin y → settled p (config x (Calls func)) ≡ settled p (config y Next)
  pub stops :
      IsBeyond y → settled p (config x (Calls func)) ≡ configured y.store (trapped Exhausted)
  pub of : IsOf p y.pending y.store

-- the data before a call and after it, and what it comes to
abbrev pub CallLeads : Program → Run → Run → (func : ℕ) → Outcome → Type 0
CallLeads p x y func Goes = GoesOn p x y func
CallLeads p x y func (Exits number) =
    (settled p (config x (Calls func)) ≡ configured y.store (exited number)) × HasProcess p y.store
CallLeads p x y func Stuck = IsInvalid (settled p (config x (Calls func)))

-- data that go on have less left
abbrev pub CallLightens : Run → Run → (func : ℕ) → Outcome → Type 0
CallLightens x y func Goes = weight y Next < weight x (Calls func)
CallLightens x y func _ = Unit {0}
