-- What a turn does to the machine's data.
use Rattle.std.specs.Prelude.{◌≡◌, ℕ, ◌+◌, ◌∷◌, map, take, drop, length, Option, Some, false}
use Rattle.wasm_ast.specs.Syntax.{Op, Ops, count}
use Rattle.wasm_ast.specs.declared.values.FuncType.{FuncType}
use Rattle.oci_config.specs.Processes.{config_of}
use Rattle.step_machine.specs.Program.{Program}
use Rattle.step_machine.specs.Effects.{Env, effect}
use Rattle.label_machine.specs.declared.effect.Effect.{Effect as Answer}
use Rattle.label_machine.specs.declared.label.Target.{Target}
use Rattle.label_machine.specs.declared.run.Run.{Run}
use Rattle.label_machine.specs.Inside.View.{opened, open_of, level_of}
use Rattle.label_machine.specs.Inside.Effects.{effect_of, may_change}
use Rattle.label_machine.specs.Inside.Runs.{store_of}

abbrev pub env_of : Run → Env
env_of x = record { store = store_of x.store; locals = x.top.locals.items }

-- the data before and after an instruction at this place has done what it does
-- by itself
pub record Does (p : Program) (x y : Run) (place : ℕ) (o : Op) (e : Answer) : Type 0 where
  pub counted : x.top.ahead.place ≡ place + count o
  pub effect :
      effect p (env_of x) x.top.operands place o ≡ effect_of e (env_of y) y.top.operands
  pub kept :
      may_change e ≡ false
      → (store_of y.store ≡ store_of x.store) × (y.top.locals.items ≡ x.top.locals.items)
  pub top :
      level_of y.top
      ≡ record (level_of x.top) { locals = y.top.locals.items; operands = y.top.operands }
  pub callers : map level_of y.callers ≡ map level_of x.callers
  pub pending : y.pending ≡ x.pending

-- a block has a type, by which it takes this number of values and gives that
pub record HasCounts (found : Option FuncType) (params results : ℕ) : Type 0 where
  pub t : FuncType
  pub is : found ≡ Some t
  pub takes : params ≡ length t.params
  pub gives : results ≡ length t.results

-- the data before and after a body is entered, of which the first instruction has this place, with this
-- number of operands
pub record Enters (x y : Run) (taken arity place : ℕ) (target : Target) (first : ℕ) (body : Ops) :
    Type 0 where
  pub top :
      level_of y.top
      ≡ record (level_of x.top) {
        opens =
            opened arity place (drop taken x.top.operands) target ∷ map open_of x.top.labels;
        operands = take taken x.top.operands;
        place = first;
        rest = body;
      }
  pub callers : map level_of y.callers ≡ map level_of x.callers
  pub pending : y.pending ≡ x.pending
  pub store : store_of y.store ≡ store_of x.store
  pub process : config_of y.store.process ≡ config_of x.store.process
