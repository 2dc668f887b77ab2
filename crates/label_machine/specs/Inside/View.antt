-- Which frames of a configuration the machine's frames are.
use Rattle.std.specs.Prelude.{ℕ, ◌+◌, List, [], ◌∷◌, map}
use Rattle.wasm_ast.specs.declared.values.Value.{Value}
use Rattle.wasm_ast.specs.declared.instr.Instr.{Instr}
use Rattle.wasm_ast.specs.Syntax.{Ops, stop, ops_of, count}
use Rattle.wasm_ast.specs.View.{op_of}
use Rattle.step_machine.specs.Configuration.{onward, again}
use Rattle.step_machine.specs.Inside.Levels.{Open, Level}
use Rattle.label_machine.specs.declared.label.Target.{Target}
use Rattle.label_machine.specs.declared.label.Target.TheVariants.{After, Again}
use Rattle.label_machine.specs.declared.label.Label.{Label}
use Rattle.label_machine.specs.declared.frame.Frame.{Frame}

abbrev pub ops_in : List Instr → Ops
ops_in is = ops_of (map op_of is)

-- a block whose label goes on with what follows it
abbrev pub closed_by : (arity place : ℕ) → (below : List Value) → (next_place : ℕ) → Ops → Open
closed_by n k below next_place rest = record {
  arity = n;
  place = k;
  target = onward;
  below = below;
  next_place = next_place;
  rest = rest;
}

-- a loop, by the instructions from itself on
abbrev pub looped : (arity place : ℕ) → (below : List Value) → List Instr → Open
looped n k below [] = closed_by n k below k stop
looped n k below (i ∷ is) = record {
  arity = n;
  place = k;
  target = again (op_of i);
  below = below;
  next_place = k + count (op_of i);
  rest = ops_in is;
}

abbrev pub opened : (arity place : ℕ) → (below : List Value) → Target → Open
opened n k below (After a) = closed_by n k below a.place (ops_in a.rest.now)
opened n k below (Again is) = looped n k below is.now

abbrev pub open_of : Label → Open
open_of l = opened l.arity l.place l.below l.target

-- what a branch to a label goes on with
abbrev pub goes_to : (place : ℕ) → Target → (place : ℕ) × Ops
goes_to k (After a) = (a.place, ops_in a.rest.now)
goes_to k (Again is) = (k, ops_in is.now)

abbrev pub level_of : Frame → Level
level_of f = record {
  arity = f.arity;
  func = f.func;
  locals = f.locals.items;
  opens = map open_of f.labels;
  operands = f.operands;
  place = f.ahead.place;
  rest = ops_in f.ahead.rest.now;
}
