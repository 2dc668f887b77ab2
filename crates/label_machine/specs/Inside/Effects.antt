-- What the machine's answers say of an instruction.
use Rattle.std.specs.Prelude.{List, ◌∷◌, Bool, true, false, Option, Some, None, Result, Ok, Err}
use Rattle.wasm_ast.specs.declared.values.Value.{Value}
use Rattle.wasm_ast.specs.declared.values.Value.TheVariants.{I32}
use Rattle.wasm_ast.specs.declared.trap.Trap.{Trap}
use Rattle.step_machine.specs.Configuration.{invoke, branch, ret}
use Rattle.step_machine.specs.Effects.{Env, Effect, gives, becomes, traps, no_rule}
use Rattle.label_machine.specs.declared.effect.Effect.{Effect as Answer}
use Rattle.label_machine.specs.declared.effect.Effect.TheVariants as answer

-- one operand more, or a trap
abbrev pub gives_or_traps : Env → Result Value Trap → (rest : List Value) → Effect
gives_or_traps env (Ok v) rest = gives env (v ∷ rest)
gives_or_traps env (Err t) rest = traps t

-- the same, if there is a rule
abbrev pub given_by : Env → Option (Result Value Trap) → (rest : List Value) → Effect
given_by env None rest = no_rule
given_by env (Some v) rest = gives_or_traps env v rest

-- no i32 is the newest operand
abbrev pub HasNoI32 : List Value → Type 0
HasNoI32 (I32 n ∷ rest) = ⊥
HasNoI32 _ = Unit {0}

-- by the store, locals and operands that are there afterwards
abbrev pub effect_of : Answer → Env → (operands : List Value) → Effect
effect_of answer.Done env operands = gives env operands
effect_of (answer.Calls func) env operands = becomes operands (invoke func)
effect_of (answer.Branches label) env operands = becomes operands (branch label)
effect_of answer.Returns env operands = becomes operands ret
effect_of (answer.Traps t) env operands = traps t
effect_of answer.Stuck env operands = no_rule

-- the store and the locals may have changed
abbrev pub may_change : Answer → Bool
may_change answer.Done = true
may_change answer.Stuck = true
may_change _ = false
