-- The results of operators on two operands, and where there is no rule for operands.
use Rattle.std.proofs.Common.{◌≡◌, ℕ, zero, suc, List, [], ◌∷◌, Option, Some, None, Ok, Err, refl}
use Rattle.std.specs.Prelude.{Result}
use Rattle.wasm_ast.specs.declared.values.Value.{Value}
use Rattle.wasm_ast.specs.declared.values.Value.TheVariants.{I32, I64}
use Rattle.wasm_ast.specs.declared.values.ValType.{ValType}
use Rattle.wasm_ast.specs.declared.values.ValType.TheVariants as type
use Rattle.wasm_ast.specs.declared.trap.Trap.{Trap}
use Rattle.wasm_ast.specs.declared.operators.ConvertOp.{ConvertOp}
use Rattle.int_ops.specs.Values.{value_32, value_64}
use Rattle.step_machine.specs.Effects.{Env, Effect, no_rule, number_of, with_number, take_one, take_two, give_number, convert, select, branch_if}
use Rattle.label_machine.specs.Inside.Effects.{gives_or_traps, HasNoI32}

pub given_32 : (env : Env) (rest : List Value) (r : Result ℕ Trap)
    → give_number env type.I32 r rest ≡ gives_or_traps env (value_32 r) rest
given_32 env rest (Ok n) = refl
given_32 env rest (Err t) = refl

pub given_64 : (env : Env) (rest : List Value) (r : Result ℕ Trap)
    → give_number env type.I64 r rest ≡ gives_or_traps env (value_64 r) rest
given_64 env rest (Ok n) = refl
given_64 env rest (Err t) = refl

-- ---- no rule

pub nowhere : (o : Option ℕ) → with_number o (λ n. no_rule) ≡ no_rule
nowhere None = refl
nowhere (Some n) = refl

-- one operand is there, and two are taken
pub one_of_two :
    (t : ValType) (v : Value) (go_on : ℕ → ℕ → List Value → Effect) → take_two t (v ∷ []) go_on ≡ no_rule
one_of_two t v go_on = nowhere (number_of t v)

-- no i32 is there
pub takes_none :
    (vs : List Value) → HasNoI32 vs → (go_on : ℕ → List Value → Effect) → take_one type.I32 vs go_on ≡ no_rule
takes_none [] h go_on = refl
takes_none (I32 n ∷ vs) h go_on = absurd h
takes_none (I64 n ∷ vs) h go_on = refl

pub converts_none : (env : Env) (op : ConvertOp) → convert env [] op ≡ no_rule
converts_none env op = refl

pub selects_by_none : (env : Env) (vs : List Value) → HasNoI32 vs → select env vs ≡ no_rule
selects_by_none env [] h = refl
selects_by_none env (I32 n ∷ vs) h = absurd h
selects_by_none env (I64 n ∷ vs) h = refl

pub selects_of_none : (env : Env) (c : ℕ) → select env (I32 c ∷ []) ≡ no_rule
selects_of_none env zero = refl
selects_of_none env (suc c) = refl

pub selects_of_one : (env : Env) (c : ℕ) (v : Value) → select env (I32 c ∷ v ∷ []) ≡ no_rule
selects_of_one env zero v = refl
selects_of_one env (suc c) v = refl

pub branches_by_none : (env : Env) (vs : List Value) (label : ℕ) → HasNoI32 vs → branch_if env vs label ≡ no_rule
branches_by_none env [] label h = refl
branches_by_none env (I32 n ∷ vs) label h = absurd h
branches_by_none env (I64 n ∷ vs) label h = refl
