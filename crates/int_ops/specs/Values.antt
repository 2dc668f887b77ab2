-- The operators on values (4.4.1).
use Rattle.std.specs.Prelude.{ℕ, Bool, if◌then◌else◌, Result, Ok, Err}
use Rattle.std.specs.Int.{w32, w64}
use Rattle.wasm_ast.specs.declared.trap.Trap.{Trap}
use Rattle.wasm_ast.specs.declared.values.Value.{Value}
use Rattle.wasm_ast.specs.declared.values.Value.TheVariants.{I32, I64}
use Rattle.wasm_ast.specs.declared.operators.UnaryOp.{UnaryOp}
use Rattle.wasm_ast.specs.declared.operators.TestOp.{TestOp}
use Rattle.int_ops.specs.Integers.{unary, test}

-- a truth value: 1 or 0
abbrev pub truth : Bool → Value
truth holds = I32 (if holds then 1 else 0)

abbrev pub unary_value : UnaryOp → Value → Value
unary_value op (I32 a) = I32 (unary w32 op a)
unary_value op (I64 a) = I64 (unary w64 op a)

abbrev pub test_value : TestOp → Value → Value
test_value op (I32 a) = truth (test op a)
test_value op (I64 a) = truth (test op a)

abbrev pub value_32 : Result ℕ Trap → Result Value Trap
value_32 (Ok a) = Ok (I32 a)
value_32 (Err t) = Err t

abbrev pub value_64 : Result ℕ Trap → Result Value Trap
value_64 (Ok a) = Ok (I64 a)
value_64 (Err t) = Err t
