-- Sequences of two instructions or more are no constant expressions.
use Rattle.std.proofs.Common.{◌≡◌, ◌≤◌, List, [], ◌∷◌, length, map, false, refl, ap, ◌∙◌, arith}
use Rattle.wasm_ast.specs.declared.values.ValType.{ValType}
use Rattle.wasm_ast.specs.declared.instr.Instr.{Instr}
use Rattle.wasm_ast.specs.declared.instr.Simple.TheVariants as instr
use Rattle.wasm_ast.specs.Syntax.{Op, simple, Ops, next, ops_of}
use Rattle.wasm_ast.specs.View.{op_of}
use Rattle.validator.specs.Inside.ModuleTests.{is_constant}

longer : (t : ValType) (o p : Op) (os : Ops) → false ≡ is_constant t (next o (next p os))
longer t (simple (instr.Const value)) p os = refl
longer t _ p os = refl

pub no_constant :
    (t : ValType) (is : List Instr) (os : Ops) → 2 ≤ length is → ops_of (map op_of is) ≡ os → false ≡ is_constant t os
no_constant t [] os h same = absurd (omega arith)
no_constant t (i ∷ []) os h same = absurd (omega arith)
no_constant t (i ∷ j ∷ is) os h same = longer t (op_of i) (op_of j) (ops_of (map op_of is)) ∙ ap (is_constant t) same
