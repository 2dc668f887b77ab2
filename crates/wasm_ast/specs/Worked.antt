-- A worked sequence: `block i32.const 1 if drop else br 0 end end return`, with its places 0 to 5.
use Rattle.std.specs.Prelude.{[], ◌∷◌}
use Rattle.wasm_ast.specs.declared.values.Value.TheVariants.{I32}
use Rattle.wasm_ast.specs.declared.instr.Simple.TheVariants as instr
use Rattle.wasm_ast.specs.declared.instr.BlockType.TheVariants.{Empty}
use Rattle.wasm_ast.specs.Syntax.{Op, simple, block, if', Ops, ops_of}

abbrev pub inner_if : Op
inner_if = if' Empty (ops_of (simple instr.Drop ∷ [])) (ops_of (simple (instr.Br 0) ∷ []))

abbrev pub outer_block : Op
outer_block = block Empty (ops_of (simple (instr.Const (I32 1)) ∷ inner_if ∷ []))

abbrev pub worked : Ops
worked = ops_of (outer_block ∷ simple instr.Return ∷ [])
