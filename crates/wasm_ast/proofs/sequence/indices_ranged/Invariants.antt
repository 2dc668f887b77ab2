use Rattle.std.proofs.Common.{All, drop}
use Rattle.wasm_ast.specs.Ranged.{IsU32}
use Rattle.wasm_ast.proofs.sequence.indices_ranged.Given as goal

-- all are in range if the rest of them are
abbrev pub invariant-loop-index : goal.invariant-loop-index
invariant-loop-index l = All IsU32 (drop l.index-index l.indices) → All IsU32 l.indices
