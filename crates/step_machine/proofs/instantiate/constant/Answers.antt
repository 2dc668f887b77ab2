use Rattle.std.proofs.Common.{◌≡◌, List, [], ◌∷◌, map, length, None, refl, ap, ◌∙◌}
use Rattle.wasm_ast.specs.declared.instr.Instr.{Instr}
use Rattle.wasm_ast.specs.declared.instr.Simple.TheVariants as instr
use Rattle.wasm_ast.specs.Syntax.{Op, simple, block, loop, if', Ops, next, ops_of}
use Rattle.wasm_ast.specs.View.{op_of}
use Rattle.step_machine.specs.Instantiation.{constant}
use Rattle.step_machine.proofs.instantiate.constant.Goals as goal

more : (o : Op) (u : Op) (us : Ops) → None ≡ constant (next o (next u us))
more (simple instr.Unreachable) u us = refl
more (simple instr.Nop) u us = refl
more (simple (instr.Br l)) u us = refl
more (simple (instr.BrIf l)) u us = refl
more (simple (instr.BrTable l ls)) u us = refl
more (simple instr.Return) u us = refl
more (simple (instr.Call f)) u us = refl
more (simple (instr.CallIndirect t)) u us = refl
more (simple instr.Drop) u us = refl
more (simple instr.Select) u us = refl
more (simple (instr.Local op i)) u us = refl
more (simple (instr.Global op i)) u us = refl
more (simple (instr.Load op at)) u us = refl
more (simple (instr.Store op at)) u us = refl
more (simple instr.MemorySize) u us = refl
more (simple instr.MemoryGrow) u us = refl
more (simple (instr.Const v)) u us = refl
more (simple (instr.Unary t op)) u us = refl
more (simple (instr.Binary t op)) u us = refl
more (simple (instr.Test t op)) u us = refl
more (simple (instr.Compare t op)) u us = refl
more (simple (instr.Convert op)) u us = refl
more (block t body) u us = refl
more (loop t body) u us = refl
more (if' t first second) u us = refl

-- not one instruction, but several or none
several : (is : List Instr) → (length is ≡ 1 → ⊥) → None ≡ constant (ops_of (map op_of is))
several [] h = refl
several (i ∷ []) h = absurd (h refl)
several (i ∷ j ∷ is) h = more (op_of i) (op_of j) (ops_of (map op_of is))

pub returns-then-instrs-ne1 : goal.returns-then-instrs-ne1
returns-then-instrs-ne1 c =
    several c.as_slice-instrs.result.now c.if-instrs-ne1.true ∙ ap constant c.as_slice-instrs.ensures
