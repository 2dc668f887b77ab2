use Rattle.std.proofs.Common.{◌≡◌, ◌+◌, ◌*◌, map, drop}
use Rattle.wasm_ast.specs.Syntax.{count, ops_count, ops_of}
use Rattle.wasm_ast.specs.View.{op_of}
use Rattle.validator.specs.Inside.PlaceWalk.{past}
use Rattle.validator.proofs.places.+past.Given as goal

abbrev pub decreases-past_instr : goal.decreases-past_instr
decreases-past_instr l = 4 * count (op_of l.instr.now)

abbrev pub decreases-past_body : goal.decreases-past_body
decreases-past_body l = 4 * ops_count l.body.now + 2

abbrev pub decreases-past_instrs : goal.decreases-past_instrs
decreases-past_instrs l = 4 * ops_count (ops_of (map op_of l.instrs.now)) + 1

-- the place is as far from the end as what is left of it is
abbrev pub invariant-past_instrs-loop-instr : goal.invariant-past_instrs-loop-instr
invariant-past_instrs-loop-instr l =
    past (ops_count (ops_of (map op_of (drop l.instr-index l.instrs)))) l.left
    ≡ past (ops_count (ops_of (map op_of l.instrs))) l.fn.place
