use Rattle.std.proofs.Common.{◌≡◌, drop}
use Rattle.wasm_ast.specs.Types.{func_types}
use Rattle.step_machine.specs.Instantiation.{entry_in}
use Rattle.step_machine.proofs.instantiate.entry_of.Given as goal

abbrev pub invariant-loop-export : goal.invariant-loop-export
invariant-loop-export l =
    entry_in (func_types l.of) l.exports ≡ entry_in (func_types l.of) (drop l.export-index l.exports)
