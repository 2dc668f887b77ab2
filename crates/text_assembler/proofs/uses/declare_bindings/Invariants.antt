use Rattle.std.proofs.Common.{◌≡◌, length}
use Rattle.text_assembler.specs.Phrases.{names_of}
use Rattle.text_assembler.specs.Instructions.{declare_all}
use Rattle.text_assembler.proofs.uses.declare_bindings.Given as goal

abbrev pub invariant-loop-rest : goal.invariant-loop-rest
invariant-loop-rest l = declare_all l.ids (names_of l.rest) ≡ declare_all l.initial.ids (names_of l.bindings)

abbrev pub decreases-loop-rest : goal.decreases-loop-rest
decreases-loop-rest l = length l.rest
