use Rattle.std.proofs.Common.{◌≡◌, ◌-◌}
use Rattle.text_assembler.specs.Instructions.{exponent_from}
use Rattle.text_assembler.proofs.plain.exponent.Given as goal

abbrev pub invariant-loop-k : goal.invariant-loop-k
invariant-loop-k l = exponent_from (32 - l.k) l.k l.number ≡ exponent_from 32 0 l.number
