use Rattle.std.proofs.Common.{refl, [], ◌∷◌, arith}
use Rattle.validator.specs.Worked.{i32_const, func_type, func, with_body}
use Rattle.validator.proofs.FaultLemmas.{body_fault}
use Rattle.validator.proofs.laws.faults_are_where_they_are_named.Goals as goal

pub returns-clause-at_the_end : goal.returns-clause-at_the_end
returns-clause-at_the_end c =
    body_fault (with_body (func_type [] []) [] (i32_const 1 ∷ [])) (record { func = 1; instr = 1 })
    (func 0 [] (i32_const 1 ∷ [])) (func_type [] []) (omega arith, refl) refl refl (omega arith)
