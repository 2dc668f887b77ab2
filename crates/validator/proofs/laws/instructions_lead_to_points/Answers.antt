use Rattle.std.proofs.Common.{[], ◌∷◌, true, refl}
use Rattle.wasm_ast.specs.declared.values.ValType.TheVariants.{I32}
use Rattle.validator.specs.PlaceTypes.{Known}
use Rattle.validator.specs.Worked.{branch_body, arms_body}
use Rattle.validator.proofs.PlacesOfModules.{surely, types_are}
use Rattle.validator.proofs.WorkedPlaces.{worked_leads, worked_may, worked_only, worked_never}
use Rattle.validator.proofs.laws.instructions_lead_to_points.Goals as goal

-- what is known following the branch
abbrev following : Known
following = record {
  labels = (I32 ∷ []) ∷ (I32 ∷ []) ∷ [];
  stacks = record { unreachable = true; types = [] } ∷ surely (I32 ∷ []) ∷ [];
}

pub returns-clause-first : goal.returns-clause-first
returns-clause-first c = worked_leads _ branch_body _ _ refl

pub returns-clause-before_a_block : goal.returns-clause-before_a_block
returns-clause-before_a_block c = worked_leads _ branch_body _ _ refl

pub returns-clause-first_of_a_block : goal.returns-clause-first_of_a_block
returns-clause-first_of_a_block c = worked_leads _ branch_body _ _ refl

pub returns-clause-before_a_branch : goal.returns-clause-before_a_branch
returns-clause-before_a_branch c = worked_leads _ branch_body _ _ refl

pub returns-clause-past_a_branch : goal.returns-clause-past_a_branch
returns-clause-past_a_branch c = λ ts. worked_may _ branch_body _ following _ refl (refl, (tt, ((refl, refl), tt)))

pub returns-clause-past_a_branch_outside : goal.returns-clause-past_a_branch_outside
returns-clause-past_a_branch_outside c = λ ts us h.
    let m = worked_only _ branch_body _ following _ refl h in
    types_are (I32 ∷ []) us m.1.1.0

pub returns-clause-past_a_block : goal.returns-clause-past_a_block
returns-clause-past_a_block c = worked_leads _ branch_body _ _ refl

pub returns-clause-past_the_end : goal.returns-clause-past_the_end
returns-clause-past_the_end c = λ p h. worked_never _ branch_body _ p refl h

pub returns-clause-before_an_if : goal.returns-clause-before_an_if
returns-clause-before_an_if c = worked_leads _ arms_body _ _ refl

pub returns-clause-then_arm : goal.returns-clause-then_arm
returns-clause-then_arm c = worked_leads _ arms_body _ _ refl

pub returns-clause-else_arm : goal.returns-clause-else_arm
returns-clause-else_arm c = worked_leads _ arms_body _ _ refl

pub returns-clause-before_a_loop : goal.returns-clause-before_a_loop
returns-clause-before_a_loop c = worked_leads _ arms_body _ _ refl

pub returns-clause-first_of_a_loop : goal.returns-clause-first_of_a_loop
returns-clause-first_of_a_loop c = worked_leads _ arms_body _ _ refl

pub returns-clause-past_an_if : goal.returns-clause-past_an_if
returns-clause-past_an_if c = worked_leads _ arms_body _ _ refl
