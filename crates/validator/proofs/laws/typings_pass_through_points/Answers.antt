use Rattle.validator.proofs.PlacesOfModules.{passes_leads, some_passes}
use Rattle.validator.proofs.WorkedPlaces.{before_sum, before_sum_only}
use Rattle.validator.proofs.PlaceExact.{passes_typed}
use Rattle.validator.proofs.laws.typings_pass_through_points.Goals as goal

pub returns-clause-leads : goal.returns-clause-leads
returns-clause-leads c = passes_leads

pub returns-clause-each_place : goal.returns-clause-each_place
returns-clause-each_place c = some_passes

pub returns-clause-typed : goal.returns-clause-typed
returns-clause-typed c = λ m func place p h.
    (h.0, h.1, h.2, passes_typed _ _ _ _ _ place p h.4)

pub returns-clause-before_the_sum : goal.returns-clause-before_the_sum
returns-clause-before_the_sum c = before_sum

pub returns-clause-without_an_operand : goal.returns-clause-without_an_operand
returns-clause-without_an_operand c = before_sum_only
