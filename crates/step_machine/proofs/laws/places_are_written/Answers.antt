use Rattle.step_machine.proofs.WrittenPlaces.{is_written}
use Rattle.step_machine.proofs.laws.places_are_written.Goals as goal

pub returns : goal.returns
returns c m p n t x is next_is = is_written m p n t x is next_is
