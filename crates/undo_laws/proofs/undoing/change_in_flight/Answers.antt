use Rattle.undo_laws.specs.laws.InFlightLaws.{Stands-in_flight, undo-in_flight, used-in_flight, CanRevert-in_flight}
use Rattle.undo_laws.proofs.undoing.change_in_flight.Goals as goal

pub returns-clause-stands : goal.returns-clause-stands
returns-clause-stands c = Stands-in_flight

pub returns-clause-restored : goal.returns-clause-restored
returns-clause-restored c = undo-in_flight

pub returns-clause-used : goal.returns-clause-used
returns-clause-used c = used-in_flight

pub returns-clause-reverted : goal.returns-clause-reverted
returns-clause-reverted c = CanRevert-in_flight
