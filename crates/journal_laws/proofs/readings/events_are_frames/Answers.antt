use Rattle.journal_laws.specs.laws.FrameLaws.{event_is, answer_is_none, restore_is_none}
use Rattle.journal_laws.proofs.readings.events_are_frames.Goals as goal

pub returns : goal.returns
returns c = record { event = event_is; answer = answer_is_none; restore = restore_is_none }
