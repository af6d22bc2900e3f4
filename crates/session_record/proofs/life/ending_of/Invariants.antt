use Rattle.std.proofs.Common.{◌≡◌, drop}
use Rattle.lego_model.specs.Journal.{Untold}
use Rattle.session_record.specs.Deeds.{deeds_in, end_from}
use Rattle.session_record.specs.Ends.{end_in}
use Rattle.session_record.proofs.life.ending_of.Given as goal

abbrev pub invariant-loop-kept : goal.invariant-loop-kept
invariant-loop-kept l = end_from (end_in l.ending) (deeds_in l._bytes (drop l.kept-index l.deeds)) ≡ end_from Untold (deeds_in l._bytes l.deeds)
