use Rattle.std.proofs.Common.{◌≡◌, ◌≤◌, length, drop}
use Rattle.session_record.specs.Deeds.{deeds_in}
use Rattle.session_record.specs.Recording.{behind_answered}
use Rattle.session_record.proofs.life.behind_answered.Given as goal

abbrev pub invariant-loop-kept : goal.invariant-loop-kept
invariant-loop-kept l =
    (behind_answered l.life l.at (deeds_in l._bytes (drop l.kept-index l.deeds)) ≡ behind_answered l.life l.fn.at (deeds_in l._bytes l.deeds)) × (l.at ≤ length l.life)
