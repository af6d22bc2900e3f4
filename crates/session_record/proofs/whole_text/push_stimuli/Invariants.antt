use Rattle.std.proofs.Common.{string_bytes}
use Rattle.outside.specs.Seen.{Shown}
use Rattle.session_record.specs.Texts.{FirstTold}
use Rattle.session_record.proofs.whole_text.push_stimuli.Given as goal

abbrev pub invariant-loop-number : goal.invariant-loop-number
invariant-loop-number g l = FirstTold (Shown g.W.World.Tells (g.W.World.seen l.world)) (g.W.World.seen l.world) l.number (string_bytes l.fn.out) (string_bytes l.out)
