use Rattle.std.proofs.Common.{◌≡◌, ◌+◌, ◌^◌, ◌<◌, length, map, string_bytes}
use Rattle.lego_model.specs.SessionText.{at_first, lines_from}
use Rattle.session_text.specs.SessionView.{view_progress}
use Rattle.session_text.proofs.whole_text.all_lines.Given as goal

abbrev pub invariant-loop-progress : goal.invariant-loop-progress
invariant-loop-progress l = record {
  room : l.number + length l.lines < 2 ^ 64;
  same : lines_from (map (λ s. string_bytes s) l.names) l.number (view_progress l.progress) l.lines ≡ lines_from (map (λ s. string_bytes s) l.names) l.first at_first l.initial.lines;
}

abbrev pub decreases-loop-progress : goal.decreases-loop-progress
decreases-loop-progress l = length l.lines
