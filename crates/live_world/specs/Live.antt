-- What is seen of a live world: its counts alone. It tells nothing. Our own choice.
use Rattle.std.specs.Prelude.{false, []}
use Rattle.outside.specs.Seen.{Counts, Seen}
use Rattle.live_world.specs.declared.counts.FaultCounts.{FaultCounts}
use Rattle.live_world.specs.Faults.{link_faults_of, shorts_of}

abbrev pub live_counts : FaultCounts → Counts
live_counts counts = record {
  shuts = counts.shuts;
  next_faults = counts.next_faults;
  starts_failed = counts.starts_failed;
  closings = counts.closings;
  silences = counts.silences;
  link_faults = link_faults_of counts;
  shorts = counts.shorts;
  shorts_of = shorts_of counts;
  strays = 0;
}

abbrev pub live_seen : FaultCounts → Seen (Unit {0})
live_seen counts = record {
  given = record { declared = []; stimuli = []; fails = []; own = tt; shows = false };
  history = [];
  counts = live_counts counts;
}
