-- What is seen of a world in which nothing happens.
use Rattle.std.specs.Prelude.{ℕ, false, []}
use Rattle.outside.specs.Seen.{Counts, Seen}

-- each count is this one
abbrev pub all_counts : ℕ → Counts
all_counts n = record {
  shuts = n;
  next_faults = n;
  starts_failed = n;
  closings = n;
  silences = n;
  link_faults = λ d. n;
  shorts = n;
  shorts_of = λ d. n;
  strays = n;
}

abbrev pub mute_seen : ℕ → Seen (Unit {0})
mute_seen faults = record {
  given = record { declared = []; stimuli = []; fails = []; own = tt; shows = false };
  history = [];
  counts = all_counts faults;
}
