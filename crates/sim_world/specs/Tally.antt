-- The counts of a simulated world as data. How often a link failed, and a call of it wanted memory, is kept for each declared switch;
-- for any other number each such call is out of place or wants memory too, and their counts stand for it.
use Rattle.std.specs.Prelude.{◌≡◌, ◌==◌, ℕ, ◌-◌, ◌^◌, ◌≤◌, Bool, List, [], ◌∷◌, map, All, if◌then◌else◌}
use Rattle.std.specs.List.{list_any}
use Rattle.lego_io.specs.Count.{raised}
use Rattle.flow_table.specs.Switch.{Declared}
use Rattle.outside.specs.Seen.{Counts, is_declared}

pub record LinkCounts : Type 0 where
  pub dpid : ℕ
  pub faults : ℕ
  pub shorts : ℕ

pub record TallyState : Type 0 where
  pub shuts : ℕ
  pub next_faults : ℕ
  pub starts_failed : ℕ
  pub closings : ℕ
  pub silences : ℕ
  pub shorts : ℕ
  pub strays : ℕ
  pub links : List LinkCounts

-- a count of the switch of this number, or what stands for one that is not there
abbrev pub count_at : (LinkCounts → ℕ) → ℕ → ℕ → List LinkCounts → ℕ
count_at count other d [] = other
count_at count other d (l ∷ ls) = if l.dpid == d then count l else count_at count other d ls

unfoldable pub counts_of : TallyState → Counts
counts_of t = record {
  shuts = t.shuts;
  next_faults = t.next_faults;
  starts_failed = t.starts_failed;
  closings = t.closings;
  silences = t.silences;
  link_faults = λ d. count_at (λ l. l.faults) t.strays d t.links;
  shorts = t.shorts;
  shorts_of = λ d. count_at (λ l. l.shorts) t.shorts d t.links;
  strays = t.strays;
}

-- ---- Changes

-- the counts of one switch change
abbrev pub counts_at : ℕ → (LinkCounts → LinkCounts) → List LinkCounts → List LinkCounts
counts_at d change ls = map (λ l. if l.dpid == d then change l else l) ls

abbrev pub one_fault : LinkCounts → LinkCounts
one_fault l = record l { faults = raised l.faults }

abbrev pub one_short : LinkCounts → LinkCounts
one_short l = record l { shorts = raised l.shorts }

abbrev pub tally_stray : Bool → TallyState → TallyState
tally_stray stray t = record t { strays = if stray then raised t.strays else t.strays }

abbrev pub tally_short : TallyState → TallyState
tally_short t = record t { shorts = raised t.shorts }

abbrev pub tally_short_of : ℕ → TallyState → TallyState
tally_short_of d t = record t { shorts = raised t.shorts; links = counts_at d one_short t.links }

abbrev pub tally_fault_of : ℕ → TallyState → TallyState
tally_fault_of d t = record t { links = counts_at d one_fault t.links }

-- ---- Switches

abbrev pub last_count : ℕ
last_count = 2 ^ 64 - 1

-- each count fits into 64 bits
pub record IsTally (t : TallyState) : Type 0 where
  pub shuts : t.shuts ≤ last_count
  pub next_faults : t.next_faults ≤ last_count
  pub starts_failed : t.starts_failed ≤ last_count
  pub closings : t.closings ≤ last_count
  pub silences : t.silences ≤ last_count
  pub shorts : t.shorts ≤ last_count
  pub strays : t.strays ≤ last_count
  pub links : All (λ l. (l.faults ≤ last_count) × (l.shorts ≤ last_count)) t.links

-- it counts for these switches
pub record CountsFor (declared : List Declared) (t : TallyState) : Type 0 where
  pub switches : (d : ℕ) → list_any (λ l. l.dpid == d) t.links ≡ is_declared d declared
  pub within : IsTally t

abbrev pub no_counts : TallyState
no_counts = record { shuts = 0; next_faults = 0; starts_failed = 0; closings = 0; silences = 0; shorts = 0; strays = 0; links = [] }

abbrev pub none_of : ℕ → LinkCounts
none_of d = record { dpid = d; faults = 0; shorts = 0 }
