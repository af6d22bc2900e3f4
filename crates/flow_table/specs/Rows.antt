-- Which entries a description without a command selects, as statistics do (OpenFlow 1.0.0, 5.3.5 Read State Messages).
use Rattle.std.specs.Prelude.{ℕ, ◌+◌, Bool, ◌&&◌, List, [], ◌∷◌, filter, if◌then◌else◌}
use Rattle.of_match.specs.declared.flow_match.Match.{Match}
use Rattle.match_overlap.specs.Relations.{is_subsuming}
use Rattle.flow_table.specs.declared.entry.Entry.{Entry}
use Rattle.flow_table.specs.Change.{sends_to}

-- the match subsumes that of the entry, and the entry has an OUTPUT to out_port unless that is NONE
unfoldable pub is_selected : Match → ℕ → Entry → Bool
is_selected m out_port e = is_subsuming m e.key.matching && sends_to out_port e.actions

abbrev pub selected : Match → ℕ → List Entry → List Entry
selected m out_port es = filter (is_selected m out_port) es

-- where the entries that pass a test stand, the first at this position
abbrev pub positions_from : ℕ → (Entry → Bool) → List Entry → List ℕ
positions_from i test [] = []
positions_from i test (e ∷ es) = if test e then i ∷ positions_from (i + 1) test es else positions_from (i + 1) test es

unfoldable pub positions : Match → ℕ → List Entry → List ℕ
positions m out_port es = positions_from 0 (is_selected m out_port) es
