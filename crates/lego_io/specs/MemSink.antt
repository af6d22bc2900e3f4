-- A sink into memory with room for so many bytes, as its callers see it. Our own choice.
use Rattle.std.specs.Prelude.{ℕ, List, [], ◌++◌}
use Rattle.lego_io.specs.Count.{raised}

pub record Store : Type 0 where
  -- the bytes taken
  pub taken : List ℕ
  -- how many bytes it takes in all
  pub room : ℕ
  -- how many writes were made; it stays at its last value
  pub calls : ℕ
  -- the writes that are to fail, by their numbers from 1
  pub fails : List ℕ
  -- how many writes failed; it stays at its last value
  pub faults : ℕ

-- as a sink begins
abbrev pub store_of : ℕ → List ℕ → Store
store_of room fails = record { taken = []; room = room; calls = 0; fails = fails; faults = 0 }

-- after a write that took these bytes
abbrev pub after_write : Store → List ℕ → Store
after_write s bytes = record s { taken = s.taken ++ bytes; calls = raised s.calls }

-- after a write that failed
abbrev pub after_fault : Store → Store
after_fault s = record s { calls = raised s.calls; faults = raised s.faults }
