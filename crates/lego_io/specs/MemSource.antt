-- A source over bytes in memory, as its callers see it. Our own choice.
use Rattle.std.specs.Prelude.{ℕ, List, drop}
use Rattle.lego_io.specs.Count.{raised}

pub record Supply : Type 0 where
  -- the bytes that are left
  pub left : List ℕ
  -- how many reads were made; it stays at its last value
  pub calls : ℕ
  -- the reads that are to fail, by their numbers from 1
  pub fails : List ℕ
  -- how many reads failed; it stays at its last value
  pub faults : ℕ

-- as a source begins
abbrev pub supply_of : List ℕ → List ℕ → Supply
supply_of bytes fails = record { left = bytes; calls = 0; fails = fails; faults = 0 }

-- after a read that moved n bytes
abbrev pub after_read : Supply → ℕ → Supply
after_read s n = record s { left = drop n s.left; calls = raised s.calls }

-- after a read that failed
abbrev pub after_fault : Supply → Supply
after_fault s = record s { calls = raised s.calls; faults = raised s.faults }
