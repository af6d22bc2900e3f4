-- What follows about counts.
use Rattle.std.specs.Prelude.{ℕ, ◌-◌, ◌^◌, ◌<◌}
use Rattle.std.proofs.Common.{inl, inr, arith}
use Rattle.std.proofs.lemmas.Bool.{cases_lt}
use Rattle.lego_io.specs.Count.{raised, Rose, NeverFell}

-- a count that was raised rose
pub Rose-raised : (count : ℕ) → count < 2 ^ 64 → Rose count (raised count)
Rose-raised count fits = elim (cases_lt count (2 ^ 64 - 1)) [ inl lt ↦ inl (omega arith) | inr le ↦ inr (omega arith) ]

-- what rose later has risen
pub Rose-after : (a b c : ℕ) → NeverFell a b → Rose b c → Rose a c
Rose-after a b c before (inl lt) = inl (omega arith)
Rose-after a b c before (inr e) = inr e

-- what rose and did not fall has risen
pub Rose-before : (a b c : ℕ) → NeverFell a b → Rose a b → NeverFell b c → Rose a c
Rose-before a b c up (inl lt) after = inl (omega arith)
Rose-before a b c up (inr e) after = elim (cases_lt a c) [ inl lt ↦ inl lt | inr le ↦ inr (omega arith) ]
