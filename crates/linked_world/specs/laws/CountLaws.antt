-- Laws of counts that are kept in two places.
use Rattle.std.specs.Prelude.{◌≡◌, ℕ, ◌-◌, ◌^◌, Bool, true, false, List, refl}
use Rattle.std.proofs.Common.{ap, arith, inl, inr}
use Rattle.std.proofs.lemmas.Bool.{cases_lt}
use Rattle.lego_io.specs.Count.{raised, Rose, NeverFell}
use Rattle.flow_table.specs.Switch.{Declared}
use Rattle.outside.specs.Seen.{Counts, NoneFell, AreCounts, with_stray, with_short, with_short_of}
use Rattle.linked_world.specs.Linked.{AppCounts, total, with_apps}

-- ---- One count

pub total-raised : (a b : ℕ) → total (raised a) b ≡ raised (total a b)
total-raised a b = omega arith

pub total-raised_own : (a b : ℕ) → total a (raised b) ≡ raised (total a b)
total-raised_own a b = omega arith

pub total-NeverFell : (a b c d : ℕ) → NeverFell a b → NeverFell c d → NeverFell (total a c) (total b d)
total-NeverFell a b c d up down = omega arith

pub total-Rose : (a b c : ℕ) → Rose a b → Rose (total a c) (total b c)
total-Rose a b c (inl lt) = elim (cases_lt (total a c) (2 ^ 64 - 1)) [ inl less ↦ inl (omega arith) | inr le ↦ inr (omega arith) ]
total-Rose a b c (inr e) = inr (omega arith)

pub total-Rose_own : (a b c : ℕ) → Rose b c → Rose (total a b) (total a c)
total-Rose_own a b c (inl lt) = elim (cases_lt (total a b) (2 ^ 64 - 1)) [ inl less ↦ inl (omega arith) | inr le ↦ inr (omega arith) ]
total-Rose_own a b c (inr e) = inr (omega arith)

-- ---- All counts

pub NoneFell-apps : (apps : AppCounts) (old new : Counts) → NoneFell old new → NoneFell (with_apps apps old) (with_apps apps new)
NoneFell-apps apps old new fell = record {
  shuts = fell.shuts;
  next_faults = fell.next_faults;
  starts_failed = omega arith;
  closings = omega arith;
  silences = omega arith;
  link_faults = fell.link_faults;
  shorts = total-NeverFell old.shorts new.shorts apps.shorts apps.shorts fell.shorts (omega arith);
  shorts_of = fell.shorts_of;
  strays = total-NeverFell old.strays new.strays apps.strays apps.strays fell.strays (omega arith);
}

-- no count of applications fell
pub record NoAppFell (old new : AppCounts) : Type 0 where
  pub starts_failed : NeverFell old.starts_failed new.starts_failed
  pub closings : NeverFell old.closings new.closings
  pub silences : NeverFell old.silences new.silences
  pub shorts : NeverFell old.shorts new.shorts
  pub strays : NeverFell old.strays new.strays

pub NoneFell-own : (old new : AppCounts) (c : Counts) → NoAppFell old new → NoneFell (with_apps old c) (with_apps new c)
NoneFell-own old new c fell = record {
  shuts = omega arith;
  next_faults = omega arith;
  starts_failed = fell.starts_failed;
  closings = fell.closings;
  silences = fell.silences;
  link_faults = λ d. omega arith;
  shorts = total-NeverFell c.shorts c.shorts old.shorts new.shorts (omega arith) fell.shorts;
  shorts_of = λ d. omega arith;
  strays = total-NeverFell c.strays c.strays old.strays new.strays (omega arith) fell.strays;
}

-- Counts of the other world are as expected where the expected ones differ from those before as this world's do.
pub AreCounts-apps : (declared : List Declared) (apps : AppCounts) (expected counts : Counts) → AreCounts declared expected counts → AreCounts declared (with_apps apps expected) (with_apps apps counts)
AreCounts-apps declared apps expected counts are = record {
  shuts = are.shuts;
  next_faults = are.next_faults;
  starts_failed = refl;
  closings = refl;
  silences = refl;
  link_faults = are.link_faults;
  shorts = ap (λ (n : ℕ). total n apps.shorts) are.shorts;
  shorts_of = are.shorts_of;
  strays = ap (λ (n : ℕ). total n apps.strays) are.strays;
}

-- what a call counts, it counts in this world too
pub stray-apps : (stray : Bool) (apps : AppCounts) (c : Counts) → with_apps apps (with_stray stray c) ≡ with_stray stray (with_apps apps c)
stray-apps true apps c = ap (λ (n : ℕ). record (with_apps apps c) { strays = n }) (total-raised c.strays apps.strays)
stray-apps false apps c = refl

pub short-apps : (apps : AppCounts) (c : Counts) → with_apps apps (with_short c) ≡ with_short (with_apps apps c)
short-apps apps c = ap (λ (n : ℕ). record (with_apps apps c) { shorts = n }) (total-raised c.shorts apps.shorts)

pub short_of-apps : (d : ℕ) (apps : AppCounts) (c : Counts) → with_apps apps (with_short_of d c) ≡ with_short_of d (with_apps apps c)
short_of-apps d apps c = ap (λ (n : ℕ). record (with_apps apps (with_short_of d c)) { shorts = n }) (total-raised c.shorts apps.shorts)

pub AreCounts-refl : (declared : List Declared) (c : Counts) → AreCounts declared c c
AreCounts-refl declared c = record {
  shuts = refl;
  next_faults = refl;
  starts_failed = refl;
  closings = refl;
  silences = refl;
  link_faults = λ d is. refl;
  shorts = refl;
  shorts_of = λ d is. refl;
  strays = refl;
}

pub AreCounts-same : (declared : List Declared) (expected counts : Counts) → counts ≡ expected → AreCounts declared expected counts
AreCounts-same declared expected counts same = rw same (AreCounts-refl declared expected)
