-- Laws of what every part of the engine's work leaves: where nothing was done, and where parts follow one another.
use Rattle.std.specs.Prelude.{◌≡◌, ℕ, List, length, Result, Ok, Err, OnOk, IsErr, IsErrAnd, MatchResult, refl}
use Rattle.std.proofs.Common.{sym, ap, subst, true≢false}
use Rattle.checkpoint_store.specs.Slots.{Slot}
use Rattle.outside.specs.Seen.{Seen}
use Rattle.outside.specs.laws.SeenLaws.{Continues-refl, Continues-trans}
use Rattle.net_txn.specs.Net.{NetState}
use Rattle.net_txn.specs.LinkSteps.{OnLinks}
use Rattle.event_dispatch.specs.declared.engine_core.Core.{Core}
use Rattle.event_dispatch.specs.Runs.{Waits}
use Rattle.event_dispatch.specs.Passes.{Passes, PassesQuietly, PassesSoFar, PassesQuietlySoFar}
use Rattle.event_dispatch.specs.laws.NumberLaws.{same_numbers, end_none, end_done, numbers_end, numbers_failed, numbers_then, numbers_as}
use Rattle.event_dispatch.specs.laws.SteadyLaws.{places_none, places_then, places_number, reads_none, reads_then, reads_as, quietly_none, quietly_then, quietly_number}
use Rattle.event_dispatch.specs.laws.DispatchStrayLaws.{links_quietly}
use Rattle.event_dispatch.specs.laws.TalkingLaws.{keeps_none, keeps_then, keeps_links}

-- ---- How a part ended

-- where it failed, nothing is owed that is so where it is done
pub if_failed : {T E : Type 0} (P : Type 0) (result : Result T E) → IsErr result → OnOk result P
if_failed P (Ok x) is = absurd (true≢false (sym is))
if_failed P (Err fault) is = tt

-- what is so of its fault is so of how it ended
pub at_fault : {T E : Type 0} (Done : T → Type 0) (Failed : E → Type 0) (fault : E) (result : Result T E) → IsErrAnd result (λ e. e ≡ fault) → Failed fault
    → MatchResult result Done Failed
at_fault Done Failed fault (Ok x) is failed = absurd is
at_fault Done Failed fault (Err e) is failed = subst Failed (sym is) failed

-- what follows where it was done, and where it failed
pub match_weaker : {T E : Type 0} {Done Then : T → Type 0} {Failed Left : E → Type 0} (result : Result T E) → MatchResult result Done Failed
    → ((x : T) → Done x → Then x) → ((e : E) → Failed e → Left e) → MatchResult result Then Left
match_weaker (Ok x) is then left = then x is
match_weaker (Err e) is then left = left e is

-- ---- No event was dispatched

pub waits_none : (c : Core) → Waits c c
waits_none c = record { room = refl; events = refl; store = refl; left = λ none. none }

-- there are as many checkpoints
same_store : {c now_c : Core} → Waits c now_c → length now_c.store ≡ length c.store
same_store waits = ap (λ (slots : List Slot). length slots) waits.store

-- ---- Parts that call the world

-- the same switches have views, and no transaction id was taken
pub record SameNext (net now_net : NetState) : Type 0 where
  pub views : now_net.views ≡ net.views
  pub xid : now_net.xid ≡ net.xid

pub same_next : (net : NetState) → SameNext net net
same_next net = record { views = refl; xid = refl }

pub next_of : {net now_net : NetState} → now_net ≡ net → SameNext net now_net
next_of same = record { views = ap (λ (n : NetState). n.views) same; xid = ap (λ (n : NetState). n.xid) same }

-- nothing was done: however the part ended, the same switches have views
pub passes_none : {Own T E : Type 0} {number : ℕ} (Tells : Type 0) (seen : Seen Own) (net now_net : NetState) (result : Result T E)
    → SameNext net now_net → Passes Tells number seen seen net now_net result
passes_none Tells seen net now_net (Ok x) same = record {
  continues = Continues-refl Tells seen;
  places = places_none Tells seen net;
  reads = reads_none Tells seen net now_net same.views;
  numbers = same_numbers Tells seen net now_net same.xid;
}
passes_none Tells seen net now_net (Err fault) same = record {
  continues = Continues-refl Tells seen;
  places = places_none Tells seen net;
  reads = tt;
  numbers = end_none Tells seen net;
}

-- and where it failed, whatever is kept now
pub passes_not : {Own T E : Type 0} {number : ℕ} (Tells : Type 0) (seen : Seen Own) (net now_net : NetState) (result : Result T E)
    → IsErr result → Passes Tells number seen seen net now_net result
passes_not Tells seen net now_net result failed = record {
  continues = Continues-refl Tells seen;
  places = places_none Tells seen net;
  reads = if_failed _ result failed;
  numbers = numbers_failed now_net.xid result failed (end_none Tells seen net);
}

-- a part that was done, and then another, however that ended
pub passes_then : {Own A F T E Tells : Type 0} {number : ℕ} {old mid new : Seen Own} {net mid_net now_net : NetState} {x : A} {result : Result T E}
    → Passes {T = A} {E = F} Tells number old mid net mid_net (Ok x) → Passes Tells number mid new mid_net now_net result
    → Passes Tells number old new net now_net result
passes_then {Tells = Tells} {old = old} {mid = mid} {new = new} {net = net} {mid_net = mid_net} {now_net = now_net} {result = Ok y} first second = record {
  continues = Continues-trans Tells old mid new first.continues second.continues;
  places = places_then old mid new net mid_net first.continues second.continues first.places first.reads second.places;
  reads = reads_then old mid new net mid_net now_net first.continues second.continues first.reads second.reads;
  numbers = numbers_then second.continues first.reads first.numbers second.numbers;
}
passes_then {Tells = Tells} {old = old} {mid = mid} {new = new} {net = net} {mid_net = mid_net} {result = Err fault} first second = record {
  continues = Continues-trans Tells old mid new first.continues second.continues;
  places = places_then old mid new net mid_net first.continues second.continues first.places first.reads second.places;
  reads = tt;
  numbers = numbers_then second.continues first.reads first.numbers second.numbers;
}

-- a part that failed, and with it the whole
pub passes_fails : {Own A F T E Tells : Type 0} {number : ℕ} {old new : Seen Own} {net mid_net : NetState} {first : Result A F} (now_net : NetState) (result : Result T E)
    → Passes Tells number old new net mid_net first → IsErr result → Passes Tells number old new net now_net result
passes_fails {mid_net = mid_net} {first = ended} now_net result first failed = record {
  continues = first.continues;
  places = first.places;
  reads = if_failed _ result failed;
  numbers = numbers_failed now_net.xid result failed (numbers_end mid_net ended first.numbers);
}

-- a part that was done, behind which the world was not called: the same switches have views
pub passes_as : {Own A F T E Tells : Type 0} {number : ℕ} {old new : Seen Own} {net mid_net : NetState} {x : A} (now_net : NetState) (result : Result T E)
    → Passes {T = A} {E = F} Tells number old new net mid_net (Ok x) → SameNext mid_net now_net → Passes Tells number old new net now_net result
passes_as {Tells = Tells} {old = old} {new = new} {net = net} {mid_net = mid_net} now_net (Ok y) first same = record {
  continues = first.continues;
  places = first.places;
  reads = reads_as Tells old new net mid_net now_net same.views first.reads;
  numbers = numbers_as mid_net now_net first.numbers same.xid;
}
passes_as {mid_net = mid_net} now_net (Err fault) first same = record {
  continues = first.continues;
  places = first.places;
  reads = tt;
  numbers = end_done mid_net first.numbers;
}

-- of as many applications
pub passes_number : {Own T E Tells : Type 0} {old new : Seen Own} {net now_net : NetState} {result : Result T E} (n m : ℕ) → m ≡ n
    → Passes Tells m old new net now_net result → Passes Tells n old new net now_net result
passes_number n m same all = record { continues = all.continues; places = places_number n m same all.places; reads = all.reads; numbers = all.numbers }

pub passes_waits : {Own T E Tells : Type 0} {old new : Seen Own} {net now_net : NetState} {result : Result T E} {c now_c : Core} → Waits c now_c
    → Passes Tells (length now_c.store) old new net now_net result → Passes Tells (length c.store) old new net now_net result
passes_waits {c = c} {now_c = now_c} waits all = passes_number (length c.store) (length now_c.store) (same_store waits) all

-- in a loop: no part was done yet, and one more
pub so_far_none : {Own : Type 0} {number : ℕ} (Tells : Type 0) (seen : Seen Own) (net : NetState) → PassesSoFar Tells number seen seen net net
so_far_none Tells seen net = passes_none Tells seen net net (Ok tt) (same_next net)

pub so_far : {Own T E Tells : Type 0} {number : ℕ} {old new : Seen Own} {net now_net : NetState} {x : T}
    → Passes {T = T} {E = E} Tells number old new net now_net (Ok x) → PassesSoFar Tells number old new net now_net
so_far all = record { continues = all.continues; places = all.places; reads = all.reads; numbers = all.numbers }

pub so_far_then : {Own T E Tells : Type 0} {number : ℕ} {old mid new : Seen Own} {net mid_net now_net : NetState} {x : T}
    → PassesSoFar Tells number old mid net mid_net → Passes {T = T} {E = E} Tells number mid new mid_net now_net (Ok x)
    → PassesSoFar Tells number old new net now_net
so_far_then first second = passes_then first (so_far second)

-- ---- Parts that give no event and begin no stimulus

pub quiet_none : {Own T E : Type 0} {number : ℕ} (Tells : Type 0) (seen : Seen Own) (net now_net : NetState) (result : Result T E) → SameNext net now_net
    → PassesQuietly Tells number seen seen net now_net result
quiet_none Tells seen net now_net result same = record { passes = passes_none Tells seen net now_net result same; no_point = quietly_none Tells seen; talks = keeps_none Tells seen }

pub quiet_not : {Own T E : Type 0} {number : ℕ} (Tells : Type 0) (seen : Seen Own) (net now_net : NetState) (result : Result T E)
    → IsErr result → PassesQuietly Tells number seen seen net now_net result
quiet_not Tells seen net now_net result failed = record { passes = passes_not Tells seen net now_net result failed; no_point = quietly_none Tells seen; talks = keeps_none Tells seen }

pub quiet_then : {Own A F T E Tells : Type 0} {number : ℕ} {old mid new : Seen Own} {net mid_net now_net : NetState} {x : A} {result : Result T E}
    → PassesQuietly {T = A} {E = F} Tells number old mid net mid_net (Ok x) → PassesQuietly Tells number mid new mid_net now_net result
    → PassesQuietly Tells number old new net now_net result
quiet_then {Tells = Tells} {old = old} {mid = mid} {new = new} first second = record {
  passes = passes_then first.passes second.passes;
  no_point = quietly_then Tells old mid new first.no_point second.no_point;
  talks = keeps_then Tells old mid new first.talks second.talks;
}

pub quiet_fails : {Own A F T E Tells : Type 0} {number : ℕ} {old new : Seen Own} {net mid_net : NetState} {first : Result A F} (now_net : NetState) (result : Result T E)
    → PassesQuietly Tells number old new net mid_net first → IsErr result → PassesQuietly Tells number old new net now_net result
quiet_fails now_net result first failed = record { passes = passes_fails now_net result first.passes failed; no_point = first.no_point; talks = first.talks }

pub quiet_as : {Own A F T E Tells : Type 0} {number : ℕ} {old new : Seen Own} {net mid_net : NetState} {x : A} (now_net : NetState) (result : Result T E)
    → PassesQuietly {T = A} {E = F} Tells number old new net mid_net (Ok x) → SameNext mid_net now_net
    → PassesQuietly Tells number old new net now_net result
quiet_as now_net result first same = record { passes = passes_as now_net result first.passes same; no_point = first.no_point; talks = first.talks }

pub quiet_number : {Own T E Tells : Type 0} {old new : Seen Own} {net now_net : NetState} {result : Result T E} (n m : ℕ) → m ≡ n
    → PassesQuietly Tells m old new net now_net result → PassesQuietly Tells n old new net now_net result
quiet_number n m same all = record { passes = passes_number n m same all.passes; no_point = quietly_number n m same all.no_point; talks = all.talks }

pub quiet_waits : {Own T E Tells : Type 0} {old new : Seen Own} {net now_net : NetState} {result : Result T E} {c now_c : Core} → Waits c now_c
    → PassesQuietly Tells (length now_c.store) old new net now_net result → PassesQuietly Tells (length c.store) old new net now_net result
quiet_waits {c = c} {now_c = now_c} waits all = quiet_number (length c.store) (length now_c.store) (same_store waits) all

pub quiet_so_far_none : {Own : Type 0} {number : ℕ} (Tells : Type 0) (seen : Seen Own) (net : NetState) → PassesQuietlySoFar Tells number seen seen net net
quiet_so_far_none Tells seen net = quiet_none Tells seen net net (Ok tt) (same_next net)

pub quiet_so_far : {Own T E Tells : Type 0} {number : ℕ} {old new : Seen Own} {net now_net : NetState} {x : T}
    → PassesQuietly {T = T} {E = E} Tells number old new net now_net (Ok x) → PassesQuietlySoFar Tells number old new net now_net
quiet_so_far all = record { passes = so_far all.passes; no_point = all.no_point; talks = all.talks }

pub quiet_so_far_then : {Own T E Tells : Type 0} {number : ℕ} {old mid new : Seen Own} {net mid_net now_net : NetState} {x : T}
    → PassesQuietlySoFar Tells number old mid net mid_net → PassesQuietly {T = T} {E = E} Tells number mid new mid_net now_net (Ok x)
    → PassesQuietlySoFar Tells number old new net now_net
quiet_so_far_then first second = quiet_then first (quiet_so_far second)

-- links alone were used
pub quiet_links : {Own T E Tells : Type 0} {number : ℕ} {old new : Seen Own} {net now_net : NetState} {result : Result T E}
    → Passes Tells number old new net now_net result → OnLinks Tells old new → PassesQuietly Tells number old new net now_net result
quiet_links {Tells = Tells} {old = old} {new = new} all links = record { passes = all; no_point = links_quietly links; talks = keeps_links Tells old new links }
