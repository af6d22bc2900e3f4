-- What every part of the engine's work leaves that calls the world, however the part ended. Parts that follow one another leave it together. All
-- of this is our own.
use Rattle.std.specs.Prelude.{ℕ, Result, Ok, OnOk}
use Rattle.outside.specs.Seen.{Seen, Continues}
use Rattle.net_txn.specs.Net.{NetState}
use Rattle.event_dispatch.specs.Steady.{NoStray, Reads, NoPoint}
use Rattle.event_dispatch.specs.Talking.{KeepsTalking}
use Rattle.event_dispatch.specs.Numbers.{GoesOnAscending}

-- The world goes on: what it was given stays, no count falls, and its history grows. No call was a stray one, and none was for another application
-- than the first so many; where the part was done, the host keeps up with the switches. The transaction ids of its
-- own messages ascend.
pub record Passes {Own T E : Type 0} (Tells : Type 0) (number : ℕ) (old new : Seen Own) (net now_net : NetState) (result : Result T E) : Type 0 where
  pub continues : Continues Tells old new
  pub places : NoStray Tells number old new net
  pub reads : OnOk result (Reads Tells old new net now_net)
  pub numbers : GoesOnAscending Tells old new net now_net result

-- and no event was given, and no stimulus begun: the dialogues go on, and no quiescent point lies behind
pub record PassesQuietly {Own T E : Type 0} (Tells : Type 0) (number : ℕ) (old new : Seen Own) (net now_net : NetState) (result : Result T E) : Type 0 where
  pub passes : Passes Tells number old new net now_net result
  pub no_point : NoPoint Tells number old new
  pub talks : KeepsTalking Tells old new

-- ---- So many parts of a loop

-- all of them were done so far
abbrev pub PassesSoFar : {Own : Type 0} → Type 0 → ℕ → Seen Own → Seen Own → NetState → NetState → Type 0
PassesSoFar Tells number old new net now_net = Passes {T = Unit {0}} {E = Unit {0}} Tells number old new net now_net (Ok tt)

abbrev pub PassesQuietlySoFar : {Own : Type 0} → Type 0 → ℕ → Seen Own → Seen Own → NetState → NetState → Type 0
PassesQuietlySoFar Tells number old new net now_net = PassesQuietly {T = Unit {0}} {E = Unit {0}} Tells number old new net now_net (Ok tt)
