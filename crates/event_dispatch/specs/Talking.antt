-- What goes on with the dialogue with each application, in a world that tells: its journal was one, and it is one still; and whether an event
-- is given in it. All of this is our own.
use Rattle.std.specs.Prelude.{◌≡◌, ◌<◌, ℕ, true, List, length}
use Rattle.outside.specs.Seen.{Seen, journal}
use Rattle.lego_model.specs.AtOnce.{Passes, AtOnce}
use Rattle.run_laws.specs.Engine.{Engine, EachFrom}
use Rattle.run_laws.specs.Moves.{IsAtRest}
use Rattle.lego_model.specs.AfterFault.{NoEventSince}

-- whatever it was, but no turn: no event was given
pub record KeepsTalking {Own : Type 0} (Tells : Type 0) (old new : Seen Own) : Type 0 where
  pub talks : Tells → (app : ℕ) → AtOnce app (journal old.history) → AtOnce app (journal new.history)
  pub no_event : Tells → NoEventSince old new

-- where the application runs then, and these bytes are unread, behind frames that are no messages
pub record TurnTalks {Own : Type 0} (Tells : Type 0) (app : ℕ) (rest : List ℕ) (old new : Seen Own) : Type 0 where
  pub talks : Tells → (a : AtOnce app (journal old.history)) → a.last.running ≡ true → Passes a.last.unread rest → AtOnce app (journal new.history)

-- behind parts of a run that were done
pub record GoesOnTalking {Own : Type 0} (Tells : Type 0) (old new : Seen Own) (e : Engine) : Type 0 where
  pub talks : Tells → EachFrom (IsAtRest old) 0 e.apps → (app : ℕ) → app < length e.apps → AtOnce app (journal new.history)
