-- What an application asks in a turn: the messages that stand in its bytes, and how the turn ends behind them. All of this is our own.
use Rattle.std.specs.Prelude.{◌≡◌, ℕ, true, List, [], ◌∷◌, ◌++◌, filter}
use Rattle.std.specs.List.{AllByRecursion, flat_map}
use Rattle.app_frames.specs.declared.cause.Cause.{Cause}
use Rattle.app_frames.specs.declared.cause.Cause.TheVariants.{Closed, Silent, Garbled, Budget, Unbalanced, Judged}
use Rattle.app_frames.specs.declared.frame.AppFrame.TheVariants.{Message, Save, Keep, Undo, Done, Ready}
use Rattle.outside.specs.declared.step.WorldStep.{WorldStep}
use Rattle.outside.specs.declared.step.WorldStep.TheVariants.{Acted, TookInto}
use Rattle.outside.specs.Seen.{journal}
use Rattle.lego_model.specs.Journal.{is_of, pieces}
use Rattle.lego_model.specs.Turns.{Next, Framed, Faulty, Over, Outcome, Completed, Failed, next_of}

-- ---- Calls for an application

abbrev pub IsCallOf : ℕ → WorldStep → Type 0
IsCallOf app (Acted act) = is_of app act ≡ true
IsCallOf app (TookInto of what room) = of ≡ app
IsCallOf app other = ⊥

-- the history goes on with calls for this application alone
pub record CallsOf (app : ℕ) (before after : List WorldStep) : Type 0 where
  pub steps : List WorldStep
  pub history : after ≡ before ++ steps
  pub own : AllByRecursion (IsCallOf app) steps

-- the pieces of bytes that an application gave by these steps
abbrev pub pieces_of : ℕ → List WorldStep → List (List ℕ)
pieces_of app steps = pieces (filter (is_of app) (journal steps))

-- the history goes on, and these bytes are some that the application gave by it, one behind the other
pub record HasGiven (app : ℕ) (bytes : List ℕ) (before after : List WorldStep) : Type 0 where
  pub steps : List WorldStep
  pub history : after ≡ before ++ steps
  pub front : List ℕ
  pub behind : List ℕ
  pub given : flat_map (λ piece. piece) (pieces_of app steps) ≡ front ++ (bytes ++ behind)

-- ---- How a turn ends

-- A turn fails by bytes that are no frame, by a frame out of place, by a judge where it says that it is done, by silence where nothing more comes;
-- and by one frame too many, or where an answer cannot be given, or its end is closed, whatever comes next.
abbrev pub FailsAt : Cause → Next → Type 0
FailsAt (Garbled fault) (Faulty found) = fault ≡ found
FailsAt Judged (Framed (Done stop checkpoint) rest pieces) = Unit {0}
FailsAt Unbalanced (Framed Save rest pieces) = Unit {0}
FailsAt Unbalanced (Framed Keep rest pieces) = Unit {0}
FailsAt Unbalanced (Framed Undo rest pieces) = Unit {0}
FailsAt Unbalanced (Framed Ready rest pieces) = Unit {0}
FailsAt Budget (Framed frame rest pieces) = Unit {0}
FailsAt Silent Over = Unit {0}
FailsAt Closed next = Unit {0}
FailsAt cause next = ⊥

-- It completes by the frame Done alone, whose word and checkpoint these are, and the bytes behind it; or it fails.
abbrev pub EndsAt : Outcome → Next → Type 0
EndsAt (Completed stops handed left) (Framed (Done stop checkpoint) rest pieces) = (stops ≡ stop) × (handed ≡ checkpoint) × (left ≡ rest)
EndsAt (Completed stops handed left) next = ⊥
EndsAt (Failed cause) next = FailsAt cause next

-- these messages stand next, each with its switch, one behind the other; and behind them the turn ends so
abbrev pub AreAsked : List (ℕ × List ℕ) → Outcome → Next → Type 0
AreAsked [] outcome next = EndsAt outcome next
AreAsked (m ∷ more) outcome (Framed (Message dpid bytes) rest pieces) = (m ≡ (dpid, bytes)) × AreAsked more outcome (next_of rest pieces)
AreAsked (m ∷ more) outcome next = ⊥
