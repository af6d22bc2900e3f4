-- A turn of the reference controller, step by step. All of this is our own.
use Rattle.std.specs.Prelude.{ℕ, ◌+◌, List, [], ◌∷◌, ◌++◌, drop}
use Rattle.app_frames.specs.declared.frame.Event.{Event}
use Rattle.lego_model.specs.Journal.{Reply}
use Rattle.lego_model.specs.Places.{Place}
use Rattle.lego_model.specs.Packets.{Play}
use Rattle.lego_model.specs.Turns.{Played}
pub use Rattle.lego_model.specs.Controller.{after_turn}
use Rattle.lego_model.specs.Controller.{App, Dispatched, Run, Turned, event_frame, given_in, after_outcome, release_by}
use Rattle.lego_model.specs.Losses.{TurnLosses}

-- the event has its number and its line
abbrev pub numbered : Event → Run → Run
numbered event r = record r { events = r.events + 1; lines = r.lines ++ Dispatched (r.events + 1) event ∷ [] }

-- the application with its reply used up and what it was given in its turn
abbrev pub after_given : App → Reply → List (List ℕ) → App
after_given a reply given = record a { replies = drop 1 a.replies; inputs = a.inputs ++ given }

abbrev pub turned_by : (number moment : ℕ) → Event → TurnLosses → List Place → App → Reply → Played Play → Turned
turned_by number moment event losses ps a reply played = record {
  release = release_by played.outcome losses ps played.state;
  left = played.state.left ++ (release_by played.outcome losses ps played.state).left;
  app = after_outcome event.kind played.outcome (after_given a reply (given_in reply.given (event_frame number moment event) played.answers));
  outcome = played.outcome;
  given = reply.given;
}
