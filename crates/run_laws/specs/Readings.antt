-- What the journal tells of the application by a turn and by attempts to start it. All of this is our own.
use Rattle.std.specs.Prelude.{◌≡◌, ℕ, Bool, true, List, [], ◌∷◌, ◌++◌, Option, is_some}
use Rattle.std.specs.List.{AllByRecursion}
use Rattle.flow_table.specs.View.{TableView}
use Rattle.app_frames.specs.declared.frame.Event.{Event}
use Rattle.app_frames.specs.declared.cause.Tried.{Tried}
use Rattle.lego_model.specs.Journal.{is_of, start_of}
use Rattle.lego_model.specs.Scripted.{is_heard, is_start_heard}
use Rattle.lego_model.specs.Places.{Place}
use Rattle.lego_model.specs.Controller.{event_frame}
use Rattle.outside.specs.Seen.{Seen}
use Rattle.outside.specs.State.{state}
use Rattle.outside.specs.Conforming.{Conforming}
use Rattle.net_txn.specs.Net.{NetState}
use Rattle.net_txn.specs.Views.{ViewsAscend}
use Rattle.app_visor.specs.declared.state.TurnEnd.{TurnEnd}
use Rattle.app_visor.specs.Beats.{Beat}
use Rattle.app_visor.specs.Turns.{reply_by, Turns}
use Rattle.app_visor.specs.Attempts.{OneTry, starts_of, Restarts}
use Rattle.switch_laws.specs.Shown.{shown_places, shown_by}
use Rattle.switch_laws.specs.Since.{Ready}
use Rattle.journal_laws.specs.Readings.{LastStands}
use Rattle.lego_model.specs.History.{starts_in, replies_in, own_acts}

-- a turn: one reply more, which tells enough of it, and the last attempt stands still
pub record TurnRead {Own : Type 0} (app budget : ℕ) (rest : List ℕ) (old mid : Seen Own) (given : Bool) (trace : List (Beat Own)) : Type 0 where
  pub starts : starts_in (own_acts app mid) ≡ starts_in (own_acts app old)
  pub replies : replies_in (own_acts app mid) ≡ replies_in (own_acts app old) ++ reply_by given trace ∷ []
  pub heard : is_heard budget rest (reply_by given trace) ≡ true
  pub life : LastStands (own_acts app mid)

-- attempts: a start more for each, which tells enough of it, and of which the last stands where one was ready; and each act of an attempt
-- is of the application
pub record TriesRead {Own : Type 0} (app : ℕ) (old new : Seen Own) (all : List (OneTry Own)) (found : Option (List ℕ)) : Type 0 where
  pub starts : starts_in (own_acts app new) ≡ starts_in (own_acts app old) ++ starts_of all
  pub replies : replies_in (own_acts app new) ≡ replies_in (own_acts app old)
  pub heard : AllByRecursion (λ t. is_start_heard (start_of t.attempt) ≡ true) all
  pub life : is_some found ≡ true → LastStands (own_acts app new)
  pub own : AllByRecursion (λ t. AllByRecursion (λ act. is_of app act ≡ true) t.attempt.acts) all

-- so is every turn and every restart of an application read
pub record AreRead (Own : Type 0) (app : ℕ) (Tells : Type 0) (accepts : List TableView → Bool) : Type 0 where
  pub turn : (budget number moment : ℕ) (event : Event) (rest : List ℕ) (old mid : Seen Own) (net mid_net : NetState) (end : TurnEnd) (unread : List ℕ) → Tells
      → (t : Turns Tells accepts app budget rest (event_frame number moment event) old mid net mid_net end unread) → LastStands (own_acts app old)
      → TurnRead app budget rest old mid t.given t.trace
  pub tries : (kept : List ℕ) (old new : Seen Own) (found : Option (List ℕ)) (tries : List Tried) → Tells → (s : Restarts Tells app kept old new found tries) → TriesRead app old new s.all found

-- The judge of the engine says what that of the reference controller says of the switches that it shows, in a world that keeps its word, where
-- views and switches agree.
pub record JudgesAlike (Own : Type 0) (allows : List Place → Bool) (accepts : List TableView → Bool) : Type 0 where
  pub alike : (seen : Seen Own) (net : NetState) → Conforming seen → Ready seen net → ViewsAscend 0 net.views
      → allows (shown_places seen.given.declared (shown_by net) (state seen)) ≡ accepts net.views
