-- How a run of the engine stands to one of the reference controller, where the world keeps its word. All of this is our own.
use Rattle.std.specs.Prelude.{◌≡◌, ℕ, Bool, List, [], ◌∷◌, ◌+◌, ◌++◌, map, length, drop}
use Rattle.app_frames.specs.declared.frame.Event.{Event}
use Rattle.crash_policy.specs.Policies.{AppValue}
use Rattle.lego_model.specs.Journal.{Reply, Start}
use Rattle.lego_model.specs.Controller.{App, Run}
use Rattle.lego_model.specs.Losses.{TurnLosses, Losses}
use Rattle.lego_model.specs.Agreement.{AgreeMarks}
use Rattle.lego_model.specs.ReferenceRun.{Said}
use Rattle.outside.specs.Seen.{Seen}
use Rattle.outside.specs.State.{state}
use Rattle.net_txn.specs.Net.{NetState}
use Rattle.switch_laws.specs.Shown.{shown_places, shown_by}
use Rattle.batch_laws.specs.Calm.{Calm}
use Rattle.lego_model.specs.History.{given_in, released_of, lost_of, points_in}

-- ---- What the engine keeps of a run

-- of an application: what the policy says of it, whether it is alive, what was taken and not read, its kept checkpoint, how many turns
-- completed and failed
pub record Application : Type 0 where
  pub rule : AppValue
  pub alive : Bool
  pub rest : List ℕ
  pub kept : List ℕ
  pub done : ℕ
  pub failed : ℕ

pub record Engine : Type 0 where
  pub net : NetState
  pub queue : List Event
  -- how many events were dispatched
  pub events : ℕ
  -- in the order of the policy; the place of an application is its index
  pub apps : List Application

abbrev pub rules_of : Engine → List AppValue
rules_of e = map (λ a. a.rule) e.apps

-- so it is with each of them, from an index on
abbrev pub EachFrom : (ℕ → Application → Type 0) → ℕ → List Application → Type 0
EachFrom P i [] = Unit {0}
EachFrom P i (a ∷ more) = P i a × EachFrom P (i + 1) more

-- ---- The engine as one of its applications sees it, with the index of that one

pub record Focus : Type 0 where
  pub index : ℕ
  pub net : NetState
  pub queue : List Event
  pub events : ℕ
  pub rule : AppValue
  pub alive : Bool
  pub rest : List ℕ
  pub kept : List ℕ
  pub done : ℕ
  pub failed : ℕ

abbrev pub focus : ℕ → Application → NetState → List Event → ℕ → Focus
focus i a net queue events = record {
  index = i;
  net = net;
  queue = queue;
  events = events;
  rule = a.rule;
  alive = a.alive;
  rest = a.rest;
  kept = a.kept;
  done = a.done;
  failed = a.failed;
}

-- ---- The applications of the reference controller, with what they will do

abbrev pub app_at : Focus → List (List ℕ) → List Start → List Reply → App
app_at f given starts replies = record {
  rule = f.rule;
  alive = f.alive;
  rest = f.rest;
  kept = f.kept;
  inputs = given;
  starts = starts;
  replies = replies;
  done = f.done;
  failed = f.failed;
}

abbrev pub app_with : Application → List (List ℕ) → Said → App
app_with a given said = record {
  rule = a.rule;
  alive = a.alive;
  rest = a.rest;
  kept = a.kept;
  inputs = given;
  starts = said.starts;
  replies = said.replies;
  done = a.done;
  failed = a.failed;
}

-- those from an index on
abbrev pub apps_from : {Own : Type 0} → ℕ → Seen Own → List Application → (ℕ → Said) → List App
apps_from i seen [] said = []
apps_from i seen (a ∷ more) said = app_with a (given_in i seen) (said i) ∷ apps_from (i + 1) seen more said

-- ---- What is told of applications, by their indexes

abbrev pub nothing : Said
nothing = record { starts = []; replies = [] }

abbrev pub told_none : ℕ → Said
told_none i = nothing

-- one behind the other
abbrev pub both_told : Said → Said → Said
both_told first second = record { starts = first.starts ++ second.starts; replies = first.replies ++ second.replies }

abbrev pub told_then : (ℕ → Said) → (ℕ → Said) → ℕ → Said
told_then first second i = both_told (first i) (second i)

-- what is left of what is said, behind what is told
abbrev pub left_behind : Said → Said → Said
left_behind told said = record { starts = drop (length told.starts) said.starts; replies = drop (length told.replies) said.replies }

abbrev pub behind : (ℕ → Said) → (ℕ → Said) → ℕ → Said
behind told said i = left_behind (told i) (said i)

-- ---- The losses that are to come: of some batches and turns, and then these

abbrev pub ahead : List Bool → List TurnLosses → Losses → Losses
ahead batches turns later = record { batches = batches ++ later.batches; turns = turns ++ later.turns; last = later.last }

-- ---- The two stand alike

-- but for the applications
pub record Shares {Own : Type 0} (seen : Seen Own) (net : NetState) (queue : List Event) (events : ℕ) (losses : Losses) (r : Run) : Type 0 where
  pub calm : Calm seen net
  pub moment : r.moment ≡ (state seen).moment
  pub places : r.places ≡ shown_places seen.given.declared (shown_by net) (state seen)
  pub queue_is : r.queue ≡ queue
  pub events_is : r.events ≡ events
  pub released : r.released ≡ released_of seen
  pub lost : r.lost ≡ lost_of seen
  pub losses_is : r.losses ≡ losses
  pub marks : AgreeMarks (points_in seen) r.marks

-- the applications of the reference controller do this from there on, and these losses are to come
pub record Stands {Own : Type 0} (seen : Seen Own) (e : Engine) (said : ℕ → Said) (losses : Losses) (r : Run) : Type 0 where
  pub calm : Calm seen e.net
  pub moment : r.moment ≡ (state seen).moment
  pub places : r.places ≡ shown_places seen.given.declared (shown_by e.net) (state seen)
  pub queue : r.queue ≡ e.queue
  pub events : r.events ≡ e.events
  pub apps : r.apps ≡ apps_from 0 seen e.apps said
  pub released : r.released ≡ released_of seen
  pub lost : r.lost ≡ lost_of seen
  pub losses_is : r.losses ≡ losses
  pub marks : AgreeMarks (points_in seen) r.marks

-- the engine with another network and other events that wait
abbrev pub engine_then : Engine → NetState → List Event → Engine
engine_then e net queue = record e { net = net; queue = queue }
