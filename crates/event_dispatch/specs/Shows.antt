-- What the engine does, in the words of what is seen and kept: the text that it notes, and how the run stands then. All of this is our own.
use Rattle.std.specs.Prelude.{◌≡◌, ℕ, List, ◌++◌, map, string_bytes, Option}
use Rattle.batch_laws.specs.Knowledge.{left_events, lost_text}
use Rattle.outside.specs.Seen.{Seen}
use Rattle.run_laws.specs.Engine.{Application, Engine, Focus, focus}
use Rattle.run_laws.specs.Course.{Stage}
use Rattle.event_dispatch.specs.declared.engine_core.Core.{Core}
use Rattle.event_dispatch.specs.declared.run.Managed.{Managed}
use Rattle.event_dispatch.specs.declared.run.Run.{Run}
use Rattle.app_frames.specs.declared.frame.Event.{Event}
use Rattle.net_txn.specs.Net.{NetState}
use Rattle.app_visor.specs.declared.state.AppState.{AppState}
use Rattle.app_visor.specs.Attempts.{kept_of}
use Rattle.checkpoint_store.specs.Slots.{Slot}
use Rattle.crash_policy.specs.Policies.{app_value}
use Rattle.net_txn.specs.Leaving.{none_left}

-- what the engine keeps of an application
abbrev pub application_of : List Slot → Managed → Application
application_of slots m = record {
  rule = app_value m.rule.now;
  alive = m.state.alive;
  rest = m.state.rest;
  kept = kept_of m.state.index slots;
  done = m.done;
  failed = m.failed;
}

abbrev pub focus_of : Core → Managed → Focus
focus_of c m = focus m.state.index (application_of c.store m) c.net c.queue c.events

abbrev pub engine_with : Core → List Managed → Engine
engine_with c apps = record { net = c.net; queue = c.queue; events = c.events; apps = map (application_of c.store) apps }

abbrev pub engine_of : Run → Engine
engine_of r = engine_with r.core r.apps.items

-- how a run stands, with what was written so far
abbrev pub stage_of : {Own : Type 0} → Seen Own → Option (List ℕ) → Run → Stage Own
stage_of seen contents r = record { seen = seen; engine = engine_of r; written = contents }

-- the name of an application
abbrev pub name_of : Managed → List ℕ
name_of m = string_bytes m.rule.now.name

-- ---- The text that is noted

-- nothing happens but to the lines that wait
pub record Stays (c now_c : Core) : Type 0 where
  pub net : now_c.net ≡ c.net
  pub queue : now_c.queue ≡ c.queue
  pub events : now_c.events ≡ c.events
  pub store : now_c.store ≡ c.store

-- text is noted, and nothing else happens
pub record Adds (text : List ℕ) (c now_c : Core) : Type 0 where
  pub stays : Stays c now_c
  pub lines : now_c.lines.items ≡ c.lines.items ++ text

-- the switches that were lost are told, each by its line and with its Leave event, and nothing else happens
pub record TellsLost (c now_c : Core) : Type 0 where
  pub net : now_c.net ≡ none_left c.net
  pub queue : now_c.queue ≡ c.queue ++ left_events c.net.left
  pub events : now_c.events ≡ c.events
  pub store : now_c.store ≡ c.store
  pub lines : now_c.lines.items ≡ c.lines.items ++ lost_text c.net.left

-- some of them are told so far, with the others to come
pub record TellsOn (c now_c : Core) : Type 0 where
  pub net : none_left now_c.net ≡ none_left c.net
  pub queue : now_c.queue ++ left_events now_c.net.left ≡ c.queue ++ left_events c.net.left
  pub events : now_c.events ≡ c.events
  pub store : now_c.store ≡ c.store
  pub lines : now_c.lines.items ++ lost_text now_c.net.left ≡ c.lines.items ++ lost_text c.net.left

-- the run with other events that wait
abbrev pub queued_run : List Event → Run → Run
queued_run queue r = record r { core = record r.core { queue = queue } }

-- what the engine keeps behind a turn that was played
abbrev pub played_core : NetState → List Event → List Slot → Core → Core
played_core net queue slots c = record c { net = net; queue = queue; store = slots }

abbrev pub played_app : AppState → Managed → Managed
played_app app m = record m { state = app }
