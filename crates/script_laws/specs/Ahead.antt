-- What the lines of an application have yet to say, and which of its acts may come then. All of this is our own.
use Rattle.std.specs.Prelude.{◌≡◌, Bool, true, false, not, List, [], ◌∷◌, length, drop, slice_get, if◌then◌else◌, ◌≤◌, ℕ, ◌++◌, map}
use Rattle.of_types.specs.declared.journal.Act.{Act}
use Rattle.of_types.specs.declared.journal.Act.TheVariants.{Started, Gave, Took, Ended}
use Rattle.of_types.specs.declared.journal.TookWhat.{TookWhat}
use Rattle.of_types.specs.declared.journal.TookWhat.TheVariants as took
use Rattle.app_frames.specs.declared.script.ScriptStep.{ScriptStep}
use Rattle.app_frames.specs.declared.script.StartScript.{StartScript}
use Rattle.lego_model.specs.Journal.{is_event, Start, Reply, in_attempts, in_turns, any_gone, reply_of}
use Rattle.outside.specs.declared.step.WorldStep.{WorldStep}
use Rattle.outside.specs.declared.step.WorldStep.TheVariants.{TookInto}
use Rattle.sim_world.specs.Scripts.{start_or_ready, turn_or_plain, steps_of_start, is_refused, given_of, left_of, taken_bytes}
use Rattle.lego_model.specs.Scripted.{starts_said, replies_said, AreFronts, AreStartFronts}
use Rattle.lego_model.specs.History.{starts_in, replies_in}
use Rattle.script_laws.specs.Looks.{Looks}

-- ---- How much is taken at once

-- a take had room for 65,536 bytes
abbrev pub HasRoom : WorldStep → Type 0
HasRoom (TookInto of what room) = room ≡ 65536
HasRoom other = Unit {0}

-- ---- What is ahead

-- Whether it runs; whether the end of what it gives was taken in this start or turn; its lines that were not begun; and what it still gives
-- in this start or turn.
pub record Ahead : Type 0 where
  pub running : Bool
  pub ended : Bool
  pub starts : List StartScript
  pub replies : List (List ScriptStep)
  pub left : List ScriptStep

-- how the next start ends, and what is given in the next turn
abbrev pub start_ahead : List StartScript → StartScript
start_ahead lines = start_or_ready (slice_get lines 0)

abbrev pub turn_ahead : List (List ScriptStep) → List ScriptStep
turn_ahead lines = turn_or_plain (slice_get lines 0)

-- it tells the end of the bytes
abbrev pub is_end : TookWhat → Bool
is_end (took.Bytes bytes) = false
is_end other = true

-- ---- What an act makes of it

abbrev pub after : Act → Ahead → Ahead
after (Started of true) p = record { running = true; ended = false; starts = drop 1 p.starts; replies = p.replies; left = steps_of_start (start_ahead p.starts) }
after (Started of false) p = record { running = false; ended = false; starts = drop 1 p.starts; replies = p.replies; left = p.left }
after (Took of what) p = record p { ended = is_end what; left = left_of (length (taken_bytes what)) p.left }
after (Gave of frame) p = if is_event frame then record p { ended = false; replies = drop 1 p.replies; left = turn_ahead p.replies } else p
after (Ended of) p = record p { running = false; left = [] }
after other p = p

-- the act may come
abbrev pub May : Act → Ahead → Type 0
May (Started of stands) p = (p.running ≡ false) × (stands ≡ not (is_refused (start_ahead p.starts)))
May (Took of what) p = (p.running ≡ true) × ((p.ended ≡ false) × (what ≡ given_of 65536 p.left))
May (Gave of frame) p = p.running ≡ true
May (Ended of) p = p.running ≡ true
May other p = ⊥

-- each act may come behind those before it
abbrev pub Goes : Ahead → List Act → Type 0
Goes p [] = Unit {0}
Goes p (act ∷ acts) = May act p × Goes (after act p) acts

-- the acts of the start or turn in hand
abbrev pub hand : List Act → List Act
hand acts = (in_turns (in_attempts acts).0).0

-- the replies behind it
abbrev pub replies_now : List Act → List Reply
replies_now acts = map reply_of (in_turns (in_attempts acts).0).1 ++ replies_in acts

abbrev pub StartsSo : List StartScript → List Start → Type 0
StartsSo lines told = (more : ℕ) → length told ≤ more → AreStartFronts told (starts_said more lines)

abbrev pub RepliesSo : List (List ScriptStep) → List Reply → Type 0
RepliesSo lines told = (more : ℕ) → length told ≤ more → AreFronts told (replies_said more lines)

pub record Reads (p : Ahead) (acts : List Act) : Type 0 where
  pub idle : p.running ≡ false → (in_attempts acts).0 ≡ []
  pub none_gone : any_gone (hand acts) ≡ false
  pub looks : Looks p.ended p.left (hand acts)
  pub replies : RepliesSo p.replies (replies_now acts)
  pub starts : StartsSo p.starts (starts_in acts)
