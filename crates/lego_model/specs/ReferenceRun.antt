-- The run of the reference controller over what a world told, whole and in parts. All of this is our own.
use Rattle.std.specs.Prelude.{◌≡◌, ◌+◌, Bool, false, List, [], ◌∷◌, ◌++◌, map, None, ℕ, fold}
use Rattle.std.specs.List.{flat_map}
use Rattle.flow_table.specs.Switch.{Declared}
use Rattle.crash_policy.specs.Policies.{AppValue}
use Rattle.lego_model.specs.Journal.{Reply, Start}
use Rattle.lego_model.specs.Places.{Place}
use Rattle.lego_model.specs.Scripted.{AreFronts, AreStartFronts}
use Rattle.lego_model.specs.Losses.{Losses}
use Rattle.lego_model.specs.Controller.{App, Run, reference_mark, start_all, reference, settle, happen}
pub use Rattle.lego_model.specs.Controller.{dispatch_next, times}
use Rattle.outside.specs.Seen.{Seen}
use Rattle.lego_model.specs.History.{starts_in, replies_in, own_acts, stimuli_in, given_in, released_of, lost_of, points_in, last_point}
use Rattle.lego_model.specs.Agreement.{AgreeMarks}
use Rattle.of_types.specs.declared.journal.WorldStim.{WorldStim}
use Rattle.lego_model.specs.RunReport.{line_text}

-- ---- Applications of the reference controller at first, with what the policy says of them and what they will do

-- what is said of an application: how its starts end, and what it gives in its turns
pub record Said : Type 0 where
  pub starts : List Start
  pub replies : List Reply

abbrev pub fresh : AppValue → Said → App
fresh rule said = record { rule = rule; alive = false; rest = []; kept = []; inputs = []; starts = said.starts; replies = said.replies; done = 0; failed = 0 }

-- those from an index on
abbrev pub fresh_from : ℕ → List AppValue → (ℕ → Said) → List App
fresh_from i [] said = []
fresh_from i (rule ∷ rules) said = fresh rule (said i) ∷ fresh_from (i + 1) rules said

-- before anything is started, with the losses that are to come
abbrev pub before_start : List Declared → Losses → List App → Run
before_start declared losses apps = record {
  moment = 0;
  places = map (λ d. record { declared = d; switch = None }) declared;
  queue = [];
  events = 0;
  apps = apps;
  lines = [];
  released = [];
  lost = [];
  losses = losses;
  marks = [];
}

-- all applications are started
abbrev pub all_started : Run → Run
all_started r = let begun = start_all 0 r.apps in record r { apps = begun.0; lines = r.lines ++ begun.1 }

-- ---- What the reference controller does with what a world tells

-- over the stimuli that it told and these losses, with applications that do this
abbrev pub reference_said : {Own : Type 0} → List AppValue → (List Place → Bool) → (spent : Bool) → Losses → Seen Own → (ℕ → Said) → Run
reference_said rules allows spent losses seen said = reference allows seen.given.declared (fresh_from 0 rules said) losses spent (stimuli_in seen)

-- what it told of each application, by its index
abbrev pub told_of : {Own : Type 0} → Seen Own → ℕ → Said
told_of seen i = record { starts = starts_in (own_acts i seen); replies = replies_in (own_acts i seen) }

-- with applications that do what it told of them
abbrev pub reference_of : {Own : Type 0} → List AppValue → (List Place → Bool) → (spent : Bool) → Losses → Seen Own → Run
reference_of rules allows spent losses seen = reference_said rules allows spent losses seen (told_of seen)

-- what is said of each application, of which these are the fronts
abbrev pub AreFrontsOf : (ℕ → Said) → (ℕ → Said) → Type 0
AreFrontsOf told said = (i : ℕ) → AreStartFronts (told i).starts (said i).starts × AreFronts (told i).replies (said i).replies

-- and of which the world told the fronts
abbrev pub AreSaid : {Own : Type 0} → Seen Own → (ℕ → Said) → Type 0
AreSaid seen said = AreFrontsOf (told_of seen) said

-- ---- The parts of its run

-- a stimulus, and then the events that wait
abbrev pub round : (List Place → Bool) → Run → WorldStim → Run
round allows r x = settle allows (happen x r)

abbrev pub rounds : (List Place → Bool) → List WorldStim → Run → Run
rounds allows xs r = fold (round allows) r xs

-- ---- What it writes

-- the text of the lines so far, where the applications have these names
abbrev pub text_of : List (List ℕ) → Run → List ℕ
text_of names r = flat_map (line_text names) r.lines

-- ---- A run of a world stands alike to one of it

-- each of these applications, from an index on, was given what the world told of it
abbrev pub AreGiven : {Own : Type 0} → ℕ → Seen Own → List App → Type 0
AreGiven i seen [] = Unit {0}
AreGiven i seen (a ∷ more) = (a.inputs ≡ given_in i seen) × AreGiven (i + 1) seen more

-- The run is that of the reference controller: at every quiescent point, the end included, the switches agree; each application was given
-- what the reference controller gives it; the packets that were released are those that it releases; and the switches that were lost are those
-- that it loses, each in its order.
pub record RunsAlike {Own : Type 0} (seen : Seen Own) (r : Run) : Type 0 where
  pub tables : AgreeMarks (points_in seen ++ last_point seen ∷ []) (r.marks ++ reference_mark None r.places ∷ [])
  pub inputs : AreGiven 0 seen r.apps
  pub released : released_of seen ≡ r.released
  pub lost : lost_of seen ≡ r.lost
