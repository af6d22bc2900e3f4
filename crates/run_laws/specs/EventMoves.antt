-- What starts and turns leave of engine and reference controller. All of this is our own.
use Rattle.std.specs.Prelude.{◌≡◌, ℕ, true, List, ◌++◌, length, drop, map, Bool, [], ◌∷◌, Some, if◌then◌else◌}
use Rattle.flow_table.specs.Switch.{Declared}
use Rattle.app_frames.specs.declared.cause.Tried.{Tried}
use Rattle.crash_policy.specs.declared.policy_file.Policy.{Policy}
use Rattle.lego_model.specs.Journal.{Reply, Start}
use Rattle.lego_model.specs.RunReport.{name_of}
use Rattle.lego_model.specs.Controller.{App, Had, Run, Started, after_failure, gone_line, Ended, out_lines, lost_lines, leavers, restart_lines, Release, turn, says_stop, is_failed}
use Rattle.lego_model.specs.Losses.{TurnLosses, Losses}
use Rattle.lego_model.specs.Scripted.{AreFronts, AreStartFronts, IsFront}
use Rattle.outside.specs.Seen.{Seen, Continues}
use Rattle.outside.specs.State.{state, marks_at_event}
use Rattle.switch_laws.specs.Shown.{shown_places, shown_by}
use Rattle.batch_laws.specs.Calm.{Calm}
use Rattle.journal_laws.specs.Readings.{LastStands}
use Rattle.lego_model.specs.History.{starts_in, replies_in, own_acts, given_in, stimuli_in, released_of, lost_of}
use Rattle.run_laws.specs.Engine.{Focus, app_at, ahead, Shares}
use Rattle.run_laws.specs.LinkSteps.{TriesKeep}
use Rattle.run_laws.specs.LastReport.{lines_text}
use Rattle.app_frames.specs.declared.frame.Event.{Event}
use Rattle.lego_model.specs.Places.{Place}
use Rattle.lego_model.specs.Turns.{Outcome}

-- the events that wait stay, in front of those that join them
abbrev pub Joins : List Event → List Event → Type 0
Joins waiting now_waiting = (more : List Event) × (now_waiting ≡ waiting ++ more)

-- It was started, in attempts that the reference controller makes too, or it is gone there too, as this policy has it: its application comes
-- to the same by these starts, and prints the same. No switch moved, and a calm run stays calm.
pub record StartsAlike {Own : Type 0} (Tells : Type 0) (policy : Policy) (text : List ℕ) (old new : Seen Own) (e now_e : Focus) : Type 0 where
  pub starts : List Start
  pub tries : List Tried
  pub continues : Continues Tells old new
  pub keeps : TriesKeep (state old) (state new)
  pub net : now_e.net ≡ e.net
  pub queue : now_e.queue ≡ e.queue
  pub events : now_e.events ≡ e.events
  pub index : now_e.index ≡ e.index
  pub rule : now_e.rule ≡ e.rule
  pub calm : Calm old e.net → Calm new now_e.net
  pub places : (declared : List Declared) → shown_places declared (shown_by now_e.net) (state new) ≡ shown_places declared (shown_by e.net) (state old)
  pub app : (said_starts : List Start) (said_replies : List Reply) → AreStartFronts starts said_starts
      → after_failure policy (app_at e (given_in e.index old) said_starts said_replies) ≡ (app_at now_e (given_in e.index new) (drop (length starts) said_starts) said_replies, tries)
  pub text_is : (names : List (List ℕ)) → name_of e.index names ≡ e.rule.name → text ≡ lines_text names (map (Started e.index) tries ++ gone_line e.index now_e.alive)
  pub read_starts : starts_in (own_acts e.index new) ≡ starts_in (own_acts e.index old) ++ starts
  pub read_replies : replies_in (own_acts e.index new) ≡ replies_in (own_acts e.index old)
  pub read_stimuli : stimuli_in new ≡ stimuli_in old
  pub released : released_of new ≡ released_of old
  pub lost : lost_of new ≡ lost_of old
  pub life : now_e.alive ≡ true → LastStands (own_acts e.index new)

-- what the journal has of the application by it: a reply, and the starts behind a failed turn
pub record TurnTells {Own : Type 0} (old new : Seen Own) (e now_e : Focus) (starts : List Start) (reply : Reply) : Type 0 where
  pub given : new.given ≡ old.given
  pub read_starts : starts_in (own_acts e.index new) ≡ starts_in (own_acts e.index old) ++ starts
  pub read_replies : replies_in (own_acts e.index new) ≡ replies_in (own_acts e.index old) ++ reply ∷ []
  pub read_stimuli : stimuli_in new ≡ stimuli_in old
  pub life : now_e.alive ≡ true → LastStands (own_acts e.index new)

-- The reference controller's turn leaves the same, where its application has a reply and starts before it of which these are the fronts, and it
-- loses these switches: the same packets are released, and the same events stand behind those that wait.
pub record TurnAlike {Own : Type 0} (allows : List Place → Bool) (event : Event) (text : List ℕ) (old new : Seen Own) (e now_e : Focus) (starts : List Start) (reply : Reply) (losses : TurnLosses) : Type 0 where
  pub outcome : Outcome
  pub tries : List Tried
  pub given : Bool
  pub release : Release
  pub left : List Event
  pub calm : Calm new now_e.net
  pub moment : (state new).moment ≡ (state old).moment
  pub places : release.places ≡ shown_places old.given.declared (shown_by now_e.net) (state new)
  pub queue : now_e.queue ≡ e.queue ++ (release.events ++ left)
  pub released : released_of new ≡ released_of old ++ release.packets
  pub lost : lost_of new ≡ lost_of old ++ leavers left
  pub events : now_e.events ≡ e.events
  pub index : now_e.index ≡ e.index
  pub rule : now_e.rule ≡ e.rule
  pub marks : (state new).marks ≡ (if given then marks_at_event (Some e.events) (state old) else (state old).marks)
  pub turned : (said_starts : List Start) (said : Reply) (later_replies : List Reply) → AreStartFronts starts said_starts → IsFront reply said
      → turn allows e.events e.net.moment event losses (shown_places old.given.declared (shown_by e.net) (state old)) (app_at e (given_in e.index old) said_starts (said ∷ later_replies))
      ≡ record {
        release = release;
        left = left;
        app = (app_at now_e (given_in e.index new) (drop (length starts) said_starts) later_replies, tries);
        outcome = outcome;
        given = given;
      }
  pub text_is : (names : List (List ℕ)) → name_of e.index names ≡ e.rule.name → (later_starts : List Start) (later_replies : List Reply)
      → text ≡ lines_text names (Ended e.index outcome ∷ out_lines release.packets ++ lost_lines (leavers left) ++ restart_lines e.index outcome (app_at now_e (given_in e.index new) later_starts later_replies, tries))

-- so it leaves an event where it stops it there, or does not, and fails at it, or does not
pub record TurnMoves {Own : Type 0} (allows : List Place → Bool) (event : Event) (stops fails : Bool) (text : List ℕ) (old new : Seen Own) (e now_e : Focus) : Type 0 where
  pub starts : List Start
  pub reply : Reply
  pub tells : TurnTells old new e now_e starts reply
  pub losses : TurnLosses
  pub alike : TurnAlike allows event text old new e now_e starts reply losses
  pub stops_is : says_stop alike.outcome ≡ stops
  pub fails_is : is_failed alike.outcome ≡ fails

-- ---- What an application has at an event

-- what an application comes to there, and the run of it
pub record IsHadAlike {Own : Type 0} (stops : Bool) (text : List ℕ) (new : Seen Own) (now_e : Focus) (starts : List Start) (replies : List Reply) (later : Losses) (r : Run) (done : Had) : Type 0 where
  pub app_is : done.app ≡ app_at now_e (given_in now_e.index new) starts replies
  pub stops_is : done.stops ≡ stops
  pub shares : Shares new now_e.net now_e.queue now_e.events later done.run
  pub lines : (names : List (List ℕ)) → name_of now_e.index names ≡ now_e.rule.name → lines_text names done.run.lines ≡ lines_text names r.lines ++ text

-- What an application had leaves what this makes of application and run: the journal tells these starts and replies of it, and switches were lost in these
-- turns. Where engine and reference controller stood alike before it, and the application there has starts and replies before it of which these are the
-- fronts, they stand alike behind it.
pub record HadMoves {Own : Type 0} (does : App → Run → Had) (stops : Bool) (text : List ℕ) (old new : Seen Own) (e now_e : Focus) : Type 0 where
  pub starts : List Start
  pub replies : List Reply
  pub turns : List TurnLosses
  pub given : new.given ≡ old.given
  pub index : now_e.index ≡ e.index
  pub rule : now_e.rule ≡ e.rule
  pub events : now_e.events ≡ e.events
  pub calm : Calm new now_e.net
  pub read_starts : starts_in (own_acts e.index new) ≡ starts_in (own_acts e.index old) ++ starts
  pub read_replies : replies_in (own_acts e.index new) ≡ replies_in (own_acts e.index old) ++ replies
  pub read_stimuli : stimuli_in new ≡ stimuli_in old
  pub life : now_e.alive ≡ true → LastStands (own_acts e.index new)
  pub had : (said_starts : List Start) (said_replies : List Reply) (later : Losses) (r : Run) → AreStartFronts starts said_starts → AreFronts replies said_replies → Shares old e.net e.queue e.events (ahead [] turns later) r
      → IsHadAlike stops text new now_e (drop (length starts) said_starts) (drop (length replies) said_replies) later r (does (app_at e (given_in e.index old) said_starts said_replies) r)
