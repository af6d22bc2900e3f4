-- One stimulus in a world that keeps its word, where nothing waited: once the engine handled all that it makes, what it knows and the events
-- that wait are what the reference controller has.
use Rattle.std.proofs.Common.{◌≡◌, ℕ, List, [], ◌++◌, Option, Some, None, refl, sym, ap, ◌∙◌, subst, arith}
use Rattle.std.proofs.lemmas.Option.{same_Some}
use Rattle.of_types.specs.declared.journal.WorldStim.{WorldStim}
use Rattle.of_types.specs.declared.journal.WorldStim.TheVariants.{Join, Leave, At, Of}
use Rattle.flow_table.specs.Switch.{Declared, SwitchState}
use Rattle.app_frames.specs.declared.frame.Event.{Event}
use Rattle.lego_model.specs.Controller.{places_after, events_after}
use Rattle.outside.specs.Seen.{Seen}
use Rattle.outside.specs.State.{Link, State, link_of, waits_in, waits_of, switch_of, after_stim, upcoming, state, declared_in}
use Rattle.outside.specs.Conforming.{AreDeclaredFrom, IsWorldStim, Conforming}
use Rattle.net_txn.specs.Net.{NetState}
use Rattle.net_txn.specs.laws.SaidLaws.{all_weaker}
use Rattle.switch_laws.specs.Shown.{shown_places, shown_by}
use Rattle.switch_laws.specs.Sound.{AllSound}
use Rattle.switch_laws.specs.laws.StandLaws.{all-stand}
use Rattle.batch_laws.specs.Knowledge.{known_by, Knowledge, knowledge_of, handled_all}
use Rattle.batch_laws.specs.Calm.{Calm}
use Rattle.batch_laws.specs.laws.HistoryLaws.{links-last, links-declared, switch-lasts}
use Rattle.batch_laws.specs.Tells.{StimulusHandled}
use Rattle.batch_laws.specs.LinkTells.{StandsIn}
use Rattle.batch_laws.specs.laws.ReferenceLaws.{links-found}
use Rattle.batch_laws.specs.Waiting.{NoneWait}
use Rattle.batch_laws.specs.laws.AfterLaws.{after-moment, after-happened}
use Rattle.batch_laws.specs.After.{Facts, SoundIn, After}
use Rattle.batch_laws.specs.laws.KnownPortsLaws.{KnowsOnce, known-first, known-once, ready-once, handled_all-once}
use Rattle.batch_laws.specs.laws.LeaveTellLaws.{after-leave}
use Rattle.batch_laws.specs.laws.JoinTellLaws.{after-join}

-- ---- What stands before

stands-by : {Own : Type 0} (seen : Seen Own) (net : NetState) → Conforming seen → Calm seen net → (d : ℕ) (o : Option SwitchState) → switch_of d (state seen) ≡ o → StandsIn d o
stands-by seen net keeps calm d None is = tt
stands-by seen net keeps calm d (Some y) is =
    let lasts = switch-lasts seen keeps d y is in
    record { number = lasts.1; lasts = lasts.0; table = (all-stand seen).table d y is; sound = calm.sound.entries d y is }

pub none-wait : (s : State) → AreDeclaredFrom 1 (declared_in s.links) → ((d : ℕ) → waits_of d s ≡ []) → NoneWait s.links
unfolding waits_of
none-wait s ascend waits =
    all_weaker (λ (l : Link). link_of l.declared.dpid s.links ≡ Some l) (λ l. l.waits ≡ []) (λ l is. sym (ap waits_in is) ∙ waits l.declared.dpid) s.links (links-found 1 s.links ascend)

pub facts-before : {Own : Type 0} (seen : Seen Own) (net : NetState) (queue : List Event) → Conforming seen → Calm seen net → Facts (state seen) (knowledge_of net queue)
facts-before seen net queue keeps calm =
    let ascend : AreDeclaredFrom 1 (declared_in (state seen).links) = subst (AreDeclaredFrom 1) (sym (links-declared seen)) keeps.declared in
    record {
      ascend = ascend;
      waits = none-wait (state seen) ascend calm.ready.waits;
      due = calm.none_due;
      known = λ d. record { agrees = calm.ready.agrees d; ports = known-first d net.ports (switch_of d (state seen)) (calm.ready.known d) };
      order = calm.order;
      moment = calm.moment;
      stands = λ d. stands-by seen net keeps calm d (switch_of d (state seen)) refl;
      last = links-last seen keeps;
    }

-- ---- Each stimulus

after-each : (x : WorldStim) (s : State) (k : Knowledge) → Facts s k → IsWorldStim (declared_in s.links) s.moment x → After x s k (handled_all (upcoming (after_stim x s)) k)
unfolding IsWorldStim
after-each (Join d) s k facts may = after-join d s k facts may
after-each (Leave d) s k facts may = after-leave d s k facts may
after-each (At t) s k facts may = after-moment t s k facts (omega (arith, may.1))
after-each (Of d x) s k facts may = after-happened d x s k facts may.0 may.1

sound-by : (o : Option SwitchState) (y : SwitchState) → SoundIn o → o ≡ Some y → AllSound y.table.entries
sound-by None y sound is = absurd cc
sound-by (Some z) y sound is = subst (λ (w : SwitchState). AllSound w.table.entries) (same_Some z y is) sound

handled-by : {Own : Type 0} (x : WorldStim) (seen : Seen Own) (net : NetState) (queue : List Event) (k : Knowledge) → KnowsOnce k → After x (state seen) (knowledge_of net queue) k → StimulusHandled x seen net queue k
handled-by x seen net queue k once after =
    let s : State = state seen in
    let same = links-declared seen in
    record {
      queue_is = subst (λ (ds : List Declared). k.queue ≡ queue ++ events_after x s.moment (shown_places ds (shown_by net) s)) same after.queue;
      places = subst (λ (ds : List Declared). shown_places ds (known_by k) (after_stim x s) ≡ places_after x s.moment (shown_places ds (shown_by net) s)) same after.places;
      agrees = λ d. (after.known d).agrees;
      known = λ d. known-once d k (switch_of d (after_stim x s)) once (after.known d).ports;
      order = after.order;
      moment = after.moment;
      sound = record { entries = λ d y is. sound-by (switch_of d (after_stim x s)) y (after.sound d) is };
    }

-- Where nothing waited, the engine that handles the items of a stimulus comes to know what the reference controller has.
pub stimulus-handled : {Own : Type 0} (x : WorldStim) (seen : Seen Own) (net : NetState) (queue : List Event) → Conforming seen → Calm seen net → IsWorldStim seen.given.declared (state seen).moment x
    → StimulusHandled x seen net queue (handled_all (upcoming (after_stim x (state seen))) (knowledge_of net queue))
stimulus-handled x seen net queue keeps calm may =
    let s : State = state seen in
    let here : IsWorldStim (declared_in s.links) s.moment x = subst (λ (ds : List Declared). IsWorldStim ds s.moment x) (sym (links-declared seen)) may in
    handled-by x seen net queue (handled_all (upcoming (after_stim x s)) (knowledge_of net queue)) (handled_all-once (upcoming (after_stim x s)) (knowledge_of net queue) (ready-once seen net queue calm.ready)) (after-each x s (knowledge_of net queue) (facts-before seen net queue keeps calm) here)
