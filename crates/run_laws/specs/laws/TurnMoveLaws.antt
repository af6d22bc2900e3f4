-- The law of a turn: the engine's turn is the turn of the reference controller, whose switches and application come to the same, whether
-- the turn was done and its packets released, or failed and was undone, and the application started again or gone.
use Rattle.std.proofs.Common.{◌≡◌, ℕ, ◌+◌, ◌^◌, ◌<◌, Bool, true, false, List, [], ◌∷◌, ◌++◌, length, map, Option, Some, Ok, if◌then◌else◌, refl, sym, ap, ap₂, ◌∙◌, subst}
use Rattle.std.specs.Prelude.{unwrap_or}
use Rattle.std.proofs.lemmas.Bool.{eq-eqb}
use Rattle.std.proofs.lemmas.List.{append-nil, append_assoc, map-append}
use Rattle.std.proofs.lemmas.List.Concat.{flat_map-append}
use Rattle.of_types.specs.declared.journal.Act.{Act}
use Rattle.flow_table.specs.View.{TableView}
use Rattle.flow_table.specs.Switch.{Declared}
use Rattle.app_frames.specs.declared.frame.Event.{Event}
use Rattle.app_frames.specs.declared.frame.Answer.{Answer}
use Rattle.app_frames.specs.declared.cause.Cause.{Cause}
use Rattle.app_frames.specs.declared.cause.Tried.{Tried}
use Rattle.crash_policy.specs.Asking.{rule_at}
use Rattle.lego_model.specs.declared.turn.TurnWord.{TurnWord}
use Rattle.lego_model.specs.Journal.{Reply, Start, inputs, reply_of, give_act}
use Rattle.lego_model.specs.Places.{Place}
use Rattle.lego_model.specs.Packets.{Held, Play, fresh_play, HeldBack, nothing_held}
use Rattle.lego_model.specs.Turns.{Outcome, Completed, Failed, turn_of}
use Rattle.lego_model.specs.Scripted.{IsFront, is_heard}
use Rattle.lego_model.specs.laws.ScriptedLaws.{turn-front}
use Rattle.lego_model.specs.Losses.{PacketLoss, TurnLosses}
use Rattle.lego_model.specs.Controller.{table_of, App, Turned, Started, after_failure, gone_line, event_frame, answer_frame, given_in as given_by_turn, Release, release, undoing, undone_release, out_lines, lost_lines, leavers, turn, is_failed, says_stop as outcome_stops}
use Rattle.lego_model.specs.RunReport.{turn_line, lost_line, outcome_word, line_text}
use Rattle.outside.specs.Seen.{Given, Seen}
use Rattle.outside.specs.State.{State, Mark, state, marks_at_event}
use Rattle.outside.specs.laws.StateLaws.{Conforming-before}
use Rattle.outside.specs.Conforming.{Conforming}
use Rattle.net_txn.specs.Net.{NetState}
use Rattle.net_txn.specs.declared.ports.KnownPorts.{KnownPorts}
use Rattle.net_txn.specs.Leaving.{left_event}
use Rattle.net_txn.specs.Undos.{lost_parts, Undoes}
use Rattle.net_txn.specs.Releases.{committed, Commits}
use Rattle.app_visor.specs.declared.state.TurnEnd.{TurnEnd}
use Rattle.app_visor.specs.declared.state.TurnEnd.TheVariants as ends
use Rattle.app_visor.specs.Beats.{Beat, Talk, acts_in}
use Rattle.app_visor.specs.laws.BeatLaws.{Chain-continues}
use Rattle.app_visor.specs.Turns.{IsEnd, handed, reply_by, Turns, played_on}
use Rattle.switch_laws.specs.Shown.{shown_places, shown_by}
use Rattle.switch_laws.specs.Lost.{LeavesBy}
use Rattle.switch_laws.specs.Since.{Ready, Goes}
use Rattle.switch_laws.specs.laws.SinceLaws.{begun}
use Rattle.switch_laws.specs.Released.{ReleaseShown}
use Rattle.switch_laws.specs.laws.OrderlyLaws.{undo-releases-none}
use Rattle.switch_laws.specs.laws.ReleaseLaws.{release-shown}
use Rattle.switch_laws.specs.laws.ShownUndoLaws.{undo-shown}
use Rattle.turn_laws.specs.Chain.{play_at}
use Rattle.turn_laws.specs.laws.ChainLaws.{turn-shown}
use Rattle.batch_laws.specs.Calm.{Calm}
use Rattle.journal_laws.specs.Readings.{LastStands}
use Rattle.lego_model.specs.History.{starts_in, replies_in, own_acts, given_in, released_of, lost_of}
use Rattle.run_laws.specs.Engine.{Focus, app_at}
use Rattle.batch_laws.specs.Knowledge.{left_events, lost_text}
use Rattle.run_laws.specs.Facts.{turn_word, out_text, all_told, IsClosed, TakesTurn, says_stop, end_fails}
use Rattle.run_laws.specs.Readings.{AreRead, JudgesAlike}
use Rattle.run_laws.specs.laws.FrameLaws.{event_numbered}
use Rattle.run_laws.specs.laws.ReferenceLaws.{turn_is}
use Rattle.run_laws.specs.ReferenceTurn.{turned_by}
use Rattle.run_laws.specs.laws.LinkStepLaws.{gave_first}
use Rattle.run_laws.specs.LinkSteps.{NoEvents, Rests, TellsGiven, ChainKeeps}
use Rattle.run_laws.specs.laws.CalmLaws.{turn_stays, calm_released, calm_undone}
use Rattle.run_laws.specs.laws.ChainLaws.{chain_rests, chain_marks, given_marks, answers_no_events, links_state, links_rest, links_tell}
use Rattle.run_laws.specs.laws.TellLaws.{chain_tells, chain_keeps}
use Rattle.run_laws.specs.LastReport.{lines_text}
use Rattle.run_laws.specs.laws.LineLaws.{word_is, outs_is}
use Rattle.run_laws.specs.laws.StartMoveLaws.{follows_alike}
use Rattle.run_laws.specs.EventMoves.{StartsAlike, TurnAlike, TurnMoves}

-- ---- How all stands when the application is done or failed

-- the turn of the reference controller leaves the same, with these losses
record AlikeBy {Own : Type 0} (allows : List Place → Bool) (event : Event) (stops fails : Bool) (text : List ℕ) (old new : Seen Own) (e now_e : Focus) (starts : List Start) (reply : Reply) : Type 0 where
  losses : TurnLosses
  alike : TurnAlike allows event text old new e now_e starts reply losses
  stops_is : outcome_stops alike.outcome ≡ stops
  fails_is : is_failed alike.outcome ≡ fails

abbrev marks_by : Bool → ℕ → State → List Mark
marks_by given n s = if given then marks_at_event (Some n) s else s.marks

abbrev pub places_at : {Own : Type 0} → Seen Own → Seen Own → NetState → List Place
places_at first now net = shown_places first.given.declared (shown_by net) (state now)

record AtEnd {Own : Type 0} (allows : List Place → Bool) (event : Event) (old mid : Seen Own) (e : Focus) (mid_net : NetState) (given : Bool) (reply : Reply) (answers : List Answer) (outcome : Outcome) : Type 0 where
  messages : List Bool
  left : List Event
  leaves : LeavesBy old mid e.net mid_net left
  goes : Goes (length e.net.log) (leavers left) old mid e.net mid_net
  chain : ChainKeeps old mid
  rests : Rests (state old) (state mid)
  marks : (state mid).marks ≡ marks_by given e.events (state old)
  turned : (packets : List PacketLoss) (undone : List ℕ) (starts : List Start) (said : Reply) (replies : List Reply) → IsFront reply said
      → turn allows e.events e.net.moment event (record { messages = messages; packets = packets; inner = []; undone = undone }) (places_at old old e.net) (app_at e (given_in e.index old) starts (said ∷ replies))
      ≡ turned_by e.events e.net.moment event (record { messages = messages; packets = packets; inner = []; undone = undone }) (places_at old old e.net) (app_at e (given_in e.index old) starts (said ∷ replies)) said
      (played_on (play_at old mid mid_net [] left) answers outcome)

-- nothing is held before
fresh_is : {Own : Type 0} (old : Seen Own) (net : NetState) (losing : List Bool) (packets : List PacketLoss) (undone : List ℕ) → net.held ≡ nothing_held
    → fresh_play (record { messages = losing; packets = packets; inner = []; undone = undone }) (places_at old old net) ≡ play_at old old net losing []
fresh_is old net losing packets undone none = ap (λ (held : HeldBack). record { places = places_at old old net; held = held; losing = losing; inner = []; left = [] }) (sym none)

tail_is : (frame : List ℕ) (xs ys : List (List ℕ)) → frame ∷ xs ≡ frame ∷ ys → xs ≡ ys
tail_is frame xs ys is = cc

pub behind_event : (app : ℕ) (given : Bool) (frame : List ℕ) (acts : List Act) (answers : List Answer) → inputs app (give_act given app frame ∷ acts) ≡ given_by_turn given frame answers → NoEvents (inputs app acts)
unfolding inputs
behind_event app true frame acts answers is =
    subst NoEvents (sym (tail_is frame (inputs app acts) (map answer_frame answers) (sym (gave_first app app frame acts (eq-eqb app app refl)) ∙ is))) (answers_no_events answers)
behind_event app false frame acts answers is = subst NoEvents (sym is) tt

at_end : {Own : Type 0} (Tells : Type 0) (accepts : List TableView → Bool) (allows : List Place → Bool) (event : Event) (old mid : Seen Own) (e : Focus) (mid_net : NetState) (end : TurnEnd) (unread : List ℕ)
    → Tells → Conforming mid → JudgesAlike Own allows accepts → e.events < 2 ^ 64 → Calm old e.net
    → (t : Turns Tells accepts e.index e.rule.budget e.rest (event_frame e.events e.net.moment event) old mid e.net mid_net end unread) → is_heard e.rule.budget e.rest (reply_by t.given t.trace) ≡ true
    → AtEnd allows event old mid e mid_net t.given (reply_by t.given t.trace) t.answers t.outcome
at_end Tells accepts allows event old mid e mid_net end unread told keeps judges few calm t heard =
    let frame = event_frame e.events e.net.moment event in
    let whole = Talk (give_act t.given e.index frame) ∷ t.trace in
    let first : Goes (length e.net.log) [] old old e.net e.net = record { since = begun old e.net; ready = calm.ready } in
    let given_is : mid.given ≡ old.given = (Chain-continues Tells e.index whole old mid e.net mid_net t.chain).given in
    let rests = chain_rests Tells e.index whole old mid e.net mid_net told t.chain in
    let judged : (lost : List ℕ) → Goes (length e.net.log) lost old mid e.net mid_net → allows (places_at old mid mid_net) ≡ accepts mid_net.views =
    λ lost goes. subst (λ (g : Given _). allows (shown_places g.declared (shown_by mid_net) (state mid)) ≡ accepts mid_net.views) given_is
    (judges.alike mid mid_net keeps goes.ready (turn_stays (length e.net.log) lost old mid e.net mid_net goes rests calm).order) in
    let shown = turn-shown Tells accepts allows e.index e.rule.budget e.rest frame old mid e.net mid_net end unread told keeps calm.ready t judged in
    record {
      messages = shown.messages;
      left = shown.left;
      leaves = shown.leaves;
      goes = shown.goes;
      chain = chain_keeps Tells e.index (length e.net.log) [] old e.net whole old mid e.net mid_net told keeps t.chain first calm.sound;
      rests = rests;
      marks = chain_marks Tells e.index t.trace t.chain.1.0 mid e.net mid_net told t.chain.1.1.1 (behind_event e.index t.given frame (acts_in t.trace) t.answers t.inputs_is)
          ∙ given_marks Tells t.given e.index e.events frame old t.chain.1.0 told t.chain.1.1.0 (event_numbered e.events e.net.moment event few);
      turned = λ packets undone starts said replies front.
          let losses : TurnLosses = record { messages = shown.messages; packets = packets; inner = []; undone = undone } in
          turn_is allows e.events e.net.moment event losses (places_at old old e.net) (app_at e (given_in e.index old) starts (said ∷ replies)) said
          (played_on (play_at old mid mid_net [] shown.left) t.answers t.outcome) refl
          (turn-front (table_of allows) e.rule.budget e.rest (reply_by t.given t.trace) said (fresh_play losses (places_at old old e.net)) heard front
          ∙ ap (λ (p : Play). turn_of (table_of allows) e.rule.budget e.rest (reply_by t.given t.trace) p) (fresh_is old e.net shown.messages packets undone calm.held)
          ∙ shown.played);
    }

-- ---- What a turn tells, and what it leaves

pub given_is : {Own : Type 0} (given : Bool) (trace : List (Beat Own)) → (reply_by given trace).given ≡ given
unfolding reply_of
given_is true trace = refl
given_is false trace = refl

-- ---- A turn that was done

abbrev done_app : Focus → Option (List ℕ) → List Start → List Reply → List (List ℕ) → List ℕ → App
done_app e checkpoint starts replies inputs rest = record {
  rule = e.rule;
  alive = e.alive;
  rest = rest;
  kept = unwrap_or checkpoint e.kept;
  inputs = inputs;
  starts = starts;
  replies = replies;
  done = e.done + 1;
  failed = e.failed;
}

abbrev done_turn : Release → List Event → App → Outcome → Bool → Turned
done_turn release left a outcome given = record { release = release; left = left; app = (a, []); outcome = outcome; given = given }

abbrev done_engine : Option (List ℕ) → List ℕ → NetState → List Event → Focus → Focus
done_engine checkpoint unread net queue e = all_told net queue (record e { rest = unread; kept = unwrap_or checkpoint e.kept; done = e.done + 1 })

-- ---- Switches that were lost in a turn, first in its messages and then behind them

pub record AllLeft {Own : Type 0} (old new : Seen Own) (net : NetState) (left more : List Event) : Type 0 where
  pub events : left_events net.left ≡ left ++ more
  pub lost : lost_of new ≡ lost_of old ++ leavers (left ++ more)

pub all_left : {Own : Type 0} (old mid new : Seen Own) (first_net mid_net then_net net : NetState) (left more : List Event) → first_net.left ≡ [] → LeavesBy old mid first_net mid_net left → then_net.left ≡ mid_net.left → LeavesBy mid new then_net net more
    → AllLeft old new net left more
all_left old mid new first_net mid_net then_net net left more none first same later = record {
  events = ap left_events (later.left_is ∙ ap (λ (ks : List KnownPorts). ks ++ later.gone) (same ∙ first.left_is ∙ ap (λ (ks : List KnownPorts). ks ++ first.gone) none))
      ∙ map-append left_event first.gone later.gone ∙ ap₂ (λ (a b : List Event). a ++ b) first.events_is later.events_is;
  lost = later.lost_is ∙ ap (λ (ds : List ℕ). ds ++ leavers more) first.lost_is ∙ append_assoc (lost_of old) (leavers left) (leavers more)
      ∙ ap (λ (ds : List ℕ). lost_of old ++ ds) (sym (map-append (λ (x : Event). x.dpid) left more));
}

-- their lines
pub losts_is : (names : List (List ℕ)) (gone : List KnownPorts) → lost_text gone ≡ lines_text names (lost_lines (leavers (left_events gone)))
losts_is names [] = refl
losts_is names (k ∷ gone) = ap (λ (text : List ℕ). lost_line k.dpid ++ text) (losts_is names gone)

-- what the release of the held packets leaves, in the places of the beginning
pub record ReleasedSince {Own : Type 0} (old mid new : Seen Own) (mid_net net : NetState) (losing : List PacketLoss) (release_is : Release) : Type 0 where
  pub is : release_is ≡ release losing (places_at old mid mid_net) mid_net.held
  pub places : release_is.places ≡ places_at old new net

pub released_since : {Own : Type 0} (old mid new : Seen Own) (start : ℕ) (sent : List Held) (mid_net net : NetState) (queue now_queue : List Event) → mid.given ≡ old.given
    → (shown : ReleaseShown mid_net.held sent mid new (committed start mid_net) net queue now_queue) → ReleasedSince old mid new mid_net net shown.losing shown.release_is
released_since {Own} old mid new start sent mid_net net queue now_queue given shown =
    let declared : mid.given.declared ≡ old.given.declared = ap (λ (g : Given Own). g.declared) given in
    record {
      is = shown.is ∙ ap (λ (ds : List Declared). release shown.losing (shown_places ds (shown_by mid_net) (state mid)) mid_net.held) declared;
      places = sym shown.places ∙ ap (λ (ds : List Declared). shown_places ds (shown_by net) (state new)) declared;
    }

done_alike : {Own : Type 0} (Tells : Type 0) (allows : List Place → Bool) (event : Event) (stop : Bool) (unread text : List ℕ) (old mid new : Seen Own) (e : Focus) (mid_net net : NetState) (queue : List Event) (sent : List (ℕ × ℕ)) (given : Bool) (trace : List (Beat Own)) (answers : List Answer) (outcome : Outcome)
    → Tells → Conforming new → mid.given ≡ old.given → Commits Tells (length e.net.log) mid new mid_net net e.queue queue (Ok sent) → IsEnd (ends.Done stop) unread outcome → text ≡ turn_line e.rule.name (turn_word (ends.Done stop)) ++ (out_text sent ++ lost_text net.left)
    → given_in e.index mid ≡ given_in e.index old ++ given_by_turn given (event_frame e.events e.net.moment event) answers → Calm old e.net
    → AtEnd allows event old mid e mid_net given (reply_by given trace) answers outcome → AlikeBy allows event stop false text old new e (done_engine (handed outcome) unread net queue e) [] (reply_by given trace)
done_alike Tells allows event stop unread text old mid new e mid_net net queue sent given trace answers (Failed cause) told keeps given_stays commits is text_is inputs_are calm at = absurd is
done_alike Tells allows event stop unread text old mid new e mid_net net queue sent given trace answers (Completed stops checkpoint rest) told keeps given_stays commits is text_is inputs_are calm at =
    let frame = event_frame e.events e.net.moment event in
    let start = length e.net.log in
    let outcome = Completed stops checkpoint rest in
    let only_steps = commits.links told in
    let only = links_state mid new commits.continues.given only_steps in
    let tells = links_tell e.index mid new only_steps in
    let there = turn_stays start (leavers at.left) old mid e.net mid_net at.goes at.rests calm in
    let ready : Ready mid (committed start mid_net) = record { waits = at.goes.ready.waits; agrees = at.goes.ready.agrees; known = at.goes.ready.known } in
    let shown = release-shown Tells mid_net.held commits.ended.sent mid new (committed start mid_net) net e.queue queue told keeps commits.ended.all ready at.chain.sound in
    let since = released_since old mid new start commits.ended.sent mid_net net e.queue queue given_stays shown in
    let there_is = shown.release_is in
    let all = all_left old mid new e.net mid_net (committed start mid_net) net at.left there_is.left calm.left at.leaves refl shown.leaves in
    let left : List Event = at.left ++ there_is.left in
    record {
      losses = record { messages = at.messages; packets = shown.losing; inner = []; undone = [] };
      alike = record {
        outcome = outcome;
        tries = [];
        given = given;
        release = there_is;
        left = left;
        calm = calm_released start mid_net.held commits.ended.sent old mid new mid_net net e.queue queue there shown (links_rest mid new only);
        moment = only.moment ∙ at.rests.moment;
        places = since.places;
        queue = ap₂ (λ (q more : List Event). q ++ more) shown.events all.events ∙ append_assoc e.queue there_is.events left;
        released = shown.released_is ∙ ap (λ (ps : List Held). ps ++ there_is.packets) at.chain.released;
        lost = all.lost;
        events = refl;
        index = refl;
        rule = refl;
        marks = only.marks ∙ at.marks;
        turned = λ later_starts said later_replies starts_is front. at.turned shown.losing [] later_starts said later_replies front
            ∙ ap₂ (λ (b : Bool) (r : Release). done_turn r (at.left ++ r.left) (done_app e checkpoint later_starts later_replies (given_in e.index old ++ given_by_turn b frame answers) rest) outcome b) (front.given ∙ given_is given trace) (sym since.is)
            ∙ ap₂ (λ (i : List (List ℕ)) (x : List ℕ). done_turn there_is left (done_app e checkpoint later_starts later_replies i x) outcome given) (sym (tells.given ∙ inputs_are)) (sym is.1);
        text_is = λ names known later_starts later_replies. text_is
            ∙ ap₂ (λ (word : TurnWord) (more : List ℕ). turn_line e.rule.name word ++ more) (word_is (ends.Done stop) unread outcome is)
            (ap₂ (λ (a b : List ℕ). a ++ b) (ap out_text (commits.ended.answer_is ∙ ap (λ (hs : List Held). map (λ h. (h.0, length h.1.payload)) hs) (sym shown.packets)) ∙ outs_is names there_is.packets)
            (losts_is names net.left ∙ ap (λ (es : List Event). lines_text names (lost_lines (leavers es))) all.events)
            ∙ sym (flat_map-append (line_text names) (out_lines there_is.packets) (lost_lines (leavers left)))
            ∙ ap (lines_text names) (sym (append-nil (out_lines there_is.packets ++ lost_lines (leavers left)))))
            ∙ ap (λ (n : List ℕ). turn_line n (outcome_word outcome) ++ lines_text names ((out_lines there_is.packets ++ lost_lines (leavers left)) ++ [])) (sym known);
      };
      stops_is = sym is.0;
      fails_is = refl;
    }

-- ---- A turn that failed

abbrev failed_app : Focus → List Start → List Reply → List (List ℕ) → App
failed_app e starts replies inputs = record {
  rule = e.rule;
  alive = e.alive;
  rest = [];
  kept = e.kept;
  inputs = inputs;
  starts = starts;
  replies = replies;
  done = e.done;
  failed = e.failed + 1;
}

abbrev failed_turn : List Place × List Event → List Event → App × List Tried → Outcome → Bool → Turned
failed_turn r left a outcome given = record { release = undone_release r; left = left; app = a; outcome = outcome; given = given }

abbrev pub failed_engine : NetState → Focus → Focus
failed_engine undone_net e = all_told undone_net e.queue (record e { rest = []; failed = e.failed + 1 })

failed_alike : {Own : Type 0} (Tells : Type 0) (allows : List Place → Bool) (event : Event) (cause : Cause) (unread text later_text : List ℕ) (old mid undone new : Seen Own) (e now_e : Focus) (mid_net undone_net : NetState) (given : Bool) (trace : List (Beat Own)) (answers : List Answer) (outcome : Outcome)
    → Tells → Conforming undone → mid.given ≡ old.given → Undoes Tells (length e.net.log) mid undone mid_net undone_net (Ok tt) → (again : StartsAlike Tells (rule_at e.rule event.kind) later_text undone new (failed_engine undone_net e) now_e)
    → IsEnd (ends.Failed cause) unread outcome → text ≡ turn_line e.rule.name (turn_word (ends.Failed cause)) ++ (lost_text undone_net.left ++ later_text) → given_in e.index mid ≡ given_in e.index old ++ given_by_turn given (event_frame e.events e.net.moment event) answers → Calm old e.net
    → AtEnd allows event old mid e mid_net given (reply_by given trace) answers outcome → AlikeBy allows event false true text old new e now_e again.starts (reply_by given trace)
failed_alike Tells allows event cause unread text later_text old mid undone new e now_e mid_net undone_net given trace answers (Completed stops checkpoint rest) told keeps given_stays undoes again is text_is inputs_are calm at = absurd is
failed_alike {Own} Tells allows event cause unread text later_text old mid undone new e now_e mid_net undone_net given trace answers (Failed why) told keeps given_stays undoes again is text_is inputs_are calm at =
    let frame = event_frame e.events e.net.moment event in
    let reply = reply_by given trace in
    let outcome = Failed why in
    let start = length e.net.log in
    let lost = leavers at.left in
    let only_steps = undoes.links told in
    let only = links_state mid undone undoes.continues.given only_steps in
    let tells = links_tell e.index mid undone only_steps in
    let there = turn_stays start lost old mid e.net mid_net at.goes at.rests calm in
    let calm_there = calm_undone Tells start lost old mid undone e.net mid_net undone_net told keeps at.goes undoes there calm.sound (links_rest mid undone only) in
    let shown = undo-shown Tells start lost old mid undone e.net mid_net undone_net told keeps at.goes.since at.goes.ready undoes in
    let gone = lost_parts undoes.parts in
    let declared : mid.given.declared ≡ old.given.declared = ap (λ (g : Given Own). g.declared) given_stays in
    let after : List Place × List Event = undoing gone (places_at old old e.net) (places_at old mid mid_net) in
    let after_is : after ≡ (places_at old undone undone_net, shown.left) =
    subst (λ (ds : List Declared). undoing gone (shown_places ds (shown_by e.net) (state old)) (shown_places ds (shown_by mid_net) (state mid)) ≡ (shown_places ds (shown_by undone_net) (state undone), shown.left)) declared shown.undoing_is in
    let all = all_left old mid undone e.net mid_net mid_net undone_net at.left shown.left calm.left at.leaves refl shown.leaves in
    let left : List Event = at.left ++ shown.left in
    record {
      losses = record { messages = at.messages; packets = []; inner = []; undone = gone };
      alike = record {
        outcome = outcome;
        tries = again.tries;
        given = given;
        release = undone_release (places_at old undone undone_net, shown.left);
        left = left;
        calm = again.calm calm_there;
        moment = again.keeps.rests.moment ∙ only.moment ∙ at.rests.moment;
        places = sym (again.places old.given.declared);
        queue = again.queue ∙ ap (λ (more : List Event). e.queue ++ more) all.events;
        released = again.released ∙ undo-releases-none Tells start mid undone mid_net undone_net (Ok tt) told undoes ∙ at.chain.released ∙ sym (append-nil (released_of old));
        lost = again.lost ∙ all.lost;
        events = again.events;
        index = again.index;
        rule = again.rule;
        marks = again.keeps.marks ∙ only.marks ∙ at.marks;
        turned = λ said_starts said later_replies starts_is front. at.turned [] gone said_starts said later_replies front
            ∙ ap₂ (λ (b : Bool) (r : List Place × List Event). failed_turn r (at.left ++ r.1) (after_failure (rule_at e.rule event.kind) (failed_app e said_starts later_replies (given_in e.index old ++ given_by_turn b frame answers))) outcome b) (front.given ∙ given_is given trace) after_is
            ∙ ap (λ (i : List (List ℕ)). failed_turn (places_at old undone undone_net, shown.left) left (after_failure (rule_at e.rule event.kind) (failed_app e said_starts later_replies i)) outcome given) (sym (tells.given ∙ inputs_are))
            ∙ ap (λ (a : App × List Tried). failed_turn (places_at old undone undone_net, shown.left) left a outcome given) (again.app said_starts later_replies starts_is);
        text_is = λ names known later_starts later_replies. text_is
            ∙ ap₂ (λ (word : TurnWord) (more : List ℕ). turn_line e.rule.name word ++ more) (word_is (ends.Failed cause) unread outcome is)
            (ap₂ (λ (a b : List ℕ). a ++ b) (losts_is names undone_net.left ∙ ap (λ (es : List Event). lines_text names (lost_lines (leavers es))) all.events) (again.text_is names known)
            ∙ sym (flat_map-append (line_text names) (lost_lines (leavers left)) (map (Started e.index) again.tries ++ gone_line e.index now_e.alive)))
            ∙ ap (λ (n : List ℕ). turn_line n (outcome_word outcome) ++ lines_text names (lost_lines (leavers left) ++ (map (Started e.index) again.tries ++ gone_line e.index now_e.alive))) (sym known);
      };
      stops_is = refl;
      fails_is = refl;
    }

-- ---- The whole

turn_tells : {Own : Type 0} (Tells : Type 0) (accepts : List TableView → Bool) (event : Event) (old mid : Seen Own) (e : Focus) (mid_net : NetState) (end : TurnEnd) (unread : List ℕ) → Tells
    → (t : Turns Tells accepts e.index e.rule.budget e.rest (event_frame e.events e.net.moment event) old mid e.net mid_net end unread)
    → TellsGiven e.index old mid (given_by_turn t.given (event_frame e.events e.net.moment event) t.answers)
turn_tells Tells accepts event old mid e mid_net end unread told t =
    subst (TellsGiven e.index old mid) t.inputs_is (chain_tells Tells e.index (Talk (give_act t.given e.index (event_frame e.events e.net.moment event)) ∷ t.trace) old mid e.net mid_net told t.chain)

closed_moves : {Own : Type 0} (Tells : Type 0) (accepts : List TableView → Bool) (allows : List Place → Bool) (event : Event) (text : List ℕ) (old mid new : Seen Own) (e now_e : Focus) (mid_net : NetState) (end : TurnEnd) (unread : List ℕ)
    → Tells → Conforming new → JudgesAlike Own allows accepts → AreRead Own e.index Tells accepts → e.events < 2 ^ 64 → LastStands (own_acts e.index old) → Calm old e.net
    → (t : Turns Tells accepts e.index e.rule.budget e.rest (event_frame e.events e.net.moment event) old mid e.net mid_net end unread) → IsClosed Tells event.kind end (handed t.outcome) unread text (length e.net.log) mid new mid_net e now_e
    → TurnMoves allows event (says_stop end) (end_fails end) text old new e now_e
closed_moves Tells accepts allows event text old mid new e now_e mid_net (ends.Done stop) unread told keeps judges reads few stands calm t closed =
    let read = reads.turn e.rule.budget e.events e.net.moment event e.rest old mid e.net mid_net (ends.Done stop) unread told t stands in
    let commits = closed.commits in
    let keeps_mid = Conforming-before told commits.continues keeps in
    let told_is = turn_tells Tells accepts event old mid e mid_net (ends.Done stop) unread told t in
    let given_stays : mid.given ≡ old.given = (Chain-continues Tells e.index (Talk (give_act t.given e.index (event_frame e.events e.net.moment event)) ∷ t.trace) old mid e.net mid_net t.chain).given in
    let tells = links_tell e.index mid new (commits.links told) in
    let by = done_alike Tells allows event stop unread text old mid new e mid_net closed.net closed.queue closed.sent t.given t.trace t.answers t.outcome told keeps given_stays commits t.ends closed.text_is told_is.given calm
    (at_end Tells accepts allows event old mid e mid_net (ends.Done stop) unread told keeps_mid judges few calm t read.heard) in
    subst (λ (x : Focus). TurnMoves allows event stop false text old new e x) (sym closed.engine) (record {
      starts = [];
      reply = reply_by t.given t.trace;
      tells = record {
        given = commits.continues.given ∙ given_stays;
        read_starts = ap starts_in tells.acts ∙ read.starts ∙ sym (append-nil (starts_in (own_acts e.index old)));
        read_replies = ap replies_in tells.acts ∙ read.replies;
        read_stimuli = tells.stims ∙ told_is.stims;
        life = λ alive. subst LastStands (sym tells.acts) read.life;
      };
      losses = by.losses;
      alike = by.alike;
      stops_is = by.stops_is;
      fails_is = by.fails_is;
    })
closed_moves Tells accepts allows event text old mid new e now_e mid_net (ends.Failed cause) unread told keeps judges reads few stands calm t closed =
    let read = reads.turn e.rule.budget e.events e.net.moment event e.rest old mid e.net mid_net (ends.Failed cause) unread told t stands in
    let undone = closed.undone in
    let undone_net = closed.undone_net in
    let again = follows_alike Tells accepts (rule_at e.rule event.kind) closed.later_text undone new (failed_engine undone_net e) now_e told reads closed.follows in
    let keeps_undone = Conforming-before told again.continues keeps in
    let keeps_mid = Conforming-before told closed.undoes.continues keeps_undone in
    let told_is = turn_tells Tells accepts event old mid e mid_net (ends.Failed cause) unread told t in
    let given_stays : mid.given ≡ old.given = (Chain-continues Tells e.index (Talk (give_act t.given e.index (event_frame e.events e.net.moment event)) ∷ t.trace) old mid e.net mid_net t.chain).given in
    let tells = links_tell e.index mid undone (closed.undoes.links told) in
    let by = failed_alike Tells allows event cause unread text closed.later_text old mid undone new e now_e mid_net undone_net t.given t.trace t.answers t.outcome told keeps_undone given_stays closed.undoes again t.ends closed.text_is told_is.given calm
    (at_end Tells accepts allows event old mid e mid_net (ends.Failed cause) unread told keeps_mid judges few calm t read.heard) in
    record {
      starts = again.starts;
      reply = reply_by t.given t.trace;
      tells = record {
        given = again.continues.given ∙ closed.undoes.continues.given ∙ given_stays;
        read_starts = again.read_starts ∙ ap (λ (acts : List Act). starts_in acts ++ again.starts) tells.acts ∙ ap (λ (xs : List Start). xs ++ again.starts) read.starts;
        read_replies = again.read_replies ∙ ap replies_in tells.acts ∙ read.replies;
        read_stimuli = again.read_stimuli ∙ tells.stims ∙ told_is.stims;
        life = again.life;
      };
      losses = by.losses;
      alike = by.alike;
      stops_is = by.stops_is;
      fails_is = by.fails_is;
    }

pub turn_moves : {Own : Type 0} (Tells : Type 0) (accepts : List TableView → Bool) (allows : List Place → Bool) (event : Event) (text : List ℕ) (old new : Seen Own) (e now_e : Focus)
    → Tells → Conforming new → JudgesAlike Own allows accepts → AreRead Own e.index Tells accepts → e.events < 2 ^ 64 → LastStands (own_acts e.index old) → Calm old e.net → (taken : TakesTurn Tells accepts event text old new e now_e)
    → TurnMoves allows event (says_stop taken.end) (end_fails taken.end) text old new e now_e
turn_moves Tells accepts allows event text old new e now_e told keeps judges reads few stands calm turn =
    closed_moves Tells accepts allows event text old turn.mid new e now_e turn.mid_net turn.end turn.unread told keeps judges reads few stands calm turn.turns turn.closed
