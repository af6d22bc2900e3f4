-- A turn of a group, in the transaction of all of them: it goes as the reference controller plays it behind the turns before it.
use Rattle.std.proofs.Common.{◌≡◌, ℕ, ◌^◌, ◌<◌, Bool, true, false, List, [], ◌∷◌, ◌++◌, length, drop, Some, if◌then◌else◌, refl, sym, ap, ap₂, ◌∙◌, subst}
use Rattle.std.specs.Prelude.{◌||◌}
use Rattle.flow_table.specs.View.{TableView}
use Rattle.app_frames.specs.declared.frame.Event.{Event}
use Rattle.app_frames.specs.declared.frame.Answer.{Answer}
use Rattle.lego_model.specs.Agreement.{AgreeMarks}
use Rattle.lego_model.specs.Journal.{Reply, Start, inputs, give_act}
use Rattle.lego_model.specs.Places.{Place}
use Rattle.lego_model.specs.Packets.{Play}
use Rattle.lego_model.specs.Turns.{Outcome, Completed, Failed, Played, turn_of}
use Rattle.lego_model.specs.Scripted.{IsFront}
use Rattle.lego_model.specs.laws.ScriptedLaws.{turn-front}
use Rattle.lego_model.specs.Losses.{PacketLoss, TurnLosses, Losses, next_turn, turn_fewer}
use Rattle.lego_model.specs.Controller.{App, Group, Line, EndedInstead, table_of, event_frame, given_in as given_by_turn, leavers, next_reply, marked, with_losses, after_instead, is_failed, says_stop as outcome_stops, turn_instead, turns_instead}
use Rattle.lego_model.specs.RunReport.{name_of, line_text, instead_line}
use Rattle.lego_model.specs.declared.turn.TurnWord.{TurnWord}
use Rattle.lego_model.specs.History.{starts_in, replies_in, own_acts, given_in, stimuli_in, released_of, points_in}
use Rattle.outside.specs.Seen.{Given, Seen}
use Rattle.outside.specs.State.{Mark, state, marks_at_event}
use Rattle.outside.specs.Conforming.{Conforming}
use Rattle.outside.specs.laws.StateLaws.{Conforming-before}
use Rattle.net_txn.specs.Net.{NetState}
use Rattle.app_visor.specs.declared.state.TurnEnd.{TurnEnd}
use Rattle.app_visor.specs.declared.state.TurnEnd.TheVariants as ends
use Rattle.app_visor.specs.Beats.{Talk, acts_in}
use Rattle.app_visor.specs.laws.BeatLaws.{Chain-continues}
use Rattle.app_visor.specs.laws.TableLaws.{turn_alike}
use Rattle.app_visor.specs.Turns.{IsEnd, LeavesNone, handed, reply_by, Turns, played_on}
use Rattle.switch_laws.specs.Shown.{shown_places, shown_by}
use Rattle.switch_laws.specs.Lost.{LeavesBy}
use Rattle.switch_laws.specs.Since.{Goes}
use Rattle.switch_laws.specs.Sound.{Sound}
use Rattle.switch_laws.specs.laws.LossLaws.{leaves-then, leavers-append}
use Rattle.switch_laws.specs.laws.StandLaws.{state-links}
use Rattle.turn_laws.specs.Chain.{play_at}
use Rattle.turn_laws.specs.laws.ChainLaws.{chain-shown}
use Rattle.batch_laws.specs.Calm.{Calm}
use Rattle.journal_laws.specs.Readings.{LastStands}
use Rattle.run_laws.specs.Engine.{Focus, ahead}
use Rattle.run_laws.specs.Facts.{Turning, turned, line_by}
use Rattle.run_laws.specs.LinkSteps.{Rests, TellsGiven}
use Rattle.run_laws.specs.Readings.{AreRead, JudgesAlike}
use Rattle.run_laws.specs.laws.CalmLaws.{Rests-trans, turn_stays}
use Rattle.run_laws.specs.laws.ChainLaws.{chain_rests, chain_marks, given_marks}
use Rattle.run_laws.specs.laws.FrameLaws.{event_numbered}
use Rattle.run_laws.specs.laws.LineLaws.{word_is}
use Rattle.run_laws.specs.laws.PointLaws.{marks_at_events}
use Rattle.run_laws.specs.laws.TellLaws.{chain_tells, chain_keeps}
use Rattle.run_laws.specs.laws.TurnMoveLaws.{behind_event, given_is}

-- ---- Where a group stands

-- how a group stands to where its transaction began, where these Leave events are of the switches that were lost since
pub record Stood {Own : Type 0} (first : Seen Own) (e : Focus) (left : List Event) (t : Turning Own) : Type 0 where
  pub goes : Goes (length e.net.log) (leavers left) first t.seen e.net t.net
  pub leaves : LeavesBy first t.seen e.net t.net left
  pub rests : Rests (state first) (state t.seen)
  pub sound : Sound (state t.seen)
  pub released : released_of t.seen ≡ released_of first
  pub starts : starts_in (own_acts e.index t.seen) ≡ starts_in (own_acts e.index first)
  pub stims : stimuli_in t.seen ≡ stimuli_in first
  pub life : LastStands (own_acts e.index t.seen)

abbrev pub inside : {Own : Type 0} → Focus → Turning Own → List (List ℕ) → List Start → List Reply → App
inside e t inputs starts replies = record {
  rule = e.rule;
  alive = e.alive;
  rest = t.rest;
  kept = t.kept;
  inputs = inputs;
  starts = starts;
  replies = replies;
  done = t.done;
  failed = t.failed;
}

-- the group of the reference controller that stands so, whether one turn failed or not
abbrev pub group_so : {Own : Type 0} → Bool → Seen Own → Focus → Turning Own → List Event → TurnLosses → List Line → Losses → List Mark → List Start → List Reply → Group
group_so fails first e t left last lines losses marks starts replies = record {
  play = play_at first t.seen t.net [] left;
  app = inside e t (given_in e.index t.seen) starts replies;
  stops = t.stops;
  fails = fails;
  last = last;
  lines = lines;
  losses = losses;
  marks = marks;
}

abbrev pub group_at : {Own : Type 0} → Seen Own → Focus → Turning Own → List Event → TurnLosses → List Line → Losses → List Mark → List Start → List Reply → Group
group_at first e t left last lines losses marks starts replies = group_so t.fails first e t left last lines losses marks starts replies

abbrev pub losses_by : List PacketLoss → List ℕ → List Bool → TurnLosses
losses_by packets undone messages = record { messages = messages; packets = packets; inner = []; undone = undone }

-- ---- One turn of the reference controller, step by step

abbrev turned_instead : (number moment i : ℕ) → Event → Group → TurnLosses → Reply → Played Play → Group
turned_instead number moment i event g losses reply played = record {
  play = played.state;
  app = after_instead played.outcome (record g.app { replies = drop 1 g.app.replies; inputs = g.app.inputs ++ given_by_turn reply.given (event_frame number moment event) played.answers });
  stops = g.stops || outcome_stops played.outcome;
  fails = is_failed played.outcome;
  last = losses;
  lines = g.lines ++ EndedInstead i event played.outcome ∷ [];
  losses = turn_fewer g.losses;
  marks = marked reply.given number g.play.places g.marks;
}

turn_instead_is : (allows : List Place → Bool) (number moment i : ℕ) (event : Event) (g : Group) (losses : TurnLosses) (reply : Reply) (played : Played Play) → next_turn g.losses.turns ≡ losses → next_reply g.app.replies ≡ reply
    → turn_of (table_of allows) g.app.rule.budget g.app.rest reply (with_losses losses g.play) ≡ played → turn_instead allows number moment i event g ≡ turned_instead number moment i event g losses reply played
unfolding turn_instead
turn_instead_is allows number moment i event g losses reply played lost next is = rw (lost, next, is) refl

-- one after the other

turns_first : (allows : List Place → Bool) (number moment i : ℕ) (event : Event) (events : List Event) (g : Group)
    → turns_instead allows number moment i (event ∷ events) g ≡ (let next = turn_instead allows number moment i event g in if next.fails then next else turns_instead allows number moment i events next)
unfolding turns_instead
turns_first allows number moment i event events g = refl

pub turns_none : (allows : List Place → Bool) (number moment i : ℕ) (g : Group) → turns_instead allows number moment i [] g ≡ g
unfolding turns_instead
turns_none allows number moment i g = refl

pub turns_on : (allows : List Place → Bool) (number moment i : ℕ) (event : Event) (events : List Event) (g next : Group) → turn_instead allows number moment i event g ≡ next → next.fails ≡ false
    → turns_instead allows number moment i (event ∷ events) g ≡ turns_instead allows number moment i events next
turns_on allows number moment i event events g next is goes =
    turns_first allows number moment i event events g
    ∙ ap (λ (x : Group). if x.fails then x else turns_instead allows number moment i events x) is
    ∙ ap (λ (b : Bool). if b then next else turns_instead allows number moment i events next) goes

pub turns_over : (allows : List Place → Bool) (number moment i : ℕ) (event : Event) (events : List Event) (g next : Group) → turn_instead allows number moment i event g ≡ next → next.fails ≡ true
    → turns_instead allows number moment i (event ∷ events) g ≡ next
turns_over allows number moment i event events g next is fails =
    turns_first allows number moment i event events g
    ∙ ap (λ (x : Group). if x.fails then x else turns_instead allows number moment i events x) is
    ∙ ap (λ (b : Bool). if b then next else turns_instead allows number moment i events next) fails

-- ---- One turn of both

-- the group behind it
abbrev turned_instead_at : {Own : Type 0} → Seen Own → Seen Own → Focus → Event → List ℕ → Turning Own → NetState → List Event → TurnLosses → List Line → Losses → List Mark → List Start → List Reply → List Answer → Bool → Outcome → Group
turned_instead_at first mid e event frame from mid_net left this lines losses marks starts replies answers said_given outcome = record {
  play = play_at first mid mid_net [] left;
  app = after_instead outcome (inside e from (given_in e.index from.seen ++ given_by_turn said_given frame answers) starts replies);
  stops = from.stops || outcome_stops outcome;
  fails = is_failed outcome;
  last = this;
  lines = lines ++ EndedInstead e.index event outcome ∷ [];
  losses = losses;
  marks = marked said_given e.events (shown_places first.given.declared (shown_by from.net) (state from.seen)) marks;
}

-- what a turn that ended so leaves
next_is : {Own : Type 0} (first mid : Seen Own) (e : Focus) (event : Event) (frame : List ℕ) (from : Turning Own) (mid_net : NetState) (left : List Event) (this : TurnLosses) (lines : List Line) (losses : Losses) (marks : List Mark) (starts : List Start) (replies : List Reply) (line : List ℕ) (answers : List Answer) (given said_given : Bool)
    (end : TurnEnd) (unread : List ℕ) (outcome : Outcome) → IsEnd end unread outcome → LeavesNone end unread → said_given ≡ given → given_in e.index mid ≡ given_in e.index from.seen ++ given_by_turn given frame answers
    → turned_instead_at first mid e event frame from mid_net left this lines losses marks starts replies answers said_given outcome
    ≡ group_at first e (turned end (handed outcome) unread mid mid_net line from) left this (lines ++ EndedInstead e.index event outcome ∷ []) losses (marked given e.events (shown_places first.given.declared (shown_by from.net) (state from.seen)) marks) starts replies
next_is first mid e event frame from mid_net left this lines losses marks starts replies line answers given said_given (ends.Done stop) unread (Completed stops checkpoint rest) is none same told = rw (same, sym told, is.0, is.1) refl
next_is first mid e event frame from mid_net left this lines losses marks starts replies line answers given said_given (ends.Done stop) unread (Failed cause) is none same told = absurd is
next_is first mid e event frame from mid_net left this lines losses marks starts replies line answers given said_given (ends.Failed why) unread (Completed stops checkpoint rest) is none same told = absurd is
next_is first mid e event frame from mid_net left this lines losses marks starts replies line answers given said_given (ends.Failed why) unread (Failed cause) is none same told = rw (same, sym told, none) refl

pub record OneMore {Own : Type 0} (allows : List Place → Bool) (first : Seen Own) (e : Focus) (event : Event) (left : List Event) (from next : Turning Own) (reply : Reply) : Type 0 where
  pub messages : List Bool
  pub more : List Event
  pub stood : Stood first e (left ++ more) next
  pub replies : replies_in (own_acts e.index next.seen) ≡ replies_in (own_acts e.index from.seen) ++ reply ∷ []
  pub line : Line
  pub given : Bool
  pub marks : (ms : List Mark) → AgreeMarks (points_in from.seen) ms → AgreeMarks (points_in next.seen) (marked given e.events (shown_places first.given.declared (shown_by from.net) (state from.seen)) ms)
  pub played : (packets : List PacketLoss) (undone : List ℕ) (starts : List Start) (said : Reply) (replies : List Reply) (last : TurnLosses) (lines : List Line) (turns : List TurnLosses) (later : Losses) (ms : List Mark) → IsFront reply said
      → turn_instead allows e.events e.net.moment e.index event (group_at first e from left last lines (ahead [] (losses_by packets undone messages ∷ turns) later) ms starts (said ∷ replies))
      ≡ group_at first e next (left ++ more) (losses_by packets undone messages) (lines ++ line ∷ []) (ahead [] turns later) (marked given e.events (shown_places first.given.declared (shown_by from.net) (state from.seen)) ms) starts replies
  pub text : (names : List (List ℕ)) → name_of e.index names ≡ e.rule.name → next.text ≡ from.text ++ line_text names line

pub one_more : {Own : Type 0} (Tells : Type 0) (accepts : List TableView → Bool) (allows : List Place → Bool) (event : Event) (line : List ℕ) (first : Seen Own) (e : Focus) (left : List Event) (from : Turning Own) (mid : Seen Own) (mid_net : NetState) (end : TurnEnd) (unread : List ℕ)
    → Tells → Conforming mid → JudgesAlike Own allows accepts → AreRead Own e.index Tells accepts → e.events < 2 ^ 64 → Calm first e.net → Stood first e left from → line ≡ line_by e.rule.name event end
    → (t : Turns Tells accepts e.index e.rule.budget from.rest (event_frame e.events from.net.moment event) from.seen mid from.net mid_net end unread)
    → OneMore allows first e event left from (turned end (handed t.outcome) unread mid mid_net line from) (reply_by t.given t.trace)
one_more {Own} Tells accepts allows event line first e left from mid mid_net end unread told keeps judges reads few calm stood line_is t =
    let moment = from.net.moment in
    let frame = event_frame e.events moment event in
    let whole = Talk (give_act t.given e.index frame) ∷ t.trace in
    let start = length e.net.log in
    let lost = leavers left in
    let reply = reply_by t.given t.trace in
    let read = reads.turn e.rule.budget e.events moment event from.rest from.seen mid from.net mid_net end unread told t stood.life in
    let keeps_from = Conforming-before told (Chain-continues Tells e.index whole from.seen mid from.net mid_net t.chain) keeps in
    let leads = chain-shown Tells e.index allows start lost first e.net whole from.seen mid from.net mid_net told keeps t.chain stood.goes in
    let rests = Rests-trans (state first) (state from.seen) (state mid) stood.rests (chain_rests Tells e.index whole from.seen mid from.net mid_net told t.chain) in
    let kept = chain_keeps Tells e.index start lost first e.net whole from.seen mid from.net mid_net told keeps t.chain stood.goes stood.sound in
    let told_is = subst (TellsGiven e.index from.seen mid) t.inputs_is (chain_tells Tells e.index whole from.seen mid from.net mid_net told t.chain) in
    let marks_is : (state mid).marks ≡ (if t.given then marks_at_event (Some e.events) (state from.seen) else (state from.seen).marks) =
    chain_marks Tells e.index t.trace t.chain.1.0 mid from.net mid_net told t.chain.1.1.1 (behind_event e.index t.given frame (acts_in t.trace) t.answers t.inputs_is)
    ∙ given_marks Tells t.given e.index e.events frame from.seen t.chain.1.0 told t.chain.1.1.0 (event_numbered e.events moment event few) in
    let judged : allows (shown_places first.given.declared (shown_by mid_net) (state mid)) ≡ accepts mid_net.views =
    subst (λ (g : Given Own). allows (shown_places g.declared (shown_by mid_net) (state mid)) ≡ accepts mid_net.views) leads.goes.since.given
    (judges.alike mid mid_net keeps leads.goes.ready (turn_stays start (lost ++ leavers leads.left) first mid e.net mid_net leads.goes rests calm).order) in
    record {
      messages = leads.messages;
      more = leads.left;
      stood = record {
        goes = subst (λ (ds : List ℕ). Goes start ds first mid e.net mid_net) (sym (leavers-append left leads.left)) leads.goes;
        leaves = leaves-then first from.seen mid e.net from.net mid_net left leads.left stood.leaves leads.leaves;
        rests = rests;
        sound = kept.sound;
        released = kept.released ∙ stood.released;
        starts = read.starts ∙ stood.starts;
        stims = told_is.stims ∙ stood.stims;
        life = read.life;
      };
      replies = read.replies;
      line = EndedInstead e.index event t.outcome;
      given = t.given;
      marks = λ ms agree. subst (λ (qs : List Mark). AgreeMarks qs (marked t.given e.events (shown_places first.given.declared (shown_by from.net) (state from.seen)) ms)) (sym marks_is)
          (subst (λ (g : Given Own). AgreeMarks (if t.given then marks_at_event (Some e.events) (state from.seen) else (state from.seen).marks) (marked t.given e.events (shown_places g.declared (shown_by from.net) (state from.seen)) ms)) stood.goes.since.given
          (marks_at_events t.given e.events from.seen.given.declared from.net.views (state from.seen) ms (state-links from.seen).declared_is keeps_from.declared agree));
      played = λ packets undone starts said replies last lines turns later ms front.
          let this = losses_by packets undone leads.messages in
          let g = group_at first e from left last lines (ahead [] (this ∷ turns) later) ms starts (said ∷ replies) in
          subst (λ (m : ℕ). turn_instead allows e.events m e.index event g
          ≡ group_at first e (turned end (handed t.outcome) unread mid mid_net line from) (left ++ leads.left) this (lines ++ EndedInstead e.index event t.outcome ∷ []) (ahead [] turns later) (marked t.given e.events (shown_places first.given.declared (shown_by from.net) (state from.seen)) ms) starts replies) stood.goes.since.moment
          (turn_instead_is allows e.events moment e.index event g this said (played_on (play_at first mid mid_net [] (left ++ leads.left)) t.answers t.outcome) refl refl
          (turn-front (table_of allows) e.rule.budget from.rest reply said (with_losses this g.play) read.heard front
          ∙ turn_alike (table_of allows) (play_at first from.seen from.net leads.messages left) (play_at first mid mid_net [] (left ++ leads.left)) t (leads.answers left) judged)
          ∙ next_is first mid e event frame from mid_net (left ++ leads.left) this lines (ahead [] turns later) ms starts replies line t.answers t.given said.given end unread t.outcome t.ends t.leaves (front.given ∙ given_is t.given t.trace) told_is.given);
      text = λ names known. ap (λ (more : List ℕ). from.text ++ more) (line_is
          ∙ ap₂ (λ (name : List ℕ) (word : TurnWord). instead_line name event.kind event.dpid word) (sym known) (word_is end unread t.outcome t.ends));
    }
