-- The law of a group of turns: what the engine makes of it is what the reference controller does, whether all turns were done and what they held was
-- released, once, or one failed and all of them were undone, and the application started again.
use Rattle.std.proofs.Common.{◌≡◌, ℕ, ◌+◌, ◌^◌, ◌<◌, Bool, true, false, List, [], ◌∷◌, ◌++◌, length, drop, map, Option, Ok, refl, sym, ap, ap₂, ◌∙◌, subst, append_assoc, arith, true≢false}
use Rattle.std.specs.Prelude.{◌&&◌, not}
use Rattle.std.proofs.lemmas.List.{append-nil}
use Rattle.std.proofs.lemmas.List.Concat.{flat_map-append}
use Rattle.flow_table.specs.View.{TableView}
use Rattle.flow_table.specs.Switch.{Declared}
use Rattle.app_frames.specs.declared.frame.Event.{Event}
use Rattle.app_frames.specs.declared.cause.Tried.{Tried}
use Rattle.crash_policy.specs.declared.policy_file.Policy.TheVariants as policy
use Rattle.lego_model.specs.Agreement.{AgreeMarks}
use Rattle.lego_model.specs.Journal.{Reply, Start, give_act}
use Rattle.lego_model.specs.Places.{Place}
use Rattle.lego_model.specs.Packets.{Held, HeldBack, fresh_play}
use Rattle.lego_model.specs.Scripted.{AreFronts}
use Rattle.lego_model.specs.Losses.{PacketLoss, TurnLosses, Losses, no_loss}
use Rattle.lego_model.specs.Controller.{App, Group, Had, Line, Started, Grouped, Run, Release, event_frame, fresh_group, group, group_had, gone_line, leavers, lost_lines, out_lines, release, started, attempts, undoing, turns_instead, marked}
use Rattle.lego_model.specs.RunReport.{name_of, line_text, group_line}
use Rattle.lego_model.specs.History.{starts_in, replies_in, own_acts, given_in, points_in}
use Rattle.outside.specs.Seen.{Given, Seen, Continues}
use Rattle.outside.specs.State.{Mark, state}
use Rattle.outside.specs.Conforming.{Conforming}
use Rattle.outside.specs.laws.SeenLaws.{Continues-refl, Continues-trans}
use Rattle.outside.specs.laws.StateLaws.{Conforming-before}
use Rattle.net_txn.specs.Net.{NetState}
use Rattle.net_txn.specs.Undos.{lost_parts}
use Rattle.net_txn.specs.Releases.{committed}
use Rattle.app_visor.specs.declared.state.TurnEnd.{TurnEnd}
use Rattle.app_visor.specs.declared.state.TurnEnd.TheVariants as ends
use Rattle.app_visor.specs.Beats.{Talk}
use Rattle.app_visor.specs.laws.BeatLaws.{Chain-continues}
use Rattle.app_visor.specs.Turns.{handed, reply_by, Turns}
use Rattle.switch_laws.specs.Shown.{shown_places, shown_by}
use Rattle.switch_laws.specs.Since.{Ready}
use Rattle.switch_laws.specs.laws.LossLaws.{leaves-none}
use Rattle.switch_laws.specs.laws.OrderlyLaws.{undo-releases-none}
use Rattle.switch_laws.specs.laws.ReleaseLaws.{release-shown}
use Rattle.switch_laws.specs.laws.ShownUndoLaws.{undo-shown}
use Rattle.switch_laws.specs.laws.SinceLaws.{begun}
use Rattle.batch_laws.specs.Calm.{Calm}
use Rattle.journal_laws.specs.Readings.{LastStands}
use Rattle.run_laws.specs.Engine.{Focus, app_at, ahead, Shares}
use Rattle.run_laws.specs.EventMoves.{IsHadAlike, HadMoves}
use Rattle.run_laws.specs.Facts.{all_told, out_text, Turning, turning_at, turned, unless_failed, line_by, PlaysAll, KeepsGroup, UndoesGroup, ClosesGroup, TakesGroup, group_stops}
use Rattle.run_laws.specs.LastReport.{lines_text}
use Rattle.run_laws.specs.Readings.{AreRead, JudgesAlike}
use Rattle.run_laws.specs.laws.CalmLaws.{Rests-refl, turn_stays, calm_released, calm_undone}
use Rattle.run_laws.specs.laws.ChainLaws.{links_state, links_rest, links_tell}
use Rattle.run_laws.specs.laws.InsteadLaws.{Stood, inside, group_so, group_at, losses_by, turns_none, turns_on, turns_over, OneMore, one_more}
use Rattle.run_laws.specs.laws.LineLaws.{outs_is}
use Rattle.run_laws.specs.laws.StartMoveLaws.{follows_alike, equivalence_is}
use Rattle.run_laws.specs.laws.TurnMoveLaws.{all_left, losts_is, released_since, places_at, failed_engine}

-- ---- Turns one after the other

pub plays_continue : {Own : Type 0} (Tells : Type 0) (accepts : List TableView → Bool) (app : ℕ) (name : List ℕ) (budget number : ℕ) (events : List Event) (from to : Turning Own) → PlaysAll Tells accepts app name budget number events from to → Continues Tells from.seen to.seen
plays_continue Tells accepts app name budget number [] from to none = subst (λ (t : Turning _). Continues Tells from.seen t.seen) (sym none) (Continues-refl Tells from.seen)
plays_continue {Own} Tells accepts app name budget number (event ∷ events) from to (one, on) =
    Continues-trans Tells from.seen one.mid to.seen
    (Chain-continues Tells app (Talk (give_act one.turns.given app (event_frame number from.net.moment event)) ∷ one.turns.trace) from.seen one.mid from.net one.mid_net one.turns.chain)
    (later one.mid one.mid_net one.end one.unread (handed one.turns.outcome) on (λ next plays. plays_continue Tells accepts app name budget number events next to plays))
  where
    later : (mid : Seen Own) (mid_net : NetState) (end : TurnEnd) (unread : List ℕ) (checkpoint : Option (List ℕ))
        → unless_failed end (to ≡ turned end checkpoint unread mid mid_net (line_by name event end) from) (PlaysAll Tells accepts app name budget number events (turned end checkpoint unread mid mid_net (line_by name event end) from) to)
        → ((next : Turning Own) → PlaysAll Tells accepts app name budget number events next to → Continues Tells next.seen to.seen) → Continues Tells mid to.seen
    later mid mid_net (ends.Done stop) unread checkpoint goes go = go (turned (ends.Done stop) checkpoint unread mid mid_net (line_by name event (ends.Done stop)) from) goes
    later mid mid_net (ends.Failed cause) unread checkpoint over go = subst (λ (t : Turning Own). Continues Tells mid t.seen) (sym over) (Continues-refl Tells mid)

-- how many turns were done where none failed, and how many failed
plays_done : {Own : Type 0} (Tells : Type 0) (accepts : List TableView → Bool) (app : ℕ) (name : List ℕ) (budget number : ℕ) (events : List Event) (from to : Turning Own) → PlaysAll Tells accepts app name budget number events from to → to.fails ≡ false
    → (to.done ≡ from.done + length events) × (to.failed ≡ from.failed)
plays_done Tells accepts app name budget number [] from to none whole = (ap (λ (t : Turning _). t.done) none ∙ omega arith, ap (λ (t : Turning _). t.failed) none)
plays_done {Own} Tells accepts app name budget number (event ∷ events) from to (one, on) whole =
    later one.mid one.mid_net one.end one.unread (handed one.turns.outcome) on (λ next plays. plays_done Tells accepts app name budget number events next to plays whole)
  where
    later : (mid : Seen Own) (mid_net : NetState) (end : TurnEnd) (unread : List ℕ) (checkpoint : Option (List ℕ))
        → unless_failed end (to ≡ turned end checkpoint unread mid mid_net (line_by name event end) from) (PlaysAll Tells accepts app name budget number events (turned end checkpoint unread mid mid_net (line_by name event end) from) to)
        → ((next : Turning Own) → PlaysAll Tells accepts app name budget number events next to → (to.done ≡ next.done + length events) × (to.failed ≡ next.failed))
        → (to.done ≡ from.done + length (event ∷ events)) × (to.failed ≡ from.failed)
    later mid mid_net (ends.Done stop) unread checkpoint goes go =
        let rest = go (turned (ends.Done stop) checkpoint unread mid mid_net (line_by name event (ends.Done stop)) from) goes in
        (omega (arith, rest.0), rest.1)
    later mid mid_net (ends.Failed cause) unread checkpoint over go = absurd (true≢false (sym (ap (λ (t : Turning Own). t.fails) over) ∙ whole))

pub plays_failed : {Own : Type 0} (Tells : Type 0) (accepts : List TableView → Bool) (app : ℕ) (name : List ℕ) (budget number : ℕ) (events : List Event) (from to : Turning Own) → PlaysAll Tells accepts app name budget number events from to → from.fails ≡ false → to.fails ≡ true
    → (to.failed ≡ from.failed + 1) × (to.rest ≡ [])
plays_failed Tells accepts app name budget number [] from to none whole fails = absurd (true≢false (sym fails ∙ ap (λ (t : Turning _). t.fails) none ∙ whole))
plays_failed {Own} Tells accepts app name budget number (event ∷ events) from to (one, on) whole fails =
    later one.mid one.mid_net one.end one.unread one.turns on (λ next goes plays. plays_failed Tells accepts app name budget number events next to plays goes fails)
  where
    later : (mid : Seen Own) (mid_net : NetState) (end : TurnEnd) (unread : List ℕ) (t : Turns Tells accepts app budget from.rest (event_frame number from.net.moment event) from.seen mid from.net mid_net end unread)
        → unless_failed end (to ≡ turned end (handed t.outcome) unread mid mid_net (line_by name event end) from) (PlaysAll Tells accepts app name budget number events (turned end (handed t.outcome) unread mid mid_net (line_by name event end) from) to)
        → ((next : Turning Own) → next.fails ≡ false → PlaysAll Tells accepts app name budget number events next to → (to.failed ≡ next.failed + 1) × (to.rest ≡ []))
        → (to.failed ≡ from.failed + 1) × (to.rest ≡ [])
    later mid mid_net (ends.Done stop) unread t goes go =
        go (turned (ends.Done stop) (handed t.outcome) unread mid mid_net (line_by name event (ends.Done stop)) from) refl goes
    later mid mid_net (ends.Failed cause) unread t over go = (ap (λ (x : Turning Own). x.failed) over, ap (λ (x : Turning Own). x.rest) over ∙ t.leaves)

-- ---- What the reference controller plays alike

abbrev LastIs : List PacketLoss → List ℕ → TurnLosses → Type 0
LastIs packets undone last = (last.packets ≡ packets) × (last.undone ≡ undone)

-- before no turn it is so; a turn makes it so
abbrev LastBefore : List Event → List PacketLoss → List ℕ → TurnLosses → Type 0
LastBefore [] packets undone last = LastIs packets undone last
LastBefore (event ∷ events) packets undone last = Unit {0}

last_before : (events : List Event) (packets : List PacketLoss) (undone : List ℕ) (last : TurnLosses) → LastIs packets undone last → LastBefore events packets undone last
last_before [] packets undone last is = is
last_before (event ∷ events) packets undone last is = tt

record IsPlayed {Own : Type 0} (first : Seen Own) (e : Focus) (to : Turning Own) (left : List Event) (packets : List PacketLoss) (undone : List ℕ) (lines : List Line) (later : Losses) (starts : List Start) (replies : List Reply) (g : Group) : Type 0 where
  last : TurnLosses
  marks : List Mark
  last_is : LastIs packets undone last
  agree : AgreeMarks (points_in to.seen) marks
  is : g ≡ group_at first e to left last lines later marks starts replies

record AllPlayed {Own : Type 0} (allows : List Place → Bool) (events : List Event) (first : Seen Own) (e : Focus) (left : List Event) (from to : Turning Own) : Type 0 where
  more : List Event
  stood : Stood first e (left ++ more) to
  replies : List Reply
  read : replies_in (own_acts e.index to.seen) ≡ replies_in (own_acts e.index from.seen) ++ replies
  flags : List (List Bool)
  lines : List Line
  text : (names : List (List ℕ)) → name_of e.index names ≡ e.rule.name → to.text ≡ from.text ++ lines_text names lines
  played : (packets : List PacketLoss) (undone : List ℕ) (starts : List Start) (said : List Reply) (last : TurnLosses) (so_far : List Line) (later : Losses) (ms : List Mark) → LastBefore events packets undone last → AreFronts replies said → AgreeMarks (points_in from.seen) ms
      → IsPlayed first e to (left ++ more) packets undone (so_far ++ lines) later starts (drop (length replies) said)
      (turns_instead allows e.events e.net.moment e.index events (group_at first e from left last so_far (ahead [] (map (losses_by packets undone) flags) later) ms starts said))

none_played : {Own : Type 0} (allows : List Place → Bool) (first : Seen Own) (e : Focus) (left : List Event) (from : Turning Own) → Stood first e left from → AllPlayed allows [] first e left from from
none_played allows first e left from stood = record {
  more = [];
  stood = subst (λ (l : List Event). Stood first e l from) (sym (append-nil left)) stood;
  replies = [];
  read = sym (append-nil (replies_in (own_acts e.index from.seen)));
  flags = [];
  lines = [];
  text = λ names known. sym (append-nil from.text);
  played = λ packets undone starts said last so_far later ms last_is fronts agree. record {
    last = last;
    marks = ms;
    last_is = last_is;
    agree = agree;
    is = turns_none allows e.events e.net.moment e.index (group_at first e from left last so_far later ms starts said)
        ∙ ap₂ (λ (l : List Event) (lines : List Line). group_at first e from l last lines later ms starts said) (sym (append-nil left)) (sym (append-nil so_far));
  };
}

-- one turn that failed is the last
over_played : {Own : Type 0} (allows : List Place → Bool) (event : Event) (events : List Event) (first : Seen Own) (e : Focus) (left : List Event) (from next : Turning Own) (reply : Reply) → OneMore allows first e event left from next reply → next.fails ≡ true → AllPlayed allows (event ∷ events) first e left from next
over_played {Own} allows event events first e left from next reply one fails = record {
  more = one.more;
  stood = one.stood;
  replies = reply ∷ [];
  read = one.replies;
  flags = one.messages ∷ [];
  lines = one.line ∷ [];
  text = λ names known. one.text names known ∙ ap (λ (more : List ℕ). from.text ++ more) (sym (append-nil (line_text names one.line)));
  played = λ packets undone starts said last so_far later ms last_is fronts agree. plays packets undone starts said last so_far later ms fronts agree;
}
  where
    plays : (packets : List PacketLoss) (undone : List ℕ) (starts : List Start) (said : List Reply) (last : TurnLosses) (so_far : List Line) (later : Losses) (ms : List Mark) → AreFronts (reply ∷ []) said → AgreeMarks (points_in from.seen) ms
        → IsPlayed first e next (left ++ one.more) packets undone (so_far ++ one.line ∷ []) later starts (drop 1 said)
        (turns_instead allows e.events e.net.moment e.index (event ∷ events) (group_at first e from left last so_far (ahead [] (losses_by packets undone one.messages ∷ []) later) ms starts said))
    plays packets undone starts [] last so_far later ms fronts agree = absurd fronts
    plays packets undone starts (s ∷ said) last so_far later ms fronts agree = record {
      last = losses_by packets undone one.messages;
      marks = marked one.given e.events (shown_places first.given.declared (shown_by from.net) (state from.seen)) ms;
      last_is = (refl, refl);
      agree = one.marks ms agree;
      is = turns_over allows e.events e.net.moment e.index event events (group_at first e from left last so_far (ahead [] (losses_by packets undone one.messages ∷ []) later) ms starts (s ∷ said))
          (group_at first e next (left ++ one.more) (losses_by packets undone one.messages) (so_far ++ one.line ∷ []) later (marked one.given e.events (shown_places first.given.declared (shown_by from.net) (state from.seen)) ms) starts said)
          (one.played packets undone starts s said last so_far [] later ms fronts.0) fails;
    }

-- behind one that was done come the others
on_played : {Own : Type 0} (allows : List Place → Bool) (event : Event) (events : List Event) (first : Seen Own) (e : Focus) (left : List Event) (from next to : Turning Own) (reply : Reply) (one : OneMore allows first e event left from next reply) → next.fails ≡ false
    → AllPlayed allows events first e (left ++ one.more) next to → AllPlayed allows (event ∷ events) first e left from to
on_played {Own} allows event events first e left from next to reply one goes rest = record {
  more = one.more ++ rest.more;
  stood = subst (λ (l : List Event). Stood first e l to) (append_assoc left one.more rest.more) rest.stood;
  replies = reply ∷ rest.replies;
  read = rest.read ∙ ap (λ (rs : List Reply). rs ++ rest.replies) one.replies ∙ append_assoc (replies_in (own_acts e.index from.seen)) (reply ∷ []) rest.replies;
  flags = one.messages ∷ rest.flags;
  lines = one.line ∷ rest.lines;
  text = λ names known. rest.text names known ∙ ap (λ (text : List ℕ). text ++ lines_text names rest.lines) (one.text names known) ∙ append_assoc from.text (line_text names one.line) (lines_text names rest.lines);
  played = λ packets undone starts said last so_far later ms last_is fronts agree. plays packets undone starts said last so_far later ms fronts agree;
}
  where
    plays : (packets : List PacketLoss) (undone : List ℕ) (starts : List Start) (said : List Reply) (last : TurnLosses) (so_far : List Line) (later : Losses) (ms : List Mark) → AreFronts (reply ∷ rest.replies) said → AgreeMarks (points_in from.seen) ms
        → IsPlayed first e to (left ++ (one.more ++ rest.more)) packets undone (so_far ++ one.line ∷ rest.lines) later starts (drop (length (reply ∷ rest.replies)) said)
        (turns_instead allows e.events e.net.moment e.index (event ∷ events) (group_at first e from left last so_far (ahead [] (losses_by packets undone one.messages ∷ map (losses_by packets undone) rest.flags) later) ms starts said))
    plays packets undone starts [] last so_far later ms fronts agree = absurd fronts
    plays packets undone starts (s ∷ said) last so_far later ms fronts agree =
        let turns = map (losses_by packets undone) rest.flags in
        let this = losses_by packets undone one.messages in
        let now_marks = marked one.given e.events (shown_places first.given.declared (shown_by from.net) (state from.seen)) ms in
        let next_group = group_at first e next (left ++ one.more) this (so_far ++ one.line ∷ []) (ahead [] turns later) now_marks starts said in
        let there = rest.played packets undone starts said this (so_far ++ one.line ∷ []) later now_marks (last_before events packets undone this (refl, refl)) fronts.1 (one.marks ms agree) in
        record {
          last = there.last;
          marks = there.marks;
          last_is = there.last_is;
          agree = there.agree;
          is = turns_on allows e.events e.net.moment e.index event events (group_at first e from left last so_far (ahead [] (this ∷ turns) later) ms starts (s ∷ said)) next_group
              (one.played packets undone starts s said last so_far turns later ms fronts.0) goes
              ∙ there.is
              ∙ ap₂ (λ (l : List Event) (lines : List Line). group_at first e to l there.last lines later there.marks starts (drop (length rest.replies) said)) (append_assoc left one.more rest.more) (append_assoc so_far (one.line ∷ []) rest.lines);
        }

module _ {Own : Type 0} (Tells : Type 0) (accepts : List TableView → Bool) (allows : List Place → Bool) (first : Seen Own) (e : Focus) (told : Tells) (judges : JudgesAlike Own allows accepts) (reads : AreRead Own e.index Tells accepts) (few : e.events < 2 ^ 64) (calm : Calm first e.net) where
  abbrev Plays : List Event → Turning Own → Turning Own → Type 0
  Plays events from to = PlaysAll Tells accepts e.index e.rule.name e.rule.budget e.events events from to

  behind_end : (event : Event) (events : List Event) (left : List Event) (from to : Turning Own) (mid : Seen Own) (mid_net : NetState) (end : TurnEnd) (unread : List ℕ) → Conforming to.seen → Stood first e left from
      → (t : Turns Tells accepts e.index e.rule.budget from.rest (event_frame e.events from.net.moment event) from.seen mid from.net mid_net end unread)
      → unless_failed end (to ≡ turned end (handed t.outcome) unread mid mid_net (line_by e.rule.name event end) from) (Plays events (turned end (handed t.outcome) unread mid mid_net (line_by e.rule.name event end) from) to)
      → ((l : List Event) (next : Turning Own) → Stood first e l next → Plays events next to → AllPlayed allows events first e l next to)
      → AllPlayed allows (event ∷ events) first e left from to
  behind_end event events left from to mid mid_net (ends.Done stop) unread keeps stood t goes rest =
      let next = turned (ends.Done stop) (handed t.outcome) unread mid mid_net (line_by e.rule.name event (ends.Done stop)) from in
      let keeps_mid = Conforming-before told (plays_continue Tells accepts e.index e.rule.name e.rule.budget e.events events next to goes) keeps in
      let one = one_more Tells accepts allows event (line_by e.rule.name event (ends.Done stop)) first e left from mid mid_net (ends.Done stop) unread told keeps_mid judges reads few calm stood refl t in
      on_played allows event events first e left from next to (reply_by t.given t.trace) one refl (rest (left ++ one.more) next one.stood goes)
  behind_end event events left from to mid mid_net (ends.Failed cause) unread keeps stood t over rest =
      let next = turned (ends.Failed cause) (handed t.outcome) unread mid mid_net (line_by e.rule.name event (ends.Failed cause)) from in
      let keeps_mid = subst (λ (x : Turning Own). Conforming x.seen) over keeps in
      let one = one_more Tells accepts allows event (line_by e.rule.name event (ends.Failed cause)) first e left from mid mid_net (ends.Failed cause) unread told keeps_mid judges reads few calm stood refl t in
      subst (AllPlayed allows (event ∷ events) first e left from) (sym over) (over_played allows event events first e left from next (reply_by t.given t.trace) one refl)

  all_played : (events : List Event) (left : List Event) (from to : Turning Own) → Conforming to.seen → Stood first e left from → Plays events from to → AllPlayed allows events first e left from to
  all_played [] left from to keeps stood none = subst (AllPlayed allows [] first e left from) (sym none) (none_played allows first e left from stood)
  all_played (event ∷ events) left from to keeps stood (one, on) =
      behind_end event events left from to one.mid one.mid_net one.end one.unread keeps stood one.turns on (λ l next there plays. all_played events l next to keeps there plays)

first_stood : {Own : Type 0} (old : Seen Own) (e : Focus) → Calm old e.net → LastStands (own_acts e.index old) → Stood old e [] (turning_at old e)
first_stood old e calm stands = record {
  goes = record { since = begun old e.net; ready = calm.ready };
  leaves = leaves-none old old e.net e.net refl refl;
  rests = Rests-refl (state old);
  sound = calm.sound;
  released = refl;
  starts = refl;
  stims = refl;
  life = stands;
}

-- ---- How it stands at first

module _ {Own : Type 0} (allows : List Place → Bool) (event : Event) (events : List Event) (old : Seen Own) (e : Focus) (calm : Calm old e.net) (starts : List Start) (replies : List Reply) (turns : List TurnLosses) (later : Losses) (r : Run) (s : Shares old e.net e.queue e.events (ahead [] turns later) r) where
  abbrev app_before : App
  app_before = app_at e (given_in e.index old) starts replies

  fresh_is : fresh_group app_before r ≡ group_at old e (turning_at old e) [] no_loss [] (ahead [] turns later) r.marks starts replies
  fresh_is =
      ap₂ (λ (ps : List Place) (losses : Losses). record { play = fresh_play no_loss ps; app = app_before; stops = false; fails = false; last = no_loss; lines = []; losses = losses; marks = r.marks }) s.places s.losses_is
      ∙ ap (λ (held : HeldBack). record {
        play = record { places = places_at old old e.net; held = held; losing = []; inner = []; left = [] };
        app = app_before;
        stops = false;
        fails = false;
        last = no_loss;
        lines = [];
        losses = ahead [] turns later;
        marks = r.marks;
      }) (sym calm.held)

  group_first : group allows (event ∷ events) e.index app_before r ≡ group_had e.index app_before (turns_instead allows r.events r.moment e.index (event ∷ events) (fresh_group app_before r)) r
  unfolding group
  group_first = refl

  pub group_by : (g : Group) → turns_instead allows e.events e.net.moment e.index (event ∷ events) (group_at old e (turning_at old e) [] no_loss [] (ahead [] turns later) r.marks starts replies) ≡ g
      → group allows (event ∷ events) e.index app_before r ≡ group_had e.index app_before g r
  group_by g is =
      group_first
      ∙ ap (λ (x : Group). group_had e.index app_before x r)
      (ap (λ (n : ℕ). turns_instead allows n r.moment e.index (event ∷ events) (fresh_group app_before r)) s.events_is
      ∙ ap (λ (m : ℕ). turns_instead allows e.events m e.index (event ∷ events) (fresh_group app_before r)) (s.moment ∙ sym calm.moment)
      ∙ ap (turns_instead allows e.events e.net.moment e.index (event ∷ events)) fresh_is ∙ is)

-- ---- Its lines

lines_of : (names : List (List ℕ)) (turns : List Line) (grouped : Line) (outs losts again : List Line)
    → lines_text names (turns ++ grouped ∷ outs ++ losts ++ again) ≡ lines_text names turns ++ (line_text names grouped ++ (lines_text names outs ++ (lines_text names losts ++ lines_text names again)))
lines_of names turns grouped outs losts again =
    flat_map-append (line_text names) ((turns ++ grouped ∷ outs) ++ losts) again
    ∙ ap (λ (text : List ℕ). text ++ lines_text names again) (flat_map-append (line_text names) (turns ++ grouped ∷ outs) losts ∙ ap (λ (text : List ℕ). text ++ lines_text names losts) (flat_map-append (line_text names) turns (grouped ∷ outs)))
    ∙ regroup (lines_text names turns) (line_text names grouped) (lines_text names outs) (lines_text names losts) (lines_text names again)
  where
    regroup : (a g o l s : List ℕ) → ((a ++ (g ++ o)) ++ l) ++ s ≡ a ++ (g ++ (o ++ (l ++ s)))
    regroup a g o l s = simp append_assoc

-- ---- All were done

abbrev kept_engine : {Own : Type 0} → ℕ → Turning Own → NetState → List Event → Focus → Focus
kept_engine number t net queue e = all_told net queue (record e { rest = t.rest; kept = t.kept; done = e.done + number })

abbrev kept_run : ℕ → List Event → List Line → Losses → List Mark → Run → Release → Run
kept_run i more lines losses marks r x = record r {
  places = x.places;
  queue = r.queue ++ (x.events ++ (more ++ x.left));
  lines = r.lines ++ (lines ++ Grouped i true ∷ out_lines x.packets ++ lost_lines (leavers (more ++ x.left)) ++ []);
  released = r.released ++ x.packets;
  lost = r.lost ++ leavers (more ++ x.left);
  losses = losses;
  marks = marks;
}

abbrev kept_had : App → Bool → Run → Had
kept_had a stops r = record { app = a; stops = stops; run = r }

kept_moves : {Own : Type 0} (Tells : Type 0) (allows : List Place → Bool) (event : Event) (events : List Event) (text : List ℕ) (old new : Seen Own) (e now_e : Focus) (t : Turning Own)
    → Tells → Conforming new → Calm old e.net → (p : AllPlayed allows (event ∷ events) old e [] (turning_at old e) t) → t.fails ≡ false → (t.done ≡ e.done + length (event ∷ events)) × (t.failed ≡ e.failed)
    → KeepsGroup Tells (length (event ∷ events)) text (length e.net.log) new t e now_e → HadMoves (λ a r. group allows (event ∷ events) e.index a r) t.stops text old new e now_e
kept_moves {Own} Tells allows event events text old new e now_e t told keeps calm p whole counted k =
    let start : ℕ = length e.net.log in
    let stood : Stood old e p.more t = p.stood in
    let only = links_state t.seen new k.commits.continues.given (k.commits.links told) in
    let tells = links_tell e.index t.seen new (k.commits.links told) in
    let there = turn_stays start (leavers p.more) old t.seen e.net t.net stood.goes stood.rests calm in
    let ready : Ready t.seen (committed start t.net) = record { waits = stood.goes.ready.waits; agrees = stood.goes.ready.agrees; known = stood.goes.ready.known } in
    let shown = release-shown Tells t.net.held k.commits.ended.sent t.seen new (committed start t.net) k.net e.queue k.queue told keeps k.commits.ended.all ready stood.sound in
    let since = released_since old t.seen new start k.commits.ended.sent t.net k.net e.queue k.queue stood.goes.since.given shown in
    let all = all_left old t.seen new e.net t.net (committed start t.net) k.net p.more shown.release_is.left calm.left stood.leaves refl shown.leaves in
    let left : List Event = p.more ++ shown.release_is.left in
    subst (λ (x : Focus). HadMoves (λ a r. group allows (event ∷ events) e.index a r) t.stops text old new e x) (sym k.engine) (record {
      starts = [];
      replies = p.replies;
      turns = map (losses_by shown.losing []) p.flags;
      given = k.commits.continues.given ∙ stood.goes.since.given;
      index = refl;
      rule = refl;
      events = refl;
      calm = calm_released start t.net.held k.commits.ended.sent old t.seen new t.net k.net e.queue k.queue there shown (links_rest t.seen new only);
      read_starts = ap starts_in tells.acts ∙ stood.starts ∙ sym (append-nil (starts_in (own_acts e.index old)));
      read_replies = ap replies_in tells.acts ∙ p.read;
      read_stimuli = tells.stims ∙ stood.stims;
      life = λ alive. subst LastStands (sym tells.acts) stood.life;
      had = λ said_starts said_replies later r starts_is fronts s.
          let turns = map (losses_by shown.losing []) p.flags in
          let q = p.played shown.losing [] said_starts said_replies no_loss [] later r.marks tt fronts s.marks in
          let x = shown.release_is in
          let replies = drop (length p.replies) said_replies in
          let app_of : ℕ → ℕ → List (List ℕ) → App = λ done failed inputs. record { rule = e.rule; alive = e.alive; rest = t.rest; kept = t.kept; inputs = inputs; starts = said_starts; replies = replies; done = done; failed = failed } in
          let made : group allows (event ∷ events) e.index (app_at e (given_in e.index old) said_starts said_replies) r ≡ kept_had (app_of (e.done + length (event ∷ events)) e.failed (given_in e.index new)) t.stops (kept_run e.index p.more p.lines later q.marks r x) =
          group_by allows event events old e calm said_starts said_replies turns later r s (group_at old e t p.more q.last p.lines later q.marks said_starts replies) q.is
          ∙ ap (λ (b : Bool). group_had e.index (app_at e (given_in e.index old) said_starts said_replies) (group_so b old e t p.more q.last p.lines later q.marks said_starts replies) r) whole
          ∙ ap (λ (y : Release). kept_had (inside e t (given_in e.index t.seen) said_starts replies) t.stops (kept_run e.index p.more p.lines later q.marks r y))
          (ap (λ (losing : List PacketLoss). release losing (places_at old t.seen t.net) t.net.held) q.last_is.0 ∙ sym since.is)
          ∙ ap₂ (λ (d f : ℕ). kept_had (app_of d f (given_in e.index t.seen)) t.stops (kept_run e.index p.more p.lines later q.marks r x)) counted.0 counted.1
          ∙ ap (λ (i : List (List ℕ)). kept_had (app_of (e.done + length (event ∷ events)) e.failed i) t.stops (kept_run e.index p.more p.lines later q.marks r x)) (sym tells.given) in
          subst (IsHadAlike t.stops text new (kept_engine (length (event ∷ events)) t k.net k.queue e) said_starts replies later r) (sym made) (record {
            app_is = refl;
            stops_is = refl;
            shares = record {
              calm = calm_released start t.net.held k.commits.ended.sent old t.seen new t.net k.net e.queue k.queue there shown (links_rest t.seen new only);
              moment = s.moment ∙ sym (only.moment ∙ stood.rests.moment);
              places = since.places ∙ ap (λ (g : Given Own). shown_places g.declared (shown_by k.net) (state new)) (sym (k.commits.continues.given ∙ stood.goes.since.given));
              queue_is = ap (λ (waiting : List Event). waiting ++ (x.events ++ left)) s.queue_is
                  ∙ sym (ap₂ (λ (waiting more : List Event). waiting ++ more) shown.events all.events ∙ append_assoc e.queue x.events left);
              events_is = s.events_is;
              released = ap (λ (ps : List Held). ps ++ x.packets) s.released ∙ sym (shown.released_is ∙ ap (λ (ps : List Held). ps ++ x.packets) stood.released);
              lost = ap (λ (ds : List ℕ). ds ++ leavers left) s.lost ∙ sym all.lost;
              losses_is = refl;
              marks = subst (λ (ms : List Mark). AgreeMarks ms q.marks) (sym only.marks) q.agree;
            };
            lines = λ names known. flat_map-append (line_text names) r.lines (p.lines ++ Grouped e.index true ∷ out_lines x.packets ++ lost_lines (leavers left) ++ [])
                ∙ ap (λ (more : List ℕ). lines_text names r.lines ++ more)
                (lines_of names p.lines (Grouped e.index true) (out_lines x.packets) (lost_lines (leavers left)) []
                ∙ sym (k.text_is ∙ ap₂ (λ (a b : List ℕ). a ++ b) (p.text names known)
                (ap₂ (λ (name : List ℕ) (more : List ℕ). group_line name true ++ more) (sym known)
                (ap₂ (λ (a b : List ℕ). a ++ b) (ap out_text (k.commits.ended.answer_is ∙ ap (λ (hs : List Held). map (λ h. (h.0, length h.1.payload)) hs) (sym shown.packets)) ∙ outs_is names x.packets)
                (losts_is names k.net.left ∙ ap (λ (es : List Event). lines_text names (lost_lines (leavers es))) all.events ∙ sym (append-nil (lines_text names (lost_lines (leavers left)))))))));
          });
    })

-- ---- One failed

abbrev again_run : ℕ → List Event → List Line → Losses → List Mark → Run → List Place × List Event → App × List Tried → Run
again_run i more lines losses marks r x a = record r {
  places = x.0;
  queue = r.queue ++ ([] ++ (more ++ x.1));
  lines = r.lines ++ (lines ++ Grouped i false ∷ [] ++ lost_lines (leavers (more ++ x.1)) ++ (map (Started i) a.1 ++ gone_line i a.0.alive));
  released = r.released ++ [];
  lost = r.lost ++ leavers (more ++ x.1);
  losses = losses;
  marks = marks;
}

abbrev again_had : App × List Tried → Run → Had
again_had a r = record { app = a.0; stops = false; run = r }

undone_moves : {Own : Type 0} (Tells : Type 0) (accepts : List TableView → Bool) (allows : List Place → Bool) (event : Event) (events : List Event) (text : List ℕ) (old new : Seen Own) (e now_e : Focus) (t : Turning Own)
    → Tells → Conforming new → AreRead Own e.index Tells accepts → Calm old e.net → (p : AllPlayed allows (event ∷ events) old e [] (turning_at old e) t) → t.fails ≡ true → (t.failed ≡ e.failed + 1) × (t.rest ≡ [])
    → UndoesGroup Tells text (length e.net.log) new t e now_e → HadMoves (λ a r. group allows (event ∷ events) e.index a r) false text old new e now_e
undone_moves {Own} Tells accepts allows event events text old new e now_e t told keeps reads calm p fails counted u =
    let start : ℕ = length e.net.log in
    let lost : List ℕ = leavers p.more in
    let again = follows_alike Tells accepts policy.Equivalence u.later_text u.undone new (failed_engine u.undone_net e) now_e told reads u.starts in
    let keeps_undone = Conforming-before told again.continues keeps in
    let stood : Stood old e p.more t = p.stood in
    let only = links_state t.seen u.undone u.undoes.continues.given (u.undoes.links told) in
    let tells = links_tell e.index t.seen u.undone (u.undoes.links told) in
    let there = turn_stays start lost old t.seen e.net t.net stood.goes stood.rests calm in
    let calm_there = calm_undone Tells start lost old t.seen u.undone e.net t.net u.undone_net told keeps_undone stood.goes u.undoes there calm.sound (links_rest t.seen u.undone only) in
    let shown = undo-shown Tells start lost old t.seen u.undone e.net t.net u.undone_net told keeps_undone stood.goes.since stood.goes.ready u.undoes in
    let gone : List ℕ = lost_parts u.undoes.parts in
    let after_is : undoing gone (places_at old old e.net) (places_at old t.seen t.net) ≡ (places_at old u.undone u.undone_net, shown.left) = subst (λ (ds : List Declared). undoing gone (shown_places ds (shown_by e.net) (state old)) (shown_places ds (shown_by t.net) (state t.seen)) ≡ (shown_places ds (shown_by u.undone_net) (state u.undone), shown.left)) (ap (λ (g : Given Own). g.declared) stood.goes.since.given) shown.undoing_is in
    let all = all_left old t.seen u.undone e.net t.net t.net u.undone_net p.more shown.left calm.left stood.leaves refl shown.leaves in
    let left : List Event = p.more ++ shown.left in
    record {
      starts = again.starts;
      replies = p.replies;
      turns = map (losses_by [] gone) p.flags;
      given = again.continues.given ∙ u.undoes.continues.given ∙ stood.goes.since.given;
      index = again.index;
      rule = again.rule;
      events = again.events;
      calm = again.calm calm_there;
      read_starts = again.read_starts ∙ ap (λ (xs : List Start). xs ++ again.starts) (ap starts_in tells.acts ∙ stood.starts);
      read_replies = again.read_replies ∙ ap replies_in tells.acts ∙ p.read;
      read_stimuli = again.read_stimuli ∙ tells.stims ∙ stood.stims;
      life = again.life;
      had = λ said_starts said_replies later r starts_is fronts s.
          let turns = map (losses_by [] gone) p.flags in
          let q = p.played [] gone said_starts said_replies no_loss [] later r.marks tt fronts s.marks in
          let replies = drop (length p.replies) said_replies in
          let x : List Place × List Event = (places_at old u.undone u.undone_net, shown.left) in
          let back : List ℕ → ℕ → List (List ℕ) → App × List Tried = λ rest failed inputs. started attempts (record { rule = e.rule; alive = e.alive; rest = rest; kept = e.kept; inputs = inputs; starts = said_starts; replies = replies; done = e.done; failed = failed }) in
          let a : App × List Tried = (app_at now_e (given_in e.index new) (drop (length again.starts) said_starts) replies, again.tries) in
          let back_is : back t.rest t.failed (given_in e.index t.seen) ≡ a =
          ap₂ (λ (rest : List ℕ) (failed : ℕ). back rest failed (given_in e.index t.seen)) counted.1 counted.0
          ∙ ap (λ (i : List (List ℕ)). back [] (e.failed + 1) i) (sym tells.given)
          ∙ sym (equivalence_is (app_at (failed_engine u.undone_net e) (given_in e.index u.undone) said_starts replies))
          ∙ again.app said_starts replies starts_is in
          let made : group allows (event ∷ events) e.index (app_at e (given_in e.index old) said_starts said_replies) r ≡ again_had a (again_run e.index p.more p.lines later q.marks r x a) =
          group_by allows event events old e calm said_starts said_replies turns later r s (group_at old e t p.more q.last p.lines later q.marks said_starts replies) q.is
          ∙ ap (λ (b : Bool). group_had e.index (app_at e (given_in e.index old) said_starts said_replies) (group_so b old e t p.more q.last p.lines later q.marks said_starts replies) r) fails
          ∙ ap (λ (ps : List Place). again_had (back t.rest t.failed (given_in e.index t.seen)) (again_run e.index p.more p.lines later q.marks r (undoing q.last.undone ps (places_at old t.seen t.net)) (back t.rest t.failed (given_in e.index t.seen)))) s.places
          ∙ ap₂ (λ (y : List Place × List Event) (b : App × List Tried). again_had b (again_run e.index p.more p.lines later q.marks r y b))
          (ap (λ (ds : List ℕ). undoing ds (places_at old old e.net) (places_at old t.seen t.net)) q.last_is.1 ∙ after_is) back_is in
          subst (IsHadAlike false text new now_e (drop (length again.starts) said_starts) replies later r) (sym made) (record {
            app_is = ap (λ (i : ℕ). app_at now_e (given_in i new) (drop (length again.starts) said_starts) replies) (sym again.index);
            stops_is = refl;
            shares = record {
              calm = again.calm calm_there;
              moment = s.moment ∙ sym (again.keeps.rests.moment ∙ only.moment ∙ stood.rests.moment);
              places = sym (again.places old.given.declared) ∙ ap (λ (g : Given Own). shown_places g.declared (shown_by now_e.net) (state new)) (sym (again.continues.given ∙ u.undoes.continues.given ∙ stood.goes.since.given));
              queue_is = ap (λ (waiting : List Event). waiting ++ left) s.queue_is ∙ sym (again.queue ∙ ap (λ (more : List Event). e.queue ++ more) all.events);
              events_is = s.events_is ∙ sym again.events;
              released = append-nil r.released ∙ s.released ∙ sym (again.released ∙ undo-releases-none Tells start t.seen u.undone t.net u.undone_net (Ok tt) told u.undoes ∙ stood.released);
              lost = ap (λ (ds : List ℕ). ds ++ leavers left) s.lost ∙ sym (again.lost ∙ all.lost);
              losses_is = refl;
              marks = subst (λ (ms : List Mark). AgreeMarks ms q.marks) (sym (again.keeps.marks ∙ only.marks)) q.agree;
            };
            lines = λ names known.
                let named : name_of e.index names ≡ e.rule.name = ap (λ (i : ℕ). name_of i names) (sym again.index) ∙ known ∙ ap (λ (rule : _). rule.name) again.rule in
                flat_map-append (line_text names) r.lines (p.lines ++ Grouped e.index false ∷ [] ++ lost_lines (leavers left) ++ (map (Started e.index) again.tries ++ gone_line e.index now_e.alive))
                ∙ ap (λ (more : List ℕ). lines_text names r.lines ++ more)
                (lines_of names p.lines (Grouped e.index false) [] (lost_lines (leavers left)) (map (Started e.index) again.tries ++ gone_line e.index now_e.alive)
                ∙ sym (u.text_is ∙ ap₂ (λ (a b : List ℕ). a ++ b) (p.text names named)
                (ap₂ (λ (name : List ℕ) (more : List ℕ). group_line name false ++ more) (sym named)
                (ap₂ (λ (a b : List ℕ). a ++ b) (losts_is names u.undone_net.left ∙ ap (λ (es : List Event). lines_text names (lost_lines (leavers es))) all.events) (again.text_is names named)))));
          });
    }

-- ---- The whole

closed_moves : {Own : Type 0} (Tells : Type 0) (accepts : List TableView → Bool) (allows : List Place → Bool) (event : Event) (events : List Event) (text : List ℕ) (old new : Seen Own) (e now_e : Focus) (t : Turning Own) (b : Bool)
    → Tells → Conforming new → JudgesAlike Own allows accepts → AreRead Own e.index Tells accepts → e.events < 2 ^ 64 → LastStands (own_acts e.index old) → Calm old e.net
    → PlaysAll Tells accepts e.index e.rule.name e.rule.budget e.events (event ∷ events) (turning_at old e) t → t.fails ≡ b → ClosesGroup b Tells (length (event ∷ events)) text (length e.net.log) new t e now_e
    → HadMoves (λ a r. group allows (event ∷ events) e.index a r) (not b && t.stops) text old new e now_e
closed_moves Tells accepts allows event events text old new e now_e t false told keeps judges reads few stands calm plays whole k =
    let keeps_there = Conforming-before told k.commits.continues keeps in
    kept_moves Tells allows event events text old new e now_e t told keeps calm
    (all_played Tells accepts allows old e told judges reads few calm (event ∷ events) [] (turning_at old e) t keeps_there (first_stood old e calm stands) plays) whole
    (plays_done Tells accepts e.index e.rule.name e.rule.budget e.events (event ∷ events) (turning_at old e) t plays whole) k
closed_moves Tells accepts allows event events text old new e now_e t true told keeps judges reads few stands calm plays fails u =
    let again = follows_alike Tells accepts policy.Equivalence u.later_text u.undone new (failed_engine u.undone_net e) now_e told reads u.starts in
    let keeps_there = Conforming-before told u.undoes.continues (Conforming-before told again.continues keeps) in
    undone_moves Tells accepts allows event events text old new e now_e t told keeps reads calm
    (all_played Tells accepts allows old e told judges reads few calm (event ∷ events) [] (turning_at old e) t keeps_there (first_stood old e calm stands) plays) fails
    (plays_failed Tells accepts e.index e.rule.name e.rule.budget e.events (event ∷ events) (turning_at old e) t plays refl fails) u

pub group_moves : {Own : Type 0} (Tells : Type 0) (accepts : List TableView → Bool) (allows : List Place → Bool) (event : Event) (events : List Event) (text : List ℕ) (old new : Seen Own) (e now_e : Focus)
    → Tells → Conforming new → JudgesAlike Own allows accepts → AreRead Own e.index Tells accepts → e.events < 2 ^ 64 → LastStands (own_acts e.index old) → Calm old e.net → (taken : TakesGroup Tells accepts (event ∷ events) text old new e now_e)
    → HadMoves (λ a r. group allows (event ∷ events) e.index a r) (group_stops taken.turning) text old new e now_e
group_moves Tells accepts allows event events text old new e now_e told keeps judges reads few stands calm taken =
    closed_moves Tells accepts allows event events text old new e now_e taken.turning taken.turning.fails told keeps judges reads few stands calm taken.plays refl taken.closed
