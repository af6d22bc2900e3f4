-- What an application has at an event: what follows of its turn alone, and of its turn with the turns at what it is given in place of the event.
use Rattle.std.proofs.Common.{◌≡◌, ℕ, ◌^◌, ◌<◌, Bool, true, false, List, [], ◌∷◌, ◌++◌, length, drop, Some, if◌then◌else◌, refl, sym, ap, ap₂, ◌∙◌, subst, append_assoc}
use Rattle.std.specs.Prelude.{◌||◌}
use Rattle.std.proofs.lemmas.List.{append-nil}
use Rattle.std.proofs.lemmas.List.Concat.{flat_map-append}
use Rattle.flow_table.specs.View.{TableView}
use Rattle.app_frames.specs.declared.frame.Event.{Event}
use Rattle.crash_policy.specs.Policies.{AppValue}
use Rattle.lego_model.specs.Agreement.{AgreeMarks}
use Rattle.lego_model.specs.Journal.{Reply, Start}
use Rattle.lego_model.specs.Places.{Place}
use Rattle.lego_model.specs.Packets.{Held}
use Rattle.lego_model.specs.Losses.{TurnLosses, Losses, next_turn, turn_fewer}
use Rattle.lego_model.specs.Scripted.{AreFronts, AreStartFronts}
use Rattle.lego_model.specs.laws.ScriptedLaws.{start_fronts-parts, drop-parts}
use Rattle.lego_model.specs.Turns.{Outcome, Completed, Failed}
use Rattle.lego_model.specs.Controller.{App, Had, Line, Ended, Run, Turned, turn, out_lines, lost_lines, leavers, restart_lines, marked, after_turn, group, had_at, had_behind, instead_of, is_failed, says_stop}
use Rattle.lego_model.specs.RunReport.{name_of, line_text}
use Rattle.lego_model.specs.History.{starts_in, replies_in, own_acts, given_in, points_in}
use Rattle.outside.specs.Seen.{Given, Seen, Continues}
use Rattle.outside.specs.laws.SeenLaws.{Continues-refl, Continues-trans}
use Rattle.outside.specs.State.{Mark, state, marks_at_event}
use Rattle.outside.specs.Conforming.{Conforming}
use Rattle.outside.specs.laws.StateLaws.{Conforming-before}
use Rattle.switch_laws.specs.Shown.{shown_places, shown_by}
use Rattle.switch_laws.specs.Orderly.{OrderlySince}
use Rattle.switch_laws.specs.laws.OrderlyLaws.{orderly-same, orderly-then}
use Rattle.switch_laws.specs.laws.StandLaws.{state-links}
use Rattle.batch_laws.specs.Calm.{Calm}
use Rattle.journal_laws.specs.Readings.{LastStands}
use Rattle.run_laws.specs.Engine.{Focus, app_at, ahead, Shares}
use Rattle.run_laws.specs.EventMoves.{TurnAlike, TurnMoves, IsHadAlike, HadMoves}
use Rattle.run_laws.specs.Facts.{says_stop as end_stops, end_fails, instead_if, TakesInstead, TakesEvent}
use Rattle.run_laws.specs.LastReport.{lines_text}
use Rattle.run_laws.specs.Readings.{JudgesAlike}
use Rattle.run_laws.specs.Moves.{Conversing}
use Rattle.run_laws.specs.laws.DialogueLaws.{turn_converses}
use Rattle.run_laws.specs.laws.GroupGoesLaws.{group_continues, group_converses, group_orderly}
use Rattle.run_laws.specs.laws.GroupMoveLaws.{group_moves}
use Rattle.run_laws.specs.laws.OrderlyRunLaws.{turn-continues, turn-orderly}
use Rattle.run_laws.specs.laws.PointLaws.{marks_at_events}
use Rattle.run_laws.specs.laws.ReadRunLaws.{are-read}
use Rattle.run_laws.specs.laws.TurnMoveLaws.{turn_moves}

-- ---- Its turn

abbrev pub turned_of : {Own : Type 0} {allows : List Place → Bool} {event : Event} {text : List ℕ} {old new : Seen Own} {e now_e : Focus} {starts : List Start} {reply : Reply} {losses : TurnLosses} → TurnAlike allows event text old new e now_e starts reply losses → List Start → List Reply → Turned
turned_of {new = new} {e = e} {now_e = now_e} alike later_starts later_replies = record {
  release = alike.release;
  left = alike.left;
  app = (app_at now_e (given_in e.index new) later_starts later_replies, alike.tries);
  outcome = alike.outcome;
  given = alike.given;
}

-- what follows of the turn alone
module _ {Own : Type 0} (allows : List Place → Bool) (event : Event) (stops fails : Bool) (text : List ℕ) (old mid : Seen Own) (e now_e : Focus)
    (t : TurnMoves allows event stops fails text old mid e now_e) where
  pub turned-so : (said_starts : List Start) (said_replies : List Reply) (turns : List TurnLosses) (later : Losses) (r : Run) → AreStartFronts t.starts said_starts → AreFronts (t.reply ∷ []) said_replies → Shares old e.net e.queue e.events (ahead [] (t.losses ∷ turns) later) r
      → turn allows r.events r.moment event (next_turn r.losses.turns) r.places (app_at e (given_in e.index old) said_starts said_replies) ≡ turned_of t.alike (drop (length t.starts) said_starts) (drop 1 said_replies)
  turned-so said_starts [] turns later r starts_is fronts s = absurd fronts
  turned-so said_starts (said ∷ later_replies) turns later r starts_is fronts s =
      let x = app_at e (given_in e.index old) said_starts (said ∷ later_replies) in
      ap (λ (l : Losses). turn allows r.events r.moment event (next_turn l.turns) r.places x) s.losses_is
      ∙ ap (λ (n : ℕ). turn allows n r.moment event t.losses r.places x) s.events_is
      ∙ ap (λ (moment : ℕ). turn allows e.events moment event t.losses r.places x) (s.moment ∙ sym s.calm.moment)
      ∙ ap (λ (ps : List Place). turn allows e.events e.net.moment event t.losses ps x) s.places
      ∙ t.alike.turned said_starts said later_replies starts_is fronts.0

  marks-so : Conforming old → (r : Run) → r.events ≡ e.events → r.places ≡ shown_places old.given.declared (shown_by e.net) (state old) → AgreeMarks (points_in old) r.marks
      → AgreeMarks (points_in mid) (marked t.alike.given r.events r.places r.marks)
  marks-so keeps r events places marks =
      subst (λ (ms : List Mark). AgreeMarks ms (marked t.alike.given r.events r.places r.marks)) (sym t.alike.marks)
      (subst (λ (n : ℕ). AgreeMarks ((if t.alike.given then marks_at_event (Some e.events) (state old) else (state old).marks)) (marked t.alike.given n r.places r.marks)) (sym events)
      (subst (λ (ps : List Place). AgreeMarks ((if t.alike.given then marks_at_event (Some e.events) (state old) else (state old).marks)) (marked t.alike.given e.events ps r.marks)) (sym places)
      (marks_at_events t.alike.given e.events old.given.declared e.net.views (state old) r.marks (state-links old).declared_is keeps.declared marks)))

  pub shares-so : Conforming old → (later_starts : List Start) (later_replies : List Reply) (turns : List TurnLosses) (later : Losses) (r : Run) → Shares old e.net e.queue e.events (ahead [] (t.losses ∷ turns) later) r
      → Shares mid now_e.net now_e.queue now_e.events (ahead [] turns later) (after_turn e.index (turned_of t.alike later_starts later_replies) r)
  shares-so keeps later_starts later_replies turns later r s = record {
    calm = t.alike.calm;
    moment = s.moment ∙ sym t.alike.moment;
    places = t.alike.places ∙ ap (λ (g : Given Own). shown_places g.declared (shown_by now_e.net) (state mid)) (sym t.tells.given);
    queue_is = ap (λ (waiting : List Event). waiting ++ (t.alike.release.events ++ t.alike.left)) s.queue_is ∙ sym t.alike.queue;
    events_is = s.events_is ∙ sym t.alike.events;
    released = ap (λ (packets : List Held). packets ++ t.alike.release.packets) s.released ∙ sym t.alike.released;
    lost = ap (λ (ds : List ℕ). ds ++ leavers t.alike.left) s.lost ∙ sym t.alike.lost;
    losses_is = ap turn_fewer s.losses_is;
    marks = marks-so keeps r s.events_is s.places s.marks;
  }

  pub lines-so : (known : List (List ℕ)) → name_of e.index known ≡ e.rule.name → (later_starts : List Start) (later_replies : List Reply) (r : Run)
      → lines_text known (after_turn e.index (turned_of t.alike later_starts later_replies) r).lines ≡ lines_text known r.lines ++ text
  lines-so known named later_starts later_replies r =
      let ended : List Line = Ended e.index t.alike.outcome ∷ out_lines t.alike.release.packets in
      let lost : List Line = lost_lines (leavers t.alike.left) in
      let again : List Line = restart_lines e.index t.alike.outcome (app_at now_e (given_in e.index mid) later_starts later_replies, t.alike.tries) in
      ap (lines_text known) (ap (λ (lines : List Line). lines ++ again) (append_assoc r.lines ended lost) ∙ append_assoc r.lines (ended ++ lost) again)
      ∙ flat_map-append (line_text known) r.lines ((ended ++ lost) ++ again)
      ∙ ap (λ (more : List ℕ). lines_text known r.lines ++ more) (sym (t.alike.text_is known named later_starts later_replies))

-- ---- What it is given in place of the event

instead_is : (o : Outcome) (a : App) (event : Event) → instead_of o a event ≡ instead_if (is_failed o) a.alive a.rule event
instead_is (Completed stop checkpoint rest) a event = refl
instead_is (Failed cause) a event = refl

group_none : (allows : List Place → Bool) (i : ℕ) (a : App) (r : Run) → group allows [] i a r ≡ record { app = a; stops = false; run = r }
unfolding group
group_none allows i a r = refl

abbrev had_with : Bool → Had → Had
had_with stops h = record h { stops = stops || h.stops }

pub or_false : (b : Bool) → (b || false) ≡ b
or_false true = refl
or_false false = refl

had_is : (allows : List Place → Bool) (event : Event) (i : ℕ) (a : App) (r : Run) (t : Turned) → turn allows r.events r.moment event (next_turn r.losses.turns) r.places a ≡ t
    → had_at allows event i a r ≡ had_with (says_stop t.outcome) (group allows (instead_if (is_failed t.outcome) t.app.0.alive t.app.0.rule event) i t.app.0 (after_turn i t r))
unfolding had_at
had_is allows event i a r t is =
    ap (λ (x : Turned). had_behind allows event i x r) is
    ∙ ap (λ (events : List Event). had_with (says_stop t.outcome) (group allows events i t.app.0 (after_turn i t r))) (instead_is t.outcome t.app.0 event)

-- ---- Fronts

front_one : (reply : Reply) (later said : List Reply) → AreFronts (reply ∷ later) said → AreFronts (reply ∷ []) said × AreFronts later (drop 1 said)
front_one reply later [] are = absurd are
front_one reply later (x ∷ said) are = ((are.0, tt), are.1)

-- ---- The whole

module _ {Own : Type 0} (allows : List Place → Bool) (event : Event) (stops fails : Bool) (text : List ℕ) (old mid : Seen Own) (e mid_e : Focus) (keeps : Conforming old) (t : TurnMoves allows event stops fails text old mid e mid_e) where
  abbrev here : List Start → List Reply → Turned
  here starts replies = turned_of t.alike (drop (length t.starts) starts) (drop 1 replies)

  -- what the reference controller has then
  had_here : (starts : List Start) (replies : List Reply) (turns : List TurnLosses) (later : Losses) (r : Run) → AreStartFronts t.starts starts → AreFronts (t.reply ∷ []) replies → Shares old e.net e.queue e.events (ahead [] (t.losses ∷ turns) later) r
      → had_at allows event e.index (app_at e (given_in e.index old) starts replies) r
      ≡ had_with stops (group allows (instead_if fails mid_e.alive mid_e.rule event) e.index (here starts replies).app.0 (after_turn e.index (here starts replies) r))
  had_here starts replies turns later r starts_are replies_are s =
      had_is allows event e.index (app_at e (given_in e.index old) starts replies) r (here starts replies) (turned-so allows event stops fails text old mid e mid_e t starts replies turns later r starts_are replies_are s)
      ∙ ap₂ (λ (b f : Bool). had_with b (group allows (instead_if f mid_e.alive mid_e.rule event) e.index (here starts replies).app.0 (after_turn e.index (here starts replies) r))) t.stops_is t.fails_is

  -- nothing is given in place of it
  had_alone : instead_if fails mid_e.alive mid_e.rule event ≡ [] → HadMoves (λ a r. had_at allows event e.index a r) stops text old mid e mid_e
  had_alone none = record {
    starts = t.starts;
    replies = t.reply ∷ [];
    turns = t.losses ∷ [];
    given = t.tells.given;
    index = t.alike.index;
    rule = t.alike.rule;
    events = t.alike.events;
    calm = t.alike.calm;
    read_starts = t.tells.read_starts;
    read_replies = t.tells.read_replies;
    read_stimuli = t.tells.read_stimuli;
    life = t.tells.life;
    had = λ starts replies later r starts_are replies_are s.
        let x = here starts replies in
        let made : had_at allows event e.index (app_at e (given_in e.index old) starts replies) r ≡ record { app = x.app.0; stops = stops; run = after_turn e.index x r } =
        had_here starts replies [] later r starts_are replies_are s
        ∙ ap (λ (events : List Event). had_with stops (group allows events e.index x.app.0 (after_turn e.index x r))) none
        ∙ ap (had_with stops) (group_none allows e.index x.app.0 (after_turn e.index x r))
        ∙ ap (λ (b : Bool). record { app = x.app.0; stops = b; run = after_turn e.index x r }) (or_false stops) in
        subst (IsHadAlike stops text mid mid_e (drop (length t.starts) starts) (drop 1 replies) later r) (sym made) (record {
          app_is = ap (λ (i : ℕ). app_at mid_e (given_in i mid) (drop (length t.starts) starts) (drop 1 replies)) (sym t.alike.index);
          stops_is = refl;
          shares = shares-so allows event stops fails text old mid e mid_e t keeps (drop (length t.starts) starts) (drop 1 replies) [] later r s;
          lines = λ names known. lines-so allows event stops fails text old mid e mid_e t names (ap (λ (i : ℕ). name_of i names) (sym t.alike.index) ∙ known ∙ ap (λ (rule : AppValue). rule.name) t.alike.rule) (drop (length t.starts) starts) (drop 1 replies) r;
        });
  }

  -- a group is
  had_grouped : (first : Event) (others : List Event) (stopped : Bool) (more : List ℕ) (new : Seen Own) (now_e : Focus) → instead_if fails mid_e.alive mid_e.rule event ≡ first ∷ others
      → HadMoves (λ a r. group allows (first ∷ others) mid_e.index a r) stopped more mid new mid_e now_e → HadMoves (λ a r. had_at allows event e.index a r) (stops || stopped) (text ++ more) old new e now_e
  had_grouped first others stopped more new now_e some g = record {
    starts = t.starts ++ g.starts;
    replies = t.reply ∷ g.replies;
    turns = t.losses ∷ g.turns;
    given = g.given ∙ t.tells.given;
    index = g.index ∙ t.alike.index;
    rule = g.rule ∙ t.alike.rule;
    events = g.events ∙ t.alike.events;
    calm = g.calm;
    read_starts = ap (λ (i : ℕ). starts_in (own_acts i new)) (sym t.alike.index) ∙ g.read_starts ∙ ap (λ (i : ℕ). starts_in (own_acts i mid) ++ g.starts) t.alike.index
        ∙ ap (λ (xs : List Start). xs ++ g.starts) t.tells.read_starts ∙ append_assoc (starts_in (own_acts e.index old)) t.starts g.starts;
    read_replies = ap (λ (i : ℕ). replies_in (own_acts i new)) (sym t.alike.index) ∙ g.read_replies ∙ ap (λ (i : ℕ). replies_in (own_acts i mid) ++ g.replies) t.alike.index
        ∙ ap (λ (xs : List Reply). xs ++ g.replies) t.tells.read_replies ∙ append_assoc (replies_in (own_acts e.index old)) (t.reply ∷ []) g.replies;
    read_stimuli = g.read_stimuli ∙ t.tells.read_stimuli;
    life = λ alive. subst (λ (i : ℕ). LastStands (own_acts i new)) t.alike.index (g.life alive);
    had = λ starts replies later r starts_are replies_are s.
        let x = here starts replies in
        let ss = start_fronts-parts t.starts g.starts starts starts_are in
        let rs = front_one t.reply g.replies replies replies_are in
        let left_starts = drop (length t.starts) starts in
        let left_replies = drop 1 replies in
        let next = after_turn e.index x r in
        let there = g.had left_starts left_replies later next ss.1 rs.1 (shares-so allows event stops fails text old mid e mid_e t keeps left_starts left_replies g.turns later r s) in
        let made : had_at allows event e.index (app_at e (given_in e.index old) starts replies) r ≡ had_with stops (group allows (first ∷ others) mid_e.index (app_at mid_e (given_in mid_e.index mid) left_starts left_replies) next) =
        had_here starts replies g.turns later r ss.0 rs.0 s
        ∙ ap (λ (events : List Event). had_with stops (group allows events e.index x.app.0 next)) some
        ∙ ap (λ (i : ℕ). had_with stops (group allows (first ∷ others) i (app_at mid_e (given_in i mid) left_starts left_replies) next)) (sym t.alike.index) in
        subst (IsHadAlike (stops || stopped) (text ++ more) new now_e (drop (length (t.starts ++ g.starts)) starts) (drop (length (t.reply ∷ g.replies)) replies) later r) (sym made) (record {
          app_is = there.app_is ∙ ap₂ (λ (ss : List Start) (rs : List Reply). app_at now_e (given_in now_e.index new) ss rs) (sym (drop-parts t.starts g.starts starts)) (sym (drop-parts (t.reply ∷ []) g.replies replies));
          stops_is = ap (λ (b : Bool). stops || b) there.stops_is;
          shares = there.shares;
          lines = λ names known. there.lines names known
              ∙ ap (λ (so_far : List ℕ). so_far ++ more) (lines-so allows event stops fails text old mid e mid_e t names (ap (λ (i : ℕ). name_of i names) (sym t.alike.index ∙ sym g.index) ∙ known ∙ ap (λ (rule : AppValue). rule.name) (g.rule ∙ t.alike.rule)) left_starts left_replies r)
              ∙ append_assoc (lines_text names r.lines) text more;
        });
  }

-- where something is given, the turn failed and the application is alive
some_alive : (fails alive : Bool) (rule : AppValue) (event first : Event) (others : List Event) → instead_if fails alive rule event ≡ first ∷ others → alive ≡ true
some_alive false alive rule event first others is = absurd cc
some_alive true false rule event first others is = absurd cc
some_alive true true rule event first others is = refl

pub instead_continues : {Own : Type 0} (Tells : Type 0) (accepts : List TableView → Bool) (events : List Event) (stops : Bool) (text : List ℕ) (old new : Seen Own) (e now_e : Focus) → TakesInstead Tells accepts events stops text old new e now_e → Continues Tells old new
instead_continues Tells accepts [] stops text old new e now_e none = subst (λ (s : Seen _). Continues Tells old s) (sym none.0) (Continues-refl Tells old)
instead_continues Tells accepts (event ∷ events) stops text old new e now_e some = group_continues Tells accepts (event ∷ events) text old new e now_e some.0

by_instead : {Own : Type 0} (Tells : Type 0) (accepts : List TableView → Bool) (allows : List Place → Bool) (event : Event) (stops fails stopped : Bool) (text more : List ℕ) (old mid new : Seen Own) (e mid_e now_e : Focus) (events : List Event) → Tells → Conforming old → Conforming new → JudgesAlike Own allows accepts → e.events < 2 ^ 64
    → TurnMoves allows event stops fails text old mid e mid_e → instead_if fails mid_e.alive mid_e.rule event ≡ events → TakesInstead Tells accepts events stopped more mid new mid_e now_e
    → HadMoves (λ a r. had_at allows event e.index a r) (stops || stopped) (text ++ more) old new e now_e
by_instead {Own} Tells accepts allows event stops fails stopped text more old mid new e mid_e now_e [] told keeps_old keeps judges few t is none =
    subst (λ (b : Bool). HadMoves (λ a r. had_at allows event e.index a r) b (text ++ more) old new e now_e) (sym (ap (λ (b : Bool). stops || b) none.2 ∙ or_false stops))
    (subst (λ (w : List ℕ). HadMoves (λ a r. had_at allows event e.index a r) stops w old new e now_e) (sym (ap (λ (w : List ℕ). text ++ w) none.3 ∙ append-nil text))
    (subst (λ (s : Seen Own). HadMoves (λ a r. had_at allows event e.index a r) stops text old s e now_e) (sym none.0)
    (subst (λ (x : Focus). HadMoves (λ a r. had_at allows event e.index a r) stops text old mid e x) (sym none.1) (had_alone allows event stops fails text old mid e mid_e keeps_old t is))))
by_instead Tells accepts allows event stops fails stopped text more old mid new e mid_e now_e (first ∷ others) told keeps_old keeps judges few t is some =
    let alive = some_alive fails mid_e.alive mid_e.rule event first others is in
    let g = group_moves Tells accepts allows first others more mid new mid_e now_e told keeps judges (are-read mid_e.index Tells accepts) (subst (λ (n : ℕ). n < 2 ^ 64) (sym t.alike.events) few)
    (subst (λ (i : ℕ). LastStands (own_acts i mid)) (sym t.alike.index) (t.tells.life alive)) t.alike.calm some.0 in
    had_grouped allows event stops fails text old mid e mid_e keeps_old t first others stopped more new now_e is
    (subst (λ (b : Bool). HadMoves (λ a r. group allows (first ∷ others) mid_e.index a r) b more mid new mid_e now_e) (sym some.1) g)

pub had_moves : {Own : Type 0} (Tells : Type 0) (accepts : List TableView → Bool) (allows : List Place → Bool) (event : Event) (stops : Bool) (text : List ℕ) (old new : Seen Own) (e now_e : Focus) → Tells → Conforming new → JudgesAlike Own allows accepts → e.events < 2 ^ 64 → LastStands (own_acts e.index old) → Calm old e.net
    → TakesEvent Tells accepts event stops text old new e now_e → HadMoves (λ a r. had_at allows event e.index a r) stops text old new e now_e
had_moves Tells accepts allows event stops text old new e now_e told keeps judges few stands calm h =
    let keeps_mid = Conforming-before told (instead_continues Tells accepts (instead_if (end_fails h.takes.end) h.mid_e.alive h.mid_e.rule event) h.stopped h.later_text h.mid new h.mid_e now_e h.later) keeps in
    let keeps_old = Conforming-before told (turn-continues Tells accepts event h.front_text old h.mid e h.mid_e h.takes) keeps_mid in
    let t = turn_moves Tells accepts allows event h.front_text old h.mid e h.mid_e told keeps_mid judges (are-read e.index Tells accepts) few stands calm h.takes in
    subst (λ (b : Bool). HadMoves (λ a r. had_at allows event e.index a r) b text old new e now_e) (sym h.stops_is)
    (subst (λ (w : List ℕ). HadMoves (λ a r. had_at allows event e.index a r) (end_stops h.takes.end || h.stopped) w old new e now_e) (sym h.text_is)
    (by_instead Tells accepts allows event (end_stops h.takes.end) (end_fails h.takes.end) h.stopped h.front_text h.later_text old h.mid new e h.mid_e now_e
    (instead_if (end_fails h.takes.end) h.mid_e.alive h.mid_e.rule event) told keeps_old keeps judges few t refl h.later))

-- ---- The history

pub event_continues : {Own : Type 0} (Tells : Type 0) (accepts : List TableView → Bool) (event : Event) (stops : Bool) (text : List ℕ) (old new : Seen Own) (e now_e : Focus) → TakesEvent Tells accepts event stops text old new e now_e → Continues Tells old new
event_continues Tells accepts event stops text old new e now_e h =
    Continues-trans Tells old h.mid new (turn-continues Tells accepts event h.front_text old h.mid e h.mid_e h.takes)
    (instead_continues Tells accepts (instead_if (end_fails h.takes.end) h.mid_e.alive h.mid_e.rule event) h.stopped h.later_text h.mid new h.mid_e now_e h.later)

instead_orderly : {Own : Type 0} (Tells : Type 0) (accepts : List TableView → Bool) (number : ℕ) (events : List Event) (stops : Bool) (text : List ℕ) (old new : Seen Own) (e now_e : Focus) → Tells → e.index < number → Conforming new → Calm old e.net → TakesInstead Tells accepts events stops text old new e now_e → OrderlySince number old new
instead_orderly Tells accepts number [] stops text old new e now_e told small keeps calm none = orderly-same number old new none.0
instead_orderly Tells accepts number (event ∷ events) stops text old new e now_e told small keeps calm some =
    group_orderly Tells accepts number (event ∷ events) text old new e now_e told small keeps calm (are-read e.index Tells accepts) some.0

-- the steps of it are in order
pub event_orderly : {Own : Type 0} (Tells : Type 0) (accepts : List TableView → Bool) (allows : List Place → Bool) (number : ℕ) (event : Event) (stops : Bool) (text : List ℕ) (old new : Seen Own) (e now_e : Focus) → Tells → e.index < number → Conforming new → JudgesAlike Own allows accepts → e.events < 2 ^ 64
    → LastStands (own_acts e.index old) → Calm old e.net → TakesEvent Tells accepts event stops text old new e now_e → OrderlySince number old new
event_orderly Tells accepts allows number event stops text old new e now_e told small keeps judges few stands calm h =
    let events = instead_if (end_fails h.takes.end) h.mid_e.alive h.mid_e.rule event in
    let keeps_mid = Conforming-before told (instead_continues Tells accepts events h.stopped h.later_text h.mid new h.mid_e now_e h.later) keeps in
    let t = turn_moves Tells accepts allows event h.front_text old h.mid e h.mid_e told keeps_mid judges (are-read e.index Tells accepts) few stands calm h.takes in
    orderly-then number old h.mid new (turn-orderly Tells accepts number event h.front_text old h.mid e h.mid_e told small keeps_mid calm (are-read e.index Tells accepts) h.takes)
    (instead_orderly Tells accepts number events h.stopped h.later_text h.mid new h.mid_e now_e told (subst (λ (i : ℕ). i < number) (sym t.alike.index) small) keeps t.alike.calm h.later)

instead_converses : {Own : Type 0} (Tells : Type 0) (accepts : List TableView → Bool) (fails : Bool) (rule : AppValue) (event : Event) (events : List Event) (stops : Bool) (text : List ℕ) (old new : Seen Own) (e now_e : Focus) → Tells → Conversing old e → instead_if fails e.alive rule event ≡ events → TakesInstead Tells accepts events stops text old new e now_e → Conversing new now_e
instead_converses Tells accepts fails rule event [] stops text old new e now_e told c is none = subst (λ (x : Focus). Conversing new x) (sym none.1) (subst (λ (s : Seen _). Conversing s e) (sym none.0) c)
instead_converses Tells accepts fails rule event (first ∷ others) stops text old new e now_e told c is some =
    group_converses Tells accepts (first ∷ others) text old new e now_e told (some_alive fails e.alive rule event first others is) c some.0

-- it goes on with the dialogue
pub event_converses : {Own : Type 0} (Tells : Type 0) (accepts : List TableView → Bool) (event : Event) (stops : Bool) (text : List ℕ) (old new : Seen Own) (e now_e : Focus) → Tells → e.alive ≡ true → Conversing old e → TakesEvent Tells accepts event stops text old new e now_e → Conversing new now_e
event_converses Tells accepts event stops text old new e now_e told alive c h =
    instead_converses Tells accepts (end_fails h.takes.end) h.mid_e.rule event (instead_if (end_fails h.takes.end) h.mid_e.alive h.mid_e.rule event) h.stopped h.later_text h.mid new h.mid_e now_e told
    (turn_converses Tells accepts event h.front_text old h.mid e h.mid_e told alive c h.takes) refl h.later
