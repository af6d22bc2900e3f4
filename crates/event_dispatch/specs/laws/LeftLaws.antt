-- Laws of what a fault leaves of the tables of switches.
use Rattle.std.proofs.Common.{◌≡◌, ◌⊎◌, ℕ, Bool, true, false, List, [], ◌∷◌, ◌++◌, length, map, Result, Ok, Err, refl, sym, ap, ◌∙◌, subst, append_assoc, inl, inr, slice_get, Some}
use Rattle.std.specs.Option.{option_map}
use Rattle.std.proofs.lemmas.List.{append-nil}
use Rattle.std.proofs.lemmas.List.Elements.{filter_map-append}
use Rattle.flow_table.specs.View.{TableView}
use Rattle.of_types.specs.declared.journal.Act.{Act}
use Rattle.app_frames.specs.declared.frame.Answer.{Answer}
use Rattle.crash_policy.specs.Policies.{AppValue}
use Rattle.app_frames.specs.declared.frame.Event.{Event}
use Rattle.lego_model.specs.AtOnce.{Passes, AtOnce}
use Rattle.lego_model.specs.Controller.{event_frame}
use Rattle.lego_model.specs.History.{own_acts}
use Rattle.lego_model.specs.Journal.{is_event, reply_of, released_in, released, give_act}
use Rattle.lego_model.specs.Packets.{Held}
use Rattle.lego_model.specs.Scripted.{is_heard}
use Rattle.lego_model.specs.Turns.{Outcome, Completed, Failed, Played, turn_of}
use Rattle.outside.specs.declared.step.WorldStep.{WorldStep}
use Rattle.flow_table.specs.Switch.{SwitchState}
use Rattle.outside.specs.Seen.{Seen, Continues, Longer, journal}
use Rattle.outside.specs.State.{state, switch_of}
use Rattle.outside.specs.laws.SeenLaws.{Continues-trans, journal-append}
use Rattle.outside.specs.laws.InOrderLaws.{InOrder-before}
use Rattle.lego_model.specs.declared.fault.TxnFault.{TxnFault}
use Rattle.lego_model.specs.declared.fault.TxnFault.TheVariants.{NoMemory}
use Rattle.net_txn.specs.Net.{NetState}
use Rattle.net_txn.specs.Undos.{AreJoined, Undoes}
use Rattle.net_txn.specs.Releases.{committed, Commits}
use Rattle.lego_model.specs.AfterFault.{NoEventSince, answering, IsCompleted, HasEntriesAgain, WasLost, UndoneButFailed, TurnDone, SwitchesStay, TurnKept, after_packets, TurnReleasing, TablesLeft}
use Rattle.run_course.specs.TurnsLeft.{AllDone, StaysWhole, IsReleasing, GroupLeft, InsteadLeft, EventLeft, TurnsBehind}
use Rattle.lego_model.specs.laws.SwitchFaultLaws.{failed_before, failed_told}
use Rattle.switch_laws.specs.Released.{MovesOrLoses}
use Rattle.switch_laws.specs.laws.FaultLaws.{lost-still}
use Rattle.switch_laws.specs.laws.ReleaseLaws.{release-moves}
use Rattle.journal_laws.specs.laws.FrameLaws.{event_is}
use Rattle.app_visor.specs.declared.state.TurnEnd.{TurnEnd}
use Rattle.app_visor.specs.declared.state.TurnEnd.TheVariants as ends
use Rattle.app_visor.specs.Beats.{Exchange, Stops, acts_in, exchanges_in}
use Rattle.app_visor.specs.Turns.{IsEnd, Agrees, Turns}
use Rattle.app_visor.specs.laws.TableLaws.{turn_alike}
use Rattle.app_visor.specs.CallsFor.{OwnSteps}
use Rattle.app_visor.specs.laws.ReadTurnLaws.{turn_acts}
use Rattle.turn_laws.specs.laws.FaultLaws.{stop-undone, turn-undone, turn-joined, moves-left, commit-left}
use Rattle.run_laws.specs.Engine.{Engine}
use Rattle.event_dispatch.specs.declared.closing.Closing.{Closing}
use Rattle.event_dispatch.specs.declared.closing.Closing.TheVariants as closings
use Rattle.event_dispatch.specs.Why.{fault_of}
use Rattle.event_dispatch.specs.Steady.{NoneReleased}
use Rattle.event_dispatch.specs.Serves.{PlaysTurn}
use Rattle.event_dispatch.specs.Undone.{IsShort, TurnLeft, DispatchLeft}
use Rattle.event_dispatch.specs.laws.NoEventLaws.{no_event_none, no_event_then, own_stay, own_releases}

-- ---- What was undone is so whatever comes behind that moves no switch

pub undone_is : {Own : Type 0} {Tells : Type 0} (old new : Seen Own) → Tells → UndoneButFailed Tells old new → UndoneButFailed (Unit {0}) old new
undone_is old new told u = record {
  joined = λ d s is. elim (u.joined d s is) [ inl f ↦ inl (failed_told d old new told f) | inr e ↦ inr e ];
  out = u.out;
}

-- a switch that has its entries again, or was lost, stands so still
still_is : {Own : Type 0} (d : ℕ) (s : SwitchState) (old mid new : Seen Own) → Longer mid.history new.history → SwitchesStay mid new → HasEntriesAgain s (switch_of d (state mid)) ⊎ WasLost d old mid → HasEntriesAgain s (switch_of d (state new)) ⊎ WasLost d old new
still_is d s old mid new longer stay (inl e) = inl (record { next = e.next; stands = stay d ∙ e.stands })
still_is d s old mid new longer stay (inr lost) = inr (lost-still old mid new d lost longer (stay d ∙ lost.out))

pub undone_then : {Own : Type 0} {Tells : Type 0} (old mid new : Seen Own) → Tells → Continues Tells old mid → Continues Tells mid new → SwitchesStay mid new → UndoneButFailed (Unit {0}) old mid → UndoneButFailed (Unit {0}) old new
undone_then old mid new told first later stay u = record {
  joined = λ d s is. elim (u.joined d s is) [ inl f ↦ inl (failed_before d old mid new first.none_fell later.none_fell (λ u. later.told told) f) | inr e ↦ inr (still_is d s old mid new (later.told told) stay e) ];
  out = λ d is. stay d ∙ u.out d is;
}

kept_then : {Own : Type 0} {Tells : Type 0} {app budget : ℕ} (old mid new : Seen Own) → Tells → Continues Tells mid new → SwitchesStay mid new → TurnKept app budget old mid → TurnKept app budget old new
kept_then old mid new told later stay k =
    let longer = later.told told in
    record {
      mid = k.mid;
      given = later.given ∙ k.given;
      done = k.done;
      later = (k.later.0 ++ longer.0, longer.1 ∙ ap (λ (xs : List WorldStep). xs ++ longer.0) k.later.1 ∙ append_assoc k.mid.history k.later.0 longer.0);
      stay = λ d. stay d ∙ k.stay d;
    }

-- behind a release that was begun none was released, so that the packets are the same
releasing_then : {Own : Type 0} {Tells : Type 0} {app budget : ℕ} (old mid new : Seen Own) → Continues Tells mid new → NoneReleased mid new → SwitchesStay mid new → TurnReleasing app budget old mid → TurnReleasing app budget old new
unfolding released
releasing_then old mid new later none stay r =
    let front = r.first ∷ r.steps in
    let same : released (journal (front ++ none.steps)) ≡ released (journal front) =
    ap released (journal-append front none.steps) ∙ filter_map-append released_in (journal front) (journal none.steps) ∙ ap (λ (xs : List Held). released (journal front) ++ xs) none.none ∙ append-nil (released (journal front)) in
    record {
      mid = r.mid;
      given = later.given ∙ r.given;
      done = r.done;
      first = r.first;
      steps = r.steps ++ none.steps;
      history = none.history ∙ ap (λ (xs : List WorldStep). xs ++ none.steps) r.history ∙ append_assoc r.mid.history front none.steps;
      moved = λ d. elim (r.moved d) [
        | inl moved ↦ inl (stay d ∙ moved ∙ ap (λ (packets : List Held). option_map (after_packets d packets) (switch_of d (state r.mid))) (sym same))
        | inr lost ↦ inr (lost-still r.mid mid new d lost (none.steps, none.history) (stay d ∙ lost.out))
      ];
    }

-- What is left stays so behind parts in which no event is given, no packet is released, and no switch moves.
tables_then : {Own : Type 0} {Tells Short : Type 0} {app budget : ℕ} (old mid new : Seen Own) → Tells → Continues Tells old mid → Continues Tells mid new → NoEventSince mid new → NoneReleased mid new → SwitchesStay mid new → TablesLeft app budget Short old mid → TablesLeft app budget Short old new
tables_then old mid new told first later none released_none stay (inl before) = inl (no_event_then before none)
tables_then old mid new told first later none released_none stay (inr (inl undone)) = inr (inl (undone_then old mid new told first later stay undone))
tables_then old mid new told first later none released_none stay (inr (inr (inl kept))) = inr (inr (inl (kept.0, kept_then old mid new told later stay kept.1)))
tables_then old mid new told first later none released_none stay (inr (inr (inr releasing))) = inr (inr (inr (releasing_then old mid new later released_none stay releasing)))

-- where memory may have been wanting in more cases
tables_for : {Own : Type 0} {Short Other : Type 0} {app budget : ℕ} {old new : Seen Own} → (Short → Other) → TablesLeft app budget Short old new → TablesLeft app budget Other old new
tables_for short (inl before) = inl before
tables_for short (inr (inl undone)) = inr (inl undone)
tables_for short (inr (inr (inl kept))) = inr (inr (inl (short kept.0, kept.1)))
tables_for short (inr (inr (inr releasing))) = inr (inr (inr releasing))

-- so it is with the turns at the events that an application is given in place of one
whole_then : {Own : Type 0} {Tells : Type 0} {Whole : Seen Own → Type 0} (mid new : Seen Own) → Tells → Continues Tells mid new → SwitchesStay mid new → StaysWhole Whole mid → StaysWhole Whole new
whole_then mid new told later stay k =
    let longer = later.told told in
    record {
      mid = k.mid;
      given = later.given ∙ k.given;
      done = k.done;
      later = (k.later.0 ++ longer.0, longer.1 ∙ ap (λ (xs : List WorldStep). xs ++ longer.0) k.later.1 ∙ append_assoc k.mid.history k.later.0 longer.0);
      stay = λ d. stay d ∙ k.stay d;
    }

begun_then : {Own : Type 0} {Tells : Type 0} {Whole : Seen Own → Type 0} (mid new : Seen Own) → Continues Tells mid new → NoneReleased mid new → SwitchesStay mid new → IsReleasing Whole mid → IsReleasing Whole new
unfolding released
begun_then mid new later none stay r =
    let front = r.first ∷ r.steps in
    let same : released (journal (front ++ none.steps)) ≡ released (journal front) =
    ap released (journal-append front none.steps) ∙ filter_map-append released_in (journal front) (journal none.steps) ∙ ap (λ (xs : List Held). released (journal front) ++ xs) none.none ∙ append-nil (released (journal front)) in
    record {
      mid = r.mid;
      given = later.given ∙ r.given;
      done = r.done;
      first = r.first;
      steps = r.steps ++ none.steps;
      history = none.history ∙ ap (λ (xs : List WorldStep). xs ++ none.steps) r.history ∙ append_assoc r.mid.history front none.steps;
      moved = λ d. elim (r.moved d) [
        | inl moved ↦ inl (stay d ∙ moved ∙ ap (λ (packets : List Held). option_map (after_packets d packets) (switch_of d (state r.mid))) (sym same))
        | inr lost ↦ inr (lost-still r.mid mid new d lost (none.steps, none.history) (stay d ∙ lost.out))
      ];
    }

pub whole_moved : {Own : Type 0} {Tells : Type 0} {app budget : ℕ} (old first mid new : Seen Own) → Tells → Continues Tells mid new → NoneReleased mid new → SwitchesStay mid new
    → ((mid.history ≡ first.history) × StaysWhole (AllDone app budget old) mid) ⊎ IsReleasing (AllDone app budget old) mid → GroupLeft app budget (Unit {0}) old new
whole_moved old first mid new told later none stay (inl kept) = inr (inr (inl (tt, whole_then mid new told later stay kept.1)))
whole_moved old first mid new told later none stay (inr releasing) = inr (inr (inr (begun_then mid new later none stay releasing)))

group_then : {Own : Type 0} {Tells Short : Type 0} {app budget : ℕ} (old mid new : Seen Own) → Tells → Continues Tells old mid → Continues Tells mid new → NoEventSince mid new → NoneReleased mid new → SwitchesStay mid new → GroupLeft app budget Short old mid → GroupLeft app budget Short old new
group_then old mid new told first later none released_none stay (inl before) = inl (no_event_then before none)
group_then old mid new told first later none released_none stay (inr (inl undone)) = inr (inl (undone_then old mid new told first later stay undone))
group_then old mid new told first later none released_none stay (inr (inr (inl kept))) = inr (inr (inl (kept.0, whole_then mid new told later stay kept.1)))
group_then old mid new told first later none released_none stay (inr (inr (inr releasing))) = inr (inr (inr (begun_then mid new later released_none stay releasing)))

-- in a world that tells
pub in_telling : {Own : Type 0} {Tells : Type 0} (old new : Seen Own) → Tells → Continues Tells old new → Continues (Unit {0}) old new
in_telling old new told on = record { given = on.given; none_fell = on.none_fell; told = λ u. on.told told }

instead_then : {Own : Type 0} {Tells Short : Type 0} {app budget : ℕ} (old mid new : Seen Own) → Tells → Continues Tells mid new → NoEventSince mid new → NoneReleased mid new → SwitchesStay mid new → InsteadLeft app budget Short old mid → InsteadLeft app budget Short old new
instead_then old mid new told later none released_none stay g =
    let on = in_telling mid new told later in
    record {
      begun = g.begun;
      given = g.given;
      event = g.event;
      event_is = g.event_is;
      acts = g.acts;
      history = g.history;
      undone = g.undone;
      later = Continues-trans (Unit {0}) g.begun mid new g.later on;
      left = group_then g.begun mid new tt g.later on none released_none stay g.left;
    }

group_for : {Own : Type 0} {Short Other : Type 0} {app budget : ℕ} {old new : Seen Own} → (Short → Other) → GroupLeft app budget Short old new → GroupLeft app budget Other old new
group_for short (inl before) = inl before
group_for short (inr (inl undone)) = inr (inl undone)
group_for short (inr (inr (inl kept))) = inr (inr (inl (short kept.0, kept.1)))
group_for short (inr (inr (inr releasing))) = inr (inr (inr releasing))

instead_for : {Own : Type 0} {Short Other : Type 0} {app budget : ℕ} {old new : Seen Own} → (Short → Other) → InsteadLeft app budget Short old new → InsteadLeft app budget Other old new
instead_for short g = record {
  begun = g.begun;
  given = g.given;
  event = g.event;
  event_is = g.event_is;
  acts = g.acts;
  history = g.history;
  undone = g.undone;
  later = g.later;
  left = group_for short g.left;
}

-- so it is with one of some applications
pub behind_at : {Own : Type 0} {Short : Type 0} {rules : List AppValue} {old new : Seen Own} (app : ℕ) (rule : AppValue) → slice_get rules app ≡ Some rule → EventLeft app rule.budget Short old new → TurnsBehind rules Short old new
behind_at app rule is (inl turn) = inl (inr (record { app = app; rule = rule; rule_is = is; tables = turn }))
behind_at app rule is (inr instead) = inr (record { app = app; rule = rule; rule_is = is; left = instead })

pub behind_then : {Own : Type 0} {Tells Short : Type 0} {rules : List AppValue} (old mid new : Seen Own) → Tells → Continues Tells old mid → Continues Tells mid new → NoEventSince mid new → NoneReleased mid new → SwitchesStay mid new → TurnsBehind rules Short old mid → TurnsBehind rules Short old new
behind_then old mid new told first later none released_none stay (inl (inl before)) = inl (inl (no_event_then before none))
behind_then old mid new told first later none released_none stay (inl (inr turn)) = inl (inr (record { app = turn.app; rule = turn.rule; rule_is = turn.rule_is; tables = tables_then old mid new told first later none released_none stay turn.tables }))
behind_then old mid new told first later none released_none stay (inr behind) = inr (record { app = behind.app; rule = behind.rule; rule_is = behind.rule_is; left = instead_then old mid new told later none released_none stay behind.left })

pub behind_for : {Own : Type 0} {Short Other : Type 0} {rules : List AppValue} {old new : Seen Own} → (Short → Other) → TurnsBehind rules Short old new → TurnsBehind rules Other old new
behind_for short (inl (inl before)) = inl (inl before)
behind_for short (inl (inr turn)) = inl (inr (record { app = turn.app; rule = turn.rule; rule_is = turn.rule_is; tables = tables_for short turn.tables }))
behind_for short (inr behind) = inr (record { app = behind.app; rule = behind.rule; rule_is = behind.rule_is; left = instead_for short behind.left })

-- ---- A whole turn

completes : (stop : Bool) (unread : List ℕ) (outcome : Outcome) → IsEnd (ends.Done stop) unread outcome → IsCompleted outcome
completes stop unread (Completed stops checkpoint rest) is = tt
completes stop unread (Failed cause) is = absurd is

-- the answers that were given, one after the other
answers_of : {Own : Type 0} → List (Exchange Own) → List Answer
answers_of xs = map (λ x. x.answer) xs

answers_agree : {Own : Type 0} (judged : Bool) (xs : List (Exchange Own)) → Agrees (answering judged) xs (answers_of xs) []
unfolding answering answers_of
answers_agree judged [] = refl
answers_agree judged (x ∷ xs) = (refl, answers_agree judged xs)

judged_is : (judged : Bool) → (answering judged).allows [] ≡ judged
unfolding answering
judged_is judged = refl

never_given : (budget : ℕ) (rest : List ℕ) (acts : List Act) (judged : Bool) (answers : List Answer) → IsCompleted (turn_of (answering judged) budget rest (reply_of (record { given = false; acts = acts })) answers).outcome → ⊥
unfolding turn_of reply_of
never_given budget rest acts judged answers is = is

done_by : {Own : Type 0} (app budget : ℕ) (given : Bool) (rest event : List ℕ) (acts : List Act) (judged : Bool) (answers : List Answer) (old new : Seen Own) → is_event event ≡ true
    → own_acts app new ≡ own_acts app old ++ give_act given app event ∷ acts → is_heard budget rest (reply_of (record { given = given; acts = acts })) ≡ true → IsCompleted (turn_of (answering judged) budget rest (reply_of (record { given = given; acts = acts })) answers).outcome
    → (a : AtOnce app (journal old.history)) → Passes a.last.unread rest → TurnDone app budget old new
done_by app budget true rest event acts judged answers old new is more heard completed a passes = record {
  event = event;
  event_is = is;
  acts = acts;
  history = more;
  before = a;
  rest = rest;
  passes = passes;
  heard = heard;
  judged = judged;
  answers = answers;
  completed = completed;
}
done_by app budget false rest event acts judged answers old new is more heard completed a passes = absurd (never_given budget rest acts judged answers completed)

pub turn_done : {Own : Type 0} {Tells : Type 0} {accepts : List TableView → Bool} {app budget : ℕ} {rest event unread : List ℕ} {old new : Seen Own} {net now_net : NetState} {stop : Bool} → Tells → is_event event ≡ true → Turns Tells accepts app budget rest event old new net now_net (ends.Done stop) unread
    → (a : AtOnce app (journal old.history)) → Passes a.last.unread rest → TurnDone app budget old new
turn_done {accepts = accepts} {app = app} {budget = budget} {rest = rest} {event = event} {unread = unread} {old = old} {new = new} {now_net = now_net} {stop = stop} told is t a passes =
    let judged = accepts now_net.views in
    let exchanges = exchanges_in t.trace in
    let alike = turn_alike (answering judged) (answers_of exchanges) [] t (answers_agree judged exchanges) (judged_is judged) in
    done_by app budget t.given rest event (acts_in t.trace) judged (answers_of exchanges) old new is
    (turn_acts t told) t.heard
    (subst IsCompleted (sym (ap (λ (p : Played (List Answer)). p.outcome) alike)) (completes stop unread t.outcome t.ends)) a passes

-- ---- The dispatch of an event

pub left_none : {Own : Type 0} (Tells Short : Type 0) (seen : Seen Own) (e : Engine) → DispatchLeft Tells Short seen seen e
left_none Tells Short seen e = record { left = λ told keeps order ready each. inl (inl (no_event_none seen)) }

-- its turn stopped, and was undone
pub left_stopped : {Own : Type 0} {Tells Short : Type 0} {app budget start now_start : ℕ} {old mid new : Seen Own} {at_net mid_net now_net : NetState} {fault : TxnFault} {result : Result (Unit {0}) TxnFault} (rest : List ℕ) (net : NetState) → at_net ≡ net → start ≡ length net.log → now_start ≡ start
    → Stops Tells app old mid at_net mid_net fault → Undoes Tells now_start mid new mid_net now_net result → TurnLeft Tells Short app budget rest old new net
left_stopped {Tells = Tells} {app = app} {old = old} {mid = mid} {new = new} {mid_net = mid_net} {now_net = now_net} {fault = fault} {result = result} rest net same at kept stops undoes = record {
  left = λ told keeps order ready a passes.
      inr (inl (undone_is old new told
      (stop-undone Tells app old mid new net mid_net now_net fault result told keeps order ready (subst (λ (n : NetState). Stops Tells app old mid n mid_net fault) same stops)
      (subst (λ (n : ℕ). Undoes Tells n mid new mid_net now_net result) (kept ∙ at) undoes))));
}

-- it failed, and could not be undone on each switch
pub left_failed : {Own : Type 0} {Tells Short : Type 0} {accepts : List TableView → Bool} {app budget most start now_start : ℕ} {taken frame unread : List ℕ} {old mid new : Seen Own} {at_net mid_net now_net : NetState} {end : TurnEnd} {result : Result (Unit {0}) TxnFault} (rest : List ℕ) (net : NetState)
    → at_net ≡ net → start ≡ length net.log → now_start ≡ start → Turns Tells accepts app most taken frame old mid at_net mid_net end unread → Undoes Tells now_start mid new mid_net now_net result → TurnLeft Tells Short app budget rest old new net
left_failed {Tells = Tells} {accepts = accepts} {app = app} {most = most} {taken = taken} {frame = frame} {unread = unread} {old = old} {mid = mid} {new = new} {mid_net = mid_net} {now_net = now_net} {end = end} {result = result} rest net same at kept turns undoes = record {
  left = λ told keeps order ready a passes.
      inr (inl (undone_is old new told
      (turn-undone Tells accepts app most taken frame old mid new net mid_net now_net end unread result told keeps order ready
      (subst (λ (n : NetState). Turns Tells accepts app most taken frame old mid n mid_net end unread) same turns)
      (subst (λ (n : ℕ). Undoes Tells n mid new mid_net now_net result) (kept ∙ at) undoes))));
}

committed_is : {Own : Type 0} (Tells : Type 0) (app budget : ℕ) (old new : Seen Own) (fault : TxnFault) → Tells → UndoneButFailed Tells old new ⊎ ((fault ≡ NoMemory) × TurnKept app budget old new) ⊎ TurnReleasing app budget old new → TablesLeft app budget (IsShort (fault_of fault)) old new
committed_is Tells app budget old new fault told (inl undone) = inr (inl (undone_is old new told undone))
committed_is Tells app budget old new fault told (inr (inl kept)) = inr (inr (inl (subst (λ (f : TxnFault). IsShort (fault_of f)) (sym kept.0) tt, kept.1)))
committed_is Tells app budget old new fault told (inr (inr releasing)) = inr (inr (inr releasing))

-- it was whole, and not all of its packets could be released
pub left_committed : {Own : Type 0} {Tells : Type 0} {accepts : List TableView → Bool} {app budget start now_start : ℕ} {event rest unread : List ℕ} {old mid new : Seen Own} {at_net mid_net now_net : NetState} {queue now_queue : List Event} {stop : Bool} {end : TurnEnd} (net : NetState)
    (fault : TxnFault) → at_net ≡ net → start ≡ length net.log → now_start ≡ start → end ≡ ends.Done stop → is_event event ≡ true → Turns Tells accepts app budget rest event old mid at_net mid_net end unread
    → Commits Tells now_start mid new mid_net now_net queue now_queue (Err fault) → TurnLeft Tells (IsShort (fault_of fault)) app budget rest old new net
left_committed {Tells = Tells} {accepts = accepts} {app = app} {budget = budget} {now_start = now_start} {event = event} {rest = rest} {unread = unread} {old = old} {mid = mid} {new = new} {at_net = at_net} {mid_net = mid_net} {now_net = now_net} {queue = queue} {now_queue = now_queue} {stop = stop} {end = end}
    net fault same at kept done gives turns commits = record {
      left = λ told keeps order ready a passes.
          let turned : Turns Tells accepts app budget rest event old mid net mid_net (ends.Done stop) unread =
          subst (λ (e : TurnEnd). Turns Tells accepts app budget rest event old mid net mid_net e unread) done (subst (λ (n : NetState). Turns Tells accepts app budget rest event old mid n mid_net end unread) same turns) in
          let broken : Commits Tells (length net.log) mid new mid_net now_net queue now_queue (Err fault) =
          subst (λ (n : ℕ). Commits Tells n mid new mid_net now_net queue now_queue (Err fault)) (kept ∙ at) commits in
          committed_is Tells app budget old new fault told
          (commit-left Tells accepts app budget rest event old mid new net mid_net now_net (ends.Done stop) unread queue now_queue fault told keeps order ready turned (turn_done told gives turned a passes) broken);
    }

-- all of them were released, and each switch moved by those alone, or was lost
pub released_by : {Own : Type 0} {Tells : Type 0} {start : ℕ} {old new : Seen Own} {net now_net : NetState} {queue now_queue : List Event} {sent : List (ℕ × ℕ)} → Tells → AreJoined net.views (state old) → Commits Tells start old new net now_net queue now_queue (Ok sent) → (packets : List Held) × MovesOrLoses packets old new
released_by {Tells = Tells} {start = start} {old = old} {new = new} {net = net} {now_net = now_net} {queue = queue} {now_queue = now_queue} told joined commits =
    (commits.ended.sent, release-moves Tells net.held.packets commits.ended.sent old new (committed start net) now_net (queue ++ net.held.notices) now_queue told joined commits.ended.all)

left_moved : {Own : Type 0} {Tells : Type 0} {app budget : ℕ} (old first mid new : Seen Own) → Tells → Continues Tells mid new → NoneReleased mid new → SwitchesStay mid new → ((mid.history ≡ first.history) × TurnKept app budget old mid) ⊎ TurnReleasing app budget old mid → TablesLeft app budget (Unit {0}) old new
left_moved old first mid new told later none stay (inl kept) = inr (inr (inl (tt, kept_then old mid new told later stay kept.1)))
left_moved old first mid new told later none stay (inr releasing) = inr (inr (inr (releasing_then old mid new later none stay releasing)))

-- its turn ended, and memory was wanting behind it
pub left_closed : {Own : Type 0} {Tells : Type 0} {accepts : List TableView → Bool} {budget number : ℕ} {event : Event} {queue now_queue : List Event} {rest unread : List ℕ} (app : ℕ) (closing : Closing) (old mid new : Seen Own) (net mid_net : NetState) → Continues Tells old mid → Continues Tells mid new
    → (Tells → OwnSteps app mid new) → PlaysTurn Tells accepts app budget number event closing old mid net mid_net queue now_queue rest unread → TurnLeft Tells (Unit {0}) app budget rest old new net
left_closed {Tells = Tells} {accepts = accepts} {budget = budget} {number = number} {event = event} {rest = rest} {unread = unread} app (closings.Done stop out) old mid new net mid_net first later own plays = record {
  left = λ told keeps order ready a passes.
      let commits = plays.played in
      let done = turn_done told (event_is number net.moment event) plays.turns a passes in
      let order_mid = InOrder-before told commits.continues (InOrder-before told later order) in
      let joined = turn-joined Tells accepts app budget rest (event_frame number net.moment event) old plays.mid net plays.mid_net (ends.Done stop) unread told keeps order_mid ready plays.turns in
      let moves = released_by told joined commits in
      let stay = own_stay later (own told) in
      left_moved old plays.mid mid new told later (own_releases (own told)) stay (moves-left app budget old plays.mid mid moves.0 commits.continues.given done moves.1);
}
left_closed {Tells = Tells} {accepts = accepts} {budget = budget} {number = number} {event = event} {rest = rest} {unread = unread} app (closings.Failed cause) old mid new net mid_net first later own plays = record {
  left = λ told keeps order ready a passes.
      let undone = turn-undone Tells accepts app budget rest (event_frame number net.moment event) old plays.mid mid net plays.mid_net mid_net (ends.Failed cause) unread (Ok tt) told keeps (InOrder-before told later order) ready plays.turns plays.played.0 in
      inr (inl (undone_then old mid new told first later (own_stay later (own told)) (undone_is old mid told undone)));
}
