-- Laws of the turns at the events that an application is given in place of one, in one transaction: their beats lead from one to the other, they go on
-- with the dialogue, and what a fault leaves of them.
use Rattle.std.proofs.Common.{◌≡◌, ◌⊎◌, ◌<◌, ◌^◌, ◌≤◌, ◌+◌, ◌||◌, ℕ, suc, Bool, true, false, List, [], ◌∷◌, ◌++◌, length, drop, Option, Some, None, Result, Err, refl, sym, ap, ap₂, ◌∙◌, subst, inl, inr, arith, true≢false, add-one}
use Rattle.std.specs.Prelude.{unwrap_or, string_bytes, zero}
use Rattle.flow_table.specs.View.{TableView}
use Rattle.app_frames.specs.declared.frame.Event.{Event}
use Rattle.crash_policy.specs.declared.policy_file.AppRule.{AppRule}
use Rattle.checkpoint_store.specs.Past.{checkpoints}
use Rattle.checkpoint_store.specs.Slots.{Slot, staged}
use Rattle.checkpoint_store.specs.laws.SlotLaws.{slot_of-with_slot}
use Rattle.lego_model.specs.AfterFault.{UndoneButFailed, TurnDone}
use Rattle.lego_model.specs.AtOnce.{AtOnce}
use Rattle.lego_model.specs.Controller.{event_frame}
use Rattle.lego_model.specs.declared.fault.TxnFault.{TxnFault}
use Rattle.lego_model.specs.declared.fault.TxnFault.TheVariants.{NoMemory}
use Rattle.outside.specs.Quiescence.{NoneQuiescentSince}
use Rattle.outside.specs.Seen.{Seen, journal}
use Rattle.outside.specs.laws.SeenLaws.{Continues-refl, Continues-trans}
use Rattle.journal_laws.specs.laws.FrameLaws.{event_is}
use Rattle.net_txn.specs.Net.{NetState}
use Rattle.net_txn.specs.LinkSteps.{OnLinks}
use Rattle.net_txn.specs.Undos.{Undoes}
use Rattle.net_txn.specs.Releases.{Commits}
use Rattle.app_visor.specs.declared.state.AppState.{AppState}
use Rattle.app_visor.specs.declared.state.TurnEnd.{TurnEnd}
use Rattle.app_visor.specs.declared.state.TurnEnd.TheVariants as ends
use Rattle.app_visor.specs.Beats.{Leads, Stops}
use Rattle.app_visor.specs.laws.BeatLaws.{Leads-refl, Leads-trans, stops_then}
use Rattle.app_visor.specs.CallsFor.{CalmBehind, OwnSteps}
use Rattle.app_visor.specs.laws.OwnLaws.{own_calls}
use Rattle.app_visor.specs.laws.CalmLaws.{calls_none, calls_then, calm_links, behind_later}
use Rattle.app_visor.specs.laws.LeadsOnLaws.{leads_on_links}
use Rattle.app_visor.specs.Dialogues.{is_done}
use Rattle.app_visor.specs.Turns.{handed, with_handed, Turns}
use Rattle.turn_laws.specs.laws.FaultLaws.{leads-undone, leads-commit, stop-undone, turn-leads}
use Rattle.run_course.specs.TurnsLeft.{AllDone, StaysWhole, IsReleasing, GroupLeft}
use Rattle.run_laws.specs.Facts.{says_stop, end_fails, done_by, failed_by, turned, unless_failed, line_by, Turning, PlaysAll}
use Rattle.run_laws.specs.laws.AgainLaws.{given_longer, again_quiet}
use Rattle.run_laws.specs.laws.DialogueLaws.{at_once_then}
use Rattle.run_laws.specs.laws.LastPointLaws.{no_point_of, no_point_then, no_point_none}
use Rattle.event_dispatch.specs.declared.instead.Played.{Played}
use Rattle.event_dispatch.specs.GroupParts.{pending_of, EndNoted, PlayedOne, QuietAgain, TurnsKeep, PlaysFail, turning_from, turning_of, PlaysFor, GroupPlayed, TalksBehind, PlaysSoFar, GroupRests}
use Rattle.event_dispatch.specs.Stored.{KeepsSlots}
use Rattle.event_dispatch.specs.Talking.{TurnTalks}
use Rattle.event_dispatch.specs.Undone.{IsShort}
use Rattle.event_dispatch.specs.Why.{fault_of}
use Rattle.event_dispatch.specs.laws.LeftLaws.{undone_is, turn_done}
use Rattle.event_dispatch.specs.laws.StoreLaws.{keeps_same}
use Rattle.event_dispatch.specs.laws.TalkingLaws.{leads_at_once}

-- ---- One turn

-- the checkpoint that would be kept, where a turn handed one over or none
pub pending_then : (app : ℕ) (checkpoint : Option (List ℕ)) (slots now_slots : List Slot) → app < length slots → now_slots ≡ with_handed app checkpoint slots
    → pending_of app now_slots ≡ unwrap_or checkpoint (pending_of app slots)
pending_then app None slots now_slots lt is = ap (pending_of app) is
pending_then app (Some checkpoint) slots now_slots lt is = ap (pending_of app) is ∙ ap (λ (x : Slot). x.pending.checkpoint) (slot_of-with_slot app (staged (checkpoints checkpoint)) slots lt)

-- no quiescent point lies behind a turn at an event of a number, where the application was given one before
pub quiet_turn : {Own : Type 0} {old new : Seen Own} (app number moment : ℕ) (event : Event) → number < 2 ^ 64 → CalmBehind app (event_frame number moment event) old new → QuietAgain app number old new
quiet_turn app number moment event few behind = record { quiet = λ was. again_quiet app number moment event few was behind; own = (behind_later behind).own }

pub quiet_none : {Own : Type 0} (app number : ℕ) (seen : Seen Own) → QuietAgain app number seen seen
quiet_none app number seen = record { quiet = λ was. no_point_none seen seen refl; own = calls_none app seen }

pub quiet_then : {Own : Type 0} {app number : ℕ} {old mid new : Seen Own} → QuietAgain app number old mid → QuietAgain app number mid new → QuietAgain app number old new
quiet_then {app = app} {number = number} {old = old} {mid = mid} first later = record {
  quiet = λ was. no_point_then (first.quiet was) (later.quiet (given_longer app number old mid (first.own.steps, first.own.history) was));
  own = calls_then first.own later.own;
}

pub quiet_links : {Own : Type 0} {Tells : Type 0} {app number : ℕ} {old mid new : Seen Own} → (Tells → QuietAgain app number old mid) → OnLinks Tells mid new → Tells → QuietAgain app number old new
quiet_links {app = app} first links told =
    let calm = calm_links app (links told) in
    quiet_then (first told) (record { quiet = λ was. no_point_of calm.none_quiescent; own = calm.own })

-- calls for the application alone, none of which gives it an event, leave it so
pub quiet_own : {Own : Type 0} {Tells : Type 0} {app number : ℕ} {old mid new : Seen Own} → (Tells → QuietAgain app number old mid) → (Tells → NoneQuiescentSince mid new) → (Tells → OwnSteps app mid new) → Tells → QuietAgain app number old new
quiet_own first none own told = quiet_then (first told) (record { quiet = λ was. no_point_of (none told); own = own_calls (own told) })

-- ---- Lists

pub drop_past : {A : Type 0} (n : ℕ) (xs : List A) → length xs ≤ n → drop n xs ≡ []
drop_past zero [] le = refl
drop_past (suc n) [] le = refl
drop_past zero (x ∷ xs) le = absurd (omega (arith, le))
drop_past (suc n) (x ∷ xs) le = drop_past n xs (omega (arith, le))

-- ---- How an application stays

pub slots_then : {app : ℕ} {a b c : List Slot} → KeepsSlots app a b → KeepsSlots app b c → KeepsSlots app a c
slots_then first later = record { number = later.number ∙ first.number; kept = later.kept ∙ first.kept; others = λ i other. later.others i other ∙ first.others i other }

pub keeps_none : {Own : Type 0} (Tells : Type 0) (number : ℕ) (seen : Seen Own) (net : NetState) (slots : List Slot) (app : AppState) → TurnsKeep Tells number seen seen net net slots slots app app
keeps_none Tells number seen net slots app = record {
  keeps = record { index = refl; alive = refl; slots = keeps_same app.index slots slots refl; quiet = λ told. quiet_none app.index number seen };
  stays = record { moment = refl; room = refl };
  continues = Continues-refl Tells seen;
}

pub keeps_then : {Own : Type 0} {Tells : Type 0} {number : ℕ} (old mid new : Seen Own) (net mid_net now_net : NetState) (slots mid_slots now_slots : List Slot) (app mid_app now_app : AppState)
    → TurnsKeep Tells number old mid net mid_net slots mid_slots app mid_app → TurnsKeep Tells number mid new mid_net now_net mid_slots now_slots mid_app now_app
    → TurnsKeep Tells number old new net now_net slots now_slots app now_app
keeps_then {Tells = Tells} {number = number} old mid new net mid_net now_net slots mid_slots now_slots app mid_app now_app first later = record {
  keeps = record {
    index = later.keeps.index ∙ first.keeps.index;
    alive = later.keeps.alive ∙ first.keeps.alive;
    slots = slots_then first.keeps.slots (subst (λ (i : ℕ). KeepsSlots i mid_slots now_slots) first.keeps.index later.keeps.slots);
    quiet = λ told. quiet_then (first.keeps.quiet told) (subst (λ (i : ℕ). QuietAgain i number mid new) first.keeps.index (later.keeps.quiet told));
  };
  stays = record { moment = later.stays.moment ∙ first.stays.moment; room = later.stays.room ∙ first.stays.room };
  continues = Continues-trans Tells old mid new first.continues later.continues;
}

-- ---- So far

module _ {Own : Type 0} (Tells : Type 0) (accepts : List TableView → Bool) (app : ℕ) (rule : AppRule) (number : ℕ) (events : List Event) where
  pub plays_none : (seen : Seen Own) (net : NetState) (rest kept : List ℕ) (p : Played) → p.stop ≡ false → p.failed ≡ false → p.text.items ≡ [] → PlaysSoFar Tells accepts app rule number events 0 seen seen net net rest rest kept kept p
  plays_none seen net rest kept p stop failed text = record {
    goes = λ done failed_before. record { done = done; failed = failed_before; on = λ to plays. subst (λ (from : Turning Own). PlaysFor Tells accepts app rule number events from to) (same done failed_before) plays };
    whole = failed;
    leads = Leads-refl app seen net;
    talks = λ told a runs passes. record { at_once = a; runs = runs; passes = passes };
  }
    where
      same : (d f : ℕ) → turning_of d f seen net rest kept p ≡ turning_from d f seen net rest kept
      same d f =
          ap₂ (λ (s x : Bool). record (turning_from d f seen net rest kept) { stops = s; fails = x; text = p.text.items }) stop failed
          ∙ ap (λ (t : List ℕ). record (turning_from d f seen net rest kept) { text = t }) text

  -- how it stands behind one turn more
  turned_is : (end : TurnEnd) (checkpoint : Option (List ℕ)) (unread line : List ℕ) (d f : ℕ) (now new : Seen Own) (now_net later_net : NetState) (rest kept now_kept : List ℕ) (p now_p : Played) → now_kept ≡ unwrap_or checkpoint kept
      → now_p.stop ≡ (p.stop || says_stop end) → now_p.failed ≡ end_fails end → now_p.text.items ≡ p.text.items ++ line
      → turned end checkpoint unread new later_net line (turning_of d f now now_net rest kept p) ≡ turning_of (done_by end d) (failed_by end f) new later_net unread now_kept now_p
  turned_is end checkpoint unread line d f now new now_net later_net rest kept now_kept p now_p kept_is stops fails text =
      let last = turned end checkpoint unread new later_net line (turning_of d f now now_net rest kept p) in
      ap (λ (k : List ℕ). record last { kept = k }) (sym kept_is)
      ∙ ap₂ (λ (s x : Bool). record last { kept = now_kept; stops = s; fails = x }) (sym stops) (sym fails)
      ∙ ap (λ (t : List ℕ). record last { kept = now_kept; stops = now_p.stop; fails = now_p.failed; text = t }) (sym text)

  -- a fault ended a turn more
  pub fails_on : (n : ℕ) (old now new : Seen Own) (net now_net later_net : NetState) (first rest kept now_kept : List ℕ) (p : Played) → PlaysSoFar Tells accepts app rule number events n old now net now_net first rest kept now_kept p
      → (fault : TxnFault) → PlaysFail Tells app rest now new now_net later_net fault → PlaysFail Tells app first old new net later_net fault
  fails_on n old now new net now_net later_net first rest kept now_kept p so_far fault fails = record {
    stops = stops_then so_far.leads fails.stops;
    talks = record {
      talks = λ told a runs passes.
          let t = so_far.talks told a runs passes in
          fails.talks.talks told t.at_once t.runs t.passes;
    };
  }

  module _ (n : ℕ) (event : Event) (old now new : Seen Own) (net now_net later_net : NetState) (first rest unread kept now_kept later_kept : List ℕ) (p now_p : Played) (split : drop n events ≡ event ∷ drop (suc n) events)
      (so_far : PlaysSoFar Tells accepts app rule number events n old now net now_net first rest kept now_kept p) where
    module _ (one : PlayedOne Tells accepts app rule number event p now_p now new now_net later_net rest unread now_kept later_kept) where
      abbrev next_of : (end : TurnEnd) → ℕ → ℕ → Turning Own
      next_of end d f = turning_of (done_by end d) (failed_by end f) new later_net unread later_kept now_p

      -- the others have theirs, unless it failed
      one_plays : (end : TurnEnd) (d f : ℕ) (to : Turning Own) (t : Turns Tells accepts app rule.budget rest (event_frame number now_net.moment event) now new now_net later_net end unread) → later_kept ≡ unwrap_or (handed t.outcome) now_kept
          → EndNoted (string_bytes rule.name) event end p now_p → unless_failed end (to ≡ next_of end d f) (PlaysFor Tells accepts app rule number (drop (suc n) events) (next_of end d f) to)
          → PlaysFor Tells accepts app rule number (drop n events) (turning_of d f now now_net rest now_kept p) to
      one_plays end d f to t kept_is noted later = subst (λ (es : List Event). PlaysFor Tells accepts app rule number es (turning_of d f now now_net rest now_kept p) to) (sym split) (
        record { mid = new; mid_net = later_net; end = end; unread = unread; turns = t },
        subst (λ (x : Turning Own). unless_failed end (to ≡ x) (PlaysFor Tells accepts app rule number (drop (suc n) events) x to))
            (sym (turned_is end (handed t.outcome) unread (line_by (string_bytes rule.name) event end) d f now new now_net later_net rest now_kept later_kept p now_p kept_is noted.stops noted.fails noted.text)) later,
      )

      goes_on : (end : TurnEnd) → end_fails end ≡ false → (to next : Turning Own) → PlaysFor Tells accepts app rule number (drop (suc n) events) next to → unless_failed end (to ≡ next) (PlaysFor Tells accepts app rule number (drop (suc n) events) next to)
      goes_on (ends.Done stop) whole to next plays = plays
      goes_on (ends.Failed cause) whole to next plays = absurd (true≢false whole)

      over : (end : TurnEnd) → end_fails end ≡ true → (next : Turning Own) → unless_failed end (next ≡ next) (PlaysFor Tells accepts app rule number (drop (suc n) events) next next)
      over (ends.Done stop) fails next = absurd (true≢false (sym fails))
      over (ends.Failed cause) fails next = refl

      went_well : (end : TurnEnd) → end_fails end ≡ false → is_done end ≡ true
      went_well (ends.Done stop) whole = refl
      went_well (ends.Failed cause) whole = absurd (true≢false whole)

      -- it was done
      pub plays_on : now_p.failed ≡ false → PlaysSoFar Tells accepts app rule number events (n + 1) old new net later_net first unread kept later_kept now_p
      plays_on whole =
          let done = sym one.noted.fails ∙ whole in
          subst (λ (k : ℕ). PlaysSoFar Tells accepts app rule number events k old new net later_net first unread kept later_kept now_p) (sym (add-one n)) (record {
            goes = λ d f.
                let so = so_far.goes d f in
                record {
                  done = done_by one.end so.done;
                  failed = failed_by one.end so.failed;
                  on = λ to plays. so.on to (one_plays one.end so.done so.failed to one.turns one.kept_is one.noted (goes_on one.end done to (next_of one.end so.done so.failed) plays));
                };
            whole = whole;
            leads = Leads-trans so_far.leads (turn-leads one.turns);
            talks = λ told a runs passes.
                let t = so_far.talks told a runs passes in
                let says = one.turns.speaks told (event_is number now_net.moment event) t.at_once.last t.runs t.passes in
                let well = went_well one.end done in
                record { at_once = at_once_then app says.after now new t.at_once says.converses; runs = says.runs well; passes = says.passes well };
          })

      -- it failed
      pub plays_over : now_p.failed ≡ true → GroupPlayed Tells accepts app rule number events old new net later_net first unread kept later_kept now_p
      plays_over fails = record {
        plays = λ d f.
            let so = so_far.goes d f in
            let failed = sym one.noted.fails ∙ fails in
            record {
              done = done_by one.end so.done;
              failed = failed_by one.end so.failed;
              plays = so.on (next_of one.end so.done so.failed)
                  (one_plays one.end so.done so.failed (next_of one.end so.done so.failed) one.turns one.kept_is one.noted (over one.end failed (next_of one.end so.done so.failed)));
            };
      }

  -- none is to come
  pub plays_end : (n : ℕ) (old now : Seen Own) (net now_net : NetState) (first rest kept now_kept : List ℕ) (p : Played) → drop n events ≡ [] → PlaysSoFar Tells accepts app rule number events n old now net now_net first rest kept now_kept p
      → GroupPlayed Tells accepts app rule number events old now net now_net first rest kept now_kept p
  plays_end n old now net now_net first rest kept now_kept p none so_far = record {
    plays = λ d f.
        let so = so_far.goes d f in
        let last = turning_of so.done so.failed now now_net rest now_kept p in
        record { done = so.done; failed = so.failed; plays = so.on last (subst (λ (es : List Event). PlaysFor Tells accepts app rule number es last last) (sym none) refl) };
  }

-- ---- Where they lead

more_done : {Own : Type 0} {app budget : ℕ} (from next to : Seen Own) → TurnDone app budget from next → AllDone app budget next to → AllDone app budget from to
more_done from next to one all = record { between = next ∷ all.between; done = (one, all.done) }

module _ {Own : Type 0} (Tells : Type 0) (accepts : List TableView → Bool) (app : ℕ) (name : List ℕ) (budget number : ℕ) where
  abbrev Plays : List Event → Turning Own → Turning Own → Type 0
  Plays events from to = PlaysAll Tells accepts app name budget number events from to

  lead_on : (event : Event) (events : List Event) (from to : Turning Own) (mid : Seen Own) (mid_net : NetState) (end : TurnEnd) (unread : List ℕ) (checkpoint : Option (List ℕ))
      → unless_failed end (to ≡ turned end checkpoint unread mid mid_net (line_by name event end) from) (Plays events (turned end checkpoint unread mid mid_net (line_by name event end) from) to)
      → ((next : Turning Own) → Plays events next to → Leads Tells app next.seen to.seen next.net to.net) → Leads Tells app mid to.seen mid_net to.net
  lead_on event events from to mid mid_net (ends.Done stop) unread checkpoint goes go = go (turned (ends.Done stop) checkpoint unread mid mid_net (line_by name event (ends.Done stop)) from) goes
  lead_on event events from to mid mid_net (ends.Failed cause) unread checkpoint is go = subst (λ (t : Turning Own). Leads Tells app mid t.seen mid_net t.net) (sym is) (Leads-refl app mid mid_net)

  pub plays_lead : (events : List Event) (from to : Turning Own) → Plays events from to → Leads Tells app from.seen to.seen from.net to.net
  plays_lead [] from to none = subst (λ (t : Turning Own). Leads Tells app from.seen t.seen from.net t.net) (sym none) (Leads-refl app from.seen from.net)
  plays_lead (event ∷ events) from to (one, on) =
      Leads-trans (turn-leads one.turns) (lead_on event events from to one.mid one.mid_net one.end one.unread (handed one.turns.outcome) on (λ next plays. plays_lead events next to plays))

  -- the dialogue behind one turn
  talk_on : (event : Event) (events : List Event) (from to : Turning Own) (mid : Seen Own) (mid_net : NetState) (end : TurnEnd) (unread : List ℕ) → Tells → (t : Turns Tells accepts app budget from.rest (event_frame number from.net.moment event) from.seen mid from.net mid_net end unread)
      → unless_failed end (to ≡ turned end (handed t.outcome) unread mid mid_net (line_by name event end) from) (Plays events (turned end (handed t.outcome) unread mid mid_net (line_by name event end) from) to)
      → TalksBehind app from.rest from.seen → ((next : Turning Own) → Plays events next to → TalksBehind app next.rest next.seen → AtOnce app (journal to.seen.history)) → AtOnce app (journal to.seen.history)
  talk_on event events from to mid mid_net (ends.Done stop) unread told t goes talks go =
      let says = t.speaks told (event_is number from.net.moment event) talks.at_once.last talks.runs talks.passes in
      go (turned (ends.Done stop) (handed t.outcome) unread mid mid_net (line_by name event (ends.Done stop)) from) goes
      (record { at_once = at_once_then app says.after from.seen mid talks.at_once says.converses; runs = says.runs refl; passes = says.passes refl })
  talk_on event events from to mid mid_net (ends.Failed cause) unread told t is talks go =
      let says = t.speaks told (event_is number from.net.moment event) talks.at_once.last talks.runs talks.passes in
      subst (λ (x : Turning Own). AtOnce app (journal x.seen.history)) (sym is) (at_once_then app says.after from.seen mid talks.at_once says.converses)

  plays_talk : (events : List Event) (from to : Turning Own) → Tells → Plays events from to → TalksBehind app from.rest from.seen → AtOnce app (journal to.seen.history)
  plays_talk [] from to told none talks = subst (λ (x : Turning Own). AtOnce app (journal x.seen.history)) (sym none) talks.at_once
  plays_talk (event ∷ events) from to told (one, on) talks =
      talk_on event events from to one.mid one.mid_net one.end one.unread told one.turns on talks (λ next plays there. plays_talk events next to told plays there)

  -- they were played, and links were used
  pub group_ends : (events : List Event) (from to : Turning Own) (new : Seen Own) → Plays events from to → OnLinks Tells to.seen new → TurnTalks Tells app from.rest from.seen new
  group_ends events from to new plays links = record {
    talks = λ told a runs passes.
        let there = plays_talk events from to told plays (record { at_once = a; runs = runs; passes = passes }) in
        leads_at_once app to.seen new there (leads_on_links app there.last links told);
  }

  -- ---- All were whole

  done_on : (event : Event) (events : List Event) (from to : Turning Own) (mid : Seen Own) (mid_net : NetState) (end : TurnEnd) (unread : List ℕ) → Tells → to.fails ≡ false → (t : Turns Tells accepts app budget from.rest (event_frame number from.net.moment event) from.seen mid from.net mid_net end unread)
      → unless_failed end (to ≡ turned end (handed t.outcome) unread mid mid_net (line_by name event end) from) (Plays events (turned end (handed t.outcome) unread mid mid_net (line_by name event end) from) to)
      → TalksBehind app from.rest from.seen → ((next : Turning Own) → Plays events next to → TalksBehind app next.rest next.seen → TurnDone app budget from.seen next.seen → AllDone app budget from.seen to.seen) → AllDone app budget from.seen to.seen
  done_on event events from to mid mid_net (ends.Done stop) unread told whole t goes talks go =
      let says = t.speaks told (event_is number from.net.moment event) talks.at_once.last talks.runs talks.passes in
      go (turned (ends.Done stop) (handed t.outcome) unread mid mid_net (line_by name event (ends.Done stop)) from) goes
      (record { at_once = at_once_then app says.after from.seen mid talks.at_once says.converses; runs = says.runs refl; passes = says.passes refl })
      (turn_done told (event_is number from.net.moment event) t talks.at_once talks.passes)
  done_on event events from to mid mid_net (ends.Failed cause) unread told whole t is talks go = absurd (true≢false (sym (ap (λ (x : Turning Own). x.fails) is) ∙ whole))

  pub plays_done : (event : Event) (events : List Event) (from to : Turning Own) → Tells → to.fails ≡ false → Plays (event ∷ events) from to → TalksBehind app from.rest from.seen → AllDone app budget from.seen to.seen
  plays_done event [] from to told whole (one, on) talks =
      done_on event [] from to one.mid one.mid_net one.end one.unread told whole one.turns on talks (λ next none there done. subst (λ (x : Turning Own). AllDone app budget from.seen x.seen) (sym none) (record { between = []; done = done }))
  plays_done event (e ∷ events) from to told whole (one, on) talks =
      done_on event (e ∷ events) from to one.mid one.mid_net one.end one.unread told whole one.turns on talks (λ next plays there done. more_done from.seen next.seen to.seen done (plays_done e events next to told whole plays there))

-- ---- What a fault leaves of them

-- one stopped, and all were undone
pub group_stopped : {Own : Type 0} {Tells Short : Type 0} {app budget start now_start : ℕ} {rest : List ℕ} {old mid new : Seen Own} {at_net mid_net now_net : NetState} {fault : TxnFault} {result : Result (Unit {0}) TxnFault} (net : NetState) → at_net ≡ net → start ≡ length net.log → now_start ≡ start
    → Stops Tells app old mid at_net mid_net fault → Undoes Tells now_start mid new mid_net now_net result → GroupRests Tells Short app budget rest old new net
group_stopped {Tells = Tells} {app = app} {old = old} {mid = mid} {new = new} {mid_net = mid_net} {now_net = now_net} {fault = fault} {result = result} net same at kept stops undoes = record {
  left = λ told keeps order ready a runs passes.
      inr (inl (undone_is old new told
      (stop-undone Tells app old mid new net mid_net now_net fault result told keeps order ready (subst (λ (n : NetState). Stops Tells app old mid n mid_net fault) same stops)
      (subst (λ (n : ℕ). Undoes Tells n mid new mid_net now_net result) (kept ∙ at) undoes))));
}

-- one failed, and they could not be undone on each switch
pub group_undone : {Own : Type 0} {Tells Short : Type 0} {app budget start now_start : ℕ} {rest : List ℕ} {old mid new : Seen Own} {at_net mid_net now_net : NetState} {result : Result (Unit {0}) TxnFault} (net : NetState) → at_net ≡ net → start ≡ length net.log → now_start ≡ start
    → Leads Tells app old mid at_net mid_net → Undoes Tells now_start mid new mid_net now_net result → GroupRests Tells Short app budget rest old new net
group_undone {Tells = Tells} {app = app} {old = old} {mid = mid} {new = new} {mid_net = mid_net} {now_net = now_net} {result = result} net same at kept leads undoes = record {
  left = λ told keeps order ready a runs passes.
      inr (inl (undone_is old new told
      (leads-undone new now_net result told keeps order ready (subst (λ (n : NetState). Leads Tells app old mid n mid_net) same leads)
      (subst (λ (n : ℕ). Undoes Tells n mid new mid_net now_net result) (kept ∙ at) undoes))));
}

committed_is : {Own : Type 0} (Tells : Type 0) (app budget : ℕ) (old new : Seen Own) (fault : TxnFault) → Tells
    → UndoneButFailed Tells old new ⊎ ((fault ≡ NoMemory) × StaysWhole (AllDone app budget old) new) ⊎ IsReleasing (AllDone app budget old) new → GroupLeft app budget (IsShort (fault_of fault)) old new
committed_is Tells app budget old new fault told (inl undone) = inr (inl (undone_is old new told undone))
committed_is Tells app budget old new fault told (inr (inl kept)) = inr (inr (inl (subst (λ (f : TxnFault). IsShort (fault_of f)) (sym kept.0) tt, kept.1)))
committed_is Tells app budget old new fault told (inr (inr releasing)) = inr (inr (inr releasing))

-- all were whole, and not all of their packets could be released
pub group_committed : {Own : Type 0} {start now_start : ℕ} {at_net now_net : NetState} {queue now_queue : List Event} (Tells : Type 0) (accepts : List TableView → Bool) (app : ℕ) (name : List ℕ) (budget number : ℕ) (new : Seen Own) (net : NetState) (fault : TxnFault) (events : List Event) (from to : Turning Own)
    → at_net ≡ net → start ≡ length net.log → now_start ≡ start → from.net ≡ at_net → 1 ≤ length events → to.fails ≡ false → PlaysAll Tells accepts app name budget number events from to
    → Commits Tells now_start to.seen new to.net now_net queue now_queue (Err fault) → GroupRests Tells (IsShort (fault_of fault)) app budget from.rest from.seen new net
group_committed Tells accepts app name budget number new net fault [] from to same at kept begun some whole plays commits = absurd (omega (arith, some))
group_committed {now_net = now_net} {queue = queue} {now_queue = now_queue} Tells accepts app name budget number new net fault (event ∷ events) from to same at kept begun some whole plays commits = record {
  left = λ told keeps order ready a runs passes.
      let led : Leads Tells app from.seen to.seen net to.net = subst (λ (n : NetState). Leads Tells app from.seen to.seen n to.net) (begun ∙ same) (plays_lead Tells accepts app name budget number (event ∷ events) from to plays) in
      let broken : Commits Tells (length net.log) to.seen new to.net now_net queue now_queue (Err fault) =
      subst (λ (n : ℕ). Commits Tells n to.seen new to.net now_net queue now_queue (Err fault)) (kept ∙ at) commits in
      committed_is Tells app budget from.seen new fault told
      (leads-commit (AllDone app budget from.seen) new now_net queue now_queue fault told keeps order ready led (plays_done Tells accepts app name budget number event events from to told whole plays (record { at_once = a; runs = runs; passes = passes })) broken);
}
