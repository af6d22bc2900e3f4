-- Laws of how the turns at the events are closed that an application is given in place of one, and of what that leaves.
use Rattle.std.proofs.Common.{◌≡◌, ◌<◌, ◌≤◌, ℕ, zero, Bool, true, false, List, [], length, Result, Ok, Err, IsErr, refl, sym, ap, ◌∙◌, subst, append_assoc, inl, inr}
use Rattle.std.specs.Prelude.{◌+◌, ◌++◌, Vec, string_bytes, MatchResult}
use Rattle.std.proofs.lemmas.Bool.{cases_eq}
use Rattle.std.specs.Global.{Global}
use Rattle.flow_table.specs.View.{TableView}
use Rattle.app_frames.specs.declared.frame.Event.{Event}
use Rattle.crash_policy.specs.declared.policy_file.AppRule.{AppRule}
use Rattle.checkpoint_store.specs.Past.{Past}
use Rattle.checkpoint_store.specs.Slots.{Slot, slot_of, with_slot, HasStaged}
use Rattle.checkpoint_store.specs.laws.SlotLaws.{HasStaged-done, HasStaged-dropped, slot_of-with_slot, length-with_slot}
use Rattle.batch_laws.specs.Knowledge.{lost_text}
use Rattle.lego_model.specs.RunReport.{group_line}
use Rattle.lego_model.specs.declared.fault.TxnFault.{TxnFault}
use Rattle.outside.specs.Seen.{Seen}
use Rattle.outside.specs.laws.SeenLaws.{Continues-trans}
use Rattle.net_txn.specs.Net.{NetState}
use Rattle.net_txn.specs.LinkSteps.{OnLinks}
use Rattle.net_txn.specs.Undos.{Undoes}
use Rattle.net_txn.specs.Releases.{Commits}
use Rattle.app_visor.specs.Attempts.{kept_of}
use Rattle.app_visor.specs.Beats.{Leads, Stops, Stays}
use Rattle.app_visor.specs.laws.BeatLaws.{Leads-continues, Stops-continues}
use Rattle.app_visor.specs.laws.LeadsOnLaws.{leads_on_links}
use Rattle.run_laws.specs.Cut.{CallsAmong}
use Rattle.run_laws.specs.Engine.{Focus}
use Rattle.run_laws.specs.Facts.{out_text, all_told, StartsAgain}
use Rattle.event_dispatch.specs.declared.engine_core.Core.{Core}
use Rattle.event_dispatch.specs.declared.fault.Fault.{Fault}
use Rattle.event_dispatch.specs.declared.instead.Grouped.{Grouped}
use Rattle.event_dispatch.specs.declared.instead.Grouped.TheVariants as grouped
use Rattle.event_dispatch.specs.declared.instead.Played.{Played}
use Rattle.event_dispatch.specs.declared.run.Managed.{Managed}
use Rattle.event_dispatch.specs.GroupParts.{pending_of, turning_from, turning_of, GroupPlayed, PlaysFail, QuietAgain, GroupDone, GroupFails, closes_group, UnkeptBy, GroupCloseDone}
use Rattle.event_dispatch.specs.Lines.{OnlyNotes, LostTold}
use Rattle.event_dispatch.specs.Passes.{Passes}
use Rattle.event_dispatch.specs.Runs.{AreRead, StoreRests}
use Rattle.event_dispatch.specs.Shows.{focus_of, name_of}
use Rattle.event_dispatch.specs.Stored.{KeepsSlots, KeepsOthers}
use Rattle.event_dispatch.specs.Talking.{TurnTalks}
use Rattle.event_dispatch.specs.TurnParts.{StartDone}
use Rattle.event_dispatch.specs.Why.{fault_of, ended_by}
use Rattle.event_dispatch.specs.laws.DispatchStrayLaws.{turn_committed, turn_undone, stop_undone, committed_reads, undone_reads}
use Rattle.event_dispatch.specs.laws.FaultLaws.{commit_why, undo_why, stops_why}
use Rattle.event_dispatch.specs.laws.GroupLaws.{plays_lead, group_ends, group_stopped, group_undone, group_committed}
use Rattle.event_dispatch.specs.laws.KeptLaws.{chain_read, commits_read, undoes_read}
use Rattle.event_dispatch.specs.laws.NumberLaws.{numbers_failed, committed_numbers, undone_numbers, committed_end, undone_end, stopped_end}
use Rattle.event_dispatch.specs.laws.PassesLaws.{if_failed}
use Rattle.event_dispatch.specs.laws.PlainLaws.{turn_stopped, turn_not_undone, turn_uncommitted}
use Rattle.event_dispatch.specs.laws.SteadyLaws.{calls_among}
use Rattle.event_dispatch.specs.laws.StoreLaws.{other_slot, kept_done, kept_dropped, within}
use Rattle.event_dispatch.specs.laws.TalkingLaws.{leads_at_once}
use Rattle.event_dispatch.specs.laws.TurnPartLaws.{told_events, told_store, told_lines, told_goes, told_focus}
use Rattle.event_dispatch.specs.laws.WhyLaws.{why_then, why_before}

-- ---- What every part of the engine's work leaves, behind beats and how they were closed

module _ {Own T E : Type 0} {Tells : Type 0} {app count start : ℕ} {old mid new : Seen Own} {mid_net : NetState} (net now_net : NetState) (result : Result T E) (own : Tells → CallsAmong count old new) (leads : Leads Tells app old mid net mid_net) where
  pub released_passes : {queue now_queue : List Event} {sent : List (ℕ × ℕ)} (x : T) → result ≡ Ok x → Commits Tells start mid new mid_net now_net queue now_queue (Ok sent) → Passes Tells count old new net now_net result
  released_passes x is commits = subst (λ (r : Result T E). Passes Tells count old new net now_net r) (sym is) (record {
    continues = Continues-trans Tells old mid new (Leads-continues leads) commits.continues;
    places = turn_committed net refl own leads commits;
    reads = committed_reads net now_net leads commits;
    numbers = committed_numbers net refl leads commits refl;
  })

  pub undone_passes : (x : T) → result ≡ Ok x → Undoes Tells start mid new mid_net now_net (Ok tt) → Passes Tells count old new net now_net result
  undone_passes x is undone = subst (λ (r : Result T E). Passes Tells count old new net now_net r) (sym is) (record {
    continues = Continues-trans Tells old mid new (Leads-continues leads) undone.continues;
    places = turn_undone net refl own leads undone;
    reads = undone_reads net now_net leads undone;
    numbers = undone_numbers net refl leads undone refl;
  })

  pub unreleased_passes : {queue now_queue : List Event} {left_net : NetState} {closed : Result (List (ℕ × ℕ)) TxnFault} → IsErr result → Commits Tells start mid new mid_net left_net queue now_queue closed → Passes Tells count old new net now_net result
  unreleased_passes failed commits = record {
    continues = Continues-trans Tells old mid new (Leads-continues leads) commits.continues;
    places = turn_committed net refl own leads commits;
    reads = if_failed _ result failed;
    numbers = numbers_failed now_net.xid result failed (committed_end net refl leads commits);
  }

  pub not_undone_passes : {left_net : NetState} {closed : Result (Unit {0}) TxnFault} → IsErr result → Undoes Tells start mid new mid_net left_net closed → Passes Tells count old new net now_net result
  not_undone_passes failed undone = record {
    continues = Continues-trans Tells old mid new (Leads-continues leads) undone.continues;
    places = turn_undone net refl own leads undone;
    reads = if_failed _ result failed;
    numbers = numbers_failed now_net.xid result failed (undone_end net refl leads undone);
  }

pub stopped_passes : {Own T E : Type 0} {Tells : Type 0} {app count start : ℕ} {old mid new : Seen Own} {mid_net left_net : NetState} {fault : TxnFault} {closed : Result (Unit {0}) TxnFault} (net now_net : NetState) (result : Result T E) → (Tells → CallsAmong count old new)
    → IsErr result → Stops Tells app old mid net mid_net fault → Undoes Tells start mid new mid_net left_net closed → Passes Tells count old new net now_net result
stopped_passes {Tells = Tells} {old = old} {mid = mid} {new = new} net now_net result own failed stops undone = record {
  continues = Continues-trans Tells old mid new (Stops-continues stops) undone.continues;
  places = stop_undone net refl own stops undone;
  reads = if_failed _ result failed;
  numbers = numbers_failed now_net.xid result failed (stopped_end net refl stops undone);
}

-- ---- They were played

module _ {Own : Type 0} {Tells : Type 0} {accepts : List TableView → Bool} {app : ℕ} {rule : AppRule} {number : ℕ} {events : List Event} {old mid : Seen Own} {net mid_net : NetState} {rest unread kept now_kept : List ℕ} {p : Played}
    (played : GroupPlayed Tells accepts app rule number events old mid net mid_net rest unread kept now_kept p) where
  pub group_leads : Leads Tells app old mid net mid_net
  group_leads =
      let to = played.plays zero zero in
      plays_lead Tells accepts app (string_bytes rule.name) rule.budget number events (turning_from zero zero old net rest kept) (turning_of to.done to.failed mid mid_net unread now_kept p) to.plays

  group_talks : (new : Seen Own) → OnLinks Tells mid new → TurnTalks Tells app rest old new
  group_talks new links =
      let to = played.plays zero zero in
      group_ends Tells accepts app (string_bytes rule.name) rule.budget number events (turning_from zero zero old net rest kept) (turning_of to.done to.failed mid mid_net unread now_kept p) new to.plays links

  -- all were done, and they were released
  pub group_kept : {new : Seen Own} {now_net : NetState} {queue now_queue : List Event} {out : Vec (ℕ × ℕ) Global} → p.failed ≡ false → Stays net mid_net → Commits Tells (length net.log) mid new mid_net now_net queue now_queue (Ok out.items)
      → GroupDone Tells accepts app rule number events old new net now_net queue now_queue rest unread kept now_kept (grouped.Kept p.stop p.text out)
  group_kept {new} {now_net} {queue} {now_queue} {out} whole stays commits = record {
    room = commits.room refl ∙ stays.room;
    read = λ read. commits_read mid_net now_net commits (chain_read Tells app group_leads.trace old mid net mid_net group_leads.chain read);
    closes = λ d f.
        let to = played.plays d f in
        record {
          turning = turning_of to.done to.failed mid mid_net unread now_kept p;
          plays = to.plays;
          closed = record { whole = whole; stops = refl; text_is = refl; rest_is = refl; kept_is = refl; commits = commits };
        };
  }

  -- one failed, and they were undone
  pub group_back : {new : Seen Own} {now_net : NetState} {queue now_queue : List Event} → p.failed ≡ true → Stays net mid_net → now_queue ≡ queue → Undoes Tells (length net.log) mid new mid_net now_net (Ok tt)
      → GroupDone Tells accepts app rule number events old new net now_net queue now_queue rest unread kept now_kept (grouped.Undone p.text)
  group_back {new} {now_net} {queue} {now_queue} fails stays waits undoes = record {
    room = undoes.room.1 refl ∙ stays.room;
    read = λ read. undoes_read mid_net now_net undoes (chain_read Tells app group_leads.trace old mid net mid_net group_leads.chain read);
    closes = λ d f.
        let to = played.plays d f in
        record {
          turning = turning_of to.done to.failed mid mid_net unread now_kept p;
          plays = to.plays;
          closed = record { fails = fails; rest_is = refl; text_is = refl; queue_is = waits; undoes = undoes };
        };
  }

  -- all were done, and not all packets could be released
  pub group_unreleased : {new : Seen Own} {now_net : NetState} {queue now_queue : List Event} (fault : TxnFault) → 1 ≤ length events → p.failed ≡ false → Commits Tells (length net.log) mid new mid_net now_net queue now_queue (Err fault)
      → GroupFails Tells app rule.budget rest old new net (fault_of fault)
  group_unreleased {new} {now_net} {queue} {now_queue} fault some whole commits =
      let to = played.plays zero zero in
      record {
        talks = group_talks new commits.links;
        why = why_then old mid new (ended_by fault) (Leads-continues group_leads) (commit_why _ mid new mid_net _ _ _ fault commits);
        plain = turn_uncommitted old mid new net net mid_net now_net fault refl refl refl group_leads commits;
        rests = group_committed Tells accepts app (string_bytes rule.name) rule.budget number new net fault events (turning_from zero zero old net rest kept) (turning_of to.done to.failed mid mid_net unread now_kept p) refl refl refl refl some whole to.plays commits;
      }

  -- one failed, and they could not all be undone
  pub group_not_undone : {new : Seen Own} {now_net : NetState} (fault : TxnFault) → Undoes Tells (length net.log) mid new mid_net now_net (Err fault) → GroupFails Tells app rule.budget rest old new net (fault_of fault)
  group_not_undone {new} {now_net} fault undoes = record {
    talks = group_talks new undoes.links;
    why = why_then old mid new (ended_by fault) (Leads-continues group_leads) (undo_why _ mid new mid_net _ fault undoes);
    plain = turn_not_undone old mid new net net mid_net now_net (Err fault) fault refl group_leads refl undoes;
    rests = group_undone net refl refl refl group_leads undoes;
  }

-- ---- One stopped by a fault, and they were undone as far as that went

pub group_stops : {Own : Type 0} {Tells : Type 0} {app budget : ℕ} {rest : List ℕ} {old mid new : Seen Own} {net mid_net now_net : NetState} {closed : Result (Unit {0}) TxnFault} (fault : TxnFault) → PlaysFail Tells app rest old mid net mid_net fault
    → Undoes Tells (length net.log) mid new mid_net now_net closed → GroupFails Tells app budget rest old new net (fault_of fault)
group_stops {Tells = Tells} {app = app} {old = old} {mid = mid} {new = new} {net = net} {mid_net = mid_net} fault fails undoes = record {
  talks = record {
    talks = λ told a runs passes.
        let there = fails.talks.talks told a runs passes in
        leads_at_once app mid new there (leads_on_links app there.last undoes.links told);
  };
  why = why_before old mid new (ended_by fault) (Stops-continues fails.stops) undoes.continues (stops_why old mid net mid_net fault fails.stops);
  plain = turn_stopped old mid new net mid_net fault undoes.continues fails.stops;
  rests = group_stopped net refl refl refl fails.stops undoes;
}

-- ---- What they staged is kept or dropped

none_staged : (held : Result Grouped Fault) (slot : Slot) → HasStaged [] (closes_group held slot)
none_staged (Ok (grouped.Kept stop text out)) slot = HasStaged-done slot
none_staged (Ok (grouped.Undone text)) slot = HasStaged-dropped slot
none_staged (Err fault) slot = HasStaged-dropped slot

pub group_others : (held : Result Grouped Fault) (app : ℕ) (slots mid_slots now_slots : List Slot) → KeepsSlots app slots mid_slots → now_slots ≡ with_slot app (closes_group held) mid_slots → KeepsOthers app slots now_slots
group_others held app slots mid_slots now_slots keeps is = record {
  number = ap (λ (s : List Slot). length s) is ∙ length-with_slot app (closes_group held) mid_slots ∙ keeps.number;
  others = λ i other. other_slot app i (closes_group held) mid_slots now_slots is other ∙ keeps.others i other;
}

pub group_rests : (held : Result Grouped Fault) (app : ℕ) (slots mid_slots now_slots : List Slot) → app < length slots → StoreRests slots → KeepsSlots app slots mid_slots → now_slots ≡ with_slot app (closes_group held) mid_slots → StoreRests now_slots
group_rests held app slots mid_slots now_slots lt rests keeps is = λ i less.
    let others = group_others held app slots mid_slots now_slots keeps is in
    elim (cases_eq i app) [
      | inl same ↦ subst (λ (n : ℕ). HasStaged [] (slot_of n now_slots)) (sym same)
          (subst (λ (s : List Slot). HasStaged [] (slot_of app s)) (sym is)
          (subst (λ (x : Slot). HasStaged [] x) (sym (slot_of-with_slot app (closes_group held) mid_slots (within app slots mid_slots lt keeps))) (none_staged held (slot_of app mid_slots))))
      | inr other ↦ subst (λ (x : Slot). HasStaged [] x) (sym (others.others i other)) (rests i (subst (λ (n : ℕ). i < n) others.number less))
    ]

pub group_unkept : (held : Result Grouped Fault) (app : ℕ) (slots mid_slots now_slots : List Slot) → app < length slots → KeepsSlots app slots mid_slots → now_slots ≡ with_slot app (closes_group held) mid_slots → UnkeptBy held (kept_of app slots) (kept_of app now_slots)
group_unkept (Ok (grouped.Kept stop text out)) app slots mid_slots now_slots lt keeps is = tt
group_unkept (Ok (grouped.Undone text)) app slots mid_slots now_slots lt keeps is = kept_dropped app mid_slots now_slots (within app slots mid_slots lt keeps) is ∙ keeps.kept
group_unkept (Err fault) app slots mid_slots now_slots lt keeps is = kept_dropped app mid_slots now_slots (within app slots mid_slots lt keeps) is ∙ keeps.kept

-- where nothing was staged, what would be kept is what is kept
pending_kept : (app : ℕ) (slots : List Slot) → app < length slots → StoreRests slots → pending_of app slots ≡ kept_of app slots
pending_kept app slots lt rests = ap (λ (past : Past). past.checkpoint) (rests app lt)

module _ (Own : Type 0) (Tells : Type 0) (accepts : List TableView → Bool) (app : ℕ) (rule : AppRule) (number : ℕ) (events : List Event) (old new : Seen Own) (net now_net : NetState) (queue now_queue : List Event) (rest unread : List ℕ) (slots mid_slots now_slots : List Slot)
    (lt : app < length slots) (rests : StoreRests slots) (keeps : KeepsSlots app slots mid_slots) where
  abbrev Done : List ℕ → List ℕ → Grouped → Type 0
  Done kept now_kept held = GroupDone Tells accepts app rule number events old new net now_net queue now_queue rest unread kept now_kept held

  held_so : (held : Grouped) → now_slots ≡ with_slot app (closes_group (Ok held)) mid_slots → Done (pending_of app slots) (pending_of app mid_slots) held → Done (pending_of app slots) (kept_of app now_slots) held
  held_so (grouped.Kept stop text out) is done = subst (λ (k : List ℕ). Done (pending_of app slots) k (grouped.Kept stop text out)) (sym (kept_done app mid_slots now_slots (within app slots mid_slots lt keeps) is)) done
  held_so (grouped.Undone text) is done = record {
    room = done.room;
    read = done.read;
    closes = λ d f. let x = done.closes d f in record { turning = x.turning; plays = x.plays; closed = x.closed };
  }

  pub group_held : (held : Result Grouped Fault) → now_slots ≡ with_slot app (closes_group held) mid_slots → MatchResult held (Done (pending_of app slots) (pending_of app mid_slots)) (GroupFails Tells app rule.budget rest old new net)
      → MatchResult held (Done (kept_of app slots) (kept_of app now_slots)) (GroupFails Tells app rule.budget rest old new net)
  group_held (Ok held) is done = subst (λ (k : List ℕ). Done k (kept_of app now_slots) held) (pending_kept app slots lt rests) (held_so held is done)
  group_held (Err fault) is fails = fails

-- ---- They are counted and told, with the switches that were lost

module _ {text : List ℕ} {c mid_c now_c : Core} (noted : OnlyNotes text c mid_c) (told : LostTold mid_c now_c) (m : Managed) (room : 1 ≤ c.net.room) (read : AreRead c.net.kept) (store : StoreRests c.store) where
  -- all were done
  pub group_counted : {Own : Type 0} {Tells : Type 0} {written : Vec ℕ Global} {out : Vec (ℕ × ℕ) Global} (turns all : ℕ) (stop : Bool) (seen : Seen Own) → all ≡ m.done + turns → text ≡ (written.items ++ group_line (name_of m) true) ++ out_text out.items
      → GroupCloseDone Tells turns (grouped.Kept stop written out) stop seen seen c now_c m (record m { done = all })
  group_counted {written = written} {out = out} turns all stop seen more is = record {
    goes = told_goes noted told room read store;
    events = told_events noted told;
    store = told_store noted told;
    stops = refl;
    closes = record {
      seen = refl;
      engine = told_focus noted told (record m { done = all }) ∙ ap (λ (n : ℕ). all_told c.net c.queue (record (focus_of c m) { done = n })) more;
      notes = told_lines noted told ∙ ap (λ (xs : List ℕ). c.lines.items ++ (xs ++ lost_text c.net.left)) is
          ∙ regroup c.lines.items written.items (group_line (name_of m) true) (out_text out.items) (lost_text c.net.left);
    };
  }
    where
      regroup : (a b g o l : List ℕ) → a ++ (((b ++ g) ++ o) ++ l) ≡ a ++ (b ++ (g ++ (o ++ l)))
      regroup a b g o l = simp append_assoc

  -- one failed, and the application is started again
  pub group_followed : {Own : Type 0} {Tells : Type 0} {old new : Seen Own} {later_c : Core} {written : Vec ℕ Global} (turns all : ℕ) (now_m : Managed) → all ≡ m.failed + 1 → text ≡ written.items ++ group_line (name_of m) false
      → StartDone Tells old new now_c later_c (record m { failed = all }) now_m → GroupCloseDone Tells turns (grouped.Undone written) false old new c later_c m now_m
  group_followed {Tells = Tells} {old = old} {new = new} {later_c = later_c} {written = written} turns all now_m more is starts =
      let core = told_goes noted told room read store in
      let s = starts.starts in
      record {
        goes = record {
          room = subst (λ (net : NetState). 1 ≤ net.room) (sym starts.net) core.room;
          read = subst (λ (net : NetState). AreRead net.kept) (sym starts.net) core.read;
          store = subst StoreRests (sym starts.waits.store) core.store;
          left = ap (λ (net : NetState). net.left) starts.net ∙ core.left;
        };
        events = starts.waits.events ∙ told_events noted told;
        store = starts.waits.store ∙ told_store noted told;
        stops = refl;
        closes = record {
          later_text = s.text;
          starts = subst (λ (e : Focus). StartsAgain Tells s.text old new e (focus_of later_c now_m))
              (told_focus noted told (record m { failed = all }) ∙ ap (λ (n : ℕ). all_told c.net c.queue (record (focus_of c m) { failed = n })) more) s.starts;
          notes = s.notes ∙ ap (λ (xs : List ℕ). xs ++ s.text) (told_lines noted told ∙ ap (λ (xs : List ℕ). c.lines.items ++ (xs ++ lost_text c.net.left)) is)
              ∙ regroup c.lines.items written.items (group_line (name_of m) false) (lost_text c.net.left) s.text;
        };
      }
    where
      regroup : (a b g l t : List ℕ) → (a ++ ((b ++ g) ++ l)) ++ t ≡ a ++ (b ++ (g ++ (l ++ t)))
      regroup a b g l t = simp append_assoc

-- ---- The same, from where the transaction was begun

begun_there : {Own : Type 0} {Tells : Type 0} {accepts : List TableView → Bool} {app : ℕ} {rule : AppRule} {number : ℕ} {events : List Event} {old mid : Seen Own} {at_net mid_net : NetState} {rest unread kept now_kept : List ℕ} {p : Played} (net : NetState) → at_net ≡ net
    → GroupPlayed Tells accepts app rule number events old mid at_net mid_net rest unread kept now_kept p → GroupPlayed Tells accepts app rule number events old mid net mid_net rest unread kept now_kept p
begun_there {Tells = Tells} {accepts = accepts} {app = app} {rule = rule} {number = number} {events = events} {old = old} {mid = mid} {mid_net = mid_net} {rest = rest} {unread = unread} {kept = kept} {now_kept = now_kept} {p = p} net begun played =
    subst (λ (n : NetState). GroupPlayed Tells accepts app rule number events old mid n mid_net rest unread kept now_kept p) begun played

pub leads_there : {Own : Type 0} {Tells : Type 0} {accepts : List TableView → Bool} {app : ℕ} {rule : AppRule} {number : ℕ} {events : List Event} {old mid : Seen Own} {at_net mid_net : NetState} {rest unread kept now_kept : List ℕ} {p : Played} (net : NetState) → at_net ≡ net
    → GroupPlayed Tells accepts app rule number events old mid at_net mid_net rest unread kept now_kept p → Leads Tells app old mid net mid_net
leads_there net begun played = group_leads (begun_there net begun played)

module _ {Own : Type 0} {Tells : Type 0} {accepts : List TableView → Bool} {app : ℕ} {rule : AppRule} {number start now_start : ℕ} {events : List Event} {old mid new : Seen Own} {at_net mid_net : NetState} {rest unread kept now_kept : List ℕ} {p : Played} (net : NetState) (begun : at_net ≡ net)
    (at : start ≡ length net.log) (same : now_start ≡ start) (played : GroupPlayed Tells accepts app rule number events old mid at_net mid_net rest unread kept now_kept p) where
  pub kept_there : {now_net left_net : NetState} {queue now_queue : List Event} {out : Vec (ℕ × ℕ) Global} → now_net ≡ left_net → p.failed ≡ false → Stays at_net mid_net → Commits Tells now_start mid new mid_net left_net queue now_queue (Ok out.items)
      → GroupDone Tells accepts app rule number events old new net now_net queue now_queue rest unread kept now_kept (grouped.Kept p.stop p.text out)
  kept_there {now_net} {left_net} {queue} {now_queue} {out} here whole stays commits =
      group_kept (begun_there net begun played) whole (subst (λ (n : NetState). Stays n mid_net) begun stays)
      (subst (λ (n : NetState). Commits Tells (length net.log) mid new mid_net n queue now_queue (Ok out.items)) (sym here)
      (subst (λ (n : ℕ). Commits Tells n mid new mid_net left_net queue now_queue (Ok out.items)) (same ∙ at) commits))

  pub back_there : {now_net left_net : NetState} {queue : List Event} {closed : Result (Unit {0}) TxnFault} → now_net ≡ left_net → p.failed ≡ true → Stays at_net mid_net → closed ≡ Ok tt → Undoes Tells now_start mid new mid_net left_net closed
      → GroupDone Tells accepts app rule number events old new net now_net queue queue rest unread kept now_kept (grouped.Undone p.text)
  back_there {now_net} {left_net} {queue} {closed} here fails stays ok undoes =
      group_back (begun_there net begun played) fails (subst (λ (n : NetState). Stays n mid_net) begun stays) refl
      (subst (λ (n : NetState). Undoes Tells (length net.log) mid new mid_net n (Ok tt)) (sym here)
      (subst (λ (n : ℕ). Undoes Tells n mid new mid_net left_net (Ok tt)) (same ∙ at) (subst (Undoes Tells now_start mid new mid_net left_net) ok undoes)))

  pub unreleased_there : {left_net : NetState} {queue now_queue : List Event} (fault : TxnFault) → 1 ≤ length events → p.failed ≡ false → Commits Tells now_start mid new mid_net left_net queue now_queue (Err fault)
      → GroupFails Tells app rule.budget rest old new net (fault_of fault)
  unreleased_there {left_net} {queue} {now_queue} fault some whole commits =
      group_unreleased (begun_there net begun played) fault some whole (subst (λ (n : ℕ). Commits Tells n mid new mid_net left_net queue now_queue (Err fault)) (same ∙ at) commits)

  pub not_undone_there : {left_net : NetState} {closed : Result (Unit {0}) TxnFault} (fault : TxnFault) → closed ≡ Err fault → Undoes Tells now_start mid new mid_net left_net closed → GroupFails Tells app rule.budget rest old new net (fault_of fault)
  not_undone_there {left_net} {closed} fault is undoes =
      group_not_undone (begun_there net begun played) fault (subst (λ (n : ℕ). Undoes Tells n mid new mid_net left_net (Err fault)) (same ∙ at) (subst (Undoes Tells now_start mid new mid_net left_net) is undoes))

pub stops_there : {Own : Type 0} {Tells : Type 0} {app budget start now_start : ℕ} {rest : List ℕ} {old mid new : Seen Own} {at_net mid_net left_net : NetState} {closed : Result (Unit {0}) TxnFault} (net : NetState) (fault : TxnFault) → at_net ≡ net → start ≡ length net.log → now_start ≡ start
    → PlaysFail Tells app rest old mid at_net mid_net fault → Undoes Tells now_start mid new mid_net left_net closed → GroupFails Tells app budget rest old new net (fault_of fault)
stops_there {Tells = Tells} {app = app} {rest = rest} {old = old} {mid = mid} {new = new} {mid_net = mid_net} {left_net = left_net} {closed = closed} net fault begun at same fails undoes =
    group_stops fault (subst (λ (n : NetState). PlaysFail Tells app rest old mid n mid_net fault) begun fails)
    (subst (λ (n : ℕ). Undoes Tells n mid new mid_net left_net closed) (same ∙ at) undoes)

-- what every part leaves, where they were closed
pub group_passes : {Own : Type 0} {Tells : Type 0} {accepts : List TableView → Bool} {app count : ℕ} {rule : AppRule} {number : ℕ} {events : List Event} {old new : Seen Own} {queue now_queue : List Event} {rest unread kept now_kept : List ℕ} (net now_net : NetState) (held : Grouped) → (Tells → CallsAmong count old new)
    → GroupDone Tells accepts app rule number events old new net now_net queue now_queue rest unread kept now_kept held → Passes {T = Grouped} {E = Fault} Tells count old new net now_net (Ok held)
group_passes {Tells = Tells} {accepts = accepts} {app = app} {rule = rule} {number = number} {events = events} {old = old} {rest = rest} {kept = kept} net now_net (grouped.Kept stop text out) own done =
    let c = done.closes zero zero in
    released_passes net now_net (Ok (grouped.Kept stop text out)) own (plays_lead Tells accepts app (string_bytes rule.name) rule.budget number events (turning_from zero zero old net rest kept) c.turning c.plays) (grouped.Kept stop text out) refl c.closed.commits
group_passes {Tells = Tells} {accepts = accepts} {app = app} {rule = rule} {number = number} {events = events} {old = old} {rest = rest} {kept = kept} net now_net (grouped.Undone text) own done =
    let c = done.closes zero zero in
    undone_passes net now_net (Ok (grouped.Undone text)) own (plays_lead Tells accepts app (string_bytes rule.name) rule.budget number events (turning_from zero zero old net rest kept) c.turning c.plays) (grouped.Undone text) refl c.closed.undoes

-- calls for one application are calls for the first so many
pub own_among : {Own : Type 0} {Tells : Type 0} {count number : ℕ} {old new : Seen Own} (app : ℕ) → app < count → (Tells → QuietAgain app number old new) → Tells → CallsAmong count old new
own_among app small quiet told = calls_among app small (quiet told).own
