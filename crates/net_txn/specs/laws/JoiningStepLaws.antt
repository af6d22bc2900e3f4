-- Where a world keeps its word, a switch that joins is emptied, and its view shows that.
use Rattle.std.specs.Prelude.{◌≡◌, ◌≢◌, ℕ, ◌^◌, ◌<◌, ◌≤◌, Bool, true, false, not, ◌&&◌, List, [], ◌∷◌, ◌++◌, length, filter, map, Option, Some, None, Ok, slice_get, refl}
use Rattle.std.specs.List.{AllByRecursion}
use Rattle.std.specs.Option.{option_map}
use Rattle.std.proofs.Common.{sym, ap, ◌∙◌, subst, arith}
use Rattle.std.proofs.lemmas.List.{append-nil, map-append, length-map}
use Rattle.of_types.specs.declared.port_desc.PortDesc.{PortDesc}
use Rattle.of_types.specs.declared.journal.Act.TheVariants.{Sent, Got}
use Rattle.of_match.specs.Fields.{any_fields}
use Rattle.of_match.specs.Match.{fields_in}
use Rattle.of_match.specs.laws.MatchLaws.{fields_in-match_of-bytes_of}
use Rattle.match_overlap.specs.Relations.{is_subsuming}
use Rattle.of_wire.specs.declared.bodies.SwitchConfig.{SwitchConfig}
use Rattle.of_wire.specs.declared.message.Message.{Message}
use Rattle.of_wire.specs.declared.message.Message.TheVariants.{FlowMod, SetConfig, BarrierRequest, BarrierReply}
use Rattle.of_wire.specs.Spelling.{message_size, message_bytes}
use Rattle.of_wire.specs.Grammar.{IsMessage, enveloped}
use Rattle.of_wire.specs.Reading.{reading_of}
use Rattle.of_wire.specs.laws.ReadingLaws.{reading_of-message_bytes}
use Rattle.flow_table.specs.declared.entry.Entry.{Entry}
use Rattle.flow_table.specs.declared.view.ViewRow.{ViewRow}
use Rattle.flow_table.specs.Table.{TableState}
use Rattle.flow_table.specs.laws.TableLaws.{length-filter-le}
use Rattle.flow_table.specs.Change.{describes, sends_to, deletes, asks_notice, adds, changed, notice, notices_of}
use Rattle.flow_table.specs.laws.ChangeLaws.{entries_after-delete, refusal-delete, notices_of-delete}
use Rattle.flow_table.specs.Switch.{Declared, SwitchState, first_config}
use Rattle.flow_table.specs.Refusals.{flow_refusal, message_refusal}
use Rattle.flow_table.specs.Step.{flow_removed_bytes, after_taken, after_message, sent_by_taken, sent_by_message}
use Rattle.lego_model.specs.Answers.{Rows, rows_of_table, rows_of_view}
use Rattle.outside.specs.declared.step.WorldStep.{WorldStep}
use Rattle.outside.specs.declared.step.WorldStep.TheVariants.{Acted}
use Rattle.outside.specs.Seen.{Seen}
use Rattle.outside.specs.State.{State, after_step, after_steps, state, switch_of, waits_of}
use Rattle.outside.specs.laws.StateLaws.{state-append, Conforming-rest}
use Rattle.outside.specs.laws.LinkLaws.{switch_of-sent, waits_of-sent}
use Rattle.outside.specs.Conforming.{MayStep, MayAct, MaySteps, Conforming}
use Rattle.lego_model.specs.declared.wait.Awaited.{Awaited}
use Rattle.net_txn.specs.Net.{NetState}
use Rattle.lego_model.specs.BarrierWaits.{next_xid, heard, is_reply, wait_steps, kept_of, reply_got}
use Rattle.net_txn.specs.Views.{rows_at}
use Rattle.net_txn.specs.laws.HeardLaws.{IsMessage-barrier, next_xid-lt}
use Rattle.net_txn.specs.laws.StepLaws.{told_switch, told_waits, barrier_sends, barrier_stays, gots, gots_switch, gots_empty}
use Rattle.net_txn.specs.laws.NoticeLaws.{AllNotices, notices_all, notices_steps, notices_kept, notices_alone}
use Rattle.net_txn.specs.laws.AskStepLaws.{any_subsumes, IsFields-any}
use Rattle.net_txn.specs.Undos.{SameSwitch}
use Rattle.lego_model.specs.UndoFaults.{IsStepOf}
use Rattle.net_txn.specs.laws.PartLaws.{steps_other}
use Rattle.net_txn.specs.laws.RestoreLaws.{wait_of}
use Rattle.net_txn.specs.laws.SaidLaws.{all_two}
use Rattle.net_txn.specs.Joining.{delete_all, greeted_from, greeting, Joins}
use Rattle.net_txn.specs.laws.JoiningLaws.{rows_at-with_view, rows_at-with_view-other}
use Rattle.net_txn.specs.JoiningSteps.{emptied, JoinsInStep}
use Rattle.net_txn.specs.laws.WaitMoveLaws.{some_switch}

-- ---- What a switch makes of the two messages

IsMessage-delete_all : IsMessage (FlowMod delete_all)
unfolding message_size
IsMessage-delete_all = record { fields = (omega arith, (omega arith, (omega arith, (omega arith, (omega arith, (omega arith, (omega arith, (omega arith, tt)))))))); tail = tt; size = omega arith }

IsMessage-config : IsMessage (SetConfig first_config)
unfolding message_size
IsMessage-config = record { fields = (omega arith, (omega arith, tt)); tail = tt; size = omega arith }

deletes_each : (e : Entry) → deletes delete_all e ≡ true
unfolding describes is_subsuming sends_to
deletes_each e = rw (fields_in-match_of-bytes_of any_fields IsFields-any, any_subsumes (fields_in e.key.matching)) refl

none_left : (es : List Entry) → filter (λ e. not (deletes delete_all e)) es ≡ []
none_left [] = refl
none_left (e ∷ es) = rw (deletes_each e) (none_left es)

adds_none : (es : List Entry) → adds delete_all es ≡ false
unfolding adds
adds_none es = refl

table_emptied : (now : ℕ) (t : TableState) → changed now delete_all t ≡ record t { entries = [] }
unfolding changed
table_emptied now t = rw (entries_after-delete now t.next delete_all t.entries (adds_none t.entries) refl, none_left t.entries, adds_none t.entries) refl

not_refused : (s : SwitchState) → message_refusal s (FlowMod delete_all) ≡ None
unfolding message_refusal flow_refusal
not_refused s = refusal-delete s.declared.cap delete_all s.table.entries refl

abbrev without_entries : SwitchState → SwitchState
without_entries s = record s { table = record s.table { entries = [] } }

deletion_moves : (s : SwitchState) → after_message (FlowMod delete_all) s ≡ without_entries s
unfolding after_message after_taken
deletion_moves s = rw (not_refused s, table_emptied s.moment s.table) refl

deletion_sent : (xid : ℕ) (s : SwitchState) → sent_by_message xid (FlowMod delete_all) s ≡ map flow_removed_bytes (notices_of s.moment delete_all s.table.entries)
unfolding sent_by_message sent_by_taken
deletion_sent xid s = rw (not_refused s) refl

deletion_sends : (xid : ℕ) (s : SwitchState) → AllNotices (sent_by_message xid (FlowMod delete_all) s)
deletion_sends xid s = subst AllNotices (sym (deletion_sent xid s ∙ ap (map flow_removed_bytes) (notices_of-delete s.moment delete_all s.table.entries refl))) (notices_all s.moment _)

-- a notice of each entry at most
deletion_few : (xid : ℕ) (s : SwitchState) → length (sent_by_message xid (FlowMod delete_all) s) ≤ length s.table.entries
deletion_few xid s =
    let tells : Entry → Bool = λ e. deletes delete_all e && asks_notice e.flags in
    let told = filter tells s.table.entries in
    omega (
      arith,
      ap length (deletion_sent xid s ∙ ap (map flow_removed_bytes) (notices_of-delete s.moment delete_all s.table.entries refl)),
      length-map (map (notice 2 s.moment) told) flow_removed_bytes,
      length-map told (notice 2 s.moment),
      length-filter-le tells s.table.entries,
    )

config_moves : (s : SwitchState) → after_message (SetConfig first_config) s ≡ record s { config = first_config }
unfolding after_message message_refusal after_taken
config_moves s = refl

config_sends : (xid : ℕ) (s : SwitchState) → sent_by_message xid (SetConfig first_config) s ≡ []
unfolding sent_by_message message_refusal sent_by_taken
config_sends xid s = refl

-- ---- Before the messages that were got: both were sent, and the barrier.

abbrev deletion_bytes : ℕ → List ℕ
deletion_bytes xid = message_bytes xid (FlowMod delete_all)

abbrev config_bytes : ℕ → List ℕ
config_bytes xid = message_bytes (next_xid xid) (SetConfig first_config)

abbrev barrier_bytes : ℕ → List ℕ
barrier_bytes xid = message_bytes (next_xid (next_xid xid)) BarrierRequest

-- the three messages are read
pub record AreRead (xid : ℕ) : Type 0 where
  pub deletion : reading_of (deletion_bytes xid) ≡ Ok (enveloped xid (FlowMod delete_all))
  pub config : reading_of (config_bytes xid) ≡ Ok (enveloped (next_xid xid) (SetConfig first_config))
  barrier : reading_of (barrier_bytes xid) ≡ Ok (enveloped (next_xid (next_xid xid)) BarrierRequest)

pub are_read : (xid : ℕ) → xid < 2 ^ 32 → AreRead xid
are_read xid lt =
    let second = next_xid-lt xid lt in
    record {
      deletion = reading_of-message_bytes xid (FlowMod delete_all) lt IsMessage-delete_all;
      config = reading_of-message_bytes (next_xid xid) (SetConfig first_config) second IsMessage-config;
      barrier = reading_of-message_bytes (next_xid (next_xid xid)) BarrierRequest (next_xid-lt (next_xid xid) second) IsMessage-barrier;
    }

abbrev pub after_all : ℕ → ℕ → State → State
after_all d xid t = after_steps (greeting d xid) t

abbrev pub reply_to : ℕ → List ℕ
reply_to xid = message_bytes (next_xid (next_xid xid)) BarrierReply

pub record Greeted (d xid : ℕ) (s : SwitchState) (t : State) : Type 0 where
  pub switch : switch_of d t ≡ Some (emptied s)
  pub notices : List (List ℕ)
  pub are_notices : AllNotices notices
  pub few : length notices ≤ length s.table.entries
  pub waits : waits_of d t ≡ notices ++ reply_to xid ∷ []

pub greeted : (d xid : ℕ) (s : SwitchState) (t : State) → AreRead xid → switch_of d t ≡ Some s → waits_of d t ≡ [] → Greeted d xid s (after_all d xid t)
greeted d xid s t read is none =
    let deletion = FlowMod delete_all in
    let config = SetConfig first_config in
    let one = after_step (Acted (Sent d (deletion_bytes xid))) t in
    let two = after_step (Acted (Sent d (config_bytes xid))) one in
    let sends = sent_by_message xid deletion s in
    let left = without_entries s in
    let there : switch_of d one ≡ Some left = told_switch d xid deletion (deletion_bytes xid) t s read.deletion is ∙ ap some_switch (deletion_moves s) in
    let waits_one : waits_of d one ≡ sends = told_waits d xid deletion (deletion_bytes xid) t s read.deletion is ∙ ap (λ (ws : List (List ℕ)). ws ++ sends) none in
    let there_two : switch_of d two ≡ Some (emptied s) = told_switch d (next_xid xid) config (config_bytes xid) one left read.config there ∙ ap some_switch (config_moves left) in
    let waits_two : waits_of d two ≡ sends = told_waits d (next_xid xid) config (config_bytes xid) one left read.config there ∙ ap (λ (ws : List (List ℕ)). waits_of d one ++ ws) (config_sends (next_xid xid) left) ∙ append-nil (waits_of d one) ∙ waits_one in
    record {
      switch = told_switch d (next_xid (next_xid xid)) BarrierRequest (barrier_bytes xid) two (emptied s) read.barrier there_two ∙ ap some_switch (barrier_stays (emptied s));
      notices = sends;
      are_notices = deletion_sends xid s;
      few = deletion_few xid s;
      waits = told_waits d (next_xid (next_xid xid)) BarrierRequest (barrier_bytes xid) two (emptied s) read.barrier there_two
          ∙ ap (λ (ws : List (List ℕ)). waits_of d two ++ ws) (barrier_sends (next_xid (next_xid xid)) (emptied s)) ∙ ap (λ (ws : List (List ℕ)). ws ++ reply_to xid ∷ []) waits_two;
    }

-- a switch that is out reads nothing, and answers nothing
told_none : (d xid : ℕ) (m : Message) (bytes : List ℕ) (t : State) → reading_of bytes ≡ Ok (enveloped xid m) → switch_of d t ≡ None → waits_of d t ≡ []
    → (switch_of d (after_step (Acted (Sent d bytes)) t) ≡ None) × (waits_of d (after_step (Acted (Sent d bytes)) t) ≡ [])
told_none d xid m bytes t read out none = (switch_of-sent d bytes t ∙ (rw (read, out) refl), waits_of-sent d bytes t ∙ (rw (read, out, none) refl))

pub greeted_none : (d xid : ℕ) (t : State) → AreRead xid → switch_of d t ≡ None → waits_of d t ≡ [] → waits_of d (after_all d xid t) ≡ []
greeted_none d xid t read out none =
    let one = after_step (Acted (Sent d (deletion_bytes xid))) t in
    let two = after_step (Acted (Sent d (config_bytes xid))) one in
    let first = told_none d xid (FlowMod delete_all) (deletion_bytes xid) t read.deletion out none in
    let second = told_none d (next_xid xid) (SetConfig first_config) (config_bytes xid) one read.config first.0 first.1 in
    (told_none d (next_xid (next_xid xid)) BarrierRequest (barrier_bytes xid) two read.barrier second.0 second.1).1

pub none_first : (declared : List Declared) (d : ℕ) (b : List ℕ) (rest : List WorldStep) (t : State) → waits_of d t ≡ [] → MaySteps declared (Acted (Got d b) ∷ rest) t → ⊥
unfolding MayStep MayAct
none_first declared d b rest t none may = absurd (nothing (sym may.0.0 ∙ ap (λ (ws : List (List ℕ)). slice_get ws 0) none))
  where
    nothing : Some b ≡ None → ⊥
    nothing is = cc

none_got : (declared : List Declared) (a : Awaited) (got : List (List ℕ)) (t : State) → waits_of a.dpid t ≡ [] → MaySteps declared (wait_steps a got ++ reply_got a ∷ []) t → ⊥
none_got declared a [] t none may = none_first declared a.dpid (message_bytes a.barrier BarrierReply) [] t none may
none_got declared a (b ∷ bs) t none may = none_first declared a.dpid b _ t none may

-- ---- The messages that were got

-- what is left when the reply came
record Played (d xid : ℕ) (s : SwitchState) (got : List (List ℕ)) (after : State) : Type 0 where
  none_kept : kept_of (greeted_from d xid) got ≡ []
  switch : switch_of d after ≡ Some (emptied s)
  waits : waits_of d after ≡ []

reverted : (declared : List Declared) (d xid : ℕ) (s : SwitchState) (got : List (List ℕ)) (mid : State) → Greeted d xid s mid → AllByRecursion (λ b. is_reply (heard (greeted_from d xid) b) ≡ false) got
    → MaySteps declared (wait_steps (greeted_from d xid) got ++ reply_got (greeted_from d xid) ∷ []) mid → Played d xid s got (after_steps (wait_steps (greeted_from d xid) got ++ reply_got (greeted_from d xid) ∷ []) mid)
reverted declared d xid s got mid g before may =
    let a = greeted_from d xid in
    let reply = reply_to xid in
    let same : got ≡ g.notices = notices_alone declared a g.notices got mid g.are_notices g.waits may before in
    let of_switch : List ℕ → WorldStep = λ b. Acted (Got d b) in
    let steps : wait_steps a got ++ reply_got a ∷ [] ≡ gots d (g.notices ++ reply ∷ []) =
    ap (λ (ws : List (List ℕ)). wait_steps a ws ++ reply_got a ∷ []) same ∙ ap (λ (xs : List WorldStep). xs ++ reply_got a ∷ []) (notices_steps a g.notices g.are_notices) ∙ sym (map-append of_switch g.notices (reply ∷ [])) in
    let end : after_steps (wait_steps a got ++ reply_got a ∷ []) mid ≡ after_steps (gots d (g.notices ++ reply ∷ [])) mid = ap (λ (xs : List WorldStep). after_steps xs mid) steps in
    record {
      none_kept = ap (kept_of a) same ∙ notices_kept a g.notices refl g.are_notices;
      switch = ap (switch_of d) end ∙ gots_switch d (g.notices ++ reply ∷ []) mid ∙ g.switch;
      waits = ap (waits_of d) end ∙ gots_empty d (g.notices ++ reply ∷ []) mid g.waits;
    }

all_of : (d xid : ℕ) (got : List (List ℕ)) → AllByRecursion (IsStepOf d) (greeting d xid ++ (wait_steps (greeted_from d xid) got ++ reply_got (greeted_from d xid) ∷ []))
all_of d xid got =
    let a = greeted_from d xid in
    (refl, (refl, (refl, all_two (IsStepOf d) (wait_steps a got) (reply_got a ∷ []) (wait_of a got) (refl, tt))))

-- ---- The whole

emptied_already : (s : SwitchState) → s.table.entries ≡ [] → s.config ≡ first_config → emptied s ≡ s
emptied_already s entries config =
    ap (λ (es : List Entry). record s { table = record s.table { entries = es }; config = first_config }) (sym entries) ∙ ap (λ (c : SwitchConfig). record s { config = c }) (sym config)

same_switch : (s t : SwitchState) → Some s ≡ Some t → s ≡ t
same_switch s t e = cc

stays_empty : (s t : SwitchState) (o : Option SwitchState) → o ≡ Some s → o ≡ Some t → t.table.entries ≡ [] → t.config ≡ first_config → Some (emptied s) ≡ Some t
stays_empty s t o here there entries config =
    let same : s ≡ t = same_switch s t (sym here ∙ there) in
    ap (λ (x : SwitchState). Some (emptied x)) same ∙ ap some_switch (emptied_already t entries config)

pub in_step_of : {Own : Type 0} {Tells : Type 0} (d : ℕ) (ports : List PortDesc) (old new : Seen Own) (net now_net : NetState) (o : Option SwitchState) → net.xid < 2 ^ 32 → Tells → Joins Tells d ports old new net now_net → Conforming new
    → waits_of d (state old) ≡ [] → switch_of d (state old) ≡ o → JoinsInStep d old new net now_net
in_step_of d ports old new net now_net None lt told joins keeps none out =
    let a = greeted_from d net.xid in
    let w = joins.waits in
    let steps = greeting d net.xid ++ (wait_steps a w.got ++ reply_got a ∷ []) in
    let may = Conforming-rest old new steps w.hears.continues.given (w.hears.told told) keeps in
    absurd (none_got old.given.declared a w.got (after_all d net.xid (state old)) (greeted_none d net.xid (state old) (are_read net.xid lt) out none) may.1.1.1)
in_step_of d ports old new net now_net (Some s) lt told joins keeps none is =
    let a = greeted_from d net.xid in
    let w = joins.waits in
    let steps = greeting d net.xid ++ (wait_steps a w.got ++ reply_got a ∷ []) in
    let may = Conforming-rest old new steps w.hears.continues.given (w.hears.told told) keeps in
    let after : state new ≡ after_steps steps (state old) = state-append old new steps w.hears.continues.given (w.hears.told told) in
    let p = reverted old.given.declared d net.xid s w.got (after_all d net.xid (state old)) (greeted d net.xid s (state old) (are_read net.xid lt) is none) w.hears.before_reply may.1.1.1 in
    let switch : switch_of d (state new) ≡ Some (emptied s) = ap (switch_of d) after ∙ p.switch in
    let same : (e : ℕ) → e ≢ d → SameSwitch e (state old) (after_steps steps (state old)) = λ e other. steps_other d e steps (state old) other (all_of d net.xid w.got) in
    let there : (e : ℕ) → e ≢ d → switch_of e (state new) ≡ switch_of e (state old) = λ e other. ap (switch_of e) after ∙ (same e other).0 in
    record {
      moved = rw is switch;
      stays = λ t was entries config. switch ∙ stays_empty s t (switch_of d (state old)) is was entries config;
      waits = ap (waits_of d) after ∙ p.waits;
      others = there;
      others_wait = λ e other. ap (waits_of e) after ∙ (same e other).1;
      kept = w.hears.kept_is ∙ ap (λ (more : List (ℕ × List ℕ)). net.kept ++ more) p.none_kept ∙ append-nil net.kept;
      agrees = rw (joins.views, rows_at-with_view d net.views, switch) refl;
      others_agree = λ e other before. ap (λ (v : Option (List ViewRow)). option_map rows_of_view v) (ap (rows_at e) joins.views ∙ rows_at-with_view-other d e net.views other) ∙ before
          ∙ ap (λ (x : Option SwitchState). option_map shown_by x) (sym (there e other));
    }
  where
    shown_by : SwitchState → Rows
    shown_by x = rows_of_table x.table.entries
