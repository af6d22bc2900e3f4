-- What follows after a fault: a change in flight, sent or not, taken or refused, leaves a transaction such that its undo gives back the
-- tables from where it began, of each switch that does not fail in the undo and is not lost, whatever waits.
use Rattle.std.proofs.Common.{◌≡◌, ◌≢◌, ◌==◌, ◌⊎◌, ℕ, ◌≤◌, Bool, true, false, ◌||◌, List, [], ◌∷◌, ◌++◌, length, drop, map, Option, Some, None, Result, Ok, Err, if◌then◌else◌, refl, sym, ap, ◌∙◌, subst, append_assoc, inl, inr, true≢false}
use Rattle.std.proofs.lemmas.Bool.{cases_Bool, cases_eq, eqb-true, or_cases, or_parts}
use Rattle.std.proofs.lemmas.List.{append-nil, append_cancel_left}
use Rattle.std.specs.List.{list_any}
use Rattle.std.specs.Option.{is_some, option_map}
use Rattle.std.proofs.lemmas.Option.{same_Some}
use Rattle.std.proofs.Math.Bool.{or-false}
use Rattle.of_types.specs.declared.errors.OfError.{OfError}
use Rattle.of_match.specs.declared.key.Key.{Key}
use Rattle.of_match.specs.Key.{key_number}
use Rattle.of_wire.specs.declared.bodies.FlowMod.{FlowMod as Change}
use Rattle.of_wire.specs.declared.message.Message.TheVariants.{FlowMod}
use Rattle.flow_table.specs.declared.entry.Entry.{Entry}
use Rattle.flow_table.specs.declared.view.ViewRow.{ViewRow}
use Rattle.flow_table.specs.View.{TableView}
use Rattle.flow_table.specs.Table.{TableState, has_key, entry_at}
use Rattle.flow_table.specs.Change.{key_in, is_delete, changed, refusal}
use Rattle.flow_table.specs.Undone.{undone}
use Rattle.flow_table.specs.Switch.{SwitchState}
use Rattle.flow_table.specs.Refusals.{message_refusal}
use Rattle.flow_table.specs.Step.{after_message}
use Rattle.undo_laws.specs.Removal.{is_key_among, OnlyAdded}
use Rattle.undo_laws.specs.laws.LookupLaws.{entry_at-same_place}
use Rattle.undo_laws.specs.laws.RemovalLaws.{is_key_among-append}
use Rattle.undo_laws.specs.laws.AddedLaws.{undone-added}
use Rattle.app_frames.specs.declared.frame.Answer.{Answer}
use Rattle.app_frames.specs.declared.frame.Answer.TheVariants.{Unknown}
use Rattle.lego_model.specs.Answers.{rows_of_table, rows_of_view, as_sent}
use Rattle.lego_model.specs.declared.fault.TxnFault.{TxnFault}
use Rattle.lego_model.specs.History.{lost_of}
use Rattle.lego_model.specs.Journal.{losses}
use Rattle.outside.specs.declared.step.WorldStep.{WorldStep}
use Rattle.outside.specs.Seen.{Seen, Continues, Longer, journal}
use Rattle.outside.specs.State.{state, switch_of, is_joined}
use Rattle.net_txn.specs.declared.logged.Logged.{Logged}
use Rattle.net_txn.specs.Views.{rows_at, is_viewed, is_row_at, has_key_in}
use Rattle.net_txn.specs.Net.{NetState}
use Rattle.net_txn.specs.Answering.{known_rows}
use Rattle.net_txn.specs.Changes.{answer_of_host, log_in_flight, MayMove, ChangesJoined, Changes}
use Rattle.of_types.specs.Membership.{is_among}
use Rattle.net_txn.specs.ChangeSteps.{Agrees}
use Rattle.net_txn.specs.Undos.{key_logged, keys_of, is_stuck, parts_of, lost_parts, is_lost_in, AreJoined, Undoes}
use Rattle.lego_model.specs.AfterFault.{FailsInUndo, HasEntriesAgain, WasLost, UndoneButFailed}
use Rattle.net_txn.specs.laws.LostPartLaws.{among-append}
use Rattle.net_txn.specs.laws.RowLaws.{sent, any_of_map}
use Rattle.net_txn.specs.laws.AgreeLaws.{viewed as viewed_rows}
use Rattle.net_txn.specs.laws.ChangeFlightLaws.{flight_moves}
use Rattle.net_txn.specs.laws.LostLaws.{losses_then}
use Rattle.net_txn.specs.laws.TableBoundLaws.{second_none}
use Rattle.lego_model.specs.laws.SwitchFaultLaws.{failed_behind}
use Rattle.switch_laws.specs.Shown.{Passes, has_row, Known}
use Rattle.switch_laws.specs.laws.ShownChangeLaws.{asks_the_same}
use Rattle.switch_laws.specs.Asked.{ReadAsChange}
use Rattle.switch_laws.specs.laws.AskedLaws.{asked}
use Rattle.switch_laws.specs.laws.AbsentLaws.{at_key, none_at, absent}
use Rattle.switch_laws.specs.laws.LossLaws.{losses-append}
use Rattle.switch_laws.specs.laws.StandLaws.{table-serialed}
use Rattle.switch_laws.specs.laws.ShownExchangeLaws.{known}
use Rattle.switch_laws.specs.laws.ShownUndoLaws.{viewed, unviewed}
use Rattle.undo_laws.specs.laws.CorrectedLaws.{refusal-asked}
use Rattle.switch_laws.specs.laws.SinceLaws.{keys_then, logged_here, logged_elsewhere, taken-added, stays, takes}
use Rattle.switch_laws.specs.Since.{logged_since, SwitchSince, JoinedSince, Goes, TablesSince, keys_by}

-- ---- Switches that were lost

was-lost : {Own : Type 0} (first now : Seen Own) (lost : List ℕ) (d : ℕ) → Longer first.history now.history → lost_of now ≡ lost_of first ++ lost → is_among d lost ≡ true → switch_of d (state now) ≡ None → WasLost d first now
was-lost first now lost d longer losses_is among out = record {
  steps = longer.0;
  history = longer.1;
  lost =
      ap (λ (ds : List ℕ). list_any (λ e. e == d) ds) (append_cancel_left (lost_of first) (losses (journal longer.0)) lost (sym (losses_then first now longer.0 longer.1) ∙ losses_is))
      ∙ among;
  out = out;
}

-- a switch that was lost stays out
pub lost-still : {Own : Type 0} (first old new : Seen Own) (d : ℕ) → WasLost d first old → Longer old.history new.history → switch_of d (state new) ≡ None → WasLost d first new
lost-still first old new d was longer out = record {
  steps = was.steps ++ longer.0;
  history = longer.1 ∙ ap (λ (h : List WorldStep). h ++ longer.0) was.history ∙ append_assoc first.history was.steps longer.0;
  lost = ap (λ (ds : List ℕ). list_any (λ e. e == d) ds) (losses-append was.steps longer.0) ∙ among-append d (losses (journal was.steps)) (losses (journal longer.0)) ∙ (rw was.lost refl);
  out = out;
}

-- a switch that was lost later
pub lost-later : {Own : Type 0} (first old new : Seen Own) (d : ℕ) → Longer first.history old.history → WasLost d old new → WasLost d first new
lost-later first old new d longer was = record {
  steps = longer.0 ++ was.steps;
  history = was.history ∙ ap (λ (h : List WorldStep). h ++ was.steps) longer.1 ∙ append_assoc first.history longer.0 was.steps;
  lost = ap (λ (ds : List ℕ). list_any (λ e. e == d) ds) (losses-append longer.0 was.steps) ∙ among-append d (losses (journal longer.0)) (losses (journal was.steps)) ∙ or_true (is_among d (losses (journal longer.0))) (is_among d (losses (journal was.steps))) was.lost;
  out = was.out;
}
  where
    or_true : (a b : Bool) → b ≡ true → (a || b) ≡ true
    or_true true b is = refl
    or_true false b is = is

-- ---- Where all is ready

pub tables-since : {Own : Type 0} (Tells : Type 0) (start : ℕ) (lost : List ℕ) (first now : Seen Own) (net0 net : NetState) → Tells → Continues Tells first now → Goes start lost first now net0 net → TablesSince start first now net
tables-since Tells start lost first now net0 net told later goes = record {
  joined = λ d s is. elim (cases_Bool (is_among d lost)) [
    | inl gone ↦
        let out = goes.since.lost_out d gone in
        inr (unviewed d net.views (state now) (goes.ready.agrees d) out, was-lost first now lost d (later.told told) goes.since.losses gone out)
    | inr here ↦ let j = goes.since.joined d s here is in inl (viewed d net.views (state now) j.switch (goes.ready.agrees d) j.stands, j)
  ];
  out = λ d is. let out = goes.since.out d is in (unviewed d net.views (state now) (goes.ready.agrees d) out, out);
}

-- ---- A key that no entry has, logged or not, leaves a table such that only keys were added.

one_of : (ks : List Key) (l k : Key) → is_key_among (ks ++ l ∷ []) k ≡ (is_key_among ks k || (key_number l == key_number k))
one_of ks l k = is_key_among-append ks (l ∷ []) k ∙ ap (λ (b : Bool). is_key_among ks k || b) (or-false (key_number l == key_number k))

added-absent : (ks : List Key) (l : Key) (before now : List Entry) → entry_at l now ≡ None → OnlyAdded ks before now → OnlyAdded (ks ++ l ∷ []) before now
added-absent ks l before now absent only = record {
  added = λ k among. elim (or_cases (is_key_among ks k) (key_number l == key_number k) (sym (one_of ks l k) ∙ among)) [
    | inl old ↦ only.added k old
    | inr fresh ↦ was k (eqb-true (key_number l) (key_number k) fresh)
  ];
  others = λ k other. only.others k (or_parts (is_key_among ks k) (key_number l == key_number k) (sym (one_of ks l k) ∙ other)).0;
}
  where
    was : (k : Key) → key_number l ≡ key_number k → entry_at k before ≡ None
    was k same = elim (cases_Bool (is_key_among ks k)) [
      | inl old ↦ only.added k old
      | inr other ↦ sym (only.others k other) ∙ sym (entry_at-same_place now l k same) ∙ absent
    ]

-- ---- What is logged of a change in flight

-- unless a row had its key
abbrev pub keys_in_flight : Bool → Change → List Key
keys_in_flight held m = if held then [] else keys_by m

flight_here : (start d : ℕ) (m : Change) (views : List TableView) (log : List Logged) → start ≤ length log
    → keys_of d (map key_logged (drop start (log_in_flight d m views log))) ≡ keys_of d (map key_logged (drop start log)) ++ keys_in_flight (is_row_at d (key_in m) views) m
unfolding keys_then
flight_here start d m views log le =
    elim (cases_Bool (is_row_at d (key_in m) views)) [
      | inl held ↦ rw held (sym (append-nil (keys_of d (map key_logged (drop start log)))))
      | inr new ↦ rw new (logged_here start d m log None le)
    ]

flight_elsewhere : (start d e : ℕ) (m : Change) (views : List TableView) (log : List Logged) → e ≢ d → start ≤ length log
    → keys_of e (map key_logged (drop start (log_in_flight d m views log))) ≡ keys_of e (map key_logged (drop start log))
flight_elsewhere start d e m views log other le =
    elim (cases_Bool (is_row_at d (key_in m) views)) [
      | inl held ↦ rw held refl
      | inr new ↦ rw new (logged_elsewhere start d e m log None other le)
    ]

-- ---- The switch of the change

-- a key that no row has, no entry has
unheld : (k : Key) (rows : List ViewRow) (es : List Entry) → rows_of_view rows ≡ rows_of_table es → has_row k rows ≡ list_any (has_key k) es
unheld k rows es same =
    sym (any_of_map (at_key k) (λ (r : ViewRow). (r.key, r.actions)) rows)
    ∙ ap (list_any (at_key k)) same
    ∙ any_of_map (at_key k) (λ (e : Entry). (e.key, e.actions)) es

-- it did not move
still-since : (m : Change) (keys : List Key) (before s : SwitchState) (rows : List ViewRow) → rows_of_view rows ≡ rows_of_table s.table.entries → SwitchSince keys before s → SwitchSince (keys ++ keys_in_flight (has_row (key_in m) rows) m) before s
still-since m keys before s rows same since =
    elim (cases_Bool (has_row (key_in m) rows)) [
      | inl held ↦ rw held (subst (λ (ks : List Key). SwitchSince ks before s) (sym (append-nil keys)) since)
      | inr new ↦ elim (cases_Bool (is_delete m)) [
        | inl deletes ↦ rw (new, deletes) (subst (λ (ks : List Key). SwitchSince ks before s) (sym (append-nil keys)) since)
        | inr adds ↦
            let none : list_any (has_key (key_in m)) s.table.entries ≡ false = sym (unheld (key_in m) rows s.table.entries same) ∙ new in
            rw (new, adds) (record { rest = since.rest; added = added-absent keys (key_in m) before.table.entries s.table.entries (none_at (key_in m) s.table.entries none) since.added })
      ]
    ]

-- a change that was taken adds a key that no row has
taken-new : (m : Change) (s : SwitchState) (rows : List ViewRow) → rows_of_view rows ≡ rows_of_table s.table.entries → Passes m (rows_of_table s.table.entries) → message_refusal s (as_sent (FlowMod m)) ≡ None → keys_in_flight (has_row (key_in m) rows) m ≡ keys_by m
unfolding message_refusal
taken-new m s rows same p none =
    elim (cases_Bool (is_delete m)) [
      | inl deletes ↦ elim (cases_Bool (has_row (key_in m) rows)) [
        | inl held ↦ rw (held, deletes) refl
        | inr new ↦ rw (new, deletes) refl
      ]
      | inr adds ↦
          let refused : refusal s.declared.cap m s.table.entries ≡ None = sym (refusal-asked s.declared.cap (sent m) m s.table.entries (asks_the_same m)) ∙ second_none _ _ none in
          let new : has_row (key_in m) rows ≡ false = unheld (key_in m) rows s.table.entries same ∙ absent s.declared.cap m s.table.entries p adds refused in
          rw new refl
    ]

moved-by : (o : Option OfError) (m : Change) (keys : List Key) (before s : SwitchState) (rows : List ViewRow) → message_refusal s (as_sent (FlowMod m)) ≡ o → rows_of_view rows ≡ rows_of_table s.table.entries → Passes m (rows_of_table s.table.entries)
    → SwitchSince keys before s → SwitchSince (keys ++ keys_in_flight (has_row (key_in m) rows) m) before (after_message (as_sent (FlowMod m)) s)
moved-by None m keys before s rows is same p since =
    let next : SwitchState = record s { table = changed s.moment (sent m) s.table } in
    let there : SwitchSince (keys ++ keys_by m) before next =
    record { rest = ap (λ (x : SwitchState). record x { table = changed s.moment (sent m) s.table }) since.rest; added = taken-added m keys before.table.entries s p is since.added } in
    subst (λ (ks : List Key). SwitchSince (keys ++ ks) before (after_message (as_sent (FlowMod m)) s)) (sym (taken-new m s rows same p is)) (subst (SwitchSince (keys ++ keys_by m) before) (sym (takes m s is)) there)
moved-by (Some e) m keys before s rows is same p since =
    subst (SwitchSince (keys ++ keys_in_flight (has_row (key_in m) rows) m) before) (sym (stays m s e is)) (still-since m keys before s rows same since)

row_is : (d : ℕ) (k : Key) (views : List TableView) (rows : List ViewRow) → rows_at d views ≡ Some rows → is_row_at d k views ≡ has_row k rows
row_is d k views rows is = ap (has_key_in k) is

module _ {Own : Type 0} (Tells : Type 0) (d start : ℕ) (lost : List ℕ) (first old new : Seen Own) (net0 net now_net : NetState) (m : Change) where
  rows-shown : (k : Known d m net.views (state old)) → Agrees d net.views (state old) → rows_of_view k.rows ≡ rows_of_table k.switch.table.entries
  rows-shown k agrees =
      same_Some (rows_of_view k.rows) (rows_of_table k.switch.table.entries)
      (sym (ap (option_map rows_of_view) k.rows_are) ∙ agrees ∙ ap (option_map (λ x. rows_of_table x.table.entries)) k.switch_is)

  -- the switch of the change, whether or not it moved
  flown : (k : Known d m net.views (state old)) → Agrees d net.views (state old) → MayMove d (as_sent (FlowMod m)) (state old) (state new) → (keys : List Key) (s : SwitchState) → SwitchSince keys s k.switch
      → JoinedSince (keys ++ keys_in_flight (has_row (key_in m) k.rows) m) s (switch_of d (state new))
  flown k agrees moves keys s since =
      elim moves.switch [
        | inl same ↦ record { switch = k.switch; stands = same ∙ k.switch_is; since = still-since m keys s k.switch k.rows (rows-shown k agrees) since }
        | inr moved ↦ record {
          switch = after_message (as_sent (FlowMod m)) k.switch;
          stands = moved ∙ ap (option_map (after_message (as_sent (FlowMod m)))) k.switch_is;
          since = moved-by (message_refusal k.switch (as_sent (FlowMod m))) m keys s k.switch k.rows refl (rows-shown k agrees) k.passes since;
        }
      ]

  -- how the keys of each switch are logged then
  flown-log : start ≤ length net.log → now_net.log ≡ log_in_flight d m net.views net.log → (e : ℕ) → e ≢ d → keys_of e (logged_since start now_net) ≡ keys_of e (logged_since start net)
  flown-log started log_is e other =
      ap (λ (log : List Logged). keys_of e (map key_logged (drop start log))) log_is ∙ flight_elsewhere start d e m net.views net.log other started

  flown-here : (k : Known d m net.views (state old)) → Agrees d net.views (state old) → start ≤ length net.log → MayMove d (as_sent (FlowMod m)) (state old) (state new) → now_net.log ≡ log_in_flight d m net.views net.log
      → (s : SwitchState) → JoinedSince (keys_of d (logged_since start net)) s (switch_of d (state old)) → JoinedSince (keys_of d (logged_since start now_net)) s (switch_of d (state new))
  flown-here k agrees started moves log_is s j =
      let this : j.switch ≡ k.switch = same_Some j.switch k.switch (sym j.stands ∙ k.switch_is) in
      let keys : keys_of d (logged_since start now_net) ≡ keys_of d (logged_since start net) ++ keys_in_flight (has_row (key_in m) k.rows) m =
      ap (λ (log : List Logged). keys_of d (map key_logged (drop start log))) log_is ∙ flight_here start d m net.views net.log started
      ∙ ap (λ (b : Bool). keys_of d (logged_since start net) ++ keys_in_flight b m) (row_is d (key_in m) net.views k.rows k.rows_are) in
      let there = flown k agrees moves (keys_of d (logged_since start net)) s (subst (SwitchSince (keys_of d (logged_since start net)) s) this j.since) in
      subst (λ (ks : List Key). JoinedSince ks s (switch_of d (state new))) (sym keys) there

  flown-joined : (k : Known d m net.views (state old)) → Agrees d net.views (state old) → start ≤ length net.log → MayMove d (as_sent (FlowMod m)) (state old) (state new) → now_net.log ≡ log_in_flight d m net.views net.log
      → (e : ℕ) (s : SwitchState) → JoinedSince (keys_of e (logged_since start net)) s (switch_of e (state old)) → JoinedSince (keys_of e (logged_since start now_net)) s (switch_of e (state new))
  flown-joined k agrees started moves log_is e s j =
      elim (cases_eq e d) [
        | inl same ↦
            subst (λ (n : ℕ). JoinedSince (keys_of n (logged_since start now_net)) s (switch_of n (state new))) (sym same)
            (flown-here k agrees started moves log_is s (subst (λ (n : ℕ). JoinedSince (keys_of n (logged_since start net)) s (switch_of n (state old))) same j))
        | inr other ↦ record {
          switch = j.switch;
          stands = moves.others e other ∙ j.stands;
          since = subst (λ (ks : List Key). SwitchSince ks s j.switch) (sym (flown-log started log_is e other)) j.since;
        }
      ]

  flown-out : MayMove d (as_sent (FlowMod m)) (state old) (state new) → (e : ℕ) → switch_of e (state old) ≡ None → switch_of e (state new) ≡ None
  flown-out moves e none =
      elim (cases_eq e d) [
        | inl same ↦
            let before : switch_of d (state old) ≡ None = ap (λ (n : ℕ). switch_of n (state old)) (sym same) ∙ none in
            ap (λ (n : ℕ). switch_of n (state new)) same ∙ elim moves.switch [
              | inl stayed ↦ stayed ∙ before
              | inr moved ↦ moved ∙ ap (option_map (after_message (as_sent (FlowMod m)))) before
            ]
        | inr other ↦ moves.others e other ∙ none
      ]

-- ---- A fault of a change

module _ {Own : Type 0} (Tells : Type 0) (d : ℕ) (bytes : List ℕ) (start : ℕ) (lost : List ℕ) (first old new : Seen Own) (net0 net now_net : NetState) (fault : TxnFault) where
  -- where the switches stand as before, or have moved
  carried : (views : (e : ℕ) → is_viewed e now_net.views ≡ is_viewed e net.views) → Longer old.history new.history → ((e : ℕ) → switch_of e (state old) ≡ None → switch_of e (state new) ≡ None)
      → ((e : ℕ) (s : SwitchState) → JoinedSince (keys_of e (logged_since start net)) s (switch_of e (state old)) → JoinedSince (keys_of e (logged_since start now_net)) s (switch_of e (state new)))
      → TablesSince start first old net → TablesSince start first new now_net
  carried views longer out_still joined_still before = record {
    joined = λ e s is. elim (before.joined e s is) [
      | inl here ↦ inl (views e ∙ here.0, joined_still e s here.1)
      | inr gone ↦ inr (views e ∙ gone.0, lost-still first old new e gone.1 longer (out_still e gone.1.out))
    ];
    out = λ e is. let o = before.out e is in (views e ∙ o.0, out_still e o.1);
  }

  -- a change
  fault-change : Tells → ChangesJoined Tells d bytes old new net now_net (Err fault) → Goes start lost first old net0 net → answer_of_host d bytes net ≡ None → ReadAsChange bytes → TablesSince start first old net
      → ((e : ℕ) → is_viewed e now_net.views ≡ is_viewed e net.views) → Longer old.history new.history → TablesSince start first new now_net
  fault-change told changes goes host read before views longer =
      elim (changes.in_flight read.xid read.change host read.read) [
        | inl unsent ↦
            let stays : (e : ℕ) → switch_of e (state new) ≡ switch_of e (state old) = λ e. ap (λ (w : Seen _). switch_of e (state w)) unsent.world in
            carried views longer (λ e none. stays e ∙ none)
            (λ e s j. subst (λ (log : List Logged). JoinedSince (keys_of e (map key_logged (drop start log))) s (switch_of e (state new))) (sym unsent.log)
            (subst (λ (o : Option SwitchState). JoinedSince (keys_of e (logged_since start net)) s o) (sym (stays e)) j)) before
        | inr flight ↦
            let k = known d bytes read.change read.xid net (state old) (goes.ready.agrees d) host read.read in
            let moves = flight_moves d read.change (log_in_flight d read.change net.views net.log) old new net now_net fault told flight in
            carried views longer (flown-out Tells d start lost first old new net0 net now_net read.change moves)
            (flown-joined Tells d start lost first old new net0 net now_net read.change k (goes.ready.agrees d) goes.since.started moves flight.log_is) before
      ]

  fault-by : Tells → Continues Tells first old → Longer old.history new.history → ChangesJoined Tells d bytes old new net now_net (Err fault) → Goes start lost first old net0 net → (o : Option Answer) → answer_of_host d bytes net ≡ o → TablesSince start first new now_net
  fault-by told later longer changes goes (Some a) host =
      let by = changes.by_host a host in
      subst (λ (n : NetState). TablesSince start first new n) (sym by.stays) (held-no_matter
      (subst (λ (w : Seen _). TablesSince start first w net) (sym by.world) (tables-since Tells start lost first old net0 net told later goes)))
    where
      held-no_matter : TablesSince start first new net → TablesSince start first new (record net { held = net.held })
      held-no_matter since = record { joined = since.joined; out = since.out }
  fault-by told later longer changes goes None host =
      let before = tables-since Tells start lost first old net0 net told later goes in
      let views : (e : ℕ) → is_viewed e now_net.views ≡ is_viewed e net.views = λ e. viewed_rows e now_net.views ∙ changes.switches e ∙ sym (viewed_rows e net.views) in
      elim (asked (known_rows d net.views) bytes host) [
        | inl read ↦ fault-change told changes goes host read before views longer
        | inr query ↦
            let asks = changes.by_statistics query.xid query.query host query.read in
            let still = asks.still told in
            let log : now_net.log ≡ net.log = ap (λ (n : NetState). n.log) asks.stays in
            carried views longer (λ e none. still e ∙ none)
            (λ e s j. subst (λ (log : List Logged). JoinedSince (keys_of e (map key_logged (drop start log))) s (switch_of e (state new))) (sym log)
            (subst (λ (o : Option SwitchState). JoinedSince (keys_of e (logged_since start net)) s o) (sym (still e)) j)) before
      ]

  -- A message that ended in a fault leaves the transaction so.
  pub fault-since : Tells → Continues Tells first old → Changes Tells d bytes old new net now_net (Err fault) → Goes start lost first old net0 net → TablesSince start first new now_net
  fault-since told later changes goes = elim changes.answered [
    | inl joined ↦ fault-by told later (changes.continues.told told) joined goes (answer_of_host d bytes net) refl
    | inr gone ↦ absurd (no_answer Unknown gone.1)
  ]
    where
      no_answer : (a : Answer) → Err fault ≡ Ok a → ⊥
      no_answer a h = cc

-- ---- The undo

module _ {Own : Type 0} (Tells : Type 0) (start : ℕ) (first old new : Seen Own) (net now_net : NetState) (result : Result (Unit {0}) TxnFault) where
  -- each switch that has a view is joined
  tables-joined : TablesSince start first old net → AreJoined net.views (state old)
  tables-joined since d is = by (switch_of d (state first)) refl
    where
      by : (o : Option SwitchState) → switch_of d (state first) ≡ o → is_joined d (state old) ≡ true
      by None none = absurd (true≢false (sym is ∙ (since.out d none).0))
      by (Some s) there = elim (since.joined d s there) [
        | inl here ↦ ap (λ (o : Option SwitchState). is_some o) here.1.stands
        | inr gone ↦ absurd (true≢false (sym is ∙ gone.0))
      ]

  -- a switch that was joined still
  again-by : Tells → Continues Tells first old → AreJoined net.views (state old) → (u : Undoes Tells start old new net now_net result) → (d : ℕ) (s : SwitchState) → switch_of d (state first) ≡ Some s
      → is_viewed d net.views ≡ true → JoinedSince (keys_of d (logged_since start net)) s (switch_of d (state old)) → (stuck lost : Bool) → is_stuck (parts_of d u.parts) ≡ stuck → is_lost_in d u.parts ≡ lost
      → FailsInUndo Tells d first new ⊎ HasEntriesAgain s (switch_of d (state new)) ⊎ WasLost d first new
  again-by told before joined u d s is view j stuck true stuck_is lost_is =
      inr (inr (lost-later first old new d (before.told told)
      (was-lost old new (lost_parts u.parts) d (u.continues.told told) (u.losses told joined) lost_is (u.lost_out d told joined lost_is).0)))
  again-by told before joined u d s is view j true false stuck_is lost_is = inl (failed_behind d first old new before (u.failed_by d stuck_is lost_is))
  again-by told before joined u d s is view j false false free lost_is =
      let was = (table-serialed first d s is).table in
      let now = table-serialed old d j.switch j.stands in
      let back = u.tables_restored d j.switch s.table told view free j.stands was now j.since.added in
      let same : undone s.table j.switch.table j.switch.moment ≡ record { entries = s.table.entries; next = j.switch.table.next } =
      undone-added j.switch.moment (keys_of d (logged_since start net)) s.table j.switch.table was now j.since.added in
      inr (inl (record {
        next = j.switch.table.next;
        stands = back ∙ ap (λ (t : TableState). Some (record j.switch { table = t })) same ∙ ap (λ (x : SwitchState). Some (record x { table = record { entries = s.table.entries; next = j.switch.table.next } })) j.since.rest;
      }))

  -- An undo after a fault, however it ended.
  pub undone-but-failed : Tells → Continues Tells first old → TablesSince start first old net → Undoes Tells start old new net now_net result → UndoneButFailed Tells first new
  undone-but-failed told before since u = record {
    joined = λ d s is. elim (since.joined d s is) [
      | inl here ↦ again-by told before (tables-joined since) u d s is here.0 here.1 (is_stuck (parts_of d u.parts)) (is_lost_in d u.parts) refl refl
      | inr gone ↦ inr (inr (lost-still first old new d gone.1 (u.continues.told told) ((u.others d told gone.0).0 ∙ gone.1.out)))
    ];
    out = λ d is. let o = since.out d is in (u.others d told o.0).0 ∙ o.1;
  }
