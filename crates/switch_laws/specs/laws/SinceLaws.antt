-- What follows about a transaction that is open: it stands so where it began, and each message that was answered keeps it so, whether or not
-- its switch was lost.
use Rattle.std.proofs.Common.{◌≡◌, ◌≢◌, ◌==◌, ℕ, ◌≤◌, true, false, not, ◌&&◌, List, [], ◌∷◌, ◌++◌, length, drop, map, filter, Option, Some, None, Ok, refl, sym, ap, ap₂, ◌∙◌, subst, append_assoc, inl, inr, arith, true≢false}
use Rattle.std.proofs.lemmas.Bool.{cases_Bool, cases_eq, eqb-true, eq-eqb, ne_eqb, or_parts}
use Rattle.std.proofs.lemmas.List.{drop-append-le, map-append, length-append, append-nil}
use Rattle.std.specs.List.{list_any}
use Rattle.std.specs.Option.{option_map}
use Rattle.std.proofs.lemmas.Option.{same_Some}
use Rattle.std.proofs.Math.Seq.{drop-length}
use Rattle.of_types.specs.declared.errors.OfError.{OfError}
use Rattle.of_match.specs.declared.key.Key.{Key}
use Rattle.of_action.specs.declared.action.Action.{Action}
use Rattle.of_wire.specs.declared.bodies.FlowMod.{FlowMod as Change}
use Rattle.of_wire.specs.declared.message.Message.TheVariants.{FlowMod}
use Rattle.flow_table.specs.declared.entry.Entry.{Entry}
use Rattle.flow_table.specs.declared.view.ViewRow.{ViewRow}
use Rattle.flow_table.specs.View.{TableView}
use Rattle.flow_table.specs.Change.{key_in, is_delete, describes, sends_to, deletes, adds, entries_after, changed}
use Rattle.flow_table.specs.Switch.{SwitchState}
use Rattle.flow_table.specs.Refusals.{message_refusal}
use Rattle.flow_table.specs.Step.{after_taken, after_message}
use Rattle.undo_laws.specs.Removal.{OnlyAdded}
use Rattle.undo_laws.specs.laws.RemovalLaws.{OnlyAdded-nothing, OnlyAdded-more}
use Rattle.undo_laws.specs.laws.CorrectedLaws.{refusal-asked}
use Rattle.app_frames.specs.declared.frame.Answer.{Answer}
use Rattle.lego_model.specs.Answers.{rows_of_table, rows_of_view, would_touch, as_sent}
use Rattle.lego_model.specs.History.{lost_of}
use Rattle.lego_model.specs.Packets.{HeldBack, Held}
use Rattle.outside.specs.Seen.{Seen}
use Rattle.outside.specs.State.{state, switch_of, waits_of}
use Rattle.outside.specs.Conforming.{Conforming}
use Rattle.lego_model.specs.declared.wait.Refusal.{Refusal}
use Rattle.net_txn.specs.declared.logged.Logged.{Logged}
use Rattle.net_txn.specs.Views.{rows_at, with_rows, rows_after}
use Rattle.lego_model.specs.ViewRows.{row_in}
use Rattle.flow_table.specs.Sorted.{with_row}
use Rattle.net_txn.specs.laws.LostPartLaws.{among-last}
use Rattle.net_txn.specs.laws.ViewLaws.{with_rows-kept}
use Rattle.net_txn.specs.laws.RowLaws.{sent, sent_adds, known_command, filter_all, no_command, any_of_map}
use Rattle.net_txn.specs.Net.{NetState, logged_at}
use Rattle.net_txn.specs.declared.ports.KnownPorts.{KnownPorts}
use Rattle.net_txn.specs.Answering.{known_rows}
use Rattle.net_txn.specs.Changes.{answer_of_host, error_in, views_by, log_by, Asked, ChangesJoined, Changes}
use Rattle.net_txn.specs.ChangeSteps.{Agrees, InStep}
use Rattle.net_txn.specs.Losing.{lost_net, lose_all, GoesOut}
use Rattle.of_types.specs.Membership.{is_among}
use Rattle.net_txn.specs.Undos.{key_logged, without_keys, keys_of}
use Rattle.net_txn.specs.laws.TableBoundLaws.{second_none}
use Rattle.net_txn.specs.laws.LostLaws.{losses_then}
use Rattle.switch_laws.specs.Shown.{Passes, has_row, Known}
use Rattle.switch_laws.specs.laws.ShownChangeLaws.{asks_the_same}
use Rattle.switch_laws.specs.laws.AskedLaws.{asked, passed-viewed}
use Rattle.lego_model.specs.AfterFault.{SwitchesStay}
use Rattle.switch_laws.specs.laws.ViewLaws.{without-added}
use Rattle.switch_laws.specs.laws.LossLaws.{without_keys-lost, lose_all-append, ready-joined, joined-stays, lost-ready}
use Rattle.switch_laws.specs.laws.AbsentLaws.{absent-entry, absent-row}
use Rattle.switch_laws.specs.laws.ShownExchangeLaws.{known, judged}
use Rattle.switch_laws.specs.Since.{ports_known, Ready, logged_since, SwitchSince, JoinedSince, Since, Goes, GoesOn, keys_by}
use Rattle.of_types.specs.laws.ChoiceLaws.{or_later}

-- ---- Where it begins

begun-switch : (s : SwitchState) → SwitchSince [] s s
begun-switch s = record { rest = refl; added = OnlyAdded-nothing s.table.entries }

pub begun : {Own : Type 0} (seen : Seen Own) (net : NetState) → Since (length net.log) [] seen seen net net
begun seen net =
    let none : logged_since (length net.log) net ≡ [] = ap (map key_logged) (drop-length net.log) in
    record {
      started = omega arith;
      given = refl;
      moment = refl;
      kept = refl;
      views = ap (λ (ps : List (ℕ × Key)). without_keys ps net.views) none;
      losses = sym (append-nil (lost_of seen));
      joined = λ d s stays is. record { switch = s; stands = is; since = subst (λ (ps : List (ℕ × Key)). SwitchSince (keys_of d ps) s s) (sym none) (begun-switch s) };
      lost_out = λ d is. absurd (true≢false (sym is));
      out = λ d is. is;
    }

-- ---- What is logged

keys_of-same : (d : ℕ) (k : Key) (ps : List (ℕ × Key)) → keys_of d (ps ++ (d, k) ∷ []) ≡ keys_of d ps ++ k ∷ []
keys_of-same d k [] = rw (eq-eqb d d refl) refl
keys_of-same d k (p ∷ ps) =
    elim (cases_Bool (p.0 == d)) [
      | inl here ↦ rw here (ap (λ (ks : List Key). p.1 ∷ ks) (keys_of-same d k ps))
      | inr other ↦ rw other (keys_of-same d k ps)
    ]

keys_of-other : (d e : ℕ) (k : Key) → e ≢ d → (ps : List (ℕ × Key)) → keys_of e (ps ++ (d, k) ∷ []) ≡ keys_of e ps
keys_of-other d e k other [] = rw (ne_eqb d e (λ same. other (sym same))) refl
keys_of-other d e k other (p ∷ ps) =
    elim (cases_Bool (p.0 == e)) [
      | inl here ↦ rw here (ap (λ (ks : List Key). p.1 ∷ ks) (keys_of-other d e k other ps))
      | inr not_here ↦ rw not_here (keys_of-other d e k other ps)
    ]

logged_more : (start : ℕ) (log : List Logged) (x : Logged) → start ≤ length log → map key_logged (drop start (log ++ x ∷ [])) ≡ map key_logged (drop start log) ++ key_logged x ∷ []
logged_more start log x le = ap (map key_logged) (drop-append-le start log (x ∷ []) le) ∙ map-append key_logged (drop start log) (x ∷ [])

-- ---- A DELETE that touches no row

deletes_none : (m : Change) (es : List Entry) → is_delete m ≡ true → would_touch m (rows_of_table es) ≡ false → list_any (deletes (sent m)) es ≡ false
unfolding would_touch describes
deletes_none m es is none =
    let c = no_command m is in
    sym (any_of_map (λ (r : Key × List Action). describes m r.0 && sends_to m.out_port r.1) (λ e. (e.key, e.actions)) es) ∙ (rw (c.0, c.1) at none)

delete_leaves : (now serial : ℕ) (m : Change) (es : List Entry) → is_delete m ≡ true → would_touch m (rows_of_table es) ≡ false → entries_after now serial (sent m) es ≡ es
unfolding entries_after adds
delete_leaves now serial m es is none =
    let c = no_command m is in
    rw (c.0, c.1) (filter_all (deletes (sent m)) es (deletes_none m es is none))

-- ---- The table of a switch that took a change

taken-entries : (m : Change) (s : SwitchState) → (changed s.moment (sent m) s.table).entries ≡ entries_after s.moment s.table.next (sent m) s.table.entries
unfolding changed
taken-entries m s = refl

pub taken-added : (m : Change) (keys : List Key) (before : List Entry) (s : SwitchState) → Passes m (rows_of_table s.table.entries) → message_refusal s (as_sent (FlowMod m)) ≡ None
    → OnlyAdded keys before s.table.entries → OnlyAdded (keys ++ keys_by m) before (changed s.moment (sent m) s.table).entries
unfolding message_refusal
taken-added m keys before s p none only =
    elim (cases_Bool (is_delete m)) [
      | inl deletes_it ↦
          let same : (changed s.moment (sent m) s.table).entries ≡ s.table.entries = taken-entries m s ∙ delete_leaves s.moment s.table.next m s.table.entries deletes_it p.untouched in
          rw (deletes_it) (subst (λ (es : List Entry). OnlyAdded (keys ++ []) before es) (sym same) (subst (λ (ks : List Key). OnlyAdded ks before s.table.entries) (sym (append-nil keys)) only))
      | inr other ↦
          let new = absent-entry s.declared.cap m s.table.entries p other (sym (refusal-asked s.declared.cap (sent m) m s.table.entries (asks_the_same m)) ∙ second_none _ _ none) in
          rw other (OnlyAdded-more s.moment keys (sent m) before s.table only (sent_adds m s.table.entries other (known_command m p.unrefused) p.untouched) new)
    ]

-- ---- A message that the switch judged

pub stays : (m : Change) (s : SwitchState) (e : OfError) → message_refusal s (as_sent (FlowMod m)) ≡ Some e → after_message (as_sent (FlowMod m)) s ≡ s
unfolding after_message
stays m s e refused = rw refused refl

pub takes : (m : Change) (s : SwitchState) → message_refusal s (as_sent (FlowMod m)) ≡ None → after_message (as_sent (FlowMod m)) s ≡ record s { table = changed s.moment (sent m) s.table }
unfolding after_message after_taken
takes m s none = rw none refl

-- the log then, and what it says of each switch
unfoldable pub keys_then : (refusal_of : Option Refusal) (m : Change) → List Key
keys_then None m = keys_by m
keys_then (Some r) m = []

pub logged_here : (start d : ℕ) (m : Change) (log : List Logged) (refusal_of : Option Refusal) → start ≤ length log → keys_of d (map key_logged (drop start (log_by refusal_of d m log))) ≡ keys_of d (map key_logged (drop start log)) ++ keys_then refusal_of m
unfolding keys_then
logged_here start d m log None le =
    elim (cases_Bool (is_delete m)) [
      | inl deletes_it ↦ rw deletes_it (sym (append-nil (keys_of d (map key_logged (drop start log)))))
      | inr other ↦ rw other (ap (keys_of d) (logged_more start log (logged_at d (key_in m)) le) ∙ keys_of-same d (key_in m) (map key_logged (drop start log)))
    ]
logged_here start d m log (Some r) le = sym (append-nil (keys_of d (map key_logged (drop start log))))

pub logged_elsewhere : (start d e : ℕ) (m : Change) (log : List Logged) (refusal_of : Option Refusal) → e ≢ d → start ≤ length log → keys_of e (map key_logged (drop start (log_by refusal_of d m log))) ≡ keys_of e (map key_logged (drop start log))
logged_elsewhere start d e m log None other le =
    elim (cases_Bool (is_delete m)) [
      | inl deletes_it ↦ rw deletes_it refl
      | inr not_delete ↦ rw not_delete (ap (keys_of e) (logged_more start log (logged_at d (key_in m)) le) ∙ keys_of-other d e (key_in m) other (map key_logged (drop start log)))
    ]
logged_elsewhere start d e m log (Some r) other le = refl

longer : (start d : ℕ) (m : Change) (log : List Logged) (refusal_of : Option Refusal) → start ≤ length log → start ≤ length (log_by refusal_of d m log)
longer start d m log None le =
    elim (cases_Bool (is_delete m)) [
      | inl deletes_it ↦ rw deletes_it le
      | inr other ↦ rw other (omega (arith, le, length-append log (logged_at d (key_in m) ∷ [])))
    ]
longer start d m log (Some r) le = le

-- the views without the logged keys stay
views_then : (start d : ℕ) (m : Change) (log : List Logged) (refusal_of : Option Refusal) (rows : List ViewRow) (views : List TableView) → start ≤ length log → rows_at d views ≡ Some rows → (is_delete m ≡ false → refusal_of ≡ None → has_row (key_in m) rows ≡ false)
    → without_keys (map key_logged (drop start (log_by refusal_of d m log))) (views_by refusal_of d m views) ≡ without_keys (map key_logged (drop start log)) views
unfolding rows_after
views_then start d m log None rows views le is new =
    elim (cases_Bool (is_delete m)) [
      | inl deletes_it ↦ rw deletes_it (ap (without_keys (map key_logged (drop start log))) (with_rows-kept d views))
      | inr other ↦
          rw other
          (ap (λ (ps : List (ℕ × Key)). without_keys ps (with_rows d (with_row (row_in m)) views)) (logged_more start log (logged_at d (key_in m)) le)
          ∙ without-added (map key_logged (drop start log)) d (row_in m) rows views is (new other refl))
    ]
views_then start d m log (Some r) rows views le is new = refl

-- the switch then
switch_then : (m : Change) (keys : List Key) (before s : SwitchState) (refusal_of : Option Refusal) → Passes m (rows_of_table s.table.entries) → error_in refusal_of ≡ message_refusal s (as_sent (FlowMod m))
    → SwitchSince keys before s → SwitchSince (keys ++ keys_then refusal_of m) before (after_message (as_sent (FlowMod m)) s)
unfolding keys_then
switch_then m keys before s None p refused since =
    let none : message_refusal s (as_sent (FlowMod m)) ≡ None = sym refused in
    let next : SwitchState = record s { table = changed s.moment (sent m) s.table } in
    subst (SwitchSince (keys ++ keys_by m) before) (sym (takes m s none))
    (record { rest = ap (λ (x : SwitchState). record x { table = changed s.moment (sent m) s.table }) since.rest; added = taken-added m keys before.table.entries s p none since.added })
switch_then m keys before s (Some r) p refused since =
    subst (λ (ks : List Key). SwitchSince ks before (after_message (as_sent (FlowMod m)) s)) (sym (append-nil keys))
    (subst (SwitchSince keys before) (sym (stays m s r.error (sym refused))) since)

module _ {Own : Type 0} (Tells : Type 0) (d start : ℕ) (lost : List ℕ) (first old new : Seen Own) (net0 net now_net : NetState) (m : Change) (given : Answer) where
  rows-same : (k : Known d m net.views (state old)) → Agrees d net.views (state old) → rows_of_view k.rows ≡ rows_of_table k.switch.table.entries
  rows-same k agrees =
      same_Some (rows_of_view k.rows) (rows_of_table k.switch.table.entries)
      (sym (ap (option_map rows_of_view) k.rows_are) ∙ agrees ∙ ap (option_map (λ x. rows_of_table x.table.entries)) k.switch_is)

  -- the key is new where the change was taken
  new-row : (k : Known d m net.views (state old)) → Agrees d net.views (state old) → (refusal_of : Option Refusal) → error_in refusal_of ≡ message_refusal k.switch (as_sent (FlowMod m)) → is_delete m ≡ false → refusal_of ≡ None
      → has_row (key_in m) k.rows ≡ false
  unfolding message_refusal
  new-row k agrees refusal_of refused other taken =
      let none : message_refusal k.switch (as_sent (FlowMod m)) ≡ None = sym refused ∙ ap error_in taken in
      absent-row k.switch.declared.cap m k.switch.table.entries k.rows (rows-same k agrees) k.passes other
      (sym (refusal-asked k.switch.declared.cap (sent m) m k.switch.table.entries (asks_the_same m)) ∙ second_none _ _ none)

  joined-then : (k : Known d m net.views (state old)) → Since start lost first old net0 net → Asked Tells d m old new net now_net given → InStep d (as_sent (FlowMod m)) old new net now_net given → (refusal_of : Option Refusal)
      → now_net.log ≡ log_by refusal_of d m net.log → error_in refusal_of ≡ message_refusal k.switch (as_sent (FlowMod m)) → (e : ℕ) (s : SwitchState) → is_among e lost ≡ false → switch_of e (state first) ≡ Some s
      → JoinedSince (keys_of e (logged_since start now_net)) s (switch_of e (state new))
  joined-then k since asks step refusal_of log_is refused e s stays_in is =
      elim (cases_eq e d) [
        | inl same ↦
            let j = since.joined d s (ap (λ (n : ℕ). is_among n lost) (sym same) ∙ stays_in) (ap (λ (n : ℕ). switch_of n (state first)) (sym same) ∙ is) in
            let this : j.switch ≡ k.switch = same_Some j.switch k.switch (sym j.stands ∙ k.switch_is) in
            let keys : keys_of d (logged_since start now_net) ≡ keys_of d (logged_since start net) ++ keys_then refusal_of m =
            ap (λ (log : List Logged). keys_of d (map key_logged (drop start log))) log_is ∙ logged_here start d m net.log refusal_of since.started in
            let after = switch_then m (keys_of d (logged_since start net)) s k.switch refusal_of k.passes refused (subst (SwitchSince (keys_of d (logged_since start net)) s) this j.since) in
            subst (λ (n : ℕ). JoinedSince (keys_of n (logged_since start now_net)) s (switch_of n (state new))) (sym same)
            (record {
              switch = after_message (as_sent (FlowMod m)) k.switch;
              stands = step.moved ∙ ap (option_map (after_message (as_sent (FlowMod m)))) k.switch_is;
              since = subst (λ (ks : List Key). SwitchSince ks s (after_message (as_sent (FlowMod m)) k.switch)) (sym keys) after;
            })
        | inr other ↦
            let j = since.joined e s stays_in is in
            let keys : keys_of e (logged_since start now_net) ≡ keys_of e (logged_since start net) =
            ap (λ (log : List Logged). keys_of e (map key_logged (drop start log))) log_is ∙ logged_elsewhere start d e m net.log refusal_of other since.started in
            record {
              switch = j.switch;
              stands = step.others e other ∙ j.stands;
              since = subst (λ (ks : List Key). SwitchSince ks s j.switch) (sym keys) j.since;
            }
      ]

  -- a switch that was out stays out
  still-out : InStep d (as_sent (FlowMod m)) old new net now_net given → (e : ℕ) → switch_of e (state old) ≡ None → switch_of e (state new) ≡ None
  still-out step e none =
      elim (cases_eq e d) [
        | inl same ↦
            let before : switch_of d (state old) ≡ None = ap (λ (n : ℕ). switch_of n (state old)) (sym same) ∙ none in
            ap (λ (n : ℕ). switch_of n (state new)) same ∙ step.moved ∙ ap (option_map (after_message (as_sent (FlowMod m)))) before
        | inr other ↦ step.others e other ∙ none
      ]

  -- A message that the switch judged keeps the transaction so.
  since-asked : (k : Known d m net.views (state old)) → Since start lost first old net0 net → Agrees d net.views (state old) → new.given ≡ old.given → now_net.moment ≡ net.moment → lost_of new ≡ lost_of old
      → Asked Tells d m old new net now_net given → InStep d (as_sent (FlowMod m)) old new net now_net given → Since start lost first new net0 now_net
  since-asked k since agrees given_is moment_is lost_is asks step =
      let refused = judged Tells d old new net now_net m given k asks step asks.refusal asks.views asks.answer_is in
      record {
        started = subst (λ (log : List Logged). start ≤ length log) (sym asks.log) (longer start d m net.log asks.refusal since.started);
        given = given_is ∙ since.given;
        moment = moment_is ∙ since.moment;
        kept = step.kept ∙ since.kept;
        views = rw (asks.log, asks.views) (views_then start d m net.log asks.refusal k.rows net.views since.started k.rows_are (new-row k agrees asks.refusal refused)) ∙ since.views;
        losses = lost_is ∙ since.losses;
        joined = joined-then k since asks step asks.refusal asks.log refused;
        lost_out = λ e is. still-out step e (since.lost_out e is);
        out = λ e is. still-out step e (since.out e is);
      }

-- ---- Ready again

option-same : (d : ℕ) (m : Change) (o : Option SwitchState) → ports_known d (option_map (after_message (as_sent (FlowMod m))) o) ≡ ports_known d o
option-same d m None = refl
option-same d m (Some s) = by (message_refusal s (as_sent (FlowMod m))) refl
  where
    by : (r : Option OfError) → message_refusal s (as_sent (FlowMod m)) ≡ r → ports_known d (Some (after_message (as_sent (FlowMod m)) s)) ≡ ports_known d (Some s)
    by None none = ap (λ (x : SwitchState). ports_known d (Some x)) (takes m s none)
    by (Some e) refused = ap (λ (x : SwitchState). ports_known d (Some x)) (stays m s e refused)

ready-asked : {Own : Type 0} (d : ℕ) (m : Change) (old new : Seen Own) (net now_net : NetState) (given : Answer) → Ready old net → now_net.ports ≡ net.ports → InStep d (as_sent (FlowMod m)) old new net now_net given → Ready new now_net
ready-asked d m old new net now_net given ready ports step = record {
  waits = λ e. elim (cases_eq e d) [
    | inl same ↦ ap (λ (n : ℕ). waits_of n (state new)) same ∙ step.waits
    | inr other ↦ step.others_wait e other ∙ ready.waits e
  ];
  agrees = λ e. elim (cases_eq e d) [
    | inl same ↦ subst (λ (n : ℕ). Agrees n now_net.views (state new)) (sym same) step.agrees
    | inr other ↦ step.others_agree e other (ready.agrees e)
  ];
  known = λ e. ap (λ (ks : List KnownPorts). filter (λ k. k.dpid == e) ks) ports ∙ ready.known e ∙ elim (cases_eq e d) [
    | inl same ↦ subst (λ (n : ℕ). ports_known n (switch_of n (state old)) ≡ ports_known n (switch_of n (state new))) (sym same)
        (sym (ap (ports_known d) step.moved ∙ option-same d m (switch_of d (state old))))
    | inr other ↦ sym (ap (ports_known e) (step.others e other))
  ];
}

-- what is held is no matter
goes-held : {Own : Type 0} (start : ℕ) (lost : List ℕ) (first now : Seen Own) (net0 net : NetState) (held : HeldBack) → Goes start lost first now net0 net → Goes start lost first now net0 (record net { held = held })
goes-held start lost first now net0 net held goes =
    let s = goes.since in
    record {
      since = record { started = s.started; given = s.given; moment = s.moment; kept = s.kept; views = s.views; losses = s.losses; joined = s.joined; lost_out = s.lost_out; out = s.out };
      ready = record { waits = goes.ready.waits; agrees = goes.ready.agrees; known = goes.ready.known };
    }

-- ---- A request of statistics, which moves nothing

goes-still : {Own : Type 0} (start : ℕ) (lost : List ℕ) (first old new : Seen Own) (net0 net now_net : NetState) → new.given ≡ old.given → lost_of new ≡ lost_of old → SwitchesStay old new → ((e : ℕ) → waits_of e (state new) ≡ waits_of e (state old))
    → now_net ≡ record net { xid = now_net.xid; kept = now_net.kept } → now_net.kept ≡ net.kept → Goes start lost first old net0 net → Goes start lost first new net0 now_net
goes-still start lost first old new net0 net now_net given_is losses still waits net_is kept goes =
    let s = goes.since in
    let same : now_net ≡ record net { xid = now_net.xid } = net_is ∙ ap (λ (ms : List (ℕ × List ℕ)). record net { xid = now_net.xid; kept = ms }) kept in
    subst (λ (n : NetState). Goes start lost first new net0 n) (sym same) (record {
      since = record {
        started = s.started;
        given = given_is ∙ s.given;
        moment = s.moment;
        kept = s.kept;
        views = s.views;
        losses = losses ∙ s.losses;
        joined = λ e x stays is. let j = s.joined e x stays is in record { switch = j.switch; stands = still e ∙ j.stands; since = j.since };
        lost_out = λ e among. still e ∙ s.lost_out e among;
        out = λ e none. still e ∙ s.out e none;
      };
      ready = record {
        waits = λ e. waits e ∙ goes.ready.waits e;
        agrees = λ e. goes.ready.agrees e ∙ ap (option_map (λ x. rows_of_table x.table.entries)) (sym (still e));
        known = λ e. goes.ready.known e ∙ ap (ports_known e) (sym (still e));
      };
    })

-- ---- One message whose switch was not lost

module _ {Own : Type 0} (Tells : Type 0) (d : ℕ) (bytes : List ℕ) (start : ℕ) (lost : List ℕ) (first old new : Seen Own) (net0 net now_net : NetState) (given : Answer) where
  goes-by : Tells → Conforming new → new.given ≡ old.given → now_net.moment ≡ net.moment → ChangesJoined Tells d bytes old new net now_net (Ok given) → Goes start lost first old net0 net
      → (o : Option Answer) → answer_of_host d bytes net ≡ o → Goes start lost first new net0 now_net
  goes-by told keeps given_is moment_is changes goes (Some a) host =
      let by = changes.by_host a host in
      subst (λ (n : NetState). Goes start lost first new net0 n) (sym by.stays) (goes-held start lost first new net0 net _ (subst (λ (w : Seen _). Goes start lost first w net0 net) (sym by.world) goes))
  goes-by told keeps given_is moment_is changes goes None host = elim (asked (known_rows d net.views) bytes host) [
    | inl read ↦
        let k = known d bytes read.change read.xid net (state old) (goes.ready.agrees d) host read.read in
        let asks = changes.by_switch read.xid read.change host read.read in
        let step = changes.in_step read.xid read.change told host read.read keeps (goes.ready.waits d) (goes.ready.agrees d) in
        record {
          since = since-asked Tells d start lost first old new net0 net now_net read.change given k goes.since (goes.ready.agrees d) given_is moment_is (changes.losses told) asks step;
          ready = ready-asked d read.change old new net now_net given goes.ready changes.ports step;
        }
    | inr query ↦
        let asks = changes.by_statistics query.xid query.query host query.read in
        let s = joined-stays (switch_of d (state old)) (ready-joined old net goes.ready d (passed-viewed d bytes net host)) in
        let step = asks.in_step s.switch told keeps s.stands (goes.ready.waits d) in
        goes-still start lost first old new net0 net now_net given_is (changes.losses told) (asks.still told)
        (λ e. elim (cases_eq e d) [
          | inl same ↦ ap (λ (n : ℕ). waits_of n (state new)) same ∙ step.waits ∙ sym (goes.ready.waits d) ∙ ap (λ (n : ℕ). waits_of n (state old)) (sym same)
          | inr other ↦ step.others_wait e other
        ])
        asks.stays step.kept_is goes
  ]

-- ---- One message whose switch was lost

module _ {Own : Type 0} (d start : ℕ) (lost : List ℕ) (first old new : Seen Own) (net0 net now_net : NetState) (packets : List Held) (out : GoesOut d packets old new) (net_is : now_net ≡ record (lost_net d net) { xid = now_net.xid }) where
  log-same : logged_since start now_net ≡ logged_since start net
  log-same = ap (λ (n : NetState). logged_since start n) net_is

  one-more : lose_all (lost ++ d ∷ []) net0 ≡ lost_net d (lose_all lost net0)
  one-more = lose_all-append lost (d ∷ []) net0

  joined-still : Since start lost first old net0 net → (e : ℕ) (s : SwitchState) → is_among e (lost ++ d ∷ []) ≡ false → switch_of e (state first) ≡ Some s → JoinedSince (keys_of e (logged_since start now_net)) s (switch_of e (state new))
  joined-still since e s among is =
      let n = or_parts (is_among e lost) (d == e) (sym (among-last e d lost) ∙ among) in
      let j = since.joined e s n.0 is in
      record {
        switch = j.switch;
        stands = out.others e (λ same. true≢false (sym (eq-eqb d e (sym same)) ∙ n.1)) ∙ j.stands;
        since = subst (λ (ps : List (ℕ × Key)). SwitchSince (keys_of e ps) s j.switch) (sym log-same) j.since;
      }

  gone-out : (e : ℕ) → (e ≢ d → switch_of e (state old) ≡ None) → switch_of e (state new) ≡ None
  gone-out e none = elim (cases_eq e d) [
    | inl same ↦ ap (λ (n : ℕ). switch_of n (state new)) same ∙ out.out
    | inr other ↦ out.others e other ∙ none other
  ]

  pub since-lost : Since start lost first old net0 net → new.given ≡ old.given → Since start (lost ++ d ∷ []) first new net0 now_net
  since-lost since given_is = record {
    started = subst (λ (log : List Logged). start ≤ length log) (sym (ap (λ (n : NetState). n.log) net_is)) since.started;
    given = given_is ∙ since.given;
    moment = ap (λ (n : NetState). n.moment) net_is ∙ since.moment;
    kept = ap (λ (n : NetState). n.kept) net_is ∙ ap (λ (ms : List (ℕ × List ℕ)). filter (λ m. not (m.0 == d)) ms) since.kept ∙ sym (ap (λ (n : NetState). n.kept) one-more);
    views = ap₂ (λ (ps : List (ℕ × Key)) (vs : List TableView). without_keys ps vs) log-same (ap (λ (n : NetState). n.views) net_is)
        ∙ without_keys-lost d (logged_since start net) net.views
        ∙ ap (λ (vs : List TableView). filter (λ v. not (v.dpid == d)) vs) since.views
        ∙ sym (ap (λ (n : NetState). n.views) one-more);
    losses = losses_then old new out.steps out.history ∙ ap₂ (λ (xs ys : List ℕ). xs ++ ys) since.losses out.lost ∙ append_assoc (lost_of first) lost (d ∷ []);
    joined = joined-still since;
    lost_out = λ e among. gone-out e (λ other. since.lost_out e (elim (cases_Bool (is_among e lost)) [
      | inl before ↦ before
      | inr never ↦ absurd (other (sym (eqb-true d e (or_later (is_among e lost) (d == e) (sym (among-last e d lost) ∙ among) never))))
    ]));
    out = λ e none. gone-out e (λ other. since.out e none);
  }

-- ---- The whole

module _ {Own : Type 0} (Tells : Type 0) (d : ℕ) (bytes : List ℕ) (start : ℕ) (lost : List ℕ) (first old new : Seen Own) (net0 net now_net : NetState) (given : Answer) where
  pub goes-on : Tells → Conforming new → Changes Tells d bytes old new net now_net (Ok given) → Goes start lost first old net0 net → GoesOn start lost first old new net0 now_net
  goes-on told keeps changes goes = elim changes.answered [
    | inl joined ↦ record {
      more = [];
      losses = joined.losses told ∙ sym (append-nil (lost_of old));
      goes = subst (λ (ds : List ℕ). Goes start ds first new net0 now_net) (sym (append-nil lost))
          (goes-by Tells d bytes start lost first old new net0 net now_net given told keeps changes.continues.given changes.moment joined goes (answer_of_host d bytes net) refl);
    }
    | inr gone ↦
        let joined = ready-joined old net goes.ready d gone.2.viewed in
        let there = joined-stays (switch_of d (state old)) joined in
        let out = gone.2.is_lost.out told joined in
        record {
          more = d ∷ [];
          losses = losses_then old new out.steps out.history ∙ ap (λ (ds : List ℕ). lost_of old ++ ds) out.lost;
          goes = record {
            since = since-lost d start lost first old new net0 net now_net [] out gone.2.net_is goes.since changes.continues.given;
            ready = lost-ready d [] there.switch old new net now_net there.stands out gone.2.net_is goes.ready;
          };
        }
  ]
