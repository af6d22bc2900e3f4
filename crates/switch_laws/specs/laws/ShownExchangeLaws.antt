-- What follows where an application's message was answered in a world that keeps its word: the reference controller answers the same and
-- loses its switch there or not, and its switches move as the world's do, as they are shown.
use Rattle.std.proofs.Common.{◌≡◌, ◌≢◌, ℕ, Bool, true, false, List, [], ◌∷◌, ◌++◌, map, Option, Some, None, Result, Ok, refl, sym, ap, ap₂, ◌∙◌, subst, inl, inr}
use Rattle.std.proofs.lemmas.Bool.{cases_Bool}
use Rattle.std.proofs.lemmas.List.{append-nil}
use Rattle.std.specs.Option.{option_map}
use Rattle.of_types.specs.declared.errors.OfError.{OfError}
use Rattle.of_match.specs.declared.key.Key.{Key}
use Rattle.of_action.specs.declared.action.Action.{Action}
use Rattle.of_wire.specs.declared.bodies.FlowMod.{FlowMod as Change}
use Rattle.of_wire.specs.declared.message.Message.TheVariants.{FlowMod}
use Rattle.of_wire.specs.Reading.{reading_of}
use Rattle.of_wire.specs.Grammar.{enveloped}
use Rattle.flow_table.specs.declared.entry.Entry.{Entry}
use Rattle.flow_table.specs.declared.view.ViewRow.{ViewRow}
use Rattle.flow_table.specs.View.{TableView}
use Rattle.flow_table.specs.Table.{IsTable}
use Rattle.flow_table.specs.Switch.{Declared, SwitchState}
use Rattle.flow_table.specs.Change.{notices_of, describes}
use Rattle.flow_table.specs.Refusals.{message_refusal}
use Rattle.flow_table.specs.Step.{after_message}
use Rattle.undo_laws.specs.Corrected.{IsCorrection}
use Rattle.undo_laws.specs.CorrectedSwitch.{corrected_switch}
use Rattle.app_frames.specs.declared.frame.Answer.{Answer}
use Rattle.app_frames.specs.declared.frame.Answer.TheVariants.{Unknown}
use Rattle.app_frames.specs.declared.frame.Event.{Event}
use Rattle.lego_model.specs.Answers.{Rows, rows_of_table, rows_of_view, would_touch, host_answer, as_sent, answer_by, switch_answer}
use Rattle.lego_model.specs.declared.fault.TxnFault.{TxnFault}
use Rattle.lego_model.specs.Events.{notice_event, leave_event}
use Rattle.lego_model.specs.Packets.{Held, HeldBack, with_held, holds, notices_unless, notices_by, notices_past, notices_at, play_at as playing, play}
use Rattle.lego_model.specs.Places.{Place, switch_at, with_place, rows_at as rows_in, by_switch, by_host, answer}
use Rattle.outside.specs.Seen.{Given, Seen, Continues, is_declared}
use Rattle.outside.specs.State.{State, state, switch_of, waits_of}
use Rattle.outside.specs.Conforming.{AreDeclaredFrom, Conforming}
use Rattle.outside.specs.laws.StateLaws.{Conforming-before}
use Rattle.lego_model.specs.declared.wait.Refusal.{Refusal}
use Rattle.net_txn.specs.Views.{rows_at, rows_after}
use Rattle.net_txn.specs.Net.{NetState}
use Rattle.net_txn.specs.Answering.{known_rows}
use Rattle.net_txn.specs.Changes.{answer_of_host, error_in, views_by, Asked, ChangesJoined, ChangesLost, Changes}
use Rattle.net_txn.specs.ChangeSteps.{Agrees, InStep}
use Rattle.net_txn.specs.Losing.{lost_net, GoesOut}
use Rattle.net_txn.specs.laws.RowLaws.{no_notices}
use Rattle.net_txn.specs.laws.ViewLaws.{rows_at-same, rows_at-other}
use Rattle.switch_laws.specs.Shown.{rows_or_none, correction_in, corrections, shown_by, shown_switch, places, shown_places, Stand, Passes, Known}
use Rattle.switch_laws.specs.laws.CorrectionLaws.{goes_along}
use Rattle.switch_laws.specs.Lost.{shown_play, ExchangeShown}
use Rattle.switch_laws.specs.Since.{Ready}
use Rattle.switch_laws.specs.laws.ClockLaws.{switch-in_time}
use Rattle.switch_laws.specs.laws.LossLaws.{leaves-none, agrees-joined, ready-joined, joined-stays, lost-leaves, lost-places}
use Rattle.switch_laws.specs.laws.StandLaws.{all-stand}
use Rattle.switch_laws.specs.laws.PlaceLaws.{switch_at-declared, switch_at-undeclared, with_place-places}
use Rattle.switch_laws.specs.laws.ShownChangeLaws.{passes, refusal-shown, taken-shown, refused-shown}
use Rattle.of_wire.specs.declared.bodies.Stats.{Stats as Query}
use Rattle.of_wire.specs.declared.message.Message.TheVariants.{StatsRequest}
use Rattle.flow_table.specs.Change.{unless_refused}
use Rattle.flow_table.specs.Refusals.{stats_refusal}
use Rattle.flow_table.specs.Step.{after_taken}
use Rattle.app_frames.specs.declared.frame.Answer.TheVariants.{Statistics}
use Rattle.undo_laws.specs.laws.ShownStatisticsLaws.{reply-owned}
use Rattle.std.specs.List.{concat}
use Rattle.lego_model.specs.AfterFault.{SwitchesStay}
use Rattle.switch_laws.specs.Asked.{ReadAsChange}
use Rattle.switch_laws.specs.laws.AskedLaws.{asked, passed-viewed}
use Rattle.net_txn.specs.laws.InStepLaws.{rows_by}
use Rattle.net_txn.specs.laws.WaitMoveLaws.{some_switch}

-- ---- What the host knows

rows_of-shown : (shown : Entry → Entry) → IsCorrection shown → (es : List Entry) → rows_of_table (map shown es) ≡ rows_of_table es
rows_of-shown shown corrects [] = refl
rows_of-shown shown corrects (e ∷ es) =
    ap₂ (λ (row : Key × List Action) (rows : Rows). row ∷ rows) (ap₂ (λ (k : Key) (actions : List Action). (k, actions)) (corrects.key e) (corrects.actions e)) (rows_of-shown shown corrects es)

rows_in-shown : (shown : Entry → Entry) → IsCorrection shown → (o : Option SwitchState) → rows_in (option_map (corrected_switch shown) o) ≡ option_map (λ x. rows_of_table x.table.entries) o
rows_in-shown shown corrects None = refl
rows_in-shown shown corrects (Some s) = ap (λ (rows : Rows). some rows) (rows_of-shown shown corrects s.table.entries)
  where
    some : Rows → Option Rows
    some rows = Some rows

pub switch_at-shown : (declared : List Declared) (views : List TableView) (s : State) (d : ℕ) → Stand declared s → switch_at d (places (shown_switch (corrections views) s) declared) ≡ shown_switch (corrections views) s d
switch_at-shown declared views s d stand =
    elim (cases_Bool (is_declared d declared)) [
      | inl is ↦ switch_at-declared (shown_switch (corrections views) s) d declared is
      | inr other ↦ switch_at-undeclared (shown_switch (corrections views) s) d declared other ∙ sym (ap (option_map (corrected_switch (corrections views d))) (stand.undeclared d other))
    ]

-- ---- Answers

answer_by-one : (a b : Option OfError) → answer_by a ≡ answer_by b → a ≡ b
answer_by-one None None e = refl
answer_by-one None (Some y) e = absurd cc
answer_by-one (Some x) None e = absurd cc
answer_by-one (Some x) (Some y) e = cc

pub answer-shown : (shown : Entry → Entry) → IsCorrection shown → (m : Change) (s : SwitchState) (rows : Rows) → Passes m rows → switch_answer (corrected_switch shown s) (FlowMod m) ≡ switch_answer s (as_sent (FlowMod m))
unfolding switch_answer
answer-shown shown corrects m s rows p = ap answer_by (refusal-shown shown corrects m s p.unrefused)

-- ---- What a change that removes nothing holds

no-notices : (m : Change) (es : List Entry) (now : ℕ) → would_touch m (rows_of_table es) ≡ false → notices_of now m es ≡ []
unfolding notices_of describes
no-notices m es now none = no_notices m es now none

quiet-by : (o : Option OfError) (d : ℕ) (m : Change) (s : SwitchState) → notices_of s.moment m s.table.entries ≡ [] → notices_unless o d m s ≡ []
quiet-by None d m s none = ap (map (notice_event d)) none
quiet-by (Some e) d m s none = refl

quiet-change : (d : ℕ) (shown : Entry → Entry) → IsCorrection shown → (m : Change) (s : SwitchState) → Passes m (rows_of_table s.table.entries) → notices_by d (FlowMod m) (corrected_switch shown s) ≡ []
quiet-change d shown corrects m s p =
    let mine = corrected_switch shown s in
    quiet-by (message_refusal mine (FlowMod m)) d m mine (no-notices m mine.table.entries mine.moment (ap (would_touch m) (rows_of-shown shown corrects s.table.entries) ∙ p.untouched))

-- ---- The declared switches are those at first

declared_before : {Own : Type 0} (old new : Seen Own) → new.given ≡ old.given → Conforming new → AreDeclaredFrom 1 old.given.declared
declared_before old new same keeps = subst (λ (g : Given _). AreDeclaredFrom 1 g.declared) same keeps.declared

-- ---- The views then

shown-here : (refusal : Option Refusal) (d : ℕ) (m : Change) (views : List TableView) (rows : List ViewRow) → rows_at d views ≡ Some rows → corrections (views_by refusal d m views) d ≡ correction_in (rows_by refusal m rows)
shown-here None d m views rows is = ap (λ (o : Option (List ViewRow)). correction_in (rows_or_none o)) (rows_at-same d (rows_after m) views rows is)
shown-here (Some r) d m views rows is = ap (λ (o : Option (List ViewRow)). correction_in (rows_or_none o)) is

shown-elsewhere : (refusal : Option Refusal) (d e : ℕ) (m : Change) (views : List TableView) → e ≢ d → corrections (views_by refusal d m views) e ≡ corrections views e
shown-elsewhere None d e m views other = ap (λ (o : Option (List ViewRow)). correction_in (rows_or_none o)) (rows_at-other d e (rows_after m) views other)
shown-elsewhere (Some r) d e m views other = refl

pub declared_of : (d : ℕ) (declared : List Declared) (s : State) → Stand declared s → (x : SwitchState) → switch_of d s ≡ Some x → is_declared d declared ≡ true
declared_of d declared s stand x is =
    elim (cases_Bool (is_declared d declared)) [
      | inl there ↦ there
      | inr other ↦ let none : switch_of d s ≡ None = stand.undeclared d other in absurd cc
    ]

-- ---- The switch then

moved-shown : (refusal : Option Refusal) (m : Change) (rows : List ViewRow) (s : SwitchState) → IsTable s.table.entries → Passes m (rows_of_table s.table.entries) → error_in refusal ≡ message_refusal s (as_sent (FlowMod m))
    → after_message (FlowMod m) (corrected_switch (correction_in rows) s) ≡ corrected_switch (correction_in (rows_by refusal m rows)) (after_message (as_sent (FlowMod m)) s)
moved-shown None m rows s is p refused = taken-shown m rows s is p (sym refused)
moved-shown (Some r) m rows s is p refused = refused-shown m rows s r.error p (sym refused)

-- ---- A change that the switch judged

known-from : (d : ℕ) (bytes : List ℕ) (m : Change) (xid : ℕ) (views : List TableView) (s : State) (o : Option (List ViewRow)) (x : Option SwitchState) → rows_at d views ≡ o → switch_of d s ≡ x
    → option_map rows_of_view o ≡ option_map (λ y. rows_of_table y.table.entries) x → host_answer (option_map rows_of_view o) bytes ≡ None → reading_of bytes ≡ Ok (enveloped xid (FlowMod m)) → Known d m views s
unfolding host_answer
known-from d bytes m xid views s None x rows_are switch_is same host read = absurd cc
known-from d bytes m xid views s (Some rows) None rows_are switch_is same host read = absurd cc
known-from d bytes m xid views s (Some rows) (Some switch) rows_are switch_is same host read = record {
  switch = switch;
  rows = rows;
  switch_is = switch_is;
  rows_are = rows_are;
  passes = passes (rows_of_table switch.table.entries) bytes m xid (ap (λ (k : Option Rows). host_answer k bytes) (sym same) ∙ host) read;
}

pub known : (d : ℕ) (bytes : List ℕ) (m : Change) (xid : ℕ) (net : NetState) (s : State) → Agrees d net.views s → answer_of_host d bytes net ≡ None → reading_of bytes ≡ Ok (enveloped xid (FlowMod m)) → Known d m net.views s
known d bytes m xid net s agrees host read = known-from d bytes m xid net.views s (rows_at d net.views) (switch_of d s) refl refl agrees host read

module _ {Own : Type 0} (Tells : Type 0) (d : ℕ) (old new : Seen Own) (net now_net : NetState) (m : Change) (given : Answer) where
  pub judged : (k : Known d m net.views (state old)) → Asked Tells d m old new net now_net given → InStep d (as_sent (FlowMod m)) old new net now_net given → (refusal : Option Refusal) → now_net.views ≡ views_by refusal d m net.views
      → given ≡ answer_by (error_in refusal) → error_in refusal ≡ message_refusal k.switch (as_sent (FlowMod m))
  unfolding switch_answer
  judged k is step refusal views_is answer_is =
      let by_switch_is : given ≡ answer_by (message_refusal k.switch (as_sent (FlowMod m))) = rw k.switch_is at step.answer_is in
      answer_by-one (error_in refusal) (message_refusal k.switch (as_sent (FlowMod m))) (sym answer_is ∙ by_switch_is)

  -- the switches of the reference controller after the change
  places-then : (declared : List Declared) → AreDeclaredFrom 1 declared → Stand declared (state old) → (k : Known d m net.views (state old)) → InStep d (as_sent (FlowMod m)) old new net now_net given → (refusal : Option Refusal)
      → now_net.views ≡ views_by refusal d m net.views → error_in refusal ≡ message_refusal k.switch (as_sent (FlowMod m))
      → with_place d (λ o. Some (after_message (FlowMod m) (corrected_switch (correction_in k.rows) k.switch))) (places (shown_switch (shown_by net) (state old)) declared) ≡ places (shown_switch (shown_by now_net) (state new)) declared
  places-then declared are stand k step refusal views_is refused =
      let is : is_declared d declared ≡ true = declared_of d declared (state old) stand k.switch k.switch_is in
      let after : SwitchState = after_message (as_sent (FlowMod m)) k.switch in
      let moved : switch_of d (state new) ≡ Some after = step.moved ∙ ap (option_map (after_message (as_sent (FlowMod m)))) k.switch_is in
      let mine : shown_by now_net d ≡ correction_in (rows_by refusal m k.rows) = ap (λ (vs : List TableView). corrections vs d) views_is ∙ shown-here refusal d m net.views k.rows k.rows_are in
      let shown : after_message (FlowMod m) (corrected_switch (correction_in k.rows) k.switch) ≡ corrected_switch (correction_in (rows_by refusal m k.rows)) after = moved-shown refusal m k.rows k.switch (stand.table d k.switch k.switch_is) k.passes refused in
      let here : shown_switch (shown_by now_net) (state new) d ≡ Some (after_message (FlowMod m) (corrected_switch (correction_in k.rows) k.switch)) =
      ap₂ (λ (f : Entry → Entry) (o : Option SwitchState). option_map (corrected_switch f) o) mine moved ∙ ap some_switch (sym shown) in
      let others : (e : ℕ) → e ≢ d → shown_switch (shown_by now_net) (state new) e ≡ shown_switch (shown_by net) (state old) e =
      λ e other. ap₂ (λ (f : Entry → Entry) (o : Option SwitchState). option_map (corrected_switch f) o) (ap (λ (vs : List TableView). corrections vs e) views_is ∙ shown-elsewhere refusal d e m net.views other) (step.others e other) in
      with_place-places (shown_switch (shown_by net) (state old)) (shown_switch (shown_by now_net) (state new)) d (λ o. Some (after_message (FlowMod m) (corrected_switch (correction_in k.rows) k.switch))) 1 declared are is here others

  by_switch-shown : (declared : List Declared) → AreDeclaredFrom 1 declared → Stand declared (state old) → (bytes : List ℕ) (xid : ℕ) → reading_of bytes ≡ Ok (enveloped xid (FlowMod m)) → (k : Known d m net.views (state old))
      → Asked Tells d m old new net now_net given → InStep d (as_sent (FlowMod m)) old new net now_net given
      → by_switch d (reading_of bytes) (switch_at d (places (shown_switch (shown_by net) (state old)) declared)) (places (shown_switch (shown_by net) (state old)) declared) ≡ (given, places (shown_switch (shown_by now_net) (state new)) declared)
  by_switch-shown declared are stand bytes xid read k asks step =
      let at : switch_at d (places (shown_switch (shown_by net) (state old)) declared) ≡ Some (corrected_switch (correction_in k.rows) k.switch) =
      switch_at-shown declared net.views (state old) d stand
      ∙ ap₂ (λ (f : Entry → Entry) (o : Option SwitchState). option_map (corrected_switch f) o) (ap (λ (o : Option (List ViewRow)). correction_in (rows_or_none o)) k.rows_are) k.switch_is in
      let refused = judged k asks step asks.refusal asks.views asks.answer_is in
      let answered : given ≡ switch_answer k.switch (as_sent (FlowMod m)) = rw k.switch_is at step.answer_is in
      rw (read, at)
      (ap₂ (λ (a : Answer) (ps : List Place). (a, ps)) (answer-shown (correction_in k.rows) (goes_along k.rows).corrects m k.switch (rows_of_table k.switch.table.entries) k.passes ∙ sym answered)
      (places-then declared are stand k step asks.refusal asks.views refused))

-- ---- Statistics that the switch gave

statistics-answer : (rows : List ViewRow) (q : Query) (s : SwitchState) → stats_refusal q ≡ None → switch_answer (corrected_switch (correction_in rows) s) (StatsRequest q) ≡ switch_answer s (StatsRequest q)
unfolding switch_answer message_refusal
statistics-answer rows q s passed = rw passed (ap (λ (found : List (List ℕ)). Statistics q.kind (concat found)) (reply-owned rows q s))

statistics-stay : (q : Query) (s : SwitchState) → after_message (StatsRequest q) s ≡ s
unfolding after_message after_taken
statistics-stay q s = unless_same (message_refusal s (StatsRequest q)) s
  where
    unless_same : (o : Option OfError) (s : SwitchState) → unless_refused o s s ≡ s
    unless_same None s = refl
    unless_same (Some e) s = refl

statistics-shown : {Own : Type 0} (d : ℕ) (old new : Seen Own) (net now_net : NetState) (given : Answer) (declared : List Declared) → AreDeclaredFrom 1 declared → Stand declared (state old) → (bytes : List ℕ) (xid : ℕ) (q : Query)
    → reading_of bytes ≡ Ok (enveloped xid (StatsRequest q)) → stats_refusal q ≡ None → (s : SwitchState) → switch_of d (state old) ≡ Some s → given ≡ switch_answer s (StatsRequest q) → now_net.views ≡ net.views → SwitchesStay old new
    → by_switch d (reading_of bytes) (switch_at d (places (shown_switch (shown_by net) (state old)) declared)) (places (shown_switch (shown_by net) (state old)) declared) ≡ (given, places (shown_switch (shown_by now_net) (state new)) declared)
statistics-shown d old new net now_net given declared are stand bytes xid q read passed s here answer_is views still =
    let mine = corrected_switch (shown_by net d) s in
    let at : switch_at d (places (shown_switch (shown_by net) (state old)) declared) ≡ Some mine = switch_at-shown declared net.views (state old) d stand ∙ ap (option_map (corrected_switch (shown_by net d))) here in
    let is : is_declared d declared ≡ true = declared_of d declared (state old) stand s here in
    let same : (e : ℕ) → shown_switch (shown_by now_net) (state new) e ≡ shown_switch (shown_by net) (state old) e =
    λ e. ap₂ (λ (vs : List TableView) (o : Option SwitchState). option_map (corrected_switch (corrections vs e)) o) views (still e) in
    let there : shown_switch (shown_by now_net) (state new) d ≡ Some (after_message (StatsRequest q) mine) =
    same d ∙ ap (option_map (corrected_switch (shown_by net d))) here ∙ ap some_switch (sym (statistics-stay q mine)) in
    rw (read, at)
    (ap₂ (λ (a : Answer) (ps : List Place). (a, ps)) (statistics-answer (rows_or_none (rows_at d net.views)) q s passed ∙ sym answer_is)
    (with_place-places (shown_switch (shown_by net) (state old)) (shown_switch (shown_by now_net) (state new)) d (λ o. Some (after_message (StatsRequest q) mine)) 1 declared are is there (λ e other. same e)))

module _ {Own : Type 0} (Tells : Type 0) (d : ℕ) (bytes : List ℕ) (old new : Seen Own) (net now_net : NetState) (given : Answer) where
  answered-by : Tells → Conforming new → new.given ≡ old.given → ChangesJoined Tells d bytes old new net now_net (Ok given) → waits_of d (state old) ≡ [] → Agrees d net.views (state old) → Stand old.given.declared (state old)
      → (o : Option Answer) → answer_of_host d bytes net ≡ o
      → by_host o d bytes (places (shown_switch (shown_by net) (state old)) old.given.declared) ≡ (given, places (shown_switch (shown_by now_net) (state new)) old.given.declared)
  answered-by told keeps same_given changes waits agrees stand (Some a) host =
      let by = changes.by_host a host in
      let same : given ≡ a = by.answers in
      ap₂ (λ (x : Answer) (ps : List Place). (x, ps)) (sym same)
      (ap₂ (λ (n : NetState) (w : Seen _). places (shown_switch (shown_by n) (state w)) old.given.declared) (sym by.stays) (sym by.world))
  answered-by told keeps same_given changes waits agrees stand None host = elim (asked (known_rows d net.views) bytes host) [
    | inl read ↦
        let k = known d bytes read.change read.xid net (state old) agrees host read.read in
        let asks = changes.by_switch read.xid read.change host read.read in
        let step = changes.in_step read.xid read.change told host read.read keeps waits agrees in
        by_switch-shown Tells d old new net now_net read.change given old.given.declared (declared_before old new same_given keeps) stand bytes read.xid read.read k asks step
    | inr query ↦
        let asks = changes.by_statistics query.xid query.query host query.read in
        let s = joined-stays (switch_of d (state old)) (agrees-joined d net.views (state old) agrees (passed-viewed d bytes net host)) in
        let step = asks.in_step s.switch told keeps s.stands waits in
        statistics-shown d old new net now_net given old.given.declared (declared_before old new same_given keeps) stand bytes query.xid query.query query.read query.passed s.switch s.stands step.answer_is
        (ap (λ (n : NetState). n.views) asks.stays) (asks.still told)
  ]

  -- the host knows what the reference controller's switches show
  rows-shown : Agrees d net.views (state old) → rows_in (switch_at d (places (shown_switch (shown_by net) (state old)) old.given.declared)) ≡ known_rows d net.views
  rows-shown agrees =
      ap rows_in (switch_at-shown old.given.declared net.views (state old) d (all-stand old)) ∙ rows_in-shown (shown_by net d) (goes_along (rows_or_none (rows_at d net.views))).corrects (switch_of d (state old)) ∙ sym agrees

  -- A message that was answered, whose switch was not lost: the reference controller answers the same, and its switches stand then as the
  -- world's do.
  answered-shown : Tells → Conforming new → new.given ≡ old.given → ChangesJoined Tells d bytes old new net now_net (Ok given) → Ready old net
      → answer (shown_places old.given.declared (shown_by net) (state old)) d bytes ≡ (given, shown_places old.given.declared (shown_by now_net) (state new))
  unfolding answer shown_places
  answered-shown told keeps same_given changes ready =
      let ps : List Place = places (shown_switch (shown_by net) (state old)) old.given.declared in
      let host : host_answer (rows_in (switch_at d ps)) bytes ≡ answer_of_host d bytes net = ap (λ (k : Option Rows). host_answer k bytes) (rows-shown (ready.agrees d)) in
      ap (λ (o : Option Answer). by_host o d bytes ps) host ∙ answered-by told keeps same_given changes (ready.waits d) (ready.agrees d) (all-stand old) (answer_of_host d bytes net) refl

  held-change : Tells → Conforming new → ChangesJoined Tells d bytes old new net now_net (Ok given) → waits_of d (state old) ≡ [] → Agrees d net.views (state old) → Stand old.given.declared (state old)
      → answer_of_host d bytes net ≡ None → ReadAsChange bytes → with_held net.held (holds d bytes given) (notices_past None d (reading_of bytes) (switch_at d (places (shown_switch (shown_by net) (state old)) old.given.declared))) ≡ now_net.held
  held-change told keeps changes waits agrees stand host read =
      let k = known d bytes read.change read.xid net (state old) agrees host read.read in
      let step = changes.in_step read.xid read.change told host read.read keeps waits agrees in
      let at : switch_at d (places (shown_switch (shown_by net) (state old)) old.given.declared) ≡ Some (corrected_switch (correction_in k.rows) k.switch) =
      switch_at-shown old.given.declared net.views (state old) d stand
      ∙ ap₂ (λ (f : Entry → Entry) (o : Option SwitchState). option_map (corrected_switch f) o) (ap (λ (o : Option (List ViewRow)). correction_in (rows_or_none o)) k.rows_are) k.switch_is in
      rw (read.read, at)
      (ap₂ (λ (packets : List Held) (notices : List Event). record { packets = packets; notices = notices }) (sym changes.held)
      (ap (λ (more : List Event). net.held.notices ++ more) (quiet-change d (correction_in k.rows) (goes_along k.rows).corrects read.change k.switch k.passes) ∙ append-nil net.held.notices ∙ sym (ap (λ (h : HeldBack). h.notices) step.held)))

  -- What is held then is what the reference controller holds.
  held-by : Tells → Conforming new → ChangesJoined Tells d bytes old new net now_net (Ok given) → waits_of d (state old) ≡ [] → Agrees d net.views (state old) → Stand old.given.declared (state old)
      → (o : Option Answer) → answer_of_host d bytes net ≡ o → with_held net.held (holds d bytes given) (notices_past o d (reading_of bytes) (switch_at d (places (shown_switch (shown_by net) (state old)) old.given.declared))) ≡ now_net.held
  held-by told keeps changes waits agrees stand (Some a) host =
      let by = changes.by_host a host in
      ap (λ (notices : List Event). record { packets = net.held.packets ++ holds d bytes given; notices = notices }) (append-nil net.held.notices) ∙ sym (ap (λ (n : NetState). n.held) by.stays)
  held-by told keeps changes waits agrees stand None host = elim (asked (known_rows d net.views) bytes host) [
    | inl read ↦ held-change told keeps changes waits agrees stand host read
    | inr query ↦
        let asks = changes.by_statistics query.xid query.query host query.read in
        let s = joined-stays (switch_of d (state old)) (agrees-joined d net.views (state old) agrees (passed-viewed d bytes net host)) in
        let at : switch_at d (places (shown_switch (shown_by net) (state old)) old.given.declared) ≡ Some (corrected_switch (shown_by net d) s.switch) =
        switch_at-shown old.given.declared net.views (state old) d stand ∙ ap (option_map (corrected_switch (shown_by net d))) s.stands in
        rw (query.read, at)
        (ap₂ (λ (packets : List Held) (notices : List Event). record { packets = packets; notices = notices }) (sym changes.held)
        (append-nil net.held.notices ∙ sym (ap (λ (n : NetState). n.held.notices) asks.stays)))
  ]

  held-shown : Tells → Conforming new → ChangesJoined Tells d bytes old new net now_net (Ok given) → Ready old net
      → with_held net.held (holds d bytes given) (notices_at (switch_at d (shown_places old.given.declared (shown_by net) (state old))) d bytes) ≡ now_net.held
  unfolding notices_at shown_places
  held-shown told keeps changes ready =
      let s = switch_at d (places (shown_switch (shown_by net) (state old)) old.given.declared) in
      let host : host_answer (rows_in s) bytes ≡ answer_of_host d bytes net = ap (λ (k : Option Rows). host_answer k bytes) (rows-shown (ready.agrees d)) in
      ap (λ (o : Option Answer). with_held net.held (holds d bytes given) (notices_past o d (reading_of bytes) s)) host
      ∙ held-by told keeps changes (ready.waits d) (ready.agrees d) (all-stand old) (answer_of_host d bytes net) refl

  -- ---- The whole

  stays-shown : Tells → Conforming new → new.given ≡ old.given → ChangesJoined Tells d bytes old new net now_net (Ok given) → Ready old net → ExchangeShown old.given.declared d bytes old new net now_net given
  unfolding play
  stays-shown told keeps same_given changes ready = record {
    lost = false;
    left = [];
    leaves = leaves-none old new net now_net changes.left (changes.losses told);
    played = λ losing before.
        ap (λ (p : Answer × List Place). (p.0, record { places = p.1; held = with_held net.held (holds d bytes p.0) (notices_at (switch_at d (shown_places old.given.declared (shown_by net) (state old))) d bytes); losing = losing; inner = []; left = before }))
        (answered-shown told keeps same_given changes ready)
        ∙ ap₂ (λ (held : HeldBack) (left : List Event). (given, record { places = shown_places old.given.declared (shown_by now_net) (state new); held = held; losing = losing; inner = []; left = left }))
        (held-shown told keeps changes ready) (sym (append-nil before));
  }

  lost-played : (s : SwitchState) → switch_of d (state old) ≡ Some s → is_declared d old.given.declared ≡ true → AreDeclaredFrom 1 old.given.declared → GoesOut d [] old new → now_net ≡ record (lost_net d net) { xid = now_net.xid } → (losing : List Bool) (before : List Event)
      → play (shown_play old.given.declared old net (true ∷ losing) before) d bytes ≡ (Unknown, shown_play old.given.declared new now_net losing (before ++ leave_event (corrected_switch (shown_by net d) s) ∷ []))
  unfolding play shown_places
  lost-played s is there are out net_is losing before =
      let declared = old.given.declared in
      let mine = corrected_switch (shown_by net d) s in
      let ps = places (shown_switch (shown_by net) (state old)) declared in
      let at : switch_at d ps ≡ Some mine = switch_at-shown declared net.views (state old) d (all-stand old) ∙ ap (option_map (corrected_switch (shown_by net d))) is in
      ap (λ (o : Option SwitchState). playing true o (record { places = ps; held = net.held; losing = losing; inner = []; left = before }) d bytes) at
      ∙ ap₂ (λ (qs : List Place) (held : HeldBack). (Unknown, record { places = qs; held = held; losing = losing; inner = []; left = before ++ leave_event mine ∷ [] }))
      (lost-places d [] s old new net now_net is out net_is declared are there) (sym (ap (λ (n : NetState). n.held) net_is))

  lost-shown : Tells → Conforming new → Continues Tells old new → ChangesLost Tells d old new net now_net → given ≡ Unknown → Ready old net → ExchangeShown old.given.declared d bytes old new net now_net given
  lost-shown told keeps later changes unknown ready =
      let there = joined-stays (switch_of d (state old)) (ready-joined old net ready d changes.viewed) in
      let out = changes.is_lost.out told (ready-joined old net ready d changes.viewed) in
      let s = there.switch in
      let number = (switch-in_time old (Conforming-before told later keeps) d s there.stands).number in
      let declared = declared_of d old.given.declared (state old) (all-stand old) s there.stands in
      record {
        lost = true;
        left = leave_event (corrected_switch (shown_by net d) s) ∷ [];
        leaves = lost-leaves d [] s old new net now_net there.stands out changes.net_is (shown_by net d) number ready;
        played = λ losing before.
            lost-played s there.stands declared (declared_before old new later.given keeps) out changes.net_is losing before
            ∙ ap (λ (a : Answer). (a, shown_play old.given.declared new now_net losing (before ++ leave_event (corrected_switch (shown_by net d) s) ∷ []))) (sym unknown);
      }

  -- A message that was answered: the reference controller answers the same and loses its switch there or not, and its switches stand then as
  -- the world's do.
  pub exchange-shown : Tells → Conforming new → Changes Tells d bytes old new net now_net (Ok given) → Ready old net → ExchangeShown old.given.declared d bytes old new net now_net given
  exchange-shown told keeps changes ready = elim changes.answered [
    | inl stays ↦ stays-shown told keeps changes.continues.given stays ready
    | inr lost ↦ lost-shown told keeps changes.continues lost.2 (one_answer given Unknown lost.1) ready
  ]
    where
      as_result : Answer → Result Answer TxnFault
      as_result a = Ok a

      one_answer : (a b : Answer) → as_result a ≡ as_result b → a ≡ b
      one_answer a b h = cc
