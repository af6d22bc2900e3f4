-- What the engine knows after a stimulus of one switch, joined or not, and of several, one after the other.
use Rattle.std.proofs.Common.{◌≡◌, ◌≢◌, ◌==◌, ℕ, ◌+◌, ◌<◌, true, false, List, [], ◌∷◌, ◌++◌, map, Option, Some, None, refl, sym, ap, ap₂, ◌∙◌, subst, inl, inr, arith, append_assoc}
use Rattle.std.proofs.lemmas.Bool.{cases_Bool, eq-eqb, ne_eqb}
use Rattle.std.proofs.lemmas.List.{append-nil}
use Rattle.std.specs.List.{AllByRecursion, flat_map}
use Rattle.std.specs.Option.{option_map}
use Rattle.std.proofs.lemmas.Option.{same_Some}
use Rattle.of_types.specs.declared.port_desc.PortDesc.{PortDesc}
use Rattle.of_types.specs.declared.journal.Stimulus.{Stimulus}
use Rattle.of_types.specs.declared.journal.Stimulus.TheVariants.{Frame, Advance, Port, Counts, Raw}
use Rattle.flow_table.specs.declared.view.ViewRow.{ViewRow}
use Rattle.flow_table.specs.View.{TableView}
use Rattle.flow_table.specs.Switch.{SwitchState}
use Rattle.flow_table.specs.Step.{after_stimulus, sent_by_stimulus}
use Rattle.undo_laws.specs.CorrectedSwitch.{corrected_switch}
use Rattle.app_frames.specs.declared.frame.Event.{Event}
use Rattle.lego_model.specs.Answers.{rows_of_view}
use Rattle.lego_model.specs.Events.{events_of}
use Rattle.lego_model.specs.Controller.{sent_events}
use Rattle.outside.specs.declared.step.WorldStep.{WorldStep}
use Rattle.outside.specs.declared.step.WorldStep.TheVariants.{From}
use Rattle.outside.specs.State.{Link, link_of, stimulus_sends, declared_in}
use Rattle.outside.specs.Conforming.{AreDeclaredFrom}
use Rattle.net_txn.specs.Views.{rows_at}
use Rattle.switch_laws.specs.Shown.{rows_or_none, correction_in}
use Rattle.batch_laws.specs.Knowledge.{Knowledge, handled, handled_all}
use Rattle.batch_laws.specs.Calm.{known_ports}
use Rattle.batch_laws.specs.Tells.{SwitchHandled, SwitchKnown}
use Rattle.batch_laws.specs.laws.FrameTellLaws.{frame-switch, counts-switch, raw-switch}
use Rattle.batch_laws.specs.laws.PortTellLaws.{port-switch}
use Rattle.batch_laws.specs.laws.NoticeTellLaws.{advance-switch}
use Rattle.batch_laws.specs.LinkTells.{Happens, StandsWell, KnownIn, StandsIn, HappensIn, KnownThen, SwitchStep, items_of, seen_events, LinkReady, LinkThen, LinksStep}
use Rattle.lego_model.specs.Places.{table_rows}

-- ---- A switch that is joined

-- After a stimulus the engine knows of the switch what is so then.
pub stimulus-switch : (d : ℕ) (x : Stimulus) (s : SwitchState) (rows : List ViewRow) (k : Knowledge) → SwitchKnown d s rows k → StandsWell d s → Happens x
    → SwitchHandled d x s rows k (handled_all (map (From d) (sent_by_stimulus x s)) k)
stimulus-switch d (Frame port bytes) s rows k known stands may = frame-switch d port bytes s rows k known stands.table
stimulus-switch d (Advance t) s rows k known stands may = advance-switch d t s rows k known stands.table stands.sound may
stimulus-switch d (Port port change) s rows k known stands may = port-switch d port change s rows k known stands.number stands.lasts may.0 may.1
stimulus-switch d (Counts priority packets bytes) s rows k known stands may = counts-switch d priority packets bytes s rows k known
stimulus-switch d (Raw bytes) s rows k known stands may = raw-switch d bytes s rows k known may

-- ---- A switch that is joined or not

record RowsIn (s : SwitchState) (rows : Option (List ViewRow)) : Type 0 where
  list : List ViewRow
  rows_is : rows ≡ Some list
  agrees : rows_of_view list ≡ table_rows s

rows-in : (s : SwitchState) (rows : Option (List ViewRow)) → option_map rows_of_view rows ≡ Some (table_rows s) → RowsIn s rows
rows-in s None h = absurd cc
rows-in s (Some list) h = record { list = list; rows_is = refl; agrees = same_Some _ _ h }

abbrev some : {X : Type 0} → X → Option X
some x = Some x

pub switch-step : (d : ℕ) (x : Stimulus) (o : Option SwitchState) (k : Knowledge) → KnownIn o (rows_at d k.views) (known_ports d k.ports) → StandsIn d o → HappensIn x o
    → SwitchStep d x o k (handled_all (map (From d) (stimulus_sends x o)) k)
switch-step d x None k known stands may = record {
  here = record { known = known; shown = refl };
  others = λ e other. refl;
  others_ports = λ e other. refl;
  order = λ least ascend. ascend;
  queue = sym (append-nil k.queue);
  moment = refl;
}
switch-step d x (Some s) k known stands may =
    let r = rows-in s (rows_at d k.views) known.agrees in
    let h = stimulus-switch d x s r.list k (record { rows_are = r.rows_is; agrees = r.agrees; ports = known.ports }) stands may in
    record {
      here = record {
        known = record { agrees = ap (option_map rows_of_view) h.views.here ∙ ap some h.agrees; ports = h.ports };
        shown =
            ap (λ (o : Option (List ViewRow)). some (corrected_switch (correction_in (rows_or_none o)) (after_stimulus x s))) h.views.here
            ∙ ap some h.shown
            ∙ ap (λ (o : Option (List ViewRow)). some (after_stimulus x (corrected_switch (correction_in (rows_or_none o)) s))) (sym r.rows_is);
      };
      others = h.views.others;
      others_ports = h.others;
      order = h.views.order;
      queue = h.queue ∙ ap (λ (o : Option (List ViewRow)). k.queue ++ events_of d (sent_by_stimulus x (corrected_switch (correction_in (rows_or_none o)) s))) (sym r.rows_is);
      moment = h.moment;
    }

-- ---- Switches, one after the other

pub handled_all-append : (xs ys : List WorldStep) (k : Knowledge) → handled_all (xs ++ ys) k ≡ handled_all ys (handled_all xs k)
handled_all-append [] ys k = refl
handled_all-append (x ∷ xs) ys k = handled_all-append xs ys (handled x k)

-- a switch below all of them is none of them
pub link-below : (e least : ℕ) (ls : List Link) → AreDeclaredFrom least (declared_in ls) → e < least → link_of e ls ≡ None
link-below e least [] are lt = refl
link-below e least (l ∷ ls) are lt =
    let apart : (l.declared.dpid == e) ≡ false = ne_eqb l.declared.dpid e (λ same. omega (arith, same, are.0, lt)) in
    rw apart (link-below e (l.declared.dpid + 1) ls are.2 (omega (arith, are.0, lt)))

-- what the links have in common above a number
links-above : (P Q : Link → Type 0) (d least : ℕ) → d < least → ((l : Link) → l.declared.dpid ≢ d → P l → Q l) → (ls : List Link) → AreDeclaredFrom least (declared_in ls) → AllByRecursion P ls → AllByRecursion Q ls
links-above P Q d least lt each [] are h = tt
links-above P Q d least lt each (l ∷ ls) are h =
    (each l (λ same. omega (arith, same, lt, are.0)) h.0, links-above P Q d (l.declared.dpid + 1) (omega (arith, lt, are.0)) each ls are.2 h.1)

events-alike : (x : Stimulus) (before now : List TableView) (ls : List Link) → AllByRecursion (λ l. rows_at l.declared.dpid now ≡ rows_at l.declared.dpid before) ls → flat_map (seen_events x now) ls ≡ flat_map (seen_events x before) ls
events-alike x before now [] h = refl
events-alike x before now (l ∷ ls) h =
    ap₂ (λ (o : Option (List ViewRow)) es. sent_events x l.declared.dpid (option_map (corrected_switch (correction_in (rows_or_none o))) l.switch) ++ es) h.0 (events-alike x before now ls h.1)

all-links : (ls : List Link) → AllByRecursion (λ (l : Link). Unit {0}) ls
all-links [] = tt
all-links (l ∷ ls) = (tt, all-links ls)

none_other : (d e : ℕ) (l : Link) (ls : List Link) → link_of e (l ∷ ls) ≡ None → l.declared.dpid ≡ d → (e ≢ d) × (link_of e ls ≡ None)
none_other d e l ls none here =
    elim (cases_Bool (l.declared.dpid == e)) [
      | inl same ↦ absurd (some_is_none l (rw same at none))
      | inr other ↦ ((λ equal. true_is_not (sym (eq-eqb l.declared.dpid e (here ∙ sym equal)) ∙ other)), rw other at none)
    ]
  where
    some_is_none : (l : Link) → Some l ≡ None → ⊥
    some_is_none l h = cc

    true_is_not : true ≡ false → ⊥
    true_is_not h = cc

pub links-step : (x : Stimulus) (least : ℕ) (ls : List Link) (k : Knowledge) → AreDeclaredFrom least (declared_in ls) → AllByRecursion (LinkReady x k) ls → LinksStep x ls k (handled_all (flat_map (items_of x) ls) k)
links-step x least [] k are ready = record {
  each = tt;
  others = λ e none. refl;
  others_ports = λ e none. refl;
  order = λ from ascend. ascend;
  queue = sym (append-nil k.queue);
  moment = refl;
}
links-step x least (l ∷ ls) k are ready =
    let d = l.declared.dpid in
    let middle : Knowledge = handled_all (items_of x l) k in
    let now : Knowledge = handled_all (flat_map (items_of x) ls) middle in
    let first = switch-step d x l.switch k ready.0.known ready.0.stands ready.0.may in
    let later = links-above (LinkReady x k) (LinkReady x middle) d (d + 1) (omega arith) (λ m other is. record {
      known = subst (λ (o : Option (List ViewRow)). KnownIn m.switch o (known_ports m.declared.dpid middle.ports)) (sym (first.others m.declared.dpid other))
          (subst (λ (o : Option (List PortDesc)). KnownIn m.switch (rows_at m.declared.dpid k.views) o) (sym (first.others_ports m.declared.dpid other)) is.known);
      stands = is.stands;
      may = is.may;
    }) ls are.2 ready.1 in
    let rest = links-step x (d + 1) ls middle are.2 later in
    let out : link_of d ls ≡ None = link-below d (d + 1) ls are.2 (omega arith) in
    let head : LinkThen x k now l = record {
      here = subst (λ (o : Option (List ViewRow)). KnownThen x l.switch (rows_at d k.views) o (known_ports d now.ports)) (sym (rest.others d out))
          (subst (λ (o : Option (List PortDesc)). KnownThen x l.switch (rows_at d k.views) (rows_at d middle.views) o) (sym (rest.others_ports d out)) first.here);
    } in
    let tail = links-above (LinkThen x middle now) (LinkThen x k now) d (d + 1) (omega arith) (λ m other is. record {
      here = subst (λ (o : Option (List ViewRow)). KnownThen x m.switch o (rows_at m.declared.dpid now.views) (known_ports m.declared.dpid now.ports)) (first.others m.declared.dpid other) is.here;
    }) ls are.2 rest.each in
    let same = links-above (λ (m : Link). Unit {0}) (λ m. rows_at m.declared.dpid middle.views ≡ rows_at m.declared.dpid k.views) d (d + 1) (omega arith) (λ m other u. first.others m.declared.dpid other) ls are.2 (all-links ls) in
    subst (LinksStep x (l ∷ ls) k) (sym (handled_all-append (items_of x l) (flat_map (items_of x) ls) k)) (record {
      each = (head, tail);
      others = λ e none. (let apart = none_other d e l ls none refl in rest.others e apart.1 ∙ first.others e apart.0);
      others_ports = λ e none. (let apart = none_other d e l ls none refl in rest.others_ports e apart.1 ∙ first.others_ports e apart.0);
      order = λ from ascend. rest.order from (first.order from ascend);
      queue =
          rest.queue
          ∙ ap₂ (λ (q : List Event) es. q ++ es) first.queue (events-alike x k.views middle.views ls same)
          ∙ append_assoc k.queue (seen_events x k.views l) (flat_map (seen_events x k.views) ls);
      moment = rest.moment ∙ first.moment;
    })
