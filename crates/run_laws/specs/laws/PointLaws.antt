-- Laws of quiescent points: the world marks its switches before an event is first given, as the reference controller does, and the switches
-- of both agree, since the flags of the owners are all that differs.
use Rattle.std.proofs.Common.{◌≡◌, ◌==◌, ℕ, ◌+◌, ◌<◌, Bool, true, false, not, ◌&&◌, ◌||◌, List, [], ◌∷◌, ◌++◌, map, Option, Some, None, if◌then◌else◌, refl, sym, ap, ap₂, ◌∙◌, subst, arith}
use Rattle.std.proofs.lemmas.Bool.{eq-eqb, ne_eqb}
use Rattle.std.specs.List.{AllByRecursion}
use Rattle.std.specs.Option.{option_map}
use Rattle.flow_table.specs.declared.entry.Entry.{Entry}
use Rattle.flow_table.specs.declared.view.ViewRow.{ViewRow}
use Rattle.flow_table.specs.View.{TableView}
use Rattle.flow_table.specs.Switch.{Declared, SwitchState}
use Rattle.undo_laws.specs.Corrected.{IsCorrection}
use Rattle.undo_laws.specs.CorrectedSwitch.{corrected_switch, GoesAlong, GoTogether}
use Rattle.lego_model.specs.Controller.{reference_mark, marked}
use Rattle.lego_model.specs.Agreement.{AgreeTables, AgreeSwitches, AgreeAt, AgreeAll, AgreeMark, AgreeMarks}
use Rattle.outside.specs.State.{Link, State, Mark, link_of, switch_in, switch_of, mark_of, has_mark, marks_at_event, is_event as is_event_of, is_event, declared_in}
use Rattle.outside.specs.Conforming.{AreDeclaredFrom}
use Rattle.net_txn.specs.Views.{rows_at}
use Rattle.switch_laws.specs.Shown.{places, shown_places, corrections, rows_or_none, correction_in}
use Rattle.switch_laws.specs.laws.CorrectionLaws.{goes_along, go_together}

-- ---- Lists of quiescent points

pub marks_more : (qs rs : List Mark) (q r : Mark) → AgreeMarks qs rs → AgreeMark q r → AgreeMarks (qs ++ q ∷ []) (rs ++ r ∷ [])
marks_more [] [] q r all one = (one, tt)
marks_more [] (s ∷ rs) q r all one = absurd all
marks_more (p ∷ qs) [] q r all one = absurd all
marks_more (p ∷ qs) (s ∷ rs) q r all one = (all.0, marks_more qs rs q r all.1 one)

event_alike : (n : ℕ) (o : Option ℕ) → is_event n o ≡ is_event_of n o
event_alike n None = refl
event_alike n (Some m) = refl

pub marks_alike : (n : ℕ) (ms : List Mark) (qs : List Mark) → AgreeMarks ms qs → has_mark n qs ≡ has_mark n ms
marks_alike n [] [] all = refl
marks_alike n [] (q ∷ qs) all = absurd all
marks_alike n (m ∷ ms) [] all = absurd all
marks_alike n (m ∷ ms) (q ∷ qs) all =
    ap₂ (λ (a b : Bool). a || b) (event_alike n q.event ∙ ap (is_event_of n) (sym all.0.event)) (marks_alike n ms qs all.1)

-- ---- Switches

-- a table agrees with what is shown of it, if they go together
tables_alike : (shown : Entry → Entry) → IsCorrection shown → GoesAlong shown → (es : List Entry) → GoTogether shown es → AgreeTables es (map shown es)
tables_alike shown corrects along [] all = tt
tables_alike shown corrects along (e ∷ es) all = (
  record {
    key = sym (corrects.key e);
    actions = sym (corrects.actions e);
    cookie = sym (along.cookie e);
    idle = sym (along.idle e);
    used = sym (along.used e);
    hard = (all.0).hard;
  },
  tables_alike shown corrects along es all.1,
)

switch_alike : (rows : List ViewRow) (s : SwitchState) → AgreeSwitches s (corrected_switch (correction_in rows) s)
switch_alike rows s = record {
  table = tables_alike (correction_in rows) (goes_along rows).corrects (goes_along rows) s.table.entries (go_together rows s.table.entries);
  ports = refl;
  config = refl;
  lookups = refl;
  matched = refl;
}

pub at_alike : (rows : List ViewRow) (o : Option SwitchState) → AgreeAt o (option_map (corrected_switch (correction_in rows)) o)
at_alike rows None = tt
at_alike rows (Some s) = switch_alike rows s

-- ---- All declared switches, by number

abbrev Finds : List Link → Link → Type 0
Finds whole l = switch_in (link_of l.declared.dpid whole) ≡ l.switch

finds_behind : (first : Link) (whole part : List Link) (least : ℕ) → first.declared.dpid < least → AreDeclaredFrom least (declared_in part) → AllByRecursion (Finds whole) part → AllByRecursion (Finds (first ∷ whole)) part
finds_behind first whole [] least less are all = tt
finds_behind first whole (l ∷ ls) least less are all =
    let apart : (first.declared.dpid == l.declared.dpid) ≡ false = ne_eqb first.declared.dpid l.declared.dpid (λ same. omega (arith, same, less, are.0)) in
    (rw apart all.0, finds_behind first whole ls (l.declared.dpid + 1) (omega (arith, less, are.0)) are.2 all.1)

finds_all : (ls : List Link) (least : ℕ) → AreDeclaredFrom least (declared_in ls) → AllByRecursion (Finds ls) ls
finds_all [] least are = tt
finds_all (l ∷ ls) least are =
    (rw (eq-eqb l.declared.dpid l.declared.dpid refl) refl, finds_behind l ls ls (l.declared.dpid + 1) (omega arith) are.2 (finds_all ls (l.declared.dpid + 1) are.2))

all_alike : (views : List TableView) (whole part : List Link) → AllByRecursion (Finds whole) part
    → AgreeAll (map (λ l. l.switch) part) (map (λ p. p.switch) (places (λ d. option_map (corrected_switch (corrections views d)) (switch_in (link_of d whole))) (declared_in part)))
all_alike views whole [] all = tt
all_alike views whole (l ∷ ls) all =
    (subst (λ (o : Option SwitchState). AgreeAt l.switch (option_map (corrected_switch (corrections views l.declared.dpid)) o)) (sym all.0) (at_alike (rows_or_none (rows_at l.declared.dpid views)) l.switch), all_alike views whole ls all.1)

-- the switches of a mark and those that the reference controller has in their places
pub mark_alike : (event : Option ℕ) (declared : List Declared) (views : List TableView) (s : State) → declared_in s.links ≡ declared → AreDeclaredFrom 1 declared
    → AgreeMark (mark_of event s) (reference_mark event (shown_places declared (corrections views) s))
unfolding shown_places switch_of
mark_alike event declared views s so are = record {
  event = refl;
  switches = subst (λ (ds : List Declared). AgreeAll (map (λ l. l.switch) s.links) (map (λ p. p.switch) (places (λ d. option_map (corrected_switch (corrections views d)) (switch_in (link_of d s.links))) ds))) so
      (all_alike views s.links s.links (finds_all s.links 1 (subst (AreDeclaredFrom 1) (sym so) are)));
}

-- ---- Before the event of a number is first given

event_at : (n : ℕ) (declared : List Declared) (views : List TableView) (s : State) (qs : List Mark) (b : Bool) → has_mark n s.marks ≡ b → declared_in s.links ≡ declared → AreDeclaredFrom 1 declared → AgreeMarks s.marks qs
    → AgreeMarks ((if b then s.marks else s.marks ++ mark_of (Some n) s ∷ [])) (if true && not b then qs ++ reference_mark (Some n) (shown_places declared (corrections views) s) ∷ [] else qs)
event_at n declared views s qs true is so are all = all
event_at n declared views s qs false is so are all =
    marks_more s.marks qs (mark_of (Some n) s) (reference_mark (Some n) (shown_places declared (corrections views) s)) all (mark_alike (Some n) declared views s so are)

pub marks_at_events : (given : Bool) (n : ℕ) (declared : List Declared) (views : List TableView) (s : State) (qs : List Mark) → declared_in s.links ≡ declared → AreDeclaredFrom 1 declared → AgreeMarks s.marks qs
    → AgreeMarks ((if given then marks_at_event (Some n) s else s.marks)) (marked given n (shown_places declared (corrections views) s) qs)
marks_at_events true n declared views s qs so are all =
    rw (marks_alike n s.marks qs all) (event_at n declared views s qs (has_mark n s.marks) refl so are all)
marks_at_events false n declared views s qs so are all = all
