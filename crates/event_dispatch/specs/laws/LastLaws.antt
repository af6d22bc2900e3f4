-- What follows of the end of a report: its parts, one after the other, say what the whole says.
use Rattle.std.proofs.Common.{◌≡◌, ◌≢◌, ◌==◌, ℕ, zero, suc, ◌+◌, ◌^◌, ◌<◌, ◌≤◌, Bool, true, false, ◌&&◌, ◌||◌, nat_eq, List, [], ◌∷◌, ◌++◌, length, map, filter, get_or, take, drop, Option, Some, None, Ok, IsSome, if◌then◌else◌, refl, sym, ap, ap₂, ◌∙◌, subst, append_assoc, inl, inr, arith, add-one, true≢false}
use Rattle.std.proofs.lemmas.Bool.{cases_Bool, cases_eq, eq-eqb, ne_eqb, or_parts}
use Rattle.std.proofs.lemmas.List.{take_all, take_more}
use Rattle.std.specs.Cmp.Lexicographic.{pointwise}
use Rattle.std.specs.List.{flat_map}
use Rattle.std.specs.Option.{is_some, option_map}
use Rattle.of_match.specs.declared.key.Key.{Key}
use Rattle.of_stats.specs.declared.flow_row.FlowRow.{FlowRow}
use Rattle.flow_table.specs.declared.view.ViewRow.{ViewRow}
use Rattle.flow_table.specs.View.{TableView}
use Rattle.flow_table.specs.Switch.{SwitchState}
use Rattle.undo_laws.specs.CorrectedSwitch.{corrected_switch}
use Rattle.lego_model.specs.Answers.{rows_of_table, rows_of_view}
use Rattle.lego_model.specs.RunReport.{lost_line, flow_line, app_line, end_line, switch_text}
use Rattle.run_laws.specs.Engine.{Application}
use Rattle.event_dispatch.specs.laws.OfferLaws.{map_both}
use Rattle.net_txn.specs.declared.ports.KnownPorts.{KnownPorts}
use Rattle.net_txn.specs.Losing.{lost_net, lose_all}
use Rattle.of_types.specs.Membership.{is_among}
use Rattle.net_txn.specs.Net.{NetState}
use Rattle.net_txn.specs.Views.{rows_at, is_viewed, ViewsAscend}
use Rattle.net_txn.specs.laws.AgreeLaws.{viewed as viewed_rows}
use Rattle.net_txn.specs.laws.LostPartLaws.{among-append, among-last, Distinct}
use Rattle.std.proofs.Math.Bool.{or-false}
use Rattle.net_txn.specs.Asks.{Asks}
use Rattle.net_txn.specs.AskSteps.{own_rows, RowsInStep, AskSteps}
use Rattle.outside.specs.Seen.{Seen, Continues}
use Rattle.outside.specs.State.{State, state, switch_of, waits_of}
use Rattle.outside.specs.Conforming.{Conforming}
use Rattle.outside.specs.laws.StateLaws.{Conforming-before}
use Rattle.switch_laws.specs.Shown.{rows_or_none, shown_switch, shown_places, correction_in, corrections, shown_by}
use Rattle.switch_laws.specs.Since.{ports_known, Ready}
use Rattle.switch_laws.specs.laws.LossLaws.{lose_all-append, lose_all-xid, lose_all-rows, lose_all-rows_gone, lose_all-known, lose_all-known_gone, ready-joined}
use Rattle.net_txn.specs.laws.LoseAllLaws.{lose_all-moment}
use Rattle.switch_laws.specs.Sound.{Sound}
use Rattle.switch_laws.specs.laws.SoundLaws.{rows-are}
use Rattle.switch_laws.specs.laws.StandLaws.{all-stand}
use Rattle.switch_laws.specs.laws.ClockLaws.{switch-in_time, moment-within}
use Rattle.run_laws.specs.LastReport.{SameKeys, flow_lines, table_lines, shown_text, switch_left, place_lines, app_lines, engine_end, OnlyAsked}
use Rattle.run_laws.specs.laws.LastReportLaws.{keys-same, table-shown, joined-with, out-with, places-shown, asked-nothing, rows-asked, lost-asked, asked-then}
use Rattle.event_dispatch.specs.declared.engine_core.Core.{Core}
use Rattle.event_dispatch.specs.Runs.{WaitsAtEnd}
use Rattle.event_dispatch.specs.declared.run.Managed.{Managed}
use Rattle.event_dispatch.specs.declared.run.Run.{Run}
use Rattle.checkpoint_store.specs.Slots.{Slot}
use Rattle.event_dispatch.specs.Shows.{application_of, engine_with, Stays, Adds}
use Rattle.event_dispatch.specs.ReportEnd.{FindsFlags, FlowsSoFar, TableSaid, AsksShown, AsksNone, AsksAs, Says, SaysOf, TableShown, TablesShown, SameBesides, LastShown, NextRow}

-- ---- Text that is noted

nothing_more : (xs : List ℕ) → xs ++ [] ≡ xs
nothing_more [] = refl
nothing_more (x ∷ xs) = ap (λ (ys : List ℕ). x ∷ ys) (nothing_more xs)

pub stays_then : {a b c : Core} → Stays a b → Stays b c → Stays a c
stays_then one two = record { net = two.net ∙ one.net; queue = two.queue ∙ one.queue; events = two.events ∙ one.events; store = two.store ∙ one.store }

besides_then : {a b c : Core} → SameBesides a b → SameBesides b c → SameBesides a c
besides_then one two = record { queue = two.queue ∙ one.queue; events = two.events ∙ one.events; store = two.store ∙ one.store }

besides_of : {a b : Core} → Stays a b → SameBesides a b
besides_of stays = record { queue = stays.queue; events = stays.events; store = stays.store }

besides_none : (c : Core) → SameBesides c c
besides_none c = record { queue = refl; events = refl; store = refl }

pub adds_then : {first rest : List ℕ} {a b c : Core} → Adds first a b → Adds rest b c → Adds (first ++ rest) a c
adds_then {first = first} {rest = rest} {a = a} one two = record {
  stays = stays_then one.stays two.stays;
  lines = two.lines ∙ ap (λ (xs : List ℕ). xs ++ rest) one.lines ∙ append_assoc a.lines.items first rest;
}

-- ---- The rows of a switch

-- what stands where the rest of a list begins
pub drop_head : {X : Type 0} (n : ℕ) (xs : List X) (x y : X) (later : List X) → drop n xs ≡ x ∷ later → get_or xs n y ≡ x
drop_head zero [] x y later h = absurd cc
drop_head zero (z ∷ zs) x y later h = cc
drop_head (suc n) [] x y later h = absurd cc
drop_head (suc n) (z ∷ zs) x y later h = drop_head n zs x y later h

-- such a place lies in the list
pub drop_inside : {X : Type 0} (n : ℕ) (xs : List X) (x : X) (later : List X) → drop n xs ≡ x ∷ later → n < length xs
drop_inside zero [] x later h = absurd cc
drop_inside zero (z ∷ zs) x later h = omega arith
drop_inside (suc n) [] x later h = absurd cc
drop_inside (suc n) (z ∷ zs) x later h = omega (arith, drop_inside n zs x later h)

-- the next item of a list
pub drop_first : {X : Type 0} (i : ℕ) (xs : List X) (x : X) → i < length xs → x ≡ get_or xs i x → drop i xs ≡ x ∷ drop (suc i) xs
drop_first i [] x within is = absurd (omega (arith, within))
drop_first {X = X} zero (y ∷ ys) x within is = ap (λ (z : X). z ∷ ys) (sym is)
drop_first (suc i) (y ∷ ys) x within is = drop_first i ys x (omega (arith, within)) is

-- keys that are the same pass the test
same_bytes : (xs : List ℕ) → pointwise nat_eq xs xs ≡ true
same_bytes [] = refl
same_bytes (x ∷ xs) = rw (eq-eqb x x refl) (same_bytes xs)

pub key_same : (k l : Key) → k ≡ l → ((k.priority == l.priority) && pointwise nat_eq k.matching.bytes l.matching.bytes) ≡ true
key_same k l same =
    subst (λ (m : Key). ((k.priority == m.priority) && pointwise nat_eq k.matching.bytes m.matching.bytes) ≡ true) same (rw (eq-eqb k.priority k.priority refl) (same_bytes k.matching.bytes))

next_row : (row : FlowRow) (ws : List ViewRow) (rest : List FlowRow) → SameKeys (row ∷ rest) ws → NextRow row ws rest
next_row row [] rest h = absurd h
next_row row (v ∷ vs) rest h = record { first = v; later = vs; split = refl; key = h.0; same = h.1 }

same_drop : (n : ℕ) (rows : List FlowRow) (vs : List ViewRow) → SameKeys rows vs → SameKeys (drop n rows) (drop n vs)
same_drop zero rows vs h = h
same_drop (suc n) [] [] h = h
same_drop (suc n) [] (v ∷ vs) h = absurd h
same_drop (suc n) (row ∷ rows) [] h = absurd h
same_drop (suc n) (row ∷ rows) (v ∷ vs) h = same_drop n rows vs h.1

flow_lines-more : (n : ℕ) (rows : List FlowRow) (vs : List ViewRow) (row : FlowRow) (v : ViewRow) (more : List FlowRow) (later : List ViewRow) → drop n rows ≡ row ∷ more → drop n vs ≡ v ∷ later
    → flow_lines (take (suc n) rows) vs ≡ flow_lines (take n rows) vs ++ flow_line row v.flags
flow_lines-more zero [] vs row v more later h g = absurd cc
flow_lines-more zero (x ∷ rows) [] row v more later h g = absurd cc
flow_lines-more zero (x ∷ rows) (w ∷ vs) row v more later h g =
    let one : x ≡ row = cc in
    let two : w ≡ v = cc in
    rw (one, two) (nothing_more (flow_line row v.flags))
flow_lines-more (suc n) [] vs row v more later h g = absurd cc
flow_lines-more (suc n) (x ∷ rows) [] row v more later h g = absurd cc
flow_lines-more (suc n) (x ∷ rows) (w ∷ vs) row v more later h g =
    ap (λ (text : List ℕ). flow_line x w.flags ++ text) (flow_lines-more n rows vs row v more later h g)
    ∙ sym (append_assoc (flow_line x w.flags) (flow_lines (take n rows) vs) (flow_line row v.flags))

first_of : (p q : ℕ × ℕ) → p ≡ q → p.0 ≡ q.0
first_of p q h = ap (λ (r : ℕ × ℕ). r.0) h

second_of : (p q : ℕ × ℕ) → p ≡ q → p.1 ≡ q.1
second_of p q h = ap (λ (r : ℕ × ℕ). r.1) h

pub flows_next : (rows : List FlowRow) (vs : List ViewRow) (place from : ℕ) (row : FlowRow) (more : List FlowRow) (found : ℕ × ℕ) (a b c : Core) → SameKeys rows vs → drop place rows ≡ row ∷ more → FlowsSoFar rows vs place from a b
    → FindsFlags from row.key vs found → Adds (flow_line row found.0) b c → FlowsSoFar rows vs (place + 1) found.1 a c
flows_next rows vs place from row more found a b c same is so finds adds =
    let there = next_row row (drop place vs) more (subst (λ (rs : List FlowRow). SameKeys rs (drop place vs)) is (same_drop place rows vs same)) in
    let here = finds.here there.first there.later (ap (λ (n : ℕ). drop n vs) so.from_is ∙ there.split) there.key in
    let line : found.0 ≡ there.first.flags = first_of found (there.first.flags, from + 1) here in
    record {
      from_is = second_of found (there.first.flags, from + 1) here ∙ ap (λ (n : ℕ). n + 1) so.from_is;
      adds = subst (λ (text : List ℕ). Adds text a c)
          (ap (λ (n : ℕ). flow_lines (take place rows) vs ++ flow_line row n) line ∙ sym (flow_lines-more place rows vs row there.first more there.later is there.split) ∙ ap (λ (n : ℕ). flow_lines (take n rows) vs) (sym (add-one place)))
          (adds_then so.adds adds);
    }

-- ---- What is asked for leaves all but the transaction id and what is kept

pub net_stays : (net now_net : NetState) (x : ℕ) → now_net ≡ record net { xid = x; kept = now_net.kept } → now_net ≡ record net { xid = now_net.xid; kept = now_net.kept }
net_stays net now_net x h = h ∙ ap (λ (y : ℕ). record net { xid = y; kept = now_net.kept }) (sym (ap (λ (n : NetState). n.xid) h))

-- rows were asked for
pub asks_as : {Own : Type 0} (Tells : Type 0) (d : ℕ) (old new : Seen Own) (r : Core) (net : NetState) (rows : Option (List FlowRow)) → Asks Tells d old new r.net net (Ok rows) → AskSteps Tells d old new r.net.kept net.kept (Ok rows) → AsksAs Tells d old new r (record r { net = net }) rows
asks_as Tells d old new r net (Some rows) asks steps = record {
  in_step = steps;
  asked = λ told. rows-asked Tells d r.net.xid old new r.net.kept net.kept rows told asks.asks.answer;
  net = net_stays r.net net _ asks.asks.stays;
  same = record { queue = refl; events = refl; store = refl };
  lines = refl;
}
asks_as Tells d old new r net None asks steps = record {
  lost = asks.asks;
  asked = λ told keeps joined. lost-asked Tells d old new r.net net told keeps joined asks.continues asks.links asks.no_strays asks.asks;
  same = record { queue = refl; events = refl; store = refl };
  lines = refl;
}

pub asks_wait : {Own : Type 0} {Tells : Type 0} {d : ℕ} {old new : Seen Own} (r : Core) (net : NetState) (rows : Option (List FlowRow)) → Asks Tells d old new r.net net (Ok rows) → WaitsAtEnd r (record r { net = net })
asks_wait r net (Some rows) asks = record { room = ap (λ (n : NetState). n.room) asks.asks.stays; events = refl; store = refl }
asks_wait r net None asks = record { room = ap (λ (n : NetState). n.room) asks.asks.net_is; events = refl; store = refl }

pub views_kept : {text : List ℕ} {r now_r : Core} (d : ℕ) (vs : List ViewRow) → Adds text r now_r → rows_at d r.net.views ≡ Some vs → rows_at d now_r.net.views ≡ Some vs
views_kept d vs adds is = ap (λ (n : NetState). rows_at d n.views) adds.stays.net ∙ is

-- ---- A switch in a world that keeps its word

pub some_is : (o : Option (List ViewRow)) → IsSome o → (vs : List ViewRow) × (o ≡ Some vs)
some_is None h = absurd cc
some_is (Some vs) h = (vs, refl)

shown_here : (views : List TableView) (s : State) (d : ℕ) (x : SwitchState) → switch_of d s ≡ Some x → shown_text [] views s d ≡ switch_text (Some (corrected_switch (corrections views d) x))
shown_here views s d x is = rw is refl

in_step_says : {Own : Type 0} (d : ℕ) (s : SwitchState) (old new : Seen Own) (r mid now_r : Core) (rows : List FlowRow) (text : List ℕ) → ((e : ℕ) → waits_of e (state old) ≡ []) → switch_of d (state old) ≡ Some s
    → mid.net ≡ record r.net { xid = mid.net.xid; kept = mid.net.kept } → SameBesides r mid → mid.lines.items ≡ r.lines.items
    → RowsInStep d s old new r.net.kept mid.net.kept rows → OnlyAsked [] old new → Adds text mid now_r → Says [] text old new r now_r
in_step_says d s old new r mid now_r rows text none is net same lines step asked adds =
    let xid : mid.net.xid ≡ now_r.net.xid = sym (ap (λ (n : NetState). n.xid) adds.stays.net) in
    record {
      lines = adds.lines ∙ ap (λ (xs : List ℕ). xs ++ text) lines;
      net = adds.stays.net ∙ net ∙ ap₂ (λ (x : ℕ) (k : List (ℕ × List ℕ)). record r.net { xid = x; kept = k }) xid step.kept_is;
      same = besides_then same (besides_of adds.stays);
      switches = λ e. elim (cases_eq e d) [
        | inl same ↦ ap (λ (n : ℕ). switch_of n (state new)) same ∙ step.stays ∙ sym is ∙ ap (λ (n : ℕ). switch_of n (state old)) (sym same)
        | inr other ↦ step.others e other
      ];
      waits = λ e. elim (cases_eq e d) [
        | inl same ↦ ap (λ (n : ℕ). waits_of n (state new)) same ∙ step.waits
        | inr other ↦ step.others_wait e other ∙ none e
      ];
      asked = asked;
    }

told_table : {Own : Type 0} (Tells : Type 0) (d : ℕ) (vs : List ViewRow) (old new : Seen Own) (r mid now_r : Core) (rows : List FlowRow) → rows_at d r.net.views ≡ Some vs → Continues Tells old new → AsksShown Tells d old new r mid rows → TableSaid d rows mid now_r
    → Tells → Conforming new → Ready old r.net → Sound (state old) → Says [] (shown_text [] r.net.views (state old) d) old new r now_r
told_table Tells d vs old new r mid now_r rows is continues asks said told keeps ready sound =
    let j = joined-with d r.net.views (state old) vs (ready.agrees d) is in
    let before : Conforming old = Conforming-before told continues keeps in
    let time = switch-in_time old before d j.switch j.stands in
    let small = subst (λ (n : ℕ). n < 2 ^ 32) (sym time.moment_is) (moment-within old before) in
    let step = asks.in_step j.switch told keeps j.stands (ready.waits d) in
    let own : rows ≡ own_rows j.switch = step.same_rows (rows-are j.switch (sound.entries d j.switch j.stands) small) in
    let same : SameKeys rows vs = subst (λ (rs : List FlowRow). SameKeys rs vs) (sym own) (keys-same j.switch.moment j.switch.table.entries vs j.rows) in
    let there : rows_at d mid.net.views ≡ Some vs = ap (λ (n : NetState). rows_at d n.views) asks.net ∙ is in
    let text : table_lines d rows vs ≡ shown_text [] r.net.views (state old) d =
    ap (λ (rs : List FlowRow). table_lines d rs vs) own ∙ table-shown d r.net.views vs j.switch is j.rows ((all-stand old).table d j.switch j.stands) time.number ∙ sym (shown_here r.net.views (state old) d j.switch j.stands)
    in
    in_step_says d j.switch old new r mid now_r rows (shown_text [] r.net.views (state old) d) ready.waits j.stands asks.net asks.same asks.lines step (asks.asked told) (subst (λ (t : List ℕ). Adds t mid now_r) text (said.adds vs there same))

-- where it is lost that is told, and it is out
said_lost : (d : ℕ) (lost : List ℕ) (views : List TableView) (s : State) → is_among d lost ≡ true → shown_text lost views s d ≡ lost_line d
said_lost d lost views s gone = rw gone refl

left_out : (lost : List ℕ) (s : State) (d : ℕ) → is_among d lost ≡ true → switch_left lost s d ≡ None
left_out lost s d gone = rw gone refl

left_in : (lost : List ℕ) (s : State) (d : ℕ) → is_among d lost ≡ false → switch_left lost s d ≡ switch_of d s
left_in lost s d here = rw here refl

only_first : (d e : ℕ) → e ≢ d → is_among e (d ∷ []) ≡ false
only_first d e other = rw (ne_eqb d e (λ same. other (sym same))) refl

or_none : (a : Bool) → a ≡ false → (a || false) ≡ false
or_none a is = rw is refl

-- where none is lost
says-of : {Own : Type 0} (ds : List ℕ) (text : List ℕ → List ℕ) (old new : Seen Own) (r now_r : Core) → Says [] (text []) old new r now_r → SaysOf ds text old new r now_r
says-of ds text old new r now_r says = record { lost = []; among = λ e none. refl; says = says }

-- a switch that has a view
pub table_told : {Own : Type 0} {Tells : Type 0} {d : ℕ} {old new : Seen Own} {r mid now_r : Core} {rows : List FlowRow} → IsSome (rows_at d r.net.views) → Continues Tells old new → AsksShown Tells d old new r mid rows → TableSaid d rows mid now_r
    → TableShown Tells d old new r now_r
table_told {Tells = Tells} {d = d} {old = old} {new = new} {r = r} {mid = mid} {now_r = now_r} {rows = rows} joined continues asks said =
    let vs = some_is (rows_at d r.net.views) joined in
    record {
      shown = λ told keeps ready sound.
          says-of (d ∷ []) (λ lost. shown_text lost r.net.views (state old) d) old new r now_r (told_table Tells d vs.0 old new r mid now_r rows vs.1 continues asks said told keeps ready sound);
    }

-- a switch that is lost meanwhile
lost_says : {Own : Type 0} (Tells : Type 0) (d : ℕ) (old new : Seen Own) (r mid now_r : Core) → IsSome (rows_at d r.net.views) → AsksNone Tells d old new r mid → Adds (lost_line d) mid now_r → Tells → Conforming new → Ready old r.net
    → Says (d ∷ []) (shown_text (d ∷ []) r.net.views (state old) d) old new r now_r
lost_says Tells d old new r mid now_r there asks adds told keeps ready =
    let vs = some_is (rows_at d r.net.views) there in
    let viewed : is_viewed d r.net.views ≡ true = viewed_rows d r.net.views ∙ ap (λ (o : Option (List ViewRow)). is_some o) vs.1 in
    let joined = ready-joined old r.net ready d viewed in
    let out = asks.lost.is_lost.out told joined in
    let xid : mid.net.xid ≡ now_r.net.xid = sym (ap (λ (n : NetState). n.xid) adds.stays.net) in
    let here : is_among d (d ∷ []) ≡ true = rw (eq-eqb d d refl) refl in
    record {
      lines = adds.lines ∙ ap₂ (λ (xs ys : List ℕ). xs ++ ys) asks.lines (sym (said_lost d (d ∷ []) r.net.views (state old) here));
      net = adds.stays.net ∙ asks.lost.net_is ∙ ap (λ (x : ℕ). record (lost_net d r.net) { xid = x }) xid;
      same = besides_then asks.same (besides_of adds.stays);
      switches = λ e. elim (cases_eq e d) [
        | inl same ↦ subst (λ (n : ℕ). switch_of n (state new) ≡ switch_left (d ∷ []) (state old) n) (sym same) (out.out ∙ sym (left_out (d ∷ []) (state old) d here))
        | inr other ↦ out.others e other ∙ sym (left_in (d ∷ []) (state old) e (only_first d e other))
      ];
      waits = λ e. elim (cases_eq e d) [
        | inl same ↦ ap (λ (n : ℕ). waits_of n (state new)) same ∙ out.waits
        | inr other ↦ out.others_wait e other ∙ ready.waits e
      ];
      asked = asks.asked told keeps joined;
    }

pub table_lost : {Own : Type 0} {Tells : Type 0} {d : ℕ} {old new : Seen Own} {r mid now_r : Core} → IsSome (rows_at d r.net.views) → AsksNone Tells d old new r mid → Adds (lost_line d) mid now_r → TableShown Tells d old new r now_r
table_lost {Tells = Tells} {d = d} {old = old} {new = new} {r = r} {mid = mid} {now_r = now_r} there asks adds = record {
  shown = λ told keeps ready sound. record { lost = d ∷ []; among = λ e none. none; says = lost_says Tells d old new r mid now_r there asks adds told keeps ready };
}

-- one that has none
pub table_out : {Own : Type 0} (Tells : Type 0) (d : ℕ) (seen : Seen Own) (r : Core) → rows_at d r.net.views ≡ None → TableShown Tells d seen seen r r
table_out Tells d seen r out = record {
  shown = λ told keeps ready sound.
      let none : shown_text [] r.net.views (state seen) d ≡ [] = rw (out-with d r.net.views (state seen) (ready.agrees d) out) refl in
      says-of (d ∷ []) (λ lost. shown_text lost r.net.views (state seen) d) seen seen r r
      (record { lines = sym (nothing_more r.lines.items) ∙ ap (λ (text : List ℕ). r.lines.items ++ text) (sym none); net = refl; same = besides_none r; switches = λ e. refl; waits = ready.waits; asked = asked-nothing seen });
}

-- ---- Switches, one after the other

-- of none at all
pub tables_none : {Own : Type 0} (Tells : Type 0) (seen : Seen Own) (r : Core) → TablesShown Tells [] seen seen r r
tables_none Tells seen r = record {
  shown = λ apart told keeps ready sound.
      says-of [] (λ lost. flat_map (shown_text lost r.net.views (state seen)) []) seen seen r r
      (record { lines = sym (nothing_more r.lines.items); net = refl; same = besides_none r; switches = λ e. refl; waits = ready.waits; asked = asked-nothing seen });
}

left_twice : (a b : Bool) (o : Option SwitchState) → (if b then None else (if a then None else o)) ≡ (if a || b then None else o)
left_twice true true o = refl
left_twice true false o = refl
left_twice false true o = refl
left_twice false false o = refl

left_then : {Own : Type 0} (lost more : List ℕ) (old mid : Seen Own) (d : ℕ) → switch_of d (state mid) ≡ switch_left lost (state old) d → switch_left more (state mid) d ≡ switch_left (lost ++ more) (state old) d
left_then lost more old mid d is =
    ap (λ (o : Option SwitchState). if is_among d more then None else o) is
    ∙ left_twice (is_among d lost) (is_among d more) (switch_of d (state old))
    ∙ ap (λ (b : Bool). if b then None else switch_of d (state old)) (sym (among-append d lost more))

says_then : {Own : Type 0} (lost more first rest : List ℕ) (old mid new : Seen Own) (a b c : Core) → Says lost first old mid a b → Says more rest mid new b c → Says (lost ++ more) (first ++ rest) old new a c
says_then lost more first rest old mid new a b c one two = record {
  lines = two.lines ∙ ap (λ (xs : List ℕ). xs ++ rest) one.lines ∙ append_assoc a.lines.items first rest;
  net = two.net ∙ ap (λ (n : NetState). record (lose_all more n) { xid = c.net.xid }) one.net
      ∙ ap (λ (n : NetState). record n { xid = c.net.xid }) (lose_all-xid more (lose_all lost a.net) b.net.xid)
      ∙ ap (λ (n : NetState). record n { xid = c.net.xid }) (sym (lose_all-append lost more a.net));
  same = besides_then one.same two.same;
  switches = λ d. two.switches d ∙ left_then lost more old mid d (one.switches d);
  waits = two.waits;
  asked = asked-then lost more old mid new one.asked two.asked;
}

flat_map-last : (f : ℕ → List ℕ) (xs : List ℕ) (x : ℕ) → flat_map f (xs ++ x ∷ []) ≡ flat_map f xs ++ f x
flat_map-last f [] x = nothing_more (f x)
flat_map-last f (y ∷ ys) x = ap (λ (text : List ℕ). f y ++ text) (flat_map-last f ys x) ∙ sym (append_assoc (f y) (flat_map f ys) (f x))

-- what is known then is known of the switches that were not lost
says_views : {Own : Type 0} {lost text : List ℕ} {old mid : Seen Own} {a b : Core} (d : ℕ) → is_among d lost ≡ false → Says lost text old mid a b → rows_at d b.net.views ≡ rows_at d a.net.views
says_views {lost = lost} {a = a} {b = b} d here says = ap (λ (n : NetState). rows_at d n.views) says.net ∙ lose_all-rows lost d a.net here

says_shown : {Own : Type 0} {lost text : List ℕ} {old mid : Seen Own} {a b : Core} (d : ℕ) → is_among d lost ≡ false → Says lost text old mid a b → shown_switch (shown_by b.net) (state mid) d ≡ shown_switch (shown_by a.net) (state old) d
says_shown {lost = lost} {old = old} {mid = mid} {a = a} {b = b} d here says =
    ap₂ (λ (o : Option (List ViewRow)) (x : Option SwitchState). option_map (corrected_switch (correction_in (rows_or_none o))) x) (says_views d here says) (says.switches d ∙ left_in lost (state old) d here)

-- after what was said all is as ready and as sound
pub says_ready : {Own : Type 0} {lost text : List ℕ} {old mid : Seen Own} {a b : Core} → Says lost text old mid a b → Ready old a.net → Ready mid b.net
says_ready {lost = lost} {old = old} {mid = mid} {a = a} {b = b} says ready =
    let net : (f : NetState → List KnownPorts) → f b.net ≡ f (record (lose_all lost a.net) { xid = b.net.xid }) = λ f. ap f says.net in
    record {
      waits = says.waits;
      agrees = λ d. elim (cases_Bool (is_among d lost)) [
        | inl gone ↦
            ap (option_map rows_of_view) (ap (λ (n : NetState). rows_at d n.views) says.net ∙ lose_all-rows_gone lost d a.net gone)
            ∙ sym (ap (option_map (λ x. rows_of_table x.table.entries)) (says.switches d ∙ left_out lost (state old) d gone))
        | inr here ↦
            ap (option_map rows_of_view) (says_views d here says) ∙ ready.agrees d ∙ sym (ap (option_map (λ x. rows_of_table x.table.entries)) (says.switches d ∙ left_in lost (state old) d here))
      ];
      known = λ d. net (λ n. filter (λ k. k.dpid == d) n.ports) ∙ elim (cases_Bool (is_among d lost)) [
        | inl gone ↦ lose_all-known_gone lost d a.net gone ∙ sym (ap (ports_known d) (says.switches d ∙ left_out lost (state old) d gone))
        | inr here ↦ lose_all-known lost d a.net here ∙ ready.known d ∙ sym (ap (ports_known d) (says.switches d ∙ left_in lost (state old) d here))
      ];
    }

pub says_sound : {Own : Type 0} {lost text : List ℕ} {old mid : Seen Own} {a b : Core} → Says lost text old mid a b → Sound (state old) → Sound (state mid)
says_sound {lost = lost} {old = old} says sound = record {
  entries = λ d x is. elim (cases_Bool (is_among d lost)) [
    | inl gone ↦ absurd (no_switch x (sym (says.switches d ∙ left_out lost (state old) d gone) ∙ is))
    | inr here ↦ sound.entries d x (sym (says.switches d ∙ left_in lost (state old) d here) ∙ is)
  ];
}
  where
    no_switch : (x : SwitchState) → None ≡ Some x → ⊥
    no_switch x h = cc

same_texts : (f g : ℕ → List ℕ) (ds : List ℕ) → ((d : ℕ) → is_among d ds ≡ true → f d ≡ g d) → flat_map f ds ≡ flat_map g ds
same_texts f g [] same = refl
same_texts f g (d ∷ ds) same =
    ap₂ (λ (xs ys : List ℕ). xs ++ ys) (same d (rw (eq-eqb d d refl) refl)) (same_texts f g ds (λ e is. same e (later e is)))
  where
    later : (e : ℕ) → is_among e ds ≡ true → is_among e (d ∷ ds) ≡ true
    later e is = elim (cases_Bool (d == e)) [
      | inl here ↦ rw here refl
      | inr other ↦ rw other is
    ]

distinct-front : (ds : List ℕ) (d : ℕ) → Distinct (ds ++ d ∷ []) → Distinct ds × (is_among d ds ≡ false)
distinct-front [] d apart = (tt, refl)
distinct-front (e ∷ es) d apart =
    let rest = distinct-front es d apart.1 in
    let n = or_parts (is_among e es) (d == e) (sym (among-last e d es) ∙ apart.0) in
    ((n.0, rest.0), rw (ne_eqb e d (λ same. true≢false (sym (eq-eqb d e (sym same)) ∙ n.1))) rest.1)

-- a switch that is among those before is not the last one
not_last : (ds : List ℕ) (d e : ℕ) → is_among d ds ≡ false → is_among e ds ≡ true → e ≢ d
not_last ds d e none is same = true≢false (sym is ∙ ap (λ (n : ℕ). is_among n ds) same ∙ none)

module _ {Own : Type 0} (ds : List ℕ) (d : ℕ) (old mid new : Seen Own) (a b c : Core) (none : is_among d ds ≡ false)
    (one : SaysOf ds (λ lost. flat_map (shown_text lost a.net.views (state old)) ds) old mid a b) (two : SaysOf (d ∷ []) (λ lost. shown_text lost b.net.views (state mid) d) mid new b c) where
  both_lost : List ℕ
  both_lost = one.lost ++ two.lost

  -- the others of which it was told before
  before_same : (e : ℕ) → is_among e ds ≡ true → is_among e both_lost ≡ is_among e one.lost
  unfolding both_lost
  before_same e is = among-append e one.lost two.lost ∙ ap (λ (b : Bool). is_among e one.lost || b) (two.among e (only_first d e (not_last ds d e none is))) ∙ or-false (is_among e one.lost)

  last_same : is_among d both_lost ≡ is_among d two.lost
  unfolding both_lost
  last_same = among-append d one.lost two.lost ∙ ap (λ (b : Bool). b || is_among d two.lost) (one.among d none)

  text_before : (e : ℕ) → is_among e ds ≡ true → shown_text one.lost a.net.views (state old) e ≡ shown_text both_lost a.net.views (state old) e
  text_before e is = ap (λ (b : Bool). if b then lost_line e else switch_text (shown_switch (shown_by a.net) (state old) e)) (sym (before_same e is))

  text_last : shown_text two.lost b.net.views (state mid) d ≡ shown_text both_lost a.net.views (state old) d
  text_last =
      ap (λ (o : Option SwitchState). if is_among d two.lost then lost_line d else switch_text o) (says_shown d (one.among d none) one.says)
      ∙ ap (λ (b : Bool). if b then lost_line d else switch_text (shown_switch (shown_by a.net) (state old) d)) (sym last_same)

  says_more : SaysOf (ds ++ d ∷ []) (λ lost. flat_map (shown_text lost a.net.views (state old)) (ds ++ d ∷ [])) old new a c
  unfolding both_lost
  says_more = record {
    lost = both_lost;
    among = λ e out.
        let n = or_parts (is_among e ds) (d == e) (sym (among-last e d ds) ∙ out) in
        among-append e one.lost two.lost ∙ ap₂ (λ (p q : Bool). p || q) (one.among e n.0) (two.among e (or_none (d == e) n.1));
    says = subst (λ (t : List ℕ). Says both_lost t old new a c)
        (ap₂ (λ (xs ys : List ℕ). xs ++ ys) (same_texts (shown_text one.lost a.net.views (state old)) (shown_text both_lost a.net.views (state old)) ds text_before) text_last
        ∙ sym (flat_map-last (shown_text both_lost a.net.views (state old)) ds d))
        (says_then one.lost two.lost (flat_map (shown_text one.lost a.net.views (state old)) ds) (shown_text two.lost b.net.views (state mid) d) old mid new a b c one.says two.says);
  }

pub tables_next : {Own : Type 0} (Tells : Type 0) (ds : List ℕ) (d : ℕ) (old mid new : Seen Own) (a b c : Core) → TablesShown Tells ds old mid a b → Continues Tells mid new → TableShown Tells d mid new b c → TablesShown Tells (ds ++ d ∷ []) old new a c
tables_next Tells ds d old mid new a b c first continues next = record {
  shown = λ apart told keeps ready sound.
      let n = distinct-front ds d apart in
      let one = first.shown n.0 told (Conforming-before told continues keeps) ready sound in
      says_more ds d old mid new a b c n.1 one (next.shown told keeps (says_ready one.says ready) (says_sound one.says sound));
}

-- ---- The lines of applications, one after the other

lines_both : (xs ys : List Application) → app_lines (xs ++ ys) ≡ app_lines xs ++ app_lines ys
lines_both [] ys = refl
lines_both (a ∷ xs) ys = ap (λ (text : List ℕ). app_line a.rule.name a.alive a.done a.failed ++ text) (lines_both xs ys) ∙ sym (append_assoc (app_line a.rule.name a.alive a.done a.failed) (app_lines xs) (app_lines ys))

pub lines_next : (r a b : Core) (apps : List Managed) (i : ℕ) (m : Managed) → i < length apps → m ≡ get_or apps i m → Adds (app_lines (map (application_of r.store) (take i apps))) r a → Adds (app_lines (application_of a.store m ∷ [])) a b → Adds (app_lines (map (application_of r.store) (take (i + 1) apps))) r b
lines_next r a b apps i m less is first one =
    subst (λ (t : List ℕ). Adds t r b)
    (ap (λ (slots : List Slot). app_lines (map (application_of r.store) (take i apps)) ++ app_lines (application_of slots m ∷ [])) first.stays.store
    ∙ sym (lines_both (map (application_of r.store) (take i apps)) (application_of r.store m ∷ []))
    ∙ ap (λ (items : List Application). app_lines items) (sym (map_both (application_of r.store) (take i apps) (m ∷ [])))
    ∙ ap (λ (ms : List Managed). app_lines (map (application_of r.store) ms)) (ap (λ (x : Managed). take i apps ++ x ∷ []) is ∙ sym (take_more apps i m less)))
    (adds_then first one)

-- ---- The end

over_map : (f : ℕ → List ℕ) (vs : List TableView) → flat_map f (map (λ v. v.dpid) vs) ≡ flat_map (λ v. f v.dpid) vs
over_map f [] = refl
over_map f (v ∷ vs) = ap (λ (text : List ℕ). f v.dpid ++ text) (over_map f vs)

pub take_whole : (xs ys : List ℕ) (i : ℕ) → length xs ≤ i → xs ≡ ys → take i xs ≡ ys
take_whole xs ys i le same = take_all i xs le ∙ same

-- the views stand by number
apart-views : (least : ℕ) (vs : List TableView) → ViewsAscend least vs → (d : ℕ) → d < least → is_among d (map (λ v. v.dpid) vs) ≡ false
apart-views least [] up d lt = refl
apart-views least (v ∷ vs) up d lt = rw (ne_eqb v.dpid d (λ same. omega (arith, same, up.0, lt))) (apart-views (v.dpid + 1) vs up.1 d (omega (arith, up.0, lt)))

pub distinct-views : (least : ℕ) (vs : List TableView) → ViewsAscend least vs → Distinct (map (λ v. v.dpid) vs)
distinct-views least [] up = tt
distinct-views least (v ∷ vs) up = (apart-views (v.dpid + 1) vs up.1 v.dpid (omega arith), distinct-views (v.dpid + 1) vs up.1)

none-taken : (n d : ℕ) (ds : List ℕ) → is_among d ds ≡ false → is_among d (take n ds) ≡ false
none-taken zero d ds none = refl
none-taken (suc n) d [] none = refl
none-taken (suc n) d (e ∷ es) none =
    let both = or_parts (e == d) (is_among d es) none in
    rw both.0 (none-taken n d es both.1)

pub distinct-take : (n : ℕ) (ds : List ℕ) → Distinct ds → Distinct (take n ds)
distinct-take zero ds apart = tt
distinct-take (suc n) [] apart = tt
distinct-take (suc n) (d ∷ ds) apart = (none-taken n d ds apart.0, distinct-take n ds apart.1)

none-among : (d : ℕ) (vs : List TableView) → rows_at d vs ≡ None → is_among d (map (λ v. v.dpid) vs) ≡ false
none-among d [] none = refl
none-among d (v ∷ vs) none =
    elim (cases_Bool (v.dpid == d)) [
      | inl here ↦ absurd (no_rows v.rows (rw here at none))
      | inr other ↦ rw other (none-among d vs (rw other at none))
    ]
  where
    no_rows : (rows : List ViewRow) → Some rows ≡ None → ⊥
    no_rows rows h = cc

engine_end-lost : (lost : List ℕ) (r mid : Core) (apps : List Managed) → mid.net ≡ record (lose_all lost r.net) { xid = mid.net.xid } → SameBesides r mid → engine_end (engine_with mid apps) ≡ engine_end (engine_with r apps)
engine_end-lost lost r mid apps net same =
    ap₂ (λ (slots : List Slot) (events : ℕ). app_lines (map (application_of slots) apps) ++ end_line mid.net.moment events) same.store same.events
    ∙ ap (λ (moment : ℕ). app_lines (map (application_of r.store) apps) ++ end_line moment r.events) (ap (λ (n : NetState). n.moment) net ∙ lose_all-moment lost r.net)

pub last_shown : {Own : Type 0} {Tells : Type 0} {old new : Seen Own} (r : Run) (mid now_c : Core) (apps : List Managed) → Continues Tells old new → TablesShown Tells (map (λ v. v.dpid) r.core.net.views) old new r.core mid → apps ≡ r.apps.items → Adds (engine_end (engine_with mid apps)) mid now_c
    → LastShown Tells old new r (record r { core = now_c })
last_shown {Tells = Tells} {old = old} {new = new} r mid now_c apps continues tables here end = record {
  shown = λ told keeps calm.
      let c = r.core in
      let one = tables.shown (distinct-views 0 c.net.views calm.order) told keeps calm.ready calm.sound in
      let before : Conforming old = Conforming-before told continues keeps in
      let text : flat_map (shown_text one.lost c.net.views (state old)) (map (λ v. v.dpid) c.net.views) ≡ flat_map (place_lines one.lost) (shown_places old.given.declared (shown_by c.net) (state old)) =
      over_map (shown_text one.lost c.net.views (state old)) c.net.views
      ∙ places-shown one.lost old.given.declared c.net.views (state old) calm.order before.declared (all-stand old) calm.ready.agrees
      (λ d none. one.among d (none-among d c.net.views none))
      in
      let last : engine_end (engine_with mid apps) ≡ engine_end (engine_with c r.apps.items) = engine_end-lost one.lost c mid apps one.says.net one.says.same ∙ ap (λ (ms : List Managed). engine_end (engine_with c ms)) here in
      record {
        lost = one.lost;
        says = record {
          lines = end.lines ∙ ap₂ (λ (xs ys : List ℕ). xs ++ ys) one.says.lines last ∙ append_assoc c.lines.items _ (engine_end (engine_with c r.apps.items)) ∙ ap (λ (t : List ℕ). c.lines.items ++ (t ++ engine_end (engine_with c r.apps.items))) text;
          apps = refl;
          same = besides_then one.says.same (besides_of end.stays);
          switches = one.says.switches;
          waits = one.says.waits;
          asked = one.says.asked;
        };
      };
}
