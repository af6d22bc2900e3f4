-- What follows about switches that are lost: what the host keeps of the others, and the switches of the reference controller then.
use Rattle.std.proofs.Common.{◌≡◌, ◌≢◌, ◌==◌, ℕ, true, false, not, List, [], ◌∷◌, ◌++◌, map, filter, fold, Option, Some, None, if◌then◌else◌, refl, sym, ap, ap₂, ◌∙◌, subst, append_assoc, inl, inr, true≢false}
use Rattle.std.proofs.lemmas.Bool.{cases_Bool, cases_eq, eqb-true, eq-eqb, ne_eqb}
use Rattle.std.proofs.lemmas.List.{append-nil, map-append}
use Rattle.std.proofs.lemmas.List.Sums.{fold-append}
use Rattle.std.specs.Option.{is_some, option_map}
use Rattle.std.proofs.lemmas.Option.{none-some, same_Some}
use Rattle.of_types.specs.declared.port_desc.PortDesc.{PortDesc}
use Rattle.of_match.specs.declared.key.Key.{Key}
use Rattle.of_wire.specs.Spelling.{ports_bytes}
use Rattle.flow_table.specs.declared.view.ViewRow.{ViewRow}
use Rattle.flow_table.specs.declared.entry.Entry.{Entry}
use Rattle.flow_table.specs.View.{TableView}
use Rattle.flow_table.specs.Switch.{Declared, SwitchState}
use Rattle.undo_laws.specs.CorrectedSwitch.{corrected_switch}
use Rattle.app_frames.specs.declared.frame.Event.{Event}
use Rattle.app_frames.specs.declared.frame.EventKind.TheVariants as kinds
use Rattle.lego_model.specs.Answers.{rows_of_table, rows_of_view}
use Rattle.lego_model.specs.Controller.{left_of, leavers, lose_at, lose}
use Rattle.lego_model.specs.Events.{ports_of, leave_event}
use Rattle.lego_model.specs.History.{lost_of}
use Rattle.lego_model.specs.Journal.{losses}
use Rattle.lego_model.specs.Packets.{Held}
use Rattle.lego_model.specs.Places.{Place, switch_at, with_place}
use Rattle.outside.specs.declared.step.WorldStep.{WorldStep}
use Rattle.outside.specs.declared.step.WorldStep.TheVariants.{Acted, TookInto, From, Joined, Left, Moment, Idle, End, Opened, NotOpened, NextFailed, SendLost, RecvLost, SendFailed, RecvFailed}
use Rattle.outside.specs.Seen.{Seen, is_declared, journal}
use Rattle.outside.specs.State.{State, state, switch_of, waits_of, is_joined}
use Rattle.outside.specs.Conforming.{AreDeclaredFrom}
use Rattle.outside.specs.laws.SeenLaws.{journal-append}
use Rattle.net_txn.specs.declared.ports.KnownPorts.{KnownPorts}
use Rattle.net_txn.specs.ChangeSteps.{Agrees}
use Rattle.flow_table.specs.Sorted.{without_key}
use Rattle.net_txn.specs.Leaving.{port_text, ports_text, left_event}
use Rattle.net_txn.specs.Losing.{lost_net, lose_all, GoesOut}
use Rattle.of_types.specs.Membership.{is_among}
use Rattle.net_txn.specs.Net.{NetState}
use Rattle.net_txn.specs.Undos.{without_keys, AreJoined}
use Rattle.net_txn.specs.Views.{is_viewed, rows_at, with_rows}
use Rattle.net_txn.specs.laws.AgreeLaws.{viewed as viewed_rows}
use Rattle.net_txn.specs.laws.LostPartLaws.{not_first, Distinct}
use Rattle.net_txn.specs.laws.ViewLaws.{with_rows-none}
use Rattle.net_txn.specs.laws.LostLaws.{losses_two, losses_then}
use Rattle.switch_laws.specs.Lost.{LeavesBy}
use Rattle.switch_laws.specs.Released.{lost_by, LosesNone}
use Rattle.switch_laws.specs.Shown.{rows_or_none, correction_in, shown_by, shown_switch, places}
use Rattle.switch_laws.specs.Since.{ports_known, Ready}
use Rattle.switch_laws.specs.laws.PlaceLaws.{places-same, switch_at-declared, switch_at-undeclared, with_place-places}

-- ---- The views of the others

pub rows-gone : (d : ℕ) (vs : List TableView) → rows_at d (filter (λ v. not (v.dpid == d)) vs) ≡ None
rows-gone d [] = refl
rows-gone d (v ∷ vs) =
    elim (cases_Bool (v.dpid == d)) [
      | inl here ↦ rw here (rows-gone d vs)
      | inr other ↦ rw other (rw other (rows-gone d vs))
    ]

pub rows-stay : (d e : ℕ) → e ≢ d → (vs : List TableView) → rows_at e (filter (λ v. not (v.dpid == d)) vs) ≡ rows_at e vs
rows-stay d e apart [] = refl
rows-stay d e apart (v ∷ vs) =
    elim (cases_Bool (v.dpid == d)) [
      | inl here ↦
          let not_there : (v.dpid == e) ≡ false = ne_eqb v.dpid e (λ same. apart (sym same ∙ eqb-true v.dpid d here)) in
          rw (here, not_there) (rows-stay d e apart vs)
      | inr other ↦ rw other (ap (λ (o : Option (List ViewRow)). if v.dpid == e then Some v.rows else o) (rows-stay d e apart vs))
    ]

-- a change of rows and the loss of a switch, in either order
rows-lost : (d e : ℕ) (f : List ViewRow → List ViewRow) (vs : List TableView) → with_rows d f (filter (λ v. not (v.dpid == e)) vs) ≡ filter (λ v. not (v.dpid == e)) (with_rows d f vs)
rows-lost d e f [] = refl
rows-lost d e f (v ∷ vs) =
    elim (cases_Bool (v.dpid == d)) [
      | inl here ↦ elim (cases_Bool (v.dpid == e)) [
        | inl gone ↦
            let same : d ≡ e = sym (eqb-true v.dpid d here) ∙ eqb-true v.dpid e gone in
            let none : rows_at d (filter (λ v. not (v.dpid == e)) vs) ≡ None = subst (λ (n : ℕ). rows_at d (filter (λ v. not (v.dpid == n)) vs) ≡ None) same (rows-gone d vs) in
            rw (here, gone) (with_rows-none d f (filter (λ v. not (v.dpid == e)) vs) none)
        | inr stays ↦ rw (here, stays) (rw here refl)
      ]
      | inr other ↦ elim (cases_Bool (v.dpid == e)) [
        | inl gone ↦ rw (other, gone) (rows-lost d e f vs)
        | inr stays ↦ rw (other, stays) (rw other (ap (λ (ws : List TableView). v ∷ ws) (rows-lost d e f vs)))
      ]
    ]

pub without_keys-lost : (d : ℕ) (ps : List (ℕ × Key)) (vs : List TableView) → without_keys ps (filter (λ v. not (v.dpid == d)) vs) ≡ filter (λ v. not (v.dpid == d)) (without_keys ps vs)
without_keys-lost d [] vs = refl
without_keys-lost d (p ∷ ps) vs = ap (without_keys ps) (rows-lost p.0 d (without_key p.1) vs) ∙ without_keys-lost d ps (with_rows p.0 (without_key p.1) vs)

-- ---- The ports of the others

pub known-gone : (d : ℕ) (ks : List KnownPorts) → filter (λ k. k.dpid == d) (filter (λ k. not (k.dpid == d)) ks) ≡ []
known-gone d [] = refl
known-gone d (k ∷ ks) =
    elim (cases_Bool (k.dpid == d)) [
      | inl here ↦ rw here (known-gone d ks)
      | inr other ↦ rw other (rw other (known-gone d ks))
    ]

pub known-stay : (d e : ℕ) → e ≢ d → (ks : List KnownPorts) → filter (λ k. k.dpid == e) (filter (λ k. not (k.dpid == d)) ks) ≡ filter (λ k. k.dpid == e) ks
known-stay d e apart [] = refl
known-stay d e apart (k ∷ ks) =
    elim (cases_Bool (k.dpid == d)) [
      | inl here ↦
          let not_there : (k.dpid == e) ≡ false = ne_eqb k.dpid e (λ same. apart (sym same ∙ eqb-true k.dpid d here)) in
          rw (here, not_there) (known-stay d e apart ks)
      | inr other ↦ rw other (ap (λ (ls : List KnownPorts). if k.dpid == e then k ∷ ls else ls) (known-stay d e apart ks))
    ]

-- ---- Many losses, one after the other

pub lose_all-append : (ds es : List ℕ) (net : NetState) → lose_all (ds ++ es) net ≡ lose_all es (lose_all ds net)
lose_all-append ds es net = fold-append (λ (n : NetState) (d : ℕ). lost_net d n) net ds es

pub lose_all-xid : (ds : List ℕ) (net : NetState) (xid : ℕ) → lose_all ds (record net { xid = xid }) ≡ record (lose_all ds net) { xid = xid }
lose_all-xid [] net xid = refl
lose_all-xid (d ∷ ds) net xid = lose_all-xid ds (lost_net d net) xid

pub lose_all-views : (ds : List ℕ) (m n : NetState) → m.views ≡ n.views → (lose_all ds m).views ≡ (lose_all ds n).views
lose_all-views [] m n same = same
lose_all-views (d ∷ ds) m n same = lose_all-views ds (lost_net d m) (lost_net d n) (ap (λ (vs : List TableView). filter (λ v. not (v.dpid == d)) vs) same)

pub lose_all-rows : (ds : List ℕ) (e : ℕ) (net : NetState) → is_among e ds ≡ false → rows_at e (lose_all ds net).views ≡ rows_at e net.views
lose_all-rows [] e net none = refl
lose_all-rows (d ∷ ds) e net none = let n = not_first d e ds none in lose_all-rows ds e (lost_net d net) n.1 ∙ rows-stay d e n.0 net.views

pub lose_all-rows_gone : (ds : List ℕ) (e : ℕ) (net : NetState) → is_among e ds ≡ true → rows_at e (lose_all ds net).views ≡ None
lose_all-rows_gone [] e net is = absurd (true≢false (sym is))
lose_all-rows_gone (d ∷ ds) e net is =
    elim (cases_Bool (is_among e ds)) [
      | inl later ↦ lose_all-rows_gone ds e (lost_net d net) later
      | inr never ↦ elim (cases_Bool (d == e)) [
        | inl now ↦ lose_all-rows ds e (lost_net d net) never ∙ subst (λ (n : ℕ). rows_at n (filter (λ v. not (v.dpid == d)) net.views) ≡ None) (eqb-true d e now) (rows-gone d net.views)
        | inr other ↦ absurd (true≢false (sym is ∙ (rw (other, never) refl)))
      ]
    ]

pub lose_all-known : (ds : List ℕ) (e : ℕ) (net : NetState) → is_among e ds ≡ false → filter (λ k. k.dpid == e) (lose_all ds net).ports ≡ filter (λ k. k.dpid == e) net.ports
lose_all-known [] e net none = refl
lose_all-known (d ∷ ds) e net none = let n = not_first d e ds none in lose_all-known ds e (lost_net d net) n.1 ∙ known-stay d e n.0 net.ports

pub lose_all-known_gone : (ds : List ℕ) (e : ℕ) (net : NetState) → is_among e ds ≡ true → filter (λ k. k.dpid == e) (lose_all ds net).ports ≡ []
lose_all-known_gone [] e net is = absurd (true≢false (sym is))
lose_all-known_gone (d ∷ ds) e net is =
    elim (cases_Bool (is_among e ds)) [
      | inl later ↦ lose_all-known_gone ds e (lost_net d net) later
      | inr never ↦ elim (cases_Bool (d == e)) [
        | inl now ↦ lose_all-known ds e (lost_net d net) never ∙ subst (λ (n : ℕ). filter (λ k. k.dpid == n) (filter (λ k. not (k.dpid == d)) net.ports) ≡ []) (eqb-true d e now) (known-gone d net.ports)
        | inr other ↦ absurd (true≢false (sym is ∙ (rw (other, never) refl)))
      ]
    ]

-- the known ports that go, in the order of the losses
abbrev pub ports_lost : List ℕ → NetState → List KnownPorts
ports_lost [] net = []
ports_lost (d ∷ ds) net = filter (λ k. k.dpid == d) net.ports ++ ports_lost ds (lost_net d net)

pub lose_all-left : (ds : List ℕ) (net : NetState) → (lose_all ds net).left ≡ net.left ++ ports_lost ds net
lose_all-left [] net = sym (append-nil net.left)
lose_all-left (d ∷ ds) net = lose_all-left ds (lost_net d net) ∙ append_assoc net.left (filter (λ k. k.dpid == d) net.ports) (ports_lost ds (lost_net d net))

pub ports_lost-same : (ds : List ℕ) (m n : NetState) → m.ports ≡ n.ports → ports_lost ds m ≡ ports_lost ds n
ports_lost-same [] m n same = refl
ports_lost-same (d ∷ ds) m n same =
    ap₂ (λ (a b : List KnownPorts). a ++ b) (ap (λ (ks : List KnownPorts). filter (λ k. k.dpid == d) ks) same)
    (ports_lost-same ds (lost_net d m) (lost_net d n) (ap (λ (ks : List KnownPorts). filter (λ k. not (k.dpid == d)) ks) same))

-- ---- What a history lost

pub losses-append : (xs ys : List WorldStep) → losses (journal (xs ++ ys)) ≡ losses (journal xs) ++ losses (journal ys)
losses-append xs ys = ap losses (journal-append xs ys) ∙ losses_two (journal xs) (journal ys)

losses-step : (step : WorldStep) (steps : List WorldStep) → lost_by step ≡ None → losses (journal (step ∷ steps)) ≡ losses (journal steps)
unfolding losses journal
losses-step (Acted act) steps is = rw is refl
losses-step (TookInto app what room) steps is = refl
losses-step (From d bytes) steps is = refl
losses-step (Joined d bytes) steps is = refl
losses-step (Left d) steps is = refl
losses-step (Moment t) steps is = refl
losses-step Idle steps is = refl
losses-step End steps is = refl
losses-step Opened steps is = refl
losses-step NotOpened steps is = refl
losses-step NextFailed steps is = refl
losses-step (SendLost d) steps is = absurd cc
losses-step (RecvLost d) steps is = absurd cc
losses-step (SendFailed d) steps is = refl
losses-step (RecvFailed d) steps is = refl

pub losses-nil : losses (journal []) ≡ []
unfolding losses journal
losses-nil = refl

-- Such steps lost none.
pub losses-none : (steps : List WorldStep) → LosesNone steps → losses (journal steps) ≡ []
losses-none [] all = losses-nil
losses-none (step ∷ steps) all = losses-step step steps all.0 ∙ losses-none steps all.1

pub losses-still : {Own : Type 0} (old new : Seen Own) (steps : List WorldStep) → new.history ≡ old.history ++ steps → LosesNone steps → lost_of new ≡ lost_of old
losses-still old new steps history none =
    losses_then old new steps history ∙ ap (λ (ds : List ℕ). lost_of old ++ ds) (losses-none steps none) ∙ append-nil (lost_of old)

-- ---- None was lost, and one stretch behind the other

pub leaves-none : {Own : Type 0} (old new : Seen Own) (net now_net : NetState) → now_net.left ≡ net.left → lost_of new ≡ lost_of old → LeavesBy old new net now_net []
leaves-none old new net now_net left lost = record {
  gone = [];
  left_is = left ∙ sym (append-nil net.left);
  events_is = refl;
  lost_is = lost ∙ sym (append-nil (lost_of old));
}

pub leavers-append : (xs ys : List Event) → leavers (xs ++ ys) ≡ leavers xs ++ leavers ys
leavers-append xs ys = map-append (λ (e : Event). e.dpid) xs ys

pub leaves-then : {Own : Type 0} (old mid new : Seen Own) (net mid_net now_net : NetState) (first later : List Event) → LeavesBy old mid net mid_net first → LeavesBy mid new mid_net now_net later → LeavesBy old new net now_net (first ++ later)
leaves-then old mid new net mid_net now_net first later a b = record {
  gone = a.gone ++ b.gone;
  left_is = b.left_is ∙ ap (λ (ks : List KnownPorts). ks ++ b.gone) a.left_is ∙ append_assoc net.left a.gone b.gone;
  events_is = map-append left_event a.gone b.gone ∙ ap₂ (λ (xs ys : List Event). xs ++ ys) a.events_is b.events_is;
  lost_is = b.lost_is ∙ ap (λ (ds : List ℕ). ds ++ leavers later) a.lost_is ∙ append_assoc (lost_of old) (leavers first) (leavers later) ∙ ap (λ (ds : List ℕ). lost_of old ++ ds) (sym (leavers-append first later));
}

-- ---- Leave events

pub text-bytes : (ps : List PortDesc) → ports_text ps ≡ ports_bytes ps
unfolding ports_text port_text
text-bytes ps = refl

-- each switch has its own number
abbrev pub Numbered : (ℕ → Option SwitchState) → Type 0
Numbered f = (d : ℕ) (s : SwitchState) → f d ≡ Some s → s.declared.dpid ≡ d

pub left-known : (d : ℕ) (o : Option SwitchState) → ((s : SwitchState) → o ≡ Some s → s.declared.dpid ≡ d) → map left_event (ports_known d o) ≡ left_of o
left-known d None numbered = refl
left-known d (Some s) numbered =
    ap₂ (λ (n : ℕ) (bytes : List ℕ). record { kind = kinds.Leave; dpid = n; body = bytes } ∷ []) (sym (numbered s refl)) (text-bytes (ports_of s))

-- as it is shown it is known by the same ports
pub known-shown : (d : ℕ) (shown : Entry → Entry) (o : Option SwitchState) → ports_known d (option_map (corrected_switch shown) o) ≡ ports_known d o
known-shown d shown None = refl
known-shown d shown (Some s) = refl

-- ---- The reference controller's switches where some are lost

abbrev pub out_at : ℕ → (ℕ → Option SwitchState) → ℕ → Option SwitchState
out_at d f e = if d == e then None else f e

abbrev pub out_all : List ℕ → (ℕ → Option SwitchState) → ℕ → Option SwitchState
out_all [] f = f
out_all (d ∷ ds) f = out_all ds (out_at d f)

abbrev pub lost_events : List ℕ → (ℕ → Option SwitchState) → List Event
lost_events [] f = []
lost_events (d ∷ ds) f = left_of (f d) ++ lost_events ds (out_at d f)

out-here : (d : ℕ) (f : ℕ → Option SwitchState) → out_at d f d ≡ None
out-here d f = rw (eq-eqb d d refl) refl

out-other : (d e : ℕ) (f : ℕ → Option SwitchState) → e ≢ d → out_at d f e ≡ f e
out-other d e f apart = rw (ne_eqb d e (λ same. apart (sym same))) refl

pub out_all-stays : (ds : List ℕ) (f : ℕ → Option SwitchState) (e : ℕ) → is_among e ds ≡ false → out_all ds f e ≡ f e
out_all-stays [] f e none = refl
out_all-stays (d ∷ ds) f e none = let n = not_first d e ds none in out_all-stays ds (out_at d f) e n.1 ∙ out-other d e f n.0

out_all-none : (ds : List ℕ) (f : ℕ → Option SwitchState) (e : ℕ) → f e ≡ None → out_all ds f e ≡ None
out_all-none [] f e none = none
out_all-none (d ∷ ds) f e none = out_all-none ds (out_at d f) e (elim (cases_Bool (d == e)) [
  | inl here ↦ rw here refl
  | inr other ↦ rw other none
])

pub out_all-gone : (ds : List ℕ) (f : ℕ → Option SwitchState) (e : ℕ) → is_among e ds ≡ true → out_all ds f e ≡ None
out_all-gone [] f e is = absurd (true≢false (sym is))
out_all-gone (d ∷ ds) f e is =
    elim (cases_Bool (d == e)) [
      | inl here ↦ out_all-none ds (out_at d f) e (rw here refl)
      | inr other ↦ out_all-gone ds (out_at d f) e (rw other at is)
    ]

-- where all stands so that a loss can be told
pub record Losable (declared : List Declared) (f : ℕ → Option SwitchState) (ports : List KnownPorts) : Type 0 where
  pub undeclared : (d : ℕ) → is_declared d declared ≡ false → f d ≡ None
  pub numbered : Numbered f
  pub known : (d : ℕ) → filter (λ k. k.dpid == d) ports ≡ ports_known d (f d)

losable-then : (declared : List Declared) (f : ℕ → Option SwitchState) (ports : List KnownPorts) (d : ℕ) → Losable declared f ports → Losable declared (out_at d f) (filter (λ k. not (k.dpid == d)) ports)
losable-then declared f ports d can = record {
  undeclared = λ e none. elim (cases_eq e d) [
    | inl same ↦ subst (λ (n : ℕ). out_at d f n ≡ None) (sym same) (out-here d f)
    | inr other ↦ out-other d e f other ∙ can.undeclared e none
  ];
  numbered = λ e s is. elim (cases_eq e d) [
    | inl same ↦ absurd (none-some s (sym (subst (λ (n : ℕ). out_at d f n ≡ None) (sym same) (out-here d f)) ∙ is))
    | inr other ↦ can.numbered e s (sym (out-other d e f other) ∙ is)
  ];
  known = λ e. elim (cases_eq e d) [
    | inl same ↦ subst (λ (n : ℕ). filter (λ k. k.dpid == n) (filter (λ k. not (k.dpid == d)) ports) ≡ ports_known n (out_at d f n)) (sym same)
        (known-gone d ports ∙ sym (ap (ports_known d) (out-here d f)))
    | inr other ↦ known-stay d e other ports ∙ can.known e ∙ sym (ap (ports_known e) (out-other d e f other))
  ];
}

-- the host's Leave events are these
pub events-lost : (declared : List Declared) (ds : List ℕ) (f : ℕ → Option SwitchState) (net : NetState) → Losable declared f net.ports → map left_event (ports_lost ds net) ≡ lost_events ds f
events-lost declared [] f net can = refl
events-lost declared (d ∷ ds) f net can =
    map-append left_event (filter (λ k. k.dpid == d) net.ports) (ports_lost ds (lost_net d net))
    ∙ ap₂ (λ (xs ys : List Event). xs ++ ys) (ap (map left_event) (can.known d) ∙ left-known d (f d) (can.numbered d))
    (events-lost declared ds (out_at d f) (lost_net d net) (losable-then declared f net.ports d can))

pub there-at : (declared : List Declared) (f : ℕ → Option SwitchState) (ports : List KnownPorts) (d : ℕ) → Losable declared f ports → switch_at d (places f declared) ≡ f d
there-at declared f ports d can =
    elim (cases_Bool (is_declared d declared)) [
      | inl is ↦ switch_at-declared f d declared is
      | inr other ↦ switch_at-undeclared f d declared other ∙ sym (can.undeclared d other)
    ]

lose-by : (declared : List Declared) → AreDeclaredFrom 1 declared → (f : ℕ → Option SwitchState) (ports : List KnownPorts) (d : ℕ) (base : List Event) → Losable declared f ports → (o : Option SwitchState) → f d ≡ o
    → lose_at d o (places f declared, base) ≡ (places (out_at d f) declared, base ++ left_of o)
lose-by declared are f ports d base can None is =
    ap₂ (λ (ps : List Place) (es : List Event). (ps, es))
    (places-same f (out_at d f) (λ e. elim (cases_eq e d) [
      | inl same ↦ subst (λ (n : ℕ). f n ≡ out_at d f n) (sym same) (is ∙ sym (out-here d f))
      | inr other ↦ sym (out-other d e f other)
    ]) declared)
    (sym (append-nil base))
lose-by declared are f ports d base can (Some s) is =
    let there : is_declared d declared ≡ true = elim (cases_Bool (is_declared d declared)) [
      | inl yes_it_is ↦ yes_it_is
      | inr other ↦ absurd (none-some s (sym (can.undeclared d other) ∙ is))
    ] in
    ap (λ (ps : List Place). (ps, base ++ leave_event s ∷ []))
    (with_place-places f (out_at d f) d (λ o. None) 1 declared are there (out-here d f) (λ e other. out-other d e f other))

pub lose-shown : (declared : List Declared) → AreDeclaredFrom 1 declared → (ds : List ℕ) (f : ℕ → Option SwitchState) (ports : List KnownPorts) (base : List Event) → Losable declared f ports
    → fold lose (places f declared, base) ds ≡ (places (out_all ds f) declared, base ++ lost_events ds f)
lose-shown declared are [] f ports base can = ap (λ (es : List Event). (places f declared, es)) (sym (append-nil base))
lose-shown declared are (d ∷ ds) f ports base can =
    let one : lose (places f declared, base) d ≡ (places (out_at d f) declared, base ++ left_of (f d)) =
    ap (λ (o : Option SwitchState). lose_at d o (places f declared, base)) (there-at declared f ports d can) ∙ lose-by declared are f ports d base can (f d) refl in
    ap (λ (r : List Place × List Event). fold lose r ds) one
    ∙ lose-shown declared are ds (out_at d f) (filter (λ k. not (k.dpid == d)) ports) (base ++ left_of (f d)) (losable-then declared f ports d can)
    ∙ ap (λ (es : List Event). (places (out_all (d ∷ ds) f) declared, es)) (append_assoc base (left_of (f d)) (lost_events ds (out_at d f)))

-- ---- Each of them was joined, and was lost once

-- a switch that is joined
pub record Stays (o : Option SwitchState) : Type 0 where
  pub switch : SwitchState
  pub stands : o ≡ Some switch

leavers-one : (d : ℕ) (o : Option SwitchState) → Stays o → ((s : SwitchState) → o ≡ Some s → s.declared.dpid ≡ d) → leavers (left_of o) ≡ d ∷ []
leavers-one d None there numbered = absurd (none-some there.switch there.stands)
leavers-one d (Some s) there numbered = ap (λ (n : ℕ). n ∷ []) (numbered s refl)

pub leavers-lost : (declared : List Declared) (ds : List ℕ) (f : ℕ → Option SwitchState) (ports : List KnownPorts) → Losable declared f ports → Distinct ds → ((e : ℕ) → is_among e ds ≡ true → Stays (f e)) → leavers (lost_events ds f) ≡ ds
leavers-lost declared [] f ports can apart there = refl
leavers-lost declared (d ∷ ds) f ports can apart there =
    leavers-append (left_of (f d)) (lost_events ds (out_at d f))
    ∙ ap₂ (λ (xs ys : List ℕ). xs ++ ys)
    (leavers-one d (f d) (there d (rw (eq-eqb d d refl) refl)) (can.numbered d))
    (leavers-lost declared ds (out_at d f) (filter (λ k. not (k.dpid == d)) ports) (losable-then declared f ports d can) apart.1 later)
  where
    later : (e : ℕ) → is_among e ds ≡ true → Stays (out_at d f e)
    later e is = elim (cases_eq e d) [
      | inl same ↦ absurd (true≢false (sym is ∙ ap (λ (n : ℕ). is_among n ds) same ∙ apart.0))
      | inr other ↦
          let t = there e (elim (cases_Bool (d == e)) [
            | inl here ↦ rw here refl
            | inr not_here ↦ rw not_here is
          ]) in
          record { switch = t.switch; stands = out-other d e f other ∙ t.stands }
    ]

-- ---- Where all is ready

pub agrees-joined : (d : ℕ) (views : List TableView) (s : State) → Agrees d views s → is_viewed d views ≡ true → is_joined d s ≡ true
agrees-joined d views s agrees is = by (rows_at d views) (switch_of d s) agrees (sym (viewed_rows d views) ∙ is)
  where
    by : (r : Option (List ViewRow)) (o : Option SwitchState) → option_map rows_of_view r ≡ option_map (λ x. rows_of_table x.table.entries) o → is_some r ≡ true → is_some o ≡ true
    by None o same is = absurd (true≢false (sym is))
    by (Some rows) None same is = absurd cc
    by (Some rows) (Some s) same is = refl

pub ready-joined : {Own : Type 0} (seen : Seen Own) (net : NetState) → Ready seen net → AreJoined net.views (state seen)
ready-joined seen net ready d is = agrees-joined d net.views (state seen) (ready.agrees d) is

pub joined-stays : (o : Option SwitchState) → is_some o ≡ true → Stays o
joined-stays None is = absurd (true≢false (sym is))
joined-stays (Some s) is = record { switch = s; stands = refl }

-- ---- One switch that is lost, where all was ready

module _ {Own : Type 0} (d : ℕ) (packets : List Held) (s : SwitchState) (old new : Seen Own) (net now_net : NetState) (is : switch_of d (state old) ≡ Some s) (out : GoesOut d packets old new) (net_is : now_net ≡ record (lost_net d net) { xid = now_net.xid }) where
  lost-views : now_net.views ≡ filter (λ v. not (v.dpid == d)) net.views
  lost-views = ap (λ (n : NetState). n.views) net_is

  lost-here : shown_switch (shown_by now_net) (state new) d ≡ None
  lost-here = ap (option_map (corrected_switch (shown_by now_net d))) out.out

  pub lost-others : (e : ℕ) → e ≢ d → shown_switch (shown_by now_net) (state new) e ≡ shown_switch (shown_by net) (state old) e
  lost-others e other =
      ap₂ (λ (f : Entry → Entry) (o : Option SwitchState). option_map (corrected_switch f) o)
      (ap (λ (o : Option (List ViewRow)). correction_in (rows_or_none o)) (ap (rows_at e) lost-views ∙ rows-stay d e other net.views)) (out.others e other)

  pub lost-ready : Ready old net → Ready new now_net
  lost-ready ready = record {
    waits = λ e. elim (cases_eq e d) [
      | inl same ↦ ap (λ (n : ℕ). waits_of n (state new)) same ∙ out.waits
      | inr other ↦ out.others_wait e other ∙ ready.waits e
    ];
    agrees = λ e. elim (cases_eq e d) [
      | inl same ↦ subst (λ (n : ℕ). Agrees n now_net.views (state new)) (sym same)
          (ap (option_map rows_of_view) (ap (rows_at d) lost-views ∙ rows-gone d net.views) ∙ sym (ap (option_map (λ x. rows_of_table x.table.entries)) out.out))
      | inr other ↦ ap (option_map rows_of_view) (ap (rows_at e) lost-views ∙ rows-stay d e other net.views) ∙ ready.agrees e ∙ sym (ap (option_map (λ x. rows_of_table x.table.entries)) (out.others e other))
    ];
    known = λ e. ap (λ (n : NetState). filter (λ k. k.dpid == e) n.ports) net_is ∙ elim (cases_eq e d) [
      | inl same ↦ subst (λ (n : ℕ). filter (λ k. k.dpid == n) (filter (λ k. not (k.dpid == d)) net.ports) ≡ ports_known n (switch_of n (state new))) (sym same)
          (known-gone d net.ports ∙ sym (ap (ports_known d) out.out))
      | inr other ↦ known-stay d e other net.ports ∙ ready.known e ∙ sym (ap (ports_known e) (out.others e other))
    ];
  }

  -- its Leave event
  pub lost-leaves : (shown : Entry → Entry) → s.declared.dpid ≡ d → Ready old net → LeavesBy old new net now_net (leave_event (corrected_switch shown s) ∷ [])
  lost-leaves shown number ready = record {
    gone = ports_known d (Some s);
    left_is = ap (λ (n : NetState). n.left) net_is ∙ ap (λ (ks : List KnownPorts). net.left ++ ks) (ready.known d ∙ ap (ports_known d) is);
    events_is = left-known d (Some s) (λ t same. ap (λ (x : SwitchState). x.declared.dpid) (sym (same_Some s t same)) ∙ number);
    lost_is = losses_then old new out.steps out.history ∙ ap (λ (ds : List ℕ). lost_of old ++ ds) (out.lost ∙ ap (λ (n : ℕ). n ∷ []) (sym number));
  }

  pub lost-places : (declared : List Declared) → AreDeclaredFrom 1 declared → is_declared d declared ≡ true → with_place d (λ o. None) (places (shown_switch (shown_by net) (state old)) declared) ≡ places (shown_switch (shown_by now_net) (state new)) declared
  lost-places declared are there =
      with_place-places (shown_switch (shown_by net) (state old)) (shown_switch (shown_by now_net) (state new)) d (λ o. None) 1 declared are there lost-here lost-others
