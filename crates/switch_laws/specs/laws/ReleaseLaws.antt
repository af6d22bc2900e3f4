-- What follows about a release: each switch moved by the packets that were sent to it, or was lost, and the history released them. In a world
-- that keeps its word the switches stand then, as they are shown, as the reference controller's do that releases the same packets
-- and loses the same of their switches; and where a release stopped, memory was wanting, or a packet made its switch send too many messages.
use Rattle.std.proofs.Common.{◌≡◌, ◌≢◌, ◌==◌, ◌⊎◌, ℕ, Bool, true, false, List, [], ◌∷◌, ◌++◌, filter, fold, Option, Some, None, Result, Ok, Err, if◌then◌else◌, refl, sym, ap, ap₂, ◌∙◌, subst, append_assoc, inl, inr, true≢false}
use Rattle.std.proofs.lemmas.Bool.{cases_eq, eq-eqb, ne_eqb}
use Rattle.std.specs.List.{list_any}
use Rattle.std.proofs.lemmas.List.{append-nil}
use Rattle.std.proofs.lemmas.List.Sums.{fold-append}
use Rattle.std.specs.Option.{is_some, option_map}
use Rattle.std.proofs.lemmas.Option.{same_Some}
use Rattle.of_types.specs.declared.journal.Act.TheVariants.{Sent}
use Rattle.of_wire.specs.declared.message.Envelope.{Envelope}
use Rattle.of_wire.specs.declared.message.Message.TheVariants.{PacketOut}
use Rattle.of_wire.specs.declared.fault.WireFault.{WireFault}
use Rattle.of_wire.specs.Reading.{reading_of}
use Rattle.of_wire.specs.Spelling.{message_bytes}
use Rattle.flow_table.specs.declared.view.ViewRow.{ViewRow}
use Rattle.flow_table.specs.declared.entry.Entry.{Entry}
use Rattle.flow_table.specs.View.{TableView}
use Rattle.flow_table.specs.Switch.{Declared, SwitchState}
use Rattle.flow_table.specs.Step.{after_message, sent_by_message}
use Rattle.undo_laws.specs.CorrectedSwitch.{corrected_switch}
use Rattle.undo_laws.specs.laws.CorrectedSwitchLaws.{packet-shown, packet_sent-shown}
use Rattle.app_frames.specs.declared.frame.Event.{Event}
use Rattle.lego_model.specs.declared.fault.TxnFault.{TxnFault}
use Rattle.lego_model.specs.declared.fault.TxnFault.TheVariants.{SwitchBroke, Diverged, Flooded, NoMemory}
use Rattle.lego_model.specs.AfterFault.{WasLost, after_packets}
use Rattle.lego_model.specs.Answers.{Rows, rows_of_table}
use Rattle.lego_model.specs.BarrierWaits.{flood, barrier_sent, wait_steps}
use Rattle.lego_model.specs.Controller.{Release, none_released, went_out, release_at, release_one, release, leavers}
use Rattle.lego_model.specs.Events.{events_of, leave_event}
use Rattle.lego_model.specs.History.{released_of, lost_of}
use Rattle.lego_model.specs.Losses.{PacketLoss, Stays, BeforeSent, AfterSent}
use Rattle.lego_model.specs.Packets.{Held, HeldBack}
use Rattle.lego_model.specs.SwitchFaults.{FloodedByPacket}
use Rattle.lego_model.specs.Places.{switch_at, with_place}
use Rattle.outside.specs.declared.step.WorldStep.{WorldStep}
use Rattle.outside.specs.declared.step.WorldStep.TheVariants.{Acted}
use Rattle.outside.specs.Seen.{Given, Seen, Continues}
use Rattle.outside.specs.State.{State, state, switch_of, waits_of}
use Rattle.outside.specs.Conforming.{AreDeclaredFrom, Conforming}
use Rattle.outside.specs.laws.SeenLaws.{Continues-refl, Continues-trans}
use Rattle.outside.specs.laws.StateLaws.{Conforming-front, Conforming-before}
use Rattle.net_txn.specs.ChangeSteps.{Agrees}
use Rattle.net_txn.specs.Answering.{known_rows}
use Rattle.net_txn.specs.Losing.{lost_net, lose_all, GoesOut}
use Rattle.net_txn.specs.Net.{NetState}
use Rattle.net_txn.specs.Releases.{packet_steps, IsFloodBy, Knows, takes_read, takes_all, PacketInStep, MovesBy, SendsPacket, PassesOver, LosesPacket, ReleasesOne, ReleasesAll, StopsRelease, committed}
use Rattle.lego_model.specs.FlowQueries.{asked_from}
use Rattle.net_txn.specs.Undos.{AreJoined}
use Rattle.net_txn.specs.Views.{rows_at, is_viewed}
use Rattle.net_txn.specs.Waits.{IfFlooded}
use Rattle.net_txn.specs.laws.AbreastLaws.{arrival_viewed}
use Rattle.net_txn.specs.laws.AgreeLaws.{viewed as viewed_rows}
use Rattle.net_txn.specs.laws.LostLaws.{released_two}
use Rattle.switch_laws.specs.Lost.{LeavesBy}
use Rattle.switch_laws.specs.Released.{MovesOrLoses, ReleaseShown, StopsFor}
use Rattle.switch_laws.specs.Shown.{rows_or_none, corrections, shown_by, shown_switch, places, shown_places, Stand}
use Rattle.switch_laws.specs.laws.CorrectionLaws.{goes_along}
use Rattle.switch_laws.specs.Since.{ports_known, Ready}
use Rattle.switch_laws.specs.Sound.{AllSound, Sound}
use Rattle.switch_laws.specs.laws.ClockLaws.{switch-in_time}
use Rattle.switch_laws.specs.laws.FaceLaws.{face-packet, face-ports_of}
use Rattle.switch_laws.specs.laws.FaultLaws.{lost-still, lost-later}
use Rattle.switch_laws.specs.laws.LossLaws.{rows-gone, rows-stay, losses-still, leaves-none, leaves-then, leavers-append, lose_all-append, lose_all-xid, ready-joined, lost-ready, lost-leaves, lost-places}
use Rattle.switch_laws.specs.laws.OrderlyLaws.{released-on, packet-loses-none}
use Rattle.lego_model.specs.laws.JournalLaws.{released-nil}
use Rattle.switch_laws.specs.laws.PlaceLaws.{with_place-places}
use Rattle.switch_laws.specs.laws.ShownExchangeLaws.{switch_at-shown, declared_of}
use Rattle.net_txn.specs.laws.WaitMoveLaws.{some_switch}
use Rattle.switch_laws.specs.laws.ShownUndoLaws.{viewed, unviewed}
use Rattle.switch_laws.specs.laws.SoundLaws.{packet-sound}
use Rattle.switch_laws.specs.laws.SoundStepLaws.{lost-sound}
use Rattle.switch_laws.specs.laws.StandLaws.{all-stand}
use Rattle.net_txn.specs.laws.PacketMoveLaws.{none_map}

-- ---- A release, packet by packet

-- one packet, and those behind it
record First {Own : Type 0} (Tells : Type 0) (h : Held) (more sent : List Held) (old new : Seen Own) (net now_net : NetState) (queue now_queue : List Event) : Type 0 where
  first : List Held
  later : List Held
  sent_is : sent ≡ first ++ later
  mid : Seen Own
  mid_net : NetState
  mid_queue : List Event
  one : ReleasesOne Tells h first old mid net mid_net queue mid_queue
  rest : ReleasesAll Tells more later mid new mid_net now_net mid_queue now_queue

first-of : {Own : Type 0} (Tells : Type 0) (h : Held) (more sent : List Held) (old new : Seen Own) (net now_net : NetState) (queue now_queue : List Event) → ReleasesAll Tells (h ∷ more) sent old new net now_net queue now_queue
    → First Tells h more sent old new net now_net queue now_queue
first-of Tells h more sent old new net now_net queue now_queue all = record {
  first = all.0;
  later = all.1.0;
  sent_is = all.1.1.0;
  mid = all.1.1.1.0;
  mid_net = all.1.1.1.1.0;
  mid_queue = all.1.1.1.1.1.0;
  one = all.1.1.1.1.1.1.0;
  rest = all.1.1.1.1.1.1.1;
}

-- ---- What was seen goes on

one-continues : {Own : Type 0} (Tells : Type 0) (h : Held) (sent : List Held) (old new : Seen Own) (net now_net : NetState) (queue now_queue : List Event) → ReleasesOne Tells h sent old new net now_net queue now_queue → Continues Tells old new
one-continues Tells h sent old new net now_net queue now_queue (inl sends) = sends.2.continues
one-continues Tells h sent old new net now_net queue now_queue (inr (inl passes)) = subst (λ (s : Seen _). Continues Tells old s) (sym passes.1.seen) (Continues-refl Tells old)
one-continues Tells h sent old new net now_net queue now_queue (inr (inr (inl loses))) = loses.1.continues
one-continues Tells h sent old new net now_net queue now_queue (inr (inr (inr loses))) = loses.1.continues

pub releases-continue : {Own : Type 0} (Tells : Type 0) (held sent : List Held) (old new : Seen Own) (net now_net : NetState) (queue now_queue : List Event) → ReleasesAll Tells held sent old new net now_net queue now_queue → Continues Tells old new
releases-continue Tells [] sent old new net now_net queue now_queue all = subst (λ (s : Seen _). Continues Tells old s) (sym all.1) (Continues-refl Tells old)
releases-continue Tells (h ∷ more) sent old new net now_net queue now_queue all =
    let f = first-of Tells h more sent old new net now_net queue now_queue all in
    Continues-trans Tells old f.mid new (one-continues Tells h f.first old f.mid net f.mid_net queue f.mid_queue f.one) (releases-continue Tells more f.later f.mid new f.mid_net now_net f.mid_queue now_queue f.rest)

-- ---- How the switches move, in any world that tells

packets-append : (d : ℕ) (ps qs : List Held) (o : Option SwitchState) → option_map (after_packets d qs) (option_map (after_packets d ps) o) ≡ option_map (after_packets d (ps ++ qs)) o
packets-append d ps qs None = refl
packets-append d ps qs (Some s) = ap (λ (t : SwitchState). Some t) (sym (fold-append (λ (t : SwitchState) (h : Held). if h.0 == d then after_message (PacketOut h.1) t else t) s ps qs))

other_packet : (h : Held) (e : ℕ) (o : Option SwitchState) → e ≢ h.0 → o ≡ option_map (after_packets e (h ∷ [])) o
other_packet h e None other = refl
other_packet h e (Some s) other = rw (ne_eqb h.0 e (λ same. other (sym same))) refl

moves-none : {Own : Type 0} (seen : Seen Own) → MovesOrLoses [] seen seen
moves-none seen = record { steps = []; history = sym (append-nil seen.history); released_is = released-nil; moved = λ e. inl (none_map e (switch_of e (state seen))) }

pub moves-or : {Own : Type 0} (packets : List Held) (old new : Seen Own) → MovesBy packets old new → MovesOrLoses packets old new
moves-or packets old new moves = record { steps = moves.steps; history = moves.history; released_is = moves.released_is; moved = λ e. inl (moves.moved e) }

-- one that goes out moves no other one, nor do packets for it
loses-or : {Own : Type 0} (d : ℕ) (packets : List Held) (old new : Seen Own) → ((e : ℕ) (o : Option SwitchState) → e ≢ d → o ≡ option_map (after_packets e packets) o) → GoesOut d packets old new → MovesOrLoses packets old new
loses-or d packets old new others out = record {
  steps = out.steps;
  history = out.history;
  released_is = out.released_is;
  moved = λ e. elim (cases_eq e d) [
    | inl same ↦ inr (record {
      steps = out.steps;
      history = out.history;
      lost = ap (λ (ds : List ℕ). list_any (λ n. n == e) ds) out.lost ∙ (rw (eq-eqb d e (sym same)) refl);
      out = ap (λ (n : ℕ). switch_of n (state new)) same ∙ out.out;
    })
    | inr other ↦ inl (out.others e other ∙ others e (switch_of e (state old)) other)
  ];
}

module _ {Own : Type 0} (old mid new : Seen Own) (ps qs : List Held) (first : MovesOrLoses ps old mid) (later : MovesOrLoses qs mid new) where
  moved-then : (e : ℕ) → (switch_of e (state mid) ≡ option_map (after_packets e ps) (switch_of e (state old))) ⊎ WasLost e old mid → (switch_of e (state new) ≡ option_map (after_packets e qs) (switch_of e (state mid))) ⊎ WasLost e mid new
      → (switch_of e (state new) ≡ option_map (after_packets e (ps ++ qs)) (switch_of e (state old))) ⊎ WasLost e old new
  moved-then e (inl moved) (inl again) = inl (again ∙ ap (option_map (after_packets e qs)) moved ∙ packets-append e ps qs (switch_of e (state old)))
  moved-then e (inr was) (inl again) = inr (lost-still old mid new e was (later.steps, later.history) (again ∙ ap (option_map (after_packets e qs)) was.out))
  moved-then e moved (inr was) = inr (lost-later old mid new e (first.steps, first.history) was)

  pub moves-then : MovesOrLoses (ps ++ qs) old new
  moves-then = record {
    steps = first.steps ++ later.steps;
    history = later.history ∙ ap (λ h. h ++ later.steps) first.history ∙ append_assoc old.history first.steps later.steps;
    released_is = released_two first.steps later.steps ∙ ap₂ (λ (xs zs : List Held). xs ++ zs) first.released_is later.released_is;
    moved = λ e. moved-then e (first.moved e) (later.moved e);
  }

-- which switches have views stays
took-viewed : (d e : ℕ) (r : Result Envelope WireFault) (k : Knows) → is_viewed e (takes_read d r k).0.views ≡ is_viewed e k.0.views
took-viewed d e (Ok x) k = arrival_viewed d e x.message k.0
took-viewed d e (Err fault) k = refl

takes-viewed : (e : ℕ) (came : List (ℕ × List ℕ)) (k : Knows) → is_viewed e (takes_all came k).0.views ≡ is_viewed e k.0.views
takes-viewed e [] k = refl
takes-viewed e (m ∷ more) k = takes-viewed e more (takes_read m.0 (reading_of m.1) k) ∙ took-viewed m.0 e (reading_of m.1) k

-- each switch that has a view is joined, before and behind

still-some : (f : SwitchState → SwitchState) (o : Option SwitchState) → is_some o ≡ true → is_some (option_map f o) ≡ true
still-some f None is = is
still-some f (Some s) is = refl

sends-joined : {Own : Type 0} {Tells : Type 0} {h : Held} {queue now_queue : List Event} (old new : Seen Own) (net now_net : NetState) → Tells → SendsPacket Tells h old new net now_net queue now_queue → AreJoined net.views (state old) → AreJoined now_net.views (state new)
sends-joined {h = h} old new net now_net told sends joined e is =
    let before : is_viewed e net.views ≡ true = sym (ap (λ (k : Knows). is_viewed e k.0.views) sends.taken ∙ takes-viewed e sends.came _) ∙ is in
    ap (λ (o : Option SwitchState). is_some o) ((sends.moves told).moved e) ∙ still-some (after_packets e (h ∷ [])) (switch_of e (state old)) (joined e before)

loses-joined : {Own : Type 0} (d : ℕ) (packets : List Held) (old new : Seen Own) (net now_net : NetState) → GoesOut d packets old new → now_net ≡ record (lost_net d net) { xid = now_net.xid } → AreJoined net.views (state old) → AreJoined now_net.views (state new)
loses-joined d packets old new net now_net out net_is joined e is =
    let rows : rows_at e now_net.views ≡ rows_at e (lost_net d net).views = ap (λ (n : NetState). rows_at e n.views) net_is in
    elim (cases_eq e d) [
      | inl same ↦
          let gone : rows_at e now_net.views ≡ None = rows ∙ subst (λ (n : ℕ). rows_at n (lost_net d net).views ≡ None) (sym same) (rows-gone d net.views) in
          absurd (true≢false (sym is ∙ viewed_rows e now_net.views ∙ ap has_rows gone))
      | inr other ↦
          let before : is_viewed e net.views ≡ true = viewed_rows e net.views ∙ ap has_rows (sym (rows ∙ rows-stay d e other net.views)) ∙ sym (viewed_rows e now_net.views) ∙ is in
          ap (λ (o : Option SwitchState). is_some o) (out.others e other) ∙ joined e before
    ]
  where
    has_rows : Option (List ViewRow) → Bool
    has_rows o = is_some o

-- what one packet leaves
record OneMoves {Own : Type 0} (packets : List Held) (old new : Seen Own) (now_net : NetState) : Type 0 where
  moves : MovesOrLoses packets old new
  joined : AreJoined now_net.views (state new)

one-moves : {Own : Type 0} (Tells : Type 0) (h : Held) (sent : List Held) (old new : Seen Own) (net now_net : NetState) (queue now_queue : List Event) → Tells → AreJoined net.views (state old) → ReleasesOne Tells h sent old new net now_net queue now_queue
    → OneMoves sent old new now_net
one-moves Tells h sent old new net now_net queue now_queue told joined (inl sends) = record {
  moves = subst (λ (ps : List Held). MovesOrLoses ps old new) (sym sends.0) (moves-or (h ∷ []) old new (sends.2.moves told));
  joined = sends-joined old new net now_net told sends.2 joined;
}
one-moves Tells h sent old new net now_net queue now_queue told joined (inr (inl passes)) =
    subst (λ (s : Seen _). OneMoves sent old s now_net) (sym passes.1.seen)
    (subst (λ (n : NetState). OneMoves sent old old n) (sym passes.1.net_is)
    (subst (λ (ps : List Held). OneMoves ps old old net) (sym passes.0) (record { moves = moves-none old; joined = joined })))
one-moves Tells h sent old new net now_net queue now_queue told joined (inr (inr (inl loses))) =
    let out = loses.1.is_lost.out told (joined h.0 loses.1.viewed) in
    record {
      moves = subst (λ (ps : List Held). MovesOrLoses ps old new) (sym loses.0) (loses-or h.0 [] old new (λ e o other. none_map e o) out);
      joined = loses-joined h.0 [] old new net now_net out loses.1.net_is joined;
    }
one-moves Tells h sent old new net now_net queue now_queue told joined (inr (inr (inr loses))) =
    let out = loses.1.is_lost.out told (joined h.0 loses.1.viewed) in
    record {
      moves = subst (λ (ps : List Held). MovesOrLoses ps old new) (sym loses.0) (loses-or h.0 (h ∷ []) old new (λ e o other. other_packet h e o other) out);
      joined = loses-joined h.0 (h ∷ []) old new net now_net out loses.1.net_is joined;
    }

-- Each switch moved by the packets that were sent to it alone, or was lost, and the history released them.
pub release-moves : {Own : Type 0} (Tells : Type 0) (held sent : List Held) (old new : Seen Own) (net now_net : NetState) (queue now_queue : List Event) → Tells → AreJoined net.views (state old) → ReleasesAll Tells held sent old new net now_net queue now_queue
    → MovesOrLoses sent old new
release-moves Tells [] sent old new net now_net queue now_queue told joined all =
    subst (λ (s : Seen _). MovesOrLoses sent old s) (sym all.1) (subst (λ (ps : List Held). MovesOrLoses ps old old) (sym all.0) (moves-none old))
release-moves Tells (h ∷ more) sent old new net now_net queue now_queue told joined all =
    let f = first-of Tells h more sent old new net now_net queue now_queue all in
    let one = one-moves Tells h f.first old f.mid net f.mid_net queue f.mid_queue told joined f.one in
    let rest = release-moves Tells more f.later f.mid new f.mid_net now_net f.mid_queue now_queue told one.joined f.rest in
    subst (λ (ps : List Held). MovesOrLoses ps old new) (sym f.sent_is) (moves-then old f.mid new f.first f.later one.moves rest)

-- ---- Where the world keeps its word: which switches are joined

-- a switch that is joined
record JoinedAt (d : ℕ) (s : State) : Type 0 where
  switch : SwitchState
  stands : switch_of d s ≡ Some switch

viewed-joined : (d : ℕ) (views : List TableView) (s : State) → Agrees d views s → is_viewed d views ≡ true → (o : Option SwitchState) → switch_of d s ≡ o → JoinedAt d s
viewed-joined d views s agrees there (Some x) is = record { switch = x; stands = is }
viewed-joined d views s agrees there None is = absurd (true≢false (sym there ∙ unviewed d views s agrees is))

unviewed-out : (d : ℕ) (views : List TableView) (s : State) → Agrees d views s → is_viewed d views ≡ false → (o : Option SwitchState) → switch_of d s ≡ o → o ≡ None
unviewed-out d views s agrees out None is = refl
unviewed-out d views s agrees out (Some x) is = absurd (true≢false (sym (viewed d views s x agrees is) ∙ out))

-- ---- One packet that was sent

module _ {Own : Type 0} (h : Held) (s : SwitchState) (old new : Seen Own) (net now_net : NetState) (queue now_queue : List Event) (is : switch_of h.0 (state old) ≡ Some s) (step : PacketInStep h.0 h.1 s old new net now_net queue now_queue) where
  views-so : now_net.views ≡ net.views
  views-so = ap (λ (n : NetState). n.views) step.net_is

  rows-so : (e : ℕ) → option_map (λ x. rows_of_table x.table.entries) (switch_of e (state new)) ≡ option_map (λ x. rows_of_table x.table.entries) (switch_of e (state old))
  rows-so e = elim (cases_eq e h.0) [
    | inl same ↦
        let kept = face-packet h.1 s ((all-stand old).table h.0 s is) in
        subst (λ (n : ℕ). option_map (λ x. rows_of_table x.table.entries) (switch_of n (state new)) ≡ option_map (λ x. rows_of_table x.table.entries) (switch_of n (state old))) (sym same)
        (ap (option_map (λ x. rows_of_table x.table.entries)) step.moved ∙ ap some_rows kept.rows ∙ sym (ap (option_map (λ x. rows_of_table x.table.entries)) is))
    | inr other ↦ ap (option_map (λ x. rows_of_table x.table.entries)) (step.others e other)
  ]
    where
      some_rows : Rows → Option Rows
      some_rows rows = Some rows

  step-known : (e : ℕ) → ports_known e (switch_of e (state old)) ≡ ports_known e (switch_of e (state new))
  step-known e = elim (cases_eq e h.0) [
    | inl same ↦
        let kept = face-packet h.1 s ((all-stand old).table h.0 s is) in
        subst (λ (n : ℕ). ports_known n (switch_of n (state old)) ≡ ports_known n (switch_of n (state new))) (sym same)
        (ap (ports_known h.0) is ∙ sym (ap (λ ports. record { dpid = h.0; ports = ports } ∷ []) (face-ports_of s (after_message (PacketOut h.1) s) kept)) ∙ sym (ap (ports_known h.0) step.moved))
    | inr other ↦ sym (ap (ports_known e) (step.others e other))
  ]

  step-ready : Ready old net → Ready new now_net
  step-ready ready = record {
    waits = λ e. elim (cases_eq e h.0) [
      | inl same ↦ ap (λ (n : ℕ). waits_of n (state new)) same ∙ step.waits
      | inr other ↦ step.others_wait e other ∙ ready.waits e
    ];
    agrees = λ e. ap (known_rows e) views-so ∙ ready.agrees e ∙ sym (rows-so e);
    known = λ e. ap (λ (n : NetState). filter (λ k. k.dpid == e) n.ports) step.net_is ∙ ready.known e ∙ step-known e;
  }

  step-sound : Sound (state old) → Sound (state new)
  step-sound all = record {
    entries = λ e x here. elim (cases_eq e h.0) [
      | inl same ↦ subst (λ (y : SwitchState). AllSound y.table.entries) (same_Some _ x (sym step.moved ∙ ap (λ (n : ℕ). switch_of n (state new)) (sym same) ∙ here)) (packet-sound h.1 s (all.entries h.0 s is))
      | inr other ↦ all.entries e x (sym (step.others e other) ∙ here)
    ];
  }

  -- how the reference controller's switches stand then
  step-places : (declared : List Declared) → AreDeclaredFrom 1 declared → Stand declared (state old)
      → with_place h.0 (λ o. Some (after_message (PacketOut h.1) (corrected_switch (shown_by net h.0) s))) (places (shown_switch (shown_by net) (state old)) declared) ≡ places (shown_switch (shown_by now_net) (state new)) declared
  step-places declared are stand =
      let mine : Entry → Entry = shown_by net h.0 in
      let here : shown_switch (shown_by now_net) (state new) h.0 ≡ Some (after_message (PacketOut h.1) (corrected_switch mine s)) =
      ap₂ (λ (vs : List TableView) (o : Option SwitchState). option_map (corrected_switch (corrections vs h.0)) o) views-so step.moved ∙ ap some_switch (sym (packet-shown mine (goes_along (rows_or_none (rows_at h.0 net.views))) h.1 s)) in
      let others : (e : ℕ) → e ≢ h.0 → shown_switch (shown_by now_net) (state new) e ≡ shown_switch (shown_by net) (state old) e =
      λ e other. ap₂ (λ (vs : List TableView) (o : Option SwitchState). option_map (corrected_switch (corrections vs e)) o) views-so (step.others e other) in
      with_place-places (shown_switch (shown_by net) (state old)) (shown_switch (shown_by now_net) (state new)) h.0 (λ o. Some (after_message (PacketOut h.1) (corrected_switch mine s))) 1 declared are (declared_of h.0 declared (state old) stand s is) here others

-- ---- From one state of the release to another one

-- So the release of the reference controller goes on, behind these events: its packets are these.
record GoesOn {Own : Type 0} (declared : List Declared) (packets : List Held) (base : List Event) (old new : Seen Own) (net now_net : NetState) (now_queue : List Event) (r next : Release) : Type 0 where
  places_is : next.places ≡ shown_places declared (shown_by now_net) (state new)
  events_is : now_queue ≡ base ++ next.events
  packets_is : next.packets ≡ r.packets ++ packets
  left : List Event
  left_is : next.left ≡ r.left ++ left
  leaves : LeavesBy old new net now_net left
  ready : Ready new now_net
  sound : Sound (state new)
  net_is : now_net ≡ record (lose_all (leavers left) net) { xid = now_net.xid }

-- where it stands before
record Stands {Own : Type 0} (declared : List Declared) (base : List Event) (old : Seen Own) (net : NetState) (queue : List Event) (r : Release) : Type 0 where
  given : declared ≡ old.given.declared
  places_is : r.places ≡ shown_places declared (shown_by net) (state old)
  events_is : queue ≡ base ++ r.events
  ready : Ready old net
  sound : Sound (state old)

stand-of : {Own : Type 0} (declared : List Declared) (seen : Seen Own) → declared ≡ seen.given.declared → Stand declared (state seen)
stand-of declared seen same = subst (λ (ds : List Declared). Stand ds (state seen)) (sym same) (all-stand seen)

-- nothing was done
stays-on : {Own : Type 0} (declared : List Declared) (base : List Event) (old : Seen Own) (net : NetState) (queue : List Event) (r : Release) → queue ≡ base ++ r.events → r.places ≡ shown_places declared (shown_by net) (state old) → Ready old net → Sound (state old)
    → GoesOn declared [] base old old net net queue r r
stays-on declared base old net queue r events_is places_is ready sound = record {
  places_is = places_is;
  events_is = events_is;
  packets_is = sym (append-nil r.packets);
  left = [];
  left_is = sym (append-nil r.left);
  leaves = leaves-none old old net net refl refl;
  ready = ready;
  sound = sound;
  net_is = refl;
}

-- what becomes of a packet, by what becomes of its switch
abbrev next_release : PacketLoss → Release → Held → Release
next_release loss r h = release_at (switch_at h.0 r.places) loss r h

-- which losses are to come is no matter
losing-kept : (o : Option SwitchState) (loss : PacketLoss) (r : Release) (h : Held) (losing : List PacketLoss) → release_at o loss (record r { losing = losing }) h ≡ record (release_at o loss r h) { losing = losing }
losing-kept None loss r h losing = refl
losing-kept (Some s) Stays r h losing = refl
losing-kept (Some s) BeforeSent r h losing = refl
losing-kept (Some s) AfterSent r h losing = refl

module _ {Own : Type 0} (h : Held) (declared : List Declared) (base : List Event) (old : Seen Own) (net : NetState) (queue : List Event) (r : Release) (at : Stands declared base old net queue r) where
  -- the switch there
  at-shown : switch_at h.0 r.places ≡ shown_switch (shown_by net) (state old) h.0
  unfolding shown_places
  at-shown = ap (switch_at h.0) at.places_is ∙ switch_at-shown declared net.views (state old) h.0 (stand-of declared old at.given)

  at-joined : (loss : PacketLoss) (s : SwitchState) → switch_of h.0 (state old) ≡ Some s → next_release loss r h ≡ release_at (Some (corrected_switch (shown_by net h.0) s)) loss r h
  at-joined loss s is = ap (λ (o : Option SwitchState). release_at o loss r h) (at-shown ∙ ap (option_map (corrected_switch (shown_by net h.0))) is)

  module _ (new : Seen Own) (now_net : NetState) (now_queue : List Event) (are : AreDeclaredFrom 1 declared) where
    sent-places : (s : SwitchState) → switch_of h.0 (state old) ≡ Some s → PacketInStep h.0 h.1 s old new net now_net queue now_queue
        → with_place h.0 (λ o. Some (after_message (PacketOut h.1) (corrected_switch (shown_by net h.0) s))) r.places ≡ shown_places declared (shown_by now_net) (state new)
    unfolding shown_places
    sent-places s is step =
        ap (with_place h.0 (λ o. Some (after_message (PacketOut h.1) (corrected_switch (shown_by net h.0) s)))) at.places_is
        ∙ step-places h s old new net now_net queue now_queue is step declared are (stand-of declared old at.given)

    sent-on : (s : SwitchState) → switch_of h.0 (state old) ≡ Some s → lost_of new ≡ lost_of old → PacketInStep h.0 h.1 s old new net now_net queue now_queue
        → GoesOn declared (h ∷ []) base old new net now_net now_queue r (next_release Stays r h)
    sent-on s is none_lost step =
        subst (λ (next : Release). GoesOn declared (h ∷ []) base old new net now_net now_queue r next) (sym (at-joined Stays s is)) (record {
          places_is = sent-places s is step;
          events_is = step.queue_is ∙ ap (λ (q : List Event). q ++ events_of h.0 (sent_by_message 0 (PacketOut h.1) s)) at.events_is
              ∙ append_assoc base r.events (events_of h.0 (sent_by_message 0 (PacketOut h.1) s))
              ∙ ap (λ (sent : List (List ℕ)). base ++ (r.events ++ events_of h.0 sent)) (sym (packet_sent-shown (shown_by net h.0) (goes_along (rows_or_none (rows_at h.0 net.views))) 0 h.1 s));
          packets_is = refl;
          left = [];
          left_is = sym (append-nil r.left);
          leaves = leaves-none old new net now_net (ap (λ (n : NetState). n.left) step.net_is) none_lost;
          ready = step-ready h s old new net now_net queue now_queue is step at.ready;
          sound = step-sound h s old new net now_net queue now_queue is step at.sound;
          net_is = step.net_is;
        })

    -- its switch goes out, whether or not it was sent
    lost-away : (packets : List Held) (s : SwitchState) → switch_of h.0 (state old) ≡ Some s → GoesOut h.0 packets old new → now_net ≡ record (lost_net h.0 net) { xid = now_net.xid }
        → with_place h.0 (λ o. None) r.places ≡ shown_places declared (shown_by now_net) (state new)
    unfolding shown_places
    lost-away packets s is out net_is =
        ap (with_place h.0 (λ o. None)) at.places_is
        ∙ lost-places h.0 packets s old new net now_net is out net_is declared are (declared_of h.0 declared (state old) (stand-of declared old at.given) s is)

    out-on : (packets : List Held) (s : SwitchState) → switch_of h.0 (state old) ≡ Some s → s.declared.dpid ≡ h.0 → GoesOut h.0 packets old new → now_net ≡ record (lost_net h.0 net) { xid = now_net.xid } → now_queue ≡ queue
        → (q : Release) → q.places ≡ r.places → q.events ≡ r.events → q.left ≡ r.left → q.packets ≡ r.packets ++ packets
        → GoesOn declared packets base old new net now_net now_queue r (went_out h.0 (corrected_switch (shown_by net h.0) s) q)
    out-on packets s is number out net_is queue_is q places_is events_is left_is packets_is =
        let gone : List Event = leave_event (corrected_switch (shown_by net h.0) s) ∷ [] in
        record {
          places_is = ap (with_place h.0 (λ o. None)) places_is ∙ lost-away packets s is out net_is;
          events_is = queue_is ∙ at.events_is ∙ ap (λ (es : List Event). base ++ es) (sym events_is);
          packets_is = packets_is;
          left = gone;
          left_is = ap (λ (es : List Event). es ++ gone) left_is;
          leaves = lost-leaves h.0 packets s old new net now_net is out net_is (shown_by net h.0) number at.ready;
          ready = lost-ready h.0 packets s old new net now_net is out net_is at.ready;
          sound = lost-sound h.0 packets old new out at.sound;
          net_is = net_is ∙ ap (λ (n : ℕ). record (lost_net n net) { xid = now_net.xid }) (sym number);
        }

passed-on : {Own : Type 0} (h : Held) (declared : List Declared) (base : List Event) (old new : Seen Own) (net now_net : NetState) (queue now_queue : List Event) (r : Release) → PassesOver h old new net now_net queue now_queue → Stands declared base old net queue r
    → GoesOn declared [] base old new net now_net now_queue r (next_release Stays r h)
passed-on h declared base old new net now_net queue now_queue r passes at =
    let out : switch_of h.0 (state old) ≡ None = unviewed-out h.0 net.views (state old) (at.ready.agrees h.0) passes.unviewed (switch_of h.0 (state old)) refl in
    let there : switch_at h.0 r.places ≡ None = at-shown h declared base old net queue r at ∙ ap (option_map (corrected_switch (shown_by net h.0))) out in
    let one : next_release Stays r h ≡ r = ap (λ (o : Option SwitchState). release_at o Stays r h) there in
    subst (λ (next : Release). GoesOn declared [] base old new net now_net now_queue r next) (sym one)
    (subst (λ (w : Seen _). GoesOn declared [] base old w net now_net now_queue r r) (sym passes.seen)
    (subst (λ (n : NetState). GoesOn declared [] base old old net n now_queue r r) (sym passes.net_is) (stays-on declared base old net now_queue r (passes.queue_is ∙ at.events_is) at.places_is at.ready at.sound)))

-- one packet of it
record OneOn {Own : Type 0} (h : Held) (declared : List Declared) (packets : List Held) (base : List Event) (old new : Seen Own) (net now_net : NetState) (now_queue : List Event) (r : Release) : Type 0 where
  loss : PacketLoss
  on : GoesOn declared packets base old new net now_net now_queue r (next_release loss r h)

module _ {Own : Type 0} (Tells : Type 0) (h : Held) (sent : List Held) (declared : List Declared) (base : List Event) (old new : Seen Own) (net now_net : NetState) (queue now_queue : List Event) (r : Release) (told : Tells) (keeps : Conforming new) (are : AreDeclaredFrom 1 declared)
    (at : Stands declared base old net queue r) where
  there : is_viewed h.0 net.views ≡ true → JoinedAt h.0 (state old)
  there is = viewed-joined h.0 net.views (state old) (at.ready.agrees h.0) is (switch_of h.0 (state old)) refl

  loses-on : (packets : List Held) (loss : PacketLoss) (q : Release) → ((s : SwitchState) → release_at (Some s) loss r h ≡ went_out h.0 s q) → q.places ≡ r.places → q.events ≡ r.events → q.left ≡ r.left → q.packets ≡ r.packets ++ packets
      → LosesPacket Tells packets h old new net now_net queue now_queue → GoesOn declared packets base old new net now_net now_queue r (next_release loss r h)
  loses-on packets loss q by places_is events_is left_is packets_is loses =
      let s = there loses.viewed in
      let out = loses.is_lost.out told (ready-joined old net at.ready h.0 loses.viewed) in
      let number = (switch-in_time old (Conforming-before told loses.continues keeps) h.0 s.switch s.stands).number in
      subst (λ (next : Release). GoesOn declared packets base old new net now_net now_queue r next)
      (sym (at-joined h declared base old net queue r at loss s.switch s.stands ∙ by (corrected_switch (shown_by net h.0) s.switch)))
      (out-on h declared base old net queue r at new now_net now_queue are packets s.switch s.stands number out loses.net_is loses.queue_is q places_is events_is left_is packets_is)

  one-on : ReleasesOne Tells h sent old new net now_net queue now_queue → OneOn h declared sent base old new net now_net now_queue r
  one-on (inl sends) =
      let s = there sends.1 in
      let step = sends.2.in_step s.switch told keeps s.stands (at.ready.waits h.0) in
      let none_lost = losses-still old new _ (sends.2.waits.hears.told told) (packet-loses-none h.0 net.xid h.1 sends.2.waits.got) in
      subst (λ (ps : List Held). OneOn h declared ps base old new net now_net now_queue r) (sym sends.0)
      (record { loss = Stays; on = sent-on h declared base old net queue r at new now_net now_queue are s.switch s.stands none_lost step })
  one-on (inr (inl passes)) =
      subst (λ (ps : List Held). OneOn h declared ps base old new net now_net now_queue r) (sym passes.0)
      (record { loss = Stays; on = passed-on h declared base old new net now_net queue now_queue r passes.1 at })
  one-on (inr (inr (inl loses))) =
      subst (λ (ps : List Held). OneOn h declared ps base old new net now_net now_queue r) (sym loses.0)
      (record { loss = BeforeSent; on = loses-on [] BeforeSent r (λ s. refl) refl refl refl (sym (append-nil r.packets)) loses.1 })
  one-on (inr (inr (inr loses))) =
      subst (λ (ps : List Held). OneOn h declared ps base old new net now_net now_queue r) (sym loses.0)
      (record { loss = AfterSent; on = loses-on (h ∷ []) AfterSent (record r { packets = r.packets ++ h ∷ [] }) (λ s. refl) refl refl refl refl loses.1 })

on-then : {Own : Type 0} (declared : List Declared) (ps qs : List Held) (base : List Event) (old mid new : Seen Own) (net mid_net now_net : NetState) (mid_queue now_queue : List Event) (r middle next : Release) → GoesOn declared ps base old mid net mid_net mid_queue r middle
    → GoesOn declared qs base mid new mid_net now_net now_queue middle next → GoesOn declared (ps ++ qs) base old new net now_net now_queue r next
on-then declared ps qs base old mid new net mid_net now_net mid_queue now_queue r middle next first later = record {
  places_is = later.places_is;
  events_is = later.events_is;
  packets_is = later.packets_is ∙ ap (λ (xs : List Held). xs ++ qs) first.packets_is ∙ append_assoc r.packets ps qs;
  left = first.left ++ later.left;
  left_is = later.left_is ∙ ap (λ (es : List Event). es ++ later.left) first.left_is ∙ append_assoc r.left first.left later.left;
  leaves = leaves-then old mid new net mid_net now_net first.left later.left first.leaves later.leaves;
  ready = later.ready;
  sound = later.sound;
  net_is = later.net_is
      ∙ ap (λ (n : NetState). record (lose_all (leavers later.left) n) { xid = now_net.xid }) first.net_is
      ∙ ap (λ (n : NetState). record n { xid = now_net.xid }) (lose_all-xid (leavers later.left) (lose_all (leavers first.left) net) mid_net.xid)
      ∙ ap (λ (n : NetState). record n { xid = now_net.xid }) (sym (lose_all-append (leavers first.left) (leavers later.left) net))
      ∙ ap (λ (ds : List ℕ). record (lose_all ds net) { xid = now_net.xid }) (sym (leavers-append first.left later.left));
}

-- a whole release, with what becomes of the switches of its packets
record AllOn {Own : Type 0} (held : List Held) (declared : List Declared) (packets : List Held) (base : List Event) (old new : Seen Own) (net now_net : NetState) (now_queue : List Event) (r : Release) : Type 0 where
  losing : List PacketLoss
  final : Release
  is : fold release_one (record r { losing = losing }) held ≡ final
  none_more : final.losing ≡ []
  on : GoesOn declared packets base old new net now_net now_queue r final

all-on : {Own : Type 0} (Tells : Type 0) (held sent : List Held) (declared : List Declared) (base : List Event) (old new : Seen Own) (net now_net : NetState) (queue now_queue : List Event) (r : Release) → Tells → Conforming new → AreDeclaredFrom 1 declared
    → ReleasesAll Tells held sent old new net now_net queue now_queue → Stands declared base old net queue r → AllOn held declared sent base old new net now_net now_queue r
all-on Tells [] sent declared base old new net now_net queue now_queue r told keeps are all at =
    subst (λ (ps : List Held). AllOn [] declared ps base old new net now_net now_queue r) (sym all.0)
    (subst (λ (w : Seen _). AllOn [] declared [] base old w net now_net now_queue r) (sym all.1)
    (subst (λ (n : NetState). AllOn [] declared [] base old old net n now_queue r) (sym all.2) (record {
      losing = [];
      final = record r { losing = [] };
      is = refl;
      none_more = refl;
      on = let stays = stays-on declared base old net now_queue r (all.3 ∙ at.events_is) at.places_is at.ready at.sound in record {
        places_is = stays.places_is;
        events_is = stays.events_is;
        packets_is = stays.packets_is;
        left = stays.left;
        left_is = stays.left_is;
        leaves = stays.leaves;
        ready = stays.ready;
        sound = stays.sound;
        net_is = stays.net_is;
      };
    })))
all-on Tells (h ∷ more) sent declared base old new net now_net queue now_queue r told keeps are all at =
    let f = first-of Tells h more sent old new net now_net queue now_queue all in
    let later = releases-continue Tells more f.later f.mid new f.mid_net now_net f.mid_queue now_queue f.rest in
    let before = one-continues Tells h f.first old f.mid net f.mid_net queue f.mid_queue f.one in
    let first = one-on Tells h f.first declared base old f.mid net f.mid_net queue f.mid_queue r told (Conforming-before told later keeps) are at f.one in
    let middle = next_release first.loss r h in
    let stands : Stands declared base f.mid f.mid_net f.mid_queue middle =
    record { given = at.given ∙ ap (λ (g : Given _). g.declared) (sym before.given); places_is = first.on.places_is; events_is = first.on.events_is; ready = first.on.ready; sound = first.on.sound } in
    let rest = all-on Tells more f.later declared base f.mid new f.mid_net now_net f.mid_queue now_queue middle told keeps are f.rest stands in
    subst (λ (ps : List Held). AllOn (h ∷ more) declared ps base old new net now_net now_queue r) (sym f.sent_is) (record {
      losing = first.loss ∷ rest.losing;
      final = rest.final;
      is = ap (λ (q : Release). fold release_one q more) (losing-kept (switch_at h.0 r.places) first.loss r h rest.losing) ∙ rest.is;
      none_more = rest.none_more;
      on = on-then declared f.first f.later base old f.mid new net f.mid_net now_net f.mid_queue now_queue r middle rest.final first.on rest.on;
    })

-- ---- The whole

begins : {Own : Type 0} (old : Seen Own) (net : NetState) (queue notices : List Event) (losing : List PacketLoss) → Ready old net → Sound (state old)
    → Stands old.given.declared queue old net (queue ++ notices) (none_released losing (shown_places old.given.declared (shown_by net) (state old)) notices)
begins old net queue notices losing ready sound = record { given = refl; places_is = refl; events_is = refl; ready = ready; sound = sound }

-- A release: the reference controller releases the same and loses the same, and its switches stand then as the world's do.
pub release-shown : {Own : Type 0} (Tells : Type 0) (held : HeldBack) (sent : List Held) (old new : Seen Own) (net now_net : NetState) (queue now_queue : List Event) → Tells → Conforming new
    → ReleasesAll Tells held.packets sent old new net now_net (queue ++ held.notices) now_queue → Ready old net → Sound (state old) → ReleaseShown held sent old new net now_net queue now_queue
unfolding release
release-shown Tells held sent old new net now_net queue now_queue told keeps all ready sound =
    let declared = old.given.declared in
    let from = queue ++ held.notices in
    let later = releases-continue Tells held.packets sent old new net now_net from now_queue all in
    let are : AreDeclaredFrom 1 declared = subst (λ (g : Given _). AreDeclaredFrom 1 g.declared) later.given keeps.declared in
    let r = none_released [] (shown_places declared (shown_by net) (state old)) held.notices in
    let whole = all-on Tells held.packets sent declared queue old new net now_net from now_queue r told keeps are all (begins old net queue held.notices [] ready sound) in
    let moves = release-moves Tells held.packets sent old new net now_net from now_queue told (ready-joined old net ready) all in
    record {
      losing = whole.losing;
      release_is = whole.final;
      is = sym whole.is;
      places = sym whole.on.places_is;
      events = whole.on.events_is;
      packets = whole.on.packets_is;
      none_more = whole.none_more;
      leaves = subst (λ (es : List Event). LeavesBy old new net now_net es) (sym whole.on.left_is) whole.on.leaves;
      released_is = released-on old new moves.steps moves.history ∙ ap (λ (ps : List Held). released_of old ++ ps) (moves.released_is ∙ sym whole.on.packets_is);
      ready = whole.on.ready;
      sound = whole.on.sound;
      net_is = whole.on.net_is ∙ ap (λ (es : List Event). record (lose_all (leavers es) net) { xid = now_net.xid }) (sym whole.on.left_is);
    }

-- ---- Whether all is ready, whatever the entries are

one-ready : {Own : Type 0} (Tells : Type 0) (h : Held) (sent : List Held) (old new : Seen Own) (net now_net : NetState) (queue now_queue : List Event) → Tells → Conforming new → ReleasesOne Tells h sent old new net now_net queue now_queue → Ready old net → Ready new now_net
one-ready Tells h sent old new net now_net queue now_queue told keeps (inl sends) ready =
    let s = viewed-joined h.0 net.views (state old) (ready.agrees h.0) sends.1 (switch_of h.0 (state old)) refl in
    step-ready h s.switch old new net now_net queue now_queue s.stands (sends.2.in_step s.switch told keeps s.stands (ready.waits h.0)) ready
one-ready Tells h sent old new net now_net queue now_queue told keeps (inr (inl passes)) ready =
    subst (λ (n : NetState). Ready new n) (sym passes.1.net_is) (subst (λ (w : Seen _). Ready w net) (sym passes.1.seen) ready)
one-ready Tells h sent old new net now_net queue now_queue told keeps (inr (inr (inl loses))) ready =
    let s = viewed-joined h.0 net.views (state old) (ready.agrees h.0) loses.1.viewed (switch_of h.0 (state old)) refl in
    lost-ready h.0 [] s.switch old new net now_net s.stands (loses.1.is_lost.out told (ready-joined old net ready h.0 loses.1.viewed)) loses.1.net_is ready
one-ready Tells h sent old new net now_net queue now_queue told keeps (inr (inr (inr loses))) ready =
    let s = viewed-joined h.0 net.views (state old) (ready.agrees h.0) loses.1.viewed (switch_of h.0 (state old)) refl in
    lost-ready h.0 (h ∷ []) s.switch old new net now_net s.stands (loses.1.is_lost.out told (ready-joined old net ready h.0 loses.1.viewed)) loses.1.net_is ready

pub releases-ready : {Own : Type 0} (Tells : Type 0) (held sent : List Held) (old new : Seen Own) (net now_net : NetState) (queue now_queue : List Event) → Tells → Conforming new → ReleasesAll Tells held sent old new net now_net queue now_queue → Ready old net → Ready new now_net
releases-ready Tells [] sent old new net now_net queue now_queue told keeps all ready =
    subst (λ (n : NetState). Ready new n) (sym all.2) (subst (λ (w : Seen _). Ready w net) (sym all.1) ready)
releases-ready Tells (h ∷ more) sent old new net now_net queue now_queue told keeps all ready =
    let f = first-of Tells h more sent old new net now_net queue now_queue all in
    let later = releases-continue Tells more f.later f.mid new f.mid_net now_net f.mid_queue now_queue f.rest in
    releases-ready Tells more f.later f.mid new f.mid_net now_net f.mid_queue now_queue told keeps f.rest
    (one-ready Tells h f.first old f.mid net f.mid_net queue f.mid_queue told (Conforming-before told later keeps) f.one ready)

-- ---- Where it stopped

mid-keeps : {Own : Type 0} {Tells : Type 0} {packets : List Held} (old mid new : Seen Own) → Continues Tells old new → Continues Tells old mid → MovesBy packets mid new → Conforming new → Conforming mid
mid-keeps old mid new whole before moves keeps = Conforming-front mid new moves.steps (whole.given ∙ sym before.given) moves.history keeps

-- a packet that made its switch send too many messages
flood-stops : {Own : Type 0} (Tells : Type 0) (h : Held) (s : SwitchState) (old mid new : Seen Own) (net : NetState) (fault : TxnFault) → Tells → Continues Tells old new → Continues Tells old mid → switch_of h.0 (state mid) ≡ Some s
    → IfFlooded Tells (asked_from h.0 net.xid) (packet_steps h.0 net.xid h.1) mid new fault → IsFloodBy h s fault → (d : ℕ) × ((fault ≡ Flooded d flood) × FloodedByPacket d old new)
flood-stops Tells h s old mid new net (Flooded of n) told whole before stands floods by =
    let first : WorldStep = Acted (Sent h.0 (message_bytes net.xid (PacketOut h.1))) in
    let rest = barrier_sent (asked_from h.0 net.xid) ∷ wait_steps (asked_from h.0 net.xid) floods.got in
    let by_packet : FloodedByPacket h.0 old new = record {
      mid = mid;
      given = before.given ∙ sym whole.given;
      before = before.told told;
      packet = h.1;
      switch = s;
      stands = stands;
      many = by.2;
      xid = net.xid;
      sent = (rest, floods.told told ∙ sym (append_assoc mid.history (first ∷ []) rest));
    } in
    (h.0, (ap₂ flooded_fault by.0 by.1, by_packet))
  where
    flooded_fault : ℕ → ℕ → TxnFault
    flooded_fault d count = Flooded d count
flood-stops Tells h s old mid new net (SwitchBroke of bytes) told whole before stands floods by = absurd by
flood-stops Tells h s old mid new net (Diverged of key answer) told whole before stands floods by = absurd by
flood-stops Tells h s old mid new net NoMemory told whole before stands floods by = absurd by

-- The fault is one of memory, or a packet made its switch send too many messages.
pub release-plain : {Own : Type 0} (Tells : Type 0) (start : ℕ) (old new : Seen Own) (net : NetState) (queue : List Event) (fault : TxnFault) → Tells → Conforming new → Continues Tells old new → StopsRelease Tells start old new net queue fault → Ready old net → StopsFor old new fault
release-plain Tells start old new net queue fault told keeps whole stops ready =
    let from = queue ++ net.held.notices in
    let before = releases-continue Tells stops.front stops.sent old stops.mid (committed start net) stops.mid_net from stops.mid_queue stops.before in
    let mid_keeps = mid-keeps old stops.mid new whole before (stops.breaks.moves told) keeps in
    let first : Ready old (committed start net) = record { waits = ready.waits; agrees = ready.agrees; known = ready.known } in
    let then_ready = releases-ready Tells stops.front stops.sent old stops.mid (committed start net) stops.mid_net from stops.mid_queue told mid_keeps stops.before first in
    let d = stops.broken.0 in
    let s = viewed-joined d stops.mid_net.views (state stops.mid) (then_ready.agrees d) stops.breaks.viewed (switch_of d (state stops.mid)) refl in
    elim (stops.breaks.plain s.switch told keeps s.stands (then_ready.waits d)) [
      | inl plain ↦ inl plain
      | inr by ↦ inr (flood-stops Tells stops.broken s.switch old stops.mid new stops.mid_net fault told whole before s.stands stops.breaks.flooded by)
    ]
