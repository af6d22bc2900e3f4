-- What the engine knows after a port came, went or changed: the news of it is one event, and the known ports are those of the switch.
use Rattle.std.proofs.Common.{◌≡◌, ◌≢◌, ◌==◌, ◌⊎◌, ℕ, suc, ◌+◌, ◌-◌, ◌%◌, ◌^◌, ◌<◌, ◌≤◌, Bool, true, false, not, List, [], ◌∷◌, ◌++◌, length, map, filter, nat_lt, Option, Some, None, Ok, if◌then◌else◌, refl, sym, ap, ap₂, ◌∙◌, subst, inl, inr, arith, length-append}
use Rattle.std.proofs.lemmas.Bool.{cases_Bool, cases_lt, eqb-true, eqb-false, eq-eqb, ne_eqb, lt-ltb, le-ltb, and_parts}
use Rattle.std.proofs.lemmas.List.{append-nil, length-replicate}
use Rattle.std.proofs.lemmas.Fmt.{length-decimal-le}
use Rattle.std.specs.Prelude.{is_none, codes, replicate}
use Rattle.std.specs.Fmt.{decimal}
use Rattle.std.proofs.lemmas.Option.{same_Some}
use Rattle.of_types.specs.Fields.{number_bytes}
use Rattle.of_types.specs.laws.FieldLaws.{length-number_bytes}
use Rattle.of_types.specs.Layout.{AreFields}
use Rattle.of_types.specs.declared.port_desc.PortDesc.{PortDesc}
use Rattle.of_types.specs.declared.journal.PortChange.{PortChange}
use Rattle.of_types.specs.declared.journal.PortChange.TheVariants as changes
use Rattle.of_types.specs.declared.journal.Stimulus.TheVariants.{Port}
use Rattle.of_wire.specs.declared.bodies.PortStatus.{PortStatus as Status}
use Rattle.of_wire.specs.declared.message.Message.TheVariants.{PortStatus}
use Rattle.of_wire.specs.Spelling.{port_fields, message_size}
use Rattle.of_wire.specs.Grammar.{IsMessage, enveloped}
use Rattle.of_wire.specs.Reading.{reading_of}
use Rattle.of_wire.specs.laws.ReadingLaws.{reading_of-message_bytes}
use Rattle.flow_table.specs.declared.view.ViewRow.{ViewRow}
use Rattle.flow_table.specs.Table.{TableState}
use Rattle.flow_table.specs.Switch.{PortState, SwitchState, most_ports, new_port, port_at, insert_port, hw_addr, port_name, port_desc}
use Rattle.flow_table.specs.Step.{port_status, set_link, same_bool, ports_after_link, sent_by_link, can_add, without_port, sent_by_deletion, after_port_change, sent_by_port_change, after_stimulus, sent_by_stimulus}
use Rattle.undo_laws.specs.CorrectedSwitch.{corrected_switch}
use Rattle.undo_laws.specs.laws.CorrectedSwitchLaws.{stimulus-shown, sent-shown}
use Rattle.lego_model.specs.Answers.{rows_of_table}
use Rattle.lego_model.specs.Events.{ports_of, events_of}
use Rattle.outside.specs.declared.step.WorldStep.TheVariants.{From}
use Rattle.net_txn.specs.declared.ports.KnownPorts.{KnownPorts}
use Rattle.net_txn.specs.Arriving.{ports_after, known_after, with_port as put_port}
use Rattle.switch_laws.specs.Shown.{correction_in}
use Rattle.switch_laws.specs.laws.CorrectionLaws.{goes_along}
use Rattle.batch_laws.specs.Knowledge.{Knowledge, handled_all}
use Rattle.batch_laws.specs.Calm.{known_ports}
use Rattle.batch_laws.specs.Lasting.{AscendPorts, Lasts}
use Rattle.batch_laws.specs.laws.TellLaws.{known-handled, is-known, view-kept}
use Rattle.batch_laws.specs.Tells.{SwitchHandled, SwitchKnown}
use Rattle.batch_laws.specs.laws.HistoryLaws.{none_is}

-- ---- News of a port can be read

name-length : (number : ℕ) → number ≤ 65280 → length (port_name number) ≡ 16
unfolding port_name
name-length number within =
    let text : List ℕ = codes "p" ++ decimal number in
    let digits : length (decimal number) ≤ 5 = length-decimal-le 5 number (omega arith) (omega (arith, within)) (omega (arith, within)) in
    let front : length text ≡ suc (length (decimal number)) = refl in
    omega (arith, length-append text (replicate (16 - length text) 0), length-replicate {A = ℕ} (16 - length text) 0, digits, front)

address-length : (d number : ℕ) → length (hw_addr d number) ≡ 6
unfolding hw_addr
address-length d number =
    omega (arith, length-append (number_bytes 2 (d % 2 ^ 16)) (number_bytes 2 number), length-number_bytes 2 (d % 2 ^ 16), length-number_bytes 2 number)

state-fits : (p : PortState) → (if p.link then 0 else 1) < 256 ^ 4
state-fits p = elim (cases_Bool p.link) [ inl up ↦ rw up (omega arith) | inr down ↦ rw down (omega arith) ]

-- the description of a port fits its fields
pub desc-fits : (d : ℕ) (p : PortState) → p.number ≤ 65280 → p.config < 2 ^ 32 → AreFields (port_fields (port_desc d p))
desc-fits d p within config =
    (omega (arith, within), (address-length d p.number, (name-length p.number within, (config, (state-fits p, (omega arith, (omega arith, (omega arith, (omega arith, tt)))))))))

abbrev status_of : ℕ → ℕ → PortState → Status
status_of reason d p = record { reason = reason; port = port_desc d p }

status-message : (reason d : ℕ) (p : PortState) → reason < 256 → p.number ≤ 65280 → p.config < 2 ^ 32 → IsMessage (PortStatus (status_of reason d p))
unfolding message_size
status-message reason d p small within config = record { fields = (small, desc-fits d p within config); tail = tt; size = omega arith }

status-read : (reason d : ℕ) (p : PortState) → reason < 256 → p.number ≤ 65280 → p.config < 2 ^ 32 → reading_of (port_status reason d p) ≡ Ok (enveloped 0 (PortStatus (status_of reason d p)))
unfolding port_status
status-read reason d p small within config = reading_of-message_bytes 0 (PortStatus (status_of reason d p)) (omega arith) (status-message reason d p small within config)

-- ---- Known ports

known-here : (d : ℕ) (status : Status) (ks : List KnownPorts) (ps : List PortDesc) → known_ports d ks ≡ Some ps → known_ports d (known_after d status ks) ≡ Some (ports_after status ps)
known-here d status [] ps is = absurd cc
known-here d status (k ∷ ks) ps is =
    elim (cases_Bool (k.dpid == d)) [
      | inl here ↦ rw here (rw here (ap (λ (xs : List PortDesc). some_ports (ports_after status xs)) (same_Some k.ports ps (rw here at is))))
      | inr other ↦ rw other (rw other (known-here d status ks ps (rw other at is)))
    ]
  where
    some_ports : List PortDesc → Option (List PortDesc)
    some_ports xs = Some xs

known-other : (d e : ℕ) (status : Status) (ks : List KnownPorts) → e ≢ d → known_ports e (known_after d status ks) ≡ known_ports e ks
known-other d e status [] other = refl
known-other d e status (k ∷ ks) other =
    elim (cases_Bool (k.dpid == d)) [
      | inl here ↦
          let apart : (k.dpid == e) ≡ false = ne_eqb k.dpid e (λ same. other (sym same ∙ eqb-true k.dpid d here)) in
          rw here (rw apart refl)
      | inr there ↦ rw there (ap (λ (o : Option (List PortDesc)). if k.dpid == e then Some k.ports else o) (known-other d e status ks other))
    ]

-- ---- Lists of ports

abbrev changed_at : ℕ → (PortState → PortState) → PortState → PortState
changed_at n g p = if p.number == n then g p else p

pub some_is_none : {X : Type 0} (x : X) → Some x ≡ None → ⊥
some_is_none x e = cc

one_port : (p q : PortState) → Some p ≡ Some q → p ≡ q
one_port p q e = cc

-- where no port has the number
changed-absent : (n : ℕ) (g : PortState → PortState) (ps : List PortState) → port_at n ps ≡ None → map (changed_at n g) ps ≡ ps
changed-absent n g [] none = refl
changed-absent n g (p ∷ ps) none =
    elim (cases_Bool (p.number == n)) [
      | inl here ↦ absurd (some_is_none p (rw here at none))
      | inr other ↦ rw other (ap (λ (xs : List PortState). p ∷ xs) (changed-absent n g ps (rw other at none)))
    ]

absent-above : (n least : ℕ) (ps : List PortState) → AscendPorts least ps → n < least → port_at n ps ≡ None
absent-above n least [] h lt = refl
absent-above n least (p ∷ ps) h lt =
    let apart : (p.number == n) ≡ false = ne_eqb p.number n (λ same. omega (arith, same, h.0, lt)) in
    rw apart (absent-above n (p.number + 1) ps h.3 (omega (arith, h.0, lt)))

found-from : (n least : ℕ) (ps : List PortState) (p : PortState) → AscendPorts least ps → port_at n ps ≡ Some p → least ≤ n
found-from n least ps p h is =
    elim (cases_lt n least) [
      | inl below ↦ absurd (some_is_none p (sym is ∙ absent-above n least ps h below))
      | inr within ↦ within
    ]

-- the port of a number has it, and stands within the bounds
record Found (n : ℕ) (p : PortState) : Type 0 where
  number : p.number ≡ n
  within : p.number ≤ 65280
  config : p.config < 2 ^ 32

found : (n least : ℕ) (ps : List PortState) (p : PortState) → AscendPorts least ps → port_at n ps ≡ Some p → Found n p
found n least [] p h is = absurd cc
found n least (q ∷ qs) p h is =
    elim (cases_Bool (q.number == n)) [
      | inl here ↦ subst (Found n) (one_port q p (rw here at is)) (record { number = eqb-true q.number n here; within = h.1; config = h.2 })
      | inr other ↦ found n (q.number + 1) qs p h.3 (rw other at is)
    ]

-- a change that changes nothing at the port of the number
changed-same : (n least : ℕ) (g : PortState → PortState) (ps : List PortState) (p : PortState) → AscendPorts least ps → port_at n ps ≡ Some p → g p ≡ p → map (changed_at n g) ps ≡ ps
changed-same n least g [] p h is same = refl
changed-same n least g (q ∷ qs) p h is same =
    elim (cases_Bool (q.number == n)) [
      | inl here ↦
          let this : q ≡ p = one_port q p (rw here at is) in
          let rest = changed-absent n g qs (absent-above n (q.number + 1) qs h.3 (omega (arith, eqb-true q.number n here))) in
          rw here (ap₂ (λ (x : PortState) xs. x ∷ xs) (ap g this ∙ same ∙ sym this) rest)
      | inr other ↦ rw other (ap (λ (xs : List PortState). q ∷ xs) (changed-same n (q.number + 1) g qs p h.3 (rw other at is) same))
    ]

put-same : (r s : PortDesc) (ss : List PortDesc) → r.port_no ≡ s.port_no → put_port r (s ∷ ss) ≡ r ∷ ss
put-same r s ss same =
    let not_below : nat_lt r.port_no s.port_no ≡ false = le-ltb _ _ (omega (arith, same)) in
    rw (not_below, eq-eqb r.port_no s.port_no same) refl

put-after : (r s : PortDesc) (ss : List PortDesc) → s.port_no < r.port_no → put_port r (s ∷ ss) ≡ s ∷ put_port r ss
put-after r s ss gt =
    let not_below : nat_lt r.port_no s.port_no ≡ false = le-ltb _ _ (omega (arith, gt)) in
    let apart : (r.port_no == s.port_no) ≡ false = ne_eqb _ _ (λ e. omega (arith, gt, e)) in
    rw (not_below, apart) refl

-- the port of the number changed
put-changed : (d n least : ℕ) (g : PortState → PortState) (ps : List PortState) (p : PortState) → ((q : PortState) → (g q).number ≡ q.number) → AscendPorts least ps → port_at n ps ≡ Some p
    → put_port (port_desc d (g p)) (map (port_desc d) ps) ≡ map (port_desc d) (map (changed_at n g) ps)
put-changed d n least g [] p keeps h is = absurd cc
put-changed d n least g (q ∷ qs) p keeps h is =
    elim (cases_Bool (q.number == n)) [
      | inl here ↦
          let this : q ≡ p = one_port q p (rw here at is) in
          let rest = changed-absent n g qs (absent-above n (q.number + 1) qs h.3 (omega (arith, eqb-true q.number n here))) in
          rw here
          (put-same (port_desc d (g p)) (port_desc d q) (map (port_desc d) qs) (keeps p ∙ ap (λ (x : PortState). x.number) (sym this))
          ∙ ap₂ (λ (x : PortState) xs. port_desc d x ∷ map (port_desc d) xs) (ap g (sym this)) (sym rest))
      | inr other ↦
          let there : port_at n qs ≡ Some p = rw other at is in
          let at : (g p).number ≡ n = keeps p ∙ (found n (q.number + 1) qs p h.3 there).number in
          let above : q.number + 1 ≤ n = found-from n (q.number + 1) qs p h.3 there in
          rw other
          (put-after (port_desc d (g p)) (port_desc d q) (map (port_desc d) qs) (omega (arith, at, above))
          ∙ ap (λ (xs : List PortDesc). port_desc d q ∷ xs) (put-changed d n (q.number + 1) g qs p keeps h.3 there))
    ]

-- a port that is new
put-new : (d : ℕ) (p : PortState) (ps : List PortState) → port_at p.number ps ≡ None → put_port (port_desc d p) (map (port_desc d) ps) ≡ map (port_desc d) (insert_port p ps)
put-new d p [] none = refl
put-new d p (q ∷ qs) none =
    elim (cases_lt p.number q.number) [
      | inl below ↦ rw (lt-ltb p.number q.number below) refl
      | inr behind ↦ elim (cases_Bool (q.number == p.number)) [
        | inl here ↦ absurd (some_is_none q (rw here at none))
        | inr other ↦
            let apart : (p.number == q.number) ≡ false = ne_eqb p.number q.number (λ e. eqb-false q.number p.number other (sym e)) in
            rw (le-ltb p.number q.number behind, apart) (ap (λ (xs : List PortDesc). port_desc d q ∷ xs) (put-new d p qs (rw other at none)))
      ]
    ]

-- a port that is gone
without-desc : (d n : ℕ) (ps : List PortState) → filter (λ p. not (p.port_no == n)) (map (port_desc d) ps) ≡ map (port_desc d) (without_port n ps)
without-desc d n [] = refl
without-desc d n (p ∷ ps) =
    elim (cases_Bool (p.number == n)) [
      | inl here ↦ rw here (without-desc d n ps)
      | inr other ↦ rw other (ap (λ (xs : List PortDesc). port_desc d p ∷ xs) (without-desc d n ps))
    ]

without-absent : (n : ℕ) (ps : List PortState) → port_at n ps ≡ None → without_port n ps ≡ ps
without-absent n [] none = refl
without-absent n (p ∷ ps) none =
    elim (cases_Bool (p.number == n)) [
      | inl here ↦ absurd (some_is_none p (rw here at none))
      | inr other ↦ rw other (ap (λ (xs : List PortState). p ∷ xs) (without-absent n ps (rw other at none)))
    ]

-- ---- One switch

-- nothing was sent, and the ports are as they were
record Silent (sent : List (List ℕ)) (before now : SwitchState) : Type 0 where
  none : sent ≡ []
  same : now ≡ before

-- one news of a port was sent
record Told (d : ℕ) (sent : List (List ℕ)) (before now : SwitchState) : Type 0 where
  status : Status
  bytes : List ℕ
  one : sent ≡ bytes ∷ []
  read : reading_of bytes ≡ Ok (enveloped 0 (PortStatus status))
  table : now.table ≡ before.table
  ports : ports_of now ≡ ports_after status (ports_of before)

abbrev Tells : ℕ → List (List ℕ) → SwitchState → SwitchState → Type 0
Tells d sent before now = Silent sent before now ⊎ Told d sent before now

link-told : (d n : ℕ) (up : Bool) (s : SwitchState) → s.declared.dpid ≡ d → AscendPorts 1 s.ports → (o : Option PortState) → port_at n s.ports ≡ o
    → Tells d (sent_by_link up s.declared.dpid o) s (record s { ports = ports_after_link up n s.ports })
link-told d n up s here h None is = inl (record { none = refl; same = ap (λ (ps : List PortState). record s { ports = ps }) (changed-absent n (set_link up) s.ports is) })
link-told d n up s here h (Some p) is =
    elim (cases_Bool (same_bool p.link up)) [
      | inl same ↦
          rw same (inl (record {
            none = refl;
            same = ap (λ (ps : List PortState). record s { ports = ps }) (changed-same n 1 (set_link up) s.ports p h is (already p.link up same p refl));
          }))
      | inr differs ↦
          let f = found n 1 s.ports p h is in
          rw differs (inr (record {
            status = status_of 2 s.declared.dpid (set_link up p);
            bytes = port_status 2 s.declared.dpid (set_link up p);
            one = refl;
            read = status-read 2 s.declared.dpid (set_link up p) (omega arith) f.within f.config;
            table = refl;
            ports = sym (put-changed s.declared.dpid n 1 (set_link up) s.ports p (λ q. refl) h is);
          }))
    ]
  where
    already : (a b : Bool) → same_bool a b ≡ true → (p : PortState) → p.link ≡ a → set_link b p ≡ p
    already true true h p e = ap (λ (x : Bool). set_link x p) (sym e)
    already false false h p e = ap (λ (x : Bool). set_link x p) (sym e)
    already true false h p e = absurd cc
    already false true h p e = absurd cc

added-told : (d n : ℕ) (s : SwitchState) → 1 ≤ n → n ≤ 65280 → Tells d (sent_by_port_change n changes.Add s) s (after_port_change n changes.Add s)
unfolding after_port_change sent_by_port_change
added-told d n s low high =
    elim (cases_Bool (can_add n s.ports)) [
      | inl can ↦
          let parts = and_parts (is_none (port_at n s.ports)) (nat_lt (length s.ports) most_ports) can in
          rw can (inr (record {
            status = status_of 0 s.declared.dpid (new_port n);
            bytes = port_status 0 s.declared.dpid (new_port n);
            one = refl;
            read = status-read 0 s.declared.dpid (new_port n) (omega arith) high (omega arith);
            table = refl;
            ports = sym (put-new s.declared.dpid (new_port n) s.ports (none_is (port_at n s.ports) parts.0));
          }))
      | inr cannot ↦ rw cannot (inl (record { none = refl; same = refl }))
    ]

deleted-told : (d n : ℕ) (s : SwitchState) → AscendPorts 1 s.ports → (o : Option PortState) → port_at n s.ports ≡ o → Tells d (sent_by_deletion s.declared.dpid o) s (record s { ports = without_port n s.ports })
deleted-told d n s h None is = inl (record { none = refl; same = ap (λ (ps : List PortState). record s { ports = ps }) (without-absent n s.ports is) })
deleted-told d n s h (Some p) is =
    let f = found n 1 s.ports p h is in
    inr (record {
      status = status_of 1 s.declared.dpid p;
      bytes = port_status 1 s.declared.dpid p;
      one = refl;
      read = status-read 1 s.declared.dpid p (omega arith) f.within f.config;
      table = refl;
      ports = sym (without-desc s.declared.dpid n s.ports) ∙ ap (λ (m : ℕ). filter (λ (q : PortDesc). not (q.port_no == m)) (ports_of s)) (sym f.number);
    })

change-told : (d n : ℕ) (change : PortChange) (s : SwitchState) → s.declared.dpid ≡ d → AscendPorts 1 s.ports → 1 ≤ n → n ≤ 65280 → Tells d (sent_by_port_change n change s) s (after_port_change n change s)
unfolding after_port_change sent_by_port_change
change-told d n changes.Up s here h low high = link-told d n true s here h (port_at n s.ports) refl
change-told d n changes.Down s here h low high = link-told d n false s here h (port_at n s.ports) refl
change-told d n changes.Add s here h low high = added-told d n s low high
change-told d n changes.Delete s here h low high = deleted-told d n s h (port_at n s.ports) refl

-- ---- The whole

-- the engine handles the news
status-handled : (d : ℕ) (bytes : List ℕ) (status : Status) (s : SwitchState) (rows : List ViewRow) (k : Knowledge) → SwitchKnown d s rows k → reading_of bytes ≡ Ok (enveloped 0 (PortStatus status))
    → handled_all (map (From d) (bytes ∷ [])) k ≡ record k { ports = known_after d status k.ports; queue = k.queue ++ events_of d (bytes ∷ []) }
unfolding events_of
status-handled d bytes status s rows k known read =
    known-handled d bytes k (is-known d rows k known.rows_are)
    ∙ rw read refl

port-by : (d n : ℕ) (change : PortChange) (s : SwitchState) (rows : List ViewRow) (k : Knowledge) (sent : List (List ℕ)) → SwitchKnown d s rows k → sent ≡ sent_by_stimulus (Port n change) s → Tells d sent s (after_stimulus (Port n change) s)
    → SwitchHandled d (Port n change) s rows k (handled_all (map (From d) sent) k)
unfolding events_of
port-by d n change s rows k sent known sent_is (inl silent) =
    let x = Port n change in
    let after : Knowledge = k in
    let nothing : handled_all (map (From d) sent) k ≡ k = ap (λ (bs : List (List ℕ)). handled_all (map (From d) bs) k) silent.none in
    let reference : sent_by_stimulus x (corrected_switch (correction_in rows) s) ≡ [] = sent-shown (correction_in rows) (goes_along rows) x s tt ∙ sym sent_is ∙ silent.none in
    subst (SwitchHandled d x s rows k) (sym nothing) (record {
      rows_now = rows;
      views = view-kept d rows k.views known.rows_are;
      queue = sym (append-nil k.queue) ∙ ap (λ (bs : List (List ℕ)). k.queue ++ events_of d bs) (sym reference);
      agrees = known.agrees ∙ ap (λ (y : SwitchState). rows_of_table y.table.entries) (sym silent.same);
      shown = sym (stimulus-shown (correction_in rows) (goes_along rows) x s tt);
      ports = known.ports ∙ ap (λ (y : SwitchState). some_ports (ports_of y)) (sym silent.same);
      others = λ e other. refl;
      moment = refl;
    })
  where
    some_ports : List PortDesc → Option (List PortDesc)
    some_ports ps = Some ps
port-by d n change s rows k sent known sent_is (inr told) =
    let x = Port n change in
    let done = ap (λ (bs : List (List ℕ)). handled_all (map (From d) bs) k) told.one ∙ status-handled d told.bytes told.status s rows k known told.read in
    let reference : sent_by_stimulus x (corrected_switch (correction_in rows) s) ≡ told.bytes ∷ [] = sent-shown (correction_in rows) (goes_along rows) x s tt ∙ sym sent_is ∙ told.one in
    subst (SwitchHandled d x s rows k) (sym done) (record {
      rows_now = rows;
      views = view-kept d rows k.views known.rows_are;
      queue = ap (λ (bs : List (List ℕ)). k.queue ++ events_of d bs) (sym reference);
      agrees = known.agrees ∙ ap (λ (t : TableState). rows_of_table t.entries) (sym told.table);
      shown = sym (stimulus-shown (correction_in rows) (goes_along rows) x s tt);
      ports = known-here d told.status k.ports (ports_of s) known.ports ∙ ap some_ports (sym told.ports);
      others = λ e other. known-other d e told.status k.ports other;
      moment = refl;
    })
  where
    some_ports : List PortDesc → Option (List PortDesc)
    some_ports ps = Some ps

pub port-switch : (d n : ℕ) (change : PortChange) (s : SwitchState) (rows : List ViewRow) (k : Knowledge) → SwitchKnown d s rows k → s.declared.dpid ≡ d → Lasts s.declared s → 1 ≤ n → n ≤ 65280
    → SwitchHandled d (Port n change) s rows k (handled_all (map (From d) (sent_by_stimulus (Port n change) s)) k)
unfolding after_stimulus sent_by_stimulus
port-switch d n change s rows k known here lasts low high =
    port-by d n change s rows k (sent_by_port_change n change s) known refl (change-told d n change s here lasts.ports low high)
