-- What the engine knows after a frame, counts, or bytes of a switch's own: nothing but more events that wait, as the switch keeps its rows
-- and what its ports are described as.
use Rattle.std.proofs.Common.{◌≡◌, ◌==◌, ◌⊎◌, ℕ, List, [], ◌∷◌, ◌++◌, length, map, nat_lt, Option, Some, None, Result, Ok, Err, refl, sym, ap, ◌∙◌, subst, inl, inr}
use Rattle.std.proofs.lemmas.Bool.{cases_Bool}
use Rattle.std.specs.Prelude.{IsTrue}
use Rattle.std.specs.List.{AllByRecursion, flat_map}
use Rattle.of_types.specs.Fields.{number_at}
use Rattle.of_types.specs.declared.port_desc.PortDesc.{PortDesc}
use Rattle.of_types.specs.declared.journal.Stimulus.{Stimulus}
use Rattle.of_types.specs.declared.journal.Stimulus.TheVariants.{Frame, Counts, Raw}
use Rattle.of_wire.specs.declared.kind.MessageKind.{MessageKind}
use Rattle.of_wire.specs.declared.kind.MessageKind.TheVariants as wire
use Rattle.of_wire.specs.declared.message.Message.{Message}
use Rattle.of_wire.specs.declared.message.Message.TheVariants.{Hello, Error, EchoRequest, EchoReply, Vendor, FeaturesRequest, FeaturesReply, GetConfigRequest, GetConfigReply, SetConfig, PacketIn, FlowRemoved, PortStatus, PacketOut, FlowMod, PortMod, StatsRequest, StatsReply, BarrierRequest, BarrierReply, QueueGetConfigRequest, QueueGetConfigReply}
use Rattle.of_wire.specs.declared.message.Envelope.{Envelope}
use Rattle.of_wire.specs.declared.fault.WireFault.{WireFault}
use Rattle.of_wire.specs.declared.fault.WireFault.TheVariants.{BadVersion, BadLength}
use Rattle.of_wire.specs.Kinds.{kind_of_number}
use Rattle.of_wire.specs.Reading.{has_length, front_of, body_of, reading_of}
use Rattle.flow_table.specs.declared.entry.Entry.{Entry}
use Rattle.flow_table.specs.declared.view.ViewRow.{ViewRow}
use Rattle.flow_table.specs.Table.{IsTable}
use Rattle.flow_table.specs.Hit.{with_counts}
use Rattle.flow_table.specs.Switch.{Declared, PortState, SwitchState, controller_number, port_at, port_desc}
use Rattle.flow_table.specs.Frames.{packet_in, sent_by_output, sent_by_outputs, entry_hit, is_silent, sent_by_miss, sent_by_hit, sent_by_lookup, takes, sent_by_frame}
use Rattle.flow_table.specs.Step.{after_stimulus, sent_by_stimulus}
use Rattle.undo_laws.specs.CorrectedSwitch.{IsNoMoment}
use Rattle.undo_laws.specs.laws.CorrectedSwitchLaws.{stimulus-shown, sent-shown}
use Rattle.lego_model.specs.Answers.{rows_of_table}
use Rattle.lego_model.specs.Events.{events_of}
use Rattle.outside.specs.Conforming.{may_be_raw}
use Rattle.outside.specs.declared.step.WorldStep.TheVariants.{From}
use Rattle.switch_laws.specs.Shown.{correction_in}
use Rattle.switch_laws.specs.laws.CorrectionLaws.{goes_along}
use Rattle.switch_laws.specs.Standing.{FaceKept}
use Rattle.switch_laws.specs.laws.FaceLaws.{face-same, face-frame}
use Rattle.batch_laws.specs.Knowledge.{Knowledge, handled_all}
use Rattle.batch_laws.specs.laws.TellLaws.{is-known, plain-handled, view-kept}
use Rattle.batch_laws.specs.Tells.{IsPlainRead, PlainBytes, AllPlain, SwitchHandled, SwitchKnown}
use Rattle.net_txn.specs.laws.PacketHeardLaws.{packet-type}

-- ---- A PACKET_IN is plain

pub front-kind : (bytes : List ℕ) (n : ℕ) (kind : MessageKind) → number_at 1 1 bytes ≡ n → kind_of_number n ≡ Some kind → (front_of bytes ≡ Ok kind) ⊎ ((fault : WireFault) × (front_of bytes ≡ Err fault))
unfolding front_of
front-kind bytes n kind type named =
    elim (cases_Bool (nat_lt (length bytes) 8)) [
      | inl short ↦ inr (BadLength, rw short refl)
      | inr enough ↦ elim (cases_Bool (number_at 1 0 bytes == 1)) [
        | inr other ↦ inr (BadVersion, rw (enough, other) refl)
        | inl version ↦ elim (cases_Bool (number_at 2 2 bytes == length bytes)) [
          | inr unlike ↦ inr (BadLength, rw (enough, version, type, named, unlike) refl)
          | inl size ↦ elim (cases_Bool (has_length kind (length bytes))) [
            | inl sized ↦ inl (rw (enough, version, type, named, size, sized) refl)
            | inr unsized ↦ inr (BadLength, rw (enough, version, type, named, size, unsized) refl)
          ]
        ]
      ]
    ]

plain-type : (bytes : List ℕ) → number_at 1 1 bytes ≡ 10 → PlainBytes bytes
unfolding reading_of body_of kind_of_number
plain-type bytes type =
    elim (front-kind bytes 10 wire.PacketIn type refl) [
      | inl is ↦ rw is tt
      | inr (fault, is) ↦ rw is tt
    ]

packet-plain : (reason in_port : ℕ) (frame : List ℕ) → PlainBytes (packet_in reason in_port frame)
unfolding packet_in
packet-plain reason in_port frame = plain-type _ (packet-type _)

-- ---- A switch sends PACKET_INs alone for a frame

module _ (P : List ℕ → Type 0) (packet : (reason in_port : ℕ) (frame : List ℕ) → P (packet_in reason in_port frame)) where
  sent-append : (xs ys : List (List ℕ)) → AllByRecursion P xs → AllByRecursion P ys → AllByRecursion P (xs ++ ys)
  sent-append [] ys all rest = rest
  sent-append (x ∷ xs) ys all rest = (all.0, sent-append xs ys all.1 rest)

  output-sent : (in_port : ℕ) (out : ℕ × List ℕ) → AllByRecursion P (sent_by_output in_port out)
  unfolding sent_by_output
  output-sent in_port out =
      elim (cases_Bool (out.0 == controller_number)) [
        | inl controller ↦ rw controller (packet 1 in_port out.1, tt)
        | inr other ↦ rw other tt
      ]

  outputs-sent : (in_port : ℕ) (outs : List (ℕ × List ℕ)) → AllByRecursion P (sent_by_outputs in_port outs)
  unfolding sent_by_outputs
  outputs-sent in_port [] = tt
  outputs-sent in_port (out ∷ outs) = sent-append (sent_by_output in_port out) (flat_map (sent_by_output in_port) outs) (output-sent in_port out) (outputs-sent in_port outs)

  hit-sent : (in_port : ℕ) (frame : List ℕ) (ports : List PortState) (o : Option Entry) → AllByRecursion P (sent_by_hit in_port frame ports o)
  unfolding sent_by_miss
  hit-sent in_port frame ports None =
      elim (cases_Bool (is_silent (port_at in_port ports))) [
        | inl silent ↦ rw silent tt
        | inr told ↦ rw told (packet 0 in_port frame, tt)
      ]
  hit-sent in_port frame ports (Some e) = outputs-sent in_port _

  pub frame-sent : (port : ℕ) (bytes : List ℕ) (s : SwitchState) → AllByRecursion P (sent_by_frame port bytes s)
  unfolding sent_by_frame sent_by_lookup
  frame-sent port bytes s =
      elim (cases_Bool (takes (port_at port s.ports))) [
        | inl taken ↦ rw taken (hit-sent port bytes s.ports (entry_hit port bytes s))
        | inr dropped ↦ rw dropped tt
      ]

pub frame-plain : (port : ℕ) (bytes : List ℕ) (s : SwitchState) → AllPlain (sent_by_frame port bytes s)
frame-plain port bytes s = frame-sent PlainBytes packet-plain port bytes s

-- ---- Bytes of its own are plain

unasked-plain : (m : Message) → IsTrue (may_be_raw (Ok (record { xid = 0; message = m }))) → IsPlainRead (Ok (record { xid = 0; message = m }))
unasked-plain (Hello payload) h = tt
unasked-plain (Error kind code payload) h = tt
unasked-plain (EchoRequest payload) h = tt
unasked-plain (EchoReply payload) h = tt
unasked-plain (Vendor payload) h = tt
unasked-plain FeaturesRequest h = tt
unasked-plain (FeaturesReply features) h = tt
unasked-plain GetConfigRequest h = tt
unasked-plain (GetConfigReply config) h = tt
unasked-plain (SetConfig config) h = tt
unasked-plain (PacketIn packet) h = tt
unasked-plain (FlowRemoved flow) h = absurd cc
unasked-plain (PortStatus status) h = absurd cc
unasked-plain (PacketOut packet) h = tt
unasked-plain (FlowMod flow) h = tt
unasked-plain (PortMod port) h = tt
unasked-plain (StatsRequest stats) h = tt
unasked-plain (StatsReply stats) h = tt
unasked-plain BarrierRequest h = tt
unasked-plain BarrierReply h = tt
unasked-plain (QueueGetConfigRequest payload) h = tt
unasked-plain (QueueGetConfigReply payload) h = tt

pub raw-plain : (r : Result Envelope WireFault) → IsTrue (may_be_raw r) → IsPlainRead r
raw-plain (Ok e) h = unasked-plain e.message h
raw-plain (Err fault) h = tt

-- ---- Counts keep the rows

rows-counts : (priority packets bytes : ℕ) (es : List Entry) → rows_of_table (with_counts priority packets bytes es) ≡ rows_of_table es
unfolding with_counts
rows-counts priority packets bytes [] = refl
rows-counts priority packets bytes (e ∷ es) =
    let rest = rows-counts priority packets bytes es in
    elim (cases_Bool (e.key.priority == priority)) [
      | inl same ↦ rw same (ap (λ rs. (e.key, e.actions) ∷ rs) rest)
      | inr other ↦ rw other (ap (λ rs. (e.key, e.actions) ∷ rs) rest)
    ]

-- ---- The whole

-- a stimulus at which the switch sends plain messages and keeps its face
pub plain-switch : (d : ℕ) (x : Stimulus) (s : SwitchState) (rows : List ViewRow) (k : Knowledge) → IsNoMoment x → SwitchKnown d s rows k → AllPlain (sent_by_stimulus x s) → FaceKept s (after_stimulus x s)
    → SwitchHandled d x s rows k (handled_all (map (From d) (sent_by_stimulus x s)) k)
plain-switch d x s rows k timeless known all face =
    let done = plain-handled d (sent_by_stimulus x s) k (is-known d rows k known.rows_are) all in
    let after : Knowledge = record k { queue = k.queue ++ events_of d (sent_by_stimulus x s) } in
    subst (SwitchHandled d x s rows k) (sym done) (record {
      rows_now = rows;
      views = view-kept d rows k.views known.rows_are;
      queue = ap (λ sent. k.queue ++ events_of d sent) (sym (sent-shown (correction_in rows) (goes_along rows) x s timeless));
      agrees = known.agrees ∙ sym face.rows;
      shown = sym (stimulus-shown (correction_in rows) (goes_along rows) x s timeless);
      ports = known.ports ∙ ap some_ports (sym (face.ports s.declared.dpid) ∙ ap (λ (y : Declared). map (port_desc y.dpid) (after_stimulus x s).ports) (sym face.declared));
      others = λ e other. refl;
      moment = refl;
    })
  where
    some_ports : List PortDesc → Option (List PortDesc)
    some_ports ps = Some ps

pub frame-switch : (d port : ℕ) (bytes : List ℕ) (s : SwitchState) (rows : List ViewRow) (k : Knowledge) → SwitchKnown d s rows k → IsTable s.table.entries
    → SwitchHandled d (Frame port bytes) s rows k (handled_all (map (From d) (sent_by_stimulus (Frame port bytes) s)) k)
unfolding after_stimulus sent_by_stimulus
frame-switch d port bytes s rows k known is = plain-switch d (Frame port bytes) s rows k tt known (frame-plain port bytes s) (face-frame port bytes s is)

pub counts-switch : (d priority packets bytes : ℕ) (s : SwitchState) (rows : List ViewRow) (k : Knowledge) → SwitchKnown d s rows k
    → SwitchHandled d (Counts priority packets bytes) s rows k (handled_all (map (From d) (sent_by_stimulus (Counts priority packets bytes) s)) k)
unfolding after_stimulus sent_by_stimulus
counts-switch d priority packets bytes s rows k known =
    plain-switch d (Counts priority packets bytes) s rows k tt known tt (record { declared = refl; ports = λ n. refl; rows = rows-counts priority packets bytes s.table.entries })

pub raw-switch : (d : ℕ) (bytes : List ℕ) (s : SwitchState) (rows : List ViewRow) (k : Knowledge) → SwitchKnown d s rows k → IsTrue (may_be_raw (reading_of bytes))
    → SwitchHandled d (Raw bytes) s rows k (handled_all (map (From d) (sent_by_stimulus (Raw bytes) s)) k)
unfolding after_stimulus sent_by_stimulus
raw-switch d bytes s rows k known may =
    plain-switch d (Raw bytes) s rows k tt known (raw-plain (reading_of bytes) may, tt) (face-same s)
