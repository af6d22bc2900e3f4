-- Laws of answers: each is one that has no body, or statistics that fit, so that its frame can be written.
use Rattle.std.specs.Prelude.{◌≡◌, ℕ, List, Option, Some, None, Result, Ok, Err, ◌⊎◌, refl}
use Rattle.std.proofs.Common.{sym, ap, ◌∙◌, subst, inl, inr, arith}
use Rattle.of_types.specs.declared.errors.OfError.{OfError}
use Rattle.of_wire.specs.declared.bodies.FlowMod.{FlowMod as Change}
use Rattle.of_wire.specs.declared.bodies.Stats.{Stats as Query}
use Rattle.of_wire.specs.declared.message.Message.{Message}
use Rattle.of_wire.specs.declared.message.Message.TheVariants as messages
use Rattle.of_wire.specs.declared.message.Envelope.{Envelope}
use Rattle.of_wire.specs.declared.fault.WireFault.{WireFault}
use Rattle.of_wire.specs.Reading.{reading_of}
use Rattle.of_wire.specs.Grammar.{enveloped}
use Rattle.app_frames.specs.declared.frame.Answer.{Answer}
use Rattle.app_frames.specs.declared.frame.Answer.TheVariants.{Fine, Error, Statistics, Unknown}
use Rattle.app_frames.specs.declared.frame.HostFrame.TheVariants as host
use Rattle.app_frames.specs.Frames.{HostFits}
use Rattle.flow_table.specs.Errors.{bad_type}
use Rattle.lego_model.specs.Answers.{Rows, wire_fault, host_refusal, host_answer_to, refused_or, host_answer, answer_by}
use Rattle.outside.specs.Seen.{Seen}
use Rattle.lego_model.specs.declared.fault.TxnFault.{TxnFault}
use Rattle.net_txn.specs.Net.{NetState}
use Rattle.net_txn.specs.Changes.{error_in, ChangesJoined, Changes}
use Rattle.net_txn.specs.Answering.{known_rows}

-- it has no body
abbrev pub IsPlain : Answer → Type 0
IsPlain Fine = Unit {0}
IsPlain (Error error) = Unit {0}
IsPlain (Statistics kind body) = ⊥
IsPlain Unknown = Unit {0}

pub plain_fits : (answer : Answer) → IsPlain answer → HostFits (host.Answer answer)
plain_fits Fine is = omega arith
plain_fits (Error error) is = omega arith
plain_fits (Statistics kind body) is = absurd is
plain_fits Unknown is = omega arith

-- what the host makes of a message: a plain answer, or a change or a request of statistics that a switch must answer
abbrev Decides : Rows → Message → Type 0
Decides rows message =
    ((answer : Answer) × ((refused_or (host_refusal rows message) (host_answer_to rows message) ≡ Some answer) × IsPlain answer))
    ⊎ (refused_or (host_refusal rows message) (host_answer_to rows message) ≡ None) × (((m : Change) × (message ≡ messages.FlowMod m)) ⊎ ((q : Query) × (message ≡ messages.StatsRequest q)))

refused : (rows : Rows) (message : Message) (refusal : Option OfError) (error : OfError) → host_refusal rows message ≡ refusal → refusal ≡ Some error → Decides rows message
refused rows message refusal error is some = inl (Error error, (rw (is, some) refl, tt))

-- what a switch must answer, unless something stands against it
judged : (rows : Rows) (message : Message) (refusal : Option OfError) → host_refusal rows message ≡ refusal → host_answer_to rows message ≡ None → ((m : Change) × (message ≡ messages.FlowMod m)) ⊎ ((q : Query) × (message ≡ messages.StatsRequest q)) → Decides rows message
judged rows message None is none asked = inr (rw (is, none) refl, asked)
judged rows message (Some error) is none asked = inl (Error error, (rw is refl, tt))

-- a barrier, and a packet: it is fine where nothing stands against it
fine_decided : (rows : Rows) (message : Message) (refusal : Option OfError) → host_answer_to rows message ≡ Some Fine → host_refusal rows message ≡ refusal → Decides rows message
fine_decided rows message None fine is = inl (Fine, (rw (is, fine) refl, tt))
fine_decided rows message (Some error) fine is = inl (Error error, (rw is refl, tt))

decides : (rows : Rows) (message : Message) → Decides rows message
unfolding host_refusal
decides rows (messages.FlowMod m) = judged rows (messages.FlowMod m) (host_refusal rows (messages.FlowMod m)) refl refl (inl (m, refl))
decides rows (messages.StatsRequest m) = judged rows (messages.StatsRequest m) (host_refusal rows (messages.StatsRequest m)) refl refl (inr (m, refl))
decides rows messages.BarrierRequest = fine_decided rows messages.BarrierRequest (host_refusal rows messages.BarrierRequest) refl refl
decides rows (messages.Hello payload) = refused rows (messages.Hello payload) (Some bad_type) bad_type refl refl
decides rows (messages.Error kind code payload) = refused rows (messages.Error kind code payload) (Some bad_type) bad_type refl refl
decides rows (messages.EchoRequest payload) = refused rows (messages.EchoRequest payload) (Some bad_type) bad_type refl refl
decides rows (messages.EchoReply payload) = refused rows (messages.EchoReply payload) (Some bad_type) bad_type refl refl
decides rows (messages.Vendor payload) = refused rows (messages.Vendor payload) (Some bad_type) bad_type refl refl
decides rows messages.FeaturesRequest = refused rows messages.FeaturesRequest (Some bad_type) bad_type refl refl
decides rows (messages.FeaturesReply m) = refused rows (messages.FeaturesReply m) (Some bad_type) bad_type refl refl
decides rows messages.GetConfigRequest = refused rows messages.GetConfigRequest (Some bad_type) bad_type refl refl
decides rows (messages.GetConfigReply m) = refused rows (messages.GetConfigReply m) (Some bad_type) bad_type refl refl
decides rows (messages.SetConfig m) = refused rows (messages.SetConfig m) (Some bad_type) bad_type refl refl
decides rows (messages.PacketIn m) = refused rows (messages.PacketIn m) (Some bad_type) bad_type refl refl
decides rows (messages.FlowRemoved m) = refused rows (messages.FlowRemoved m) (Some bad_type) bad_type refl refl
decides rows (messages.PortStatus m) = refused rows (messages.PortStatus m) (Some bad_type) bad_type refl refl
decides rows (messages.PacketOut m) = fine_decided rows (messages.PacketOut m) (host_refusal rows (messages.PacketOut m)) refl refl
decides rows (messages.PortMod m) = refused rows (messages.PortMod m) (Some bad_type) bad_type refl refl
decides rows (messages.StatsReply m) = refused rows (messages.StatsReply m) (Some bad_type) bad_type refl refl
decides rows messages.BarrierReply = refused rows messages.BarrierReply (Some bad_type) bad_type refl refl
decides rows (messages.QueueGetConfigRequest payload) = refused rows (messages.QueueGetConfigRequest payload) (Some bad_type) bad_type refl refl
decides rows (messages.QueueGetConfigReply payload) = refused rows (messages.QueueGetConfigReply payload) (Some bad_type) bad_type refl refl

-- the same of bytes
abbrev pub DecidesRead : Option Rows → List ℕ → Type 0
DecidesRead rows bytes =
    ((answer : Answer) × ((host_answer rows bytes ≡ Some answer) × IsPlain answer))
    ⊎ (host_answer rows bytes ≡ None) × ((xid : ℕ) × (((m : Change) × (reading_of bytes ≡ Ok (enveloped xid (messages.FlowMod m)))) ⊎ ((q : Query) × (reading_of bytes ≡ Ok (enveloped xid (messages.StatsRequest q))))))

read_decided : (rows : Rows) (bytes : List ℕ) (read : Result Envelope WireFault) → reading_of bytes ≡ read → DecidesRead (Some rows) bytes
unfolding host_answer
read_decided rows bytes (Err fault) is = inl (Error (wire_fault fault), (rw is refl, tt))
read_decided rows bytes (Ok envelope) is = elim (decides rows envelope.message) [
  | inl d ↦ inl (d.0, (rw is d.1.0, d.1.1))
  | inr d ↦ inr (
    rw is d.0,
    (
      envelope.xid,
      elim d.1 [
        | inl m ↦ inl (m.0, is ∙ ap (λ (message : Message). Ok (enveloped envelope.xid message)) m.1)
        | inr q ↦ inr (q.0, is ∙ ap (λ (message : Message). Ok (enveloped envelope.xid message)) q.1)
      ],
    ),
  )
]

pub decided : (rows : Option Rows) (bytes : List ℕ) → DecidesRead rows bytes
unfolding host_answer
decided None bytes = inl (Unknown, (refl, tt))
decided (Some rows) bytes = read_decided rows bytes (reading_of bytes) refl

plain_by : (error : Option OfError) → IsPlain (answer_by error)
plain_by None = tt
plain_by (Some error) = tt

joined_fits : {Own : Type 0} (Tells : Type 0) (d : ℕ) (bytes : List ℕ) (old new : Seen Own) (net now_net : NetState) (answer : Answer) → ChangesJoined Tells d bytes old new net now_net (Ok answer) → HostFits (host.Answer answer)
joined_fits Tells d bytes old new net now_net answer changes = elim (decided (known_rows d net.views) bytes) [
  | inl h ↦ plain_fits answer (subst IsPlain (sym ((changes.by_host h.0 h.1.0).answers)) h.1.1)
  | inr h ↦ elim h.1.1 [
    | inl m ↦ let asked = changes.by_switch h.1.0 m.0 h.0 m.1 in plain_fits answer (subst IsPlain (sym asked.answer_is) (plain_by (error_in asked.refusal)))
    | inr q ↦ (changes.by_statistics h.1.0 q.0 h.0 q.1).answer.fits
  ]
]

abbrev answer_or : Answer → Result Answer TxnFault → Answer
answer_or other (Ok answer) = answer
answer_or other (Err fault) = other

abbrev pub answered : Answer → Result Answer TxnFault
answered answer = Ok answer

-- the answer where the switch was lost
pub is_unknown : (answer : Answer) → answered answer ≡ Ok Unknown → answer ≡ Unknown
is_unknown answer is = ap (answer_or Unknown) is

-- so its frame can be written
pub answer_fits : {Own : Type 0} (Tells : Type 0) (d : ℕ) (bytes : List ℕ) (old new : Seen Own) (net now_net : NetState) (answer : Answer) → Changes Tells d bytes old new net now_net (Ok answer) → HostFits (host.Answer answer)
answer_fits Tells d bytes old new net now_net answer changes = elim changes.answered [
  | inl joined ↦ joined_fits Tells d bytes old new net now_net answer joined
  | inr lost ↦ plain_fits answer (subst IsPlain (sym (is_unknown answer lost.1)) tt)
]
