-- What follows about messages that can be read: what is written of a message of the grammar is read again.
use Rattle.std.proofs.Common.{◌≡◌, ℕ, ◌^◌, ◌<◌, ◌≤◌, List, [], ◌∷◌, length, Result, Ok, Err, IfOk, refl, arith}
use Rattle.std.specs.Prelude.{All, IsOk}
use Rattle.std.specs.List.{AllByRecursion}
use Rattle.std.proofs.lemmas.List.Elements.{All-nil, All-cons, All-head, All-tail, All-weaker}
use Rattle.of_types.specs.declared.port_desc.PortDesc.{PortDesc}
use Rattle.of_types.specs.Layout.{AreFields}
use Rattle.of_wire.specs.declared.bodies.FeaturesReply.{FeaturesReply as Features}
use Rattle.of_wire.specs.declared.message.Message.{Message}
use Rattle.of_wire.specs.declared.message.Message.TheVariants.{FeaturesReply}
use Rattle.of_wire.specs.Spelling.{port_fields, message_bytes}
use Rattle.of_wire.specs.laws.SpellingLaws.{SpellMessage-message_bytes}
use Rattle.of_wire.specs.Grammar.{IsMessage, enveloped}
use Rattle.of_wire.specs.Reading.{reading_of}
use Rattle.of_wire.specs.laws.ReadingLaws.{reading_of-message_bytes}
use Rattle.switch_sim.specs.Readable.{IsReadable, AreReadable, AreShort}
use Rattle.of_wire.specs.Handshake.{IsFeaturesOf}

-- ---- One message

pub IsReadable-message_bytes : (xid : ℕ) (m : Message) → xid < 2 ^ 32 → IsMessage m → IsReadable (message_bytes xid m)
IsReadable-message_bytes xid m small is = record {
  read = rw (reading_of-message_bytes xid m small is) refl;
  short = omega (arith, (SpellMessage-message_bytes xid m small is).size, is.size);
}

pub spelled_readable : {E : Type 0} (r : Result (List ℕ) E) (xid : ℕ) (m : Message) → xid < 2 ^ 32 → IsMessage m → IfOk r (λ bytes. bytes ≡ message_bytes xid m) → IfOk r IsReadable
spelled_readable (Ok bytes) xid m small is same = rw same (IsReadable-message_bytes xid m small is)
spelled_readable (Err e) xid m small is same = tt

pub spelled_read : {E : Type 0} (r : Result (List ℕ) E) (xid : ℕ) (m : Message) → xid < 2 ^ 32 → IsMessage m → IfOk r (λ bytes. bytes ≡ message_bytes xid m) → IfOk r (λ bytes. reading_of bytes ≡ Ok (enveloped xid m))
spelled_read (Ok bytes) xid m small is same = rw same (reading_of-message_bytes xid m small is)
spelled_read (Err e) xid m small is same = tt

pub one_short : {E : Type 0} (r : Result (List ℕ) E) → IfOk r IsReadable → IfOk r (λ bytes. length bytes ≤ 65535)
one_short (Ok bytes) is = is.short
one_short (Err e) is = tt

-- ---- The FEATURES_REPLY

pub ports_spelled : (ports : List PortDesc) → All (λ port. AreFields (port_fields port)) ports → AllByRecursion (λ port. AreFields (port_fields port)) ports
ports_spelled [] all = tt
ports_spelled (port ∷ ports) all = (
  All-head (λ p. AreFields (port_fields p)) port ports all,
  ports_spelled ports (All-tail (λ p. AreFields (port_fields p)) port ports all),
)

IsFeaturesOf-read : (f : Features) (xid : ℕ) (bytes : List ℕ) → reading_of bytes ≡ Ok (enveloped xid (FeaturesReply f)) → IsFeaturesOf f.dpid bytes
IsFeaturesOf-read f xid bytes is = rw is refl

pub features_read : {E : Type 0} (r : Result (List ℕ) E) (f : Features) (xid : ℕ) → IfOk r (λ bytes. reading_of bytes ≡ Ok (enveloped xid (FeaturesReply f))) → IfOk r (IsFeaturesOf f.dpid)
features_read (Ok bytes) f xid is = IsFeaturesOf-read f xid bytes is
features_read (Err e) f xid is = tt

-- ---- Lists

pub AreReadable-none : AreReadable []
AreReadable-none = All-nil IsReadable

pub all_read : {E : Type 0} (r : Result (List (List ℕ)) E) → IfOk r AreReadable → IfOk r (λ list. All (λ bytes. IsOk (reading_of bytes)) list)
all_read (Ok list) are = All-weaker IsReadable (λ bytes. IsOk (reading_of bytes)) (λ bytes is. is.read) list are
all_read (Err e) are = tt

pub all_short : {E : Type 0} (r : Result (List (List ℕ)) E) → IfOk r AreReadable → IfOk r AreShort
all_short (Ok list) are = All-weaker IsReadable (λ bytes. length bytes ≤ 65535) (λ bytes is. is.short) list are
all_short (Err e) are = tt

pub AreReadable-both : (list : List (List ℕ)) → All (λ bytes. IsOk (reading_of bytes)) list → AreShort list → AreReadable list
AreReadable-both [] read short = AreReadable-none
AreReadable-both (bytes ∷ more) read short =
    let here : IsReadable bytes = record {
      read = All-head (λ b. IsOk (reading_of b)) bytes more read;
      short = All-head (λ b. length b ≤ 65535) bytes more short;
    } in
    All-cons IsReadable bytes more here
    (AreReadable-both more (All-tail (λ b. IsOk (reading_of b)) bytes more read) (All-tail (λ b. length b ≤ 65535) bytes more short))
