-- The bytes of a port are the last ones of a PORT_STATUS.
use Rattle.std.specs.Prelude.{◌≡◌, ℕ, List, [], ◌++◌, length, drop, replicate}
use Rattle.std.proofs.Common.{ap, ◌∙◌, append_assoc, length-append, arith}
use Rattle.std.proofs.lemmas.List.{append-nil, drop_at, length-replicate}
use Rattle.of_types.specs.Fields.{number_bytes}
use Rattle.of_types.specs.laws.FieldLaws.{length-number_bytes}
use Rattle.of_types.specs.Layout.{spelled}
use Rattle.of_types.specs.declared.port_desc.PortDesc.{PortDesc}
use Rattle.of_wire.specs.declared.message.Message.TheVariants.{PortStatus}
use Rattle.of_wire.specs.Spelling.{port_fields, message_size, body_bytes, message_bytes}
use Rattle.net_txn.specs.Leaving.{port_text}

whole : (a b c d e f rest : List ℕ) → (a ++ (b ++ (c ++ (d ++ [])))) ++ (e ++ (f ++ rest) ++ []) ≡ (a ++ (b ++ (c ++ (d ++ (e ++ f))))) ++ rest
whole a b c d e f rest = simp (append_assoc, append-nil)

pub port_text-described : (port : PortDesc) → drop 16 (message_bytes 0 (PortStatus (record { reason = 0; port = port }))) ≡ port_text port
unfolding message_bytes body_bytes message_size port_text
port_text-described port =
    let rest = spelled (port_fields port) in
    let a = number_bytes 1 1 in
    let b = number_bytes 1 12 in
    let c = number_bytes 2 64 in
    let d = number_bytes 4 0 in
    let e = number_bytes 1 0 in
    let f : List ℕ = replicate 7 0 in
    let front = a ++ (b ++ (c ++ (d ++ (e ++ f)))) in
    let len : length front ≡ 16 = simp length-append (omega (arith, length-number_bytes 1 1, length-number_bytes 1 12, length-number_bytes 2 64, length-number_bytes 4 0, length-number_bytes 1 0, length-replicate {A = ℕ} 7 0)) in
    ap (drop 16) (whole a b c d e f rest) ∙ drop_at front rest 16 len
