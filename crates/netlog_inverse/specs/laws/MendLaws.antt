-- What follows about an image that is set right when its entry goes: it says that the entry went, with the actions that it had, and its ADD
-- is the one with the hard timeout that was set.
use Rattle.std.proofs.Common.{◌≡◌, ℕ, ◌+◌, ◌≤◌, false, List, ◌++◌, length, drop, Option, Some, refl, sym, ap, ap₂, ◌∙◌, arith}
use Rattle.std.proofs.lemmas.Bool.{le-leb}
use Rattle.std.proofs.lemmas.List.{append_assoc, length-append, take_at, drop_at}
use Rattle.of_types.specs.Fields.{number_bytes, with_field}
use Rattle.of_types.specs.Layout.{spelled}
use Rattle.of_types.specs.laws.FieldLaws.{length-number_bytes}
use Rattle.of_match.specs.declared.key.Key.{Key}
use Rattle.of_match.specs.Fields.{bytes_of}
use Rattle.of_match.specs.Match.{fields_in}
use Rattle.of_match.specs.laws.FieldsLaws.{bytes_of-length}
use Rattle.of_action.specs.Spelling.{list_bytes}
use Rattle.of_wire.specs.declared.bodies.FlowMod.{FlowMod}
use Rattle.of_wire.specs.declared.kind.MessageKind.TheVariants as kinds
use Rattle.of_wire.specs.declared.message.Message.TheVariants as messages
use Rattle.of_wire.specs.Spelling.{header_fields, body_bytes, message_bytes, message_size}
use Rattle.flow_table.specs.declared.lost.Lost.{Lost}
use Rattle.flow_table.specs.declared.view.ViewRow.{ViewRow}
use Rattle.undo_laws.specs.Log.{Gone}
use Rattle.netlog_inverse.specs.declared.image.Logged.{Logged}
use Rattle.netlog_inverse.specs.declared.image.PutBack.TheVariants.{Row}
use Rattle.netlog_inverse.specs.Messages.{addition, spelled_mod}
use Rattle.netlog_inverse.specs.Log.{with_hard, with_lost_row, mended}
use Rattle.netlog_inverse.specs.Meaning.{entry_of, said, said_by}

-- ---- What it says

pub said-mended : (now hard : ℕ) (k : Key) (r : ViewRow) (lost : Lost) (before : Option Lost) (l : Logged) → l.image.put ≡ Row k (Some r) before → said now (Some (mended (Some lost) hard false l).image) ≡ Gone (entry_of now r lost)
unfolding mended
said-mended now hard k r lost before l is = ap (λ put. said_by now false (with_lost_row (Some lost) put)) is

-- ---- Its ADD

-- what stands before the hard timeout of a FLOW_MOD, and behind it
abbrev front_of : FlowMod → ℕ → List ℕ
front_of m size =
    spelled (header_fields kinds.FlowMod size 0)
    ++ (bytes_of (fields_in m.matching) ++ (number_bytes 8 m.cookie ++ (number_bytes 2 m.command ++ number_bytes 2 m.idle)))

abbrev back_of : FlowMod → List ℕ
back_of m =
    number_bytes 2 m.priority
    ++ (number_bytes 4 m.buffer_id ++ (number_bytes 2 m.out_port ++ (number_bytes 2 m.flags ++ list_bytes m.actions)))

in_parts : (m : FlowMod) → spelled_mod m ≡ front_of m (message_size (messages.FlowMod m)) ++ (number_bytes 2 m.hard ++ back_of m)
unfolding spelled_mod message_bytes body_bytes
in_parts m = simp append_assoc

length-front : (m : FlowMod) (size : ℕ) → length (front_of m size) ≡ 60
length-front m size = simp (length-append, length-number_bytes, bytes_of-length) refl

put-between : (front old new back : List ℕ) → length front ≡ 60 → length old ≡ 2 → length new ≡ 2 → with_field 60 new (front ++ (old ++ back)) ≡ front ++ (new ++ back)
put-between front old new back a b c =
    ap₂ (λ (p q : List ℕ). p ++ (new ++ q)) (take_at front (old ++ back) 60 a)
    (ap (drop (60 + length new)) (sym (append_assoc front old back)) ∙ drop_at (front ++ old) back (60 + length new) (omega (arith, length-append front old)))

same-size : (hard other : ℕ) (r : ViewRow) → message_size (messages.FlowMod (addition hard r)) ≡ message_size (messages.FlowMod (addition other r))
unfolding message_size
same-size hard other r = refl

pub hard-mended : (hard other : ℕ) (r : ViewRow) → with_hard other (spelled_mod (addition hard r)) ≡ spelled_mod (addition other r)
hard-mended hard other r =
    let m : FlowMod = addition hard r in
    let front : List ℕ = front_of m (message_size (messages.FlowMod m)) in
    let rest : List ℕ = number_bytes 2 hard ++ back_of m in
    let is : spelled_mod m ≡ front ++ rest = in_parts m in
    let long : 62 ≤ length (spelled_mod m) =
    omega (arith, ap length is, length-append front rest, length-append (number_bytes 2 hard) (back_of m), length-number_bytes 2 hard, length-front m (message_size (messages.FlowMod m))) in
    rw (le-leb 62 (length (spelled_mod m)) long)
    (ap (with_field 60 (number_bytes 2 other)) is
    ∙ put-between front (number_bytes 2 hard) (number_bytes 2 other) (back_of m) (length-front m (message_size (messages.FlowMod m))) (length-number_bytes 2 hard) (length-number_bytes 2 other)
    ∙ ap (λ (size : ℕ). front_of m size ++ (number_bytes 2 other ++ back_of m)) (same-size hard other r)
    ∙ sym (in_parts (addition other r)))
