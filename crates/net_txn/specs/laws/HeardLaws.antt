-- What the reply to a barrier, and an ERROR that answers what was sent, are to a wait.
use Rattle.std.specs.Prelude.{◌≡◌, ◌==◌, ℕ, ◌+◌, ◌^◌, ◌<◌, Bool, true, false, nat_le, nat_lt, List, [], ◌∷◌, take, Option, Some, None, IfSome, if◌then◌else◌, refl}
use Rattle.std.specs.Str.{bytes_eq}
use Rattle.std.proofs.Common.{ap, ◌∙◌, inl, inr, arith}
use Rattle.std.proofs.lemmas.Bool.{cases_Bool, eqb-true, eqb-false, le-leb, lt-ltb}
use Rattle.std.proofs.lemmas.List.{length-take}
use Rattle.std.proofs.lemmas.Slice.Eq.{bytes_eq-Decides}
use Rattle.of_types.specs.Fields.{number_at}
use Rattle.of_types.specs.declared.errors.OfError.{OfError}
use Rattle.of_action.specs.declared.action.Action.{Action}
use Rattle.of_action.specs.declared.action.Action.TheVariants as actions
use Rattle.of_wire.specs.declared.bodies.FlowMod.{FlowMod as Change}
use Rattle.of_wire.specs.declared.message.Message.{Message}
use Rattle.of_wire.specs.declared.message.Message.TheVariants.{Error, FlowMod, BarrierRequest, BarrierReply}
use Rattle.of_wire.specs.Spelling.{message_size, message_bytes}
use Rattle.of_wire.specs.Grammar.{IsMessage}
use Rattle.of_wire.specs.laws.SpellingLaws.{SpellMessage-message_bytes}
use Rattle.flow_table.specs.declared.entry.Entry.{Entry}
use Rattle.flow_table.specs.Errors.{bad_len, buffer_unknown, action_bad_type, action_bad_vendor, bad_out_port, flow_eperm, bad_command, overlap, all_tables_full}
use Rattle.flow_table.specs.Change.{refusal}
use Rattle.flow_table.specs.Refusals.{or_else, is_output, action_refusal, actions_refusal, flow_actions_refusal, flow_refusal, message_refusal}
use Rattle.flow_table.specs.Switch.{SwitchState}
use Rattle.flow_table.specs.Step.{error_bytes}
use Rattle.lego_model.specs.declared.wait.Awaited.{Awaited}
use Rattle.lego_model.specs.declared.wait.Refusal.{Refusal}
use Rattle.lego_model.specs.declared.wait.Heard.TheVariants.{Reply, Refused}
use Rattle.net_txn.specs.Net.{awaited_from}
use Rattle.lego_model.specs.BarrierWaits.{next_xid, is_awaited, refusal_of, heard}

-- ---- The reply

pub IsMessage-reply : IsMessage BarrierReply
unfolding message_size
IsMessage-reply = record { fields = tt; tail = tt; size = omega arith }

pub IsMessage-barrier : IsMessage BarrierRequest
unfolding message_size
IsMessage-barrier = record { fields = tt; tail = tt; size = omega arith }

pub heard-reply : (a : Awaited) → heard a (message_bytes a.barrier BarrierReply) ≡ Reply
unfolding heard
heard-reply a =
    let same : bytes_eq (message_bytes a.barrier BarrierReply) (message_bytes a.barrier BarrierReply) ≡ true = (bytes_eq-Decides (message_bytes a.barrier BarrierReply) (message_bytes a.barrier BarrierReply)).1 refl in
    rw same refl

-- ---- Errors that a switch answers a FLOW_MOD with have a kind and a code of two bytes.

pub record IsSmall (o : Option OfError) : Type 0 where
  pub small : IfSome o (λ e. (e.kind < 256 ^ 2) × (e.code < 256 ^ 2))

pub none_small : IsSmall None
none_small = record { small = tt }

pub known_small : (e : OfError) → e.kind < 256 ^ 2 → e.code < 256 ^ 2 → IsSmall (Some e)
known_small e kind code = record { small = (kind, code) }

pub small_if : (b : Bool) (x y : Option OfError) → IsSmall x → IsSmall y → IsSmall (if b then x else y)
small_if true x y first second = first
small_if false x y first second = second

small_then : (b : Bool) (e : OfError) (y : Option OfError) → e.kind < 256 ^ 2 → e.code < 256 ^ 2 → IsSmall y → IsSmall (if b then Some e else y)
small_then true e y kind code rest = known_small e kind code
small_then false e y kind code rest = rest

small_or : (x y : Option OfError) → IsSmall x → IsSmall y → IsSmall (or_else x y)
small_or None y first second = second
small_or (Some e) y first second = first

small_action : (takes_table : Bool) (had : List ℕ) (action : Action) → IsSmall (action_refusal takes_table had action)
small_action takes_table had (actions.Output port max_len) = small_if (is_output takes_table had port) None (Some bad_out_port) none_small (known_small bad_out_port (omega arith) (omega arith))
small_action takes_table had (actions.Enqueue port queue) = known_small action_bad_type (omega arith) (omega arith)
small_action takes_table had (actions.Vendor body) = known_small action_bad_vendor (omega arith) (omega arith)
small_action takes_table had (actions.SetVlanVid x) = none_small
small_action takes_table had (actions.SetVlanPcp x) = none_small
small_action takes_table had actions.StripVlan = none_small
small_action takes_table had (actions.SetDlSrc x) = none_small
small_action takes_table had (actions.SetDlDst x) = none_small
small_action takes_table had (actions.SetNwSrc x) = none_small
small_action takes_table had (actions.SetNwDst x) = none_small
small_action takes_table had (actions.SetNwTos x) = none_small
small_action takes_table had (actions.SetTpSrc x) = none_small
small_action takes_table had (actions.SetTpDst x) = none_small

pub small_actions : (takes_table : Bool) (had : List ℕ) (list : List Action) → IsSmall (actions_refusal takes_table had list)
unfolding actions_refusal
small_actions takes_table had [] = none_small
small_actions takes_table had (action ∷ list) = small_or (action_refusal takes_table had action) (actions_refusal takes_table had list) (small_action takes_table had action) (small_actions takes_table had list)

small_flow_actions : (had : List ℕ) (m : Change) → IsSmall (flow_actions_refusal had m)
unfolding flow_actions_refusal
small_flow_actions had m = small_then _ buffer_unknown _ (omega arith) (omega arith) (small_then _ bad_len _ (omega arith) (omega arith) (small_actions false had m.actions))

small_flow : (had : List ℕ) (m : Change) → IsSmall (flow_refusal had m)
unfolding flow_refusal
small_flow had m = small_then _ flow_eperm _ (omega arith) (omega arith) (small_then _ bad_command _ (omega arith) (omega arith) (small_if _ None _ none_small (small_flow_actions had m)))

small_table : (room : ℕ) (m : Change) (es : List Entry) → IsSmall (refusal room m es)
unfolding refusal
small_table room m es = small_then _ bad_command _ (omega arith) (omega arith) (small_if _ None _ none_small (small_then _ overlap _ (omega arith) (omega arith) (small_then _ all_tables_full None (omega arith) (omega arith) none_small)))

pub small_refusal : (s : SwitchState) (m : Change) → IsSmall (message_refusal s (FlowMod m))
unfolding message_refusal
small_refusal s m = small_or (flow_refusal s.had m) (refusal s.declared.cap m s.table.entries) (small_flow s.had m) (small_table s.declared.cap m s.table.entries)

-- ---- The error

pub IsMessage-error : (xid : ℕ) (m : Message) (e : OfError) → (e.kind < 256 ^ 2) × (e.code < 256 ^ 2) → IsMessage (Error e.kind e.code (take 64 (message_bytes xid m)))
unfolding message_size
IsMessage-error xid m e small = record {
  fields = (small.0, (small.1, tt));
  tail = tt;
  size = omega (arith, length-take 64 (message_bytes xid m));
}

-- the first id is awaited
first_awaited : (d xid : ℕ) → is_awaited (awaited_from d xid) xid ≡ true
first_awaited d xid =
    elim (cases_Bool (xid == 4294967295)) [
      | inl last ↦ let is : xid ≡ 4294967295 = eqb-true _ _ last in rw is refl
      | inr other ↦
          let le : nat_le xid (xid + 1) ≡ true = le-leb _ _ (omega arith) in
          let self : nat_le xid xid ≡ true = le-leb _ _ (omega arith) in
          let below : nat_lt xid (xid + 1) ≡ true = lt-ltb _ _ (omega arith) in
          rw (other, le, self, below) refl
    ]

heard_second : (a : Awaited) (bytes : List ℕ) (r : Refusal) → bytes_eq bytes (message_bytes a.barrier BarrierReply) ≡ false → number_at 1 1 bytes ≡ 1 → is_awaited a (number_at 4 4 bytes) ≡ true → refusal_of bytes ≡ r → heard a bytes ≡ Refused r
unfolding heard
heard_second a bytes r other kind awaited is = rw (other, kind, awaited, is) refl

differs : (xid : ℕ) (bytes : List ℕ) → xid < 2 ^ 32 → number_at 1 1 bytes ≡ 1 → bytes_eq bytes (message_bytes xid BarrierReply) ≡ false
differs xid bytes lt kind =
    let reply = SpellMessage-message_bytes xid BarrierReply lt IsMessage-reply in
    elim (cases_Bool (bytes_eq bytes (message_bytes xid BarrierReply))) [
      | inl same ↦
          let e : bytes ≡ message_bytes xid BarrierReply = (bytes_eq-Decides bytes (message_bytes xid BarrierReply)).0 same in
          let n : number_at 1 1 bytes ≡ 19 = ap (number_at 1 1) e ∙ reply.header.1.0 in
          absurd (omega arith)
      | inr other ↦ other
    ]

pub next_xid-lt : (xid : ℕ) → xid < 2 ^ 32 → next_xid xid < 2 ^ 32
next_xid-lt xid lt =
    elim (cases_Bool (xid == 4294967295)) [
      | inl last ↦ rw last (omega arith)
      | inr other ↦ rw other (omega (arith, eqb-false xid 4294967295 other, lt))
    ]

pub heard-error : (d xid : ℕ) (m : Message) (e : OfError) → xid < 2 ^ 32 → (e.kind < 256 ^ 2) × (e.code < 256 ^ 2) → heard (awaited_from d xid) (error_bytes xid m e) ≡ Refused (record { xid = xid; error = e })
unfolding error_bytes
heard-error d xid m e lt small =
    let bytes = message_bytes xid (Error e.kind e.code (take 64 (message_bytes xid m))) in
    let s = SpellMessage-message_bytes xid (Error e.kind e.code (take 64 (message_bytes xid m))) lt (IsMessage-error xid m e small) in
    let kind : number_at 1 1 bytes ≡ 1 = s.header.1.0 in
    let id : number_at 4 4 bytes ≡ xid = s.header.1.1.1.0 in
    let awaited : is_awaited (awaited_from d xid) (number_at 4 4 bytes) ≡ true = rw id (first_awaited d xid) in
    let says : refusal_of bytes ≡ record { xid = xid; error = e } = rw (id, s.fields.0, s.fields.1.0) refl in
    heard_second (awaited_from d xid) bytes (record { xid = xid; error = e }) (differs (next_xid xid) bytes (next_xid-lt xid lt) kind) kind awaited says
