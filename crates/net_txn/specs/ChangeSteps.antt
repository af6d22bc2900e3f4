-- What follows of a change in a world that tells: it reached its switch at once; and where the world keeps its word, nothing of that
-- switch waited, and its view agreed with its table, switch and view take the step together. All of this is our own.
use Rattle.std.specs.Prelude.{◌≡◌, ◌≢◌, ℕ, List, [], ◌++◌, drop, Option, None, Result, Ok, IfOk, IfSome, MatchResult}
use Rattle.std.specs.Option.{option_map}
use Rattle.of_types.specs.declared.errors.OfError.{OfError}
use Rattle.of_wire.specs.declared.bodies.FlowMod.{FlowMod as Change}
use Rattle.of_wire.specs.declared.message.Message.{Message}
use Rattle.of_wire.specs.declared.message.Message.TheVariants.{FlowMod}
use Rattle.of_wire.specs.Reading.{reading_of}
use Rattle.of_wire.specs.Grammar.{enveloped}
use Rattle.flow_table.specs.Step.{after_message}
use Rattle.app_frames.specs.declared.frame.Answer.{Answer}
use Rattle.lego_model.specs.Answers.{as_sent, answer_by, switch_answer}
use Rattle.lego_model.specs.AtOnce.{first_error}
use Rattle.lego_model.specs.Journal.{ReachedAtOnce}
use Rattle.outside.specs.declared.step.WorldStep.{WorldStep}
use Rattle.outside.specs.Seen.{Seen, journal}
use Rattle.outside.specs.State.{state, switch_of, waits_of}
use Rattle.outside.specs.Conforming.{Conforming}
use Rattle.lego_model.specs.declared.fault.TxnFault.{TxnFault}
use Rattle.net_txn.specs.Causes.{IsPlain}
use Rattle.net_txn.specs.Net.{NetState}
use Rattle.net_txn.specs.Answering.{answer_of_host}
pub use Rattle.net_txn.specs.Agrees.{Agrees}

-- Since then the change reached its switch, behind it a barrier, and the barrier's reply came. The answer is the first ERROR for it that was
-- got behind it, or Fine.
pub record ReachedSince (d : ℕ) (change : Message) (answer : Answer) (old new : List WorldStep) : Type 0 where
  pub steps : List WorldStep
  pub since : new ≡ old ++ steps
  pub reached : ReachedAtOnce d change (journal steps)
  pub error : Option OfError
  pub error_is : error ≡ first_error d reached.xid reached.barrier (drop reached.sent (journal steps))
  pub answer_is : answer ≡ answer_by error

-- The answer is the switch's own, the switch moves as by this message alone, and the view with it; nothing of the switch waits, no other
-- switch moves, and nothing is kept or held.
pub record InStep {Own : Type 0} (d : ℕ) (m : Message) (old new : Seen Own) (net now_net : NetState) (answer : Answer) : Type 0 where
  pub answer_is : IfSome (switch_of d (state old)) (λ s. answer ≡ switch_answer s m)
  pub moved : switch_of d (state new) ≡ option_map (after_message m) (switch_of d (state old))
  pub waits : waits_of d (state new) ≡ []
  pub others : (e : ℕ) → e ≢ d → switch_of e (state new) ≡ switch_of e (state old)
  pub others_wait : (e : ℕ) → e ≢ d → waits_of e (state new) ≡ waits_of e (state old)
  pub kept : now_net.kept ≡ net.kept
  pub held : now_net.held ≡ net.held
  pub agrees : Agrees d now_net.views (state new)
  pub others_agree : (e : ℕ) → e ≢ d → Agrees e net.views (state old) → Agrees e now_net.views (state new)

-- ---- On a call, whatever it answered

-- what the switch answered reached it at once, and is the first ERROR for it
abbrev pub Reaches : {Own : Type 0} → Type 0 → ℕ → List ℕ → Seen Own → Seen Own → NetState → Result Answer TxnFault → Type 0
Reaches Tells d bytes old new net result =
    (xid : ℕ) (m : Change) → Tells → answer_of_host d bytes net ≡ None → reading_of bytes ≡ Ok (enveloped xid (FlowMod m)) → IfOk result (λ answer. ReachedSince d (as_sent (FlowMod m)) answer old.history new.history)

-- Where the world keeps its word, nothing of the switch waited, and view and table agreed, they take the step together; a fault is then
-- one of memory.
abbrev pub Steps : {Own : Type 0} → Type 0 → ℕ → List ℕ → Seen Own → Seen Own → NetState → NetState → Result Answer TxnFault → Type 0
Steps Tells d bytes old new net now_net result =
    (xid : ℕ) (m : Change) → Tells → answer_of_host d bytes net ≡ None → reading_of bytes ≡ Ok (enveloped xid (FlowMod m)) → Conforming new → waits_of d (state old) ≡ [] → Agrees d net.views (state old)
    → MatchResult result (InStep d (as_sent (FlowMod m)) old new net now_net) IsPlain
