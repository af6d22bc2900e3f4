-- What follows of a change that its switch answered, or for which a fault came.
use Rattle.std.specs.Prelude.{◌≡◌, ℕ, List, None, Result, Ok, Err, IfErr, MatchResult}
use Rattle.of_wire.specs.declared.bodies.FlowMod.{FlowMod as Change}
use Rattle.of_wire.specs.declared.message.Message.TheVariants.{FlowMod}
use Rattle.of_wire.specs.Reading.{reading_of}
use Rattle.of_wire.specs.Grammar.{enveloped}
use Rattle.app_frames.specs.declared.frame.Answer.{Answer}
use Rattle.outside.specs.Seen.{Seen, Continues}
use Rattle.lego_model.specs.declared.fault.TxnFault.{TxnFault}
use Rattle.net_txn.specs.declared.halt.Halt.TheVariants.{Fault}
use Rattle.net_txn.specs.Causes.{IsCause}
use Rattle.net_txn.specs.Net.{NetState}
use Rattle.net_txn.specs.Answering.{answer_of_host, Asked, Stopped, IfGivenUp}
use Rattle.net_txn.specs.ChangeSteps.{Reaches, Steps}
use Rattle.net_txn.specs.laws.InStepLaws.{in_step}
use Rattle.net_txn.specs.laws.ChangeFaultLaws.{change_fault}
use Rattle.net_txn.specs.laws.ReachedLaws.{reached}

-- where the switch must answer a change, this is known of it
abbrev pub IfAsked : ℕ → List ℕ → NetState → (Change → Type 0) → Type 0
IfAsked d bytes net P = (xid : ℕ) (m : Change) → answer_of_host d bytes net ≡ None → reading_of bytes ≡ Ok (enveloped xid (FlowMod m)) → P m

abbrev pub AnswersSo : {Own : Type 0} → Type 0 → ℕ → List ℕ → Seen Own → Seen Own → NetState → NetState → Result Answer TxnFault → Type 0
AnswersSo Tells d bytes old new net now_net result = IfAsked d bytes net (λ m. MatchResult result (Asked Tells d m old new net now_net) (λ f. Stopped d m old new net now_net))

pub reaches : {Own : Type 0} {Tells : Type 0} (d : ℕ) (bytes : List ℕ) (old new : Seen Own) (net now_net : NetState) (result : Result Answer TxnFault) → AnswersSo Tells d bytes old new net now_net result → Reaches Tells d bytes old new net result
reaches d bytes old new net now_net (Ok answer) by_switch xid m told host read = reached d old new net now_net answer m told (by_switch xid m host read)
reaches d bytes old new net now_net (Err fault) by_switch xid m told host read = tt

pub steps : {Own : Type 0} {Tells : Type 0} (d : ℕ) (bytes : List ℕ) (old new : Seen Own) (net now_net : NetState) (result : Result Answer TxnFault) → Continues Tells old new → IfErr result (IsCause Tells d old new)
    → AnswersSo Tells d bytes old new net now_net result → IfAsked d bytes net (λ m. IfErr result (λ fault. IfGivenUp Tells d m old new net (Fault fault))) → Steps Tells d bytes old new net now_net result
steps d bytes old new net now_net (Ok answer) continues cause by_switch flooded xid m told host read keeps waits agrees =
    in_step d bytes old new net now_net answer m xid told (by_switch xid m host read) host read keeps waits agrees
steps d bytes old new net now_net (Err fault) continues cause by_switch flooded xid m told host read keeps waits agrees =
    change_fault d bytes old new net fault m xid told continues cause (flooded xid m host read) host read keeps waits agrees
