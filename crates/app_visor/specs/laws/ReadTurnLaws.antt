-- Laws of a turn: what a telling world's history tells once it was played.
use Rattle.std.specs.Prelude.{◌≡◌, ℕ, Bool, true, false, List, [], ◌∷◌, ◌++◌, refl}
use Rattle.std.proofs.Common.{sym, ap, ◌∙◌, subst}
use Rattle.std.proofs.lemmas.List.{append-nil}
use Rattle.flow_table.specs.View.{TableView}
use Rattle.of_types.specs.declared.journal.Act.{Act}
use Rattle.of_types.specs.declared.journal.WorldStim.{WorldStim}
use Rattle.lego_model.specs.Journal.{stimuli, inputs, is_event, is_of, give_act}
use Rattle.lego_model.specs.Controller.{given_in}
use Rattle.outside.specs.declared.step.WorldStep.{WorldStep}
use Rattle.outside.specs.Seen.{Seen, journal}
use Rattle.outside.specs.State.{State, state, after_act, after_step}
use Rattle.outside.specs.laws.StateLaws.{state-append}
use Rattle.net_txn.specs.Net.{NetState}
use Rattle.net_txn.specs.LinkSteps.{LinkSteps}
use Rattle.journal_laws.specs.Readings.{Within, LastStands}
use Rattle.lego_model.specs.History.{starts_in, replies_in}
use Rattle.journal_laws.specs.laws.ReadingLaws.{turn_read}
use Rattle.journal_laws.specs.laws.CallLaws.{inputs_own, call_within}
use Rattle.app_visor.specs.declared.state.TurnEnd.{TurnEnd}
use Rattle.app_visor.specs.Talks.{step_of, Told}
use Rattle.app_visor.specs.Beats.{Beat, Talk, Asks, Chain, acts_in, acts_of, ActsTold}
use Rattle.app_visor.specs.laws.BeatLaws.{Chain-continues}
use Rattle.app_visor.specs.laws.JournalLaws.{chain_told, acts_append}
use Rattle.app_visor.specs.Turns.{Turns, reply_by}
use Rattle.app_visor.specs.Tellings.{Beside, marks_by, TurnTold}
use Rattle.app_visor.specs.laws.TellingLaws.{stimuli_longer, inputs_longer, Beside-refl, Beside-trans, marks_one, stimuli_one, beside_one, beside_links, marks_links, told_state}
use Rattle.net_txn.specs.laws.LinkStepLaws.{stimuli_links}

-- ---- All beats

-- no stimulus came, and all stays but the switches and what runs
record StaysBeside {Own : Type 0} (old new : Seen Own) : Type 0 where
  stimuli_is : stimuli (journal new.history) ≡ stimuli (journal old.history)
  beside : Beside (state old) (state new)
  marks : (state new).marks ≡ (state old).marks

stays_refl : {Own : Type 0} (old new : Seen Own) → new ≡ old → StaysBeside old new
stays_refl old new is = rw is (record { stimuli_is = refl; beside = Beside-refl (state old); marks = refl })

stays_trans : {Own : Type 0} (a b c : Seen Own) → StaysBeside a b → StaysBeside b c → StaysBeside a c
stays_trans a b c first second = record {
  stimuli_is = second.stimuli_is ∙ first.stimuli_is;
  beside = Beside-trans (state a) (state b) (state c) first.beside second.beside;
  marks = second.marks ∙ first.marks;
}

no_stimuli_more : {Own : Type 0} (old new : Seen Own) (steps : List WorldStep) → new.history ≡ old.history ++ steps → stimuli (journal steps) ≡ [] → stimuli (journal new.history) ≡ stimuli (journal old.history)
no_stimuli_more old new steps longer none =
    ap (λ (h : List WorldStep). stimuli (journal h)) longer ∙ stimuli_longer old.history steps ∙ ap (λ (xs : List WorldStim). stimuli (journal old.history) ++ xs) none ∙ append-nil (stimuli (journal old.history))

stays_links : {Own : Type 0} (old new : Seen Own) → new.given ≡ old.given → LinkSteps old new → StaysBeside old new
stays_links old new given only =
    let then_is = state-append old new only.steps given only.history in
    record {
      stimuli_is = no_stimuli_more old new only.steps only.history (stimuli_links only.steps only.all);
      beside = subst (λ (s : State). Beside (state old) s) (sym then_is) (beside_links only.steps (state old) only.all);
      marks = ap (λ (s : State). s.marks) then_is ∙ marks_links only.steps (state old) only.all;
    }

stimuli_told : {Own : Type 0} (Tells : Type 0) (app : ℕ) (act : Act) (old new : Seen Own) → is_of app act ≡ true → Told Tells act old new → Tells → stimuli (journal new.history) ≡ stimuli (journal old.history)
stimuli_told Tells app act old new is told tells = no_stimuli_more old new (step_of act ∷ []) (told.history tells) (stimuli_one app act is)

beside_told : {Own : Type 0} (Tells : Type 0) (app : ℕ) (act : Act) (old new : Seen Own) → is_of app act ≡ true → Told Tells act old new → Tells → Beside (state old) (state new)
beside_told Tells app act old new is told tells = subst (λ (s : State). Beside (state old) s) (sym (told_state told tells)) (beside_one app act (state old) is)

stays_chain : {Own : Type 0} (Tells : Type 0) (app : ℕ) (trace : List (Beat Own)) (old new : Seen Own) (net now_net : NetState) → Chain Tells app trace old new net now_net → Within app (acts_in trace) → Tells → StaysBeside old new
stays_chain Tells app [] old new net now_net chain all tells = stays_refl old new chain.0
stays_chain Tells app (Talk act ∷ trace) old new net now_net chain all tells =
    let next = chain.1.0 in
    let told = chain.1.1.0 in
    let call = call_within app act all.0 in
    stays_trans old next new (record {
      stimuli_is = stimuli_told Tells app act old next chain.0 told tells;
      beside = beside_told Tells app act old next chain.0 told tells;
      marks = ap (λ (s : State). s.marks) (told_state told tells) ∙ marks_one app act (state old) call;
    }) (stays_chain Tells app trace next new net now_net chain.1.1.1 all.1 tells)
stays_chain Tells app (Asks x ∷ trace) old new net now_net chain all tells =
    let one : StaysBeside old x.after = subst (λ (s : Seen _). StaysBeside s x.after) chain.0.0 (stays_links x.before x.after chain.1.0.changes.continues.given (chain.1.0.changes.links tells)) in
    stays_trans old x.after new one (stays_chain Tells app trace x.after new x.now_net now_net chain.1.1 all tells)

-- ---- The whole turn

marks_event : (given : Bool) (app : ℕ) (frame : List ℕ) (s : State) → (after_step (step_of (give_act given app frame)) s).marks ≡ marks_by given frame s
unfolding after_step after_act
marks_event true app frame s = refl
marks_event false app frame s = refl

-- what the acts of an application tell, where its history has these more
read_more : {Own : Type 0} (app : ℕ) (acts : List Act) (old new : Seen Own) → ActsTold app acts old new → acts_of app new.history ≡ acts_of app old.history ++ acts
read_more app acts old new told = ap (λ (h : List WorldStep). acts_of app h) told.history ∙ acts_append app old.history told.steps ∙ ap (λ (xs : List Act). acts_of app old.history ++ xs) told.acts_is

-- the acts of the application are longer by the event and the acts behind it
pub turn_acts : {Own : Type 0} {Tells : Type 0} {accepts : List TableView → Bool} {app budget : ℕ} {rest frame unread : List ℕ} {old new : Seen Own} {net now_net : NetState} {end : TurnEnd}
    → (t : Turns Tells accepts app budget rest frame old new net now_net end unread) → Tells → acts_of app new.history ≡ acts_of app old.history ++ give_act t.given app frame ∷ acts_in t.trace
turn_acts {Tells = Tells} {app = app} {frame = frame} {old = old} {new = new} {net = net} {now_net = now_net} t tells =
    let act = give_act t.given app frame in
    read_more app (act ∷ acts_in t.trace) old new (chain_told Tells app (Talk act ∷ t.trace) old new net now_net t.chain tells)

inputs_more : {Own : Type 0} (app : ℕ) (acts : List Act) (frames : List (List ℕ)) (old new : Seen Own) → ActsTold app acts old new → inputs app acts ≡ frames → inputs app (journal new.history) ≡ inputs app (journal old.history) ++ frames
inputs_more app acts frames old new told is =
    ap (λ (h : List WorldStep). inputs app (journal h)) told.history ∙ inputs_longer app old.history told.steps
    ∙ ap (λ (xs : List (List ℕ)). inputs app (journal old.history) ++ xs) (sym (inputs_own app (journal told.steps)) ∙ ap (inputs app) told.acts_is ∙ is)

pub turn_told : {Own : Type 0} {Tells : Type 0} {accepts : List TableView → Bool} {app budget : ℕ} {rest frame unread : List ℕ} {old new : Seen Own} {net now_net : NetState} {end : TurnEnd}
    → (t : Turns Tells accepts app budget rest frame old new net now_net end unread) → Tells → is_event frame ≡ true → LastStands (acts_of app old.history)
    → TurnTold app t.given frame (reply_by t.given t.trace) (given_in t.given frame t.answers) old new
turn_told {Tells = Tells} {app = app} {frame = frame} {old = old} {new = new} {net = net} {now_net = now_net} t tells event stood =
    let act = give_act t.given app frame in
    let next = t.chain.1.0 in
    let told = t.chain.1.1.0 in
    let later = stays_chain Tells app t.trace next new net now_net t.chain.1.1.1 t.within tells in
    let acts = chain_told Tells app (Talk act ∷ t.trace) old new net now_net t.chain tells in
    let reads = turn_read app t.given frame (acts_of app old.history) (acts_in t.trace) stood event t.within in
    let more = turn_acts t tells in
    record {
      given_is = (Chain-continues Tells app (Talk act ∷ t.trace) old new net now_net t.chain).given;
      starts = ap starts_in more ∙ reads.starts;
      replies = ap replies_in more ∙ reads.replies;
      life = subst LastStands (sym more) reads.life;
      inputs_is = inputs_more app (act ∷ acts_in t.trace) (given_in t.given frame t.answers) old new acts t.inputs_is;
      stimuli_is = later.stimuli_is ∙ stimuli_told Tells app act old next t.chain.0 told tells;
      beside = Beside-trans (state old) (state next) (state new) (beside_told Tells app act old next t.chain.0 told tells) later.beside;
      marks = later.marks ∙ ap (λ (s : State). s.marks) (told_state told tells) ∙ marks_event t.given app frame (state old);
    }
