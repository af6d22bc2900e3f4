-- Laws of what the history of a telling world has of a turn: of the acts of the application it has the calls of the beats, in order, and
-- nothing else, since what is sent to a switch and got from it is no act of an application.
use Rattle.std.specs.Prelude.{◌≡◌, ℕ, true, List, [], ◌∷◌, ◌++◌, filter, refl}
use Rattle.std.proofs.Common.{sym, ap, ◌∙◌, append_assoc, true≢false}
use Rattle.std.proofs.lemmas.List.{append-nil}
use Rattle.std.proofs.lemmas.List.Elements.{filter-append}
use Rattle.of_types.specs.declared.journal.Act.{Act}
use Rattle.of_types.specs.declared.journal.Act.TheVariants.{Stim, Started, Gave, Gone, Took, Ended, Sent, Got, Lost}
use Rattle.lego_model.specs.Journal.{is_of}
use Rattle.outside.specs.declared.step.WorldStep.{WorldStep}
use Rattle.outside.specs.declared.step.WorldStep.TheVariants.{Acted, TookInto, From, Joined, Left, Moment, Idle, End, Opened, NotOpened, NextFailed, SendLost, RecvLost, SendFailed, RecvFailed}
use Rattle.outside.specs.Seen.{Seen, journal}
use Rattle.outside.specs.laws.SeenLaws.{journal-append}
use Rattle.net_txn.specs.Net.{NetState}
use Rattle.net_txn.specs.LinkSteps.{AreLinkSteps}
use Rattle.app_visor.specs.Talks.{step_of}
use Rattle.app_visor.specs.Beats.{Exchange, Beat, Talk, Asks, IsExchange, Chain, acts_in, acts_of, ActsTold}

pub acts_append : (app : ℕ) (xs ys : List WorldStep) → acts_of app (xs ++ ys) ≡ acts_of app xs ++ acts_of app ys
acts_append app xs ys = ap (λ (acts : List Act). filter (is_of app) acts) (journal-append xs ys) ∙ filter-append (is_of app) (journal xs) (journal ys)

told_none : {Own : Type 0} (app : ℕ) (old new : Seen Own) → new ≡ old → ActsTold app [] old new
unfolding journal
told_none app old new is = record { steps = []; history = ap (λ (s : Seen _). s.history) is ∙ sym (append-nil old.history); acts_is = refl }

told_then : {Own : Type 0} (app : ℕ) (xs ys : List Act) (a b c : Seen Own) → ActsTold app xs a b → ActsTold app ys b c → ActsTold app (xs ++ ys) a c
told_then app xs ys a b c first second = record {
  steps = first.steps ++ second.steps;
  history = second.history ∙ ap (λ (h : List WorldStep). h ++ second.steps) first.history ∙ append_assoc a.history first.steps second.steps;
  acts_is = acts_append app first.steps second.steps ∙ ap (λ (acts : List Act). acts ++ acts_of app second.steps) first.acts_is ∙ ap (λ (acts : List Act). xs ++ acts) second.acts_is;
}

-- ---- A call for the application

pub journal_told : (act : Act) → journal (step_of act ∷ []) ≡ act ∷ []
unfolding journal
journal_told (Stim x) = refl
journal_told (Started app stands) = refl
journal_told (Gave app bytes) = refl
journal_told (Gone app bytes) = refl
journal_told (Took app what) = refl
journal_told (Ended app) = refl
journal_told (Sent d bytes) = refl
journal_told (Got d bytes) = refl
journal_told (Lost d) = refl

call_told : (app : ℕ) (act : Act) → is_of app act ≡ true → acts_of app (step_of act ∷ []) ≡ act ∷ []
call_told app act is = ap (λ (acts : List Act). filter (is_of app) acts) (journal_told act) ∙ rw is refl

-- ---- A message for a switch

-- no call of a link is one for an application
pub links_none : (app : ℕ) (steps : List WorldStep) → AreLinkSteps steps → acts_of app steps ≡ []
unfolding journal
links_none app [] all = refl
links_none app (Acted (Sent d bytes) ∷ steps) all = links_none app steps all.1
links_none app (Acted (Got d bytes) ∷ steps) all = links_none app steps all.1
links_none app (SendLost d ∷ steps) all = links_none app steps all.1
links_none app (RecvLost d ∷ steps) all = links_none app steps all.1
links_none app (SendFailed d ∷ steps) all = links_none app steps all.1
links_none app (RecvFailed d ∷ steps) all = links_none app steps all.1
links_none app (Acted (Stim x) ∷ steps) all = absurd (true≢false (sym all.0))
links_none app (Acted (Started of stands) ∷ steps) all = absurd (true≢false (sym all.0))
links_none app (Acted (Gave of frame) ∷ steps) all = absurd (true≢false (sym all.0))
links_none app (Acted (Gone of frame) ∷ steps) all = absurd (true≢false (sym all.0))
links_none app (Acted (Took of what) ∷ steps) all = absurd (true≢false (sym all.0))
links_none app (Acted (Ended of) ∷ steps) all = absurd (true≢false (sym all.0))
links_none app (Acted (Lost d) ∷ steps) all = absurd (true≢false (sym all.0))
links_none app (TookInto of what room ∷ steps) all = absurd (true≢false (sym all.0))
links_none app (From d bytes ∷ steps) all = absurd (true≢false (sym all.0))
links_none app (Joined d bytes ∷ steps) all = absurd (true≢false (sym all.0))
links_none app (Left d ∷ steps) all = absurd (true≢false (sym all.0))
links_none app (Moment at ∷ steps) all = absurd (true≢false (sym all.0))
links_none app (Idle ∷ steps) all = absurd (true≢false (sym all.0))
links_none app (End ∷ steps) all = absurd (true≢false (sym all.0))
links_none app (Opened ∷ steps) all = absurd (true≢false (sym all.0))
links_none app (NotOpened ∷ steps) all = absurd (true≢false (sym all.0))
links_none app (NextFailed ∷ steps) all = absurd (true≢false (sym all.0))

exchange_told : {Own : Type 0} (Tells : Type 0) (app : ℕ) (x : Exchange Own) → IsExchange Tells x → Tells → ActsTold app [] x.before x.after
exchange_told Tells app x is tells =
    let only = is.changes.links tells in
    record { steps = only.steps; history = only.history; acts_is = links_none app only.steps only.all }

-- ---- All beats

pub chain_told : {Own : Type 0} (Tells : Type 0) (app : ℕ) (trace : List (Beat Own)) (old new : Seen Own) (net now_net : NetState) → Chain Tells app trace old new net now_net → Tells → ActsTold app (acts_in trace) old new
chain_told Tells app [] old new net now_net chain tells = told_none app old new chain.0
chain_told Tells app (Talk act ∷ trace) old new net now_net chain tells =
    let one : ActsTold app (act ∷ []) old chain.1.0 = record { steps = step_of act ∷ []; history = chain.1.1.0.history tells; acts_is = call_told app act chain.0 } in
    told_then app (act ∷ []) (acts_in trace) old chain.1.0 new one (chain_told Tells app trace chain.1.0 new net now_net chain.1.1.1 tells)
chain_told Tells app (Asks x ∷ trace) old new net now_net chain tells =
    let one : ActsTold app [] old x.after = rw (← chain.0.0) (exchange_told Tells app x chain.1.0 tells) in
    told_then app [] (acts_in trace) old x.after new one (chain_told Tells app trace x.after new x.now_net now_net chain.1.1 tells)
