-- Laws of what the journal tells of a turn and of attempts to start: what the application was given, and that no stimulus came, and no packet
-- was released nor, by attempts, a switch lost.
use Rattle.std.proofs.Common.{◌≡◌, ℕ, zero, suc, true, List, [], ◌∷◌, ◌++◌, map, refl, sym, ap, ◌∙◌, subst, inl, inr, append_assoc, true≢false}
use Rattle.std.proofs.lemmas.Bool.{eq-eqb}
use Rattle.std.proofs.lemmas.List.{append-nil}
use Rattle.std.proofs.lemmas.List.Elements.{filter_map-append}
use Rattle.std.specs.List.{AllByRecursion}
use Rattle.of_types.specs.declared.journal.Act.{Act}
use Rattle.of_types.specs.declared.journal.Act.TheVariants.{Stim, Started, Gave, Gone, Took, Ended, Sent, Got, Lost}
use Rattle.of_types.specs.declared.journal.WorldStim.{WorldStim}
use Rattle.lego_model.specs.Journal.{is_of, inputs, stimuli, released_in, released, losses, start_of}
use Rattle.lego_model.specs.laws.JournalLaws.{inputs-append, stimuli-append}
use Rattle.lego_model.specs.Packets.{Held}
use Rattle.outside.specs.Seen.{Seen, journal}
use Rattle.outside.specs.laws.SeenLaws.{journal-append}
use Rattle.outside.specs.State.{State, state, is_running}
use Rattle.outside.specs.Conforming.{Conforming}
use Rattle.outside.specs.laws.StateLaws.{Conforming-before}
use Rattle.net_txn.specs.laws.LostLaws.{losses_two}
use Rattle.net_txn.specs.Net.{NetState}
use Rattle.app_visor.specs.Talks.{step_of}
use Rattle.app_visor.specs.Beats.{Beat, Talk, Asks, Chain, acts_in}
use Rattle.app_visor.specs.Attempts.{restored, IsTry, OneTry, AreTries, given_by}
use Rattle.journal_laws.specs.Readings.{end_acts}
use Rattle.lego_model.specs.History.{given_in, stimuli_in, released_of, lost_of}
use Rattle.run_laws.specs.laws.ChainLaws.{links_tell, told_state, try_own, try_given}
use Rattle.run_laws.specs.laws.LinkStepLaws.{talk_step}
use Rattle.run_laws.specs.LinkSteps.{TellsGiven, TellsNoLoss, ChainKeeps}
use Rattle.app_visor.specs.laws.BeatLaws.{Chain-continues}
use Rattle.switch_laws.specs.laws.LinkLaws.{links_switch}
use Rattle.switch_laws.specs.Since.{Ready, Goes}
use Rattle.switch_laws.specs.Sound.{Sound}
use Rattle.switch_laws.specs.laws.SinceLaws.{goes-on}
use Rattle.switch_laws.specs.laws.LossLaws.{ready-joined}
use Rattle.switch_laws.specs.laws.SoundStepLaws.{exchange-sound}
use Rattle.turn_laws.specs.laws.ChainLaws.{goes-same}
use Rattle.app_visor.specs.laws.TellingLaws.{journal_steps}
use Rattle.switch_laws.specs.laws.OrderlyLaws.{exchange-releases-none}

abbrev AreOwn : ℕ → List Act → Type 0
AreOwn app acts = AllByRecursion (λ act. is_of app act ≡ true) acts

-- ---- Calls for the application

no_stimuli : (app : ℕ) (acts : List Act) → AreOwn app acts → stimuli acts ≡ []
unfolding stimuli
no_stimuli app [] own = refl
no_stimuli app (Stim x ∷ acts) own = absurd (true≢false (sym own.0))
no_stimuli app (Started of stands ∷ acts) own = no_stimuli app acts own.1
no_stimuli app (Gave of bytes ∷ acts) own = no_stimuli app acts own.1
no_stimuli app (Gone of bytes ∷ acts) own = no_stimuli app acts own.1
no_stimuli app (Took of what ∷ acts) own = no_stimuli app acts own.1
no_stimuli app (Ended of ∷ acts) own = no_stimuli app acts own.1
no_stimuli app (Sent d bytes ∷ acts) own = no_stimuli app acts own.1
no_stimuli app (Got d bytes ∷ acts) own = no_stimuli app acts own.1
no_stimuli app (Lost d ∷ acts) own = absurd (true≢false (sym own.0))

released-append : (first next : List Act) → released (first ++ next) ≡ released first ++ released next
unfolding released
released-append first next = filter_map-append released_in first next

no_release : (app : ℕ) (acts : List Act) → AreOwn app acts → released acts ≡ []
unfolding released
no_release app [] own = refl
no_release app (Stim x ∷ acts) own = absurd (true≢false (sym own.0))
no_release app (Started of stands ∷ acts) own = no_release app acts own.1
no_release app (Gave of bytes ∷ acts) own = no_release app acts own.1
no_release app (Gone of bytes ∷ acts) own = no_release app acts own.1
no_release app (Took of what ∷ acts) own = no_release app acts own.1
no_release app (Ended of ∷ acts) own = no_release app acts own.1
no_release app (Sent d bytes ∷ acts) own = absurd (true≢false (sym own.0))
no_release app (Got d bytes ∷ acts) own = absurd (true≢false (sym own.0))
no_release app (Lost d ∷ acts) own = absurd (true≢false (sym own.0))

-- a journal that goes on by acts that release nothing
pub released_same : {Own : Type 0} (old new : Seen Own) (acts : List Act) → journal new.history ≡ journal old.history ++ acts → released acts ≡ [] → released_of new ≡ released_of old
released_same old new acts longer none =
    ap released longer ∙ released-append (journal old.history) acts ∙ ap (λ (ps : List Held). released_of old ++ ps) none ∙ append-nil (released_of old)

no_loss : (app : ℕ) (acts : List Act) → AreOwn app acts → losses acts ≡ []
unfolding losses
no_loss app [] own = refl
no_loss app (Stim x ∷ acts) own = absurd (true≢false (sym own.0))
no_loss app (Started of stands ∷ acts) own = no_loss app acts own.1
no_loss app (Gave of bytes ∷ acts) own = no_loss app acts own.1
no_loss app (Gone of bytes ∷ acts) own = no_loss app acts own.1
no_loss app (Took of what ∷ acts) own = no_loss app acts own.1
no_loss app (Ended of ∷ acts) own = no_loss app acts own.1
no_loss app (Sent d bytes ∷ acts) own = absurd (true≢false (sym own.0))
no_loss app (Got d bytes ∷ acts) own = absurd (true≢false (sym own.0))
no_loss app (Lost d ∷ acts) own = absurd (true≢false (sym own.0))

-- a journal that goes on by acts that lose these switches
pub lost_more : {Own : Type 0} (old new : Seen Own) (acts : List Act) → journal new.history ≡ journal old.history ++ acts → lost_of new ≡ lost_of old ++ losses acts
lost_more old new acts longer = ap losses longer ∙ losses_two (journal old.history) acts

pub lost_same : {Own : Type 0} (old new : Seen Own) (acts : List Act) → journal new.history ≡ journal old.history ++ acts → losses acts ≡ [] → lost_of new ≡ lost_of old
lost_same old new acts longer none = lost_more old new acts longer ∙ ap (λ (ds : List ℕ). lost_of old ++ ds) none ∙ append-nil (lost_of old)

tells_none : {Own : Type 0} (app : ℕ) (seen : Seen Own) → TellsGiven app seen seen []
tells_none app seen = record { given = sym (append-nil (given_in app seen)); stims = refl }

tells_then : {Own : Type 0} (app : ℕ) (a b c : Seen Own) (xs ys : List (List ℕ)) → TellsGiven app a b xs → TellsGiven app b c ys → TellsGiven app a c (xs ++ ys)
tells_then app a b c xs ys first second = record {
  given = second.given ∙ ap (λ (frames : List (List ℕ)). frames ++ ys) first.given ∙ append_assoc (given_in app a) xs ys;
  stims = second.stims ∙ first.stims;
}

tells_talk : {Own : Type 0} (app : ℕ) (old new : Seen Own) (acts : List Act) → new.history ≡ old.history ++ map step_of acts → AreOwn app acts → TellsGiven app old new (inputs app acts)
tells_talk app old new acts history own =
    let longer : journal new.history ≡ journal old.history ++ acts =
    ap journal history ∙ journal-append old.history (map step_of acts) ∙ ap (λ (more : List Act). journal old.history ++ more) (journal_steps acts) in
    record {
      given = ap (inputs app) longer ∙ inputs-append app (journal old.history) acts;
      stims = ap stimuli longer ∙ stimuli-append (journal old.history) acts ∙ ap (λ (xs : List WorldStim). stimuli_in old ++ xs) (no_stimuli app acts own) ∙ append-nil (stimuli_in old);
    }

-- calls for the application release nothing and lose nothing
pub talk_loses : {Own : Type 0} (app : ℕ) (old new : Seen Own) (acts : List Act) → new.history ≡ old.history ++ map step_of acts → AreOwn app acts → TellsNoLoss old new
talk_loses app old new acts history own =
    let longer : journal new.history ≡ journal old.history ++ acts =
    ap journal history ∙ journal-append old.history (map step_of acts) ∙ ap (λ (more : List Act). journal old.history ++ more) (journal_steps acts) in
    record { released = released_same old new acts longer (no_release app acts own); lost = lost_same old new acts longer (no_loss app acts own) }

-- ---- Beats

none_given : (app : ℕ) → inputs app [] ≡ []
unfolding inputs
none_given app = refl

pub chain_tells : {Own : Type 0} (Tells : Type 0) (app : ℕ) (trace : List (Beat Own)) (old new : Seen Own) (net now_net : NetState) → Tells → Chain Tells app trace old new net now_net → TellsGiven app old new (inputs app (acts_in trace))
chain_tells Tells app [] old new net now_net told chain =
    subst (λ (s : Seen _). TellsGiven app old s (inputs app [])) (sym chain.0) (subst (TellsGiven app old old) (sym (none_given app)) (tells_none app old))
chain_tells Tells app (Talk act ∷ trace) old new net now_net told chain =
    let next = chain.1.0 in
    subst (TellsGiven app old new) (sym (inputs-append app (act ∷ []) (acts_in trace)))
    (tells_then app old next new (inputs app (act ∷ [])) (inputs app (acts_in trace)) (tells_talk app old next (act ∷ []) (chain.1.1.0.history told) (chain.0, tt)) (chain_tells Tells app trace next new net now_net told chain.1.1.1))
chain_tells Tells app (Asks x ∷ trace) old new net now_net told chain =
    let same = links_tell app x.before x.after (chain.1.0.changes.links told) in
    let one : TellsGiven app old x.after [] = subst (λ (s : Seen _). TellsGiven app s x.after []) chain.0.0 (record { given = same.given ∙ sym (append-nil (given_in app x.before)); stims = same.stims }) in
    tells_then app old x.after new [] (inputs app (acts_in trace)) one (chain_tells Tells app trace x.after new x.now_net now_net told chain.1.1)

-- what is sound stays so, and no packet is released
pub chain_keeps : {Own : Type 0} (Tells : Type 0) (app : ℕ) (start : ℕ) (lost : List ℕ) (first : Seen Own) (net0 : NetState) (trace : List (Beat Own)) (old new : Seen Own) (net now_net : NetState) → Tells → Conforming new → Chain Tells app trace old new net now_net
    → Goes start lost first old net0 net → Sound (state old) → ChainKeeps old new
chain_keeps Tells app start lost first net0 [] old new net now_net told keeps chain goes sound = subst (λ (s : Seen _). ChainKeeps old s) (sym chain.0) (record { sound = sound; released = refl })
chain_keeps Tells app start lost first net0 (Talk act ∷ trace) old new net now_net told keeps chain goes sound =
    let next = chain.1.0 in
    let t = chain.1.1.0 in
    let none = talk_loses app old next (act ∷ []) (t.history told) (chain.0, tt) in
    let same : (state next).links ≡ (state old).links = ap (λ (s : State). s.links) (told_state Tells act old next told t) ∙ (talk_step app act (state old) chain.0).links in
    let rest = chain_keeps Tells app start lost first net0 trace next new net now_net told keeps chain.1.1.1 (goes-same start lost first old next net0 net t.continues.given same none.lost goes)
    (record { entries = λ d x is. sound.entries d x (sym (links_switch d (state old) (state next) same) ∙ is) }) in
    record { sound = rest.sound; released = rest.released ∙ none.released }
chain_keeps Tells app start lost first net0 (Asks x ∷ trace) old new net now_net told keeps chain goes sound =
    let is = chain.1.0 in
    let kept = Conforming-before told (Chain-continues Tells app trace x.after new x.now_net now_net chain.1.1) keeps in
    let here = subst (λ (n : NetState). Goes start lost first x.before net0 n) (sym chain.0.1) (subst (λ (s : Seen _). Goes start lost first s net0 net) (sym chain.0.0) goes) in
    let on = goes-on Tells x.dpid x.bytes start lost first x.before x.after net0 x.net x.now_net x.answer told kept is.changes here in
    let sound_there = exchange-sound Tells x.dpid x.bytes x.before x.after x.net x.now_net x.answer told kept is.changes here.ready (subst (λ (s : Seen _). Sound (state s)) (sym chain.0.0) sound) in
    let rest = chain_keeps Tells app start (lost ++ on.more) first net0 trace x.after new x.now_net now_net told keeps chain.1.1 on.goes sound_there in
    record {
      sound = rest.sound;
      released = rest.released ∙ exchange-releases-none Tells x.dpid x.bytes x.before x.after x.net x.now_net x.answer told (ready-joined x.before x.net here.ready) is.changes ∙ ap released_of chain.0.0;
    }

-- all is ready behind them
pub chain_ready : {Own : Type 0} (Tells : Type 0) (app : ℕ) (start : ℕ) (lost : List ℕ) (first : Seen Own) (net0 : NetState) (trace : List (Beat Own)) (old new : Seen Own) (net now_net : NetState) → Tells → Conforming new → Chain Tells app trace old new net now_net
    → Goes start lost first old net0 net → Ready new now_net
chain_ready Tells app start lost first net0 [] old new net now_net told keeps chain goes = subst (λ (n : NetState). Ready new n) (sym chain.1) (subst (λ (s : Seen _). Ready s net) (sym chain.0) goes.ready)
chain_ready Tells app start lost first net0 (Talk act ∷ trace) old new net now_net told keeps chain goes =
    let next = chain.1.0 in
    let t = chain.1.1.0 in
    let none = talk_loses app old next (act ∷ []) (t.history told) (chain.0, tt) in
    let same : (state next).links ≡ (state old).links = ap (λ (s : State). s.links) (told_state Tells act old next told t) ∙ (talk_step app act (state old) chain.0).links in
    chain_ready Tells app start lost first net0 trace next new net now_net told keeps chain.1.1.1 (goes-same start lost first old next net0 net t.continues.given same none.lost goes)
chain_ready Tells app start lost first net0 (Asks x ∷ trace) old new net now_net told keeps chain goes =
    let is = chain.1.0 in
    let kept = Conforming-before told (Chain-continues Tells app trace x.after new x.now_net now_net chain.1.1) keeps in
    let here = subst (λ (n : NetState). Goes start lost first x.before net0 n) (sym chain.0.1) (subst (λ (s : Seen _). Goes start lost first s net0 net) (sym chain.0.0) goes) in
    let on = goes-on Tells x.dpid x.bytes start lost first x.before x.after net0 x.net x.now_net x.answer told kept is.changes here in
    chain_ready Tells app start (lost ++ on.more) first net0 trace x.after new x.now_net now_net told keeps chain.1.1 on.goes

-- ---- Attempts to start

try_tells : {Own : Type 0} (Tells : Type 0) (app : ℕ) (kept : List ℕ) (t : OneTry Own) (old : Seen Own) → Tells → IsTry Tells app kept t.attempt t.tried t.rest old t.after → AreOwn app t.attempt.acts → TellsGiven app old t.after (restored kept (start_of t.attempt))
try_tells Tells app kept t old told is own =
    let running = is_running app (state old) in
    let acts = end_acts running app ++ Started app t.attempt.stands ∷ t.attempt.acts in
    subst (TellsGiven app old t.after) (try_given app running t.attempt.stands t.attempt.acts ∙ is.given)
    (tells_talk app old t.after acts (is.history told) (try_own app running t.attempt.stands t.attempt.acts (eq-eqb app app refl) own))

try_loses : {Own : Type 0} (Tells : Type 0) (app : ℕ) (kept : List ℕ) (t : OneTry Own) (old : Seen Own) → Tells → IsTry Tells app kept t.attempt t.tried t.rest old t.after → AreOwn app t.attempt.acts → TellsNoLoss old t.after
try_loses Tells app kept t old told is own =
    let running = is_running app (state old) in
    talk_loses app old t.after (end_acts running app ++ Started app t.attempt.stands ∷ t.attempt.acts) (is.history told) (try_own app running t.attempt.stands t.attempt.acts (eq-eqb app app refl) own)

loses_then : {Own : Type 0} (a b c : Seen Own) → TellsNoLoss a b → TellsNoLoss b c → TellsNoLoss a c
loses_then a b c first second = record { released = second.released ∙ first.released; lost = second.lost ∙ first.lost }

-- attempts release nothing and lose nothing
pub tries_lose : {Own : Type 0} (Tells : Type 0) (app : ℕ) (kept : List ℕ) (n : ℕ) (ts : List (OneTry Own)) (old new : Seen Own) → Tells → AreTries Tells app kept n ts old new → AllByRecursion (λ t. AreOwn app t.attempt.acts) ts → TellsNoLoss old new
tries_lose Tells app kept zero [] old new told are own = subst (TellsNoLoss old) (sym are) (record { released = refl; lost = refl })
tries_lose Tells app kept zero (t ∷ ts) old new told are own = absurd are
tries_lose Tells app kept (suc n) [] old new told are own = absurd are
tries_lose Tells app kept (suc n) (t ∷ ts) old new told are own =
    let one = try_loses Tells app kept t old told are.0 own.0 in
    elim are.1 [
      | inl last ↦ subst (TellsNoLoss old) (sym last.2) one
      | inr more ↦ loses_then old t.after new one (tries_lose Tells app kept n ts t.after new told more.1 own.1)
    ]

pub tries_tell : {Own : Type 0} (Tells : Type 0) (app : ℕ) (kept : List ℕ) (n : ℕ) (ts : List (OneTry Own)) (old new : Seen Own) → Tells → AreTries Tells app kept n ts old new → AllByRecursion (λ t. AreOwn app t.attempt.acts) ts → TellsGiven app old new (given_by kept ts)
tries_tell Tells app kept zero [] old new told are own = subst (λ (s : Seen _). TellsGiven app old s []) (sym are) (tells_none app old)
tries_tell Tells app kept zero (t ∷ ts) old new told are own = absurd are
tries_tell Tells app kept (suc n) [] old new told are own = absurd are
tries_tell Tells app kept (suc n) (t ∷ ts) old new told are own =
    let one = try_tells Tells app kept t old told are.0 own.0 in
    elim are.1 [
      | inl last ↦ subst (λ (s : Seen _). TellsGiven app old s (given_by kept (t ∷ ts))) (sym last.2)
          (subst (λ (more : List (OneTry _)). TellsGiven app old t.after (given_by kept (t ∷ more))) (sym last.1) (subst (TellsGiven app old t.after) (sym (append-nil (restored kept (start_of t.attempt)))) one))
      | inr more ↦ tells_then app old t.after new (restored kept (start_of t.attempt)) (given_by kept ts) one (tries_tell Tells app kept n ts t.after new told more.1 own.1)
    ]
