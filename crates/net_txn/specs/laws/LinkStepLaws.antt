-- Laws of histories that go on by steps of links alone.
use Rattle.std.specs.Prelude.{◌≡◌, ℕ, List, [], ◌∷◌, ◌++◌, refl, true, filter}
use Rattle.std.proofs.Common.{sym, ap, ◌∙◌, append_assoc, true≢false}
use Rattle.std.proofs.lemmas.List.{append-nil}
use Rattle.outside.specs.declared.step.WorldStep.{WorldStep}
use Rattle.outside.specs.Seen.{Seen, journal}
use Rattle.lego_model.specs.declared.wait.Awaited.{Awaited}
use Rattle.lego_model.specs.declared.wait.Heard.{Heard}
use Rattle.lego_model.specs.declared.wait.Heard.TheVariants.{Reply, Refused, Notice, Echo, Other}
use Rattle.lego_model.specs.BarrierWaits.{heard, steps_by, wait_steps}
use Rattle.net_txn.specs.LinkSteps.{AreLinkSteps, OnLinks, is_link_step}
use Rattle.of_types.specs.declared.journal.Act.TheVariants.{Stim, Started, Gave, Gone, Took, Ended, Sent, Got, Lost}
use Rattle.lego_model.specs.Journal.{is_of, stimuli}
use Rattle.outside.specs.declared.step.WorldStep.TheVariants.{Acted, TookInto, From, Joined, Left, Moment, Idle, End, Opened, NotOpened, NextFailed, SendLost, RecvLost, SendFailed, RecvFailed}

-- ---- None, and one after the other

pub links_append : (xs ys : List WorldStep) → AreLinkSteps xs → AreLinkSteps ys → AreLinkSteps (xs ++ ys)
links_append [] ys all rest = rest
links_append (x ∷ xs) ys all rest = (all.0, links_append xs ys all.1 rest)

pub OnLinks-refl : {Own : Type 0} (Tells : Type 0) (seen : Seen Own) → OnLinks Tells seen seen
OnLinks-refl Tells seen told = record { steps = []; history = sym (append-nil seen.history); all = tt }

pub OnLinks-trans : {Own : Type 0} (Tells : Type 0) (old mid new : Seen Own) → OnLinks Tells old mid → OnLinks Tells mid new → OnLinks Tells old new
OnLinks-trans Tells old mid new before later told =
    let first = before told in
    let second = later told in
    record {
      steps = first.steps ++ second.steps;
      history = second.history ∙ ap (λ (xs : List WorldStep). xs ++ second.steps) first.history ∙ append_assoc old.history first.steps second.steps;
      all = links_append first.steps second.steps first.all second.all;
    }

-- by steps that are told
pub OnLinks-by : {Own : Type 0} (Tells : Type 0) (old new : Seen Own) (steps : List WorldStep) → AreLinkSteps steps → (Tells → new.history ≡ old.history ++ steps) → OnLinks Tells old new
OnLinks-by Tells old new steps all history told = record { steps = steps; history = history told; all = all }

-- ---- One call of a link

-- ---- A wait

by_links : (d : ℕ) (h : Heard) (bytes : List ℕ) → AreLinkSteps (steps_by d h bytes)
by_links d Reply bytes = tt
by_links d (Refused r) bytes = tt
by_links d Notice bytes = tt
by_links d Echo bytes = (refl, tt)
by_links d Other bytes = tt

pub wait_links : (a : Awaited) (got : List (List ℕ)) → AreLinkSteps (wait_steps a got)
wait_links a [] = tt
wait_links a (b ∷ bs) = (refl, links_append (steps_by a.dpid (heard a b) b) (wait_steps a bs) (by_links a.dpid (heard a b) b) (wait_links a bs))

-- ---- What steps of links do not tell

-- none is a stimulus or an act of an application
abbrev TellsNothing : WorldStep → Type 0
TellsNothing step = (steps : List WorldStep) (app : ℕ) → (stimuli (journal (step ∷ steps)) ≡ stimuli (journal steps)) × (filter (is_of app) (journal (step ∷ steps)) ≡ filter (is_of app) (journal steps))

link_tells : (step : WorldStep) → is_link_step step ≡ true → TellsNothing step
unfolding stimuli journal
link_tells (Acted (Sent d bytes)) is steps app = (refl, refl)
link_tells (Acted (Got d bytes)) is steps app = (refl, refl)
link_tells (SendLost d) is steps app = (refl, refl)
link_tells (RecvLost d) is steps app = (refl, refl)
link_tells (SendFailed d) is steps app = (refl, refl)
link_tells (RecvFailed d) is steps app = (refl, refl)
link_tells (Acted (Stim x)) is steps app = absurd (true≢false (sym is))
link_tells (Acted (Started of ok)) is steps app = absurd (true≢false (sym is))
link_tells (Acted (Gave of bytes)) is steps app = absurd (true≢false (sym is))
link_tells (Acted (Gone of bytes)) is steps app = absurd (true≢false (sym is))
link_tells (Acted (Took of what)) is steps app = absurd (true≢false (sym is))
link_tells (Acted (Ended of)) is steps app = absurd (true≢false (sym is))
link_tells (Acted (Lost d)) is steps app = absurd (true≢false (sym is))
link_tells (TookInto of what room) is steps app = absurd (true≢false (sym is))
link_tells (From d bytes) is steps app = absurd (true≢false (sym is))
link_tells (Joined d bytes) is steps app = absurd (true≢false (sym is))
link_tells (Left d) is steps app = absurd (true≢false (sym is))
link_tells (Moment t) is steps app = absurd (true≢false (sym is))
link_tells Idle is steps app = absurd (true≢false (sym is))
link_tells End is steps app = absurd (true≢false (sym is))
link_tells Opened is steps app = absurd (true≢false (sym is))
link_tells NotOpened is steps app = absurd (true≢false (sym is))
link_tells NextFailed is steps app = absurd (true≢false (sym is))

pub stimuli_links : (steps : List WorldStep) → AreLinkSteps steps → stimuli (journal steps) ≡ []
unfolding stimuli journal
stimuli_links [] all = refl
stimuli_links (step ∷ steps) all = (link_tells step all.0 steps 0).0 ∙ stimuli_links steps all.1

pub acts_links : (app : ℕ) (steps : List WorldStep) → AreLinkSteps steps → filter (is_of app) (journal steps) ≡ []
unfolding journal
acts_links app [] all = refl
acts_links app (step ∷ steps) all = (link_tells step all.0 steps app).1 ∙ acts_links app steps all.1
