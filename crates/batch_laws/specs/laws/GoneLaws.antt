-- What a switch that is lost at an item leaves: no stimulus and no act of an application comes of it, nothing is released, the calls are in
-- order, and of the state but the switch itself nothing moves.
use Rattle.std.specs.Prelude.{◌≡◌, ◌==◌, ℕ, true, List, [], ◌∷◌, ◌++◌, filter, refl}
use Rattle.std.proofs.Common.{sym, ap, ◌∙◌, subst, inl, inr, true≢false}
use Rattle.std.proofs.lemmas.Bool.{cases_Bool, eqb-true, eqb-false}
use Rattle.std.proofs.lemmas.List.{append-nil}
use Rattle.std.proofs.lemmas.List.Elements.{filter-append}
use Rattle.of_types.specs.declared.journal.Act.{Act}
use Rattle.of_types.specs.declared.journal.Act.TheVariants.{Stim, Started, Gave, Gone, Took, Ended, Sent, Got, Lost}
use Rattle.of_types.specs.declared.journal.WorldStim.{WorldStim}
use Rattle.lego_model.specs.History.{released_of}
use Rattle.lego_model.specs.Journal.{is_of, stimuli, losses}
use Rattle.lego_model.specs.Packets.{Held}
use Rattle.lego_model.specs.laws.JournalLaws.{stimuli-append, losses-append}
use Rattle.outside.specs.declared.step.WorldStep.{WorldStep}
use Rattle.outside.specs.declared.step.WorldStep.TheVariants.{Acted, TookInto, From, Joined, Left, Moment, Idle, End, Opened, NotOpened, NextFailed, SendLost, RecvLost, SendFailed, RecvFailed}
use Rattle.outside.specs.Seen.{Seen, journal}
use Rattle.outside.specs.laws.SeenLaws.{journal-append}
use Rattle.outside.specs.State.{State, after_act, after_step, after_steps, state, waits_of, is_joined}
use Rattle.outside.specs.laws.StateLaws.{state-append}
use Rattle.outside.specs.Conforming.{Conforming}
use Rattle.net_txn.specs.LinkSteps.{is_link_step, AreLinkSteps, LinkSteps, OnLinks, AsksWithoutStrays}
use Rattle.net_txn.specs.Losing.{GoesOut, IsLost}
use Rattle.switch_laws.specs.laws.OrderlyLaws.{released-on}
use Rattle.batch_laws.specs.Items.{SameRest, LossLeaves}
use Rattle.batch_laws.specs.laws.ItemLaws.{rest_all, rest_then}
use Rattle.batch_laws.specs.laws.KeepingLaws.{Conforming-in_order, calls-orderly}
use Rattle.net_txn.specs.laws.LinkStepLaws.{stimuli_links, acts_links}

-- ---- Steps of links

link_rest : (step : WorldStep) (s : State) → is_link_step step ≡ true → SameRest s (after_step step s)
unfolding after_step after_act
link_rest (Acted (Sent d bytes)) s is = record { besides = record { opened = refl; running = refl; moment = refl; to_come = refl; marks = refl }; begun = refl; due = refl }
link_rest (Acted (Got d bytes)) s is = record { besides = record { opened = refl; running = refl; moment = refl; to_come = refl; marks = refl }; begun = refl; due = refl }
link_rest (SendLost d) s is = record { besides = record { opened = refl; running = refl; moment = refl; to_come = refl; marks = refl }; begun = refl; due = refl }
link_rest (RecvLost d) s is = record { besides = record { opened = refl; running = refl; moment = refl; to_come = refl; marks = refl }; begun = refl; due = refl }
link_rest (SendFailed d) s is = record { besides = record { opened = refl; running = refl; moment = refl; to_come = refl; marks = refl }; begun = refl; due = refl }
link_rest (RecvFailed d) s is = record { besides = record { opened = refl; running = refl; moment = refl; to_come = refl; marks = refl }; begun = refl; due = refl }
link_rest (Acted (Stim x)) s is = absurd (true≢false (sym is))
link_rest (Acted (Started app ok)) s is = absurd (true≢false (sym is))
link_rest (Acted (Gave app bytes)) s is = absurd (true≢false (sym is))
link_rest (Acted (Gone app bytes)) s is = absurd (true≢false (sym is))
link_rest (Acted (Took app what)) s is = absurd (true≢false (sym is))
link_rest (Acted (Ended app)) s is = absurd (true≢false (sym is))
link_rest (Acted (Lost d)) s is = absurd (true≢false (sym is))
link_rest (TookInto app what room) s is = absurd (true≢false (sym is))
link_rest (From d bytes) s is = absurd (true≢false (sym is))
link_rest (Joined d bytes) s is = absurd (true≢false (sym is))
link_rest (Left d) s is = absurd (true≢false (sym is))
link_rest (Moment t) s is = absurd (true≢false (sym is))
link_rest Idle s is = absurd (true≢false (sym is))
link_rest End s is = absurd (true≢false (sym is))
link_rest Opened s is = absurd (true≢false (sym is))
link_rest NotOpened s is = absurd (true≢false (sym is))
link_rest NextFailed s is = absurd (true≢false (sym is))

links_rest : (steps : List WorldStep) (s : State) → AreLinkSteps steps → SameRest s (after_steps steps s)
links_rest [] s all = rest_all s
links_rest (step ∷ steps) s all = rest_then s (after_step step s) (after_steps steps (after_step step s)) (link_rest step s all.0) (links_rest steps (after_step step s) all.1)

-- ---- A switch that is lost

gone_by : {Own Tells : Type 0} (d : ℕ) (mid new : Seen Own) → Tells → Conforming new → new.given ≡ mid.given → ((e : ℕ) → waits_of e (state mid) ≡ []) → is_joined d (state mid) ≡ true → AsksWithoutStrays Tells d mid new → LinkSteps mid new → GoesOut d [] mid new
    → LossLeaves d mid new
gone_by d mid new told keeps given none joined no_strays links out = record {
  rest = subst (λ (t : State). SameRest (state mid) t) (sym (state-append mid new links.steps given links.history)) (links_rest links.steps (state mid) links.all);
  out = out.out;
  others = out.others;
  waits = λ e. elim (cases_Bool (e == d)) [
    | inl here ↦ subst (λ (n : ℕ). waits_of n (state new) ≡ []) (sym (eqb-true e d here)) out.waits
    | inr other ↦ out.others_wait e (eqb-false e d other) ∙ none e
  ];
  lost = ap (λ (h : List WorldStep). losses (journal h)) out.history ∙ ap losses (journal-append mid.history out.steps) ∙ losses-append (journal mid.history) (journal out.steps)
      ∙ ap (λ (xs : List ℕ). losses (journal mid.history) ++ xs) out.lost;
  stimuli_is = ap (λ (h : List WorldStep). stimuli (journal h)) links.history ∙ ap stimuli (journal-append mid.history links.steps) ∙ stimuli-append (journal mid.history) (journal links.steps)
      ∙ ap (λ (xs : List WorldStim). stimuli (journal mid.history) ++ xs) (stimuli_links links.steps links.all) ∙ append-nil (stimuli (journal mid.history));
  acts = λ app. ap (λ (h : List WorldStep). filter (is_of app) (journal h)) links.history ∙ ap (filter (is_of app)) (journal-append mid.history links.steps)
      ∙ filter-append (is_of app) (journal mid.history) (journal links.steps)
      ∙ ap (λ (xs : List Act). filter (is_of app) (journal mid.history) ++ xs) (acts_links app links.steps links.all) ∙ append-nil (filter (is_of app) (journal mid.history));
  released = released-on mid new out.steps out.history ∙ ap (λ (xs : List Held). released_of mid ++ xs) out.released_is ∙ append-nil (released_of mid);
  orderly = λ app. calls-orderly app mid new links (no_strays told (Conforming-in_order new keeps) joined);
}

pub lost-leaves : {Own Tells : Type 0} (d : ℕ) (mid new : Seen Own) → Tells → Conforming new → new.given ≡ mid.given → ((e : ℕ) → waits_of e (state mid) ≡ []) → is_joined d (state mid) ≡ true → OnLinks Tells mid new → AsksWithoutStrays Tells d mid new
    → IsLost Tells d [] mid new → LossLeaves d mid new
lost-leaves d mid new told keeps given none joined links no_strays lost = gone_by d mid new told keeps given none joined no_strays (links told) (lost.out told joined)
