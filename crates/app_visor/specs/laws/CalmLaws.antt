-- Laws of histories that go on with no call for another application and no quiescent point: what a turn is made of, behind its event.
use Rattle.std.specs.Prelude.{◌≡◌, ℕ, Bool, true, false, List, [], ◌∷◌, ◌++◌, refl}
use Rattle.std.specs.List.{AllByRecursion}
use Rattle.std.proofs.Common.{sym, ap, ◌∙◌, append_assoc, true≢false, subst, inl, inr}
use Rattle.std.proofs.lemmas.List.{append-nil}
use Rattle.of_types.specs.declared.journal.Act.TheVariants.{Stim, Started, Gave, Gone, Took, Ended, Sent, Got, Lost}
use Rattle.app_frames.specs.declared.frame.Answer.{Answer}
use Rattle.lego_model.specs.Controller.{answer_frame}
use Rattle.outside.specs.declared.step.WorldStep.{WorldStep}
use Rattle.outside.specs.declared.step.WorldStep.TheVariants.{Acted, TookInto, From, Joined, Left, Moment, Idle, End, Opened, NotOpened, NextFailed, SendLost, RecvLost, SendFailed, RecvFailed}
use Rattle.outside.specs.Seen.{Seen}
use Rattle.outside.specs.Quiescence.{is_quiescent, NoneQuiescent}
use Rattle.outside.specs.laws.QuiescenceLaws.{none_since-none, none_since-then, last_quiescent-of, last_quiescent-then}
use Rattle.net_txn.specs.LinkSteps.{is_link_step, AreLinkSteps, LinkSteps}
use Rattle.journal_laws.specs.laws.FrameLaws.{answer_is_none}
use Rattle.app_visor.specs.Talks.{step_of, Told, Wants}
use Rattle.lego_model.specs.Journal.{give_act}
use Rattle.app_visor.specs.Reads.{Comes, Breaks}
use Rattle.app_visor.specs.declared.came.Came.{Came}
use Rattle.app_visor.specs.CallsFor.{IsCallFor, CallsFor, Calmly, CalmLater, IsGiven, CalmBehind}
use Rattle.app_visor.specs.laws.OwnLaws.{own_wanting, own_given, own_comes, own_breaking, own_calm, event_for}

-- ---- Calls for one application

for_append : (app : ℕ) (xs ys : List WorldStep) → AllByRecursion (IsCallFor app) xs → AllByRecursion (IsCallFor app) ys → AllByRecursion (IsCallFor app) (xs ++ ys)
for_append app [] ys all rest = rest
for_append app (x ∷ xs) ys all rest = (all.0, for_append app xs ys all.1 rest)

pub calls_none : {Own : Type 0} (app : ℕ) (seen : Seen Own) → CallsFor app seen seen
calls_none app seen = record { steps = []; history = sym (append-nil seen.history); all = tt }

pub calls_then : {Own : Type 0} {app : ℕ} {old mid new : Seen Own} → CallsFor app old mid → CallsFor app mid new → CallsFor app old new
calls_then {app = app} {old = old} first second = record {
  steps = first.steps ++ second.steps;
  history = second.history ∙ ap (λ (h : List WorldStep). h ++ second.steps) first.history ∙ append_assoc old.history first.steps second.steps;
  all = for_append app first.steps second.steps first.all second.all;
}

-- ---- One part behind another

pub calm_none : {Own : Type 0} (app : ℕ) (seen : Seen Own) → Calmly app seen seen
calm_none app seen = record { none_quiescent = none_since-none seen; own = calls_none app seen }

pub calm_then : {Own : Type 0} {app : ℕ} {old mid new : Seen Own} → Calmly app old mid → Calmly app mid new → Calmly app old new
calm_then first second = record { none_quiescent = none_since-then first.none_quiescent second.none_quiescent; own = calls_then first.own second.own }

pub calm_later : {Own : Type 0} {app : ℕ} {old new : Seen Own} → Calmly app old new → CalmLater app old new
calm_later calm = record { last = last_quiescent-of calm.none_quiescent; own = calm.own }

pub later_then : {Own : Type 0} {app : ℕ} {old mid new : Seen Own} → CalmLater app old mid → Calmly app mid new → CalmLater app old new
later_then first second = record { last = last_quiescent-then first.last second.none_quiescent; own = calls_then first.own second.own }

-- the event was given, or could not be
pub given_so : {Own : Type 0} {Tells : Type 0} {old new : Seen Own} {app : ℕ} (given : Bool) (frame : List ℕ) {sent : List ℕ} → sent ≡ frame → Told Tells (give_act given app sent) old new → Tells → IsGiven app frame old new
given_so {old = old} {new = new} {app = app} given frame is told tells =
    record { given = given; history = subst (λ (bytes : List ℕ). new.history ≡ old.history ++ step_of (give_act given app bytes) ∷ []) is (told.history tells) }

given_later : {Own : Type 0} {old new : Seen Own} (app : ℕ) (frame : List ℕ) → IsGiven app frame old new → CalmLater app old new
given_later app frame is =
    let steps = step_of (give_act is.given app frame) ∷ [] in
    record {
      last = record { steps = steps; history = is.history; none_later = tt };
      own = record { steps = steps; history = is.history; all = (event_for app is.given frame, tt) };
    }

wanting_later : {Own : Type 0} {old new : Seen Own} (app : ℕ) → new.history ≡ old.history → CalmLater app old new
wanting_later {old = old} app same = record {
  last = record { steps = []; history = same ∙ sym (append-nil old.history); none_later = tt };
  own = record { steps = []; history = same ∙ sym (append-nil old.history); all = tt };
}

-- no point behind the one where it began
pub behind_later : {Own : Type 0} {app : ℕ} {frame : List ℕ} {old new : Seen Own} → CalmBehind app frame old new → CalmLater app old new
behind_later {app = app} {frame = frame} behind = elim behind.begins [
  | inl same ↦ later_then (wanting_later app same) behind.calm
  | inr is ↦ later_then (given_later app frame is) behind.calm
]

-- ---- What they are

-- the links of switches were asked
link_for : (app : ℕ) (step : WorldStep) → is_link_step step ≡ true → IsCallFor app step
link_for app (Acted (Sent d bytes)) is = tt
link_for app (Acted (Got d bytes)) is = tt
link_for app (SendLost d) is = tt
link_for app (RecvLost d) is = tt
link_for app (Acted (Lost d)) is = tt
link_for app (SendFailed d) is = tt
link_for app (RecvFailed d) is = tt
link_for app (Acted (Stim x)) is = tt
link_for app (Acted (Started of stands)) is = absurd (true≢false (sym is))
link_for app (Acted (Gave of frame)) is = absurd (true≢false (sym is))
link_for app (Acted (Gone of frame)) is = absurd (true≢false (sym is))
link_for app (Acted (Took of what)) is = absurd (true≢false (sym is))
link_for app (Acted (Ended of)) is = absurd (true≢false (sym is))
link_for app (TookInto of what room) is = absurd (true≢false (sym is))
link_for app (From d bytes) is = tt
link_for app (Joined d bytes) is = tt
link_for app (Left d) is = tt
link_for app (Moment at) is = tt
link_for app Idle is = tt
link_for app End is = tt
link_for app Opened is = tt
link_for app NotOpened is = absurd (true≢false (sym is))
link_for app NextFailed is = tt

link_no_quiescence : (step : WorldStep) → is_link_step step ≡ true → is_quiescent step ≡ false
link_no_quiescence (Acted (Sent d bytes)) is = refl
link_no_quiescence (Acted (Got d bytes)) is = refl
link_no_quiescence (SendLost d) is = refl
link_no_quiescence (RecvLost d) is = refl
link_no_quiescence (Acted (Lost d)) is = refl
link_no_quiescence (SendFailed d) is = refl
link_no_quiescence (RecvFailed d) is = refl
link_no_quiescence (Acted (Stim x)) is = absurd (true≢false (sym is))
link_no_quiescence (Acted (Started of stands)) is = refl
link_no_quiescence (Acted (Gave of frame)) is = absurd (true≢false (sym is))
link_no_quiescence (Acted (Gone of frame)) is = refl
link_no_quiescence (Acted (Took of what)) is = refl
link_no_quiescence (Acted (Ended of)) is = refl
link_no_quiescence (TookInto of what room) is = refl
link_no_quiescence (From d bytes) is = refl
link_no_quiescence (Joined d bytes) is = refl
link_no_quiescence (Left d) is = refl
link_no_quiescence (Moment at) is = refl
link_no_quiescence Idle is = refl
link_no_quiescence End is = refl
link_no_quiescence Opened is = refl
link_no_quiescence NotOpened is = refl
link_no_quiescence NextFailed is = refl

links_for : (app : ℕ) (steps : List WorldStep) → AreLinkSteps steps → AllByRecursion (IsCallFor app) steps
links_for app [] all = tt
links_for app (step ∷ steps) all = (link_for app step all.0, links_for app steps all.1)

links_none_quiescent : (steps : List WorldStep) → AreLinkSteps steps → NoneQuiescent steps
links_none_quiescent [] all = tt
links_none_quiescent (step ∷ steps) all = (link_no_quiescence step all.0, links_none_quiescent steps all.1)

pub calm_links : {Own : Type 0} {old new : Seen Own} (app : ℕ) → LinkSteps old new → Calmly app old new
calm_links app links = record {
  none_quiescent = record { steps = links.steps; history = links.history; none = links_none_quiescent links.steps links.all };
  own = record { steps = links.steps; history = links.history; all = links_for app links.steps links.all };
}

pub calm_wanting : {Own : Type 0} {Tells : Type 0} {old new : Seen Own} (app : ℕ) → Wants Tells old new → Tells → Calmly app old new
calm_wanting app wants tells = own_calm (own_wanting app wants tells)

pub calm_answered : {Own : Type 0} {Tells : Type 0} {old new : Seen Own} (app : ℕ) (given : Bool) (frame : List ℕ) (answer : Answer) → frame ≡ answer_frame answer → Told Tells (give_act given app frame) old new → Tells → Calmly app old new
calm_answered app given frame answer is told tells = own_calm (own_given app given frame (rw is (answer_is_none answer)) told tells)

pub calm_comes : {Own : Type 0} {Tells : Type 0} {app : ℕ} {rest left : List ℕ} {old new : Seen Own} (came : Came) → Comes Tells app rest left old new came → Tells → Calmly app old new
calm_comes came is tells = own_calm (own_comes came is tells)

pub calm_breaking : {Own : Type 0} {Tells : Type 0} {app : ℕ} {rest : List ℕ} {old new : Seen Own} → Breaks Tells app rest old new → Tells → Calmly app old new
calm_breaking breaks tells = own_calm (own_breaking breaks tells)
