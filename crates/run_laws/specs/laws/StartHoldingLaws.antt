-- Applications as the course of a run says how they stand: how they are started, and what follows where a turn failed.
use Rattle.std.specs.Prelude.{map, is_some}
use Rattle.std.specs.Option.{unwrap_or}
use Rattle.std.proofs.Common.{◌≡◌, ℕ, ◌+◌, List, [], ◌∷◌, Option, refl, sym, ap, ◌∙◌, subst}
use Rattle.app_frames.specs.declared.frame.Event.{Event}
use Rattle.crash_policy.specs.declared.policy_file.Policy.{Policy}
use Rattle.crash_policy.specs.declared.policy_file.Policy.TheVariants as policy
use Rattle.outside.specs.Seen.{Seen}
use Rattle.lego_model.specs.Controller.{attempts}
use Rattle.net_txn.specs.Net.{NetState}
use Rattle.run_course.specs.Asked.{HasGiven}
use Rattle.run_course.specs.Applications as course
use Rattle.run_course.specs.Applications.{times_started, Restarts, StartsAll}
use Rattle.run_laws.specs.Engine.{Application, Focus, focus}
use Rattle.run_laws.specs.Facts.{StartsAgain, GoesAway, Follows, StartsFrom}
use Rattle.run_laws.specs.laws.TurnCallLaws.{tries_told, all_tried}
use Rattle.run_laws.specs.laws.UnreadLaws.{tries_given}

abbrev pub focused : Focus → course.Application
focused e = record { rule = e.rule; alive = e.alive; unread = e.rest; checkpoint = e.kept }

abbrev pub application_of : Application → course.Application
application_of a = record { rule = a.rule; alive = a.alive; unread = a.rest; checkpoint = a.kept }

-- ---- A start

starts_unread : {Own Tells : Type 0} (text : List ℕ) (old new : Seen Own) (e now_e : Focus) → Tells → StartsAgain Tells text old new e now_e → HasGiven e.index now_e.rest old.history new.history
starts_unread {Tells = Tells} text old new e now_e told starts =
    let given = tries_given Tells e.index e.kept attempts starts.restarts.all old new told starts.restarts.are in
    subst (λ (r : List ℕ). HasGiven e.index r old.history new.history) (sym (ap (λ (f : Focus). f.rest) starts.engine ∙ ap (λ (o : Option (List ℕ)). unwrap_or o []) starts.restarts.found_is)) given

pub restarts_so : {Own Tells : Type 0} (text : List ℕ) (old new : Seen Own) (e now_e : Focus) → Tells → StartsAgain Tells text old new e now_e → Restarts e.index (focused e) (focused now_e) old new
restarts_so {Tells = Tells} text old new e now_e told starts =
    let restarts = starts.restarts in
    let tries = tries_told Tells e.index e.kept attempts restarts.all old new told restarts.are in
    record {
      calls = tries.calls;
      restored = tries.restored;
      tried = λ gone. tries.counted ∙ all_tried Tells e.index e.kept attempts restarts.all old new restarts.are
          (sym (ap (λ (f : Focus). f.alive) starts.engine ∙ ap (λ (o : Option (List ℕ)). is_some o) restarts.found_is) ∙ gone);
      unread = starts_unread text old new e now_e told starts;
      same = subst (λ (f : Focus). focused f ≡ record (focused e) { alive = f.alive; unread = f.rest }) (sym starts.engine) refl;
    }

pub starts_all : {Own : Type 0} (Tells : Type 0) (i : ℕ) (apps : List Application) (text : List ℕ) (old new : Seen Own) (net : NetState) (queue : List Event) (events : ℕ) (now_apps : List Application) → Tells → StartsFrom Tells i apps text old new net queue events now_apps
    → StartsAll i (map application_of apps) (map application_of now_apps) old new
starts_all Tells i [] text old new net queue events now_apps told starts = (ap (map application_of) starts.2, starts.0)
starts_all Tells i (a ∷ more) text old new net queue events now_apps told starts =
    let one = starts.0 in (
      record {
        mid = one.mid;
        now_app = application_of one.now_app;
        later = map application_of one.later_apps;
        apps_are = ap (map application_of) one.apps_is;
        starts = restarts_so one.front_text old one.mid (focus i a net queue events) (focus i one.now_app net queue events) told one.begins.starts;
      },
      starts_all Tells (i + 1) more one.later_text one.mid new net queue events one.later_apps told starts.1,
    )

-- ---- Behind a turn that failed

-- what follows, with the network and the events that wait as they were
pub record FollowsStill {Own : Type 0} (rule : Policy) (old new : Seen Own) (e now_e : Focus) : Type 0 where
  pub follows : course.Follows rule e.index (focused e) (focused now_e) old new
  pub net : now_e.net ≡ e.net
  pub queue : now_e.queue ≡ e.queue

goes_so : {Own Tells : Type 0} {text : List ℕ} (old new : Seen Own) (e now_e : Focus) → Tells → GoesAway Tells text old new e now_e → course.GoesAway e.index (focused e) (focused now_e) old new
goes_so old new e now_e told goes = record { history = (goes.ends.told told).history; gone = ap focused goes.engine }

pub follows_so : {Own Tells : Type 0} (text : List ℕ) (rule : Policy) (old new : Seen Own) (e now_e : Focus) → Tells → Follows Tells rule text old new e now_e → FollowsStill rule old new e now_e
follows_so text policy.None old new e now_e told goes =
    record { follows = goes_so old new e now_e told goes; net = ap (λ (f : Focus). f.net) goes.engine; queue = ap (λ (f : Focus). f.queue) goes.engine }
follows_so text policy.Absolute old new e now_e told starts =
    record { follows = restarts_so text old new e now_e told starts; net = ap (λ (f : Focus). f.net) starts.engine; queue = ap (λ (f : Focus). f.queue) starts.engine }
follows_so text policy.Equivalence old new e now_e told starts =
    record { follows = restarts_so text old new e now_e told starts; net = ap (λ (f : Focus). f.net) starts.engine; queue = ap (λ (f : Focus). f.queue) starts.engine }
