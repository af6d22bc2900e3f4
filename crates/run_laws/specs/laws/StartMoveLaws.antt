-- The law of starts: the attempts of the engine are those of the reference controller, where its application has starts before it of which
-- theirs are the fronts. So it is with what follows a turn that failed.
use Rattle.std.proofs.Common.{◌≡◌, ℕ, zero, suc, ◌+◌, ◌&&◌, Bool, true, false, List, [], ◌∷◌, ◌++◌, length, drop, Option, is_some, refl, sym, ap, ap₂, ◌∙◌, subst, append_assoc, arith, inl, inr, true≢false}
use Rattle.std.specs.Prelude.{if◌then◌else◌, unwrap_or}
use Rattle.std.specs.List.{AllByRecursion}
use Rattle.std.proofs.lemmas.List.{append-nil}
use Rattle.flow_table.specs.View.{TableView}
use Rattle.app_frames.specs.declared.cause.Tried.{Tried}
use Rattle.crash_policy.specs.declared.policy_file.Policy.{Policy}
use Rattle.crash_policy.specs.declared.policy_file.Policy.TheVariants as policy
use Rattle.lego_model.specs.Journal.{Reply, Start, start_of}
use Rattle.lego_model.specs.Controller.{App, restore_frame, is_ready, attempts, started, after_failure}
use Rattle.lego_model.specs.Scripted.{IsStartFront, AreStartFronts, is_start_heard}
use Rattle.lego_model.specs.laws.ScriptedLaws.{start-front}
use Rattle.outside.specs.Seen.{Seen}
use Rattle.outside.specs.State.{state}
use Rattle.outside.specs.laws.SeenLaws.{Ends-continues}
use Rattle.app_visor.specs.Attempts.{OneTry, AreTries, restored, restarted, starts_of, given_by, tries_of}
use Rattle.turn_laws.specs.laws.ChainLaws.{shown-same}
use Rattle.run_laws.specs.Engine.{Focus, app_at}
use Rattle.lego_model.specs.History.{starts_in, own_acts, given_in, lost_of}
use Rattle.run_laws.specs.Facts.{StartsAgain, GoesAway, Follows}
use Rattle.run_laws.specs.Readings.{AreRead}
use Rattle.run_laws.specs.laws.CalmLaws.{calm_talk}
use Rattle.run_laws.specs.laws.ChainLaws.{tries_keep, tries_continue}
use Rattle.run_laws.specs.laws.TellLaws.{tries_tell, tries_lose}
use Rattle.run_laws.specs.laws.LeaveLaws.{end-leaves, end-keeps}
use Rattle.run_laws.specs.laws.LineLaws.{starts_lines}
use Rattle.run_laws.specs.EventMoves.{StartsAlike}
use Rattle.app_visor.specs.laws.TryLaws.{first_tried, by_first, started_first}

-- ---- The same starts, or fronts of those that are said

restored-same : (kept : List ℕ) (told said : Start) → IsStartFront told said → restored kept said ≡ restored kept told
restored-same kept told said front = ap₂ (λ (stands back : Bool). if stands && back then restore_frame kept ∷ [] else []) front.stands front.restored

-- it is ready then
ready_is : {Own : Type 0} (n : ℕ) (t : OneTry Own) (ts : List (OneTry Own)) (s : Start) (said : List Start) (a : App) → IsStartFront (start_of t.attempt) s → is_ready t.tried ≡ true → ts ≡ []
    → by_first n a t.tried (first_tried a s said t.rest) ≡ restarted (t ∷ ts) (drop (length (starts_of ts)) said) a
ready_is n t ts s said a front ready last = rw (ready, last, append-nil, restored-same a.kept (start_of t.attempt) s front) refl

-- it is tried again
again_is : {Own : Type 0} (n : ℕ) (t : OneTry Own) (ts : List (OneTry Own)) (s : Start) (said : List Start) (a : App) → IsStartFront (start_of t.attempt) s → is_ready t.tried ≡ false
    → started n (first_tried a s said t.rest) ≡ restarted ts (drop (length (starts_of ts)) said) (first_tried a s said t.rest) → by_first n a t.tried (first_tried a s said t.rest) ≡ restarted (t ∷ ts) (drop (length (starts_of ts)) said) a
again_is n t ts s said a front unready then_is = rw (unready, then_is, append_assoc, restored-same a.kept (start_of t.attempt) s front) refl

starts_is : {Own : Type 0} (Tells : Type 0) (app : ℕ) (kept : List ℕ) (n : ℕ) (ts : List (OneTry Own)) (old new : Seen Own) → AreTries Tells app kept n ts old new → AllByRecursion (λ t. is_start_heard (start_of t.attempt) ≡ true) ts → (a : App) (said : List Start) → a.starts ≡ said → AreStartFronts (starts_of ts) said
    → started n a ≡ restarted ts (drop (length (starts_of ts)) said) a
unfolding started
starts_is Tells app kept zero [] old new are heard a said has fronts = rw (append-nil, ← has) refl
starts_is Tells app kept zero (t ∷ ts) old new are heard a said has fronts = absurd are
starts_is Tells app kept (suc n) [] old new are heard a said has fronts = absurd are
starts_is Tells app kept (suc n) (t ∷ ts) old new are heard a [] has fronts = absurd fronts
starts_is Tells app kept (suc n) (t ∷ ts) old new are heard a (s ∷ said) has fronts =
    started_first n a s said t.tried t.rest has (start-front (start_of t.attempt) s heard.0 fronts.0 ∙ are.0.outcome)
    ∙ elim are.1 [
      | inl h ↦ ready_is n t ts s said a fronts.0 h.0 h.1
      | inr h ↦ again_is n t ts s said a fronts.0 h.0 (starts_is Tells app kept n ts t.after new h.1 heard.1 (first_tried a s said t.rest) said refl fronts.1)
    ]

-- an application that was started so
abbrev started_as : Focus → List Start → List Reply → Option (List ℕ) → List (List ℕ) → List Tried → App × List Tried
started_as e starts replies found inputs tries = (
  record {
    rule = e.rule;
    alive = is_some found;
    rest = unwrap_or found [];
    kept = e.kept;
    inputs = inputs;
    starts = starts;
    replies = replies;
    done = e.done;
    failed = e.failed;
  },
  tries,
)

-- under a policy that starts it again
again_alike : {Own : Type 0} (Tells : Type 0) (accepts : List TableView → Bool) (rule : Policy) (text : List ℕ) (old new : Seen Own) (e now_e : Focus) → ((a : App) → after_failure rule a ≡ started attempts a) → Tells → AreRead Own e.index Tells accepts
    → StartsAgain Tells text old new e now_e → StartsAlike Tells rule text old new e now_e
again_alike Tells accepts rule text old new e now_e again told reads s =
    let found = s.found in
    let all = s.restarts.all in
    let read = reads.tries e.kept old new found s.tries told s.restarts in
    let keeps = tries_keep Tells e.index e.kept attempts all old new told s.restarts.are read.own in
    let tells = tries_tell Tells e.index e.kept attempts all old new told s.restarts.are read.own in
    let none = tries_lose Tells e.index e.kept attempts all old new told s.restarts.are read.own in
    subst (λ (x : Focus). StartsAlike Tells rule text old new e x) (sym s.engine) (record {
      starts = starts_of all;
      tries = s.tries;
      continues = tries_continue Tells e.index e.kept attempts all old new s.restarts.are;
      keeps = keeps;
      net = refl;
      queue = refl;
      events = refl;
      index = refl;
      rule = refl;
      calm = λ calm. calm_talk old new e.net keeps.links keeps.rests calm;
      places = λ declared. shown-same declared e.net.views (state old) (state new) keeps.links;
      app = λ said_starts said_replies fronts.
          let later_starts = drop (length (starts_of all)) said_starts in
          again (app_at e (given_in e.index old) said_starts said_replies)
          ∙ starts_is Tells e.index e.kept attempts all old new s.restarts.are read.heard (app_at e (given_in e.index old) said_starts said_replies) said_starts refl fronts
          ∙ ap (λ (f : Option (List ℕ)). started_as e later_starts said_replies f (given_in e.index old ++ given_by e.kept all) (tries_of all)) (sym s.restarts.found_is)
          ∙ ap (λ (i : List (List ℕ)). started_as e later_starts said_replies found i (tries_of all)) (sym tells.given)
          ∙ ap (λ (t : List Tried). started_as e later_starts said_replies found (given_in e.index new) t) (sym s.restarts.tries_is);
      text_is = λ names known. s.text_is ∙ sym (starts_lines names e.index e.rule.name known s.tries (is_some found));
      read_starts = read.starts;
      read_replies = read.replies;
      read_stimuli = tells.stims;
      released = none.released;
      lost = none.lost;
      life = read.life;
    })

-- ---- What follows a turn that failed

-- under `absolute` it is started again
pub absolute_is : (a : App) → after_failure policy.Absolute a ≡ started attempts a
unfolding after_failure
absolute_is a = refl

-- under `equivalence` too
pub equivalence_is : (a : App) → after_failure policy.Equivalence a ≡ started attempts a
unfolding after_failure
equivalence_is a = refl

-- under `none` it is gone
none_is : (a : App) → after_failure policy.None a ≡ (record a { alive = false }, [])
unfolding after_failure
none_is a = refl

abbrev gone_as : Focus → List Start → List Reply → List (List ℕ) → App × List Tried
gone_as e starts replies inputs = (app_at (record e { alive = false }) inputs starts replies, [])

gone_alike : {Own : Type 0} (Tells : Type 0) (text : List ℕ) (old new : Seen Own) (e now_e : Focus) → Tells → GoesAway Tells text old new e now_e → StartsAlike Tells policy.None text old new e now_e
gone_alike Tells text old new e now_e told gone =
    let leaves = end-leaves Tells e.index (e.index + 1) old new told (omega arith) gone.ends in
    let told_is = leaves.told e.index in
    let keeps = end-keeps Tells e.index old new told gone.ends in
    subst (λ (x : Focus). StartsAlike Tells policy.None text old new e x) (sym gone.engine) (record {
      starts = [];
      tries = [];
      continues = Ends-continues gone.ends;
      keeps = keeps;
      net = refl;
      queue = refl;
      events = refl;
      index = refl;
      rule = refl;
      calm = λ calm. calm_talk old new e.net keeps.links keeps.rests calm;
      places = λ declared. shown-same declared e.net.views (state old) (state new) keeps.links;
      app = λ said_starts said_replies fronts.
          none_is (app_at e (given_in e.index old) said_starts said_replies) ∙ ap (λ (i : List (List ℕ)). gone_as e said_starts said_replies i) (sym told_is.inputs);
      text_is = λ names known. gone.text_is ∙ sym (starts_lines names e.index e.rule.name known [] false);
      read_starts = told_is.starts ∙ sym (append-nil (starts_in (own_acts e.index old)));
      read_replies = told_is.replies;
      read_stimuli = leaves.stimuli;
      released = leaves.released;
      lost = leaves.lost_is ∙ append-nil (lost_of old);
      life = λ alive. absurd (true≢false (sym alive));
    })

-- ---- The laws

pub starts_alike : {Own : Type 0} (Tells : Type 0) (accepts : List TableView → Bool) (text : List ℕ) (old new : Seen Own) (e now_e : Focus) → Tells → AreRead Own e.index Tells accepts → StartsAgain Tells text old new e now_e
    → StartsAlike Tells policy.Absolute text old new e now_e
starts_alike Tells accepts text old new e now_e told reads s = again_alike Tells accepts policy.Absolute text old new e now_e absolute_is told reads s

pub follows_alike : {Own : Type 0} (Tells : Type 0) (accepts : List TableView → Bool) (rule : Policy) (text : List ℕ) (old new : Seen Own) (e now_e : Focus) → Tells → AreRead Own e.index Tells accepts → Follows Tells rule text old new e now_e
    → StartsAlike Tells rule text old new e now_e
follows_alike Tells accepts policy.None text old new e now_e told reads gone = gone_alike Tells text old new e now_e told gone
follows_alike Tells accepts policy.Absolute text old new e now_e told reads s = starts_alike Tells accepts text old new e now_e told reads s
follows_alike Tells accepts policy.Equivalence text old new e now_e told reads s = again_alike Tells accepts policy.Equivalence text old new e now_e equivalence_is told reads s
