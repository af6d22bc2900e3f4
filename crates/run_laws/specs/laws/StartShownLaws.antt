-- The start of a run is that of the reference controller, in a world that keeps its word: one application is started after the other.
use Rattle.std.proofs.Common.{◌≡◌, ℕ, ◌+◌, ◌<◌, ◌≤◌, Bool, true, List, [], ◌∷◌, ◌++◌, length, map, refl, sym, ap, ap₂, ◌∙◌, subst, arith}
use Rattle.std.proofs.lemmas.List.{append-nil}
use Rattle.std.proofs.lemmas.List.Concat.{flat_map-append}
use Rattle.std.specs.List.{AllByRecursion}
use Rattle.flow_table.specs.View.{TableView}
use Rattle.flow_table.specs.Switch.{Declared}
use Rattle.app_frames.specs.declared.frame.Event.{Event}
use Rattle.app_frames.specs.declared.cause.Tried.{Tried}
use Rattle.crash_policy.specs.Policies.{AppValue}
use Rattle.crash_policy.specs.declared.policy_file.Policy.TheVariants as policy
use Rattle.lego_model.specs.Agreement.{AgreeMarks}
use Rattle.lego_model.specs.Application.{names}
use Rattle.lego_model.specs.Controller.{App, Line, Run, Started, gone_line, start_all, started, attempts}
use Rattle.lego_model.specs.RunReport.{line_text}
use Rattle.lego_model.specs.OrderlySteps.{IsOrderly}
use Rattle.outside.specs.Seen.{Given, Seen}
use Rattle.outside.specs.State.{Mark, state}
use Rattle.lego_model.specs.History.{own_acts, stimuli_in, given_in, released_of, lost_of}
use Rattle.net_txn.specs.Net.{NetState}
use Rattle.switch_laws.specs.Orderly.{OrderlySince}
use Rattle.switch_laws.specs.Shown.{shown_places, shown_by}
use Rattle.switch_laws.specs.laws.OrderlyLaws.{orderly-none, orderly-then, orderly-whole}
use Rattle.batch_laws.specs.Calm.{Calm}
use Rattle.run_laws.specs.Engine.{Application, Engine, EachFrom, focus, app_with, apps_from, nothing, both_told, told_then, left_behind, behind, Stands, rules_of}
use Rattle.lego_model.specs.ReferenceRun.{Said, AreFrontsOf, text_of}
use Rattle.run_laws.specs.EventMoves.{StartsAlike}
use Rattle.run_laws.specs.Facts.{StartsFrom, StartsAll}
use Rattle.run_laws.specs.LastReport.{lines_text}
use Rattle.run_laws.specs.LinkSteps.{Silent, TriesKeep}
use Rattle.run_laws.specs.Moves.{TellsMore, IsAtRest}
use Rattle.run_laws.specs.laws.MoveLaws.{apps-ext, behind-then, fronts-then}
use Rattle.run_laws.specs.laws.OfferLaws.{told_at, told-other, tells-same, tells-then, tells-at, fronts-here, behind-other, behind-here, each-silent, NamesFrom, names-from}
use Rattle.run_laws.specs.laws.OtherLaws.{calls-silent, silent-none, silent-then, silent-given, silent-rests}
use Rattle.run_laws.specs.laws.StartMoveLaws.{absolute_is, starts_alike}
use Rattle.run_laws.specs.laws.ReadRunLaws.{are-read}
use Rattle.run_laws.specs.laws.DialogueLaws.{starts_converse}
use Rattle.run_laws.specs.laws.DispatchLaws.{same-number}
use Rattle.run_laws.specs.laws.OrderlyRunLaws.{starts-orderly}
use Rattle.run_laws.specs.Endings.{ShownStart}

-- what no start changes
keeps-none : {Own : Type 0} (seen : Seen Own) → TriesKeep (state seen) (state seen)
keeps-none seen = record { links = refl; rests = record { begun = refl; due = refl; moment = refl }; marks = refl }

keeps-then : {Own : Type 0} (a b c : Seen Own) → TriesKeep (state a) (state b) → TriesKeep (state b) (state c) → TriesKeep (state a) (state c)
keeps-then a b c first later = record {
  links = later.links ∙ first.links;
  rests = record { begun = later.rests.begun ∙ first.rests.begun; due = later.rests.due ∙ first.rests.due; moment = later.rests.moment ∙ first.rests.moment };
  marks = later.marks ∙ first.marks;
}

-- ---- What the start of these applications is: this is told of them, and the reference controller says these lines; of no other application
-- anything is told

record StartMoves {Own : Type 0} (i : ℕ) (apps now_apps : List Application) (text : List ℕ) (old new : Seen Own) (net : NetState) : Type 0 where
  told : ℕ → Said
  lines : List Line
  given : new.given ≡ old.given
  read : (j : ℕ) → TellsMore (told j) (own_acts j old) (own_acts j new)
  stims : stimuli_in new ≡ stimuli_in old
  rules : map (λ a. a.rule) now_apps ≡ map (λ a. a.rule) apps
  calm : Calm old net → Calm new net
  keeps : TriesKeep (state old) (state new)
  places : (declared : List Declared) → shown_places declared (shown_by net) (state new) ≡ shown_places declared (shown_by net) (state old)
  released : released_of new ≡ released_of old
  lost : lost_of new ≡ lost_of old
  still : (j : ℕ) → (i ≤ j → j < i + length apps → ⊥) → Silent j old new
  untold : (j : ℕ) → (i ≤ j → j < i + length apps → ⊥) → told j ≡ nothing
  each : EachFrom (IsAtRest new) i now_apps
  orderly : (n : ℕ) → i + length apps ≤ n → OrderlySince n old new
  starts : (said : ℕ → Said) → AreFrontsOf told said → start_all i (apps_from i old apps said) ≡ (apps_from i new now_apps (behind told said), lines)
  text_is : (known : List (List ℕ)) → NamesFrom i known apps → text ≡ lines_text known lines

-- ---- There is none

start-none : (i : ℕ) → start_all i [] ≡ ([], [])
unfolding start_all
start-none i = refl

starts-none : {Own : Type 0} (i : ℕ) (seen : Seen Own) (net : NetState) → StartMoves i [] [] [] seen seen net
starts-none i seen net = record {
  told = λ j. nothing;
  lines = [];
  given = refl;
  read = λ j. tells-same (own_acts j seen) (own_acts j seen) refl;
  stims = refl;
  rules = refl;
  calm = λ calm. calm;
  keeps = keeps-none seen;
  places = λ declared. refl;
  released = refl;
  lost = refl;
  still = λ j out. silent-none j seen seen refl;
  untold = λ j out. refl;
  each = tt;
  orderly = λ n le. orderly-none n seen;
  starts = λ said fronts. start-none i;
  text_is = λ known are. refl;
}

-- ---- One, and then the others

start-first : (i : ℕ) (a now_a : App) (more : List App) (tries : List Tried) → started attempts a ≡ (now_a, tries)
    → start_all i (a ∷ more) ≡ (let rest = start_all (i + 1) more in (now_a ∷ rest.0, map (Started i) tries ++ gone_line i now_a.alive ++ rest.1))
unfolding start_all
start-first i a now_a more tries so =
    ap (λ (first : App × List Tried). let rest = start_all (i + 1) more in (first.0 ∷ rest.0, map (Started i) first.1 ++ gone_line i first.0.alive ++ rest.1)) so

module _ {Own : Type 0} (i : ℕ) (a now_a : Application) (more later_apps : List Application) (text later_text : List ℕ) (old mid new : Seen Own) (Tells : Type 0) (net : NetState) (queue : List Event) (events : ℕ)
    (s : StartsAlike Tells policy.Absolute text old mid (focus i a net queue events) (focus i now_a net queue events)) (silent : (j : ℕ) → (j ≡ i → ⊥) → Silent j old mid) (m : StartMoves (i + 1) more later_apps later_text mid new net) where
  abbrev told_first : Said
  told_first = record { starts = s.starts; replies = [] }

  first-still : i + 1 ≤ i → i < i + 1 + length more → ⊥
  first-still le less = omega (arith, le)

  abbrev lines_first : List Line
  lines_first = map (Started i) s.tries ++ gone_line i now_a.alive

  both-start : (said : ℕ → Said) → AreFrontsOf (told_then (told_at i told_first) m.told) said
      → start_all i (apps_from i old (a ∷ more) said) ≡ (apps_from i new (now_a ∷ later_apps) (behind (told_then (told_at i told_first) m.told) said), lines_first ++ m.lines)
  both-start said fronts =
      let first = told_at i told_first in
      let parts = fronts-then first m.told said fronts in
      let here = fronts-here i told_first said parts.0 in
      let whole = behind (told_then first m.told) said in
      let left = left_behind told_first (said i) in
      let others = apps_from (i + 1) old more said in
      let others_are : others ≡ apps_from (i + 1) mid more (behind first said) =
      apps-ext (i + 1) old mid more said (behind first said) (λ j le. (silent-given j old mid (silent j (λ same. omega (arith, le, same))), sym (behind-other i j told_first said (λ same. omega (arith, le, same))))) in
      let left_is : whole i ≡ left =
      behind-then first m.told said i ∙ ap (λ (x : Said). left_behind x (behind first said i)) (m.untold i first-still) ∙ behind-here i told_first said in
      start-first i (app_with a (given_in i old) (said i)) (app_with now_a (given_in i mid) left) others s.tries
      (sym (absolute_is (app_with a (given_in i old) (said i))) ∙ s.app (said i).starts (said i).replies here.0)
      ∙ ap (λ (rest : List App × List Line). (app_with now_a (given_in i mid) left ∷ rest.0, lines_first ++ rest.1)) (ap (start_all (i + 1)) others_are ∙ m.starts (behind first said) parts.1)
      ∙ ap₂ (λ (x : App) (xs : List App). (x ∷ xs, lines_first ++ m.lines))
      (ap₂ (λ (given : List (List ℕ)) (x : Said). app_with now_a given x) (sym (silent-given i mid new (m.still i first-still))) (sym left_is))
      (apps-ext (i + 1) new new later_apps (behind m.told (behind first said)) whole (λ j le. (refl, sym (behind-then first m.told said j))))

  starts-then : ((n : ℕ) → i < n → OrderlySince n old mid) → IsAtRest mid i now_a → StartMoves i (a ∷ more) (now_a ∷ later_apps) (text ++ later_text) old new net
  starts-then orderly rests = record {
    told = told_then (told_at i told_first) m.told;
    lines = lines_first ++ m.lines;
    given = m.given ∙ s.continues.given;
    read = λ j. tells-then (told_at i told_first j) (m.told j) (own_acts j old) (own_acts j mid) (own_acts j new)
        (tells-at i told_first old mid (record { starts = s.read_starts; replies = s.read_replies ∙ sym (append-nil _) }) silent j) (m.read j);
    stims = m.stims ∙ s.read_stimuli;
    rules = ap₂ (λ (rule : AppValue) (rules : List AppValue). rule ∷ rules) s.rule m.rules;
    calm = λ calm. m.calm (s.calm calm);
    keeps = keeps-then old mid new s.keeps m.keeps;
    places = λ declared. m.places declared ∙ s.places declared;
    released = m.released ∙ s.released;
    lost = m.lost ∙ s.lost;
    still = λ j out. silent-then j old mid new (silent j (λ same. out (omega (arith, same)) (omega (arith, same)))) (m.still j (λ le less. out (omega (arith, le)) (omega (arith, less))));
    untold = λ j out. ap₂ both_told (told-other i j told_first (λ same. out (omega (arith, same)) (omega (arith, same)))) (m.untold j (λ le less. out (omega (arith, le)) (omega (arith, less))));
    each = (silent-rests i now_a mid new (m.still i first-still) rests, m.each);
    orderly = λ n le. orderly-then n old mid new (orderly n (omega (arith, le))) (m.orderly n (omega (arith, le)));
    starts = both-start;
    text_is = λ known are. ap₂ (λ (x y : List ℕ). x ++ y) (s.text_is known are.0) (m.text_is known are.1) ∙ sym (flat_map-append (line_text known) lines_first m.lines);
  }

-- ---- The whole

abbrev pub any_views : List TableView → Bool
any_views views = true

starts-move : {Own : Type 0} (Tells : Type 0) (i : ℕ) (apps : List Application) (text : List ℕ) (old new : Seen Own) (net : NetState) (queue : List Event) (events : ℕ) (now_apps : List Application) → Tells → EachFrom (IsAtRest old) i apps → StartsFrom Tells i apps text old new net queue events now_apps
    → StartMoves i apps now_apps text old new net
starts-move Tells i [] text old new net queue events now_apps told each none =
    subst (λ (x : Seen _). StartMoves i [] now_apps text old x net) (sym none.0)
    (subst (λ (apps : List Application). StartMoves i [] apps text old old net) (sym none.2)
    (subst (λ (said : List ℕ). StartMoves i [] [] said old old net) (sym none.1) (starts-none i old net)))
starts-move Tells i (a ∷ more) text old new net queue events now_apps told each (one, later) =
    let mid = one.mid in
    let e = focus i a net queue events in
    let now_e = focus i one.now_app net queue events in
    let reads = are-read i Tells any_views in
    let begins = one.begins.starts in
    let s = starts_alike Tells any_views one.front_text old mid e now_e told reads begins in
    let silent = λ (j : ℕ) (other : j ≡ i → ⊥). calls-silent i j old mid (one.begins.own told) other in
    let goes = starts_converse Tells one.front_text old mid e now_e told each.0.at_once begins in
    let rests : IsAtRest mid i one.now_app = record { life = s.life; at_once = goes.at_once; rest_is = goes.rest_is } in
    let others = each-silent (i + 1) more old mid (λ j le. silent j (λ same. omega (arith, le, same))) each.1 in
    let m = starts-move Tells (i + 1) more one.later_text mid new net queue events one.later_apps told others later in
    subst (λ (apps : List Application). StartMoves i (a ∷ more) apps text old new net) (sym one.apps_is)
    (subst (λ (said : List ℕ). StartMoves i (a ∷ more) (one.now_app ∷ one.later_apps) said old new net) (sym one.text_is)
    (starts-then i a one.now_app more one.later_apps one.front_text one.later_text old mid new Tells net queue events s silent m
    (λ n less. starts-orderly Tells any_views n one.front_text old mid e now_e told less reads begins) rests))

pub start-shown : {Own : Type 0} (Tells : Type 0) (text : List ℕ) (old new : Seen Own) (e now_e : Engine) → StartsAll Tells text old new e now_e → ShownStart Tells text old new e now_e
start-shown {Own} Tells text old new e now_e starts = record {
  moved = λ told keeps settled.
      let m = starts-move Tells 0 e.apps text old new e.net e.queue e.events now_e.apps told settled.each starts.all in
      let calm : Calm old e.net → Calm new now_e.net = λ calm. subst (λ (net : NetState). Calm new net) (sym starts.net) (m.calm calm) in
      let count : length now_e.apps ≡ length e.apps = same-number now_e.apps e.apps m.rules in
      let begun = λ (said : ℕ → Said) (r : Run) (fronts : AreFrontsOf m.told said) (are : r.apps ≡ apps_from 0 old e.apps said).
      ap (λ (done : List App × List Line). record r { apps = done.0; lines = r.lines ++ done.1 }) (ap (start_all 0) are ∙ m.starts said fronts) in
      record {
        moves = record {
          told = m.told;
          batches = [];
          turns = [];
          given = m.given;
          rules = m.rules;
          read = m.read;
          read_stimuli = m.stims ∙ sym (append-nil (stimuli_in old));
          stands = λ said later r fronts t.
              subst (Stands new now_e (behind m.told said) later) (sym (begun said r fronts t.apps)) (record {
                calm = calm t.calm;
                moment = t.moment ∙ sym m.keeps.rests.moment;
                places = t.places ∙ sym (m.places old.given.declared)
                    ∙ ap₂ (λ (g : Given Own) (net : NetState). shown_places g.declared (shown_by net) (state new)) (sym m.given) (sym starts.net);
                queue = t.queue ∙ sym starts.queue;
                events = t.events ∙ sym starts.events;
                apps = refl;
                released = t.released ∙ sym m.released;
                lost = t.lost ∙ sym m.lost;
                losses_is = t.losses_is;
                marks = subst (λ (ms : List Mark). AgreeMarks ms r.marks) (sym m.keeps.marks) t.marks;
              });
          says = λ said later r fronts t.
              let known = names (rules_of e) in
              ap (text_of known) (begun said r fronts t.apps)
              ∙ flat_map-append (line_text known) r.lines m.lines
              ∙ ap (λ (more : List ℕ). text_of known r ++ more) (sym (m.text_is known (names-from e.apps)));
        };
        settled = record {
          calm = calm settled.calm;
          each = m.each;
          orderly = orderly-whole (length now_e.apps) old new (subst (λ (n : ℕ). AllByRecursion (IsOrderly n) old.history) (sym count) settled.orderly) (m.orderly (length now_e.apps) (omega (arith, count)));
        };
      };
}
