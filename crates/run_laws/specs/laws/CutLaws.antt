-- Laws of runs that a fault ends: their parts are the run of the reference controller so far.
use Rattle.std.specs.List.{AllByRecursion, list_any}
use Rattle.std.proofs.Common.{◌≡◌, ◌==◌, ◌⊎◌, ℕ, ◌+◌, ◌<◌, ◌≤◌, ◌||◌, Bool, true, false, List, [], ◌∷◌, ◌++◌, length, drop, Option, refl, sym, ap, ap₂, ◌∙◌, subst, arith, inl, inr}
use Rattle.std.specs.Io.KnownBytes.{append_known}
use Rattle.std.proofs.lemmas.List.{append-nil}
use Rattle.std.proofs.Math.Seq.{drop-length}
use Rattle.of_types.specs.declared.journal.WorldStim.{WorldStim}
use Rattle.crash_policy.specs.Policies.{AppValue}
use Rattle.app_frames.specs.declared.frame.Event.{Event}
use Rattle.lego_io.specs.Sink.{TookPart}
use Rattle.lego_io.specs.laws.ToldLaws.{append_known-nil}
use Rattle.lego_model.specs.Journal.{Reply, Start}
use Rattle.lego_model.specs.Places.{Place}
use Rattle.lego_model.specs.Losses.{Losses}
use Rattle.lego_model.specs.Controller.{App, Run, happen, settle_last}
use Rattle.outside.specs.Seen.{Given, Seen, journal}
use Rattle.outside.specs.Conforming.{Conforming}
use Rattle.lego_model.specs.History.{starts_in, replies_in, own_acts, stimuli_in, lost_of}
use Rattle.lego_model.specs.OrderlySteps.{IsOrderly}
use Rattle.lego_model.specs.AtOnce.{AtOnce}
use Rattle.switch_laws.specs.laws.OrderlyLaws.{orderly-none}
use Rattle.run_laws.specs.Engine.{Application, Engine, apps_from, nothing, behind, told_then, Stands, ahead}
use Rattle.lego_model.specs.Application.{names}
use Rattle.lego_model.specs.ReferenceRun.{Said, text_of, told_of, dispatch_next, times, rounds, AreSaid, AreFrontsOf, fresh, fresh_from, before_start, all_started, RunsAlike}
use Rattle.run_laws.specs.Moves.{TellsMore, AtRest, Moves, Moved, Rounds, OneHappens}
use Rattle.run_laws.specs.laws.MoveLaws.{moved-so, moved-then-losses, moved-as-losses, moved-so-losses, ahead-then, moved-none, moved-then, moved-as, fronts-then, stands-ext}
use Rattle.run_laws.specs.laws.OfferLaws.{tells-then}
use Rattle.run_laws.specs.laws.DispatchWaitingLaws.{settle-times, times-more}
use Rattle.run_laws.specs.Facts.{is_taking, takes_next}
use Rattle.run_laws.specs.LastReport.{last_text, last_lines}
use Rattle.run_laws.specs.laws.LastReportLaws.{report-ends, last-shown}
use Rattle.run_laws.specs.laws.WholeLaws.{no-own, no-stimuli, said-of, told-said}
use Rattle.run_laws.specs.Whole.{at_last, whole, RanAs}
use Rattle.run_laws.specs.laws.FirstLaws.{rules-first, stands-first}
use Rattle.run_laws.specs.First.{IsOpened, engine_at_first}
use Rattle.run_laws.specs.Endings.{WholeMoves, Leaves}
use Rattle.run_laws.specs.laws.FinishLaws.{said-before, runs-alike, ends-so, all-in-order, each-at-once, count-of}
use Rattle.run_laws.specs.Cut.{GoneSoFar, GoneWithin, RanTo}
use Rattle.lego_model.specs.AllLines.{is_given_to_some, is_next_given, NoneAhead, AllDone, NoneBetween, CutBehindLines, CutInLines, CutForMemory}
use Rattle.lego_model.specs.CutRun.{start_said, start_of, dispatch_partly, reference_so_far, reference_to, Progress, WroteSoFar, WasWriting, AlikeUpTo, CutBetweenLines}

-- ---- Parts of a run, one behind the other

-- nothing is done yet
pub gone-none : {Own : Type 0} (allows : List Place → Bool) (seen : Seen Own) (e : Engine) → AtRest seen e → GoneSoFar allows false 0 [] seen seen e e
gone-none allows seen e settled = record { stimuli = []; begun = []; begun_one = omega arith; moved = moved-none seen e settled }

-- rounds follow
abbrev pub gone-rounds : {Own : Type 0} (allows : List Place → Bool) (number : ℕ) (first second : List ℕ) (a b c : Seen Own) (e1 e2 e3 : Engine) → Moved [] all_started first a b e1 e2 → Rounds allows number second b c e2 e3 → GoneSoFar allows true 0 (first ++ second) a c e1 e3
gone-rounds allows number first second a b c e1 e2 e3 m rs = record {
  stimuli = rs.stimuli;
  begun = [];
  begun_one = omega arith;
  moved = subst (λ (xs : List WorldStim). Moved xs (reference_so_far allows true rs.stimuli [] 0) (first ++ second) a c e1 e3) (sym (append-nil rs.stimuli))
      (moved-then [] rs.stimuli all_started (rounds allows rs.stimuli) first second a b c e1 e2 e3 m rs.moved);
}

-- one stimulus more is begun
pub gone-happens : {Own : Type 0} (allows : List Place → Bool) (number : ℕ) (first second noted : List ℕ) (a b c d : Seen Own) (e1 e2 e3 e4 : Engine) → Moved [] all_started first a b e1 e2 → Rounds allows number second b c e2 e3 → OneHappens noted c d e3 e4
    → GoneSoFar allows true 0 ((first ++ second) ++ noted) a d e1 e4
gone-happens allows number first second noted a b c d e1 e2 e3 e4 m rs one = record {
  stimuli = rs.stimuli;
  begun = one.stimulus ∷ [];
  begun_one = omega arith;
  moved = moved-then rs.stimuli (one.stimulus ∷ []) (λ r. rounds allows rs.stimuli (all_started r)) (happen one.stimulus) (first ++ second) noted a c d e1 e3 e4
      (moved-then [] rs.stimuli all_started (rounds allows rs.stimuli) first second a b c e1 e2 e3 m rs.moved) one.moved;
}

-- a part does nothing
pub gone-still : {Own : Type 0} (allows : List Place → Bool) (started : Bool) (number : ℕ) (text : List ℕ) (a b c : Seen Own) (e1 e2 e3 : Engine) → GoneSoFar allows started number text a b e1 e2 → Moved [] (λ r. r) [] b c e2 e3 → GoneSoFar allows started number text a c e1 e3
gone-still allows started number text a b c e1 e2 e3 g m =
    let f = reference_so_far allows started g.stimuli g.begun number in
    record {
      stimuli = g.stimuli;
      begun = g.begun;
      begun_one = g.begun_one;
      moved = subst (λ (t : List ℕ). Moved (g.stimuli ++ g.begun) f t a c e1 e3) (append-nil text)
          (subst (λ (xs : List WorldStim). Moved xs f (text ++ []) a c e1 e3) (append-nil (g.stimuli ++ g.begun)) (moved-then (g.stimuli ++ g.begun) [] f (λ r. r) text [] a b c e1 e2 e3 g.moved m));
    }

-- so many events are dispatched
pub gone-more : {Own : Type 0} (allows : List Place → Bool) (started : Bool) (m : ℕ) (first second : List ℕ) (a b c : Seen Own) (e1 e2 e3 : Engine) → GoneSoFar allows started 0 first a b e1 e2 → Moved [] (times m (dispatch_next allows)) second b c e2 e3
    → GoneSoFar allows started m (first ++ second) a c e1 e3
gone-more allows started m first second a b c e1 e2 e3 g more = record {
  stimuli = g.stimuli;
  begun = g.begun;
  begun_one = g.begun_one;
  moved = subst (λ (xs : List WorldStim). Moved xs (reference_so_far allows started g.stimuli g.begun m) (first ++ second) a c e1 e3) (append-nil (g.stimuli ++ g.begun))
      (moved-then (g.stimuli ++ g.begun) [] (reference_so_far allows started g.stimuli g.begun 0) (times m (dispatch_next allows)) first second a b c e1 e2 e3 g.moved more);
}

-- one event more is dispatched
pub gone-next : {Own : Type 0} (allows : List Place → Bool) (n : ℕ) (first second : List ℕ) (a b c : Seen Own) (e1 e2 e3 : Engine) (g : GoneSoFar allows true n first a b e1 e2) → Moved [] (dispatch_next allows) second b c e2 e3
    → Moved (g.stimuli ++ g.begun) (reference_so_far allows true g.stimuli g.begun (n + 1)) (first ++ second) a c e1 e3
gone-next allows n first second a b c e1 e2 e3 g more =
    let f = reference_so_far allows true g.stimuli g.begun n in
    moved-as (g.stimuli ++ g.begun) (λ r. dispatch_next allows (f r)) (reference_so_far allows true g.stimuli g.begun (n + 1)) (first ++ second) a c e1 e3
    (λ said l r s. sym (times-more n 1 (dispatch_next allows) (reference_so_far allows true g.stimuli g.begun 0 r)))
    (moved-so ((g.stimuli ++ g.begun) ++ []) (g.stimuli ++ g.begun) (λ r. dispatch_next allows (f r)) (first ++ second) a c e1 e3 (append-nil (g.stimuli ++ g.begun))
    (moved-then (g.stimuli ++ g.begun) [] f (dispatch_next allows) first second a b c e1 e2 e3 g.moved more))

-- the losses that are to come before it
gone-next-losses : {Own : Type 0} (allows : List Place → Bool) (n : ℕ) (first second : List ℕ) (a b c : Seen Own) (e1 e2 e3 : Engine) (g : GoneSoFar allows true n first a b e1 e2) (more : Moved [] (dispatch_next allows) second b c e2 e3) (later : Losses)
    → ahead (gone-next allows n first second a b c e1 e2 e3 g more).moves.batches (gone-next allows n first second a b c e1 e2 e3 g more).moves.turns later ≡ ahead (g.moved.moves.batches ++ more.moves.batches) (g.moved.moves.turns ++ more.moves.turns) later
unfolding gone-next
gone-next-losses allows n first second a b c e1 e2 e3 g more later =
    let f = reference_so_far allows true g.stimuli g.begun n in
    let xs = g.stimuli ++ g.begun in
    let then = moved-then xs [] f (dispatch_next allows) first second a b c e1 e2 e3 g.moved more in
    let so = moved-so (xs ++ []) xs (λ r. dispatch_next allows (f r)) (first ++ second) a c e1 e3 (append-nil xs) then in
    moved-as-losses xs (λ r. dispatch_next allows (f r)) (reference_so_far allows true g.stimuli g.begun (n + 1)) (first ++ second) a c e1 e3 (λ said l r s. sym (times-more n 1 (dispatch_next allows) (reference_so_far allows true g.stimuli g.begun 0 r))) so later
    ∙ moved-so-losses (xs ++ []) xs (λ r. dispatch_next allows (f r)) (first ++ second) a c e1 e3 (append-nil xs) then later
    ∙ moved-then-losses xs [] f (dispatch_next allows) first second a b c e1 e2 e3 g.moved more later

-- how many events are dispatched behind the last stimulus, at most
abbrev pub last_events : (spent : Bool) → ℕ
last_events true = 0
last_events false = 1000

pub last-few : (spent : Bool) → last_events spent ≤ 1000
last-few true = omega arith
last-few false = omega arith

settled-times : (allows : List Place → Bool) (spent : Bool) (r : Run) → settle_last allows spent r ≡ times (last_events spent) (dispatch_next allows) r
settled-times allows true r = refl
settled-times allows false r = sym (settle-times allows r)

-- up to the last batch, with the events behind it
pub gone-whole : {Own : Type 0} (allows : List Place → Bool) (most : ℕ) (text : List ℕ) (a b : Seen Own) (e1 e2 : Engine) (w : WholeMoves allows most text a b e1 e2) → GoneSoFar allows true (last_events (length w.stimuli == most)) text a b e1 e2
gone-whole allows most text a b e1 e2 w =
    let spent = length w.stimuli == most in
    let far = reference_so_far allows true w.stimuli [] (last_events spent) in
    record {
      stimuli = w.stimuli;
      begun = [];
      begun_one = omega arith;
      moved = subst (λ (xs : List WorldStim). Moved xs far text a b e1 e2) (sym (append-nil w.stimuli))
          (moved-as w.stimuli (whole allows most w.stimuli) far text a b e1 e2 (λ said l r s. settled-times allows spent (rounds allows w.stimuli (all_started r))) w.moved);
    }

-- the next event is given to so many of the first applications
pub within-moved : {Own : Type 0} (allows : List Place → Bool) (started : Bool) (n given : ℕ) (text more : List ℕ) (a b c : Seen Own) (e1 e2 e3 : Engine) (g : GoneSoFar allows started n text a b e1 e2) → Moved [] (dispatch_partly allows given) more b c e2 e3
    → Moved (g.stimuli ++ g.begun) (λ r. dispatch_partly allows given (reference_so_far allows started g.stimuli g.begun n r)) (text ++ more) a c e1 e3
within-moved allows started n given text more a b c e1 e2 e3 g p =
    let f = reference_so_far allows started g.stimuli g.begun n in
    let xs = g.stimuli ++ g.begun in
    moved-so (xs ++ []) xs (λ r. dispatch_partly allows given (f r)) (text ++ more) a c e1 e3 (append-nil xs) (moved-then xs [] f (dispatch_partly allows given) text more a b c e1 e2 e3 g.moved p)

pub within-losses : {Own : Type 0} (allows : List Place → Bool) (started : Bool) (n given : ℕ) (text more : List ℕ) (a b c : Seen Own) (e1 e2 e3 : Engine) (g : GoneSoFar allows started n text a b e1 e2) (p : Moved [] (dispatch_partly allows given) more b c e2 e3) (later : Losses)
    → ahead (within-moved allows started n given text more a b c e1 e2 e3 g p).moves.batches (within-moved allows started n given text more a b c e1 e2 e3 g p).moves.turns later ≡ ahead (g.moved.moves.batches ++ p.moves.batches) (g.moved.moves.turns ++ p.moves.turns) later
unfolding within-moved
within-losses allows started n given text more a b c e1 e2 e3 g p later =
    let f = reference_so_far allows started g.stimuli g.begun n in
    let xs = g.stimuli ++ g.begun in
    let then = moved-then xs [] f (dispatch_partly allows given) text more a b c e1 e2 e3 g.moved p in
    moved-so-losses (xs ++ []) xs (λ r. dispatch_partly allows given (f r)) (text ++ more) a c e1 e3 (append-nil xs) then later
    ∙ moved-then-losses xs [] f (dispatch_partly allows given) text more a b c e1 e2 e3 g.moved p later

-- or to none
abbrev pub gone-to-none : {Own : Type 0} (allows : List Place → Bool) (n : ℕ) (text : List ℕ) (a b : Seen Own) (e1 e2 : Engine) → GoneSoFar allows true n text a b e1 e2 → GoneWithin allows n 0 text a b e1 e2
gone-to-none allows n text a b e1 e2 g = record { here = b; here_engine = e2; gone = g; more = []; partly = moved-none b e2 g.moved.settled }

-- ---- From a world that was just opened

begun-same : {Own : Type 0} (rules : List AppValue) (losses : Losses) (first last : Seen Own) (said : ℕ → Said) → last.given ≡ first.given → before_start first.given.declared losses (fresh_from 0 rules said) ≡ start_said rules losses last said
begun-same {Own} rules losses first last said given = ap (λ (g : Given Own). before_start g.declared losses (fresh_from 0 rules said)) (sym given)

-- what a part says behind a world that was just opened
pub says-first : {Own : Type 0} {xs : List WorldStim} {f : Run → Run} {text : List ℕ} {first last : Seen Own} {e : Engine} (rules : List AppValue) (said : ℕ → Said) (later : Losses) → IsOpened first → (m : Moves xs f text first last (engine_at_first rules) e) → AreFrontsOf m.told said
    → text_of (names rules) (f (before_start first.given.declared (ahead m.batches m.turns later) (fresh_from 0 rules said))) ≡ text
says-first {f = f} {text = text} {first = first} rules said later is m fronts =
    let losses = ahead m.batches m.turns later in
    let r0 : Run = before_start first.given.declared losses (fresh_from 0 rules said) in
    subst (λ (of : List AppValue). text_of (names of) (f r0) ≡ text_of (names of) r0 ++ text) (rules-first rules) (m.says said later r0 fronts (stands-first rules first said losses is))

pub ran-so : {Own : Type 0} (rules : List AppValue) (f : Run → Run) (later : Losses) (xs : List WorldStim) (text : List ℕ) (first last : Seen Own) (e : Engine) (said : ℕ → Said) → IsOpened first → (m : Moves xs f text first last (engine_at_first rules) e) → AreSaid last said
    → RanAs rules later text last e (f (start_said rules (ahead m.batches m.turns later) last said))
ran-so rules f later xs text first last e said is m are =
    let losses = ahead m.batches m.turns later in
    let fronts = said-of first last m.told said is m.read are in
    let r0 : Run = before_start first.given.declared losses (fresh_from 0 rules said) in
    let same : r0 ≡ start_said rules losses last said = begun-same rules losses first last said m.given in
    record {
      said = behind m.told said;
      rules_is = m.rules ∙ rules-first rules;
      stands = subst (λ (r : Run). Stands last e (behind m.told said) later (f r)) same (m.stands said later r0 fronts (stands-first rules first said losses is));
      text_is = subst (λ (r : Run). text_of (names rules) (f r) ≡ text) same (says-first rules said later is m fronts);
    }

pub ran-to : {Own : Type 0} (rules : List AppValue) (f : Run → Run) (later : Losses) (xs : List WorldStim) (text : List ℕ) (first last : Seen Own) (e : Engine) → IsOpened first → (m : Moves xs f text first last (engine_at_first rules) e) → RanTo rules f (ahead m.batches m.turns later) later text last e
ran-to rules f later xs text first last e is m = record { as_said = λ said are. ran-so rules f later xs text first last e said is m are }

-- what is told by two parts
pub read-both : {Own : Type 0} {xs ys : List WorldStim} {f g : Run → Run} {text more : List ℕ} {first mid last : Seen Own} {e0 e1 e2 : Engine} (m : Moves xs f text first mid e0 e1) (n : Moves ys g more mid last e1 e2) → (i : ℕ) → TellsMore (told_then m.told n.told i) (own_acts i first) (own_acts i last)
read-both {first = first} {mid = mid} {last = last} m n i = tells-then (m.told i) (n.told i) (own_acts i first) (own_acts i mid) (own_acts i last) (m.read i) (n.read i)

-- how all stood before the last part, and what was said
pub record RanBefore {Own : Type 0} (rules : List AppValue) (text : List ℕ) (mid : Seen Own) (e : Engine) (later : Losses) (r : Run) : Type 0 where
  pub said : ℕ → Said
  pub stands : Stands mid e said later r
  pub text_is : text_of (names rules) r ≡ text

pub ran-before : {Own : Type 0} (rules : List AppValue) (f g : Run → Run) (later : Losses) (xs ys : List WorldStim) (text more : List ℕ) (first mid last : Seen Own) (e1 e2 : Engine) (said : ℕ → Said) → IsOpened first → (m : Moves xs f text first mid (engine_at_first rules) e1) → (n : Moves ys g more mid last e1 e2)
    → AreSaid last said → RanBefore rules text mid e1 (ahead n.batches n.turns later) (f (start_said rules (ahead (m.batches ++ n.batches) (m.turns ++ n.turns) later) last said))
ran-before rules f g later xs ys text more first mid last e1 e2 said is m n are =
    let to_come = ahead n.batches n.turns later in
    let losses = ahead m.batches m.turns to_come in
    let r0 : Run = before_start first.given.declared losses (fresh_from 0 rules said) in
    let same : r0 ≡ start_said rules (ahead (m.batches ++ n.batches) (m.turns ++ n.turns) later) last said =
    begun-same rules losses first last said (n.given ∙ m.given) ∙ ap (λ (l : Losses). start_said rules l last said) (sym (ahead-then m.batches n.batches m.turns n.turns later)) in
    let fronts = fronts-then m.told n.told said (said-of first last (told_then m.told n.told) said is (read-both m n) are) in
    record {
      said = behind m.told said;
      stands = subst (λ (r : Run). Stands mid e1 (behind m.told said) to_come (f r)) same (m.stands said to_come r0 fronts.0 (stands-first rules first said losses is));
      text_is = subst (λ (r : Run). text_of (names rules) (f r) ≡ text) same (says-first rules said to_come is m fronts.0);
    }

-- ---- The point up to which all is alike

pub leaves-nothing : {Own : Type 0} (number : ℕ) (seen : Seen Own) → Leaves number [] seen seen
leaves-nothing number seen = record {
  given = refl;
  told = λ app. record { starts = refl; replies = refl; inputs = refl };
  stimuli = refl;
  released = refl;
  lost_is = sym (append-nil (lost_of seen));
  marks = refl;
  switches = λ d. refl;
  at_once = λ app said. said;
  orderly = orderly-none number seen;
}

pub stimuli-so : {Own : Type 0} (first last : Seen Own) (xs : List WorldStim) → IsOpened first → stimuli_in last ≡ stimuli_in first ++ xs → stimuli_in last ≡ xs
stimuli-so first last xs is read = read ∙ ap (λ (ys : List WorldStim). ys ++ xs) (no-stimuli first is)

pub runs-so : {Own : Type 0} {rules : List AppValue} {later : Losses} {text : List ℕ} (last : Seen Own) (e : Engine) (r : Run) → Conforming last → RanAs rules later text last e r → RunsAlike last r
runs-so {later = later} last e r keeps so = runs-alike last last e so.said later r keeps (leaves-nothing 0 last) so.stands

-- the losses of these parts, and none behind them
abbrev pub none_later : Losses
none_later = at_last []

abbrev pub losses_of : {Own : Type 0} {xs : List WorldStim} {f : Run → Run} {text : List ℕ} {first last : Seen Own} {e0 e : Engine} → Moved xs f text first last e0 e → Losses
losses_of m = ahead m.moves.batches m.moves.turns none_later

-- the applications are as many as the policy has
pub count-so : {Own : Type 0} {xs : List WorldStim} {f : Run → Run} {text : List ℕ} {first last : Seen Own} {e : Engine} (rules : List AppValue) → Moves xs f text first last (engine_at_first rules) e → length e.apps ≡ length rules
count-so {e = e} rules m = count-of rules e (m.rules ∙ rules-first rules)

pub at-once-so : {Own : Type 0} {xs : List WorldStim} {f : Run → Run} {text : List ℕ} {first last : Seen Own} {e : Engine} (rules : List AppValue) → Moved xs f text first last (engine_at_first rules) e → (i : ℕ) → i < length rules → AtOnce i (journal last.history)
at-once-so {last = last} {e = e} rules m = each-at-once last e (length rules) m.settled (count-so rules m.moves)

-- what holds over all that is said holds over what is told
abbrev pub up-to : {Own : Type 0} {rules : List AppValue} {xs : List WorldStim} {f : Run → Run} {text : List ℕ} {first last : Seen Own} {e : Engine} (Claim : Progress last → Run → Type 0) (far : Progress last) → Moved xs f text first last (engine_at_first rules) e
    → ((said : ℕ → Said) → AreSaid last said → Claim far (start_said rules far.losses last said)) → AlikeUpTo rules last Claim
up-to {rules = rules} {last = last} Claim far m so = record {
  far = far;
  as_told = so (told_of last) (told-said last);
  as_said = so;
  at_once = at-once-so rules m;
  in_order = subst (λ (n : ℕ). AllByRecursion (IsOrderly n) last.history) (count-so rules m.moves) m.settled.orderly;
}

-- ---- What a run that a fault ends comes to

abbrev pub far-of : {Own : Type 0} (rules : List AppValue) {allows : List Place → Bool} {started : Bool} {n : ℕ} (given : ℕ) {text more : List ℕ} {first here last : Seen Own} {e1 e2 : Engine} → IsOpened first → (g : GoneSoFar allows started n text first here (engine_at_first rules) e1)
    → Moved [] (dispatch_partly allows given) more here last e1 e2 → n ≤ 1000 → Progress last
far-of rules {allows = allows} {started = started} {n = n} given {text = text} {more = more} {first = first} {here = here} {last = last} {e1 = e1} {e2 = e2} is g p few =
    let m = within-moved allows started n given text more first here last (engine_at_first rules) e1 e2 g p in
    record {
      started = started;
      stimuli = g.stimuli;
      begun = g.begun;
      number = n;
      given = given;
      begun_one = g.begun_one;
      at_most = few;
      stimuli_is = stimuli-so first last (g.stimuli ++ g.begun) is m.moves.read_stimuli;
      losses = losses_of m;
    }

-- how all stood before the next event was given to some
pub before-so : {Own : Type 0} (rules : List AppValue) (allows : List Place → Bool) (started : Bool) (n given : ℕ) (text more : List ℕ) (first here last : Seen Own) (e1 e2 : Engine) (is : IsOpened first) (g : GoneSoFar allows started n text first here (engine_at_first rules) e1)
    (p : Moved [] (dispatch_partly allows given) more here last e1 e2) (few : n ≤ 1000) (said : ℕ → Said) → AreSaid last said → RanBefore rules text here e1 (ahead p.moves.batches p.moves.turns none_later) (reference_to allows (far-of rules given is g p few) (start_said rules (far-of rules given is g p few).losses last said))
before-so rules allows started n given text more first here last e1 e2 is g p few said are =
    let f = reference_so_far allows started g.stimuli g.begun n in
    subst (λ (l : Losses). RanBefore rules text here e1 (ahead p.moves.batches p.moves.turns none_later) (f (start_said rules l last said))) (sym (within-losses allows started n given text more first here last (engine_at_first rules) e1 e2 g p none_later))
    (ran-before rules f (dispatch_partly allows given) none_later (g.stimuli ++ g.begun) [] text more first here last e1 e2 said is g.moved.moves p.moves are)

abbrev pub cut-at : {Own : Type 0} (rules : List AppValue) (allows : List Place → Bool) (started : Bool) (n given : ℕ) (text more : List ℕ) (contents now_contents : Option (List ℕ)) (first here last : Seen Own) (e1 e2 : Engine) → IsOpened first → (g : GoneSoFar allows started n text first here (engine_at_first rules) e1)
    → Moved [] (dispatch_partly allows given) more here last e1 e2 → n ≤ 1000 → Conforming last → now_contents ≡ append_known contents text → CutBetweenLines rules allows last contents now_contents
cut-at rules allows started n given text more contents now_contents first here last e1 e2 is g p few keeps written =
    let f = reference_so_far allows started g.stimuli g.begun n in
    let m = within-moved allows started n given text more first here last (engine_at_first rules) e1 e2 g p in
    let ran = ran-to rules (λ r. dispatch_partly allows given (f r)) none_later (g.stimuli ++ g.begun) (text ++ more) first last e2 is m.moves in
    up-to (WroteSoFar rules allows last contents now_contents) (far-of rules given is g p few) m (λ said are. record {
      alike = runs-so last e2 (dispatch_partly allows given (f (start_said rules (losses_of m) last said))) keeps (ran.as_said said are);
      written = written ∙ ap (append_known contents) (sym (before-so rules allows started n given text more first here last e1 e2 is g p few said are).text_is);
    })

abbrev pub cut-so : {Own : Type 0} (rules : List AppValue) (allows : List Place → Bool) (n given : ℕ) (text : List ℕ) (contents now_contents : Option (List ℕ)) (first last : Seen Own) (e : Engine) → IsOpened first → GoneWithin allows n given text first last (engine_at_first rules) e → n ≤ 1000
    → Conforming last → now_contents ≡ append_known contents text → CutBetweenLines rules allows last contents now_contents
cut-so rules allows n given text contents now_contents first last e is w few keeps written = cut-at rules allows true n given text w.more contents now_contents first w.here last w.here_engine e is w.gone w.partly few keeps written

-- ---- No line is missing

used-up : {X : Type 0} (told before more : List X) → told ≡ before ++ more → before ≡ [] → drop (length more) told ≡ []
used-up told before more is none = ap (drop (length more)) (is ∙ ap (λ (xs : List _). xs ++ more) none) ∙ drop-length more

-- how the reference controller stands over what is told
stands-told : {Own : Type 0} (rules : List AppValue) (f : Run → Run) (later : Losses) (xs : List WorldStim) (text : List ℕ) (first last : Seen Own) (e : Engine) → IsOpened first → (m : Moves xs f text first last (engine_at_first rules) e)
    → Stands last e (λ i. nothing) later (f (start_of rules (ahead m.batches m.turns later) last))
stands-told rules f later xs text first last e is m =
    let losses = ahead m.batches m.turns later in
    let said = told_of last in
    let fronts = said-of first last m.told said is m.read (told-said last) in
    let r0 : Run = before_start first.given.declared losses (fresh_from 0 rules said) in
    stands-ext last e (behind m.told said) (λ i. nothing) later (f (start_of rules losses last)) (λ i. ap₂ (λ (ss : List Start) (rs : List Reply). record { starts = ss; replies = rs })
    (used-up (said i).starts (starts_in (own_acts i first)) (m.told i).starts (m.read i).starts (ap starts_in (no-own i first is)))
    (used-up (said i).replies (replies_in (own_acts i first)) (m.told i).replies (m.read i).replies (ap replies_in (no-own i first is))))
    (subst (λ (r : Run). Stands last e (behind m.told said) later (f r)) (begun-same rules losses first last said m.given) (m.stands said later r0 fronts (stands-first rules first said losses is)))

-- all that is told was done
none-of : {Own : Type 0} (i : ℕ) (last : Seen Own) (apps : List Application) → AllByRecursion (λ a. (a.starts ≡ []) × (a.replies ≡ [])) (apps_from i last apps (λ j. nothing))
none-of i last [] = tt
none-of i last (a ∷ more) = ((refl, refl), none-of (i + 1) last more)

none-ahead : {Own : Type 0} {later : Losses} (last : Seen Own) (e : Engine) (r : Run) → Stands last e (λ i. nothing) later r → NoneAhead r
none-ahead last e r stands = subst (λ (apps : List App). AllByRecursion (λ a. (a.starts ≡ []) × (a.replies ≡ [])) apps) (sym stands.apps) (none-of 0 last e.apps)

-- some application is given the next event
given-some : {Own : Type 0} (i : ℕ) (seen : Seen Own) (apps : List Application) (said : ℕ → Said) (event : Event) → is_given_to_some (apps_from i seen apps said) event ≡ list_any (is_taking event) apps
given-some i seen [] said event = refl
given-some i seen (a ∷ more) said event = ap (λ (b : Bool). is_taking event a || b) (given-some (i + 1) seen more said event)

next-given : {Own : Type 0} (seen : Seen Own) (apps : List Application) (said : ℕ → Said) (queue : List Event) → takes_next apps queue ≡ true → is_next_given (apps_from 0 seen apps said) queue ≡ true
next-given seen apps said [] takes = takes
next-given seen apps said (event ∷ queue) takes = given-some 0 seen apps said event ∙ takes

module _ {Own : Type 0} (rules : List AppValue) (allows : List Place → Bool) where
  all-done : {n given : ℕ} {text more : List ℕ} {first here last : Seen Own} {e1 e2 : Engine} (is : IsOpened first) (g : GoneSoFar allows true n text first here (engine_at_first rules) e1) (p : Moved [] (dispatch_partly allows given) more here last e1 e2) (few : n ≤ 1000) → AllDone rules allows (far-of rules given is g p few)
  all-done {n = n} {given = given} {text = text} {more = more} {first = first} {here = here} {last = last} {e1 = e1} {e2 = e2} is g p few =
      let f = reference_so_far allows true g.stimuli g.begun n in
      let m = within-moved allows true n given text more first here last (engine_at_first rules) e1 e2 g p in
      record {
        started = refl;
        none_ahead = none-ahead last e2 (dispatch_partly allows given (f (start_of rules (losses_of m) last)))
            (stands-told rules (λ r. dispatch_partly allows given (f r)) none_later (g.stimuli ++ g.begun) (text ++ more) first last e2 is m.moves);
      }

  -- nothing was done since the last stimulus was settled; or no event is left; or some application is given the next one
  none-between : {here last : Seen Own} {later : Losses} {text : List ℕ} (far : Progress last) (e : Engine) → RanBefore rules text here e later (reference_to allows far (start_of rules far.losses last))
      → ((far.begun ≡ []) × (far.number ≡ 0) × (far.given ≡ 0)) ⊎ (e.queue ≡ []) ⊎ (takes_next e.apps e.queue ≡ true) → NoneBetween rules allows far
  none-between far e ran (inl settled) = inl (record { none_begun = settled.0; none_dispatched = settled.1; none_given = settled.2 })
  none-between far e ran (inr (inl none)) = inr (inl (ran.stands.queue ∙ none))
  none-between {here = here} far e ran (inr (inr takes)) = inr (inr (ap₂ (λ (apps : List App) (queue : List Event). is_next_given apps queue) ran.stands.apps ran.stands.queue ∙ next-given here e.apps ran.said e.queue takes))

  pub lines-so : (n given : ℕ) (text : List ℕ) (contents now_contents : Option (List ℕ)) (first last : Seen Own) (e : Engine) (is : IsOpened first) (gone : GoneWithin allows n given text first last (engine_at_first rules) e) → n ≤ 1000
      → ((gone.gone.begun ≡ []) × (n ≡ 0) × (given ≡ 0)) ⊎ (gone.here_engine.queue ≡ []) ⊎ (takes_next gone.here_engine.apps gone.here_engine.queue ≡ true)
      → Conforming last → now_contents ≡ append_known contents text → CutBehindLines rules allows last contents now_contents
  lines-so n given text contents now_contents first last e is w few next keeps written =
      record {
        run = cut-so rules allows n given text contents now_contents first last e is w few keeps written;
        done = all-done is w.gone w.partly few;
        none_between = none-between (far-of rules given is w.gone w.partly few) w.here_engine
            (before-so rules allows true n given text w.more first w.here last w.here_engine e is w.gone w.partly few (told_of last) (told-said last)) next;
      }

  -- behind whole rounds
  pub rounds-so : (number : ℕ) (first_text second_text : List ℕ) (contents now_contents : Option (List ℕ)) (first begun last : Seen Own) (e1 e2 : Engine) → IsOpened first → Moved [] all_started first_text first begun (engine_at_first rules) e1 → Rounds allows number second_text begun last e1 e2
      → Conforming last → now_contents ≡ append_known contents (first_text ++ second_text) → CutBehindLines rules allows last contents now_contents
  rounds-so number first_text second_text contents now_contents first begun last e1 e2 is m rs keeps written =
      let g = gone-rounds allows number first_text second_text first begun last (engine_at_first rules) e1 e2 m rs in
      lines-so 0 0 (first_text ++ second_text) contents now_contents first last e2 is (gone-to-none allows 0 (first_text ++ second_text) first last (engine_at_first rules) e2 g) (omega arith) (inl (refl, refl, refl)) keeps written

  -- ---- Where memory was wanting

  -- behind the start
  pub some-so : (n given : ℕ) (text : List ℕ) (contents now_contents : Option (List ℕ)) (first last seen : Seen Own) (e : Engine) → IsOpened first → GoneWithin allows n given text first last (engine_at_first rules) e → n ≤ 1000
      → Conforming last → now_contents ≡ append_known contents text → CutForMemory rules allows seen last contents now_contents
  some-so n given text contents now_contents first last seen e is w few keeps written =
      record { run = cut-so rules allows n given text contents now_contents first last e is w few keeps written; done = inr (all-done is w.gone w.partly few) }

  -- before any stimulus
  pub none-so : (contents now_contents : Option (List ℕ)) (first seen : Seen Own) → IsOpened first → AtRest first (engine_at_first rules) → Conforming first → stimuli_in seen ≡ [] → now_contents ≡ contents → CutForMemory rules allows seen first contents now_contents
  none-so contents now_contents first seen is rest keeps none same =
      let e = engine_at_first rules in
      record {
        run = cut-at rules allows false 0 0 [] [] contents now_contents first first first e e is (gone-none allows first e rest) (moved-none first e rest) (omega arith) keeps (same ∙ sym (append_known-nil contents));
        done = inl none;
      }

-- ---- Where the sink failed

-- the sink failed at the lines of the start
pub start-so : {Own : Type 0} (rules : List AppValue) (allows : List Place → Bool) (more : List ℕ) (contents now_contents : Option (List ℕ)) (first last : Seen Own) (e : Engine) → IsOpened first → Moved [] all_started more first last (engine_at_first rules) e → Conforming last → TookPart contents now_contents more
    → CutInLines rules allows last contents now_contents
start-so rules allows more contents now_contents first last e is m keeps part =
    let none = stimuli-so first last [] is m.moves.read_stimuli in
    let far : Progress last = record { started = true; stimuli = []; begun = []; number = 0; given = 0; begun_one = omega arith; at_most = omega arith; stimuli_is = none; losses = losses_of m } in
    let ran = ran-to rules all_started none_later [] more first last e is m.moves in
    record {
      run = record {
        text = [];
        more = more;
        up_to = up-to (WasWriting rules allows last [] more) far m (λ said are.
            let so = ran.as_said said are in
            record {
              none_given = refl;
              lines = inl (record {
                alike = runs-so last e (all_started (start_said rules (losses_of m) last said)) keeps so;
                is_started = refl;
                none_happened = none;
                none_dispatched = refl;
                text_is = refl;
                more_is = so.text_is;
              });
            });
        part = subst (λ (held : Option (List ℕ)). TookPart held now_contents more) (sym (append_known-nil contents)) part;
      };
      done = record { started = refl; none_ahead = none-ahead last e (all_started (start_of rules (losses_of m) last)) (stands-told rules all_started none_later [] more first last e is m.moves) };
    }

-- at that of a switch that was lost
pub loss-so : {Own : Type 0} (rules : List AppValue) (allows : List Place → Bool) (text more : List ℕ) (contents now_contents : Option (List ℕ)) (first mid last : Seen Own) (e1 e2 : Engine) → IsOpened first → (g : GoneSoFar allows true 0 text first mid (engine_at_first rules) e1) → g.begun ≡ []
    → OneHappens more mid last e1 e2 → Conforming last → TookPart (append_known contents text) now_contents more → CutInLines rules allows last contents now_contents
loss-so rules allows text more contents now_contents first mid last e1 e2 is g none one keeps part =
    let x = one.stimulus in
    let before = reference_so_far allows true g.stimuli [] 0 in
    let first_part : Moved g.stimuli before text first mid (engine_at_first rules) e1 =
    subst (λ (xs : List WorldStim). Moved xs before text first mid (engine_at_first rules) e1) (append-nil g.stimuli)
    (subst (λ (b : List WorldStim). Moved (g.stimuli ++ b) (reference_so_far allows true g.stimuli b 0) text first mid (engine_at_first rules) e1) none g.moved) in
    let next = moved-then g.stimuli (x ∷ []) before (happen x) text more first mid last (engine_at_first rules) e1 e2 first_part one.moved in
    let f = reference_so_far allows true g.stimuli (x ∷ []) 0 in
    let far : Progress last = record {
      started = true;
      stimuli = g.stimuli;
      begun = x ∷ [];
      number = 0;
      given = 0;
      begun_one = omega arith;
      at_most = omega arith;
      stimuli_is = stimuli-so first last (g.stimuli ++ x ∷ []) is next.moves.read_stimuli;
      losses = losses_of next;
    } in
    let ran = ran-to rules f none_later (g.stimuli ++ x ∷ []) (text ++ more) first last e2 is next.moves in
    record {
      run = record {
        text = text;
        more = more;
        up_to = up-to (WasWriting rules allows last text more) far next (λ said are.
            let so = ran.as_said said are in
            record {
              none_given = refl;
              lines = inr (inl (record {
                alike = runs-so last e2 (f (start_said rules (losses_of next) last said)) keeps so;
                is_begun = refl;
                none_dispatched = refl;
                text_is = ap (λ (l : Losses). text_of (names rules) (before (start_said rules l last said))) (moved-then-losses g.stimuli (x ∷ []) before (happen x) text more first mid last (engine_at_first rules) e1 e2 first_part one.moved none_later)
                    ∙ (ran-before rules before (happen x) none_later g.stimuli (x ∷ []) text more first mid last e1 e2 said is first_part.moves one.moved.moves are).text_is;
                more_is = so.text_is;
              }));
            });
        part = part;
      };
      done = record { started = refl; none_ahead = none-ahead last e2 (f (start_of rules (losses_of next) last)) (stands-told rules f none_later (g.stimuli ++ x ∷ []) (text ++ more) first last e2 is next.moves) };
    }

-- at those of an event
pub event-so : {Own : Type 0} (rules : List AppValue) (allows : List Place → Bool) (n : ℕ) (text more : List ℕ) (contents now_contents : Option (List ℕ)) (first mid last : Seen Own) (e1 e2 : Engine) → IsOpened first → GoneSoFar allows true n text first mid (engine_at_first rules) e1
    → Moved [] (dispatch_next allows) more mid last e1 e2 → n ≤ 999 → Conforming last → TookPart (append_known contents text) now_contents more → CutInLines rules allows last contents now_contents
event-so rules allows n text more contents now_contents first mid last e1 e2 is g m few keeps part =
    let next = gone-next allows n text more first mid last (engine_at_first rules) e1 e2 g m in
    let f = reference_so_far allows true g.stimuli g.begun (n + 1) in
    let far : Progress last = record {
      started = true;
      stimuli = g.stimuli;
      begun = g.begun;
      number = n + 1;
      given = 0;
      begun_one = g.begun_one;
      at_most = omega (arith, few);
      stimuli_is = stimuli-so first last (g.stimuli ++ g.begun) is next.moves.read_stimuli;
      losses = losses_of next;
    } in
    let ran = ran-to rules f none_later (g.stimuli ++ g.begun) (text ++ more) first last e2 is next.moves in
    record {
      run = record {
        text = text;
        more = more;
        up_to = up-to (WasWriting rules allows last text more) far next (λ said are.
            let so = ran.as_said said are in
            record {
              none_given = refl;
              lines = inr (inr (inl (record {
                alike = runs-so last e2 (f (start_said rules (losses_of next) last said)) keeps so;
                before = n;
                one_more = refl;
                text_is = ap (λ (l : Losses). text_of (names rules) (reference_so_far allows true g.stimuli g.begun n (start_said rules l last said))) (gone-next-losses allows n text more first mid last (engine_at_first rules) e1 e2 g m none_later)
                    ∙ (ran-before rules (reference_so_far allows true g.stimuli g.begun n) (dispatch_next allows) none_later (g.stimuli ++ g.begun) [] text more first mid last e1 e2 said is g.moved.moves m.moves are).text_is;
                more_is = so.text_is;
              })));
            });
        part = part;
      };
      done = record { started = refl; none_ahead = none-ahead last e2 (f (start_of rules (losses_of next) last)) (stands-told rules f none_later (g.stimuli ++ g.begun) (text ++ more) first last e2 is next.moves) };
    }

-- the end leaves what is told
fresh-ext : (i : ℕ) (rules : List AppValue) (said now_said : ℕ → Said) → ((j : ℕ) → said j ≡ now_said j) → fresh_from i rules said ≡ fresh_from i rules now_said
fresh-ext i [] said now_said same = refl
fresh-ext i (rule ∷ rules) said now_said same = ap₂ (λ (s : Said) (more : List App). fresh rule s ∷ more) (same i) (fresh-ext (i + 1) rules said now_said same)

start-left : {Own : Type 0} {number : ℕ} (rules : List AppValue) (losses : Losses) (lost : List ℕ) (last stop : Seen Own) → Leaves number lost last stop → start_of rules losses last ≡ start_of rules losses stop
start-left {Own} rules losses lost last stop leaves =
    ap (λ (g : Given Own). before_start g.declared losses (fresh_from 0 rules (told_of last))) (sym leaves.given)
    ∙ ap (λ (apps : List App). before_start stop.given.declared losses apps)
    (fresh-ext 0 rules (told_of last) (told_of stop) (λ j. ap₂ (λ (starts : List Start) (replies : List Reply). record { starts = starts; replies = replies }) (sym (leaves.told j).starts) (sym (leaves.told j).replies)))

-- at those of the end, before which switches were asked
pub end-so : {Own : Type 0} (rules : List AppValue) (allows : List Place → Bool) (number : ℕ) (lost : List ℕ) (text more : List ℕ) (contents now_contents : Option (List ℕ)) (first last stop : Seen Own) (e : Engine) → IsOpened first → GoneSoFar allows true number text first last (engine_at_first rules) e → number ≤ 1000 → e.queue ≡ []
    → more ≡ last_text lost last e → Leaves (length e.apps) lost last stop → Conforming stop → TookPart (append_known contents text) now_contents more → CutInLines rules allows stop contents now_contents
end-so {Own} rules allows number lost text more contents now_contents first last stop e is g few none ends leaves keeps part =
    let f = reference_so_far allows true g.stimuli g.begun number in
    let m = g.moved.moves in
    let losses = ahead m.batches m.turns (at_last lost) in
    let ran = ran-to rules f (at_last lost) (g.stimuli ++ g.begun) text first last e is m in
    let far : Progress stop = record {
      started = true;
      stimuli = g.stimuli;
      begun = g.begun;
      number = number;
      given = 0;
      begun_one = g.begun_one;
      at_most = few;
      stimuli_is = leaves.stimuli ∙ stimuli-so first last (g.stimuli ++ g.begun) is m.read_stimuli;
      losses = losses;
    } in
    let so : (said : ℕ → Said) → AreSaid stop said → WasWriting rules allows stop text more far (start_said rules losses stop said) = λ said are.
    let were = ran.as_said said (said-before lost last stop said leaves are) in
    let r = f (start_said rules losses last said) in
    let last_is : last_lines (names rules) r ≡ last_text lost last e = subst (λ (of : List AppValue). last_lines (names of) r ≡ last_text lost last e) were.rules_is (last-shown lost last e were.said r were.stands) in
    subst (λ (s : Run). WasWriting rules allows stop text more far s) (sym (ap (λ (g : Given Own). before_start g.declared losses (fresh_from 0 rules said)) leaves.given)) (record {
      none_given = refl;
      lines = inr (inr (inr (record {
        alike = ends-so lost last stop e were.said r keeps leaves were.stands;
        none_left = were.stands.queue ∙ none;
        text_is = were.text_is;
        more_is = report-ends (names rules) r ∙ ap₂ (λ (a b : List ℕ). a ++ b) were.text_is (last_is ∙ sym ends);
      })));
    }) in
    record {
      run = record {
        text = text;
        more = more;
        up_to = record {
          far = far;
          as_told = so (told_of stop) (told-said stop);
          as_said = so;
          at_once = λ i less. leaves.at_once i (at-once-so rules g.moved i less);
          in_order = subst (λ (n : ℕ). AllByRecursion (IsOrderly n) stop.history) (count-so rules m) (all-in-order lost last stop g.moved.settled leaves);
        };
        part = part;
      };
      done = record {
        started = refl;
        none_ahead = subst (λ (r : Run). NoneAhead (f r)) (start-left rules losses lost last stop leaves) (none-ahead last e (f (start_of rules losses last)) (stands-told rules f (at_last lost) (g.stimuli ++ g.begun) text first last e is m));
      };
    }
