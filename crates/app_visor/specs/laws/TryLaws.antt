-- Laws of one attempt to start an application, of the loop over all attempts, and of what the reference comes to by them.
use Rattle.std.specs.Prelude.{◌≡◌, ℕ, ◌≤◌, zero, suc, Bool, true, false, List, [], ◌∷◌, ◌++◌, Option, Some, None, is_some, unwrap_or, if◌then◌else◌, refl}
use Rattle.std.proofs.Common.{sym, ap, ◌∙◌, subst, append_assoc, inl, inr, arith}
use Rattle.std.proofs.lemmas.Bool.{cases_lt, eq-eqb}
use Rattle.std.proofs.lemmas.List.{append-nil}
use Rattle.of_types.specs.declared.journal.Act.{Act}
use Rattle.of_types.specs.declared.journal.Act.TheVariants.{Started}
use Rattle.app_frames.specs.declared.cause.Tried.{Tried}
use Rattle.app_frames.specs.declared.cause.Tried.TheVariants.{Refused}
use Rattle.app_frames.specs.declared.cause.Tried.TheVariants as tries
use Rattle.lego_io.specs.Count.{Rose}
use Rattle.lego_io.specs.laws.CountLaws.{Rose-after}
use Rattle.lego_model.specs.Journal.{Start, inputs, start_of}
use Rattle.lego_model.specs.Turns.{outcome_of}
use Rattle.lego_model.specs.Scripted.{is_start_heard}
use Rattle.lego_model.specs.Controller.{App, is_ready, attempts, started}
use Rattle.outside.specs.Seen.{Counts, NoneFell, Seen, Continues}
use Rattle.outside.specs.laws.SeenLaws.{Continues-refl, Continues-trans, Ends-continues}
use Rattle.outside.specs.State.{state, is_running}
use Rattle.outside.specs.Calls.{Ends}
use Rattle.journal_laws.specs.Readings.{Within, end_acts}
use Rattle.journal_laws.specs.laws.ReadingLaws.{Within-append}
use Rattle.lego_model.specs.AtOnce.{Before, nothing_said, attempted, Passes}
use Rattle.app_visor.specs.Talks.{Told}
use Rattle.app_visor.specs.Dialogues.{Converses, Speaks}
use Rattle.app_visor.specs.laws.DialogueLaws.{Converses-refl, Converses-then, converses_told, converses_ended}
use Rattle.app_visor.specs.laws.RunningLaws.{converses_runs}
use Rattle.app_visor.specs.Attempts.{TryRises, restored, IsTry, Tries, OneTry, AreTries, ready_rest, tries_of, starts_of, restarted, Restarts, TriesOn, rest_of, stood, Greets, EndsUnless}
use Rattle.app_visor.specs.laws.AttemptLaws.{Adds, Adds-append, Adds-none, Adds-ended, ends_is, not_started_is, runs_started}

-- ---- One attempt

no_ready : true ≡ false → ⊥
no_ready e = cc

refused_outcome : outcome_of (start_of (record { stands = false; acts = [] })) ≡ (Refused, [])
unfolding start_of outcome_of
refused_outcome = refl

refused_given : (app : ℕ) (kept : List ℕ) → inputs app [] ≡ restored kept (start_of (record { stands = false; acts = [] }))
unfolding start_of inputs
refused_given app kept = refl

refused_heard : is_start_heard (start_of (record { stands = false; acts = [] })) ≡ true
unfolding start_of is_start_heard
refused_heard = refl

pub try_refused : {Own : Type 0} {Tells : Type 0} {app : ℕ} {kept : List ℕ} {old mid new : Seen Own} (rest : List ℕ) → rest ≡ [] → Ends Tells app old mid → Told Tells (Started app false) mid new → Tries Tells app kept Refused rest old new
try_refused {Tells = Tells} {app = app} {kept = kept} {old = old} {mid = mid} {new = new} rest none ends told = record {
  attempt = record { stands = false; acts = [] };
  went = record {
    continues = Continues-trans Tells old mid new (Ends-continues ends) told.continues;
    history = Adds-append Tells (end_acts (is_running app (state old)) app) (Started app false ∷ []) old mid new (Adds-ended Tells app old mid ends) told.history;
    outcome = rw none refused_outcome;
    given = refused_given app kept;
    heard = refused_heard;
    rises = Rose-after old.counts.starts_failed mid.counts.starts_failed new.counts.starts_failed ends.none_fell.starts_failed told.rises;
    within = tt;
    ended = λ tells not_ready. not_started_is Tells app mid new told tells (ends_is Tells app old mid ends tells);
    running = λ tells ready. absurd (no_ready (sym ready));
    speaks = λ tells s runs.
        let ended = converses_ended Tells app s old mid ends tells runs in
        record {
          after = attempted false;
          converses = Converses-then app s ended.0 (attempted false) old mid new ended.1.0 (converses_told Tells app (Started app false) ended.0 (attempted false) mid new told tells (eq-eqb app app refl) (ended.1.1, refl));
          runs = λ ready. absurd (no_ready (sym ready));
          passes = λ ready. absurd (no_ready (sym ready));
        };
  };
}

-- what rose in between rose over all
over : (a b c d : ℕ) → a ≤ b → b ≤ c → Rose b c → c ≤ d → Rose a d
over a b c d first up (inl lt) last = inl (omega arith)
over a b c d first up (inr top) last = elim (cases_lt a d) [ inl lt ↦ inl lt | inr le ↦ inr (omega arith) ]

rises_over : (tried : Tried) (a b c d : Counts) → NoneFell a b → NoneFell b c → TryRises tried b c → NoneFell c d → TryRises tried a d
rises_over tries.Ready a b c d first up rises last = tt
rises_over tries.Garbled a b c d first up rises last = tt
rises_over tries.Refused a b c d first up rises last = over a.starts_failed b.starts_failed c.starts_failed d.starts_failed first.starts_failed up.starts_failed rises last.starts_failed
rises_over tries.Closed a b c d first up rises last = over a.closings b.closings c.closings d.closings first.closings up.closings rises last.closings
rises_over tries.Silent a b c d first up rises last = over a.silences b.silences c.silences d.silences first.silences up.silences rises last.silences

-- the acts of a start that stood, and its end where it was not ready
abbrev stood_acts : ℕ → List Act → Bool → List Act
stood_acts app acts running = acts ++ end_acts running app

within_end : (app : ℕ) (running : Bool) → Within app (end_acts running app)
within_end app true = (eq-eqb app app refl, tt)
within_end app false = tt

stood_is : {Own : Type 0} (Tells : Type 0) (app : ℕ) (kept : List ℕ) (tried : Tried) (left : List ℕ) (running : Bool) (old mid up then_seen new : Seen Own)
    → Ends Tells app old mid → Told Tells (Started app true) mid up → (greets : Greets Tells app kept tried left up then_seen) → Adds Tells (end_acts running app) then_seen new → Continues Tells then_seen new
    → (Tells → is_ready tried ≡ false → is_running app (state new) ≡ false) → (Tells → is_ready tried ≡ true → is_running app (state new) ≡ true)
    → (Tells → (s : Before) → s.running ≡ is_running app (state then_seen) → (is_ready tried ≡ true → Passes s.unread left) → Speaks app s then_seen new (is_ready tried) (rest_of tried left))
    → IsTry Tells app kept (stood (stood_acts app greets.acts running)) tried (rest_of tried left) old new
stood_is Tells app kept tried left running old mid up then_seen new ends told greets adds later ended running_is closes = record {
  continues = Continues-trans Tells old mid new (Ends-continues ends) (Continues-trans Tells mid up new told.continues (Continues-trans Tells up then_seen new greets.continues later));
  history = Adds-append Tells (end_acts (is_running app (state old)) app) (Started app true ∷ stood_acts app greets.acts running) old mid new (Adds-ended Tells app old mid ends)
      (Adds-append Tells (Started app true ∷ []) (stood_acts app greets.acts running) mid up new told.history (Adds-append Tells greets.acts (end_acts running app) up then_seen new greets.history adds));
  outcome = greets.outcome running;
  given = greets.given running;
  heard = greets.heard running;
  rises = rises_over tried old.counts up.counts then_seen.counts new.counts (Continues-trans Tells old mid up (Ends-continues ends) told.continues).none_fell greets.continues.none_fell greets.rises later.none_fell;
  within = Within-append app greets.acts (end_acts running app) greets.within (within_end app running);
  ended = ended;
  running = running_is;
  speaks = λ tells s runs.
      let first = converses_ended Tells app s old mid ends tells runs in
      let greeted = greets.speaks tells in
      let still = converses_runs app nothing_said greeted.after up then_seen greeted.converses greets.continues.given (sym (runs_started Tells app mid up told tells)) in
      let last = closes tells greeted.after still greeted.passes in
      record {
        after = last.after;
        converses = Converses-then app s first.0 last.after old mid new first.1.0
            (Converses-then app first.0 nothing_said last.after mid up new (converses_told Tells app (Started app true) first.0 nothing_said mid up told tells (eq-eqb app app refl) (first.1.1, refl))
            (Converses-then app nothing_said greeted.after last.after up then_seen new greeted.converses last.converses));
        runs = last.runs;
        passes = last.passes;
      };
}

try_stood_at : {Own : Type 0} (Tells : Type 0) (app : ℕ) (kept : List ℕ) (tried : Tried) (left : List ℕ) (ready : Bool) (old mid up then_seen new : Seen Own) → is_ready tried ≡ ready
    → Ends Tells app old mid → Told Tells (Started app true) mid up → Greets Tells app kept tried left up then_seen → EndsUnless Tells app ready then_seen new → Tries Tells app kept tried (rest_of tried left) old new
try_stood_at Tells app kept tried left true old mid up then_seen new is ends told greets unless = record {
  attempt = stood (stood_acts app greets.acts false);
  went = stood_is Tells app kept tried left false old mid up then_seen new ends told greets (Adds-none Tells then_seen new unless) (rw unless (Continues-refl Tells then_seen))
      (λ tells e. absurd (no_ready (sym is ∙ e))) (λ tells e. ap (λ (s : Seen _). is_running app (state s)) unless ∙ greets.running tells ∙ runs_started Tells app mid up told tells)
      (λ tells s runs passes. record {
        after = s;
        converses = Converses-refl app s then_seen new unless;
        runs = λ ready. runs ∙ greets.running tells ∙ runs_started Tells app mid up told tells;
        passes = λ ready. subst (Passes s.unread) (sym (ap (λ (b : Bool). if b then left else []) ready)) (passes ready);
      });
}
try_stood_at Tells app kept tried left false old mid up then_seen new is ends told greets unless = record {
  attempt = stood (stood_acts app greets.acts (is_running app (state then_seen)));
  went = stood_is Tells app kept tried left (is_running app (state then_seen)) old mid up then_seen new ends told greets (Adds-ended Tells app then_seen new unless) (Ends-continues unless)
      (λ tells e. ends_is Tells app then_seen new unless tells) (λ tells e. absurd (no_ready (sym e ∙ is)))
      (λ tells s runs passes.
      let closed = converses_ended Tells app s then_seen new unless tells runs in
      record { after = closed.0; converses = closed.1.0; runs = λ ready. absurd (no_ready (sym ready ∙ is)); passes = λ ready. absurd (no_ready (sym ready ∙ is)) });
}

pub try_stood : {Own : Type 0} (Tells : Type 0) (app : ℕ) (kept : List ℕ) (tried : Tried) (left rest : List ℕ) (old mid up then_seen new : Seen Own) → rest ≡ rest_of tried left
    → Ends Tells app old mid → Told Tells (Started app true) mid up → Greets Tells app kept tried left up then_seen → EndsUnless Tells app (is_ready tried) then_seen new → Tries Tells app kept tried rest old new
try_stood Tells app kept tried left rest old mid up then_seen new is ends told greets unless =
    subst (λ (r : List ℕ). Tries Tells app kept tried r old new) (sym is) (try_stood_at Tells app kept tried left (is_ready tried) old mid up then_seen new refl ends told greets unless)

pub unless_continues : {Own : Type 0} (Tells : Type 0) (app : ℕ) (ready : Bool) (old new : Seen Own) → EndsUnless Tells app ready old new → Continues Tells old new
unless_continues Tells app true old new unless = rw unless (Continues-refl Tells old)
unless_continues Tells app false old new unless = Ends-continues unless

-- ---- The loop over all attempts

abbrev one_try : {Own : Type 0} {Tells : Type 0} {app : ℕ} {kept : List ℕ} {tried : Tried} {rest : List ℕ} {old new : Seen Own} → Tries Tells app kept tried rest old new → OneTry Own
one_try {tried = tried} {rest = rest} {new = new} t = record { attempt = t.attempt; tried = tried; rest = rest; after = new }

pub none_tried : {Own : Type 0} {Tells : Type 0} (app : ℕ) (kept : List ℕ) (seen : Seen Own) (tries : List Tried) → tries ≡ [] → TriesOn Tells app kept attempts seen tries seen
none_tried app kept seen tries is = record {
  whole = λ later new are. record { all = later; are = are; tries_is = ap (λ (ts : List Tried). ts ++ tries_of later) (sym is); found_is = refl };
}

pub not_yet : {Own : Type 0} {Tells : Type 0} {app : ℕ} {kept : List ℕ} {left : ℕ} {tried : Tried} {rest : List ℕ} {tries now_tries : List Tried} {first old new : Seen Own} (less : ℕ) → left ≡ suc less
    → TriesOn Tells app kept left first tries old → Tries Tells app kept tried rest old new → is_ready tried ≡ false → now_tries ≡ tries ++ tried ∷ [] → TriesOn Tells app kept less first now_tries new
not_yet {Own = Own} {Tells = Tells} {app = app} {kept = kept} {tried = tried} {rest = rest} {tries = tries} {first = first} {old = old} {new = new} less is on t not_ready pushed =
    let here : TriesOn Tells app kept (suc less) first tries old = subst (λ (n : ℕ). TriesOn Tells app kept n first tries old) is on in
    record {
      whole = λ later end are.
          let all = here.whole (one_try t ∷ later) end (t.went, inr (not_ready, are)) in
          record {
            all = all.all;
            are = all.are;
            tries_is = all.tries_is ∙ sym (append_assoc tries (tried ∷ []) (tries_of later)) ∙ ap (λ (ts : List Tried). ts ++ tries_of later) (sym pushed);
            found_is = all.found_is ∙ rw not_ready refl;
          };
    }

-- ---- What the reference comes to

abbrev pub first_tried : App → Start → List Start → List ℕ → App
first_tried a s more rest = record a { alive = true; rest = rest; inputs = a.inputs ++ restored a.kept s; starts = more }

abbrev pub by_first : ℕ → App → Tried → App → App × List Tried
by_first n a tried next = if is_ready tried then (next, tried ∷ []) else ((started n next).0, tried ∷ (started n next).1)

pub started_first : (n : ℕ) (a : App) (s : Start) (more : List Start) (tried : Tried) (rest : List ℕ) → a.starts ≡ s ∷ more → outcome_of s ≡ (tried, rest) → started (suc n) a ≡ by_first n a tried (first_tried a s more rest)
unfolding started
started_first n a s more tried rest has is = rw (has, is) refl

ready_first : {Own : Type 0} (n : ℕ) (t : OneTry Own) (ts : List (OneTry Own)) (more : List Start) (a : App) → is_ready t.tried ≡ true → ts ≡ []
    → by_first n a t.tried (first_tried a (start_of t.attempt) (starts_of ts ++ more) t.rest) ≡ restarted (t ∷ ts) more a
ready_first n t ts more a ready last = rw (ready, last, append-nil) refl

unready_first : {Own : Type 0} (n : ℕ) (t : OneTry Own) (ts : List (OneTry Own)) (more : List Start) (a : App) → is_ready t.tried ≡ false
    → started n (first_tried a (start_of t.attempt) (starts_of ts ++ more) t.rest) ≡ restarted ts more (first_tried a (start_of t.attempt) (starts_of ts ++ more) t.rest)
    → by_first n a t.tried (first_tried a (start_of t.attempt) (starts_of ts ++ more) t.rest) ≡ restarted (t ∷ ts) more a
unready_first n t ts more a unready then_is = rw (unready, then_is, append_assoc) refl

started_is : {Own : Type 0} (Tells : Type 0) (app : ℕ) (kept : List ℕ) (n : ℕ) (ts : List (OneTry Own)) (old new : Seen Own) → AreTries Tells app kept n ts old new → (a : App) (more : List Start) → a.starts ≡ starts_of ts ++ more
    → started n a ≡ restarted ts more a
unfolding started
started_is Tells app kept zero [] old new are a more has = rw (append-nil, ← has) refl
started_is Tells app kept zero (t ∷ ts) old new are a more has = absurd are
started_is Tells app kept (suc n) [] old new are a more has = absurd are
started_is Tells app kept (suc n) (t ∷ ts) old new are a more has =
    let next = first_tried a (start_of t.attempt) (starts_of ts ++ more) t.rest in
    started_first n a (start_of t.attempt) (starts_of ts ++ more) t.tried t.rest has are.0.outcome
    ∙ elim are.1 [
      | inl h ↦ ready_first n t ts more a h.0 h.1
      | inr h ↦ unready_first n t ts more a h.0 (started_is Tells app kept n ts t.after new h.1 next more refl)
    ]

pub back_then : {Own : Type 0} {Tells : Type 0} {app : ℕ} {kept : List ℕ} {left : ℕ} {tried : Tried} {rest : List ℕ} {tries now_tries : List Tried} {first old new : Seen Own} (less : ℕ) → left ≡ suc less
    → TriesOn Tells app kept left first tries old → Tries Tells app kept tried rest old new → is_ready tried ≡ true → now_tries ≡ tries ++ tried ∷ [] → Restarts Tells app kept first new (Some rest) now_tries
back_then {Tells = Tells} {app = app} {kept = kept} {tried = tried} {rest = rest} {tries = tries} {first = first} {old = old} {new = new} less is on t ready pushed =
    let here : TriesOn Tells app kept (suc less) first tries old = subst (λ (n : ℕ). TriesOn Tells app kept n first tries old) is on in
    let all = here.whole (one_try t ∷ []) new (t.went, inl (ready, refl, refl)) in
    record {
      all = all.all;
      are = all.are;
      tries_is = pushed ∙ sym all.tries_is;
      found_is = sym (all.found_is ∙ rw ready refl);
      as_started = started_is Tells app kept attempts all.all first new all.are;
    }

pub none_back : {Own : Type 0} {Tells : Type 0} {app : ℕ} {kept : List ℕ} {left : ℕ} {tries : List Tried} {first old : Seen Own} → left ≡ zero → TriesOn Tells app kept left first tries old → Restarts Tells app kept first old None tries
none_back {Tells = Tells} {app = app} {kept = kept} {tries = tries} {first = first} {old = old} is on =
    let here : TriesOn Tells app kept zero first tries old = subst (λ (n : ℕ). TriesOn Tells app kept n first tries old) is on in
    let all = here.whole [] old refl in
    record {
      all = all.all;
      are = all.are;
      tries_is = sym (all.tries_is ∙ append-nil tries);
      found_is = sym all.found_is;
      as_started = started_is Tells app kept attempts all.all first old all.are;
    }

-- ---- The dialogue

-- all attempts go on with it, where it tells whether the application runs; where one was ready, it runs then, and what is unread stands
-- behind its frame Ready
pub tries_speak : {Own : Type 0} (Tells : Type 0) (app : ℕ) (kept : List ℕ) (n : ℕ) (all : List (OneTry Own)) (old new : Seen Own) (s : Before) → AreTries Tells app kept n all old new → Tells → s.running ≡ is_running app (state old)
    → Speaks app s old new (is_some (ready_rest all)) (unwrap_or (ready_rest all) [])
tries_speak Tells app kept zero [] old new s are tells runs = record { after = s; converses = Converses-refl app s old new are; runs = λ some. absurd (no_ready (sym some)); passes = λ some. absurd (no_ready (sym some)) }
tries_speak Tells app kept zero (t ∷ ts) old new s are tells runs = absurd are
tries_speak Tells app kept (suc n) [] old new s are tells runs = absurd are
tries_speak Tells app kept (suc n) (t ∷ ts) old new s are tells runs =
    let first = are.0.speaks tells s runs in
    elim are.1 [
      | inl h ↦
          let found : ready_rest (t ∷ ts) ≡ Some t.rest = ap (λ (b : Bool). if b then Some t.rest else ready_rest ts) h.0 in
          record {
            after = first.after;
            converses = subst (λ (x : Seen _). Converses app s first.after old x) (sym h.2) first.converses;
            runs = λ some. first.runs h.0;
            passes = λ some. subst (λ (o : Option (List ℕ)). Passes first.after.unread (unwrap_or o [])) (sym found) (first.passes h.0);
          }
      | inr h ↦
          let found : ready_rest (t ∷ ts) ≡ ready_rest ts = ap (λ (b : Bool). if b then Some t.rest else ready_rest ts) h.0 in
          let later = tries_speak Tells app kept n ts t.after new first.after h.1 tells (converses_runs app s first.after old t.after first.converses are.0.continues.given runs) in
          record {
            after = later.after;
            converses = Converses-then app s first.after later.after old t.after new first.converses later.converses;
            runs = λ some. later.runs (sym (ap (λ (o : Option (List ℕ)). is_some o) found) ∙ some);
            passes = λ some. subst (λ (o : Option (List ℕ)). Passes later.after.unread (unwrap_or o [])) (sym found) (later.passes (sym (ap (λ (o : Option (List ℕ)). is_some o) found) ∙ some));
          }
    ]
