-- A call of an application that is noted is such a call of this world.
use Rattle.std.specs.Prelude.{◌≡◌, ◌==◌, ℕ, ◌-◌, ◌^◌, ◌≤◌, Bool, true, false, not, List, [], ◌∷◌, ◌++◌, map, filter, Some, Result, Ok, Err, IsTrue, IsErr, IsErrOf, IfOk, slice_get, refl}
use Rattle.std.proofs.Common.{zero, suc, sym, ap, ◌∙◌, subst, arith, append_assoc, inl, inr}
use Rattle.std.proofs.lemmas.Bool.{cases_Bool, false≢true}
use Rattle.std.proofs.lemmas.List.{append-nil, map-append}
use Rattle.of_types.specs.Membership.{is_among}
use Rattle.lego_io.specs.Count.{raised, Rose}
use Rattle.lego_io.specs.laws.CountLaws.{Rose-raised}
use Rattle.outside.specs.declared.faults.Short.{Short}
use Rattle.outside.specs.declared.faults.StartFault.{StartFault}
use Rattle.outside.specs.declared.faults.StartFault.TheVariants as starting
use Rattle.outside.specs.declared.faults.GiveFault.{GiveFault}
use Rattle.outside.specs.declared.faults.GiveFault.TheVariants as giving
use Rattle.outside.specs.declared.item.Taken.{Taken}
use Rattle.outside.specs.declared.item.Taken.TheVariants as gave
use Rattle.outside.specs.declared.step.WorldStep.{WorldStep}
use Rattle.outside.specs.Seen.{Counts, Seen, with_stray, with_short}
use Rattle.outside.specs.State.{State, at_first, after_act, after_step, after_steps, state, is_running}
use Rattle.outside.specs.laws.StateLaws.{after_steps-append}
use Rattle.outside.specs.Calls.{Starts, start_steps, start_counts, Gives, give_steps, give_counts, Takes, take_steps, take_counts, IsTakenIn, Ends, end_steps}
use Rattle.linked_world.specs.Linked.{is_app_step, Note, noted, woven, Grows, AppCounts, AreAppCounts, total, with_apps, seen_with, seen_of, Linkage, IsLinkage, running_after, running_without, stray_count, short_count, start_count, give_count, take_count, Notes}
use Rattle.linked_world.specs.laws.WovenLaws.{woven-noted, Grows-noted}
use Rattle.linked_world.specs.laws.SideLaws.{runs-link_steps}
use Rattle.linked_world.specs.laws.CountLaws.{NoAppFell, NoneFell-own, total-raised_own, total-Rose_own, AreCounts-same}

-- ---- Notes of some steps

unfoldable pub AreApps : List WorldStep → Type 0
AreApps [] = Unit {0}
AreApps (step ∷ steps) = IsTrue (is_app_step step) × AreApps steps

woven_all : (notes : List Note) (now steps : List WorldStep) → woven [] (notes ++ map (λ (step : WorldStep). (now, step)) steps) now ≡ woven [] notes now ++ steps
woven_all notes now [] =
    ap (λ (xs : List Note). woven [] xs now) (append-nil notes) ∙ sym (append-nil (woven [] notes now))
woven_all notes now (step ∷ steps) =
    ap (λ (xs : List Note). woven [] xs now) (sym (append_assoc notes ((now, step) ∷ []) (map (λ (s : WorldStep). (now, s)) steps)))
    ∙ woven_all (notes ++ (now, step) ∷ []) now steps
    ∙ ap (λ (xs : List WorldStep). xs ++ steps) (woven-noted [] notes now step)
    ∙ append_assoc (woven [] notes now) (step ∷ []) steps

grows_all : (notes : List Note) (now steps : List WorldStep) → AreApps steps → Grows [] notes now → Grows [] (notes ++ map (λ (step : WorldStep). (now, step)) steps) now
unfolding AreApps
grows_all notes now [] are grows = subst (λ (xs : List Note). Grows [] xs now) (sym (append-nil notes)) grows
grows_all notes now (step ∷ steps) are grows =
    subst (λ (xs : List Note). Grows [] xs now) (append_assoc notes ((now, step) ∷ []) (map (λ (s : WorldStep). (now, s)) steps))
    (grows_all (notes ++ (now, step) ∷ []) now steps are.1 (Grows-noted [] notes now step grows are.0))

-- ---- What is seen then

given_by : {Own W : Type 0} (see : W → Seen Own) (steps : List WorldStep) (running : List ℕ) (counts : AppCounts) (old new : Linkage W) → Notes see steps running counts old new
    → (seen_of see new).given ≡ (seen_of see old).given
unfolding seen_of seen_with
given_by see steps running counts old new by = ap (λ (w : _). (see w).given) by.links

history_by : {Own W : Type 0} (see : W → Seen Own) (steps : List WorldStep) (running : List ℕ) (counts : AppCounts) (old new : Linkage W) → Notes see steps running counts old new
    → (seen_of see new).history ≡ (seen_of see old).history ++ steps
unfolding seen_of seen_with
history_by see steps running counts old new by =
    ap (λ (w : _). woven [] (noted see new.notes) (see w).history) by.links
    ∙ ap (λ (xs : List Note). woven [] xs (see old.links).history) by.notes
    ∙ woven_all (noted see old.notes) (see old.links).history steps

counts_by : {Own W : Type 0} (see : W → Seen Own) (steps : List WorldStep) (running : List ℕ) (counts : AppCounts) (old new : Linkage W) → Notes see steps running counts old new
    → (seen_of see new).counts ≡ with_apps counts (see old.links).counts
unfolding seen_of seen_with
counts_by see steps running counts old new by =
    ap (λ (w : _). with_apps new.counts (see w).counts) by.links ∙ ap (λ (c : AppCounts). with_apps c (see old.links).counts) by.counts

pub runs_by : {Own W : Type 0} {Tells : Type 0} (see : W → Seen Own) (app : ℕ) (d : Linkage W) → IsLinkage Tells see d → Tells → is_running app (state (seen_of see d)) ≡ is_among app d.running
unfolding seen_of
runs_by see app d is told = ap (is_among app) (is.run told)

running_by : {Own W : Type 0} (see : W → Seen Own) (steps : List WorldStep) (running : List ℕ) (counts : AppCounts) (old new : Linkage W) → Notes see steps running counts old new
    → ((s : State) → s.running ≡ old.running → (after_steps steps s).running ≡ running) → (state (seen_of see old)).running ≡ old.running → (state (seen_of see new)).running ≡ running
unfolding state
running_by see steps running counts old new by moved is =
    ap (λ (xs : List WorldStep). (after_steps xs (at_first (seen_of see new).given)).running) (history_by see steps running counts old new by)
    ∙ ap (λ (g : _). (after_steps ((seen_of see old).history ++ steps) (at_first g)).running) (given_by see steps running counts old new by)
    ∙ ap (λ (s : State). s.running) (after_steps-append (seen_of see old).history steps (at_first (seen_of see old).given))
    ∙ moved (after_steps (seen_of see old).history (at_first (seen_of see old).given)) is

-- It stands, with the applications that run after the steps.
stands_by : {Own W : Type 0} {Tells : Type 0} (see : W → Seen Own) (steps : List WorldStep) (running : List ℕ) (counts : AppCounts) (old new : Linkage W) → Notes see steps running counts old new
    → AreApps steps → AreAppCounts counts → ((s : State) → s.running ≡ old.running → (after_steps steps s).running ≡ running) → IsLinkage Tells see old → IsLinkage Tells see new
unfolding seen_of
stands_by see steps running counts old new by are fit moved is = record {
  grows = λ told.
      subst (λ (w : _). Grows [] (noted see new.notes) (see w).history) (sym by.links)
      (subst (λ (xs : List Note). Grows [] xs (see old.links).history) (sym by.notes) (grows_all (noted see old.notes) (see old.links).history steps are (is.grows told)));
  run = λ told. running_by see steps running counts old new by moved (is.run told) ∙ sym by.running;
  fit = subst AreAppCounts (sym by.counts) fit;
  runs = λ told app in_then.
      subst (λ (w : _). is_running app (state (see w)) ≡ true) (sym by.links)
      (is.runs told app (subst (λ (xs : List Bool). slice_get xs app ≡ Some true) by.inside in_then));
}

-- ---- Counts

stray_fit : (stray : Bool) (c : AppCounts) → AreAppCounts c → AreAppCounts (stray_count stray c)
stray_fit true c fit = record { starts_failed = fit.starts_failed; closings = fit.closings; silences = fit.silences; shorts = fit.shorts; strays = omega arith }
stray_fit false c fit = fit

pub short_fit : (c : AppCounts) → AreAppCounts c → AreAppCounts (short_count c)
short_fit c fit = record { starts_failed = fit.starts_failed; closings = fit.closings; silences = fit.silences; shorts = omega arith; strays = fit.strays }

none_fell : (c : AppCounts) → NoAppFell c c
none_fell c = record { starts_failed = omega arith; closings = omega arith; silences = omega arith; shorts = omega arith; strays = omega arith }

fell_trans : (a b c : AppCounts) → NoAppFell a b → NoAppFell b c → NoAppFell a c
fell_trans a b c first second = record {
  starts_failed = omega (arith, first.starts_failed, second.starts_failed);
  closings = omega (arith, first.closings, second.closings);
  silences = omega (arith, first.silences, second.silences);
  shorts = omega (arith, first.shorts, second.shorts);
  strays = omega (arith, first.strays, second.strays);
}

stray_fell : (stray : Bool) (c : AppCounts) → AreAppCounts c → NoAppFell c (stray_count stray c)
stray_fell true c fit = record { starts_failed = omega arith; closings = omega arith; silences = omega arith; shorts = omega arith; strays = omega (arith, fit.strays) }
stray_fell false c fit = none_fell c

pub short_fell : (c : AppCounts) → AreAppCounts c → NoAppFell c (short_count c)
short_fell c fit = record { starts_failed = omega arith; closings = omega arith; silences = omega arith; shorts = omega (arith, fit.shorts); strays = omega arith }

stray_seen : (stray : Bool) (a : AppCounts) (c : Counts) → with_apps (stray_count stray a) c ≡ with_stray stray (with_apps a c)
stray_seen true a c = ap (λ (n : ℕ). record (with_apps a c) { strays = n }) (total-raised_own c.strays a.strays)
stray_seen false a c = refl

pub short_seen : (a : AppCounts) (c : Counts) → with_apps (short_count a) c ≡ with_short (with_apps a c)
short_seen a c = ap (λ (n : ℕ). record (with_apps a c) { shorts = n }) (total-raised_own c.shorts a.shorts)

pub rises : (n : ℕ) → n ≤ 2 ^ 64 - 1 → Rose n (raised n)
rises n fits = Rose-raised n (omega arith)

-- ---- start

start_fit : {T : Type 0} (result : Result T StartFault) (c : AppCounts) → AreAppCounts c → AreAppCounts (start_count result c)
unfolding start_count
start_fit (Ok x) c fit = fit
start_fit (Err starting.NotStarted) c fit = record { starts_failed = omega arith; closings = fit.closings; silences = fit.silences; shorts = fit.shorts; strays = fit.strays }
start_fit (Err starting.Short) c fit = short_fit c fit

start_fell : {T : Type 0} (result : Result T StartFault) (c : AppCounts) → AreAppCounts c → NoAppFell c (start_count result c)
unfolding start_count
start_fell (Ok x) c fit = none_fell c
start_fell (Err starting.NotStarted) c fit = record { starts_failed = omega (arith, fit.starts_failed); closings = omega arith; silences = omega arith; shorts = omega arith; strays = omega arith }
start_fell (Err starting.Short) c fit = short_fell c fit

start_seen : {T : Type 0} (result : Result T StartFault) (a : AppCounts) (c : Counts) → with_apps (start_count result a) c ≡ start_counts result (with_apps a c)
unfolding start_count start_counts
start_seen (Ok x) a c = refl
start_seen (Err starting.NotStarted) a c = refl
start_seen (Err starting.Short) a c = short_seen a c

start_rose : {T : Type 0} (stray : Bool) (result : Result T StartFault) (c : AppCounts) → AreAppCounts c → IsErrOf result starting.NotStarted → Rose c.starts_failed (stray_count stray (start_count result c)).starts_failed
unfolding start_count
start_rose stray result c fit is = subst (λ r. Rose c.starts_failed (stray_count stray (start_count r c)).starts_failed) (sym is) (rises c.starts_failed fit.starts_failed)

start_short : {T : Type 0} (stray : Bool) (result : Result T StartFault) (c : AppCounts) → AreAppCounts c → IsErrOf result starting.Short → Rose c.shorts (stray_count stray (start_count result c)).shorts
unfolding start_count
start_short stray result c fit is = subst (λ r. Rose c.shorts (stray_count stray (start_count r c)).shorts) (sym is) (rises c.shorts fit.shorts)

pub start_apps : {T : Type 0} (app : ℕ) (result : Result T StartFault) → AreApps (start_steps app result)
unfolding AreApps start_steps
start_apps app (Ok x) = (refl, tt)
start_apps app (Err starting.NotStarted) = (refl, tt)
start_apps app (Err starting.Short) = tt

pub start_runs : {T : Type 0} (app : ℕ) (result : Result T StartFault) (running : List ℕ) (s : State) → s.running ≡ running → (after_steps (start_steps app result) s).running ≡ running_after app result running
unfolding start_steps after_step after_act
start_runs app (Ok x) running s same = ap (λ (xs : List ℕ). xs ++ app ∷ []) same
start_runs app (Err starting.NotStarted) running s same = same
start_runs app (Err starting.Short) running s same = same

-- what a start counts
abbrev pub started_counts : {T : Type 0} → ℕ → Result T StartFault → List ℕ → AppCounts → AppCounts
started_counts app result running c = stray_count (is_among app running) (start_count result c)

pub starts_by : {Own W T : Type 0} {Tells : Type 0} (see : W → Seen Own) (app : ℕ) (old new : Linkage W) (result : Result T StartFault) → IsLinkage Tells see old
    → Notes see (start_steps app result) (running_after app result old.running) (started_counts app result old.running old.counts) old new
    → (IsTrue (is_among app old.running) → IsErr result) → Starts Tells app (seen_of see old) (seen_of see new) result
unfolding seen_of seen_with
starts_by see app old new result is by out =
    let stray = is_among app old.running in
    let counts = counts_by see _ _ _ old new by in
    let inner = (see old.links).counts in
    let fit = start_fit result old.counts is.fit in
    record {
      given = given_by see _ _ _ old new by;
      none_fell = rw counts (NoneFell-own old.counts (stray_count stray (start_count result old.counts)) inner (fell_trans _ _ _ (start_fell result old.counts is.fit) (stray_fell stray _ fit)));
      not_started = λ e. subst (λ (c : Counts). Rose old.counts.starts_failed c.starts_failed) (sym counts) (start_rose stray result old.counts is.fit e);
      short = λ e. subst (λ (c : Counts). Rose (total inner.shorts old.counts.shorts) c.shorts) (sym counts) (total-Rose_own inner.shorts old.counts.shorts _ (start_short stray result old.counts is.fit e));
      told = λ told. record {
        history = history_by see _ _ _ old new by;
        counts = λ shown. AreCounts-same _ _ _ (counts ∙ stray_seen stray (start_count result old.counts) inner ∙ ap (with_stray stray) (start_seen result old.counts inner)
            ∙ ap (λ (b : Bool). with_stray b (start_counts result (with_apps old.counts inner))) (sym (runs_by see app old is told)));
        out_of_place = λ shown. λ e. out (subst IsTrue (runs_by see app old is told) e);
      };
    }

pub starts_stands : {Own W T : Type 0} {Tells : Type 0} (see : W → Seen Own) (app : ℕ) (old new : Linkage W) (result : Result T StartFault) → IsLinkage Tells see old
    → Notes see (start_steps app result) (running_after app result old.running) (started_counts app result old.running old.counts) old new → IsLinkage Tells see new
starts_stands see app old new result is by =
    stands_by see _ _ _ old new by (start_apps app result) (stray_fit (is_among app old.running) _ (start_fit result old.counts is.fit)) (start_runs app result old.running) is

-- ---- give

give_fit : {T : Type 0} (result : Result T GiveFault) (c : AppCounts) → AreAppCounts c → AreAppCounts (give_count result c)
unfolding give_count
give_fit (Ok x) c fit = fit
give_fit (Err giving.Gone) c fit = record { starts_failed = fit.starts_failed; closings = omega arith; silences = fit.silences; shorts = fit.shorts; strays = fit.strays }
give_fit (Err giving.Short) c fit = short_fit c fit

give_fell : {T : Type 0} (result : Result T GiveFault) (c : AppCounts) → AreAppCounts c → NoAppFell c (give_count result c)
unfolding give_count
give_fell (Ok x) c fit = none_fell c
give_fell (Err giving.Gone) c fit = record { starts_failed = omega arith; closings = omega (arith, fit.closings); silences = omega arith; shorts = omega arith; strays = omega arith }
give_fell (Err giving.Short) c fit = short_fell c fit

give_seen : {T : Type 0} (result : Result T GiveFault) (a : AppCounts) (c : Counts) → with_apps (give_count result a) c ≡ give_counts result (with_apps a c)
unfolding give_count give_counts
give_seen (Ok x) a c = refl
give_seen (Err giving.Gone) a c = refl
give_seen (Err giving.Short) a c = short_seen a c

give_gone : {T : Type 0} (stray : Bool) (result : Result T GiveFault) (c : AppCounts) → AreAppCounts c → IsErrOf result giving.Gone → Rose c.closings (stray_count stray (give_count result c)).closings
unfolding give_count
give_gone stray result c fit is = subst (λ r. Rose c.closings (stray_count stray (give_count r c)).closings) (sym is) (rises c.closings fit.closings)

give_short : {T : Type 0} (stray : Bool) (result : Result T GiveFault) (c : AppCounts) → AreAppCounts c → IsErrOf result giving.Short → Rose c.shorts (stray_count stray (give_count result c)).shorts
unfolding give_count
give_short stray result c fit is = subst (λ r. Rose c.shorts (stray_count stray (give_count r c)).shorts) (sym is) (rises c.shorts fit.shorts)

pub give_apps : {T : Type 0} (app : ℕ) (bytes : List ℕ) (result : Result T GiveFault) → AreApps (give_steps app bytes result)
unfolding AreApps give_steps
give_apps app bytes (Ok x) = (refl, tt)
give_apps app bytes (Err giving.Gone) = (refl, tt)
give_apps app bytes (Err giving.Short) = tt

pub give_runs : {T : Type 0} (app : ℕ) (bytes : List ℕ) (result : Result T GiveFault) (running : List ℕ) (s : State) → s.running ≡ running → (after_steps (give_steps app bytes result) s).running ≡ running
unfolding give_steps after_step after_act
give_runs app bytes (Ok x) running s same = same
give_runs app bytes (Err giving.Gone) running s same = same
give_runs app bytes (Err giving.Short) running s same = same

abbrev pub gave_counts : {T : Type 0} → ℕ → Result T GiveFault → List ℕ → AppCounts → AppCounts
gave_counts app result running c = stray_count (not (is_among app running)) (give_count result c)

pub gives_by : {Own W T : Type 0} {Tells : Type 0} (see : W → Seen Own) (app : ℕ) (bytes : List ℕ) (old new : Linkage W) (result : Result T GiveFault) → IsLinkage Tells see old
    → Notes see (give_steps app bytes result) old.running (gave_counts app result old.running old.counts) old new
    → (is_among app old.running ≡ false → IsErr result) → Gives Tells app bytes (seen_of see old) (seen_of see new) result
unfolding seen_of seen_with
gives_by see app bytes old new result is by out =
    let stray = not (is_among app old.running) in
    let counts = counts_by see _ _ _ old new by in
    let inner = (see old.links).counts in
    let fit = give_fit result old.counts is.fit in
    record {
      given = given_by see _ _ _ old new by;
      none_fell = rw counts (NoneFell-own old.counts (stray_count stray (give_count result old.counts)) inner (fell_trans _ _ _ (give_fell result old.counts is.fit) (stray_fell stray _ fit)));
      gone = λ e. subst (λ (c : Counts). Rose old.counts.closings c.closings) (sym counts) (give_gone stray result old.counts is.fit e);
      short = λ e. subst (λ (c : Counts). Rose (total inner.shorts old.counts.shorts) c.shorts) (sym counts) (total-Rose_own inner.shorts old.counts.shorts _ (give_short stray result old.counts is.fit e));
      told = λ told. record {
        history = history_by see _ _ _ old new by;
        counts = λ shown. AreCounts-same _ _ _ (counts ∙ stray_seen stray (give_count result old.counts) inner ∙ ap (with_stray stray) (give_seen result old.counts inner)
            ∙ ap (λ (b : Bool). with_stray (not b) (give_counts result (with_apps old.counts inner))) (sym (runs_by see app old is told)));
        out_of_place = λ shown. λ e. out (sym (runs_by see app old is told) ∙ e);
      };
    }

pub gives_stands : {Own W T : Type 0} {Tells : Type 0} (see : W → Seen Own) (app : ℕ) (bytes : List ℕ) (old new : Linkage W) (result : Result T GiveFault) → IsLinkage Tells see old
    → Notes see (give_steps app bytes result) old.running (gave_counts app result old.running old.counts) old new → IsLinkage Tells see new
gives_stands see app bytes old new result is by =
    stands_by see _ _ _ old new by (give_apps app bytes result) (stray_fit (not (is_among app old.running)) _ (give_fit result old.counts is.fit)) (give_runs app bytes result old.running) is

-- ---- take

take_fit : (result : Result Taken Short) (c : AppCounts) → AreAppCounts c → AreAppCounts (take_count result c)
unfolding take_count
take_fit (Ok (gave.Some n)) c fit = fit
take_fit (Ok gave.Closed) c fit = record { starts_failed = fit.starts_failed; closings = omega arith; silences = fit.silences; shorts = fit.shorts; strays = fit.strays }
take_fit (Ok gave.Silent) c fit = record { starts_failed = fit.starts_failed; closings = fit.closings; silences = omega arith; shorts = fit.shorts; strays = fit.strays }
take_fit (Err short) c fit = short_fit c fit

take_fell : (result : Result Taken Short) (c : AppCounts) → AreAppCounts c → NoAppFell c (take_count result c)
unfolding take_count
take_fell (Ok (gave.Some n)) c fit = none_fell c
take_fell (Ok gave.Closed) c fit = record { starts_failed = omega arith; closings = omega (arith, fit.closings); silences = omega arith; shorts = omega arith; strays = omega arith }
take_fell (Ok gave.Silent) c fit = record { starts_failed = omega arith; closings = omega arith; silences = omega (arith, fit.silences); shorts = omega arith; strays = omega arith }
take_fell (Err short) c fit = short_fell c fit

take_seen : (result : Result Taken Short) (a : AppCounts) (c : Counts) → with_apps (take_count result a) c ≡ take_counts result (with_apps a c)
unfolding take_count take_counts
take_seen (Ok (gave.Some n)) a c = refl
take_seen (Ok gave.Closed) a c = refl
take_seen (Ok gave.Silent) a c = refl
take_seen (Err short) a c = short_seen a c

take_closed : (stray : Bool) (result : Result Taken Short) (c : AppCounts) → AreAppCounts c → result ≡ Ok gave.Closed → Rose c.closings (stray_count stray (take_count result c)).closings
unfolding take_count
take_closed stray result c fit is = subst (λ r. Rose c.closings (stray_count stray (take_count r c)).closings) (sym is) (rises c.closings fit.closings)

take_silent : (stray : Bool) (result : Result Taken Short) (c : AppCounts) → AreAppCounts c → result ≡ Ok gave.Silent → Rose c.silences (stray_count stray (take_count result c)).silences
unfolding take_count
take_silent stray result c fit is = subst (λ r. Rose c.silences (stray_count stray (take_count r c)).silences) (sym is) (rises c.silences fit.silences)

take_short : (stray : Bool) (result : Result Taken Short) (c : AppCounts) → AreAppCounts c → IsErr result → Rose c.shorts (stray_count stray (take_count result c)).shorts
unfolding take_count
take_short stray (Ok what) c fit is = absurd (false≢true is)
take_short stray (Err short) c fit is = rises c.shorts fit.shorts

pub take_apps : (app : ℕ) (result : Result Taken Short) (buf : List ℕ) → AreApps (take_steps app result buf)
unfolding AreApps take_steps
take_apps app (Ok (gave.Some n)) buf = (refl, tt)
take_apps app (Ok gave.Closed) buf = (refl, tt)
take_apps app (Ok gave.Silent) buf = (refl, tt)
take_apps app (Err short) buf = tt

pub take_runs : (app : ℕ) (result : Result Taken Short) (buf : List ℕ) (running : List ℕ) (s : State) → s.running ≡ running → (after_steps (take_steps app result buf) s).running ≡ running
unfolding take_steps after_step
take_runs app (Ok (gave.Some n)) buf running s same = same
take_runs app (Ok gave.Closed) buf running s same = same
take_runs app (Ok gave.Silent) buf running s same = same
take_runs app (Err short) buf running s same = same

abbrev pub taken_counts : ℕ → Result Taken Short → List ℕ → AppCounts → AppCounts
taken_counts app result running c = stray_count (not (is_among app running)) (take_count result c)

pub takes_by : {Own W : Type 0} {Tells : Type 0} (see : W → Seen Own) (app : ℕ) (old new : Linkage W) (result : Result Taken Short) (buf : List ℕ) → IsLinkage Tells see old
    → Notes see (take_steps app result buf) old.running (taken_counts app result old.running old.counts) old new → IfOk result (λ what. IsTakenIn what buf)
    → (is_among app old.running ≡ false → IfOk result (λ what. what ≡ gave.Closed)) → Takes Tells app (seen_of see old) (seen_of see new) result buf
unfolding seen_of seen_with
takes_by see app old new result buf is by taken out =
    let stray = not (is_among app old.running) in
    let counts = counts_by see _ _ _ old new by in
    let inner = (see old.links).counts in
    let fit = take_fit result old.counts is.fit in
    record {
      given = given_by see _ _ _ old new by;
      none_fell = rw counts (NoneFell-own old.counts (stray_count stray (take_count result old.counts)) inner (fell_trans _ _ _ (take_fell result old.counts is.fit) (stray_fell stray _ fit)));
      taken = taken;
      closed = λ e. subst (λ (c : Counts). Rose old.counts.closings c.closings) (sym counts) (take_closed stray result old.counts is.fit e);
      silent = λ e. subst (λ (c : Counts). Rose old.counts.silences c.silences) (sym counts) (take_silent stray result old.counts is.fit e);
      short = λ e. subst (λ (c : Counts). Rose (total inner.shorts old.counts.shorts) c.shorts) (sym counts) (total-Rose_own inner.shorts old.counts.shorts _ (take_short stray result old.counts is.fit e));
      told = λ told. record {
        history = history_by see _ _ _ old new by;
        counts = λ shown. AreCounts-same _ _ _ (counts ∙ stray_seen stray (take_count result old.counts) inner ∙ ap (with_stray stray) (take_seen result old.counts inner)
            ∙ ap (λ (b : Bool). with_stray (not b) (take_counts result (with_apps old.counts inner))) (sym (runs_by see app old is told)));
        out_of_place = λ shown. λ e. out (sym (runs_by see app old is told) ∙ e);
      };
    }

pub takes_stands : {Own W : Type 0} {Tells : Type 0} (see : W → Seen Own) (app : ℕ) (old new : Linkage W) (result : Result Taken Short) (buf : List ℕ) → IsLinkage Tells see old
    → Notes see (take_steps app result buf) old.running (taken_counts app result old.running old.counts) old new → IsLinkage Tells see new
takes_stands see app old new result buf is by =
    stands_by see _ _ _ old new by (take_apps app result buf) (stray_fit (not (is_among app old.running)) _ (take_fit result old.counts is.fit)) (take_runs app result buf old.running) is

-- ---- end

pub end_apps : (app : ℕ) (running : Bool) → AreApps (end_steps app running)
unfolding AreApps end_steps
end_apps app true = (refl, tt)
end_apps app false = tt

pub without_absent : (app : ℕ) (running : List ℕ) → is_among app running ≡ false → running_without app running ≡ running
without_absent app [] is = refl
without_absent app (a ∷ others) is =
    elim (cases_Bool (a == app)) [
      | inl here ↦ absurd (false≢true (sym (rw here at is)))
      | inr other ↦ rw other (ap (λ (xs : List ℕ). a ∷ xs) (without_absent app others (rw other at is)))
    ]

pub end_runs : (app : ℕ) (running : List ℕ) (s : State) → s.running ≡ running → (after_steps (end_steps app (is_among app running)) s).running ≡ running_without app running
unfolding end_steps after_step after_act
end_runs app running s same =
    elim (cases_Bool (is_among app running)) [
      | inl here ↦ rw here (ap (λ (xs : List ℕ). filter (λ a. not (a == app)) xs) same)
      | inr gone ↦ rw gone (same ∙ sym (without_absent app running gone))
    ]

pub ends_by : {Own W : Type 0} {Tells : Type 0} (see : W → Seen Own) (app : ℕ) (old new : Linkage W) → IsLinkage Tells see old
    → Notes see (end_steps app (is_among app old.running)) (running_without app old.running) old.counts old new → Ends Tells app (seen_of see old) (seen_of see new)
unfolding seen_of seen_with
ends_by see app old new is by =
    let counts = counts_by see _ _ _ old new by in
    let inner = (see old.links).counts in
    record {
      given = given_by see _ _ _ old new by;
      none_fell = rw counts (NoneFell-own old.counts old.counts inner (none_fell old.counts));
      told = λ told. record {
        history = history_by see _ _ _ old new by ∙ ap (λ (b : Bool). (seen_of see old).history ++ end_steps app b) (sym (runs_by see app old is told));
        counts = λ shown. AreCounts-same _ _ _ counts;
      };
    }

pub ends_stands : {Own W : Type 0} {Tells : Type 0} (see : W → Seen Own) (app : ℕ) (old new : Linkage W) → IsLinkage Tells see old
    → Notes see (end_steps app (is_among app old.running)) (running_without app old.running) old.counts old new → IsLinkage Tells see new
ends_stands see app old new is by =
    stands_by see _ _ _ old new by (end_apps app (is_among app old.running)) is.fit (end_runs app old.running) is

-- ---- One note, or none

pub noted_one : {Own W : Type 0} (see : W → Seen Own) (step : WorldStep) (running : List ℕ) (counts : AppCounts) (old new : Linkage W)
    → new ≡ (record { links = old.links; notes = old.notes ++ (old.links, step) ∷ []; running = running; counts = counts; inside = old.inside }) → Notes see (step ∷ []) running counts old new
noted_one see step running counts old new is = record {
  links = ap (λ (d : Linkage _). d.links) is;
  notes = ap (λ (d : Linkage _). noted see d.notes) is ∙ map-append (λ note. ((see note.0).history, note.1)) old.notes ((old.links, step) ∷ []);
  running = ap (λ (d : Linkage _). d.running) is;
  counts = ap (λ (d : Linkage _). d.counts) is;
  inside = ap (λ (d : Linkage _). d.inside) is;
}

pub noted_none : {Own W : Type 0} (see : W → Seen Own) (running : List ℕ) (counts : AppCounts) (old new : Linkage W)
    → new ≡ (record { links = old.links; notes = old.notes; running = running; counts = counts; inside = old.inside }) → Notes see [] running counts old new
noted_none see running counts old new is = record {
  links = ap (λ (d : Linkage _). d.links) is;
  notes = ap (λ (d : Linkage _). noted see d.notes) is ∙ sym (append-nil (noted see old.notes));
  running = ap (λ (d : Linkage _). d.running) is;
  counts = ap (λ (d : Linkage _). d.counts) is;
  inside = ap (λ (d : Linkage _). d.inside) is;
}

-- an end that is none
pub end_none : {Own W : Type 0} (see : W → Seen Own) (app : ℕ) (d : Linkage W) → is_among app d.running ≡ false → Notes see (end_steps app (is_among app d.running)) (running_without app d.running) d.counts d d
unfolding end_steps
end_none see app d is = rw is (noted_none see (running_without app d.running) d.counts d d (ap (λ (xs : List ℕ). record d { running = xs }) (sym (without_absent app d.running is))))

-- ---- At first, and want of memory in a take

first_runs : {Own W : Type 0} (see : W → Seen Own) (d : Linkage W) → (state (seen_with [] d.counts (see d.links))).running ≡ []
unfolding state seen_with at_first
first_runs see d = runs-link_steps (see d.links).history (at_first (see d.links).given)

-- none runs in the other world where no place is said to
pub none_there : (inside : List Bool) → inside ≡ [] → (app : ℕ) → ¬ (slice_get inside app ≡ Some true)
none_there inside none app is = none_at app (subst (λ (xs : List Bool). slice_get xs app ≡ Some true) none is)
  where
    none_at : (app : ℕ) → ¬ (slice_get {X = Bool} [] app ≡ Some true)
    none_at app is = absurd cc

-- one place more
pub none_more : (inside : List Bool) → ((app : ℕ) → ¬ (slice_get inside app ≡ Some true)) → (app : ℕ) → ¬ (slice_get (inside ++ false ∷ []) app ≡ Some true)
none_more [] none zero is = absurd cc
none_more [] none (suc app) is = absurd cc
none_more (x ∷ rest) none zero is = none 0 is
none_more (x ∷ rest) none (suc app) is = none_more rest (λ place. none (suc place)) app is

pub first_stands : {Own W : Type 0} {Tells : Type 0} (see : W → Seen Own) (d : Linkage W) → d.notes ≡ [] → d.running ≡ [] → AreAppCounts d.counts → ((app : ℕ) → ¬ (slice_get d.inside app ≡ Some true)) → IsLinkage Tells see d
first_stands see d notes running fit none = record {
  grows = λ told. subst (λ (xs : _). Grows [] (noted see xs) (see d.links).history) (sym notes) ((see d.links).history, refl);
  run = λ told. ap (λ (xs : _). (state (seen_with (noted see xs) d.counts (see d.links))).running) notes ∙ first_runs see d ∙ sym running;
  fit = fit;
  runs = λ told app is. absurd (none app is);
}

pub short_stands : {Own W : Type 0} {Tells : Type 0} (see : W → Seen Own) (app : ℕ) (old new : Linkage W) (short : Short) → IsLinkage Tells see old
    → ((buf : List ℕ) → Notes see (take_steps app (Err short) buf) old.running (taken_counts app (Err short) old.running old.counts) old new) → IsLinkage Tells see new
short_stands see app old new short is by = takes_stands see app old new (Err short) [] is (by [])

pub takes_short : {Own W : Type 0} {Tells : Type 0} (see : W → Seen Own) (app : ℕ) (old new : Linkage W) (short : Short) (buf : List ℕ) → IsLinkage Tells see old
    → Notes see (take_steps app (Err short) buf) old.running (taken_counts app (Err short) old.running old.counts) old new → Takes Tells app (seen_of see old) (seen_of see new) (Err short) buf
takes_short see app old new short buf is by = takes_by see app old new (Err short) buf is by tt (λ e. tt)
