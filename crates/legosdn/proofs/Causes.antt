-- Why a run stops.
use Rattle.std.proofs.Common.{◌≡◌, ◌⊎◌, ℕ, List, [], Option, Some, None, Result, Ok, Err, OnOk, OnErr, IfErr, IfSome, refl, sym, ap, ◌∙◌, arith, inl, inr}
use Rattle.std.specs.Result.{IsErrAnd}
use Rattle.lego_io.specs.Count.{NeverFell}
use Rattle.lego_io.specs.laws.CountLaws.{Rose-after, Rose-before}
use Rattle.outside.specs.Seen.{Counts, NoneFell, Seen, Longer}
use Rattle.sim_world.specs.Scripts.{Scripts}
use Rattle.sim_world.specs.World.{WorldData, seen_of}
use Rattle.sim_world.specs.Building.{AreZero, IsNew}
use Rattle.lego_model.specs.declared.fault.TxnFault.{TxnFault}
use Rattle.lego_model.specs.declared.fault.TxnFault.TheVariants as faults
use Rattle.lego_model.specs.SwitchFaults.{IsWhyTxn}
use Rattle.event_dispatch.specs.laws.WhyLaws.{IsWhyTxn-behind}
use Rattle.legosdn.specs.declared.stop.InputRefusal.{InputRefusal}
use Rattle.legosdn.specs.declared.stop.Stop.{Stop}
use Rattle.legosdn.specs.declared.stop.Stop.TheVariants.{Usage, Refused, ReadFault, WriteFault, Shut, NextFault, SwitchBroke, Diverged, EventsLeft, NoMemory}
use Rattle.legosdn.specs.Input.{Spelling}
use Rattle.legosdn.specs.Stops.{stop_status, stop_of_switch}
use Rattle.legosdn.specs.Headline.{faults_of, IsNoSession, IsReadCause, IsRunCause, IsCause, IsLoaded, LoadedAt, RunsNoOther, NeverRuns}
use Rattle.legosdn.proofs.Statuses.{not_late}
use Rattle.legosdn.proofs.Loads.{late_loaded, no_other}

pub switch_cause : {Own : Type 0} (Tells : Type 0) (k l : ℕ) (old new : Seen Own) (fault : TxnFault) → IsWhyTxn Tells old new fault → IsRunCause Tells k l old new (stop_of_switch fault)
switch_cause Tells k l old new (faults.SwitchBroke d bytes) why = (faults.SwitchBroke d bytes, refl, why)
switch_cause Tells k l old new (faults.Flooded d count) why = (faults.Flooded d count, refl, why)
switch_cause Tells k l old new (faults.Diverged d sent got) why = (faults.Diverged d sent got, refl, why)
switch_cause Tells k l old new faults.NoMemory why = tt

-- ---- Counts that were 0

pub none_fell : (a b : Counts) → AreZero a → AreZero b → NoneFell a b
none_fell a b first second = record {
  shuts = omega (arith, first.shuts, second.shuts);
  next_faults = omega (arith, first.next_faults, second.next_faults);
  starts_failed = omega (arith, first.starts_failed, second.starts_failed);
  closings = omega (arith, first.closings, second.closings);
  silences = omega (arith, first.silences, second.silences);
  link_faults = λ d. omega (arith, first.link_faults d, second.link_faults d);
  shorts = omega (arith, first.shorts, second.shorts);
  shorts_of = λ d. omega (arith, first.shorts_of d, second.shorts_of d);
  strays = omega (arith, first.strays, second.strays);
}

-- a world of which nothing has happened
pub record AreNew (seen : Seen Scripts) : Type 0 where
  pub zero : AreZero seen.counts
  pub untouched : seen.history ≡ []

longer : (a b : Seen Scripts) → AreNew a → AreNew b → Longer a.history b.history
longer a b first second = ([], rw (first.untouched, second.untouched) refl)

why_behind : (a b c : Seen Scripts) (fault : TxnFault) → AreNew a → AreNew b → IsWhyTxn (Unit {0}) b c fault → IsWhyTxn (Unit {0}) a c fault
why_behind a b c fault first second why = IsWhyTxn-behind a b c (λ told. longer a b first second) fault (none_fell a.counts b.counts first.zero second.zero) why

fell : (a b : Seen Scripts) → AreNew a → AreNew b → NoneFell a.counts b.counts
fell a b first second = none_fell a.counts b.counts first.zero second.zero

-- why a run stopped, with what was counted before it
run_cause : (spells : Spelling) (told : Option (List ℕ)) (i j k l : ℕ) (a b c : Seen Scripts) (stop : Stop) → AreNew a → AreNew b → IsRunCause (Unit {0}) k l b c stop → IsCause (Unit {0}) (IsNoSession spells) told (faults_of i k a) (faults_of j l c) stop
run_cause spells told i j k l a b c Usage first second why = absurd why
run_cause spells told i j k l a b c (Refused refusal) first second why = absurd why
run_cause spells told i j k l a b c ReadFault first second why = absurd why
run_cause spells told i j k l a b c WriteFault first second why = why
run_cause spells told i j k l a b c Shut first second why = Rose-after a.counts.shuts b.counts.shuts c.counts.shuts (fell a b first second).shuts why
run_cause spells told i j k l a b c NextFault first second why = Rose-after a.counts.next_faults b.counts.next_faults c.counts.next_faults (fell a b first second).next_faults why
run_cause spells told i j k l a b c (SwitchBroke d) first second why = (why.0, why.1, why_behind a b c why.0 first second why.2)
run_cause spells told i j k l a b c (Diverged d) first second why = (why.0, why.1, why_behind a b c why.0 first second why.2)
run_cause spells told i j k l a b c (EventsLeft left) first second why = why
run_cause spells told i j k l a b c NoMemory first second why = tt

-- with nothing before it
ran_cause : {Own : Type 0} (Tells : Type 0) (IsRefused : InputRefusal → List ℕ → Type 0) (told : Option (List ℕ)) (i j k l : ℕ) (a c : Seen Own) (stop : Stop) → IsRunCause Tells k l a c stop → IsCause Tells IsRefused told (faults_of i k a) (faults_of j l c) stop
ran_cause Tells IsRefused told i j k l a c Usage why = absurd why
ran_cause Tells IsRefused told i j k l a c (Refused refusal) why = absurd why
ran_cause Tells IsRefused told i j k l a c ReadFault why = absurd why
ran_cause Tells IsRefused told i j k l a c WriteFault why = why
ran_cause Tells IsRefused told i j k l a c Shut why = why
ran_cause Tells IsRefused told i j k l a c NextFault why = why
ran_cause Tells IsRefused told i j k l a c (SwitchBroke d) why = why
ran_cause Tells IsRefused told i j k l a c (Diverged d) why = why
ran_cause Tells IsRefused told i j k l a c (EventsLeft left) why = why
ran_cause Tells IsRefused told i j k l a c NoMemory why = tt

pub ran_causes : {Own T : Type 0} (Tells : Type 0) (IsRefused : InputRefusal → List ℕ → Type 0) (told : Option (List ℕ)) (i j k l : ℕ) (a c : Seen Own) (result : Result T Stop) → IfErr result (IsRunCause Tells k l a c)
    → IfErr result (IsCause Tells IsRefused told (faults_of i k a) (faults_of j l c))
ran_causes Tells IsRefused told i j k l a c (Ok x) why = tt
ran_causes Tells IsRefused told i j k l a c (Err stop) why = ran_cause Tells IsRefused told i j k l a c stop why

-- or with no run at all
unread_cause : {Own : Type 0} (Tells : Type 0) (IsRefused : InputRefusal → List ℕ → Type 0) (told : Option (List ℕ)) (i j k l : ℕ) (a c : Seen Own) (stop : Stop) → IsReadCause IsRefused told i j stop → IsCause Tells IsRefused told (faults_of i k a) (faults_of j l c) stop
unread_cause Tells IsRefused told i j k l a c Usage why = absurd why
unread_cause Tells IsRefused told i j k l a c (Refused refusal) why = why
unread_cause Tells IsRefused told i j k l a c ReadFault why = why
unread_cause Tells IsRefused told i j k l a c WriteFault why = absurd why
unread_cause Tells IsRefused told i j k l a c Shut why = absurd why
unread_cause Tells IsRefused told i j k l a c NextFault why = absurd why
unread_cause Tells IsRefused told i j k l a c (SwitchBroke d) why = absurd why
unread_cause Tells IsRefused told i j k l a c (Diverged d) why = absurd why
unread_cause Tells IsRefused told i j k l a c (EventsLeft left) why = absurd why
unread_cause Tells IsRefused told i j k l a c NoMemory why = tt

pub unread_causes : {Own T : Type 0} (Tells : Type 0) (IsRefused : InputRefusal → List ℕ → Type 0) (told : Option (List ℕ)) (i j k l : ℕ) (a c : Seen Own) (stop : Stop) (result : Result T Stop) → IsErrAnd result (λ s. s ≡ stop) → IsReadCause IsRefused told i j stop
    → IfErr result (IsCause Tells IsRefused told (faults_of i k a) (faults_of j l c))
unread_causes Tells IsRefused told i j k l a c stop (Ok x) is why = tt
unread_causes Tells IsRefused told i j k l a c stop (Err s) is why = rw is (unread_cause Tells IsRefused told i j k l a c stop why)

-- a write of the last line, behind the run
pub cause_then : {Own : Type 0} (Tells : Type 0) (IsRefused : InputRefusal → List ℕ → Type 0) (told : Option (List ℕ)) (i j k l m : ℕ) (a c : Seen Own) (stop : Stop) → NeverFell k l → NeverFell l m → IsCause Tells IsRefused told (faults_of i k a) (faults_of j l c) stop
    → IsCause Tells IsRefused told (faults_of i k a) (faults_of j m c) stop
cause_then Tells IsRefused told i j k l m a c Usage up on why = why
cause_then Tells IsRefused told i j k l m a c (Refused refusal) up on why = why
cause_then Tells IsRefused told i j k l m a c ReadFault up on why = why
cause_then Tells IsRefused told i j k l m a c WriteFault up on why = Rose-before k l m up why on
cause_then Tells IsRefused told i j k l m a c Shut up on why = why
cause_then Tells IsRefused told i j k l m a c NextFault up on why = why
cause_then Tells IsRefused told i j k l m a c (SwitchBroke d) up on why = why
cause_then Tells IsRefused told i j k l m a c (Diverged d) up on why = why
cause_then Tells IsRefused told i j k l m a c (EventsLeft left) up on why = why
cause_then Tells IsRefused told i j k l m a c NoMemory up on why = why

-- ---- The last line

pub wrote : {T E P Q R : Type 0} (result : Result T E) → OnOk result P → OnErr result Q → OnErr result R → P ⊎ (Q × R)
wrote (Ok x) all rose part = inl all
wrote (Err e) all rose part = inr (rose, part)

-- ---- At the top call

pub are_new : (w : WorldData) → IsNew w → AreNew (seen_of w)
unfolding seen_of
are_new w new = record { zero = new.counts; untouched = new.history }

pub run_causes : (spells : Spelling) {T : Type 0} (told : Option (List ℕ)) (i j k l : ℕ) (a b c : Seen Scripts) (result : Result T Stop) → AreNew a → AreNew b → IfErr result (IsRunCause (Unit {0}) k l b c)
    → IfErr result (IsCause (Unit {0}) (IsNoSession spells) told (faults_of i k a) (faults_of j l c))
run_causes spells told i j k l a b c (Ok x) first second why = tt
run_causes spells told i j k l a b c (Err stop) first second why = run_cause spells told i j k l a b c stop first second why

-- ---- A refused input

pub no_both : {A : Type 0} (x : A) (line : List ℕ) → Ok x ≡ Err line → ⊥
no_both x line e = absurd cc

refused_or_loaded : (spells : Spelling) {left : Option (List ℕ)} {seen : Seen Scripts} {bytes line : List ℕ} → IsLoaded spells (Some bytes) left seen → spells bytes ≡ Err line → ⊥
refused_or_loaded spells loaded e = no_both _ _ (sym loaded.1.spelled ∙ ap spells loaded.1.whole ∙ e)

none_done : (spells : Spelling) (bytes : List ℕ) (left : Option (List ℕ)) (seen : Seen Scripts) (line : List ℕ) → RunsNoOther spells (Some bytes) left seen → spells bytes ≡ Err line → seen.history ≡ []
none_done spells bytes left seen line (inl none) e = none
none_done spells bytes left seen line (inr loaded) e = absurd (refused_or_loaded spells loaded e)

-- one that spells a session is none
pub none_refused : (spells : Spelling) (told left : Option (List ℕ)) (seen : Seen Scripts) (line : List ℕ) (status : ℕ) → IsLoaded spells told left seen → IfSome told (λ input. spells input ≡ Err line → NeverRuns status seen)
none_refused spells None left seen line status loaded = tt
none_refused spells (Some bytes) left seen line status loaded = λ e. absurd (refused_or_loaded spells loaded e)

pub refuses : (spells : Spelling) (told left : Option (List ℕ)) (seen : Seen Scripts) (stop : Stop) (line : List ℕ) → LoadedAt spells stop told left seen → IfSome told (λ input. spells input ≡ Err line → NeverRuns (stop_status stop) seen)
refuses spells None left seen stop line loaded = tt
refuses spells (Some bytes) left seen stop line loaded = λ e. (not_late stop (λ late. refused_or_loaded spells (late_loaded spells (Some bytes) left seen stop late loaded) e), none_done spells bytes left seen line (no_other spells (Some bytes) left seen stop loaded) e)
