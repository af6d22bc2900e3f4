-- Laws of a session that is given to a simulated world: that it may be given.
use Rattle.std.specs.Prelude.{◌≡◌, ◌≢◌, ◌==◌, ℕ, ◌+◌, ◌<◌, ◌≤◌, Bool, true, false, ◌||◌, List, [], ◌∷◌, length, slice_index_or, All, IsTrue, refl}
use Rattle.std.specs.List.{AllPairs, list_any}
use Rattle.std.proofs.Common.{zero, suc, sym, ap, ◌∙◌, subst, arith}
use Rattle.std.proofs.lemmas.Bool.{ne_eqb}
use Rattle.std.proofs.Math.Bool.{or-false}
use Rattle.std.proofs.lemmas.List.Elements.{All-head, All-tail}
use Rattle.of_types.specs.declared.journal.Stimulus.{Stimulus}
use Rattle.of_types.specs.declared.journal.Stimulus.TheVariants.{Frame, Advance, Port, Counts, Raw}
use Rattle.of_types.specs.declared.journal.WorldStim.{WorldStim}
use Rattle.of_types.specs.declared.journal.WorldStim.TheVariants.{Join, Leave, At, Of}
use Rattle.flow_table.specs.Switch.{Declared}
use Rattle.outside.specs.Seen.{Given, is_declared}
use Rattle.outside.specs.Conforming.{ArePortsFrom, IsWorldStim, IsStimulus as IsStimulusOf}
use Rattle.sim_world.specs.Scripts.{Scripts}
use Rattle.sim_world.specs.World.{CanCome}
use Rattle.sim_world.specs.Building.{insert_declared, with_replies, with_stimuli, nothing_given}
use Rattle.sim_world.specs.laws.BuildingLaws.{is_declared-insert, length-insert_declared}
use Rattle.lego_model.specs.SessionLines.{SessionValue}
use Rattle.lego_model.specs.SessionFacts.{IsPort, IsSwitch, IsKnown, IsStimulus, MayHappen, moments, IsSession}
use Rattle.session_text.specs.Loading.{declared_of, declared_with, with_switches, with_faults, with_starts, given_by}

-- ---- Switches

-- a switch that may be declared beside others
pub record IsNewSwitch (declared : List Declared) (d : ℕ × ℕ × List ℕ) : Type 0 where
  pub number : 1 ≤ d.0
  pub cap : d.1 ≤ 4096
  pub ports : length d.2 ≤ 64
  pub ports_is : ArePortsFrom 1 d.2
  pub absent : is_declared d.0 declared ≡ false
  pub few : length declared < 64

-- switches that may be declared one after the other
abbrev pub MayDeclare : List Declared → List (ℕ × ℕ × List ℕ) → Type 0
MayDeclare declared [] = Unit {0}
MayDeclare declared (d ∷ ds) = IsNewSwitch declared d × MayDeclare (insert_declared (declared_of d) declared) ds

abbrev DiffersFrom : ℕ × ℕ × List ℕ → ℕ × ℕ × List ℕ → Type 0
DiffersFrom d later = d.0 ≢ later.0

first_differs : (d : ℕ × ℕ × List ℕ) (ds : List (ℕ × ℕ × List ℕ)) → AllPairs DiffersFrom (d ∷ ds) → All (DiffersFrom d) ds
first_differs d ds differ = λ i e less. differ zero (suc i) e (omega arith) (omega arith)

others_differ : (d : ℕ × ℕ × List ℕ) (ds : List (ℕ × ℕ × List ℕ)) → AllPairs DiffersFrom (d ∷ ds) → AllPairs DiffersFrom ds
others_differ d ds differ = λ i j e less within. differ (suc i) (suc j) e (omega arith) (omega arith)

-- ports that ascend, each within its limits, stand as the definition of a world that keeps its word has them
abbrev Below : ℕ → ℕ → Type 0
Below port later = port < later

above_first : (port : ℕ) (ports : List ℕ) → AllPairs Below (port ∷ ports) → All (λ later. port + 1 ≤ later) ports
above_first port ports rise = λ i e less.
    let above : port < slice_index_or ports i e = rise zero (suc i) e (omega arith) (omega arith) in
    omega (arith, above)

ports_from : (least : ℕ) (ports : List ℕ) → All IsPort ports → AllPairs Below ports → All (λ port. least ≤ port) ports → ArePortsFrom least ports
ports_from least [] are rise above = tt
ports_from least (port ∷ ports) are rise above = (
  All-head (λ p. least ≤ p) port ports above,
  (All-head IsPort port ports are).1,
  ports_from (port + 1) ports (All-tail IsPort port ports are) (λ i j e less within. rise (suc i) (suc j) e (omega arith) (omega arith)) (above_first port ports rise),
)

absent_still : (declared : List Declared) (d e : ℕ × ℕ × List ℕ) → DiffersFrom d e → is_declared e.0 declared ≡ false → is_declared e.0 (insert_declared (declared_of d) declared) ≡ false
absent_still declared d e differs absent =
    is_declared-insert e.0 (declared_of d) declared
    ∙ ap (λ (b : Bool). b || d.0 == e.0) absent
    ∙ ne_eqb d.0 e.0 differs

all_absent : (declared : List Declared) (d : ℕ × ℕ × List ℕ) (ds : List (ℕ × ℕ × List ℕ)) → All (DiffersFrom d) ds → All (λ e. is_declared e.0 declared ≡ false) ds
    → All (λ e. is_declared e.0 (insert_declared (declared_of d) declared) ≡ false) ds
all_absent declared d ds differ absent = λ i e less. absent_still declared d (slice_index_or ds i e) (differ i e less) (absent i e less)

may_declare : (declared : List Declared) (ds : List (ℕ × ℕ × List ℕ)) → All IsSwitch ds → AllPairs DiffersFrom ds → All (λ e. is_declared e.0 declared ≡ false) ds → length declared + length ds ≤ 64 → MayDeclare declared ds
may_declare declared [] are differ absent few = tt
may_declare declared (d ∷ ds) are differ absent few =
    let is : IsSwitch d = All-head IsSwitch d ds are in (
      record {
        number = is.numbered.0;
        cap = is.roomy.1;
        ports = is.few_ports;
        ports_is = ports_from 1 d.2 is.ports is.ascending (λ i e less. (is.ports i e less).0);
        absent = All-head (λ e. is_declared e.0 declared ≡ false) d ds absent;
        few = omega (arith, few);
      },
      may_declare (insert_declared (declared_of d) declared) ds (All-tail IsSwitch d ds are) (others_differ d ds differ)
          (all_absent declared d ds (first_differs d ds differ) (All-tail (λ e. is_declared e.0 declared ≡ false) d ds absent))
          (omega (arith, few, length-insert_declared (declared_of d) declared)),
    )

pub MayDeclare-session : (s : SessionValue) → IsSession s → MayDeclare [] s.switches
MayDeclare-session s is = may_declare [] s.switches is.switches is.different (λ i e less. refl) (omega (arith, is.few_switches))

-- who is declared then
declared_then : (n : ℕ) (declared : List Declared) (ds : List (ℕ × ℕ × List ℕ)) → is_declared n (declared_with declared ds) ≡ (is_declared n declared || list_any (λ (d : ℕ × ℕ × List ℕ). d.0 == n) ds)
declared_then n declared [] = sym (or-false (is_declared n declared))
declared_then n declared (d ∷ ds) =
    declared_then n (insert_declared (declared_of d) declared) ds
    ∙ ap (λ (b : Bool). b || list_any (λ (e : ℕ × ℕ × List ℕ). e.0 == n) ds) (is_declared-insert n (declared_of d) declared)
    ∙ sym (further (is_declared n declared) (d.0 == n) (list_any (λ (e : ℕ × ℕ × List ℕ). e.0 == n) ds))
  where
    further : (a b c : Bool) → (a || (b || c)) ≡ ((a || b) || c)
    further true b c = refl
    further false b c = refl

known_declared : (n : ℕ) (ds : List (ℕ × ℕ × List ℕ)) → IsKnown ds n → IsTrue (is_declared n (declared_with [] ds))
known_declared n ds known = declared_then n [] ds ∙ known

-- ---- Stimuli

stimulus_of : (x : Stimulus) → MayHappen x → IsStimulusOf x
unfolding IsStimulusOf
stimulus_of (Frame port bytes) may = (omega (arith, may.0), may.1.0, may.1.1)
stimulus_of (Advance t) may = may
stimulus_of (Port port change) may = may
stimulus_of (Counts priority packets bytes) may = (omega (arith, may.0), omega (arith, may.1), omega (arith, may.2))
stimulus_of (Raw bytes) may = (may.0.0, may.0.1, may.1)

can_come : (ds : List (ℕ × ℕ × List ℕ)) (moment : ℕ) (xs : List WorldStim) → All (IsStimulus ds) xs → AllPairs (λ (m n : ℕ). m ≤ n) (moments xs) → All (λ (n : ℕ). moment ≤ n) (moments xs) → CanCome (declared_with [] ds) moment xs
unfolding IsWorldStim
can_come ds moment [] are rise after = tt
can_come ds moment (Join n ∷ xs) are rise after =
    (known_declared n ds (All-head (IsStimulus ds) (Join n) xs are), can_come ds moment xs (All-tail (IsStimulus ds) (Join n) xs are) rise after)
can_come ds moment (Leave n ∷ xs) are rise after =
    (known_declared n ds (All-head (IsStimulus ds) (Leave n) xs are), can_come ds moment xs (All-tail (IsStimulus ds) (Leave n) xs are) rise after)
can_come ds moment (At t ∷ xs) are rise after = (
  (All-head (λ (n : ℕ). moment ≤ n) t (moments xs) after, All-head (IsStimulus ds) (At t) xs are),
  can_come ds t xs (All-tail (IsStimulus ds) (At t) xs are)
      (λ i j e less within. rise (suc i) (suc j) e (omega arith) (omega arith))
      (λ i e less. rise zero (suc i) e (omega arith) (omega arith)),
)
can_come ds moment (Of n x ∷ xs) are rise after =
    let is = All-head (IsStimulus ds) (Of n x) xs are in
    ((known_declared n ds is.0, stimulus_of x is.1), can_come ds moment xs (All-tail (IsStimulus ds) (Of n x) xs are) rise after)

pub CanCome-session : (s : SessionValue) → IsSession s → CanCome (declared_with [] s.switches) 0 s.stimuli
CanCome-session s is = can_come s.switches 0 s.stimuli is.stimuli is.moments_rise (λ i e less. omega arith)

-- ---- A whole session given to a world that was given nothing

-- what was given before the stimuli
pub before_stimuli : (s : SessionValue) (nothing declared failing started replied : Given Scripts) → nothing ≡ nothing_given
    → declared ≡ with_switches s.switches nothing → failing ≡ with_faults s.faults declared → started ≡ with_starts s.starts failing → replied ≡ with_replies s.replies started
    → replied ≡ record (given_by s) { stimuli = [] }
unfolding given_by
before_stimuli s nothing declared failing started replied none switches faults starts replies =
    replies
    ∙ ap (with_replies s.replies) starts
    ∙ ap (λ (g : Given Scripts). with_replies s.replies (with_starts s.starts g)) faults
    ∙ ap (λ (g : Given Scripts). with_replies s.replies (with_starts s.starts (with_faults s.faults g))) switches
    ∙ ap (λ (g : Given Scripts). with_replies s.replies (with_starts s.starts (with_faults s.faults (with_switches s.switches g)))) none

-- no turn is said before those of the session, and no stimulus is given before them
pub no_replies : (s : SessionValue) (nothing declared failing started : Given Scripts) → nothing ≡ nothing_given
    → declared ≡ with_switches s.switches nothing → failing ≡ with_faults s.faults declared → started ≡ with_starts s.starts failing → started.own.replies ≡ []
no_replies s nothing declared failing started none switches faults starts =
    ap (λ (g : Given Scripts). g.own.replies) starts
    ∙ ap (λ (g : Given Scripts). g.own.replies) faults
    ∙ ap (λ (g : Given Scripts). g.own.replies) switches
    ∙ ap (λ (g : Given Scripts). g.own.replies) none

pub no_stimuli : (s : SessionValue) (replied : Given Scripts) → replied ≡ record (given_by s) { stimuli = [] } → replied.stimuli ≡ []
no_stimuli s replied is = ap (λ (g : Given Scripts). g.stimuli) is

pub stimuli_follow : (s : SessionValue) (replied : Given Scripts) → replied ≡ record (given_by s) { stimuli = [] } → IsSession s → CanCome replied.declared 0 s.stimuli
unfolding given_by
stimuli_follow s replied is session = subst (λ (g : Given Scripts). CanCome g.declared 0 s.stimuli) (sym is) (CanCome-session s session)

pub all_given : (s : SessionValue) (replied all : Given Scripts) → replied ≡ record (given_by s) { stimuli = [] } → all ≡ with_stimuli s.stimuli replied → all ≡ given_by s
unfolding given_by
all_given s replied all is stimuli = stimuli ∙ ap (with_stimuli s.stimuli) is

pub switches_declare : (s : SessionValue) (g : Given Scripts) → g ≡ nothing_given → IsSession s → MayDeclare g.declared s.switches
switches_declare s g none session = subst (λ (h : Given Scripts). MayDeclare h.declared s.switches) (sym none) (MayDeclare-session s session)
