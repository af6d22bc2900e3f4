-- A session that is drawn keeps all limits, and has one application.
use Rattle.std.specs.Prelude.{◌≡◌, ◌≢◌, ◌==◌, ℕ, zero, suc, ◌+◌, ◌*◌, ◌<◌, ◌≤◌, Bool, true, false, List, [], ◌∷◌, length, map, All, nat_lt, refl}
use Rattle.std.specs.List.{AllPairs, list_all}
use Rattle.std.proofs.Common.{ap, arith, cond}
use Rattle.std.proofs.Math.Nat.{mod-lt}
use Rattle.std.proofs.lemmas.Bool.{and_parts}
use Rattle.std.proofs.lemmas.Grind.{common_steps}
use Rattle.std.proofs.lemmas.List.Elements.{All-nil, All-cons}
use Rattle.std.proofs.lemmas.List.Kept.{AllPairs-cons}
use Rattle.of_types.specs.Fields.{IsBytes}
use Rattle.of_types.specs.declared.journal.WorldStim.{WorldStim}
use Rattle.of_types.specs.declared.journal.WorldStim.TheVariants.{Join, Leave, At, Of}
use Rattle.app_frames.specs.declared.script.ScriptStep.{ScriptStep}
use Rattle.outside.specs.State.{moment_after}
use Rattle.lego_model.specs.SessionFacts.{IsPort, IsSwitch, IsKnown, IsStimulus, moments, IsFault, IsSession, IsOf}
use Rattle.session_gen.specs.Draws.{next, behind, number_below, drawn}
use Rattle.session_gen.specs.Turns.{plain_end, turn_drawn}
use Rattle.session_gen.specs.Rounds.{broadcast, frame_drawn, moment_drawn, port_drawn, happening_drawn, behind_happening, turns_drawn, happenings_drawn}
use Rattle.session_gen.specs.Sessions.{switch_numbered, session_drawn}

number_less : (n x : ℕ) → 0 < n → number_below n x < n
unfolding number_below
number_less n x some = mod-lt _ some

-- ---- Switches

abbrev both : List (ℕ × ℕ × List ℕ)
both = switch_numbered 1 ∷ switch_numbered 2 ∷ []

all_four : (P : ℕ → Type 0) → P 1 → P 2 → P 3 → P 4 → All P (1 ∷ 2 ∷ 3 ∷ 4 ∷ [])
all_four P a b c d = All-cons P 1 (2 ∷ 3 ∷ 4 ∷ []) a (All-cons P 2 (3 ∷ 4 ∷ []) b (All-cons P 3 (4 ∷ []) c (All-cons P 4 [] d (All-nil P))))

ports_ascend : AllPairs (λ (port later : ℕ). port < later) (1 ∷ 2 ∷ 3 ∷ 4 ∷ [])
ports_ascend =
    let less = λ (port later : ℕ). port < later in
    let from = λ (port : ℕ) (later : ℕ). port < later in
    AllPairs-cons less 1 (2 ∷ 3 ∷ 4 ∷ []) (All-cons (from 1) 2 (3 ∷ 4 ∷ []) (omega arith) (All-cons (from 1) 3 (4 ∷ []) (omega arith) (All-cons (from 1) 4 [] (omega arith) (All-nil (from 1)))))
    (AllPairs-cons less 2 (3 ∷ 4 ∷ []) (All-cons (from 2) 3 (4 ∷ []) (omega arith) (All-cons (from 2) 4 [] (omega arith) (All-nil (from 2))))
    (AllPairs-cons less 3 (4 ∷ []) (All-cons (from 3) 4 [] (omega arith) (All-nil (from 3)))
    (AllPairs-cons less 4 [] (All-nil (from 4)) (λ i j d before within. absurd (omega (arith, before, within))))))

is_switch : (dpid : ℕ) → 1 ≤ dpid → dpid ≤ 2 → IsSwitch (switch_numbered dpid)
is_switch dpid least most = record {
  numbered = (least, omega (arith, most));
  roomy = (omega arith, omega arith);
  ports = all_four IsPort (omega arith, omega arith) (omega arith, omega arith) (omega arith, omega arith) (omega arith, omega arith);
  ascending = ports_ascend;
  few_ports = omega arith;
}

is_known : (n : ℕ) → n < 2 → IsKnown both (1 + n)
is_known zero less = refl
is_known (suc zero) less = refl
is_known (suc (suc n)) less = absurd (omega (arith, less))

-- ---- Turns

has_steps : (x : ℕ) → 1 ≤ length (turn_drawn x)
unfolding turn_drawn
has_steps x = omega arith

turns_have_steps : (n x : ℕ) → All (λ (r : ℕ × List ScriptStep). 1 ≤ length r.1) (map (λ turn. (0, turn)) (turns_drawn n x))
turns_have_steps zero x = All-nil (λ (r : ℕ × List ScriptStep). 1 ≤ length r.1)
turns_have_steps (suc n) x =
    All-cons (λ (r : ℕ × List ScriptStep). 1 ≤ length r.1) (0, turn_drawn x) (map (λ turn. (0, turn)) (turns_drawn n (behind_happening (behind 17 x)))) (has_steps x)
    (turns_have_steps n (behind_happening (behind 17 x)))

turns_are_of_one : (n x : ℕ) → All (λ (r : ℕ × List ScriptStep). r.0 < 1) (map (λ turn. (0, turn)) (turns_drawn n x))
turns_are_of_one zero x = All-nil (λ (r : ℕ × List ScriptStep). r.0 < 1)
turns_are_of_one (suc n) x =
    All-cons (λ (r : ℕ × List ScriptStep). r.0 < 1) (0, turn_drawn x) (map (λ turn. (0, turn)) (turns_drawn n (behind_happening (behind 17 x)))) (omega arith)
    (turns_are_of_one n (behind_happening (behind 17 x)))

-- ---- What happens

either : (P : WorldStim → Type 0) (b : Bool) (y z : WorldStim) → P y → P z → P (cond b y z)
either P true y z is other = is
either P false y z is other = other

-- what is so of each of the three is so of what is drawn
by_kind : (P : WorldStim → Type 0) (moment x : ℕ) → P (moment_drawn moment (behind 1 x)) → P (port_drawn (behind 1 x)) → P (frame_drawn (behind 1 x)) → P (happening_drawn moment x)
unfolding happening_drawn
by_kind P moment x at port frame =
    either P (drawn 0 4 x == 1) _ _ at (either P (drawn 0 4 x == 2) _ _ port frame)

byte_more : (b : ℕ) (bytes : List ℕ) → nat_lt b 256 ≡ true → IsBytes bytes → IsBytes (b ∷ bytes)
byte_more b bytes is are zero = grind (arith, common_steps, is)
byte_more b bytes is are (suc i) = are i

are_bytes : (bytes : List ℕ) → list_all (λ b. nat_lt b 256) bytes ≡ true → IsBytes bytes
are_bytes [] all = λ i. omega arith
are_bytes (b ∷ bytes) all = let parts = and_parts (nat_lt b 256) (list_all (λ c. nat_lt c 256) bytes) all in byte_more b bytes parts.0 (are_bytes bytes parts.1)

frame_is : (x : ℕ) → IsStimulus both (frame_drawn x)
frame_is x = (
  is_known (drawn 0 2 x) (number_less 2 _ (omega arith)),
  (omega (arith, number_less 4 (next (behind 1 x)) (omega arith)), (omega arith, omega arith, are_bytes broadcast refl)),
)

port_is : (x : ℕ) → IsStimulus both (port_drawn x)
port_is x = (
  is_known (drawn 0 2 x) (number_less 2 _ (omega arith)),
  (omega arith, omega (arith, number_less 4 (next (behind 1 x)) (omega arith))),
)

moment_is : (moment x : ℕ) → moment + 4 ≤ 4294967295 → IsStimulus both (moment_drawn moment x)
moment_is moment x soon = omega (arith, number_less 5 (next x) (omega arith), soon)

-- the moment behind what is drawn is at most four seconds later, and none that it names is earlier
record IsSoon (moment : ℕ) (x : WorldStim) : Type 0 where
  not_before : moment ≤ moment_after x moment
  soon : moment_after x moment ≤ moment + 4

drawn_soon : (moment x : ℕ) → IsSoon moment (happening_drawn moment x)
drawn_soon moment x =
    by_kind (IsSoon moment) moment x
    (record { not_before = omega arith; soon = omega (arith, number_less 5 (next (behind 1 x)) (omega arith)) })
    (record { not_before = omega arith; soon = omega arith })
    (record { not_before = omega arith; soon = omega arith })

happenings_are : (n moment x : ℕ) → moment + 4 * n ≤ 4294967295 → All (IsStimulus both) (happenings_drawn n moment x)
happenings_are zero moment x soon = All-nil (IsStimulus both)
happenings_are (suc n) moment x soon =
    let y = behind 17 x in
    let happening = happening_drawn moment y in
    All-cons (IsStimulus both) happening (happenings_drawn n (moment_after happening moment) (behind_happening y))
    (by_kind (IsStimulus both) moment y (moment_is moment (behind 1 y) (omega (arith, soon))) (port_is (behind 1 y)) (frame_is (behind 1 y)))
    (happenings_are n (moment_after happening moment) (behind_happening y) (omega (arith, soon, (drawn_soon moment y).soon)))

length_happenings : (n moment x : ℕ) → length (happenings_drawn n moment x) ≡ n
length_happenings zero moment x = refl
length_happenings (suc n) moment x = ap suc (length_happenings n (moment_after (happening_drawn moment (behind 17 x)) moment) (behind_happening (behind 17 x)))

-- ---- Moments

-- what follows a stimulus that names no earlier moment
NotBefore : ℕ → List WorldStim → Type 0
NotBefore moment xs = All (λ (t : ℕ). moment ≤ t) (moments xs)

not_before_more : (moment : ℕ) (x : WorldStim) (xs : List WorldStim) → moment ≤ moment_after x moment → NotBefore (moment_after x moment) xs → NotBefore moment (x ∷ xs)
unfolding NotBefore
not_before_more moment (Join d) xs later are = are
not_before_more moment (Leave d) xs later are = are
not_before_more moment (At t) xs later are = All-cons (λ (s : ℕ). moment ≤ s) t (moments xs) later (λ i d less. omega (arith, later, are i d less))
not_before_more moment (Of d what) xs later are = are

not_before : (n moment x : ℕ) → NotBefore moment (happenings_drawn n moment x)
unfolding NotBefore
not_before zero moment x = All-nil (λ (t : ℕ). moment ≤ t)
not_before (suc n) moment x =
    let happening = happening_drawn moment (behind 17 x) in
    let later = moment_after happening moment in
    not_before_more moment happening (happenings_drawn n later (behind_happening (behind 17 x))) (drawn_soon moment (behind 17 x)).not_before (not_before n later (behind_happening (behind 17 x)))

Rises : List WorldStim → Type 0
Rises xs = AllPairs (λ (moment later : ℕ). moment ≤ later) (moments xs)

rises_more : (moment : ℕ) (x : WorldStim) (xs : List WorldStim) → NotBefore (moment_after x moment) xs → Rises xs → Rises (x ∷ xs)
unfolding NotBefore Rises
rises_more moment (Join d) xs later are = are
rises_more moment (Leave d) xs later are = are
rises_more moment (At t) xs later are = AllPairs-cons (λ (m n : ℕ). m ≤ n) t (moments xs) later are
rises_more moment (Of d what) xs later are = are

rises : (n moment x : ℕ) → Rises (happenings_drawn n moment x)
unfolding Rises
rises zero moment x = λ i j d before within. absurd (omega (arith, within))
rises (suc n) moment x =
    let happening = happening_drawn moment (behind 17 x) in
    let later = moment_after happening moment in
    rises_more moment happening (happenings_drawn n later (behind_happening (behind 17 x))) (not_before n later (behind_happening (behind 17 x))) (rises n later (behind_happening (behind 17 x)))

-- ---- The session

pub drawn_is_sound : (start count : ℕ) → count ≤ 100000 → IsSession (session_drawn start count)
unfolding session_drawn Rises
drawn_is_sound start count few = record {
  switches = All-cons IsSwitch (switch_numbered 1) (switch_numbered 2 ∷ []) (is_switch 1 (omega arith) (omega arith)) (All-cons IsSwitch (switch_numbered 2) [] (is_switch 2 (omega arith) (omega arith)) (All-nil IsSwitch));
  few_switches = omega arith;
  different = AllPairs-cons (λ (d later : ℕ × ℕ × List ℕ). d.0 ≢ later.0) (switch_numbered 1) (switch_numbered 2 ∷ [])
      (All-cons (λ (later : ℕ × ℕ × List ℕ). 1 ≢ later.0) (switch_numbered 2) [] (λ same. absurd cc) (All-nil (λ (later : ℕ × ℕ × List ℕ). 1 ≢ later.0)))
      (AllPairs-cons (λ (d later : ℕ × ℕ × List ℕ). d.0 ≢ later.0) (switch_numbered 2) [] (All-nil (λ (later : ℕ × ℕ × List ℕ). 2 ≢ later.0)) (λ i j d before within. absurd (omega (arith, within))));
  faults = All-nil (IsFault both);
  replies = All-cons (λ (r : ℕ × List ScriptStep). 1 ≤ length r.1) (0, plain_end ∷ []) ((0, plain_end ∷ []) ∷ map (λ turn. (0, turn)) (turns_drawn count start)) (omega arith)
      (All-cons (λ (r : ℕ × List ScriptStep). 1 ≤ length r.1) (0, plain_end ∷ []) (map (λ turn. (0, turn)) (turns_drawn count start)) (omega arith) (turns_have_steps count start));
  stimuli = All-cons (IsStimulus both) (Join 1) (Join 2 ∷ happenings_drawn count 0 start) refl (All-cons (IsStimulus both) (Join 2) (happenings_drawn count 0 start) refl (happenings_are count 0 start (omega (arith, few))));
  few_stimuli = omega (arith, few, length_happenings count 0 start);
  moments_rise = rises count 0 start;
}

pub drawn_is_of_one : (start count : ℕ) → IsOf 1 (session_drawn start count)
unfolding session_drawn
drawn_is_of_one start count = record {
  starts = All-nil _;
  replies = All-cons (λ (r : ℕ × List ScriptStep). r.0 < 1) (0, plain_end ∷ []) ((0, plain_end ∷ []) ∷ map (λ turn. (0, turn)) (turns_drawn count start)) (omega arith)
      (All-cons (λ (r : ℕ × List ScriptStep). r.0 < 1) (0, plain_end ∷ []) (map (λ turn. (0, turn)) (turns_drawn count start)) (omega arith) (turns_are_of_one count start));
}
