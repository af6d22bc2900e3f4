-- Laws of what a simulated world is given: what one thing more makes of a world in which nothing happened yet, and that such a world
-- stands.
use Rattle.std.specs.Prelude.{◌≡◌, ◌==◌, ℕ, ◌+◌, ◌-◌, ◌<◌, ◌≤◌, Bool, true, false, ◌&&◌, ◌||◌, nat_lt, List, [], ◌∷◌, ◌++◌, map, take, All, Option, Some, None, length, IsTrue, OnOk, OnErr, Result, Ok, Err, refl, if◌then◌else◌, cond}
use Rattle.std.specs.List.{AllByRecursion, list_any, filter}
use Rattle.std.specs.Option.{is_some}
use Rattle.std.proofs.Common.{suc, sym, ap, ◌∙◌, subst, arith, length-append}
use Rattle.std.proofs.lemmas.Bool.{eqb-true, eqb-false, eq-eqb, ne_eqb, cond_both, ltb-true, ltb-false, true≢false, false≢true}
use Rattle.std.proofs.lemmas.List.{append-nil, map-append, length-map}
use Rattle.std.proofs.Math.Seq.{take-append_seam}
use Rattle.std.proofs.lemmas.List.Elements.{All-append, All-nil, All-cons, filter-append}
use Rattle.std.proofs.lemmas.List.Folds.{list_any-append}
use Rattle.std.proofs.Math.Bool.{or-false}
use Rattle.of_types.specs.declared.journal.WorldStim.{WorldStim}
use Rattle.of_types.specs.declared.journal.WorldStim.TheVariants.{Join, Leave, At, Of}
use Rattle.app_frames.specs.declared.script.ScriptStep.{ScriptStep}
use Rattle.app_frames.specs.declared.script.StartScript.{StartScript}
use Rattle.flow_table.specs.Switch.{Declared}
use Rattle.outside.specs.declared.call.FailCall.{FailCall}
use Rattle.outside.specs.Seen.{Given, is_declared}
use Rattle.outside.specs.State.{Link, State, at_first, state, but_marks, after_steps, is_link_call, fails_of, link_at_first, link_of, with_link, moment_after}
use Rattle.outside.specs.Conforming.{AreDeclaredFrom, MayDeclare, IsWorldStim}
use Rattle.outside.specs.declared.step.WorldStep.{WorldStep}
use Rattle.outside.specs.laws.LinkKeptLaws.{declared_in-with_link}
use Rattle.sim_world.specs.Links.{IsDue, fails_at, insert_link}
use Rattle.sim_world.specs.laws.LinksLaws.{is_declared-link_of}
use Rattle.sim_world.specs.laws.LinkStepLaws.{AreStanding}
use Rattle.sim_world.specs.Tally.{last_count, LinkCounts, TallyState, IsTally, CountsFor, counts_of, count_at, none_of, no_counts}
use Rattle.sim_world.specs.Told.{without_links}
use Rattle.sim_world.specs.laws.ToldLaws.{without_links-link, without_links-other}
use Rattle.sim_world.specs.Scripts.{Scripts, Life, fresh, life_through, KeepsScripts}
use Rattle.sim_world.specs.Lives.{ScriptedLives, life_in}
use Rattle.sim_world.specs.World.{WorldData, all_declared, given_of, seen_of, nexts_through, IsHistory, Stands, CanCome}
use Rattle.sim_world.specs.Keeping.{Keeps}
use Rattle.sim_world.specs.Building.{Begins, Gets, nothing_given, insert_declared, with_switch, with_stimulus, with_fail, with_start, with_reply, with_replies, with_stimuli, last_moment_from, last_moment_of, MayBeGiven, AreZero, IsNew}
use Rattle.of_types.specs.laws.ChoiceLaws.{and_second}

-- ---- One switch more

-- links that were inserted by number declare what was inserted by number
pub declared-insert_link : (l : Link) (ls : List Link) → map (λ x. x.declared) (insert_link l ls) ≡ insert_declared l.declared (map (λ x. x.declared) ls)
declared-insert_link l [] = refl
declared-insert_link l (m ∷ ms) = insert_at (nat_lt l.declared.dpid m.declared.dpid) (declared-insert_link l ms)
  where
    insert_at : (b : Bool) → map (λ (x : Link). x.declared) (insert_link l ms) ≡ insert_declared l.declared (map (λ (x : Link). x.declared) ms)
        → map (λ (x : Link). x.declared) (if b then l ∷ m ∷ ms else m ∷ insert_link l ms)
        ≡ (if b then l.declared ∷ m.declared ∷ map (λ (x : Link). x.declared) ms else m.declared ∷ insert_declared l.declared (map (λ (x : Link). x.declared) ms))
    insert_at true rest = refl
    insert_at false rest = ap (λ (ds : List Declared). m.declared ∷ ds) rest

-- links as they are at first, one inserted by number
pub links-insert_declared : (fails : List FailCall) (d : Declared) (ds : List Declared) → insert_link (link_at_first fails d) (map (link_at_first fails) ds) ≡ map (link_at_first fails) (insert_declared d ds)
links-insert_declared fails d [] = refl
links-insert_declared fails d (e ∷ es) = insert_at (nat_lt d.dpid e.dpid) (links-insert_declared fails d es)
  where
    insert_at : (b : Bool) → insert_link (link_at_first fails d) (map (link_at_first fails) es) ≡ map (link_at_first fails) (insert_declared d es)
        → (if b then link_at_first fails d ∷ link_at_first fails e ∷ map (link_at_first fails) es else link_at_first fails e ∷ insert_link (link_at_first fails d) (map (link_at_first fails) es))
        ≡ map (link_at_first fails) (if b then d ∷ e ∷ es else e ∷ insert_declared d es)
    insert_at true rest = refl
    insert_at false rest = ap (λ (ls : List Link). link_at_first fails e ∷ ls) rest

-- who is declared with one more, and how many
pub is_declared-insert : (n : ℕ) (d : Declared) (ds : List Declared) → is_declared n (insert_declared d ds) ≡ (is_declared n ds || d.dpid == n)
is_declared-insert n d [] = or-false (d.dpid == n)
is_declared-insert n d (e ∷ es) = insert_at (nat_lt d.dpid e.dpid) (is_declared-insert n d es)
  where
    turned : (a b : Bool) → (a || b) ≡ (b || a)
    turned true true = refl
    turned true false = refl
    turned false true = refl
    turned false false = refl

    further : (a b c : Bool) → (a || (b || c)) ≡ ((a || b) || c)
    further true b c = refl
    further false b c = refl

    insert_at : (b : Bool) → is_declared n (insert_declared d es) ≡ (is_declared n es || d.dpid == n)
        → is_declared n (if b then d ∷ e ∷ es else e ∷ insert_declared d es) ≡ ((e.dpid == n || is_declared n es) || d.dpid == n)
    insert_at true rest = turned (d.dpid == n) (e.dpid == n || is_declared n es)
    insert_at false rest = ap (λ (b : Bool). e.dpid == n || b) rest ∙ further (e.dpid == n) (is_declared n es) (d.dpid == n)

pub length-insert_declared : (d : Declared) (ds : List Declared) → length (insert_declared d ds) ≡ length ds + 1
length-insert_declared d [] = refl
length-insert_declared d (e ∷ es) =
    cond_both (nat_lt d.dpid e.dpid) (d ∷ e ∷ es) (e ∷ insert_declared d es) (λ (xs : List Declared). length xs ≡ suc (length es) + 1)
    (λ _. omega arith) (λ _. omega (arith, length-insert_declared d es))

AreDeclaredFrom-insert : (least : ℕ) (d : Declared) (ds : List Declared) → least ≤ d.dpid → d.cap ≤ 4096 → is_declared d.dpid ds ≡ false → AreDeclaredFrom least ds → AreDeclaredFrom least (insert_declared d ds)
AreDeclaredFrom-insert least d [] from small absent are = (from, small, tt)
AreDeclaredFrom-insert least d (e ∷ es) from small absent are =
    cond_both (nat_lt d.dpid e.dpid) (d ∷ e ∷ es) (e ∷ insert_declared d es) (λ (ds : List Declared). AreDeclaredFrom least ds)
    (λ less. (from, small, (omega (arith, ltb-true d.dpid e.dpid less), are.1, are.2)))
    (λ not_less. (are.0, are.1, AreDeclaredFrom-insert (e.dpid + 1) d es (omega (arith, ltb-false d.dpid e.dpid not_less, eqb-false e.dpid d.dpid (apart_of (e.dpid == d.dpid) absent))) small (rest_of (e.dpid == d.dpid) absent) are.2))
  where
    apart_of : (b : Bool) → (b || is_declared d.dpid es) ≡ false → b ≡ false
    apart_of true absent = absurd (true≢false absent)
    apart_of false absent = refl

    rest_of : (b : Bool) → (b || is_declared d.dpid es) ≡ false → is_declared d.dpid es ≡ false
    rest_of true absent = absurd (true≢false absent)
    rest_of false absent = absent

MayDeclare-insert : (d : Declared) (ds : List Declared) → MayDeclare d → AllByRecursion MayDeclare ds → AllByRecursion MayDeclare (insert_declared d ds)
MayDeclare-insert d [] may are = (may, tt)
MayDeclare-insert d (e ∷ es) may are =
    cond_both (nat_lt d.dpid e.dpid) (d ∷ e ∷ es) (e ∷ insert_declared d es) (AllByRecursion MayDeclare)
    (λ _. (may, are)) (λ _. (are.0, MayDeclare-insert d es may are.1))

-- a stimulus of a switch that is declared stays one
or_true : (a b : Bool) → IsTrue a → IsTrue (a || b)
or_true true b is = is
or_true false b is = absurd (false≢true is)

declared_still : (n : ℕ) (d : Declared) (ds : List Declared) → IsTrue (is_declared n ds) → IsTrue (is_declared n (insert_declared d ds))
declared_still n d ds is = rw (is_declared-insert n d ds) (or_true (is_declared n ds) (d.dpid == n) is)

IsWorldStim-insert : (d : Declared) (ds : List Declared) (moment : ℕ) (x : WorldStim) → IsWorldStim ds moment x → IsWorldStim (insert_declared d ds) moment x
unfolding IsWorldStim
IsWorldStim-insert d ds moment (Join n) is = declared_still n d ds is
IsWorldStim-insert d ds moment (Leave n) is = declared_still n d ds is
IsWorldStim-insert d ds moment (At t) is = is
IsWorldStim-insert d ds moment (Of n x) is = (declared_still n d ds is.0, is.1)

CanCome-insert : (d : Declared) (ds : List Declared) (moment : ℕ) (xs : List WorldStim) → CanCome ds moment xs → CanCome (insert_declared d ds) moment xs
CanCome-insert d ds moment [] can = tt
CanCome-insert d ds moment (x ∷ xs) can = (IsWorldStim-insert d ds moment x can.0, CanCome-insert d ds (moment_after x moment) xs can.1)

CanCome-more : (ds : List Declared) (moment : ℕ) (xs : List WorldStim) (x : WorldStim) → CanCome ds moment xs → IsWorldStim ds (last_moment_from moment xs) x → CanCome ds moment (xs ++ x ∷ [])
CanCome-more ds moment [] x can is = (is, tt)
CanCome-more ds moment (y ∷ ys) x can is = (can.0, CanCome-more ds (moment_after y moment) ys x can.1 is)

-- ---- What may be given, with one thing more

pub MayBeGiven-nothing : MayBeGiven nothing_given
MayBeGiven-nothing = record { declared = tt; switches = tt; stimuli = tt }

pub MayBeGiven-switch : (given : Given Scripts) (d : Declared) → MayBeGiven given → 1 ≤ d.dpid → d.cap ≤ 4096 → MayDeclare d → is_declared d.dpid given.declared ≡ false → MayBeGiven (with_switch d given)
MayBeGiven-switch given d may from small one absent = record {
  declared = AreDeclaredFrom-insert 1 d given.declared from small absent may.declared;
  switches = MayDeclare-insert d given.declared one may.switches;
  stimuli = CanCome-insert d given.declared 0 given.stimuli may.stimuli;
}

pub MayBeGiven-stimulus : (given : Given Scripts) (x : WorldStim) → MayBeGiven given → IsWorldStim given.declared (last_moment_of given.stimuli) x → MayBeGiven (with_stimulus x given)
MayBeGiven-stimulus given x may is = record { declared = may.declared; switches = may.switches; stimuli = CanCome-more given.declared 0 given.stimuli x may.stimuli is }

pub MayBeGiven-fail : (given : Given Scripts) (f : FailCall) → MayBeGiven given → MayBeGiven (with_fail f given)
MayBeGiven-fail given f may = record { declared = may.declared; switches = may.switches; stimuli = may.stimuli }

pub MayBeGiven-start : (given : Given Scripts) (app : ℕ) (s : StartScript) → MayBeGiven given → MayBeGiven (with_start app s given)
MayBeGiven-start given app s may = record { declared = may.declared; switches = may.switches; stimuli = may.stimuli }

pub MayBeGiven-reply : (given : Given Scripts) (app : ℕ) (reply : List ScriptStep) → MayBeGiven given → MayBeGiven (with_reply app reply given)
MayBeGiven-reply given app reply may = record { declared = may.declared; switches = may.switches; stimuli = may.stimuli }

-- ---- One call more that is to fail

-- it is a call of the link of a switch
abbrev pub is_of : ℕ → FailCall → Bool
is_of d f = is_link_call f.kind && f.of == d

pub fails_of-append : (d : ℕ) (xs ys : List FailCall) → fails_of d (xs ++ ys) ≡ fails_of d xs ++ fails_of d ys
fails_of-append d xs ys =
    ap (λ (fs : List FailCall). map (λ (f : FailCall). f.number) fs) (filter-append (λ (f : FailCall). is_link_call f.kind && f.of == d) xs ys)
    ∙ map-append (λ (f : FailCall). f.number) (filter (λ (f : FailCall). is_link_call f.kind && f.of == d) xs) (filter (λ (f : FailCall). is_link_call f.kind && f.of == d) ys)

pub fails_of-one : (d : ℕ) (f : FailCall) → is_of d f ≡ true → fails_of d (f ∷ []) ≡ f.number ∷ []
fails_of-one d f is = ap (λ (b : Bool). map (λ (g : FailCall). g.number) (cond b (f ∷ []) [])) is

pub fails_of-none : (d : ℕ) (f : FailCall) → is_of d f ≡ false → fails_of d (f ∷ []) ≡ []
fails_of-none d f is = ap (λ (b : Bool). map (λ (g : FailCall). g.number) (cond b (f ∷ []) [])) is

fails_of-this : (d : ℕ) (fails : List FailCall) (f : FailCall) → is_of d f ≡ true → fails_of d (fails ++ f ∷ []) ≡ fails_of d fails ++ f.number ∷ []
fails_of-this d fails f is = fails_of-append d fails (f ∷ []) ∙ ap (λ (ns : List ℕ). fails_of d fails ++ ns) (fails_of-one d f is)

fails_of-other : (d : ℕ) (fails : List FailCall) (f : FailCall) → is_of d f ≡ false → fails_of d (fails ++ f ∷ []) ≡ fails_of d fails
fails_of-other d fails f is = fails_of-append d fails (f ∷ []) ∙ ap (λ (ns : List ℕ). fails_of d fails ++ ns) (fails_of-none d f is) ∙ append-nil (fails_of d fails)

-- a switch as it is at first, of whose link calls these are to fail
abbrev with_numbers : Declared → List ℕ → Link
with_numbers d ns = record { declared = d; switch = None; waits = []; fails = ns; calls = 0 }

both_same : (d : Declared) (ns ms : List ℕ) (ls ks : List Link) → ns ≡ ms → ls ≡ ks → with_numbers d ns ∷ ls ≡ with_numbers d ms ∷ ks
both_same d ns ms ls ks numbers rest = ap (λ (xs : List ℕ). with_numbers d xs ∷ ls) numbers ∙ ap (λ (xs : List Link). with_numbers d ms ∷ xs) rest

and_false : (a b : Bool) → a ≡ false → (a && b) ≡ false
and_false true b is = absurd (true≢false is)
and_false false b is = refl

both_true : (a b : Bool) → a ≡ true → b ≡ true → (a && b) ≡ true
both_true true b is other = other
both_true false b is other = absurd (false≢true is)

-- a call that is none of a link tells no switch
links-other : (fails : List FailCall) (f : FailCall) (ds : List Declared) → is_link_call f.kind ≡ false → map (link_at_first (fails ++ f ∷ [])) ds ≡ map (link_at_first fails) ds
links-other fails f [] apart = refl
links-other fails f (d ∷ ds) apart =
    both_same d (fails_of d.dpid (fails ++ f ∷ [])) (fails_of d.dpid fails) _ _
    (fails_of-other d.dpid fails f (and_false (is_link_call f.kind) (f.of == d.dpid) apart)) (links-other fails f ds apart)

-- nor does one of a lower number
links-higher : (fails : List FailCall) (f : FailCall) (least : ℕ) (ds : List Declared) → f.of < least → AreDeclaredFrom least ds → map (link_at_first (fails ++ f ∷ [])) ds ≡ map (link_at_first fails) ds
links-higher fails f least [] less are = refl
links-higher fails f least (d ∷ ds) less are =
    let apart : (f.of == d.dpid) ≡ false = ne_eqb f.of d.dpid (λ same. absurd (omega (arith, less, are.0, same))) in
    both_same d (fails_of d.dpid (fails ++ f ∷ [])) (fails_of d.dpid fails) _ _
    (fails_of-other d.dpid fails f (and_second (is_link_call f.kind) (f.of == d.dpid) apart)) (links-higher fails f (d.dpid + 1) ds (omega (arith, less, are.0)) are.2)

-- a call of a link tells its switch
links-fail : (fails : List FailCall) (f : FailCall) (least : ℕ) (ds : List Declared) → is_link_call f.kind ≡ true → AreDeclaredFrom least ds
    → with_link f.of (fails_at f.number) (map (link_at_first fails) ds) ≡ map (link_at_first (fails ++ f ∷ [])) ds
links-fail fails f least [] link are = refl
links-fail fails f least (d ∷ ds) link are =
    cond_both (d.dpid == f.of) (fails_at f.number (link_at_first fails d) ∷ map (link_at_first fails) ds) (link_at_first fails d ∷ with_link f.of (fails_at f.number) (map (link_at_first fails) ds))
    (λ (ls : List Link). ls ≡ map (link_at_first (fails ++ f ∷ [])) (d ∷ ds))
    (λ here.
    let same : d.dpid ≡ f.of = eqb-true d.dpid f.of here in
    both_same d (fails_of d.dpid fails ++ f.number ∷ []) (fails_of d.dpid (fails ++ f ∷ [])) _ _
    (sym (fails_of-this d.dpid fails f (both_true (is_link_call f.kind) (f.of == d.dpid) link (eq-eqb f.of d.dpid (sym same)))))
    (sym (links-higher fails f (d.dpid + 1) ds (omega (arith, same)) are.2)))
    (λ there.
    let apart : (f.of == d.dpid) ≡ false = ne_eqb f.of d.dpid (λ same. eqb-false d.dpid f.of there (sym same)) in
    both_same d (fails_of d.dpid fails) (fails_of d.dpid (fails ++ f ∷ [])) _ _
    (sym (fails_of-other d.dpid fails f (and_second (is_link_call f.kind) (f.of == d.dpid) apart)))
    (links-fail fails f (d.dpid + 1) ds link are.2))

-- ---- Counts, with one switch more

count-more : (count : LinkCounts → ℕ) (other n : ℕ) (ls : List LinkCounts) (x : LinkCounts) → count x ≡ 0 → count_at count other n ls ≡ 0 → count_at count other n (ls ++ x ∷ []) ≡ 0
count-more count other n [] x none zero = cond_both (x.dpid == n) (count x) other (λ (m : ℕ). m ≡ 0) (λ _. none) (λ _. zero)
count-more count other n (l ∷ ls) x none zero = first (l.dpid == n) zero (count-more count other n ls x none)
  where
    first : (b : Bool) → (if b then count l else count_at count other n ls) ≡ 0 → (count_at count other n ls ≡ 0 → count_at count other n (ls ++ x ∷ []) ≡ 0)
        → (if b then count l else count_at count other n (ls ++ x ∷ [])) ≡ 0
    first true zero rest = zero
    first false zero rest = rest zero

-- the counts of one switch more
abbrev pub counting_also : ℕ → TallyState → TallyState
counting_also d t = record t { links = t.links ++ none_of d ∷ [] }

AreZero-switch : (t : TallyState) (d : ℕ) → AreZero (counts_of t) → AreZero (counts_of (counting_also d t))
unfolding counts_of
AreZero-switch t d are = record {
  shuts = are.shuts;
  next_faults = are.next_faults;
  starts_failed = are.starts_failed;
  closings = are.closings;
  silences = are.silences;
  link_faults = λ n. count-more (λ l. l.faults) t.strays n t.links (none_of d) refl (are.link_faults n);
  shorts = are.shorts;
  shorts_of = λ n. count-more (λ l. l.shorts) t.shorts n t.links (none_of d) refl (are.shorts_of n);
  strays = are.strays;
}

IsTally-switch : (t : TallyState) (d : ℕ) → IsTally t → IsTally (counting_also d t)
IsTally-switch t d is = record {
  shuts = is.shuts;
  next_faults = is.next_faults;
  starts_failed = is.starts_failed;
  closings = is.closings;
  silences = is.silences;
  shorts = is.shorts;
  strays = is.strays;
  links =
      let Within = λ (l : LinkCounts). (l.faults ≤ last_count) × (l.shorts ≤ last_count) in
      All-append Within t.links (none_of d ∷ []) is.links (All-cons Within (none_of d) [] (omega arith, omega arith) (All-nil Within));
}

CountsFor-switch : (ds : List Declared) (t : TallyState) (d : Declared) → CountsFor ds t → CountsFor (insert_declared d ds) (counting_also d.dpid t)
CountsFor-switch ds t d for = record {
  switches = λ n.
      list_any-append (λ (l : LinkCounts). l.dpid == n) t.links (none_of d.dpid ∷ [])
      ∙ ap (λ (b : Bool). list_any (λ (l : LinkCounts). l.dpid == n) t.links || b) (or-false (d.dpid == n))
      ∙ ap (λ (b : Bool). b || d.dpid == n) (for.switches n)
      ∙ sym (is_declared-insert n d ds);
  within = IsTally-switch t d.dpid for.within;
}

-- without the last of them again
take_less : (xs : List LinkCounts) (x : LinkCounts) → take (length (xs ++ x ∷ []) - 1) (xs ++ x ∷ []) ≡ xs
take_less xs x =
    let few : length (xs ++ x ∷ []) - 1 ≡ length xs = omega (arith, length-append xs (x ∷ [])) in
    ap (λ (n : ℕ). take n (xs ++ x ∷ [])) few ∙ take-append_seam xs (x ∷ [])

pub counting-removed : (t mid : TallyState) (d : ℕ) → mid ≡ counting_also d t → record mid { links = take (length mid.links - 1) mid.links } ≡ t
counting-removed t mid d same =
    ap (λ (m : TallyState). record m { links = take (length m.links - 1) m.links }) same
    ∙ ap (λ (ls : List LinkCounts). record t { links = ls }) (take_less t.links (none_of d))

-- ---- A world that was given nothing

abbrev no_state : State
no_state = record { opened = false; running = []; moment = 0; to_come = []; links = []; due = []; begun = false; marks = [] }

first_of_none : at_first nothing_given ≡ no_state
unfolding at_first
first_of_none = refl

none_counted : AreZero (counts_of no_counts)
unfolding counts_of
none_counted = record {
  shuts = refl;
  next_faults = refl;
  starts_failed = refl;
  closings = refl;
  silences = refl;
  link_faults = λ d. refl;
  shorts = refl;
  shorts_of = λ d. refl;
  strays = refl;
}

counts_none : CountsFor [] no_counts
counts_none = record {
  switches = λ d. refl;
  within = record {
    shuts = omega arith;
    next_faults = omega arith;
    starts_failed = omega arith;
    closings = omega arith;
    silences = omega arith;
    shorts = omega arith;
    strays = omega arith;
    links = All-nil (λ (l : LinkCounts). (l.faults ≤ last_count) × (l.shorts ≤ last_count));
  };
}

-- all that it holds is empty
pub record HoldsNothing (w : WorldData) : Type 0 where
  pub scripts : w.scripts ≡ record { starts = []; replies = [] }
  pub stimuli : w.stimuli ≡ []
  pub fails : w.fails ≡ []
  pub told : w.told ≡ []
  pub history : w.history ≡ []
  pub nexts : w.nexts ≡ 0
  pub calls : w.calls ≡ 0
  pub tally : w.tally ≡ no_counts
  pub lives : w.lives ≡ []
  pub state : w.state ≡ record w.state { opened = false; moment = 0; begun = false; marks = [] }
  pub running : w.state.running ≡ []
  pub to_come : w.state.to_come ≡ []
  pub links : w.state.links ≡ []
  pub due : w.state.due ≡ []

state_of_none : (w : WorldData) → HoldsNothing w → w.state ≡ no_state
state_of_none w is = is.state ∙ rw (is.running, is.to_come, is.links, is.due) refl

pub given-nothing : (w : WorldData) → HoldsNothing w → given_of w ≡ nothing_given
unfolding given_of all_declared
given-nothing w is = rw (is.links, is.scripts, is.stimuli, is.fails) refl

pub IsNew-nothing : (w : WorldData) → HoldsNothing w → IsNew w
unfolding without_links all_declared
IsNew-nothing w is = record {
  history = is.history;
  nexts = is.nexts;
  calls = is.calls;
  lives = is.lives;
  told = is.told ∙ ap without_links (sym is.fails);
  state = state_of_none w is ∙ sym first_of_none ∙ ap at_first (sym (given-nothing w is));
  counts = rw is.tally none_counted;
  tally = rw (is.tally, is.links) counts_none;
}

-- ---- A world in which nothing happened yet is given one thing more

-- with counts and links put back it is as before
pub put_back : (w old : WorldData) (t : TallyState) (ls : List Link) → w ≡ old → t ≡ w.tally → ls ≡ w.state.links → record w { tally = t; state = record w.state { links = ls } } ≡ old
put_back w old t ls is tally links =
    ap (λ (u : TallyState). record w { tally = u; state = record w.state { links = ls } }) tally
    ∙ ap (λ (ks : List Link). record w { state = record w.state { links = ks } }) links
    ∙ is

-- what is declared is what is linked
none_linked : (o : Option Link) → is_some o ≡ false → o ≡ None
none_linked None is = refl
none_linked (Some l) is = absurd (true≢false is)

pub link-absent : (w : WorldData) (ls : List Link) (d : ℕ) → ls ≡ w.state.links → is_declared d (given_of w).declared ≡ false → link_of d ls ≡ None
unfolding given_of all_declared
link-absent w ls d same absent =
    ap (λ (ks : List Link). link_of d ks) same
    ∙ none_linked (link_of d w.state.links) (sym (is_declared-link_of d w.state.links) ∙ absent)

pub links-few : (w : WorldData) (ls : List Link) → ls ≡ w.state.links → length (given_of w).declared < 64 → length ls < 64
unfolding given_of all_declared
links-few w ls same few = omega (arith, few, length-map w.state.links (λ (l : Link). l.declared), ap (λ (ks : List Link). length ks) same)

pub Gets-same : (change : Given Scripts → Given Scripts) (old moved new : WorldData) → new ≡ moved → Gets change old moved → Gets change old new
Gets-same change old moved new same gets = subst (λ (w : WorldData). Gets change old w) (sym same) gets

-- a switch more, as data
abbrev pub switch_more : Declared → WorldData → WorldData
switch_more d w = record w { tally = counting_also d.dpid w.tally; state = record w.state { links = insert_link (link_at_first w.fails d) w.state.links } }

abbrev switch_state : (fails : List FailCall) (d : Declared) → State → State
switch_state fails d s = record s { links = insert_link (link_at_first fails d) s.links }

declared_more : (d : Declared) (w : WorldData) → all_declared (switch_more d w).state ≡ insert_declared d (all_declared w.state)
unfolding all_declared
declared_more d w = declared-insert_link (link_at_first w.fails d) w.state.links

switch_given : (d : Declared) (w : WorldData) → given_of (switch_more d w) ≡ with_switch d (given_of w)
unfolding given_of
switch_given d w = ap (λ (ds : List Declared). record { declared = ds; stimuli = w.stimuli; fails = w.fails; own = w.scripts; shows = true }) (declared_more d w)

first_more : (g : Given Scripts) (d : Declared) → switch_state g.fails d (at_first g) ≡ at_first (with_switch d g)
unfolding at_first
first_more g d = ap (λ (ls : List Link). record (at_first g) { links = ls }) (links-insert_declared g.fails d g.declared)

fails_given : (w : WorldData) → (given_of w).fails ≡ w.fails
unfolding given_of
fails_given w = refl

pub Gets-switch : (d : Declared) (w : WorldData) → IsNew w → Gets (with_switch d) w (switch_more d w)
Gets-switch d w is = record {
  still = record {
    history = is.history;
    nexts = is.nexts;
    calls = is.calls;
    lives = is.lives;
    told = is.told;
    state =
        ap (switch_state w.fails d) is.state
        ∙ ap (λ (fails : List FailCall). switch_state fails d (at_first (given_of w))) (sym (fails_given w))
        ∙ first_more (given_of w) d
        ∙ ap at_first (sym (switch_given d w));
    counts = AreZero-switch w.tally d.dpid is.counts;
    tally = rw (declared_more d w) (CountsFor-switch (all_declared w.state) w.tally d is.tally);
  };
  given = switch_given d w;
}

-- a stimulus more
abbrev pub stimulus_more : WorldStim → WorldData → WorldData
stimulus_more x w = record w { stimuli = w.stimuli ++ x ∷ []; state = record w.state { to_come = w.stimuli ++ x ∷ [] } }

pub Gets-stimulus : (x : WorldStim) (w : WorldData) → IsNew w → Gets (with_stimulus x) w (stimulus_more x w)
unfolding given_of all_declared at_first
Gets-stimulus x w is = record {
  still = record {
    history = is.history;
    nexts = is.nexts;
    calls = is.calls;
    lives = is.lives;
    told = is.told;
    state = ap (λ (s : State). record s { to_come = w.stimuli ++ x ∷ [] }) is.state;
    counts = is.counts;
    tally = is.tally;
  };
  given = refl;
}

-- all stimuli, where none was given
abbrev pub stimuli_all : List WorldStim → WorldData → WorldData
stimuli_all xs w = record w { stimuli = xs; state = record w.state { to_come = xs } }

pub Gets-stimuli : (xs : List WorldStim) (w : WorldData) → (given_of w).stimuli ≡ [] → IsNew w → Gets (with_stimuli xs) w (stimuli_all xs w)
unfolding given_of all_declared at_first
Gets-stimuli xs w none is = record {
  still = record {
    history = is.history;
    nexts = is.nexts;
    calls = is.calls;
    lives = is.lives;
    told = is.told;
    state = ap (λ (s : State). record s { to_come = xs }) is.state;
    counts = is.counts;
    tally = is.tally;
  };
  given = ap (λ (ys : List WorldStim). record (given_of w) { stimuli = ys ++ xs }) (sym none);
}

pub MayBeGiven-stimuli : (given : Given Scripts) (xs : List WorldStim) → MayBeGiven given → given.stimuli ≡ [] → CanCome given.declared 0 xs → MayBeGiven (with_stimuli xs given)
MayBeGiven-stimuli given xs may none can = record {
  declared = may.declared;
  switches = may.switches;
  stimuli = subst (λ (ys : List WorldStim). CanCome given.declared 0 (ys ++ xs)) (sym none) can;
}

-- a line more of the scripts
abbrev pub scripts_more : Scripts → WorldData → WorldData
scripts_more own w = record w { scripts = own }

pub Gets-scripts : (own : Scripts) (change : Given Scripts → Given Scripts) (w : WorldData) → record (given_of w) { own = own } ≡ change (given_of w) → IsNew w → Gets change w (scripts_more own w)
unfolding given_of all_declared at_first
Gets-scripts own change w changed is = record {
  still = record {
    history = is.history;
    nexts = is.nexts;
    calls = is.calls;
    lives = is.lives;
    told = is.told;
    state = is.state;
    counts = is.counts;
    tally = is.tally;
  };
  given = changed;
}

pub Gets-start : (app : ℕ) (s : StartScript) (w : WorldData) → IsNew w → Gets (with_start app s) w (scripts_more (record w.scripts { starts = w.scripts.starts ++ (app, s) ∷ [] }) w)
unfolding given_of
Gets-start app s w is = Gets-scripts (record w.scripts { starts = w.scripts.starts ++ (app, s) ∷ [] }) (with_start app s) w refl is

pub Gets-reply : (app : ℕ) (reply : List ScriptStep) (w : WorldData) → IsNew w → Gets (with_reply app reply) w (scripts_more (record w.scripts { replies = w.scripts.replies ++ (app, reply) ∷ [] }) w)
unfolding given_of
Gets-reply app reply w is = Gets-scripts (record w.scripts { replies = w.scripts.replies ++ (app, reply) ∷ [] }) (with_reply app reply) w refl is

-- all lines of turns, where none was given
pub Gets-replies : (replies : List (ℕ × List ScriptStep)) (w : WorldData) → (given_of w).own.replies ≡ [] → IsNew w → Gets (with_replies replies) w (scripts_more (record w.scripts { replies = replies }) w)
unfolding given_of
Gets-replies replies w none is =
    Gets-scripts (record w.scripts { replies = replies }) (with_replies replies) w
    (ap (λ (lines : List (ℕ × List ScriptStep)). record (given_of w) { own = record w.scripts { replies = lines ++ replies } }) (sym none)) is

pub MayBeGiven-replies : (given : Given Scripts) (replies : List (ℕ × List ScriptStep)) → MayBeGiven given → MayBeGiven (with_replies replies given)
MayBeGiven-replies given replies may = record { declared = may.declared; switches = may.switches; stimuli = may.stimuli }

-- with the lines and lives at hand put back it has one line more
pub put_lines : (w old : WorldData) (p : ScriptedLives) (change : Scripts → Scripts) → w ≡ old → p ≡ record { own = change w.scripts; lives = w.lives } → record w { scripts = p.own; lives = p.lives } ≡ scripts_more (change old.scripts) old
put_lines w old p change is played =
    ap (λ (q : ScriptedLives). record w { scripts = q.own; lives = q.lives }) played
    ∙ ap (λ (v : WorldData). scripts_more (change v.scripts) v) is

-- a call more that is to fail: one of a link, and another one
abbrev pub link_fail_more : FailCall → WorldData → WorldData
link_fail_more f w = record w { fails = w.fails ++ f ∷ []; state = record w.state { links = with_link f.of (fails_at f.number) w.state.links } }

abbrev pub other_fail_more : FailCall → WorldData → WorldData
other_fail_more f w = record w { fails = w.fails ++ f ∷ []; told = w.told ++ f ∷ [] }

abbrev fail_state : FailCall → State → State
fail_state f s = record s { links = with_link f.of (fails_at f.number) s.links }

fail_first : (g : Given Scripts) (f : FailCall) → is_link_call f.kind ≡ true → AreDeclaredFrom 1 g.declared → fail_state f (at_first g) ≡ at_first (with_fail f g)
unfolding at_first
fail_first g f link are = ap (λ (ls : List Link). record (at_first g) { links = ls }) (links-fail g.fails f 1 g.declared link are)

other_first : (g : Given Scripts) (f : FailCall) → is_link_call f.kind ≡ false → at_first g ≡ at_first (with_fail f g)
unfolding at_first
other_first g f apart = ap (λ (ls : List Link). record (at_first g) { links = ls }) (sym (links-other g.fails f g.declared apart))

fail_declared : (f : FailCall) (w : WorldData) → all_declared (link_fail_more f w).state ≡ all_declared w.state
unfolding all_declared
fail_declared f w = declared_in-with_link f.of (fails_at f.number) (λ l. refl) w.state.links

fail_given : (f : FailCall) (w : WorldData) → given_of (link_fail_more f w) ≡ with_fail f (given_of w)
unfolding given_of
fail_given f w = ap (λ (ds : List Declared). record { declared = ds; stimuli = w.stimuli; fails = w.fails ++ f ∷ []; own = w.scripts; shows = true }) (fail_declared f w)

pub Gets-link_fail : (f : FailCall) (w : WorldData) → is_link_call f.kind ≡ true → AreDeclaredFrom 1 (given_of w).declared → IsNew w → Gets (with_fail f) w (link_fail_more f w)
Gets-link_fail f w link are is = record {
  still = record {
    history = is.history;
    nexts = is.nexts;
    calls = is.calls;
    lives = is.lives;
    told = is.told ∙ sym (without_links-link w.fails f link);
    state = ap (fail_state f) is.state ∙ fail_first (given_of w) f link are ∙ ap at_first (sym (fail_given f w));
    counts = is.counts;
    tally = rw (fail_declared f w) is.tally;
  };
  given = fail_given f w;
}

pub Gets-other_fail : (f : FailCall) (w : WorldData) → is_link_call f.kind ≡ false → IsNew w → Gets (with_fail f) w (other_fail_more f w)
unfolding given_of
Gets-other_fail f w apart is = record {
  still = record {
    history = is.history;
    nexts = is.nexts;
    calls = is.calls;
    lives = is.lives;
    told = ap (λ (fs : List FailCall). fs ++ f ∷ []) is.told ∙ sym (without_links-other w.fails f apart);
    state = is.state ∙ other_first (given_of w) f apart;
    counts = is.counts;
    tally = is.tally;
  };
  given = refl;
}

-- ---- A world in which nothing happened yet stands

first_kept : (g : Given Scripts) → but_marks (at_first g) ≡ at_first g
unfolding at_first
first_kept g = refl

nothing_done : (g : Given Scripts) → IsHistory g []
unfolding KeepsScripts
nothing_done g = record { word = tt; scripts = tt; told = tt }

first_moment : (g : Given Scripts) → (at_first g).moment ≡ 0
unfolding at_first
first_moment g = refl

first_running : (g : Given Scripts) → (at_first g).running ≡ []
unfolding at_first
first_running g = refl

-- what is still to come is all that was given
first_come : (g : Given Scripts) → CanCome g.declared (at_first g).moment (at_first g).to_come ≡ CanCome g.declared 0 g.stimuli
unfolding at_first
first_come g = refl

declared_given : (w : WorldData) → (given_of w).declared ≡ all_declared w.state
unfolding given_of
declared_given w = refl

come_now : (w : WorldData) → IsNew w → CanCome (all_declared w.state) w.state.moment w.state.to_come ≡ CanCome (given_of w).declared 0 (given_of w).stimuli
come_now w is =
    ap (λ (s : State). CanCome (all_declared w.state) s.moment s.to_come) is.state
    ∙ ap (λ (ds : List Declared). CanCome ds (at_first (given_of w)).moment (at_first (given_of w)).to_come) (sym (declared_given w))
    ∙ first_come (given_of w)

pub Stands-new : (w : WorldData) → IsNew w → MayBeGiven (given_of w) → Stands w
unfolding seen_of state
Stands-new w is may = record {
  declared = rw (← declared_given w) may.declared;
  switches = rw (← declared_given w) may.switches;
  state =
      ap (λ (h : List WorldStep). but_marks (after_steps h (at_first (given_of w)))) is.history
      ∙ first_kept (given_of w)
      ∙ sym is.state;
  lives = λ app.
      ap (λ (ls : List (ℕ × Life)). life_in app ls) is.lives
      ∙ ap (λ (h : List WorldStep). life_through w.scripts w.told app h fresh) (sym is.history);
  told = is.told;
  nexts = is.nexts ∙ sym (ap (λ (h : List WorldStep). nexts_through h 0) is.history);
  history = subst (λ (h : List WorldStep). IsHistory (given_of w) h) (sym is.history) (nothing_done (given_of w));
  room = omega (arith, ap (λ (s : State). length s.running) is.state, ap (λ (apps : List ℕ). length apps) (first_running (given_of w)));
  tally = is.tally;
  can_come = subst (λ (T : Type 0). T) (sym (come_now w is)) may.stimuli;
}

-- and what it was given may be given, where it stands
pub MayBeGiven-stands : (w : WorldData) → IsNew w → Stands w → MayBeGiven (given_of w)
MayBeGiven-stands w is stands = record {
  declared = rw (declared_given w) stands.declared;
  switches = rw (declared_given w) stands.switches;
  stimuli = subst (λ (T : Type 0). T) (come_now w is) stands.can_come;
}

-- ---- What else holds of it

first_standing : (fails : List FailCall) (moment most : ℕ) (ds : List Declared) → AreStanding moment most (map (link_at_first fails) ds)
first_standing fails moment most [] = tt
first_standing fails moment most (d ∷ ds) = (record { stands = tt; serials = tt; calls = omega arith }, first_standing fails moment most ds)

first_links : (g : Given Scripts) → (at_first g).links ≡ map (link_at_first g.fails) g.declared
unfolding at_first
first_links g = refl

-- no switch is joined, no call of a link was made, and nothing waits
pub AreStanding-new : (w : WorldData) → IsNew w → (moment most : ℕ) → AreStanding moment most w.state.links
AreStanding-new w is moment most =
    subst (AreStanding moment most) (sym (ap (λ (s : State). s.links) is.state ∙ first_links (given_of w))) (first_standing (given_of w).fails moment most (given_of w).declared)

first_due : (g : Given Scripts) → (at_first g).due ≡ []
unfolding at_first
first_due g = refl

-- no call was counted as out of place
none_strayed : (w : WorldData) → IsNew w → w.tally.strays ≡ 0
unfolding counts_of
none_strayed w is = is.counts.strays

-- a world in which nothing happened yet keeps what each world keeps
pub Keeps-new : (w : WorldData) → IsNew w → MayBeGiven (given_of w) → Keeps w
Keeps-new w is may = record {
  stands = Stands-new w is may;
  standing = AreStanding-new w is w.state.moment (length w.history);
  within = omega (arith, ap (λ (s : State). s.moment) is.state, first_moment (given_of w));
  due = subst (All IsDue) (sym (ap (λ (s : State). s.due) is.state ∙ first_due (given_of w))) (All-nil IsDue);
  places = λ are. omega (arith, none_strayed w is);
}

-- ---- Both ends of a call that gives one thing more

-- What holds of each world in which nothing happened and that was given what may be given, holds at both ends.
pub built : {T E : Type 0} (P : WorldData → Type 0) (r : Result T E) (change : Given Scripts → Given Scripts) (now old new : WorldData) → old ≡ now
    → ((w : WorldData) → IsNew w → MayBeGiven (given_of w) → P w) → P old → MayBeGiven (change (given_of now))
    → OnOk r (Gets change old new) → OnErr r (new ≡ old) → P new
built P (Ok x) change now old new same holds before may gets kept =
    holds new gets.still (subst MayBeGiven (ap (λ (w : WorldData). change (given_of w)) (sym same) ∙ sym gets.given) may)
built P (Err e) change now old new same holds before may gets kept = subst P (sym kept) before

-- the same where the call cannot fail
pub built_whole : (P : WorldData → Type 0) (change : Given Scripts → Given Scripts) (now old new : WorldData) → old ≡ now
    → ((w : WorldData) → IsNew w → MayBeGiven (given_of w) → P w) → MayBeGiven (change (given_of now)) → Gets change old new → P new
built_whole P change now old new same holds may gets =
    holds new gets.still (subst MayBeGiven (ap (λ (w : WorldData). change (given_of w)) (sym same) ∙ sym gets.given) may)

-- ---- What is seen

pub Begins-new : (w : WorldData) → IsNew w → Begins (given_of w) (seen_of w)
unfolding seen_of
Begins-new w is = record { all = refl; history = is.history; counts = is.counts }

pub Begins-given : (w : WorldData) (given : Given Scripts) → IsNew w → given_of w ≡ given → Begins given (seen_of w)
Begins-given w given is same = subst (λ (g : Given Scripts). Begins g (seen_of w)) same (Begins-new w is)

seen_given : (w : WorldData) → (seen_of w).given ≡ given_of w
unfolding seen_of
seen_given w = refl

-- where a call gave one thing more
pub begins : {T E : Type 0} (r : Result T E) (change : Given Scripts → Given Scripts) (now old new : WorldData) → old ≡ now → OnOk r (Gets change old new) → OnOk r (Begins (change (seen_of now).given) (seen_of new))
begins (Ok x) change now old new same gets =
    Begins-given new _ gets.still (gets.given ∙ ap (λ (w : WorldData). change (given_of w)) same ∙ ap change (sym (seen_given now)))
begins (Err e) change now old new same gets = tt
