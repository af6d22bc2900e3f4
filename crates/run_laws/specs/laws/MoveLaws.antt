-- Laws of parts of runs: one behind another is a part, and so is one that does nothing.
use Rattle.std.proofs.Common.{◌≡◌, ℕ, ◌+◌, ◌≤◌, Bool, List, [], ◌∷◌, ◌++◌, refl, sym, ap, ap₂, ◌∙◌, subst, arith}
use Rattle.std.proofs.lemmas.List.{append-nil, append_assoc}
use Rattle.of_types.specs.declared.journal.WorldStim.{WorldStim}
use Rattle.lego_model.specs.Journal.{Reply, Start}
use Rattle.flow_table.specs.View.{TableView}
use Rattle.crash_policy.specs.Policies.{AppValue}
use Rattle.lego_model.specs.Places.{Place}
use Rattle.lego_model.specs.Controller.{App, Run}
use Rattle.lego_model.specs.Losses.{TurnLosses, Losses}
use Rattle.lego_model.specs.laws.ScriptedLaws.{fronts-parts, start_fronts-parts, drop-parts}
use Rattle.outside.specs.Seen.{Seen, Continues}
use Rattle.outside.specs.laws.StateLaws.{Conforming-before}
use Rattle.lego_model.specs.History.{starts_in, replies_in, own_acts, given_in, stimuli_in}
use Rattle.run_laws.specs.Engine.{Application, Engine, Stands, ahead, app_with, apps_from, rules_of, told_none, told_then, behind, left_behind, both_told}
use Rattle.lego_model.specs.Application.{names}
use Rattle.lego_model.specs.ReferenceRun.{Said, text_of, AreFrontsOf}
use Rattle.run_laws.specs.Moves.{AtRest, Moves, Moved, Shown}

-- those of one part, and then those of the next
pub ahead-then : (bs cs : List Bool) (ts us : List TurnLosses) (later : Losses) → ahead (bs ++ cs) (ts ++ us) later ≡ ahead bs ts (ahead cs us later)
ahead-then bs cs ts us later =
    ap₂ (λ (b : List Bool) (t : List TurnLosses). record { batches = b; turns = t; last = later.last }) (append_assoc bs cs later.batches) (append_assoc ts us later.turns)

-- a list that grew twice
pub longer : {A : Type 0} (p q r x y : List A) → q ≡ p ++ x → r ≡ q ++ y → r ≡ p ++ (x ++ y)
longer {A} p q r x y h k = k ∙ ap (λ (l : List A). l ++ y) h ∙ append_assoc p x y

-- ---- What is told of the applications, index by index

-- the applications from an index on, with what was given and is said from there on
pub apps-ext : {Own : Type 0} (i : ℕ) (seen now_seen : Seen Own) (apps : List Application) (said now_said : ℕ → Said)
    → ((j : ℕ) → i ≤ j → (given_in j now_seen ≡ given_in j seen) × (said j ≡ now_said j)) → apps_from i seen apps said ≡ apps_from i now_seen apps now_said
apps-ext i seen now_seen [] said now_said same = refl
apps-ext {Own} i seen now_seen (a ∷ more) said now_said same =
    let here = same i (omega arith) in
    let later = apps-ext (i + 1) seen now_seen more said now_said (λ j le. same j (omega (arith, le))) in
    ap₂ (λ (first : App) (others : List App). first ∷ others) (ap₂ (app_with a) (sym here.0) here.1) later

-- the same applications with other words for what is said of them
pub stands-ext : {Own : Type 0} (seen : Seen Own) (e : Engine) (said now_said : ℕ → Said) (losses : Losses) (r : Run) → ((i : ℕ) → said i ≡ now_said i) → Stands seen e said losses r → Stands seen e now_said losses r
stands-ext seen e said now_said losses r same s = record {
  calm = s.calm;
  moment = s.moment;
  places = s.places;
  queue = s.queue;
  events = s.events;
  apps = s.apps ∙ apps-ext 0 seen seen e.apps said now_said (λ j le. (refl, same j));
  released = s.released;
  lost = s.lost;
  losses_is = s.losses_is;
  marks = s.marks;
}

left-parts : (first second said : Said) → left_behind (both_told first second) said ≡ left_behind second (left_behind first said)
left-parts first second said =
    ap₂ (λ (ss : List Start) (rs : List Reply). record { starts = ss; replies = rs }) (drop-parts first.starts second.starts said.starts) (drop-parts first.replies second.replies said.replies)

-- what is left behind two parts
pub behind-then : (first second said : ℕ → Said) (i : ℕ) → behind (told_then first second) said i ≡ behind second (behind first said) i
behind-then first second said i = left-parts (first i) (second i) (said i)

-- and behind nothing
pub behind-none : (said : ℕ → Said) (i : ℕ) → behind told_none said i ≡ said i
behind-none said i = refl

-- the fronts of what is said over two parts, are those over each
pub fronts-then : (first second said : ℕ → Said) → AreFrontsOf (told_then first second) said → AreFrontsOf first said × AreFrontsOf second (behind first said)
fronts-then first second said are = (
  λ i. ((start_fronts-parts (first i).starts (second i).starts (said i).starts (are i).0).0, (fronts-parts (first i).replies (second i).replies (said i).replies (are i).1).0),
  λ i. ((start_fronts-parts (first i).starts (second i).starts (said i).starts (are i).0).1, (fronts-parts (first i).replies (second i).replies (said i).replies (are i).1).1),
)

-- ---- Parts

pub moves-none : {Own : Type 0} (seen : Seen Own) (e : Engine) → Moves [] (λ r. r) [] seen seen e e
moves-none seen e = record {
  told = told_none;
  batches = [];
  turns = [];
  given = refl;
  rules = refl;
  read = λ i. record { starts = sym (append-nil (starts_in (own_acts i seen))); replies = sym (append-nil (replies_in (own_acts i seen))) };
  read_stimuli = sym (append-nil (stimuli_in seen));
  stands = λ said later r fronts s. stands-ext seen e said (behind told_none said) later r (λ i. sym (behind-none said i)) s;
  says = λ said later r fronts s. sym (append-nil (text_of (names (rules_of e)) r));
}

pub moves-then : {Own : Type 0} (xs ys : List WorldStim) (f g : Run → Run) (first second : List ℕ) (a b c : Seen Own) (e1 e2 e3 : Engine)
    → Moves xs f first a b e1 e2 → Moves ys g second b c e2 e3 → Moves (xs ++ ys) (λ r. g (f r)) (first ++ second) a c e1 e3
moves-then {Own} xs ys f g first second a b c e1 e2 e3 m n = record {
  told = told_then m.told n.told;
  batches = m.batches ++ n.batches;
  turns = m.turns ++ n.turns;
  given = n.given ∙ m.given;
  rules = n.rules ∙ m.rules;
  read = λ i. record {
    starts = longer (starts_in (own_acts i a)) (starts_in (own_acts i b)) (starts_in (own_acts i c)) (m.told i).starts (n.told i).starts (m.read i).starts (n.read i).starts;
    replies = longer (replies_in (own_acts i a)) (replies_in (own_acts i b)) (replies_in (own_acts i c)) (m.told i).replies (n.told i).replies (m.read i).replies (n.read i).replies;
  };
  read_stimuli = longer (stimuli_in a) (stimuli_in b) (stimuli_in c) xs ys m.read_stimuli n.read_stimuli;
  stands = λ said later r fronts s.
      let here = subst (λ (l : Losses). Stands a e1 said l r) (ahead-then m.batches n.batches m.turns n.turns later) s in
      let fs = fronts-then m.told n.told said fronts in
      stands-ext c e3 (behind n.told (behind m.told said)) (behind (told_then m.told n.told) said) later (g (f r)) (λ i. sym (behind-then m.told n.told said i))
      (n.stands (behind m.told said) later (f r) fs.1 (m.stands said (ahead n.batches n.turns later) r fs.0 here));
  says = λ said later r fronts s.
      let here = subst (λ (l : Losses). Stands a e1 said l r) (ahead-then m.batches n.batches m.turns n.turns later) s in
      let fs = fronts-then m.told n.told said fronts in
      subst (λ (rules : List AppValue). text_of (names rules) (g (f r)) ≡ text_of (names rules) (f r) ++ second) m.rules
      (n.says (behind m.told said) later (f r) fs.1 (m.stands said (ahead n.batches n.turns later) r fs.0 here))
      ∙ ap (λ (t : List ℕ). t ++ second) (m.says said (ahead n.batches n.turns later) r fs.0 here)
      ∙ append_assoc (text_of (names (rules_of e1)) r) first second;
}

-- another function that does the same wherever the two stand alike
pub moves-as : {Own : Type 0} (xs : List WorldStim) (f g : Run → Run) (text : List ℕ) (a b : Seen Own) (e1 e2 : Engine)
    → ((said : ℕ → Said) (l : Losses) (r : Run) → Stands a e1 said l r → f r ≡ g r) → Moves xs f text a b e1 e2 → Moves xs g text a b e1 e2
moves-as xs f g text a b e1 e2 same m = record {
  told = m.told;
  batches = m.batches;
  turns = m.turns;
  given = m.given;
  rules = m.rules;
  read = m.read;
  read_stimuli = m.read_stimuli;
  stands = λ said later r fronts s. subst (Stands b e2 (behind m.told said) later) (same said (ahead m.batches m.turns later) r s) (m.stands said later r fronts s);
  says = λ said later r fronts s. subst (λ (q : Run). text_of (names (rules_of e1)) q ≡ text_of (names (rules_of e1)) r ++ text) (same said (ahead m.batches m.turns later) r s) (m.says said later r fronts s);
}

pub moved-none : {Own : Type 0} (seen : Seen Own) (e : Engine) → AtRest seen e → Moved [] (λ r. r) [] seen seen e e
moved-none seen e settled = record { moves = moves-none seen e; settled = settled }

pub moved-then : {Own : Type 0} (xs ys : List WorldStim) (f g : Run → Run) (first second : List ℕ) (a b c : Seen Own) (e1 e2 e3 : Engine)
    → Moved xs f first a b e1 e2 → Moved ys g second b c e2 e3 → Moved (xs ++ ys) (λ r. g (f r)) (first ++ second) a c e1 e3
moved-then xs ys f g first second a b c e1 e2 e3 m n = record {
  moves = moves-then xs ys f g first second a b c e1 e2 e3 m.moves n.moves;
  settled = n.settled;
}

pub moved-as : {Own : Type 0} (xs : List WorldStim) (f g : Run → Run) (text : List ℕ) (a b : Seen Own) (e1 e2 : Engine)
    → ((said : ℕ → Said) (l : Losses) (r : Run) → Stands a e1 said l r → f r ≡ g r) → Moved xs f text a b e1 e2 → Moved xs g text a b e1 e2
moved-as xs f g text a b e1 e2 same m = record { moves = moves-as xs f g text a b e1 e2 same m.moves; settled = m.settled }

-- the same part with its stimuli written in another way
pub moved-so : {Own : Type 0} (xs ys : List WorldStim) (f : Run → Run) (text : List ℕ) (a b : Seen Own) (e1 e2 : Engine) → xs ≡ ys → Moved xs f text a b e1 e2 → Moved ys f text a b e1 e2
moved-so xs ys f text a b e1 e2 same m = record {
  moves = record {
    told = m.moves.told;
    batches = m.moves.batches;
    turns = m.moves.turns;
    given = m.moves.given;
    rules = m.moves.rules;
    read = m.moves.read;
    read_stimuli = m.moves.read_stimuli ∙ ap (λ (zs : List WorldStim). stimuli_in a ++ zs) same;
    stands = m.moves.stands;
    says = m.moves.says;
  };
  settled = m.settled;
}

-- ---- The losses of such parts

pub moved-then-losses : {Own : Type 0} (xs ys : List WorldStim) (f g : Run → Run) (first second : List ℕ) (a b c : Seen Own) (e1 e2 e3 : Engine) (m : Moved xs f first a b e1 e2) (n : Moved ys g second b c e2 e3) (later : Losses)
    → ahead (moved-then xs ys f g first second a b c e1 e2 e3 m n).moves.batches (moved-then xs ys f g first second a b c e1 e2 e3 m n).moves.turns later ≡ ahead (m.moves.batches ++ n.moves.batches) (m.moves.turns ++ n.moves.turns) later
unfolding moved-then moves-then
moved-then-losses xs ys f g first second a b c e1 e2 e3 m n later = refl

pub moved-as-losses : {Own : Type 0} (xs : List WorldStim) (f g : Run → Run) (text : List ℕ) (a b : Seen Own) (e1 e2 : Engine) (same : (said : ℕ → Said) (l : Losses) (r : Run) → Stands a e1 said l r → f r ≡ g r) (m : Moved xs f text a b e1 e2) (later : Losses)
    → ahead (moved-as xs f g text a b e1 e2 same m).moves.batches (moved-as xs f g text a b e1 e2 same m).moves.turns later ≡ ahead m.moves.batches m.moves.turns later
unfolding moved-as moves-as
moved-as-losses xs f g text a b e1 e2 same m later = refl

pub moved-so-losses : {Own : Type 0} (xs ys : List WorldStim) (f : Run → Run) (text : List ℕ) (a b : Seen Own) (e1 e2 : Engine) (same : xs ≡ ys) (m : Moved xs f text a b e1 e2) (later : Losses)
    → ahead (moved-so xs ys f text a b e1 e2 same m).moves.batches (moved-so xs ys f text a b e1 e2 same m).moves.turns later ≡ ahead m.moves.batches m.moves.turns later
unfolding moved-so
moved-so-losses xs ys f text a b e1 e2 same m later = refl

-- ---- In a world that keeps its word

pub shown-none : {Own : Type 0} (Tells : Type 0) (accepts : List TableView → Bool) (seen : Seen Own) (e : Engine) → Shown Tells accepts [] (λ allows r. r) [] seen seen e e
shown-none Tells accepts seen e = record { moved = λ allows told keeps judges settled. moved-none seen e settled }

pub shown-then : {Own : Type 0} (Tells : Type 0) (accepts : List TableView → Bool) (xs ys : List WorldStim) (f g : (List Place → Bool) → Run → Run) (first second : List ℕ) (a b c : Seen Own) (e1 e2 e3 : Engine)
    → Continues Tells b c → Shown Tells accepts xs f first a b e1 e2 → Shown Tells accepts ys g second b c e2 e3
    → Shown Tells accepts (xs ++ ys) (λ allows r. g allows (f allows r)) (first ++ second) a c e1 e3
shown-then Tells accepts xs ys f g first second a b c e1 e2 e3 later m n = record {
  moved = λ allows told keeps judges settled.
      let one = m.moved allows told (Conforming-before told later keeps) judges settled in
      moved-then xs ys (f allows) (g allows) first second a b c e1 e2 e3 one (n.moved allows told keeps judges one.settled);
}

pub shown-as : {Own : Type 0} (Tells : Type 0) (accepts : List TableView → Bool) (xs : List WorldStim) (f g : (List Place → Bool) → Run → Run) (text : List ℕ) (a b : Seen Own) (e1 e2 : Engine)
    → ((allows : List Place → Bool) (r : Run) → r.queue ≡ e1.queue → f allows r ≡ g allows r) → Shown Tells accepts xs f text a b e1 e2 → Shown Tells accepts xs g text a b e1 e2
shown-as Tells accepts xs f g text a b e1 e2 same m = record {
  moved = λ allows told keeps judges settled. moved-as xs (f allows) (g allows) text a b e1 e2 (λ said l r s. same allows r s.queue) (m.moved allows told keeps judges settled);
}
