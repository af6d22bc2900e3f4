-- Laws of an event that is offered to one application after the other: what the engine does is what the reference controller does, whether an
-- application is given it or passed over, and whether one stops it or not.
use Rattle.std.proofs.Common.{◌≡◌, ◌==◌, ℕ, suc, ◌+◌, ◌^◌, ◌<◌, ◌≤◌, Bool, true, false, List, [], ◌∷◌, ◌++◌, length, map, if◌then◌else◌, refl, sym, ap, ap₂, ◌∙◌, subst, inl, inr, arith, true≢false}
use Rattle.std.proofs.lemmas.Bool.{cases_Bool, eqb-true, eqb-false, eq-eqb, ne_eqb}
use Rattle.std.proofs.lemmas.List.{append-nil, append_assoc}
use Rattle.flow_table.specs.View.{TableView}
use Rattle.app_frames.specs.declared.frame.Event.{Event}
use Rattle.crash_policy.specs.Policies.{AppValue}
use Rattle.of_types.specs.declared.journal.Act.{Act}
use Rattle.lego_model.specs.Places.{Place}
use Rattle.lego_model.specs.Losses.{TurnLosses, Losses}
use Rattle.lego_model.specs.Scripted.{AreFronts, AreStartFronts}
use Rattle.lego_model.specs.Application.{names}
use Rattle.lego_model.specs.Controller.{App, Had, Run, had_at, given_to}
use Rattle.lego_model.specs.RunReport.{name_of}
use Rattle.lego_model.specs.ReferenceRun.{Said, AreFrontsOf}
use Rattle.lego_model.specs.History.{starts_in, replies_in, own_acts, given_in, stimuli_in}
use Rattle.outside.specs.Seen.{Seen, Continues}
use Rattle.outside.specs.laws.SeenLaws.{Continues-refl, Continues-trans}
use Rattle.outside.specs.laws.StateLaws.{Conforming-before}
use Rattle.outside.specs.Conforming.{Conforming}
use Rattle.switch_laws.specs.Orderly.{OrderlySince}
use Rattle.switch_laws.specs.laws.OrderlyLaws.{orderly-none, orderly-then}
use Rattle.batch_laws.specs.Calm.{Calm}
use Rattle.run_laws.specs.Engine.{Application, EachFrom, Focus, focus, app_with, apps_from, nothing, both_told, told_then, left_behind, behind, Shares, ahead}
use Rattle.run_laws.specs.Facts.{Between, is_taking, HasItsTurn, IsOffered, AreLeftOut, if_stopped, Offers}
use Rattle.run_laws.specs.LastReport.{lines_text}
use Rattle.run_laws.specs.LinkSteps.{Silent}
use Rattle.run_laws.specs.Moves.{TellsMore, IsAtRest}
use Rattle.run_laws.specs.Readings.{JudgesAlike}
use Rattle.run_laws.specs.EventMoves.{HadMoves}
use Rattle.run_laws.specs.laws.DialogueLaws.{takes_alive}
use Rattle.run_laws.specs.laws.HadLaws.{had_moves, event_continues, event_converses, event_orderly}
use Rattle.run_laws.specs.laws.MoveLaws.{apps-ext, behind-then, fronts-then, longer}
use Rattle.run_laws.specs.laws.OtherLaws.{calls-silent, silent-none, silent-then, silent-acts, silent-given, silent-rests}
use Rattle.run_laws.specs.laws.ReferenceLaws.{given_none, given_passed, given_stop, given_on}

-- ---- What is told of one application alone

abbrev pub told_at : ℕ → Said → ℕ → Said
told_at i told j = if j == i then told else nothing

pub told-here : (i : ℕ) (told : Said) → told_at i told i ≡ told
told-here i told = rw (eq-eqb i i refl) refl

pub told-other : (i j : ℕ) (told : Said) → (j ≡ i → ⊥) → told_at i told j ≡ nothing
told-other i j told other = rw (ne_eqb j i other) refl

-- the same acts tell nothing
pub tells-same : (before after : List Act) → after ≡ before → TellsMore nothing before after
tells-same before after same = record {
  starts = ap starts_in same ∙ sym (append-nil (starts_in before));
  replies = ap replies_in same ∙ sym (append-nil (replies_in before));
}

-- one behind the other
pub tells-then : (first second : Said) (a b c : List Act) → TellsMore first a b → TellsMore second b c → TellsMore (both_told first second) a c
tells-then first second a b c m n = record {
  starts = longer (starts_in a) (starts_in b) (starts_in c) first.starts second.starts m.starts n.starts;
  replies = longer (replies_in a) (replies_in b) (replies_in c) first.replies second.replies m.replies n.replies;
}

-- more is told of one, and nothing of the others
pub tells-at : {Own : Type 0} (i : ℕ) (told : Said) (old new : Seen Own) → TellsMore told (own_acts i old) (own_acts i new) → ((j : ℕ) → (j ≡ i → ⊥) → Silent j old new) → (j : ℕ) → TellsMore (told_at i told j) (own_acts j old) (own_acts j new)
tells-at i told old new here others j =
    elim (cases_Bool (j == i)) [
      | inl same ↦ subst (λ (k : ℕ). TellsMore (told_at i told k) (own_acts k old) (own_acts k new)) (sym (eqb-true j i same)) (subst (λ (t : Said). TellsMore t (own_acts i old) (own_acts i new)) (sym (told-here i told)) here)
      | inr other ↦ subst (λ (t : Said). TellsMore t (own_acts j old) (own_acts j new)) (sym (told-other i j told (eqb-false j i other))) (tells-same (own_acts j old) (own_acts j new) (silent-acts j old new (others j (eqb-false j i other))))
    ]

-- the fronts of what is said of it
pub fronts-here : (i : ℕ) (told : Said) (said : ℕ → Said) → AreFrontsOf (told_at i told) said → AreStartFronts told.starts (said i).starts × AreFronts told.replies (said i).replies
fronts-here i told said are = subst (λ (t : Said). AreStartFronts t.starts (said i).starts × AreFronts t.replies (said i).replies) (told-here i told) (are i)

-- what is left of what is said of the others
pub behind-other : (i j : ℕ) (told : Said) (said : ℕ → Said) → (j ≡ i → ⊥) → behind (told_at i told) said j ≡ said j
behind-other i j told said other = ap (λ (t : Said). left_behind t (said j)) (told-other i j told other)

pub behind-here : (i : ℕ) (told : Said) (said : ℕ → Said) → behind (told_at i told) said i ≡ left_behind told (said i)
behind-here i told said = ap (λ (t : Said). left_behind t (said i)) (told-here i told)

-- ---- Applications of which nothing is told

-- they stay at rest
pub each-silent : {Own : Type 0} (i : ℕ) (apps : List Application) (old new : Seen Own) → ((j : ℕ) → i ≤ j → Silent j old new) → EachFrom (IsAtRest old) i apps → EachFrom (IsAtRest new) i apps
each-silent i [] old new silent each = tt
each-silent i (a ∷ more) old new silent each = (silent-rests i a old new (silent i (omega arith)) each.0, each-silent (i + 1) more old new (λ j le. silent j (omega (arith, le))) each.1)

-- ---- Names

-- the names of the applications from an index on are among these
abbrev pub NamesFrom : ℕ → List (List ℕ) → List Application → Type 0
NamesFrom i known [] = Unit {0}
NamesFrom i known (a ∷ more) = (name_of i known ≡ a.rule.name) × NamesFrom (i + 1) known more

names-behind : (i : ℕ) (name : List ℕ) (known : List (List ℕ)) (apps : List Application) → NamesFrom i known apps → NamesFrom (suc i) (name ∷ known) apps
names-behind i name known [] are = tt
names-behind i name known (a ∷ more) are =
    let next : suc (i + 1) ≡ suc i + 1 = omega arith in
    (are.0, subst (λ (n : ℕ). NamesFrom n (name ∷ known) more) next (names-behind (i + 1) name known more are.1))

pub names-from : (apps : List Application) → NamesFrom 0 (names (map (λ a. a.rule) apps)) apps
names-from [] = tt
names-from (a ∷ more) = (refl, names-behind 0 a.rule.name (names (map (λ x. x.rule) more)) more (names-from more))

-- ---- What the reference controller does alike

-- what it comes to from a run of it on
pub record IsGivenAlike {Own : Type 0} (number i : ℕ) (apps now_apps : List Application) (text : List ℕ) (to : Between Own) (left : ℕ → Said) (later : Losses) (r : Run) (done : List App × Run) : Type 0 where
  pub apps_is : done.0 ≡ apps_from i to.seen now_apps left
  pub shares : Shares to.seen to.net to.queue number later done.1
  pub lines : (known : List (List ℕ)) → NamesFrom i known apps → lines_text known done.1.lines ≡ lines_text known r.lines ++ text

-- The event was offered to these applications: this is told of them, switches were lost in these turns, and the reference controller does the
-- same; of no other application anything is told.
pub record OfferMoves {Own : Type 0} (allows : List Place → Bool) (event : Event) (number i : ℕ) (apps now_apps : List Application) (text : List ℕ) (from to : Between Own) : Type 0 where
  pub told : ℕ → Said
  pub turns : List TurnLosses
  pub given : to.seen.given ≡ from.seen.given
  pub read : (j : ℕ) → TellsMore (told j) (own_acts j from.seen) (own_acts j to.seen)
  pub stims : stimuli_in to.seen ≡ stimuli_in from.seen
  pub rules : map (λ a. a.rule) now_apps ≡ map (λ a. a.rule) apps
  pub calm : Calm to.seen to.net
  pub still : (j : ℕ) → (i ≤ j → j < i + length apps → ⊥) → Silent j from.seen to.seen
  pub untold : (j : ℕ) → (i ≤ j → j < i + length apps → ⊥) → told j ≡ nothing
  pub each : EachFrom (IsAtRest to.seen) i now_apps
  pub orderly : (n : ℕ) → i + length apps ≤ n → OrderlySince n from.seen to.seen
  pub gives : (said : ℕ → Said) (later : Losses) (r : Run) → AreFrontsOf told said → Shares from.seen from.net from.queue number (ahead [] turns later) r
      → IsGivenAlike number i apps now_apps text to (behind told said) later r (given_to allows event i (apps_from i from.seen apps said) r)

-- ---- There is none

none-offered : {Own : Type 0} (allows : List Place → Bool) (event : Event) (number i : ℕ) (from : Between Own) → Calm from.seen from.net → OfferMoves allows event number i [] [] [] from from
none-offered allows event number i from calm = record {
  told = λ j. nothing;
  turns = [];
  given = refl;
  read = λ j. tells-same (own_acts j from.seen) (own_acts j from.seen) refl;
  stims = refl;
  rules = refl;
  calm = calm;
  still = λ j out. silent-none j from.seen from.seen refl;
  untold = λ j out. refl;
  each = tt;
  orderly = λ n le. orderly-none n from.seen;
  gives = λ said later r fronts s.
      subst (IsGivenAlike number i [] [] [] from (behind (λ j. nothing) said) later r) (sym (given_none allows event i r))
      (record { apps_is = refl; shares = s; lines = λ known are. sym (append-nil (lines_text known r.lines)) });
}

-- ---- One is passed over

module _ {Own : Type 0} (allows : List Place → Bool) (event : Event) (number i : ℕ) (a : Application) (more later_apps : List Application) (text : List ℕ) (from to : Between Own) (m : OfferMoves allows event number (i + 1) more later_apps text from to) where
  -- it stands before the others
  before_others : i + 1 ≤ i → i < i + 1 + length more → ⊥
  before_others le less = omega (arith, le)

  passed-gives : is_taking event a ≡ false → (said : ℕ → Said) (later : Losses) (r : Run) → AreFrontsOf m.told said → Shares from.seen from.net from.queue number (ahead [] m.turns later) r
      → IsGivenAlike number i (a ∷ more) (a ∷ later_apps) text to (behind m.told said) later r (given_to allows event i (apps_from i from.seen (a ∷ more) said) r)
  passed-gives passed said later r fronts s =
      let g = m.gives said later r fronts s in
      let silent = m.still i before_others in
      subst (IsGivenAlike number i (a ∷ more) (a ∷ later_apps) text to (behind m.told said) later r) (sym (given_passed allows event i (app_with a (given_in i from.seen) (said i)) (apps_from (i + 1) from.seen more said) r passed)) (record {
        apps_is = ap₂ (λ (x : App) (xs : List App). x ∷ xs)
            (ap₂ (λ (given : List (List ℕ)) (s : Said). app_with a given s) (sym (silent-given i from.seen to.seen silent)) (sym (ap (λ (t : Said). left_behind t (said i)) (m.untold i before_others)))) g.apps_is;
        shares = g.shares;
        lines = λ known are. g.lines known are.1;
      })

  passed-offered : is_taking event a ≡ false → IsAtRest from.seen i a → OfferMoves allows event number i (a ∷ more) (a ∷ later_apps) text from to
  passed-offered passed rests = record {
    told = m.told;
    turns = m.turns;
    given = m.given;
    read = m.read;
    stims = m.stims;
    rules = ap (λ (rules : List AppValue). a.rule ∷ rules) m.rules;
    calm = m.calm;
    still = λ j out. m.still j (λ le less. out (omega (arith, le)) (omega (arith, less)));
    untold = λ j out. m.untold j (λ le less. out (omega (arith, le)) (omega (arith, less)));
    each = (silent-rests i a from.seen to.seen (m.still i before_others) rests, m.each);
    orderly = λ n le. m.orderly n (omega (arith, le));
    gives = passed-gives passed;
  }

-- ---- One has its turns

abbrev had_by : (List Place → Bool) → Event → ℕ → App → Run → Had
had_by allows event i a r = had_at allows event i a r

abbrev told_by : {Own : Type 0} {does : App → Run → Had} {stops : Bool} {text : List ℕ} {old new : Seen Own} {e now_e : Focus} → HadMoves does stops text old new e now_e → Said
told_by t = record { starts = t.starts; replies = t.replies }

-- ---- and stops the event there

module _ {Own : Type 0} (allows : List Place → Bool) (event : Event) (number i : ℕ) (text : List ℕ) (from mid : Between Own) (a now_a : Application) (more : List Application) (takes : is_taking event a ≡ true)
    (t : HadMoves (had_by allows event i) true text from.seen mid.seen (focus i a from.net from.queue number) (focus i now_a mid.net mid.queue number)) (silent : (j : ℕ) → (j ≡ i → ⊥) → Silent j from.seen mid.seen) where
  stop-gives : (said : ℕ → Said) (later : Losses) (r : Run) → AreFrontsOf (told_at i (told_by t)) said → Shares from.seen from.net from.queue number (ahead [] t.turns later) r
      → IsGivenAlike number i (a ∷ more) (now_a ∷ more) text mid (behind (told_at i (told_by t)) said) later r (given_to allows event i (apps_from i from.seen (a ∷ more) said) r)
  stop-gives said later r fronts s =
      let here = fronts-here i (told_by t) said fronts in
      let x = app_with a (given_in i from.seen) (said i) in
      let h = had_at allows event i x r in
      let g = t.had (said i).starts (said i).replies later r here.0 here.1 s in
      subst (IsGivenAlike number i (a ∷ more) (now_a ∷ more) text mid (behind (told_at i (told_by t)) said) later r)
      (sym (given_stop allows event i x (apps_from (i + 1) from.seen more said) r takes h refl g.stops_is)) (record {
        apps_is = ap₂ (λ (x : App) (xs : List App). x ∷ xs) (g.app_is ∙ ap (λ (s : Said). app_with now_a (given_in i mid.seen) s) (sym (behind-here i (told_by t) said)))
            (apps-ext (i + 1) from.seen mid.seen more said (behind (told_at i (told_by t)) said)
            (λ j le. (silent-given j from.seen mid.seen (silent j (λ same. omega (arith, le, same))), sym (behind-other i j (told_by t) said (λ same. omega (arith, le, same))))));
        shares = g.shares;
        lines = λ known are. g.lines known (are.0 ∙ sym (ap (λ (rule : AppValue). rule.name) t.rule));
      })

  stop-offered : ((n : ℕ) → i < n → OrderlySince n from.seen mid.seen) → IsAtRest mid.seen i now_a → EachFrom (IsAtRest from.seen) (i + 1) more → OfferMoves allows event number i (a ∷ more) (now_a ∷ more) text from mid
  stop-offered orderly rests others = record {
    told = told_at i (told_by t);
    turns = t.turns;
    given = t.given;
    read = tells-at i (told_by t) from.seen mid.seen (record { starts = t.read_starts; replies = t.read_replies }) silent;
    stims = t.read_stimuli;
    rules = ap (λ (rule : AppValue). rule ∷ map (λ x. x.rule) more) t.rule;
    calm = t.calm;
    still = λ j out. silent j (λ same. out (omega (arith, same)) (omega (arith, same)));
    untold = λ j out. told-other i j (told_by t) (λ same. out (omega (arith, same)) (omega (arith, same)));
    each = (rests, each-silent (i + 1) more from.seen mid.seen (λ j le. silent j (λ same. omega (arith, le, same))) others);
    orderly = λ n le. orderly n (omega (arith, le));
    gives = stop-gives;
  }

-- ---- or lets it go on

-- losses in some turns, and then in others
ahead-parts : (first second : List TurnLosses) (later : Losses) → ahead [] (first ++ second) later ≡ ahead [] first (ahead [] second later)
ahead-parts first second later = ap (λ (turns : List TurnLosses). record { batches = later.batches; turns = turns; last = later.last }) (append_assoc first second later.turns)

module _ {Own : Type 0} (allows : List Place → Bool) (event : Event) (number i : ℕ) (text later_text : List ℕ) (from mid to : Between Own) (a now_a : Application) (more later_apps : List Application) (takes : is_taking event a ≡ true)
    (t : HadMoves (had_by allows event i) false text from.seen mid.seen (focus i a from.net from.queue number) (focus i now_a mid.net mid.queue number)) (silent : (j : ℕ) → (j ≡ i → ⊥) → Silent j from.seen mid.seen)
    (m : OfferMoves allows event number (i + 1) more later_apps later_text mid to) where
  first_still : i + 1 ≤ i → i < i + 1 + length more → ⊥
  first_still le less = omega (arith, le)

  -- what is left of what is said of the first, behind all
  left-first : (said : ℕ → Said) → behind (told_then (told_at i (told_by t)) m.told) said i ≡ left_behind (told_by t) (said i)
  left-first said =
      behind-then (told_at i (told_by t)) m.told said i
      ∙ ap (λ (x : Said). left_behind x (behind (told_at i (told_by t)) said i)) (m.untold i first_still)
      ∙ behind-here i (told_by t) said

  on-gives : (said : ℕ → Said) (later : Losses) (r : Run) → AreFrontsOf (told_then (told_at i (told_by t)) m.told) said → Shares from.seen from.net from.queue number (ahead [] (t.turns ++ m.turns) later) r
      → IsGivenAlike number i (a ∷ more) (now_a ∷ later_apps) (text ++ later_text) to (behind (told_then (told_at i (told_by t)) m.told) said) later r (given_to allows event i (apps_from i from.seen (a ∷ more) said) r)
  on-gives said later r fronts s =
      let first = told_at i (told_by t) in
      let parts = fronts-then first m.told said fronts in
      let here = fronts-here i (told_by t) said parts.0 in
      let x = app_with a (given_in i from.seen) (said i) in
      let h = had_at allows event i x r in
      let had = t.had (said i).starts (said i).replies (ahead [] m.turns later) r here.0 here.1 (subst (λ (l : Losses). Shares from.seen from.net from.queue number l r) (ahead-parts t.turns m.turns later) s) in
      let whole = behind (told_then first m.told) said in
      let others = apps_from (i + 1) from.seen more said in
      let others_are : apps_from (i + 1) mid.seen more (behind first said) ≡ others =
      sym (apps-ext (i + 1) from.seen mid.seen more said (behind first said)
      (λ j le. (silent-given j from.seen mid.seen (silent j (λ same. omega (arith, le, same))), sym (behind-other i j (told_by t) said (λ same. omega (arith, le, same)))))) in
      let g = subst (λ (xs : List App). IsGivenAlike number (i + 1) more later_apps later_text to (behind m.told (behind first said)) later h.run (given_to allows event (i + 1) xs h.run)) others_are
      (m.gives (behind first said) later h.run parts.1 had.shares) in
      subst (IsGivenAlike number i (a ∷ more) (now_a ∷ later_apps) (text ++ later_text) to whole later r)
      (sym (given_on allows event i x others r takes h refl had.stops_is)) (record {
        apps_is = ap₂ (λ (x : App) (xs : List App). x ∷ xs)
            (had.app_is ∙ ap₂ (λ (given : List (List ℕ)) (s : Said). app_with now_a given s) (sym (silent-given i mid.seen to.seen (m.still i first_still))) (sym (left-first said)))
            (g.apps_is ∙ apps-ext (i + 1) to.seen to.seen later_apps (behind m.told (behind first said)) whole (λ j le. (refl, sym (behind-then first m.told said j))));
        shares = g.shares;
        lines = λ known are. g.lines known are.1 ∙ ap (λ (lines : List ℕ). lines ++ later_text) (had.lines known (are.0 ∙ sym (ap (λ (rule : AppValue). rule.name) t.rule)))
            ∙ append_assoc (lines_text known r.lines) text later_text;
      })

  on-offered : ((n : ℕ) → i < n → OrderlySince n from.seen mid.seen) → IsAtRest mid.seen i now_a → OfferMoves allows event number i (a ∷ more) (now_a ∷ later_apps) (text ++ later_text) from to
  on-offered orderly rests = record {
    told = told_then (told_at i (told_by t)) m.told;
    turns = t.turns ++ m.turns;
    given = m.given ∙ t.given;
    read = λ j. tells-then (told_at i (told_by t) j) (m.told j) (own_acts j from.seen) (own_acts j mid.seen) (own_acts j to.seen)
        (tells-at i (told_by t) from.seen mid.seen (record { starts = t.read_starts; replies = t.read_replies }) silent j) (m.read j);
    stims = m.stims ∙ t.read_stimuli;
    rules = ap₂ (λ (rule : AppValue) (rules : List AppValue). rule ∷ rules) t.rule m.rules;
    calm = m.calm;
    still = λ j out. silent-then j from.seen mid.seen to.seen (silent j (λ same. out (omega (arith, same)) (omega (arith, same)))) (m.still j (λ le less. out (omega (arith, le)) (omega (arith, less))));
    untold = λ j out. ap₂ both_told (told-other i j (told_by t) (λ same. out (omega (arith, same)) (omega (arith, same)))) (m.untold j (λ le less. out (omega (arith, le)) (omega (arith, less))));
    each = (silent-rests i now_a mid.seen to.seen (m.still i first_still) rests, m.each);
    orderly = λ n le. orderly-then n from.seen mid.seen to.seen (orderly n (omega (arith, le))) (m.orderly n (omega (arith, le)));
    gives = on-gives;
  }

-- ---- The history goes on

offered-continue : {Own : Type 0} (Tells : Type 0) (accepts : List TableView → Bool) (event : Event) (number i : ℕ) (takes stops : Bool) (text : List ℕ) (from to : Between Own) (a now_a : Application) → IsOffered Tells accepts event number i takes stops text from to a now_a → Continues Tells from.seen to.seen
offered-continue Tells accepts event number i true stops text from to a now_a turn = event_continues Tells accepts event stops text from.seen to.seen (focus i a from.net from.queue number) (focus i now_a to.net to.queue number) turn.takes
offered-continue Tells accepts event number i false stops text from to a now_a passed = subst (λ (x : Between _). Continues Tells from.seen x.seen) (sym passed.0) (Continues-refl Tells from.seen)

later-continue : {Own : Type 0} (Tells : Type 0) (accepts : List TableView → Bool) (event : Event) (number i : ℕ) (more : List Application) (text : List ℕ) (mid to : Between Own) (later_apps : List Application) (stopped stops : Bool)
    → if_stopped stops (AreLeftOut more mid to text later_apps stopped) (Offers Tells accepts event number i more text mid to later_apps stopped) → (Offers Tells accepts event number i more text mid to later_apps stopped → Continues Tells mid.seen to.seen) → Continues Tells mid.seen to.seen
later-continue Tells accepts event number i more text mid to later_apps stopped true out go = subst (λ (x : Between _). Continues Tells mid.seen x.seen) (sym out.0) (Continues-refl Tells mid.seen)
later-continue Tells accepts event number i more text mid to later_apps stopped false offers go = go offers

pub offers-continue : {Own : Type 0} (Tells : Type 0) (accepts : List TableView → Bool) (event : Event) (number i : ℕ) (apps : List Application) (text : List ℕ) (from to : Between Own) (now_apps : List Application) (stopped : Bool) → Offers Tells accepts event number i apps text from to now_apps stopped
    → Continues Tells from.seen to.seen
offers-continue Tells accepts event number i [] text from to now_apps stopped none = subst (λ (x : Between _). Continues Tells from.seen x.seen) (sym none.0) (Continues-refl Tells from.seen)
offers-continue Tells accepts event number i (a ∷ more) text from to now_apps stopped (one, later) =
    Continues-trans Tells from.seen one.mid.seen to.seen (offered-continue Tells accepts event number i (is_taking event a) one.stops one.front_text from one.mid a one.now_app one.offered)
    (later-continue Tells accepts event number (i + 1) more one.later_text one.mid to one.later_apps stopped one.stops later
    (λ offers. offers-continue Tells accepts event number (i + 1) more one.later_text one.mid to one.later_apps stopped offers))

-- ---- The whole

-- what its turns are of, where all was at rest before them
record TurnAt {Own : Type 0} (allows : List Place → Bool) (event : Event) (number i : ℕ) (stops : Bool) (text : List ℕ) (from mid : Between Own) (a now_a : Application) : Type 0 where
  moves : HadMoves (had_by allows event i) stops text from.seen mid.seen (focus i a from.net from.queue number) (focus i now_a mid.net mid.queue number)
  silent : (j : ℕ) → (j ≡ i → ⊥) → Silent j from.seen mid.seen
  orderly : (n : ℕ) → i < n → OrderlySince n from.seen mid.seen
  rests : IsAtRest mid.seen i now_a

module _ {Own : Type 0} (Tells : Type 0) (accepts : List TableView → Bool) (allows : List Place → Bool) (event : Event) (number : ℕ) (told : Tells) (judges : JudgesAlike Own allows accepts) (few : number < 2 ^ 64) where
  turn-at : (i : ℕ) (stops : Bool) (text : List ℕ) (from mid : Between Own) (a now_a : Application) → is_taking event a ≡ true → Conforming mid.seen → Calm from.seen from.net → IsAtRest from.seen i a → HasItsTurn Tells accepts event number i stops text from mid a now_a
      → TurnAt allows event number i stops text from mid a now_a
  turn-at i stops text from mid a now_a takes keeps calm rests turn =
      let e = focus i a from.net from.queue number in
      let now_e = focus i now_a mid.net mid.queue number in
      let alive = takes_alive e event takes in
      let moves = had_moves Tells accepts allows event stops text from.seen mid.seen e now_e told keeps judges few (rests.life alive) calm turn.takes in
      let goes = event_converses Tells accepts event stops text from.seen mid.seen e now_e told alive (record { at_once = rests.at_once; rest_is = rests.rest_is }) turn.takes in
      record {
        moves = moves;
        silent = λ j other. calls-silent i j from.seen mid.seen (turn.own told) other;
        orderly = λ n less. event_orderly Tells accepts allows n event stops text from.seen mid.seen e now_e told less keeps judges few (rests.life alive) calm turn.takes;
        rests = record { life = moves.life; at_once = goes.at_once; rest_is = goes.rest_is };
      }

  by-offer : (i : ℕ) (a now_a : Application) (more later_apps : List Application) (text later_text : List ℕ) (from mid to : Between Own) (takes stops stopped : Bool) → is_taking event a ≡ takes → Conforming to.seen → Calm from.seen from.net → IsAtRest from.seen i a → EachFrom (IsAtRest from.seen) (i + 1) more
      → IsOffered Tells accepts event number i takes stops text from mid a now_a → if_stopped stops (AreLeftOut more mid to later_text later_apps stopped) (Offers Tells accepts event number (i + 1) more later_text mid to later_apps stopped)
      → (EachFrom (IsAtRest mid.seen) (i + 1) more → Calm mid.seen mid.net → Offers Tells accepts event number (i + 1) more later_text mid to later_apps stopped → OfferMoves allows event number (i + 1) more later_apps later_text mid to)
      → OfferMoves allows event number i (a ∷ more) (now_a ∷ later_apps) (text ++ later_text) from to
  by-offer i a now_a more later_apps text later_text from mid to true true stopped takes keeps calm rests others turn out go =
      let t = turn-at i true text from mid a now_a takes (subst (λ (x : Between Own). Conforming x.seen) out.0 keeps) calm rests turn in
      subst (λ (x : Between Own). OfferMoves allows event number i (a ∷ more) (now_a ∷ later_apps) (text ++ later_text) from x) (sym out.0)
      (subst (λ (apps : List Application). OfferMoves allows event number i (a ∷ more) (now_a ∷ apps) (text ++ later_text) from mid) (sym out.2)
      (subst (λ (said : List ℕ). OfferMoves allows event number i (a ∷ more) (now_a ∷ more) said from mid) (sym (ap (λ (said : List ℕ). text ++ said) out.1 ∙ append-nil text))
      (stop-offered allows event number i text from mid a now_a more takes t.moves t.silent t.orderly t.rests others)))
  by-offer i a now_a more later_apps text later_text from mid to true false stopped takes keeps calm rests others turn offers go =
      let keeps_mid = Conforming-before told (offers-continue Tells accepts event number (i + 1) more later_text mid to later_apps stopped offers) keeps in
      let t = turn-at i false text from mid a now_a takes keeps_mid calm rests turn in
      let m = go (each-silent (i + 1) more from.seen mid.seen (λ j le. t.silent j (λ same. omega (arith, le, same))) others) t.moves.calm offers in
      on-offered allows event number i text later_text from mid to a now_a more later_apps takes t.moves t.silent m t.orderly t.rests
  by-offer i a now_a more later_apps text later_text from mid to false true stopped passed keeps calm rests others off out go = absurd (true≢false off.2)
  by-offer i a now_a more later_apps text later_text from mid to false false stopped passed keeps calm rests others off offers go =
      let m = go (subst (λ (x : Between Own). EachFrom (IsAtRest x.seen) (i + 1) more) (sym off.0) others) (subst (λ (x : Between Own). Calm x.seen x.net) (sym off.0) calm) offers in
      let here = subst (λ (x : Between Own). OfferMoves allows event number (i + 1) more later_apps later_text x to) off.0 m in
      subst (λ (x : Application). OfferMoves allows event number i (a ∷ more) (x ∷ later_apps) (text ++ later_text) from to) (sym off.1)
      (subst (λ (said : List ℕ). OfferMoves allows event number i (a ∷ more) (a ∷ later_apps) (said ++ later_text) from to) (sym off.3)
      (passed-offered allows event number i a more later_apps later_text from to here passed rests))

  pub offers-move : (i : ℕ) (apps : List Application) (text : List ℕ) (from to : Between Own) (now_apps : List Application) (stopped : Bool) → Conforming to.seen → EachFrom (IsAtRest from.seen) i apps → Calm from.seen from.net
      → Offers Tells accepts event number i apps text from to now_apps stopped → OfferMoves allows event number i apps now_apps text from to
  offers-move i [] text from to now_apps stopped keeps each calm none =
      subst (λ (x : Between Own). OfferMoves allows event number i [] now_apps text from x) (sym none.0)
      (subst (λ (apps : List Application). OfferMoves allows event number i [] apps text from from) (sym none.2)
      (subst (λ (said : List ℕ). OfferMoves allows event number i [] [] said from from) (sym none.1) (none-offered allows event number i from calm)))
  offers-move i (a ∷ more) text from to now_apps stopped keeps each calm (one, later) =
      subst (λ (apps : List Application). OfferMoves allows event number i (a ∷ more) apps text from to) (sym one.apps_is)
      (subst (λ (said : List ℕ). OfferMoves allows event number i (a ∷ more) (one.now_app ∷ one.later_apps) said from to) (sym one.text_is)
      (by-offer i a one.now_app more one.later_apps one.front_text one.later_text from one.mid to (is_taking event a) one.stops stopped refl keeps calm each.0 each.1 one.offered later
      (λ others calm_mid offers. offers-move (i + 1) more one.later_text one.mid to one.later_apps stopped keeps others calm_mid offers)))
