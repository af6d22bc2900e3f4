-- Laws of longer lists of acts: what a turn, an attempt and an end add to what the acts before tell.
use Rattle.std.specs.Prelude.{◌≡◌, ◌==◌, ℕ, Bool, true, false, List, [], ◌∷◌, ◌++◌, map, filter, if◌then◌else◌, refl}
use Rattle.std.specs.List.{flat_map, cons_option}
use Rattle.std.proofs.Common.{sym, ap, ◌∙◌, subst, append_assoc, true≢false}
use Rattle.std.proofs.lemmas.List.{append-nil, map-append}
use Rattle.std.proofs.lemmas.List.Concat.{flat_map-append}
use Rattle.std.proofs.lemmas.List.Elements.{filter-append}
use Rattle.of_types.specs.declared.journal.Act.{Act}
use Rattle.of_types.specs.declared.journal.Act.TheVariants.{Stim, Started, Gave, Gone, Took, Ended, Sent, Got, Lost}
use Rattle.lego_model.specs.Journal.{End, Untold, Attempt, Start, Reply, Asked, in_attempts, is_event, in_turns, piece_of, pieces, end_by, end_from, gave, was_gone, any_gone, start_of, reply_of, give_act}
use Rattle.lego_model.specs.laws.JournalLaws.{in_attempts-started}
use Rattle.journal_laws.specs.Readings.{LastStands, is_within, Within, end_acts, ReadsSame, ReadsTurn, ReadsAttempt}
use Rattle.journal_laws.specs.laws.CallLaws.{both_second}
use Rattle.lego_model.specs.History.{starts_in, replies_at, replies_in}

-- ---- Acts within a turn or an attempt begin none

pub Within-append : (app : ℕ) (xs ys : List Act) → Within app xs → Within app ys → Within app (xs ++ ys)
Within-append app [] ys all rest = rest
Within-append app (x ∷ xs) ys all rest = (all.0, Within-append app xs ys all.1 rest)

turns_one : (app : ℕ) (act : Act) (acts : List Act) → is_within app act ≡ true → in_turns (act ∷ acts) ≡ (act ∷ (in_turns acts).0, (in_turns acts).1)
turns_one app (Gave to bytes) acts is = rw (both_second (to == app) (is_event bytes) is) refl
turns_one app (Gone to bytes) acts is = rw (both_second (to == app) (is_event bytes) is) refl
turns_one app (Took from what) acts is = refl
turns_one app (Ended of) acts is = refl
turns_one app (Stim x) acts is = refl
turns_one app (Started of stands) acts is = refl
turns_one app (Sent d bytes) acts is = refl
turns_one app (Got d bytes) acts is = refl
turns_one app (Lost d) acts is = refl

attempts_one : (app : ℕ) (act : Act) (acts : List Act) → is_within app act ≡ true → in_attempts (act ∷ acts) ≡ (act ∷ (in_attempts acts).0, (in_attempts acts).1)
attempts_one app (Gave to bytes) acts is = refl
attempts_one app (Gone to bytes) acts is = refl
attempts_one app (Took from what) acts is = refl
attempts_one app (Ended of) acts is = refl
attempts_one app (Stim x) acts is = refl
attempts_one app (Started of stands) acts is = absurd (true≢false (sym is))
attempts_one app (Sent d bytes) acts is = refl
attempts_one app (Got d bytes) acts is = refl
attempts_one app (Lost d) acts is = refl

pub turns_within : (app : ℕ) (acts : List Act) → Within app acts → in_turns acts ≡ (acts, [])
turns_within app [] all = refl
turns_within app (act ∷ acts) all = turns_one app act acts all.0 ∙ ap (λ (r : List Act × List Asked). (act ∷ r.0, r.1)) (turns_within app acts all.1)

pub attempts_within : (app : ℕ) (acts : List Act) → Within app acts → in_attempts acts ≡ (acts, [])
attempts_within app [] all = refl
attempts_within app (act ∷ acts) all = attempts_one app act acts all.0 ∙ ap (λ (r : List Act × List Attempt). (act ∷ r.0, r.1)) (attempts_within app acts all.1)

-- ---- Acts that begin no attempt stand in the last one

abbrev last_longer : List Act → List Attempt → List Attempt
last_longer more [] = []
last_longer more (a ∷ []) = record a { acts = a.acts ++ more } ∷ []
last_longer more (a ∷ b ∷ bs) = a ∷ last_longer more (b ∷ bs)

abbrev longer : List Act → List Act × List Attempt → List Act × List Attempt
longer more (front, []) = (front ++ more, [])
longer more (front, a ∷ tries) = (front, last_longer more (a ∷ tries))

longer_one : (more : List Act) (act : Act) (r : List Act × List Attempt) → (act ∷ (longer more r).0, (longer more r).1) ≡ longer more (act ∷ r.0, r.1)
longer_one more act (front, []) = refl
longer_one more act (front, a ∷ tries) = refl

longer_started : (more : List Act) (stands : Bool) (r : List Act × List Attempt)
    → ([], record { stands = stands; acts = (longer more r).0 } ∷ (longer more r).1) ≡ longer more ([], record { stands = stands; acts = r.0 } ∷ r.1)
longer_started more stands (front, []) = refl
longer_started more stands (front, a ∷ tries) = refl

longer_last : (more : List Act) (r : List Act × List Attempt) → (longer more r).1 ≡ last_longer more r.1
longer_last more (front, []) = refl
longer_last more (front, a ∷ tries) = refl

attempts_longer : (acts more : List Act) → in_attempts more ≡ (more, []) → in_attempts (acts ++ more) ≡ longer more (in_attempts acts)
attempts_longer [] more none = none
attempts_longer (Started of stands ∷ acts) more none = ap (λ (r : List Act × List Attempt). ([], record { stands = stands; acts = r.0 } ∷ r.1)) (attempts_longer acts more none) ∙ longer_started more stands (in_attempts acts)
attempts_longer (Stim x ∷ acts) more none = ap (λ (r : List Act × List Attempt). (Stim x ∷ r.0, r.1)) (attempts_longer acts more none) ∙ longer_one more (Stim x) (in_attempts acts)
attempts_longer (Gave to bytes ∷ acts) more none = ap (λ (r : List Act × List Attempt). (Gave to bytes ∷ r.0, r.1)) (attempts_longer acts more none) ∙ longer_one more (Gave to bytes) (in_attempts acts)
attempts_longer (Gone to bytes ∷ acts) more none = ap (λ (r : List Act × List Attempt). (Gone to bytes ∷ r.0, r.1)) (attempts_longer acts more none) ∙ longer_one more (Gone to bytes) (in_attempts acts)
attempts_longer (Took from what ∷ acts) more none = ap (λ (r : List Act × List Attempt). (Took from what ∷ r.0, r.1)) (attempts_longer acts more none) ∙ longer_one more (Took from what) (in_attempts acts)
attempts_longer (Ended of ∷ acts) more none = ap (λ (r : List Act × List Attempt). (Ended of ∷ r.0, r.1)) (attempts_longer acts more none) ∙ longer_one more (Ended of) (in_attempts acts)
attempts_longer (Sent d bytes ∷ acts) more none = ap (λ (r : List Act × List Attempt). (Sent d bytes ∷ r.0, r.1)) (attempts_longer acts more none) ∙ longer_one more (Sent d bytes) (in_attempts acts)
attempts_longer (Got d bytes ∷ acts) more none = ap (λ (r : List Act × List Attempt). (Got d bytes ∷ r.0, r.1)) (attempts_longer acts more none) ∙ longer_one more (Got d bytes) (in_attempts acts)
attempts_longer (Lost d ∷ acts) more none = ap (λ (r : List Act × List Attempt). (Lost d ∷ r.0, r.1)) (attempts_longer acts more none) ∙ longer_one more (Lost d) (in_attempts acts)

last_is : (acts more : List Act) → in_attempts more ≡ (more, []) → (in_attempts (acts ++ more)).1 ≡ last_longer more (in_attempts acts).1
last_is acts more none = ap (λ (r : List Act × List Attempt). r.1) (attempts_longer acts more none) ∙ longer_last more (in_attempts acts)

last_behind : (more : List Act) (before : List Attempt) (last : Attempt) → last_longer more (before ++ last ∷ []) ≡ before ++ record last { acts = last.acts ++ more } ∷ []
last_behind more [] last = refl
last_behind more (a ∷ []) last = refl
last_behind more (a ∷ b ∷ bs) last = ap (λ (tries : List Attempt). a ∷ tries) (last_behind more (b ∷ bs) last)

-- ---- An Event begins a turn

-- the acts that follow begin a turn, so they stand behind those before
turns_behind : (acts more : List Act) (asked : List Asked) → in_turns more ≡ ([], asked) → in_turns (acts ++ more) ≡ ((in_turns acts).0, (in_turns acts).1 ++ asked)
turns_behind [] more asked is = is
turns_behind (Gave to bytes ∷ acts) more asked is =
    elim (is_event bytes) as (λ t. is_event bytes ≡ t → in_turns ((Gave to bytes ∷ acts) ++ more) ≡ ((in_turns (Gave to bytes ∷ acts)).0, (in_turns (Gave to bytes ∷ acts)).1 ++ asked)) [
      | true ↦ λ t. rw (t, turns_behind acts more asked is) refl
      | false ↦ λ t. rw (t, turns_behind acts more asked is) refl
    ] refl
turns_behind (Gone to bytes ∷ acts) more asked is =
    elim (is_event bytes) as (λ t. is_event bytes ≡ t → in_turns ((Gone to bytes ∷ acts) ++ more) ≡ ((in_turns (Gone to bytes ∷ acts)).0, (in_turns (Gone to bytes ∷ acts)).1 ++ asked)) [
      | true ↦ λ t. rw (t, turns_behind acts more asked is) refl
      | false ↦ λ t. rw (t, turns_behind acts more asked is) refl
    ] refl
turns_behind (Started of stands ∷ acts) more asked is = rw (turns_behind acts more asked is) refl
turns_behind (Stim x ∷ acts) more asked is = rw (turns_behind acts more asked is) refl
turns_behind (Took from what ∷ acts) more asked is = rw (turns_behind acts more asked is) refl
turns_behind (Ended of ∷ acts) more asked is = rw (turns_behind acts more asked is) refl
turns_behind (Sent d bytes ∷ acts) more asked is = rw (turns_behind acts more asked is) refl
turns_behind (Got d bytes ∷ acts) more asked is = rw (turns_behind acts more asked is) refl
turns_behind (Lost d ∷ acts) more asked is = rw (turns_behind acts more asked is) refl

abbrev asked_is : Bool → List Act → Asked
asked_is given acts = record { given = given; acts = acts }

event_begins : (app : ℕ) (given : Bool) (frame : List ℕ) (more : List Act) → is_event frame ≡ true → Within app more → in_turns (give_act given app frame ∷ more) ≡ ([], asked_is given more ∷ [])
event_begins app true frame more event all = rw (event, turns_within app more all) refl
event_begins app false frame more event all = rw (event, turns_within app more all) refl

event_within_attempt : (app : ℕ) (given : Bool) (frame : List ℕ) (more : List Act) → Within app more → in_attempts (give_act given app frame ∷ more) ≡ (give_act given app frame ∷ more, [])
event_within_attempt app true frame more all = ap (λ (r : List Act × List Attempt). (Gave app frame ∷ r.0, r.1)) (attempts_within app more all)
event_within_attempt app false frame more all = ap (λ (r : List Act × List Attempt). (Gone app frame ∷ r.0, r.1)) (attempts_within app more all)

-- ---- What attempts tell, one after the other

abbrev starts_by : List Attempt → List Start
starts_by tries = map start_of tries

abbrev replies_by : List Attempt → List Reply
replies_by tries = flat_map replies_at (filter (λ a. a.stands) tries)

replies_behind : (before later : List Attempt) → replies_by (before ++ later) ≡ replies_by before ++ replies_by later
replies_behind before later =
    ap (λ (tries : List Attempt). flat_map replies_at tries) (filter-append (λ a. a.stands) before later) ∙ flat_map-append replies_at (filter (λ a. a.stands) before) (filter (λ a. a.stands) later)

replies_one : (a : Attempt) → a.stands ≡ true → replies_by (a ∷ []) ≡ replies_at a
replies_one a stands = rw stands (append-nil (replies_at a))

replies_none : (a : Attempt) → replies_at a ≡ [] → replies_by (a ∷ []) ≡ []
replies_none a none = elim a.stands as (λ t. a.stands ≡ t → replies_by (a ∷ []) ≡ []) [
  | true ↦ λ t. replies_one a t ∙ none
  | false ↦ λ t. rw t refl
] refl

-- ---- A turn

abbrev last_with : Attempt → List Act → Attempt
last_with last more = record last { acts = last.acts ++ more }

start_with : (last : Attempt) (more : List Act) (asked : List Asked) → in_turns more ≡ ([], asked) → start_of (last_with last more) ≡ start_of last
unfolding start_of
start_with last more asked is = rw (turns_behind last.acts more asked is) refl

replies_with : (last : Attempt) (more : List Act) (asked : List Asked) → in_turns more ≡ ([], asked) → replies_at (last_with last more) ≡ replies_at last ++ map reply_of asked
replies_with last more asked is = ap (λ (r : List Act × List Asked). map reply_of r.1) (turns_behind last.acts more asked is) ∙ map-append reply_of (in_turns last.acts).1 asked

pub turn_read : (app : ℕ) (given : Bool) (frame : List ℕ) (acts more : List Act) → LastStands acts → is_event frame ≡ true → Within app more
    → ReadsTurn acts (acts ++ give_act given app frame ∷ more) (reply_of (record { given = given; acts = more }))
turn_read app given frame acts more stood event all =
    let before = stood.before in
    let last = stood.last in
    let next = give_act given app frame ∷ more in
    let asked = asked_is given more ∷ [] in
    let begins : in_turns next ≡ ([], asked) = event_begins app given frame more event all in
    let after : (in_attempts (acts ++ next)).1 ≡ before ++ last_with last next ∷ [] =
    last_is acts next (event_within_attempt app given frame more all) ∙ ap (last_longer next) stood.attempts ∙ last_behind next before last in
    record {
      starts = ap starts_by after ∙ map-append start_of before (last_with last next ∷ []) ∙ ap (λ (s : Start). starts_by before ++ s ∷ []) (start_with last next asked begins)
          ∙ sym (map-append start_of before (last ∷ [])) ∙ ap starts_by (sym stood.attempts);
      replies = ap replies_by after ∙ replies_behind before (last_with last next ∷ [])
          ∙ ap (λ (rs : List Reply). replies_by before ++ rs) (replies_one (last_with last next) stood.stands ∙ replies_with last next asked begins)
          ∙ sym (append_assoc (replies_by before) (replies_at last) (reply_of (asked_is given more) ∷ []))
          ∙ ap (λ (rs : List Reply). rs ++ reply_of (asked_is given more) ∷ [])
          (ap (λ (rs : List Reply). replies_by before ++ rs) (sym (replies_one last stood.stands)) ∙ sym (replies_behind before (last ∷ [])) ∙ ap replies_by (sym stood.attempts));
      life = record { before = before; last = last_with last next; attempts = after; stands = stood.stands };
    }

-- ---- An end says nothing more

-- the same is read of both
record AlikeRead (xs ys : List Act) : Type 0 where
  pieces_is : pieces xs ≡ pieces ys
  gone_is : any_gone xs ≡ any_gone ys
  gave_is : filter gave xs ≡ filter gave ys
  end_is : (before : End) → end_from before xs ≡ end_from before ys

alike_refl : (xs : List Act) → AlikeRead xs xs
alike_refl xs = record { pieces_is = refl; gone_is = refl; gave_is = refl; end_is = λ before. refl }

alike_one : (act : Act) (xs ys : List Act) → AlikeRead xs ys → AlikeRead (act ∷ xs) (act ∷ ys)
alike_one act xs ys a = record {
  pieces_is = ap (cons_option (piece_of act)) a.pieces_is;
  gone_is = ap (λ (b : Bool). if was_gone act then true else b) a.gone_is;
  gave_is = ap (λ (acts : List Act). if gave act then act ∷ acts else acts) a.gave_is;
  end_is = λ before. a.end_is (end_by before act);
}

reply_alike : (given : Bool) (xs ys : List Act) → AlikeRead xs ys → reply_of (asked_is given xs) ≡ reply_of (asked_is given ys)
unfolding reply_of
reply_alike true xs ys a = rw (a.pieces_is, a.gone_is, a.gave_is, a.end_is Untold) refl
reply_alike false xs ys a = refl

record AlikeTurns (xs ys : List Act) : Type 0 where
  first : AlikeRead (in_turns xs).0 (in_turns ys).0
  later : map reply_of (in_turns xs).1 ≡ map reply_of (in_turns ys).1

alike_turns_one : (act : Act) (xs ys : List Act) → in_turns (act ∷ xs) ≡ (act ∷ (in_turns xs).0, (in_turns xs).1) → in_turns (act ∷ ys) ≡ (act ∷ (in_turns ys).0, (in_turns ys).1) → AlikeTurns xs ys → AlikeTurns (act ∷ xs) (act ∷ ys)
alike_turns_one act xs ys left right a = record {
  first = rw (left, right) (alike_one act (in_turns xs).0 (in_turns ys).0 a.first);
  later = rw (left, right) a.later;
}

alike_asked : (given : Bool) (act : Act) (xs ys : List Act) → in_turns (act ∷ xs) ≡ ([], asked_is given (in_turns xs).0 ∷ (in_turns xs).1) → in_turns (act ∷ ys) ≡ ([], asked_is given (in_turns ys).0 ∷ (in_turns ys).1)
    → AlikeTurns xs ys → AlikeTurns (act ∷ xs) (act ∷ ys)
alike_asked given act xs ys left right a = record {
  first = rw (left, right) (alike_refl []);
  later = rw (left, right, reply_alike given (in_turns xs).0 (in_turns ys).0 a.first, a.later) refl;
}

turns_ended : (app : ℕ) (acts : List Act) → AlikeTurns (acts ++ Ended app ∷ []) acts
turns_ended app [] = record { first = record { pieces_is = refl; gone_is = refl; gave_is = refl; end_is = λ before. refl }; later = refl }
turns_ended app (Gave to bytes ∷ acts) = elim (is_event bytes) as (λ t. is_event bytes ≡ t → AlikeTurns ((Gave to bytes ∷ acts) ++ Ended app ∷ []) (Gave to bytes ∷ acts)) [
  | true ↦ λ t. alike_asked true (Gave to bytes) (acts ++ Ended app ∷ []) acts (rw t refl) (rw t refl) (turns_ended app acts)
  | false ↦ λ t. alike_turns_one (Gave to bytes) (acts ++ Ended app ∷ []) acts (rw t refl) (rw t refl) (turns_ended app acts)
] refl
turns_ended app (Gone to bytes ∷ acts) = elim (is_event bytes) as (λ t. is_event bytes ≡ t → AlikeTurns ((Gone to bytes ∷ acts) ++ Ended app ∷ []) (Gone to bytes ∷ acts)) [
  | true ↦ λ t. alike_asked false (Gone to bytes) (acts ++ Ended app ∷ []) acts (rw t refl) (rw t refl) (turns_ended app acts)
  | false ↦ λ t. alike_turns_one (Gone to bytes) (acts ++ Ended app ∷ []) acts (rw t refl) (rw t refl) (turns_ended app acts)
] refl
turns_ended app (Started of stands ∷ acts) = alike_turns_one (Started of stands) (acts ++ Ended app ∷ []) acts refl refl (turns_ended app acts)
turns_ended app (Stim x ∷ acts) = alike_turns_one (Stim x) (acts ++ Ended app ∷ []) acts refl refl (turns_ended app acts)
turns_ended app (Took from what ∷ acts) = alike_turns_one (Took from what) (acts ++ Ended app ∷ []) acts refl refl (turns_ended app acts)
turns_ended app (Ended of ∷ acts) = alike_turns_one (Ended of) (acts ++ Ended app ∷ []) acts refl refl (turns_ended app acts)
turns_ended app (Sent d bytes ∷ acts) = alike_turns_one (Sent d bytes) (acts ++ Ended app ∷ []) acts refl refl (turns_ended app acts)
turns_ended app (Got d bytes ∷ acts) = alike_turns_one (Got d bytes) (acts ++ Ended app ∷ []) acts refl refl (turns_ended app acts)
turns_ended app (Lost d ∷ acts) = alike_turns_one (Lost d) (acts ++ Ended app ∷ []) acts refl refl (turns_ended app acts)

start_ended : (app : ℕ) (a : Attempt) → start_of (last_with a (Ended app ∷ [])) ≡ start_of a
unfolding start_of
start_ended app a =
    let alike = (turns_ended app a.acts).first in
    rw (alike.pieces_is, alike.gone_is, alike.end_is Untold) refl

starts_ended : (app : ℕ) (tries : List Attempt) → starts_by (last_longer (Ended app ∷ []) tries) ≡ starts_by tries
starts_ended app [] = refl
starts_ended app (a ∷ []) = ap (λ (s : Start). s ∷ []) (start_ended app a)
starts_ended app (a ∷ b ∷ bs) = ap (λ (ss : List Start). start_of a ∷ ss) (starts_ended app (b ∷ bs))

replies_ended_one : (app : ℕ) (a : Attempt) → replies_by (last_with a (Ended app ∷ []) ∷ []) ≡ replies_by (a ∷ [])
replies_ended_one app a = elim a.stands as (λ t. a.stands ≡ t → replies_by (last_with a (Ended app ∷ []) ∷ []) ≡ replies_by (a ∷ [])) [
  | true ↦ λ t. replies_one (last_with a (Ended app ∷ [])) t ∙ (turns_ended app a.acts).later ∙ sym (replies_one a t)
  | false ↦ λ t. rw t refl
] refl

replies_ended : (app : ℕ) (tries : List Attempt) → replies_by (last_longer (Ended app ∷ []) tries) ≡ replies_by tries
replies_ended app [] = refl
replies_ended app (a ∷ []) = replies_ended_one app a
replies_ended app (a ∷ b ∷ bs) =
    replies_behind (a ∷ []) (last_longer (Ended app ∷ []) (b ∷ bs)) ∙ ap (λ (rs : List Reply). replies_by (a ∷ []) ++ rs) (replies_ended app (b ∷ bs)) ∙ sym (replies_behind (a ∷ []) (b ∷ bs))

pub end_read : (app : ℕ) (acts : List Act) → ReadsSame acts (acts ++ Ended app ∷ [])
end_read app acts =
    let after : (in_attempts (acts ++ Ended app ∷ [])).1 ≡ last_longer (Ended app ∷ []) (in_attempts acts).1 = last_is acts (Ended app ∷ []) refl in
    record { starts = ap starts_by after ∙ starts_ended app (in_attempts acts).1; replies = ap replies_by after ∙ replies_ended app (in_attempts acts).1 }

-- ---- An attempt

pub part_read : (app : ℕ) (ended : Bool) (acts : List Act) → ReadsSame acts (acts ++ end_acts ended app)
part_read app true acts = end_read app acts
part_read app false acts = record { starts = ap starts_in (append-nil acts); replies = ap replies_in (append-nil acts) }

abbrev attempt_is : Bool → List Act → Attempt
attempt_is stands acts = record { stands = stands; acts = acts }

started_read : (app : ℕ) (stands : Bool) (acts more : List Act) → Within app more → ReadsAttempt acts (acts ++ Started app stands ∷ more) (attempt_is stands more)
started_read app stands acts more all =
    let one = attempt_is stands more in
    let after : (in_attempts (acts ++ Started app stands ∷ more)).1 ≡ (in_attempts acts).1 ++ one ∷ [] =
    ap (λ (r : List Act × List Attempt). r.1) (in_attempts-started acts app stands more)
    ∙ ap (λ (r : List Act × List Attempt). (in_attempts acts).1 ++ record { stands = stands; acts = r.0 } ∷ r.1) (attempts_within app more all) in
    let none : replies_at one ≡ [] = ap (λ (r : List Act × List Asked). map reply_of r.1) (turns_within app more all) in
    record {
      starts = ap starts_by after ∙ map-append start_of (in_attempts acts).1 (one ∷ []);
      replies = ap replies_by after ∙ replies_behind (in_attempts acts).1 (one ∷ []) ∙ ap (λ (rs : List Reply). replies_in acts ++ rs) (replies_none one none) ∙ append-nil (replies_in acts);
      life = λ up. record { before = (in_attempts acts).1; last = one; attempts = after; stands = up };
    }

pub attempt_read : (app : ℕ) (ended stands : Bool) (acts more : List Act) → Within app more
    → ReadsAttempt acts (acts ++ (end_acts ended app ++ Started app stands ∷ more)) (record { stands = stands; acts = more })
attempt_read app ended stands acts more all =
    let first = part_read app ended acts in
    let next = started_read app stands (acts ++ end_acts ended app) more all in
    subst (λ (whole : List Act). ReadsAttempt acts whole (attempt_is stands more)) (append_assoc acts (end_acts ended app) (Started app stands ∷ more)) (record {
      starts = next.starts ∙ ap (λ (ss : List Start). ss ++ start_of (attempt_is stands more) ∷ []) first.starts;
      replies = next.replies ∙ first.replies;
      life = next.life;
    })
