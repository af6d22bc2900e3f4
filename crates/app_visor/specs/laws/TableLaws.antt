-- Laws of turns on other tables: one that answers the messages of a turn as they were answered, and whose judge has the same word, plays
-- the same turn. So a turn is joined to a reference by the answers alone.
use Rattle.std.specs.Prelude.{◌≡◌, ℕ, zero, suc, ◌==◌, ◌&&◌, Bool, true, false, List, [], ◌∷◌, Option, Some, None, refl}
use Rattle.std.proofs.Common.{sym, ap, ◌∙◌, subst}
use Rattle.std.proofs.lemmas.Bool.{eqb-true, and_parts}
use Rattle.app_frames.specs.declared.frame.AppFrame.TheVariants as frames
use Rattle.app_frames.specs.declared.frame.Answer.{Answer}
use Rattle.app_frames.specs.declared.frame.Answer.TheVariants.{Unknown}
use Rattle.app_frames.specs.declared.cause.Cause.TheVariants as causes
use Rattle.flow_table.specs.View.{TableView}
use Rattle.lego_model.specs.Journal.{End, Untold, reply_of, pieces, end_from, answers_given}
use Rattle.lego_model.specs.Turns.{Next, Framed, Faulty, Over, Outcome, Completed, Failed, Played, Table, over, answered, told_to, done_by, ended_by, is_none_left, one_fewer, next_of, turn_from, turn_of}
use Rattle.outside.specs.Seen.{Seen}
use Rattle.net_txn.specs.Net.{NetState}
use Rattle.app_visor.specs.declared.state.TurnEnd.{TurnEnd}
use Rattle.app_visor.specs.Beats.{Exchange, Beat, acts_in, exchanges_in}
use Rattle.app_visor.specs.Turns.{same_bytes, next_asked, Asking, oracle, played_is, reply_by, Turns, Agrees, played_on}

-- ---- Where it ends at once

over_is : {State Own : Type 0} (table : Table State) (xs : List (Exchange Own)) (s end : State) (now : Outcome) (answers : List Answer) (outcome : Outcome) → Agrees table xs s end → over (Some xs) now ≡ played_is answers outcome
    → over s now ≡ played_on end answers outcome
over_is {Own = Own} table [] s end now answers outcome agrees is =
    let a : [] ≡ answers = ap (λ (p : Played (Asking Own)). p.answers) is in
    let o : now ≡ outcome = ap (λ (p : Played (Asking Own)). p.outcome) is in
    rw (agrees, ← a, ← o) refl
over_is {Own = Own} table (x ∷ xs) s end now answers outcome agrees is =
    let e : Some (x ∷ xs) ≡ Some [] = ap (λ (p : Played (Asking Own)). p.state) is in absurd cc

no_exchange : {Own : Type 0} (xs : List (Exchange Own)) (now : Outcome) (answers : List Answer) (outcome : Outcome) → over (Some xs) now ≡ played_is answers outcome → xs ≡ []
no_exchange {Own = Own} xs now answers outcome is = let e : Some xs ≡ Some [] = ap (λ (p : Played (Asking Own)). p.state) is in cc

state_is : {State Own : Type 0} (table : Table State) (xs : List (Exchange Own)) (s end : State) → xs ≡ [] → Agrees table xs s end → end ≡ s
state_is table [] s end none agrees = agrees
state_is table (x ∷ xs) s end none agrees = absurd cc

done_is : {State Own : Type 0} (table : Table State) (judged : Bool) (xs : List (Exchange Own)) (s end : State) (stop : Bool) (checkpoint : Option (List ℕ)) (rest : List ℕ) (answers : List Answer) (outcome : Outcome)
    → Agrees table xs s end → table.allows end ≡ judged → done_by judged (Some xs) stop checkpoint rest ≡ played_is answers outcome → done_by (table.allows s) s stop checkpoint rest ≡ played_on end answers outcome
done_is table true xs s end stop checkpoint rest answers outcome agrees allows is =
    let same = state_is table xs s end (no_exchange xs (Completed stop checkpoint rest) answers outcome is) agrees in
    let here : table.allows s ≡ true = ap (λ x. table.allows x) (sym same) ∙ allows in
    rw here (over_is table xs s end (Completed stop checkpoint rest) answers outcome agrees is)
done_is table false xs s end stop checkpoint rest answers outcome agrees allows is =
    let same = state_is table xs s end (no_exchange xs (Failed causes.Judged) answers outcome is) agrees in
    let here : table.allows s ≡ false = ap (λ x. table.allows x) (sym same) ∙ allows in
    rw here (over_is table xs s end (Failed causes.Judged) answers outcome agrees is)

-- ---- A message that was not asked next

pub told_none : {Own : Type 0} (gone : Bool) (answer : Answer) (later : Played (Asking Own)) → later.state ≡ None → (told_to gone (answer, None) later).state ≡ None
told_none true answer later none = refl
told_none false answer later none = none

done_none : {Own : Type 0} (judged : Bool) (stop : Bool) (checkpoint : Option (List ℕ)) (rest : List ℕ) → (done_by {State = Asking Own} judged None stop checkpoint rest).state ≡ None
done_none true stop checkpoint rest = refl
done_none false stop checkpoint rest = refl

pub none_stays : (Own : Type 0) (judged : Bool) (left : ℕ) (given : Option ℕ) (end : End) (next : Next) → (turn_from {State = Asking Own} (oracle judged) left given end [] None next).state ≡ None
unfolding turn_from oracle
none_stays Own judged zero given end (Framed frame rest pieces) = refl
none_stays Own judged zero given end (Faulty fault) = refl
none_stays Own judged zero given end Over = refl
none_stays Own judged (suc left) given end (Framed (frames.Message dpid bytes) rest pieces) =
    told_none (is_none_left given) Unknown (turn_from {State = Asking Own} (oracle judged) left (one_fewer given) end [] None (next_of rest pieces)) (none_stays Own judged left (one_fewer given) end (next_of rest pieces))
none_stays Own judged (suc left) given end (Framed (frames.Done stop checkpoint) rest pieces) = done_none judged stop checkpoint rest
none_stays Own judged (suc left) given end (Framed frames.Save rest pieces) = refl
none_stays Own judged (suc left) given end (Framed frames.Keep rest pieces) = refl
none_stays Own judged (suc left) given end (Framed frames.Undo rest pieces) = refl
none_stays Own judged (suc left) given end (Framed frames.Ready rest pieces) = refl
none_stays Own judged (suc left) given end (Faulty fault) = refl
none_stays Own judged (suc left) given end Over = refl

no_none : {Own : Type 0} (played : Played (Asking Own)) (answers : List Answer) (outcome : Outcome) → played.state ≡ None → played ≡ played_is answers outcome → ⊥
no_none {Own = Own} played answers outcome none is = let e : played.state ≡ Some [] = ap (λ (p : Played (Asking Own)). p.state) is in cc

-- ---- A message that was asked next

pub same_bytes_is : (xs ys : List ℕ) → same_bytes xs ys ≡ true → xs ≡ ys
same_bytes_is [] [] is = refl
same_bytes_is [] (y ∷ ys) is = absurd cc
same_bytes_is (x ∷ xs) [] is = absurd cc
same_bytes_is (x ∷ xs) (y ∷ ys) is =
    let both = and_parts (x == y) (same_bytes xs ys) is in
    let first : x ≡ y = eqb-true x y both.0 in
    let more : xs ≡ ys = same_bytes_is xs ys both.1 in
    cc

-- the rest of a turn whose first message was answered
told_is : {State Own : Type 0} (table : Table State) (gone : Bool) (answer : Answer) (xs : List (Exchange Own)) (played : Answer × State) (end : State) (oracles : Played (Asking Own)) (tables : Played State)
    (answers : List Answer) (outcome : Outcome) → played.0 ≡ answer → Agrees table xs played.1 end
    → ((others : List Answer) (ending : Outcome) → oracles ≡ played_is others ending → tables ≡ played_on end others ending)
    → told_to gone (answer, Some xs) oracles ≡ played_is answers outcome → told_to gone played tables ≡ played_on end answers outcome
told_is table true answer xs played end oracles tables answers outcome same agrees later is = over_is table xs played.1 end (Failed causes.Closed) answers outcome agrees is
told_is {State = State} {Own = Own} table false answer xs played end oracles tables answers outcome same agrees later is =
    let s : oracles.state ≡ Some [] = ap (λ (p : Played (Asking Own)). p.state) is in
    let a : answer ∷ oracles.answers ≡ answers = ap (λ (p : Played (Asking Own)). p.answers) is in
    let o : oracles.outcome ≡ outcome = ap (λ (p : Played (Asking Own)). p.outcome) is in
    let before : oracles ≡ played_is oracles.answers outcome = ap (λ (st : Asking Own). record { state = st; answers = oracles.answers; outcome = oracles.outcome }) s ∙ ap (λ (x : Outcome). played_is oracles.answers x) o in
    ap (λ (p : Played State). answered played.0 p) (later oracles.answers outcome before)
    ∙ ap (λ (x : Answer). played_on end (x ∷ oracles.answers) outcome) same
    ∙ ap (λ (x : List Answer). played_on end x outcome) a

same_message : {State : Type 0} (table : Table State) (s : State) (P : Answer × State → Type 0) (d dpid : ℕ) (b bytes : List ℕ) → d ≡ dpid → b ≡ bytes → P (table.answer s d b) → P (table.answer s dpid bytes)
same_message table s P d dpid b bytes first second holds =
    subst (λ (x : List ℕ). P (table.answer s dpid x)) second (subst (λ (x : ℕ). P (table.answer s x b)) first holds)

abbrev Later : {State : Type 0} → (Own : Type 0) → Table State → Bool → ℕ → Option ℕ → End → Next → State → Type 0
Later Own table judged left given end next final =
    (ys : List (Exchange Own)) (u : _) (others : List Answer) (ending : Outcome) → Agrees table ys u final → turn_from (oracle judged) left given end [] (Some ys) next ≡ played_is others ending
    → turn_from table left given end [] u next ≡ played_on final others ending

message_at : {State Own : Type 0} (table : Table State) (judged : Bool) (left : ℕ) (given : Option ℕ) (end : End) (x : Exchange Own) (xs : List (Exchange Own)) (dpid : ℕ) (bytes : List ℕ) (next : Next) (s final : State)
    (answers : List Answer) (outcome : Outcome) (test : Bool) → (x.dpid == dpid && same_bytes x.bytes bytes) ≡ test → Later Own table judged left (one_fewer given) end next final → Agrees table (x ∷ xs) s final
    → told_to (is_none_left given) (next_asked dpid bytes (Some (x ∷ xs))) (turn_from (oracle judged) left (one_fewer given) end [] (next_asked dpid bytes (Some (x ∷ xs))).1 next) ≡ played_is answers outcome
    → told_to (is_none_left given) (table.answer s dpid bytes) (turn_from table left (one_fewer given) end [] (table.answer s dpid bytes).1 next) ≡ played_on final answers outcome
message_at {State = State} {Own = Own} table judged left given end x xs dpid bytes next s final answers outcome true t later agrees is =
    let both = and_parts (x.dpid == dpid) (same_bytes x.bytes bytes) t in
    let d : x.dpid ≡ dpid = eqb-true x.dpid dpid both.0 in
    let b : x.bytes ≡ bytes = same_bytes_is x.bytes bytes both.1 in
    let answered_is : (table.answer s dpid bytes).0 ≡ x.answer = same_message table s (λ (p : Answer × State). p.0 ≡ x.answer) x.dpid dpid x.bytes bytes d b agrees.0 in
    let goes_on : Agrees table xs (table.answer s dpid bytes).1 final = same_message table s (λ (p : Answer × State). Agrees table xs p.1 final) x.dpid dpid x.bytes bytes d b agrees.1 in
    told_is table (is_none_left given) x.answer xs (table.answer s dpid bytes) final (turn_from (oracle judged) left (one_fewer given) end [] (Some xs) next) (turn_from table left (one_fewer given) end [] (table.answer s dpid bytes).1 next)
    answers outcome answered_is goes_on (λ others ending e. later xs (table.answer s dpid bytes).1 others ending goes_on e) (rw t at is)
message_at {Own = Own} table judged left given end x xs dpid bytes next s final answers outcome false t later agrees is =
    absurd (no_none (told_to (is_none_left given) (Unknown, None) (turn_from {State = Asking Own} (oracle judged) left (one_fewer given) end [] None next)) answers outcome
    (told_none (is_none_left given) Unknown (turn_from {State = Asking Own} (oracle judged) left (one_fewer given) end [] None next) (none_stays Own judged left (one_fewer given) end next)) (rw t at is))

message_is : {State Own : Type 0} (table : Table State) (judged : Bool) (left : ℕ) (given : Option ℕ) (end : End) (xs : List (Exchange Own)) (dpid : ℕ) (bytes : List ℕ) (next : Next) (s final : State)
    (answers : List Answer) (outcome : Outcome) → Later Own table judged left (one_fewer given) end next final → Agrees table xs s final
    → told_to (is_none_left given) (next_asked dpid bytes (Some xs)) (turn_from (oracle judged) left (one_fewer given) end [] (next_asked dpid bytes (Some xs)).1 next) ≡ played_is answers outcome
    → told_to (is_none_left given) (table.answer s dpid bytes) (turn_from table left (one_fewer given) end [] (table.answer s dpid bytes).1 next) ≡ played_on final answers outcome
message_is {Own = Own} table judged left given end [] dpid bytes next s final answers outcome later agrees is =
    absurd (no_none (told_to (is_none_left given) (Unknown, None) (turn_from {State = Asking Own} (oracle judged) left (one_fewer given) end [] None next)) answers outcome
    (told_none (is_none_left given) Unknown (turn_from {State = Asking Own} (oracle judged) left (one_fewer given) end [] None next) (none_stays Own judged left (one_fewer given) end next)) is)
message_is table judged left given end (x ∷ xs) dpid bytes next s final answers outcome later agrees is =
    message_at table judged left given end x xs dpid bytes next s final answers outcome (x.dpid == dpid && same_bytes x.bytes bytes) refl later agrees is

-- ---- The turn

plays_alike : {State Own : Type 0} (table : Table State) (judged : Bool) (left : ℕ) (given : Option ℕ) (end : End) (xs : List (Exchange Own)) (next : Next) (s final : State) (answers : List Answer) (outcome : Outcome)
    → Agrees table xs s final → table.allows final ≡ judged → turn_from (oracle judged) left given end [] (Some xs) next ≡ played_is answers outcome → turn_from table left given end [] s next ≡ played_on final answers outcome
unfolding turn_from oracle
plays_alike table judged zero given end xs (Framed frame rest pieces) s final answers outcome agrees allows is = over_is table xs s final (Failed causes.Budget) answers outcome agrees is
plays_alike table judged zero given end xs (Faulty fault) s final answers outcome agrees allows is = over_is table xs s final (Failed (causes.Garbled fault)) answers outcome agrees is
plays_alike table judged zero given end xs Over s final answers outcome agrees allows is = over_is table xs s final (ended_by end) answers outcome agrees is
plays_alike {State = State} {Own = Own} table judged (suc left) given end xs (Framed (frames.Message dpid bytes) rest pieces) s final answers outcome agrees allows is =
    message_is table judged left given end xs dpid bytes (next_of rest pieces) s final answers outcome
    (λ (ys : List (Exchange Own)) (u : State) (others : List Answer) (ending : Outcome) now e. plays_alike table judged left (one_fewer given) end ys (next_of rest pieces) u final others ending now allows e) agrees is
plays_alike table judged (suc left) given end xs (Framed (frames.Done stop checkpoint) rest pieces) s final answers outcome agrees allows is = done_is table judged xs s final stop checkpoint rest answers outcome agrees allows is
plays_alike table judged (suc left) given end xs (Framed frames.Save rest pieces) s final answers outcome agrees allows is = over_is table xs s final (Failed causes.Unbalanced) answers outcome agrees is
plays_alike table judged (suc left) given end xs (Framed frames.Keep rest pieces) s final answers outcome agrees allows is = over_is table xs s final (Failed causes.Unbalanced) answers outcome agrees is
plays_alike table judged (suc left) given end xs (Framed frames.Undo rest pieces) s final answers outcome agrees allows is = over_is table xs s final (Failed causes.Unbalanced) answers outcome agrees is
plays_alike table judged (suc left) given end xs (Framed frames.Ready rest pieces) s final answers outcome agrees allows is = over_is table xs s final (Failed causes.Unbalanced) answers outcome agrees is
plays_alike table judged (suc left) given end xs (Faulty fault) s final answers outcome agrees allows is = over_is table xs s final (Failed (causes.Garbled fault)) answers outcome agrees is
plays_alike table judged (suc left) given end xs Over s final answers outcome agrees allows is = over_is table xs s final (ended_by end) answers outcome agrees is

turn_of_alike : {State Own : Type 0} (table : Table State) (judged : Bool) (budget : ℕ) (rest : List ℕ) (given : Bool) (trace : List (Beat Own)) (s final : State) (answers : List Answer) (outcome : Outcome)
    → Agrees table (exchanges_in trace) s final → table.allows final ≡ judged → turn_of (oracle judged) budget rest (reply_by given trace) (Some (exchanges_in trace)) ≡ played_is answers outcome
    → turn_of table budget rest (reply_by given trace) s ≡ played_on final answers outcome
unfolding turn_of reply_of
turn_of_alike table judged budget rest true trace s final answers outcome agrees allows is =
    plays_alike table judged budget (answers_given (acts_in trace)) (end_from Untold (acts_in trace)) (exchanges_in trace) (next_of rest (pieces (acts_in trace))) s final answers outcome agrees allows is
turn_of_alike table judged budget rest false trace s final answers outcome agrees allows is = over_is table (exchanges_in trace) s final (Failed causes.Closed) answers outcome agrees is

-- A turn that was played is played so on each table that answers its messages as they were answered, and whose judge has the same word.
pub turn_alike : {State Own : Type 0} {Tells : Type 0} {accepts : List TableView → Bool} {app budget : ℕ} {rest frame unread : List ℕ} {old new : Seen Own} {net now_net : NetState} {end : TurnEnd} (table : Table State) (s final : State)
    (t : Turns Tells accepts app budget rest frame old new net now_net end unread) → Agrees table (exchanges_in t.trace) s final → table.allows final ≡ accepts now_net.views
    → turn_of table budget rest (reply_by t.given t.trace) s ≡ played_on final t.answers t.outcome
turn_alike {accepts = accepts} {budget = budget} {rest = rest} {now_net = now_net} table s final t agrees allows =
    turn_of_alike table (accepts now_net.views) budget rest t.given t.trace s final t.answers t.outcome agrees allows t.played
