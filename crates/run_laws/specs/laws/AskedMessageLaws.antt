-- What is asked in a turn: exactly the messages of its exchanges stand in the bytes of the application, one behind the other; and how the turn ends
-- behind them, where more was told or it ended before.
use Rattle.std.specs.Prelude.{◌==◌, ◌&&◌, ◌||◌, if◌then◌else◌}
use Rattle.std.proofs.Common.{◌≡◌, ℕ, zero, suc, Bool, true, false, List, [], ◌∷◌, map, Option, Some, None, refl, sym, ap, ◌∙◌, true≢false}
use Rattle.std.proofs.lemmas.Bool.{and_parts, eqb-true}
use Rattle.app_frames.specs.declared.frame.AppFrame.TheVariants.{Message, Save, Keep, Undo, Done, Ready}
use Rattle.app_frames.specs.declared.frame.Answer.{Answer}
use Rattle.app_frames.specs.declared.frame.Answer.TheVariants.{Unknown}
use Rattle.app_frames.specs.declared.cause.Cause.TheVariants as causes
use Rattle.lego_model.specs.Journal.{End, Closes, Stalls, Untold, pieces, reply_of}
use Rattle.lego_model.specs.Turns.{Next, Framed, Faulty, Over, next_of, Outcome, Completed, Failed, ended_by, Played, over, done_by, one_fewer, is_none_left, told_to, turn_from, turn_of}
use Rattle.lego_model.specs.Scripted.{is_told, settles, is_heard_from, is_heard}
use Rattle.app_visor.specs.Beats.{Exchange, Beat, acts_in}
use Rattle.app_visor.specs.laws.TableLaws.{same_bytes_is, told_none, none_stays}
use Rattle.app_visor.specs.Turns.{same_bytes, Asking, oracle, reply_by}
use Rattle.run_course.specs.Asked.{EndsAt, AreAsked}

abbrev pub message_of : {Own : Type 0} → Exchange Own → ℕ × List ℕ
message_of x = (x.dpid, x.bytes)

-- ---- Where nothing more is asked

-- where bytes end, the turn ends by that, if more is told
ended_so : (end : End) → is_told end ≡ true → EndsAt (ended_by end) Over
ended_so Closes told = tt
ended_so Stalls told = tt
ended_so Untold told = absurd (true≢false (sym told))

-- all that is to be asked was asked
over_asked : {Own : Type 0} (xs : List (Exchange Own)) (outcome : Outcome) (next : Next) → EndsAt outcome next → (over {State = Asking Own} (Some xs) outcome).state ≡ Some [] → AreAsked (map message_of xs) outcome next
over_asked [] outcome next ends asked = ends
over_asked (x ∷ xs) outcome next ends asked = absurd cc

done_asked : {Own : Type 0} (judged stop : Bool) (checkpoint : Option (List ℕ)) (rest : List ℕ) (pieces : List (List ℕ)) (xs : List (Exchange Own)) → (done_by {State = Asking Own} judged (Some xs) stop checkpoint rest).state ≡ Some []
    → AreAsked (map message_of xs) (done_by {State = Asking Own} judged (Some xs) stop checkpoint rest).outcome (Framed (Done stop checkpoint) rest pieces)
done_asked true stop checkpoint rest pieces xs asked = over_asked xs (Completed stop checkpoint rest) (Framed (Done stop checkpoint) rest pieces) (refl, refl, refl) asked
done_asked false stop checkpoint rest pieces xs asked = over_asked xs (Failed causes.Judged) (Framed (Done stop checkpoint) rest pieces) tt asked

-- ---- A message that is asked next

no_more : {X : Type 0} (o : Option (List X)) → o ≡ None → o ≡ Some [] → ⊥
no_more o none some = let e : None ≡ Some [] = sym none ∙ some in cc

told_asked : {Own : Type 0} (gone : Bool) (answer : Answer) (xs : List (Exchange Own)) (later : Played (Asking Own)) (next : Next) → (gone ≡ false → later.state ≡ Some [] → AreAsked (map message_of xs) later.outcome next)
    → (told_to gone (answer, Some xs) later).state ≡ Some [] → AreAsked (map message_of xs) (told_to gone (answer, Some xs) later).outcome next
told_asked true answer xs later next more asked = over_asked xs (Failed causes.Closed) next tt asked
told_asked false answer xs later next more asked = more refl asked

-- the answer of the exchange, where it is of this message
abbrev answer_if : {Own : Type 0} → Bool → Exchange Own → List (Exchange Own) → Answer × Asking Own
answer_if same x xs = if same then (x.answer, Some xs) else (Unknown, None)

message_asked : {Own : Type 0} (same gone : Bool) (dpid : ℕ) (bytes : List ℕ) (x : Exchange Own) (xs : List (Exchange Own)) (later : Asking Own → Played (Asking Own)) (next : Next) → (x.dpid == dpid && same_bytes x.bytes bytes) ≡ same → (later None).state ≡ None
    → (gone ≡ false → (later (Some xs)).state ≡ Some [] → AreAsked (map message_of xs) (later (Some xs)).outcome next) → (told_to gone (answer_if same x xs) (later (answer_if same x xs).1)).state ≡ Some []
    → (message_of x ≡ (dpid, bytes)) × AreAsked (map message_of xs) (told_to gone (answer_if same x xs) (later (answer_if same x xs).1)).outcome next
message_asked true gone dpid bytes x xs later next is none more asked =
    let both = and_parts (x.dpid == dpid) (same_bytes x.bytes bytes) is in
    let d : x.dpid ≡ dpid = eqb-true x.dpid dpid both.0 in
    let b : x.bytes ≡ bytes = same_bytes_is x.bytes bytes both.1 in
    (ap (λ (n : ℕ). (n, x.bytes)) d ∙ ap (λ (bs : List ℕ). (dpid, bs)) b, told_asked gone x.answer xs (later (Some xs)) next more asked)
message_asked false gone dpid bytes x xs later next is none more asked = absurd (no_more (told_to gone (Unknown, None) (later None)).state (told_none gone Unknown (later None) none) asked)

-- ---- The turn from a place on

-- behind a message that was answered as much is heard
heard_on : (gone : Bool) (end : End) (settled : Bool) → gone ≡ false → (is_told end || (gone || settled)) ≡ true → (is_told end || settled) ≡ true
heard_on true end settled stays heard = absurd (true≢false stays)
heard_on false end settled stays heard = heard

heard_over : (end : End) → (is_told end || false) ≡ true → is_told end ≡ true
heard_over Closes heard = refl
heard_over Stalls heard = refl
heard_over Untold heard = absurd (true≢false (sym heard))

asked_from : {Own : Type 0} (judged : Bool) (left : ℕ) (answers : Option ℕ) (end : End) (xs : List (Exchange Own)) (next : Next) → is_heard_from left 0 answers end next ≡ true
    → (turn_from {State = Asking Own} (oracle {Own = Own} judged) left answers end [] (Some xs) next).state ≡ Some []
    → AreAsked (map message_of xs) (turn_from {State = Asking Own} (oracle {Own = Own} judged) left answers end [] (Some xs) next).outcome next
unfolding turn_from oracle settles
asked_from judged zero answers end xs (Framed frame rest pieces) heard asked = over_asked xs (Failed causes.Budget) (Framed frame rest pieces) tt asked
asked_from judged zero answers end xs (Faulty fault) heard asked = over_asked xs (Failed (causes.Garbled fault)) (Faulty fault) refl asked
asked_from judged zero answers end xs Over heard asked = over_asked xs (ended_by end) Over (ended_so end (heard_over end heard)) asked
asked_from {Own = Own} judged (suc left) answers end [] (Framed (Message dpid bytes) rest pieces) heard asked =
    let later = turn_from {State = Asking Own} (oracle {Own = Own} judged) left (one_fewer answers) end [] None (next_of rest pieces) in
    absurd (no_more (told_to (is_none_left answers) (Unknown, None) later).state (told_none (is_none_left answers) Unknown later (none_stays Own judged left (one_fewer answers) end (next_of rest pieces))) asked)
asked_from {Own = Own} judged (suc left) answers end (x ∷ xs) (Framed (Message dpid bytes) rest pieces) heard asked =
    message_asked (x.dpid == dpid && same_bytes x.bytes bytes) (is_none_left answers) dpid bytes x xs (λ state. turn_from {State = Asking Own} (oracle {Own = Own} judged) left (one_fewer answers) end [] state (next_of rest pieces)) (next_of rest pieces) refl
    (none_stays Own judged left (one_fewer answers) end (next_of rest pieces))
    (λ stays. asked_from {Own = Own} judged left (one_fewer answers) end xs (next_of rest pieces) (heard_on (is_none_left answers) end (settles left 0 (one_fewer answers) (next_of rest pieces)) stays heard)) asked
asked_from judged (suc left) answers end xs (Framed (Done stop checkpoint) rest pieces) heard asked = done_asked judged stop checkpoint rest pieces xs asked
asked_from judged (suc left) answers end xs (Framed Save rest pieces) heard asked = over_asked xs (Failed causes.Unbalanced) (Framed Save rest pieces) tt asked
asked_from judged (suc left) answers end xs (Framed Keep rest pieces) heard asked = over_asked xs (Failed causes.Unbalanced) (Framed Keep rest pieces) tt asked
asked_from judged (suc left) answers end xs (Framed Undo rest pieces) heard asked = over_asked xs (Failed causes.Unbalanced) (Framed Undo rest pieces) tt asked
asked_from judged (suc left) answers end xs (Framed Ready rest pieces) heard asked = over_asked xs (Failed causes.Unbalanced) (Framed Ready rest pieces) tt asked
asked_from judged (suc left) answers end xs (Faulty fault) heard asked = over_asked xs (Failed (causes.Garbled fault)) (Faulty fault) refl asked
asked_from judged (suc left) answers end xs Over heard asked = over_asked xs (ended_by end) Over (ended_so end (heard_over end heard)) asked

-- ---- The whole turn

pub turn_asked : {Own : Type 0} (judged given : Bool) (budget : ℕ) (rest : List ℕ) (trace : List (Beat Own)) (xs : List (Exchange Own)) → is_heard budget rest (reply_by given trace) ≡ true
    → (turn_of {State = Asking Own} (oracle {Own = Own} judged) budget rest (reply_by given trace) (Some xs)).state ≡ Some []
    → AreAsked (map message_of xs) (turn_of {State = Asking Own} (oracle {Own = Own} judged) budget rest (reply_by given trace) (Some xs)).outcome (next_of rest (pieces (acts_in trace)))
unfolding turn_of reply_of is_heard
turn_asked {Own = Own} judged true budget rest trace xs heard asked = asked_from {Own = Own} judged budget _ _ xs (next_of rest (pieces (acts_in trace))) heard asked
turn_asked judged false budget rest trace xs heard asked = over_asked xs (Failed causes.Closed) (next_of rest (pieces (acts_in trace))) tt asked
