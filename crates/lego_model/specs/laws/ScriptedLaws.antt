-- Laws of what is said of an application: a turn or a start for which enough was told goes the same over all that is said, of which that
-- is the front.
use Rattle.std.proofs.Common.{◌≡◌, ℕ, zero, suc, ◌||◌, Bool, true, false, List, [], ◌∷◌, ◌++◌, length, drop, Option, Some, None, Ok, Err, refl, sym, ap, ap₂, ◌∙◌, subst, inl, inr}
use Rattle.std.specs.Prelude.{not}
use Rattle.std.proofs.lemmas.List.{append-nil}
use Rattle.std.proofs.Math.Seq.{drop-nil}
use Rattle.app_frames.specs.declared.frame.AppFrame.{AppFrame}
use Rattle.app_frames.specs.declared.frame.AppFrame.TheVariants.{Message, Save, Keep, Undo, Done, Ready}
use Rattle.app_frames.specs.declared.frame.Answer.{Answer}
use Rattle.app_frames.specs.Reading.{Reading}
use Rattle.app_frames.specs.Frames.{app_reading}
use Rattle.lego_model.specs.Journal.{End, Closes, Stalls, Untold, Reply, Start}
use Rattle.lego_model.specs.Turns.{Next, Framed, Faulty, Over, next_read, next_of, Played, Table, told_to, one_fewer, is_none_left, turn_from, turn_of, first_frame, outcome_of}
use Rattle.lego_model.specs.Scripted.{IsLookedAt, IsFront, IsStartFront, AreFronts, AreStartFronts, is_told, settles, is_heard_from, is_heard, is_whole, is_start_heard}

-- ---- More pieces

-- what stands next, with these pieces behind its own
abbrev pub behind : Next → List (List ℕ) → Next
behind (Framed frame rest pieces) more = Framed frame rest (pieces ++ more)
behind (Faulty fault) more = Faulty fault
behind Over more = Over

read-more : (reading : Reading (AppFrame × ℕ)) (bytes : List ℕ) (pieces more : List (List ℕ)) (next longer : Next) → (is_whole next ≡ true → longer ≡ behind next more)
    → is_whole (next_read reading bytes pieces next) ≡ true → next_read reading bytes (pieces ++ more) longer ≡ behind (next_read reading bytes pieces next) more
read-more (Ok (Some x)) bytes pieces more next longer same whole = refl
read-more (Ok None) bytes pieces more next longer same whole = same whole
read-more (Err fault) bytes pieces more next longer same whole = refl

none-more : (reading : Reading (AppFrame × ℕ)) (bytes : List ℕ) (more : List (List ℕ)) (longer : Next) → is_whole (next_read reading bytes [] Over) ≡ true
    → next_read reading bytes more longer ≡ behind (next_read reading bytes [] Over) more
none-more (Ok (Some x)) bytes more longer whole = refl
none-more (Ok None) bytes more longer whole = absurd cc
none-more (Err fault) bytes more longer whole = refl

-- Where a whole frame or a fault stands next, it does so whatever pieces follow.
pub next_of-more : (bytes : List ℕ) (pieces more : List (List ℕ)) → is_whole (next_of bytes pieces) ≡ true → next_of bytes (pieces ++ more) ≡ behind (next_of bytes pieces) more
unfolding next_of
next_of-more bytes [] [] whole = none-more (app_reading bytes) bytes [] Over whole
next_of-more bytes [] (piece ∷ more) whole = none-more (app_reading bytes) bytes (piece ∷ more) (next_of (bytes ++ piece) more) whole
next_of-more bytes (piece ∷ pieces) more whole =
    read-more (app_reading bytes) bytes (piece ∷ pieces) more (next_of (bytes ++ piece) pieces) (next_of (bytes ++ piece) (pieces ++ more)) (next_of-more (bytes ++ piece) pieces more) whole

-- ---- A turn

-- what settles a turn is a whole frame or a fault
settles-whole : (left saved : ℕ) (answers : Option ℕ) (next : Next) → settles left saved answers next ≡ true → is_whole next ≡ true
unfolding settles
settles-whole left saved answers Over is = absurd cc
settles-whole left saved answers (Faulty fault) is = refl
settles-whole left saved answers (Framed frame rest pieces) is = refl

told-same : {State : Type 0} (gone : Bool) (settled : Bool) (played : Answer × State) (first second : Played State) → (settled ≡ true → first ≡ second) → (gone || settled) ≡ true → told_to gone played first ≡ told_to gone played second
told-same true settled played first second same is = refl
told-same false settled played first second same is = ap (told_to false played) (same is)

-- the rest of a turn that is settled goes the same, whatever pieces follow and however they end
pub turn_from-more : {State : Type 0} (table : Table State) (left : ℕ) (answers : Option ℕ) (end other : End) (saved : List State) (state : State) (next : Next) (more : List (List ℕ)) → settles left (length saved) answers next ≡ true
    → turn_from table left answers other saved state (behind next more) ≡ turn_from table left answers end saved state next
unfolding turn_from settles
turn_from-more table zero answers end other saved state (Framed frame rest pieces) more is = refl
turn_from-more table zero answers end other saved state (Faulty fault) more is = refl
turn_from-more table zero answers end other saved state Over more is = absurd cc
turn_from-more table (suc left) answers end other saved state (Framed (Message dpid bytes) rest pieces) more is =
    let played = table.answer state dpid bytes in
    let fewer = one_fewer answers in
    let next = next_of rest pieces in
    told-same (is_none_left answers) (settles left (length saved) fewer next) played (turn_from table left fewer other saved played.1 (next_of rest (pieces ++ more))) (turn_from table left fewer end saved played.1 next)
    (λ settled.
    ap (λ (n : Next). turn_from table left fewer other saved played.1 n) (next_of-more rest pieces more (settles-whole left (length saved) fewer next settled))
    ∙ turn_from-more table left fewer end other saved played.1 next more settled) is
turn_from-more table (suc left) answers end other saved state (Framed (Done stop checkpoint) rest pieces) more is = refl
turn_from-more table (suc left) answers end other saved state (Framed Save rest pieces) more is = refl
turn_from-more table (suc left) answers end other saved state (Framed Keep rest pieces) more is = refl
turn_from-more table (suc left) answers end other saved state (Framed Undo rest pieces) more is = refl
turn_from-more table (suc left) answers end other saved state (Framed Ready rest pieces) more is = refl
turn_from-more table (suc left) answers end other saved state (Faulty fault) more is = refl
turn_from-more table (suc left) answers end other saved state Over more is = absurd cc

-- what is told of an end is what is said of it
looked-ended : (told : List (List ℕ)) (end : End) (said : List (List ℕ)) (said_end : End) → IsLookedAt told end said said_end → is_told end ≡ true → (said ≡ told) × (said_end ≡ end)
looked-ended told end said said_end (more, longer, inl untold) is = absurd (no_end end untold is)
  where
    no_end : (end : End) → end ≡ Untold → is_told end ≡ true → ⊥
    no_end Untold untold is = cc
    no_end Closes untold is = cc
    no_end Stalls untold is = cc
looked-ended told end said said_end (more, longer, inr both) is = (longer ∙ ap (λ (x : List (List ℕ)). told ++ x) both.0 ∙ append-nil told, both.1)

-- a turn that was given its event
turn-given : {State : Type 0} (table : Table State) (budget : ℕ) (rest : List ℕ) (answers : Option ℕ) (told : List (List ℕ)) (end : End) (said : List (List ℕ)) (said_end : End) (state : State) (ended : Bool) → is_told end ≡ ended
    → (ended || settles budget 0 answers (next_of rest told)) ≡ true → IsLookedAt told end said said_end
    → turn_from table budget answers said_end [] state (next_of rest said) ≡ turn_from table budget answers end [] state (next_of rest told)
turn-given table budget rest answers told end said said_end state true ended is looked =
    let same = looked-ended told end said said_end looked ended in
    ap₂ (λ (e : End) (ps : List (List ℕ)). turn_from table budget answers e [] state (next_of rest ps)) same.1 same.0
turn-given table budget rest answers told end said said_end state false ended is looked =
    let next = next_of rest told in
    ap (λ (ps : List (List ℕ)). turn_from table budget answers said_end [] state (next_of rest ps)) looked.1
    ∙ ap (λ (n : Next). turn_from table budget answers said_end [] state n) (next_of-more rest told looked.0 (settles-whole budget 0 answers next is))
    ∙ turn_from-more table budget answers end said_end [] state next looked.0 is

turn-by : {State : Type 0} (table : Table State) (budget : ℕ) (rest : List ℕ) (told said : Reply) (state : State) (given : Bool) → told.given ≡ given
    → (not given || is_heard_from budget 0 told.answers told.end (next_of rest told.pieces)) ≡ true → IsFront told said → turn_of table budget rest said state ≡ turn_of table budget rest told state
unfolding turn_of
turn-by table budget rest told said state true given heard front =
    let said_given : said.given ≡ true = front.given ∙ given in
    rw (said_given, given) (ap (λ (o : Option ℕ). turn_from table budget o said.end [] state (next_of rest said.pieces)) front.answers
    ∙ turn-given table budget rest told.answers told.pieces told.end said.pieces said.end state (is_told told.end) refl heard front.front)
turn-by table budget rest told said state false given heard front =
    let said_given : said.given ≡ false = front.given ∙ given in
    rw (said_given, given) refl

-- A turn for which enough was told goes the same over the reply that is said.
pub turn-front : {State : Type 0} (table : Table State) (budget : ℕ) (rest : List ℕ) (told said : Reply) (state : State) → is_heard budget rest told ≡ true → IsFront told said
    → turn_of table budget rest said state ≡ turn_of table budget rest told state
unfolding is_heard
turn-front table budget rest told said state heard front = turn-by table budget rest told said state told.given refl heard front

-- ---- A start

first-more : (end other : End) (next : Next) (more : List (List ℕ)) → is_whole next ≡ true → first_frame other (behind next more) ≡ first_frame end next
first-more end other (Framed (Message dpid bytes) rest pieces) more is = refl
first-more end other (Framed (Done stop checkpoint) rest pieces) more is = refl
first-more end other (Framed Save rest pieces) more is = refl
first-more end other (Framed Keep rest pieces) more is = refl
first-more end other (Framed Undo rest pieces) more is = refl
first-more end other (Framed Ready rest pieces) more is = refl
first-more end other (Faulty fault) more is = refl
first-more end other Over more is = absurd cc

first-given : (told : List (List ℕ)) (end : End) (said : List (List ℕ)) (said_end : End) (ended : Bool) → is_told end ≡ ended → (ended || is_whole (next_of [] told)) ≡ true → IsLookedAt told end said said_end
    → first_frame said_end (next_of [] said) ≡ first_frame end (next_of [] told)
first-given told end said said_end true ended is looked =
    let same = looked-ended told end said said_end looked ended in
    ap₂ (λ (e : End) (ps : List (List ℕ)). first_frame e (next_of [] ps)) same.1 same.0
first-given told end said said_end false ended is looked =
    ap (λ (ps : List (List ℕ)). first_frame said_end (next_of [] ps)) looked.1
    ∙ ap (λ (n : Next). first_frame said_end n) (next_of-more [] told looked.0 is)
    ∙ first-more end said_end (next_of [] told) looked.0 is

start-by : (told said : Start) (stands restored : Bool) → told.stands ≡ stands → told.restored ≡ restored
    → (not stands || (not restored || (is_told told.end || is_whole (next_of [] told.pieces)))) ≡ true → IsStartFront told said → outcome_of said ≡ outcome_of told
unfolding outcome_of
start-by told said true true stands restored heard front =
    let said_stands : said.stands ≡ true = front.stands ∙ stands in
    let said_restored : said.restored ≡ true = front.restored ∙ restored in
    rw (said_stands, said_restored, stands, restored)
    (first-given told.pieces told.end said.pieces said.end (is_told told.end) refl heard front.front)
start-by told said true false stands restored heard front =
    let said_stands : said.stands ≡ true = front.stands ∙ stands in
    let said_restored : said.restored ≡ false = front.restored ∙ restored in
    rw (said_stands, said_restored, stands, restored) refl
start-by told said false restored stands is heard front =
    let said_stands : said.stands ≡ false = front.stands ∙ stands in
    rw (said_stands, stands) refl

-- A start of which enough was told ends the same as the one that is said.
pub start-front : (told said : Start) → is_start_heard told ≡ true → IsStartFront told said → outcome_of said ≡ outcome_of told
unfolding is_start_heard
start-front told said heard front = start-by told said told.stands told.restored refl refl heard front

-- ---- Fronts

-- all of it was looked at
pub looked-all : (pieces : List (List ℕ)) (end : End) → IsLookedAt pieces end pieces end
looked-all pieces end = ([], sym (append-nil pieces), inr (refl, refl))

pub front-refl : (reply : Reply) → IsFront reply reply
front-refl reply = record { given = refl; answers = refl; front = looked-all reply.pieces reply.end }

pub start_front-refl : (start : Start) → IsStartFront start start
start_front-refl start = record { stands = refl; restored = refl; front = looked-all start.pieces start.end }

-- those that are told are their own fronts, whatever more is said
pub fronts-more : (told more : List Reply) → AreFronts told (told ++ more)
fronts-more [] more = tt
fronts-more (reply ∷ told) more = (front-refl reply, fronts-more told more)

pub start_fronts-more : (told more : List Start) → AreStartFronts told (told ++ more)
start_fronts-more [] more = tt
start_fronts-more (start ∷ told) more = (start_front-refl start, start_fronts-more told more)

pub fronts-refl : (told : List Reply) → AreFronts told told
fronts-refl told = subst (AreFronts told) (append-nil told) (fronts-more told [])

pub start_fronts-refl : (told : List Start) → AreStartFronts told told
start_fronts-refl told = subst (AreStartFronts told) (append-nil told) (start_fronts-more told [])

-- of those that are told one behind the other: the first of what is said, and then what follows
pub fronts-parts : (first second said : List Reply) → AreFronts (first ++ second) said → AreFronts first said × AreFronts second (drop (length first) said)
fronts-parts [] second said are = (tt, are)
fronts-parts (reply ∷ first) second [] are = absurd are
fronts-parts (reply ∷ first) second (s ∷ said) are = let rest = fronts-parts first second said are.1 in ((are.0, rest.0), rest.1)

pub start_fronts-parts : (first second said : List Start) → AreStartFronts (first ++ second) said → AreStartFronts first said × AreStartFronts second (drop (length first) said)
start_fronts-parts [] second said are = (tt, are)
start_fronts-parts (start ∷ first) second [] are = absurd are
start_fronts-parts (start ∷ first) second (s ∷ said) are = let rest = start_fronts-parts first second said are.1 in ((are.0, rest.0), rest.1)

-- what is left of a list behind two of these lengths
pub drop-parts : {A : Type 0} (first second xs : List A) → drop (length (first ++ second)) xs ≡ drop (length second) (drop (length first) xs)
drop-parts [] second xs = refl
drop-parts (x ∷ first) second [] = sym (drop-nil (length second))
drop-parts (x ∷ first) second (y ∷ xs) = drop-parts first second xs
