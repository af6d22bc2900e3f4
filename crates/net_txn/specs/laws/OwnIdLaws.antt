-- Laws of the transaction ids of what is said on a link.
use Rattle.std.specs.Prelude.{◌≡◌, ◌==◌, ℕ, ◌+◌, ◌*◌, ◌^◌, ◌<◌, ◌≤◌, Bool, true, false, List, [], ◌∷◌, ◌++◌, length, Option, Some, None, refl}
use Rattle.std.proofs.Common.{sym, ap, ◌∙◌, subst, append_assoc, arith}
use Rattle.std.proofs.lemmas.List.{append-nil, append_cancel_left, length-append}
use Rattle.std.proofs.lemmas.List.Elements.{filter_map-append}
use Rattle.std.proofs.lemmas.Bool.{ne_eqb}
use Rattle.of_wire.specs.declared.message.Message.{Message}
use Rattle.of_wire.specs.declared.message.Message.TheVariants.{EchoReply, BarrierRequest}
use Rattle.of_wire.specs.Kinds.{number_of_kind}
use Rattle.of_wire.specs.Spelling.{kind_of, message_bytes}
use Rattle.outside.specs.declared.step.WorldStep.{WorldStep}
use Rattle.outside.specs.Seen.{Seen, Continues, journal}
use Rattle.outside.specs.laws.SeenLaws.{journal-append}
use Rattle.outside.specs.State.{state, is_joined}
use Rattle.lego_model.specs.declared.wait.Awaited.{Awaited}
use Rattle.lego_model.specs.declared.wait.Heard.{Heard}
use Rattle.lego_model.specs.declared.wait.Heard.TheVariants as heards
use Rattle.lego_model.specs.BarrierWaits.{heard, next_xid}
use Rattle.lego_model.specs.OwnIds.{own_id_of, own_ids, AscendWithin, IsShortRun, OwnIdsAscend, OwnIdsSoFar}
use Rattle.lego_model.specs.laws.OwnIdLaws.{own_ids-append, ascend_le, ascend_to, ascend_then, ascend_front, own_id-sent, own_id-echo}
use Rattle.net_txn.specs.declared.trouble.Trouble.{Trouble}
use Rattle.net_txn.specs.declared.trouble.Trouble.TheVariants as troubles
use Rattle.net_txn.specs.OwnIds.{LeavesStep, IdsGoOn, StopsIds}
use Rattle.net_txn.specs.Said.{Said, Says, Hears, HearsNoise, CannotSay, CannotHear, LacksMemory, id_said, ids_said, Speaks, steps_in, joined_behind, said_steps, unsaid, unheard, said_by, heard_said, wait_said, last_said, frames_said, barrier_of}
use Rattle.net_txn.specs.Waits.{Brought, Waits}

-- ---- The ids of what was said are those of its steps

pub ids_append : (xs ys : List Said) → ids_said (xs ++ ys) ≡ ids_said xs ++ ids_said ys
ids_append xs ys = filter_map-append id_said xs ys

pub own_ids_two : (xs ys : List WorldStep) → own_ids (journal (xs ++ ys)) ≡ own_ids (journal xs) ++ own_ids (journal ys)
own_ids_two xs ys = ap own_ids (journal-append xs ys) ∙ own_ids-append (journal xs) (journal ys)

one_ids : (joined : Bool) (x : Said) → own_ids (journal (steps_in joined x)) ≡ ids_said (x ∷ [])
unfolding own_ids journal
one_ids joined (Says d bytes) = refl
one_ids joined (Hears d bytes) = refl
one_ids joined (HearsNoise d bytes) = refl
one_ids true (CannotSay d) = refl
one_ids false (CannotSay d) = refl
one_ids true (CannotHear d) = refl
one_ids false (CannotHear d) = refl
one_ids joined (LacksMemory d) = refl

pub said_ids : (joined : Bool) (xs : List Said) → own_ids (journal (said_steps joined xs)) ≡ ids_said xs
unfolding own_ids journal
said_ids joined [] = refl
said_ids joined (x ∷ xs) =
    own_ids_two (steps_in joined x) (said_steps (joined_behind joined x) xs)
    ∙ ap (λ (ids : List ℕ). ids ++ own_ids (journal (said_steps (joined_behind joined x) xs))) (one_ids joined x)
    ∙ ap (λ (ids : List ℕ). ids_said (x ∷ []) ++ ids) (said_ids (joined_behind joined x) xs)
    ∙ sym (ids_append (x ∷ []) xs)

-- ---- A wait has none: what it sends are answers to ECHO_REQUESTs

none_two : (xs ys : List Said) → ids_said xs ≡ [] → ids_said ys ≡ [] → ids_said (xs ++ ys) ≡ []
none_two xs ys first second = ids_append xs ys ∙ ap (λ (ids : List ℕ). ids ++ ids_said ys) first ∙ second

by_none : (d : ℕ) (h : Heard) (bytes : List ℕ) → ids_said (said_by d h bytes) ≡ []
by_none d heards.Reply bytes = refl
by_none d (heards.Refused r) bytes = refl
by_none d heards.Notice bytes = refl
by_none d heards.Echo bytes = rw (own_id-echo _ _) refl
by_none d heards.Other bytes = refl

pub wait_ids : (a : Awaited) (got : List (List ℕ)) → ids_said (wait_said a got) ≡ []
wait_ids a [] = refl
wait_ids a (b ∷ bs) = none_two (heard_said a b) (wait_said a bs) (by_none a.dpid (heard a b) b) (wait_ids a bs)

pub unsaid_ids : (d : ℕ) (t : Trouble) → ids_said (unsaid d t) ≡ []
unsaid_ids d troubles.Link = refl
unsaid_ids d (troubles.Broke n) = refl
unsaid_ids d (troubles.Refused k x n) = refl
unsaid_ids d troubles.Flooded = refl
unsaid_ids d troubles.Short = refl
unsaid_ids d troubles.Full = refl
unsaid_ids d troubles.Parted = refl

unheard_ids : (d : ℕ) (t : Trouble) (buf : List ℕ) → ids_said (unheard d t buf) ≡ []
unheard_ids d troubles.Link buf = refl
unheard_ids d (troubles.Broke n) buf = refl
unheard_ids d (troubles.Refused k x n) buf = refl
unheard_ids d troubles.Flooded buf = refl
unheard_ids d troubles.Short buf = refl
unheard_ids d troubles.Full buf = refl
unheard_ids d troubles.Parted buf = refl

pub last_ids : (d : ℕ) (by : Option (List ℕ)) (t : Trouble) (buf : List ℕ) → ids_said (last_said d by t buf) ≡ []
last_ids d None t buf = unheard_ids d t buf
last_ids d (Some m) t buf = unsaid_ids d t

-- ---- Messages that are sent before a wait

-- what is sent before a wait uses so many ids at most, from this one on
abbrev pub FramesAscend : ℕ → ℕ → Awaited → List (List ℕ) → Type 0
FramesAscend xid most a frames = xid + most < 2 ^ 32 → AscendWithin xid (ids_said (frames_said a.dpid frames)) (xid + most)

pub with_none : (xs ys : List Said) → ids_said ys ≡ [] → ids_said (xs ++ ys) ≡ ids_said xs
with_none xs ys none = ids_append xs ys ∙ ap (λ (ids : List ℕ). ids_said xs ++ ids) none ∙ append-nil (ids_said xs)

-- all of them were sent, and then a wait followed
pub whole_ascend : (xid most : ℕ) (a : Awaited) (frames got : List (List ℕ)) (last : List Said) → ids_said last ≡ [] → FramesAscend xid most a frames → xid + most < 2 ^ 32
    → AscendWithin xid (ids_said (frames_said a.dpid frames ++ (wait_said a got ++ last))) (xid + most)
whole_ascend xid most a frames got last none frames_ascend small =
    subst (λ (ids : List ℕ). AscendWithin xid ids (xid + most)) (sym (with_none (frames_said a.dpid frames) (wait_said a got ++ last) (none_two (wait_said a got) last (wait_ids a got) none))) (frames_ascend small)

frames_append : (d : ℕ) (xs ys : List (List ℕ)) → ids_said (frames_said d (xs ++ ys)) ≡ ids_said (frames_said d xs) ++ ids_said (frames_said d ys)
frames_append d [] ys = refl
frames_append d (x ∷ xs) ys =
    ids_append (Says d x ∷ []) (frames_said d (xs ++ ys)) ∙ ap (λ (ids : List ℕ). ids_said (Says d x ∷ []) ++ ids) (frames_append d xs ys)
    ∙ sym (append_assoc (ids_said (Says d x ∷ [])) (ids_said (frames_said d xs)) (ids_said (frames_said d ys)))
    ∙ ap (λ (ids : List ℕ). ids ++ ids_said (frames_said d ys)) (sym (ids_append (Says d x ∷ []) (frames_said d xs)))

-- only the first of them were
pub front_ascend : (xid most : ℕ) (a : Awaited) (frames first rest : List (List ℕ)) (t : Trouble) → frames ≡ first ++ rest → FramesAscend xid most a frames → xid + most < 2 ^ 32
    → AscendWithin xid (ids_said (frames_said a.dpid first ++ unsaid a.dpid t)) (xid + most)
front_ascend xid most a frames first rest t same frames_ascend small =
    let all = subst (λ (fs : List (List ℕ)). AscendWithin xid (ids_said (frames_said a.dpid fs)) (xid + most)) same (frames_ascend small) in
    let two = subst (λ (ids : List ℕ). AscendWithin xid ids (xid + most)) (frames_append a.dpid first rest) all in
    subst (λ (ids : List ℕ). AscendWithin xid ids (xid + most)) (sym (with_none (frames_said a.dpid first) (unsaid a.dpid t) (unsaid_ids a.dpid t))) (ascend_front (ids_said (frames_said a.dpid first)) (ids_said (frames_said a.dpid rest)) xid (xid + most) two)

-- ---- Ids that follow one another

pub next_small : (xid : ℕ) → xid + 1 < 2 ^ 32 → next_xid xid ≡ xid + 1
next_small xid small = rw (ne_eqb xid 4294967295 (λ is. absurd (omega (arith, is, small)))) refl

pub barrier_id : (xid : ℕ) → xid < 2 ^ 32 → own_id_of (message_bytes xid BarrierRequest) ≡ Some xid
barrier_id xid small = own_id-sent xid BarrierRequest small refl

-- one message
pub one_ascends : (xid bound : ℕ) (d : ℕ) (bytes : List ℕ) → own_id_of bytes ≡ Some xid → xid + 1 ≤ bound → AscendWithin xid (ids_said (Says d bytes ∷ [])) bound
one_ascends xid bound d bytes is le = rw is (omega arith, le)

-- and more behind it
pub more_ascend : (xid bound : ℕ) (d : ℕ) (bytes : List ℕ) (rest : List Said) → own_id_of bytes ≡ Some xid → AscendWithin (xid + 1) (ids_said rest) bound → AscendWithin xid (ids_said (Says d bytes ∷ rest)) bound
more_ascend xid bound d bytes rest is behind = rw is (omega arith, behind)

-- a message and a barrier
pub two_ascend : (a : Awaited) (xid : ℕ) (m : Message) (frame : List ℕ) → (number_of_kind (kind_of m) == 3) ≡ false → frame ≡ message_bytes xid m → a.barrier ≡ next_xid xid → FramesAscend xid 2 a (frame ∷ barrier_of a ∷ [])
two_ascend a xid m frame other same barrier small =
    let next = barrier ∙ next_small xid (omega (arith, small)) in
    let first : own_id_of frame ≡ Some xid = ap own_id_of same ∙ own_id-sent xid m (omega (arith, small)) other in
    let second : own_id_of (barrier_of a) ≡ Some (xid + 1) = ap (λ (n : ℕ). own_id_of (message_bytes n BarrierRequest)) next ∙ barrier_id (xid + 1) (omega (arith, small)) in
    more_ascend xid (xid + 2) a.dpid frame (Says a.dpid (barrier_of a) ∷ []) first (one_ascends (xid + 1) (xid + 2) a.dpid (barrier_of a) second (omega arith))

-- two messages and a barrier
pub three_ascend : (a : Awaited) (xid : ℕ) (m n : Message) (frame then_frame : List ℕ) → (number_of_kind (kind_of m) == 3) ≡ false → (number_of_kind (kind_of n) == 3) ≡ false → frame ≡ message_bytes xid m → then_frame ≡ message_bytes (next_xid xid) n
    → a.barrier ≡ next_xid (next_xid xid) → FramesAscend xid 3 a (frame ∷ then_frame ∷ barrier_of a ∷ [])
three_ascend a xid m n frame then_frame other others same then_same barrier small =
    let next = next_small xid (omega (arith, small)) in
    let first : own_id_of frame ≡ Some xid = ap own_id_of same ∙ own_id-sent xid m (omega (arith, small)) other in
    let then_is : then_frame ≡ message_bytes (xid + 1) n = then_same ∙ ap (λ (i : ℕ). message_bytes i n) next in
    let behind : FramesAscend (xid + 1) 2 a (then_frame ∷ barrier_of a ∷ []) = two_ascend a (xid + 1) n then_frame others then_is (barrier ∙ ap next_xid next) in
    let rest : AscendWithin (xid + 1) (ids_said (Says a.dpid then_frame ∷ Says a.dpid (barrier_of a) ∷ [])) (xid + 3) = ascend_to (ids_said (Says a.dpid then_frame ∷ Says a.dpid (barrier_of a) ∷ [])) (xid + 1) (xid + 1 + 2) (xid + 3) (omega arith) (behind (omega (arith, small))) in
    more_ascend xid (xid + 3) a.dpid frame (Says a.dpid then_frame ∷ Says a.dpid (barrier_of a) ∷ []) first rest

-- an answer to an ECHO_REQUEST
pub echo_ascends : (d xid : ℕ) (payload frame : List ℕ) → frame ≡ message_bytes xid (EchoReply payload) → 0 + 0 < 2 ^ 32 → AscendWithin 0 (ids_said (Says d frame ∷ [])) (0 + 0)
echo_ascends d xid payload frame same small = rw (ap own_id_of same ∙ own_id-echo xid payload) (omega arith)

-- the next id behind them
pub second_next : (xid : ℕ) → xid + 2 < 2 ^ 32 → next_xid (next_xid xid) ≡ xid + 2
second_next xid small = ap next_xid (next_small xid (omega (arith, small))) ∙ next_small (xid + 1) (omega (arith, small)) ∙ omega arith

pub third_next : (xid : ℕ) → xid + 3 < 2 ^ 32 → next_xid (next_xid (next_xid xid)) ≡ xid + 3
third_next xid small = ap next_xid (second_next xid (omega (arith, small))) ∙ next_small (xid + 2) (omega (arith, small)) ∙ omega arith

-- ---- What a call leaves

pub leaves_by : {Own : Type 0} {Tells : Type 0} (old new : Seen Own) (known : List WorldStep) → (Tells → new.history ≡ old.history ++ known) → 1 ≤ length known → LeavesStep Tells old new
leaves_by old new known told some tells steps history = subst (λ (s : List WorldStep). 1 ≤ length s) (append_cancel_left old.history known steps (sym (told tells) ∙ history)) some

-- a step at first, and whatever came behind it
pub leaves_then : {Own : Type 0} {Tells : Type 0} {mid new : Seen Own} (old : Seen Own) (known : List WorldStep) → Continues Tells mid new → (Tells → mid.history ≡ old.history ++ known) → 1 ≤ length known → LeavesStep Tells old new
leaves_then {new = new} old known later told some tells steps history =
    let more = later.told tells in
    let all : new.history ≡ old.history ++ (known ++ more.0) = more.1 ∙ ap (λ (h : List WorldStep). h ++ more.0) (told tells) ∙ append_assoc old.history known more.0 in
    subst (λ (s : List WorldStep). 1 ≤ length s) (append_cancel_left old.history (known ++ more.0) steps (sym all ∙ history)) (omega (arith, length-append known more.0, some))

pub waits_leave : {Own : Type 0} {Tells : Type 0} {a : Awaited} {first : WorldStep} {front : List WorldStep} {old new : Seen Own} {kept now_kept : List (ℕ × List ℕ)} {answer : Brought} → Waits Tells a (first ∷ front) old new kept now_kept answer → LeavesStep Tells old new
waits_leave {old = old} {new = new} w = leaves_by old new _ w.hears.told (omega arith)

-- steps whose ids ascend from the next one on
pub so_far_then : {Own : Type 0} (less more : ℕ) (old new : Seen Own) (steps : List WorldStep) (xid next : ℕ) → new.history ≡ old.history ++ steps → AscendWithin xid (own_ids (journal steps)) next → next + less ≤ xid + 4 * length steps + more → OwnIdsSoFar less old xid → OwnIdsSoFar more new next
so_far_then less more old new steps xid next history ascends few before = record {
  ascend =
      let both = ascend_then (own_ids (journal old.history)) (own_ids (journal steps)) 1 xid next before.ascend ascends in
      subst (λ (h : List WorldStep). AscendWithin 1 (own_ids (journal h)) next) (sym history) (subst (λ (ids : List ℕ). AscendWithin 1 ids next) (sym (own_ids_two old.history steps)) both);
  few =
      let size : length new.history ≡ length old.history + length steps = ap (λ (h : List WorldStep). length h) history ∙ length-append old.history steps in
      omega (arith, before.few, few, size);
}

-- none was taken
pub so_far_none : {Own : Type 0} (less more : ℕ) (seen : Seen Own) (xid : ℕ) → less ≤ more → OwnIdsSoFar less seen xid → OwnIdsSoFar more seen xid
so_far_none less more seen xid le before = record { ascend = before.ascend; few = omega (arith, le, before.few) }

pub ids_none : {Own : Type 0} (Tells : Type 0) (more : ℕ) (seen : Seen Own) (xid now_xid : ℕ) → now_xid ≡ xid → IdsGoOn Tells more seen seen xid now_xid
ids_none Tells more seen xid now_xid same told short before = subst (λ (n : ℕ). OwnIdsSoFar more seen n) (sym same) (so_far_none 0 more seen xid (omega arith) before)

-- so they ascend
pub so_far_ascends : {Own : Type 0} (seen : Seen Own) (xid more : ℕ) → IsShortRun seen → more ≤ 8 → OwnIdsSoFar more seen xid → OwnIdsAscend seen
so_far_ascends seen xid more short le so_far = ascend_to (own_ids (journal seen.history)) 1 xid (2 ^ 32) (omega (arith, short, le, so_far.few)) so_far.ascend

-- where the ids do not begin anew
pub small_run : {Own : Type 0} (seen : Seen Own) (xid more : ℕ) → IsShortRun seen → xid ≤ 4 * length seen.history + 1 + more → more ≤ 8 → xid + 8 < 2 ^ 32
small_run seen xid more short few le = omega (arith, short, few, le)

pub short_before : {Own : Type 0} {Tells : Type 0} {old new : Seen Own} → Tells → Continues Tells old new → IsShortRun new → IsShortRun old
short_before {old = old} {new = new} told later short =
    let longer = later.told told in
    let size : length new.history ≡ length old.history + length longer.0 = ap (λ (h : List WorldStep). length h) longer.1 ∙ length-append old.history longer.0 in
    rw (← later.given) (omega (arith, size, short))

speaks_then : {Own : Type 0} {Tells : Type 0} {d xid most : ℕ} {old new : Seen Own} (more now_xid : ℕ) → Speaks Tells d xid most old new → most ≤ 4 → (xid + most < 2 ^ 32 → now_xid ≡ xid + most)
    → (Tells → (steps : List WorldStep) → new.history ≡ old.history ++ steps → most ≤ 4 * length steps + more) → Tells → IsShortRun new → OwnIdsSoFar 0 old xid → OwnIdsSoFar more new now_xid
speaks_then {Tells = Tells} {d = d} {xid = xid} {most = most} {old = old} {new = new} more now_xid s few next enough told short before =
    let joined = is_joined d (state old) in
    let steps = said_steps joined s.said in
    let history = s.calls.told told in
    let small : xid + most < 2 ^ 32 = omega (arith, small_run old xid 0 (short_before told s.calls.continues short) before.few (omega arith), few) in
    let is = next small in
    let ascends = subst (λ (ids : List ℕ). AscendWithin xid ids now_xid) (sym (said_ids joined s.said)) (subst (λ (n : ℕ). AscendWithin xid (ids_said s.said) n) (sym is) (s.ids small)) in
    so_far_then 0 more old new steps xid now_xid history ascends (omega (arith, is, enough told steps history)) before

-- a step at least was left
pub speaks_on_ids : {Own : Type 0} {Tells : Type 0} {d xid most : ℕ} {old new : Seen Own} (now_xid : ℕ) → Speaks Tells d xid most old new → most ≤ 4 → (xid + most < 2 ^ 32 → now_xid ≡ xid + most) → LeavesStep Tells old new → IdsGoOn Tells 0 old new xid now_xid
speaks_on_ids now_xid s few next leaves told short before = speaks_then 0 now_xid s few next (λ tells steps history. let some = leaves tells steps history in omega (arith, few, some)) told short before

-- or none
pub speaks_over_ids : {Own : Type 0} {Tells : Type 0} {d xid most : ℕ} {old new : Seen Own} (now_xid : ℕ) → Speaks Tells d xid most old new → most ≤ 4 → (xid + most < 2 ^ 32 → now_xid ≡ xid + most) → IdsGoOn Tells most old new xid now_xid
speaks_over_ids {most = most} now_xid s few next told short before = speaks_then most now_xid s few next (λ tells steps history. omega arith) told short before

pub speaks_none_taken : {Own : Type 0} {Tells : Type 0} {d : ℕ} {old new : Seen Own} (xid now_xid : ℕ) → Speaks Tells d 0 0 old new → now_xid ≡ xid → IdsGoOn Tells 0 old new xid now_xid
speaks_none_taken {Tells = Tells} {d = d} {old = old} {new = new} xid now_xid s same told short before =
    let joined = is_joined d (state old) in
    let steps = said_steps joined s.said in
    let none : AscendWithin 0 (ids_said s.said) 0 = s.ids (omega arith) in
    let ascends = subst (λ (ids : List ℕ). AscendWithin xid ids xid) (sym (said_ids joined s.said ∙ no_ids (ids_said s.said) none)) (omega arith) in
    subst (λ (n : ℕ). OwnIdsSoFar 0 new n) (sym same) (so_far_then 0 0 old new steps xid xid (s.calls.told told) ascends (omega arith) before)
  where
    no_ids : (ids : List ℕ) → AscendWithin 0 ids 0 → ids ≡ []
    no_ids [] all = refl
    no_ids (id ∷ ids) all = absurd (omega (arith, ascend_le ids (id + 1) 0 all.1))

-- one after the other
pub ids_then : {Own : Type 0} {Tells : Type 0} {more : ℕ} {old mid new : Seen Own} {xid then_xid now_xid : ℕ} → Continues Tells mid new → IdsGoOn Tells 0 old mid xid then_xid → IdsGoOn Tells more mid new then_xid now_xid → IdsGoOn Tells more old new xid now_xid
ids_then later first second told short before = second told short (first told (short_before told later short) before)

pub stops_then : {Own : Type 0} {Tells : Type 0} {old mid new : Seen Own} {xid then_xid : ℕ} → Continues Tells mid new → IdsGoOn Tells 0 old mid xid then_xid → StopsIds Tells mid new then_xid → StopsIds Tells old new xid
stops_then later first second told short before = second told short (first told (short_before told later short) before)

pub speaks_stop : {Own : Type 0} {Tells : Type 0} {d : ℕ} {old new : Seen Own} (xid : ℕ) → Speaks Tells d xid 2 old new → StopsIds Tells old new xid
speaks_stop {new = new} xid s told short before =
    let after = speaks_over_ids (next_xid (next_xid xid)) s (omega arith) (λ small. second_next xid small) told short before in
    so_far_ascends new (next_xid (next_xid xid)) 2 short (omega arith) after
