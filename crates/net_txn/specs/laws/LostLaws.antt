-- Laws of switches that are lost in calls: what was said before the link failed, and what is seen of the loss.
use Rattle.std.specs.Prelude.{◌≡◌, ◌≢◌, ℕ, ◌^◌, ◌<◌, ◌≤◌, Bool, true, false, List, [], ◌∷◌, ◌++◌, length, filter, ◌⊎◌, Option, Some, None, IsOk, refl}
use Rattle.std.specs.List.{AllByRecursion, flat_map, list_any}
use Rattle.std.proofs.Common.{sym, ap, ◌∙◌, subst, append_assoc, inl, inr, arith}
use Rattle.std.proofs.lemmas.List.{append-nil, length-append}
use Rattle.std.proofs.lemmas.Grind.{flat_map-append}
use Rattle.std.proofs.lemmas.List.Elements.{filter_map-append, filter-append}
use Rattle.lego_io.specs.Count.{Rose}
use Rattle.of_types.specs.declared.journal.Act.{Act}
use Rattle.of_wire.specs.declared.message.Message.TheVariants.{BarrierRequest, BarrierReply}
use Rattle.of_wire.specs.Reading.{reading_of}
use Rattle.of_wire.specs.Spelling.{message_bytes}
use Rattle.of_wire.specs.laws.ReadingLaws.{reading_of-message_bytes}
use Rattle.outside.specs.declared.step.WorldStep.{WorldStep}
use Rattle.outside.specs.declared.step.WorldStep.TheVariants.{SendLost, RecvLost}
use Rattle.outside.specs.Seen.{Seen, journal}
use Rattle.outside.specs.laws.SeenLaws.{journal-append}
use Rattle.outside.specs.State.{State, after_steps, state, switch_of, waits_of, is_joined}
use Rattle.outside.specs.laws.StateLaws.{after_steps-append, state-append}
use Rattle.outside.specs.laws.LinkLaws.{switch_of-send_lost, waits_of-send_lost, switch_of-recv_lost, waits_of-recv_lost}
use Rattle.outside.specs.InOrder.{BringMessages, MessagesSince}
use Rattle.outside.specs.laws.InOrderLaws.{messages-append, messages-by}
use Rattle.lego_model.specs.Journal.{packet_read, released_in, released, lost_in, losses, sends_change}
use Rattle.lego_model.specs.AtOnce.{SendsNone}
use Rattle.lego_model.specs.Packets.{Held, held_of}
use Rattle.lego_model.specs.History.{lost_of}
use Rattle.lego_model.specs.UndoFaults.{loses}
use Rattle.lego_model.specs.declared.wait.Awaited.{Awaited}
use Rattle.lego_model.specs.declared.wait.Heard.{Heard}
use Rattle.lego_model.specs.declared.wait.Heard.TheVariants as heards
use Rattle.lego_model.specs.BarrierWaits.{heard, wait_steps, reply_got}
use Rattle.net_txn.specs.declared.halt.Halt.{Halt}
use Rattle.net_txn.specs.declared.halt.Halt.TheVariants.{Lost, Fault}
use Rattle.lego_model.specs.declared.fault.TxnFault.{TxnFault}
use Rattle.lego_model.specs.declared.fault.TxnFault.TheVariants.{NoMemory}
use Rattle.net_txn.specs.declared.queue.Storage.TheVariants.{Growing}
use Rattle.net_txn.specs.declared.trouble.Trouble.{Trouble}
use Rattle.net_txn.specs.declared.trouble.Trouble.TheVariants as troubles
use Rattle.net_txn.specs.Waits.{Brought, IsRead, Waits}
use Rattle.net_txn.specs.LinkSteps.{AreLinkSteps}
use Rattle.net_txn.specs.laws.LinkStepLaws.{links_append, wait_links}
use Rattle.net_txn.specs.Losing.{GoesOut, SaysNone, IsLost, SaysHalt, WaitHalts}
use Rattle.net_txn.specs.Said.{Said, Says, Hears, HearsNoise, CannotSay, CannotHear, LacksMemory, steps_in, joined_behind, said_steps, IsSaid, IsSaidTo, AreSaidTo, Calls, unsaid, unheard, last_said, said_by, heard_said, wait_said, frames_said, barrier_of, IsOfLink, reply_heard, IsBreak, Replied, Breaks, BreaksBy, IsHaltBy, SaysNot}
use Rattle.net_txn.specs.laws.OwnIdLaws.{leaves_by}
use Rattle.net_txn.specs.laws.EchoLaws.{echo_reply-reading}
use Rattle.net_txn.specs.laws.HeardLaws.{IsMessage-barrier, IsMessage-reply}
use Rattle.net_txn.specs.laws.LinkPresenceLaws.{losses_by, lost_none_all, loses-append}
use Rattle.net_txn.specs.laws.PartLaws.{steps_other}
use Rattle.net_txn.specs.laws.SaidLaws.{all_two, all_behind, all_of_switch, is_fine, AreFine, fine_append, fine_none_lost, fine_frames, fine_wait, said_links, wait_none_lost, Calls-same, Calls-then, Calls-moves}
use Rattle.net_txn.specs.laws.TalkLaws.{front_steps, talks_cause, talks_flooded}
use Rattle.net_txn.specs.Undos.{is_of_link}

-- ---- The packets that were released

abbrev pub packets_by : Said → List Held
packets_by (Says d bytes) = held_of (packet_read d (reading_of bytes))
packets_by other = []

unfoldable pub packets_said : List Said → List Held
packets_said said = flat_map packets_by said

pub packets_append : (xs ys : List Said) → packets_said (xs ++ ys) ≡ packets_said xs ++ packets_said ys
unfolding packets_said
packets_append xs ys = flat_map-append packets_by xs ys

pub packets_none : packets_said [] ≡ []
unfolding packets_said
packets_none = refl

sent_packet : (o : Option Held) (rest : List Act) (d : ℕ) (bytes : List ℕ) → packet_read d (reading_of bytes) ≡ o → released (journal (said_steps true (Says d bytes ∷ []))) ≡ held_of o
unfolding released journal
sent_packet None rest d bytes is = rw is refl
sent_packet (Some held) rest d bytes is = rw is refl

one_released : (joined : Bool) (x : Said) → released (journal (steps_in joined x)) ≡ packets_by x
unfolding released journal
one_released joined (Says d bytes) = sent_packet (packet_read d (reading_of bytes)) [] d bytes refl
one_released joined (Hears d bytes) = refl
one_released joined (HearsNoise d bytes) = refl
one_released true (CannotSay d) = refl
one_released false (CannotSay d) = refl
one_released true (CannotHear d) = refl
one_released false (CannotHear d) = refl
one_released joined (LacksMemory d) = refl

pub released_two : (xs ys : List WorldStep) → released (journal (xs ++ ys)) ≡ released (journal xs) ++ released (journal ys)
unfolding released
released_two xs ys = ap (λ (acts : List Act). released acts) (journal-append xs ys) ∙ filter_map-append released_in (journal xs) (journal ys)

-- what the steps release
pub said_released : (joined : Bool) (xs : List Said) → released (journal (said_steps joined xs)) ≡ packets_said xs
unfolding packets_said released journal
said_released joined [] = refl
said_released joined (x ∷ xs) =
    released_two (steps_in joined x) (said_steps (joined_behind joined x) xs)
    ∙ ap (λ (ps : List Held). ps ++ released (journal (said_steps (joined_behind joined x) xs))) (one_released joined x)
    ∙ ap (λ (ps : List Held). packets_by x ++ ps) (said_released (joined_behind joined x) xs)

-- messages in a wait release none
by_none : (d : ℕ) (h : Heard) (bytes : List ℕ) → IsRead bytes → packets_said (said_by d h bytes) ≡ []
unfolding packets_said
by_none d heards.Reply bytes read = refl
by_none d (heards.Refused r) bytes read = refl
by_none d heards.Notice bytes read = refl
by_none d heards.Echo bytes read = rw (echo_reply-reading bytes read.0 read.1) refl
by_none d heards.Other bytes read = refl

pub heard_none : (d : ℕ) (bytes : List ℕ) → packets_said (Hears d bytes ∷ []) ≡ []
unfolding packets_said
heard_none d bytes = refl

pub none_two : (xs ys : List Said) → packets_said xs ≡ [] → packets_said ys ≡ [] → packets_said (xs ++ ys) ≡ []
none_two xs ys first second = packets_append xs ys ∙ ap (λ (ps : List Held). ps ++ packets_said ys) first ∙ second

pub wait_none : (a : Awaited) (got : List (List ℕ)) → AllByRecursion IsRead got → packets_said (wait_said a got) ≡ []
wait_none a [] read = packets_none
wait_none a (b ∷ bs) read =
    none_two (heard_said a b) (wait_said a bs) (none_two (Hears a.dpid b ∷ []) (said_by a.dpid (heard a b) b) (heard_none a.dpid b) (by_none a.dpid (heard a b) b read.0)) (wait_none a bs read.1)

-- ---- No switch is lost by calls that did not fail

pub losses_two : (xs ys : List Act) → losses (xs ++ ys) ≡ losses xs ++ losses ys
unfolding losses
losses_two xs ys = filter_map-append lost_in xs ys

pub losses_then : {Own : Type 0} (old new : Seen Own) (steps : List WorldStep) → new.history ≡ old.history ++ steps → lost_of new ≡ lost_of old ++ losses (journal steps)
losses_then old new steps history = ap (λ (s : List WorldStep). losses (journal s)) history ∙ ap (λ (acts : List Act). losses acts) (journal-append old.history steps) ∙ losses_two (journal old.history) (journal steps)

pub losses_none : {Own : Type 0} {Tells : Type 0} {d : ℕ} (said : List Said) (old new : Seen Own) → Calls Tells d said old new → AreFine said → Tells → lost_of new ≡ lost_of old
losses_none {d = d} said old new c fine told =
    let joined = is_joined d (state old) in
    losses_then old new (said_steps joined said) (c.told told)
    ∙ ap (λ (ds : List ℕ). lost_of old ++ ds) (losses_by (said_steps joined said) (said_links joined said) ∙ lost_none_all (said_steps joined said) (fine_none_lost joined said fine))
    ∙ append-nil (lost_of old)

-- ---- A call that failed, behind others

-- what was said last is that the link failed
abbrev pub IsFailed : ℕ → Said → Type 0
IsFailed d (CannotSay e) = e ≡ d
IsFailed d (CannotHear e) = e ≡ d
IsFailed d other = ⊥

pub failed_out : (d : ℕ) (x : Said) (s : State) → IsFailed d x → switch_of d (after_steps (steps_in true x) s) ≡ None
failed_out d (CannotSay e) s is = subst (λ (n : ℕ). switch_of d (after_steps (SendLost n ∷ []) s) ≡ None) (sym is) (switch_of-send_lost d s)
failed_out d (CannotHear e) s is = subst (λ (n : ℕ). switch_of d (after_steps (RecvLost n ∷ []) s) ≡ None) (sym is) (switch_of-recv_lost d s)
failed_out d (Says e bytes) s is = absurd is
failed_out d (Hears e bytes) s is = absurd is
failed_out d (HearsNoise e bytes) s is = absurd is
failed_out d (LacksMemory e) s is = absurd is

pub failed_waits : (d : ℕ) (x : Said) (s : State) → IsFailed d x → waits_of d (after_steps (steps_in true x) s) ≡ []
failed_waits d (CannotSay e) s is = subst (λ (n : ℕ). waits_of d (after_steps (SendLost n ∷ []) s) ≡ []) (sym is) (waits_of-send_lost d s)
failed_waits d (CannotHear e) s is = subst (λ (n : ℕ). waits_of d (after_steps (RecvLost n ∷ []) s) ≡ []) (sym is) (waits_of-recv_lost d s)
failed_waits d (Says e bytes) s is = absurd is
failed_waits d (Hears e bytes) s is = absurd is
failed_waits d (HearsNoise e bytes) s is = absurd is
failed_waits d (LacksMemory e) s is = absurd is

pub failed_lost : (d : ℕ) (x : Said) → IsFailed d x → losses (journal (steps_in true x)) ≡ d ∷ []
unfolding losses journal
failed_lost d (CannotSay e) is = ap (λ (n : ℕ). n ∷ []) is
failed_lost d (CannotHear e) is = ap (λ (n : ℕ). n ∷ []) is
failed_lost d (Says e bytes) is = absurd is
failed_lost d (Hears e bytes) is = absurd is
failed_lost d (HearsNoise e bytes) is = absurd is
failed_lost d (LacksMemory e) is = absurd is

pub failed_none : (d : ℕ) (x : Said) → IsFailed d x → packets_said (x ∷ []) ≡ []
unfolding packets_said
failed_none d (CannotSay e) is = refl
failed_none d (CannotHear e) is = refl
failed_none d (Says e bytes) is = absurd is
failed_none d (Hears e bytes) is = absurd is
failed_none d (HearsNoise e bytes) is = absurd is
failed_none d (LacksMemory e) is = absurd is

rose_by : {Own : Type 0} (d : ℕ) (x : Said) (old new : Seen Own) → IsFailed d x → IsSaid d old.counts new.counts x → Rose (old.counts.link_faults d) (new.counts.link_faults d)
rose_by d (CannotSay e) old new is said = said.1
rose_by d (CannotHear e) old new is said = said.1
rose_by d (Says e bytes) old new is said = absurd is
rose_by d (Hears e bytes) old new is said = absurd is
rose_by d (HearsNoise e bytes) old new is said = absurd is
rose_by d (LacksMemory e) old new is said = absurd is

pub one_alone : (joined : Bool) (x : Said) → said_steps joined (x ∷ []) ≡ steps_in joined x
one_alone joined x = append-nil (steps_in joined x)

pub goes_out : {Own : Type 0} {Tells : Type 0} {old new : Seen Own} (d : ℕ) (front : List Said) (last : Said) → AreFine front → IsFailed d last → Calls Tells d (front ++ last ∷ []) old new → Tells → is_joined d (state old) ≡ true
    → GoesOut d (packets_said front) old new
goes_out {old = old} {new = new} d front last fine failed c told joined =
    let said = front ++ last ∷ [] in
    let first = said_steps true front in
    let steps = said_steps true said in
    let two : steps ≡ first ++ steps_in true last = fine_append true front (last ∷ []) fine ∙ ap (λ (s : List WorldStep). first ++ s) (one_alone true last) in
    let history : new.history ≡ old.history ++ steps = c.told told ∙ ap (λ (b : Bool). old.history ++ said_steps b said) joined in
    let mid = after_steps first (state old) in
    let after : state new ≡ after_steps (steps_in true last) mid =
    state-append old new steps c.continues.given history ∙ ap (λ (s : List WorldStep). after_steps s (state old)) two ∙ after_steps-append first (steps_in true last) (state old) in
    let others = λ (e : ℕ) (other : e ≢ d). steps_other d e steps (state old) other (Calls-moves steps (ap (λ (b : Bool). said_steps b said) joined) c).each in
    record {
      steps = steps;
      history = history;
      lost = ap (λ (s : List WorldStep). losses (journal s)) two ∙ ap (λ (acts : List Act). losses acts) (journal-append first (steps_in true last)) ∙ losses_two (journal first) (journal (steps_in true last))
          ∙ ap (λ (ds : List ℕ). ds ++ losses (journal (steps_in true last))) (losses_by first (said_links true front) ∙ lost_none_all first (fine_none_lost true front fine)) ∙ failed_lost d last failed;
      released_is = said_released true said ∙ packets_append front (last ∷ []) ∙ ap (λ (ps : List Held). packets_said front ++ ps) (failed_none d last failed) ∙ append-nil (packets_said front);
      out = ap (λ (s : State). switch_of d s) after ∙ failed_out d last mid failed;
      waits = ap (λ (s : State). waits_of d s) after ∙ failed_waits d last mid failed;
      others = λ e other. ap (λ (s : State). switch_of e s) (state-append old new steps c.continues.given history) ∙ (others e other).0;
      others_wait = λ e other. ap (λ (s : State). waits_of e s) (state-append old new steps c.continues.given history) ∙ (others e other).1;
    }

-- where the switch is out no change is sent to it
one_none_sent : (x : Said) → IsSaidTo false x → SendsNone (journal (steps_in false x))
unfolding journal
one_none_sent (Says e bytes) is = absurd cc
one_none_sent (Hears e bytes) is = refl
one_none_sent (HearsNoise e bytes) is = refl
one_none_sent (CannotSay e) is = refl
one_none_sent (CannotHear e) is = refl
one_none_sent (LacksMemory e) is = refl

out_behind : (x : Said) → joined_behind false x ≡ false
out_behind (Says e bytes) = refl
out_behind (Hears e bytes) = refl
out_behind (HearsNoise e bytes) = refl
out_behind (CannotSay e) = refl
out_behind (CannotHear e) = refl
out_behind (LacksMemory e) = refl

sends_none_two : (xs ys : List WorldStep) → SendsNone (journal xs) → SendsNone (journal ys) → SendsNone (journal (xs ++ ys))
sends_none_two xs ys first second =
    ap (λ (acts : List Act). filter sends_change acts) (journal-append xs ys) ∙ filter-append sends_change (journal xs) (journal ys) ∙ ap (λ (acts : List Act). acts ++ filter sends_change (journal ys)) first ∙ second

none_sent_out : (xs : List Said) → AreSaidTo false xs → SendsNone (journal (said_steps false xs))
unfolding journal
none_sent_out [] said = refl
none_sent_out (x ∷ xs) said =
    sends_none_two (steps_in false x) (said_steps (joined_behind false x) xs) (one_none_sent x said.0)
    (subst (λ (b : Bool). SendsNone (journal (said_steps b xs))) (sym (out_behind x)) (none_sent_out xs (subst (λ (b : Bool). AreSaidTo b xs) (out_behind x) said.1)))

says_none : {Own : Type 0} {Tells : Type 0} {d : ℕ} {old new : Seen Own} (said : List Said) → Calls Tells d said old new → Tells → is_joined d (state old) ≡ false → SaysNone old new
says_none {old = old} said c told out = record {
  steps = said_steps false said;
  history = c.told told ∙ ap (λ (b : Bool). old.history ++ said_steps b said) out;
  none_sent = none_sent_out said (subst (λ (b : Bool). AreSaidTo b said) out (c.joined told));
}

-- its step
one_by : (d : ℕ) (joined : Bool) (x : Said) → IsFailed d x → 1 ≤ length (steps_in joined x)
one_by d true (CannotSay e) is = omega arith
one_by d false (CannotSay e) is = omega arith
one_by d true (CannotHear e) is = omega arith
one_by d false (CannotHear e) is = omega arith
one_by d joined (Says e bytes) is = absurd is
one_by d joined (Hears e bytes) is = absurd is
one_by d joined (HearsNoise e bytes) is = absurd is
one_by d joined (LacksMemory e) is = absurd is

pub some_by : (d : ℕ) (joined : Bool) (front : List Said) (last : Said) → IsFailed d last → 1 ≤ length (said_steps joined (front ++ last ∷ []))
some_by d joined [] last failed = rw (one_alone joined last) (one_by d joined last failed)
some_by d joined (x ∷ xs) last failed =
    let rest = said_steps (joined_behind joined x) (xs ++ last ∷ []) in
    omega (arith, length-append (steps_in joined x) rest, some_by d (joined_behind joined x) xs last failed)

pub is_lost : {Own : Type 0} {Tells : Type 0} {old new : Seen Own} (d : ℕ) (packets : List Held) (front : List Said) (last : Said) → AreFine front → IsFailed d last → packets_said front ≡ packets → Calls Tells d (front ++ last ∷ []) old new → IsLost Tells d packets old new
is_lost {Tells = Tells} {old = old} {new = new} d packets front last fine failed same c = record {
  rose = rose_by d last old new failed (all_behind (IsSaid d old.counts new.counts) front (last ∷ []) c.each).0;
  only = λ told. record {
    steps = said_steps (is_joined d (state old)) (front ++ last ∷ []);
    history = c.told told;
    each = all_of_switch (is_joined d (state old)) d old.counts new.counts (front ++ last ∷ []) c.each;
  };
  some = leaves_by old new (said_steps (is_joined d (state old)) (front ++ last ∷ [])) c.told (some_by d (is_joined d (state old)) front last failed);
  out = λ told joined. subst (λ (ps : List Held). GoesOut d ps old new) same (goes_out d front last fine failed c told joined);
  was_out = λ told out. says_none (front ++ last ∷ []) c told out;
}

-- ---- Messages that were got before

-- what was heard is a message
abbrev pub IsReadSaid : Said → Type 0
IsReadSaid (Hears d bytes) = IsOk (reading_of bytes)
IsReadSaid (HearsNoise d bytes) = ⊥
IsReadSaid other = Unit {0}

read_ok : (bytes : List ℕ) (d : ℕ) → IsOk (reading_of bytes) → BringMessages (steps_in true (Hears d bytes))
read_ok bytes d ok = (ok, tt)

one_brings : (joined : Bool) (x : Said) → IsReadSaid x → BringMessages (steps_in joined x)
one_brings joined (Says d bytes) read = (refl, tt)
one_brings joined (Hears d bytes) read = read_ok bytes d read
one_brings joined (HearsNoise d bytes) read = absurd read
one_brings true (CannotSay d) read = (refl, tt)
one_brings false (CannotSay d) read = (refl, tt)
one_brings true (CannotHear d) read = (refl, tt)
one_brings false (CannotHear d) read = (refl, tt)
one_brings joined (LacksMemory d) read = tt

pub said_brings : (joined : Bool) (xs : List Said) → AllByRecursion IsReadSaid xs → BringMessages (said_steps joined xs)
said_brings joined [] read = tt
said_brings joined (x ∷ xs) read = messages-append (steps_in joined x) (said_steps (joined_behind joined x) xs) (one_brings joined x read.0) (said_brings (joined_behind joined x) xs read.1)

pub Calls-read : {Own : Type 0} {Tells : Type 0} {d : ℕ} {old new : Seen Own} (said : List Said) → Calls Tells d said old new → AllByRecursion IsReadSaid said → Tells → MessagesSince old new
Calls-read {d = d} {old = old} {new = new} said c read told =
    messages-by old new (said_steps (is_joined d (state old)) said) (c.told told) (said_brings (is_joined d (state old)) said read)

pub frames_read : (d : ℕ) (frames : List (List ℕ)) → AllByRecursion IsReadSaid (frames_said d frames)
frames_read d [] = tt
frames_read d (f ∷ fs) = (tt, frames_read d fs)

by_read : (d : ℕ) (h : Heard) (bytes : List ℕ) → AllByRecursion IsReadSaid (said_by d h bytes)
by_read d heards.Reply bytes = tt
by_read d (heards.Refused r) bytes = tt
by_read d heards.Notice bytes = tt
by_read d heards.Echo bytes = (tt, tt)
by_read d heards.Other bytes = tt

pub wait_read : (a : Awaited) (got : List (List ℕ)) → AllByRecursion IsRead got → AllByRecursion IsReadSaid (wait_said a got)
wait_read a [] read = tt
wait_read a (b ∷ bs) read = all_two IsReadSaid (heard_said a b) (wait_said a bs) (read.0.1, by_read a.dpid (heard a b) b) (wait_read a bs read.1)

-- ---- How a trouble ends

either_fault : (x y : TxnFault) → (Lost ≡ Fault x) ⊎ (Lost ≡ Fault y) → ⊥
either_fault x y (inl same) = absurd cc
either_fault x y (inr same) = absurd cc

-- a switch is lost where its link fails, or it is parted with
lost_of_link : (d : ℕ) (t : Trouble) (buf : List ℕ) → IsHaltBy d t buf Lost → is_of_link t ≡ true
lost_of_link d troubles.Link buf is = refl
lost_of_link d (troubles.Broke n) buf is = absurd (either_fault _ _ is)
lost_of_link d (troubles.Refused k x n) buf is = absurd (either_fault _ _ is)
lost_of_link d troubles.Flooded buf is = absurd (either_fault _ _ is)
lost_of_link d troubles.Short buf is = absurd (either_fault _ _ is)
lost_of_link d troubles.Full buf is = absurd (either_fault _ _ is)
lost_of_link d troubles.Parted buf is = refl

-- of a message that could not be sent
unsent_is_link : (t : Trouble) → IsOfLink t → is_of_link t ≡ true → t ≡ troubles.Link
unsent_is_link troubles.Link why is = refl
unsent_is_link (troubles.Broke n) why is = absurd why
unsent_is_link (troubles.Refused k x n) why is = absurd why
unsent_is_link troubles.Flooded why is = absurd why
unsent_is_link troubles.Short why is = absurd cc
unsent_is_link troubles.Full why is = absurd why
unsent_is_link troubles.Parted why is = absurd why

pub fault_is_none : (d : ℕ) (t : Trouble) (buf : List ℕ) (fault : TxnFault) → IsHaltBy d t buf (Fault fault) → is_of_link t ≡ false
fault_is_none d troubles.Link buf fault is = absurd cc
fault_is_none d (troubles.Broke n) buf fault is = refl
fault_is_none d (troubles.Refused k x n) buf fault is = refl
fault_is_none d troubles.Flooded buf fault is = refl
fault_is_none d troubles.Short buf fault is = refl
fault_is_none d troubles.Full buf fault is = refl
fault_is_none d troubles.Parted buf fault is = absurd cc

pub fine_unsaid : (d : ℕ) (t : Trouble) → is_of_link t ≡ false → AreFine (unsaid d t)
fine_unsaid d troubles.Link none = absurd cc
fine_unsaid d (troubles.Broke n) none = tt
fine_unsaid d (troubles.Refused k x n) none = tt
fine_unsaid d troubles.Flooded none = tt
fine_unsaid d troubles.Short none = (refl, tt)
fine_unsaid d troubles.Full none = tt
fine_unsaid d troubles.Parted none = absurd cc

fine_unheard : (d : ℕ) (t : Trouble) (buf : List ℕ) → is_of_link t ≡ false → AreFine (unheard d t buf)
fine_unheard d troubles.Link buf none = absurd cc
fine_unheard d (troubles.Broke n) buf none = (refl, tt)
fine_unheard d (troubles.Refused k x n) buf none = tt
fine_unheard d troubles.Flooded buf none = tt
fine_unheard d troubles.Short buf none = (refl, tt)
fine_unheard d troubles.Full buf none = tt
fine_unheard d troubles.Parted buf none = absurd cc

pub fine_last : (d : ℕ) (by : Option (List ℕ)) (t : Trouble) (buf : List ℕ) → is_of_link t ≡ false → AreFine (last_said d by t buf)
fine_last d None t buf none = fine_unheard d t buf none
fine_last d (Some b) t buf none = (refl, fine_unsaid d t none)

-- ---- A message that could not be sent

short_is : (d : ℕ) (t : Trouble) (buf : List ℕ) (fault : TxnFault) → IsOfLink t → IsHaltBy d t buf (Fault fault) → fault ≡ NoMemory
short_is d troubles.Link buf fault why is = absurd cc
short_is d (troubles.Broke n) buf fault why is = absurd why
short_is d (troubles.Refused k x n) buf fault why is = absurd why
short_is d troubles.Flooded buf fault why is = absurd why
short_is d troubles.Short buf fault why is = one is
  where
    one : (Fault fault ≡ Fault NoMemory) ⊎ (Fault fault ≡ Fault NoMemory) → fault ≡ NoMemory
    one (inl same) = cc
    one (inr same) = cc
short_is d troubles.Full buf fault why is = absurd why
short_is d troubles.Parted buf fault why is = absurd why

pub says_halts : {Own : Type 0} {Tells : Type 0} {d : ℕ} {old new : Seen Own} (halt : Halt) → SaysNot Tells d old new halt → SaysHalt Tells d old new halt
says_halts {Tells = Tells} {d = d} {old = old} {new = new} Lost s =
    let c = subst (λ (t : Trouble). Calls Tells d (unsaid d t) old new) (unsent_is_link s.trouble s.why (lost_of_link d s.trouble s.buf s.halt_is)) s.calls in
    (is_lost d [] [] (CannotSay d) tt refl packets_none c, Calls-read (CannotSay d ∷ []) c (tt, tt))
says_halts {d = d} {old = old} {new = new} (Fault fault) s =
    (short_is d s.trouble s.buf fault s.why s.halt_is, losses_none (unsaid d s.trouble) old new s.calls (fine_unsaid d s.trouble (fault_is_none d s.trouble s.buf fault s.halt_is)))

-- ---- A wait that failed

first_none : (xs ys : List Held) → xs ++ ys ≡ [] → xs ≡ []
first_none [] ys none = refl
first_none (x ∷ xs) ys none = absurd cc

pub frames_append : (d : ℕ) (xs ys : List (List ℕ)) → packets_said (frames_said d (xs ++ ys)) ≡ packets_said (frames_said d xs) ++ packets_said (frames_said d ys)
unfolding packets_said
frames_append d [] ys = refl
frames_append d (x ∷ xs) ys =
    ap (λ (ps : List Held). packets_by (Says d x) ++ ps) (frames_append d xs ys) ∙ sym (append_assoc (packets_by (Says d x)) (packets_said (frames_said d xs)) (packets_said (frames_said d ys)))

pub barrier_none : (d xid : ℕ) → xid < 2 ^ 32 → packets_said (frames_said d (message_bytes xid BarrierRequest ∷ [])) ≡ []
unfolding packets_said
barrier_none d xid small = rw (reading_of-message_bytes xid BarrierRequest small IsMessage-barrier) refl

-- messages that release nothing, and a barrier
pub both_none : (a : Awaited) (first : List (List ℕ)) → a.barrier < 2 ^ 32 → packets_said (frames_said a.dpid first) ≡ [] → packets_said (frames_said a.dpid (first ++ barrier_of a ∷ [])) ≡ []
both_none a first small none =
    frames_append a.dpid first (barrier_of a ∷ []) ∙ ap (λ (ps : List Held). ps ++ packets_said (frames_said a.dpid (barrier_of a ∷ []))) none ∙ barrier_none a.dpid a.barrier small

pub front_none : (d : ℕ) (frames xs ys : List (List ℕ)) → frames ≡ xs ++ ys → packets_said (frames_said d frames) ≡ [] → packets_said (frames_said d xs) ≡ []
front_none d frames xs ys same none =
    first_none (packets_said (frames_said d xs)) (packets_said (frames_said d ys)) (sym (frames_append d xs ys) ∙ ap (λ (fs : List (List ℕ)). packets_said (frames_said d fs)) (sym same) ∙ none)

-- behind messages that came, its link failed, or it was parted with
ended_lost : {Own : Type 0} {Tells : Type 0} {old new : Seen Own} (a : Awaited) (frames got : List (List ℕ)) (last : Said) → packets_said (frames_said a.dpid frames) ≡ [] → AllByRecursion IsRead got → IsReadSaid last → IsFailed a.dpid last
    → Calls Tells a.dpid (frames_said a.dpid frames ++ (wait_said a got ++ last ∷ [])) old new → IsLost Tells a.dpid [] old new × (Tells → MessagesSince old new)
ended_lost {Tells = Tells} {old = old} {new = new} a frames got last none read last_read failed c =
    let d = a.dpid in
    let xs = frames_said d frames in
    let ys = wait_said a got in
    let said = all_two IsReadSaid xs (ys ++ last ∷ []) (frames_read d frames) (all_two IsReadSaid ys (last ∷ []) (wait_read a got read) (last_read, tt)) in (
      is_lost d [] (xs ++ ys) last (all_two (λ x. is_fine x ≡ true) xs ys (fine_frames d frames) (fine_wait a got)) failed (none_two xs ys none (wait_none a got read))
          (Calls-same (sym (append_assoc xs ys (last ∷ []))) c),
      Calls-read (xs ++ (ys ++ last ∷ [])) c said,
    )

unreplied_lost : {Own : Type 0} {Tells : Type 0} {old new : Seen Own} (a : Awaited) (frames got : List (List ℕ)) (by : Option (List ℕ)) (buf : List ℕ) (n : ℕ) → packets_said (frames_said a.dpid frames) ≡ [] → AllByRecursion IsRead got
    → (t : Trouble) → is_of_link t ≡ true → IsBreak a [] Growing n by t buf → Calls Tells a.dpid (frames_said a.dpid frames ++ (wait_said a got ++ last_said a.dpid by t buf)) old new → IsLost Tells a.dpid [] old new × (Tells → MessagesSince old new)
unreplied_lost a frames got None buf n none read troubles.Link of why c = ended_lost a frames got (CannotHear a.dpid) none read tt refl c
unreplied_lost a frames got None buf n none read troubles.Parted of why c = ended_lost a frames got (CannotSay a.dpid) none read tt refl c
unreplied_lost a frames got by buf n none read (troubles.Broke m) of why c = absurd cc
unreplied_lost a frames got by buf n none read (troubles.Refused k x m) of why c = absurd cc
unreplied_lost a frames got by buf n none read troubles.Flooded of why c = absurd cc
unreplied_lost a frames got by buf n none read troubles.Short of why c = absurd cc
unreplied_lost a frames got by buf n none read troubles.Full of why c = absurd cc
unreplied_lost a frames got (Some b) buf n none read troubles.Parted of why c = absurd why.1.0
unreplied_lost {Tells = Tells} {old = old} {new = new} a frames got (Some b) buf n none read troubles.Link of why c =
    let d = a.dpid in
    let xs = frames_said d frames in
    let ys = wait_said a got in
    let zs = Hears d b ∷ [] in
    let last = Hears d b ∷ CannotSay d ∷ [] in
    let said = all_two IsReadSaid xs (ys ++ last) (frames_read d frames) (all_two IsReadSaid ys last (wait_read a got read) (why.0.1, (tt, tt))) in
    let fine = all_two (λ x. is_fine x ≡ true) xs (ys ++ zs) (fine_frames d frames) (all_two (λ x. is_fine x ≡ true) ys zs (fine_wait a got) (refl, tt)) in (
      is_lost d [] (xs ++ (ys ++ zs)) (CannotSay d) fine refl (none_two xs (ys ++ zs) none (none_two ys zs (wait_none a got read) (heard_none d b)))
          (Calls-same (ap (λ (s : List Said). xs ++ s) (sym (append_assoc ys zs (CannotSay d ∷ []))) ∙ sym (append_assoc xs (ys ++ zs) (CannotSay d ∷ []))) c),
      Calls-read (xs ++ (ys ++ last)) c said,
    )

pub breaks_lost : {Own : Type 0} {Tells : Type 0} {old new : Seen Own} {kept now_kept : List (ℕ × List ℕ)} (a : Awaited) (frames : List (List ℕ)) (buf : List ℕ) → packets_said (frames_said a.dpid frames) ≡ []
    → (t : Trouble) → is_of_link t ≡ true → Breaks Tells a frames Growing [] old new kept now_kept buf t → IsLost Tells a.dpid [] old new × (Tells → MessagesSince old new)
breaks_lost {Tells = Tells} {old = old} {new = new} a frames buf none t of (inl u) =
    let d = a.dpid in
    let xs = frames_said d u.first in
    let calls = subst (λ (x : Trouble). Calls Tells d (xs ++ unsaid d x) old new) (unsent_is_link t u.why of) u.calls in (
      is_lost d [] xs (CannotSay d) (fine_frames d u.first) refl (front_none d frames u.first u.rest u.frames_is none) calls,
      Calls-read (xs ++ CannotSay d ∷ []) calls (all_two IsReadSaid xs (CannotSay d ∷ []) (frames_read d u.first) (tt, tt)),
    )
breaks_lost a frames buf none t of (inr u) = unreplied_lost a frames u.got u.by buf (length u.got) none u.before.read t of u.why u.calls

pub breaks_none_lost : {Own : Type 0} {Tells : Type 0} {old new : Seen Own} {kept now_kept : List (ℕ × List ℕ)} (a : Awaited) (frames : List (List ℕ)) (buf : List ℕ) (t : Trouble) → is_of_link t ≡ false
    → Breaks Tells a frames Growing [] old new kept now_kept buf t → Tells → lost_of new ≡ lost_of old
breaks_none_lost {old = old} {new = new} a frames buf t none (inl u) =
    let d = a.dpid in
    losses_none (frames_said d u.first ++ unsaid d t) old new u.calls (all_two (λ x. is_fine x ≡ true) (frames_said d u.first) (unsaid d t) (fine_frames d u.first) (fine_unsaid d t none))
breaks_none_lost {old = old} {new = new} a frames buf t none (inr u) =
    let d = a.dpid in
    let xs = frames_said d frames in
    let ys = wait_said a u.got in
    let last = last_said d u.by t buf in
    losses_none (xs ++ (ys ++ last)) old new u.calls
    (all_two (λ x. is_fine x ≡ true) xs (ys ++ last) (fine_frames d frames) (all_two (λ x. is_fine x ≡ true) ys last (fine_wait a u.got) (fine_last d u.by t buf none)))

-- The switch is lost, by messages that release nothing; or a fault comes, and none is lost.
pub breaks_halts : {Own : Type 0} {Tells : Type 0} {a : Awaited} {old new : Seen Own} {kept now_kept : List (ℕ × List ℕ)} (first : List (List ℕ)) (halt : Halt) → a.barrier < 2 ^ 32 → packets_said (frames_said a.dpid first) ≡ []
    → BreaksBy Tells a (first ++ barrier_of a ∷ []) old new kept now_kept halt → WaitHalts Tells a (front_steps a first) old new halt
breaks_halts {Tells = Tells} {a = a} {old = old} {new = new} {kept = kept} {now_kept = now_kept} first Lost small none b =
    let frames = first ++ barrier_of a ∷ [] in
    breaks_lost a frames b.buf (both_none a first small none) b.trouble (lost_of_link a.dpid b.trouble b.buf b.halt_is) b.breaks
breaks_halts {a = a} first (Fault fault) small none b = (
  talks_cause a.dpid first (Fault fault) refl b,
  talks_flooded first (Fault fault) b,
  breaks_none_lost a (first ++ barrier_of a ∷ []) b.buf b.trouble (fault_is_none a.dpid b.trouble b.buf fault b.halt_is) b.breaks,
)

-- the reply came, and then the switch was parted with
pub replied_lost : {Own : Type 0} {Tells : Type 0} {old mid new : Seen Own} {kept now_kept : List (ℕ × List ℕ)} {answer : Brought} (a : Awaited) (first : List (List ℕ)) → a.barrier < 2 ^ 32 → packets_said (frames_said a.dpid first) ≡ []
    → Replied Tells a (first ++ barrier_of a ∷ []) Growing [] old mid kept now_kept answer → Calls Tells a.dpid (CannotSay a.dpid ∷ []) mid new → IsLost Tells a.dpid [] old new × (Tells → MessagesSince old new)
replied_lost a first small none r c =
    let d = a.dpid in
    let frames = first ++ barrier_of a ∷ [] in
    let xs = frames_said d frames in
    let ys = wait_said a r.got ++ reply_heard a ∷ [] in
    let fine = all_two (λ x. is_fine x ≡ true) xs ys (fine_frames d frames) (all_two (λ x. is_fine x ≡ true) (wait_said a r.got) (reply_heard a ∷ []) (fine_wait a r.got) (refl, tt)) in
    let reply : IsOk (reading_of (message_bytes a.barrier BarrierReply)) = rw (reading_of-message_bytes a.barrier BarrierReply small IsMessage-reply) refl in
    let read = all_two IsReadSaid xs ys (frames_read d frames) (all_two IsReadSaid (wait_said a r.got) (reply_heard a ∷ []) (wait_read a r.got r.before.read) (reply, tt)) in
    let calls = Calls-then r.calls c in (
      is_lost d [] (xs ++ ys) (CannotSay d) fine refl
          (none_two xs ys (both_none a first small none) (none_two (wait_said a r.got) (reply_heard a ∷ []) (wait_none a r.got r.before.read) (heard_none d (message_bytes a.barrier BarrierReply)))) calls,
      Calls-read ((xs ++ ys) ++ CannotSay d ∷ []) calls (all_two IsReadSaid (xs ++ ys) (CannotSay d ∷ []) read (tt, tt)),
    )

pub replied_none_lost : {Own : Type 0} {Tells : Type 0} {old new : Seen Own} {kept now_kept : List (ℕ × List ℕ)} {answer : Brought} (a : Awaited) (frames : List (List ℕ)) → Replied Tells a frames Growing [] old new kept now_kept answer → Tells → lost_of new ≡ lost_of old
replied_none_lost {old = old} {new = new} a frames r =
    let d = a.dpid in
    let xs = frames_said d frames in
    let ys = wait_said a r.got in
    let last = reply_heard a ∷ [] in
    losses_none (xs ++ (ys ++ last)) old new r.calls (all_two (λ x. is_fine x ≡ true) xs (ys ++ last) (fine_frames d frames) (all_two (λ x. is_fine x ≡ true) ys last (fine_wait a r.got) (refl, tt)))

pub waits_none_lost : {Own : Type 0} {Tells : Type 0} {a : Awaited} {old new : Seen Own} {kept now_kept : List (ℕ × List ℕ)} {answer : Brought} (front : List WorldStep) → AreLinkSteps front → list_any loses front ≡ false → Waits Tells a front old new kept now_kept answer
    → Tells → lost_of new ≡ lost_of old
waits_none_lost {a = a} {old = old} {new = new} front links none w told =
    let behind = wait_steps a w.got ++ reply_got a ∷ [] in
    let steps = front ++ behind in
    losses_then old new steps (w.hears.told told)
    ∙ ap (λ (ds : List ℕ). lost_of old ++ ds) (losses_by steps (links_append front behind links (links_append (wait_steps a w.got) (reply_got a ∷ []) (wait_links a w.got) (refl, tt)))
    ∙ lost_none_all steps (loses-append front behind none (loses-append (wait_steps a w.got) (reply_got a ∷ []) (wait_none_lost a w.got) refl)))
    ∙ append-nil (lost_of old)
