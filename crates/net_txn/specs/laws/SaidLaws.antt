-- Laws of what is said on a link: one after the other, and what each property of one call is of all of them.
use Rattle.std.specs.Prelude.{◌≡◌, ℕ, ◌^◌, ◌<◌, Bool, true, false, List, [], ◌∷◌, ◌++◌, take, Option, Some, None, Ok, Err, IsErr, refl}
use Rattle.std.specs.List.{AllByRecursion, list_any}
use Rattle.std.specs.Option.{is_some}
use Rattle.std.proofs.Common.{sym, ap, ◌∙◌, subst, append_assoc, true≢false}
use Rattle.std.proofs.lemmas.List.{append-nil}
use Rattle.lego_io.specs.laws.CountLaws.{Rose-after, Rose-before}
use Rattle.of_types.specs.declared.journal.Act.TheVariants.{Sent, Got}
use Rattle.of_wire.specs.Reading.{reading_of}
use Rattle.outside.specs.declared.faults.LinkFault.{LinkFault}
use Rattle.outside.specs.declared.faults.LinkFault.TheVariants as linking
use Rattle.outside.specs.declared.step.WorldStep.{WorldStep}
use Rattle.outside.specs.declared.step.WorldStep.TheVariants.{Acted, SendLost, RecvLost, SendFailed, RecvFailed}
use Rattle.flow_table.specs.Switch.{SwitchState}
use Rattle.outside.specs.Calls.{Sends, Receives, PartsWith, send_steps, receive_steps, unsent, unreceived}
use Rattle.outside.specs.Seen.{Counts, NoneFell, Seen}
use Rattle.outside.specs.laws.SeenLaws.{Continues-refl, Continues-trans, Sends-continues, Receives-continues}
use Rattle.outside.specs.State.{State, after_steps, state, is_joined, has_waiting}
use Rattle.outside.specs.laws.LinkLaws.{switch_of-send_lost, switch_of-recv_lost}
use Rattle.outside.specs.laws.StateLaws.{after_steps-append, state-append}
use Rattle.outside.specs.laws.InOrderLaws.{come_front, come_rest}
use Rattle.lego_model.specs.declared.wait.Awaited.{Awaited}
use Rattle.lego_model.specs.declared.wait.Heard.{Heard}
use Rattle.lego_model.specs.declared.wait.Heard.TheVariants as heards
use Rattle.lego_model.specs.BarrierWaits.{heard, is_reply, steps_by, wait_steps, barrier_sent}
use Rattle.net_txn.specs.declared.trouble.Trouble.{Trouble}
use Rattle.net_txn.specs.declared.trouble.Trouble.TheVariants as troubles
use Rattle.net_txn.specs.LinkSteps.{AreLinkSteps, OnLinks, ThenWaits}
use Rattle.lego_model.specs.UndoFaults.{loses, GoesWithoutStrays, IsStepOf}
use Rattle.net_txn.specs.laws.LinkStepLaws.{links_append, OnLinks-by}
use Rattle.net_txn.specs.laws.UndoWithoutStraysLaws.{goes_none, goes_append, goes_sure, goes_send_lost, goes_recv_lost, goes_same, goes_got, goes_barrier, barrier_waits}
use Rattle.net_txn.specs.laws.LinkPresenceLaws.{steps_stay, loses-append}
use Rattle.net_txn.specs.Causes.{link_trouble}
use Rattle.net_txn.specs.Undos.{Moves}
use Rattle.net_txn.specs.Said.{Said, Says, Hears, HearsNoise, CannotSay, CannotHear, LacksMemory, steps_in, joined_behind, said_steps, IsSaid, AreSaidTo, Calls, unsaid, unheard, said_by, heard_said, wait_said, last_said, frames_said, barrier_of, IsOfLink, IsOfHearing}

-- ---- Lists

pub all_two : {X : Type 0} (P : X → Type 0) (xs ys : List X) → AllByRecursion P xs → AllByRecursion P ys → AllByRecursion P (xs ++ ys)
all_two P [] ys all rest = rest
all_two P (x ∷ xs) ys all rest = (all.0, all_two P xs ys all.1 rest)

pub all_front : {X : Type 0} (P : X → Type 0) (xs ys : List X) → AllByRecursion P (xs ++ ys) → AllByRecursion P xs
all_front P [] ys all = tt
all_front P (x ∷ xs) ys all = (all.0, all_front P xs ys all.1)

pub all_behind : {X : Type 0} (P : X → Type 0) (xs ys : List X) → AllByRecursion P (xs ++ ys) → AllByRecursion P ys
all_behind P [] ys all = all
all_behind P (x ∷ xs) ys all = all_behind P xs ys all.1

pub all_weaker : {X : Type 0} (P Q : X → Type 0) → ((x : X) → P x → Q x) → (xs : List X) → AllByRecursion P xs → AllByRecursion Q xs
all_weaker P Q weaker [] all = tt
all_weaker P Q weaker (x ∷ xs) all = (weaker x all.0, all_weaker P Q weaker xs all.1)

-- ---- Steps

-- it did not fail
abbrev pub is_fine : Said → Bool
is_fine (CannotSay d) = false
is_fine (CannotHear d) = false
is_fine other = true

abbrev pub AreFine : List Said → Type 0
AreFine said = AllByRecursion (λ x. is_fine x ≡ true) said

-- whether the switch is joined behind them
abbrev pub joined_after : Bool → List Said → Bool
joined_after joined [] = joined
joined_after joined (x ∷ xs) = joined_after (joined_behind joined x) xs

pub steps_append : (joined : Bool) (xs ys : List Said) → said_steps joined (xs ++ ys) ≡ said_steps joined xs ++ said_steps (joined_after joined xs) ys
steps_append joined [] ys = refl
steps_append joined (x ∷ xs) ys =
    ap (λ (s : List WorldStep). steps_in joined x ++ s) (steps_append (joined_behind joined x) xs ys)
    ∙ sym (append_assoc (steps_in joined x) (said_steps (joined_behind joined x) xs) (said_steps (joined_after (joined_behind joined x) xs) ys))

fine_behind : (joined : Bool) (x : Said) → is_fine x ≡ true → joined_behind joined x ≡ joined
fine_behind joined (Says d bytes) fine = refl
fine_behind joined (Hears d bytes) fine = refl
fine_behind joined (HearsNoise d bytes) fine = refl
fine_behind joined (CannotSay d) fine = absurd cc
fine_behind joined (CannotHear d) fine = absurd cc
fine_behind joined (LacksMemory d) fine = refl

pub fine_after : (joined : Bool) (xs : List Said) → AreFine xs → joined_after joined xs ≡ joined
fine_after joined [] fine = refl
fine_after joined (x ∷ xs) fine = fine_after (joined_behind joined x) xs fine.1 ∙ fine_behind joined x fine.0

-- behind such as did not fail the switch is joined as before
pub fine_append : (joined : Bool) (xs ys : List Said) → AreFine xs → said_steps joined (xs ++ ys) ≡ said_steps joined xs ++ said_steps joined ys
fine_append joined xs ys fine = steps_append joined xs ys ∙ ap (λ (b : Bool). said_steps joined xs ++ said_steps b ys) (fine_after joined xs fine)

fine_stays : (joined : Bool) (x : Said) → is_fine x ≡ true → list_any loses (steps_in joined x) ≡ false
fine_stays joined (Says d bytes) fine = refl
fine_stays joined (Hears d bytes) fine = refl
fine_stays joined (HearsNoise d bytes) fine = refl
fine_stays joined (CannotSay d) fine = absurd cc
fine_stays joined (CannotHear d) fine = absurd cc
fine_stays joined (LacksMemory d) fine = refl

-- no switch is lost by them
pub fine_none_lost : (joined : Bool) (xs : List Said) → AreFine xs → list_any loses (said_steps joined xs) ≡ false
fine_none_lost joined [] fine = refl
fine_none_lost joined (x ∷ xs) fine = loses-append (steps_in joined x) (said_steps (joined_behind joined x) xs) (fine_stays joined x fine.0) (fine_none_lost (joined_behind joined x) xs fine.1)

pub fine_frames : (d : ℕ) (frames : List (List ℕ)) → AreFine (frames_said d frames)
fine_frames d [] = tt
fine_frames d (f ∷ fs) = (refl, fine_frames d fs)

fine_by : (d : ℕ) (h : Heard) (bytes : List ℕ) → AreFine (said_by d h bytes)
fine_by d heards.Reply bytes = tt
fine_by d (heards.Refused r) bytes = tt
fine_by d heards.Notice bytes = tt
fine_by d heards.Echo bytes = (refl, tt)
fine_by d heards.Other bytes = tt

pub fine_wait : (a : Awaited) (got : List (List ℕ)) → AreFine (wait_said a got)
fine_wait a [] = tt
fine_wait a (b ∷ bs) = all_two (λ x. is_fine x ≡ true) (heard_said a b) (wait_said a bs) (refl, fine_by a.dpid (heard a b) b) (fine_wait a bs)

-- ---- What is said of a part of the time is said of the whole

said_earlier : (d : ℕ) (old mid new : Counts) → NoneFell old mid → (s : Said) → IsSaid d mid new s → IsSaid d old new s
said_earlier d old mid new before (Says e bytes) is = is
said_earlier d old mid new before (Hears e bytes) is = is
said_earlier d old mid new before (HearsNoise e bytes) is = is
said_earlier d old mid new before (CannotSay e) is = (is.0, Rose-after (old.link_faults d) (mid.link_faults d) (new.link_faults d) (before.link_faults d) is.1)
said_earlier d old mid new before (CannotHear e) is = (is.0, Rose-after (old.link_faults d) (mid.link_faults d) (new.link_faults d) (before.link_faults d) is.1)
said_earlier d old mid new before (LacksMemory e) is =
    (is.0, Rose-after old.shorts mid.shorts new.shorts before.shorts is.1, Rose-after (old.shorts_of d) (mid.shorts_of d) (new.shorts_of d) (before.shorts_of d) is.2)

said_later : (d : ℕ) (old mid new : Counts) → NoneFell old mid → NoneFell mid new → (s : Said) → IsSaid d old mid s → IsSaid d old new s
said_later d old mid new before later (Says e bytes) is = is
said_later d old mid new before later (Hears e bytes) is = is
said_later d old mid new before later (HearsNoise e bytes) is = is
said_later d old mid new before later (CannotSay e) is = (is.0, Rose-before (old.link_faults d) (mid.link_faults d) (new.link_faults d) (before.link_faults d) is.1 (later.link_faults d))
said_later d old mid new before later (CannotHear e) is = (is.0, Rose-before (old.link_faults d) (mid.link_faults d) (new.link_faults d) (before.link_faults d) is.1 (later.link_faults d))
said_later d old mid new before later (LacksMemory e) is =
    (is.0, Rose-before old.shorts mid.shorts new.shorts before.shorts is.1 later.shorts, Rose-before (old.shorts_of d) (mid.shorts_of d) (new.shorts_of d) (before.shorts_of d) is.2 (later.shorts_of d))

-- ---- Whether the switch is joined

one_joined : (d : ℕ) (x : Said) (old new : Counts) (s : State) → IsSaid d old new x → is_joined d (after_steps (steps_in (is_joined d s) x) s) ≡ joined_behind (is_joined d s) x
one_joined d (Says e bytes) old new s is = steps_stay (Acted (Sent e bytes) ∷ []) s (refl, tt) refl d
one_joined d (Hears e bytes) old new s is = steps_stay (Acted (Got e bytes) ∷ []) s (refl, tt) refl d
one_joined d (HearsNoise e bytes) old new s is = steps_stay (Acted (Got e bytes) ∷ []) s (refl, tt) refl d
one_joined d (CannotSay e) old new s is = cut (is_joined d s) refl
  where
    cut : (b : Bool) → is_joined d s ≡ b → is_joined d (after_steps (unsent e b ∷ []) s) ≡ false
    cut true joined = subst (λ (n : ℕ). is_joined d (after_steps (SendLost n ∷ []) s) ≡ false) (sym is.0) (ap (λ (o : Option SwitchState). is_some o) (switch_of-send_lost d s))
    cut false joined = steps_stay (SendFailed e ∷ []) s (refl, tt) refl d ∙ joined
one_joined d (CannotHear e) old new s is = cut (is_joined d s) refl
  where
    cut : (b : Bool) → is_joined d s ≡ b → is_joined d (after_steps (unreceived e b ∷ []) s) ≡ false
    cut true joined = subst (λ (n : ℕ). is_joined d (after_steps (RecvLost n ∷ []) s) ≡ false) (sym is.0) (ap (λ (o : Option SwitchState). is_some o) (switch_of-recv_lost d s))
    cut false joined = steps_stay (RecvFailed e ∷ []) s (refl, tt) refl d ∙ joined
one_joined d (LacksMemory e) old new s is = refl

pub said_joined : (d : ℕ) (xs : List Said) (old new : Counts) (s : State) → AllByRecursion (IsSaid d old new) xs → is_joined d (after_steps (said_steps (is_joined d s) xs) s) ≡ joined_after (is_joined d s) xs
said_joined d [] old new s all = refl
said_joined d (x ∷ xs) old new s all =
    let here = steps_in (is_joined d s) x in
    let next = after_steps here s in
    let joined = one_joined d x old new s all.0 in
    ap (is_joined d) (after_steps-append here (said_steps (joined_behind (is_joined d s) x) xs) s)
    ∙ ap (λ (b : Bool). is_joined d (after_steps (said_steps b xs) next)) (sym joined)
    ∙ said_joined d xs old new next all.1
    ∙ ap (λ (b : Bool). joined_after b xs) joined

pub Calls-joined : {Own : Type 0} {Tells : Type 0} {d : ℕ} {said : List Said} {old new : Seen Own} → Calls Tells d said old new → Tells → is_joined d (state new) ≡ joined_after (is_joined d (state old)) said
Calls-joined {d = d} {said = said} {old = old} {new = new} c told =
    ap (is_joined d) (state-append old new (said_steps (is_joined d (state old)) said) c.continues.given (c.told told)) ∙ said_joined d said old.counts new.counts (state old) c.each

said_to_append : (joined : Bool) (xs ys : List Said) → AreSaidTo joined xs → AreSaidTo (joined_after joined xs) ys → AreSaidTo joined (xs ++ ys)
said_to_append joined [] ys first second = second
said_to_append joined (x ∷ xs) ys first second = (first.0, said_to_append (joined_behind joined x) xs ys first.1 second)

-- ---- None, and one after the other

pub Calls-none : {Own : Type 0} (Tells : Type 0) (d : ℕ) (seen : Seen Own) → Calls Tells d [] seen seen
Calls-none Tells d seen = record { continues = Continues-refl Tells seen; each = tt; told = λ t. sym (append-nil seen.history); joined = λ t. tt }

pub Calls-then : {Own : Type 0} {Tells : Type 0} {d : ℕ} {first second : List Said} {old mid new : Seen Own} → Calls Tells d first old mid → Calls Tells d second mid new → Calls Tells d (first ++ second) old new
Calls-then {Tells = Tells} {d = d} {first = first} {second = second} {old = old} {mid = mid} {new = new} a b = record {
  continues = Continues-trans Tells old mid new a.continues b.continues;
  each = all_two (IsSaid d old.counts new.counts) first second
      (all_weaker (IsSaid d old.counts mid.counts) (IsSaid d old.counts new.counts) (said_later d old.counts mid.counts new.counts a.continues.none_fell b.continues.none_fell) first a.each)
      (all_weaker (IsSaid d mid.counts new.counts) (IsSaid d old.counts new.counts) (said_earlier d old.counts mid.counts new.counts a.continues.none_fell) second b.each);
  told = λ t. (let joined = is_joined d (state old) in
      let here = said_steps joined first in
      b.told t ∙ ap (λ (s : Bool). mid.history ++ said_steps s second) (Calls-joined a t) ∙ ap (λ (s : List WorldStep). s ++ said_steps (joined_after joined first) second) (a.told t)
      ∙ append_assoc old.history here (said_steps (joined_after joined first) second) ∙ ap (λ (s : List WorldStep). old.history ++ s) (sym (steps_append joined first second)));
  joined = λ t. said_to_append (is_joined d (state old)) first second (a.joined t) (subst (λ (b : Bool). AreSaidTo b second) (Calls-joined a t) (b.joined t));
}

pub Calls-same : {Own : Type 0} {Tells : Type 0} {d : ℕ} {first second : List Said} {old new : Seen Own} → first ≡ second → Calls Tells d first old new → Calls Tells d second old new
Calls-same {Tells = Tells} {d = d} {old = old} {new = new} same c = subst (λ (s : List Said). Calls Tells d s old new) same c

-- ---- One call of the world

joined_ok : {T : Type 0} (joined : Bool) (x : T) → (joined ≡ false → IsErr {E = LinkFault} (Ok x)) → joined ≡ true
joined_ok true x out = refl
joined_ok false x out = absurd (true≢false (sym (out refl)))

pub says_one : {Own T : Type 0} {Tells : Type 0} {d : ℕ} {frame : List ℕ} {old new : Seen Own} (x : T) → Sends Tells d frame old new (Ok x) → Calls Tells d (Says d frame ∷ []) old new
unfolding send_steps
says_one {d = d} {old = old} x call = record {
  continues = Sends-continues call;
  each = (refl, tt);
  told = λ t. (call.told t).history;
  joined = λ t. (joined_ok (is_joined d (state old)) x (call.told t).out_of_place, tt);
}

cannot_say : {Own : Type 0} {Tells : Type 0} {d : ℕ} {frame : List ℕ} {old new : Seen Own} (T : Type 0) → Sends {T = T} Tells d frame old new (Err linking.Failed) → Calls Tells d (CannotSay d ∷ []) old new
unfolding send_steps
cannot_say T call = record { continues = Sends-continues call; each = ((refl, call.failed refl), tt); told = λ t. (call.told t).history; joined = λ t. (tt, tt) }

lacks_to_say : {Own : Type 0} {Tells : Type 0} {d : ℕ} {frame : List ℕ} {old new : Seen Own} (T : Type 0) → Sends {T = T} Tells d frame old new (Err linking.Short) → Calls Tells d (LacksMemory d ∷ []) old new
unfolding send_steps
lacks_to_say T call = record { continues = Sends-continues call; each = ((refl, call.short refl, call.short_of refl), tt); told = λ t. (call.told t).history; joined = λ t. (tt, tt) }

pub hears_one : {Own : Type 0} {Tells : Type 0} {d : ℕ} {buf : List ℕ} {old new : Seen Own} (n : ℕ) → Receives Tells d old new (Ok n) buf → Calls Tells d (Hears d (take n buf) ∷ []) old new
unfolding receive_steps
hears_one n call = record { continues = Receives-continues call; each = (refl, tt); told = λ t. (call.told t).history; joined = λ t. (tt, tt) }

pub hears_noise : {Own : Type 0} {Tells : Type 0} {d : ℕ} {buf : List ℕ} {old new : Seen Own} (n : ℕ) → IsErr (reading_of (take n buf)) → Receives Tells d old new (Ok n) buf → Calls Tells d (HearsNoise d (take n buf) ∷ []) old new
unfolding receive_steps
hears_noise n broken call = record { continues = Receives-continues call; each = ((refl, broken), tt); told = λ t. (call.told t).history; joined = λ t. (tt, tt) }

cannot_hear : {Own : Type 0} {Tells : Type 0} {d : ℕ} {buf : List ℕ} {old new : Seen Own} → Receives Tells d old new (Err linking.Failed) buf → Calls Tells d (CannotHear d ∷ []) old new
unfolding receive_steps
cannot_hear call = record { continues = Receives-continues call; each = ((refl, call.failed refl), tt); told = λ t. (call.told t).history; joined = λ t. (tt, tt) }

lacks_to_hear : {Own : Type 0} {Tells : Type 0} {d : ℕ} {buf : List ℕ} {old new : Seen Own} → Receives Tells d old new (Err linking.Short) buf → Calls Tells d (LacksMemory d ∷ []) old new
unfolding receive_steps
lacks_to_hear call = record { continues = Receives-continues call; each = ((refl, call.short refl, call.short_of refl), tt); told = λ t. (call.told t).history; joined = λ t. (tt, tt) }

pub says_not : {Own : Type 0} {Tells : Type 0} {d : ℕ} {frame : List ℕ} {old new : Seen Own} (T : Type 0) (f : LinkFault) → Sends {T = T} Tells d frame old new (Err f) → IsOfLink (link_trouble f) × Calls Tells d (unsaid d (link_trouble f)) old new
says_not T linking.Failed call = (tt, cannot_say T call)
says_not T linking.Short call = (tt, lacks_to_say T call)

-- the switch was parted with
pub parts_said : {Own : Type 0} {Tells : Type 0} {d : ℕ} {old new : Seen Own} → PartsWith Tells d old new → Calls Tells d (CannotSay d ∷ []) old new
parts_said call = cannot_say (Unit {0}) call

pub hears_not : {Own : Type 0} {Tells : Type 0} {d : ℕ} {buf : List ℕ} {old new : Seen Own} (f : LinkFault) → Receives Tells d old new (Err f) buf → IsOfHearing (link_trouble f) × Calls Tells d (unheard d (link_trouble f) buf) old new
hears_not linking.Failed call = (tt, cannot_hear call)
hears_not linking.Short call = (tt, lacks_to_hear call)

-- ---- Steps of one switch, and of links alone

of_switch : (joined : Bool) (d : ℕ) (old new : Counts) (s : Said) → IsSaid d old new s → AllByRecursion (IsStepOf d) (steps_in joined s)
of_switch joined d old new (Says e bytes) is = (is, tt)
of_switch joined d old new (Hears e bytes) is = (is, tt)
of_switch joined d old new (HearsNoise e bytes) is = (is.0, tt)
of_switch true d old new (CannotSay e) is = (is.0, tt)
of_switch false d old new (CannotSay e) is = (is.0, tt)
of_switch true d old new (CannotHear e) is = (is.0, tt)
of_switch false d old new (CannotHear e) is = (is.0, tt)
of_switch joined d old new (LacksMemory e) is = tt

pub all_of_switch : (joined : Bool) (d : ℕ) (old new : Counts) (said : List Said) → AllByRecursion (IsSaid d old new) said → AllByRecursion (IsStepOf d) (said_steps joined said)
all_of_switch joined d old new [] all = tt
all_of_switch joined d old new (s ∷ ss) all = all_two (IsStepOf d) (steps_in joined s) (said_steps (joined_behind joined s) ss) (of_switch joined d old new s all.0) (all_of_switch (joined_behind joined s) d old new ss all.1)

pub Calls-moves : {Own : Type 0} {Tells : Type 0} {d : ℕ} {said : List Said} {old new : Seen Own} (steps : List WorldStep) → said_steps (is_joined d (state old)) said ≡ steps → Calls Tells d said old new → Moves Tells d steps old new
Calls-moves {Tells = Tells} {d = d} {said = said} {old = old} {new = new} steps same c =
    subst (λ (s : List WorldStep). Moves Tells d s old new) same (record { continues = c.continues; each = all_of_switch (is_joined d (state old)) d old.counts new.counts said c.each; told = c.told })

on_links : (joined : Bool) (s : Said) → AreLinkSteps (steps_in joined s)
on_links joined (Says e bytes) = (refl, tt)
on_links joined (Hears e bytes) = (refl, tt)
on_links joined (HearsNoise e bytes) = (refl, tt)
on_links true (CannotSay e) = (refl, tt)
on_links false (CannotSay e) = (refl, tt)
on_links true (CannotHear e) = (refl, tt)
on_links false (CannotHear e) = (refl, tt)
on_links joined (LacksMemory e) = tt

pub said_links : (joined : Bool) (said : List Said) → AreLinkSteps (said_steps joined said)
said_links joined [] = tt
said_links joined (s ∷ ss) = links_append (steps_in joined s) (said_steps (joined_behind joined s) ss) (on_links joined s) (said_links (joined_behind joined s) ss)

pub Calls-links : {Own : Type 0} {Tells : Type 0} {d : ℕ} {said : List Said} {old new : Seen Own} → Calls Tells d said old new → OnLinks Tells old new
Calls-links {Tells = Tells} {d = d} {said = said} {old = old} {new = new} c = OnLinks-by Tells old new (said_steps (is_joined d (state old)) said) (said_links (is_joined d (state old)) said) c.told

-- ---- The steps of a wait

by_steps : (joined : Bool) (d : ℕ) (h : Heard) (bytes : List ℕ) → said_steps joined (said_by d h bytes) ≡ steps_by d h bytes
by_steps joined d heards.Reply bytes = refl
by_steps joined d (heards.Refused r) bytes = refl
by_steps joined d heards.Notice bytes = refl
by_steps joined d heards.Echo bytes = refl
by_steps joined d heards.Other bytes = refl

pub wait_said_steps : (joined : Bool) (a : Awaited) (got : List (List ℕ)) → said_steps joined (wait_said a got) ≡ wait_steps a got
wait_said_steps joined a [] = refl
wait_said_steps joined a (b ∷ bs) =
    fine_append joined (heard_said a b) (wait_said a bs) (refl, fine_by a.dpid (heard a b) b)
    ∙ ap (λ (s : List WorldStep). (Acted (Got a.dpid b) ∷ s) ++ said_steps joined (wait_said a bs)) (by_steps joined a.dpid (heard a b) b)
    ∙ ap (λ (s : List WorldStep). (Acted (Got a.dpid b) ∷ steps_by a.dpid (heard a b) b) ++ s) (wait_said_steps joined a bs)

-- messages that are sent, then a barrier, and a wait
pub whole_steps : (joined : Bool) (a : Awaited) (first got : List (List ℕ)) (last : List Said)
    → said_steps joined (frames_said a.dpid (first ++ barrier_of a ∷ []) ++ (wait_said a got ++ last))
    ≡ said_steps joined (frames_said a.dpid first) ++ (barrier_sent a ∷ (wait_steps a got ++ said_steps joined last))
whole_steps joined a [] got last =
    ap (λ (s : List WorldStep). barrier_sent a ∷ s)
    (fine_append joined (wait_said a got) last (fine_wait a got) ∙ ap (λ (s : List WorldStep). s ++ said_steps joined last) (wait_said_steps joined a got))
whole_steps joined a (f ∷ fs) got last = ap (λ (s : List WorldStep). Acted (Sent a.dpid f) ∷ s) (whole_steps joined a fs got last)

-- ---- Calls in place

pub frames_go : (d : ℕ) (frames : List (List ℕ)) → GoesWithoutStrays d (said_steps true (frames_said d frames))
frames_go d [] = goes_none d
frames_go d (f ∷ fs) = goes_append d (Acted (Sent d f) ∷ []) (said_steps true (frames_said d fs)) refl (goes_sure d (Acted (Sent d f) ∷ []) (refl, tt) (λ s. tt, tt)) (frames_go d fs)

pub unsaid_goes : (d : ℕ) (front : List WorldStep) (t : Trouble) → list_any loses front ≡ false → GoesWithoutStrays d front → GoesWithoutStrays d (front ++ said_steps true (unsaid d t))
unsaid_goes d front troubles.Link stay placed = goes_send_lost d front stay placed
unsaid_goes d front (troubles.Broke n) stay placed = goes_same d front placed
unsaid_goes d front (troubles.Refused k x n) stay placed = goes_same d front placed
unsaid_goes d front troubles.Flooded stay placed = goes_same d front placed
unsaid_goes d front troubles.Short stay placed = goes_same d front placed
unsaid_goes d front troubles.Full stay placed = goes_same d front placed
unsaid_goes d front troubles.Parted stay placed = goes_same d front placed

unheard_goes : (d : ℕ) (front : List WorldStep) (t : Trouble) (buf : List ℕ) → list_any loses front ≡ false → GoesWithoutStrays d front → ThenWaits d front → GoesWithoutStrays d (front ++ said_steps true (unheard d t buf))
unheard_goes d front troubles.Link buf stay placed waits = goes_recv_lost d front stay placed waits
unheard_goes d front (troubles.Broke n) buf stay placed waits = goes_got d (take n buf) front stay placed
unheard_goes d front (troubles.Refused k x n) buf stay placed waits = goes_same d front placed
unheard_goes d front troubles.Flooded buf stay placed waits = goes_same d front placed
unheard_goes d front troubles.Short buf stay placed waits = goes_same d front placed
unheard_goes d front troubles.Full buf stay placed waits = goes_same d front placed
unheard_goes d front troubles.Parted buf stay placed waits = goes_send_lost d front stay placed

last_goes : (d : ℕ) (front : List WorldStep) (by : Option (List ℕ)) (t : Trouble) (buf : List ℕ) → list_any loses front ≡ false → GoesWithoutStrays d front → ThenWaits d front → GoesWithoutStrays d (front ++ said_steps true (last_said d by t buf))
last_goes d front None t buf stay placed waits = unheard_goes d front t buf stay placed waits
last_goes d front (Some b) t buf stay placed waits =
    subst (GoesWithoutStrays d) (append_assoc front (Acted (Got d b) ∷ []) (said_steps true (unsaid d t)))
    (unsaid_goes d (front ++ Acted (Got d b) ∷ []) t (loses-append front (Acted (Got d b) ∷ []) stay refl) (goes_got d b front stay placed))

then_waits : (d : ℕ) (xs ys : List WorldStep) → list_any loses xs ≡ false → GoesWithoutStrays d xs → ThenWaits d ys → ThenWaits d (xs ++ ys)
then_waits d xs ys stay first second declared s may joined =
    let a = first declared s (come_front declared xs ys s may) joined in
    subst (λ (t : State). has_waiting d t ≡ true) (sym (after_steps-append xs ys s)) (second declared (after_steps xs s) (come_rest declared xs ys s may) (a.joined stay))

pub wait_none_lost : (a : Awaited) (got : List (List ℕ)) → list_any loses (wait_steps a got) ≡ false
wait_none_lost a got = subst (λ (steps : List WorldStep). list_any loses steps ≡ false) (wait_said_steps true a got) (fine_none_lost true (wait_said a got) (fine_wait a got))

pub whole_goes : (a : Awaited) (first got : List (List ℕ)) (by : Option (List ℕ)) (t : Trouble) (buf : List ℕ) → a.barrier < 2 ^ 32 → AllByRecursion (λ b. is_reply (heard a b) ≡ false) got
    → GoesWithoutStrays a.dpid (said_steps true (frames_said a.dpid (first ++ barrier_of a ∷ []) ++ (wait_said a got ++ last_said a.dpid by t buf)))
whole_goes a first got by t buf small other =
    let d = a.dpid in
    let front = said_steps true (frames_said d first) in
    let wait = barrier_sent a ∷ wait_steps a got in
    let last = said_steps true (last_said d by t buf) in
    let stay = fine_none_lost true (frames_said d first) (fine_frames d first) in
    subst (GoesWithoutStrays d) (append_assoc front wait last ∙ sym (whole_steps true a first got (last_said d by t buf)))
    (last_goes d (front ++ wait) by t buf (loses-append front wait stay (wait_none_lost a got)) (goes_append d front wait stay (frames_go d first) (goes_barrier a got))
    (then_waits d front wait stay (frames_go d first) (barrier_waits a got small other)))
