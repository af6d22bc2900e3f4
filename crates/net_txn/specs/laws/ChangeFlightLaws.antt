-- A change in flight: what was said of it, and how the switches stand then, whatever the world tells besides: the one moved as by the
-- change, or not at all.
use Rattle.std.specs.Prelude.{◌≡◌, ◌⊎◌, ℕ, ◌^◌, ◌<◌, Bool, false, List, [], ◌∷◌, ◌++◌, take, Option, Some, None, Ok, refl}
use Rattle.std.specs.Option.{option_map}
use Rattle.std.proofs.Common.{sym, ap, ◌∙◌, subst, inl, inr}
use Rattle.of_wire.specs.declared.bodies.FlowMod.{FlowMod as Change}
use Rattle.of_wire.specs.declared.message.Message.{Message}
use Rattle.of_wire.specs.declared.message.Message.TheVariants.{FlowMod, BarrierRequest, BarrierReply}
use Rattle.of_wire.specs.Reading.{reading_of}
use Rattle.of_wire.specs.Spelling.{message_bytes}
use Rattle.of_wire.specs.Grammar.{IsMessage, enveloped}
use Rattle.of_wire.specs.laws.ReadingLaws.{reading_of-message_bytes}
use Rattle.flow_table.specs.Switch.{SwitchState}
use Rattle.flow_table.specs.Step.{after_message}
use Rattle.lego_model.specs.Answers.{as_sent}
use Rattle.outside.specs.declared.step.WorldStep.{WorldStep}
use Rattle.outside.specs.Seen.{Seen}
use Rattle.outside.specs.State.{State, after_steps, state, switch_of, switch_told, is_joined}
use Rattle.outside.specs.laws.LinkLaws.{switch_of-sent, switch_of-got}
use Rattle.outside.specs.laws.StateLaws.{after_steps-append, state-append}
use Rattle.lego_model.specs.declared.fault.TxnFault.{TxnFault}
use Rattle.net_txn.specs.declared.halt.Halt.{Halt}
use Rattle.net_txn.specs.declared.halt.Halt.TheVariants.{Lost, Fault}
use Rattle.lego_model.specs.declared.wait.Awaited.{Awaited}
use Rattle.lego_model.specs.declared.wait.Refusal.{Refusal}
use Rattle.net_txn.specs.declared.queue.Storage.TheVariants.{Growing}
use Rattle.net_txn.specs.declared.logged.Logged.{Logged}
use Rattle.net_txn.specs.declared.trouble.Trouble.{Trouble}
use Rattle.net_txn.specs.declared.trouble.Trouble.TheVariants as troubles
use Rattle.lego_model.specs.History.{lost_of}
use Rattle.net_txn.specs.Net.{NetState, awaited_from}
use Rattle.net_txn.specs.Said.{Said, Says, Hears, said_steps, Calls, unsaid, unheard, last_said, wait_said, frames_said, barrier_of, reply_heard, Replied, Breaks, BreaksBy}
use Rattle.net_txn.specs.Answering.{BreaksOff, InFlight, MayMove}
use Rattle.net_txn.specs.Making.{Halts}
use Rattle.net_txn.specs.Waits.{Brought, KeptMore}
use Rattle.net_txn.specs.laws.SaidLaws.{joined_after, steps_append, Calls-moves, wait_said_steps}
use Rattle.net_txn.specs.laws.LostLaws.{fault_is_none, packets_said, breaks_halts, breaks_none_lost, replied_none_lost}
use Rattle.net_txn.specs.Undos.{is_of_link}
use Rattle.net_txn.specs.laws.HeardLaws.{IsMessage-barrier, next_xid-lt}
use Rattle.net_txn.specs.laws.SentLaws.{reading_of-as_sent}
use Rattle.net_txn.specs.laws.StepLaws.{barrier_stays}
use Rattle.net_txn.specs.laws.PartLaws.{steps_other}
use Rattle.net_txn.specs.laws.WaitMoveLaws.{wait_switch, some_switch}
use Rattle.net_txn.specs.laws.WaitLaws.{brought}

-- ---- What was said, with the ids and the bytes of this change

abbrev pub change_bytes : ℕ → Change → List ℕ
change_bytes xid m = message_bytes xid (as_sent (FlowMod m))

broke_by : {Own : Type 0} {Tells : Type 0} (d : ℕ) (m : Change) (net : NetState) (a : Awaited) (frame : List ℕ) (kept now_kept : List (ℕ × List ℕ)) (old new : Seen Own) (halt : Halt)
    → a ≡ awaited_from d net.xid → frame ≡ change_bytes a.first m → kept ≡ net.kept → BreaksBy Tells a ((frame ∷ []) ++ barrier_of a ∷ []) old new kept now_kept halt
    → BreaksBy Tells (awaited_from d net.xid) ((change_bytes net.xid m ∷ []) ++ barrier_of (awaited_from d net.xid) ∷ []) old new net.kept now_kept halt
broke_by {Tells = Tells} d m net a frame kept now_kept old new halt is spelled same b =
    let here = awaited_from d net.xid in
    let first : frame ≡ change_bytes net.xid m = spelled ∙ ap (λ (x : Awaited). change_bytes x.first m) is in
    let b1 = subst (λ (x : Awaited). BreaksBy Tells x ((frame ∷ []) ++ barrier_of x ∷ []) old new kept now_kept halt) is b in
    let b2 = subst (λ (f : List ℕ). BreaksBy Tells here ((f ∷ []) ++ barrier_of here ∷ []) old new kept now_kept halt) first b1 in
    subst (λ (k : List (ℕ × List ℕ)). BreaksBy Tells here ((change_bytes net.xid m ∷ []) ++ barrier_of here ∷ []) old new k now_kept halt) same b2

pub replied_then : {Own : Type 0} {Tells : Type 0} (d : ℕ) (m : Change) (net : NetState) (a : Awaited) (frame : List ℕ) (kept now_kept : List (ℕ × List ℕ)) (old new : Seen Own) (halt : Halt)
    → a ≡ awaited_from d net.xid → frame ≡ change_bytes a.first m → kept ≡ net.kept → (answer : Brought) → answer.refusal ≡ None → Replied Tells a ((frame ∷ []) ++ barrier_of a ∷ []) Growing [] old new kept now_kept answer
    → BreaksOff Tells (awaited_from d net.xid) (change_bytes net.xid m ∷ []) old new net.kept now_kept halt
replied_then {Tells = Tells} d m net a frame kept now_kept old new halt is spelled same answer none r =
    let here = awaited_from d net.xid in
    let well : Brought = record { refusal = None; notices = answer.notices } in
    let is_well : answer ≡ well = ap (λ (o : Option Refusal). brought o answer.notices) none in
    let first : frame ≡ change_bytes net.xid m = spelled ∙ ap (λ (x : Awaited). change_bytes x.first m) is in
    let r0 = subst (λ (b : Brought). Replied Tells a ((frame ∷ []) ++ barrier_of a ∷ []) Growing [] old new kept now_kept b) is_well r in
    let r1 = subst (λ (x : Awaited). Replied Tells x ((frame ∷ []) ++ barrier_of x ∷ []) Growing [] old new kept now_kept well) is r0 in
    let r2 = subst (λ (f : List ℕ). Replied Tells here ((f ∷ []) ++ barrier_of here ∷ []) Growing [] old new kept now_kept well) first r1 in
    inr (record { notices = answer.notices; replied = subst (λ (k : List (ℕ × List ℕ)). Replied Tells here ((change_bytes net.xid m ∷ []) ++ barrier_of here ∷ []) Growing [] old new k now_kept well) same r2 })

-- what is sent releases no packet
change_none : (d xid : ℕ) (m : Change) → xid < 2 ^ 32 → IsMessage (FlowMod m) → packets_said (frames_said d (change_bytes xid m ∷ [])) ≡ []
unfolding packets_said
change_none d xid m small is = rw (reading_of-as_sent xid m small is) refl

pub halts_then : {Own : Type 0} {Tells : Type 0} (d : ℕ) (m : Change) (log : List Logged) (net now_net : NetState) (a : Awaited) (frame : List ℕ) (kept : List (ℕ × List ℕ)) (old new : Seen Own) (halt : Halt) → a ≡ awaited_from d net.xid → frame ≡ change_bytes a.first m
    → kept ≡ net.kept → IsMessage (FlowMod m) → net.xid < 2 ^ 32 → now_net.views ≡ net.views → now_net.log ≡ log → KeptMore d net.kept now_net.kept → now_net.held ≡ net.held → BreaksBy Tells a ((frame ∷ []) ++ barrier_of a ∷ []) old new kept now_net.kept halt
    → Halts Tells d m log old new net now_net halt
halts_then {Tells = Tells} d m log net now_net a frame kept old new Lost is spelled same message small views log_is more held b =
    let c = broke_by d m net a frame kept now_net.kept old new Lost is spelled same b in
    let h = breaks_halts (change_bytes net.xid m ∷ []) Lost (next_xid-lt net.xid small) (change_none d net.xid m small message) c in
    record { is_lost = h.0; read = h.1; views = views; log_is = log_is; kept = more; held = held }
halts_then d m log net now_net a frame kept old new (Fault fault) is spelled same message small views log_is more held b = inr (record {
  message = message;
  is_xid = small;
  said = inl (broke_by d m net a frame kept now_net.kept old new (Fault fault) is spelled same b);
  views = inl views;
  log_is = log_is;
  kept = more;
  held = held;
})

-- a fault of a change loses no switch
pub flight_none_lost : {Own : Type 0} {Tells : Type 0} (d : ℕ) (m : Change) (log : List Logged) (old new : Seen Own) (net now_net : NetState) (fault : TxnFault) → InFlight Tells d m log old new net now_net (Fault fault) → Tells → lost_of new ≡ lost_of old
flight_none_lost d m log old new net now_net fault flight told =
    let a = awaited_from d net.xid in
    let frames = change_bytes net.xid m ∷ barrier_of a ∷ [] in
    elim flight.said [
      | inl broke ↦ breaks_none_lost a frames broke.buf broke.trouble (fault_is_none d broke.trouble broke.buf fault broke.halt_is) broke.breaks told
      | inr well ↦ replied_none_lost a frames well.replied told
    ]

-- ---- What moves no switch

-- whether it is joined or out
abbrev pub Stays : ℕ → List Said → Type 0
Stays d said = (joined : Bool) (t : State) → switch_of d (after_steps (said_steps joined said) t) ≡ switch_of d t

abbrev pub Moves : ℕ → Message → List Said → Type 0
Moves d m said = (joined : Bool) (t : State) → switch_of d (after_steps (said_steps joined said) t) ≡ option_map (after_message m) (switch_of d t)

one_then : (joined : Bool) (xs ys : List Said) (t : State) → after_steps (said_steps joined (xs ++ ys)) t ≡ after_steps (said_steps (joined_after joined xs) ys) (after_steps (said_steps joined xs) t)
one_then joined xs ys t =
    ap (λ (steps : List WorldStep). after_steps steps t) (steps_append joined xs ys) ∙ after_steps-append (said_steps joined xs) (said_steps (joined_after joined xs) ys) t

pub stays_then : (d : ℕ) (xs ys : List Said) → Stays d xs → Stays d ys → Stays d (xs ++ ys)
stays_then d xs ys first second joined t = ap (switch_of d) (one_then joined xs ys t) ∙ second (joined_after joined xs) (after_steps (said_steps joined xs) t) ∙ first joined t

pub moves_then : (d : ℕ) (m : Message) (xs ys : List Said) → Moves d m xs → Stays d ys → Moves d m (xs ++ ys)
moves_then d m xs ys first second joined t = ap (switch_of d) (one_then joined xs ys t) ∙ second (joined_after joined xs) (after_steps (said_steps joined xs) t) ∙ first joined t

-- a trouble that is not of the link loses no switch
pub stays_unsaid : (d : ℕ) (trouble : Trouble) → is_of_link trouble ≡ false → Stays d (unsaid d trouble)
stays_unsaid d troubles.Link none joined t = absurd cc
stays_unsaid d (troubles.Broke n) none joined t = refl
stays_unsaid d (troubles.Refused k x n) none joined t = refl
stays_unsaid d troubles.Flooded none joined t = refl
stays_unsaid d troubles.Short none joined t = refl
stays_unsaid d troubles.Full none joined t = refl
stays_unsaid d troubles.Parted none joined t = absurd cc

stays_unheard : (d : ℕ) (trouble : Trouble) (buf : List ℕ) → is_of_link trouble ≡ false → Stays d (unheard d trouble buf)
stays_unheard d troubles.Link buf none joined t = absurd cc
stays_unheard d (troubles.Broke n) buf none joined t = switch_of-got d (take n buf) t
stays_unheard d (troubles.Refused k x n) buf none joined t = refl
stays_unheard d troubles.Flooded buf none joined t = refl
stays_unheard d troubles.Short buf none joined t = refl
stays_unheard d troubles.Full buf none joined t = refl
stays_unheard d troubles.Parted buf none joined t = absurd cc

pub stays_last : (d : ℕ) (by : Option (List ℕ)) (trouble : Trouble) (buf : List ℕ) → is_of_link trouble ≡ false → Stays d (last_said d by trouble buf)
stays_last d None trouble buf none = stays_unheard d trouble buf none
stays_last d (Some b) trouble buf none = stays_then d (Hears d b ∷ []) (unsaid d trouble) (λ joined t. switch_of-got d b t) (stays_unsaid d trouble none)

pub stays_wait : (a : Awaited) (got : List (List ℕ)) → Stays a.dpid (wait_said a got)
stays_wait a got joined t = ap (λ (steps : List WorldStep). switch_of a.dpid (after_steps steps t)) (wait_said_steps joined a got) ∙ wait_switch a got t

pub stays_reply : (a : Awaited) → Stays a.dpid (reply_heard a ∷ [])
stays_reply a joined t = switch_of-got a.dpid (message_bytes a.barrier BarrierReply) t

barrier_told : (o : Option SwitchState) → option_map (after_message BarrierRequest) o ≡ o
barrier_told None = refl
barrier_told (Some s) = ap (λ (x : SwitchState). some_switch x) (barrier_stays s)

-- ---- A message that is sent

told_as : (xid : ℕ) (m : Message) (bytes : List ℕ) (o : Option SwitchState) → reading_of bytes ≡ Ok (enveloped xid m) → switch_told (reading_of bytes) o ≡ option_map (after_message m) o
told_as xid m bytes None read = rw read refl
told_as xid m bytes (Some s) read = rw read refl

pub told_map : (xid : ℕ) (m : Message) (bytes : List ℕ) (d : ℕ) → reading_of bytes ≡ Ok (enveloped xid m) → Moves d m (Says d bytes ∷ [])
told_map xid m bytes d read joined t = switch_of-sent d bytes t ∙ told_as xid m bytes (switch_of d t) read

pub stays_barrier : (d xid : ℕ) → xid < 2 ^ 32 → Stays d (Says d (message_bytes xid BarrierRequest) ∷ [])
stays_barrier d xid small joined t =
    told_map xid BarrierRequest (message_bytes xid BarrierRequest) d (reading_of-message_bytes xid BarrierRequest small IsMessage-barrier) joined t ∙ barrier_told (switch_of d t)

-- ---- The whole

abbrev EitherWay : ℕ → Message → List Said → Type 0
EitherWay d m said = Stays d said ⊎ Moves d m said

-- so many of the two messages were sent
pub record IsFront (change barrier : List ℕ) (first : List (List ℕ)) : Type 0 where
  pub front : (first ≡ []) ⊎ ((first ≡ change ∷ []) ⊎ (first ≡ change ∷ barrier ∷ []))

pub front_of_two : (change barrier : List ℕ) (first rest : List (List ℕ)) → change ∷ barrier ∷ [] ≡ first ++ rest → IsFront change barrier first
front_of_two change barrier [] rest same = record { front = inl refl }
front_of_two change barrier (c ∷ []) rest same = record { front = inr (inl cc) }
front_of_two change barrier (c ∷ b ∷ []) rest same = record { front = inr (inr cc) }
front_of_two change barrier (c ∷ b ∷ x ∷ xs) rest same = absurd cc

-- a message, and a barrier behind it
module _ (a : Awaited) (xid : ℕ) (m : Message) (frame : List ℕ) (small : a.barrier < 2 ^ 32) (read : reading_of frame ≡ Ok (enveloped xid m)) where
  change_moves : Moves a.dpid m (Says a.dpid frame ∷ [])
  change_moves = told_map xid m frame a.dpid read

  both_move : Moves a.dpid m (Says a.dpid frame ∷ Says a.dpid (barrier_of a) ∷ [])
  both_move = moves_then a.dpid m (Says a.dpid frame ∷ []) (Says a.dpid (barrier_of a) ∷ []) change_moves (stays_barrier a.dpid a.barrier small)

  front_moves : (first : List (List ℕ)) (last : List Said) → IsFront frame (barrier_of a) first → Stays a.dpid last → EitherWay a.dpid m (frames_said a.dpid first ++ last)
  front_moves first last front stays =
      elim front.front [
        | inl none ↦ inl (subst (λ (fs : List (List ℕ)). Stays a.dpid (frames_said a.dpid fs ++ last)) (sym none) stays)
        | inr some ↦ elim some [
          | inl one ↦ inr (subst (λ (fs : List (List ℕ)). Moves a.dpid m (frames_said a.dpid fs ++ last)) (sym one) (moves_then a.dpid m (Says a.dpid frame ∷ []) last change_moves stays))
          | inr two ↦ inr (subst (λ (fs : List (List ℕ)). Moves a.dpid m (frames_said a.dpid fs ++ last)) (sym two)
              (moves_then a.dpid m (Says a.dpid frame ∷ Says a.dpid (barrier_of a) ∷ []) last both_move stays))
        ]
      ]

  both_front : IsFront frame (barrier_of a) (frame ∷ barrier_of a ∷ [])
  both_front = record { front = inr (inr refl) }

moves_by : {Own : Type 0} {Tells : Type 0} (d : ℕ) (m : Message) (said : List Said) (old new : Seen Own) → Tells → Calls Tells d said old new → EitherWay d m said → MayMove d m (state old) (state new)
moves_by d m said old new told calls either =
    let joined = is_joined d (state old) in
    let steps = said_steps joined said in
    let after = state-append old new steps calls.continues.given (calls.told told) in
    record {
      switch = elim either [
        | inl stays ↦ inl (ap (switch_of d) after ∙ stays joined (state old))
        | inr moves ↦ inr (ap (switch_of d) after ∙ moves joined (state old))
      ];
      others = λ e other. ap (switch_of e) after ∙ (steps_other d e steps (state old) other (Calls-moves steps refl calls).each).0;
    }

-- The switches stand so after an exchange that broke off by a fault, or whose reply came.
pub breaks_move : {Own : Type 0} {Tells : Type 0} (a : Awaited) (xid : ℕ) (m : Message) (frame : List ℕ) (old new : Seen Own) (kept now_kept : List (ℕ × List ℕ)) (buf : List ℕ) (trouble : Trouble) → Tells → a.barrier < 2 ^ 32 → reading_of frame ≡ Ok (enveloped xid m)
    → is_of_link trouble ≡ false → Breaks Tells a (frame ∷ barrier_of a ∷ []) Growing [] old new kept now_kept buf trouble → MayMove a.dpid m (state old) (state new)
breaks_move a xid m frame old new kept now_kept buf trouble told small read none (inl u) =
    moves_by a.dpid m (frames_said a.dpid u.first ++ unsaid a.dpid trouble) old new told u.calls
    (front_moves a xid m frame small read u.first (unsaid a.dpid trouble) (front_of_two frame (barrier_of a) u.first u.rest u.frames_is) (stays_unsaid a.dpid trouble none))
breaks_move a xid m frame old new kept now_kept buf trouble told small read none (inr u) =
    let frames = frame ∷ barrier_of a ∷ [] in
    let last = wait_said a u.got ++ last_said a.dpid u.by trouble buf in
    moves_by a.dpid m (frames_said a.dpid frames ++ last) old new told u.calls
    (front_moves a xid m frame small read frames last (both_front a xid m frame small read) (stays_then a.dpid (wait_said a u.got) (last_said a.dpid u.by trouble buf) (stays_wait a u.got) (stays_last a.dpid u.by trouble buf none)))

pub replied_move : {Own : Type 0} {Tells : Type 0} (a : Awaited) (xid : ℕ) (m : Message) (frame : List ℕ) (old new : Seen Own) (kept now_kept : List (ℕ × List ℕ)) (answer : Brought) → Tells → a.barrier < 2 ^ 32 → reading_of frame ≡ Ok (enveloped xid m)
    → Replied Tells a (frame ∷ barrier_of a ∷ []) Growing [] old new kept now_kept answer → MayMove a.dpid m (state old) (state new)
replied_move a xid m frame old new kept now_kept answer told small read replied =
    let frames = frame ∷ barrier_of a ∷ [] in
    let last = wait_said a replied.got ++ reply_heard a ∷ [] in
    moves_by a.dpid m (frames_said a.dpid frames ++ last) old new told replied.calls
    (front_moves a xid m frame small read frames last (both_front a xid m frame small read) (stays_then a.dpid (wait_said a replied.got) (reply_heard a ∷ []) (stays_wait a replied.got) (stays_reply a)))

-- The switches stand so after a fault of a change.
pub flight_moves : {Own : Type 0} {Tells : Type 0} (d : ℕ) (m : Change) (log : List Logged) (old new : Seen Own) (net now_net : NetState) (fault : TxnFault) → Tells → InFlight Tells d m log old new net now_net (Fault fault) → MayMove d (as_sent (FlowMod m)) (state old) (state new)
flight_moves d m log old new net now_net fault told flight =
    let a = awaited_from d net.xid in
    let small = next_xid-lt net.xid flight.is_xid in
    let frame = change_bytes net.xid m in
    let read = reading_of-as_sent net.xid m flight.is_xid flight.message in
    elim flight.said [
      | inl broke ↦ breaks_move a net.xid (as_sent (FlowMod m)) frame old new net.kept now_net.kept broke.buf broke.trouble told small read (fault_is_none d broke.trouble broke.buf fault broke.halt_is) broke.breaks
      | inr well ↦ replied_move a net.xid (as_sent (FlowMod m)) frame old new net.kept now_net.kept _ told small read well.replied
    ]
