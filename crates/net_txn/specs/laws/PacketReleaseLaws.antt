-- One packet that is released: it is sent and taken, or its switch is lost, or it stops.
use Rattle.std.specs.Prelude.{◌≡◌, ◌≢◌, ◌⊎◌, ℕ, ◌+◌, ◌^◌, ◌<◌, ◌≤◌, Bool, true, false, List, [], ◌∷◌, ◌++◌, Result, Ok, Err, MatchResult, refl}
use Rattle.std.proofs.Common.{sym, ap, ◌∙◌, subst, append_assoc, inl, inr, arith}
use Rattle.lego_io.specs.laws.CountLaws.{Rose-after}
use Rattle.of_types.specs.declared.journal.Act.{Act}
use Rattle.of_wire.specs.declared.bodies.PacketOut.{PacketOut as Packet}
use Rattle.of_wire.specs.declared.message.Message.TheVariants.{PacketOut}
use Rattle.of_wire.specs.declared.message.Envelope.{Envelope}
use Rattle.of_wire.specs.declared.fault.WireFault.{WireFault}
use Rattle.of_wire.specs.Reading.{reading_of}
use Rattle.of_wire.specs.Spelling.{message_bytes}
use Rattle.of_wire.specs.Grammar.{IsMessage}
use Rattle.app_frames.specs.declared.frame.Event.{Event}
use Rattle.outside.specs.declared.step.WorldStep.{WorldStep}
use Rattle.outside.specs.Seen.{Seen, Continues, journal}
use Rattle.outside.specs.State.{State, after_steps, state, switch_of, waits_of, is_joined}
use Rattle.outside.specs.laws.SeenLaws.{Continues-refl, Continues-trans, journal-append}
use Rattle.outside.specs.laws.StateLaws.{state-append}
use Rattle.outside.specs.InOrder.{MessagesSince}
use Rattle.outside.specs.laws.InOrderLaws.{messages-none, messages-then}
use Rattle.lego_model.specs.declared.fault.TxnFault.{TxnFault}
use Rattle.lego_model.specs.declared.fault.TxnFault.TheVariants.{NoMemory}
use Rattle.lego_model.specs.declared.wait.Awaited.{Awaited}
use Rattle.lego_model.specs.BarrierWaits.{next_xid}
use Rattle.lego_model.specs.Journal.{released, losses}
use Rattle.lego_model.specs.History.{lost_of}
use Rattle.lego_model.specs.Packets.{Held}
use Rattle.net_txn.specs.declared.halt.Halt.{Halt}
use Rattle.net_txn.specs.declared.halt.Halt.TheVariants.{Lost, Fault}
use Rattle.net_txn.specs.declared.queue.Storage.TheVariants.{Growing}
use Rattle.net_txn.specs.declared.trouble.Trouble.{Trouble}
use Rattle.net_txn.specs.declared.trouble.Trouble.TheVariants as troubles
use Rattle.net_txn.specs.Causes.{halt_by, IsCause}
use Rattle.net_txn.specs.Waits.{Brought, IfFlooded}
use Rattle.net_txn.specs.Views.{is_viewed}
use Rattle.net_txn.specs.Net.{NetState}
use Rattle.net_txn.specs.Losing.{lost_net, IsLost}
use Rattle.net_txn.specs.Said.{Said, Says, said_steps, Calls, IsOfLink, unsaid, wait_said, last_said, frames_said, barrier_of, reply_heard, Replied, Breaks, BreaksBy, Speaks, SaysNot, SaysTo}
use Rattle.net_txn.specs.Releases.{Knows, packet_steps, takes_read, takes_all, MovesBy, SendsPacket, BreaksAt}
use Rattle.lego_model.specs.FlowQueries.{asked_from}
use Rattle.net_txn.specs.ReleaseSteps.{PacketSent, PacketUnsent, BarrierPassed, BarrierBroke, BarrierStops, packet_frames, PacketTold, PacketBroke, PacketStops, TakenBeforeReply, LostBeforeReply, StopsBeforeReply, ReleasesPacket}
use Rattle.net_txn.specs.laws.TalkLaws.{speaks_none, says_speak, talks_behind, talks_not, talks_speak, talks_waits, talks_cause, talks_flooded, halt_or}
use Rattle.lego_model.specs.laws.OwnIdLaws.{own_id-sent}
use Rattle.net_txn.specs.laws.ArrivalLaws.{net_after_xid}
use Rattle.net_txn.specs.laws.OwnIdLaws.{FramesAscend, one_ascends, two_ascend, second_next, leaves_then, waits_leave, ids_none, speaks_on_ids, speaks_stop}
use Rattle.net_txn.specs.laws.LinkPresenceLaws.{losses_by}
use Rattle.net_txn.specs.laws.SaidLaws.{joined_after, Calls-none, Calls-joined, said_links}
use Rattle.net_txn.specs.laws.LostLaws.{packets_none, said_released, released_two, losses_two, fault_is_none, says_halts, breaks_halts, breaks_none_lost, replied_none_lost, Calls-read}
use Rattle.net_txn.specs.Undos.{is_of_link}
use Rattle.net_txn.specs.laws.PartLaws.{steps_other}
use Rattle.net_txn.specs.laws.HeardLaws.{next_xid-lt}
use Rattle.net_txn.specs.laws.ReadLaws.{waits_read}
use Rattle.net_txn.specs.laws.ChangeFlightLaws.{stays_reply, front_of_two}
use Rattle.net_txn.specs.laws.PacketMoveLaws.{moved_none, moved_one, packet_released, packet_said, both_said, unsaid_then, unsaid_none, wait_then, reply_then, nothing_said}
use Rattle.net_txn.specs.laws.ReleaseStepLaws.{stays_same, stays_then, stays_xid, stays_lost, calls_none, calls_one, calls_lost}
use Rattle.net_txn.specs.laws.PacketStepLaws.{packet_in_step, packet_plain, with_xid}

abbrev packet_bytes : ℕ → Packet → List ℕ
packet_bytes xid packet = message_bytes xid (PacketOut packet)

-- ---- The packet, and the barrier behind it

-- what a message that was to be sent leaves
pub says_packet : {Own : Type 0} (Tells : Type 0) (d xid : ℕ) (packet : Packet) (frame : List ℕ) (old new : Seen Own) (result : Result (Unit {0}) Halt) → frame ≡ packet_bytes xid packet → SaysTo Tells d frame old new result
    → MatchResult result (λ x. PacketSent Tells d xid packet old new) (PacketUnsent Tells d old new)
says_packet Tells d xid packet frame old new (Ok x) is c = subst (λ (b : List ℕ). Calls Tells d (Says d b ∷ []) old new) is c
says_packet Tells d xid packet frame old new (Err halt) is s = inr s

pub barrier_passed : {Own : Type 0} {Tells : Type 0} (a : Awaited) (old new : Seen Own) (before now_kept came : List (ℕ × List ℕ)) (brought : Brought) → before ≡ [] → came ≡ now_kept → Replied Tells a (barrier_of a ∷ []) Growing [] old new before now_kept brought
    → BarrierPassed Tells a old new came
barrier_passed {Tells = Tells} a old new before now_kept came brought none same r =
    let r1 = subst (λ (k : List (ℕ × List ℕ)). Replied Tells a (barrier_of a ∷ []) Growing [] old new k now_kept brought) none r in
    record { brought = brought; replied = subst (λ (k : List (ℕ × List ℕ)). Replied Tells a (barrier_of a ∷ []) Growing [] old new [] k brought) (sym same) r1 }

pub barrier_broke : {Own : Type 0} {Tells : Type 0} (a : Awaited) (old new : Seen Own) (before now_kept : List (ℕ × List ℕ)) (halt : Halt) → before ≡ [] → BreaksBy Tells a (barrier_of a ∷ []) old new before now_kept halt → BarrierBroke Tells a old new halt
barrier_broke {Tells = Tells} a old new before now_kept halt none b = record { came = now_kept; breaks = subst (λ (k : List (ℕ × List ℕ)). BreaksBy Tells a (barrier_of a ∷ []) old new k now_kept halt) none b }

-- a wait that ends because its switch is lost
pub stops_lost : {Own : Type 0} {Tells : Type 0} (a : Awaited) (old new : Seen Own) (halt : Halt) → halt ≡ Lost → BarrierStops Tells a old new halt → BarrierBroke Tells a old new Lost
stops_lost {Tells = Tells} a old new halt is (inl b) = subst (λ (h : Halt). BarrierBroke Tells a old new h) is b
stops_lost a old new halt is (inr b) = absurd (let none = sym is ∙ b.short in cc)

pub short_behind : {Own : Type 0} {Tells : Type 0} (a : Awaited) (old new : Seen Own) (came : List (ℕ × List ℕ)) → BarrierPassed Tells a old new came → BarrierStops Tells a old new (Fault NoMemory)
short_behind a old new came b = inr (record { came = came; passed = b; short = refl })

told_of : {Own : Type 0} {Tells : Type 0} (d xid : ℕ) (packet : Packet) (old mid new : Seen Own) (came : List (ℕ × List ℕ)) → PacketSent Tells d xid packet old mid → BarrierPassed Tells (asked_from d xid) mid new came → PacketTold Tells d xid packet old new came
told_of d xid packet old mid new came sent b = record { brought = b.brought; replied = talks_behind (asked_from d xid) [] new [] came (packet_bytes xid packet) (Ok b.brought) sent b.replied }

stops_of : {Own : Type 0} {Tells : Type 0} (d xid : ℕ) (packet : Packet) (old mid new : Seen Own) (fault : TxnFault) → PacketSent Tells d xid packet old mid → BarrierStops Tells (asked_from d xid) mid new (Fault fault) → PacketStops Tells d xid packet old new fault
stops_of d xid packet old mid new fault sent (inl b) =
    inr (inl (record { came = b.came; breaks = talks_behind (asked_from d xid) [] new [] b.came (packet_bytes xid packet) (Err (Fault fault)) sent b.breaks }))
stops_of d xid packet old mid new fault sent (inr b) = inr (inr (record { came = b.came; told = told_of d xid packet old mid new b.came sent b.passed; short = fault_of fault b.short }))
  where
    fault_of : (f : TxnFault) → Fault f ≡ Fault NoMemory → f ≡ NoMemory
    fault_of f same = cc

unsent_of : {Own : Type 0} {Tells : Type 0} (d xid : ℕ) (packet : Packet) (old new : Seen Own) (fault : TxnFault) → PacketUnsent Tells d old new (Fault fault) → PacketStops Tells d xid packet old new fault
unsent_of d xid packet old new fault (inl short) = inl (short.0, fault_of fault short.1)
  where
    fault_of : (f : TxnFault) → Fault f ≡ Fault NoMemory → f ≡ NoMemory
    fault_of f same = cc
unsent_of d xid packet old new fault (inr s) = inr (inl (record { came = []; breaks = talks_not (packet_bytes xid packet ∷ []) [] (Fault fault) s }))

-- ---- It was sent

told_moves : {Own : Type 0} {Tells : Type 0} (d xid : ℕ) (packet : Packet) (old new : Seen Own) (came : List (ℕ × List ℕ)) → xid < 2 ^ 32 → IsMessage (PacketOut packet) → PacketTold Tells d xid packet old new came → Tells → MovesBy ((d, packet) ∷ []) old new
told_moves d xid packet old new came lt is t told =
    let a = asked_from d xid in
    let r = t.replied in
    moved_one d packet (frames_said d (packet_frames d xid packet) ++ (wait_said a r.got ++ reply_heard a ∷ [])) old new told r.calls
    (reply_then d packet a (frames_said d (packet_frames d xid packet)) r.got refl r.before.read (both_said d xid packet lt is) (stays_reply a))

pub sends_packet : {Own : Type 0} {Tells : Type 0} (d : ℕ) (packet : Packet) (old new : Seen Own) (net now_net : NetState) (queue now_queue : List Event) (came : List (ℕ × List ℕ)) → IsMessage (PacketOut packet) → (1 ≤ net.xid) × (net.xid < 2 ^ 32)
    → PacketTold Tells d net.xid packet old new came → (now_net, now_queue) ≡ takes_all came (record net { xid = next_xid (next_xid net.xid) }, queue) → SendsPacket Tells (d, packet) old new net now_net queue now_queue
sends_packet d packet old new net now_net queue now_queue came is xid t taken =
    let w = talks_waits (packet_bytes net.xid packet ∷ []) t.replied in
    record {
      continues = t.replied.calls.continues;
      message = is;
      is_xid = xid;
      came = came;
      brought = t.brought;
      waits = w;
      taken = taken;
      moves = told_moves d net.xid packet old new came xid.1 is t;
      in_step = λ s told keeps here none. packet_in_step d packet s old new net now_net queue now_queue came t.brought xid.1 is w taken told keeps here none;
    }

-- ---- It stopped

record Moved {Own : Type 0} (Tells : Type 0) (d : ℕ) (packet : Packet) (old new : Seen Own) : Type 0 where
  packets : List Held
  at_most : (packets ≡ []) ⊎ (packets ≡ (d, packet) ∷ [])
  moves : Tells → MovesBy packets old new

none_moved : {Own : Type 0} {Tells : Type 0} (d : ℕ) (packet : Packet) (old new : Seen Own) → (Tells → MovesBy [] old new) → Moved Tells d packet old new
none_moved d packet old new moves = record { packets = []; at_most = inl refl; moves = moves }

one_moved : {Own : Type 0} {Tells : Type 0} (d : ℕ) (packet : Packet) (old new : Seen Own) → (Tells → MovesBy ((d, packet) ∷ []) old new) → Moved Tells d packet old new
one_moved d packet old new moves = record { packets = (d, packet) ∷ []; at_most = inr refl; moves = moves }

unsent_moved : {Own : Type 0} {Tells : Type 0} (d xid : ℕ) (packet : Packet) (old new : Seen Own) (t : Trouble) (first rest : List (List ℕ)) → xid < 2 ^ 32 → IsMessage (PacketOut packet) → is_of_link t ≡ false → packet_frames d xid packet ≡ first ++ rest
    → Calls Tells d (frames_said d first ++ unsaid d t) old new → Moved Tells d packet old new
unsent_moved {Tells = Tells} d xid packet old new t first rest lt is none split calls =
    let front = front_of_two (packet_bytes xid packet) (barrier_of (asked_from d xid)) first rest split in
    elim front.front [
      | inl empty ↦ none_moved d packet old new (λ told. unsaid_none d t old new none told (subst (λ (fs : List (List ℕ)). Calls Tells d (frames_said d fs ++ unsaid d t) old new) empty calls))
      | inr some ↦ elim some [
        | inl one ↦
            one_moved d packet old new (λ told. moved_one d packet (frames_said d (packet_bytes xid packet ∷ []) ++ unsaid d t) old new told (subst (λ (fs : List (List ℕ)). Calls Tells d (frames_said d fs ++ unsaid d t) old new) one calls)
            (unsaid_then d packet (frames_said d (packet_bytes xid packet ∷ [])) t none (packet_said d xid packet lt is)))
        | inr two ↦
            one_moved d packet old new (λ told. moved_one d packet (frames_said d (packet_frames d xid packet) ++ unsaid d t) old new told (subst (λ (fs : List (List ℕ)). Calls Tells d (frames_said d fs ++ unsaid d t) old new) two calls)
            (unsaid_then d packet (frames_said d (packet_frames d xid packet)) t none (both_said d xid packet lt is)))
      ]
    ]

breaks_moved : {Own : Type 0} {Tells : Type 0} (d xid : ℕ) (packet : Packet) (old new : Seen Own) (came : List (ℕ × List ℕ)) (buf : List ℕ) (t : Trouble) → xid < 2 ^ 32 → IsMessage (PacketOut packet) → is_of_link t ≡ false
    → Breaks Tells (asked_from d xid) (packet_frames d xid packet) Growing [] old new [] came buf t → Moved Tells d packet old new
breaks_moved d xid packet old new came buf t lt is none (inl u) = unsent_moved d xid packet old new t u.first u.rest lt is none u.frames_is u.calls
breaks_moved d xid packet old new came buf t lt is none (inr u) =
    let a = asked_from d xid in
    let said = wait_then d packet a (frames_said d (packet_frames d xid packet)) u.got u.by t buf refl none u.before.read (both_said d xid packet lt is) in
    one_moved d packet old new (λ told. moved_one d packet (frames_said d (packet_frames d xid packet) ++ (wait_said a u.got ++ last_said d u.by t buf)) old new told u.calls said)

-- where nothing was said, the world's own memory was wanting
some_said : (b : Bool) (d : ℕ) (f : List ℕ) (fs : List (List ℕ)) (last : List Said) → said_steps b (frames_said d (f ∷ fs) ++ last) ≡ [] → ⊥
some_said b d f fs last none = absurd cc

unsent_short : {Own : Type 0} {Tells : Type 0} (d : ℕ) (old new : Seen Own) (buf : List ℕ) (t : Trouble) (first : List (List ℕ)) → is_of_link t ≡ false → IsOfLink t → Calls Tells d (frames_said d first ++ unsaid d t) old new → Tells → new.history ≡ old.history → halt_by d t buf ≡ Fault NoMemory
unsent_short d old new buf troubles.Link [] none why calls told same = absurd cc
unsent_short d old new buf (troubles.Broke n) [] none why calls told same = absurd why
unsent_short d old new buf (troubles.Refused k x n) [] none why calls told same = absurd why
unsent_short d old new buf troubles.Flooded [] none why calls told same = absurd why
unsent_short d old new buf troubles.Short [] none why calls told same = refl
unsent_short d old new buf troubles.Full [] none why calls told same = absurd why
unsent_short d old new buf troubles.Parted [] none why calls told same = absurd why
unsent_short d old new buf t (f ∷ fs) none why calls told same = absurd (some_said (is_joined d (state old)) d f fs (unsaid d t) (nothing_said d _ old new told calls same))

breaks_short : {Own : Type 0} {Tells : Type 0} (d xid : ℕ) (packet : Packet) (old new : Seen Own) (came : List (ℕ × List ℕ)) (buf : List ℕ) (t : Trouble) → is_of_link t ≡ false
    → Breaks Tells (asked_from d xid) (packet_frames d xid packet) Growing [] old new [] came buf t → Tells → new.history ≡ old.history → halt_by d t buf ≡ Fault NoMemory
breaks_short d xid packet old new came buf t none (inl u) told same = unsent_short d old new buf t u.first none u.why u.calls told same
breaks_short d xid packet old new came buf t none (inr u) told same =
    let a = asked_from d xid in
    absurd (some_said (is_joined d (state old)) d (packet_bytes xid packet) (barrier_of a ∷ []) (wait_said a u.got ++ last_said d u.by t buf) (nothing_said d _ old new told u.calls same))

abbrev IfShort : Halt → Type 0
IfShort halt = halt ≡ Fault NoMemory

broke_short : {Own : Type 0} {Tells : Type 0} (d xid : ℕ) (packet : Packet) (old new : Seen Own) (fault : TxnFault) → PacketBroke Tells d xid packet old new fault → Tells → new.history ≡ old.history → fault ≡ NoMemory
broke_short d xid packet old new fault b told same =
    let none = fault_is_none d b.breaks.trouble b.breaks.buf fault b.breaks.halt_is in
    let short : Fault fault ≡ Fault NoMemory = halt_or IfShort d b.breaks.trouble b.breaks.buf (Fault fault) b.breaks.halt_is (breaks_short d xid packet old new b.came b.breaks.buf b.breaks.trouble none b.breaks.breaks told same) refl in
    cc

-- ---- The whole of it

breaks_on : {Own : Type 0} {Tells : Type 0} (a : Awaited) (frames : List (List ℕ)) (old new : Seen Own) (kept now_kept : List (ℕ × List ℕ)) (buf : List ℕ) (t : Trouble) → Breaks Tells a frames Growing [] old new kept now_kept buf t → Continues Tells old new
breaks_on a frames old new kept now_kept buf t (inl u) = u.calls.continues
breaks_on a frames old new kept now_kept buf t (inr u) = u.calls.continues

breaks_as : {Own : Type 0} {Tells : Type 0} (d : ℕ) (packet : Packet) (old new : Seen Own) (net : NetState) (fault : TxnFault) → is_viewed d net.views ≡ true → IsMessage (PacketOut packet) → net.xid < 2 ^ 32 → Continues Tells old new → IsCause Tells d old new fault
    → IfFlooded Tells (asked_from d net.xid) (packet_steps d net.xid packet) old new fault → Moved Tells d packet old new → (Tells → new.history ≡ old.history → fault ≡ NoMemory) → BreaksAt Tells (d, packet) old new net fault
breaks_as d packet old new net fault viewed is lt later cause flooded moved short = record {
  viewed = viewed;
  cause = cause;
  flooded = flooded;
  packets = moved.packets;
  at_most = moved.at_most;
  moves = moved.moves;
  begun = short;
  plain = λ s told keeps here none. packet_plain d net.xid packet s old new fault lt is later cause flooded told keeps here none;
}

short_breaks : {Own : Type 0} {Tells : Type 0} (d : ℕ) (packet : Packet) (old new : Seen Own) (net : NetState) (fault : TxnFault) → is_viewed d net.views ≡ true → IsMessage (PacketOut packet) → net.xid < 2 ^ 32 → Continues Tells old new → Moved Tells d packet old new
    → fault ≡ NoMemory → BreaksAt Tells (d, packet) old new net fault
short_breaks {Tells = Tells} d packet old new net fault viewed is lt later moved short =
    subst (λ (f : TxnFault). BreaksAt Tells (d, packet) old new net f) (sym short) (breaks_as d packet old new net NoMemory viewed is lt later tt tt moved (λ told same. refl))

still : {Own : Type 0} {Tells : Type 0} (d : ℕ) (packet : Packet) (seen : Seen Own) → Moved Tells d packet seen seen
still d packet seen = none_moved d packet seen seen (λ told. moved_none d [] seen seen told (Calls-none _ d seen) tt (λ joined t. refl) packets_none)

packet_breaks : {Own : Type 0} {Tells : Type 0} (d : ℕ) (packet : Packet) (old new : Seen Own) (net : NetState) (fault : TxnFault) → is_viewed d net.views ≡ true → IsMessage (PacketOut packet) → net.xid < 2 ^ 32 → PacketStops Tells d net.xid packet old new fault
    → BreaksAt Tells (d, packet) old new net fault
packet_breaks {Tells = Tells} d packet old new net fault viewed is lt (inl none) =
    subst (λ (x : Seen _). BreaksAt Tells (d, packet) old x net fault) (sym none.0) (short_breaks d packet old old net fault viewed is lt (Continues-refl Tells old) (still d packet old) none.1)
packet_breaks d packet old new net fault viewed is lt (inr (inl b)) =
    breaks_as d packet old new net fault viewed is lt (breaks_on (asked_from d net.xid) (packet_frames d net.xid packet) old new [] b.came b.breaks.buf b.breaks.trouble b.breaks.breaks)
    (talks_cause d (packet_bytes net.xid packet ∷ []) (Fault fault) refl b.breaks) (talks_flooded (packet_bytes net.xid packet ∷ []) (Fault fault) b.breaks)
    (breaks_moved d net.xid packet old new b.came b.breaks.buf b.breaks.trouble lt is (fault_is_none d b.breaks.trouble b.breaks.buf fault b.breaks.halt_is) b.breaks.breaks) (broke_short d net.xid packet old new fault b)
packet_breaks d packet old new net fault viewed is lt (inr (inr b)) =
    short_breaks d packet old new net fault viewed is lt b.told.replied.calls.continues (one_moved d packet old new (told_moves d net.xid packet old new b.came lt is b.told)) b.short

-- ---- Its calls are of one link, and no switch is lost by them

packet_ascends : (d xid : ℕ) (packet : Packet) → FramesAscend xid 2 (asked_from d xid) (packet_bytes xid packet ∷ barrier_of (asked_from d xid) ∷ [])
packet_ascends d xid packet = two_ascend (asked_from d xid) xid (PacketOut packet) (packet_bytes xid packet) refl refl refl

told_speaks : {Own : Type 0} {Tells : Type 0} (d xid : ℕ) (packet : Packet) (old new : Seen Own) (came : List (ℕ × List ℕ)) → PacketTold Tells d xid packet old new came → Speaks Tells d xid 2 old new
told_speaks d xid packet old new came t = talks_speak xid 2 (asked_from d xid) [] came d (packet_bytes xid packet ∷ []) (Ok t.brought) refl t.replied (packet_ascends d xid packet)

stops_speaks : {Own : Type 0} {Tells : Type 0} (d xid : ℕ) (packet : Packet) (old new : Seen Own) (fault : TxnFault) → PacketStops Tells d xid packet old new fault → Speaks Tells d xid 2 old new
stops_speaks {Tells = Tells} d xid packet old new fault (inl none) = subst (λ (x : Seen _). Speaks Tells d xid 2 old x) (sym none.0) (speaks_none Tells d xid 2 old)
stops_speaks d xid packet old new fault (inr (inl b)) = talks_speak xid 2 (asked_from d xid) [] b.came d (packet_bytes xid packet ∷ []) (Err (Fault fault)) refl b.breaks (packet_ascends d xid packet)
stops_speaks d xid packet old new fault (inr (inr b)) = told_speaks d xid packet old new b.came b.told

stops_none_lost : {Own : Type 0} {Tells : Type 0} (d xid : ℕ) (packet : Packet) (old new : Seen Own) (fault : TxnFault) → PacketStops Tells d xid packet old new fault → Tells → lost_of new ≡ lost_of old
stops_none_lost d xid packet old new fault (inl none) told = ap lost_of none.0
stops_none_lost d xid packet old new fault (inr (inl b)) told =
    breaks_none_lost (asked_from d xid) (packet_frames d xid packet) b.breaks.buf b.breaks.trouble (fault_is_none d b.breaks.trouble b.breaks.buf fault b.breaks.halt_is) b.breaks.breaks told
stops_none_lost d xid packet old new fault (inr (inr b)) told = replied_none_lost (asked_from d xid) (packet_frames d xid packet) b.told.replied told

-- ---- Its switch is lost

-- behind the packet
lost_sent : {Own : Type 0} {Tells : Type 0} (d xid : ℕ) (packet : Packet) (old mid new : Seen Own) → xid < 2 ^ 32 → IsMessage (PacketOut packet) → PacketSent Tells d xid packet old mid → Continues Tells mid new → IsLost Tells d [] mid new → IsLost Tells d ((d, packet) ∷ []) old new
lost_sent {Tells = Tells} d xid packet old mid new lt is sent later lost = record {
  rose = Rose-after (old.counts.link_faults d) (mid.counts.link_faults d) (new.counts.link_faults d) (sent.continues.none_fell.link_faults d) lost.rose;
  only = λ told. (
      let steps = said_steps (is_joined d (state old)) (Says d (packet_bytes xid packet) ∷ []) in
      let calls = lost.only told in
      record {
        steps = steps ++ calls.steps;
        history = calls.history ∙ ap (λ (s : List WorldStep). s ++ calls.steps) (sent.told told) ∙ append_assoc old.history steps calls.steps;
        each = (refl, calls.each);
      });
  some = leaves_then old _ later sent.told (omega arith);
  out = λ told joined. (
      let bytes = packet_bytes xid packet in
      let said = Says d bytes ∷ [] in
      let steps = said_steps true said in
      let history : mid.history ≡ old.history ++ steps = sent.told told ∙ ap (λ (b : Bool). old.history ++ said_steps b said) joined in
      let after : state mid ≡ after_steps steps (state old) = state-append old mid steps sent.continues.given history in
      let there : is_joined d (state mid) ≡ true = Calls-joined sent told ∙ ap (λ (b : Bool). joined_after b said) joined in
      let o = lost.out told there in
      let others = λ (e : ℕ) (other : e ≢ d). steps_other d e steps (state old) other (refl, tt) in
      record {
        steps = steps ++ o.steps;
        history = o.history ∙ ap (λ (s : List WorldStep). s ++ o.steps) history ∙ append_assoc old.history steps o.steps;
        lost = ap (λ (acts : List Act). losses acts) (journal-append steps o.steps) ∙ losses_two (journal steps) (journal o.steps) ∙ ap (λ (ds : List ℕ). ds ++ losses (journal o.steps)) (losses_by steps (said_links true said)) ∙ o.lost;
        released_is = released_two steps o.steps ∙ ap (λ (ps : List Held). ps ++ released (journal o.steps)) (said_released true said ∙ packet_released d xid packet lt is) ∙ ap (λ (ps : List Held). (d, packet) ∷ ps) o.released_is;
        out = o.out;
        waits = o.waits;
        others = λ e other. o.others e other ∙ ap (λ (s : State). switch_of e s) after ∙ (others e other).0;
        others_wait = λ e other. o.others_wait e other ∙ ap (λ (s : State). waits_of e s) after ∙ (others e other).1;
      });
  was_out = λ told out. absurd (not_out (is_joined d (state old)) out (sent.joined told).0);
}
  where
    not_out : (b : Bool) → b ≡ false → b ≡ true → ⊥
    not_out true is_out is_in = absurd cc
    not_out false is_out is_in = absurd cc

-- what a barrier loses releases nothing, and all that came were messages
barrier_lost : {Own : Type 0} {Tells : Type 0} (a : Awaited) (old new : Seen Own) → a.barrier < 2 ^ 32 → BarrierBroke Tells a old new Lost → IsLost Tells a.dpid [] old new × (Tells → MessagesSince old new)
barrier_lost a old new small b = breaks_halts [] Lost small packets_none b.breaks

barrier_on : {Own : Type 0} {Tells : Type 0} (a : Awaited) (old new : Seen Own) (halt : Halt) → BarrierBroke Tells a old new halt → Continues Tells old new
barrier_on a old new halt b = breaks_on a (barrier_of a ∷ []) old new [] b.came b.breaks.buf b.breaks.trouble b.breaks.breaks

lost_speaks : {Own : Type 0} {Tells : Type 0} (d xid : ℕ) (packet : Packet) (old mid new : Seen Own) → PacketSent Tells d xid packet old mid → BarrierBroke Tells (asked_from d xid) mid new Lost → Speaks Tells d xid 2 old new
lost_speaks d xid packet old mid new sent b =
    talks_speak xid 2 (asked_from d xid) [] b.came d (packet_bytes xid packet ∷ []) (Err Lost) refl (talks_behind (asked_from d xid) [] new [] b.came (packet_bytes xid packet) (Err Lost) sent b.breaks) (packet_ascends d xid packet)

lost_is : (d : ℕ) (net now_net : NetState) (xid : ℕ) → now_net ≡ lost_net d (with_xid net xid) → now_net ≡ with_xid (lost_net d net) now_net.xid
lost_is d net now_net xid is = let x : now_net.xid ≡ xid = ap (λ (n : NetState). n.xid) is in is ∙ ap (with_xid (lost_net d net)) (sym x)

-- what is taken in takes no transaction id
read_xid : (d : ℕ) (r : Result Envelope WireFault) (k : Knows) → (takes_read d r k).0.xid ≡ k.0.xid
read_xid d (Ok e) k = net_after_xid d e.message k.0
read_xid d (Err fault) k = refl

all_xid : (came : List (ℕ × List ℕ)) (k : Knows) → (takes_all came k).0.xid ≡ k.0.xid
all_xid [] k = refl
all_xid (m ∷ more) k = all_xid more (takes_read m.0 (reading_of m.1) k) ∙ read_xid m.0 (reading_of m.1) k

taken_xid : (came : List (ℕ × List ℕ)) (net now_net : NetState) (queue now_queue : List Event) → (now_net, now_queue) ≡ takes_all came (net, queue) → now_net.xid ≡ net.xid
taken_xid came net now_net queue now_queue is = ap (λ (k : Knows). k.0.xid) is ∙ all_xid came (net, queue)

-- ---- The whole of one packet

pub passes_packet : {Own : Type 0} (Tells : Type 0) (d : ℕ) (packet : Packet) (seen : Seen Own) (net : NetState) (queue : List Event) → is_viewed d net.views ≡ false → ReleasesPacket Tells (d, packet) seen seen net net queue queue (Ok false)
passes_packet Tells d packet seen net queue unviewed = record {
  lost = [];
  stays = stays_same net;
  calls = calls_none Tells net.views seen;
  read = λ ok told. messages-none seen;
  ids = ids_none Tells 0 seen net.xid net.xid refl;
  does = inr (inl (refl, record { unviewed = unviewed; seen = refl; net_is = refl; queue_is = refl }));
}

-- a fault, before the packet was sent
pub unsent_packet : {Own : Type 0} {Tells : Type 0} (d : ℕ) (packet : Packet) (old new : Seen Own) (net : NetState) (queue : List Event) (xid : ℕ) (fault : TxnFault) → is_viewed d net.views ≡ true → IsMessage (PacketOut packet) → net.xid < 2 ^ 32
    → PacketUnsent Tells d old new (Fault fault) → ReleasesPacket Tells (d, packet) old new net (with_xid net xid) queue queue (Err fault)
unsent_packet d packet old new net queue xid fault viewed is lt unsent =
    let stops = unsent_of d net.xid packet old new fault unsent in
    record {
      lost = [];
      stays = stays_xid net xid;
      calls = calls_one d net.views old new viewed (stops_speaks d net.xid packet old new fault stops) (stops_none_lost d net.xid packet old new fault stops);
      read = λ ok. absurd cc;
      ids = speaks_stop net.xid (stops_speaks d net.xid packet old new fault stops);
      does = packet_breaks d packet old new net fault viewed is lt stops;
    }

-- its switch was lost before
pub lost_before : {Own : Type 0} {Tells : Type 0} (d : ℕ) (packet : Packet) (old new : Seen Own) (net now_net : NetState) (queue : List Event) (xid : ℕ) → is_viewed d net.views ≡ true → net.xid < 2 ^ 32 → xid ≡ next_xid (next_xid net.xid) → now_net ≡ lost_net d (with_xid net xid)
    → PacketUnsent Tells d old new Lost → ReleasesPacket Tells (d, packet) old new net now_net queue queue (Ok false)
lost_before d packet old new net now_net queue xid viewed lt next is (inl short) = absurd (let none = short.1 in cc)
lost_before {Tells = Tells} d packet old new net now_net queue xid viewed lt next is (inr s) =
    let halts = says_halts Lost s in
    let speaks = says_speak net.xid 2 (packet_bytes net.xid packet) (lost_result s) s (λ small. one_ascends net.xid (net.xid + 2) d (packet_bytes net.xid packet) (own_id-sent net.xid (PacketOut packet) lt refl) (omega arith)) in
    record {
      lost = d ∷ [];
      stays = stays_lost d net now_net (with_xid net xid) refl refl refl refl is;
      calls = calls_lost d net.views old new [] viewed speaks halts.0;
      read = λ ok told. halts.1 told;
      ids = speaks_on_ids now_net.xid speaks (omega arith) (λ small. ap (λ (n : NetState). n.xid) is ∙ next ∙ second_next net.xid small) halts.0.some;
      does = inr (inr (inl (refl, record { continues = s.calls.continues; viewed = viewed; is_lost = halts.0; net_is = lost_is d net now_net xid is; queue_is = refl })));
    }
  where
    lost_result : SaysNot Tells d old new Lost → Result (Unit {0}) Halt
    lost_result s = Err Lost

-- a fault behind it
pub stops_packet : {Own : Type 0} {Tells : Type 0} (d : ℕ) (packet : Packet) (old mid new : Seen Own) (net now_net : NetState) (queue now_queue : List Event) (xid : ℕ) (fault : TxnFault) → is_viewed d net.views ≡ true → IsMessage (PacketOut packet) → net.xid < 2 ^ 32
    → PacketSent Tells d net.xid packet old mid → StopsBeforeReply Tells (asked_from d net.xid) mid new (with_xid net xid) now_net fault → ReleasesPacket Tells (d, packet) old new net now_net queue now_queue (Err fault)
stops_packet d packet old mid new net now_net queue now_queue xid fault viewed is lt sent s =
    let stops = stops_of d net.xid packet old mid new fault sent s.stops in
    record {
      lost = [];
      stays = stays_then [] [] net (with_xid net xid) now_net (stays_xid net xid) s.stays;
      calls = calls_one d net.views old new viewed (stops_speaks d net.xid packet old new fault stops) (stops_none_lost d net.xid packet old new fault stops);
      read = λ ok. absurd cc;
      ids = speaks_stop net.xid (stops_speaks d net.xid packet old new fault stops);
      does = packet_breaks d packet old new net fault viewed is lt stops;
    }

pub settled_packet : {Own : Type 0} {Tells : Type 0} (d : ℕ) (packet : Packet) (old mid new : Seen Own) (net now_net : NetState) (queue now_queue : List Event) (xid : ℕ) → is_viewed d net.views ≡ true → IsMessage (PacketOut packet) → (1 ≤ net.xid) × (net.xid < 2 ^ 32)
    → xid ≡ next_xid (next_xid net.xid) → PacketSent Tells d net.xid packet old mid
    → TakenBeforeReply Tells (asked_from d net.xid) mid new (with_xid net xid) now_net queue now_queue ⊎ LostBeforeReply Tells (asked_from d net.xid) mid new (with_xid net xid) now_net queue now_queue
    → ReleasesPacket Tells (d, packet) old new net now_net queue now_queue (Ok true)
settled_packet d packet old mid new net now_net queue now_queue xid viewed is range next sent (inl s) =
    let told = told_of d net.xid packet old mid new s.came sent s.passed in
    let took : (now_net, now_queue) ≡ takes_all s.came (with_xid net (next_xid (next_xid net.xid)), queue) = s.taken ∙ ap (λ (x : ℕ). takes_all s.came (with_xid net x, queue)) next in
    record {
      lost = [];
      stays = stays_then [] [] net (with_xid net xid) now_net (stays_xid net xid) s.stays;
      calls = calls_one d net.views old new viewed (told_speaks d net.xid packet old new s.came told) (replied_none_lost (asked_from d net.xid) (packet_frames d net.xid packet) told.replied);
      read = λ ok. waits_read _ (refl, (refl, tt)) (next_xid-lt net.xid range.1) (talks_waits (packet_bytes net.xid packet ∷ []) told.replied);
      ids = speaks_on_ids now_net.xid (told_speaks d net.xid packet old new s.came told) (omega arith) (λ small. taken_xid s.came (with_xid net xid) now_net queue now_queue s.taken ∙ next ∙ second_next net.xid small) (waits_leave (talks_waits (packet_bytes net.xid packet ∷ []) told.replied));
      does = inl (refl, viewed, sends_packet d packet old new net now_net queue now_queue s.came is range told took);
    }
settled_packet {Tells = Tells} d packet old mid new net now_net queue now_queue xid viewed is range next sent (inr s) =
    let a = asked_from d net.xid in
    let later = barrier_on a mid new Lost s.broke in
    let halts = barrier_lost a mid new (next_xid-lt net.xid range.1) s.broke in
    let lost = lost_sent d net.xid packet old mid new range.1 is sent later halts.0 in
    record {
      lost = d ∷ [];
      stays = stays_lost d net now_net (with_xid net xid) refl refl refl refl s.net_is;
      calls = calls_lost d net.views old new ((d, packet) ∷ []) viewed (lost_speaks d net.xid packet old mid new sent s.broke) lost;
      read = λ ok told. messages-then old mid new told sent.continues later (Calls-read (Says d (packet_bytes net.xid packet) ∷ []) sent (tt, tt) told) (halts.1 told);
      ids = speaks_on_ids now_net.xid (lost_speaks d net.xid packet old mid new sent s.broke) (omega arith) (λ small. ap (λ (n : NetState). n.xid) s.net_is ∙ next ∙ second_next net.xid small) lost.some;
      does = inr (inr (inr (refl, record { continues = Continues-trans Tells old mid new sent.continues later; viewed = viewed; is_lost = lost; net_is = lost_is d net now_net xid s.net_is; queue_is = s.queue_is })));
    }
