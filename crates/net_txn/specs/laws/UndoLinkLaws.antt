-- The steps of an undo are steps of links; they release no packet; and where no switch failed but by its link, all that came were messages.
use Rattle.std.specs.Prelude.{◌≡◌, ℕ, true, List, [], ◌∷◌, ◌++◌, None, refl}
use Rattle.std.proofs.Common.{ap, ◌∙◌}
use Rattle.std.proofs.lemmas.List.{append-nil}
use Rattle.std.proofs.lemmas.List.Elements.{filter_map-append}
use Rattle.std.specs.List.{AllByRecursion}
use Rattle.of_types.specs.declared.journal.Act.{Act}
use Rattle.of_types.specs.declared.journal.Act.TheVariants.{Stim, Started, Gave, Gone, Took, Ended, Sent, Got, Lost}
use Rattle.outside.specs.declared.step.WorldStep.{WorldStep}
use Rattle.outside.specs.declared.step.WorldStep.TheVariants.{Acted, TookInto, From, Joined, Left, Moment, Idle, End, Opened, NotOpened, NextFailed, SendLost, RecvLost, SendFailed, RecvFailed}
use Rattle.outside.specs.Seen.{Counts, Seen, journal}
use Rattle.outside.specs.laws.SeenLaws.{journal-append}
use Rattle.of_wire.specs.declared.message.Message.TheVariants.{BarrierRequest, BarrierReply}
use Rattle.of_wire.specs.Reading.{reading_of}
use Rattle.of_wire.specs.Spelling.{message_bytes}
use Rattle.of_wire.specs.laws.ReadingLaws.{reading_of-message_bytes}
use Rattle.lego_model.specs.Journal.{packet_read, released_in, released}
use Rattle.lego_model.specs.History.{released_of}
use Rattle.lego_model.specs.Packets.{Held}
use Rattle.lego_model.specs.declared.wait.Awaited.{Awaited}
use Rattle.lego_model.specs.declared.wait.Heard.{Heard}
use Rattle.lego_model.specs.declared.wait.Heard.TheVariants as hearing
use Rattle.lego_model.specs.BarrierWaits.{heard, echo_reply, steps_by, heard_steps, wait_steps, barrier_sent, reply_got}
use Rattle.outside.specs.InOrder.{BringMessages}
use Rattle.outside.specs.laws.InOrderLaws.{messages-append}
use Rattle.net_txn.specs.declared.halt.Halt.TheVariants.{Lost as Out, Fault}
use Rattle.net_txn.specs.Undos.{IsRun, alone, Part, Inverse, BarrierPassed, Stuck, part_steps, steps_of, parts_of, fault_in, first_fault}
use Rattle.lego_model.specs.UndoFaults.{inverse_bytes, IsStepOf}
use Rattle.net_txn.specs.laws.HeardLaws.{IsMessage-barrier}
use Rattle.net_txn.specs.laws.PartLaws.{reading_of-inverse}
use Rattle.net_txn.specs.laws.WaitMoveLaws.{echo_none}
use Rattle.net_txn.specs.laws.RestoreLaws.{AllRun, runs_here, runs_older, part_of}
use Rattle.net_txn.specs.LinkSteps.{is_link_step, AreLinkSteps}
use Rattle.net_txn.specs.laws.LinkStepLaws.{links_append}
use Rattle.net_txn.specs.laws.AgreeLaws.{both_none}
use Rattle.net_txn.specs.laws.ReadLaws.{barred_brings}
use Rattle.lego_model.specs.laws.JournalLaws.{released-nil}

act_link : (d : ℕ) (act : Act) → IsStepOf d (Acted act) → is_link_step (Acted act) ≡ true
act_link d (Stim x) of = absurd of
act_link d (Started app ok) of = absurd of
act_link d (Gave app bytes) of = absurd of
act_link d (Gone app bytes) of = absurd of
act_link d (Took app what) of = absurd of
act_link d (Ended app) of = absurd of
act_link d (Sent e bytes) of = refl
act_link d (Got e bytes) of = refl
act_link d (Lost e) of = absurd of

-- a step of one switch is one of its link
pub one_link : (d : ℕ) (step : WorldStep) → IsStepOf d step → is_link_step step ≡ true
one_link d (Acted act) of = act_link d act of
one_link d (TookInto app what room) of = absurd of
one_link d (From e bytes) of = absurd of
one_link d (Joined e bytes) of = absurd of
one_link d (Left e) of = absurd of
one_link d (Moment n) of = absurd of
one_link d Idle of = absurd of
one_link d End of = absurd of
one_link d Opened of = absurd of
one_link d NotOpened of = absurd of
one_link d NextFailed of = absurd of
one_link d (SendLost e) of = refl
one_link d (RecvLost e) of = refl
one_link d (SendFailed e) of = refl
one_link d (RecvFailed e) of = refl

all_links : (d : ℕ) (steps : List WorldStep) → AllByRecursion (IsStepOf d) steps → AreLinkSteps steps
all_links d [] each = tt
all_links d (x ∷ xs) each = (one_link d x each.0, all_links d xs each.1)

pub steps_links : (old new : Counts) (parts : List (ℕ × Part)) → AllRun old new parts → AreLinkSteps (steps_of parts)
steps_links old new [] run = tt
steps_links old new (p ∷ older) run =
    links_append (steps_of older) (part_steps p.0 p.1) (steps_links old new older (runs_older old new p older run))
    (all_links p.0 (part_steps p.0 p.1) (part_of old new p.0 p.1 (parts_of p.0 older) (runs_here old new p older run)))

part_brings : (old new : Counts) (d : ℕ) (p : Part) (older : List Part) → IsRun old new d (p ∷ older) → fault_in p ≡ None → BringMessages (part_steps d p)
part_brings old new d (Inverse xid k) older run none = (refl, tt)
part_brings old new d (BarrierPassed xid got) older run none = (refl, barred_brings (alone d xid) got run.0.is_xid run.0.before.read)
part_brings old new d (Stuck xid Out steps) older run none = run.0.cause.1
part_brings old new d (Stuck xid (Fault fault) steps) older run none = absurd cc

pub parts_bring : (old new : Counts) (parts : List (ℕ × Part)) → AllRun old new parts → first_fault parts ≡ None → BringMessages (steps_of parts)
parts_bring old new [] run none = tt
parts_bring old new (p ∷ older) run none =
    let n = both_none (first_fault older) (fault_in p.1) none in
    messages-append (steps_of older) (part_steps p.0 p.1) (parts_bring old new older (runs_older old new p older run) n.0)
    (part_brings old new p.0 p.1 (parts_of p.0 older) (runs_here old new p older run) n.1)

-- ---- No packet is released: inverses, barriers and ECHO_REPLY alone are sent.

sent_none : (d : ℕ) (bytes : List ℕ) → packet_read d (reading_of bytes) ≡ None → released (journal (Acted (Sent d bytes) ∷ [])) ≡ []
unfolding released journal
sent_none d bytes none = rw none refl

released_two : (xs ys : List WorldStep) → released (journal xs) ≡ [] → released (journal ys) ≡ [] → released (journal (xs ++ ys)) ≡ []
unfolding released
released_two xs ys first second =
    ap (λ (acts : List Act). released acts) (journal-append xs ys) ∙ filter_map-append released_in (journal xs) (journal ys) ∙ ap (λ (hs : List Held). hs ++ released (journal ys)) first ∙ second

by_none : (d : ℕ) (h : Heard) (bytes : List ℕ) → released (journal (steps_by d h bytes)) ≡ []
unfolding released journal
by_none d hearing.Reply bytes = refl
by_none d (hearing.Refused r) bytes = refl
by_none d hearing.Notice bytes = refl
by_none d hearing.Echo bytes = sent_none d (echo_reply bytes) (echo_none d bytes)
by_none d hearing.Other bytes = refl

got_none : (d : ℕ) (bytes : List ℕ) (steps : List WorldStep) → released (journal steps) ≡ [] → released (journal (Acted (Got d bytes) ∷ steps)) ≡ []
unfolding released journal
got_none d bytes steps none = none

wait_none : (a : Awaited) (got : List (List ℕ)) → released (journal (wait_steps a got)) ≡ []
unfolding released journal
wait_none a [] = refl
wait_none a (b ∷ bs) = released_two (heard_steps a b) (wait_steps a bs) (got_none a.dpid b (steps_by a.dpid (heard a b) b) (by_none a.dpid (heard a b) b)) (wait_none a bs)

part_none : (old new : Counts) (d : ℕ) (p : Part) (older : List Part) → IsRun old new d (p ∷ older) → released (journal (part_steps d p)) ≡ []
part_none old new d (Inverse xid k) older run = sent_none d (inverse_bytes xid k) (ap (packet_read d) (reading_of-inverse xid k run.0))
part_none old new d (BarrierPassed xid got) older run =
    let a = alone d xid in
    released_two (barrier_sent a ∷ []) (wait_steps a got ++ reply_got a ∷ []) (sent_none d (message_bytes xid BarrierRequest) (ap (packet_read d) (reading_of-message_bytes xid BarrierRequest run.0.is_xid IsMessage-barrier)))
    (released_two (wait_steps a got) (reply_got a ∷ []) (wait_none a got) (got_none d (message_bytes xid BarrierReply) [] released-nil))
part_none old new d (Stuck xid halt steps) older run = run.0.quiet

parts_none : (old new : Counts) (parts : List (ℕ × Part)) → AllRun old new parts → released (journal (steps_of parts)) ≡ []
parts_none old new [] run = released-nil
parts_none old new (p ∷ older) run = released_two (steps_of older) (part_steps p.0 p.1) (parts_none old new older (runs_older old new p older run)) (part_none old new p.0 p.1 (parts_of p.0 older) (runs_here old new p older run))

pub undo_releases_none : {Own : Type 0} (old new : Seen Own) (parts : List (ℕ × Part)) → new.history ≡ old.history ++ steps_of parts → AllRun old.counts new.counts parts → released_of new ≡ released_of old
unfolding released
undo_releases_none old new parts told run =
    ap (λ (s : List WorldStep). released (journal s)) told ∙ ap (λ (acts : List Act). released acts) (journal-append old.history (steps_of parts)) ∙ filter_map-append released_in (journal old.history) (journal (steps_of parts))
    ∙ ap (λ (hs : List Held). released_of old ++ hs) (parts_none old.counts new.counts parts run) ∙ append-nil (released_of old)
