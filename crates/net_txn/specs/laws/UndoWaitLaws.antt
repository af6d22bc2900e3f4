-- Laws of the wait of an undo: what was said leaves the steps of its switch, and a failure has its cause in them.
use Rattle.std.specs.Prelude.{◌≡◌, ℕ, ◌+◌, ◌^◌, ◌<◌, ◌≤◌, Bool, true, false, List, [], ◌∷◌, ◌++◌, length, map, take, Option, Some, None, Ok, Err, IsOk, refl}
use Rattle.std.specs.List.{AllByRecursion}
use Rattle.std.proofs.Common.{sym, ap, ◌∙◌, subst, append_assoc, inl, inr, arith}
use Rattle.std.proofs.lemmas.List.{append-nil}
use Rattle.lego_io.specs.laws.CountLaws.{Rose-after}
use Rattle.of_types.specs.Fields.{number_at}
use Rattle.of_types.specs.declared.journal.Act.{Act}
use Rattle.of_types.specs.declared.journal.Act.TheVariants.{Sent, Got}
use Rattle.of_match.specs.declared.key.Key.{Key}
use Rattle.of_wire.specs.Reading.{reading_of}
use Rattle.flow_table.specs.Switch.{Declared}
use Rattle.outside.specs.declared.step.WorldStep.{WorldStep}
use Rattle.outside.specs.declared.step.WorldStep.TheVariants.{Acted}
use Rattle.outside.specs.Seen.{Counts, NoneFell, Seen, journal}
use Rattle.outside.specs.laws.SeenLaws.{journal-append}
use Rattle.outside.specs.State.{State, after_step, after_steps, state, switch_of, waits_of, is_joined}
use Rattle.outside.specs.laws.StateLaws.{after_steps-append}
use Rattle.outside.specs.Conforming.{MayStep}
use Rattle.outside.specs.InOrder.{BringMessages, MayCome, MayComeAll}
use Rattle.lego_model.specs.declared.fault.TxnFault.{TxnFault}
use Rattle.lego_model.specs.declared.fault.TxnFault.TheVariants.{SwitchBroke, Diverged, Flooded, NoMemory}
use Rattle.lego_model.specs.declared.wait.Awaited.{Awaited}
use Rattle.lego_model.specs.Journal.{losses, released}
use Rattle.lego_model.specs.BarrierWaits.{kept_of, wait_steps, reply_got, barrier_sent}
use Rattle.lego_model.specs.KeptMessages.{got_in}
use Rattle.net_txn.specs.declared.halt.Halt.{Halt}
use Rattle.net_txn.specs.declared.halt.Halt.TheVariants.{Lost, Fault}
use Rattle.net_txn.specs.declared.queue.Storage.TheVariants.{Reserved}
use Rattle.net_txn.specs.declared.trouble.Trouble.{Trouble}
use Rattle.net_txn.specs.declared.trouble.Trouble.TheVariants as troubles
use Rattle.lego_model.specs.UndoFaults.{inverse_bytes, Goes, GoesWithoutStrays, key_refused, AreBefore}
use Rattle.lego_model.specs.OwnIds.{own_ids, AscendWithin}
use Rattle.net_txn.specs.MessageStore.{KeptWhereFit}
use Rattle.net_txn.specs.Waits.{Brought, IsRead, KeptMore}
use Rattle.net_txn.specs.Undos.{halt_by, fault_by, alone, Moves, IsFaultOf, IsHaltOf, GoesOutBy, LosesBy, EndsWait, KeepsUntil, Fails, AwaitsReplies, PassesBarrier, is_of_link}
use Rattle.net_txn.specs.Said.{Said, Says, Hears, HearsNoise, CannotSay, CannotHear, LacksMemory, ids_said, IsSaid, Calls, steps_in, said_steps, unsaid, unheard, wait_said, last_said, IsOfLink, IsBreak, AreHeard, frames_said, barrier_of, reply_heard, Replied, Breaks, unrefused_by}
use Rattle.net_txn.specs.laws.WaitLaws.{of_switch, kept_of_more}
use Rattle.net_txn.specs.laws.LinkPresenceLaws.{steps_stay, losses_by, lost_none_all}
use Rattle.net_txn.specs.laws.SaidLaws.{all_two, all_behind, all_weaker, is_fine, AreFine, fine_append, fine_none_lost, fine_frames, fine_wait, said_links, Calls-moves, whole_steps, whole_goes}
use Rattle.net_txn.specs.laws.OwnIdLaws.{FramesAscend, said_ids, unsaid_ids, last_ids, whole_ascend, front_ascend, barrier_id, one_ascends}
use Rattle.net_txn.specs.laws.TalkLaws.{last_of, unsent_goes}
use Rattle.net_txn.specs.laws.LostLaws.{packets_said, packets_none, said_released, none_two, wait_none, heard_none, losses_two, IsFailed, failed_out, failed_waits, failed_lost, one_alone, some_by, IsReadSaid, said_brings, frames_read, wait_read, fine_unsaid, fine_last, barrier_none, front_none}

-- what arose later arose in the whole
IsFaultOf-behind : (d : ℕ) (sent : List (ℕ × Key)) (old mid new : Counts) (steps : List WorldStep) (fault : TxnFault) → NoneFell old mid → IsFaultOf d sent mid new steps fault → IsFaultOf d sent old new steps fault
IsFaultOf-behind d sent old mid new steps (SwitchBroke e bytes) before cause = cause
IsFaultOf-behind d sent old mid new steps (Diverged e inverse bytes) before cause = cause
IsFaultOf-behind d sent old mid new steps (Flooded e n) before cause = cause
IsFaultOf-behind d sent old mid new steps NoMemory before cause =
    (Rose-after old.shorts mid.shorts new.shorts before.shorts cause.0, Rose-after (old.shorts_of d) (mid.shorts_of d) (new.shorts_of d) (before.shorts_of d) cause.1)

pub IsHaltOf-behind : (d : ℕ) (sent : List (ℕ × Key)) (old mid new : Counts) (steps : List WorldStep) (halt : Halt) → NoneFell old mid → IsHaltOf d sent mid new steps halt → IsHaltOf d sent old new steps halt
IsHaltOf-behind d sent old mid new steps Lost before cause = (Rose-after (old.link_faults d) (mid.link_faults d) (new.link_faults d) (before.link_faults d) cause.0, cause.1)
IsHaltOf-behind d sent old mid new steps (Fault fault) before cause = IsFaultOf-behind d sent old mid new steps fault before cause

-- ---- Calls in place

-- where the switch is joined and its calls come in order, they are the calls of a switch that is joined
same_joined : (declared : List Declared) (d : ℕ) (said : List Said) (old new : Counts) (s : State) → AllByRecursion (IsSaid d old new) said → MayComeAll declared (said_steps false said) s → is_joined d s ≡ true → said_steps false said ≡ said_steps true said
unfolding MayCome MayStep
same_joined declared d [] old new s each may joined = refl
same_joined declared d (Says e bytes ∷ xs) old new s each may joined =
    ap (λ (steps : List WorldStep). Acted (Sent e bytes) ∷ steps) (same_joined declared d xs old new (after_step (Acted (Sent e bytes)) s) each.1 may.1 (steps_stay (Acted (Sent e bytes) ∷ []) s (refl, tt) refl d ∙ joined))
same_joined declared d (Hears e bytes ∷ xs) old new s each may joined =
    ap (λ (steps : List WorldStep). Acted (Got e bytes) ∷ steps) (same_joined declared d xs old new (after_step (Acted (Got e bytes)) s) each.1 may.1 (steps_stay (Acted (Got e bytes) ∷ []) s (refl, tt) refl d ∙ joined))
same_joined declared d (HearsNoise e bytes ∷ xs) old new s each may joined =
    ap (λ (steps : List WorldStep). Acted (Got e bytes) ∷ steps) (same_joined declared d xs old new (after_step (Acted (Got e bytes)) s) each.1 may.1 (steps_stay (Acted (Got e bytes) ∷ []) s (refl, tt) refl d ∙ joined))
same_joined declared d (CannotSay e ∷ xs) old new s each may joined = let out : is_joined d s ≡ false = subst (λ (n : ℕ). is_joined n s ≡ false) each.0.0 may.0 in absurd cc
same_joined declared d (CannotHear e ∷ xs) old new s each may joined = let out : is_joined d s ≡ false = subst (λ (n : ℕ). is_joined n s ≡ false) each.0.0 may.0 in absurd cc
same_joined declared d (LacksMemory e ∷ xs) old new s each may joined = same_joined declared d xs old new s each.1 may joined

said_goes : (d : ℕ) (said : List Said) (old new : Counts) (b : Bool) → AllByRecursion (IsSaid d old new) said → GoesWithoutStrays d (said_steps true said) → GoesWithoutStrays d (said_steps b said)
said_goes d said old new true each goes declared s may joined = goes declared s may joined
said_goes d said old new false each goes declared s may joined =
    let same = same_joined declared d said old new s each may joined in
    subst (λ (steps : List WorldStep). Goes d steps s) (sym same) (goes declared s (subst (λ (steps : List WorldStep). MayComeAll declared steps s) same may) joined)

-- ---- How a switch goes out

out_by : (d : ℕ) (front : List Said) (last : Said) → AreFine front → IsFailed d last → GoesOutBy d (said_steps true (front ++ last ∷ []))
out_by d front last fine failed =
    let first = said_steps true front in
    let end = steps_in true last in
    let two : said_steps true (front ++ last ∷ []) ≡ first ++ end = fine_append true front (last ∷ []) fine ∙ ap (λ (s : List WorldStep). first ++ s) (one_alone true last) in
    let after = λ (t : State). ap (λ (s : List WorldStep). after_steps s t) two ∙ after_steps-append first end t in
    record {
      lost = ap (λ (s : List WorldStep). losses (journal s)) two ∙ ap (λ (acts : List Act). losses acts) (journal-append first end) ∙ losses_two (journal first) (journal end)
          ∙ ap (λ (ds : List ℕ). ds ++ losses (journal end)) (losses_by first (said_links true front) ∙ lost_none_all first (fine_none_lost true front fine)) ∙ failed_lost d last failed;
      out = λ t. ap (λ (s : State). switch_of d s) (after t) ∙ failed_out d last (after_steps first t) failed;
      waits = λ t. ap (λ (s : State). waits_of d s) (after t) ∙ failed_waits d last (after_steps first t) failed;
    }

none_by : (said : List Said) → AreFine said → losses (journal (said_steps true said)) ≡ []
none_by said fine = losses_by (said_steps true said) (said_links true said) ∙ lost_none_all (said_steps true said) (fine_none_lost true said fine)

-- a switch that did not lose its link stays in
stays_by : (d : ℕ) (t : Trouble) (buf : List ℕ) (said : List Said) → is_of_link t ≡ false → AreFine said → LosesBy d (halt_by d t buf) (said_steps true said)
stays_by d troubles.Link buf said none fine = absurd cc
stays_by d (troubles.Broke n) buf said none fine = none_by said fine
stays_by d (troubles.Refused k x n) buf said none fine = none_by said fine
stays_by d troubles.Flooded buf said none fine = none_by said fine
stays_by d troubles.Short buf said none fine = none_by said fine
stays_by d troubles.Full buf said none fine = none_by said fine
stays_by d troubles.Parted buf said none fine = absurd cc

-- what failed, by what was said
fails_by : {Own : Type 0} {Tells : Type 0} {old new : Seen Own} {kept now_kept : List (ℕ × List ℕ)} (d xid : ℕ) (sent : List (ℕ × Key)) (said : List Said) (steps : List WorldStep) (halt : Halt) → Calls Tells d said old new → said_steps (is_joined d (state old)) said ≡ steps → IsHaltOf d sent old.counts new.counts steps halt
    → GoesWithoutStrays d (said_steps true said) → packets_said said ≡ [] → LosesBy d halt (said_steps true said) → (xid + 1 < 2 ^ 32 → AscendWithin xid (ids_said said) (xid + 1)) → (halt ≡ Lost → 1 ≤ length steps) → KeepsUntil (alone d xid) (fault_by halt) steps kept now_kept
    → Fails Tells d xid sent old new kept now_kept halt
fails_by {old = old} {new = new} d xid sent said steps halt c same cause goes none loses ascends some keeps =
    let b = is_joined d (state old) in
    record {
      steps = steps;
      ids = record { ids = λ small. subst (λ (ids : List ℕ). AscendWithin xid ids (xid + 1)) (sym (ap (λ (s : List WorldStep). own_ids (journal s)) (sym same) ∙ said_ids b said)) (ascends small); some = some };
      moves = Calls-moves steps same c;
      cause = cause;
      places = subst (GoesWithoutStrays d) same (said_goes d said old.counts new.counts b c.each goes);
      quiet = ap (λ (s : List WorldStep). released (journal s)) (sym same) ∙ said_released b said ∙ none;
      loses = λ tells joined. subst (LosesBy d halt) (ap (λ (j : Bool). said_steps j said) (sym joined) ∙ same) loses;
      keeps = keeps;
    }

-- ---- What was kept

pub fit_more : (d : ℕ) (ms : List (List ℕ)) (kept now : List (ℕ × List ℕ)) → KeptWhereFit kept (map (of_switch d) ms) now → KeptMore d kept now
fit_more d [] kept now is = ([], is ∙ sym (append-nil kept))
fit_more d (m ∷ ms) kept now (inl one) =
    let more = fit_more d ms (kept ++ (d, m) ∷ []) now one in
    (m ∷ more.0, more.1 ∙ append_assoc kept ((d, m) ∷ []) (map (of_switch d) more.0))
fit_more d (m ∷ ms) kept now (inr none) = fit_more d ms kept now none.1

pub kept_fit : (a : Awaited) (got : List (List ℕ)) (kept now : List (ℕ × List ℕ)) → KeptWhereFit kept (kept_of a got) now → KeptMore a.dpid kept now
kept_fit a got kept now is =
    let more = kept_of_more a got in
    fit_more a.dpid more.0 kept now (subst (λ (ms : List (ℕ × List ℕ)). KeptWhereFit kept ms now) more.1 is)

-- a switch that fails keeps messages of its own
pub until_more : (d xid : ℕ) (fault : Option TxnFault) (steps : List WorldStep) (kept now : List (ℕ × List ℕ)) → KeepsUntil (alone d xid) fault steps kept now → KeptMore d kept now
until_more d xid fault steps kept now keeps = kept_fit (alone d xid) keeps.got kept now keeps.kept_is

-- where none came
keeps_none : {kept now_kept : List (ℕ × List ℕ)} (a : Awaited) (fault : Option TxnFault) (steps : List WorldStep) → now_kept ≡ kept → got_in steps ≡ [] → KeepsUntil a fault steps kept now_kept
keeps_none a fault steps same none = record { front = steps; got = []; last = []; steps_is = sym (append-nil steps); none_before = none; ends = inl refl; kept_is = same }

-- ---- One message

-- what is sent brings none
unsent_brings : (d : ℕ) (frames : List (List ℕ)) (t : Trouble) (b : Bool) → got_in (said_steps b (frames_said d frames ++ unsaid d t)) ≡ []
unsent_brings d [] troubles.Link true = refl
unsent_brings d [] troubles.Link false = refl
unsent_brings d [] (troubles.Broke n) b = refl
unsent_brings d [] (troubles.Refused k x n) b = refl
unsent_brings d [] troubles.Flooded b = refl
unsent_brings d [] troubles.Short b = refl
unsent_brings d [] troubles.Full b = refl
unsent_brings d [] troubles.Parted b = refl
unsent_brings d (frame ∷ frames) t b = unsent_brings d frames t b

pub says_moves : {Own : Type 0} {Tells : Type 0} {d : ℕ} {frame : List ℕ} {old new : Seen Own} → Calls Tells d (frames_said d (frame ∷ [])) old new → Moves Tells d (Acted (Sent d frame) ∷ []) old new
says_moves {d = d} {frame = frame} c = Calls-moves (Acted (Sent d frame) ∷ []) refl c

pub none_unsaid : (d : ℕ) (t : Trouble) → packets_said (unsaid d t) ≡ []
unfolding packets_said
none_unsaid d troubles.Link = refl
none_unsaid d (troubles.Broke n) = refl
none_unsaid d (troubles.Refused k x n) = refl
none_unsaid d troubles.Flooded = refl
none_unsaid d troubles.Short = refl
none_unsaid d troubles.Full = refl
none_unsaid d troubles.Parted = refl

unsent_halt : {Own : Type 0} {Tells : Type 0} (d : ℕ) (sent : List (ℕ × Key)) (frames : List (List ℕ)) (old new : Seen Own) (t : Trouble) (buf : List ℕ) (b : Bool) → IsOfLink t → Calls Tells d (frames_said d frames ++ unsaid d t) old new
    → IsHaltOf d sent old.counts new.counts (said_steps b (frames_said d frames ++ unsaid d t)) (halt_by d t buf)
unsent_halt d sent frames old new troubles.Link buf b why c =
    let said = frames_said d frames ++ unsaid d troubles.Link in (
      (all_behind (IsSaid d old.counts new.counts) (frames_said d frames) (unsaid d troubles.Link) c.each).0.1,
      said_brings b said (all_two IsReadSaid (frames_said d frames) (unsaid d troubles.Link) (frames_read d frames) (tt, tt)),
    )
unsent_halt d sent frames old new (troubles.Broke n) buf b why c = absurd why
unsent_halt d sent frames old new (troubles.Refused k x n) buf b why c = absurd why
unsent_halt d sent frames old new troubles.Flooded buf b why c = absurd why
unsent_halt d sent frames old new troubles.Short buf b why c =
    let last = (all_behind (IsSaid d old.counts new.counts) (frames_said d frames) (unsaid d troubles.Short) c.each).0 in
    (last.1, last.2)
unsent_halt d sent frames old new troubles.Full buf b why c = absurd why
unsent_halt d sent frames old new troubles.Parted buf b why c = absurd why

unsent_loses : (d : ℕ) (frames : List (List ℕ)) (t : Trouble) (buf : List ℕ) → IsOfLink t → LosesBy d (halt_by d t buf) (said_steps true (frames_said d frames ++ unsaid d t))
unsent_loses d frames troubles.Link buf why = out_by d (frames_said d frames) (CannotSay d) (fine_frames d frames) refl
unsent_loses d frames (troubles.Broke n) buf why = absurd why
unsent_loses d frames (troubles.Refused k x n) buf why = absurd why
unsent_loses d frames troubles.Flooded buf why = absurd why
unsent_loses d frames troubles.Short buf why =
    let said = frames_said d frames ++ unsaid d troubles.Short in
    stays_by d troubles.Short buf said refl (all_two (λ x. is_fine x ≡ true) (frames_said d frames) (unsaid d troubles.Short) (fine_frames d frames) (fine_unsaid d troubles.Short refl))
unsent_loses d frames troubles.Full buf why = absurd why
unsent_loses d frames troubles.Parted buf why = absurd why

-- a switch that was lost
unsent_some : (d : ℕ) (frames : List (List ℕ)) (t : Trouble) (buf : List ℕ) (b : Bool) → IsOfLink t → halt_by d t buf ≡ Lost → 1 ≤ length (said_steps b (frames_said d frames ++ unsaid d t))
unsent_some d frames troubles.Link buf b why lost = some_by d b (frames_said d frames) (CannotSay d) refl
unsent_some d frames (troubles.Broke n) buf b why lost = absurd cc
unsent_some d frames (troubles.Refused k x n) buf b why lost = absurd cc
unsent_some d frames troubles.Flooded buf b why lost = absurd cc
unsent_some d frames troubles.Short buf b why lost = absurd cc
unsent_some d frames troubles.Full buf b why lost = absurd cc
unsent_some d frames troubles.Parted buf b why lost = absurd why

unsent_fails : {Own : Type 0} {Tells : Type 0} {kept now_kept : List (ℕ × List ℕ)} (d xid : ℕ) (sent : List (ℕ × Key)) (frames : List (List ℕ)) (old new : Seen Own) (t : Trouble) (buf : List ℕ) → now_kept ≡ kept → packets_said (frames_said d frames) ≡ [] → IsOfLink t → Calls Tells d (frames_said d frames ++ unsaid d t) old new
    → (xid + 1 < 2 ^ 32 → AscendWithin xid (ids_said (frames_said d frames ++ unsaid d t)) (xid + 1)) → Fails Tells d xid sent old new kept now_kept (halt_by d t buf)
unsent_fails d xid sent frames old new t buf same none why c ascends =
    let b = is_joined d (state old) in
    fails_by d xid sent (frames_said d frames ++ unsaid d t) _ (halt_by d t buf) c refl (unsent_halt d sent frames old new t buf (is_joined d (state old)) why c) (unsent_goes d frames t)
    (none_two (frames_said d frames) (unsaid d t) none (none_unsaid d t)) (unsent_loses d frames t buf why) ascends (unsent_some d frames t buf b why)
    (keeps_none (alone d xid) (fault_by (halt_by d t buf)) (said_steps b (frames_said d frames ++ unsaid d t)) same (unsent_brings d frames t b))

pub says_fails : {Own : Type 0} {Tells : Type 0} {d : ℕ} {old new : Seen Own} {kept : List (ℕ × List ℕ)} (xid : ℕ) (sent : List (ℕ × Key)) (t : Trouble) (buf : List ℕ) → (IsOfLink t × Calls Tells d (unsaid d t) old new) → Fails Tells d xid sent old new kept kept (halt_by d t buf)
says_fails {d = d} {old = old} {new = new} xid sent t buf s =
    unsent_fails d xid sent [] old new t buf refl packets_none s.0 s.1 (λ small. subst (λ (ids : List ℕ). AscendWithin xid ids (xid + 1)) (sym (unsaid_ids d t)) (omega arith))

-- ---- A barrier and the wait behind it

before_of : (a : Awaited) (sent : List (ℕ × Key)) (got : List (List ℕ)) → AreHeard a sent got → AreBefore a sent got
before_of a sent got h = record { read = all_weaker IsRead (λ b. IsOk (reading_of b)) (λ b r. r.1) got h.read; before_reply = h.before_reply; unrefused = h.unrefused }

replies : {Own : Type 0} {Tells : Type 0} (a : Awaited) (sent : List (ℕ × Key)) (old new : Seen Own) (kept now_kept : List (ℕ × List ℕ)) (answer : Brought) → Replied Tells a (barrier_of a ∷ []) Reserved sent old new kept now_kept answer
    → AwaitsReplies Tells a (barrier_sent a ∷ []) sent old new kept now_kept
replies a sent old new kept now_kept answer r = record {
  got = r.got;
  kept_is = r.kept_is;
  few = r.few;
  before = before_of a sent r.got r.before;
  moves = Calls-moves (barrier_sent a ∷ (wait_steps a r.got ++ reply_got a ∷ [])) (whole_steps (is_joined a.dpid (state old)) a [] r.got (reply_heard a ∷ [])) r.calls;
}

-- what a wait did before it failed
abbrev waited : Bool → Awaited → List (List ℕ) → Option (List ℕ) → Trouble → List ℕ → List WorldStep
waited b a got by t buf = barrier_sent a ∷ (wait_steps a got ++ said_steps b (last_said a.dpid by t buf))

abbrev waited_said : Awaited → List (List ℕ) → Option (List ℕ) → Trouble → List ℕ → List Said
waited_said a got by t buf = frames_said a.dpid (barrier_of a ∷ []) ++ (wait_said a got ++ last_said a.dpid by t buf)

-- all that came were messages
heard_read : (a : Awaited) (got : List (List ℕ)) (last : List Said) → AllByRecursion IsRead got → AllByRecursion IsReadSaid last → AllByRecursion IsReadSaid (frames_said a.dpid (barrier_of a ∷ []) ++ (wait_said a got ++ last))
heard_read a got last read end = (tt, all_two IsReadSaid (wait_said a got) last (wait_read a got read) end)

unreplied_halt : {Own : Type 0} {Tells : Type 0} (a : Awaited) (sent : List (ℕ × Key)) (got : List (List ℕ)) (old new : Seen Own) (by : Option (List ℕ)) (t : Trouble) (buf : List ℕ) (b : Bool) → a.barrier < 2 ^ 32 → AreHeard a (unrefused_by t sent) got
    → IsBreak a sent Reserved (length got) by t buf → Calls Tells a.dpid (waited_said a got by t buf) old new → IsHaltOf a.dpid sent old.counts new.counts (waited b a got by t buf) (halt_by a.dpid t buf)
unreplied_halt a sent got old new None troubles.Link buf b small h why c = (
  (last_of (frames_said a.dpid (barrier_of a ∷ [])) (wait_said a got) _ c).0.1,
  subst BringMessages (whole_steps b a [] got (CannotHear a.dpid ∷ [])) (said_brings b (waited_said a got None troubles.Link buf) (heard_read a got (CannotHear a.dpid ∷ []) h.read (tt, tt))),
)
unreplied_halt a sent got old new None (troubles.Broke n) buf b small h why c =
    (refl, (last_of (frames_said a.dpid (barrier_of a ∷ [])) (wait_said a got) _ c).0.1, (barrier_sent a ∷ wait_steps a got, refl))
unreplied_halt a sent got old new None (troubles.Refused k x n) buf b small h why c = absurd why
unreplied_halt a sent got old new None troubles.Flooded buf b small h why c = (
  refl,
  refl,
  record {
    awaited = a;
    of_switch = refl;
    is_xid = small;
    got = got;
    many = why;
    before_reply = h.before_reply;
    steps_is = ap (λ (s : List WorldStep). barrier_sent a ∷ s) (append-nil (wait_steps a got));
  },
)
unreplied_halt a sent got old new None troubles.Short buf b small h why c =
    let last = (last_of (frames_said a.dpid (barrier_of a ∷ [])) (wait_said a got) _ c).0 in
    (last.1, last.2)
unreplied_halt a sent got old new None troubles.Full buf b small h why c = absurd why
unreplied_halt a sent got old new None troubles.Parted buf b small h why c = (
  (last_of (frames_said a.dpid (barrier_of a ∷ [])) (wait_said a got) _ c).0.1,
  subst BringMessages (whole_steps b a [] got (CannotSay a.dpid ∷ [])) (said_brings b (waited_said a got None troubles.Parted buf) (heard_read a got (CannotSay a.dpid ∷ []) h.read (tt, tt))),
)
unreplied_halt a sent got old new (Some m) troubles.Link buf b small h why c = (
  (last_of (frames_said a.dpid (barrier_of a ∷ [])) (wait_said a got) _ c).1.0.1,
  subst BringMessages (whole_steps b a [] got (Hears a.dpid m ∷ CannotSay a.dpid ∷ [])) (said_brings b (waited_said a got (Some m) troubles.Link buf) (heard_read a got (Hears a.dpid m ∷ CannotSay a.dpid ∷ []) h.read (why.0.1, (tt, tt)))),
)
unreplied_halt a sent got old new (Some m) (troubles.Broke n) buf b small h why c = absurd why.1.0
unreplied_halt a sent got old new (Some m) (troubles.Refused k x n) buf b small h why c = (
  refl,
  record {
    key = k;
    of_key = ap (key_refused sent) (sym why.1.0) ∙ why.1.1;
    inverse_is = ap (λ (i : ℕ). inverse_bytes i k) (why.1.2 ∙ ap (number_at 4 4) why.1.0);
    awaited = a;
    of_switch = refl;
    is_xid = small;
    got = got;
    before = before_of a sent got h;
    steps_is = ap (λ (bytes : List ℕ). barrier_sent a ∷ (wait_steps a got ++ Acted (Got a.dpid bytes) ∷ [])) why.1.0;
  },
)
unreplied_halt a sent got old new (Some m) troubles.Flooded buf b small h why c = absurd why.1.0
unreplied_halt a sent got old new (Some m) troubles.Short buf b small h why c =
    let last = (last_of (frames_said a.dpid (barrier_of a ∷ [])) (wait_said a got) _ c).1.0 in
    (last.1, last.2)
unreplied_halt a sent got old new (Some m) troubles.Full buf b small h why c = absurd cc
unreplied_halt a sent got old new (Some m) troubles.Parted buf b small h why c = absurd why.1.0

pub none_unheard : (d : ℕ) (t : Trouble) (buf : List ℕ) → packets_said (unheard d t buf) ≡ []
unfolding packets_said
none_unheard d troubles.Link buf = refl
none_unheard d (troubles.Broke n) buf = refl
none_unheard d (troubles.Refused k x n) buf = refl
none_unheard d troubles.Flooded buf = refl
none_unheard d troubles.Short buf = refl
none_unheard d troubles.Full buf = refl
none_unheard d troubles.Parted buf = refl

pub none_last : (d : ℕ) (by : Option (List ℕ)) (t : Trouble) (buf : List ℕ) → packets_said (last_said d by t buf) ≡ []
none_last d None t buf = none_unheard d t buf
none_last d (Some m) t buf = none_two (Hears d m ∷ []) (unsaid d t) (heard_none d m) (none_unsaid d t)

fine_waited : (a : Awaited) (got : List (List ℕ)) (last : List Said) → AreFine last → AreFine (frames_said a.dpid (barrier_of a ∷ []) ++ (wait_said a got ++ last))
fine_waited a got last fine = (refl, all_two (λ x. is_fine x ≡ true) (wait_said a got) last (fine_wait a got) fine)

-- the last of what was said, behind the rest
last_apart : (a : Awaited) (got : List (List ℕ)) (more : List Said) (last : Said) → (frames_said a.dpid (barrier_of a ∷ []) ++ (wait_said a got ++ more)) ++ last ∷ [] ≡ frames_said a.dpid (barrier_of a ∷ []) ++ (wait_said a got ++ (more ++ last ∷ []))
last_apart a got more last = ap (λ (s : List Said). Says a.dpid (barrier_of a) ∷ s) (append_assoc (wait_said a got) more (last ∷ []))

waited_out : (a : Awaited) (got : List (List ℕ)) (more : List Said) (last : Said) → AreFine more → IsFailed a.dpid last → GoesOutBy a.dpid (said_steps true (frames_said a.dpid (barrier_of a ∷ []) ++ (wait_said a got ++ (more ++ last ∷ []))))
waited_out a got more last fine failed =
    subst (λ (s : List Said). GoesOutBy a.dpid (said_steps true s)) (last_apart a got more last) (out_by a.dpid (frames_said a.dpid (barrier_of a ∷ []) ++ (wait_said a got ++ more)) last (fine_waited a got more fine) failed)

waited_stays : (a : Awaited) (got : List (List ℕ)) (by : Option (List ℕ)) (t : Trouble) (buf : List ℕ) → is_of_link t ≡ false → LosesBy a.dpid (halt_by a.dpid t buf) (said_steps true (waited_said a got by t buf))
waited_stays a got by t buf none = stays_by a.dpid t buf (waited_said a got by t buf) none (fine_waited a got (last_said a.dpid by t buf) (fine_last a.dpid by t buf none))

unreplied_loses : (a : Awaited) (sent : List (ℕ × Key)) (n : ℕ) (got : List (List ℕ)) (by : Option (List ℕ)) (t : Trouble) (buf : List ℕ) → IsBreak a sent Reserved n by t buf → LosesBy a.dpid (halt_by a.dpid t buf) (said_steps true (waited_said a got by t buf))
unreplied_loses a sent count got None troubles.Link buf why = waited_out a got [] (CannotHear a.dpid) tt refl
unreplied_loses a sent count got None troubles.Parted buf why = waited_out a got [] (CannotSay a.dpid) tt refl
unreplied_loses a sent count got (Some m) troubles.Parted buf why = absurd why.1.0
unreplied_loses a sent count got (Some m) troubles.Link buf why = waited_out a got (Hears a.dpid m ∷ []) (CannotSay a.dpid) (refl, tt) refl
unreplied_loses a sent count got by (troubles.Broke n) buf why = waited_stays a got by (troubles.Broke n) buf refl
unreplied_loses a sent count got by (troubles.Refused k x n) buf why = waited_stays a got by (troubles.Refused k x n) buf refl
unreplied_loses a sent count got by troubles.Flooded buf why = waited_stays a got by troubles.Flooded buf refl
unreplied_loses a sent count got by troubles.Short buf why = waited_stays a got by troubles.Short buf refl
unreplied_loses a sent count got by troubles.Full buf why = waited_stays a got by troubles.Full buf refl

barrier_ascends : (a : Awaited) → a.barrier < 2 ^ 32 → FramesAscend a.barrier 1 a (barrier_of a ∷ [])
barrier_ascends a small few = one_ascends a.barrier (a.barrier + 1) a.dpid (barrier_of a) (barrier_id a.barrier small) (omega arith)

-- the message that ended it
last_ends : (a : Awaited) (sent : List (ℕ × Key)) (n : ℕ) (by : Option (List ℕ)) (t : Trouble) (buf : List ℕ) (b : Bool) → IsBreak a sent Reserved n by t buf → EndsWait a (fault_by (halt_by a.dpid t buf)) (said_steps b (last_said a.dpid by t buf))
last_ends a sent n None troubles.Link buf true why = inl refl
last_ends a sent n None troubles.Link buf false why = inl refl
last_ends a sent n None (troubles.Broke m) buf b why = inr (take m buf, refl, refl)
last_ends a sent n None (troubles.Refused k x m) buf b why = absurd why
last_ends a sent n None troubles.Flooded buf b why = inl refl
last_ends a sent n None troubles.Short buf b why = inl refl
last_ends a sent n None troubles.Full buf b why = absurd why
last_ends a sent n None troubles.Parted buf true why = inl refl
last_ends a sent n None troubles.Parted buf false why = inl refl
last_ends a sent n (Some bytes) troubles.Link buf true why = inr (bytes, refl, why.1.1)
last_ends a sent n (Some bytes) troubles.Link buf false why = inr (bytes, refl, why.1.1)
last_ends a sent n (Some bytes) (troubles.Broke m) buf b why = absurd why.1.0
last_ends a sent n (Some bytes) (troubles.Refused k x m) buf b why = inr (bytes, refl, why.1.0)
last_ends a sent n (Some bytes) troubles.Flooded buf b why = absurd why.1.0
last_ends a sent n (Some bytes) troubles.Short buf b why = inr (bytes, refl, why.1.1)
last_ends a sent n (Some bytes) troubles.Full buf b why = absurd cc
last_ends a sent n (Some bytes) troubles.Parted buf b why = absurd why.1.0

breaks_fails : {Own : Type 0} {Tells : Type 0} (d xid : ℕ) (sent : List (ℕ × Key)) (old new : Seen Own) (kept now_kept : List (ℕ × List ℕ)) (buf : List ℕ) (t : Trouble) → xid < 2 ^ 32 → Breaks Tells (alone d xid) (barrier_of (alone d xid) ∷ []) Reserved sent old new kept now_kept buf t
    → Fails Tells d xid sent old new kept now_kept (halt_by d t buf)
breaks_fails d xid sent old new kept now_kept buf t small (inl u) =
    let a = alone d xid in
    unsent_fails d xid sent u.first old new t buf u.kept_is (front_none a.dpid (barrier_of a ∷ []) u.first u.rest u.frames_is (barrier_none a.dpid a.barrier small)) u.why u.calls
    (front_ascend a.barrier 1 a (barrier_of a ∷ []) u.first u.rest t u.frames_is (barrier_ascends a small))
breaks_fails d xid sent old new kept now_kept buf t small (inr u) =
    let a = alone d xid in
    let b = is_joined d (state old) in
    fails_by d xid sent (waited_said a u.got u.by t buf) (waited b a u.got u.by t buf) (halt_by a.dpid t buf) u.calls (whole_steps b a [] u.got (last_said a.dpid u.by t buf))
    (unreplied_halt a sent u.got old new u.by t buf b u.is_xid u.before u.why u.calls) (whole_goes a [] u.got u.by t buf u.is_xid u.before.before_reply)
    (none_two (frames_said a.dpid (barrier_of a ∷ [])) (wait_said a u.got ++ last_said a.dpid u.by t buf) (barrier_none a.dpid a.barrier small) (none_two (wait_said a u.got) (last_said a.dpid u.by t buf) (wait_none a u.got u.before.read) (none_last a.dpid u.by t buf)))
    (unreplied_loses a sent (length u.got) u.got u.by t buf u.why) (whole_ascend a.barrier 1 a (barrier_of a ∷ []) u.got (last_said a.dpid u.by t buf) (last_ids a.dpid u.by t buf) (barrier_ascends a small)) (λ lost. omega arith)
    (record {
      front = barrier_sent a ∷ [];
      got = u.got;
      last = said_steps b (last_said a.dpid u.by t buf);
      steps_is = refl;
      none_before = refl;
      ends = last_ends a sent (length u.got) u.by t buf b u.why;
      kept_is = u.kept_is;
    })

pub passes_ok : {Own : Type 0} {Tells : Type 0} {sent : List (ℕ × Key)} {old new : Seen Own} {kept now_kept : List (ℕ × List ℕ)} (d xid : ℕ) (answer : Brought) (buf : List ℕ) → Replied Tells (alone d xid) (barrier_of (alone d xid) ∷ []) Reserved sent old new kept now_kept answer
    → PassesBarrier Tells d xid sent old new kept now_kept buf (Ok tt)
passes_ok {sent = sent} {old = old} {new = new} {kept = kept} {now_kept = now_kept} d xid answer buf r = record {
  replied = replies (alone d xid) sent old new kept now_kept answer r;
  failed = tt;
}

pub passes_err : {Own : Type 0} {Tells : Type 0} {sent : List (ℕ × Key)} {old new : Seen Own} {kept now_kept : List (ℕ × List ℕ)} (d xid : ℕ) (t : Trouble) (buf : List ℕ) → xid < 2 ^ 32 → Breaks Tells (alone d xid) (barrier_of (alone d xid) ∷ []) Reserved sent old new kept now_kept buf t
    → PassesBarrier Tells d xid sent old new kept now_kept buf (Err t)
passes_err {sent = sent} {old = old} {new = new} {kept = kept} {now_kept = now_kept} d xid t buf small b = record {
  replied = tt;
  failed = breaks_fails d xid sent old new kept now_kept buf t small b;
}
