-- Laws of a message, a barrier behind it and the wait for its reply: what was said is of links alone and in place, and why it failed.
use Rattle.std.specs.Prelude.{◌≡◌, ℕ, ◌+◌, ◌^◌, ◌<◌, ◌==◌, Bool, true, false, List, [], ◌∷◌, ◌++◌, length, take, ◌⊎◌, Option, Some, None, Result, Ok, Err, IfOk, OnOk, OnErr, refl, if◌then◌else◌}
use Rattle.std.specs.List.{AllByRecursion}
use Rattle.std.proofs.Common.{sym, ap, ◌∙◌, subst, append_assoc, inl, inr, arith}
use Rattle.std.proofs.lemmas.List.{append-nil}
use Rattle.of_types.specs.Fields.{number_at}
use Rattle.of_types.specs.declared.journal.Act.TheVariants.{Sent, Got}
use Rattle.of_match.specs.declared.key.Key.{Key}
use Rattle.outside.specs.declared.step.WorldStep.{WorldStep}
use Rattle.outside.specs.declared.step.WorldStep.TheVariants.{Acted}
use Rattle.outside.specs.Seen.{Seen, Continues}
use Rattle.outside.specs.State.{state, is_joined}
use Rattle.outside.specs.laws.InOrderLaws.{InOrder-rest}
use Rattle.lego_model.specs.declared.fault.TxnFault.TheVariants.{NoMemory}
use Rattle.net_txn.specs.declared.halt.Halt.{Halt}
use Rattle.net_txn.specs.declared.halt.Halt.TheVariants.{Lost, Fault}
use Rattle.lego_model.specs.declared.wait.Awaited.{Awaited}
use Rattle.lego_model.specs.BarrierWaits.{flood, wait_steps, barrier_sent, reply_got}
use Rattle.net_txn.specs.declared.queue.Storage.TheVariants.{Growing}
use Rattle.net_txn.specs.declared.trouble.Trouble.{Trouble}
use Rattle.net_txn.specs.declared.trouble.Trouble.TheVariants as troubles
use Rattle.net_txn.specs.LinkSteps.{OnLinks, AsksWithoutStrays}
use Rattle.lego_model.specs.UndoFaults.{GoesWithoutStrays, key_sent, key_refused}
use Rattle.net_txn.specs.Causes.{EndsByGot, IsHaltCause, IsLinkCause}
use Rattle.net_txn.specs.Waits.{Brought, Waits, IfFlooded, KeptMore}
use Rattle.net_txn.specs.Undos.{halt_by}
use Rattle.net_txn.specs.Said.{Said, Says, HearsNoise, CannotSay, ids_said, Speaks, said_steps, IsSaid, Calls, unsaid, wait_said, last_said, IsOfLink, IsBreak, frames_said, barrier_of, reply_heard, Replied, Breaks, IsHaltBy, BreaksBy, Talks, SaysNot, SaysTo}
use Rattle.net_txn.specs.laws.WaitLaws.{kept_of_more}
use Rattle.net_txn.specs.laws.LinkStepLaws.{links_append, wait_links}
use Rattle.net_txn.specs.laws.LinkStrayLaws.{sure_settled, no_strays_by}
use Rattle.net_txn.specs.laws.UndoWithoutStraysLaws.{goes_none, goes_append, goes_sure, goes_send_lost}
use Rattle.net_txn.specs.laws.SaidLaws.{all_two, all_behind, steps_append, joined_after, is_fine, fine_append, fine_none_lost, fine_frames, fine_wait, Calls-none, Calls-then, Calls-links, whole_steps, frames_go, unsaid_goes, whole_goes}
use Rattle.net_txn.specs.laws.ExchangeLaws.{replied_behind, breaks_behind}
use Rattle.lego_model.specs.OwnIds.{AscendWithin}
use Rattle.net_txn.specs.laws.OwnIdLaws.{FramesAscend, ids_append, whole_ascend, front_ascend, unsaid_ids, last_ids}

-- ---- A message before

pub talks_behind : {Own : Type 0} {Tells : Type 0} {old mid : Seen Own} (a : Awaited) (first : List (List ℕ)) (new : Seen Own) (kept now_kept : List (ℕ × List ℕ)) (frame : List ℕ) (result : Result Brought Halt)
    → Calls Tells a.dpid (Says a.dpid frame ∷ []) old mid → Talks Tells a first mid new kept now_kept result → Talks Tells a (frame ∷ first) old new kept now_kept result
talks_behind a first new kept now_kept frame (Ok answer) before t = replied_behind frame before t
talks_behind a first new kept now_kept frame (Err halt) before t = record { trouble = t.trouble; buf = t.buf; breaks = breaks_behind frame before t.breaks; halt_is = t.halt_is }

pub talks_not : {Own : Type 0} {Tells : Type 0} {a : Awaited} {old new : Seen Own} (first : List (List ℕ)) (kept : List (ℕ × List ℕ)) (halt : Halt) → SaysNot Tells a.dpid old new halt → BreaksBy Tells a (first ++ barrier_of a ∷ []) old new kept kept halt
talks_not {a = a} first kept halt s = record {
  trouble = s.trouble;
  buf = s.buf;
  breaks = inl (record { first = []; rest = first ++ barrier_of a ∷ []; frames_is = refl; why = s.why; calls = s.calls; kept_is = refl });
  halt_is = s.halt_is;
}

-- ---- What was said

pub speaks_none : {Own : Type 0} (Tells : Type 0) (d xid most : ℕ) (seen : Seen Own) → Speaks Tells d xid most seen seen
speaks_none Tells d xid most seen = record { said = []; calls = Calls-none Tells d seen; goes = goes_none d; ids = λ small. omega arith }

replied_speaks : {Own : Type 0} {Tells : Type 0} (xid most : ℕ) (a : Awaited) (first : List (List ℕ)) (old new : Seen Own) (kept now_kept : List (ℕ × List ℕ)) (answer : Brought)
    → Replied Tells a (first ++ barrier_of a ∷ []) Growing [] old new kept now_kept answer → FramesAscend xid most a (first ++ barrier_of a ∷ []) → Speaks Tells a.dpid xid most old new
replied_speaks xid most a first old new kept now_kept answer r ascend =
    let d = a.dpid in
    let settled = barrier_sent a ∷ (wait_steps a r.got ++ reply_got a ∷ []) in
    record {
      said = frames_said d (first ++ barrier_of a ∷ []) ++ (wait_said a r.got ++ reply_heard a ∷ []);
      calls = r.calls;
      goes = subst (GoesWithoutStrays d) (sym (whole_steps true a first r.got (reply_heard a ∷ [])))
          (goes_append d (said_steps true (frames_said d first)) settled (fine_none_lost true (frames_said d first) (fine_frames d first)) (frames_go d first)
          (goes_sure d settled (refl, links_append (wait_steps a r.got) (reply_got a ∷ []) (wait_links a r.got) (refl, tt)) (sure_settled a r.got)));
      ids = λ small. whole_ascend xid most a (first ++ barrier_of a ∷ []) r.got (reply_heard a ∷ []) refl ascend small;
    }

pub unsent_goes : (d : ℕ) (frames : List (List ℕ)) (t : Trouble) → GoesWithoutStrays d (said_steps true (frames_said d frames ++ unsaid d t))
unsent_goes d frames t =
    let fine = fine_frames d frames in
    subst (GoesWithoutStrays d) (sym (fine_append true (frames_said d frames) (unsaid d t) fine)) (unsaid_goes d (said_steps true (frames_said d frames)) t (fine_none_lost true (frames_said d frames) fine) (frames_go d frames))

breaks_speaks : {Own : Type 0} {Tells : Type 0} (xid most : ℕ) (a : Awaited) (first : List (List ℕ)) (old new : Seen Own) (kept now_kept : List (ℕ × List ℕ)) (buf : List ℕ) (t : Trouble)
    → Breaks Tells a (first ++ barrier_of a ∷ []) Growing [] old new kept now_kept buf t → FramesAscend xid most a (first ++ barrier_of a ∷ []) → Speaks Tells a.dpid xid most old new
breaks_speaks xid most a first old new kept now_kept buf t (inl u) ascend = record {
  said = frames_said a.dpid u.first ++ unsaid a.dpid t;
  calls = u.calls;
  goes = unsent_goes a.dpid u.first t;
  ids = λ small. front_ascend xid most a (first ++ barrier_of a ∷ []) u.first u.rest t u.frames_is ascend small;
}
breaks_speaks xid most a first old new kept now_kept buf t (inr u) ascend = record {
  said = frames_said a.dpid (first ++ barrier_of a ∷ []) ++ (wait_said a u.got ++ last_said a.dpid u.by t buf);
  calls = u.calls;
  goes = whole_goes a first u.got u.by t buf u.is_xid u.before.before_reply;
  ids = λ small. whole_ascend xid most a (first ++ barrier_of a ∷ []) u.got (last_said a.dpid u.by t buf) (last_ids a.dpid u.by t buf) ascend small;
}

pub talks_speak : {Own : Type 0} {Tells : Type 0} {old new : Seen Own} (xid most : ℕ) (a : Awaited) (kept now_kept : List (ℕ × List ℕ)) (d : ℕ) (first : List (List ℕ)) (result : Result Brought Halt) → a.dpid ≡ d
    → Talks Tells a first old new kept now_kept result → FramesAscend xid most a (first ++ barrier_of a ∷ []) → Speaks Tells d xid most old new
talks_speak {Tells = Tells} {old = old} {new = new} xid most a kept now_kept d first (Ok answer) is r ascend =
    subst (λ (x : ℕ). Speaks Tells x xid most old new) is (replied_speaks xid most a first old new kept now_kept answer r ascend)
talks_speak {Tells = Tells} {old = old} {new = new} xid most a kept now_kept d first (Err halt) is b ascend =
    subst (λ (x : ℕ). Speaks Tells x xid most old new) is (breaks_speaks xid most a first old new kept now_kept b.buf b.trouble b.breaks ascend)

-- behind the reply the switch was parted with
pub parted_speaks : {Own : Type 0} {Tells : Type 0} {old mid new : Seen Own} {kept now_kept : List (ℕ × List ℕ)} {answer : Brought} (xid most : ℕ) (a : Awaited) (first : List (List ℕ))
    → Replied Tells a (first ++ barrier_of a ∷ []) Growing [] old mid kept now_kept answer → Calls Tells a.dpid (CannotSay a.dpid ∷ []) mid new → FramesAscend xid most a (first ++ barrier_of a ∷ []) → Speaks Tells a.dpid xid most old new
unfolding replied_speaks
parted_speaks {old = old} {mid = mid} {kept = kept} {now_kept = now_kept} {answer = answer} xid most a first r c ascend =
    let d = a.dpid in
    let frames = frames_said d (first ++ barrier_of a ∷ []) in
    let behind = wait_said a r.got ++ reply_heard a ∷ [] in
    let said = frames ++ behind in
    let last = CannotSay d ∷ [] in
    let fine = all_two (λ x. is_fine x ≡ true) frames behind (fine_frames d (first ++ barrier_of a ∷ [])) (all_two (λ x. is_fine x ≡ true) (wait_said a r.got) (reply_heard a ∷ []) (fine_wait a r.got) (refl, tt)) in
    let before = replied_speaks xid most a first old mid kept now_kept answer r ascend in
    record {
      said = said ++ last;
      calls = Calls-then r.calls c;
      goes = subst (GoesWithoutStrays d) (sym (fine_append true said last fine)) (goes_send_lost d (said_steps true said) (fine_none_lost true said fine) before.goes);
      ids = λ small. subst (λ (ids : List ℕ). AscendWithin xid ids (xid + most)) (sym (ids_append said last ∙ append-nil (ids_said said))) (before.ids small);
    }

-- one message alone
pub says_speak : {Own T : Type 0} {Tells : Type 0} {d : ℕ} {old new : Seen Own} (xid most : ℕ) (frame : List ℕ) (result : Result T Halt) → SaysTo Tells d frame old new result → (xid + most < 2 ^ 32 → AscendWithin xid (ids_said (Says d frame ∷ [])) (xid + most))
    → Speaks Tells d xid most old new
says_speak {d = d} xid most frame (Ok x) c ascend = record { said = frames_said d (frame ∷ []); calls = c; goes = frames_go d (frame ∷ []); ids = ascend }
says_speak {d = d} xid most frame (Err halt) s ascend = record {
  said = unsaid d s.trouble;
  calls = s.calls;
  goes = unsent_goes d [] s.trouble;
  ids = λ small. subst (λ (ids : List ℕ). AscendWithin xid ids (xid + most)) (sym (unsaid_ids d s.trouble)) (omega arith);
}

-- ---- So of links alone, and in place

pub speaks_on : {Own : Type 0} {Tells : Type 0} {d xid most : ℕ} {old new : Seen Own} → Speaks Tells d xid most old new → Continues Tells old new
speaks_on p = p.calls.continues

pub speaks_links : {Own : Type 0} {Tells : Type 0} {d xid most : ℕ} {old new : Seen Own} → Speaks Tells d xid most old new → OnLinks Tells old new
speaks_links p = Calls-links p.calls

pub speaks_place : {Own : Type 0} {Tells : Type 0} {d xid most : ℕ} {old new : Seen Own} → Speaks Tells d xid most old new → AsksWithoutStrays Tells d old new
speaks_place {d = d} {old = old} {new = new} p told order joined =
    let steps = said_steps true p.said in
    let history = p.calls.told told ∙ ap (λ (b : Bool). old.history ++ said_steps b p.said) joined in
    no_strays_by old new steps history (p.goes old.given.declared (state old) (InOrder-rest old new steps p.calls.continues.given history order) joined).places

-- ---- The reply

-- what was sent before the wait
abbrev pub front_steps : Awaited → List (List ℕ) → List WorldStep
front_steps a first = said_steps true (frames_said a.dpid first) ++ barrier_sent a ∷ []

-- which no failed call is among, so that they are the same where the switch is out
frames_steps : (joined : Bool) (d : ℕ) (frames : List (List ℕ)) → said_steps joined (frames_said d frames) ≡ said_steps true (frames_said d frames)
frames_steps joined d [] = refl
frames_steps joined d (f ∷ fs) = ap (λ (s : List WorldStep). Acted (Sent d f) ∷ s) (frames_steps joined d fs)

pub talks_waits : {Own : Type 0} {Tells : Type 0} {a : Awaited} {old new : Seen Own} {kept now_kept : List (ℕ × List ℕ)} {answer : Brought} (first : List (List ℕ))
    → Replied Tells a (first ++ barrier_of a ∷ []) Growing [] old new kept now_kept answer → Waits Tells a (front_steps a first) old new kept now_kept answer
talks_waits {a = a} {old = old} first r = record {
  got = r.got;
  few = r.few;
  hears = record {
    continues = r.calls.continues;
    read = r.before.read;
    before_reply = r.before.before_reply;
    kept_is = r.kept_is;
    answer_is = r.answer_is;
    told = λ t. r.calls.told t ∙ ap (λ (s : List WorldStep). old.history ++ s) (whole_steps (is_joined a.dpid (state old)) a first r.got (reply_heard a ∷ [])
        ∙ ap (λ (s : List WorldStep). s ++ (barrier_sent a ∷ (wait_steps a r.got ++ reply_got a ∷ []))) (frames_steps (is_joined a.dpid (state old)) a.dpid first)
        ∙ sym (append_assoc (said_steps true (frames_said a.dpid first)) (barrier_sent a ∷ []) (wait_steps a r.got ++ reply_got a ∷ [])));
  };
}

pub talks_ok : {Own : Type 0} (Tells : Type 0) (a : Awaited) (old new : Seen Own) (kept now_kept : List (ℕ × List ℕ)) (first : List (List ℕ)) (result : Result Brought Halt) → Talks Tells a first old new kept now_kept result
    → IfOk result (Waits Tells a (front_steps a first) old new kept now_kept)
talks_ok Tells a old new kept now_kept first (Ok answer) t = talks_waits first t
talks_ok Tells a old new kept now_kept first (Err halt) t = tt

-- ---- Why it failed

unsent_cause : {Own : Type 0} {Tells : Type 0} (d : ℕ) (frames : List (List ℕ)) (old new : Seen Own) (t : Trouble) (buf : List ℕ) → IsOfLink t → Calls Tells d (frames_said d frames ++ unsaid d t) old new → IsLinkCause d old new (halt_by d t buf)
unsent_cause d frames old new troubles.Link buf why c = (all_behind (IsSaid d old.counts new.counts) (frames_said d frames) (unsaid d troubles.Link) c.each).0.1
unsent_cause d frames old new (troubles.Broke n) buf why c = absurd why
unsent_cause d frames old new (troubles.Refused k x n) buf why c = absurd why
unsent_cause d frames old new troubles.Flooded buf why c = absurd why
unsent_cause d frames old new troubles.Short buf why c = tt
unsent_cause d frames old new troubles.Full buf why c = absurd why
unsent_cause d frames old new troubles.Parted buf why c = absurd why

unsent_is : {Own : Type 0} (Tells : Type 0) (d : ℕ) (old new : Seen Own) (t : Trouble) (buf : List ℕ) → IsOfLink t → IsLinkCause d old new (halt_by d t buf) → IsHaltCause Tells d old new (halt_by d t buf)
unsent_is Tells d old new troubles.Link buf why cause = cause
unsent_is Tells d old new (troubles.Broke n) buf why cause = absurd why
unsent_is Tells d old new (troubles.Refused k x n) buf why cause = absurd why
unsent_is Tells d old new troubles.Flooded buf why cause = absurd why
unsent_is Tells d old new troubles.Short buf why cause = tt
unsent_is Tells d old new troubles.Full buf why cause = absurd why
unsent_is Tells d old new troubles.Parted buf why cause = absurd why

-- the last of what was said
pub last_of : {Own : Type 0} {Tells : Type 0} {d : ℕ} {old new : Seen Own} (xs ys last : List Said) → Calls Tells d (xs ++ (ys ++ last)) old new → AllByRecursion (IsSaid d old.counts new.counts) last
last_of {d = d} {old = old} {new = new} xs ys last c =
    all_behind (IsSaid d old.counts new.counts) ys last (all_behind (IsSaid d old.counts new.counts) xs (ys ++ last) c.each)

ends_by : {Own : Type 0} {Tells : Type 0} {d : ℕ} {old new : Seen Own} (xs ys : List Said) (bytes : List ℕ) → Calls Tells d (xs ++ (ys ++ HearsNoise d bytes ∷ [])) old new → Tells → EndsByGot d bytes old.history new.history
ends_by {d = d} {old = old} xs ys bytes c told =
    let last = Acted (Got d bytes) ∷ [] in
    let b = is_joined d (state old) in
    let here = joined_after b xs in (
      said_steps b xs ++ said_steps here ys,
      c.told told ∙ ap (λ (s : List WorldStep). old.history ++ s) (steps_append b xs (ys ++ HearsNoise d bytes ∷ []) ∙ ap (λ (s : List WorldStep). said_steps b xs ++ s) (steps_append here ys (HearsNoise d bytes ∷ []))
          ∙ sym (append_assoc (said_steps b xs) (said_steps here ys) last)),
    )

-- nothing was to be undone
none_refused : (bytes : List ℕ) (key : Key) → key_refused [] bytes ≡ Some key → ⊥
unfolding key_refused
none_refused bytes key is = neither (number_at 1 1 bytes == 1) is
  where
    neither : (b : Bool) → (if b then key_sent (number_at 4 4 bytes) [] else None) ≡ Some key → ⊥
    neither true is = absurd cc
    neither false is = absurd cc

unreplied_cause : {Own : Type 0} {Tells : Type 0} (a : Awaited) (d : ℕ) (xs ys : List Said) (old new : Seen Own) (n : ℕ) (by : Option (List ℕ)) (t : Trouble) (buf : List ℕ) → IsBreak a [] Growing n by t buf → Calls Tells d (xs ++ (ys ++ last_said d by t buf)) old new
    → IsHaltCause Tells d old new (halt_by d t buf)
unreplied_cause a d xs ys old new n None troubles.Link buf why c = (last_of xs ys _ c).0.1
unreplied_cause a d xs ys old new n None (troubles.Broke m) buf why c = (refl, (last_of xs ys _ c).0.1, ends_by xs ys (take m buf) c)
unreplied_cause a d xs ys old new n None (troubles.Refused k x m) buf why c = absurd why
unreplied_cause a d xs ys old new n None troubles.Flooded buf why c = (refl, refl)
unreplied_cause a d xs ys old new n None troubles.Short buf why c = tt
unreplied_cause a d xs ys old new n None troubles.Full buf why c = tt
unreplied_cause a d xs ys old new n None troubles.Parted buf why c = (last_of xs ys _ c).0.1
unreplied_cause a d xs ys old new n (Some b) troubles.Link buf why c = (last_of xs ys _ c).1.0.1
unreplied_cause a d xs ys old new n (Some b) (troubles.Broke m) buf why c = absurd why.1.0
unreplied_cause a d xs ys old new n (Some b) (troubles.Refused k x m) buf why c = absurd (none_refused b k why.1.1)
unreplied_cause a d xs ys old new n (Some b) troubles.Flooded buf why c = absurd why.1.0
unreplied_cause a d xs ys old new n (Some b) troubles.Short buf why c = tt
unreplied_cause a d xs ys old new n (Some b) troubles.Full buf why c = tt
unreplied_cause a d xs ys old new n (Some b) troubles.Parted buf why c = absurd why.1.0

breaks_cause : {Own : Type 0} {Tells : Type 0} (a : Awaited) (frames : List (List ℕ)) (old new : Seen Own) (kept now_kept : List (ℕ × List ℕ)) (buf : List ℕ) (t : Trouble) → Breaks Tells a frames Growing [] old new kept now_kept buf t
    → IsHaltCause Tells a.dpid old new (halt_by a.dpid t buf)
breaks_cause {Tells = Tells} a frames old new kept now_kept buf t (inl u) = unsent_is Tells a.dpid old new t buf u.why (unsent_cause a.dpid u.first old new t buf u.why u.calls)
breaks_cause a frames old new kept now_kept buf t (inr u) = unreplied_cause a a.dpid (frames_said a.dpid frames) (wait_said a u.got) old new (length u.got) u.by t buf u.why u.calls

-- as the trouble says, or want of memory for its fault
halt_of : (P : Halt → Type 0) (halt is : Halt) → (halt ≡ is) ⊎ (halt ≡ Fault NoMemory) → P is → P (Fault NoMemory) → P halt
halt_of P halt is (inl same) holds none = subst P (sym same) holds
halt_of P halt is (inr same) holds none = subst P (sym same) none

pub halt_or : (P : Halt → Type 0) (d : ℕ) (t : Trouble) (buf : List ℕ) (halt : Halt) → IsHaltBy d t buf halt → P (halt_by d t buf) → P (Fault NoMemory) → P halt
halt_or P d troubles.Link buf halt is holds none = subst P (sym is) holds
halt_or P d (troubles.Broke n) buf halt is holds none = halt_of P halt _ is holds none
halt_or P d (troubles.Refused k x n) buf halt is holds none = halt_of P halt _ is holds none
halt_or P d troubles.Flooded buf halt is holds none = halt_of P halt _ is holds none
halt_or P d troubles.Short buf halt is holds none = halt_of P halt _ is holds none
halt_or P d troubles.Full buf halt is holds none = halt_of P halt _ is holds none
halt_or P d troubles.Parted buf halt is holds none = subst P (sym is) holds

pub talks_cause : {Own : Type 0} {Tells : Type 0} {a : Awaited} {old new : Seen Own} {kept now_kept : List (ℕ × List ℕ)} (d : ℕ) (first : List (List ℕ)) (halt : Halt) → a.dpid ≡ d → BreaksBy Tells a (first ++ barrier_of a ∷ []) old new kept now_kept halt
    → IsHaltCause Tells d old new halt
talks_cause {Tells = Tells} {a = a} {old = old} {new = new} {kept = kept} {now_kept = now_kept} d first halt is b =
    subst (λ (x : ℕ). IsHaltCause Tells x old new halt) is
    (halt_or (IsHaltCause Tells a.dpid old new) a.dpid b.trouble b.buf halt b.halt_is (breaks_cause a (first ++ barrier_of a ∷ []) old new kept now_kept b.buf b.trouble b.breaks) tt)

pub says_told : {Own T : Type 0} (Tells : Type 0) (d : ℕ) (frame bytes : List ℕ) (old new : Seen Own) (result : Result T Halt) → frame ≡ bytes → SaysTo Tells d frame old new result → Tells → OnOk result (new.history ≡ old.history ++ Acted (Sent d bytes) ∷ [])
says_told Tells d frame bytes old new (Ok x) same c told = c.told told ∙ ap (λ (b : List ℕ). old.history ++ Acted (Sent d b) ∷ []) same
says_told Tells d frame bytes old new (Err halt) same s told = tt

-- ---- A flood

abbrev pub IfHaltFlooded : {Own : Type 0} → Type 0 → Awaited → List WorldStep → Seen Own → Seen Own → Halt → Type 0
IfHaltFlooded Tells a front old new Lost = Unit {0}
IfHaltFlooded Tells a front old new (Fault fault) = IfFlooded Tells a front old new fault

flooded_by : {Own : Type 0} {Tells : Type 0} (a : Awaited) (first : List (List ℕ)) (old new : Seen Own) (kept now_kept : List (ℕ × List ℕ)) (buf : List ℕ) (t : Trouble) → Breaks Tells a (first ++ barrier_of a ∷ []) Growing [] old new kept now_kept buf t
    → IfHaltFlooded Tells a (front_steps a first) old new (halt_by a.dpid t buf)
flooded_by a first old new kept now_kept buf troubles.Link b = tt
flooded_by a first old new kept now_kept buf (troubles.Broke n) b = tt
flooded_by a first old new kept now_kept buf (troubles.Refused k x n) b = tt
flooded_by a first old new kept now_kept buf troubles.Flooded (inl u) = absurd u.why
flooded_by a first old new kept now_kept buf troubles.Flooded (inr u) = record {
  got = u.got;
  many = many u.by u.why;
  before_reply = u.before.before_reply;
  continues = u.calls.continues;
  told = λ t. u.calls.told t ∙ ap (λ (s : List WorldStep). old.history ++ s) (whole_steps joined a first u.got (last_said a.dpid u.by troubles.Flooded buf)
      ∙ ap (λ (s : List WorldStep). said_steps joined (frames_said a.dpid first) ++ (barrier_sent a ∷ s)) (ap (λ (s : List WorldStep). wait_steps a u.got ++ s) (none_last u.by u.why) ∙ append-nil (wait_steps a u.got))
      ∙ ap (λ (s : List WorldStep). s ++ (barrier_sent a ∷ wait_steps a u.got)) (frames_steps joined a.dpid first)
      ∙ sym (append_assoc (said_steps true (frames_said a.dpid first)) (barrier_sent a ∷ []) (wait_steps a u.got)));
}
  where
    joined : Bool
    joined = is_joined a.dpid (state old)

    many : (by : Option (List ℕ)) → IsBreak a [] Growing (length u.got) by troubles.Flooded buf → length u.got ≡ flood
    many None why = why
    many (Some b) why = absurd why.1.0

    none_last : (by : Option (List ℕ)) → IsBreak a [] Growing (length u.got) by troubles.Flooded buf → said_steps (is_joined a.dpid (state old)) (last_said a.dpid by troubles.Flooded buf) ≡ []
    none_last None why = refl
    none_last (Some b) why = absurd why.1.0
flooded_by a first old new kept now_kept buf troubles.Short b = tt
flooded_by a first old new kept now_kept buf troubles.Full b = tt
flooded_by a first old new kept now_kept buf troubles.Parted b = tt

pub talks_flooded : {Own : Type 0} {Tells : Type 0} {a : Awaited} {old new : Seen Own} {kept now_kept : List (ℕ × List ℕ)} (first : List (List ℕ)) (halt : Halt) → BreaksBy Tells a (first ++ barrier_of a ∷ []) old new kept now_kept halt
    → IfHaltFlooded Tells a (front_steps a first) old new halt
talks_flooded {Tells = Tells} {a = a} {old = old} {new = new} {kept = kept} {now_kept = now_kept} first halt b =
    halt_or (IfHaltFlooded Tells a (front_steps a first) old new) a.dpid b.trouble b.buf halt b.halt_is (flooded_by a first old new kept now_kept b.buf b.trouble b.breaks) tt

-- ---- What was kept

none_more : (d : ℕ) (kept now : List (ℕ × List ℕ)) → now ≡ kept → KeptMore d kept now
none_more d kept now same = ([], same ∙ sym (append-nil kept))

breaks_kept : {Own : Type 0} {Tells : Type 0} (a : Awaited) (frames : List (List ℕ)) (old new : Seen Own) (kept now_kept : List (ℕ × List ℕ)) (buf : List ℕ) (t : Trouble) → Breaks Tells a frames Growing [] old new kept now_kept buf t → KeptMore a.dpid kept now_kept
breaks_kept a frames old new kept now_kept buf t (inl u) = none_more a.dpid kept now_kept u.kept_is
breaks_kept a frames old new kept now_kept buf t (inr u) =
    let more = kept_of_more a u.got in
    (more.0, u.kept_is ∙ ap (λ (s : List (ℕ × List ℕ)). kept ++ s) more.1)

pub talks_kept : {Own : Type 0} {Tells : Type 0} {a : Awaited} {frames : List (List ℕ)} {old new : Seen Own} {kept now_kept : List (ℕ × List ℕ)} {halt : Halt} → BreaksBy Tells a frames old new kept now_kept halt → KeptMore a.dpid kept now_kept
talks_kept {a = a} {frames = frames} {old = old} {new = new} {kept = kept} {now_kept = now_kept} b = breaks_kept a frames old new kept now_kept b.buf b.trouble b.breaks

pub talks_err : {Own : Type 0} (Tells : Type 0) (a : Awaited) (old new : Seen Own) (kept now_kept : List (ℕ × List ℕ)) (first : List (List ℕ)) (result : Result Brought Halt) → Talks Tells a first old new kept now_kept result → OnErr result (KeptMore a.dpid kept now_kept)
talks_err Tells a old new kept now_kept first (Ok answer) t = tt
talks_err Tells a old new kept now_kept first (Err halt) t = talks_kept t
