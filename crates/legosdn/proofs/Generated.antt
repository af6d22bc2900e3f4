-- What `gen` promises, from how it ends: it draws a session, replays it, and sums up the report.
use Rattle.std.proofs.Common.{◌≡◌, ◌⊎◌, ◌≤◌, ℕ, List, [], ◌++◌, length, Option, Some, None, Result, Ok, Err, IfErr, OnOk, refl, sym, ap, subst, ◌∙◌, arith, inl, inr}
use Rattle.std.specs.Result.{IsErrAnd}
use Rattle.std.specs.Io.KnownBytes.{append_known}
use Rattle.std.proofs.lemmas.List.{append-nil}
use Rattle.lego_io.specs.Count.{Rose}
use Rattle.lego_io.specs.Sink.{TookPart}
use Rattle.lego_io.specs.MemSink.{Store, store_of}
use Rattle.of_types.specs.declared.journal.WorldStim.{WorldStim}
use Rattle.outside.specs.Seen.{Given, Seen}
use Rattle.sim_world.specs.Scripts.{Scripts}
use Rattle.sim_world.specs.World.{WorldData, seen_of}
use Rattle.sim_world.specs.Building.{IsNew, Begins}
use Rattle.lego_model.specs.SessionLines.{SessionValue}
use Rattle.session_gen.specs.Sessions.{session_drawn}
use Rattle.session_gen.specs.Summary.{summary_line}
use Rattle.session_gen.specs.laws.SessionGenLaws.{drawn_is_sound}
use Rattle.session_text.specs.Loading.{given_by}
use Rattle.crash_policy.specs.Order.{policy_of}
use Rattle.legosdn.specs.declared.stop.InputRefusal.{InputRefusal}
use Rattle.legosdn.specs.declared.stop.Stop.{Stop}
use Rattle.legosdn.specs.declared.stop.Stop.TheVariants.{Usage, Refused, ReadFault, WriteFault, Shut, NextFault, SwitchBroke, Diverged, EventsLeft, NoMemory}
use Rattle.legosdn.specs.Input.{ProgramValue, Read, with_read, program_in, drawn}
use Rattle.legosdn.specs.Stops.{stop_status, stop_line}
use Rattle.legosdn.specs.Headline.{Faults, Streams, streams, faults_of, faults_at, IsNoSession, IsReadCause, IsPolicyCause, IsCause, IsEarly, Loaded, Wrote, Replays}
use Rattle.legosdn.specs.Drawn.{Unwritten, CutLine, StopsSo, SumsUp, Generates}
use Rattle.legosdn.specs.Promise.{IsAnswered, IsSession, NothingInTheWay, status_replayed, GenPromise}
use Rattle.legosdn.proofs.Statuses.{not_zero}
use Rattle.legosdn.proofs.Causes.{cause_then}
use Rattle.legosdn.proofs.Runs.{untouched, broke_as, diverged_as, good_session, completes}
use Rattle.legosdn.proofs.CommandEnds.{replays_unread}
use Rattle.legosdn.proofs.Promises.{Halts, behind, messages_of, replay_ok, replay_err}

-- ---- The session that is drawn

pub drawn_loads : (start count : ℕ) (seen : Seen Scripts) (program : ProgramValue) → program_in (policy_of []) ≡ Ok program → Begins (given_by (session_drawn start count)) seen → Loaded (drawn start count) program (Some []) (Some []) seen
unfolding drawn
drawn_loads start count seen program taken begins = record {
  input = [];
  session = session_drawn start count;
  whole = refl;
  end = refl;
  spelled = ap (λ (r : Read ProgramValue). with_read r (λ p. Ok (p, session_drawn start count))) taken;
  given = begins.all;
}

pub drawn_few : (start count : ℕ) (seen : Seen Scripts) → count ≤ 100000 → Begins (given_by (session_drawn start count)) seen → length seen.given.stimuli ≤ 1000000
unfolding given_by
drawn_few start count seen few begins =
    subst (λ (xs : List WorldStim). length xs ≤ 1000000) (sym (ap (λ (g : Given Scripts). g.stimuli) begins.all)) (drawn_is_sound start count few).few_stimuli

draw_cause : (start count : ℕ) (stop : Stop) → IsPolicyCause [] stop → IsReadCause (IsNoSession (drawn start count)) (Some []) 0 0 stop
unfolding drawn
draw_cause start count Usage cause = absurd cause
draw_cause start count (Refused refusal) cause = ap (λ (r : Read ProgramValue). with_read r (λ p. Ok (p, session_drawn start count))) cause
draw_cause start count ReadFault cause = absurd cause
draw_cause start count WriteFault cause = absurd cause
draw_cause start count Shut cause = absurd cause
draw_cause start count NextFault cause = absurd cause
draw_cause start count (SwitchBroke d) cause = absurd cause
draw_cause start count (Diverged d) cause = absurd cause
draw_cause start count (EventsLeft left) cause = absurd cause
draw_cause start count NoMemory cause = tt

pub draw_causes : {T : Type 0} (start count : ℕ) (stop : Stop) (result : Result T Stop) → IsErrAnd result (λ s. s ≡ stop) → IsPolicyCause [] stop → IfErr result (IsReadCause (IsNoSession (drawn start count)) (Some []) 0 0)
draw_causes start count stop (Ok x) is cause = tt
draw_causes start count stop (Err s) is cause = rw is (draw_cause start count stop cause)

-- ---- How it ends

-- there is no memory for the report
pub generates_none : {T : Type 0} (start count : ℕ) (told contents : Option (List ℕ)) (i k : ℕ) (w : WorldData) (result : Result T Stop) → IsNew w → IsErrAnd result (λ s. s ≡ NoMemory)
    → Generates start count result (streams told contents i k) (streams told contents i k) w w
generates_none start count told contents i k w (Ok x) new is = absurd is
generates_none start count told contents i k w (Err s) new is = record {
  ended = Err NoMemory;
  report = [];
  faults = 0;
  replays = replays_unread (drawn start count) (Some []) (Some []) 0 0 0 w w (Some []) _ NoMemory (Err NoMemory) refl (untouched w new) tt (λ early. absurd early);
  summed = (is, (refl, refl));
  why = rw is tt;
}

-- the replay came to its end
cut_cause : (start count : ℕ) (line : List ℕ) (old new : Streams) (was now : WorldData) (stop : Stop) → CutLine stop line old new → IsCause (Unit {0}) (IsNoSession (drawn start count)) (Some []) (faults_at old (seen_of was)) (faults_at new (seen_of now)) stop
cut_cause start count line old new was now Usage cut = absurd cut
cut_cause start count line old new was now (Refused refusal) cut = absurd cut
cut_cause start count line old new was now ReadFault cut = absurd cut
cut_cause start count line old new was now WriteFault cut = cut.0
cut_cause start count line old new was now Shut cut = absurd cut
cut_cause start count line old new was now NextFault cut = absurd cut
cut_cause start count line old new was now (SwitchBroke d) cut = absurd cut
cut_cause start count line old new was now (Diverged d) cut = absurd cut
cut_cause start count line old new was now (EventsLeft left) cut = absurd cut
cut_cause start count line old new was now NoMemory cut = tt

pub generates_whole : (start count : ℕ) (old new : Streams) (was now : WorldData) (report : List ℕ) (faults : ℕ) (result : Result (Unit {0}) Stop)
    → Replays {T = Unit {0}} (drawn start count) (Ok tt) (streams (Some []) (Some []) 0 0) (streams (Some []) (Some report) 0 faults) was now ((now ≡ was) × ((report ≡ []) × (faults ≡ 0)))
    → OnOk result (new.contents ≡ append_known old.contents (summary_line start count report)) → IfErr result (λ stop. CutLine stop (summary_line start count report) old new) → Generates start count result old new was now
generates_whole start count old new was now report faults (Ok x) replays all cut = record { ended = Ok tt; report = report; faults = faults; replays = replays; summed = all; why = tt }
generates_whole start count old new was now report faults (Err stop) replays all cut = record {
  ended = Ok tt;
  report = report;
  faults = faults;
  replays = replays;
  summed = cut;
  why = cut_cause start count (summary_line start count report) old new was now stop cut;
}

-- or it stopped
pub no_rise : (P : Type 0) → Rose 0 0 → P
no_rise P (inl less) = absurd (omega (arith, less))
no_rise P (inr last) = absurd (omega (arith, last))

cause_so : (start count m : ℕ) (old : Streams) (was now : WorldData) (ended stop : Stop) → StopsSo ended stop → IsCause (Unit {0}) (IsNoSession (drawn start count)) (Some []) (faults_of 0 0 (seen_of was)) (faults_of 0 m (seen_of now)) ended
    → IsCause (Unit {0}) (IsNoSession (drawn start count)) (Some []) (faults_at old (seen_of was)) (faults_at old (seen_of now)) stop
cause_so start count m old was now Usage stop so why = absurd why
cause_so start count m old was now (Refused refusal) stop so why = rw so why
cause_so start count m old was now ReadFault stop so why = no_rise _ why
cause_so start count m old was now WriteFault stop so why = rw so tt
cause_so start count m old was now Shut stop so why = rw so why
cause_so start count m old was now NextFault stop so why = rw so why
cause_so start count m old was now (SwitchBroke d) stop so why = rw so why
cause_so start count m old was now (Diverged d) stop so why = rw so why
cause_so start count m old was now (EventsLeft left) stop so why = rw so why
cause_so start count m old was now NoMemory stop so why = rw so tt

pub generates_stopped : (start count : ℕ) (old : Streams) (was now : WorldData) (report : List ℕ) (faults : ℕ) (ended stop : Stop) (result : Result (Unit {0}) Stop) → result ≡ Err stop
    → Replays {T = Unit {0}} (drawn start count) (Err ended) (streams (Some []) (Some []) 0 0) (streams (Some []) (Some report) 0 faults) was now ((now ≡ was) × ((report ≡ []) × (faults ≡ 0)))
    → StopsSo ended stop → Generates start count result old old was now
generates_stopped start count old was now report faults ended stop result is replays so = subst (λ (r : Result (Unit {0}) Stop). Generates start count r old old was now) (sym is) (record {
  ended = Err ended;
  report = report;
  faults = faults;
  replays = replays;
  summed = (so, (refl, refl));
  why = cause_so start count faults old was now ended stop so replays.why;
})

-- ---- Statuses

pub ends_same : (ended stop : Stop) (status : ℕ) → StopsSo ended stop → status ≡ stop_status stop → (status ≡ 12) ⊎ (stop_status ended ≡ status_replayed status)
ends_same Usage stop status so is = inr (sym (ap status_replayed (is ∙ ap stop_status so)))
ends_same (Refused refusal) stop status so is = inr (sym (ap status_replayed (is ∙ ap stop_status so)))
ends_same ReadFault stop status so is = inr (sym (ap status_replayed (is ∙ ap stop_status so)))
ends_same WriteFault stop status so is = inl (is ∙ ap stop_status so)
ends_same Shut stop status so is = inr (sym (ap status_replayed (is ∙ ap stop_status so)))
ends_same NextFault stop status so is = inr (sym (ap status_replayed (is ∙ ap stop_status so)))
ends_same (SwitchBroke d) stop status so is = inr (sym (ap status_replayed (is ∙ ap stop_status so)))
ends_same (Diverged d) stop status so is = inr (sym (ap status_replayed (is ∙ ap stop_status so)))
ends_same (EventsLeft left) stop status so is = inr (sym (ap status_replayed (is ∙ ap stop_status so)))
ends_same NoMemory stop status so is = inr (sym (ap status_replayed (is ∙ ap stop_status so)))

pub never_five : (ended stop : Stop) → StopsSo ended stop → stop_status stop ≡ 5 → ⊥
never_five Usage stop so five = omega (arith, sym (ap stop_status so) ∙ five)
never_five (Refused refusal) stop so five = omega (arith, sym (ap stop_status so) ∙ five)
never_five ReadFault stop so five = omega (arith, sym (ap stop_status so) ∙ five)
never_five WriteFault stop so five = omega (arith, sym (ap stop_status so) ∙ five)
never_five Shut stop so five = omega (arith, sym (ap stop_status so) ∙ five)
never_five NextFault stop so five = omega (arith, sym (ap stop_status so) ∙ five)
never_five (SwitchBroke d) stop so five = omega (arith, sym (ap stop_status so) ∙ five)
never_five (Diverged d) stop so five = omega (arith, sym (ap stop_status so) ∙ five)
never_five (EventsLeft left) stop so five = omega (arith, sym (ap stop_status so) ∙ five)
never_five NoMemory stop so five = omega (arith, sym (ap stop_status so) ∙ five)

pub ended_at : (n : ℕ) (ended stop : Stop) → StopsSo ended stop → (12 ≡ n → ⊥) → stop_status stop ≡ n → stop_status ended ≡ n
ended_at n Usage stop so other is = ap stop_status (sym so) ∙ is
ended_at n (Refused refusal) stop so other is = ap stop_status (sym so) ∙ is
ended_at n ReadFault stop so other is = ap stop_status (sym so) ∙ is
ended_at n WriteFault stop so other is = absurd (other (ap stop_status (sym so) ∙ is))
ended_at n Shut stop so other is = ap stop_status (sym so) ∙ is
ended_at n NextFault stop so other is = ap stop_status (sym so) ∙ is
ended_at n (SwitchBroke d) stop so other is = ap stop_status (sym so) ∙ is
ended_at n (Diverged d) stop so other is = ap stop_status (sym so) ∙ is
ended_at n (EventsLeft left) stop so other is = ap stop_status (sym so) ∙ is
ended_at n NoMemory stop so other is = ap stop_status (sym so) ∙ is

pub twelve_eight : ◌≡◌ {A = ℕ} 12 8 → ⊥
twelve_eight e = omega (arith, e)

pub twelve_nine : ◌≡◌ {A = ℕ} 12 9 → ⊥
twelve_nine e = omega (arith, e)

-- ---- The promise

ok_so : (start count : ℕ) (old new : Streams) (was now : WorldData) (report : List ℕ) (faults : ℕ) (ended : Result (Unit {0}) Stop)
    → Replays (drawn start count) ended (streams (Some []) (Some []) 0 0) (streams (Some []) (Some report) 0 faults) was now ((now ≡ was) × ((report ≡ []) × (faults ≡ 0)))
    → SumsUp {U = Unit {0}} ended (Ok tt) (summary_line start count report) old new → GenPromise start count 0 old new was now
ok_so start count old new was now report faults (Ok x) replays summed = record {
  report = report;
  replayed = 0;
  wanting = faults;
  is_replay = replay_ok (drawn start count) (streams (Some []) (Some []) 0 0) (streams (Some []) (Some report) 0 faults) was now _ replays;
  ends_alike = inr refl;
  summary_is_exact = λ zero. summed;
  summary_is_cut = λ five. absurd (omega (arith, five));
  stop_has_its_cause = inl refl;
  good_session_is_answered = λ program session is none. (0, omega arith, refl);
}
ok_so start count old new was now report faults (Err stop) replays summed = absurd summed

pub gen_ok : (start count : ℕ) (old new : Streams) (was now : WorldData) → Generates {T = Unit {0}} start count (Ok tt) old new was now → GenPromise start count 0 old new was now
gen_ok start count old new was now ends = ok_so start count old new was now ends.report ends.faults ends.ended ends.replays ends.summed

-- nothing more was written
wrote_nothing : (a b : Option (List ℕ)) (k l : ℕ) → Wrote a b k l [] → b ≡ a
wrote_nothing None b k l (inl all) = all
wrote_nothing (Some bytes) b k l (inl all) = all ∙ ap (λ (xs : List ℕ). Some xs) (append-nil bytes)
wrote_nothing a b k l (inr part) = absurd (omega (arith, part.1.1))

pub cut_of : (line : List ℕ) (stop : Stop) (old mid : Streams) (contents : Option (List ℕ)) (faults : ℕ) → CutLine stop line old mid → Wrote mid.contents contents mid.sink_faults faults (stop_line stop) → stop_status stop ≡ 5 → TookPart old.contents contents line
unfolding stop_line
cut_of line Usage old mid contents faults cut wrote five = absurd cut
cut_of line (Refused refusal) old mid contents faults cut wrote five = absurd cut
cut_of line ReadFault old mid contents faults cut wrote five = absurd cut
cut_of line WriteFault old mid contents faults cut wrote five = subst (λ (c : Option (List ℕ)). TookPart old.contents c line) (sym (wrote_nothing mid.contents contents mid.sink_faults faults wrote)) cut.1
cut_of line Shut old mid contents faults cut wrote five = absurd cut
cut_of line NextFault old mid contents faults cut wrote five = absurd cut
cut_of line (SwitchBroke d) old mid contents faults cut wrote five = absurd cut
cut_of line (Diverged d) old mid contents faults cut wrote five = absurd cut
cut_of line (EventsLeft left) old mid contents faults cut wrote five = absurd cut
cut_of line NoMemory old mid contents faults cut wrote five = absurd (omega (arith, five))

pub cut_ends : (line : List ℕ) (stop : Stop) (status : ℕ) (old mid : Streams) → CutLine stop line old mid → status ≡ stop_status stop → (status ≡ 12) ⊎ (0 ≡ status_replayed status)
cut_ends line Usage status old mid cut is = absurd cut
cut_ends line (Refused refusal) status old mid cut is = absurd cut
cut_ends line ReadFault status old mid cut is = absurd cut
cut_ends line WriteFault status old mid cut is = inr (sym (ap status_replayed is))
cut_ends line Shut status old mid cut is = absurd cut
cut_ends line NextFault status old mid cut is = absurd cut
cut_ends line (SwitchBroke d) status old mid cut is = absurd cut
cut_ends line (Diverged d) status old mid cut is = absurd cut
cut_ends line (EventsLeft left) status old mid cut is = absurd cut
cut_ends line NoMemory status old mid cut is = inl is

-- nothing was written before the line
pub wrote_alone : (stop : Stop) (old mid : Streams) (contents : Option (List ℕ)) (faults : ℕ) → Unwritten old mid → Wrote mid.contents contents mid.sink_faults faults (stop_line stop) → Wrote old.contents contents old.sink_faults faults (stop_line stop)
wrote_alone stop old mid contents faults none wrote =
    subst (λ (c : Option (List ℕ)). Wrote c contents old.sink_faults faults (stop_line stop)) none.0 (subst (λ (n : ℕ). Wrote mid.contents contents n faults (stop_line stop)) none.1 wrote)

pub cut_wrote : (line : List ℕ) (stop : Stop) (old mid : Streams) (contents : Option (List ℕ)) (faults : ℕ) → CutLine stop line old mid → Wrote mid.contents contents mid.sink_faults faults (stop_line stop) → (stop ≡ WriteFault) ⊎ Wrote old.contents contents old.sink_faults faults (stop_line stop)
cut_wrote line Usage old mid contents faults cut wrote = absurd cut
cut_wrote line (Refused refusal) old mid contents faults cut wrote = absurd cut
cut_wrote line ReadFault old mid contents faults cut wrote = absurd cut
cut_wrote line WriteFault old mid contents faults cut wrote = inl refl
cut_wrote line Shut old mid contents faults cut wrote = absurd cut
cut_wrote line NextFault old mid contents faults cut wrote = absurd cut
cut_wrote line (SwitchBroke d) old mid contents faults cut wrote = absurd cut
cut_wrote line (Diverged d) old mid contents faults cut wrote = absurd cut
cut_wrote line (EventsLeft left) old mid contents faults cut wrote = absurd cut
cut_wrote line NoMemory old mid contents faults cut wrote = inr (wrote_alone NoMemory old mid contents faults cut wrote)

-- of no switch
pub cut_status : (line : List ℕ) (stop : Stop) (old mid : Streams) (n : ℕ) → CutLine stop line old mid → (5 ≡ n → ⊥) → (12 ≡ n → ⊥) → stop_status stop ≡ n → ⊥
cut_status line Usage old mid n cut five twelve is = cut
cut_status line (Refused refusal) old mid n cut five twelve is = cut
cut_status line ReadFault old mid n cut five twelve is = cut
cut_status line WriteFault old mid n cut five twelve is = five is
cut_status line Shut old mid n cut five twelve is = cut
cut_status line NextFault old mid n cut five twelve is = cut
cut_status line (SwitchBroke d) old mid n cut five twelve is = cut
cut_status line (Diverged d) old mid n cut five twelve is = cut
cut_status line (EventsLeft left) old mid n cut five twelve is = cut
cut_status line NoMemory old mid n cut five twelve is = twelve is

-- the cause of a stop, with its line
gen_cause : (start count : ℕ) (stop : Stop) (status : ℕ) (old mid : Streams) (contents : Option (List ℕ)) (faults : ℕ) (was now : WorldData) → Halts stop status old mid contents faults
    → IsCause (Unit {0}) (IsNoSession (drawn start count)) (Some []) (faults_at old (seen_of was)) (faults_at mid (seen_of now)) stop
    → IsCause (Unit {0}) (IsNoSession (drawn start count)) (Some []) (faults_at old (seen_of was)) (faults_at (behind mid contents faults) (seen_of now)) stop
gen_cause start count stop status old mid contents faults was now halts why =
    cause_then (Unit {0}) (IsNoSession (drawn start count)) (Some []) old.source_faults mid.source_faults old.sink_faults mid.sink_faults faults (seen_of was) (seen_of now) stop halts.never_fell halts.never_fell_then why

gen_answers : (start count : ℕ) (stop : Stop) (status : ℕ) (old mid : Streams) (contents : Option (List ℕ)) (faults : ℕ) (was now : WorldData) → Halts stop status old mid contents faults
    → IsCause (Unit {0}) (IsNoSession (drawn start count)) (Some []) (faults_at old (seen_of was)) (faults_at mid (seen_of now)) stop → (program : ProgramValue) (session : SessionValue) → IsSession (drawn start count) (Some []) program session
    → (stop_status stop ≡ 8 → ⊥) → (stop_status stop ≡ 9 → ⊥) → NothingInTheWay old (behind mid contents faults) (seen_of was) (seen_of now) → IsAnswered status
gen_answers start count stop status old mid contents faults was now halts why program session is broke diverged none =
    subst IsAnswered (sym halts.status_is)
    (completes (Unit {0}) (IsNoSession (drawn start count)) (Some []) (faults_at old (seen_of was)) (faults_at (behind mid contents faults) (seen_of now)) stop (gen_cause start count stop status old mid contents faults was now halts why)
    (good_session (drawn start count) (Some []) is.input program session is.whole is.spelled) broke diverged none.none_failed)

-- what a run would write behind its report
pub would_halt : (told left : Option (List ℕ)) (i j : ℕ) (ended : Stop) (report : List ℕ) (faults : ℕ) (Same : Type 0) → (IsEarly ended → Same × ((report ≡ []) × (faults ≡ 0)))
    → Halts ended (stop_status ended) (streams told (Some []) i 0) (streams left (Some report) j faults) (Some (report ++ stop_line ended)) faults
would_halt told left i j ended report faults Same early = record {
  status_is = refl;
  never_fell = omega arith;
  never_fell_then = omega arith;
  line = inl refl;
  still = λ is. let same = early is in (ap (λ (bytes : List ℕ). Some bytes) same.1.0, same.1.1);
}

err_so : (start count : ℕ) (old mid : Streams) (contents : Option (List ℕ)) (k : ℕ) (was now : WorldData) (report : List ℕ) (faults : ℕ) (ended : Result (Unit {0}) Stop) (stop : Stop) (status : ℕ) → Halts stop status old mid contents k
    → Replays (drawn start count) ended (streams (Some []) (Some []) 0 0) (streams (Some []) (Some report) 0 faults) was now ((now ≡ was) × ((report ≡ []) × (faults ≡ 0)))
    → SumsUp {U = Unit {0}} ended (Err stop) (summary_line start count report) old mid
    → IsCause (Unit {0}) (IsNoSession (drawn start count)) (Some []) (faults_at old (seen_of was)) (faults_at mid (seen_of now)) stop → GenPromise start count status old (behind mid contents k) was now
err_so start count old mid contents k was now report faults (Ok x) stop status halts replays summed why = record {
  report = report;
  replayed = 0;
  wanting = faults;
  is_replay = replay_ok (drawn start count) (streams (Some []) (Some []) 0 0) (streams (Some []) (Some report) 0 faults) was now _ replays;
  ends_alike = cut_ends (summary_line start count report) stop status old mid summed halts.status_is;
  summary_is_exact = λ zero. absurd (not_zero stop (sym halts.status_is ∙ zero));
  summary_is_cut = λ five. cut_of (summary_line start count report) stop old mid contents k summed halts.line (sym halts.status_is ∙ five);
  stop_has_its_cause = inr (record {
    stop = stop;
    status_is = halts.status_is;
    cause = gen_cause start count stop status old mid contents k was now halts why;
    holds = cut_wrote (summary_line start count report) stop old mid contents k summed halts.line;
  });
  good_session_is_answered = λ program session is none.
      gen_answers start count stop status old mid contents k was now halts why program session is
      (cut_status (summary_line start count report) stop old mid 8 summed (λ e. omega (arith, e)) twelve_eight)
      (cut_status (summary_line start count report) stop old mid 9 summed (λ e. omega (arith, e)) twelve_nine) none;
}
err_so start count old mid contents k was now report faults (Err ended) stop status halts replays summed why = record {
  report = report ++ stop_line ended;
  replayed = stop_status ended;
  wanting = faults;
  is_replay =
      replay_err (drawn start count) (streams (Some []) (Some []) 0 0) (streams (Some []) (Some report) 0 faults) (Some (report ++ stop_line ended)) faults was now _ ended (stop_status ended)
      (would_halt (Some []) (Some []) 0 0 ended report faults (now ≡ was) replays.early) replays;
  ends_alike = ends_same ended stop status summed.0 halts.status_is;
  summary_is_exact = λ zero. absurd (not_zero stop (sym halts.status_is ∙ zero));
  summary_is_cut = λ five. absurd (never_five ended stop summed.0 (sym halts.status_is ∙ five));
  stop_has_its_cause = inr (record {
    stop = stop;
    status_is = halts.status_is;
    cause = gen_cause start count stop status old mid contents k was now halts why;
    holds = inr (wrote_alone stop old mid contents k summed.1 halts.line);
  });
  good_session_is_answered = λ program session is none.
      gen_answers start count stop status old mid contents k was now halts why program session is
      (λ eight. broke_as (drawn start count) (Some []) (Some []) now ended (Some []) (Some report) replays.runs none.no_flood (ended_at 8 ended stop summed.0 twelve_eight eight) (messages_of now none.messages))
      (λ nine. diverged_as (drawn start count) (Some []) (Some []) now ended (Some []) (Some report) replays.runs (ended_at 9 ended stop summed.0 twelve_nine nine) (messages_of now none.messages)) none;
}

pub gen_err : (start count : ℕ) (old mid : Streams) (contents : Option (List ℕ)) (faults : ℕ) (was now : WorldData) (stop : Stop) (status : ℕ) → Halts stop status old mid contents faults → Generates {T = Unit {0}} start count (Err stop) old mid was now
    → GenPromise start count status old (behind mid contents faults) was now
gen_err start count old mid contents faults was now stop status halts ends = err_so start count old mid contents faults was now ends.report ends.faults ends.ended stop status halts ends.replays ends.summed ends.why

-- ---- Of the code's parts

pub early_map : {T : Type 0} (P Q : Type 0) (result : Result T Stop) → (P → Q) → IfErr result (λ s. IsEarly s → P) → IfErr result (λ s. IsEarly s → Q)
early_map P Q (Ok x) to early = tt
early_map P Q (Err stop) to early = λ is. to (early is)

-- the report was written to a sink that was empty
pub of_store : (start count : ℕ) (ended : Result (Unit {0}) Stop) (was now : WorldData) (room : ℕ) (fails : List ℕ) (old new : Store) → old ≡ store_of room fails
    → Replays (drawn start count) ended (streams (Some []) (Some old.taken) 0 old.faults) (streams (Some []) (Some new.taken) 0 new.faults) was now ((now ≡ was) × (new ≡ old))
    → Replays (drawn start count) ended (streams (Some []) (Some []) 0 0) (streams (Some []) (Some new.taken) 0 new.faults) was now ((now ≡ was) × ((new.taken ≡ []) × (new.faults ≡ 0)))
of_store start count ended was now room fails old new is replays =
    let at = subst
    (λ (s : Store). Replays (drawn start count) ended (streams (Some []) (Some s.taken) 0 s.faults) (streams (Some []) (Some new.taken) 0 new.faults) was now ((now ≡ was) × (new ≡ s))) is replays in
    record {
      loaded = at.loaded;
      runs = at.runs;
      course = at.course;
      lines = at.lines;
      late_lines = at.late_lines;
      why = at.why;
      early = early_map _ _ ended (λ same. (same.0, (ap (λ (s : Store). s.taken) same.1, ap (λ (s : Store). s.faults) same.1))) at.early;
    }

pub cut_late : (P : Type 0) (line : List ℕ) (old new : Streams) (stop : Stop) → CutLine stop line old new → IsEarly stop → P
cut_late P line old new Usage cut early = absurd cut
cut_late P line old new (Refused refusal) cut early = absurd cut
cut_late P line old new ReadFault cut early = absurd cut
cut_late P line old new WriteFault cut early = absurd early
cut_late P line old new Shut cut early = absurd cut
cut_late P line old new NextFault cut early = absurd cut
cut_late P line old new (SwitchBroke d) cut early = absurd cut
cut_late P line old new (Diverged d) cut early = absurd cut
cut_late P line old new (EventsLeft left) cut early = absurd cut
cut_late P line old new NoMemory cut early = absurd early

-- the line is written once the world has run
pub cut_early : {T : Type 0} (P : Type 0) (line : List ℕ) (old new : Streams) (result : Result T Stop) → IfErr result (λ stop. CutLine stop line old new) → IfErr result (λ s. IsEarly s → P)
cut_early P line old new (Ok x) cut = tt
cut_early P line old new (Err stop) cut = λ early. cut_late P line old new stop cut early

pub stops_early : (P : Type 0) (ended stop : Stop) → StopsSo ended stop → (IsEarly ended → P) → IsEarly stop → P
stops_early P Usage stop so same early = same (subst IsEarly so early)
stops_early P (Refused refusal) stop so same early = same (subst IsEarly so early)
stops_early P ReadFault stop so same early = same (subst IsEarly so early)
stops_early P WriteFault stop so same early = absurd (subst IsEarly so early)
stops_early P Shut stop so same early = same (subst IsEarly so early)
stops_early P NextFault stop so same early = same (subst IsEarly so early)
stops_early P (SwitchBroke d) stop so same early = same (subst IsEarly so early)
stops_early P (Diverged d) stop so same early = same (subst IsEarly so early)
stops_early P (EventsLeft left) stop so same early = same (subst IsEarly so early)
stops_early P NoMemory stop so same early = same (subst IsEarly so early)

-- no such command stops for its words
no_usage : {T Own : Type 0} (P : Type 0) (IsRefused : InputRefusal → List ℕ → Type 0) (told : Option (List ℕ)) (old new : Faults Own) (result : Result T Stop) → IfErr result (IsCause (Unit {0}) IsRefused told old new)
    → IfErr result (λ stop. stop ≡ Usage → P)
no_usage P IsRefused told old new (Ok x) why = tt
no_usage P IsRefused told old new (Err stop) why = λ is. absurd (subst (IsCause (Unit {0}) IsRefused told old new) is why)

pub gen_usage : {T : Type 0} (P : Type 0) (start count : ℕ) (old new : Streams) (was now : WorldData) (result : Result T Stop) → Generates start count result old new was now → IfErr result (λ stop. stop ≡ Usage → P)
gen_usage P start count old new was now result ends = no_usage P (IsNoSession (drawn start count)) (Some []) (faults_at old (seen_of was)) (faults_at new (seen_of now)) result ends.why
