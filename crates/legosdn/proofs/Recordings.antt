-- What `record` promises, from how it ends: it is a run, of which the recording is written in place of the report.
use Rattle.std.proofs.Common.{◌≡◌, ◌⊎◌, ℕ, List, [], ◌++◌, Option, Some, IfSome, Result, Ok, Err, IfErr, IfOk, OnOk, refl, sym, ap, subst, ◌∙◌, arith, inl, inr}
use Rattle.std.specs.Result.{IsErrAnd}
use Rattle.std.specs.Io.KnownBytes.{append_known}
use Rattle.crash_policy.specs.Policies.{AppValue}
use Rattle.lego_io.specs.MemSink.{Store, store_of}
use Rattle.outside.specs.Seen.{Seen, Shown}
use Rattle.lego_model.specs.Application.{names}
use Rattle.session_record.specs.Remarks.{AreRemarks}
use Rattle.session_record.specs.Texts.{IsText}
use Rattle.legosdn.specs.declared.stop.Stop.{Stop}
use Rattle.legosdn.specs.declared.stop.Stop.TheVariants.{Usage, Refused, ReadFault, WriteFault, Shut, NextFault, SwitchBroke, Diverged, EventsLeft, NoMemory}
use Rattle.legosdn.specs.Input.{ProgramValue}
use Rattle.legosdn.specs.Stops.{stop_status, stop_line}
use Rattle.legosdn.specs.Headline.{Streams, streams, faults_of, faults_at, IsNoPolicy, IsCause, IsEarly}
use Rattle.legosdn.specs.Live.{Taken, IsOfNoSwitch, Serves}
use Rattle.legosdn.specs.Drawn.{CutLine, StopsSo}
use Rattle.legosdn.specs.Recorded.{Kept, recording_text, IsRecording, Recording, CutRecording, WritesUp, Records}
use Rattle.legosdn.specs.Promise.{RecordPromise}
use Rattle.legosdn.proofs.Statuses.{is_write_fault, not_zero}
use Rattle.legosdn.proofs.Causes.{cause_then}
use Rattle.legosdn.proofs.CommandEnds.{serves_unread, broke_live, diverged_live, good_policy}
use Rattle.legosdn.proofs.Promises.{Halts, behind, answers, run_ok, run_err}
use Rattle.legosdn.proofs.Generated.{ends_same, never_five, ended_at, twelve_eight, twelve_nine, cut_of, cut_ends, wrote_alone, cut_wrote, cut_status, cut_late, early_map, would_halt}

-- ---- How it ends

-- nothing ran: memory was wanting
pub records_none : {Own T : Type 0} (Tells : Type 0) (rounds : ℕ) (told contents : Option (List ℕ)) (i k : ℕ) (seen : Seen Own) (kept : Kept) (Stays : Type 0) (result : Result T Stop) → Stays → IsErrAnd result (λ s. s ≡ NoMemory)
    → Records Tells rounds result (streams told contents i k) (streams told contents i k) seen seen kept Stays
records_none Tells rounds told contents i k seen kept Stays (Ok x) stays is = absurd is
records_none Tells rounds told contents i k seen kept Stays (Err s) stays is = record {
  ended = Err NoMemory;
  report = [];
  faults = 0;
  serves = serves_unread Tells rounds told told i i 0 seen (Some []) (Stays × (([] ≡ []) × (0 ≡ 0))) NoMemory (Err NoMemory) refl tt (stays, (refl, refl));
  written = (is, (refl, refl));
  why = rw is tt;
}

-- the run came to its end
cut_cause : {Own : Type 0} (Tells : Type 0) (told : Option (List ℕ)) (bytes : List ℕ) (old new : Streams) (was now : Seen Own) (stop : Stop) → CutLine stop bytes old new → IsCause Tells IsNoPolicy told (faults_at old was) (faults_at new now) stop
cut_cause Tells told bytes old new was now Usage cut = absurd cut
cut_cause Tells told bytes old new was now (Refused refusal) cut = absurd cut
cut_cause Tells told bytes old new was now ReadFault cut = absurd cut
cut_cause Tells told bytes old new was now WriteFault cut = cut.0
cut_cause Tells told bytes old new was now Shut cut = absurd cut
cut_cause Tells told bytes old new was now NextFault cut = absurd cut
cut_cause Tells told bytes old new was now (SwitchBroke d) cut = absurd cut
cut_cause Tells told bytes old new was now (Diverged d) cut = absurd cut
cut_cause Tells told bytes old new was now (EventsLeft left) cut = absurd cut
cut_cause Tells told bytes old new was now NoMemory cut = tt

-- these are the bytes of the policy that was taken
recording_of : {Own : Type 0} (Tells : Type 0) (told left : Option (List ℕ)) (seen : Seen Own) (kept : Kept) (program : ProgramValue) (policy bytes : List ℕ) → Taken program told left → IfSome told (λ all. policy ≡ all)
    → IsRecording Tells seen program.apps policy kept bytes → Recording Tells told left seen kept bytes
recording_of Tells told left seen kept program policy bytes taken whole is = record { program = program; taken = taken; policy = policy; whole = whole; is_recording = is }

pub records_whole : {Own : Type 0} (Tells : Type 0) (rounds : ℕ) (old new : Streams) (was now : Seen Own) (kept : Kept) (Stays : Type 0) (report : List ℕ) (faults : ℕ) (program : ProgramValue) (policy : List ℕ) (result : Result (Unit {0}) Stop)
    → Serves {T = Unit {0}} Tells rounds (Ok tt) (streams old.remaining (Some []) old.source_faults 0) (streams new.remaining (Some report) new.source_faults faults) was now (Stays × ((report ≡ []) × (faults ≡ 0)))
    → Taken program old.remaining new.remaining → IfSome old.remaining (λ all. policy ≡ all)
    → OnOk result ((bytes : List ℕ) × IsRecording Tells now program.apps policy kept bytes × (new.contents ≡ append_known old.contents bytes)) → IfErr result (λ stop. CutRecording stop (IsRecording Tells now program.apps policy kept) old new)
    → Records Tells rounds result old new was now kept Stays
records_whole Tells rounds old new was now kept Stays report faults program policy (Ok x) serves taken whole all cut = record {
  ended = Ok tt;
  report = report;
  faults = faults;
  serves = serves;
  written = (all.0, recording_of Tells old.remaining new.remaining now kept program policy all.0 taken whole all.1, all.2);
  why = tt;
}
records_whole Tells rounds old new was now kept Stays report faults program policy (Err stop) serves taken whole all cut = record {
  ended = Ok tt;
  report = report;
  faults = faults;
  serves = serves;
  written = (cut.0, (λ is. recording_of Tells old.remaining new.remaining now kept program policy cut.0 taken whole (cut.1 is)), cut.2);
  why = cut_cause Tells old.remaining cut.0 old new was now stop cut.2;
}

-- or it stopped
cause_so : {Own : Type 0} (Tells : Type 0) (told : Option (List ℕ)) (i j k m : ℕ) (was now : Seen Own) (ended stop : Stop) → StopsSo ended stop → IsCause Tells IsNoPolicy told (faults_of i 0 was) (faults_of j m now) ended
    → IsCause Tells IsNoPolicy told (faults_of i k was) (faults_of j k now) stop
cause_so Tells told i j k m was now Usage stop so why = absurd why
cause_so Tells told i j k m was now (Refused refusal) stop so why = rw so why
cause_so Tells told i j k m was now ReadFault stop so why = rw so why
cause_so Tells told i j k m was now WriteFault stop so why = rw so tt
cause_so Tells told i j k m was now Shut stop so why = rw so why
cause_so Tells told i j k m was now NextFault stop so why = rw so why
cause_so Tells told i j k m was now (SwitchBroke d) stop so why = rw so why
cause_so Tells told i j k m was now (Diverged d) stop so why = rw so why
cause_so Tells told i j k m was now (EventsLeft left) stop so why = rw so why
cause_so Tells told i j k m was now NoMemory stop so why = rw so tt

pub records_stopped : {Own : Type 0} (Tells : Type 0) (rounds : ℕ) (told left contents : Option (List ℕ)) (i j k : ℕ) (was now : Seen Own) (kept : Kept) (Stays : Type 0) (report : List ℕ) (faults : ℕ) (ended stop : Stop) (result : Result (Unit {0}) Stop) → result ≡ Err stop
    → Serves {T = Unit {0}} Tells rounds (Err ended) (streams told (Some []) i 0) (streams left (Some report) j faults) was now (Stays × ((report ≡ []) × (faults ≡ 0)))
    → StopsSo ended stop → Records Tells rounds result (streams told contents i k) (streams left contents j k) was now kept Stays
records_stopped Tells rounds told left contents i j k was now kept Stays report faults ended stop result is serves so =
    subst (λ (r : Result (Unit {0}) Stop). Records Tells rounds r (streams told contents i k) (streams left contents j k) was now kept Stays) (sym is) (record {
      ended = Err ended;
      report = report;
      faults = faults;
      serves = serves;
      written = (so, (refl, refl));
      why = cause_so Tells told i j k faults was now ended stop so serves.why;
    })

-- the report was written to a sink that was empty
in_order : {P Q R : Type 0} → (Q → R) → P ⊎ Q → P ⊎ R
in_order to (inl p) = inl p
in_order to (inr q) = inr (to q)

emptied : (room : ℕ) (fails : List ℕ) (old new : Store) (Stays : Type 0) → old ≡ store_of room fails → Stays × (new ≡ old) → Stays × ((new.taken ≡ []) × (new.faults ≡ 0))
emptied room fails old new Stays is same =
    let at = same.1 ∙ is in (same.0, (ap (λ (s : Store). s.taken) at, ap (λ (s : Store). s.faults) at))

pub of_store : {Own : Type 0} (Tells : Type 0) (rounds : ℕ) (told left : Option (List ℕ)) (i j : ℕ) (ended : Result (Unit {0}) Stop) (was now : Seen Own) (Stays : Type 0) (room : ℕ) (fails : List ℕ) (old new : Store) → old ≡ store_of room fails
    → Serves Tells rounds ended (streams told (Some old.taken) i old.faults) (streams left (Some new.taken) j new.faults) was now (Stays × (new ≡ old))
    → Serves Tells rounds ended (streams told (Some []) i 0) (streams left (Some new.taken) j new.faults) was now (Stays × ((new.taken ≡ []) × (new.faults ≡ 0)))
of_store Tells rounds told left i j ended was now Stays room fails old new is serves =
    let at = subst
    (λ (s : Store). Serves Tells rounds ended (streams told (Some s.taken) i s.faults) (streams left (Some new.taken) j new.faults) was now (Stays × (new ≡ old))) is serves in
    record {
      taken = at.taken;
      no_other = in_order (emptied room fails old new Stays is) at.no_other;
      runs = at.runs;
      course = at.course;
      why = at.why;
      early = early_map _ _ ended (emptied room fails old new Stays is) at.early;
    }

-- ---- The promise

ok_so : {Own : Type 0} (Tells : Type 0) (rounds : ℕ) (old new : Streams) (was now : Seen Own) (kept : Kept) (Stays : Type 0) (report : List ℕ) (faults : ℕ) (ended : Result (Unit {0}) Stop)
    → Serves Tells rounds ended (streams old.remaining (Some []) old.source_faults 0) (streams new.remaining (Some report) new.source_faults faults) was now (Stays × ((report ≡ []) × (faults ≡ 0)))
    → WritesUp {U = Unit {0}} ended (Ok tt) (Recording Tells old.remaining new.remaining now kept) old new → RecordPromise Tells rounds 0 old new was now kept Stays
ok_so Tells rounds old new was now kept Stays report faults (Ok x) serves written = record {
  report = report;
  served = 0;
  wanting = faults;
  is_run = run_ok Tells rounds (streams old.remaining (Some []) old.source_faults 0) (streams new.remaining (Some report) new.source_faults faults) was now Stays ((report ≡ []) × (faults ≡ 0)) serves;
  ends_alike = inr refl;
  recording_is_whole = λ zero. written;
  recording_is_cut = λ five. absurd (omega (arith, five));
  stop_has_its_cause = inl refl;
  good_input_is_answered = λ tells program is none. (0, omega arith, refl);
}
ok_so Tells rounds old new was now kept Stays report faults (Err stop) serves written = absurd written

pub record_ok : {Own : Type 0} (Tells : Type 0) (rounds : ℕ) (old new : Streams) (was now : Seen Own) (kept : Kept) (Stays : Type 0) → Records {T = Unit {0}} Tells rounds (Ok tt) old new was now kept Stays → RecordPromise Tells rounds 0 old new was now kept Stays
record_ok Tells rounds old new was now kept Stays ends = ok_so Tells rounds old new was now kept Stays ends.report ends.faults ends.ended ends.serves ends.written

record_cause : {Own : Type 0} (Tells : Type 0) (stop : Stop) (status : ℕ) (old mid : Streams) (contents : Option (List ℕ)) (faults : ℕ) (was now : Seen Own) → Halts stop status old mid contents faults
    → IsCause Tells IsNoPolicy old.remaining (faults_at old was) (faults_at mid now) stop → IsCause Tells IsNoPolicy old.remaining (faults_at old was) (faults_at (behind mid contents faults) now) stop
record_cause Tells stop status old mid contents faults was now halts why =
    cause_then Tells IsNoPolicy old.remaining old.source_faults mid.source_faults old.sink_faults mid.sink_faults faults was now stop halts.never_fell halts.never_fell_then why

err_so : {Own : Type 0} (Tells : Type 0) (rounds : ℕ) (old mid : Streams) (contents : Option (List ℕ)) (k : ℕ) (was now : Seen Own) (kept : Kept) (Stays : Type 0) (report : List ℕ) (faults : ℕ) (ended : Result (Unit {0}) Stop) (stop : Stop) (status : ℕ)
    → (Stays → now ≡ was) → Halts stop status old mid contents k
    → Serves Tells rounds ended (streams old.remaining (Some []) old.source_faults 0) (streams mid.remaining (Some report) mid.source_faults faults) was now (Stays × ((report ≡ []) × (faults ≡ 0)))
    → WritesUp {U = Unit {0}} ended (Err stop) (Recording Tells old.remaining mid.remaining now kept) old mid → IsCause Tells IsNoPolicy old.remaining (faults_at old was) (faults_at mid now) stop
    → RecordPromise Tells rounds status old (behind mid contents k) was now kept Stays
err_so Tells rounds old mid contents k was now kept Stays report faults (Ok x) stop status same halts serves written why = record {
  report = report;
  served = 0;
  wanting = faults;
  is_run = run_ok Tells rounds (streams old.remaining (Some []) old.source_faults 0) (streams mid.remaining (Some report) mid.source_faults faults) was now Stays ((report ≡ []) × (faults ≡ 0)) serves;
  ends_alike = cut_ends written.0 stop status old mid written.2 halts.status_is;
  recording_is_whole = λ zero. absurd (not_zero stop (sym halts.status_is ∙ zero));
  recording_is_cut = λ five. (written.0, written.1 (is_write_fault stop (sym halts.status_is ∙ five)), cut_of written.0 stop old mid contents k written.2 halts.line (sym halts.status_is ∙ five));
  stop_has_its_cause = inr (record {
    stop = stop;
    status_is = halts.status_is;
    cause = record_cause Tells stop status old mid contents k was now halts why;
    holds = cut_wrote written.0 stop old mid contents k written.2 halts.line;
  });
  good_input_is_answered = λ tells program is none.
      answers Tells IsNoPolicy stop status old mid contents k was now halts why (good_policy old.remaining is.input program is.whole is.spelled)
      (cut_status written.0 stop old mid 8 written.2 (λ e. omega (arith, e)) twelve_eight) (cut_status written.0 stop old mid 9 written.2 (λ e. omega (arith, e)) twelve_nine) none.none_failed;
}
err_so Tells rounds old mid contents k was now kept Stays report faults (Err ended) stop status same halts serves written why = record {
  report = report ++ stop_line ended;
  served = stop_status ended;
  wanting = faults;
  is_run =
      run_err Tells rounds (streams old.remaining (Some []) old.source_faults 0) (streams mid.remaining (Some report) mid.source_faults faults) (Some (report ++ stop_line ended)) faults was now Stays ((report ≡ []) × (faults ≡ 0)) ended (stop_status ended)
      (would_halt old.remaining mid.remaining old.source_faults mid.source_faults ended report faults Stays serves.early) same serves;
  ends_alike = ends_same ended stop status written.0 halts.status_is;
  recording_is_whole = λ zero. absurd (not_zero stop (sym halts.status_is ∙ zero));
  recording_is_cut = λ five. absurd (never_five ended stop written.0 (sym halts.status_is ∙ five));
  stop_has_its_cause = inr (record {
    stop = stop;
    status_is = halts.status_is;
    cause = record_cause Tells stop status old mid contents k was now halts why;
    holds = inr (wrote_alone stop old mid contents k written.1 halts.line);
  });
  good_input_is_answered = λ tells program is none.
      answers Tells IsNoPolicy stop status old mid contents k was now halts why (good_policy old.remaining is.input program is.whole is.spelled)
      (λ eight. broke_live rounds old.remaining mid.remaining now (Some []) (Some report) ended (serves.runs tells) none.no_flood none.messages (ended_at 8 ended stop written.0 twelve_eight eight))
      (λ nine. diverged_live rounds old.remaining mid.remaining now (Some []) (Some report) ended (serves.runs tells) none.messages (ended_at 9 ended stop written.0 twelve_nine nine)) none.none_failed;
}

pub record_err : {Own : Type 0} (Tells : Type 0) (rounds : ℕ) (old mid : Streams) (contents : Option (List ℕ)) (faults : ℕ) (was now : Seen Own) (kept : Kept) (Stays : Type 0) (stop : Stop) (status : ℕ) → Halts stop status old mid contents faults → (Stays → now ≡ was)
    → Records {T = Unit {0}} Tells rounds (Err stop) old mid was now kept Stays → RecordPromise Tells rounds status old (behind mid contents faults) was now kept Stays
record_err Tells rounds old mid contents faults was now kept Stays stop status halts same ends = err_so Tells rounds old mid contents faults was now kept Stays ends.report ends.faults ends.ended stop status same halts ends.serves ends.written ends.why

-- ---- Of the code's parts

pub not_cut : NoMemory ≡ WriteFault → ⊥
not_cut e = omega (arith, ap stop_status e)

-- the recording is written once the world has run
pub short_early : {T : Type 0} (P : Type 0) (Is : List ℕ → Type 0) (old new : Streams) (result : Result T Stop) → IfErr result (λ stop. CutRecording stop Is old new) → IfErr result (λ s. IsEarly s → P)
short_early P Is old new (Ok x) cut = tt
short_early P Is old new (Err stop) cut = λ early. cut_late P cut.0 old new stop cut.2 early

-- and no switch is at fault then
cut_of_none : (bytes : List ℕ) (old new : Streams) (stop : Stop) → CutLine stop bytes old new → IsOfNoSwitch stop
cut_of_none bytes old new Usage cut = tt
cut_of_none bytes old new (Refused refusal) cut = tt
cut_of_none bytes old new ReadFault cut = tt
cut_of_none bytes old new WriteFault cut = tt
cut_of_none bytes old new Shut cut = tt
cut_of_none bytes old new NextFault cut = tt
cut_of_none bytes old new (SwitchBroke d) cut = absurd cut
cut_of_none bytes old new (Diverged d) cut = absurd cut
cut_of_none bytes old new (EventsLeft left) cut = tt
cut_of_none bytes old new NoMemory cut = tt

pub short_of_none : {T : Type 0} (Is : List ℕ → Type 0) (old new : Streams) (result : Result T Stop) → IfErr result (λ stop. CutRecording stop Is old new) → IfErr result IsOfNoSwitch
short_of_none Is old new (Ok x) cut = tt
short_of_none Is old new (Err stop) cut = cut_of_none cut.0 old new stop cut.2

pub stops_of_none : (ended stop : Stop) → StopsSo ended stop → IsOfNoSwitch ended → IsOfNoSwitch stop
stops_of_none Usage stop so none = rw so none
stops_of_none (Refused refusal) stop so none = rw so none
stops_of_none ReadFault stop so none = rw so none
stops_of_none WriteFault stop so none = rw so tt
stops_of_none Shut stop so none = rw so none
stops_of_none NextFault stop so none = rw so none
stops_of_none (SwitchBroke d) stop so none = absurd none
stops_of_none (Diverged d) stop so none = absurd none
stops_of_none (EventsLeft left) stop so none = rw so none
stops_of_none NoMemory stop so none = rw so none

-- no such command stops for its words
record_usages : {Own T : Type 0} (P Tells : Type 0) (told : Option (List ℕ)) (old new : Streams) (was now : Seen Own) (result : Result T Stop) → IfErr result (IsCause Tells IsNoPolicy told (faults_at old was) (faults_at new now)) → IfErr result (λ stop. stop ≡ Usage → P)
record_usages P Tells told old new was now (Ok x) why = tt
record_usages P Tells told old new was now (Err stop) why = λ is. absurd (subst (IsCause Tells IsNoPolicy told (faults_at old was) (faults_at new now)) is why)

pub record_usage : {Own T : Type 0} (P Tells : Type 0) (rounds : ℕ) (old new : Streams) (was now : Seen Own) (kept : Kept) (Stays : Type 0) (result : Result T Stop) → Records Tells rounds result old new was now kept Stays → IfErr result (λ stop. stop ≡ Usage → P)
record_usage P Tells rounds old new was now kept Stays result ends = record_usages P Tells old.remaining old new was now result ends.why

-- what is spelled of these parts is the recording
pub spells : {Own V E : Type 0} (Tells : Type 0) (seen : Seen Own) (apps : List AppValue) (ns : List (List ℕ)) (policy remarks session p r s : List ℕ) (kept : Kept) (items : V → List ℕ) (result : Result V E) → AreRemarks remarks → ns ≡ names apps
    → IsText (Shown Tells seen) seen ns kept.deeds kept.losses session → p ≡ policy → r ≡ remarks → s ≡ session → IfOk result (λ out. items out ≡ recording_text p r s) → IfOk result (λ out. IsRecording Tells seen apps policy kept (items out))
spells Tells seen apps ns policy remarks session p r s kept items (Ok x) are named is ep er es spelled = record {
  remarks = remarks;
  are_remarks = are;
  session = session;
  is_text = subst (λ (all : List (List ℕ)). IsText (Shown Tells seen) seen all kept.deeds kept.losses session) named is;
  spelled = spelled ∙ ap (λ (b : List ℕ). recording_text b r s) ep ∙ ap (λ (b : List ℕ). recording_text policy b s) er ∙ ap (λ (b : List ℕ). recording_text policy remarks b) es;
}
spells Tells seen apps ns policy remarks session p r s kept items (Err e) are named is ep er es spelled = tt
