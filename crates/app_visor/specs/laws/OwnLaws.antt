-- Laws of calls for one application alone, none of which gives it an event: what attempts to start it are made of.
use Rattle.std.specs.Prelude.{◌≡◌, ◌==◌, ℕ, Bool, true, false, List, [], ◌∷◌, ◌++◌, map, Option, refl}
use Rattle.std.specs.Option.{is_some}
use Rattle.std.specs.List.{AllByRecursion}
use Rattle.std.proofs.Common.{sym, ap, ◌∙◌, append_assoc, true≢false}
use Rattle.std.proofs.lemmas.List.{append-nil, map-append}
use Rattle.std.proofs.lemmas.Bool.{eq-eqb, eqb-true}
use Rattle.of_types.specs.declared.journal.Act.{Act}
use Rattle.of_types.specs.declared.journal.Act.TheVariants.{Stim, Started, Gave, Gone, Took, Ended, Sent, Got, Lost}
use Rattle.of_types.specs.declared.journal.TookWhat.TheVariants as took
use Rattle.lego_model.specs.Journal.{is_of, is_event, give_act}
use Rattle.lego_model.specs.Controller.{restore_frame}
use Rattle.outside.specs.declared.step.WorldStep.{WorldStep}
use Rattle.outside.specs.Seen.{Seen}
use Rattle.outside.specs.State.{state, is_running}
use Rattle.outside.specs.Calls.{Ends}
use Rattle.outside.specs.Quiescence.{is_quiescent, NoneQuiescent, NoneQuiescentSince}
use Rattle.journal_laws.specs.Readings.{is_call, Calls, end_acts}
use Rattle.journal_laws.specs.laws.CallLaws.{both_second, call_of, calls_both, calls_within}
use Rattle.journal_laws.specs.laws.FrameLaws.{restore_is_none}
use Rattle.app_visor.specs.declared.came.Came.{Came}
use Rattle.app_visor.specs.declared.came.Came.TheVariants as comes
use Rattle.app_visor.specs.Talks.{step_of, Told, Wants}
use Rattle.app_visor.specs.Reads.{takes, Taken, CameSo, Comes, Breaks}
use Rattle.app_visor.specs.laws.ReadLaws.{within_takes}
use Rattle.app_visor.specs.Attempts.{EndsUnless}
use Rattle.app_visor.specs.laws.AttemptLaws.{Adds-takes, Adds-ended}
use Rattle.app_visor.specs.laws.ReadTryLaws.{calls_end}
use Rattle.app_visor.specs.laws.TellingLaws.{no_number}
use Rattle.app_visor.specs.CallsFor.{IsCallFor, CallsFor, OwnSteps, Calmly}

-- ---- One part behind another

own_by : {Own : Type 0} (app : ℕ) (acts : List Act) (old new : Seen Own) → new.history ≡ old.history ++ map step_of acts → Calls app acts → OwnSteps app old new
own_by app acts old new longer all = record { acts = acts; history = longer; all = all }

pub own_none : {Own : Type 0} (app : ℕ) (seen : Seen Own) → OwnSteps app seen seen
own_none app seen = own_by app [] seen seen (sym (append-nil seen.history)) tt

pub own_then : {Own : Type 0} {app : ℕ} {old mid new : Seen Own} → OwnSteps app old mid → OwnSteps app mid new → OwnSteps app old new
own_then {app = app} {old = old} {new = new} first second =
    own_by app (first.acts ++ second.acts) old new
    (second.history ∙ ap (λ (h : List WorldStep). h ++ map step_of second.acts) first.history ∙ append_assoc old.history (map step_of first.acts) (map step_of second.acts)
    ∙ ap (λ (steps : List WorldStep). old.history ++ steps) (sym (map-append step_of first.acts second.acts)))
    (calls_both app first.acts second.acts first.all second.all)

-- ---- Calls

-- memory was wanting
pub own_wanting : {Own : Type 0} {Tells : Type 0} {old new : Seen Own} (app : ℕ) → Wants Tells old new → Tells → OwnSteps app old new
own_wanting {old = old} {new = new} app wants tells = own_by app [] old new (wants.history tells ∙ sym (append-nil old.history)) tt

pub own_told : {Own : Type 0} {Tells : Type 0} {old new : Seen Own} (app : ℕ) (act : Act) → is_call app act ≡ true → Told Tells act old new → Tells → OwnSteps app old new
own_told {old = old} {new = new} app act is told tells = own_by app (act ∷ []) old new (told.history tells) (is, tt)

pub own_started : {Own : Type 0} {Tells : Type 0} {app : ℕ} {old new : Seen Own} (stands : Bool) → Told Tells (Started app stands) old new → Tells → OwnSteps app old new
own_started {app = app} stands told tells = own_told app (Started app stands) (eq-eqb app app refl) told tells

given_is_call : (app : ℕ) (given : Bool) (frame : List ℕ) → is_event frame ≡ false → is_call app (give_act given app frame) ≡ true
given_is_call app true frame none = rw (eq-eqb app app refl, none) refl
given_is_call app false frame none = rw (eq-eqb app app refl, none) refl

-- it was given bytes that are no event, or could not be
pub own_given : {Own : Type 0} {Tells : Type 0} {old new : Seen Own} (app : ℕ) (given : Bool) (frame : List ℕ) → is_event frame ≡ false → Told Tells (give_act given app frame) old new → Tells → OwnSteps app old new
own_given app given frame none told tells = own_told app (give_act given app frame) (given_is_call app given frame none) told tells

pub own_restored : {Own : Type 0} {Tells : Type 0} {old new : Seen Own} (app : ℕ) (given : Bool) (kept frame : List ℕ) → frame ≡ restore_frame kept → Told Tells (give_act given app frame) old new → Tells → OwnSteps app old new
own_restored app given kept frame is told tells = own_given app given frame (ap is_event is ∙ restore_is_none kept) told tells

pub own_ended : {Own : Type 0} {Tells : Type 0} {app : ℕ} {old new : Seen Own} → Ends Tells app old new → Tells → OwnSteps app old new
own_ended {Tells = Tells} {app = app} {old = old} {new = new} ends tells =
    own_by app (end_acts (is_running app (state old)) app) old new (Adds-ended Tells app old new ends tells) (calls_end app (is_running app (state old)))

pub own_unless : {Own : Type 0} (Tells : Type 0) (app : ℕ) (ready : Bool) (old new : Seen Own) → EndsUnless Tells app ready old new → Tells → OwnSteps app old new
own_unless Tells app true old new is tells = rw is (own_none app old)
own_unless Tells app false old new ends tells = own_ended ends tells

-- ---- Frames that come

own_taken : {Own : Type 0} {Tells : Type 0} {app : ℕ} {rest left : List ℕ} {old new : Seen Own} → Taken Tells app rest left old new → Tells → OwnSteps app old new
own_taken {Tells = Tells} {app = app} {rest = rest} {left = left} {old = old} {new = new} taken tells =
    own_by app (takes app taken.pieces) old new (Adds-takes Tells app taken.pieces rest left old new taken.all tells) (calls_within app (takes app taken.pieces) (within_takes app taken.pieces))

own_came : {Own : Type 0} (Tells : Type 0) (app : ℕ) (came : Came) (rest left : List ℕ) (old new : Seen Own) → CameSo Tells app came rest left old new → Tells → OwnSteps app old new
own_came Tells app (comes.Frame frame) rest left old new so tells = rw so.1 (own_none app old)
own_came Tells app (comes.Refused fault) rest left old new so tells = rw so.1 (own_none app old)
own_came Tells app comes.Closed rest left old new so tells = own_told app (Took app took.Closed) (eq-eqb app app refl) so.1 tells
own_came Tells app comes.Silent rest left old new so tells = own_told app (Took app took.Silent) (eq-eqb app app refl) so.1 tells

pub own_comes : {Own : Type 0} {Tells : Type 0} {app : ℕ} {rest left : List ℕ} {old new : Seen Own} (came : Came) → Comes Tells app rest left old new came → Tells → OwnSteps app old new
own_comes {Tells = Tells} {app = app} {left = left} {new = new} came is tells =
    own_then (own_taken is.taken tells) (own_came Tells app came is.unread left is.then_seen new is.came_is tells)

pub own_breaking : {Own : Type 0} {Tells : Type 0} {app : ℕ} {rest : List ℕ} {old new : Seen Own} → Breaks Tells app rest old new → Tells → OwnSteps app old new
own_breaking {app = app} breaks tells = own_then (own_taken breaks.taken tells) (own_wanting app breaks.wants tells)

-- ---- Attempts to start

-- ---- What they are not

call_for : (app : ℕ) (act : Act) → is_of app act ≡ true → IsCallFor app (step_of act)
call_for app (Started of stands) is = eqb-true of app is
call_for app (Gave of bytes) is = eqb-true of app is
call_for app (Gone of bytes) is = eqb-true of app is
call_for app (Took of what) is = eqb-true of app is
call_for app (Ended of) is = eqb-true of app is
call_for app (Stim x) is = absurd (true≢false (sym is))
call_for app (Sent d bytes) is = absurd (true≢false (sym is))
call_for app (Got d bytes) is = absurd (true≢false (sym is))
call_for app (Lost d) is = absurd (true≢false (sym is))

no_quiescence : (app : ℕ) (act : Act) → is_call app act ≡ true → is_quiescent (step_of act) ≡ false
no_quiescence app (Started of stands) is = refl
no_quiescence app (Gave of bytes) is = ap (λ (n : Option ℕ). is_some n) (no_number bytes (both_second (of == app) (is_event bytes) is))
no_quiescence app (Gone of bytes) is = refl
no_quiescence app (Took of what) is = refl
no_quiescence app (Ended of) is = refl
no_quiescence app (Stim x) is = absurd (true≢false (sym is))
no_quiescence app (Sent d bytes) is = refl
no_quiescence app (Got d bytes) is = refl
no_quiescence app (Lost d) is = refl

all_for : (app : ℕ) (acts : List Act) → Calls app acts → AllByRecursion (IsCallFor app) (map step_of acts)
all_for app [] all = tt
all_for app (act ∷ acts) all = (call_for app act (call_of app act all.0), all_for app acts all.1)

none_quiescent : (app : ℕ) (acts : List Act) → Calls app acts → NoneQuiescent (map step_of acts)
none_quiescent app [] all = tt
none_quiescent app (act ∷ acts) all = (no_quiescence app act all.0, none_quiescent app acts all.1)

pub own_calls : {Own : Type 0} {app : ℕ} {old new : Seen Own} → OwnSteps app old new → CallsFor app old new
own_calls {app = app} own = record { steps = map step_of own.acts; history = own.history; all = all_for app own.acts own.all }

pub own_none_quiescent : {Own : Type 0} {app : ℕ} {old new : Seen Own} → OwnSteps app old new → NoneQuiescentSince old new
own_none_quiescent {app = app} own = record { steps = map step_of own.acts; history = own.history; none = none_quiescent app own.acts own.all }

pub own_calm : {Own : Type 0} {app : ℕ} {old new : Seen Own} → OwnSteps app old new → Calmly app old new
own_calm own = record { none_quiescent = own_none_quiescent own; own = own_calls own }

-- an event that is given, or cannot be, is a call for it too
pub event_for : (app : ℕ) (given : Bool) (frame : List ℕ) → IsCallFor app (step_of (give_act given app frame))
event_for app true frame = refl
event_for app false frame = refl
