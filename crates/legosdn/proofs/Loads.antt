-- What is read of an input, and why it is not.
use Rattle.std.proofs.Common.{◌≡◌, ℕ, List, Option, Some, None, Result, Ok, Err, IfSome, IfErr, [], refl, sym, ap, subst, ◌∙◌, inl, inr}
use Rattle.std.specs.Result.{IsErrAnd}
use Rattle.lego_io.specs.Lines.{lines_of}
use Rattle.lego_io.specs.Source.{ended}
use Rattle.crash_policy.specs.Order.{policy_of}
use Rattle.outside.specs.Seen.{Seen, Continues}
use Rattle.sim_world.specs.Scripts.{Scripts}
use Rattle.sim_world.specs.World.{WorldData}
use Rattle.sim_world.specs.Building.{Begins}
use Rattle.lego_model.specs.SessionLines.{SessionValue}
use Rattle.lego_model.specs.SessionText.{session_text}
use Rattle.session_text.specs.declared.text_fault.SessionError.{SessionError}
use Rattle.session_text.specs.declared.text_fault.SessionError.TheVariants as text
use Rattle.session_text.specs.Loading.{given_by, LoadFails}
use Rattle.legosdn.specs.declared.stop.InputRefusal.{InputRefusal}
use Rattle.legosdn.specs.declared.stop.InputRefusal.TheVariants.{Session}
use Rattle.legosdn.specs.declared.stop.Stop.{Stop}
use Rattle.legosdn.specs.declared.stop.Stop.TheVariants.{Usage, Refused, ReadFault, WriteFault, Shut, NextFault, SwitchBroke, Diverged, EventsLeft, NoMemory}
use Rattle.lego_model.specs.Application.{names as app_names}
use Rattle.legosdn.specs.Input.{ProgramValue, Read, with_read, program_in, or_refused, session_lines, session_behind, session_of, Spelling}
use Rattle.legosdn.specs.Stops.{stop_of_session}
use Rattle.legosdn.specs.Headline.{IsNoSession, IsReadCause, IsRunCause, IsEarly, IsLate, Loaded, IsLoaded, LoadedAt, LoadedAs, RunsNoOther}

session_text-lines : (program : ProgramValue) (names : List (List ℕ)) (n : ℕ) (bytes : List ℕ) → names ≡ app_names program.apps → session_text names n bytes ≡ session_lines program.apps n (lines_of bytes)
unfolding session_text session_lines
session_text-lines program names n bytes named = rw named refl

-- The applications are those of the policy before the separator, and what is read of the bytes behind it is what the input spells.
pub record Behind (told : Option (List ℕ)) (program : ProgramValue) (input : List ℕ) (n : ℕ) (bytes : List ℕ) (names : List (List ℕ)) : Type 0 where
  pub whole : IfSome told (λ left. input ≡ left)
  pub spelled : session_of input ≡ or_refused program (session_lines program.apps n (lines_of bytes))
  pub named : names ≡ app_names program.apps

-- with what the input is cut into, and what is read of its policy
pub record CutInto (input policy text : List ℕ) (behind : Option (ℕ × List (List ℕ))) : Type 0 where
  pub spelled : session_of input ≡ session_behind policy behind
  pub policy_is : text ≡ policy

pub spelled_behind : (program : ProgramValue) (input policy text : List ℕ) (behind : Option (ℕ × List (List ℕ))) (n : ℕ) (lines : List (List ℕ)) → CutInto input policy text behind → behind ≡ Some (n, lines)
    → program_in (policy_of text) ≡ Ok program → session_of input ≡ or_refused program (session_lines program.apps n lines)
spelled_behind program input policy text behind n lines c found read =
    c.spelled ∙ ap (session_behind policy) found
    ∙ ap (λ (bytes : List ℕ). with_read (program_in (policy_of bytes)) (λ x. or_refused x (session_lines x.apps n lines))) (sym c.policy_is)
    ∙ ap (λ (r : Read ProgramValue). with_read r (λ x. or_refused x (session_lines x.apps n lines))) read

pub loads : (told left : Option (List ℕ)) (seen : Seen Scripts) (program : ProgramValue) (input : List ℕ) (n : ℕ) (bytes : List ℕ) (names : List (List ℕ)) → Behind told program input n bytes names → left ≡ ended told
    → (s : SessionValue) × (session_text names n bytes ≡ Ok s) × Begins (given_by s) seen → Loaded session_of program told left seen
loads told left seen program input n bytes names behind end read = record {
  input = input;
  session = read.0;
  whole = behind.whole;
  end = end;
  spelled = behind.spelled ∙ ap (or_refused program) (sym (session_text-lines program names n bytes behind.named) ∙ read.1);
  given = read.2.all;
}

-- ---- Why it is none

told_refused : (told : Option (List ℕ)) (input : List ℕ) (refusal : InputRefusal) → IfSome told (λ left. input ≡ left) → IsNoSession session_of refusal input → IfSome told (IsNoSession session_of refusal)
told_refused None input refusal whole e = tt
told_refused (Some left) input refusal whole e = subst (IsNoSession session_of refusal) whole e

-- the text behind is no session of it
session_cause : (told : Option (List ℕ)) (old new : ℕ) (program : ProgramValue) (input : List ℕ) (n : ℕ) (bytes : List ℕ) (names : List (List ℕ)) (w v : WorldData) (error : SessionError) → Behind told program input n bytes names
    → LoadFails error w v (session_text names n bytes) → IsReadCause (IsNoSession session_of) told old new (stop_of_session error)
session_cause told old new program input n bytes names w v text.NoMemory behind fails = tt
session_cause told old new program input n bytes names w v (text.Bad fault) behind fails =
    told_refused told input (Session fault) behind.whole (behind.spelled ∙ ap (or_refused program) (sym (session_text-lines program names n bytes behind.named) ∙ fails.0))

pub session_causes : {T : Type 0} (told : Option (List ℕ)) (old new : ℕ) (program : ProgramValue) (input : List ℕ) (n : ℕ) (bytes : List ℕ) (names : List (List ℕ)) (w v : WorldData) (error : SessionError) (result : Result T Stop)
    → IsErrAnd result (λ stop. stop ≡ stop_of_session error) → Behind told program input n bytes names → LoadFails error w v (session_text names n bytes) → IfErr result (IsReadCause (IsNoSession session_of) told old new)
session_causes told old new program input n bytes names w v error (Ok x) is behind fails = tt
session_causes told old new program input n bytes names w v error (Err stop) is behind fails = rw is (session_cause told old new program input n bytes names w v error behind fails)

-- ---- What the world was given, however a command ended

-- it may have been read before what was done
pub loaded_on : (spells : Spelling) {program : ProgramValue} {told left : Option (List ℕ)} (old new : Seen Scripts) → Continues (Unit {0}) old new → Loaded spells program told left old → Loaded spells program told left new
loaded_on spells old new on loaded = record { input = loaded.input; session = loaded.session; whole = loaded.whole; end = loaded.end; spelled = loaded.spelled; given = on.given ∙ loaded.given }

-- the world was run
loaded_at : (spells : Spelling) (told left : Option (List ℕ)) (seen old : Seen Scripts) (k l : ℕ) (stop : Stop) → IsRunCause (Unit {0}) k l old seen stop → IsLoaded spells told left seen → LoadedAt spells stop told left seen
loaded_at spells told left seen old k l Usage cause loaded = absurd cause
loaded_at spells told left seen old k l (Refused refusal) cause loaded = absurd cause
loaded_at spells told left seen old k l ReadFault cause loaded = absurd cause
loaded_at spells told left seen old k l WriteFault cause loaded = loaded
loaded_at spells told left seen old k l Shut cause loaded = loaded
loaded_at spells told left seen old k l NextFault cause loaded = loaded
loaded_at spells told left seen old k l (SwitchBroke d) cause loaded = loaded
loaded_at spells told left seen old k l (Diverged d) cause loaded = loaded
loaded_at spells told left seen old k l (EventsLeft n) cause loaded = loaded
loaded_at spells told left seen old k l NoMemory cause loaded = inr loaded

pub loaded_as : (spells : Spelling) {T : Type 0} (told left : Option (List ℕ)) (seen old : Seen Scripts) (k l : ℕ) (result : Result T Stop) → IfErr result (IsRunCause (Unit {0}) k l old seen) → IsLoaded spells told left seen → LoadedAs spells result told left seen
loaded_as spells told left seen old k l (Ok x) cause loaded = loaded
loaded_as spells told left seen old k l (Err stop) cause loaded = loaded_at spells told left seen old k l stop cause loaded

-- the input was not read
unread_at : (spells : Spelling) (told left : Option (List ℕ)) (seen : Seen Scripts) (k l : ℕ) (stop : Stop) → seen.history ≡ [] → IsReadCause (IsNoSession spells) told k l stop → LoadedAt spells stop told left seen
unread_at spells told left seen k l Usage none cause = absurd cause
unread_at spells told left seen k l (Refused refusal) none cause = none
unread_at spells told left seen k l ReadFault none cause = none
unread_at spells told left seen k l WriteFault none cause = absurd cause
unread_at spells told left seen k l Shut none cause = absurd cause
unread_at spells told left seen k l NextFault none cause = absurd cause
unread_at spells told left seen k l (SwitchBroke d) none cause = absurd cause
unread_at spells told left seen k l (Diverged d) none cause = absurd cause
unread_at spells told left seen k l (EventsLeft n) none cause = absurd cause
unread_at spells told left seen k l NoMemory none cause = inl none

pub unread_as : (spells : Spelling) {T : Type 0} (told left : Option (List ℕ)) (seen : Seen Scripts) (k l : ℕ) (stop : Stop) (result : Result T Stop) → IsErrAnd result (λ s. s ≡ stop) → seen.history ≡ [] → IsReadCause (IsNoSession spells) told k l stop → LoadedAs spells result told left seen
unread_as spells told left seen k l stop (Ok x) is none cause = absurd is
unread_as spells told left seen k l stop (Err s) is none cause = subst (λ (t : Stop). LoadedAt spells t told left seen) (sym is) (unread_at spells told left seen k l stop none cause)

-- ---- What follows

pub late_loaded : (spells : Spelling) (told left : Option (List ℕ)) (seen : Seen Scripts) (stop : Stop) → IsLate stop → LoadedAt spells stop told left seen → IsLoaded spells told left seen
late_loaded spells told left seen Usage late loaded = absurd late
late_loaded spells told left seen (Refused refusal) late loaded = absurd late
late_loaded spells told left seen ReadFault late loaded = absurd late
late_loaded spells told left seen WriteFault late loaded = loaded
late_loaded spells told left seen Shut late loaded = loaded
late_loaded spells told left seen NextFault late loaded = loaded
late_loaded spells told left seen (SwitchBroke d) late loaded = loaded
late_loaded spells told left seen (Diverged d) late loaded = loaded
late_loaded spells told left seen (EventsLeft n) late loaded = loaded
late_loaded spells told left seen NoMemory late loaded = absurd late

pub no_other : (spells : Spelling) (told left : Option (List ℕ)) (seen : Seen Scripts) (stop : Stop) → LoadedAt spells stop told left seen → RunsNoOther spells told left seen
no_other spells told left seen Usage loaded = inl loaded
no_other spells told left seen (Refused refusal) loaded = inl loaded
no_other spells told left seen ReadFault loaded = inl loaded
no_other spells told left seen WriteFault loaded = inr loaded
no_other spells told left seen Shut loaded = inr loaded
no_other spells told left seen NextFault loaded = inr loaded
no_other spells told left seen (SwitchBroke d) loaded = inr loaded
no_other spells told left seen (Diverged d) loaded = inr loaded
no_other spells told left seen (EventsLeft n) loaded = inr loaded
no_other spells told left seen NoMemory loaded = loaded

-- nothing was done at a stop that comes before anything runs
pub none_done_early : (spells : Spelling) (told left : Option (List ℕ)) (seen : Seen Scripts) (stop : Stop) → IsEarly stop → LoadedAt spells stop told left seen → seen.history ≡ []
none_done_early spells told left seen Usage early loaded = loaded
none_done_early spells told left seen (Refused refusal) early loaded = loaded
none_done_early spells told left seen ReadFault early loaded = loaded
none_done_early spells told left seen WriteFault early loaded = absurd early
none_done_early spells told left seen Shut early loaded = absurd early
none_done_early spells told left seen NextFault early loaded = absurd early
none_done_early spells told left seen (SwitchBroke d) early loaded = absurd early
none_done_early spells told left seen (Diverged d) early loaded = absurd early
none_done_early spells told left seen (EventsLeft n) early loaded = absurd early
none_done_early spells told left seen NoMemory early loaded = absurd early
