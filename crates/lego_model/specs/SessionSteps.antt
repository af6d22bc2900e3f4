-- The steps of a scripted turn. This text form is our own.
--   save, keep, undo                  a frame
--   m:DPID:HEX                        a Message frame, HEX of 8 to 65,535 bytes; DPID is any number of 64 bits
--   x:HEX                             bytes that need not be a frame
--   done, stop, done:HEX, stop:HEX    a Done frame, with a checkpoint of at most 1,048,576 bytes; nothing follows
--   closed, silent                    no more bytes; nothing follows
use Rattle.std.specs.Prelude.{ℕ, Bool, true, false, not, ◌&&◌, ◌||◌, List, [], ◌∷◌, Some, None, Result, Ok, Err, if◌then◌else◌, codes}
use Rattle.app_frames.specs.declared.frame.AppFrame.{AppFrame}
use Rattle.app_frames.specs.declared.frame.AppFrame.TheVariants as frame
use Rattle.app_frames.specs.declared.script.ScriptStep.{ScriptStep}
use Rattle.app_frames.specs.declared.script.ScriptStep.TheVariants.{Bytes, Closed, Silent}
use Rattle.app_frames.specs.Spelling.{app_bytes}
use Rattle.lego_model.specs.declared.session.SessionKind.{SessionKind}
use Rattle.lego_model.specs.declared.session.SessionKind.TheVariants.{Word}
use Rattle.lego_model.specs.Words.{is_word}
use Rattle.lego_model.specs.SessionWords.{◌>>=◌, a_number, last_number, some_bytes, before, behind}
use Rattle.of_types.specs.Membership.{is_among}

-- ---- The forms

-- the byte `:`
abbrev pub colon : ℕ
colon = 58

-- `NAME:` at the front
abbrev pub has_head : List ℕ → List ℕ → Bool
has_head name step = is_among colon step && is_word name (before colon step)

abbrev pub is_plain_end : List ℕ → Bool
is_plain_end step = is_word (codes "done") step || (is_word (codes "stop") step || (is_word (codes "closed") step || is_word (codes "silent") step))

-- nothing follows it
unfoldable pub is_end : List ℕ → Bool
is_end step = is_plain_end step || (has_head (codes "done") step || has_head (codes "stop") step)

abbrev pub is_mark : List ℕ → Bool
is_mark step = is_word (codes "save") step || (is_word (codes "keep") step || is_word (codes "undo") step)

-- `m:`, and a further colon
abbrev pub is_message : List ℕ → Bool
is_message step = has_head (codes "m") step && is_among colon (behind colon step)

unfoldable pub is_step : List ℕ → Bool
is_step step = is_end step || (is_mark step || (is_message step || has_head (codes "x") step))

-- each is a step, and none follows an end
abbrev pub are_steps : List (List ℕ) → Bool
are_steps [] = true
are_steps (step ∷ []) = is_step step
are_steps (step ∷ next ∷ more) = is_step step && (not (is_end step) && are_steps (next ∷ more))

-- ---- What they give

abbrev pub gives : AppFrame → ScriptStep
gives f = Bytes (app_bytes f)

unfoldable pub message_step : List ℕ → List ℕ → Result ScriptStep SessionKind
message_step dpid hex = do
  d ← a_number 0 last_number dpid
  bytes ← some_bytes 8 65535 hex
  Ok (gives (frame.Message d bytes))

unfoldable pub bytes_step : List ℕ → Result ScriptStep SessionKind
bytes_step hex = some_bytes 0 last_number hex >>= λ bytes. Ok (Bytes bytes)

unfoldable pub checkpoint_step : Bool → List ℕ → Result ScriptStep SessionKind
checkpoint_step stop hex = some_bytes 0 1048576 hex >>= λ bytes. Ok (gives (frame.Done stop (Some bytes)))

-- a step that is one word
unfoldable pub word_step : List ℕ → Result ScriptStep SessionKind
word_step step =
    if is_word (codes "save") step then Ok (gives frame.Save)
    else if is_word (codes "keep") step then Ok (gives frame.Keep)
    else if is_word (codes "undo") step then Ok (gives frame.Undo)
    else if is_word (codes "done") step then Ok (gives (frame.Done false None))
    else if is_word (codes "stop") step then Ok (gives (frame.Done true None))
    else if is_word (codes "closed") step then Ok Closed
    else if is_word (codes "silent") step then Ok Silent
    else Err Word

-- a step with a name, a colon and a rest
unfoldable pub headed_step : List ℕ → List ℕ → Result ScriptStep SessionKind
headed_step name rest =
    if is_word (codes "m") name then message_step (before colon rest) (behind colon rest)
    else if is_word (codes "x") name then bytes_step rest
    else if is_word (codes "done") name then checkpoint_step false rest
    else if is_word (codes "stop") name then checkpoint_step true rest
    else Err Word

unfoldable pub step_of : List ℕ → Result ScriptStep SessionKind
step_of step = if is_among colon step then headed_step (before colon step) (behind colon step) else word_step step

abbrev pub steps_of : List (List ℕ) → Result (List ScriptStep) SessionKind
steps_of [] = Ok []
steps_of (step ∷ steps) = do
  first ← step_of step
  others ← steps_of steps
  Ok (first ∷ others)
