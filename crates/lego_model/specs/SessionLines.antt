-- The lines of a session text, each as what it adds to the session so far, or its first fault: first `word` for the line as a
-- whole, then each word from left to right, last the order of moments. This text form is our own.
use Rattle.std.specs.Prelude.{◌==◌, ℕ, Bool, false, not, ◌||◌, List, [], ◌∷◌, ◌++◌, length, Option, Some, None, Result, Ok, Err, nat_le, nat_lt, if◌then◌else◌, codes}
use Rattle.std.specs.List.{list_any}
use Rattle.of_types.specs.declared.journal.PortChange.{PortChange}
use Rattle.of_types.specs.declared.journal.PortChange.TheVariants.{Up, Down, Add, Delete}
use Rattle.of_types.specs.declared.journal.Stimulus.TheVariants.{Frame, Port, Counts, Raw as RawBytes}
use Rattle.of_types.specs.declared.journal.WorldStim.{WorldStim}
use Rattle.of_types.specs.declared.journal.WorldStim.TheVariants.{Join, Leave, At, Of}
use Rattle.of_wire.specs.Reading.{reading_of}
use Rattle.app_frames.specs.declared.script.ScriptStep.{ScriptStep}
use Rattle.app_frames.specs.declared.script.StartScript.{StartScript}
use Rattle.app_frames.specs.declared.script.StartScript.TheVariants.{Ready, Refused, Closed, Silent, Garbled}
use Rattle.outside.specs.Conforming.{may_be_raw}
use Rattle.lego_model.specs.declared.session.SessionKind.{SessionKind}
use Rattle.lego_model.specs.declared.session.SessionKind.TheVariants.{Word, Range, Order, Switch, Raw}
use Rattle.lego_model.specs.Words.{is_word}
use Rattle.lego_model.specs.SessionWords.{◌>>=◌, unless, a_number, last_number, some_bytes, some_ports, an_app}
use Rattle.lego_model.specs.SessionSteps.{are_steps, steps_of}

-- ---- What has been read

-- a session, without where it lies in memory; an application is its place among the names
pub record SessionValue : Type 0 where
  pub switches : List (ℕ × ℕ × List ℕ)
  pub starts : List (ℕ × StartScript)
  pub replies : List (ℕ × List ScriptStep)
  pub faults : List (ℕ × ℕ)
  pub stimuli : List WorldStim

abbrev pub no_session : SessionValue
no_session = record { switches = []; starts = []; replies = []; faults = []; stimuli = [] }

-- the session so far, and the last moment that it named
pub record SoFar : Type 0 where
  pub session : SessionValue
  pub moment : ℕ

abbrev pub is_declared : SoFar → ℕ → Bool
is_declared s dpid = list_any (λ (d : ℕ × ℕ × List ℕ). d.0 == dpid) s.session.switches

-- the number of a switch that is declared above
unfoldable pub a_switch : SoFar → List ℕ → Result ℕ SessionKind
a_switch s word = a_number 1 last_number word >>= λ dpid. unless (not (is_declared s dpid)) Switch (Ok dpid)

-- ---- `switch DPID CAP PORTS`: at most 64 switches, each with a number of its own and room for 1 to 4,096 entries

unfoldable pub a_new_switch : SoFar → List ℕ → Result ℕ SessionKind
a_new_switch s word = a_number 1 last_number word >>= λ dpid. unless (is_declared s dpid) Switch (Ok dpid)

abbrev pub with_switch : SoFar → ℕ × ℕ × List ℕ → SoFar
with_switch s d = record s { session = record s.session { switches = s.session.switches ++ d ∷ [] } }

unfoldable pub switch_line : SoFar → List ℕ → List ℕ → List ℕ → Result SoFar SessionKind
switch_line s dpid capacity ports = unless (nat_le 64 (length s.session.switches)) Range (do
  d ← a_new_switch s dpid
  c ← a_number 1 4096 capacity
  p ← some_ports ports
  Ok (with_switch s (d, c, p)))

-- ---- `start APP WORD`, `reply APP STEP ..`

unfoldable pub start_word : List ℕ → Option StartScript
start_word word =
    if is_word (codes "ready") word then Some Ready
    else if is_word (codes "refused") word then Some Refused
    else if is_word (codes "closed") word then Some Closed
    else if is_word (codes "silent") word then Some Silent
    else if is_word (codes "garbled") word then Some Garbled
    else None

-- a word that was looked for, or the fault that there is none
abbrev pub if_known : {A B : Type 0} → Option A → (A → Result B SessionKind) → Result B SessionKind
if_known None next = Err Word
if_known (Some x) next = next x

abbrev pub with_start : SoFar → ℕ × StartScript → SoFar
with_start s start = record s { session = record s.session { starts = s.session.starts ++ start ∷ [] } }

unfoldable pub start_line : List (List ℕ) → SoFar → List ℕ → List ℕ → Result SoFar SessionKind
start_line names s app word = if_known (start_word word) (λ ending. an_app names app >>= λ i. Ok (with_start s (i, ending)))

abbrev pub with_reply : SoFar → ℕ × List ScriptStep → SoFar
with_reply s reply = record s { session = record s.session { replies = s.session.replies ++ reply ∷ [] } }

unfoldable pub reply_line : List (List ℕ) → SoFar → List ℕ → List (List ℕ) → Result SoFar SessionKind
reply_line names s app steps = unless (length steps == 0 || not (are_steps steps)) Word (do
  i ← an_app names app
  script ← steps_of steps
  Ok (with_reply s (i, script)))

-- ---- `fault link DPID N`

abbrev pub with_fault : SoFar → ℕ × ℕ → SoFar
with_fault s fault = record s { session = record s.session { faults = s.session.faults ++ fault ∷ [] } }

unfoldable pub fault_line : SoFar → List ℕ → List ℕ → List ℕ → Result SoFar SessionKind
fault_line s link dpid count = unless (not (is_word (codes "link") link)) Word (do
  d ← a_switch s dpid
  n ← a_number 1 last_number count
  Ok (with_fault s (d, n)))

-- ---- Stimuli: at most 1,000,000

abbrev pub most_stimuli : ℕ
most_stimuli = 1000000

abbrev pub with_stimulus : SoFar → WorldStim → SoFar
with_stimulus s stimulus = record s { session = record s.session { stimuli = s.session.stimuli ++ stimulus ∷ [] } }

-- one more stimulus, where there may be one more
abbrev pub one_more : SoFar → Result WorldStim SessionKind → Result SoFar SessionKind
one_more s stimulus =
    unless (nat_le most_stimuli (length s.session.stimuli)) Range (stimulus >>= λ happened. Ok (with_stimulus s happened))

unfoldable pub join_line : SoFar → List ℕ → Result SoFar SessionKind
join_line s dpid = one_more s (a_switch s dpid >>= λ d. Ok (Join d))

unfoldable pub leave_line : SoFar → List ℕ → Result SoFar SessionKind
leave_line s dpid = one_more s (a_switch s dpid >>= λ d. Ok (Leave d))

-- `at MOMENT`: not below the last one
unfoldable pub at_line : SoFar → List ℕ → Result SoFar SessionKind
at_line s moment = unless (nat_le most_stimuli (length s.session.stimuli)) Range (do
  now ← a_number 0 4294967295 moment
  unless (nat_lt now s.moment) Order (Ok (record (with_stimulus s (At now)) { moment = now })))

unfoldable pub frame_line : SoFar → List ℕ → List ℕ → List ℕ → Result SoFar SessionKind
frame_line s dpid port hex = one_more s (do
  d ← a_switch s dpid
  p ← a_number 0 65535 port
  bytes ← some_bytes 14 9216 hex
  Ok (Of d (Frame p bytes)))

unfoldable pub change_word : List ℕ → Option PortChange
change_word word =
    if is_word (codes "up") word then Some Up
    else if is_word (codes "down") word then Some Down
    else if is_word (codes "add") word then Some Add
    else if is_word (codes "delete") word then Some Delete
    else None

unfoldable pub port_line : SoFar → List ℕ → List ℕ → List ℕ → Result SoFar SessionKind
port_line s dpid port word = if_known (change_word word) (λ change. one_more s (do
  d ← a_switch s dpid
  p ← a_number 1 65280 port
  Ok (Of d (Port p change))))

unfoldable pub count_line : SoFar → List ℕ → List ℕ → List ℕ → List ℕ → Result SoFar SessionKind
count_line s dpid priority packets bytes = one_more s (do
  d ← a_switch s dpid
  p ← a_number 0 65535 priority
  more_packets ← a_number 0 last_number packets
  more_bytes ← a_number 0 last_number bytes
  Ok (Of d (Counts p more_packets more_bytes)))

-- bytes that are no message, or a message that a switch may send unasked: HELLO, ERROR, ECHO_REQUEST, VENDOR, PACKET_IN
unfoldable pub raw_line : SoFar → List ℕ → List ℕ → Result SoFar SessionKind
raw_line s dpid hex = one_more s (do
  d ← a_switch s dpid
  bytes ← some_bytes 0 65535 hex
  unless (not (may_be_raw (reading_of bytes))) Raw (Ok (Of d (RawBytes bytes))))

-- ---- A line by its words

-- lines of a first word and one more
abbrev pub line_of_two : SoFar → List ℕ → List ℕ → Result SoFar SessionKind
line_of_two s first second =
    if is_word (codes "join") first then join_line s second
    else if is_word (codes "leave") first then leave_line s second
    else if is_word (codes "at") first then at_line s second
    else Err Word

abbrev pub line_of_three : List (List ℕ) → SoFar → List ℕ → List ℕ → List ℕ → Result SoFar SessionKind
line_of_three names s first second third =
    if is_word (codes "start") first then start_line names s second third
    else if is_word (codes "raw") first then raw_line s second third
    else Err Word

abbrev pub line_of_four : SoFar → List ℕ → List ℕ → List ℕ → List ℕ → Result SoFar SessionKind
line_of_four s first second third fourth =
    if is_word (codes "switch") first then switch_line s second third fourth
    else if is_word (codes "fault") first then fault_line s second third fourth
    else if is_word (codes "frame") first then frame_line s second third fourth
    else if is_word (codes "port") first then port_line s second third fourth
    else Err Word

abbrev pub line_of_five : SoFar → List ℕ → List ℕ → List ℕ → List ℕ → List ℕ → Result SoFar SessionKind
line_of_five s first second third fourth fifth =
    if is_word (codes "count") first then count_line s second third fourth fifth else Err Word

-- lines with a fixed number of words
unfoldable pub fixed_line : List (List ℕ) → SoFar → List (List ℕ) → Result SoFar SessionKind
fixed_line names s (first ∷ second ∷ []) = line_of_two s first second
fixed_line names s (first ∷ second ∷ third ∷ []) = line_of_three names s first second third
fixed_line names s (first ∷ second ∷ third ∷ fourth ∷ []) = line_of_four s first second third fourth
fixed_line names s (first ∷ second ∷ third ∷ fourth ∷ fifth ∷ []) = line_of_five s first second third fourth fifth
fixed_line names s other = Err Word

abbrev pub is_reply : List (List ℕ) → Bool
is_reply [] = false
is_reply (first ∷ words) = is_word (codes "reply") first

abbrev pub reply_words : List (List ℕ) → SoFar → List (List ℕ) → Result SoFar SessionKind
reply_words names s [] = Err Word
reply_words names s (first ∷ []) = Err Word
reply_words names s (first ∷ app ∷ steps) = reply_line names s app steps

unfoldable pub line_of : List (List ℕ) → SoFar → List (List ℕ) → Result SoFar SessionKind
line_of names s words = if is_reply words then reply_words names s words else fixed_line names s words
