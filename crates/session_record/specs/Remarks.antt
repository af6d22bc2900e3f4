-- The comments on a recording: a line for each kind of thing that no line of a session can say, or that is too much for a session, with
-- its count. This text form is our own.
use Rattle.std.specs.Prelude.{◌≡◌, ℕ, ◌==◌, List, [], ◌++◌, codes, if◌then◌else◌}
use Rattle.std.specs.Fmt.{decimal}
use Rattle.lego_model.specs.RunReport.{line_of}
use Rattle.session_record.specs.declared.remarks.Unsaid.{Unsaid}

-- the line of a kind, where there is any of it
unfoldable pub remark : List ℕ → ℕ → List ℕ
remark what count = if count == 0 then [] else line_of (codes "# " ++ what ++ codes ": " ++ decimal count)

-- a text, and behind it the lines of what switches sent
abbrev pub with_messages : List ℕ → Unsaid → List ℕ
with_messages text u =
    (text ++ remark (codes "FLOW_REMOVED of switches, which no line says") u.flow_removed)
    ++ remark (codes "PORT_STATUS of switches, which no line says") u.port_status

-- of the switches
abbrev pub with_switches : List ℕ → Unsaid → List ℕ
with_switches text u =
    ((text ++ remark (codes "switches, of which a session has at most 64") u.switches)
    ++ remark (codes "switches with the number 0, which no session has") u.unnumbered)
    ++ remark (codes "switches with more than 64 ports, which no session has") u.large

-- of what is too much
abbrev pub with_sizes : List ℕ → Unsaid → List ℕ
with_sizes text u =
    ((text ++ remark (codes "stimuli, of which a session has at most 1,000,000") u.stimuli)
    ++ remark (codes "lines above 4,194,304 bytes, which no session has") u.long_lines)
    ++ remark (codes "bytes, of which an input has at most 67,108,864") u.bytes

abbrev pub remarks_text : Unsaid → List ℕ
remarks_text u = with_sizes (with_switches (with_messages [] u) u) u

-- they are the comments for some counts
abbrev pub AreRemarks : List ℕ → Type 0
AreRemarks text = (unsaid : Unsaid) × (text ≡ remarks_text unsaid)
