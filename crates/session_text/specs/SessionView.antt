-- A session of the code without where it lies in memory.
use Rattle.std.specs.Prelude.{ℕ, List, map, Vec}
use Rattle.std.specs.Global.{Global}
use Rattle.lego_model.specs.declared.session.Session.{Session}
use Rattle.lego_model.specs.SessionLines.{SessionValue, SoFar as Read}
use Rattle.lego_model.specs.SessionText.{Progress as Read_progress}
use Rattle.session_text.specs.declared.text_so_far.SoFar.{SoFar}
use Rattle.session_text.specs.declared.whole_text.Progress.{Progress}

-- a declared switch: its number, its room, its ports
abbrev pub view_declared : ℕ × ℕ × Vec ℕ Global → ℕ × ℕ × List ℕ
view_declared d = (d.0, d.1, d.2.items)

abbrev pub view_session : Session → SessionValue
view_session s = record {
  switches = map view_declared s.switches.items;
  starts = s.starts.items;
  replies = s.replies;
  faults = s.faults.items;
  stimuli = s.stimuli;
}

abbrev pub view_so_far : SoFar → Read
view_so_far s = record { session = view_session s.session; moment = s.moment }

abbrev pub view_progress : Progress → Read_progress
view_progress p = record { opened = p.opened; so_far = view_so_far p.so_far }
