-- What stands next on a stream.
use Rattle.std.specs.Prelude.{ℕ, ◌≤◌, List, length, take}
use Rattle.of_stream.specs.declared.cutter.Front.{Front}
use Rattle.of_stream.specs.declared.cutter.Front.TheVariants.{Partial, Broken, Whole}
use Rattle.of_stream.specs.Frames.{IsFrame, IsPartial, IsBroken}

abbrev pub IsFront : Front → List ℕ → Type 0
IsFront Partial held = IsPartial held
IsFront Broken held = IsBroken held
IsFront (Whole size) held = (size ≤ length held) × IsFrame (take size held)
