use Rattle.std.proofs.Common.{◌≡◌, Result, Ok, Err, List, ℕ, ◌++◌, sym, subst}
use Rattle.std.specs.Prelude.{OnOk, OnErr}
use Rattle.of_stream.specs.Frames.{IsBroken}
use Rattle.of_stream.specs.laws.FrameLaws.{IsBroken-append}
use Rattle.of_stream.proofs.cutter.Cutter.feed.Goals as goal

stays : {T E : Type 0} (r : Result T E) (old bytes new : List ℕ) → OnOk r (new ≡ old ++ bytes) → OnErr r (new ≡ old) → IsBroken old → IsBroken new
stays (Ok x) old bytes new ok err broken = subst IsBroken (sym ok) (IsBroken-append old bytes broken)
stays (Err e) old bytes new ok err broken = subst IsBroken (sym err) broken

pub returns-clause-stays : goal.returns-clause-stays
returns-clause-stays c broken =
    stays c.extend_from_slice.result c.self.inside.buffer.items c.args.bytes.now c.extend_from_slice.new.self.items c.extend_from_slice.ensures.ok c.extend_from_slice.ensures.err (subst IsBroken (sym c.self.view_is) broken)
