use Rattle.std.proofs.Common.{ap, subst, ◌∙◌, arith}
use Rattle.app_frames.specs.Reading.{Gives}
use Rattle.app_frames.specs.laws.ReadingLaws.{none_from_Gives, found_from_Gives}
use Rattle.app_frames.specs.Frames.{host_reading, IsHostAtFront}
use Rattle.app_frames.specs.laws.HostLaws.{host_none, host_at_front, host_reading-host_bytes}
use Rattle.app_frames.proofs.host.decode_host.Goals as goal

pub returns-clause-none : goal.returns-clause-none
returns-clause-none c =
    let given = none_from_Gives c.front_frame.result (host_reading c.args.bytes.now) c.front_frame.ensures in
    let yet = host_none c.args.bytes.now in
    (λ e. yet.0 (given.0 e), λ is. given.1 (yet.1 is))

pub returns-clause-found : goal.returns-clause-found
returns-clause-found c =
    found_from_Gives c.front_frame.result (host_reading c.args.bytes.now) (λ found. IsHostAtFront found.0 found.1 c.args.bytes.now) c.front_frame.ensures (λ found e. host_at_front c.args.bytes.now found.0 found.1 (λ i. omega (arith, c.type_inv.bytes i)) e)

pub returns-clause-only : goal.returns-clause-only
returns-clause-only c = λ frame more is spelled_is.
    subst (λ read. Gives c.front_frame.result read) (ap host_reading spelled_is ∙ host_reading-host_bytes frame more is) c.front_frame.ensures
