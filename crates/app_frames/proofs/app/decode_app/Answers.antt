use Rattle.std.proofs.Common.{ap, subst, ◌∙◌, arith}
use Rattle.app_frames.specs.Reading.{Gives}
use Rattle.app_frames.specs.laws.ReadingLaws.{none_from_Gives, found_from_Gives}
use Rattle.app_frames.specs.Frames.{app_reading, IsAppAtFront}
use Rattle.app_frames.specs.laws.AppLaws.{app_none, app_at_front, app_reading-app_bytes}
use Rattle.app_frames.proofs.app.decode_app.Goals as goal

pub returns-clause-none : goal.returns-clause-none
returns-clause-none c =
    let given = none_from_Gives c.front_frame.result (app_reading c.args.bytes.now) c.front_frame.ensures in
    let yet = app_none c.args.bytes.now in
    (λ e. yet.0 (given.0 e), λ is. given.1 (yet.1 is))

pub returns-clause-found : goal.returns-clause-found
returns-clause-found c =
    found_from_Gives c.front_frame.result (app_reading c.args.bytes.now) (λ found. IsAppAtFront found.0 found.1 c.args.bytes.now) c.front_frame.ensures (λ found e. app_at_front c.args.bytes.now found.0 found.1 (λ i. omega (arith, c.type_inv.bytes i)) e)

pub returns-clause-only : goal.returns-clause-only
returns-clause-only c = λ frame more is spelled_is.
    subst (λ read. Gives c.front_frame.result read) (ap app_reading spelled_is ∙ app_reading-app_bytes frame more is) c.front_frame.ensures
