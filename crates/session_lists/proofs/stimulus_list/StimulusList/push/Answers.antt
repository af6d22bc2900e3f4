use Rattle.std.proofs.Common.{◌++◌, [], ap, sym, ◌∙◌}
use Rattle.session_lists.specs.declared.kinds.StimulusKind.TheVariants.{Join, Leave}
use Rattle.session_lists.specs.Stimuli.{stimulus_in}
use Rattle.session_lists.specs.laws.StimulusLaws.{put_same, joins, leaves}
use Rattle.session_lists.proofs.stimulus_list.StimulusList.push.Goals as goal

pub returns-in-Join-clause-ok : goal.returns-in-Join-clause-ok
returns-in-Join-clause-ok c =
    put_same c.put.result c.args.self.now _ _ _
    (ap (λ head. stimulus_in Join (head ++ [])) c.head_of_number.ensures.bytes ∙ joins c.in-Join.dpid c.head_of_number.ensures.fits ∙ sym c.in-Join.is) c.put.ensures.ok

pub returns-in-Leave-clause-ok : goal.returns-in-Leave-clause-ok
returns-in-Leave-clause-ok c =
    put_same c.put-in-Leave.result c.args.self.now _ _ _
    (ap (λ head. stimulus_in Leave (head ++ [])) c.head_of_number-in-Leave.ensures.bytes ∙ leaves c.in-Leave.dpid c.head_of_number-in-Leave.ensures.fits ∙ sym c.in-Leave.is) c.put-in-Leave.ensures.ok
