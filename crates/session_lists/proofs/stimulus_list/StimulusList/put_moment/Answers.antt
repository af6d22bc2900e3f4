use Rattle.std.proofs.Common.{◌++◌, [], ap, ◌∙◌}
use Rattle.session_lists.specs.declared.kinds.StimulusKind.TheVariants.{At, LateAt}
use Rattle.session_lists.specs.Stimuli.{stimulus_in}
use Rattle.session_lists.specs.laws.StimulusLaws.{put_same, is_at, is_late}
use Rattle.session_lists.proofs.stimulus_list.StimulusList.put_moment.Goals as goal

pub returns-then-moment-le4294967295-clause-ok : goal.returns-then-moment-le4294967295-clause-ok
returns-then-moment-le4294967295-clause-ok c =
    put_same c.put.result c.args.self.now _ _ _
    (ap (λ head. stimulus_in At (head ++ [])) c.head_of_second.ensures.bytes ∙ is_at c.args.moment c.head_of_second.ensures.fits) c.put.ensures.ok

pub returns-else-moment-le4294967295-clause-ok : goal.returns-else-moment-le4294967295-clause-ok
returns-else-moment-le4294967295-clause-ok c =
    put_same c.put-else-moment-le4294967295.result c.args.self.now _ _ _
    (ap (λ head. stimulus_in LateAt (head ++ [])) c.head_of_number.ensures.bytes ∙ is_late c.args.moment c.head_of_number.ensures.fits) c.put-else-moment-le4294967295.ensures.ok
