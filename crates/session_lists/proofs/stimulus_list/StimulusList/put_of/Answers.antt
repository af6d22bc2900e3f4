use Rattle.std.proofs.Common.{◌++◌, [], sym, ap, ◌∙◌}
use Rattle.of_types.specs.Fields.{number_bytes}
use Rattle.of_types.specs.declared.journal.WorldStim.TheVariants.{Of}
use Rattle.session_lists.specs.declared.kinds.StimulusKind.TheVariants.{Frame, Advance, Port, Counts, Raw}
use Rattle.session_lists.specs.Stimuli.{stimulus_in}
use Rattle.session_lists.specs.laws.StimulusLaws.{put_same, is_frame, is_port, advances, is_raw, counts}
use Rattle.session_lists.proofs.stimulus_list.StimulusList.put_of.Goals as goal

pub returns-in-Frame-clause-ok : goal.returns-in-Frame-clause-ok
returns-in-Frame-clause-ok c =
    let head = c.head_of_port-head.ensures in
    put_same c.put.result c.args.self.now _ _ _
    (ap (λ front. stimulus_in Frame (front ++ c.as_slice.result.now)) head.bytes
    ∙ ap (λ bytes. stimulus_in Frame ((number_bytes 8 c.args.dpid ++ number_bytes 2 c.in-Frame.port) ++ bytes)) c.as_slice.ensures
    ∙ is_frame c.args.dpid c.in-Frame.port c.in-Frame.bytes head.fits.0 head.fits.1
    ∙ ap (Of c.args.dpid) (sym c.in-Frame.is)) c.put.ensures.ok

pub returns-in-Advance-clause-ok : goal.returns-in-Advance-clause-ok
returns-in-Advance-clause-ok c =
    let head = c.head_of_two.ensures in
    put_same c.put-in-Advance.result c.args.self.now _ _ _
    (ap (λ front. stimulus_in Advance (front ++ [])) head.bytes
    ∙ advances c.args.dpid c.in-Advance.moment head.fits.0 head.fits.1
    ∙ ap (Of c.args.dpid) (sym c.in-Advance.is)) c.put-in-Advance.ensures.ok

pub returns-in-Port-clause-ok : goal.returns-in-Port-clause-ok
returns-in-Port-clause-ok c =
    let head = c.head_of_port.ensures in
    put_same c.put-in-Port.result c.args.self.now _ _ _
    (ap (λ front. stimulus_in (Port c.in-Port.change) (front ++ [])) head.bytes
    ∙ is_port c.args.dpid c.in-Port.port c.in-Port.change head.fits.0 head.fits.1
    ∙ ap (Of c.args.dpid) (sym c.in-Port.is)) c.put-in-Port.ensures.ok

pub returns-in-Counts-clause-ok : goal.returns-in-Counts-clause-ok
returns-in-Counts-clause-ok c =
    let head = c.head_of_port-head-in-Counts.ensures in
    let tail = c.head_of_two-counts.ensures in
    put_same c.put-in-Counts.result c.args.self.now _ _ _
    (ap (λ front. stimulus_in Counts (front ++ c.head_of_two-counts.result)) head.bytes
    ∙ ap (λ back. stimulus_in Counts ((number_bytes 8 c.args.dpid ++ number_bytes 2 c.in-Counts.priority) ++ back)) tail.bytes
    ∙ counts c.args.dpid c.in-Counts.priority c.in-Counts.packets c.in-Counts.bytes head.fits.0 head.fits.1 tail.fits.0 tail.fits.1
    ∙ ap (Of c.args.dpid) (sym c.in-Counts.is)) c.put-in-Counts.ensures.ok

pub returns-in-Raw-clause-ok : goal.returns-in-Raw-clause-ok
returns-in-Raw-clause-ok c =
    let head = c.head_of_number-head.ensures in
    put_same c.put-in-Raw.result c.args.self.now _ _ _
    (ap (λ front. stimulus_in Raw (front ++ c.as_slice-in-Raw.result.now)) head.bytes
    ∙ ap (λ bytes. stimulus_in Raw (number_bytes 8 c.args.dpid ++ bytes)) c.as_slice-in-Raw.ensures
    ∙ is_raw c.args.dpid c.in-Raw.bytes head.fits
    ∙ ap (Of c.args.dpid) (sym c.in-Raw.is)) c.put-in-Raw.ensures.ok
