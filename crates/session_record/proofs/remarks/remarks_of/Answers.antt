use Rattle.session_record.proofs.remarks.remarks_of.Goals as goal

pub returns : goal.returns
returns g c = (c.in_ok-unsaid.unsaid, c.in_ok-text_of.ensures)
