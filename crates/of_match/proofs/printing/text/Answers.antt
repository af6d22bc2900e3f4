use Rattle.of_match.specs.Match.{fields_in}
use Rattle.of_match.proofs.Joining.{text-is}
use Rattle.of_match.proofs.printing.text.Goals as goal

pub returns : goal.returns
returns c =
    rw (c.in_ok-put_any.ensures, c.in_ok-put_transport.ensures, c.in_ok-put_networks.ensures, c.in_ok-put_frame.ensures, c.in_ok-put_link.ensures, c.new-out.ensures.bytes, c.fields-f.ensures.value)
    (text-is (fields_in c.args.m.now))
