use Rattle.frame_edit.specs.laws.WrittenLaws.{edited-renews, with_address-keeps, with_control-keeps, without_tag-with_control}
use Rattle.frame_edit.proofs.laws.laws_of_edits.Goals as goal

pub returns-clause-datagram : goal.returns-clause-datagram
returns-clause-datagram c = edited-renews

pub returns-clause-address : goal.returns-clause-address
returns-clause-address c = with_address-keeps

pub returns-clause-tag : goal.returns-clause-tag
returns-clause-tag c = with_control-keeps

pub returns-clause-new_tag : goal.returns-clause-new_tag
returns-clause-new_tag c = without_tag-with_control
