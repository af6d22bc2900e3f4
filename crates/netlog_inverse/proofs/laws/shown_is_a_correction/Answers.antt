use Rattle.flow_table.specs.laws.CorrectedLaws.{key-shown_entry, actions-shown_entry, acted-shown_entry, serial-shown_entry}
use Rattle.netlog_inverse.proofs.laws.shown_is_a_correction.Goals as goal

pub returns : goal.returns
returns c rows lost = record {
  key = key-shown_entry rows lost;
  actions = actions-shown_entry rows lost;
  acted = λ e actions. acted-shown_entry rows lost e actions;
  serial = serial-shown_entry rows lost;
}
