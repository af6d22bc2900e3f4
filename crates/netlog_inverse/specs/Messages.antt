-- The messages that put one key of a flow table back as it was (OpenFlow 1.0.0, 4.6 Flow Table Modification Messages and 5.3.3 Modify
-- State Messages), and what is left of a hard timeout. Which fields they have beside the key is our own choice.
use Rattle.std.specs.Prelude.{◌==◌, ℕ, ◌-◌, List, [], nat_lt, if◌then◌else◌}
use Rattle.of_match.specs.declared.key.Key.{Key}
use Rattle.of_wire.specs.declared.bodies.FlowMod.{FlowMod}
use Rattle.of_wire.specs.declared.message.Message.TheVariants as messages
use Rattle.of_wire.specs.Spelling.{message_bytes}
use Rattle.flow_table.specs.declared.view.ViewRow.{ViewRow}

-- A DELETE_STRICT (4) of a key, whatever the outputs of its entry (out_port NONE).
abbrev pub removal : Key → FlowMod
removal k = record {
  matching = k.matching;
  cookie = 0;
  command = 4;
  idle = 0;
  hard = 0;
  priority = k.priority;
  buffer_id = 0xffffffff;
  out_port = 0xffff;
  flags = 0;
  actions = [];
}

-- A FLOW_MOD of this command that has a row's key and values, with this hard timeout. Of the flags it has SEND_FLOW_REM (1) alone.
abbrev pub standing_again : ℕ → ℕ → ViewRow → FlowMod
standing_again command hard r = record {
  matching = r.key.matching;
  cookie = r.cookie;
  command = command;
  idle = r.idle;
  hard = hard;
  priority = r.key.priority;
  buffer_id = 0xffffffff;
  out_port = 0xffff;
  flags = 1;
  actions = r.actions;
}

-- ADD (0) with a hard timeout, and MODIFY_STRICT (2), in which a switch that has the entry reads the actions alone
abbrev pub addition : ℕ → ViewRow → FlowMod
addition hard r = standing_again 0 hard r

abbrev pub modification : ViewRow → FlowMod
modification r = standing_again 2 r.hard r

-- a FLOW_MOD as it is kept, with the transaction id 0
unfoldable pub spelled_mod : FlowMod → List ℕ
spelled_mod m = message_bytes 0 (messages.FlowMod m)

-- What is left of a hard timeout at an age. One second is left where the age is not below it, which no switch that keeps to its
-- timeouts reports.
abbrev pub hard_left : ℕ → ℕ → ℕ
hard_left hard age = if hard == 0 then 0 else if nat_lt age hard then hard - age else 1
