-- The errors that a switch answers with (OpenFlow 1.0.0, 5.4.4 Error Message). Which of them answers which message is our own choice.
use Rattle.of_types.specs.declared.errors.OfError.{OfError}

-- ---- BAD_REQUEST

abbrev pub bad_type : OfError
bad_type = record { kind = 1; code = 1 }

abbrev pub bad_stat : OfError
bad_stat = record { kind = 1; code = 2 }

abbrev pub bad_vendor : OfError
bad_vendor = record { kind = 1; code = 3 }

abbrev pub request_eperm : OfError
request_eperm = record { kind = 1; code = 5 }

abbrev pub bad_len : OfError
bad_len = record { kind = 1; code = 6 }

abbrev pub buffer_unknown : OfError
buffer_unknown = record { kind = 1; code = 8 }

-- ---- BAD_ACTION

abbrev pub action_bad_type : OfError
action_bad_type = record { kind = 2; code = 0 }

abbrev pub action_bad_vendor : OfError
action_bad_vendor = record { kind = 2; code = 2 }

abbrev pub bad_out_port : OfError
bad_out_port = record { kind = 2; code = 4 }

-- ---- FLOW_MOD_FAILED

abbrev pub all_tables_full : OfError
all_tables_full = record { kind = 3; code = 0 }

abbrev pub overlap : OfError
overlap = record { kind = 3; code = 1 }

abbrev pub flow_eperm : OfError
flow_eperm = record { kind = 3; code = 2 }

abbrev pub bad_command : OfError
bad_command = record { kind = 3; code = 4 }

-- ---- PORT_MOD_FAILED

abbrev pub bad_port : OfError
bad_port = record { kind = 4; code = 0 }

abbrev pub bad_hw_addr : OfError
bad_hw_addr = record { kind = 4; code = 1 }
