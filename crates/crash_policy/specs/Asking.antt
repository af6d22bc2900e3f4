-- What a policy says of one kind of event.
use Rattle.std.specs.Prelude.{ℕ, Bool, false, slice_get, unwrap_or}
use Rattle.app_frames.specs.declared.frame.EventKind.{EventKind}
use Rattle.app_frames.specs.declared.frame.EventKind.TheVariants.{Join, Leave, PacketIn, FlowRemoved, PortStatus, SwitchError}
use Rattle.crash_policy.specs.declared.policy_file.Policy.{Policy}
use Rattle.crash_policy.specs.declared.policy_file.Policy.TheVariants.{Absolute}
use Rattle.crash_policy.specs.Policies.{AppValue}

-- the place of a kind among the six
abbrev pub place_of : EventKind → ℕ
place_of Join = 0
place_of Leave = 1
place_of PacketIn = 2
place_of FlowRemoved = 3
place_of PortStatus = 4
place_of SwitchError = 5

-- whether an application is given events of a kind
unfoldable pub is_given : AppValue → EventKind → Bool
is_given app kind = unwrap_or (slice_get app.events (place_of kind)) false

-- what follows where it fails at one
unfoldable pub rule_at : AppValue → EventKind → Policy
rule_at app kind = unwrap_or (slice_get app.rules (place_of kind)) Absolute
