-- What is done when a switch leaves: what the host kept of it goes, and its known ports stand in an event. All of this is our own.
use Rattle.std.specs.Prelude.{◌==◌, ℕ, not, List, [], ◌∷◌, filter, if◌then◌else◌}
use Rattle.std.specs.List.{flat_map}
use Rattle.of_types.specs.Layout.{spelled}
use Rattle.of_types.specs.declared.port_desc.PortDesc.{PortDesc}
use Rattle.of_wire.specs.Spelling.{port_fields}
use Rattle.app_frames.specs.declared.frame.Event.{Event}
use Rattle.app_frames.specs.declared.frame.EventKind.TheVariants.{Leave}
use Rattle.net_txn.specs.declared.ports.KnownPorts.{KnownPorts}
use Rattle.net_txn.specs.Net.{NetState}

-- the known ports of a switch; none where it is not joined
abbrev pub ports_at : ℕ → List KnownPorts → List PortDesc
ports_at d [] = []
ports_at d (k ∷ ks) = if k.dpid == d then k.ports else ports_at d ks

-- 48 bytes each (OpenFlow 1.0.0, 5.2.1 Port Structures)
unfoldable pub port_text : PortDesc → List ℕ
port_text port = spelled (port_fields port)

unfoldable pub ports_text : List PortDesc → List ℕ
ports_text ports = flat_map port_text ports

-- nothing of the switch stays
abbrev pub without : ℕ → NetState → NetState
without d net = record net {
  views = filter (λ v. not (v.dpid == d)) net.views;
  ports = filter (λ k. not (k.dpid == d)) net.ports;
  kept = filter (λ m. not (m.0 == d)) net.kept;
}

-- what was lost is told
abbrev pub none_left : NetState → NetState
none_left net = record net { left = [] }

-- the Leave event of a switch that was lost
abbrev pub left_event : KnownPorts → Event
left_event k = record { kind = Leave; dpid = k.dpid; body = ports_text k.ports }
