-- Which packets of the controller may come back to it (OpenFlow 1.0.0, 5.3.6 Send Packet Message; the ports of 5.2.1 Port Structures).
use Rattle.std.specs.Prelude.{◌==◌, ◌||◌, Bool, false}
use Rattle.of_action.specs.declared.action.Action.{Action}
use Rattle.of_action.specs.declared.action.Action.TheVariants.{Output}

-- an output to the port CONTROLLER (0xfffd), or TABLE (0xfff9), whose entries may take it or not
abbrev pub comes_back : Action → Bool
comes_back (Output port most) = (port == 65533) || (port == 65529)
comes_back other = false
