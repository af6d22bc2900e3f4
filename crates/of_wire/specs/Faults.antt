-- What a fault of an action is to the message that holds it.
use Rattle.of_action.specs.declared.fault.ActionFault.{ActionFault}
use Rattle.of_action.specs.declared.fault.ActionFault.TheVariants as of_actions
use Rattle.of_wire.specs.declared.fault.WireFault.{WireFault}
use Rattle.of_wire.specs.declared.fault.WireFault.TheVariants.{BadAction, NoMemory}

abbrev pub wire_fault : ActionFault → WireFault
wire_fault (of_actions.Bad place kind) = BadAction place kind
wire_fault of_actions.NoMemory = NoMemory
