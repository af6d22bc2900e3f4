-- Whether two lists of actions are one: what tells whether an entry that stands for an earlier one has other actions now. This is our own.
use Rattle.std.specs.Prelude.{◌==◌, Bool, true, false, ◌&&◌, List, nat_eq}
use Rattle.std.specs.Cmp.Lexicographic.{pointwise}
use Rattle.of_action.specs.declared.action.Action.{Action}
use Rattle.of_action.specs.declared.action.Action.TheVariants.{Output, SetVlanVid, SetVlanPcp, StripVlan, SetDlSrc, SetDlDst, SetNwSrc, SetNwDst, SetNwTos, SetTpSrc, SetTpDst, Enqueue, Vendor}

-- two actions are of one kind, and have the same values
abbrev pub same_action : Action → Action → Bool
same_action (Output port max_len) (Output other most) = port == other && max_len == most
same_action (SetVlanVid vid) (SetVlanVid other) = vid == other
same_action (SetVlanPcp pcp) (SetVlanPcp other) = pcp == other
same_action StripVlan StripVlan = true
same_action (SetDlSrc address) (SetDlSrc other) = pointwise nat_eq address other
same_action (SetDlDst address) (SetDlDst other) = pointwise nat_eq address other
same_action (SetNwSrc address) (SetNwSrc other) = address == other
same_action (SetNwDst address) (SetNwDst other) = address == other
same_action (SetNwTos tos) (SetNwTos other) = tos == other
same_action (SetTpSrc port) (SetTpSrc other) = port == other
same_action (SetTpDst port) (SetTpDst other) = port == other
same_action (Enqueue port queue) (Enqueue other more) = port == other && queue == more
same_action (Vendor body) (Vendor other) = pointwise nat_eq body other
same_action a b = false

-- the same actions in the same order
unfoldable pub same_actions : List Action → List Action → Bool
same_actions a b = pointwise same_action a b
