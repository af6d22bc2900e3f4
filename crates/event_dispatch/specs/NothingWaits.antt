-- What of a world that was opened waits at first: nothing. All of this is our own.
use Rattle.std.specs.Prelude.{◌≡◌, ℕ, false, List, [], Option}
use Rattle.std.specs.List.{AllByRecursion}
use Rattle.std.specs.Option.{is_some}
use Rattle.flow_table.specs.Switch.{SwitchState}
use Rattle.outside.specs.State.{Link}

abbrev pub EmptyOut : Option SwitchState → List (List ℕ) → Type 0
EmptyOut o waits = is_some o ≡ false → waits ≡ []

-- while the switch is out, nothing of it waits
abbrev pub IsEmptyOut : Link → Type 0
IsEmptyOut l = EmptyOut l.switch l.waits

abbrev pub AllEmptyOut : List Link → Type 0
AllEmptyOut ls = AllByRecursion IsEmptyOut ls
