-- What the host knows of a switch, and that it agrees with the switch. All of this is our own.
use Rattle.std.specs.Prelude.{◌≡◌, ℕ, List, Option}
use Rattle.std.specs.Option.{option_map}
use Rattle.flow_table.specs.View.{TableView}
use Rattle.lego_model.specs.Answers.{Rows, rows_of_table, rows_of_view}
use Rattle.outside.specs.State.{State, switch_of}
use Rattle.net_txn.specs.Views.{rows_at}

-- the keys and actions of its view, while it is joined
abbrev pub known_rows : ℕ → List TableView → Option Rows
known_rows d views = option_map rows_of_view (rows_at d views)

-- the view of a switch shows the keys and actions of its table, and there is one exactly while the switch is joined
abbrev pub Agrees : ℕ → List TableView → State → Type 0
Agrees d views s = known_rows d views ≡ option_map (λ x. rows_of_table x.table.entries) (switch_of d s)
