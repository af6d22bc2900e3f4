-- The messages of an application that the host leaves to the switch to judge: changes of its table, and requests of statistics. All of this is
-- our own.
use Rattle.std.specs.Prelude.{◌≡◌, ◌⊎◌, ℕ, List, None, Ok}
use Rattle.of_wire.specs.declared.bodies.FlowMod.{FlowMod as Change}
use Rattle.of_wire.specs.declared.bodies.Stats.{Stats as Query}
use Rattle.of_wire.specs.declared.message.Message.TheVariants.{FlowMod, StatsRequest}
use Rattle.flow_table.specs.Refusals.{stats_refusal}
use Rattle.of_wire.specs.Reading.{reading_of}
use Rattle.of_wire.specs.Grammar.{enveloped}

-- what was read of bytes that are left to the switch
pub record ReadAsChange (bytes : List ℕ) : Type 0 where
  pub xid : ℕ
  pub change : Change
  pub read : reading_of bytes ≡ Ok (enveloped xid (FlowMod change))

-- or a request that every switch takes
pub record ReadAsQuery (bytes : List ℕ) : Type 0 where
  pub xid : ℕ
  pub query : Query
  pub read : reading_of bytes ≡ Ok (enveloped xid (StatsRequest query))
  pub passed : stats_refusal query ≡ None

abbrev pub ReadAsAsked : List ℕ → Type 0
ReadAsAsked bytes = ReadAsChange bytes ⊎ ReadAsQuery bytes
