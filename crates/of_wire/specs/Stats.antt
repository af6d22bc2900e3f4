-- Bodies of statistics, as functions of their values (OpenFlow 1.0.0, 5.3.5 Read State Messages): the description of a switch
-- and the requests for flows. The rows stand in of_stats.
use Rattle.std.specs.Prelude.{ℕ, List, [], ◌∷◌}
use Rattle.of_types.specs.Layout.{Field, number, raw, pad}
use Rattle.of_match.specs.declared.flow_match.Match.{Match}
use Rattle.of_match.specs.Fields.{bytes_of}
use Rattle.of_match.specs.Match.{fields_in}

-- ---- DESC: texts, each padded with zero bytes. Its request has no body, as that of TABLE.

pub record DescStats : Type 0 where
  pub manufacturer : List ℕ
  pub hardware : List ℕ
  pub software : List ℕ
  pub serial : List ℕ
  pub datapath : List ℕ

abbrev pub desc_stats_fields : DescStats → List Field
desc_stats_fields desc = raw 256 desc.manufacturer ∷ raw 256 desc.hardware ∷ raw 256 desc.software ∷ raw 32 desc.serial ∷ raw 256 desc.datapath ∷ []

-- ---- FLOW and AGGREGATE: the request

pub record FlowQuery : Type 0 where
  pub matching : Match
  pub table_id : ℕ
  pub out_port : ℕ

abbrev pub flow_query_fields : FlowQuery → List Field
flow_query_fields query = raw 40 (bytes_of (fields_in query.matching)) ∷ number 1 query.table_id ∷ pad 1 ∷ number 2 query.out_port ∷ []
