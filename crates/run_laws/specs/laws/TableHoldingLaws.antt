-- The tables that the course of a run tells are the views that the host keeps.
use Rattle.std.specs.Prelude.{◌==◌, if◌then◌else◌}
use Rattle.std.specs.Option.{option_map}
use Rattle.std.proofs.Common.{◌≡◌, ℕ, List, [], ◌∷◌, ◌++◌, Option, Result, Ok, Err, refl, sym, ap, ◌∙◌, subst, inl, inr}
use Rattle.std.proofs.lemmas.Bool.{cases_eq, eq-eqb, ne_eqb}
use Rattle.of_wire.specs.declared.message.Message.{Message}
use Rattle.of_wire.specs.declared.message.Message.TheVariants as messages
use Rattle.of_wire.specs.declared.message.Envelope.{Envelope}
use Rattle.of_wire.specs.declared.fault.WireFault.{WireFault}
use Rattle.of_wire.specs.Reading.{reading_of}
use Rattle.flow_table.specs.declared.view.ViewRow.{ViewRow}
use Rattle.flow_table.specs.View.{TableView}
use Rattle.app_frames.specs.declared.frame.Event.{Event}
use Rattle.net_txn.specs.Views.{rows_at, with_rows}
use Rattle.net_txn.specs.laws.ViewLaws.{rows_at-changed, rows_at-other}
use Rattle.lego_model.specs.ViewRows.{rows_without}
use Rattle.run_course.specs.Tables.{Tables, with_table}
use Rattle.run_course.specs.Messages.{tables_left, tables_read, events_read, all_events, tables_behind}

abbrev pub tables_of : List TableView → Tables
tables_of views = λ d. rows_at d views

-- ---- Rows of one switch that change

pub table_changed : (d e : ℕ) (change : List ViewRow → List ViewRow) (views : List TableView) → rows_at e (with_rows d change views) ≡ with_table d change (tables_of views) e
table_changed d e change views = elim (cases_eq e d) [
  | inl same ↦ rw (eq-eqb e d same) (subst (λ (n : ℕ). rows_at n (with_rows d change views) ≡ option_map change (rows_at n views)) (sym same) (rows_at-changed d change views))
  | inr other ↦ rw (ne_eqb e d other) (rows_at-other d e change views other)
]

-- ---- Tables that are the same make the same of messages.

same_changed : (d e : ℕ) (change : List ViewRow → List ViewRow) (t u : Tables) → t e ≡ u e → with_table d change t e ≡ with_table d change u e
same_changed d e change t u same = ap (λ (o : Option (List ViewRow)). if e == d then option_map change o else o) same

same_left : (d e : ℕ) (m : Message) (t u : Tables) → t e ≡ u e → tables_left d m t e ≡ tables_left d m u e
same_left d e (messages.FlowRemoved f) t u same = same_changed d e (rows_without (record { priority = f.priority; matching = f.matching } ∷ [])) t u same
same_left d e (messages.Hello payload) t u same = same
same_left d e (messages.EchoRequest payload) t u same = same
same_left d e (messages.EchoReply payload) t u same = same
same_left d e (messages.Vendor payload) t u same = same
same_left d e messages.FeaturesRequest t u same = same
same_left d e (messages.FeaturesReply features) t u same = same
same_left d e messages.GetConfigRequest t u same = same
same_left d e (messages.GetConfigReply config) t u same = same
same_left d e (messages.SetConfig config) t u same = same
same_left d e (messages.PacketIn packet) t u same = same
same_left d e (messages.PortStatus status) t u same = same
same_left d e (messages.PacketOut packet) t u same = same
same_left d e (messages.FlowMod change) t u same = same
same_left d e (messages.PortMod port) t u same = same
same_left d e (messages.StatsRequest stats) t u same = same
same_left d e (messages.StatsReply stats) t u same = same
same_left d e messages.BarrierRequest t u same = same
same_left d e messages.BarrierReply t u same = same
same_left d e (messages.QueueGetConfigRequest payload) t u same = same
same_left d e (messages.QueueGetConfigReply payload) t u same = same
same_left d e (messages.Error kind code payload) t u same = same

pub same_read : (d e : ℕ) (r : Result Envelope WireFault) (t u : Tables) → t e ≡ u e → tables_read d r t e ≡ tables_read d r u e
same_read d e (Ok x) t u same = same_left d e x.message t u same
same_read d e (Err fault) t u same = same

pub same_events : (ms : List (ℕ × List ℕ)) (t u : Tables) → ((e : ℕ) → t e ≡ u e) → all_events ms t ≡ all_events ms u
same_events [] t u same = refl
same_events (m ∷ more) t u same =
    let r = reading_of m.1 in
    ap (λ (o : Option (List ViewRow)). events_read m.0 o r ++ all_events more (tables_read m.0 r t)) (same m.0)
    ∙ ap (λ (events : List Event). events_read m.0 (u m.0) r ++ events) (same_events more (tables_read m.0 r t) (tables_read m.0 r u) (λ e. same_read m.0 e r t u (same e)))

pub same_behind : (ms : List (ℕ × List ℕ)) (t u : Tables) → ((e : ℕ) → t e ≡ u e) → (e : ℕ) → tables_behind ms t e ≡ tables_behind ms u e
same_behind [] t u same e = same e
same_behind (m ∷ more) t u same e =
    let r = reading_of m.1 in
    same_behind more (tables_read m.0 r t) (tables_read m.0 r u) (λ c. same_read m.0 c r t u (same c)) e
