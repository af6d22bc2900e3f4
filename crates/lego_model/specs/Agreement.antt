-- When the switches of a run and those of the reference controller agree: at every quiescent point, a switch for a switch. Serials, counters,
-- ages and flags may differ, since an entry that was removed and given back begins these anew. This is our own.
use Rattle.std.specs.Prelude.{◌≡◌, ◌+◌, ◌⊎◌, List, [], ◌∷◌, Option, Some, None}
use Rattle.flow_table.specs.declared.entry.Entry.{Entry}
use Rattle.flow_table.specs.Switch.{SwitchState}
use Rattle.outside.specs.State.{Mark}

-- ---- Tables

-- both entries stay for ever, or both end at the same moment by their hard timeouts (OpenFlow 1.0.0, 3.4 Matching and 5.3.3 Modify
-- State Messages)
abbrev pub EndTogether : Entry → Entry → Type 0
EndTogether e f = ((e.hard ≡ 0) × (f.hard ≡ 0)) ⊎ (e.installed + e.hard ≡ f.installed + f.hard)

pub record AgreeEntries (e f : Entry) : Type 0 where
  pub key : e.key ≡ f.key
  pub actions : e.actions ≡ f.actions
  pub cookie : e.cookie ≡ f.cookie
  pub idle : e.idle ≡ f.idle
  pub used : e.used ≡ f.used
  pub hard : EndTogether e f

-- entry for entry, in key order
abbrev pub AgreeTables : List Entry → List Entry → Type 0
AgreeTables [] [] = Unit {0}
AgreeTables (e ∷ es) (f ∷ fs) = AgreeEntries e f × AgreeTables es fs
AgreeTables es fs = ⊥

-- ---- Switches

pub record AgreeSwitches (s r : SwitchState) : Type 0 where
  pub table : AgreeTables s.table.entries r.table.entries
  pub ports : s.ports ≡ r.ports
  pub config : s.config ≡ r.config
  pub lookups : s.lookups ≡ r.lookups
  pub matched : s.matched ≡ r.matched

-- both are joined and agree, or neither is joined
abbrev pub AgreeAt : Option SwitchState → Option SwitchState → Type 0
AgreeAt None None = Unit {0}
AgreeAt (Some s) (Some r) = AgreeSwitches s r
AgreeAt s r = ⊥

abbrev pub AgreeAll : List (Option SwitchState) → List (Option SwitchState) → Type 0
AgreeAll [] [] = Unit {0}
AgreeAll (s ∷ ss) (r ∷ rs) = AgreeAt s r × AgreeAll ss rs
AgreeAll ss rs = ⊥

-- ---- Mark places, in the order of the run

pub record AgreeMark (q r : Mark) : Type 0 where
  pub event : q.event ≡ r.event
  pub switches : AgreeAll q.switches r.switches

abbrev pub AgreeMarks : List Mark → List Mark → Type 0
AgreeMarks [] [] = Unit {0}
AgreeMarks (q ∷ qs) (r ∷ rs) = AgreeMark q r × AgreeMarks qs rs
AgreeMarks qs rs = ⊥
