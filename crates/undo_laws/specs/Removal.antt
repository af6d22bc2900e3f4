-- Undoing changes that put new keys into a table: for each key the FLOW_MOD that removes it again (OpenFlow 1.0.0, 4.6 Flow Table
-- Modification Messages: DELETE_STRICT).
use Rattle.std.specs.Prelude.{◌≡◌, ◌==◌, ℕ, Bool, true, false, not, List, [], ◌∷◌, filter, Option, Some, None, if◌then◌else◌}
use Rattle.std.specs.List.{list_any}
use Rattle.of_match.specs.declared.key.Key.{Key}
use Rattle.of_match.specs.Key.{key_number}
use Rattle.of_wire.specs.declared.bodies.FlowMod.{FlowMod}
use Rattle.flow_table.specs.declared.entry.Entry.{Entry}
use Rattle.flow_table.specs.declared.notice.Notice.{Notice}
use Rattle.flow_table.specs.Table.{TableState, has_key, entry_at}
use Rattle.flow_table.specs.Change.{key_in, asks_notice, notice, changed}

-- the entries but that of a key
abbrev pub without : Key → List Entry → List Entry
without k es = filter (λ e. not (has_key k e)) es

-- the entries but those of some keys
abbrev pub without_all : List Key → List Entry → List Entry
without_all [] es = es
without_all (k ∷ ks) es = without_all ks (without k es)

-- A FLOW_MOD that removes the entry of a key: DELETE_STRICT (4) of its match and priority, out_port NONE (0xffff). Its flags,
-- cookie, timeouts, buffer and actions are free.
pub record IsRemoval (k : Key) (m : FlowMod) : Type 0 where
  pub command : m.command ≡ 4
  pub out_port : m.out_port ≡ 0xffff
  pub key : key_in m ≡ k

-- each message removes the key at its place in the list
abbrev pub AreRemovals : List Key → List FlowMod → Type 0
AreRemovals [] [] = Unit {0}
AreRemovals (k ∷ ks) (m ∷ ms) = IsRemoval k m × AreRemovals ks ms
AreRemovals [] (m ∷ ms) = ⊥
AreRemovals (k ∷ ks) [] = ⊥

-- the notice of an entry that a DELETE removes, where it is there and asks for one
abbrev pub removal_notices : ℕ → Option Entry → List Notice
removal_notices now None = []
removal_notices now (Some e) = if asks_notice e.flags then notice 2 now e ∷ [] else []

-- the table after messages that are not refused, the first of them first
unfoldable pub after_all : ℕ → List FlowMod → TableState → TableState
after_all now [] t = t
after_all now (m ∷ ms) t = after_all now ms (changed now m t)

-- ---- A table to which keys were added

-- a key is one of some keys
abbrev pub is_key_among : List Key → Key → Bool
is_key_among ks k = list_any (λ l. key_number l == key_number k) ks

-- The earlier table has none of the keys, and at each other key both tables have the same entry.
pub record OnlyAdded (ks : List Key) (before after : List Entry) : Type 0 where
  pub added : (k : Key) → is_key_among ks k ≡ true → entry_at k before ≡ None
  pub others : (k : Key) → is_key_among ks k ≡ false → entry_at k after ≡ entry_at k before
