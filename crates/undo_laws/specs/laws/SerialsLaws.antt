-- What follows about serials: they stay distinct and below the next one, whatever happens to a table; and what `used_or` finds.
use Rattle.std.proofs.Common.{◌≡◌, ◌≢◌, ◌==◌, ◌⊎◌, ℕ, ◌+◌, Bool, not, List, [], ◌∷◌, map, filter, Option, Some, None, refl, sym, ap, ◌∙◌, arith, inl, inr}
use Rattle.std.proofs.lemmas.Bool.{cases_eq, cases_Bool, cond-true, cond-false, eq-eqb, ne_eqb}
use Rattle.std.specs.Option.{option_map}
use Rattle.of_match.specs.declared.key.Key.{Key}
use Rattle.of_match.specs.declared.packet_key.PacketKey.{PacketKey}
use Rattle.of_match.specs.Key.{key_number}
use Rattle.of_wire.specs.declared.bodies.FlowMod.{FlowMod}
use Rattle.flow_table.specs.declared.entry.Entry.{Entry}
use Rattle.flow_table.specs.Table.{TableState, empty_table, place_of, entry_at, AscendsFrom, IsTable, with_entry}
use Rattle.flow_table.specs.laws.TableLaws.{if_passes, IsTable-filter, IsTable-map, IsTable-with_entry, entry_at-same, entry_at-other, entry_at-filter, entry_at-map, entry_at-with_entry-same, entry_at-with_entry-other}
use Rattle.flow_table.specs.Change.{is_modify, deletes, adds, modified, new_entry, refusal, changed, change, unless_refused}
use Rattle.flow_table.specs.laws.ChangeLaws.{place_of-modified, entries_after-adds, entries_after-modify, entries_after-delete}
use Rattle.flow_table.specs.Hit.{best, counted, hit, hit_by, with_more, with_counts}
use Rattle.flow_table.specs.laws.HitLaws.{Contains-best, IsTable-hit}
use Rattle.flow_table.specs.Expiry.{is_due, expire}
use Rattle.flow_table.specs.Undone.{used_or}
use Rattle.undo_laws.specs.laws.LookupLaws.{entry_at-same_place, entry_at-behind, entry_at-contains}
use Rattle.undo_laws.specs.Serials.{SerialsBelow, SerialsDiffer, IsSerialed}

-- ---- Tables whose entries come from an earlier one

-- each entry stood at its key before, with its serial
abbrev pub ComeFrom : List Entry → List Entry → Type 0
ComeFrom es fs = (k : Key) (f : Entry) → entry_at k fs ≡ Some f → (e : Entry) × (entry_at k es ≡ Some e) × (e.serial ≡ f.serial)

come_below : (es fs : List Entry) (most : ℕ) → ComeFrom es fs → SerialsBelow most es → SerialsBelow most fs
come_below es fs most from below k f found =
    let (e, was, same) = from k f found in
    let lt = below k e was in
    omega arith

come_differ : (es fs : List Entry) → ComeFrom es fs → SerialsDiffer es → SerialsDiffer fs
come_differ es fs from differ k l f g foundf foundg same =
    let (e, was, is) = from k f foundf in
    let (h, had, has) = from l g foundg in
    differ k l e h was had (is ∙ same ∙ sym has)

pub IsSerialed-from : (t : TableState) (fs : List Entry) → IsTable fs → ComeFrom t.entries fs → IsSerialed t → IsSerialed (record t { entries = fs })
IsSerialed-from t fs is from h = record { table = is; below = come_below t.entries fs t.next from h.below; differ = come_differ t.entries fs from h.differ }

pub some_mapped : (g : Entry → Entry) → ((e : Entry) → (g e).serial ≡ e.serial) → (o : Option Entry) (f : Entry) → option_map g o ≡ Some f → (e : Entry) × (o ≡ Some e) × (e.serial ≡ f.serial)
some_mapped g keeps None f is = absurd cc
some_mapped g keeps (Some e) f is = let same : g e ≡ f = cc in (e, refl, sym (keeps e) ∙ ap (λ x. x.serial) same)

pub ComeFrom-map : (g : Entry → Entry) → ((e : Entry) → place_of (g e) ≡ place_of e) → ((e : Entry) → (g e).serial ≡ e.serial) → (es : List Entry) → ComeFrom es (map g es)
ComeFrom-map g places serials es k f found = some_mapped g serials (entry_at k es) f (sym (entry_at-map g places es k) ∙ found)

some_passed : (test : Entry → Bool) (o : Option Entry) (f : Entry) → if_passes test o ≡ Some f → o ≡ Some f
some_passed test None f is = absurd cc
some_passed test (Some e) f is =
    elim (cases_Bool (test e)) [
      | inl passes ↦ sym (cond-true (test e) (Some e) None passes) ∙ is
      | inr fails ↦ let none : None ≡ Some f = sym (cond-false (test e) (Some e) None fails) ∙ is in absurd cc
    ]

pub entry_at-passed : (test : Entry → Bool) (es : List Entry) (k : Key) (f : Entry) → IsTable es → entry_at k (filter test es) ≡ Some f → entry_at k es ≡ Some f
entry_at-passed test es k f is found = some_passed test (entry_at k es) f (sym (entry_at-filter test es k is) ∙ found)

pub ComeFrom-filter : (test : Entry → Bool) (es : List Entry) → IsTable es → ComeFrom es (filter test es)
ComeFrom-filter test es is k f found = (f, entry_at-passed test es k f is found, refl)

-- ---- A new entry

-- what is found beside an entry that is put in
pub found_with : (es : List Entry) (e : Entry) (k : Key) (f : Entry) → entry_at k (with_entry e es) ≡ Some f → ((place_of e ≡ key_number k) × (e ≡ f)) ⊎ ((place_of e ≢ key_number k) × (entry_at k es ≡ Some f))
found_with es e k f found =
    elim (cases_eq (place_of e) (key_number k)) [
      | inl same ↦
          let here = entry_at-with_entry-same es e in
          let there = entry_at-same_place (with_entry e es) e.key k same in
          let is : e ≡ f = cc in
          inl (same, is)
      | inr other ↦ inr (other, sym (entry_at-with_entry-other es e k other) ∙ found)
    ]

pub IsSerialed-with_entry : (t : TableState) (e : Entry) → e.serial ≡ t.next → IsSerialed t → IsSerialed (record { entries = with_entry e t.entries; next = t.next + 1 })
IsSerialed-with_entry t e fresh h = record {
  table = IsTable-with_entry t.entries e h.table;
  below = λ k f found. elim (found_with t.entries e k f found) [
    | inl new ↦ let same = ap (λ x. x.serial) new.1 in omega arith
    | inr kept ↦ let lt = h.below k f kept.1 in omega arith
  ];
  differ = λ k l f g foundf foundg same. elim (found_with t.entries e k f foundf) [
    | inl newf ↦ elim (found_with t.entries e l g foundg) [
      | inl newg ↦ sym newf.0 ∙ newg.0
      | inr keptg ↦ let lt = h.below l g keptg.1 in let is = ap (λ x. x.serial) newf.1 in absurd (omega arith)
    ]
    | inr keptf ↦ elim (found_with t.entries e l g foundg) [
      | inl newg ↦ let lt = h.below k f keptf.1 in let is = ap (λ x. x.serial) newg.1 in absurd (omega arith)
      | inr keptg ↦ h.differ k l f g keptf.1 keptg.1 same
    ]
  ];
}

-- ---- What happens to a table

pub IsSerialed-empty : IsSerialed empty_table
IsSerialed-empty = record { table = tt; below = λ k e found. absurd cc; differ = λ k l e f found other same. absurd cc }

modified_serial : (m : FlowMod) (e : Entry) → (modified m e).serial ≡ e.serial
modified_serial m e = grind arith

pub IsSerialed-changed : (now : ℕ) (m : FlowMod) (t : TableState) → IsSerialed t → IsSerialed (changed now m t)
unfolding changed new_entry
IsSerialed-changed now m t h =
    elim (cases_Bool (adds m t.entries)) [
      | inl puts ↦ rw (entries_after-adds now t.next m t.entries puts, puts) (IsSerialed-with_entry t (new_entry now t.next m) refl h)
      | inr keeps ↦ elim (cases_Bool (is_modify m)) [
        | inl modifies ↦ rw (entries_after-modify now t.next m t.entries keeps modifies, keeps)
            (IsSerialed-from t (map (modified m) t.entries) (IsTable-map (modified m) (place_of-modified m) t.entries h.table)
            (ComeFrom-map (modified m) (place_of-modified m) (modified_serial m) t.entries) h)
        | inr removes ↦ rw (entries_after-delete now t.next m t.entries keeps removes, keeps)
            (IsSerialed-from t (filter (λ e. not (deletes m e)) t.entries) (IsTable-filter (λ e. not (deletes m e)) t.entries h.table)
            (ComeFrom-filter (λ e. not (deletes m e)) t.entries h.table) h)
      ]
    ]

pub IsSerialed-change : (cap now : ℕ) (m : FlowMod) (t : TableState) → IsSerialed t → IsSerialed (change cap now m t)
unfolding change
IsSerialed-change cap now m t h =
    elim (refusal cap m t.entries) as (λ o. IsSerialed (unless_refused o t (changed now m t))) [ None ↦ IsSerialed-changed now m t h | Some e ↦ h ]

pub IsSerialed-expire : (now : ℕ) (t : TableState) → IsSerialed t → IsSerialed (expire now t)
unfolding expire
IsSerialed-expire now t h =
    IsSerialed-from t (filter (λ e. not (is_due now e)) t.entries) (IsTable-filter (λ e. not (is_due now e)) t.entries h.table)
    (ComeFrom-filter (λ e. not (is_due now e)) t.entries h.table) h

come_counted : (es : List Entry) (e : Entry) (len now : ℕ) → entry_at e.key es ≡ Some e → ComeFrom es (with_entry (counted len now e) es)
come_counted es e len now stands k f found =
    elim (found_with es (counted len now e) k f found) [
      | inl here ↦ (e, sym (entry_at-same_place es e.key k here.0) ∙ stands, ap (λ x. x.serial) here.1)
      | inr other ↦ (f, other.1, refl)
    ]

come_hit : (es : List Entry) (o : Option Entry) (len now : ℕ) → ((e : Entry) → o ≡ Some e → entry_at e.key es ≡ Some e) → ComeFrom es (hit_by o len now es)
come_hit es None len now stands k f found = (f, found, refl)
come_hit es (Some e) len now stands k f found = come_counted es e len now (stands e refl) k f found

pub ComeFrom-hit : (k : PacketKey) (len now : ℕ) (es : List Entry) → IsTable es → ComeFrom es (hit k len now es)
unfolding hit
ComeFrom-hit k len now es is = come_hit es (best k es) len now (λ e found. entry_at-contains es e is (Contains-best k es e found))

pub IsSerialed-hit : (k : PacketKey) (len now : ℕ) (t : TableState) → IsSerialed t → IsSerialed (record t { entries = hit k len now t.entries })
IsSerialed-hit k len now t h = IsSerialed-from t (hit k len now t.entries) (IsTable-hit k len now t.entries h.table) (ComeFrom-hit k len now t.entries h.table) h

more_place : (priority packets bytes : ℕ) (e : Entry) → place_of (with_more priority packets bytes e) ≡ place_of e
more_place priority packets bytes e = elim (cases_Bool (e.key.priority == priority)) [ inl same ↦ rw same refl | inr other ↦ rw other refl ]

more_serial : (priority packets bytes : ℕ) (e : Entry) → (with_more priority packets bytes e).serial ≡ e.serial
more_serial priority packets bytes e = elim (cases_Bool (e.key.priority == priority)) [ inl same ↦ rw same refl | inr other ↦ rw other refl ]

pub IsSerialed-with_counts : (priority packets bytes : ℕ) (t : TableState) → IsSerialed t → IsSerialed (record t { entries = with_counts priority packets bytes t.entries })
unfolding with_counts
IsSerialed-with_counts priority packets bytes t h =
    IsSerialed-from t (map (with_more priority packets bytes) t.entries) (IsTable-map (with_more priority packets bytes) (more_place priority packets bytes) t.entries h.table)
    (ComeFrom-map (with_more priority packets bytes) (more_place priority packets bytes) (more_serial priority packets bytes) t.entries) h

-- ---- When an entry was used, by its serial

used_from : (now serial : ℕ) (es : List Entry) (least : ℕ) (k : Key) (e : Entry) → AscendsFrom least es → SerialsDiffer es → entry_at k es ≡ Some e → e.serial ≡ serial → used_or now serial es ≡ e.used
used_from now serial [] least k e h differ found is = absurd cc
used_from now serial (f ∷ fs) least k e h differ found is =
    elim (cases_eq f.serial serial) [
      | inl same ↦
          let one = differ f.key k f e (entry_at-same f.key f fs refl) found (same ∙ sym is) in
          let here = entry_at-same k f fs one in
          let both : f ≡ e = cc in
          rw (eq-eqb f.serial serial same) (ap (λ x. x.used) both)
      | inr other ↦
          let apart : place_of f ≢ key_number k = λ one. let here = entry_at-same k f fs one in let both : f ≡ e = cc in other (ap (λ x. x.serial) both ∙ is) in
          rw (ne_eqb f.serial serial other) (used_from now serial fs (place_of f + 1) k e h.1
          (λ a b x y foundx foundy. differ a b x y (entry_at-behind f fs least a x h foundx) (entry_at-behind f fs least b y h foundy))
          (sym (entry_at-other k f fs apart) ∙ found) is)
    ]

-- an entry that stands was used when it says
pub used_or-stands : (now : ℕ) (t : TableState) (k : Key) (e : Entry) → IsSerialed t → entry_at k t.entries ≡ Some e → used_or now e.serial t.entries ≡ e.used
used_or-stands now t k e h found = used_from now e.serial t.entries 0 k e h.table h.differ found refl

unused_from : (now serial : ℕ) (es : List Entry) (least : ℕ) → AscendsFrom least es → ((k : Key) (e : Entry) → entry_at k es ≡ Some e → e.serial ≢ serial) → used_or now serial es ≡ now
unused_from now serial [] least h none = refl
unused_from now serial (f ∷ fs) least h none =
    rw (ne_eqb f.serial serial (none f.key f (entry_at-same f.key f fs refl)))
    (unused_from now serial fs (place_of f + 1) h.1 (λ k e found. none k e (entry_at-behind f fs least k e h found)))

-- an entry that is gone is used now
pub used_or-gone : (now serial : ℕ) (es : List Entry) → IsTable es → ((k : Key) (e : Entry) → entry_at k es ≡ Some e → e.serial ≢ serial) → used_or now serial es ≡ now
used_or-gone now serial es is none = unused_from now serial es 0 is none
