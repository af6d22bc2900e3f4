-- What follows about two tables of which one is undone by its log and the other, the model's, is put back as it was: they stay the
-- same but for serials, and logs that stood for the model's table stand for it again.
use Rattle.std.proofs.Common.{◌≡◌, ◌≢◌, ℕ, ◌<◌, ◌≤◌, List, ◌++◌, map, filter, Option, Some, None, refl, sym, ap, ◌∙◌, arith, inl, inr}
use Rattle.std.proofs.lemmas.Bool.{cases_eq, cases_Bool, eq-eqb, ne_eqb}
use Rattle.std.specs.Option.{option_map, is_some}
use Rattle.of_match.specs.declared.key.Key.{Key}
use Rattle.of_wire.specs.declared.bodies.FlowMod.{FlowMod}
use Rattle.flow_table.specs.declared.entry.Entry.{Entry}
use Rattle.flow_table.specs.Table.{TableState, entry_at}
use Rattle.flow_table.specs.laws.TableLaws.{IsTable-map, entry_at-map}
use Rattle.flow_table.specs.Change.{key_in, is_modify, deletes, adds, means}
use Rattle.flow_table.specs.Undone.{used_or, restored, undone}
use Rattle.undo_laws.specs.Serials.{SerialsBelow, IsSerialed}
use Rattle.undo_laws.specs.laws.SerialsLaws.{ComeFrom-map, IsSerialed-from, some_mapped}
use Rattle.undo_laws.specs.Log.{Inverse, Image, old_entry, old_actions, logged_addition, logged, undo, merge, image_of, given_back, seen}
use Rattle.undo_laws.specs.laws.LogLaws.{given_back-merge, given_back-seen, image_of-append}
use Rattle.undo_laws.specs.Stands.{used_at, restored_at, Standing, Stands}
use Rattle.undo_laws.specs.laws.StandingLaws.{IsBelow}
use Rattle.undo_laws.specs.laws.StandsLaws.{used_by_key, undo-restores}
use Rattle.undo_laws.specs.Reverting.{SameKeys}
use Rattle.undo_laws.specs.Same.{SameButSerials}
use Rattle.undo_laws.specs.laws.SameLaws.{adds-seen, filter-seen, image-seen, same-undo}

-- ---- Tables that are the same but for serials

addition-seen : (k : Key) (o : Option Entry) → logged_addition k (option_map seen o) ≡ logged_addition k o
addition-seen k None = refl
addition-seen k (Some e) = refl

logged-seen : (m : FlowMod) (es : List Entry) → logged m (map seen es) ≡ logged m es
unfolding logged
logged-seen m es =
    elim (cases_Bool (adds m es)) [
      | inl puts ↦ rw (adds-seen m es, puts) (ap (logged_addition (key_in m)) (entry_at-map seen (λ e. refl) es (key_in m)) ∙ addition-seen (key_in m) (entry_at (key_in m) es))
      | inr keeps ↦ elim (cases_Bool (is_modify m)) [
        | inl modifies ↦ rw (adds-seen m es, keeps, modifies) (ap (map old_actions) (filter-seen (means m) (λ e. refl) es) ∙ image-seen old_actions (λ e. refl) (filter (means m) es))
        | inr removes ↦ rw (adds-seen m es, keeps, removes) (ap (map old_entry) (filter-seen (deletes m) (λ e. refl) es) ∙ image-seen old_entry (λ e. refl) (filter (deletes m) es))
      ]
    ]

-- a change logs the same of both
pub same-logged : (m : FlowMod) (es fs : List Entry) → SameButSerials es fs → logged m es ≡ logged m fs
same-logged m es fs same = sym (logged-seen m es) ∙ ap (logged m) same ∙ logged-seen m fs

some_seen : (o : Option Entry) → is_some (option_map seen o) ≡ is_some o
some_seen None = refl
some_seen (Some e) = refl

keys-seen : (es : List Entry) (k : Key) → is_some (entry_at k (map seen es)) ≡ is_some (entry_at k es)
keys-seen es k = ap is_some (entry_at-map seen (λ e. refl) es k) ∙ some_seen (entry_at k es)

pub SameKeys-same : (es fs : List Entry) → SameButSerials es fs → SameKeys es fs
SameKeys-same es fs same k = sym (keys-seen es k) ∙ ap (λ xs. is_some (entry_at k xs)) same ∙ keys-seen fs k

-- undo of the one is the restored table of the other
pub undo-agrees : (now : ℕ) (earlier : TableState) (log : List Inverse) (t u : TableState) → Stands now earlier log t → SameButSerials u.entries t.entries → SameButSerials (undo now log u).entries (undone earlier t now).entries
undo-agrees now earlier log t u h same = same-undo now log u t same ∙ undo-restores now earlier log t h

-- ---- A table that is put back

-- an entry used as the one of now says
abbrev used_by : ℕ → Option Entry → Entry → Entry
used_by now present e = record e { used = used_at now e.serial present }

restored_used : (now : ℕ) (es : List Entry) (present o : Option Entry) → ((e : Entry) → o ≡ Some e → used_or now e.serial es ≡ used_at now e.serial present) → option_map (restored now es) o ≡ option_map (used_by now present) o
restored_used now es present None same = refl
restored_used now es present (Some e) same = ap (λ (u : ℕ). Some (record e { used = u })) (same e refl)

entry_at-undone : (now : ℕ) (earlier : TableState) (log : List Inverse) (t : TableState) (k : Key) → Stands now earlier log t → entry_at k (undone earlier t now).entries ≡ option_map (used_by now (entry_at k t.entries)) (entry_at k earlier.entries)
unfolding undone
entry_at-undone now earlier log t k h =
    entry_at-map (restored now t.entries) (λ e. refl) earlier.entries k
    ∙ restored_used now t.entries (entry_at k t.entries) (entry_at k earlier.entries) (λ e was. used_by_key now earlier log t k e h was)

unused : (now serial : ℕ) (o : Option Entry) → ((e : Entry) → o ≡ Some e → e.serial ≢ serial) → used_at now serial o ≡ now
unused now serial None other = refl
unused now serial (Some e) other = rw (ne_eqb e.serial serial (other e refl)) refl

abbrev IsOlder : ℕ → Option Entry → Option Entry → Type 0
IsOlder next earlier present = (e : Entry) → present ≡ Some e → e.serial < next → (f : Entry) × (earlier ≡ Some f) × (f.serial ≡ e.serial)

used_again : (now next serial : ℕ) (earlier present : Option Entry) → IsOlder next earlier present → serial < next → used_at now serial (option_map (used_by now present) earlier) ≡ used_at now serial present
used_again now next serial None present older lt =
    sym (unused now serial present (λ e is same. let (f, was, at) = older e is (omega arith) in absurd cc))
used_again now next serial (Some f) present older lt =
    elim (cases_eq f.serial serial) [
      | inl same ↦ rw (eq-eqb f.serial serial same) (ap (λ n. used_at now n present) same)
      | inr other ↦ rw (ne_eqb f.serial serial other) (sym (unused now serial present (λ e is same.
          let (g, was, at) = older e is (omega arith) in
          let one : f ≡ g = cc in
          other (ap (λ x. x.serial) one ∙ at ∙ same))))
    ]

restored-again : (now next : ℕ) (earlier inner present : Option Entry) (later : ℕ) → next ≤ later → IsBelow next earlier → IsOlder later inner present → option_map (restored_at now present) earlier ≡ option_map (restored_at now (option_map (used_by now present) inner)) earlier
restored-again now next None inner present later le below older = refl
restored-again now next (Some e) inner present later le below older =
    let lt = below e refl in
    ap (λ (u : ℕ). Some (seen (record e { used = u }))) (sym (used_again now later e.serial inner present older (omega arith)))

seen-used : (now : ℕ) (present inner : Option Entry) → option_map seen (option_map (used_by now present) inner) ≡ option_map (restored_at now present) inner
seen-used now present None = refl
seen-used now present (Some e) = refl

module _ (now next later : ℕ) (earlier inner present : Option Entry) (i j : Image) (le : next ≤ later) (below : IsBelow next earlier) where
  Standing-restored : Standing now next earlier i inner → Standing now later inner j present → Standing now next earlier (merge i j) present → Standing now next earlier i (option_map (used_by now present) inner)
  Standing-restored outer of_inner whole =
      let p : Option Entry = option_map (used_by now present) inner in
      record {
        effect =
            given_back-seen now i p (given_back now j present) (seen-used now present inner ∙ sym of_inner.effect)
            ∙ sym (ap (option_map seen) (given_back-merge now i j present)) ∙ whole.effect
            ∙ restored-again now next earlier inner present later le below of_inner.older;
        younger = λ gone e is.
            let (f, was, same) = some_mapped (used_by now present) (λ x. refl) inner e is in
            let past = outer.younger gone f was in
            omega arith;
        older = λ e is lt.
            let (f, was, same) = some_mapped (used_by now present) (λ x. refl) inner e is in
            let (g, had, at) = outer.older f was (omega arith) in
            (g, had, at ∙ same);
      }

below_later : (most least : ℕ) (es : List Entry) → most ≤ least → SerialsBelow most es → SerialsBelow least es
below_later most least es le below k e found = let lt = below k e found in omega arith

pub IsSerialed-undone : (now : ℕ) (earlier t : TableState) → earlier.next ≤ t.next → IsSerialed earlier → IsSerialed (undone earlier t now)
unfolding undone
IsSerialed-undone now earlier t le h =
    let g : Entry → Entry = restored now t.entries in
    let from = ComeFrom-map g (λ e. refl) (λ e. refl) earlier.entries in
    let back = IsSerialed-from earlier (map g earlier.entries) (IsTable-map g (λ e. refl) earlier.entries h.table) from h in
    record { table = back.table; below = below_later earlier.next t.next (map g earlier.entries) le back.below; differ = back.differ }

next-undone : (now : ℕ) (earlier t : TableState) → (undone earlier t now).next ≡ t.next
unfolding undone
next-undone now earlier t = refl

-- where a table is put back as at an inner mark, an earlier table's log up to that mark stands again
pub Stands-restored : (now : ℕ) (earlier : TableState) (log : List Inverse) (inner : TableState) (newer : List Inverse) (t : TableState) → Stands now earlier log inner → Stands now inner newer t → Stands now earlier (log ++ newer) t → Stands now earlier log (undone inner t now)
Stands-restored now earlier log inner newer t outer of_inner whole = record {
  was = outer.was;
  serialed = IsSerialed-undone now inner t of_inner.later of_inner.was;
  later = let a = whole.later in let b = next-undone now inner t in omega arith;
  keys = λ k. rw (entry_at-undone now inner newer t k of_inner)
      (Standing-restored now earlier.next inner.next (entry_at k earlier.entries) (entry_at k inner.entries) (entry_at k t.entries)
      (image_of k log) (image_of k newer) outer.later (outer.was.below k)
      (outer.keys k) (of_inner.keys k) (rw (image_of-append k log newer) at (whole.keys k)));
}
