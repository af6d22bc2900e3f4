-- What follows about logs that stand: nothing logged, one change logged, undo of a newer part, and undo of the whole.
use Rattle.std.proofs.Common.{◌≡◌, ◌≢◌, ℕ, ◌+◌, Bool, true, false, not, if◌then◌else◌, List, [], ◌∷◌, ◌++◌, map, filter, Option, Some, None, refl, sym, ap, ◌∙◌, arith, inl, inr}
use Rattle.std.proofs.lemmas.Bool.{cases_eq, cases_Bool, cond-true, cond-false, eq-eqb, ne_eqb}
use Rattle.std.proofs.lemmas.List.{append-nil, append_assoc}
use Rattle.std.specs.Option.{option_map}
use Rattle.of_match.specs.declared.key.Key.{Key}
use Rattle.of_match.specs.Key.{key_number}
use Rattle.of_types.specs.declared.errors.OfError.{OfError}
use Rattle.of_wire.specs.declared.bodies.FlowMod.{FlowMod}
use Rattle.flow_table.specs.declared.entry.Entry.{Entry}
use Rattle.flow_table.specs.Table.{TableState, place_of, has_key, entry_at, AscendsFrom, IsTable, with_entry}
use Rattle.flow_table.specs.laws.TableLaws.{if_passes, IsTable-map, entry_at-same, entry_at-other, entry_at-below, entry_at-map, entry_at-filter, entry_at-with_entry-same, entry_at-with_entry-other, filter-skips, filter-takes}
use Rattle.flow_table.specs.Change.{key_in, is_modify, describes, deletes, adds, modified, new_entry, refusal, changed, change, unless_refused}
use Rattle.flow_table.specs.laws.ChangeLaws.{place_of-modified, entries_after-adds, entries_after-modify, entries_after-delete, next-changed-le}
use Rattle.flow_table.specs.Undone.{used_or, restored, undone}
use Rattle.undo_laws.specs.laws.LookupLaws.{cases_Option, entry_at-same_place, entry_at-key_number, table_from_lookups}
use Rattle.undo_laws.specs.Serials.{IsSerialed}
use Rattle.undo_laws.specs.laws.SerialsLaws.{IsSerialed-changed, used_or-stands, used_or-gone}
use Rattle.undo_laws.specs.Log.{Inverse, Image, Untouched, Absent, Gone, Acted, logged_addition, old_entry, old_actions, logged, logged_by, undo_one, undo, image_at, merge, image_of, seen}
use Rattle.undo_laws.specs.laws.LogLaws.{merge-untouched, image_of-one, image_of-append, Undoes-one, undo-image, IsSerialed-undo_one, IsSerialed-undo, next-undo_one}
use Rattle.undo_laws.specs.Stands.{used_at, restored_at, Stands}
use Rattle.undo_laws.specs.laws.StandingLaws.{Changes, stays, comes, gives_way, goes, acts, Standing-changes, Standing-undoes}

-- ---- Nothing logged

used_at-itself : (now : ℕ) (o : Option Entry) → option_map seen o ≡ option_map (restored_at now o) o
used_at-itself now None = refl
used_at-itself now (Some e) = rw (eq-eqb e.serial e.serial refl) refl

pub Stands-nothing : (now : ℕ) (t : TableState) → IsSerialed t → Stands now t [] t
unfolding image_of
Stands-nothing now t h = record {
  was = h;
  serialed = h;
  later = omega arith;
  keys = λ k. record {
    effect = used_at-itself now (entry_at k t.entries);
    younger = λ gone. absurd cc;
    older = λ e found lt. (e, found, refl);
  };
}

-- ---- What a change logs about a key

abbrev addition_image : Option Entry → Image
addition_image None = Absent
addition_image (Some e) = Gone (seen e)

addition-same : (k l : Key) (o : Option Entry) → ((e : Entry) → o ≡ Some e → place_of e ≡ key_number l) → key_number l ≡ key_number k → image_of k (logged_addition l o) ≡ addition_image o
unfolding image_of image_at
addition-same k l None at same = rw (eq-eqb (key_number l) (key_number k) same) refl
addition-same k l (Some e) at same = rw (eq-eqb (place_of e) (key_number k) (at e refl ∙ same)) refl

addition-other : (k l : Key) (o : Option Entry) → ((e : Entry) → o ≡ Some e → place_of e ≡ key_number l) → key_number l ≢ key_number k → image_of k (logged_addition l o) ≡ Untouched
unfolding image_of image_at
addition-other k l None at other = rw (ne_eqb (key_number l) (key_number k) other) refl
addition-other k l (Some e) at other = rw (ne_eqb (place_of e) (key_number k) (λ same. other (sym (at e refl) ∙ same))) refl

-- the image of an entry, or none
abbrev image_if : (Entry → Image) → Option Entry → Image
image_if h None = Untouched
image_if h (Some e) = h e

-- each entry that passes a test is logged by itself
each_from : (k : Key) (g : Entry → Inverse) (h : Entry → Image) → ((e : Entry) → image_at k (g e) ≡ (if has_key k e then h e else Untouched)) → (test : Entry → Bool) (es : List Entry) (least : ℕ) → AscendsFrom least es → image_of k (map g (filter test es)) ≡ image_if h (if_passes test (entry_at k es))
unfolding image_of
each_from k g h is test [] least up = refl
each_from k g h is test (f ∷ fs) least up =
    let rest : image_of k (map g (filter test fs)) ≡ image_if h (if_passes test (entry_at k fs)) = each_from k g h is test fs (place_of f + 1) up.1 in
    elim (cases_eq (place_of f) (key_number k)) [
      | inl same ↦
          let none : entry_at k fs ≡ None = entry_at-below fs k (place_of f + 1) up.1 (omega arith) in
          let untouched : image_of k (map g (filter test fs)) ≡ Untouched = rest ∙ ap (λ o. image_if h (if_passes test o)) none in
          let here : image_at k (g f) ≡ h f = is f ∙ cond-true (has_key k f) (h f) Untouched (eq-eqb (place_of f) (key_number k) same) in
          rw (entry_at-same k f fs same) (elim (cases_Bool (test f)) [
            | inl passes ↦ rw (filter-takes test f fs passes, here, untouched, passes) (merge-untouched (h f))
            | inr fails ↦ rw (filter-skips test f fs fails, untouched, fails) refl
          ])
      | inr other ↦
          let here : image_at k (g f) ≡ Untouched = is f ∙ cond-false (has_key k f) (h f) Untouched (ne_eqb (place_of f) (key_number k) other) in
          rw (entry_at-other k f fs other) (elim (cases_Bool (test f)) [
            | inl passes ↦ rw (filter-takes test f fs passes, here) rest
            | inr fails ↦ rw (filter-skips test f fs fails) rest
          ])
    ]

image-old_entry : (k : Key) (e : Entry) → image_at k (old_entry e) ≡ (if has_key k e then Gone (seen e) else Untouched)
unfolding image_at
image-old_entry k e = refl

image-old_actions : (k : Key) (e : Entry) → image_at k (old_actions e) ≡ (if has_key k e then Acted e.actions else Untouched)
unfolding image_at
image-old_actions k e = refl

-- ---- What a change does at a key

changes-addition : (now : ℕ) (k : Key) (m : FlowMod) (t : TableState) → adds m t.entries ≡ true → Changes t.next (image_of k (logged m t.entries)) (entry_at k t.entries) (entry_at k (changed now m t).entries)
unfolding logged changed new_entry
changes-addition now k m t puts =
    let l : Key = key_in m in
    let o : Option Entry = entry_at l t.entries in
    let n : Entry = new_entry now t.next m in
    let at = entry_at-key_number t.entries l in
    rw (entries_after-adds now t.next m t.entries puts, puts) (elim (cases_eq (key_number l) (key_number k)) [
      | inl same ↦
          let stands : entry_at k (with_entry n t.entries) ≡ Some n = sym (entry_at-same_place (with_entry n t.entries) l k same) ∙ entry_at-with_entry-same t.entries n in
          let stood : entry_at k t.entries ≡ o = sym (entry_at-same_place t.entries l k same) in
          rw (addition-same k l o at same) (elim (cases_Option o) [
            | inl none ↦ rw none (comes n (entry_at k t.entries) (entry_at k (with_entry n t.entries)) (stood ∙ none) stands refl)
            | inr (e, some) ↦ rw some (gives_way e n (entry_at k t.entries) (entry_at k (with_entry n t.entries)) (stood ∙ some) stands refl)
          ])
      | inr other ↦ rw (addition-other k l o at other) (stays (entry_at k t.entries) (entry_at k (with_entry n t.entries)) (entry_at-with_entry-other t.entries n k other))
    ])

modify_at : (m : FlowMod) (serial : ℕ) (o p : Option Entry) → p ≡ option_map (modified m) o → Changes serial (image_if (λ e. Acted e.actions) (if_passes (λ e. describes m e.key) o)) o p
modify_at m serial None p is = stays None p is
modify_at m serial (Some e) p is =
    elim (cases_Bool (describes m e.key)) [
      | inl meets ↦ rw meets (acts e m.actions (Some e) p refl (rw meets at is))
      | inr not_met ↦ rw not_met (stays (Some e) p (rw not_met at is))
    ]

changes-modify : (now : ℕ) (k : Key) (m : FlowMod) (t : TableState) → IsTable t.entries → adds m t.entries ≡ false → is_modify m ≡ true → Changes t.next (image_of k (logged m t.entries)) (entry_at k t.entries) (entry_at k (changed now m t).entries)
unfolding logged changed
changes-modify now k m t up keeps modifies =
    let es : List Entry = t.entries in
    let image = each_from k old_actions (λ e. Acted e.actions) (image-old_actions k) (λ e. describes m e.key) es 0 up in
    rw (entries_after-modify now t.next m es keeps modifies, keeps, modifies, image)
    (modify_at m t.next (entry_at k es) (entry_at k (map (modified m) es)) (entry_at-map (modified m) (place_of-modified m) es k))

delete_at : (m : FlowMod) (serial : ℕ) (o p : Option Entry) → p ≡ if_passes (λ e. not (deletes m e)) o → Changes serial (image_if (λ e. Gone (seen e)) (if_passes (deletes m) o)) o p
delete_at m serial None p is = stays None p is
delete_at m serial (Some e) p is =
    elim (cases_Bool (deletes m e)) [
      | inl meets ↦ rw meets (goes e (Some e) p refl (rw meets at is))
      | inr not_met ↦ rw not_met (stays (Some e) p (rw not_met at is))
    ]

changes-delete : (now : ℕ) (k : Key) (m : FlowMod) (t : TableState) → IsTable t.entries → adds m t.entries ≡ false → is_modify m ≡ false → Changes t.next (image_of k (logged m t.entries)) (entry_at k t.entries) (entry_at k (changed now m t).entries)
unfolding logged changed
changes-delete now k m t up keeps removes =
    let es : List Entry = t.entries in
    let image = each_from k old_entry (λ e. Gone (seen e)) (image-old_entry k) (deletes m) es 0 up in
    rw (entries_after-delete now t.next m es keeps removes, keeps, removes, image)
    (delete_at m t.next (entry_at k es) (entry_at k (filter (λ e. not (deletes m e)) es)) (entry_at-filter (λ e. not (deletes m e)) es k up))

-- whatever the command
pub Changes-changed : (now : ℕ) (k : Key) (m : FlowMod) (t : TableState) → IsTable t.entries → Changes t.next (image_of k (logged m t.entries)) (entry_at k t.entries) (entry_at k (changed now m t).entries)
Changes-changed now k m t up =
    elim (cases_Bool (adds m t.entries)) [
      | inl puts ↦ changes-addition now k m t puts
      | inr keeps ↦ elim (cases_Bool (is_modify m)) [
        | inl modifies ↦ changes-modify now k m t up keeps modifies
        | inr removes ↦ changes-delete now k m t up keeps removes
      ]
    ]

-- ---- One change logged

pub Stands-changed : (now : ℕ) (earlier : TableState) (log : List Inverse) (m : FlowMod) (t : TableState) → Stands now earlier log t → Stands now earlier (log ++ logged m t.entries) (changed now m t)
Stands-changed now earlier log m t h = record {
  was = h.was;
  serialed = IsSerialed-changed now m t h.serialed;
  later = let more = next-changed-le now m t in let le = h.later in omega arith;
  keys = λ k. rw (image_of-append k log (logged m t.entries))
      (Standing-changes now earlier.next t.next (entry_at k earlier.entries) (image_of k log) h.later (h.was.below k)
      (image_of k (logged m t.entries)) (entry_at k t.entries) (entry_at k (changed now m t).entries)
      (Changes-changed now k m t h.serialed.table) (h.keys k));
}

pub Stands-change : (cap now : ℕ) (earlier : TableState) (log : List Inverse) (m : FlowMod) (t : TableState) → Stands now earlier log t → Stands now earlier (log ++ logged_by cap m t.entries) (change cap now m t)
unfolding change logged_by
Stands-change cap now earlier log m t h =
    elim (refusal cap m t.entries) as (λ o. Stands now earlier (log ++ unless_refused o [] (logged m t.entries)) (unless_refused o t (changed now m t))) [
      | None ↦ Stands-changed now earlier log m t h
      | Some e ↦ rw (append-nil log) h
    ]

pub refused-stays : (cap now : ℕ) (m : FlowMod) (t : TableState) (e : OfError) → refusal cap m t.entries ≡ Some e → (change cap now m t ≡ t) × (logged_by cap m t.entries ≡ [])
unfolding change logged_by
refused-stays cap now m t e refused = (rw refused refl, rw refused refl)

-- what a log says of each key is all that counts, as where one inverse for each key is kept
pub Stands-images : (now : ℕ) (earlier : TableState) (log other : List Inverse) (t : TableState) → ((k : Key) → image_of k other ≡ image_of k log) → Stands now earlier log t → Stands now earlier other t
Stands-images now earlier log other t same h = record { was = h.was; serialed = h.serialed; later = h.later; keys = λ k. rw (same k) (h.keys k) }

-- ---- Undo of a newer part

pub Stands-undone_one : (now : ℕ) (earlier : TableState) (log : List Inverse) (x : Inverse) (t : TableState) → Stands now earlier (log ++ x ∷ []) t → Stands now earlier log (undo_one now x t)
Stands-undone_one now earlier log x t h = record {
  was = h.was;
  serialed = IsSerialed-undo_one now x t h.serialed;
  later = let more = next-undo_one now x t in let le = h.later in omega arith;
  keys = λ k.
      let one : image_of k (log ++ x ∷ []) ≡ merge (image_of k log) (image_at k x) = image_of-append k log (x ∷ []) ∙ ap (merge (image_of k log)) (image_of-one k x) in
      Standing-undoes now earlier.next t.next (entry_at k earlier.entries) (image_of k log) h.later (h.was.below k)
      (image_at k x) (entry_at k t.entries) (entry_at k (undo_one now x t).entries)
      (Undoes-one now k x t h.serialed.table) (rw one at (h.keys k));
}

-- an undo of what was logged later leaves what was logged before
pub Stands-undone : (now : ℕ) (earlier : TableState) (log newer : List Inverse) (t : TableState) → Stands now earlier (log ++ newer) t → Stands now earlier log (undo now newer t)
unfolding undo
Stands-undone now earlier log [] t h = rw (append-nil log) at h
Stands-undone now earlier log (x ∷ newer) t h =
    let split : log ++ x ∷ newer ≡ (log ++ x ∷ []) ++ newer = sym (append_assoc log (x ∷ []) newer) in
    Stands-undone_one now earlier log x (undo now newer t) (Stands-undone now earlier (log ++ x ∷ []) newer t (rw split at h))

-- ---- Undo of the whole

-- an earlier entry that stands somewhere stands under its key
stands_there : (now : ℕ) (earlier : TableState) (log : List Inverse) (t : TableState) (k l : Key) (e g : Entry) → Stands now earlier log t → entry_at k earlier.entries ≡ Some e → entry_at l t.entries ≡ Some g → g.serial ≡ e.serial → entry_at k t.entries ≡ Some g
stands_there now earlier log t k l e g h was found same =
    let lt = h.was.below k e was in
    let (f, had, is) = (h.keys l).older g found (omega arith) in
    let at = h.was.differ k l e f was had (sym (is ∙ same)) in
    entry_at-same_place t.entries k l at ∙ found

pub used_by_key : (now : ℕ) (earlier : TableState) (log : List Inverse) (t : TableState) (k : Key) (e : Entry) → Stands now earlier log t → entry_at k earlier.entries ≡ Some e → used_or now e.serial t.entries ≡ used_at now e.serial (entry_at k t.entries)
used_by_key now earlier log t k e h was =
    elim (cases_Option (entry_at k t.entries)) [
      | inl none ↦ rw none (used_or-gone now e.serial t.entries h.serialed.table
          (λ l g found same. let here = stands_there now earlier log t k l e g h was found same in absurd cc))
      | inr (f, some) ↦ rw some (elim (cases_eq f.serial e.serial) [
        | inl same ↦ rw (eq-eqb f.serial e.serial same) (ap (λ n. used_or now n t.entries) (sym same) ∙ used_or-stands now t k f h.serialed some)
        | inr other ↦ rw (ne_eqb f.serial e.serial other) (used_or-gone now e.serial t.entries h.serialed.table
            (λ l g found same.
            let here = stands_there now earlier log t k l e g h was found same in
            let is : f ≡ g = cc in
            other (ap (λ x. x.serial) is ∙ same)))
      ])
    ]

restored_by_key : (now : ℕ) (es : List Entry) (present o : Option Entry) → ((e : Entry) → o ≡ Some e → used_or now e.serial es ≡ used_at now e.serial present) → option_map (restored_at now present) o ≡ option_map seen (option_map (restored now es) o)
restored_by_key now es present None same = refl
restored_by_key now es present (Some e) same = ap (λ (u : ℕ). Some (seen (record e { used = u }))) (sym (same e refl))

-- a log that stands, reverted backwards, gives the earlier table as it is to be restored
pub undo-restores : (now : ℕ) (earlier : TableState) (log : List Inverse) (t : TableState) → Stands now earlier log t → map seen (undo now log t).entries ≡ map seen (undone earlier t now).entries
unfolding undone
undo-restores now earlier log t h =
    let u : List Entry = (undo now log t).entries in
    let g : Entry → Entry = restored now t.entries in
    let r : List Entry = map g earlier.entries in
    table_from_lookups (map seen u) (map seen r)
    (IsTable-map seen (λ e. refl) u (IsSerialed-undo now log t h.serialed).table)
    (IsTable-map seen (λ e. refl) r (IsTable-map g (λ e. refl) earlier.entries h.was.table))
    (λ k.
    entry_at-map seen (λ e. refl) u k
    ∙ undo-image now k log t h.serialed
    ∙ (h.keys k).effect
    ∙ restored_by_key now t.entries (entry_at k t.entries) (entry_at k earlier.entries) (λ e was. used_by_key now earlier log t k e h was)
    ∙ sym (entry_at-map seen (λ e. refl) r k ∙ ap (option_map seen) (entry_at-map g (λ e. refl) earlier.entries k)))
