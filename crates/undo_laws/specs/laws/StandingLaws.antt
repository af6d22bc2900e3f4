-- What follows about one key: how it stands after a change, and after one inverse.
use Rattle.std.proofs.Common.{◌≡◌, ℕ, ◌<◌, ◌≤◌, true, List, Option, Some, None, refl, sym, ap, ◌∙◌, arith}
use Rattle.std.proofs.lemmas.Bool.{ne_eqb}
use Rattle.std.specs.Option.{option_map}
use Rattle.of_action.specs.declared.action.Action.{Action}
use Rattle.flow_table.specs.declared.entry.Entry.{Entry}
use Rattle.undo_laws.specs.laws.SerialsLaws.{some_mapped}
use Rattle.undo_laws.specs.Log.{Image, Untouched, Absent, Gone, Acted, with_actions, back, merge, given_back, seen}
use Rattle.undo_laws.specs.laws.LogLaws.{merge-untouched, given_back-merge, given_back-seen, Undoes, leaves, removes, puts, gives}
use Rattle.undo_laws.specs.Stands.{restored_at, is_gone, Standing}
use Rattle.undo_laws.specs.CorrectedSwitch.{with_use}

-- the serial of an earlier entry lies below the earlier table's next one
abbrev pub IsBelow : ℕ → Option Entry → Type 0
IsBelow next earlier = (e : Entry) → earlier ≡ Some e → e.serial < next

abbrev pub IsYounger : ℕ → Option Entry → Type 0
IsYounger next present = (e : Entry) → present ≡ Some e → next ≤ e.serial

-- ---- Images of which the earlier entry is gone

gone-absent : (i : Image) → is_gone (merge i Absent) ≡ true
gone-absent Untouched = refl
gone-absent Absent = refl
gone-absent (Gone e) = refl
gone-absent (Acted actions) = refl

gone-gone : (i : Image) (e : Entry) → is_gone (merge i (Gone e)) ≡ true
gone-gone Untouched e = refl
gone-gone Absent e = refl
gone-gone (Gone f) e = refl
gone-gone (Acted actions) e = refl

gone-acted : (i : Image) (actions : List Action) → is_gone (merge i (Acted actions)) ≡ is_gone i
gone-acted Untouched actions = refl
gone-acted Absent actions = refl
gone-acted (Gone e) actions = refl
gone-acted (Acted older) actions = refl

-- ---- When the earlier entry was used

-- beside a younger entry it is used now
restored-younger : (now next : ℕ) (earlier present : Option Entry) → IsBelow next earlier → IsYounger next present → option_map (restored_at now present) earlier ≡ option_map (restored_at now None) earlier
restored-younger now next None present below younger = refl
restored-younger now next (Some f) None below younger = refl
restored-younger now next (Some f) (Some e) below younger =
    let lt = below f refl in
    let le = younger e refl in
    rw (ne_eqb e.serial f.serial (omega arith)) refl

restored-actions : (now : ℕ) (actions : List Action) (earlier present : Option Entry) → option_map (restored_at now (option_map (with_actions actions) present)) earlier ≡ option_map (restored_at now present) earlier
restored-actions now actions earlier None = refl
restored-actions now actions earlier (Some e) = refl

with_use-restored : (now : ℕ) (earlier present : Option Entry) → option_map (with_use now) (option_map (restored_at now present) earlier) ≡ option_map (restored_at now None) earlier
with_use-restored now None present = refl
with_use-restored now (Some f) present = refl

with_use-given : (now : ℕ) (i : Image) (e : Entry) → option_map (with_use now) (option_map seen (given_back now i (Some e))) ≡ option_map seen (given_back now i (Some (with_use now (seen e))))
with_use-given now Untouched e = refl
with_use-given now Absent e = refl
with_use-given now (Gone f) e = refl
with_use-given now (Acted actions) e = refl

-- ---- One change at a key

-- What a change logs about a key, what stood, and what stands; a new entry takes this serial.
pub data Changes (serial : ℕ) : Image → Option Entry → Option Entry → Type 0 where
  stays : (o p : Option Entry) → p ≡ o → Changes serial Untouched o p
  comes : (e : Entry) (o p : Option Entry) → o ≡ None → p ≡ Some e → e.serial ≡ serial → Changes serial Absent o p
  gives_way : (e f : Entry) (o p : Option Entry) → o ≡ Some e → p ≡ Some f → f.serial ≡ serial → Changes serial (Gone (seen e)) o p
  goes : (e : Entry) (o p : Option Entry) → o ≡ Some e → p ≡ None → Changes serial (Gone (seen e)) o p
  acts : (e : Entry) (actions : List Action) (o p : Option Entry) → o ≡ Some e → p ≡ Some (with_actions actions e) → Changes serial (Acted e.actions) o p

some_is : (e f : Entry) → Some e ≡ Some f → e ≡ f
some_is e f is = cc

module _ (now next serial : ℕ) (earlier : Option Entry) (i : Image) (later : next ≤ serial) (below : IsBelow next earlier) where
  is_younger : (e : Entry) → e.serial ≡ serial → IsYounger next (Some e)
  is_younger e fresh f is = let same = ap (λ x. x.serial) (some_is e f is) in omega arith

  not_older : (present : Option Entry) → IsYounger next present → (e : Entry) → present ≡ Some e → e.serial < next → (f : Entry) × (earlier ≡ Some f) × (f.serial ≡ e.serial)
  not_older present young e is lt = let le = young e is in absurd (omega arith)

  none_younger : IsYounger next None
  none_younger e is = absurd cc

  after_comes : (e : Entry) → e.serial ≡ serial → Standing now next earlier i None → Standing now next earlier (merge i Absent) (Some e)
  after_comes e fresh h = record {
    effect =
        ap (option_map seen) (given_back-merge now i Absent (Some e)) ∙ h.effect
        ∙ sym (restored-younger now next earlier (Some e) below (is_younger e fresh));
    younger = λ _. is_younger e fresh;
    older = not_older (Some e) (is_younger e fresh);
  }

  pub after_goes : (e : Entry) (present : Option Entry) → IsYounger next present → Standing now next earlier i (Some e) → Standing now next earlier (merge i (Gone (seen e))) present
  after_goes e present young h = record {
    effect =
        ap (option_map seen) (given_back-merge now i (Gone (seen e)) present) ∙ sym (with_use-given now i e)
        ∙ ap (option_map (with_use now)) h.effect ∙ with_use-restored now earlier (Some e)
        ∙ sym (restored-younger now next earlier present below young);
    younger = λ _. young;
    older = not_older present young;
  }

  after_acts : (e : Entry) (actions : List Action) → Standing now next earlier i (Some e) → Standing now next earlier (merge i (Acted e.actions)) (Some (with_actions actions e))
  after_acts e actions h = record {
    effect = ap (option_map seen) (given_back-merge now i (Acted e.actions) (Some (with_actions actions e))) ∙ h.effect;
    younger = λ gone f is.
        let same = ap (λ x. x.serial) (some_is (with_actions actions e) f is) in
        let le = h.younger (sym (gone-acted i e.actions) ∙ gone) e refl in
        omega arith;
    older = λ f is lt.
        let same : e.serial ≡ f.serial = ap (λ x. x.serial) (some_is (with_actions actions e) f is) in
        let (g, was, at) = h.older e refl (omega arith) in
        (g, was, at ∙ same);
  }

  pub Standing-changes : (j : Image) (o p : Option Entry) → Changes serial j o p → Standing now next earlier i o → Standing now next earlier (merge i j) p
  Standing-changes j o p (stays a b is) h = rw (is, merge-untouched i) h
  Standing-changes j o p (comes e a b was is fresh) h = rw is (after_comes e fresh (rw was at h))
  Standing-changes j o p (gives_way e f a b was is fresh) h = rw is (after_goes e (Some f) (is_younger f fresh) (rw was at h))
  Standing-changes j o p (goes e a b was is) h = rw is (after_goes e None none_younger (rw was at h))
  Standing-changes j o p (acts e actions a b was is) h = rw is (after_acts e actions (rw was at h))

  -- ---- One inverse at a key

  before_removes : (o : Option Entry) → Standing now next earlier (merge i Absent) o → Standing now next earlier i None
  before_removes o h = record {
    effect =
        sym (ap (option_map seen) (given_back-merge now i Absent o)) ∙ h.effect
        ∙ restored-younger now next earlier o below (h.younger (gone-absent i));
    younger = λ _. none_younger;
    older = not_older None none_younger;
  }

  pub before_puts : (e : Entry) (o : Option Entry) → Standing now next earlier (merge i (Gone e)) o → Standing now next earlier i (Some (back now serial e))
  before_puts e o h =
      let b : Entry = back now serial e in
      let young = is_younger b refl in
      record {
        effect =
            given_back-seen now i (Some b) (Some (with_use now e)) refl
            ∙ sym (ap (option_map seen) (given_back-merge now i (Gone e) o)) ∙ h.effect
            ∙ restored-younger now next earlier o below (h.younger (gone-gone i e))
            ∙ sym (restored-younger now next earlier (Some b) below young);
        younger = λ _. young;
        older = not_older (Some b) young;
      }

  before_gives : (actions : List Action) (o : Option Entry) → Standing now next earlier (merge i (Acted actions)) o → Standing now next earlier i (option_map (with_actions actions) o)
  before_gives actions o h = record {
    effect =
        sym (ap (option_map seen) (given_back-merge now i (Acted actions) o)) ∙ h.effect
        ∙ sym (restored-actions now actions earlier o);
    younger = λ gone f is.
        let (e, was, same) = some_mapped (with_actions actions) (λ x. refl) o f is in
        let le = h.younger (gone-acted i actions ∙ gone) e was in
        omega arith;
    older = λ f is lt.
        let (e, was, same) = some_mapped (with_actions actions) (λ x. refl) o f is in
        let (g, had, at) = h.older e was (omega arith) in
        (g, had, at ∙ same);
  }

  pub Standing-undoes : (j : Image) (o p : Option Entry) → Undoes now serial j o p → Standing now next earlier (merge i j) o → Standing now next earlier i p
  Standing-undoes j o p (leaves a b is) h = rw is (rw (merge-untouched i) at h)
  Standing-undoes j o p (removes a b is) h = rw is (before_removes o h)
  Standing-undoes j o p (puts e a b is) h = rw is (before_puts e o h)
  Standing-undoes j o p (gives actions a b is) h = rw is (before_gives actions o h)
