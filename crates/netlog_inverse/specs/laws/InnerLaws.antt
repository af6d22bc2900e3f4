-- What follows about an undo of what was changed since an inner mark: the images that stay, whatever became of their entries meanwhile,
-- give back the table of each mark before it.
use Rattle.std.proofs.Common.{◌≡◌, ◌≢◌, ℕ, ◌≤◌, Bool, true, false, List, [], ◌∷◌, ◌++◌, Option, Some, None, refl, sym, ap, ◌∙◌, arith, subst, ◌⊎◌, inl, inr}
use Rattle.std.specs.Option.{option_map}
use Rattle.of_match.specs.declared.key.Key.{Key}
use Rattle.of_action.specs.declared.action.Action.{Action}
use Rattle.flow_table.specs.declared.entry.Entry.{Entry}
use Rattle.flow_table.specs.Table.{TableState, entry_at}
use Rattle.flow_table.specs.Undone.{undone}
use Rattle.undo_laws.specs.Log.{Inverse, Image as Said, Untouched, Absent, Gone, Acted, with_actions, back, undo, merge, image_of, given_back, seen}
use Rattle.undo_laws.specs.laws.LogLaws.{image_of-append, given_back-seen, Undoes, leaves, removes, puts, gives, Undoes-one, IsSerialed-undo, undo-image}
use Rattle.undo_laws.specs.laws.InFlightLaws.{next-undo}
use Rattle.undo_laws.specs.Serials.{IsSerialed}
use Rattle.undo_laws.specs.Stands.{Stands, is_gone}
use Rattle.undo_laws.specs.laws.StandsLaws.{Stands-undone, undo-restores}
use Rattle.undo_laws.specs.Same.{SameButSerials}
use Rattle.undo_laws.specs.Table.{IsTest}
use Rattle.undo_laws.specs.laws.TableLaws.{Stands-alike, given_back-sent, is_gone-sent}
use Rattle.netlog_inverse.specs.declared.image.Logged.{Logged}
use Rattle.netlog_inverse.specs.Meaning.{said, settled, first_at}
use Rattle.netlog_inverse.specs.Restoring.{Says, IsSentFor, AreLeft}
use Rattle.netlog_inverse.specs.laws.RestoringLaws.{given_back-same, is_gone-same}

-- ---- What an undo puts back is new

some-is : (e f : Entry) (P : Entry → Type 0) → Some e ≡ Some f → P e → P f
some-is e f P same h = let is : e ≡ f = cc in subst P is h

fresh-step : {now serial : ℕ} {i : Said} {o p : Option Entry} → Undoes now serial i o p → (least : ℕ) (rest : Said) → least ≤ serial → is_gone (merge i rest) ≡ true → ((f : Entry) → is_gone rest ≡ true → o ≡ Some f → least ≤ f.serial) → (e : Entry) → p ≡ Some e → least ≤ e.serial
fresh-step (leaves o p is) least rest le gone before e found = before e gone (sym is ∙ found)
fresh-step (removes o p is) least rest le gone before e found = let none : None ≡ Some e = sym is ∙ found in absurd cc
fresh-step {now = now} {serial = serial} (puts f o p is) least rest le gone before e found =
    some-is (back now serial f) e (λ (x : Entry). least ≤ x.serial) (sym is ∙ found) le
fresh-step (gives actions o p is) least rest le gone before e found = acted rest o gone (sym is ∙ found) before
  where
    acted : (rest : Said) (o : Option Entry) → is_gone (merge (Acted actions) rest) ≡ true → option_map (with_actions actions) o ≡ Some e → ((f : Entry) → is_gone rest ≡ true → o ≡ Some f → least ≤ f.serial) → least ≤ e.serial
    acted Untouched o gone found before = absurd cc
    acted (Acted later) o gone found before = absurd cc
    acted Absent None gone found before = absurd cc
    acted Absent (Some f) gone found before = some-is (with_actions actions f) e (λ (x : Entry). least ≤ x.serial) found (before f refl refl)
    acted (Gone g) None gone found before = absurd cc
    acted (Gone g) (Some f) gone found before = some-is (with_actions actions f) e (λ (x : Entry). least ≤ x.serial) found (before f refl refl)

fresh-undo : (now : ℕ) (k : Key) (log : List Inverse) (t : TableState) → IsSerialed t → is_gone (image_of k log) ≡ true → (e : Entry) → entry_at k (undo now log t).entries ≡ Some e → t.next ≤ e.serial
unfolding undo image_of
fresh-undo now k [] t h gone e found = absurd cc
fresh-undo now k (x ∷ log) t h gone e found =
    let u : TableState = undo now log t in
    fresh-step (Undoes-one now k x u (IsSerialed-undo now log t h).table) t.next (image_of k log) (next-undo now log t) gone
    (λ f went at. fresh-undo now k log t h went f at) e found

-- ---- What the merged image gives back after the newer part was undone

merged-given : (now : ℕ) (a b : Said) (o p : Option Entry) → option_map seen p ≡ option_map seen (given_back now b o) → option_map seen (given_back now (merge a b) p) ≡ option_map seen (given_back now a p) ⊎ (a ≡ Untouched)
merged-given now Untouched b o p is = inr refl
merged-given now Absent b o p is = inl refl
merged-given now (Gone e) b o p is = inl refl
merged-given now (Acted actions) Untouched o p is = inl refl
merged-given now (Acted actions) Absent o p is = inl (sym (given_back-seen now (Acted actions) p None is))
merged-given now (Acted actions) (Gone e) o p is = inl (sym (given_back-seen now (Acted actions) p (Some (record e { used = now })) is))
merged-given now (Acted actions) (Acted later) o p is = inl refl

merged-gone : (a b : Said) → is_gone a ≡ false → a ≢ Untouched → is_gone (merge a b) ≡ true → is_gone b ≡ true
merged-gone Untouched b alone some gone = absurd (some refl)
merged-gone Absent b alone some gone = absurd cc
merged-gone (Gone e) b alone some gone = absurd cc
merged-gone (Acted actions) Untouched alone some gone = absurd cc
merged-gone (Acted actions) Absent alone some gone = refl
merged-gone (Acted actions) (Gone e) alone some gone = refl
merged-gone (Acted actions) (Acted later) alone some gone = absurd cc

is-untouched : (a : Said) → (a ≡ Untouched) ⊎ (a ≢ Untouched)
is-untouched Untouched = inl refl
is-untouched Absent = inr (λ is. absurd cc)
is-untouched (Gone e) = inr (λ is. absurd cc)
is-untouched (Acted actions) = inr (λ is. absurd cc)

-- ---- The images that stay

pub Stands-left : (now d : ℕ) (same : List Action → List Action → Bool) (since left : List Logged) (earlier : TableState) (older newer sent : List Inverse) (t : TableState) → IsTest same → Says now d since (older ++ newer) → AreLeft d since left older → IsSentFor now d same left sent (undo now newer t) → Stands now earlier (older ++ newer) t → Stands now earlier sent (undo now newer t)
Stands-left now d same since left earlier older newer sent t test says stay is h =
    Stands-alike now earlier older sent (undo now newer t) (record {
      given = λ k.
          let o : Option Entry = entry_at k t.entries in
          let p : Option Entry = entry_at k (undo now newer t).entries in
          let a : Said = image_of k older in
          let b : Said = image_of k newer in
          let s : Said = said now (first_at d k left) in
          let sends = ap (λ (x : Said). option_map seen (given_back now x p)) (is k) ∙ ap (option_map seen) (given_back-sent now same s p test) in
          sends ∙ (elim (is-untouched a) [
            | inl none ↦ ap (λ (x : Said). option_map seen (given_back now x p)) (ap (said now) ((stay k).0 none) ∙ sym none)
            | inr some ↦
                let merged : settled now s ≡ settled now (merge a b) = ap (λ x. settled now (said now x)) ((stay k).1 some) ∙ says k ∙ ap (settled now) (image_of-append k older newer) in
                ap (option_map seen) (given_back-same now s (merge a b) p merged)
                ∙ (elim (merged-given now a b o p (undo-image now k newer t h.serialed)) [ inl same_given ↦ same_given | inr none ↦ absurd (some none) ])
          ]);
      gone = λ k gone alone e found.
          let p : Option Entry = entry_at k (undo now newer t).entries in
          let a : Said = image_of k older in
          let b : Said = image_of k newer in
          let s : Said = said now (first_at d k left) in
          let went : is_gone s ≡ true = is_gone-sent same s p (ap is_gone (sym (is k)) ∙ gone) in
          elim (is-untouched a) [
            | inl none ↦ let nothing : is_gone s ≡ false = ap (λ x. is_gone (said now x)) ((stay k).0 none) in absurd cc
            | inr some ↦
                let merged : settled now s ≡ settled now (merge a b) = ap (λ x. settled now (said now x)) ((stay k).1 some) ∙ says k ∙ ap (settled now) (image_of-append k older newer) in
                let both : is_gone (merge a b) ≡ true = sym (is_gone-same now s (merge a b) merged) ∙ went in
                let new = fresh-undo now k newer t h.serialed (merged-gone a b alone some both) e found in
                let later = h.later in
                omega arith
          ];
    }) (Stands-undone now earlier older newer t h)

pub left-restore : (now d : ℕ) (same : List Action → List Action → Bool) (since left : List Logged) (earlier : TableState) (older newer sent : List Inverse) (t : TableState) → IsTest same → Says now d since (older ++ newer) → AreLeft d since left older → IsSentFor now d same left sent (undo now newer t) → Stands now earlier (older ++ newer) t → SameButSerials (undo now sent (undo now newer t)).entries (undone earlier (undo now newer t) now).entries
left-restore now d same since left earlier older newer sent t test says stay is h =
    undo-restores now earlier sent (undo now newer t) (Stands-left now d same since left earlier older newer sent t test says stay is h)
