-- What follows about two tables that go through the same changes and undos, and about serials that are given by places.
use Rattle.std.proofs.Common.{◌≡◌, ◌≢◌, ◌==◌, ℕ, ◌+◌, ◌<◌, ◌≤◌, Bool, true, false, List, [], ◌∷◌, ◌++◌, length, map, Option, Some, None, refl, sym, ap, ap₂, subst, ◌∙◌, arith, inl, inr}
use Rattle.std.proofs.lemmas.Bool.{cases_Bool, eqb-true}
use Rattle.of_match.specs.declared.key.Key.{Key}
use Rattle.of_match.specs.Key.{key_number}
use Rattle.of_wire.specs.declared.bodies.FlowMod.{FlowMod}
use Rattle.flow_table.specs.declared.entry.Entry.{Entry}
use Rattle.flow_table.specs.Table.{TableState, AscendsFrom, IsTable, place_of, has_key, entry_at}
use Rattle.flow_table.specs.Change.{changed}
use Rattle.flow_table.specs.Undone.{undone}
use Rattle.undo_laws.specs.Log.{Inverse, logged, undo, seen}
use Rattle.undo_laws.specs.Same.{SameButSerials}
use Rattle.undo_laws.specs.Serials.{IsSerialed}
use Rattle.undo_laws.specs.Stands.{Stands}
use Rattle.undo_laws.specs.laws.RestoredLaws.{same-logged}
use Rattle.undo_laws.specs.laws.SameLaws.{same-after, same-undo}
use Rattle.undo_laws.specs.laws.StandsLaws.{Stands-nothing, Stands-changed, Stands-undone, undo-restores}
use Rattle.sent_laws.specs.Abreast.{Course, Abreast, numbered_from, numbered, bare}

-- ---- Two courses

pub abreast-nothing : (now : ℕ) (t u : TableState) → IsSerialed t → IsSerialed u → SameButSerials t.entries u.entries → Abreast now [] (record { earlier = t; present = t }) (record { earlier = u; present = u })
abreast-nothing now t u h i same = record { first = Stands-nothing now t h; second = Stands-nothing now u i; same = same }

same-changed : (now : ℕ) (m : FlowMod) (t u : TableState) → SameButSerials t.entries u.entries → SameButSerials (changed now m t).entries (changed now m u).entries
unfolding changed
same-changed now m t u same = same-after now t.next u.next m t.entries u.entries same

pub abreast-changed : (now : ℕ) (log : List Inverse) (m : FlowMod) (one other : Course) → Abreast now log one other
    → Abreast now (log ++ logged m one.present.entries) (record one { present = changed now m one.present }) (record other { present = changed now m other.present })
abreast-changed now log m one other h = record {
  first = Stands-changed now one.earlier log m one.present h.first;
  second = subst (λ (newer : List Inverse). Stands now other.earlier (log ++ newer) (changed now m other.present)) (sym (same-logged m one.present.entries other.present.entries h.same)) (Stands-changed now other.earlier log m other.present h.second);
  same = same-changed now m one.present other.present h.same;
}

pub abreast-undo : (now : ℕ) (log newer : List Inverse) (one other : Course) → Abreast now (log ++ newer) one other
    → Abreast now log (record one { present = undo now newer one.present }) (record other { present = undo now newer other.present })
abreast-undo now log newer one other h = record {
  first = Stands-undone now one.earlier log newer one.present h.first;
  second = Stands-undone now other.earlier log newer other.present h.second;
  same = same-undo now newer one.present other.present h.same;
}

-- another table on one side, for which the log stands too
pub abreast-alike : (now : ℕ) (log : List Inverse) (one other : Course) (t : TableState) → Abreast now log one other → Stands now one.earlier log t → SameButSerials t.entries one.present.entries → Abreast now log (record one { present = t }) other
abreast-alike now log one other t h stands same = record { first = stands; second = h.second; same = same ∙ h.same }

-- the tables that are given back are the same
pub abreast-restored : (now : ℕ) (log : List Inverse) (one other : Course) → Abreast now log one other → SameButSerials (undone one.earlier one.present now).entries (undone other.earlier other.present now).entries
abreast-restored now log one other h =
    sym (undo-restores now one.earlier log one.present h.first)
    ∙ same-undo now log one.present other.present h.same
    ∙ undo-restores now other.earlier log other.present h.second

-- ---- Serials by places

pub seen-numbered : (n : ℕ) (es : List Entry) → SameButSerials (numbered_from n es) es
seen-numbered n [] = refl
seen-numbered n (e ∷ es) = ap (λ (fs : List Entry). seen e ∷ fs) (seen-numbered (n + 1) es)

ascends-numbered : (n least : ℕ) (es : List Entry) → AscendsFrom least es → AscendsFrom least (numbered_from n es)
ascends-numbered n least [] up = tt
ascends-numbered n least (e ∷ es) up = (up.0, ascends-numbered (n + 1) (place_of e + 1) es up.1)

some_entry : (e f : Entry) → Some e ≡ Some f → e.serial ≡ f.serial
some_entry e f is = ap serial_in is
  where
    serial_in : Option Entry → ℕ
    serial_in None = 0
    serial_in (Some g) = g.serial

at-numbered : (n : ℕ) (es : List Entry) (k : Key) (f : Entry) → entry_at k (numbered_from n es) ≡ Some f → (n ≤ f.serial) × (f.serial < n + length es)
at-numbered n [] k f found = absurd cc
at-numbered n (e ∷ es) k f found =
    elim (cases_Bool (has_key k e)) [
      | inl is ↦ let same : n ≡ f.serial = some_entry (record e { serial = n }) f (rw is at found) in (omega arith, omega arith)
      | inr other ↦ let rest = at-numbered (n + 1) es k f (rw other at found) in (omega (arith, rest.0), omega (arith, rest.1))
    ]

differ-numbered : (n : ℕ) (es : List Entry) (k l : Key) (e f : Entry) → entry_at k (numbered_from n es) ≡ Some e → entry_at l (numbered_from n es) ≡ Some f → e.serial ≡ f.serial → key_number k ≡ key_number l
differ-numbered n [] k l e f a b same = absurd cc
differ-numbered n (g ∷ es) k l e f a b same =
    elim (cases_Bool (has_key k g)) [
      | inl first ↦ elim (cases_Bool (has_key l g)) [
        | inl second ↦ sym (eqb-true (place_of g) (key_number k) first) ∙ eqb-true (place_of g) (key_number l) second
        | inr behind ↦
            let one : n ≡ e.serial = some_entry (record g { serial = n }) e (rw first at a) in
            let rest = at-numbered (n + 1) es l f (rw behind at b) in
            absurd (omega (arith, rest.0))
      ]
      | inr later ↦ elim (cases_Bool (has_key l g)) [
        | inl second ↦
            let one : n ≡ f.serial = some_entry (record g { serial = n }) f (rw second at b) in
            let rest = at-numbered (n + 1) es k e (rw later at a) in
            absurd (omega (arith, rest.0))
        | inr behind ↦ differ-numbered (n + 1) es k l e f (rw later at a) (rw behind at b) same
      ]
    ]

pub IsSerialed-numbered : (t : TableState) → IsTable t.entries → IsSerialed (numbered t)
IsSerialed-numbered t up = record {
  table = ascends-numbered 0 0 t.entries up;
  below = λ k e found. let rest = at-numbered 0 t.entries k e found in omega (arith, rest.1);
  differ = λ k l e f a b same. differ-numbered 0 t.entries k l e f a b same;
}

pub bare-same : (t u : TableState) → SameButSerials t.entries u.entries → bare t ≡ bare u
bare-same t u same = ap (λ (es : List Entry). record { entries = es; next = 0 }) same

pub same-bare : (t u : TableState) → bare t ≡ bare u → SameButSerials t.entries u.entries
same-bare t u same = ap (λ (v : TableState). v.entries) same

-- so tables that are bare alike are, once numbered, the same
pub numbered-bare : (t u : TableState) → bare t ≡ bare u → SameButSerials (numbered t).entries (numbered u).entries
numbered-bare t u same = seen-numbered 0 t.entries ∙ same-bare t u same ∙ sym (seen-numbered 0 u.entries)
