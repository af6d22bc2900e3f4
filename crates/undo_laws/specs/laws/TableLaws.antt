-- What follows about one message a key: it gives back what the whole log gives back, and none is refused.
use Rattle.std.proofs.Common.{◌≡◌, ◌≢◌, ℕ, ◌≤◌, Bool, true, false, not, List, [], ◌∷◌, ◌++◌, length, map, Option, Some, None, refl, sym, ap, ◌∙◌, arith, inl, inr}
use Rattle.std.proofs.lemmas.Bool.{cases_lt, cases_eq, cases_Bool, eq-eqb, ne_eqb}
use Rattle.std.proofs.lemmas.List.{length-map}
use Rattle.std.proofs.lemmas.List.Elements.{All-head, All-tail, All-weaker}
use Rattle.std.proofs.lemmas.List.Filters.{length-filter_both}
use Rattle.std.specs.Option.{option_map, is_some}
use Rattle.of_match.specs.declared.key.Key.{Key}
use Rattle.of_match.specs.Key.{key_number}
use Rattle.of_action.specs.declared.action.Action.{Action}
use Rattle.flow_table.specs.declared.entry.Entry.{Entry}
use Rattle.flow_table.specs.Table.{TableState, IsTable, place_of, has_key, entry_at, with_entry}
use Rattle.flow_table.specs.Undone.{restored, undone}
use Rattle.flow_table.specs.laws.TableLaws.{with_entry-before, with_entry-after, with_entry-same, entry_at-map}
use Rattle.undo_laws.specs.Removal.{is_key_among}
use Rattle.undo_laws.specs.Serials.{IsSerialed}
use Rattle.undo_laws.specs.Log.{Inverse, Remove, PutBack, Image, Untouched, Absent, Gone, Acted, back, undo_one, undo, image_of, given_back, with_actions, give_actions, seen}
use Rattle.undo_laws.specs.laws.RemovalLaws.{entry_at-without-other}
use Rattle.undo_laws.specs.laws.LogLaws.{undo-append, key_number-give_actions, IsSerialed-undo}
use Rattle.undo_laws.specs.Stands.{Stands, is_gone}
use Rattle.undo_laws.specs.laws.StandsLaws.{undo-restores}
use Rattle.undo_laws.specs.Reverting.{CanRevert}
use Rattle.undo_laws.specs.laws.RevertingLaws.{CanRevert-append, some_map}
use Rattle.undo_laws.specs.Table.{IsTest, sent_for, GiveAlike, IsMet, AllMeet, Stays, AllStay, remove_all, gives, in_order}

-- ---- Logs that give the same

pub Stands-alike : (now : ℕ) (earlier : TableState) (log other : List Inverse) (t : TableState) → GiveAlike now earlier log other t → Stands now earlier log t → Stands now earlier other t
Stands-alike now earlier log other t alike h = record {
  was = h.was;
  serialed = h.serialed;
  later = h.later;
  keys = λ k. let at = h.keys k in record {
    effect = alike.given k ∙ at.effect;
    younger = λ gone. elim (cases_Bool (is_gone (image_of k log))) [
      | inl both ↦ at.younger both
      | inr alone ↦ alike.gone k gone alone
    ];
    older = at.older;
  };
}

-- ---- What the table sends gives back what the image does

same_actions : (actions : List Action) (e : Entry) → actions ≡ e.actions → with_actions actions e ≡ e
same_actions actions e is = rw is refl

pub given_back-sent : (now : ℕ) (same : List Action → List Action → Bool) (i : Image) (o : Option Entry) → IsTest same → given_back now (sent_for same i o) o ≡ given_back now i o
given_back-sent now same Untouched o test = refl
given_back-sent now same Absent None test = refl
given_back-sent now same Absent (Some e) test = refl
given_back-sent now same (Acted actions) None test = refl
given_back-sent now same (Acted actions) (Some e) test =
    elim (cases_Bool (same actions e.actions)) [
      | inl equal ↦ rw equal (ap Some (sym (same_actions actions e (test actions e.actions equal))))
      | inr other ↦ rw other refl
    ]
given_back-sent now same (Gone e) o test = refl

pub is_gone-sent : (same : List Action → List Action → Bool) (i : Image) (o : Option Entry) → is_gone (sent_for same i o) ≡ true → is_gone i ≡ true
is_gone-sent same Untouched o is = is
is_gone-sent same Absent None is = refl
is_gone-sent same Absent (Some e) is = refl
is_gone-sent same (Acted actions) None is = is
is_gone-sent same (Acted actions) (Some e) is =
    elim (cases_Bool (same actions e.actions)) [
      | inl equal ↦ rw equal at is
      | inr other ↦ rw other at is
    ]
is_gone-sent same (Gone e) o is = refl

pub Stands-sent : (now : ℕ) (same : List Action → List Action → Bool) (earlier : TableState) (log sent : List Inverse) (t : TableState) → IsTest same → ((k : Key) → image_of k sent ≡ sent_for same (image_of k log) (entry_at k t.entries)) → Stands now earlier log t → Stands now earlier sent t
Stands-sent now same earlier log sent t test is h =
    Stands-alike now earlier log sent t (record {
      given = λ k. ap (λ (i : Image). option_map seen (given_back now i (entry_at k t.entries))) (is k) ∙ ap (option_map seen) (given_back-sent now same (image_of k log) (entry_at k t.entries) test);
      gone = λ k gone alone. let both : is_gone (image_of k log) ≡ true = is_gone-sent same (image_of k log) (entry_at k t.entries) (ap is_gone (sym (is k)) ∙ gone) in absurd cc;
    }) h

-- ---- In order, none is refused

length-with_entry-ge : (es : List Entry) (e : Entry) → length es ≤ length (with_entry e es)
length-with_entry-ge [] e = omega arith
length-with_entry-ge (f ∷ fs) e =
    elim (cases_lt (place_of e) (place_of f)) [
      | inl lt ↦ rw (with_entry-before e f fs lt) (omega arith)
      | inr ge ↦ elim (cases_lt (place_of f) (place_of e)) [
        | inl gt ↦ rw (with_entry-after e f fs gt) (omega (arith, length-with_entry-ge fs e))
        | inr le ↦ let same : place_of e ≡ place_of f = omega arith in rw (with_entry-same e f fs same) (omega arith)
      ]
    ]

longer-one : (now : ℕ) (e : Entry) (t : TableState) → length t.entries ≤ length (undo_one now (PutBack e) t).entries
unfolding undo_one
longer-one now e t = length-with_entry-ge t.entries (back now t.next e)

can-add : (cap now : ℕ) (es : List Entry) (t : TableState) → length (undo now (map PutBack es) t).entries ≤ cap → CanRevert cap now (map PutBack es) t
unfolding undo
can-add cap now [] t fits = fits
can-add cap now (e ∷ es) t fits = (can-add cap now es t (omega (arith, longer-one now e (undo now (map PutBack es) t))), tt, fits)

shorter-one : (now : ℕ) (k : Key) (t : TableState) → length (undo_one now (Remove k) t).entries ≤ length t.entries
unfolding undo_one
shorter-one now k t = let both = length-filter_both (has_key k) (λ e. not (has_key k e)) (λ e. refl) t.entries in omega arith

shorter : (now : ℕ) (ks : List Key) (t : TableState) → length (undo now (remove_all ks) t).entries ≤ length t.entries
unfolding undo
shorter now [] t = omega arith
shorter now (k ∷ ks) t = omega (arith, shorter now ks t, shorter-one now k (undo now (remove_all ks) t))

can-remove : (cap now : ℕ) (ks : List Key) (t : TableState) → length t.entries ≤ cap → CanRevert cap now (remove_all ks) t
can-remove cap now [] t fits = fits
can-remove cap now (k ∷ ks) t fits = (can-remove cap now ks t fits, tt, let less = shorter now (k ∷ ks) t in omega arith)

length-gives : (now : ℕ) (acted : List (Key × List Action)) (t : TableState) → length (undo now (map gives acted) t).entries ≡ length t.entries
unfolding undo undo_one
length-gives now [] t = refl
length-gives now (a ∷ acted) t = length-map (undo now (map gives acted) t).entries (give_actions a.0 a.1) ∙ length-gives now acted t

keys-gives : (now : ℕ) (l : Key) (acted : List (Key × List Action)) (t : TableState) → is_some (entry_at l (undo now (map gives acted) t).entries) ≡ is_some (entry_at l t.entries)
unfolding undo undo_one
keys-gives now l [] t = refl
keys-gives now l (a ∷ acted) t =
    let g : Entry → Entry = give_actions a.0 a.1 in
    let u : TableState = undo now (map gives acted) t in
    ap is_some (entry_at-map g (key_number-give_actions a.0 a.1) u.entries l) ∙ some_map g (entry_at l u.entries) ∙ keys-gives now l acted t

can-give : (cap now : ℕ) (acted : List (Key × List Action)) (t : TableState) → length t.entries ≤ cap → AllMeet acted t.entries → CanRevert cap now (map gives acted) t
can-give cap now [] t fits meet = fits
can-give cap now (a ∷ acted) t fits meet = (
  can-give cap now acted t fits (All-tail (IsMet t.entries) a acted meet),
  keys-gives now a.0 acted t ∙ All-head (IsMet t.entries) a acted meet,
  let long = length-gives now (a ∷ acted) t in omega arith,
)

pub CanRevert-in_order : (cap now : ℕ) (removed : List Key) (acted : List (Key × List Action)) (added : List Entry) (t : TableState) → length t.entries ≤ cap → AllMeet acted (undo now (remove_all removed) t).entries → length (undo now (in_order removed acted added) t).entries ≤ cap → CanRevert cap now (in_order removed acted added) t
CanRevert-in_order cap now removed acted added t fits meet after =
    let u : TableState = undo now (remove_all removed) t in
    let w : TableState = undo now (map gives acted ++ remove_all removed) t in
    let less = shorter now removed t in
    CanRevert-append cap now (map PutBack added) (map gives acted ++ remove_all removed) t
    (CanRevert-append cap now (map gives acted) (remove_all removed) t (can-remove cap now removed t fits) (can-give cap now acted u (omega arith) meet))
    (can-add cap now added w (rw (undo-append now (map PutBack added) (map gives acted ++ remove_all removed) t) at after))

-- ---- An entry whose actions change is not removed before

met-one : (now : ℕ) (k l : Key) (t : TableState) → IsTable t.entries → key_number k ≢ key_number l → entry_at l (undo_one now (Remove k) t).entries ≡ entry_at l t.entries
unfolding undo_one
met-one now k l t is other = entry_at-without-other k l t.entries is other

met-all : (now : ℕ) (ks : List Key) (l : Key) (t : TableState) → IsSerialed t → is_key_among ks l ≡ false → entry_at l (undo now (remove_all ks) t).entries ≡ entry_at l t.entries
unfolding undo
met-all now [] l t h out = refl
met-all now (k ∷ ks) l t h out =
    elim (cases_eq (key_number k) (key_number l)) [
      | inl same ↦ let here : is_key_among (k ∷ ks) l ≡ true = rw (eq-eqb (key_number k) (key_number l) same) refl in absurd cc
      | inr other ↦
          let rest : is_key_among ks l ≡ false = rw (ne_eqb (key_number k) (key_number l) other) at out in
          met-one now k l (undo now (remove_all ks) t) (IsSerialed-undo now (remove_all ks) t h).table other ∙ met-all now ks l t h rest
    ]

-- what is sent for the log of an earlier table that fits, in order
pub CanRevert-sent : (cap now : ℕ) (earlier : TableState) (removed : List Key) (acted : List (Key × List Action)) (added : List Entry) (t : TableState) → length t.entries ≤ cap → length earlier.entries ≤ cap → AllStay removed acted t.entries → Stands now earlier (in_order removed acted added) t → CanRevert cap now (in_order removed acted added) t
unfolding undone
CanRevert-sent cap now earlier removed acted added t fits fitted meet h =
    let sent : List Inverse = in_order removed acted added in
    let same = ap length (undo-restores now earlier sent t h) in
    let long = length-map (undo now sent t).entries seen in
    let short = length-map (undone earlier t now).entries seen in
    let old = length-map earlier.entries (restored now t.entries) in
    let after : length (undo now sent t).entries ≤ cap = omega arith in
    CanRevert-in_order cap now removed acted added t fits
    (All-weaker (Stays removed t.entries) (IsMet (undo now (remove_all removed) t).entries)
    (λ a ok. ap is_some (met-all now removed a.0 t h.serialed ok.1) ∙ ok.0) acted meet)
    after
