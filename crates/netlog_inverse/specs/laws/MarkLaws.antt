-- What follows about images that stand for the table of a mark: they do at the mark, and changes, undos of inner parts and time-outs keep
-- it; and what is sent for them gives the table of the mark back.
use Rattle.std.proofs.Common.{◌≡◌, ◌≢◌, ◌==◌, ◌&&◌, if◌then◌else◌, ℕ, zero, suc, ◌≤◌, Bool, true, false, not, List, [], ◌∷◌, ◌++◌, Option, Some, None, refl, sym, ap, ◌∙◌, arith, ◌⊎◌, inl, inr}
use Rattle.std.proofs.lemmas.Bool.{cases_Bool, cases_eq, eqb-true}
use Rattle.std.specs.Option.{option_map}
use Rattle.of_match.specs.declared.key.Key.{Key}
use Rattle.of_match.specs.Key.{key_number}
use Rattle.of_action.specs.declared.action.Action.{Action}
use Rattle.of_wire.specs.declared.bodies.FlowMod.{FlowMod}
use Rattle.flow_table.specs.declared.entry.Entry.{Entry}
use Rattle.flow_table.specs.declared.lost.Lost.{Lost}
use Rattle.flow_table.specs.declared.view.ViewRow.{ViewRow}
use Rattle.flow_table.specs.Table.{TableState, has_key, entry_at}
use Rattle.flow_table.specs.Change.{changed}
use Rattle.flow_table.specs.Undone.{undone}
use Rattle.flow_table.specs.laws.ChangeLaws.{next-changed-le}
use Rattle.undo_laws.specs.Log.{Inverse, Image as Said, Untouched, Absent, Gone, Acted, logged, undo, undo_one, merge, image_at, image_of, seen}
use Rattle.undo_laws.specs.Removal.{without}
use Rattle.undo_laws.specs.Same.{SameButSerials}
use Rattle.undo_laws.specs.Serials.{IsSerialed}
use Rattle.undo_laws.specs.Stands.{Standing, Stands, is_gone}
use Rattle.undo_laws.specs.Table.{IsTest, sent_for}
use Rattle.undo_laws.specs.laws.InFlightLaws.{next-undo}
use Rattle.undo_laws.specs.laws.LookupLaws.{entry_at-same_place}
use Rattle.undo_laws.specs.laws.LogLaws.{merge-untouched, merge-assoc, Undoes-one, IsSerialed-undo}
use Rattle.undo_laws.specs.laws.RemovalLaws.{IsTable-without, entry_at-without-same, entry_at-without-other}
use Rattle.undo_laws.specs.laws.SerialsLaws.{IsSerialed-from, IsSerialed-changed, ComeFrom-filter}
use Rattle.undo_laws.specs.laws.StandingLaws.{Standing-changes, Standing-undoes, after_goes}
use Rattle.undo_laws.specs.laws.StandsLaws.{Stands-nothing, Changes-changed, undo-restores}
use Rattle.undo_laws.specs.laws.TableLaws.{given_back-sent, is_gone-sent}
use Rattle.netlog_inverse.specs.declared.image.Image.{Image}
use Rattle.netlog_inverse.specs.declared.image.Logged.{Logged}
use Rattle.netlog_inverse.specs.declared.image.PutBack.{PutBack}
use Rattle.netlog_inverse.specs.declared.image.PutBack.TheVariants.{Row, Config, Settings}
use Rattle.netlog_inverse.specs.Log.{mended, changed_at, with_lost_row}
use Rattle.netlog_inverse.specs.Meaning.{entry_of, said, settled, is_at, is_image_of, first_at, first_or}
use Rattle.netlog_inverse.specs.Restoring.{Says, IsSentFor}
use Rattle.netlog_inverse.specs.Marks.{ImagesStand, SayMore, AreSetRight, IsFirstAt, IsLast}
use Rattle.netlog_inverse.specs.laws.FirstLaws.{first_at-append, first_at-takes, first_at-skips}
use Rattle.netlog_inverse.specs.laws.RestoringLaws.{given_back-same, is_gone-same}

-- ---- One key

Standing-same : (now next : ℕ) (earlier : Option Entry) (i j : Said) (present : Option Entry) → settled now j ≡ settled now i → Standing now next earlier i present → Standing now next earlier j present
Standing-same now next earlier i j present same h = record {
  effect = ap (option_map seen) (given_back-same now j i present same) ∙ h.effect;
  younger = λ gone. h.younger (sym (is_gone-same now j i same) ∙ gone);
  older = h.older;
}

Standing-is : (now next : ℕ) (earlier : Option Entry) (i j : Said) (present : Option Entry) → j ≡ i → Standing now next earlier i present → Standing now next earlier j present
Standing-is now next earlier i j present same h = rw same h

-- what the table sends for an image does what the image does
Standing-sent : (now next : ℕ) (same : List Action → List Action → Bool) (earlier : Option Entry) (i : Said) (present : Option Entry) → IsTest same → Standing now next earlier i present → Standing now next earlier (sent_for same i present) present
Standing-sent now next same earlier i present test h = record {
  effect = ap (option_map seen) (given_back-sent now same i present test) ∙ h.effect;
  younger = λ gone. h.younger (is_gone-sent same i present gone);
  older = h.older;
}

-- ---- At a mark, and what is sent

pub stand-nothing : (now d : ℕ) (t : TableState) → IsSerialed t → ImagesStand now d t [] t
unfolding image_of
stand-nothing now d t h = let all = Stands-nothing now t h in record { was = h; serialed = h; later = omega arith; keys = all.keys }

pub stand-says : (now d : ℕ) (since : List Logged) (earlier : TableState) (log : List Inverse) (t : TableState) → Says now d since log → Stands now earlier log t → ImagesStand now d earlier since t
stand-says now d since earlier log t says h = record {
  was = h.was;
  serialed = h.serialed;
  later = h.later;
  keys = λ k. Standing-same now earlier.next (entry_at k earlier.entries) (image_of k log) (said now (first_at d k since)) (entry_at k t.entries) (says k) (h.keys k);
}

pub sent-stand : (now d : ℕ) (same : List Action → List Action → Bool) (since : List Logged) (earlier : TableState) (sent : List Inverse) (t : TableState) → IsTest same → IsSentFor now d same since sent t → ImagesStand now d earlier since t → Stands now earlier sent t
sent-stand now d same since earlier sent t test is h = record {
  was = h.was;
  serialed = h.serialed;
  later = h.later;
  keys = λ k. Standing-is now earlier.next (entry_at k earlier.entries) (sent_for same (said now (first_at d k since)) (entry_at k t.entries)) (image_of k sent) (entry_at k t.entries) (is k)
      (Standing-sent now earlier.next same (entry_at k earlier.entries) (said now (first_at d k since)) (entry_at k t.entries) test (h.keys k));
}

pub stand-restores : (now d : ℕ) (same : List Action → List Action → Bool) (since : List Logged) (earlier : TableState) (sent : List Inverse) (t : TableState) → IsTest same → IsSentFor now d same since sent t → ImagesStand now d earlier since t → SameButSerials (undo now sent t).entries (undone earlier t now).entries
stand-restores now d same since earlier sent t test is h = undo-restores now earlier sent t (sent-stand now d same since earlier sent t test is h)

-- ---- A change

pub stand-changed : (now d : ℕ) (since after : List Logged) (earlier : TableState) (m : FlowMod) (t : TableState) → SayMore now d since (logged m t.entries) after → ImagesStand now d earlier since t → ImagesStand now d earlier after (changed now m t)
stand-changed now d since after earlier m t more h = record {
  was = h.was;
  serialed = IsSerialed-changed now m t h.serialed;
  later = let rise = next-changed-le now m t in let le = h.later in omega arith;
  keys = λ k.
      let i : Said = said now (first_at d k since) in
      let j : Said = image_of k (logged m t.entries) in
      let there : Option Entry = entry_at k (changed now m t).entries in
      Standing-same now earlier.next (entry_at k earlier.entries) (merge i j) (said now (first_at d k after)) there (more k)
      (Standing-changes now earlier.next t.next (entry_at k earlier.entries) i h.later (h.was.below k) j (entry_at k t.entries) there (Changes-changed now k m t h.serialed.table) (h.keys k));
}

-- ---- An undo of what was logged since an inner mark

Standing-undo : (now : ℕ) (k : Key) (earlier : TableState) (i : Said) (sent : List Inverse) (t : TableState) → IsSerialed earlier → IsSerialed t → earlier.next ≤ t.next
    → Standing now earlier.next (entry_at k earlier.entries) (merge i (image_of k sent)) (entry_at k t.entries) → Standing now earlier.next (entry_at k earlier.entries) i (entry_at k (undo now sent t).entries)
unfolding undo image_of
Standing-undo now k earlier i [] t was is later h = rw (merge-untouched i) at h
Standing-undo now k earlier i (x ∷ sent) t was is later h =
    let u : TableState = undo now sent t in
    let rises : t.next ≤ u.next = next-undo now sent t in
    let sound : IsSerialed u = IsSerialed-undo now sent t is in
    let grouped : Standing now earlier.next (entry_at k earlier.entries) (merge (merge i (image_at k x)) (image_of k sent)) (entry_at k t.entries) = rw (merge-assoc i (image_at k x) (image_of k sent)) h in
    Standing-undoes now earlier.next u.next (entry_at k earlier.entries) i (omega arith) (was.below k)
    (image_at k x) (entry_at k u.entries) (entry_at k (undo_one now x u).entries) (Undoes-one now k x u sound.table)
    (Standing-undo now k earlier (merge i (image_at k x)) sent t was is later grouped)

-- an image that says something and stands rightly is not changed by what came later
pub stays_first : (i j : Said) → i ≢ Untouched → ((actions : List Action) → i ≡ Acted actions → is_gone j ≡ false) → merge i j ≡ i
stays_first Untouched j some right = absurd (some refl)
stays_first Absent j some right = refl
stays_first (Gone e) j some right = refl
stays_first (Acted actions) Untouched some right = refl
stays_first (Acted actions) Absent some right = let bad = right actions refl in absurd cc
stays_first (Acted actions) (Gone e) some right = let bad = right actions refl in absurd cc
stays_first (Acted actions) (Acted later) some right = refl

not_gone : (same : List Action → List Action → Bool) (i : Said) (o : Option Entry) → is_gone i ≡ false → is_gone (sent_for same i o) ≡ false
not_gone same i o alone =
    elim (cases_Bool (is_gone (sent_for same i o))) [
      | inl gone ↦ let both = is_gone-sent same i o gone in absurd cc
      | inr other ↦ other
    ]

pub option_cases : (a : Option Image) → ((i : Image) × (a ≡ Some i)) ⊎ (a ≡ None)
option_cases None = inr refl
option_cases (Some i) = inl (i, refl)

first-front : (d : ℕ) (k : Key) (front inner : List Logged) (i : Image) → first_at d k front ≡ Some i → first_at d k (front ++ inner) ≡ first_at d k front
first-front d k front inner i is = first_at-append d k front inner ∙ ap (λ (a : Option Image). first_or a (first_at d k inner)) is ∙ sym is

first-inner : (d : ℕ) (k : Key) (front inner : List Logged) → first_at d k front ≡ None → first_at d k (front ++ inner) ≡ first_at d k inner
first-inner d k front inner none = first_at-append d k front inner ∙ ap (λ (a : Option Image). first_or a (first_at d k inner)) none

-- the images before an inner mark stand for the table of an outer one once what was logged since the inner mark is undone
pub stand-undone : (now d : ℕ) (same : List Action → List Action → Bool) (front inner : List Logged) (earlier : TableState) (sent : List Inverse) (t : TableState) → IsTest same → AreSetRight now d front inner → IsSentFor now d same inner sent t → ImagesStand now d earlier (front ++ inner) t → ImagesStand now d earlier front (undo now sent t)
stand-undone now d same front inner earlier sent t test right is h = record {
  was = h.was;
  serialed = IsSerialed-undo now sent t h.serialed;
  later = let rise = next-undo now sent t in let le = h.later in omega arith;
  keys = λ k.
      let o : Option Entry = entry_at k t.entries in
      let was : Option Entry = entry_at k earlier.entries in
      let i : Said = said now (first_at d k front) in
      let j : Said = said now (first_at d k inner) in
      Standing-undo now k earlier i sent t h.was h.serialed h.later (elim (option_cases (first_at d k front)) [
        | inl (image, found) ↦
            let some : i ≢ Untouched = λ none. right.say k image found (ap (said now) (sym found) ∙ none) in
            let kept : merge i (image_of k sent) ≡ i = stays_first i (image_of k sent) some (λ actions stands. ap is_gone (is k) ∙ not_gone same j o (right.stand k actions stands)) in
            let whole : said now (first_at d k (front ++ inner)) ≡ i = ap (said now) (first-front d k front inner image found) in
            Standing-is now earlier.next was (said now (first_at d k (front ++ inner))) (merge i (image_of k sent)) o (kept ∙ sym whole) (h.keys k)
        | inr none ↦
            let nothing : i ≡ Untouched = ap (said now) none in
            let whole : said now (first_at d k (front ++ inner)) ≡ j = ap (said now) (first-inner d k front inner none) in
            let sends : merge i (image_of k sent) ≡ sent_for same j o = ap (λ (x : Said). merge x (image_of k sent)) nothing ∙ is k in
            Standing-is now earlier.next was (sent_for same j o) (merge i (image_of k sent)) o sends
            (Standing-sent now earlier.next same was j o test (Standing-is now earlier.next was (said now (first_at d k (front ++ inner))) j o (sym whole) (h.keys k)))
      ]);
}

-- ---- A time-out

put-mended : (k : Key) (lost : Option Lost) (put : PutBack) → is_at k (with_lost_row lost put) ≡ is_at k put
put-mended k lost (Row l row before) = refl
put-mended k lost (Config port config) = refl
put-mended k lost (Settings flags len) = refl

pub is-mended : (d : ℕ) (k : Key) (lost : Option Lost) (hard : ℕ) (stands : Bool) (l : Logged) → is_image_of d k (mended lost hard stands l) ≡ is_image_of d k l
unfolding mended
is-mended d k lost hard stands l = rw (put-mended k lost l.image.put) refl

-- the first image of the key is the one that was set right
pub first-mended : (d : ℕ) (k : Key) (lost : Option Lost) (hard : ℕ) (at : ℕ) (since : List Logged) → IsFirstAt d k at since
    → (l : Logged) × (first_at d k since ≡ Some l.image) × (first_at d k (changed_at at (mended lost hard false) since) ≡ Some (mended lost hard false l).image)
first-mended d k lost hard at [] h = absurd h
first-mended d k lost hard zero (l ∷ log) h = (l, first_at-takes d k l log h, first_at-takes d k (mended lost hard false l) log (is-mended d k lost hard false l ∙ h))
first-mended d k lost hard (suc at) (l ∷ log) h =
    let (m, was, is) = first-mended d k lost hard at log h.1 in
    (m, first_at-skips d k l log h.0 ∙ was, first_at-skips d k l (changed_at at (mended lost hard false) log) h.0 ∙ is)

-- two keys that one image is of have one number
pub one-number : (d : ℕ) (k l : Key) (x : Logged) → is_image_of d k x ≡ true → is_image_of d l x ≡ true → key_number k ≡ key_number l
one-number d k l x a b = numbers x.image.put (second (x.dpid == d) (is_at k x.image.put) a) (second (x.dpid == d) (is_at l x.image.put) b)
  where
    second : (p q : Bool) → (p && q) ≡ true → q ≡ true
    second false q both = absurd cc
    second true q both = both

    numbers : (put : PutBack) → is_at k put ≡ true → is_at l put ≡ true → key_number k ≡ key_number l
    numbers (Row m row lost) a b = sym (eqb-true (key_number m) (key_number k) a) ∙ eqb-true (key_number m) (key_number l) b
    numbers (Config port config) a b = absurd cc
    numbers (Settings flags len) a b = absurd cc

-- the other keys' first images stay
pub first-others : (d : ℕ) (k l : Key) (lost : Option Lost) (hard : ℕ) (at : ℕ) (since : List Logged) → IsFirstAt d k at since → key_number k ≢ key_number l
    → first_at d l (changed_at at (mended lost hard false) since) ≡ first_at d l since
first-others d k l lost hard at [] h other = absurd h
first-others d k l lost hard zero (x ∷ log) h other =
    elim (cases_Bool (is_image_of d l x)) [
      | inl here ↦ absurd (other (one-number d k l x h here))
      | inr there ↦ first_at-skips d l (mended lost hard false x) log (is-mended d l lost hard false x ∙ there) ∙ sym (first_at-skips d l x log there)
    ]
first-others d k l lost hard (suc at) (x ∷ log) h other =
    elim (cases_Bool (is_image_of d l x)) [
      | inl here ↦ first_at-takes d l x (changed_at at (mended lost hard false) log) here ∙ sym (first_at-takes d l x log here)
      | inr there ↦ first_at-skips d l x (changed_at at (mended lost hard false) log) there ∙ first-others d k l lost hard at log h.1 other ∙ sym (first_at-skips d l x log there)
    ]

-- keys of one number have the same first image
pub first-number : (d : ℕ) (k l : Key) (log : List Logged) → key_number k ≡ key_number l → first_at d l log ≡ first_at d k log
first-number d k l [] same = refl
first-number d k l (x ∷ log) same =
    ap (λ (is : Bool). if x.dpid == d && is then Some x.image else first_at d l log) (at_one x.image.put)
    ∙ ap (λ (o : Option Image). if is_image_of d k x then Some x.image else o) (first-number d k l log same)
  where
    at_one : (put : PutBack) → is_at l put ≡ is_at k put
    at_one (Row m row lost) = ap (λ (n : ℕ). key_number m == n) (sym same)
    at_one (Config port config) = refl
    at_one (Settings flags len) = refl

pub said-gone : (now hard : ℕ) (lost : Lost) (l : Logged) (m : Key) (r : ViewRow) (before : Option Lost) → l.image.put ≡ Row m (Some r) before → said now (Some (mended (Some lost) hard false l).image) ≡ Gone (entry_of now r lost)
unfolding mended
said-gone now hard lost l m r before is = rw is refl

-- An entry goes by a time-out, and its first image, which had it stand, is set right.
pub stand-timed_out : (now d hard at : ℕ) (k : Key) (r : ViewRow) (lost : Lost) (e : Entry) (since : List Logged) (earlier t : TableState) → entry_at k t.entries ≡ Some e → IsLast now d at k r lost e since → ImagesStand now d earlier since t
    → ImagesStand now d earlier (changed_at at (mended (Some lost) hard false) since) (record t { entries = without k t.entries })
stand-timed_out now d hard at k r lost e since earlier t there last h = record {
  was = h.was;
  serialed = IsSerialed-from t (without k t.entries) (IsTable-without k t.entries h.serialed.table) (ComeFrom-filter (λ x. not (has_key k x)) t.entries h.serialed.table) h.serialed;
  later = h.later;
  keys = λ l. elim (cases_eq (key_number k) (key_number l)) [
    | inl same ↦ at_key l same
    | inr other ↦ beside l other
  ];
}
  where
    after : List Logged
    after = changed_at at (mended (Some lost) hard false) since

    -- keys of one number are one to images and to tables
    at_key : (l : Key) → key_number k ≡ key_number l → Standing now earlier.next (entry_at l earlier.entries) (said now (first_at d l after)) (entry_at l (without k t.entries))
    at_key l same =
        let (x, was, is) = first-mended d k (Some lost) hard at since last.first in
        let (before, m, put) = last.image x.image was in
        let gone : said now (first_at d k after) ≡ Gone (entry_of now r lost) = ap (said now) is ∙ said-gone now hard lost x m r before put in
        let merged : settled now (Gone (entry_of now r lost)) ≡ settled now (merge (said now (first_at d k since)) (Gone (seen e))) =
        ap (λ (f : Entry). settled now (Gone f)) last.entry ∙ ap (λ (i : Said). settled now (merge i (Gone (seen e)))) (sym last.stood) in
        let stood : Standing now earlier.next (entry_at k earlier.entries) (said now (first_at d k since)) (Some e) = rw there at (h.keys k) in
        let goes : Standing now earlier.next (entry_at k earlier.entries) (merge (said now (first_at d k since)) (Gone (seen e))) None =
        after_goes now earlier.next t.next (entry_at k earlier.entries) (said now (first_at d k since)) h.later (h.was.below k) e None (λ f is. absurd cc) stood in
        let whole : Standing now earlier.next (entry_at k earlier.entries) (said now (first_at d k after)) None =
        Standing-same now earlier.next (entry_at k earlier.entries) (merge (said now (first_at d k since)) (Gone (seen e))) (said now (first_at d k after)) None (ap (settled now) gone ∙ merged) goes in
        let first : first_at d l after ≡ first_at d k after = first-number d k l after same in
        let entry : entry_at l earlier.entries ≡ entry_at k earlier.entries = sym (entry_at-same_place earlier.entries k l same) in
        rw (entry_at-without-same k l t.entries h.serialed.table same, first, entry) whole

    beside : (l : Key) → key_number k ≢ key_number l → Standing now earlier.next (entry_at l earlier.entries) (said now (first_at d l after)) (entry_at l (without k t.entries))
    beside l other = rw (first-others d k l (Some lost) hard at since last.first other, entry_at-without-other k l t.entries h.serialed.table other) (h.keys l)
