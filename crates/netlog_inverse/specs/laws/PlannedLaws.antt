-- What follows about plans that are logged: the images since each open mark stand for its table after the change, once those that had an
-- entry stand which goes are set right; and a full table refuses an entry that is put back before another one is removed.
use Rattle.std.proofs.Common.{◌≡◌, ◌≢◌, ◌==◌, ℕ, zero, suc, ◌+◌, ◌-◌, ◌<◌, ◌≤◌, Bool, false, ◌&&◌, List, [], ◌∷◌, ◌++◌, length, map, drop, Option, Some, None, refl, sym, ap, ap₂, ◌∙◌, arith, inl, inr}
use Rattle.std.proofs.lemmas.Bool.{cases_Bool, cases_eq, eq-eqb, ne_eqb, le-leb}
use Rattle.std.specs.List.{list_any}
use Rattle.of_match.specs.declared.key.Key.{Key}
use Rattle.of_match.specs.Key.{key_number}
use Rattle.of_action.specs.declared.action.Action.{Action}
use Rattle.of_stats.specs.declared.flow_row.FlowRow.{FlowRow}
use Rattle.of_wire.specs.declared.bodies.FlowMod.{FlowMod}
use Rattle.flow_table.specs.declared.entry.Entry.{Entry}
use Rattle.flow_table.specs.declared.lost.Lost.{Lost}
use Rattle.flow_table.specs.declared.view.ViewRow.{ViewRow}
use Rattle.flow_table.specs.Errors.{all_tables_full}
use Rattle.flow_table.specs.Table.{TableState, place_of, has_key, entry_at, with_entry}
use Rattle.flow_table.specs.Change.{key_in, adds, clashes, is_full, refusal, changed}
use Rattle.flow_table.specs.Corrected.{shown_entries, shown_table}
use Rattle.flow_table.specs.laws.TableLaws.{length-with_entry-new}
use Rattle.undo_laws.specs.Log.{Inverse, PutBack, Image as Said, Untouched, Gone, Acted, logged, old_entry, back, undo, undo_one, merge, image_at, image_of, seen}
use Rattle.undo_laws.specs.Reverting.{IsAddition, Reverts, CanRevert}
use Rattle.undo_laws.specs.Stands.{is_gone}
use Rattle.undo_laws.specs.laws.LogLaws.{merge-untouched, merge-assoc, image_of-one, image_of-append}
use Rattle.netlog_inverse.specs.declared.image.Image.{Image}
use Rattle.netlog_inverse.specs.declared.image.Logged.{Logged}
use Rattle.netlog_inverse.specs.declared.image.PutBack.{PutBack as Put}
use Rattle.netlog_inverse.specs.declared.image.PutBack.TheVariants.{Row, Config, Settings}
use Rattle.netlog_inverse.specs.Plans.{planned, going, missing}
use Rattle.netlog_inverse.specs.Log.{logged_at, pushed, mended, changed_at}
use Rattle.netlog_inverse.specs.Meaning.{entry_of, said, settled, is_at, is_image_of, first_at, first_or, IsView, Reports}
use Rattle.netlog_inverse.specs.Marks.{ImagesStand, IsFirstAt, IsLast, IsSetRight, AreSetRightFor, IsImageAt}
use Rattle.netlog_inverse.specs.laws.FirstLaws.{first-pushed, first_at-takes, first_at-skips}
use Rattle.netlog_inverse.specs.laws.MarkLaws.{stand-changed, stays_first, one-number, is-mended, first-mended, first-others, first-number, said-gone}
use Rattle.netlog_inverse.specs.laws.MeaningLaws.{said-planned}
use Rattle.netlog_inverse.specs.laws.RestoringLaws.{settled-merge}

-- ---- Images that are set right

pub right-same : (now : ℕ) (a : Option Image) (newer : Said) → ((i : Image) → a ≡ Some i → merge (said now (Some i)) newer ≡ said now (Some i)) → IsSetRight now a newer a
right-same now None newer same = refl
right-same now (Some i) newer same = ap (settled now) (sym (same i refl))

-- those that have no entry stand which goes are right
pub right-stay : (now d : ℕ) (since : List Logged) (newer : List Inverse) → ((k : Key) (i : Image) → first_at d k since ≡ Some i → said now (Some i) ≢ Untouched)
    → ((k : Key) (actions : List Action) → said now (first_at d k since) ≡ Acted actions → is_gone (image_of k newer) ≡ false) → AreSetRightFor now d since newer since
right-stay now d since newer say stand k =
    right-same now (first_at d k since) (image_of k newer) (λ i is.
    stays_first (said now (Some i)) (image_of k newer) (say k i is) (λ actions acted. stand k actions (ap (said now) is ∙ acted)))

right-after : (now : ℕ) (a b c : Option Image) (older newer : Said) → IsSetRight now a older b → IsSetRight now b newer c → IsSetRight now a (merge older newer) c
right-after now None b c older newer first rest =
    let step : IsSetRight now None newer c = rw first at rest in step
right-after now (Some i) None c older newer first rest = absurd first
right-after now (Some i) (Some j) None older newer first rest = absurd rest
right-after now (Some i) (Some j) (Some l) older newer first rest =
    let a : Said = said now (Some i) in
    let b : Said = said now (Some j) in
    rest
    ∙ settled-merge now b newer
    ∙ ap (λ (x : Said). merge x (settled now newer)) first
    ∙ sym (settled-merge now (merge a older) newer)
    ∙ ap (settled now) (merge-assoc a older newer)

-- one change after another
pub right-more : (now d : ℕ) (since set after : List Logged) (older newer : List Inverse) → AreSetRightFor now d since older set → AreSetRightFor now d set newer after → AreSetRightFor now d since (older ++ newer) after
right-more now d since set after older newer first rest k =
    rw (image_of-append k older newer) (right-after now (first_at d k since) (first_at d k set) (first_at d k after) (image_of k older) (image_of k newer) (first k) (rest k))

pub old-here : (e : Entry) (l : Key) → place_of e ≡ key_number l → image_at l (old_entry e) ≡ Gone (seen e)
unfolding image_at
old-here e l same = rw (eq-eqb (place_of e) (key_number l) same) refl

pub old-there : (e : Entry) (l : Key) → place_of e ≢ key_number l → image_at l (old_entry e) ≡ Untouched
unfolding image_at
old-there e l other = rw (ne_eqb (place_of e) (key_number l) other) refl

-- an entry goes, and the image that had it stand is set right
pub right-mended : (now d hard at : ℕ) (k : Key) (r : ViewRow) (lost : Lost) (e : Entry) (since : List Logged) → place_of e ≡ key_number k → IsLast now d at k r lost e since
    → AreSetRightFor now d since (old_entry e ∷ []) (changed_at at (mended (Some lost) hard false) since)
right-mended now d hard at k r lost e since place last l =
    elim (cases_eq (key_number k) (key_number l)) [
      | inl same ↦ here same
      | inr other ↦ there other
    ]
  where
    after : List Logged
    after = changed_at at (mended (Some lost) hard false) since

    set_right : (a b : Option Image) (i j : Image) (newer : Said) → a ≡ Some i → b ≡ Some j → settled now (said now (Some j)) ≡ settled now (merge (said now (Some i)) newer) → IsSetRight now a newer b
    set_right a b i j newer first then right = rw (first, then) right

    here : key_number k ≡ key_number l → IsSetRight now (first_at d l since) (image_of l (old_entry e ∷ [])) (first_at d l after)
    here same =
        let (x, was, is) = first-mended d k (Some lost) hard at since last.first in
        let (before, m, put) = last.image x.image was in
        let gone : said now (Some (mended (Some lost) hard false x).image) ≡ Gone (entry_of now r lost) = said-gone now hard lost x m r before put in
        let stood : said now (Some x.image) ≡ Acted r.actions = ap (said now) (sym was) ∙ last.stood in
        let newer : image_of l (old_entry e ∷ []) ≡ Gone (seen e) = image_of-one l (old_entry e) ∙ old-here e l (place ∙ same) in
        set_right (first_at d l since) (first_at d l after) x.image (mended (Some lost) hard false x).image (image_of l (old_entry e ∷ []))
        (first-number d k l since same ∙ was) (first-number d k l after same ∙ is)
        (ap (settled now) gone ∙ ap (λ (f : Entry). settled now (Gone f)) last.entry ∙ ap₂ (λ (i j : Said). settled now (merge i j)) (sym stood) (sym newer))

    there : key_number k ≢ key_number l → IsSetRight now (first_at d l since) (image_of l (old_entry e ∷ [])) (first_at d l after)
    there other =
        let newer : image_of l (old_entry e ∷ []) ≡ Untouched = image_of-one l (old_entry e) ∙ old-there e l (λ same. other (sym place ∙ same)) in
        rw (newer, first-others d k l (Some lost) hard at since last.first other) (right-same now (first_at d l since) Untouched (λ i is. merge-untouched (said now (Some i))))

-- ---- Images that are set right by their positions in the whole log

pub drop-changed-before : {A : Type 0} (outer at : ℕ) (f : A → A) (xs : List A) → at < outer → drop outer (changed_at at f xs) ≡ drop outer xs
drop-changed-before zero at f xs lt = absurd (omega arith)
drop-changed-before (suc outer) at f [] lt = refl
drop-changed-before (suc outer) zero f (x ∷ xs) lt = refl
drop-changed-before (suc outer) (suc at) f (x ∷ xs) lt = drop-changed-before outer at f xs (omega arith)

pub drop-changed-behind : {A : Type 0} (outer at : ℕ) (f : A → A) (xs : List A) → outer ≤ at → drop outer (changed_at at f xs) ≡ changed_at (at - outer) f (drop outer xs)
drop-changed-behind zero at f xs le = let same : at ≡ at - 0 = omega arith in ap (λ (n : ℕ). changed_at n f xs) same
drop-changed-behind (suc outer) at f [] le = refl
drop-changed-behind (suc outer) zero f (x ∷ xs) le = absurd (omega arith)
drop-changed-behind (suc outer) (suc at) f (x ∷ xs) le =
    let same : at - outer ≡ suc at - suc outer = omega arith in
    drop-changed-behind outer at f xs (omega arith) ∙ ap (λ (n : ℕ). changed_at n f (drop outer xs)) same

-- an image of another key is set right
first-beside : (d : ℕ) (k l : Key) (lost : Option Lost) (hard at : ℕ) (since : List Logged) → IsImageAt d k at since → key_number k ≢ key_number l → first_at d l (changed_at at (mended lost hard false) since) ≡ first_at d l since
first-beside d k l lost hard at [] h other = absurd h
first-beside d k l lost hard zero (x ∷ log) h other =
    elim (cases_Bool (is_image_of d l x)) [
      | inl here ↦ absurd (other (one-number d k l x h here))
      | inr there ↦ first_at-skips d l (mended lost hard false x) log (is-mended d l lost hard false x ∙ there) ∙ sym (first_at-skips d l x log there)
    ]
first-beside d k l lost hard (suc at) (x ∷ log) h other =
    elim (cases_Bool (is_image_of d l x)) [
      | inl here ↦ first_at-takes d l x (changed_at at (mended lost hard false) log) here ∙ sym (first_at-takes d l x log here)
      | inr there ↦ first_at-skips d l x (changed_at at (mended lost hard false) log) there ∙ first-beside d k l lost hard at log h other ∙ sym (first_at-skips d l x log there)
    ]

pub image-number : (d : ℕ) (k l : Key) (x : Logged) → key_number k ≡ key_number l → is_image_of d l x ≡ is_image_of d k x
image-number d k l x same = ap (λ (is : Bool). x.dpid == d && is) (at_one x.image.put)
  where
    at_one : (put : Put) → is_at l put ≡ is_at k put
    at_one (Row m row lost) = ap (λ (n : ℕ). key_number m == n) (sym same)
    at_one (Config port config) = refl
    at_one (Settings flags len) = refl

-- a later image of a key is set right: the first ones stay
first-later : (d : ℕ) (k l : Key) (lost : Option Lost) (hard first at : ℕ) (since : List Logged) → IsFirstAt d k first since → first < at → IsImageAt d k at since → first_at d l (changed_at at (mended lost hard false) since) ≡ first_at d l since
first-later d k l lost hard first at [] h lt is = absurd h
first-later d k l lost hard first zero (x ∷ log) h lt is = absurd (omega arith)
first-later d k l lost hard zero (suc at) (x ∷ log) h lt is =
    elim (cases_Bool (is_image_of d l x)) [
      | inl here ↦ first_at-takes d l x (changed_at at (mended lost hard false) log) here ∙ sym (first_at-takes d l x log here)
      | inr there ↦
          let other : key_number k ≢ key_number l = λ same. let both = image-number d k l x same in absurd cc in
          first_at-skips d l x (changed_at at (mended lost hard false) log) there ∙ first-beside d k l lost hard at log is other ∙ sym (first_at-skips d l x log there)
    ]
first-later d k l lost hard (suc first) (suc at) (x ∷ log) h lt is =
    elim (cases_Bool (is_image_of d l x)) [
      | inl here ↦ first_at-takes d l x (changed_at at (mended lost hard false) log) here ∙ sym (first_at-takes d l x log here)
      | inr there ↦ first_at-skips d l x (changed_at at (mended lost hard false) log) there ∙ first-later d k l lost hard first at log h.1 (omega arith) is ∙ sym (first_at-skips d l x log there)
    ]

nothing-logged : (k : Key) → image_of k [] ≡ Untouched
unfolding image_of
nothing-logged k = refl

pub right-later : (now d hard first at : ℕ) (k : Key) (lost : Lost) (since : List Logged) → IsFirstAt d k first since → first < at → IsImageAt d k at since → AreSetRightFor now d since [] (changed_at at (mended (Some lost) hard false) since)
right-later now d hard first at k lost since is lt image l =
    rw (nothing-logged l, first-later d k l (Some lost) hard first at since is lt image) (right-same now (first_at d l since) Untouched (λ i found. merge-untouched (said now (Some i))))

-- ---- A change that is planned and logged

says-more : (now : ℕ) (a set b : Option Image) (newer : Said) → IsSetRight now a newer set → settled now (said now b) ≡ settled now newer → settled now (said now (first_or set b)) ≡ settled now (merge (said now a) newer)
says-more now None set b newer right more =
    ap (λ (x : Option Image). settled now (said now (first_or x b))) right ∙ more
says-more now (Some i) None b newer right more = absurd right
says-more now (Some i) (Some j) b newer right more = right

pub stand-planned : (now d mark outer : ℕ) (m : FlowMod) (rs : List ViewRow) (cache : List (Key × Lost)) (fs : List FlowRow) (earlier t : TableState) (log set : List Logged)
    → IsView now rs cache t.entries → Reports now t.entries fs → missing (going m rs) fs ≡ None → outer ≤ mark → mark ≤ length set
    → AreSetRightFor now d (drop outer log) (logged m (shown_entries rs cache t.entries)) (drop outer set) → ImagesStand now d earlier (drop outer log) (shown_table rs cache t)
    → ImagesStand now d earlier (drop outer (pushed mark d (planned m rs cache fs) set)) (changed now m (shown_table rs cache t))
stand-planned now d mark outer m rs cache fs earlier t log set view reports none le within right h =
    stand-changed now d (drop outer log) (drop outer (pushed mark d (planned m rs cache fs) set)) earlier m (shown_table rs cache t) (λ k.
    ap (λ (x : Option Image). settled now (said now x)) (first-pushed mark outer d d k (planned m rs cache fs) set le within)
    ∙ says-more now (first_at d k (drop outer log)) (first_at d k (drop outer set)) (first_at d k (map (logged_at d) (planned m rs cache fs)))
    (image_of k (logged m (shown_entries rs cache t.entries))) (right k) (said-planned now d k m rs cache fs t.entries view reports none)) h

-- ---- A full table

none-has : (k : Key) (es : List Entry) → entry_at k es ≡ None → list_any (has_key k) es ≡ false
none-has k [] none = refl
none-has k (f ∷ fs) none =
    elim (cases_Bool (has_key k f)) [
      | inl has ↦ let bad : Some f ≡ None = rw has at none in absurd cc
      | inr other ↦ rw other (none-has k fs (rw other at none))
    ]

addition-refused : (cap : ℕ) (e : Entry) (m : FlowMod) (es : List Entry) → IsAddition e m → cap ≤ length es → entry_at e.key es ≡ None → refusal cap m es ≡ Some all_tables_full
unfolding refusal adds clashes is_full
addition-refused cap e m es is full none =
    let at : entry_at (key_in m) es ≡ None = ap (λ (k : Key). entry_at k es) is.key ∙ none in
    rw (is.command, is.unchecked, none-has (key_in m) es at, le-leb cap (length es) full) refl

-- a full table refuses the ADD of a new key
pub full-refused : (cap : ℕ) (e : Entry) (m : FlowMod) (t : TableState) → Reverts (PutBack e) m → cap ≤ length t.entries → entry_at e.key t.entries ≡ None → refusal cap m t.entries ≡ Some all_tables_full
full-refused cap e m t is full none = addition-refused cap e m t.entries is full none

last-reverts : (cap now : ℕ) (e : Entry) (t : TableState) → CanRevert cap now (PutBack e ∷ []) t → length (with_entry (back now t.next e) t.entries) ≤ cap
unfolding undo undo_one
last-reverts cap now e t can = can.2

-- and so nothing that begins with it can be sent
pub full-first : (cap now : ℕ) (e : Entry) (rest : List Inverse) (t : TableState) → cap ≤ length t.entries → entry_at e.key t.entries ≡ None → CanRevert cap now (rest ++ PutBack e ∷ []) t → ⊥
full-first cap now e [] t full none can =
    let fits = last-reverts cap now e t can in
    let long = length-with_entry-new t.entries (back now t.next e) none in
    omega arith
full-first cap now e (x ∷ rest) t full none can = full-first cap now e rest t full none can.0
