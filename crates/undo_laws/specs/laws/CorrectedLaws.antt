-- What follows about tables as they are shown: changes, refusals and inverses do to them what they do to the switch's own.
use Rattle.std.proofs.Common.{◌≡◌, ◌==◌, ℕ, ◌+◌, ◌<◌, Bool, true, false, not, ◌&&◌, ◌||◌, nat_le, List, [], ◌∷◌, map, filter, IsSome, refl, sym, ap, ap₂, ◌∙◌, arith, inl, inr}
use Rattle.std.proofs.lemmas.Bool.{cases_lt, cases_Bool}
use Rattle.std.proofs.lemmas.List.{length-map}
use Rattle.std.specs.List.{list_any}
use Rattle.of_match.specs.declared.key.Key.{Key}
use Rattle.of_match.specs.Key.{key_number}
use Rattle.of_action.specs.declared.action.Action.{Action}
use Rattle.match_overlap.specs.Relations.{is_overlapping}
use Rattle.of_wire.specs.declared.bodies.FlowMod.{FlowMod}
use Rattle.flow_table.specs.declared.entry.Entry.{Entry}
use Rattle.flow_table.specs.Table.{TableState, place_of, has_key, entry_at, AscendsFrom, IsTable, with_entry}
use Rattle.flow_table.specs.laws.TableLaws.{IsTable-map, with_entry-before, with_entry-same, with_entry-after}
use Rattle.flow_table.specs.Change.{key_in, is_modify, describes, sends_to, deletes, adds, checks_overlap, clashes, is_full, modified, new_entry, refusal, entries_after, changed, means, clashes_with}
use Rattle.flow_table.specs.laws.ChangeLaws.{list_any-same, entries_after-adds, entries_after-modify, entries_after-delete}
use Rattle.undo_laws.specs.laws.LookupLaws.{filter-same}
use Rattle.undo_laws.specs.Serials.{IsSerialed}
use Rattle.undo_laws.specs.laws.SerialsLaws.{IsSerialed-from, ComeFrom-map}
use Rattle.undo_laws.specs.Log.{Remove, PutBack, GiveActions, logged_addition, logged, give_actions, back, undo_one}
use Rattle.undo_laws.specs.Reverting.{Reverts}
use Rattle.undo_laws.specs.laws.RevertingLaws.{removal-reverts, modification-reverts, addition-reverts, map-same}
use Rattle.undo_laws.specs.Corrected.{IsCorrection, AgreeBut, corrected, AsksTheSame}

-- ---- Lists of entries

any-shown : (test : Entry → Bool) (g : Entry → Entry) → ((e : Entry) → test (g e) ≡ test e) → (es : List Entry) → list_any test (map g es) ≡ list_any test es
any-shown test g blind [] = refl
any-shown test g blind (e ∷ es) = ap₂ (λ a b. a || b) (blind e) (any-shown test g blind es)

pub filter-shown : (test : Entry → Bool) (g : Entry → Entry) → ((e : Entry) → test (g e) ≡ test e) → (es : List Entry) → filter test (map g es) ≡ map g (filter test es)
filter-shown test g blind [] = refl
filter-shown test g blind (e ∷ es) =
    elim (cases_Bool (test e)) [
      | inl passes ↦ rw (blind e, passes) (ap (λ xs. g e ∷ xs) (filter-shown test g blind es))
      | inr fails ↦ rw (blind e, fails) (filter-shown test g blind es)
    ]

pub map-shown : (f g : Entry → Entry) → ((e : Entry) → f (g e) ≡ g (f e)) → (es : List Entry) → map f (map g es) ≡ map g (map f es)
map-shown f g blind [] = refl
map-shown f g blind (e ∷ es) = ap₂ (λ x xs. x ∷ xs) (blind e) (map-shown f g blind es)

above-agree : (k : Key) (g h : Entry → Entry) → AgreeBut k g h → (es : List Entry) (least : ℕ) → AscendsFrom least es → key_number k < least → map h es ≡ map g es
above-agree k g h agree [] least up lt = refl
above-agree k g h agree (e ∷ es) least up lt =
    ap₂ (λ x xs. x ∷ xs) (agree e (omega (arith, up.0))) (above-agree k g h agree es (place_of e + 1) up.1 (omega (arith, up.0)))

-- a table with an entry, shown by a correction that differs at its key alone
with_entry-shown : (g h : Entry → Entry) (n : Entry) → ((e : Entry) → place_of (g e) ≡ place_of e) → place_of (h n) ≡ place_of n → AgreeBut n.key g h → (es : List Entry) (least : ℕ) → AscendsFrom least es → map h (with_entry n es) ≡ with_entry (h n) (map g es)
with_entry-shown g h n keeps at agree [] least up = refl
with_entry-shown g h n keeps at agree (f ∷ fs) least up =
    let there = keeps f in
    elim (cases_lt (place_of n) (place_of f)) [
      | inl lt ↦
          let first = with_entry-before n f fs lt in
          let rest = above-agree n.key g h agree (f ∷ fs) (place_of f) (omega arith, up.1) lt in
          ap (map h) first ∙ ap (λ xs. h n ∷ xs) rest ∙ sym (with_entry-before (h n) (g f) (map g fs) (omega arith))
      | inr ge ↦ elim (cases_lt (place_of f) (place_of n)) [
        | inl gt ↦
            ap (map h) (with_entry-after n f fs gt)
            ∙ ap₂ (λ x xs. x ∷ xs) (agree f (omega arith)) (with_entry-shown g h n keeps at agree fs (place_of f + 1) up.1)
            ∙ sym (with_entry-after (h n) (g f) (map g fs) (omega arith))
        | inr le ↦
            let same : place_of n ≡ place_of f = omega arith in
            let rest = above-agree n.key g h agree fs (place_of f + 1) up.1 (omega arith) in
            ap (map h) (with_entry-same n f fs same) ∙ ap (λ xs. h n ∷ xs) rest ∙ sym (with_entry-same (h n) (g f) (map g fs) (omega arith))
      ]
    ]

module _ (g : Entry → Entry) (c : IsCorrection g) where
  key_number-shown : (e : Entry) → place_of (g e) ≡ place_of e
  key_number-shown e = ap key_number (c.key e)

  pub IsSerialed-corrected : (t : TableState) → IsSerialed t → IsSerialed (corrected g t)
  IsSerialed-corrected t h = IsSerialed-from t (map g t.entries) (IsTable-map g key_number-shown t.entries h.table) (ComeFrom-map g key_number-shown c.serial t.entries) h

  -- ---- Refusals

  means-shown : (m : FlowMod) (e : Entry) → means m (g e) ≡ means m e
  means-shown m e = ap (describes m) (c.key e)

  deletes-shown : (m : FlowMod) (e : Entry) → deletes m (g e) ≡ deletes m e
  deletes-shown m e = ap₂ (λ k actions. describes m k && sends_to m.out_port actions) (c.key e) (c.actions e)

  pub adds-corrected : (m : FlowMod) (es : List Entry) → adds m (map g es) ≡ adds m es
  unfolding adds
  adds-corrected m es = ap (λ b. m.command == 0 || (is_modify m && not b)) (any-shown (means m) g (means-shown m) es)

  clashes-corrected : (m : FlowMod) (es : List Entry) → clashes m (map g es) ≡ clashes m es
  unfolding clashes
  clashes-corrected m es =
      ap (λ b. checks_overlap m.flags && b)
      (any-shown (clashes_with (key_in m)) g (λ e. ap (λ k. k.priority == m.priority && (not (key_number k == key_number (key_in m)) && is_overlapping k.matching m.matching)) (c.key e)) es)

  full-corrected : (cap : ℕ) (m : FlowMod) (es : List Entry) → is_full cap m (map g es) ≡ is_full cap m es
  unfolding is_full
  full-corrected cap m es =
      ap₂ (λ b n. not b && nat_le cap n) (any-shown (has_key (key_in m)) g (λ e. ap (λ k. key_number k == key_number (key_in m)) (c.key e)) es) (length-map es g)

  pub refusal-corrected : (cap : ℕ) (m : FlowMod) (es : List Entry) → refusal cap m (map g es) ≡ refusal cap m es
  unfolding refusal
  refusal-corrected cap m es = rw (adds-corrected m es, clashes-corrected m es, full-corrected cap m es) refl

  -- the entries that a change removes
  pub removed-corrected : (m : FlowMod) (es : List Entry) → filter (deletes m) (map g es) ≡ map g (filter (deletes m) es)
  removed-corrected m es = filter-shown (deletes m) g (deletes-shown m) es

  -- ---- Inverses

  pub removal-corrected : (now : ℕ) (k : Key) (t : TableState) → corrected g (undo_one now (Remove k) t) ≡ undo_one now (Remove k) (corrected g t)
  unfolding undo_one
  removal-corrected now k t =
      ap (λ (es : List Entry). record t { entries = es })
      (sym (filter-shown (λ e. not (has_key k e)) g (λ e. ap (λ l. not (key_number l == key_number k)) (c.key e)) t.entries))

  gives-shown : (k : Key) (actions : List Action) (e : Entry) → give_actions k actions (g e) ≡ g (give_actions k actions e)
  gives-shown k actions e =
      let at : has_key k (g e) ≡ has_key k e = ap (λ l. key_number l == key_number k) (c.key e) in
      elim (cases_Bool (has_key k e)) [
        | inl has ↦ rw (at, has) (sym (c.acted e actions))
        | inr other ↦ rw (at, other) refl
      ]

  pub actions-corrected : (now : ℕ) (k : Key) (actions : List Action) (t : TableState) → corrected g (undo_one now (GiveActions k actions) t) ≡ undo_one now (GiveActions k actions) (corrected g t)
  unfolding undo_one
  actions-corrected now k actions t =
      ap (λ (es : List Entry). record t { entries = es }) (sym (map-shown (give_actions k actions) g (gives-shown k actions) t.entries))

  modified-shown : (m : FlowMod) (e : Entry) → modified m (g e) ≡ g (modified m e)
  modified-shown m e =
      elim (cases_Bool (describes m e.key)) [
        | inl meets ↦ rw (means-shown m e, meets) (sym (c.acted e m.actions))
        | inr other ↦ rw (means-shown m e, other) refl
      ]

-- ---- Messages that ask for the same

key-asked : (sent m : FlowMod) → AsksTheSame sent m → key_in sent ≡ key_in m
key-asked sent m a = rw (a.priority, a.matching) refl

describes-asked : (sent m : FlowMod) → AsksTheSame sent m → (k : Key) → describes sent k ≡ describes m k
unfolding describes
describes-asked sent m a k = rw (a.command, a.matching, a.priority) refl

deletes-asked : (sent m : FlowMod) → AsksTheSame sent m → (e : Entry) → deletes sent e ≡ deletes m e
deletes-asked sent m a e = ap₂ (λ b port. b && sends_to port e.actions) (describes-asked sent m a e.key) a.out_port

modified-asked : (sent m : FlowMod) → AsksTheSame sent m → (e : Entry) → modified sent e ≡ modified m e
modified-asked sent m a e = rw (describes-asked sent m a e.key, a.actions) refl

modify-asked : (sent m : FlowMod) → AsksTheSame sent m → is_modify sent ≡ is_modify m
modify-asked sent m a = rw a.command refl

adds-asked : (sent m : FlowMod) (es : List Entry) → AsksTheSame sent m → adds sent es ≡ adds m es
unfolding adds
adds-asked sent m es a = rw (list_any-same (means sent) (means m) (λ e. describes-asked sent m a e.key) es, a.command) refl

clashes-asked : (sent m : FlowMod) (es : List Entry) → AsksTheSame sent m → clashes sent es ≡ clashes m es
unfolding clashes
clashes-asked sent m es a = rw (a.checks, a.priority, a.matching) refl

full-asked : (cap : ℕ) (sent m : FlowMod) (es : List Entry) → AsksTheSame sent m → is_full cap sent es ≡ is_full cap m es
unfolding is_full
full-asked cap sent m es a = rw (a.priority, a.matching) refl

-- it is refused alike
pub refusal-asked : (cap : ℕ) (sent m : FlowMod) (es : List Entry) → AsksTheSame sent m → refusal cap sent es ≡ refusal cap m es
unfolding refusal
refusal-asked cap sent m es a = rw (adds-asked sent m es a, clashes-asked sent m es a, full-asked cap sent m es a, a.command) refl

addition-asked : (sent m : FlowMod) (es : List Entry) → AsksTheSame sent m → logged_addition (key_in sent) (entry_at (key_in sent) es) ≡ logged_addition (key_in m) (entry_at (key_in m) es)
addition-asked sent m es a = ap (λ k. logged_addition k (entry_at k es)) (key-asked sent m a)

-- it logs the same
pub logged-asked : (sent m : FlowMod) (es : List Entry) → AsksTheSame sent m → logged sent es ≡ logged m es
unfolding logged
logged-asked sent m es a =
    rw (
      adds-asked sent m es a,
      modify-asked sent m a,
      addition-asked sent m es a,
      filter-same (means sent) (means m) (λ e. describes-asked sent m a e.key) es,
      filter-same (deletes sent) (deletes m) (deletes-asked sent m a) es,
    ) refl

-- ---- Changes

kept-entries : (now serial : ℕ) (g : Entry → Entry) (sent m : FlowMod) (es : List Entry) → IsCorrection g → AsksTheSame sent m → adds m es ≡ false → map g (entries_after now serial sent es) ≡ entries_after now serial m (map g es)
kept-entries now serial g sent m es c a keeps =
    let still : adds sent es ≡ false = adds-asked sent m es a ∙ keeps in
    let shown : adds m (map g es) ≡ false = adds-corrected g c m es ∙ keeps in
    elim (cases_Bool (is_modify m)) [
      | inl modifies ↦
          ap (map g) (entries_after-modify now serial sent es still (modify-asked sent m a ∙ modifies) ∙ map-same (modified sent) (modified m) (modified-asked sent m a) es)
          ∙ sym (entries_after-modify now serial m (map g es) shown modifies ∙ map-shown (modified m) g (modified-shown g c m) es)
      | inr removes ↦
          let left : (f : FlowMod) (e : Entry) → Bool = λ f e. not (deletes f e) in
          ap (map g) (entries_after-delete now serial sent es still (modify-asked sent m a ∙ removes) ∙ filter-same (left sent) (left m) (λ e. ap not (deletes-asked sent m a e)) es)
          ∙ sym (entries_after-delete now serial m (map g es) shown removes ∙ filter-shown (left m) g (λ e. ap not (deletes-shown g c m e)) es)
    ]

-- a change that puts no entry in
pub kept-corrected : (now : ℕ) (g : Entry → Entry) (sent m : FlowMod) (t : TableState) → IsCorrection g → AsksTheSame sent m → adds m t.entries ≡ false → corrected g (changed now sent t) ≡ changed now m (corrected g t)
unfolding changed
kept-corrected now g sent m t c a keeps =
    rw (kept-entries now t.next g sent m t.entries c a keeps, adds-asked sent m t.entries a, adds-corrected g c m t.entries) refl

new-key : (now serial : ℕ) (sent : FlowMod) → (new_entry now serial sent).key ≡ key_in sent
unfolding new_entry
new-key now serial sent = refl

-- a change that puts an entry in, which is shown as asked for
pub addition-corrected : (now : ℕ) (g h : Entry → Entry) (sent m : FlowMod) (t : TableState) → IsTable t.entries → IsCorrection g → IsCorrection h → AgreeBut (key_in m) g h → AsksTheSame sent m → adds m t.entries ≡ true → h (new_entry now t.next sent) ≡ new_entry now t.next m → corrected h (changed now sent t) ≡ changed now m (corrected g t)
unfolding changed
addition-corrected now g h sent m t is c d agree a puts new =
    let es : List Entry = t.entries in
    let n : Entry = new_entry now t.next sent in
    let at : n.key ≡ key_in m = new-key now t.next sent ∙ key-asked sent m a in
    let still : adds sent es ≡ true = adds-asked sent m es a ∙ puts in
    let shown : adds m (map g es) ≡ true = adds-corrected g c m es ∙ puts in
    let after : map h (entries_after now t.next sent es) ≡ entries_after now t.next m (map g es) =
    ap (map h) (entries_after-adds now t.next sent es still)
    ∙ with_entry-shown g h n (key_number-shown g c) (key_number-shown h d n) (λ e other. agree e (λ same. other (same ∙ sym (ap key_number at)))) es 0 is
    ∙ ap (λ x. with_entry x (map g es)) new
    ∙ sym (entries_after-adds now t.next m (map g es) shown) in
    rw (after, still, shown) refl

-- an entry that is put back, which is shown as it was
pub put_back-corrected : (now : ℕ) (g h : Entry → Entry) (e : Entry) (m : FlowMod) (t : TableState) → IsTable t.entries → IsCorrection g → IsCorrection h → AgreeBut e.key g h → Reverts (PutBack e) m → h (new_entry now t.next m) ≡ back now t.next e → corrected h (changed now m t) ≡ undo_one now (PutBack e) (corrected g t)
unfolding undo_one
put_back-corrected now g h e m t is c d agree reverts new =
    let n : Entry = new_entry now t.next m in
    let at : n.key ≡ e.key = new-key now t.next m ∙ reverts.key in
    ap (corrected h) (addition-reverts now e m t reverts)
    ∙ ap (λ (es : List Entry). record { entries = es; next = t.next + 1 })
    (with_entry-shown g h n (key_number-shown g c) (key_number-shown h d n) (λ f other. agree f (λ same. other (same ∙ sym (ap key_number at)))) t.entries 0 is
    ∙ ap (λ x. with_entry x (map g t.entries)) new)

pub remove-corrected : (now : ℕ) (g : Entry → Entry) (k : Key) (m : FlowMod) (t : TableState) → IsCorrection g → Reverts (Remove k) m → corrected g (changed now m t) ≡ undo_one now (Remove k) (corrected g t)
remove-corrected now g k m t c reverts = ap (corrected g) (removal-reverts now k m t reverts) ∙ removal-corrected g c now k t

pub give-corrected : (now : ℕ) (g : Entry → Entry) (k : Key) (actions : List Action) (m : FlowMod) (t : TableState) → IsCorrection g → IsSome (entry_at k t.entries) → Reverts (GiveActions k actions) m → corrected g (changed now m t) ≡ undo_one now (GiveActions k actions) (corrected g t)
give-corrected now g k actions m t c some reverts = ap (corrected g) (modification-reverts now k actions m t some reverts) ∙ actions-corrected g c now k actions t
