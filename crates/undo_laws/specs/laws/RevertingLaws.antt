-- What follows about logs that can be reverted: no inverse is refused, and each change keeps it so.
use Rattle.std.proofs.Common.{◌≡◌, ◌≢◌, ◌==◌, ℕ, ◌+◌, ◌-◌, ◌%◌, ◌<◌, ◌≤◌, Bool, true, false, not, nat_le, List, [], ◌∷◌, ◌++◌, length, map, filter, All, Option, Some, None, IsSome, refl, sym, ap, ap₂, ◌∙◌, ◌⊎◌, arith, inl, inr}
use Rattle.std.proofs.lemmas.Bool.{ne_eqb, cases_lt, cases_eq, cases_Bool, and_right, and_cases, lt-leb, leb-false}
use Rattle.std.proofs.lemmas.List.{append-nil, length-map}
use Rattle.std.proofs.lemmas.List.Elements.{All-head, All-tail, All-weaker, All-filter, All-contains_itself}
use Rattle.std.proofs.lemmas.List.Filters.{length-filter_both}
use Rattle.std.specs.List.{list_any, Contains}
use Rattle.std.specs.Option.{option_map, is_some}
use Rattle.of_match.specs.declared.key.Key.{Key}
use Rattle.of_match.specs.Key.{key_number}
use Rattle.of_action.specs.declared.action.Action.{Action}
use Rattle.of_wire.specs.declared.bodies.FlowMod.{FlowMod}
use Rattle.flow_table.specs.declared.entry.Entry.{Entry}
use Rattle.flow_table.specs.Table.{TableState, place_of, has_key, entry_at, AscendsFrom, IsTable, with_entry}
use Rattle.flow_table.specs.laws.TableLaws.{IsTable-with_entry, length-with_entry-le, length-with_entry-new, entry_at-same, entry_at-other, entry_at-below, entry_at-map, entry_at-with_entry-same, entry_at-with_entry-other}
use Rattle.flow_table.specs.Change.{key_in, is_strict, is_modify, describes, deletes, adds, checks_overlap, clashes, is_full, modified, new_entry, refusal, notices_of, entries_after, changed, change, means}
use Rattle.flow_timeouts.specs.Timeouts.{end_of, first_end, deadline_of, remaining_of}
use Rattle.flow_table.specs.Expiry.{deadline}
use Rattle.flow_table.specs.laws.ChangeLaws.{notices_of-kept, describes-strict, list_any-strict, place_of-modified, entries_after-adds, entries_after-modify, entries_after-delete}
use Rattle.flow_table.specs.laws.RefusalLaws.{not_full}
use Rattle.undo_laws.specs.laws.LookupLaws.{cases_Option, entry_at-same_place, entry_at-contains}
use Rattle.undo_laws.specs.laws.RemovalLaws.{removal-refusal, removal-changed}
use Rattle.undo_laws.specs.Serials.{IsSerialed}
use Rattle.undo_laws.specs.laws.SerialsLaws.{IsSerialed-changed}
use Rattle.undo_laws.specs.Log.{Inverse, Remove, PutBack, GiveActions, Image, Untouched, Absent, Gone, Acted, logged_addition, old_entry, old_actions, logged, logged_by, with_actions, give_actions, back, undo_one, undo, image_of, given_back, seen}
use Rattle.undo_laws.specs.laws.LogLaws.{undo-append, undo-image, key_number-give_actions, IsSerialed-undo}
use Rattle.undo_laws.specs.laws.StandingLaws.{Changes, stays, comes, gives_way, goes, acts}
use Rattle.undo_laws.specs.laws.StandsLaws.{Changes-changed}
use Rattle.undo_laws.specs.Reverting.{IsAddition, IsModification, Reverts, Meets, CanRevert, SameKeys}

-- ---- Tables with entries of the same keys

same_head : (e f : Entry) (es fs : List Entry) (least : ℕ) → AscendsFrom least (f ∷ fs) → SameKeys (e ∷ es) (f ∷ fs) → place_of f ≤ place_of e
same_head e f es fs least i same =
    elim (cases_lt (place_of e) (place_of f)) [
      | inl lt ↦
          let here = ap is_some (entry_at-same e.key e es refl) in
          let there = same e.key in
          let none = ap is_some (entry_at-below (f ∷ fs) e.key (place_of f) (omega arith, i.1) lt) in
          absurd cc
      | inr le ↦ le
    ]

same_tail : (e f : Entry) (es fs : List Entry) (least : ℕ) → place_of e ≡ place_of f → AscendsFrom least (e ∷ es) → AscendsFrom least (f ∷ fs) → SameKeys (e ∷ es) (f ∷ fs) → SameKeys es fs
same_tail e f es fs least at h i same k =
    elim (cases_eq (place_of e) (key_number k)) [
      | inl here ↦ ap is_some (entry_at-below es k (place_of e + 1) h.1 (omega arith) ∙ sym (entry_at-below fs k (place_of f + 1) i.1 (omega arith)))
      | inr there ↦ sym (ap is_some (entry_at-other k e es there)) ∙ same k ∙ ap is_some (entry_at-other k f fs (λ eq. there (at ∙ eq)))
    ]

length_from : (es fs : List Entry) (least : ℕ) → AscendsFrom least es → AscendsFrom least fs → SameKeys es fs → length es ≡ length fs
length_from [] [] least h i same = refl
length_from [] (f ∷ fs) least h i same = let here = same f.key in let there = ap is_some (entry_at-same f.key f fs refl) in absurd cc
length_from (e ∷ es) [] least h i same = let here = same e.key in let there = ap is_some (entry_at-same e.key e es refl) in absurd cc
length_from (e ∷ es) (f ∷ fs) least h i same =
    let a = same_head e f es fs least i same in
    let b = same_head f e fs es least h (λ k. sym (same k)) in
    let at : place_of e ≡ place_of f = omega arith in
    let low : AscendsFrom (place_of e + 1) fs = rw at i.1 in
    let rest = length_from es fs (place_of e + 1) h.1 low (same_tail e f es fs least at h i same) in
    omega arith

pub length-same_keys : (es fs : List Entry) → IsTable es → IsTable fs → SameKeys es fs → length es ≡ length fs
length-same_keys es fs h i same = length_from es fs 0 h i same

pub some_map : (g : Entry → Entry) (o : Option Entry) → is_some (option_map g o) ≡ is_some o
some_map g None = refl
some_map g (Some e) = refl

some_given : (now : ℕ) (i : Image) (o p : Option Entry) → is_some o ≡ is_some p → is_some (given_back now i o) ≡ is_some (given_back now i p)
some_given now Untouched o p same = same
some_given now Absent o p same = refl
some_given now (Gone e) o p same = refl
some_given now (Acted actions) o p same = some_map (with_actions actions) o ∙ same ∙ sym (some_map (with_actions actions) p)

some_undone : (now : ℕ) (k : Key) (log : List Inverse) (t : TableState) → IsSerialed t → is_some (entry_at k (undo now log t).entries) ≡ is_some (given_back now (image_of k log) (entry_at k t.entries))
some_undone now k log t h =
    let o : Option Entry = entry_at k (undo now log t).entries in
    let p : Option Entry = given_back now (image_of k log) (entry_at k t.entries) in
    sym (some_map seen o) ∙ ap is_some (undo-image now k log t h) ∙ some_map seen p

-- a log leaves the same keys in tables with the same keys
pub SameKeys-undo : (now : ℕ) (log : List Inverse) (t u : TableState) → IsSerialed t → IsSerialed u → SameKeys t.entries u.entries → SameKeys (undo now log t).entries (undo now log u).entries
SameKeys-undo now log t u h i same k =
    some_undone now k log t h
    ∙ some_given now (image_of k log) (entry_at k t.entries) (entry_at k u.entries) (same k)
    ∙ sym (some_undone now k log u i)

length-undo_same : (now : ℕ) (log : List Inverse) (t u : TableState) → IsSerialed t → IsSerialed u → SameKeys t.entries u.entries → length (undo now log t).entries ≡ length (undo now log u).entries
length-undo_same now log t u h i same =
    length-same_keys (undo now log t).entries (undo now log u).entries (IsSerialed-undo now log t h).table (IsSerialed-undo now log u i).table (SameKeys-undo now log t u h i same)

some_before : (now serial : ℕ) {j : Image} {o p : Option Entry} → Changes serial j o p → is_some (given_back now j p) ≡ is_some o
some_before now serial (stays o p is) = ap is_some is
some_before now serial (comes e o p was is fresh) = ap is_some (sym was)
some_before now serial (gives_way e f o p was is fresh) = ap is_some (sym was)
some_before now serial (goes e o p was is) = ap is_some (sym was)
some_before now serial (acts e actions o p was is) = rw (is, was) refl

-- what a change logs gives back the same keys
pub SameKeys-logged : (now : ℕ) (m : FlowMod) (t : TableState) → IsSerialed t → SameKeys (undo now (logged m t.entries) (changed now m t)).entries t.entries
SameKeys-logged now m t h k =
    some_undone now k (logged m t.entries) (changed now m t) (IsSerialed-changed now m t h)
    ∙ some_before now t.next (Changes-changed now k m t h.table)

-- ---- What can be reverted, by keys alone

Meets-same_keys : (x : Inverse) (es fs : List Entry) → SameKeys es fs → Meets x es → Meets x fs
Meets-same_keys (Remove k) es fs same meets = tt
Meets-same_keys (PutBack e) es fs same meets = tt
Meets-same_keys (GiveActions k actions) es fs same meets = sym (same k) ∙ meets

pub CanRevert-same_keys : (cap now : ℕ) (log : List Inverse) (t u : TableState) → IsSerialed t → IsSerialed u → SameKeys t.entries u.entries → CanRevert cap now log t → CanRevert cap now log u
CanRevert-same_keys cap now [] t u h i same can = let long = length-same_keys t.entries u.entries h.table i.table same in omega arith
CanRevert-same_keys cap now (x ∷ log) t u h i same can = (
  CanRevert-same_keys cap now log t u h i same can.0,
  Meets-same_keys x (undo now log t).entries (undo now log u).entries (SameKeys-undo now log t u h i same) can.1,
  let long = length-undo_same now (x ∷ log) t u h i same in let fits = can.2 in omega arith,
)

-- a log and a newer one behind it
pub CanRevert-append : (cap now : ℕ) (log newer : List Inverse) (t : TableState) → CanRevert cap now newer t → CanRevert cap now log (undo now newer t) → CanRevert cap now (log ++ newer) t
CanRevert-append cap now [] newer t first rest = first
CanRevert-append cap now (x ∷ log) newer t first rest = (
  CanRevert-append cap now log newer t first rest.0,
  rw (undo-append now log newer t) rest.1,
  rw (undo-append now (x ∷ log) newer t) rest.2,
)

-- the newer one reverted, the rest can be reverted
pub CanRevert-undone : (cap now : ℕ) (log newer : List Inverse) (t : TableState) → CanRevert cap now (log ++ newer) t → CanRevert cap now log (undo now newer t)
unfolding undo
CanRevert-undone cap now [] [] t can = can
CanRevert-undone cap now [] (x ∷ newer) t can = can.2
CanRevert-undone cap now (x ∷ log) newer t can = (
  CanRevert-undone cap now log newer t can.0,
  rw (undo-append now log newer t) at can.1,
  rw (undo-append now (x ∷ log) newer t) at can.2,
)

-- the table of now fits
pub CanRevert-fits : (cap now : ℕ) (log : List Inverse) (t : TableState) → CanRevert cap now log t → length t.entries ≤ cap
CanRevert-fits cap now [] t can = can
CanRevert-fits cap now (x ∷ log) t can = CanRevert-fits cap now log t can.0

-- ---- One message

list_any-has_key : (k : Key) (es : List Entry) → list_any (has_key k) es ≡ is_some (entry_at k es)
list_any-has_key k [] = refl
list_any-has_key k (f ∷ fs) =
    elim (cases_Bool (has_key k f)) [
      | inl has ↦ rw has refl
      | inr other ↦ rw other (list_any-has_key k fs)
    ]

addition-adds : (e : Entry) (m : FlowMod) (es : List Entry) → IsAddition e m → adds m es ≡ true
unfolding adds
addition-adds e m es is = rw is.command refl

unchecked-clashes : (m : FlowMod) (es : List Entry) → checks_overlap m.flags ≡ false → clashes m es ≡ false
unfolding clashes
unchecked-clashes m es unchecked = rw unchecked refl

full-known : (cap : ℕ) (m : FlowMod) (es : List Entry) (e : Entry) → entry_at (key_in m) es ≡ Some e → is_full cap m es ≡ false
unfolding is_full
full-known cap m es e some = rw (list_any-has_key (key_in m) es, some) refl

full-room : (cap : ℕ) (m : FlowMod) (es : List Entry) → length es < cap → is_full cap m es ≡ false
unfolding is_full
full-room cap m es room = and_right (not (list_any (has_key (key_in m)) es)) (nat_le cap (length es)) (lt-leb cap (length es) room)

addition-full : (cap now serial : ℕ) (e : Entry) (m : FlowMod) (es : List Entry) → IsAddition e m → length (with_entry (back now serial e) es) ≤ cap → is_full cap m es ≡ false
addition-full cap now serial e m es is fits =
    elim (cases_Option (entry_at (key_in m) es)) [
      | inl none ↦
          let at : entry_at e.key es ≡ None = ap (λ l. entry_at l es) (sym is.key) ∙ none in
          let long = length-with_entry-new es (back now serial e) at in
          full-room cap m es (omega arith)
      | inr (f, some) ↦ full-known cap m es f some
    ]

addition-refusal : (cap now serial : ℕ) (e : Entry) (m : FlowMod) (es : List Entry) → IsAddition e m → length (with_entry (back now serial e) es) ≤ cap → refusal cap m es ≡ None
unfolding refusal
addition-refusal cap now serial e m es is fits =
    rw (addition-adds e m es is, unchecked-clashes m es is.unchecked, addition-full cap now serial e m es is fits, is.command) refl

modification-adds : (k : Key) (actions : List Action) (m : FlowMod) (es : List Entry) → IsModification k actions m → is_some (entry_at k es) ≡ true → adds m es ≡ false
unfolding adds
modification-adds k actions m es is some =
    let strict : is_strict m ≡ true = rw is.command refl in
    let any : list_any (means m) es ≡ true = list_any-strict m es strict ∙ list_any-has_key (key_in m) es ∙ ap (λ l. is_some (entry_at l es)) is.key ∙ some in
    rw (any, is.command) refl

modification-refusal : (cap : ℕ) (k : Key) (actions : List Action) (m : FlowMod) (es : List Entry) → IsModification k actions m → is_some (entry_at k es) ≡ true → refusal cap m es ≡ None
unfolding refusal
modification-refusal cap k actions m es is some = rw (modification-adds k actions m es is some, is.command) refl

-- no inverse is refused
pub revert-refusal : (cap now : ℕ) (x : Inverse) (log : List Inverse) (m : FlowMod) (t : TableState) → CanRevert cap now (x ∷ log) t → Reverts x m → refusal cap m (undo now log t).entries ≡ None
unfolding undo undo_one
revert-refusal cap now (Remove k) log m t can reverts = removal-refusal cap k m (undo now log t).entries reverts
revert-refusal cap now (PutBack e) log m t can reverts = addition-refusal cap now (undo now log t).next e m (undo now log t).entries reverts can.2
revert-refusal cap now (GiveActions k actions) log m t can reverts = modification-refusal cap k actions m (undo now log t).entries reverts can.1

-- ---- What the messages do

-- an inverse that takes a key away, or gives actions to an entry that it meets, does just what its message does
pub removal-reverts : (now : ℕ) (k : Key) (m : FlowMod) (t : TableState) → Reverts (Remove k) m → changed now m t ≡ undo_one now (Remove k) t
unfolding undo_one
removal-reverts now k m t reverts = removal-changed now k m t reverts

described : (k : Key) (actions : List Action) (m : FlowMod) → IsModification k actions m → (e : Entry) → modified m e ≡ give_actions k actions e
described k actions m is e =
    let strict : is_strict m ≡ true = rw is.command refl in
    let at : describes m e.key ≡ has_key k e = describes-strict m e.key strict ∙ ap (λ l. place_of e == key_number l) is.key in
    rw (at, is.actions) refl

pub map-same : (f g : Entry → Entry) → ((e : Entry) → f e ≡ g e) → (es : List Entry) → map f es ≡ map g es
map-same f g same [] = refl
map-same f g same (e ∷ es) = ap₂ (λ x xs. x ∷ xs) (same e) (map-same f g same es)

pub modification-reverts : (now : ℕ) (k : Key) (actions : List Action) (m : FlowMod) (t : TableState) → IsSome (entry_at k t.entries) → Reverts (GiveActions k actions) m → changed now m t ≡ undo_one now (GiveActions k actions) t
unfolding undo_one changed
modification-reverts now k actions m t some reverts =
    let keeps = modification-adds k actions m t.entries reverts some in
    let modifies : is_modify m ≡ true = rw reverts.command refl in
    let after = entries_after-modify now t.next m t.entries keeps modifies ∙ map-same (modified m) (give_actions k actions) (described k actions m reverts) t.entries in
    rw (after, keeps) refl

-- one that puts an entry back puts in a new one of its key
pub addition-reverts : (now : ℕ) (e : Entry) (m : FlowMod) (t : TableState) → Reverts (PutBack e) m → changed now m t ≡ record { entries = with_entry (new_entry now t.next m) t.entries; next = t.next + 1 }
unfolding changed
addition-reverts now e m t reverts =
    let puts = addition-adds e m t.entries reverts in
    rw (entries_after-adds now t.next m t.entries puts, puts) refl

-- the entry that an ADD puts back, but for flags, hard timeout, age and counters
pub new_entry-back : (now serial : ℕ) (e : Entry) (m : FlowMod) → key_in m ≡ e.key → m.actions ≡ e.actions → m.cookie ≡ e.cookie → m.idle ≡ e.idle → new_entry now serial m ≡ record (back now serial e) { hard = m.hard; flags = m.flags % 2; installed = now; packets = 0; bytes = 0 }
unfolding new_entry
new_entry-back now serial e m key actions cookie idle = rw (key, actions, cookie, idle) refl

-- what is left of a timeout, from now on
hard-kept : (installed now hard : ℕ) → installed ≤ now → (hard ≢ 0 → now - installed < hard) → end_of now (remaining_of hard (now - installed)) ≡ end_of installed hard
hard-kept installed now hard le left =
    elim (cases_eq hard 0) [
      | inl none ↦ rw none refl
      | inr some ↦
          let lt = left some in
          rw (ne_eqb hard 0 some, ne_eqb (hard - (now - installed)) 0 (omega arith)) (ap Some (omega arith))
    ]

-- with what is left of its hard timeout it goes when it would have gone, its idle time begun anew
pub deadline-back : (now serial : ℕ) (e : Entry) (m : FlowMod) → e.installed ≤ now → (e.hard ≢ 0 → now - e.installed < e.hard) → m.idle ≡ e.idle → m.hard ≡ remaining_of e.hard (now - e.installed) → deadline (new_entry now serial m) ≡ deadline (back now serial e)
unfolding new_entry deadline_of
deadline-back now serial e m le left idle hard =
    rw (idle, hard) (ap (λ o. first_end o (end_of now e.idle)) (hard-kept e.installed now e.hard le left))

-- neither an ADD nor a MODIFY tells
pub no_notice-addition : (now : ℕ) (e : Entry) (m : FlowMod) (es : List Entry) → Reverts (PutBack e) m → notices_of now m es ≡ []
no_notice-addition now e m es reverts = notices_of-kept now m es (rw reverts.command refl)

pub no_notice-modification : (now : ℕ) (k : Key) (actions : List Action) (m : FlowMod) (es : List Entry) → Reverts (GiveActions k actions) m → notices_of now m es ≡ []
no_notice-modification now k actions m es reverts = notices_of-kept now m es (rw reverts.command refl)

pub CanRevert-nothing : (cap now : ℕ) (t : TableState) → length t.entries ≤ cap → CanRevert cap now [] t
CanRevert-nothing cap now t fits = fits

-- ---- What a change logs can be reverted

length-one : (now : ℕ) (k : Key) (actions : List Action) (t : TableState) → length (undo_one now (GiveActions k actions) t).entries ≡ length t.entries
unfolding undo_one
length-one now k actions t = length-map t.entries (give_actions k actions)

keys-one : (now : ℕ) (k l : Key) (actions : List Action) (t : TableState) → is_some (entry_at l (undo_one now (GiveActions k actions) t).entries) ≡ is_some (entry_at l t.entries)
unfolding undo_one
keys-one now k l actions t =
    let g : Entry → Entry = give_actions k actions in
    ap is_some (entry_at-map g (key_number-give_actions k actions) t.entries l) ∙ some_map g (entry_at l t.entries)

length-gives : (now : ℕ) (ds : List Entry) (t : TableState) → length (undo now (map old_actions ds) t).entries ≡ length t.entries
unfolding undo
length-gives now [] t = refl
length-gives now (d ∷ ds) t = length-one now d.key d.actions (undo now (map old_actions ds) t) ∙ length-gives now ds t

keys-gives : (now : ℕ) (l : Key) (ds : List Entry) (t : TableState) → is_some (entry_at l (undo now (map old_actions ds) t).entries) ≡ is_some (entry_at l t.entries)
unfolding undo
keys-gives now l [] t = refl
keys-gives now l (d ∷ ds) t = keys-one now d.key l d.actions (undo now (map old_actions ds) t) ∙ keys-gives now l ds t

-- an entry's key stands in a table
abbrev pub StandsIn : TableState → Entry → Type 0
StandsIn t d = is_some (entry_at d.key t.entries) ≡ true

pub can-gives : (cap now : ℕ) (ds : List Entry) (t : TableState) → length t.entries ≤ cap → All (StandsIn t) ds → CanRevert cap now (map old_actions ds) t
can-gives cap now [] t fits stand = fits
can-gives cap now (d ∷ ds) t fits stand = (
  can-gives cap now ds t fits (All-tail (StandsIn t) d ds stand),
  keys-gives now d.key ds t ∙ All-head (StandsIn t) d ds stand,
  let long = length-gives now (d ∷ ds) t in omega arith,
)

length-back : (now : ℕ) (d : Entry) (t : TableState) → length (undo_one now (old_entry d) t).entries ≤ length t.entries + 1
unfolding undo_one
length-back now d t = length-with_entry-le t.entries (back now t.next (seen d))

length-puts : (now : ℕ) (ds : List Entry) (t : TableState) → length (undo now (map old_entry ds) t).entries ≤ length t.entries + length ds
unfolding undo
length-puts now [] t = omega arith
length-puts now (d ∷ ds) t = omega (arith, length-back now d (undo now (map old_entry ds) t), length-puts now ds t)

can-puts : (cap now : ℕ) (ds : List Entry) (t : TableState) → length t.entries + length ds ≤ cap → CanRevert cap now (map old_entry ds) t
can-puts cap now [] t fits = omega arith
can-puts cap now (d ∷ ds) t fits = (
  can-puts cap now ds t (omega arith),
  tt,
  let long = length-puts now (d ∷ ds) t in omega arith,
)

pub can-addition : (cap now : ℕ) (k : Key) (o : Option Entry) (t : TableState) → length t.entries ≤ cap → length (undo now (logged_addition k o) t).entries ≤ cap → CanRevert cap now (logged_addition k o) t
can-addition cap now k None t fits before = (fits, tt, before)
can-addition cap now k (Some e) t fits before = (fits, tt, before)

room-cases : (cap : ℕ) (m : FlowMod) (es : List Entry) → is_full cap m es ≡ false → (is_some (entry_at (key_in m) es) ≡ true) ⊎ (length es < cap)
unfolding is_full
room-cases cap m es room =
    elim (and_cases (not (list_any (has_key (key_in m)) es)) (nat_le cap (length es)) room) [
      | inl known ↦ inl (sym (list_any-has_key (key_in m) es) ∙ not-false-true (list_any (has_key (key_in m)) es) known)
      | inr less ↦ inr (leb-false cap (length es) less)
    ]
  where
    not-false-true : (b : Bool) → not b ≡ false → b ≡ true
    not-false-true true is = refl
    not-false-true false is = sym is

pub keys-replaced : (es : List Entry) (e : Entry) → is_some (entry_at e.key es) ≡ true → SameKeys (with_entry e es) es
keys-replaced es e some k =
    elim (cases_eq (place_of e) (key_number k)) [
      | inl same ↦
          ap is_some (sym (entry_at-same_place (with_entry e es) e.key k same) ∙ entry_at-with_entry-same es e)
          ∙ sym some ∙ ap is_some (entry_at-same_place es e.key k same)
      | inr other ↦ ap is_some (entry_at-with_entry-other es e k other)
    ]

fits-addition : (cap : ℕ) (e : Entry) (es : List Entry) → IsTable es → length es ≤ cap → (is_some (entry_at e.key es) ≡ true) ⊎ (length es < cap) → length (with_entry e es) ≤ cap
fits-addition cap e es is fits (inl known) =
    let same = length-same_keys (with_entry e es) es (IsTable-with_entry es e is) is (keys-replaced es e known) in
    omega arith
fits-addition cap e es is fits (inr room) = let long = length-with_entry-le es e in omega arith

-- ---- The three kinds of change

logged-addition : (m : FlowMod) (es : List Entry) → adds m es ≡ true → logged m es ≡ logged_addition (key_in m) (entry_at (key_in m) es)
unfolding logged
logged-addition m es puts = rw puts refl

logged-modify : (m : FlowMod) (es : List Entry) → adds m es ≡ false → is_modify m ≡ true → logged m es ≡ map old_actions (filter (means m) es)
unfolding logged
logged-modify m es keeps modifies = rw (keeps, modifies) refl

logged-delete : (m : FlowMod) (es : List Entry) → adds m es ≡ false → is_modify m ≡ false → logged m es ≡ map old_entry (filter (deletes m) es)
unfolding logged
logged-delete m es keeps removes = rw (keeps, removes) refl

changed-entries : (now : ℕ) (m : FlowMod) (t : TableState) → (changed now m t).entries ≡ entries_after now t.next m t.entries
unfolding changed
changed-entries now m t = refl

new-fits : (cap now serial : ℕ) (m : FlowMod) (es : List Entry) → IsTable es → length es ≤ cap → (is_some (entry_at (key_in m) es) ≡ true) ⊎ (length es < cap) → length (with_entry (new_entry now serial m) es) ≤ cap
unfolding new_entry
new-fits cap now serial m es is fits room = fits-addition cap (new_entry now serial m) es is fits room

can-logged-addition : (cap now : ℕ) (m : FlowMod) (t : TableState) → IsSerialed t → length t.entries ≤ cap → refusal cap m t.entries ≡ None → adds m t.entries ≡ true → CanRevert cap now (logged m t.entries) (changed now m t)
can-logged-addition cap now m t h fits taken puts =
    let es : List Entry = t.entries in
    let u : TableState = changed now m t in
    let l : List Inverse = logged_addition (key_in m) (entry_at (key_in m) es) in
    let is : logged m es ≡ l = logged-addition m es puts in
    let room = room-cases cap m es (not_full cap m es puts taken) in
    let entries = changed-entries now m t ∙ entries_after-adds now t.next m es puts in
    let after : length u.entries ≤ cap = rw entries (new-fits cap now t.next m es h.table fits room) in
    let same = length-same_keys (undo now (logged m es) u).entries es (IsSerialed-undo now (logged m es) u (IsSerialed-changed now m t h)).table h.table (SameKeys-logged now m t h) in
    let long : length (undo now l u).entries ≡ length es = ap (λ log. length (undo now log u).entries) (sym is) ∙ same in
    rw is (can-addition cap now (key_in m) (entry_at (key_in m) es) u after (omega arith))

pub stand-itself : (t : TableState) → IsTable t.entries → All (StandsIn t) t.entries
stand-itself t is =
    All-weaker (Contains t.entries) (StandsIn t) (λ d among. ap is_some (entry_at-contains t.entries d is among)) t.entries (All-contains_itself t.entries)

stands_after : (now : ℕ) (m : FlowMod) (t : TableState) → IsTable t.entries → (changed now m t).entries ≡ map (modified m) t.entries → All (StandsIn (changed now m t)) t.entries
stands_after now m t is after =
    All-weaker (Contains t.entries) (StandsIn (changed now m t))
    (λ d among.
    ap (λ es. is_some (entry_at d.key es)) after
    ∙ ap is_some (entry_at-map (modified m) (place_of-modified m) t.entries d.key)
    ∙ some_map (modified m) (entry_at d.key t.entries)
    ∙ ap is_some (entry_at-contains t.entries d is among))
    t.entries (All-contains_itself t.entries)

can-logged-modify : (cap now : ℕ) (m : FlowMod) (t : TableState) → IsTable t.entries → length t.entries ≤ cap → adds m t.entries ≡ false → is_modify m ≡ true → CanRevert cap now (logged m t.entries) (changed now m t)
can-logged-modify cap now m t is fits keeps modifies =
    let es : List Entry = t.entries in
    let after = changed-entries now m t ∙ entries_after-modify now t.next m es keeps modifies in
    let long = ap length after ∙ length-map es (modified m) in
    rw (logged-modify m es keeps modifies)
    (can-gives cap now (filter (means m) es) (changed now m t) (omega arith)
    (All-filter (means m) (StandsIn (changed now m t)) es (stands_after now m t is after)))

can-logged-delete : (cap now : ℕ) (m : FlowMod) (t : TableState) → length t.entries ≤ cap → adds m t.entries ≡ false → is_modify m ≡ false → CanRevert cap now (logged m t.entries) (changed now m t)
can-logged-delete cap now m t fits keeps removes =
    let es : List Entry = t.entries in
    let after = ap length (changed-entries now m t ∙ entries_after-delete now t.next m es keeps removes) in
    let both = length-filter_both (deletes m) (λ e. not (deletes m e)) (λ e. refl) es in
    rw (logged-delete m es keeps removes) (can-puts cap now (filter (deletes m) es) (changed now m t) (omega arith))

can-logged : (cap now : ℕ) (m : FlowMod) (t : TableState) → IsSerialed t → length t.entries ≤ cap → refusal cap m t.entries ≡ None → CanRevert cap now (logged m t.entries) (changed now m t)
can-logged cap now m t h fits taken =
    elim (cases_Bool (adds m t.entries)) [
      | inl puts ↦ can-logged-addition cap now m t h fits taken puts
      | inr keeps ↦ elim (cases_Bool (is_modify m)) [
        | inl modifies ↦ can-logged-modify cap now m t h.table fits keeps modifies
        | inr removes ↦ can-logged-delete cap now m t fits keeps removes
      ]
    ]

-- one change that is not refused
pub CanRevert-changed : (cap now : ℕ) (log : List Inverse) (m : FlowMod) (t : TableState) → IsSerialed t → refusal cap m t.entries ≡ None → CanRevert cap now log t → CanRevert cap now (log ++ logged m t.entries) (changed now m t)
CanRevert-changed cap now log m t h taken can =
    let l : List Inverse = logged m t.entries in
    let u : TableState = changed now m t in
    let i = IsSerialed-changed now m t h in
    CanRevert-append cap now log l u (can-logged cap now m t h (CanRevert-fits cap now log t can) taken)
    (CanRevert-same_keys cap now log t (undo now l u) h (IsSerialed-undo now l u i) (λ k. sym (SameKeys-logged now m t h k)) can)

-- one change, refused or not
pub CanRevert-change : (cap now : ℕ) (log : List Inverse) (m : FlowMod) (t : TableState) → IsSerialed t → CanRevert cap now log t → CanRevert cap now (log ++ logged_by cap m t.entries) (change cap now m t)
unfolding change logged_by
CanRevert-change cap now log m t h can =
    elim (cases_Option (refusal cap m t.entries)) [
      | inl taken ↦ rw taken (CanRevert-changed cap now log m t h taken can)
      | inr (e, refused) ↦ rw (refused, append-nil log) can
    ]
