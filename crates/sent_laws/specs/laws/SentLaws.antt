-- What follows about the messages that revert a log: none is refused, and the table as it is shown is then the log undone.
use Rattle.std.proofs.Common.{◌≡◌, ◌≢◌, ◌==◌, ◌||◌, if◌then◌else◌, ℕ, suc, ◌+◌, ◌≤◌, Bool, true, false, List, [], ◌∷◌, length, map, Option, Some, None, refl, sym, ap, ap₂, subst, ◌∙◌, arith, ◌⊎◌, inl, inr}
use Rattle.std.specs.Prelude.{IsSome}
use Rattle.std.specs.Option.{option_map, is_some}
use Rattle.std.specs.List.{AllByRecursion, Contains}
use Rattle.std.proofs.lemmas.Bool.{cases_Bool, cases_eq, eq-eqb, ne_eqb, eqb-true}
use Rattle.of_match.specs.declared.key.Key.{Key}
use Rattle.of_match.specs.Key.{key_number}
use Rattle.of_action.specs.declared.action.Action.{Action}
use Rattle.of_types.specs.declared.errors.OfError.{OfError}
use Rattle.of_wire.specs.declared.bodies.FlowMod.{FlowMod as Change}
use Rattle.of_wire.specs.declared.message.Message.TheVariants.{FlowMod}
use Rattle.flow_table.specs.declared.entry.Entry.{Entry}
use Rattle.flow_table.specs.Table.{TableState, IsTable, place_of, has_key, entry_at}
use Rattle.flow_table.specs.Change.{key_in, refusal, changed, new_entry}
use Rattle.flow_table.specs.Refusals.{or_else, flow_refusal, message_refusal}
use Rattle.flow_table.specs.Step.{after_taken, after_message}
use Rattle.flow_table.specs.Switch.{SwitchState}
use Rattle.undo_laws.specs.Corrected.{IsCorrection, AgreeBut, corrected}
use Rattle.undo_laws.specs.Log.{Inverse, Remove, PutBack, GiveActions, Image, Untouched, Absent, Gone, Acted, back, undo, undo_one, with_actions, image_at, image_of, merge, given_back, seen}
use Rattle.undo_laws.specs.Removal.{is_key_among}
use Rattle.undo_laws.specs.Reverting.{Reverts, Meets, CanRevert}
use Rattle.sent_laws.specs.Sent.{after_reverts, AllTaken, AllAllowed, IsShownBack, AreReverts, ShowsBack, keys_back, shown_among}
use Rattle.undo_laws.specs.Serials.{IsSerialed}
use Rattle.undo_laws.specs.Stands.{is_gone}
use Rattle.undo_laws.specs.laws.CorrectedLaws.{IsSerialed-corrected, refusal-corrected, put_back-corrected, remove-corrected, give-corrected}
use Rattle.undo_laws.specs.laws.LogLaws.{undo-image}
use Rattle.undo_laws.specs.laws.LookupLaws.{entry_at-contains}
use Rattle.undo_laws.specs.laws.RevertingLaws.{revert-refusal}
use Rattle.undo_laws.specs.laws.SerialsLaws.{IsSerialed-changed}

-- ---- What is shown on the way

shown-in : (ks : List Key) (shown after : Entry → Entry) (e : Entry) → is_key_among ks e.key ≡ true → shown_among ks shown after e ≡ after e
shown-in ks shown after e is = rw is refl

shown-out : (ks : List Key) (shown after : Entry → Entry) (e : Entry) → is_key_among ks e.key ≡ false → shown_among ks shown after e ≡ shown e
shown-out ks shown after e is = rw is refl

IsCorrection-among : (ks : List Key) (shown after : Entry → Entry) → IsCorrection shown → IsCorrection after → IsCorrection (shown_among ks shown after)
IsCorrection-among ks shown after before later = record {
  key = λ e. elim (cases_Bool (is_key_among ks e.key)) [
    | inl is ↦ ap (λ (f : Entry). f.key) (shown-in ks shown after e is) ∙ later.key e
    | inr other ↦ ap (λ (f : Entry). f.key) (shown-out ks shown after e other) ∙ before.key e
  ];
  actions = λ e. elim (cases_Bool (is_key_among ks e.key)) [
    | inl is ↦ ap (λ (f : Entry). f.actions) (shown-in ks shown after e is) ∙ later.actions e
    | inr other ↦ ap (λ (f : Entry). f.actions) (shown-out ks shown after e other) ∙ before.actions e
  ];
  acted = λ e actions. elim (cases_Bool (is_key_among ks e.key)) [
    | inl is ↦ shown-in ks shown after (with_actions actions e) is ∙ later.acted e actions ∙ ap (with_actions actions) (sym (shown-in ks shown after e is))
    | inr other ↦ shown-out ks shown after (with_actions actions e) other ∙ before.acted e actions ∙ ap (with_actions actions) (sym (shown-out ks shown after e other))
  ];
  serial = λ e. elim (cases_Bool (is_key_among ks e.key)) [
    | inl is ↦ ap (λ (f : Entry). f.serial) (shown-in ks shown after e is) ∙ later.serial e
    | inr other ↦ ap (λ (f : Entry). f.serial) (shown-out ks shown after e other) ∙ before.serial e
  ];
}

among-more : (k l : Key) (ks : List Key) → key_number l ≢ key_number k → is_key_among (k ∷ ks) l ≡ is_key_among ks l
among-more k l ks other = rw (ne_eqb (key_number k) (key_number l) (λ same. other (sym same))) refl

among-here : (k l : Key) (ks : List Key) → key_number k ≡ key_number l → is_key_among (k ∷ ks) l ≡ true
among-here k l ks same = rw (eq-eqb (key_number k) (key_number l) same) refl

AgreeBut-among : (k : Key) (ks : List Key) (shown after : Entry → Entry) → AgreeBut k (shown_among ks shown after) (shown_among (k ∷ ks) shown after)
AgreeBut-among k ks shown after e other = ap (λ (b : Bool). if b then after e else shown e) (among-more k e.key ks other)

-- ---- One message

-- a message that is not refused changes the table alone
taken : (m : Change) (s : SwitchState) → message_refusal s (FlowMod m) ≡ None → after_message (FlowMod m) s ≡ record s { table = changed s.moment m s.table }
unfolding after_message after_taken
taken m s none = rw none refl

both-none : (a b : Option OfError) → a ≡ None → b ≡ None → or_else a b ≡ None
both-none None b none other = other
both-none (Some e) b none other = absurd cc

allowed : (m : Change) (s : SwitchState) → flow_refusal s.had m ≡ None → refusal s.declared.cap m s.table.entries ≡ None → message_refusal s (FlowMod m) ≡ None
unfolding message_refusal
allowed m s a b = both-none (flow_refusal s.had m) (refusal s.declared.cap m s.table.entries) a b

-- ---- All of them

-- What holds on the way: the table as it is shown is the log undone, nothing else of the switch changed, and none was refused.
record Sent (now : ℕ) (shown after : Entry → Entry) (log : List Inverse) (ms : List Change) (s : SwitchState) : Type 0 where
  table : corrected (shown_among (keys_back log) shown after) (after_reverts ms s).table ≡ undo now log (corrected shown s.table)
  same : after_reverts ms s ≡ record s { table = (after_reverts ms s).table }
  serialed : IsSerialed (after_reverts ms s).table
  taken : AllTaken ms s

-- one message more
one-more : (now : ℕ) (shown after : Entry → Entry) (x : Inverse) (log : List Inverse) (m : Change) (ms : List Change) (s : SwitchState) → s.moment ≡ now → IsCorrection shown → IsCorrection after → Reverts x m → IsShownBack now after x m
    → flow_refusal s.had m ≡ None → CanRevert s.declared.cap now (x ∷ log) (corrected shown s.table) → Sent now shown after log ms s
    → ((u : TableState) → u ≡ (after_reverts ms s).table → IsTable u.entries → corrected (shown_among (keys_back (x ∷ log)) shown after) (changed now m u) ≡ undo_one now x (corrected (shown_among (keys_back log) shown after) u))
    → Sent now shown after (x ∷ log) (m ∷ ms) s
unfolding undo
one-more now shown after x log m ms s moment before later reverts back allow can sent step =
    let u : SwitchState = after_reverts ms s in
    let shows : IsCorrection (shown_among (keys_back log) shown after) = IsCorrection-among (keys_back log) shown after before later in
    let fits : refusal s.declared.cap m (undo now log (corrected shown s.table)).entries ≡ None = revert-refusal s.declared.cap now x log m (corrected shown s.table) can reverts in
    let table : refusal s.declared.cap m u.table.entries ≡ None =
    sym (refusal-corrected (shown_among (keys_back log) shown after) shows s.declared.cap m u.table.entries)
    ∙ ap (λ (t : TableState). refusal s.declared.cap m t.entries) sent.table ∙ fits in
    let none : message_refusal u (FlowMod m) ≡ None =
    allowed m u (ap (λ (v : SwitchState). flow_refusal v.had m) sent.same ∙ allow) (ap (λ (v : SwitchState). refusal v.declared.cap m u.table.entries) sent.same ∙ table) in
    let now_is : u.moment ≡ now = ap (λ (v : SwitchState). v.moment) sent.same ∙ moment in
    let goes : after_message (FlowMod m) u ≡ record u { table = changed u.moment m u.table } = taken m u none in
    let end : (after_message (FlowMod m) u).table ≡ changed now m u.table = ap (λ (v : SwitchState). v.table) goes ∙ ap (λ (n : ℕ). changed n m u.table) now_is in
    record {
      table = ap (corrected (shown_among (keys_back (x ∷ log)) shown after)) end ∙ step u.table refl sent.serialed.table ∙ ap (undo_one now x) sent.table;
      same = goes ∙ ap (λ (v : SwitchState). record v { table = changed u.moment m u.table }) sent.same ∙ ap (λ (t : TableState). record s { table = t }) (sym (ap (λ (v : SwitchState). v.table) goes));
      serialed = subst IsSerialed (sym end) (IsSerialed-changed now m u.table sent.serialed);
      taken = (sent.taken, none);
    }

some-shown : (f : Entry → Entry) → ((e : Entry) → (f e).key ≡ e.key) → (k : Key) (es : List Entry) → is_some (entry_at k (map f es)) ≡ is_some (entry_at k es)
some-shown f keeps k [] = refl
some-shown f keeps k (e ∷ es) =
    elim (cases_Bool (has_key k e)) [
      | inl is ↦
          let place : has_key k (f e) ≡ true = ap (λ (l : Key). key_number l == key_number k) (keeps e) ∙ is in
          rw (is, place) refl
      | inr other ↦
          let place : has_key k (f e) ≡ false = ap (λ (l : Key). key_number l == key_number k) (keeps e) ∙ other in
          rw (other, place) (some-shown f keeps k es)
    ]

none-sent : (now : ℕ) (shown after : Entry → Entry) (s : SwitchState) → IsSerialed s.table → Sent now shown after [] [] s
unfolding undo
none-sent now shown after s h = record { table = refl; same = refl; serialed = h; taken = tt }

key-of : (now : ℕ) (e : Entry) (m : Change) (serial : ℕ) → Reverts (PutBack e) m → key_number e.key ≡ key_number (new_entry now serial m).key
unfolding new_entry
key-of now e m serial is = ap key_number (sym is.key)

sent-all : (now : ℕ) (shown after : Entry → Entry) (log : List Inverse) (ms : List Change) (s : SwitchState) → s.moment ≡ now → IsSerialed s.table → IsCorrection shown → IsCorrection after → AreReverts now after log ms → AllAllowed s.had ms
    → CanRevert s.declared.cap now log (corrected shown s.table) → Sent now shown after log ms s
sent-all now shown after [] [] s moment h before later are allow can = none-sent now shown after s h
sent-all now shown after [] (m ∷ ms) s moment h before later are allow can = absurd are
sent-all now shown after (x ∷ log) [] s moment h before later are allow can = absurd are
sent-all now shown after (Remove k ∷ log) (m ∷ ms) s moment h before later are allow can =
    let sent = sent-all now shown after log ms s moment h before later are.2 allow.1 can.0 in
    one-more now shown after (Remove k) log m ms s moment before later are.0 are.1 allow.0 can sent
    (λ u is table. remove-corrected now (shown_among (keys_back log) shown after) k m u (IsCorrection-among (keys_back log) shown after before later) are.0)
sent-all now shown after (GiveActions k actions ∷ log) (m ∷ ms) s moment h before later are allow can =
    let sent = sent-all now shown after log ms s moment h before later are.2 allow.1 can.0 in
    let shows : IsCorrection (shown_among (keys_back log) shown after) = IsCorrection-among (keys_back log) shown after before later in
    let met : IsSome (entry_at k (map (shown_among (keys_back log) shown after) (after_reverts ms s).table.entries)) = subst (λ (t : TableState). IsSome (entry_at k t.entries)) (sym sent.table) can.1 in
    let some : IsSome (entry_at k (after_reverts ms s).table.entries) = sym (some-shown (shown_among (keys_back log) shown after) shows.key k (after_reverts ms s).table.entries) ∙ met in
    one-more now shown after (GiveActions k actions) log m ms s moment before later are.0 are.1 allow.0 can sent
    (λ u is table. give-corrected now (shown_among (keys_back log) shown after) k actions m u shows (subst (λ (t : TableState). IsSome (entry_at k t.entries)) (sym is) some) are.0)
sent-all now shown after (PutBack e ∷ log) (m ∷ ms) s moment h before later are allow can =
    let sent = sent-all now shown after log ms s moment h before later are.2 allow.1 can.0 in
    let ks : List Key = keys_back log in
    let shows : IsCorrection (shown_among ks shown after) = IsCorrection-among ks shown after before later in
    let more : IsCorrection (shown_among (e.key ∷ ks) shown after) = IsCorrection-among (e.key ∷ ks) shown after before later in
    one-more now shown after (PutBack e) log m ms s moment before later are.0 are.1 allow.0 can sent
    (λ u is table. put_back-corrected now (shown_among ks shown after) (shown_among (e.key ∷ ks) shown after) e m u table shows more (AgreeBut-among e.key ks shown after) are.0
    (shown-in (e.key ∷ ks) shown after (new_entry now u.next m) (among-here e.key (new_entry now u.next m).key ks (key-of now e m u.next are.0)) ∙ are.1 u.next))

-- ---- What is shown in the end

removes : (k l : Key) → (image_at k (Remove l) ≡ Absent) ⊎ (image_at k (Remove l) ≡ Untouched)
unfolding image_at
removes k l = elim (cases_Bool (key_number l == key_number k)) [
  | inl here ↦ inl (rw here refl)
  | inr there ↦ inr (rw there refl)
]

gives-or : (k l : Key) (actions : List Action) → (image_at k (GiveActions l actions) ≡ Acted actions) ⊎ (image_at k (GiveActions l actions) ≡ Untouched)
unfolding image_at
gives-or k l actions = elim (cases_Bool (key_number l == key_number k)) [
  | inl here ↦ inl (rw here refl)
  | inr there ↦ inr (rw there refl)
]

puts-other : (k : Key) (f : Entry) (newer : Image) → (key_number f.key == key_number k) ≡ false → merge (image_at k (PutBack f)) newer ≡ newer
unfolding image_at
puts-other k f newer other = rw other refl

removed : (e : Entry) (i j : Image) → (i ≡ Absent) ⊎ (i ≡ Untouched) → (j ≡ Gone e → ⊥) → merge i j ≡ Gone e → ⊥
removed e i j (inl absent) none is = let bad : Absent ≡ Gone e = rw absent at is in absurd cc
removed e i j (inr nothing) none is = none (rw nothing at is)

given : (e : Entry) (actions : List Action) (i j : Image) → (i ≡ Acted actions) ⊎ (i ≡ Untouched) → ((f : Entry) → j ≡ Gone f → ⊥) → merge i j ≡ Gone e → ⊥
given e actions i Untouched (inl acted) none is = let bad : Acted actions ≡ Gone e = rw acted at is in absurd cc
given e actions i Absent (inl acted) none is = let bad : Absent ≡ Gone e = rw acted at is in absurd cc
given e actions i (Gone f) (inl acted) none is = none f refl
given e actions i (Acted other) (inl acted) none is = let bad : Acted actions ≡ Gone e = rw acted at is in absurd cc
given e actions i j (inr nothing) none is = none e (rw nothing at is)

or_none : (a b : Bool) → (a || b) ≡ false → (a ≡ false) × (b ≡ false)
or_none false b none = (refl, none)
or_none true b none = absurd cc

-- a log that puts no entry of a key back does not say that one went
not-gone : (k : Key) (log : List Inverse) → is_key_among (keys_back log) k ≡ false → (e : Entry) → image_of k log ≡ Gone e → ⊥
unfolding image_of
not-gone k [] none e is = absurd cc
not-gone k (Remove l ∷ log) none e is = removed e (image_at k (Remove l)) (image_of k log) (removes k l) (not-gone k log none e) is
not-gone k (PutBack f ∷ log) none e is =
    let both = or_none (key_number f.key == key_number k) (is_key_among (keys_back log) k) none in
    not-gone k log both.1 e (sym (puts-other k f (image_of k log) both.0) ∙ is)
not-gone k (GiveActions l actions ∷ log) none e is = given e actions (image_at k (GiveActions l actions)) (image_of k log) (gives-or k l actions) (not-gone k log none) is

some-seen : (o p : Option Entry) → option_map seen o ≡ option_map seen p → is_some o ≡ is_some p
some-seen None None same = refl
some-seen (Some e) (Some f) same = refl
some-seen None (Some f) same = absurd cc
some-seen (Some e) None same = absurd cc

-- an entry of the table that is given back is shown in the end as on the way
still : (now : ℕ) (k : Key) (log : List Inverse) (t : TableState) (i : Image) → IsSerialed t → image_of k log ≡ i → is_key_among (keys_back log) k ≡ false → is_some (entry_at k (undo now log t).entries) ≡ true → is_gone i ≡ false
still now k log t Untouched h same stays stands = refl
still now k log t (Acted actions) h same stays stands = refl
still now k log t Absent h same stays stands =
    let back : is_some (given_back now Absent (entry_at k t.entries)) ≡ is_some (entry_at k (undo now log t).entries) =
    ap (λ (i : Image). is_some (given_back now i (entry_at k t.entries))) (sym same) ∙ sym (some-seen (entry_at k (undo now log t).entries) (given_back now (image_of k log) (entry_at k t.entries)) (undo-image now k log t h)) in
    let bad : false ≡ true = back ∙ stands in
    absurd cc
still now k log t (Gone g) h same stays stands = absurd (not-gone k log stays g same)

ends : (now : ℕ) (shown after : Entry → Entry) (log : List Inverse) (t u : TableState) → ShowsBack shown after log → IsSerialed (corrected shown t) → IsTable u.entries → corrected (shown_among (keys_back log) shown after) u ≡ undo now log (corrected shown t)
    → (e : Entry) → Contains u.entries e → after e ≡ shown_among (keys_back log) shown after e
ends now shown after log t u shows h table is e in_table =
    elim (cases_Bool (is_key_among (keys_back log) e.key)) [
      | inl comes ↦ sym (shown-in (keys_back log) shown after e comes)
      | inr stays ↦ shows.others e (still now e.key log (corrected shown t) (image_of e.key log) h refl stays stands) ∙ sym (shown-out (keys_back log) shown after e stays)
    ]
  where
    f : Entry → Entry
    f = shown_among (keys_back log) shown after

    stands : is_some (entry_at e.key (undo now log (corrected shown t)).entries) ≡ true
    stands = ap (λ (v : TableState). is_some (entry_at e.key v.entries)) (sym is) ∙ some-shown f (λ x. (IsCorrection-among (keys_back log) shown after shows.before shows.corrects).key x) e.key u.entries ∙ ap is_some (entry_at-contains u.entries e table in_table)

map-in : (f g : Entry → Entry) (es : List Entry) → ((e : Entry) → Contains es e → f e ≡ g e) → map f es ≡ map g es
map-in f g [] same = refl
map-in f g (e ∷ es) same = ap₂ (λ (x : Entry) (xs : List Entry). x ∷ xs) (same e (0, omega arith, refl)) (map-in f g es (λ x (i, within, at). same x (suc i, omega arith, at)))

all-sent : (shown after : Entry → Entry) (log : List Inverse) (ms : List Change) (s : SwitchState) → IsSerialed s.table → ShowsBack shown after log → AreReverts s.moment after log ms → AllAllowed s.had ms → CanRevert s.declared.cap s.moment log (corrected shown s.table)
    → Sent s.moment shown after log ms s
all-sent shown after log ms s h shows are allow can = sent-all s.moment shown after log ms s refl h shows.before shows.corrects are allow can

pub sent-table : (shown after : Entry → Entry) (log : List Inverse) (ms : List Change) (s : SwitchState) → IsSerialed s.table → ShowsBack shown after log → AreReverts s.moment after log ms → AllAllowed s.had ms → CanRevert s.declared.cap s.moment log (corrected shown s.table)
    → corrected after (after_reverts ms s).table ≡ undo s.moment log (corrected shown s.table)
sent-table shown after log ms s h shows are allow can =
    let sent = all-sent shown after log ms s h shows are allow can in
    let u : TableState = (after_reverts ms s).table in
    ap (λ (es : List Entry). record u { entries = es })
    (map-in after (shown_among (keys_back log) shown after) u.entries (ends s.moment shown after log s.table u shows (IsSerialed-corrected shown shows.before s.table h) sent.serialed.table sent.table))
    ∙ sent.table

pub sent-same : (shown after : Entry → Entry) (log : List Inverse) (ms : List Change) (s : SwitchState) → IsSerialed s.table → ShowsBack shown after log → AreReverts s.moment after log ms → AllAllowed s.had ms → CanRevert s.declared.cap s.moment log (corrected shown s.table)
    → after_reverts ms s ≡ record s { table = (after_reverts ms s).table }
sent-same shown after log ms s h shows are allow can = let sent = all-sent shown after log ms s h shows are allow can in sent.same

pub sent-taken : (shown after : Entry → Entry) (log : List Inverse) (ms : List Change) (s : SwitchState) → IsSerialed s.table → ShowsBack shown after log → AreReverts s.moment after log ms → AllAllowed s.had ms → CanRevert s.declared.cap s.moment log (corrected shown s.table)
    → AllTaken ms s
sent-taken shown after log ms s h shows are allow can = let sent = all-sent shown after log ms s h shows are allow can in sent.taken
