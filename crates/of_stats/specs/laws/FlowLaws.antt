-- Laws of rows of flows: what is written is spelled so, what is spelled is read, and what is read was spelled.
use Rattle.std.proofs.Common.{◌≡◌, ℕ, zero, suc, ◌+◌, ◌≤◌, ◌<◌, Bool, true, false, cond, eqb, ltb, List, [], ◌∷◌, ◌++◌, length, take, drop, Some, Result, Ok, Err, refl, sym, ap, subst, ◌∙◌, append_assoc, arith}
use Rattle.std.specs.Prelude.{IfOk}
use Rattle.std.proofs.lemmas.Bool.{eqb-true, le-ltb, ne_eqb}
use Rattle.std.proofs.lemmas.List.{take_at, drop_at, length-take, length-drop, length-append, nil_from_length}
use Rattle.of_types.specs.Fields.{number_at, piece, IsBytes}
use Rattle.of_types.specs.laws.FieldLaws.{IsBytes-take, IsBytes-drop, number_at-lt, number_at-take}
use Rattle.of_types.specs.Layout.{spelled, AreFields, IsLaidOut}
use Rattle.of_types.specs.laws.LayoutLaws.{IsLaidOut-spelled, length-spelled}
use Rattle.of_match.specs.Fields.{bytes_of}
use Rattle.of_match.specs.Match.{match_of, fields_in}
use Rattle.of_match.specs.laws.MatchLaws.{match_of-bytes_of}
use Rattle.of_action.specs.declared.action.Action.{Action}
use Rattle.of_action.specs.Spelling.{list_bytes, list_size, Spell}
use Rattle.of_action.specs.Reading.{◌>>=◌, actions_of}
use Rattle.of_action.specs.laws.ReadingLaws.{bind_ok}
use Rattle.of_action.specs.laws.ActionLaws.{length-list_bytes, Spell-list_bytes, actions_of-Spell, AreSpelled-actions_of, length-Spell}
use Rattle.of_stats.specs.declared.flow_row.FlowRow.{FlowRow}
use Rattle.of_stats.specs.declared.fault.StatsFault.{StatsFault}
use Rattle.of_stats.specs.Flows.{row_size, front_fields, count_fields, row_bytes, rows_bytes, IsRow, AreRows, SpellRow, SpellRows}
use Rattle.of_stats.specs.Reading.{Gives, row_length_at, row_with, row_of, row_at, rows_from, rows_of}
use Rattle.of_stats.specs.laws.ReadingLaws.{IsRowLength, IsRowLength-row_length_at, IsReadRow, IsReadRow-row_at}
use Rattle.of_match.specs.laws.FieldsLaws.{bytes_of-length}

-- ---- what is written is spelled so

-- a row's bytes, from its parts
record IsMade (row : FlowRow) (bytes : List ℕ) : Type 0 where
  size : length bytes ≡ row_size row
  said : number_at 2 0 bytes ≡ row_size row
  matching : piece 40 4 bytes ≡ bytes_of (fields_in row.key.matching)
  counts : IsLaidOut 44 (count_fields row) (list_bytes row.actions) bytes

IsMade-row_bytes : (row : FlowRow) → IsRow row → IsMade row (row_bytes row)
unfolding row_bytes
IsMade-row_bytes row is =
    let front = spelled (front_fields row) in
    let matching = bytes_of (fields_in row.key.matching) in
    let counts = spelled (count_fields row) in
    let actions = list_bytes row.actions in
    let front_fit : AreFields (front_fields row) = (is.size, tt) in
    let front_len : length front ≡ 4 = length-spelled (front_fields row) front_fit in
    let match_len : length matching ≡ 40 = bytes_of-length (fields_in row.key.matching) in
    let counts_len : length counts ≡ 44 = length-spelled (count_fields row) is.fields in
    let actions_len = length-list_bytes row.actions is.actions in
    let regrouped : (front ++ matching) ++ (counts ++ actions) ≡ front ++ (matching ++ (counts ++ actions)) = append_assoc front matching (counts ++ actions) in
    let both : length (front ++ matching) ≡ 44 = omega (arith, length-append front matching, front_len, match_len) in
    record {
      size = omega (arith, length-append front (matching ++ (counts ++ actions)), length-append matching (counts ++ actions), length-append counts actions, front_len, match_len, counts_len, actions_len);
      said = (IsLaidOut-spelled 0 (front_fields row) [] (matching ++ (counts ++ actions)) refl front_fit).0;
      matching = ap (λ (b : List ℕ). take 40 b) (drop_at front (matching ++ (counts ++ actions)) 4 front_len) ∙ take_at matching (counts ++ actions) 40 match_len;
      counts = subst (λ (b : List ℕ). IsLaidOut 44 (count_fields row) actions b) regrouped (IsLaidOut-spelled 44 (count_fields row) (front ++ matching) actions both is.fields);
    }

-- where the counts end
rest_laid_out : (row : FlowRow) (rest bytes : List ℕ) → IsLaidOut 44 (count_fields row) rest bytes → drop 88 bytes ≡ rest
rest_laid_out row rest bytes h = h.1.1.1.1.1.1.1

pub SpellRow-row_bytes : (row : FlowRow) → IsRow row → SpellRow row (row_bytes row)
SpellRow-row_bytes row is =
    let made = IsMade-row_bytes row is in
    let rest : drop 88 (row_bytes row) ≡ list_bytes row.actions = rest_laid_out row (list_bytes row.actions) (row_bytes row) made.counts in
    record {
      size = made.size;
      said = made.said;
      matching = ap match_of made.matching ∙ match_of-bytes_of row.key.matching;
      counts = subst (λ (b : List ℕ). IsLaidOut 44 (count_fields row) b (row_bytes row)) (sym rest) made.counts;
      actions = subst (λ (b : List ℕ). Spell row.actions b) (sym rest) (Spell-list_bytes row.actions is.actions);
    }

pub SpellRows-rows_bytes : (rows : List FlowRow) → AreRows rows → SpellRows rows (rows_bytes rows)
SpellRows-rows_bytes [] fit = refl
SpellRows-rows_bytes (row ∷ rows) fit =
    let one = SpellRow-row_bytes row fit.0 in
    let front : take (row_size row) (row_bytes row ++ rows_bytes rows) ≡ row_bytes row = take_at (row_bytes row) (rows_bytes rows) (row_size row) one.size in
    let rest : drop (row_size row) (row_bytes row ++ rows_bytes rows) ≡ rows_bytes rows = drop_at (row_bytes row) (rows_bytes rows) (row_size row) one.size in
    (subst (λ (b : List ℕ). SpellRow row b) (sym front) one, subst (λ (b : List ℕ). SpellRows rows b) (sym rest) (SpellRows-rows_bytes rows fit.1))

-- ---- what is spelled is read

row_length_at-said : (len : ℕ) (bytes : List ℕ) → number_at 2 0 bytes ≡ len → 88 ≤ len → len ≤ length bytes → row_length_at bytes ≡ Some len
unfolding row_length_at
row_length_at-said len bytes said least within =
    let enough : ltb (length bytes) 2 ≡ false = le-ltb _ _ (omega arith) in
    let long : ltb len 88 ≡ false = le-ltb _ _ least in
    let there : ltb (length bytes) len ≡ false = le-ltb _ _ within in
    rw (enough, said, long, there) refl

row_with-spelled : (row : FlowRow) (bytes : List ℕ) → SpellRow row bytes → row_with bytes row.actions ≡ row
row_with-spelled row bytes h =
    rw (h.matching, h.counts.0, h.counts.1.0, h.counts.1.1.0, h.counts.1.1.1.0, h.counts.1.1.1.1.0, h.counts.1.1.1.1.1.0, h.counts.1.1.1.1.1.1.0) refl

row_of-spelled : (place : ℕ) (row : FlowRow) (bytes : List ℕ) → IsRow row → SpellRow row bytes → row_of place bytes ≡ Ok row
unfolding row_of
row_of-spelled place row bytes is h =
    rw (actions_of-Spell row.actions (drop 88 bytes) is.actions h.actions, row_with-spelled row bytes h) refl

within_bytes : (size : ℕ) (bytes : List ℕ) → length (take size bytes) ≡ size → size ≤ length bytes
within_bytes size bytes e = omega (arith, e, length-take size bytes)

row_at-spelled : (place : ℕ) (row : FlowRow) (bytes : List ℕ) → IsRow row → SpellRow row (take (row_size row) bytes) → row_at place bytes ≡ Ok (row, row_size row)
unfolding row_at
row_at-spelled place row bytes is h =
    let size = row_size row in
    let within = within_bytes size bytes h.size in
    let said : number_at 2 0 bytes ≡ size = sym (number_at-take 2 0 size bytes (omega arith)) ∙ h.said in
    rw (row_length_at-said size bytes said (omega arith) within, row_of-spelled place row (take size bytes) is h) refl

rows_from-spelled : (steps place : ℕ) (rows : List FlowRow) (bytes : List ℕ) → length bytes ≤ steps → AreRows rows → SpellRows rows bytes → rows_from steps place bytes ≡ Ok rows
unfolding rows_from
rows_from-spelled zero place [] bytes le fit h = refl
rows_from-spelled (suc steps) place [] bytes le fit h = rw h refl
rows_from-spelled zero place (row ∷ rows) bytes le fit h = absurd (omega (arith, within_bytes (row_size row) bytes h.0.size))
rows_from-spelled (suc steps) place (row ∷ rows) bytes le fit h =
    let size = row_size row in
    let within = within_bytes size bytes h.0.size in
    let some : eqb (length bytes) 0 ≡ false = ne_eqb _ _ (λ none. omega (arith, none, within)) in
    let first = row_at-spelled place row bytes fit.0 h.0 in
    let others = rows_from-spelled steps (place + size) rows (drop size bytes) (omega (arith, length-drop size bytes, within)) fit.1 h.1 in
    rw (some, first, others) refl

pub rows_of-spelled : (rows : List FlowRow) (bytes : List ℕ) → AreRows rows → SpellRows rows bytes → rows_of bytes ≡ Ok rows
unfolding rows_of
rows_of-spelled rows bytes fit h = rows_from-spelled (length bytes) 0 rows bytes (omega arith) fit h

-- ---- what is read was spelled

-- a row and its bytes
record WasRow (row : FlowRow) (len : ℕ) (bytes : List ℕ) : Type 0 where
  is : IsRow row
  size : row_size row ≡ len
  spelled_is : SpellRow row (take len bytes)

was_row_with : (actions : List Action) (len : ℕ) (bytes : List ℕ) → IsBytes bytes → IsRowLength len bytes → actions_of (drop 88 (take len bytes)) ≡ Ok actions → WasRow (row_with (take len bytes) actions) len bytes
was_row_with actions len bytes fit known read =
    let row = take len bytes in
    let row_fit = IsBytes-take len bytes fit in
    let row_len : length row ≡ len = omega (arith, length-take len bytes, known.within) in
    let found = AreSpelled-actions_of (drop 88 row) actions (IsBytes-drop 88 row row_fit) read in
    let size : 88 + list_size actions ≡ len = omega (arith, length-Spell actions (drop 88 row) found.spelled_is, length-drop 88 row, row_len, known.least) in
    let said : number_at 2 0 row ≡ len = number_at-take 2 0 len bytes (omega (arith, known.least)) ∙ known.said in
    record {
      is = record {
        fields = (number_at-lt 4 44 row row_fit, (number_at-lt 2 52 row row_fit, (number_at-lt 2 54 row row_fit, (number_at-lt 2 56 row row_fit, (number_at-lt 8 64 row row_fit, (number_at-lt 8 72 row row_fit, (number_at-lt 8 80 row row_fit, tt)))))));
        actions = found.fit;
        size = let small : number_at 2 0 row < 65536 = number_at-lt 2 0 row row_fit in omega (arith, size, said, small);
      };
      size = size;
      spelled_is = record {
        size = row_len ∙ sym size;
        said = said ∙ sym size;
        matching = refl;
        counts = (refl, (refl, (refl, (refl, (refl, (refl, (refl, refl)))))));
        actions = found.spelled_is;
      };
    }

was_row : (row : FlowRow) (len : ℕ) (bytes : List ℕ) → IsBytes bytes → IsReadRow row len bytes → WasRow row len bytes
was_row row len bytes fit read =
    subst (λ (r : FlowRow). WasRow r len bytes) (sym read.value) (was_row_with read.actions len bytes fit (IsRowLength-row_length_at bytes len read.length_read) read.actions_read)

pub record WereRows (rows : List FlowRow) (bytes : List ℕ) : Type 0 where
  pub fit : AreRows rows
  pub spelled_is : SpellRows rows bytes

abbrev pub read_as : List FlowRow → Result (List FlowRow) StatsFault
read_as rows = Ok rows

pub same_rows : (x y : List FlowRow) → read_as x ≡ read_as y → x ≡ y
same_rows x y e = cc

nothing_spelled : (bytes : List ℕ) (rows : List FlowRow) → length bytes ≡ 0 → read_as [] ≡ read_as rows → WereRows rows bytes
nothing_spelled bytes rows none e =
    subst (λ (xs : List FlowRow). WereRows xs bytes) (same_rows [] rows e) (record { fit = tt; spelled_is = nil_from_length bytes none })

more_spelled : (steps place : ℕ) (bytes : List ℕ) (rows : List FlowRow) → IsBytes bytes
    → ((later : ℕ) (rest : List ℕ) (others : List FlowRow) → length rest ≤ steps → IsBytes rest → rows_from steps later rest ≡ Ok others → WereRows others rest)
    → length bytes ≤ suc steps → (row_at place bytes >>= λ first. rows_from steps (place + first.1) (drop first.1 bytes) >>= λ others. Ok (first.0 ∷ others)) ≡ Ok rows → WereRows rows bytes
more_spelled steps place bytes rows fit ih le e =
    let a = bind_ok (row_at place bytes) (λ first. rows_from steps (place + first.1) (drop first.1 bytes) >>= λ others. Ok (first.0 ∷ others)) rows e in
    let len = a.0.1 in
    let b = bind_ok (rows_from steps (place + len) (drop len bytes)) (λ others. Ok (a.0.0 ∷ others)) rows a.2 in
    let read = IsReadRow-row_at place bytes a.0 a.1 in
    let known = IsRowLength-row_length_at bytes len read.length_read in
    let first = was_row a.0.0 len bytes fit read in
    let others = ih (place + len) (drop len bytes) b.0 (omega (arith, length-drop len bytes, known.least)) (IsBytes-drop len bytes fit) b.1 in
    subst (λ (xs : List FlowRow). WereRows xs bytes) (same_rows (a.0.0 ∷ b.0) rows b.2) (record {
      fit = (first.is, others.fit);
      spelled_is = (
        subst (λ (n : ℕ). SpellRow a.0.0 (take n bytes)) (sym first.size) first.spelled_is,
        subst (λ (n : ℕ). SpellRows b.0 (drop n bytes)) (sym first.size) others.spelled_is,
      );
    })

step_spelled : (steps place : ℕ) (bytes : List ℕ) (rows : List FlowRow) (b : Bool) → IsBytes bytes
    → ((later : ℕ) (rest : List ℕ) (others : List FlowRow) → length rest ≤ steps → IsBytes rest → rows_from steps later rest ≡ Ok others → WereRows others rest)
    → length bytes ≤ suc steps → eqb (length bytes) 0 ≡ b → cond b (Ok []) (row_at place bytes >>= λ first. rows_from steps (place + first.1) (drop first.1 bytes) >>= λ others. Ok (first.0 ∷ others)) ≡ Ok rows → WereRows rows bytes
step_spelled steps place bytes rows true fit ih le t e = nothing_spelled bytes rows (eqb-true _ _ t) e
step_spelled steps place bytes rows false fit ih le t e = more_spelled steps place bytes rows fit ih le e

WereRows-from : (steps place : ℕ) (bytes : List ℕ) (rows : List FlowRow) → length bytes ≤ steps → IsBytes bytes → rows_from steps place bytes ≡ Ok rows → WereRows rows bytes
unfolding rows_from
WereRows-from zero place bytes rows le fit e = nothing_spelled bytes rows (omega arith) e
WereRows-from (suc steps) place bytes rows le fit e =
    step_spelled steps place bytes rows (eqb (length bytes) 0) fit (λ later rest others. WereRows-from steps later rest others) le refl e

pub WereRows-rows_of : (bytes : List ℕ) (rows : List FlowRow) → IsBytes bytes → rows_of bytes ≡ Ok rows → WereRows rows bytes
unfolding rows_of
WereRows-rows_of bytes rows fit e = WereRows-from (length bytes) 0 bytes rows (omega arith) fit e

pub found_from_gives : (bytes : List ℕ) (r : Result (List FlowRow) StatsFault) → IsBytes bytes → Gives r (rows_of bytes) → IfOk r (λ rows. AreRows rows × SpellRows rows bytes)
found_from_gives bytes (Ok rows) fit given =
    let found = WereRows-rows_of bytes rows fit given in
    (found.fit, found.spelled_is)
found_from_gives bytes (Err fault) fit given = tt

-- ---- one reading

pub same_from_SpellRows : (rows others : List FlowRow) (bytes : List ℕ) → AreRows rows → AreRows others → SpellRows rows bytes → SpellRows others bytes → rows ≡ others
same_from_SpellRows rows others bytes fit fit' h g =
    same_rows rows others (sym (rows_of-spelled rows bytes fit h) ∙ rows_of-spelled others bytes fit' g)

pub rows_of-rows_bytes : (rows : List FlowRow) → AreRows rows → rows_of (rows_bytes rows) ≡ Ok rows
rows_of-rows_bytes rows fit = rows_of-spelled rows (rows_bytes rows) fit (SpellRows-rows_bytes rows fit)
