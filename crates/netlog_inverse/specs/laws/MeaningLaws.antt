-- What follows about plans: the images of a change say of each key what the laws of undo log of it.
use Rattle.std.proofs.Common.{◌≡◌, ◌==◌, ℕ, ◌+◌, ◌-◌, ◌%◌, ◌^◌, ◌<◌, ◌≤◌, Bool, true, false, not, ◌&&◌, ◌||◌, List, [], ◌∷◌, map, filter, All, Option, Some, None, unwrap_or, option_to_list, refl, sym, ap, ap₂, subst, ◌∙◌, arith, inl, inr}
use Rattle.std.proofs.lemmas.Bool.{cases_Bool, eq-eqb}
use Rattle.std.proofs.lemmas.List.Elements.{All-nil, All-cons, All-head, All-tail}
use Rattle.std.specs.List.{list_any}
use Rattle.std.specs.Option.{option_map, is_some}
use Rattle.of_match.specs.declared.key.Key.{Key}
use Rattle.of_match.specs.Key.{key_number}
use Rattle.of_action.specs.declared.action.Action.{Action}
use Rattle.of_stats.specs.declared.flow_row.FlowRow.{FlowRow}
use Rattle.of_wire.specs.declared.bodies.FlowMod.{FlowMod}
use Rattle.flow_table.specs.declared.entry.Entry.{Entry}
use Rattle.flow_table.specs.declared.lost.Lost.{Lost}
use Rattle.flow_table.specs.declared.view.ViewRow.{ViewRow}
use Rattle.flow_table.specs.Table.{place_of, has_key, entry_at}
use Rattle.flow_table.specs.Change.{key_in, is_modify, describes, deletes, adds}
use Rattle.flow_table.specs.Corrected.{row_at, lost_at, asked_flags, with_lost, shown_entry, shown_entries}
use Rattle.flow_table.specs.laws.CorrectedLaws.{key-shown_entry}
use Rattle.flow_table.specs.Statistics.{flow_row}
use Rattle.undo_laws.specs.Log.{Inverse, Absent, Gone, Acted, logged_addition, old_entry, old_actions, logged, image_at, merge, image_of, seen}
use Rattle.netlog_inverse.specs.declared.image.Image.{Image}
use Rattle.netlog_inverse.specs.declared.image.Logged.{Logged}
use Rattle.netlog_inverse.specs.Plans.{means_row, deletes_row, adds_row, counts_at, lost_of, no_counts, nothing_stood, went, acted, went_by, acted_by, replaced, planned, going, missing}
use Rattle.netlog_inverse.specs.Log.{logged_at}
use Rattle.netlog_inverse.specs.Meaning.{entry_of, said, settled, is_at, first_at, row_of, IsSound, ReportsOne, IsView, Reports}

-- ---- Rows of a view over a table

pub row_at-rows : (k : Key) (es : List Entry) → row_at k (map row_of es) ≡ option_map row_of (entry_at k es)
row_at-rows k [] = refl
row_at-rows k (e ∷ es) =
    elim (cases_Bool (place_of e == key_number k)) [
      | inl same ↦ rw same refl
      | inr other ↦ rw other (row_at-rows k es)
    ]

means-rows : (m : FlowMod) (es : List Entry) → list_any (means_row m) (map row_of es) ≡ list_any (λ e. describes m e.key) es
means-rows m [] = refl
means-rows m (e ∷ es) = ap (λ (b : Bool). describes m e.key || b) (means-rows m es)

pub adds-rows : (m : FlowMod) (es : List Entry) → adds_row m (map row_of es) ≡ adds m es
unfolding adds_row adds
adds-rows m es = ap (λ (b : Bool). m.command == 0 || (is_modify m && not b)) (means-rows m es)

-- rows that pass a test are those of the entries that pass it
filter-rows : (p : ViewRow → Bool) (es : List Entry) → filter p (map row_of es) ≡ map row_of (filter (λ e. p (row_of e)) es)
filter-rows p [] = refl
filter-rows p (e ∷ es) =
    elim (cases_Bool (p (row_of e))) [
      | inl passes ↦ rw passes (ap (λ (rs : List ViewRow). row_of e ∷ rs) (filter-rows p es))
      | inr fails ↦ rw fails (filter-rows p es)
    ]

-- ---- An entry that goes

-- below its modulus a number is itself
small : (x : ℕ) → x < 2 ^ 32 → x % 2 ^ 32 ≡ x
small x lt = omega arith

went-entry : (now : ℕ) (o : Option Lost) (x : Entry) → x.installed ≤ now → now < 2 ^ 32 → ((lost : Lost) → o ≡ Some lost → lost.age ≤ x.installed) → entry_of now (row_of (with_lost o x)) (lost_of o (with_lost o x).hard (flow_row now x)) ≡ record (seen (with_lost o x)) { used = now }
went-entry now None x le moment age =
    let at : now - (now - x.installed) ≡ x.installed = omega arith in
    rw at refl
went-entry now (Some lost) x le moment age =
    let young = age lost refl in
    let whole = small (now - x.installed + lost.age) (omega arith) in
    let at : now - (now - x.installed + lost.age) ≡ x.installed - lost.age = omega arith in
    rw (whole, at) refl

-- the switch reports it
abbrev IsReported : ℕ → List (Key × Lost) → List FlowRow → (Entry → Entry) → Entry → Type 0
IsReported now cache fs g e = is_some (counts_at (g e).key fs) ≡ true → settled now (said now (Some (went_by cache fs (row_of (g e))))) ≡ settled now (Gone (seen (g e)))

counted : (o : Option FlowRow) (d : FlowRow) → is_some o ≡ true → (f : FlowRow) × (o ≡ Some f) × (unwrap_or o d ≡ f)
counted None d is = absurd cc
counted (Some f) d is = (f, refl, refl)

said-went_by : (now : ℕ) (cache : List (Key × Lost)) (fs : List FlowRow) (r : ViewRow) → said now (Some (went_by cache fs r)) ≡ Gone (entry_of now r (lost_of (lost_at r.key cache) r.hard (unwrap_or (counts_at r.key fs) (no_counts r))))
unfolding went
said-went_by now cache fs r = refl

reported : (now : ℕ) (rs : List ViewRow) (cache : List (Key × Lost)) (fs : List FlowRow) (e : Entry) → now < 2 ^ 32 → IsSound now cache e → ((f : FlowRow) → counts_at e.key fs ≡ Some f → f ≡ flow_row now e) → IsReported now cache fs (shown_entry rs cache) e
unfolding shown_entry
reported now rs cache fs e moment sound so some =
    let g : Entry = shown_entry rs cache e in
    let x : Entry = record e { flags = asked_flags (row_at e.key rs) } in
    let key : g.key ≡ e.key = key-shown_entry rs cache e in
    let (f, at, is) = counted (counts_at g.key fs) (no_counts (row_of g)) some in
    let report : f ≡ flow_row now e = so f (ap (λ (k : Key). counts_at k fs) (sym key) ∙ at) in
    let lost : lost_of (lost_at g.key cache) g.hard (unwrap_or (counts_at g.key fs) (no_counts (row_of g))) ≡ lost_of (lost_at e.key cache) g.hard (flow_row now x) =
    ap₂ (λ (k : Key) (c : FlowRow). lost_of (lost_at k cache) g.hard c) key (is ∙ report) in
    ap (settled now) (said-went_by now cache fs (row_of g) ∙ ap (λ (l : Lost). Gone (entry_of now (row_of g) l)) lost)
    ∙ ap Gone (went-entry now (lost_at e.key cache) x sound.installed moment sound.age)

-- ---- Images of entries and what is logged of them, one by one

first-here : (d : ℕ) (k : Key) (i : Image) (log : List Logged) → is_at k i.put ≡ true → first_at d k (logged_at d i ∷ log) ≡ Some i
first-here d k i log at = rw (eq-eqb d d refl, at) refl

first-there : (d : ℕ) (k : Key) (i : Image) (log : List Logged) → is_at k i.put ≡ false → first_at d k (logged_at d i ∷ log) ≡ first_at d k log
first-there d k i log at = rw (eq-eqb d d refl, at) refl

at-went : (k : Key) (cache : List (Key × Lost)) (fs : List FlowRow) (r : ViewRow) → is_at k (went_by cache fs r).put ≡ (key_number r.key == key_number k)
unfolding went
at-went k cache fs r = refl

at-acted : (k : Key) (cache : List (Key × Lost)) (r : ViewRow) → is_at k (acted_by cache r).put ≡ (key_number r.key == key_number k)
unfolding acted
at-acted k cache r = refl

said-acted : (now : ℕ) (cache : List (Key × Lost)) (r : ViewRow) → said now (Some (acted_by cache r)) ≡ Acted r.actions
unfolding acted
said-acted now cache r = refl

logged-here : (k : Key) (e : Entry) (log : List Inverse) → has_key k e ≡ true → image_of k (old_entry e ∷ log) ≡ Gone (seen e)
unfolding image_of image_at
logged-here k e log is = rw is refl

logged-there : (k : Key) (e : Entry) (log : List Inverse) → has_key k e ≡ false → image_of k (old_entry e ∷ log) ≡ image_of k log
unfolding image_of image_at
logged-there k e log is = rw is refl

acted-here : (k : Key) (e : Entry) (log : List Inverse) → has_key k e ≡ true → image_of k (old_actions e ∷ log) ≡ merge (Acted e.actions) (image_of k log)
unfolding image_of image_at
acted-here k e log is = rw is refl

acted-there : (k : Key) (e : Entry) (log : List Inverse) → has_key k e ≡ false → image_of k (old_actions e ∷ log) ≡ image_of k log
unfolding image_of image_at
acted-there k e log is = rw is refl

-- the rest of the entries that a MODIFY means adds nothing to what is said of a key
acted-keeps : (k : Key) (actions : List Action) (es : List Entry) → merge (Acted actions) (image_of k (map old_actions es)) ≡ Acted actions
unfolding image_of
acted-keeps k actions [] = refl
acted-keeps k actions (e ∷ es) =
    elim (cases_Bool (has_key k e)) [
      | inl here ↦ ap (merge (Acted actions)) (acted-here k e (map old_actions es) here ∙ acted-keeps k e.actions es)
      | inr there ↦ ap (merge (Acted actions)) (acted-there k e (map old_actions es) there) ∙ acted-keeps k actions es
    ]

-- all reported rows say of each key what the removed entries say
missing-here : (r : ViewRow) (rs : List ViewRow) (fs : List FlowRow) → missing (r ∷ rs) fs ≡ None → (is_some (counts_at r.key fs) ≡ true) × (missing rs fs ≡ None)
missing-here r rs fs none =
    elim (cases_Bool (is_some (counts_at r.key fs))) [
      | inl some ↦ (some, rw some at none)
      | inr not_any ↦ let bad : Some r.key ≡ None = rw not_any at none in absurd cc
    ]

said-all_went : (now d : ℕ) (k : Key) (cache : List (Key × Lost)) (fs : List FlowRow) (g : Entry → Entry) (test : Entry → Bool) (es : List Entry) → All (IsReported now cache fs g) es → missing (map row_of (filter test (map g es))) fs ≡ None → settled now (said now (first_at d k (map (logged_at d) (map (went_by cache fs) (map row_of (filter test (map g es))))))) ≡ settled now (image_of k (map old_entry (filter test (map g es))))
unfolding image_of
said-all_went now d k cache fs g test [] all none = refl
said-all_went now d k cache fs g test (e ∷ es) all none =
    let rest : List Entry = filter test (map g es) in
    let behind : List Logged = map (logged_at d) (map (went_by cache fs) (map row_of rest)) in
    let more = said-all_went now d k cache fs g test es (All-tail (IsReported now cache fs g) e es all) in
    elim (cases_Bool (test (g e))) [
      | inr fails ↦ let left : missing (map row_of rest) fs ≡ None = rw fails at none in rw fails (more left)
      | inl passes ↦
          let now_missing : missing (row_of (g e) ∷ map row_of rest) fs ≡ None = rw passes at none in
          let (some, left) = missing-here (row_of (g e)) (map row_of rest) fs now_missing in
          rw passes (elim (cases_Bool (has_key k (g e))) [
            | inl here ↦
                ap (λ (i : Option Image). settled now (said now i)) (first-here d k (went_by cache fs (row_of (g e))) behind (at-went k cache fs (row_of (g e)) ∙ here))
                ∙ All-head (IsReported now cache fs g) e es all some
                ∙ ap (settled now) (sym (logged-here k (g e) (map old_entry rest) here))
            | inr there ↦
                ap (λ (i : Option Image). settled now (said now i)) (first-there d k (went_by cache fs (row_of (g e))) behind (at-went k cache fs (row_of (g e)) ∙ there))
                ∙ more left
                ∙ ap (settled now) (sym (logged-there k (g e) (map old_entry rest) there))
          ])
    ]

said-all_acted : (now d : ℕ) (k : Key) (cache : List (Key × Lost)) (es : List Entry) → said now (first_at d k (map (logged_at d) (map (acted_by cache) (map row_of es)))) ≡ image_of k (map old_actions es)
unfolding image_of
said-all_acted now d k cache [] = refl
said-all_acted now d k cache (e ∷ es) =
    let i : Image = acted_by cache (row_of e) in
    let behind : List Logged = map (logged_at d) (map (acted_by cache) (map row_of es)) in
    elim (cases_Bool (has_key k e)) [
      | inl here ↦
          ap (said now) (first-here d k i behind (at-acted k cache (row_of e) ∙ here)) ∙ said-acted now cache (row_of e)
          ∙ sym (acted-here k e (map old_actions es) here ∙ acted-keeps k e.actions es)
      | inr there ↦
          ap (said now) (first-there d k i behind (at-acted k cache (row_of e) ∙ there)) ∙ said-all_acted now d k cache es
          ∙ sym (acted-there k e (map old_actions es) there)
    ]

-- ---- A new entry under a key

at-nothing : (k l : Key) (lost : Option Lost) → is_at k (nothing_stood l lost).put ≡ (key_number l == key_number k)
unfolding nothing_stood
at-nothing k l lost = refl

said-nothing : (now : ℕ) (l : Key) (lost : Option Lost) → said now (Some (nothing_stood l lost)) ≡ Absent
unfolding nothing_stood
said-nothing now l lost = refl

said-new : (now d : ℕ) (k l : Key) (lost : Option Lost) → settled now (said now (first_at d k (logged_at d (nothing_stood l lost) ∷ []))) ≡ settled now (image_of k (logged_addition l None))
unfolding image_of image_at
said-new now d k l lost =
    elim (cases_Bool (key_number l == key_number k)) [
      | inl here ↦ ap (λ (i : Option Image). settled now (said now i)) (first-here d k (nothing_stood l lost) [] (at-nothing k l lost ∙ here)) ∙ ap (settled now) (said-nothing now l lost) ∙ rw here refl
      | inr there ↦ ap (λ (i : Option Image). settled now (said now i)) (first-there d k (nothing_stood l lost) [] (at-nothing k l lost ∙ there)) ∙ rw there refl
    ]

found-reported : (now : ℕ) (cache : List (Key × Lost)) (fs : List FlowRow) (g : Entry → Entry) (l : Key) (es : List Entry) (f : Entry) → All (IsReported now cache fs g) es → entry_at l (map g es) ≡ Some f → is_some (counts_at f.key fs) ≡ true → settled now (said now (Some (went_by cache fs (row_of f)))) ≡ settled now (Gone (seen f))
found-reported now cache fs g l [] f all found some = absurd cc
found-reported now cache fs g l (e ∷ es) f all found some =
    elim (cases_Bool (has_key l (g e))) [
      | inl here ↦
          let this : Some (g e) ≡ Some f = rw here at found in
          let is : g e ≡ f = cc in
          let P : Entry → Type 0 = λ x. is_some (counts_at x.key fs) ≡ true → settled now (said now (Some (went_by cache fs (row_of x)))) ≡ settled now (Gone (seen x)) in
          subst P is (All-head (IsReported now cache fs g) e es all) some
      | inr there ↦ found-reported now cache fs g l es f (All-tail (IsReported now cache fs g) e es all) (rw there at found) some
    ]

said-replaced : (now d : ℕ) (k l : Key) (cache : List (Key × Lost)) (fs : List FlowRow) (g : Entry → Entry) (es : List Entry) (o : Option Entry) → All (IsReported now cache fs g) es → entry_at l (map g es) ≡ o → missing (option_to_list (option_map row_of o)) fs ≡ None → settled now (said now (first_at d k (logged_at d (replaced cache fs l (option_map row_of o)) ∷ []))) ≡ settled now (image_of k (logged_addition l o))
unfolding image_of
said-replaced now d k l cache fs g es None all found none = said-new now d k l (lost_at l cache)
said-replaced now d k l cache fs g es (Some f) all found none =
    let (some, left) = missing-here (row_of f) [] fs none in
    elim (cases_Bool (has_key k f)) [
      | inl here ↦
          ap (λ (i : Option Image). settled now (said now i)) (first-here d k (went_by cache fs (row_of f)) [] (at-went k cache fs (row_of f) ∙ here))
          ∙ found-reported now cache fs g l es f all found some
          ∙ ap (settled now) (sym (logged-here k f [] here))
      | inr there ↦
          ap (λ (i : Option Image). settled now (said now i)) (first-there d k (went_by cache fs (row_of f)) [] (at-went k cache fs (row_of f) ∙ there))
          ∙ ap (settled now) (sym (logged-there k f [] there))
    ]

-- ---- The whole change

said-by-rows : (now d : ℕ) (k : Key) (m : FlowMod) (cache : List (Key × Lost)) (fs : List FlowRow) (g : Entry → Entry) (es : List Entry) → All (IsReported now cache fs g) es → missing (going m (map row_of (map g es))) fs ≡ None → settled now (said now (first_at d k (map (logged_at d) (planned m (map row_of (map g es)) cache fs)))) ≡ settled now (image_of k (logged m (map g es)))
unfolding planned going logged
said-by-rows now d k m cache fs g es all none =
    let ses : List Entry = map g es in
    let l : Key = key_in m in
    elim (cases_Bool (adds m ses)) [
      | inl puts ↦
          let rows = row_at-rows l ses in
          let left : missing (option_to_list (option_map row_of (entry_at l ses))) fs ≡ None = rw (adds-rows m ses, puts, rows) at none in
          rw (adds-rows m ses, puts, rows) (said-replaced now d k l cache fs g es (entry_at l ses) all refl left)
      | inr keeps ↦ elim (cases_Bool (is_modify m)) [
        | inl modifies ↦
            rw (adds-rows m ses, keeps, modifies, filter-rows (means_row m) ses)
            (ap (settled now) (said-all_acted now d k cache (filter (λ e. describes m e.key) ses)))
        | inr removes ↦
            let left : missing (map row_of (filter (deletes m) ses)) fs ≡ None = rw (adds-rows m ses, keeps, removes, filter-rows (deletes_row m) ses) at none in
            rw (adds-rows m ses, keeps, removes, filter-rows (deletes_row m) ses) (said-all_went now d k cache fs g (deletes m) es all left)
      ]
    ]

all-reported : (now : ℕ) (rs : List ViewRow) (cache : List (Key × Lost)) (fs : List FlowRow) (es : List Entry) → now < 2 ^ 32 → All (IsSound now cache) es → Reports now es fs → All (IsReported now cache fs (shown_entry rs cache)) es
all-reported now rs cache fs [] moment sound reports = All-nil (IsReported now cache fs (shown_entry rs cache))
all-reported now rs cache fs (e ∷ es) moment sound reports =
    All-cons (IsReported now cache fs (shown_entry rs cache)) e es
    (reported now rs cache fs e moment (All-head (IsSound now cache) e es sound) (All-head (ReportsOne now fs) e es reports))
    (all-reported now rs cache fs es moment (All-tail (IsSound now cache) e es sound) (All-tail (ReportsOne now fs) e es reports))

-- What the images of a change say of each key is what the change logs of the table as it is shown.
pub said-planned : (now d : ℕ) (k : Key) (m : FlowMod) (rs : List ViewRow) (cache : List (Key × Lost)) (fs : List FlowRow) (es : List Entry) → IsView now rs cache es → Reports now es fs → missing (going m rs) fs ≡ None → settled now (said now (first_at d k (map (logged_at d) (planned m rs cache fs)))) ≡ settled now (image_of k (logged m (shown_entries rs cache es)))
said-planned now d k m rs cache fs es view reports none =
    let ses : List Entry = shown_entries rs cache es in
    let P : List ViewRow → Type 0 = λ rows. missing (going m rows) fs ≡ None → settled now (said now (first_at d k (map (logged_at d) (planned m rows cache fs)))) ≡ settled now (image_of k (logged m ses)) in
    subst P (sym view.rows) (said-by-rows now d k m cache fs (shown_entry rs cache) es (all-reported now rs cache fs es view.moment view.sound reports)) none
