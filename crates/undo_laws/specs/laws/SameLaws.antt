-- What follows about tables that are the same but for serials: they stay so, and refuse, hit, tell and show the same.
use Rattle.std.proofs.Common.{◌≡◌, ◌==◌, ℕ, Bool, not, ◌&&◌, ◌||◌, nat_lt, nat_le, List, [], ◌∷◌, map, filter, Option, Some, None, refl, sym, ap, ap₂, ◌∙◌, arith, inl, inr}
use Rattle.std.proofs.lemmas.Bool.{cases_lt, cases_Bool}
use Rattle.std.proofs.lemmas.List.{length-map}
use Rattle.std.specs.List.{list_any}
use Rattle.std.specs.Option.{option_map}
use Rattle.of_match.specs.declared.flow_match.Match.{Match}
use Rattle.of_match.specs.declared.key.Key.{Key}
use Rattle.of_match.specs.declared.packet_key.PacketKey.{PacketKey}
use Rattle.of_match.specs.Covers.{is_covering}
use Rattle.of_action.specs.declared.action.Action.{Action}
use Rattle.of_wire.specs.declared.bodies.FlowMod.{FlowMod}
use Rattle.flow_timeouts.specs.declared.timeouts.Reason.{Reason}
use Rattle.flow_table.specs.declared.entry.Entry.{Entry}
use Rattle.flow_table.specs.Table.{TableState, place_of, has_key, with_entry}
use Rattle.flow_table.specs.laws.TableLaws.{with_entry-before, with_entry-same, with_entry-after}
use Rattle.flow_table.specs.Change.{key_in, is_modify, is_delete, describes, deletes, adds, checks_overlap, clashes, is_full, asks_notice, modified, new_entry, refusal, entries_after, notice, notices_of, means, tells, clashes_with}
use Rattle.flow_table.specs.laws.ChangeLaws.{entries_after-adds, entries_after-modify, entries_after-delete}
use Rattle.flow_table.specs.Hit.{rank, best, better, counted, hit, hit_by, with_more, with_counts}
use Rattle.flow_table.specs.Expiry.{among, by_deadline, deadline, end_of, is_due, notice_at, expire, expiry_notices}
use Rattle.flow_table.specs.Rows.{is_selected, selected}
use Rattle.flow_table.specs.Step.{flow_removed}
use Rattle.undo_laws.specs.Log.{Inverse, Remove, PutBack, GiveActions, give_actions, back, undo_one, undo, seen}
use Rattle.undo_laws.specs.Same.{SameButSerials}

-- ---- Lists of entries

any-seen : (test : Entry → Bool) → ((e : Entry) → test (seen e) ≡ test e) → (es : List Entry) → list_any test (map seen es) ≡ list_any test es
any-seen test blind [] = refl
any-seen test blind (e ∷ es) = ap₂ (λ a b. a || b) (blind e) (any-seen test blind es)

pub filter-seen : (test : Entry → Bool) → ((e : Entry) → test (seen e) ≡ test e) → (es : List Entry) → filter test (map seen es) ≡ map seen (filter test es)
filter-seen test blind [] = refl
filter-seen test blind (e ∷ es) =
    elim (cases_Bool (test e)) [
      | inl passes ↦ rw (blind e, passes) (ap (λ xs. seen e ∷ xs) (filter-seen test blind es))
      | inr fails ↦ rw (blind e, fails) (filter-seen test blind es)
    ]

map-seen : (g : Entry → Entry) → ((e : Entry) → g (seen e) ≡ seen (g e)) → (es : List Entry) → map g (map seen es) ≡ map seen (map g es)
map-seen g blind [] = refl
map-seen g blind (e ∷ es) = ap₂ (λ x xs. x ∷ xs) (blind e) (map-seen g blind es)

pub image-seen : {X : Type 0} (h : Entry → X) → ((e : Entry) → h (seen e) ≡ h e) → (es : List Entry) → map h (map seen es) ≡ map h es
image-seen h blind [] = refl
image-seen h blind (e ∷ es) = ap₂ (λ x xs. x ∷ xs) (blind e) (image-seen h blind es)

map_map : {X Y : Type 0} (g : X → Y) (f : Entry → X) (es : List Entry) → map g (map f es) ≡ map (λ e. g (f e)) es
map_map g f [] = refl
map_map g f (e ∷ es) = ap (λ ys. g (f e) ∷ ys) (map_map g f es)

with_entry-seen : (e : Entry) (es : List Entry) → with_entry (seen e) (map seen es) ≡ map seen (with_entry e es)
with_entry-seen e [] = refl
with_entry-seen e (f ∷ fs) =
    elim (cases_lt (place_of e) (place_of f)) [
      | inl lt ↦ rw (with_entry-before e f fs lt) (with_entry-before (seen e) (seen f) (map seen fs) lt)
      | inr ge ↦ elim (cases_lt (place_of f) (place_of e)) [
        | inl gt ↦ rw (with_entry-after e f fs gt) (with_entry-after (seen e) (seen f) (map seen fs) gt ∙ ap (λ xs. seen f ∷ xs) (with_entry-seen e fs))
        | inr le ↦ let same : place_of e ≡ place_of f = omega arith in rw (with_entry-same e f fs same) (with_entry-same (seen e) (seen f) (map seen fs) same)
      ]
    ]

-- ---- Changes

pub adds-seen : (m : FlowMod) (es : List Entry) → adds m (map seen es) ≡ adds m es
unfolding adds
adds-seen m es = ap (λ b. m.command == 0 || (is_modify m && not b)) (any-seen (means m) (λ e. refl) es)

clashes-seen : (m : FlowMod) (es : List Entry) → clashes m (map seen es) ≡ clashes m es
unfolding clashes
clashes-seen m es = ap (λ b. checks_overlap m.flags && b) (any-seen (clashes_with (key_in m)) (λ e. refl) es)

full-seen : (cap : ℕ) (m : FlowMod) (es : List Entry) → is_full cap m (map seen es) ≡ is_full cap m es
unfolding is_full
full-seen cap m es = ap₂ (λ b n. not b && nat_le cap n) (any-seen (has_key (key_in m)) (λ e. refl) es) (length-map es seen)

refusal-seen : (cap : ℕ) (m : FlowMod) (es : List Entry) → refusal cap m (map seen es) ≡ refusal cap m es
unfolding refusal
refusal-seen cap m es = rw (adds-seen m es, clashes-seen m es, full-seen cap m es) refl

modified-seen : (m : FlowMod) (e : Entry) → modified m (seen e) ≡ seen (modified m e)
modified-seen m e = elim (cases_Bool (describes m e.key)) [ inl meets ↦ rw meets refl | inr other ↦ rw other refl ]

new-seen : (now serial : ℕ) (m : FlowMod) → new_entry now 0 m ≡ seen (new_entry now serial m)
unfolding new_entry
new-seen now serial m = refl

after-seen : (now serial : ℕ) (m : FlowMod) (es : List Entry) → entries_after now 0 m (map seen es) ≡ map seen (entries_after now serial m es)
after-seen now serial m es =
    elim (cases_Bool (adds m es)) [
      | inl puts ↦
          entries_after-adds now 0 m (map seen es) (adds-seen m es ∙ puts)
          ∙ ap (λ n. with_entry n (map seen es)) (new-seen now serial m)
          ∙ with_entry-seen (new_entry now serial m) es
          ∙ ap (map seen) (sym (entries_after-adds now serial m es puts))
      | inr keeps ↦ elim (cases_Bool (is_modify m)) [
        | inl modifies ↦
            entries_after-modify now 0 m (map seen es) (adds-seen m es ∙ keeps) modifies
            ∙ map-seen (modified m) (modified-seen m) es
            ∙ ap (map seen) (sym (entries_after-modify now serial m es keeps modifies))
        | inr removes ↦
            entries_after-delete now 0 m (map seen es) (adds-seen m es ∙ keeps) removes
            ∙ filter-seen (λ e. not (deletes m e)) (λ e. refl) es
            ∙ ap (map seen) (sym (entries_after-delete now serial m es keeps removes))
      ]
    ]

notices-seen : (now : ℕ) (m : FlowMod) (es : List Entry) → map flow_removed (notices_of now m (map seen es)) ≡ map flow_removed (notices_of now m es)
unfolding notices_of
notices-seen now m es =
    elim (cases_Bool (is_delete m)) [
      | inl goes ↦ rw goes
          (ap (λ xs. map flow_removed (map (notice 2 now) xs)) (filter-seen (tells m) (λ e. refl) es)
          ∙ map_map flow_removed (notice 2 now) (map seen (filter (tells m) es))
          ∙ image-seen (λ e. flow_removed (notice 2 now e)) (λ e. refl) (filter (tells m) es)
          ∙ sym (map_map flow_removed (notice 2 now) (filter (tells m) es)))
      | inr keeps ↦ rw keeps refl
    ]

pub same-adds : (m : FlowMod) (es fs : List Entry) → SameButSerials es fs → adds m es ≡ adds m fs
same-adds m es fs same = sym (adds-seen m es) ∙ ap (adds m) same ∙ adds-seen m fs

pub same-refusal : (cap : ℕ) (m : FlowMod) (es fs : List Entry) → SameButSerials es fs → refusal cap m es ≡ refusal cap m fs
same-refusal cap m es fs same = sym (refusal-seen cap m es) ∙ ap (refusal cap m) same ∙ refusal-seen cap m fs

pub same-after : (now a b : ℕ) (m : FlowMod) (es fs : List Entry) → SameButSerials es fs → SameButSerials (entries_after now a m es) (entries_after now b m fs)
same-after now a b m es fs same = sym (after-seen now a m es) ∙ ap (entries_after now 0 m) same ∙ after-seen now b m fs

pub same-notices : (now : ℕ) (m : FlowMod) (es fs : List Entry) → SameButSerials es fs → map flow_removed (notices_of now m es) ≡ map flow_removed (notices_of now m fs)
same-notices now m es fs same = sym (notices-seen now m es) ∙ ap (λ xs. map flow_removed (notices_of now m xs)) same ∙ notices-seen now m fs

-- ---- Hits and counts

rank-seen : (e : Entry) → rank (seen e) ≡ rank e
unfolding rank
rank-seen e = refl

better-seen : (e : Entry) (o : Option Entry) → better (seen e) (option_map seen o) ≡ option_map seen (better e o)
better-seen e None = refl
better-seen e (Some f) =
    elim (cases_Bool (nat_lt (rank e) (rank f))) [
      | inl less ↦ rw (rank-seen e, rank-seen f, less) refl
      | inr not_less ↦ rw (rank-seen e, rank-seen f, not_less) refl
    ]

best-seen : (k : PacketKey) (es : List Entry) → best k (map seen es) ≡ option_map seen (best k es)
unfolding best
best-seen k [] = refl
best-seen k (e ∷ es) =
    elim (cases_Bool (is_covering e.key.matching k)) [
      | inl covers ↦ rw covers (ap (better (seen e)) (best-seen k es) ∙ better-seen e (best k es))
      | inr other ↦ rw other (best-seen k es)
    ]

hit_by-seen : (o : Option Entry) (len now : ℕ) (es : List Entry) → hit_by (option_map seen o) len now (map seen es) ≡ map seen (hit_by o len now es)
hit_by-seen None len now es = refl
hit_by-seen (Some e) len now es = with_entry-seen (counted len now e) es

hit-seen : (k : PacketKey) (len now : ℕ) (es : List Entry) → hit k len now (map seen es) ≡ map seen (hit k len now es)
unfolding hit
hit-seen k len now es = ap (λ o. hit_by o len now (map seen es)) (best-seen k es) ∙ hit_by-seen (best k es) len now es

more-seen : (priority packets bytes : ℕ) (e : Entry) → with_more priority packets bytes (seen e) ≡ seen (with_more priority packets bytes e)
more-seen priority packets bytes e = elim (cases_Bool (e.key.priority == priority)) [ inl same ↦ rw same refl | inr other ↦ rw other refl ]

counts-seen : (priority packets bytes : ℕ) (es : List Entry) → with_counts priority packets bytes (map seen es) ≡ map seen (with_counts priority packets bytes es)
unfolding with_counts
counts-seen priority packets bytes es = map-seen (with_more priority packets bytes) (more-seen priority packets bytes) es

pub same-best : (k : PacketKey) (es fs : List Entry) → SameButSerials es fs → option_map seen (best k es) ≡ option_map seen (best k fs)
same-best k es fs same = sym (best-seen k es) ∙ ap (best k) same ∙ best-seen k fs

pub same-hit : (k : PacketKey) (len now : ℕ) (es fs : List Entry) → SameButSerials es fs → SameButSerials (hit k len now es) (hit k len now fs)
same-hit k len now es fs same = sym (hit-seen k len now es) ∙ ap (hit k len now) same ∙ hit-seen k len now fs

pub same-counts : (priority packets bytes : ℕ) (es fs : List Entry) → SameButSerials es fs → SameButSerials (with_counts priority packets bytes es) (with_counts priority packets bytes fs)
same-counts priority packets bytes es fs same = sym (counts-seen priority packets bytes es) ∙ ap (with_counts priority packets bytes) same ∙ counts-seen priority packets bytes fs

-- ---- Expiry

due-seen : (now : ℕ) (e : Entry) → is_due now (seen e) ≡ is_due now e
unfolding is_due
due-seen now e = refl

end-seen : (e : Entry) → end_of (seen e) ≡ end_of e
unfolding end_of
end-seen e = refl

among-seen : (e : Entry) (es : List Entry) → among (seen e) (map seen es) ≡ map seen (among e es)
among-seen e [] = refl
among-seen e (f ∷ fs) =
    elim (cases_Bool (nat_le (end_of e) (end_of f))) [
      | inl first ↦ rw (end-seen e, end-seen f, first) refl
      | inr later ↦ rw (end-seen e, end-seen f, later) (ap (λ xs. seen f ∷ xs) (among-seen e fs))
    ]

by_deadline-seen : (es : List Entry) → by_deadline (map seen es) ≡ map seen (by_deadline es)
unfolding by_deadline
by_deadline-seen [] = refl
by_deadline-seen (e ∷ es) = ap (among (seen e)) (by_deadline-seen es) ∙ among-seen e (by_deadline es)

notice-seen : (d : Option (ℕ × Reason)) (e : Entry) → flow_removed (notice_at d (seen e)) ≡ flow_removed (notice_at d e)
notice-seen None e = refl
notice-seen (Some d) e = refl

gone-seen : (now : ℕ) (es : List Entry) → filter (λ e. is_due now e && asks_notice e.flags) (map seen es) ≡ map seen (filter (λ e. is_due now e && asks_notice e.flags) es)
gone-seen now es = filter-seen (λ e. is_due now e && asks_notice e.flags) (λ e. ap (λ b. b && asks_notice e.flags) (due-seen now e)) es

expiry-seen : (now : ℕ) (es : List Entry) → map flow_removed (expiry_notices now (map seen es)) ≡ map flow_removed (expiry_notices now es)
unfolding expiry_notices
expiry-seen now es =
    let going : List Entry = filter (λ e. is_due now e && asks_notice e.flags) es in
    let tell : Entry → _ = λ (e : Entry). notice_at (deadline e) e in
    ap (λ xs. map flow_removed (map tell (by_deadline xs))) (gone-seen now es)
    ∙ ap (λ xs. map flow_removed (map tell xs)) (by_deadline-seen going)
    ∙ map_map flow_removed tell (map seen (by_deadline going))
    ∙ image-seen (λ e. flow_removed (tell e)) (λ e. notice-seen (deadline e) e) (by_deadline going)
    ∙ sym (map_map flow_removed tell (by_deadline going))

pub same-expire : (now : ℕ) (t u : TableState) → SameButSerials t.entries u.entries → SameButSerials (expire now t).entries (expire now u).entries
unfolding expire
same-expire now t u same =
    let left : Entry → Bool = λ (e : Entry). not (is_due now e) in
    let blind : (e : Entry) → left (seen e) ≡ left e = λ e. ap not (due-seen now e) in
    sym (filter-seen left blind t.entries) ∙ ap (filter left) same ∙ filter-seen left blind u.entries

pub same-expiry_notices : (now : ℕ) (es fs : List Entry) → SameButSerials es fs → map flow_removed (expiry_notices now es) ≡ map flow_removed (expiry_notices now fs)
same-expiry_notices now es fs same = sym (expiry-seen now es) ∙ ap (λ xs. map flow_removed (expiry_notices now xs)) same ∙ expiry-seen now fs

-- ---- Rows

selected-blind : (m : Match) (out_port : ℕ) (e : Entry) → is_selected m out_port (seen e) ≡ is_selected m out_port e
unfolding is_selected
selected-blind m out_port e = refl

pub same-selected : (m : Match) (out_port : ℕ) (es fs : List Entry) → SameButSerials es fs → SameButSerials (selected m out_port es) (selected m out_port fs)
same-selected m out_port es fs same =
    let test : Entry → Bool = is_selected m out_port in
    let blind : (e : Entry) → test (seen e) ≡ test e = selected-blind m out_port in
    sym (filter-seen test blind es) ∙ ap (filter test) same ∙ filter-seen test blind fs

-- ---- Undo

give-seen : (now a b : ℕ) (e : Entry) (es fs : List Entry) → SameButSerials es fs → SameButSerials (with_entry (back now a e) es) (with_entry (back now b e) fs)
give-seen now a b e es fs same = sym (with_entry-seen (back now a e) es) ∙ ap (with_entry (back now 0 e)) same ∙ with_entry-seen (back now b e) fs

actions-seen : (k : Key) (actions : List Action) (e : Entry) → give_actions k actions (seen e) ≡ seen (give_actions k actions e)
actions-seen k actions e = elim (cases_Bool (has_key k e)) [ inl has ↦ rw has refl | inr other ↦ rw other refl ]

same-undo_one : (now : ℕ) (x : Inverse) (t u : TableState) → SameButSerials t.entries u.entries → SameButSerials (undo_one now x t).entries (undo_one now x u).entries
unfolding undo_one
same-undo_one now (Remove k) t u same =
    let test : Entry → Bool = λ (e : Entry). not (has_key k e) in
    sym (filter-seen test (λ e. refl) t.entries) ∙ ap (filter test) same ∙ filter-seen test (λ e. refl) u.entries
same-undo_one now (PutBack e) t u same = give-seen now t.next u.next e t.entries u.entries same
same-undo_one now (GiveActions k actions) t u same =
    let g : Entry → Entry = give_actions k actions in
    sym (map-seen g (actions-seen k actions) t.entries) ∙ ap (map g) same ∙ map-seen g (actions-seen k actions) u.entries

pub same-undo : (now : ℕ) (log : List Inverse) (t u : TableState) → SameButSerials t.entries u.entries → SameButSerials (undo now log t).entries (undo now log u).entries
unfolding undo
same-undo now [] t u same = same
same-undo now (x ∷ log) t u same = same-undo_one now x (undo now log t) (undo now log u) (same-undo now log t u same)
