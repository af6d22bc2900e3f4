-- What follows about moments: after each call no entry was put in or used after the moment of that call, nor after a later one.
use Rattle.std.proofs.Common.{◌≡◌, ℕ, ◌≤◌, Bool, not, List, [], ◌∷◌, All, map, filter, Option, Some, None, refl, arith, inl, inr}
use Rattle.std.proofs.lemmas.Bool.{cases_Bool, cases_lt}
use Rattle.std.proofs.lemmas.List.Elements.{All-nil, All-cons, All-head, All-tail, All-weaker, All-filter, All-map, All-contains}
use Rattle.of_match.specs.declared.packet_key.PacketKey.{PacketKey}
use Rattle.of_wire.specs.declared.bodies.FlowMod.{FlowMod}
use Rattle.flow_table.specs.declared.entry.Entry.{Entry}
use Rattle.flow_table.specs.Table.{TableState, IsMoment, last_moment, place_of, with_entry}
use Rattle.flow_table.specs.laws.TableLaws.{with_entry-before, with_entry-same, with_entry-after}
use Rattle.flow_table.specs.Change.{adds, is_modify, deletes, modified, new_entry, entries_after, refusal, changed, change, unless_refused}
use Rattle.flow_table.specs.Hit.{best, counted, hit, hit_by, with_more, with_counts}
use Rattle.flow_table.specs.laws.HitLaws.{Contains-best}
use Rattle.flow_table.specs.Expiry.{is_due, expire}

pub IsMoment-later : (now later : ℕ) (es : List Entry) → IsMoment now es → now ≤ later → later ≤ last_moment → IsMoment later es
IsMoment-later now later es h le last = record {
  within = last;
  installed = All-weaker (λ e. e.installed ≤ now) (λ e. e.installed ≤ later) (λ e at. omega arith) es h.installed;
  used = All-weaker (λ e. e.used ≤ now) (λ e. e.used ≤ later) (λ e at. omega arith) es h.used;
}

-- what holds of an entry and of each of a table holds of each of the table with the entry
pub All-with_entry : (P : Entry → Type 0) (e : Entry) (es : List Entry) → P e → All P es → All P (with_entry e es)
All-with_entry P e [] p all = All-cons P e [] p (All-nil P)
All-with_entry P e (f ∷ fs) p all =
    elim (cases_lt (place_of e) (place_of f)) [
      | inl lt ↦ rw (with_entry-before e f fs lt) (All-cons P e (f ∷ fs) p all)
      | inr ge ↦ elim (cases_lt (place_of f) (place_of e)) [
        | inl gt ↦ rw (with_entry-after e f fs gt) (All-cons P f (with_entry e fs) (All-head P f fs all) (All-with_entry P e fs p (All-tail P f fs all)))
        | inr le ↦ let same : place_of e ≡ place_of f = omega arith in rw (with_entry-same e f fs same) (All-cons P e fs p (All-tail P f fs all))
      ]
    ]

IsMoment-with_entry : (now : ℕ) (e : Entry) (es : List Entry) → e.installed ≤ now → e.used ≤ now → IsMoment now es → IsMoment now (with_entry e es)
IsMoment-with_entry now e es installed used h = record {
  within = h.within;
  installed = All-with_entry (λ f. f.installed ≤ now) e es installed h.installed;
  used = All-with_entry (λ f. f.used ≤ now) e es used h.used;
}

-- ---- Hits and counts

hit_moment : (o : Option Entry) (len now : ℕ) (es : List Entry) → ((e : Entry) → o ≡ Some e → e.installed ≤ now) → IsMoment now es → IsMoment now (hit_by o len now es)
hit_moment None len now es among h = h
hit_moment (Some e) len now es among h = IsMoment-with_entry now (counted len now e) es (among e refl) (omega arith) h

pub IsMoment-hit : (k : PacketKey) (len now : ℕ) (es : List Entry) → IsMoment now es → IsMoment now (hit k len now es)
unfolding hit
IsMoment-hit k len now es h = hit_moment (best k es) len now es (λ e found. All-contains (λ f. f.installed ≤ now) es e h.installed (Contains-best k es e found)) h

-- a map that keeps both moments
IsMoment-map : (f : Entry → Entry) → ((e : Entry) → (f e).installed ≡ e.installed) → ((e : Entry) → (f e).used ≡ e.used) → (now : ℕ) (es : List Entry) → IsMoment now es → IsMoment now (map f es)
IsMoment-map f installed used now es h = record {
  within = h.within;
  installed = All-map (λ e. e.installed ≤ now) f es (All-weaker (λ e. e.installed ≤ now) (λ e. (f e).installed ≤ now) (λ e le. rw (installed e) le) es h.installed);
  used = All-map (λ e. e.used ≤ now) f es (All-weaker (λ e. e.used ≤ now) (λ e. (f e).used ≤ now) (λ e le. rw (used e) le) es h.used);
}

more_installed : (priority packets bytes : ℕ) (e : Entry) → (with_more priority packets bytes e).installed ≡ e.installed
more_installed priority packets bytes e = grind arith

more_used : (priority packets bytes : ℕ) (e : Entry) → (with_more priority packets bytes e).used ≡ e.used
more_used priority packets bytes e = grind arith

pub IsMoment-with_counts : (priority packets bytes now : ℕ) (es : List Entry) → IsMoment now es → IsMoment now (with_counts priority packets bytes es)
unfolding with_counts
IsMoment-with_counts priority packets bytes now es h = IsMoment-map (with_more priority packets bytes) (more_installed priority packets bytes) (more_used priority packets bytes) now es h

-- ---- Expiry

IsMoment-filter : (p : Entry → Bool) (now : ℕ) (es : List Entry) → IsMoment now es → IsMoment now (filter p es)
IsMoment-filter p now es h = record {
  within = h.within;
  installed = All-filter p (λ e. e.installed ≤ now) es h.installed;
  used = All-filter p (λ e. e.used ≤ now) es h.used;
}

pub IsMoment-expire : (now : ℕ) (t : TableState) → IsMoment now t.entries → IsMoment now (expire now t).entries
unfolding expire
IsMoment-expire now t h = IsMoment-filter (λ e. not (is_due now e)) now t.entries h

-- ---- Changes

modified_installed : (m : FlowMod) (e : Entry) → (modified m e).installed ≡ e.installed
modified_installed m e = grind arith

modified_used : (m : FlowMod) (e : Entry) → (modified m e).used ≡ e.used
modified_used m e = grind arith

pub IsMoment-changed : (now : ℕ) (m : FlowMod) (t : TableState) → IsMoment now t.entries → IsMoment now (changed now m t).entries
unfolding changed entries_after new_entry
IsMoment-changed now m t h =
    elim (cases_Bool (adds m t.entries)) [
      | inl adding ↦ rw adding (IsMoment-with_entry now (new_entry now t.next m) t.entries (omega arith) (omega arith) h)
      | inr other ↦ elim (cases_Bool (is_modify m)) [
        | inl modifies ↦ rw (other, modifies) (IsMoment-map (modified m) (modified_installed m) (modified_used m) now t.entries h)
        | inr deleting ↦ rw (other, deleting) (IsMoment-filter (λ e. not (deletes m e)) now t.entries h)
      ]
    ]

pub IsMoment-change : (cap now : ℕ) (m : FlowMod) (t : TableState) → IsMoment now t.entries → IsMoment now (change cap now m t).entries
unfolding change
IsMoment-change cap now m t h =
    elim (refusal cap m t.entries) as (λ o. IsMoment now (unless_refused o t (changed now m t)).entries) [ None ↦ IsMoment-changed now m t h | Some e ↦ h ]
