-- What follows about what is sent for images: it gives the earlier table back.
use Rattle.std.proofs.Common.{◌≡◌, ℕ, Bool, true, List, [], ◌++◌, map, Option, None, refl, sym, ap, ap₂, ◌∙◌}
use Rattle.std.specs.Option.{option_map}
use Rattle.of_match.specs.declared.key.Key.{Key}
use Rattle.of_action.specs.declared.action.Action.{Action}
use Rattle.of_stats.specs.declared.flow_row.FlowRow.{FlowRow}
use Rattle.of_wire.specs.declared.bodies.FlowMod.{FlowMod}
use Rattle.flow_table.specs.declared.entry.Entry.{Entry}
use Rattle.flow_table.specs.declared.lost.Lost.{Lost}
use Rattle.flow_table.specs.declared.view.ViewRow.{ViewRow}
use Rattle.flow_table.specs.Table.{TableState, entry_at}
use Rattle.flow_table.specs.Change.{changed}
use Rattle.flow_table.specs.Undone.{undone}
use Rattle.flow_table.specs.Corrected.{shown_table}
use Rattle.undo_laws.specs.Log.{Inverse, Image as Said, Untouched, Absent, Gone, Acted, logged, undo, merge, image_of, given_back, seen}
use Rattle.undo_laws.specs.laws.LogLaws.{image_of-append}
use Rattle.undo_laws.specs.Stands.{Stands, is_gone}
use Rattle.undo_laws.specs.laws.StandsLaws.{Stands-nothing, Stands-changed, undo-restores}
use Rattle.undo_laws.specs.Serials.{IsSerialed}
use Rattle.undo_laws.specs.Same.{SameButSerials}
use Rattle.undo_laws.specs.Table.{IsTest}
use Rattle.undo_laws.specs.laws.TableLaws.{Stands-alike, given_back-sent, is_gone-sent}
use Rattle.netlog_inverse.specs.declared.image.Logged.{Logged}
use Rattle.netlog_inverse.specs.Plans.{planned, going, missing}
use Rattle.netlog_inverse.specs.Log.{logged_at}
use Rattle.netlog_inverse.specs.Meaning.{said, settled, first_at, IsView, Reports}
use Rattle.netlog_inverse.specs.laws.MeaningLaws.{said-planned}
use Rattle.netlog_inverse.specs.Restoring.{Says, IsSentFor}

-- ---- What is settled

given_back-settled : (now : ℕ) (i : Said) (o : Option Entry) → given_back now (settled now i) o ≡ given_back now i o
given_back-settled now Untouched o = refl
given_back-settled now Absent o = refl
given_back-settled now (Gone e) o = refl
given_back-settled now (Acted actions) o = refl

is_gone-settled : (now : ℕ) (i : Said) → is_gone (settled now i) ≡ is_gone i
is_gone-settled now Untouched = refl
is_gone-settled now Absent = refl
is_gone-settled now (Gone e) = refl
is_gone-settled now (Acted actions) = refl

pub settled-merge : (now : ℕ) (a b : Said) → settled now (merge a b) ≡ merge (settled now a) (settled now b)
settled-merge now Untouched b = refl
settled-merge now Absent b = refl
settled-merge now (Gone e) b = refl
settled-merge now (Acted actions) Untouched = refl
settled-merge now (Acted actions) Absent = refl
settled-merge now (Acted actions) (Gone e) = refl
settled-merge now (Acted actions) (Acted later) = refl

pub given_back-same : (now : ℕ) (a b : Said) (o : Option Entry) → settled now a ≡ settled now b → given_back now a o ≡ given_back now b o
given_back-same now a b o same =
    sym (given_back-settled now a o) ∙ ap (λ (i : Said). given_back now i o) same ∙ given_back-settled now b o

pub is_gone-same : (now : ℕ) (a b : Said) → settled now a ≡ settled now b → is_gone a ≡ is_gone b
is_gone-same now a b same = sym (is_gone-settled now a) ∙ ap is_gone same ∙ is_gone-settled now b

-- ---- The first images since a mark give its table back

pub Stands-images_sent : (now d : ℕ) (same : List Action → List Action → Bool) (since : List Logged) (earlier : TableState) (log sent : List Inverse) (t : TableState) → IsTest same → Says now d since log → IsSentFor now d same since sent t → Stands now earlier log t → Stands now earlier sent t
Stands-images_sent now d same since earlier log sent t test says is h =
    Stands-alike now earlier log sent t (record {
      given = λ k.
          let o : Option Entry = entry_at k t.entries in
          let i : Said = said now (first_at d k since) in
          ap (λ (x : Said). option_map seen (given_back now x o)) (is k)
          ∙ ap (option_map seen) (given_back-sent now same i o test ∙ given_back-same now i (image_of k log) o (says k));
      gone = λ k gone alone.
          let i : Said = said now (first_at d k since) in
          let went : is_gone i ≡ true = is_gone-sent same i (entry_at k t.entries) (ap is_gone (sym (is k)) ∙ gone) in
          let both : is_gone (image_of k log) ≡ true = sym (is_gone-same now i (image_of k log) (says k)) ∙ went in
          absurd cc;
    }) h

pub images-restore : (now d : ℕ) (same : List Action → List Action → Bool) (since : List Logged) (earlier : TableState) (log sent : List Inverse) (t : TableState) → IsTest same → Says now d since log → IsSentFor now d same since sent t → Stands now earlier log t → SameButSerials (undo now sent t).entries (undone earlier t now).entries
images-restore now d same since earlier log sent t test says is h =
    undo-restores now earlier sent t (Stands-images_sent now d same since earlier log sent t test says is h)

-- ---- The images of one change give back the table before it

pub plan-restores : (now d : ℕ) (same : List Action → List Action → Bool) (m : FlowMod) (rs : List ViewRow) (cache : List (Key × Lost)) (fs : List FlowRow) (t : TableState) (sent : List Inverse) → IsTest same → IsView now rs cache t.entries → Reports now t.entries fs → missing (going m rs) fs ≡ None → IsSerialed (shown_table rs cache t) → IsSentFor now d same (map (logged_at d) (planned m rs cache fs)) sent (changed now m (shown_table rs cache t)) → SameButSerials (undo now sent (changed now m (shown_table rs cache t))).entries (undone (shown_table rs cache t) (changed now m (shown_table rs cache t)) now).entries
plan-restores now d same m rs cache fs t sent test view reports none serialed is =
    let u : TableState = shown_table rs cache t in
    images-restore now d same (map (logged_at d) (planned m rs cache fs)) u (logged m u.entries) sent (changed now m u) test
    (λ k. said-planned now d k m rs cache fs t.entries view reports none) is
    (Stands-changed now u [] m u (Stands-nothing now u serialed))

-- ---- One change more

pub Says-more : (now d : ℕ) (since more after : List Logged) (log newer : List Inverse) → Says now d since log → Says now d more newer → ((k : Key) → settled now (said now (first_at d k after)) ≡ settled now (merge (said now (first_at d k since)) (said now (first_at d k more)))) → Says now d after (log ++ newer)
Says-more now d since more after log newer says planned both k =
    let a : Said = said now (first_at d k since) in
    let b : Said = said now (first_at d k more) in
    both k ∙ settled-merge now a b ∙ ap₂ merge (says k) (planned k)
    ∙ sym (settled-merge now (image_of k log) (image_of k newer))
    ∙ ap (settled now) (sym (image_of-append k log newer))
