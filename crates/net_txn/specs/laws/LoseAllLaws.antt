-- What the host keeps where switches are lost one after the other: the views and the messages of the others.
use Rattle.std.proofs.Common.{◌≡◌, ◌==◌, ℕ, Bool, true, false, not, ◌&&◌, ◌||◌, List, [], ◌∷◌, filter, Some, if◌then◌else◌, refl, sym, ap, ◌∙◌, inl, inr}
use Rattle.std.proofs.lemmas.Bool.{cases_eq, eq-eqb, ne_eqb, eqb-true}
use Rattle.std.proofs.lemmas.List.Elements.{filter_agree}
use Rattle.flow_table.specs.View.{TableView}
use Rattle.net_txn.specs.declared.logged.Logged.{Logged}
use Rattle.net_txn.specs.Net.{NetState}
use Rattle.net_txn.specs.Views.{rows_at}
use Rattle.net_txn.specs.Ports.{PortLists, ports_lost}
use Rattle.net_txn.specs.Losing.{lost_net, lose_all}
use Rattle.of_types.specs.Membership.{is_among}
use Rattle.net_txn.specs.Undos.{progress_of, was_lost, views_left, kept_left}
use Rattle.net_txn.specs.NetUndos.{ports_in}

-- ---- Lists without some of their items

pub keep_all : {X : Type 0} (xs : List X) → filter (λ x. true) xs ≡ xs
keep_all [] = refl
keep_all (x ∷ xs) = ap (λ (ys : List _). x ∷ ys) (keep_all xs)

then_if : {X : Type 0} (p q : X → Bool) (x : X) (xs : List X) → filter p (filter q xs) ≡ filter (λ y. q y && p y) xs → (a b : Bool) → q x ≡ a → p x ≡ b
    → filter p (if a then x ∷ filter q xs else filter q xs) ≡ (if (a && b) then x ∷ filter (λ y. q y && p y) xs else filter (λ y. q y && p y) xs)
then_if p q x xs rest true true is_q is_p = rw is_p (ap (λ (ys : List _). x ∷ ys) rest)
then_if p q x xs rest true false is_q is_p = rw is_p rest
then_if p q x xs rest false b is_q is_p = rest

pub filter_then : {X : Type 0} (p q : X → Bool) (xs : List X) → filter p (filter q xs) ≡ filter (λ x. q x && p x) xs
filter_then p q [] = refl
filter_then p q (x ∷ xs) = then_if p q x xs (filter_then p q xs) (q x) (p x) refl refl

pub turned : (a b : ℕ) → (a == b) ≡ (b == a)
turned a b = elim (cases_eq a b) [ inl same ↦ eq-eqb a b same ∙ sym (eq-eqb b a (sym same)) | inr other ↦ ne_eqb a b other ∙ sym (ne_eqb b a (λ same. other (sym same))) ]

neither : (a b : Bool) → (not a && not b) ≡ not (a || b)
neither true b = refl
neither false b = refl

stays_both : (d e : ℕ) (ds : List ℕ) → (not (e == d) && not (is_among e ds)) ≡ not (is_among e (d ∷ ds))
stays_both d e ds = ap (λ (b : Bool). not b && not (is_among e ds)) (turned e d) ∙ neither (d == e) (is_among e ds)

-- items of switches, without those of one and then of some
without_more : {X : Type 0} (of : X → ℕ) (d : ℕ) (ds : List ℕ) (xs : List X) → filter (λ x. not (is_among (of x) ds)) (filter (λ x. not (of x == d)) xs) ≡ filter (λ x. not (is_among (of x) (d ∷ ds))) xs
without_more of d ds xs =
    filter_then (λ x. not (is_among (of x) ds)) (λ x. not (of x == d)) xs ∙ filter_agree (λ x. not (of x == d) && not (is_among (of x) ds)) (λ x. not (is_among (of x) (d ∷ ds))) (λ x. stays_both d (of x) ds) xs

-- ---- What is kept

abbrev of_view : TableView → ℕ
of_view v = v.dpid

abbrev of_message : ℕ × List ℕ → ℕ
of_message m = m.0

-- the views, ports and messages without those of the switches that were lost
abbrev pub lost_is : List ℕ → NetState → NetState
lost_is lost net = record net {
  views = filter (λ v. not (is_among v.dpid lost)) net.views;
  ports = (ports_lost lost (ports_in net)).known;
  kept = filter (λ m. not (is_among m.0 lost)) net.kept;
  left = (ports_lost lost (ports_in net)).left;
}

none_lost : (net : NetState) (views : List TableView) (kept : List (ℕ × List ℕ)) → views ≡ net.views → kept ≡ net.kept → net ≡ record net { views = views; kept = kept }
none_lost net views kept same_views same_kept = rw (same_views, same_kept) refl

one_more : (net : NetState) (views more_views : List TableView) (kept more_kept : List (ℕ × List ℕ)) (p : PortLists) → views ≡ more_views → kept ≡ more_kept
    → record net { views = views; ports = p.known; kept = kept; left = p.left } ≡ record net { views = more_views; ports = p.known; kept = more_kept; left = p.left }
one_more net views more_views kept more_kept p same_views same_kept = rw (same_views, same_kept) refl

pub lose_all-so : (lost : List ℕ) (net : NetState) → lose_all lost net ≡ lost_is lost net
lose_all-so [] net = none_lost net (filter (λ v. true) net.views) (filter (λ m. true) net.kept) (keep_all net.views) (keep_all net.kept)
lose_all-so (d ∷ ds) net =
    lose_all-so ds (lost_net d net)
    ∙ one_more net (filter (λ v. not (is_among v.dpid ds)) (filter (λ v. not (v.dpid == d)) net.views)) (filter (λ v. not (is_among v.dpid (d ∷ ds))) net.views)
    (filter (λ m. not (is_among m.0 ds)) (filter (λ m. not (m.0 == d)) net.kept)) (filter (λ m. not (is_among m.0 (d ∷ ds))) net.kept) (ports_lost (d ∷ ds) (ports_in net))
    (without_more of_view d ds net.views) (without_more of_message d ds net.kept)

-- ---- The rows of the others

rows_if : (d : ℕ) (v : TableView) (vs : List TableView) (keep here : Bool) → (v.dpid == d) ≡ here → (here ≡ true → keep ≡ true) → rows_at d vs ≡ rows_at d vs → (rest : List TableView) → rows_at d rest ≡ rows_at d vs
    → rows_at d (if keep then v ∷ rest else rest) ≡ (if here then Some v.rows else rows_at d vs)
rows_if d v vs true true is stays same rest end = rw is refl
rows_if d v vs true false is stays same rest end = rw is end
rows_if d v vs false true is stays same rest end = let bad = stays refl in absurd cc
rows_if d v vs false false is stays same rest end = end

not_among : (d e : ℕ) (lost : List ℕ) → is_among d lost ≡ false → (e == d) ≡ true → not (is_among e lost) ≡ true
not_among d e lost none same = ap (λ (n : ℕ). not (is_among n lost)) (eqb-true e d same) ∙ ap not none

pub lost-rows : (d : ℕ) (lost : List ℕ) (vs : List TableView) → is_among d lost ≡ false → rows_at d (filter (λ v. not (is_among v.dpid lost)) vs) ≡ rows_at d vs
lost-rows d lost [] none = refl
lost-rows d lost (v ∷ vs) none =
    rows_if d v vs (not (is_among v.dpid lost)) (v.dpid == d) refl (not_among d v.dpid lost none) refl (filter (λ v. not (is_among v.dpid lost)) vs) (lost-rows d lost vs none)

-- ---- What a loop over the log drops

-- it dropped the switch: some entry of it tells so
abbrev gone : List Logged → List Logged → ℕ → Bool
gone all [] d = false
gone all (e ∷ es) d = (was_lost all e.dpid && (d == e.dpid)) || gone all es d

views_here : (all : List Logged) (e : Logged) (es : List Logged) (vs : List TableView) (b : Bool) → was_lost all e.dpid ≡ b → ((ws : List TableView) → views_left all es ws ≡ filter (λ v. not (gone all es v.dpid)) ws)
    → views_left all es (if b then filter (λ v. not (v.dpid == e.dpid)) vs else vs) ≡ filter (λ v. not ((b && (v.dpid == e.dpid)) || gone all es v.dpid)) vs
views_here all e es vs true lost rest =
    rest (filter (λ v. not (v.dpid == e.dpid)) vs) ∙ filter_then (λ v. not (gone all es v.dpid)) (λ v. not (v.dpid == e.dpid)) vs
    ∙ filter_agree (λ v. not (v.dpid == e.dpid) && not (gone all es v.dpid)) (λ v. not ((v.dpid == e.dpid) || gone all es v.dpid)) (λ v. neither (v.dpid == e.dpid) (gone all es v.dpid)) vs
views_here all e es vs false lost rest = rest vs

views_gone : (all es : List Logged) (vs : List TableView) → views_left all es vs ≡ filter (λ v. not (gone all es v.dpid)) vs
views_gone all [] vs = sym (keep_all vs)
views_gone all (e ∷ es) vs = views_here all e es vs (was_lost all e.dpid) refl (views_gone all es)

kept_here : (all : List Logged) (e : Logged) (es : List Logged) (ms : List (ℕ × List ℕ)) (b : Bool) → was_lost all e.dpid ≡ b → ((ns : List (ℕ × List ℕ)) → kept_left all es ns ≡ filter (λ m. not (gone all es m.0)) ns)
    → kept_left all es (if b then filter (λ m. not (m.0 == e.dpid)) ms else ms) ≡ filter (λ m. not ((b && (m.0 == e.dpid)) || gone all es m.0)) ms
kept_here all e es ms true lost rest =
    rest (filter (λ m. not (m.0 == e.dpid)) ms) ∙ filter_then (λ m. not (gone all es m.0)) (λ m. not (m.0 == e.dpid)) ms
    ∙ filter_agree (λ m. not (m.0 == e.dpid) && not (gone all es m.0)) (λ m. not ((m.0 == e.dpid) || gone all es m.0)) (λ m. neither (m.0 == e.dpid) (gone all es m.0)) ms
kept_here all e es ms false lost rest = rest ms

kept_gone : (all es : List Logged) (ms : List (ℕ × List ℕ)) → kept_left all es ms ≡ filter (λ m. not (gone all es m.0)) ms
kept_gone all [] ms = sym (keep_all ms)
kept_gone all (e ∷ es) ms = kept_here all e es ms (was_lost all e.dpid) refl (kept_gone all es)

-- it did so exactly where the newest entry tells so
abbrev in_log : ℕ → List Logged → Bool
in_log d [] = false
in_log d (e ∷ es) = (e.dpid == d) || in_log d es

both_is : (a b c : Bool) → ((c && a) || (b && c)) ≡ ((a || b) && c)
both_is true b true = refl
both_is true true false = refl
both_is true false false = refl
both_is false b true = last b
  where
    last : (b : Bool) → (b && true) ≡ (b && true)
    last b = refl
both_is false true false = refl
both_is false false false = refl

gone_here : (all : List Logged) (e : Logged) (es : List Logged) (d : ℕ) (here : Bool) → (e.dpid == d) ≡ here → gone all es d ≡ (in_log d es && was_lost all d) → ((was_lost all e.dpid && (d == e.dpid)) || gone all es d) ≡ ((here || in_log d es) && was_lost all d)
gone_here all e es d true is rest =
    ap (λ (b : Bool). (was_lost all e.dpid && b) || gone all es d) (turned d e.dpid ∙ is) ∙ ap (λ (n : ℕ). (was_lost all n && true) || gone all es d) (eqb-true e.dpid d is)
    ∙ ap (λ (b : Bool). (was_lost all d && true) || b) rest ∙ both_is true (in_log d es) (was_lost all d)
gone_here all e es d false is rest =
    ap (λ (b : Bool). (was_lost all e.dpid && b) || gone all es d) (turned d e.dpid ∙ is) ∙ none (was_lost all e.dpid) (gone all es d) ∙ rest
  where
    none : (a b : Bool) → ((a && false) || b) ≡ b
    none true b = refl
    none false b = refl

gone_is : (all es : List Logged) (d : ℕ) → gone all es d ≡ (in_log d es && was_lost all d)
gone_is all [] d = refl
gone_is all (e ∷ es) d = gone_here all e es d (e.dpid == d) refl (gone_is all es d)

in_if_lost : (d : ℕ) (e : Logged) (es : List Logged) (here : Bool) → (e.dpid == d) ≡ here → was_lost es d ≡ (in_log d es && was_lost es d) → was_lost (e ∷ es) d ≡ ((here || in_log d es) && was_lost (e ∷ es) d)
in_if_lost d e es true is rest = refl
in_if_lost d e es false is rest =
    let same : was_lost (e ∷ es) d ≡ was_lost es d = ap (λ (b : Bool). (if b then e.progress else progress_of d es).lost) is in
    same ∙ rest ∙ ap (λ (b : Bool). in_log d es && b) (sym same)

lost_logged : (d : ℕ) (all : List Logged) → was_lost all d ≡ (in_log d all && was_lost all d)
lost_logged d [] = refl
lost_logged d (e ∷ es) = in_if_lost d e es (e.dpid == d) refl (lost_logged d es)

gone_lost : (all : List Logged) (d : ℕ) → not (gone all all d) ≡ not (was_lost all d)
gone_lost all d = ap not (gone_is all all d ∙ sym (lost_logged d all))

pub views_without : (all : List Logged) (vs : List TableView) → views_left all all vs ≡ filter (λ v. not (was_lost all v.dpid)) vs
views_without all vs = views_gone all all vs ∙ filter_agree (λ v. not (gone all all v.dpid)) (λ v. not (was_lost all v.dpid)) (λ v. gone_lost all v.dpid) vs

pub kept_without : (all : List Logged) (ms : List (ℕ × List ℕ)) → kept_left all all ms ≡ filter (λ m. not (was_lost all m.0)) ms
kept_without all ms = kept_gone all all ms ∙ filter_agree (λ m. not (gone all all m.0)) (λ m. not (was_lost all m.0)) (λ m. gone_lost all m.0) ms

pub lose_all-moment : (lost : List ℕ) (net : NetState) → (lose_all lost net).moment ≡ net.moment
lose_all-moment [] net = refl
lose_all-moment (d ∷ ds) net = lose_all-moment ds (lost_net d net)
