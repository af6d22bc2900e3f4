-- What tables that are lent show, where one of them is read, changed, put in or taken out.
use Rattle.std.proofs.Common.{◌≡◌, ℕ, zero, suc, ◌+◌, ◌<◌, Bool, ◌||◌, List, [], ◌∷◌, ◌++◌, length, map, take, get_or, set, insert, refl, sym, ap, ◌∙◌, subst}
use Rattle.std.specs.List.{list_any}
use Rattle.std.proofs.lemmas.List.{get_or-map, map-set, length-map, map-append, take_more}
use Rattle.flow_table.specs.declared.view.TableView.{TableView as Lent}
use Rattle.flow_table.specs.View.{TableView, plain, plains}

pub plains-read : (vs : List Lent) (i : ℕ) (v : Lent) → i < length vs → v ≡ get_or vs i v → plain v ≡ get_or (plains vs) i (plain v)
plains-read vs i v within is = ap plain is ∙ sym (get_or-map plain vs i v (plain v) within)

pub plains-set : (vs : List Lent) (i : ℕ) (v : Lent) → plains (set vs i v) ≡ set (plains vs) i (plain v)
plains-set vs i v = map-set plain vs i v

pub plains-insert : (vs : List Lent) (i : ℕ) (v : Lent) → plains (insert vs i v) ≡ insert (plains vs) i (plain v)
plains-insert [] zero v = refl
plains-insert [] (suc i) v = refl
plains-insert (w ∷ ws) zero v = refl
plains-insert (w ∷ ws) (suc i) v = ap (λ (xs : List TableView). plain w ∷ xs) (plains-insert ws i v)

-- a test that reads what is shown
pub any-plains : (test : TableView → Bool) (vs : List Lent) → list_any (λ v. test (plain v)) vs ≡ list_any test (plains vs)
any-plains test [] = refl
any-plains test (v ∷ vs) = ap (λ (later : Bool). test (plain v) || later) (any-plains test vs)

-- the switches of the tables up to one
pub switches-more : (views : List TableView) (vs : List Lent) (i : ℕ) (v : Lent) → plains vs ≡ views → i < length vs → v ≡ get_or vs i v → map (λ w. w.dpid) (take (i + 1) views) ≡ map (λ w. w.dpid) (take i views) ++ v.dpid ∷ []
switches-more views vs i v shown within is =
    let read : plain v ≡ get_or views i (plain v) = subst (λ (xs : List TableView). plain v ≡ get_or xs i (plain v)) shown (plains-read vs i v within is) in
    let lt : i < length views = subst (λ (xs : List TableView). i < length xs) shown (subst (λ (n : ℕ). i < n) (sym (length-map vs plain)) within) in
    ap (λ (xs : List TableView). map (λ w. w.dpid) xs) (take_more views i (plain v) lt ∙ ap (λ (w : TableView). take i views ++ w ∷ []) (sym read))
    ∙ map-append (λ (w : TableView). w.dpid) (take i views) (plain v ∷ [])
