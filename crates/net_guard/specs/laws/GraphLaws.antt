-- A graph of sets: what one place more joins, step by step.
use Rattle.std.proofs.Common.{◌≡◌, ◌+◌, ℕ, ◌<◌, Bool, true, false, ◌&&◌, ◌||◌, List, length, map, get_or, refl, ap, ◌∙◌, add-one, sym}
use Rattle.std.proofs.lemmas.List.{get_or-map}
use Rattle.net_guard.specs.Bits.{has, joined, edge_of}
use Rattle.net_guard.specs.Walks.{reaches}
use Rattle.net_guard.specs.laws.BitLaws.{has-or, or-none}

joined_by : (k behind set j : ℕ) (b : Bool) → has set k ≡ b → has (joined k behind set) j ≡ (has set j || (b && has behind j))
unfolding joined
joined_by k behind set j true is = rw is (has-or set behind j)
joined_by k behind set j false is = rw is (sym (or-none (has set j) false refl))

pub has-joined : (k behind set j : ℕ) → has (joined k behind set) j ≡ (has set j || (has set k && has behind j))
has-joined k behind set j = joined_by k behind set j (has set k) refl

-- the graph after one place more reaches by one number more
pub edges_more : (step : ℕ → ℕ → Bool) (graph : List ℕ) (k i j : ℕ) → ((x y : ℕ) → x < length graph → edge_of graph x y ≡ reaches step k x y) → k < length graph → i < length graph
    → edge_of (map (joined k (get_or graph k 0)) graph) i j ≡ reaches step (k + 1) i j
unfolding reaches
edges_more step graph k i j are within_k within_i =
    ap (λ set. has set j) (get_or-map (joined k (get_or graph k 0)) graph i 0 0 within_i)
    ∙ has-joined k (get_or graph k 0) (get_or graph i 0) j
    ∙ rw (are i j within_i, are i k within_i, are k j within_k, add-one) refl
