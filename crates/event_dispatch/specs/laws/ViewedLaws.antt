-- A switch that is joined has a view, and its rows are found there.
use Rattle.std.proofs.Common.{◌≡◌, ◌==◌, ℕ, true, List, [], ◌∷◌, IsSome, refl, sym, inl, inr, true≢false}
use Rattle.std.proofs.lemmas.Bool.{cases_Bool}
use Rattle.flow_table.specs.View.{TableView}
use Rattle.net_txn.specs.Views.{rows_at, is_viewed}

pub joined_rows : (d : ℕ) (views : List TableView) → is_viewed d views ≡ true → IsSome (rows_at d views)
joined_rows d [] h = absurd (true≢false (sym h))
joined_rows d (v ∷ vs) h =
    elim (cases_Bool (v.dpid == d)) [
      | inl here ↦ rw here refl
      | inr other ↦ rw other (joined_rows d vs (rw other at h))
    ]
