-- What follows about the messages of an image: each undoes what the image says, and what is left of a hard timeout ends when it would have.
use Rattle.std.proofs.Common.{◌≡◌, ◌≢◌, ℕ, ◌+◌, ◌-◌, ◌%◌, ◌^◌, ◌<◌, ◌≤◌, List, Some, refl, ap, arith, inl, inr}
use Rattle.std.proofs.lemmas.Bool.{cases_eq, ne_eqb, lt-ltb}
use Rattle.of_match.specs.declared.key.Key.{Key}
use Rattle.flow_timeouts.specs.Timeouts.{end_of}
use Rattle.flow_table.specs.declared.lost.Lost.{Lost}
use Rattle.flow_table.specs.declared.view.ViewRow.{ViewRow}
use Rattle.flow_table.specs.Change.{new_entry}
use Rattle.flow_table.specs.Corrected.{row_at, lost_at, shown_entry}
use Rattle.undo_laws.specs.Log.{Remove, PutBack, GiveActions, back}
use Rattle.undo_laws.specs.Reverting.{Reverts}
use Rattle.netlog_inverse.specs.Messages.{removal, addition, modification, hard_left}
use Rattle.netlog_inverse.specs.Meaning.{entry_of}

pub removal-reverts : (k : Key) → Reverts (Remove k) (removal k)
removal-reverts k = record { command = refl; out_port = refl; key = refl }

pub modification-reverts : (r : ViewRow) → Reverts (GiveActions r.key r.actions) (modification r)
modification-reverts r = record { command = refl; key = refl; actions = refl }

pub addition-reverts : (now hard : ℕ) (r : ViewRow) (lost : Lost) → Reverts (PutBack (entry_of now r lost)) (addition hard r)
addition-reverts now hard r lost = record { command = refl; key = refl; unchecked = refl }

small : (x : ℕ) → x < 2 ^ 64 → (0 + x) % 2 ^ 64 ≡ x
small x lt = omega arith

-- The entry that the ADD puts in is shown, with the row and the cache row of the image, as the entry that went; its idle time begins
-- anew.
pub shown-addition : (now serial hard : ℕ) (r : ViewRow) (lost : Lost) (rs : List ViewRow) (cache : List (Key × Lost)) → row_at r.key rs ≡ Some r → lost_at r.key cache ≡ Some lost → lost.packets < 2 ^ 64 → lost.bytes < 2 ^ 64 → shown_entry rs cache (new_entry now serial (addition hard r)) ≡ back now serial (entry_of now r lost)
unfolding shown_entry new_entry
shown-addition now serial hard r lost rs cache row cached packets bytes =
    rw (row, cached, small lost.packets packets, small lost.bytes bytes) refl

-- what is left of the hard timeout ends when the whole would have ended
pub end-hard_left : (now hard age : ℕ) → age ≤ now → (hard ≢ 0 → age < hard) → end_of now (hard_left hard age) ≡ end_of (now - age) hard
end-hard_left now hard age le left =
    elim (cases_eq hard 0) [
      | inl none ↦ rw none refl
      | inr some ↦
          let lt = left some in
          let some_left : hard_left hard age ≡ hard - age = rw (ne_eqb hard 0 some, lt-ltb age hard lt) refl in
          rw (some_left, ne_eqb hard 0 some, ne_eqb (hard - age) 0 (omega arith)) (ap Some (omega arith))
    ]
