-- What a switch makes of the messages that revert a log: the newest inverse is sent first, and the table as its engine shows it goes back by
-- the log (OpenFlow 1.0.0, 4.6 Flow Table Modification Messages). All of this is our own.
use Rattle.std.specs.Prelude.{◌≡◌, ℕ, false, List, [], ◌∷◌, map, None, if◌then◌else◌}
use Rattle.std.specs.List.{AllByRecursion}
use Rattle.of_match.specs.declared.key.Key.{Key}
use Rattle.of_wire.specs.declared.bodies.FlowMod.{FlowMod as Change}
use Rattle.of_wire.specs.declared.message.Message.TheVariants.{FlowMod}
use Rattle.flow_table.specs.declared.entry.Entry.{Entry}
use Rattle.flow_table.specs.Change.{new_entry}
use Rattle.flow_table.specs.Refusals.{flow_refusal, message_refusal}
use Rattle.flow_table.specs.Step.{after_message}
use Rattle.flow_table.specs.Switch.{SwitchState}
use Rattle.undo_laws.specs.Corrected.{IsCorrection}
use Rattle.undo_laws.specs.Log.{Inverse, Remove, PutBack, GiveActions, back, image_of}
use Rattle.undo_laws.specs.Removal.{is_key_among}
use Rattle.undo_laws.specs.Reverting.{Reverts}
use Rattle.undo_laws.specs.Stands.{is_gone}

-- ---- The messages, one for each inverse, in the order of the log

-- the switch after they were sent, the last of them first
abbrev pub after_reverts : List Change → SwitchState → SwitchState
after_reverts [] s = s
after_reverts (m ∷ ms) s = after_message (FlowMod m) (after_reverts ms s)

-- the switch refuses none of them
abbrev pub AllTaken : List Change → SwitchState → Type 0
AllTaken [] s = Unit {0}
AllTaken (m ∷ ms) s = AllTaken ms s × (message_refusal (after_reverts ms s) (FlowMod m) ≡ None)

-- nothing stands against one beside the table: no unknown bit, no buffer, and no output but to what was a port
abbrev pub AllAllowed : List ℕ → List Change → Type 0
AllAllowed had ms = AllByRecursion (λ m. flow_refusal had m ≡ None) ms

-- Each message reverts the inverse at its place, and an entry that it puts in is shown in the end as the one that comes back.
abbrev pub IsShownBack : ℕ → (Entry → Entry) → Inverse → Change → Type 0
IsShownBack now after (Remove k) m = Unit {0}
IsShownBack now after (PutBack e) m = (serial : ℕ) → after (new_entry now serial m) ≡ back now serial e
IsShownBack now after (GiveActions k actions) m = Unit {0}

abbrev pub AreReverts : ℕ → (Entry → Entry) → List Inverse → List Change → Type 0
AreReverts now after [] [] = Unit {0}
AreReverts now after (x ∷ log) (m ∷ ms) = Reverts x m × IsShownBack now after x m × AreReverts now after log ms
AreReverts now after [] (m ∷ ms) = ⊥
AreReverts now after (x ∷ log) [] = ⊥

-- ---- What is shown

-- What is shown in the end of an entry that the log says nothing of, or gives its actions again, is what was shown of it before.
pub record ShowsBack (shown after : Entry → Entry) (log : List Inverse) : Type 0 where
  pub before : IsCorrection shown
  pub corrects : IsCorrection after
  pub others : (e : Entry) → is_gone (image_of e.key log) ≡ false → after e ≡ shown e

-- the keys of the entries that come back
abbrev pub keys_back : List Inverse → List Key
keys_back [] = []
keys_back (Remove k ∷ log) = keys_back log
keys_back (PutBack e ∷ log) = e.key ∷ keys_back log
keys_back (GiveActions k actions ∷ log) = keys_back log

-- what is shown on the way: entries that came back as they are shown in the end, the others as before
abbrev pub shown_among : List Key → (Entry → Entry) → (Entry → Entry) → Entry → Entry
shown_among ks shown after e = if is_key_among ks e.key then after e else shown e
