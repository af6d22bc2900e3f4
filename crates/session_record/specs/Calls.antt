-- What a recording keeps of each call of a world. All of this is our own choice.
use Rattle.std.specs.Prelude.{◌≡◌, ℕ, ◌==◌, ◌⊎◌, Bool, true, false, List, [], ◌∷◌, take, Result, Ok, Err, if◌then◌else◌}
use Rattle.outside.specs.declared.faults.Short.{Short}
use Rattle.outside.specs.declared.faults.StartFault.{StartFault}
use Rattle.outside.specs.declared.faults.StartFault.TheVariants as starting
use Rattle.outside.specs.declared.faults.GiveFault.{GiveFault}
use Rattle.outside.specs.declared.faults.GiveFault.TheVariants as giving
use Rattle.outside.specs.declared.faults.LinkFault.{LinkFault}
use Rattle.outside.specs.declared.faults.LinkFault.TheVariants as linking
use Rattle.outside.specs.declared.item.Taken.{Taken}
use Rattle.outside.specs.declared.item.Taken.TheVariants as gave
use Rattle.lego_model.specs.Journal.{is_event}
use Rattle.session_record.specs.Deeds.{Deed}
use Rattle.session_record.specs.declared.deed.DeedKind.{DeedKind}
use Rattle.session_record.specs.declared.deed.DeedKind.TheVariants.{Started, Refused, Event, Unasked, Given, Gone, Piece, Closed, Silent}
use Rattle.session_record.specs.declared.links.LinkCalls.{LinkCalls}
use Rattle.session_record.specs.Links.{NotesCall}

-- a deed without bytes
abbrev pub plain : ℕ → DeedKind → Deed
plain app kind = record { app = app; kind = kind; bytes = [] }

unfoldable pub start_deeds : {T : Type 0} → ℕ → Result T StartFault → List Deed
start_deeds app (Ok x) = plain app Started ∷ []
start_deeds app (Err starting.NotStarted) = plain app Started ∷ plain app Refused ∷ []
start_deeds app (Err starting.Short) = []

unfoldable pub give_deeds : {T : Type 0} → ℕ → List ℕ → Result T GiveFault → List Deed
give_deeds app frame (Ok x) = plain app (if is_event frame then Event else Given) ∷ []
give_deeds app frame (Err giving.Gone) = if is_event frame then plain app Event ∷ plain app Unasked ∷ [] else plain app Gone ∷ []
give_deeds app frame (Err giving.Short) = []

unfoldable pub take_deeds : ℕ → Result Taken Short → List ℕ → List Deed
take_deeds app (Ok (gave.Some n)) buf = record { app = app; kind = Piece; bytes = take n buf } ∷ []
take_deeds app (Ok gave.Closed) buf = plain app Closed ∷ []
take_deeds app (Ok gave.Silent) buf = plain app Silent ∷ []
take_deeds app (Err short) buf = []

-- a call of a link counts, but where memory was wanting; one that fails loses its switch
unfoldable pub NotesLink : {T : Type 0} → ℕ → Result T LinkFault → LinkCalls → LinkCalls → Type 0
NotesLink d (Ok x) before after = (after.is_short ≡ true) ⊎ NotesCall d false before after
NotesLink d (Err linking.Failed) before after = (after.is_short ≡ true) ⊎ NotesCall d true before after
NotesLink d (Err linking.Short) before after = after ≡ before

-- so does one that parts with a switch, which is lost then
abbrev pub NotesParting : ℕ → LinkCalls → LinkCalls → Type 0
NotesParting d before after = (after.is_short ≡ true) ⊎ NotesCall d true before after
