-- What a FLOW_MOD is about to change of its owner's view: an image of each key that it touches, as it stands before (OpenFlow 1.0.0, 4.6
-- Flow Table Modification Messages says what it changes). Images are our own.
use Rattle.std.specs.Prelude.{◌≡◌, ◌==◌, ℕ, ◌+◌, ◌≤◌, ◌%◌, ◌^◌, Bool, true, false, not, ◌&&◌, ◌||◌, List, [], ◌∷◌, All, map, filter, Option, Some, None, Result, Ok, Err, unwrap_or, option_to_list, if◌then◌else◌}
use Rattle.std.specs.Option.{is_some}
use Rattle.std.specs.List.{list_any}
use Rattle.of_match.specs.declared.key.Key.{Key}
use Rattle.of_match.specs.Key.{key_number}
use Rattle.of_action.specs.Spelling.{list_size}
use Rattle.of_stats.specs.declared.flow_row.FlowRow.{FlowRow}
use Rattle.of_wire.specs.declared.bodies.FlowMod.{FlowMod}
use Rattle.flow_table.specs.declared.lost.Lost.{Lost}
use Rattle.flow_table.specs.declared.view.ViewRow.{ViewRow}
use Rattle.flow_table.specs.Change.{key_in, is_modify, describes, sends_to}
use Rattle.flow_table.specs.Sorted.{at_place}
use Rattle.flow_table.specs.Corrected.{row_at, lost_at}
use Rattle.netlog_inverse.specs.declared.fault.PlanFault.{PlanFault}
use Rattle.netlog_inverse.specs.declared.fault.PlanFault.TheVariants.{NoRow, NoShadow, NoMemory}
use Rattle.netlog_inverse.specs.declared.image.Image.{Image}
use Rattle.netlog_inverse.specs.declared.image.Inverse.{Inverse}
use Rattle.netlog_inverse.specs.declared.image.PutBack.TheVariants.{Row}
use Rattle.netlog_inverse.specs.Messages.{removal, addition, modification, spelled_mod, hard_left}

-- ---- Which rows a FLOW_MOD means

abbrev pub means_row : FlowMod → ViewRow → Bool
means_row m r = describes m r.key

-- the rows that a DELETE takes out
abbrev pub deletes_row : FlowMod → ViewRow → Bool
deletes_row m r = describes m r.key && sends_to m.out_port r.actions

-- ADD, and a MODIFY that meets no row
unfoldable pub adds_row : FlowMod → List ViewRow → Bool
adds_row m rs = m.command == 0 || (is_modify m && not (list_any (means_row m) rs))

-- what a switch reports of a key
abbrev pub counts_at : Key → List FlowRow → Option FlowRow
counts_at k fs = at_place (λ f. key_number f.key) (key_number k) fs

-- a flow row can show that many bytes of actions
abbrev pub IsShowable : ViewRow → Type 0
IsShowable r = list_size r.actions ≤ 65432

abbrev pub AreShowable : List ViewRow → Type 0
AreShowable rs = All IsShowable rs

-- ---- What is lost of an entry that goes: the switch's counts and age, with what was lost of it before, and its hard timeout as it was
-- asked for

abbrev pub lost_of : Option Lost → ℕ → FlowRow → Lost
lost_of None hard f = record { packets = f.packets; bytes = f.bytes; age = f.duration_sec; hard = hard }
lost_of (Some lost) hard f = record {
  packets = (f.packets + lost.packets) % 2 ^ 64;
  bytes = (f.bytes + lost.bytes) % 2 ^ 64;
  age = (f.duration_sec + lost.age) % 2 ^ 32;
  hard = hard;
}

-- ---- The images

-- nothing stands at the key
unfoldable pub nothing_stood : Key → Option Lost → Image
nothing_stood k lost = record {
  put = Row k None lost;
  delete = spelled_mod (removal k);
  modify = [];
  add = [];
  stands = false;
}

-- the entry goes
unfoldable pub went : ViewRow → Lost → Image
went r lost = record {
  put = Row r.key (Some r) (Some lost);
  delete = [];
  modify = [];
  add = spelled_mod (addition (hard_left r.hard lost.age) r);
  stands = false;
}

-- the entry gets other actions; it may go later, and then `mend` sets what is left of its hard timeout
unfoldable pub acted : ViewRow → Option Lost → Image
acted r lost = record {
  put = Row r.key (Some r) lost;
  delete = [];
  modify = spelled_mod (modification r);
  add = spelled_mod (addition r.hard r);
  stands = true;
}

-- an entry of which the switch reports nothing; `plan` answers NoRow there
abbrev pub no_counts : ViewRow → FlowRow
no_counts r = record {
  key = r.key;
  duration_sec = 0;
  idle = r.idle;
  hard = r.hard;
  cookie = r.cookie;
  packets = 0;
  bytes = 0;
  actions = r.actions;
}

-- the row goes, of which the cache and the switch say this
abbrev pub went_by : List (Key × Lost) → List FlowRow → ViewRow → Image
went_by cache fs r = went r (lost_of (lost_at r.key cache) r.hard (unwrap_or (counts_at r.key fs) (no_counts r)))

abbrev pub acted_by : List (Key × Lost) → ViewRow → Image
acted_by cache r = acted r (lost_at r.key cache)

-- an entry is put in at a key
abbrev pub replaced : List (Key × Lost) → List FlowRow → Key → Option ViewRow → Image
replaced cache fs k None = nothing_stood k (lost_at k cache)
replaced cache fs k (Some r) = went_by cache fs r

-- the images of all that a FLOW_MOD touches
unfoldable pub planned : FlowMod → List ViewRow → List (Key × Lost) → List FlowRow → List Image
planned m rs cache fs =
    if adds_row m rs then replaced cache fs (key_in m) (row_at (key_in m) rs) ∷ []
    else if is_modify m then map (acted_by cache) (filter (means_row m) rs)
    else map (went_by cache fs) (filter (deletes_row m) rs)

-- ---- Faults

-- the rows whose entries go
unfoldable pub going : FlowMod → List ViewRow → List ViewRow
going m rs =
    if adds_row m rs then option_to_list (row_at (key_in m) rs)
    else if is_modify m then []
    else filter (deletes_row m) rs

-- the first of some rows of which the switch reports nothing
abbrev pub missing : List ViewRow → List FlowRow → Option Key
missing [] fs = None
missing (r ∷ rs) fs = if is_some (counts_at r.key fs) then missing rs fs else Some r.key

-- the first that the switch reports and the view does not have
abbrev pub stray : List ViewRow → List FlowRow → Option FlowRow
stray rs [] = None
stray rs (f ∷ fs) = if is_some (row_at f.key rs) then stray rs fs else Some f

-- why no images were made
abbrev pub IsMissing : Option Key → PlanFault → Type 0
IsMissing first (NoRow k) = first ≡ Some k
IsMissing first (NoShadow f) = ⊥
IsMissing first NoMemory = Unit {0}

-- What `plan` answers: the images; the first key whose entry goes without a row; or the first row that no entry of the view has.
abbrev pub Plans : FlowMod → List ViewRow → List (Key × Lost) → List FlowRow → Result Inverse PlanFault → Type 0
Plans m rs cache fs (Ok inverse) = (missing (going m rs) fs ≡ None) × (stray rs fs ≡ None) × (inverse.images.items ≡ planned m rs cache fs)
Plans m rs cache fs (Err (NoRow k)) = missing (going m rs) fs ≡ Some k
Plans m rs cache fs (Err (NoShadow f)) = (missing (going m rs) fs ≡ None) × (stray rs fs ≡ Some f)
Plans m rs cache fs (Err NoMemory) = Unit {0}

-- ---- What the parts of `plan` answer

-- images were made, and the switch reports all that goes
abbrev pub AreMade : List ViewRow → List FlowRow → List Image → List Image → Type 0
AreMade gone fs expected images = (missing gone fs ≡ None) × (images ≡ expected)
