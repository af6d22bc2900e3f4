-- Three copies of an application: the frame that two of them gave. All of this is our own choice.
use Rattle.std.specs.Prelude.{ℕ, Bool, true, false, List, [], length, take, drop, Option, Some, None, Ok, Err, nat_eq, ◌&&◌, if◌then◌else◌}
use Rattle.std.specs.Cmp.Lexicographic.{pointwise}
use Rattle.app_frames.specs.declared.frame.AppFrame.{AppFrame}
use Rattle.frame_votes.specs.declared.ballot.Place.{Place}
use Rattle.frame_votes.specs.declared.ballot.Place.TheVariants.{First, Second, Third}
use Rattle.app_frames.specs.Reading.{Reading}
use Rattle.app_frames.specs.Frames.{app_reading}

-- ---- A copy

-- whether it is in, and the bytes that it gave and that were not voted yet
pub record Given : Type 0 where
  pub is_in : Bool
  pub held : List ℕ

abbrev pub whole : List ℕ → Reading (AppFrame × ℕ) → Option (List ℕ)
whole bytes (Ok (Some found)) = Some (take found.1 bytes)
whole bytes (Ok None) = None
whole bytes (Err fault) = None

-- the whole frame at the front of some bytes, as bytes
unfoldable pub front_of : List ℕ → Option (List ℕ)
front_of bytes = whole bytes (app_reading bytes)

-- the next frame of a copy that is in
abbrev pub front_in : Given → Option (List ℕ)
front_in copy = if copy.is_in then front_of copy.held else None

-- Its next frame is not whole, and nothing refuses it so far: more of it may come.
abbrev pub is_open : Reading (AppFrame × ℕ) → Bool
is_open (Ok (Some found)) = false
is_open (Ok None) = true
is_open (Err fault) = false

unfoldable pub awaits : Given → Bool
awaits copy = copy.is_in && is_open (app_reading copy.held)

-- ---- The vote

pub record Polled : Type 0 where
  pub first : Given
  pub second : Given
  pub third : Given

-- the frame of both
abbrev pub agreed : Option (List ℕ) → Option (List ℕ) → Option (List ℕ)
agreed (Some x) (Some y) = if pointwise nat_eq x y then Some x else None
agreed (Some x) None = None
agreed None other = None

abbrev pub first_some : Option (List ℕ) → Option (List ℕ) → Option (List ℕ)
first_some (Some x) other = Some x
first_some None other = other

-- the frame that two of three have
abbrev pub of_two : Option (List ℕ) → Option (List ℕ) → Option (List ℕ) → Option (List ℕ)
of_two x y z = first_some (agreed x y) (first_some (agreed x z) (agreed y z))

abbrev pub voted : Polled → Option (List ℕ)
voted p = of_two (front_in p.first) (front_in p.second) (front_in p.third)

-- ---- Behind the vote

abbrev pub out : Given
out = record { is_in = false; held = [] }

abbrev pub settled_if : Option (List ℕ) → Given → Given
settled_if (Some x) copy = record { is_in = true; held = drop (length x) copy.held }
settled_if None copy = out

-- A copy that gave the frame goes on behind it; one with another outcome is out.
abbrev pub settled : Option (List ℕ) → Given → Given
settled frame copy = settled_if (agreed frame (front_in copy)) copy

abbrev pub after_vote : Polled → Polled
after_vote p = record {
  first = settled (voted p) p.first;
  second = settled (voted p) p.second;
  third = settled (voted p) p.third;
}

-- ---- One copy

abbrev pub copy_at : Place → Polled → Given
copy_at First p = p.first
copy_at Second p = p.second
copy_at Third p = p.third

abbrev pub with_copy : Place → Given → Polled → Polled
with_copy First copy p = record p { first = copy }
with_copy Second copy p = record p { second = copy }
with_copy Third copy p = record p { third = copy }
