-- The switches of a simulated world as they are held, and what holds of each. All of this is our own choice.
use Rattle.std.specs.Prelude.{◌≡◌, ◌≢◌, ℕ, ◌-◌, ◌^◌, ◌<◌, ◌≤◌, nat_lt, List, [], ◌∷◌, ◌++◌, length, map, Option, Some, None, IfSome, is_some, slice_index_or, if◌then◌else◌}
use Rattle.of_types.specs.declared.journal.Stimulus.TheVariants.{Advance}
use Rattle.of_types.specs.declared.journal.WorldStim.{WorldStim}
use Rattle.of_types.specs.declared.journal.WorldStim.TheVariants.{Of, Join, Leave, At}
use Rattle.flow_table.specs.Switch.{Declared, SwitchState, joined_at, features_reply}
use Rattle.outside.specs.declared.step.WorldStep.{WorldStep}
use Rattle.outside.specs.declared.step.WorldStep.TheVariants.{Joined, Left, Moment}
use Rattle.outside.specs.State.{Link, stimulus_sends, join_due, switch_in, link_of, declared_in}
use Rattle.outside.specs.Conforming.{AreDeclaredFrom}
use Rattle.of_wire.specs.Handshake.{IsFeaturesOf}
use Rattle.switch_sim.specs.Readable.{AreShort}

-- ---- As they are held

-- A link, for how many batches of messages more there is room, and the messages that its switch sends when the moment moves on
-- for which it was made ready.
pub record Held : Type 0 where
  pub link : Link
  pub room : ℕ
  pub due : List (List ℕ)

abbrev pub links_in : List Held → List Link
links_in held = map (λ h. h.link) held

-- ---- What holds of a link

-- a switch that is joined is the one that was declared
abbrev pub IsDeclaredAs : Declared → Option SwitchState → Type 0
IsDeclaredAs d o = IfSome o (λ s. s.declared ≡ d)

-- a switch that is joined stands at the moment, or at one before it
abbrev pub StandsAt : ℕ → Option SwitchState → Type 0
StandsAt moment o = IfSome o (λ s. s.moment ≡ moment)

abbrev pub StandsBy : ℕ → Option SwitchState → Type 0
StandsBy moment o = IfSome o (λ s. s.moment ≤ moment)

-- the next serial of a switch that is joined is at most, or is below, a number
abbrev pub SerialsWithin : ℕ → Option SwitchState → Type 0
SerialsWithin most o = IfSome o (λ s. s.table.next ≤ most)

abbrev pub SerialsBelow : ℕ → Option SwitchState → Type 0
SerialsBelow limit o = IfSome o (λ s. s.table.next < limit)

-- A link at a moment: a switch that is joined stands there, and neither its serials nor the calls of the link went beyond a number,
-- which grows by one a call.
pub record Stands (moment most : ℕ) (l : Link) : Type 0 where
  pub stands : StandsAt moment l.switch
  pub serials : SerialsWithin most l.switch
  pub calls : l.calls ≤ most

-- One more call can be counted, and one more serial be given.
pub record MayCall (l : Link) : Type 0 where
  pub calls : l.calls < 2 ^ 64 - 1
  pub serials : SerialsBelow (2 ^ 64 - 1) l.switch

-- Made ready for the moment: there is room for the messages that are sent then.
pub record IsReady (moment : ℕ) (h : Held) : Type 0 where
  pub room : 0 < h.room
  pub due : h.due ≡ stimulus_sends (Advance moment) h.link.switch
  pub short : AreShort h.due
  pub few : length h.due ≤ h.link.declared.cap

-- ---- What calls tell

-- the FEATURES_REPLY that is told of a switch that joins, where it is out
abbrev pub features_at_join : ℕ → Link → Option (List ℕ)
features_at_join moment l = if is_some l.switch then None else Some (features_reply 0 (joined_at moment l.declared))

abbrev pub features_of_join : ℕ → Option Link → Option (List ℕ)
features_of_join moment None = None
features_of_join moment (Some l) = features_at_join moment l

-- one call more is to fail
abbrev pub fails_at : ℕ → Link → Link
fails_at number l = record l { fails = l.fails ++ number ∷ [] }

-- ---- All links

-- the items that a stimulus makes beside messages
abbrev pub due_in : WorldStim → ℕ → List Link → List WorldStep
due_in (Join d) moment ls = join_due d moment (link_of d ls)
due_in (Leave d) moment ls = if is_some (switch_in (link_of d ls)) then Left d ∷ [] else []
due_in (At t) moment ls = Moment t ∷ []
due_in (Of d x) moment ls = []

-- What can be due beside messages: a switch that joined, with its FEATURES_REPLY, one that left, and a moment.
unfoldable pub IsDue : WorldStep → Type 0
IsDue (Joined d bytes) = (length bytes ≤ 65535) × IsFeaturesOf d bytes
IsDue (Left d) = Unit {0}
IsDue (Moment t) = Unit {0}
IsDue other = ⊥

-- by number, strictly ascending, and at most 64
pub record AreLinks (ls : List Link) : Type 0 where
  pub declared : AreDeclaredFrom 1 (declared_in ls)
  pub few : length ls ≤ 64

-- one more, among others by number
abbrev pub insert_link : Link → List Link → List Link
insert_link l [] = l ∷ []
insert_link l (m ∷ ms) = if nat_lt l.declared.dpid m.declared.dpid then l ∷ m ∷ ms else m ∷ insert_link l ms

abbrev pub insert_held : Held → List Held → List Held
insert_held h [] = h ∷ []
insert_held h (g ∷ gs) = if nat_lt h.link.declared.dpid g.link.declared.dpid then h ∷ g ∷ gs else g ∷ insert_held h gs

-- the switch of a number is held at a place, and at none before it
pub record HasPlace (d : ℕ) (held : List Held) (place : ℕ) : Type 0 where
  pub within : place < length held
  pub here : (h : Held) → (slice_index_or held place h).link.declared.dpid ≡ d
  pub first : (k : ℕ) (h : Held) → k < place → (slice_index_or held k h).link.declared.dpid ≢ d

-- no switch of the number is held
abbrev pub HasNoPlace : ℕ → List Held → Type 0
HasNoPlace d held = (k : ℕ) (h : Held) → k < length held → (slice_index_or held k h).link.declared.dpid ≢ d

-- all are made ready for the moment
abbrev pub AreReady : ℕ → List Held → Type 0
AreReady moment held = (k : ℕ) (h : Held) → k < length held → IsReady moment (slice_index_or held k h)

abbrev pub IsPlaceOf : ℕ → List Held → Option ℕ → Type 0
IsPlaceOf d held None = HasNoPlace d held
IsPlaceOf d held (Some place) = HasPlace d held place

-- of the switch at a place a message waits, and of none before it
pub record WaitsFirst (held : List Held) (place : ℕ) : Type 0 where
  pub within : place < length held
  pub here : (h : Held) → (slice_index_or held place h).link.waits ≢ []
  pub first : (k : ℕ) (h : Held) → k < place → (slice_index_or held k h).link.waits ≡ []

abbrev pub NoneWaits : List Held → Type 0
NoneWaits held = (k : ℕ) (h : Held) → k < length held → (slice_index_or held k h).link.waits ≡ []

abbrev pub IsFirstWaiting : List Held → Option ℕ → Type 0
IsFirstWaiting held None = NoneWaits held
IsFirstWaiting held (Some place) = WaitsFirst held place
