-- What a wait for the reply to a barrier leaves (OpenFlow 1.0.0, 4.2 Message Handling and 5.3.7 Barrier Message): the steps that it made,
-- what it kept, the first refusal that came, and the notices that it held. All of this is our own choice.
use Rattle.std.specs.Prelude.{◌≡◌, ℕ, ◌≤◌, false, List, [], ◌∷◌, ◌++◌, length, map, Option, Some, None, IsOk}
use Rattle.std.specs.List.{AllByRecursion, flat_map}
use Rattle.of_types.specs.Fields.{IsBytes}
use Rattle.of_wire.specs.Reading.{reading_of}
use Rattle.outside.specs.declared.step.WorldStep.{WorldStep}
use Rattle.outside.specs.Seen.{Seen, Continues}
use Rattle.lego_model.specs.declared.fault.TxnFault.{TxnFault}
use Rattle.lego_model.specs.declared.fault.TxnFault.TheVariants.{SwitchBroke, Diverged, Flooded, NoMemory}
use Rattle.lego_model.specs.declared.wait.Awaited.{Awaited}
use Rattle.lego_model.specs.declared.wait.Notices.{Notices}
use Rattle.lego_model.specs.declared.wait.Notices.TheVariants.{Held, Dropped, Kept}
use Rattle.lego_model.specs.declared.wait.Refusal.{Refusal}
use Rattle.lego_model.specs.declared.wait.Heard.{Heard}
use Rattle.lego_model.specs.declared.wait.Heard.TheVariants.{Refused, Notice}
use Rattle.lego_model.specs.BarrierWaits.{flood, heard, is_reply, wait_steps, kept_of, reply_got}

-- ---- The first refusal among messages

abbrev pub refusal_in : Heard → Option Refusal
refusal_in (Refused refusal) = Some refusal
refusal_in _ = None

-- the first of two refusals
abbrev pub first_of : Option Refusal → Option Refusal → Option Refusal
first_of None later = later
first_of (Some refusal) later = Some refusal

abbrev pub first_refusal : Awaited → List (List ℕ) → Option Refusal
first_refusal a [] = None
first_refusal a (b ∷ bs) = first_of (refusal_in (heard a b)) (first_refusal a bs)

-- ---- The notices among them, where such ones are held

abbrev pub held_notice : Notices → List ℕ → List (List ℕ)
held_notice Held bytes = bytes ∷ []
held_notice Dropped bytes = []
held_notice Kept bytes = []

abbrev pub notice_in : Notices → Heard → List ℕ → List (List ℕ)
notice_in notices Notice bytes = held_notice notices bytes
notice_in notices _ bytes = []

abbrev pub notices_of : Awaited → List (List ℕ) → List (List ℕ)
notices_of a got = flat_map (λ b. notice_in a.notices (heard a b) b) got

-- ---- What came of it: the two together

pub record Brought : Type 0 where
  pub refusal : Option Refusal
  pub notices : List (List ℕ)

abbrev pub nothing_brought : Brought
nothing_brought = record { refusal = None; notices = [] }

-- with one message more
abbrev pub with_heard : Notices → Heard → List ℕ → Brought → Brought
with_heard notices h bytes answer = record { refusal = first_of answer.refusal (refusal_in h); notices = answer.notices ++ notice_in notices h bytes }

abbrev pub answer_of : Awaited → List (List ℕ) → Brought
answer_of a got = record { refusal = first_refusal a got; notices = notices_of a got }

-- bytes that are one message
abbrev pub IsRead : List ℕ → Type 0
IsRead bytes = IsBytes bytes × IsOk (reading_of bytes)

-- ---- What calls leave that got messages: steps before, the messages, and steps behind them.

pub record Hears {Own : Type 0} (Tells : Type 0) (a : Awaited) (front behind : List WorldStep) (old new : Seen Own) (kept now_kept : List (ℕ × List ℕ)) (answer : Brought) (got : List (List ℕ)) : Type 0 where
  pub continues : Continues Tells old new
  pub read : AllByRecursion IsRead got
  pub before_reply : AllByRecursion (λ b. is_reply (heard a b) ≡ false) got
  pub kept_is : now_kept ≡ kept ++ kept_of a got
  pub answer_is : answer ≡ answer_of a got
  pub told : Tells → new.history ≡ old.history ++ (front ++ (wait_steps a got ++ behind))

-- A wait that ended by the reply, at most 65,535 messages behind the steps before.
pub record Waits {Own : Type 0} (Tells : Type 0) (a : Awaited) (front : List WorldStep) (old new : Seen Own) (kept now_kept : List (ℕ × List ℕ)) (answer : Brought) : Type 0 where
  pub got : List (List ℕ)
  pub few : length got ≤ 65535
  pub hears : Hears Tells a front (reply_got a ∷ []) old new kept now_kept answer got

-- A wait that was given up: 65,536 messages behind the steps before, none of them the reply.
pub record Floods {Own : Type 0} (Tells : Type 0) (a : Awaited) (front : List WorldStep) (old new : Seen Own) : Type 0 where
  pub got : List (List ℕ)
  pub many : length got ≡ flood
  pub before_reply : AllByRecursion (λ b. is_reply (heard a b) ≡ false) got
  pub continues : Continues Tells old new
  pub told : Tells → new.history ≡ old.history ++ (front ++ wait_steps a got)

-- of a fault that may be Flooded
abbrev pub IfFlooded : {Own : Type 0} → Type 0 → Awaited → List WorldStep → Seen Own → Seen Own → TxnFault → Type 0
IfFlooded Tells a front old new (Flooded of n) = Floods Tells a front old new
IfFlooded Tells a front old new (SwitchBroke of bytes) = Unit {0}
IfFlooded Tells a front old new (Diverged of sent got) = Unit {0}
IfFlooded Tells a front old new NoMemory = Unit {0}

-- More messages of the switch were kept.
abbrev pub KeptMore : ℕ → List (ℕ × List ℕ) → List (ℕ × List ℕ) → Type 0
KeptMore d kept now_kept = (more : List (List ℕ)) × (now_kept ≡ kept ++ map (λ b. (d, b)) more)
