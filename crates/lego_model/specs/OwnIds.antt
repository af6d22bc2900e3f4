-- The transaction ids of the messages that the controller sends of its own (OpenFlow 1.0.0, 5.1 OpenFlow Header). An ECHO_REPLY has the id of its
-- request (5.5.3 Echo Reply). That the ids ascend, and begin anew behind the last one, is our own choice.
use Rattle.std.specs.Prelude.{◌==◌, ℕ, ◌+◌, ◌*◌, ◌^◌, ◌≤◌, ◌<◌, List, [], ◌∷◌, length, filter_map, Option, Some, None, if◌then◌else◌}
use Rattle.of_types.specs.Fields.{number_at}
use Rattle.of_types.specs.declared.journal.Act.{Act}
use Rattle.of_types.specs.declared.journal.Act.TheVariants.{Sent}
use Rattle.outside.specs.Seen.{Seen, journal}
use Rattle.lego_model.specs.Journal.{Journal}

-- the id of a message, unless it is an ECHO_REPLY (3)
abbrev pub own_id_of : List ℕ → Option ℕ
own_id_of bytes = if number_at 1 1 bytes == 3 then None else Some (number_at 4 4 bytes)

abbrev pub own_id_in : Act → Option ℕ
own_id_in (Sent dpid bytes) = own_id_of bytes
own_id_in other = None

unfoldable pub own_ids : Journal → List ℕ
own_ids journal = filter_map own_id_in journal

-- Each is greater than the one before it: the first is this one at least, and all are less than the other.
abbrev pub AscendWithin : ℕ → List ℕ → ℕ → Type 0
AscendWithin least [] bound = least ≤ bound
AscendWithin least (id ∷ ids) bound = (least ≤ id) × AscendWithin (id + 1) ids bound

-- A run in which the ids do not begin anew: each step takes four of them at most, and so does each switch.
abbrev pub IsShortRun : {Own : Type 0} → Seen Own → Type 0
IsShortRun seen = length seen.history + length seen.given.declared < 1000000000

-- The ids of its own messages ascend from 1 on, so that none is used twice.
abbrev pub OwnIdsAscend : {Own : Type 0} → Seen Own → Type 0
OwnIdsAscend seen = AscendWithin 1 (own_ids (journal seen.history)) (2 ^ 32)

-- So far, where this one is the next; each step took four at most, but for so many.
pub record OwnIdsSoFar {Own : Type 0} (more : ℕ) (seen : Seen Own) (next : ℕ) : Type 0 where
  pub ascend : AscendWithin 1 (own_ids (journal seen.history)) next
  pub few : next ≤ 4 * length seen.history + 1 + more
