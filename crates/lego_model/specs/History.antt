-- What the history of a world tells of a run: the calls for an application, what it did, what it was given, the stimuli, what
-- was released, which switches were lost, and how the switches stood at each quiescent point. All of this is our own.
use Rattle.std.specs.Prelude.{ℕ, List, map, filter, None}
use Rattle.std.specs.List.{flat_map}
use Rattle.of_types.specs.declared.journal.Act.{Act}
use Rattle.of_types.specs.declared.journal.WorldStim.{WorldStim}
use Rattle.outside.specs.Seen.{Seen, journal}
use Rattle.outside.specs.State.{Mark, mark_of, state}
use Rattle.lego_model.specs.Journal.{is_of, inputs, stimuli, released, losses, Reply, Start, Attempt, in_attempts, in_turns, start_of, reply_of}
use Rattle.lego_model.specs.Packets.{Held}

-- ---- An application, by its index

-- the calls for it
abbrev pub own_acts : {Own : Type 0} → ℕ → Seen Own → List Act
own_acts app seen = filter (is_of app) (journal seen.history)

-- how its starts ended, of these calls
abbrev pub starts_in : List Act → List Start
starts_in acts = map start_of (in_attempts acts).1

-- its replies in one life, and in all of them, life after life
abbrev pub replies_at : Attempt → List Reply
replies_at attempt = map reply_of (in_turns attempt.acts).1

abbrev pub replies_in : List Act → List Reply
replies_in acts = flat_map replies_at (filter (λ a. a.stands) (in_attempts acts).1)

-- the frames that it was given
abbrev pub given_in : {Own : Type 0} → ℕ → Seen Own → List (List ℕ)
given_in app seen = inputs app (journal seen.history)

-- ---- The world

-- the packets that were released, each with its switch
abbrev pub released_of : {Own : Type 0} → Seen Own → List Held
released_of seen = released (journal seen.history)

-- the switches that were lost
abbrev pub lost_of : {Own : Type 0} → Seen Own → List ℕ
lost_of seen = losses (journal seen.history)

-- the stimuli that happened
abbrev pub stimuli_in : {Own : Type 0} → Seen Own → List WorldStim
stimuli_in seen = stimuli (journal seen.history)

-- the quiescent points, in order, each with the switches as they stood
abbrev pub points_in : {Own : Type 0} → Seen Own → List Mark
points_in seen = (state seen).marks

-- how the switches stand at the end
abbrev pub last_point : {Own : Type 0} → Seen Own → Mark
last_point seen = mark_of None (state seen)
