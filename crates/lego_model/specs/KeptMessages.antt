-- The messages that come while something else is awaited, as a history tells them (OpenFlow 1.0.0, 4.2 Message Handling), and the store of fixed
-- size in which an undo keeps them. The store is our own.
use Rattle.std.specs.Prelude.{ℕ, ◌+◌, Bool, ◌&&◌, nat_lt, nat_le, List, [], ◌∷◌, length, filter_map, Option, Some, None}
use Rattle.of_types.specs.declared.journal.Act.TheVariants.{Got}
use Rattle.outside.specs.declared.step.WorldStep.{WorldStep}
use Rattle.outside.specs.declared.step.WorldStep.TheVariants.{Acted}

-- the message that came by this step, where one was awaited
abbrev pub got_of : WorldStep → Option (ℕ × List ℕ)
got_of (Acted (Got d bytes)) = Some (d, bytes)
got_of step = None

-- all of them, in order, each with its switch
abbrev pub got_in : List WorldStep → List (ℕ × List ℕ)
got_in steps = filter_map got_of steps

-- how many bytes messages have together
abbrev pub bytes_kept : List (ℕ × List ℕ) → ℕ
bytes_kept [] = 0
bytes_kept (m ∷ ms) = length m.1 + bytes_kept ms

-- A message fits behind others where it is at most the 16,384th, and they have at most 1,048,576 bytes with it.
abbrev pub fits : List (ℕ × List ℕ) → List ℕ → Bool
fits kept message = nat_lt (length kept) 16384 && nat_le (bytes_kept kept + length message) 1048576
