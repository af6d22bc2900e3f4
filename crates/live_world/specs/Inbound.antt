-- What has come on a connection and was not passed on yet. Our own choice.
use Rattle.std.specs.Prelude.{ℕ, List, [], ◌++◌, take, Option, Some, None}
use Rattle.live_world.specs.declared.inbound.Inbound.{Inbound}

-- the bytes of the message that was cut off, if one was
abbrev pub front_bytes : Option (List ℕ) → List ℕ
front_bytes None = []
front_bytes (Some frame) = frame

-- the bytes that were read and not passed on, in their order
abbrev pub unread : Inbound → List ℕ
unread inbound = front_bytes inbound.front ++ inbound.cutter ++ take inbound.filled inbound.piece.items
