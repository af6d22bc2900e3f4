-- Answers to ECHO_REQUESTs (OpenFlow 1.0.0, 5.5.2 Echo Request, 5.5.3 Echo Reply).
use Rattle.std.specs.Prelude.{ℕ, List, ◌∷◌, ◌++◌, take, drop}

-- the answer to a request: the same message as an ECHO_REPLY (type 3)
abbrev pub reply_to : List ℕ → List ℕ
reply_to request = take 1 request ++ 3 ∷ drop 2 request
