-- The commands of the program, and the words that name them. Our own choice.
use Rattle.std.specs.Prelude.{ℕ, ◌≤◌, List, [], ◌∷◌, Option, Some, None, option_map, option_and_then, codes, if◌then◌else◌}
use Rattle.std.specs.Str.{bytes_eq}
use Rattle.command_words.specs.declared.command.Command.{Command}
use Rattle.command_words.specs.declared.command.Command.TheVariants.{Replay, Run, Record, Gen}
use Rattle.command_words.specs.Numbers.{number}
use Rattle.command_words.specs.Plain.{plain_words}

-- the numbers of a command are within their limits
abbrev pub IsWithin : Command → Type 0
IsWithin Replay = Unit {0}
IsWithin (Run port rounds) = (1 ≤ port) × (port ≤ 65535) × (1 ≤ rounds) × (rounds ≤ 1000000000)
IsWithin (Record port rounds) = (1 ≤ port) × (port ≤ 65535) × (1 ≤ rounds) × (rounds ≤ 1000000000)
IsWithin (Gen start count) = count ≤ 100000

-- `replay`
abbrev pub replay_with : List (List ℕ) → Option Command
replay_with [] = Some Replay
replay_with (argument ∷ arguments) = None

-- `PORT ROUNDS`: a TCP port, and how many rounds the program runs at most
unfoldable pub port_and_rounds : List (List ℕ) → Option (ℕ × ℕ)
port_and_rounds (port ∷ rounds ∷ []) = option_and_then (λ p. option_map (λ r. (p, r)) (number 1 1000000000 rounds)) (number 1 65535 port)
port_and_rounds arguments = None

-- `run PORT ROUNDS`
abbrev pub run_with : List (List ℕ) → Option Command
run_with arguments = option_map (λ at. Run at.0 at.1) (port_and_rounds arguments)

-- `record PORT ROUNDS`
abbrev pub record_with : List (List ℕ) → Option Command
record_with arguments = option_map (λ at. Record at.0 at.1) (port_and_rounds arguments)

-- `gen START COUNT`: the number from which a session is drawn, and how many rounds it has
unfoldable pub gen_with : List (List ℕ) → Option Command
gen_with (start ∷ count ∷ []) =
    option_and_then (λ s. option_map (λ n. Gen s n) (number 0 100000 count)) (number 0 18446744073709551615 start)
gen_with arguments = None

-- the command of a name with its arguments
unfoldable pub command_with : List ℕ → List (List ℕ) → Option Command
command_with name arguments =
    if bytes_eq name (codes "replay") then replay_with arguments
    else if bytes_eq name (codes "run") then run_with arguments
    else if bytes_eq name (codes "record") then record_with arguments
    else if bytes_eq name (codes "gen") then gen_with arguments
    else None

-- the command that plain words name
abbrev pub command_named : List (List ℕ) → Option Command
command_named [] = None
command_named (name ∷ arguments) = command_with name arguments

-- the command that the words of the command line name, without the program's own name
abbrev pub command_in : List (List ℕ) → Option Command
command_in words = option_and_then command_named (plain_words words)

-- what is written where the words are no command
abbrev pub usage_line : List ℕ
usage_line = codes "usage: legosdn replay, run PORT ROUNDS, record PORT ROUNDS, gen START COUNT"
