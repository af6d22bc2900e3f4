-- What an input spells: to `replay` a policy, a line `---`, and a session; to `run` a policy alone; to `gen` a session that is drawn, whatever it is.
-- These text forms are our own.
use Rattle.std.specs.Prelude.{ℕ, ◌+◌, Bool, true, false, List, [], ◌∷◌, ◌++◌, length, map, Option, Some, None, Result, Ok, Err, nat_lt, if◌then◌else◌, codes}
use Rattle.std.specs.List.{list_all}
use Rattle.crash_policy.specs.declared.policy_file.AppRule.{AppRule}
use Rattle.crash_policy.specs.Policies.{AppValue, GuardValue, PolicyValue, app_value}
use Rattle.crash_policy.specs.Faults.{Fault}
use Rattle.crash_policy.specs.Order.{policy_of}
use Rattle.net_guard.specs.declared.quota.ChosenJudge.{ChosenJudge}
use Rattle.net_guard.specs.declared.quota.ChosenJudge.TheVariants.{All, Quota, Guard}
use Rattle.net_guard.specs.Links.{hops_of}
use Rattle.command_words.specs.declared.command.Command.{Command}
use Rattle.command_words.specs.declared.command.Command.TheVariants.{Gen}
use Rattle.session_gen.specs.Sessions.{session_drawn}
use Rattle.lego_io.specs.Lines.{cut_at_lf, without_cr, lines_of}
use Rattle.lego_model.specs.declared.session.SessionFault.{SessionFault}
use Rattle.lego_model.specs.Words.{is_word}
use Rattle.lego_model.specs.SessionLines.{SessionValue}
use Rattle.lego_model.specs.SessionText.{at_first, lines_from, ◌>>=◌}
use Rattle.lego_model.specs.Application.{names}
use Rattle.legosdn.specs.declared.policy.Program.{Program}
use Rattle.legosdn.specs.declared.stop.InputRefusal.TheVariants.{Size, Separator, NoCommand, Session}
use Rattle.legosdn.specs.Stops.{fault_words, policy_line, refusal_line}

-- how many bytes an input holds at most
abbrev pub most_input : ℕ
most_input = 67108864

abbrev pub is_separator : List ℕ → Bool
is_separator line = is_word (codes "---") line

-- what is read, or the line by which the input is refused
abbrev pub Read : Type 0 → Type 0
Read A = Result A (List ℕ)

-- what comes of what was read, where it was not refused
abbrev pub with_read : {A B : Type 0} → Read A → (A → Read B) → Read B
with_read (Ok x) f = f x
with_read (Err line) f = Err line

-- ---- A policy

-- what runs: the applications in their order, and the judge of the tables that their turns leave
pub record ProgramValue : Type 0 where
  pub apps : List AppValue
  pub judge : ChosenJudge

abbrev pub program_of : List AppRule → ChosenJudge → ProgramValue
program_of apps judge = record { apps = map app_value apps; judge = judge }

abbrev pub program_value : Program → ProgramValue
program_value program = program_of program.apps.items program.judge

-- where links are given the judge looks for loops, where a quota is it counts entries, else it lets all tables stand
abbrev pub judge_of : Option ℕ → Option GuardValue → ChosenJudge
judge_of quota (Some rule) = Guard (record { field = rule.field; hops = hops_of rule.links })
judge_of (Some most) None = Quota (record { most = most })
judge_of None None = All

-- the program of a policy text
abbrev pub program_in : Result PolicyValue Fault → Read ProgramValue
program_in (Ok policy) = Ok (record { apps = policy.apps; judge = judge_of policy.quota policy.guard })
program_in (Err fault) = Err (policy_line (fault_words fault))

-- ---- `run`

-- a command starts it: its first word names a program
abbrev pub is_program : List ℕ → Bool
is_program [] = false
is_program (byte ∷ bytes) = true

abbrev pub are_words : List (List ℕ) → Bool
are_words [] = false
are_words (word ∷ words) = is_program word

unfoldable pub has_words : AppValue → Bool
has_words app = are_words app.command

-- a command starts each of them
abbrev pub or_none : ProgramValue → Bool → Read ProgramValue
or_none program true = Ok program
or_none program false = Err (refusal_line NoCommand)

abbrev pub with_words : ProgramValue → Read ProgramValue
with_words program = or_none program (list_all has_words program.apps)

-- the program that a policy starts, or the line by which the policy is refused
unfoldable pub run_policy : List ℕ → Read ProgramValue
run_policy input = if nat_lt most_input (length input) then Err (refusal_line Size) else with_read (program_in (policy_of input)) with_words

-- ---- `replay`

-- The bytes before the first separator, where they are cut at each LF (10). Where there is none, it is refused.
abbrev pub before_separator : List (List ℕ) → List ℕ
before_separator [] = []
before_separator (line ∷ lines) = if is_separator (without_cr line) then [] else line ++ 10 ∷ before_separator lines

unfoldable pub policy_text : List ℕ → List ℕ
policy_text input = before_separator (cut_at_lf input)

-- The lines behind the first separator of these, and the number of the first of them; these are numbered from n.
abbrev pub behind_separator : ℕ → List (List ℕ) → Option (ℕ × List (List ℕ))
behind_separator n [] = None
behind_separator n (line ∷ lines) = if is_separator line then Some (n + 1, lines) else behind_separator (n + 1) lines

-- the session that lines spell, which are numbered from n; it names the applications as the policy does
unfoldable pub session_lines : List AppValue → ℕ → List (List ℕ) → Result SessionValue SessionFault
session_lines apps n lines = lines_from (names apps) n at_first lines >>= λ p. Ok p.so_far.session

-- with its program
abbrev pub or_refused : ProgramValue → Result SessionValue SessionFault → Read (ProgramValue × SessionValue)
or_refused program (Ok session) = Ok (program, session)
or_refused program (Err fault) = Err (refusal_line (Session fault))

-- the policy before a separator, and the session behind it
abbrev pub session_behind : List ℕ → Option (ℕ × List (List ℕ)) → Read (ProgramValue × SessionValue)
session_behind policy None = Err (refusal_line Separator)
session_behind policy (Some (n, lines)) = with_read (program_in (policy_of policy)) (λ program. or_refused program (session_lines program.apps n lines))

-- the program and the session that an input spells, or the line by which it is refused
unfoldable pub session_of : List ℕ → Read (ProgramValue × SessionValue)
session_of input = if nat_lt most_input (length input) then Err (refusal_line Size) else session_behind (policy_text input) (behind_separator 1 (lines_of input))

-- ---- `gen START COUNT`, which reads no input

-- what inputs spell to a command: a program with a session of it, or the line by which they are refused
abbrev pub Spelling : Type 0
Spelling = List ℕ → Read (ProgramValue × SessionValue)

-- the session that is drawn, with the program of an empty policy
unfoldable pub drawn : ℕ → ℕ → Spelling
drawn start count input = with_read (program_in (policy_of [])) (λ program. Ok (program, session_drawn start count))

-- ---- By the command

abbrev pub spelled_to : Option Command → Spelling
spelled_to (Some (Gen start count)) = drawn start count
spelled_to other = session_of

-- what it reads of what the source tells
abbrev pub read_by : Option Command → Option (List ℕ) → Option (List ℕ)
read_by (Some (Gen start count)) told = Some []
read_by other told = told
