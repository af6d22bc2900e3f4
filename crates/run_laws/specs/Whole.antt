-- A run from its start to its last batch. All of this is our own.
use Rattle.std.specs.Prelude.{◌≡◌, ◌==◌, ℕ, Bool, List, [], length}
use Rattle.of_types.specs.declared.journal.WorldStim.{WorldStim}
use Rattle.crash_policy.specs.Policies.{AppValue}
use Rattle.lego_model.specs.Places.{Place}
use Rattle.lego_model.specs.Application.{names}
use Rattle.lego_model.specs.Controller.{Run, settle_last}
use Rattle.lego_model.specs.Losses.{Losses}
use Rattle.outside.specs.Seen.{Seen}
use Rattle.run_laws.specs.Engine.{Engine, Stands, rules_of}
use Rattle.lego_model.specs.ReferenceRun.{Said, text_of, rounds, all_started, reference_said, AreSaid}

-- the whole run of the reference controller, in at most so many rounds
abbrev pub whole : (List Place → Bool) → (most : ℕ) → List WorldStim → Run → Run
whole allows most xs r = settle_last allows (length xs == most) (rounds allows xs (all_started r))

-- these switches are to be lost at the end
abbrev pub at_last : List ℕ → Losses
at_last lost = record { batches = []; turns = []; last = lost }

-- engine and reference controller stand alike at the end, with more starts and replies before its applications, and its report so far is
-- what was noted
pub record RanAs {Own : Type 0} (rules : List AppValue) (later : Losses) (text : List ℕ) (last : Seen Own) (e : Engine) (r : Run) : Type 0 where
  pub said : ℕ → Said
  pub rules_is : rules_of e ≡ rules
  pub stands : Stands last e said later r
  pub text_is : text_of (names rules) r ≡ text

-- so it is over what is said of the applications, where switches are lost at some places, and some are to be lost at the end
pub record Ran {Own : Type 0} (rules : List AppValue) (allows : List Place → Bool) (spent : Bool) (lost : List ℕ) (text : List ℕ) (last : Seen Own) (e : Engine) : Type 0 where
  pub losses : Losses
  pub as_said : (said : ℕ → Said) → AreSaid last said → RanAs rules (at_last lost) text last e (reference_said rules allows spent losses last said)
