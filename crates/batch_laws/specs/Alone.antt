-- The one item of a stimulus at which its switch may be lost, where so much was told before it and so much is told behind it. All of this is
-- our own.
use Rattle.std.specs.Prelude.{◌≡◌, ℕ, List, []}
use Rattle.of_types.specs.declared.journal.Stimulus.{Stimulus}
use Rattle.of_types.specs.declared.journal.WorldStim.{WorldStim}
use Rattle.of_types.specs.declared.journal.WorldStim.TheVariants.{Join, Of}
use Rattle.outside.specs.declared.step.WorldStep.{WorldStep}

-- an ECHO_REQUEST (5.5.2 Echo Request): something happened to its switch, and nothing else came of that
pub record EchoAlone (x : WorldStim) (d : ℕ) (front later : List WorldStep) : Type 0 where
  pub what : Stimulus
  pub stimulus : x ≡ Of d what
  pub first : front ≡ []
  pub last : later ≡ []

-- a switch joined, and nothing else came of that
pub record JoinAlone (x : WorldStim) (d : ℕ) (front later : List WorldStep) : Type 0 where
  pub stimulus : x ≡ Join d
  pub first : front ≡ []
  pub last : later ≡ []
