-- The messages that come by the steps of a wait.
use Rattle.std.specs.Prelude.{◌≡◌, ℕ, List, [], ◌∷◌, ◌++◌, map, refl}
use Rattle.std.proofs.Common.{ap, ◌∙◌}
use Rattle.std.proofs.lemmas.List.Elements.{filter_map-append}
use Rattle.outside.specs.declared.step.WorldStep.{WorldStep}
use Rattle.lego_model.specs.declared.wait.Awaited.{Awaited}
use Rattle.lego_model.specs.declared.wait.Heard.{Heard}
use Rattle.lego_model.specs.declared.wait.Heard.TheVariants.{Reply, Refused, Notice, Echo, Other}
use Rattle.lego_model.specs.BarrierWaits.{heard, steps_by, heard_steps, wait_steps}
use Rattle.lego_model.specs.KeptMessages.{got_in}

pub got_append : (front rest : List WorldStep) → got_in (front ++ rest) ≡ got_in front ++ got_in rest
got_append front rest = filter_map-append _ front rest

-- what is done with a message brings none
got_by : (d : ℕ) (h : Heard) (bytes : List ℕ) → got_in (steps_by d h bytes) ≡ []
got_by d Reply bytes = refl
got_by d (Refused refusal) bytes = refl
got_by d Notice bytes = refl
got_by d Echo bytes = refl
got_by d Other bytes = refl

pub got_wait : (a : Awaited) (got : List (List ℕ)) → got_in (wait_steps a got) ≡ map (λ b. (a.dpid, b)) got
got_wait a [] = refl
got_wait a (b ∷ bs) =
    got_append (heard_steps a b) (wait_steps a bs)
    ∙ ap (λ (ms : List (ℕ × List ℕ)). ((a.dpid, b) ∷ ms) ++ got_in (wait_steps a bs)) (got_by a.dpid (heard a b) b)
    ∙ ap (λ (ms : List (ℕ × List ℕ)). (a.dpid, b) ∷ ms) (got_wait a bs)
