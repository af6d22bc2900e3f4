-- Every turn and every restart of an application is read of the journal.
use Rattle.std.proofs.Common.{◌≡◌, ℕ, zero, suc, Bool, true, List, [], ◌∷◌, Option, is_some, sym, ap, ◌∙◌, subst, inl, inr}
use Rattle.std.specs.List.{AllByRecursion}
use Rattle.flow_table.specs.View.{TableView}
use Rattle.lego_model.specs.Journal.{start_of}
use Rattle.lego_model.specs.Scripted.{is_start_heard}
use Rattle.lego_model.specs.Controller.{attempts}
use Rattle.outside.specs.Seen.{Seen}
use Rattle.app_visor.specs.Attempts.{OneTry, AreTries}
use Rattle.app_visor.specs.laws.ReadTurnLaws.{turn_told}
use Rattle.app_visor.specs.laws.ReadTryLaws.{tries_told}
use Rattle.journal_laws.specs.laws.FrameLaws.{event_is}
use Rattle.run_laws.specs.Readings.{AreRead}

-- of each attempt enough is told
tries-heard : {Own : Type 0} (Tells : Type 0) (app : ℕ) (kept : List ℕ) (n : ℕ) (ts : List (OneTry Own)) (old new : Seen Own) → AreTries Tells app kept n ts old new → AllByRecursion (λ t. is_start_heard (start_of t.attempt) ≡ true) ts
tries-heard Tells app kept zero [] old new are = tt
tries-heard Tells app kept zero (t ∷ ts) old new are = absurd are
tries-heard Tells app kept (suc n) [] old new are = absurd are
tries-heard {Own} Tells app kept (suc n) (t ∷ ts) old new are = (
  are.0.heard,
  elim are.1 [
    | inl h ↦ subst (λ (l : List (OneTry Own)). AllByRecursion (λ x. is_start_heard (start_of x.attempt) ≡ true) l) (sym h.1) tt
    | inr h ↦ tries-heard Tells app kept n ts t.after new h.1
  ],
)

pub are-read : {Own : Type 0} (app : ℕ) (Tells : Type 0) (accepts : List TableView → Bool) → AreRead Own app Tells accepts
are-read app Tells accepts = record {
  turn = λ budget number moment event rest old mid net mid_net end unread told t stood.
      let r = turn_told t told (event_is number moment event) stood in
      record { starts = r.starts; replies = r.replies; heard = t.heard; life = r.life };
  tries = λ kept old new found tries told s.
      let r = tries_told Tells app kept attempts s.all old new s.are told in
      record { starts = r.starts; replies = r.replies; heard = tries-heard Tells app kept attempts s.all old new s.are; life = λ some. r.life (sym (ap (λ (o : Option (List ℕ)). is_some o) s.found_is) ∙ some); own = r.own };
}
