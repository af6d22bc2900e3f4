-- What follows of a turn that failed and was undone, behind which its application was started again, or is gone: all is ready and sound as before it, and
-- the world keeps its word still; each switch has its entries again, or was lost; and it was given the event.
use Rattle.std.proofs.Common.{◌≡◌, ℕ, Bool, true, List, [], ◌∷◌, ◌++◌, length, map, Ok, refl, sym, ap, ◌∙◌, subst, append_assoc}
use Rattle.std.specs.Option.{option_map}
use Rattle.of_types.specs.declared.journal.Act.{Act}
use Rattle.flow_table.specs.View.{TableView}
use Rattle.lego_model.specs.AfterFault.{UndoneButFailed, SwitchesStay}
use Rattle.lego_model.specs.Answers.{rows_of_table}
use Rattle.lego_model.specs.History.{own_acts}
use Rattle.lego_model.specs.Journal.{give_act}
use Rattle.outside.specs.declared.step.WorldStep.{WorldStep}
use Rattle.outside.specs.Seen.{Seen, Continues}
use Rattle.outside.specs.State.{State, state}
use Rattle.outside.specs.Conforming.{Conforming}
use Rattle.outside.specs.InOrder.{InOrder}
use Rattle.outside.specs.laws.InOrderLaws.{InOrder-before, Conforming-on, messages-then}
use Rattle.outside.specs.laws.SeenLaws.{Continues-trans}
use Rattle.outside.specs.laws.StateLaws.{state-append, Conforming-before}
use Rattle.net_txn.specs.Net.{NetState}
use Rattle.net_txn.specs.Leaving.{none_left}
use Rattle.app_visor.specs.Beats.{acts_in, acts_of, Leads}
use Rattle.app_visor.specs.Talks.{step_of}
use Rattle.app_visor.specs.laws.BeatLaws.{Leads-continues}
use Rattle.app_visor.specs.laws.CallOrderLaws.{own_messages, chain_messages}
use Rattle.app_visor.specs.laws.JournalLaws.{acts_append}
use Rattle.app_visor.specs.laws.ReadTurnLaws.{turn_acts}
use Rattle.app_visor.specs.laws.TellingLaws.{apart_called}
use Rattle.switch_laws.specs.Since.{ports_known, Ready, Goes}
use Rattle.switch_laws.specs.Sound.{Sound}
use Rattle.switch_laws.specs.laws.LinkLaws.{links_switch, links_waits}
use Rattle.switch_laws.specs.laws.ShownUndoLaws.{undo-ready}
use Rattle.switch_laws.specs.laws.SinceLaws.{begun}
use Rattle.switch_laws.specs.laws.SoundStepLaws.{undo-sound}
use Rattle.turn_laws.specs.Failed.{TurnFailed}
use Rattle.turn_laws.specs.laws.ChainLaws.{chain-shown}
use Rattle.turn_laws.specs.laws.FaultLaws.{turn-leads, leads-undone}

module _ {Own : Type 0} {Tells : Type 0} {accepts : List TableView → Bool} {app budget : ℕ} {rest frame : List ℕ} {old new : Seen Own} {net now_net : NetState} (f : TurnFailed Tells accepts app budget rest frame old new net now_net) where
  led : Leads Tells app old f.mid net f.mid_net
  led = turn-leads f.turns

  pub failed-continues : Continues Tells old new
  failed-continues = Continues-trans Tells old f.mid new (Leads-continues led) (Continues-trans Tells f.mid f.undone new f.undoes.continues f.later)

  module _ (told : Tells) where
    links-stay : (state new).links ≡ (state f.undone).links
    links-stay =
        let own = f.own told in
        ap (λ (s : State). s.links) (state-append f.undone new (map step_of own.acts) f.later.given own.history) ∙ (apart_called app own.acts (state f.undone) own.all).links

    -- no switch moved behind the undo
    pub failed-stay : SwitchesStay f.undone new
    failed-stay d = links_switch d (state f.undone) (state new) links-stay

    pub failed-ready : Conforming new → Ready old net → Ready new now_net
    failed-ready keeps ready =
        let keeps_undone = Conforming-before told f.later keeps in
        let keeps_mid = Conforming-before told f.undoes.continues keeps_undone in
        let first : Goes (length net.log) [] old old net net = record { since = begun old net; ready = ready } in
        let leads = chain-shown Tells app (λ places. true) (length net.log) [] old net led.trace old f.mid net f.mid_net told keeps_mid led.chain first in
        let there = undo-ready Tells (length net.log) _ old f.mid f.undone net f.mid_net f.undone_net told keeps_undone leads.goes.since leads.goes.ready f.undoes in
        let again : Ready new (none_left f.undone_net) = record {
          waits = λ d. links_waits d (state f.undone) (state new) links-stay ∙ there.waits d;
          agrees = λ d. there.agrees d ∙ ap (option_map (λ x. rows_of_table x.table.entries)) (sym (failed-stay d));
          known = λ d. there.known d ∙ ap (ports_known d) (sym (failed-stay d));
        } in
        subst (λ (n : NetState). Ready new n) (sym f.net_is) again

    pub failed-sound : Conforming new → Ready old net → Sound (state old) → Sound (state new)
    failed-sound keeps ready sound =
        let keeps_undone = Conforming-before told f.later keeps in
        let keeps_mid = Conforming-before told f.undoes.continues keeps_undone in
        let first : Goes (length net.log) [] old old net net = record { since = begun old net; ready = ready } in
        let leads = chain-shown Tells app (λ places. true) (length net.log) [] old net led.trace old f.mid net f.mid_net told keeps_mid led.chain first in
        let there = undo-sound Tells (length net.log) _ old f.mid f.undone net f.mid_net f.undone_net told keeps_undone leads.goes.since leads.goes.ready f.undoes sound in
        record { entries = λ d x is. there.entries d x (sym (failed-stay d) ∙ is) }

    -- in a world that tells in order
    pub failed-conforms : Conforming old → InOrder new → Conforming new
    failed-conforms keeps order =
        Conforming-on old new told failed-continues keeps order
        (messages-then old f.mid new told (Leads-continues led) (Continues-trans Tells f.mid f.undone new f.undoes.continues f.later) (chain_messages Tells app led.trace old f.mid net f.mid_net led.chain told)
        (messages-then f.mid f.undone new told f.undoes.continues f.later (f.undoes.read refl told) (own_messages (f.own told))))

    pub failed-undone : Conforming old → InOrder new → Ready old net → UndoneButFailed Tells old f.undone
    failed-undone keeps order ready = leads-undone f.undone f.undone_net (Ok tt) told keeps (InOrder-before told f.later order) ready led f.undoes

    -- what the journal has of the application by it
    pub failed-acts : (more : List Act) × (own_acts app new ≡ own_acts app old ++ give_act f.turns.given app frame ∷ more)
    failed-acts =
        let links = f.undoes.links told in
        let own = f.own told in
        let steps = links.steps ++ map step_of own.acts in
        let history : new.history ≡ f.mid.history ++ steps = own.history ∙ ap (λ (h : List WorldStep). h ++ map step_of own.acts) links.history ∙ append_assoc f.mid.history links.steps (map step_of own.acts) in (
          acts_in f.turns.trace ++ acts_of app steps,
          ap (acts_of app) history ∙ acts_append app f.mid.history steps ∙ ap (λ (acts : List Act). acts ++ acts_of app steps) (turn_acts f.turns told)
              ∙ append_assoc (own_acts app old) (give_act f.turns.given app frame ∷ acts_in f.turns.trace) (acts_of app steps),
        )
