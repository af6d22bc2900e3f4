-- In every history nothing waits of a switch that is not joined.
use Rattle.std.specs.Prelude.{◌≡◌, ◌==◌, ℕ, false, List, [], ◌∷◌, ◌++◌, map, drop, Option, Some, None, Result, Ok, Err, refl}
use Rattle.std.specs.Option.{is_some, option_map}
use Rattle.std.proofs.Common.{ap, inl, inr, true≢false}
use Rattle.std.proofs.lemmas.Bool.{cases_Bool}
use Rattle.of_types.specs.declared.journal.Stimulus.{Stimulus}
use Rattle.of_wire.specs.declared.message.Envelope.{Envelope}
use Rattle.of_wire.specs.declared.fault.WireFault.{WireFault}
use Rattle.of_wire.specs.Reading.{reading_of}
use Rattle.flow_table.specs.Switch.{Declared, SwitchState}
use Rattle.flow_table.specs.Step.{after_stimulus}
use Rattle.outside.specs.declared.call.FailCall.{FailCall}
use Rattle.outside.specs.declared.step.WorldStep.{WorldStep}
use Rattle.outside.specs.Seen.{Seen}
use Rattle.outside.specs.State.{Link, State, link_at_first, at_first, link_of, waits_in, switch_in, waits_of, switch_of, is_joined, switch_joined, link_joined, link_left, stimulus_sends, link_stimulated, switch_told, message_sends, link_sent, link_got, link_told, link_failed, link_lost, after_steps, state}
use Rattle.outside.specs.laws.LinkKeptLaws.{EachKeeps, steps-kept}
use Rattle.event_dispatch.specs.NothingWaits.{EmptyOut, IsEmptyOut, AllEmptyOut}

-- ---- One link

stimulated : (x : Stimulus) (o : Option SwitchState) (waits : List (List ℕ)) → EmptyOut o waits → EmptyOut (option_map (after_stimulus x) o) (waits ++ stimulus_sends x o)
stimulated x None waits empty out = rw (empty refl) refl
stimulated x (Some s) waits empty out = absurd (true≢false out)

joins : (moment : ℕ) (d : Declared) (o : Option SwitchState) (waits : List (List ℕ)) → EmptyOut (switch_joined moment d o) waits
joins moment d None waits out = absurd (true≢false out)
joins moment d (Some s) waits out = absurd (true≢false out)

sent : (r : Result Envelope WireFault) (o : Option SwitchState) (waits : List (List ℕ)) → EmptyOut o waits → EmptyOut (switch_told r o) (waits ++ message_sends r o)
sent (Ok e) None waits empty out = rw (empty refl) refl
sent (Ok e) (Some s) waits empty out = absurd (true≢false out)
sent (Err fault) None waits empty out = rw (empty refl) refl
sent (Err fault) (Some s) waits empty out = absurd (true≢false out)

dropped : (o : Option SwitchState) (waits : List (List ℕ)) → EmptyOut o waits → EmptyOut o (drop 1 waits)
dropped o waits empty out = ap (drop 1) (empty out)

keeps-empty : EachKeeps IsEmptyOut
unfolding link_stimulated link_joined link_left link_sent link_got link_told link_lost link_failed
keeps-empty = record {
  stimulated = λ x l empty. stimulated x l.switch l.waits empty;
  joined = λ moment l empty. joins moment l.declared l.switch l.waits;
  left = λ l empty out. refl;
  sent = λ bytes l empty. sent (reading_of bytes) l.switch l.waits empty;
  got = λ l empty. dropped l.switch l.waits empty;
  told = λ l empty. dropped l.switch l.waits empty;
  lost = λ l empty out. refl;
  failed = λ l empty. empty;
}

-- ---- All links

pub steps_empty : (steps : List WorldStep) (s : State) → AllEmptyOut s.links → AllEmptyOut (after_steps steps s).links
steps_empty steps s all = steps-kept IsEmptyOut keeps-empty steps s all

first_empty : (fails : List FailCall) (ds : List Declared) → AllEmptyOut (map (link_at_first fails) ds)
first_empty fails [] = tt
first_empty fails (d ∷ ds) = (λ out. refl, first_empty fails ds)

pub state_empty : {Own : Type 0} (seen : Seen Own) → AllEmptyOut (state seen).links
unfolding state at_first
state_empty seen = steps_empty seen.history (at_first seen.given) (first_empty seen.given.fails seen.given.declared)

-- ---- A switch by its number

empty_in : (d : ℕ) (ls : List Link) → AllEmptyOut ls → is_some (switch_in (link_of d ls)) ≡ false → waits_in (link_of d ls) ≡ []
empty_in d [] all out = refl
empty_in d (l ∷ ls) all out =
    elim (cases_Bool (l.declared.dpid == d)) [
      | inl here ↦ rw here (all.0 (rw here at out))
      | inr other ↦ rw other (empty_in d ls all.1 (rw other at out))
    ]

pub out_is_empty : (d : ℕ) (s : State) → AllEmptyOut s.links → is_joined d s ≡ false → waits_of d s ≡ []
unfolding switch_of waits_of
out_is_empty d s all out = empty_in d s.links all out
