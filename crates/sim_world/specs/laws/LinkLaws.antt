-- Laws of the switches of a simulated world: what each change of a link keeps of what holds of it.
use Rattle.std.specs.Prelude.{◌≡◌, ℕ, ◌+◌, ◌^◌, ◌<◌, ◌≤◌, ◌-◌, List, Option, Some, None, Result, Ok, Err, refl}
use Rattle.std.specs.Option.{option_map}
use Rattle.std.proofs.Common.{◌∙◌, arith}
use Rattle.of_types.specs.declared.journal.Stimulus.{Stimulus}
use Rattle.of_types.specs.declared.journal.Stimulus.TheVariants.{Frame, Advance, Port, Counts, Raw}
use Rattle.of_wire.specs.declared.message.Envelope.{Envelope}
use Rattle.of_wire.specs.declared.fault.WireFault.{WireFault}
use Rattle.of_wire.specs.Reading.{reading_of}
use Rattle.flow_table.specs.Switch.{Declared, SwitchState}
use Rattle.flow_table.specs.Step.{after_stimulus}
use Rattle.switch_sim.specs.Possible.{IsPossible}
use Rattle.switch_sim.specs.Readable.{IsShortIfRaw}
use Rattle.switch_sim.specs.laws.SerialLaws.{next_after_message, next_after_stimulus}
use Rattle.switch_sim.specs.laws.MomentLaws.{moment-after_message, moment-after_stimulus, declared-after_message, declared-after_stimulus}
use Rattle.switch_sim.specs.Words.{moment_after}
use Rattle.outside.specs.State.{Link, switch_joined, switch_told, link_joined, link_left, link_stimulated, link_sent, link_got, link_told, link_lost, link_failed}
use Rattle.outside.specs.Conforming.{IsStimulus}
use Rattle.sim_world.specs.Links.{IsDeclaredAs, StandsAt, SerialsWithin, SerialsBelow, Stands, MayCall}

-- ---- A switch

own_moment : (x : Stimulus) → IsStimulus x → (moment : ℕ) → moment_after x moment ≡ moment
unfolding IsStimulus
own_moment (Frame port bytes) is moment = refl
own_moment (Advance t) is moment = absurd is
own_moment (Port port change) is moment = refl
own_moment (Counts priority packets bytes) is moment = refl
own_moment (Raw bytes) is moment = refl

joined_stands : (moment : ℕ) (d : Declared) (o : Option SwitchState) → StandsAt moment o → StandsAt moment (switch_joined moment d o)
joined_stands moment d None stands = refl
joined_stands moment d (Some s) stands = stands

joined_serials : (moment most : ℕ) (d : Declared) (o : Option SwitchState) → SerialsWithin most o → SerialsWithin most (switch_joined moment d o)
joined_serials moment most d None serials = omega arith
joined_serials moment most d (Some s) serials = serials

happened_stands : (x : Stimulus) (moment : ℕ) (o : Option SwitchState) → IsStimulus x → StandsAt moment o → StandsAt moment (option_map (after_stimulus x) o)
happened_stands x moment None is stands = tt
happened_stands x moment (Some s) is stands = moment-after_stimulus x s ∙ own_moment x is s.moment ∙ stands

happened_serials : (x : Stimulus) (most : ℕ) (o : Option SwitchState) → SerialsWithin most o → SerialsWithin most (option_map (after_stimulus x) o)
happened_serials x most None serials = tt
happened_serials x most (Some s) serials = omega (arith, next_after_stimulus x s)

passed_stands : (t : ℕ) (o : Option SwitchState) → StandsAt t (option_map (after_stimulus (Advance t)) o)
passed_stands t None = tt
passed_stands t (Some s) = moment-after_stimulus (Advance t) s

told_stands : (read : Result Envelope WireFault) (moment : ℕ) (o : Option SwitchState) → StandsAt moment o → StandsAt moment (switch_told read o)
told_stands (Ok e) moment None stands = tt
told_stands (Ok e) moment (Some s) stands = moment-after_message e.message s ∙ stands
told_stands (Err fault) moment o stands = stands

told_serials : (read : Result Envelope WireFault) (most : ℕ) (o : Option SwitchState) → SerialsWithin most o → SerialsWithin (most + 1) (switch_told read o)
told_serials (Ok e) most None serials = tt
told_serials (Ok e) most (Some s) serials = omega (arith, next_after_message e.message s)
told_serials (Err fault) most None serials = tt
told_serials (Err fault) most (Some s) serials = omega arith

serials_more : (most more : ℕ) (o : Option SwitchState) → most ≤ more → SerialsWithin most o → SerialsWithin more o
serials_more most more None le serials = tt
serials_more most more (Some s) le serials = omega arith

serials_below : (most limit : ℕ) (o : Option SwitchState) → most < limit → SerialsWithin most o → SerialsBelow limit o
serials_below most limit None less serials = tt
serials_below most limit (Some s) less serials = omega arith

-- A switch that is joined stays the one that was declared.
pub IsDeclaredAs-happened : (x : Stimulus) (d : Declared) (o : Option SwitchState) → IsDeclaredAs d o → IsDeclaredAs d (option_map (after_stimulus x) o)
IsDeclaredAs-happened x d None is = tt
IsDeclaredAs-happened x d (Some s) is = declared-after_stimulus x s ∙ is

pub IsDeclaredAs-told : (read : Result Envelope WireFault) (d : Declared) (o : Option SwitchState) → IsDeclaredAs d o → IsDeclaredAs d (switch_told read o)
IsDeclaredAs-told (Ok e) d None is = tt
IsDeclaredAs-told (Ok e) d (Some s) is = declared-after_message e.message s ∙ is
IsDeclaredAs-told (Err fault) d o is = is

-- What may be a stimulus of a switch can happen to it.
pub IsPossible-stimulus : (x : Stimulus) (s : SwitchState) → IsStimulus x → IsPossible x s
unfolding IsStimulus
IsPossible-stimulus (Frame port bytes) s is = (is.1, is.2)
IsPossible-stimulus (Advance t) s is = absurd is
IsPossible-stimulus (Port port change) s is = tt
IsPossible-stimulus (Counts priority packets bytes) s is = tt
IsPossible-stimulus (Raw bytes) s is = tt

pub IsShortIfRaw-stimulus : (x : Stimulus) → IsStimulus x → IsShortIfRaw x
unfolding IsStimulus
IsShortIfRaw-stimulus (Frame port bytes) is = tt
IsShortIfRaw-stimulus (Advance t) is = absurd is
IsShortIfRaw-stimulus (Port port change) is = tt
IsShortIfRaw-stimulus (Counts priority packets bytes) is = tt
IsShortIfRaw-stimulus (Raw bytes) is = is.1

-- ---- A link at a moment

pub Stands-joined : (moment most : ℕ) (l : Link) → Stands moment most l → Stands moment most (link_joined moment l)
unfolding link_joined
Stands-joined moment most l is = record {
  stands = joined_stands moment l.declared l.switch is.stands;
  serials = joined_serials moment most l.declared l.switch is.serials;
  calls = is.calls;
}

pub Stands-left : (moment most : ℕ) (l : Link) → Stands moment most l → Stands moment most (link_left l)
unfolding link_left
Stands-left moment most l is = record { stands = tt; serials = tt; calls = is.calls }

pub Stands-stimulated : (x : Stimulus) (moment most : ℕ) (l : Link) → IsStimulus x → Stands moment most l → Stands moment most (link_stimulated x l)
unfolding link_stimulated
Stands-stimulated x moment most l stimulus is = record {
  stands = happened_stands x moment l.switch stimulus is.stands;
  serials = happened_serials x most l.switch is.serials;
  calls = is.calls;
}

pub Stands-passed : (moment t most : ℕ) (l : Link) → Stands moment most l → Stands t most (link_stimulated (Advance t) l)
unfolding link_stimulated
Stands-passed moment t most l is = record {
  stands = passed_stands t l.switch;
  serials = happened_serials (Advance t) most l.switch is.serials;
  calls = is.calls;
}

pub Stands-sent : (bytes : List ℕ) (moment most : ℕ) (l : Link) → Stands moment most l → Stands moment (most + 1) (link_sent bytes l)
unfolding link_sent
Stands-sent bytes moment most l is = record {
  stands = told_stands (reading_of bytes) moment l.switch is.stands;
  serials = told_serials (reading_of bytes) most l.switch is.serials;
  calls = omega (arith, is.calls);
}

pub Stands-more : (moment most more : ℕ) (l : Link) → most ≤ more → Stands moment most l → Stands moment more l
Stands-more moment most more l le is = record {
  stands = is.stands;
  serials = serials_more most more l.switch le is.serials;
  calls = omega (arith, is.calls);
}

pub Stands-got : (moment most : ℕ) (l : Link) → Stands moment most l → Stands moment (most + 1) (link_got l)
unfolding link_got
Stands-got moment most l is = record {
  stands = is.stands;
  serials = serials_more most (most + 1) l.switch (omega arith) is.serials;
  calls = omega (arith, is.calls);
}

pub Stands-told : (moment most : ℕ) (l : Link) → Stands moment most l → Stands moment most (link_told l)
unfolding link_told
Stands-told moment most l is = record { stands = is.stands; serials = is.serials; calls = is.calls }

pub Stands-lost : (moment most : ℕ) (l : Link) → Stands moment most l → Stands moment (most + 1) (link_lost l)
unfolding link_lost
Stands-lost moment most l is = record { stands = tt; serials = tt; calls = omega (arith, is.calls) }

pub Stands-failed : (moment most : ℕ) (l : Link) → Stands moment most l → Stands moment (most + 1) (link_failed l)
unfolding link_failed
Stands-failed moment most l is = record {
  stands = is.stands;
  serials = serials_more most (most + 1) l.switch (omega arith) is.serials;
  calls = omega (arith, is.calls);
}

-- While the number stays below the last one, one more call can be made.
pub MayCall-stands : (moment most : ℕ) (l : Link) → most < 2 ^ 64 - 1 → Stands moment most l → MayCall l
MayCall-stands moment most l less is = record {
  calls = omega (arith, is.calls);
  serials = serials_below most (2 ^ 64 - 1) l.switch less is.serials;
}
