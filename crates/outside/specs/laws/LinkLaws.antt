-- Laws of one switch among others: what each step leaves of its state and of what waits of it.
use Rattle.std.specs.Prelude.{◌≡◌, ◌≢◌, ◌==◌, ℕ, Bool, true, false, List, [], ◌∷◌, ◌++◌, drop, Option, Some, None, Result, Ok, Err, if◌then◌else◌, refl}
use Rattle.std.specs.Option.{option_map}
use Rattle.std.proofs.Common.{sym, ap, ◌∙◌, subst, inl, inr}
use Rattle.std.proofs.lemmas.Bool.{cases_eq, eqb-true, ne_eqb}
use Rattle.of_types.specs.declared.journal.Act.TheVariants.{Sent, Got}
use Rattle.of_wire.specs.declared.message.Envelope.{Envelope}
use Rattle.of_wire.specs.declared.fault.WireFault.{WireFault}
use Rattle.of_wire.specs.Reading.{reading_of}
use Rattle.outside.specs.declared.step.WorldStep.TheVariants.{Acted, From, SendLost, RecvLost, SendFailed, RecvFailed}
use Rattle.outside.specs.State.{Link, State, link_of, switch_in, waits_in, switch_of, waits_of, with_link, switch_told, message_sends, link_sent, link_got, link_told, link_lost, link_failed, after_act, after_step}

-- ---- A change of one switch

-- it stays the switch that was declared
abbrev pub KeepsDeclared : (Link → Link) → Type 0
KeepsDeclared change = (l : Link) → (change l).declared ≡ l.declared

same_at : (d : ℕ) (change : Link → Link) → KeepsDeclared change → (l : Link) (ls : List Link) → link_of d (with_link d change ls) ≡ option_map change (link_of d ls)
    → (here : Bool) → (l.declared.dpid == d) ≡ here → link_of d (if here then change l ∷ ls else l ∷ with_link d change ls) ≡ option_map change (if here then Some l else link_of d ls)
same_at d change keeps l ls rest true e = rw (keeps l, e) refl
same_at d change keeps l ls rest false e = rw e rest

pub link_of-same : (d : ℕ) (change : Link → Link) → KeepsDeclared change → (ls : List Link) → link_of d (with_link d change ls) ≡ option_map change (link_of d ls)
link_of-same d change keeps [] = refl
link_of-same d change keeps (l ∷ ls) = same_at d change keeps l ls (link_of-same d change keeps ls) (l.declared.dpid == d) refl

other_at : (d e : ℕ) (change : Link → Link) → KeepsDeclared change → e ≢ d → (l : Link) (ls : List Link) → link_of e (with_link d change ls) ≡ link_of e ls
    → (here : Bool) → (l.declared.dpid == d) ≡ here → link_of e (if here then change l ∷ ls else l ∷ with_link d change ls) ≡ (if l.declared.dpid == e then Some l else link_of e ls)
other_at d e change keeps other l ls rest true h =
    let apart : (l.declared.dpid == e) ≡ false = ne_eqb l.declared.dpid e (λ same. other (sym same ∙ eqb-true l.declared.dpid d h)) in
    rw (keeps l, apart) refl
other_at d e change keeps other l ls rest false h = ap (λ (o : Option Link). if l.declared.dpid == e then Some l else o) rest

pub link_of-other : (d e : ℕ) (change : Link → Link) → KeepsDeclared change → e ≢ d → (ls : List Link) → link_of e (with_link d change ls) ≡ link_of e ls
link_of-other d e change keeps other [] = refl
link_of-other d e change keeps other (l ∷ ls) = other_at d e change keeps other l ls (link_of-other d e change keeps other ls) (l.declared.dpid == d) refl

-- ---- What a step leaves of a switch

sent_switch : (bytes : List ℕ) (o : Option Link) → switch_in (option_map (link_sent bytes) o) ≡ switch_told (reading_of bytes) (switch_in o)
unfolding link_sent
sent_switch bytes None = sym (none_told (reading_of bytes))
  where
    none_told : (read : Result Envelope WireFault) → switch_told read None ≡ None
    none_told (Ok e) = refl
    none_told (Err fault) = refl
sent_switch bytes (Some l) = refl

sent_waits : (bytes : List ℕ) (o : Option Link) → waits_in (option_map (link_sent bytes) o) ≡ waits_in o ++ message_sends (reading_of bytes) (switch_in o)
unfolding link_sent
sent_waits bytes None = sym (none_sent (reading_of bytes))
  where
    none_sent : (read : Result Envelope WireFault) → message_sends read None ≡ []
    none_sent (Ok e) = refl
    none_sent (Err fault) = refl
sent_waits bytes (Some l) = refl

pub keeps_sent : (bytes : List ℕ) → KeepsDeclared (link_sent bytes)
unfolding link_sent
keeps_sent bytes l = refl

pub keeps_got : KeepsDeclared link_got
unfolding link_got
keeps_got l = refl

pub keeps_told : KeepsDeclared link_told
unfolding link_told
keeps_told l = refl

-- A message that is sent to a switch moves it, and what it sends then waits behind what waits.
pub switch_of-sent : (d : ℕ) (bytes : List ℕ) (s : State) → switch_of d (after_step (Acted (Sent d bytes)) s) ≡ switch_told (reading_of bytes) (switch_of d s)
unfolding switch_of after_step after_act
switch_of-sent d bytes s = ap switch_in (link_of-same d (link_sent bytes) (keeps_sent bytes) s.links) ∙ sent_switch bytes (link_of d s.links)

pub waits_of-sent : (d : ℕ) (bytes : List ℕ) (s : State) → waits_of d (after_step (Acted (Sent d bytes)) s) ≡ waits_of d s ++ message_sends (reading_of bytes) (switch_of d s)
unfolding switch_of waits_of after_step after_act
waits_of-sent d bytes s = ap waits_in (link_of-same d (link_sent bytes) (keeps_sent bytes) s.links) ∙ sent_waits bytes (link_of d s.links)

-- It moves no other one.
pub switch_of-sent_other : (d e : ℕ) (bytes : List ℕ) (s : State) → e ≢ d → switch_of e (after_step (Acted (Sent d bytes)) s) ≡ switch_of e s
unfolding switch_of after_step after_act
switch_of-sent_other d e bytes s other = ap switch_in (link_of-other d e (link_sent bytes) (keeps_sent bytes) other s.links)

pub waits_of-sent_other : (d e : ℕ) (bytes : List ℕ) (s : State) → e ≢ d → waits_of e (after_step (Acted (Sent d bytes)) s) ≡ waits_of e s
unfolding waits_of after_step after_act
waits_of-sent_other d e bytes s other = ap waits_in (link_of-other d e (link_sent bytes) (keeps_sent bytes) other s.links)

-- A message that is taken waits no more, and the switch stays.
got_switch : (o : Option Link) → switch_in (option_map link_got o) ≡ switch_in o
unfolding link_got
got_switch None = refl
got_switch (Some l) = refl

got_waits : (o : Option Link) → waits_in (option_map link_got o) ≡ drop 1 (waits_in o)
unfolding link_got
got_waits None = refl
got_waits (Some l) = refl

pub switch_of-got : (d : ℕ) (bytes : List ℕ) (s : State) → switch_of d (after_step (Acted (Got d bytes)) s) ≡ switch_of d s
unfolding switch_of after_step after_act
switch_of-got d bytes s = ap switch_in (link_of-same d link_got keeps_got s.links) ∙ got_switch (link_of d s.links)

pub waits_of-got : (d : ℕ) (bytes : List ℕ) (s : State) → waits_of d (after_step (Acted (Got d bytes)) s) ≡ drop 1 (waits_of d s)
unfolding waits_of after_step after_act
waits_of-got d bytes s = ap waits_in (link_of-same d link_got keeps_got s.links) ∙ got_waits (link_of d s.links)

pub switch_of-got_other : (d e : ℕ) (bytes : List ℕ) (s : State) → e ≢ d → switch_of e (after_step (Acted (Got d bytes)) s) ≡ switch_of e s
unfolding switch_of after_step after_act
switch_of-got_other d e bytes s other = ap switch_in (link_of-other d e link_got keeps_got other s.links)

pub waits_of-got_other : (d e : ℕ) (bytes : List ℕ) (s : State) → e ≢ d → waits_of e (after_step (Acted (Got d bytes)) s) ≡ waits_of e s
unfolding waits_of after_step after_act
waits_of-got_other d e bytes s other = ap waits_in (link_of-other d e link_got keeps_got other s.links)

told_switch : (o : Option Link) → switch_in (option_map link_told o) ≡ switch_in o
unfolding link_told
told_switch None = refl
told_switch (Some l) = refl

pub switch_of-from : (d : ℕ) (bytes : List ℕ) (s : State) → switch_of d (after_step (From d bytes) s) ≡ switch_of d s
unfolding switch_of after_step
switch_of-from d bytes s = ap switch_in (link_of-same d link_told keeps_told s.links) ∙ told_switch (link_of d s.links)

pub switch_of-from_other : (d e : ℕ) (bytes : List ℕ) (s : State) → e ≢ d → switch_of e (after_step (From d bytes) s) ≡ switch_of e s
unfolding switch_of after_step
switch_of-from_other d e bytes s other = ap switch_in (link_of-other d e link_told keeps_told other s.links)

-- ---- A switch that is lost

pub keeps_lost : KeepsDeclared link_lost
unfolding link_lost
keeps_lost l = refl

lost_switch : (o : Option Link) → switch_in (option_map link_lost o) ≡ None
unfolding link_lost
lost_switch None = refl
lost_switch (Some l) = refl

lost_waits : (o : Option Link) → waits_in (option_map link_lost o) ≡ []
unfolding link_lost
lost_waits None = refl
lost_waits (Some l) = refl

-- It is out, and nothing of it waits; the others stay.
pub switch_of-send_lost : (d : ℕ) (s : State) → switch_of d (after_step (SendLost d) s) ≡ None
unfolding switch_of after_step
switch_of-send_lost d s = ap switch_in (link_of-same d link_lost keeps_lost s.links) ∙ lost_switch (link_of d s.links)

pub waits_of-send_lost : (d : ℕ) (s : State) → waits_of d (after_step (SendLost d) s) ≡ []
unfolding waits_of after_step
waits_of-send_lost d s = ap waits_in (link_of-same d link_lost keeps_lost s.links) ∙ lost_waits (link_of d s.links)

pub switch_of-send_lost_other : (d e : ℕ) (s : State) → e ≢ d → switch_of e (after_step (SendLost d) s) ≡ switch_of e s
unfolding switch_of after_step
switch_of-send_lost_other d e s other = ap switch_in (link_of-other d e link_lost keeps_lost other s.links)

pub waits_of-send_lost_other : (d e : ℕ) (s : State) → e ≢ d → waits_of e (after_step (SendLost d) s) ≡ waits_of e s
unfolding waits_of after_step
waits_of-send_lost_other d e s other = ap waits_in (link_of-other d e link_lost keeps_lost other s.links)

-- A call that takes a message leaves of a switch that is lost what one that sends does.
pub recv_lost-alike : (d : ℕ) (s : State) → after_step (RecvLost d) s ≡ after_step (SendLost d) s
unfolding after_step
recv_lost-alike d s = refl

pub switch_of-recv_lost : (d : ℕ) (s : State) → switch_of d (after_step (RecvLost d) s) ≡ None
switch_of-recv_lost d s = ap (switch_of d) (recv_lost-alike d s) ∙ switch_of-send_lost d s

pub waits_of-recv_lost : (d : ℕ) (s : State) → waits_of d (after_step (RecvLost d) s) ≡ []
waits_of-recv_lost d s = ap (waits_of d) (recv_lost-alike d s) ∙ waits_of-send_lost d s

pub switch_of-recv_lost_other : (d e : ℕ) (s : State) → e ≢ d → switch_of e (after_step (RecvLost d) s) ≡ switch_of e s
switch_of-recv_lost_other d e s other = ap (switch_of e) (recv_lost-alike d s) ∙ switch_of-send_lost_other d e s other

pub waits_of-recv_lost_other : (d e : ℕ) (s : State) → e ≢ d → waits_of e (after_step (RecvLost d) s) ≡ waits_of e s
waits_of-recv_lost_other d e s other = ap (waits_of e) (recv_lost-alike d s) ∙ waits_of-send_lost_other d e s other

-- ---- A call for a switch that is out

pub keeps_failed : KeepsDeclared link_failed
unfolding link_failed
keeps_failed l = refl

failed_switch : (o : Option Link) → switch_in (option_map link_failed o) ≡ switch_in o
unfolding link_failed
failed_switch None = refl
failed_switch (Some l) = refl

failed_waits : (o : Option Link) → waits_in (option_map link_failed o) ≡ waits_in o
unfolding link_failed
failed_waits None = refl
failed_waits (Some l) = refl

failed_switches : (d e : ℕ) (ls : List Link) → switch_in (link_of e (with_link d link_failed ls)) ≡ switch_in (link_of e ls)
failed_switches d e ls =
    elim (cases_eq d e) [
      | inl same ↦ subst (λ (n : ℕ). switch_in (link_of n (with_link d link_failed ls)) ≡ switch_in (link_of n ls)) same (ap switch_in (link_of-same d link_failed keeps_failed ls) ∙ failed_switch (link_of d ls))
      | inr other ↦ ap switch_in (link_of-other d e link_failed keeps_failed (λ same. other (sym same)) ls)
    ]

failed_waits_of : (d e : ℕ) (ls : List Link) → waits_in (link_of e (with_link d link_failed ls)) ≡ waits_in (link_of e ls)
failed_waits_of d e ls =
    elim (cases_eq d e) [
      | inl same ↦ subst (λ (n : ℕ). waits_in (link_of n (with_link d link_failed ls)) ≡ waits_in (link_of n ls)) same (ap waits_in (link_of-same d link_failed keeps_failed ls) ∙ failed_waits (link_of d ls))
      | inr other ↦ ap waits_in (link_of-other d e link_failed keeps_failed (λ same. other (sym same)) ls)
    ]

-- It moves no switch, that one included.
pub switch_of-send_failed : (d e : ℕ) (s : State) → switch_of e (after_step (SendFailed d) s) ≡ switch_of e s
unfolding switch_of after_step
switch_of-send_failed d e s = failed_switches d e s.links

pub waits_of-send_failed : (d e : ℕ) (s : State) → waits_of e (after_step (SendFailed d) s) ≡ waits_of e s
unfolding waits_of after_step
waits_of-send_failed d e s = failed_waits_of d e s.links

pub switch_of-recv_failed : (d e : ℕ) (s : State) → switch_of e (after_step (RecvFailed d) s) ≡ switch_of e s
unfolding switch_of after_step
switch_of-recv_failed d e s = failed_switches d e s.links

pub waits_of-recv_failed : (d e : ℕ) (s : State) → waits_of e (after_step (RecvFailed d) s) ≡ waits_of e s
unfolding waits_of after_step
waits_of-recv_failed d e s = failed_waits_of d e s.links
