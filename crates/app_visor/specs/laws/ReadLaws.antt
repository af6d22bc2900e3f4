-- Laws of frames as they come: what a turn or a start reads of the acts of taking.
use Rattle.std.specs.Prelude.{◌≡◌, ℕ, List, [], ◌∷◌, ◌++◌, filter, None, Result, Ok, Err, OnErr, ◌⊎◌, refl}
use Rattle.std.proofs.Common.{sym, ap, subst, inl, inr}
use Rattle.std.proofs.lemmas.Result.{on_err_weaker}
use Rattle.std.proofs.lemmas.Bool.{eq-eqb}
use Rattle.of_types.specs.declared.journal.Act.{Act}
use Rattle.of_types.specs.declared.journal.Act.TheVariants.{Took}
use Rattle.of_types.specs.declared.journal.TookWhat.TheVariants as took
use Rattle.app_frames.specs.declared.frame.AppFrame.{AppFrame}
use Rattle.app_frames.specs.declared.fault.FrameFault.{FrameFault}
use Rattle.app_frames.specs.Frames.{app_reading}
use Rattle.lego_model.specs.Journal.{Untold, pieces, end_from, any_gone, gave, inputs, in_turns}
use Rattle.lego_model.specs.Turns.{Framed, Faulty, Over, next_of}
use Rattle.outside.specs.Seen.{Seen, Continues}
use Rattle.outside.specs.laws.SeenLaws.{Continues-refl, Continues-trans}
use Rattle.journal_laws.specs.Readings.{Within}
use Rattle.app_visor.specs.declared.came.Came.{Came}
use Rattle.app_visor.specs.declared.came.Came.TheVariants.{Frame, Refused, Closed, Silent}
use Rattle.app_visor.specs.Talks.{Wants}
use Rattle.app_visor.specs.Reads.{takes, TakesAll, Taken, IsNext, TakesOne, CameSo, Comes, Breaks, TakesOn}

-- ---- Pieces taken

pub Taken-refl : {Own : Type 0} {Tells : Type 0} (app : ℕ) (rest : List ℕ) (seen : Seen Own) → Taken Tells app rest rest seen seen
Taken-refl app rest seen = record { pieces = []; all = (refl, refl) }

pub Taken-one : {Own : Type 0} {Tells : Type 0} {app : ℕ} {rest left later : List ℕ} {old next new : Seen Own} → app_reading rest ≡ Ok None → TakesOne Tells app rest left old next
    → Taken Tells app left later next new → Taken Tells app rest later old new
Taken-one {Tells = Tells} {app = app} {later = later} {next = next} {new = new} none one more = record {
  pieces = one.piece ∷ more.pieces;
  all = (none, (next, (one.told, subst (λ (x : List ℕ). TakesAll Tells app more.pieces x later next new) one.left_is more.all)));
}

TakesAll-continues : {Own : Type 0} (Tells : Type 0) (app : ℕ) (ps : List (List ℕ)) (rest left : List ℕ) (old new : Seen Own) → TakesAll Tells app ps rest left old new → Continues Tells old new
TakesAll-continues Tells app [] rest left old new all = rw all.1 (Continues-refl Tells old)
TakesAll-continues Tells app (p ∷ ps) rest left old new all =
    Continues-trans Tells old all.1.0 new all.1.1.0.continues (TakesAll-continues Tells app ps (rest ++ p) left all.1.0 new all.1.1.1)

pub Taken-continues : {Own : Type 0} {Tells : Type 0} {app : ℕ} {rest left : List ℕ} {old new : Seen Own} → Taken Tells app rest left old new → Continues Tells old new
Taken-continues {Tells = Tells} {app = app} {rest = rest} {left = left} {old = old} {new = new} taken = TakesAll-continues Tells app taken.pieces rest left old new taken.all

-- ---- The loop that takes them

pub takes_more : {Own : Type 0} {Tells : Type 0} {app : ℕ} {rest here left : List ℕ} {old then_seen next : Seen Own} → TakesOn Tells app rest here old then_seen
    → (app_reading here ≡ Ok None) × TakesOne Tells app here left then_seen next → TakesOn Tells app rest left old next
takes_more on step = record { on = λ left new more. on.on left new (Taken-one step.0 step.1 more) }

pub came_then : {Own : Type 0} {Tells : Type 0} {app : ℕ} {rest here left : List ℕ} {old then_seen new : Seen Own} (came : Came) → TakesOn Tells app rest here old then_seen
    → CameSo Tells app came here left then_seen new → Comes Tells app rest left old new came
came_then {app = app} {here = here} {then_seen = then_seen} came on so = record {
  unread = here;
  then_seen = then_seen;
  taken = on.on here then_seen (Taken-refl app here then_seen);
  came_is = so;
}

pub broke_then : {Own : Type 0} {Tells : Type 0} {app : ℕ} {rest here : List ℕ} {old then_seen new : Seen Own} → TakesOn Tells app rest here old then_seen → Breaks Tells app here then_seen new → Breaks Tells app rest old new
broke_then on breaks = record {
  unread = breaks.unread;
  then_seen = breaks.then_seen;
  taken = on.on breaks.unread breaks.then_seen breaks.taken;
  wants = breaks.wants;
}

CameSo-continues : {Own : Type 0} (Tells : Type 0) (app : ℕ) (came : Came) (rest left : List ℕ) (old new : Seen Own) → CameSo Tells app came rest left old new → Continues Tells old new
CameSo-continues Tells app (Frame frame) rest left old new so = rw so.1 (Continues-refl Tells old)
CameSo-continues Tells app (Refused fault) rest left old new so = rw so.1 (Continues-refl Tells old)
CameSo-continues Tells app Closed rest left old new so = so.1.continues
CameSo-continues Tells app Silent rest left old new so = so.1.continues

pub Comes-continues : {Own : Type 0} {Tells : Type 0} {app : ℕ} {rest left : List ℕ} {old new : Seen Own} {came : Came} → Comes Tells app rest left old new came → Continues Tells old new
Comes-continues {Tells = Tells} {app = app} {left = left} {old = old} {new = new} {came = came} comes =
    Continues-trans Tells old comes.then_seen new (Taken-continues comes.taken) (CameSo-continues Tells app came comes.unread left comes.then_seen new comes.came_is)

pub Breaks-continues : {Own : Type 0} {Tells : Type 0} {app : ℕ} {rest : List ℕ} {old new : Seen Own} → Breaks Tells app rest old new → Continues Tells old new
Breaks-continues {Tells = Tells} {old = old} {new = new} breaks =
    Continues-trans Tells old breaks.then_seen new (Taken-continues breaks.taken) breaks.wants.continues

-- ---- What stands next

next_taken_all : {Own : Type 0} (Tells : Type 0) (app : ℕ) (ps more : List (List ℕ)) (rest left : List ℕ) (old new : Seen Own) → TakesAll Tells app ps rest left old new → next_of rest (ps ++ more) ≡ next_of left more
unfolding next_of
next_taken_all Tells app [] more rest left old new all = ap (λ (r : List ℕ). next_of r more) (sym all.0)
next_taken_all Tells app (p ∷ ps) more rest left old new all = rw all.0 (next_taken_all Tells app ps more (rest ++ p) left all.1.0 new all.1.1.1)

pub next_taken : {Own : Type 0} {Tells : Type 0} {app : ℕ} {rest left : List ℕ} {old new : Seen Own} (more : List (List ℕ)) (taken : Taken Tells app rest left old new)
    → next_of rest (taken.pieces ++ more) ≡ next_of left more
next_taken {Tells = Tells} {app = app} {rest = rest} {left = left} {old = old} {new = new} more taken = next_taken_all Tells app taken.pieces more rest left old new taken.all

pub next_framed : (frame : AppFrame) (rest left : List ℕ) (more : List (List ℕ)) → IsNext frame rest left → next_of rest more ≡ Framed frame left more
unfolding next_of
next_framed frame rest left [] is = rw is.read (ap (λ (x : List ℕ). Framed frame x []) (sym is.left_is))
next_framed frame rest left (p ∷ ps) is = rw is.read (ap (λ (x : List ℕ). Framed frame x (p ∷ ps)) (sym is.left_is))

pub next_faulty : (fault : FrameFault) (rest : List ℕ) (more : List (List ℕ)) → app_reading rest ≡ Err fault → next_of rest more ≡ Faulty fault
unfolding next_of
next_faulty fault rest [] is = rw is refl
next_faulty fault rest (p ∷ ps) is = rw is refl

pub next_over : (rest : List ℕ) → app_reading rest ≡ Ok None → next_of rest [] ≡ Over
unfolding next_of
next_over rest is = rw is refl

-- ---- What is read of the acts of taking

pub pieces_takes : (app : ℕ) (ps : List (List ℕ)) (more : List Act) → pieces (takes app ps ++ more) ≡ ps ++ pieces more
pieces_takes app [] more = refl
pieces_takes app (p ∷ ps) more = ap (λ (x : List (List ℕ)). p ∷ x) (pieces_takes app ps more)

pub end_takes : (app : ℕ) (ps : List (List ℕ)) (more : List Act) → end_from Untold (takes app ps ++ more) ≡ end_from Untold more
end_takes app [] more = refl
end_takes app (p ∷ ps) more = end_takes app ps more

pub gone_takes : (app : ℕ) (ps : List (List ℕ)) (more : List Act) → any_gone (takes app ps ++ more) ≡ any_gone more
gone_takes app [] more = refl
gone_takes app (p ∷ ps) more = gone_takes app ps more

pub gave_takes : (app : ℕ) (ps : List (List ℕ)) (more : List Act) → filter gave (takes app ps ++ more) ≡ filter gave more
gave_takes app [] more = refl
gave_takes app (p ∷ ps) more = gave_takes app ps more

pub inputs_takes : (app : ℕ) (ps : List (List ℕ)) (more : List Act) → inputs app (takes app ps ++ more) ≡ inputs app more
unfolding inputs
inputs_takes app [] more = refl
inputs_takes app (p ∷ ps) more = inputs_takes app ps more

pub turns_takes : (app : ℕ) (ps : List (List ℕ)) (more : List Act) → (in_turns (takes app ps ++ more)).0 ≡ takes app ps ++ (in_turns more).0
turns_takes app [] more = refl
turns_takes app (p ∷ ps) more = ap (λ (x : List Act). Took app (took.Bytes p) ∷ x) (turns_takes app ps more)

pub within_takes : (app : ℕ) (ps : List (List ℕ)) → Within app (takes app ps)
within_takes app [] = tt
within_takes app (p ∷ ps) = (eq-eqb app app refl, within_takes app ps)

-- ---- Want of memory

pub broke_at_once : {Own : Type 0} {Tells : Type 0} {app : ℕ} {old new : Seen Own} (rest : List ℕ) → Wants Tells old new → Breaks Tells app rest old new
broke_at_once {app = app} {old = old} rest wants = record { unread = rest; then_seen = old; taken = Taken-refl app rest old; wants = wants }

pub Wants-refl : {Own : Type 0} {Tells : Type 0} (seen : Seen Own) → Wants Tells seen seen
Wants-refl {Tells = Tells} seen = record { continues = Continues-refl Tells seen; history = λ told. refl }

broke_taking_is : {Own : Type 0} {Tells : Type 0} {app : ℕ} {old new : Seen Own} (rest : List ℕ) → app_reading rest ≡ Ok None → Wants Tells old new ⊎ ((left : List ℕ) × TakesOne Tells app rest left old new) → Breaks Tells app rest old new
broke_taking_is rest none (inl wants) = broke_at_once rest wants
broke_taking_is {app = app} {new = new} rest none (inr one) =
    record { unread = one.0; then_seen = new; taken = Taken-one none one.1 (Taken-refl app one.0 new); wants = Wants-refl new }

pub broke_taking : {Own T E : Type 0} (Tells : Type 0) (app : ℕ) (old new : Seen Own) (rest here : List ℕ) (result : Result T E) → here ≡ rest → app_reading rest ≡ Ok None
    → OnErr result (Wants Tells old new ⊎ ((left : List ℕ) × TakesOne Tells app here left old new)) → OnErr result (Breaks Tells app rest old new)
broke_taking Tells app old new rest here result same none err =
    on_err_weaker result (broke_taking_is rest none) (subst (λ (x : List ℕ). OnErr result (Wants Tells old new ⊎ ((left : List ℕ) × TakesOne Tells app x left old new))) same err)
