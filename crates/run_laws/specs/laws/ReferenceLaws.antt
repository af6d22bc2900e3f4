-- What the reference controller does at an event, one application after the other: its parts one by one.
use Rattle.std.proofs.Common.{◌≡◌, ℕ, ◌+◌, ◌&&◌, Bool, true, false, List, [], ◌∷◌, if◌then◌else◌, refl, ap, ◌∙◌}
use Rattle.app_frames.specs.declared.frame.Event.{Event}
use Rattle.crash_policy.specs.Asking.{is_given}
use Rattle.lego_model.specs.Journal.{Reply}
use Rattle.lego_model.specs.Places.{Place}
use Rattle.lego_model.specs.Losses.{TurnLosses}
use Rattle.lego_model.specs.Packets.{Play, fresh_play}
use Rattle.lego_model.specs.Turns.{Played, turn_of}
use Rattle.lego_model.specs.Controller.{App, Had, Run, table_of, next_reply, turn, had_at, given_to}
use Rattle.run_laws.specs.ReferenceTurn.{turned_by}

-- ---- An event is given to one application after the other

abbrev behind_it : App → List App × Run → List App × Run
behind_it a rest = (a ∷ rest.0, rest.1)

abbrev had_first : (List Place → Bool) → Event → ℕ → List App → Had → List App × Run
had_first allows event i more h = if h.stops then (h.app ∷ more, h.run) else behind_it h.app (given_to allows event (i + 1) more h.run)

given_first : (allows : List Place → Bool) (event : Event) (i : ℕ) (a : App) (more : List App) (r : Run) → given_to allows event i (a ∷ more) r
    ≡ (if a.alive && is_given a.rule event.kind then had_first allows event i more (had_at allows event i a r) else behind_it a (given_to allows event (i + 1) more r))
unfolding given_to
given_first allows event i a more r = refl

-- there is none
pub given_none : (allows : List Place → Bool) (event : Event) (i : ℕ) (r : Run) → given_to allows event i [] r ≡ ([], r)
unfolding given_to
given_none allows event i r = refl

-- it is gone, or is not given such events
pub given_passed : (allows : List Place → Bool) (event : Event) (i : ℕ) (a : App) (more : List App) (r : Run) → (a.alive && is_given a.rule event.kind) ≡ false
    → given_to allows event i (a ∷ more) r ≡ (let rest = given_to allows event (i + 1) more r in (a ∷ rest.0, rest.1))
given_passed allows event i a more r dead =
    given_first allows event i a more r
    ∙ ap (λ (b : Bool). if b then had_first allows event i more (had_at allows event i a r) else behind_it a (given_to allows event (i + 1) more r)) dead

given_alive : (allows : List Place → Bool) (event : Event) (i : ℕ) (a : App) (more : List App) (r : Run) (h : Had) → (a.alive && is_given a.rule event.kind) ≡ true → had_at allows event i a r ≡ h
    → given_to allows event i (a ∷ more) r ≡ had_first allows event i more h
given_alive allows event i a more r h alive is =
    given_first allows event i a more r
    ∙ ap (λ (b : Bool). if b then had_first allows event i more (had_at allows event i a r) else behind_it a (given_to allows event (i + 1) more r)) alive
    ∙ ap (λ (x : Had). had_first allows event i more x) is

-- it has its turns, and stops the event there
pub given_stop : (allows : List Place → Bool) (event : Event) (i : ℕ) (a : App) (more : List App) (r : Run) → (a.alive && is_given a.rule event.kind) ≡ true → (h : Had) → had_at allows event i a r ≡ h → h.stops ≡ true
    → given_to allows event i (a ∷ more) r ≡ (h.app ∷ more, h.run)
given_stop allows event i a more r alive h is stops =
    given_alive allows event i a more r h alive is
    ∙ ap (λ (b : Bool). if b then (h.app ∷ more, h.run) else behind_it h.app (given_to allows event (i + 1) more h.run)) stops

-- or lets it go on
pub given_on : (allows : List Place → Bool) (event : Event) (i : ℕ) (a : App) (more : List App) (r : Run) → (a.alive && is_given a.rule event.kind) ≡ true → (h : Had) → had_at allows event i a r ≡ h → h.stops ≡ false
    → given_to allows event i (a ∷ more) r ≡ (let rest = given_to allows event (i + 1) more h.run in (h.app ∷ rest.0, rest.1))
given_on allows event i a more r alive h is goes =
    given_alive allows event i a more r h alive is
    ∙ ap (λ (b : Bool). if b then (h.app ∷ more, h.run) else behind_it h.app (given_to allows event (i + 1) more h.run)) goes

-- ---- A turn

pub turn_is : (allows : List Place → Bool) (number moment : ℕ) (event : Event) (losses : TurnLosses) (ps : List Place) (a : App) (reply : Reply) (played : Played Play) → next_reply a.replies ≡ reply
    → turn_of (table_of allows) a.rule.budget a.rest reply (fresh_play losses ps) ≡ played → turn allows number moment event losses ps a ≡ turned_by number moment event losses ps a reply played
unfolding turn
turn_is allows number moment event losses ps a reply played next is = rw (next, is) refl
