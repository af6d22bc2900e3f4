-- An object that gives all frames of a turn at its event resumes at its checkpoints, where each Done hands over one that restores the
-- state behind the event.
use Rattle.std.proofs.Common.{◌≡◌, ℕ, ◌+◌, ◌^◌, ◌<◌, true, false, List, [], ◌∷◌, ◌++◌, length, drop, Option, Some, None, Ok, Err, refl, sym, ap, subst, ◌∙◌, append_assoc, arith, inl, inr}
use Rattle.std.specs.Prelude.{MatchOption, IsTrue}
use Rattle.std.specs.List.{AllByRecursion, flat_map, list_all}
use Rattle.std.proofs.lemmas.Bool.{and_parts, cases_Bool, false≢true}
use Rattle.std.proofs.lemmas.Option.{same_Some}
use Rattle.std.proofs.lemmas.List.{append-nil, drop_at, length-append}
use Rattle.std.proofs.lemmas.List.Concat.{flat_map-append}
use Rattle.std.proofs.lemmas.Grind.{common_steps}
use Rattle.of_types.specs.Fields.{IsBytes, number_bytes}
use Rattle.of_types.specs.laws.FieldLaws.{IsBytes-drop, IsBytes-take, length-number_bytes}
use Rattle.of_types.specs.Layout.{spelled}
use Rattle.app_frames.specs.declared.frame.AppFrame.{AppFrame}
use Rattle.app_frames.specs.declared.frame.AppFrame.TheVariants.{Message, Save, Keep, Undo, Done, Ready}
use Rattle.app_frames.specs.declared.frame.Event.{Event as EventValue}
use Rattle.app_frames.specs.declared.frame.HostFrame.{HostFrame}
use Rattle.app_frames.specs.declared.frame.HostFrame.TheVariants.{Restore, Event, Answer}
use Rattle.app_frames.specs.Kinds.{number_of_app, number_of_host}
use Rattle.app_frames.specs.Reading.{Reading}
use Rattle.app_frames.specs.Spelling.{framed, app_kind, app_body_bytes, app_bytes, host_kind, host_fields, host_body_bytes, host_bytes}
use Rattle.app_frames.specs.Frames.{AppFits, AppNumbers, IsAppFrame, host_reading}
use Rattle.app_frames.specs.laws.AppLaws.{app_one}
use Rattle.app_frames.specs.laws.HostLaws.{host_at_front}
use Rattle.app_objects.specs.Machine.{Would}
use Rattle.app_objects.specs.ByEvents.{app_fits, says, read_frame, frame_in, reaction, state_after, gives_from}
use Rattle.app_objects.specs.Resuming.{given_behind, bytes_in, SameState, is_event, is_answer, IsTurn, HandsOver, IsMachine}

-- ---- What is said

pub fits_by : (frame : AppFrame) → app_fits frame ≡ true → AppFits frame
unfolding app_fits
fits_by (Message d bytes) is = (grind (arith, common_steps, is), grind (arith, common_steps, is))
fits_by Save is = tt
fits_by Keep is = tt
fits_by Undo is = tt
fits_by (Done stop (Some checkpoint)) is = grind (arith, common_steps, is)
fits_by (Done stop None) is = tt
fits_by Ready is = tt

are_frames : (said : List AppFrame) (last : AppFrame) → AllByRecursion AppNumbers said → AppNumbers last → list_all app_fits (said ++ last ∷ []) ≡ true → AllByRecursion IsAppFrame said × IsAppFrame last
are_frames [] last numbers number fit = (tt, (number, fits_by last (and_parts (app_fits last) true fit).0))
are_frames (frame ∷ said) last numbers number fit =
    let both = and_parts (app_fits frame) (list_all app_fits (said ++ last ∷ [])) fit in
    let more = are_frames said last numbers.1 number both.1 in
    (((numbers.0, fits_by frame both.0), more.0), more.1)

-- a frame has bytes
some_bytes : (frame : AppFrame) (more : List ℕ) → app_bytes frame ++ more ≡ [] → ⊥
unfolding app_bytes framed
some_bytes frame more none =
    let size : length (app_bytes frame ++ more) ≡ 0 = ap (λ (xs : List ℕ). length xs) none in
    let long = length-append (app_bytes frame) more in
    let front = length-append (number_bytes 4 (1 + length (app_body_bytes frame))) (number_bytes 1 (number_of_app (app_kind frame)) ++ app_body_bytes frame) in
    let four = length-number_bytes 4 (1 + length (app_body_bytes frame)) in
    omega (arith, size, long, front, four)

none_left : (frames : List AppFrame) (last : AppFrame) → flat_map app_bytes frames ++ app_bytes last ≡ [] → ⊥
none_left [] last e = some_bytes last [] (append-nil (app_bytes last) ∙ e)
none_left (frame ∷ frames) last e = some_bytes frame (flat_map app_bytes frames ++ app_bytes last) (sym (append_assoc (app_bytes frame) (flat_map app_bytes frames) (app_bytes last)) ∙ e)

-- where the bytes are the same, the last frame is the same
same_last : (xs ys : List AppFrame) (f g : AppFrame) → AllByRecursion IsAppFrame xs → AllByRecursion IsAppFrame ys → IsAppFrame f → IsAppFrame g
    → flat_map app_bytes xs ++ app_bytes f ≡ flat_map app_bytes ys ++ app_bytes g → f ≡ g
same_last [] [] f g are are' is is' e = (app_one f g [] [] is is' (append-nil (app_bytes f) ∙ e ∙ sym (append-nil (app_bytes g)))).0
same_last [] (y ∷ ys) f g are are' is is' e =
    let apart = app_one f y [] (flat_map app_bytes ys ++ app_bytes g) is are'.0 (append-nil (app_bytes f) ∙ e ∙ append_assoc (app_bytes y) (flat_map app_bytes ys) (app_bytes g)) in
    absurd (none_left ys g (sym apart.1))
same_last (x ∷ xs) [] f g are are' is is' e =
    let apart = app_one x g (flat_map app_bytes xs ++ app_bytes f) [] are.0 is' (sym (append_assoc (app_bytes x) (flat_map app_bytes xs) (app_bytes f)) ∙ e ∙ sym (append-nil (app_bytes g))) in
    absurd (none_left xs f apart.1)
same_last (x ∷ xs) (y ∷ ys) f g are are' is is' e =
    let apart = app_one x y (flat_map app_bytes xs ++ app_bytes f) (flat_map app_bytes ys ++ app_bytes g) are.0 are'.0
    (sym (append_assoc (app_bytes x) (flat_map app_bytes xs) (app_bytes f)) ∙ e ∙ append_assoc (app_bytes y) (flat_map app_bytes ys) (app_bytes g)) in
    same_last xs ys f g are.1 are'.1 is is' apart.1

abbrev checkpoint_in : AppFrame → Option (List ℕ)
checkpoint_in (Done stop checkpoint) = checkpoint
checkpoint_in other = None

-- ---- Events of bytes

-- what an event that was read from bytes has
pub record IsRead (event : EventValue) : Type 0 where
  pub dpid : event.dpid < 2 ^ 64
  pub body : IsBytes event.body

behind : (xs ys : List ℕ) → IsBytes (xs ++ ys) → IsBytes ys
behind xs ys fit = subst IsBytes (drop_at xs ys (length xs) refl) (IsBytes-drop (length xs) (xs ++ ys) fit)

found : (reading : Reading (HostFrame × ℕ)) (frame : HostFrame) → read_frame reading ≡ Some frame → (size : ℕ) × (reading ≡ Ok (Some (frame, size)))
found (Ok (Some pair)) frame e = (pair.1, ap (λ (f : HostFrame). Ok (Some (f, pair.1))) (same_Some _ _ e))
found (Ok None) frame e = absurd cc
found (Err fault) frame e = absurd cc

event_read : (bytes : List ℕ) (count moment : ℕ) (event : EventValue) → IsBytes bytes → frame_in bytes ≡ Some (Event count moment event) → IsRead event
unfolding frame_in host_bytes framed host_body_bytes
event_read bytes count moment event fit e =
    let there = found (host_reading bytes) (Event count moment event) e in
    let front = host_at_front bytes (Event count moment event) there.0 fit there.1 in
    let frame : HostFrame = Event count moment event in
    let whole : IsBytes (host_bytes frame) = subst IsBytes (sym front.spelled_is) (IsBytes-take there.0 bytes fit) in
    record {
      dpid = front.well_formed.0.2;
      body = behind (spelled (host_fields frame)) event.body (behind (number_bytes 1 (number_of_host (host_kind frame))) (host_body_bytes frame) (behind (number_bytes 4 (1 + length (host_body_bytes frame))) _ whole));
    }

-- ---- Where it stands

-- Each Done hands over a checkpoint, and this restores the state behind the event.
pub record Resumes {S : Type 0} (answers : EventValue → S → List AppFrame) (after : EventValue → S → S) (restored : List ℕ → S) (IsState : S → Type 0) : Type 0 where
  pub first : (checkpoint : List ℕ) → IsBytes checkpoint → IsState (restored checkpoint)
  pub next : (event : EventValue) (s : S) → IsRead event → IsState s → IsState (after event s)
  pub said : EventValue → S → List AppFrame
  pub checkpoint : S → List ℕ
  pub numbers : (event : EventValue) (s : S) → event.dpid < 2 ^ 64 → AllByRecursion AppNumbers (said event s)
  pub done : (event : EventValue) (s : S) → answers event s ≡ said event s ++ Done false (Some (checkpoint (after event s))) ∷ []
  pub back : (s : S) → IsState s → restored (checkpoint s) ≡ s

module _ {S : Type 0} (answers : EventValue → S → List AppFrame) (after : EventValue → S → S) where
  abbrev states : S → List (List ℕ) → S
  states s [] = s
  states s (frame ∷ frames) = states (state_after after (frame_in frame) s) frames

  behind_frames : (came frames : List (List ℕ)) (s : S) → drop (length came) (gives_from answers after s (came ++ frames)) ≡ gives_from answers after (states s came) frames
  behind_frames [] frames s = refl
  behind_frames (frame ∷ came) frames s = behind_frames came frames (state_after after (frame_in frame) s)

  states-append : (came turn : List (List ℕ)) (s : S) → states s (came ++ turn) ≡ states (states s came) turn
  states-append [] turn s = refl
  states-append (frame ∷ came) turn s = states-append came turn (state_after after (frame_in frame) s)

  good_after : (IsState : S → Type 0) (frame : Option HostFrame) (s : S) → ((count moment : ℕ) (event : EventValue) → frame ≡ Some (Event count moment event) → IsState (after event s)) → IsState s
      → IsState (state_after after frame s)
  good_after IsState (Some (Event count moment event)) s next is = next count moment event refl
  good_after IsState (Some (Restore checkpoint)) s next is = is
  good_after IsState (Some (Answer answer)) s next is = is
  good_after IsState None s next is = is

  -- ---- Answers

  nothing_at : (frame : Option HostFrame) (s : S) → IsTrue (is_answer frame) → ((reaction answers frame s).bytes ≡ []) × (state_after after frame s ≡ s)
  nothing_at (Some (Event count moment event)) s is = absurd (false≢true is)
  nothing_at (Some (Restore checkpoint)) s is = absurd (false≢true is)
  nothing_at (Some (Answer answer)) s is = (refl, refl)
  nothing_at None s is = absurd (false≢true is)

  after_answers : (frames : List (List ℕ)) (s : S) → AllByRecursion (λ frame. IsTrue (is_answer (frame_in frame))) frames → states s frames ≡ s
  after_answers [] s all = refl
  after_answers (frame ∷ frames) s all = ap (λ (t : S). states t frames) (nothing_at (frame_in frame) s all.0).1 ∙ after_answers frames s all.1

  at_answers : (frames : List (List ℕ)) (s : S) → AllByRecursion (λ frame. IsTrue (is_answer (frame_in frame))) frames → bytes_in (gives_from answers after s frames) ≡ []
  at_answers [] s all = refl
  at_answers (frame ∷ frames) s all =
      let here = nothing_at (frame_in frame) s all.0 in
      ap (λ (bytes : List ℕ). bytes ++ bytes_in (gives_from answers after (state_after after (frame_in frame) s) frames)) here.0
      ∙ ap (λ (t : S). bytes_in (gives_from answers after t frames)) here.1
      ∙ at_answers frames s all.1

  -- ---- Events

  the_event : (frame : Option HostFrame) → IsTrue (is_event frame) → (event : EventValue) × (count : ℕ) × (moment : ℕ) × (frame ≡ Some (Event count moment event))
  the_event (Some (Event count moment event)) is = (event, count, moment, refl)
  the_event (Some (Restore checkpoint)) is = absurd (false≢true is)
  the_event (Some (Answer answer)) is = absurd (false≢true is)
  the_event None is = absurd (false≢true is)

said_when : (frames front : List AppFrame) (last : AppFrame) → AllByRecursion IsAppFrame front → IsAppFrame last → (says frames).bytes ≡ flat_map app_bytes front ++ app_bytes last
    → (list_all app_fits frames ≡ true) × (flat_map app_bytes frames ≡ flat_map app_bytes front ++ app_bytes last)
unfolding says
said_when frames front last are is e = elim (cases_Bool (list_all app_fits frames)) [
  | inl fit ↦ (fit, rw fit at e)
  | inr not ↦ absurd (none_left front last (sym (rw not at e)))
]

-- ---- The whole

-- Of a state, by an event and answers: what it gave, and where it stands then.
record TurnEnded {S : Type 0} (answers : EventValue → S → List AppFrame) (after : EventValue → S → S) (turn : List (List ℕ)) (s : S) : Type 0 where
  event : EventValue
  read : IsRead event
  stands : states answers after s turn ≡ after event s
  bytes : bytes_in (gives_from answers after s turn) ≡ (says (answers event s)).bytes

turn_ended : {S : Type 0} (answers : EventValue → S → List AppFrame) (after : EventValue → S → S) (turn : List (List ℕ)) (s : S) → AllByRecursion IsBytes turn → IsTurn turn → TurnEnded answers after turn s
turn_ended answers after [] s fit is = absurd is
turn_ended answers after (frame ∷ frames) s fit is =
    let found = the_event answers after (frame_in frame) is.0 in
    let event = found.0 in
    let stands : state_after after (frame_in frame) s ≡ after event s = ap (λ (f : Option HostFrame). state_after after f s) found.3 in
    let here : (reaction answers (frame_in frame) s).bytes ≡ (says (answers event s)).bytes = ap (λ (f : Option HostFrame). (reaction answers f s).bytes) found.3 in
    record {
      event = event;
      read = event_read frame found.1 found.2 event fit.0 found.3;
      stands = ap (λ (t : _). states answers after t frames) stands ∙ after_answers answers after frames (after event s) is.1;
      bytes = ap (λ (t : _). (reaction answers (frame_in frame) s).bytes ++ bytes_in (gives_from answers after t frames)) stands
          ∙ ap (λ (more : List ℕ). (reaction answers (frame_in frame) s).bytes ++ more) (at_answers answers after frames (after event s) is.1)
          ∙ append-nil _ ∙ here;
    }

module _ {S : Type 0} (answers : EventValue → S → List AppFrame) (after : EventValue → S → S) (restored : List ℕ → S) (IsState : S → Type 0) (by : Resumes answers after restored IsState) where
  abbrev would_by : Would
  would_by checkpoint frames = gives_from answers after (restored checkpoint) frames

  states_good : (frames : List (List ℕ)) (s : S) → AllByRecursion IsBytes frames → IsState s → IsState (states answers after s frames)
  states_good [] s fit is = is
  states_good (frame ∷ frames) s fit is =
      states_good frames (state_after after (frame_in frame) s) fit.1
      (good_after answers after IsState (frame_in frame) s (λ count moment event e. by.next event s (event_read frame count moment event fit.0 e) is) is)

  -- what was handed over restores the state then
  handed_over : (checkpoint : List ℕ) (came turn : List (List ℕ)) (handed : Option (List ℕ)) → IsBytes checkpoint → AllByRecursion IsBytes came → AllByRecursion IsBytes turn → IsTurn turn
      → HandsOver would_by checkpoint came turn handed
      → (c : List ℕ) × (handed ≡ Some c) × (restored c ≡ states answers after (restored checkpoint) (came ++ turn))
  handed_over checkpoint came turn handed fit came_fit turn_fit is hands =
      let s = states answers after (restored checkpoint) came in
      let good = states_good came (restored checkpoint) came_fit (by.first checkpoint fit) in
      let ended = turn_ended answers after turn s turn_fit is in
      let event = ended.event in
      let given : bytes_in (given_behind would_by checkpoint came turn) ≡ (says (answers event s)).bytes =
      ap bytes_in (behind_frames answers after came turn (restored checkpoint)) ∙ ended.bytes in
      let c = by.checkpoint (after event s) in
      let last : AppFrame = Done false (Some c) in
      let said = said_when (answers event s) hands.said (Done hands.stop handed) hands.frames hands.done (sym given ∙ hands.bytes) in
      let all_fit : list_all app_fits (by.said event s ++ last ∷ []) ≡ true = subst (λ (frames : List AppFrame). list_all app_fits frames ≡ true) (by.done event s) said.0 in
      let frames = are_frames (by.said event s) last (by.numbers event s ended.read.dpid) tt all_fit in
      let spelled_so : flat_map app_bytes hands.said ++ app_bytes (Done hands.stop handed) ≡ flat_map app_bytes (by.said event s) ++ app_bytes last =
      sym said.1 ∙ ap (λ (frames : List AppFrame). flat_map app_bytes frames) (by.done event s) ∙ flat_map-append app_bytes (by.said event s) (last ∷ [])
      ∙ ap (λ (xs : List ℕ). flat_map app_bytes (by.said event s) ++ xs) (append-nil (app_bytes last)) in
      let same = same_last hands.said (by.said event s) (Done hands.stop handed) last hands.frames frames.0 hands.done frames.1 spelled_so in (
        c,
        ap checkpoint_in same,
        by.back (after event s) (by.next event s ended.read good) ∙ sym ended.stands ∙ sym (states-append answers after came turn (restored checkpoint)),
      )

  quiet_behind : (checkpoint : List ℕ) (came : List (List ℕ)) (answer : List ℕ) → IsTrue (is_answer (frame_in answer)) → bytes_in (given_behind would_by checkpoint came (answer ∷ [])) ≡ []
  quiet_behind checkpoint came answer is =
      ap bytes_in (behind_frames answers after came (answer ∷ []) (restored checkpoint)) ∙ at_answers answers after (answer ∷ []) (states answers after (restored checkpoint) came) (is, tt)

  -- it is a machine
  pub IsMachine-by : IsMachine would_by
  IsMachine-by = record {
    resumes = λ checkpoint came turn handed fit came_fit turn_fit is hands.
        let over = handed_over checkpoint came turn handed fit came_fit turn_fit is hands in
        subst (λ (o : Option (List ℕ)). MatchOption o ⊥ (λ c. SameState would_by checkpoint (came ++ turn) c [])) (sym over.1)
        (λ frames. behind_frames answers after (came ++ turn) frames (restored checkpoint) ∙ ap (λ (s : S). gives_from answers after s frames) (sym over.2));
    quiet = λ checkpoint came turn handed answer is answers_is hands. quiet_behind checkpoint (came ++ turn) answer answers_is;
  }
