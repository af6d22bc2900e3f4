-- Laws of a history that keeps to the scripts: each act of an application is one that its lines say may come.
use Rattle.std.specs.Prelude.{filter}
use Rattle.journal_laws.specs.laws.FrameLaws.{kind_byte}
use Rattle.std.specs.List.{AllByRecursion}
use Rattle.std.proofs.Common.{◌≡◌, ◌==◌, ◌≤◌, ◌+◌, ℕ, Bool, true, false, not, List, [], ◌∷◌, length, drop, refl, sym, ap, ap₂, ◌∙◌, subst, true≢false, Ok, Some, None, is_some, if◌then◌else◌}
use Rattle.std.proofs.lemmas.Bool.{eqb-true}
use Rattle.std.proofs.Math.Bool.{and-true}
use Rattle.of_types.specs.declared.journal.Act.{Act}
use Rattle.of_types.specs.declared.journal.Act.TheVariants.{Stim, Started, Gave, Gone, Took, Ended, Sent, Got, Lost}
use Rattle.of_types.specs.declared.journal.TookWhat.{TookWhat}
use Rattle.of_types.specs.declared.journal.TookWhat.TheVariants as took
use Rattle.app_frames.specs.declared.frame.AppFrame.{AppFrame}
use Rattle.app_frames.specs.declared.frame.AppFrame.TheVariants as frames
use Rattle.app_frames.specs.Reading.{Reading}
use Rattle.app_frames.specs.Frames.{app_reading}
use Rattle.app_frames.specs.declared.script.ScriptStep.{ScriptStep}
use Rattle.app_frames.specs.declared.script.StartScript.{StartScript}
use Rattle.lego_model.specs.Journal.{is_of, is_event}
use Rattle.lego_model.specs.AtOnce.{Before, attempted, besides, took_piece, took_end, LooksFor, is_answer, GivesFrame, Says, Dialogue, AtOnce, at_first}
use Rattle.lego_model.specs.Scripted.{starts_said, replies_said, AreFronts, AreStartFronts}
use Rattle.lego_model.specs.History.{starts_in, replies_in}
use Rattle.outside.specs.declared.call.CallKind.{CallKind}
use Rattle.outside.specs.declared.call.CallKind.TheVariants as kinds
use Rattle.outside.specs.declared.step.WorldStep.{WorldStep}
use Rattle.outside.specs.declared.step.WorldStep.TheVariants.{Acted, TookInto, From, Joined, Left, Moment, Idle, End, Opened, NotOpened, NextFailed, SendLost, RecvLost, SendFailed, RecvFailed}
use Rattle.outside.specs.Seen.{journal}
use Rattle.outside.specs.State.{event_number}
use Rattle.sim_world.specs.Told.{is_told}
use Rattle.sim_world.specs.Scripts.{Scripts, Life, fresh, starts_of, replies_of, start_or_ready, turn_or_plain, steps_of_start, next_start, next_turn, is_refused, start_reached, will_start, will_give, take_fault, next_taken, after_start, after_gave, after_gone, after_take, after_end, life_after, lives_after, IsScripted, AreScripted, all_fresh, KeepsScripts}
use Rattle.sim_world.specs.laws.ScriptLaws.{fault-none, taken-left, kept-left}
use Rattle.sim_world.specs.laws.LifeLaws.{drop-next, slice_get-drop, after_start-refused}
use Rattle.script_laws.specs.Ahead.{HasRoom, Ahead, start_ahead, turn_ahead, is_end, after, May, Goes}
use Rattle.script_laws.specs.laws.ReadLaws.{reads, replies_all, not_true}

-- ---- Events

is_number : (bytes : List ℕ) → is_event bytes ≡ true → is_some (event_number bytes) ≡ true
unfolding event_number
is_number bytes is = rw (kind_byte bytes, is) refl

no_number : (bytes : List ℕ) → is_event bytes ≡ false → is_some (event_number bytes) ≡ false
unfolding event_number
no_number bytes is = rw (kind_byte bytes, is) refl

-- a whole frame stands at the front, or none
whole_or_none : (read : Reading (AppFrame × ℕ)) (x : AppFrame × ℕ) → read ≡ Ok (Some x) → read ≡ Ok None → ⊥
whole_or_none read x is none = absurd cc

-- ---- Calls of which none is told to fail

none_told : (kind : CallKind) (of n : ℕ) → is_told kind of n [] ≡ false
unfolding is_told
none_told kind of n = refl

reached : (app : ℕ) (l : Life) → l.running ≡ false → start_reached [] app l ≡ true
reached app l stopped = rw (stopped, none_told kinds.Start app (l.start_calls + 1)) refl

starts_by : (own : Scripts) (app : ℕ) (l : Life) → l.running ≡ false → will_start own [] app l ≡ not (is_refused (next_start own app l))
unfolding will_start
starts_by own app l stopped = rw (reached app l stopped) refl

gives_by : (app : ℕ) (l : Life) → will_give [] app l ≡ l.running
unfolding will_give
gives_by app l = rw (none_told kinds.Give app (l.give_calls + 1)) (and-true l.running)

-- ---- One application

module _ (own : Scripts) (app : ℕ) where
  -- what its lines have yet to say
  abbrev ahead : Life → Bool → Ahead
  ahead l ended = record { running = l.running; ended = ended; starts = drop l.starts (starts_of app own); replies = drop l.replies (replies_of app own); left = l.left }

  start_is : (l : Life) → start_ahead (drop l.starts (starts_of app own)) ≡ next_start own app l
  unfolding next_start
  start_is l = ap start_or_ready (slice_get-drop (starts_of app own) l.starts)

  turn_is : (l : Life) → turn_ahead (drop l.replies (replies_of app own)) ≡ next_turn own app l
  unfolding next_turn
  turn_is l = ap turn_or_plain (slice_get-drop (replies_of app own) l.replies)

  -- A life stands as the dialogue has it; where its end was taken, no whole frame is unread.
  record Stands (l : Life) (s : Before) : Type 0 where
    running : l.running ≡ s.running
    waits : s.ended ≡ true → app_reading s.unread ≡ Ok None

  -- an act may come, and what is ahead then is so of the life after it
  record Moved (act : Act) (l next : Life) (s t : Before) : Type 0 where
    may : May act (ahead l s.ended)
    ahead_is : after act (ahead l s.ended) ≡ ahead next t.ended
    stands : Stands next t

  -- ---- A start

  ready_is : (of : ℕ) (ended : Bool) (l : Life) → after (Started of true) (ahead l ended) ≡ ahead (after_start own [] app true l) false
  unfolding after_start
  ready_is of ended l =
      ap₂ (λ (starts : List StartScript) (left : List ScriptStep). record { running = true; ended = false; starts = starts; replies = drop l.replies (replies_of app own); left = left })
      (sym (drop-next (starts_of app own) l.starts)) (ap steps_of_start (start_is l))

  refused_is : (of : ℕ) (ended : Bool) (l : Life) → l.running ≡ false → is_refused (next_start own app l) ≡ true → after (Started of false) (ahead l ended) ≡ ahead (after_start own [] app false l) false
  refused_is of ended l stopped refused =
      let same : after_start own [] app false l ≡ record l { starts = l.starts + 1; start_calls = l.start_calls + 1 } = after_start-refused own [] app l (rw (reached app l stopped, refused) refl) in
      ap₂ (λ (running : Bool) (starts : List StartScript). record { running = running; ended = false; starts = starts; replies = drop l.replies (replies_of app own); left = l.left })
      (sym stopped) (sym (drop-next (starts_of app own) l.starts))
      ∙ ap (λ (m : Life). ahead m false) (sym same)

  started_may : (of : ℕ) (stands : Bool) (ended : Bool) (l : Life) → l.running ≡ false → stands ≡ will_start own [] app l → May (Started of stands) (ahead l ended)
  started_may of stands ended l stopped is = (stopped, is ∙ starts_by own app l stopped ∙ ap (λ (s : StartScript). not (is_refused s)) (sym (start_is l)))

  stopped_still : (l : Life) → l.running ≡ false → (after_start own [] app false l).running ≡ false
  unfolding after_start
  stopped_still l stopped = stopped

  starts_running : (l : Life) → (after_start own [] app true l).running ≡ true
  unfolding after_start
  starts_running l = refl

  own_started : (of : ℕ) (stands : Bool) (l : Life) (s : Before) → Stands l s → s.running ≡ false → stands ≡ will_start own [] app l → Moved (Started of stands) l (after_start own [] app stands l) s (attempted stands)
  own_started of true l s so stopped is = record {
    may = started_may of true s.ended l (so.running ∙ stopped) is;
    ahead_is = ready_is of s.ended l;
    stands = record { running = starts_running l; waits = λ e. absurd (true≢false (sym e)) };
  }
  own_started of false l s so stopped is =
      let idle = so.running ∙ stopped in
      record {
        may = started_may of false s.ended l idle is;
        ahead_is = refused_is of s.ended l idle (not_true (is_refused (next_start own app l)) (is ∙ starts_by own app l idle));
        stands = record { running = stopped_still l idle; waits = λ e. absurd (true≢false (sym e)) };
      }

  -- ---- A take

  plain_take : (l : Life) → l.running ≡ true → take_fault [] app l ≡ None
  plain_take l runs = fault-none [] app l (rw (runs, none_told kinds.TakeClosed app (l.take_calls + 1)) refl) (none_told kinds.TakeSilent app (l.take_calls + 1))

  took_may : (of : ℕ) (what : TookWhat) (ended : Bool) (l : Life) → l.running ≡ true → ended ≡ false → what ≡ next_taken [] app 65536 l → May (Took of what) (ahead l ended)
  took_may of what ended l runs more is = (runs, (more, is ∙ taken-left [] app 65536 l (plain_take l runs)))

  took_is : (of : ℕ) (what : TookWhat) (ended : Bool) (l : Life) → l.running ≡ true → after (Took of what) (ahead l ended) ≡ ahead (after_take [] app what l) (is_end what)
  took_is of what ended l runs = ap (λ (m : Life). ahead m (is_end what)) (sym (kept-left [] app l what (plain_take l runs)))

  still_runs : (what : TookWhat) (l : Life) → (after_take [] app what l).running ≡ l.running
  unfolding after_take
  still_runs what l = refl

  own_piece : (of : ℕ) (bytes : List ℕ) (l : Life) (s : Before) → Stands l s → took.Bytes bytes ≡ next_taken [] app 65536 l → s.running ≡ true → LooksFor s
      → Moved (Took of (took.Bytes bytes)) l (after_take [] app (took.Bytes bytes) l) s (took_piece s bytes (Took of (took.Bytes bytes)))
  own_piece of bytes l s so is runs looks =
      let up : l.running ≡ true = so.running ∙ runs in
      record {
        may = took_may of (took.Bytes bytes) s.ended l up looks.not_ended is;
        ahead_is = took_is of (took.Bytes bytes) s.ended l up ∙ ap (λ (e : Bool). ahead (after_take [] app (took.Bytes bytes) l) e) (sym looks.not_ended);
        stands = record { running = still_runs (took.Bytes bytes) l ∙ so.running; waits = λ e. absurd (true≢false (sym e ∙ looks.not_ended)) };
      }

  own_end : (of : ℕ) (what : TookWhat) (l : Life) (s : Before) → is_end what ≡ true → Stands l s → what ≡ next_taken [] app 65536 l → s.running ≡ true → LooksFor s
      → Moved (Took of what) l (after_take [] app what l) s (took_end s (Took of what))
  own_end of what l s end so is runs looks =
      let up : l.running ≡ true = so.running ∙ runs in
      record {
        may = took_may of what s.ended l up looks.not_ended is;
        ahead_is = took_is of what s.ended l up ∙ ap (λ (e : Bool). ahead (after_take [] app what l) e) end;
        stands = record { running = still_runs what l ∙ so.running; waits = λ e. looks.none_whole };
      }

  own_took : (of : ℕ) (what : TookWhat) (l : Life) (s t : Before) → Stands l s → what ≡ next_taken [] app 65536 l → Says true (Took of what) s t → Moved (Took of what) l (after_take [] app what l) s t
  own_took of (took.Bytes bytes) l s t so is says =
      subst (λ (b : Before). Moved (Took of (took.Bytes bytes)) l (after_take [] app (took.Bytes bytes) l) s b) (sym says.1.1) (own_piece of bytes l s so is says.0 says.1.0)
  own_took of took.Closed l s t so is says =
      subst (λ (b : Before). Moved (Took of took.Closed) l (after_take [] app took.Closed l) s b) (sym says.1.1) (own_end of took.Closed l s refl so is says.0 says.1.0)
  own_took of took.Silent l s t so is says =
      subst (λ (b : Before). Moved (Took of took.Silent) l (after_take [] app took.Silent l) s b) (sym says.1.1) (own_end of took.Silent l s refl so is says.0 says.1.0)

  -- ---- A frame

  event_is : (of : ℕ) (frame : List ℕ) (ended : Bool) (l : Life) → is_event frame ≡ true → after (Gave of frame) (ahead l ended) ≡ ahead (after_gave own app true l) false
  unfolding after_gave
  event_is of frame ended l event =
      rw event
      (ap₂ (λ (replies : List (List ScriptStep)) (left : List ScriptStep). record { running = l.running; ended = false; starts = drop l.starts (starts_of app own); replies = replies; left = left })
      (sym (drop-next (replies_of app own) l.replies)) (turn_is l))

  frame_is : (of : ℕ) (frame : List ℕ) (ended : Bool) (l : Life) → is_event frame ≡ false → after (Gave of frame) (ahead l ended) ≡ ahead (after_gave own app false l) ended
  unfolding after_gave
  frame_is of frame ended l other = rw other refl

  gave_runs : (event : Bool) (l : Life) → (after_gave own app event l).running ≡ l.running
  unfolding after_gave
  gave_runs true l = refl
  gave_runs false l = refl

  -- what is given leaves an application that runs and whose bytes have not ended; behind their end it is an Event
  record Given (frame : List ℕ) (s t : Before) : Type 0 where
    running : t.running ≡ true
    ended : t.ended ≡ false
    within : is_event frame ≡ false → s.ended ≡ false

  given_frame : (answer : Bool) (frame : List ℕ) (s t : Before) → is_answer frame ≡ answer → (s.ended ≡ true → app_reading s.unread ≡ Ok None) → GivesFrame answer frame s t → Given frame s t
  given_frame true frame s t is waits gives = record {
    running = ap (λ (b : Before). b.running) gives.then_is;
    ended = ap (λ (b : Before). b.ended) gives.then_is;
    within = λ other. not_ended s.ended refl;
  }
    where
      not_ended : (b : Bool) → s.ended ≡ b → s.ended ≡ false
      not_ended false e = e
      not_ended true e = absurd (whole_or_none (app_reading s.unread) (frames.Message gives.dpid gives.bytes, gives.size) gives.read (waits e))
  given_frame false frame s t is waits gives = record { running = gives.running_is; ended = gives.ended_is; within = gives.not_ended }

  own_given : (of : ℕ) (frame : List ℕ) (event : Bool) (l : Life) (s t : Before) → is_event frame ≡ event → Stands l s → s.running ≡ true → Given frame s t → Moved (Gave of frame) l (after_gave own app event l) s t
  own_given of frame true l s t is so runs given = record {
    may = so.running ∙ runs;
    ahead_is = event_is of frame s.ended l is ∙ ap (λ (e : Bool). ahead (after_gave own app true l) e) (sym given.ended);
    stands = record { running = gave_runs true l ∙ so.running ∙ runs ∙ sym given.running; waits = λ e. absurd (true≢false (sym e ∙ given.ended)) };
  }
  own_given of frame false l s t is so runs given = record {
    may = so.running ∙ runs;
    ahead_is = frame_is of frame s.ended l is ∙ ap (λ (e : Bool). ahead (after_gave own app false l) e) (given.within is ∙ sym given.ended);
    stands = record { running = gave_runs false l ∙ so.running ∙ runs ∙ sym given.running; waits = λ e. absurd (true≢false (sym e ∙ given.ended)) };
  }

  event_same : (frame : List ℕ) (event : Bool) → is_event frame ≡ event → is_some (event_number frame) ≡ event
  event_same frame true is = is_number frame is
  event_same frame false is = no_number frame is

  own_gave : (of : ℕ) (frame : List ℕ) (l : Life) (s t : Before) → Stands l s → Says true (Gave of frame) s t → Moved (Gave of frame) l (after_gave own app (is_some (event_number frame)) l) s t
  own_gave of frame l s t so says =
      subst (λ (event : Bool). Moved (Gave of frame) l (after_gave own app event l) s t) (sym (event_same frame (is_event frame) refl))
      (own_given of frame (is_event frame) l s t refl so says.0 (given_frame (is_answer frame) frame s t refl so.waits says.1))

  -- ---- An end

  own_ended : (of : ℕ) (l : Life) (s t : Before) → Stands l s → Says true (Ended of) s t → Moved (Ended of) l (after_end l) s t
  unfolding after_end
  own_ended of l s t so says =
      subst (λ (b : Before). Moved (Ended of) l (after_end l) s b) (sym says.1) (record { may = so.running ∙ says.0; ahead_is = refl; stands = record { running = refl; waits = so.waits } })

  -- ---- One act, of the application or not

  record GoesOn (act : Act) (l next : Life) (s t : Before) : Type 0 where
    stands : Stands next t
    goes : (acts : List Act) → Goes (ahead next t.ended) (filter (is_of app) acts) → Goes (ahead l s.ended) (filter (is_of app) (act ∷ acts))

  by_own : (act : Act) (l next : Life) (s t : Before) → is_of app act ≡ true → Moved act l next s t → GoesOn act l next s t
  by_own act l next s t is m = record {
    stands = m.stands;
    goes = λ acts rest. rw is (m.may, subst (λ (p : Ahead). Goes p (filter (is_of app) acts)) (sym m.ahead_is) rest);
  }

  by_other : (act : Act) (l : Life) (s t : Before) → is_of app act ≡ false → Stands l s → t ≡ besides s act → GoesOn act l l s t
  by_other act l s t is so says = subst (λ (b : Before). GoesOn act l l s b) (sym says) (record { stands = record { running = so.running; waits = so.waits }; goes = λ acts rest. rw is rest })

  -- of one application or another
  by_test : (of : ℕ) (act : Act) (l next : Life) (s t : Before) → is_of app act ≡ (of == app) → Stands l s → Says (is_of app act) act s t → (of ≡ app → Says true act s t → Moved act l next s t)
      → GoesOn act l (if of == app then next else l) s t
  by_test of act l next s t is so says own_is = elim (of == app) as (λ (b : Bool). (of == app) ≡ b → GoesOn act l (if b then next else l) s t) [
    | true ↦ λ e. by_own act l next s t (is ∙ e) (own_is (eqb-true of app e) (subst (λ (b : Bool). Says b act s t) (is ∙ e) says))
    | false ↦ λ e. by_other act l s t (is ∙ e) so (subst (λ (b : Bool). Says b act s t) (is ∙ e) says)
  ] refl

  act_goes_on : (act : Act) (lives : ℕ → Life) (s t : Before) → Stands (lives app) s → IsScripted own [] (Acted act) lives → Says (is_of app act) act s t → GoesOn act (lives app) (life_after own [] app (Acted act) (lives app)) s t
  unfolding IsScripted life_after
  act_goes_on (Started of stands) lives s t so is says =
      by_test of (Started of stands) (lives app) (after_start own [] app stands (lives app)) s t refl so says
      (λ e own_says. subst (λ (b : Before). Moved (Started of stands) (lives app) (after_start own [] app stands (lives app)) s b) (sym own_says.1)
      (own_started of stands (lives app) s so own_says.0 (subst (λ (a : ℕ). stands ≡ will_start own [] a (lives a)) e is)))
  act_goes_on (Gave of frame) lives s t so is says =
      by_test of (Gave of frame) (lives app) (after_gave own app (is_some (event_number frame)) (lives app)) s t refl so says (λ e own_says. own_gave of frame (lives app) s t so own_says)
  act_goes_on (Gone of frame) lives s t so is says =
      by_test of (Gone of frame) (lives app) (after_gone (lives app)) s t refl so says
      (λ e own_says. absurd (true≢false (sym (so.running ∙ own_says.0) ∙ sym (gives_by app (lives app)) ∙ subst (λ (a : ℕ). will_give [] a (lives a) ≡ false) e is)))
  act_goes_on (Ended of) lives s t so is says =
      by_test of (Ended of) (lives app) (after_end (lives app)) s t refl so says (λ e own_says. own_ended of (lives app) s t so own_says)
  act_goes_on (Took of what) lives s t so is says = absurd is
  act_goes_on (Stim x) lives s t so is says = by_other (Stim x) (lives app) s t refl so says
  act_goes_on (Sent d bytes) lives s t so is says = by_other (Sent d bytes) (lives app) s t refl so says
  act_goes_on (Got d bytes) lives s t so is says = by_other (Got d bytes) (lives app) s t refl so says
  act_goes_on (Lost d) lives s t so is says = by_other (Lost d) (lives app) s t refl so says

  take_goes_on : (of : ℕ) (what : TookWhat) (room : ℕ) (lives : ℕ → Life) (s t : Before) → Stands (lives app) s → room ≡ 65536 → IsScripted own [] (TookInto of what room) lives → Says (is_of app (Took of what)) (Took of what) s t
      → GoesOn (Took of what) (lives app) (life_after own [] app (TookInto of what room) (lives app)) s t
  unfolding IsScripted life_after
  take_goes_on of what room lives s t so full is says =
      by_test of (Took of what) (lives app) (after_take [] app what (lives app)) s t refl so says
      (λ e own_says. own_took of what (lives app) s t so
      (subst (λ (n : ℕ). what ≡ next_taken [] app n (lives app)) full (subst (λ (a : ℕ). what ≡ next_taken [] a room (lives a)) e is)) own_says)

  -- ---- A history

  abbrev own_acts : List WorldStep → List Act
  own_acts steps = filter (is_of app) (journal steps)

  follows : (steps : List WorldStep) (lives : ℕ → Life) (s t : Before) → Stands (lives app) s → AreScripted own [] steps lives → AllByRecursion HasRoom steps → Dialogue app s (journal steps) t
      → Goes (ahead (lives app) s.ended) (filter (is_of app) (journal steps))
  unfolding journal life_after
  follows [] lives s t so are rooms said = tt
  follows (Acted act ∷ steps) lives s t so are rooms said =
      let on = act_goes_on act lives s said.0 so are.0 said.1.0 in
      on.goes (journal steps) (follows steps (lives_after own [] (Acted act) lives) said.0 t on.stands are.1 rooms.1 said.1.1)
  follows (TookInto of what room ∷ steps) lives s t so are rooms said =
      let on = take_goes_on of what room lives s said.0 so rooms.0 are.0 said.1.0 in
      on.goes (journal steps) (follows steps (lives_after own [] (TookInto of what room) lives) said.0 t on.stands are.1 rooms.1 said.1.1)
  follows (From d bytes ∷ steps) lives s t so are rooms said =
      let on = by_other (Got d bytes) (lives app) s said.0 refl so said.1.0 in
      on.goes (journal steps) (follows steps (lives_after own [] (From d bytes) lives) said.0 t on.stands are.1 rooms.1 said.1.1)
  follows (Joined d bytes ∷ steps) lives s t so are rooms said = follows steps (lives_after own [] (Joined d bytes) lives) s t so are.1 rooms.1 said
  follows (Left d ∷ steps) lives s t so are rooms said = follows steps (lives_after own [] (Left d) lives) s t so are.1 rooms.1 said
  follows (Moment m ∷ steps) lives s t so are rooms said = follows steps (lives_after own [] (Moment m) lives) s t so are.1 rooms.1 said
  follows (Idle ∷ steps) lives s t so are rooms said = follows steps (lives_after own [] Idle lives) s t so are.1 rooms.1 said
  follows (End ∷ steps) lives s t so are rooms said = follows steps (lives_after own [] End lives) s t so are.1 rooms.1 said
  follows (Opened ∷ steps) lives s t so are rooms said = follows steps (lives_after own [] Opened lives) s t so are.1 rooms.1 said
  follows (NotOpened ∷ steps) lives s t so are rooms said = follows steps (lives_after own [] NotOpened lives) s t so are.1 rooms.1 said
  follows (NextFailed ∷ steps) lives s t so are rooms said = follows steps (lives_after own [] NextFailed lives) s t so are.1 rooms.1 said
  follows (SendLost d ∷ steps) lives s t so are rooms said =
      let on = by_other (Lost d) (lives app) s said.0 refl so said.1.0 in
      on.goes (journal steps) (follows steps (lives_after own [] (SendLost d) lives) said.0 t on.stands are.1 rooms.1 said.1.1)
  follows (RecvLost d ∷ steps) lives s t so are rooms said =
      let on = by_other (Lost d) (lives app) s said.0 refl so said.1.0 in
      on.goes (journal steps) (follows steps (lives_after own [] (RecvLost d) lives) said.0 t on.stands are.1 rooms.1 said.1.1)
  follows (SendFailed d ∷ steps) lives s t so are rooms said = follows steps (lives_after own [] (SendFailed d) lives) s t so are.1 rooms.1 said
  follows (RecvFailed d ∷ steps) lives s t so are rooms said = follows steps (lives_after own [] (RecvFailed d) lives) s t so are.1 rooms.1 said

  -- all that is told of it, behind a world that was just made
  pub tells_fronts : (history : List WorldStep) (more : ℕ) → KeepsScripts own [] history → AllByRecursion HasRoom history → AtOnce app (journal history)
      → length (starts_in (own_acts history)) ≤ more → length (replies_in (own_acts history)) ≤ more
      → AreStartFronts (starts_in (own_acts history)) (starts_said more (starts_of app own)) × AreFronts (replies_in (own_acts history)) (replies_said more (replies_of app own))
  unfolding KeepsScripts fresh
  tells_fronts history more keeps rooms said few_starts few_replies =
      let r = reads (ahead fresh false) (own_acts history) (follows history all_fresh at_first said.last (record { running = refl; waits = λ e. absurd (true≢false (sym e)) }) keeps rooms said.dialogue) in
      (r.starts more few_starts, replies_all (ahead fresh false) (own_acts history) refl r more few_replies)
