-- A turn that was cut off in its middle is not whole, so that what a fault may leave of it is that it was undone.
use Rattle.std.proofs.Common.{◌≡◌, ◌⊎◌, ℕ, suc, true, false, List, [], ◌∷◌, ◌++◌, length, drop, filter, Some, None, Ok, refl, sym, ap, ◌∙◌, subst, inl, inr}
use Rattle.std.proofs.lemmas.Bool.{false≢true}
use Rattle.std.proofs.lemmas.List.{append_assoc, append_cancel_left}
use Rattle.std.proofs.lemmas.List.Elements.{filter-append}
use Rattle.std.proofs.Math.Seq.{drop-length}
use Rattle.of_types.specs.declared.journal.Act.{Act}
use Rattle.of_types.specs.declared.journal.Act.TheVariants.{Gave, Took}
use Rattle.of_types.specs.declared.journal.TookWhat.TheVariants.{Bytes}
use Rattle.app_frames.specs.declared.frame.AppFrame.TheVariants.{Message}
use Rattle.app_frames.specs.Reading.{frame_of, front_of, length_of}
use Rattle.app_frames.specs.Frames.{app_reading}
use Rattle.outside.specs.declared.step.WorldStep.{WorldStep}
use Rattle.outside.specs.Seen.{Seen, journal}
use Rattle.outside.specs.laws.SeenLaws.{journal-append}
use Rattle.lego_model.specs.AtOnce.{Passes, AtOnce}
use Rattle.lego_model.specs.Journal.{is_of, reply_of}
use Rattle.lego_model.specs.History.{own_acts}
use Rattle.lego_model.specs.Turns.{Next, Over, next_of}
use Rattle.lego_model.specs.Scripted.{settles, is_heard}
use Rattle.lego_model.specs.AfterFault.{NoEventSince, UndoneButFailed, TurnDone, TablesLeft}

-- Since then the application was given an event, and gave one message, in one piece; nothing else was unread, and nothing else came of it.
pub record CutAtMessage {Own : Type 0} (app : ℕ) (old new : Seen Own) : Type 0 where
  pub event : List ℕ
  pub dpid : ℕ
  pub bytes : List ℕ
  pub piece : List ℕ
  pub whole : app_reading piece ≡ Ok (Some (Message dpid bytes, length piece))
  pub history : own_acts app new ≡ own_acts app old ++ Gave app event ∷ Took app (Bytes piece) ∷ []
  pub read : (before : AtOnce app (journal old.history)) (rest : List ℕ) → Passes before.last.unread rest → rest ≡ []

-- ---- What is heard of it

nothing_read : app_reading [] ≡ Ok None
unfolding app_reading frame_of front_of length_of
nothing_read = refl

nothing_next : next_of [] [] ≡ Over
unfolding next_of
nothing_next = rw nothing_read refl

-- nothing was heard
unheard_at_first : (budget : ℕ) → is_heard (suc budget) [] (reply_of (record { given = true; acts = [] })) ≡ false
unfolding is_heard reply_of settles
unheard_at_first budget = ap (λ (n : Next). settles (suc budget) 0 None n) nothing_next

no_more : (left : ℕ) (rest : List ℕ) → rest ≡ [] → settles left 0 None (next_of rest []) ≡ false
unfolding settles
no_more left rest none = ap (λ (bytes : List ℕ). settles left 0 None (next_of bytes [])) none ∙ ap (λ (n : Next). settles left 0 None n) nothing_next

message_next : (budget dpid : ℕ) (bytes piece : List ℕ) → app_reading piece ≡ Ok (Some (Message dpid bytes, length piece)) → settles (suc budget) 0 None (next_of [] (piece ∷ [])) ≡ false
unfolding next_of settles
message_next budget dpid bytes piece whole = rw (nothing_read, whole) (no_more budget (drop (length piece) piece) (drop-length piece))

-- a message was
unheard_at_message : (app budget dpid : ℕ) (bytes piece : List ℕ) → app_reading piece ≡ Ok (Some (Message dpid bytes, length piece)) → is_heard (suc budget) [] (reply_of (record { given = true; acts = Took app (Bytes piece) ∷ [] })) ≡ false
unfolding is_heard reply_of
unheard_at_message app budget dpid bytes piece whole = message_next budget dpid bytes piece whole

unheard : (app budget dpid : ℕ) (bytes piece : List ℕ) (acts more : List Act) → app_reading piece ≡ Ok (Some (Message dpid bytes, length piece)) → acts ++ more ≡ Took app (Bytes piece) ∷ []
    → is_heard (suc budget) [] (reply_of (record { given = true; acts = acts })) ≡ false
unheard app budget dpid bytes piece [] more whole is = unheard_at_first budget
unheard app budget dpid bytes piece (act ∷ []) more whole is =
    let same : act ≡ Took app (Bytes piece) = cc in
    subst (λ (a : Act). is_heard (suc budget) [] (reply_of (record { given = true; acts = a ∷ [] })) ≡ false) (sym same) (unheard_at_message app budget dpid bytes piece whole)
unheard app budget dpid bytes piece (act ∷ other ∷ acts) more whole is = absurd (too_many acts more cc)
  where
    too_many : (xs ys : List Act) → other ∷ (xs ++ ys) ≡ [] → ⊥
    too_many xs ys is = cc

-- ---- No point of it has a whole turn

acts_on : {Own : Type 0} (app : ℕ) (mid new : Seen Own) (steps : List WorldStep) → new.history ≡ mid.history ++ steps → own_acts app new ≡ own_acts app mid ++ filter (is_of app) (journal steps)
acts_on app mid new steps history =
    ap (λ (h : List WorldStep). filter (is_of app) (journal h)) history ∙ ap (filter (is_of app)) (journal-append mid.history steps) ∙ filter-append (is_of app) (journal mid.history) (journal steps)

never_done : {Own : Type 0} (app budget : ℕ) (old mid new : Seen Own) (steps : List WorldStep) → CutAtMessage app old new → new.history ≡ mid.history ++ steps → TurnDone app (suc budget) old mid → ⊥
never_done app budget old mid new steps cut history done =
    let more = filter (is_of app) (journal steps) in
    let all : own_acts app old ++ (Gave app done.event ∷ (done.acts ++ more)) ≡ own_acts app old ++ (Gave app cut.event ∷ Took app (Bytes cut.piece) ∷ []) =
    sym (append_assoc (own_acts app old) (Gave app done.event ∷ done.acts) more) ∙ ap (λ (acts : List Act). acts ++ more) (sym done.history) ∙ sym (acts_on app mid new steps history) ∙ cut.history in
    let same = append_cancel_left (own_acts app old) (Gave app done.event ∷ (done.acts ++ more)) (Gave app cut.event ∷ Took app (Bytes cut.piece) ∷ []) all in
    let behind : done.acts ++ more ≡ Took app (Bytes cut.piece) ∷ [] = ap (drop 1) same in
    let none = cut.read done.before done.rest done.passes in
    false≢true (sym (unheard app budget cut.dpid cut.bytes cut.piece done.acts more cut.whole behind) ∙ subst (λ (rest : List ℕ). is_heard (suc budget) rest (reply_of (record { given = true; acts = done.acts })) ≡ true) none done.heard)

-- ---- So it was undone

pub cut_undone : {Own : Type 0} (app budget : ℕ) (Short : Type 0) (old new : Seen Own) → CutAtMessage app old new → TablesLeft app (suc budget) Short old new → NoEventSince old new ⊎ UndoneButFailed (Unit {0}) old new
cut_undone app budget Short old new cut (inl none) = inl none
cut_undone app budget Short old new cut (inr (inl undone)) = inr undone
cut_undone app budget Short old new cut (inr (inr (inl kept))) = absurd (never_done app budget old kept.1.mid new kept.1.later.0 cut kept.1.later.1 kept.1.done)
cut_undone app budget Short old new cut (inr (inr (inr releasing))) = absurd (never_done app budget old releasing.mid new (releasing.first ∷ releasing.steps) cut releasing.history releasing.done)
