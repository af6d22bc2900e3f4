-- Laws of bodies: what is spelled is read, and what is read is spelled so.
use Rattle.std.proofs.Common.{◌≡◌, ℕ, zero, suc, ◌+◌, ◌<◌, ◌≤◌, Bool, true, false, cond, eqb, ltb, leb, ◌&&◌, List, [], ◌∷◌, ◌++◌, length, drop, Option, Some, None, refl, sym, ap, subst, ◌∙◌, append_assoc, arith}
use Rattle.std.specs.Prelude.{is_some, option_map}
use Rattle.std.proofs.lemmas.Bool.{eqb-true, ltb-false, leb-true, le-ltb, le-leb, ne_eqb, and_parts, cond_both}
use Rattle.std.proofs.lemmas.Option.{same_Some, cond_some}
use Rattle.std.proofs.lemmas.List.{take-append-drop, length-append, length-drop, append-nil, nil_from_length, drop-drop}
use Rattle.of_types.specs.Fields.{number_at, number_bytes, piece, IsBytes}
use Rattle.of_types.specs.laws.FieldLaws.{number_at-lt, number_at-drop, number_bytes-number_at, IsBytes-drop}
use Rattle.of_types.specs.Layout.{Field, number, spelled, width, AreFields, IsLaidOut, HasNoPads}
use Rattle.of_types.specs.laws.LayoutLaws.{IsLaidOut-spelled, length-spelled, spelled-IsLaidOut}
use Rattle.app_frames.specs.declared.kind.AppKind.{AppKind}
use Rattle.app_frames.specs.declared.kind.AppKind.TheVariants as app
use Rattle.app_frames.specs.declared.kind.HostKind.{HostKind}
use Rattle.app_frames.specs.declared.kind.HostKind.TheVariants as host
use Rattle.app_frames.specs.declared.frame.AppFrame.{AppFrame}
use Rattle.app_frames.specs.declared.frame.AppFrame.TheVariants.{Message, Save, Keep, Undo, Done, Ready}
use Rattle.app_frames.specs.declared.frame.HostFrame.{HostFrame}
use Rattle.app_frames.specs.declared.frame.HostFrame.TheVariants.{Restore, Event, Answer}
use Rattle.app_frames.specs.declared.frame.Answer.{Answer as AnswerValue}
use Rattle.app_frames.specs.declared.frame.Answer.TheVariants.{Fine, Error, Statistics, Unknown}
use Rattle.app_frames.specs.declared.frame.Event.{Event as EventValue}
use Rattle.app_frames.specs.Kinds.{number_of_event, event_kind_of}
use Rattle.app_frames.specs.laws.KindLaws.{number_of_event-lt, event_kind_of-number_of_event, number_of_event-event_kind_of}
use Rattle.app_frames.specs.Bodies.{◌>>=◌, bare, message_of, flag_of, checkpoint_of, done_of, app_body, event_with, event_of, answer_with, answer_of, host_body}
use Rattle.app_frames.specs.Spelling.{app_kind, bit, app_fields, app_tail, app_body_bytes, host_kind, answer_fields, answer_tail, host_fields, host_tail, host_body_bytes}
use Rattle.app_frames.specs.Frames.{IsAppFrame, AnswerNumbers, HostNumbers, IsHostFrame}
use Rattle.of_types.specs.laws.ChoiceLaws.{guard_some}

-- ---- fields and what follows

length_body : (fields : List Field) (tail : List ℕ) → AreFields fields → length (spelled fields ++ tail) ≡ width fields + length tail
length_body fields tail fit = omega (arith, length-append (spelled fields) tail, length-spelled fields fit)

body_spelled : (fields : List Field) (body : List ℕ) → IsBytes body → width fields ≤ length body → HasNoPads fields → IsLaidOut 0 fields (drop (width fields) body) body → spelled fields ++ drop (width fields) body ≡ body
body_spelled fields body fit within none laid =
    ap (λ (front : List ℕ). front ++ drop (width fields) body) (spelled-IsLaidOut 0 fields (drop (width fields) body) body fit (omega (arith, within)) none laid) ∙ take-append-drop (width fields) body

-- ---- tests

bind_some : {X Y : Type 0} (o : Option X) (f : X → Option Y) (y : Y) → (o >>= f) ≡ Some y → (x : X) × (o ≡ Some x) × (f x ≡ Some y)
bind_some (Some x) f y e = (x, refl, e)
bind_some None f y e = absurd cc

pub map_some : {X Y : Type 0} (f : X → Y) (o : Option X) (y : Y) → option_map f o ≡ Some y → (x : X) × (o ≡ Some x) × (f x ≡ y)
map_some f (Some x) y e = (x, refl, cc)
map_some f None y e = absurd cc

-- ---- from an application

flag_of-bit : (b : Bool) → flag_of (bit b) ≡ Some b
unfolding flag_of
flag_of-bit true = refl
flag_of-bit false = refl

bit-lt : (b : Bool) → bit b < 256
bit-lt true = omega arith
bit-lt false = omega arith

bit-flag_of : (byte : ℕ) (b : Bool) → flag_of byte ≡ Some b → byte ≡ bit b
unfolding flag_of
bit-flag_of byte b =
    let P : Option Bool → Type 0 = λ o. o ≡ Some b → byte ≡ bit b in
    cond_both (eqb byte 0) _ _ P (λ t e. eqb-true byte 0 t ∙ ap bit (same_Some false b e)) (λ n0.
    cond_both (eqb byte 1) _ _ P (λ t e. eqb-true byte 1 t ∙ ap bit (same_Some true b e)) (λ n1 e. absurd cc))

message_spelled : (dpid : ℕ) (bytes : List ℕ) → IsAppFrame (Message dpid bytes) → message_of (app_body_bytes (Message dpid bytes)) ≡ Some (Message dpid bytes)
unfolding message_of app_body_bytes
message_spelled dpid bytes is =
    let fields = number 8 dpid ∷ [] in
    let h = IsLaidOut-spelled 0 fields [] bytes refl (is.0, tt) in
    let len = length_body fields bytes (is.0, tt) in
    let low = le-leb 16 (length (spelled fields ++ bytes)) (omega (arith, len, is.1.0)) in
    let high = le-leb (length (spelled fields ++ bytes)) 65543 (omega (arith, len, is.1.1)) in
    rw (low, high, h.0, h.1) refl

done_spelled : (stop : Bool) (checkpoint : Option (List ℕ)) → done_of (app_body_bytes (Done stop checkpoint)) ≡ Some (Done stop checkpoint)
unfolding done_of app_body_bytes checkpoint_of
done_spelled stop None =
    let fields = number 1 (bit stop) ∷ number 1 (bit false) ∷ [] in
    let fit : AreFields fields = (bit-lt stop, (bit-lt false, tt)) in
    let h = IsLaidOut-spelled 0 fields [] [] refl fit in
    let two = le-ltb (length (spelled fields ++ [])) 2 (omega (arith, length_body fields [] fit)) in
    rw (two, h.0, h.1.0, flag_of-bit stop, flag_of-bit false, h.1.1) refl
done_spelled stop (Some checkpoint) =
    let fields = number 1 (bit stop) ∷ number 1 (bit true) ∷ [] in
    let fit : AreFields fields = (bit-lt stop, (bit-lt true, tt)) in
    let h = IsLaidOut-spelled 0 fields [] checkpoint refl fit in
    let two = le-ltb (length (spelled fields ++ checkpoint)) 2 (omega (arith, length_body fields checkpoint fit)) in
    rw (two, h.0, h.1.0, flag_of-bit stop, flag_of-bit true, h.1.1) refl

pub app_body-spelled : (frame : AppFrame) → IsAppFrame frame → app_body (app_kind frame) (app_body_bytes frame) ≡ Some frame
unfolding app_body app_body_bytes
app_body-spelled (Message dpid bytes) is = message_spelled dpid bytes is
app_body-spelled Save is = refl
app_body-spelled Keep is = refl
app_body-spelled Undo is = refl
app_body-spelled (Done stop checkpoint) is = done_spelled stop checkpoint
app_body-spelled Ready is = refl

app_fit : (frame : AppFrame) → IsAppFrame frame → AreFields (app_fields frame)
app_fit (Message dpid bytes) is = (is.0, tt)
app_fit Save is = tt
app_fit Keep is = tt
app_fit Undo is = tt
app_fit (Done stop checkpoint) is = (bit-lt stop, (bit-lt (is_some checkpoint), tt))
app_fit Ready is = tt

-- the length of a body is that of its fields and of what follows
pub length_app_body : (frame : AppFrame) → IsAppFrame frame → length (app_body_bytes frame) ≡ width (app_fields frame) + length (app_tail frame)
unfolding app_body_bytes
length_app_body frame is = length_body (app_fields frame) (app_tail frame) (app_fit frame is)

-- what a body that was read says
pub record WasApp (kind : AppKind) (frame : AppFrame) (body : List ℕ) : Type 0 where
  pub kind_is : app_kind frame ≡ kind
  pub well_formed : IsAppFrame frame
  pub spelled_is : app_body_bytes frame ≡ body

was_message : (body : List ℕ) (frame : AppFrame) → IsBytes body → message_of body ≡ Some frame → WasApp app.Message frame body
unfolding message_of app_body_bytes
was_message body frame fit e =
    let a = cond_some (leb 16 (length body) && leb (length body) 65543) (Message (number_at 8 0 body) (drop 8 body)) frame e in
    let sizes = and_parts (leb 16 (length body)) (leb (length body) 65543) a.0 in
    let low : 16 ≤ length body = leb-true _ _ sizes.0 in
    let high : length body ≤ 65543 = leb-true _ _ sizes.1 in
    let len = length-drop 8 body in
    subst (λ (f : AppFrame). WasApp app.Message f body) a.1 (record {
      kind_is = refl;
      well_formed = (number_at-lt 8 0 body fit, (omega (arith, low, len), omega (arith, high, len)));
      spelled_is = body_spelled (number 8 (number_at 8 0 body) ∷ []) body fit (omega (arith, low)) tt (refl, refl);
    })

was_bare : (kind : AppKind) (bare_frame frame : AppFrame) (body : List ℕ) → app_kind bare_frame ≡ kind → IsAppFrame bare_frame → app_body_bytes bare_frame ≡ [] → bare bare_frame body ≡ Some frame → WasApp kind frame body
was_bare kind bare_frame frame body kind_is is none e =
    let a = cond_some (eqb (length body) 0) bare_frame frame e in
    let empty : body ≡ [] = nil_from_length body (eqb-true _ _ a.0) in
    subst (λ (f : AppFrame). WasApp kind f body) a.1 (record { kind_is = kind_is; well_formed = is; spelled_is = none ∙ sym empty })

checkpoint_was : (has : Bool) (rest : List ℕ) (checkpoint : Option (List ℕ)) → checkpoint_of has rest ≡ Some checkpoint → (has ≡ is_some checkpoint) × ((stop : Bool) → rest ≡ app_tail (Done stop checkpoint))
unfolding checkpoint_of
checkpoint_was false rest checkpoint e =
    let none : Option (List ℕ) = None in
    let a = cond_some (eqb (length rest) 0) none checkpoint e in
    let empty : rest ≡ [] = nil_from_length rest (eqb-true _ _ a.0) in
    subst (λ (c : Option (List ℕ)). (false ≡ is_some c) × ((stop : Bool) → rest ≡ app_tail (Done stop c))) a.1 (refl, λ stop. empty)
checkpoint_was true rest checkpoint e =
    let some : Option (List ℕ) = Some rest in
    subst (λ (c : Option (List ℕ)). (true ≡ is_some c) × ((stop : Bool) → rest ≡ app_tail (Done stop c))) (same_Some some checkpoint e) (refl, λ stop. refl)

done_fits : (stop : Bool) (checkpoint : Option (List ℕ)) → length (app_tail (Done stop checkpoint)) ≤ 1048576 → IsAppFrame (Done stop checkpoint)
done_fits stop None le = (tt, tt)
done_fits stop (Some checkpoint) le = (tt, le)

done_bytes : (stop : Bool) (checkpoint : Option (List ℕ)) (body : List ℕ) → IsBytes body → 2 ≤ length body → number_at 1 0 body ≡ bit stop → number_at 1 1 body ≡ bit (is_some checkpoint) → drop 2 body ≡ app_tail (Done stop checkpoint)
    → app_body_bytes (Done stop checkpoint) ≡ body
unfolding app_body_bytes
done_bytes stop checkpoint body fit two is has rest =
    let fields = app_fields (Done stop checkpoint) in
    rw (← rest) (body_spelled fields body fit (omega (arith, two)) tt (is, (has, refl)))

was_done_with : (body : List ℕ) (frame : AppFrame) (stop has : Bool) (checkpoint : Option (List ℕ)) → IsBytes body → length body ≤ 1048578 → 2 ≤ length body → flag_of (number_at 1 0 body) ≡ Some stop → flag_of (number_at 1 1 body) ≡ Some has
    → checkpoint_of has (drop 2 body) ≡ Some checkpoint → Some (Done stop checkpoint) ≡ Some frame → WasApp app.Done frame body
was_done_with body frame stop has checkpoint fit short two stop_is has_is checkpoint_is same =
    let was = checkpoint_was has (drop 2 body) checkpoint checkpoint_is in
    let rest : drop 2 body ≡ app_tail (Done stop checkpoint) = was.1 stop in
    let tail : length (app_tail (Done stop checkpoint)) ≤ 1048576 = rw (← rest) (omega (arith, short, length-drop 2 body)) in
    subst (λ (f : AppFrame). WasApp app.Done f body) (same_Some (Done stop checkpoint) frame same) (record {
      kind_is = refl;
      well_formed = done_fits stop checkpoint tail;
      spelled_is = done_bytes stop checkpoint body fit two (bit-flag_of (number_at 1 0 body) stop stop_is) (bit-flag_of (number_at 1 1 body) has has_is ∙ ap bit was.0) rest;
    })

was_done : (body : List ℕ) (frame : AppFrame) → IsBytes body → length body ≤ 1048578 → done_of body ≡ Some frame → WasApp app.Done frame body
unfolding done_of
was_done body frame fit short e =
    let a = guard_some (ltb (length body) 2) (flag_of (number_at 1 0 body) >>= λ stop. flag_of (number_at 1 1 body) >>= λ has. checkpoint_of has (drop 2 body) >>= λ checkpoint. Some (Done stop checkpoint)) frame e in
    let b = bind_some (flag_of (number_at 1 0 body)) (λ stop. flag_of (number_at 1 1 body) >>= λ has. checkpoint_of has (drop 2 body) >>= λ checkpoint. Some (Done stop checkpoint)) frame a.1 in
    let c = bind_some (flag_of (number_at 1 1 body)) (λ has. checkpoint_of has (drop 2 body) >>= λ checkpoint. Some (Done b.0 checkpoint)) frame b.2 in
    let d = bind_some (checkpoint_of c.0 (drop 2 body)) (λ checkpoint. Some (Done b.0 checkpoint)) frame c.2 in
    was_done_with body frame b.0 c.0 d.0 fit short (ltb-false _ _ a.0) b.1 c.1 d.1 d.2

pub was_app : (kind : AppKind) (body : List ℕ) (frame : AppFrame) → IsBytes body → length body ≤ 1048578 → app_body kind body ≡ Some frame → WasApp kind frame body
unfolding app_body app_body_bytes
was_app app.Message body frame fit short e = was_message body frame fit e
was_app app.Save body frame fit short e = was_bare app.Save Save frame body refl (tt, tt) refl e
was_app app.Keep body frame fit short e = was_bare app.Keep Keep frame body refl (tt, tt) refl e
was_app app.Undo body frame fit short e = was_bare app.Undo Undo frame body refl (tt, tt) refl e
was_app app.Done body frame fit short e = was_done body frame fit short e
was_app app.Ready body frame fit short e = was_bare app.Ready Ready frame body refl (tt, tt) refl e

-- ---- from the host

host_fit : (frame : HostFrame) → HostNumbers frame → AreFields (host_fields frame)
host_fit (Restore checkpoint) is = tt
host_fit (Event count moment event) is = (is.0, (is.1, (number_of_event-lt event.kind, (is.2, tt))))
host_fit (Answer Fine) is = (omega arith, tt)
host_fit (Answer (Error error)) is = (omega arith, (is.0, (is.1, tt)))
host_fit (Answer (Statistics kind body)) is = (omega arith, (is, tt))
host_fit (Answer Unknown) is = (omega arith, tt)

-- the length of a body is that of its fields and of what follows
pub length_host_body : (frame : HostFrame) → HostNumbers frame → length (host_body_bytes frame) ≡ width (host_fields frame) + length (host_tail frame)
unfolding host_body_bytes
length_host_body frame is = length_body (host_fields frame) (host_tail frame) (host_fit frame is)

event_spelled : (count moment : ℕ) (event : EventValue) → IsHostFrame (Event count moment event) → event_of (host_body_bytes (Event count moment event)) ≡ Some (Event count moment event)
unfolding event_of host_body_bytes
event_spelled count moment event is =
    let frame = Event count moment event in
    let fit = host_fit frame is.0 in
    let h = IsLaidOut-spelled 0 (host_fields frame) [] event.body refl fit in
    let enough = le-ltb (length (spelled (host_fields frame) ++ event.body)) 25 (omega (arith, length_body (host_fields frame) event.body fit)) in
    rw (enough, h.1.1.0, event_kind_of-number_of_event event.kind, h.0, h.1.0, h.1.1.1.0, h.1.1.1.1) refl

answer_spelled : (answer : AnswerValue) → IsHostFrame (Answer answer) → answer_of (host_body_bytes (Answer answer)) ≡ Some (Answer answer)
unfolding answer_of answer_with host_body_bytes
answer_spelled Fine is =
    let fit = host_fit (Answer Fine) is.0 in
    let h = IsLaidOut-spelled 0 (answer_fields Fine) [] [] refl fit in
    let len = length_body (answer_fields Fine) [] fit in
    rw (len, h.0, h.1) refl
answer_spelled (Error error) is =
    let fit = host_fit (Answer (Error error)) is.0 in
    let bytes = spelled (answer_fields (Error error)) ++ [] in
    let h = IsLaidOut-spelled 0 (answer_fields (Error error)) [] [] refl fit in
    let len = length_body (answer_fields (Error error)) [] fit in
    let rest : length (drop 1 bytes) ≡ 4 = omega (arith, len, length-drop 1 bytes) in
    rw (len, h.0, rest, number_at-drop 2 0 1 bytes, number_at-drop 2 2 1 bytes, h.1.0, h.1.1.0) refl
answer_spelled (Statistics kind body) is =
    let fit = host_fit (Answer (Statistics kind body)) is.0 in
    let bytes = spelled (answer_fields (Statistics kind body)) ++ body in
    let h = IsLaidOut-spelled 0 (answer_fields (Statistics kind body)) [] body refl fit in
    let len = length_body (answer_fields (Statistics kind body)) body fit in
    let some : eqb (length bytes) 0 ≡ false = ne_eqb _ _ (λ e. omega (arith, len, e)) in
    let two : ltb (length (drop 1 bytes)) 2 ≡ false = le-ltb _ _ (omega (arith, len, length-drop 1 bytes)) in
    rw (some, h.0, two, number_at-drop 2 0 1 bytes, h.1.0, drop-drop 2 1 bytes, h.1.1) refl
answer_spelled Unknown is =
    let fit = host_fit (Answer Unknown) is.0 in
    let h = IsLaidOut-spelled 0 (answer_fields Unknown) [] [] refl fit in
    let len = length_body (answer_fields Unknown) [] fit in
    rw (len, h.0, h.1) refl

pub host_body-spelled : (frame : HostFrame) → IsHostFrame frame → host_body (host_kind frame) (host_body_bytes frame) ≡ Some frame
unfolding host_body host_body_bytes
host_body-spelled (Restore checkpoint) is = refl
host_body-spelled (Event count moment event) is = event_spelled count moment event is
host_body-spelled (Answer answer) is = answer_spelled answer is

-- what a body that was read says
pub record WasHost (kind : HostKind) (frame : HostFrame) (body : List ℕ) : Type 0 where
  pub kind_is : host_kind frame ≡ kind
  pub numbers : HostNumbers frame
  pub spelled_is : host_body_bytes frame ≡ body

was_event : (body : List ℕ) (frame : HostFrame) → IsBytes body → event_of body ≡ Some frame → WasHost host.Event frame body
unfolding event_of host_body_bytes
was_event body frame fit e =
    let a = guard_some (ltb (length body) 25) (option_map (event_with body) (event_kind_of (number_at 1 16 body))) frame e in
    let enough : 25 ≤ length body = ltb-false _ _ a.0 in
    let m = map_some (event_with body) (event_kind_of (number_at 1 16 body)) frame a.1 in
    let kind : number_at 1 16 body ≡ number_of_event m.0 = number_of_event-event_kind_of (number_at 1 16 body) m.0 m.1 in
    let fields = number 8 (number_at 8 0 body) ∷ number 8 (number_at 8 8 body) ∷ number 1 (number_of_event m.0) ∷ number 8 (number_at 8 17 body) ∷ [] in
    subst (λ (f : HostFrame). WasHost host.Event f body) m.2 (record {
      kind_is = refl;
      numbers = (number_at-lt 8 0 body fit, number_at-lt 8 8 body fit, number_at-lt 8 17 body fit);
      spelled_is = body_spelled fields body fit (omega (arith, enough)) tt (refl, (refl, (kind, (refl, refl))));
    })

-- what an answer that was read says
record WasAnswer (code : ℕ) (answer : AnswerValue) (rest : List ℕ) : Type 0 where
  numbers : AnswerNumbers answer
  spelled_is : spelled (answer_fields answer) ++ answer_tail answer ≡ number_bytes 1 code ++ rest

was_fine : (code : ℕ) (rest : List ℕ) (answer : AnswerValue) → code ≡ 0 → bare Fine rest ≡ Some answer → WasAnswer code answer rest
was_fine code rest answer is e =
    let a = cond_some (eqb (length rest) 0) Fine answer e in
    let empty : rest ≡ [] = nil_from_length rest (eqb-true _ _ a.0) in
    subst (λ (x : AnswerValue). WasAnswer code x rest) a.1 (record { numbers = tt; spelled_is = rw (is, empty) (append-nil (number_bytes 1 0 ++ [])) })

was_unknown : (code : ℕ) (rest : List ℕ) (answer : AnswerValue) → code ≡ 3 → bare Unknown rest ≡ Some answer → WasAnswer code answer rest
was_unknown code rest answer is e =
    let a = cond_some (eqb (length rest) 0) Unknown answer e in
    let empty : rest ≡ [] = nil_from_length rest (eqb-true _ _ a.0) in
    subst (λ (x : AnswerValue). WasAnswer code x rest) a.1 (record { numbers = tt; spelled_is = rw (is, empty) (append-nil (number_bytes 1 3 ++ [])) })

was_error : (code : ℕ) (rest : List ℕ) (answer : AnswerValue) → IsBytes rest → code ≡ 1 → cond (eqb (length rest) 4) (Some (Error (record { kind = number_at 2 0 rest; code = number_at 2 2 rest }))) None ≡ Some answer → WasAnswer code answer rest
was_error code rest answer fit is e =
    let made = Error (record { kind = number_at 2 0 rest; code = number_at 2 2 rest }) in
    let a = cond_some (eqb (length rest) 4) made answer e in
    let four : length rest ≡ 4 = eqb-true _ _ a.0 in
    let fields = number 2 (number_at 2 0 rest) ∷ number 2 (number_at 2 2 rest) ∷ [] in
    let over : drop 4 rest ≡ [] = nil_from_length (drop 4 rest) (omega (arith, four, length-drop 4 rest)) in
    let same : spelled fields ++ [] ≡ rest = sym (ap (λ (xs : List ℕ). spelled fields ++ xs) over) ∙ body_spelled fields rest fit (omega (arith, four)) tt (refl, (refl, refl)) in
    subst (λ (x : AnswerValue). WasAnswer code x rest) a.1 (record {
      numbers = (number_at-lt 2 0 rest fit, number_at-lt 2 2 rest fit);
      spelled_is = rw is (append_assoc (number_bytes 1 1) (spelled fields) [] ∙ ap (λ (xs : List ℕ). number_bytes 1 1 ++ xs) same);
    })

was_statistics : (code : ℕ) (rest : List ℕ) (answer : AnswerValue) → IsBytes rest → code ≡ 2 → cond (ltb (length rest) 2) None (Some (Statistics (number_at 2 0 rest) (drop 2 rest))) ≡ Some answer → WasAnswer code answer rest
was_statistics code rest answer fit is e =
    let made = Statistics (number_at 2 0 rest) (drop 2 rest) in
    let a = guard_some (ltb (length rest) 2) (Some made) answer e in
    let two : 2 ≤ length rest = ltb-false _ _ a.0 in
    let fields = number 2 (number_at 2 0 rest) ∷ [] in
    let same : spelled fields ++ drop 2 rest ≡ rest = body_spelled fields rest fit (omega (arith, two)) tt (refl, refl) in
    subst (λ (x : AnswerValue). WasAnswer code x rest) (same_Some made answer a.1) (record {
      numbers = number_at-lt 2 0 rest fit;
      spelled_is = rw is (append_assoc (number_bytes 1 2) (spelled fields) (drop 2 rest) ∙ ap (λ (xs : List ℕ). number_bytes 1 2 ++ xs) same);
    })

was_answer : (code : ℕ) (rest : List ℕ) (answer : AnswerValue) → IsBytes rest → answer_with code rest ≡ Some answer → WasAnswer code answer rest
unfolding answer_with
was_answer code rest answer fit =
    let P : Option AnswerValue → Type 0 = λ o. o ≡ Some answer → WasAnswer code answer rest in
    cond_both (eqb code 0) _ _ P (λ t e. was_fine code rest answer (eqb-true code 0 t) e) (λ n0.
    cond_both (eqb code 1) _ _ P (λ t e. was_error code rest answer fit (eqb-true code 1 t) e) (λ n1.
    cond_both (eqb code 2) _ _ P (λ t e. was_statistics code rest answer fit (eqb-true code 2 t) e) (λ n2.
    cond_both (eqb code 3) _ _ P (λ t e. was_unknown code rest answer (eqb-true code 3 t) e) (λ n3 e. absurd cc))))

was_answer_frame : (body : List ℕ) (frame : HostFrame) → IsBytes body → answer_of body ≡ Some frame → WasHost host.Answer frame body
unfolding answer_of host_body_bytes
was_answer_frame body frame fit e =
    let a = guard_some (eqb (length body) 0) (option_map (λ answer. Answer answer) (answer_with (number_at 1 0 body) (drop 1 body))) frame e in
    let some : 1 ≤ length body = not_empty (length body) a.0 in
    let m = map_some (λ answer. Answer answer) (answer_with (number_at 1 0 body) (drop 1 body)) frame a.1 in
    let was = was_answer (number_at 1 0 body) (drop 1 body) m.0 (IsBytes-drop 1 body fit) m.1 in
    let code : number_bytes 1 (number_at 1 0 body) ≡ piece 1 0 body = number_bytes-number_at 1 0 body fit (omega (arith, some)) in
    subst (λ (f : HostFrame). WasHost host.Answer f body) m.2 (record {
      kind_is = refl;
      numbers = was.numbers;
      spelled_is = was.spelled_is ∙ ap (λ (xs : List ℕ). xs ++ drop 1 body) code ∙ take-append-drop 1 body;
    })
  where
    not_empty : (n : ℕ) → eqb n 0 ≡ false → 1 ≤ n
    not_empty zero t = absurd cc
    not_empty (suc n) t = omega arith

pub was_host : (kind : HostKind) (body : List ℕ) (frame : HostFrame) → IsBytes body → host_body kind body ≡ Some frame → WasHost kind frame body
unfolding host_body host_body_bytes
was_host host.Restore body frame fit e = subst (λ (f : HostFrame). WasHost host.Restore f body) (same_Some (Restore body) frame e) (record { kind_is = refl; numbers = tt; spelled_is = refl })
was_host host.Event body frame fit e = was_event body frame fit e
was_host host.Answer body frame fit e = was_answer_frame body frame fit e
