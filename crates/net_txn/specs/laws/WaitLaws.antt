-- Laws of waits: what a message is, the first refusal, and what was kept.
use Rattle.std.specs.Prelude.{◌≡◌, ◌==◌, ℕ, Bool, true, false, ◌&&◌, if◌then◌else◌, List, [], ◌∷◌, ◌++◌, map, Option, Some, None, refl}
use Rattle.std.specs.Str.{bytes_eq}
use Rattle.std.proofs.Common.{sym, ap, ap₂, ◌∙◌}
use Rattle.std.proofs.lemmas.Bool.{eqb-true}
use Rattle.std.proofs.lemmas.List.{append-nil, map-append, flat_map_more}
use Rattle.std.proofs.lemmas.Slice.Eq.{bytes_eq-Decides}
use Rattle.of_types.specs.Fields.{number_at}
use Rattle.of_wire.specs.declared.message.Message.TheVariants.{BarrierReply}
use Rattle.of_wire.specs.Spelling.{message_bytes}
use Rattle.outside.specs.declared.step.WorldStep.{WorldStep}
use Rattle.outside.specs.Seen.{Seen}
use Rattle.lego_model.specs.declared.wait.Awaited.{Awaited}
use Rattle.lego_model.specs.declared.wait.Refusal.{Refusal}
use Rattle.lego_model.specs.declared.wait.Heard.{Heard}
use Rattle.lego_model.specs.declared.wait.Heard.TheVariants.{Reply, Refused, Notice, Echo, Other}
use Rattle.net_txn.specs.Waits.{refusal_in, first_of, first_refusal, notice_in, Brought, with_heard, answer_of, Waits, KeptMore}
use Rattle.lego_model.specs.BarrierWaits.{is_awaited, is_apart, refusal_of, heard, is_reply, kept_by, kept_of}

-- ---- The reply

pub is_Reply : (h : Heard) → is_reply h ≡ true → h ≡ Reply
is_Reply Reply is = refl
is_Reply (Refused r) is = absurd cc
is_Reply Notice is = absurd cc
is_Reply Echo is = absurd cc
is_Reply Other is = absurd cc

was_first : (first second third fourth : Bool) (r : Refusal) → is_reply (if first then Reply else if second then Refused r else if third then Notice else if fourth then Echo else Other) ≡ true → first ≡ true
was_first true second third fourth r is = refl
was_first false true third fourth r is = absurd cc
was_first false false true fourth r is = absurd cc
was_first false false false true r is = absurd cc
was_first false false false false r is = absurd cc

-- what ends a wait is the reply, byte for byte
pub reply_is : (a : Awaited) (bytes : List ℕ) → is_reply (heard a bytes) ≡ true → bytes ≡ message_bytes a.barrier BarrierReply
unfolding heard
reply_is a bytes is =
    let reply = message_bytes a.barrier BarrierReply in
    (bytes_eq-Decides bytes reply).0
    (was_first (bytes_eq bytes reply) (number_at 1 1 bytes == 1 && is_awaited a (number_at 4 4 bytes)) ((number_at 1 1 bytes == 11 && number_at 1 58 bytes == 2) && is_apart a.notices) (number_at 1 1 bytes == 2) (refusal_of bytes) is)

-- ---- One more

first_of_first : (a b c : Option Refusal) → first_of (first_of a b) c ≡ first_of a (first_of b c)
first_of_first None b c = refl
first_of_first (Some r) b c = refl

pub first_of_none : (a : Option Refusal) → first_of a None ≡ a
first_of_none None = refl
first_of_none (Some r) = refl

refusal_more : (a : Awaited) (got : List (List ℕ)) (b : List ℕ) → first_refusal a (got ++ b ∷ []) ≡ first_of (first_refusal a got) (refusal_in (heard a b))
refusal_more a [] b = first_of_none (refusal_in (heard a b))
refusal_more a (x ∷ xs) b = ap (first_of (refusal_in (heard a x))) (refusal_more a xs b) ∙ sym (first_of_first (refusal_in (heard a x)) (first_refusal a xs) (refusal_in (heard a b)))

abbrev pub brought : Option Refusal → List (List ℕ) → Brought
brought refusal notices = record { refusal = refusal; notices = notices }

pub answer_more : (a : Awaited) (got : List (List ℕ)) (b : List ℕ) → answer_of a (got ++ b ∷ []) ≡ with_heard a.notices (heard a b) b (answer_of a got)
answer_more a got b = ap₂ brought (refusal_more a got b) (sym (flat_map_more (λ x. notice_in a.notices (heard a x) x) [] got b))

-- what is neither a refusal nor a notice brings nothing
pub brings_none : (answer : Brought) → answer ≡ record { refusal = first_of answer.refusal None; notices = answer.notices ++ [] }
brings_none answer = ap₂ brought (sym (first_of_none answer.refusal)) (sym (append-nil answer.notices))

-- a refusal alone
pub brings_refusal : (r : Refusal) (answer now : Brought) → now ≡ record answer { refusal = first_of answer.refusal (Some r) } → now ≡ record { refusal = first_of answer.refusal (Some r); notices = answer.notices ++ [] }
brings_refusal r answer now is = is ∙ ap (brought (first_of answer.refusal (Some r))) (sym (append-nil answer.notices))

-- a notice alone
pub brings_notice : (more : List (List ℕ)) (answer now : Brought) → now ≡ record answer { notices = answer.notices ++ more } → now ≡ record { refusal = first_of answer.refusal None; notices = answer.notices ++ more }
brings_notice more answer now is = is ∙ ap (λ (o : Option Refusal). brought o (answer.notices ++ more)) (sym (first_of_none answer.refusal))

-- ---- What was kept so far

abbrev pub of_switch : ℕ → List ℕ → ℕ × List ℕ
of_switch d b = (d, b)

kept_by_more : (d : ℕ) (h : Heard) (b : List ℕ) → KeptMore d [] (kept_by d h b)
kept_by_more d Reply b = ([], refl)
kept_by_more d (Refused r) b = ([], refl)
kept_by_more d Notice b = ([], refl)
kept_by_more d Echo b = ([], refl)
kept_by_more d Other b = (b ∷ [], refl)

pub kept_of_more : (a : Awaited) (got : List (List ℕ)) → KeptMore a.dpid [] (kept_of a got)
kept_of_more a [] = ([], refl)
kept_of_more a (b ∷ bs) =
    let first = kept_by_more a.dpid (heard a b) b in
    let rest = kept_of_more a bs in
    (first.0 ++ rest.0, ap (λ (s : List (ℕ × List ℕ)). s ++ kept_of a bs) first.1 ∙ ap (λ (s : List (ℕ × List ℕ)). map (of_switch a.dpid) first.0 ++ s) rest.1 ∙ sym (map-append (of_switch a.dpid) first.0 rest.0))

pub none_kept : (d : ℕ) (kept : List (ℕ × List ℕ)) → KeptMore d kept kept
none_kept d kept = ([], sym (append-nil kept))

-- ---- What a message is

was_fourth : (first second third fourth : Bool) (r : Refusal) → (if first then Reply else if second then Refused r else if third then Notice else if fourth then Echo else Other) ≡ Echo → fourth ≡ true
was_fourth true second third fourth r is = absurd cc
was_fourth false true third fourth r is = absurd cc
was_fourth false false true fourth r is = absurd cc
was_fourth false false false true r is = refl
was_fourth false false false false r is = absurd cc

-- what is answered is an ECHO_REQUEST
pub echo_is : (a : Awaited) (bytes : List ℕ) → heard a bytes ≡ Echo → number_at 1 1 bytes ≡ 2
unfolding heard
echo_is a bytes is =
    eqb-true _ _ (was_fourth (bytes_eq bytes (message_bytes a.barrier BarrierReply)) (number_at 1 1 bytes == 1 && is_awaited a (number_at 4 4 bytes)) ((number_at 1 1 bytes == 11 && number_at 1 58 bytes == 2) && is_apart a.notices) (number_at 1 1 bytes == 2) (refusal_of bytes) is)

pub waits_kept : {Own : Type 0} {Tells : Type 0} {a : Awaited} {front : List WorldStep} {old new : Seen Own} {kept kept1 : List (ℕ × List ℕ)} {answer : Brought} → Waits Tells a front old new kept kept1 answer → KeptMore a.dpid kept kept1
waits_kept {a = a} {kept = kept} w =
    let more = kept_of_more a w.got in
    (more.0, w.hears.kept_is ∙ ap (λ (s : List (ℕ × List ℕ)). kept ++ s) more.1)
