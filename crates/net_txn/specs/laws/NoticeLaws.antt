-- What a switch makes of an inverse, and what a wait gets then: notices of the entry that went, and the reply.
use Rattle.std.specs.Prelude.{◌≡◌, ℕ, ◌+◌, ◌<◌, ◌≤◌, Bool, true, false, not, ◌&&◌, if◌then◌else◌, List, [], ◌∷◌, ◌++◌, length, drop, map, filter, Some, None, refl}
use Rattle.std.specs.List.{AllByRecursion}
use Rattle.std.specs.Str.{bytes_eq}
use Rattle.std.proofs.Common.{sym, ap, ◌∙◌, subst, append_assoc, length-append, inl, inr, arith}
use Rattle.std.proofs.lemmas.Bool.{cases_Bool}
use Rattle.std.proofs.lemmas.List.{length-map}
use Rattle.std.proofs.lemmas.Slice.Eq.{bytes_eq-Decides}
use Rattle.of_types.specs.Fields.{number_at, number_bytes}
use Rattle.of_types.specs.laws.FieldLaws.{number_at-number_bytes, length-number_bytes}
use Rattle.of_types.specs.declared.journal.Act.TheVariants.{Got}
use Rattle.of_match.specs.declared.key.Key.{Key}
use Rattle.of_wire.specs.declared.message.Message.TheVariants.{FlowMod, FlowRemoved, BarrierReply}
use Rattle.of_wire.specs.Spelling.{match_bytes, body_bytes, message_bytes}
use Rattle.of_wire.specs.laws.SpellingLaws.{length-match_bytes}
use Rattle.flow_table.specs.declared.entry.Entry.{Entry}
use Rattle.flow_table.specs.declared.notice.Notice.{Notice}
use Rattle.flow_table.specs.Change.{adds, asks_notice, deletes, notice, notices_of, tells}
use Rattle.flow_table.specs.laws.ChangeLaws.{notices_of-delete, entries_after-delete}
use Rattle.flow_table.specs.Switch.{Declared, SwitchState}
use Rattle.flow_table.specs.Refusals.{flow_refusal, message_refusal}
use Rattle.flow_table.specs.Step.{flow_removed, flow_removed_bytes, after_taken, after_message, sent_by_taken, sent_by_message}
use Rattle.outside.specs.declared.step.WorldStep.{WorldStep}
use Rattle.outside.specs.declared.step.WorldStep.TheVariants.{Acted}
use Rattle.outside.specs.State.{State, after_step, waits_of}
use Rattle.outside.specs.laws.LinkLaws.{waits_of-got}
use Rattle.outside.specs.Conforming.{MaySteps}
use Rattle.undo_laws.specs.Removal.{without, IsRemoval}
use Rattle.undo_laws.specs.laws.RemovalLaws.{removal-changed, removal-entries, removal-refusal}
use Rattle.lego_model.specs.declared.wait.Awaited.{Awaited}
use Rattle.lego_model.specs.declared.wait.Heard.TheVariants as hearing
use Rattle.lego_model.specs.UndoFaults.{delete_strict}
use Rattle.lego_model.specs.BarrierWaits.{is_apart, heard, is_reply, heard_steps, wait_steps, kept_of, reply_got}
use Rattle.net_txn.specs.laws.StepLaws.{gots, first_got, reply_alone}
use Rattle.lego_model.specs.laws.OwnIdLaws.{kind_at}

-- ---- The switch

delete-removal : (k : Key) → IsRemoval k (delete_strict k)
delete-removal k = record { command = refl; out_port = refl; key = refl }

-- the entries of a switch's table are these
abbrev pub with_entries : List Entry → SwitchState → SwitchState
with_entries es s = record s { table = record s.table { entries = es } }

not_refused : (k : Key) (s : SwitchState) → message_refusal s (FlowMod (delete_strict k)) ≡ None
unfolding message_refusal flow_refusal
not_refused k s = removal-refusal s.declared.cap k (delete_strict k) s.table.entries (delete-removal k)

pub inverse_moves : (k : Key) (s : SwitchState) → after_message (FlowMod (delete_strict k)) s ≡ with_entries (without k s.table.entries) s
unfolding after_message after_taken
inverse_moves k s = rw (not_refused k s, removal-changed s.moment k (delete_strict k) s.table (delete-removal k)) refl

-- ---- A notice of an entry that was deleted: FLOW_REMOVED (11) with reason DELETE (2)

pub record IsNotice (bytes : List ℕ) : Type 0 where
  pub kind : number_at 1 1 bytes ≡ 11
  pub reason : number_at 1 58 bytes ≡ 2

reason_at : (a b c d e f g h i t : List ℕ) → (a ++ (b ++ (c ++ (d ++ [])))) ++ (e ++ ((f ++ (g ++ (h ++ i))) ++ t)) ≡ (a ++ (b ++ (c ++ (d ++ (e ++ (f ++ g)))))) ++ (h ++ (i ++ t))
reason_at a b c d e f g h i t = simp append_assoc

length_front : (a b c d e f g : List ℕ) → length (a ++ (b ++ (c ++ (d ++ (e ++ (f ++ g)))))) ≡ length a + (length b + (length c + (length d + (length e + (length f + length g)))))
length_front a b c d e f g = omega (arith, length-append a (b ++ (c ++ (d ++ (e ++ (f ++ g))))), length-append b (c ++ (d ++ (e ++ (f ++ g)))), length-append c (d ++ (e ++ (f ++ g))), length-append d (e ++ (f ++ g)), length-append e (f ++ g), length-append f g)

pub kind_of_header : (kind size xid : ℕ) (rest : List ℕ) → kind < 256 → number_at 1 1 ((number_bytes 1 1 ++ (number_bytes 1 kind ++ (number_bytes 2 size ++ (number_bytes 4 xid ++ [])))) ++ rest) ≡ kind
kind_of_header kind size xid rest lt =
    ap (number_at 1 1) (kind_at (number_bytes 1 1) (number_bytes 1 kind) (number_bytes 2 size) (number_bytes 4 xid) rest)
    ∙ number_at-number_bytes 1 1 kind (number_bytes 1 1) (number_bytes 2 size ++ (number_bytes 4 xid ++ rest)) (length-number_bytes 1 1) (omega (arith, lt))

reason_of_body : (size cookie priority reason : ℕ) (m i t : List ℕ) → length m ≡ 40 → reason < 256
    → number_at 1 58 ((number_bytes 1 1 ++ (number_bytes 1 11 ++ (number_bytes 2 size ++ (number_bytes 4 0 ++ [])))) ++ (m ++ ((number_bytes 8 cookie ++ (number_bytes 2 priority ++ (number_bytes 1 reason ++ i))) ++ t))) ≡ reason
reason_of_body size cookie priority reason m i t len lt =
    let a = number_bytes 1 1 in
    let b = number_bytes 1 11 in
    let c = number_bytes 2 size in
    let d = number_bytes 4 0 in
    let f = number_bytes 8 cookie in
    let g = number_bytes 2 priority in
    let front = a ++ (b ++ (c ++ (d ++ (m ++ (f ++ g))))) in
    let at : length front ≡ 58 = omega (arith, length_front a b c d m f g, length-number_bytes 1 1, length-number_bytes 1 11, length-number_bytes 2 size, length-number_bytes 4 0, len, length-number_bytes 8 cookie, length-number_bytes 2 priority) in
    ap (number_at 1 58) (reason_at a b c d m f g (number_bytes 1 reason) i t) ∙ number_at-number_bytes 1 58 reason front (i ++ t) at (omega (arith, lt))

pub removed-notice : (n : Notice) → n.reason ≡ 2 → IsNotice (flow_removed_bytes n)
unfolding flow_removed_bytes message_bytes body_bytes
removed-notice n is = record {
  kind = kind_of_header 11 _ 0 (body_bytes (FlowRemoved (flow_removed n))) (omega arith);
  reason = reason_of_body _ n.removed.cookie n.removed.key.priority n.reason (match_bytes (Some n.removed.key.matching)) _ _ (length-match_bytes (Some n.removed.key.matching)) (omega (arith, is)) ∙ is;
}

pub reply_kind : (xid : ℕ) → number_at 1 1 (message_bytes xid BarrierReply) ≡ 19
unfolding message_bytes body_bytes
reply_kind xid = kind_of_header 19 _ xid (body_bytes BarrierReply) (omega arith)

abbrev pub AllNotices : List (List ℕ) → Type 0
AllNotices ws = AllByRecursion IsNotice ws

pub notices_all : (now : ℕ) (es : List Entry) → AllNotices (map flow_removed_bytes (map (notice 2 now) es))
notices_all now [] = tt
notices_all now (e ∷ es) = (removed-notice (notice 2 now e) refl, notices_all now es)

sent_by : (xid : ℕ) (k : Key) (s : SwitchState) → sent_by_message xid (FlowMod (delete_strict k)) s ≡ map flow_removed_bytes (notices_of s.moment (delete_strict k) s.table.entries)
unfolding sent_by_message sent_by_taken
sent_by xid k s = rw (not_refused k s) refl

-- what the switch sends then are notices
pub inverse_sends : (xid : ℕ) (k : Key) (s : SwitchState) → AllNotices (sent_by_message xid (FlowMod (delete_strict k)) s)
inverse_sends xid k s = subst AllNotices (sym (sent_by xid k s ∙ ap (map flow_removed_bytes) (notices_of-delete s.moment (delete_strict k) s.table.entries refl))) (notices_all s.moment _)

few_if : {X : Type 0} (here tells : Bool) (x : X) (told left xs : List X) → length told + length left ≤ length xs → length (if here && tells then x ∷ told else told) + length (if not here then x ∷ left else left) ≤ length (x ∷ xs)
few_if true true x told left xs rest = omega (arith, rest)
few_if true false x told left xs rest = omega (arith, rest)
few_if false tells x told left xs rest = omega (arith, rest)

few_told : {X : Type 0} (goes tells : X → Bool) (xs : List X) → length (filter (λ x. goes x && tells x) xs) + length (filter (λ x. not (goes x)) xs) ≤ length xs
few_told goes tells [] = omega arith
few_told goes tells (x ∷ xs) = few_if (goes x) (tells x) x (filter (λ y. goes y && tells y) xs) (filter (λ y. not (goes y)) xs) xs (few_told goes tells xs)

-- and no more of them than entries go
pub inverse_sends-few : (xid : ℕ) (k : Key) (s : SwitchState) → length (sent_by_message xid (FlowMod (delete_strict k)) s) + length (without k s.table.entries) ≤ length s.table.entries
unfolding adds
inverse_sends-few xid k s =
    let m = delete_strict k in
    let es = s.table.entries in
    let told = filter (tells m) es in
    let sent = ap length (sent_by xid k s ∙ ap (map flow_removed_bytes) (notices_of-delete s.moment m es refl)) in
    let left : without k es ≡ filter (λ e. not (deletes m e)) es = sym (removal-entries 0 0 k m es (delete-removal k)) ∙ entries_after-delete 0 0 m es refl refl in
    omega (arith, sent, length-map (map (notice 2 s.moment) told) flow_removed_bytes, length-map told (notice 2 s.moment), ap length left, few_told (deletes m) (λ e. asks_notice e.flags) es)

-- ---- The wait

no_reply : (xid : ℕ) (bytes : List ℕ) → IsNotice bytes → bytes ≡ message_bytes xid BarrierReply → ⊥
no_reply xid bytes is same =
    let kind = ap (number_at 1 1) same ∙ reply_kind xid in
    absurd (omega (arith, is.kind, kind))

-- it is no message as any other, where such ones are held or dropped
heard-notice : (a : Awaited) (bytes : List ℕ) → is_apart a.notices ≡ true → IsNotice bytes → heard a bytes ≡ hearing.Notice
unfolding heard
heard-notice a bytes apart is =
    let reply = message_bytes a.barrier BarrierReply in
    elim (cases_Bool (bytes_eq bytes reply)) [
      | inl same ↦ absurd (no_reply a.barrier bytes is ((bytes_eq-Decides bytes reply).0 same))
      | inr other ↦ rw (other, is.kind, is.reason, apart) refl
    ]

heard-other : (a : Awaited) (bytes : List ℕ) → is_apart a.notices ≡ false → IsNotice bytes → heard a bytes ≡ hearing.Other
unfolding heard
heard-other a bytes apart is =
    let reply = message_bytes a.barrier BarrierReply in
    elim (cases_Bool (bytes_eq bytes reply)) [
      | inl same ↦ absurd (no_reply a.barrier bytes is ((bytes_eq-Decides bytes reply).0 same))
      | inr other ↦ rw (other, is.kind, is.reason, apart) refl
    ]

pub notice_steps : (a : Awaited) (bytes : List ℕ) → IsNotice bytes → heard_steps a bytes ≡ Acted (Got a.dpid bytes) ∷ []
notice_steps a bytes is =
    elim (cases_Bool (is_apart a.notices)) [
      | inl apart ↦ rw (heard-notice a bytes apart is) refl
      | inr kept ↦ rw (heard-other a bytes kept is) refl
    ]

pub notices_steps : (a : Awaited) (ws : List (List ℕ)) → AllNotices ws → wait_steps a ws ≡ gots a.dpid ws
notices_steps a [] all = refl
notices_steps a (w ∷ ws) all = ap (λ (steps : List WorldStep). steps ++ wait_steps a ws) (notice_steps a w all.0) ∙ ap (λ (steps : List WorldStep). Acted (Got a.dpid w) ∷ steps) (notices_steps a ws all.1)

-- they are not kept there
pub notices_kept : (a : Awaited) (ws : List (List ℕ)) → is_apart a.notices ≡ true → AllNotices ws → kept_of a ws ≡ []
notices_kept a [] apart all = refl
notices_kept a (w ∷ ws) apart all = rw (heard-notice a w apart all.0) (notices_kept a ws apart all.1)

-- where notices wait before the reply, they alone came before it
pub notices_alone : (declared : List Declared) (a : Awaited) (ws got : List (List ℕ)) (t : State) → AllNotices ws → waits_of a.dpid t ≡ ws ++ message_bytes a.barrier BarrierReply ∷ [] → MaySteps declared (wait_steps a got ++ reply_got a ∷ []) t
    → AllByRecursion (λ b. is_reply (heard a b) ≡ false) got → got ≡ ws
notices_alone declared a [] got t all waits may before = reply_alone declared a got t waits may before
notices_alone declared a (w ∷ ws) [] t all waits may before =
    absurd (no_reply a.barrier w all.0 (sym (first_got declared a.dpid (message_bytes a.barrier BarrierReply) w (ws ++ message_bytes a.barrier BarrierReply ∷ []) [] t waits may)))
notices_alone declared a (w ∷ ws) (b ∷ bs) t all waits may before =
    let reply = message_bytes a.barrier BarrierReply in
    let is : b ≡ w = first_got declared a.dpid b w (ws ++ reply ∷ []) _ t waits may in
    let here = subst (λ (x : List ℕ). MaySteps declared ((heard_steps a x ++ wait_steps a bs) ++ reply_got a ∷ []) t) is may in
    let steps = subst (λ (xs : List WorldStep). MaySteps declared ((xs ++ wait_steps a bs) ++ reply_got a ∷ []) t) (notice_steps a w all.0) here in
    let left : waits_of a.dpid (after_step (Acted (Got a.dpid w)) t) ≡ ws ++ reply ∷ [] = waits_of-got a.dpid w t ∙ ap (drop 1) waits in
    let rest : bs ≡ ws = notices_alone declared a ws bs (after_step (Acted (Got a.dpid w)) t) all.1 left steps.1 before.1 in
    ap (λ (x : List ℕ). x ∷ bs) is ∙ ap (λ (xs : List (List ℕ)). w ∷ xs) rest
