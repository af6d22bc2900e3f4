-- What follows about notices: how many there are, and that how long an entry stood fits the field of a FLOW_REMOVED.
use Rattle.std.proofs.Common.{◌≡◌, ℕ, suc, ◌<◌, ◌^◌, true, ◌&&◌, nat_le, List, [], ◌∷◌, length, map, filter, Option, Some, None, refl, ap, ◌∙◌, arith}
use Rattle.std.specs.Prelude.{All}
use Rattle.std.proofs.lemmas.Bool.{cond_both, leb-true, and_parts}
use Rattle.std.proofs.lemmas.List.{length-map}
use Rattle.std.proofs.lemmas.List.Elements.{All-nil, All-map, All-weaker, filter_passes}
use Rattle.flow_timeouts.specs.declared.timeouts.Reason.{Reason}
use Rattle.of_wire.specs.declared.bodies.FlowMod.{FlowMod}
use Rattle.flow_table.specs.declared.entry.Entry.{Entry}
use Rattle.flow_table.specs.Change.{is_delete, deletes, asks_notice, notice, notices_of}
use Rattle.flow_table.specs.Expiry.{deadline, has_come, is_due, notice_at, end_of, among, by_deadline, expiry_notices}
use Rattle.switch_sim.specs.Words.{IsShort}
use Rattle.flow_table.specs.laws.ExpiryLaws.{All-by_deadline}

-- ---- Notices of a DELETE

pub AreShort-notices_of : (now : ℕ) (m : FlowMod) (es : List Entry) → now < 2 ^ 32 → All IsShort (notices_of now m es)
unfolding notices_of
AreShort-notices_of now m es within =
    cond_both (is_delete m) (map (notice 2 now) (filter (λ e. deletes m e && asks_notice e.flags) es)) [] (All IsShort)
    (λ _. All-map IsShort (notice 2 now) (filter (λ e. deletes m e && asks_notice e.flags) es) (λ k d lt. omega arith))
    (λ _. All-nil IsShort)

-- ---- Notices of a moment

length-among : (e : Entry) (es : List Entry) → length (among e es) ≡ suc (length es)
length-among e [] = refl
length-among e (f ∷ fs) =
    cond_both (nat_le (end_of e) (end_of f)) (e ∷ f ∷ fs) (f ∷ among e fs) (λ (xs : List Entry). length xs ≡ suc (suc (length fs)))
    (λ _. refl)
    (λ _. ap suc (length-among e fs))

length-by_deadline : (es : List Entry) → length (by_deadline es) ≡ length es
unfolding by_deadline
length-by_deadline [] = refl
length-by_deadline (e ∷ es) = length-among e (by_deadline es) ∙ ap suc (length-by_deadline es)

pub length-expiry_notices : (now : ℕ) (es : List Entry) → length (expiry_notices now es) ≡ length (filter (λ e. is_due now e && asks_notice e.flags) es)
unfolding expiry_notices
length-expiry_notices now es =
    let going = filter (λ e. is_due now e && asks_notice e.flags) es in
    length-map (by_deadline going) (λ e. notice_at (deadline e) e) ∙ length-by_deadline going

IsShort-at : (now : ℕ) (d : Option (ℕ × Reason)) (e : Entry) → now < 2 ^ 32 → has_come now d ≡ true → IsShort (notice_at d e)
IsShort-at now None e within due = absurd cc
IsShort-at now (Some d) e within due = omega (arith, leb-true d.0 now due)

IsShort-due : (now : ℕ) (e : Entry) → now < 2 ^ 32 → (is_due now e && asks_notice e.flags) ≡ true → IsShort (notice_at (deadline e) e)
unfolding is_due
IsShort-due now e within due = IsShort-at now (deadline e) e within (and_parts (has_come now (deadline e)) (asks_notice e.flags) due).0

pub AreShort-expiry_notices : (now : ℕ) (es : List Entry) → now < 2 ^ 32 → All IsShort (expiry_notices now es)
unfolding expiry_notices
AreShort-expiry_notices now es within =
    let going = filter (λ e. is_due now e && asks_notice e.flags) es in
    let due = All-by_deadline (λ e. (is_due now e && asks_notice e.flags) ≡ true) going (filter_passes (λ e. is_due now e && asks_notice e.flags) es) in
    All-map IsShort (λ e. notice_at (deadline e) e) (by_deadline going)
    (All-weaker (λ e. (is_due now e && asks_notice e.flags) ≡ true) (λ e. IsShort (notice_at (deadline e) e)) (λ e d. IsShort-due now e within d) (by_deadline going) due)
