-- What a list of calls makes of a flow table: each call as its definition says, one after another.
use Rattle.std.specs.Prelude.{◌≡◌, ℕ, ◌-◌, ◌^◌, ◌<◌, ◌≤◌, List, [], ◌∷◌, Option, Some, None}
use Rattle.of_types.specs.declared.errors.OfError.{OfError}
use Rattle.flow_table.specs.declared.notice.Notice.{Notice}
use Rattle.flow_table.specs.declared.calls.TableCall.{TableCall}
use Rattle.flow_table.specs.declared.calls.TableCall.TheVariants.{Change, Hit, Expire, AddCounts}
use Rattle.flow_table.specs.declared.calls.TableAnswer.{TableAnswer}
use Rattle.flow_table.specs.declared.calls.TableAnswer.TheVariants.{Changed, Refused, Hit as HitAt, Expired, Counted}
use Rattle.flow_table.specs.Table.{TableState, IsMoment, IsPositionOf, last_moment}
use Rattle.flow_table.specs.Change.{change, refusal, notices_of}
use Rattle.flow_table.specs.Hit.{best, hit, with_counts}
use Rattle.flow_table.specs.Expiry.{expire, expiry_notices}

-- the table after a call
unfoldable pub after_call : TableCall → TableState → TableState
after_call (Change m now cap) t = change cap now m t
after_call (Hit k len now) t = record t { entries = hit k len now t.entries }
after_call (Expire now) t = expire now t
after_call (AddCounts priority packets bytes) t = record t { entries = with_counts priority packets bytes t.entries }

-- the table after calls
abbrev pub after_calls : List TableCall → TableState → TableState
after_calls [] t = t
after_calls (c ∷ cs) t = after_calls cs (after_call c t)

-- ---- Answers

-- of a change: its first refusal, or its notices
abbrev pub IsChangeAnswer : Option OfError → List Notice → TableAnswer → Type 0
IsChangeAnswer None notices (Changed ns) = ns ≡ notices
IsChangeAnswer (Some e) notices (Refused f) = f ≡ e
IsChangeAnswer refused notices other = ⊥

abbrev pub IsHitAnswer : (Option ℕ → Type 0) → TableAnswer → Type 0
IsHitAnswer P (HitAt place) = P place
IsHitAnswer P other = ⊥

unfoldable pub IsAnswer : TableCall → TableState → TableAnswer → Type 0
IsAnswer (Change m now cap) t a = IsChangeAnswer (refusal cap m t.entries) (notices_of now m t.entries) a
IsAnswer (Hit k len now) t a = IsHitAnswer (IsPositionOf (best k t.entries) t.entries) a
IsAnswer (Expire now) t a = a ≡ Expired (expiry_notices now t.entries)
IsAnswer (AddCounts priority packets bytes) t a = a ≡ Counted

-- one answer to each call, in the table that the calls before it made
abbrev pub AreAnswers : List TableCall → TableState → List TableAnswer → Type 0
AreAnswers [] t [] = Unit {0}
AreAnswers [] t (a ∷ answers) = ⊥
AreAnswers (c ∷ cs) t [] = ⊥
AreAnswers (c ∷ cs) t (a ∷ answers) = IsAnswer c t a × AreAnswers cs (after_call c t) answers

-- ---- Which lists of calls may be made

-- when a call is made, after one at an earlier moment; counts are added at no moment of their own
abbrev pub moment_after : ℕ → TableCall → ℕ
moment_after last (Change m now cap) = now
moment_after last (Hit k len now) = now
moment_after last (Expire now) = now
moment_after last (AddCounts priority packets bytes) = last

-- moments do not go back, and none is after the last one
abbrev pub MomentsFrom : ℕ → List TableCall → Type 0
MomentsFrom last [] = Unit {0}
MomentsFrom last (c ∷ cs) = (last ≤ moment_after last c) × (moment_after last c ≤ last_moment) × MomentsFrom (moment_after last c) cs

-- from a moment on at which the table may be called, moments do not go back
pub record IsPlan (cs : List TableCall) (t : TableState) : Type 0 where
  pub start : ℕ
  pub before : IsMoment start t.entries
  pub moments : MomentsFrom start cs

-- what one call needs of the table
unfoldable pub IsAllowed : TableCall → TableState → Type 0
IsAllowed (Change m now cap) t = IsMoment now t.entries × (t.next < 2 ^ 64 - 1)
IsAllowed (Hit k len now) t = Unit {0}
IsAllowed (Expire now) t = IsMoment now t.entries
IsAllowed (AddCounts priority packets bytes) t = Unit {0}
