-- What follows about lists of calls: each of a plan may be made, and one more call after others.
use Rattle.std.proofs.Common.{◌≡◌, ℕ, ◌+◌, ◌-◌, ◌^◌, ◌<◌, ◌≤◌, List, [], ◌∷◌, ◌++◌, All, Some, None, refl, arith, inl, inr}
use Rattle.std.proofs.lemmas.Bool.{cases_Bool}
use Rattle.of_wire.specs.declared.bodies.FlowMod.{FlowMod}
use Rattle.flow_table.specs.declared.calls.TableAnswer.{TableAnswer}
use Rattle.flow_table.specs.declared.calls.TableCall.{TableCall}
use Rattle.flow_table.specs.declared.calls.TableCall.TheVariants.{Change, Hit, Expire, AddCounts}
use Rattle.flow_table.specs.Table.{TableState, IsMoment, last_moment}
use Rattle.flow_table.specs.Change.{adds, refusal, changed, change, unless_refused}
use Rattle.flow_table.specs.Expiry.{expire}
use Rattle.flow_table.specs.Run.{after_call, after_calls, IsAnswer, AreAnswers, moment_after, MomentsFrom, IsPlan, IsAllowed}
use Rattle.flow_table.specs.laws.MomentLaws.{IsMoment-later, IsMoment-hit, IsMoment-with_counts, IsMoment-expire, IsMoment-change}

pub IsAllowed-first : (c : TableCall) (cs : List TableCall) (t : TableState) → IsPlan (c ∷ cs) t → t.next < 2 ^ 64 - 1 → IsAllowed c t
unfolding IsAllowed
IsAllowed-first (Change m now cap) cs t p serials = (IsMoment-later p.start now t.entries p.before p.moments.0 p.moments.1, serials)
IsAllowed-first (Hit k len now) cs t p serials = tt
IsAllowed-first (Expire now) cs t p serials = IsMoment-later p.start now t.entries p.before p.moments.0 p.moments.1
IsAllowed-first (AddCounts priority packets bytes) cs t p serials = tt

IsMoment-after_call : (c : TableCall) (t : TableState) (start : ℕ) → IsMoment start t.entries → start ≤ moment_after start c → moment_after start c ≤ last_moment → IsMoment (moment_after start c) (after_call c t).entries
unfolding after_call
IsMoment-after_call (Change m now cap) t start h le last = IsMoment-change cap now m t (IsMoment-later start now t.entries h le last)
IsMoment-after_call (Hit k len now) t start h le last = IsMoment-hit k len now t.entries (IsMoment-later start now t.entries h le last)
IsMoment-after_call (Expire now) t start h le last = IsMoment-expire now t (IsMoment-later start now t.entries h le last)
IsMoment-after_call (AddCounts priority packets bytes) t start h le last = IsMoment-with_counts priority packets bytes start t.entries h

next-changed : (now : ℕ) (m : FlowMod) (t : TableState) → (changed now m t).next ≤ t.next + 1
unfolding changed
next-changed now m t =
    elim (cases_Bool (adds m t.entries)) [
      | inl adding ↦ rw adding (omega arith)
      | inr other ↦ rw other (omega arith)
    ]

next-change : (cap now : ℕ) (m : FlowMod) (t : TableState) → (change cap now m t).next ≤ t.next + 1
unfolding change
next-change cap now m t =
    elim (refusal cap m t.entries) as (λ o. (unless_refused o t (changed now m t)).next ≤ t.next + 1) [ None ↦ next-changed now m t | Some e ↦ omega arith ]

pub next-after_call : (c : TableCall) (t : TableState) → (after_call c t).next ≤ t.next + 1
unfolding after_call expire
next-after_call (Change m now cap) t = next-change cap now m t
next-after_call (Hit k len now) t = omega arith
next-after_call (Expire now) t = omega arith
next-after_call (AddCounts priority packets bytes) t = omega arith

pub IsPlan-rest : (c : TableCall) (cs : List TableCall) (t : TableState) → IsPlan (c ∷ cs) t → IsPlan cs (after_call c t)
IsPlan-rest c cs t p = record {
  start = moment_after p.start c;
  before = IsMoment-after_call c t p.start p.before p.moments.0 p.moments.1;
  moments = p.moments.2;
}

MomentsFrom-earlier : (cs : List TableCall) (early late : ℕ) → early ≤ late → MomentsFrom late cs → MomentsFrom early cs
MomentsFrom-earlier [] early late le h = tt
MomentsFrom-earlier (Change m now cap ∷ cs) early late le h = (omega (arith, h.0), h.1, h.2)
MomentsFrom-earlier (Hit k len now ∷ cs) early late le h = (omega (arith, h.0), h.1, h.2)
MomentsFrom-earlier (Expire now ∷ cs) early late le h = (omega (arith, h.0), h.1, h.2)
MomentsFrom-earlier (AddCounts priority packets bytes ∷ cs) early late le h = (omega arith, omega (arith, h.1), MomentsFrom-earlier cs early late le h.2)

-- the plan may start at the last moment at which an entry was put in or used
pub IsPlan-at : (cs : List TableCall) (t : TableState) (latest : ℕ) → IsPlan cs t → ((n : ℕ) → All (λ e. e.installed ≤ n) t.entries → All (λ e. e.used ≤ n) t.entries → latest ≤ n) → (latest ≤ last_moment) × MomentsFrom latest cs
IsPlan-at cs t latest p least =
    let le = least p.start p.before.installed p.before.used in
    (omega (arith, p.before.within), MomentsFrom-earlier cs latest p.start le p.moments)

-- ---- One more call

pub after_calls-push : (cs : List TableCall) (c : TableCall) (t : TableState) → after_calls (cs ++ c ∷ []) t ≡ after_call c (after_calls cs t)
after_calls-push [] c t = refl
after_calls-push (d ∷ cs) c t = after_calls-push cs c (after_call d t)

pub AreAnswers-push : (cs : List TableCall) (answers : List TableAnswer) (c : TableCall) (a : TableAnswer) (t : TableState)
    → AreAnswers cs t answers → IsAnswer c (after_calls cs t) a → AreAnswers (cs ++ c ∷ []) t (answers ++ a ∷ [])
AreAnswers-push [] [] c a t h is = (is, tt)
AreAnswers-push [] (b ∷ answers) c a t h is = absurd h
AreAnswers-push (d ∷ cs) [] c a t h is = absurd h
AreAnswers-push (d ∷ cs) (b ∷ answers) c a t h is = (h.0, AreAnswers-push cs answers c a (after_call d t) h.1 is)
