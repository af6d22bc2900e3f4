use Rattle.std.proofs.Common.{◌≡◌, ℕ, ◌+◌, ◌^◌, ◌<◌, arith, List, [], ◌∷◌, ◌++◌, length, get_or, take, drop, drop-cons, add-one, Result, Ok, Err, OnErr, refl, sym, ap, ◌∙◌}
use Rattle.std.proofs.lemmas.List.{take_more}
use Rattle.flow_table.specs.declared.calls.TableAnswer.{TableAnswer}
use Rattle.flow_table.specs.declared.calls.TableCall.{TableCall}
use Rattle.flow_table.specs.Table.{TableState}
use Rattle.flow_table.specs.Run.{after_call, after_calls, IsPlan, IsAnswer, AreAnswers}
use Rattle.flow_table.specs.laws.RunLaws.{next-after_call, IsAllowed-first, IsPlan-rest, after_calls-push, AreAnswers-push}
use Rattle.flow_table.proofs.calls.run.Goals as goal

split : (cs : List TableCall) (i : ℕ) (c : TableCall) → i < length cs → c ≡ get_or cs i c → drop i cs ≡ c ∷ drop (i + 1) cs
split cs i c lt is = rw (add-one, drop-cons cs i c lt, sym is) refl

one_more : (cs : List TableCall) (i : ℕ) (c : TableCall) → i < length cs → c ≡ get_or cs i c → take (i + 1) cs ≡ take i cs ++ c ∷ []
one_more cs i c lt is = take_more cs i c lt ∙ ap (λ d. take i cs ++ d ∷ []) (sym is)

next : (cs : List TableCall) (i : ℕ) (c : TableCall) (first t u : TableState) → i < length cs → c ≡ get_or cs i c → t ≡ after_calls (take i cs) first → u ≡ after_call c t → u ≡ after_calls (take (i + 1) cs) first
next cs i c first t u lt is so_far made =
    made ∙ ap (after_call c) so_far ∙ sym (after_calls-push (take i cs) c first) ∙ ap (λ ds. after_calls ds first) (sym (one_more cs i c lt is))

whatever : {T E : Type 0} (r : Result T E) (P : Type 0) → P → OnErr r P
whatever (Ok x) P p = tt
whatever (Err e) P p = p

plan_on : (cs : List TableCall) (i : ℕ) (c : TableCall) (t u : TableState) → i < length cs → c ≡ get_or cs i c → IsPlan (drop i cs) t → u ≡ after_call c t → IsPlan (drop (i + 1) cs) u
plan_on cs i c t u lt is plan made = rw made (IsPlan-rest c (drop (i + 1) cs) t (rw (split cs i c lt is) at plan))

serials_on : (cs : List TableCall) (i : ℕ) (c : TableCall) (t u : TableState) → i < length cs → c ≡ get_or cs i c → t.next + length (drop i cs) < 2 ^ 64 → u ≡ after_call c t → u.next + length (drop (i + 1) cs) < 2 ^ 64
serials_on cs i c t u lt is serials made =
    let more = rw (split cs i c lt is) at serials in
    rw made (omega (arith, next-after_call c t))

answered : (cs : List TableCall) (i : ℕ) (c : TableCall) (a : TableAnswer) (answers all : List TableAnswer) (first t : TableState) → i < length cs → c ≡ get_or cs i c → t ≡ after_calls (take i cs) first
    → AreAnswers (take i cs) first answers → IsAnswer c t a → all ≡ answers ++ a ∷ [] → AreAnswers (take (i + 1) cs) first all
answered cs i c a answers all first t lt is so_far given this whole =
    rw (one_more cs i c lt is, whole) (AreAnswers-push (take i cs) answers c a first given (rw so_far at this))

-- src/calls.rt:114:22
pub make-requires : goal.make-requires
make-requires c =
    let left = split c.args.calls.now c.loop-call.call-index c.call-item.result c.loop-call-test.true c.call-item.is in
    let more = rw left at c.loop-call.invariant.serials in
    IsAllowed-first c.call-item.result _ c.loop-call.table (rw left at c.loop-call.invariant.plan) (omega arith)

-- src/calls.rt:114:9
pub returns-in_err-push-clause-err : goal.returns-in_err-push-clause-err
returns-in_err-push-clause-err c =
    whatever _ ((k : ℕ) × (c.make.new.table ≡ after_calls (take k c.args.calls.now) c.args.table.now)) (c.loop-call.call-index + 1, next c.args.calls.now c.loop-call.call-index c.call-item.result c.args.table.now c.loop-call.table c.make.new.table c.loop-call-test.true c.call-item.is c.loop-call.invariant.so_far c.in_ok-make.ensures.ok)

-- src/calls.rt:113:5
pub loop-call-preserved : goal.loop-call-preserved
loop-call-preserved c = record {
  plan = plan_on c.args.calls.now c.loop-call.call-index c.call-item.result c.loop-call.table c.make.new.table c.loop-call-test.true c.call-item.is c.loop-call.invariant.plan c.in_ok-make.ensures.ok;
  serials = serials_on c.args.calls.now c.loop-call.call-index c.call-item.result c.loop-call.table c.make.new.table c.loop-call-test.true c.call-item.is c.loop-call.invariant.serials c.in_ok-make.ensures.ok;
  so_far = next c.args.calls.now c.loop-call.call-index c.call-item.result c.args.table.now c.loop-call.table c.make.new.table c.loop-call-test.true c.call-item.is c.loop-call.invariant.so_far c.in_ok-make.ensures.ok;
  given = answered c.args.calls.now c.loop-call.call-index c.call-item.result c.in_ok-make.field-0 c.loop-call.answers.items c.push.new.self.items c.args.table.now c.loop-call.table c.loop-call-test.true c.call-item.is c.loop-call.invariant.so_far c.loop-call.invariant.given c.in_ok-make.ensures.answer c.in_ok-push.ensures.items;
}
