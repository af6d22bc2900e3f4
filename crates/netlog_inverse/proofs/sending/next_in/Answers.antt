use Rattle.std.proofs.Common.{rules, ◌^◌, ◌<◌, ◌≤◌, Option, Some, length, sym, ap, subst, ◌∙◌, arith}
use Rattle.netlog_inverse.specs.declared.index.Spot.{Spot}
use Rattle.netlog_inverse.specs.declared.sending.Wanted.{Wanted}
use Rattle.netlog_inverse.specs.Next.{Sought, IsFoundFor}
use Rattle.netlog_inverse.specs.laws.NextLaws.{others-behind, next-none, next-some}
use Rattle.netlog_inverse.proofs.sending.next_in.Goals as goal

pub returns-then-spot-dpid : goal.returns-then-spot-dpid
returns-then-spot-dpid c =
    let s : Sought = record { kind = c.args.kind; dpid = c.args.dpid; mark = c.args.mark; log = c.args.logged.now; rows = c.args.rows.now } in
    let small : length c.args.logged.now < 2 ^ 64 = first_of (omega arith, search rules) in
    let from : c.start-first.result ≤ c.loop-place.place = omega arith in
    let inside : c.loop-place.place < length c.args.index.now = omega arith in
    let x : Spot = c.index-index-place.result in
    next-none s c.args.index.now c.args.after c.start-first.result c.loop-place.place x c.requires.index small c.start-first.ensures
    (λ j least most. c.loop-place.invariant j x least most)
    (others-behind c.args.logged.now c.args.index.now c.args.dpid c.args.after c.start-first.result c.loop-place.place x c.requires.index small c.start-first.ensures from inside
    (λ same. c.if-spot-dpid.true (ap (λ (y : Spot). y.dpid) c.index-index-place.is ∙ same)))

pub returns-in-Some : goal.returns-in-Some
returns-in-Some c =
    let s : Sought = record { kind = c.args.kind; dpid = c.args.dpid; mark = c.args.mark; log = c.args.logged.now; rows = c.args.rows.now } in
    let small : length c.args.logged.now < 2 ^ 64 = first_of (omega arith, search rules) in
    let from : c.start-first.result ≤ c.loop-place.place = omega arith in
    let inside : c.loop-place.place < length c.args.index.now = omega arith in
    let x : Spot = c.index-index-place.result in
    next-some s c.args.index.now c.args.after c.start-first.result c.loop-place.place x c.in-Some.wanted c.requires.index small c.start-first.ensures from inside
    (sym (ap (λ (y : Spot). y.dpid) c.index-index-place.is) ∙ c.if-spot-dpid.false) (λ j least most. c.loop-place.invariant j x least most)
    (subst (λ (y : Spot). IsFoundFor s y.key (Some c.in-Some.wanted)) c.index-index-place.is (subst (λ (o : Option Wanted). IsFoundFor s x.key o) c.in-Some.is c.wanted_at.ensures))

pub returns : goal.returns
returns c = λ k behind.
    let s : Sought = record { kind = c.args.kind; dpid = c.args.dpid; mark = c.args.mark; log = c.args.logged.now; rows = c.args.rows.now } in
    let small : length c.args.logged.now < 2 ^ 64 = first_of (omega arith, search rules) in
    let x : Spot = record { dpid = c.args.dpid; key = k; at = 0 } in
    next-none s c.args.index.now c.args.after c.start-first.result c.loop-place.place x c.requires.index small c.start-first.ensures
    (λ j least most. c.loop-place.invariant j x least most) (λ j ge lt. absurd (omega arith)) k behind
