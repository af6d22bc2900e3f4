use Rattle.std.proofs.Common.{rules, ◌^◌, ◌<◌, ℕ, Option, length, get_or, refl, sym, subst, ◌∙◌, arith}
use Rattle.netlog_inverse.specs.Next.{Sought, IsFirstFrom}
use Rattle.netlog_inverse.specs.laws.NextLaws.{found-not, found-wanted}
use Rattle.netlog_inverse.specs.laws.MendKeyLaws.{first-within}
use Rattle.netlog_inverse.proofs.sending.wanted_at.Goals as goal

pub bounds-logged-at : goal.bounds-logged-at
bounds-logged-at c =
    let small : length c.args.logged.now < 2 ^ 64 = first_of (omega arith, search rules) in
    first-within c.args.dpid c.args.key.now c.args.mark c.in-Some.at c.args.logged.now
    (subst (λ (o : Option ℕ). IsFirstFrom c.args.dpid c.args.key.now c.args.mark c.args.logged.now o) c.in-Some.is (c.first_from.ensures c.args.logged.now c.requires.index small))

pub offset_bounds-logged-at : goal.offset_bounds-logged-at
offset_bounds-logged-at c =
    let small : length c.args.logged.now < 2 ^ 64 = first_of (omega arith, search rules) in
    let within : c.in-Some.at < length c.args.logged.now = first-within c.args.dpid c.args.key.now c.args.mark c.in-Some.at c.args.logged.now
    (subst (λ (o : Option ℕ). IsFirstFrom c.args.dpid c.args.key.now c.args.mark c.args.logged.now o) c.in-Some.is (c.first_from.ensures c.args.logged.now c.requires.index small)) in
    search rules

pub returns-then-not-is_wanted : goal.returns-then-not-is_wanted
returns-then-not-is_wanted c =
    let s : Sought = record { kind = c.args.kind; dpid = c.args.dpid; mark = c.args.mark; log = c.args.logged.now; rows = c.args.rows.now } in
    let small : length c.args.logged.now < 2 ^ 64 = first_of (omega arith, search rules) in
    let first = subst (λ (o : Option ℕ). IsFirstFrom c.args.dpid c.args.key.now c.args.mark c.args.logged.now o) c.in-Some.is (c.first_from.ensures c.args.logged.now c.requires.index small) in
    found-not s c.args.key.now c.in-Some.at (get_or c.args.logged.now c.in-Some.at c.index-logged-at.result) c.index-logged-at.result first refl (sym c.is_wanted.ensures ∙ c.if-not-is_wanted.true)

pub returns-in-Some-key_of_put : goal.returns-in-Some-key_of_put
returns-in-Some-key_of_put c =
    let s : Sought = record { kind = c.args.kind; dpid = c.args.dpid; mark = c.args.mark; log = c.args.logged.now; rows = c.args.rows.now } in
    let small : length c.args.logged.now < 2 ^ 64 = first_of (omega arith, search rules) in
    let first = subst (λ (o : Option ℕ). IsFirstFrom c.args.dpid c.args.key.now c.args.mark c.args.logged.now o) c.in-Some.is (c.first_from.ensures c.args.logged.now c.requires.index small) in
    found-wanted s c.args.key.now (record { at = c.in-Some.at; key = c.in-Some-key_of_put.key }) (get_or c.args.logged.now c.in-Some.at c.index-logged-at.result) c.index-logged-at.result first refl
    (sym c.is_wanted.ensures ∙ c.if-not-is_wanted.false) (sym c.key_of_put.ensures ∙ c.in-Some-key_of_put.is)
