use Rattle.std.proofs.Common.{◌≡◌, ◌<◌, ℕ, List, length, get_or, Some, ◌∙◌, subst}
use Rattle.std.proofs.lemmas.List.{get_or_default}
use Rattle.of_match.specs.declared.key.Key.{Key}
use Rattle.tuple_index.specs.Taken.{Prevails, IsTaken, IsTakenInGroup}
use Rattle.tuple_index.specs.laws.TakenLaws.{group-first, group-keeps, group-takes}
use Rattle.tuple_index.proofs.hitting.take_group.Goals as goal

-- two keys that were read stand so whatever a read gives past the end
anywhere : (ks : List Key) (i j : ℕ) (a b : Key) → i < length ks → j < length ks → a ≡ get_or ks i a → b ≡ get_or ks j b → Prevails a b → (d : Key) → Prevails (get_or ks i d) (get_or ks j d)
anywhere ks i j a b first second read other more d =
    let left : a ≡ get_or ks i d = read ∙ get_or_default ks i a d first in
    let right : b ≡ get_or ks j d = other ∙ get_or_default ks j b d second in
    subst (λ (k : Key). Prevails (get_or ks i d) k) right (subst (λ (k : Key). Prevails k b) left more)

pub returns-in-Some-None : goal.returns-in-Some-None
returns-in-Some-None c =
    group-first c.args.k.now c.args.from c.args.end c.in-Some-None.a c.args.keys.now c.requires.group (rw c.in-Some-None.is-0 at c.requires.found) (rw c.in-Some-None.is-1 at c.taken_in_group-here.ensures)

pub returns-in-Some-Some : goal.returns-in-Some-Some
returns-in-Some-Some c =
    let before : IsTaken c.args.from c.args.k.now c.args.keys.now (Some c.in-Some-Some.a) = rw c.in-Some-Some.is-0 at c.requires.found in
    let here : IsTakenInGroup c.args.from c.args.k.now c.args.keys.now (Some c.in-Some-Some.b) = rw c.in-Some-Some.is-1 at c.taken_in_group-here.ensures in
    group-keeps c.args.k.now c.args.from c.args.end c.in-Some-Some.a c.in-Some-Some.b c.args.keys.now c.requires.group before here
    (anywhere c.args.keys.now c.in-Some-Some.a c.in-Some-Some.b c.index-keys-a.result c.index-keys-b.result before.0 here.0 c.index-keys-a.is c.index-keys-b.is c.if-prevails.ensures)

pub returns-in-Some-Some-2 : goal.returns-in-Some-Some-2
returns-in-Some-Some-2 c =
    let before : IsTaken c.args.from c.args.k.now c.args.keys.now (Some c.in-Some-Some.a) = rw c.in-Some-Some.is-0 at c.requires.found in
    let here : IsTakenInGroup c.args.from c.args.k.now c.args.keys.now (Some c.in-Some-Some.b) = rw c.in-Some-Some.is-1 at c.taken_in_group-here.ensures in
    group-takes c.args.k.now c.args.from c.args.end c.in-Some-Some.a c.in-Some-Some.b c.args.keys.now c.requires.group before here
    (anywhere c.args.keys.now c.in-Some-Some.b c.in-Some-Some.a c.index-keys-b.result c.index-keys-a.result here.0 before.0 c.index-keys-b.is c.index-keys-a.is c.if-prevails.ensures)
