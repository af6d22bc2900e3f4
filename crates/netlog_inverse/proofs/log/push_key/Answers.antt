use Rattle.std.proofs.Common.{rules, ◌≡◌, ℕ, ◌+◌, ◌^◌, ◌<◌, Bool, true, false, List, [], ◌∷◌, ◌++◌, length, drop, vec_len, Some, refl, sym, ap, ◌∙◌, subst, arith}
use Rattle.std.proofs.lemmas.List.{length-append}
use Rattle.std.specs.List.{list_any, insert}
use Rattle.of_match.specs.declared.key.Key.{Key}
use Rattle.netlog_inverse.specs.declared.image.Image.{Image}
use Rattle.netlog_inverse.specs.declared.image.Logged.{Logged}
use Rattle.netlog_inverse.specs.declared.image.PutBack.{PutBack}
use Rattle.netlog_inverse.specs.declared.index.Spot.{Spot}
use Rattle.netlog_inverse.specs.Log.{is_of, logged_at, with_image}
use Rattle.netlog_inverse.specs.Index.{rank_of, IsIndex, IsBound, IsHere, key_in_put}
use Rattle.netlog_inverse.specs.laws.IndexLaws.{with-row, has-image, index-pushed, length-index}
use Rattle.netlog_inverse.proofs.log.push_key.Goals as goal

found : (log : List Logged) (index seen other : List Spot) (mark d : ℕ) (k : Key) (place : ℕ) (here : Bool) (put : PutBack) → seen ≡ index → other ≡ index → IsIndex log index → length log < 2 ^ 64 → key_in_put put ≡ Some k
    → IsBound (rank_of d k mark) seen place → IsHere d k place other here → list_any (is_of d put) (drop mark log) ≡ here
found log index seen other mark d k place here put one two h small key bound at =
    let (row, lost, is) = with-row put k key in
    ap (λ (p : PutBack). list_any (is_of d p) (drop mark log)) is
    ∙ has-image log index mark d k row lost place here h small (subst (λ (xs : List Spot). IsBound (rank_of d k mark) xs place) one bound) (subst (λ (xs : List Spot). IsHere d k place xs here) two at)

new_image : (mark d : ℕ) (log : List Logged) (i : Image) → list_any (is_of d i.put) (drop mark log) ≡ false → with_image mark d log i ≡ log ++ logged_at d i ∷ []
unfolding with_image
new_image mark d log i none = rw none refl

old_image : (mark d : ℕ) (log : List Logged) (i : Image) → list_any (is_of d i.put) (drop mark log) ≡ true → with_image mark d log i ≡ log
unfolding with_image
old_image mark d log i some = rw some refl

one_more : (mark d : ℕ) (log : List Logged) (i : Image) → list_any (is_of d i.put) (drop mark log) ≡ false → length (with_image mark d log i) ≡ length log + 1
one_more mark d log i none = ap length (new_image mark d log i none) ∙ length-append log (logged_at d i ∷ [])

pub insert_spot-requires-clause-room : goal.insert_spot-requires-clause-room
insert_spot-requires-clause-room c =
    let log = c.args.logged.now.items in
    let len : vec_len c.args.logged.now ≡ length c.args.logged.now.items = search rules in
    let none = found log c.args.index.now.items c.deref.result.now c.deref-2.result.now c.args.mark c.args.dpid c.args.key c.bound-place.result c.is_here.result c.args.image.put c.deref.ensures.value c.deref-2.ensures.value c.requires.index (omega (arith, len, c.len-at.ensures)) c.requires.key c.bound-place.ensures c.is_here.ensures ∙ c.if-not-is_here.true in
    omega (arith, one_more c.args.mark c.args.dpid log c.args.image none, length-index log c.args.index.now.items c.requires.index, c.requires.index_room)

pub push_reserved-requires : goal.push_reserved-requires
push_reserved-requires c =
    let log = c.args.logged.now.items in
    let len : vec_len c.args.logged.now ≡ length c.args.logged.now.items = search rules in
    let none = found log c.args.index.now.items c.deref.result.now c.deref-2.result.now c.args.mark c.args.dpid c.args.key c.bound-place.result c.is_here.result c.args.image.put c.deref.ensures.value c.deref-2.ensures.value c.requires.index (omega (arith, len, c.len-at.ensures)) c.requires.key c.bound-place.ensures c.is_here.ensures ∙ c.if-not-is_here.true in
    omega (arith, len, one_more c.args.mark c.args.dpid log c.args.image none, c.requires.room)

pub returns-then-not-is_here-clause-items : goal.returns-then-not-is_here-clause-items
returns-then-not-is_here-clause-items c =
    let log = c.args.logged.now.items in
    let len : vec_len c.args.logged.now ≡ length c.args.logged.now.items = search rules in
    let none = found log c.args.index.now.items c.deref.result.now c.deref-2.result.now c.args.mark c.args.dpid c.args.key c.bound-place.result c.is_here.result c.args.image.put c.deref.ensures.value c.deref-2.ensures.value c.requires.index (omega (arith, len, c.len-at.ensures)) c.requires.key c.bound-place.ensures c.is_here.ensures ∙ c.if-not-is_here.true in
    c.push_reserved.ensures.items ∙ sym (new_image c.args.mark c.args.dpid log c.args.image none)

pub returns-then-not-is_here-clause-index : goal.returns-then-not-is_here-clause-index
returns-then-not-is_here-clause-index c =
    let log = c.args.logged.now.items in
    let len : vec_len c.args.logged.now ≡ length c.args.logged.now.items = search rules in
    let at : length c.args.logged.now.items ≡ c.len-at.result = omega (arith, len, c.len-at.ensures) in
    let here : IsHere c.args.dpid c.args.key c.bound-place.result c.deref-2.result.now false = subst (λ (b : Bool). IsHere c.args.dpid c.args.key c.bound-place.result c.deref-2.result.now b) c.if-not-is_here.true c.is_here.ensures in
    let pushed = index-pushed log c.args.index.now.items c.args.mark c.args.dpid c.args.key c.bound-place.result (logged_at c.args.dpid c.args.image) c.requires.index (omega (arith, len, c.len-at.ensures)) (omega (arith, len, c.requires.mark))
    (subst (λ (xs : List Spot). IsBound (rank_of c.args.dpid c.args.key c.args.mark) xs c.bound-place.result) c.deref.ensures.value c.bound-place.ensures)
    (subst (λ (xs : List Spot). IsHere c.args.dpid c.args.key c.bound-place.result xs false) c.deref-2.ensures.value here) refl c.requires.key in
    rw (c.push_reserved.ensures.items, c.insert_spot.ensures.items)
    (subst (λ (n : ℕ). IsIndex (c.args.logged.now.items ++ logged_at c.args.dpid c.args.image ∷ []) (insert c.args.index.now.items c.bound-place.result (record { dpid = c.args.dpid; key = c.args.key; at = n }))) at pushed)

pub returns-else-not-is_here-clause-items : goal.returns-else-not-is_here-clause-items
returns-else-not-is_here-clause-items c =
    let log = c.args.logged.now.items in
    let len : vec_len c.args.logged.now ≡ length c.args.logged.now.items = search rules in
    let some = found log c.args.index.now.items c.deref.result.now c.deref-2.result.now c.args.mark c.args.dpid c.args.key c.bound-place.result c.is_here.result c.args.image.put c.deref.ensures.value c.deref-2.ensures.value c.requires.index (omega (arith, len, c.len-at.ensures)) c.requires.key c.bound-place.ensures c.is_here.ensures ∙ c.if-not-is_here.false in
    sym (old_image c.args.mark c.args.dpid log c.args.image some)
