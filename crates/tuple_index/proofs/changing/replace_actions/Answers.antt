use Rattle.std.proofs.Common.{◌≡◌, ◌≤◌, ◌+◌, ◌<◌, ◌++◌, ◌∷◌, [], ℕ, List, map, take, drop, length, get_or, set, sym, ap, ◌∙◌, arith, append_assoc}
use Rattle.std.specs.List.{count_by}
use Rattle.std.proofs.lemmas.List.{drop_more, take_more_set, drop-set-lt, length-set}
use Rattle.of_wire.specs.declared.bodies.FlowMod.{FlowMod}
use Rattle.flow_table.specs.declared.entry.Entry.{Entry}
use Rattle.flow_table.specs.laws.TableLaws.{an_entry}
use Rattle.flow_table.specs.Change.{modified, means}
use Rattle.tuple_index.proofs.changing.replace_actions.Goals as goal

-- what is left of a map moves to what is done
more : (f : Entry → Entry) (all ys zs : List Entry) (i : ℕ) (d : Entry) → i < length ys → all ≡ take i ys ++ map f (drop i ys) → zs ≡ set ys i (f (get_or ys i d)) → all ≡ take (i + 1) zs ++ map f (drop (i + 1) zs)
more f all ys zs i d within done is =
    let back : drop (i + 1) zs ≡ drop (i + 1) ys = ap (drop (i + 1)) is ∙ drop-set-lt (i + 1) ys i (f (get_or ys i d)) (omega arith) in
    let front : take (i + 1) zs ≡ take i ys ++ f (get_or ys i d) ∷ [] = ap (take (i + 1)) is ∙ take_more_set ys i (f (get_or ys i d)) within in
    let split : map f (drop i ys) ≡ f (get_or ys i d) ∷ map f (drop (i + 1) ys) = ap (map f) (drop_more ys i d within) in
    rw (back, front) (done ∙ rw split (sym (append_assoc (take i ys) (f (get_or ys i d) ∷ []) (map f (drop (i + 1) ys)))))

behind : (ys zs : List Entry) (i : ℕ) (x : Entry) → zs ≡ set ys i x → drop (i + 1) zs ≡ drop (i + 1) ys
behind ys zs i x is = ap (drop (i + 1)) is ∙ drop-set-lt (i + 1) ys i x (omega arith)

step : (m : FlowMod) (all ys zs : List Entry) (i n : ℕ) (d : Entry) → i < length ys → length ys ≡ length all → map (modified m) all ≡ take i ys ++ map (modified m) (drop i ys) → zs ≡ set ys i (modified m (get_or ys i d)) → count_by (means m) (drop (i + 1) ys) ≤ n → (map (modified m) all ≡ take (i + 1) zs ++ map (modified m) (drop (i + 1) zs)) × (length zs ≡ length all) × (count_by (means m) (drop (i + 1) zs) ≤ n)
step m all ys zs i n d within long done is enough = (
  more (modified m) (map (modified m) all) ys zs i d within done is,
  ap length is ∙ length-set ys i (modified m (get_or ys i d)) ∙ long,
  rw (behind ys zs i (modified m (get_or ys i d)) is) enough,
)

pub loop-i-preserved : goal.loop-i-preserved
loop-i-preserved c =
    let within : c.loop-i.i < length c.loop-i.entries.items = omega arith in
    let d : Entry = an_entry c.loop-i.entries.items c.loop-i.i within in
    let all = step c.args.m.now c.args.entries.now.items c.loop-i.entries.items c.replace_at.new.entries.items c.loop-i.i (length c.replace_at.new.copies.items) d within c.loop-i.invariant.long c.loop-i.invariant.done (c.replace_at.ensures.entries d) c.replace_at.ensures.enough in
    record { done = all.0; long = all.1; enough = all.2; same = c.replace_at.ensures.same }
