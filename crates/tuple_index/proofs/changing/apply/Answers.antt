use Rattle.std.proofs.Common.{◌≡◌, ◌≢◌, ℕ, true, false, List, [], ◌∷◌, Result, Ok, Err, OnErr, IsTrue, map, filter, refl, sym, ◌∙◌}
use Rattle.of_wire.specs.declared.bodies.FlowMod.{FlowMod}
use Rattle.flow_table.specs.declared.entry.Entry.{Entry}
use Rattle.flow_table.specs.declared.notice.Notice.{Notice}
use Rattle.flow_table.specs.Change.{is_modify, is_delete, adds, notice, notices_of, tells}
use Rattle.flow_table.specs.laws.ChangeLaws.{is_delete-adds, is_delete-modify, is_delete-rest, notices_of-kept, notices_of-delete, entries_after-adds, entries_after-modify, entries_after-delete}
use Rattle.tuple_index.proofs.changing.apply.Goals as goal

no_map : (f : Entry → Notice) (es : List Entry) → map f es ≡ [] → es ≡ []
no_map f [] none = refl
no_map f (e ∷ es) none = absurd cc

never : {T E : Type 0} (r : Result T E) (m : FlowMod) (P : Type 0) → is_delete m ≡ false → OnErr r (IsTrue (is_delete m) → P)
never (Ok x) m P other = tt
never (Err x) m P other = λ does. absurd cc

pub returns-in_err-add-clause-without_notices : goal.returns-in_err-add-clause-without_notices
returns-in_err-add-clause-without_notices c =
    let adding : adds c.args.m.now c.args.entries.now.items ≡ true = sym c.requires.adding ∙ c.if-adding.true in
    never c.from_residual.result c.args.m.now _ (is_delete-adds c.args.m.now c.args.entries.now.items adding)

pub returns-in_ok-add-clause-notices : goal.returns-in_ok-add-clause-notices
returns-in_ok-add-clause-notices c =
    let adding : adds c.args.m.now c.args.entries.now.items ≡ true = sym c.requires.adding ∙ c.if-adding.true in
    c.new.ensures ∙ sym (notices_of-kept c.args.now c.args.m.now c.args.entries.now.items (is_delete-adds c.args.m.now c.args.entries.now.items adding))

pub returns-in_ok-add-clause-ok : goal.returns-in_ok-add-clause-ok
returns-in_ok-add-clause-ok c =
    let adding : adds c.args.m.now c.args.entries.now.items ≡ true = sym c.requires.adding ∙ c.if-adding.true in
    c.in_ok-add.ensures.ok ∙ sym (entries_after-adds c.args.now c.args.next.now c.args.m.now c.args.entries.now.items adding)

pub returns-in_ok-modify-clause-notices : goal.returns-in_ok-modify-clause-notices
returns-in_ok-modify-clause-notices c =
    let modifying : is_modify c.args.m.now ≡ true = sym c.is_modifying.ensures ∙ c.if-is_modifying.true in
    c.new-then-is_modifying.ensures ∙ sym (notices_of-kept c.args.now c.args.m.now c.args.entries.now.items (is_delete-modify c.args.m.now modifying))

pub returns-in_ok-modify-clause-ok : goal.returns-in_ok-modify-clause-ok
returns-in_ok-modify-clause-ok c =
    let adding : adds c.args.m.now c.args.entries.now.items ≡ false = sym c.requires.adding ∙ c.if-adding.false in
    let modifying : is_modify c.args.m.now ≡ true = sym c.is_modifying.ensures ∙ c.if-is_modifying.true in
    c.in_ok-modify.ensures.ok ∙ sym (entries_after-modify c.args.now c.args.next.now c.args.m.now c.args.entries.now.items adding modifying)

pub returns-else-is_modifying-clause-notices : goal.returns-else-is_modifying-clause-notices
returns-else-is_modifying-clause-notices c =
    let adding : adds c.args.m.now c.args.entries.now.items ≡ false = sym c.requires.adding ∙ c.if-adding.false in
    let modifying : is_modify c.args.m.now ≡ false = sym c.is_modifying.ensures ∙ c.if-is_modifying.false in
    let removes = is_delete-rest c.args.m.now c.args.entries.now.items c.requires.known adding modifying in
    rw (notices_of-delete c.args.now c.args.m.now c.args.entries.now.items removes) c.delete.ensures.notices

pub returns-else-is_modifying-clause-ok : goal.returns-else-is_modifying-clause-ok
returns-else-is_modifying-clause-ok c =
    let adding : adds c.args.m.now c.args.entries.now.items ≡ false = sym c.requires.adding ∙ c.if-adding.false in
    let modifying : is_modify c.args.m.now ≡ false = sym c.is_modifying.ensures ∙ c.if-is_modifying.false in
    rw (entries_after-delete c.args.now c.args.next.now c.args.m.now c.args.entries.now.items adding modifying) c.delete.ensures.ok

-- where a notice is due, the filter is not empty
due : {T E : Type 0} (r : Result T E) (now : ℕ) (m : FlowMod) (es : List Entry) → is_delete m ≡ true → OnErr r (filter (tells m) es ≢ []) → OnErr r (IsTrue (is_delete m) → notices_of now m es ≢ [])
due (Ok x) now m es removes some = tt
due (Err x) now m es removes some = λ _ none. some (no_map (notice 2 now) (filter (tells m) es) (sym (notices_of-delete now m es removes) ∙ none))

pub returns-else-is_modifying-clause-without_notices : goal.returns-else-is_modifying-clause-without_notices
returns-else-is_modifying-clause-without_notices c =
    let adding : adds c.args.m.now c.args.entries.now.items ≡ false = sym c.requires.adding ∙ c.if-adding.false in
    let modifying : is_modify c.args.m.now ≡ false = sym c.is_modifying.ensures ∙ c.if-is_modifying.false in
    let removes = is_delete-rest c.args.m.now c.args.entries.now.items c.requires.known adding modifying in
    due c.delete.result c.args.now c.args.m.now c.args.entries.now.items removes c.delete.ensures.without_notices
