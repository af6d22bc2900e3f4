use Rattle.std.proofs.Common.{◌≡◌, ◌≢◌, ℕ, ◌<◌, List, length, get_or, set, ◌∙◌, subst, arith}
use Rattle.std.specs.List.{insert}
use Rattle.of_types.specs.declared.port_desc.PortDesc.{PortDesc}
use Rattle.flow_table.specs.Sorted.{with_item, port_number, IsPortPlace}
use Rattle.flow_table.specs.laws.PortLaws.{port-found, port-absent, IsPortPlace-le}
use Rattle.net_txn.proofs.ports.put_port.Goals as goal

pub insert-requires : goal.insert-requires
insert-requires c = omega (arith, IsPortPlace-le c.args.port.port_no c.deref.result.now c.position_of-at.result c.position_of-at.ensures, c.deref.ensures.len)

found : (rows seen here : List PortDesc) (r : PortDesc) (i : ℕ) → seen ≡ rows → here ≡ rows → IsPortPlace r.port_no seen i → i < length here → r.port_no ≡ (get_or here i r).port_no → set rows i r ≡ with_item port_number r rows
found rows seen here r i e f is within same =
    port-found r rows i (subst (λ (xs : List PortDesc). IsPortPlace r.port_no xs i) e is) (rw f at within) (rw f at same)

absent : (rows seen here : List PortDesc) (r : PortDesc) (i : ℕ) → seen ≡ rows → here ≡ rows → IsPortPlace r.port_no seen i → (i < length here → r.port_no ≢ (get_or here i r).port_no) → insert rows i r ≡ with_item port_number r rows
absent rows seen here r i e f is other =
    port-absent r rows i (subst (λ (xs : List PortDesc). IsPortPlace r.port_no xs i) e is) (subst (λ (xs : List PortDesc). i < length xs → r.port_no ≢ (get_or xs i r).port_no) f other)

pub returns-then-stands_at-clause-ok : goal.returns-then-stands_at-clause-ok
returns-then-stands_at-clause-ok c =
    let s = c.stands_at.ensures in
    found _ c.deref.result.now c.deref-2.result.now c.args.port c.position_of-at.result c.deref.ensures.value c.deref-2.ensures.value c.position_of-at.ensures (s.within c.if-stands_at.true) (s.same c.args.port c.if-stands_at.true)

pub returns-in_ok-insert-clause-ok : goal.returns-in_ok-insert-clause-ok
returns-in_ok-insert-clause-ok c =
    let s = c.stands_at.ensures in
    c.in_ok-insert.ensures.items ∙ absent _ c.deref.result.now c.deref-2.result.now c.args.port c.position_of-at.result c.deref.ensures.value c.deref-2.ensures.value c.position_of-at.ensures (s.other c.args.port c.if-stands_at.false)
