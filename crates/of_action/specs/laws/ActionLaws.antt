-- Laws of actions: what is written is spelled so, what is spelled is read, and what is read was spelled.
use Rattle.std.proofs.Common.{◌≡◌, ℕ, zero, suc, ◌+◌, ◌≤◌, ◌<◌, ◌%◌, Bool, true, false, cond, eqb, ltb, leb, ◌||◌, not, List, [], ◌∷◌, ◌++◌, length, take, drop, Some, None, Result, Ok, Err, refl, sym, subst, ◌∙◌, arith, eq-eqb}
use Rattle.std.proofs.Common.{ap, get_or, inl, inr, ◌-◌}
use Rattle.std.proofs.lemmas.Bool.{cases_lt}
use Rattle.std.proofs.lemmas.List.{get_or-take, get_or-drop, get_or-append_right}
use Rattle.std.specs.Prelude.{IfOk}
use Rattle.std.proofs.lemmas.Bool.{eqb-true, eqb-false, le-ltb, or_parts, not-false, cond_both, ne_eqb, lt-leb}
use Rattle.std.proofs.lemmas.List.{append-nil, take_at, take_all, drop_at, drop_all, length-take, length-drop, length-append, nil_from_length}
use Rattle.std.proofs.lemmas.List.Sums.{sum_by-cons}
use Rattle.of_types.specs.Fields.{number_at, piece, IsBytes}
use Rattle.of_types.specs.Layout.{spelled, width, AreFields, IsLaidOut}
use Rattle.of_types.specs.laws.FieldLaws.{IsBytes-take, IsBytes-drop, number_at-lt, number_at-take}
use Rattle.of_types.specs.laws.LayoutLaws.{IsLaidOut-spelled, length-spelled, same_but_pads}
use Rattle.of_action.specs.declared.action.Action.{Action}
use Rattle.of_action.specs.declared.action.Action.TheVariants.{Output, SetVlanVid, SetVlanPcp, StripVlan, SetDlSrc, SetDlDst, SetNwSrc, SetNwDst, SetNwTos, SetTpSrc, SetTpDst, Enqueue, Vendor}
use Rattle.of_action.specs.declared.fault.ActionKind.TheVariants.{BadLen}
use Rattle.of_action.specs.declared.fault.ActionFault.{ActionFault}
use Rattle.of_action.specs.Spelling.{kind_of, action_size, body_fields, action_fields, action_bytes, list_bytes, list_size, IsAction, AreActions, Spell, InPads, SameButPads}
use Rattle.of_action.specs.Reading.{◌>>=◌, Gives, table_length, if_table_has, length_at, action_of, action_at, actions_from, actions_of}
use Rattle.of_action.specs.laws.ReadingLaws.{guard_ok, bind_ok, table_ok, IsLength-length_at, action_at-ok}

-- ---- what is written is spelled so

pub width-action_fields : (action : Action) → width (action_fields action) ≡ action_size action
width-action_fields (Output port max_len) = refl
width-action_fields (SetVlanVid vid) = refl
width-action_fields (SetVlanPcp pcp) = refl
width-action_fields StripVlan = refl
width-action_fields (SetDlSrc address) = refl
width-action_fields (SetDlDst address) = refl
width-action_fields (SetNwSrc address) = refl
width-action_fields (SetNwDst address) = refl
width-action_fields (SetNwTos tos) = refl
width-action_fields (SetTpSrc port) = refl
width-action_fields (SetTpDst port) = refl
width-action_fields (Enqueue port queue) = refl
width-action_fields (Vendor body) = omega arith

pub length-action_bytes : (action : Action) → IsAction action → length (action_bytes action) ≡ action_size action
unfolding action_bytes
length-action_bytes action fits = length-spelled (action_fields action) fits.fields ∙ width-action_fields action

pub Spell-list_bytes : (actions : List Action) → AreActions actions → Spell actions (list_bytes actions)
unfolding action_bytes
Spell-list_bytes [] fit = refl
Spell-list_bytes (action ∷ actions) fit =
    let bytes = spelled (action_fields action) in
    let size : length bytes ≡ action_size action = length-action_bytes action fit.0 in
    let front : take (action_size action) (bytes ++ list_bytes actions) ≡ bytes = take_at bytes (list_bytes actions) (action_size action) size in
    let rest : drop (action_size action) (bytes ++ list_bytes actions) ≡ list_bytes actions = drop_at bytes (list_bytes actions) (action_size action) size in
    let laid : IsLaidOut 0 (action_fields action) [] (bytes ++ []) = IsLaidOut-spelled 0 (action_fields action) [] [] refl fit.0.fields in (
      omega (arith, size, length-append bytes (list_bytes actions)),
      (
        subst (λ (b : List ℕ). IsLaidOut 0 (action_fields action) [] b) (append-nil bytes ∙ sym front) laid,
        subst (λ (b : List ℕ). Spell actions b) (sym rest) (Spell-list_bytes actions fit.1),
      ),
    )

pub length-list_bytes : (actions : List Action) → AreActions actions → length (list_bytes actions) ≡ list_size actions
length-list_bytes [] fit = refl
length-list_bytes (action ∷ actions) fit =
    let first = length-action_bytes action fit.0 in
    let others = length-list_bytes actions fit.1 in
    omega (arith, first, others, length-append (action_bytes action) (list_bytes actions), sum_by-cons action_size action actions)

-- ---- what is spelled is read

table_length-kind_of : (action : Action) → table_length (kind_of action) (action_size action) ≡ Some (action_size action)
unfolding table_length
table_length-kind_of (Output port max_len) = refl
table_length-kind_of (SetVlanVid vid) = refl
table_length-kind_of (SetVlanPcp pcp) = refl
table_length-kind_of StripVlan = refl
table_length-kind_of (SetDlSrc address) = refl
table_length-kind_of (SetDlDst address) = refl
table_length-kind_of (SetNwSrc address) = refl
table_length-kind_of (SetNwDst address) = refl
table_length-kind_of (SetNwTos tos) = refl
table_length-kind_of (SetTpSrc port) = refl
table_length-kind_of (SetTpDst port) = refl
table_length-kind_of (Enqueue port queue) = refl
table_length-kind_of (Vendor body) = refl

eight-le : (n : ℕ) → 0 < n → n % 8 ≡ 0 → 8 ≤ n
eight-le n some whole = omega arith

action_size_pos : (action : Action) → 0 < action_size action
action_size_pos (Output port max_len) = omega arith
action_size_pos (SetVlanVid vid) = omega arith
action_size_pos (SetVlanPcp pcp) = omega arith
action_size_pos StripVlan = omega arith
action_size_pos (SetDlSrc address) = omega arith
action_size_pos (SetDlDst address) = omega arith
action_size_pos (SetNwSrc address) = omega arith
action_size_pos (SetNwDst address) = omega arith
action_size_pos (SetNwTos tos) = omega arith
action_size_pos (SetTpSrc port) = omega arith
action_size_pos (SetTpDst port) = omega arith
action_size_pos (Enqueue port queue) = omega arith
action_size_pos (Vendor body) = omega arith

pub eight-le-action_size : (action : Action) → IsAction action → 8 ≤ action_size action
eight-le-action_size action fits = eight-le (action_size action) (action_size_pos action) fits.whole

-- a length that stands there, fits and is the table's
length_at-head : (kind len : ℕ) (bytes : List ℕ) → number_at 2 0 bytes ≡ kind → number_at 2 2 bytes ≡ len → 8 ≤ len → len % 8 ≡ 0 → len ≤ length bytes → table_length kind len ≡ Some len → length_at bytes ≡ Ok len
unfolding length_at
length_at-head kind len bytes k l least whole within has =
    let enough : ltb (length bytes) 4 ≡ false = le-ltb _ _ (omega arith) in
    let long : ltb len 8 ≡ false = le-ltb _ _ least in
    let there : ltb (length bytes) len ≡ false = le-ltb _ _ within in
    rw (enough, l, k, long, whole, there, has, eqb_true len) refl
  where
    eqb_true : (n : ℕ) → eqb n n ≡ true
    eqb_true n = eq-eqb n n refl

-- the value, from bytes that are laid out so
action_of-laid_out : (action : Action) (bytes : List ℕ) → length bytes ≡ action_size action → IsLaidOut 0 (action_fields action) [] bytes → action_of (kind_of action) bytes ≡ action
unfolding action_of
action_of-laid_out (Output port max_len) bytes len h = rw (h.1.1.0, h.1.1.1.0) refl
action_of-laid_out (SetVlanVid vid) bytes len h = rw h.1.1.0 refl
action_of-laid_out (SetVlanPcp pcp) bytes len h = rw h.1.1.0 refl
action_of-laid_out StripVlan bytes len h = refl
action_of-laid_out (SetDlSrc address) bytes len h = rw h.1.1.0 refl
action_of-laid_out (SetDlDst address) bytes len h = rw h.1.1.0 refl
action_of-laid_out (SetNwSrc address) bytes len h = rw h.1.1.0 refl
action_of-laid_out (SetNwDst address) bytes len h = rw h.1.1.0 refl
action_of-laid_out (SetNwTos tos) bytes len h = rw h.1.1.0 refl
action_of-laid_out (SetTpSrc port) bytes len h = rw h.1.1.0 refl
action_of-laid_out (SetTpDst port) bytes len h = rw h.1.1.0 refl
action_of-laid_out (Enqueue port queue) bytes len h = rw (h.1.1.0, h.1.1.1.0) refl
action_of-laid_out (Vendor body) bytes len h =
    let all : take (length body) (drop 4 bytes) ≡ drop 4 bytes = take_all (length body) (drop 4 bytes) (omega (arith, length-drop 4 bytes)) in
    rw (sym all ∙ h.1.1.0) refl

action_at-laid_out : (place : ℕ) (action : Action) (bytes : List ℕ) → IsAction action → action_size action ≤ length bytes → IsLaidOut 0 (action_fields action) [] (take (action_size action) bytes) → action_at place bytes ≡ Ok (action, action_size action)
unfolding action_at
action_at-laid_out place action bytes fits within h =
    let size = action_size action in
    let least = eight-le-action_size action fits in
    let kind : number_at 2 0 bytes ≡ kind_of action = sym (number_at-take 2 0 size bytes (omega arith)) ∙ h.0 in
    let len : number_at 2 2 bytes ≡ size = sym (number_at-take 2 2 size bytes (omega arith)) ∙ h.1.0 in
    let found = length_at-head (kind_of action) size bytes kind len least fits.whole within (table_length-kind_of action) in
    let value = action_of-laid_out action (take size bytes) (omega (arith, length-take size bytes)) h in
    rw (found, kind, value) refl

actions_from-Spell : (steps place : ℕ) (actions : List Action) (bytes : List ℕ) → length bytes ≤ steps → AreActions actions → Spell actions bytes → actions_from steps place bytes ≡ Ok actions
unfolding actions_from
actions_from-Spell zero place [] bytes le fit h = refl
actions_from-Spell (suc steps) place [] bytes le fit h = rw h refl
actions_from-Spell zero place (action ∷ actions) bytes le fit h =
    absurd (omega (arith, h.0, eight-le-action_size action fit.0))
actions_from-Spell (suc steps) place (action ∷ actions) bytes le fit h =
    let size = action_size action in
    let least = eight-le-action_size action fit.0 in
    let some : eqb (length bytes) 0 ≡ false = ne_eqb _ _ (λ none. omega (arith, none, h.0)) in
    let first = action_at-laid_out place action bytes fit.0 h.0 h.1.0 in
    let others = actions_from-Spell steps (place + size) actions (drop size bytes) (omega (arith, length-drop size bytes, h.0)) fit.1 h.1.1 in
    rw (some, first, others) refl

pub actions_of-Spell : (actions : List Action) (bytes : List ℕ) → AreActions actions → Spell actions bytes → actions_of bytes ≡ Ok actions
unfolding actions_of
actions_of-Spell actions bytes fit h = actions_from-Spell (length bytes) 0 actions bytes (omega arith) fit h

-- ---- what is read was spelled

-- what is known of an action's bytes, all of them
record IsHead (kind len : ℕ) (bytes : List ℕ) : Type 0 where
  bytes_fit : IsBytes bytes
  size : length bytes ≡ len
  kind_there : number_at 2 0 bytes ≡ kind
  len_there : number_at 2 2 bytes ≡ len
  whole : len % 8 ≡ 0
  least : 8 ≤ len

record WasSpelled (action : Action) (len : ℕ) (bytes : List ℕ) : Type 0 where
  fits : IsAction action
  size : action_size action ≡ len
  laid : IsLaidOut 0 (action_fields action) [] bytes

-- an action of 8 bytes, by its body
was_spelled : (action : Action) (len : ℕ) (bytes : List ℕ) → IsHead (kind_of action) len bytes → action_size action ≡ len → AreFields (body_fields action) → IsLaidOut 4 (body_fields action) [] bytes → kind_of action < 65536 → WasSpelled action len bytes
was_spelled action len bytes head size fields laid kind =
    let small : len < 65536 = rw (← head.len_there) (number_at-lt 2 2 bytes head.bytes_fit) in
    record {
      fits = record { fields = (kind, (rw size small, fields)); whole = rw size head.whole };
      size = size;
      laid = (head.kind_there, (rw size head.len_there, laid));
    }

half : (at len kind : ℕ) (bytes : List ℕ) → IsHead kind len bytes → number_at 2 at bytes < 65536
half at len kind bytes head = number_at-lt 2 at bytes head.bytes_fit

word : (at len kind : ℕ) (bytes : List ℕ) → IsHead kind len bytes → number_at 4 at bytes < 4294967296
word at len kind bytes head = number_at-lt 4 at bytes head.bytes_fit

byte : (at len kind : ℕ) (bytes : List ℕ) → IsHead kind len bytes → number_at 1 at bytes < 256
byte at len kind bytes head = number_at-lt 1 at bytes head.bytes_fit

six : (len kind : ℕ) (bytes : List ℕ) → IsHead kind len bytes → 16 ≤ len → length (piece 6 4 bytes) ≡ 6
six len kind bytes head wide = omega (arith, length-take 6 (drop 4 bytes), length-drop 4 bytes, head.size)

end : (n len kind : ℕ) (bytes : List ℕ) → IsHead kind len bytes → len ≤ n → drop n bytes ≡ []
end n len kind bytes head le = drop_all n bytes (omega (arith, head.size))

-- one action of each type

output : (len : ℕ) (bytes : List ℕ) → table_length 0 len ≡ Some len → IsHead 0 len bytes → WasSpelled (Output (number_at 2 4 bytes) (number_at 2 6 bytes)) len bytes
unfolding table_length
output len bytes has head =
    let size : 8 ≡ len = cc in
    was_spelled (Output (number_at 2 4 bytes) (number_at 2 6 bytes)) len bytes head size (half 4 len 0 bytes head, (half 6 len 0 bytes head, tt)) (refl, (refl, end 8 len 0 bytes head (omega arith))) (omega arith)

vlan_vid : (len : ℕ) (bytes : List ℕ) → table_length 1 len ≡ Some len → IsHead 1 len bytes → WasSpelled (SetVlanVid (number_at 2 4 bytes)) len bytes
unfolding table_length
vlan_vid len bytes has head =
    let size : 8 ≡ len = cc in
    was_spelled (SetVlanVid (number_at 2 4 bytes)) len bytes head size (half 4 len 1 bytes head, tt) (refl, end 8 len 1 bytes head (omega arith)) (omega arith)

vlan_pcp : (len : ℕ) (bytes : List ℕ) → table_length 2 len ≡ Some len → IsHead 2 len bytes → WasSpelled (SetVlanPcp (number_at 1 4 bytes)) len bytes
unfolding table_length
vlan_pcp len bytes has head =
    let size : 8 ≡ len = cc in
    was_spelled (SetVlanPcp (number_at 1 4 bytes)) len bytes head size (byte 4 len 2 bytes head, tt) (refl, end 8 len 2 bytes head (omega arith)) (omega arith)

strip : (len : ℕ) (bytes : List ℕ) → table_length 3 len ≡ Some len → IsHead 3 len bytes → WasSpelled StripVlan len bytes
unfolding table_length
strip len bytes has head =
    let size : 8 ≡ len = cc in
    was_spelled StripVlan len bytes head size tt (end 8 len 3 bytes head (omega arith)) (omega arith)

dl_src : (len : ℕ) (bytes : List ℕ) → table_length 4 len ≡ Some len → IsHead 4 len bytes → WasSpelled (SetDlSrc (piece 6 4 bytes)) len bytes
unfolding table_length
dl_src len bytes has head =
    let size : 16 ≡ len = cc in
    was_spelled (SetDlSrc (piece 6 4 bytes)) len bytes head size (six len 4 bytes head (omega arith), tt) (refl, end 16 len 4 bytes head (omega arith)) (omega arith)

dl_dst : (len : ℕ) (bytes : List ℕ) → table_length 5 len ≡ Some len → IsHead 5 len bytes → WasSpelled (SetDlDst (piece 6 4 bytes)) len bytes
unfolding table_length
dl_dst len bytes has head =
    let size : 16 ≡ len = cc in
    was_spelled (SetDlDst (piece 6 4 bytes)) len bytes head size (six len 5 bytes head (omega arith), tt) (refl, end 16 len 5 bytes head (omega arith)) (omega arith)

nw_src : (len : ℕ) (bytes : List ℕ) → table_length 6 len ≡ Some len → IsHead 6 len bytes → WasSpelled (SetNwSrc (number_at 4 4 bytes)) len bytes
unfolding table_length
nw_src len bytes has head =
    let size : 8 ≡ len = cc in
    was_spelled (SetNwSrc (number_at 4 4 bytes)) len bytes head size (word 4 len 6 bytes head, tt) (refl, end 8 len 6 bytes head (omega arith)) (omega arith)

nw_dst : (len : ℕ) (bytes : List ℕ) → table_length 7 len ≡ Some len → IsHead 7 len bytes → WasSpelled (SetNwDst (number_at 4 4 bytes)) len bytes
unfolding table_length
nw_dst len bytes has head =
    let size : 8 ≡ len = cc in
    was_spelled (SetNwDst (number_at 4 4 bytes)) len bytes head size (word 4 len 7 bytes head, tt) (refl, end 8 len 7 bytes head (omega arith)) (omega arith)

nw_tos : (len : ℕ) (bytes : List ℕ) → table_length 8 len ≡ Some len → IsHead 8 len bytes → WasSpelled (SetNwTos (number_at 1 4 bytes)) len bytes
unfolding table_length
nw_tos len bytes has head =
    let size : 8 ≡ len = cc in
    was_spelled (SetNwTos (number_at 1 4 bytes)) len bytes head size (byte 4 len 8 bytes head, tt) (refl, end 8 len 8 bytes head (omega arith)) (omega arith)

tp_src : (len : ℕ) (bytes : List ℕ) → table_length 9 len ≡ Some len → IsHead 9 len bytes → WasSpelled (SetTpSrc (number_at 2 4 bytes)) len bytes
unfolding table_length
tp_src len bytes has head =
    let size : 8 ≡ len = cc in
    was_spelled (SetTpSrc (number_at 2 4 bytes)) len bytes head size (half 4 len 9 bytes head, tt) (refl, end 8 len 9 bytes head (omega arith)) (omega arith)

tp_dst : (len : ℕ) (bytes : List ℕ) → table_length 10 len ≡ Some len → IsHead 10 len bytes → WasSpelled (SetTpDst (number_at 2 4 bytes)) len bytes
unfolding table_length
tp_dst len bytes has head =
    let size : 8 ≡ len = cc in
    was_spelled (SetTpDst (number_at 2 4 bytes)) len bytes head size (half 4 len 10 bytes head, tt) (refl, end 8 len 10 bytes head (omega arith)) (omega arith)

enqueue : (len : ℕ) (bytes : List ℕ) → table_length 11 len ≡ Some len → IsHead 11 len bytes → WasSpelled (Enqueue (number_at 2 4 bytes) (number_at 4 12 bytes)) len bytes
unfolding table_length
enqueue len bytes has head =
    let size : 16 ≡ len = cc in
    was_spelled (Enqueue (number_at 2 4 bytes) (number_at 4 12 bytes)) len bytes head size (half 4 len 11 bytes head, (word 12 len 11 bytes head, tt)) (refl, (refl, end 16 len 11 bytes head (omega arith))) (omega arith)

vendor : (len : ℕ) (bytes : List ℕ) → IsHead 65535 len bytes → WasSpelled (Vendor (drop 4 bytes)) len bytes
vendor len bytes head =
    let rest : length (drop 4 bytes) + 4 ≡ len = omega (arith, length-drop 4 bytes, head.size, head.least) in
    let all : take (length (drop 4 bytes)) (drop 4 bytes) ≡ drop 4 bytes = take_all (length (drop 4 bytes)) (drop 4 bytes) (omega arith) in
    was_spelled (Vendor (drop 4 bytes)) len bytes head rest (refl, tt) (all, end (4 + length (drop 4 bytes)) len 65535 bytes head (omega (arith, rest))) (omega arith)

-- no type above 11 but that of vendors is in the table
is_vendor : (kind len : ℕ) → 11 < kind → table_length kind len ≡ Some len → kind ≡ 65535
unfolding table_length
is_vendor kind len high has =
    let four : eqb kind 4 ≡ false = ne_eqb _ _ (λ e. omega (arith, e)) in
    let five : eqb kind 5 ≡ false = ne_eqb _ _ (λ e. omega (arith, e)) in
    let eleven : eqb kind 11 ≡ false = ne_eqb _ _ (λ e. omega (arith, e)) in
    let ten : leb kind 10 ≡ false = lt-leb _ _ (omega arith) in
    let rest : cond (eqb kind 65535) (Some len) None ≡ Some len = rw (four, five, eleven, ten) at has in
    is_it (eqb kind 65535) refl rest
  where
    is_it : (b : Bool) → eqb kind 65535 ≡ b → cond b (Some len) None ≡ Some len → kind ≡ 65535
    is_it true t e = eqb-true kind 65535 t
    is_it false t e = absurd cc

next : (kind k : ℕ) → k ≤ kind → eqb kind k ≡ false → suc k ≤ kind
next kind k le e = let ne = eqb-false kind k e in omega arith

above : (kind : ℕ) → eqb kind 0 ≡ false → eqb kind 1 ≡ false → eqb kind 2 ≡ false → eqb kind 3 ≡ false → eqb kind 4 ≡ false → eqb kind 5 ≡ false → eqb kind 6 ≡ false → eqb kind 7 ≡ false → eqb kind 8 ≡ false → eqb kind 9 ≡ false → eqb kind 10 ≡ false → eqb kind 11 ≡ false → 11 < kind
above kind n0 n1 n2 n3 n4 n5 n6 n7 n8 n9 n10 n11 =
    next kind 11 (next kind 10 (next kind 9 (next kind 8 (next kind 7 (next kind 6 (next kind 5 (next kind 4 (next kind 3 (next kind 2 (next kind 1 (next kind 0 (omega arith) n0) n1) n2) n3) n4) n5) n6) n7) n8) n9) n10) n11

action_of-was_spelled : (kind len : ℕ) (bytes : List ℕ) → table_length kind len ≡ Some len → IsHead kind len bytes → WasSpelled (action_of kind bytes) len bytes
unfolding action_of
action_of-was_spelled kind len bytes has head =
    let P : Action → Type 0 = λ action. WasSpelled action len bytes in
    let at : (k : ℕ) (action : Action) → (table_length k len ≡ Some len → IsHead k len bytes → P action) → eqb kind k ≡ true → P action = λ k action case t. subst (λ (n : ℕ). table_length n len ≡ Some len → IsHead n len bytes → P action) (sym (eqb-true kind k t)) case has head in
    cond_both (eqb kind 0) _ _ P (at 0 (Output (number_at 2 4 bytes) (number_at 2 6 bytes)) (output len bytes)) (λ n0.
    cond_both (eqb kind 1) _ _ P (at 1 (SetVlanVid (number_at 2 4 bytes)) (vlan_vid len bytes)) (λ n1.
    cond_both (eqb kind 2) _ _ P (at 2 (SetVlanPcp (number_at 1 4 bytes)) (vlan_pcp len bytes)) (λ n2.
    cond_both (eqb kind 3) _ _ P (at 3 StripVlan (strip len bytes)) (λ n3.
    cond_both (eqb kind 4) _ _ P (at 4 (SetDlSrc (piece 6 4 bytes)) (dl_src len bytes)) (λ n4.
    cond_both (eqb kind 5) _ _ P (at 5 (SetDlDst (piece 6 4 bytes)) (dl_dst len bytes)) (λ n5.
    cond_both (eqb kind 6) _ _ P (at 6 (SetNwSrc (number_at 4 4 bytes)) (nw_src len bytes)) (λ n6.
    cond_both (eqb kind 7) _ _ P (at 7 (SetNwDst (number_at 4 4 bytes)) (nw_dst len bytes)) (λ n7.
    cond_both (eqb kind 8) _ _ P (at 8 (SetNwTos (number_at 1 4 bytes)) (nw_tos len bytes)) (λ n8.
    cond_both (eqb kind 9) _ _ P (at 9 (SetTpSrc (number_at 2 4 bytes)) (tp_src len bytes)) (λ n9.
    cond_both (eqb kind 10) _ _ P (at 10 (SetTpDst (number_at 2 4 bytes)) (tp_dst len bytes)) (λ n10.
    cond_both (eqb kind 11) _ _ P (at 11 (Enqueue (number_at 2 4 bytes) (number_at 4 12 bytes)) (enqueue len bytes)) (λ n11.
    let high : 11 < kind = above kind n0 n1 n2 n3 n4 n5 n6 n7 n8 n9 n10 n11 in
    let k : kind ≡ 65535 = is_vendor kind len high has in
    vendor len bytes (subst (λ (n : ℕ). IsHead n len bytes) k head)))))))))))))

-- what a length that was read says of the front
head_from_read : (bytes : List ℕ) (len : ℕ) → length_at bytes ≡ Ok len → (number_at 2 2 bytes ≡ len) × (len % 8 ≡ 0) × (table_length (number_at 2 0 bytes) len ≡ Some len)
unfolding length_at
head_from_read bytes len e =
    let n = number_at 2 2 bytes in
    let kind = number_at 2 0 bytes in
    let a = guard_ok (ltb (length bytes) 4) BadLen (cond (ltb n 8 || (not (eqb (n % 8) 0) || ltb (length bytes) n)) (Err BadLen) (if_table_has n (table_length kind n))) len e in
    let b = guard_ok (ltb n 8 || (not (eqb (n % 8) 0) || ltb (length bytes) n)) BadLen (if_table_has n (table_length kind n)) len a.1 in
    let c = or_parts (ltb n 8) (not (eqb (n % 8) 0) || ltb (length bytes) n) b.0 in
    let d = or_parts (not (eqb (n % 8) 0)) (ltb (length bytes) n) c.1 in
    let f = table_ok n len (table_length kind n) b.1 in
    subst (λ (m : ℕ). (n ≡ m) × (m % 8 ≡ 0) × (table_length kind m ≡ Some m)) f.1 (refl, eqb-true _ _ (not-false _ d.0), f.0)

-- the action at the front
was_at_front : (bytes : List ℕ) (len : ℕ) → IsBytes bytes → length_at bytes ≡ Ok len → WasSpelled (action_of (number_at 2 0 bytes) (take len bytes)) len (take len bytes)
was_at_front bytes len fit e =
    let h = head_from_read bytes len e in
    let within = IsLength-length_at bytes len e in
    action_of-was_spelled (number_at 2 0 bytes) len (take len bytes) h.2 (record {
      bytes_fit = IsBytes-take len bytes fit;
      size = omega (arith, length-take len bytes, within.within);
      kind_there = number_at-take 2 0 len bytes (omega (arith, within.least));
      len_there = number_at-take 2 2 len bytes (omega (arith, within.least)) ∙ h.0;
      whole = h.1;
      least = within.least;
    })

pub record AreSpelled (actions : List Action) (bytes : List ℕ) : Type 0 where
  pub fit : AreActions actions
  pub spelled_is : Spell actions bytes

abbrev pub the_actions : List Action → Result (List Action) ActionFault
the_actions actions = Ok actions

same_value : (x y : List Action) → the_actions x ≡ the_actions y → x ≡ y
same_value x y e = cc

nothing_spelled : (bytes : List ℕ) (actions : List Action) → length bytes ≡ 0 → the_actions [] ≡ the_actions actions → AreSpelled actions bytes
nothing_spelled bytes actions none e =
    let same : [] ≡ actions = same_value [] actions e in
    subst (λ (xs : List Action). AreSpelled xs bytes) same (record { fit = tt; spelled_is = nil_from_length bytes none })

more_spelled : (steps place : ℕ) (bytes : List ℕ) (actions : List Action) → IsBytes bytes
    → ((later : ℕ) (rest : List ℕ) (others : List Action) → length rest ≤ steps → IsBytes rest → actions_from steps later rest ≡ Ok others → AreSpelled others rest)
    → length bytes ≤ suc steps → (action_at place bytes >>= λ first. actions_from steps (place + first.1) (drop first.1 bytes) >>= λ others. Ok (first.0 ∷ others)) ≡ Ok actions → AreSpelled actions bytes
more_spelled steps place bytes actions fit ih le e =
    let a = bind_ok (action_at place bytes) (λ first. actions_from steps (place + first.1) (drop first.1 bytes) >>= λ others. Ok (first.0 ∷ others)) actions e in
    let len = a.0.1 in
    let b = bind_ok (actions_from steps (place + len) (drop len bytes)) (λ others. Ok (a.0.0 ∷ others)) actions a.2 in
    let front = action_at-ok place bytes a.0 a.1 in
    let within = IsLength-length_at bytes len front.0 in
    let first : WasSpelled a.0.0 len (take len bytes) = rw front.1 (was_at_front bytes len fit front.0) in
    let others = ih (place + len) (drop len bytes) b.0 (omega (arith, length-drop len bytes, within.least)) (IsBytes-drop len bytes fit) b.1 in
    let made : (a.0.0 ∷ b.0) ≡ actions = same_value (a.0.0 ∷ b.0) actions b.2 in
    let size = first.size in
    subst (λ (xs : List Action). AreSpelled xs bytes) made (record {
      fit = (first.fits, others.fit);
      spelled_is = (
        omega (arith, within.within, size),
        (
          subst (λ (n : ℕ). IsLaidOut 0 (action_fields a.0.0) [] (take n bytes)) (sym size) first.laid,
          subst (λ (n : ℕ). Spell b.0 (drop n bytes)) (sym size) others.spelled_is,
        ),
      );
    })

step_spelled : (steps place : ℕ) (bytes : List ℕ) (actions : List Action) (b : Bool) → IsBytes bytes
    → ((later : ℕ) (rest : List ℕ) (others : List Action) → length rest ≤ steps → IsBytes rest → actions_from steps later rest ≡ Ok others → AreSpelled others rest)
    → length bytes ≤ suc steps → eqb (length bytes) 0 ≡ b → cond b (Ok []) (action_at place bytes >>= λ first. actions_from steps (place + first.1) (drop first.1 bytes) >>= λ others. Ok (first.0 ∷ others)) ≡ Ok actions → AreSpelled actions bytes
step_spelled steps place bytes actions true fit ih le t e = nothing_spelled bytes actions (eqb-true _ _ t) e
step_spelled steps place bytes actions false fit ih le t e = more_spelled steps place bytes actions fit ih le e

AreSpelled-from : (steps place : ℕ) (bytes : List ℕ) (actions : List Action) → length bytes ≤ steps → IsBytes bytes → actions_from steps place bytes ≡ Ok actions → AreSpelled actions bytes
unfolding actions_from
AreSpelled-from zero place bytes actions le fit e = nothing_spelled bytes actions (omega arith) e
AreSpelled-from (suc steps) place bytes actions le fit e =
    step_spelled steps place bytes actions (eqb (length bytes) 0) fit (λ later rest others. AreSpelled-from steps later rest others) le refl e

pub AreSpelled-actions_of : (bytes : List ℕ) (actions : List Action) → IsBytes bytes → actions_of bytes ≡ Ok actions → AreSpelled actions bytes
unfolding actions_of
AreSpelled-actions_of bytes actions fit e = AreSpelled-from (length bytes) 0 bytes actions (omega arith) fit e

pub same_from_Spell : (actions others : List Action) (bytes : List ℕ) → AreActions actions → AreActions others → Spell actions bytes → Spell others bytes → actions ≡ others
same_from_Spell actions others bytes fit fit' h g =
    same_value actions others (sym (actions_of-Spell actions bytes fit h) ∙ actions_of-Spell others bytes fit' g)

pub actions_of-list_bytes : (actions : List Action) → AreActions actions → actions_of (list_bytes actions) ≡ Ok actions
actions_of-list_bytes actions fit = actions_of-Spell actions (list_bytes actions) fit (Spell-list_bytes actions fit)

pub found_from_gives : (bytes : List ℕ) (r : Result (List Action) ActionFault) → IsBytes bytes → Gives (λ list. list) r (actions_of bytes) → IfOk r (λ list. AreActions list × Spell list bytes)
found_from_gives bytes (Ok actions) fit given =
    let found = AreSpelled-actions_of bytes actions fit given in
    (found.fit, found.spelled_is)
found_from_gives bytes (Err fault) fit given = tt

pub length-Spell : (actions : List Action) (bytes : List ℕ) → Spell actions bytes → length bytes ≡ list_size actions
length-Spell [] bytes h = rw h refl
length-Spell (action ∷ actions) bytes h =
    let others = length-Spell actions (drop (action_size action) bytes) h.1.1 in
    omega (arith, others, h.0, length-drop (action_size action) bytes, sum_by-cons action_size action actions)

-- What is written and bytes that spell the same actions are the same, but in pads.
pub same_list_but_pads : (actions : List Action) (bytes : List ℕ) (i : ℕ) → AreActions actions → IsBytes bytes → Spell actions bytes → i < length bytes → ¬ InPads actions i → get_or (list_bytes actions) i 0 ≡ get_or bytes i 0
unfolding action_bytes
same_list_but_pads [] bytes i fits fit h lt says = absurd (omega (arith, ap length h))
same_list_but_pads (action ∷ actions) bytes i fits fit h lt says =
    let size = action_size action in
    let wide = width-action_fields action in
    let fields = action_fields action in
    let front-len : length (spelled fields) ≡ size = length-action_bytes action fits.0 in
    elim (cases_lt i size) [
      | inl here ↦ same_but_pads 0 fields [] (list_bytes actions) (take size bytes) [] i refl fits.0.fields (IsBytes-take size bytes fit) (omega (arith, wide, h.0, length-take size bytes)) h.1.0 (omega arith) (omega (arith, wide, here)) (λ p. says (inl p))
          ∙ get_or-take size bytes i 0 here
      | inr later ↦
          let place : size + (i - size) ≡ i = omega (arith, later) in
          get_or-append_right (spelled fields) (list_bytes actions) size i 0 front-len later
          ∙ same_list_but_pads actions (drop size bytes) (i - size) fits.1 (IsBytes-drop size bytes fit) h.1.1 (omega (arith, later, length-drop size bytes)) (λ p. says (inr (later, p)))
          ∙ get_or-drop size bytes (i - size) 0 ∙ ap (λ (k : ℕ). get_or bytes k 0) place
    ]

-- What was read is written as it was, but in pads.
pub SameButPads-list_bytes : (bytes : List ℕ) (actions : List Action) → IsBytes bytes → actions_of bytes ≡ Ok actions → SameButPads actions bytes (list_bytes actions)
SameButPads-list_bytes bytes actions fit e =
    let found = AreSpelled-actions_of bytes actions fit e in
    record {
      size = length-list_bytes actions found.fit ∙ sym (length-Spell actions bytes found.spelled_is);
      places = λ i lt says. same_list_but_pads actions bytes i found.fit fit found.spelled_is lt says;
    }
