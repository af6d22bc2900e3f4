-- Laws of the words of a session text: what each of them that was read keeps.
use Rattle.std.proofs.Common.{◌≡◌, ◌==◌, ℕ, zero, suc, ◌+◌, ◌*◌, ◌%◌, ◌<◌, ◌≤◌, Bool, true, false, if◌then◌else◌, not, ◌&&◌, ◌||◌, List, [], ◌∷◌, ◌++◌, length, get_or, All, nat_lt, Result, Ok, Err, refl, sym, ap, subst, ◌∙◌, arith, codes}
use Rattle.std.specs.List.{AllPairs, list_all, slice_split}
use Rattle.std.proofs.lemmas.List.Elements.{All-append, All-weaker}
use Rattle.std.proofs.lemmas.List.Kept.{AllPairs-cons}
use Rattle.hex.specs.Hex.{decode_of}
use Rattle.hex.proofs.HexLemmas.{decode_of-ok}
use Rattle.lego_model.specs.declared.session.SessionKind.{SessionKind}
use Rattle.lego_model.specs.declared.session.SessionKind.TheVariants.{Number, Range, Switch}
use Rattle.of_types.specs.Numerals.{is_numeral}
use Rattle.lego_model.specs.Words.{is_word, value_after}
use Rattle.lego_model.specs.SessionWords.{◌>>=◌, unless, a_number, last_number, digits_read, is_sized, some_bytes, ascends, is_port, are_ports, values_of, listed_ports, some_ports, place_among, an_app}
use Rattle.app_frames.specs.declared.script.ScriptStep.{ScriptStep}
use Rattle.lego_model.specs.SessionSteps.{step_of, steps_of}
use Rattle.lego_model.specs.SessionLines.{SoFar, is_declared, a_switch, a_new_switch}
use Rattle.lego_model.specs.SessionFacts.{IsPort, IsKnown, IsSized}

-- ---- Steps of reading

-- what was read in two steps
pub bind_ok : {A B : Type 0} (r : Result A SessionKind) (f : A → Result B SessionKind) (y : B) → (r >>= f) ≡ Ok y → (x : A) × (r ≡ Ok x) × (f x ≡ Ok y)
bind_ok (Ok x) f y e = (x, refl, e)
bind_ok (Err kind) f y e = absurd cc

-- a test that was passed
pub unless_ok : {A : Type 0} (failed : Bool) (kind : SessionKind) (next : Result A SessionKind) (y : A) → unless failed kind next ≡ Ok y → (failed ≡ false) × (next ≡ Ok y)
unless_ok true kind next y e = absurd cc
unless_ok false kind next y e = (refl, e)

pub ok_is : {A E : Type 0} (r : Result A E) (x y : A) → r ≡ Ok x → r ≡ Ok y → x ≡ y
ok_is r x y e f = cc

pub not_false : (b : Bool) → not b ≡ false → b ≡ true
not_false true e = refl
not_false false e = absurd cc

-- ---- Words

value_ok : (least most value n : ℕ) → (nat_lt value least || nat_lt most value) ≡ false → value ≡ n → (least ≤ n) × (n ≤ most)
value_ok least most value n test is = (grind arith, grind arith)

pub number_ok : (least most : ℕ) (word : List ℕ) (n : ℕ) → a_number least most word ≡ Ok n → (least ≤ n) × (n ≤ most)
unfolding a_number
number_ok least most word n e =
    let numeral = unless_ok (not (is_numeral word)) Number _ _ e in
    let within = unless_ok (nat_lt (value_after 0 word) least || nat_lt most (value_after 0 word)) Range _ _ numeral.1 in
    value_ok least most (value_after 0 word) n within.0 (ok_is _ _ _ refl within.1)

digits_ok : (word bytes : List ℕ) → digits_read (decode_of word) ≡ Ok bytes → decode_of word ≡ Ok bytes
digits_ok word bytes e = go (decode_of word) e
  where
    go : (r : Result (List ℕ) _) → digits_read r ≡ Ok bytes → r ≡ Ok bytes
    go (Ok x) e = cc
    go (Err fault) e = absurd cc

size_ok : (least most : ℕ) (word bytes : List ℕ) → length word % 2 ≡ 0 → length word ≡ 2 * length bytes
    → (length word % 2 == 0 && not (is_sized least most (length word))) ≡ false → (least ≤ length bytes) × (length bytes ≤ most)
size_ok least most word bytes even twice fits = (grind arith, grind arith)

some_ok : (word bytes : List ℕ) → length word ≡ 2 * length bytes → (length word == 0) ≡ false → 1 ≤ length bytes
some_ok word bytes twice any = grind arith

pub bytes_ok : (least most : ℕ) (word bytes : List ℕ) → some_bytes least most word ≡ Ok bytes → IsSized least most bytes × (1 ≤ length bytes)
unfolding some_bytes
bytes_ok least most word bytes e =
    let sized = unless_ok _ _ _ _ e in
    let some = unless_ok _ _ _ _ sized.1 in
    let read = decode_of-ok word bytes (digits_ok word bytes some.1) in
    let size = size_ok least most word bytes read.0 read.2 sized.0 in
    ((size.0, size.1, read.3), some_ok word bytes read.2 some.0)

-- ---- Lists

all_one : {X : Type 0} (P : X → Type 0) (x : X) → P x → All P (x ∷ [])
all_one P x p k d within = at k within
  where
    at : (k : ℕ) → k < 1 → P (get_or (x ∷ []) k d)
    at zero within = p
    at (suc k) within = absurd (omega arith)

pub all_cons : {X : Type 0} (P : X → Type 0) (x : X) (xs : List X) → P x → All P xs → All P (x ∷ xs)
all_cons P x xs p all = All-append P (x ∷ []) xs (all_one P x p) all

pub all_more : {X : Type 0} (P : X → Type 0) (xs : List X) (x : X) → All P xs → P x → All P (xs ++ x ∷ [])
all_more P xs x all p = All-append P xs (x ∷ []) all (all_one P x p)

pub none : {X : Type 0} (P : X → Type 0) → All P []
none P k d within = absurd (omega arith)

pub no_pairs : {X : Type 0} (R : X → X → Type 0) → AllPairs R []
no_pairs R i j d before within = absurd (omega arith)

-- ---- Ports

-- ports that ascend: each is below all later ones
above_first : (port : ℕ) (ports : List ℕ) → ascends (port ∷ ports) ≡ true → All (λ later. port < later) ports
above_first port [] e = none _
above_first port (next ∷ more) e =
    let step : port < next = grind arith in
    let rest = above_first next more (grind arith) in
    all_cons (λ later. port < later) next more step (All-weaker (λ later. next < later) (λ later. port < later) (λ later below. omega arith) more rest)

pub ascending : (ports : List ℕ) → ascends ports ≡ true → AllPairs (λ port later. port < later) ports
ascending [] e = no_pairs (λ port later. port < later)
ascending (port ∷ []) e = AllPairs-cons (λ port later. port < later) port [] (none _) (no_pairs (λ port later. port < later))
ascending (port ∷ next ∷ more) e = AllPairs-cons (λ port later. port < later) port (next ∷ more) (above_first port (next ∷ more) e) (ascending (next ∷ more) (grind arith))

pub each_port : (ports : List ℕ) → list_all is_port ports ≡ true → All IsPort ports
each_port [] e = none _
each_port (port ∷ ports) e =
    let first : IsPort port = (grind arith, grind arith) in
    all_cons IsPort port ports first (each_port ports (grind arith))

are_right : (values ports : List ℕ) → not (are_ports values) ≡ false → values ≡ ports → are_ports ports ≡ true
are_right values ports test is = let all : are_ports values ≡ true = not_false (are_ports values) test in rw (← is) all

pub ports_ok : (word ports : List ℕ) → some_ports word ≡ Ok ports → are_ports ports ≡ true
unfolding some_ports listed_ports
ports_ok word ports e = go (is_word (codes "-") word) refl
  where
    go : (b : Bool) → is_word (codes "-") word ≡ b → are_ports ports ≡ true
    go true t = let is : [] ≡ ports = ok_is (Ok []) _ _ refl (rw t at e) in rw (← is) refl
    go false t =
        let pieces = slice_split (λ b. b == 44) word in
        let numerals = unless_ok (not (list_all is_numeral pieces)) Number _ _ (rw t at e) in
        let within = unless_ok (not (are_ports (values_of pieces))) Range _ _ numerals.1 in
        are_right (values_of pieces) ports within.0 (ok_is _ _ _ refl within.1)

-- ---- Switches

pub switch_ok : (s : SoFar) (word : List ℕ) (dpid : ℕ) → a_switch s word ≡ Ok dpid → IsKnown s.session.switches dpid
unfolding a_switch
switch_ok s word dpid e =
    let read = bind_ok (a_number 1 last_number word) _ _ e in
    let known = unless_ok (not (is_declared s read.0)) Switch _ _ read.2 in
    let is : read.0 ≡ dpid = ok_is _ _ _ refl known.1 in
    subst (IsKnown s.session.switches) is (not_false _ known.0)

pub new_switch_ok : (s : SoFar) (word : List ℕ) (dpid : ℕ) → a_new_switch s word ≡ Ok dpid
    → (1 ≤ dpid) × (dpid ≤ last_number) × (is_declared s dpid ≡ false)
unfolding a_new_switch
new_switch_ok s word dpid e =
    let read = bind_ok (a_number 1 last_number word) _ _ e in
    let other = unless_ok (is_declared s read.0) Switch _ _ read.2 in
    let is : read.0 ≡ dpid = ok_is _ _ _ refl other.1 in
    let within = number_ok 1 last_number word read.0 read.1 in
    (subst (λ n. 1 ≤ n) is within.0, subst (λ n. n ≤ last_number) is within.1, subst (λ n. is_declared s n ≡ false) is other.0)

-- ---- Applications

place_ok : (i : ℕ) (names : List (List ℕ)) (word : List ℕ) (n : ℕ) → place_among i names word ≡ Ok n → n < i + length names
place_ok i [] word n e = absurd cc
place_ok i (name ∷ names) word n e = go (is_word name word) (place_ok (i + 1) names word n) e
  where
    go : (b : Bool) → (place_among (i + 1) names word ≡ Ok n → n < i + 1 + length names) → (if b then Ok i else place_among (i + 1) names word) ≡ Ok n → n < i + suc (length names)
    go true later e = let is : i ≡ n = ok_is _ _ _ refl e in omega arith
    go false later e = let rest = later e in omega arith

pub app_ok : (names : List (List ℕ)) (word : List ℕ) (n : ℕ) → an_app names word ≡ Ok n → n < length names
unfolding an_app
app_ok names word n e = let place = place_ok 0 names word n e in omega arith

-- ---- Steps

-- a turn gives as many steps as its line has
pub steps_ok : (steps : List (List ℕ)) (script : List ScriptStep) → steps_of steps ≡ Ok script → length script ≡ length steps
steps_ok [] script e = ap length (sym (ok_is _ _ _ refl e))
steps_ok (step ∷ steps) script e =
    let first = bind_ok (step_of step) _ _ e in
    let others = bind_ok (steps_of steps) _ _ first.2 in
    let same = steps_ok steps others.0 others.1 in
    let is = ok_is _ _ _ refl others.2 in
    ap length (sym is) ∙ ap (λ n. suc n) same
