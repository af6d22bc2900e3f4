-- Laws of what a log keeps of its inverses.
use Rattle.std.specs.Prelude.{◌≡◌, ◌≢◌, ◌==◌, ℕ, ◌<◌, Bool, true, false, List, [], ◌∷◌, length, if◌then◌else◌, refl}
use Rattle.std.proofs.Common.{zero, suc, get_or, set, sym, ap, ◌∙◌, eq-eqb, arith}
use Rattle.std.proofs.lemmas.Bool.{ne_eqb}
use Rattle.of_match.specs.declared.key.Key.{Key}
use Rattle.net_txn.specs.declared.logged.UndoProgress.{UndoProgress}
use Rattle.net_txn.specs.declared.logged.Logged.{Logged}
use Rattle.net_txn.specs.Net.{no_progress}
use Rattle.net_txn.specs.Undos.{progress_of, inverses_in, keys_in, IsProgressAt}

-- ---- One entry more

pub progress_of-same : (d : ℕ) (e : Logged) (es : List Logged) → e.dpid ≡ d → progress_of d (e ∷ es) ≡ e.progress
progress_of-same d e es is = rw (eq-eqb e.dpid d is) refl

pub progress_of-other : (d : ℕ) (e : Logged) (es : List Logged) → d ≢ e.dpid → progress_of d (e ∷ es) ≡ progress_of d es
progress_of-other d e es other = rw (ne_eqb e.dpid d (λ is. other (sym is))) refl

pub inverses_in-same : (d : ℕ) (e : Logged) (es : List Logged) → e.dpid ≡ d → inverses_in d (e ∷ es) ≡ (e.progress.xid, e.key) ∷ inverses_in d es
inverses_in-same d e es is = rw (eq-eqb e.dpid d is) refl

pub inverses_in-other : (d : ℕ) (e : Logged) (es : List Logged) → d ≢ e.dpid → inverses_in d (e ∷ es) ≡ inverses_in d es
inverses_in-other d e es other = rw (ne_eqb e.dpid d (λ is. other (sym is))) refl

-- ---- A progress in place of another one

pub progress_of-set : (d : ℕ) (es : List Logged) (i : ℕ) (f : Logged) → IsProgressAt d es i → f.dpid ≡ d → progress_of d (set es i f) ≡ f.progress
progress_of-set d [] i f at is = absurd at
progress_of-set d (e ∷ es) zero f at is = progress_of-same d f es is
progress_of-set d (e ∷ es) (suc i) f at is = rw at.0 (progress_of-set d es i f at.1 is)

pub progress_of-set_other : (d c : ℕ) (es : List Logged) (i : ℕ) (f : Logged) → IsProgressAt d es i → f.dpid ≡ d → c ≢ d → progress_of c (set es i f) ≡ progress_of c es
progress_of-set_other d c [] i f at is other = absurd at
progress_of-set_other d c (e ∷ es) zero f at is other =
    progress_of-other c f es (λ same. other (same ∙ is)) ∙ sym (progress_of-other c e es (λ same. other (same ∙ at)))
progress_of-set_other d c (e ∷ es) (suc i) f at is other =
    ap (λ (x : UndoProgress). if e.dpid == c then e.progress else x) (progress_of-set_other d c es i f at.1 is other)

pub inverses_in-set : (c : ℕ) (es : List Logged) (i : ℕ) (e f : Logged) → i < length es → f.dpid ≡ (get_or es i e).dpid → f.key ≡ (get_or es i e).key → f.progress.xid ≡ (get_or es i e).progress.xid → inverses_in c (set es i f) ≡ inverses_in c es
inverses_in-set c [] i e f lt d k x = absurd (omega arith)
inverses_in-set c (g ∷ es) zero e f lt d k x = rw (d, k, x) refl
inverses_in-set c (g ∷ es) (suc i) e f lt d k x =
    ap (λ (ps : List (ℕ × Key)). if g.dpid == c then (g.progress.xid, g.key) ∷ ps else ps) (inverses_in-set c es i e f (omega arith) d k x)

-- ---- Where it stands

pub IsProgressAt-within : (d : ℕ) (es : List Logged) (i : ℕ) → IsProgressAt d es i → i < length es
IsProgressAt-within d [] i at = absurd at
IsProgressAt-within d (e ∷ es) zero at = omega arith
IsProgressAt-within d (e ∷ es) (suc i) at = omega (arith, IsProgressAt-within d es i at.1)

pub IsProgressAt-dpid : (d : ℕ) (es : List Logged) (i : ℕ) (e : Logged) → IsProgressAt d es i → (get_or es i e).dpid ≡ d
IsProgressAt-dpid d [] i e at = absurd at
IsProgressAt-dpid d (g ∷ es) zero e at = at
IsProgressAt-dpid d (g ∷ es) (suc i) e at = IsProgressAt-dpid d es i e at.1

pub progress_of-at : (d : ℕ) (es : List Logged) (i : ℕ) (e : Logged) → IsProgressAt d es i → progress_of d es ≡ (get_or es i e).progress
progress_of-at d [] i e at = absurd at
progress_of-at d (g ∷ es) zero e at = progress_of-same d g es at
progress_of-at d (g ∷ es) (suc i) e at = rw at.0 (progress_of-at d es i e at.1)

-- ---- Keys

none_step : (here : Bool) (e : Logged) (keys : List Key) (inverses : List (ℕ × Key)) → (keys ≡ [] → inverses ≡ []) → (if here then e.key ∷ keys else keys) ≡ [] → (if here then (e.progress.xid, e.key) ∷ inverses else inverses) ≡ []
none_step true e keys inverses rest is = absurd cc
none_step false e keys inverses rest is = rest is

pub keys_in-none : (d : ℕ) (es : List Logged) → keys_in d es ≡ [] → inverses_in d es ≡ []
keys_in-none d [] none = refl
keys_in-none d (e ∷ es) none = none_step (e.dpid == d) e (keys_in d es) (inverses_in d es) (keys_in-none d es) none

none_progress : (here : Bool) (e : Logged) (keys : List Key) (progress : UndoProgress) → (keys ≡ [] → progress ≡ no_progress) → (if here then e.key ∷ keys else keys) ≡ [] → (if here then e.progress else progress) ≡ no_progress
none_progress true e keys progress rest is = absurd cc
none_progress false e keys progress rest is = rest is

pub progress_of-none : (d : ℕ) (es : List Logged) → keys_in d es ≡ [] → progress_of d es ≡ no_progress
progress_of-none d [] none = refl
progress_of-none d (e ∷ es) none = none_progress (e.dpid == d) e (keys_in d es) (progress_of d es) (progress_of-none d es) none
