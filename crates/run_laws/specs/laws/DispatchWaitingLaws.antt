-- Laws of settling: the reference controller dispatches one event after another.
use Rattle.std.proofs.Common.{◌≡◌, ℕ, zero, suc, ◌+◌, Bool, List, [], refl, ap, ◌∙◌, arith}
use Rattle.app_frames.specs.declared.frame.Event.{Event}
use Rattle.lego_model.specs.Places.{Place}
use Rattle.lego_model.specs.Controller.{Run, next_dispatched, dispatch_next, times, settle, per_batch}

-- where no event waits, nothing is dispatched
times-none : (allows : List Place → Bool) (n : ℕ) (r : Run) → r.queue ≡ [] → times n (dispatch_next allows) r ≡ r
times-none allows zero r none = refl
times-none allows (suc n) r none =
    ap (times n (dispatch_next allows)) (ap (λ (q : List Event). next_dispatched allows q r) none) ∙ times-none allows n r none

-- The reference controller settles by dispatching the oldest event, 1,000 times.
pub settle-times : (allows : List Place → Bool) (r : Run) → times per_batch (dispatch_next allows) r ≡ settle allows r
unfolding settle
settle-times allows r = refl

-- ---- So often, and so often again

pub times-more : (n m : ℕ) (f : Run → Run) (r : Run) → times (n + m) f r ≡ times m f (times n f r)
times-more zero m f r = let e : 0 + m ≡ m = omega arith in ap (λ (k : ℕ). times k f r) e
times-more (suc n) m f r = let e : suc n + m ≡ suc (n + m) = omega arith in ap (λ (k : ℕ). times k f r) e ∙ times-more n m f (f r)

pub times-stop : (allows : List Place → Bool) (n m : ℕ) (r : Run) → (times n (dispatch_next allows) r).queue ≡ [] → times (n + m) (dispatch_next allows) r ≡ times n (dispatch_next allows) r
times-stop allows n m r none = times-more n m (dispatch_next allows) r ∙ times-none allows m (times n (dispatch_next allows) r) none
