-- Laws of a whole call of `next`, one for each way in which it ends.
use Rattle.std.specs.Prelude.{◌≡◌, ℕ, ◌+◌, ◌-◌, ◌^◌, ◌<◌, ◌≤◌, ◌↔◌, All, true, false, is_some, List, [], ◌∷◌, length, Option, None, Some, Ok, Err, IfSome, slice_get, refl}
use Rattle.std.specs.List.{AllByRecursion}
use Rattle.std.proofs.Common.{sym, ap, ◌∙◌, subst}
use Rattle.std.proofs.lemmas.Bool.{false≢true}
use Rattle.lego_io.specs.Count.{raised}
use Rattle.of_types.specs.declared.journal.Act.TheVariants.{Stim}
use Rattle.of_types.specs.declared.journal.WorldStim.{WorldStim}
use Rattle.flow_table.specs.Switch.{Declared}
use Rattle.outside.specs.declared.call.FailCall.{FailCall}
use Rattle.outside.specs.declared.faults.NextFault.TheVariants as coming
use Rattle.outside.specs.declared.item.Item.{Item}
use Rattle.outside.specs.declared.item.Item.TheVariants as items
use Rattle.outside.specs.declared.step.WorldStep.TheVariants.{Acted, NextFailed, End}
use Rattle.outside.specs.State.{Link, State, but_marks, after_step, after_act, after_stim, upcoming, links_after, waiting_in}
use Rattle.outside.specs.Calls.{item_step, next_steps, IsIdle, IsOver}
use Rattle.outside.specs.Conforming.{IsWorldStim, MayStep, MayAct}
use Rattle.outside.specs.InOrder.{MayCome}
use Rattle.outside.specs.laws.CallLaws.{no_idle}
use Rattle.sim_world.specs.Tally.{tally_short}
use Rattle.sim_world.specs.Links.{IsDue, StandsAt}
use Rattle.sim_world.specs.laws.LinksLaws.{few_upcoming}
use Rattle.sim_world.specs.World.{WorldData, Moves, IsAsTold, all_declared, next_told, CanCome}
use Rattle.sim_world.specs.laws.WorldLaws.{Moves_both, Moves_ready, MayComeAll-same, AreAsTold-same, declared_but, declared-stays}
use Rattle.sim_world.specs.Doing.{Tells, NextStands, DoesNext}
use Rattle.sim_world.specs.Lives.{life_in}
use Rattle.sim_world.specs.laws.NextLaws.{is_end}

-- ---- It wants memory, or fails as it is told

pub Next_short : (old new : WorldData) (buf : List ℕ) → Moves old new [] (tally_short old.tally) → DoesNext old new (Err coming.Short) buf
unfolding next_steps
Next_short old new buf moves = record {
  begun = None;
  to_come = tt;
  moves = moves;
  item = tt;
  idle = tt;
  over = tt;
  word = tt;
  told = tt;
  due = tt;
}

pub Next_failed : (old new : WorldData) (buf : List ℕ) → next_told old.told old.nexts ≡ true → Moves old new (NextFailed ∷ []) (record old.tally { next_faults = raised old.tally.next_faults }) → DoesNext old new (Err coming.Failed) buf
unfolding next_steps after_step MayCome MayStep IsAsTold
Next_failed old new buf told moves = record {
  begun = None;
  to_come = tt;
  moves = moves;
  item = tt;
  idle = tt;
  over = tt;
  word = (tt, tt);
  told = (told, tt);
  due = tt;
}

-- ---- No stimulus begins

pub Next_told : (old new : WorldData) (item : Item) (buf : List ℕ) → next_told old.told old.nexts ≡ false → Tells old new item buf → DoesNext old new (Ok item) buf
unfolding next_steps
Next_told old new item buf untold tells = record {
  begun = None;
  to_come = tt;
  moves = tells.moves;
  item = tells.within;
  idle = tells.idle;
  over = tells.over;
  word = (tells.may, tt);
  told = (tells.told untold, tt);
  due = tt;
}

end_is_no_idle : items.End ≡ items.Idle → ⊥
end_is_no_idle is = false≢true (sym (ap is_end is))

pub Next_end : (old new : WorldData) (buf : List ℕ) → next_told old.told old.nexts ≡ false → old.state.begun ≡ false → old.state.to_come ≡ [] → Moves old new (End ∷ []) old.tally → DoesNext old new (Ok items.End) buf
unfolding next_steps item_step after_step MayCome MayStep IsAsTold
Next_end old new buf untold rests none moves = record {
  begun = None;
  to_come = tt;
  moves = moves;
  item = tt;
  idle = (λ is. absurd (end_is_no_idle is), λ idle. absurd (no_idle old.state rests idle));
  over = (λ is. (rests, none), λ over. refl);
  word = ((rests, none), tt);
  told = (untold, tt);
  due = tt;
}

-- ---- A stimulus begins

pub can_come_next : (declared : List Declared) (moment : ℕ) (xs : List WorldStim) (x : WorldStim) → CanCome declared moment xs → slice_get xs 0 ≡ Some x → IsWorldStim declared moment x
can_come_next declared moment [] x come is = absurd (false≢true (ap is_some is))
can_come_next declared moment (y ∷ xs) x come is = subst (λ (o : Option WorldStim). IfSome o (IsWorldStim declared moment)) is come.0

idle_but : (s : State) → IsIdle (but_marks s) ≡ IsIdle s
unfolding upcoming
idle_but s = refl

stim_links : (x : WorldStim) (s : State) → (after_step (Acted (Stim x)) s).links ≡ links_after x s.moment s.links
unfolding after_step after_act after_stim
stim_links x s = refl

stim_due : (x : WorldStim) (s : State) → (after_step (Acted (Stim x)) s).due ≡ (after_stim x s).due
unfolding after_step after_act
stim_due x s = refl

untold_stim : (fails : List FailCall) (n : ℕ) (x : WorldStim) (s : State) → IsAsTold fails n (Acted (Stim x)) s
unfolding IsAsTold
untold_stim fails n x s = tt

pub Next_begun : (old mid new : WorldData) (x : WorldStim) (item : Item) (buf : List ℕ) → next_told old.told old.nexts ≡ false → old.state.begun ≡ false → slice_get old.state.to_come 0 ≡ Some x
    → CanCome (all_declared old.state) old.state.moment old.state.to_come → Moves old mid (Acted (Stim x) ∷ []) old.tally
    → length (waiting_in mid.state.links) ≤ length (waiting_in old.state.links) + 262144
    → All IsDue mid.state.due → Tells mid new item buf → DoesNext old new (Ok item) buf
unfolding next_steps after_step after_act MayCome MayStep MayAct
Next_begun old mid new x item buf untold rests next come begins few due tells =
    let after = after_step (Acted (Stim x)) old.state in
    let same : but_marks mid.state ≡ but_marks after = ap but_marks begins.state in
    let links : mid.state.links ≡ after.links = ap (λ (s : State). s.links) begins.state in
    let told_here : IsAsTold old.told old.nexts (item_step item buf) mid.state =
    subst (λ (n : ℕ). IsAsTold old.told n (item_step item buf) mid.state) begins.nexts
    (subst (λ fails. IsAsTold fails mid.nexts (item_step item buf) mid.state) begins.told
    (tells.told (rw (begins.told, begins.nexts) untold))) in
    let declared : all_declared mid.state ≡ all_declared old.state = ap all_declared begins.state ∙ declared_but after ∙ declared-stays (Acted (Stim x) ∷ []) old.state in
    record {
      begun = Some x;
      to_come = next;
      moves = subst (λ t. Moves old new (Acted (Stim x) ∷ item_step item buf ∷ []) t) begins.tally
          (Moves_both old mid new (Acted (Stim x) ∷ []) (item_step item buf ∷ []) _ _ begins tells.moves);
      item = tells.within;
      idle = rw (← idle_but after) (subst (λ (s : State). (item ≡ items.Idle) ↔ IsIdle s) begins.state tells.idle);
      over = subst (λ (s : State). (item ≡ items.End) ↔ IsOver s) begins.state tells.over;
      word = (
        record {
          stimulus = can_come_next (all_declared old.state) old.state.moment old.state.to_come x come next;
          none_begun = rests;
          to_come = next;
          few = few_upcoming x old.state (subst (λ (ls : List Link). length (waiting_in ls) ≤ length (waiting_in old.state.links) + 262144) (links ∙ stim_links x old.state) few);
        },
        MayComeAll-same (all_declared old.state) (item_step item buf ∷ []) mid.state after same
            (subst (λ (ds : List Declared). MayCome ds (item_step item buf) mid.state) declared tells.may, tt),
      );
      told = (untold_stim old.told old.nexts x old.state, AreAsTold-same old.told old.nexts (item_step item buf ∷ []) mid.state after same (told_here, tt));
      due = subst (All IsDue) (ap (λ (s : State). s.due) begins.state ∙ stim_due x old.state) due;
    }

-- ---- Where room was made before

pub NextStands_ready : (old mid : WorldData) → mid ≡ record old { room = mid.room; calls = mid.calls } → length mid.state.running ≤ mid.room → NextStands old → NextStands mid
NextStands_ready old mid same promised stands = record {
  promised = promised;
  few = subst (λ (w : WorldData). w.nexts < 2 ^ 64 - 1) (sym same) stands.few;
  due = subst (λ (w : WorldData). All IsDue w.state.due) (sym same) stands.due;
  standing = subst (λ (w : WorldData). AllByRecursion (λ l. StandsAt w.state.moment l.switch) w.state.links) (sym same) stands.standing;
  within = subst (λ (w : WorldData). w.state.moment ≤ 4294967295) (sym same) stands.within;
  can_come = subst (λ (w : WorldData). CanCome (all_declared w.state) w.state.moment w.state.to_come) (sym same) stands.can_come;
}

pub Next_short_ready : (old mid new : WorldData) (buf : List ℕ) → mid ≡ record old { room = mid.room; calls = mid.calls } → Moves mid new [] (tally_short mid.tally) → DoesNext old new (Err coming.Short) buf
Next_short_ready old mid new buf same moves =
    Next_short old new buf
    (subst (λ t. Moves old new [] t) (ap (λ (w : WorldData). tally_short w.tally) same)
    (Moves_ready old mid new [] _ (same ∙ ap (λ xs. record old { room = mid.room; calls = mid.calls; lives = xs }) (sym (ap (λ (w : WorldData). w.lives) same))) (λ app. ap (λ (w : WorldData). life_in app w.lives) same) moves))
