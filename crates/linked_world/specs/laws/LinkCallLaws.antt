-- Calls of the other world that reach no application are such calls of this world.
use Rattle.std.specs.Prelude.{◌≡◌, ◌↔◌, ℕ, Bool, true, false, not, List, [], ◌∷◌, ◌++◌, Option, Some, None, Result, Ok, Err, IsTrue, IfOk, IfSome, slice_get, refl}
use Rattle.std.proofs.Common.{sym, ap, ◌∙◌, subst}
use Rattle.of_types.specs.declared.journal.WorldStim.{WorldStim}
use Rattle.of_types.specs.Membership.{is_among}
use Rattle.outside.specs.declared.faults.OpenFault.{OpenFault}
use Rattle.outside.specs.declared.faults.OpenFault.TheVariants as opening
use Rattle.outside.specs.declared.faults.NextFault.{NextFault}
use Rattle.outside.specs.declared.faults.NextFault.TheVariants as coming
use Rattle.outside.specs.declared.faults.LinkFault.{LinkFault}
use Rattle.outside.specs.declared.faults.LinkFault.TheVariants as linking
use Rattle.outside.specs.declared.item.Item.{Item}
use Rattle.outside.specs.declared.item.Item.TheVariants as items
use Rattle.outside.specs.declared.step.WorldStep.{WorldStep}
use Rattle.outside.specs.Seen.{Counts, Seen, with_stray}
use Rattle.outside.specs.State.{State, at_first, after_steps, state, is_running, is_joined}
use Rattle.outside.specs.laws.StateLaws.{after_steps-append, state-append}
use Rattle.outside.specs.Calls.{Opens, open_steps, open_counts, Nexts, next_steps, stim_steps, item_step, next_counts, Sends, send_steps, link_counts, Receives, receive_steps, can_receive}
use Rattle.linked_world.specs.Linked.{link_steps, Note, woven, Grows, AppCounts, with_apps, seen_with, seen_of, Linkage, Stands, IsLinkage}
use Rattle.linked_world.specs.laws.SideLaws.{link_side, side-steps, runs-link_steps, opened-side, to_come-side, joined-side, receive-side, idle-side, over-side}
use Rattle.linked_world.specs.laws.WovenLaws.{Grows-more, woven-more, side-woven}
use Rattle.linked_world.specs.laws.CountLaws.{total-Rose, NoneFell-apps, AreCounts-apps, stray-apps, short-apps, short_of-apps}

-- ---- Steps of such calls

open_links : {T : Type 0} (result : Result T OpenFault) → link_steps (open_steps result) ≡ open_steps result
unfolding link_steps open_steps
open_links (Ok x) = refl
open_links (Err opening.Shut) = refl
open_links (Err opening.Short) = refl

item_link : (item : Item) (buf : List ℕ) → link_steps (item_step item buf ∷ []) ≡ item_step item buf ∷ []
unfolding link_steps item_step
item_link (items.From d n) buf = refl
item_link (items.Joined d n) buf = refl
item_link (items.Left d) buf = refl
item_link (items.Moment t) buf = refl
item_link items.Idle buf = refl
item_link items.End buf = refl

stim_links : (begun : Option WorldStim) (steps : List WorldStep) → link_steps (stim_steps begun ++ steps) ≡ stim_steps begun ++ link_steps steps
unfolding link_steps
stim_links None steps = refl
stim_links (Some x) steps = refl

next_fails : (begun : Option WorldStim) (buf : List ℕ) → link_steps (next_steps begun (Err coming.Failed) buf) ≡ next_steps begun (Err coming.Failed) buf
unfolding link_steps next_steps
next_fails begun buf = refl

next_short : (begun : Option WorldStim) (buf : List ℕ) → link_steps (next_steps begun (Err coming.Short) buf) ≡ next_steps begun (Err coming.Short) buf
unfolding link_steps next_steps
next_short begun buf = refl

next_item : (begun : Option WorldStim) (item : Item) (buf : List ℕ) → link_steps (next_steps begun (Ok item) buf) ≡ next_steps begun (Ok item) buf
unfolding next_steps
next_item begun item buf = stim_links begun (item_step item buf ∷ []) ∙ ap (λ (xs : List WorldStep). stim_steps begun ++ xs) (item_link item buf)

next_links : (begun : Option WorldStim) (result : Result Item NextFault) (buf : List ℕ) → link_steps (next_steps begun result buf) ≡ next_steps begun result buf
next_links begun (Ok item) buf = next_item begun item buf
next_links begun (Err coming.Failed) buf = next_fails begun buf
next_links begun (Err coming.Short) buf = next_short begun buf

send_links : {T : Type 0} (d : ℕ) (frame : List ℕ) (joined : Bool) (result : Result T LinkFault) → link_steps (send_steps d frame joined result) ≡ send_steps d frame joined result
unfolding link_steps send_steps
send_links d frame joined (Ok x) = refl
send_links d frame true (Err linking.Failed) = refl
send_links d frame false (Err linking.Failed) = refl
send_links d frame joined (Err linking.Short) = refl

receive_links : (d : ℕ) (joined : Bool) (result : Result ℕ LinkFault) (buf : List ℕ) → link_steps (receive_steps d joined result buf) ≡ receive_steps d joined result buf
unfolding link_steps receive_steps
receive_links d joined (Ok n) buf = refl
receive_links d true (Err linking.Failed) buf = refl
receive_links d false (Err linking.Failed) buf = refl
receive_links d joined (Err linking.Short) buf = refl

-- ---- A history that goes on by such steps

-- The other world appended these steps, none of an application.
goes_on : {Own : Type 0} (notes : List Note) (apps : AppCounts) (old new : Seen Own) (steps : List WorldStep) → Grows [] notes old.history → new.history ≡ old.history ++ steps → link_steps steps ≡ steps
    → (seen_with notes apps new).history ≡ (seen_with notes apps old).history ++ steps
unfolding seen_with
goes_on notes apps old new steps grows longer links =
    ap (λ (xs : List WorldStep). woven [] notes xs) longer ∙ woven-more [] notes old.history steps grows ∙ ap (λ (xs : List WorldStep). woven [] notes old.history ++ xs) links

-- it stands as before, with the same applications
pub Stands-on : {Own : Type 0} {Tells : Type 0} (notes : List Note) (running : List ℕ) (apps : AppCounts) (inside : List Bool) (old new : Seen Own) → Stands Tells notes running apps inside old → new.given ≡ old.given
    → (Tells → (steps : List WorldStep) × (new.history ≡ old.history ++ steps) × (link_steps steps ≡ steps)) → Stands Tells notes running apps inside new
unfolding state seen_with
Stands-on notes running apps inside old new stands given more = record {
  grows = λ told. subst (Grows [] notes) (sym (more told).1) (Grows-more [] notes old.history (more told).0 (stands.grows told));
  run = λ told.
      ap (λ (xs : List WorldStep). (after_steps (woven [] notes xs) (at_first new.given)).running) (more told).1
      ∙ ap (λ (g : _). (after_steps (woven [] notes (old.history ++ (more told).0)) (at_first g)).running) given
      ∙ ap (λ (xs : List WorldStep). (after_steps xs (at_first old.given)).running) (woven-more [] notes old.history (more told).0 (stands.grows told))
      ∙ ap (λ (s : State). s.running) (after_steps-append (woven [] notes old.history) (link_steps (more told).0) (at_first old.given))
      ∙ runs-link_steps (more told).0 (after_steps (woven [] notes old.history) (at_first old.given))
      ∙ stands.run told;
  fit = stands.fit;
  runs = λ told app is.
      ap (is_running app) (state-append old new (more told).0 given (more told).1)
      ∙ ap (λ (xs : List WorldStep). is_running app (after_steps xs (state old))) (sym (more told).2)
      ∙ ap (is_among app) (runs-link_steps (more told).0 (state old))
      ∙ stands.runs told app is;
}

-- ---- open

open_counts-apps : {T : Type 0} (result : Result T OpenFault) (apps : AppCounts) (c : Counts) → with_apps apps (open_counts result c) ≡ open_counts result (with_apps apps c)
unfolding open_counts
open_counts-apps (Ok x) apps c = refl
open_counts-apps (Err opening.Shut) apps c = refl
open_counts-apps (Err opening.Short) apps c = short-apps apps c

pub Opens-linked : {Own T : Type 0} {Tells : Type 0} {notes : List Note} {running : List ℕ} {apps : AppCounts} {inside : List Bool} {old new : Seen Own} {result : Result T OpenFault} → Stands Tells notes running apps inside old
    → Opens Tells old new result → Opens Tells (seen_with notes apps old) (seen_with notes apps new) result
unfolding seen_with
Opens-linked {notes = notes} {apps = apps} {old = old} {new = new} {result = result} stands call = record {
  given = call.given;
  none_fell = NoneFell-apps apps old.counts new.counts call.none_fell;
  shut = call.shut;
  short = λ is. total-Rose old.counts.shorts new.counts.shorts apps.shorts (call.short is);
  told = λ told.
      let t = call.told told in
      let side : link_side (state (seen_with notes apps old)) ≡ link_side (state old) = side-woven notes apps old (stands.grows told) in
      let opened : (state (seen_with notes apps old)).opened ≡ (state old).opened = opened-side (state (seen_with notes apps old)) (state old) side in
      record {
        history = goes_on notes apps old new (open_steps result) (stands.grows told) t.history (open_links result);
        counts = λ shown. rw (opened, ← open_counts-apps result apps old.counts, ← stray-apps (state old).opened apps (open_counts result old.counts))
            (AreCounts-apps old.given.declared apps (with_stray (state old).opened (open_counts result old.counts)) new.counts (t.counts shown));
        out_of_place = λ shown. λ is. t.out_of_place shown (subst IsTrue opened is);
      };
}

pub Opens-stands : {Own T : Type 0} {Tells : Type 0} {notes : List Note} {running : List ℕ} {apps : AppCounts} {inside : List Bool} {old new : Seen Own} {result : Result T OpenFault} → Stands Tells notes running apps inside old
    → Opens Tells old new result → Stands Tells notes running apps inside new
Opens-stands {notes = notes} {running = running} {apps = apps} {inside = inside} {old = old} {new = new} {result = result} stands call =
    Stands-on notes running apps inside old new stands call.given (λ told. (open_steps result, (call.told told).history, open_links result))

-- ---- next

next_counts-apps : (result : Result Item NextFault) (apps : AppCounts) (c : Counts) → with_apps apps (next_counts result c) ≡ next_counts result (with_apps apps c)
unfolding next_counts
next_counts-apps (Ok item) apps c = refl
next_counts-apps (Err coming.Failed) apps c = refl
next_counts-apps (Err coming.Short) apps c = short-apps apps c

pub Nexts-linked : {Own : Type 0} {Tells : Type 0} {notes : List Note} {running : List ℕ} {apps : AppCounts} {inside : List Bool} {old new : Seen Own} {result : Result Item NextFault} {buf : List ℕ} → Stands Tells notes running apps inside old
    → Nexts Tells old new result buf → Nexts Tells (seen_with notes apps old) (seen_with notes apps new) result buf
unfolding seen_with
Nexts-linked {notes = notes} {apps = apps} {old = old} {new = new} {result = result} {buf = buf} stands call = record {
  given = call.given;
  none_fell = NoneFell-apps apps old.counts new.counts call.none_fell;
  item = call.item;
  failed = call.failed;
  short = λ is. total-Rose old.counts.shorts new.counts.shorts apps.shorts (call.short is);
  told = λ told.
      let t = call.told told in
      let here = state (seen_with notes apps old) in
      let side : link_side here ≡ link_side (state old) = side-woven notes apps old (stands.grows told) in
      let begun : link_side (after_steps (stim_steps t.begun) here) ≡ link_side (after_steps (stim_steps t.begun) (state old)) =
      side-steps (stim_steps t.begun) here (state old) side in
      record {
        begun = t.begun;
        to_come = λ shown. subst (λ (xs : List WorldStim). IfSome t.begun (λ x. slice_get xs 0 ≡ Some x)) (sym (to_come-side here (state old) side)) (t.to_come shown);
        history = goes_on notes apps old new (next_steps t.begun result buf) (stands.grows told) t.history (next_links t.begun result buf);
        counts = λ shown. rw (← next_counts-apps result apps old.counts)
            (AreCounts-apps old.given.declared apps (next_counts result old.counts) new.counts (t.counts shown));
        idle = λ shown. subst (λ (P : Type 0). IfOk result (λ item. (item ≡ items.Idle) ↔ P)) (sym (idle-side (after_steps (stim_steps t.begun) here) (after_steps (stim_steps t.begun) (state old)) begun)) (t.idle shown);
        over = λ shown. subst (λ (P : Type 0). IfOk result (λ item. (item ≡ items.End) ↔ P)) (sym (over-side (after_steps (stim_steps t.begun) here) (after_steps (stim_steps t.begun) (state old)) begun)) (t.over shown);
      };
}

pub Nexts-stands : {Own : Type 0} {Tells : Type 0} {notes : List Note} {running : List ℕ} {apps : AppCounts} {inside : List Bool} {old new : Seen Own} {result : Result Item NextFault} {buf : List ℕ} → Stands Tells notes running apps inside old
    → Nexts Tells old new result buf → Stands Tells notes running apps inside new
Nexts-stands {notes = notes} {running = running} {apps = apps} {inside = inside} {old = old} {new = new} {result = result} {buf = buf} stands call =
    Stands-on notes running apps inside old new stands call.given (λ told. (next_steps (call.told told).begun result buf, (call.told told).history, next_links (call.told told).begun result buf))

-- ---- send

link_counts-apps : {T : Type 0} (d : ℕ) (result : Result T LinkFault) (apps : AppCounts) (c : Counts) → with_apps apps (link_counts d result c) ≡ link_counts d result (with_apps apps c)
unfolding link_counts
link_counts-apps d (Ok x) apps c = refl
link_counts-apps d (Err linking.Failed) apps c = refl
link_counts-apps d (Err linking.Short) apps c = short_of-apps d apps c

pub Sends-linked : {Own T : Type 0} {Tells : Type 0} {notes : List Note} {running : List ℕ} {apps : AppCounts} {inside : List Bool} {d : ℕ} {frame : List ℕ} {old new : Seen Own} {result : Result T LinkFault} → Stands Tells notes running apps inside old
    → Sends Tells d frame old new result → Sends Tells d frame (seen_with notes apps old) (seen_with notes apps new) result
unfolding seen_with
Sends-linked {notes = notes} {apps = apps} {d = d} {frame = frame} {old = old} {new = new} {result = result} stands call = record {
  given = call.given;
  none_fell = NoneFell-apps apps old.counts new.counts call.none_fell;
  failed = call.failed;
  short = λ is. total-Rose old.counts.shorts new.counts.shorts apps.shorts (call.short is);
  short_of = call.short_of;
  told = λ told.
      let t = call.told told in
      let joined : is_joined d (state (seen_with notes apps old)) ≡ is_joined d (state old) =
      joined-side d (state (seen_with notes apps old)) (state old) (side-woven notes apps old (stands.grows told)) in
      record {
        history = rw joined (goes_on notes apps old new (send_steps d frame (is_joined d (state old)) result) (stands.grows told) t.history (send_links d frame (is_joined d (state old)) result));
        counts = λ shown. rw (joined, ← link_counts-apps d result apps old.counts, ← stray-apps (not (is_joined d (state old))) apps (link_counts d result old.counts))
            (AreCounts-apps old.given.declared apps (with_stray (not (is_joined d (state old))) (link_counts d result old.counts)) new.counts (t.counts shown));
        out_of_place = λ is. t.out_of_place (sym joined ∙ is);
      };
}

pub Sends-stands : {Own T : Type 0} {Tells : Type 0} {notes : List Note} {running : List ℕ} {apps : AppCounts} {inside : List Bool} {d : ℕ} {frame : List ℕ} {old new : Seen Own} {result : Result T LinkFault} → Stands Tells notes running apps inside old
    → Sends Tells d frame old new result → Stands Tells notes running apps inside new
Sends-stands {notes = notes} {running = running} {apps = apps} {inside = inside} {d = d} {frame = frame} {old = old} {new = new} {result = result} stands call =
    Stands-on notes running apps inside old new stands call.given
    (λ told. (send_steps d frame (is_joined d (state old)) result, (call.told told).history, send_links d frame (is_joined d (state old)) result))

-- ---- recv

pub Receives-linked : {Own : Type 0} {Tells : Type 0} {notes : List Note} {running : List ℕ} {apps : AppCounts} {inside : List Bool} {d : ℕ} {old new : Seen Own} {result : Result ℕ LinkFault} {buf : List ℕ} → Stands Tells notes running apps inside old
    → Receives Tells d old new result buf → Receives Tells d (seen_with notes apps old) (seen_with notes apps new) result buf
unfolding seen_with
Receives-linked {notes = notes} {apps = apps} {d = d} {old = old} {new = new} {result = result} {buf = buf} stands call = record {
  given = call.given;
  none_fell = NoneFell-apps apps old.counts new.counts call.none_fell;
  message = call.message;
  failed = call.failed;
  short = λ is. total-Rose old.counts.shorts new.counts.shorts apps.shorts (call.short is);
  short_of = call.short_of;
  told = λ told.
      let t = call.told told in
      let here = state (seen_with notes apps old) in
      let side : link_side here ≡ link_side (state old) = side-woven notes apps old (stands.grows told) in
      let joined : is_joined d here ≡ is_joined d (state old) = joined-side d here (state old) side in
      let can : can_receive d here ≡ can_receive d (state old) = receive-side d here (state old) side in
      record {
        history = rw joined (goes_on notes apps old new (receive_steps d (is_joined d (state old)) result buf) (stands.grows told) t.history (receive_links d (is_joined d (state old)) result buf));
        counts = λ shown. rw (can, ← link_counts-apps d result apps old.counts, ← stray-apps (not (can_receive d (state old))) apps (link_counts d result old.counts))
            (AreCounts-apps old.given.declared apps (with_stray (not (can_receive d (state old))) (link_counts d result old.counts)) new.counts (t.counts shown));
        out_of_place = λ shown. λ is. t.out_of_place shown (sym can ∙ is);
      };
}

pub Receives-stands : {Own : Type 0} {Tells : Type 0} {notes : List Note} {running : List ℕ} {apps : AppCounts} {inside : List Bool} {d : ℕ} {old new : Seen Own} {result : Result ℕ LinkFault} {buf : List ℕ} → Stands Tells notes running apps inside old
    → Receives Tells d old new result buf → Stands Tells notes running apps inside new
Receives-stands {notes = notes} {running = running} {apps = apps} {inside = inside} {d = d} {old = old} {new = new} {result = result} {buf = buf} stands call =
    Stands-on notes running apps inside old new stands call.given
    (λ told. (receive_steps d (is_joined d (state old)) result buf, (call.told told).history, receive_links d (is_joined d (state old)) result buf))

-- ---- The world as data, with the other one moved

-- only the other world moved
abbrev pub LinksMoved : {W : Type 0} → Linkage W → Linkage W → Type 0
LinksMoved old new = new ≡ (record old { links = new.links })

pub opens_linked : {Own W T : Type 0} {Tells : Type 0} (see : W → Seen Own) (old new : Linkage W) (result : Result T OpenFault) → IsLinkage Tells see old → LinksMoved old new
    → Opens Tells (see old.links) (see new.links) result → Opens Tells (seen_of see old) (seen_of see new) result
unfolding seen_of
opens_linked {Tells = Tells} see old new result is moved call =
    subst (λ (d : Linkage _). Opens Tells (seen_of see old) (seen_of see d) result) (sym moved) (Opens-linked is call)

pub opens_stands : {Own W T : Type 0} {Tells : Type 0} (see : W → Seen Own) (old new : Linkage W) (result : Result T OpenFault) → IsLinkage Tells see old → LinksMoved old new
    → Opens Tells (see old.links) (see new.links) result → IsLinkage Tells see new
opens_stands {Tells = Tells} see old new result is moved call = subst (IsLinkage Tells see) (sym moved) (Opens-stands is call)

pub nexts_linked : {Own W : Type 0} {Tells : Type 0} (see : W → Seen Own) (old new : Linkage W) (result : Result Item NextFault) (buf : List ℕ) → IsLinkage Tells see old → LinksMoved old new
    → Nexts Tells (see old.links) (see new.links) result buf → Nexts Tells (seen_of see old) (seen_of see new) result buf
unfolding seen_of
nexts_linked {Tells = Tells} see old new result buf is moved call =
    subst (λ (d : Linkage _). Nexts Tells (seen_of see old) (seen_of see d) result buf) (sym moved) (Nexts-linked is call)

pub nexts_stands : {Own W : Type 0} {Tells : Type 0} (see : W → Seen Own) (old new : Linkage W) (result : Result Item NextFault) (buf : List ℕ) → IsLinkage Tells see old → LinksMoved old new
    → Nexts Tells (see old.links) (see new.links) result buf → IsLinkage Tells see new
nexts_stands {Tells = Tells} see old new result buf is moved call = subst (IsLinkage Tells see) (sym moved) (Nexts-stands is call)

pub sends_linked : {Own W T : Type 0} {Tells : Type 0} (see : W → Seen Own) (d : ℕ) (frame : List ℕ) (old new : Linkage W) (result : Result T LinkFault) → IsLinkage Tells see old → LinksMoved old new
    → Sends Tells d frame (see old.links) (see new.links) result → Sends Tells d frame (seen_of see old) (seen_of see new) result
unfolding seen_of
sends_linked {Tells = Tells} see d frame old new result is moved call =
    subst (λ (x : Linkage _). Sends Tells d frame (seen_of see old) (seen_of see x) result) (sym moved) (Sends-linked is call)

pub sends_stands : {Own W T : Type 0} {Tells : Type 0} (see : W → Seen Own) (d : ℕ) (frame : List ℕ) (old new : Linkage W) (result : Result T LinkFault) → IsLinkage Tells see old → LinksMoved old new
    → Sends Tells d frame (see old.links) (see new.links) result → IsLinkage Tells see new
sends_stands {Tells = Tells} see d frame old new result is moved call = subst (IsLinkage Tells see) (sym moved) (Sends-stands is call)

pub receives_linked : {Own W : Type 0} {Tells : Type 0} (see : W → Seen Own) (d : ℕ) (old new : Linkage W) (result : Result ℕ LinkFault) (buf : List ℕ) → IsLinkage Tells see old → LinksMoved old new
    → Receives Tells d (see old.links) (see new.links) result buf → Receives Tells d (seen_of see old) (seen_of see new) result buf
unfolding seen_of
receives_linked {Tells = Tells} see d old new result buf is moved call =
    subst (λ (x : Linkage _). Receives Tells d (seen_of see old) (seen_of see x) result buf) (sym moved) (Receives-linked is call)

pub receives_stands : {Own W : Type 0} {Tells : Type 0} (see : W → Seen Own) (d : ℕ) (old new : Linkage W) (result : Result ℕ LinkFault) (buf : List ℕ) → IsLinkage Tells see old → LinksMoved old new
    → Receives Tells d (see old.links) (see new.links) result buf → IsLinkage Tells see new
receives_stands {Tells = Tells} see d old new result buf is moved call = subst (IsLinkage Tells see) (sym moved) (Receives-stands is call)
