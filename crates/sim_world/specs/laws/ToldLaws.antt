-- Without the calls of links the other calls are told to fail as before.
use Rattle.std.specs.Prelude.{◌≡◌, Bool, true, false, not, List, [], ◌∷◌, ◌++◌, refl, cond}
use Rattle.std.specs.List.{filter}
use Rattle.std.proofs.Common.{ap}
use Rattle.std.proofs.lemmas.Bool.{and_parts}
use Rattle.std.proofs.lemmas.Map.Views.{any-filter_same}
use Rattle.outside.specs.declared.call.CallKind.{CallKind}
use Rattle.outside.specs.declared.call.CallKind.TheVariants as kinds
use Rattle.outside.specs.declared.call.FailCall.{FailCall}
use Rattle.outside.specs.State.{is_link_call}
use Rattle.sim_world.specs.Told.{is_kind, tells, is_told, is_no_link, without_links, TellSame}

kind_apart : (one other : CallKind) → is_kind one other ≡ true → is_link_call other ≡ false → is_link_call one ≡ false
kind_apart kinds.Open other same apart = refl
kind_apart kinds.Next other same apart = refl
kind_apart kinds.Start other same apart = refl
kind_apart kinds.Give other same apart = refl
kind_apart kinds.TakeClosed other same apart = refl
kind_apart kinds.TakeSilent other same apart = refl
kind_apart kinds.Short other same apart = refl
kind_apart kinds.Link kinds.Link same apart = apart
kind_apart kinds.Link kinds.Open same apart = absurd cc
kind_apart kinds.Link kinds.Next same apart = absurd cc
kind_apart kinds.Link kinds.Start same apart = absurd cc
kind_apart kinds.Link kinds.Give same apart = absurd cc
kind_apart kinds.Link kinds.TakeClosed same apart = absurd cc
kind_apart kinds.Link kinds.TakeSilent same apart = absurd cc
kind_apart kinds.Link kinds.Short same apart = absurd cc

pub TellSame-without_links : (fails : List FailCall) → TellSame (without_links fails) fails
unfolding is_told without_links
TellSame-without_links fails kind of number apart =
    any-filter_same (tells kind of number) is_no_link true
    (λ f told. ap not (kind_apart f.kind kind (and_parts _ _ (and_parts _ _ told).0).0 apart))
    fails

kept_in_front : (b : Bool) (x : FailCall) (all front rest : List FailCall) → all ≡ front ++ rest → cond b (x ∷ all) all ≡ cond b (x ∷ front) front ++ rest
kept_in_front true x all front rest same = ap (λ (xs : List FailCall). x ∷ xs) same
kept_in_front false x all front rest same = same

pub without_links-other : (fails : List FailCall) (f : FailCall) → is_link_call f.kind ≡ false → without_links (fails ++ f ∷ []) ≡ without_links fails ++ f ∷ []
unfolding without_links
without_links-other [] f apart = ap (λ (b : Bool). cond (not b) (f ∷ []) []) apart
without_links-other (x ∷ xs) f apart =
    kept_in_front (is_no_link x) x (filter is_no_link (xs ++ f ∷ [])) (filter is_no_link xs) (f ∷ []) (without_links-other xs f apart)

pub without_links-link : (fails : List FailCall) (f : FailCall) → is_link_call f.kind ≡ true → without_links (fails ++ f ∷ []) ≡ without_links fails
unfolding without_links
without_links-link [] f link = ap (λ (b : Bool). cond (not b) (f ∷ []) []) link
without_links-link (x ∷ xs) f link = ap (λ (rest : List FailCall). cond (is_no_link x) (x ∷ rest) rest) (without_links-link xs f link)
