-- What follows about a change of the switch at a place.
use Rattle.std.proofs.Common.{◌≡◌, ℕ, List, Option, Some, None, Result, Ok, Err, IfNone, IfOk, IfSome, OnOk, OnErr, sym, subst, slice_index_or, ◌++◌, length, take, drop, arith, refl}
use Rattle.std.proofs.lemmas.List.{append-nil, drop_all, take_all}
use Rattle.outside.specs.State.{Link, link_of}
use Rattle.sim_world.specs.Links.{Held, HasPlace, HasNoPlace, links_in}
use Rattle.sim_world.specs.laws.LinksLaws.{link_of-held, link_of-not_held}

-- ---- What follows in one case of an answer

pub if_ok : {T E : Type 0} {P Q : T → Type 0} (r : Result T E) → ((x : T) → P x → Q x) → IfOk r P → IfOk r Q
if_ok (Ok x) f p = f x p
if_ok (Err e) f p = tt

pub if_some : {T : Type 0} {P Q : T → Type 0} (o : Option T) → ((x : T) → P x → Q x) → IfSome o P → IfSome o Q
if_some None f p = tt
if_some (Some x) f p = f x p

pub if_none : {T A B : Type 0} (o : Option T) → (A → B) → IfNone o A → IfNone o B
if_none None f a = f a
if_none (Some x) f a = tt

-- what holds at both ends of a call
pub either_way : {T E : Type 0} (r : Result T E) (P : List Link → Type 0) (old new moved : List Link) → OnOk r (new ≡ moved) → OnErr r (new ≡ old) → P moved → P old → P new
either_way (Ok x) P old new moved went kept at_moved at_old = subst P (sym went) at_moved
either_way (Err e) P old new moved went kept at_moved at_old = subst P (sym kept) at_old

-- ---- What is said of the link of a number, at its place

pub at_place : (P : Option Link → Type 0) (d : ℕ) (held : List Held) (place : ℕ) (x : Held) → HasPlace d held place → P (Some (slice_index_or held place x).link) → P (link_of d (links_in held))
at_place P d held place x has p = subst P (sym (link_of-held d held place x has)) p

pub from_position : (P : Option Link → Type 0) (d : ℕ) (held : List Held) (place : ℕ) (x : Held) → HasPlace d held place → P (link_of d (links_in held)) → P (Some (slice_index_or held place x).link)
from_position P d held place x has p = subst P (link_of-held d held place x has) p

pub at_none : (P : Option Link → Type 0) (d : ℕ) (held : List Held) → HasNoPlace d held → P None → P (link_of d (links_in held))
at_none P d held none p = subst P (sym (link_of-not_held d held none)) p

-- ---- A vector that was lent as a slice

pub whole_again : (old new : List Held) (n : ℕ) → n ≡ length old → length new ≡ length old → take n (new ++ drop (length new) old) ≡ new
whole_again old new n all same = rw (drop_all (length new) old (omega arith), append-nil new, take_all n new (omega arith)) refl
