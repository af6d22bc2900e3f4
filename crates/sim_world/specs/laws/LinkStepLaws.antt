-- Laws of all switches of a simulated world over one step: where each stands.
use Rattle.std.specs.Prelude.{ℕ, ◌+◌, ◌-◌, ◌^◌, ◌<◌, List, [], ◌∷◌, IfSome}
use Rattle.std.specs.List.{AllByRecursion}
use Rattle.std.proofs.Common.{arith}
use Rattle.of_types.specs.declared.journal.Stimulus.TheVariants.{Advance}
use Rattle.of_types.specs.declared.journal.WorldStim.{WorldStim}
use Rattle.of_types.specs.declared.journal.WorldStim.TheVariants.{Join, Leave, At, Of}
use Rattle.flow_table.specs.Switch.{Declared}
use Rattle.outside.specs.Conforming.{IsWorldStim}
use Rattle.outside.specs.State.{Link, link_of, with_link, moment_after, links_after, link_joined, link_left, link_stimulated, link_sent, link_got, link_told, link_lost, link_failed}
use Rattle.sim_world.specs.Links.{StandsAt, Stands, MayCall}
use Rattle.sim_world.specs.laws.LinkLaws.{Stands-joined, Stands-left, Stands-stimulated, Stands-passed, Stands-sent, Stands-more, Stands-got, Stands-told, Stands-lost, Stands-failed, MayCall-stands}
use Rattle.sim_world.specs.laws.LinksLaws.{All-with_link, All-map, All-link_of}

-- each link stands at the moment, and neither serials nor calls went beyond the number
abbrev pub AreStanding : ℕ → ℕ → List Link → Type 0
AreStanding moment most ls = AllByRecursion (Stands moment most) ls

pub AreStanding-stands : (moment most : ℕ) (ls : List Link) → AreStanding moment most ls → AllByRecursion (λ l. StandsAt moment l.switch) ls
AreStanding-stands moment most [] are = tt
AreStanding-stands moment most (l ∷ ls) are = (are.0.stands, AreStanding-stands moment most ls are.1)

pub AreStanding-may_call : (moment most d : ℕ) (ls : List Link) → most < 2 ^ 64 - 1 → AreStanding moment most ls → IfSome (link_of d ls) MayCall
AreStanding-may_call moment most d ls less are = All-link_of MayCall d ls (all_may ls are)
  where
    all_may : (ls : List Link) → AreStanding moment most ls → AllByRecursion MayCall ls
    all_may [] are = tt
    all_may (l ∷ ls) are = (MayCall-stands moment most l less are.0, all_may ls are.1)

-- a stimulus begins
pub AreStanding-begun : (declared : List Declared) (x : WorldStim) (moment most : ℕ) (ls : List Link) → IsWorldStim declared moment x → AreStanding moment most ls → AreStanding (moment_after x moment) most (links_after x moment ls)
unfolding IsWorldStim
AreStanding-begun declared (Join d) moment most ls is are =
    All-with_link (Stands moment most) (Stands moment most) d (link_joined moment) (λ l stands. stands) (Stands-joined moment most) ls are
AreStanding-begun declared (Leave d) moment most ls is are =
    All-with_link (Stands moment most) (Stands moment most) d link_left (λ l stands. stands) (Stands-left moment most) ls are
AreStanding-begun declared (At t) moment most ls is are = All-map (Stands moment most) (Stands t most) (link_stimulated (Advance t)) (Stands-passed moment t most) ls are
AreStanding-begun declared (Of d x) moment most ls is are =
    All-with_link (Stands moment most) (Stands moment most) d (link_stimulated x) (λ l stands. stands) (λ l stands. Stands-stimulated x moment most l is.1 stands) ls are

-- a call of a link
pub AreStanding-sent : (d : ℕ) (bytes : List ℕ) (moment most : ℕ) (ls : List Link) → AreStanding moment most ls → AreStanding moment (most + 1) (with_link d (link_sent bytes) ls)
AreStanding-sent d bytes moment most ls are =
    All-with_link (Stands moment most) (Stands moment (most + 1)) d (link_sent bytes) (λ l stands. Stands-more moment most (most + 1) l (omega arith) stands) (Stands-sent bytes moment most) ls are

pub AreStanding-got : (d moment most : ℕ) (ls : List Link) → AreStanding moment most ls → AreStanding moment (most + 1) (with_link d link_got ls)
AreStanding-got d moment most ls are =
    All-with_link (Stands moment most) (Stands moment (most + 1)) d link_got (λ l stands. Stands-more moment most (most + 1) l (omega arith) stands) (Stands-got moment most) ls are

pub AreStanding-lost : (d moment most : ℕ) (ls : List Link) → AreStanding moment most ls → AreStanding moment (most + 1) (with_link d link_lost ls)
AreStanding-lost d moment most ls are =
    All-with_link (Stands moment most) (Stands moment (most + 1)) d link_lost (λ l stands. Stands-more moment most (most + 1) l (omega arith) stands) (Stands-lost moment most) ls are

pub AreStanding-failed : (d moment most : ℕ) (ls : List Link) → AreStanding moment most ls → AreStanding moment (most + 1) (with_link d link_failed ls)
AreStanding-failed d moment most ls are =
    All-with_link (Stands moment most) (Stands moment (most + 1)) d link_failed (λ l stands. Stands-more moment most (most + 1) l (omega arith) stands) (Stands-failed moment most) ls are

-- a message that is told
pub AreStanding-told : (d moment most : ℕ) (ls : List Link) → AreStanding moment most ls → AreStanding moment most (with_link d link_told ls)
AreStanding-told d moment most ls are = All-with_link (Stands moment most) (Stands moment most) d link_told (λ l stands. stands) (Stands-told moment most) ls are
