-- What follows about the course of a run: parts that follow one another are one course.
use Rattle.std.proofs.Common.{Bool, List, [], ◌∷◌, ◌++◌, refl, subst}
use Rattle.flow_table.specs.View.{TableView}
use Rattle.outside.specs.Seen.{Seen, Continues}
use Rattle.outside.specs.laws.SeenLaws.{Continues-trans}
use Rattle.run_laws.specs.Course.{Stage, Part, Course, PartByPart, RunsOn}

module _ {Own : Type 0} (Tells : Type 0) (accepts : List TableView → Bool) where
  pub follows-none : (from : Stage Own) → PartByPart Tells accepts from from
  follows-none from = record { stages = []; parts = refl }

  pub follows-one : (from to : Stage Own) → Part Tells accepts from to → PartByPart Tells accepts from to
  follows-one from to part = record { stages = to ∷ []; parts = (part, refl) }

  course-then : (first second : List (Stage Own)) (a b c : Stage Own) → Course Tells accepts first a b → Course Tells accepts second b c → Course Tells accepts (first ++ second) a c
  course-then [] second a b c before after = subst (λ (s : Stage Own). Course Tells accepts second s c) before after
  course-then (mid ∷ more) second a b c before after = (before.0, course-then more second mid b c before.1 after)

  pub follows-then : (a b c : Stage Own) → PartByPart Tells accepts a b → PartByPart Tells accepts b c → PartByPart Tells accepts a c
  follows-then a b c before after = record { stages = before.stages ++ after.stages; parts = course-then before.stages after.stages a b c before.parts after.parts }

  -- a course up to a stage, and a run on from there
  pub runs-on : (a b last : Stage Own) (new : Seen Own) → PartByPart Tells accepts a b → RunsOn Tells accepts b last new → RunsOn Tells accepts a last new
  runs-on a b last new before on = record { course = follows-then a b last before on.course; later = on.later }

  -- the world goes on
  pub runs-later : (from last : Stage Own) (mid new : Seen Own) → Continues Tells mid new → RunsOn Tells accepts from last mid → RunsOn Tells accepts from last new
  runs-later from last mid new later on = record { course = on.course; later = Continues-trans Tells last.seen mid new on.later later }

  -- no part was done any more
  pub runs-still : (from : Stage Own) (new : Seen Own) → Continues Tells from.seen new → RunsOn Tells accepts from from new
  runs-still from new later = record { course = follows-none from; later = later }
