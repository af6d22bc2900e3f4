-- Applications that keep nothing resume wherever they are restored.
use Rattle.std.proofs.Common.{ℕ, ◌^◌, ◌<◌, List, [], ◌∷◌, Option, Some, None, refl}
use Rattle.std.specs.List.{AllByRecursion}
use Rattle.std.proofs.lemmas.Bool.{cond_both}
use Rattle.of_match.specs.declared.flow_match.Match.{Match}
use Rattle.of_wire.specs.declared.bodies.PortStatus.{PortStatus}
use Rattle.app_frames.specs.Frames.{AppNumbers}
use Rattle.app_frames.specs.declared.frame.EventKind.{EventKind}
use Rattle.app_frames.specs.declared.frame.EventKind.TheVariants as kinds
use Rattle.app_objects.specs.Resuming.{IsMachine}
use Rattle.app_objects.specs.laws.ResumingLaws.{IsMachine-by}
use Rattle.machine_apps.specs.Down.{is_down}
use Rattle.machine_apps.specs.Clean.{status_of, deletions_by, clean_answers, clean_gives}
use Rattle.machine_apps.specs.Block.{drops, drops_at, block_answers, block_gives}

deletion_numbers : (d : ℕ) (status : Option PortStatus) → d < 2 ^ 64 → AllByRecursion AppNumbers (deletions_by d status)
deletion_numbers d None fits = tt
deletion_numbers d (Some status) fits = cond_both (is_down status) _ [] (AllByRecursion AppNumbers) (λ down. (fits, tt)) (λ up. tt)

pub cleaning_resumes : IsMachine (λ checkpoint frames. clean_gives frames)
cleaning_resumes = IsMachine-by clean_answers (λ event state. state) (λ checkpoint. tt) (λ state. Unit {0}) (record {
  first = λ checkpoint fit. tt;
  next = λ event state read is. tt;
  said = λ event state. deletions_by event.dpid (status_of event);
  checkpoint = λ state. [];
  numbers = λ event state fits. deletion_numbers event.dpid (status_of event) fits;
  done = λ event state. refl;
  back = λ state is. refl;
})

drop_numbers : (d : ℕ) (rows : List Match) → d < 2 ^ 64 → AllByRecursion AppNumbers (drops d rows)
drop_numbers d [] fits = tt
drop_numbers d (row ∷ rows) fits = (fits, drop_numbers d rows fits)

drops_at_numbers : (kind : EventKind) (d : ℕ) (rows : List Match) → d < 2 ^ 64 → AllByRecursion AppNumbers (drops_at kind d rows)
drops_at_numbers kinds.Join d rows fits = drop_numbers d rows fits
drops_at_numbers other d rows fits = tt

pub blocking_resumes : (rows : List Match) → IsMachine (λ checkpoint frames. block_gives rows frames)
blocking_resumes rows = IsMachine-by (block_answers rows) (λ event state. state) (λ checkpoint. tt) (λ state. Unit {0}) (record {
  first = λ checkpoint fit. tt;
  next = λ event state read is. tt;
  said = λ event state. drops_at event.kind event.dpid rows;
  checkpoint = λ state. [];
  numbers = λ event state fits. drops_at_numbers event.kind event.dpid rows fits;
  done = λ event state. refl;
  back = λ state is. refl;
})
