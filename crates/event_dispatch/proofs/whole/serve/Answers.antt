use Rattle.std.proofs.Common.{map, inl}
use Rattle.crash_policy.specs.Policies.{app_value}
use Rattle.outside.specs.laws.SeenLaws.{Continues-trans}
use Rattle.event_dispatch.specs.laws.WholeLaws.{rules_own, cut_unopened, cut_failed, alike_unopened, alike_done, alike_failed}
use Rattle.event_dispatch.specs.laws.PlainLaws.{unopened_plain, served_plain}
use Rattle.event_dispatch.specs.laws.ReadLaws.{unopened_places, opened_places, unopened_read, all_read, failed_read}
use Rattle.run_laws.specs.First.{net_at_first}
use Rattle.event_dispatch.specs.laws.EndedLaws.{unopened_ended, opened_ended}
use Rattle.event_dispatch.specs.laws.NumberLaws.{unopened_ids, opened_ids}
use Rattle.event_dispatch.specs.laws.EndCourseLaws.{course_unopened, course_done, course_failed}
use Rattle.event_dispatch.specs.laws.WhyLaws.{IsWhy-sink, why_behind, same_fell}
use Rattle.event_dispatch.proofs.whole.serve.Goals as goal

pub returns-in-Err-clause-continues : goal.returns-in-Err-clause-continues
returns-in-Err-clause-continues g c = c.open.ensures.continues

pub returns-in-Err-clause-never_fell : goal.returns-in-Err-clause-never_fell
returns-in-Err-clause-never_fell g c = same_fell (g.K.Sink.faults c.args.sink.now)

pub returns-in-Err-clause-end_has_cause : goal.returns-in-Err-clause-end_has_cause
returns-in-Err-clause-end_has_cause g c = IsWhy-sink g.W.World.Tells (g.W.World.seen c.args.world.now) (g.W.World.seen c.open.new.world)
    (g.K.Sink.faults c.args.sink.now) (g.K.Sink.faults c.args.sink.now) c.in-Err.served (same_fell (g.K.Sink.faults c.args.sink.now)) c.in-Err.ensures.why

pub returns-in-Ok-clause-continues : goal.returns-in-Ok-clause-continues
returns-in-Ok-clause-continues g c = Continues-trans g.W.World.Tells (g.W.World.seen c.args.world.now) (g.W.World.seen c.open.new.world)
    (g.W.World.seen c.run.new.world) c.open.ensures.continues c.in-Ok.ensures.passes.continues

pub returns-in-Ok-clause-never_fell : goal.returns-in-Ok-clause-never_fell
returns-in-Ok-clause-never_fell g c = c.in-Ok.ensures.passes.never_fell

pub returns-in-Err-run-clause-continues : goal.returns-in-Err-run-clause-continues
returns-in-Err-run-clause-continues g c = Continues-trans g.W.World.Tells (g.W.World.seen c.args.world.now) (g.W.World.seen c.open.new.world)
    (g.W.World.seen c.run.new.world) c.open.ensures.continues c.in-Err-run.ensures.passes.continues

pub returns-in-Err-run-clause-never_fell : goal.returns-in-Err-run-clause-never_fell
returns-in-Err-run-clause-never_fell g c = c.in-Err-run.ensures.passes.never_fell

pub returns-in-Err-run-clause-end_has_cause : goal.returns-in-Err-run-clause-end_has_cause
returns-in-Err-run-clause-end_has_cause g c = why_behind (g.W.World.seen c.args.world.now) (g.W.World.seen c.open.new.world) (g.W.World.seen c.run.new.world)
    (g.K.Sink.faults c.args.sink.now) (g.K.Sink.faults c.args.sink.now) (g.K.Sink.faults c.run.new.sink) c.in-Err-run.served c.open.ensures.continues
    (same_fell (g.K.Sink.faults c.args.sink.now)) c.in-Err-run.ensures.done.fails.why

pub returns-in-Err-clause-reference_run : goal.returns-in-Err-clause-reference_run
returns-in-Err-clause-reference_run g c =
    alike_unopened (map app_value c.args.rules.now) g.W.World.Tells (g.J.Judge.accepts c.args.judge.now) c.args.rounds (g.K.Sink.contents c.args.sink.now)
    (g.W.World.seen c.args.world.now) (g.W.World.seen c.open.new.world) c.in-Err.served c.in-Err.ensures.unopened

pub returns-in-Ok-clause-reference_run : goal.returns-in-Ok-clause-reference_run
returns-in-Ok-clause-reference_run g c =
    alike_done (map app_value c.args.rules.now) g.W.World.Tells (g.J.Judge.accepts c.args.judge.now) c.args.rounds c.in-Ok.events
    (g.K.Sink.contents c.args.sink.now) (g.K.Sink.contents c.run.new.sink) (g.W.World.seen c.args.world.now) (g.W.World.seen c.open.new.world)
    (g.W.World.seen c.run.new.world) c.in_default.ensures.opened c.in-Ok.ensures.done.runs

pub returns-in-Err-run-clause-reference_run : goal.returns-in-Err-run-clause-reference_run
returns-in-Err-run-clause-reference_run g c =
    alike_failed (map app_value c.args.rules.now) g.W.World.Tells (g.J.Judge.accepts c.args.judge.now) c.args.rounds c.in-Err-run.served
    (g.K.Sink.contents c.args.sink.now) (g.K.Sink.contents c.run.new.sink) (g.W.World.seen c.args.world.now) (g.W.World.seen c.open.new.world)
    (g.W.World.seen c.run.new.world) c.in_default.ensures.opened c.in-Err-run.ensures.passes.continues
    (rules_own c.args.rules.now c.in-Err-run.ensures.passes.none_runs.no_stray.own) c.in-Err-run.ensures.done.runs c.in-Err-run.ensures.done.fails.cut

pub returns-in-Err-clause-reference_run_until_fault : goal.returns-in-Err-clause-reference_run_until_fault
returns-in-Err-clause-reference_run_until_fault g c =
    λ allows p. cut_unopened (map app_value c.args.rules.now) g.W.World.Tells (g.K.Sink.contents c.args.sink.now) (g.W.World.seen c.args.world.now)
    (g.W.World.seen c.open.new.world) c.in-Err.served c.in-Err.ensures.unopened allows p.told p.untouched

pub returns-in-Ok-clause-reference_run_until_fault : goal.returns-in-Ok-clause-reference_run_until_fault
returns-in-Ok-clause-reference_run_until_fault g c =
    λ allows p. tt

pub returns-in-Err-run-clause-reference_run_until_fault : goal.returns-in-Err-run-clause-reference_run_until_fault
returns-in-Err-run-clause-reference_run_until_fault g c =
    cut_failed (map app_value c.args.rules.now) g.W.World.Tells (g.J.Judge.accepts c.args.judge.now) c.args.rounds c.in-Err-run.served
    (g.K.Sink.contents c.args.sink.now) (g.K.Sink.contents c.run.new.sink) (g.W.World.seen c.args.world.now) (g.W.World.seen c.open.new.world)
    (g.W.World.seen c.run.new.world) c.in_default.ensures.opened c.in-Err-run.ensures.passes.continues
    (rules_own c.args.rules.now c.in-Err-run.ensures.passes.none_runs.no_stray.own) c.in-Err-run.ensures.done.runs c.in-Err-run.ensures.done.fails.cut

pub returns-in-Err-clause-no_switch_at_fault : goal.returns-in-Err-clause-no_switch_at_fault
returns-in-Err-clause-no_switch_at_fault g c =
    λ allows p. inl (unopened_plain g.W.World.Tells (g.W.World.seen c.args.world.now) (g.W.World.seen c.open.new.world) c.in-Err.served
    c.in-Err.ensures.unopened)

pub returns-in-Ok-clause-no_switch_at_fault : goal.returns-in-Ok-clause-no_switch_at_fault
returns-in-Ok-clause-no_switch_at_fault g c =
    λ allows p. inl tt

pub returns-in-Err-run-clause-no_switch_at_fault : goal.returns-in-Err-run-clause-no_switch_at_fault
returns-in-Err-run-clause-no_switch_at_fault g c =
    served_plain (map app_value c.args.rules.now) g.W.World.Tells (g.J.Judge.accepts c.args.judge.now) c.in-Err-run.served
    (g.W.World.seen c.args.world.now) (g.W.World.seen c.open.new.world) (g.W.World.seen c.run.new.world) c.in_default.ensures.opened
    c.in-Err-run.ensures.done.fails.plain

pub returns-in-Err-clause-no_stray_call : goal.returns-in-Err-clause-no_stray_call
returns-in-Err-clause-no_stray_call g c =
    λ told none order. unopened_places g.W.World.Tells (g.W.World.seen c.args.world.now) (g.W.World.seen c.open.new.world) c.in-Err.served
    c.in-Err.ensures.unopened told

pub returns-in-Ok-clause-no_stray_call : goal.returns-in-Ok-clause-no_stray_call
returns-in-Ok-clause-no_stray_call g c =
    opened_places g.W.World.Tells (g.W.World.seen c.args.world.now) (g.W.World.seen c.open.new.world) (g.W.World.seen c.run.new.world)
    c.open.ensures.continues c.in-Ok.ensures.passes.continues c.in_default.ensures.opened c.in-Ok.ensures.passes.none_runs.no_stray

pub returns-in-Err-run-clause-no_stray_call : goal.returns-in-Err-run-clause-no_stray_call
returns-in-Err-run-clause-no_stray_call g c =
    opened_places g.W.World.Tells (g.W.World.seen c.args.world.now) (g.W.World.seen c.open.new.world) (g.W.World.seen c.run.new.world)
    c.open.ensures.continues c.in-Err-run.ensures.passes.continues c.in_default.ensures.opened c.in-Err-run.ensures.passes.none_runs.no_stray

pub returns-in-Err-clause-all_bytes_are_messages : goal.returns-in-Err-clause-all_bytes_are_messages
returns-in-Err-clause-all_bytes_are_messages g c =
    λ told none order. unopened_read g.W.World.Tells (g.W.World.seen c.args.world.now) (g.W.World.seen c.open.new.world) c.in-Err.served
    c.in-Err.ensures.unopened

pub returns-in-Ok-clause-all_bytes_are_messages : goal.returns-in-Ok-clause-all_bytes_are_messages
returns-in-Ok-clause-all_bytes_are_messages g c =
    all_read g.W.World.Tells (g.W.World.seen c.args.world.now) (g.W.World.seen c.open.new.world) (g.W.World.seen c.run.new.world)
    c.in-Ok.ensures.passes.continues c.in_default.ensures.opened c.in-Ok.ensures.passes.reads

pub returns-in-Err-run-clause-all_bytes_are_messages : goal.returns-in-Err-run-clause-all_bytes_are_messages
returns-in-Err-run-clause-all_bytes_are_messages g c =
    failed_read (map app_value c.args.rules.now) g.W.World.Tells (g.J.Judge.accepts c.args.judge.now) c.args.rounds c.in-Err-run.served
    (g.K.Sink.contents c.args.sink.now) (g.K.Sink.contents c.run.new.sink) (g.W.World.seen c.args.world.now) (g.W.World.seen c.open.new.world)
    (g.W.World.seen c.run.new.world) c.in-Err-run.ensures.passes.continues c.in_default.ensures.opened c.in-Err-run.ensures.done.runs
    c.in-Err-run.ensures.passes.reads

pub returns-in-Err-clause-every_application_ended : goal.returns-in-Err-clause-every_application_ended
returns-in-Err-clause-every_application_ended g c =
    λ told none. unopened_ended g.W.World.Tells (g.W.World.seen c.args.world.now) (g.W.World.seen c.open.new.world) c.in-Err.served
    c.in-Err.ensures.unopened told none

pub returns-in-Ok-clause-every_application_ended : goal.returns-in-Ok-clause-every_application_ended
returns-in-Ok-clause-every_application_ended g c =
    opened_ended g.W.World.Tells (g.W.World.seen c.args.world.now) (g.W.World.seen c.open.new.world) (g.W.World.seen c.run.new.world) net_at_first
    c.in_default.ensures.opened c.in-Ok.ensures.passes.none_runs

pub returns-in-Err-run-clause-every_application_ended : goal.returns-in-Err-run-clause-every_application_ended
returns-in-Err-run-clause-every_application_ended g c =
    opened_ended g.W.World.Tells (g.W.World.seen c.args.world.now) (g.W.World.seen c.open.new.world) (g.W.World.seen c.run.new.world) net_at_first
    c.in_default.ensures.opened c.in-Err-run.ensures.passes.none_runs

pub returns-in-Err-clause-own_ids_ascend : goal.returns-in-Err-clause-own_ids_ascend
returns-in-Err-clause-own_ids_ascend g c =
    λ told none order. unopened_ids g.W.World.Tells (g.W.World.seen c.args.world.now) (g.W.World.seen c.open.new.world) c.in-Err.served
    c.in-Err.ensures.unopened told none

pub returns-in-Ok-clause-own_ids_ascend : goal.returns-in-Ok-clause-own_ids_ascend
returns-in-Ok-clause-own_ids_ascend g c =
    opened_ids g.W.World.Tells (g.W.World.seen c.args.world.now) (g.W.World.seen c.open.new.world) (g.W.World.seen c.run.new.world)
    c.in_default.ensures.opened c.in-Ok.ensures.passes.numbers

pub returns-in-Err-run-clause-own_ids_ascend : goal.returns-in-Err-run-clause-own_ids_ascend
returns-in-Err-run-clause-own_ids_ascend g c =
    opened_ids g.W.World.Tells (g.W.World.seen c.args.world.now) (g.W.World.seen c.open.new.world) (g.W.World.seen c.run.new.world)
    c.in_default.ensures.opened c.in-Err-run.ensures.passes.numbers

pub returns-in-Err-clause-kept_messages_come_first : goal.returns-in-Err-clause-kept_messages_come_first
returns-in-Err-clause-kept_messages_come_first g c =
    course_unopened (map app_value c.args.rules.now) g.W.World.Tells (g.J.Judge.accepts c.args.judge.now) (g.K.Sink.contents c.args.sink.now)
    (g.W.World.seen c.args.world.now) (g.W.World.seen c.open.new.world) c.in-Err.served c.open.ensures.continues c.in-Err.ensures.unopened

pub returns-in-Ok-clause-kept_messages_come_first : goal.returns-in-Ok-clause-kept_messages_come_first
returns-in-Ok-clause-kept_messages_come_first g c =
    course_done (map app_value c.args.rules.now) g.W.World.Tells (g.J.Judge.accepts c.args.judge.now) c.args.rounds c.in-Ok.events
    (g.K.Sink.contents c.args.sink.now) (g.K.Sink.contents c.run.new.sink) (g.W.World.seen c.args.world.now) (g.W.World.seen c.open.new.world)
    (g.W.World.seen c.run.new.world) c.open.ensures.continues c.in_default.ensures.opened c.in-Ok.ensures.done.runs

pub returns-in-Err-run-clause-kept_messages_come_first : goal.returns-in-Err-run-clause-kept_messages_come_first
returns-in-Err-run-clause-kept_messages_come_first g c =
    course_failed (map app_value c.args.rules.now) g.W.World.Tells (g.J.Judge.accepts c.args.judge.now) c.args.rounds c.in-Err-run.served
    (g.K.Sink.contents c.args.sink.now) (g.K.Sink.contents c.run.new.sink) (g.W.World.seen c.args.world.now) (g.W.World.seen c.open.new.world)
    (g.W.World.seen c.run.new.world) c.open.ensures.continues c.in_default.ensures.opened c.in-Err-run.ensures.done.runs c.in-Err-run.ensures.done.fails.cut

pub returns-in-Err-clause-no_switch_ends_it : goal.returns-in-Err-clause-no_switch_ends_it
returns-in-Err-clause-no_switch_ends_it g c =
    λ can. unopened_plain g.W.World.Tells (g.W.World.seen c.args.world.now) (g.W.World.seen c.open.new.world) c.in-Err.served c.in-Err.ensures.unopened

pub returns-in-Err-run-clause-no_switch_ends_it : goal.returns-in-Err-run-clause-no_switch_ends_it
returns-in-Err-run-clause-no_switch_ends_it g c = c.in-Err-run.ensures.parted
