use Rattle.std.proofs.Common.{map}
use Rattle.crash_policy.specs.Policies.{app_value}
use Rattle.legosdn.specs.Input.{program_of}
use Rattle.event_dispatch.specs.declared.served.Served.TheVariants as served
use Rattle.legosdn.proofs.WorldRuns.{serves_whole, serves_part, cut_as, writing_place, lines_place, memory_place, switch_serves, none_stray}
use Rattle.legosdn.proofs.Courses.{done_course, left_course, write_course, shut_course, next_course, memory_course, switch_course}
use Rattle.legosdn.proofs.world.run_world.Goals as goal

pub returns-in-Ended-clause-runs : goal.returns-in-Ended-clause-runs
returns-in-Ended-clause-runs g c =
    serves_whole (program_of c.args.apps.now c.args.judge.now) g.W.World.Tells c.args.rounds (g.W.World.seen c.args.world.now) (g.W.World.seen c.serve.new.world) (g.K.Sink.contents c.args.sink.now) (g.K.Sink.contents c.serve.new.sink) c.serve.result _ c.in-Ended.is
    c.serve.ensures.all_bytes_are_messages c.serve.ensures.reference_run

pub returns-in-EventsLeft-clause-runs : goal.returns-in-EventsLeft-clause-runs
returns-in-EventsLeft-clause-runs g c =
    serves_part (program_of c.args.apps.now c.args.judge.now) g.W.World.Tells c.args.rounds (g.W.World.seen c.args.world.now) (g.W.World.seen c.serve.new.world) (g.K.Sink.contents c.args.sink.now) (g.K.Sink.contents c.serve.new.sink) c.serve.result c.in-EventsLeft.left c.in-EventsLeft.is
    c.serve.ensures.all_bytes_are_messages c.serve.ensures.reference_run

pub returns-in-WriteFault-clause-runs : goal.returns-in-WriteFault-clause-runs
returns-in-WriteFault-clause-runs g c = λ tells.
    writing_place (program_of c.args.apps.now c.args.judge.now) (g.W.World.seen c.serve.new.world) (g.K.Sink.contents c.args.sink.now) (g.K.Sink.contents c.serve.new.sink) tells.order
    (cut_as (program_of c.args.apps.now c.args.judge.now) g.W.World.Tells (g.W.World.seen c.args.world.now) (g.W.World.seen c.serve.new.world) (g.K.Sink.contents c.args.sink.now) (g.K.Sink.contents c.serve.new.sink) c.serve.result served.WriteFault c.in-WriteFault.is c.serve.ensures.reference_run_until_fault tells)

pub returns-in-Shut-clause-runs : goal.returns-in-Shut-clause-runs
returns-in-Shut-clause-runs g c =
    cut_as (program_of c.args.apps.now c.args.judge.now) g.W.World.Tells (g.W.World.seen c.args.world.now) (g.W.World.seen c.serve.new.world) (g.K.Sink.contents c.args.sink.now) (g.K.Sink.contents c.serve.new.sink) c.serve.result served.Shut c.in-Shut.is c.serve.ensures.reference_run_until_fault

pub returns-in-NextFault-clause-runs : goal.returns-in-NextFault-clause-runs
returns-in-NextFault-clause-runs g c = λ tells.
    lines_place (program_of c.args.apps.now c.args.judge.now) (g.W.World.seen c.serve.new.world) (g.K.Sink.contents c.args.sink.now) (g.K.Sink.contents c.serve.new.sink) tells.order
    (cut_as (program_of c.args.apps.now c.args.judge.now) g.W.World.Tells (g.W.World.seen c.args.world.now) (g.W.World.seen c.serve.new.world) (g.K.Sink.contents c.args.sink.now) (g.K.Sink.contents c.serve.new.sink) c.serve.result served.NextFault c.in-NextFault.is c.serve.ensures.reference_run_until_fault tells)

pub returns-clause-runs : goal.returns-clause-runs
returns-clause-runs g c = λ tells.
    memory_place (program_of c.args.apps.now c.args.judge.now) (g.W.World.seen c.serve.new.world) (g.K.Sink.contents c.args.sink.now) (g.K.Sink.contents c.serve.new.sink) tells.order
    (cut_as (program_of c.args.apps.now c.args.judge.now) g.W.World.Tells (g.W.World.seen c.args.world.now) (g.W.World.seen c.serve.new.world) (g.K.Sink.contents c.args.sink.now) (g.K.Sink.contents c.serve.new.sink) c.serve.result served.NoMemory c.in-NoMemory.is c.serve.ensures.reference_run_until_fault tells)

pub returns-in-Txn-clause-runs : goal.returns-in-Txn-clause-runs
returns-in-Txn-clause-runs g c =
    switch_serves (program_of c.args.apps.now c.args.judge.now) g.W.World.Tells c.args.rounds (g.W.World.seen c.args.world.now) (g.W.World.seen c.serve.new.world) (g.K.Sink.contents c.args.sink.now) (g.K.Sink.contents c.serve.new.sink) c.from.result c.in-Txn.fault c.serve.result c.in-Txn.is c.from.ensures
    c.serve.ensures.no_switch_at_fault c.serve.ensures.reference_run_until_fault

pub returns-in-Ended-clause-strays : goal.returns-in-Ended-clause-strays
returns-in-Ended-clause-strays g c =
    none_stray (program_of c.args.apps.now c.args.judge.now) g.W.World.Tells c.args.rounds (g.W.World.seen c.args.world.now) (g.W.World.seen c.serve.new.world) (g.K.Sink.contents c.args.sink.now) (g.K.Sink.contents c.serve.new.sink) c.serve.result c.serve.ensures.continues
    c.serve.ensures.no_stray_call c.serve.ensures.all_bytes_are_messages c.serve.ensures.reference_run c.serve.ensures.reference_run_until_fault

pub returns-in-EventsLeft-clause-strays : goal.returns-in-EventsLeft-clause-strays
returns-in-EventsLeft-clause-strays g c =
    none_stray (program_of c.args.apps.now c.args.judge.now) g.W.World.Tells c.args.rounds (g.W.World.seen c.args.world.now) (g.W.World.seen c.serve.new.world) (g.K.Sink.contents c.args.sink.now) (g.K.Sink.contents c.serve.new.sink) c.serve.result c.serve.ensures.continues
    c.serve.ensures.no_stray_call c.serve.ensures.all_bytes_are_messages c.serve.ensures.reference_run c.serve.ensures.reference_run_until_fault

pub returns-in-WriteFault-clause-strays : goal.returns-in-WriteFault-clause-strays
returns-in-WriteFault-clause-strays g c =
    none_stray (program_of c.args.apps.now c.args.judge.now) g.W.World.Tells c.args.rounds (g.W.World.seen c.args.world.now) (g.W.World.seen c.serve.new.world) (g.K.Sink.contents c.args.sink.now) (g.K.Sink.contents c.serve.new.sink) c.serve.result c.serve.ensures.continues
    c.serve.ensures.no_stray_call c.serve.ensures.all_bytes_are_messages c.serve.ensures.reference_run c.serve.ensures.reference_run_until_fault

pub returns-in-Shut-clause-strays : goal.returns-in-Shut-clause-strays
returns-in-Shut-clause-strays g c =
    none_stray (program_of c.args.apps.now c.args.judge.now) g.W.World.Tells c.args.rounds (g.W.World.seen c.args.world.now) (g.W.World.seen c.serve.new.world) (g.K.Sink.contents c.args.sink.now) (g.K.Sink.contents c.serve.new.sink) c.serve.result c.serve.ensures.continues
    c.serve.ensures.no_stray_call c.serve.ensures.all_bytes_are_messages c.serve.ensures.reference_run c.serve.ensures.reference_run_until_fault

pub returns-in-NextFault-clause-strays : goal.returns-in-NextFault-clause-strays
returns-in-NextFault-clause-strays g c =
    none_stray (program_of c.args.apps.now c.args.judge.now) g.W.World.Tells c.args.rounds (g.W.World.seen c.args.world.now) (g.W.World.seen c.serve.new.world) (g.K.Sink.contents c.args.sink.now) (g.K.Sink.contents c.serve.new.sink) c.serve.result c.serve.ensures.continues
    c.serve.ensures.no_stray_call c.serve.ensures.all_bytes_are_messages c.serve.ensures.reference_run c.serve.ensures.reference_run_until_fault

pub returns-clause-strays : goal.returns-clause-strays
returns-clause-strays g c =
    none_stray (program_of c.args.apps.now c.args.judge.now) g.W.World.Tells c.args.rounds (g.W.World.seen c.args.world.now) (g.W.World.seen c.serve.new.world) (g.K.Sink.contents c.args.sink.now) (g.K.Sink.contents c.serve.new.sink) c.serve.result c.serve.ensures.continues
    c.serve.ensures.no_stray_call c.serve.ensures.all_bytes_are_messages c.serve.ensures.reference_run c.serve.ensures.reference_run_until_fault

pub returns-in-Txn-clause-strays : goal.returns-in-Txn-clause-strays
returns-in-Txn-clause-strays g c =
    none_stray (program_of c.args.apps.now c.args.judge.now) g.W.World.Tells c.args.rounds (g.W.World.seen c.args.world.now) (g.W.World.seen c.serve.new.world) (g.K.Sink.contents c.args.sink.now) (g.K.Sink.contents c.serve.new.sink) c.serve.result c.serve.ensures.continues
    c.serve.ensures.no_stray_call c.serve.ensures.all_bytes_are_messages c.serve.ensures.reference_run c.serve.ensures.reference_run_until_fault

pub returns-in-Ended-clause-course : goal.returns-in-Ended-clause-course
returns-in-Ended-clause-course g c = λ told. done_course (map app_value c.args.apps.now) (g.W.World.seen c.args.world.now) (g.W.World.seen c.serve.new.world) (g.K.Sink.contents c.args.sink.now) (g.K.Sink.contents c.serve.new.sink) c.serve.result c.serve.ensures.kept_messages_come_first told _ _ c.in-Ended.is

pub returns-in-EventsLeft-clause-course : goal.returns-in-EventsLeft-clause-course
returns-in-EventsLeft-clause-course g c = λ told. left_course (map app_value c.args.apps.now) (g.W.World.seen c.args.world.now) (g.W.World.seen c.serve.new.world) (g.K.Sink.contents c.args.sink.now) (g.K.Sink.contents c.serve.new.sink) c.serve.result c.serve.ensures.kept_messages_come_first told c.in-EventsLeft.left c.in-EventsLeft.is

pub returns-in-WriteFault-clause-course : goal.returns-in-WriteFault-clause-course
returns-in-WriteFault-clause-course g c = λ told. write_course (map app_value c.args.apps.now) (g.W.World.seen c.args.world.now) (g.W.World.seen c.serve.new.world) (g.K.Sink.contents c.args.sink.now) (g.K.Sink.contents c.serve.new.sink) c.serve.result c.serve.ensures.kept_messages_come_first told c.in-WriteFault.is

pub returns-in-Shut-clause-course : goal.returns-in-Shut-clause-course
returns-in-Shut-clause-course g c = λ told. shut_course (map app_value c.args.apps.now) (g.W.World.seen c.args.world.now) (g.W.World.seen c.serve.new.world) (g.K.Sink.contents c.args.sink.now) (g.K.Sink.contents c.serve.new.sink) c.serve.result c.serve.ensures.kept_messages_come_first told c.in-Shut.is

pub returns-in-NextFault-clause-course : goal.returns-in-NextFault-clause-course
returns-in-NextFault-clause-course g c = λ told. next_course (map app_value c.args.apps.now) (g.W.World.seen c.args.world.now) (g.W.World.seen c.serve.new.world) (g.K.Sink.contents c.args.sink.now) (g.K.Sink.contents c.serve.new.sink) c.serve.result c.serve.ensures.kept_messages_come_first told c.in-NextFault.is

pub returns-clause-course : goal.returns-clause-course
returns-clause-course g c = λ told. memory_course (map app_value c.args.apps.now) (g.W.World.seen c.args.world.now) (g.W.World.seen c.serve.new.world) (g.K.Sink.contents c.args.sink.now) (g.K.Sink.contents c.serve.new.sink) c.serve.result c.serve.ensures.kept_messages_come_first told c.in-NoMemory.is

pub returns-in-Txn-clause-course : goal.returns-in-Txn-clause-course
returns-in-Txn-clause-course g c = λ told. switch_course (map app_value c.args.apps.now) (g.W.World.seen c.args.world.now) (g.W.World.seen c.serve.new.world) (g.K.Sink.contents c.args.sink.now) (g.K.Sink.contents c.serve.new.sink) c.serve.result c.serve.ensures.kept_messages_come_first told c.in-Txn.fault c.from.result c.in-Txn.is c.from.ensures

pub returns-in-Txn-clause-no_switch : goal.returns-in-Txn-clause-no_switch
returns-in-Txn-clause-no_switch g c = λ can. absurd (rw c.in-Txn.is at (c.serve.ensures.no_switch_ends_it can))
