use Rattle.std.proofs.Common.{[]}
use Rattle.of_stream.specs.laws.FrameLaws.{one_cut, cut_is_first}
use Rattle.of_stream.specs.laws.RunLaws.{stream_of_run, frames_of_run}
use Rattle.of_stream.proofs.streams.laws_of_streams.Goals as goal

pub returns-clause-so_far : goal.returns-clause-so_far
returns-clause-so_far c steps held leads = (stream_of_run steps [] held leads, frames_of_run steps [] held leads)

pub returns-clause-first : goal.returns-clause-first
returns-clause-first c = cut_is_first

pub returns-clause-one_cut : goal.returns-clause-one_cut
returns-clause-one_cut c = one_cut
