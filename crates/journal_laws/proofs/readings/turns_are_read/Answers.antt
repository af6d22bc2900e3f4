use Rattle.std.specs.Prelude.{true, false}
use Rattle.journal_laws.specs.laws.ReadingLaws.{turn_read}
use Rattle.journal_laws.proofs.readings.turns_are_read.Goals as goal

pub returns : goal.returns
returns c = record {
  given = λ app frame acts more stood event all. turn_read app true frame acts more stood event all;
  gone = λ app frame acts more stood event all. turn_read app false frame acts more stood event all;
}
