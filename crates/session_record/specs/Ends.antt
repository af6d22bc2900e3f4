-- How the bytes of an application end, as a value of a program and as a journal tells it.
use Rattle.lego_model.specs.Journal.{End}
use Rattle.lego_model.specs.Journal as journal
use Rattle.session_record.specs.declared.deed.Ending.{Ending}
use Rattle.session_record.specs.declared.deed.Ending.TheVariants.{Closes, Stalls, Untold}

abbrev pub end_in : Ending → End
end_in Closes = journal.Closes
end_in Stalls = journal.Stalls
end_in Untold = journal.Untold
