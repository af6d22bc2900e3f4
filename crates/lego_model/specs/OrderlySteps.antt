-- Steps that are in order: no call of a link failed but by the loss of its switch, nor one for what comes next, and the calls for
-- applications are of so many, whose bytes are taken up to 65,536 at once. All of this is our own.
use Rattle.std.specs.Prelude.{◌≡◌, ◌<◌, ℕ}
use Rattle.of_types.specs.declared.journal.Act.{Act}
use Rattle.of_types.specs.declared.journal.Act.TheVariants.{Stim, Started, Gave, Gone, Took, Ended, Sent, Got, Lost}
use Rattle.outside.specs.declared.step.WorldStep.{WorldStep}
use Rattle.outside.specs.declared.step.WorldStep.TheVariants.{Acted, TookInto, NotOpened, NextFailed, SendFailed, RecvFailed}

abbrev pub IsOrderlyAct : ℕ → Act → Type 0
IsOrderlyAct number (Stim x) = Unit {0}
IsOrderlyAct number (Started of stands) = of < number
IsOrderlyAct number (Gave of bytes) = of < number
IsOrderlyAct number (Gone of bytes) = of < number
IsOrderlyAct number (Took of what) = of < number
IsOrderlyAct number (Ended of) = of < number
IsOrderlyAct number (Sent d bytes) = Unit {0}
IsOrderlyAct number (Got d bytes) = Unit {0}
IsOrderlyAct number (Lost d) = Unit {0}

abbrev pub IsOrderly : ℕ → WorldStep → Type 0
IsOrderly number (Acted act) = IsOrderlyAct number act
IsOrderly number (TookInto of what room) = (of < number) × (room ≡ 65536)
IsOrderly number NotOpened = ⊥
IsOrderly number NextFailed = ⊥
IsOrderly number (SendFailed d) = ⊥
IsOrderly number (RecvFailed d) = ⊥
IsOrderly number other = Unit {0}
