pub mod JournalLaws
pub mod ScriptedLaws
pub mod SessionWordLaws
pub mod SessionTextLaws
pub mod SwitchFaultLaws
pub mod OwnIdLaws
pub mod KeptMessageLaws
pub mod CutTurnLaws
