-- The notices of entries that go at their deadlines.
use Rattle.std.specs.Prelude.{ℕ}
use Rattle.flow_table.specs.declared.entry.Entry.{Entry}
use Rattle.flow_table.specs.declared.notice.Notice.{Notice}
use Rattle.flow_table.specs.Expiry.{deadline, end_of, notice_at}

-- the moment by which an entry's notice stands among others, and the notice
unfoldable pub going : Entry → ℕ × Notice
going e = (end_of e, notice_at (deadline e) e)
