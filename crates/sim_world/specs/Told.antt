-- Calls that are told to fail, by kind, by whom they are for, and by number. All of this is our own choice.
use Rattle.std.specs.Prelude.{◌≡◌, ℕ, ◌==◌, Bool, true, false, not, ◌&&◌, ◌||◌, List}
use Rattle.std.specs.List.{list_any, filter}
use Rattle.outside.specs.declared.call.CallKind.{CallKind}
use Rattle.outside.specs.declared.call.CallKind.TheVariants as kinds
use Rattle.outside.specs.declared.call.FailCall.{FailCall}
use Rattle.outside.specs.State.{is_link_call}

abbrev pub is_kind : CallKind → CallKind → Bool
is_kind kinds.Open kinds.Open = true
is_kind kinds.Next kinds.Next = true
is_kind kinds.Start kinds.Start = true
is_kind kinds.Give kinds.Give = true
is_kind kinds.TakeClosed kinds.TakeClosed = true
is_kind kinds.TakeSilent kinds.TakeSilent = true
is_kind kinds.Link kinds.Link = true
is_kind kinds.Short kinds.Short = true
is_kind kind other = false

-- the calls of a kind are counted for the whole world, and not for each switch or application
abbrev pub is_of_world : CallKind → Bool
is_of_world kinds.Open = true
is_of_world kinds.Next = true
is_of_world kinds.Short = true
is_of_world other = false

-- it tells the call of a kind with this number, for a switch or an application, to fail
abbrev pub tells : CallKind → ℕ → ℕ → FailCall → Bool
tells kind of number f = is_kind f.kind kind && (is_of_world kind || f.of == of) && f.number == number

-- the call with this number is told to fail
unfoldable pub is_told : CallKind → ℕ → ℕ → List FailCall → Bool
is_told kind of number fails = list_any (tells kind of number) fails

-- ---- Without the calls of links, which stand with the links

abbrev pub is_no_link : FailCall → Bool
is_no_link f = not (is_link_call f.kind)

unfoldable pub without_links : List FailCall → List FailCall
without_links fails = filter is_no_link fails

-- both tell the same calls to fail, links apart
abbrev pub TellSame : List FailCall → List FailCall → Type 0
TellSame fails others = (kind : CallKind) (of number : ℕ) → is_link_call kind ≡ false → is_told kind of number fails ≡ is_told kind of number others
