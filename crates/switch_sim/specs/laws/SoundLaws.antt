-- What follows about sound switches: whatever reaches them, they stay so.
use Rattle.std.proofs.Common.{◌≡◌, ◌==◌, ℕ, ◌≤◌, Bool, false, not, nat_lt, List, [], ◌∷◌, length, map, filter, Option, Some, None, if◌then◌else◌, refl, sym, ◌∙◌, arith}
use Rattle.std.specs.Prelude.{All}
use Rattle.std.specs.List.{Contains}
use Rattle.std.proofs.lemmas.Bool.{cond_both, cond-false, ltb-false}
use Rattle.std.proofs.lemmas.List.{length-map}
use Rattle.std.proofs.lemmas.List.Elements.{All-map, All-filter, All-weaker, All-contains}
use Rattle.of_types.specs.declared.errors.OfError.{OfError}
use Rattle.of_action.specs.declared.action.Action.{Action}
use Rattle.of_action.specs.declared.action.Action.TheVariants.{Output, SetVlanVid, SetVlanPcp, StripVlan, SetDlSrc, SetDlDst, SetNwSrc, SetNwDst, SetNwTos, SetTpSrc, SetTpDst, Enqueue, Vendor}
use Rattle.of_action.specs.Spelling.{list_size}
use Rattle.of_match.specs.declared.packet_key.PacketKey.{PacketKey}
use Rattle.of_wire.specs.declared.bodies.FlowMod.{FlowMod}
use Rattle.frame_edit.specs.Edits.{AreEdits, IsEdit}
use Rattle.flow_table.specs.declared.entry.Entry.{Entry}
use Rattle.flow_table.specs.Table.{TableState, IsTable, with_entry}
use Rattle.flow_table.specs.laws.TableLaws.{length-filter-le, length-keys}
use Rattle.flow_table.specs.Change.{is_delete, is_modify, describes, adds, deletes, modified, new_entry, refusal, entries_after, changed}
use Rattle.flow_table.specs.laws.ChangeLaws.{is_delete-adds, is_delete-modify}
use Rattle.flow_table.specs.Hit.{best, counted, hit, hit_by, with_more, with_counts}
use Rattle.flow_table.specs.laws.HitLaws.{keys-hit, Contains-best}
use Rattle.flow_table.specs.Errors.{bad_len, buffer_unknown, flow_eperm, bad_command}
use Rattle.flow_table.specs.Expiry.{is_due, expire}
use Rattle.flow_table.specs.laws.MomentLaws.{All-with_entry}
use Rattle.flow_table.specs.Switch.{PortState}
use Rattle.flow_table.specs.Refusals.{action_refusal, actions_refusal, flow_actions_refusal, flow_refusal, is_emergency, no_buffer, most_action_bytes}
use Rattle.flow_table.specs.laws.RefusalLaws.{first_none, later_none, length-entries_after}
use Rattle.switch_sim.specs.Sound.{IsEntryAt, IsSound}

-- ---- Actions that are not refused are edits and outputs.

IsEdit-action : (takes_table : Bool) (had : List ℕ) (a : Action) → action_refusal takes_table had a ≡ None → IsEdit a
IsEdit-action takes_table had (Output port max_len) none = tt
IsEdit-action takes_table had (SetVlanVid vid) none = tt
IsEdit-action takes_table had (SetVlanPcp pcp) none = tt
IsEdit-action takes_table had StripVlan none = tt
IsEdit-action takes_table had (SetDlSrc address) none = tt
IsEdit-action takes_table had (SetDlDst address) none = tt
IsEdit-action takes_table had (SetNwSrc address) none = tt
IsEdit-action takes_table had (SetNwDst address) none = tt
IsEdit-action takes_table had (SetNwTos tos) none = tt
IsEdit-action takes_table had (SetTpSrc port) none = tt
IsEdit-action takes_table had (SetTpDst port) none = tt
IsEdit-action takes_table had (Enqueue port queue) none = absurd cc
IsEdit-action takes_table had (Vendor body) none = absurd cc

pub AreEdits-actions : (takes_table : Bool) (had : List ℕ) (actions : List Action) → actions_refusal takes_table had actions ≡ None → AreEdits actions
unfolding actions_refusal
AreEdits-actions takes_table had [] none = tt
AreEdits-actions takes_table had (a ∷ actions) none =
    let both = first_none (action_refusal takes_table had a) (actions_refusal takes_table had actions) none in
    (IsEdit-action takes_table had a both.0, AreEdits-actions takes_table had actions both.1)

-- the actions of an addition or a modification that is not refused
record AreTaken (actions : List Action) : Type 0 where
  size : list_size actions ≤ most_action_bytes
  edits : AreEdits actions

AreTaken-actions : (had : List ℕ) (m : FlowMod) → flow_actions_refusal had m ≡ None → AreTaken m.actions
unfolding flow_actions_refusal
AreTaken-actions had m none =
    let known : Option OfError = actions_refusal false had m.actions in
    let unbuffered = later_none (not (m.buffer_id == no_buffer)) buffer_unknown (if nat_lt most_action_bytes (list_size m.actions) then Some bad_len else known) none in
    let sized = later_none (nat_lt most_action_bytes (list_size m.actions)) bad_len known unbuffered.1 in
    record { size = ltb-false most_action_bytes (list_size m.actions) sized.0; edits = AreEdits-actions false had m.actions sized.1 }

AreTaken-flow : (had : List ℕ) (m : FlowMod) → flow_refusal had m ≡ None → is_delete m ≡ false → AreTaken m.actions
unfolding flow_refusal
AreTaken-flow had m none kept =
    let rest : Option OfError = if is_delete m then None else flow_actions_refusal had m in
    let known = later_none (is_emergency m.flags) flow_eperm (if nat_lt 4 m.command then Some bad_command else rest) none in
    let free = later_none (nat_lt 4 m.command) bad_command rest known.1 in
    AreTaken-actions had m (sym (cond-false (is_delete m) None (flow_actions_refusal had m) kept) ∙ free.1)

-- ---- A change

IsEntryAt-new : (moment serial : ℕ) (m : FlowMod) → AreTaken m.actions → IsEntryAt moment (new_entry moment serial m)
unfolding new_entry
IsEntryAt-new moment serial m taken = record { installed = omega arith; used = omega arith; size = taken.size; edits = taken.edits }

IsEntryAt-modified : (moment : ℕ) (m : FlowMod) → AreTaken m.actions → (e : Entry) → IsEntryAt moment e → IsEntryAt moment (modified m e)
IsEntryAt-modified moment m taken e is =
    cond_both (describes m e.key) (record e { actions = m.actions }) e (IsEntryAt moment)
    (λ _. record { installed = is.installed; used = is.used; size = taken.size; edits = taken.edits })
    (λ _. is)

All-modified : (moment : ℕ) (m : FlowMod) (es : List Entry) → AreTaken m.actions → All (IsEntryAt moment) es → All (IsEntryAt moment) (map (modified m) es)
All-modified moment m es taken all =
    All-map (IsEntryAt moment) (modified m) es (All-weaker (IsEntryAt moment) (λ e. IsEntryAt moment (modified m e)) (IsEntryAt-modified moment m taken) es all)

All-entries_after : (had : List ℕ) (moment serial : ℕ) (m : FlowMod) (es : List Entry) → flow_refusal had m ≡ None → All (IsEntryAt moment) es → All (IsEntryAt moment) (entries_after moment serial m es)
unfolding entries_after
All-entries_after had moment serial m es none all =
    cond_both (adds m es) (with_entry (new_entry moment serial m) es) (if is_modify m then map (modified m) es else filter (λ e. not (deletes m e)) es) (All (IsEntryAt moment))
    (λ puts. All-with_entry (IsEntryAt moment) (new_entry moment serial m) es (IsEntryAt-new moment serial m (AreTaken-flow had m none (is_delete-adds m es puts))) all)
    (λ _. cond_both (is_modify m) (map (modified m) es) (filter (λ e. not (deletes m e)) es) (All (IsEntryAt moment))
    (λ does. All-modified moment m es (AreTaken-flow had m none (is_delete-modify m does)) all)
    (λ _. All-filter (λ e. not (deletes m e)) (IsEntryAt moment) es all))

pub IsSound-changed : (cap moment : ℕ) (had : List ℕ) (m : FlowMod) (t : TableState) (ports : List PortState) → IsTable t.entries → flow_refusal had m ≡ None → refusal cap m t.entries ≡ None
    → IsSound cap moment t.entries ports → IsSound cap moment (changed moment m t).entries ports
unfolding changed
IsSound-changed cap moment had m t ports is none free sound = record {
  moment = sound.moment;
  entries = All-entries_after had moment t.next m t.entries none sound.entries;
  few = length-entries_after cap moment t.next m t.entries is sound.few free;
  wide = sound.wide;
  ports = sound.ports;
}

-- ---- A hit, counts, time, and ports

IsEntryAt-counted : (len moment : ℕ) (e : Entry) → IsEntryAt moment e → IsEntryAt moment (counted len moment e)
IsEntryAt-counted len moment e is = record { installed = is.installed; used = omega arith; size = is.size; edits = is.edits }

All-hit_by : (len moment : ℕ) (o : Option Entry) (es : List Entry) → ((e : Entry) → o ≡ Some e → Contains es e) → All (IsEntryAt moment) es → All (IsEntryAt moment) (hit_by o len moment es)
All-hit_by len moment None es there all = all
All-hit_by len moment (Some e) es there all =
    All-with_entry (IsEntryAt moment) (counted len moment e) es (IsEntryAt-counted len moment e (All-contains (IsEntryAt moment) es e all (there e refl))) all

All-hit : (moment len : ℕ) (k : PacketKey) (es : List Entry) → All (IsEntryAt moment) es → All (IsEntryAt moment) (hit k len moment es)
unfolding hit
All-hit moment len k es all = All-hit_by len moment (best k es) es (Contains-best k es) all

pub IsSound-hit : (cap moment len : ℕ) (k : PacketKey) (es : List Entry) (ports : List PortState) → IsTable es → IsSound cap moment es ports → IsSound cap moment (hit k len moment es) ports
IsSound-hit cap moment len k es ports is sound =
    let same : length (hit k len moment es) ≡ length es = length-keys (hit k len moment es) es (keys-hit k len moment es is) in
    record {
      moment = sound.moment;
      entries = All-hit moment len k es sound.entries;
      few = omega (arith, sound.few, same);
      wide = sound.wide;
      ports = sound.ports;
    }

IsEntryAt-more : (moment priority packets bytes : ℕ) (e : Entry) → IsEntryAt moment e → IsEntryAt moment (with_more priority packets bytes e)
IsEntryAt-more moment priority packets bytes e is =
    cond_both (e.key.priority == priority) _ e (IsEntryAt moment)
    (λ _. record { installed = is.installed; used = is.used; size = is.size; edits = is.edits })
    (λ _. is)

pub IsSound-counts : (cap moment priority packets bytes : ℕ) (es : List Entry) (ports : List PortState) → IsSound cap moment es ports → IsSound cap moment (with_counts priority packets bytes es) ports
unfolding with_counts
IsSound-counts cap moment priority packets bytes es ports sound = record {
  moment = sound.moment;
  entries = All-map (IsEntryAt moment) (with_more priority packets bytes) es (All-weaker (IsEntryAt moment) (λ e. IsEntryAt moment (with_more priority packets bytes e)) (IsEntryAt-more moment priority packets bytes) es sound.entries);
  few = omega (arith, sound.few, length-map es (with_more priority packets bytes));
  wide = sound.wide;
  ports = sound.ports;
}

pub IsSound-later : (cap moment later : ℕ) (es : List Entry) (ports : List PortState) → moment ≤ later → later ≤ 4294967295 → IsSound cap moment es ports → IsSound cap later es ports
IsSound-later cap moment later es ports after within sound = record {
  moment = within;
  entries = All-weaker (IsEntryAt moment) (IsEntryAt later) (λ e is. record { installed = omega (arith, is.installed); used = omega (arith, is.used); size = is.size; edits = is.edits }) es sound.entries;
  few = sound.few;
  wide = sound.wide;
  ports = sound.ports;
}

pub IsSound-expire : (cap moment : ℕ) (t : TableState) (ports : List PortState) → IsSound cap moment t.entries ports → IsSound cap moment (expire moment t).entries ports
unfolding expire
IsSound-expire cap moment t ports sound = record {
  moment = sound.moment;
  entries = All-filter (λ e. not (is_due moment e)) (IsEntryAt moment) t.entries sound.entries;
  few = omega (arith, sound.few, length-filter-le (λ e. not (is_due moment e)) t.entries);
  wide = sound.wide;
  ports = sound.ports;
}

pub IsSound-ports : (cap moment : ℕ) (es : List Entry) (ports others : List PortState) → length others ≤ 64 → IsSound cap moment es ports → IsSound cap moment es others
IsSound-ports cap moment es ports others few sound = record { moment = sound.moment; entries = sound.entries; few = sound.few; wide = sound.wide; ports = few }
