-- Which packets were released by what was said on a link, and that each switch moves by them alone, in any world that tells.
use Rattle.std.specs.Prelude.{◌≡◌, ◌≢◌, ℕ, ◌^◌, ◌<◌, true, false, List, [], ◌∷◌, ◌++◌, Option, Some, None, refl}
use Rattle.std.specs.List.{AllByRecursion}
use Rattle.std.specs.Option.{option_map}
use Rattle.std.proofs.Common.{sym, ap, ◌∙◌, subst, inl, inr}
use Rattle.std.proofs.lemmas.Bool.{cases_eq, eq-eqb, ne_eqb}
use Rattle.std.proofs.lemmas.List.{append-nil, append_cancel_left}
use Rattle.of_wire.specs.declared.bodies.PacketOut.{PacketOut as Packet}
use Rattle.of_wire.specs.declared.message.Message.TheVariants.{PacketOut, BarrierReply}
use Rattle.of_wire.specs.Spelling.{message_bytes}
use Rattle.of_wire.specs.Grammar.{IsMessage}
use Rattle.of_wire.specs.laws.ReadingLaws.{reading_of-message_bytes}
use Rattle.flow_table.specs.Switch.{SwitchState}
use Rattle.flow_table.specs.Step.{after_message}
use Rattle.outside.specs.Seen.{Seen}
use Rattle.outside.specs.State.{state, switch_of, is_joined}
use Rattle.outside.specs.laws.StateLaws.{state-append}
use Rattle.lego_model.specs.declared.wait.Awaited.{Awaited}
use Rattle.lego_model.specs.BarrierWaits.{next_xid}
use Rattle.lego_model.specs.Packets.{Held}
use Rattle.lego_model.specs.AfterFault.{after_packets}
use Rattle.net_txn.specs.declared.trouble.Trouble.{Trouble}
use Rattle.net_txn.specs.Waits.{IsRead}
use Rattle.net_txn.specs.Said.{Said, Says, said_steps, Calls, unsaid, last_said, wait_said, frames_said, barrier_of, reply_heard}
use Rattle.net_txn.specs.Releases.{MovesBy}
use Rattle.lego_model.specs.FlowQueries.{asked_from}
use Rattle.net_txn.specs.ReleaseSteps.{packet_frames}
use Rattle.net_txn.specs.laws.LinkPresenceLaws.{losses_by, lost_none_all}
use Rattle.net_txn.specs.laws.SaidLaws.{all_two, is_fine, AreFine, fine_none_lost, fine_wait, said_links, Calls-moves}
use Rattle.net_txn.specs.laws.LostLaws.{packets_said, packets_append, said_released, none_two, wait_none, barrier_none, fine_unsaid, fine_last, heard_none}
use Rattle.net_txn.specs.Undos.{is_of_link}
use Rattle.net_txn.specs.laws.HeardLaws.{next_xid-lt}
use Rattle.net_txn.specs.laws.PartLaws.{steps_other}
use Rattle.net_txn.specs.laws.ChangeFlightLaws.{Stays, Moves, stays_then, moves_then, stays_unsaid, stays_last, stays_wait, told_map, stays_barrier}
use Rattle.net_txn.specs.laws.UndoWaitLaws.{none_unsaid, none_last}

-- ---- Each switch moves by them alone

here_map : (d : ℕ) (packet : Packet) (o : Option SwitchState) → option_map (after_message (PacketOut packet)) o ≡ option_map (after_packets d ((d, packet) ∷ [])) o
here_map d packet None = refl
here_map d packet (Some s) = rw (eq-eqb d d refl) refl

other_map : (d e : ℕ) (packet : Packet) (o : Option SwitchState) → e ≢ d → o ≡ option_map (after_packets e ((d, packet) ∷ [])) o
other_map d e packet None other = refl
other_map d e packet (Some s) other = rw (ne_eqb d e (λ same. other (sym same))) refl

pub none_map : (e : ℕ) (o : Option SwitchState) → o ≡ option_map (after_packets e []) o
none_map e None = refl
none_map e (Some s) = refl

pub moved_none : {Own : Type 0} {Tells : Type 0} (d : ℕ) (said : List Said) (old new : Seen Own) → Tells → Calls Tells d said old new → AreFine said → Stays d said → packets_said said ≡ [] → MovesBy [] old new
moved_none d said old new told calls fine stays none =
    let joined = is_joined d (state old) in
    let steps = said_steps joined said in
    let after = state-append old new steps calls.continues.given (calls.told told) in
    record {
      steps = steps;
      history = calls.told told;
      released_is = said_released joined said ∙ none;
      unlost = losses_by steps (said_links joined said) ∙ lost_none_all steps (fine_none_lost joined said fine);
      moved = λ e. elim (cases_eq d e) [
        | inl same ↦ subst (λ (n : ℕ). switch_of n (state new) ≡ option_map (after_packets n []) (switch_of n (state old))) same (ap (switch_of d) after ∙ stays joined (state old) ∙ none_map d (switch_of d (state old)))
        | inr other ↦ ap (switch_of e) after ∙ (steps_other d e steps (state old) (λ same. other (sym same)) (Calls-moves steps refl calls).each).0 ∙ none_map e (switch_of e (state old))
      ];
    }

-- ---- The packet, and what was said behind it

pub record PacketSaid (d : ℕ) (packet : Packet) (said : List Said) : Type 0 where
  pub moves : Moves d (PacketOut packet) said
  pub fine : AreFine said
  pub released_is : packets_said said ≡ (d, packet) ∷ []

pub moved_one : {Own : Type 0} {Tells : Type 0} (d : ℕ) (packet : Packet) (said : List Said) (old new : Seen Own) → Tells → Calls Tells d said old new → PacketSaid d packet said → MovesBy ((d, packet) ∷ []) old new
moved_one d packet said old new told calls one =
    let joined = is_joined d (state old) in
    let steps = said_steps joined said in
    let after = state-append old new steps calls.continues.given (calls.told told) in
    record {
      steps = steps;
      history = calls.told told;
      released_is = said_released joined said ∙ one.released_is;
      unlost = losses_by steps (said_links joined said) ∙ lost_none_all steps (fine_none_lost joined said one.fine);
      moved = λ e. elim (cases_eq d e) [
        | inl same ↦ subst (λ (n : ℕ). switch_of n (state new) ≡ option_map (after_packets n ((d, packet) ∷ [])) (switch_of n (state old))) same (ap (switch_of d) after ∙ one.moves joined (state old) ∙ here_map d packet (switch_of d (state old)))
        | inr other ↦ ap (switch_of e) after ∙ (steps_other d e steps (state old) (λ same. other (sym same)) (Calls-moves steps refl calls).each).0 ∙ other_map d e packet (switch_of e (state old)) (λ same. other (sym same))
      ];
    }

pub packet_released : (d xid : ℕ) (packet : Packet) → xid < 2 ^ 32 → IsMessage (PacketOut packet) → packets_said (Says d (message_bytes xid (PacketOut packet)) ∷ []) ≡ (d, packet) ∷ []
unfolding packets_said
packet_released d xid packet small is = rw (reading_of-message_bytes xid (PacketOut packet) small is) refl

pub packet_said : (d xid : ℕ) (packet : Packet) → xid < 2 ^ 32 → IsMessage (PacketOut packet) → PacketSaid d packet (Says d (message_bytes xid (PacketOut packet)) ∷ [])
packet_said d xid packet small is = record {
  moves = told_map xid (PacketOut packet) (message_bytes xid (PacketOut packet)) d (reading_of-message_bytes xid (PacketOut packet) small is);
  fine = (refl, tt);
  released_is = packet_released d xid packet small is;
}

pub said_then : (d : ℕ) (packet : Packet) (xs ys : List Said) → PacketSaid d packet xs → Stays d ys → AreFine ys → packets_said ys ≡ [] → PacketSaid d packet (xs ++ ys)
said_then d packet xs ys first stays fine none = record {
  moves = moves_then d (PacketOut packet) xs ys first.moves stays;
  fine = all_two (λ x. is_fine x ≡ true) xs ys first.fine fine;
  released_is = packets_append xs ys ∙ ap (λ (ps : List Held). ps ++ packets_said ys) first.released_is ∙ ap (λ (ps : List Held). (d, packet) ∷ ps) none;
}

pub both_said : (d xid : ℕ) (packet : Packet) → xid < 2 ^ 32 → IsMessage (PacketOut packet) → PacketSaid d packet (frames_said d (packet_frames d xid packet))
both_said d xid packet small is =
    said_then d packet (Says d (message_bytes xid (PacketOut packet)) ∷ []) (Says d (barrier_of (asked_from d xid)) ∷ []) (packet_said d xid packet small is)
    (stays_barrier d (next_xid xid) (next_xid-lt xid small)) (refl, tt) (barrier_none d (next_xid xid) (next_xid-lt xid small))

pub unsaid_then : (d : ℕ) (packet : Packet) (xs : List Said) (t : Trouble) → is_of_link t ≡ false → PacketSaid d packet xs → PacketSaid d packet (xs ++ unsaid d t)
unsaid_then d packet xs t none said = said_then d packet xs (unsaid d t) said (stays_unsaid d t none) (fine_unsaid d t none) (none_unsaid d t)

pub unsaid_none : {Own : Type 0} {Tells : Type 0} (d : ℕ) (t : Trouble) (old new : Seen Own) → is_of_link t ≡ false → Tells → Calls Tells d (unsaid d t) old new → MovesBy [] old new
unsaid_none d t old new none told calls = moved_none d (unsaid d t) old new told calls (fine_unsaid d t none) (stays_unsaid d t none) (none_unsaid d t)

-- what comes behind them moves no switch, and releases nothing
pub wait_then : (d : ℕ) (packet : Packet) (a : Awaited) (xs : List Said) (got : List (List ℕ)) (by : Option (List ℕ)) (t : Trouble) (buf : List ℕ) → a.dpid ≡ d → is_of_link t ≡ false → AllByRecursion IsRead got → PacketSaid d packet xs
    → PacketSaid d packet (xs ++ (wait_said a got ++ last_said d by t buf))
wait_then d packet a xs got by t buf is none read said =
    let ys = wait_said a got in
    let last = last_said d by t buf in
    said_then d packet xs (ys ++ last) said (stays_then d ys last (subst (λ (n : ℕ). Stays n ys) is (stays_wait a got)) (stays_last d by t buf none))
    (all_two (λ x. is_fine x ≡ true) ys last (fine_wait a got) (fine_last d by t buf none)) (none_two ys last (wait_none a got read) (none_last d by t buf))

pub reply_then : (d : ℕ) (packet : Packet) (a : Awaited) (xs : List Said) (got : List (List ℕ)) → a.dpid ≡ d → AllByRecursion IsRead got → PacketSaid d packet xs → Stays d (reply_heard a ∷ [])
    → PacketSaid d packet (xs ++ (wait_said a got ++ reply_heard a ∷ []))
reply_then d packet a xs got is read said stays =
    let ys = wait_said a got in
    let last = reply_heard a ∷ [] in
    said_then d packet xs (ys ++ last) said (stays_then d ys last (subst (λ (n : ℕ). Stays n ys) is (stays_wait a got)) stays)
    (all_two (λ x. is_fine x ≡ true) ys last (fine_wait a got) (refl, tt)) (none_two ys last (wait_none a got read) (heard_none a.dpid (message_bytes a.barrier BarrierReply)))

-- the history did not grow
pub nothing_said : {Own : Type 0} {Tells : Type 0} (d : ℕ) (said : List Said) (old new : Seen Own) → Tells → Calls Tells d said old new → new.history ≡ old.history → said_steps (is_joined d (state old)) said ≡ []
nothing_said d said old new told calls same = append_cancel_left old.history (said_steps (is_joined d (state old)) said) [] (sym (calls.told told) ∙ same ∙ sym (append-nil old.history))
