-- What follows about looks at the table: what a frame meets there, and what is sent then, stays as frames go by. Hits change counts and
-- moments of entries alone, and outputs change counts of ports.
use Rattle.std.proofs.Common.{◌≡◌, ◌==◌, ℕ, not, ◌&&◌, nat_lt, List, [], ◌∷◌, ◌++◌, length, map, Option, Some, None, if◌then◌else◌, refl, sym, ap, subst, ◌∙◌, inl, inr}
use Rattle.std.specs.List.{flat_map}
use Rattle.std.specs.Option.{option_map}
use Rattle.std.proofs.lemmas.Bool.{cond_both, cases_Bool}
use Rattle.std.proofs.Math.Seq.{map-set_same}
use Rattle.of_match.specs.declared.packet_key.PacketKey.{PacketKey}
use Rattle.of_match.specs.Covers.{is_covering}
use Rattle.of_action.specs.declared.action.Action.{Action}
use Rattle.frame_edit.specs.Edits.{outputs}
use Rattle.eth_key.specs.PacketFields.{key_of}
use Rattle.flow_table.specs.declared.entry.Entry.{Entry}
use Rattle.flow_table.specs.Table.{IsTable}
use Rattle.flow_table.specs.Hit.{rank, best, better, counted, hit}
use Rattle.flow_table.specs.laws.HitLaws.{Contains-best, hit-set, IsTable-hit, hit-none, cases_Option}
use Rattle.flow_table.specs.Switch.{PortState, SwitchState, has_bit, is_down, has_no_fwd, port_at}
use Rattle.flow_table.specs.Frames.{goes_out_by, after_frame_out, ports_after_output, after_output, after_outputs, sent_by_outputs, hit_outputs, entry_hit, after_counts, after_lookup, is_silent, sent_by_miss, sent_by_hit, sent_by_lookup, after_packet_output, sent_by_packet_output, sent_by_packet_outputs}
use Rattle.switch_sim.specs.Words.{ports_after_outputs}

-- ---- An entry without what a hit changes

abbrev bare : Entry → Entry
bare e = record e { packets = 0; bytes = 0; used = 0 }

better-bare : (e : Entry) (o : Option Entry) → better (bare e) (option_map bare o) ≡ option_map bare (better e o)
unfolding rank
better-bare e None = refl
better-bare e (Some f) = elim (cases_Bool (nat_lt (rank e) (rank f))) [
  | inl below ↦ rw below refl
  | inr above ↦ rw above refl
]

best-bare : (k : PacketKey) (es : List Entry) → best k (map bare es) ≡ option_map bare (best k es)
unfolding best
best-bare k [] = refl
best-bare k (e ∷ es) = elim (cases_Bool (is_covering e.key.matching k)) [
  | inl covers ↦ rw (covers, best-bare k es) (better-bare e (best k es))
  | inr other ↦ rw other (best-bare k es)
]

map-bare-hit : (k : PacketKey) (len now : ℕ) (es : List Entry) → IsTable es → map bare (hit k len now es) ≡ map bare es
map-bare-hit k len now es is =
    elim (cases_Option (best k es)) [
      | inl none ↦ ap (map bare) (hit-none k len now es none)
      | inr (e, found) ↦
          let (i, within, here) = Contains-best k es e found in
          ap (map bare) (hit-set k len now es i e is found within here) ∙ map-set_same bare es i (counted len now e) e (ap bare (sym here))
    ]

-- what an entry that was hit does
abbrev pub actions_of : Option Entry → Option (List Action)
actions_of o = option_map (λ e. e.actions) o

actions_of-bare : (o : Option Entry) → actions_of (option_map bare o) ≡ actions_of o
actions_of-bare None = refl
actions_of-bare (Some e) = refl

pub actions_after_hit : (k other : PacketKey) (len now : ℕ) (es : List Entry) → IsTable es → actions_of (best other (hit k len now es)) ≡ actions_of (best other es)
actions_after_hit k other len now es is =
    let same : option_map bare (best other (hit k len now es)) ≡ option_map bare (best other es) =
    sym (best-bare other (hit k len now es)) ∙ ap (best other) (map-bare-hit k len now es is) ∙ best-bare other es in
    sym (actions_of-bare (best other (hit k len now es))) ∙ ap actions_of same ∙ actions_of-bare (best other es)

-- ---- Ports under outputs

pub after_outputs-ports : (in_port : ℕ) (sent : List (ℕ × List ℕ)) (s : SwitchState) → after_outputs in_port sent s ≡ record s { ports = ports_after_outputs in_port sent s.ports }
unfolding after_outputs
after_outputs-ports in_port [] s = refl
after_outputs-ports in_port (output ∷ more) s = after_outputs-ports in_port more (after_output in_port output s)

-- the number and the config of a port stay
record KeepsPort (old new : PortState) : Type 0 where
  number : new.number ≡ old.number
  config : new.config ≡ old.config

KeepsPort-out : (len : ℕ) (p : PortState) → KeepsPort p (after_frame_out len p)
unfolding after_frame_out
KeepsPort-out len p =
    cond_both (p.link && not (is_down p) && not (has_no_fwd p)) _ _ (KeepsPort p) (λ _. record { number = refl; config = refl }) (λ _. record { number = refl; config = refl })

KeepsPort-output : (in_port to len : ℕ) (p : PortState) → KeepsPort p (if goes_out_by in_port to p then after_frame_out len p else p)
KeepsPort-output in_port to len p =
    cond_both (goes_out_by in_port to p) (after_frame_out len p) p (KeepsPort p) (λ _. KeepsPort-out len p) (λ _. record { number = refl; config = refl })

silent_at : (number : ℕ) (p q : PortState) (rest more : List PortState) → KeepsPort p q → is_silent (port_at number more) ≡ is_silent (port_at number rest) → is_silent (port_at number (q ∷ more)) ≡ is_silent (port_at number (p ∷ rest))
silent_at number p q rest more kept same =
    elim (cases_Bool (p.number == number)) [
      | inl here ↦ rw (kept.number, here) (ap (λ (config : ℕ). has_bit 0x40 config) kept.config)
      | inr other ↦ rw (kept.number, other) same
    ]

pub silent_after_output : (number in_port to len : ℕ) (ports : List PortState) → is_silent (port_at number (ports_after_output in_port to len ports)) ≡ is_silent (port_at number ports)
unfolding ports_after_output
silent_after_output number in_port to len [] = refl
silent_after_output number in_port to len (p ∷ ps) =
    silent_at number p (if goes_out_by in_port to p then after_frame_out len p else p) ps (map (λ q. if goes_out_by in_port to q then after_frame_out len q else q) ps) (KeepsPort-output in_port to len p) (silent_after_output number in_port to len ps)

silent_after_outputs : (number in_port : ℕ) (sent : List (ℕ × List ℕ)) (ports : List PortState) → is_silent (port_at number (ports_after_outputs in_port sent ports)) ≡ is_silent (port_at number ports)
silent_after_outputs number in_port [] ports = refl
silent_after_outputs number in_port (output ∷ more) ports =
    silent_after_outputs number in_port more (ports_after_output in_port output.0 (length output.1) ports) ∙ silent_after_output number in_port output.0 (length output.1) ports

-- ---- States that a frame cannot tell apart

pub record LooksLike (s t : SwitchState) : Type 0 where
  pub in_order : IsTable s.table.entries
  pub hits : (k : PacketKey) → actions_of (best k s.table.entries) ≡ actions_of (best k t.table.entries)
  pub silent : (number : ℕ) → is_silent (port_at number s.ports) ≡ is_silent (port_at number t.ports)

pub LooksLike-itself : (s : SwitchState) → IsTable s.table.entries → LooksLike s s
LooksLike-itself s is = record { in_order = is; hits = λ k. refl; silent = λ number. refl }

same_miss : (in_port : ℕ) (frame : List ℕ) (ports others : List PortState) → is_silent (port_at in_port ports) ≡ is_silent (port_at in_port others) → sent_by_miss in_port frame ports ≡ sent_by_miss in_port frame others
unfolding sent_by_miss
same_miss in_port frame ports others same = rw same refl

same_sent : (in_port : ℕ) (frame : List ℕ) (ports others : List PortState) (o p : Option Entry) → is_silent (port_at in_port ports) ≡ is_silent (port_at in_port others) → actions_of o ≡ actions_of p
    → sent_by_hit in_port frame ports o ≡ sent_by_hit in_port frame others p
same_sent in_port frame ports others None None quiet same = same_miss in_port frame ports others quiet
same_sent in_port frame ports others None (Some e) quiet same = absurd cc
same_sent in_port frame ports others (Some e) None quiet same = absurd cc
same_sent in_port frame ports others (Some e) (Some f) quiet same = ap (λ (actions : List Action). sent_by_outputs in_port (outputs actions frame)) cc

same_lookup : (in_port : ℕ) (frame : List ℕ) (s t : SwitchState) → LooksLike s t → sent_by_lookup in_port frame s ≡ sent_by_lookup in_port frame t
unfolding sent_by_lookup
same_lookup in_port frame s t like =
    same_sent in_port frame s.ports t.ports (entry_hit in_port frame s) (entry_hit in_port frame t) (like.silent in_port) (like.hits (key_of in_port frame))

same_packet_output : (in_port : ℕ) (output : ℕ × List ℕ) (s t : SwitchState) → LooksLike s t → sent_by_packet_output in_port output s ≡ sent_by_packet_output in_port output t
unfolding sent_by_packet_output
same_packet_output in_port output s t like = elim (cases_Bool (output.0 == 0xfff9)) [
  | inl table ↦ rw table (same_lookup in_port output.1 s t like)
  | inr other ↦ rw other refl
]

LooksLike-ports : (s t : SwitchState) (ports : List PortState) → ((number : ℕ) → is_silent (port_at number ports) ≡ is_silent (port_at number s.ports)) → LooksLike s t → LooksLike (record s { ports = ports }) t
LooksLike-ports s t ports quiet like = record { in_order = like.in_order; hits = like.hits; silent = λ number. quiet number ∙ like.silent number }

LooksLike-counts : (in_port : ℕ) (frame : List ℕ) (s t : SwitchState) → LooksLike s t → LooksLike (after_counts in_port frame s) t
unfolding after_counts
LooksLike-counts in_port frame s t like = record {
  in_order = IsTable-hit (key_of in_port frame) (length frame) s.moment s.table.entries like.in_order;
  hits = λ k. actions_after_hit (key_of in_port frame) k (length frame) s.moment s.table.entries like.in_order ∙ like.hits k;
  silent = like.silent;
}

LooksLike-outputs : (in_port : ℕ) (sent : List (ℕ × List ℕ)) (s t : SwitchState) → LooksLike s t → LooksLike (after_outputs in_port sent s) t
LooksLike-outputs in_port sent s t like =
    subst (λ (u : SwitchState). LooksLike u t) (sym (after_outputs-ports in_port sent s))
    (LooksLike-ports s t (ports_after_outputs in_port sent s.ports) (λ number. silent_after_outputs number in_port sent s.ports) like)

LooksLike-lookup : (in_port : ℕ) (frame : List ℕ) (s t : SwitchState) → LooksLike s t → LooksLike (after_lookup in_port frame s) t
unfolding after_lookup
LooksLike-lookup in_port frame s t like = LooksLike-outputs in_port (hit_outputs (entry_hit in_port frame s) frame) (after_counts in_port frame s) t (LooksLike-counts in_port frame s t like)

pub LooksLike-packet_output : (in_port : ℕ) (output : ℕ × List ℕ) (s t : SwitchState) → LooksLike s t → LooksLike (after_packet_output in_port output s) t
unfolding after_packet_output
LooksLike-packet_output in_port output s t like =
    cond_both (output.0 == 0xfff9) (after_lookup in_port output.1 s) (after_output in_port output s) (λ (u : SwitchState). LooksLike u t)
    (λ _. LooksLike-lookup in_port output.1 s t like)
    (λ _. LooksLike-ports s t (ports_after_output in_port output.0 (length output.1) s.ports) (λ number. silent_after_output number in_port output.0 (length output.1) s.ports) like)

-- what outputs send can be told from the state before them
pub sent_from_the_start : (in_port : ℕ) (sent : List (ℕ × List ℕ)) (s t : SwitchState) → LooksLike s t → sent_by_packet_outputs in_port sent s ≡ flat_map (λ o. sent_by_packet_output in_port o t) sent
unfolding sent_by_packet_outputs
sent_from_the_start in_port [] s t like = refl
sent_from_the_start in_port (output ∷ more) s t like =
    ap (λ (xs : List (List ℕ)). xs ++ sent_by_packet_outputs in_port more (after_packet_output in_port output s)) (same_packet_output in_port output s t like)
    ∙ ap (λ (xs : List (List ℕ)). sent_by_packet_output in_port output t ++ xs) (sent_from_the_start in_port more (after_packet_output in_port output s) t (LooksLike-packet_output in_port output s t like))
