-- An ECHO_REQUEST that a stimulus makes is all that it makes, and so is a switch that joins (OpenFlow 1.0.0, 5.5.2 Echo Request).
use Rattle.std.specs.Prelude.{◌≡◌, ℕ, Bool, true, false, List, [], ◌∷◌, ◌++◌, map, Option, Some, None, Ok, is_some, if◌then◌else◌, refl}
use Rattle.net_txn.specs.laws.SaidLaws.{all_two}
use Rattle.std.specs.List.{AllByRecursion, flat_map}
use Rattle.std.proofs.Common.{sym, ap, ap₂, ◌∙◌, subst, inl, inr}
use Rattle.std.proofs.lemmas.Bool.{cases_Bool}
use Rattle.std.proofs.lemmas.List.{append-nil}
use Rattle.of_types.specs.Fields.{number_at, number_bytes}
use Rattle.of_types.specs.declared.journal.Stimulus.{Stimulus}
use Rattle.of_types.specs.declared.journal.Stimulus.TheVariants.{Frame, Advance, Port, Counts, Raw}
use Rattle.of_types.specs.declared.journal.PortChange.{PortChange}
use Rattle.of_types.specs.declared.journal.PortChange.TheVariants as changes
use Rattle.of_types.specs.declared.journal.WorldStim.{WorldStim}
use Rattle.of_types.specs.declared.journal.WorldStim.TheVariants.{Join, Leave, At, Of}
use Rattle.of_wire.specs.declared.kind.MessageKind.{MessageKind}
use Rattle.of_wire.specs.declared.kind.MessageKind.TheVariants as wire
use Rattle.of_wire.specs.Kinds.{kind_of_number}
use Rattle.of_wire.specs.Spelling.{message_bytes}
use Rattle.of_wire.specs.Reading.{front_of, body_of, reading_of}
use Rattle.flow_table.specs.declared.notice.Notice.{Notice}
use Rattle.flow_table.specs.Switch.{PortState, SwitchState, joined_at, features_reply, port_at, new_port}
use Rattle.flow_table.specs.Frames.{packet_in}
use Rattle.flow_table.specs.Expiry.{expiry_notices}
use Rattle.flow_table.specs.Step.{flow_removed_bytes, port_status, same_bool, sent_by_link, sent_by_deletion, can_add, sent_by_port_change, sent_by_stimulus}
use Rattle.outside.specs.declared.step.WorldStep.{WorldStep}
use Rattle.outside.specs.declared.step.WorldStep.TheVariants.{From, Joined, Left, Moment}
use Rattle.outside.specs.State.{Link, State, link_of, with_link, link_joined, link_left, switch_of, is_joined, join_due, stimulus_sends, after_stim, upcoming}
use Rattle.batch_laws.specs.Alone.{EchoAlone, JoinAlone}
use Rattle.lego_model.specs.Echoes.{IsEchoRead}
use Rattle.batch_laws.specs.LinkTells.{items_of}
use Rattle.batch_laws.specs.Waiting.{NoneWait}
use Rattle.batch_laws.specs.laws.FrameTellLaws.{front-kind, frame-sent}
use Rattle.batch_laws.specs.laws.ReferenceLaws.{none-waiting, waiting-silent, waiting-all}
use Rattle.batch_laws.specs.laws.AfterLaws.{items-of-one}
use Rattle.batch_laws.specs.laws.LeaveTellLaws.{left-silent}
use Rattle.batch_laws.specs.laws.JoinTellLaws.{joined-silent}
use Rattle.net_txn.specs.laws.PacketHeardLaws.{packet-type}
use Rattle.of_types.specs.RawBytes.{IsNotRaw}

-- ---- One among others

middle : (P : WorldStep → Type 0) (front later : List WorldStep) (item : WorldStep) → AllByRecursion P (front ++ item ∷ later) → P item
middle P [] later item all = all.0
middle P (x ∷ front) later item all = middle P front later item all.1

pub among : (P : WorldStep → Type 0) (front later : List WorldStep) (item : WorldStep) (items : List WorldStep) → front ++ item ∷ later ≡ items → AllByRecursion P items → P item
among P front later item items is all = middle P front later item (subst (AllByRecursion P) (sym is) all)

not_nil : (front later : List WorldStep) (item : WorldStep) → front ++ item ∷ later ≡ [] → ⊥
not_nil [] later item is = cc
not_nil (x ∷ front) later item is = cc

head_same : (a b : WorldStep) (xs ys : List WorldStep) → a ∷ xs ≡ b ∷ ys → a ≡ b
head_same a b xs ys is = cc

tail_same : (a b : WorldStep) (xs ys : List WorldStep) → a ∷ xs ≡ b ∷ ys → xs ≡ ys
tail_same a b xs ys is = cc

-- where there is one alone, it is this one
only_one : (front later : List WorldStep) (item one : WorldStep) → front ++ item ∷ later ≡ one ∷ [] → (front ≡ []) × (later ≡ []) × (item ≡ one)
only_one [] later item one is = (refl, tail_same item one later [] is, head_same item one later [] is)
only_one (x ∷ front) later item one is = absurd (not_nil front later item (tail_same x one (front ++ item ∷ later) [] is))

pub all_from : (P : WorldStep → Type 0) (Q : List ℕ → Type 0) (d : ℕ) → ((bytes : List ℕ) → Q bytes → P (From d bytes)) → (list : List (List ℕ)) → AllByRecursion Q list → AllByRecursion P (map (From d) list)
all_from P Q d each [] all = tt
all_from P Q d each (bytes ∷ list) all = (each bytes all.0, all_from P Q d each list all.1)

-- ---- What is no ECHO_REQUEST

abbrev NotEcho : List ℕ → Type 0
NotEcho bytes = IsEchoRead (reading_of bytes) → ⊥

-- the types of what a switch says of frames, of moments and of its ports
abbrev IsNews : MessageKind → Type 0
IsNews wire.PacketIn = Unit {0}
IsNews wire.FlowRemoved = Unit {0}
IsNews wire.PortStatus = Unit {0}
IsNews other = ⊥

news_body : (kind : MessageKind) (bytes : List ℕ) → IsNews kind → front_of bytes ≡ Ok kind → NotEcho bytes
unfolding reading_of body_of
news_body wire.PacketIn bytes is front = rw front (λ h. h)
news_body wire.FlowRemoved bytes is front = rw front (λ h. h)
news_body wire.PortStatus bytes is front = rw front (λ h. h)
news_body other bytes is front = absurd is

news : (kind : MessageKind) (n : ℕ) (bytes : List ℕ) → IsNews kind → kind_of_number n ≡ Some kind → number_at 1 1 bytes ≡ n → NotEcho bytes
unfolding reading_of
news kind n bytes is named type =
    elim (front-kind bytes n kind type named) [
      | inl front ↦ news_body kind bytes is front
      | inr (fault, front) ↦ rw front (λ h. h)
    ]

packet_news : (reason in_port : ℕ) (frame : List ℕ) → NotEcho (packet_in reason in_port frame)
unfolding packet_in kind_of_number
packet_news reason in_port frame = news wire.PacketIn 10 _ tt refl (packet-type _)

pub notice_type : (n : Notice) → number_at 1 1 (flow_removed_bytes n) ≡ 11
unfolding flow_removed_bytes message_bytes number_at number_bytes
notice_type n = refl

notices_news : (ns : List Notice) → AllByRecursion NotEcho (map flow_removed_bytes ns)
unfolding kind_of_number
notices_news [] = tt
notices_news (n ∷ ns) = (news wire.FlowRemoved 11 (flow_removed_bytes n) tt refl (notice_type n), notices_news ns)

pub status_type : (reason dpid : ℕ) (p : PortState) → number_at 1 1 (port_status reason dpid p) ≡ 12
unfolding port_status message_bytes number_at number_bytes
status_type reason dpid p = refl

status_news : (reason dpid : ℕ) (p : PortState) → NotEcho (port_status reason dpid p)
unfolding kind_of_number
status_news reason dpid p = news wire.PortStatus 12 (port_status reason dpid p) tt refl (status_type reason dpid p)

module _ (P : List ℕ → Type 0) (status : (reason dpid : ℕ) (p : PortState) → P (port_status reason dpid p)) where
  link_sent : (up : Bool) (dpid : ℕ) (o : Option PortState) → AllByRecursion P (sent_by_link up dpid o)
  link_sent up dpid None = tt
  link_sent up dpid (Some p) =
      elim (cases_Bool (same_bool p.link up)) [
        | inl same ↦ rw same tt
        | inr other ↦ rw other (status 2 dpid _, tt)
      ]

  deletion_sent : (dpid : ℕ) (o : Option PortState) → AllByRecursion P (sent_by_deletion dpid o)
  deletion_sent dpid None = tt
  deletion_sent dpid (Some p) = (status 1 dpid p, tt)

  -- what a switch sends of its ports are PORT_STATUS messages
  pub port-sent : (number : ℕ) (change : PortChange) (s : SwitchState) → AllByRecursion P (sent_by_port_change number change s)
  unfolding sent_by_port_change
  port-sent number changes.Up s = link_sent true s.declared.dpid (port_at number s.ports)
  port-sent number changes.Down s = link_sent false s.declared.dpid (port_at number s.ports)
  port-sent number changes.Add s =
      elim (cases_Bool (can_add number s.ports)) [
        | inl may ↦ rw may (status 0 s.declared.dpid (new_port number), tt)
        | inr full ↦ rw full tt
      ]
  port-sent number changes.Delete s = deletion_sent s.declared.dpid (port_at number s.ports)

-- ---- Items

abbrev NoEcho : WorldStep → Type 0
NoEcho (From d bytes) = NotEcho bytes
NoEcho other = Unit {0}

abbrev NoJoin : WorldStep → Type 0
NoJoin (Joined d bytes) = ⊥
NoJoin other = Unit {0}

news_items : (d : ℕ) (list : List (List ℕ)) → AllByRecursion NotEcho list → AllByRecursion NoEcho (map (From d) list)
news_items d list all = all_from NoEcho NotEcho d (λ bytes is. is) list all

any_bytes : (list : List (List ℕ)) → AllByRecursion (λ bytes. Unit {0}) list
any_bytes [] = tt
any_bytes (bytes ∷ list) = (tt, any_bytes list)

message_items : (d : ℕ) (list : List (List ℕ)) → AllByRecursion NoJoin (map (From d) list)
message_items d list = all_from NoJoin (λ bytes. Unit {0}) d (λ bytes is. tt) list (any_bytes list)

moment_sends : (t : ℕ) (o : Option SwitchState) → AllByRecursion NotEcho (stimulus_sends (Advance t) o)
unfolding sent_by_stimulus
moment_sends t None = tt
moment_sends t (Some s) = notices_news (expiry_notices t s.table.entries)

moment_news : (t : ℕ) (ls : List Link) → AllByRecursion NoEcho (flat_map (items_of (Advance t)) ls)
moment_news t [] = tt
moment_news t (l ∷ ls) =
    all_two NoEcho (items_of (Advance t) l) (flat_map (items_of (Advance t)) ls) (news_items l.declared.dpid (stimulus_sends (Advance t) l.switch) (moment_sends t l.switch)) (moment_news t ls)

moment_messages : (t : ℕ) (ls : List Link) → AllByRecursion NoJoin (flat_map (items_of (Advance t)) ls)
moment_messages t [] = tt
moment_messages t (l ∷ ls) =
    all_two NoJoin (items_of (Advance t) l) (flat_map (items_of (Advance t)) ls) (message_items l.declared.dpid (stimulus_sends (Advance t) l.switch)) (moment_messages t ls)

-- ---- What a stimulus makes, where nothing waited

pub items-join : (d : ℕ) (s : State) → NoneWait s.links → s.due ≡ [] → upcoming (after_stim (Join d) s) ≡ join_due d s.moment (link_of d s.links)
unfolding upcoming after_stim
items-join d s waits due =
    ap₂ (λ (first : List WorldStep) rest. (first ++ join_due d s.moment (link_of d s.links)) ++ rest) due
    (none-waiting (with_link d (link_joined s.moment) s.links) (waiting-silent d (link_joined s.moment) (joined-silent s.moment) s.links waits))
    ∙ append-nil (join_due d s.moment (link_of d s.links))

pub items-leave : (d : ℕ) (s : State) → NoneWait s.links → s.due ≡ [] → upcoming (after_stim (Leave d) s) ≡ (if is_joined d s then Left d ∷ [] else [])
unfolding upcoming after_stim
items-leave d s waits due =
    ap₂ (λ (first : List WorldStep) rest. (first ++ (if is_joined d s then Left d ∷ [] else [])) ++ rest) due
    (none-waiting (with_link d link_left s.links) (waiting-silent d link_left left-silent s.links waits))
    ∙ append-nil (if is_joined d s then Left d ∷ [] else [])

pub items-moment : (t : ℕ) (s : State) → NoneWait s.links → s.due ≡ [] → upcoming (after_stim (At t) s) ≡ Moment t ∷ flat_map (items_of (Advance t)) s.links
unfolding upcoming after_stim
items-moment t s waits due = ap₂ (λ (first : List WorldStep) rest. (first ++ Moment t ∷ []) ++ rest) due (waiting-all (Advance t) s.links waits)

join_no_echo : (d moment : ℕ) (o : Option Link) → AllByRecursion NoEcho (join_due d moment o)
join_no_echo d moment None = tt
join_no_echo d moment (Some l) =
    elim (cases_Bool (is_some l.switch)) [
      | inl joined ↦ rw joined tt
      | inr out ↦ rw out (tt, tt)
    ]

leave_no_echo : (d : ℕ) (joined : Bool) → AllByRecursion NoEcho (if joined then Left d ∷ [] else [])
leave_no_echo d true = (tt, tt)
leave_no_echo d false = tt

leave_no_join : (d : ℕ) (joined : Bool) → AllByRecursion NoJoin (if joined then Left d ∷ [] else [])
leave_no_join d true = (tt, tt)
leave_no_join d false = tt

-- ---- An ECHO_REQUEST

same_number : (d e : ℕ) (a b : List ℕ) → From d a ≡ From e b → d ≡ e
same_number d e a b same = cc

raw_alone : (d e : ℕ) (bytes own : List ℕ) (front later : List WorldStep) (o : Option SwitchState) → front ++ From d bytes ∷ later ≡ map (From e) (stimulus_sends (Raw own) o) → EchoAlone (Of e (Raw own)) d front later
unfolding sent_by_stimulus
raw_alone d e bytes own front later None is = absurd (not_nil front later (From d bytes) is)
raw_alone d e bytes own front later (Some s) is =
    let one = only_one front later (From d bytes) (From e own) is in
    record {
      what = Raw own;
      stimulus = ap (λ (n : ℕ). Of n (Raw own)) (sym (same_number d e bytes own one.2));
      first = one.0;
      last = one.1;
    }

stimulus_news : (x : Stimulus) (o : Option SwitchState) → IsNotRaw x → AllByRecursion NotEcho (stimulus_sends x o)
unfolding sent_by_stimulus
stimulus_news x None is = tt
stimulus_news (Frame port bytes) (Some s) is = frame-sent NotEcho packet_news port bytes s
stimulus_news (Advance t) (Some s) is = notices_news (expiry_notices t s.table.entries)
stimulus_news (Port port change) (Some s) is = port-sent NotEcho status_news port change s
stimulus_news (Counts priority packets bytes) (Some s) is = tt
stimulus_news (Raw bytes) (Some s) is = absurd is

no_echo_in : {X : Type 0} (items : List WorldStep) (front later : List WorldStep) (d : ℕ) (bytes : List ℕ) → AllByRecursion NoEcho items → IsEchoRead (reading_of bytes) → front ++ From d bytes ∷ later ≡ items → X
no_echo_in items front later d bytes all echo is = absurd (among NoEcho front later (From d bytes) items is all echo)

of_alone : (d e : ℕ) (x : Stimulus) (bytes : List ℕ) (front later : List WorldStep) (o : Option SwitchState) → IsEchoRead (reading_of bytes) → front ++ From d bytes ∷ later ≡ map (From e) (stimulus_sends x o) → EchoAlone (Of e x) d front later
of_alone d e (Raw own) bytes front later o echo is = raw_alone d e bytes own front later o is
of_alone d e (Frame port frame) bytes front later o echo is = no_echo_in _ front later d bytes (news_items e _ (stimulus_news (Frame port frame) o tt)) echo is
of_alone d e (Advance t) bytes front later o echo is = no_echo_in _ front later d bytes (news_items e _ (stimulus_news (Advance t) o tt)) echo is
of_alone d e (Port port change) bytes front later o echo is = no_echo_in _ front later d bytes (news_items e _ (stimulus_news (Port port change) o tt)) echo is
of_alone d e (Counts priority packets size) bytes front later o echo is = no_echo_in _ front later d bytes (news_items e _ (stimulus_news (Counts priority packets size) o tt)) echo is

pub echo-alone : (x : WorldStim) (s : State) (d : ℕ) (bytes : List ℕ) (front later : List WorldStep) → NoneWait s.links → s.due ≡ [] → IsEchoRead (reading_of bytes) → front ++ From d bytes ∷ later ≡ upcoming (after_stim x s)
    → EchoAlone x d front later
echo-alone (Join e) s d bytes front later waits due echo is =
    no_echo_in _ front later d bytes (join_no_echo e s.moment (link_of e s.links)) echo (is ∙ items-join e s waits due)
echo-alone (Leave e) s d bytes front later waits due echo is =
    no_echo_in _ front later d bytes (leave_no_echo e (is_joined e s)) echo (is ∙ items-leave e s waits due)
echo-alone (At t) s d bytes front later waits due echo is =
    no_echo_in _ front later d bytes (tt, moment_news t s.links) echo (is ∙ items-moment t s waits due)
echo-alone (Of e x) s d bytes front later waits due echo is =
    of_alone d e x bytes front later (switch_of e s) echo (is ∙ items-of-one e x s waits due)

-- ---- A switch that joins

same_joined : (d e : ℕ) (a b : List ℕ) → Joined d a ≡ Joined e b → d ≡ e
same_joined d e a b same = cc

due_alone : (d e moment : ℕ) (bytes : List ℕ) (front later : List WorldStep) (o : Option Link) → front ++ Joined d bytes ∷ later ≡ join_due e moment o → JoinAlone (Join e) d front later
due_alone d e moment bytes front later None is = absurd (not_nil front later (Joined d bytes) is)
due_alone d e moment bytes front later (Some l) is =
    elim (cases_Bool (is_some l.switch)) [
      | inl joined ↦ absurd (not_nil front later (Joined d bytes) (rw joined at is))
      | inr out ↦
          let one = only_one front later (Joined d bytes) (Joined e (features_reply 0 (joined_at moment l.declared))) (rw out at is) in
          record {
            stimulus = ap (λ (n : ℕ). Join n) (sym (same_joined d e bytes (features_reply 0 (joined_at moment l.declared)) one.2));
            first = one.0;
            last = one.1;
          }
    ]

no_join_in : {X : Type 0} (items : List WorldStep) (front later : List WorldStep) (d : ℕ) (bytes : List ℕ) → AllByRecursion NoJoin items → front ++ Joined d bytes ∷ later ≡ items → X
no_join_in items front later d bytes all is = absurd (among NoJoin front later (Joined d bytes) items is all)

pub join-alone : (x : WorldStim) (s : State) (d : ℕ) (bytes : List ℕ) (front later : List WorldStep) → NoneWait s.links → s.due ≡ [] → front ++ Joined d bytes ∷ later ≡ upcoming (after_stim x s) → JoinAlone x d front later
join-alone (Join e) s d bytes front later waits due is = due_alone d e s.moment bytes front later (link_of e s.links) (is ∙ items-join e s waits due)
join-alone (Leave e) s d bytes front later waits due is = no_join_in _ front later d bytes (leave_no_join e (is_joined e s)) (is ∙ items-leave e s waits due)
join-alone (At t) s d bytes front later waits due is = no_join_in _ front later d bytes (tt, moment_messages t s.links) (is ∙ items-moment t s waits due)
join-alone (Of e x) s d bytes front later waits due is = no_join_in _ front later d bytes (message_items e _) (is ∙ items-of-one e x s waits due)
