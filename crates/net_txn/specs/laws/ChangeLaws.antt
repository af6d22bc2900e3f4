-- Laws of changes: how the pieces of one make the whole.
use Rattle.std.specs.Prelude.{◌≡◌, ◌⊎◌, ℕ, ◌^◌, ◌<◌, Bool, true, List, [], ◌∷◌, ◌++◌, Option, Some, None, Result, Ok, Err, MatchResult, IfErr, IsSome, length, map, filter, not, ◌==◌, take, refl}
use Rattle.std.specs.Option.{is_some}
use Rattle.std.proofs.Common.{sym, ap, ◌∙◌, subst, inl, inr, arith}
use Rattle.std.proofs.lemmas.List.{take_all, take_at, append-nil}
use Rattle.std.proofs.lemmas.List.Elements.{filter-append}
use Rattle.std.proofs.lemmas.Bool.{eq-eqb}
use Rattle.of_types.specs.declared.journal.Act.TheVariants.{Sent}
use Rattle.of_wire.specs.declared.bodies.FlowMod.{FlowMod as Change}
use Rattle.of_wire.specs.declared.bodies.Stats.{Stats as StatsBody}
use Rattle.of_wire.specs.declared.message.Message.{Message}
use Rattle.of_wire.specs.declared.bodies.PacketOut.{PacketOut as Packet}
use Rattle.of_wire.specs.declared.message.Message.TheVariants.{FlowMod, PacketOut, StatsRequest}
use Rattle.of_wire.specs.declared.message.Envelope.{Envelope}
use Rattle.of_wire.specs.declared.fault.WireFault.{WireFault}
use Rattle.of_wire.specs.Reading.{reading_of}
use Rattle.of_wire.specs.Spelling.{message_bytes}
use Rattle.of_wire.specs.Grammar.{IsMessage, enveloped}
use Rattle.app_frames.specs.declared.frame.Answer.{Answer}
use Rattle.app_frames.specs.declared.frame.Answer.TheVariants.{Fine, Error, Unknown, Statistics}
use Rattle.lego_model.specs.Packets.{Held, holds, HeldBack}
use Rattle.lego_model.specs.History.{lost_of}
use Rattle.of_types.specs.declared.errors.OfError.{OfError}
use Rattle.flow_table.specs.Refusals.{stats_refusal}
use Rattle.lego_model.specs.Answers.{Rows, rows_of_view, as_sent, host_refusal, refused_or, host_answer_read, host_answer}
use Rattle.outside.specs.declared.step.WorldStep.TheVariants.{Acted}
use Rattle.outside.specs.Seen.{Seen, Continues}
use Rattle.outside.specs.laws.SeenLaws.{Continues-refl}
use Rattle.outside.specs.laws.InOrderLaws.{messages-none}
use Rattle.lego_model.specs.declared.fault.TxnFault.{TxnFault}
use Rattle.lego_model.specs.declared.fault.TxnFault.TheVariants.{SwitchBroke, Diverged, Flooded, NoMemory}
use Rattle.app_frames.specs.declared.frame.Event.{Event}
use Rattle.net_txn.specs.declared.queue.Storage.TheVariants.{Growing}
use Rattle.net_txn.specs.Said.{barrier_of, Replied, Speaks}
use Rattle.net_txn.specs.OwnIds.{KeepsIds}
use Rattle.net_txn.specs.laws.OwnIdLaws.{FramesAscend, two_ascend, second_next, waits_leave, ids_none, speaks_on_ids, speaks_over_ids}
use Rattle.net_txn.specs.Arriving.{notices_told}
use Rattle.net_txn.specs.declared.halt.Halt.{Halt}
use Rattle.net_txn.specs.declared.halt.Halt.TheVariants.{Lost, Fault}
use Rattle.lego_model.specs.declared.wait.Awaited.{Awaited}
use Rattle.lego_model.specs.declared.wait.Refusal.{Refusal}
use Rattle.net_txn.specs.laws.LinkStepLaws.{OnLinks-refl}
use Rattle.net_txn.specs.laws.LinkStrayLaws.{no_strays_none}
use Rattle.net_txn.specs.laws.ReadLaws.{asked_read}
use Rattle.net_txn.specs.Causes.{IsCause}
use Rattle.flow_table.specs.Change.{key_in}
use Rattle.flow_table.specs.declared.view.ViewRow.{ViewRow}
use Rattle.flow_table.specs.View.{TableView}
use Rattle.net_txn.specs.declared.logged.Logged.{Logged}
use Rattle.net_txn.specs.Waits.{Brought, Waits, Floods, KeptMore}
use Rattle.lego_model.specs.BarrierWaits.{barrier_sent, next_xid}
use Rattle.net_txn.specs.Views.{rows_at, is_row_at, with_rows, with_added, rows_after}
use Rattle.net_txn.specs.laws.ViewLaws.{rows_at-stays}
use Rattle.net_txn.specs.Host.{held_read}
use Rattle.net_txn.specs.Net.{NetState, awaited_from, logged_by, with_logged}
use Rattle.net_txn.specs.Answering.{answer_of_host, held_after, held_by, views_by, change_sent, Asked, Unsent, Stopped, log_in_flight, InFlight, IfGivenUp}
use Rattle.net_txn.specs.Making.{StaysBut, LosesSo, Halts, forgets, log_halted, Judged, MakesJoined, MakesLost, Makes}
use Rattle.net_txn.specs.Asks.{Inquiry}
use Rattle.net_txn.specs.Queries.{Queries, Queried}
use Rattle.net_txn.specs.ChangeSteps.{Reaches, Steps}
use Rattle.net_txn.specs.Changes.{IsExchangeCause, ChangesJoined, ChangesLost, Changes}
use Rattle.net_txn.specs.Losing.{lost_net}
use Rattle.net_txn.specs.laws.ViewLaws.{viewed}
use Rattle.net_txn.specs.laws.WaitLaws.{none_kept}
use Rattle.net_txn.specs.laws.TalkLaws.{IfHaltFlooded, speaks_on, speaks_links, speaks_place}
use Rattle.net_txn.specs.laws.LostLaws.{waits_none_lost}
use Rattle.net_txn.specs.laws.ChangeFlightLaws.{flight_none_lost}
use Rattle.net_txn.specs.laws.ConsequenceLaws.{IfAsked, AnswersSo, reaches, steps}

-- what is sent uses two transaction ids
pub change_ascends : {d : ℕ} (m : Change) (net : NetState) (a : Awaited) (frame : List ℕ) → a ≡ awaited_from d net.xid → frame ≡ message_bytes a.first (as_sent (FlowMod m)) → FramesAscend net.xid 2 a (frame ∷ barrier_of a ∷ [])
change_ascends {d = d} m net a frame is spelled =
    two_ascend a net.xid (as_sent (FlowMod m)) frame refl (spelled ∙ ap (λ (x : Awaited). message_bytes x.first (as_sent (FlowMod m))) is) (ap (λ (x : Awaited). x.barrier) is)

pub sent_waits : {Own : Type 0} {Tells : Type 0} (d : ℕ) (m : Change) (net : NetState) (a : Awaited) (frame : List ℕ) (kept now_kept : List (ℕ × List ℕ)) (old new : Seen Own) (refusal : Brought)
    → a ≡ awaited_from d net.xid → frame ≡ message_bytes a.first (as_sent (FlowMod m)) → kept ≡ net.kept
    → Waits Tells a (Acted (Sent a.dpid frame) ∷ barrier_sent a ∷ []) old new kept now_kept refusal
    → Waits Tells (awaited_from d net.xid) (change_sent d net.xid m ∷ barrier_sent (awaited_from d net.xid) ∷ []) old new net.kept now_kept refusal
sent_waits {Tells = Tells} d m net a frame kept now_kept old new refusal is spelled same w =
    let here = awaited_from d net.xid in
    let first : frame ≡ message_bytes net.xid (as_sent (FlowMod m)) = spelled ∙ ap (λ (x : Awaited). message_bytes x.first (as_sent (FlowMod m))) is in
    let w1 = subst (λ (x : Awaited). Waits Tells x (Acted (Sent x.dpid frame) ∷ barrier_sent x ∷ []) old new kept now_kept refusal) is w in
    let w2 = subst (λ (b : List ℕ). Waits Tells here (Acted (Sent d b) ∷ barrier_sent here ∷ []) old new kept now_kept refusal) first w1 in
    subst (λ (k : List (ℕ × List ℕ)). Waits Tells here (change_sent d net.xid m ∷ barrier_sent here ∷ []) old new k now_kept refusal) same w2

sent_floods : {Own : Type 0} {Tells : Type 0} (d : ℕ) (m : Change) (net : NetState) (a : Awaited) (frame : List ℕ) (old new : Seen Own) → a ≡ awaited_from d net.xid → frame ≡ message_bytes a.first (as_sent (FlowMod m))
    → Floods Tells a (Acted (Sent a.dpid frame) ∷ barrier_sent a ∷ []) old new → Floods Tells (awaited_from d net.xid) (change_sent d net.xid m ∷ barrier_sent (awaited_from d net.xid) ∷ []) old new
sent_floods {Tells = Tells} d m net a frame old new is spelled f =
    let here = awaited_from d net.xid in
    let first : frame ≡ message_bytes net.xid (as_sent (FlowMod m)) = spelled ∙ ap (λ (x : Awaited). message_bytes x.first (as_sent (FlowMod m))) is in
    let f1 = subst (λ (x : Awaited). Floods Tells x (Acted (Sent x.dpid frame) ∷ barrier_sent x ∷ []) old new) is f in
    subst (λ (b : List ℕ). Floods Tells here (Acted (Sent d b) ∷ barrier_sent here ∷ []) old new) first f1

pub given_up : {Own : Type 0} (Tells : Type 0) (d : ℕ) (m : Change) (net : NetState) (a : Awaited) (frame : List ℕ) (old new : Seen Own) (halt : Halt) → a ≡ awaited_from d net.xid → frame ≡ message_bytes a.first (as_sent (FlowMod m))
    → IsMessage (FlowMod m) → net.xid < 2 ^ 32 → IfHaltFlooded Tells a (Acted (Sent a.dpid frame) ∷ barrier_sent a ∷ []) old new halt → IfGivenUp Tells d m old new net halt
given_up Tells d m net a frame old new Lost is spelled message lt f = tt
given_up Tells d m net a frame old new (Fault (SwitchBroke of bytes)) is spelled message lt f = tt
given_up Tells d m net a frame old new (Fault (Diverged of sent got)) is spelled message lt f = tt
given_up Tells d m net a frame old new (Fault (Flooded of n)) is spelled message lt f = (message, lt, sent_floods d m net a frame old new is spelled f)
given_up Tells d m net a frame old new (Fault NoMemory) is spelled message lt f = tt

no_answer : (answer : Answer) → Some answer ≡ None → ⊥
no_answer answer e = cc

abbrev some_rows : List ViewRow → Option (List ViewRow)
some_rows rows = Some rows

abbrev read_as : ℕ → Change → Result Envelope WireFault
read_as xid m = Ok (enveloped xid (FlowMod m))

abbrev asked_as : ℕ → StatsBody → Result Envelope WireFault
asked_as xid q = Ok (enveloped xid (StatsRequest q))

abbrev message_in : Result Envelope WireFault → Option Message
message_in (Ok envelope) = Some envelope.message
message_in (Err fault) = None

same_change : (x y : ℕ) (m n : Change) → read_as x m ≡ read_as y n → m ≡ n
same_change x y m n e = let f : Some (FlowMod m) ≡ Some (FlowMod n) = ap message_in e in cc

-- a change is no request of statistics
no_query : (x y : ℕ) (m : Change) (q : StatsBody) → read_as x m ≡ asked_as y q → ⊥
no_query x y m q e = let f : Some (FlowMod m) ≡ Some (StatsRequest q) = ap message_in e in cc

same_query : (x y : ℕ) (p q : StatsBody) → asked_as x p ≡ asked_as y q → p ≡ q
same_query x y p q e = let f : Some (StatsRequest p) ≡ Some (StatsRequest q) = ap message_in e in cc

-- a cause of a wait
wait_cause : {Own T : Type 0} (Tells : Type 0) (d : ℕ) (old new : Seen Own) (kept now_kept : List (ℕ × List ℕ)) (result : Result T TxnFault) → IfErr result (IsCause Tells d old new) → IfErr result (IsExchangeCause Tells d old new kept now_kept)
wait_cause Tells d old new kept now_kept (Ok x) cause = tt
wait_cause Tells d old new kept now_kept (Err fault) cause = inl cause

some_is : (a b : Answer) → Some a ≡ Some b → a ≡ b
some_is a b e = cc

-- the net with a packet more, or as it is
abbrev pub holding : ℕ → List ℕ → Answer → NetState → NetState
holding d bytes answer net = record net { held = record net.held { packets = net.held.packets ++ holds d bytes answer } }

-- the host answers, with nothing sent
held_joined : {Own : Type 0} {Tells : Type 0} (d : ℕ) (bytes : List ℕ) (seen : Seen Own) (net : NetState) (answer : Answer) → answer_of_host d bytes net ≡ Some answer
    → ChangesJoined Tells d bytes seen seen net (holding d bytes answer net) (Ok answer)
held_joined {Tells = Tells} d bytes seen net answer is = record {
  switches = λ e. refl;
  ports = refl;
  left = refl;
  held = refl;
  unheld = tt;
  by_host = λ other h. record { answers = some_is answer other (sym is ∙ h); fault = tt; world = refl; stays = refl };
  by_switch = λ xid m none read. absurd (no_answer answer (sym is ∙ none));
  flooded = λ xid m none read. tt;
  in_flight = λ xid m none read. tt;
  by_statistics = λ xid q none read. absurd (no_answer answer (sym is ∙ none));
  reached = λ xid m told none read. absurd (no_answer answer (sym is ∙ none));
  in_step = λ xid m told none read keeps waits agrees. absurd (no_answer answer (sym is ∙ none));
  losses = λ told. refl;
}

Changes-held : {Own : Type 0} {Tells : Type 0} (d : ℕ) (bytes : List ℕ) (seen : Seen Own) (net : NetState) (answer : Answer) → answer_of_host d bytes net ≡ Some answer
    → Changes Tells d bytes seen seen net (holding d bytes answer net) (Ok answer)
Changes-held {Tells = Tells} d bytes seen net answer is = record {
  continues = Continues-refl Tells seen;
  links = OnLinks-refl Tells seen;
  no_strays = λ told keeps joined. no_strays_none seen;
  read = λ ok told. messages-none seen;
  cause = tt;
  moment = refl;
  room = refl;
  ids = ids_none Tells 0 seen net.xid net.xid refl;
  answered = inl (held_joined d bytes seen net answer is);
}

pub Changes-by_host : {Own : Type 0} {Tells : Type 0} (d : ℕ) (bytes : List ℕ) (seen : Seen Own) (net now_net : NetState) (answer : Answer) → answer_of_host d bytes net ≡ Some answer → now_net ≡ holding d bytes answer net
    → Changes Tells d bytes seen seen net now_net (Ok answer)
Changes-by_host {Tells = Tells} d bytes seen net now_net answer is same = subst (λ (n : NetState). Changes Tells d bytes seen seen net n (Ok answer)) (sym same) (Changes-held d bytes seen net answer is)

-- memory was wanting before anything was sent
short_joined : {Own : Type 0} {Tells : Type 0} (d : ℕ) (bytes : List ℕ) (seen : Seen Own) (net : NetState) → ChangesJoined Tells d bytes seen seen net net (Err NoMemory)
short_joined {Tells = Tells} d bytes seen net = record {
  switches = λ e. refl;
  ports = refl;
  left = refl;
  held = refl;
  unheld = refl;
  by_host = λ other h. record { answers = tt; fault = refl; world = refl; stays = refl };
  by_switch = λ xid m none read. inl (record { world = refl; views = refl; log = refl; kept = refl; held = refl });
  flooded = λ xid m none read. tt;
  in_flight = λ xid m none read. inl (record { world = refl; views = refl; log = refl; kept = refl; held = refl });
  by_statistics = λ xid q none read. record {
    kept_more = none_kept d net.kept;
    answer = inl tt;
    flooded = tt;
    stays = refl;
    losses = λ told. refl;
    still = λ told e. refl;
    reached = λ told. tt;
    in_step = λ s told keeps joined waits. tt;
  };
  reached = λ xid m told none read. tt;
  in_step = λ xid m told none read keeps waits agrees. tt;
  losses = λ told. refl;
}

pub Changes-short : {Own : Type 0} {Tells : Type 0} (d : ℕ) (bytes : List ℕ) (seen : Seen Own) (net : NetState) → Changes Tells d bytes seen seen net net (Err NoMemory)
Changes-short {Tells = Tells} d bytes seen net = record {
  continues = Continues-refl Tells seen;
  links = OnLinks-refl Tells seen;
  no_strays = λ told keeps joined. no_strays_none seen;
  read = λ ok told. messages-none seen;
  cause = inl tt;
  moment = refl;
  room = refl;
  ids = ids_none Tells 2 seen net.xid net.xid refl;
  answered = inl (short_joined d bytes seen net);
}

pub kept_for : (d e : ℕ) (before kept now_kept : List (ℕ × List ℕ)) → e ≡ d → before ≡ kept → KeptMore e before now_kept → KeptMore d kept now_kept
kept_for d e before kept now_kept is same more =
    subst (λ (k : List (ℕ × List ℕ)). KeptMore d k now_kept) same (subst (λ (x : ℕ). KeptMore x before now_kept) is more)

pub same_log : (a b : Option Logged) (before log : List Logged) → a ≡ b → before ≡ log → with_logged a before ≡ with_logged b log
same_log a b before log is same = ap (λ (o : Option Logged). with_logged o before) is ∙ ap (with_logged b) same

pub log_cut : (a : Option Logged) (log all : List Logged) (n : ℕ) → n ≡ length log → all ≡ with_logged a log → take n all ≡ log
log_cut None log all n is longer = rw (longer, is) (take_all (length log) log (omega arith))
log_cut (Some entry) log all n is longer = rw longer (take_at log (entry ∷ []) n (sym is))

pub same_views : (d : ℕ) (a b : Option ViewRow) (before views : List TableView) → a ≡ b → before ≡ views → with_rows d (with_added a) before ≡ with_rows d (with_added b) views
same_views d a b before views is same = ap (λ (o : Option ViewRow). with_rows d (with_added o) before) is ∙ ap (with_rows d (with_added b)) same

-- ---- What is held

-- as before, where the host keeps packets and notices apart
pub held_same : (packets : List Held) (notices before : List Event) (held : HeldBack) → notices ≡ before → record { packets = packets; notices = before } ≡ held → record { packets = packets; notices = notices } ≡ held
held_same packets notices before held same is = ap (λ (ns : List Event). record { packets = packets; notices = ns }) same ∙ is

-- with more notices
pub held_more : (d : ℕ) (more : List (List ℕ)) (packets : List Held) (notices before : List Event) (seen views : List TableView) (held : HeldBack) → notices ≡ before ++ notices_told d seen more → seen ≡ views
    → record { packets = packets; notices = before } ≡ held → record { packets = packets; notices = notices } ≡ held_by None d views more held
held_more d more packets notices before seen views held is same held_is =
    ap (λ (ns : List Event). record { packets = packets; notices = ns }) (is ∙ ap (λ (vs : List TableView). before ++ notices_told d vs more) same)
    ∙ ap (λ (h : HeldBack). record h { notices = h.notices ++ notices_told d views more }) held_is

-- what a wait brought
pub brought_as : {Own : Type 0} {Tells : Type 0} {a : Awaited} {frames : List (List ℕ)} {old new : Seen Own} {kept now_kept : List (ℕ × List ℕ)} (answer brought : Brought) → answer ≡ brought
    → Replied Tells a frames Growing [] old new kept now_kept answer → Replied Tells a frames Growing [] old new kept now_kept brought
brought_as {Tells = Tells} {a = a} {frames = frames} {old = old} {new = new} {kept = kept} {now_kept = now_kept} answer brought is r = subst (Replied Tells a frames Growing [] old new kept now_kept) is r

-- ---- What the host makes of it

pub host_unknown : (d : ℕ) (bytes : List ℕ) (net : NetState) (views : List TableView) → views ≡ net.views → rows_at d views ≡ None → answer_of_host d bytes net ≡ Some Unknown
unfolding host_answer
host_unknown d bytes net views same none = let here : rows_at d net.views ≡ None = ap (λ (vs : List TableView). rows_at d vs) (sym same) ∙ none in rw here refl

pub host_knows : (d : ℕ) (bytes : List ℕ) (net : NetState) (views : List TableView) (rows seen : List ViewRow) → views ≡ net.views → rows_at d views ≡ Some rows → seen ≡ rows
    → answer_of_host d bytes net ≡ host_answer_read (rows_of_view seen) (reading_of bytes)
unfolding host_answer
host_knows d bytes net views rows seen same known is =
    let here : rows_at d net.views ≡ Some seen = ap (λ (vs : List TableView). rows_at d vs) (sym same) ∙ known ∙ ap (λ (rs : List ViewRow). some_rows rs) (sym is) in
    rw here refl

pub some_is_some : (o : Option (List ViewRow)) → IsSome o → is_some o ≡ true
some_is_some None some = absurd cc
some_is_some (Some rows) some = refl

some_rows_there : (o : Option (List ViewRow)) → (o ≡ None → ⊥) → IsSome o
some_rows_there None some = absurd (some refl)
some_rows_there (Some rows) some = refl

-- where the host has no answer, the switch is joined
pub host_known : (d : ℕ) (bytes : List ℕ) (net : NetState) → answer_of_host d bytes net ≡ None → IsSome (rows_at d net.views)
host_known d bytes net none = some_rows_there (rows_at d net.views) (λ is. absurd (no_answer Unknown (sym (host_unknown d bytes net net.views refl is) ∙ none)))

-- ---- What it holds

pub unknown_unheld : (d : ℕ) (bytes : List ℕ) → holds d bytes Unknown ≡ []
unfolding holds
unknown_unheld d bytes = refl

pub unheld : (d : ℕ) (bytes : List ℕ) (answer : Answer) → held_read d (reading_of bytes) answer ≡ [] → holds d bytes answer ≡ []
unfolding holds
unheld d bytes Fine none = none
unheld d bytes (Error error) none = refl
unheld d bytes Unknown none = refl
unheld d bytes (Statistics kind body) none = refl

pub packet_held : (d xid : ℕ) (bytes : List ℕ) (packet : Packet) → reading_of bytes ≡ Ok (record { xid = xid; message = PacketOut packet }) → holds d bytes Fine ≡ (d, packet) ∷ []
unfolding holds
packet_held d xid bytes packet read = rw read refl

-- the net stays as it is
pub holds_nothing : (d : ℕ) (bytes : List ℕ) (answer : Answer) (net : NetState) → holds d bytes answer ≡ [] → net ≡ holding d bytes answer net
holds_nothing d bytes answer net none =
    let e : net.held.packets ≡ net.held.packets ++ holds d bytes answer = rw none (sym (append-nil net.held.packets)) in
    ap (λ (packets : List Held). record net { held = record net.held { packets = packets } }) e

pub holds_packet : (d : ℕ) (bytes : List ℕ) (packet : Packet) (net : NetState) → holds d bytes Fine ≡ (d, packet) ∷ [] → record net { held = record net.held { packets = net.held.packets ++ (d, packet) ∷ [] } } ≡ holding d bytes Fine net
holds_packet d bytes packet net one = ap (λ (more : List Held). record net { held = record net.held { packets = net.held.packets ++ more } }) (sym one)

-- the views keep their switches

abbrev has_rows : ℕ → List TableView → Bool
has_rows e views = is_some (rows_at e views)

judged_switches : (refusal : Option Refusal) (d e : ℕ) (m : Change) (views : List TableView) → has_rows e (views_by refusal d m views) ≡ has_rows e views
judged_switches None d e m views = rows_at-stays d e (rows_after m) views
judged_switches (Some refusal) d e m views = refl

stopped_switches : {Own : Type 0} (d e : ℕ) (m : Change) (old new : Seen Own) (net now_net : NetState) → Stopped d m old new net now_net → has_rows e now_net.views ≡ has_rows e net.views
stopped_switches d e m old new net now_net (inl unsent) = ap (has_rows e) unsent.views
stopped_switches d e m old new net now_net (inr cut) = elim cut.views [ inl same ↦ ap (has_rows e) same | inr moved ↦ ap (has_rows e) moved ∙ rows_at-stays d e (rows_after m) net.views ]

made_switches : {Own : Type 0} (Tells : Type 0) (d e : ℕ) (m : Change) (old new : Seen Own) (net now_net : NetState) (result : Result Answer TxnFault) → MatchResult result (Asked Tells d m old new net now_net) (λ f. Stopped d m old new net now_net)
    → has_rows e now_net.views ≡ has_rows e net.views
made_switches Tells d e m old new net now_net (Ok answer) asked = ap (has_rows e) asked.views ∙ judged_switches asked.refusal d e m net.views
made_switches Tells d e m old new net now_net (Err fault) stopped = stopped_switches d e m old new net now_net stopped

stopped_is : {Own : Type 0} (Tells : Type 0) (d : ℕ) (m : Change) (old new : Seen Own) (net now_net : NetState) (result : Result Answer TxnFault) → Judged Tells d m old new net now_net result
    → MatchResult result (Asked Tells d m old new net now_net) (λ f. Stopped d m old new net now_net)
stopped_is Tells d m old new net now_net (Ok answer) does = does
stopped_is Tells d m old new net now_net (Err f) (inl unsent) = inl unsent
stopped_is Tells d m old new net now_net (Err f) (inr flight) = inr (record { views = flight.views; log = flight.log_is; kept = flight.kept; held = flight.held })

in_flight_is : {Own : Type 0} (Tells : Type 0) (d : ℕ) (m : Change) (old new : Seen Own) (net now_net : NetState) (result : Result Answer TxnFault) → Judged Tells d m old new net now_net result
    → IfErr result (λ f. Unsent old new net now_net ⊎ InFlight Tells d m (log_in_flight d m net.views net.log) old new net now_net (Fault f))
in_flight_is Tells d m old new net now_net (Ok answer) does = tt
in_flight_is Tells d m old new net now_net (Err f) does = does

no_packet : (d xid : ℕ) (m : Change) (bytes : List ℕ) (answer : Answer) → reading_of bytes ≡ Ok (enveloped xid (FlowMod m)) → [] ≡ holds d bytes answer
unfolding holds
no_packet d xid m bytes Fine read = rw read refl
no_packet d xid m bytes (Error error) read = refl
no_packet d xid m bytes Unknown read = refl
no_packet d xid m bytes (Statistics kind body) read = refl

-- ---- What undoes a change that a row has the key of is not logged

cut_log : (d : ℕ) (m : Change) (log all : List Logged) (n : ℕ) → n ≡ length log → all ≡ with_logged (logged_by d m) log → take n all ≡ log
cut_log d m log all n longer is = log_cut (logged_by d m) log all n longer is

cut_flight : {Own : Type 0} {Tells : Type 0} (d : ℕ) (m : Change) (old new : Seen Own) (net mid : NetState) (n : ℕ) (fault : TxnFault) → n ≡ length net.log → is_row_at d (key_in m) net.views ≡ true
    → Unsent old new net mid ⊎ InFlight Tells d m (with_logged (logged_by d m) net.log) old new net mid (Fault fault)
    → Unsent old new net (record mid { log = take n mid.log }) ⊎ InFlight Tells d m (log_in_flight d m net.views net.log) old new net (record mid { log = take n mid.log }) (Fault fault)
cut_flight d m old new net mid n fault longer known (inl unsent) =
    inl (record { world = unsent.world; views = unsent.views; log = ap (take n) unsent.log ∙ take_all n net.log (omega (arith, longer)); kept = unsent.kept; held = unsent.held })
cut_flight d m old new net mid n fault longer known (inr flight) = inr (record {
  message = flight.message;
  is_xid = flight.is_xid;
  said = flight.said;
  views = flight.views;
  log_is = cut_log d m net.log mid.log n longer flight.log_is ∙ sym (rw known refl);
  kept = flight.kept;
  held = flight.held;
})

-- how it halts, with a log that may have been cut back
abbrev pub Forgetting : {Own : Type 0} → Type 0 → ℕ → Change → Seen Own → Seen Own → NetState → NetState → Result Answer Halt → Type 0
Forgetting Tells d m old new net now_net result = MatchResult result (Asked Tells d m old new net now_net) (λ halt. Halts Tells d m (log_halted d m net halt) old new net now_net halt)

pub forgotten : {Own : Type 0} (Tells : Type 0) (d : ℕ) (m : Change) (old new : Seen Own) (net mid now : NetState) (n : ℕ) (known : Bool) (result : Result Answer Halt) → forgets known result ≡ true → n ≡ length net.log → known ≡ is_row_at d (key_in m) net.views
    → now ≡ record mid { log = take n mid.log } → MatchResult result (Asked Tells d m old new net mid) (Halts Tells d m (with_logged (logged_by d m) net.log) old new net mid) → Forgetting Tells d m old new net now result
forgotten Tells d m old new net mid now n known (Ok answer) forgot longer row same made = absurd cc
forgotten Tells d m old new net mid now n known (Err Lost) forgot longer row same made =
    subst (λ (x : NetState). LosesSo Tells d net.log old new net x) (sym same) (record {
      is_lost = made.is_lost;
      read = made.read;
      views = made.views;
      log_is = cut_log d m net.log mid.log n longer made.log_is;
      kept = made.kept;
      held = made.held;
    })
forgotten Tells d m old new net mid now n known (Err (Fault fault)) forgot longer row same made =
    subst (λ (x : NetState). Unsent old new net x ⊎ InFlight Tells d m (log_in_flight d m net.views net.log) old new net x (Fault fault)) (sym same) (cut_flight d m old new net mid n fault longer (sym row ∙ forgot) made)

-- ---- A switch that is lost leaves

pub forget_more : (d : ℕ) (more : List (List ℕ)) → filter (λ (m : ℕ × List ℕ). not (m.0 == d)) (map (λ b. (d, b)) more) ≡ []
forget_more d [] = refl
forget_more d (b ∷ bs) = rw (eq-eqb d d refl) (forget_more d bs)

pub forget_kept : (d : ℕ) (kept now_kept : List (ℕ × List ℕ)) → KeptMore d kept now_kept → filter (λ m. not (m.0 == d)) now_kept ≡ filter (λ m. not (m.0 == d)) kept
forget_kept d kept now_kept more =
    let keeps : ℕ × List ℕ → Bool = λ m. not (m.0 == d) in
    ap (λ (ms : List (ℕ × List ℕ)). filter keeps ms) more.1 ∙ filter-append keeps kept (map (λ b. (d, b)) more.0) ∙ ap (λ (ms : List (ℕ × List ℕ)). filter keeps kept ++ ms) (forget_more d more.0)
    ∙ append-nil (filter keeps kept)

-- what is left of a net without the switch, with these
left_of : ℕ → NetState → List TableView → List Logged → HeldBack → ℕ → List (ℕ × List ℕ) → NetState
left_of d net views log held xid kept = record (lost_net d net) { views = filter (λ v. not (v.dpid == d)) views; log = log; held = held; xid = xid; kept = kept }

lost_after : {Own : Type 0} {Tells : Type 0} {d : ℕ} {old new : Seen Own} (net mid : NetState) → StaysBut net mid → LosesSo Tells d net.log old new net mid → lost_net d mid ≡ record (lost_net d net) { xid = next_xid (next_xid net.xid) }
unfolding left_of
lost_after {d = d} net mid stays l =
    let here = record net.held { notices = mid.held.notices } in
    ap (λ (n : NetState). lost_net d n) stays
    ∙ ap (λ (vs : List TableView). left_of d net vs mid.log here (next_xid (next_xid net.xid)) (filter (λ m. not (m.0 == d)) mid.kept)) l.views
    ∙ ap (λ (log : List Logged). left_of d net net.views log here (next_xid (next_xid net.xid)) (filter (λ m. not (m.0 == d)) mid.kept)) l.log_is
    ∙ ap (λ (held : HeldBack). left_of d net net.views net.log (record net.held { notices = held.notices }) (next_xid (next_xid net.xid)) (filter (λ m. not (m.0 == d)) mid.kept)) l.held
    ∙ ap (λ (kept : List (ℕ × List ℕ)). left_of d net net.views net.log net.held (next_xid (next_xid net.xid)) kept) (forget_kept d net.kept mid.kept l.kept)

pub makes_lost : {Own : Type 0} {Tells : Type 0} {d : ℕ} {old new : Seen Own} (net mid now : NetState) → StaysBut net mid → LosesSo Tells d net.log old new net mid → now ≡ lost_net d mid → MakesLost Tells d old new net now
makes_lost net mid now stays l gone = record { is_lost = l.is_lost; read = l.read; net_is = gone ∙ lost_after net mid stays l }

-- ---- The whole

-- the transaction ids, where the switch was not lost
joined_ids : {Own : Type 0} (Tells : Type 0) (d : ℕ) (m : Change) (old new : Seen Own) (net now_net : NetState) (result : Result Answer TxnFault) → Speaks Tells d net.xid 2 old new → now_net.xid ≡ next_xid (next_xid net.xid) → Judged Tells d m old new net now_net result → KeepsIds Tells 2 old new net.xid now_net.xid result
joined_ids Tells d m old new net now_net (Ok answer) s next asked = speaks_on_ids now_net.xid s (omega arith) (λ small. next ∙ second_next net.xid small) (waits_leave asked.waits)
joined_ids Tells d m old new net now_net (Err fault) s next stopped = speaks_over_ids now_net.xid s (omega arith) (λ small. next ∙ second_next net.xid small)

-- a change is no packet
no_packet_held : (d : ℕ) (bytes : List ℕ) (xid : ℕ) (m : Change) (result : Result Answer TxnFault) (held : HeldBack) → reading_of bytes ≡ Ok (enveloped xid (FlowMod m)) → held.packets ≡ (held_after d bytes result held).packets
no_packet_held d bytes xid m (Ok answer) held read = sym (append-nil held.packets) ∙ ap (λ (more : List Held). held.packets ++ more) (no_packet d xid m bytes answer read)
no_packet_held d bytes xid m (Err fault) held read = refl

unheld_is : {Own : Type 0} (Tells : Type 0) (d : ℕ) (m : Change) (old new : Seen Own) (net now_net : NetState) (result : Result Answer TxnFault) → Judged Tells d m old new net now_net result → IfErr result (λ f. now_net.held ≡ net.held)
unheld_is Tells d m old new net now_net (Ok answer) does = tt
unheld_is Tells d m old new net now_net (Err f) (inl unsent) = unsent.held
unheld_is Tells d m old new net now_net (Err f) (inr flight) = flight.held

judged_losses : {Own : Type 0} {Tells : Type 0} (d : ℕ) (m : Change) (old new : Seen Own) (net now_net : NetState) (result : Result Answer TxnFault) → Judged Tells d m old new net now_net result → Tells → lost_of new ≡ lost_of old
judged_losses d m old new net now_net (Ok answer) asked told = waits_none_lost (change_sent d net.xid m ∷ barrier_sent (awaited_from d net.xid) ∷ []) (refl, (refl, tt)) refl asked.waits told
judged_losses d m old new net now_net (Err fault) (inl unsent) told = ap (λ (s : Seen _). lost_of s) unsent.world
judged_losses d m old new net now_net (Err fault) (inr flight) told = flight_none_lost d m (log_in_flight d m net.views net.log) old new net now_net fault flight told

module _ {Own : Type 0} (Tells : Type 0) (d : ℕ) (bytes : List ℕ) (old new : Seen Own) (net now_net : NetState) (result : Result Answer TxnFault) (xid : ℕ) (m : Change) (none : answer_of_host d bytes net ≡ None) (read : reading_of bytes ≡ Ok (enveloped xid (FlowMod m))) where
  answers_is : Judged Tells d m old new net now_net result → AnswersSo Tells d bytes old new net now_net result
  answers_is judged other n _ again =
      subst (λ (x : Change). MatchResult result (Asked Tells d x old new net now_net) (λ f. Stopped d x old new net now_net)) (same_change xid other m n (sym read ∙ again)) (stopped_is Tells d m old new net now_net result judged)

  flooded_is : IfErr result (λ fault. IfGivenUp Tells d m old new net (Fault fault)) → IfAsked d bytes net (λ x. IfErr result (λ fault. IfGivenUp Tells d x old new net (Fault fault)))
  flooded_is f other n _ again = subst (λ (x : Change). IfErr result (λ fault. IfGivenUp Tells d x old new net (Fault fault))) (same_change xid other m n (sym read ∙ again)) f

  changes_joined : Continues Tells old new → IfErr result (IsCause Tells d old new) → MakesJoined Tells d m old new net now_net result → ChangesJoined Tells d bytes old new net now_net result
  changes_joined continues cause j = record {
    switches = λ e. made_switches Tells d e m old new net now_net result (stopped_is Tells d m old new net now_net result j.judged);
    ports = ap (λ (n : NetState). n.ports) j.stays;
    left = ap (λ (n : NetState). n.left) j.stays;
    held = ap (λ (n : NetState). n.held.packets) j.stays ∙ no_packet_held d bytes xid m result net.held read;
    unheld = unheld_is Tells d m old new net now_net result j.judged;
    by_host = λ answer h. absurd (no_answer answer (sym h ∙ none));
    by_switch = answers_is j.judged;
    flooded = flooded_is j.flooded;
    in_flight = λ other n _ again. in_flight_is Tells d n old new net now_net result (subst (λ (x : Change). Judged Tells d x old new net now_net result) (same_change xid other m n (sym read ∙ again)) j.judged);
    by_statistics = λ other q _ again. absurd (no_query xid other m q (sym read ∙ again));
    reached = reaches d bytes old new net now_net result (answers_is j.judged);
    in_step = steps d bytes old new net now_net result continues cause (answers_is j.judged) (flooded_is j.flooded);
    losses = judged_losses d m old new net now_net result j.judged;
  }

  changes_lost : MakesLost Tells d old new net now_net → ChangesLost Tells d old new net now_net
  changes_lost l = record { viewed = viewed d net.views ∙ some_is_some (rows_at d net.views) (host_known d bytes net none); is_lost = l.is_lost; net_is = l.net_is ∙ ap (λ (x : ℕ). record (lost_net d net) { xid = x }) (sym (ap (λ (n : NetState). n.xid) l.net_is)) }

  pub Changes-by_switch : Makes Tells d m old new net now_net result → Changes Tells d bytes old new net now_net result
  Changes-by_switch makes = record {
    continues = speaks_on makes.speaks;
    links = speaks_links makes.speaks;
    no_strays = λ told keeps joined. speaks_place makes.speaks told keeps (joined (host_known d bytes net none));
    read = λ ok told. elim makes.made [
      | inl j ↦ asked_read Tells d m old new net now_net result (stopped_is Tells d m old new net now_net result j.judged) ok told
      | inr l ↦ l.1.read told
    ];
    cause = wait_cause Tells d old new net.kept now_net.kept result makes.cause;
    moment = elim makes.made [ inl j ↦ ap (λ (n : NetState). n.moment) j.stays | inr l ↦ ap (λ (n : NetState). n.moment) l.1.net_is ];
    room = elim makes.made [ inl j ↦ ap (λ (n : NetState). n.room) j.stays | inr l ↦ ap (λ (n : NetState). n.room) l.1.net_is ];
    ids = elim makes.made [
      | inl j ↦ joined_ids Tells d m old new net now_net result makes.speaks (ap (λ (n : NetState). n.xid) j.stays) j.judged
      | inr l ↦ subst (λ (r : Result Answer TxnFault). KeepsIds Tells 2 old new net.xid now_net.xid r) (sym l.0) (speaks_on_ids now_net.xid makes.speaks (omega arith) (λ small. ap (λ (n : NetState). n.xid) l.1.net_is ∙ second_next net.xid small) l.1.is_lost.some)
    ];
    answered = elim makes.made [ inl j ↦ inl (changes_joined (speaks_on makes.speaks) makes.cause j) | inr l ↦ inr (none, l.0, changes_lost l.1) ];
  }

-- ---- A request of statistics

-- one that the host let pass, every switch takes
pub query_passed : (rows : Rows) (bytes : List ℕ) (xid : ℕ) (q : StatsBody) → reading_of bytes ≡ Ok (enveloped xid (StatsRequest q)) → host_answer_read rows (reading_of bytes) ≡ None → stats_refusal q ≡ None
unfolding host_refusal
query_passed rows bytes xid q read none = passed_by (stats_refusal q) (rw read at none)
  where
    passed_by : (o : Option OfError) → refused_or o None ≡ None → o ≡ None
    passed_by None h = refl
    passed_by (Some e) h = absurd cc

-- nothing is held of it
no_packet_asked : (d xid : ℕ) (q : StatsBody) (bytes : List ℕ) (answer : Answer) → reading_of bytes ≡ Ok (enveloped xid (StatsRequest q)) → [] ≡ holds d bytes answer
unfolding holds
no_packet_asked d xid q bytes Fine read = rw read refl
no_packet_asked d xid q bytes (Error error) read = refl
no_packet_asked d xid q bytes Unknown read = refl
no_packet_asked d xid q bytes (Statistics kind body) read = refl

none_held_asked : (d xid : ℕ) (q : StatsBody) (bytes : List ℕ) (result : Result Answer TxnFault) (held : HeldBack) → reading_of bytes ≡ Ok (enveloped xid (StatsRequest q)) → held.packets ≡ (held_after d bytes result held).packets
none_held_asked d xid q bytes (Ok answer) held read = sym (append-nil held.packets) ∙ ap (λ (more : List Held). held.packets ++ more) (no_packet_asked d xid q bytes answer read)
none_held_asked d xid q bytes (Err fault) held read = refl

stays_unheld : (result : Result Answer TxnFault) (net now_net : NetState) → now_net.held ≡ net.held → IfErr result (λ fault. now_net.held ≡ net.held)
stays_unheld (Ok answer) net now_net same = tt
stays_unheld (Err fault) net now_net same = same

query_cause : {Own : Type 0} {Tells : Type 0} (i : Inquiry) (old new : Seen Own) (net now_net : NetState) (result : Result Answer TxnFault) → Queries Tells i old new net now_net result → IfErr result (IsExchangeCause Tells i.dpid old new net.kept now_net.kept)
query_cause i old new net now_net (Ok answer) q = tt
query_cause i old new net now_net (Err fault) q = elim q.answer [ inl cause ↦ inl cause | inr reply ↦ inr (i, refl, reply) ]

no_reached : {Own : Type 0} {Tells : Type 0} (d : ℕ) (bytes : List ℕ) (old new : Seen Own) (net : NetState) (result : Result Answer TxnFault) (xid : ℕ) (q : StatsBody) → reading_of bytes ≡ Ok (enveloped xid (StatsRequest q)) → Reaches Tells d bytes old new net result
no_reached d bytes old new net result xid q read other m told none again = absurd (no_query other xid m q (sym again ∙ read))

no_steps : {Own : Type 0} {Tells : Type 0} (d : ℕ) (bytes : List ℕ) (old new : Seen Own) (net now_net : NetState) (result : Result Answer TxnFault) (xid : ℕ) (q : StatsBody) → reading_of bytes ≡ Ok (enveloped xid (StatsRequest q)) → Steps Tells d bytes old new net now_net result
no_steps d bytes old new net now_net result xid q read other m told none again keeps waits agrees = absurd (no_query other xid m q (sym again ∙ read))

module _ {Own : Type 0} (Tells : Type 0) (d : ℕ) (bytes : List ℕ) (old new : Seen Own) (net now_net : NetState) (result : Result Answer TxnFault) (xid : ℕ) (q : StatsBody) (none : answer_of_host d bytes net ≡ None) (read : reading_of bytes ≡ Ok (enveloped xid (StatsRequest q))) where
  query_joined : Queries Tells (record { dpid = d; xid = net.xid; query = q }) old new net now_net result → ChangesJoined Tells d bytes old new net now_net result
  query_joined j = record {
    switches = λ e. ap (λ (n : NetState). has_rows e n.views) j.stays;
    ports = ap (λ (n : NetState). n.ports) j.stays;
    left = ap (λ (n : NetState). n.left) j.stays;
    held = ap (λ (n : NetState). n.held.packets) j.stays ∙ none_held_asked d xid q bytes result net.held read;
    unheld = stays_unheld result net now_net (ap (λ (n : NetState). n.held) j.stays);
    by_host = λ answer h. absurd (no_answer answer (sym h ∙ none));
    by_switch = λ other m _ again. absurd (no_query other xid m q (sym again ∙ read));
    flooded = λ other m _ again. absurd (no_query other xid m q (sym again ∙ read));
    in_flight = λ other m _ again. absurd (no_query other xid m q (sym again ∙ read));
    by_statistics = λ other p _ again. subst (λ (x : StatsBody). Queries Tells (record { dpid = d; xid = net.xid; query = x }) old new net now_net result) (same_query xid other q p (sym read ∙ again)) j;
    reached = no_reached d bytes old new net result xid q read;
    in_step = no_steps d bytes old new net now_net result xid q read;
    losses = j.losses;
  }

  pub Changes-by_statistics : Queried Tells (record { dpid = d; xid = net.xid; query = q }) old new net now_net result → Changes Tells d bytes old new net now_net result
  Changes-by_statistics queried = record {
    continues = queried.continues;
    links = queried.links;
    no_strays = λ told keeps joined. queried.no_strays told keeps (joined (host_known d bytes net none));
    read = queried.read;
    cause = elim queried.queried [
      | inl j ↦ query_cause (record { dpid = d; xid = net.xid; query = q }) old new net now_net result j
      | inr l ↦ subst (λ (r : Result Answer TxnFault). IfErr r (IsExchangeCause Tells d old new net.kept now_net.kept)) (sym l.0) tt
    ];
    moment = elim queried.queried [ inl j ↦ ap (λ (n : NetState). n.moment) j.stays | inr l ↦ ap (λ (n : NetState). n.moment) l.1.net_is ];
    room = elim queried.queried [ inl j ↦ ap (λ (n : NetState). n.room) j.stays | inr l ↦ ap (λ (n : NetState). n.room) l.1.net_is ];
    ids = queried.ids;
    answered = elim queried.queried [
      | inl j ↦ inl (query_joined j)
      | inr l ↦ inr (none, l.0, record { viewed = viewed d net.views ∙ some_is_some (rows_at d net.views) (host_known d bytes net none); is_lost = l.1.is_lost; net_is = l.1.net_is })
    ];
  }
