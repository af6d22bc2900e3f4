-- The messages that are kept were read, and none of them is an ECHO_REQUEST, whatever the engine does.
use Rattle.std.specs.Prelude.{◌⊎◌, if◌then◌else◌, ◌&&◌, map, true, false, ◌||◌}
use Rattle.std.specs.Str.{bytes_eq}
use Rattle.std.proofs.Common.{◌≡◌, ◌==◌, ℕ, Bool, not, List, [], ◌∷◌, ◌++◌, drop, filter, Option, Some, None, Result, Ok, Err, IsOk, IsOkAnd, refl, sym, ap, ◌∙◌, subst, inl, inr, true≢false}
use Rattle.std.specs.List.{AllByRecursion}
use Rattle.std.proofs.lemmas.Bool.{cases_Bool, eqb-false, ne_eqb}
use Rattle.of_types.specs.Fields.{number_at}
use Rattle.of_types.specs.declared.port_desc.PortDesc.{PortDesc}
use Rattle.of_wire.specs.Reading.{reading_of}
use Rattle.of_wire.specs.declared.message.Message.{Message}
use Rattle.of_wire.specs.declared.message.Message.TheVariants.{BarrierReply}
use Rattle.of_wire.specs.Spelling.{message_bytes}
use Rattle.of_wire.specs.declared.message.Envelope.{Envelope}
use Rattle.of_wire.specs.declared.fault.WireFault.{WireFault}
use Rattle.flow_table.specs.View.{TableView}
use Rattle.app_frames.specs.declared.frame.Answer.{Answer}
use Rattle.app_frames.specs.declared.frame.Event.{Event}
use Rattle.outside.specs.Seen.{Counts, Seen}
use Rattle.lego_model.specs.declared.wait.Awaited.{Awaited}
use Rattle.lego_model.specs.declared.wait.Heard.{Heard}
use Rattle.lego_model.specs.declared.wait.Heard.TheVariants.{Reply, Refused, Notice, Echo, Other}
use Rattle.lego_model.specs.declared.wait.Refusal.{Refusal}
use Rattle.net_txn.specs.Net.{NetState}
use Rattle.net_txn.specs.MessageStore.{KeptWhereFit}
use Rattle.net_txn.specs.Waits.{Waits as WaitsFor, Brought}
use Rattle.lego_model.specs.BarrierWaits.{heard, is_awaited, is_apart, refusal_of, kept_by, kept_of}
use Rattle.outside.specs.declared.step.WorldStep.{WorldStep}
use Rattle.net_txn.specs.Answering.{known_rows}
use Rattle.net_txn.specs.Changes.{answer_of_host, Changes, ChangesJoined, ChangesLost}
use Rattle.net_txn.specs.Arriving.{Becomes, ArrivesLost, Arrives}
use Rattle.net_txn.specs.Asks.{Inquiry}
use Rattle.net_txn.specs.Queries.{Queried}
use Rattle.net_txn.specs.Joining.{JoinsOrNot}
use Rattle.net_txn.specs.Losing.{lost_net, lose_all}
use Rattle.of_types.specs.Membership.{is_among}
use Rattle.net_txn.specs.Undos.{Part, Inverse, BarrierPassed, Stuck, alone, fault_in, first_fault, KeepsOne, Keeps, Undoes, lost_in, lost_parts, undone_net, next_free}
use Rattle.net_txn.specs.laws.UndoWaitLaws.{until_more}
use Rattle.net_txn.specs.laws.LinkPresenceLaws.{among-front}
use Rattle.net_txn.specs.Releases.{Commits}
use Rattle.app_visor.specs.Beats.{Beat, Talk, Asks as AskedNow, Chain}
use Rattle.lego_model.specs.Journal.{give_act}
use Rattle.lego_model.specs.FlowQueries.{others_in}
use Rattle.run_laws.specs.laws.KeptJoinedLaws.{unanswered_of}
use Rattle.switch_laws.specs.laws.AskedLaws.{asked}
use Rattle.event_dispatch.specs.declared.closing.Closing.{Closing}
use Rattle.event_dispatch.specs.declared.closing.Closing.TheVariants as closings
use Rattle.event_dispatch.specs.Runs.{AreRead}
use Rattle.event_dispatch.specs.Serves.{IsPlayed, PlaysTurn}
use Rattle.net_txn.specs.laws.RestoreLaws.{AllRun, runs_here, runs_older}
use Rattle.net_txn.specs.laws.OutLaws.{ended_none, stuck_lost}
use Rattle.net_txn.specs.laws.AgreeLaws.{both_none}
use Rattle.net_txn.specs.laws.ArrivalLaws.{net_after_kept}
use Rattle.net_txn.specs.laws.SaidLaws.{all_two}
use Rattle.net_txn.specs.laws.ReadLaws.{all_read}

abbrev IsKeptRead : ℕ × List ℕ → Type 0
IsKeptRead m = IsOk (reading_of m.1) × ((number_at 1 1 m.1 == 2) ≡ false)

-- ---- Lists of them

all_by : {X : Type 0} {P Q : X → Type 0} (xs : List X) → ((x : X) → P x → Q x) → AllByRecursion P xs → AllByRecursion Q xs
all_by [] f all = tt
all_by (x ∷ xs) f all = (f x all.0, all_by xs f all.1)

read_append : (xs ys : List (ℕ × List ℕ)) → AreRead xs → AreRead ys → AreRead (xs ++ ys)
read_append xs ys first second = all_two IsKeptRead xs ys first second

pub read_rest : (xs : List (ℕ × List ℕ)) → AreRead xs → AreRead (drop 1 xs)
read_rest [] read = tt
read_rest (x ∷ xs) read = read.1

-- those that are chosen
pub read_filter : (p : ℕ × List ℕ → Bool) (xs : List (ℕ × List ℕ)) → AreRead xs → AreRead (filter p xs)
read_filter p [] read = tt
read_filter p (x ∷ xs) read = elim (cases_Bool (p x)) [
  | inl here ↦ rw here (read.0, read_filter p xs read.1)
  | inr other ↦ rw other (read_filter p xs read.1)
]

pub read_left : (d : ℕ) (xs : List (ℕ × List ℕ)) → AreRead xs → AreRead (filter (λ m. not (m.0 == d)) xs)
read_left d xs read = read_filter (λ m. not (m.0 == d)) xs read

pub read_same : (a b : NetState) → b ≡ a → AreRead a.kept → AreRead b.kept
read_same a b same read = subst (λ (n : NetState). AreRead n.kept) (sym same) read

pub read_alike : (a b : List (ℕ × List ℕ)) → b ≡ a → AreRead a → AreRead b
read_alike a b same read = subst AreRead (sym same) read

-- ---- A wait

-- it is no ECHO_REQUEST
last_case : (reply refused notice echo : Bool) (refusal : Refusal) → (if reply then Reply else if refused then Refused refusal else if notice then Notice else if echo then Echo else Other) ≡ Other → echo ≡ false
last_case true refused notice echo refusal is = absurd cc
last_case false true notice echo refusal is = absurd cc
last_case false false true echo refusal is = absurd cc
last_case false false false true refusal is = absurd cc
last_case false false false false refusal is = refl

other_read : (a : Awaited) (b : List ℕ) → heard a b ≡ Other → (number_at 1 1 b == 2) ≡ false
unfolding heard
other_read a b is =
    last_case (bytes_eq b (message_bytes a.barrier BarrierReply)) (number_at 1 1 b == 1 && is_awaited a (number_at 4 4 b)) ((number_at 1 1 b == 11 && number_at 1 58 b == 2) && is_apart a.notices) (number_at 1 1 b == 2) (refusal_of b) is

one_read : (a : Awaited) (b : List ℕ) (h : Heard) → heard a b ≡ h → IsOk (reading_of b) → AreRead (kept_by a.dpid h b)
one_read a b Reply same is = tt
one_read a b (Refused refusal) same is = tt
one_read a b Notice same is = tt
one_read a b Echo same is = tt
one_read a b Other same is = ((is, other_read a b same), tt)

kept_read : (a : Awaited) (got : List (List ℕ)) → AllByRecursion (λ b. IsOk (reading_of b)) got → AreRead (kept_of a got)
kept_read a [] all = tt
kept_read a (b ∷ bs) all = read_append (kept_by a.dpid (heard a b) b) (kept_of a bs) (one_read a b (heard a b) refl all.0) (kept_read a bs all.1)

waits_read : {Own Tells : Type 0} {a : Awaited} {front : List WorldStep} {old new : Seen Own} (kept now_kept : List (ℕ × List ℕ)) (answer : Brought) → WaitsFor Tells a front old new kept now_kept answer → AreRead kept → AreRead now_kept
waits_read {a = a} kept now_kept answer w read = subst AreRead (sym w.hears.kept_is) (read_append kept (kept_of a w.got) read (kept_read a w.got (all_read w.got w.hears.read)))

fit_read : (P : ℕ × List ℕ → Type 0) (kept more now_kept : List (ℕ × List ℕ)) → KeptWhereFit kept more now_kept → AllByRecursion P kept → AllByRecursion P more → AllByRecursion P now_kept
fit_read P kept [] now_kept same read all = subst (AllByRecursion P) (sym same) read
fit_read P kept (m ∷ ms) now_kept (inl fits) read all = fit_read P (kept ++ m ∷ []) ms now_kept fits (all_two P kept (m ∷ []) read (all.0, tt)) all.1
fit_read P kept (m ∷ ms) now_kept (inr over) read all = fit_read P kept ms now_kept over.1 read all.1

-- ---- A message that came, a switch that joins, a question for rows

became_read : {Own : Type 0} (Tells : Type 0) (d xid : ℕ) (m : Message) (old new : Seen Own) (net now_net : NetState) (event : Option Event) → Becomes Tells d xid m old new net now_net event ⊎ ArrivesLost Tells d m old new net now_net event → AreRead net.kept
    → AreRead now_net.kept
became_read Tells d xid m old new net now_net event (inl is) read = subst AreRead (sym (ap (λ (n : NetState). n.kept) is.net_is ∙ net_after_kept d m net)) read
became_read Tells d xid m old new net now_net event (inr lost) read = read_same (lost_net d net) now_net lost.net_is (read_left d net.kept read)

arrived_by : {Own : Type 0} (Tells : Type 0) (d : ℕ) (old new : Seen Own) (net now_net : NetState) (event : Option Event) (r : Result Envelope WireFault)
    → IsOkAnd r (λ e. Becomes Tells d e.xid e.message old new net now_net event ⊎ ArrivesLost Tells d e.message old new net now_net event) → AreRead net.kept → AreRead now_net.kept
arrived_by Tells d old new net now_net event (Err fault) is read = absurd is
arrived_by Tells d old new net now_net event (Ok e) is read = became_read Tells d e.xid e.message old new net now_net event is read

pub arrived_read : {Own Tells : Type 0} {d : ℕ} {old new : Seen Own} (frame : List ℕ) (net now_net : NetState) (event : Option Event) → Arrives Tells d frame old new net now_net (Ok event) → AreRead net.kept → AreRead now_net.kept
arrived_read {Tells = Tells} {d = d} {old = old} {new = new} frame net now_net event arrives read = arrived_by Tells d old new net now_net event (reading_of frame) arrives.read read

pub joins_read : {Own : Type 0} (Tells : Type 0) (d : ℕ) (ports : List PortDesc) (old new : Seen Own) (joined : Bool) (net now_net : NetState) → JoinsOrNot Tells d ports joined old new net now_net → AreRead net.kept → AreRead now_net.kept
joins_read Tells d ports old new true net now_net joins read = waits_read net.kept now_net.kept joins.answer joins.waits read
joins_read Tells d ports old new false net now_net joins read = subst AreRead (sym (ap (λ (n : NetState). n.kept) joins.net_is)) (read_left d net.kept read)

-- statistics that the host asks for itself
pub query_read : {Own Tells : Type 0} {i : Inquiry} {old new : Seen Own} (net now_net : NetState) (answer : Answer) → Queried Tells i old new net now_net (Ok answer) → AreRead net.kept → AreRead now_net.kept
query_read {i = i} net now_net answer asked read = elim asked.queried [
  | inl q ↦
      let gives = q.answer in
      let came = waits_read [] gives.came gives.answered.brought gives.answered.waits tt in
      read_alike (net.kept ++ others_in i.xid gives.came) now_net.kept gives.answered.kept_is (read_append net.kept (others_in i.xid gives.came) read (unanswered_of IsKeptRead i.xid gives.came came))
  | inr lost ↦ read_alike (filter (λ m. not (m.0 == i.dpid)) net.kept) now_net.kept (ap (λ (n : NetState). n.kept) lost.1.net_is) (read_left i.dpid net.kept read)
]

-- ---- An undo in which no switch failed

-- it was read, or goes with its switch
abbrev IsReadBut : List ℕ → ℕ × List ℕ → Type 0
IsReadBut lost m = (is_among m.0 lost ≡ true) ⊎ IsKeptRead m

but_more : (lost more : List ℕ) (kept : List (ℕ × List ℕ)) → AllByRecursion (IsReadBut lost) kept → AllByRecursion (IsReadBut (lost ++ more)) kept
but_more lost more kept all = all_by kept one all
  where
    one : (m : ℕ × List ℕ) → IsReadBut lost m → IsReadBut (lost ++ more) m
    one m (inl gone) = inl (among-front m.0 lost more gone)
    one m (inr read) = inr read

gone_all : (d : ℕ) (lost : List ℕ) → is_among d lost ≡ true → (more : List (List ℕ)) → AllByRecursion (IsReadBut lost) (map (λ b. (d, b)) more)
gone_all d lost gone [] = tt
gone_all d lost gone (b ∷ more) = (inl gone, gone_all d lost gone more)

read_but : (lost : List ℕ) (kept : List (ℕ × List ℕ)) → AreRead kept → AllByRecursion (IsReadBut lost) kept
read_but lost kept read = all_by kept (λ m is. inr is) read

part_read : (old new : Counts) (d : ℕ) (p : Part) (older : List (ℕ × Part)) (kept now_kept : List (ℕ × List ℕ)) → AllRun old new ((d, p) ∷ older) → first_fault ((d, p) ∷ older) ≡ None → KeepsOne d p kept now_kept → AllByRecursion (IsReadBut (lost_parts older)) kept
    → AllByRecursion (IsReadBut (lost_parts ((d, p) ∷ older))) now_kept
part_read old new d (Inverse xid k) older kept now_kept runs none keeps read = subst (AllByRecursion (IsReadBut (lost_parts older ++ []))) (sym keeps) (but_more (lost_parts older) [] kept read)
part_read old new d (BarrierPassed xid got) older kept now_kept runs none keeps read =
    let run = runs_here old new (d, BarrierPassed xid got) older runs in
    fit_read (IsReadBut (lost_parts older ++ [])) kept (kept_of (alone d xid) got) now_kept keeps (but_more (lost_parts older) [] kept read) (read_but (lost_parts older ++ []) (kept_of (alone d xid) got) (kept_read (alone d xid) got run.0.before.read))
part_read old new d (Stuck xid halt steps) older kept now_kept runs none keeps read =
    let lost = lost_parts ((d, Stuck xid halt steps) ∷ older) in
    let more = until_more d xid _ steps kept now_kept keeps in
    subst (AllByRecursion (IsReadBut lost)) (sym more.1)
    (all_two (IsReadBut lost) kept (map (λ b. (d, b)) more.0) (but_more (lost_parts older) (lost_in d (Stuck xid halt steps)) kept read) (gone_all d lost (stuck_lost old new d (Stuck xid halt steps) older (λ rest. refl) runs none) more.0))

keeps_read : (old new : Counts) (kept : List (ℕ × List ℕ)) (parts : List (ℕ × Part)) (now_kept : List (ℕ × List ℕ)) → AllRun old new parts → first_fault parts ≡ None → Keeps kept parts now_kept → AreRead kept → AllByRecursion (IsReadBut (lost_parts parts)) now_kept
keeps_read old new kept [] now_kept runs none keeps read = subst (AllByRecursion (IsReadBut [])) (sym keeps) (read_but [] kept read)
keeps_read old new kept (p ∷ older) now_kept runs none keeps read =
    let both = both_none (first_fault older) (fault_in p.1) none in
    part_read old new p.0 p.1 older keeps.0 now_kept runs none keeps.2 (keeps_read old new kept older keeps.0 (runs_older old new p older runs) both.0 keeps.1 read)

-- the messages of the switches that were lost go
first_goes : (d : ℕ) (lost : List ℕ) (m : ℕ × List ℕ) → (m.0 == d) ≡ false → IsReadBut (d ∷ lost) m → IsReadBut lost m
first_goes d lost m other (inl gone) = inl (subst (λ (b : Bool). (b || is_among m.0 lost) ≡ true) (ne_eqb d m.0 (λ same. eqb-false m.0 d other (sym same))) gone)
first_goes d lost m other (inr read) = inr read

goes_one : (d : ℕ) (lost : List ℕ) (kept : List (ℕ × List ℕ)) → AllByRecursion (IsReadBut (d ∷ lost)) kept → AllByRecursion (IsReadBut lost) (filter (λ m. not (m.0 == d)) kept)
goes_one d lost [] all = tt
goes_one d lost (m ∷ kept) all = elim (cases_Bool (m.0 == d)) [
  | inl here ↦ rw here (goes_one d lost kept all.1)
  | inr other ↦ rw other (first_goes d lost m other all.0, goes_one d lost kept all.1)
]

none_goes : (m : ℕ × List ℕ) → IsReadBut [] m → IsKeptRead m
none_goes m (inl gone) = absurd (true≢false (sym gone))
none_goes m (inr read) = read

goes_all : (lost : List ℕ) (net : NetState) → AllByRecursion (IsReadBut lost) net.kept → AreRead (lose_all lost net).kept
goes_all [] net all = all_by net.kept none_goes all
goes_all (d ∷ lost) net all = goes_all lost (lost_net d net) (goes_one d lost net.kept all)

pub undoes_read : {Own Tells : Type 0} {start : ℕ} {old new : Seen Own} (net now_net : NetState) → Undoes Tells start old new net now_net (Ok tt) → AreRead net.kept → AreRead now_net.kept
undoes_read {start = start} {old = old} {new = new} net now_net u read =
    read_same (lose_all (lost_parts u.parts) (record (undone_net start net) { xid = next_free net.xid u.parts; kept = u.kept; room = now_net.room })) now_net u.net_is
    (goes_all (lost_parts u.parts) (record (undone_net start net) { xid = next_free net.xid u.parts; kept = u.kept; room = now_net.room })
    (keeps_read old.counts new.counts net.kept u.parts u.kept (λ d. (u.each d).run) (ended_none (first_fault u.parts) u.result_is) u.keeps read))

-- ---- A turn

change_stays : {Own Tells : Type 0} {d : ℕ} {old new : Seen Own} (bytes : List ℕ) (net now_net : NetState) (answer : Answer) → ChangesJoined Tells d bytes old new net now_net (Ok answer) → (o : Option Answer) → answer_of_host d bytes net ≡ o → AreRead net.kept → AreRead now_net.kept
change_stays bytes net now_net answer changes (Some a) host read = read_alike net.kept now_net.kept (ap (λ (n : NetState). n.kept) (changes.by_host a host).stays) read
change_stays {d = d} bytes net now_net answer changes None host read = elim (asked (known_rows d net.views) bytes host) [
  | inl change ↦
      let asks = changes.by_switch change.xid change.change host change.read in
      waits_read net.kept now_net.kept (record { refusal = asks.refusal; notices = asks.notices }) asks.waits read
  | inr query ↦
      let gives = (changes.by_statistics query.xid query.query host query.read).answer in
      let came = waits_read [] gives.came gives.answered.brought gives.answered.waits tt in
      read_alike (net.kept ++ others_in net.xid gives.came) now_net.kept gives.answered.kept_is (read_append net.kept (others_in net.xid gives.came) read (unanswered_of IsKeptRead net.xid gives.came came))
]

change_goes : {Own Tells : Type 0} {d : ℕ} {old new : Seen Own} (net now_net : NetState) → ChangesLost Tells d old new net now_net → AreRead net.kept → AreRead now_net.kept
change_goes {d = d} net now_net lost read = read_alike (filter (λ m. not (m.0 == d)) net.kept) now_net.kept (ap (λ (n : NetState). n.kept) lost.net_is) (read_left d net.kept read)

change_read : {Own Tells : Type 0} {d : ℕ} {old new : Seen Own} (bytes : List ℕ) (net now_net : NetState) (answer : Answer) → Changes Tells d bytes old new net now_net (Ok answer) → AreRead net.kept → AreRead now_net.kept
change_read {d = d} bytes net now_net answer changes read =
    elim changes.answered [
      | inl joined ↦ change_stays bytes net now_net answer joined (answer_of_host d bytes net) refl read
      | inr lost ↦ change_goes net now_net lost.2 read
    ]

pub chain_read : {Own : Type 0} (Tells : Type 0) (app : ℕ) (trace : List (Beat Own)) (old new : Seen Own) (net now_net : NetState) → Chain Tells app trace old new net now_net → AreRead net.kept → AreRead now_net.kept
chain_read Tells app [] old new net now_net chain read = read_same net now_net chain.1 read
chain_read Tells app (Talk act ∷ rest) old new net now_net chain read = chain_read Tells app rest chain.1.0 new net now_net chain.1.1.1 read
chain_read Tells app (AskedNow x ∷ rest) old new net now_net chain read =
    chain_read Tells app rest x.after new x.now_net now_net chain.1.1
    (change_read x.bytes x.net x.now_net x.answer chain.1.0.changes (read_same net x.net chain.0.1 read))

pub commits_read : {Own Tells : Type 0} {start : ℕ} {old new : Seen Own} {queue now_queue : List Event} {sent : List (ℕ × ℕ)} (net now_net : NetState) → Commits Tells start old new net now_net queue now_queue (Ok sent) → AreRead net.kept → AreRead now_net.kept
commits_read net now_net commits read = read_alike (filter (λ m. not (is_among m.0 commits.lost)) net.kept) now_net.kept (commits.kept refl) (read_filter (λ m. not (is_among m.0 commits.lost)) net.kept read)

played_read : {Own : Type 0} (Tells : Type 0) (start : ℕ) (mid new : Seen Own) (closing : Closing) (mid_net now_net : NetState) (queue now_queue : List Event) → IsPlayed Tells closing start mid new mid_net now_net queue now_queue → AreRead mid_net.kept → AreRead now_net.kept
played_read Tells start mid new (closings.Done stop out) mid_net now_net queue now_queue played read = commits_read mid_net now_net played read
played_read Tells start mid new (closings.Failed cause) mid_net now_net queue now_queue played read = undoes_read mid_net now_net played.0 read

pub turn_read : {Own Tells : Type 0} {accepts : List TableView → Bool} {app budget number : ℕ} {event : Event} {old new : Seen Own} {queue now_queue : List Event} {rest unread : List ℕ} (closing : Closing) (net now_net : NetState)
    → PlaysTurn Tells accepts app budget number event closing old new net now_net queue now_queue rest unread → AreRead net.kept → AreRead now_net.kept
turn_read {Tells = Tells} {app = app} {old = old} {new = new} {queue = queue} {now_queue = now_queue} closing net now_net plays read =
    played_read Tells _ plays.mid new closing plays.mid_net now_net queue now_queue plays.played (chain_read Tells app (Talk (give_act plays.turns.given app _) ∷ plays.turns.trace) old plays.mid net plays.mid_net plays.turns.chain read)

-- ---- The whole engine
