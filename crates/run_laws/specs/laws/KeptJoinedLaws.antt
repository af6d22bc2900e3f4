-- In the course of a run each message that is kept is of a switch that is joined: a wait is for such a switch, and what was kept of a switch goes
-- with it. So each of them makes its events when it is taken.
use Rattle.std.specs.Prelude.{◌==◌, ◌||◌, ◌⊎◌, filter, not, is_some}
use Rattle.std.specs.Option.{option_map}
use Rattle.std.proofs.Common.{◌≡◌, ◌≢◌, ℕ, ◌+◌, Bool, true, false, List, [], ◌∷◌, ◌++◌, Option, Some, None, Result, Ok, Err, refl, sym, ap, ◌∙◌, subst, inl, inr, if◌then◌else◌}
use Rattle.std.specs.List.{AllByRecursion}
use Rattle.std.proofs.lemmas.Bool.{cases_eq, not-true, eqb-false}
use Rattle.of_wire.specs.declared.message.Message.{Message}
use Rattle.of_wire.specs.declared.message.Message.TheVariants as messages
use Rattle.of_wire.specs.declared.message.Envelope.{Envelope}
use Rattle.of_wire.specs.declared.fault.WireFault.{WireFault}
use Rattle.of_wire.specs.Reading.{reading_of}
use Rattle.flow_table.specs.declared.view.ViewRow.{ViewRow}
use Rattle.of_match.specs.declared.key.Key.{Key}
use Rattle.app_frames.specs.declared.frame.Event.{Event}
use Rattle.app_frames.specs.declared.frame.EventKind.{EventKind}
use Rattle.lego_model.specs.Turns.{Outcome, Completed, Failed}
use Rattle.lego_model.specs.declared.wait.Awaited.{Awaited}
use Rattle.lego_model.specs.declared.wait.Heard.{Heard}
use Rattle.lego_model.specs.declared.wait.Heard.TheVariants.{Reply, Refused, Notice, Echo, Other}
use Rattle.lego_model.specs.BarrierWaits.{heard, kept_by, kept_of}
use Rattle.net_txn.specs.laws.SaidLaws.{all_front, all_two, all_behind, all_weaker}
use Rattle.lego_model.specs.KeptMessages.{got_in}
use Rattle.lego_model.specs.ViewRows.{rows_without}
use Rattle.run_course.specs.Tables.{Tables, is_in, with_table, rows_with}
use Rattle.run_course.specs.Messages.{is_refused, tables_left, tables_read, tables_behind, but_of, AreStored}
use Rattle.of_types.specs.Membership.{is_among}
use Rattle.run_course.specs.Moves.{Holding, OfJoined, HoldsStill, Notes, tables_by, Changes, Queries, Releases, Loses, TakesBack, Takes, Joins, Leaves, Go, OneByOne, ItemMove, EndMove, keys_at, TakesNotice, DropsNotice, Settles}
use Rattle.lego_model.specs.FlowQueries.{is_about, other_in, others_in}
use Rattle.run_course.specs.Applications.{Application, listens}
use Rattle.run_course.specs.Turns.{TalkMove, Talk, Closes, Talks, keys_added, HasTurn, Turning, turning_at, unless_failed, turning_behind, TurnsInstead, GroupCloses, HasInstead, instead_in, IsOffered, unless_stopped, Offers}
use Rattle.run_course.specs.Parts.{Standing, KeptComeFirst, Part, Goes}

-- ---- Messages of some switches

abbrev Of : (ℕ → Bool) → List (ℕ × List ℕ) → Type 0
Of joined messages = AllByRecursion (λ m. joined m.0 ≡ true) messages

of_same : (a b : ℕ → Bool) (ms : List (ℕ × List ℕ)) → ((d : ℕ) → b d ≡ a d) → Of a ms → Of b ms
of_same a b ms same all = all_weaker (λ m. a m.0 ≡ true) (λ m. b m.0 ≡ true) (λ m is. same m.0 ∙ is) ms all

-- those of one switch, or of some, are left out

left_out : (a b : ℕ → Bool) (m : ℕ × List ℕ) (rest : List (ℕ × List ℕ)) (stays : Bool) → (stays ≡ true → b m.0 ≡ true) → Of b rest → Of b (if stays then m ∷ rest else rest)
left_out a b m rest true is all = (is refl, all)
left_out a b m rest false is all = all

-- ---- Which switches are joined, behind a change of rows

abbrev joined_in : Tables → ℕ → Bool
joined_in tables d = is_in d tables

mapped_in : (change : List ViewRow → List ViewRow) (o : Option (List ViewRow)) → is_some (option_map change o) ≡ is_some o
mapped_in change None = refl
mapped_in change (Some rows) = refl

if_in : (here : Bool) (change : List ViewRow → List ViewRow) (o : Option (List ViewRow)) → is_some (if here then option_map change o else o) ≡ is_some o
if_in true change o = mapped_in change o
if_in false change o = refl

changed_in : (d e : ℕ) (change : List ViewRow → List ViewRow) (tables : Tables) → is_in e (with_table d change tables) ≡ is_in e tables
changed_in d e change tables = if_in (e == d) change (tables e)

by_in : (refused : Bool) (a : Tables) (d e : ℕ) (m : _) → is_in e (tables_by refused d m a) ≡ is_in e a
by_in true a d e m = refl
by_in false a d e m = changed_in d e (rows_with m) a

left_in : (d e : ℕ) (m : Message) (tables : Tables) → is_in e (tables_left d m tables) ≡ is_in e tables
left_in d e (messages.FlowRemoved f) tables = changed_in d e (rows_without (record { priority = f.priority; matching = f.matching } ∷ [])) tables
left_in d e (messages.Hello payload) tables = refl
left_in d e (messages.EchoRequest payload) tables = refl
left_in d e (messages.EchoReply payload) tables = refl
left_in d e (messages.Vendor payload) tables = refl
left_in d e messages.FeaturesRequest tables = refl
left_in d e (messages.FeaturesReply features) tables = refl
left_in d e messages.GetConfigRequest tables = refl
left_in d e (messages.GetConfigReply config) tables = refl
left_in d e (messages.SetConfig config) tables = refl
left_in d e (messages.PacketIn packet) tables = refl
left_in d e (messages.PortStatus status) tables = refl
left_in d e (messages.PacketOut packet) tables = refl
left_in d e (messages.FlowMod change) tables = refl
left_in d e (messages.PortMod port) tables = refl
left_in d e (messages.StatsRequest stats) tables = refl
left_in d e (messages.StatsReply stats) tables = refl
left_in d e messages.BarrierRequest tables = refl
left_in d e messages.BarrierReply tables = refl
left_in d e (messages.QueueGetConfigRequest payload) tables = refl
left_in d e (messages.QueueGetConfigReply payload) tables = refl
left_in d e (messages.Error kind code payload) tables = refl

read_in : (d e : ℕ) (r : Result Envelope WireFault) (tables : Tables) → is_in e (tables_read d r tables) ≡ is_in e tables
read_in d e (Ok x) tables = left_in d e x.message tables
read_in d e (Err fault) tables = refl

behind_in : (ms : List (ℕ × List ℕ)) (e : ℕ) (tables : Tables) → is_in e (tables_behind ms tables) ≡ is_in e tables
behind_in [] e tables = refl
behind_in (m ∷ more) e tables = behind_in more e (tables_read m.0 (reading_of m.1) tables) ∙ read_in m.0 e (reading_of m.1) tables

-- by tables that are the same
same_in : (a b : Tables) (e : ℕ) → b e ≡ a e → is_in e b ≡ is_in e a
same_in a b e same = ap (λ (o : Option (List ViewRow)). is_some o) same

-- ---- Any call but a wait, and calls of a wait

still_keep : {Own : Type 0} (from to : Holding Own) → HoldsStill from to → OfJoined from from.kept → OfJoined to to.kept
still_keep from to still all = subst (Of (joined_in to.tables)) (sym still.kept) (of_same (joined_in from.tables) (joined_in to.tables) from.kept (λ e. same_in from.tables to.tables e (still.tables e)) all)

wait_by : (joined : ℕ → Bool) (d : ℕ) (bytes : List ℕ) (h : Heard) (rest : List (ℕ × List ℕ)) → joined d ≡ true → Of joined rest → Of joined (kept_by d h bytes ++ rest)
wait_by joined d bytes Reply rest is all = all
wait_by joined d bytes (Refused refusal) rest is all = all
wait_by joined d bytes Notice rest is all = all
wait_by joined d bytes Echo rest is all = all
wait_by joined d bytes Other rest is all = (is, all)

-- all that a wait keeps is of its switch
wait_of : (joined : ℕ → Bool) (a : Awaited) (got : List (List ℕ)) → joined a.dpid ≡ true → Of joined (kept_of a got)
wait_of joined a [] is = tt
wait_of joined a (b ∷ bs) is = wait_by joined a.dpid b (heard a b) (kept_of a bs) is (wait_of joined a bs is)

changes_keep : {Own : Type 0} (asked : ℕ × List ℕ) (from to : Holding Own) → Changes asked from to → OfJoined from from.kept → OfJoined to to.kept
changes_keep asked from to changes all =
    let a = changes.waited.awaited in
    let came = kept_of a changes.waited.got in
    let stays : (e : ℕ) → is_in e to.tables ≡ is_in e from.tables =
    λ e. same_in (tables_by (is_refused a changes.waited.got) asked.0 changes.change from.tables) to.tables e (changes.tables e) ∙ by_in (is_refused a changes.waited.got) from.tables asked.0 e changes.change in
    let is = ap (joined_in to.tables) changes.of_switch ∙ (stays asked.0 ∙ changes.was_in) in
    subst (Of (joined_in to.tables)) (sym changes.kept) (all_two (λ m. is_in m.0 to.tables ≡ true) from.kept came (of_same (joined_in from.tables) (joined_in to.tables) from.kept stays all) (wait_of (joined_in to.tables) a changes.waited.got is))

-- what answers a request of statistics is not kept
part_of : (P : ℕ × List ℕ → Type 0) (xid : ℕ) (m : ℕ × List ℕ) (about : Bool) → P m → AllByRecursion P (if about then [] else m ∷ [])
part_of P xid m true is = tt
part_of P xid m false is = (is, tt)

pub unanswered_of : (P : ℕ × List ℕ → Type 0) (xid : ℕ) (came : List (ℕ × List ℕ)) → AllByRecursion P came → AllByRecursion P (others_in xid came)
unanswered_of P xid [] all = tt
unanswered_of P xid (m ∷ ms) all = all_two P (other_in xid m) (others_in xid ms) (part_of P xid m (is_about xid 17 m.1 || is_about xid 1 m.1) all.0) (unanswered_of P xid ms all.1)

queries_keep : {Own : Type 0} (asked : ℕ × List ℕ) (from to : Holding Own) → Queries asked from to → OfJoined from from.kept → OfJoined to to.kept
queries_keep asked from to queries all =
    let a = queries.waited.awaited in
    let came = kept_of a queries.waited.got in
    let stays : (e : ℕ) → is_in e to.tables ≡ is_in e from.tables = λ e. same_in from.tables to.tables e (queries.tables e) in
    let is = ap (λ (x : Awaited). joined_in to.tables x.dpid) queries.awaited_is ∙ (stays asked.0 ∙ queries.was_in) in
    let more = unanswered_of (λ m. is_in m.0 to.tables ≡ true) queries.xid came (wait_of (joined_in to.tables) a queries.waited.got is) in
    subst (Of (joined_in to.tables)) (sym queries.kept) (all_two (λ m. is_in m.0 to.tables ≡ true) from.kept (others_in queries.xid came) (of_same (joined_in from.tables) (joined_in to.tables) from.kept stays all) more)

-- a notice that was in doubt moves no switch
settled_in : {Own : Type 0} (from to : Holding Own) (d e : ℕ) (bytes : List ℕ) {Lacks Stands : Type 0} → (Lacks × TakesNotice d bytes from to) ⊎ (Stands × DropsNotice from to) → is_in e to.tables ≡ is_in e from.tables
settled_in from to d e bytes (inl taken) = same_in (tables_read d (reading_of bytes) from.tables) to.tables e (taken.1.tables e) ∙ read_in d e (reading_of bytes) from.tables
settled_in from to d e bytes (inr dropped) = same_in from.tables to.tables e (dropped.1.tables e)

settles_keep : {Own : Type 0} (from to : Holding Own) → Settles from to → OfJoined from from.kept → OfJoined to to.kept
settles_keep from to settles all =
    let a = settles.waited.awaited in
    let came = kept_of a settles.waited.got in
    let stays : (e : ℕ) → is_in e to.tables ≡ is_in e from.tables = λ e. settled_in from to settles.dpid e settles.bytes settles.made in
    let is = ap (λ (x : Awaited). joined_in to.tables x.dpid) settles.awaited_is ∙ (stays settles.dpid ∙ settles.was_in) in
    let more = unanswered_of (λ m. is_in m.0 to.tables ≡ true) settles.xid came (wait_of (joined_in to.tables) a settles.waited.got is) in
    subst (Of (joined_in to.tables)) (sym settles.kept) (all_two (λ m. is_in m.0 to.tables ≡ true) from.kept (others_in settles.xid came) (of_same (joined_in from.tables) (joined_in to.tables) from.kept stays all) more)

notes_keep : {Own : Type 0} (from to : Holding Own) → Notes from to → OfJoined from from.kept → OfJoined to to.kept
notes_keep from to notes all = subst (Of (joined_in to.tables)) (sym notes.kept) (of_same (joined_in from.tables) (joined_in to.tables) from.kept (λ e. same_in from.tables to.tables e (notes.tables e)) all)

releases_keep : {Own : Type 0} (from to : Holding Own) → Releases from to → OfJoined from from.kept → OfJoined to to.kept
releases_keep from to releases all =
    let came = kept_of releases.waited.awaited releases.waited.got in
    subst (Of (joined_in to.tables)) (sym releases.kept) (of_same (joined_in from.tables) (joined_in to.tables) from.kept (λ e. same_in (tables_behind came from.tables) to.tables e (releases.tables e) ∙ behind_in came e from.tables) all)

-- ---- A switch that is lost, or leaves, goes with what was kept of it.

others_of : (a b : ℕ → Bool) (d : ℕ) (ms : List (ℕ × List ℕ)) → ((e : ℕ) → e ≢ d → b e ≡ a e) → Of a ms → Of b (filter (λ m. not (m.0 == d)) ms)
others_of a b d [] others all = tt
others_of a b d (m ∷ ms) others all =
    left_out a b m (filter (λ x. not (x.0 == d)) ms) (not (m.0 == d)) (λ stays. others m.0 (eqb-false m.0 d (not-true (m.0 == d) stays)) ∙ all.0) (others_of a b d ms others all.1)

loses_keep : {Own : Type 0} (from to : Holding Own) → Loses from to → OfJoined from from.kept → OfJoined to to.kept
loses_keep from to loses all = subst (Of (joined_in to.tables)) (sym loses.kept) (others_of (joined_in from.tables) (joined_in to.tables) loses.dpid from.kept (λ e other. same_in from.tables to.tables e (loses.others e other)) all)

leaves_keep : {Own : Type 0} (from to : Holding Own) → Leaves from to → OfJoined from from.kept → OfJoined to to.kept
leaves_keep from to leaves all = subst (Of (joined_in to.tables)) (sym leaves.kept) (others_of (joined_in from.tables) (joined_in to.tables) leaves.dpid from.kept (λ e other. same_in from.tables to.tables e (leaves.others e other)) all)

takes_keep : {Own : Type 0} (from to : Holding Own) → Takes from to → OfJoined from from.kept → OfJoined to to.kept
takes_keep from to takes all =
    let r = reading_of takes.bytes in
    subst (Of (joined_in to.tables)) (sym takes.kept) (of_same (joined_in from.tables) (joined_in to.tables) from.kept (λ e. same_in (tables_read takes.dpid r from.tables) to.tables e (takes.tables e) ∙ read_in takes.dpid e r from.tables) all)

-- ---- A switch joins.

joined_still : (a b : ℕ → Bool) (d e : ℕ) → b d ≡ true → ((c : ℕ) → c ≢ d → b c ≡ a c) → a e ≡ true → b e ≡ true
joined_still a b d e is others was = elim (cases_eq e d) [
  | inl same ↦ ap b same ∙ is
  | inr other ↦ others e other ∙ was
]

joins_keep : {Own : Type 0} (from to : Holding Own) → Joins from to → OfJoined from from.kept → OfJoined to to.kept
joins_keep from to joins all =
    let was = joined_in from.tables in
    let now = joined_in to.tables in
    let is_now : now joins.dpid ≡ true = ap (λ (o : Option (List ViewRow)). is_some o) joins.empty in
    let came = kept_of joins.waited.awaited joins.waited.got in
    let before = all_weaker (λ m. was m.0 ≡ true) (λ m. now m.0 ≡ true) (λ m is. joined_still was now joins.dpid m.0 is_now (λ e other. same_in from.tables to.tables e (joins.others e other)) is) from.kept all in
    subst (Of now) (sym joins.kept) (all_two (λ m. now m.0 ≡ true) from.kept came before (wait_of now joins.waited.awaited joins.waited.got (ap now joins.of_switch ∙ is_now)))

-- ---- An undo

-- one that is not lost is joined still
stays_joined : {Own : Type 0} (added : List (ℕ × Key)) (from to : Holding Own) (takes : TakesBack added from to) (d : ℕ) → is_among d takes.lost ≡ false → is_in d from.tables ≡ true → is_in d to.tables ≡ true
stays_joined added from to takes d stays is =
    same_in (λ e. option_map (rows_without (keys_at e added)) (from.tables e)) to.tables d (takes.tables d stays) ∙ (mapped_in (rows_without (keys_at d added)) (from.tables d) ∙ is)

stay_of : (a b : ℕ → Bool) (lost : List ℕ) (ms : List (ℕ × List ℕ)) → ((d : ℕ) → is_among d lost ≡ false → a d ≡ true → b d ≡ true) → Of a ms → Of b (but_of lost ms)
stay_of a b lost [] stays all = tt
stay_of a b lost (m ∷ ms) stays all =
    left_out a b m (but_of lost ms) (not (is_among m.0 lost)) (λ is. stays m.0 (not-true (is_among m.0 lost) is) all.0) (stay_of a b lost ms stays all.1)

stored_of : (a : ℕ → Bool) (came stored now_stored : List (ℕ × List ℕ)) → Of a came → Of a stored → AreStored came stored now_stored → Of a now_stored
stored_of a [] stored now_stored of_came all are = subst (Of a) (sym are) all
stored_of a (m ∷ more) stored now_stored of_came all (inl one) = stored_of a more (stored ++ m ∷ []) now_stored of_came.1 (all_two (λ x. a x.0 ≡ true) stored (m ∷ []) all (of_came.0, tt)) one.1
stored_of a (m ∷ more) stored now_stored of_came all (inr (inl none)) = stored_of a more stored now_stored of_came.1 all none.1
stored_of a (m ∷ more) stored now_stored of_came all (inr (inr full)) = stored_of a more stored now_stored of_came.1 all full.1

takes_back_keep : {Own : Type 0} (added : List (ℕ × Key)) (from to : Holding Own) → TakesBack added from to → OfJoined from from.kept → OfJoined to to.kept
takes_back_keep added from to takes all =
    let was = joined_in from.tables in
    let now = joined_in to.tables in
    subst (Of now) (sym takes.kept) (stay_of was now takes.lost takes.stored (stays_joined added from to takes) (stored_of was (got_in takes.steps) from.kept takes.stored takes.were_in all takes.came))

-- ---- Moves

item_keeps : {Own : Type 0} (from to : Holding Own) → ItemMove from to → OfJoined from from.kept → OfJoined to to.kept
item_keeps from to (inl ignores) all = still_keep from to ignores.still all
item_keeps from to (inr (inl takes)) all = takes_keep from to takes all
item_keeps from to (inr (inr (inl joins))) all = joins_keep from to joins all
item_keeps from to (inr (inr (inr (inl leaves)))) all = leaves_keep from to leaves all
item_keeps from to (inr (inr (inr (inr (inl loses))))) all = loses_keep loses.mid to loses.loses (still_keep from loses.mid loses.still all)
item_keeps from to (inr (inr (inr (inr (inr settles))))) all = settles_keep from to settles all

end_keeps : {Own : Type 0} (from to : Holding Own) → EndMove from to → OfJoined from from.kept → OfJoined to to.kept
end_keeps from to (inl rests) all = still_keep from to rests.still all
end_keeps from to (inr (inl notes)) all = notes_keep from to notes all
end_keeps from to (inr (inr (inl releases))) all = releases_keep from to releases all
end_keeps from to (inr (inr (inr loses))) all = loses_keep from to loses all

talk_keeps : {Own : Type 0} (i : ℕ) (asked : Option (ℕ × List ℕ)) (from to : Holding Own) → TalkMove i asked from to → OfJoined from from.kept → OfJoined to to.kept
talk_keeps i None from to calls all = still_keep from to calls.still all
talk_keeps i (Some asked) from to (inl rests) all = still_keep from to rests.still all
talk_keeps i (Some asked) from to (inr (inl changes)) all = changes_keep asked from to changes all
talk_keeps i (Some asked) from to (inr (inr (inl queries))) all = queries_keep asked from to queries all
talk_keeps i (Some asked) from to (inr (inr (inr loses))) all = loses_keep from to loses all

go_keeps : {Own : Type 0} (Move : Holding Own → Holding Own → Type 0) → ((a b : Holding Own) → Move a b → OfJoined a a.kept → OfJoined b b.kept) → (stops : List (Holding Own)) (from to : Holding Own) → Go Move stops from to → OfJoined from from.kept → OfJoined to to.kept
go_keeps Move keeps [] from to go all = subst (λ (h : Holding _). OfJoined h h.kept) (sym go) all
go_keeps Move keeps (mid ∷ more) from to go all = go_keeps Move keeps more mid to go.1 (keeps from mid go.0 all)

moves_keep : {Own : Type 0} (Move : Holding Own → Holding Own → Type 0) → ((a b : Holding Own) → Move a b → OfJoined a a.kept → OfJoined b b.kept) → (from to : Holding Own) → OneByOne Move from to → OfJoined from from.kept → OfJoined to to.kept
moves_keep Move keeps from to moves all = go_keeps Move keeps moves.stops from to moves.moves all

-- ---- Parts

talks_keep : {Own : Type 0} (i : ℕ) (moves : List (Option (ℕ × List ℕ) × Holding Own)) (from to : Holding Own) → Talk i moves from to → OfJoined from from.kept → OfJoined to to.kept
talks_keep i [] from to talk all = subst (λ (h : Holding _). OfJoined h h.kept) (sym talk) all
talks_keep i (move ∷ more) from to talk all = talks_keep i more move.1 to talk.1 (talk_keeps i move.0 from move.1 talk.0 all)

closed_keeps : {Own : Type 0} (kind : EventKind) (outcome : Outcome) (added : List (ℕ × Key)) (i : ℕ) (app now_app : Application) (from to : Holding Own) → Closes kind outcome added i app now_app from to → OfJoined from from.kept → OfJoined to to.kept
closed_keeps kind (Completed stop handed left) added i app now_app from to stays all = moves_keep EndMove end_keeps from to stays.moves all
closed_keeps kind (Failed cause) added i app now_app from to undone all =
    still_keep undone.noted to undone.still (notes_keep undone.undone undone.noted undone.notes (takes_back_keep added from undone.undone undone.takes_back all))

talked_keeps : {Own : Type 0} {number : ℕ} {event : Event} {i : ℕ} {unread : List ℕ} (from to : Holding Own) → Talks number event i unread from to → OfJoined from from.kept → OfJoined to to.kept
talked_keeps {i = i} from to t all = talks_keep i t.talk t.begun to t.talks (still_keep from t.begun t.given.still all)

turn_keeps : {Own : Type 0} (number : ℕ) (event : Event) (i : ℕ) (app now_app : Application) (from to : Holding Own) → HasTurn number event i app now_app from to → OfJoined from from.kept → OfJoined to to.kept
turn_keeps number event i app now_app from to turn all =
    closed_keeps event.kind turn.talks.outcome (keys_added turn.talks) i app now_app turn.talked to turn.closes (talked_keeps from turn.talked turn.talks all)

-- turns in place of an event
failed_keeps : (outcome : Outcome) (Over Goes Keeps : Type 0) → unless_failed outcome Over Goes → (Over → Keeps) → (Goes → Keeps) → Keeps
failed_keeps (Completed stop handed left) Over Goes Keeps is over goes = goes is
failed_keeps (Failed cause) Over Goes Keeps is over goes = over is

instead_keep : {Own : Type 0} (number i : ℕ) (events : List Event) (t now_t : Turning) (from to : Holding Own) → TurnsInstead number i events t now_t from to → OfJoined from from.kept → OfJoined to to.kept
instead_keep number i [] t now_t from to none all = subst (λ (h : Holding _). OfJoined h h.kept) (sym none.0) all
instead_keep number i (event ∷ events) t now_t from to turns all =
    let one = turns.0 in
    let there = talked_keeps from one.mid one.talks all in
    failed_keeps one.talks.outcome ((to ≡ one.mid) × (now_t ≡ turning_behind one)) (TurnsInstead number i events (turning_behind one) now_t one.mid to) (OfJoined to to.kept) turns.1
    (λ over. subst (λ (h : Holding _). OfJoined h h.kept) (sym over.0) there) (λ goes. instead_keep number i events (turning_behind one) now_t one.mid to goes there)

group_keeps : {Own : Type 0} (fails : Bool) (t : Turning) (i : ℕ) (app now_app : Application) (from to : Holding Own) → GroupCloses fails t i app now_app from to → OfJoined from from.kept → OfJoined to to.kept
group_keeps false t i app now_app from to stays all = moves_keep EndMove end_keeps from to stays.moves all
group_keeps true t i app now_app from to undone all =
    still_keep undone.noted to undone.still (notes_keep undone.undone undone.noted undone.notes (takes_back_keep t.keys from undone.undone undone.takes_back all))

has_instead_keeps : {Own : Type 0} (number i : ℕ) (events : List Event) (app now_app : Application) (stops : Bool) (from to : Holding Own) → HasInstead number i events app now_app stops from to → OfJoined from from.kept → OfJoined to to.kept
has_instead_keeps number i [] app now_app stops from to none all = subst (λ (h : Holding _). OfJoined h h.kept) (sym none.0) all
has_instead_keeps number i (event ∷ events) app now_app stops from to g all =
    group_keeps g.turning.fails g.turning i app now_app g.talked to g.closes (instead_keep number i (event ∷ events) (turning_at app) g.turning from g.talked g.turns all)

offered_keeps : {Own : Type 0} (number : ℕ) (event : Event) (i : ℕ) (listens : Bool) (apps : Application × Application) (stops : Bool) (from to : Holding Own) → IsOffered number event i listens apps stops from to → OfJoined from from.kept → OfJoined to to.kept
offered_keeps number event i true apps stops from to h all =
    has_instead_keeps number i (instead_in h.turn.talks.outcome h.mid_app event) h.mid_app apps.1 h.stopped h.mid to h.instead (turn_keeps number event i apps.0 h.mid_app from h.mid h.turn all)
offered_keeps number event i false apps stops from to offered all = subst (λ (h : Holding _). OfJoined h h.kept) (sym offered.0) all

unless_keeps : (stops : Bool) (Out Goes Keeps : Type 0) → unless_stopped stops Out Goes → (Out → Keeps) → (Goes → Keeps) → Keeps
unless_keeps true Out Goes Keeps is out goes = out is
unless_keeps false Out Goes Keeps is out goes = goes is

offers_keep : {Own : Type 0} (number : ℕ) (event : Event) (i : ℕ) (apps now_apps : List Application) (from to : Holding Own) → Offers number event i apps now_apps from to → OfJoined from from.kept → OfJoined to to.kept
offers_keep number event i [] now_apps from to offers all = subst (λ (h : Holding _). OfJoined h h.kept) (sym offers.1) all
offers_keep number event i (app ∷ more) now_apps from to offers all =
    let one = offers.0 in
    let mid = offered_keeps number event i (listens event.kind app) (app, one.now_app) one.stops from one.mid one.offered all in
    unless_keeps one.stops ((one.later ≡ more) × (to ≡ one.mid)) (Offers number event (i + 1) more one.later one.mid to) (OfJoined to to.kept) offers.1
    (λ out. subst (λ (h : Holding _). OfJoined h h.kept) (sym out.1) mid) (λ goes. offers_keep number event (i + 1) more one.later one.mid to goes mid)

-- those that are not taken yet
first_keeps : {Own : Type 0} (from to : Holding Own) → KeptComeFirst from to → OfJoined from from.kept → OfJoined to to.kept
first_keeps from to first all =
    let stays : (e : ℕ) → is_in e to.tables ≡ is_in e from.tables = λ e. same_in (tables_behind first.taken from.tables) to.tables e (first.tables e) ∙ behind_in first.taken e from.tables in
    all_behind (λ m. is_in m.0 to.tables ≡ true) first.taken to.kept (subst (Of (joined_in to.tables)) first.kept (of_same (joined_in from.tables) (joined_in to.tables) from.kept stays all))

-- those that are taken
pub taken_joined : (joined : ℕ → Bool) (kept taken rest : List (ℕ × List ℕ)) → kept ≡ taken ++ rest → AllByRecursion (λ m. joined m.0 ≡ true) kept → AllByRecursion (λ m. joined m.0 ≡ true) taken
taken_joined joined kept taken rest is all = all_front (λ m. joined m.0 ≡ true) taken rest (subst (Of joined) is all)

-- each message that is kept is of a switch that is joined
abbrev pub KeepsOfJoined : {Own : Type 0} → Standing Own → Type 0
KeepsOfJoined at = OfJoined at.holding at.holding.kept

pub part_keeps : {Own : Type 0} (from to : Standing Own) → Part from to → KeepsOfJoined from → KeepsOfJoined to
part_keeps from to (inl batch) all = moves_keep ItemMove item_keeps batch.mid to.holding batch.items (first_keeps from.holding batch.mid batch.first all)
part_keeps from to (inr (inl gives)) all = offers_keep (from.events + 1) gives.event 0 from.apps to.apps (record from.holding { queue = gives.later }) to.holding gives.offers all
part_keeps from to (inr (inr starts)) all = still_keep from.holding to.holding starts.still all

pub goes_keeps : {Own : Type 0} (stops : List (Standing Own)) (from to : Standing Own) → Goes stops from to → KeepsOfJoined from → KeepsOfJoined to
goes_keeps [] from to goes all = subst KeepsOfJoined (sym goes) all
goes_keeps (mid ∷ more) from to goes all = goes_keeps more mid to goes.1 (part_keeps from mid goes.0 all)
