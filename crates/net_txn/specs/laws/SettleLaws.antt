-- Laws of doubtful notices: the request for the rows of a key, and what stays while it is answered.
use Rattle.std.specs.Prelude.{◌≡◌, ℕ, List, length, Option, Some, None, Bool, true, false, Result, Ok, Err, refl, IsSome, IsOk, IfErr}
use Rattle.std.proofs.Common.{subst, sym, inl, inr, arith}
use Rattle.of_types.specs.Layout.{Field, AreFields}
use Rattle.of_types.specs.laws.LayoutLaws.{length-spelled}
use Rattle.of_match.specs.declared.key.Key.{Key}
use Rattle.of_match.specs.Match.{fields_in}
use Rattle.of_match.specs.laws.FieldsLaws.{bytes_of-length}
use Rattle.of_wire.specs.declared.message.Message.TheVariants.{StatsRequest}
use Rattle.of_wire.specs.Spelling.{message_size}
use Rattle.of_wire.specs.Stats.{flow_query_fields}
use Rattle.of_wire.specs.Grammar.{IsMessage}
use Rattle.flow_table.specs.Refusals.{stats_refusal}
use Rattle.app_frames.specs.declared.frame.Answer.{Answer}
use Rattle.outside.specs.Seen.{Seen}
use Rattle.outside.specs.laws.SeenLaws.{Continues-refl}
use Rattle.lego_model.specs.declared.fault.TxnFault.{TxnFault}
use Rattle.lego_model.specs.declared.fault.TxnFault.TheVariants.{SwitchBroke, Diverged, Flooded, NoMemory}
use Rattle.net_txn.specs.Net.{NetState}
use Rattle.net_txn.specs.Views.{rows_at}
use Rattle.net_txn.specs.Asks.{IsAsked, Inquiry}
use Rattle.net_txn.specs.Arriving.{Arrives, IsArrivalCause}
use Rattle.net_txn.specs.Causes.{IsPlain}
use Rattle.of_wire.specs.Reading.{reading_of}
use Rattle.of_wire.specs.declared.message.Envelope.{Envelope}
use Rattle.app_frames.specs.declared.frame.Event.{Event}
use Rattle.net_txn.specs.Queries.{Queried}
use Rattle.net_txn.specs.Settling.{doubted_in, doubted, key_flows, key_query, key_inquiry, shows_gone, TakesIfGone, Settles, ArrivesOrSettles}
use Rattle.net_txn.specs.laws.FloodLaws.{both_ways}
use Rattle.net_txn.specs.laws.LinkStepLaws.{OnLinks-refl}
use Rattle.net_txn.specs.laws.LinkStrayLaws.{no_strays_none}
use Rattle.net_txn.specs.laws.OwnIdLaws.{ids_none}

-- ---- The request

abbrev query_fields : Key → List Field
query_fields k = flow_query_fields (record { matching = k.matching; table_id = 0xff; out_port = 0xffff })

query_fit : (k : Key) → AreFields (query_fields k)
query_fit k = (bytes_of-length (fields_in k.matching), (omega arith, (omega arith, tt)))

length-key_flows : (k : Key) → length (key_flows k) ≡ 44
unfolding key_flows
length-key_flows k = length-spelled (query_fields k) (query_fit k)

IsMessage-key_query : (k : Key) → IsMessage (StatsRequest (key_query k))
unfolding message_size
IsMessage-key_query k = record { fields = (omega arith, (omega arith, tt)); tail = tt; size = omega (arith, length-key_flows k) }

key_query_passed : (k : Key) → stats_refusal (key_query k) ≡ None
unfolding stats_refusal
key_query_passed k = rw (length-key_flows k) refl

pub IsAsked-key_query : (k : Key) → IsAsked (key_query k)
IsAsked-key_query k = record { message = IsMessage-key_query k; passed = key_query_passed k }

-- ---- What stays

-- where the entry is gone the switch was not lost
pub still_joined : {Own : Type 0} {Tells : Type 0} (i : Inquiry) (key : Key) (old new : Seen Own) (net now_net : NetState) (answer : Answer)
    → Queried Tells i old new net now_net (Ok answer) → shows_gone key answer ≡ true → IsSome (rows_at i.dpid net.views) → IsSome (rows_at i.dpid now_net.views)
still_joined i key old new net now_net answer q gone joined = elim q.queried [
  | inl asks ↦ subst (λ (n : NetState). IsSome (rows_at i.dpid n.views)) (sym asks.stays) joined
  | inr lost ↦ absurd cc (gone, lost.0)
]

-- memory may be wanting at any time, and then nothing is done
pub short_arrives : {Own : Type 0} (Tells : Type 0) (d : ℕ) (frame : List ℕ) (old : Seen Own) (net : NetState) → Arrives Tells d frame old old net net (Err NoMemory)
short_arrives Tells d frame old net = record {
  continues = Continues-refl Tells old;
  links = OnLinks-refl Tells old;
  no_strays = λ told keeps joined. no_strays_none old;
  ids = ids_none Tells 0 old net.xid net.xid refl;
  cause = tt;
  err = refl;
  losses = λ told. refl;
  read = tt;
}

pub short_settles : {Own : Type 0} (Tells : Type 0) (d : ℕ) (frame : List ℕ) (key : Option Key) (old : Seen Own) (net : NetState) → ArrivesOrSettles Tells d frame key old old net net (Err NoMemory)
short_settles Tells d frame None old net = short_arrives Tells d frame old net
short_settles Tells d frame (Some key) old net = inl (refl, refl, refl)

-- ---- Faults

-- a message that is one is no fault
pub plain_arrival : {Own : Type 0} (d : ℕ) (frame : List ℕ) (old new : Seen Own) (result : Result (Option Event) TxnFault) → IsOk (reading_of frame) → IfErr result (IsArrivalCause d frame old new) → IfErr result IsPlain
plain_arrival d frame old new (Ok event) read cause = tt
plain_arrival d frame old new (Err (SwitchBroke of bytes)) read cause = both_ways (reading_of frame) read cause.2
plain_arrival d frame old new (Err (Diverged of sent got)) read cause = cause
plain_arrival d frame old new (Err (Flooded of n)) read cause = cause
plain_arrival d frame old new (Err NoMemory) read cause = tt

-- ---- The whole, by the doubt

pub settles_plain : {Own : Type 0} {Tells : Type 0} (d : ℕ) (frame : List ℕ) (e : Envelope) (old new : Seen Own) (net now_net : NetState) (result : Result (Option Event) TxnFault)
    → reading_of frame ≡ Ok e → doubted_in d net.views e.message ≡ None → Arrives Tells d frame old new net now_net result → ArrivesOrSettles Tells d frame (doubted d net.views (reading_of frame)) old new net now_net result
settles_plain {Tells = Tells} d frame e old new net now_net result is none arrives =
    rw (is, none) arrives

pub settles_doubt : {Own : Type 0} {Tells : Type 0} (d : ℕ) (frame : List ℕ) (e : Envelope) (key : Key) (old new : Seen Own) (net now_net : NetState) (result : Result (Option Event) TxnFault)
    → reading_of frame ≡ Ok e → doubted_in d net.views e.message ≡ Some key → Settles Tells d frame key old new net now_net result → ArrivesOrSettles Tells d frame (doubted d net.views (reading_of frame)) old new net now_net result
settles_doubt {Tells = Tells} d frame e key old new net now_net result is some settles =
    rw (is, some) settles

-- ---- What is done behind an answer

module _ {Own : Type 0} {Tells : Type 0} (d : ℕ) (frame : List ℕ) (key : Key) (old mid : Seen Own) where
  pub settles_gone : (new : Seen Own) (net mid_net now_net : NetState) (answer : Answer) (result : Result (Option Event) TxnFault)
      → Queried Tells (key_inquiry d net.xid key) old mid net mid_net (Ok answer) → shows_gone key answer ≡ true → Arrives Tells d frame mid new mid_net now_net result → Settles Tells d frame key old new net now_net result
  settles_gone new net mid_net now_net answer result asked gone arrives =
      inr (inr (record { answer = answer; mid = mid; mid_net = mid_net; asked = asked; takes = inl (subst (λ (b : Bool). TakesIfGone Tells d frame b mid new mid_net now_net result) (sym gone) arrives) }))

  pub settles_standing : (net mid_net : NetState) (answer : Answer) → Queried Tells (key_inquiry d net.xid key) old mid net mid_net (Ok answer) → shows_gone key answer ≡ false → Settles Tells d frame key old mid net mid_net (Ok None)
  settles_standing net mid_net answer asked stands =
      inr (inr (record { answer = answer; mid = mid; mid_net = mid_net; asked = asked; takes = inl (subst (λ (b : Bool). TakesIfGone Tells d frame b mid mid mid_net mid_net (Ok None)) (sym stands) (refl, refl, refl)) }))

  pub settles_short : (net mid_net : NetState) (answer : Answer) → Queried Tells (key_inquiry d net.xid key) old mid net mid_net (Ok answer) → Settles Tells d frame key old mid net mid_net (Err NoMemory)
  settles_short net mid_net answer asked =
      inr (inr (record { answer = answer; mid = mid; mid_net = mid_net; asked = asked; takes = inr (refl, refl, refl) }))
