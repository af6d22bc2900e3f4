-- Laws of beats: they compose, and what they read of the acts.
use Rattle.std.specs.Prelude.{◌≡◌, ℕ, ◌==◌, true, List, [], ◌∷◌, ◌++◌, map, Result, refl}
use Rattle.std.proofs.Common.{◌∙◌, ap, subst, inl, inr}
use Rattle.std.proofs.lemmas.Bool.{eq-eqb}
use Rattle.of_types.specs.declared.journal.Act.{Act}
use Rattle.of_types.specs.declared.journal.Act.TheVariants.{Took}
use Rattle.of_types.specs.declared.journal.TookWhat.TheVariants as took
use Rattle.outside.specs.Seen.{Seen, Continues}
use Rattle.outside.specs.laws.SeenLaws.{Continues-refl, Continues-trans}
use Rattle.lego_model.specs.declared.fault.TxnFault.{TxnFault}
use Rattle.lego_model.specs.declared.fault.TxnFault.TheVariants.{NoMemory}
use Rattle.net_txn.specs.Net.{NetState}
use Rattle.net_txn.specs.Changes.{Changes}
use Rattle.app_frames.specs.declared.frame.Answer.{Answer}
use Rattle.app_visor.specs.declared.came.Came.{Came}
use Rattle.app_visor.specs.declared.came.Came.TheVariants as comes
use Rattle.app_visor.specs.Talks.{Wants}
use Rattle.app_visor.specs.Reads.{takes, TakesAll, Taken, CameSo, Comes, Breaks}
use Rattle.app_visor.specs.Beats.{Beat, Talk, Asks, Chain, acts_in, exchanges_in, Leads, Halts, Stops, Stays}

pub same : (n : ℕ) → (n == n) ≡ true
same n = eq-eqb n n refl

-- ---- Beats behind beats

pub Chain-append : {Own : Type 0} (Tells : Type 0) (app : ℕ) (xs ys : List (Beat Own)) (a b c : Seen Own) (m n o : NetState) → Chain Tells app xs a b m n → Chain Tells app ys b c n o → Chain Tells app (xs ++ ys) a c m o
Chain-append Tells app [] ys a b c m n o first second =
    subst (λ (s : Seen _). Chain Tells app ys s c m o) first.0 (subst (λ (k : NetState). Chain Tells app ys b c k o) first.1 second)
Chain-append Tells app (Talk act ∷ xs) ys a b c m n o first second =
    (first.0, (first.1.0, (first.1.1.0, Chain-append Tells app xs ys first.1.0 b c m n o first.1.1.1 second)))
Chain-append Tells app (Asks x ∷ xs) ys a b c m n o first second =
    (first.0, (first.1.0, Chain-append Tells app xs ys x.after b c x.now_net n o first.1.1 second))

pub Chain-continues : {Own : Type 0} (Tells : Type 0) (app : ℕ) (xs : List (Beat Own)) (a b : Seen Own) (m n : NetState) → Chain Tells app xs a b m n → Continues Tells a b
Chain-continues Tells app [] a b m n chain = rw chain.0 (Continues-refl Tells a)
Chain-continues Tells app (Talk act ∷ xs) a b m n chain =
    Continues-trans Tells a chain.1.0 b chain.1.1.0.continues (Chain-continues Tells app xs chain.1.0 b m n chain.1.1.1)
Chain-continues Tells app (Asks x ∷ xs) a b m n chain =
    Continues-trans Tells a x.after b (subst (λ (s : Seen _). Continues Tells s x.after) chain.0.0 chain.1.0.changes.continues) (Chain-continues Tells app xs x.after b x.now_net n chain.1.1)

-- ---- Pieces as beats

abbrev pub talks : (Own : Type 0) → List Act → List (Beat Own)
talks Own acts = map (λ act. Talk act) acts

pub takes_chain : {Own : Type 0} (Tells : Type 0) (app : ℕ) (ps : List (List ℕ)) (rest left : List ℕ) (old new : Seen Own) (net : NetState) → TakesAll Tells app ps rest left old new
    → Chain Tells app (talks Own (takes app ps)) old new net net
takes_chain Tells app [] rest left old new net all = (all.1, refl)
takes_chain Tells app (p ∷ ps) rest left old new net all = (same app, (all.1.0, (all.1.1.0, takes_chain Tells app ps (rest ++ p) left all.1.0 new net all.1.1.1)))

pub acts_talks : (Own : Type 0) (acts : List Act) (more : List (Beat Own)) → acts_in (talks Own acts ++ more) ≡ acts ++ acts_in more
acts_talks Own [] more = refl
acts_talks Own (act ∷ acts) more = ap (λ (x : List Act). act ∷ x) (acts_talks Own acts more)

pub exchanges_talks : (Own : Type 0) (acts : List Act) (more : List (Beat Own)) → exchanges_in (talks Own acts ++ more) ≡ exchanges_in more
exchanges_talks Own [] more = refl
exchanges_talks Own (act ∷ acts) more = exchanges_talks Own acts more

-- ---- Where beats lead

pub Leads-refl : {Own : Type 0} {Tells : Type 0} (app : ℕ) (seen : Seen Own) (net : NetState) → Leads Tells app seen seen net net
Leads-refl app seen net = record { trace = []; chain = (refl, refl) }

pub Leads-trans : {Own : Type 0} {Tells : Type 0} {app : ℕ} {a b c : Seen Own} {m n o : NetState} → Leads Tells app a b m n → Leads Tells app b c n o → Leads Tells app a c m o
Leads-trans {Tells = Tells} {app = app} {a = a} {b = b} {c = c} {m = m} {n = n} {o = o} first second =
    record { trace = first.trace ++ second.trace; chain = Chain-append Tells app first.trace second.trace a b c m n o first.chain second.chain }

pub Leads-continues : {Own : Type 0} {Tells : Type 0} {app : ℕ} {a b : Seen Own} {m n : NetState} → Leads Tells app a b m n → Continues Tells a b
Leads-continues {Tells = Tells} {app = app} {a = a} {b = b} {m = m} {n = n} leads = Chain-continues Tells app leads.trace a b m n leads.chain

pub leads_taken : {Own : Type 0} {Tells : Type 0} {app : ℕ} {rest left : List ℕ} {old new : Seen Own} (net : NetState) → Taken Tells app rest left old new → Leads Tells app old new net net
leads_taken {Own = Own} {Tells = Tells} {app = app} {rest = rest} {left = left} {old = old} {new = new} net taken =
    record { trace = talks Own (takes app taken.pieces); chain = takes_chain Tells app taken.pieces rest left old new net taken.all }

leads_came : {Own : Type 0} (Tells : Type 0) (app : ℕ) (came : Came) (rest left : List ℕ) (old new : Seen Own) (net : NetState) → CameSo Tells app came rest left old new → Leads Tells app old new net net
leads_came Tells app (comes.Frame frame) rest left old new net so = record { trace = []; chain = (so.1, refl) }
leads_came Tells app (comes.Refused fault) rest left old new net so = record { trace = []; chain = (so.1, refl) }
leads_came Tells app comes.Closed rest left old new net so = record { trace = Talk (Took app took.Closed) ∷ []; chain = (same app, (new, (so.1, (refl, refl)))) }
leads_came Tells app comes.Silent rest left old new net so = record { trace = Talk (Took app took.Silent) ∷ []; chain = (same app, (new, (so.1, (refl, refl)))) }

pub leads_comes : {Own : Type 0} {Tells : Type 0} {app : ℕ} {rest left : List ℕ} {old new : Seen Own} (came : Came) (net : NetState) → Comes Tells app rest left old new came → Leads Tells app old new net net
leads_comes {Tells = Tells} {app = app} {left = left} {new = new} came net comes =
    Leads-trans (leads_taken net comes.taken) (leads_came Tells app came comes.unread left comes.then_seen new net comes.came_is)

-- ---- A turn that stops

pub stops_then : {Own : Type 0} {Tells : Type 0} {app : ℕ} {old mid new : Seen Own} {net mid_net now_net : NetState} {fault : TxnFault} → Leads Tells app old mid net mid_net → Stops Tells app mid new mid_net now_net fault
    → Stops Tells app old new net now_net fault
stops_then leads stops = record { then_seen = stops.then_seen; then_net = stops.then_net; leads = Leads-trans leads stops.leads; halts = stops.halts }

pub stops_wanting : {Own : Type 0} {Tells : Type 0} {app : ℕ} {old mid new : Seen Own} {net now_net : NetState} → Leads Tells app old mid net now_net → Wants Tells mid new → Stops Tells app old new net now_net NoMemory
stops_wanting {mid = mid} {now_net = now_net} leads wants = record { then_seen = mid; then_net = now_net; leads = leads; halts = inl (refl, refl, wants) }

pub stops_breaking : {Own : Type 0} {Tells : Type 0} {app : ℕ} {rest : List ℕ} {old new : Seen Own} (net : NetState) → Breaks Tells app rest old new → Stops Tells app old new net net NoMemory
stops_breaking net breaks = stops_wanting (leads_taken net breaks.taken) breaks.wants

pub halts_continue : {Own : Type 0} (Tells : Type 0) (old new : Seen Own) (net now_net : NetState) (fault : TxnFault) → Halts Tells old new net now_net fault → Continues Tells old new
halts_continue Tells old new net now_net fault (inl h) = h.2.continues
halts_continue Tells old new net now_net fault (inr h) = h.1.1.continues

pub Stops-continues : {Own : Type 0} {Tells : Type 0} {app : ℕ} {old new : Seen Own} {net now_net : NetState} {fault : TxnFault} → Stops Tells app old new net now_net fault → Continues Tells old new
Stops-continues {Tells = Tells} {old = old} {new = new} {now_net = now_net} {fault = fault} stops =
    Continues-trans Tells old stops.then_seen new (Leads-continues stops.leads) (halts_continue Tells stops.then_seen new stops.then_net now_net fault stops.halts)

-- ---- What stays

Stays-refl : (net : NetState) → Stays net net
Stays-refl net = record { moment = refl; room = refl }

Stays-trans : (a b c : NetState) → Stays a b → Stays b c → Stays a c
Stays-trans a b c first second = record { moment = second.moment ∙ first.moment; room = second.room ∙ first.room }

stays_changed : {Own : Type 0} {Tells : Type 0} {d : ℕ} {bytes : List ℕ} {old new : Seen Own} {net now_net : NetState} {result : Result Answer TxnFault} → Changes Tells d bytes old new net now_net result → Stays net now_net
stays_changed changes = record { moment = changes.moment; room = changes.room }

Chain-stays : {Own : Type 0} (Tells : Type 0) (app : ℕ) (xs : List (Beat Own)) (a b : Seen Own) (m n : NetState) → Chain Tells app xs a b m n → Stays m n
Chain-stays Tells app [] a b m n chain = rw chain.1 (Stays-refl m)
Chain-stays Tells app (Talk act ∷ xs) a b m n chain = Chain-stays Tells app xs chain.1.0 b m n chain.1.1.1
Chain-stays Tells app (Asks x ∷ xs) a b m n chain =
    Stays-trans m x.now_net n (subst (λ (k : NetState). Stays k x.now_net) chain.0.1 (stays_changed chain.1.0.changes)) (Chain-stays Tells app xs x.after b x.now_net n chain.1.1)

pub Leads-stays : {Own : Type 0} {Tells : Type 0} {app : ℕ} {a b : Seen Own} {m n : NetState} → Leads Tells app a b m n → Stays m n
Leads-stays {Tells = Tells} {app = app} {a = a} {b = b} {m = m} {n = n} leads = Chain-stays Tells app leads.trace a b m n leads.chain

halts_stay : {Own : Type 0} (Tells : Type 0) (old new : Seen Own) (net now_net : NetState) (fault : TxnFault) → Halts Tells old new net now_net fault → Stays net now_net
halts_stay Tells old new net now_net fault (inl h) = rw h.1 (Stays-refl net)
halts_stay Tells old new net now_net fault (inr h) = stays_changed h.1.1

pub Stops-stays : {Own : Type 0} {Tells : Type 0} {app : ℕ} {old new : Seen Own} {net now_net : NetState} {fault : TxnFault} → Stops Tells app old new net now_net fault → Stays net now_net
Stops-stays {Tells = Tells} {new = new} {net = net} {now_net = now_net} {fault = fault} stops =
    Stays-trans net stops.then_net now_net (Leads-stays stops.leads) (halts_stay Tells stops.then_seen new stops.then_net now_net fault stops.halts)
