-- In a world that tells, a request of statistics that was answered reached its switch at once, and the answer is by what was got behind it.
use Rattle.std.specs.Prelude.{◌≡◌, ◌==◌, ℕ, suc, ◌^◌, ◌<◌, Bool, true, false, ◌&&◌, nat_le, List, [], ◌∷◌, ◌++◌, length, map, filter, if◌then◌else◌, slice_get, refl}
use Rattle.std.specs.List.{AllByRecursion, flat_map}
use Rattle.std.specs.Str.{bytes_eq}
use Rattle.std.proofs.Common.{sym, ap, ap₂, ◌∙◌, subst, append_assoc, arith, inl, inr}
use Rattle.std.proofs.Math.Bool.{and-false}
use Rattle.std.proofs.lemmas.Bool.{cases_Bool, eqb-true, eq-eqb}
use Rattle.std.proofs.lemmas.List.{append-nil}
use Rattle.std.proofs.lemmas.List.Elements.{filter-append, filter_map-append}
use Rattle.of_types.specs.Fields.{number_at}
use Rattle.of_types.specs.declared.journal.Act.{Act}
use Rattle.of_types.specs.declared.journal.Act.TheVariants.{Sent, Got}
use Rattle.of_wire.specs.declared.message.Message.TheVariants.{StatsRequest, BarrierRequest, BarrierReply}
use Rattle.of_wire.specs.Spelling.{message_bytes}
use Rattle.of_wire.specs.Grammar.{IsMessage}
use Rattle.of_wire.specs.laws.ReadingLaws.{reading_of-message_bytes}
use Rattle.app_frames.specs.declared.frame.Answer.{Answer}
use Rattle.outside.specs.Seen.{Seen, journal}
use Rattle.outside.specs.laws.SeenLaws.{journal-append}
use Rattle.lego_model.specs.AtOnce.{got_from, all_got}
use Rattle.lego_model.specs.Journal.{sends_change}
use Rattle.lego_model.specs.declared.wait.Awaited.{Awaited}
use Rattle.lego_model.specs.declared.wait.Heard.{Heard}
use Rattle.lego_model.specs.declared.wait.Heard.TheVariants.{Reply, Refused, Notice, Echo, Other}
use Rattle.lego_model.specs.BarrierWaits.{heard, is_reply, steps_by, heard_steps, wait_steps, kept_by, kept_of, reply_got, next_xid}
use Rattle.lego_model.specs.FlowQueries.{query_bytes, asked_from, is_about, parts_in, refusals_in, IsAnswerTo}
use Rattle.net_txn.specs.Asks.{Inquiry, inquiry_sent}
use Rattle.net_txn.specs.Queries.{GivesAnswer, AskedSince}
use Rattle.net_txn.specs.laws.HeardLaws.{IsMessage-barrier, next_xid-lt}
use Rattle.net_txn.specs.laws.NoticeLaws.{reply_kind}
use Rattle.net_txn.specs.laws.PacketHeardLaws.{none_awaited}
use Rattle.net_txn.specs.laws.ReachedLaws.{sends_by, wait_sends_none, last_at}
use Rattle.net_txn.specs.laws.WaitLaws.{of_switch}

-- ---- Which of the messages that were got answer: of those in the wait, those that it keeps

-- the messages about a request of one type
abbrev pub about_in : ℕ → ℕ → ℕ × List ℕ → List (List ℕ)
about_in xid kind m = if is_about xid kind m.1 then m.1 ∷ [] else []

both_false : (a b : Bool) → (a && (b && false)) ≡ false
both_false true true = refl
both_false true false = refl
both_false false b = refl

other_type : (xid kind n : ℕ) (bytes : List ℕ) → number_at 1 1 bytes ≡ n → (n == kind) ≡ false → is_about xid kind bytes ≡ false
unfolding is_about
other_type xid kind n bytes is other = rw (is, other) (both_false (nat_le 12 (length bytes)) (number_at 4 4 bytes == xid))

-- by its type, and whether it is the reply
heard_alone : (d xid : ℕ) (b : List ℕ) → is_reply (heard (asked_from d xid) b) ≡ false → heard (asked_from d xid) b ≡ (if number_at 1 1 b == 2 then Echo else Other)
unfolding heard
heard_alone d xid b before =
    elim (cases_Bool (bytes_eq b (message_bytes (next_xid xid) BarrierReply))) [
      | inl same ↦ absurd (true_is (rw same at before))
      | inr other ↦ rw (other, none_awaited d xid (number_at 4 4 b), and-false (number_at 1 1 b == 1), and-false (number_at 1 1 b == 11 && number_at 1 58 b == 2)) refl
    ]
  where
    true_is : true ≡ false → ⊥
    true_is e = cc

about_one : (d xid asked kind : ℕ) (b : List ℕ) → (2 == kind) ≡ false → is_reply (heard (asked_from d xid) b) ≡ false → flat_map (about_in asked kind) (kept_by d (heard (asked_from d xid) b) b) ≡ about_in asked kind (d, b)
about_one d xid asked kind b apart before =
    elim (cases_Bool (number_at 1 1 b == 2)) [
      | inl echo ↦
          let is : heard (asked_from d xid) b ≡ Echo = heard_alone d xid b before ∙ (rw echo refl) in
          rw (is, other_type asked kind 2 b (eqb-true _ _ echo) apart) refl
      | inr plain ↦
          let is : heard (asked_from d xid) b ≡ Other = heard_alone d xid b before ∙ (rw plain refl) in
          rw is (append-nil (about_in asked kind (d, b)))
    ]

flat_append : (f : ℕ × List ℕ → List (List ℕ)) (xs ys : List (ℕ × List ℕ)) → flat_map f (xs ++ ys) ≡ flat_map f xs ++ flat_map f ys
flat_append f [] ys = refl
flat_append f (x ∷ xs) ys = ap (λ (zs : List (List ℕ)). f x ++ zs) (flat_append f xs ys) ∙ sym (append_assoc (f x) (flat_map f xs) (flat_map f ys))

about_all : (d xid asked kind : ℕ) (got : List (List ℕ)) → (2 == kind) ≡ false → AllByRecursion (λ b. is_reply (heard (asked_from d xid) b) ≡ false) got
    → flat_map (about_in asked kind) (map (of_switch d) got) ≡ flat_map (about_in asked kind) (kept_of (asked_from d xid) got)
about_all d xid asked kind [] apart before = refl
about_all d xid asked kind (b ∷ bs) apart before =
    let a = asked_from d xid in
    ap₂ (λ (xs ys : List (List ℕ)). xs ++ ys) (sym (about_one d xid asked kind b apart before.0)) (about_all d xid asked kind bs apart before.1)
    ∙ sym (flat_append (about_in asked kind) (kept_by d (heard a b) b) (kept_of a bs))

-- ---- What the acts got

got_heard : (d : ℕ) (h : Heard) (b : List ℕ) → all_got d (Got d b ∷ journal (steps_by d h b)) ≡ (d, b) ∷ []
unfolding journal all_got
got_heard d Reply b = rw (eq-eqb d d refl) refl
got_heard d (Refused r) b = rw (eq-eqb d d refl) refl
got_heard d Notice b = rw (eq-eqb d d refl) refl
got_heard d Echo b = rw (eq-eqb d d refl) refl
got_heard d Other b = rw (eq-eqb d d refl) refl

got_waited : (a : Awaited) (got : List (List ℕ)) → all_got a.dpid (journal (wait_steps a got)) ≡ map (of_switch a.dpid) got
unfolding journal all_got
got_waited a [] = refl
got_waited a (b ∷ bs) =
    ap (all_got a.dpid) (journal-append (heard_steps a b) (wait_steps a bs)) ∙ filter_map-append (got_from a.dpid) (journal (heard_steps a b)) (journal (wait_steps a bs))
    ∙ ap₂ (λ (xs ys : List (ℕ × List ℕ)). xs ++ ys) (got_heard a.dpid (heard a b) b) (got_waited a bs)

module _ (d xid : ℕ) (got : List (List ℕ)) where
  behind_acts : List Act
  behind_acts = journal (wait_steps (asked_from d xid) got ++ reply_got (asked_from d xid) ∷ [])

  got_behind : all_got d behind_acts ≡ map (of_switch d) got ++ (d, message_bytes (next_xid xid) BarrierReply) ∷ []
  unfolding journal all_got behind_acts
  got_behind =
      let a = asked_from d xid in
      ap (all_got d) (journal-append (wait_steps a got) (reply_got a ∷ [])) ∙ filter_map-append (got_from d) (journal (wait_steps a got)) (Got d (message_bytes (next_xid xid) BarrierReply) ∷ [])
      ∙ ap₂ (λ (xs ys : List (ℕ × List ℕ)). xs ++ ys) (got_waited a got) last_got
    where
      last_got : all_got d (Got d (message_bytes (next_xid xid) BarrierReply) ∷ []) ≡ (d, message_bytes (next_xid xid) BarrierReply) ∷ []
      last_got = rw (eq-eqb d d refl) refl

  about_behind : (asked kind : ℕ) → (2 == kind) ≡ false → (19 == kind) ≡ false → AllByRecursion (λ b. is_reply (heard (asked_from d xid) b) ≡ false) got
      → flat_map (about_in asked kind) (all_got d behind_acts) ≡ flat_map (about_in asked kind) (kept_of (asked_from d xid) got)
  about_behind asked kind apart no_reply before =
      let reply = message_bytes (next_xid xid) BarrierReply in
      ap (flat_map (about_in asked kind)) got_behind ∙ flat_append (about_in asked kind) (map (of_switch d) got) ((d, reply) ∷ [])
      ∙ ap₂ (λ (xs ys : List (List ℕ)). xs ++ ys) (about_all d xid asked kind got apart before) (rw (other_type asked kind 19 reply (reply_kind (next_xid xid)) no_reply) refl)
      ∙ append-nil (flat_map (about_in asked kind) (kept_of (asked_from d xid) got))

-- ---- The whole

pub asked_since : {Own : Type 0} {Tells : Type 0} (i : Inquiry) (old new : Seen Own) (kept now_kept : List (ℕ × List ℕ)) (answer : Answer) → IsMessage (StatsRequest i.query) → i.xid < 2 ^ 32 → Tells → GivesAnswer Tells i old new kept now_kept answer
    → AskedSince i answer old.history new.history
unfolding journal all_got behind_acts
asked_since i old new kept now_kept answer message lt told gives =
    let d = i.dpid in
    let xid = i.xid in
    let a = asked_from d xid in
    let w = gives.answered.waits in
    let got = w.got in
    let inner = journal (wait_steps a got) in
    let behind = wait_steps a got ++ reply_got a ∷ [] in
    let reply = Got d (message_bytes (next_xid xid) BarrierReply) in
    let split : journal behind ≡ inner ++ reply ∷ [] = journal-append (wait_steps a got) (reply_got a ∷ []) in
    let query : sends_change (Sent d (query_bytes xid i.query)) ≡ false = sends_by d xid (StatsRequest i.query) _ (reading_of-message_bytes xid (StatsRequest i.query) lt message) in
    let barrier : sends_change (Sent d (message_bytes (next_xid xid) BarrierRequest)) ≡ false = sends_by d (next_xid xid) BarrierRequest _ (reading_of-message_bytes (next_xid xid) BarrierRequest (next_xid-lt xid lt) IsMessage-barrier) in
    let none : filter sends_change (journal behind) ≡ [] = ap (filter sends_change) split ∙ filter-append sends_change inner (reply ∷ []) ∙ ap (λ (acts : List Act). acts ++ []) (wait_sends_none a got w.hears.read) in
    let came : gives.came ≡ kept_of a got = w.hears.kept_is in
    let parts : parts_in xid (all_got d (journal behind)) ≡ parts_in xid gives.came = about_behind d xid got xid 17 refl refl w.hears.before_reply ∙ ap (parts_in xid) (sym came) in
    let refusals : refusals_in xid (all_got d (journal behind)) ≡ refusals_in xid gives.came = about_behind d xid got xid 1 refl refl w.hears.before_reply ∙ ap (refusals_in xid) (sym came) in
    record {
      steps = inquiry_sent i ++ behind;
      since = w.hears.told told;
      asks = record {
        xid = xid;
        barrier = next_xid xid;
        sent = 0;
        asked = 1;
        told = suc (suc (length inner));
        query_sent = refl;
        barrier_sent = refl;
        reply_got = ap (λ (acts : List Act). slice_get acts (length inner)) split ∙ last_at inner reply;
        in_order = (omega arith, omega arith);
        none_sent = rw (query, barrier, none) refl;
      };
      answers = subst (λ (ps : List (List ℕ)). IsAnswerTo i.query.kind (refusals_in xid (all_got d (journal behind))) ps answer) (sym parts)
          (subst (λ (rs : List (List ℕ)). IsAnswerTo i.query.kind rs (parts_in xid gives.came) answer) (sym refusals) gives.answers);
    }
