-- Laws of waits: one message more, the reply, a failure, and messages that are sent before.
use Rattle.std.specs.Prelude.{◌≡◌, ◌==◌, ◌||◌, ℕ, ◌+◌, ◌^◌, ◌<◌, ◌≤◌, Bool, true, false, if◌then◌else◌, List, [], ◌∷◌, ◌++◌, length, take, Option, Some, None, Result, Ok, Err, MatchResult, refl}
use Rattle.std.proofs.Common.{sym, ap, ◌∙◌, subst, append_assoc, length-append, arith, inl, inr}
use Rattle.std.specs.List.{AllByRecursion, list_any}
use Rattle.std.specs.Option.{is_some}
use Rattle.std.proofs.lemmas.Bool.{eqb-true}
use Rattle.std.proofs.lemmas.List.{append-nil, flat_map_more}
use Rattle.of_types.specs.Fields.{number_at}
use Rattle.of_match.specs.declared.key.Key.{Key}
use Rattle.outside.specs.Seen.{Seen}
use Rattle.lego_model.specs.declared.fault.TxnFault.{TxnFault}
use Rattle.net_txn.specs.declared.halt.Halt.{Halt}
use Rattle.net_txn.specs.declared.halt.Halt.TheVariants.{Lost, Fault}
use Rattle.lego_model.specs.declared.wait.Awaited.{Awaited}
use Rattle.lego_model.specs.declared.wait.Heard.{Heard}
use Rattle.lego_model.specs.declared.wait.Heard.TheVariants.{Reply, Echo}
use Rattle.lego_model.specs.BarrierWaits.{flood, heard, is_reply, kept_by, kept_of}
use Rattle.net_txn.specs.declared.queue.Storage.{Storage}
use Rattle.net_txn.specs.declared.queue.Storage.TheVariants.{Growing, Reserved}
use Rattle.net_txn.specs.declared.trouble.Trouble.{Trouble}
use Rattle.net_txn.specs.declared.trouble.Trouble.TheVariants as troubles
use Rattle.net_txn.specs.laws.MessageStoreLaws.{where_fit_then}
use Rattle.net_txn.specs.Waits.{Brought, nothing_brought, with_heard, IsRead}
use Rattle.net_txn.specs.laws.WaitLaws.{is_Reply, reply_is, answer_more, brings_none}
use Rattle.lego_model.specs.UndoFaults.{key_refused, key_sent}
use Rattle.net_txn.specs.laws.NoticeLaws.{reply_kind}
use Rattle.net_txn.specs.Said.{Said, Says, Hears, CannotSay, Calls, unsaid, unheard, IsOfLink, IsOfHearing, HearsMessage, KeptAs, said_by, heard_said, wait_said, IsUntreated, Treats, TreatsNot, PartsBehind, AreHeard, IsBreak, IsBreakBehind, is_parted, unrefused_by, refuses_any, IsParting, HearsAndParts, HearsNext, HearsNoMore, WaitsOn, GivesUp, PartsOrNot, is_of_switch, PartsOrFails, reply_heard, Replied, Unreplied, Breaks, Exchanges}
use Rattle.net_txn.specs.laws.SaidLaws.{all_two, Calls-none, Calls-then, Calls-same}

-- ---- Where messages are kept

pub kept_then : (storage : Storage) (ms ns kept mid now : List (ℕ × List ℕ)) → KeptAs storage kept ms mid → KeptAs storage mid ns now → KeptAs storage kept (ms ++ ns) now
kept_then Growing ms ns kept mid now first second = second ∙ ap (λ (k : List (ℕ × List ℕ)). k ++ ns) first ∙ append_assoc kept ms ns
kept_then Reserved ms ns kept mid now first second = where_fit_then ms ns kept mid now first second

kept_none : (storage : Storage) (kept now : List (ℕ × List ℕ)) → KeptAs storage kept [] now → now ≡ kept
kept_none Growing kept now is = is ∙ append-nil kept
kept_none Reserved kept now is = is

pub none_kept : (storage : Storage) (kept : List (ℕ × List ℕ)) → KeptAs storage kept [] kept
none_kept Growing kept = sym (append-nil kept)
none_kept Reserved kept = refl

-- ---- One message

-- the link failed, or the world's memory ran out
pub untreated_by : (storage : Storage) (h : Heard) (t : Trouble) → h ≡ Echo → IsOfLink t → IsUntreated storage h t
untreated_by storage h troubles.Link echo is = (tt, echo)
untreated_by storage h (troubles.Broke n) echo is = absurd is
untreated_by storage h (troubles.Refused k x n) echo is = absurd is
untreated_by storage h troubles.Flooded echo is = absurd is
untreated_by storage h troubles.Short echo is = (tt, echo)
untreated_by storage h troubles.Full echo is = absurd is
untreated_by storage h troubles.Parted echo is = absurd is

unheard_by : (a : Awaited) (sent : List (ℕ × Key)) (storage : Storage) (t : Trouble) (buf : List ℕ) → IsOfHearing t → IsBreak a sent storage 0 None t buf
unheard_by a sent storage troubles.Link buf is = tt
unheard_by a sent storage (troubles.Broke n) buf is = tt
unheard_by a sent storage (troubles.Refused k x n) buf is = absurd is
unheard_by a sent storage troubles.Flooded buf is = absurd is
unheard_by a sent storage troubles.Short buf is = tt
unheard_by a sent storage troubles.Full buf is = absurd is
unheard_by a sent storage troubles.Parted buf is = absurd is

untreated_breaks : (a : Awaited) (sent : List (ℕ × Key)) (storage : Storage) (bytes : List ℕ) (t : Trouble) (buf : List ℕ) → IsUntreated storage (heard a bytes) t → IsBreakBehind a sent storage bytes t buf
untreated_breaks a sent storage bytes troubles.Link buf is = is
untreated_breaks a sent storage bytes (troubles.Broke n) buf is = absurd is.0
untreated_breaks a sent storage bytes (troubles.Refused k x n) buf is = absurd is.0
untreated_breaks a sent storage bytes troubles.Flooded buf is = is
untreated_breaks a sent storage bytes troubles.Short buf is = is
untreated_breaks a sent storage bytes troubles.Full buf is = is
untreated_breaks a sent storage bytes troubles.Parted buf is = is

-- what a message is to the wait was done
pub treats_by : {Own : Type 0} {Tells : Type 0} {a : Awaited} {storage : Storage} {bytes : List ℕ} {old new : Seen Own} {kept now_kept : List (ℕ × List ℕ)} {answer now_answer : Brought} {ended : Bool} (h : Heard) → heard a bytes ≡ h → ended ≡ is_reply h
    → Calls Tells a.dpid (said_by a.dpid h bytes) old new → KeptAs storage kept (kept_by a.dpid h bytes) now_kept → now_answer ≡ with_heard a.notices h bytes answer → Treats Tells a storage bytes old new kept now_kept answer now_answer ended
treats_by {Tells = Tells} {a = a} {storage = storage} {bytes = bytes} {old = old} {new = new} {kept = kept} {now_kept = now_kept} {answer = answer} {now_answer = now_answer} h is ends calls kept_is answer_is = record {
  ends = ends ∙ ap is_reply (sym is);
  calls = subst (λ (x : Heard). Calls Tells a.dpid (said_by a.dpid x bytes) old new) (sym is) calls;
  kept_is = subst (λ (x : Heard). KeptAs storage kept (kept_by a.dpid x bytes) now_kept) (sym is) kept_is;
  answer_is = answer_is ∙ ap (λ (x : Heard). with_heard a.notices x bytes answer) (sym is);
}

-- no switch is parted with by a call that fails
hearing_unparted : (t : Trouble) → IsOfHearing t → is_parted t ≡ false
hearing_unparted troubles.Link is = refl
hearing_unparted (troubles.Broke n) is = refl
hearing_unparted (troubles.Refused k x n) is = absurd is
hearing_unparted troubles.Flooded is = absurd is
hearing_unparted troubles.Short is = refl
hearing_unparted troubles.Full is = absurd is
hearing_unparted troubles.Parted is = absurd is

untreated_unparted : (storage : Storage) (h : Heard) (t : Trouble) → IsUntreated storage h t → is_parted t ≡ false
untreated_unparted storage h troubles.Link is = refl
untreated_unparted storage h (troubles.Broke n) is = refl
untreated_unparted storage h (troubles.Refused k x n) is = refl
untreated_unparted storage h troubles.Flooded is = refl
untreated_unparted storage h troubles.Short is = refl
untreated_unparted storage h troubles.Full is = refl
untreated_unparted storage h troubles.Parted is = absurd is.0

-- none came
pub hears_none : {Own : Type 0} {Tells : Type 0} {a : Awaited} {old new : Seen Own} (storage : Storage) (sent : List (ℕ × Key)) (buf : List ℕ) (kept : List (ℕ × List ℕ)) (t : Trouble)
    → (IsOfHearing t × Calls Tells a.dpid (unheard a.dpid t buf) old new) → HearsNoMore Tells a storage sent old new kept kept buf t
hears_none {a = a} storage sent buf kept t h = inl (record { by = None; unparted = hearing_unparted t h.0; why = unheard_by a sent storage t buf h.0; calls = h.1; kept_is = refl })

-- one refused an inverse
pub hears_refusal : {Own : Type 0} {Tells : Type 0} {a : Awaited} {old new : Seen Own} {buf : List ℕ} {n : ℕ} (storage : Storage) (sent : List (ℕ × Key)) (kept : List (ℕ × List ℕ)) (key : Key) (xid : ℕ)
    → HearsMessage Tells a.dpid old new buf n → Some key ≡ key_refused sent (take n buf) → xid ≡ number_at 4 4 (take n buf) → HearsNoMore Tells a storage sent old new kept kept buf (troubles.Refused key xid n)
hears_refusal {buf = buf} {n = n} storage sent kept key xid h refused is = inl (record { by = Some (take n buf); unparted = refl; why = (h.read, (refl, sym refused, is)); calls = h.calls; kept_is = refl })

-- a message that refuses an inverse is an ERROR, and so no reply to a barrier
refusing_is_error : (sent : List (ℕ × Key)) (bytes : List ℕ) (key : Key) → Some key ≡ key_refused sent bytes → number_at 1 1 bytes ≡ 1
unfolding key_refused
refusing_is_error sent bytes key is = by (number_at 1 1 bytes == 1) refl is
  where
    by : (b : Bool) → (number_at 1 1 bytes == 1) ≡ b → Some key ≡ (if b then key_sent (number_at 4 4 bytes) sent else None) → number_at 1 1 bytes ≡ 1
    by true same is = eqb-true _ _ same
    by false same is = absurd cc

refusing_before : (a : Awaited) (sent : List (ℕ × Key)) (bytes : List ℕ) (key : Key) → Some key ≡ key_refused sent bytes → is_reply (heard a bytes) ≡ false
refusing_before a sent bytes key is = by (is_reply (heard a bytes)) refl
  where
    by : (b : Bool) → is_reply (heard a bytes) ≡ b → b ≡ false
    by false same = refl
    by true same = absurd (omega (arith, refusing_is_error sent bytes key is, ap (number_at 1 1) (reply_is a bytes same), reply_kind a.barrier))

-- it was treated, and its switch was parted with, or it was not
pub hears_parts : {Own : Type 0} {Tells : Type 0} {old mid : Seen Own} {buf : List ℕ} {n : ℕ} (a : Awaited) (new : Seen Own) (storage : Storage) (sent : List (ℕ × Key)) (kept now_kept : List (ℕ × List ℕ)) (t : Trouble) (key : Key)
    → HearsMessage Tells a.dpid old mid buf n → Some key ≡ key_refused sent (take n buf) → (now_buf : List ℕ) → PartsBehind Tells a storage (take n buf) mid new kept now_kept t
    → HearsNoMore Tells a storage sent old new kept now_kept now_buf t
hears_parts {buf = buf} {n = n} a new storage sent kept now_kept t key h refused now_buf (inl none) = inl (record {
  by = Some (take n buf);
  unparted = untreated_unparted storage (heard a (take n buf)) t none.why;
  why = (h.read, untreated_breaks a sent storage (take n buf) t now_buf none.why);
  calls = Calls-then h.calls none.calls;
  kept_is = none.kept_is;
})
hears_parts {buf = buf} {n = n} a new storage sent kept now_kept t key h refused now_buf (inr parts) = inr (record {
  bytes = take n buf;
  read = h.read;
  refuses = ap (λ (o : Option Key). is_some o) (sym refused);
  before_reply = refusing_before a sent (take n buf) key refused;
  kept_is = parts.kept_is;
  calls = Calls-then h.calls parts.calls;
  parted = parts.parted;
})

-- one was treated, or not
pub hears_then : {Own : Type 0} {Tells : Type 0} {old mid : Seen Own} {buf : List ℕ} {n : ℕ} (a : Awaited) (new : Seen Own) (storage : Storage) (sent : List (ℕ × Key)) (kept now_kept : List (ℕ × List ℕ)) (answer now_answer : Brought) (result : Result Bool Trouble)
    → HearsMessage Tells a.dpid old mid buf n → None ≡ key_refused sent (take n buf) → (now_buf : List ℕ)
    → MatchResult result (Treats Tells a storage (take n buf) mid new kept now_kept answer now_answer) (TreatsNot Tells a storage (take n buf) mid new kept now_kept)
    → MatchResult result (HearsNext Tells a storage sent old new kept now_kept answer now_answer) (HearsNoMore Tells a storage sent old new kept now_kept now_buf)
hears_then {buf = buf} {n = n} a new storage sent kept now_kept answer now_answer (Ok ended) h unrefused now_buf treated = record {
  bytes = take n buf;
  read = h.read;
  unrefused = sym unrefused;
  ends = treated.ends;
  kept_is = treated.kept_is;
  answer_is = treated.answer_is;
  calls = Calls-then h.calls treated.calls;
}
hears_then {buf = buf} {n = n} a new storage sent kept now_kept answer now_answer (Err t) h unrefused now_buf treated = inl (record {
  by = Some (take n buf);
  unparted = untreated_unparted storage (heard a (take n buf)) t treated.why;
  why = (h.read, untreated_breaks a sent storage (take n buf) t now_buf treated.why);
  calls = Calls-then h.calls treated.calls;
  kept_is = treated.kept_is;
})

-- ---- A wait

pub none_yet : {Own : Type 0} {Tells : Type 0} (a : Awaited) (storage : Storage) (sent : List (ℕ × Key)) (seen : Seen Own) (kept : List (ℕ × List ℕ)) → WaitsOn Tells a storage sent seen seen kept kept nothing_brought 0
none_yet {Tells = Tells} a storage sent seen kept = record {
  got = [];
  count = refl;
  before = record { read = tt; before_reply = tt; unrefused = tt };
  kept_is = none_kept storage kept;
  answer_is = refl;
  calls = Calls-none Tells a.dpid seen;
}

pub one_more : {Own : Type 0} {Tells : Type 0} {a : Awaited} {storage : Storage} {sent : List (ℕ × Key)} {old mid new : Seen Own} {kept kept1 kept2 : List (ℕ × List ℕ)} {answer1 answer2 : Brought} {n : ℕ}
    → WaitsOn Tells a storage sent old mid kept kept1 answer1 n → HearsNext Tells a storage sent mid new kept1 kept2 answer1 answer2 false → WaitsOn Tells a storage sent old new kept kept2 answer2 (n + 1)
one_more {a = a} {storage = storage} {sent = sent} {kept = kept} {kept1 = kept1} {kept2 = kept2} w h =
    let b = h.bytes in
    record {
      got = w.got ++ b ∷ [];
      count = omega (arith, w.count, length-append w.got (b ∷ []));
      before = record {
        read = all_two IsRead w.got (b ∷ []) w.before.read (h.read, tt);
        before_reply = all_two (λ x. is_reply (heard a x) ≡ false) w.got (b ∷ []) w.before.before_reply (sym h.ends, tt);
        unrefused = all_two (λ x. key_refused sent x ≡ None) w.got (b ∷ []) w.before.unrefused (h.unrefused, tt);
      };
      kept_is = subst (λ (ms : List (ℕ × List ℕ)). KeptAs storage kept ms kept2) (flat_map_more (λ x. kept_by a.dpid (heard a x) x) [] w.got b)
          (kept_then storage (kept_of a w.got) (kept_by a.dpid (heard a b) b) kept kept1 kept2 w.kept_is h.kept_is);
      answer_is = h.answer_is ∙ ap (with_heard a.notices (heard a b) b) w.answer_is ∙ sym (answer_more a w.got b);
      calls = Calls-same (flat_map_more (heard_said a) [] w.got b) (Calls-then w.calls h.calls);
    }

reply_said : (a : Awaited) (bytes : List ℕ) → is_reply (heard a bytes) ≡ true → heard_said a bytes ≡ reply_heard a ∷ []
reply_said a bytes is =
    let h : heard a bytes ≡ Reply = is_Reply (heard a bytes) is in
    rw h (ap (λ (b : List ℕ). Hears a.dpid b ∷ []) (reply_is a bytes is))

-- the reply came
pub replied : {Own : Type 0} {Tells : Type 0} {a : Awaited} {storage : Storage} {sent : List (ℕ × Key)} {old mid new : Seen Own} {kept kept1 kept2 : List (ℕ × List ℕ)} {answer1 answer2 : Brought} {n : ℕ}
    → WaitsOn Tells a storage sent old mid kept kept1 answer1 n → n ≤ 65535 → HearsNext Tells a storage sent mid new kept1 kept2 answer1 answer2 true → Replied Tells a [] storage sent old new kept kept2 answer2
replied {a = a} {storage = storage} {kept = kept} {kept1 = kept1} {kept2 = kept2} {answer1 = answer1} w few h =
    let b = h.bytes in
    let is : heard a b ≡ Reply = is_Reply (heard a b) (sym h.ends) in
    let kept_same : kept2 ≡ kept1 = kept_none storage kept1 kept2 (subst (λ (x : Heard). KeptAs storage kept1 (kept_by a.dpid x b) kept2) is h.kept_is) in
    record {
      got = w.got;
      few = omega (arith, w.count, few);
      before = w.before;
      kept_is = subst (λ (k : List (ℕ × List ℕ)). KeptAs storage kept (kept_of a w.got) k) (sym kept_same) w.kept_is;
      answer_is = h.answer_is ∙ ap (λ (x : Heard). with_heard a.notices x b answer1) is ∙ sym (brings_none answer1) ∙ w.answer_is;
      calls = Calls-then w.calls (Calls-same (reply_said a b (sym h.ends)) h.calls);
    }

later_break : (a : Awaited) (sent : List (ℕ × Key)) (storage : Storage) (n : ℕ) (by : Option (List ℕ)) (t : Trouble) (buf : List ℕ) → IsBreak a sent storage 0 by t buf → IsBreak a sent storage n by t buf
later_break a sent storage n (Some b) t buf why = why
later_break a sent storage n None troubles.Link buf why = tt
later_break a sent storage n None (troubles.Broke m) buf why = tt
later_break a sent storage n None (troubles.Refused k x m) buf why = absurd why
later_break a sent storage n None troubles.Flooded buf why = absurd (omega (arith, why))
later_break a sent storage n None troubles.Short buf why = tt
later_break a sent storage n None troubles.Full buf why = absurd why
later_break a sent storage n None troubles.Parted buf why = tt

-- of a switch that is not parted with, none of the messages refuses an inverse
minded : (a : Awaited) (sent : List (ℕ × Key)) (got : List (List ℕ)) (t : Trouble) → is_parted t ≡ false → AreHeard a sent got → AreHeard a (unrefused_by t sent) got
minded a sent got troubles.Link un h = h
minded a sent got (troubles.Broke n) un h = h
minded a sent got (troubles.Refused k x n) un h = h
minded a sent got troubles.Flooded un h = h
minded a sent got troubles.Short un h = h
minded a sent got troubles.Full un h = h
minded a sent got troubles.Parted un h = absurd cc

unparted_for : (sent : List (ℕ × Key)) (got : List (List ℕ)) (t : Trouble) → is_parted t ≡ false → IsParting t sent got
unparted_for sent got troubles.Link un = tt
unparted_for sent got (troubles.Broke n) un = tt
unparted_for sent got (troubles.Refused k x n) un = tt
unparted_for sent got troubles.Flooded un = tt
unparted_for sent got troubles.Short un = tt
unparted_for sent got troubles.Full un = tt
unparted_for sent got troubles.Parted un = absurd cc

-- where nothing was sent, nothing is refused
none_sent_refused : (bytes : List ℕ) → key_refused [] bytes ≡ None
unfolding key_refused
none_sent_refused bytes = by (number_at 1 1 bytes == 1)
  where
    by : (b : Bool) → (if b then key_sent (number_at 4 4 bytes) [] else None) ≡ None
    by true = refl
    by false = refl

none_refuse : (got : List (List ℕ)) → AllByRecursion (λ b. key_refused [] b ≡ None) got
none_refuse [] = tt
none_refuse (b ∷ bs) = (none_sent_refused b, none_refuse bs)

heard_anyway : (a : Awaited) (got : List (List ℕ)) → AllByRecursion IsRead got → AllByRecursion (λ b. is_reply (heard a b) ≡ false) got → AreHeard a [] got
heard_anyway a got read before = record { read = read; before_reply = before; unrefused = none_refuse got }

-- one of some messages refuses an inverse
any_behind : (p : List ℕ → Bool) (bs : List (List ℕ)) (b : List ℕ) → p b ≡ true → list_any p (bs ++ b ∷ []) ≡ true
any_behind p [] b is = rw is refl
any_behind p (x ∷ xs) b is = by (p x) (any_behind p xs b is)
  where
    by : (q : Bool) → list_any p (xs ++ b ∷ []) ≡ true → (q || list_any p (xs ++ b ∷ [])) ≡ true
    by true rest = refl
    by false rest = rest

-- one that refuses an inverse came, and the switch was parted with
parted_behind : {Own : Type 0} {Tells : Type 0} {a : Awaited} {storage : Storage} {sent : List (ℕ × Key)} {old mid new : Seen Own} {kept kept1 kept2 : List (ℕ × List ℕ)} {answer : Brought} {n : ℕ} (buf : List ℕ)
    → a.barrier < 2 ^ 32 → WaitsOn Tells a storage sent old mid kept kept1 answer n → HearsAndParts Tells a storage sent mid new kept1 kept2 troubles.Parted → Unreplied Tells a [] storage sent old new kept kept2 buf troubles.Parted
parted_behind {a = a} {storage = storage} {sent = sent} {kept = kept} {kept1 = kept1} {kept2 = kept2} buf small w h =
    let b = h.bytes in
    record {
      is_xid = small;
      got = w.got ++ b ∷ [];
      before = heard_anyway a (w.got ++ b ∷ []) (all_two IsRead w.got (b ∷ []) w.before.read (h.read, tt)) (all_two (λ x. is_reply (heard a x) ≡ false) w.got (b ∷ []) w.before.before_reply (h.before_reply, tt));
      parting = inr (any_behind (refuses_any sent) w.got b h.refuses);
      kept_is = subst (λ (ms : List (ℕ × List ℕ)). KeptAs storage kept ms kept2) (flat_map_more (λ x. kept_by a.dpid (heard a x) x) [] w.got b)
          (kept_then storage (kept_of a w.got) (kept_by a.dpid (heard a b) b) kept kept1 kept2 w.kept_is h.kept_is);
      by = None;
      why = tt;
      calls = Calls-same (sym (append_assoc (wait_said a w.got) (heard_said a b) (CannotSay a.dpid ∷ [])) ∙ ap (λ (s : List Said). s ++ CannotSay a.dpid ∷ []) (flat_map_more (heard_said a) [] w.got b)) (Calls-then w.calls h.calls);
    }

-- it failed
pub unreplied : {Own : Type 0} {Tells : Type 0} {a : Awaited} {storage : Storage} {sent : List (ℕ × Key)} {old mid new : Seen Own} {kept kept1 kept2 : List (ℕ × List ℕ)} {answer : Brought} {n : ℕ} {buf : List ℕ} {t : Trouble}
    → a.barrier < 2 ^ 32 → WaitsOn Tells a storage sent old mid kept kept1 answer n → HearsNoMore Tells a storage sent mid new kept1 kept2 buf t → Breaks Tells a [] storage sent old new kept kept2 buf t
unreplied {Tells = Tells} {a = a} {storage = storage} {sent = sent} {old = old} {mid = mid} {new = new} {kept = kept} {kept1 = kept1} {kept2 = kept2} {buf = buf} small w (inr h) =
    let parts = subst (λ (x : Trouble). HearsAndParts Tells a storage sent mid new kept1 kept2 x) h.parted h in
    inr (subst (λ (x : Trouble). Unreplied Tells a [] storage sent old new kept kept2 buf x) (sym h.parted) (parted_behind buf small w parts))
unreplied {a = a} {storage = storage} {sent = sent} {kept = kept} {buf = buf} {t = t} small w (inl h) = inr (record {
  is_xid = small;
  got = w.got;
  before = minded a sent w.got t h.unparted w.before;
  parting = unparted_for sent w.got t h.unparted;
  kept_is = subst (λ (k : List (ℕ × List ℕ)). KeptAs storage kept (kept_of a w.got) k) (sym h.kept_is) w.kept_is;
  by = h.by;
  why = later_break a sent storage (length w.got) h.by t buf h.why;
  calls = Calls-then w.calls h.calls;
})

-- too many messages came, and the wait was given up
flooded_by : {Own : Type 0} {Tells : Type 0} {a : Awaited} {storage : Storage} {sent : List (ℕ × Key)} {old new : Seen Own} {kept now_kept : List (ℕ × List ℕ)} {answer : Brought} {n : ℕ} (buf : List ℕ)
    → a.barrier < 2 ^ 32 → n ≡ flood → WaitsOn Tells a storage sent old new kept now_kept answer n → Unreplied Tells a [] storage sent old new kept now_kept buf troubles.Flooded
flooded_by {a = a} buf small many w = record {
  is_xid = small;
  got = w.got;
  before = w.before;
  parting = tt;
  kept_is = w.kept_is;
  by = None;
  why = w.count ∙ many;
  calls = Calls-same (sym (append-nil (wait_said a w.got))) w.calls;
}

-- and the switch was parted with
parted_by : {Own : Type 0} {Tells : Type 0} {a : Awaited} {storage : Storage} {sent : List (ℕ × Key)} {old mid new : Seen Own} {kept now_kept : List (ℕ × List ℕ)} {answer : Brought} {n : ℕ} (buf : List ℕ)
    → a.barrier < 2 ^ 32 → n ≡ flood → WaitsOn Tells a storage sent old mid kept now_kept answer n → Calls Tells a.dpid (CannotSay a.dpid ∷ []) mid new → Unreplied Tells a [] storage sent old new kept now_kept buf troubles.Parted
parted_by {a = a} buf small many w parts = record {
  is_xid = small;
  got = w.got;
  before = heard_anyway a w.got w.before.read w.before.before_reply;
  parting = inl (w.count ∙ many);
  kept_is = w.kept_is;
  by = None;
  why = tt;
  calls = Calls-then w.calls parts;
}

pub flooded : {Own : Type 0} {Tells : Type 0} {a : Awaited} {storage : Storage} {sent : List (ℕ × Key)} {old mid new : Seen Own} {kept now_kept : List (ℕ × List ℕ)} {answer : Brought} {n : ℕ} (buf : List ℕ) (t : Trouble)
    → a.barrier < 2 ^ 32 → n ≡ flood → WaitsOn Tells a storage sent old mid kept now_kept answer n → GivesUp Tells a.dpid mid new t → Breaks Tells a [] storage sent old new kept now_kept buf t
flooded {Tells = Tells} {a = a} {storage = storage} {sent = sent} {old = old} {mid = mid} {new = new} {kept = kept} {now_kept = now_kept} {answer = answer} {n = n} buf t small many w (inl gives) =
    let here = subst (λ (s : Seen _). WaitsOn Tells a storage sent old s kept now_kept answer n) (sym gives.1) w in
    inr (subst (λ (x : Trouble). Unreplied Tells a [] storage sent old new kept now_kept buf x) (sym gives.0) (flooded_by buf small many here))
flooded {Tells = Tells} {a = a} {storage = storage} {sent = sent} {old = old} {mid = mid} {new = new} {kept = kept} {now_kept = now_kept} buf t small many w (inr gives) =
    inr (subst (λ (x : Trouble). Unreplied Tells a [] storage sent old new kept now_kept buf x) (sym gives.0) (parted_by buf small many w gives.1))

-- ---- Messages before

-- the first one could not be sent
pub unsent : {Own : Type 0} {Tells : Type 0} {a : Awaited} {old new : Seen Own} (frames : List (List ℕ)) (storage : Storage) (sent : List (ℕ × Key)) (kept : List (ℕ × List ℕ)) (buf : List ℕ) (t : Trouble)
    → (IsOfLink t × Calls Tells a.dpid (unsaid a.dpid t) old new) → Breaks Tells a frames storage sent old new kept kept buf t
unsent frames storage sent kept buf t s = inl (record { first = []; rest = frames; frames_is = refl; why = s.0; calls = s.1; kept_is = refl })

pub replied_behind : {Own : Type 0} {Tells : Type 0} {a : Awaited} {frames : List (List ℕ)} {storage : Storage} {sent : List (ℕ × Key)} {old mid new : Seen Own} {kept now_kept : List (ℕ × List ℕ)} {answer : Brought} (frame : List ℕ)
    → Calls Tells a.dpid (Says a.dpid frame ∷ []) old mid → Replied Tells a frames storage sent mid new kept now_kept answer → Replied Tells a (frame ∷ frames) storage sent old new kept now_kept answer
replied_behind frame before r = record { got = r.got; few = r.few; before = r.before; kept_is = r.kept_is; answer_is = r.answer_is; calls = Calls-then before r.calls }

pub breaks_behind : {Own : Type 0} {Tells : Type 0} {a : Awaited} {frames : List (List ℕ)} {storage : Storage} {sent : List (ℕ × Key)} {old mid new : Seen Own} {kept now_kept : List (ℕ × List ℕ)} {buf : List ℕ} {t : Trouble} (frame : List ℕ)
    → Calls Tells a.dpid (Says a.dpid frame ∷ []) old mid → Breaks Tells a frames storage sent mid new kept now_kept buf t → Breaks Tells a (frame ∷ frames) storage sent old new kept now_kept buf t
breaks_behind frame before (inl u) = inl (record {
  first = frame ∷ u.first;
  rest = u.rest;
  frames_is = ap (λ (fs : List (List ℕ)). frame ∷ fs) u.frames_is;
  why = u.why;
  calls = Calls-then before u.calls;
  kept_is = u.kept_is;
})
breaks_behind frame before (inr u) = inr (record { is_xid = u.is_xid; got = u.got; before = u.before; parting = u.parting; kept_is = u.kept_is; by = u.by; why = u.why; calls = Calls-then before u.calls })

-- a message was sent before
pub behind : {Own : Type 0} {Tells : Type 0} {old mid : Seen Own} (a : Awaited) (frames : List (List ℕ)) (storage : Storage) (sent : List (ℕ × Key)) (new : Seen Own) (kept now_kept : List (ℕ × List ℕ)) (buf : List ℕ) (frame : List ℕ) (result : Result Brought Trouble)
    → Calls Tells a.dpid (Says a.dpid frame ∷ []) old mid → Exchanges Tells a frames storage sent mid new kept now_kept buf result → Exchanges Tells a (frame ∷ frames) storage sent old new kept now_kept buf result
behind a frames storage sent new kept now_kept buf frame (Ok answer) before e = replied_behind frame before e
behind a frames storage sent new kept now_kept buf frame (Err t) before e = breaks_behind frame before e

-- ---- A fault of the switch

-- the switch was parted with for it, or not
pub parts_or_fails : {Own : Type 0} {Tells : Type 0} {d : ℕ} {old new : Seen Own} (parted : Bool) (fault : TxnFault) (halt : Halt) → is_of_switch fault ≡ true → (parted ≡ true → halt ≡ Lost) → (parted ≡ false → halt ≡ Fault fault) → PartsOrNot Tells d old new parted
    → PartsOrFails Tells d fault old new halt
parts_or_fails true fault halt of lost fails parts = inr (of, lost refl, parts)
parts_or_fails false fault halt of lost fails same = inl (fails refl, same)
