-- Laws of what is told: each call adds what such a call of any world adds.
use Rattle.std.specs.Prelude.{◌≡◌, ◌==◌, ℕ, ◌-◌, ◌^◌, ◌<◌, ◌≤◌, ◌⊎◌, Bool, true, false, List, [], ◌∷◌, ◌++◌, length, take, Result, Ok, Err, IsErr, IsErrOf, IfOk, if◌then◌else◌, refl}
use Rattle.std.proofs.Common.{sym, ap, ◌∙◌, subst, inl, inr, arith}
use Rattle.std.proofs.lemmas.Bool.{eq-eqb, false≢true}
use Rattle.lego_io.specs.Count.{raised, Rose, NeverFell}
use Rattle.lego_io.specs.laws.CountLaws.{Rose-raised}
use Rattle.outside.specs.declared.faults.Short.{Short}
use Rattle.outside.specs.declared.faults.OpenFault.{OpenFault}
use Rattle.outside.specs.declared.faults.OpenFault.TheVariants as opening
use Rattle.outside.specs.declared.faults.NextFault.{NextFault}
use Rattle.outside.specs.declared.faults.NextFault.TheVariants as coming
use Rattle.outside.specs.declared.faults.StartFault.{StartFault}
use Rattle.outside.specs.declared.faults.StartFault.TheVariants as starting
use Rattle.outside.specs.declared.faults.GiveFault.{GiveFault}
use Rattle.outside.specs.declared.faults.GiveFault.TheVariants as giving
use Rattle.outside.specs.declared.faults.LinkFault.{LinkFault}
use Rattle.outside.specs.declared.faults.LinkFault.TheVariants as linking
use Rattle.outside.specs.declared.item.Item.{Item}
use Rattle.outside.specs.declared.item.Item.TheVariants as items
use Rattle.outside.specs.declared.item.Taken.{Taken}
use Rattle.outside.specs.declared.item.Taken.TheVariants as taking
use Rattle.outside.specs.declared.step.WorldStep.{WorldStep}
use Rattle.outside.specs.declared.step.WorldStep.TheVariants.{Acted, From, Joined, Left, Moment, Idle, End, NextFailed}
use Rattle.of_types.specs.declared.journal.Act.TheVariants.{Stim, Sent, Got}
use Rattle.of_types.specs.declared.journal.WorldStim.TheVariants.{Join, Leave, At}
use Rattle.of_types.specs.Membership.{is_among}
use Rattle.std.specs.List.{list_any}
use Rattle.flow_table.specs.Switch.{Declared}
use Rattle.outside.specs.laws.LinkKeptLaws.{steps-declared}
use Rattle.outside.specs.Seen.{Seen, Counts, IfShown, NoneFell, raised_at, with_short, with_short_of, with_link_fault}
use Rattle.outside.specs.State.{state, at_first, after_act, after_step, after_steps, switch_of, is_running, is_joined}
use Rattle.outside.specs.Calls.{unsent, unreceived, item_step, start_steps, give_steps, take_steps, end_steps, Opens, open_steps, Nexts, next_steps, IsItemIn, Starts, Gives, Takes, IsTakenIn, Ends, Sends, send_steps, Receives, receive_steps, IsMessageIn}
use Rattle.outside.specs.laws.SeenLaws.{NoneFell-refl, NoneFell-trans}
use Rattle.outside.specs.laws.StateLaws.{state-append}
use Rattle.telling_world.specs.Story.{Trouble}
use Rattle.telling_world.specs.Story.Trouble.{Shut, NextFailed as Untellable, NotStarted, Closing, Silence, Wanting, ShortOf, Failing}
use Rattle.telling_world.specs.Story.{StoryData, PassesItem, PassesMessage, HoldsItem, HoldsTaken, Lists, ListsAsTold, ListsAsLost, AreJoined, told_given, untold, told_more, counted, counts_of, seen_of, opened, came, started, gave, took, ended, sent, received, begun_by, open_troubles, next_troubles, start_troubles, give_troubles, take_troubles, link_troubles}
use Rattle.telling_world.specs.laws.JoinedLaws.{Moves, AllStay, goes-moved, goes-stayed, has_link, numbered_at, declared_first, none_first, sent_stays, got_stays, from_stays, idle_stays, end_stays, failed_stays, unsent_moves, unreceived_moves, join_moves, leave_moves, moment_stays}

-- ---- A count that is kept in 64 bits

-- each count is
pub record AreKept (c : Counts) : Type 0 where
  pub shuts : c.shuts ≤ 2 ^ 64 - 1
  pub next_faults : c.next_faults ≤ 2 ^ 64 - 1
  pub starts_failed : c.starts_failed ≤ 2 ^ 64 - 1
  pub closings : c.closings ≤ 2 ^ 64 - 1
  pub silences : c.silences ≤ 2 ^ 64 - 1
  pub link_faults : (d : ℕ) → c.link_faults d ≤ 2 ^ 64 - 1
  pub shorts : c.shorts ≤ 2 ^ 64 - 1
  pub shorts_of : (d : ℕ) → c.shorts_of d ≤ 2 ^ 64 - 1

pub record Risen (old new : ℕ) : Type 0 where
  pub rose : Rose old new
  pub never_fell : NeverFell old new
  pub kept : new ≤ 2 ^ 64 - 1

raised_risen : (n : ℕ) → n ≤ 2 ^ 64 - 1 → Risen n (raised n)
raised_risen n kept = record { rose = Rose-raised n (omega (arith, kept)); never_fell = omega (arith, kept); kept = omega arith }

at_risen : (d : ℕ) (counts : ℕ → ℕ) → ((e : ℕ) → counts e ≤ 2 ^ 64 - 1) → Rose (counts d) (raised_at d counts d)
at_risen d counts kept = rw (eq-eqb d d refl) (raised_risen (counts d) (kept d)).rose

at_fell : (d : ℕ) (counts : ℕ → ℕ) → ((e : ℕ) → counts e ≤ 2 ^ 64 - 1) → (e : ℕ) → NeverFell (counts e) (raised_at d counts e)
at_fell d counts kept e = by (e == d)
  where
    by : (here : Bool) → NeverFell (counts e) (if here then raised (counts e) else counts e)
    by true = (raised_risen (counts e) (kept e)).never_fell
    by false = omega arith

at_kept : (d : ℕ) (counts : ℕ → ℕ) → ((e : ℕ) → counts e ≤ 2 ^ 64 - 1) → (e : ℕ) → raised_at d counts e ≤ 2 ^ 64 - 1
at_kept d counts kept e = by (e == d)
  where
    by : (here : Bool) → (if here then raised (counts e) else counts e) ≤ 2 ^ 64 - 1
    by true = (raised_risen (counts e) (kept e)).kept
    by false = kept e

-- ---- All counts

-- none fell, and each is kept in 64 bits
pub record Grown (old new : Counts) : Type 0 where
  pub fell : NoneFell old new
  pub kept : AreKept new

grown_shut : (c : Counts) → AreKept c → Grown c (record c { shuts = raised c.shuts })
grown_shut c k = record {
  fell = record { shuts = (raised_risen c.shuts k.shuts).never_fell; next_faults = omega arith; starts_failed = omega arith; closings = omega arith; silences = omega arith; link_faults = λ e. omega arith; shorts = omega arith; shorts_of = λ e. omega arith; strays = omega arith };
  kept = record { shuts = (raised_risen c.shuts k.shuts).kept; next_faults = k.next_faults; starts_failed = k.starts_failed; closings = k.closings; silences = k.silences; link_faults = k.link_faults; shorts = k.shorts; shorts_of = k.shorts_of };
}

grown_next : (c : Counts) → AreKept c → Grown c (record c { next_faults = raised c.next_faults })
grown_next c k = record {
  fell = record { shuts = omega arith; next_faults = (raised_risen c.next_faults k.next_faults).never_fell; starts_failed = omega arith; closings = omega arith; silences = omega arith; link_faults = λ e. omega arith; shorts = omega arith; shorts_of = λ e. omega arith; strays = omega arith };
  kept = record { shuts = k.shuts; next_faults = (raised_risen c.next_faults k.next_faults).kept; starts_failed = k.starts_failed; closings = k.closings; silences = k.silences; link_faults = k.link_faults; shorts = k.shorts; shorts_of = k.shorts_of };
}

grown_start : (c : Counts) → AreKept c → Grown c (record c { starts_failed = raised c.starts_failed })
grown_start c k = record {
  fell = record { shuts = omega arith; next_faults = omega arith; starts_failed = (raised_risen c.starts_failed k.starts_failed).never_fell; closings = omega arith; silences = omega arith; link_faults = λ e. omega arith; shorts = omega arith; shorts_of = λ e. omega arith; strays = omega arith };
  kept = record { shuts = k.shuts; next_faults = k.next_faults; starts_failed = (raised_risen c.starts_failed k.starts_failed).kept; closings = k.closings; silences = k.silences; link_faults = k.link_faults; shorts = k.shorts; shorts_of = k.shorts_of };
}

grown_closing : (c : Counts) → AreKept c → Grown c (record c { closings = raised c.closings })
grown_closing c k = record {
  fell = record { shuts = omega arith; next_faults = omega arith; starts_failed = omega arith; closings = (raised_risen c.closings k.closings).never_fell; silences = omega arith; link_faults = λ e. omega arith; shorts = omega arith; shorts_of = λ e. omega arith; strays = omega arith };
  kept = record { shuts = k.shuts; next_faults = k.next_faults; starts_failed = k.starts_failed; closings = (raised_risen c.closings k.closings).kept; silences = k.silences; link_faults = k.link_faults; shorts = k.shorts; shorts_of = k.shorts_of };
}

grown_silence : (c : Counts) → AreKept c → Grown c (record c { silences = raised c.silences })
grown_silence c k = record {
  fell = record { shuts = omega arith; next_faults = omega arith; starts_failed = omega arith; closings = omega arith; silences = (raised_risen c.silences k.silences).never_fell; link_faults = λ e. omega arith; shorts = omega arith; shorts_of = λ e. omega arith; strays = omega arith };
  kept = record { shuts = k.shuts; next_faults = k.next_faults; starts_failed = k.starts_failed; closings = k.closings; silences = (raised_risen c.silences k.silences).kept; link_faults = k.link_faults; shorts = k.shorts; shorts_of = k.shorts_of };
}

grown_short : (c : Counts) → AreKept c → Grown c (with_short c)
grown_short c k = record {
  fell = record { shuts = omega arith; next_faults = omega arith; starts_failed = omega arith; closings = omega arith; silences = omega arith; link_faults = λ e. omega arith; shorts = (raised_risen c.shorts k.shorts).never_fell; shorts_of = λ e. omega arith; strays = omega arith };
  kept = record { shuts = k.shuts; next_faults = k.next_faults; starts_failed = k.starts_failed; closings = k.closings; silences = k.silences; link_faults = k.link_faults; shorts = (raised_risen c.shorts k.shorts).kept; shorts_of = k.shorts_of };
}

grown_short_of : (d : ℕ) (c : Counts) → AreKept c → Grown c (with_short_of d c)
grown_short_of d c k = record {
  fell = record { shuts = omega arith; next_faults = omega arith; starts_failed = omega arith; closings = omega arith; silences = omega arith; link_faults = λ e. omega arith; shorts = (raised_risen c.shorts k.shorts).never_fell; shorts_of = at_fell d c.shorts_of k.shorts_of; strays = omega arith };
  kept = record { shuts = k.shuts; next_faults = k.next_faults; starts_failed = k.starts_failed; closings = k.closings; silences = k.silences; link_faults = k.link_faults; shorts = (raised_risen c.shorts k.shorts).kept; shorts_of = at_kept d c.shorts_of k.shorts_of };
}

grown_fault : (d : ℕ) (c : Counts) → AreKept c → Grown c (with_link_fault d c)
grown_fault d c k = record {
  fell = record { shuts = omega arith; next_faults = omega arith; starts_failed = omega arith; closings = omega arith; silences = omega arith; link_faults = at_fell d c.link_faults k.link_faults; shorts = omega arith; shorts_of = λ e. omega arith; strays = omega arith };
  kept = record { shuts = k.shuts; next_faults = k.next_faults; starts_failed = k.starts_failed; closings = k.closings; silences = k.silences; link_faults = at_kept d c.link_faults k.link_faults; shorts = k.shorts; shorts_of = k.shorts_of };
}

counted_grown : (x : Trouble) (c : Counts) → AreKept c → Grown c (counted x c)
unfolding counted
counted_grown Shut c k = grown_shut c k
counted_grown Untellable c k = grown_next c k
counted_grown NotStarted c k = grown_start c k
counted_grown Closing c k = grown_closing c k
counted_grown Silence c k = grown_silence c k
counted_grown Wanting c k = grown_short c k
counted_grown (ShortOf d) c k = grown_short_of d c k
counted_grown (Failing d) c k = grown_fault d c k

are_kept : (xs : List Trouble) → AreKept (counts_of xs)
unfolding counts_of
are_kept [] = record { shuts = omega arith; next_faults = omega arith; starts_failed = omega arith; closings = omega arith; silences = omega arith; link_faults = λ d. omega arith; shorts = omega arith; shorts_of = λ d. omega arith }
are_kept (x ∷ xs) = (counted_grown x (counts_of xs) (are_kept xs)).kept

none_fell : (xs ys : List Trouble) → NoneFell (counts_of ys) (counts_of (xs ++ ys))
unfolding counts_of
none_fell [] ys = NoneFell-refl (counts_of ys)
none_fell (x ∷ xs) ys = NoneFell-trans (counts_of ys) (counts_of (xs ++ ys)) (counted x (counts_of (xs ++ ys))) (none_fell xs ys) (counted_grown x (counts_of (xs ++ ys)) (are_kept (xs ++ ys))).fell

-- ---- One thing that went wrong

shut_rose : (ys : List Trouble) → Rose (counts_of ys).shuts (counts_of (Shut ∷ ys)).shuts
unfolding counts_of counted
shut_rose ys = (raised_risen _ (are_kept ys).shuts).rose

next_rose : (ys : List Trouble) → Rose (counts_of ys).next_faults (counts_of (Untellable ∷ ys)).next_faults
unfolding counts_of counted
next_rose ys = (raised_risen _ (are_kept ys).next_faults).rose

start_rose : (ys : List Trouble) → Rose (counts_of ys).starts_failed (counts_of (NotStarted ∷ ys)).starts_failed
unfolding counts_of counted
start_rose ys = (raised_risen _ (are_kept ys).starts_failed).rose

closing_rose : (ys : List Trouble) → Rose (counts_of ys).closings (counts_of (Closing ∷ ys)).closings
unfolding counts_of counted
closing_rose ys = (raised_risen _ (are_kept ys).closings).rose

silence_rose : (ys : List Trouble) → Rose (counts_of ys).silences (counts_of (Silence ∷ ys)).silences
unfolding counts_of counted
silence_rose ys = (raised_risen _ (are_kept ys).silences).rose

short_rose : (ys : List Trouble) → Rose (counts_of ys).shorts (counts_of (Wanting ∷ ys)).shorts
unfolding counts_of counted
short_rose ys = (raised_risen _ (are_kept ys).shorts).rose

short_rose_for : (d : ℕ) (ys : List Trouble) → Rose (counts_of ys).shorts (counts_of (ShortOf d ∷ ys)).shorts
unfolding counts_of counted
short_rose_for d ys = (raised_risen _ (are_kept ys).shorts).rose

short_rose_of : (d : ℕ) (ys : List Trouble) → Rose ((counts_of ys).shorts_of d) ((counts_of (ShortOf d ∷ ys)).shorts_of d)
unfolding counts_of counted
short_rose_of d ys = at_risen d _ (are_kept ys).shorts_of

fault_rose : (d : ℕ) (ys : List Trouble) → Rose ((counts_of ys).link_faults d) ((counts_of (Failing d ∷ ys)).link_faults d)
unfolding counts_of counted
fault_rose d ys = at_risen d _ (are_kept ys).link_faults

-- ---- It shows nothing

pub unshown : (story : StoryData) → (seen_of story).given.shows ≡ false
unfolding seen_of told_given
unshown story = refl

hidden : {A : Type 0} (story : StoryData) → IfShown (seen_of story) A
hidden story shown = absurd (false≢true (sym (unshown story) ∙ shown))

-- ---- Steps more

state_more : (steps : List WorldStep) (troubles : List Trouble) (story : StoryData) → state (seen_of (told_more steps troubles story)) ≡ after_steps steps (state (seen_of story))
unfolding seen_of
state_more steps troubles story = state-append (seen_of story) (seen_of (told_more steps troubles story)) steps refl refl

story_moved : (d : ℕ) (here : Bool) (listed after : List ℕ) (steps : List WorldStep) (troubles : List Trouble) (story : StoryData) → AreJoined listed story
    → Moves d here (state (seen_of story)) (after_steps steps (state (seen_of story))) → Lists d here listed after → AreJoined after (told_more steps troubles story)
story_moved d here listed after steps troubles story are moves lists e few =
    ap (is_joined e) (state_more steps troubles story) ∙ goes-moved (2 ^ 64) d here listed after (state (seen_of story)) (after_steps steps (state (seen_of story))) are moves lists e few

story_stayed : (listed : List ℕ) (steps : List WorldStep) (troubles : List Trouble) (story : StoryData) → AreJoined listed story
    → AllStay (state (seen_of story)) (after_steps steps (state (seen_of story))) → AreJoined listed (told_more steps troubles story)
story_stayed listed steps troubles story are stay e few =
    ap (is_joined e) (state_more steps troubles story) ∙ goes-stayed (2 ^ 64) listed (state (seen_of story)) (after_steps steps (state (seen_of story))) are stay e few

-- ---- open

pub opened_story : {T : Type 0} (listed : List ℕ) (answer : Result T OpenFault) (story : StoryData) → AreJoined listed story → AreJoined listed (opened answer story)
unfolding opened open_steps after_step switch_of
opened_story listed answer story are = story_stayed listed (open_steps answer) (open_troubles answer) story are (stays answer)
  where
    stays : {T : Type 0} (answer : Result T OpenFault) → AllStay (state (seen_of story)) (after_steps (open_steps answer) (state (seen_of story)))
    stays (Ok x) e = refl
    stays (Err opening.Shut) e = refl
    stays (Err opening.Short) e = refl

pub opened_so : {T : Type 0} (answer : Result T OpenFault) (story : StoryData) → Opens (Unit {0}) (seen_of story) (seen_of (opened answer story)) answer
unfolding opened seen_of
opened_so answer story = record {
  given = refl;
  none_fell = none_fell (open_troubles answer) story.troubles;
  shut = shut answer;
  short = short answer;
  told = λ told. record { history = refl; counts = hidden story; out_of_place = hidden story };
}
  where
    shut : {T : Type 0} (answer : Result T OpenFault) → IsErrOf answer opening.Shut → Rose (counts_of story.troubles).shuts (counts_of (open_troubles answer ++ story.troubles)).shuts
    shut (Ok x) so = absurd cc
    shut (Err opening.Shut) so = shut_rose story.troubles
    shut (Err opening.Short) so = absurd cc

    short : {T : Type 0} (answer : Result T OpenFault) → IsErrOf answer opening.Short → Rose (counts_of story.troubles).shorts (counts_of (open_troubles answer ++ story.troubles)).shorts
    short (Ok x) so = absurd cc
    short (Err opening.Shut) so = absurd cc
    short (Err opening.Short) so = short_rose story.troubles

-- ---- next

item_so : (Tells : Type 0) (answer : Result Item NextFault) (buf : List ℕ) → IfOk answer (λ item. IsItemIn Tells item buf) → IfOk answer (λ item. IsItemIn (Unit {0}) item buf)
item_so Tells (Ok (items.From d n)) buf in_buf = record { within = in_buf.within; at_most = in_buf.at_most; framed = λ none. absurd (none tt) }
item_so Tells (Ok (items.Joined d n)) buf in_buf = in_buf
item_so Tells (Ok (items.Left d)) buf in_buf = in_buf
item_so Tells (Ok (items.Moment t)) buf in_buf = in_buf
item_so Tells (Ok items.Idle) buf in_buf = in_buf
item_so Tells (Ok items.End) buf in_buf = in_buf
item_so Tells (Err fault) buf in_buf = in_buf

pub came_so : (Tells : Type 0) (answer : Result Item NextFault) (buf : List ℕ) (story : StoryData) → IfOk answer (λ item. IsItemIn Tells item buf)
    → Nexts (Unit {0}) (seen_of story) (seen_of (came answer buf story)) answer buf
unfolding came seen_of
came_so Tells answer buf story in_buf = record {
  given = refl;
  none_fell = none_fell (next_troubles answer) story.troubles;
  item = item_so Tells answer buf in_buf;
  failed = failed answer;
  short = short answer;
  told = λ told. record { begun = begun_by answer; to_come = hidden story; history = refl; counts = hidden story; idle = hidden story; over = hidden story };
}
  where
    failed : (answer : Result Item NextFault) → IsErrOf answer coming.Failed → Rose (counts_of story.troubles).next_faults (counts_of (next_troubles answer ++ story.troubles)).next_faults
    failed (Ok x) so = absurd cc
    failed (Err coming.Failed) so = next_rose story.troubles
    failed (Err coming.Short) so = absurd cc

    short : (answer : Result Item NextFault) → IsErrOf answer coming.Short → Rose (counts_of story.troubles).shorts (counts_of (next_troubles answer ++ story.troubles)).shorts
    short (Ok x) so = absurd cc
    short (Err coming.Failed) so = absurd cc
    short (Err coming.Short) so = short_rose story.troubles

-- any switch may come
may_come : (story : StoryData) (d : ℕ) → d < 2 ^ 64 → has_link d (state (seen_of story)).links ≡ true
unfolding state at_first seen_of told_given
may_come story d few =
    ap (λ (ds : List Declared). list_any (λ x. x.dpid == d) ds) (steps-declared story.history (at_first told_given) ∙ declared_first told_given.fails told_given.declared) ∙ numbered_at (2 ^ 64) d few

pub came_story : (listed after : List ℕ) (answer : Result Item NextFault) (buf : List ℕ) (story : StoryData) → AreJoined listed story → ListsAsTold answer listed after → AreJoined after (came answer buf story)
unfolding came next_steps item_step
came_story listed after (Ok (items.From d n)) buf story are lists =
    subst (λ (xs : List ℕ). AreJoined xs (came (Ok (items.From d n)) buf story)) (sym lists) (story_stayed listed (From d (take n buf) ∷ []) [] story are (from_stays d (take n buf) (state (seen_of story))))
came_story listed after (Ok (items.Joined d n)) buf story are lists =
    story_moved d true listed after (Acted (Stim (Join d)) ∷ Joined d (take n buf) ∷ []) [] story are (join_moves d (take n buf) (state (seen_of story)) (may_come story d lists.0)) lists.1
came_story listed after (Ok (items.Left d)) buf story are lists =
    story_moved d false listed after (Acted (Stim (Leave d)) ∷ Left d ∷ []) [] story are (leave_moves d (state (seen_of story))) lists
came_story listed after (Ok (items.Moment t)) buf story are lists =
    subst (λ (xs : List ℕ). AreJoined xs (came (Ok (items.Moment t)) buf story)) (sym lists) (story_stayed listed (Acted (Stim (At t)) ∷ Moment t ∷ []) [] story are (moment_stays t (state (seen_of story))))
came_story listed after (Ok items.Idle) buf story are lists =
    subst (λ (xs : List ℕ). AreJoined xs (came (Ok items.Idle) buf story)) (sym lists) (story_stayed listed (Idle ∷ []) [] story are (idle_stays (state (seen_of story))))
came_story listed after (Ok items.End) buf story are lists =
    subst (λ (xs : List ℕ). AreJoined xs (came (Ok items.End) buf story)) (sym lists) (story_stayed listed (End ∷ []) [] story are (end_stays (state (seen_of story))))
came_story listed after (Err coming.Failed) buf story are lists =
    subst (λ (xs : List ℕ). AreJoined xs (came (Err coming.Failed) buf story)) (sym lists) (story_stayed listed (NextFailed ∷ []) (Untellable ∷ []) story are (failed_stays (state (seen_of story))))
came_story listed after (Err coming.Short) buf story are lists =
    subst (λ (xs : List ℕ). AreJoined xs (came (Err coming.Short) buf story)) (sym lists) (story_stayed listed [] (Wanting ∷ []) story are (λ e. refl))

-- ---- Applications

pub started_so : {T : Type 0} (app : ℕ) (answer : Result T StartFault) (story : StoryData) → Starts (Unit {0}) app (seen_of story) (seen_of (started app answer story)) answer
unfolding started seen_of
started_so app answer story = record {
  given = refl;
  none_fell = none_fell (start_troubles answer) story.troubles;
  not_started = not_started answer;
  short = short answer;
  told = λ told. record { history = refl; counts = hidden story; out_of_place = hidden story };
}
  where
    not_started : {T : Type 0} (answer : Result T StartFault) → IsErrOf answer starting.NotStarted → Rose (counts_of story.troubles).starts_failed (counts_of (start_troubles answer ++ story.troubles)).starts_failed
    not_started (Ok x) so = absurd cc
    not_started (Err starting.NotStarted) so = start_rose story.troubles
    not_started (Err starting.Short) so = absurd cc

    short : {T : Type 0} (answer : Result T StartFault) → IsErrOf answer starting.Short → Rose (counts_of story.troubles).shorts (counts_of (start_troubles answer ++ story.troubles)).shorts
    short (Ok x) so = absurd cc
    short (Err starting.NotStarted) so = absurd cc
    short (Err starting.Short) so = short_rose story.troubles

pub started_story : {T : Type 0} (listed : List ℕ) (app : ℕ) (answer : Result T StartFault) (story : StoryData) → AreJoined listed story → AreJoined listed (started app answer story)
unfolding started start_steps after_step after_act switch_of
started_story listed app answer story are = story_stayed listed (start_steps app answer) (start_troubles answer) story are (stays answer)
  where
    stays : {T : Type 0} (answer : Result T StartFault) → AllStay (state (seen_of story)) (after_steps (start_steps app answer) (state (seen_of story)))
    stays (Ok x) e = refl
    stays (Err starting.NotStarted) e = refl
    stays (Err starting.Short) e = refl

pub gave_so : {T : Type 0} (app : ℕ) (bytes : List ℕ) (answer : Result T GiveFault) (story : StoryData) → Gives (Unit {0}) app bytes (seen_of story) (seen_of (gave app bytes answer story)) answer
unfolding gave seen_of
gave_so app bytes answer story = record {
  given = refl;
  none_fell = none_fell (give_troubles answer) story.troubles;
  gone = gone answer;
  short = short answer;
  told = λ told. record { history = refl; counts = hidden story; out_of_place = hidden story };
}
  where
    gone : {T : Type 0} (answer : Result T GiveFault) → IsErrOf answer giving.Gone → Rose (counts_of story.troubles).closings (counts_of (give_troubles answer ++ story.troubles)).closings
    gone (Ok x) so = absurd cc
    gone (Err giving.Gone) so = closing_rose story.troubles
    gone (Err giving.Short) so = absurd cc

    short : {T : Type 0} (answer : Result T GiveFault) → IsErrOf answer giving.Short → Rose (counts_of story.troubles).shorts (counts_of (give_troubles answer ++ story.troubles)).shorts
    short (Ok x) so = absurd cc
    short (Err giving.Gone) so = absurd cc
    short (Err giving.Short) so = short_rose story.troubles

pub gave_story : {T : Type 0} (listed : List ℕ) (app : ℕ) (bytes : List ℕ) (answer : Result T GiveFault) (story : StoryData) → AreJoined listed story → AreJoined listed (gave app bytes answer story)
unfolding gave give_steps after_step after_act switch_of
gave_story listed app bytes answer story are = story_stayed listed (give_steps app bytes answer) (give_troubles answer) story are (stays answer)
  where
    stays : {T : Type 0} (answer : Result T GiveFault) → AllStay (state (seen_of story)) (after_steps (give_steps app bytes answer) (state (seen_of story)))
    stays (Ok x) e = refl
    stays (Err giving.Gone) e = refl
    stays (Err giving.Short) e = refl

pub took_so : (app : ℕ) (answer : Result Taken Short) (buf : List ℕ) (story : StoryData) → IfOk answer (λ what. IsTakenIn what buf) → Takes (Unit {0}) app (seen_of story) (seen_of (took app answer buf story)) answer buf
unfolding took seen_of
took_so app answer buf story in_buf = record {
  given = refl;
  none_fell = none_fell (take_troubles answer) story.troubles;
  taken = in_buf;
  closed = closed answer;
  silent = silent answer;
  short = short answer;
  told = λ told. record { history = refl; counts = hidden story; out_of_place = hidden story };
}
  where
    closed : (answer : Result Taken Short) → answer ≡ Ok taking.Closed → Rose (counts_of story.troubles).closings (counts_of (take_troubles answer ++ story.troubles)).closings
    closed (Ok (taking.Some n)) so = absurd cc
    closed (Ok taking.Closed) so = closing_rose story.troubles
    closed (Ok taking.Silent) so = absurd cc
    closed (Err fault) so = absurd cc

    silent : (answer : Result Taken Short) → answer ≡ Ok taking.Silent → Rose (counts_of story.troubles).silences (counts_of (take_troubles answer ++ story.troubles)).silences
    silent (Ok (taking.Some n)) so = absurd cc
    silent (Ok taking.Closed) so = absurd cc
    silent (Ok taking.Silent) so = silence_rose story.troubles
    silent (Err fault) so = absurd cc

    short : (answer : Result Taken Short) → IsErr answer → Rose (counts_of story.troubles).shorts (counts_of (take_troubles answer ++ story.troubles)).shorts
    short (Ok what) so = absurd (false≢true so)
    short (Err fault) so = short_rose story.troubles

pub took_story : (listed : List ℕ) (app : ℕ) (answer : Result Taken Short) (buf : List ℕ) (story : StoryData) → AreJoined listed story → AreJoined listed (took app answer buf story)
unfolding took take_steps after_step switch_of
took_story listed app answer buf story are = story_stayed listed (take_steps app answer buf) (take_troubles answer) story are (stays answer)
  where
    stays : (answer : Result Taken Short) → AllStay (state (seen_of story)) (after_steps (take_steps app answer buf) (state (seen_of story)))
    stays (Ok (taking.Some n)) e = refl
    stays (Ok taking.Closed) e = refl
    stays (Ok taking.Silent) e = refl
    stays (Err fault) e = refl

pub ended_so : (app : ℕ) (story : StoryData) → Ends (Unit {0}) app (seen_of story) (seen_of (ended app story))
unfolding ended seen_of
ended_so app story = record {
  given = refl;
  none_fell = NoneFell-refl (counts_of story.troubles);
  told = λ told. record { history = refl; counts = hidden story };
}

pub ended_story : (listed : List ℕ) (app : ℕ) (story : StoryData) → AreJoined listed story → AreJoined listed (ended app story)
unfolding ended end_steps after_step after_act switch_of
ended_story listed app story are = story_stayed listed (end_steps app (is_running app (state (seen_of story)))) [] story are (stays (is_running app (state (seen_of story))))
  where
    stays : (runs : Bool) → AllStay (state (seen_of story)) (after_steps (end_steps app runs) (state (seen_of story)))
    stays true e = refl
    stays false e = refl

-- ---- Links

failed_so : {T : Type 0} (d : ℕ) (answer : Result T LinkFault) (ys : List Trouble) → IsErrOf answer linking.Failed → Rose ((counts_of ys).link_faults d) ((counts_of (link_troubles d answer ++ ys)).link_faults d)
failed_so d (Ok x) ys so = absurd cc
failed_so d (Err linking.Failed) ys so = fault_rose d ys
failed_so d (Err linking.Short) ys so = absurd cc

short_so : {T : Type 0} (d : ℕ) (answer : Result T LinkFault) (ys : List Trouble) → IsErrOf answer linking.Short → Rose (counts_of ys).shorts (counts_of (link_troubles d answer ++ ys)).shorts
short_so d (Ok x) ys so = absurd cc
short_so d (Err linking.Failed) ys so = absurd cc
short_so d (Err linking.Short) ys so = short_rose_for d ys

short_of_so : {T : Type 0} (d : ℕ) (answer : Result T LinkFault) (ys : List Trouble) → IsErrOf answer linking.Short → Rose ((counts_of ys).shorts_of d) ((counts_of (link_troubles d answer ++ ys)).shorts_of d)
short_of_so d (Ok x) ys so = absurd cc
short_of_so d (Err linking.Failed) ys so = absurd cc
short_of_so d (Err linking.Short) ys so = short_rose_of d ys

-- a switch that is not joined is sent nothing
pub sent_so : {T : Type 0} (listed : List ℕ) (d : ℕ) (frame : List ℕ) (answer : Result T LinkFault) (story : StoryData) → AreJoined listed story → d < 2 ^ 64 → (is_among d listed ≡ false → IsErr answer)
    → Sends (Unit {0}) d frame (seen_of story) (seen_of (sent d frame answer story)) answer
unfolding sent seen_of
sent_so listed d frame answer story are few out = record {
  given = refl;
  none_fell = none_fell (link_troubles d answer) story.troubles;
  failed = failed_so d answer story.troubles;
  short = short_so d answer story.troubles;
  short_of = short_of_so d answer story.troubles;
  told = λ told. record { history = refl; counts = hidden story; out_of_place = λ apart. out (sym (are d few) ∙ apart) };
}

pub sent_story : {T : Type 0} (listed after : List ℕ) (d : ℕ) (frame : List ℕ) (answer : Result T LinkFault) (story : StoryData) → AreJoined listed story → ListsAsLost d answer listed after → AreJoined after (sent d frame answer story)
unfolding sent send_steps
sent_story listed after d frame (Ok x) story are lists =
    subst (λ (xs : List ℕ). AreJoined xs (sent d frame (Ok x) story)) (sym lists) (story_stayed listed (Acted (Sent d frame) ∷ []) [] story are (sent_stays d frame (state (seen_of story))))
sent_story listed after d frame (Err linking.Failed) story are lists =
    story_moved d false listed after (unsent d (is_joined d (state (seen_of story))) ∷ []) (Failing d ∷ []) story are (unsent_moves d (state (seen_of story))) lists
sent_story {T = T} listed after d frame (Err linking.Short) story are lists =
    subst (λ (xs : List ℕ). AreJoined xs (sent {T = T} d frame (Err linking.Short) story)) (sym lists) (story_stayed listed [] (ShortOf d ∷ []) story are (λ e. refl))

pub received_so : (Tells : Type 0) (d : ℕ) (answer : Result ℕ LinkFault) (buf : List ℕ) (story : StoryData) → IfOk answer (λ n. IsMessageIn Tells n buf)
    → Receives (Unit {0}) d (seen_of story) (seen_of (received d answer buf story)) answer buf
unfolding received seen_of
received_so Tells d answer buf story in_buf = record {
  given = refl;
  none_fell = none_fell (link_troubles d answer) story.troubles;
  message = message answer in_buf;
  failed = failed_so d answer story.troubles;
  short = short_so d answer story.troubles;
  short_of = short_of_so d answer story.troubles;
  told = λ told. record { history = refl; counts = hidden story; out_of_place = hidden story };
}
  where
    message : (answer : Result ℕ LinkFault) → IfOk answer (λ n. IsMessageIn Tells n buf) → IfOk answer (λ n. IsMessageIn (Unit {0}) n buf)
    message (Ok n) so = record { within = so.within; at_most = so.at_most; framed = λ none. absurd (none tt) }
    message (Err fault) so = so

pub received_story : (listed after : List ℕ) (d : ℕ) (answer : Result ℕ LinkFault) (buf : List ℕ) (story : StoryData) → AreJoined listed story → ListsAsLost d answer listed after → AreJoined after (received d answer buf story)
unfolding received receive_steps
received_story listed after d (Ok n) buf story are lists =
    subst (λ (xs : List ℕ). AreJoined xs (received d (Ok n) buf story)) (sym lists) (story_stayed listed (Acted (Got d (take n buf)) ∷ []) [] story are (got_stays d (take n buf) (state (seen_of story))))
received_story listed after d (Err linking.Failed) buf story are lists =
    story_moved d false listed after (unreceived d (is_joined d (state (seen_of story))) ∷ []) (Failing d ∷ []) story are (unreceived_moves d (state (seen_of story))) lists
received_story listed after d (Err linking.Short) buf story are lists =
    subst (λ (xs : List ℕ). AreJoined xs (received d (Err linking.Short) buf story)) (sym lists) (story_stayed listed [] (ShortOf d ∷ []) story are (λ e. refl))

-- ---- At first

pub untold_story : AreJoined [] untold
untold_story d few = none_first d

-- the buffer holds the bytes
pub holds_item : (Tells : Type 0) (answer : Result Item NextFault) (buf : List ℕ) → IfOk answer (λ item. IsItemIn Tells item buf) → IfOk answer (λ item. HoldsItem item buf)
holds_item Tells (Ok (items.From d n)) buf in_buf = in_buf.within
holds_item Tells (Ok (items.Joined d n)) buf in_buf = in_buf.0
holds_item Tells (Ok (items.Left d)) buf in_buf = tt
holds_item Tells (Ok (items.Moment t)) buf in_buf = tt
holds_item Tells (Ok items.Idle) buf in_buf = tt
holds_item Tells (Ok items.End) buf in_buf = tt
holds_item Tells (Err fault) buf in_buf = tt

pub holds_taken : (answer : Result Taken Short) (buf : List ℕ) → IfOk answer (λ what. IsTakenIn what buf) → IfOk answer (λ what. HoldsTaken what buf)
holds_taken (Ok (taking.Some n)) buf in_buf = in_buf.1
holds_taken (Ok taking.Closed) buf in_buf = tt
holds_taken (Ok taking.Silent) buf in_buf = tt
holds_taken (Err fault) buf in_buf = tt

pub holds_message : (Tells : Type 0) (answer : Result ℕ LinkFault) (buf : List ℕ) → IfOk answer (λ n. IsMessageIn Tells n buf) → IfOk answer (λ n. n ≤ length buf)
holds_message Tells (Ok n) buf in_buf = in_buf.within
holds_message Tells (Err fault) buf in_buf = tt

-- an item that is passed on, or is not for want of memory
pub followed_item : (Tells : Type 0) (answer followed : Result Item NextFault) (buf : List ℕ) → (followed ≡ answer) ⊎ (followed ≡ Err coming.Short) → IfOk answer (λ item. IsItemIn Tells item buf)
    → IfOk followed (λ item. IsItemIn Tells item buf)
followed_item Tells answer followed buf (inl same) in_buf = subst (λ (r : Result Item NextFault). IfOk r (λ item. IsItemIn Tells item buf)) (sym same) in_buf
followed_item Tells answer followed buf (inr short) in_buf = subst (λ (r : Result Item NextFault). IfOk r (λ item. IsItemIn Tells item buf)) (sym short) tt

-- ---- What is passed on

pub passed_item : {Own : Type 0} (Tells : Type 0) (old new : Seen Own) (told answer : Result Item NextFault) (buf : List ℕ) → Nexts Tells old new told buf → (answer ≡ told) ⊎ (answer ≡ Err coming.Short)
    → PassesItem Tells old new answer buf
passed_item Tells old new told answer buf nexts passed = record { told = told; nexts = nexts; passed = passed }

-- a message for a switch of the list is passed on, and no other one
pub passed_message : {Own T : Type 0} (Tells : Type 0) (d : ℕ) (frame : List ℕ) (listed : List ℕ) (story : StoryData) (old new : Seen Own) (answer : Result T LinkFault) → AreJoined listed story → d < 2 ^ 64
    → PassesMessage Tells d frame (is_among d listed) old new answer → PassesMessage Tells d frame (is_joined d (state (seen_of story))) old new answer
passed_message Tells d frame listed story old new answer are few passes = subst (λ (b : Bool). PassesMessage Tells d frame b old new answer) (sym (are d few)) passes
