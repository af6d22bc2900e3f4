-- Laws of what stops early: what happened until then goes on with the dialogue.
use Rattle.std.specs.Prelude.{◌≡◌, ℕ, Bool, true, false, List, [], ◌++◌, refl}
use Rattle.std.proofs.Common.{sym, ◌∙◌, subst}
use Rattle.std.proofs.lemmas.List.{append-nil}
use Rattle.std.proofs.lemmas.Bool.{eq-eqb}
use Rattle.of_types.specs.declared.journal.Act.{Act}
use Rattle.of_types.specs.declared.journal.Act.TheVariants.{Started, Gave}
use Rattle.flow_table.specs.View.{TableView}
use Rattle.app_frames.specs.declared.frame.AppFrame.{AppFrame}
use Rattle.app_frames.specs.declared.cause.Tried.{Tried}
use Rattle.lego_model.specs.Journal.{is_event}
use Rattle.lego_model.specs.Controller.{restore_frame}
use Rattle.lego_model.specs.AtOnce.{Before, before, nothing_said, Passes}
use Rattle.outside.specs.Seen.{Seen, Continues, journal}
use Rattle.outside.specs.State.{state, is_running}
use Rattle.outside.specs.Calls.{Ends}
use Rattle.net_txn.specs.LinkSteps.{OnLinks}
use Rattle.net_txn.specs.Net.{NetState}
use Rattle.journal_laws.specs.laws.AtOnceLaws.{others_say}
use Rattle.app_visor.specs.declared.came.Came.TheVariants.{Frame}
use Rattle.app_visor.specs.declared.play_end.PlayEnd.{PlayEnd}
use Rattle.app_visor.specs.Talks.{Told, Wants}
use Rattle.app_visor.specs.Reads.{takes, Comes, Breaks}
use Rattle.app_visor.specs.Dialogues.{Converses, LeadsOn, TalksOn, Talks}
use Rattle.app_visor.specs.laws.JournalLaws.{links_none}
use Rattle.app_visor.specs.laws.DialogueLaws.{Converses-then, converses_told, converses_takes, converses_event, converses_restored, converses_ended}
use Rattle.app_visor.specs.laws.RunningLaws.{converses_runs}
use Rattle.app_visor.specs.Turns.{TurnsFrom, GoesOn}
use Rattle.app_visor.specs.Attempts.{Greets, Tries}

-- ---- Little happened

-- nothing was told
pub leads_on_here : {Own : Type 0} (app : ℕ) (s : Before) (old new : Seen Own) → new.history ≡ old.history → LeadsOn app s old new
unfolding journal
leads_on_here app s old new is = (s, record { steps = []; history = is ∙ sym (append-nil old.history); dialogue = refl })

-- memory was wanting
pub leads_on_wanting : {Own : Type 0} {Tells : Type 0} {old new : Seen Own} (app : ℕ) (s : Before) → Wants Tells old new → Tells → LeadsOn app s old new
leads_on_wanting {old = old} {new = new} app s wants tells = leads_on_here app s old new (wants.history tells)

-- the links of switches were asked
pub leads_on_links : {Own : Type 0} {Tells : Type 0} {old new : Seen Own} (app : ℕ) (s : Before) → OnLinks Tells old new → Tells → LeadsOn app s old new
leads_on_links app s links tells =
    let only = links tells in
    (record s { since = s.since ++ journal only.steps }, record { steps = only.steps; history = only.history; dialogue = others_say app (journal only.steps) s (links_none app only.steps only.all) })

pub leads_on_then : {Own : Type 0} (app : ℕ) (s t : Before) (a b c : Seen Own) → Converses app s t a b → LeadsOn app t b c → LeadsOn app s a c
leads_on_then app s t a b c first second = (second.0, Converses-then app s t second.0 a b c first second.1)

-- ---- Frames that come

-- memory was wanting, after some pieces were taken
pub leads_on_breaking : {Own : Type 0} (Tells : Type 0) (app : ℕ) (rest : List ℕ) (since : List Act) (old new : Seen Own) → Breaks Tells app rest old new → Tells → LeadsOn app (before rest since) old new
leads_on_breaking Tells app rest since old new breaks tells =
    let acts = since ++ takes app breaks.taken.pieces in
    leads_on_then app (before rest since) (before breaks.unread acts) old breaks.then_seen new (converses_takes Tells app breaks.taken.pieces rest breaks.unread since old breaks.then_seen breaks.taken.all tells)
    (leads_on_wanting app (before breaks.unread acts) breaks.wants tells)

-- a frame came, and what happened at it goes on with the dialogue wherever that stood
pub leads_on_came : {Own : Type 0} (Tells : Type 0) (app : ℕ) (frame : AppFrame) (rest left : List ℕ) (since : List Act) (old mid new : Seen Own) → Comes Tells app rest left old mid (Frame frame) → Tells
    → ((s : Before) → LeadsOn app s mid new) → LeadsOn app (before rest since) old new
leads_on_came Tells app frame rest left since old mid new came tells later =
    let t = before came.unread (since ++ takes app came.taken.pieces) in
    let front = converses_takes Tells app came.taken.pieces rest came.unread since old came.then_seen came.taken.all tells in
    leads_on_then app (before rest since) t old mid new (subst (λ (x : Seen _). Converses app (before rest since) t old x) (sym came.came_is.1) front) (later t)

-- ---- A turn

-- what was played, and what followed
pub leads_on_played : {Own : Type 0} {Tells : Type 0} {accepts : List TableView → Bool} {app budget left : ℕ} {rest here : List ℕ} {old seen : Seen Own} {net at_net : NetState} (new : Seen Own)
    → GoesOn Tells accepts app budget rest old net left here seen at_net → Tells → ((since : List Act) → LeadsOn app (before here since) seen new) → LeadsOn app (before rest []) old new
leads_on_played {app = app} {rest = rest} {here = here} {old = old} {seen = seen} new all tells later =
    let s = all.speaks tells in
    leads_on_then app (before rest []) (before here s.0) old seen new s.1.1 (later s.0)

-- the event was given
pub leads_on_event : {Own : Type 0} (Tells : Type 0) (app : ℕ) (frame event rest taken : List ℕ) (s : Before) (old mid new : Seen Own) → Told Tells (Gave app frame) old mid → Tells → frame ≡ event → is_event event ≡ true → taken ≡ rest → s.running ≡ true
    → Passes s.unread rest → LeadsOn app (before taken []) mid new → LeadsOn app s old new
leads_on_event Tells app frame event rest taken s old mid new told tells spelled is begun runs passes later =
    leads_on_then app s (before taken []) old mid new
    (converses_event Tells app frame taken s old mid told tells (subst (λ (f : List ℕ). is_event f ≡ true) (sym spelled) is) runs (subst (Passes s.unread) (sym begun) passes)) later

-- the turn was played to its end
pub leads_on_turned : {Own : Type 0} {Tells : Type 0} {accepts : List TableView → Bool} {app left : ℕ} {rest unread : List ℕ} {old new : Seen Own} {net now_net : NetState} {end : PlayEnd} → TurnsFrom Tells accepts app left rest old new net now_net end unread → Tells
    → LeadsOn app (before rest []) old new
leads_on_turned t tells = let says = t.speaks tells [] refl in (says.after, says.converses)

-- and what it tells then of whether the application runs
pub talks_of : {Own : Type 0} {app : ℕ} {s : Before} {old new : Seen Own} {Tells : Type 0} → Continues Tells old new → LeadsOn app s old new → Talks app s old new
talks_of {app = app} {s = s} {old = old} {new = new} continues leads =
    record { after = leads.0; converses = leads.1; runs = λ runs. converses_runs app s leads.0 old new leads.1 continues.given runs }

-- ---- Attempts to start

-- it was given its checkpoint
pub leads_on_restored : {Own : Type 0} (Tells : Type 0) (app : ℕ) (kept frame : List ℕ) (old mid new : Seen Own) → Told Tells (Gave app frame) old mid → Tells → frame ≡ restore_frame kept → LeadsOn app nothing_said mid new → LeadsOn app nothing_said old new
leads_on_restored Tells app kept frame old mid new told tells is later =
    leads_on_then app nothing_said nothing_said old mid new (converses_restored Tells app kept old mid (subst (λ (f : List ℕ). Told Tells (Gave app f) old mid) is told) tells) later

-- it was ended
pub leads_on_ended : {Own : Type 0} (Tells : Type 0) (app : ℕ) (s : Before) (old mid new : Seen Own) → Ends Tells app old mid → Tells → s.running ≡ is_running app (state old) → ((t : Before) → t.running ≡ false → LeadsOn app t mid new)
    → LeadsOn app s old new
leads_on_ended Tells app s old mid new ends tells runs later =
    let first = converses_ended Tells app s old mid ends tells runs in
    leads_on_then app s first.0 old mid new first.1.0 (later first.0 first.1.1)

-- it was started
pub leads_on_started : {Own : Type 0} (Tells : Type 0) (app : ℕ) (s : Before) (old mid new : Seen Own) → Told Tells (Started app true) old mid → Tells → s.running ≡ false → LeadsOn app nothing_said mid new → LeadsOn app s old new
leads_on_started Tells app s old mid new told tells stopped later =
    leads_on_then app s nothing_said old mid new (converses_told Tells app (Started app true) s nothing_said old mid told tells (eq-eqb app app refl) (stopped, refl)) later

pub leads_on_greeted : {Own : Type 0} {Tells : Type 0} {app : ℕ} {kept : List ℕ} {tried : Tried} {unread : List ℕ} {old new : Seen Own} → Greets Tells app kept tried unread old new → Tells → LeadsOn app nothing_said old new
leads_on_greeted greets tells = let says = greets.speaks tells in (says.after, says.converses)

pub talks_none : {Own : Type 0} {Tells : Type 0} (app : ℕ) (seen : Seen Own) → TalksOn Tells app seen seen
talks_none app seen tells s runs = leads_on_here app s seen seen refl

pub talks_then : {Own : Type 0} {Tells : Type 0} (app : ℕ) (old mid new : Seen Own) → Continues Tells old mid → TalksOn Tells app old mid → TalksOn Tells app mid new → TalksOn Tells app old new
talks_then app old mid new continues first second tells s runs =
    let one = first tells s runs in
    leads_on_then app s one.0 old mid new one.1 (second tells one.0 (converses_runs app s one.0 old mid one.1 continues.given runs))

pub talks_tried : {Own : Type 0} {Tells : Type 0} {app : ℕ} {kept : List ℕ} {tried : Tried} {rest : List ℕ} {old new : Seen Own} → Tries Tells app kept tried rest old new → TalksOn Tells app old new
talks_tried t tells s runs = let says = t.went.speaks tells s runs in (says.after, says.converses)
