-- What a whole run comes to: the run of the reference controller over what the world told, and over all of which that is the front.
use Rattle.std.proofs.Common.{◌≡◌, ◌==◌, ℕ, Bool, List, [], ◌++◌, length, filter, refl, sym, ap, ◌∙◌, subst}
use Rattle.of_types.specs.declared.journal.Act.{Act}
use Rattle.of_types.specs.declared.journal.WorldStim.{WorldStim}
use Rattle.flow_table.specs.Switch.{Declared}
use Rattle.crash_policy.specs.Policies.{AppValue}
use Rattle.lego_model.specs.Journal.{Reply, Start, is_of, stimuli}
use Rattle.lego_model.specs.Places.{Place}
use Rattle.lego_model.specs.Scripted.{AreFronts, AreStartFronts}
use Rattle.lego_model.specs.laws.ScriptedLaws.{fronts-refl, start_fronts-refl}
use Rattle.lego_model.specs.Losses.{Losses}
use Rattle.lego_model.specs.Controller.{App, Run, reference}
use Rattle.outside.specs.Seen.{Given, Seen}
use Rattle.lego_model.specs.History.{starts_in, replies_in, own_acts, stimuli_in}
use Rattle.run_laws.specs.Engine.{Engine, Stands, ahead, behind}
use Rattle.lego_model.specs.Application.{names}
use Rattle.lego_model.specs.ReferenceRun.{Said, text_of, told_of, fresh_from, before_start, reference_said, AreFrontsOf, AreSaid}
use Rattle.run_laws.specs.Moves.{TellsMore, Moves}
use Rattle.run_laws.specs.laws.FirstLaws.{no-acts, stands-first, rules-first}
use Rattle.run_laws.specs.First.{IsOpened, engine_at_first}
use Rattle.run_laws.specs.Whole.{at_last, whole, RanAs, Ran}
use Rattle.lego_model.specs.WholeRun.{is_spent}

-- what is told is said
pub told-said : {Own : Type 0} (seen : Seen Own) → AreSaid seen (told_of seen)
told-said seen i = (start_fronts-refl (starts_in (own_acts i seen)), fronts-refl (replies_in (own_acts i seen)))

reference-whole : (allows : List Place → Bool) (most : ℕ) (declared : List Declared) (apps : List App) (losses : Losses) (xs : List WorldStim) → reference allows declared apps losses (length xs == most) xs ≡ whole allows most xs (before_start declared losses apps)
unfolding reference
reference-whole allows most declared apps losses xs = refl

pub no-own : {Own : Type 0} (i : ℕ) (seen : Seen Own) → IsOpened seen → own_acts i seen ≡ []
no-own i seen is = ap (λ (acts : List Act). filter (is_of i) acts) (no-acts seen is)

pub no-stimuli : {Own : Type 0} (seen : Seen Own) → IsOpened seen → stimuli_in seen ≡ []
unfolding stimuli
no-stimuli seen is = ap (λ (acts : List Act). stimuli acts) (no-acts seen is)

-- what is said over a whole run, is said over what its part tells
pub said-of : {Own : Type 0} (first last : Seen Own) (told said : ℕ → Said) → IsOpened first → ((i : ℕ) → TellsMore (told i) (own_acts i first) (own_acts i last)) → AreSaid last said → AreFrontsOf told said
said-of first last told said is read are i = (
  subst (λ (l : List Start). AreStartFronts l (said i).starts) ((read i).starts ∙ ap (λ (acts : List Act). starts_in acts ++ (told i).starts) (no-own i first is)) (are i).0,
  subst (λ (l : List Reply). AreFronts l (said i).replies) ((read i).replies ∙ ap (λ (acts : List Act). replies_in acts ++ (told i).replies) (no-own i first is)) (are i).1,
)

ran-said : {Own : Type 0} (rules : List AppValue) (allows : List Place → Bool) (most : ℕ) (lost : List ℕ) (xs : List WorldStim) (text : List ℕ) (first last : Seen Own) (e : Engine) (said : ℕ → Said) → IsOpened first
    → (m : Moves xs (whole allows most xs) text first last (engine_at_first rules) e) → AreSaid last said → RanAs rules (at_last lost) text last e (reference_said rules allows (is_spent most last) (ahead m.batches m.turns (at_last lost)) last said)
ran-said {Own} rules allows most lost xs text first last e said is m are =
    let losses = ahead m.batches m.turns (at_last lost) in
    let fronts = said-of first last m.told said is m.read are in
    let stims : stimuli_in last ≡ xs = m.read_stimuli ∙ ap (λ (ys : List WorldStim). ys ++ xs) (no-stimuli first is) in
    let r0 : Run = before_start first.given.declared losses (fresh_from 0 rules said) in
    let at_first : Stands first (engine_at_first rules) said losses r0 = stands-first rules first said losses is in
    let same : whole allows most xs r0 ≡ reference_said rules allows (is_spent most last) losses last said =
    sym (ap (λ (g : Given Own). reference allows g.declared (fresh_from 0 rules said) losses (is_spent most last) (stimuli_in last)) m.given
    ∙ ap (λ (ys : List WorldStim). reference allows first.given.declared (fresh_from 0 rules said) losses (length ys == most) ys) stims
    ∙ reference-whole allows most first.given.declared (fresh_from 0 rules said) losses xs) in
    let says : text_of (names rules) (whole allows most xs r0) ≡ text =
    subst (λ (of : List AppValue). text_of (names of) (whole allows most xs r0) ≡ text_of (names of) r0 ++ text) (rules-first rules) (m.says said (at_last lost) r0 fronts at_first) in
    record {
      said = behind m.told said;
      rules_is = m.rules ∙ rules-first rules;
      stands = subst (Stands last e (behind m.told said) (at_last lost)) same (m.stands said (at_last lost) r0 fronts at_first);
      text_is = subst (λ (r : Run). text_of (names rules) r ≡ text) same says;
    }

pub ran : {Own : Type 0} (rules : List AppValue) (allows : List Place → Bool) (most : ℕ) (lost : List ℕ) (xs : List WorldStim) (text : List ℕ) (first last : Seen Own) (e : Engine) → IsOpened first → Moves xs (whole allows most xs) text first last (engine_at_first rules) e
    → Ran rules allows (is_spent most last) lost text last e
ran rules allows most lost xs text first last e is m = record {
  losses = ahead m.batches m.turns (at_last lost);
  as_said = λ said are. ran-said rules allows most lost xs text first last e said is m are;
}
