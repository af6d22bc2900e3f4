-- What is read of a policy, and why it is not taken.
use Rattle.std.proofs.Common.{◌≡◌, ◌≤◌, ◌&&◌, ℕ, Bool, List, [], ◌∷◌, map, Option, Some, None, Result, Ok, Err, IfSome, IfErr, length, refl, sym, ap, subst, ◌∙◌, arith}
use Rattle.std.specs.List.{list_all}
use Rattle.std.specs.Result.{IsErrAnd}
use Rattle.std.proofs.lemmas.Bool.{le-ltb}
use Rattle.std.proofs.lemmas.List.{length-map}
use Rattle.lego_io.specs.Source.{ended}
use Rattle.crash_policy.specs.declared.policy_fault.PolicyFault.{PolicyFault}
use Rattle.crash_policy.specs.declared.policy_fault.PolicyFault.TheVariants.{Text, UnknownKey, Missing, Range, Double, NoMemory}
use Rattle.crash_policy.specs.declared.policy_file.AppRule.{AppRule}
use Rattle.crash_policy.specs.declared.policy_file.PolicyFile.{PolicyFile}
use Rattle.crash_policy.specs.Policies.{app_value, policy_value}
use Rattle.crash_policy.specs.laws.BoundLaws.{IsSized}
use Rattle.crash_policy.specs.Faults.{Refuses}
use Rattle.crash_policy.specs.Order.{policy_of}
use Rattle.legosdn.specs.declared.stop.InputRefusal.{InputRefusal}
use Rattle.legosdn.specs.declared.stop.Stop.{Stop}
use Rattle.legosdn.specs.declared.stop.Stop.TheVariants as stops
use Rattle.legosdn.specs.Input.{Read, with_read, most_input, has_words, ProgramValue, program_in, with_words, run_policy}
use Rattle.legosdn.specs.Stops.{refusal_line, policy_words, stop_of_policy}
use Rattle.legosdn.specs.Headline.{IsNoPolicy, IsReadCause, IsPolicyCause}
use Rattle.legosdn.specs.Live.{Taken}

-- ---- Of many

-- all of some are so of their values where all of the values are so
all_of_values : {A B : Type 0} (is_so : B → Bool) (value : A → B) (xs : List A) → list_all (λ x. is_so (value x)) xs ≡ list_all is_so (map value xs)
all_of_values is_so value [] = refl
all_of_values is_so value (x ∷ xs) = ap (λ (rest : Bool). is_so (value x) && rest) (all_of_values is_so value xs)

pub all_have_words : (apps : List AppRule) → list_all (λ app. has_words (app_value app)) apps ≡ list_all has_words (map app_value apps)
all_have_words apps = all_of_values has_words app_value apps

-- so few applications are read
pub few_read : (file : PolicyFile) (apps : List AppRule) → apps ≡ file.apps.items → IsSized (policy_value file) → length apps ≤ 32
few_read file apps same sized =
    let few = sized.few in
    let number = length-map file.apps.items app_value in
    let all = ap (λ (xs : List AppRule). length xs) same in
    omega (arith, few, number, all)

-- ---- Of a text

fault_cause : (text : List ℕ) (fault : PolicyFault) → Refuses fault (policy_of text) → IsPolicyCause text (stop_of_policy fault)
unfolding refusal_line policy_words
fault_cause text Text refuses = ap program_in refuses
fault_cause text (UnknownKey key) refuses = ap program_in refuses
fault_cause text (Missing key) refuses = ap program_in refuses
fault_cause text (Range key) refuses = ap program_in refuses
fault_cause text (Double name) refuses = ap program_in refuses
fault_cause text NoMemory refuses = tt

pub fault_causes : {T : Type 0} (text : List ℕ) (fault : PolicyFault) (result : Result T Stop) → IsErrAnd result (λ stop. stop ≡ stop_of_policy fault) → Refuses fault (policy_of text) → IfErr result (IsPolicyCause text)
fault_causes text fault (Ok x) is refuses = tt
fault_causes text fault (Err stop) is refuses = rw is (fault_cause text fault refuses)

-- ---- Of an input

run_is : (input : List ℕ) → length input ≤ most_input → run_policy input ≡ with_read (program_in (policy_of input)) with_words
unfolding run_policy
run_is input within = rw (le-ltb most_input (length input) within) refl

-- what was read is all that the source told
pub record ReadAs (told : Option (List ℕ)) (input text : List ℕ) : Type 0 where
  pub whole : IfSome told (λ left. input ≡ left)
  pub within : length input ≤ most_input
  pub text_is : text ≡ input

policy_is : (told : Option (List ℕ)) (input text : List ℕ) → ReadAs told input text → run_policy input ≡ with_read (program_in (policy_of text)) with_words
policy_is told input text r = run_is input r.within ∙ ap (λ (t : List ℕ). with_read (program_in (policy_of t)) with_words) (sym r.text_is)

told_refused : (told : Option (List ℕ)) (input : List ℕ) (refusal : InputRefusal) → IfSome told (λ left. input ≡ left) → IsNoPolicy refusal input → IfSome told (IsNoPolicy refusal)
told_refused None input refusal whole e = tt
told_refused (Some left) input refusal whole e = subst (IsNoPolicy refusal) whole e

-- the text gives no applications
app_cause : (told : Option (List ℕ)) (old new : ℕ) (input text : List ℕ) (stop : Stop) → ReadAs told input text → IsPolicyCause text stop → IsReadCause IsNoPolicy told old new stop
app_cause told old new input text stops.Usage r cause = absurd cause
app_cause told old new input text (stops.Refused refusal) r cause = told_refused told input refusal r.whole (policy_is told input text r ∙ ap (λ (x : Read ProgramValue). with_read x with_words) cause)
app_cause told old new input text stops.ReadFault r cause = absurd cause
app_cause told old new input text stops.WriteFault r cause = absurd cause
app_cause told old new input text stops.Shut r cause = absurd cause
app_cause told old new input text stops.NextFault r cause = absurd cause
app_cause told old new input text (stops.SwitchBroke d) r cause = absurd cause
app_cause told old new input text (stops.Diverged d) r cause = absurd cause
app_cause told old new input text (stops.EventsLeft left) r cause = absurd cause
app_cause told old new input text stops.NoMemory r cause = tt

pub app_causes : {T : Type 0} (told : Option (List ℕ)) (old new : ℕ) (input text : List ℕ) (stop : Stop) (result : Result T Stop) → IsErrAnd result (λ s. s ≡ stop) → ReadAs told input text → IsPolicyCause text stop → IfErr result (IsReadCause IsNoPolicy told old new)
app_causes told old new input text stop (Ok x) is r cause = tt
app_causes told old new input text stop (Err s) is r cause = rw is (app_cause told old new input text stop r cause)

commands_are : (told : Option (List ℕ)) (input text : List ℕ) (program : ProgramValue) (read : Read ProgramValue) → ReadAs told input text → program_in (policy_of text) ≡ Ok program → with_words program ≡ read → run_policy input ≡ read
commands_are told input text program read r spelled is = policy_is told input text r ∙ ap (λ (x : Read ProgramValue). with_read x with_words) spelled ∙ is

-- one has no command
pub command_causes : {T : Type 0} (told : Option (List ℕ)) (old new : ℕ) (input text : List ℕ) (program : ProgramValue) (refusal : InputRefusal) (result : Result T Stop) → IsErrAnd result (λ stop. stop ≡ stops.Refused refusal) → ReadAs told input text
    → program_in (policy_of text) ≡ Ok program → with_words program ≡ Err (refusal_line refusal) → IfErr result (IsReadCause IsNoPolicy told old new)
command_causes told old new input text program refusal (Ok x) is r spelled refused = tt
command_causes told old new input text program refusal (Err stop) is r spelled refused = rw is (told_refused told input refusal r.whole (commands_are told input text program (Err (refusal_line refusal)) r spelled refused))

pub takes : (told left : Option (List ℕ)) (input text : List ℕ) (program : ProgramValue) → ReadAs told input text → left ≡ ended told → program_in (policy_of text) ≡ Ok program → with_words program ≡ Ok program → Taken program told left
takes told left input text program r end spelled is = record {
  input = input;
  whole = r.whole;
  end = end;
  spelled = commands_are told input text program (Ok program) r spelled is;
}
