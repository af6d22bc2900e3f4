-- Laws of texts that are put together piece by piece.
use Rattle.std.specs.Prelude.{◌≡◌, ◌==◌, ℕ, ◌+◌, zero, suc, Bool, true, false, not, List, [], ◌∷◌, ◌++◌, length, take, map, filter, codes, Result, OnOk, None, slice_get, refl}
use Rattle.std.specs.List.{slice_split}
use Rattle.std.proofs.Common.{sym, ap, ◌∙◌, subst, append_assoc}
use Rattle.std.proofs.lemmas.List.{append-nil, map-append}
use Rattle.of_types.specs.declared.journal.WorldStim.{WorldStim}
use Rattle.app_frames.specs.declared.cause.Tried.{Tried}
use Rattle.flow_table.specs.Switch.{Declared}
use Rattle.outside.specs.Seen.{Seen}
use Rattle.lego_model.specs.RunReport.{line_of, start_line}
use Rattle.session_lists.specs.laws.StepLaws.{taken_more}
use Rattle.session_record.specs.declared.log.Kept.{Kept}
use Rattle.session_record.specs.Deeds.{Deed, deeds_in, of_app, attempts, parts, is_started, is_event}
use Rattle.session_record.specs.Lines.{SwitchLine, StimulusLine, stimulus_text, lines_text, session_spelled}
use Rattle.session_record.specs.Recording.{start_told, played_size, fault_line, lines_by_name, lines_recorded, recording}
use Rattle.session_record.specs.Spelled.{life_text, told_text, parts_text, attempt_text, attempts_text, apps_text}
use Rattle.lego_model.specs.History.{stimuli_in}
use Rattle.session_record.specs.Texts.{NextTold, FirstTold, AllTold, Spells}
use Rattle.session_record.specs.laws.DeedLaws.{cut_told, deeds_count, filtered}
use Rattle.session_record.specs.laws.SpelledLaws.{lines_joined, apps_are, whole_pushed}

-- a piece more, where the rest stands behind it
pub pushed : (out longer piece rest all : List ℕ) → longer ≡ out ++ piece → out ++ (piece ++ rest) ≡ all → longer ++ rest ≡ all
pushed out longer piece rest all is whole = ap (λ (xs : List ℕ). xs ++ rest) is ∙ append_assoc out piece rest ∙ whole

-- a start, and the turns behind it
pub told_pushed : (app : List ℕ) (start : List Deed) (turns : List (List Deed)) (tried : Tried) (rest out first all : List ℕ) → (tried, rest) ≡ start_told start
    → first ≡ out ++ start_line app tried → all ≡ first ++ life_text app rest (played_size rest turns) turns → all ≡ out ++ told_text app start turns
unfolding told_text
told_pushed app start turns tried rest out first all told begun whole =
    whole
    ∙ ap (λ (xs : List ℕ). xs ++ life_text app rest (played_size rest turns) turns) begun
    ∙ append_assoc out (start_line app tried) (life_text app rest (played_size rest turns) turns)
    ∙ ap (λ (t : Tried × List ℕ). out ++ (start_line app t.0 ++ life_text app t.1 (played_size t.1 turns) turns)) told

-- ---- Parts that are lent

attempt_whole : (app bytes : List ℕ) (kept : List Kept) → (length kept == 0) ≡ false → attempt_text app (deeds_in bytes kept) ≡ parts_text app (parts (deeds_in bytes kept))
unfolding attempt_text
attempt_whole app bytes kept some = rw (deeds_count bytes kept, some) refl

pub attempt_pushed : {A T E : Type 0} (now : A → List Kept) (r : Result T E) (app out longer bytes : List ℕ) (kept : List Kept) (all : List A) → (length kept == 0) ≡ false
    → map now all ≡ slice_split (λ k. is_event k.kind) kept → OnOk r (longer ≡ out ++ parts_text app (map (λ s. deeds_in bytes (now s)) all)) → OnOk r (longer ≡ out ++ attempt_text app (deeds_in bytes kept))
attempt_pushed now r app out longer bytes kept all some cut is =
    let P : List ℕ → Type 0 = λ text. OnOk r (longer ≡ out ++ text) in
    subst P (ap (λ (rows : List (List Deed)). parts_text app rows) (cut_told bytes is_event now all kept cut) ∙ sym (attempt_whole app bytes kept some)) is

pub app_pushed : {A T E : Type 0} (now : A → List Kept) (r : Result T E) (app out longer bytes : List ℕ) (index : ℕ) (deeds own : List Kept) (all : List A) → own ≡ filter (λ k. k.app == index) deeds
    → map now all ≡ slice_split (λ k. is_started k.kind) own → OnOk r (longer ≡ out ++ attempts_text app (map (λ s. deeds_in bytes (now s)) all))
    → OnOk r (longer ≡ out ++ attempts_text app (attempts (of_app index (deeds_in bytes deeds))))
app_pushed now r app out longer bytes index deeds own all is_own cut is =
    let P : List ℕ → Type 0 = λ text. OnOk r (longer ≡ out ++ text) in
    subst P (ap (λ (rows : List (List Deed)). attempts_text app rows)
    (cut_told bytes is_started now all own cut ∙ ap (λ (ks : List Kept). attempts (deeds_in bytes ks)) is_own ∙ ap (λ (ds : List Deed). attempts ds) (filtered bytes index deeds))) is

-- ---- The whole

whole_is : (names : List (List ℕ)) (switches : List Declared) (stimuli : List WorldStim) (deeds : List Deed) (losses : List (ℕ × ℕ))
    → (((codes "session 1\n" ++ lines_text (map SwitchLine switches)) ++ apps_text 0 names deeds) ++ lines_text (map fault_line losses)) ++ lines_text (map StimulusLine stimuli)
    ≡ recording names switches stimuli deeds losses
unfolding recording lines_recorded session_spelled line_of
whole_is names switches stimuli deeds losses =
    let a = lines_text (map SwitchLine switches) in
    let b = lines_text (lines_by_name 0 names deeds) in
    let c = lines_text (map fault_line losses) in
    let d = lines_text (map StimulusLine stimuli) in
    let h = codes "session 1\n" in
    ap (λ (r : List ℕ). (((h ++ a) ++ r) ++ c) ++ d) (sym (apps_are 0 names deeds))
    ∙ ap (λ (r : List ℕ). r ++ d) (ap (λ (r : List ℕ). r ++ c) (append_assoc h a b) ∙ append_assoc h (a ++ b) c)
    ∙ append_assoc h ((a ++ b) ++ c) d
    ∙ ap (λ (r : List ℕ). h ++ r) (sym (whole_pushed (map SwitchLine switches) (lines_by_name 0 names deeds) (map fault_line losses) (map StimulusLine stimuli)))

pub whole_spelled : {Own : Type 0} (Tells : Type 0) (seen : Seen Own) (names : List (List ℕ)) (switches : List Declared) (deeds : List Deed) (losses : List (ℕ × ℕ)) (text second third fourth last whole : List ℕ)
    → text ≡ codes "session 1\n" → (Tells → switches ≡ seen.given.declared) → second ≡ text ++ lines_text (map SwitchLine switches) → third ≡ second ++ apps_text 0 names deeds
    → fourth ≡ third ++ lines_text (map fault_line losses) → AllTold Tells seen fourth last → whole ≡ last → Spells Tells seen names deeds losses whole
whole_spelled Tells seen names switches deeds losses text second third fourth last whole opened own is_second is_third is_fourth told is_whole = record {
  switches = switches;
  stimuli = told.all;
  own_switches = own;
  own_stimuli = told.own;
  spelled = is_whole ∙ told.written ∙ rw (is_fourth, is_third, is_second, opened) (whole_is names switches told.all deeds losses);
}

-- ---- Stimuli

first_more : {Own : Type 0} (Tells : Type 0) (seen : Seen Own) (n : ℕ) (out before after : List ℕ) → FirstTold Tells seen n out before → NextTold Tells seen n true before after → FirstTold Tells seen (n + 1) out after
first_more Tells seen n out before after so next = record {
  first = so.first ++ next.0 ∷ [];
  own = λ t. ap (λ (xs : List WorldStim). xs ++ next.0 ∷ []) (so.own t) ∙ sym (taken_more (stimuli_in seen) n next.0 (next.1 t));
  written =
      next.2 ∙ ap (λ (xs : List ℕ). xs ++ stimulus_text next.0) so.written ∙ append_assoc out (lines_text (map StimulusLine so.first)) (stimulus_text next.0)
      ∙ ap (λ (xs : List ℕ). out ++ xs) (more_text so.first next.0);
}
  where
    more_text : (first : List WorldStim) (x : WorldStim) → lines_text (map StimulusLine first) ++ stimulus_text x ≡ lines_text (map StimulusLine (first ++ x ∷ []))
    more_text first x =
        ap (λ (xs : List ℕ). lines_text (map StimulusLine first) ++ xs) (sym (append-nil (stimulus_text x)))
        ∙ sym (lines_joined (map StimulusLine first) (StimulusLine x ∷ []))
        ∙ ap lines_text (sym (map-append StimulusLine first (x ∷ [])))

pub first_more_so : {Own : Type 0} (Tells : Type 0) (seen : Seen Own) (n : ℕ) (out before after : List ℕ) (more : Bool) → more ≡ true → FirstTold Tells seen n out before → NextTold Tells seen n more before after
    → FirstTold Tells seen (n + 1) out after
first_more_so Tells seen n out before after true is so next = first_more Tells seen n out before after so next
first_more_so Tells seen n out before after false is so next = absurd cc
