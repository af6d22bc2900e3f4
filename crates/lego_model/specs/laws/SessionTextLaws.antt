-- Laws of the session text: what every session that was read keeps.
use Rattle.std.proofs.Common.{◌≡◌, ◌≢◌, ◌==◌, ℕ, ◌+◌, ◌<◌, ◌≤◌, Bool, true, false, if◌then◌else◌, not, ◌||◌, List, [], ◌∷◌, ◌++◌, length, All, nat_le, nat_lt, Option, Some, None, Result, Ok, Err, refl, sym, ap, subst, ◌∙◌, arith, codes}
use Rattle.std.specs.List.{AllPairs, list_any, list_all}
use Rattle.std.proofs.lemmas.List.{length-append}
use Rattle.std.proofs.lemmas.List.Elements.{All-weaker}
use Rattle.std.proofs.lemmas.List.{append-nil}
use Rattle.std.proofs.lemmas.List.Folds.{list_any-append}
use Rattle.std.proofs.lemmas.List.Quantifiers.{all_pairs_push}
use Rattle.outside.specs.Conforming.{may_be_raw}
use Rattle.of_types.specs.declared.journal.WorldStim.{WorldStim}
use Rattle.of_types.specs.declared.journal.WorldStim.TheVariants.{Join, Leave, At, Of}
use Rattle.of_wire.specs.Reading.{reading_of}
use Rattle.app_frames.specs.declared.script.ScriptStep.{ScriptStep}
use Rattle.app_frames.specs.declared.script.StartScript.{StartScript}
use Rattle.lego_io.specs.Lines.{lines_of, most_line}
use Rattle.lego_model.specs.declared.session.SessionFault.{SessionFault}
use Rattle.lego_model.specs.declared.session.SessionKind.{SessionKind}
use Rattle.lego_model.specs.declared.session.SessionKind.TheVariants.{Long, Text, Word, Range, Order, Raw}
use Rattle.lego_model.specs.Words.{is_word, words_of}
use Rattle.lego_model.specs.SessionWords.{◌>>=◌, a_number, last_number, some_bytes, are_ports, some_ports, an_app}
use Rattle.lego_model.specs.SessionSteps.{are_steps, steps_of}
use Rattle.lego_model.specs.SessionLines.{SessionValue, SoFar, is_declared, a_switch, a_new_switch, with_switch, with_start, with_reply, with_fault, with_stimulus, most_stimuli, one_more, if_known, start_word, change_word, switch_line, start_line, reply_line, fault_line, join_line, leave_line, at_line, frame_line, port_line, count_line, raw_line, line_of_two, line_of_three, line_of_four, line_of_five, fixed_line, is_reply, reply_words, line_of}
use Rattle.lego_model.specs.SessionText.{Progress, at_first, is_skipped, is_printable, going_on, is_opening, plain_line, next_line, in_line, lines_from, session_text, ◌>>=◌ as ◌|>>=|◌}
use Rattle.lego_model.specs.SessionFacts.{IsPort, IsSwitch, IsKnown, IsStimulus, IsFault, moments, IsSession, IsOf}
use Rattle.flow_table.specs.Table.{last_moment}
use Rattle.lego_model.specs.laws.SessionWordLaws.{bind_ok, unless_ok, ok_is, not_false, number_ok, bytes_ok, none, no_pairs, all_cons, all_more, ports_ok, ascending, each_port, switch_ok, new_switch_ok, app_ok, steps_ok}

-- what is kept while lines are read, with so many applications
pub record Kept (count : ℕ) (s : SoFar) : Type 0 where
  pub session : IsSession s.session
  pub apps : IsOf count s.session
  pub until_now : All (λ moment. moment ≤ s.moment) (moments s.session.stimuli)

-- ---- More switches

-- a switch that was not known differs from all
unknown : (switches : List (ℕ × ℕ × List ℕ)) (dpid : ℕ) → list_any (λ (d : ℕ × ℕ × List ℕ). d.0 == dpid) switches ≡ false → All (λ d. d.0 ≢ dpid) switches
unknown [] dpid e = none (λ (d : ℕ × ℕ × List ℕ). d.0 ≢ dpid)
unknown (d ∷ switches) dpid e =
    let first : d.0 ≢ dpid = grind arith in
    all_cons (λ (d : ℕ × ℕ × List ℕ). d.0 ≢ dpid) d switches first (unknown switches dpid (grind arith))

known_still : (switches : List (ℕ × ℕ × List ℕ)) (d : ℕ × ℕ × List ℕ) (dpid : ℕ) → IsKnown switches dpid → IsKnown (switches ++ d ∷ []) dpid
known_still switches d dpid known = list_any-append (λ (d : ℕ × ℕ × List ℕ). d.0 == dpid) switches (d ∷ []) ∙ rw known refl

stimulus_still : (switches : List (ℕ × ℕ × List ℕ)) (d : ℕ × ℕ × List ℕ) (w : WorldStim) → IsStimulus switches w → IsStimulus (switches ++ d ∷ []) w
stimulus_still switches d (Join dpid) known = known_still switches d dpid known
stimulus_still switches d (Leave dpid) known = known_still switches d dpid known
stimulus_still switches d (At moment) within = within
stimulus_still switches d (Of dpid what) happens = (known_still switches d dpid happens.0, happens.1)

fault_still : (switches : List (ℕ × ℕ × List ℕ)) (d : ℕ × ℕ × List ℕ) (f : ℕ × ℕ) → IsFault switches f → IsFault (switches ++ d ∷ []) f
fault_still switches d f is = (known_still switches d f.0 is.0, is.1, is.2)

ports_are : (ports : List ℕ) → are_ports ports ≡ true → All IsPort ports × AllPairs (λ port later. port < later) ports × (length ports ≤ 64)
ports_are ports e = (each_port ports (grind arith), ascending ports (grind arith), grind arith)

pub switch_keeps : (count : ℕ) (s : SoFar) (d : ℕ × ℕ × List ℕ) → Kept count s → nat_le 64 (length s.session.switches) ≡ false → is_declared s d.0 ≡ false → IsSwitch d
    → Kept count (with_switch s d)
switch_keeps count s d kept few other is = record {
  session = record {
    switches = all_more IsSwitch s.session.switches d kept.session.switches is;
    few_switches = let len = length-append s.session.switches (d ∷ []) in grind arith;
    different = all_pairs_push (λ (x later : ℕ × ℕ × List ℕ). x.0 ≢ later.0) s.session.switches d kept.session.different (unknown s.session.switches d.0 other);
    faults = All-weaker (IsFault s.session.switches) (IsFault (s.session.switches ++ d ∷ [])) (fault_still s.session.switches d) s.session.faults kept.session.faults;
    replies = kept.session.replies;
    stimuli = All-weaker (IsStimulus s.session.switches) (IsStimulus (s.session.switches ++ d ∷ [])) (stimulus_still s.session.switches d) s.session.stimuli kept.session.stimuli;
    few_stimuli = kept.session.few_stimuli;
    moments_rise = kept.session.moments_rise;
  };
  apps = record { starts = kept.apps.starts; replies = kept.apps.replies };
  until_now = kept.until_now;
}

switch_line_keeps : (count : ℕ) (s t : SoFar) (dpid capacity ports : List ℕ) → Kept count s → switch_line s dpid capacity ports ≡ Ok t → Kept count t
unfolding switch_line
switch_line_keeps count s t dpid capacity ports kept e =
    let few = unless_ok (nat_le 64 (length s.session.switches)) Range _ _ e in
    let d = bind_ok (a_new_switch s dpid) _ _ few.1 in
    let c = bind_ok (a_number 1 4096 capacity) _ _ d.2 in
    let p = bind_ok (some_ports ports) _ _ c.2 in
    let number = new_switch_ok s dpid d.0 d.1 in
    let listed = ports_are p.0 (ports_ok ports p.0 p.1) in
    let is : IsSwitch (d.0, c.0, p.0) = record {
      numbered = (number.0, number.1);
      roomy = number_ok 1 4096 capacity c.0 c.1;
      ports = listed.0;
      ascending = listed.1;
      few_ports = listed.2;
    } in
    subst (Kept count) (ok_is _ _ _ refl p.2) (switch_keeps count s (d.0, c.0, p.0) kept few.0 number.2 is)

-- ---- Starts, replies, faults

known_ok : {A : Type 0} (o : Option A) (next : A → Result SoFar SessionKind) (t : SoFar) → if_known o next ≡ Ok t → (x : A) × (next x ≡ Ok t)
known_ok None next t e = absurd cc
known_ok (Some x) next t e = (x, e)

start_keeps : (count : ℕ) (s : SoFar) (x : ℕ × StartScript) → Kept count s → x.0 < count → Kept count (with_start s x)
start_keeps count s x kept is = record {
  session = record {
    switches = kept.session.switches;
    few_switches = kept.session.few_switches;
    different = kept.session.different;
    faults = kept.session.faults;
    replies = kept.session.replies;
    stimuli = kept.session.stimuli;
    few_stimuli = kept.session.few_stimuli;
    moments_rise = kept.session.moments_rise;
  };
  apps = record { starts = all_more (λ (x : ℕ × StartScript). x.0 < count) s.session.starts x kept.apps.starts is; replies = kept.apps.replies };
  until_now = kept.until_now;
}

start_line_keeps : (names : List (List ℕ)) (s t : SoFar) (app word : List ℕ) → Kept (length names) s → start_line names s app word ≡ Ok t → Kept (length names) t
unfolding start_line
start_line_keeps names s t app word kept e =
    let ending = known_ok (start_word word) _ _ e in
    let i = bind_ok (an_app names app) _ _ ending.1 in
    subst (Kept (length names)) (ok_is _ _ _ refl i.2) (start_keeps (length names) s (i.0, ending.0) kept (app_ok names app i.0 i.1))

reply_keeps : (count : ℕ) (s : SoFar) (x : ℕ × List ScriptStep) → Kept count s → x.0 < count → 1 ≤ length x.1 → Kept count (with_reply s x)
reply_keeps count s x kept is some = record {
  session = record {
    switches = kept.session.switches;
    few_switches = kept.session.few_switches;
    different = kept.session.different;
    faults = kept.session.faults;
    replies = all_more (λ (x : ℕ × List ScriptStep). 1 ≤ length x.1) s.session.replies x kept.session.replies some;
    stimuli = kept.session.stimuli;
    few_stimuli = kept.session.few_stimuli;
    moments_rise = kept.session.moments_rise;
  };
  apps = record { starts = kept.apps.starts; replies = all_more (λ (x : ℕ × List ScriptStep). x.0 < count) s.session.replies x kept.apps.replies is };
  until_now = kept.until_now;
}

some_steps : (steps : List (List ℕ)) (script : List ScriptStep) → (length steps == 0 || not (are_steps steps)) ≡ false → length script ≡ length steps → 1 ≤ length script
some_steps [] script test same = absurd cc
some_steps (step ∷ steps) script test same = omega arith

reply_line_keeps : (names : List (List ℕ)) (s t : SoFar) (app : List ℕ) (steps : List (List ℕ)) → Kept (length names) s → reply_line names s app steps ≡ Ok t → Kept (length names) t
unfolding reply_line
reply_line_keeps names s t app steps kept e =
    let form = unless_ok (length steps == 0 || not (are_steps steps)) Word _ _ e in
    let i = bind_ok (an_app names app) _ _ form.1 in
    let script = bind_ok (steps_of steps) _ _ i.2 in
    let some = some_steps steps script.0 form.0 (steps_ok steps script.0 script.1) in
    subst (Kept (length names)) (ok_is _ _ _ refl script.2) (reply_keeps (length names) s (i.0, script.0) kept (app_ok names app i.0 i.1) some)

fault_keeps : (count : ℕ) (s : SoFar) (x : ℕ × ℕ) → Kept count s → IsFault s.session.switches x → Kept count (with_fault s x)
fault_keeps count s x kept is = record {
  session = record {
    switches = kept.session.switches;
    few_switches = kept.session.few_switches;
    different = kept.session.different;
    faults = all_more (IsFault s.session.switches) s.session.faults x kept.session.faults is;
    replies = kept.session.replies;
    stimuli = kept.session.stimuli;
    few_stimuli = kept.session.few_stimuli;
    moments_rise = kept.session.moments_rise;
  };
  apps = record { starts = kept.apps.starts; replies = kept.apps.replies };
  until_now = kept.until_now;
}

fault_line_keeps : (n : ℕ) (s t : SoFar) (link dpid count : List ℕ) → Kept n s → fault_line s link dpid count ≡ Ok t → Kept n t
unfolding fault_line
fault_line_keeps n s t link dpid count kept e =
    let form = unless_ok (not (is_word (codes "link") link)) Word _ _ e in
    let d = bind_ok (a_switch s dpid) _ _ form.1 in
    let c = bind_ok (a_number 1 last_number count) _ _ d.2 in
    let within = number_ok 1 last_number count c.0 c.1 in
    subst (Kept n) (ok_is _ _ _ refl c.2) (fault_keeps n s (d.0, c.0) kept (switch_ok s dpid d.0 d.1, within.0, within.1))

-- ---- Stimuli

moments-append : (ws : List WorldStim) (w : WorldStim) → moments (ws ++ w ∷ []) ≡ moments ws ++ moments (w ∷ [])
moments-append [] w = refl
moments-append (Join dpid ∷ ws) w = moments-append ws w
moments-append (Leave dpid ∷ ws) w = moments-append ws w
moments-append (At moment ∷ ws) w = ap (λ ms. moment ∷ ms) (moments-append ws w)
moments-append (Of dpid what ∷ ws) w = moments-append ws w

same_moments : (ws : List WorldStim) (w : WorldStim) → moments (w ∷ []) ≡ [] → moments (ws ++ w ∷ []) ≡ moments ws
same_moments ws w is = moments-append ws w ∙ ap (λ (ms : List ℕ). moments ws ++ ms) is ∙ append-nil (moments ws)

-- one more than fewer than a million
few_more : (ws : List WorldStim) (w : WorldStim) → nat_le most_stimuli (length ws) ≡ false → length (ws ++ w ∷ []) ≤ 1000000
few_more ws w few = let len = length-append ws (w ∷ []) in grind arith

stimulus_keeps : (count : ℕ) (s : SoFar) (w : WorldStim) → Kept count s → nat_le most_stimuli (length s.session.stimuli) ≡ false
    → IsStimulus s.session.switches w → moments (w ∷ []) ≡ [] → Kept count (with_stimulus s w)
stimulus_keeps count s w kept few is none_named =
    let named = sym (same_moments s.session.stimuli w none_named) in record {
      session = record {
        switches = kept.session.switches;
        few_switches = kept.session.few_switches;
        different = kept.session.different;
        faults = kept.session.faults;
        replies = kept.session.replies;
        stimuli = all_more (IsStimulus s.session.switches) s.session.stimuli w kept.session.stimuli is;
        few_stimuli = few_more s.session.stimuli w few;
        moments_rise = subst (AllPairs (λ (moment later : ℕ). moment ≤ later)) named kept.session.moments_rise;
      };
      apps = record { starts = kept.apps.starts; replies = kept.apps.replies };
      until_now = subst (All (λ (moment : ℕ). moment ≤ s.moment)) named kept.until_now;
    }

at_keeps : (count : ℕ) (s : SoFar) (now : ℕ) → Kept count s → nat_le most_stimuli (length s.session.stimuli) ≡ false → now ≤ last_moment → s.moment ≤ now
    → Kept count (record (with_stimulus s (At now)) { moment = now })
at_keeps count s now kept few within later =
    let named = sym (moments-append s.session.stimuli (At now)) in
    let before = All-weaker (λ moment. moment ≤ s.moment) (λ moment. moment ≤ now) (λ moment below. omega arith) (moments s.session.stimuli) kept.until_now in
    record {
      session = record {
        switches = kept.session.switches;
        few_switches = kept.session.few_switches;
        different = kept.session.different;
        faults = kept.session.faults;
        replies = kept.session.replies;
        stimuli = all_more (IsStimulus s.session.switches) s.session.stimuli (At now) kept.session.stimuli within;
        few_stimuli = few_more s.session.stimuli (At now) few;
        moments_rise = subst (AllPairs (λ (moment later : ℕ). moment ≤ later)) named (all_pairs_push (λ (moment later : ℕ). moment ≤ later) (moments s.session.stimuli) now kept.session.moments_rise before);
      };
      apps = record { starts = kept.apps.starts; replies = kept.apps.replies };
      until_now = subst (All (λ (moment : ℕ). moment ≤ now)) named (all_more (λ (moment : ℕ). moment ≤ now) (moments s.session.stimuli) now before (omega arith));
    }

-- a stimulus that is no moment
abbrev IsPlain : List (ℕ × ℕ × List ℕ) → WorldStim → Type 0
IsPlain switches w = IsStimulus switches w × (moments (w ∷ []) ≡ [])

one_keeps : (count : ℕ) (s t : SoFar) (r : Result WorldStim SessionKind) → Kept count s
    → ((w : WorldStim) → r ≡ Ok w → IsPlain s.session.switches w) → one_more s r ≡ Ok t → Kept count t
one_keeps count s t r kept is e =
    let few = unless_ok (nat_le most_stimuli (length s.session.stimuli)) Range _ _ e in
    let w = bind_ok r _ _ few.1 in
    let plain = is w.0 w.1 in
    subst (Kept count) (ok_is _ _ _ refl w.2) (stimulus_keeps count s w.0 kept few.0 plain.0 plain.1)

join_line_keeps : (count : ℕ) (s t : SoFar) (dpid : List ℕ) → Kept count s → join_line s dpid ≡ Ok t → Kept count t
unfolding join_line
join_line_keeps count s t dpid kept e = one_keeps count s t (a_switch s dpid >>= λ d. Ok (Join d)) kept (λ w read.
    let d = bind_ok (a_switch s dpid) _ _ read in
    subst (IsPlain s.session.switches) (ok_is _ _ _ refl d.2) (switch_ok s dpid d.0 d.1, refl)) e

leave_line_keeps : (count : ℕ) (s t : SoFar) (dpid : List ℕ) → Kept count s → leave_line s dpid ≡ Ok t → Kept count t
unfolding leave_line
leave_line_keeps count s t dpid kept e = one_keeps count s t (a_switch s dpid >>= λ d. Ok (Leave d)) kept (λ w read.
    let d = bind_ok (a_switch s dpid) _ _ read in
    subst (IsPlain s.session.switches) (ok_is _ _ _ refl d.2) (switch_ok s dpid d.0 d.1, refl)) e

not_below : (now moment : ℕ) → nat_lt now moment ≡ false → moment ≤ now
not_below now moment test = grind arith

at_line_keeps : (count : ℕ) (s t : SoFar) (moment : List ℕ) → Kept count s → at_line s moment ≡ Ok t → Kept count t
unfolding at_line
at_line_keeps count s t moment kept e =
    let few = unless_ok (nat_le most_stimuli (length s.session.stimuli)) Range _ _ e in
    let now = bind_ok (a_number 0 last_moment moment) _ _ few.1 in
    let later = unless_ok (nat_lt now.0 s.moment) Order _ _ now.2 in
    let within = number_ok 0 last_moment moment now.0 now.1 in
    subst (Kept count) (ok_is _ _ _ refl later.1) (at_keeps count s now.0 kept few.0 within.1 (not_below now.0 s.moment later.0))

frame_line_keeps : (count : ℕ) (s t : SoFar) (dpid port hex : List ℕ) → Kept count s → frame_line s dpid port hex ≡ Ok t → Kept count t
unfolding frame_line
frame_line_keeps count s t dpid port hex kept e = one_keeps count s t _ kept (λ w read.
    let d = bind_ok (a_switch s dpid) _ _ read in
    let p = bind_ok (a_number 0 65535 port) _ _ d.2 in
    let bytes = bind_ok (some_bytes 14 9216 hex) _ _ p.2 in
    subst (IsPlain s.session.switches) (ok_is _ _ _ refl bytes.2)
    ((switch_ok s dpid d.0 d.1, ((number_ok 0 65535 port p.0 p.1).1, (bytes_ok 14 9216 hex bytes.0 bytes.1).0)), refl)) e

port_line_keeps : (count : ℕ) (s t : SoFar) (dpid port word : List ℕ) → Kept count s → port_line s dpid port word ≡ Ok t → Kept count t
unfolding port_line
port_line_keeps count s t dpid port word kept e =
    let change = known_ok (change_word word) _ _ e in
    one_keeps count s t _ kept (λ w read.
    let d = bind_ok (a_switch s dpid) _ _ read in
    let p = bind_ok (a_number 1 65280 port) _ _ d.2 in
    subst (IsPlain s.session.switches) (ok_is _ _ _ refl p.2) ((switch_ok s dpid d.0 d.1, number_ok 1 65280 port p.0 p.1), refl)) change.1

count_line_keeps : (n : ℕ) (s t : SoFar) (dpid priority packets bytes : List ℕ) → Kept n s → count_line s dpid priority packets bytes ≡ Ok t → Kept n t
unfolding count_line
count_line_keeps n s t dpid priority packets bytes kept e = one_keeps n s t _ kept (λ w read.
    let d = bind_ok (a_switch s dpid) _ _ read in
    let p = bind_ok (a_number 0 65535 priority) _ _ d.2 in
    let more_packets = bind_ok (a_number 0 last_number packets) _ _ p.2 in
    let more_bytes = bind_ok (a_number 0 last_number bytes) _ _ more_packets.2 in
    subst (IsPlain s.session.switches) (ok_is _ _ _ refl more_bytes.2) (
      (
        switch_ok s dpid d.0 d.1,
        (
          (number_ok 0 65535 priority p.0 p.1).1,
          (number_ok 0 last_number packets more_packets.0 more_packets.1).1,
          (number_ok 0 last_number bytes more_bytes.0 more_bytes.1).1,
        ),
      ),
      refl,
    )) e

raw_line_keeps : (count : ℕ) (s t : SoFar) (dpid hex : List ℕ) → Kept count s → raw_line s dpid hex ≡ Ok t → Kept count t
unfolding raw_line
raw_line_keeps count s t dpid hex kept e = one_keeps count s t _ kept (λ w read.
    let d = bind_ok (a_switch s dpid) _ _ read in
    let bytes = bind_ok (some_bytes 0 65535 hex) _ _ d.2 in
    let may = unless_ok (not (may_be_raw (reading_of bytes.0))) Raw _ _ bytes.2 in
    let sized = bytes_ok 0 65535 hex bytes.0 bytes.1 in
    subst (IsPlain s.session.switches) (ok_is _ _ _ refl may.1)
    ((switch_ok s dpid d.0 d.1, ((sized.1, sized.0.1, sized.0.2), not_false _ may.0)), refl)) e

-- ---- A line by its words

either : {A P : Type 0} (b : Bool) (x y : Result A SessionKind) (z : A) → (x ≡ Ok z → P) → (y ≡ Ok z → P) → (if b then x else y) ≡ Ok z → P
either true x y z first second e = first e
either false x y z first second e = second e

no_line : {A P : Type 0} (kind : SessionKind) (z : A) → Err kind ≡ Ok z → P
no_line kind z e = absurd cc

two_keeps : (count : ℕ) (s t : SoFar) (first second : List ℕ) → Kept count s → line_of_two s first second ≡ Ok t → Kept count t
two_keeps count s t first second kept =
    either (is_word (codes "join") first) _ _ t (join_line_keeps count s t second kept)
    (either (is_word (codes "leave") first) _ _ t (leave_line_keeps count s t second kept)
    (either (is_word (codes "at") first) _ _ t (at_line_keeps count s t second kept) (no_line Word t)))

three_keeps : (names : List (List ℕ)) (s t : SoFar) (first second third : List ℕ) → Kept (length names) s → line_of_three names s first second third ≡ Ok t → Kept (length names) t
three_keeps names s t first second third kept =
    either (is_word (codes "start") first) _ _ t (start_line_keeps names s t second third kept)
    (either (is_word (codes "raw") first) _ _ t (raw_line_keeps (length names) s t second third kept) (no_line Word t))

four_keeps : (count : ℕ) (s t : SoFar) (first second third fourth : List ℕ) → Kept count s → line_of_four s first second third fourth ≡ Ok t → Kept count t
four_keeps count s t first second third fourth kept =
    either (is_word (codes "switch") first) _ _ t (switch_line_keeps count s t second third fourth kept)
    (either (is_word (codes "fault") first) _ _ t (fault_line_keeps count s t second third fourth kept)
    (either (is_word (codes "frame") first) _ _ t (frame_line_keeps count s t second third fourth kept)
    (either (is_word (codes "port") first) _ _ t (port_line_keeps count s t second third fourth kept) (no_line Word t))))

five_keeps : (n : ℕ) (s t : SoFar) (first second third fourth fifth : List ℕ) → Kept n s → line_of_five s first second third fourth fifth ≡ Ok t → Kept n t
five_keeps n s t first second third fourth fifth kept =
    either (is_word (codes "count") first) _ _ t (count_line_keeps n s t second third fourth fifth kept) (no_line Word t)

fixed_keeps : (names : List (List ℕ)) (s t : SoFar) (words : List (List ℕ)) → Kept (length names) s → fixed_line names s words ≡ Ok t → Kept (length names) t
unfolding fixed_line
fixed_keeps names s t [] kept e = no_line Word t e
fixed_keeps names s t (a ∷ []) kept e = no_line Word t e
fixed_keeps names s t (a ∷ b ∷ []) kept e = two_keeps (length names) s t a b kept e
fixed_keeps names s t (a ∷ b ∷ c ∷ []) kept e = three_keeps names s t a b c kept e
fixed_keeps names s t (a ∷ b ∷ c ∷ d ∷ []) kept e = four_keeps (length names) s t a b c d kept e
fixed_keeps names s t (a ∷ b ∷ c ∷ d ∷ f ∷ []) kept e = five_keeps (length names) s t a b c d f kept e
fixed_keeps names s t (a ∷ b ∷ c ∷ d ∷ f ∷ g ∷ more) kept e = no_line Word t e

reply_words_keep : (names : List (List ℕ)) (s t : SoFar) (words : List (List ℕ)) → Kept (length names) s → reply_words names s words ≡ Ok t → Kept (length names) t
reply_words_keep names s t [] kept e = no_line Word t e
reply_words_keep names s t (a ∷ []) kept e = no_line Word t e
reply_words_keep names s t (a ∷ app ∷ steps) kept e = reply_line_keeps names s t app steps kept e

line_keeps : (names : List (List ℕ)) (s t : SoFar) (words : List (List ℕ)) → Kept (length names) s → line_of names s words ≡ Ok t → Kept (length names) t
unfolding line_of
line_keeps names s t words kept = either (is_reply words) _ _ t (reply_words_keep names s t words kept) (fixed_keeps names s t words kept)

-- ---- The whole text

no_session_keeps : (count : ℕ) → Kept count at_first.so_far
no_session_keeps count = record {
  session = record {
    switches = none IsSwitch;
    few_switches = omega arith;
    different = no_pairs (λ (d later : ℕ × ℕ × List ℕ). d.0 ≢ later.0);
    faults = none (IsFault []);
    replies = none (λ (x : ℕ × List ScriptStep). 1 ≤ length x.1);
    stimuli = none (IsStimulus []);
    few_stimuli = omega arith;
    moments_rise = no_pairs (λ (moment later : ℕ). moment ≤ later);
  };
  apps = record { starts = none (λ (x : ℕ × StartScript). x.0 < count); replies = none (λ (x : ℕ × List ScriptStep). x.0 < count) };
  until_now = none (λ (moment : ℕ). moment ≤ 0);
}

going_on_keeps : (count : ℕ) (r : Result SoFar SessionKind) (q : Progress) → ((t : SoFar) → r ≡ Ok t → Kept count t) → going_on r ≡ Ok q → Kept count q.so_far
going_on_keeps count (Ok t) q kept e = subst (λ (q : Progress). Kept count q.so_far) (ok_is _ _ _ refl e) (kept t refl)
going_on_keeps count (Err kind) q kept e = no_line kind q e

plain_line_keeps : (names : List (List ℕ)) (p q : Progress) (line : List ℕ) → Kept (length names) p.so_far → plain_line names p line ≡ Ok q → Kept (length names) q.so_far
unfolding plain_line
plain_line_keeps names p q line kept = either p.opened _ _ q
    (λ e. going_on_keeps (length names) (line_of names p.so_far (words_of line)) q (λ t. line_keeps names p.so_far t (words_of line) kept) (unless_ok (is_opening line) Order _ _ e).1)
    (λ e. subst (λ (q : Progress). Kept (length names) q.so_far) (ok_is _ _ _ refl (unless_ok (not (is_opening line)) Order _ _ e).1) kept)

next_line_keeps : (names : List (List ℕ)) (p q : Progress) (line : List ℕ) → Kept (length names) p.so_far → next_line names p line ≡ Ok q → Kept (length names) q.so_far
unfolding next_line
next_line_keeps names p q line kept e =
    let short = unless_ok (nat_lt most_line (length line)) Long _ _ e in
    either (is_skipped line) _ _ q
    (λ e. subst (λ (q : Progress). Kept (length names) q.so_far) (ok_is _ _ _ refl e) kept)
    (λ e. plain_line_keeps names p q line kept (unless_ok (not (list_all is_printable line)) Text _ _ e).1)
    short.1

lines_keep : (names : List (List ℕ)) (n : ℕ) (p q : Progress) (lines : List (List ℕ)) → Kept (length names) p.so_far → lines_from names n p lines ≡ Ok q → Kept (length names) q.so_far
lines_keep names n p q [] kept e = subst (λ (q : Progress). Kept (length names) q.so_far) (ok_is _ _ _ refl e) kept
lines_keep names n p q (line ∷ lines) kept e = go (next_line names p line) (λ r. next_line_keeps names p r line kept) (λ r. lines_keep names (n + 1) r q lines) e
  where
    go : (r : Result Progress SessionKind) → ((next : Progress) → r ≡ Ok next → Kept (length names) next.so_far)
        → ((next : Progress) → Kept (length names) next.so_far → lines_from names (n + 1) next lines ≡ Ok q → Kept (length names) q.so_far)
        → (in_line n r |>>=| λ next. lines_from names (n + 1) next lines) ≡ Ok q → Kept (length names) q.so_far
    go (Ok next) first rest e = rest next (first next refl) e
    go (Err kind) first rest e = absurd cc

-- A session that was read keeps the limits, and names applications that there are.
pub session_read : (names : List (List ℕ)) (n : ℕ) (text : List ℕ) (s : SessionValue) → session_text names n text ≡ Ok s → IsSession s × IsOf (length names) s
unfolding session_text
session_read names n text s e = go (lines_from names n at_first (lines_of text)) (λ q. lines_keep names n at_first q (lines_of text) (no_session_keeps (length names))) e
  where
    go : (r : Result Progress SessionFault) → ((q : Progress) → r ≡ Ok q → Kept (length names) q.so_far) → (r |>>=| λ q. Ok q.so_far.session) ≡ Ok s → IsSession s × IsOf (length names) s
    go (Ok q) kept e =
        let all = kept q refl in
        subst (λ (s : SessionValue). IsSession s × IsOf (length names) s) (ok_is _ _ _ refl e) (all.session, all.apps)
    go (Err fault) kept e = absurd cc
