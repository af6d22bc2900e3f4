-- What follows about entries as the engine shows them, with what they have lost and with their owners' flags: packets do to them what they do to
-- the switch's own. Where an entry has what is left of its timeout, both go together. Where nothing was lost, a notice that is shown says what the
-- switch's own says.
use Rattle.std.proofs.Common.{◌≡◌, ℕ, ◌+◌, ◌-◌, ◌%◌, ◌^◌, ◌<◌, ◌≤◌, ◌⊎◌, List, [], ◌∷◌, map, filter, Option, Some, None, refl, sym, ap, ap₂, ◌∙◌, arith, inl, inr}
use Rattle.std.proofs.lemmas.Bool.{cases_Bool, ne_eqb}
use Rattle.of_match.specs.declared.key.Key.{Key}
use Rattle.flow_timeouts.specs.declared.timeouts.Reason.{Reason}
use Rattle.flow_timeouts.specs.Timeouts.{end_of as end_at, first_end, deadline_of}
use Rattle.flow_table.specs.declared.entry.Entry.{Entry}
use Rattle.flow_table.specs.declared.lost.Lost.{Lost}
use Rattle.flow_table.specs.declared.view.ViewRow.{ViewRow}
use Rattle.flow_table.specs.Corrected.{lost_at, with_lost, shown_entry}
use Rattle.flow_table.specs.laws.CorrectedLaws.{key-shown_entry, actions-shown_entry, acted-shown_entry, serial-shown_entry}
use Rattle.flow_table.specs.Expiry.{by_deadline, deadline, is_due, notice_at, expiry_notices}
use Rattle.flow_table.specs.Step.{flow_removed}
use Rattle.undo_laws.specs.CorrectedSwitch.{with_counters, with_use, GoesAlong, GoesWith, GoTogether, HasRest, HaveRest, AskAll, asks_shown, owner_flags, is_asked_for}
use Rattle.undo_laws.specs.laws.CorrectedSwitchLaws.{expiry-shown, expiry-all}

-- ---- What was lost

counters-with_lost : (o : Option Lost) (packets bytes : ℕ) (e : Entry) → with_counters packets bytes (with_lost o e) ≡ with_lost o (with_counters packets bytes e)
counters-with_lost None packets bytes e = refl
counters-with_lost (Some l) packets bytes e =
    let p : ((e.packets + l.packets) % 2 ^ 64 + packets) % 2 ^ 64 ≡ ((e.packets + packets) % 2 ^ 64 + l.packets) % 2 ^ 64 = omega arith in
    let b : ((e.bytes + l.bytes) % 2 ^ 64 + bytes) % 2 ^ 64 ≡ ((e.bytes + bytes) % 2 ^ 64 + l.bytes) % 2 ^ 64 = omega arith in
    ap₂ (λ (m n : ℕ). record e { packets = m; bytes = n; installed = e.installed - l.age; hard = l.hard }) p b

use-with_lost : (o : Option Lost) (now : ℕ) (e : Entry) → with_use now (with_lost o e) ≡ with_lost o (with_use now e)
use-with_lost None now e = refl
use-with_lost (Some l) now e = refl

cookie-with_lost : (o : Option Lost) (e : Entry) → (with_lost o e).cookie ≡ e.cookie
cookie-with_lost None e = refl
cookie-with_lost (Some l) e = refl

idle-with_lost : (o : Option Lost) (e : Entry) → (with_lost o e).idle ≡ e.idle
idle-with_lost None e = refl
idle-with_lost (Some l) e = refl

used-with_lost : (o : Option Lost) (e : Entry) → (with_lost o e).used ≡ e.used
used-with_lost None e = refl
used-with_lost (Some l) e = refl

-- the end of the hard timeout
rest-ends : (installed hard age whole : ℕ) → age ≤ installed → ((hard ≡ 0) × (whole ≡ 0)) ⊎ ((0 < hard) × (hard + age ≡ whole)) → end_at (installed - age) whole ≡ end_at installed hard
rest-ends installed hard age whole old (inl none) = rw (none.0, none.1) refl
rest-ends installed hard age whole old (inr rest) =
    rw (ne_eqb whole 0 (λ e. omega (arith, e, rest.0, rest.1)), ne_eqb hard 0 (λ e. omega (arith, e, rest.0)))
    (ap (λ (n : ℕ). some n) (omega (arith, old, rest.1)))
  where
    some : ℕ → Option ℕ
    some n = Some n

goes-with_lost : (o : Option Lost) (flags : ℕ) (e : Entry) → HasRest o e → deadline (with_lost o (record e { flags = flags })) ≡ deadline e
unfolding deadline_of
goes-with_lost None flags e h = refl
goes-with_lost (Some l) flags e h = ap (λ (o : Option ℕ). first_end o (end_at e.used e.idle)) (rest-ends e.installed e.hard l.age l.hard h.0 h.1)

hard-with_lost : (o : Option Lost) (flags : ℕ) (e : Entry) → HasRest o e
    → ((e.hard ≡ 0) × ((with_lost o (record e { flags = flags })).hard ≡ 0)) ⊎ (e.installed + e.hard ≡ (with_lost o (record e { flags = flags })).installed + (with_lost o (record e { flags = flags })).hard)
hard-with_lost None flags e h = inr refl
hard-with_lost (Some l) flags e h = elim h.1 [
  | inl none ↦ inl none
  | inr rest ↦ inr (omega (arith, h.0, rest.1))
]

-- ---- Entries as they are shown

module _ (rows : List ViewRow) (lost : List (Key × Lost)) where
  pub shown_entry-goes_along : GoesAlong (shown_entry rows lost)
  unfolding shown_entry
  shown_entry-goes_along = record {
    corrects = record {
      key = key-shown_entry rows lost;
      actions = actions-shown_entry rows lost;
      acted = λ e actions. acted-shown_entry rows lost e actions;
      serial = serial-shown_entry rows lost;
    };
    counters = λ packets bytes e. counters-with_lost (lost_at e.key lost) packets bytes (record e { flags = owner_flags rows e.key });
    used_now = λ now e. use-with_lost (lost_at e.key lost) now (record e { flags = owner_flags rows e.key });
    cookie = λ e. cookie-with_lost (lost_at e.key lost) (record e { flags = owner_flags rows e.key });
    idle = λ e. idle-with_lost (lost_at e.key lost) (record e { flags = owner_flags rows e.key });
    used = λ e. used-with_lost (lost_at e.key lost) (record e { flags = owner_flags rows e.key });
  }

  shown_entry-goes_with : (e : Entry) → HasRest (lost_at e.key lost) e → GoesWith (shown_entry rows lost) e
  unfolding shown_entry
  shown_entry-goes_with e h = record {
    deadline = goes-with_lost (lost_at e.key lost) (owner_flags rows e.key) e h;
    hard = hard-with_lost (lost_at e.key lost) (owner_flags rows e.key) e h;
  }

  pub shown_entry-together : (es : List Entry) → HaveRest lost es → GoTogether (shown_entry rows lost) es
  shown_entry-together [] all = tt
  shown_entry-together (e ∷ es) all = (shown_entry-goes_with e all.0, shown_entry-together es all.1)

-- ---- Where nothing was lost

module _ (rows : List ViewRow) where
  pub rest-of_none : (es : List Entry) → HaveRest [] es
  rest-of_none [] = tt
  rest-of_none (e ∷ es) = (tt, rest-of_none es)

  removed-owned : (d : Option (ℕ × Reason)) (e : Entry) → flow_removed (notice_at d (shown_entry rows [] e)) ≡ flow_removed (notice_at d e)
  unfolding shown_entry
  removed-owned None e = refl
  removed-owned (Some d) e = refl

  asked-by_key : (d : Option (ℕ × Reason)) (e : Entry) → is_asked_for (owner_flags rows) (notice_at d e) ≡ asks_shown (shown_entry rows []) e
  unfolding shown_entry
  asked-by_key None e = refl
  asked-by_key (Some d) e = refl

  told-owned : (es : List Entry) → map flow_removed (map (λ e. notice_at (deadline e) (shown_entry rows [] e)) (filter (asks_shown (shown_entry rows [])) es)) ≡ map flow_removed (filter (is_asked_for (owner_flags rows)) (map (λ e. notice_at (deadline e) e) es))
  told-owned [] = refl
  told-owned (e ∷ es) =
      elim (cases_Bool (asks_shown (shown_entry rows []) e)) [
        | inl asked ↦
            rw (asked, asked-by_key (deadline e) e ∙ asked) (ap₂ (λ x xs. x ∷ xs) (removed-owned (deadline e) e) (told-owned es))
        | inr not_asked ↦ rw (not_asked, asked-by_key (deadline e) e ∙ not_asked) (told-owned es)
      ]

  -- Of the notices of expiry the owners see those that they asked for.
  pub expiry-owned : (now : ℕ) (es : List Entry) → AskAll es → map flow_removed (expiry_notices now (map (shown_entry rows []) es)) ≡ map flow_removed (filter (is_asked_for (owner_flags rows)) (expiry_notices now es))
  expiry-owned now es all =
      ap (map flow_removed) (expiry-shown (shown_entry rows []) (shown_entry-goes_along rows []) now es (shown_entry-together rows [] es (rest-of_none es)))
      ∙ told-owned (by_deadline (filter (is_due now) es))
      ∙ ap (λ ns. map flow_removed (filter (is_asked_for (owner_flags rows)) ns)) (sym (expiry-all (shown_entry rows []) (shown_entry-goes_along rows []) now es all))
