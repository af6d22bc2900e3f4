-- Laws of notes: what is noted behind others, and which notes say what a call says.
use Rattle.std.specs.Prelude.{◌≡◌, ℕ, false, List, [], ◌∷◌, ◌+◌, ◌<◌, ◌++◌, length, take, get_or, ◌≤◌, refl}
use Rattle.std.proofs.Common.{sym, ap, subst, ◌∙◌, append_assoc}
use Rattle.std.proofs.lemmas.List.{append-nil, take_more, take_all}
use Rattle.telling_world.specs.declared.note.Note.{Note}
use Rattle.telling_world.specs.declared.note.Note.TheVariants as notes
use Rattle.telling_world.specs.Story.{untold, Told, after_note, told_from, told, noted, is_byte, Spelled, NoneWait}

pub told-append : {B : Type 0} (t : Told) (xs ys : List (Note × B)) → told_from t (xs ++ ys) ≡ told_from (told_from t xs) ys
unfolding told_from
told-append t [] ys = refl
told-append t (x ∷ xs) ys = told-append (after_note x.0 t) xs ys

pub told-more : {B : Type 0} (xs : List (Note × B)) (x : Note × B) → told (xs ++ x ∷ []) ≡ after_note x.0 (told xs)
unfolding told_from
told-more xs x = told-append _ xs (x ∷ [])

pub spelled_none : {B : Type 0} (xs : List (Note × B)) → Spelled [] xs xs
spelled_none xs = (refl, sym (append-nil (told xs).waiting))

pub spelled_more : {B : Type 0} (bytes : List ℕ) (old xs : List (Note × B)) (byte : ℕ) (y : B) → Spelled bytes old xs → Spelled (bytes ++ byte ∷ []) old (xs ++ (notes.Byte byte, y) ∷ [])
spelled_more bytes old xs byte y is =
    let more = told-more xs (notes.Byte byte, y) in (
      ap (λ (t : Told). t.story) more ∙ is.0,
      ap (λ (t : Told). t.waiting) more ∙ ap (λ (ws : List ℕ). ws ++ byte ∷ []) is.1 ∙ append_assoc (told old).waiting bytes (byte ∷ []),
    )

behind : (note : Note) (t : Told) → is_byte note ≡ false → after_note note t ≡ record { story = noted note t.waiting t.story; waiting = [] }
behind (notes.Byte b) t is = absurd cc
behind notes.Opened t is = refl
behind notes.Shut t is = refl
behind (notes.From d) t is = refl
behind (notes.Joined d) t is = refl
behind (notes.Left d) t is = refl
behind (notes.Moment m) t is = refl
behind notes.Idle t is = refl
behind notes.End t is = refl
behind notes.Untellable t is = refl
behind (notes.Started a) t is = refl
behind (notes.NotStarted a) t is = refl
behind (notes.Gave a) t is = refl
behind (notes.Gone a) t is = refl
behind (notes.Took a r) t is = refl
behind (notes.Closed a r) t is = refl
behind (notes.Silent a r) t is = refl
behind (notes.Ended a) t is = refl
behind (notes.Sent d) t is = refl
behind (notes.Unsent d) t is = refl
behind (notes.Got d) t is = refl
behind (notes.Unreceived d) t is = refl
behind notes.Short t is = refl
behind (notes.ShortOf d) t is = refl

-- one byte more of those that stand in a list
pub spelled_next : {B : Type 0} (bytes : List ℕ) (n d : ℕ) (old xs : List (Note × B)) (y : B) → n < length bytes → Spelled (take n bytes) old xs → Spelled (take (n + 1) bytes) old (xs ++ (notes.Byte (get_or bytes n d), y) ∷ [])
spelled_next bytes n d old xs y less is =
    subst (λ (bs : List ℕ). Spelled bs old (xs ++ (notes.Byte (get_or bytes n d), y) ∷ [])) (sym (take_more bytes n d less)) (spelled_more (take n bytes) old xs (get_or bytes n d) y is)

-- all of them
pub spelled_all : {B : Type 0} (bytes : List ℕ) (n : ℕ) (old xs : List (Note × B)) → length bytes ≤ n → Spelled (take n bytes) old xs → Spelled bytes old xs
spelled_all bytes n old xs all is = subst (λ (bs : List ℕ). Spelled bs old xs) (take_all n bytes all) is

-- nothing is noted
pub none_noted : {B : Type 0} (xs : List (Note × B)) → xs ≡ [] → ((told xs).story ≡ untold) × NoneWait xs
unfolding told_from
none_noted xs is = (ap (λ (ys : List (Note × _)). (told ys).story) is, ap (λ (ys : List (Note × _)). (told ys).waiting) is)

-- behind a list in which no byte waits, and the bytes of it, it is noted with these
pub note_kept : {B : Type 0} (old mid : List (Note × B)) (bytes : List ℕ) (note : Note) (y : B) → NoneWait old → Spelled bytes old mid → is_byte note ≡ false
    → ((told (mid ++ (note, y) ∷ [])).story ≡ noted note bytes (told old).story) × NoneWait (mid ++ (note, y) ∷ [])
note_kept old mid bytes note y none is apart =
    let more = told-more mid (note, y) ∙ behind note (told mid) apart in (
      ap (λ (t : Told). t.story) more ∙ ap (λ (ws : List ℕ). noted note ws (told mid).story) (is.1 ∙ ap (λ (ws : List ℕ). ws ++ bytes) none) ∙ ap (noted note bytes) is.0,
      ap (λ (t : Told). t.waiting) more,
    )
