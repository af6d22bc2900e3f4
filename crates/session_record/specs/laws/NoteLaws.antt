-- Laws of notes: two in a row, and none.
use Rattle.std.specs.Prelude.{◌≡◌, List, [], ◌∷◌, ◌++◌, Option, Some, None, refl, ◌⊎◌}
use Rattle.std.specs.Option.{option_map}
use Rattle.std.proofs.Common.{sym, ap, ◌∙◌, inl, inr}
use Rattle.std.proofs.lemmas.List.{append-nil}
use Rattle.std.proofs.Common.{append_assoc}
use Rattle.session_record.specs.Deeds.{Deed, Notes}

pub notes_nothing : (before : Option (List Deed)) → Notes [] before before
notes_nothing None = inl refl
notes_nothing (Some deeds) = inr (ap Some (sym (append-nil deeds)))

on_none : (more : List Deed) (after : Option (List Deed)) → Notes more None after → after ≡ None
on_none more after (inl is) = is
on_none more after (inr is) = is

on_some : (first more deeds : List Deed) (after : Option (List Deed)) → Notes more (Some (deeds ++ first)) after → Notes (first ++ more) (Some deeds) after
on_some first more deeds after (inl is) = inl is
on_some first more deeds after (inr is) = inr (is ∙ ap Some (append_assoc deeds first more))

pub notes_twice : (first more : List Deed) (before between after : Option (List Deed)) → Notes first before between → Notes more between after → Notes (first ++ more) before after
notes_twice first more before between after (inl is) later = inl (on_none more after (rw is at later))
notes_twice first more None between after (inr is) later = inl (on_none more after (rw is at later))
notes_twice first more (Some deeds) between after (inr is) later = on_some first more deeds after (rw is at later)
