-- The index of an identifier.
use Rattle.std.proofs.Common.{◌≡◌, [], ℕ, List, get_or, sym, ap, ◌∙◌, IfSome, Option, Some, None, position, slice_get}
use Rattle.std.proofs.lemmas.List.Quantifiers.{position-Some}
use Rattle.std.proofs.lemmas.Option.{slice_get-get_or}
use Rattle.std.proofs.lemmas.Slice.Eq.{bytes_eq-Decides}
use Rattle.lpis_tables.specs.Ids.{same_id}

-- the index of an identifier has it
pub at-position : (ids : List (List ℕ)) (id : List ℕ) (r : Option ℕ) → r ≡ position (same_id id) ids → IfSome r (λ i. slice_get ids i ≡ Some id)
at-position ids id None e = tt
at-position ids id (Some i) e =
    let here = position-Some (same_id id) ids i [] (sym e) in
    slice_get-get_or ids i [] here.0 ∙ ap Some (sym ((bytes_eq-Decides id (get_or ids i [])).0 here.1))
