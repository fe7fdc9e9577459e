-- The kept row of an identifier, by its index.
use Rattle.std.proofs.Common.{◌≡◌, ◌∙◌, ◌≤◌, ◌+◌, ℕ, suc, List, [], ◌∷◌, Option, Some, None, Bool, cond, not, length, slice_get, refl, sym, ap, arith}
use Rattle.std.proofs.lemmas.Grind.{common_steps}
use Rattle.std.specs.List.{ItemBy, position, position_or_len}
use Rattle.std.specs.Option.{option_map}
use Rattle.std.proofs.lemmas.List.Folds.{find_at}
use Rattle.std.proofs.lemmas.Option.{slice_get-get_or, slice_get_past}
use Rattle.lpis_tables.specs.Ids.{same_id}
use Rattle.lpis_country_seam.specs.declared.kept.KeptRow.{KeptRow}
use Rattle.lpis_country_seam.specs.private.Kept.{row_ids}
use Rattle.lpis_country_seam.specs.private.Testing.{row_named}

abbrev has : List ℕ → KeptRow → Bool
has id o = same_id id o.parcel.id

place : (p : List ℕ → Bool) (xs : List (List ℕ)) (i : ℕ) → position p xs ≡ Some i → position_or_len p xs ≡ i
place p xs i e = grind (arith, common_steps)

no-place : (p : List ℕ → Bool) (xs : List (List ℕ)) → position p xs ≡ None → length xs ≤ position_or_len p xs
no-place p xs e = grind (arith, common_steps)

by-ids : (id : List ℕ) (xs : List KeptRow) → position_or_len (same_id id) (row_ids xs) ≡ position_or_len (has id) xs
by-ids id [] = refl
by-ids id (x ∷ xs) = ap (λ (n : ℕ). cond (not (same_id id x.parcel.id)) (1 + n) 0) (by-ids id xs)

as-many : (xs : List KeptRow) → length (row_ids xs) ≡ length xs
as-many [] = refl
as-many (x ∷ xs) = ap suc (as-many xs)

item : {R X : Type 0} (now : R → X) (xs : List X) (i : ℕ) (r : Option R) → ItemBy now xs i i r → option_map now r ≡ slice_get xs i
item now xs i None l = sym (slice_get_past xs i l.3)
item now xs i (Some x) l = ap Some l.1 ∙ sym (slice_get-get_or xs i (now x) l.3.0)

-- the row at the index of an identifier
pub row-found : {R : Type 0} (now : R → KeptRow) (id : List ℕ) (keys : List (List ℕ)) (xs rows : List KeptRow) (at : Option ℕ) (i : ℕ) (r : Option R) → xs ≡ rows → keys ≡ row_ids rows
    → at ≡ position (same_id id) keys → at ≡ Some i → ItemBy now xs i i r → option_map now r ≡ row_named rows id
row-found now id keys xs rows at i r same own is found lent =
    item now xs i r lent ∙ ap (λ (l : List KeptRow). slice_get l i) same
    ∙ ap (λ (k : ℕ). slice_get rows k) (sym (place (same_id id) (row_ids rows) i (ap (position (same_id id)) (sym own) ∙ sym is ∙ found)) ∙ by-ids id rows) ∙ sym (find_at (has id) rows)

-- where an identifier has no index, there is no kept row of it
pub row-missing : (id : List ℕ) (keys : List (List ℕ)) (rows : List KeptRow) (at : Option ℕ) → keys ≡ row_ids rows → at ≡ position (same_id id) keys → at ≡ None → None ≡ row_named rows id
row-missing id keys rows at own is missing =
    let past : length rows ≤ position_or_len (has id) rows = let h = no-place (same_id id) (row_ids rows) (ap (position (same_id id)) (sym own) ∙ sym is
    ∙ missing) in let s = as-many rows in let b = by-ids id rows in omega (arith, h, s, b) in
    sym (find_at (has id) rows ∙ slice_get_past rows (position_or_len (has id) rows) past)
