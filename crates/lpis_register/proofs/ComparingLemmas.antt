-- Two lists of identifiers that ascend and have the same ones are equal; histories that are the same are so release by release.
use Rattle.std.proofs.Common.{◌≡◌, ◌∙◌, ◌||◌, Bool, ℕ, zero, suc, List, [], ◌∷◌, is_eq, nat_cmp, ap, refl, sym}
use Rattle.std.proofs.lemmas.Cmp.{nat_list_cmp_total}
use Rattle.std.proofs.lemmas.Map.Lookups.{btree_set_from_contains, exact_bytes}
use Rattle.std.specs.Cmp.Lexicographic.{slice_cmp}
use Rattle.std.specs.List.{list_any}
use Rattle.lpis_tables.specs.Ids.{has_id, same_id}
use Rattle.lpis_lineage.proofs.Shared.{same-by_order}
use Rattle.lpis_lineage.specs.Order.{IsAscending}
use Rattle.lpis_register_rows.specs.Histories.{IsSameHistory}
use Rattle.lpis_register.proofs.Common.{Entry}
use Rattle.lpis_register.specs.private.Alike.{AreAlike}

-- ---- identifiers

has_by_order : (ids : List (List ℕ)) (q : List ℕ) → list_any (λ k. is_eq (slice_cmp nat_cmp q k)) ids ≡ has_id ids q
has_by_order [] q = refl
has_by_order (x ∷ xs) q =
    ap (λ (b : Bool). b || list_any (λ k. is_eq (slice_cmp nat_cmp q k)) xs) (sym (same-by_order q x))
    ∙ ap (λ (b : Bool). same_id q x || b) (has_by_order xs q)

-- lists that ascend and have the same identifiers are equal
pub same_ids : (xs ys : List (List ℕ)) → IsAscending xs → IsAscending ys → ((q : List ℕ) → has_id xs q ≡ has_id ys q) → xs ≡ ys
same_ids xs ys a b alike =
    btree_set_from_contains nat_list_cmp_total (record { keys = xs }) (record { keys = ys }) a b (λ q. has_by_order xs q ∙ alike q ∙ sym (has_by_order ys q)) exact_bytes

-- ---- releases

-- the first ones of histories that are the same are alike, and the others are so too
pub alike_all : (h k : List Entry) → IsSameHistory h k → AreAlike h k
alike_all [] [] same = tt
alike_all [] (d ∷ k) same = absurd (let n = same.lengths in cc)
alike_all (e ∷ h) [] same = absurd (let n = same.lengths in cc)
alike_all (e ∷ h) (d ∷ k) same = (
  record { year = same.years zero; live = same.sets zero; rows = same.rows zero },
  alike_all h k (record {
    lengths = (let n = same.lengths in cc);
    years = λ i. same.years (suc i);
    sets = λ i. same.sets (suc i);
    rows = λ i. same.rows (suc i);
  }),
)
