-- The areas of parcels, added.
use Rattle.std.proofs.Common.{◌≡◌, ◌∙◌, ◌≤◌, ◌+◌, ◌*◌, ◌++◌, sym, ap₂, arith, ℕ, ℤ, ◌+ℤ◌, nat_abs, List, length}
use Rattle.std.proofs.lemmas.Int.{ints}
use Rattle.std.proofs.lemmas.List.{length-append}
use Rattle.std.proofs.Math.Nat.{mul-add}
use Rattle.lpis_points.proofs.Shared.{int_sum_by-append}
use Rattle.lpis_rings.specs.Area.{area2}
use Rattle.lpis_rings.specs.AreaBounds.{most_area}
use Rattle.lpis_release.specs.declared.parcel.Parcel.{Parcel}
use Rattle.lpis_release.specs.Release.{Contents}
use Rattle.lpis_release.specs.Weighted.{most_weighted, weighted2}
use Rattle.lpis_tables.specs.Table.{most_rows}
use Rattle.lpis_run.specs.Area.{most_printed}
use Rattle.lpis_run.specs.declared.areas.Areas.{Areas}
use Rattle.lpis_run.specs.Areas.{AreasOf}

-- a sum is no greater than both
sum-small : (a b c : ℤ) → c ≡ a +ℤ b → nat_abs c ≤ nat_abs a + nat_abs b
sum-small a b c e = omega (arith, ints, e)

both-small : (most m n : ℕ) (a b c : ℤ) → c ≡ a +ℤ b → nat_abs a ≤ most * m → nat_abs b ≤ most * n → nat_abs c ≤ most * (m + n)
both-small most m n a b c e small small' =
    let split : most * (m + n) ≡ most * m + most * n = mul-add most m n in
    omega (arith, split, small, small', sum-small a b c e)

-- the areas of parcels, and of others
pub areas_of_both : (r : Contents) (ks ls : List Parcel) (a b c : Areas) → c.area ≡ a.area +ℤ b.area → c.weighted ≡ a.weighted +ℤ b.weighted → AreasOf r ks a → AreasOf r ls b
    → AreasOf r (ks ++ ls) c
areas_of_both r ks ls a b c area weighted of also = record {
  area = area ∙ ap₂ (λ (x y : ℤ). x +ℤ y) of.area also.area ∙ sym (int_sum_by-append (λ (k : Parcel). area2 k.polygon) ks ls);
  weighted = weighted ∙ ap₂ (λ (x y : ℤ). x +ℤ y) of.weighted also.weighted ∙ sym (int_sum_by-append (λ (k : Parcel). weighted2 r k.id) ks ls);
  area_small = rw (length-append ks ls) (both-small most_area (length ks) (length ls) a.area b.area c.area area of.area_small also.area_small);
  weighted_small = rw (length-append ks ls) (both-small most_weighted (length ks) (length ls) a.weighted b.weighted c.weighted weighted of.weighted_small also.weighted_small);
}

-- the areas of as many parcels as a table has are printed
pub area_printed : (n x : ℕ) → n ≤ most_rows → x ≤ most_area * n → x ≤ most_printed
area_printed n x few small = omega (arith, few, small)

-- the weighted areas of as many parcels as a table has are printed
pub weighted_printed : (n x : ℕ) → n ≤ most_rows → x ≤ most_weighted * n → x ≤ most_printed
weighted_printed n x few small = omega (arith, few, small)
