use Rattle.std.proofs.Common.{◌≡◌, ◌+◌, ◌&&◌, nat_lt, true, false, sym, ◌∙◌, subst}
use Rattle.lpis_pairs.proofs.Common.{Extent, extent_of}
use Rattle.lpis_pairs.proofs.ExtentLemmas.{told_apart, told_near}
use Rattle.lpis_pairs.proofs.overlaps.overlap_of.Goals as goal

abbrev InHeight : Extent → Extent → Type 0
InHeight x y = (nat_lt x.bottom y.top && nat_lt y.bottom x.top) ≡ false

abbrev Well : Extent → Extent → Type 0
Well x y =
    ((nat_lt (x.left + 1) y.right && nat_lt (x.bottom + 1) y.top)
    && (nat_lt (y.left + 1) x.right && nat_lt (y.bottom + 1) x.top)) ≡ true

pub returns-then-not-overlap_in_height : goal.returns-then-not-overlap_in_height
returns-then-not-overlap_in_height c = λ t u e f.
    told_apart t u (subst (λ (x : Extent). InHeight x (extent_of u)) e (subst (λ (y : Extent). InHeight c.args.first.now y) f
    (sym c.overlap_in_height.ensures ∙ c.if-not-overlap_in_height.true)))

pub returns-then-overlap_well : goal.returns-then-overlap_well
returns-then-overlap_well c = λ t u e f.
    told_near t u (subst (λ (x : Extent). Well x (extent_of u)) e (subst (λ (y : Extent). Well c.args.first.now y) f
    (sym c.overlap_well.ensures ∙ c.if-overlap_well.true)))
