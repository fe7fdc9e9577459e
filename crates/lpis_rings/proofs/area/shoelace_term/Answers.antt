use Rattle.std.proofs.Common.{◌≡◌, ◌∙◌, ◌≤◌, ap₂, ℤ, ◌*ℤ◌, ◌-ℤ◌, nat_abs, subst, sym}
use Rattle.lpis_rings.proofs.Common.{most_term}
use Rattle.lpis_rings.proofs.AreaLemmas.{coordinate-is, term-fits, term-is}
use Rattle.lpis_rings.proofs.area.shoelace_term.Goals as goal

pub overflow_sub-result : goal.overflow_sub-result
overflow_sub-result c = term-fits c.product.result c.product-2.result c.product.ensures.small c.product-2.ensures.small

pub returns-clause-value : goal.returns-clause-value
returns-clause-value c =
    let a = c.args.a in
    let b = c.args.b in
    let first : c.product.result ≡ a.x *ℤ b.y = c.product.ensures.value ∙ ap₂ (λ (x y : ℤ). x *ℤ y) (coordinate-is a.x a.x_in_range) (coordinate-is b.y b.y_in_range) in
    let second : c.product-2.result ≡ b.x *ℤ a.y = c.product-2.ensures.value ∙ ap₂ (λ (x y : ℤ). x *ℤ y) (coordinate-is b.x b.x_in_range) (coordinate-is a.y a.y_in_range) in
    (term-is c.product.result c.product-2.result c.product.ensures.small c.product-2.ensures.small).0 ∙ ap₂ (λ (x y : ℤ). x -ℤ y) first second

pub returns-clause-small : goal.returns-clause-small
returns-clause-small c =
    let t = term-is c.product.result c.product-2.result c.product.ensures.small c.product-2.ensures.small in
    subst (λ (z : ℤ). nat_abs z ≤ most_term) (sym t.0) t.1
