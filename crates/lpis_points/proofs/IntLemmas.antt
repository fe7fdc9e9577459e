-- Machinery: laws of ℤ that std lacks: `*ℤ` is associative and distributes over `+ℤ`.
use Rattle.std.proofs.Common.{◌≡◌, ℕ, ◌*◌, ℤ, pos, ◌+ℤ◌, ◌*ℤ◌, ap, arith}
use Rattle.lpis_points.proofs.Common.{ints}
use borrow.Author.Differences.{up, down, sum_is_lem, product_is}

-- a number times a sum is the sum of the two products
pub mul-add_z : (a b c : ℤ) → a *ℤ (b +ℤ c) ≡ a *ℤ b +ℤ a *ℤ c
mul-add_z a b c =
    let e₁ = ap (λ (t : ℕ). up a * t) (sum_is_lem b c) in
    let e₂ = ap (λ (t : ℕ). down a * t) (sum_is_lem b c) in
    omega (arith, ints)

-- products of whole numbers are associative
pub mul_assoc_z : (a b c : ℤ) → (a *ℤ b) *ℤ c ≡ a *ℤ (b *ℤ c)
mul_assoc_z a b c =
    let l₁ = ap (λ (t : ℕ). t * up c) ((product_is a b).0) in
    let l₂ = ap (λ (t : ℕ). t * down c) ((product_is a b).0) in
    let l₃ = ap (λ (t : ℕ). t * up c) ((product_is a b).1) in
    let l₄ = ap (λ (t : ℕ). t * down c) ((product_is a b).1) in
    let r₁ = ap (λ (t : ℕ). up a * t) ((product_is b c).0) in
    let r₂ = ap (λ (t : ℕ). down a * t) ((product_is b c).0) in
    let r₃ = ap (λ (t : ℕ). up a * t) ((product_is b c).1) in
    let r₄ = ap (λ (t : ℕ). down a * t) ((product_is b c).1) in
    omega (arith, ints)

-- one times a number is that number
pub one-mul_z : (a : ℤ) → pos 1 *ℤ a ≡ a
one-mul_z a = omega (arith, ints)
