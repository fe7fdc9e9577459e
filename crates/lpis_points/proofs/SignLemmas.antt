-- Machinery: signs of products over ℤ.
use Rattle.std.proofs.Common.{◌≡◌, suc, ℤ, pos, ◌*ℤ◌, neg_ℤ, ◌≤ℤ◌, ◌<ℤ◌, arith}
use Rattle.lpis_points.proofs.Common.{*ℤ_comm, ints, by_lt_z}

-- a number above 0 is not below 0
pub not_neg : (x : ℤ) → pos 0 <ℤ x → pos 0 ≤ℤ x
not_neg x h = omega (arith, ints)

-- a number above 0 is not 0
pub not_zero : (x : ℤ) → pos 0 <ℤ x → x ≡ pos 0 → ⊥
not_zero x h e = omega (arith, ints)

-- two numbers above 0 have a product above 0
pub pos-mul-pos : (a b : ℤ) → pos 0 <ℤ a → pos 0 <ℤ b → pos 0 <ℤ (a *ℤ b)
pos-mul-pos (pos (suc a)) (pos (suc b)) h k = omega (arith, ints)
pos-mul-pos _ _ h k = absurd (omega (arith, ints))

neg_mul : (a b : ℤ) → neg_ℤ a *ℤ b ≡ neg_ℤ (a *ℤ b)
neg_mul (pos (suc a)) b = omega (arith, ints)
neg_mul _ b = omega (arith, ints)

-- a number below 0 times one above 0 is below 0
pub neg-mul-pos : (a b : ℤ) → a <ℤ pos 0 → pos 0 <ℤ b → (a *ℤ b) <ℤ pos 0
neg-mul-pos a b h k = let n : pos 0 <ℤ neg_ℤ a = omega (arith, ints) in omega (arith, ints, pos-mul-pos (neg_ℤ a) b n k, neg_mul a b)

-- weak signs
pub pos-mul-not_neg : (a b : ℤ) → pos 0 ≤ℤ a → pos 0 ≤ℤ b → pos 0 ≤ℤ (a *ℤ b)
pos-mul-not_neg (pos a) (pos b) h k = omega (arith, ints)
pos-mul-not_neg _ _ h k = absurd (omega (arith, ints))

-- a number not below 0 times one not above 0 is not above 0
pub pos-mul-not_pos : (a b : ℤ) → pos 0 ≤ℤ a → b ≤ℤ pos 0 → (a *ℤ b) ≤ℤ pos 0
pos-mul-not_pos a b h k = let n : pos 0 ≤ℤ neg_ℤ b = omega (arith, ints) in omega (arith, ints, pos-mul-not_neg (neg_ℤ b) a n h, neg_mul b a)

-- a number not above 0 times one not below 0 is not above 0
pub neg-mul-not_neg : (a b : ℤ) → a ≤ℤ pos 0 → pos 0 ≤ℤ b → (a *ℤ b) ≤ℤ pos 0
neg-mul-not_neg a b h k = let n : pos 0 ≤ℤ neg_ℤ a = omega (arith, ints) in omega (arith, ints, pos-mul-not_neg (neg_ℤ a) b n k, neg_mul a b)

-- two numbers not above 0 have a product not below 0
pub neg-mul-not_pos : (a b : ℤ) → a ≤ℤ pos 0 → b ≤ℤ pos 0 → pos 0 ≤ℤ (a *ℤ b)
neg-mul-not_pos a b h k = let n : pos 0 ≤ℤ neg_ℤ a = omega (arith, ints) in omega (arith, ints, pos-mul-not_pos (neg_ℤ a) b n k, neg_mul a b)

-- a number whose product with one above 0 is 0 is itself 0
pub zero_of_mul : (o d : ℤ) → pos 0 <ℤ d → o *ℤ d ≡ pos 0 → o ≡ pos 0
zero_of_mul o d h e = by_lt_z o (pos 0)
    (λ n. let l = neg-mul-pos o d n h in absurd (omega (arith, ints)))
    (λ k. by_lt_z (pos 0) o (λ p. let l = pos-mul-pos o d p h in absurd (omega (arith, ints))) (λ l. omega (arith, ints)))

-- the sign of a factor, from that of the product with a positive one
pub not_neg_of_mul : (d z : ℤ) → pos 0 <ℤ d → pos 0 ≤ℤ (d *ℤ z) → pos 0 ≤ℤ z
not_neg_of_mul d z h k = by_lt_z z (pos 0) (λ n. let l = neg-mul-pos z d n h in absurd (omega (arith, ints, *ℤ_comm d z))) (λ l. l)

-- a number whose product with one above 0 is not above 0 is itself not above 0
pub not_pos_of_mul : (d z : ℤ) → pos 0 <ℤ d → (d *ℤ z) ≤ℤ pos 0 → z ≤ℤ pos 0
not_pos_of_mul d z h k = by_lt_z (pos 0) z (λ n. let l = pos-mul-pos d z h n in absurd (omega (arith, ints))) (λ l. l)
