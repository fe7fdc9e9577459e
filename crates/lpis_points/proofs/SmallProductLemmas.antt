-- A product in 128 bits, and one in 64.
use Rattle.std.proofs.Common.{◌≡◌, ◌*◌, ◌^◌, ◌<◌, ◌≤◌, ◌*ℤ◌, ℕ, ℤ, w64, arith, to_z-of_z, unsigned_abs, mul-le-mul}
use Rattle.std.proofs.lemmas.Int.{fits_signed_mul, unsigned_abs-mul}
use Rattle.lpis_points.proofs.Common.{w128, ints}
use mir.Val.{SFits, of_z, to_z}

-- what the machine makes of two numbers
abbrev machine_product : ℤ → ℤ → ℤ
machine_product x y = to_z w128 (of_z w128 (to_z w128 (of_z w128 x) *ℤ to_z w128 (of_z w128 y)))

-- the machine's product of two numbers in bounds whose product fits is theirs, and at most that of the bounds
pub small_product : (x y : ℤ) (a b : ℕ) → SFits w128 x → SFits w128 y → unsigned_abs x ≤ a → unsigned_abs y ≤ b → a * b < 2 ^ 127
    → (machine_product x y ≡ x *ℤ y) × (unsigned_abs (machine_product x y) ≤ a * b)
small_product x y a b first second h k fits =
    let whole = fits_signed_mul w128 x y a b h k fits in (
      simp to_z-of_z,
      simp (to_z-of_z, unsigned_abs-mul) (mul-le-mul h k),
    )

fits_more : (x : ℤ) → SFits w64 x → SFits w128 x
fits_more x h = omega (arith, ints, h)

-- what the machine makes in 128 bits of two numbers of 64
abbrev wide_product : ℤ → ℤ → ℤ
wide_product x y = machine_product (to_z w64 (of_z w64 x)) (to_z w64 (of_z w64 y))

-- the same of two numbers of 64 bits
pub widened_product : (x y : ℤ) (a b : ℕ) → SFits w64 x → SFits w64 y → unsigned_abs x ≤ a → unsigned_abs y ≤ b → a * b < 2 ^ 127
    → (wide_product x y ≡ x *ℤ y) × (unsigned_abs (wide_product x y) ≤ a * b)
widened_product x y a b first second h k fits =
    let narrow = small_product x y a b (fits_more x first) (fits_more y second) h k fits in
    (rw (to_z-of_z first, to_z-of_z second) (narrow.0), rw (to_z-of_z first, to_z-of_z second) (narrow.1))

-- the same of two numbers whose product fits in 64 bits
pub smaller_product : (x y : ℤ) (a b : ℕ) → SFits w64 x → SFits w64 y → unsigned_abs x ≤ a → unsigned_abs y ≤ b → a * b < 2 ^ 63
    → (to_z w64 (of_z w64 (to_z w64 (of_z w64 x) *ℤ to_z w64 (of_z w64 y))) ≡ x *ℤ y)
    × (unsigned_abs (to_z w64 (of_z w64 (to_z w64 (of_z w64 x) *ℤ to_z w64 (of_z w64 y)))) ≤ a * b)
smaller_product x y a b first second h k fits =
    let whole = fits_signed_mul w64 x y a b h k fits in (
      simp to_z-of_z,
      simp (to_z-of_z, unsigned_abs-mul) (mul-le-mul h k),
    )
