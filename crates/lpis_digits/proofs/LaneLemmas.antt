-- Which of eight bytes are no digits, as a vector's mask tells.
use Rattle.std.proofs.Common.{◌≡◌, ℕ, ◌+◌, ◌-◌, ◌%◌, ◌^◌, ◌<◌, leb, cond, Bool, not, List, map, length, replicate, refl, sym, ap, ◌∙◌, arith}
use Rattle.std.proofs.lemmas.Bool.{agree_below_at}
use Rattle.std.proofs.lemmas.Simd.{map-map, mask_l-mod, zip2_splat, zip2_splat_left, leading_from_mask_l, trailing_mask_l}
use Rattle.std.proofs.lemmas.List.{length-map}
use Rattle.std.specs.List.{prefix_len}
use Rattle.std.specs.Char.{is_ascii_digit}
use lib.Lanes.{zip2, mask_l, top}
use lib.Count.{count_trailing_zeros}
use Rattle.lpis_digits.specs.private.Words.{AllBytes}
use Rattle.lpis_digits.proofs.ByteLemmas.{same_run}

abbrev at_most : ℕ → ℕ → ℕ
at_most a b = cond (leb a b) 255 0

abbrev less : ℕ → ℕ → ℕ
less a b = (a + (256 - b)) % 256

-- the mask of those that are no digits, as the code computes it
abbrev pub others : List ℕ → ℕ
others v = mask_l (map (top 7) (zip2 at_most (replicate 8 10) (zip2 less v (replicate 8 48)))) % 18446744073709551616

abbrev lane : ℕ → ℕ
lane b = at_most 10 (less b 48)

abbrev stops : ℕ → Bool
stops b = top 7 (lane b)

lanes : (v : List ℕ) → length v ≡ 8 → zip2 at_most (replicate 8 10) (zip2 less v (replicate 8 48)) ≡ map lane v
lanes v long =
    let f = λ (b : ℕ). less b 48 in
    ap (zip2 at_most (replicate 8 10)) (zip2_splat less v 8 48 long) ∙ zip2_splat_left at_most 10 8 (map f v) (length-map v f ∙ long) ∙ map-map (at_most 10) f v

mask_is : (v : List ℕ) → length v ≡ 8 → others v ≡ mask_l (map stops v)
mask_is v long =
    ap (λ l. mask_l l % 2 ^ 64) (ap (map (top 7)) (lanes v long) ∙ map-map (top 7) lane v)
    ∙ mask_l-mod (map stops v) 64 (omega (arith, length-map v stops, long))

run_is : (v : List ℕ) → AllBytes v → prefix_len (λ b. not (stops b)) v ≡ prefix_len is_ascii_digit v
run_is v h = same_run (λ b. not (stops b)) is_ascii_digit (λ b lt. agree_below_at (λ b. not (stops b)) is_ascii_digit 256 b refl lt) v h

-- an empty mask: all are digits
pub all_digits : (v : List ℕ) → length v ≡ 8 → AllBytes v → others v ≡ 0 → 8 ≡ prefix_len is_ascii_digit v
all_digits v long h none = sym (sym (run_is v h) ∙ leading_from_mask_l stops v (sym (mask_is v long) ∙ none) ∙ long)

-- else the lowest bit of the mask stands where the digits end
pub digits_before : (v : List ℕ) → length v ≡ 8 → AllBytes v → 0 < others v → count_trailing_zeros 64 (others v) ≡ prefix_len is_ascii_digit v
digits_before v long h some =
    ap (count_trailing_zeros 64) (mask_is v long) ∙ trailing_mask_l stops 64 v (omega (arith, long)) (omega (arith, mask_is v long)) ∙ run_is v h
