-- Eight bytes in one number, eight bits a byte.
use Rattle.std.proofs.Common.{◌≡◌, ℕ, zero, suc, ◌+◌, ◌-◌, ◌*◌, ◌/◌, ◌%◌, ◌^◌, ◌<◌, List, [], ◌∷◌, map, length, bit_and, refl, ap, ap₂, ◌∙◌, arith}
use Rattle.std.proofs.lemmas.Nat.{and_block, and_mask, mul-mod_first, mod_low}
use Rattle.lpis_digits.specs.private.Words.{AllBytes, behind_zeros, spelled, word_of}

-- `&` byte by byte, and by two and four bytes
and_bytes : (b r s m : ℕ) → b < 256 → s < 256 → bit_and (b + 256 * r) (s + 256 * m) ≡ bit_and b s + 256 * bit_and r m
and_bytes b r s m p q =
    let left : b + 256 * r ≡ r * 256 + b = omega arith in
    let right : s + 256 * m ≡ m * 256 + s = omega arith in
    let back : bit_and r m * 256 + bit_and b s ≡ bit_and b s + 256 * bit_and r m = omega arith in
    ap₂ bit_and left right ∙ and_block 8 r m b s p q ∙ back

and_pairs : (b r s m : ℕ) → b < 65536 → s < 65536 → bit_and (b + 65536 * r) (s + 65536 * m) ≡ bit_and b s + 65536 * bit_and r m
and_pairs b r s m p q =
    let left : b + 65536 * r ≡ r * 65536 + b = omega arith in
    let right : s + 65536 * m ≡ m * 65536 + s = omega arith in
    let back : bit_and r m * 65536 + bit_and b s ≡ bit_and b s + 65536 * bit_and r m = omega arith in
    ap₂ bit_and left right ∙ and_block 16 r m b s p q ∙ back

-- the mask that keeps the lower half of each of n bytes
abbrev low_halves : ℕ → ℕ
low_halves zero = 0
low_halves (suc n) = 15 + 256 * low_halves n

abbrev low : ℕ → ℕ
low b = b % 16

halves : (bs : List ℕ) → AllBytes bs → bit_and (word_of bs) (low_halves (length bs)) ≡ word_of (map low bs)
halves [] h = and_mask 0 0
halves (b ∷ bs) h = and_bytes b (word_of bs) 15 (low_halves (length bs)) h.0 (omega arith) ∙ ap₂ (λ x y. x + 256 * y) (and_mask b 4) (halves bs h.1)

-- of two bytes the first is kept
keep_byte : (a b r m : ℕ) → a < 256 → b < 256 → bit_and (a + 256 * (b + 256 * r)) (255 + 256 * (0 + 256 * m)) ≡ a + 65536 * bit_and r m
keep_byte a b r m p q =
    let first : bit_and a 255 ≡ a = let e : a % 256 ≡ a = omega arith in and_mask a 8 ∙ e in
    let second : bit_and b 0 ≡ 0 = let e : b % 1 ≡ 0 = omega arith in and_mask b 0 ∙ e in
    let all : bit_and a 255 + 256 * (bit_and b 0 + 256 * bit_and r m) ≡ a + 65536 * bit_and r m = omega arith in
    and_bytes a (b + 256 * r) 255 (0 + 256 * m) p (omega arith) ∙ ap (λ x. bit_and a 255 + 256 * x) (and_bytes b r 0 m q (omega arith)) ∙ all

-- of two numbers of two bytes the first is kept
keep_pair : (a b r m : ℕ) → a < 65536 → b < 65536 → bit_and (a + 65536 * (b + 65536 * r)) (65535 + 65536 * (0 + 65536 * m)) ≡ a + 4294967296 * bit_and r m
keep_pair a b r m p q =
    let first : bit_and a 65535 ≡ a = let e : a % 65536 ≡ a = omega arith in and_mask a 16 ∙ e in
    let second : bit_and b 0 ≡ 0 = let e : b % 1 ≡ 0 = omega arith in and_mask b 0 ∙ e in
    let all : bit_and a 65535 + 65536 * (bit_and b 0 + 65536 * bit_and r m) ≡ a + 4294967296 * bit_and r m = omega arith in
    and_pairs a (b + 65536 * r) 65535 (0 + 65536 * m) p (omega arith) ∙ ap (λ x. bit_and a 65535 + 65536 * x) (and_pairs b r 0 m q (omega arith)) ∙ all

-- eight digits as four numbers of two
pairs : (a b c d e f g h : ℕ) → a < 16 → b < 16 → c < 16 → d < 16 → e < 16 → f < 16 → g < 16 → h < 16
    → (w : ℕ) → w ≡ a + 256 * (b + 256 * (c + 256 * (d + 256 * (e + 256 * (f + 256 * (g + 256 * h))))))
    → bit_and (w * 10 + w / 256) 71777214294589695 ≡ (a * 10 + b) + 65536 * ((c * 10 + d) + 65536 * ((e * 10 + f) + 65536 * (g * 10 + h)))
pairs a b c d e f g h la lb lc ld le lf lg lh w is =
    let rest : ℕ = b + 256 * (c + 256 * (d + 256 * (e + 256 * (f + 256 * (g + 256 * h))))) in
    let shifted : w / 256 ≡ rest = omega arith in
    let r7 : ℕ = g * 10 + h + 256 * (h * 10) in
    let r5 : ℕ = e * 10 + f + 256 * ((f * 10 + g) + 256 * r7) in
    let r3 : ℕ = c * 10 + d + 256 * ((d * 10 + e) + 256 * r5) in
    let r1 : ℕ = a * 10 + b + 256 * ((b * 10 + c) + 256 * r3) in
    let sum : w * 10 + w / 256 ≡ r1 = omega (arith, shifted, is) in
    let last : r7 ≡ (g * 10 + h) + 256 * (h * 10 + 256 * 0) = omega arith in
    let none : bit_and 0 0 ≡ 0 = and_mask 0 0 in
    let end : bit_and r7 255 ≡ g * 10 + h =
    ap (λ x. bit_and x 255) last ∙ keep_byte (g * 10 + h) (h * 10) 0 0 (omega arith) (omega arith) ∙ (let z : (g * 10 + h) + 65536 * bit_and 0 0 ≡ g * 10 + h = omega (arith, none) in z)
    in
    ap (λ x. bit_and x 71777214294589695) sum
    ∙ keep_byte (a * 10 + b) (b * 10 + c) r3 1095233372415 (omega arith) (omega arith)
    ∙ ap (λ x. (a * 10 + b) + 65536 * x)
    (keep_byte (c * 10 + d) (d * 10 + e) r5 16711935 (omega arith) (omega arith)
    ∙ ap (λ x. (c * 10 + d) + 65536 * x)
    (keep_byte (e * 10 + f) (f * 10 + g) r7 255 (omega arith) (omega arith)
    ∙ ap (λ x. (e * 10 + f) + 65536 * x) end))

-- four numbers as two, each a hundred times the one and the next
fours : (a b c d : ℕ) → a < 256 → b < 256 → c < 256 → d < 256 → (w : ℕ) → w ≡ a + 65536 * (b + 65536 * (c + 65536 * d))
    → bit_and (w * 100 + w / 65536) 281470681808895 ≡ (a * 100 + b) + 4294967296 * (c * 100 + d)
fours a b c d la lb lc ld w is =
    let shifted : w / 65536 ≡ b + 65536 * (c + 65536 * d) = omega arith in
    let r3 : ℕ = c * 100 + d + 65536 * (d * 100) in
    let r1 : ℕ = a * 100 + b + 65536 * ((b * 100 + c) + 65536 * r3) in
    let sum : w * 100 + w / 65536 ≡ r1 = omega (arith, shifted, is) in
    let last : r3 ≡ (c * 100 + d) + 65536 * (d * 100 + 65536 * 0) = omega arith in
    let none : bit_and 0 0 ≡ 0 = and_mask 0 0 in
    let end : bit_and r3 65535 ≡ c * 100 + d =
    ap (λ x. bit_and x 65535) last ∙ keep_pair (c * 100 + d) (d * 100) 0 0 (omega arith) (omega arith) ∙ (let z : (c * 100 + d) + 4294967296 * bit_and 0 0 ≡ c * 100 + d = omega (arith, none) in z)
    in
    ap (λ x. bit_and x 281470681808895) sum
    ∙ keep_pair (a * 100 + b) (b * 100 + c) r3 65535 (omega arith) (omega arith)
    ∙ ap (λ x. (a * 100 + b) + 4294967296 * x) end

-- two numbers as one
eight : (a b : ℕ) → a < 65536 → b < 65536 → (w : ℕ) → w ≡ a + 4294967296 * b → bit_and (w * 10000 + w / 4294967296) 4294967295 ≡ a * 10000 + b
eight a b la lb w is =
    let shifted : w / 4294967296 ≡ b = omega arith in
    let sum : w * 10000 + w / 4294967296 ≡ (b * 10000) * 4294967296 + (a * 10000 + b) = omega (arith, shifted, is) in
    ap (λ x. bit_and x 4294967295) sum ∙ and_mask ((b * 10000) * 4294967296 + (a * 10000 + b)) 32 ∙ mod_low (b * 10000) 32 (a * 10000 + b) (omega arith)

abbrev as_pairs : ℕ → ℕ
as_pairs w = bit_and (bit_and w 1085102592571150095 * 10 + bit_and w 1085102592571150095 / 256) 71777214294589695

abbrev as_fours : ℕ → ℕ
as_fours w = bit_and (as_pairs w * 100 + as_pairs w / 65536) 281470681808895

-- what the code computes of a word
abbrev pub number_of : ℕ → ℕ
number_of w = bit_and (as_fours w * 10000 + as_fours w / 4294967296) 4294967295

spelled-eight : (a b c d e f g h : ℕ) → (p q r s : ℕ) → p ≡ low a * 10 + low b → q ≡ low c * 10 + low d → r ≡ low e * 10 + low f → s ≡ low g * 10 + low h
    → (p * 100 + q) * 10000 + (r * 100 + s) ≡ spelled 0 (a ∷ b ∷ c ∷ d ∷ e ∷ f ∷ g ∷ h ∷ [])
spelled-eight a b c d e f g h p q r s hp hq hr hs = omega arith

-- a word's number is what its bytes spell
pub word_spells : (bytes : List ℕ) → length bytes ≡ 8 → AllBytes bytes → number_of (word_of bytes) ≡ spelled 0 bytes
word_spells (a ∷ b ∷ c ∷ d ∷ e ∷ f ∷ g ∷ h ∷ []) long all =
    let w : ℕ = word_of (a ∷ b ∷ c ∷ d ∷ e ∷ f ∷ g ∷ h ∷ []) in
    let p : ℕ = low a * 10 + low b in
    let q : ℕ = low c * 10 + low d in
    let r : ℕ = low e * 10 + low f in
    let s : ℕ = low g * 10 + low h in
    let as_nested : word_of (map low (a ∷ b ∷ c ∷ d ∷ e ∷ f ∷ g ∷ h ∷ [])) ≡ low a + 256 * (low b + 256 * (low c + 256 * (low d + 256 * (low e + 256 * (low f + 256 * (low g + 256 * low h)))))) =
    omega arith in
    let digits : bit_and w 1085102592571150095 ≡ low a + 256 * (low b + 256 * (low c + 256 * (low d + 256 * (low e + 256 * (low f + 256 * (low g + 256 * low h)))))) =
    halves (a ∷ b ∷ c ∷ d ∷ e ∷ f ∷ g ∷ h ∷ []) all ∙ as_nested in
    let two : as_pairs w ≡ p + 65536 * (q + 65536 * (r + 65536 * s)) =
    pairs (low a) (low b) (low c) (low d) (low e) (low f) (low g) (low h) (omega arith) (omega arith) (omega arith) (omega arith) (omega arith) (omega arith) (omega arith) (omega arith) _ digits in
    let four : as_fours w ≡ (p * 100 + q) + 4294967296 * (r * 100 + s) = fours p q r s (omega arith) (omega arith) (omega arith) (omega arith) _ two in
    eight (p * 100 + q) (r * 100 + s) (omega arith) (omega arith) _ four ∙ spelled-eight a b c d e f g h p q r s refl refl refl refl
word_spells _ long all = absurd (omega arith)

moved_by : (w q front rest : ℕ) → w * 256 * q ≡ rest * 18446744073709551616 + front → front < 18446744073709551616 → w * 256 % 18446744073709551616 * q % 18446744073709551616 ≡ front
moved_by w q front rest e lt = mul-mod_first (w * 256) q 18446744073709551616 ∙ ap (λ x. x % 18446744073709551616) e ∙ mod_low rest 64 front lt

-- a word moved up by two shifts, for each number of bytes that it keeps
moved_eight : (n : ℕ) (a b c d e f g h : ℕ) → n < 8 → AllBytes (a ∷ b ∷ c ∷ d ∷ e ∷ f ∷ g ∷ h ∷ [])
    → word_of (a ∷ b ∷ c ∷ d ∷ e ∷ f ∷ g ∷ h ∷ []) * 256 % 18446744073709551616 * 2 ^ (8 * (7 - n)) % 18446744073709551616 ≡ word_of (behind_zeros n (a ∷ b ∷ c ∷ d ∷ e ∷ f ∷ g ∷ h ∷ []))
moved_eight zero a b c d e f g h lt all =
    let front : ℕ = 0 in
    let rest : ℕ = a + 256 * (b + 256 * (c + 256 * (d + 256 * (e + 256 * (f + 256 * (g + 256 * h)))))) in
    let back : front ≡ word_of (behind_zeros 0 (a ∷ b ∷ c ∷ d ∷ e ∷ f ∷ g ∷ h ∷ [])) = omega arith in
    moved_by (word_of (a ∷ b ∷ c ∷ d ∷ e ∷ f ∷ g ∷ h ∷ [])) 72057594037927936 front rest (omega arith) (omega arith) ∙ back
moved_eight (suc zero) a b c d e f g h lt all =
    let front : ℕ = (a) * 72057594037927936 in
    let rest : ℕ = b + 256 * (c + 256 * (d + 256 * (e + 256 * (f + 256 * (g + 256 * h))))) in
    let back : front ≡ word_of (behind_zeros 1 (a ∷ b ∷ c ∷ d ∷ e ∷ f ∷ g ∷ h ∷ [])) = omega arith in
    moved_by (word_of (a ∷ b ∷ c ∷ d ∷ e ∷ f ∷ g ∷ h ∷ [])) 281474976710656 front rest (omega arith) (omega arith) ∙ back
moved_eight (suc (suc zero)) a b c d e f g h lt all =
    let front : ℕ = (a + 256 * b) * 281474976710656 in
    let rest : ℕ = c + 256 * (d + 256 * (e + 256 * (f + 256 * (g + 256 * h)))) in
    let back : front ≡ word_of (behind_zeros 2 (a ∷ b ∷ c ∷ d ∷ e ∷ f ∷ g ∷ h ∷ [])) = omega arith in
    moved_by (word_of (a ∷ b ∷ c ∷ d ∷ e ∷ f ∷ g ∷ h ∷ [])) 1099511627776 front rest (omega arith) (omega arith) ∙ back
moved_eight (suc (suc (suc zero))) a b c d e f g h lt all =
    let front : ℕ = (a + 256 * (b + 256 * c)) * 1099511627776 in
    let rest : ℕ = d + 256 * (e + 256 * (f + 256 * (g + 256 * h))) in
    let back : front ≡ word_of (behind_zeros 3 (a ∷ b ∷ c ∷ d ∷ e ∷ f ∷ g ∷ h ∷ [])) = omega arith in
    moved_by (word_of (a ∷ b ∷ c ∷ d ∷ e ∷ f ∷ g ∷ h ∷ [])) 4294967296 front rest (omega arith) (omega arith) ∙ back
moved_eight (suc (suc (suc (suc zero)))) a b c d e f g h lt all =
    let front : ℕ = (a + 256 * (b + 256 * (c + 256 * d))) * 4294967296 in
    let rest : ℕ = e + 256 * (f + 256 * (g + 256 * h)) in
    let back : front ≡ word_of (behind_zeros 4 (a ∷ b ∷ c ∷ d ∷ e ∷ f ∷ g ∷ h ∷ [])) = omega arith in
    moved_by (word_of (a ∷ b ∷ c ∷ d ∷ e ∷ f ∷ g ∷ h ∷ [])) 16777216 front rest (omega arith) (omega arith) ∙ back
moved_eight (suc (suc (suc (suc (suc zero))))) a b c d e f g h lt all =
    let front : ℕ = (a + 256 * (b + 256 * (c + 256 * (d + 256 * e)))) * 16777216 in
    let rest : ℕ = f + 256 * (g + 256 * h) in
    let back : front ≡ word_of (behind_zeros 5 (a ∷ b ∷ c ∷ d ∷ e ∷ f ∷ g ∷ h ∷ [])) = omega arith in
    moved_by (word_of (a ∷ b ∷ c ∷ d ∷ e ∷ f ∷ g ∷ h ∷ [])) 65536 front rest (omega arith) (omega arith) ∙ back
moved_eight (suc (suc (suc (suc (suc (suc zero)))))) a b c d e f g h lt all =
    let front : ℕ = (a + 256 * (b + 256 * (c + 256 * (d + 256 * (e + 256 * f))))) * 65536 in
    let rest : ℕ = g + 256 * h in
    let back : front ≡ word_of (behind_zeros 6 (a ∷ b ∷ c ∷ d ∷ e ∷ f ∷ g ∷ h ∷ [])) = omega arith in
    moved_by (word_of (a ∷ b ∷ c ∷ d ∷ e ∷ f ∷ g ∷ h ∷ [])) 256 front rest (omega arith) (omega arith) ∙ back
moved_eight (suc (suc (suc (suc (suc (suc (suc zero))))))) a b c d e f g h lt all =
    let front : ℕ = (a + 256 * (b + 256 * (c + 256 * (d + 256 * (e + 256 * (f + 256 * g)))))) * 256 in
    let rest : ℕ = h in
    let back : front ≡ word_of (behind_zeros 7 (a ∷ b ∷ c ∷ d ∷ e ∷ f ∷ g ∷ h ∷ [])) = omega arith in
    moved_by (word_of (a ∷ b ∷ c ∷ d ∷ e ∷ f ∷ g ∷ h ∷ [])) 1 front rest (omega arith) (omega arith) ∙ back
moved_eight n a b c d e f g h lt all = absurd (omega arith)

-- moved up by two shifts, a word keeps its first bytes, behind zeros
pub moved : (n : ℕ) (bytes : List ℕ) → n < 8 → length bytes ≡ 8 → AllBytes bytes
    → word_of bytes * 256 % 18446744073709551616 * 2 ^ (8 * (7 - n)) % 18446744073709551616 ≡ word_of (behind_zeros n bytes)
moved n (a ∷ b ∷ c ∷ d ∷ e ∷ f ∷ g ∷ h ∷ []) lt long all = moved_eight n a b c d e f g h lt all
moved n _ lt long all = absurd (omega arith)

-- the same by one shift, where some bytes are kept
shifted_eight : (n : ℕ) (a b c d e f g h : ℕ) → 0 < n → n < 8 → AllBytes (a ∷ b ∷ c ∷ d ∷ e ∷ f ∷ g ∷ h ∷ [])
    → word_of (a ∷ b ∷ c ∷ d ∷ e ∷ f ∷ g ∷ h ∷ []) * 2 ^ (8 * (8 - n)) % 18446744073709551616 ≡ word_of (behind_zeros n (a ∷ b ∷ c ∷ d ∷ e ∷ f ∷ g ∷ h ∷ []))
shifted_eight zero a b c d e f g h some lt all = absurd (omega arith)
shifted_eight (suc zero) a b c d e f g h some lt all =
    let front : ℕ = (a) * 72057594037927936 in
    let rest : ℕ = b + 256 * (c + 256 * (d + 256 * (e + 256 * (f + 256 * (g + 256 * h))))) in
    let back : front ≡ word_of (behind_zeros 1 (a ∷ b ∷ c ∷ d ∷ e ∷ f ∷ g ∷ h ∷ [])) = omega arith in
    let whole : word_of (a ∷ b ∷ c ∷ d ∷ e ∷ f ∷ g ∷ h ∷ []) * 72057594037927936 ≡ rest * 18446744073709551616 + front = omega arith in
    ap (λ x. x % 18446744073709551616) whole ∙ mod_low rest 64 front (omega arith) ∙ back
shifted_eight (suc (suc zero)) a b c d e f g h some lt all =
    let front : ℕ = (a + 256 * b) * 281474976710656 in
    let rest : ℕ = c + 256 * (d + 256 * (e + 256 * (f + 256 * (g + 256 * h)))) in
    let back : front ≡ word_of (behind_zeros 2 (a ∷ b ∷ c ∷ d ∷ e ∷ f ∷ g ∷ h ∷ [])) = omega arith in
    let whole : word_of (a ∷ b ∷ c ∷ d ∷ e ∷ f ∷ g ∷ h ∷ []) * 281474976710656 ≡ rest * 18446744073709551616 + front = omega arith in
    ap (λ x. x % 18446744073709551616) whole ∙ mod_low rest 64 front (omega arith) ∙ back
shifted_eight (suc (suc (suc zero))) a b c d e f g h some lt all =
    let front : ℕ = (a + 256 * (b + 256 * c)) * 1099511627776 in
    let rest : ℕ = d + 256 * (e + 256 * (f + 256 * (g + 256 * h))) in
    let back : front ≡ word_of (behind_zeros 3 (a ∷ b ∷ c ∷ d ∷ e ∷ f ∷ g ∷ h ∷ [])) = omega arith in
    let whole : word_of (a ∷ b ∷ c ∷ d ∷ e ∷ f ∷ g ∷ h ∷ []) * 1099511627776 ≡ rest * 18446744073709551616 + front = omega arith in
    ap (λ x. x % 18446744073709551616) whole ∙ mod_low rest 64 front (omega arith) ∙ back
shifted_eight (suc (suc (suc (suc zero)))) a b c d e f g h some lt all =
    let front : ℕ = (a + 256 * (b + 256 * (c + 256 * d))) * 4294967296 in
    let rest : ℕ = e + 256 * (f + 256 * (g + 256 * h)) in
    let back : front ≡ word_of (behind_zeros 4 (a ∷ b ∷ c ∷ d ∷ e ∷ f ∷ g ∷ h ∷ [])) = omega arith in
    let whole : word_of (a ∷ b ∷ c ∷ d ∷ e ∷ f ∷ g ∷ h ∷ []) * 4294967296 ≡ rest * 18446744073709551616 + front = omega arith in
    ap (λ x. x % 18446744073709551616) whole ∙ mod_low rest 64 front (omega arith) ∙ back
shifted_eight (suc (suc (suc (suc (suc zero))))) a b c d e f g h some lt all =
    let front : ℕ = (a + 256 * (b + 256 * (c + 256 * (d + 256 * e)))) * 16777216 in
    let rest : ℕ = f + 256 * (g + 256 * h) in
    let back : front ≡ word_of (behind_zeros 5 (a ∷ b ∷ c ∷ d ∷ e ∷ f ∷ g ∷ h ∷ [])) = omega arith in
    let whole : word_of (a ∷ b ∷ c ∷ d ∷ e ∷ f ∷ g ∷ h ∷ []) * 16777216 ≡ rest * 18446744073709551616 + front = omega arith in
    ap (λ x. x % 18446744073709551616) whole ∙ mod_low rest 64 front (omega arith) ∙ back
shifted_eight (suc (suc (suc (suc (suc (suc zero)))))) a b c d e f g h some lt all =
    let front : ℕ = (a + 256 * (b + 256 * (c + 256 * (d + 256 * (e + 256 * f))))) * 65536 in
    let rest : ℕ = g + 256 * h in
    let back : front ≡ word_of (behind_zeros 6 (a ∷ b ∷ c ∷ d ∷ e ∷ f ∷ g ∷ h ∷ [])) = omega arith in
    let whole : word_of (a ∷ b ∷ c ∷ d ∷ e ∷ f ∷ g ∷ h ∷ []) * 65536 ≡ rest * 18446744073709551616 + front = omega arith in
    ap (λ x. x % 18446744073709551616) whole ∙ mod_low rest 64 front (omega arith) ∙ back
shifted_eight (suc (suc (suc (suc (suc (suc (suc zero))))))) a b c d e f g h some lt all =
    let front : ℕ = (a + 256 * (b + 256 * (c + 256 * (d + 256 * (e + 256 * (f + 256 * g)))))) * 256 in
    let rest : ℕ = h in
    let back : front ≡ word_of (behind_zeros 7 (a ∷ b ∷ c ∷ d ∷ e ∷ f ∷ g ∷ h ∷ [])) = omega arith in
    let whole : word_of (a ∷ b ∷ c ∷ d ∷ e ∷ f ∷ g ∷ h ∷ []) * 256 ≡ rest * 18446744073709551616 + front = omega arith in
    ap (λ x. x % 18446744073709551616) whole ∙ mod_low rest 64 front (omega arith) ∙ back
shifted_eight n a b c d e f g h some lt all = absurd (omega arith)

-- shifted so, a word keeps its first bytes, behind zeros
pub shifted : (n : ℕ) (bytes : List ℕ) → 0 < n → n < 8 → length bytes ≡ 8 → AllBytes bytes
    → word_of bytes * 2 ^ (8 * (8 - n)) % 18446744073709551616 ≡ word_of (behind_zeros n bytes)
shifted n (a ∷ b ∷ c ∷ d ∷ e ∷ f ∷ g ∷ h ∷ []) some lt long all = shifted_eight n a b c d e f g h some lt all
shifted n _ some lt long all = absurd (omega arith)
