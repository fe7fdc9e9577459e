-- Identifiers are text.
use Rattle.std.proofs.Common.{◌≡◌, ◌<◌, ◌≤◌, ◌-◌, ◌++◌, ◌⊎◌, ℕ, List, [], ◌∷◌, inl, inr, length, drop, take, get_or, min}
use Rattle.std.proofs.Common.{true, ap, ◌∙◌, arith, slice_index, zero, suc, ◌&&◌, IsUtf8, nat_le}
use Rattle.std.proofs.Math.Nat.{min-eq_left, min-eq_right}
use Rattle.std.proofs.lemmas.Bool.{cases_lt}
use Rattle.std.proofs.lemmas.List.{get_or_append_left, get_or-drop}
use Rattle.std.proofs.Math.Seq.{get_or-append_right}
use Rattle.lpis_tables.proofs.Common.{nat_tests}
use Rattle.std.specs.List.{list_all}
use Rattle.std.proofs.Math.Seq.{take-append_seam}
use Rattle.std.proofs.lemmas.Bool.{and_parts}
use Rattle.std.proofs.lemmas.Str.{IsUtf8-from_ascii}
use Rattle.lpis_tables.specs.Ids.{is_id, is_id_byte, longest_id}
use Rattle.lpis_tables.specs.private.Characters.{characters_in, count_in}

small : (b : ℕ) → is_id_byte b ≡ true → b < 128
small b h = grind (arith, nat_tests)

all-ascii : (bs : List ℕ) → list_all is_id_byte bs ≡ true → (i : ℕ) → slice_index bs i < 128
all-ascii [] h i = omega arith
all-ascii (b ∷ bs) h zero = small b (and_parts _ _ h).0
all-ascii (b ∷ bs) h (suc i) = all-ascii bs (and_parts (is_id_byte b) _ h).1 i

-- an identifier is text
pub id-utf8 : (bs : List ℕ) → is_id bs ≡ true → IsUtf8 bs
id-utf8 bs h = IsUtf8-from_ascii bs (all-ascii bs (and_parts (nat_le 1 (length bs) && nat_le (length bs) 40) _ h).1)

-- an identifier is not too long
pub id-short : (bs : List ℕ) → is_id bs ≡ true → length bs ≤ longest_id
id-short bs h =
    let within : nat_le (length bs) longest_id ≡ true = (and_parts (nat_le 1 (length bs)) _ (and_parts _ _ h).0).1 in
    grind (arith, nat_tests)

-- each byte of an identifier is above the most characters
above : (b : ℕ) → is_id_byte b ≡ true → longest_id < b
above b h = grind (arith, nat_tests)

all-above : (bs : List ℕ) (i : ℕ) → list_all is_id_byte bs ≡ true → i < length bs → longest_id < get_or bs i 0
all-above [] i h l = absurd (omega (arith, l))
all-above (b ∷ bs) zero h l = above b (and_parts (is_id_byte b) _ h).0
all-above (b ∷ bs) (suc i) h l = all-above bs i (and_parts (is_id_byte b) _ h).1 (omega (arith, l))

-- an identifier that leaves the last byte free is followed there by what stood there before, its count
last-free : (bs zs : List ℕ) → length bs ≤ 39 → get_or zs 39 0 ≡ length bs → get_or (bs ++ drop (length bs) zs) 39 0 ≡ length bs
last-free bs zs short last =
    get_or-append_right bs (drop (length bs) zs) 39 0 short ∙ get_or-drop (length bs) zs (39 - length bs) 0
    ∙ ap (λ (i : ℕ). get_or zs i 0) (omega (arith, short)) ∙ last

-- its bytes are as many as the last byte says, or the most
count-kept : (bs zs : List ℕ) → is_id bs ≡ true → get_or zs 39 0 ≡ length bs → count_in (bs ++ drop (length bs) zs) ≡ length bs
count-kept bs zs h last = by (cases_lt 39 (length bs))
  where
    by : (39 < length bs) ⊎ (length bs ≤ 39) → count_in (bs ++ drop (length bs) zs) ≡ length bs
    by (inl long) =
        let all = (and_parts (nat_le 1 (length bs) && nat_le (length bs) longest_id) _ h).1 in
        let same = get_or_append_left bs (drop (length bs) zs) 0 39 long in
        let full : length bs ≡ longest_id = omega (arith, long, id-short bs h) in
        let most : longest_id ≤ get_or bs 39 0 = omega (arith, all-above bs 39 all long) in
        rw (same, full) (min-eq_right most)
    by (inr short) = ap (λ (k : ℕ). min k longest_id) (last-free bs zs short last) ∙ min-eq_left (id-short bs h)

-- so they are read again
pub characters-kept : (bs zs : List ℕ) → is_id bs ≡ true → get_or zs 39 0 ≡ length bs → characters_in (bs ++ drop (length bs) zs) ≡ bs
characters-kept bs zs h last = ap (λ (k : ℕ). take k (bs ++ drop (length bs) zs)) (count-kept bs zs h last) ∙ take-append_seam bs _
