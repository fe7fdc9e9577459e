-- Weighted areas, a piece at a time.
use Rattle.std.proofs.Common.{◌≡◌, ◌≤◌, ◌<◌, ◌+◌, ◌*◌, ◌∷◌, [], ℕ, zero, suc, ℤ, ◌+ℤ◌, List, length, drop, get_or, Some, refl, sym, ap, ◌∙◌, arith, nat_abs}
use Rattle.std.proofs.Common.{slice_get}
use Rattle.lpis_release.proofs.Common.{slice_get_read, Piece, indices_where, Contents, names_parcel}
use Rattle.std.proofs.lemmas.Int.{ints, to_z-of_z}
use Rattle.std.proofs.lemmas.List.{drop_all}
use Rattle.std.proofs.Math.IntN.{+ℤ_assoc, +ℤ_idr}
use mir.Syntax.{w128}
use mir.Val.{SFits, to_z, of_z}
use Rattle.lpis_tables.specs.Table.{most_rows}
use Rattle.lpis_points.specs.Sums.{int_sum_by}
use Rattle.lpis_release.specs.Weighted.{most_weighted, piece_weight, weighted2}
use Rattle.lpis_release.specs.private.Weights.{weighted_at}
use Rattle.lpis_release.proofs.JoinLemmas.{drop-at}
use Rattle.lpis_release.proofs.IndexLemmas.{at-indices-where}

-- the weighted areas of the pieces at a parcel's indices make up that of the parcel, all doubled
pub weighted-all : (c : Contents) (id : List ℕ) (indices : List ℕ) → indices ≡ indices_where (names_parcel id) 0 c.pieces → weighted_at c indices ≡ weighted2 c id
weighted-all c id indices e =
    ap (λ (ps : List Piece). int_sum_by (piece_weight c.classes) ps) (at-indices-where (names_parcel id) c.pieces c.pieces indices refl e)

next-indices : (indices : List ℕ) (i index : ℕ) → i < length indices → index ≡ get_or indices i index → drop i indices ≡ index ∷ drop (i + 1) indices
next-indices indices i index lt e = drop-at indices i index (slice_get_read indices _ i index refl lt e)

-- with the weighted area of the next piece added, the sum and what is left still make up the whole
pub weighted-added : (c : Contents) (indices : List ℕ) (i index : ℕ) (piece : Piece) (sum part whole : ℤ) → i < length indices → index ≡ get_or indices i index → slice_get c.pieces index ≡ Some piece
    → part ≡ piece_weight c.classes piece → sum +ℤ weighted_at c (drop i indices) ≡ whole → (sum +ℤ part) +ℤ weighted_at c (drop (i + 1) indices) ≡ whole
weighted-added c indices i index piece sum part whole lt e at is h =
    ap (λ (z : ℤ). (sum +ℤ z) +ℤ weighted_at c (drop (i + 1) indices)) is
    ∙ +ℤ_assoc sum (piece_weight c.classes piece) (weighted_at c (drop (i + 1) indices)) ∙ (rw (next-indices indices i index lt e, at) at h)

-- past the last index, the sum is the whole
pub weighted-end : (c : Contents) (indices : List ℕ) (i : ℕ) (sum whole : ℤ) → length indices ≤ i → sum +ℤ weighted_at c (drop i indices) ≡ whole → sum ≡ whole
weighted-end c indices i sum whole past h = sym (+ℤ_idr sum) ∙ (rw (drop_all i indices past) at h)

-- one part more, each at most the greatest of a piece
pub sum-more : (s t : ℤ) (n : ℕ) → nat_abs s ≤ most_weighted * n → nat_abs t ≤ most_weighted → n < most_rows
    → (to_z w128 (of_z w128 (s +ℤ to_z w128 (of_z w128 t))) ≡ s +ℤ t) × (nat_abs (s +ℤ t) ≤ most_weighted * (n + 1))
sum-more s t n h l few =
    let f : SFits w128 t = omega (arith, ints) in
    let g : SFits w128 (s +ℤ t) = omega (arith, ints) in
    (rw (to_z-of_z w128 t f) (to_z-of_z w128 (s +ℤ t) g), omega (arith, ints))

-- the item at an index within
pub item-within : {A : Type 0} (xs : List A) (i : ℕ) → i < length xs → (x : A) × (slice_get xs i ≡ Some x)
item-within [] i lt = absurd (omega arith)
item-within (x ∷ xs) zero lt = (x, refl)
item-within (x ∷ xs) (suc i) lt = item-within xs i (omega arith)
