-- The lines that begin blocks.
use Rattle.std.proofs.Common.{◌≡◌, ℕ, true, List, Option, ◌⊎◌, inl, inr}
use Rattle.lpis_cert.proofs.Common.{Stage, Kind, Piece, Flat, Parcel, Exact, Pairs, Pair, End, Block, Version, CertLine, values, can_stand, Placed}
use Rattle.lpis_cert.specs.declared.kind.Kind.TheVariants.{Triangle}
use Rattle.lpis_cert.specs.Reading.{piece_line, parcel_block_line, exact_line, pairs_line}
use Rattle.lpis_cert.proofs.StepLemmas.{formed_stands}

-- the values of a line of the kind `piece` are those of its words as a piece line
pub values_piece : (v : Version) (k : Kind) (ws : List (List ℕ)) (o : Option CertLine) → k ≡ Piece → piece_line ws ≡ o → values v k ws ≡ o
unfolding values
values_piece v k ws o is h = rw is h

-- the values of a line of the kind `parcel` are those of its words as the line of a parcel block
pub values_parcel : (v : Version) (k : Kind) (ws : List (List ℕ)) (o : Option CertLine) → k ≡ Parcel → parcel_block_line ws ≡ o → values v k ws ≡ o
unfolding values
values_parcel v k ws o is h = rw is h

-- the values of a line of the kind `exact` are those of its words as the line of an exact block
pub values_exact : (v : Version) (k : Kind) (ws : List (List ℕ)) (o : Option CertLine) → k ≡ Exact → exact_line ws ≡ o → values v k ws ≡ o
unfolding values
values_exact v k ws o is h = rw is h

-- the values of a line of the kind `pairs` are those of its words as the line that counts the pairs
pub values_pairs : (v : Version) (k : Kind) (ws : List (List ℕ)) (o : Option CertLine) → k ≡ Pairs → pairs_line ws ≡ o → values v k ws ≡ o
unfolding values
values_pairs v k ws o is h = rw is h

-- a line placed where a block may begin is of a kind that can stand there
pub stands_of : (v : Version) (b : Stage) (text : List ℕ) (n : ℕ) (k : Kind) (ws : List (List ℕ)) (rest : List ℕ) (m : ℕ) → Placed v (Block b) text n k ws rest m
    → can_stand (Block b) k ≡ true
stands_of v b text n k ws rest m p = formed_stands v (Block b) p.line k ws p.placed

-- no triangle line, flat line, pair line or end line can stand where a block may begin
pub no_block : (b : Stage) (k : Kind) → can_stand (Block b) k ≡ true → (k ≡ Triangle) ⊎ ((k ≡ Flat) ⊎ ((k ≡ Pair) ⊎ (k ≡ End))) → ⊥
no_block b k h (inl e) = cc (rw e at h)
no_block b k h (inr (inl e)) = cc (rw e at h)
no_block b k h (inr (inr (inl e))) = cc (rw e at h)
no_block b k h (inr (inr (inr e))) = cc (rw e at h)
