-- Triangles that are read in a list of what has one.
use Rattle.std.proofs.Common.{◌≡◌, ℕ, ◌<◌, List, length, map, get_or, ap, sym, subst, ◌∙◌, refl}
use Rattle.std.proofs.lemmas.List.{get_or-map, length-map}
use Rattle.std.proofs.lemmas.Option.{slice_get_read}
use Rattle.lpis_pairs.proofs.Common.{Extent, Triangle, extent_of}
use Rattle.lpis_pairs.proofs.NearnessLemmas.{extent_read}

-- an index of the list is one of its triangles
pub within_mapped : {X Y : Type 0} (f : X → Y) (xs : List X) (i : ℕ) → i < length xs → i < length (map f xs)
within_mapped f xs i l = subst (λ (n : ℕ). i < n) (sym (length-map xs f)) l

-- and the way back
pub within_unmapped : {X Y : Type 0} (f : X → Y) (xs : List X) (i : ℕ) → i < length (map f xs) → i < length xs
within_unmapped f xs i l = subst (λ (n : ℕ). i < n) (length-map xs f) l

-- the triangle of what is read there
pub mapped_read : {X Y : Type 0} (f : X → Y) (xs : List X) (i : ℕ) (x : X) (t : Y) → i < length xs → x ≡ get_or xs i x → t ≡ f x → t ≡ get_or (map f xs) i t
mapped_read f xs i x t l e h = h ∙ ap f e ∙ sym (get_or-map f xs i x t l)

-- the extent of what is read there
pub mapped_extent : {X : Type 0} (f : X → Triangle) (xs : List X) (boxes : List Extent) (i : ℕ) (x : X) (t : Triangle) (d : Extent) → boxes ≡ map extent_of (map f xs)
    → i < length xs → x ≡ get_or xs i x → t ≡ f x → get_or boxes i d ≡ extent_of t
mapped_extent f xs boxes i x t d is l e h =
    extent_read (map f xs) boxes i t d is
    (slice_get_read (map f xs) (length (map f xs)) i t refl (within_mapped f xs i l) (mapped_read f xs i x t l e h))
