-- Shapes in the order of their identifiers, and the texts that keep them.
use Rattle.std.proofs.Common.{◌≡◌, ◌∙◌, ◌≤◌, refl, sym, ap, ap₂, subst, arith, ℕ, List, [], ◌∷◌, ◌++◌, true, length, map, take, Result, Ok, Err}
use Rattle.std.proofs.Common.{IsPermutation, Less, is_lt, nat_cmp, IsSortedByKey}
use Rattle.lpis_register_rows.proofs.Common.{AllByRecursion, IsPermutation-sym, IsPermutation-trans, has_id, is_id, or_left, or_right, same-refl, same_id, slice_cmp}
use Rattle.lpis_lineage.proofs.Shared.{same-sym}
use Rattle.std.specs.Cmp.Lexicographic.{nat_list_cmp_total}
use Rattle.std.specs.List.{AllZip, IsDistinct}
use Rattle.std.specs.Ordering.{ordering_reverse}
use Rattle.std.proofs.lemmas.List.{map-id}
use Rattle.std.proofs.lemmas.List.Sorted.{IsPermutation-map, IsPermutation-refl, ranks_by, sorted_far}
use Rattle.std.proofs.lemmas.Map.Keys.{IsDistinct-IsPermutation, sorted_from_all_adjacent, sorted_head, sorted_tail}
use Rattle.lpis_lineage.specs.Order.{IsAscending}
use Rattle.lpis_release.specs.Release.{parcel_ids}
use Rattle.lpis_release.specs.declared.parcel.Parcel.{Parcel}
use Rattle.lpis_rings.specs.declared.polygon.Member.{Member}
use Rattle.lpis_wkt.specs.Answer.{polygon_of}
use Rattle.lpis_wkt.specs.Text.{PolygonText}
use Rattle.lpis_wkt.specs.declared.fault.WktCode.{WktCode}
use Rattle.lpis_register_rows.specs.Content.{StoredText}
use Rattle.lpis_register_rows.specs.Shapes.{AreLive, IsLive, IsTextOfShape, Shape, ShapesAre, shape_ids, parcel_shape}
use Rattle.lpis_register_rows.proofs.AscendingLemmas.{Ascends, all-both, all-map, all-moved, same-ascending}
use Rattle.lpis_register_rows.proofs.KnownLemmas.{take-whole}
use Rattle.lpis_register_rows.specs.private.Known.{HasId}
use Rattle.lpis_register_rows.proofs.MarkLemmas.{all-unmap}
use Rattle.lpis_register_rows.proofs.NamedLemmas.{sorted-ascends}
use Rattle.lpis_register_rows.proofs.SortingLemmas.{Less_by, Rises, ascends-map, rises-far, sorted-same}

-- ---- lists read side by side, one further

-- two lists related side by side remain so with a related pair at their ends
pub zip-push : {A B : Type 0} (R : A → B → Type 0) (xs : List A) (ys : List B) (x : A) (y : B) → AllZip R xs ys → R x y → AllZip R (xs ++ x ∷ []) (ys ++ y ∷ [])
zip-push R [] [] x y z r = (r, tt)
zip-push R [] (b ∷ ys) x y z r = absurd z
zip-push R (a ∷ xs) [] x y z r = absurd z
zip-push R (a ∷ xs) (b ∷ ys) x y z r = (z.0, zip-push R xs ys x y z.1 r)

-- what stands beside an element of a list
pub zip-among : {A B : Type 0} (R : A → B → Type 0) (P : B → Type 0) (before : List A) (x : A) (rest : List A) (ys : List B) → AllZip R (before ++ x ∷ rest) ys → AllByRecursion P ys
    → (y : B) × R x y × P y
zip-among R P [] x rest [] z all = absurd z
zip-among R P [] x rest (b ∷ ys) z all = (b, z.0, all.0)
zip-among R P (a ∷ before) x rest [] z all = absurd z
zip-among R P (a ∷ before) x rest (b ∷ ys) z all = zip-among R P before x rest ys z.1 all.1

-- what all elements of a list and one more have, all have with that one at the end
pub all-push : {A : Type 0} (P : A → Type 0) (xs : List A) (x : A) → AllByRecursion P xs → P x → AllByRecursion P (xs ++ x ∷ [])
all-push P [] x a p = (p, tt)
all-push P (y ∷ ys) x a p = (a.0, all-push P ys x a.1 p)

-- ---- order

-- the one is before the other by its identifier
abbrev pub Below : Shape → Shape → Type 0
Below a b = slice_cmp nat_cmp a.0 b.0 ≡ Less

below-alone : (a b : Shape) → Below a b → Below b a → ⊥
below-alone a b r s = let e = sym r ∙ nat_list_cmp_total.antisymm a.0 b.0 ∙ ap ordering_reverse s in cc

-- shapes whose identifiers ascend do so one before all others
pub ascending : (shapes : List Shape) → IsAscending (shape_ids shapes) → Ascends Below shapes
ascending [] a = tt
ascending (s ∷ ss) a = (
  all-unmap (λ (id : List ℕ). slice_cmp nat_cmp s.0 id ≡ Less) (λ (x : Shape). x.0) ss (sorted_head (slice_cmp nat_cmp) s.0 (shape_ids ss) a),
  ascending ss (sorted_tail (slice_cmp nat_cmp) s.0 (shape_ids ss) a),
)

-- shapes that are sorted are the ascending ones of which they are
sorted-shapes : (sorted kept : List Shape) → IsSortedByKey (λ (s : Shape). s.0) (slice_cmp nat_cmp) sorted → IsAscending (shape_ids kept) → IsPermutation sorted kept → sorted ≡ kept
sorted-shapes sorted kept up a p = sorted-same (λ (x y : Shape). is_lt (slice_cmp nat_cmp x.0 y.0)) (ranks_by nat_list_cmp_total (λ (s : Shape). s.0)) sorted kept
    (subst (Rises (λ (x y : Shape). is_lt (slice_cmp nat_cmp x.0 y.0))) (map-id sorted) (rises-far (λ (x y : Shape). is_lt (slice_cmp nat_cmp x.0 y.0)) (λ (s : Shape). s) sorted
    (sorted_far (λ (x y : Shape). is_lt (slice_cmp nat_cmp x.0 y.0)) (ranks_by nat_list_cmp_total (λ (s : Shape). s.0)) sorted up)))
    (ascends-map Below (Less_by (λ (x y : Shape). is_lt (slice_cmp nat_cmp x.0 y.0))) kept (λ x y r. ap is_lt r) (ascending kept a)) p

same-shapes : (a b : List Shape) → IsAscending (shape_ids a) → IsAscending (shape_ids b) → IsPermutation a b → a ≡ b
same-shapes a b up also p = same-ascending Below below-alone a b (ascending a up) (ascending b also) p

-- ---- what texts spell

-- a text spells one polygon
abbrev pub SpellsOne : Type 0
SpellsOne = (text : List ℕ) (members : List Member) → PolygonText text members → polygon_of text ≡ Ok members

abbrev members_in : Result (List Member) (WktCode × ℕ) → List Member
members_in (Ok members) = members
members_in (Err e) = []

abbrev told : StoredText → Shape
told t = (t.id, members_in (polygon_of t.wkt))

told-is : SpellsOne → (t : StoredText) (shape : Shape) → IsTextOfShape t shape → shape ≡ told t
told-is one t shape is = ap₂ (λ (id : List ℕ) (ms : List Member). (id, ms)) (sym is.0) (ap members_in (sym (one t.wkt shape.1 is.1)))

order-is : SpellsOne → (texts : List StoredText) (order : List Shape) → AllZip IsTextOfShape texts order → order ≡ map told texts
order-is one [] [] z = refl
order-is one [] (s ∷ ss) z = absurd z
order-is one (t ∷ ts) [] z = absurd z
order-is one (t ∷ ts) (s ∷ ss) z = ap₂ (λ (x : Shape) (xs : List Shape). x ∷ xs) (told-is one t s z.0) (order-is one ts ss z.1)

all-told : SpellsOne → (texts : List StoredText) (order : List Shape) → AllZip IsTextOfShape texts order → AllByRecursion (λ t. IsTextOfShape t (told t)) texts
all-told one [] order z = tt
all-told one (t ∷ ts) [] z = absurd z
all-told one (t ∷ ts) (s ∷ ss) z = (subst (IsTextOfShape t) (told-is one t s z.0) z.0, all-told one ts ss z.1)

zip-told : (texts : List StoredText) → AllByRecursion (λ t. IsTextOfShape t (told t)) texts → AllZip IsTextOfShape texts (map told texts)
zip-told [] a = tt
zip-told (t ∷ ts) a = (a.0, zip-told ts a.1)

-- texts in another order keep the same shapes, where a text spells one polygon
pub shapes-reordered : SpellsOne → (texts others : List StoredText) (shapes : List Shape) → IsPermutation texts others → ShapesAre texts shapes → ShapesAre others shapes
shapes-reordered one texts others shapes p are = record {
  ascend = are.ascend;
  order = map told others;
  spelled = zip-told others (all-moved (λ t. IsTextOfShape t (told t)) texts others p (all-told one texts are.order are.spelled));
  same = IsPermutation-trans (map told others) (map told texts) shapes (IsPermutation-map told others texts (IsPermutation-sym texts others p))
      (subst (λ (l : List Shape). IsPermutation l shapes) (order-is one texts are.order are.spelled) are.same);
}

-- two orders of the same texts keep one list of shapes, where a text spells one polygon
pub one-list : SpellsOne → (texts others : List StoredText) (shapes kept : List Shape) → IsPermutation texts others → ShapesAre texts shapes → ShapesAre others kept → shapes ≡ kept
one-list one texts others shapes kept p a b =
    let moved = shapes-reordered one texts others shapes p a in
    let order = order-is one others moved.order moved.spelled ∙ sym (order-is one others b.order b.spelled) in
    same-shapes shapes kept a.ascend b.ascend (IsPermutation-trans shapes moved.order kept (IsPermutation-sym moved.order shapes moved.same)
    (subst (λ (l : List Shape). IsPermutation l kept) (sym order) b.same))

-- an empty list of texts keeps an empty list of shapes
pub no-shapes : ShapesAre [] []
no-shapes = record { ascend = sorted_from_all_adjacent nat_list_cmp_total [] [] (λ k lt. absurd (omega (arith, lt))); order = []; spelled = tt; same = IsPermutation-refl [] }

-- shapes that were read from texts, and sorted, are those that the texts keep
pub read-shapes : SpellsOne → (texts : List StoredText) (read sorted kept : List Shape) → AllZip IsTextOfShape texts read → IsPermutation read sorted
    → IsSortedByKey (λ (s : Shape). s.0) (slice_cmp nat_cmp) sorted → ShapesAre texts kept → sorted ≡ kept
read-shapes one texts read sorted kept z p up are =
    let same : read ≡ are.order = order-is one texts read z ∙ sym (order-is one texts are.order are.spelled) in
    sorted-shapes sorted kept up are.ascend (IsPermutation-trans sorted read kept (IsPermutation-sym read sorted p) (subst (λ (l : List Shape). IsPermutation l kept) (sym same) are.same))

-- the shapes in the order of the texts have identifiers, as those that they keep
pub order-ids : (live : List (List ℕ)) (texts : List StoredText) (shapes : List Shape) (are : ShapesAre texts shapes) → AreLive live shapes → AllByRecursion HasId are.order
order-ids live texts shapes are all = all-moved HasId shapes are.order (IsPermutation-sym are.order shapes are.same) (all-map (IsLive live) HasId shapes (λ s it. it.0) all)

-- ---- the shapes of parcels

parcel-shape-ids : (parcels : List Parcel) → shape_ids (map parcel_shape parcels) ≡ parcel_ids parcels
parcel-shape-ids [] = refl
parcel-shape-ids (p ∷ ps) = ap (λ (l : List (List ℕ)). p.id ∷ l) (parcel-shape-ids ps)

-- what is sorted, with no identifier twice, ascends
pub parcels-ascend : (parcels : List Parcel) (sorted : List Shape) → IsDistinct same_id (parcel_ids parcels) → IsPermutation (map parcel_shape parcels) sorted
    → IsSortedByKey (λ (s : Shape). s.0) (slice_cmp nat_cmp) sorted → IsAscending (shape_ids sorted)
parcels-ascend parcels sorted apart p up = sorted-ascends (λ (s : Shape). s.0) sorted (IsDistinct-IsPermutation same_id same-sym (parcel_ids parcels) (shape_ids sorted)
    (subst (λ (l : List (List ℕ)). IsPermutation l (shape_ids sorted)) (parcel-shape-ids parcels) (IsPermutation-map (λ (s : Shape). s.0) (map parcel_shape parcels) sorted p)) apart) up

-- copies are of live parcels
pub copied-live : (parcels : List Parcel) (i : ℕ) (copies : List Shape) → length parcels ≤ i → copies ≡ map parcel_shape (take i parcels) → AllByRecursion (λ (s : Shape). is_id s.0 ≡ true) copies
    → AreLive (parcel_ids parcels) copies
copied-live parcels i copies le same ids = all-both (λ (s : Shape). is_id s.0 ≡ true) (λ (s : Shape). has_id (parcel_ids parcels) s.0 ≡ true) (IsLive (parcel_ids parcels)) copies (λ s a b. (a, b)) ids
    (subst (AllByRecursion (λ (s : Shape). has_id (parcel_ids parcels) s.0 ≡ true)) (sym (same ∙ ap (λ (l : List Parcel). map parcel_shape l) (take-whole parcels i le))) (among parcels
    (λ id h. h))) where
      among : (ps : List Parcel) → ((id : List ℕ) → has_id (parcel_ids ps) id ≡ true → has_id (parcel_ids parcels) id ≡ true)
          → AllByRecursion (λ (s : Shape). has_id (parcel_ids parcels) s.0 ≡ true) (map parcel_shape ps)
      among [] f = tt
      among (p ∷ ps) f = (f p.id (or_left (same_id p.id p.id) (has_id (parcel_ids ps) p.id) (same-refl p.id)), among ps (λ id h. f id (or_right (same_id id p.id) (has_id (parcel_ids ps) id) h)))
