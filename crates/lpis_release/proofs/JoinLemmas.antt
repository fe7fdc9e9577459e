-- The joins, a row at a time.
use Rattle.std.proofs.Common.{◌≡◌, ◌<◌, ◌+◌, ◌-◌, ◌++◌, ◌∷◌, [], ℕ, zero, suc, List, length, filter, map, take, drop, ◌==◌, Bool, true, false, not, cond, Option, Some, None, Ok, Err, refl, sym}
use Rattle.std.proofs.Common.{ap, ◌∙◌, arith, add-one, drop-cons, ◌||◌, is_some, slice_get}
use Rattle.lpis_release.proofs.Common.{Class, Join, Piece, indices_where, joined_pieces, names_parcel, reference_faults}
use Rattle.lpis_release.proofs.GroupLemmas.{group-more}
use Rattle.std.specs.List.{IsDistinct, list_any, AllByRecursion}
use Rattle.std.proofs.lemmas.List.{map-append, take_more, length-take-le}
use Rattle.std.proofs.lemmas.Option.{slice_get_within, get_or_from_slice_get}
use Rattle.lpis_release.specs.private.Joined.{AreJoins}
use Rattle.std.proofs.lemmas.Slice.Eq.{bytes_eq-Decides}
use Rattle.lpis_tables.specs.declared.fault.TableFault.{TableFault}
use Rattle.lpis_tables.specs.declared.fault.TableCode.TheVariants.{UnknownParcel, UnknownClass}
use Rattle.lpis_tables.specs.Faults.{unless_faulty}
use Rattle.lpis_tables.specs.Ids.{has_id, same_id}
use Rattle.lpis_tables.specs.Table.{fault_at}
use Rattle.lpis_release.specs.Weighted.{class_named}
use Rattle.lpis_tables.proofs.Shared.{column-fault}
use Rattle.lpis_release.specs.private.Groups.{Refuses, empty_faults, group_at, is_nil, is_of_parcel}
use Rattle.lpis_release.specs.declared.parcel.Parcel.{Parcel}
use Rattle.std.proofs.lemmas.Bool.Decides.{nat_tests}
use Rattle.lpis_release.specs.Release.{class_codes, unnamed_parcel_faults, parcel_ids, unknown_faults}
use Rattle.lpis_tables.specs.declared.fault.Table.TheVariants as table

-- identifiers
same-sym-false : (a b : List ℕ) → same_id a b ≡ false → same_id b a ≡ false
same-sym-false a b e = by (same_id b a) refl where
  by : (t : Bool) → same_id b a ≡ t → same_id b a ≡ false
  by true t = absurd (let s : b ≡ a = (bytes_eq-Decides b a).0 t in let r : same_id a b ≡ true = rw s ((bytes_eq-Decides a a).1 refl) in cc)
  by false t = t

-- one row's unknown parcel or class
pub parcel-unknown : (parcels : List Parcel) (classes : List Class) (n : ℕ) (piece : Piece) (o : Option ℕ)
    → is_some o ≡ has_id (parcel_ids parcels) piece.parcel → o ≡ None → unless_faulty {A = Unit {0}} (unknown_faults parcels classes n piece) (tt {0}) ≡ Err (fault_at UnknownParcel table.Covers n)
parcel-unknown parcels classes n piece o found none =
    let absent : has_id (parcel_ids parcels) piece.parcel ≡ false = sym found ∙ ap is_some none in
    rw absent refl

-- where a piece's parcel is found and its class is not, its first fault is the unknown class
pub class-unknown : (parcels : List Parcel) (classes : List Class) (n : ℕ) (piece : Piece) (o p : Option ℕ) (k : ℕ)
    → is_some o ≡ has_id (parcel_ids parcels) piece.parcel → o ≡ Some k → is_some p ≡ has_id (class_codes classes) piece.class → p ≡ None
    → unless_faulty {A = Unit {0}} (unknown_faults parcels classes n piece) (tt {0}) ≡ Err (fault_at UnknownClass table.Covers n)
class-unknown parcels classes n piece o p k found some there none =
    let present : has_id (parcel_ids parcels) piece.parcel ≡ true = sym found ∙ ap is_some some in
    let absent : has_id (class_codes classes) piece.class ≡ false = sym there ∙ ap is_some none in
    rw (present, absent) refl

-- where a piece's parcel and its class are found, neither is reported as unknown
pub none-unknown : (parcels : List Parcel) (classes : List Class) (n : ℕ) (piece : Piece) (o p : Option ℕ) (k j : ℕ)
    → is_some o ≡ has_id (parcel_ids parcels) piece.parcel → o ≡ Some k → is_some p ≡ has_id (class_codes classes) piece.class → p ≡ Some j
    → unknown_faults parcels classes n piece ≡ []
none-unknown parcels classes n piece o p k j found some there also =
    let present : has_id (parcel_ids parcels) piece.parcel ≡ true = sym found ∙ ap is_some some in
    let known : has_id (class_codes classes) piece.class ≡ true = sym there ∙ ap is_some also in
    rw (present, known) refl

-- the index of the identifier of one item only
other-ids : (id x : List ℕ) (ids : List (List ℕ)) (k : ℕ) → AllByRecursion (λ (y : List ℕ). same_id id y ≡ false) ids → slice_get ids k ≡ Some x → same_id id x ≡ false
other-ids id x [] k h e = cc e
other-ids id x (y ∷ ys) zero h e = let s : y ≡ x = cc e in rw (← s) h.0
other-ids id x (y ∷ ys) (suc k) h e = other-ids id x ys k h.1 e

same-index : (ids : List (List ℕ)) (k m : ℕ) (x y : List ℕ) → IsDistinct same_id ids → slice_get ids k ≡ Some x → slice_get ids m ≡ Some y → same_id y x ≡ (k == m)
unfolding IsDistinct
same-index [] k m x y d e f = cc e
same-index (z ∷ zs) zero zero x y d e f = let one : y ≡ x = cc (e, f) in (bytes_eq-Decides y x).1 one ∙ grind (arith, nat_tests)
same-index (z ∷ zs) zero (suc m) x y d e f =
    let is : z ≡ x = cc e in
    same-sym-false x y (rw is at (other-ids z y zs m d.0 f)) ∙ grind (arith, nat_tests)
same-index (z ∷ zs) (suc k) zero x y d e f = let is : z ≡ y = cc f in rw is at (other-ids z x zs k d.0 e) ∙ grind (arith, nat_tests)
same-index (z ∷ zs) (suc k) (suc m) x y d e f = same-index zs k m x y d.1 e f ∙ grind (arith, nat_tests)

-- the indices with one item more
indices-more : {A : Type 0} (test : A → Bool) (i : ℕ) (xs : List A) (x : A)
    → indices_where test i (xs ++ x ∷ []) ≡ cond (test x) (indices_where test i xs ++ (i + length xs) ∷ []) (indices_where test i xs)
indices-more test i [] x = by (test x) where
  by : (b : Bool) → cond b (i ∷ []) [] ≡ cond b ([] ++ (i + 0) ∷ []) []
  by true = let n : i ≡ i + 0 = omega arith in ap (λ (m : ℕ). m ∷ []) n
  by false = refl
indices-more test i (y ∷ ys) x = by (test y) (test x) _ _ (indices-more test (i + 1) ys x) where
  by : (b c : Bool) (after before : List ℕ) → after ≡ cond c (before ++ (i + 1 + length ys) ∷ []) before
      → cond b (i ∷ after) after ≡ cond c (cond b (i ∷ before) before ++ (i + suc (length ys)) ∷ []) (cond b (i ∷ before) before)
  by true true after before h = let n : i + 1 + length ys ≡ i + suc (length ys) = omega arith in ap (λ (l : List ℕ). i ∷ l) h ∙ ap (λ (m : ℕ). i ∷ (before ++ m ∷ [])) n
  by true false after before h = ap (λ (l : List ℕ). i ∷ l) h
  by false true after before h = let n : i + 1 + length ys ≡ i + suc (length ys) = omega arith in h ∙ ap (λ (m : ℕ). before ++ m ∷ []) n
  by false false after before h = h

-- the class of a code
class-at : (classes : List Class) (code : List ℕ) (j : ℕ) → IsDistinct same_id (class_codes classes) → slice_get (class_codes classes) j ≡ Some code → slice_get classes j ≡ class_named classes code
unfolding IsDistinct
class-at [] code j d e = cc e
class-at (k ∷ ks) code zero d e =
    let is : k.code ≡ code = cc e in
    let same : same_id code k.code ≡ true = rw is ((bytes_eq-Decides code code).1 refl) in
    rw same refl
class-at (k ∷ ks) code (suc j) d e =
    let other : same_id code k.code ≡ false = same-sym-false k.code code (other-ids k.code code (class_codes ks) j d.0 e) in
    rw other (class-at ks code j d.1 e)

take-more : {A : Type 0} (xs : List A) (i : ℕ) (x : A) → slice_get xs i ≡ Some x → take (i + 1) xs ≡ take i xs ++ x ∷ []
take-more {A} xs i x e = take_more xs i x (slice_get_within xs i x e) ∙ ap (λ (y : A). take i xs ++ y ∷ []) (get_or_from_slice_get xs i x x e)

length-taken : {A : Type 0} (xs : List A) (i : ℕ) (x : A) → slice_get xs i ≡ Some x → length (take i xs) ≡ i
length-taken xs i x e = length-take-le i xs (omega (arith, slice_get_within xs i x e))

-- a list from an index on is the item at the index, and then the list from the next one on
pub drop-at : {A : Type 0} (xs : List A) (i : ℕ) (x : A) → slice_get xs i ≡ Some x → drop i xs ≡ x ∷ drop (i + 1) xs
drop-at {A} xs i x e = rw add-one (drop-cons xs i x (slice_get_within xs i x e) ∙ ap (λ (y : A). y ∷ drop (suc i) xs) (get_or_from_slice_get xs i x x e))

-- no piece joined yet
pub joins-none : (parcels : List Parcel) (classes : List Class) → AreJoins parcels [] classes [] []
joins-none parcels classes = record { groups_are = λ k id e. refl; classes_are = refl }

-- one piece more
pub joins-more : (parcels : List Parcel) (pieces : List Piece) (classes : List Class) (joins after : List Join) (indices indices_after : List ℕ) (i k j : ℕ) (piece : Piece)
    → IsDistinct same_id (parcel_ids parcels) → IsDistinct same_id (class_codes classes)
    → slice_get pieces i ≡ Some piece → slice_get (parcel_ids parcels) k ≡ Some piece.parcel → slice_get (class_codes classes) j ≡ Some piece.class
    → AreJoins parcels (take i pieces) classes joins indices
    → after ≡ joins ++ record { parcel = k; piece = i } ∷ [] → indices_after ≡ indices ++ j ∷ []
    → AreJoins parcels (take (i + 1) pieces) classes after indices_after
joins-more parcels pieces classes joins after indices indices_after i k j piece d e at parcel class h is also =
    let n : 0 + length (take i pieces) ≡ i = omega (arith, length-taken pieces i piece at) in
    record {
      groups_are = λ m id there.
          let F = indices_where (names_parcel id) 0 (take i pieces) in
          ap (λ (js : List Join). group_at js m) is ∙ group-more joins (record { parcel = k; piece = i }) m
          ∙ sym (ap (indices_where (names_parcel id) 0) (take-more pieces i piece at) ∙ indices-more (names_parcel id) 0 (take i pieces) piece
          ∙ ap (λ (l : ℕ). cond (names_parcel id piece) (F ++ l ∷ []) F) n
          ∙ ap (λ (b : Bool). cond b (F ++ i ∷ []) F) (same-index (parcel_ids parcels) k m piece.parcel id d parcel there)
          ∙ ap (λ (G : List ℕ). cond (k == m) (G ++ i ∷ []) G) (sym (h.groups_are m id there)));
      classes_are = ap (map (slice_get classes)) also ∙ map-append (slice_get classes) indices (j ∷ [])
          ∙ ap (λ (l : List (Option Class)). l ++ slice_get classes j ∷ []) h.classes_are
          ∙ ap (λ (o : Option Class). map (λ (p : Piece). class_named classes p.class) (take i pieces) ++ o ∷ []) (class-at classes piece.class j e class)
          ∙ sym (ap (map (λ (p : Piece). class_named classes p.class)) (take-more pieces i piece at) ∙ map-append (λ (p : Piece). class_named classes p.class) (take i pieces) (piece ∷ []));
    }

-- the same in the order of the parcels
pub joins-sorted : (parcels : List Parcel) (pieces : List Piece) (classes : List Class) (joins groups : List Join) (indices : List ℕ) → AreJoins parcels pieces classes joins indices
    → ((k : ℕ) → group_at groups k ≡ group_at joins k) → AreJoins parcels pieces classes groups indices
joins-sorted parcels pieces classes joins groups indices h same = record { groups_are = λ k id e. same k ∙ h.groups_are k id e; classes_are = h.classes_are }

-- the faults of the pieces, one further
pub pieces-more : (parcels : List Parcel) (classes : List Class) (n i : ℕ) (pieces : List Piece) (piece : Piece) → slice_get pieces i ≡ Some piece → unknown_faults parcels classes n piece ≡ []
    → reference_faults parcels classes n (drop i pieces) ≡ reference_faults parcels classes (n + 1) (drop (i + 1) pieces)
pieces-more parcels classes n i pieces piece at none =
    ap (reference_faults parcels classes n) (drop-at pieces i piece at) ∙ ap (λ (fs : List TableFault). fs ++ reference_faults parcels classes (n + 1) (drop (i + 1) pieces)) none

-- a piece is refused by its first fault, and so are the pieces from it on
pub piece-refused : (parcels : List Parcel) (classes : List Class) (n i : ℕ) (pieces : List Piece) (piece : Piece) (f : TableFault) → slice_get pieces i ≡ Some piece
    → Refuses (unknown_faults parcels classes n piece) f → Refuses (reference_faults parcels classes n (drop i pieces)) f
piece-refused parcels classes n i pieces piece f at h =
    rw (drop-at pieces i piece at) (column-fault (unknown_faults parcels classes n piece) (reference_faults parcels classes (n + 1) (drop (i + 1) pieces)) tt tt f h)

-- a group is empty where no piece names its parcel
nil-indices : {A : Type 0} (test : A → Bool) (i : ℕ) (xs : List A) → is_nil (indices_where test i xs) ≡ not (list_any test xs)
nil-indices test i [] = refl
nil-indices test i (x ∷ xs) = by (test x) (indices_where test (i + 1) xs) (list_any test xs) (nil-indices test (i + 1) xs) where
  by : (b : Bool) (indices : List ℕ) (any : Bool) → is_nil indices ≡ not any → is_nil (cond b (i ∷ indices) indices) ≡ not (b || any)
  by true indices any h = refl
  by false indices any h = h

empty-groups : (joins : List Join) (pieces : List Piece) (k : ℕ) (parcels : List Parcel)
    → ((m : ℕ) (id : List ℕ) → slice_get (parcel_ids parcels) m ≡ Some id → group_at joins (k + m) ≡ indices_where (names_parcel id) 0 pieces)
    → empty_faults joins k (length parcels) ≡ unnamed_parcel_faults pieces (k + 1) parcels
empty-groups joins pieces k [] h = refl
empty-groups joins pieces k (p ∷ ps) h =
    let here : k + 0 ≡ k = omega arith in
    let group : group_at joins k ≡ indices_where (names_parcel p.id) 0 pieces = rw here at (h 0 p.id refl) in
    let empty : is_nil (group_at joins k) ≡ not (list_any (names_parcel p.id) pieces) = ap is_nil group ∙ nil-indices (names_parcel p.id) 0 pieces in
    let others = empty-groups joins pieces (k + 1) ps (λ m id e. let next : k + 1 + m ≡ k + suc m = omega arith in ap (group_at joins) next ∙ h (suc m) id e) in
    rw (empty, others) refl

-- where some join of the parcel k is found, its group of pieces is not empty
pub some-found : (joins found : List Join) (k : ℕ) → found ≡ filter (is_of_parcel k) joins → (length found == 0) ≡ false → is_nil (group_at joins k) ≡ false
some-found joins found k e h = rw (← e) (by found h) where
  by : (found : List Join) → (length found == 0) ≡ false → is_nil (joined_pieces found) ≡ false
  by [] h = absurd (let e : (0 == 0) ≡ true = grind (arith, nat_tests) in cc)
  by (j ∷ js) h = refl

-- where the parcel k has a piece, the parcels without pieces from k on are those from the next one on
pub groups-next : (joins : List Join) (k count : ℕ) → k < count → is_nil (group_at joins k) ≡ false → empty_faults joins k (count - k) ≡ empty_faults joins (k + 1) (count - (k + 1))
groups-next joins k count lt h =
    let n : count - k ≡ suc (count - (k + 1)) = omega arith in
    ap (empty_faults joins k) n ∙ rw h refl

-- where no first fault is reported of a list of faults, the list is empty
pub told-none : (fs : List TableFault) → unless_faulty {A = Unit {0}} fs (tt {0}) ≡ Ok (tt {0}) → fs ≡ []
told-none [] h = refl
told-none (f ∷ fs) h = cc h

-- the faults of the groups are those of the parcels
pub groups-faults : (parcels : List Parcel) (pieces : List Piece) (classes : List Class) (groups : List Join) (indices : List ℕ) (count : ℕ) → AreJoins parcels pieces classes groups indices
    → count ≡ length parcels → empty_faults groups 0 count ≡ unnamed_parcel_faults pieces 1 parcels
groups-faults parcels pieces classes groups indices count h e =
    ap (empty_faults groups 0) e ∙ empty-groups groups pieces 0 parcels (λ m id at. let first : 0 + m ≡ m = omega arith in ap (group_at groups) first ∙ h.groups_are m id at)
