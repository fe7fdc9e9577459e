-- The part for which a certificate does not get blocks.
use Rattle.std.proofs.Common.{◌≡◌, ◌∙◌, ◌↔◌, ◌+◌, IsTrue, ◌<◌, ◌∷◌, ◌||◌, [], All, Some, arith, refl, sym, ap, subst, zero, suc, true, false, Bool, ℕ, List, length, map, take, get_or, slice_get}
use Rattle.std.proofs.lemmas.List.Elements.{All-more}
use Rattle.lpis_points.specs.Triangles.{IsFlat}
use Rattle.lpis_points.specs.declared.triangle.Triangle.{Triangle}
use Rattle.lpis_rings.specs.declared.polygon.Member.{Member}
use Rattle.lpis_edge_sums.specs.Making.{EdgesCancel, FlatsHaveCorners}
use Rattle.lpis_checker.specs.declared.exact.ExactPart.{ExactPart}
use Rattle.lpis_tables.specs.Ids.{has_id, same_id}
use Rattle.lpis_run_publish.specs.declared.blocks.BlockFault.{BlockFault}
use Rattle.lpis_run_publish.specs.declared.blocks.BlockFault.TheVariants.{Memory, NoFlats}
use Rattle.lpis_run_publish.specs.ExactAnswer.{AreFlatsOf}
use Rattle.lpis_run_publish.specs.private.Blocks.{IsOf, IsUnfilled}

right-true : (a b : Bool) → b ≡ true → (a || b) ≡ true
right-true true b e = refl
right-true false b e = e

has-at : (xs : List ExactPart) (i : ℕ) (d : ExactPart) (id : List ℕ) → i < length xs → same_id id (get_or xs i d).id ≡ true → has_id (map (λ (x : ExactPart). x.id) xs) id ≡ true
has-at [] i d id lt e = absurd (omega arith)
has-at (x ∷ xs) zero d id lt e = ap (λ (b : Bool). b || has_id (map (λ (y : ExactPart). y.id) xs) id) e
has-at (x ∷ xs) (suc i) d id lt e = right-true (same_id id x.id) _ (has-at xs i d id (omega arith) e)

-- flats are told by their conditions
pub flats-told : (x : ExactPart) (ps : List (List Member)) (flats : List Triangle) (flat corners edges all : Bool) → ps ≡ x.parts
    → (IsTrue flat ↔ All IsFlat flats) → (IsTrue corners ↔ FlatsHaveCorners x.whole ps flats) → (IsTrue edges ↔ EdgesCancel x.whole ps flats)
    → (IsTrue all ↔ (IsTrue flat × IsTrue corners × IsTrue edges)) → IsTrue all ↔ AreFlatsOf x flats
flats-told x ps flats flat corners edges all same f c e a =
    let at_corners = subst (λ (qs : List (List Member)). IsTrue corners ↔ FlatsHaveCorners x.whole qs flats) same c in
    let at_edges = subst (λ (qs : List (List Member)). IsTrue edges ↔ EdgesCancel x.whole qs flats) same e in (
      λ t. let told = a.0 t in record { flat = f.0 told.0; corners = at_corners.0 told.1; edges = at_edges.0 told.2 },
      λ r. a.1 (f.1 r.flat, at_corners.1 r.corners, at_edges.1 r.edges),
    )

-- a part has flats that make it up
abbrev pub HasFlats : ExactPart → Type 0
HasFlats x = (flats : List Triangle) × AreFlatsOf x flats

-- one more has, behind those that have
pub flats-more : (xs : List ExactPart) (i : ℕ) (x : ExactPart) → i < length xs → x ≡ get_or xs i x → All HasFlats (take i xs) → HasFlats x → All HasFlats (take (i + 1) xs)
flats-more xs i x lt at before has = All-more HasFlats xs i x lt before (subst HasFlats at has)

stands-at : (xs : List ExactPart) (i : ℕ) (d : ExactPart) → i < length xs → slice_get xs i ≡ Some (get_or xs i d)
stands-at [] i d lt = absurd (omega arith)
stands-at (x ∷ xs) zero d lt = refl
stands-at (x ∷ xs) (suc i) d lt = stands-at xs i d (omega arith)

-- the fault of a part behind those that have flats is one of them all
pub of-one : (xs : List ExactPart) (i : ℕ) (x : ExactPart) (fault : BlockFault) → i < length xs → x ≡ get_or xs i x → All HasFlats (take i xs) → IsUnfilled x fault → IsOf xs fault
of-one xs i x Memory lt at before is = tt
of-one xs i x (NoFlats id) lt at before is =
    let same : same_id id (get_or xs i x).id ≡ true = subst (λ (y : ExactPart). same_id id y.id ≡ true) at is.0 in
    (has-at xs i x id lt same, record { at = i; part = x; stands = stands-at xs i x lt ∙ ap Some (sym at); named = is.0; before = before; unfilled = is.1 })
