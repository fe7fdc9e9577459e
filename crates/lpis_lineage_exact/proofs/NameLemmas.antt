-- Identifiers beside their shapes.
use Rattle.std.proofs.Common.{◌≡◌, ◌∙◌, ◌||◌, ℕ, zero, suc, List, [], ◌∷◌, Bool, true, false, Option, Some, ◌↔◌, refl, sym, ap, subst, slice_get}
use Rattle.std.specs.List.{AllByRecursion, AllZip, IsDistinct}
use Rattle.std.specs.Ordering.{eq_by_cmp, nat_cmp}
use Rattle.std.specs.Cmp.Lexicographic.{slice_cmp}
use Rattle.std.proofs.lemmas.Map.Keys.{IsDistinct-from_sorted, IsDistinct-head, IsDistinct-tail, any_passes_from_place}
use Rattle.std.proofs.lemmas.Option.{none-some, same_Some}
use Rattle.lpis_points.specs.Plane.{RationalPoint}
use Rattle.lpis_rings.specs.declared.polygon.Member.{Member}
use Rattle.lpis_rings.specs.Edges.{Contains}
use Rattle.lpis_tables.specs.Ids.{has_id, same_id}
use Rattle.lpis_lineage.specs.Order.{IsAscending}
use Rattle.lpis_lineage.proofs.Shared.{same-by_order, same-exact, same-refl}
use Rattle.lpis_edge_sums.specs.Counting.{ExactlyOne}
use Rattle.lpis_edge_sums.proofs.Shared.{any_found, found_any}
use Rattle.lpis_lineage_exact.specs.Asking.{HasShape}
use Rattle.lpis_lineage_exact.specs.ExactLineage.{ExactlyOneOf, LiesIn}

-- ---- places in lists of identifiers
all_rec_at : {A : Type 0} (P : A → Type 0) (xs : List A) (k : ℕ) (x : A) → AllByRecursion P xs → slice_get xs k ≡ Some x → P x
all_rec_at P [] k x h e = absurd (none-some x e)
all_rec_at P (y ∷ ys) zero x h e = subst P (same_Some y x e) h.0
all_rec_at P (y ∷ ys) (suc k) x h e = all_rec_at P ys k x h.1 e

not_apart : (x a : List ℕ) → x ≡ a → eq_by_cmp (slice_cmp nat_cmp) x a ≡ false → ⊥
not_apart x a e l = clash (sym (same-refl x) ∙ ap (λ (y : List ℕ). same_id x y) e ∙ same-by_order x a ∙ l)
  where
    clash : true ≡ false → ⊥
    clash f = cc

distinct_in : (xs : List (List ℕ)) → IsDistinct (eq_by_cmp (slice_cmp nat_cmp)) xs → (i j : ℕ) (a : List ℕ) → slice_get xs i ≡ Some a → slice_get xs j ≡ Some a → i ≡ j
distinct_in [] s i j a e f = absurd (none-some a e)
distinct_in (x ∷ xs) s zero zero a e f = refl
distinct_in (x ∷ xs) s zero (suc j) a e f = absurd (not_apart x a (same_Some x a e)
    (all_rec_at (λ y. eq_by_cmp (slice_cmp nat_cmp) x y ≡ false) xs j a (IsDistinct-head (eq_by_cmp (slice_cmp nat_cmp)) x xs s) f))
distinct_in (x ∷ xs) s (suc i) zero a e f = absurd (not_apart x a (same_Some x a f)
    (all_rec_at (λ y. eq_by_cmp (slice_cmp nat_cmp) x y ≡ false) xs i a (IsDistinct-head (eq_by_cmp (slice_cmp nat_cmp)) x xs s) e))
distinct_in (x ∷ xs) s (suc i) (suc j) a e f = ap suc (distinct_in xs (IsDistinct-tail (eq_by_cmp (slice_cmp nat_cmp)) x xs s) i j a e f)

-- in an ascending list an identifier stands once
pub distinct_at : (xs : List (List ℕ)) → IsAscending xs → (i j : ℕ) (a : List ℕ) → slice_get xs i ≡ Some a → slice_get xs j ≡ Some a → i ≡ j
distinct_at xs s = distinct_in xs (IsDistinct-from_sorted (slice_cmp nat_cmp) xs s)

has_index : (ids : List (List ℕ)) (q : List ℕ) → has_id ids q ≡ true → (i : ℕ) × (slice_get ids i ≡ Some q)
has_index [] q e = cc e
has_index (x ∷ xs) q e = by (same_id q x) refl e (has_index xs q)
  where
    by : (b : Bool) → b ≡ same_id q x → (b || has_id xs q) ≡ true → (has_id xs q ≡ true → (i : ℕ) × (slice_get xs i ≡ Some q)) → (i : ℕ) × (slice_get (x ∷ xs) i ≡ Some q)
    by true s e rec = (0, ap Some (sym (same-exact q x (sym s))))
    by false s e rec = let r = rec e in (suc r.0, r.1)

index_has : (ids : List (List ℕ)) (i : ℕ) (q : List ℕ) → slice_get ids i ≡ Some q → has_id ids q ≡ true
index_has ids i q e = any_passes_from_place (same_id q) ids i q e (same-refl q)

-- ---- a list of identifiers with their shapes
pub record Named (f : List ℕ → Option (List Member)) (ids : List (List ℕ)) (i : ℕ) (m : List Member) : Type 0 where
  pub id : List ℕ
  pub at : slice_get ids i ≡ Some id
  pub shape : f id ≡ Some m

-- the shape at an index is that of the identifier at the same index
pub name_at : (f : List ℕ → Option (List Member)) (ids : List (List ℕ)) (ms : List (List Member)) → AllZip (HasShape f) ids ms → (i : ℕ) (m : List Member) → slice_get ms i ≡ Some m → Named f ids i m
name_at f ids [] e i m g = absurd (none-some m g)
name_at f [] (x ∷ ms) e i m g = absurd e
name_at f (a ∷ ids) (x ∷ ms) e zero m g = record { id = a; at = refl; shape = e.0 ∙ g }
name_at f (a ∷ ids) (x ∷ ms) e (suc i) m g =
    let n = name_at f ids ms e.1 i m g in record { id = n.id; at = n.at; shape = n.shape }

-- an identifier has a shape, which is the one at this index
pub record Shaped (f : List ℕ → Option (List Member)) (ms : List (List Member)) (i : ℕ) (q : List ℕ) : Type 0 where
  pub shape : List Member
  pub is : f q ≡ Some shape
  pub at : slice_get ms i ≡ Some shape

part_at : (f : List ℕ → Option (List Member)) (ids : List (List ℕ)) (ms : List (List Member)) → AllZip (HasShape f) ids ms → (i : ℕ) (q : List ℕ) → slice_get ids i ≡ Some q → Shaped f ms i q
part_at f [] ms e i q g = absurd (none-some q g)
part_at f (a ∷ ids) [] e i q g = absurd e
part_at f (a ∷ ids) (x ∷ ms) e zero q g = record { shape = x; is = ap f (sym (same_Some a q g)) ∙ e.0; at = refl }
part_at f (a ∷ ids) (x ∷ ms) e (suc i) q g =
    let n = part_at f ids ms e.1 i q g in record { shape = n.shape; is = n.is; at = n.at }

-- exactly one shape of the list contains the point where it lies in exactly one of the identifiers
pub exactly_named : (f : List ℕ → Option (List Member)) (ids : List (List ℕ)) (ms : List (List Member)) (among : List ℕ → Bool) → AllZip (HasShape f) ids ms
    → IsAscending ids → ((q : List ℕ) → has_id ids q ≡ among q) → (p : RationalPoint)
    → ExactlyOne (λ (m : List Member). Contains m p) ms ↔ ExactlyOneOf among (LiesIn f p)
exactly_named f ids ms among e s same p = (to, from)
  where
    IsIn : List Member → Type 0
    IsIn m = Contains m p

    moved : (m n : List Member) → m ≡ n → Contains m p → Contains n p
    moved m n e c = subst (λ (x : List Member). Contains x p) e c

    to : ExactlyOne (λ (m : List Member). Contains m p) ms → ExactlyOneOf among (LiesIn f p)
    to x =
        let d = any_found (λ (m : List Member). Contains m p) ms x.0 in
        let n = name_at f ids ms e d.index d.item d.at in
        record {
          one = n.id;
          is_among = sym (same n.id) ∙ index_has ids d.index n.id n.at;
          has = record { shape = d.item; is = n.shape; inside = d.has };
          no_other = λ q a l.
              let i = has_index ids q (same q ∙ a) in
              let m = part_at f ids ms e i.0 q i.1 in
              let k = x.1 i.0 d.index m.shape d.item m.at d.at (moved l.shape m.shape (same_Some l.shape m.shape (sym l.is ∙ m.is)) l.inside) d.has in
              same_Some q n.id (sym i.1 ∙ ap (λ (j : ℕ). slice_get ids j) k ∙ n.at);
        }

    from : ExactlyOneOf among (LiesIn f p) → ExactlyOne (λ (m : List Member). Contains m p) ms
    from o =
        let i = has_index ids o.one (same o.one ∙ o.is_among) in
        let m = part_at f ids ms e i.0 o.one i.1 in (
          found_any (λ (x : List Member). Contains x p) ms (record {
            index = i.0;
            item = m.shape;
            at = m.at;
            has =
                moved o.has.shape m.shape (same_Some o.has.shape m.shape (sym o.has.is ∙ m.is)) o.has.inside;
          }),
          λ j k a b g h x y.
              let v = name_at f ids ms e j a g in
              let w = name_at f ids ms e k b h in
              let t : v.id ≡ o.one = o.no_other v.id (sym (same v.id) ∙ index_has ids j v.id v.at) (record { shape = a; is = v.shape; inside = x }) in
              let u : w.id ≡ o.one = o.no_other w.id (sym (same w.id) ∙ index_has ids k w.id w.at) (record { shape = b; is = w.shape; inside = y }) in
              distinct_at ids s j k o.one (v.at ∙ ap Some t) (w.at ∙ ap Some u),
        )
