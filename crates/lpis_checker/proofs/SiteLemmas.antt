-- What is said of items side by side, and of a pair line where there is one.
use Rattle.std.specs.Prelude.{⊤}
use Rattle.std.proofs.Common.{◌≡◌, ℕ, ◌+◌, ◌<◌, ◌≤◌, Bool, List, get_or, length, Option, Some, None, inl, inr, ◌↔◌, IsTrue, MatchOption, ap, sym, refl, ◌∙◌, subst, arith, slice_get}
use Rattle.std.proofs.Common.{IfOk, Result}
use Rattle.lpis_checker.proofs.Common.{cases_eq, cases_lt, same_Some, Cert, PairLine, PiecePart, triangles_of}
use Rattle.std.proofs.lemmas.List.Concat.{length-flat_map}
use Rattle.lpis_points.specs.Triangles.{most_triangles}
use Rattle.std.proofs.lemmas.Option.{MatchOption-from_none, none-some, slice_get_read, slice_get_past}
use Rattle.lpis_checker.specs.GoodCertificate.{OfLine, SideBySide}

-- ---- side by side
-- what is said of two items that are there
pub both_hold : {A B : Type 0} (P : A → B → Type 0) (o : Option A) (u : Option B) (x : A) (t : B) → SideBySide P o u → o ≡ Some x → u ≡ Some t → P x t
both_hold {A} {B} P (Some y) (Some v) x t h e f = subst (P x) (same_Some v t f) (subst (λ (z : A). P z v) (same_Some y x e) h)
both_hold {A} {B} P (Some y) None x t h e f = absurd (none-some t f)
both_hold {A} {B} P None u x t h e f = absurd (none-some x e)

-- the part beside an item
pub part_beside : {A B : Type 0} (P : A → B → Type 0) (o : Option A) (u : Option B) (x : A) → SideBySide P o u → o ≡ Some x → (t : B) × (u ≡ Some t) × P x t
part_beside {A} {B} P (Some y) (Some t) x h e = (t, refl, subst (λ (z : A). P z t) (same_Some y x e) h)
part_beside {A} {B} P (Some y) None x h e = absurd h
part_beside {A} {B} P None u x h e = absurd (none-some x e)

-- more that is said of both
pub more_beside : {A B : Type 0} (P Q : A → B → Type 0) (o : Option A) (u : Option B) → SideBySide P o u → ((x : A) (t : B) → o ≡ Some x → u ≡ Some t → Q x t) → SideBySide Q o u
more_beside P Q (Some x) (Some t) h more = more x t refl refl
more_beside P Q None None h more = tt
more_beside P Q _ _ h more = absurd h

-- ---- pair lines
-- a test of what a pair line meets is one of what the certificate's line at its index meets
pub of_line : (c : Cert) (P : PairLine → Type 0) (b : Bool) (k : ℕ) (l : PairLine) → slice_get c.pairs k ≡ Some l → (IsTrue b ↔ P l) → IsTrue b ↔ OfLine c k P
of_line c P b k l e h = subst (λ (o : Option PairLine). IsTrue b ↔ MatchOption o ⊤ P) (sym e) h

-- an item that is read from a slice of the list
pub read_at : {A : Type 0} (slice items : List A) (i : ℕ) (x : A) → slice ≡ items → i < length items → x ≡ get_or slice i x → slice_get items i ≡ Some x
read_at slice items i x e l r =
    slice_get_read items (length items) i x refl l (r ∙ ap (λ (xs : List _). get_or xs i x) e)

-- ---- walking up to a place
-- one place more
pub holds_below_next : (P : ℕ → Type 0) (k : ℕ) → P k → ((m : ℕ) → m < k → P m) → (m : ℕ) → m < k + 1 → P m
holds_below_next P k here below m l = elim (cases_eq m k) [ inl e ↦ subst P (sym e) here | inr n ↦ below m (let d = n in omega arith) ]

-- past the last pair line nothing is said
pub all_lines : (c : Cert) (P : ℕ → PairLine → Type 0) (k : ℕ) → length c.pairs ≤ k → ((m : ℕ) → m < k → OfLine c m (P m)) → (m : ℕ) → OfLine c m (P m)
all_lines c P k long below m = elim (cases_lt m k) [ inl l ↦ below m l | inr g ↦ MatchOption-from_none (slice_get c.pairs m) (P m) (slice_get_past c.pairs m (omega arith)) ]

-- a test of two things is one of what equals them
pub told_alike : {A B E : Type 0} (P : A → B → Type 0) {x y : A} {u v : B} (result : Result Bool E) → x ≡ y → u ≡ v → IfOk result (λ b. IsTrue b ↔ P x u) → IfOk result (λ b. IsTrue b ↔ P y v)
told_alike P {x} {y} {u} {v} result e f told =
    subst (λ z. IfOk result (λ b. IsTrue b ↔ P z v)) e (subst (λ z. IfOk result (λ b. IsTrue b ↔ P x z)) f told)

-- a certificate has few triangles
pub few_triangles : (c : Cert) → length (triangles_of c.pieces) ≤ most_triangles
few_triangles c = subst (λ n. n ≤ most_triangles) (sym (length-flat_map (λ (t : PiecePart). t.triangles) c.pieces)) c.triangles_few
