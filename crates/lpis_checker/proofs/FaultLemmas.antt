-- A certificate has one fault; and what holds after all searches.
use Rattle.std.proofs.Common.{◌≡◌, ℕ, zero, suc, ◌+◌, ◌-◌, ◌<◌, nat_eq, cond, List, [], ◌∷◌, get_or, length, inl, inr, ◌⊎◌, ap, ap₂, sym, refl, ◌∙◌, arith}
use Rattle.std.proofs.lemmas.Bool.{cases_order}
use Rattle.lpis_pairs.specs.NearPairs.{IsBelow}
use Rattle.lpis_checker.proofs.Common.{Contents, Cert, HoldBelow, NearPairs}
use Rattle.lpis_checker.specs.declared.condition.LineCondition.TheVariants as line
use Rattle.lpis_checker.specs.declared.condition.ParcelCondition.TheVariants as parcel
use Rattle.lpis_checker.specs.declared.condition.PieceCondition.TheVariants as piece
use Rattle.lpis_checker.specs.declared.condition.Site.{Site}
use Rattle.lpis_checker.specs.declared.condition.Site.TheVariants as site
use Rattle.lpis_checker.specs.Codes.{code_of}
use Rattle.lpis_checker.specs.FirstFault.{condition_of, IsBefore, IsEarlier, IsFault, site_order}
use Rattle.lpis_checker.specs.GoodCertificate.{ConditionHolds, IsGood}
use Rattle.lpis_checker.specs.private.Searches.{HoldUntil, all_searches, part_searches, search_of}

-- ---- one fault
compare : (xs ys : List ℕ) → length xs ≡ length ys → (xs ≡ ys) ⊎ (IsBefore xs ys ⊎ IsBefore ys xs)
compare [] [] e = inl refl
compare [] (y ∷ ys) e = absurd (omega arith)
compare (x ∷ xs) [] e = absurd (omega arith)
compare (x ∷ xs) (y ∷ ys) e = by (cases_order x y) (compare xs ys (omega arith))
  where
    by : (x ≡ y) ⊎ ((x < y) ⊎ (y < x)) → (xs ≡ ys) ⊎ (IsBefore xs ys ⊎ IsBefore ys xs) → (x ∷ xs ≡ y ∷ ys) ⊎ (IsBefore (x ∷ xs) (y ∷ ys) ⊎ IsBefore (y ∷ ys) (x ∷ xs))
    by (inl s) (inl t) = inl (ap₂ (λ (z : ℕ) (zs : List ℕ). z ∷ zs) s t)
    by (inl s) (inr (inl b)) = inr (inl (inr (s, b)))
    by (inl s) (inr (inr b)) = inr (inr (inr (sym s, b)))
    by (inr (inl l)) h = inr (inl (inl l))
    by (inr (inr l)) h = inr (inr (inl l))

-- a site by its code, its kind and its numbers
abbrev site_from : ℕ → ℕ → ℕ → ℕ → Site
site_from c zero i j = site.Piece (get_or (piece.Names ∷ piece.Triangles ∷ piece.CounterClockwise ∷ piece.Flats ∷ piece.Corners ∷ []) (c - 60) piece.Edges) i
site_from c (suc zero) i j = site.Parcel (get_or (parcel.Names ∷ parcel.Names ∷ parcel.Names ∷ parcel.Flats ∷ parcel.Corners ∷ []) (c - 60) parcel.Edges) i
site_from c (suc (suc zero)) i j = cond (nat_eq c 60) (site.Order i) (site.Line (cond (nat_eq c 68) line.NotApart line.Separating) i)
site_from c _ i j = site.Pair i j

abbrev site_at : List ℕ → Site
site_at ns = site_from (get_or ns 0 0) (get_or ns 1 0) (get_or ns 2 0) (get_or ns 3 0)

named : (s : Site) → s ≡ site_at (site_order s)
named (site.Piece piece.Names k) = refl
named (site.Parcel parcel.Names k) = refl
named (site.Line line.NotApart k) = refl
named _ = refl

long : (s : Site) → length (site_order s) ≡ 4
long (site.Pair i j) = refl
long _ = refl

-- a certificate has one fault
pub one_fault : (r : Contents) (c : Cert) (a b : Site) → IsFault r c a → IsFault r c b → a ≡ b
one_fault r c a b f g = by (compare (site_order a) (site_order b) (long a ∙ sym (long b)))
  where
    by : (site_order a ≡ site_order b) ⊎ (IsEarlier a b ⊎ IsEarlier b a) → a ≡ b
    by (inl e) = named a ∙ ap site_at e ∙ sym (named b)
    by (inr (inl e)) = absurd (f.fails (g.earlier a e))
    by (inr (inr e)) = absurd (g.fails (f.earlier b e))

-- ---- the search of pairs
-- where the searches of parts find no fault, and no pair of triangles fails, those up to that of pairs find none
pub no_pair : (r : Contents) (c : Cert) → HoldUntil r c part_searches → ((i j : ℕ) → ConditionHolds r c (site.Pair i j)) → HoldUntil r c (part_searches + 1)
no_pair r c parts all = record { holds = by }
  where
    by : (s : Site) → search_of s < part_searches + 1 → ConditionHolds r c s
    by (site.Pair i j) l = all i j
    by (site.Piece piece.Names k) l = parts.holds (site.Piece piece.Names k) (omega arith)
    by (site.Parcel parcel.Names k) l = parts.holds (site.Parcel parcel.Names k) (omega arith)
    by (site.Line line.NotApart k) l = parts.holds (site.Line line.NotApart k) (omega arith)
    by s l = parts.holds s (omega arith)

not_before : (m n : ℕ) (ms ns : List ℕ) → n < m → IsBefore (m ∷ ms) (n ∷ ns) → ⊥
not_before m n ms ns l (inl b) = omega arith
not_before m n ms ns l (inr b) = let e = b.0 in omega arith

pair_below : (m n i j : ℕ) → IsEarlier (site.Pair m n) (site.Pair i j) → IsBelow m n i j
pair_below m n i j (inl l) = absurd (omega arith)
pair_below m n i j (inr (e, inl l)) = absurd (omega arith)
pair_below m n i j (inr (e, inr (f, inl l))) = inl l
pair_below m n i j (inr (e, inr (f, inr (g, inl l)))) = inr (g, l)
pair_below m n i j (inr (e, inr (f, inr (g, inr x)))) = absurd x.1

-- where the searches of parts find no fault, the first pair of triangles that fails is the fault of the certificate
pub first_pair : (r : Contents) (c : Cert) → HoldUntil r c part_searches → (i j : ℕ) → (ConditionHolds r c (site.Pair i j) → ⊥)
    → ((m n : ℕ) → IsBelow m n i j → ConditionHolds r c (site.Pair m n)) → IsFault r c (site.Pair i j)
first_pair r c parts i j fails lower = record { fails = fails; earlier = by }
  where
    by : (s : Site) → IsEarlier s (site.Pair i j) → ConditionHolds r c s
    by (site.Pair m n) e = lower m n (pair_below m n i j e)
    by (site.Line line.NotApart k) e = absurd (not_before 68 67 (2 ∷ k ∷ 0 ∷ []) (3 ∷ i ∷ j ∷ []) (omega arith) e)
    by (site.Line line.Separating k) e = absurd (not_before 69 67 (2 ∷ k ∷ 0 ∷ []) (3 ∷ i ∷ j ∷ []) (omega arith) e)
    by (site.Piece piece.Names k) e = parts.holds (site.Piece piece.Names k) (omega arith)
    by (site.Parcel parcel.Names k) e = parts.holds (site.Parcel parcel.Names k) (omega arith)
    by s e = parts.holds s (omega arith)

-- ---- after all searches, and after those of parts
below_all : (s : Site) → search_of s < all_searches
below_all (site.Piece piece.Names k) = omega arith
below_all (site.Parcel parcel.Names k) = omega arith
below_all (site.Line line.NotApart k) = omega arith
below_all _ = omega arith

-- a certificate in which all searches find no fault is good
pub all_good : (r : Contents) (c : Cert) → HoldUntil r c all_searches → IsGood r c
all_good r c all = record { holds = λ s. all.holds s (below_all s) }

searched : (s : Site) → code_of (condition_of s) < code_of NearPairs → search_of s < part_searches
searched (site.Piece piece.Names k) l = omega arith
searched (site.Parcel parcel.Names k) l = omega arith
searched (site.Line line.NotApart k) l = omega arith
searched _ l = omega arith

-- where the searches of parts find no fault, all conditions with codes below that on near pairs hold
pub parts_hold : (r : Contents) (c : Cert) → HoldUntil r c part_searches → HoldBelow r c NearPairs
parts_hold r c below = record { holds = λ s l. below.holds s (searched s l) }
