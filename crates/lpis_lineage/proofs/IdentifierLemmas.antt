-- Identifiers compare equal exactly where they are equal; indices in a history with one more release.
use Rattle.std.proofs.Common.{◌≡◌, ◌∙◌, ◌<◌, ◌≤◌, refl, sym, ap, subst, arith, ℕ, zero, suc, List, [], ◌∷◌, ◌++◌, length, Bool, true, false, ◌||◌, cond, is_eq, nat_cmp}
use Rattle.lpis_lineage.proofs.Common.{slice_cmp, list_any, Entry, has_id, same_id, entry_at}
use Rattle.std.specs.Cmp.Lexicographic.{texts_ties}
use Rattle.std.proofs.lemmas.Slice.Eq.{bytes_eq-Decides}

-- two identifiers are the same exactly where the order of their bytes ties them
pub same-by_order : (a b : List ℕ) → same_id a b ≡ is_eq (slice_cmp nat_cmp a b)
same-by_order a b = texts_ties a b

-- membership in a set whose order compares the bytes
pub has-by_order : (ids : List (List ℕ)) (q : List ℕ) → list_any (λ k. is_eq (slice_cmp nat_cmp q k)) ids ≡ has_id ids q
has-by_order [] q = refl
has-by_order (x ∷ xs) q = ap (λ (b : Bool). b || list_any (λ k. is_eq (slice_cmp nat_cmp q k)) xs) (sym (same-by_order q x)) ∙ ap (λ (b : Bool). same_id q x || b) (has-by_order xs q)

-- a set with one identifier more
pub add-by_order : (old new : List (List ℕ)) (id q : List ℕ) → list_any (λ k. is_eq (slice_cmp nat_cmp q k)) new ≡ cond
    (is_eq (slice_cmp nat_cmp id q)) true (list_any (λ k. is_eq (slice_cmp nat_cmp q k)) old)
    → has_id new q ≡ cond (same_id id q) true (has_id old q)
add-by_order old new id q u =
    sym (has-by_order new q) ∙ u ∙ ap (λ (b : Bool). cond b true (list_any (λ k. is_eq (slice_cmp nat_cmp q k)) old)) (sym (same-by_order id q))
    ∙ ap (λ (b : Bool). cond (same_id id q) true b) (has-by_order old q)

-- identifiers that are the same are equal
pub same-exact : (a b : List ℕ) → same_id a b ≡ true → a ≡ b
same-exact a b h = (bytes_eq-Decides a b).0 h

-- an identifier is the same as itself
pub same-refl : (a : List ℕ) → same_id a a ≡ true
same-refl a = (bytes_eq-Decides a a).1 refl

-- indices
pub entry-before : (h : List Entry) (e : Entry) (i : ℕ) → i < length h → entry_at (h ++ e ∷ []) i ≡ entry_at h i
entry-before [] e i lt = absurd (omega arith)
entry-before (x ∷ h) e zero lt = refl
entry-before (x ∷ h) e (suc i) lt = entry-before h e i (omega arith)

-- a release added at the end of a history is the one at the index of the old length
pub entry-here : (h : List Entry) (e : Entry) → entry_at (h ++ e ∷ []) (length h) ≡ e
entry-here [] e = refl
entry-here (x ∷ h) e = entry-here h e

-- past the end of a history there is an empty release of year 0
pub entry-after : (h : List Entry) (i : ℕ) → length h ≤ i → entry_at h i ≡ record { year = 0; live = []; rows = [] }
entry-after [] i le = refl
entry-after (x ∷ h) zero le = absurd (omega arith)
entry-after (x ∷ h) (suc i) le = entry-after h i (omega arith)

-- an index holds an identifier only where there is a release
pub in-history : (h : List Entry) (i : ℕ) (id : List ℕ) → has_id (entry_at h i).live id ≡ true → i < length h
in-history [] i id e = cc e
in-history (x ∷ h) zero id e = omega arith
in-history (x ∷ h) (suc i) id e = let lt = in-history h i id e in omega arith

-- whether two identifiers are the same does not depend on which comes first
pub same-sym : (a b : List ℕ) → same_id a b ≡ same_id b a
same-sym a b = same-sym-by a b (same_id a b) refl (same_id b a) refl where
  same-sym-by : (a b : List ℕ) (x : Bool) → same_id a b ≡ x → (y : Bool) → same_id b a ≡ y → same_id a b ≡ same_id b a
  same-sym-by a b true e true f = cc
  same-sym-by a b false e false f = cc
  same-sym-by a b true e false f = absurd (let g : a ≡ b = same-exact a b e in let r = same-refl a in let s : same_id b a ≡ true = subst (λ (z : List ℕ). same_id z a ≡ true) g r in cc)
  same-sym-by a b false e true f = absurd (let g : b ≡ a = same-exact b a f in let r = same-refl b in let s : same_id a b ≡ true = subst (λ (z : List ℕ). same_id z b ≡ true) g r in cc)
