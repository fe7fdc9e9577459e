-- The spans of a lawful history tell each release's set.
use Rattle.std.proofs.Common.{◌≡◌, ◌∙◌, ◌<◌, ◌≤◌, inl, inr, refl, sym, ap, arith, ℕ, zero, suc, List, [], ◌∷◌, length, Bool, true, false, Option, None, Some, cond, is_some, ◌&&◌, ◌||◌, nat_le, nat_eq}
use Rattle.lpis_lineage.proofs.Common.{nat_tests, option_or, Entry, has_id, holds, entry_at, last_live, IsLawful, cases_Bool, Span, first_held, last_held, span_between, span_of}
use Rattle.lpis_lineage.proofs.CleanLemmas.{held-some}
use Rattle.lpis_lineage.specs.Spans.{in_span}
use Rattle.lpis_lineage.proofs.IdentifierLemmas.{in-history}
use Rattle.lpis_lineage.proofs.ExtensionLemmas.{before-at-after, last-some}

-- a year is in a span, by its years
abbrev in_years : ℕ → ℕ → ℕ → Bool
in_years first last year = nat_le first year && (nat_eq last 0 || nat_le year last)

abbrev until : List Entry → List ℕ → ℕ → ℕ
until h id last = cond (has_id (last_live h) id) 0 last

-- the first release that holds it
pub first-index : (h : List Entry) (id : List ℕ) (y : ℕ) → first_held h id ≡ Some y → (a : ℕ) × (holds h a id ≡ true) × (y ≡ (entry_at h a).year) × ((j : ℕ) → holds h j id ≡ true → a ≤ j)
first-index [] id y e = cc e
first-index (x ∷ h) id y e = elim (cases_Bool (has_id x.live id)) as (λ _. (a : ℕ) × (holds (x ∷ h) a id ≡ true) × (y ≡ (entry_at (x ∷ h) a).year) × ((j : ℕ) → holds (x ∷ h) j id ≡ true → a ≤ j)) [
  | inl t ↦ (0, t, some-eq y x.year (sym e ∙ ap (λ (b : Bool). cond b (Some x.year) (first_held h id)) t), λ j hj. omega arith)
  | inr f ↦ let r = first-index h id y (sym (ap (λ (b : Bool). cond b (Some x.year) (first_held h id)) f) ∙ e) in (suc r.0, r.1, r.2, later x h id r.0 f r.3)
] where
  some-eq : (a b : ℕ) → Some a ≡ Some b → a ≡ b
  some-eq a b e = cc

  later : (x : Entry) (h : List Entry) (id : List ℕ) (a : ℕ) → has_id x.live id ≡ false → ((j : ℕ) → holds h j id ≡ true → a ≤ j) → (j : ℕ) → holds (x ∷ h) j id ≡ true → suc a ≤ j
  later x h id a f min zero hj = absurd cc
  later x h id a f min (suc j) hj = let m = min j hj in omega arith

-- the last one
pub last-index : (h : List Entry) (id : List ℕ) (y : ℕ) → last_held h id ≡ Some y → (b : ℕ) × (holds h b id ≡ true) × (y ≡ (entry_at h b).year) × ((j : ℕ) → holds h j id ≡ true → j ≤ b)
last-index [] id y e = cc e
last-index (x ∷ h) id y e = by x h id y (last-index h id) (last_held h id) refl e where
  some-eq : (a b : ℕ) → Some a ≡ Some b → a ≡ b
  some-eq a b e = cc

  later : (x : Entry) (h : List Entry) (id : List ℕ) (b : ℕ) → ((j : ℕ) → holds h j id ≡ true → j ≤ b) → (j : ℕ) → holds (x ∷ h) j id ≡ true → j ≤ suc b
  later x h id b max zero hj = omega arith
  later x h id b max (suc j) hj = let m = max j hj in omega arith

  only : (x : Entry) (h : List Entry) (id : List ℕ) → None ≡ last_held h id → (j : ℕ) → holds (x ∷ h) j id ≡ true → j ≤ 0
  only x h id none zero hj = omega arith
  only x h id none (suc j) hj = absurd (let s = held-some h id j hj in let n = ap is_some none in cc)

  test : (b : Bool) (x y : ℕ) → cond b (Some x) None ≡ Some y → (b ≡ true) × (y ≡ x)
  test true x y e = (refl, some-eq y x (sym e))
  test false x y e = cc e

  by : (x : Entry) (h : List Entry) (id : List ℕ) (y : ℕ) → ((z : ℕ) → last_held h id ≡ Some z → (b : ℕ) × (holds h b id ≡ true) × (z ≡ (entry_at h b).year) × ((j : ℕ) → holds h j id ≡ true → j ≤ b))
      → (o : Option ℕ) → o ≡ last_held h id → option_or o (cond (has_id x.live id) (Some x.year) None) ≡ Some y
      → (b : ℕ) × (holds (x ∷ h) b id ≡ true) × (y ≡ (entry_at (x ∷ h) b).year) × ((j : ℕ) → holds (x ∷ h) j id ≡ true → j ≤ b)
  by x h id y ih (Some z) o e = let r = ih z (sym o) in (suc r.0, r.1, some-eq y z (sym e) ∙ r.2, later x h id r.0 r.3)
  by x h id y ih None o e = let t = test (has_id x.live id) x.year y e in (0, t.0, t.1, only x h id o)

years-mono : (h : List Entry) → IsLawful h → (i j : ℕ) → i ≤ j → j < length h → (entry_at h i).year ≤ (entry_at h j).year
years-mono h law i j le lt = elim (before-at-after i j) as (λ _. (entry_at h i).year ≤ (entry_at h j).year) [
  | inl a ↦ let r = law.years_rise i j a lt in omega (arith, r)
  | inr b ↦ elim b as (λ _. (entry_at h i).year ≤ (entry_at h j).year) [ inl e ↦ let r = ap (λ (k : ℕ). (entry_at h k).year) e in omega (arith, r) | inr c ↦ absurd (omega arith) ]
]

-- an earlier or same year is that of an earlier or the same index
years-back : (h : List Entry) → IsLawful h → (i j : ℕ) → i < length h → j < length h → (entry_at h i).year ≤ (entry_at h j).year → i ≤ j
years-back h law i j il jl le = elim (before-at-after j i) as (λ _. i ≤ j) [
  | inl a ↦ absurd (let r = law.years_rise j i a il in omega (arith, r))
  | inr b ↦ elim b as (λ _. i ≤ j) [ inl e ↦ omega arith | inr c ↦ omega arith ]
]

-- each release of a lawful history has a year above 0
pub above-zero : (h : List Entry) → IsLawful h → (i : ℕ) → i < length h → 0 < (entry_at h i).year
above-zero h law i lt = let f = law.first_year (omega arith) in let m = years-mono h law 0 i (omega arith) lt in omega (arith, f, m)

span-live : (f y : ℕ) → f ≤ y → in_years f 0 y ≡ true
span-live f y le = grind (arith, nat_tests)

span-until : (f l y : ℕ) → f ≤ y → y ≤ l → in_years f l y ≡ true
span-until f l y a b = grind (arith, nat_tests)

span-low : (f l y : ℕ) → in_years f l y ≡ true → f ≤ y
span-low f l y e = grind (arith, nat_tests)

span-high : (f l y : ℕ) → in_years f l y ≡ true → 0 < l → y ≤ l
span-high f l y e p = grind (arith, nat_tests)

-- the law: a year of a release is in an identifier's span exactly where that release holds it
span-law : (h : List Entry) → IsLawful h → (id : List ℕ) (f l : ℕ) → first_held h id ≡ Some f → last_held h id ≡ Some l
    → (i : ℕ) → i < length h → in_years f (until h id l) (entry_at h i).year ≡ holds h i id
span-law h law id f l ef el i lt =
    let a = first-index h id f ef in
    let b = last-index h id l el in
    let al = in-history h a.0 id a.1 in
    let bl = in-history h b.0 id b.1 in
    elim (cases_Bool (holds h i id)) as (λ _. in_years f (until h id l) (entry_at h i).year ≡ holds h i id) [
      | inl t ↦
          let low : f ≤ (entry_at h i).year = (let m = years-mono h law a.0 i (a.3 i t) lt in let e = a.2 in omega (arith, m, e)) in
          let high : (entry_at h i).year ≤ l = (let m = years-mono h law i b.0 (b.3 i t) bl in let e = b.2 in omega (arith, m, e)) in
          elim (cases_Bool (has_id (last_live h) id)) as (λ _. in_years f (until h id l) (entry_at h i).year ≡ holds h i id) [
            | inl live ↦ ap (λ (c : Bool). in_years f (cond c 0 l) (entry_at h i).year) live ∙ span-live f _ low ∙ sym t
            | inr gone ↦ ap (λ (c : Bool). in_years f (cond c 0 l) (entry_at h i).year) gone ∙ span-until f l _ low high ∙ sym t
          ]
      | inr n ↦ elim (cases_Bool (in_years f (until h id l) (entry_at h i).year)) as (λ _. in_years f (until h id l) (entry_at h i).year ≡ holds h i id) [
        | inl s ↦
            let low = span-low f _ _ s in
            let ai : a.0 ≤ i = years-back h law a.0 i al lt (let e = a.2 in omega (arith, e, low)) in
            elim (cases_Bool (has_id (last_live h) id)) as (λ _. in_years f (until h id l) (entry_at h i).year ≡ holds h i id) [
              | inl live ↦ let r = last-some h id live in s ∙ sym (law.consecutive id a.0 i r.0 ai (let k = r.1 in omega (arith, k)) a.1 r.2)
              | inr gone ↦
                  let s2 = sym (ap (λ (c : Bool). in_years f (cond c 0 l) (entry_at h i).year) gone) ∙ s in
                  let pos : 0 < l = (let z = above-zero h law b.0 bl in let e = b.2 in omega (arith, z, e)) in
                  let high = span-high f l _ s2 pos in
                  let ib : i ≤ b.0 = years-back h law i b.0 lt bl (let e = b.2 in omega (arith, e, high)) in
                  s ∙ sym (law.consecutive id a.0 i b.0 ai ib a.1 b.1)
            ]
        | inr s ↦ s ∙ sym n
      ]
    ]

-- the span tells each release's set
pub span-tells : (h : List Entry) → IsLawful h → (id : List ℕ) (s : Span) → span_of h id ≡ Some s → (i : ℕ) → i < length h → in_span s (entry_at h i).year ≡ holds h i id
span-tells h law id s e i lt = by (first_held h id) refl (last_held h id) refl e where
  some-eq : (a b : Span) → Some a ≡ Some b → a ≡ b
  some-eq a b e = cc

  by : (f : Option ℕ) → f ≡ first_held h id → (l : Option ℕ) → l ≡ last_held h id → span_between f l (has_id (last_live h) id) ≡ Some s → in_span s (entry_at h i).year ≡ holds h i id
  by (Some f) ef (Some l) el e = ap (λ (t : Span). in_span t (entry_at h i).year) (sym (some-eq _ _ e)) ∙ span-law h law id f l (sym ef) (sym el) i lt
  by _ ef _ el e = absurd cc
