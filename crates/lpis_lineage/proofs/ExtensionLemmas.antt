-- One release more: the whole list is lawful and its rows fit exactly where the release follows.
use Rattle.std.proofs.Common.{◌≡◌, ◌∙◌, ◌<◌, ◌≤◌, ◌+◌, ◌⊎◌, inl, inr, refl, sym, ap, subst, arith, ℕ, zero, suc, List, [], ◌∷◌, ◌++◌, length, Bool, true, false, length-append, get_or, ◌||◌, filter}
use Rattle.lpis_lineage.specs.ExactGroups.{MarksHold, is_outside}
use Rattle.lpis_lineage.specs.Kinds.{kind}
use Rattle.lpis_lineage.proofs.Common.{list_any, Row, Entry, has_id, holds, entry_at, names_successor, is_row_of, same_row, last_live, last_year, IsAnswered, IsLawful, RowsFit, Follows}
use Rattle.lpis_lineage.specs.Lawful.{Drops}
use Rattle.lpis_lineage.proofs.IdentifierLemmas.{same-refl, entry-before, entry-here, entry-after, in-history}

-- an index is before n, at n, or after
pub before-at-after : (i n : ℕ) → (i < n) ⊎ ((i ≡ n) ⊎ (n < i))
before-at-after zero zero = inr (inl refl)
before-at-after zero (suc n) = inl (omega arith)
before-at-after (suc i) zero = inr (inr (omega arith))
before-at-after (suc i) (suc n) = elim (before-at-after i n) as (λ _. (suc i < suc n) ⊎ ((suc i ≡ suc n) ⊎ (suc n < suc i))) [
  | inl a ↦ inl (omega arith)
  | inr b ↦ elim b as (λ _. (suc i < suc n) ⊎ ((suc i ≡ suc n) ⊎ (suc n < suc i)))
      [ inl e ↦ inr (inl (ap suc e)) | inr c ↦ inr (inr (omega arith)) ]
]

-- the last release's identifiers, by index
pub last-at : (h : List Entry) (i : ℕ) → i + 1 ≡ length h → (entry_at h i).live ≡ last_live h
last-at [] i e = absurd (omega arith)
last-at (x ∷ h) i e = let j : i ≡ length h = omega arith in ap (λ (k : ℕ). (entry_at (x ∷ h) k).live) j

-- where the last release holds something there is one
pub last-some : (h : List Entry) (id : List ℕ) → has_id (last_live h) id ≡ true → (i : ℕ) × (i + 1 ≡ length h) × (holds h i id ≡ true)
last-some [] id e = cc e
last-some (x ∷ h) id e = (length h, omega arith, e)

-- the last release's year, by index
pub year-at : (h : List Entry) (i : ℕ) → i + 1 ≡ length h → (entry_at h i).year ≡ last_year h
year-at [] i e = absurd (omega arith)
year-at (x ∷ h) i e = let j : i ≡ length h = omega arith in ap (λ (k : ℕ). (entry_at (x ∷ h) k).year) j

years-below : (h : List Entry) → IsLawful h → (i : ℕ) → i < length h → (entry_at h i).year ≤ last_year h
years-below [] law i lt = absurd (omega arith)
years-below (x ∷ h) law i lt = elim (before-at-after i (length h)) as (λ _. (entry_at (x ∷ h) i).year ≤ last_year (x ∷ h)) [
  | inl a ↦ let r = law.years_rise i (length h) a (omega arith) in omega (arith, r)
  | inr b ↦ elim b as (λ _. (entry_at (x ∷ h) i).year ≤ last_year (x ∷ h)) [
    | inl e ↦ let y = ap (λ (k : ℕ). (entry_at (x ∷ h) k).year) e in omega (arith, y)
    | inr c ↦ absurd (omega arith)
  ]
]

-- what the longer list holds, by index
pub hold-before : (h : List Entry) (e : Entry) (i : ℕ) (id : List ℕ) → i < length h → holds (h ++ e ∷ []) i id ≡ holds h i id
hold-before h e i id lt = ap (λ (x : Entry). has_id x.live id) (entry-before h e i lt)

hold-here : (h : List Entry) (e : Entry) (i : ℕ) (id : List ℕ) → i ≡ length h → holds (h ++ e ∷ []) i id ≡ has_id e.live id
hold-here h e i id at = ap (λ (k : ℕ). holds (h ++ e ∷ []) k id) at ∙ ap (λ (x : Entry). has_id x.live id) (entry-here h e)

entry-at : (h : List Entry) (e : Entry) (i : ℕ) → i ≡ length h → entry_at (h ++ e ∷ []) i ≡ e
entry-at h e i at = ap (λ (k : ℕ). entry_at (h ++ e ∷ []) k) at ∙ entry-here h e

-- a history with one release more is longer by one
pub longer : (h : List Entry) (e : Entry) → length (h ++ e ∷ []) ≡ length h + 1
longer h e = length-append h (e ∷ [])

-- ---- from the last release to the whole list
first-year : (h : List Entry) (e : Entry) → IsLawful h → last_year h < e.year → 0 < (entry_at (h ++ e ∷ []) 0).year
first-year [] e law y = y
first-year (x ∷ h) e law y = law.first_year (omega arith)

rise : (h : List Entry) (e : Entry) → IsLawful h → last_year h < e.year → (i j : ℕ) → i < j → j < length (h ++ e ∷ []) → (entry_at (h ++ e ∷ []) i).year < (entry_at (h ++ e ∷ []) j).year
rise h e law y i j lt within = let n = longer h e in elim (before-at-after j (length h)) as (λ _. (entry_at (h ++ e ∷ []) i).year < (entry_at (h ++ e ∷ []) j).year) [
  | inl a ↦ let il : i < length h = omega arith in let p = ap (λ (x : Entry). x.year) (entry-before h e i il) in let q =
      ap (λ (x : Entry). x.year) (entry-before h e j a) in let r = law.years_rise i j lt a in omega (arith, p, q, r)
  | inr b ↦ elim b as (λ _. (entry_at (h ++ e ∷ []) i).year < (entry_at (h ++ e ∷ []) j).year) [
    | inl at ↦ let il : i < length h = omega arith in let p = ap (λ (x : Entry). x.year) (entry-before h e i il) in
        let q = ap (λ (x : Entry). x.year) (entry-at h e j at) in let r = years-below h law i il in
        omega (arith, p, q, r)
    | inr c ↦ absurd (omega (arith, n))
  ]
]

used-last : (h : List Entry) (e : Entry) → IsLawful h → Follows h e.live e.rows → (id : List ℕ) (i j : ℕ) → i ≤ j → j < length h → holds h i id ≡ true → has_id e.live id ≡ true → holds h j id ≡ true
used-last h e law f id i j ij jl hi here =
    let last = last-some h id (f.not_used id i hi here) in
    law.consecutive id i j last.0 ij (let k = last.1 in omega (arith, k)) hi last.2

together : (h : List Entry) (e : Entry) → IsLawful h → Follows h e.live e.rows → (id : List ℕ) (i j k : ℕ) → i ≤ j
    → j ≤ k → holds (h ++ e ∷ []) i id ≡ true → holds (h ++ e ∷ []) k id ≡ true → holds (h ++ e ∷ []) j id ≡ true
together h e law f id i j k ij jk hi hk =
    let n = longer h e in
    let kl : k < length (h ++ e ∷ []) = in-history (h ++ e ∷ []) k id hk in
    elim (before-at-after k (length h)) as (λ _. holds (h ++ e ∷ []) j id ≡ true) [
      | inl a ↦
          let il : i < length h = omega arith in
          let jl : j < length h = omega arith in
          hold-before h e j id jl ∙ law.consecutive id i j k ij jk (sym (hold-before h e i id il) ∙ hi) (sym (hold-before h e k id a) ∙ hk)
      | inr b ↦ elim b as (λ _. holds (h ++ e ∷ []) j id ≡ true) [
        | inl at ↦
            let here : has_id e.live id ≡ true = sym (hold-here h e k id at) ∙ hk in
            elim (before-at-after j (length h)) as (λ _. holds (h ++ e ∷ []) j id ≡ true) [
              | inl jl ↦
                  let il : i < length h = omega arith in
                  hold-before h e j id jl ∙ used-last h e law f id i j ij jl (sym (hold-before h e i id il) ∙ hi) here
              | inr d ↦ elim d as (λ _. holds (h ++ e ∷ []) j id ≡ true) [ inl jat ↦ hold-here h e j id jat ∙ here | inr c ↦ absurd (omega (arith, n)) ]
            ]
        | inr c ↦ absurd (omega (arith, n))
      ]
    ]

answers : (h : List Entry) (e : Entry) → IsLawful h → Follows h e.live e.rows → (id : List ℕ) (i : ℕ) → Drops (h ++ e ∷ []) i id → IsAnswered (entry_at (h ++ e ∷ []) (i + 1)).rows id
answers h e law f id i d =
    let n = longer h e in
    let P : Entry → Type 0 = λ x. IsAnswered x.rows id in
    let il : i < length h = let w = d.0 in omega (arith, n, w) in
    elim (before-at-after (i + 1) (length h)) as (λ _. IsAnswered (entry_at (h ++ e ∷ []) (i + 1)).rows id) [
      | inl a ↦ subst P (sym (entry-before h e (i + 1) a)) (law.continued id i (a, sym (hold-before h e i id il) ∙ d.1, sym (hold-before h e (i + 1) id a) ∙ d.2))
      | inr b ↦ elim b as (λ _. IsAnswered (entry_at (h ++ e ∷ []) (i + 1)).rows id) [
        | inl at ↦ subst P (sym (entry-at h e (i + 1) at))
            (f.answered id (ap (λ (l : List (List ℕ)). has_id l id) (sym (last-at h i at))
            ∙ sym (hold-before h e i id il) ∙ d.1) (sym (hold-here h e (i + 1) id at) ∙ d.2))
        | inr c ↦ absurd (let w = d.0 in omega (arith, n, w))
      ]
    ]

-- past the end of a history no row passes a test
pub no-row-beyond : (h : List Entry) (i : ℕ) → length h ≤ i → (test : Row → Bool) → list_any test (entry_at h i).rows ≡ false
no-row-beyond h i le test = ap (λ (x : Entry). list_any test x.rows) (entry-after h i le)

named_successors : (h : List Entry) (e : Entry) → IsLawful h → Follows h e.live e.rows → (id : List ℕ) (i : ℕ) → list_any (names_successor id) (entry_at (h ++ e ∷ []) i).rows ≡ true
    → holds (h ++ e ∷ []) i id ≡ true
named_successors h e law f id i named =
    let n = longer h e in
    elim (before-at-after i (length h)) as (λ _. holds (h ++ e ∷ []) i id ≡ true) [
      | inl a ↦ hold-before h e i id a ∙ law.successors id i (ap (λ (x : Entry). list_any (names_successor id) x.rows) (sym (entry-before h e i a)) ∙ named)
      | inr b ↦ elim b as (λ _. holds (h ++ e ∷ []) i id ≡ true) [
        | inl at ↦ hold-here h e i id at ∙ f.named id (ap (λ (x : Entry). list_any (names_successor id) x.rows) (sym (entry-at h e i at)) ∙ named)
        | inr c ↦ absurd (let no = no-row-beyond (h ++ e ∷ []) i (omega (arith, n)) (names_successor id) in cc)
      ]
    ]

-- a lawful history stays lawful with a release of a later year at its end that follows it
pub lawful-more : (h : List Entry) (e : Entry) → IsLawful h → last_year h < e.year → Follows h e.live e.rows → IsLawful (h ++ e ∷ [])
lawful-more h e law y f = record {
  first_year = λ _. first-year h e law y;
  years_rise = rise h e law y;
  consecutive = together h e law f;
  continued = answers h e law f;
  successors = named_successors h e law f;
}

no-rows : (rows : List Row) → ((id : List ℕ) → list_any (is_row_of id) rows ≡ true → false ≡ true) → rows ≡ []
no-rows [] never = refl
no-rows (r ∷ rs) never = absurd (let s = same-refl r.old in let a = never r.old (ap (λ (b : Bool). b || list_any (is_row_of r.old) rs) s) in cc)

first-rows : (h : List Entry) (e : Entry) → RowsFit h → Follows h e.live e.rows → (entry_at (h ++ e ∷ []) 0).rows ≡ []
first-rows [] e fit f = no-rows e.rows (λ id is. (f.dropped id is).0)
first-rows (x ∷ h) e fit f = fit.first

once-more : (h : List Entry) (e : Entry) → RowsFit h → Follows h e.live e.rows → (row : Row) (i : ℕ) → length (filter (same_row row) (entry_at (h ++ e ∷ []) i).rows) ≤ 1
once-more h e fit f row i =
    let n = longer h e in
    let P : Entry → Type 0 = λ x. length (filter (same_row row) x.rows) ≤ 1 in
    elim (before-at-after i (length h)) as (λ _. length (filter (same_row row) (entry_at (h ++ e ∷ []) i).rows) ≤ 1) [
      | inl a ↦ subst P (sym (entry-before h e i a)) (fit.once row i)
      | inr b ↦ elim b as (λ _. length (filter (same_row row) (entry_at (h ++ e ∷ []) i).rows) ≤ 1) [
        | inl at ↦ subst P (sym (entry-at h e i at)) (f.once row)
        | inr c ↦ let none = ap (λ (x : Entry). length (filter (same_row row) x.rows)) (entry-after (h ++ e ∷ []) i (omega (arith, n))) in omega (arith, none)
      ]
    ]

drops-more : (h : List Entry) (e : Entry) → RowsFit h → Follows h e.live e.rows → (id : List ℕ) (i : ℕ) → list_any (is_row_of id) (entry_at (h ++ e ∷ []) (i + 1)).rows ≡ true
    → Drops (h ++ e ∷ []) i id
drops-more h e fit f id i is =
    let n = longer h e in
    elim (before-at-after (i + 1) (length h)) as (λ _. Drops (h ++ e ∷ []) i id) [
      | inl a ↦
          let il : i < length h = omega arith in
          let d = fit.of_dropped id i (ap (λ (x : Entry). list_any (is_row_of id) x.rows) (sym (entry-before h e (i + 1) a)) ∙ is) in
          (omega (arith, n), hold-before h e i id il ∙ d.1, hold-before h e (i + 1) id a ∙ d.2)
      | inr b ↦ elim b as (λ _. Drops (h ++ e ∷ []) i id) [
        | inl at ↦
            let il : i < length h = omega arith in
            let d = f.dropped id (ap (λ (x : Entry). list_any (is_row_of id) x.rows) (sym (entry-at h e (i + 1) at)) ∙ is) in
            (omega (arith, n), hold-before h e i id il ∙ ap (λ (l : List (List ℕ)). has_id l id) (last-at h i at) ∙ d.0, hold-here h e (i + 1) id at ∙ d.1)
        | inr c ↦ absurd (let no = no-row-beyond (h ++ e ∷ []) (i + 1) (omega (arith, n)) (is_row_of id) in cc)
      ]
    ]

-- what is said of marks of a release after another
abbrev pub Marked : Entry → Entry → Type 0
Marked a b = MarksHold a.live b.live b.rows

marks-more : (h : List Entry) (e : Entry) → RowsFit h → Follows h e.live e.rows → (i : ℕ) → Marked (entry_at (h ++ e ∷ []) i) (entry_at (h ++ e ∷ []) (i + 1))
marks-more h e fit f i =
    let n = longer h e in
    elim (before-at-after (i + 1) (length h)) as (λ _. Marked (entry_at (h ++ e ∷ []) i) (entry_at (h ++ e ∷ []) (i + 1))) [
      | inl a ↦
          let il : i < length h = omega arith in
          subst (λ (x : Entry). Marked x (entry_at (h ++ e ∷ []) (i + 1))) (sym (entry-before h e i il))
          (subst (λ (x : Entry). Marked (entry_at h i) x) (sym (entry-before h e (i + 1) a)) (fit.marked i))
      | inr b ↦ elim b as (λ _. Marked (entry_at (h ++ e ∷ []) i) (entry_at (h ++ e ∷ []) (i + 1))) [
        | inl at ↦
            let il : i < length h = omega arith in
            subst (λ (x : Entry). Marked x (entry_at (h ++ e ∷ []) (i + 1))) (sym (entry-before h e i il))
            (subst (λ (x : Entry). Marked (entry_at h i) x) (sym (entry-at h e (i + 1) at))
            (subst (λ (l : List (List ℕ)). MarksHold l e.live e.rows) (sym (last-at h i at)) f.marked))
        | inr c ↦
            let next = entry_at (h ++ e ∷ []) (i + 1) in
            no-row-beyond (h ++ e ∷ []) (i + 1) (omega (arith, n)) (is_outside (kind (entry_at (h ++ e ∷ []) i).live next.live next.rows) next.rows)
      ]
    ]

-- where the rows of a history fit, they fit with a release at its end that follows it
pub fits-more : (h : List Entry) (e : Entry) → RowsFit h → Follows h e.live e.rows → RowsFit (h ++ e ∷ [])
fits-more h e fit f = record {
  first = first-rows h e fit f;
  once = once-more h e fit f;
  of_dropped = drops-more h e fit f;
  marked = marks-more h e fit f;
}

-- ---- and back
back-used : (h : List Entry) (e : Entry) → IsLawful (h ++ e ∷ []) → (id : List ℕ) (i : ℕ) → holds h i id ≡ true → has_id e.live id ≡ true → has_id (last_live h) id ≡ true
back-used [] e law id i hi here = cc hi
back-used (x ∷ t) e law id i hi here =
    let h : List Entry = x ∷ t in
    let il : i < length h = in-history h i id hi in
    let jl : length t < length h = omega arith in
    sym (hold-before (x ∷ t) e (length t) id jl) ∙ law.consecutive id i (length t) (length (x ∷ t)) (omega arith)
    (omega arith) (hold-before (x ∷ t) e i id il ∙ hi) (hold-here (x ∷ t) e (length (x ∷ t)) id refl ∙ here)

back-answered : (h : List Entry) (e : Entry) → IsLawful (h ++ e ∷ []) → (id : List ℕ) → has_id (last_live h) id ≡ true → has_id e.live id ≡ false → IsAnswered e.rows id
back-answered h e law id was gone =
    let n = longer h e in
    let last = last-some h id was in
    let il : last.0 < length h = let k = last.1 in omega (arith, k) in
    let P : Entry → Type 0 = λ x. IsAnswered x.rows id in
    subst P (entry-at h e (last.0 + 1) last.1) (law.continued id last.0 (let k = last.1 in omega (arith, k, n), hold-before h e last.0 id il ∙ last.2, hold-here h e (last.0 + 1) id last.1 ∙ gone))

back-named : (h : List Entry) (e : Entry) → IsLawful (h ++ e ∷ []) → (id : List ℕ) → list_any (names_successor id) e.rows ≡ true → has_id e.live id ≡ true
back-named h e law id named = sym (hold-here h e (length h) id refl) ∙ law.successors id (length h) (ap (λ (x : Entry). list_any (names_successor id) x.rows) (entry-here h e) ∙ named)

back-once : (h : List Entry) (e : Entry) → RowsFit (h ++ e ∷ []) → (row : Row) → length (filter (same_row row) e.rows) ≤ 1
back-once h e fit row = let P : Entry → Type 0 = λ x. length (filter (same_row row) x.rows) ≤ 1 in subst P (entry-here h e) (fit.once row (length h))

back-dropped : (h : List Entry) (e : Entry) → RowsFit (h ++ e ∷ []) → (id : List ℕ) → list_any (is_row_of id) e.rows ≡ true → (has_id (last_live h) id ≡ true) × (has_id e.live id ≡ false)
back-dropped [] e fit id is = let none : e.rows ≡ [] = fit.first in absurd (let no = ap (λ (rs : List Row). list_any (is_row_of id) rs) none in cc)
back-dropped (x ∷ t) e fit id is =
    let at : length t + 1 ≡ length (x ∷ t) = omega arith in
    let il : length t < length (x ∷ t) = omega arith in
    let d = fit.of_dropped id (length t) (ap (λ (y : Entry). list_any (is_row_of id) y.rows) (entry-at (x ∷ t) e (length t + 1) at) ∙ is) in
    (sym (hold-before (x ∷ t) e (length t) id il) ∙ d.1, sym (hold-here (x ∷ t) e (length t + 1) id at) ∙ d.2)

back-marked : (h : List Entry) (e : Entry) → RowsFit (h ++ e ∷ []) → MarksHold (last_live h) e.live e.rows
back-marked [] e fit = ap (λ (rs : List Row). list_any (is_outside (kind (last_live []) e.live rs) rs) rs) fit.first
back-marked (x ∷ t) e fit =
    let at : length t + 1 ≡ length (x ∷ t) = omega arith in
    let il : length t < length (x ∷ t) = omega arith in
    subst (λ (y : Entry). Marked y e) (entry-before (x ∷ t) e (length t) il)
    (subst (λ (y : Entry). Marked (entry_at ((x ∷ t) ++ e ∷ []) (length t)) y) (entry-at (x ∷ t) e (length t + 1) at) (fit.marked (length t)))

-- where a history is lawful and its rows fit, its last release follows the ones before it
pub follows-back : (h : List Entry) (e : Entry) → IsLawful (h ++ e ∷ []) → RowsFit (h ++ e ∷ []) → Follows h e.live e.rows
follows-back h e law fit = record {
  not_used = back-used h e law;
  answered = back-answered h e law;
  named = back-named h e law;
  once = back-once h e fit;
  dropped = back-dropped h e fit;
  marked = back-marked h e fit;
}

-- indices as code reads them
pub entry-get : (h : List Entry) (i : ℕ) (d : Entry) → i < length h → get_or h i d ≡ entry_at h i
entry-get [] i d lt = absurd (omega arith)
entry-get (x ∷ h) zero d lt = refl
entry-get (x ∷ h) (suc i) d lt = entry-get h i d (omega arith)

-- the release at the last index has the last year and the last identifiers
pub last-entry : (h : List Entry) (i : ℕ) (e : Entry) → i + 1 ≡ length h → e ≡ get_or h i e → (e.year ≡ last_year h) × (e.live ≡ last_live h)
last-entry h i e n is = let at = is ∙ entry-get h i e (omega arith) in (ap (λ (x : Entry). x.year) at ∙ year-at h i n, ap (λ (x : Entry). x.live) at ∙ last-at h i n)
