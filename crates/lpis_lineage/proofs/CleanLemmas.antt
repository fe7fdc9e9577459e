-- A release follows a history exactly where its lineage has no fault.
use Rattle.std.proofs.Common.{◌≡◌, ◌∙◌, ◌≤◌, ◌+◌, ◌⊎◌, inl, inr, refl, sym, ap, subst, arith, ℕ, zero, suc, List, [], ◌∷◌, ◌++◌, length, Bool, true, false, Option, None, Some, cond, append_assoc}
use Rattle.std.proofs.Common.{◌&&◌, ◌||◌, append-nil, not, is_some, filter}
use Rattle.lpis_lineage.proofs.Common.{list_any, option_or, list_any-append, or_left, cases_Bool, Row, Entry, LineageFault, has_id, same_id, holds, is_ended, succeeded, names_successor, is_row_of}
use Rattle.lpis_lineage.proofs.Common.{is_this, same_row, last_live, IsAnswered, Follows, fault_before, clashes, lineage_row_faults, dropped_faults, used_faults, faults, faults_but_marks, first, kind}
use Rattle.lpis_lineage.proofs.Common.{last_held, marked_row_faults}
use Rattle.lpis_lineage.specs.declared.kind.Kind.{Kind}
use Rattle.lpis_lineage.specs.declared.fault.LineageCode.TheVariants.{MarkedOutside}
use Rattle.lpis_lineage.specs.declared.fault.LineageFault.TheVariants.{OfRow}
use Rattle.lpis_lineage.specs.ExactGroups.{is_outside}
use Rattle.lpis_lineage.specs.Lineage.{same_new}
use Rattle.std.proofs.lemmas.Bool.{and_parts, and_from, not_from_true, not-false, or_cases, or_right}
use Rattle.lpis_lineage.specs.Faults.{is_missing, used_fault_before}
use Rattle.lpis_lineage.proofs.IdentifierLemmas.{same-exact, same-refl}
use Rattle.lpis_lineage.proofs.RowCountLemmas.{filter-append, filter-none, filter-some, one-ending, counted-ended, from-answered}

-- ---- lists and tests
told-nil : (b : Bool) (f : LineageFault) (rest : List LineageFault) → fault_before b f rest ≡ [] → (b ≡ false) × (rest ≡ [])
told-nil true f rest e = absurd cc
told-nil false f rest e = (refl, e)

-- a fault whose test is false, before no others, leaves no fault
pub told-none : (b : Bool) (f : LineageFault) (rest : List LineageFault) → b ≡ false → rest ≡ [] → fault_before b f rest ≡ []
told-none true f rest b e = absurd cc
told-none false f rest b e = e

both-nil : {A : Type 0} (xs ys : List A) → xs ++ ys ≡ [] → (xs ≡ []) × (ys ≡ [])
both-nil [] ys e = (refl, e)
both-nil (x ∷ xs) ys e = absurd cc

-- where one test implies another, and some element passes the one, some element passes the other
pub mono : {A : Type 0} (p q : A → Bool) (xs : List A) → ((x : A) → p x ≡ true → q x ≡ true) → list_any p xs ≡ true → list_any q xs ≡ true
mono p q [] into e = e
mono p q (x ∷ xs) into e = elim (or_cases (p x) (list_any p xs) e) as (λ _. list_any q (x ∷ xs) ≡ true) [ inl a ↦ or_left (q x) _ (into x a) | inr b ↦ or_right (q x) _ (mono p q xs into b) ]

-- where some element of a list passes, some element passes of the list with others behind it
pub any-left : {A : Type 0} (p : A → Bool) (xs ys : List A) → list_any p xs ≡ true → list_any p (xs ++ ys) ≡ true
any-left p xs ys e = list_any-append p xs ys ∙ or_left (list_any p xs) _ e

-- where an element passes a test, some element does of each list that has it
pub any-mid : {A : Type 0} (p : A → Bool) (xs : List A) (x : A) (ys : List A) → p x ≡ true → list_any p (xs ++ x ∷ ys) ≡ true
any-mid p xs x ys e = list_any-append p xs (x ∷ ys) ∙ or_right (list_any p xs) _ (or_left (p x) _ e)

-- where some element passes of a list with one more at its end, one before it passes, or it does
pub any-last : {A : Type 0} (p : A → Bool) (xs : List A) (x : A) → list_any p (xs ++ x ∷ []) ≡ true → (list_any p xs ≡ true) ⊎ (p x ≡ true)
any-last p xs x e = elim (or_cases (list_any p xs) _ (sym (list_any-append p xs (x ∷ [])) ∙ e)) as
    (λ _. (list_any p xs ≡ true) ⊎ (p x ≡ true)) [
      | inl a ↦ inl a
      | inr b ↦ elim (or_cases (p x) false b) as
          (λ _. (list_any p xs ≡ true) ⊎ (p x ≡ true)) [ inl a ↦ inr a | inr c ↦ absurd cc ]
    ]

-- ---- rows
same-new-exact : (o p : Option (List ℕ)) → same_new o p ≡ true → o ≡ p
same-new-exact None None e = refl
same-new-exact (Some s) (Some t) e = ap Some (same-exact s t e)
same-new-exact _ _ e = cc e

same-new-refl : (o : Option (List ℕ)) → same_new o o ≡ true
same-new-refl None = refl
same-new-refl (Some s) = same-refl s

-- two rows that are the same, whatever their marks, are the same as equally many others
same-row-count : (r q : Row) → same_row r q ≡ true → (rows : List Row) → length (filter (same_row r) rows) ≡ length (filter (same_row q) rows)
same-row-count r q e rows =
    let count : List ℕ → Option (List ℕ) → ℕ = λ o n. length (filter (λ (x : Row). same_id o x.old && same_new n x.new) rows) in
    ap (λ (o : List ℕ). count o r.new) (same-exact r.old q.old (and_parts _ _ e).0) ∙ ap (λ (n : Option (List ℕ)). count q.old n) (same-new-exact r.new q.new (and_parts (same_id r.old q.old) _ e).1)

same-row-refl : (r : Row) → same_row r r ≡ true
same-row-refl r = and_from _ _ (same-refl r.old) (same-new-refl r.new)

missing-named : (live : List (List ℕ)) (o : Option (List ℕ)) → is_missing live o ≡ false → (id : List ℕ) → is_this id o ≡ true → has_id live id ≡ true
missing-named live None e id is = cc is
missing-named live (Some s) e id is = let P : List ℕ → Type 0 = λ x. has_id live x ≡ true in subst P (sym (same-exact id s is)) (not-false (has_id live s) e)

none-missing : (live : List (List ℕ)) (o : Option (List ℕ)) → ((s : List ℕ) → is_this s o ≡ true → has_id live s ≡ true) → is_missing live o ≡ false
none-missing live None all = refl
none-missing live (Some s) all = not_from_true (has_id live s) (all s (same-refl s))

-- ---- from no fault of the rows
pub record CleanRow (last live : List (List ℕ)) (before : List Row) (r : Row) : Type 0 where
  pub was : has_id last r.old ≡ true
  pub gone : has_id live r.old ≡ false
  pub there : is_missing live r.new ≡ false
  pub once : list_any (same_row r) before ≡ false
  pub apart : list_any (clashes r) before ≡ false

clean-row : (last live : List (List ℕ)) (before : List Row) (k : ℕ) (r : Row) (rs : List Row)
    → lineage_row_faults last live before k (r ∷ rs) ≡ [] → CleanRow last live before r
    × (lineage_row_faults last live (before ++ r ∷ []) (k + 1) rs ≡ [])
clean-row last live before k r rs e =
    let a = told-nil _ _ _ e in
    let b = told-nil _ _ _ a.1 in
    let c = told-nil _ _ _ b.1 in
    let d = told-nil _ _ _ c.1 in
    let f = told-nil _ _ _ d.1 in
    (record { was = not-false _ a.0; gone = b.0; there = c.0; once = d.0; apart = f.0 }, f.1)

rows-named : (last live : List (List ℕ)) (before : List Row) (k : ℕ) (rows : List Row) → lineage_row_faults last live before k
    rows ≡ [] → (id : List ℕ) → list_any (names_successor id) rows ≡ true → has_id live id ≡ true
rows-named last live before k [] e id is = cc is
rows-named last live before k (r ∷ rs) e id is = let c = clean-row last live before k r rs e in
    elim (or_cases (names_successor id r) _ is) as (λ _. has_id live id ≡ true) [
      | inl a ↦ missing-named live r.new c.0.there id a
      | inr b ↦ rows-named last live (before ++ r
          ∷ []) (k + 1) rs c.1 id b
    ]

rows-dropped : (last live : List (List ℕ)) (before : List Row) (k : ℕ) (rows : List Row) → lineage_row_faults last live before k
    rows ≡ [] → (id : List ℕ) → list_any (is_row_of id) rows ≡ true → (has_id last id ≡ true) × (has_id live id ≡ false)
rows-dropped last live before k [] e id is = cc is
rows-dropped last live before k (r ∷ rs) e id is = let c = clean-row last live before k r rs e in
    elim (or_cases (is_row_of id r) _ is) as (λ _. (has_id last id ≡ true) × (has_id live id ≡ false)) [
      | inl a ↦ let P : List ℕ → Type 0 = λ x. (has_id last x ≡ true) × (has_id live x ≡ false) in subst P (sym (same-exact id r.old a)) (c.0.was, c.0.gone)
      | inr b ↦ rows-dropped last live (before ++ r ∷ []) (k + 1) rs c.1 id b
    ]

once-step : (before : List Row) (r row : Row) → list_any (same_row r) before ≡ false → length (filter (same_row row) before) ≤ 1 → length (filter (same_row row) (before ++ r ∷ [])) ≤ 1
once-step before r row once le =
    let n = filter-append (same_row row) before (r ∷ []) in
    elim (cases_Bool (same_row row r)) as (λ _. length (filter (same_row row) (before ++ r ∷ [])) ≤ 1) [
      | inl t ↦
          let none = filter-none (same_row r) before once in
          let zero = same-row-count row r t before ∙ none in
          let one = ap (λ (b : Bool). length (cond b (r ∷ []) [])) t in omega (arith, n, zero, one)
      | inr f ↦ let nil = ap (λ (b : Bool). length (cond b (r ∷ []) [])) f in omega (arith, n, nil, le)
    ]

rows-once : (last live : List (List ℕ)) (before : List Row) (k : ℕ) (rows : List Row) → lineage_row_faults last live before k
    rows ≡ [] → (row : Row) → length (filter (same_row row) before) ≤ 1
    → length (filter (same_row row) (before ++ rows)) ≤ 1
rows-once last live before k [] e row le = let n = ap (λ (xs : List Row). length (filter (same_row row) xs)) (append-nil before) in omega (arith, n, le)
rows-once last live before k (r ∷ rs) e row le =
    let c = clean-row last live before k r rs e in
    let n = ap (λ (xs : List Row). length (filter (same_row row) xs)) (append_assoc before (r ∷ []) rs) in
    let ih = rows-once last live (before ++ r ∷ []) (k + 1) rs c.1 row (once-step before r row c.0.once le) in omega (arith, n, ih)

-- no identifier has both an ending and a successor
abbrev pub Apart : List Row → Type 0
Apart rows = (id : List ℕ) → is_ended rows id ≡ true → succeeded rows id ≡ true → false ≡ true

clash-end : (r : Row) (before : List Row) (id : List ℕ) → is_row_of id r ≡ true → is_some r.new ≡ true → is_ended before id ≡ true → list_any (clashes r) before ≡ true
clash-end r before id of some e = mono _ (clashes r) before (λ q h.
    let s : same_id r.old q.old ≡ true = ap (λ (x : List ℕ). same_id x q.old) (sym (same-exact id r.old of)) ∙ (and_parts _ _ h).0 in
    let n : not (is_some q.new) ≡ true = (and_parts (is_row_of id q) _ h).1 in
    and_from _ _ s (or_left _ _ (and_from _ _ some n))) e

clash-successor : (r : Row) (before : List Row) (id : List ℕ) → is_row_of id r ≡ true → not (is_some r.new) ≡ true → succeeded before id ≡ true → list_any (clashes r) before ≡ true
clash-successor r before id of some e = mono _ (clashes r) before (λ q h.
    let s : same_id r.old q.old ≡ true = ap (λ (x : List ℕ). same_id x q.old) (sym (same-exact id r.old of)) ∙ (and_parts _ _ h).0 in
    let n : is_some q.new ≡ true = (and_parts (is_row_of id q) _ h).1 in
    and_from _ _ s (or_right (is_some r.new && not (is_some q.new)) _ (and_from _ _ some n))) e

not-both : (b : Bool) → b ≡ true → not b ≡ true → false ≡ true
not-both true e f = f
not-both false e f = e

apart-step : (before : List Row) (r : Row) → list_any (clashes r) before ≡ false → Apart before → Apart (before ++ r ∷ [])
apart-step before r clear ap-before id e s =
    elim (any-last (λ row. is_row_of id row && not (is_some row.new)) before r e) as (λ _. false ≡ true) [
      | inl eb ↦ elim (any-last (λ row. is_row_of id row && is_some row.new) before r s) as (λ _. false ≡ true) [
        | inl sb ↦ ap-before id eb sb
        | inr sr ↦ let t = clash-end r before id (and_parts _ _ sr).0 (and_parts (is_row_of id r) _ sr).1 eb in sym clear ∙ t
      ]
      | inr er ↦ elim (any-last (λ row. is_row_of id row && is_some row.new) before r s) as (λ _. false ≡ true) [
        | inl sb ↦ let t = clash-successor r before id (and_parts _ _ er).0 (and_parts (is_row_of id r) _ er).1 sb in sym clear ∙ t
        | inr sr ↦ not-both (is_some r.new) (and_parts (is_row_of id r) _ sr).1 (and_parts (is_row_of id r) _ er).1
      ]
    ]

rows-apart : (last live : List (List ℕ)) (before : List Row) (k : ℕ) (rows : List Row) → lineage_row_faults last live before k rows ≡ [] → Apart before → Apart (before ++ rows)
rows-apart last live before k [] e a = subst Apart (sym (append-nil before)) a
rows-apart last live before k (r ∷ rs) e a =
    let c = clean-row last live before k r rs e in
    subst Apart (append_assoc before (r ∷ []) rs) (rows-apart last live (before ++ r ∷ []) (k + 1) rs c.1 (apart-step before r c.0.apart a))

-- ---- to no fault of the rows
once-back : (before : List Row) (r : Row) (rs : List Row) → length (filter (same_row r) (before ++ r ∷ rs)) ≤ 1 → list_any (same_row r) before ≡ false
once-back before r rs le = elim (cases_Bool (list_any (same_row r) before)) as (λ _. list_any (same_row r) before ≡ false) [
  | inl t ↦ absurd (
      let n = filter-append (same_row r) before (r ∷ rs) in
      let one = filter-some (same_row r) before t in
      let two = filter-some (same_row r) (r ∷ rs) (or_left _ _ (same-row-refl r)) in omega (arith, n, one, two, le))
  | inr f ↦ f
]

apart-back : (before : List Row) (r : Row) (rs : List Row) → Apart (before ++ r ∷ rs) → list_any (clashes r) before ≡ false
apart-back before r rs a = elim (cases_Bool (list_any (clashes r) before)) as (λ _. list_any (clashes r) before ≡ false) [
  | inl t ↦ elim (cases_Bool (is_some r.new)) as (λ _. list_any (clashes r) before ≡ false) [
    | inl some ↦
        let e = mono (clashes r) (λ q. is_row_of r.old q && not (is_some q.new)) before (λ q h. and_from _ _ (and_parts _ _ h).0 (other-none r q some (and_parts (same_id r.old q.old) _ h).1)) t in
        absurd (let w = a r.old (any-left _ before (r ∷ rs) e) (any-mid _ before r rs (and_from _ _ (same-refl r.old) some)) in cc)
    | inr none ↦
        let e = mono (clashes r) (λ q. is_row_of r.old q && is_some q.new) before (λ q h. and_from _ _ (and_parts _ _ h).0 (other-some r q none (and_parts (same_id r.old q.old) _ h).1)) t in
        absurd (let w = a r.old (any-mid _ before r rs (and_from _ _ (same-refl r.old) (ap not none))) (any-left _ before (r ∷ rs) e) in cc)
  ]
  | inr f ↦ f
] where
  other-none : (r q : Row) → is_some r.new ≡ true → ((is_some r.new && not (is_some q.new)) || (not (is_some r.new) && is_some q.new)) ≡ true → not (is_some q.new) ≡ true
  other-none r q some h = by (is_some r.new) (is_some q.new) some h where
    by : (a b : Bool) → a ≡ true → ((a && not b) || (not a && b)) ≡ true → not b ≡ true
    by true true e h = h
    by true false e h = refl
    by false b e h = cc e

  other-some : (r q : Row) → is_some r.new ≡ false → ((is_some r.new && not (is_some q.new)) || (not (is_some r.new) && is_some q.new)) ≡ true → is_some q.new ≡ true
  other-some r q none h = by (is_some r.new) (is_some q.new) none h where
    by : (a b : Bool) → a ≡ false → ((a && not b) || (not a && b)) ≡ true → b ≡ true
    by true b e h = cc e
    by false true e h = refl
    by false false e h = h

rows-clean : (last live : List (List ℕ)) (before : List Row) (k : ℕ) (rows : List Row)
    → ((id : List ℕ) → list_any (names_successor id) (before ++ rows) ≡ true → has_id live id ≡ true)
    → ((id : List ℕ) → list_any (is_row_of id) (before ++ rows) ≡ true → (has_id last id ≡ true) × (has_id live id ≡ false))
    → ((row : Row) → length (filter (same_row row) (before ++ rows)) ≤ 1)
    → Apart (before ++ rows)
    → lineage_row_faults last live before k rows ≡ []
rows-clean last live before k [] named dropped once a = refl
rows-clean last live before k (r ∷ rs) named dropped once a =
    let all : (before ++ r ∷ []) ++ rs ≡ before ++ r ∷ rs = append_assoc before (r ∷ []) rs in
    let d = dropped r.old (any-mid (is_row_of r.old) before r rs (same-refl r.old)) in
    let N : List Row → Type 0 = λ xs. (id : List ℕ) → list_any (names_successor id) xs ≡ true → has_id live id ≡ true in
    let D : List Row → Type 0 = λ xs. (id : List ℕ) → list_any (is_row_of id) xs ≡ true → (has_id last id ≡ true) × (has_id live id ≡ false) in
    let O : List Row → Type 0 = λ xs. (row : Row) → length (filter (same_row row) xs) ≤ 1 in
    told-none _ _ _ (not_from_true _ d.0) (
    told-none _ _ _ d.1 (
    told-none _ _ _ (none-missing live r.new (λ s is. named s (any-mid (names_successor s) before r rs is))) (
    told-none _ _ _ (once-back before r rs (once r)) (
    told-none _ _ _ (apart-back before r rs a) (
    rows-clean last live (before ++ r ∷ []) (k + 1) rs (subst N (sym all) named) (subst D (sym all) dropped) (subst O (sym all) once) (subst Apart (sym all) a))))))

-- ---- dropped identifiers
dropped-clean : (live : List (List ℕ)) (rows : List Row) (ids : List (List ℕ)) → dropped_faults live rows ids ≡ []
    → (id : List ℕ) → has_id ids id ≡ true → has_id live id ≡ false → list_any (is_row_of id) rows ≡ true
dropped-clean live rows [] e id is gone = cc is
dropped-clean live rows (x ∷ xs) e id is gone =
    let t = told-nil _ _ _ e in
    elim (or_cases (same_id id x) _ is) as (λ _. list_any (is_row_of id) rows ≡ true) [
      | inl a ↦ let alike : id ≡ x = same-exact id x a in
          let P : List ℕ → Type 0 = λ y. (not (has_id live y) && not (list_any (is_row_of y) rows)) ≡ false in
          row-there (has_id live id) _ gone (subst P (sym alike) t.0)
      | inr b ↦ dropped-clean live rows xs t.1 id b gone
    ] where
      row-there : (a b : Bool) → a ≡ false → (not a && not b) ≡ false → b ≡ true
      row-there true b e f = cc e
      row-there false true e f = refl
      row-there false false e f = cc f

clean-dropped : (live : List (List ℕ)) (rows : List Row) (ids : List (List ℕ))
    → ((id : List ℕ) → has_id ids id ≡ true → has_id live id ≡ false → list_any (is_row_of id) rows ≡ true)
    → dropped_faults live rows ids ≡ []
clean-dropped live rows [] all = refl
clean-dropped live rows (x ∷ xs) all = told-none _ _ _ (no-fault (has_id live x) _ (all x (or_left _ _ (same-refl x))))
    (clean-dropped live rows xs (λ id is. all id (or_right (same_id id x) _ is))) where
      no-fault : (a b : Bool) → (a ≡ false → b ≡ true) → (not a && not b) ≡ false
      no-fault true b f = refl
      no-fault false b f = not_from_true b (f refl)

-- ---- used identifiers
pub held-some : (h : List Entry) (id : List ℕ) (i : ℕ) → holds h i id ≡ true → is_some (last_held h id) ≡ true
held-some [] id i e = cc e
held-some (x ∷ h) id zero e = here (last_held h id) x.year (has_id x.live id) e where
  here : (o : Option ℕ) (y : ℕ) (b : Bool) → b ≡ true → is_some (option_or o (cond b (Some y) None)) ≡ true
  here None y true e = refl
  here None y false e = cc e
  here (Some z) y b e = refl
held-some (x ∷ h) id (suc i) e = later (last_held h id) _ (held-some h id i e) where
  later : (o p : Option ℕ) → is_some o ≡ true → is_some (option_or o p) ≡ true
  later None p e = cc e
  later (Some z) p e = refl

some-held : (h : List Entry) (id : List ℕ) → is_some (last_held h id) ≡ true → (i : ℕ) × (holds h i id ≡ true)
some-held [] id e = cc e
some-held (x ∷ h) id e = elim (cases_Bool (is_some (last_held h id))) as (λ _. (i : ℕ) × (holds (x ∷ h) i id ≡ true)) [
  | inl a ↦ let r = some-held h id a in (suc r.0, r.1)
  | inr b ↦ (0, here (last_held h id) x.year (has_id x.live id) b e)
] where
  here : (o : Option ℕ) (y : ℕ) (b : Bool) → is_some o ≡ false → is_some (option_or o (cond b (Some y) None)) ≡ true → b ≡ true
  here None y true f e = refl
  here None y false f e = e
  here (Some z) y b f e = cc f

used-nil : (o : Option ℕ) (b : Bool) (id : List ℕ) (rest : List LineageFault) → used_fault_before o b id rest ≡ [] → (is_some o ≡ true → b ≡ true) × (rest ≡ [])
used-nil None b id rest e = ((λ h. cc h), e)
used-nil (Some y) b id rest e = let t = told-nil _ _ _ e in ((λ _. not-false b t.0), t.1)

used-none : (o : Option ℕ) (b : Bool) (id : List ℕ) (rest : List LineageFault) → (is_some o ≡ true → b ≡ true) → rest ≡ [] → used_fault_before o b id rest ≡ []
used-none None b id rest f e = e
used-none (Some y) b id rest f e = told-none _ _ _ (not_from_true b (f refl)) e

-- where identifiers have no fault of use, each of them that some release holds is among the last ones
pub used-clean : (h : List Entry) (last ids : List (List ℕ)) → used_faults h last ids ≡ [] → (id : List ℕ) (i : ℕ) → holds h i id ≡ true → has_id ids id ≡ true → has_id last id ≡ true
used-clean h last [] e id i hi is = cc is
used-clean h last (x ∷ xs) e id i hi is =
    let t = used-nil (last_held h x) (has_id last x) x _ e in
    elim (or_cases (same_id id x) _ is) as (λ _. has_id last id ≡ true) [
      | inl a ↦ let alike : id ≡ x = same-exact id x a in
          let P : List ℕ → Type 0 = λ y. is_some (last_held h y) ≡ true → has_id last y ≡ true in
          subst P (sym alike) t.0 (held-some h id i hi)
      | inr b ↦ used-clean h last xs t.1 id i hi b
    ]

-- where each of the identifiers that some release holds is among the last ones, they have no fault of use
pub clean-used : (h : List Entry) (last ids : List (List ℕ)) → ((id : List ℕ) (i : ℕ) → holds h i id ≡ true → has_id ids id ≡ true → has_id last id ≡ true) → used_faults h last ids ≡ []
clean-used h last [] all = refl
clean-used h last (x ∷ xs) all = used-none (last_held h x) (has_id last x) x _ (λ s. let r = some-held h x s in
    all x r.0 r.1 (or_left _ _ (same-refl x)))
    (clean-used h last xs (λ id i hi is. all id i hi (or_right (same_id id x) _ is)))

-- ---- marks
marks-clean : (kind_of : List ℕ → Option Kind) (all : List Row) (k : ℕ) (rows : List Row) → marked_row_faults kind_of all k rows ≡ [] → list_any (is_outside kind_of all) rows ≡ false
marks-clean kind_of all k [] e = refl
marks-clean kind_of all k (r ∷ rs) e =
    let t = told-nil _ _ _ e in
    ap (λ (b : Bool). b || list_any (is_outside kind_of all) rs) t.0 ∙ marks-clean kind_of all (k + 1) rs t.1

clean-marks : (kind_of : List ℕ → Option Kind) (all : List Row) (k : ℕ) (rows : List Row) → list_any (is_outside kind_of all) rows ≡ false → marked_row_faults kind_of all k rows ≡ []
clean-marks kind_of all k [] e = refl
clean-marks kind_of all k (r ∷ rs) e = by (is_outside kind_of all r) e (clean-marks kind_of all (k + 1) rs)
  where
    by : (b : Bool) → (b || list_any (is_outside kind_of all) rs) ≡ false → (list_any (is_outside kind_of all) rs ≡ false → marked_row_faults kind_of all (k + 1) rs ≡ [])
        → fault_before b (OfRow MarkedOutside k) (marked_row_faults kind_of all (k + 1) rs) ≡ []
    by true e rec = cc e
    by false e rec = rec e

-- where no row is marked there is no fault of marks
unmarked : (kind_of : List ℕ → Option Kind) (all rows : List Row) → list_any (λ (r : Row). r.exact) rows ≡ false → list_any (is_outside kind_of all) rows ≡ false
unmarked kind_of all [] e = refl
unmarked kind_of all (r ∷ rs) e = by r.exact _ e (unmarked kind_of all rs)
  where
    by : (b c : Bool) → (b || list_any (λ (x : Row). x.exact) rs) ≡ false → (list_any (λ (x : Row). x.exact) rs ≡ false → list_any (is_outside kind_of all) rs ≡ false)
        → ((b && c) || list_any (is_outside kind_of all) rs) ≡ false
    by true c e rec = cc e
    by false c e rec = rec e

-- where no row is marked, there is no fault of marks
pub unmarked-clean : (kind_of : List ℕ → Option Kind) (rows : List Row) → list_any (λ (r : Row). r.exact) rows ≡ false → marked_row_faults kind_of rows 1 rows ≡ []
unmarked-clean kind_of rows e = clean-marks kind_of rows 1 rows (unmarked kind_of rows rows e)

-- ---- all together
successor-or-end : (rows : List Row) (id : List ℕ) → list_any (is_row_of id) rows ≡ true → succeeded rows id ≡ false → is_ended rows id ≡ true
successor-or-end [] id e f = cc e
successor-or-end (r ∷ rs) id e f = by (is_row_of id r) (is_some r.new) _ _ _ (successor-or-end rs id) e f where
  by : (a b c d g : Bool) → (c ≡ true → d ≡ false → g ≡ true) → (a || c) ≡ true → ((a && b) || d) ≡ false → ((a && not b) || g) ≡ true
  by true true c d g ih e f = cc f
  by true false c d g ih e f = refl
  by false b c d g ih e f = ih e f

answered : (rows : List Row) (id : List ℕ) → ((row : Row) → length (filter (same_row row) rows) ≤ 1) → Apart rows → list_any (is_row_of id) rows ≡ true → IsAnswered rows id
answered rows id once a is =
    elim (cases_Bool (succeeded rows id)) as (λ _. IsAnswered rows id) [
      | inl s ↦ elim (cases_Bool (is_ended rows id)) as (λ _. IsAnswered rows id) [ inl e ↦ absurd (let w = a id e s in cc) | inr n ↦ inr (filter-none _ rows n, s) ]
      | inr n ↦ let some = filter-some _ rows (successor-or-end rows id is n) in let few = one-ending rows id once in inl (omega (arith, some, few), n)
    ]

-- a release whose lineage has no fault follows the history
pub follows-from-clean : (h : List Entry) (live : List (List ℕ)) (rows : List Row) → faults h live rows ≡ [] → Follows h live rows
follows-from-clean h live rows e =
    let w = both-nil (faults_but_marks h live rows) _ e in
    let t = both-nil (lineage_row_faults (last_live h) live [] 1 rows) _ w.0 in
    let u = both-nil (dropped_faults live rows (last_live h)) _ t.1 in
    record {
      not_used = used-clean h (last_live h) live u.1;
      answered = λ id was gone. answered rows id (λ row. rows-once (last_live h) live [] 1 rows t.0 row (omega arith))
          (rows-apart (last_live h) live [] 1 rows t.0 (λ id e s. e)) (dropped-clean live rows (last_live h) u.0 id was
          gone);
      named = rows-named (last_live h) live [] 1 rows t.0;
      once = λ row. rows-once (last_live h) live [] 1 rows t.0 row (omega arith);
      dropped = rows-dropped (last_live h) live [] 1 rows t.0;
      marked = marks-clean (kind (last_live h) live rows) rows 1 rows w.1;
    }

-- a release that follows the history has no fault in its lineage
pub clean-from-follows : (h : List Entry) (live : List (List ℕ)) (rows : List Row) → Follows h live rows → faults h live rows ≡ []
clean-from-follows h live rows f =
    let a : Apart rows = λ id e s. let d = f.dropped id (mono _ (is_row_of id) rows (λ r h. (and_parts (is_row_of id r) _ h).0) e) in from-answered rows id (f.answered id d.0 d.1) e s in
    let r = rows-clean (last_live h) live [] 1 rows f.named f.dropped f.once a in
    let d = clean-dropped live rows (last_live h) (λ id was gone. any-of rows id (f.answered id was gone)) in
    let u = clean-used h (last_live h) live f.not_used in
    ap (λ (x : List LineageFault). x ++ marked_row_faults (kind (last_live h) live rows) rows 1 rows)
    (ap (λ (x : List LineageFault). x ++ (dropped_faults live rows (last_live h) ++ used_faults h (last_live h) live)) r
    ∙ ap (λ (x : List LineageFault). x ++ used_faults h (last_live h) live) d ∙ u)
    ∙ clean-marks (kind (last_live h) live rows) rows 1 rows f.marked where
      any-of : (rows : List Row) (id : List ℕ) → IsAnswered rows id → list_any (is_row_of id) rows ≡ true
      any-of rows id e = elim e as (λ _. list_any (is_row_of id) rows ≡ true) [
        | inl l ↦ mono _ (is_row_of id) rows (λ r h. (and_parts (is_row_of id r) _ h).0) (counted-ended rows id l.0)
        | inr r ↦ mono
            _ (is_row_of id) rows (λ r h. (and_parts (is_row_of id r) _ h).0) r.1
      ]

-- where the test is true, its fault is the first one
pub first-told : (b : Bool) (f : LineageFault) (rest : List LineageFault) → b ≡ true → first (fault_before b f rest) ≡ Some f
first-told true f rest e = refl
first-told false f rest e = cc e

-- where the test is false, the faults are the ones behind it
pub told-skip : (b : Bool) (f : LineageFault) (rest : List LineageFault) → b ≡ false → fault_before b f rest ≡ rest
told-skip true f rest e = cc e
told-skip false f rest e = refl
