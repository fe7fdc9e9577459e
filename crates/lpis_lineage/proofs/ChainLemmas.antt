-- Chains over one row more, and over a lawful history.
use Rattle.std.proofs.Common.{◌≡◌, ◌∙◌, ◌<◌, ◌≤◌, ◌+◌, ◌⊎◌, inl, inr, refl, sym, ap, subst, arith, ℕ, zero, suc, List, [], ◌∷◌, ◌++◌, length, Bool, true, false, Option, None, Some, cond, take, drop}
use Rattle.std.proofs.Common.{get_or, append_assoc, ◌&&◌, ◌||◌, ◌↔◌, filter}
use Rattle.lpis_lineage.proofs.Common.{list_any, list_any-append, Row, Entry, has_id, same_id, last_live, holds, entry_at, is_row_of, is_this, names_successor, IsLawful, RowsFit, all_rows}
use Rattle.lpis_lineage.proofs.Common.{AreFreshRows}
use Rattle.lpis_lineage.proofs.Common.{cases_Bool}
use Rattle.std.proofs.lemmas.List.{append-nil, take-append-drop}
use Rattle.lpis_lineage.specs.Descendants.{IsDescendant, leads, Chain, Here, Step}
use Rattle.lpis_lineage.proofs.PickingLemmas.{has-filter}
use Rattle.lpis_lineage.specs.private.Following.{IsFreshRow, Reaches}
use Rattle.lpis_lineage.proofs.IdentifierLemmas.{same-exact, same-refl, same-sym}
use Rattle.lpis_lineage.proofs.CleanLemmas.{mono, any-left, any-mid, any-last}
use Rattle.lpis_lineage.proofs.ExtensionLemmas.{entry-get}
use Rattle.lpis_lineage.proofs.TellingLemmas.{take-at}
use Rattle.std.proofs.lemmas.Bool.{and_parts, and_from, or_cases}

chain-more : (rows : List Row) (r : Row) (a b : List ℕ) → Chain rows a b → Chain (rows ++ r ∷ []) a b
chain-more rows r a _ Here = Here
chain-more rows r a _ (Step m b ch l) = Step m b (chain-more rows r a m ch) (any-left (leads m b) rows (r ∷ []) l)

-- a chain over one row more ends before it, or with it
chain-less : (rows : List Row) (r : Row) (a c : List ℕ) → IsFreshRow rows r → Chain (rows ++ r ∷ []) a c → (Chain rows a c) ⊎ ((Chain rows a r.old) × (is_this c r.new ≡ true))
chain-less rows r a _ fresh Here = inl Here
chain-less rows r a _ fresh (Step m c ch l) = next rows r a m c fresh (chain-less rows r a m fresh ch) l where
  next : (rows : List Row) (r : Row) (a m c : List ℕ) → IsFreshRow rows r → (Chain rows a m)
      ⊎ ((Chain rows a r.old) × (is_this m r.new ≡ true)) → list_any (leads m c) (rows ++ r ∷ []) ≡ true
      → (Chain rows a c) ⊎ ((Chain rows a r.old) × (is_this c r.new ≡ true))
  next rows r a m c fresh (inl ch) l = elim (any-last (leads m c) rows r l) as (λ _. (Chain rows a c) ⊎ ((Chain rows a r.old) × (is_this c r.new ≡ true))) [
    | inl x ↦ inl (Step m c ch x)
    | inr y ↦ inr (let P : List ℕ → Type 0 = λ z. Chain rows a z in subst P (same-exact m r.old (and_parts _ _ y).0) ch, (and_parts (is_row_of m r) _ y).1)
  ]
  next rows r a m c fresh (inr (ch, t)) l = absurd (
      let has-row : list_any (is_row_of m) (rows ++ r ∷ []) ≡ true = mono (leads m c) (is_row_of m) (rows ++ r ∷ []) (λ q h. (and_parts _ _ h).0) l in
      let none = fresh m t in cc)

-- the row has no successor
pub reach-none : (test : List ℕ → Bool) (rows : List Row) (r : Row) (id : List ℕ) → Reaches test rows id → IsFreshRow rows r → r.new ≡ None → Reaches test (rows ++ r ∷ []) id
reach-none test rows r id reach fresh none = record {
  sound = λ q h. chain-more rows r id q (reach.sound q h);
  whole = λ q ch. elim (chain-less rows r id q fresh ch) as (λ _. test q ≡ true) [
    | inl x ↦ reach.whole q x
    | inr y ↦ absurd (let t = y.1 in let n = ap (λ (o : Option (List ℕ)). is_this q o) none
        in cc)
  ];
}

-- the row's old identifier is not reached
pub reach-skip : (test : List ℕ → Bool) (rows : List Row) (r : Row) (id : List ℕ) → Reaches test rows id → IsFreshRow rows r → test r.old ≡ false → Reaches test (rows ++ r ∷ []) id
reach-skip test rows r id reach fresh no-old = record {
  sound = λ q h. chain-more rows r id q (reach.sound q h);
  whole = λ q ch. elim (chain-less rows r id q fresh ch) as (λ _. test q ≡ true) [ inl x ↦ reach.whole q x | inr y ↦ absurd (let t = reach.whole r.old y.0 in cc) ];
}

-- its successor is reached where its old identifier is
pub reach-join : (test more : List ℕ → Bool) (rows : List Row) (r : Row) (id successor : List ℕ) → Reaches test rows id
    → IsFreshRow rows r → r.new ≡ Some successor
    → ((q : List ℕ) → more q ≡ cond (same_id successor q) (test q || test r.old) (test q)) → Reaches more (rows ++ r ∷ []) id
reach-join test more rows r id successor reach fresh some new = record {
  sound = λ q h. by-test q (same_id successor q) refl (sym (new q) ∙ h);
  whole = λ q ch. elim (chain-less rows r id q fresh ch) as (λ _. more q ≡ true) [
    | inl x ↦ new q ∙ keep (same_id successor q) (test q) (test r.old) (reach.whole q x)
    | inr y ↦ new q ∙ come (same_id successor q) (test q) (test r.old) (turn q (ap (λ (o : Option (List ℕ)). is_this q o) (sym some) ∙ y.1)) (reach.whole r.old y.0)
  ];
} where
  keep : (b c d : Bool) → c ≡ true → cond b (c || d) c ≡ true
  keep true true d e = refl
  keep false true d e = refl
  keep b false d e = cc e

  come : (b c d : Bool) → b ≡ true → d ≡ true → cond b (c || d) c ≡ true
  come true true d e f = refl
  come true false d e f = f
  come false c d e f = cc e

  turn : (q : List ℕ) → same_id q successor ≡ true → same_id successor q ≡ true
  turn q e = same-sym successor q ∙ e

  arrive : (q : List ℕ) → same_id successor q ≡ true → test r.old ≡ true → Chain (rows ++ r ∷ []) id q
  arrive q e old =
      let g : successor ≡ q = same-exact successor q e in
      let names-it : is_this q r.new ≡ true = ap (λ (o : Option (List ℕ)). is_this q o) some ∙ ap (λ (z : List ℕ). same_id q z) g ∙ same-refl q in
      Step r.old q (chain-more rows r id r.old (reach.sound r.old old)) (any-mid (leads r.old q) rows r [] (and_from _ _ (same-refl r.old) names-it))

  by-test : (q : List ℕ) (b : Bool) → b ≡ same_id successor q → cond b (test q || test r.old) (test q) ≡ true → Chain (rows ++ r ∷ []) id q
  by-test q true e h = elim (or_cases (test q) (test r.old) h) as (λ _. Chain (rows ++ r ∷ []) id q) [
    | inl x ↦ chain-more rows r id q (reach.sound q x)
    | inr y ↦ arrive q (sym e) y
  ]
  by-test q false e h = chain-more rows r id q (reach.sound q h)

-- one row further among rows that are fresh
pub fresh-row : (before rows : List Row) (i : ℕ) (r : Row) → AreFreshRows before rows → i < length rows → r ≡ get_or rows i r → IsFreshRow (before ++ take i rows) r
fresh-row before rows i r fresh lt is s names-it =
    elim (cases_Bool (list_any (is_row_of s) ((before ++ take i rows) ++ r ∷ []))) as (λ _. list_any (is_row_of s) ((before ++ take i rows) ++ r ∷ []) ≡ false) [
      | inl t ↦ absurd (
          let split : rows ≡ (take i rows ++ r ∷ []) ++ drop (i + 1) rows = sym (take-append-drop (i + 1) rows) ∙ ap (λ (l : List Row). l ++ drop (i + 1) rows) (sym (take-at rows i r lt is)) in
          let there : list_any (names_successor s) rows ≡ true = ap (λ (l : List Row). list_any (names_successor s) l) split
          ∙ any-left (names_successor s) (take i rows ++ r ∷ []) (drop (i + 1) rows)
          (any-mid (names_successor s) (take i rows) r [] names-it) in
          let none = fresh s there in
          let all : list_any (is_row_of s) (before ++ rows) ≡ true =
          ap (λ (l : List Row). list_any (is_row_of s) (before ++ l)) split
          ∙ ap (λ (l : List Row). list_any (is_row_of s) l) (sym (append_assoc before (take i rows ++ r ∷ []) (drop (i + 1) rows)))
          ∙ any-left (is_row_of s) (before ++ (take i rows ++ r ∷ [])) (drop (i + 1) rows)
          (ap (λ (l : List Row). list_any (is_row_of s) l) (sym (append_assoc before (take i rows) (r ∷ []))) ∙ t) in cc)
      | inr f ↦ f
    ]

-- ---- in a lawful history
-- the rows of some first releases: some row of an identifier stands in a release that drops it
pub row-index : (h : List Entry) (n : ℕ) (id : List ℕ) → list_any (is_row_of id) (all_rows (take n h)) ≡ true → (j : ℕ) × (j < n) × (list_any (is_row_of id) (entry_at h j).rows ≡ true)
row-index [] (suc n) id e = cc e
row-index (x ∷ h) (suc n) id e =
    elim (or_cases (list_any (is_row_of id) x.rows) _ (sym (list_any-append (is_row_of id) x.rows (all_rows (take n h))) ∙ e))
    as (λ _. (j : ℕ) × (j < suc n) × (list_any (is_row_of id) (entry_at (x ∷ h) j).rows ≡ true)) [
      | inl a ↦ (0, omega arith, a)
      | inr b ↦ let r = row-index h n id b in (suc r.0, (let k = r.1 in omega arith), r.2)
    ]
row-index _ _ id e = cc e

no-row-of : (h : List Entry) → IsLawful h → RowsFit h → (i j : ℕ) (s : List ℕ) → j ≤ i → holds h i s ≡ true → list_any (is_row_of s) (entry_at h j).rows ≡ true → false ≡ true
no-row-of h law fit i zero s le live of = let n = ap (λ (l : List Row). list_any (is_row_of s) l) fit.first in sym n ∙ of
no-row-of h law fit i (suc j) s le live of =
    let k : suc j ≡ j + 1 = omega arith in
    let d = fit.of_dropped s j (ap (λ (m : ℕ). list_any (is_row_of s) (entry_at h m).rows) (sym k) ∙ of) in
    sym d.2 ∙ law.consecutive s j (j + 1) i (omega arith) (omega arith) d.1 live

-- the rows of a release are fresh after those before
pub release-fresh : (h : List Entry) → IsLawful h → RowsFit h → (i : ℕ) (e : Entry) → i < length h → e ≡ get_or h i e → AreFreshRows (all_rows (take i h)) e.rows
release-fresh h law fit i e lt is s names-it =
    let at : e ≡ entry_at h i = is ∙ entry-get h i e lt in
    let live : holds h i s ≡ true = law.successors s i (ap (λ (x : Entry). list_any (names_successor s) x.rows) (sym at) ∙ names-it) in
    elim (cases_Bool (list_any (is_row_of s) (all_rows (take i h) ++ e.rows))) as (λ _. list_any (is_row_of s) (all_rows (take i h) ++ e.rows) ≡ false) [
      | inl t ↦ elim (or_cases (list_any (is_row_of s) (all_rows (take i h))) _
          (sym (list_any-append (is_row_of s) (all_rows (take i h)) e.rows) ∙ t)) as
          (λ _. list_any (is_row_of s) (all_rows (take i h) ++ e.rows) ≡ false) [
            | inl a ↦ absurd (let p = row-index h i s a in let w = no-row-of h law fit i p.0 s (let k = p.1 in omega arith) live p.2 in cc)
            | inr b ↦ absurd (let w = no-row-of h law fit i i s (omega arith) live (ap (λ (x : Entry). list_any (is_row_of s) x.rows) (sym at) ∙ b) in cc)
          ]
      | inr f ↦ f
    ]

-- the rows of the first releases, with those of the next one behind them, are the rows of one release more
pub all-rows-next : (h : List Entry) (i : ℕ) (e : Entry) → i < length h → e ≡ get_or h i e → all_rows (take i h) ++ e.rows ≡ all_rows (take (i + 1) h)
all-rows-next h i e lt is = sym (all-snoc (take i h) e) ∙ ap all_rows (take-at h i e lt is) where
  all-snoc : (h : List Entry) (e : Entry) → all_rows (h ++ e ∷ []) ≡ all_rows h ++ e.rows
  all-snoc [] e = append-nil e.rows
  all-snoc (x ∷ h) e = ap (λ (l : List Row). x.rows ++ l) (all-snoc h e) ∙ sym (append_assoc x.rows (all_rows h) e.rows)

-- the start
pub reach-start : (test : List ℕ → Bool) (id : List ℕ) → ((q : List ℕ) → test q ≡ same_id q id) → Reaches test [] id
reach-start test id e = record {
  sound = λ q h. let g : q ≡ id = same-exact q id (sym (e q) ∙ h) in let P : List ℕ → Type 0 = λ z. Chain [] id z in subst P (sym g) Here;
  whole = λ q ch. e q ∙ start q ch;
} where
  start : (q : List ℕ) → Chain [] id q → same_id q id ≡ true
  start _ Here = same-refl id
  start _ (Step m c ch l) = cc l

-- the live ones of those reached
pub live-reached : (h : List Entry) (id : List ℕ) (test : List ℕ → Bool) (ids found : List (List ℕ)) → Reaches test (all_rows h) id
    → ids ≡ last_live h → found ≡ filter test ids → (q : List ℕ) → (has_id found q ≡ true)
    ↔ IsDescendant h id q
live-reached h id test ids found reach e f q =
    let tested : has_id found q ≡ (has_id (last_live h) q && test q) =
    ap (λ (l : List (List ℕ)). has_id l q) f ∙ has-filter test ids q ∙ ap (λ (l : List (List ℕ)). has_id l q && test q) e in (
      λ t. (reach.sound q (and_parts (has_id (last_live h) q) (test q) (sym tested ∙ t)).1, (and_parts (has_id (last_live h) q) (test q) (sym tested ∙ t)).0),
      λ d. tested ∙ and_from _ _ d.1 (reach.whole q d.0),
    )
