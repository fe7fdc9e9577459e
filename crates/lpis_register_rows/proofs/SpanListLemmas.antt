-- The spans of a history's identifiers, as a list of rows.
use Rattle.std.proofs.Common.{◌≡◌, ◌∙◌, ◌<◌, ◌+◌, refl, sym, ap, ap₂, arith, ℕ, zero, suc, List, [], ◌∷◌, ◌++◌, Bool, true, false, Option, None, Some, cond, length, map, take, get_or, IsPermutation}
use Rattle.std.proofs.Common.{◌||◌, is_some, IsSorted, All, filter, nat_cmp}
use Rattle.std.proofs.lemmas.List.Sorted.{list_any-IsPermutation}
use Rattle.lpis_register_rows.proofs.Common.{list_any, slice_cmp, All-push, recursion_from_All, has_id, same_id, Entry, holds, last_live, first_held, last_held, span_of}
use Rattle.lpis_register_rows.proofs.Common.{same-refl}
use Rattle.lpis_register_rows.proofs.Common.{take-at, StoredSpan, IsSpanRow, AreSpansOf, all_live}
use Rattle.std.specs.List.{dedup}
use Rattle.std.specs.Cmp.Lexicographic.{nat_list_cmp_total, texts_ties}
use Rattle.std.proofs.lemmas.List.{append-nil, append_assoc}
use Rattle.std.proofs.lemmas.List.Kept.{IsStrictlySortedBy-dedup}
use Rattle.std.proofs.lemmas.List.Folds.{list_any-append}
use Rattle.lpis_lineage.specs.Spans.{span_between}
use Rattle.lpis_lineage.proofs.Shared.{held-some, first-index}
use Rattle.lpis_register_rows.proofs.RepeatLemmas.{has-dedup}
use Rattle.lpis_register_rows.proofs.KnownLemmas.{read-more}
use Rattle.lpis_register_rows.proofs.PublishingLemmas.{once-ascending, same-length}

live-push : (h : List Entry) (e : Entry) → all_live (h ++ e ∷ []) ≡ all_live h ++ e.live
live-push [] e = append-nil e.live
live-push (x ∷ h) e = ap (λ (l : List (List ℕ)). x.live ++ l) (live-push h e) ∙ sym (append_assoc x.live (all_live h) e.live)

-- the identifiers of the first releases, one release further
pub live-more : (h : List Entry) (i : ℕ) (e : Entry) (old new : List (List ℕ)) → i < length h → e ≡ get_or h i e → old ≡ all_live (take i h) → new ≡ old ++ e.live → new ≡ all_live (take (i + 1) h)
live-more h i e old new lt at o n = n ∙ ap (λ (l : List (List ℕ)). l ++ e.live) o ∙ sym (live-push (take i h) e) ∙ ap all_live (take-at h i e lt at)

-- the identifier at a position of a list is in it
pub has-at : (ids : List (List ℕ)) (i : ℕ) (id : List ℕ) → i < length ids → id ≡ get_or ids i id → has_id ids id ≡ true
has-at [] i id lt at = absurd (omega arith)
has-at (x ∷ xs) zero id lt at = ap (λ (q : List ℕ). same_id id q || has_id xs id) (sym at) ∙ ap (λ (b : Bool). b || has_id xs id) (same-refl id)
has-at (x ∷ xs) (suc i) id lt at = later (same_id id x) (has-at xs i id (omega arith) at) where
  later : (b : Bool) → has_id xs id ≡ true → (b || has_id xs id) ≡ true
  later true e = refl
  later false e = e

-- rows that are the spans of the first identifiers, one identifier further
pub span-rows-next : (h : List Entry) (ids : List (List ℕ)) (i : ℕ) (id : List ℕ) (rows new : List StoredSpan) (s : StoredSpan)
    → i < length ids → id ≡ get_or ids i id → s.id ≡ id → IsSpanRow h s → new ≡ rows ++ s ∷ []
    → (map (λ (s : StoredSpan). s.id) rows ≡ take i ids) × All (IsSpanRow h) rows → (map (λ (s : StoredSpan). s.id) new ≡ take (i + 1) ids) × All (IsSpanRow h) new
span-rows-next h ids i id rows new s lt at is right n inv = rw n (read-more (λ (s : StoredSpan). s.id) rows s ids i id inv.0 lt at is, All-push (IsSpanRow h) rows s inv.1 right)

-- what a release holds has a span, and the other way round
live-held : (h : List Entry) (i : ℕ) (q : List ℕ) → holds h i q ≡ true → has_id (all_live h) q ≡ true
live-held [] i q e = cc e
live-held (x ∷ h) zero q e = list_any-append (same_id q) x.live (all_live h) ∙ ap (λ (b : Bool). b || has_id (all_live h) q) e
live-held (x ∷ h) (suc i) q e = list_any-append (same_id q) x.live (all_live h) ∙ later (has_id x.live q) (live-held h i q e) where
  later : (b : Bool) → has_id (all_live h) q ≡ true → (b || has_id (all_live h) q) ≡ true
  later true e = refl
  later false e = e

held-first : (h : List Entry) (q : List ℕ) → has_id (all_live h) q ≡ true → is_some (first_held h q) ≡ true
held-first [] q e = cc e
held-first (x ∷ h) q e = by (held-first h q) (has_id x.live q) refl (sym (list_any-append (same_id q) x.live (all_live h)) ∙ e) where
  by : (has_id (all_live h) q ≡ true → is_some (first_held h q) ≡ true) → (b : Bool) → b ≡ has_id x.live q
      → (b || has_id (all_live h) q) ≡ true → is_some (cond b (Some x.year) (first_held h q)) ≡ true
  by ih true eb is = refl
  by ih false eb is = ih is

-- an identifier that some release holds has a span
pub held-span : (h : List Entry) (q : List ℕ) → has_id (all_live h) q ≡ true → is_some (span_of h q) ≡ true
held-span h q e = by (first_held h q) refl (last_held h q) refl (held-first h q e) where
  by : (f : Option ℕ) → f ≡ first_held h q → (l : Option ℕ) → l ≡ last_held h q → is_some (first_held h q) ≡ true
      → is_some (span_between (first_held h q) (last_held h q) (has_id (last_live h) q)) ≡ true
  by None ef l el s = absurd (let n = ap is_some ef in cc)
  by (Some f) ef None el s = absurd (let p = first-index h q f (sym ef) in let t = held-some h q p.0 p.1 in let n = ap is_some el in cc)
  by (Some f) ef (Some l) el s = ap₂ (λ (a b : Option ℕ). is_some (span_between a b (has_id (last_live h) q))) (sym ef) (sym el)

count-ids : (rows : List StoredSpan) (id : List ℕ) → length (filter (λ s. same_id id s.id) rows) ≡ length (filter (same_id id) (map (λ (s : StoredSpan). s.id) rows))
count-ids [] id = refl
count-ids (s ∷ ss) id = same-length (same_id id s.id) s s.id _ _ (count-ids ss id)

any-ids : (rows : List StoredSpan) (id : List ℕ) → list_any (λ s. same_id id s.id) rows ≡ has_id (map (λ (s : StoredSpan). s.id) rows) id
any-ids [] id = refl
any-ids (s ∷ ss) id = ap (λ (b : Bool). same_id id s.id || b) (any-ids ss id)

-- each identifier that a release holds is among the sorted ones, and no other
pub sorted-has : (h : List Entry) (found sorted : List (List ℕ)) (q : List ℕ) → found ≡ all_live h → IsPermutation found sorted → has_id (dedup same_id sorted) q ≡ has_id (all_live h) q
sorted-has h found sorted q is moved = has-dedup sorted q ∙ sym (list_any-IsPermutation (same_id q) found sorted moved) ∙ ap (λ (l : List (List ℕ)). has_id l q) is

-- rows that are the spans of all releases' identifiers, sorted and each once, are those of the history
pub spans-listed : (h : List Entry) (found sorted : List (List ℕ)) (rows : List StoredSpan) → found ≡ all_live h → IsPermutation found sorted → IsSorted (slice_cmp nat_cmp) sorted
    → map (λ (s : StoredSpan). s.id) rows ≡ dedup same_id sorted → All (IsSpanRow h) rows → AreSpansOf rows h
spans-listed h found sorted rows is moved up ids right = record {
  once = λ id. let c = count-ids rows id in let e = ap (λ (l : List (List ℕ)). length (filter (same_id id) l)) ids in
      let o = once-ascending id (dedup same_id sorted) (IsStrictlySortedBy-dedup nat_list_cmp_total texts_ties sorted
      up) in omega (arith, c, e, o);
  right = recursion_from_All (IsSpanRow h) rows right;
  whole = λ id i held. any-ids rows id ∙ ap (λ (l : List (List ℕ)). has_id l id) ids ∙ sorted-has h found sorted id is moved ∙ live-held h i id held;
}
