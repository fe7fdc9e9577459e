-- Rows of spans against a history.
use Rattle.std.proofs.Common.{◌≡◌, ◌∙◌, sym, arith, List, Bool, length, IsPermutation, filter}
use Rattle.std.proofs.lemmas.List.Sorted.{list_any-IsPermutation}
use Rattle.lpis_register_rows.proofs.Common.{same_id, Entry, StoredSpan, IsSpanRow, AreSpansOf}
use Rattle.std.proofs.lemmas.List.Sums.{length-filter}
use Rattle.std.proofs.lemmas.List.Sorted.{sum_by-IsPermutation}
use Rattle.lpis_register_rows.proofs.AscendingLemmas.{all-moved}

-- as many elements pass a test in one order of a list as in another
pub count-moved : {A : Type 0} (p : A → Bool) (xs ys : List A) → IsPermutation xs ys → length (filter p ys) ≡ length (filter p xs)
count-moved p xs ys m = length-filter p ys ∙ sum_by-IsPermutation _ xs ys m ∙ sym (length-filter p xs)

-- rows in another order tell the same
pub spans-moved : (xs ys : List StoredSpan) (h : List Entry) → IsPermutation xs ys → AreSpansOf xs h → AreSpansOf ys h
spans-moved xs ys h m t = record {
  once = λ id. let e = count-moved (λ (s : StoredSpan). same_id id s.id) xs ys m in let o = t.once id in omega (arith, e, o);
  right = all-moved (IsSpanRow h) xs ys m t.right;
  whole = λ id i held. sym (list_any-IsPermutation (λ (s : StoredSpan). same_id id s.id) xs ys m) ∙ t.whole id i held;
}
