use Rattle.std.proofs.Common.{◌∙◌, sym, ap, ℕ, List}
use Rattle.lpis_register_rows.proofs.Common.{has_id, same_id, all_live}
use Rattle.std.proofs.lemmas.List.Filters.{dedup_is}
use Rattle.lpis_register_rows.proofs.SpanListLemmas.{held-span, sorted-has, spans-listed}
use Rattle.lpis_register_rows.proofs.spans.spans_of.Goals as goal

pub span_rows-requires : goal.span_rows-requires
span_rows-requires c = λ q has.
    let found = c.in_ok-ids.ids.items in
    let sorted = c.sort_unstable.new.self.items in
    let is = c.in_ok-ids.ensures ∙ ap all_live c.releases.ensures.list in
    let kept = dedup_is same_id _ _ c.dedup.ensures.filtered in
    held-span c.args.history.now q
    (sym (sorted-has c.args.history.now found sorted q is c.sort_unstable.ensures.permutation)
    ∙ ap (λ (l : List (List ℕ)). has_id l q) (sym kept) ∙ ap (λ (l : List (List ℕ)). has_id l q)
    (sym c.as_slice.ensures.value) ∙ has)

pub returns : goal.returns
returns c =
    spans-listed c.args.history.now c.in_ok-ids.ids.items c.sort_unstable.new.self.items c.in_ok-rows.rows.items
    (c.in_ok-ids.ensures ∙ ap all_live c.releases.ensures.list) c.sort_unstable.ensures.permutation
    c.sort_unstable.ensures.sorted
    (c.in_ok-rows.ensures.ids ∙ c.as_slice.ensures.value ∙ dedup_is same_id _ _ c.dedup.ensures.filtered) c.in_ok-rows.ensures.right
