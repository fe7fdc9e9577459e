use Rattle.std.proofs.Common.{◌≡◌, ◌∙◌, ◌++◌, ◌∷◌, [], All, ap, arith, length, map, refl, rules, subst, sym, true}
use Rattle.std.specs.Vec.Iter.{into_iter_items, into_iter_len}
use Rattle.lpis_register_rows.proofs.Common.{All-push, KnownSpan, StoredSpan, err_from_is_err_and, is_id, map-append, recursion_from_All, span_in}
use Rattle.lpis_register_rows.proofs.KnownLemmas.{no-both}
use Rattle.lpis_register_rows.proofs.TakingLemmas.{all_read, in_middle, one_read}
use Rattle.lpis_register_rows.proofs.known.known_spans.Goals as goal

pub loop-row-init : goal.loop-row-init
loop-row-init c =
    let made = c.into_iter-row-iterator.result in
    let none : c.in_ok-spans.spans.items ≡ [] = search rules in
    let counted : into_iter_len made ≡ length (into_iter_items made) = search rules in
    (rw none refl, subst (All (λ (s : KnownSpan). is_id s.id ≡ true)) (sym none) (λ i x lt. absurd (omega (arith, lt))), counted)

pub returns-in_err-span-clause-refused : goal.returns-in_err-span-clause-refused
returns-in_err-span-clause-refused c =
    let p = err_from_is_err_and c.from_residual-in_err-span.result c.from_residual-in_err-span.ensures.1 in
    let at = c.loop-row in
    let rest = into_iter_items c.next.new.self in
    let whole : map span_in at.spans.items ++ c.in-Some.row ∷ rest ≡ c.args.rows.items =
    ap (λ l. map span_in at.spans.items ++ l) (sym c.in-Some.ensures.steps.0) ∙ at.invariant.0 ∙ c.into_iter-row-iterator.ensures.into_iter_gives.0 in
    rw (p.1, p.2) (λ e all. no-both (is_id c.in-Some.row.id)
    (in_middle (λ (s : StoredSpan). is_id s.id ≡ true) (map span_in at.spans.items) c.in-Some.row rest
    (recursion_from_All (λ (s : StoredSpan). is_id s.id ≡ true) _ (subst (All (λ (s : StoredSpan). is_id s.id ≡ true)) (sym whole) all)))
    (c.in_err-span.ensures.refused e))

pub loop-row-preserved : goal.loop-row-preserved
loop-row-preserved c =
    let at = c.loop-row in
    let steps : into_iter_items at.row-iterator ≡ c.in-Some.row ∷ into_iter_items c.next.new.self = c.in-Some.ensures.steps.0 in
    let pushed : map span_in c.push.new.self.items ≡ map span_in at.spans.items ++ c.in-Some.row ∷ [] =
    ap (map span_in) c.in_ok-push.ensures.items ∙ map-append span_in at.spans.items (c.in_ok-span.span ∷ [])
    ∙ ap (λ (b : StoredSpan). map span_in at.spans.items ++ b ∷ []) c.in_ok-span.ensures.same in (
      rw pushed (one_read (map span_in at.spans.items) _ (into_iter_items c.next.new.self) _ c.in-Some.row steps at.invariant.0),
      rw c.in_ok-push.ensures.items (All-push (λ (s : KnownSpan). is_id s.id ≡ true) at.spans.items c.in_ok-span.span at.invariant.1 c.in_ok-span.ensures.id),
      let was = at.invariant.2 in
          let gone = c.in-Some.ensures.steps.1 in
          let short = ap length steps in
          omega arith,
    )

pub returns-clause-same : goal.returns-clause-same
returns-clause-same c =
    all_read _ _ _ (sym c.loop-row.invariant.2 ∙ c.in-None.ensures.steps.0) c.loop-row.invariant.0 ∙ c.into_iter-row-iterator.ensures.into_iter_gives.0
