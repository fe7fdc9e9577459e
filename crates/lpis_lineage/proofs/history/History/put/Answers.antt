use Rattle.std.proofs.Common.{◌≡◌, ◌<◌, ◌∙◌, sym, ap, subst, arith, ℕ, List}
use Rattle.lpis_lineage.proofs.Common.{get, has_id, same_id, Entry, ended_in, last_year}
use Rattle.lpis_lineage.specs.private.Keeping.{IsNext}
use Rattle.lpis_lineage.proofs.SpanStepLemmas.{history-more, history-same}
use Rattle.lpis_lineage.proofs.history.History.put.Goals as goal

pub invariant_of-self-in_err-push : goal.invariant_of-self-in_err-push
invariant_of-self-in_err-push c = (
  history-same c.self.inside.entries.items _ (λ id. get same_id c.self.inside.spans id)
      _ c.self.invariant.0 c.in_err-push.ensures.items (λ q. c.in_ok-reserve.ensures.entries.2 q),
  c.self.invariant.1,
)

pub invariant_of-self-2 : goal.invariant_of-self-2
invariant_of-self-2 c =
    let h = c.self.inside.entries.items in
    let year : last_year h ≡ c.last_year-last.result = ap last_year c.self.view_is ∙ sym c.last_year-last.ensures in
    let later : last_year h < c.args.year = (let e = ap last_year c.self.view_is in let l = c.requires.later in omega (arith, e, l)) in
    let next = subst (λ (l : List Entry). IsNext l c.args.live c.args.rows.now c.args.gone.now c.args.fresh.items) (sym c.self.view_is) c.requires.next in (
      history-more h _ c.in_ok-entry.entry c.args.live c.args.rows.now c.args.year c.args.fresh.items c.args.gone.now
          (λ id. get same_id c.self.inside.spans id) (λ id. get same_id c.reserve.new.self id) (λ id. get same_id c.begin_spans.new.spans id) _
          c.self.invariant.0 next c.in_ok-entry.ensures.release c.in_ok-entry.ensures.year later c.in_ok-push.ensures.items
          (λ q. c.in_ok-reserve.ensures.entries.2 q) (λ q. c.begin_spans.ensures q)
          (λ q. c.end_spans.ensures q ∙ ap (λ (y : ℕ). ended_in (has_id c.args.gone.now q) y (get same_id c.begin_spans.new.spans q)) (sym year)),
      c.self.invariant.1,
    )
