use Rattle.std.proofs.Common.{◌≡◌, ◌∙◌, ◌<◌, ap, arith, cond, drop, length, sym, set, Bool}
use Rattle.lpis_register_rows.proofs.Common.{KnownLine}
use Rattle.lpis_register_rows.proofs.MarkLemmas.{next-within, unused-step, used-next, walk-step}
use Rattle.lpis_register_rows.proofs.marks.mark_lines.Goals.{then-named, else-named}
use Rattle.lpis_register_rows.specs.private.Marking.{is_next, later, marked}
use Rattle.lpis_register_rows.proofs.marks.mark_lines.Goals as goal

pub loop-line-preserved : goal.loop-line-preserved
loop-line-preserved c =
    let lines = c.loop-line.lines in
    let i = c.loop-line.line-index in
    let named : c.is_named-named.result ≡ is_next (drop c.loop-line.next c.args.marks.now) c.line-item.result =
    c.is_named-named.ensures ∙ ap (λ (x : KnownLine). is_next (drop c.loop-line.next c.args.marks.now) x) (sym c.line-item.is) in
    let lt : i < length lines = let t = c.loop-line-test.true in let n = c.loop-line.auto.lines in omega (arith, t, n) in
    let left = drop c.loop-line.next c.args.marks.now in
    let set-is = ap (λ (x : KnownLine). set lines i (marked c.is_named-named.result x)) (sym c.line-item.is) in
    elim c.if-named.branch [
      | then-named w ↦ rw w.next-is (
        walk-step c.args.marks.now c.loop-line.next _ lines _ i c.line-item.result c.is_named-named.result _ lt c.line-item.is named
            (used-next c.args.marks.now c.loop-line.next ∙ ap (λ (b : Bool). cond b (later left) left) (sym w.if-named.true)) set-is c.loop-line.invariant.0,
        unused-step c.args.marks.now c.loop-line.next _ lines _ i c.line-item.result c.is_named-named.result _ lt c.line-item.is named
            (used-next c.args.marks.now c.loop-line.next ∙ ap (λ (b : Bool). cond b (later left) left) (sym w.if-named.true)) set-is c.loop-line.invariant.1,
        next-within c.args.marks.now c.loop-line.next c.line-item.result (sym named ∙ w.if-named.true),
      )
      | else-named w ↦ rw w.next-is (
        walk-step c.args.marks.now c.loop-line.next _ lines _ i c.line-item.result c.is_named-named.result _ lt c.line-item.is named
            (ap (λ (b : Bool). cond b (later left) left) (sym w.if-named.false)) set-is c.loop-line.invariant.0,
        unused-step c.args.marks.now c.loop-line.next _ lines _ i c.line-item.result c.is_named-named.result _ lt c.line-item.is named
            (ap (λ (b : Bool). cond b (later left) left) (sym w.if-named.false)) set-is c.loop-line.invariant.1,
        c.loop-line.invariant.2,
      )
    ]
