use Rattle.std.proofs.Common.{◌∙◌, ◌-◌, ap, ap₂, arith, is_ge, nat_cmp, refl, sym, ℕ, List}
use Rattle.lpis_register_rows.proofs.Common.{slice_cmp}
use Rattle.lpis_register_rows.proofs.KnownLemmas.{no-both}
use Rattle.lpis_register_rows.proofs.NamedLemmas.{ascend-more, ascend-pair, ascend-whole, not-ge}
use Rattle.lpis_register_rows.proofs.named.ascend.Goals as goal

pub returns-then-ge : goal.returns-then-ge
returns-then-ge g c = (
  λ t. cc t,
  λ up. let less = ascend-pair g.T.Named.id_of c.args.rows.now (c.loop-next.next - 1) c.loop-next.next c.index-rows-next.result c.index-rows-next-in-loop-next.result
      (let one = c.loop-next.invariant.0 in omega (arith, one)) c.loop-next-test.true c.index-rows-next.is c.index-rows-next-in-loop-next.is up in
      no-both c.ge.result c.if-ge.true (c.ge.ensures ∙ ap₂ (λ (a b : List ℕ). is_ge (slice_cmp nat_cmp a b)) c.id-first.ensures c.id-second.ensures ∙ ap is_ge less),
)

pub loop-next-preserved : goal.loop-next-preserved
loop-next-preserved g c = (
  omega arith,
  ascend-more g.T.Named.id_of c.args.rows.now (c.loop-next.next - 1) c.loop-next.next c.index-rows-next.result c.index-rows-next-in-loop-next.result
      (let one = c.loop-next.invariant.0 in omega (arith, one)) c.loop-next-test.true c.index-rows-next.is c.index-rows-next-in-loop-next.is
      (not-ge _ (ap₂ (λ (a b : List ℕ). is_ge (slice_cmp nat_cmp a b)) (sym c.id-first.ensures) (sym c.id-second.ensures) ∙ sym c.ge.ensures ∙ c.if-ge.false)) c.loop-next.invariant.1,
)

pub returns : goal.returns
returns g c = (λ t. ascend-whole g.T.Named.id_of c.args.rows.now c.loop-next.next (let e = c.loop-next-test.false in omega (arith, e)) c.loop-next.invariant.1, λ up. refl)
