use Rattle.std.proofs.Common.{◌≡◌, ℕ, ◌+◌, ◌<◌, ◌≤◌, ◌^◌, ℤ, pos, ◌+ℤ◌, nat_abs, true, false, length, sym, refl, subst, arith, to_z, of_z, w64, SFits}
use Rattle.lpis_edge_sums.proofs.Common.{ints, edge_sign}
use Rattle.std.proofs.lemmas.Option.{slice_get_read}
use Rattle.lpis_edge_sums.proofs.CountingLemmas.{untrue}
use Rattle.lpis_edge_sums.proofs.RunLemmas.{WalkAt, walk_none, walk_zero, walk_on, walk_all, walk_fault}
use Rattle.lpis_edge_sums.proofs.runs.runs_cancel.Goals.{then-sum-ne0+else-ends_run, else-sum-ne0}
use Rattle.lpis_edge_sums.proofs.runs.runs_cancel.Goals as goal

next_fits : (s r : ℤ) (k n : ℕ) → nat_abs s ≤ k → k < n → n < 2 ^ 63 → nat_abs r ≤ 1 → SFits w64 (s +ℤ to_z w64 (of_z w64 r))
next_fits s r k n h l m g = omega (arith, ints)

next_is : (s r v : ℤ) (k n : ℕ) → nat_abs s ≤ k → k < n → n < 2 ^ 63 → nat_abs r ≤ 1 → r ≡ v → to_z w64 (of_z w64 (s +ℤ to_z w64 (of_z w64 r))) ≡ s +ℤ v
next_is s r v k n h l m g e = omega (arith, ints)

zero_is : (s r v : ℤ) (k n : ℕ) → nat_abs s ≤ k → k < n → n < 2 ^ 63 → nat_abs r ≤ 1 → r ≡ v → of_z w64 (s +ℤ to_z w64 (of_z w64 r)) ≡ 0 → s +ℤ v ≡ pos 0
zero_is s r v k n h l m g e f = omega (arith, ints)

is_zero : (s r v : ℤ) (k n : ℕ) → nat_abs s ≤ k → k < n → n < 2 ^ 63 → nat_abs r ≤ 1 → r ≡ v → s +ℤ v ≡ pos 0 → of_z w64 (s +ℤ to_z w64 (of_z w64 r)) ≡ 0
is_zero s r v k n h l m g e f = omega (arith, ints)

pub loop-k-init : goal.loop-k-init
loop-k-init c = walk_none c.args.edges.now

pub overflow_add-sum : goal.overflow_add-sum
overflow_add-sum c = next_fits (to_z w64 c.loop-k.sum-bits) c.weight-sum.result c.loop-k.k (length c.args.edges.now)
    c.loop-k.invariant.small c.loop-k-test.true c.requires.few c.weight-sum.ensures.small

pub loop-k-preserved : goal.loop-k-preserved
loop-k-preserved c =
    let s = to_z w64 c.loop-k.sum-bits in
    let xs = c.args.edges.now in
    let x = c.index-edges-k.result in
    let at = slice_get_read xs (length xs) c.loop-k.k x refl c.loop-k-test.true c.index-edges-k.is in
    let e = next_is s c.weight-sum.result (edge_sign x) c.loop-k.k (length xs) c.loop-k.invariant.small c.loop-k-test.true c.requires.few c.weight-sum.ensures.small c.weight-sum.ensures.is in
    subst (λ (z : ℤ). WalkAt xs (c.loop-k.k + 1) z) (sym e)
    (elim c.if-sum-ne0.branch [
      | then-sum-ne0+else-ends_run w ↦ walk_on xs c.loop-k.k s x c.loop-k.invariant at (untrue w.ends_run.result w.ends_run.ensures w.if-ends_run.false)
      | else-sum-ne0 w ↦ walk_zero xs c.loop-k.k s x c.loop-k.invariant at
          (zero_is s c.weight-sum.result (edge_sign x) c.loop-k.k (length xs) c.loop-k.invariant.small c.loop-k-test.true
          c.requires.few c.weight-sum.ensures.small c.weight-sum.ensures.is w.if-sum-ne0.false)
    ])

pub returns-then-ends_run : goal.returns-then-ends_run
returns-then-ends_run c =
    let s = to_z w64 c.loop-k.sum-bits in
    let xs = c.args.edges.now in
    let x = c.index-edges-k.result in
    let at = slice_get_read xs (length xs) c.loop-k.k x refl c.loop-k-test.true c.index-edges-k.is in (
      λ t. absurd (never t),
      λ z. absurd (walk_fault xs c.loop-k.k s x c.requires.grouped c.loop-k.invariant at
          (λ f. c.if-sum-ne0.true (is_zero s c.weight-sum.result (edge_sign x) c.loop-k.k (length xs)
          c.loop-k.invariant.small c.loop-k-test.true c.requires.few c.weight-sum.ensures.small c.weight-sum.ensures.is
          f)) (c.ends_run.ensures.0 c.if-ends_run.true) z),
    )
  where
    never : false ≡ true → ⊥
    never t = cc

pub returns : goal.returns
returns c = (λ t. walk_all c.args.edges.now c.loop-k.k (to_z w64 c.loop-k.sum-bits) c.loop-k-test.false c.loop-k.invariant, λ z. refl)
