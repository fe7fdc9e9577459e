use Rattle.std.proofs.Common.{◌≡◌, ℕ, Bool, true, false}
use Rattle.lpis_checker.specs.GoodCertificate.{EdgeSeparates}
use borrow.Author.Count.{below_more}
use Rattle.lpis_cutter.proofs.separator.edge_between.Goals as goal

clash : (b : Bool) → b ≡ true → b ≡ false → ⊥
clash b e f = cc

pub loop-k-preserved : goal.loop-k-preserved
loop-k-preserved c = below_more (λ (m : ℕ). EdgeSeparates m c.args.own.now c.args.other.now → ⊥) c.loop-k.k c.loop-k.invariant
    (λ e. clash c.has_on_right.result (c.has_on_right.ensures e) c.if-has_on_right.false)
