use Rattle.std.proofs.Common.{ℕ, get_or, List, sym, subst}
use Rattle.lpis_checker.proofs.Common.{slice_get-get_or, PairLine}
use Rattle.lpis_edge_sums.proofs.Shared.{untrue}
use Rattle.lpis_checker.specs.private.Naming.{NamesAt}
use Rattle.lpis_checker.proofs.PairLineLemmas.{skips_over, walk_more, walk_all, walk_fault}
use Rattle.lpis_checker.proofs.near_pairs.unnamed_pair.Goals as goal

pub loop-i-preserved : goal.loop-i-preserved
loop-i-preserved c =
    let cert = c.args.cert.now in
    let near = c.args.near.now in
    let next = c.skip_to-at.result in
    let p : ℕ × ℕ = get_or near c.loop-i.i-index (0, 0) in
    let at = slice_get-get_or near c.loop-i.i-index (0, 0) c.loop-i-test.true in
    let skips = skips_over cert c.as_slice-lines.result.now c.loop-i.at next p.0 p.1 c.as_slice-lines.ensures c.skip_to-at.ensures.high c.skip_to-at.ensures.before c.skip_to-at.ensures.stop in
    let named = subst (λ (lines : List PairLine). NamesAt lines next p.0 p.1) c.as_slice-lines.ensures (c.names_at.ensures.0 c.if-not-names_at.false) in
    walk_more cert c.args.triangles.now near c.requires.near c.loop-i.at next c.loop-i.i-index p c.loop-i.invariant at skips named

pub returns-then-not-names_at : goal.returns-then-not-names_at
returns-then-not-names_at c =
    let cert = c.args.cert.now in
    let near = c.args.near.now in
    let next = c.skip_to-at.result in
    let p : ℕ × ℕ = get_or near c.loop-i.i-index (0, 0) in
    let at = slice_get-get_or near c.loop-i.i-index (0, 0) c.loop-i-test.true in
    let skips = skips_over cert c.as_slice-lines.result.now c.loop-i.at next p.0 p.1 c.as_slice-lines.ensures c.skip_to-at.ensures.high c.skip_to-at.ensures.before c.skip_to-at.ensures.stop in
    let unnamed : NamesAt cert.pairs next p.0 p.1 → ⊥ = λ h. untrue c.names_at.result c.names_at.ensures
    c.if-not-names_at.true (subst (λ (lines : List PairLine). NamesAt lines next p.0 p.1)
    (sym c.as_slice-lines.ensures) h) in
    walk_fault c.args.release.now cert c.args.triangles.now near c.requires.ordered c.requires.numbered c.requires.near c.loop-i.at next c.loop-i.i-index p c.loop-i.invariant at skips unnamed

pub returns : goal.returns
returns c =
    walk_all c.args.release.now c.args.cert.now c.args.triangles.now c.args.near.now c.requires.numbered
    c.requires.near c.loop-i.at c.loop-i.i-index c.loop-i-test.false c.loop-i.invariant
