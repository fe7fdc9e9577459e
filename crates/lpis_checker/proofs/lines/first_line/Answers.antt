use Rattle.std.proofs.Common.{◌<◌, ◌≤◌, length, List, subst}
use Rattle.lpis_checker.proofs.Common.{PairLine}
use Rattle.lpis_checker.specs.GoodCertificate.{OfLine, OfTriangles, OnLine}
use Rattle.lpis_checker.proofs.SiteLemmas.{all_lines, of_line, holds_below_next, read_at}
use Rattle.lpis_checker.proofs.lines.first_line.Goals as goal

pub loop-index-preserved : goal.loop-index-preserved
loop-index-preserved c =
    let cert = c.args.cert.now in
    let line = c.index-lines-index.result in
    let at = read_at c.as_slice-lines.result.now cert.pairs c.loop-index.index line c.as_slice-lines.ensures
    (subst (λ (lines : List PairLine). c.loop-index.index < length lines) c.as_slice-lines.ensures c.loop-index-test.true) c.index-lines-index.is in
    let says = of_line cert (λ (l : PairLine). OfTriangles c.args.triangles.now l (OnLine c.args.condition l)) c.holds_of_line.result c.loop-index.index line at c.holds_of_line.ensures in
    holds_below_next (λ m. OfLine cert m (λ (l : PairLine). OfTriangles c.args.triangles.now l (OnLine c.args.condition l)))
    c.loop-index.index (says.0 c.if-not-holds_of_line.false) c.loop-index.invariant

pub returns : goal.returns
returns c =
    all_lines c.args.cert.now (λ m (l : PairLine). OfTriangles c.args.triangles.now l (OnLine c.args.condition l)) c.loop-index.index
    (subst (λ (lines : List PairLine). length lines ≤ c.loop-index.index) c.as_slice-lines.ensures c.loop-index-test.false) c.loop-index.invariant
