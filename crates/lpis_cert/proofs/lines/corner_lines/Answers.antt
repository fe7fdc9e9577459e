use Rattle.std.proofs.Common.{◌≡◌, ◌+◌, ◌++◌, ◌∷◌, [], ap, ◌∙◌, length-append, refl, ℕ}
use Rattle.lpis_cert.proofs.Common.{err_from_is_err_and, length-map, corner_numbers, triangle_corners}
use Rattle.lpis_cert.proofs.StepLemmas.{follows_none}
use Rattle.lpis_cert.proofs.BlockLemmas.{corner_fault, corner_more}
use Rattle.lpis_cert.proofs.lines.corner_lines.Goals as goal

pub loop-init : goal.loop-init
loop-init c =
    let none = c.clear.ensures.items in
    rw none (record { follows = follows_none c.args.version c.args.rest.text.now c.args.rest.line; count = refl })

pub returns-in_err-triangle-clause-err : goal.returns-in_err-triangle-clause-err
returns-in_err-triangle-clause-err c =
    let p = err_from_is_err_and c.from_residual.result c.from_residual.ensures.1 in
    let ts = c.loop.scratch.items in
    rw (p.1, p.2) (corner_fault c.in_err-triangle.field-0.0 c.args.flat (triangle_corners ts) c.args.count c.loop.counter
    c.loop-test.true (length-map ts corner_numbers ∙ c.loop.invariant.count) c.loop.invariant.follows c.in_err-triangle.ensures)

pub loop-preserved : goal.loop-preserved
loop-preserved c =
    let ts = c.loop.scratch.items in
    let t = c.in_ok-triangle.triangle in
    let e : c.push.new.self.items ≡ ts ++ t ∷ [] = c.in_ok-push.ensures.items in
    rw e (record {
      follows = corner_more c.args.flat ts t c.loop.invariant.follows c.in_ok-triangle.ensures;
      count = length-append ts (t ∷ []) ∙ ap (λ (k : ℕ). k + 1) c.loop.invariant.count;
    })
