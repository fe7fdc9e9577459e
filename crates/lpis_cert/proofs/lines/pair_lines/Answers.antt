use Rattle.std.proofs.Common.{◌≡◌, ◌+◌, ◌++◌, ◌∷◌, [], map, ap, ◌∙◌, length-append, refl, ℕ}
use Rattle.lpis_cert.proofs.Common.{err_from_is_err_and, length-map, separator_of}
use Rattle.lpis_cert.proofs.StepLemmas.{follows_none}
use Rattle.lpis_cert.proofs.BlockLemmas.{pair_fault, pair_more, separators_fit}
use Rattle.lpis_cert.proofs.lines.pair_lines.Goals as goal

pub loop-init : goal.loop-init
loop-init c =
    let none = c.new-pairs.ensures.items in
    rw none (record { follows = follows_none c.args.version c.args.rest.text.now c.args.rest.line; count = refl })

pub returns-in_err-pair-clause-err : goal.returns-in_err-pair-clause-err
returns-in_err-pair-clause-err c =
    let p = err_from_is_err_and c.from_residual.result c.from_residual.ensures.1 in
    let ts = c.loop.pairs.items in
    rw (p.1, p.2) (pair_fault c.in_err-pair.field-0.0 (map separator_of ts) c.args.count c.loop.counter
    (separators_fit ts) c.loop-test.true (length-map ts separator_of ∙ c.loop.invariant.count) c.loop.invariant.follows c.in_err-pair.ensures)

pub loop-preserved : goal.loop-preserved
loop-preserved c =
    let ts = c.loop.pairs.items in
    let t = c.in_ok-pair.pair in
    let e : c.push.new.self.items ≡ ts ++ t ∷ [] = c.in_ok-push.ensures.items in
    rw e (record {
      follows = pair_more ts t c.loop.invariant.follows c.in_ok-pair.ensures;
      count = length-append ts (t ∷ []) ∙ ap (λ (k : ℕ). k + 1) c.loop.invariant.count;
    })

pub returns-clause-ok : goal.returns-clause-ok
returns-clause-ok c = let same = c.in_ok-without_spare.ensures in rw same c.loop.invariant.follows
