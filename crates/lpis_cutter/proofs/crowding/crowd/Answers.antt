use Rattle.std.proofs.Common.{ℕ, List, inr, sym, subst}
use Rattle.lpis_cutter.specs.Refusals.{StandsAt}
use Rattle.lpis_cutter.proofs.crowding.crowd.Goals as goal

pub returns : goal.returns
returns c = inr (record {
  cert = c.args.cert.now;
  parts = c.requires.parts;
  near = c.requires.near;
  line = c.args.line.now;
  behind = c.requires.at;
  s = c.args.first.1.now;
  t = c.args.second.1.now;
  of_first =
      subst (λ (id : List ℕ). StandsAt c.args.cert.now.pieces c.args.line.now.i id c.args.first.1.now) (sym c.in_ok-left.ensures)
      c.requires.of_first;
  of_second =
      subst (λ (id : List ℕ). StandsAt c.args.cert.now.pieces c.args.line.now.j id c.args.second.1.now) (sym c.in_ok-right.ensures)
      c.requires.of_second;
})
