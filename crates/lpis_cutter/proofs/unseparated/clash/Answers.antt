use Rattle.std.proofs.Common.{ℕ, List, inl, sym, subst}
use Rattle.lpis_cutter.specs.Refusals.{StandsAt}
use Rattle.lpis_cutter.proofs.unseparated.clash.Goals as goal

pub returns : goal.returns
returns c = inl (record {
  cert = c.args.cert.now;
  parts = c.requires.parts;
  i = c.args.numbers.0;
  j = c.args.numbers.1;
  s = c.args.first.1.now;
  t = c.args.second.1.now;
  two = c.requires.two;
  of_first =
      subst (λ (id : List ℕ). StandsAt c.args.cert.now.pieces c.args.numbers.0 id c.args.first.1.now) (sym c.in_ok-left.ensures)
      c.requires.of_first;
  of_second =
      subst (λ (id : List ℕ). StandsAt c.args.cert.now.pieces c.args.numbers.1 id c.args.second.1.now) (sym c.in_ok-right.ensures)
      c.requires.of_second;
  near = c.requires.near;
  none = c.requires.none;
})
