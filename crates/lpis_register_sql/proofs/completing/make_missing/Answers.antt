use Rattle.std.proofs.Common.{arith, length, refl, ◌<◌}
use Rattle.lpis_register_sql.specs.Making.{unless}
use Rattle.lpis_register_sql.proofs.MakingLemmas.{all_made, part_fails, part_made}
use Rattle.lpis_register_sql.proofs.completing.make_missing.Goals as goal

pub loop-statement-preserved : goal.loop-statement-preserved
loop-statement-preserved g c =
    let low : c.loop-statement.statement-index < length c.args.statements.now = omega arith in
    record {
      same_reference = cc;
      makes = part_made (λ it. unless it.0 it.1.now) c.args.statements.now c.loop-statement.statement-index _ _ low refl c.loop-statement.invariant.makes
          c.in_ok-make_unless.ensures.makes;
    }

pub returns-clause-makes : goal.returns-clause-makes
returns-clause-makes g c = all_made (λ it. unless it.0 it.1.now) c.args.statements.now c.loop-statement.statement-index (omega arith) c.loop-statement.invariant.makes

pub returns-in_err-make_unless-clause-makes : goal.returns-in_err-make_unless-clause-makes
returns-in_err-make_unless-clause-makes g c =
    let low : c.loop-statement.statement-index < length c.args.statements.now = omega arith in
    part_fails (λ it. unless it.0 it.1.now) c.args.statements.now c.loop-statement.statement-index _ _ low refl c.from_residual.ensures.1
    c.loop-statement.invariant.makes c.in_err-make_unless.ensures.makes
