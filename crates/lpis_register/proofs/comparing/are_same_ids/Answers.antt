use Rattle.std.proofs.Common.{◌≡◌, ◌↔◌, IsTrue, false, rules}
use Rattle.lpis_register.proofs.ComparingLemmas.{same_ids}
use Rattle.lpis_register.proofs.comparing.are_same_ids.Goals as goal

pub returns-then-ne-clause-alike : goal.returns-then-ne-clause-alike
returns-then-ne-clause-alike c alike =
    let equal : IsTrue false ↔ (c.args.a.now ≡ c.args.b.now) = search rules in
    equal.1 (same_ids c.args.a.now c.args.b.now c.iter-id-items.ensures.ascending c.iter-rest.ensures.ascending alike)

pub returns-clause-alike : goal.returns-clause-alike
returns-clause-alike c alike =
    let equal : IsTrue c.is_none.result ↔ (c.args.a.now ≡ c.args.b.now) = search rules in
    equal.1 (same_ids c.args.a.now c.args.b.now c.iter-id-items.ensures.ascending c.iter-rest.ensures.ascending alike)
