use Rattle.lpis_pairs.specs.NearPairs.{seen}
use Rattle.lpis_checker.proofs.SeenLemmas.{good_line, seen_at, turned_at}
use Rattle.lpis_checker.proofs.lines.is_good_line.Goals as goal

pub holds_of_two-requires-clause-first_turned : goal.holds_of_two-requires-clause-first_turned
holds_of_two-requires-clause-first_turned c =
    turned_at (seen c.args.triangles.now) c.args.line.now.i c.in-Some-Some.first.now.now c.requires
    (seen_at c.args.triangles.now c.args.line.now.i c.in-Some-Some.first.now (rw c.in-Some-Some.is-0 at c.get.ensures.lookup).3.0 c.in-Some-Some.ensures.lookup.1)

pub holds_of_two-requires-clause-second_turned : goal.holds_of_two-requires-clause-second_turned
holds_of_two-requires-clause-second_turned c =
    turned_at (seen c.args.triangles.now) c.args.line.now.j c.in-Some-Some.second.now.now c.requires
    (seen_at c.args.triangles.now c.args.line.now.j c.in-Some-Some.second.now (rw c.in-Some-Some.is-1 at c.get-2.ensures.lookup).3.0 c.in-Some-Some.ensures'.lookup.1)

pub holds_of_two-requires-then-holds_of_two-clause-first_turned : goal.holds_of_two-requires-then-holds_of_two-clause-first_turned
holds_of_two-requires-then-holds_of_two-clause-first_turned c =
    turned_at (seen c.args.triangles.now) c.args.line.now.i c.in-Some-Some.first.now.now c.requires
    (seen_at c.args.triangles.now c.args.line.now.i c.in-Some-Some.first.now (rw c.in-Some-Some.is-0 at c.get.ensures.lookup).3.0 c.in-Some-Some.ensures.lookup.1)

pub holds_of_two-requires-then-holds_of_two-clause-second_turned : goal.holds_of_two-requires-then-holds_of_two-clause-second_turned
holds_of_two-requires-then-holds_of_two-clause-second_turned c =
    turned_at (seen c.args.triangles.now) c.args.line.now.j c.in-Some-Some.second.now.now c.requires
    (seen_at c.args.triangles.now c.args.line.now.j c.in-Some-Some.second.now (rw c.in-Some-Some.is-1 at c.get-2.ensures.lookup).3.0 c.in-Some-Some.ensures'.lookup.1)

pub returns-then-holds_of_two : goal.returns-then-holds_of_two
returns-then-holds_of_two c = λ h.
    good_line (seen c.args.triangles.now) c.args.line.now c.in-Some-Some.first.now.now c.in-Some-Some.second.now.now
    (seen_at c.args.triangles.now c.args.line.now.i c.in-Some-Some.first.now (rw c.in-Some-Some.is-0 at c.get.ensures.lookup).3.0 c.in-Some-Some.ensures.lookup.1)
    (seen_at c.args.triangles.now c.args.line.now.j c.in-Some-Some.second.now (rw c.in-Some-Some.is-1 at c.get-2.ensures.lookup).3.0 c.in-Some-Some.ensures'.lookup.1)
    (c.holds_of_two.ensures.0 c.if-holds_of_two.true) (c.holds_of_two-then-holds_of_two.ensures.0 h)
