use Rattle.std.proofs.Common.{◌≡◌, ◌≤◌, ℕ, length, List, ap, ◌∙◌, arith}
use Rattle.lpis_rings.proofs.Common.{Point, Member, edges_of}
use Rattle.lpis_rings.proofs.EdgeCountLemmas.{edges_few}
use Rattle.lpis_rings.proofs.crossings.edges.Goals as goal

at_most : (n m k l : ℕ) → n ≡ m → m ≤ k → k ≤ l → n ≤ l
at_most n m k l e h i = omega arith

pub returns-clause-few : goal.returns-clause-few
returns-clause-few c =
    at_most _ _ _ _
    (ap (λ (es : List (Point × Point)). length es) (c.of_members.ensures ∙ ap (λ (ms : List Member). edges_of ms) c.members.ensures.same))
    (edges_few c.args.polygon.now) c.members.ensures.polygon.few
