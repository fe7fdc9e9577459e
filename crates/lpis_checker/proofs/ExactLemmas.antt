-- What exact blocks show of turns.
use Rattle.std.proofs.Common.{◌<◌, List, All, arith, slice_get}
use Rattle.lpis_edge_sums.specs.Making.{TurnsAsParts}
use Rattle.lpis_edge_sums.proofs.Shared.{all_from, turns_as_parts}
use Rattle.lpis_cert.specs.declared.part.ExactBlock.{ExactBlock}
use Rattle.lpis_checker.proofs.SiteLemmas.{both_hold, part_beside}
use Rattle.lpis_checker.specs.ExactBlocks.{ShowExact, order_of}
use Rattle.lpis_checker.specs.private.ExactSearches.{ExactBelow}
use Rattle.lpis_checker.specs.declared.exact.ExactPart.{ExactPart}
use Rattle.lpis_checker.specs.declared.exact.ExactCondition.{ExactCondition}
use Rattle.lpis_checker.specs.declared.exact.ExactCondition.TheVariants.{Flats, Edges}

-- all four conditions
below_4 : (q : ExactCondition) → order_of q < 4
below_4 Edges = omega arith
below_4 _ = omega arith

-- where the four conditions on exact blocks hold, these show that each whole is made up of its parts
pub all_shown : (bs : List ExactBlock) (xs : List ExactPart) → ExactBelow bs xs 4 → ShowExact bs xs
all_shown bs xs below = record { holds = λ q k. below.holds q k (below_4 q) }

-- where exact blocks show it, each whole turns round each point as often as its parts together
pub shown_turns : (bs : List ExactBlock) (xs : List ExactPart) → ShowExact bs xs → All (λ (x : ExactPart). TurnsAsParts x.whole x.parts) xs
shown_turns bs xs s = all_from (λ (x : ExactPart). TurnsAsParts x.whole x.parts) xs (λ k x e.
    let b = part_beside _ (slice_get xs k) (slice_get bs k) x (s.holds Flats k) e in
    turns_as_parts x.whole x.parts b.0.flats b.2 (both_hold _ (slice_get xs k) (slice_get bs k) x b.0 (s.holds Edges k) e b.1))
