use Rattle.std.proofs.Common.{◌≡◌, ◌+◌, All, length, map, take, sum_by}
use Rattle.lpis_checker.specs.ExactBlocks.{block_name, part_name}
use Rattle.lpis_run_publish.proofs.BlocksLemmas.{HasFlats}
use Rattle.lpis_run_publish.proofs.blocks.blocks_of.Given as goal

-- the first parts have their blocks, and these their flats
abbrev pub invariant-loop-part : goal.invariant-loop-part
invariant-loop-part l = record {
  shown : All HasFlats (take l.part-index l.parts);
  names : map block_name l.blocks.items ≡ map part_name (take l.part-index l.parts);
  few : sum_by (λ b. length b.flats) l.blocks.items + l.left ≡ l.most;
}
