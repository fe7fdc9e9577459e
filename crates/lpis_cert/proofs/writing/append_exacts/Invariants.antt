use Rattle.std.proofs.Common.{◌≡◌, ◌++◌, take, flat_map}
use Rattle.lpis_cert.specs.private.Written.{exact_block_text}
use Rattle.lpis_cert.proofs.writing.append_exacts.Given as goal

abbrev pub invariant-loop-block : goal.invariant-loop-block
invariant-loop-block l = l.out.items ≡ l.fn.out.items ++ flat_map exact_block_text (take l.block-index l.blocks)
