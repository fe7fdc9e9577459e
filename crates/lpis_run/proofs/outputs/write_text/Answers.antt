use Rattle.std.proofs.Common.{◌≡◌, ◌-◌, length, take, drop, arith}
use Rattle.std.proofs.lemmas.List.{length-drop, take_all}
use Rattle.lpis_run.proofs.WriteLemmas.{begun_more}
use Rattle.lpis_run.proofs.outputs.write_text.Goals as goal

pub loop-preserved : goal.loop-preserved
loop-preserved g c =
    let text = c.args.text.now in
    let written = c.loop.written in
    let long = length-drop written text in
    let before = c.loop.invariant.0 in
    let rest : take (length text - written) (drop written text) ≡ drop written text = take_all _ _ (omega arith) in
    let within = rw rest at c.in-Some.ensures.within in (
      omega arith,
      begun_more text written c.in-Some.count _ _ _ c.loop.invariant.1 (rw rest at c.in-Some.ensures.taken),
    )
