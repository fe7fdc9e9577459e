use Rattle.std.proofs.Common.{inl}
use Rattle.std.proofs.lemmas.Result.{IfOk-weaker}
use Rattle.lpis_cutter.proofs.uneven.do_make_up.Goals as goal

pub returns-clause-made : goal.returns-clause-made
returns-clause-made c = IfOk-weaker c.is_even.result _ _ (λ b told is. inl (told.0 is)) c.is_even.ensures
