use Rattle.std.proofs.Common.{inr}
use Rattle.std.proofs.lemmas.Result.{IfErr-weaker, IfOk-weaker}
use Rattle.lpis_run_country.proofs.folder.read_region_files.Goals as goal

pub returns-clause-bytes : goal.returns-clause-bytes
returns-clause-bytes g c = IfOk-weaker c.read_opened.result _ _ (λ i read. (_, c.in_ok-folder.ensures.given, read)) c.read_opened.ensures.bytes

pub returns-clause-failure : goal.returns-clause-failure
returns-clause-failure g c = IfErr-weaker c.read_opened.result _ _ (λ failure unread. inr (_, c.in_ok-folder.ensures.given, unread)) c.read_opened.ensures.failure
