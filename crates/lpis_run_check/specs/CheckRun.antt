-- The run of a check.
use Rattle.std.specs.Prelude.{◌≡◌}
use Rattle.lpis_run.specs.CheckAnswer.{Answer, AreRead, IsAnswer, IsProved}
use Rattle.lpis_run.specs.Run.{OfRead}
use Rattle.lpis_run.specs.Status.{done}
use Rattle.lpis_run.specs.Streams.{Known}
use Rattle.lpis_run.specs.declared.folder.Folder.{Folder}

-- a run that checks: this is an answer to what the readers reported, as far as it is known; a yes
-- comes only for a release that is a sound map, and a certificate that is good for it
abbrev pub Checks : Folder Known → Answer → Type 0
Checks given a = OfRead AreRead given (λ x. IsAnswer x a × (a.1 ≡ done → IsProved x))
