-- Why the files before the regions are not prepared.
use Rattle.std.specs.Prelude.{◌≡◌}
use Rattle.lpis_run.specs.CheckAnswer.{Answer}
use Rattle.lpis_run.specs.declared.failure.Failure.TheVariants.{Memory as NoMemory}
use Rattle.lpis_run.specs.declared.stop.Stop.{Stop}
use Rattle.lpis_run.specs.declared.stop.Stop.TheVariants as stop
use Rattle.lpis_run.specs.declared.failure.Failure.{Failure}
use Rattle.lpis_run_publish_country.specs.declared.unprepared.Unprepared.{Unprepared}
use Rattle.lpis_run_publish_country.specs.declared.unprepared.Unprepared.TheVariants.{Failed}
use Rattle.lpis_run_publish_country.specs.declared.unprepared.Unprepared.TheVariants.{Refused}

-- the run failed so, or the answer is one of these
abbrev pub IsUnprepared : (Failure → Type 0) → (Answer → Type 0) → Unprepared → Type 0
IsUnprepared Fails Is (Failed f) = Fails f
IsUnprepared Fails Is (Refused a) = Is (a.text.items, a.status)

-- what a step stops with: memory ran out, or the same answer refuses
abbrev pub IsOfStop : Stop → Unprepared → Type 0
IsOfStop stop.Memory e = e ≡ Failed NoMemory
IsOfStop (stop.Refused a) e = e ≡ Refused a
