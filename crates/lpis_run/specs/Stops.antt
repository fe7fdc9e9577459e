-- What a step of a run answers where it gives nothing.
use Rattle.std.specs.Prelude.{◌≡◌, ℕ, List}
use Rattle.lpis_run.specs.CheckAnswer.{Answer}
use Rattle.lpis_run.specs.Refusals.{line_in_region}
use Rattle.lpis_run.specs.declared.stop.Stop.{Stop}
use Rattle.lpis_run.specs.declared.stop.Stop.TheVariants.{Memory, Refused}

-- memory ran out, or the answer is one of these
abbrev pub IsRefusedAs : (Answer → Type 0) → Stop → Type 0
IsRefusedAs Is Memory = Unit {0}
IsRefusedAs Is (Refused a) = Is (a.text.items, a.status)

-- the line of a stop with a region at its end, or memory ran out
abbrev pub IsInRegion : Stop → List ℕ → Stop → Type 0
IsInRegion stop region Memory = Unit {0}
IsInRegion Memory region (Refused b) = ⊥
IsInRegion (Refused a) region (Refused b) =
    (b.text.items ≡ line_in_region a.text.items region) × (b.status ≡ a.status)
