-- What is known of the file at a path, and what opening it comes to.
use Rattle.std.specs.Prelude.{◌≡◌, Bool, true, false, ℕ, List, None, Some}
use Rattle.lpis_run.specs.Streams.{Known}
use Rattle.lpis_perform.specs.declared.machine.Opened.{Opened}
use Rattle.lpis_perform.specs.declared.machine.Opened.TheVariants.{File, Missing, Failed}

-- what is known to stand at a path: nothing is known; a file of these bytes; no file; or one that
-- cannot be opened
pub data Standing : Type 0 where
  Unknown : Standing
  Holds : List ℕ → Standing
  Absent : Standing
  Locked : Standing

-- its bytes, as far as they are known
abbrev pub known : Standing → Known
known (Holds bytes) = Some bytes
known _ = None

-- it may be opened
abbrev pub MayOpen : Standing → Type 0
MayOpen Absent = ⊥
MayOpen Locked = ⊥
MayOpen _ = Unit {0}

-- there may be none
abbrev pub MayBeAbsent : Standing → Type 0
MayBeAbsent Unknown = Unit {0}
MayBeAbsent Absent = Unit {0}
MayBeAbsent _ = ⊥

-- there may be none, or it may fail to be opened
abbrev pub may_fail : Standing → Bool
may_fail (Holds bytes) = false
may_fail _ = true

-- opening it came to this: a file whose reader gives these bytes, none, or a failure
abbrev pub Opens : {F : Type 0} → (F → Known) → Standing → Opened F → Type 0
Opens remaining standing (File f) = (remaining f ≡ known standing) × MayOpen standing
Opens remaining standing Missing = MayBeAbsent standing
Opens remaining standing Failed = may_fail standing ≡ true
