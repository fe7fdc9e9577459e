-- What the text of a certificate was read as.
use Rattle.std.specs.Prelude.{ℕ, List, Option, None, Some, Result, Ok, Err}
use Rattle.lpis_cert.specs.Contents.{IsCertText}
use Rattle.lpis_cert.specs.Faults.{IsFirstFault}
use Rattle.lpis_cert.specs.declared.cert.Cert.{Cert}
use Rattle.lpis_cert.specs.declared.fault.CertFault.{CertFault}

-- what a text was read as: the certificate whose text it is, or its first fault
abbrev pub IsReadAs : List ℕ → Result Cert CertFault → Type 0
IsReadAs text (Ok c) = IsCertText text c
IsReadAs text (Err fault) = IsFirstFault fault text

-- so it is of one that may be left out
abbrev pub IsReadIfAnyAs : Option (List ℕ) → Option (Result Cert CertFault) → Type 0
IsReadIfAnyAs None None = Unit {0}
IsReadIfAnyAs (Some text) (Some read) = IsReadAs text read
IsReadIfAnyAs _ _ = ⊥
