-- The bytes that a check has read, and what they say.
use Rattle.std.specs.Prelude.{◌≡◌, ℕ, List, Ok, Option, None, Some, Vec}
use Rattle.std.specs.declared.alloc.Global.{Global}
use Rattle.lpis_cert.specs.Contents.{IsCertText}
use Rattle.lpis_cert.specs.declared.cert.Cert.{Cert}
use Rattle.lpis_release.specs.Release.{Contents}
use Rattle.lpis_run.specs.CheckAnswer.{Inputs, release_in}
use Rattle.lpis_run.specs.Folders.{folder_by, tables_by, top_by}
use Rattle.lpis_run.specs.declared.folder.Folder.{Folder}
use Rattle.lpis_run.specs.declared.folder.Tables.{Tables}
use Rattle.lpis_run.specs.declared.folder.Top.{Top}

abbrev pub tables_of : Tables (Vec ℕ Global) → Tables (List ℕ)
tables_of = tables_by (λ v. v.items)

abbrev pub inputs_of : Folder (Vec ℕ Global) → Inputs
inputs_of = folder_by (λ v. v.items)

abbrev pub top_of : Top (Vec ℕ Global) → Top (List ℕ)
top_of = top_by (λ v. v.items)

-- a text says a certificate, where one is named
abbrev pub IsNamed : Option (List ℕ) → Option Cert → Type 0
IsNamed None None = Unit {0}
IsNamed (Some text) (Some c) = IsCertText text c
IsNamed _ _ = ⊥

-- tables and a text say a release and, where one is named, a certificate
abbrev pub Say : Inputs → Contents → Option Cert → Type 0
Say x r named = (release_in x.tables ≡ Ok r) × IsNamed x.cert named

-- the certificate that is named is used; where none is, any
abbrev pub IsTaken : Option Cert → Cert → Type 0
IsTaken None c = Unit {0}
IsTaken (Some k) c = c ≡ k
