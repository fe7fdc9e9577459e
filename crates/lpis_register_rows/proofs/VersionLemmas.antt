-- Which version tables tell.
use Rattle.std.proofs.Common.{◌≡◌, ◌∙◌, [], ◌∷◌, ℤ, pos, List, ap, arith, refl, subst, sym}
use Rattle.lpis_register_rows.proofs.Common.{Content, Entry, only_format}
use Rattle.lpis_register_rows.specs.Content.{Format}
use Rattle.lpis_register_rows.specs.Histories.{TablesHave}
use Rattle.lpis_register_rows.specs.declared.version.Version.{Version}
use Rattle.lpis_register_rows.specs.declared.version.Version.TheVariants.{First, Second, Third}
use Rattle.lpis_register_rows.specs.private.Known.{number_of}

-- tables of a version have its row
pub told_formats : (version : Version) (c : Content) (h : List Entry) → TablesHave version c h → c.formats ≡ only_format (number_of version)
told_formats First c h t = t.formats_are
told_formats Second c h t = t.formats_are
told_formats Third c h t = t.formats_are

abbrev version_in : List Format → ℤ
version_in [] = pos 0
version_in (f ∷ fs) = f.version

one_version : (v w : Version) → number_of v ≡ number_of w → v ≡ w
one_version First First e = refl
one_version Second Second e = refl
one_version Third Third e = refl
one_version First Second e = absurd (omega (arith, e))
one_version First Third e = absurd (omega (arith, e))
one_version Second First e = absurd (omega (arith, e))
one_version Second Third e = absurd (omega (arith, e))
one_version Third First e = absurd (omega (arith, e))
one_version Third Second e = absurd (omega (arith, e))

-- so a history that tables say is said as the version that they tell
pub told_once : (v version : Version) (c : Content) (h : List Entry) → c.formats ≡ only_format (number_of v) → TablesHave version c h → TablesHave v c h
told_once v version c h is t =
    let same : pos (number_of version) ≡ pos (number_of v) = ap version_in (sym (told_formats version c h t) ∙ is) in
    subst (λ (w : Version). TablesHave w c h) (one_version version v cc) t
