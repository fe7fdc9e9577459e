-- A field that is to be the text of a polygon.
use Rattle.std.proofs.Common.{◌≡◌, ℕ, List, Bool, true, false, Some, Ok, Err, refl, IsUtf8}
use Rattle.lpis_tables.proofs.Common.{Table, At, polygon_in, unless_faulty}
use Rattle.std.specs.Str.{is_utf8}
use Rattle.std.proofs.lemmas.Str.{IsUtf8-from_is_utf8, is_utf8-from_IsUtf8}
use Rattle.lpis_rings.specs.declared.polygon.Member.{Member}
use Rattle.lpis_wkt.specs.declared.fault.WktCode.{WktCode}
use Rattle.lpis_wkt.specs.declared.fault.WktFault.TheVariants.{At as In}
use Rattle.lpis_wkt.specs.Answer.{polygon_of}
use Rattle.lpis_tables.specs.declared.fault.TableCode.TheVariants.{NotCsv, BadGeometry}
use Rattle.lpis_tables.specs.Faults.{polygon_faults}
use Rattle.lpis_tables.specs.Table.{fault_at}

not-utf8 : (bs : List ℕ) → ¬ (IsUtf8 bs) → is_utf8 bs ≡ false
not-utf8 bs none = by (is_utf8 bs) refl where
  by : (b : Bool) → is_utf8 bs ≡ b → is_utf8 bs ≡ false
  by true e = absurd (none (IsUtf8-from_is_utf8 bs e))
  by false e = e

-- a field for a polygon that is not UTF-8 has the fault of a text that is no CSV
pub field-no-text : (table : Table) (n : ℕ) (field text : List ℕ) (v : List Member) → text ≡ field → ¬ (IsUtf8 text) → unless_faulty (polygon_faults table n field) v ≡ Err (fault_at NotCsv table n)
field-no-text table n field text v e none = rw (← e, not-utf8 text none) refl

-- a field of UTF-8 that spells a polygon has no fault, and its value is the polygon
pub field-polygon : (table : Table) (n : ℕ) (field text : List ℕ) (members : List Member) → text ≡ field → IsUtf8 text → polygon_of text ≡ Ok members
    → unless_faulty (polygon_faults table n field) (polygon_in field) ≡ Ok members
field-polygon table n field text members e utf8 p = rw (← e, is_utf8-from_IsUtf8 text utf8, p) refl

-- a field of UTF-8 that spells no polygon has the fault of a bad geometry, with the fault of its text
pub field-no-polygon : (table : Table) (n : ℕ) (field text : List ℕ) (v : List Member) (code : WktCode) (offset : ℕ) → text ≡ field → IsUtf8 text → polygon_of text ≡ Err (code, offset)
    → unless_faulty (polygon_faults table n field) v ≡ Err (At BadGeometry table n (Some (In code offset)))
field-no-polygon table n field text v code offset e utf8 p = rw (← e, is_utf8-from_IsUtf8 text utf8, p) refl
