-- What a text says: a polygon, or its first fault.
use Rattle.std.specs.Prelude.{ℕ, List, Option, Some, None}
use Rattle.lpis_memory.specs.Memory.{UnlessMemory}
use Rattle.lpis_rings.specs.declared.polygon.Member.{Member}
use Rattle.lpis_wkt.specs.declared.fault.WktCode.{WktCode}
use Rattle.lpis_wkt.specs.declared.fault.WktFault.{WktFault}
use Rattle.lpis_wkt.specs.declared.fault.WktFault.TheVariants.{Memory, At}
use Rattle.lpis_wkt.specs.Tokens.{tokens, kinds}
use Rattle.lpis_wkt.specs.Grammar.{Accepts}
use Rattle.lpis_wkt.specs.Table.{FirstFault}

-- the bytes of a text spell the polygon of these members
unfoldable pub PolygonText : List ℕ → List Member → Type 0
PolygonText text members = Accepts (kinds (tokens text)) members

-- the first fault of a text has this code, and stands at this offset in bytes
unfoldable pub TextFault : List ℕ → WktCode → ℕ → Type 0
TextFault text code offset = FirstFault (tokens text) code offset

-- what a fault reports: its code, and its offset in bytes
abbrev pub wkt_fault_reported : WktFault → Option (WktCode × ℕ)
wkt_fault_reported Memory = None
wkt_fault_reported (At code offset) = Some (code, offset)

-- a fault that is not of memory is the first of the text
abbrev pub IsTextFault : List ℕ → WktFault → Type 0
IsTextFault text fault =
    UnlessMemory (λ (r : WktCode × ℕ). TextFault text r.0 r.1) (wkt_fault_reported fault)
