-- What a text says, as a function.
use Rattle.std.specs.Prelude.{ℕ, List, Result}
use Rattle.lpis_rings.specs.declared.polygon.Member.{Member}
use Rattle.lpis_wkt.specs.declared.fault.WktCode.{WktCode}
use Rattle.lpis_wkt.specs.declared.fault.WktFault.{WktFault}
use Rattle.lpis_memory.specs.Memory.{AnswersSame}
use Rattle.lpis_wkt.specs.Text.{wkt_fault_reported}
use Rattle.lpis_wkt.specs.Tokens.{tokens}
use Rattle.lpis_wkt.specs.private.Machine.{AtKeyword, parse_outcome, parse_answer}

-- the polygon that a text spells, or the code and the offset of its first fault: it is tied by the
-- law `function_of_text`
unfoldable pub polygon_of : List ℕ → Result (List Member) (WktCode × ℕ)
polygon_of text = parse_answer (parse_outcome AtKeyword (tokens text))

-- a call answered what the text says, unless memory ran out
abbrev pub Gives : Result (List Member) WktFault → Result (List Member) (WktCode × ℕ) → Type 0
Gives answer says = AnswersSame wkt_fault_reported says answer
