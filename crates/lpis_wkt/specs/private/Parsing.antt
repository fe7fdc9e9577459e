-- The parser's values, as the machine's states.
use Rattle.std.specs.Prelude.{◌≡◌, ℕ, ◌+◌, ◌<◌, ◌≤◌, true, List, [], ◌++◌, length, Result, Ok, Err}
use Rattle.lpis_memory.specs.Memory.{AnswersUnless}
use Rattle.lpis_points.specs.declared.point.Point.{Point}
use Rattle.lpis_rings.specs.declared.polygon.Member.{Member}
use Rattle.lpis_rings.specs.Polygon.{most_points}
use Rattle.lpis_wkt.specs.declared.fault.WktCode.{WktCode}
use Rattle.lpis_wkt.specs.declared.fault.WktFault.{WktFault}
use Rattle.lpis_wkt.specs.declared.parser.Expecting.{Expecting}
use Rattle.lpis_wkt.specs.declared.parser.Expecting.TheVariants as expecting
use Rattle.lpis_wkt.specs.private.Machine.{Context, ParserState, AtKeyword, AfterKeyword, AtBody}
use Rattle.lpis_wkt.specs.private.Machine.{AtRing}
use Rattle.lpis_wkt.specs.private.Machine.{AtX, AtY, AfterPoint, AfterRing, AfterBody, AtEnd}
use Rattle.lpis_wkt.specs.private.Machine.{Finished, points_before, parse_outcome}
use Rattle.lpis_wkt.specs.Text.{wkt_fault_reported}
use Rattle.lpis_wkt.specs.Tokens.{Token}

abbrev pub state_of : Expecting → Context → List Point → ParserState
state_of expecting.Keyword b ps = AtKeyword
state_of expecting.FirstBody b ps = AfterKeyword b.multi
state_of expecting.Body b ps = AtBody b.members
state_of expecting.Ring b ps = AtRing b
state_of expecting.X b ps = AtX b ps
state_of (expecting.Y x) b ps = AtY b ps x
state_of expecting.PointEnd b ps = AfterPoint b ps
state_of expecting.RingEnd b ps = AfterRing b
state_of expecting.BodyEnd b ps = AfterBody b.members
state_of expecting.End b ps = AtEnd b.members

-- no member, ring or point yet
pub record Fresh (b : Context) (ps : List Point) : Type 0 where
  pub members : b.members ≡ []
  pub rings : b.rings ≡ []
  pub points : ps ≡ []

-- no ring or point of a member of a multipolygon yet
pub record Between (b : Context) (ps : List Point) : Type 0 where
  pub multi : b.multi ≡ true
  pub rings : b.rings ≡ []
  pub points : ps ≡ []

-- a member, and no ring or point of a next one
pub record Closed (b : Context) (ps : List Point) : Type 0 where
  pub some : 0 < length b.members
  pub rings : b.rings ≡ []
  pub points : ps ≡ []

-- a ring, and no point of a next one
pub record Ringed (b : Context) (ps : List Point) : Type 0 where
  pub some : 0 < length b.rings
  pub points : ps ≡ []

-- what the parser keeps where it expects this
abbrev pub ParseHolds : Expecting → Context → List Point → Type 0
ParseHolds expecting.Keyword b ps = Fresh b ps
ParseHolds expecting.FirstBody b ps = Fresh b ps
ParseHolds expecting.Body b ps = Between b ps
ParseHolds expecting.Ring b ps = ps ≡ []
ParseHolds expecting.X b ps = points_before b + length ps ≤ most_points
ParseHolds (expecting.Y x) b ps = points_before b + length ps < most_points
ParseHolds expecting.PointEnd b ps = Unit {0}
ParseHolds expecting.RingEnd b ps = Ringed b ps
ParseHolds expecting.BodyEnd b ps = Between b ps × Closed b ps
ParseHolds expecting.End b ps = Closed b ps

pub record Kept (p : Expecting) (b : Context) (ps : List Point) (count : ℕ) : Type 0 where
  pub counted : count ≡ points_before b + length ps
  pub few : count ≤ most_points
  pub expecting : ParseHolds p b ps

-- a call returned what a step gives, as the state that its value stands for, unless memory ran out
abbrev pub TookAs : {A : Type 0} → (A → ParserState) → Result A WktFault
    → Result ParserState WktCode → ℕ
    → Type 0
TookAs {A} state answer r at = AnswersUnless wkt_fault_reported (λ (x : A). r ≡ Ok (state x))
    (λ (f : WktCode × ℕ). (r ≡ Err f.0) × (f.1 ≡ at)) answer

-- a call that left this state did what a step does, unless memory ran out
abbrev pub Took : {A : Type 0} → Result A WktFault → ParserState → Result ParserState WktCode → ℕ
    → Type 0
Took answer s r at = TookAs (λ _. s) answer r at

-- the members where the last step finishes with them
abbrev pub ParseEnds : Result (List Member) WktFault → Result ParserState WktCode → ℕ → Type 0
ParseEnds answer r end = TookAs Finished answer r end

-- the keyword or a `(` is expected
abbrev pub IsOpening : ParserState → Type 0
IsOpening AtKeyword = Unit {0}
IsOpening (AfterKeyword m) = Unit {0}
IsOpening (AtBody ms) = Unit {0}
IsOpening (AtRing b) = Unit {0}
IsOpening _ = ⊥

-- an x or a y is expected
abbrev pub IsAtCoordinate : ParserState → Type 0
IsAtCoordinate (AtX b ps) = Unit {0}
IsAtCoordinate (AtY b ps x) = Unit {0}
IsAtCoordinate _ = ⊥

-- a `,`, a `)` or the end is expected
abbrev pub IsClosing : ParserState → Type 0
IsClosing (AfterPoint b ps) = Unit {0}
IsClosing (AfterRing b) = Unit {0}
IsClosing (AfterBody ms) = Unit {0}
IsClosing (AtEnd ms) = Unit {0}
IsClosing _ = ⊥

-- `,` or `)` after a ring is expected
abbrev pub IsAfterRing : ParserState → Type 0
IsAfterRing (AfterRing b) = Unit {0}
IsAfterRing _ = ⊥

-- what a call returned is the outcome of a whole text, unless memory ran out
abbrev pub IsOutcome : Result (List Member) WktFault → Result ParserState (WktCode × ℕ) → Type 0
IsOutcome answer r =
    AnswersUnless wkt_fault_reported (λ (ms : List Member). r ≡ Ok (Finished ms)) (λ f. r
    ≡ Err f) answer

-- what comes of these states and tokens is the same, whatever tokens follow
abbrev pub SameOutcome : ParserState → List (ℕ × Token) → ParserState → List (ℕ × Token) → Type 0
SameOutcome s ts s' ts' =
    (rest : List (ℕ × Token)) → parse_outcome s (ts ++ rest) ≡ parse_outcome s'
    (ts' ++ rest)
