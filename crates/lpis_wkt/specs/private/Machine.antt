-- What is expected after some tokens, and which token comes as a fault.
use Rattle.std.specs.Prelude.{ℕ, ◌+◌, ◌-◌, Bool, true, false, cond, List, [], ◌∷◌, ◌++◌, length}
use Rattle.std.specs.Prelude.{Option, Some, None, Result, Ok, Err, nat_lt, nat_le, slice_get}
use Rattle.lpis_points.specs.declared.point.Point.{Point}
use Rattle.lpis_points.specs.Plane.{same_point}
use Rattle.lpis_rings.specs.declared.polygon.Member.{Member}
use Rattle.lpis_rings.specs.Polygon.{points_in, points_of, most_points}
use Rattle.lpis_wkt.specs.declared.fault.WktCode.{WktCode}
use Rattle.lpis_wkt.specs.declared.fault.WktCode.TheVariants.{Keyword, Dimension, TooFewPoints}
use Rattle.lpis_wkt.specs.declared.fault.WktCode.TheVariants.{NotClosed, Syntax, TooManyPoints}
use Rattle.lpis_wkt.specs.declared.coordinate.Coordinate.{Coordinate}
use Rattle.lpis_wkt.specs.Tokens.{Token, Open, Close, Comma, Word, End}
use Rattle.lpis_wkt.specs.private.Coordinates.{coordinate_in_range, point_of}
use Rattle.lpis_wkt.specs.Grammar.{is_polygon, is_multi}
use Rattle.lpis_wkt.specs.Table.{keyword_code, open_code, first_open_code}

-- what stands before a ring: in which kind of text, the members before, and the member's rings
-- before
pub record Context : Type 0 where
  pub multi : Bool
  pub members : List Member
  pub rings : List (List Point)

-- what is expected, with what was read
pub data ParserState : Type 0 where
  AtKeyword : ParserState
  AfterKeyword : Bool → ParserState
  AtBody : List Member → ParserState
  AtRing : Context → ParserState
  AtX : Context → List Point → ParserState
  AtY : Context → List Point → Coordinate → ParserState
  AfterPoint : Context → List Point → ParserState
  AfterRing : Context → ParserState
  AfterBody : List Member → ParserState
  AtEnd : List Member → ParserState
  Finished : List Member → ParserState

abbrev pub same_end : Option Point → Option Point → Bool
same_end (Some p) (Some q) = same_point p q
same_end (Some p) None = false
same_end None (Some q) = false
same_end None None = true

-- the last point is the first
abbrev pub is_closed : List Point → Bool
is_closed ps = same_end (slice_get ps (length ps - 1)) (slice_get ps 0)

abbrev pub with_coordinate : Result Coordinate WktCode → (Coordinate → ParserState)
    → Result ParserState WktCode
with_coordinate (Ok z) f = Ok (f z)
with_coordinate (Err code) f = Err code

abbrev pub with_ring : Context → List Point → Context
with_ring b ps = record b { rings = b.rings ++ ps ∷ [] }

abbrev pub close_ring : Context → List Point → Result ParserState WktCode
close_ring b ps = cond (nat_lt (length ps) 4) (Err TooFewPoints)
    (cond (is_closed ps) (Ok (AfterRing (with_ring b ps))) (Err NotClosed))

-- the member of these rings
abbrev pub member_of : List (List Point) → Member
member_of [] = record { shell = []; holes = [] }
member_of (r ∷ rs) = record { shell = r; holes = rs }

abbrev pub close_body : Context → ParserState
close_body b = cond b.multi (AfterBody (b.members ++ member_of b.rings ∷ []))
    (AtEnd (b.members ++ member_of b.rings ∷ []))

-- before the rings of a member
abbrev pub new_body : Bool → List Member → ParserState
new_body multi ms = AtRing (record { multi = multi; members = ms; rings = [] })

abbrev pub open_text : Bool → ParserState
open_text multi = cond multi (AtBody []) (new_body false [])

abbrev pub keyword : List ℕ → Result ParserState WktCode
keyword w = cond (is_polygon w) (Ok (AfterKeyword false))
    (cond (is_multi w) (Ok (AfterKeyword true)) (Err (keyword_code (Word w))))

-- the grammar alone, with no limit on the points
abbrev pub parse_step : ParserState → Token → Result ParserState WktCode
parse_step AtKeyword (Word w) = keyword w
parse_step AtKeyword _ = Err Keyword
parse_step (AfterKeyword m) Open = Ok (open_text m)
parse_step (AfterKeyword m) (Word w) = Err (first_open_code (Word w))
parse_step (AtBody ms) Open = Ok (new_body true ms)
parse_step (AtBody ms) (Word w) = Err (open_code (Word w))
parse_step (AtRing b) Open = Ok (AtX b [])
parse_step (AtRing b) (Word w) = Err (open_code (Word w))
parse_step (AtX b ps) (Word w) = with_coordinate (coordinate_in_range w) (AtY b ps)
parse_step (AtY b ps x) (Word w) = with_coordinate (coordinate_in_range w)
    (λ y. AfterPoint b (ps ++ point_of x y ∷ []))
parse_step (AfterPoint b ps) Close = close_ring b ps
parse_step (AfterPoint b ps) Comma = Ok (AtX b ps)
parse_step (AfterPoint b ps) (Word w) = Err Dimension
parse_step (AfterRing b) Close = Ok (close_body b)
parse_step (AfterRing b) Comma = Ok (AtRing b)
parse_step (AfterBody ms) Close = Ok (AtEnd ms)
parse_step (AfterBody ms) Comma = Ok (AtBody ms)
parse_step (AtEnd ms) End = Ok (Finished ms)
parse_step _ _ = Err Syntax

abbrev pub parse_then : {A B E : Type 0} → Result A E → (A → Result B E) → Result B E
parse_then (Ok x) f = f x
parse_then (Err e) f = Err e

-- the state after some tokens, or the code of the first that cannot stand where it stands
abbrev pub run : ParserState → List Token → Result ParserState WktCode
run s [] = Ok s
run s (t ∷ ts) = parse_then (parse_step s t) (λ s. run s ts)

-- the points before a ring
abbrev pub points_before : Context → ℕ
points_before b = points_of b.members + points_in b.rings

-- an x of a point past the most
abbrev pub is_too_many : ParserState → Token → Bool
is_too_many (AtX b ps) (Word w) = nat_le most_points (points_before b + length ps)
is_too_many (AtX b ps) _ = false
is_too_many _ _ = false

-- the grammar with the limit on points
abbrev pub limited_step : ParserState → Token → Result ParserState WktCode
limited_step s t = cond (is_too_many s t) (Err TooManyPoints) (parse_step s t)

abbrev pub limited_run : ParserState → List Token → Result ParserState WktCode
limited_run s [] = Ok s
limited_run s (t ∷ ts) = parse_then (limited_step s t) (λ s. limited_run s ts)

-- the same over tokens with offsets: the offset is reported beside the code
abbrev pub located : Result ParserState WktCode → ℕ → Result ParserState (WktCode × ℕ)
located (Ok s) at = Ok s
located (Err code) at = Err (code, at)

abbrev pub parse_outcome : ParserState → List (ℕ × Token) → Result ParserState (WktCode × ℕ)
parse_outcome s [] = Ok s
parse_outcome s (t ∷ ts) = parse_then (located (limited_step s t.1) t.0) (λ s. parse_outcome s ts)

abbrev pub members_of : ParserState → List Member
members_of (Finished ms) = ms
members_of _ = []

abbrev pub parse_answer : Result ParserState (WktCode × ℕ) → Result (List Member) (WktCode × ℕ)
parse_answer (Ok s) = Ok (members_of s)
parse_answer (Err fault) = Err fault
