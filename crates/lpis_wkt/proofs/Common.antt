-- The names that most proofs of this crate cite, passed on from one place. Declares nothing.
pub use Rattle.lpis_points.specs.declared.point.Point.{Point}
pub use Rattle.lpis_rings.specs.Polygon.{most_points}
pub use Rattle.lpis_rings.specs.Ring.{IsRing}
pub use Rattle.lpis_rings.specs.declared.polygon.Member.{Member}
pub use Rattle.lpis_wkt.specs.Grammar.{Commas, PointText, is_multi, is_polygon}
pub use Rattle.lpis_wkt.specs.Number.{coordinate_decimals, greatest_coordinate, padded}
unfoldable pub use Rattle.lpis_wkt.specs.Number.{number}
pub use Rattle.lpis_wkt.specs.Table.{keyword_code}
pub use Rattle.lpis_wkt.specs.Tokens.{Close, Comma, End, Open, Token, Word, tokens_from}
pub use Rattle.lpis_wkt.specs.Viable.{Viable, most_words, token_words}
pub use Rattle.lpis_wkt.specs.declared.coordinate.Coordinate.{Coordinate}
pub use Rattle.lpis_wkt.specs.declared.fault.WktCode.{WktCode}
pub use Rattle.lpis_wkt.specs.private.Coordinates.{point_of}
unfoldable pub use Rattle.lpis_wkt.specs.private.Coordinates.{coordinate_in_range}
pub use Rattle.lpis_wkt.specs.private.Machine.{AfterBody, AfterKeyword, AfterPoint, AfterRing, AtBody, AtEnd, AtKeyword, AtRing, AtX, AtY, Context, Finished, ParserState, parse_then, close_body}
pub use Rattle.lpis_wkt.specs.private.Machine.{close_ring}
pub use Rattle.lpis_wkt.specs.private.Machine.{is_closed, limited_run, limited_step, member_of, new_body, open_text, points_before, run, parse_step, with_ring}
pub use Rattle.lpis_wkt.specs.private.Runs.{IsPart, is_word}
pub use Rattle.std.proofs.lemmas.Bool.{and_parts}
pub use Rattle.std.proofs.lemmas.Bool.Decides.{nat_tests}
pub use Rattle.std.specs.Char.{is_ascii_digit}
pub use Rattle.std.specs.List.{list_all}
pub use Rattle.std.specs.Str.Parse.{digits_value, digits_value_after}
