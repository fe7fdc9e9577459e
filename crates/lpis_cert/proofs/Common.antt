-- The names that most proofs of this crate cite, passed on from one place. Declares nothing.
pub use Rattle.lpis_cert.specs.CertText.{CertContent, Corners, EndLine, ExactLine, FlatLine, CertLine, PairLine, PairsLine, ParcelBlock, ParcelLine, PieceBlock, PieceLine, Separator}
pub use Rattle.lpis_cert.specs.CertText.{TriangleLine, end_lines, exact_lines, parcel_lines, piece_lines}
unfoldable pub use Rattle.lpis_cert.specs.CertText.{content_lines, spelling, content_text, text_of_lines, words_of}
pub use Rattle.lpis_cert.specs.Contents.{IsCertText, triangle_corners, content_of, corner_numbers, exact_of, block_of_parcel, block_of_piece, separator_of}
pub use Rattle.lpis_cert.specs.Faults.{AtEnd, Declared, InBody, InPairs, LineState, first_state, grow, grow_flats, is_lf, lines, verdict}
unfoldable pub use Rattle.lpis_cert.specs.Faults.{at_last, lines_outcome, outcome_of, line_step}
pub use Rattle.lpis_cert.specs.Fitting.{CoordinateFits, CornersFit, LineFits, SeparatorFits}
pub use Rattle.lpis_cert.specs.Limits.{greatest_count, most_flats, number_margin}
pub use Rattle.lpis_points.specs.Triangles.{most_triangles}
pub use Rattle.lpis_cert.specs.LineKinds.{line_kind}
pub use Rattle.lpis_cert.specs.Reading.{can_stand, is_empty, is_gap, words}
unfoldable pub use Rattle.lpis_cert.specs.Reading.{cert_number, read_line, values}
pub use Rattle.lpis_cert.specs.Versions.{first_line, version_named, written}
pub use Rattle.lpis_cert.specs.declared.cert.Cert.{Cert}
pub use Rattle.lpis_cert.specs.declared.fault.CertCode.{CertCode}
pub use Rattle.lpis_cert.specs.declared.fault.CertFault.{CertFault}
pub use Rattle.lpis_cert.specs.declared.kind.Expected.TheVariants.{Block, One}
pub use Rattle.lpis_cert.specs.declared.kind.Kind.{Kind}
pub use Rattle.lpis_cert.specs.declared.kind.Kind.TheVariants.{End, Exact, Flat, Pair, Pairs, Parcel, Piece}
pub use Rattle.lpis_cert.specs.declared.kind.Stage.{Stage}
pub use Rattle.lpis_cert.specs.declared.part.ExactBlock.{ExactBlock}
pub use Rattle.lpis_cert.specs.declared.part.ParcelPart.{ParcelPart}
pub use Rattle.lpis_cert.specs.declared.part.PiecePart.{PiecePart}
pub use Rattle.lpis_cert.specs.declared.version.Version.{Version}
pub use Rattle.lpis_cert.specs.private.Drafts.{draft_state, exacts_lines, parcels_lines}
pub use Rattle.lpis_cert.specs.private.Fits.{ExactFits, ParcelFits, PieceFits}
pub use Rattle.lpis_cert.specs.private.Taken.{FaultFrom, LineFault, Placed, ReadsLines, corner_line}
pub use Rattle.lpis_tables.specs.Ids.{is_id}
pub use Rattle.lpis_points.specs.declared.triangle.Triangle.{Triangle}
pub use Rattle.std.proofs.lemmas.Bool.{and_parts}
pub use Rattle.std.proofs.lemmas.Bool.Decides.{nat_tests}
pub use Rattle.std.proofs.lemmas.List.{length-map}
pub use Rattle.std.proofs.lemmas.List.Splits.{join_with_byte-slice_split}
pub use Rattle.std.proofs.lemmas.List.Sums.{sum_by-cons}
pub use Rattle.std.proofs.lemmas.Result.{err_from_is_err_and}
pub use Rattle.std.specs.List.{AllByRecursion, join_with_byte, list_any, onto_first}
