use Rattle.std.proofs.Common.{◌≡◌, length}
use Rattle.lpis_cert.proofs.Common.{lines, lines_outcome, first_state, draft_state, ReadsLines}
use Rattle.lpis_cert.specs.private.Drafts.{draft_lines}
use Rattle.lpis_cert.proofs.reading.read_blocks.Given as goal

abbrev pub invariant-reading : goal.invariant-reading
invariant-reading l = record {
  version : l.draft.version ≡ l.fn.version;
  follows : ReadsLines l.fn.version l.start.text.now l.start.line (draft_lines l.draft) l.rest.text.now l.rest.line;
  state : lines_outcome l.fn.version l.rest.line (draft_state l.draft) (lines l.rest.text.now) ≡ lines_outcome l.fn.version l.start.line first_state (lines l.start.text.now);
}

abbrev pub decreases-reading : goal.decreases-reading
decreases-reading l = length l.rest.text.now
