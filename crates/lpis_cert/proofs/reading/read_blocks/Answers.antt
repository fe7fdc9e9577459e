use Rattle.std.proofs.Common.{refl, ◌∙◌, sym}
use Rattle.lpis_cert.proofs.Common.{draft_state}
use Rattle.lpis_cert.proofs.StepLemmas.{follows_none}
use Rattle.lpis_cert.proofs.ReadLemmas.{follows_grown}
use Rattle.lpis_cert.specs.private.Drafts.{draft_lines}
use Rattle.lpis_cert.proofs.reading.read_blocks.Goals as goal

pub reading-init : goal.reading-init
reading-init c =
    let none = c.no_blocks-draft.ensures.lines in
    let state = c.no_blocks-draft.ensures.state in
    record {
      version = c.no_blocks-draft.ensures.version;
      follows = rw none (follows_none c.args.version c.args.start.text.now c.args.start.line);
      state = rw state refl;
    }

pub reading-preserved : goal.reading-preserved
reading-preserved c =
    let is = c.in-More.is in
    let same = c.reading.invariant.version in
    let grown = rw is at c.in_ok-left.ensures.ok in
    let more = rw same at grown.1 in
    record {
      version = grown.0 ∙ same;
      follows = follows_grown c.args.version c.args.start.text.now c.args.start.line (draft_lines c.reading.draft)
          (draft_lines c.next_block.new.draft) (draft_state c.reading.draft) (draft_state c.next_block.new.draft) c.reading.rest.text.now
          c.reading.rest.line c.in-More.left.text.now c.in-More.left.line c.reading.invariant.follows more;
      state = sym more.state ∙ c.reading.invariant.state;
    }

pub returns-in-Pairs-clause-ok : goal.returns-in-Pairs-clause-ok
returns-in-Pairs-clause-ok c =
    let is = c.in-Pairs.is in
    let pairs = rw is at c.in_ok-left.ensures.ok in
    let unchanged = pairs.0 in
    let same = c.reading.invariant.version in (
      c.reading.rest.text.now,
      c.reading.rest.line,
      rw unchanged (record {
        version = same;
        follows = c.reading.invariant.follows;
        state = c.reading.invariant.state;
        pairs = rw same at pairs.1;
      }),
    )
