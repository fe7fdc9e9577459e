-- A certificate that is being read.
use Rattle.std.specs.Prelude.{ℕ, ◌≡◌, ◌<◌, List, [], ◌∷◌, ◌++◌, length, map}
use Rattle.std.specs.List.{flat_map}
use Rattle.std.specs.List.{AllByRecursion}
use Rattle.lpis_cert.specs.declared.version.Version.{Version}
use Rattle.lpis_cert.specs.declared.draft.Draft.{Draft}
use Rattle.lpis_cert.specs.declared.draft.Progress.{Progress}
use Rattle.lpis_cert.specs.declared.draft.Progress.TheVariants.{More, Pairs}
use Rattle.lpis_points.specs.declared.triangle.Triangle.{Triangle}
use Rattle.lpis_cert.specs.declared.cert.Cert.{Cert}
use Rattle.lpis_cert.specs.declared.part.PiecePart.{PiecePart}
use Rattle.lpis_cert.specs.declared.part.ParcelPart.{ParcelPart}
use Rattle.lpis_cert.specs.declared.part.ExactBlock.{ExactBlock}
use Rattle.lpis_cert.specs.declared.part.PairLine.{PairLine}
use Rattle.lpis_cert.specs.declared.kind.Stage.{Stage}
use Rattle.lpis_cert.specs.declared.kind.Stage.TheVariants as stage
use Rattle.lpis_cert.specs.declared.head.Owner.{Owner}
use Rattle.lpis_cert.specs.declared.head.Owner.TheVariants as owner
use Rattle.lpis_cert.specs.declared.head.Head.{Head}
use Rattle.lpis_cert.specs.declared.head.Head.TheVariants as head
use Rattle.lpis_cert.specs.CertText.{CertLine, PieceLine, ParcelLine, ExactLine, PairsLine}
use Rattle.lpis_cert.specs.CertText.{PieceBlock, ParcelBlock, ExactBlock as FlatsBlock}
use Rattle.lpis_cert.specs.CertText.{piece_lines, parcel_lines, exact_lines}
use Rattle.lpis_cert.specs.CertText.{text_of_lines}
use Rattle.lpis_cert.specs.Fitting.{LineFits}
use Rattle.lpis_cert.specs.Faults.{LineState, InBody, first_state, lines_outcome, lines as cut}
use Rattle.lpis_cert.specs.Faults.{verdict}
use Rattle.lpis_cert.specs.Versions.{first_line}
use Rattle.lpis_cert.specs.private.Taken.{ReadsLines}
use Rattle.lpis_cert.specs.Contents.{block_of_piece, block_of_parcel, exact_of}

-- the line that begins a block of flats alone
abbrev pub flats_line : Owner → List ℕ → ℕ → CertLine
flats_line owner.Parcel id f = ParcelLine id f
flats_line (owner.Exact m) id f = ExactLine m id f

-- which blocks can begin after it
abbrev pub stage_after : Owner → Stage
stage_after owner.Parcel = stage.Parcels
stage_after (owner.Exact m) = stage.Exacts

-- the parcels and the exact blocks, and the same with one more of either
abbrev pub OneMore : Owner → List ℕ → List Triangle → List ParcelPart → List ExactBlock
    → List ParcelPart → List ExactBlock → Type 0
OneMore owner.Parcel id fs qs es more same = (q : ParcelPart) × (more ≡ qs ++ q ∷ []) × (q.id ≡ id)
    × (q.flats ≡ fs) × (same ≡ es)
OneMore (owner.Exact m) id fs qs es same more = (b : ExactBlock) × (more ≡ es ++ b ∷ [])
    × (b.merge ≡ m) × (b.id ≡ id) × (b.flats ≡ fs) × (same ≡ qs)

-- the line that begins a block
abbrev pub head_line : Head → CertLine
head_line (head.Piece id t f) = PieceLine id t f
head_line (head.Flats w id f) = flats_line w id f
head_line (head.Pairs n) = PairsLine n

abbrev pub pieces_lines : List PieceBlock → List CertLine
pieces_lines ps = flat_map piece_lines ps

abbrev pub parcels_lines : List ParcelBlock → List CertLine
parcels_lines ps = flat_map parcel_lines ps

abbrev pub exacts_lines : List FlatsBlock → List CertLine
exacts_lines es = flat_map exact_lines es

abbrev pub blocks : List PieceBlock → List ParcelBlock → List FlatsBlock → List CertLine
blocks ps qs es = pieces_lines ps ++ (parcels_lines qs ++ exacts_lines es)

-- the lines of the blocks so far
abbrev pub draft_lines : Draft → List CertLine
draft_lines d = blocks (map block_of_piece d.pieces.items) (map block_of_parcel d.parcels.items)
    (map exact_of d.exact.items)

abbrev pub draft_state : Draft → LineState
draft_state d = InBody d.stage 0 0 (record { triangles = d.triangles; flats = d.flats })

-- further lines of a text were taken, from line n on
pub record Grown (v : Version) (before after : List CertLine) (p q : LineState) (text : List ℕ)
    (n : ℕ)
    (rest : List ℕ) (m : ℕ) : Type 0 where
  pub added : List CertLine
  pub follows : ReadsLines v text n added rest m
  pub lines : after ≡ before ++ added
  pub state : lines_outcome v n p (cut text) ≡ lines_outcome v m q (cut rest)
  pub shorter : length rest < length text

abbrev pub DraftGrown : Draft → Draft → List ℕ → ℕ → List ℕ → ℕ → Type 0
DraftGrown old new text n rest m = (new.version ≡ old.version) × Grown old.version
    (draft_lines old) (draft_lines new) (draft_state old) (draft_state new) text n rest m

-- a draft with one more block, or the line that counts the pairs
abbrev pub Progressed : Draft → Draft → Progress → List ℕ → ℕ → Type 0
Progressed old new (More rest) text n = DraftGrown old new text n rest.text.now rest.line
Progressed old new (Pairs count rest) text n = (new ≡ old) × ReadsLines old.version text n
    (PairsLine count ∷ []) rest.text.now rest.line

-- the whole rest of a text
pub record Whole (v : Version) (before more : List CertLine) (text : List ℕ) : Type 0 where
  pub added : List CertLine
  pub parts : text ≡ text_of_lines v added
  pub fits : AllByRecursion (LineFits v) added
  pub lines : more ≡ before ++ added

-- from line n on, the lines of what was read, and then the line that counts the pairs
pub record PairsCome (v : Version) (text : List ℕ) (n : ℕ) (d : Draft) (count : ℕ)
    (before : List ℕ) (m : ℕ) (rest : List ℕ) (k : ℕ) : Type 0 where
  pub version : d.version ≡ v
  pub follows : ReadsLines v text n (draft_lines d) before m
  pub state : lines_outcome v m (draft_state d) (cut before)
      ≡ lines_outcome v n first_state (cut text)
  pub pairs : ReadsLines v before m (PairsLine count ∷ []) rest k

-- the text of a version begins so
pub record Opens (bytes : List ℕ) (d : Draft) (count : ℕ) (rest : List ℕ) (k : ℕ) : Type 0 where
  pub text : List ℕ
  pub n : ℕ
  pub before : List ℕ
  pub m : ℕ
  pub starts : bytes ≡ first_line d.version ++ (10 ∷ text)
  pub told : verdict bytes ≡ lines_outcome d.version n first_state (cut text)
  pub come : PairsCome d.version text n d count before m rest k

-- a certificate consists of these
pub record HasParts (c : Cert) (pieces : List PiecePart) (parcels : List ParcelPart)
    (exact : List ExactBlock) (pairs : List PairLine) : Type 0 where
  pub pieces_are : c.pieces ≡ pieces
  pub parcels_are : c.parcels ≡ parcels
  pub exact_is : c.exact ≡ exact
  pub pairs_are : c.pairs ≡ pairs
