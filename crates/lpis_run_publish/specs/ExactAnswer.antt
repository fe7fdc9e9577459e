-- The answer to what is asked for the blocks of marked rows: the certificate with them, or the line
-- that says why there is none; and the status.
use Rattle.std.specs.Prelude.{◌≡◌, ◌≢◌, ◌⊎◌, ◌++◌, [], All, true, ℕ, List, codes, length, map}
use Rattle.std.specs.Prelude.{None, Option, Result, Some, slice_get, take}
use Rattle.std.specs.Fmt.{decimal}
use Rattle.lpis_points.specs.Triangles.{IsFlat}
use Rattle.lpis_points.specs.declared.triangle.Triangle.{Triangle}
use Rattle.lpis_edge_sums.specs.Making.{EdgesCancel, FlatsHaveCorners}
use Rattle.lpis_tables.specs.Ids.{has_id, same_id}
use Rattle.lpis_release.specs.declared.parcel.Parcel.{Parcel}
use Rattle.lpis_release.specs.Release.{Contents, parcel_ids}
use Rattle.lpis_cert.specs.declared.cert.Cert.{Cert}
use Rattle.lpis_cert.specs.Contents.{cert_text}
use Rattle.lpis_checker.specs.declared.exact.ExactPart.{ExactPart}
use Rattle.lpis_checker.specs.ExactBlocks.{block_name}
use Rattle.lpis_lineage.specs.declared.exact.Group.{Group}
use Rattle.lpis_lineage.specs.declared.fault.LineageFault.{LineageFault}
use Rattle.lpis_lineage.specs.declared.row.Row.{Row}
use Rattle.lpis_lineage.specs.ExactGroups.{group_name}
use Rattle.lpis_lineage.specs.Faults.{faults, first}
use Rattle.lpis_lineage_exact.specs.Asking.{AsksFor, IsUnkept}
use Rattle.lpis_register.specs.Holdings.{Holdings}
use Rattle.lpis_register.specs.declared.fault.PublishFault.{PublishFault}
use Rattle.lpis_register.specs.declared.fault.PublishFault.TheVariants.{Lineage, NotKept}
use Rattle.lpis_run.specs.CheckAnswer.{Answer, IsUsedAnswer}
use Rattle.lpis_run.specs.Failures.{AreUnread}
use Rattle.lpis_run.specs.Folders.{submission_named}
use Rattle.lpis_run.specs.Outputs.{Held, Outputs}
use Rattle.lpis_run.specs.Run.{OfRead, RunsBoth}
use Rattle.lpis_run.specs.Status.{done, refused}
use Rattle.lpis_run.specs.Streams.{Known}
use Rattle.lpis_run.specs.declared.failure.Failure.{Failure}
use Rattle.lpis_run.specs.declared.folder.Submission.{Submission}
use Rattle.lpis_run_publish.specs.LineageLines.{publish_refusal_text}
use Rattle.lpis_run_publish.specs.Submission.{AreAllRead, IsSubmissionAnswer}
use Rattle.lpis_run_publish.specs.Submission.{SubmissionInputs, Submitted}

-- ---- text and status
-- the line of a group for which no flats are found, or more than a certificate may have
abbrev pub unfilled_line : List ℕ → List ℕ
unfilled_line id = codes "refused 45 exact " ++ id ++ codes "\n"

-- the line of a certificate with so many blocks
abbrev pub blocks_line : ℕ → List ℕ
blocks_line n = codes "exact " ++ decimal n ++ codes "\n"

-- ---- the group that is named
-- flats make the parts of a group up to its whole
pub record AreFlatsOf (x : ExactPart) (flats : List Triangle) : Type 0 where
  pub flat : All IsFlat flats
  pub corners : FlatsHaveCorners x.whole x.parts flats
  pub edges : EdgesCancel x.whole x.parts flats

-- a group of this identifier gets no block, as the first: those before it have flats that make them
-- up, and it is not made up without any
pub record IsFirstUnfilled (xs : List ExactPart) (id : List ℕ) : Type 0 where
  pub at : ℕ
  pub part : ExactPart
  pub stands : slice_get xs at ≡ Some part
  pub named : same_id id part.id ≡ true
  pub before : All (λ (x : ExactPart). (flats : List Triangle) × AreFlatsOf x flats) (take at xs)
  pub unfilled : AreFlatsOf part [] → ⊥

-- ---- the blocks
-- a certificate has the pieces, parcels and pairs of another
pub record HasParts (c made : Cert) : Type 0 where
  pub pieces : made.pieces ≡ c.pieces
  pub parcels : made.parcels ≡ c.parcels
  pub pairs : made.pairs ≡ c.pairs

-- of parcels with these rows, where a register holds this: what a certificate has beside its blocks
module _ (parcels : List Parcel) (rows : List Row) (Has : Cert → Type 0) (before : Holdings) where
  -- the marks ask for groups. The first that gets no block is named; or each gets one, and the text
  -- is that of a certificate with blocks of their names, in their order, and the rest
  pub record AnswersGroups (text : Option (List ℕ)) (a : Answer) : Type 0 where
    pub gs : List Group
    pub xs : List ExactPart
    pub asks : AsksFor before.history before.shapes parcels rows gs xs
    pub answer : ((id : List ℕ) × (has_id (map (λ (g : Group). g.id) gs) id ≡ true)
        × IsFirstUnfilled xs id × (a ≡ (unfilled_line id, refused)))
        ⊎ ((made : Cert) × Has made × (map block_name made.exact ≡ map group_name gs)
        × (text ≡ Some (cert_text made)) × (a ≡ (blocks_line (length gs), done)))

  -- the line of the first old shape that is not kept, or this
  abbrev pub AnswersMarks : Option (List ℕ) → Answer → Type 0
  AnswersMarks text a =
      ((id : List ℕ) × IsUnkept before.history before.shapes parcels rows id
      × (a ≡ (publish_refusal_text (NotKept id), refused))) ⊎ AnswersGroups text a

  -- the line of the lineage's first fault, as refusals are told here, or this
  abbrev pub IsBlocksAnswer : (PublishFault → List ℕ) → Option (List ℕ) → Answer → Type 0
  IsBlocksAnswer refusal_of text a =
      ((fault : LineageFault)
      × (first (faults before.history (parcel_ids parcels) rows) ≡ Some fault)
      × (a ≡ (refusal_of (Lineage fault), refused))) ⊎ AnswersMarks text a

-- an answer of this kind with its text; with every status but `done` there is none
pub record HasTextOnlyIfDone (Is : Option (List ℕ) → Answer → Type 0) (a : Outputs) : Type 0 where
  pub answer : Is a.cert (a.line, a.status)
  pub no_text : a.status ≢ done → a.cert ≡ None

-- the answer to the marks of parcels that may follow, of which this certificate has the rest
abbrev pub FillsGroups : List Parcel → List Row → Cert → Holdings → Outputs → Type 0
FillsGroups parcels rows cert before =
    HasTextOnlyIfDone (AnswersMarks parcels rows (HasParts cert) before)

-- the answer to a release and its rows of lineage, of which this certificate has the rest
abbrev pub FillsRows : Holdings → Contents → List Row → Cert → Option (List ℕ) → Answer → Type 0
FillsRows before r rows c =
    IsBlocksAnswer r.parcels rows (HasParts c) before publish_refusal_text

-- the answer to what says this, of which the certificate that is used has the rest
abbrev pub AnswersSubmitted : Holdings → Submitted → Option (List ℕ) → Answer → Type 0
AnswersSubmitted before said text = IsUsedAnswer said.release
    (λ c. FillsRows before said.release said.rows c text) said.cert

-- the answer to what is handed in, where a register holds this: faults of the tables and texts come
-- first. There is no year, and the certificate is not checked
abbrev pub IsExactAnswer : SubmissionInputs → Holdings → Outputs → Type 0
IsExactAnswer x before =
    HasTextOnlyIfDone (λ text. IsSubmissionAnswer (λ said. AnswersSubmitted before said text) x)

-- how a run ends that fills in blocks, over what its two writers hold before and after: an input
-- was not read, or memory ran out; or this is an answer to what the readers gave, as far as it is
-- known, and it was written, or an output failed
abbrev pub RunsExact : {E : Type 0} → Submission Known → Holdings → Held E → Held E
    → Result ℕ Failure → Type 0
RunsExact given before = RunsBoth (AreUnread (submission_named given))
    (λ a. OfRead AreAllRead given (λ x. IsExactAnswer x before a))
