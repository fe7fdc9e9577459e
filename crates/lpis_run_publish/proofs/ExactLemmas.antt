-- What a run that asks for blocks has decided.
use Rattle.std.proofs.Common.{◌≡◌, ◌∙◌, ◌∷◌, [], inl, inr, refl, sym, ap, ap₂, suc, true, Bool, ℕ, List, Option, None, length, map}
use Rattle.std.specs.List.{AllZip}
use Rattle.lpis_cert.specs.declared.cert.Cert.{Cert}
use Rattle.lpis_run_publish.proofs.Common.{Answer}
use Rattle.lpis_tables.specs.Ids.{has_id}
use Rattle.lpis_checker.specs.declared.exact.ExactPart.{ExactPart}
use Rattle.lpis_checker.specs.ExactBlocks.{block_name, part_name}
use Rattle.lpis_lineage_exact.specs.Asking.{AsksFor, IsWanted}
use Rattle.lpis_lineage_exact.specs.Shapes.{shape_named, shapes_in}
use Rattle.lpis_lineage.specs.declared.exact.Group.{Group}
use Rattle.lpis_lineage.specs.ExactGroups.{group_name}
use Rattle.lpis_lineage.specs.declared.row.Row.{Row}
use Rattle.lpis_release.specs.declared.parcel.Parcel.{Parcel}
use Rattle.lpis_rings.specs.declared.polygon.Member.{Member}
use Rattle.lpis_release.specs.Release.{Contents}
use Rattle.lpis_run.proofs.Shared.{answer-of-taken, used-more}
use Rattle.lpis_run.specs.CheckAnswer.{IsUsedAnswer}
use Rattle.lpis_run.specs.Inputs.{IsTaken}
use Rattle.lpis_run.specs.Outputs.{Outputs, line_alone}
use Rattle.lpis_run.specs.Status.{done, refused}
use Rattle.lpis_run_publish.specs.ExactAnswer.{AnswersSubmitted, FillsGroups, FillsRows, HasParts, HasTextOnlyIfDone, IsExactAnswer, IsFirstUnfilled, blocks_line}
use Rattle.lpis_run_publish.specs.ExactAnswer.{unfilled_line}
use Rattle.lpis_register.specs.Holdings.{Holdings}
use Rattle.lpis_run_publish.specs.Submission.{IsSubmitted, SubmissionInputs, Submitted, submitted}
use Rattle.lpis_run_publish.specs.private.ExactRuns.{filled_with}
use Rattle.lpis_run_publish.specs.private.Submitting.{IsFaultAnswer}
use Rattle.lpis_run_publish.proofs.SubmissionLemmas.{submission-more, submission-said}

-- ---- the names of parts
-- parts have the names of their groups
names-of : (kept new : List ℕ → Option (List Member)) (gs : List Group) (xs : List ExactPart) → AllZip (IsWanted kept new) gs xs → map part_name xs ≡ map group_name gs
names-of kept new [] [] are = refl
names-of kept new [] (x ∷ xs) are = absurd are
names-of kept new (g ∷ gs) [] are = absurd are
names-of kept new (g ∷ gs) (x ∷ xs) are = ap₂ (λ (n : Bool × List ℕ) (ns : List (Bool × List ℕ)). n ∷ ns) are.0.name (names-of kept new gs xs are.1)

-- and so their identifiers
ids-of : (gs : List Group) (xs : List ExactPart) → map part_name xs ≡ map group_name gs → map (λ (x : ExactPart). x.id) xs ≡ map (λ (g : Group). g.id) gs
ids-of gs xs e = sym (parts xs) ∙ ap (map (λ (n : Bool × List ℕ). n.1)) e ∙ groups gs
  where
    parts : (ys : List ExactPart) → map (λ (n : Bool × List ℕ). n.1) (map part_name ys) ≡ map (λ (x : ExactPart). x.id) ys
    parts [] = refl
    parts (y ∷ ys) = ap (λ (l : List (List ℕ)). y.id ∷ l) (parts ys)

    groups : (hs : List Group) → map (λ (n : Bool × List ℕ). n.1) (map group_name hs) ≡ map (λ (g : Group). g.id) hs
    groups [] = refl
    groups (g ∷ hs) = ap (λ (l : List (List ℕ)). g.id ∷ l) (groups hs)

-- ---- outcomes
pub outcome-unfilled : (before : Holdings) (parcels : List Parcel) (rows : List Row) (cert : Cert) (gs : List Group) (xs : List ExactPart) (id : List ℕ) (o : Outputs)
    → AsksFor before.history before.shapes parcels rows gs xs → (has_id (map (λ (x : ExactPart). x.id) xs) id ≡ true) × IsFirstUnfilled xs id → o ≡ line_alone (unfilled_line id) refused
    → FillsGroups parcels rows cert before o
outcome-unfilled before parcels rows cert gs xs id o asks one e =
    let names = names-of (shape_named before.shapes) (shape_named (shapes_in parcels)) gs xs asks.parts in
    let is_one : has_id (map (λ (g : Group). g.id) gs) id ≡ true = rw (sym (ids-of gs xs names)) one.0 in
    rw e (record { answer = inr (record { gs = gs; xs = xs; asks = asks; answer = inl (id, is_one, one.1, refl) }); no_text = λ _. refl })

filled-line : (n m : ℕ) → n ≡ m → ◌≡◌ {A = Answer} (blocks_line n, done) (blocks_line m, done)
filled-line n m e = ap (λ (k : ℕ). (blocks_line k, done)) e

length-map : {A B : Type 0} (f : A → B) (xs : List A) → length (map f xs) ≡ length xs
length-map f [] = refl
length-map f (x ∷ xs) = ap suc (length-map f xs)

-- the certificate with blocks of the parts asked for in place of its own is an outcome of the run for blocks
pub outcome-filled : (before : Holdings) (parcels : List Parcel) (rows : List Row) (cert made : Cert) (gs : List Group) (xs : List ExactPart) (o : Outputs)
    → AsksFor before.history before.shapes parcels rows gs xs → HasParts cert made × (map block_name made.exact ≡ map part_name xs)
    → o ≡ filled_with made → FillsGroups parcels rows cert before o
outcome-filled before parcels rows cert made gs xs o asks has e =
    let names = names-of (shape_named before.shapes) (shape_named (shapes_in parcels)) gs xs asks.parts in
    let blocks : map block_name made.exact ≡ map group_name gs = has.1 ∙ names in
    let many : length made.exact ≡ length gs = sym (length-map block_name made.exact) ∙ ap (λ (ns : List (Bool × List ℕ)). length ns) blocks ∙ length-map group_name gs in
    rw e (record {
      answer = inr (record { gs = gs; xs = xs; asks = asks; answer = inr (made, has.0, blocks, refl, filled-line (length made.exact) (length gs) many) });
      no_text = λ no. absurd (no refl);
    })

-- ---- answers
-- by the certificate that is used
pub answered-taken : (before : Holdings) (r : Contents) (rows : List Row) (named : Option Cert) (c : Cert) (o : Outputs) → IsTaken named c → HasTextOnlyIfDone (FillsRows before r rows c) o
    → HasTextOnlyIfDone (AnswersSubmitted before (submitted r named rows)) o
answered-taken before r rows named c o taken is = record {
  answer = answer-of-taken r (λ k. FillsRows before r rows k o.cert) named c (o.line, o.status) taken is.answer;
  no_text = is.no_text;
}

-- of a release that gets none
pub answered-uncut : (before : Holdings) (r : Contents) (rows : List Row) (named : Option Cert) (o : Outputs) → IsUsedAnswer r (λ _ _. ⊥) named (o.line, o.status) → o.cert ≡ None
    → HasTextOnlyIfDone (AnswersSubmitted before (submitted r named rows)) o
answered-uncut before r rows named o is none = record {
  answer = used-more r (λ _ _. ⊥) (λ k. FillsRows before r rows k o.cert) named (o.line, o.status) (λ k no. absurd no) is;
  no_text = λ _. none;
}

-- of what is handed in
pub answered-said : (x : SubmissionInputs) (said : Submitted) (before : Holdings) (o : Outputs) → IsSubmitted x said → HasTextOnlyIfDone (AnswersSubmitted before said) o → IsExactAnswer x before o
answered-said x said before o of is = record {
  answer = submission-said (λ s. AnswersSubmitted before s o.cert) x said (o.line, o.status) of is.answer;
  no_text = is.no_text;
}

-- the line of the first fault, without a certificate, answers a submission that asks for blocks
pub answered-refused : (x : SubmissionInputs) (before : Holdings) (o : Outputs) → IsFaultAnswer x (o.line, o.status) → o.cert ≡ None → IsExactAnswer x before o
answered-refused x before o is none = record {
  answer = submission-more (λ s. AnswersSubmitted before s o.cert) x (o.line, o.status) is;
  no_text = λ _. none;
}
