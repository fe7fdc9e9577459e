-- A text that was read up to its pairs, and what is read behind them.
use Rattle.std.proofs.Common.{◌≡◌, ℕ, ◌-◌, ◌≤◌, List, [], ◌∷◌, ◌++◌, length, drop, take, Result, Ok, Err, IfOk, IfErr, sym, ap, subst, ◌∙◌, append_assoc, length-append, arith, refl}
use Rattle.lpis_cert.proofs.Common.{Cert, CertFault, IsCertText, content_lines, content_of, draft_state, first_line, first_state, lines, lines_outcome, text_of_lines, ReadsLines, Version}
use Rattle.lpis_cert.specs.CertText.{PairsLine}
use Rattle.lpis_cert.specs.Faults.{IsFirstFault, verdict}
use Rattle.lpis_cert.specs.declared.draft.Draft.{Draft}
use Rattle.lpis_cert.specs.declared.fault.CertFault.TheVariants.{Memory, At}
use Rattle.lpis_cert.specs.private.Drafts.{Opens, PairsCome, Whole, draft_lines}
use Rattle.lpis_cert.specs.private.Taken.{FaultFrom}
use Rattle.std.proofs.lemmas.List.{length-drop, take-append-le, take_all}
use Rattle.lpis_cert.proofs.ReadLemmas.{whole_cert_text, whole_text}

-- what is to be read behind the line that counts the pairs, whatever stands before that line
abbrev pub Closes : Draft → ℕ → List ℕ → ℕ → Cert → Type 0
Closes d count rest k cert = (text : List ℕ) (n : ℕ) → ReadsLines d.version text n (PairsLine count ∷ []) rest k
    → Whole d.version (draft_lines d) (content_lines (content_of cert)) text

-- and its fault
abbrev pub Breaks : Draft → ℕ → List ℕ → ℕ → CertFault → Type 0
Breaks d count rest k fault = (text : List ℕ) (n : ℕ) → ReadsLines d.version text n (PairsLine count ∷ []) rest k
    → FaultFrom d.version fault n (draft_state d) text

-- lines of a version that were read behind its first one
pub opens : (bytes : List ℕ) (v : Version) (text : List ℕ) (n : ℕ) (d : Draft) (count : ℕ) (before : List ℕ) (m : ℕ) (rest : List ℕ) (k : ℕ)
    → bytes ≡ first_line v ++ (10 ∷ text) → verdict bytes ≡ lines_outcome v n first_state (lines text) → PairsCome v text n d count before m rest k → Opens bytes d count rest k
opens bytes v text n d count before m rest k starts told come =
    let same = come.version in
    record {
      text = text;
      n = n;
      before = before;
      m = m;
      starts = subst (λ (w : Version). bytes ≡ first_line w ++ (10 ∷ text)) (sym same) starts;
      told = subst (λ (w : Version). verdict bytes ≡ lines_outcome w n first_state (lines text)) (sym same) told;
      come = subst (λ (w : Version). PairsCome w text n d count before m rest k) (sym same) come;
    }

-- the certificate is that of the text
pub closed_text : (r : Result Cert CertFault) (bytes : List ℕ) (d : Draft) (count : ℕ) (rest : List ℕ) (k : ℕ) → Opens bytes d count rest k
    → IfOk r (Closes d count rest k) → IfOk r (IsCertText bytes)
closed_text (Err e) bytes d count rest k o h = tt
closed_text (Ok cert) bytes d count rest k o h =
    let whole = h o.before o.m o.come.pairs in
    let all = whole_text d.version o.text o.n (draft_lines d) (content_lines (content_of cert)) o.before o.m o.come.follows whole in
    whole_cert_text (Ok cert) d.version bytes o.text o.starts all

-- the fault is the first of the text
pub broken_text : (r : Result Cert CertFault) (bytes : List ℕ) (d : Draft) (count : ℕ) (rest : List ℕ) (k : ℕ) → Opens bytes d count rest k
    → IfErr r (Breaks d count rest k) → IfErr r (λ e. IsFirstFault e bytes)
broken_text (Ok cert) bytes d count rest k o h = tt
broken_text (Err Memory) bytes d count rest k o h = tt
broken_text (Err (At code line)) bytes d count rest k o h = o.told ∙ sym o.come.state ∙ h o.before o.m o.come.pairs

-- ---- the end of a text
last_of : (front back : List ℕ) → drop (length (front ++ back) - length back) (front ++ back) ≡ back
last_of front back = subst (λ (n : ℕ). drop n (front ++ back) ≡ back) (sym (count front back)) (past front)
  where
    count : (xs ys : List ℕ) → length (xs ++ ys) - length ys ≡ length xs
    count xs ys = let e = length-append xs ys in omega arith

    past : (xs : List ℕ) → drop (length xs) (xs ++ back) ≡ back
    past [] = refl
    past (x ∷ xs) = past xs

-- what comes after the line that counts the pairs is the end of the text
pub rest_is_last : (bytes : List ℕ) (d : Draft) (count : ℕ) (rest : List ℕ) (k : ℕ) → Opens bytes d count rest k → drop (length bytes - length rest) bytes ≡ rest
rest_is_last bytes d count rest k o =
    let front = first_line d.version ++ (10 ∷ (text_of_lines d.version (draft_lines d) ++ text_of_lines d.version (PairsLine count ∷ []))) in
    let e : bytes ≡ front ++ rest = o.starts ∙ ap (λ (t : List ℕ). first_line d.version ++ (10 ∷ t))
    (o.come.follows.parts ∙ ap (λ (b : List ℕ). text_of_lines d.version (draft_lines d) ++ b) o.come.pairs.parts
    ∙ sym (append_assoc (text_of_lines d.version (draft_lines d)) (text_of_lines d.version (PairsLine count ∷ [])) rest))
    ∙ sym (append_assoc (first_line d.version) (10 ∷ (text_of_lines d.version (draft_lines d) ++ text_of_lines d.version (PairsLine count ∷ []))) rest) in
    subst (λ (bs : List ℕ). drop (length bs - length rest) bs ≡ rest) (sym e) (last_of front rest)

-- so it may be read as a text of its own
pub opens_last : (bytes : List ℕ) (d : Draft) (count left : ℕ) (rest part : List ℕ) (k : ℕ) → Opens bytes d count rest k → left ≡ length rest
    → part ≡ drop (length bytes - left) bytes → rest ≡ part
opens_last bytes d count left rest part k o e f =
    sym (f ∙ ap (λ (n : ℕ). drop (length bytes - n) bytes) e ∙ rest_is_last bytes d count rest k o)

-- the end of a list, moved to its front
pub kept_last : (xs : List ℕ) (front : ℕ) → front ≤ length xs
    → take (length xs - front) (take (length xs - front) (drop front xs) ++ drop (length xs - front) xs) ≡ drop front xs
kept_last xs front l =
    let n = length xs - front in
    let ys = drop front xs in
    let long = length-drop front xs in
    rw (take_all n ys (omega (arith, long))) (take-append-le n ys (drop n xs) (omega (arith, long)) ∙ take_all n ys (omega (arith, long)))
