-- One line taken, and the lines after it.
use Rattle.std.proofs.Common.{◌≡◌, ℕ, zero, suc, ◌+◌, true, List, [], ◌∷◌, ◌++◌, length, Some, None, Ok, Err, refl, sym, ap, ◌∙◌, arith, append_assoc, length-append}
use Rattle.std.proofs.Common.{inl, inr}
use Rattle.lpis_cert.proofs.Common.{AllByRecursion, CertCode, CertFault, Kind, Piece, Flat, Parcel, Exact, Pairs, Pair, End, One, Block, Version, CertLine, spelling, text_of_lines}
use Rattle.lpis_cert.proofs.Common.{can_stand, values, read_line, is_lf, lines}
use Rattle.lpis_cert.proofs.Common.{lines_outcome, at_last, line_step, LineState, InBody, InPairs, AtEnd, LineFits, line_kind, Placed, LineFault, ReadsLines}
use Rattle.lpis_cert.proofs.Common.{FaultFrom}
use Rattle.lpis_cert.specs.declared.fault.CertFault.TheVariants.{Memory, At}
use Rattle.lpis_cert.specs.declared.kind.Kind.TheVariants.{Triangle}
use Rattle.lpis_cert.specs.declared.kind.Expected.{Expected}
use Rattle.lpis_cert.specs.Reading.{same_kind, kind_placed}
use Rattle.lpis_cert.specs.private.Taken.{FailsWith}
use Rattle.lpis_cert.proofs.SplittingLemmas.{split_some}
use Rattle.lpis_cert.proofs.WordLemmas.{lines_from}
use Rattle.lpis_cert.proofs.LineLemmas.{placed_takes}
use Rattle.lpis_cert.specs.declared.fault.CertCode.TheVariants as code

same_kind_is : (a b : Kind) → same_kind a b ≡ true → a ≡ b
same_kind_is Piece Piece h = refl
same_kind_is Triangle Triangle h = refl
same_kind_is Flat Flat h = refl
same_kind_is Parcel Parcel h = refl
same_kind_is Exact Exact h = refl
same_kind_is Pairs Pairs h = refl
same_kind_is Pair Pair h = refl
same_kind_is End End h = refl
same_kind_is _ _ h = absurd cc

-- ---- from a placed line to a line that is read

-- a line that is placed is of a kind that can stand there
pub formed_stands : (v : Version) (e : Expected) (line : List ℕ) (k : Kind) (ws : List (List ℕ)) → kind_placed v e line ≡ Ok (k, ws) → can_stand e k ≡ true
unfolding kind_placed
formed_stands v e line k ws h = grind arith

-- the kind, where one alone can stand
pub only_expected_kind : {v : Version} {k : Kind} {text : List ℕ} {n : ℕ} {given : Kind} {ws : List (List ℕ)} {rest : List ℕ} {m : ℕ} → Placed v (One k) text n given ws rest m → given ≡ k
only_expected_kind {v} {k} {given = given} {ws} p = grind (arith, same_kind_is, formed_stands)

-- a line was taken
pub placed_line_taken : {e : Expected} {text : List ℕ} {n : ℕ} {k : Kind} {ws : List (List ℕ)} {rest : List ℕ} {m : ℕ} (v : Version) (l : CertLine)
    → Placed v e text n k ws rest m → values v k ws ≡ Some l
    → ReadsLines v text n (l ∷ []) rest m × LineFits v l × (can_stand e (line_kind l) ≡ true)
unfolding text_of_lines
placed_line_taken {e} {k = k} {ws} {rest} v l p h = grind (arith, placed_takes, append_assoc (spelling v l) (10 ∷ []) rest)

-- or its values are no numbers
pub placed_number_fault : {e : Expected} {text : List ℕ} {n : ℕ} {k : Kind} {ws : List (List ℕ)} {rest : List ℕ} {m : ℕ} (v : Version) → Placed v e text n k ws rest m
    → values v k ws ≡ None → FailsWith v e text code.Number
unfolding read_line
placed_number_fault {rest = rest} v p h = grind arith

-- ---- one step of the definition

step_ok : (v : Version) (n : ℕ) (p q : LineState) (text line rest : List ℕ) → lines text ≡ line ∷ lines rest → line_step v p line ≡ Ok q
    → lines_outcome v n p (lines text) ≡ lines_outcome v (n + 1) q (lines rest)
unfolding lines_outcome
step_ok v n p q text line rest e h = grind (arith, split_some is_lf rest)

-- where the step over the first line of a text fails, its code and the number of that line are the outcome
pub step_err : (v : Version) (n : ℕ) (p : LineState) (c : CertCode) (text line rest : List ℕ) → lines text ≡ line ∷ lines rest → line_step v p line ≡ Err c
    → lines_outcome v n p (lines text) ≡ Err (c, n)
unfolding lines_outcome
step_err v n p c text line rest e h = grind (arith, split_some is_lf rest)

-- what one state wants
abbrev pub Wants : LineState → Expected → Type 0
Wants (InBody b (suc t) f d) e = One Triangle ≡ e
Wants (InBody b zero (suc f) d) e = One Flat ≡ e
Wants (InBody b zero zero d) e = Block b ≡ e
Wants (InPairs (suc n)) e = One Pair ≡ e
Wants (InPairs zero) e = One End ≡ e
Wants _ _ = ⊥

step_fails : (v : Version) (p : LineState) (e : Expected) (line : List ℕ) (c : CertCode) → Wants p e → read_line v e line ≡ Err c → line_step v p line ≡ Err c
unfolding line_step
step_fails v (InBody b zero zero d) e line c w h = rw (w, h) refl
step_fails v (InPairs zero) e line c w h = rw (w, h) refl
step_fails v AtEnd e line c w h = absurd w
step_fails v _ e line c w h = rw (w, h) refl

last_fails : (v : Version) (n : ℕ) (p : LineState) (e : Expected) (text : List ℕ) → Wants p e → lines text ≡ text ∷ []
    → lines_outcome v n p (lines text) ≡ Err (code.Truncated, n)
unfolding lines_outcome at_last
last_fails v n (InBody b t f d) e text w h = rw h refl
last_fails v n (InPairs k) e text w h = rw h refl
last_fails v n AtEnd e text w h = absurd w

fails : (v : Version) (n : ℕ) (p : LineState) (e : Expected) (text : List ℕ) (c : CertCode) → Wants p e → FailsWith v e text c
    → lines_outcome v n p (lines text) ≡ Err (c, n)
fails v n p e text c w (inl h) = let is = h.1 in rw is (last_fails v n p e text w h.0)
fails v n p e text c w (inr h) = step_err v n p c text h.0 h.1 h.2 (step_fails v p e h.0 c w h.3)

-- a fault of the line that the state wants is the first fault from there on
pub fault_here : (v : Version) (x : CertFault) (n : ℕ) (p : LineState) (e : Expected) (text : List ℕ) → Wants p e → LineFault v x n e text → FaultFrom v x n p text
fault_here v Memory n p e text w h = tt
fault_here v (At c m) n p e text w h = let is = h.0 in rw is (fails v n p e text c w h.1)

-- ---- lines that were taken

-- each of these lines takes the state on
abbrev pub Goes : Version → LineState → List CertLine → LineState → Type 0
Goes v p [] q = p ≡ q
Goes v p (l ∷ ls) q = LineFits v l × ((r : LineState) × (line_step v p (spelling v l) ≡ Ok r) × Goes v r ls q)

-- a text of lines that take a state to another, and a rest, has the outcome of the rest from that other state on
pub outcome_past_text : (v : Version) (n : ℕ) (p q : LineState) (ls : List CertLine) (rest : List ℕ) → Goes v p ls q
    → lines_outcome v n p (lines (text_of_lines v ls ++ rest)) ≡ lines_outcome v (n + length ls) q (lines rest)
unfolding text_of_lines
outcome_past_text v n p q [] rest h = grind arith
outcome_past_text v n p q (l ∷ ls) rest h =
    let text : (spelling v l ++ (10 ∷ text_of_lines v ls)) ++ rest ≡ spelling v l ++ (10 ∷ (text_of_lines v ls ++ rest)) =
    append_assoc (spelling v l) (10 ∷ text_of_lines v ls) rest in
    let first = step_ok v n p h.1.0 (spelling v l ++ (10 ∷ (text_of_lines v ls ++ rest))) (spelling v l) (text_of_lines v ls ++ rest)
    (lines_from v l (text_of_lines v ls ++ rest) h.0) h.1.1 in
    let more = outcome_past_text v (n + 1) h.1.0 q ls rest h.1.2 in
    let count : n + 1 + length ls ≡ n + length (l ∷ ls) = omega arith in
    ap (λ (t : List ℕ). lines_outcome v n p (lines t)) text ∙ first ∙ more ∙ ap (λ (k : ℕ). lines_outcome v k q (lines rest)) count

-- where lines that take a state to another were read, the outcome is that of the rest from that other state on
pub outcome_past_lines : {v : Version} {text : List ℕ} {n : ℕ} {ls : List CertLine} {rest : List ℕ} {m : ℕ} (p q : LineState) → ReadsLines v text n ls rest m → Goes v p ls q
    → lines_outcome v n p (lines text) ≡ lines_outcome v m q (lines rest)
outcome_past_lines {v} {n = n} {ls} {rest} p q f g =
    let parts = f.parts in
    let next = f.next in
    rw (parts, next) (outcome_past_text v n p q ls rest g)

-- the first fault of what comes after lines that were read and take the state on is the first from their start
pub fault_after : {v : Version} {text : List ℕ} {n : ℕ} {ls : List CertLine} {rest : List ℕ} {m : ℕ} (x : CertFault) (p q : LineState)
    → ReadsLines v text n ls rest m → Goes v p ls q → FaultFrom v x m q rest → FaultFrom v x n p text
fault_after Memory p q f g h = tt
fault_after (At c k) p q f g h = outcome_past_lines p q f g ∙ h

-- the text of two lists of lines together is that of the first and then that of the second
pub text-append : (v : Version) (xs ys : List CertLine) → text_of_lines v (xs ++ ys) ≡ text_of_lines v xs ++ text_of_lines v ys
unfolding text_of_lines
text-append v [] ys = refl
text-append v (l ∷ xs) ys = cc (text-append v xs ys, append_assoc (spelling v l) (10 ∷ text_of_lines v xs) (text_of_lines v ys))

-- what holds of each item of two lists holds of each of both together
pub all-append : {A : Type 0} (P : A → Type 0) (xs ys : List A) → AllByRecursion P xs → AllByRecursion P ys → AllByRecursion P (xs ++ ys)
all-append P [] ys h k = k
all-append P (x ∷ xs) ys h k = (h.0, all-append P xs ys h.1 k)

-- lines that were read, and others right after them, were read as one list
pub follows_both : {v : Version} {a : List ℕ} {n : ℕ} {xs : List CertLine} {b : List ℕ} {m : ℕ} {ys : List CertLine} {c : List ℕ} {k : ℕ} → ReadsLines v a n xs b m
    → ReadsLines v b m ys c k → ReadsLines v a n (xs ++ ys) c k
follows_both {v} {n = n} {xs} {m = m} {ys} {c} {k} f g = record {
  parts = f.parts ∙ ap (λ (t : List ℕ). text_of_lines v xs ++ t) g.parts ∙ sym (append_assoc (text_of_lines v xs) (text_of_lines v ys) c)
      ∙ ap (λ (t : List ℕ). t ++ c) (sym (text-append v xs ys));
  fits = all-append (LineFits v) xs ys f.fits g.fits;
  next = let e = f.next in let h = g.next in omega (arith, length-append xs ys);
}

-- reading no line leaves the whole text, at the same line
pub follows_none : (v : Version) (a : List ℕ) (n : ℕ) → ReadsLines v a n [] a n
unfolding text_of_lines
follows_none v a n = record { parts = refl; fits = tt; next = omega arith }

-- reading a line that cannot be placed has the same fault
pub place_fault : (v : Version) (e : Expected) (line : List ℕ) (c : CertCode) → kind_placed v e line ≡ Err c → read_line v e line ≡ Err c
unfolding read_line
place_fault v e line c h = rw h refl
