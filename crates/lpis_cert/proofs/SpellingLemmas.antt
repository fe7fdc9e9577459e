-- The texts of lines that are numbers after a letter.
use Rattle.std.proofs.Common.{◌≡◌, ℕ, List, [], ◌∷◌, ◌++◌, Bool, true, false, refl, ap, ◌∙◌, append_assoc}
use Rattle.std.specs.Fmt.{decimal, signed_decimal}
use Rattle.lpis_cert.proofs.Common.{Corners, Separator, spelling, words_of, text_of_lines, corner_line}
use Rattle.lpis_cert.specs.CertText.{PairLine as separator_line}
use Rattle.lpis_cert.specs.private.Written.{corner_letter, line_text}

-- a word, a space, and the end of a line behind what follows
before : (word more end : List ℕ) → more ++ 10 ∷ [] ≡ end → (word ++ 32 ∷ more) ++ 10 ∷ [] ≡ word ++ 32 ∷ end
before word more end e = append_assoc word (32 ∷ more) (10 ∷ []) ∙ ap (λ (t : List ℕ). word ++ 32 ∷ t) e

-- the text of a pair's line
pub pair-text : (p : Separator) → line_text (separator_line p) ≡ 115 ∷ 32 ∷ (decimal p.i ++ 32 ∷ (decimal p.j ++ 32 ∷ (decimal p.k ++ 10 ∷ [])))
unfolding line_text spelling words_of text_of_lines
pair-text p = ap (λ (t : List ℕ). 115 ∷ 32 ∷ t) (before (decimal p.i) _ _ (before (decimal p.j) _ _ refl))

-- what stands behind the letter and a space in the line of a triangle or a flat
abbrev pub corners_tail : Corners → List ℕ
corners_tail c = signed_decimal c.x1 ++ 32 ∷ (signed_decimal c.y1 ++ 32 ∷ (signed_decimal c.x2 ++ 32 ∷ (signed_decimal c.y2
    ++ 32 ∷ (signed_decimal c.x3 ++ 32 ∷ (signed_decimal c.y3 ++ 10 ∷ [])))))

-- the text of such a line
pub corners-text : (flat : Bool) (c : Corners) → line_text (corner_line flat c) ≡ corner_letter flat ∷ 32 ∷ corners_tail c
unfolding line_text spelling words_of text_of_lines
corners-text false c = ap (λ (t : List ℕ). 116 ∷ 32 ∷ t) (before (signed_decimal c.x1) _ _ (before (signed_decimal c.y1) _ _
    (before (signed_decimal c.x2) _ _ (before (signed_decimal c.y2) _ _ (before (signed_decimal c.x3) _ _ refl)))))
corners-text true c = ap (λ (t : List ℕ). 102 ∷ 32 ∷ t) (before (signed_decimal c.x1) _ _ (before (signed_decimal c.y1) _ _
    (before (signed_decimal c.x2) _ _ (before (signed_decimal c.y2) _ _ (before (signed_decimal c.x3) _ _ refl)))))
