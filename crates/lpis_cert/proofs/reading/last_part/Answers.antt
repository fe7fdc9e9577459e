use Rattle.std.proofs.Common.{◌≡◌, ℕ, ◌+◌, ◌-◌, List, ◌++◌, length, drop, take, ap, arith, ◌∙◌}
use Rattle.lpis_cert.proofs.OpenLemmas.{kept_last}
use Rattle.lpis_cert.proofs.reading.last_part.Goals as goal

none_more : (n : ℕ) → 0 + n ≡ n
none_more n = omega arith

-- the end of a list, by the lengths as the code has them
moved : (xs ys zs : List ℕ) (left front n m p : ℕ) → n ≡ length xs → m ≡ length xs → p ≡ length xs → front ≡ n - left
    → ys ≡ take (p - front) (drop front xs) ++ drop (0 + (p - front)) xs → zs ≡ take (m - front) ys → zs ≡ drop (length xs - left) xs
moved xs ys zs left front n m p e f d g h k =
    let at : front ≡ length xs - left = g ∙ ap (λ (v : ℕ). v - left) e in
    let moved : ys ≡ take (length xs - front) (drop front xs) ++ drop (length xs - front) xs = h ∙ ap (λ (v : ℕ). take (v - front) (drop front xs) ++ drop (0 + (v - front)) xs) d
    ∙ ap (λ (v : ℕ). take (length xs - front) (drop front xs) ++ drop v xs) (none_more (length xs - front)) in
    k ∙ ap (λ (v : ℕ). take (v - front) ys) f ∙ ap (λ (vs : List ℕ). take (length xs - front) vs) moved ∙ kept_last xs front (omega (arith, at)) ∙ ap (λ (v : ℕ). drop v xs) at

pub returns : goal.returns
returns c =
    let long = c.args.text.ok.0 in
    c.in_ok-part.ensures ∙ moved c.args.text.items c.copy_within.new.self.items c.truncate.new.self.items c.args.left c.saturating_sub-front.result c.len.result
    c.len-2.result c.args.text.len (c.len.ensures ∙ long) (c.len-2.ensures ∙ c.copy_within.ensures.len ∙ long) long c.saturating_sub-front.ensures
    c.copy_within.ensures.items c.truncate.ensures.items
