-- A percentage is at most the whole.
use Rattle.std.specs.Prelude.{◌≡◌, ◌≤◌, ◌&&◌, ◌==◌, ◌+◌, ◌*◌, ◌∷◌, Bool, true, false, not, ℕ, List}
use Rattle.std.specs.Prelude.{[], codes, cond, Option, None, Some, refl}
use Rattle.std.proofs.Common.{arith}
use Rattle.std.proofs.lemmas.Bool.{and_parts}
use Rattle.std.proofs.lemmas.Bool.Decides.{nat_tests}
use Rattle.std.specs.Char.{is_ascii_digit}
use Rattle.std.specs.Option.{ok_or}
use Rattle.std.specs.Result.{result_unwrap_or}
use Rattle.std.specs.Str.{bytes_eq}
use Rattle.lpis_tables.specs.declared.fault.TableCode.{TableCode}
use Rattle.lpis_tables.specs.declared.fault.TableCode.TheVariants.{BadEligible, BadPercent}
use Rattle.lpis_tables.specs.Percentages.{digit, percent_of_mark, most_percent, percent_in}
use Rattle.lpis_tables.specs.Percentages.{percentage_in}

small-digit : (a : ℕ) → is_ascii_digit a ≡ true → digit a ≤ 9
small-digit a h = grind (arith, nat_tests)

within-by : (b : Bool) (m n : ℕ) (o : Option ℕ) → (b ≡ true → m ≤ most_percent)
    → (o ≡ Some n → n ≤ most_percent) → cond b (Some m) o ≡ Some n → n ≤ most_percent
within-by true m n o le other h = let e : m ≡ n = cc h in rw (← e) (le refl)
within-by false m n o le other h = other h

no-other : (n : ℕ) → ◌≡◌ {A = Option ℕ} None (Some n) → n ≤ most_percent
no-other n h = cc h

percent-within : (text : List ℕ) (n : ℕ) → percent_in text ≡ Some n → n ≤ most_percent
percent-within [] n h = cc h
percent-within (a ∷ []) n h = within-by (is_ascii_digit a) (digit a) n None
    (λ t. omega (arith, small-digit a t)) (no-other n) h
percent-within (a ∷ b ∷ []) n h =
    within-by ((is_ascii_digit a && not (a == 48)) && is_ascii_digit b) (digit a * 10 + digit b) n
    None
    (λ t. let p = and_parts (is_ascii_digit a && not (a == 48)) (is_ascii_digit b) t in
    omega (arith, small-digit a (and_parts (is_ascii_digit a) _ p.0).0, small-digit b p.1))
    (no-other n) h
percent-within (a ∷ b ∷ c ∷ more) n h =
    within-by (bytes_eq (a ∷ b ∷ c ∷ more) (codes "100")) most_percent n None (λ t. omega arith)
    (no-other n) h

mark-within : (text : List ℕ) (n : ℕ) → percent_of_mark text ≡ Some n → n ≤ most_percent
mark-within text n h =
    within-by (bytes_eq text (codes "0")) 0 n _ (λ t. omega arith)
    (within-by (bytes_eq text (codes "1")) most_percent n None (λ t. omega arith) (no-other n)) h

or-within : (o : Option ℕ) (code : TableCode)
    → ((m : ℕ) → o ≡ Some m → m ≤ most_percent) → result_unwrap_or (ok_or o code) 0 ≤ most_percent
or-within None code all = omega arith
or-within (Some m) code all = all m refl

pub percentage-within : (percent : Option (List ℕ)) (eligible : List ℕ)
    → result_unwrap_or (percentage_in percent eligible) 0 ≤ most_percent
percentage-within (Some text) eligible = or-within (percent_in text) BadPercent
    (percent-within text)
percentage-within None eligible =
    or-within (percent_of_mark eligible) BadEligible (mark-within eligible)
