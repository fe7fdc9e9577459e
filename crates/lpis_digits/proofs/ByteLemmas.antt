-- Bytes of a text, and how many of them pass a test.
use Rattle.std.proofs.Common.{◌≡◌, ℕ, zero, suc, ◌+◌, ◌<◌, ◌≤◌, Bool, true, false, cond, min, ◌&&◌, List, [], ◌∷◌, take, get_or, Fits, w8, refl, ap, ap₂, ◌∙◌, arith}
use Rattle.std.specs.List.{prefix_len, list_all}
use Rattle.lpis_digits.specs.private.Words.{AllBytes}

-- the first of a slice's bytes are bytes
pub first_bytes : (n : ℕ) (text : List ℕ) → ((k : ℕ) → Fits w8 (get_or text k 0)) → AllBytes (take n text)
first_bytes zero text h = tt
first_bytes (suc n) [] h = tt
first_bytes (suc n) (b ∷ bs) h = ((h 0).fits, first_bytes n bs (λ k. h (suc k)))

-- two tests that agree at each byte pass as many
pub same_run : (p q : ℕ → Bool) → ((b : ℕ) → b < 256 → p b ≡ q b) → (bs : List ℕ) → AllBytes bs → prefix_len p bs ≡ prefix_len q bs
same_run p q same [] h = refl
same_run p q same (b ∷ bs) h = ap₂ (λ t n. cond t (1 + n) 0) (same b h.0) (same_run p q same bs h.1)

run_of_first : (t : Bool) (n m : ℕ) → cond t (1 + min n m) 0 ≡ min (suc n) (cond t (1 + m) 0)
run_of_first true n m = omega arith
run_of_first false n m = omega arith

-- of the first n, as many pass as of all, or n
pub run_of_take : (p : ℕ → Bool) (n : ℕ) (bs : List ℕ) → prefix_len p (take n bs) ≡ min n (prefix_len p bs)
run_of_take p zero bs = omega arith
run_of_take p (suc n) [] = omega arith
run_of_take p (suc n) (b ∷ bs) = ap (λ m. cond (p b) (1 + m) 0) (run_of_take p n bs) ∙ run_of_first (p b) n (prefix_len p bs)

passes-by : (t : Bool) (n m : ℕ) (rest : Bool) → suc n ≤ cond t (1 + m) 0 → (n ≤ m → rest ≡ true) → (t && rest) ≡ true
passes-by true n m rest le ih = ih (omega arith)
passes-by false n m rest le ih = absurd (omega arith)

-- those within the run all pass
pub run_passes : (p : ℕ → Bool) (n : ℕ) (bs : List ℕ) → n ≤ prefix_len p bs → list_all p (take n bs) ≡ true
run_passes p zero bs le = refl
run_passes p (suc n) [] le = refl
run_passes p (suc n) (b ∷ bs) le = passes-by (p b) n (prefix_len p bs) (list_all p (take n bs)) le (run_passes p n bs)
