use Rattle.std.proofs.Common.{◌≡◌, ℕ, zero, suc, ◌≤◌, ◌^◌, [], ◌∷◌, get_or, refl, arith}
use Rattle.lpis_digits.proofs.powers.power_of_ten.Goals as goal

-- the table has at each place the power of that place
power_at : (k : ℕ) → k ≤ 16
    → get_or (1 ∷ 10 ∷ 100 ∷ 1000 ∷ 10000 ∷ 100000 ∷ 1000000 ∷ 10000000 ∷ 100000000 ∷ 1000000000 ∷ 10000000000
    ∷ 100000000000 ∷ 1000000000000 ∷ 10000000000000 ∷ 100000000000000 ∷ 1000000000000000 ∷ 10000000000000000 ∷ []) k 0
    ≡ 10 ^ k
power_at zero le = refl
power_at (suc zero) le = refl
power_at (suc (suc zero)) le = refl
power_at (suc (suc (suc zero))) le = refl
power_at (suc (suc (suc (suc zero)))) le = refl
power_at (suc (suc (suc (suc (suc zero))))) le = refl
power_at (suc (suc (suc (suc (suc (suc zero)))))) le = refl
power_at (suc (suc (suc (suc (suc (suc (suc zero))))))) le = refl
power_at (suc (suc (suc (suc (suc (suc (suc (suc zero)))))))) le = refl
power_at (suc (suc (suc (suc (suc (suc (suc (suc (suc zero))))))))) le = refl
power_at (suc (suc (suc (suc (suc (suc (suc (suc (suc (suc zero)))))))))) le = refl
power_at (suc (suc (suc (suc (suc (suc (suc (suc (suc (suc (suc zero))))))))))) le = refl
power_at (suc (suc (suc (suc (suc (suc (suc (suc (suc (suc (suc (suc zero)))))))))))) le = refl
power_at (suc (suc (suc (suc (suc (suc (suc (suc (suc (suc (suc (suc (suc zero))))))))))))) le = refl
power_at (suc (suc (suc (suc (suc (suc (suc (suc (suc (suc (suc (suc (suc (suc zero)))))))))))))) le = refl
power_at (suc (suc (suc (suc (suc (suc (suc (suc (suc (suc (suc (suc (suc (suc (suc zero))))))))))))))) le = refl
power_at (suc (suc (suc (suc (suc (suc (suc (suc (suc (suc (suc (suc (suc (suc (suc (suc zero)))))))))))))))) le = refl
power_at (suc (suc (suc (suc (suc (suc (suc (suc (suc (suc (suc (suc (suc (suc (suc (suc (suc k))))))))))))))))) le = absurd (omega arith)

pub returns : goal.returns
returns c = power_at c.args.exponent c.requires
