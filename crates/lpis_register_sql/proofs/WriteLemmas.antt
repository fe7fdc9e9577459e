-- Steps of a statement that did not stop.
use Rattle.std.proofs.Common.{◌≡◌, ◌⊎◌, inl, inr, Ok, Err, Result}

-- a part that gave a value did not stop on the way
pub did_not_stop : {B E R : Type 0} {b : B} {Stops : E → Type 0} → ((stop : E) × Stops stop × (Ok b ≡ Err stop)) ⊎ R → R
did_not_stop (inl stopped) = absurd (let e = stopped.2 in cc)
did_not_stop (inr on) = on

-- two equal Ok results have equal values
pub same_value : {B E : Type 0} {a b : B} → ◌≡◌ {A = Result B E} (Ok a) (Ok b) → a ≡ b
same_value e = cc
