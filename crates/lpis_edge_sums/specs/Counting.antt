-- Counting in lists.
use Rattle.std.specs.Prelude.{◌≡◌, ℕ, List, slice_get, Some, Any}

-- at most one item of a list has the property
abbrev pub AtMostOne : {A : Type 0} → (A → Type 0) → List A → Type 0
AtMostOne {A} P xs = (i j : ℕ) (a b : A) → slice_get xs i ≡ Some a → slice_get xs j ≡ Some b → P a
    → P b → i ≡ j

abbrev pub ExactlyOne : {A : Type 0} → (A → Type 0) → List A → Type 0
ExactlyOne P xs = Any P xs × AtMostOne P xs
