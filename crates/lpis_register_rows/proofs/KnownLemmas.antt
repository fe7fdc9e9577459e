-- Rows with their identifiers read, one more.
use Rattle.std.proofs.Common.{◌≡◌, ◌∙◌, ◌<◌, ◌≤◌, ◌+◌, sym, ap, ap₂, subst, arith, ℕ, ℤ, pos, zero, suc, List, [], ◌∷◌, ◌++◌, Bool, true, false, length, map, take, drop, get_or, ◌||◌}
use Rattle.std.proofs.Common.{◌&&◌, add-one, drop-cons, nat_lt, All}
use Rattle.lpis_register_rows.proofs.Common.{list_any, nat_tests, map-append, All-push, has_id, same_id, Row, take-at, KnownLine}
use Rattle.lpis_register_rows.proofs.Common.{KnownSpan}
use Rattle.lpis_register_rows.proofs.Common.{covers, known_from, span_in}
use Rattle.std.proofs.lemmas.Grind.{common_steps}
use Rattle.std.proofs.lemmas.List.{append_assoc}
use Rattle.std.proofs.Math.Bool.{and-true, or-false, and-false}
use Rattle.lpis_lineage.proofs.Shared.{any-push}
use Rattle.lpis_register_rows.specs.private.Known.{known_line_at}

-- no test is both true and false
pub no-both : {P : Type 0} → (b : Bool) → b ≡ true → b ≡ false → P
no-both true t f = cc f
no-both false t f = cc t

-- the test for less fails where the second number is at most the first
pub not-below : {P : Type 0} → (a b : ℕ) → b ≤ a → nat_lt a b ≡ true → P
not-below a b le t = absurd (let lt : a < b = grind (arith, nat_tests, t) in omega (arith, le, lt))

-- what holds of each element holds of the one at a position
pub all-at : {A : Type 0} (P : A → Type 0) (xs : List A) (i : ℕ) (x : A) → i < length xs → x ≡ get_or xs i x → All P xs → P x
all-at P xs i x lt at all = subst P (sym at) (all i x lt)

-- the line at a position of those that were read
pub known-at : (ks : List KnownLine) (i : ℕ) (l : KnownLine) → i < length ks → l ≡ get_or ks i l → known_line_at ks i ≡ l
known-at [] i l lt at = absurd (omega (arith, lt))
known-at (k ∷ ks) zero l lt at = sym at
known-at (k ∷ ks) (suc i) l lt at = known-at ks i l (omega (arith, lt)) at

-- past the end of the lines there is no line of a year
pub known-past : {P : Type 0} → (ks : List KnownLine) (i : ℕ) (y : ℕ) → length ks ≤ i → (known_line_at ks i).year ≡ pos y → P
known-past [] i y le e = absurd cc
known-past (k ∷ ks) zero y le e = absurd (omega (arith, le))
known-past (k ∷ ks) (suc i) y le e = known-past ks i y (omega (arith, le)) e

-- what is left of a list begins with the element at the position
pub drop-at : {A : Type 0} (xs : List A) (i : ℕ) (x : A) → i < length xs → x ≡ get_or xs i x → drop i xs ≡ x ∷ drop (i + 1) xs
drop-at {A} xs i x lt is = rw add-one (drop-cons xs i x lt ∙ ap (λ (y : A). y ∷ drop (suc i) xs) (sym is))

-- a list read one further
pub read-more : {A B : Type 0} (f : A → B) (known : List A) (k : A) (rows : List B) (i : ℕ) (row : B) → map f known ≡ take i rows → i < length rows
    → row ≡ get_or rows i row → f k ≡ row → map f (known ++ k ∷ []) ≡ take (i + 1) rows
read-more {B = B} f known k rows i row e lt at is = map-append f known (k ∷ []) ∙ ap₂ (λ (a : List B) (b : B). a ++ b ∷ []) e is ∙ take-at rows i row lt at

-- the identifiers whose span covers a year, one further
abbrev pub AreLive : List (List ℕ) → ℕ → List KnownSpan → Type 0
AreLive ids year spans = (id : List ℕ) → has_id ids id ≡ list_any (λ s. same_id id s.id && covers (span_in s) year) spans

-- a span that covers the year adds its identifier to those found live, one span further
pub live-then : (spans : List KnownSpan) (i : ℕ) (s : KnownSpan) (ids new : List (List ℕ)) (id : List ℕ) (year : ℕ) → i < length spans
    → s ≡ get_or spans i s → covers (span_in s) year ≡ true → id ≡ s.id → new ≡ ids ++ id ∷ [] → AreLive ids year (take i spans)
    → AreLive new year (take (i + 1) spans)
live-then spans i s ids new id year lt at does is n live = subst (AreLive new year) (take-at spans i s lt at) (λ q.
    ap (λ (l : List (List ℕ)). has_id l q) n ∙ any-push (same_id q) ids id
    ∙ ap₂ (λ (a b : Bool). a || b) (live q) (ap (same_id q) is ∙ sym (and-true (same_id q s.id)) ∙ ap (λ (b : Bool). same_id q s.id && b) (sym does))
    ∙ sym (any-push (λ (t : KnownSpan). same_id q t.id && covers (span_in t) year) (take i spans) s))

-- a span that does not cover the year leaves those found live as they are, one span further
pub live-else : (spans : List KnownSpan) (i : ℕ) (s : KnownSpan) (ids : List (List ℕ)) (year : ℕ) → i < length spans → s ≡ get_or spans i s
    → covers (span_in s) year ≡ false → AreLive ids year (take i spans) → AreLive ids year (take (i + 1) spans)
live-else spans i s ids year lt at doesnt live = subst (AreLive ids year) (take-at spans i s lt at) (λ q.
    live q ∙ sym (or-false (list_any (λ t. same_id q t.id && covers (span_in t) year) (take i spans)))
    ∙ ap (λ (b : Bool). list_any (λ t. same_id q t.id && covers (span_in t) year) (take i spans) || b) (sym (and-false (same_id q s.id)) ∙ ap (λ (b : Bool). same_id q s.id && b) (sym doesnt))
    ∙ sym (any-push (λ (t : KnownSpan). same_id q t.id && covers (span_in t) year) (take i spans) s))

-- rows that were read, of which each has a property, one row further
pub rows-more : {A B : Type 0} (f : A → B) (P : A → Type 0) (rows : List B) (i : ℕ) (row : B) (known new : List A) (s : A) → i < length rows → row ≡ get_or rows i row
    → f s ≡ row → P s → new ≡ known ++ s ∷ []
    → (map f known ≡ take i rows) × All P known → (map f new ≡ take (i + 1) rows) × All P new
rows-more f P rows i row known new s lt at is p n inv = rw n (read-more f known s rows i row inv.0 lt at is, All-push P known s inv.1 p)

-- what all of the first i elements and the next one have, all of the first i + 1 have
pub all-more : {A : Type 0} (P : A → Type 0) (xs : List A) (i : ℕ) (x : A) → i < length xs → x ≡ get_or xs i x → All P (take i xs) → P x → All P (take (i + 1) xs)
all-more P xs i x lt at all p = subst (All P) (take-at xs i x lt at) (All-push P (take i xs) x all p)

-- at least as many elements as a list has, taken from its start, are the whole list
pub take-whole : {A : Type 0} (xs : List A) (i : ℕ) → length xs ≤ i → take i xs ≡ xs
take-whole [] i le = grind (arith, common_steps)
take-whole {A = A} (x ∷ xs) zero le = absurd (omega arith)
take-whole {A = A} (x ∷ xs) (suc i) le = ap (λ (l : List A). x ∷ l) (take-whole xs i (omega arith))

-- what all of the first i elements have, all elements have where there are at most i
pub all-whole : {A : Type 0} (P : A → Type 0) (xs : List A) (i : ℕ) → length xs ≤ i → All P (take i xs) → All P xs
all-whole P xs i le all = subst (All P) (take-whole xs i le) all

lines-push : (y : ℤ) (n m : ℕ) (rs : List Row) (r : Row) → m ≡ n + length rs → known_from y n (rs ++ r ∷ []) ≡ known_from y n rs ++ known_from y m (r ∷ [])
lines-push y n m [] r e = let s : n ≡ m = omega (arith, e) in ap (λ (k : ℕ). known_from y k (r ∷ [])) s
lines-push y n m (q ∷ rs) r e = ap (λ (l : List KnownLine). (record { year = y; position = pos n; row = q }) ∷ l) (lines-push y (n + 1) m rs r (omega (arith, e)))

-- the rows of a year, one further
pub known-rows-next : (y : ℤ) (front here next : List KnownLine) (rs new : List Row) (r : Row) (m : ℕ) → here ≡ front ++ known_from y 0 rs
    → next ≡ here ++ known_from y m (r ∷ []) → m ≡ length rs → new ≡ rs ++ r ∷ [] → next ≡ front ++ known_from y 0 new
known-rows-next y front here next rs new r m h n e w =
    n ∙ ap (λ (l : List KnownLine). l ++ known_from y m (r ∷ [])) h ∙ append_assoc front (known_from y 0 rs) (known_from y m (r ∷ []))
    ∙ ap (λ (l : List KnownLine). front ++ l) (sym (lines-push y 0 m rs r (omega (arith, e))) ∙ ap (known_from y 0) (sym w))
