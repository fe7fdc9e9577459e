-- Live rows as spans of one year.
use Rattle.std.proofs.Common.{◌≡◌, ◌∙◌, ◌<◌, ◌≤◌, ◌+◌, refl, sym, ap, ap₂, subst, arith, ℕ, zero, suc, ℤ, pos, List, [], ◌∷◌, ◌++◌, Bool, true, false, length, map, take, get_or, IsPermutation, ◌&&◌}
use Rattle.std.proofs.Common.{◌||◌, nat_eq, nat_le, All, Contains, int_eq}
use Rattle.lpis_register_rows.proofs.Common.{AllByRecursion, list_any, nat_tests, map-append, All-from_recursion, All-push, recursion_from_All, is_id, same_id, Entry, IsLawful, RowsFit, entry_at}
use Rattle.lpis_register_rows.proofs.Common.{holds}
use Rattle.lpis_register_rows.proofs.Common.{in-history, same-exact, same-refl, take-at, above-zero, KnownSpan, KnownLine, Content, Live, StoredSpan, AreLiveOf, HasHistoryByLive, last_of_years}
use Rattle.lpis_register_rows.proofs.Common.{only_format, years_of, covers, Mark, SetsAre, known_of, line_in, marks_in, marks_of, one_year, span_in}
use Rattle.std.specs.Int.Signed.{le_z}
use Rattle.std.proofs.lemmas.List.Elements.{All-contains}
use Rattle.std.proofs.lemmas.Bool.{and_parts}
use Rattle.lpis_register_rows.proofs.OneHistoryLemmas.{covers-years}
use Rattle.lpis_register_rows.proofs.SayingLemmas.{kept-said, told-lines-are, told-marks-are}
use Rattle.std.proofs.lemmas.List.{nil_from_length}
use Rattle.std.proofs.lemmas.List.Sorted.{length_permutation}
use Rattle.lpis_register_rows.proofs.NextReleaseLemmas.{any-map}

-- live rows that were read as spans of one year, with well-formed identifiers, one row further
pub lives-more : (rows : List Live) (i : ℕ) (row : Live) (known new : List KnownSpan) (s : KnownSpan) → i < length rows → row ≡ get_or rows i row
    → span_in s ≡ one_year row → is_id s.id ≡ true → new ≡ known ++ s ∷ []
    → (map span_in known ≡ map one_year (take i rows)) × All (λ s. is_id s.id ≡ true) known → (map span_in new ≡ map one_year (take (i + 1) rows)) × All (λ s. is_id s.id ≡ true) new
lives-more rows i row known new s lt at is id n inv = rw n (
  map-append span_in known (s ∷ []) ∙ ap₂ (λ (a : List StoredSpan) (b : StoredSpan). a ++ b ∷ []) inv.0 is
      ∙ sym (map-append one_year (take i rows) (row ∷ [])) ∙ ap (map one_year) (take-at rows i row lt at),
  All-push (λ (s : KnownSpan). is_id s.id ≡ true) known s inv.1 id,
)

-- what passes among these passes
pub any-contains : {A : Type 0} (p : A → Bool) (xs : List A) (x : A) → Contains xs x → p x ≡ true → list_any p xs ≡ true
any-contains p [] x (k, lt, at) e = absurd (omega arith)
any-contains p (y ∷ ys) x (zero, lt, at) e = ap (λ (b : Bool). b || list_any p ys) (ap p at ∙ e)
any-contains p (y ∷ ys) x (suc k, lt, at) e = later (p y) (any-contains p ys x (k, omega arith, at) e) where
  later : (b : Bool) → list_any p ys ≡ true → (b || list_any p ys) ≡ true
  later true e = refl
  later false e = e

-- where a test passes among a list, the list contains an element that passes
pub some-contained : {A : Type 0} (p : A → Bool) (xs : List A) → list_any p xs ≡ true → (x : A) × Contains xs x × (p x ≡ true)
some-contained p [] e = cc e
some-contained {A = A} p (x ∷ xs) e = by (some-contained p xs) (p x) refl e where
  by : (list_any p xs ≡ true → (y : A) × Contains xs y × (p y ≡ true)) → (b : Bool) → b ≡ p x → (b || list_any p xs) ≡ true → (y : A) × Contains (x ∷ xs) y × (p y ≡ true)
  by ih true eb h = (x, (0, omega arith, refl), sym eb)
  by ih false eb h = let r = ih h in (r.0, (suc r.1.0, (let lt = r.1.1 in omega (arith, lt)), r.1.2), r.2)

-- a year of a history has a position
year-index : (h : List Entry) (z : ℤ) → Contains (years_of h) z → (i : ℕ) × (i < length h) × (z ≡ pos (entry_at h i).year)
year-index [] z (k, lt, at) = absurd (omega arith)
year-index (x ∷ h) z (zero, lt, at) = (0, omega arith, sym at)
year-index (x ∷ h) z (suc k, lt, at) = let r = year-index h z (k, omega arith, at) in (suc r.0, (let l = r.1 in omega (arith, l)), r.2)

-- a span of one year, which is not 0, covers no other year
pub one-covers : (m y : ℕ) → (nat_le m y && (nat_eq m 0 || nat_le y m)) ≡ true → 0 < m → m ≡ y
one-covers m y e p = grind (arith, nat_tests)

-- a span of one year covers that year
pub covers-one : (m : ℕ) → (nat_le m m && (nat_eq m 0 || nat_le m m)) ≡ true
covers-one m = grind (arith, nat_tests)

-- a live row covers one year
pub live-row-covers : (l : Live) (m y : ℕ) → l.year ≡ pos m → covers (one_year l) y ≡ (nat_le m y && (nat_eq m 0 || nat_le y m))
live-row-covers l m y e = ap (λ (z : ℤ). le_z z (pos y) && (int_eq z (pos 0) || le_z (pos y) z)) e ∙ covers-years (record { first = m; last = m }) y

live-told : (h : List Entry) (live : List Live) → IsLawful h → SetsAre (map one_year live) h → ((l : Live) → Contains live l → Contains (years_of h) l.year) → AreLiveOf live h
live-told h live law sets years = record { right = right; whole = whole } where
  test : List ℕ → ℕ → Live → Bool
  test id y l = same_id id l.id && covers (one_year l) y

  right : (l : Live) → Contains live l → (i : ℕ) × (i < length h) × (l.year ≡ pos (entry_at h i).year) × (holds h i l.id ≡ true)
  right l there =
      let p = year-index h l.year (years l there) in
      let y : ℕ = (entry_at h p.0).year in
      let passes : (same_id l.id l.id && covers (one_year l) y) ≡ true = ap₂ (λ (a b : Bool). a && b) (same-refl l.id) (live-row-covers l y y p.2 ∙ covers-one y) in (
        p.0,
        p.1,
        p.2,
        sets p.0 p.1 l.id ∙ any-map (λ (s : StoredSpan). same_id l.id s.id && covers s y) one_year live
            ∙ any-contains (λ (m : Live). same_id l.id m.id && covers (one_year m) y) live l there passes,
      )

  whole : (id : List ℕ) (i : ℕ) → holds h i id ≡ true → Contains live (record { year = pos (entry_at h i).year; id = id })
  whole id i held =
      let y : ℕ = (entry_at h i).year in
      let found = some-contained (λ (m : Live). same_id id m.id && covers (one_year m) y) live
      (sym (any-map (λ (s : StoredSpan). same_id id s.id && covers s y) one_year live)
      ∙ sym (sets i (in-history h i id held) id) ∙ held) in
      let l : Live = found.0 in
      let both = and_parts (same_id id l.id) (covers (one_year l) y) found.2 in
      let p = year-index h l.year (years l found.1) in
      let same : (entry_at h p.0).year ≡ y = one-covers (entry_at h p.0).year y (sym (live-row-covers l (entry_at h p.0).year y p.2) ∙ both.1) (above-zero h law p.0 p.1) in
      subst (Contains live) (ap₂ (λ (z : ℤ) (q : List ℕ). record { year = z; id = q }) (p.2 ∙ ap pos same) (sym (same-exact id l.id both.0))) found.1

-- the year from which the first span runs, 0 where there is no span
abbrev pub since_of : List StoredSpan → ℤ
since_of [] = pos 0
since_of (s ∷ ss) = s.since

-- the spans after the first
abbrev pub rest_of : List StoredSpan → List StoredSpan
rest_of [] = []
rest_of (s ∷ ss) = ss

-- each live row's year is a release's
years-of-live : (spans : List KnownSpan) (live : List Live) (ys : List ℤ) → map span_in spans ≡ map one_year live
    → AllByRecursion (λ s. Contains ys s.since) spans → AllByRecursion (λ l. Contains ys l.year) live
years-of-live [] [] ys e all = tt
years-of-live (s ∷ ss) (l ∷ ls) ys e all = (subst (Contains ys) (ap (λ (q : List StoredSpan). since_of q) e) all.0, years-of-live ss ls ys (ap (λ (q : List StoredSpan). rest_of q) e) all.1)
years-of-live _ _ ys e all = absurd cc

-- the history that rows of version 1 say
pub live-says : (c : Content) (h : List Entry) (years : List ℕ) (spans : List KnownSpan) (lines : List KnownLine) → IsLawful h → RowsFit h
    → AllByRecursion (λ y. y ≤ last_of_years) years → c.formats ≡ only_format 1
    → IsPermutation c.years (map (λ y. pos y) years) → map span_in spans ≡ map one_year c.live → All (λ s. is_id s.id ≡ true) spans → IsPermutation c.lines (map line_in lines)
    → years_of h ≡ map (λ y. pos y) years → SetsAre (map span_in spans) h → IsPermutation [] (marks_in lines) → known_of h ≡ lines
    → All (λ s. Contains (map (λ y. pos y) years) s.since) spans → HasHistoryByLive c h
live-says c h years spans lines law fit small formats ys ss ids ls years-are sets marks lines-are known = record {
  kept = kept-said h years spans law fit small ids years-are sets;
  formats_are = formats;
  years_are = subst (IsPermutation c.years) (sym years-are) ys;
  live_are = live-told h c.live law (subst (λ (l : List StoredSpan). SetsAre l h) ss sets) (λ l there.
      subst (λ (z : List ℤ). Contains z l.year) (sym years-are) (All-contains (λ (l : Live). Contains (map (λ y. pos y) years) l.year) c.live l
      (All-from_recursion (λ (l : Live). Contains (map (λ y. pos y) years) l.year) c.live
      (years-of-live spans c.live (map (λ y. pos y) years) ss
      (recursion_from_All (λ s. Contains (map (λ y. pos y) years) s.since) spans known))) there));
  lines_are = told-lines-are c.lines h lines ls lines-are;
  unmarked = none (marks_of h) (told-marks-are [] h lines marks lines-are);
} where
  none : (ms : List Mark) → IsPermutation [] ms → ms ≡ []
  none ms p = nil_from_length ms (length_permutation [] ms p)
