-- What live rows that say a history have: what they are refused for otherwise.
use Rattle.std.proofs.Common.{◌≡◌, ◌∙◌, ◌<◌, refl, sym, ap, ap₂, subst, arith, ℕ, zero, suc, ℤ, pos, List, [], ◌∷◌, Bool, true, length, map, get_or, ◌&&◌}
use Rattle.std.proofs.Common.{All, Contains}
use Rattle.lpis_register_rows.proofs.Common.{AllByRecursion, list_any, All-from_recursion, recursion_from_All, both_ways, is_id, same_id, Entry, IsLawful, entry_at, holds, same-exact}
use Rattle.lpis_register_rows.proofs.Common.{same-refl}
use Rattle.lpis_register_rows.proofs.Common.{above-zero, KnownLine, KnownSpan, Content, Live, StoredSpan, IsKeptHistory, AreLiveOf, HasHistoryByLive, years_of, covers, HasKnownHistory, SetsAre}
use Rattle.lpis_register_rows.proofs.Common.{known_of}
use Rattle.lpis_register_rows.proofs.Common.{one_year, span_in}
use Rattle.std.proofs.lemmas.List.Elements.{Contains-get_or}
use Rattle.std.proofs.lemmas.Bool.{and_parts}
use Rattle.lpis_register_rows.proofs.LiveRowLemmas.{any-contains, live-row-covers, covers-one, one-covers, some-contained, since_of, rest_of}
use Rattle.lpis_register_rows.proofs.NextReleaseLemmas.{any-map}
use Rattle.lpis_register_rows.proofs.OneHistoryLemmas.{same-index}

-- live rows of a history that tables may state bear well-formed identifiers
pub live-ids : (h : List Entry) (live : List Live) → IsKeptHistory h → AreLiveOf live h → All (λ l. is_id l.id ≡ true) live
live-ids h live kept t k d lt = let r = t.right (get_or live k d) (Contains-get_or live k d lt) in kept.ids (get_or live k d).id r.0 r.3

-- ---- sets

live-sets : (h : List Entry) (live : List Live) → IsLawful h → AreLiveOf live h → SetsAre (map one_year live) h
live-sets h live law t i lt id = both_ways (holds h i id) (list_any (λ s. same_id id s.id && covers s (entry_at h i).year) (map one_year live)) to from where
  test : Live → Bool
  test l = same_id id l.id && covers (one_year l) (entry_at h i).year

  as_live : list_any (λ s. same_id id s.id && covers s (entry_at h i).year) (map one_year live) ≡ list_any test live
  as_live = any-map (λ (s : StoredSpan). same_id id s.id && covers s (entry_at h i).year) one_year live

  to : holds h i id ≡ true → list_any (λ s. same_id id s.id && covers s (entry_at h i).year) (map one_year live) ≡ true
  to held =
      let y : ℕ = (entry_at h i).year in
      let l : Live = record { year = pos y; id = id } in
      as_live ∙ any-contains test live l (t.whole id i held) (ap₂ (λ (a b : Bool). a && b) (same-refl id) (live-row-covers l y y refl ∙ covers-one y))

  from : list_any (λ s. same_id id s.id && covers s (entry_at h i).year) (map one_year live) ≡ true → holds h i id ≡ true
  from any =
      let y : ℕ = (entry_at h i).year in
      let found = some-contained test live (sym as_live ∙ any) in
      let l : Live = found.0 in
      let r = t.right l found.1 in
      let m : ℕ = (entry_at h r.0).year in
      let covering : covers (one_year l) y ≡ true = (and_parts (same_id id l.id) (covers (one_year l) y) found.2).1 in
      let same : m ≡ y = one-covers m y (sym (live-row-covers l m y r.2) ∙ covering) (above-zero h law r.0 r.1) in
      ap₂ (λ (k : ℕ) (q : List ℕ). holds h k q) (sym (same-index h law r.0 i r.1 lt same)) (same-exact id l.id (and_parts (same_id id l.id) (covers (one_year l) y) found.2).0) ∙ r.3

-- spans read from the live rows of tables of version 1, and the history's lines, state the tables' history
pub live-said : (c : Content) (h : List Entry) (spans : List KnownSpan) (lines : List KnownLine) → HasHistoryByLive c h
    → map span_in spans ≡ map one_year c.live → known_of h ≡ lines → HasKnownHistory spans lines h
live-said c h spans lines t ss ls = record {
  kept = t.kept;
  sets = subst (λ (l : List StoredSpan). SetsAre l h) (sym ss) (live-sets h c.live t.kept.lawful t.live_are);
  lines_are = ls;
}

-- ---- years

year-contained : (h : List Entry) (i : ℕ) → i < length h → Contains (years_of h) (pos (entry_at h i).year)
year-contained [] i lt = absurd (omega (arith, lt))
year-contained (x ∷ h) zero lt = (0, omega arith, refl)
year-contained (x ∷ h) (suc i) lt = let r = year-contained h i (omega (arith, lt)) in (suc r.0, (let l = r.1 in omega (arith, l)), r.2)

all-years : (h : List Entry) (live : List Live) → AreLiveOf live h → All (λ l. Contains (years_of h) l.year) live
all-years h live t k d lt = let r = t.right (get_or live k d) (Contains-get_or live k d lt) in subst (Contains (years_of h)) (sym r.2) (year-contained h r.0 r.1)

since-years : (spans : List KnownSpan) (live : List Live) (ys : List ℤ) → map span_in spans ≡ map one_year live
    → AllByRecursion (λ l. Contains ys l.year) live → AllByRecursion (λ s. Contains ys s.since) spans
since-years [] [] ys e all = tt
since-years (s ∷ ss) (l ∷ ls) ys e all = (subst (Contains ys) (sym (ap since_of e)) all.0, since-years ss ls ys (ap rest_of e) all.1)
since-years _ _ ys e all = absurd cc

-- where live rows state a history, each span read from them begins with one of its years
pub live-years : (h : List Entry) (live : List Live) (spans : List KnownSpan) (ys : List ℤ) → AreLiveOf live h → map span_in spans ≡ map one_year live
    → years_of h ≡ ys → All (λ s. Contains ys s.since) spans
live-years h live spans ys t ss e = All-from_recursion (λ s. Contains ys s.since) spans
    (since-years spans live ys ss (subst (λ (l : List ℤ). AllByRecursion (λ m. Contains l m.year) live) e
    (recursion_from_All (λ l. Contains (years_of h) l.year) live (all-years h live t))))
