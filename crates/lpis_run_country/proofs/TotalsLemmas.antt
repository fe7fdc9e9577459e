-- Counts and areas of parcels, added up.
use Rattle.std.proofs.Common.{◌≡◌, ◌≤◌, ◌<◌, ◌∙◌, ◌++◌, ◌∷◌, ◌+◌, ◌*◌, ◌^◌, [], refl, sym, ap, ap₂, subst, arith, ℕ, suc, zero, List, All, Contains, codes, decimal, get_or, length, nat_abs, not, take}
use Rattle.std.proofs.lemmas.List.{length-append, take_more}
use Rattle.std.proofs.lemmas.List.Elements.{All-cons, All-head, All-nil, All-tail, All-weaker}
use Rattle.std.proofs.lemmas.List.Filters.{length-filter_both}
use Rattle.std.proofs.lemmas.List.Sums.{sum_by-append, sum_by-cons}
use Rattle.lpis_points.proofs.Shared.{int_sum_by-same}
use Rattle.lpis_points.specs.Sums.{int_sum_by}
use Rattle.lpis_rings.specs.AreaBounds.{most_area}
use Rattle.lpis_tables.specs.declared.class.Class.{Class}
use Rattle.lpis_tables.specs.declared.piece.Piece.{Piece}
use Rattle.lpis_tables.specs.Table.{most_rows}
use Rattle.lpis_release.specs.declared.parcel.Parcel.{Parcel}
use Rattle.lpis_release.specs.Release.{Contents, names_parcel, pieces_named}
use Rattle.lpis_release.specs.Weighted.{most_weighted, piece_weight, weighted2}
use Rattle.lpis_run.specs.Area.{most_printed}
use Rattle.lpis_run.specs.Areas.{AreasOf}
use Rattle.lpis_country.specs.Country.{IsRegion, country_of, is_new, new_parcels, with_region, with_regions}
use Rattle.lpis_country.proofs.Shared.{country_is_region, country_snoc, fresh_pieces, old_pieces, pieces_add}
use Rattle.lpis_run_country.specs.CountryLines.{country_lines, sums_text}
use Rattle.lpis_run_country.proofs.PlaceLemmas.{as_many_places}
use Rattle.lpis_run_country.specs.declared.totals.Totals.{Totals}
use Rattle.lpis_run_country.specs.private.Totals.{AreAddable, AreAt, AreTotalsOf, IsBounded, IsPrintable, count_text, last_lines, most_parcels, piece_count, totals_text}

pieces-both : (n k j x y : ℕ) → j ≡ n + k → x ≤ most_rows * n → y ≤ most_rows * k → x + y ≤ most_rows * j
pieces-both n k j x y a b c = omega arith

-- of parcels and others
pub totals_plus : (r : Contents) (ks ls : List Parcel) (s t u : Totals) → u.parcels ≡ s.parcels + t.parcels → u.pieces ≡ s.pieces + t.pieces → AreTotalsOf r ks s → AreTotalsOf r ls t
    → AreasOf r (ks ++ ls) u.areas → AreTotalsOf r (ks ++ ls) u
totals_plus r ks ls s t u parcels pieces a b areas = record {
  parcels = parcels ∙ ap₂ (λ (x y : ℕ). x + y) a.parcels b.parcels ∙ sym (length-append ks ls);
  pieces = pieces ∙ ap₂ (λ (x y : ℕ). x + y) a.pieces b.pieces ∙ sym (sum_by-append (λ (k : Parcel). length (pieces_named r k.id)) ks ls);
  pieces_few = subst (λ (x : ℕ). x ≤ most_rows * length (ks ++ ls)) (sym pieces) (pieces-both (length ks) (length ls)
      (length (ks ++ ls)) s.pieces t.pieces (length-append ks ls) a.pieces_few b.pieces_few);
  areas = areas;
}

-- they are bounded
pub bounded_of : (r : Contents) (ks : List Parcel) (t : Totals) → AreTotalsOf r ks t → IsBounded t
bounded_of r ks t a = record {
  pieces = subst (λ (n : ℕ). t.pieces ≤ most_rows * n) (sym a.parcels) a.pieces_few;
  area = subst (λ (n : ℕ). nat_abs t.areas.area ≤ most_area * n) (sym a.parcels) a.areas.area_small;
  weighted = subst (λ (n : ℕ). nat_abs t.areas.weighted ≤ most_weighted * n) (sym a.parcels) a.areas.weighted_small;
}

-- a parcel more
pub totals_more : (r : Contents) (ks : List Parcel) (i : ℕ) (k d : Parcel) (s t u : Totals) → i < length ks → k ≡ get_or ks i d
    → ((q : Contents) (ls ms : List Parcel) → AreTotalsOf q ls s → AreTotalsOf q ms t → AreTotalsOf q (ls ++ ms) u) → AreTotalsOf r (take i ks) s → AreTotalsOf r (k ∷ []) t
    → AreTotalsOf r (take (i + 1) ks) u
totals_more r ks i k d s t u lt is plus a b =
    subst (λ (ls : List Parcel). AreTotalsOf r ls u) (ap (λ (x : Parcel). take i ks ++ x ∷ []) is ∙ sym (take_more ks i d lt)) (plus r (take i ks) (k ∷ []) a b)

-- the totals of a parcel can be added to those of fewer than a table's rows
taken-few : (xs : List Parcel) (i : ℕ) → length (take i xs) ≤ i
taken-few [] zero = omega arith
taken-few [] (suc i) = omega arith
taken-few (x ∷ xs) zero = omega arith
taken-few (x ∷ xs) (suc i) = let less = taken-few xs i in omega (arith, less)

one-more : (n m i p q : ℕ) → p ≡ n → q ≡ 1 → n ≤ i → i < m → m ≤ most_rows → p + q ≤ most_parcels
one-more n m i p q a b c d e = omega (arith, a, b, c, d, e)

-- the sums of as many parcels as stand before an index, and those of the parcel there, can be added
pub addable_one : (r : Contents) (ks : List Parcel) (i m : ℕ) (k : Parcel) (s t : Totals) → AreTotalsOf r (take i ks) s → AreTotalsOf r (k ∷ []) t → i < m → m ≤ most_rows → AreAddable s t
addable_one r ks i m k s t a b lt few = record {
  first = bounded_of r (take i ks) s a;
  second = bounded_of r (k ∷ []) t b;
  few = one-more (length (take i ks)) m i s.parcels t.parcels a.parcels b.parcels (taken-few ks i) lt few;
}

-- the areas of as many parcels as a country can have are printed
pub area_fits : (x y n k : ℕ) → x ≤ most_area * n → y ≤ most_area * k → n + k ≤ most_parcels → x + y ≤ most_printed
area_fits x y n k h l few = omega arith

-- the weighted areas of as many parcels as a country can have are printed
pub weighted_fits : (x y n k : ℕ) → x ≤ most_weighted * n → y ≤ most_weighted * k → n + k ≤ most_parcels → x + y ≤ most_printed
weighted_fits x y n k h l few = omega arith

-- the areas of bounded totals, of no more parcels than a country can have, can be printed
pub printable : (t : Totals) → IsBounded t → t.parcels ≤ most_parcels → IsPrintable t
printable t b few = record {
  area = let h = area_fits (nat_abs t.areas.area) 0 t.parcels 0 b.area (omega arith) (omega (arith, few)) in omega (arith, h);
  weighted = let h = weighted_fits (nat_abs t.areas.weighted) 0 t.parcels 0 b.weighted (omega arith) (omega (arith, few)) in omega (arith, h);
}

-- the pieces of a parcel are few
few-named : (r : Contents) (id : List ℕ) → length r.pieces ≤ most_rows → length (pieces_named r id) ≤ most_rows
few-named r id few =
    let all = length-filter_both (names_parcel id) (λ (x : Piece). not (names_parcel id x)) (λ x. refl) r.pieces in
    omega (arith, all, few)

-- a number that is at most that of a parcel's pieces is at most that of a table's rows
pub few_pieces : (r : Contents) (id : List ℕ) (xs : List Piece) (n : ℕ) → xs ≡ pieces_named r id → length r.pieces ≤ most_rows → n ≤ length xs → n ≤ most_rows
few_pieces r id xs n is few h = omega (arith, few-named r id few, ap length is, h)

-- the number of a parcel's pieces fits into 64 bits
pub pieces_can_be_counted : (r : Contents) (id : List ℕ) (xs : List Piece) → xs ≡ pieces_named r id → length r.pieces ≤ most_rows → 0 + length xs < 2 ^ 64
pieces_can_be_counted r id xs is few = omega (arith, few-named r id few, ap length is)

-- the new parcels of a region are few
pub few_new : (u r : Contents) (n : ℕ) → length r.parcels ≤ n → length (new_parcels u r) ≤ n
few_new u r n few =
    let all = length-filter_both (λ (k : Parcel). is_new u k.id) (λ (k : Parcel). not (is_new u k.id)) (λ x. refl) r.parcels in
    omega (arith, all, few)

-- so are their places, and their parcels can be added to those of a country
pub few_places : (u r : Contents) (places : List ℕ) → AreAt r places (new_parcels u r) → length r.parcels ≤ most_rows → length places ≤ most_rows
few_places u r places at few = let long = few_new u r most_rows few in let same = as_many_places r.parcels places (new_parcels u r) at in omega (arith, long, same)

-- the totals of a region's new parcels can be added to a country's that has room for a full table more
pub addable : (u r : Contents) (ks : List Parcel) (s t : Totals) → AreTotalsOf u ks s → AreTotalsOf r (new_parcels u r) t → length r.parcels ≤ most_rows → s.parcels + most_rows ≤ most_parcels
    → AreAddable s t
addable u r ks s t a b few room = record {
  first = bounded_of u ks s a;
  second = bounded_of r (new_parcels u r) t b;
  few = let long = few_new u r most_rows few in omega (arith, long, b.parcels, room);
}

-- each item of a list
all-among : {A : Type 0} (xs : List A) (P : A → Type 0) → ((x : A) → Contains xs x → P x) → All P xs
all-among {A} [] P h = All-nil P
all-among {A} (x ∷ xs) P h = All-cons P x xs (h x (0, omega arith, refl)) (all-among xs P (λ y c. h y (suc c.0, omega (arith, c.1), c.2)))

-- the classes are those of the country
pub country_classes : (classes : List Class) (done : List Contents) → (country_of classes done).classes ≡ classes
country_classes classes done = kept (record { parcels = []; pieces = []; classes = classes }) done
  where
    kept : (u : Contents) (rs : List Contents) → (with_regions u rs).classes ≡ u.classes
    kept u [] = refl
    kept u (r ∷ rs) = kept (with_region u r) rs

-- the same pieces
SamePieces : Contents → Contents → Parcel → Type 0
SamePieces r q k = pieces_named q k.id ≡ pieces_named r k.id

same-count : (r q : Contents) (ks : List Parcel) → All (SamePieces r q) ks → piece_count q ks ≡ piece_count r ks
unfolding SamePieces
same-count r q [] h = refl
same-count r q (k ∷ ks) h =
    sum_by-cons (λ (k : Parcel). length (pieces_named q k.id)) k ks
    ∙ ap₂ (λ (x y : ℕ). x + y) (ap length (All-head (SamePieces r q) k ks h)) (same-count r q ks (All-tail (SamePieces r q) k ks h))
    ∙ sym (sum_by-cons (λ (k : Parcel). length (pieces_named r k.id)) k ks)

same-weighted : (r q : Contents) → q.classes ≡ r.classes → (k : Parcel) → SamePieces r q k → weighted2 q k.id ≡ weighted2 r k.id
unfolding SamePieces
same-weighted r q classes k same = ap₂ (λ (cs : List Class) (xs : List Piece). int_sum_by (piece_weight cs) xs) classes same

-- the same counts and areas
totals-same : (r q : Contents) (ks : List Parcel) (t : Totals) → q.classes ≡ r.classes → All (SamePieces r q) ks → AreTotalsOf r ks t → AreTotalsOf q ks t
totals-same r q ks t classes same a = record {
  parcels = a.parcels;
  pieces = a.pieces ∙ sym (same-count r q ks same);
  pieces_few = a.pieces_few;
  areas = record {
    area = a.areas.area;
    weighted = a.areas.weighted ∙ sym (int_sum_by-same (λ (k : Parcel). weighted2 q k.id) (λ (k : Parcel). weighted2 r k.id) ks
        (All-weaker (SamePieces r q) (λ (k : Parcel). weighted2 q k.id ≡ weighted2 r k.id) (same-weighted r q classes) ks same));
    area_small = a.areas.area_small;
    weighted_small = a.areas.weighted_small;
  };
}

-- a country with one region more, whose new parcels are added
pub totals_grow : (classes : List Class) (done : List Contents) (r : Contents) (s t u : Totals) → All IsRegion done → r.classes ≡ classes
    → AreTotalsOf (country_of classes done) (country_of classes done).parcels s → AreTotalsOf r (new_parcels (country_of classes done) r) t
    → ((q : Contents) (ks ls : List Parcel) → AreTotalsOf q ks s → AreTotalsOf q ls t → AreTotalsOf q (ks ++ ls) u)
    → AreTotalsOf (country_of classes (done ++ r ∷ [])) (country_of classes (done ++ r ∷ [])).parcels u
unfolding SamePieces
totals_grow classes done r s t u regions same a b plus =
    let c = country_of classes done in
    let grown = with_region c r in
    let news = new_parcels c r in
    let region = country_is_region classes done regions in
    let old = totals-same c grown c.parcels s refl (all-among c.parcels (SamePieces c grown) (λ k among. old_pieces c r k among)) a in
    let fresh = totals-same r grown news t (country_classes classes done ∙ sym same) (all-among news (SamePieces r grown) (λ k among. fresh_pieces c r k region among)) b in
    subst (λ (q : Contents). AreTotalsOf q q.parcels u) (sym (country_snoc classes done r)) (plus grown c.parcels news old fresh)

-- what is printed of a region is what it has
pub totals_region : (r : Contents) (t : Totals) → IsRegion r → AreTotalsOf r r.parcels t → totals_text t ≡ sums_text r
unfolding totals_text sums_text
totals_region r t region a = rw (a.parcels, a.pieces, pieces_add r region, a.areas.area, a.areas.weighted) refl

-- and of a country
pub last_lines_are : (n m : ℕ) (u : Contents) (t : Totals) → IsRegion u → AreTotalsOf u u.parcels t → n ≡ m → last_lines n t ≡ country_lines m u
unfolding count_text
last_lines_are n m u t region a e = ap₂ (λ (k : ℕ) (x : List ℕ). codes "country regions " ++ decimal k ++ x ++ codes "yes\n") e (totals_region u t region a)
