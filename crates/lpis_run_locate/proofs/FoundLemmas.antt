-- What was found of points in regions, and where they are in the union of these.
use Rattle.std.proofs.Common.{◌≡◌, ◌∙◌, ◌<◌, ◌++◌, ◌∷◌, [], ℕ, List, All, Contains, Option, Some, None, Result, Err, drop, length, get_or, slice_get, take, refl, sym, ap, ap₂, subst, arith}
use Rattle.std.proofs.Math.Seq.{take-append_seam}
use Rattle.std.proofs.lemmas.List.Elements.{All-append, All-cons, All-contains, All-nil, Contains-append_left, Contains-append_right}
use Rattle.std.proofs.lemmas.Option.{slice_get-get_or, slice_get_within}
use Rattle.lpis_points.specs.Plane.{RationalPoint}
use Rattle.lpis_edge_sums.proofs.Shared.{all_at, any_found}
use Rattle.lpis_tables.specs.declared.piece.Piece.{Piece}
use Rattle.lpis_release.specs.declared.parcel.Parcel.{Parcel}
use Rattle.lpis_release.specs.Release.{Contents, pieces_named}
use Rattle.lpis_checker.specs.SoundMap.{IsInParcel, IsNowhere}
use Rattle.lpis_country.specs.Union.{IsDouble, IsUnion}
use Rattle.lpis_places.specs.declared.fault.PointsFault.{PointsFault}
use Rattle.lpis_places.specs.declared.place.Place.{Place}
use Rattle.lpis_places.specs.Places.{AreFoundIn, FindsIn, IsFound}
use Rattle.lpis_places.specs.Points.{Given, points_of}
use Rattle.lpis_run_locate.specs.LocateAnswer.{IsPointsAnswer}
use Rattle.lpis_run_locate.specs.LocateLines.{points_refusal_text}
use Rattle.lpis_run_locate.specs.private.Found.{AreFound, AreFoundAmong, IsFoundAmong}

-- before the first region nothing was found
pub none_found : (ps : List Given) (found : List (Option Place)) → length found ≡ length ps → All (λ (f : Option Place). f ≡ None) found → AreFoundAmong [] ps found
none_found ps found n none = record {
  as_many = n;
  each = λ i g f at here. subst (IsFoundAmong [] g.at) (sym (all_at (λ (o : Option Place). o ≡ None) found i f here none)) (All-nil (λ (r : Contents). IsNowhere r g.at));
}

-- ---- one region more
last_is_there : (before : List Contents) (r : Contents) → Contains (before ++ r ∷ []) r
last_is_there before r = Contains-append_right before (r ∷ []) r (0, omega arith, refl)

one_more : (before : List Contents) (r : Contents) (p : RationalPoint) (f h : Option Place) → IsFoundAmong before p f → FindsIn r p f h → IsFoundAmong (before ++ r ∷ []) p h
one_more before r p (Some a) h (x, among, place) e = subst (IsFoundAmong (before ++ r ∷ []) p) (sym e) (x, Contains-append_left before (r ∷ []) x among, place)
one_more before r p None (Some a) none place = (r, last_is_there before r, place)
one_more before r p None None none nowhere =
    All-append (λ (x : Contents). IsNowhere x p) before (r ∷ []) none (All-cons (λ (x : Contents). IsNowhere x p) r [] nowhere (All-nil (λ (x : Contents). IsNowhere x p)))

-- what was found in regions, and then in one more, is found among all of them
found_more : (before : List Contents) (r : Contents) (ps : List Given) (old new : List (Option Place)) → AreFoundAmong before ps old → AreFoundIn r ps old new
    → AreFoundAmong (before ++ r ∷ []) ps new
found_more before r ps old new was is = record { as_many = is.as_many ∙ was.as_many; each = λ i g f at here. by i g f at here }
  where
    by : (i : ℕ) (g : Given) (f : Option Place) → slice_get ps i ≡ Some g → slice_get new i ≡ Some f → IsFoundAmong (before ++ r ∷ []) g.at f
    by i g f at here =
        let lt : i < length old = omega (arith, is.as_many, slice_get_within new i f here) in
        let there = slice_get-get_or old i f lt in
        one_more before r g.at (get_or old i f) f (was.each i g (get_or old i f) at there) (is.each i g (get_or old i f) f at there here)

-- so it is of a list of which a slice was written back
pub written_back : (before : List Contents) (r : Contents) (ps : List Given) (items old new : List (Option Place)) (n : ℕ) → length new ≡ n → old ≡ items → AreFoundAmong before ps items
    → AreFoundIn r ps old new → AreFoundAmong (before ++ r ∷ []) ps (take n (new ++ drop (length new) items))
written_back before r ps items old new n e same was is =
    let rest = drop (length new) items in
    let whole : take n (new ++ rest) ≡ new = ap (λ (k : ℕ). take k (new ++ rest)) (sym e) ∙ take-append_seam new rest in
    subst (AreFoundAmong (before ++ r ∷ []) ps) (sym whole) (found_more before r ps old new (subst (AreFoundAmong before ps) (sym same) was) is)

-- ---- the union
-- a parcel of a region has its double in the union
double_of : (rs : List Contents) (u r : Contents) (k : Parcel) → IsUnion rs u → Contains rs r → Contains r.parcels k → IsDouble u r k
double_of rs u r k n among has = All-contains (IsDouble u r) r.parcels k (All-contains (λ (x : Contents). All (IsDouble u x) x.parcels) rs r n.doubles among) has

-- a parcel of the union is one of a region, which does not contain the point
not_there : (rs : List Contents) (u : Contents) (p : RationalPoint) → IsUnion rs u → All (λ (r : Contents). IsNowhere r p) rs → IsNowhere u p
not_there rs u p n none = λ i d lt.
    let k = get_or u.parcels i d in
    let home = any_found (λ (r : Contents). Contains r.parcels k) rs (n.from i d lt) in
    All-contains (λ (x : Parcel). IsInParcel p x → ⊥) home.item.parcels k (all_at (λ (r : Contents). IsNowhere r p) rs home.index home.item home.at none) home.has

-- the place of a point in regions is that in their union
in_union : (rs : List Contents) (u : Contents) (p : RationalPoint) (f : Option Place) → IsUnion rs u → IsFoundAmong rs p f → IsFound u p f
in_union rs u p None n none = not_there rs u p n none
in_union rs u p (Some a) n (r, among, (l, class)) =
    let double = double_of rs u r l.x n among l.is_parcel in
    let pieces : pieces_named u a.parcel ≡ pieces_named r a.parcel = subst (λ (id : List ℕ). pieces_named u id ≡ pieces_named r id) l.parcel_id double.pieces in (
      record {
        x = l.x;
        is_parcel = double.row;
        parcel_id = l.parcel_id;
        in_parcel = l.in_parcel;
        y = l.y;
        is_piece = subst (λ (ys : List Piece). Contains ys l.y) (sym pieces) l.is_piece;
        piece_id = l.piece_id;
        in_piece = l.in_piece;
      },
      class,
    )

-- so what was found of points in regions is what is found of them in the union
pub found_in_union : (rs : List Contents) (u : Contents) (ps : List Given) (found : List (Option Place)) → IsUnion rs u → AreFoundAmong rs ps found → AreFound u ps found
found_in_union rs u ps found n is = record { as_many = is.as_many; each = λ i g f at here. in_union rs u g.at f n (is.each i g f at here) }

-- the line of a refused table of points answers it
pub refused_table : (u : Contents) (table : List ℕ) (fault : PointsFault) (text : List ℕ) (status : ℕ) → points_of table ≡ Err fault → text ≡ points_refusal_text fault → status ≡ 2
    → IsPointsAnswer u (points_of table) (text, status)
refused_table u table fault text status said is two =
    subst (λ (r : Result (List Given) PointsFault). IsPointsAnswer u r (text, status)) (sym said) (ap₂ (λ (t : List ℕ) (n : ℕ). (t, n)) is two)
