-- A release of which a point is reported is not sound everywhere.
use Rattle.std.proofs.Common.{◌≡◌, ℕ, zero, suc, pos, ◌<ℤ◌, Bool, true, false, cond, List, [], ◌∷◌, Some, Result, Ok, Err, IfErr, inl, inr, ◌⊎◌, ◌↔◌, filter, ap, sym, refl, ◌∙◌, subst, arith, All}
use Rattle.std.proofs.Common.{slice_get, Any}
use Rattle.lpis_cutter.proofs.Common.{rational_of, Piece, IsInPiece}
use Rattle.std.specs.Prelude.{Contains as IsAmong}
use Rattle.std.proofs.lemmas.Int.{ints}
use Rattle.std.specs.List.{IsDistinct}
use Rattle.std.proofs.lemmas.List.Elements.{All-contains}
use Rattle.std.proofs.lemmas.Option.{none-some, same_Some}
use Rattle.lpis_points.specs.declared.rational.RatPoint.{RatPoint}
use Rattle.lpis_points.specs.Plane.{RationalPoint}
use Rattle.lpis_release.specs.declared.parcel.Parcel.{Parcel}
use Rattle.lpis_tables.specs.Ids.{same_id}
use Rattle.lpis_release.specs.Release.{Contents, names_parcel, parcel_ids, pieces_named}
use Rattle.lpis_cert.specs.declared.cert.Cert.{Cert}
use Rattle.lpis_cutter.specs.declared.parts.ReleaseCut.{ReleaseCut}
use Rattle.lpis_checker.specs.GoodCertificate.{IsGood}
use Rattle.lpis_checker.specs.Laws.{GoodMeansSound}
use Rattle.lpis_checker.specs.SoundMap.{IsInParcel, IsSoundEverywhere}
use Rattle.lpis_edge_sums.specs.Counting.{AtMostOne, ExactlyOne}
use Rattle.lpis_edge_sums.proofs.Shared.{Found, any_found, all_at, filter_kept}
use Rattle.lpis_cutter.specs.declared.fault.Refusal.TheVariants.{ParcelsOverlap, PiecesOverlap, Disagreement}
use Rattle.lpis_cutter.specs.declared.fault.CutFault.{CutFault}
use Rattle.lpis_cutter.specs.declared.fault.CutFault.TheVariants.{Refused}
use Rattle.lpis_cutter.specs.Refusals.{ParcelsShare, PiecesShare, Disagrees, RefusesRightly, HasPoint}

-- an item that is among others has an index
among_found : {A : Type 0} (xs : List A) (x : A) → IsAmong xs x → Found (λ y. y ≡ x) xs
among_found xs x a = any_found (λ y. y ≡ x) xs (a.0, x, a.1, a.2, refl)

-- two items of a list of which at most one has the property are equal
one_item : {A : Type 0} (P : A → Type 0) (xs : List A) (x y : A) → AtMostOne P xs → IsAmong xs x → IsAmong xs y → P x → P y → x ≡ y
one_item P xs x y one a b p q =
    let f = among_found xs x a in
    let g = among_found xs y b in
    let same = one f.index g.index f.item g.item f.at g.at (subst P (sym f.has) p) (subst P (sym g.has) q) in
    sym f.has ∙ same_Some f.item g.item (sym f.at ∙ ap (λ k. slice_get xs k) same ∙ g.at) ∙ g.has

one-filter : {A : Type 0} (P : A → Type 0) (q : A → Bool) (xs : List A) → AtMostOne P xs → AtMostOne P (filter q xs)
one-filter P q [] h = λ i j a b e f p r. absurd (none-some a e)
one-filter {A} P q (x ∷ xs) h = by (q x) (one-filter P q xs (λ i j a b e f p r. less i j (h (suc i) (suc j) a b e f p r)))
  where
    less : (i j : ℕ) → suc i ≡ suc j → i ≡ j
    less i j e = omega arith

    clash : (j : ℕ) → 0 ≡ suc j → ⊥
    clash j e = omega arith

    apart : (j : ℕ) (a b : A) → x ≡ a → slice_get (filter q xs) j ≡ Some b → P a → P b → ⊥
    apart j a b e f p r =
        let k = filter_kept q xs j b f in
        clash k.index (h 0 (suc k.index) a b (ap Some e) k.at p r)

    by : (b : Bool) → AtMostOne P (filter q xs) → AtMostOne P (cond b (x ∷ filter q xs) (filter q xs))
    by false rest i j a b e f p r = rest i j a b e f p r
    by true rest zero zero a b e f p r = refl
    by true rest zero (suc j) a b e f p r = absurd (apart j a b (same_Some x a e) f p r)
    by true rest (suc i) zero a b e f p r = absurd (apart i b a (same_Some x b f) e r p)
    by true rest (suc i) (suc j) a b e f p r = ap suc (rest i j a b e f p r)

positive : (p : RatPoint) → pos 0 <ℤ (rational_of p).d
positive p = let h = p.d_in_range.0 in omega (arith, ints, h)

parcels_share : (r : Contents) (a b : List ℕ) (s : RationalPoint) → pos 0 <ℤ s.d → ParcelsShare r a b s → IsSoundEverywhere r → ⊥
parcels_share r a b s d t sound =
    let same = one_item (IsInParcel s) r.parcels t.x t.y (sound.one_parcel s d) t.is_x.there t.is_y.there t.in_x t.in_y in
    t.differ (sym t.is_x.named ∙ ap (λ (x : Parcel). x.id) same ∙ t.is_y.named)

pieces_share : (r : Contents) (a b : List ℕ) (s : RationalPoint) → pos 0 <ℤ s.d → PiecesShare r a b s → IsSoundEverywhere r → ⊥
pieces_share r a b s d t sound =
    let same = one_item (IsInPiece s) r.pieces t.x t.y (sound.one_piece s d) t.is_x.there t.is_y.there t.in_x t.in_y in
    t.differ (sym t.is_x.named ∙ ap (λ (x : Piece). x.id) same ∙ t.is_y.named)

disagrees : (r : Contents) (a : List ℕ) (s : RationalPoint) → pos 0 <ℤ s.d → Disagrees r a s → IsSoundEverywhere r → ⊥
disagrees r a s d t sound = by t.parted
  where
    filled : IsInParcel s t.x ↔ ExactlyOne (IsInPiece s) (pieces_named r a)
    filled =
        let each : IsInParcel s t.x ↔ ExactlyOne (IsInPiece s) (pieces_named r t.x.id) =
        All-contains (λ (k : Parcel). IsInParcel s k ↔ ExactlyOne (IsInPiece s) (pieces_named r k.id)) r.parcels t.x
        (sound.filled s d) t.is_x.there in
        subst (λ (id : List ℕ). IsInParcel s t.x ↔ ExactlyOne (IsInPiece s) (pieces_named r id)) t.is_x.named each

    by : (IsInParcel s t.x × All (λ (y : Piece). IsInPiece s y → ⊥) (pieces_named r a)) ⊎ ((IsInParcel s t.x → ⊥) × Any (IsInPiece s) (pieces_named r a)) → ⊥
    by (inl h) =
        let f = any_found (IsInPiece s) (pieces_named r a) (filled.0 h.0).0 in
        all_at (λ (y : Piece). IsInPiece s y → ⊥) (pieces_named r a) f.index f.item f.at h.1 f.has
    by (inr h) = h.0 (filled.1 (h.1, one-filter (IsInPiece s) (names_parcel a) r.pieces (sound.one_piece s d)))

-- what is reported with a point denies that the release is sound everywhere
pub unsound : (r : Contents) (e : CutFault) → RefusesRightly r e → HasPoint e → IsSoundEverywhere r → ⊥
unsound r (Refused (ParcelsOverlap first second at)) t h sound = parcels_share r first second (rational_of at) (positive at) t sound
unsound r (Refused (PiecesOverlap first second at)) t h sound = pieces_share r first second (rational_of at) (positive at) t sound
unsound r (Refused (Disagreement parcel at)) t h sound = disagrees r parcel (rational_of at) (positive at) t sound
unsound r _ t h sound = absurd h

-- where a cutter refuses rightly, and with a point, the release is not sound everywhere
pub told_unsound : (r : Contents) (x : Result ReleaseCut CutFault) → IfErr x (RefusesRightly r) → IfErr x (λ e. HasPoint e → IsSoundEverywhere r → ⊥)
told_unsound r (Ok c) t = tt
told_unsound r (Err e) t = unsound r e t

-- so no certificate is good for it
pub told_no_certificate : (r : Contents) (x : Result ReleaseCut CutFault) → GoodMeansSound
    → IsDistinct same_id (parcel_ids r.parcels) → IfErr x (RefusesRightly r) → IfErr x (λ e. HasPoint e → (c : Cert) → IsGood r c
    → ⊥)
told_no_certificate r (Ok c) law distinct t = tt
told_no_certificate r (Err e) law distinct t = λ point c good. unsound r e t point (law r c distinct good).everywhere
