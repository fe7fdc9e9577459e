-- The lines of points.
use Rattle.std.proofs.Common.{◌≡◌, ℕ, suc, ◌+◌, ◌<◌, ◌≤◌, List, [], ◌∷◌, ◌++◌, length, get_or, take, Option, Some, None, All, refl, ap, ap₂, sym, ◌∙◌, subst, arith, slice_get, append_assoc}
use Rattle.std.proofs.lemmas.List.{append-nil, length-take-le, take_all, take_more}
use Rattle.std.proofs.lemmas.Option.{get_or_from_slice_get, slice_get-get_or, slice_get_within}
use Rattle.lpis_edge_sums.proofs.Shared.{all_at}
use Rattle.lpis_release.specs.Release.{Contents}
use Rattle.lpis_places.specs.declared.place.Place.{Place}
use Rattle.lpis_places.specs.Places.{AreFoundIn, FindsIn, IsFound}
use Rattle.lpis_places.specs.Points.{Given}
use Rattle.lpis_run_locate.specs.LocateLines.{AreLines, point_line}
use Rattle.lpis_run_locate.specs.private.Found.{AreFound}
use Rattle.lpis_run_locate.specs.private.Lines.{lines_of}

-- one line more, after as many points as places
last_line : (gs : List Given) (fs : List (Option Place)) (g : Given) (f : Option Place) → length gs ≡ length fs → lines_of (gs ++ g ∷ []) (fs ++ f ∷ []) ≡ lines_of gs fs ++ point_line g.id f
last_line [] [] g f n = append-nil (point_line g.id f)
last_line [] (y ∷ fs) g f n = absurd (omega (arith, n))
last_line (x ∷ gs) [] g f n = absurd (omega (arith, n))
last_line (x ∷ gs) (y ∷ fs) g f n = ap (λ (t : List ℕ). point_line x.id y ++ t) (last_line gs fs g f (omega (arith, n))) ∙ sym (append_assoc (point_line x.id y) (lines_of gs fs) (point_line g.id f))

front : {A : Type 0} (xs : List A) (i : ℕ) (x : A) → slice_get xs i ≡ Some x → take (i + 1) xs ≡ take i xs ++ x ∷ []
front {A} xs i x e = take_more xs i x (slice_get_within xs i x e) ∙ ap (λ (y : A). take i xs ++ y ∷ []) (get_or_from_slice_get xs i x x e)

fronts : {A B : Type 0} (xs : List A) (ys : List B) (i : ℕ) → i < length xs → i < length ys → length (take i xs) ≡ length (take i ys)
fronts xs ys i l k = length-take-le i xs (omega (arith, l)) ∙ sym (length-take-le i ys (omega (arith, k)))

-- the lines so far, and that of one point more
pub more-lines : (gs : List Given) (fs : List (Option Place)) (i : ℕ) (g : Given) (f : Option Place) → slice_get gs i ≡ Some g → slice_get fs i ≡ Some f
    → lines_of (take (i + 1) gs) (take (i + 1) fs) ≡ lines_of (take i gs) (take i fs) ++ point_line g.id f
more-lines gs fs i g f a b =
    ap₂ lines_of (front gs i g a) (front fs i f b) ∙ last_line (take i gs) (take i fs) g f (fronts gs fs i (slice_get_within gs i g a) (slice_get_within fs i f b))

-- past the last point all lines were written
pub all-lines : (gs : List Given) (fs : List (Option Place)) (i : ℕ) → length fs ≡ length gs → length gs ≤ i → lines_of (take i gs) (take i fs) ≡ lines_of gs fs
all-lines gs fs i n l = ap₂ lines_of (take_all i gs l) (take_all i fs (omega (arith, n)))

-- what was found of each point is its own line
pub lines_are : (r : Contents) (gs : List Given) (fs : List (Option Place)) → length fs ≡ length gs
    → ((i : ℕ) (g : Given) (f : Option Place) → slice_get gs i ≡ Some g → slice_get fs i ≡ Some f → IsFound r g.at f) → AreLines r gs (lines_of gs fs)
lines_are r [] fs n h = refl
lines_are r (g ∷ gs) [] n h = absurd (omega (arith, n))
lines_are r (g ∷ gs) (f ∷ fs) n h = (f, lines_of gs fs, h 0 g f refl refl, lines_are r gs fs (omega (arith, n)) (λ i v e a b. h (suc i) v e a b), refl)

-- the item at an index
item : {A : Type 0} (xs : List A) (i : ℕ) (n : ℕ) → n ≡ length xs → i < n → (x : A) × (slice_get xs i ≡ Some x)
item [] i n e l = absurd (omega (arith, e))
item (x ∷ xs) i n e l = (get_or (x ∷ xs) i x, slice_get-get_or (x ∷ xs) i x (omega (arith, e)))

none_before : (fs : List (Option Place)) (i : ℕ) (f : Option Place) → All (λ (o : Option Place). o ≡ None) fs → slice_get fs i ≡ Some f → f ≡ None
none_before fs i f h e = all_at (λ (o : Option Place). o ≡ None) fs i f e h

-- after a release that began with no places, what was found is in that release
pub first_found : (r : Contents) (gs : List Given) (old new : List (Option Place)) → length old ≡ length gs → All (λ (o : Option Place). o ≡ None) old → AreFoundIn r gs old new → AreFound r gs new
first_found r gs old new n none found = record { as_many = found.as_many ∙ n; each = λ i g f e d. by i g f e d }
  where
    by : (i : ℕ) (g : Given) (f : Option Place) → slice_get gs i ≡ Some g → slice_get new i ≡ Some f → IsFound r g.at f
    by i g f e d =
        let w = item old i (length new) found.as_many (slice_get_within new i f d) in
        subst (λ (o : Option Place). FindsIn r g.at o f) (none_before old i w.0 none w.1) (found.each i g w.0 f e w.1 d)
