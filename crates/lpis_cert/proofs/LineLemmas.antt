-- What a line says, and its spelling.
use Rattle.std.proofs.Common.{bytes_eq, ◌≡◌, ℕ, ◌+◌, ◌≤◌, Bool, true, false, cond, ◌&&◌, List, [], ◌∷◌, length, Option, Some, None, Result, Ok, Err, refl, sym}
use Rattle.std.proofs.NetLemmas.Options.{cond_none}
use Rattle.std.proofs.Common.{ap, subst, ◌∙◌, arith, eqb, ℤ, codes}
use Rattle.std.proofs.Common.{decimal, is_some}
use Rattle.lpis_cert.proofs.Common.{and_parts, join_with_byte-slice_split, list_any, join_with_byte, AllByRecursion, is_id, Version}
use Rattle.lpis_cert.proofs.Common.{greatest_count, number_margin, Kind}
use Rattle.lpis_cert.proofs.Common.{Piece, Flat, Parcel, Exact, Pairs, Pair, End, Corners, Separator, CertLine, PieceLine, TriangleLine, FlatLine, ParcelLine, ExactLine, PairsLine}
use Rattle.lpis_cert.proofs.Common.{PairLine, EndLine, words_of, spelling}
use Rattle.lpis_cert.proofs.Common.{CoordinateFits, CornersFit, SeparatorFits, LineFits, is_empty, words, can_stand, cert_number, values, read_line, line_kind}
use Rattle.lpis_cert.specs.CertText.{side}
use Rattle.lpis_cert.specs.Versions.{has_exact}
use Rattle.std.proofs.lemmas.Slice.Eq.{bytes_eq-Decides}
use Rattle.lpis_cert.specs.Limits.{last_edge}
use Rattle.lpis_cert.specs.declared.kind.Kind.TheVariants.{Triangle}
use Rattle.lpis_cert.specs.declared.kind.Expected.{Expected}
use Rattle.lpis_cert.specs.CertText.{coordinate_word, corner_words}
use Rattle.lpis_cert.specs.Reading.{◌>>=◌, ◌>>?◌, kind_of, word_count, first_is_id, has_its_id, form, front, last, natural, cert_coordinate, point, corners, separator}
use Rattle.lpis_cert.specs.Reading.{piece_line, parcel_block_line, exact_line, pairs_line, is_known, merge_of, first_is_split_or_merge}
use Rattle.lpis_cert.specs.Reading.{with_form, or_number, kind_placed}
use Rattle.lpis_cert.proofs.NumberLemmas.{some_needs_true, number_again, number_takes, coordinate_again, coordinate_takes}
use Rattle.lpis_cert.proofs.WordLemmas.{IsWordText, none_empty, kind_word, fields, words_are, field_words, spelling_words}

-- ---- what is written is read

kind_again : (k : Kind) → kind_of (kind_word k) ≡ Some k
unfolding kind_of
kind_again End = refl
kind_again _ = refl

full : (k : Kind) (ws : List (List ℕ)) → list_any is_empty (kind_word k ∷ ws) ≡ list_any is_empty ws
full End ws = refl
full _ _ = refl

form_again : (v : Version) (k : Kind) (ws : List (List ℕ)) → AllByRecursion IsWordText ws → is_known v k ≡ true
    → eqb (length ws + 1) (word_count k) ≡ true → has_its_id k ws ≡ true → form v (kind_word k ∷ ws) ≡ Some (k, ws)
unfolding form
form_again v k ws h known len named = rw (full k ws, none_empty ws h, kind_again k, known, len, named) refl

known_right : (v : Version) (l : CertLine) → LineFits v l → is_known v (line_kind l) ≡ true
known_right v (ExactLine m id f) fits = fits.0
known_right v EndLine fits = refl
known_right v _ fits = refl

length_right : (v : Version) (l : CertLine) → eqb (length (fields v l) + 1) (word_count (line_kind l)) ≡ true
length_right v EndLine = refl
length_right v _ = refl

names_right : (v : Version) (l : CertLine) → LineFits v l → has_its_id (line_kind l) (fields v l) ≡ true
names_right v (PieceLine id t f) fits = fits.0
names_right v (ParcelLine id f) fits = fits.0
names_right v (ExactLine false id f) fits = fits.1
names_right v (ExactLine true id f) fits = fits.1
names_right v _ _ = refl

corners_again : (v : Version) (c : Corners) → CornersFit v c → corners v (corner_words v c) ≡ Some c
unfolding corners point
corners_again v c fits = grind (arith, coordinate_again)

separator_again : (p : Separator) → SeparatorFits p → separator (decimal p.i ∷ decimal p.j ∷ decimal p.k ∷ []) ≡ Some p
unfolding separator
separator_again p fits = grind (arith, number_again)

values_again : (v : Version) (l : CertLine) → LineFits v l → values v (line_kind l) (fields v l) ≡ Some l
unfolding values piece_line parcel_block_line exact_line pairs_line
values_again v (PieceLine id t f) fits = grind (arith, number_again)
values_again v (TriangleLine c) fits = rw (corners_again v c fits) refl
values_again v (FlatLine c) fits = rw (corners_again v c fits) refl
values_again v (ParcelLine id f) fits = rw (number_again greatest_count f (omega arith) fits.1) refl
values_again v (ExactLine false id f) fits = rw (number_again greatest_count f (omega arith) fits.2) refl
values_again v (ExactLine true id f) fits = rw (number_again greatest_count f (omega arith) fits.2) refl
values_again v (PairsLine n) fits = rw (number_again greatest_count n (omega arith) fits) refl
values_again v (PairLine p) fits = rw (separator_again p fits) refl
values_again v EndLine fits = refl

-- a line that has a text is read back from its spelling where its kind can stand
pub read_again : (v : Version) (e : Expected) (l : CertLine) → LineFits v l → can_stand e (line_kind l) ≡ true → read_line v e (spelling v l) ≡ Ok l
unfolding read_line kind_placed
read_again v e l fits can = grind (arith, spelling_words, form_again, field_words, known_right, length_right, names_right, values_again)

-- ---- what is read was written so

-- two words that pass the test of equal bytes are equal
pub word_is : (w text : List ℕ) → bytes_eq w text ≡ true → w ≡ text
word_is w text h = (bytes_eq-Decides w text).0 h

-- where a second step after a first gives a value, the first gave one, and the second made its value of it
pub bind_ok : {A B E : Type 0} (r : Result A E) (f : A → Result B E) (y : B) → (r >>= f) ≡ Ok y → (x : A) × (r ≡ Ok x) × (f x ≡ Ok y)
bind_ok (Ok x) f y e = (x, refl, e)
bind_ok (Err d) f y e = absurd cc

then_some : {A B : Type 0} (o : Option A) (f : A → Option B) (y : B) → (o >>? f) ≡ Some y → (x : A) × (o ≡ Some x) × (f x ≡ Some y)
then_some (Some x) f y e = (x, refl, e)
then_some None f y e = absurd cc

chosen : (w : List ℕ) (k k' : Kind) (more : Option Kind) → (more ≡ Some k → w ≡ kind_word k) → (b : Bool) → (b ≡ true → w ≡ kind_word k')
    → cond b (Some k') more ≡ Some k → w ≡ kind_word k
chosen w k k' more other true is h = let e : k' ≡ k = cc h in rw (← e) (is refl)
chosen w k k' more other false is h = other h

kind_takes : (w : List ℕ) (k : Kind) → kind_of w ≡ Some k → w ≡ kind_word k
unfolding kind_of
kind_takes w k h = grind (arith, codes, word_is)

form_takes : (v : Version) (ws : List (List ℕ)) (k : Kind) (vs : List (List ℕ)) → form v ws ≡ Some (k, vs)
    → (ws ≡ kind_word k ∷ vs) × (is_known v k ≡ true) × (has_its_id k vs ≡ true)
unfolding form
form_takes v [] k vs h = absurd cc
form_takes v (w ∷ ws) k vs h =
    let u = cond_none (list_any is_empty (w ∷ ws)) _ (k, vs) h in
    let t = then_some (kind_of w) (λ k. cond (is_known v k && (eqb (length ws + 1) (word_count k) && has_its_id k ws)) (Some (k, ws)) None) (k, vs) u.1 in
    let o = some_needs_true (is_known v t.0 && (eqb (length ws + 1) (word_count t.0) && has_its_id t.0 ws)) (Some (t.0, ws)) (k, vs) t.2 in
    let m = and_parts (is_known v t.0) (eqb (length ws + 1) (word_count t.0) && has_its_id t.0 ws) o.0 in
    let n = and_parts (eqb (length ws + 1) (word_count t.0)) (has_its_id t.0 ws) m.1 in
    let same : ◌≡◌ {A = Kind × List (List ℕ)} (t.0, ws) (k, vs) = cc o.1 in
    subst (λ (p : Kind × List (List ℕ)). (w ∷ ws ≡ kind_word p.0 ∷ p.1) × (is_known v p.0 ≡ true) × (has_its_id p.0 p.1 ≡ true)) same
    (ap (λ (x : List ℕ). x ∷ ws) (kind_takes w t.0 t.1), m.0, n.1)

front_takes : {A : Type 0} (read : List ℕ → Option A) (ws : List (List ℕ)) (x : A × List (List ℕ)) → front read ws ≡ Some x
    → (w : List ℕ) × (ws ≡ w ∷ x.1) × (read w ≡ Some x.0)
front_takes read [] x h = absurd cc
front_takes read (w ∷ ws) x h = grind arith

last_takes : {A : Type 0} (x y : A) (ws : List (List ℕ)) → last x ws ≡ Some y → (x ≡ y) × (ws ≡ [])
last_takes x y [] h = (cc, refl)
last_takes x y (w ∷ ws) h = absurd cc

point_takes : (v : Version) (ws : List (List ℕ)) (p : (ℤ × ℤ) × List (List ℕ)) → point v ws ≡ Some p
    → (ws ≡ coordinate_word v p.0.0 ∷ coordinate_word v p.0.1 ∷ p.1) × (CoordinateFits v p.0.0 × CoordinateFits v p.0.1)
unfolding point
point_takes v ws p h =
    let a = then_some (front (cert_coordinate v) ws) (λ x. front (cert_coordinate v) x.1 >>? λ y. Some ((x.0, y.0), y.1)) p h in
    let b = then_some (front (cert_coordinate v) a.0.1) (λ y. Some ((a.0.0, y.0), y.1)) p a.2 in
    let fa = front_takes (cert_coordinate v) ws a.0 a.1 in
    let fb = front_takes (cert_coordinate v) a.0.1 b.0 b.1 in
    let ca = coordinate_takes v fa.0 a.0.0 fa.2 in
    let cb = coordinate_takes v fb.0 b.0.0 fb.2 in
    let same : ((a.0.0, b.0.0), b.0.1) ≡ p = cc b.2 in
    let words : ws ≡ coordinate_word v a.0.0 ∷ coordinate_word v b.0.0 ∷ b.0.1 = fa.1 ∙ ap (λ (w : List ℕ). w ∷ a.0.1) ca.0
    ∙ ap (λ (vs : List (List ℕ)). coordinate_word v a.0.0 ∷ vs) (fb.1 ∙ ap (λ (w : List ℕ). w ∷ b.0.1) cb.0) in
    subst (λ (q : (ℤ × ℤ) × List (List ℕ)). (ws ≡ coordinate_word v q.0.0 ∷ coordinate_word v q.0.1 ∷ q.1) × (CoordinateFits v q.0.0 × CoordinateFits v q.0.1)) same
    (words, (ca.1, cb.1))

corners_take : (v : Version) (ws : List (List ℕ)) (c : Corners) → corners v ws ≡ Some c → (ws ≡ corner_words v c) × CornersFit v c
unfolding corners
corners_take v ws c h =
    let a = then_some (point v ws) _ c h in
    let b = then_some (point v a.0.1) _ c a.2 in
    let d = then_some (point v b.0.1) _ c b.2 in
    let made : Corners = record { x1 = a.0.0.0; y1 = a.0.0.1; x2 = b.0.0.0; y2 = b.0.0.1; x3 = d.0.0.0; y3 = d.0.0.1 } in
    let l = last_takes made c d.0.1 d.2 in
    let pa = point_takes v ws a.0 a.1 in
    let pb = point_takes v a.0.1 b.0 b.1 in
    let pd = point_takes v b.0.1 d.0 d.1 in
    let words : ws ≡ corner_words v made =
    pa.0 ∙ ap (λ (vs : List (List ℕ)). coordinate_word v made.x1 ∷ coordinate_word v made.y1 ∷ vs)
    (pb.0 ∙ ap (λ (vs : List (List ℕ)). coordinate_word v made.x2 ∷ coordinate_word v made.y2 ∷ vs)
    (pd.0 ∙ ap (λ (vs : List (List ℕ)). coordinate_word v made.x3 ∷ coordinate_word v made.y3 ∷ vs) l.1)) in
    subst (λ (c : Corners). (ws ≡ corner_words v c) × CornersFit v c) l.0
    (words, record { x1 = pa.1.0; y1 = pa.1.1; x2 = pb.1.0; y2 = pb.1.1; x3 = pd.1.0; y3 = pd.1.1 })

natural_front : (limit : ℕ) (ws : List (List ℕ)) (x : ℕ × List (List ℕ)) → limit ≤ number_margin → front (cert_number limit) ws ≡ Some x
    → (ws ≡ decimal x.0 ∷ x.1) × (x.0 ≤ limit)
natural_front limit ws x small h = let f = front_takes (cert_number limit) ws x h in let t =
    number_takes limit f.0 x.0 small f.2 in (f.1 ∙ ap (λ (v : List ℕ). v ∷ x.1) t.0, t.1)

separator_takes : (ws : List (List ℕ)) (p : Separator) → separator ws ≡ Some p → (ws ≡ decimal p.i ∷ decimal p.j ∷ decimal p.k ∷ []) × SeparatorFits p
unfolding separator
separator_takes ws p h =
    let a = then_some (front natural ws) _ p h in
    let b = then_some (front natural a.0.1) _ p a.2 in
    let d = then_some (front (cert_number last_edge) b.0.1) _ p b.2 in
    let made : Separator = record { i = a.0.0; j = b.0.0; k = d.0.0 } in
    let l = last_takes made p d.0.1 d.2 in
    let pa = natural_front greatest_count ws a.0 (omega arith) a.1 in
    let pb = natural_front greatest_count a.0.1 b.0 (omega arith) b.1 in
    let pd = natural_front last_edge b.0.1 d.0 (omega arith) d.1 in
    let words : ws ≡ decimal made.i ∷ decimal made.j ∷ decimal made.k ∷ [] =
    pa.0 ∙ ap (λ (vs : List (List ℕ)). decimal made.i ∷ vs)
    (pb.0 ∙ ap (λ (vs : List (List ℕ)). decimal made.j ∷ vs) (pd.0 ∙ ap (λ (vs : List (List ℕ)). decimal made.k ∷ vs) l.1)) in
    subst (λ (p : Separator). (ws ≡ decimal p.i ∷ decimal p.j ∷ decimal p.k ∷ []) × SeparatorFits p) l.0 (words, record { i = pa.1; j = pb.1; k = pd.1 })

-- a line of this kind, with these further words
record IsLine (v : Version) (k : Kind) (ws : List (List ℕ)) (l : CertLine) : Type 0 where
  pub kind : k ≡ line_kind l
  pub fields : ws ≡ fields v l
  pub fits : LineFits v l

first_id : (w : List ℕ) (ws vs : List (List ℕ)) → ws ≡ w ∷ vs → first_is_id ws ≡ true → is_id w ≡ true
first_id w ws vs e h = rw e at h

piece_takes : (v : Version) (ws : List (List ℕ)) (l : CertLine) → first_is_id ws ≡ true → piece_line ws ≡ Some l → IsLine v Piece ws l
unfolding piece_line
piece_takes v ws l named h =
    let a = then_some (front (λ w. Some w) ws) _ l h in
    let b = then_some (front natural a.0.1) _ l a.2 in
    let d = then_some (front natural b.0.1) _ l b.2 in
    let made : CertLine = PieceLine a.0.0 b.0.0 d.0.0 in
    let e = last_takes made l d.0.1 d.2 in
    let pa = front_takes (λ w. Some w) ws a.0 a.1 in
    let pb = natural_front greatest_count a.0.1 b.0 (omega arith) b.1 in
    let pd = natural_front greatest_count b.0.1 d.0 (omega arith) d.1 in
    let same : pa.0 ≡ a.0.0 = cc pa.2 in
    let first : ws ≡ a.0.0 ∷ a.0.1 = rw same at pa.1 in
    let words : ws ≡ fields v made = first ∙ ap (λ (vs : List (List ℕ)). a.0.0 ∷ vs)
    (pb.0 ∙ ap (λ (vs : List (List ℕ)). decimal b.0.0 ∷ vs) (pd.0 ∙ ap (λ (vs : List (List ℕ)). decimal d.0.0 ∷ vs)
    e.1)) in
    subst (λ (l : CertLine). IsLine v Piece ws l) e.0 (record { kind = refl; fields = words; fits = (first_id a.0.0 ws a.0.1 first named, pb.1, pd.1) })

parcel_takes : (v : Version) (ws : List (List ℕ)) (l : CertLine) → first_is_id ws ≡ true → parcel_block_line ws ≡ Some l → IsLine v Parcel ws l
unfolding parcel_block_line
parcel_takes v ws l named h =
    let a = then_some (front (λ w. Some w) ws) _ l h in
    let d = then_some (front natural a.0.1) _ l a.2 in
    let made : CertLine = ParcelLine a.0.0 d.0.0 in
    let e = last_takes made l d.0.1 d.2 in
    let pa = front_takes (λ w. Some w) ws a.0 a.1 in
    let pd = natural_front greatest_count a.0.1 d.0 (omega arith) d.1 in
    let same : pa.0 ≡ a.0.0 = cc pa.2 in
    let first : ws ≡ a.0.0 ∷ a.0.1 = rw same at pa.1 in
    let words : ws ≡ fields v made = first ∙ ap (λ (vs : List (List ℕ)). a.0.0 ∷ vs) (pd.0 ∙ ap (λ (vs : List (List ℕ)). decimal d.0.0 ∷ vs) e.1) in
    subst (λ (l : CertLine). IsLine v Parcel ws l) e.0 (record { kind = refl; fields = words; fits = (first_id a.0.0 ws a.0.1 first named, pd.1) })

side_takes : (w : List ℕ) (m : Bool) → merge_of w ≡ Some m → w ≡ side m
side_takes w m h = by_one (bytes_eq w (codes "split")) refl (bytes_eq w (codes "merge")) refl h
  where
    by_one : (a : Bool) → bytes_eq w (codes "split") ≡ a → (b : Bool) → bytes_eq w (codes "merge") ≡ b
        → cond a (Some false) (cond b (Some true) None) ≡ Some m → w ≡ side m
    by_one true e b f h = let same : false ≡ m = cc h in rw (← same) (word_is w (codes "split") e)
    by_one false e true f h = let same : true ≡ m = cc h in rw (← same) (word_is w (codes "merge") f)
    by_one false e false f h = absurd cc

second_id : (w : List ℕ) (ws vs : List (List ℕ)) → vs ≡ w ∷ ws → first_is_split_or_merge vs ≡ true → first_is_id ws ≡ true
second_id w ws vs e h = let named : (is_some (merge_of w) && first_is_id ws) ≡ true = rw e at h in (and_parts (is_some (merge_of w)) (first_is_id ws) named).1

exact_takes : (v : Version) (ws : List (List ℕ)) (l : CertLine) → has_exact v ≡ true → first_is_split_or_merge ws ≡ true → exact_line ws ≡ Some l → IsLine v Exact ws l
unfolding exact_line
exact_takes v ws l known named h =
    let a = then_some (front merge_of ws) _ l h in
    let b = then_some (front (λ w. Some w) a.0.1) _ l a.2 in
    let d = then_some (front natural b.0.1) _ l b.2 in
    let made : CertLine = ExactLine a.0.0 b.0.0 d.0.0 in
    let e = last_takes made l d.0.1 d.2 in
    let pa = front_takes merge_of ws a.0 a.1 in
    let pb = front_takes (λ w. Some w) a.0.1 b.0 b.1 in
    let pd = natural_front greatest_count b.0.1 d.0 (omega arith) d.1 in
    let same : pb.0 ≡ b.0.0 = cc pb.2 in
    let second : a.0.1 ≡ b.0.0 ∷ b.0.1 = rw same at pb.1 in
    let words : ws ≡ fields v made = pa.1 ∙ ap (λ (w : List ℕ). w ∷ a.0.1) (side_takes pa.0 a.0.0 pa.2)
    ∙ ap (λ (vs : List (List ℕ)). side a.0.0 ∷ vs) (second ∙ ap (λ (vs : List (List ℕ)). b.0.0 ∷ vs) (pd.0 ∙ ap (λ (vs : List (List ℕ)). decimal d.0.0 ∷ vs) e.1)) in
    let id = first_id b.0.0 a.0.1 b.0.1 second (second_id pa.0 a.0.1 ws pa.1 named) in
    subst (λ (l : CertLine). IsLine v Exact ws l) e.0 (record { kind = refl; fields = words; fits = (known, id, pd.1) })

pairs_take : (v : Version) (ws : List (List ℕ)) (l : CertLine) → pairs_line ws ≡ Some l → IsLine v Pairs ws l
unfolding pairs_line
pairs_take v ws l h =
    let d = then_some (front natural ws) _ l h in
    let made : CertLine = PairsLine d.0.0 in
    let e = last_takes made l d.0.1 d.2 in
    let pd = natural_front greatest_count ws d.0 (omega arith) d.1 in
    subst (λ (l : CertLine). IsLine v Pairs ws l) e.0 (record { kind = refl; fields = pd.0 ∙ ap (λ (vs : List (List ℕ)). decimal d.0.0 ∷ vs) e.1; fits = pd.1 })

values_take : (v : Version) (k : Kind) (ws : List (List ℕ)) (l : CertLine) → is_known v k ≡ true → has_its_id k ws ≡ true → values v k ws ≡ Some l → IsLine v k ws l
unfolding values
values_take v Piece ws l known named h = piece_takes v ws l named h
values_take v Triangle ws l known named h =
    let a = then_some (corners v ws) (λ c. Some (TriangleLine c)) l h in
    let t = corners_take v ws a.0 a.1 in
    let same : TriangleLine a.0 ≡ l = cc a.2 in
    subst (λ (l : CertLine). IsLine v Triangle ws l) same (record { kind = refl; fields = t.0; fits = t.1 })
values_take v Flat ws l known named h =
    let a = then_some (corners v ws) (λ c. Some (FlatLine c)) l h in
    let t = corners_take v ws a.0 a.1 in
    let same : FlatLine a.0 ≡ l = cc a.2 in
    subst (λ (l : CertLine). IsLine v Flat ws l) same (record { kind = refl; fields = t.0; fits = t.1 })
values_take v Parcel ws l known named h = parcel_takes v ws l named h
values_take v Exact ws l known named h = exact_takes v ws l known named h
values_take v Pairs ws l known named h = pairs_take v ws l h
values_take v Pair ws l known named h =
    let a = then_some (separator ws) (λ c. Some (PairLine c)) l h in
    let t = separator_takes ws a.0 a.1 in
    let same : PairLine a.0 ≡ l = cc a.2 in
    subst (λ (l : CertLine). IsLine v Pair ws l) same (record { kind = refl; fields = t.0; fits = t.1 })
values_take v End ws l known named h = grind (arith, last_takes)

-- a line that can stand here, and its text
pub record ReadsAs (v : Version) (e : Expected) (line : List ℕ) (l : CertLine) : Type 0 where
  pub text : line ≡ spelling v l
  pub fits : LineFits v l
  pub stands : can_stand e (line_kind l) ≡ true

formed_ok : (e : Expected) (o : Option (Kind × List (List ℕ))) (p : Kind × List (List ℕ)) → with_form e o ≡ Ok p → (o ≡ Some p) × (can_stand e p.0 ≡ true)
formed_ok e None p h = absurd cc
formed_ok e (Some q) p h = grind arith

number_ok : (o : Option CertLine) (l : CertLine) → or_number o ≡ Ok l → o ≡ Some l
number_ok None l h = absurd cc
number_ok (Some m) l h = cc

-- a placed line whose words have the values of a line is the spelling of that line, which has a text and can stand
pub placed_takes : (v : Version) (e : Expected) (line : List ℕ) (k : Kind) (ws : List (List ℕ)) (l : CertLine) → kind_placed v e line ≡ Ok (k, ws)
    → values v k ws ≡ Some l → ReadsAs v e line l
unfolding kind_placed spelling
placed_takes v e line k ws l h g =
    let f = formed_ok e (form v (words line)) (k, ws) h in
    let t = form_takes v (words line) k ws f.0 in
    let is = values_take v k ws l t.1 t.2 g in
    let kind = is.kind in
    let all : words line ≡ words_of v l =
    t.0 ∙ ap (λ (k : Kind). kind_word k ∷ ws) kind ∙ ap (λ (vs : List (List ℕ)). kind_word (line_kind l) ∷ vs) is.fields ∙ sym (words_are v l) in
    record { text = sym (join_with_byte-slice_split 32 line) ∙ ap (join_with_byte 32) all; fits = is.fits; stands = rw (← kind) f.1 }

-- what reads as a line is the spelling of that line, which has a text and can stand
pub read_takes : (v : Version) (e : Expected) (line : List ℕ) (l : CertLine) → read_line v e line ≡ Ok l → ReadsAs v e line l
unfolding read_line
read_takes v e line l h =
    let b = bind_ok (kind_placed v e line) (λ p. or_number (values v p.0 p.1)) l h in
    placed_takes v e line b.0.0 b.0.1 l b.1 (number_ok (values v b.0.0 b.0.1) l b.2)

-- ---- one value a text

decode : Version → List (List ℕ) → Option CertLine
decode v ws = form v ws >>? λ p. values v p.0 p.1

decoded : (v : Version) (l : CertLine) → LineFits v l → decode v (words (spelling v l)) ≡ Some l
unfolding decode
decoded v l fits = grind (arith, spelling_words, form_again, field_words, known_right, length_right, names_right, values_again)

-- two lines that have a text are equal where their spellings are
pub spelling_injective : (v : Version) (l m : CertLine) → LineFits v l → LineFits v m → spelling v l ≡ spelling v m → l ≡ m
spelling_injective v l m fl fm e =
    let same : Some l ≡ Some m = sym (decoded v l fl) ∙ ap (λ (x : List ℕ). decode v (words x)) e ∙ decoded v m fm in
    cc same
