-- The rows that are kept after one region more.
use Rattle.std.proofs.Common.{◌≡◌, ℕ, suc, ◌+◌, ◌<◌, length, get_or, Bool, true, false, not, cond, ◌&&◌, inl, inr}
use Rattle.std.proofs.Common.{◌++◌, List, [], ◌∷◌, map, filter, flat_map, drop, Some, All, refl, ap, ap₂, sym, ◌∙◌, subst}
use Rattle.std.proofs.Common.{append-nil, append_assoc}
use Rattle.std.specs.Prelude.{Contains as IsAmong}
use Rattle.std.specs.List.{IsDistinct, list_any, slice_get}
use Rattle.std.specs.Option.{option_to_list}
use Rattle.std.proofs.lemmas.List.{drop_more, map-append}
use Rattle.std.proofs.lemmas.List.Elements.{All-contains_itself, All-head, All-tail, All-weaker, filter-append}
use Rattle.lpis_points.specs.declared.boxes.Box4.{Box4}
use Rattle.lpis_tables.specs.declared.piece.Piece.{Piece}
use Rattle.lpis_tables.specs.Ids.{has_id, same_id}
use Rattle.lpis_release.specs.declared.parcel.Parcel.{Parcel}
use Rattle.lpis_release.specs.Release.{Contents, parcel_ids, pieces_named}
use Rattle.lpis_country.specs.Country.{is_new, new_parcels, with_region}
use Rattle.lpis_country.proofs.Shared.{has_among}
use Rattle.lpis_country.specs.Tiling.{reaches}
use Rattle.lpis_country_seam.specs.declared.kept.KeptRow.{KeptRow}
use Rattle.lpis_country_seam.specs.Open.{HaveAwaited, rows_of_kept}
use Rattle.lpis_country_seam.specs.private.Kept.{AreThinned, at_places, new_rows, row_ids, row_in, rows_reaching, with_kept_row, with_rows}
use Rattle.lpis_country_seam.proofs.ListLemmas.{apart-before, distinct-filter}
use Rattle.lpis_country_seam.proofs.TileLemmas.{next-later}

-- ---- rows that are added one after the other
with-row : (rows : List KeptRow) (o : KeptRow) → has_id (row_ids rows) o.parcel.id ≡ false → with_kept_row rows o ≡ rows ++ o ∷ []
with-row rows o e = ap (λ (b : Bool). cond b rows (rows ++ o ∷ [])) e

-- where no identifier stands twice they all stand behind
all-added : (rows os : List KeptRow) → IsDistinct same_id (row_ids (rows ++ os)) → with_rows rows os ≡ rows ++ os
all-added rows [] d = sym (append-nil rows)
all-added rows (o ∷ os) d =
    ap (λ (xs : List KeptRow). with_rows xs os) (with-row rows o
    (apart-before (row_ids rows) o.parcel.id (row_ids os) (subst (IsDistinct same_id) (map-append (λ (x : KeptRow). x.parcel.id) rows (o ∷ os)) d)))
    ∙ all-added (rows ++ o ∷ []) os (subst (λ (xs : List KeptRow). IsDistinct same_id (row_ids xs)) (sym (append_assoc rows (o ∷ []) os)) d)
    ∙ append_assoc rows (o ∷ []) os

-- ---- rows of parcels that a later tile meets
-- kept so far, and met by one of these tiles
abbrev both : List Box4 → (Parcel → Bool) → Parcel → Bool
both later q k = q k && list_any (reaches k) later

still-rows : (later : List Box4) (q : Parcel → Bool) (u : Contents) (ps : List Parcel) → rows_reaching later (map (row_in u) (filter q ps)) ≡ map (row_in u) (filter (both later q) ps)
still-rows later q u [] = refl
still-rows later q u (p ∷ ps) = by (q p) (list_any (reaches p) later) refl (still-rows later q u ps)
  where
    rest : List KeptRow
    rest = map (row_in u) (filter q ps)

    next : List Parcel
    next = filter (both later q) ps

    by : (b c : Bool) → list_any (reaches p) later ≡ c → rows_reaching later rest ≡ map (row_in u) next
        → rows_reaching later (map (row_in u) (cond b (p ∷ filter q ps) (filter q ps))) ≡ map (row_in u) (cond (b && c) (p ∷ next) next)
    by true true f h = ap (λ (t : Bool). cond t (row_in u p ∷ rows_reaching later rest) (rows_reaching later rest)) f ∙ ap (λ (xs : List KeptRow). row_in u p ∷ xs) h
    by true false f h = ap (λ (t : Bool). cond t (row_in u p ∷ rows_reaching later rest) (rows_reaching later rest)) f ∙ h
    by false c f h = h

-- ---- rows in two releases
abbrev made : Parcel → List Piece → KeptRow
made k xs = record { parcel = k; pieces = xs }

mapped-alike : (f g : Parcel → KeptRow) (q : Parcel → Bool) (ps : List Parcel) → All (λ (k : Parcel). f k ≡ g k) ps → map f (filter q ps) ≡ map g (filter q ps)
mapped-alike f g q [] a = refl
mapped-alike f g q (p ∷ ps) a = by (q p) (mapped-alike f g q ps (All-tail (λ (k : Parcel). f k ≡ g k) p ps a))
  where
    by : (b : Bool) → map f (filter q ps) ≡ map g (filter q ps) → map f (cond b (p ∷ filter q ps) (filter q ps)) ≡ map g (cond b (p ∷ filter q ps) (filter q ps))
    by true h = ap₂ ◌∷◌ (All-head (λ (k : Parcel). f k ≡ g k) p ps a) h
    by false h = h

-- ---- which parcels are kept after one region more: of those that were there, those that are kept; of
-- the new ones, those that one of these tiles meets
abbrev kept_or_new : List Box4 → (Parcel → Bool) → Contents → Parcel → Bool
kept_or_new later q u k = cond (has_id (parcel_ids u.parcels) k.id) (q k) (list_any (reaches k) later)

filtered-alike : (p q : Parcel → Bool) (ps : List Parcel) → All (λ (k : Parcel). p k ≡ q k) ps → filter p ps ≡ filter q ps
filtered-alike p q [] a = refl
filtered-alike p q (k ∷ ks) a =
    ap₂ (λ (b : Bool) (xs : List Parcel). cond b (k ∷ xs) xs) (All-head (λ (x : Parcel). p x ≡ q x) k ks a) (filtered-alike p q ks (All-tail (λ (x : Parcel). p x ≡ q x) k ks a))

-- those that were there
kept-old : (later : List Box4) (q : Parcel → Bool) (u : Contents) → filter (kept_or_new later q u) u.parcels ≡ filter q u.parcels
kept-old later q u = filtered-alike (kept_or_new later q u) q u.parcels
    (All-weaker (IsAmong u.parcels) (λ (k : Parcel). kept_or_new later q u k ≡ q k) (λ k a. ap (λ (b : Bool). cond b (q k) (list_any (reaches k) later)) (has_among u.parcels k a)) u.parcels
    (All-contains_itself u.parcels))

-- those that are new
kept-new : (later : List Box4) (q : Parcel → Bool) (u : Contents) (ps : List Parcel)
    → filter (kept_or_new later q u) (filter (λ (k : Parcel). is_new u k.id) ps) ≡ filter (λ (k : Parcel). list_any (reaches k) later) (filter (λ (k : Parcel). is_new u k.id) ps)
kept-new later q u [] = refl
kept-new later q u (p ∷ ps) = by (has_id (parcel_ids u.parcels) p.id) refl (kept-new later q u ps)
  where
    news : List Parcel
    news = filter (λ (k : Parcel). is_new u k.id) ps

    by : (b : Bool) → has_id (parcel_ids u.parcels) p.id ≡ b → filter (kept_or_new later q u) news ≡ filter (λ (k : Parcel). list_any (reaches k) later) news
        → filter (kept_or_new later q u) (cond (not b) (p ∷ news) news) ≡ filter (λ (k : Parcel). list_any (reaches k) later) (cond (not b) (p ∷ news) news)
    by true e h = h
    by false e h = ap₂ (λ (b : Bool) (xs : List Parcel). cond b (p ∷ xs) xs) (ap (λ (b : Bool). cond b (q p) (list_any (reaches p) later)) e) h

-- the rows that are kept after one region more: those that were, and those of new parcels
awaited-next : (later : List Box4) (q : Parcel → Bool) (u r : Contents) → All (λ (k : Parcel). pieces_named (with_region u r) k.id ≡ pieces_named u k.id) u.parcels
    → All (λ (k : Parcel). pieces_named (with_region u r) k.id ≡ pieces_named r k.id) (new_parcels u r)
    → rows_of_kept (kept_or_new later q u) (with_region u r) ≡ rows_of_kept q u ++ new_rows later r (new_parcels u r)
awaited-next later q u r old new =
    ap (map (row_in (with_region u r))) (filter-append (kept_or_new later q u) u.parcels (new_parcels u r) ∙ ap₂ ◌++◌ (kept-old later q u) (kept-new later q u r.parcels))
    ∙ map-append (row_in (with_region u r)) (filter q u.parcels) (filter (λ (k : Parcel). list_any (reaches k) later) (new_parcels u r))
    ∙ ap₂ ◌++◌ (mapped-alike (row_in (with_region u r)) (row_in u) q u.parcels
    (All-weaker (λ (k : Parcel). pieces_named (with_region u r) k.id ≡ pieces_named u k.id) (λ (k : Parcel). row_in (with_region u r) k ≡ row_in u k) (λ k e. same-row k e) u.parcels old))
    (mapped-alike (row_in (with_region u r)) (row_in r) (λ (k : Parcel). list_any (reaches k) later) (new_parcels u r)
    (All-weaker (λ (k : Parcel). pieces_named (with_region u r) k.id ≡ pieces_named r k.id) (λ (k : Parcel). row_in (with_region u r) k ≡ row_in r k) (λ k e. same-row k e)
    (new_parcels u r) new))
  where
    same-row : (k : Parcel) {xs ys : List Piece} → xs ≡ ys → made k xs ≡ made k ys
    same-row k e = ap (made k) e

ids-of-rows : (u : Contents) (ps : List Parcel) → row_ids (map (row_in u) ps) ≡ parcel_ids ps
ids-of-rows u [] = refl
ids-of-rows u (p ∷ ps) = ap (λ (ids : List (List ℕ)). p.id ∷ ids) (ids-of-rows u ps)

kept-distinct : (q : Parcel → Bool) (u : Contents) → IsDistinct same_id (parcel_ids u.parcels) → IsDistinct same_id (row_ids (rows_of_kept q u))
kept-distinct q u d = subst (IsDistinct same_id) (sym (ids-of-rows u (filter q u.parcels))) (distinct-filter q u.parcels d)

-- ---- rows of which those may be let go that are done with
record AreStill (later : List Box4) (u : Contents) (rows : List KeptRow) : Type 0 where
  is_kept : Parcel → Bool
  are : rows ≡ rows_of_kept is_kept u
  awaited : (k : Parcel) → list_any (reaches k) later ≡ true → is_kept k ≡ true

and-true : (b c : Bool) → b ≡ true → c ≡ true → (b && c) ≡ true
and-true true c e f = f
and-true false c e f = e

thinned : (later : List Box4) (u : Contents) (kept rows : List KeptRow) → IsDistinct same_id (parcel_ids u.parcels) → AreStill later u kept → AreThinned later kept rows → AreStill later u rows
thinned later u kept rows d h (inl e) = record { is_kept = h.is_kept; are = e ∙ h.are; awaited = h.awaited }
thinned later u kept rows d h (inr e) = record {
  is_kept = both later h.is_kept;
  are = e ∙ ap (λ (xs : List KeptRow). with_rows [] (rows_reaching later xs)) h.are ∙ ap (with_rows []) (still-rows later h.is_kept u u.parcels)
      ∙ all-added [] (rows_of_kept (both later h.is_kept) u) (kept-distinct (both later h.is_kept) u d);
  awaited = λ k a. and-true (h.is_kept k) (list_any (reaches k) later) (h.awaited k a) a;
}

-- what a step keeps
pub kept-next : (tiles : List Box4) (n : ℕ) (u r : Contents) (kept rows next : List KeptRow) (news : List Parcel)
    → IsDistinct same_id (parcel_ids u.parcels) → IsDistinct same_id (parcel_ids (with_region u r).parcels)
    → All (λ (k : Parcel). pieces_named (with_region u r) k.id ≡ pieces_named u k.id) u.parcels → All (λ (k : Parcel). pieces_named (with_region u r) k.id ≡ pieces_named r k.id) (new_parcels u r)
    → HaveAwaited tiles n u kept → news ≡ new_parcels u r → AreThinned (drop (suc n) tiles) kept rows → next ≡ with_rows rows (new_rows (drop (suc n) tiles) r news)
    → HaveAwaited tiles (suc n) (with_region u r) next
kept-next tiles n u r kept rows next news du dv old new k w t e = record {
  is_kept = kept_or_new later still.is_kept u;
  are = e ∙ ap₂ (λ (xs : List KeptRow) (ps : List Parcel). with_rows xs (new_rows later r ps)) still.are w
      ∙ all-added (rows_of_kept still.is_kept u) (new_rows later r (new_parcels u r))
      (subst (λ (xs : List KeptRow). IsDistinct same_id (row_ids xs)) is (kept-distinct (kept_or_new later still.is_kept u) (with_region u r) dv))
      ∙ sym is;
  awaited = λ x a. either (has_id (parcel_ids u.parcels) x.id) (still.is_kept x) (list_any (reaches x) later) (still.awaited x a) a;
}
  where
    later : List Box4
    later = drop (suc n) tiles

    still : AreStill later u rows
    still = thinned later u kept rows du (record { is_kept = k.is_kept; are = k.are; awaited = λ x a. k.awaited x (next-later x tiles n a) }) t

    is : rows_of_kept (kept_or_new later still.is_kept u) (with_region u r) ≡ rows_of_kept still.is_kept u ++ new_rows later r (new_parcels u r)
    is = awaited-next later still.is_kept u r old new

    either : (b c d : Bool) → c ≡ true → d ≡ true → cond b c d ≡ true
    either true c d f g = f
    either false c d f g = g

-- the tiles that are later
pub later-thinned : (later tiles : List Box4) (m : ℕ) (before kept rows : List KeptRow) → later ≡ drop m tiles → before ≡ kept → AreThinned later before rows → AreThinned (drop m tiles) kept rows
later-thinned later tiles m before kept rows e f h =
    subst (λ (ts : List Box4). AreThinned ts kept rows) e (subst (λ (xs : List KeptRow). AreThinned later xs rows) f h)

-- and those with new rows
pub later-rows : (later tiles : List Box4) (m : ℕ) (r : Contents) (places : List ℕ) (rows next : List KeptRow) → later ≡ drop m tiles
    → next ≡ with_rows rows (new_rows later r (at_places r.parcels places)) → next ≡ with_rows rows (new_rows (drop m tiles) r (at_places r.parcels places))
later-rows later tiles m r places rows next e h = h ∙ ap (λ (ts : List Box4). with_rows rows (new_rows ts r (at_places r.parcels places))) e

-- ---- places
with-rows-append : (rows xs ys : List KeptRow) → with_rows rows (xs ++ ys) ≡ with_rows (with_rows rows xs) ys
with-rows-append rows [] ys = refl
with-rows-append rows (x ∷ xs) ys = with-rows-append (with_kept_row rows x) xs ys

new-rows-append : (tiles : List Box4) (r : Contents) (ks ls : List Parcel) → new_rows tiles r (ks ++ ls) ≡ new_rows tiles r ks ++ new_rows tiles r ls
new-rows-append tiles r ks ls = ap (map (row_in r)) (filter-append (λ (k : Parcel). list_any (reaches k) tiles) ks ls)
    ∙ map-append (row_in r) (filter (λ (k : Parcel). list_any (reaches k) tiles) ks) (filter (λ (k : Parcel). list_any (reaches k) tiles) ls)

-- one place more
pub place-more : (tiles : List Box4) (r : Contents) (kept rows more : List KeptRow) (places : List ℕ) (i p : ℕ) → i < length places → p ≡ get_or places i p
    → more ≡ with_rows rows (new_rows tiles r (option_to_list (slice_get r.parcels p)))
    → with_rows kept (new_rows tiles r (at_places r.parcels places)) ≡ with_rows rows (new_rows tiles r (at_places r.parcels (drop i places)))
    → with_rows kept (new_rows tiles r (at_places r.parcels places)) ≡ with_rows more (new_rows tiles r (at_places r.parcels (drop (i + 1) places)))
place-more tiles r kept rows more places i p l e m h =
    h ∙ ap (λ (is : List ℕ). with_rows rows (new_rows tiles r (at_places r.parcels is))) (drop_more places i p l ∙ ap (λ (x : ℕ). x ∷ drop (i + 1) places) (sym e))
    ∙ ap (with_rows rows) (new-rows-append tiles r (option_to_list (slice_get r.parcels p)) (at_places r.parcels (drop (i + 1) places)))
    ∙ with-rows-append rows (new_rows tiles r (option_to_list (slice_get r.parcels p))) (new_rows tiles r (at_places r.parcels (drop (i + 1) places)))
    ∙ ap (λ (xs : List KeptRow). with_rows xs (new_rows tiles r (at_places r.parcels (drop (i + 1) places)))) (sym m)

-- where places have these parcels one by one, the parcels at the places are these
pub parcels-at-places : (ps : List Parcel) (places : List ℕ) (ks : List Parcel) → map (slice_get ps) places ≡ map Some ks → at_places ps places ≡ ks
parcels-at-places ps places ks e = items places ∙ ap (flat_map option_to_list) e ∙ back ks
  where
    items : (is : List ℕ) → at_places ps is ≡ flat_map option_to_list (map (slice_get ps) is)
    items [] = refl
    items (i ∷ is) = ap (λ (xs : List Parcel). option_to_list (slice_get ps i) ++ xs) (items is)

    back : (xs : List Parcel) → flat_map option_to_list (map Some xs) ≡ xs
    back [] = refl
    back (x ∷ xs) = ap (λ (ys : List Parcel). x ∷ ys) (back xs)
