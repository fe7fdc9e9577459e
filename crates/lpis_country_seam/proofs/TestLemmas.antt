-- What is kept of the regions that were let go tells the faults of the next one.
use Rattle.std.proofs.Common.{◌≡◌, ℕ, Bool, true, false, not, cond, ◌&&◌, ◌++◌, List, [], ◌∷◌, map, filter, flat_map, Option, None, Some, is_some, refl, ap, ap₂, sym, ◌∙◌, subst}
use Rattle.std.specs.List.{IsDistinct, find}
use Rattle.std.specs.Cmp.Lexicographic.{bytes_decides}
use Rattle.std.proofs.lemmas.Map.Keys.{IsDistinct-head, IsDistinct-tail}
use Rattle.lpis_points.specs.declared.boxes.Box4.{Box4}
use Rattle.lpis_tables.specs.Ids.{has_id, same_id}
use Rattle.lpis_release.specs.declared.parcel.Parcel.{Parcel}
use Rattle.lpis_release.specs.Release.{Contents, parcel_ids, parcel_named}
use Rattle.lpis_country_seam.specs.declared.kept.KeptRow.{KeptRow}
use Rattle.lpis_country_seam.specs.declared.fault.SeamCode.TheVariants.{Elsewhere, Reused, Differs, Lacks}
use Rattle.lpis_country_seam.specs.declared.fault.SeamFault.{SeamFault}
use Rattle.lpis_country_seam.specs.declared.fault.SeamFault.TheVariants.{At}
use Rattle.lpis_country_seam.specs.Faults.{earlier_faults, is_double, is_lacking, seam_row_faults, reaches_later, reaches_own, seam_fault_if}
use Rattle.lpis_country_seam.specs.Open.{HaveAwaited}
use Rattle.lpis_country_seam.specs.private.Kept.{row_in}
use Rattle.lpis_country_seam.specs.private.Testing.{fresh_faults, known_faults, row_named, tested_kept, tested_row}
use Rattle.lpis_country_seam.proofs.ListLemmas.{Differ, not-both, has-found, is_of, none-found}
use Rattle.lpis_country_seam.proofs.TileLemmas.{own-later}

-- the kept row of a parcel, where it is one of those that are kept
abbrev kept_of : Contents → (Parcel → Bool) → Option Parcel → Option KeptRow
kept_of u q None = None
kept_of u q (Some k) = cond (q k) (Some (row_in u k)) None

kept-row : (u : Contents) (q : Parcel → Bool) (id : List ℕ) (ps : List Parcel) → IsDistinct same_id (parcel_ids ps) → row_named (map (row_in u) (filter q ps)) id ≡ kept_of u q (find (is_of id) ps)
kept-row u q id [] d = refl
kept-row u q id (p ∷ ps) d = by (q p) (same_id id p.id) refl refl (kept-row u q id ps (IsDistinct-tail same_id p.id (parcel_ids ps) d))
  where
    rest : List KeptRow
    rest = map (row_in u) (filter q ps)

    by : (b s : Bool) → q p ≡ b → same_id id p.id ≡ s → row_named rest id ≡ kept_of u q (find (is_of id) ps)
        → row_named (map (row_in u) (cond b (p ∷ filter q ps) (filter q ps))) id ≡ kept_of u q (cond s (Some p) (find (is_of id) ps))
    by true true e f h = ap (λ (t : Bool). cond t (Some (row_in u p)) (row_named rest id)) f ∙ sym (ap (λ (t : Bool). cond t (Some (row_in u p)) None) e)
    by true false e f h = ap (λ (t : Bool). cond t (Some (row_in u p)) (row_named rest id)) f ∙ h
    by false true e f h = h ∙ ap (kept_of u q) (none-found id ps
        (subst (λ (x : List ℕ). Differ x (parcel_ids ps)) (sym ((bytes_decides id p.id).0 f)) (IsDistinct-head same_id p.id (parcel_ids ps) d)))
        ∙ sym (ap (λ (t : Bool). cond t (Some (row_in u p)) None) e)
    by false false e f h = h

-- ---- one row
abbrev Awaits : List Box4 → ℕ → (Parcel → Bool) → Type 0
Awaits tiles n q = (k : Parcel) → reaches_later tiles n k ≡ true → q k ≡ true

-- a parcel that is not kept meets no later tile
unawaited : (tiles : List Box4) (n : ℕ) (q : Parcel → Bool) → Awaits tiles n q → (p : Parcel) → q p ≡ false → reaches_later tiles n p ≡ false
unawaited tiles n q a p e = by (reaches_later tiles n p) refl
  where
    by : (b : Bool) → reaches_later tiles n p ≡ b → reaches_later tiles n p ≡ false
    by true f = absurd (not-both (q p) (a p f) e)
    by false f = f

known-same : (tiles : List Box4) (n : ℕ) (q : Parcel → Bool) → Awaits tiles n q → (u r : Contents) (k p : Parcel) (b : Bool) → q p ≡ b
    → known_faults tiles n r k (cond b (Some (row_in u p)) None)
    ≡ cond (reaches_later tiles n p) (seam_fault_if (not (is_double u p r k)) (At Differs k.id n)) (At Reused k.id n ∷ [])
known-same tiles n q a u r k p true e = refl
known-same tiles n q a u r k p false e = sym (ap (λ (t : Bool). cond t (seam_fault_if (not (is_double u p r k)) (At Differs k.id n)) (At Reused k.id n ∷ [])) (unawaited tiles n q a p e))

by-parcel : (tiles : List Box4) (n : ℕ) (q : Parcel → Bool) → Awaits tiles n q → (u r : Contents) (k : Parcel) (b : Bool) (o : Option KeptRow) (f : Option Parcel) → b ≡ is_some f → o ≡ kept_of u q f
    → cond b (known_faults tiles n r k o) (fresh_faults tiles n k) ≡ earlier_faults tiles n u r k f
by-parcel tiles n q a u r k b o None e h = ap (λ (t : Bool). cond t (known_faults tiles n r k o) (fresh_faults tiles n k)) e
by-parcel tiles n q a u r k b o (Some p) e h = ap (λ (t : Bool). cond t (known_faults tiles n r k o) (fresh_faults tiles n k)) e ∙ ap (known_faults tiles n r k) h
    ∙ known-same tiles n q a u r k p (q p) refl

-- a row has the same faults by what is kept as by the whole country before it
pub row-same : (tiles : List Box4) (n : ℕ) (ids : List (List ℕ)) (kept : List KeptRow) (u r : Contents) → ((id : List ℕ) → has_id ids id ≡ has_id (parcel_ids u.parcels) id)
    → HaveAwaited tiles n u kept → IsDistinct same_id (parcel_ids u.parcels)
    → (k : Parcel) → tested_row tiles n ids kept r k ≡ seam_row_faults tiles n u r k
row-same tiles n ids kept u r i h d k = ap (λ (fs : List SeamFault). seam_fault_if (not (reaches_own tiles n k)) (At Elsewhere k.id n) ++ fs)
    (by-parcel tiles n h.is_kept h.awaited u r k (has_id ids k.id) (row_named kept k.id) (parcel_named u k.id) (i k.id ∙ has-found k.id u.parcels)
    (ap (λ (rows : List KeptRow). row_named rows k.id) h.are ∙ kept-row u h.is_kept k.id u.parcels d))

-- all rows
pub rows-same : {A : Type 0} (f g : A → List SeamFault) → ((x : A) → f x ≡ g x) → (xs : List A) → flat_map f xs ≡ flat_map g xs
rows-same f g h [] = refl
rows-same f g h (x ∷ xs) = ap₂ ◌++◌ (h x) (rows-same f g h xs)

-- ---- what a region lacks
lack-own : (tiles : List Box4) (n : ℕ) (r : Contents) (k : Parcel) → reaches_later tiles n k ≡ false → is_lacking tiles n r k ≡ false
lack-own tiles n r k e = by (reaches_own tiles n k) refl
  where
    by : (b : Bool) → reaches_own tiles n k ≡ b → (b && not (has_id (parcel_ids r.parcels) k.id)) ≡ false
    by true f = absurd (not-both (reaches_later tiles n k) (own-later k tiles n f) e)
    by false f = refl

abbrev lack_at : ℕ → Parcel → SeamFault
lack_at n k = At Lacks k.id n

lacking-same : (tiles : List Box4) (n : ℕ) (q : Parcel → Bool) → Awaits tiles n q → (u r : Contents) (ps : List Parcel)
    → tested_kept tiles n (map (row_in u) (filter q ps)) r ≡ map (lack_at n) (filter (is_lacking tiles n r) ps)
lacking-same tiles n q a u r [] = refl
lacking-same tiles n q a u r (p ∷ ps) = by (q p) refl (lacking-same tiles n q a u r ps)
  where
    rest : List KeptRow
    rest = map (row_in u) (filter q ps)

    own : (b : Bool) → tested_kept tiles n rest r ≡ map (lack_at n) (filter (is_lacking tiles n r) ps)
        → map (λ (o : KeptRow). lack_at n o.parcel) (cond b (row_in u p ∷ filter (λ (o : KeptRow). is_lacking tiles n r o.parcel) rest) (filter (λ (o : KeptRow). is_lacking tiles n r o.parcel) rest))
        ≡ map (lack_at n) (cond b (p ∷ filter (is_lacking tiles n r) ps) (filter (is_lacking tiles n r) ps))
    own true h = ap (λ (fs : List SeamFault). lack_at n p ∷ fs) h
    own false h = h

    by : (b : Bool) → q p ≡ b → tested_kept tiles n rest r ≡ map (lack_at n) (filter (is_lacking tiles n r) ps)
        → tested_kept tiles n (map (row_in u) (cond b (p ∷ filter q ps) (filter q ps))) r ≡ map (lack_at n) (filter (is_lacking tiles n r) (p ∷ ps))
    by true e h = own (is_lacking tiles n r p) h
    by false e h = h ∙ sym (ap (λ (t : Bool). map (lack_at n) (cond t (p ∷ filter (is_lacking tiles n r) ps) (filter (is_lacking tiles n r) ps))) (lack-own tiles n r p (unawaited tiles n q a p e)))

-- the faults of the kept rows that a region lacks are those of the country's parcels that it lacks
pub kept-same : (tiles : List Box4) (n : ℕ) (kept : List KeptRow) (u r : Contents) → HaveAwaited tiles n u kept
    → tested_kept tiles n kept r ≡ map (λ (k : Parcel). At Lacks k.id n) (filter (is_lacking tiles n r) u.parcels)
kept-same tiles n kept u r h = ap (λ (rows : List KeptRow). tested_kept tiles n rows r) h.are ∙ lacking-same tiles n h.is_kept h.awaited u r u.parcels
