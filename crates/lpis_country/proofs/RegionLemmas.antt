-- A release whose joins have no fault names parcels that are there.
use Rattle.std.proofs.Common.{◌≡◌, ℕ, suc, ◌+◌, Bool, true, false, not, List, [], ◌∷◌, ◌++◌, ◌||◌, All, sym, refl, IsTrue}
use Rattle.std.specs.List.{Any}
use Rattle.std.proofs.lemmas.List.Elements.{All-cons, All-nil}
use Rattle.std.proofs.lemmas.Slice.Eq.{bytes_eq-Decides}
use Rattle.lpis_tables.specs.declared.class.Class.{Class}
use Rattle.lpis_tables.specs.declared.piece.Piece.{Piece}
use Rattle.lpis_tables.specs.declared.fault.TableFault.{TableFault}
use Rattle.lpis_tables.specs.Faults.{fault_if}
use Rattle.lpis_tables.specs.Ids.{has_id, same_id}
use Rattle.lpis_release.specs.declared.parcel.Parcel.{Parcel}
use Rattle.lpis_release.specs.Release.{Contents, names_parcel, parcel_ids, reference_faults, unknown_faults, join_faults}
use Rattle.lpis_edge_sums.proofs.Shared.{any_found, found_any}

abbrev NamedIn : List Parcel → Piece → Type 0
NamedIn ks x = Any (λ (k : Parcel). IsTrue (names_parcel k.id x)) ks

first_nil : {A : Type 0} (xs ys : List A) → xs ++ ys ≡ [] → xs ≡ []
first_nil [] ys e = refl
first_nil (x ∷ xs) ys e = cc

second_nil : {A : Type 0} (xs ys : List A) → xs ++ ys ≡ [] → ys ≡ []
second_nil [] ys e = e
second_nil (x ∷ xs) ys e = absurd cc

no_fault : (b : Bool) (f : TableFault) → fault_if (not b) f ≡ [] → b ≡ true
no_fault true f e = refl
no_fault false f e = absurd cc

-- an identifier among those of parcels is that of one of them
named : (ks : List Parcel) (x : Piece) → has_id (parcel_ids ks) x.parcel ≡ true → NamedIn ks x
named [] x e = absurd cc
named (k ∷ ks) x e = by (same_id x.parcel k.id) refl e (λ f. named ks x f)
  where
    later : NamedIn ks x → NamedIn (k ∷ ks) x
    later a =
        let f = any_found (λ (m : Parcel). IsTrue (names_parcel m.id x)) ks a in
        found_any (λ (m : Parcel). IsTrue (names_parcel m.id x)) (k ∷ ks) (record { index = suc f.index; item = f.item; at = f.at; has = f.has })

    by : (b : Bool) → same_id x.parcel k.id ≡ b → (b || has_id (parcel_ids ks) x.parcel) ≡ true → (has_id (parcel_ids ks) x.parcel ≡ true → NamedIn ks x) → NamedIn (k ∷ ks) x
    by true t e rec =
        found_any (λ (m : Parcel). IsTrue (names_parcel m.id x)) (k ∷ ks)
        (record { index = 0; item = k; at = refl; has = (bytes_eq-Decides k.id x.parcel).1 (sym ((bytes_eq-Decides x.parcel k.id).0 t)) })
    by false t e rec = later (rec e)

all_named : (ks : List Parcel) (cs : List Class) (n : ℕ) (xs : List Piece) → reference_faults ks cs n xs ≡ [] → All (NamedIn ks) xs
all_named ks cs n [] e = All-nil (NamedIn ks)
all_named ks cs n (x ∷ xs) e =
    All-cons (NamedIn ks) x xs
    (named ks x (no_fault (has_id (parcel_ids ks) x.parcel) _ (first_nil _ _ (first_nil (unknown_faults ks cs n x) (reference_faults ks cs (n + 1) xs) e))))
    (all_named ks cs (n + 1) xs (second_nil (unknown_faults ks cs n x) (reference_faults ks cs (n + 1) xs) e))

-- where the joins of a release have no fault, each piece names one of its parcels
pub joined_names : (c : Contents) → join_faults c ≡ [] → All (NamedIn c.parcels) c.pieces
joined_names c e = all_named c.parcels c.classes 1 c.pieces (first_nil (reference_faults c.parcels c.classes 1 c.pieces) _ e)
