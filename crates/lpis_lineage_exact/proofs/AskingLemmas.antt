-- The parts that groups ask for, and the first old identifier whose shape is not kept.
use Rattle.std.proofs.Common.{◌≡◌, ◌∙◌, ◌<◌, ◌+◌, ◌++◌, ℕ, zero, suc, List, [], ◌∷◌}
use Rattle.std.proofs.Common.{Bool, true, false, not, cond, is_some, Option, take, drop, flat_map, length, get_or, refl, sym, ap, ap₂, subst, append_assoc}
use Rattle.std.specs.List.{AllZip}
use Rattle.std.proofs.lemmas.Grind.{flat_map-append}
use Rattle.std.proofs.lemmas.List.Elements.{filter-append}
use Rattle.lpis_rings.specs.declared.polygon.Member.{Member}
use Rattle.lpis_lineage.proofs.Shared.{take-at}
use Rattle.lpis_lineage.specs.Changes.{Changes, IsChange, kind_at}
use Rattle.lpis_lineage.specs.ExactGroups.{AreExactGroups}
use Rattle.lpis_lineage.specs.declared.exact.Group.{Group}
use Rattle.lpis_lineage.specs.declared.kind.Kind.{Kind}
use Rattle.lpis_lineage.specs.declared.row.Entry.{Entry}
use Rattle.lpis_lineage.specs.declared.row.Row.{Row}
use Rattle.lpis_release.specs.declared.parcel.Parcel.{Parcel}
use Rattle.lpis_register_rows.specs.Shapes.{Shape}
use Rattle.lpis_checker.specs.declared.exact.ExactPart.{ExactPart}
use Rattle.lpis_lineage_exact.specs.Asking.{AsksFor, HasShape, IsChangeTo, IsMarked, IsUnkept, IsWanted, kinds_from, lacking, old_ids, part_shape, unkept, whole_shape}
use Rattle.lpis_lineage_exact.specs.Shapes.{shape_named, shapes_in}
use Rattle.lpis_lineage_exact.specs.declared.asking.AskFault.{AskFault}
use Rattle.lpis_lineage_exact.specs.declared.asking.AskFault.TheVariants.{Memory, NotKept}
use Rattle.lpis_lineage_exact.specs.private.Lacking.{IsFirstLacking}

-- ---- identifiers whose shapes are kept
lacking-append : (kept : List Shape) (xs ys : List (List ℕ)) → lacking kept (xs ++ ys) ≡ lacking kept xs ++ lacking kept ys
lacking-append kept xs ys = filter-append (λ id. not (is_some (shape_named kept id))) xs ys

kept-none : (kept : List Shape) (ids : List (List ℕ)) (shapes : List (List Member)) → AllZip (HasShape (shape_named kept)) ids shapes → lacking kept ids ≡ []
kept-none kept [] shapes z = refl
kept-none kept (id ∷ ids) [] z = absurd z
kept-none kept (id ∷ ids) (s ∷ ss) z =
    ap (λ (o : Option (List Member)). cond (not (is_some o)) (id ∷ lacking kept ids) (lacking kept ids)) z.0 ∙ kept-none kept ids ss z.1

-- where all before them are kept, the first of these is the first of all
first-lacking : (kept : List Shape) (front ids back : List (List ℕ)) (fault : AskFault) → lacking kept front ≡ [] → IsFirstLacking kept ids fault
    → IsFirstLacking kept (front ++ (ids ++ back)) fault
first-lacking kept front ids back Memory none first = tt
first-lacking kept front ids back (NotKept id) none first = (
  first.0 ++ lacking kept back,
  lacking-append kept front (ids ++ back) ∙ ap (λ (l : List (List ℕ)). l ++ lacking kept (ids ++ back)) none
      ∙ lacking-append kept ids back ∙ ap (λ (l : List (List ℕ)). l ++ lacking kept back) first.1,
)

-- ---- lists read side by side
take-drop : {A : Type 0} (n : ℕ) (xs : List A) → take n xs ++ drop n xs ≡ xs
take-drop zero xs = refl
take-drop (suc n) [] = refl
take-drop {A} (suc n) (x ∷ xs) = ap (λ (l : List A). x ∷ l) (take-drop n xs)

split-at : {A : Type 0} (xs : List A) (k : ℕ) (x : A) → k < length xs → x ≡ get_or xs k x → take k xs ++ (x ∷ drop (k + 1) xs) ≡ xs
split-at {A} xs k x lt at = sym (append_assoc (take k xs) (x ∷ []) (drop (k + 1) xs)) ∙ ap (λ (l : List A). l ++ drop (k + 1) xs) (take-at xs k x lt at) ∙ take-drop (k + 1) xs

one-more : {A B : Type 0} (R : A → B → Type 0) (xs : List A) (ys : List B) (x : A) (y : B) → R x y → AllZip R xs ys → AllZip R (xs ++ x ∷ []) (ys ++ y ∷ [])
one-more R [] [] x y r z = (r, tt)
one-more R (a ∷ xs) (b ∷ ys) x y r z = (z.0, one-more R xs ys x y r z.1)
one-more R [] (b ∷ ys) x y r z = absurd z
one-more R (a ∷ xs) [] x y r z = absurd z

-- lists that fit one by one still do with the next element and one that fits it at their ends
pub zip-more : {A B : Type 0} (R : A → B → Type 0) (xs : List A) (ys : List B) {zs : List B} (k : ℕ) (x : A) (y : B) → k < length xs → x ≡ get_or xs k x → AllZip R (take k xs) ys → R x y
    → zs ≡ ys ++ y ∷ [] → AllZip R (take (k + 1) xs) zs
zip-more {A} {B} R xs ys k x y lt at z r pushed =
    subst (AllZip R (take (k + 1) xs)) (sym pushed) (subst (λ (l : List A). AllZip R l (ys ++ y ∷ [])) (take-at xs k x lt at) (one-more R (take k xs) ys x y r z))

-- where all before it have kept shapes, an identifier without one is the first without one in the list
pub first-in : (kept : List Shape) (ids : List (List ℕ)) (k : ℕ) (id : List ℕ) (shapes : List (List Member)) (fault : AskFault) → k < length ids → id ≡ get_or ids k id
    → AllZip (HasShape (shape_named kept)) (take k ids) shapes → IsFirstLacking kept (id ∷ []) fault → IsFirstLacking kept ids fault
first-in kept ids k id shapes fault lt at z first = subst (λ (l : List (List ℕ)). IsFirstLacking kept l fault) (split-at ids k id lt at)
    (first-lacking kept (take k ids) (id ∷ []) (drop (k + 1) ids) fault (kept-none kept (take k ids) shapes z) first)

-- ---- the part of a group
pub wanted-by : (kept new : List ℕ → Option (List Member)) (g : Group) (x : ExactPart) (merge : Bool) (others : List (List ℕ)) (parts : List (List Member)) → g.merge ≡ merge → x.merge ≡ merge
    → x.id ≡ g.id → others ≡ g.others → x.parts ≡ parts → HasShape (whole_shape merge kept new) g.id x.whole → AllZip (HasShape (part_shape merge kept new)) others parts → IsWanted kept new g x
wanted-by kept new g x merge others parts gm xm xi go xp whole z = record {
  name = ap₂ (λ (m : Bool) (i : List ℕ). (m, i)) (xm ∙ sym gm) xi;
  whole = subst (λ (m : Bool). HasShape (whole_shape m kept new) g.id x.whole) (sym gm) whole;
  parts = subst (λ (m : Bool). AllZip (HasShape (part_shape m kept new)) g.others x.parts) (sym gm)
      (subst (λ (l : List (List ℕ)). AllZip (HasShape (part_shape merge kept new)) l x.parts) go
      (subst (λ (l : List (List Member)). AllZip (HasShape (part_shape merge kept new)) others l) (sym xp) z));
}

-- all old identifiers of a group with its part are kept
wanted-kept : (kept : List Shape) (new : List ℕ → Option (List Member)) (g : Group) (x : ExactPart) → IsWanted (shape_named kept) new g x → lacking kept (old_ids g) ≡ []
wanted-kept kept new g x w = by g.merge w.whole w.parts
  where
    by : (m : Bool) → HasShape (whole_shape m (shape_named kept) new) g.id x.whole → AllZip (HasShape (part_shape m (shape_named kept) new)) g.others x.parts
        → lacking kept (cond m g.others (g.id ∷ [])) ≡ []
    by true whole parts = kept-none kept g.others x.parts parts
    by false whole parts = kept-none kept (g.id ∷ []) (x.whole ∷ []) (whole, tt)

-- where each group has its part, all their old identifiers have kept shapes
pub all-kept : (kept : List Shape) (new : List ℕ → Option (List Member)) (gs : List Group) (xs : List ExactPart) → AllZip (IsWanted (shape_named kept) new) gs xs → unkept kept gs ≡ []
all-kept kept new [] xs z = refl
all-kept kept new (g ∷ gs) [] z = absurd z
all-kept kept new (g ∷ gs) (x ∷ xs) z =
    lacking-append kept (old_ids g) (flat_map old_ids gs) ∙ ap (λ (l : List (List ℕ)). l ++ unkept kept gs) (wanted-kept kept new g x z.0) ∙ all-kept kept new gs xs z.1

-- behind groups that have their parts, the first old identifier of a group to lack a kept shape is the first of all
pub first-of-groups : (kept : List Shape) (new : List ℕ → Option (List Member)) (gs : List Group) (k : ℕ) (g : Group) (xs : List ExactPart) (fault : AskFault) → k < length gs → g ≡ get_or gs k g
    → AllZip (IsWanted (shape_named kept) new) (take k gs) xs → IsFirstLacking kept (old_ids g) fault → IsFirstLacking kept (flat_map old_ids gs) fault
first-of-groups kept new gs k g xs fault lt at z first =
    let parts : flat_map old_ids (take k gs) ++ (old_ids g ++ flat_map old_ids (drop (k + 1) gs)) ≡ flat_map old_ids gs =
    sym (flat_map-append old_ids (take k gs) (g ∷ drop (k + 1) gs)) ∙ ap (λ (l : List Group). flat_map old_ids l) (split-at gs k g lt at) in
    subst (λ (l : List (List ℕ)). IsFirstLacking kept l fault) parts
    (first-lacking kept (flat_map old_ids (take k gs)) (old_ids g) (flat_map old_ids (drop (k + 1) gs)) fault (all-kept kept new (take k gs) xs z) first)

-- ---- what is asked
pub own-rows : (last live : List (List ℕ)) (rows : List Row) (c : Changes) → IsChange last live rows c → IsChange last live c.rows c
own-rows last live rows c change = subst (λ (rs : List Row). IsChange last live rs c) (sym change.rows_are) change

marked : (h : List Entry) (parcels : List Parcel) (rows : List Row) (c : Changes) (gs : List Group) → IsChangeTo h parcels rows c
    → AreExactGroups (kind_at c) c.rows gs → IsMarked h parcels rows gs
marked h parcels rows c gs to are = record {
  none = to.none;
  groups = subst (λ (rs : List Row). AreExactGroups (kinds_from h parcels rows) rs gs) to.change.rows_are
      (subst (λ (k : List ℕ → Option Kind). AreExactGroups k c.rows gs) (λ i id. to.change.kinds_are id i) are);
}

-- the parts of the exact groups of a change without a fault are those that the release asks for
pub parts-are-asked : (h : List Entry) (kept : List Shape) (parcels : List Parcel) (rows : List Row) (c : Changes) (gs : List Group) (xs : List ExactPart) → IsChangeTo h parcels rows c
    → AreExactGroups (kind_at c) c.rows gs → AllZip (IsWanted (shape_named kept) (shape_named (shapes_in parcels))) gs xs
    → (hs : List Group) × AsksFor h kept parcels rows hs xs
parts-are-asked h kept parcels rows c gs xs to are parts = (
  gs,
  record {
    marked = marked h parcels rows c gs to are;
    all_kept = all-kept kept (shape_named (shapes_in parcels)) gs xs parts;
    parts = parts;
  },
)

-- the first old identifier of these groups to lack a kept shape is the one that the release lacks
pub first-is-unkept : (h : List Entry) (kept : List Shape) (parcels : List Parcel) (rows : List Row) (c : Changes) (gs : List Group) (fault : AskFault) → IsChangeTo h parcels rows c
    → AreExactGroups (kind_at c) c.rows gs → IsFirstLacking kept (flat_map old_ids gs) fault
    → (id : List ℕ) → fault ≡ NotKept id → IsUnkept h kept parcels rows id
first-is-unkept h kept parcels rows c gs fault to are first id is =
    let named : IsFirstLacking kept (flat_map old_ids gs) (NotKept id) = subst (IsFirstLacking kept (flat_map old_ids gs)) is first in
    record { gs = gs; marked = marked h parcels rows c gs to are; rest = named.0; is_first = named.1 }
