-- Exact groups show exact lineage.
use Rattle.std.proofs.Common.{◌≡◌, ◌∙◌, ◌&&◌, ◌||◌, ◌++◌, ◌<ℤ◌, ◌↔◌, ℕ, pos, List, [], ◌∷◌, Bool, true, false, not, cond, Option, Some, All, map, refl, sym, ap, subst, get_or}
use Rattle.std.specs.List.{AllZip, list_any}
use Rattle.std.proofs.lemmas.Bool.{and_parts}
use Rattle.std.proofs.lemmas.List.Elements.{All-head, All-tail}
use Rattle.std.proofs.lemmas.Option.{same_Some, slice_get-get_or}
use Rattle.lpis_points.specs.Plane.{RationalPoint}
use Rattle.lpis_rings.specs.declared.polygon.Member.{Member}
use Rattle.lpis_rings.specs.Edges.{Contains}
use Rattle.lpis_tables.specs.Ids.{has_id, same_id}
use Rattle.lpis_lineage.specs.declared.exact.Group.{Group}
use Rattle.lpis_lineage.specs.declared.kind.Kind.{Kind}
use Rattle.lpis_lineage.specs.declared.row.Row.{Row}
use Rattle.lpis_lineage.specs.Descendants.{leads}
use Rattle.std.proofs.lemmas.List.Folds.{list_any-append}
use Rattle.lpis_lineage.specs.ExactGroups.{AreExactGroups, as_merge, as_split, is_exact_merge, is_exact_split, is_other, leads_into, group_name}
use Rattle.lpis_lineage.specs.Order.{IsAscending}
use Rattle.lpis_lineage.proofs.Shared.{same-exact}
use Rattle.lpis_edge_sums.specs.Counting.{AtMostOne}
use Rattle.lpis_edge_sums.specs.Making.{IsMadeUpOf, TurnsAsParts, TurnsAtMostOnce}
use Rattle.lpis_edge_sums.specs.MakingLaws.{MergedMakesUp, SplitMakesUp}
use Rattle.lpis_checker.specs.declared.exact.ExactPart.{ExactPart}
use Rattle.lpis_lineage_exact.specs.Asking.{HasShape, IsWanted, part_shape, whole_shape}
use Rattle.lpis_lineage_exact.specs.ExactLineage.{ExactlyOneOf, IsExactLineage, LiesIn, ShapesShareNothing, ShapesTurnOnce}
use Rattle.lpis_lineage_exact.proofs.NameLemmas.{distinct_at, exactly_named, name_at}

-- round each rational point the whole turns as often as its parts together
abbrev pub Turns : ExactPart → Type 0
Turns x = TurnsAsParts x.whole x.parts

abbrev Others : (List ℕ → Option Kind) → List Row → Group → Type 0
Others kind_of rows g = (q : List ℕ) → has_id g.others q ≡ is_other kind_of rows g q

abbrev Ascends : Group → Type 0
Ascends g = IsAscending g.others

-- a group with what is known of it
record Shown (kind_of : List ℕ → Option Kind) (rows : List Row) (kept new : List ℕ → Option (List Member)) (merge : Bool) (id : List ℕ) : Type 0 where
  g : Group
  x : ExactPart
  wanted : IsWanted kept new g x
  turns : Turns x
  ascend : IsAscending g.others
  others : Others kind_of rows g
  is_merge : g.merge ≡ merge
  is_id : id ≡ g.id

find : (kind_of : List ℕ → Option Kind) (rows : List Row) (kept new : List ℕ → Option (List Member)) (test : Bool → Bool) (merge : Bool) → ((b : Bool) → test b ≡ true → b ≡ merge) → (id : List ℕ)
    → (gs : List Group) (xs : List ExactPart) → AllZip (IsWanted kept new) gs xs → All Turns xs → All Ascends gs → All (Others kind_of rows) gs
    → list_any (λ (g : Group). test g.merge && same_id id g.id) gs ≡ true → Shown kind_of rows kept new merge id
find kind_of rows kept new test merge only id [] xs w t a o e = cc e
find kind_of rows kept new test merge only id (g ∷ gs) [] w t a o e = absurd w
find kind_of rows kept new test merge only id (g ∷ gs) (x ∷ xs) w t a o e =
    by (test g.merge && same_id id g.id) refl e (λ f. find kind_of rows kept new test merge only id gs xs w.1
    (All-tail Turns x xs t) (All-tail Ascends g gs a) (All-tail (Others kind_of rows) g gs o) f)
  where
    by : (b : Bool) → b ≡ (test g.merge && same_id id g.id) → (b || list_any (λ (h : Group). test h.merge && same_id id h.id) gs) ≡ true
        → (list_any (λ (h : Group). test h.merge && same_id id h.id) gs ≡ true → Shown kind_of rows kept new merge id) → Shown kind_of rows kept new merge id
    by true s e rec =
        let p = and_parts (test g.merge) (same_id id g.id) (sym s) in
        record {
          g = g;
          x = x;
          wanted = w.0;
          turns = All-head Turns x xs t;
          ascend = All-head Ascends g gs a;
          others = All-head (Others kind_of rows) g gs o;
          is_merge = only g.merge p.0;
          is_id = same-exact id g.id p.1;
        }
    by false s e rec = rec e

-- ---- the groups by what they are named
any-map : {A B : Type 0} (t : B → Bool) (f : A → B) (xs : List A) → list_any (λ x. t (f x)) xs ≡ list_any t (map f xs)
any-map t f [] = refl
any-map t f (x ∷ xs) = ap (λ (b : Bool). t (f x) || b) (any-map t f xs)

any-never : {A : Type 0} (xs : List A) → list_any (λ x. false) xs ≡ false
any-never [] = refl
any-never (x ∷ xs) = any-never xs

or-false : (b : Bool) → (b || false) ≡ b
or-false true = refl
or-false false = refl

abbrev split_test : List ℕ → Bool × List ℕ → Bool
split_test id n = not n.0 && same_id id n.1

abbrev merge_test : List ℕ → Bool × List ℕ → Bool
merge_test id n = n.0 && same_id id n.1

has_split : (gs : List Group) (splits merges : List (List ℕ)) (id : List ℕ) → map group_name gs ≡ map as_split splits ++ map as_merge merges
    → list_any (λ (g : Group). not g.merge && same_id id g.id) gs ≡ has_id splits id
has_split gs splits merges id e =
    any-map (split_test id) group_name gs ∙ ap (λ (ns : List (Bool × List ℕ)). list_any (split_test id) ns) e
    ∙ list_any-append (split_test id) (map as_split splits) (map as_merge merges)
    ∙ ap (λ (b : Bool). list_any (split_test id) (map as_split splits) || b) (sym (any-map (split_test id) as_merge merges) ∙ any-never merges)
    ∙ or-false (list_any (split_test id) (map as_split splits)) ∙ sym (any-map (split_test id) as_split splits)

has_merge : (gs : List Group) (splits merges : List (List ℕ)) (id : List ℕ) → map group_name gs ≡ map as_split splits ++ map as_merge merges
    → list_any (λ (g : Group). g.merge && same_id id g.id) gs ≡ has_id merges id
has_merge gs splits merges id e =
    any-map (merge_test id) group_name gs ∙ ap (λ (ns : List (Bool × List ℕ)). list_any (merge_test id) ns) e
    ∙ list_any-append (merge_test id) (map as_split splits) (map as_merge merges)
    ∙ ap (λ (b : Bool). b || list_any (merge_test id) (map as_merge merges)) (sym (any-map (merge_test id) as_split splits) ∙ any-never splits)
    ∙ sym (any-map (merge_test id) as_merge merges)

only_split : (b : Bool) → not b ≡ true → b ≡ false
only_split true e = cc e
only_split false e = refl

only_merge : (b : Bool) → b ≡ true → b ≡ true
only_merge b e = e

-- ---- the parts of one group
parts_once : (f : List ℕ → Option (List Member)) (ids : List (List ℕ)) (ms : List (List Member)) → AllZip (HasShape f) ids ms → ShapesTurnOnce f → All TurnsAtMostOnce ms
parts_once f ids ms e once = λ k d l. let n = name_at f ids ms e k (get_or ms k d) (slice_get-get_or ms k d l) in once n.id (get_or ms k d) n.shape

parts_few : (f : List ℕ → Option (List Member)) (ids : List (List ℕ)) (ms : List (List Member)) → AllZip (HasShape f) ids ms → IsAscending ids → ShapesShareNothing f
    → (p : RationalPoint) → pos 0 <ℤ p.d → AtMostOne (λ (m : List Member). Contains m p) ms
parts_few f ids ms e s nothing p d i j a b g h x y =
    let v = name_at f ids ms e i a g in
    let w = name_at f ids ms e j b h in
    let t : v.id ≡ w.id = nothing p d v.id w.id (record { shape = a; is = v.shape; inside = x }) (record { shape = b; is = w.shape; inside = y }) in
    distinct_at ids s i j w.id (v.at ∙ ap Some t) w.at

-- a point lies in a whole exactly where it lies in exactly one of the identifiers of its parts
lies_in : (whole_of part_of : List ℕ → Option (List Member)) (id : List ℕ) (ids : List (List ℕ)) (whole : List Member) (parts : List (List Member)) (among : List ℕ → Bool)
    → whole_of id ≡ Some whole → AllZip (HasShape part_of) ids parts → IsAscending ids → ((q : List ℕ) → has_id ids q ≡ among q) → IsMadeUpOf whole parts
    → (p : RationalPoint) → pos 0 <ℤ p.d → LiesIn whole_of p id ↔ ExactlyOneOf among (LiesIn part_of p)
lies_in whole_of part_of id ids whole parts among w e s same made p d = (
  λ l. (exactly_named part_of ids parts among e s same p).0 ((made.contains p d).0 (subst (λ (m : List Member). Contains m p) (same_Some l.shape whole (sym l.is ∙ w)) l.inside)),
  λ o. record { shape = whole; is = w; inside = (made.contains p d).1 ((exactly_named part_of ids parts among e s same p).1 o) },
)

-- what is known of a group, at its kind and its identifier
whole_at : (kept new : List ℕ → Option (List Member)) (g : Group) (x : ExactPart) (merge : Bool) (id : List ℕ) → IsWanted kept new g x → g.merge ≡ merge → id ≡ g.id
    → whole_shape merge kept new id ≡ Some x.whole
whole_at kept new g x merge id w m i = ap (λ (j : List ℕ). whole_shape merge kept new j) i ∙ ap (λ (b : Bool). whole_shape b kept new g.id) (sym m) ∙ w.whole

parts_at : (kept new : List ℕ → Option (List Member)) (g : Group) (x : ExactPart) (merge : Bool) → IsWanted kept new g x → g.merge ≡ merge
    → AllZip (HasShape (part_shape merge kept new)) g.others x.parts
parts_at kept new g x merge w m = subst (λ (b : Bool). AllZip (HasShape (part_shape b kept new)) g.others x.parts) m w.parts

others_at : (kind_of : List ℕ → Option Kind) (rows : List Row) (g : Group) (merge : Bool) (id : List ℕ) → Others kind_of rows g → g.merge ≡ merge → id ≡ g.id
    → (q : List ℕ) → has_id g.others q ≡ cond merge (leads_into kind_of rows id q) (list_any (leads id q) rows)
others_at kind_of rows g merge id o m i q =
    o q ∙ ap (λ (b : Bool). cond b (leads_into kind_of rows g.id q) (list_any (leads g.id q) rows)) m
    ∙ ap (λ (j : List ℕ). cond merge (leads_into kind_of rows j q) (list_any (leads j q) rows)) (sym i)

-- where wholes turn as their parts, and new shapes once at most and without a common point, lineage is exact
pub groups_show : SplitMakesUp → MergedMakesUp → (kind_of : List ℕ → Option Kind) (rows : List Row) (gs : List Group) (xs : List ExactPart) (kept new : List ℕ → Option (List Member))
    → AreExactGroups kind_of rows gs → AllZip (IsWanted kept new) gs xs → All Turns xs → ShapesTurnOnce new → ShapesShareNothing new → IsExactLineage kind_of rows kept new
groups_show split_makes_up merged_makes_up kind_of rows gs xs kept new are wanted turns once nothing = record { splits = split; merges = merged }
  where
    split : (id : List ℕ) → is_exact_split kind_of rows id ≡ true → (p : RationalPoint) → pos 0 <ℤ p.d → LiesIn kept p id ↔ ExactlyOneOf (λ s. list_any (leads id s) rows) (LiesIn new p)
    split id e p d =
        let s = find kind_of rows kept new not false only_split id gs xs wanted turns are.others_ascend are.others (has_split gs are.splits are.merges id are.listed ∙ are.splits_are id ∙ e) in
        let w : kept id ≡ Some s.x.whole = whole_at kept new s.g s.x false id s.wanted s.is_merge s.is_id in
        let m : AllZip (HasShape new) s.g.others s.x.parts = parts_at kept new s.g s.x false s.wanted s.is_merge in
        let made = split_makes_up s.x.whole s.x.parts s.turns (parts_once new s.g.others s.x.parts m once) (λ r c. parts_few new s.g.others s.x.parts m s.ascend nothing r c) in
        lies_in kept new id s.g.others s.x.whole s.x.parts (λ q. list_any (leads id q) rows) w m s.ascend (others_at kind_of rows s.g false id s.others s.is_merge s.is_id) made p d

    merged : ShapesTurnOnce kept → (id : List ℕ) → is_exact_merge kind_of rows id ≡ true → (p : RationalPoint) → pos 0 <ℤ p.d
        → LiesIn new p id ↔ ExactlyOneOf (leads_into kind_of rows id) (LiesIn kept p)
    merged once_kept id e p d =
        let s = find kind_of rows kept new (λ b. b) true only_merge id gs xs wanted turns are.others_ascend are.others (has_merge gs are.splits are.merges id are.listed ∙ are.merges_are id ∙ e) in
        let w : new id ≡ Some s.x.whole = whole_at kept new s.g s.x true id s.wanted s.is_merge s.is_id in
        let m : AllZip (HasShape kept) s.g.others s.x.parts = parts_at kept new s.g s.x true s.wanted s.is_merge in
        let made = merged_makes_up s.x.whole s.x.parts s.turns (once id s.x.whole w) (parts_once kept s.g.others s.x.parts m once_kept) in
        lies_in new kept id s.g.others s.x.whole s.x.parts (leads_into kind_of rows id) w m s.ascend (others_at kind_of rows s.g true id s.others s.is_merge s.is_id) made p d
