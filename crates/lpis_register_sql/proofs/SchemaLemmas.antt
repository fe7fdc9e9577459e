-- Trees list one schema, whatever it is.
use Rattle.std.proofs.Common.{◌≡◌, inl, inr, ℕ, ◌+◌, ◌<◌, pos, List, [], ◌∷◌, ◌++◌, Bool, true, false, slice_get, Some, None, Ok, Result, refl, sym, ap, ap₂, subst, ◌∙◌, arith, true≢false, Option}
use Rattle.std.proofs.Common.{MatchBool, bytes_eq, codes, filter}
use Rattle.sqlite.specs.Order.{column, Row}
use Rattle.std.specs.List.{AllZip, AllByRecursion}
use Rattle.std.specs.Fmt.{decimal}
use Rattle.std.proofs.lemmas.Fmt.{decimal_injective}
use Rattle.std.proofs.lemmas.List.{append_cancel_left}
use Rattle.sqlite_value.specs.declared.value.Value.{Value}
use Rattle.sqlite_value.specs.declared.value.Value.TheVariants.{Null, Int, Text}
use Rattle.sqlite_schema.specs.declared.schema.Index.{Index}
use Rattle.sqlite_schema.specs.declared.schema.View.{View}
use Rattle.sqlite_schema.specs.Names.{same_name}
use Rattle.sqlite_catalog.specs.Listing.{IsTableRow, IsIndexRow, IsViewRow, IsDefined, IsAside, IsForeign, IsReadable, automatic, IsSound}
use Rattle.sqlite_catalog.specs.Listing.{is_index_row}
use Rattle.sqlite_catalog.proofs.StepLemmas.{same_itself}
use Rattle.sqlite_trees.specs.Tree.{IsAscending}
use Rattle.sqlite_trees.specs.Objects.{catalog_tree}
use Rattle.sqlite.specs.Compile.{index_defined_by, table_defined_by}
use Rattle.std.proofs.lemmas.Bool.Decides.{nat_tests}
use Rattle.sqlite.specs.Table.{Table}
use Rattle.sqlite.specs.Schema.{Schema}
use Rattle.sqlite.specs.Tree.{Trees}
use Rattle.sqlite_rules.specs.Lists.{Has}

same_ok : {A E : Type 0} (r : Result A E) (a b : A) → r ≡ Ok a → r ≡ Ok b → a ≡ b
same_ok r a b p q = cc

same_some : {X : Type 0} (o : Option X) (x y : X) → o ≡ Some x → o ≡ Some y → x ≡ y
same_some o x y e f = cc

same_text : (v : Value) (a b : List ℕ) → v ≡ Text a → v ≡ Text b → a ≡ b
same_text v a b p q = cc

same_tree : (v : Value) (m n : ℕ) → v ≡ Int (pos (m + 1)) → v ≡ Int (pos (n + 1)) → m ≡ n
same_tree v m n p q = let e : m + 1 ≡ n + 1 = cc in omega arith

same_table : (row : Row) (t u : Table) → IsTableRow row t → IsTableRow row u → t ≡ u
same_table row t u p q =
    let sql : p.sql ≡ q.sql = (let a = p.sql_is in let b = q.sql_is in cc) in
    let made : p.defined.0 ≡ q.defined.0 = same_ok _ _ _ p.defined.1 (ap (λ s. table_defined_by s) sql ∙ q.defined.1) in
    let tree = same_tree _ t.tree u.tree p.described.id q.described.id in
    p.defined.2 ∙ ap₂ (λ (m : Table) n. record m { tree = n }) made tree ∙ sym q.defined.2

same_all : {X : Type 0} (R : Row → X → Type 0) → ((row : Row) (x y : X) → R row x → R row y → x ≡ y) → (rows : List Row) (xs ys : List X) → AllZip R rows xs → AllZip R rows ys → xs ≡ ys
same_all R one [] [] [] p q = refl
same_all R one [] (x ∷ xs) ys p q = absurd p
same_all R one (row ∷ rows) [] ys p q = absurd p
same_all R one (row ∷ rows) (x ∷ xs) (y ∷ ys) p q = ap₂ ◌∷◌ (one row x y p.0 q.0) (same_all R one rows xs ys p.1 q.1)
same_all _ one _ _ _ p q = absurd q

-- no two tables have one name, as a list says it
abbrev AreNamed : List Table → Type 0
AreNamed = IsAscending (λ s t. same_name s.name t.name ≡ false)

listed : (P : Table → Type 0) (tables : List Table) (t : Table) → AllByRecursion P tables → Has tables t → P t
listed P [] t all there = absurd there
listed P (u ∷ tables) t all (inl same) = subst P (sym same) all.0
listed P (u ∷ tables) t all (inr more) = listed P tables t all.1 more

module _ (itself : (name : List ℕ) → same_name name name ≡ true) where
  same_owner : (tables : List Table) (t u : Table) → AreNamed tables → Has tables t → Has tables u → t.name ≡ u.name → t ≡ u
  same_owner [] t u apart ht hu e = absurd ht
  same_owner (v ∷ tables) t u apart (inl a) (inl b) e = a ∙ sym b
  same_owner (v ∷ tables) t u apart (inl a) (inr b) e =
      absurd (true≢false (sym (itself u.name) ∙ ap (λ n. same_name n u.name) (sym e ∙ ap (λ (x : Table). x.name) a) ∙ listed (λ x. same_name v.name x.name ≡ false) tables u apart.0 b))
  same_owner (v ∷ tables) t u apart (inr a) (inl b) e =
      absurd (true≢false (sym (itself t.name) ∙ ap (λ n. same_name n t.name) (e ∙ ap (λ (x : Table). x.name) b) ∙ listed (λ x. same_name v.name x.name ≡ false) tables t apart.0 a))
  same_owner (v ∷ tables) t u apart (inr a) (inr b) e = same_owner tables t u apart.1 a b e

  -- the number in an automatic index's name tells its key
  same_place : (t : Table) (a b m n : ℕ) (k l : List ℕ) → a < 65536 → b < 65536 → (automatic t a k m).name ≡ (automatic t b l n).name → a ≡ b
  same_place t a b m n k l la lb e =
      let one = append_cancel_left (codes "sqlite_autoindex_") (t.name ++ (codes "_" ++ decimal (a + 1))) (t.name ++ (codes "_" ++ decimal (b + 1))) e in
      let two = append_cancel_left t.name (codes "_" ++ decimal (a + 1)) (codes "_" ++ decimal (b + 1)) one in
      let three = append_cancel_left (codes "_") (decimal (a + 1)) (decimal (b + 1)) two in
      let four = decimal_injective (a + 1) (b + 1) (omega arith) (omega arith) three in
      omega arith

  same_index : (tables : List Table) → AreNamed tables → (row : Row) (i j : Index) → IsIndexRow tables row i → IsIndexRow tables row j → i ≡ j
  same_index tables apart row i j p q = go (column row 4) p.defined q.defined
    where
      tree : i.tree ≡ j.tree
      tree = same_tree _ i.tree j.tree p.described.id q.described.id

      name : i.name ≡ j.name
      name = same_text _ i.name j.name p.described.name_is q.described.name_is

      owner : p.table ≡ q.table
      owner = same_owner tables p.table q.table apart p.listed q.listed (same_text _ _ _ p.described.owner_is q.described.owner_is)

      go : (v : Value) → IsDefined p.table i v → IsDefined q.table j v → i ≡ j
      go Null a b =
          let names : (automatic p.table a.0 a.1 i.tree).name ≡ (automatic p.table b.0 b.1 j.tree).name =
          sym (ap (λ (x : Index). x.name) a.3) ∙ name ∙ ap (λ (x : Index). x.name) b.3 ∙ ap (λ t. (automatic t b.0 b.1 j.tree).name) (sym owner) in
          let at : a.0 ≡ b.0 = same_place p.table a.0 b.0 i.tree j.tree a.1 b.1 a.4 b.4 names in
          let key : a.1 ≡ b.1 = same_some _ _ _ (sym (ap (slice_get p.table.uniques) at) ∙ a.2) (ap (λ (t : Table). slice_get t.uniques b.0) owner ∙ b.2) in
          a.3 ∙ ap₂ (λ n k. automatic p.table n k i.tree) at key ∙ ap₂ (λ t n. automatic t b.0 b.1 n) owner tree ∙ sym b.3
      go (Text sql) a b =
          let made : a.0 ≡ b.0 = same_ok _ _ _ a.1 (ap (λ t. index_defined_by t sql) owner ∙ b.1) in
          a.2 ∙ ap₂ (λ (m : Index) n. record m { tree = n; table = p.table.tree }) made tree ∙ ap (λ (t : Table). record b.0 { tree = j.tree; table = t.tree }) owner ∙ sym b.2
      go _ a _ = absurd a

other_word : (k a b : List ℕ) → bytes_eq a b ≡ false → k ≡ a → k ≡ b → ⊥
other_word k a b apart p q = true≢false (sym (same_bytes b) ∙ ap (λ x. bytes_eq x b) (sym q ∙ p) ∙ apart)
  where
    same_bytes : (a : List ℕ) → bytes_eq a a ≡ true
    same_bytes [] = refl
    same_bytes (x ∷ a) = rw (nat_same x, same_bytes a) refl
      where
        nat_same : (n : ℕ) → Rattle.std.specs.Prelude.nat_eq n n ≡ true
        nat_same n = grind (arith, nat_tests)

same_bound : (P : Type 0) (b c : Bool) → MatchBool b P (P → ⊥) → MatchBool c P (P → ⊥) → b ≡ c
same_bound P true true p q = refl
same_bound P false false p q = refl
same_bound P true false p q = absurd (q p)
same_bound P false true p q = absurd (p q)

record SameAside (v w : View) (f g : Option (List ℕ)) : Type 0 where
  foreign : f ≡ g
  sql : v.sql ≡ w.sql
  binds : v.binds ≡ w.binds
  bound : v.is_bound ≡ w.is_bound

not_a_view : (row : Row) (v : View) (kind : List ℕ) (code : ℕ) → IsForeign row v kind code → kind ≡ codes "view" → ⊥
not_a_view row v kind code (inl h) e = other_word kind (codes "table") (codes "view") refl h.0 e
not_a_view row v kind code (inr (inl h)) e = other_word kind (codes "index") (codes "view") refl h.0 e
not_a_view row v kind code (inr (inr h)) e = other_word kind (codes "trigger") (codes "view") refl h.0 e

same_foreign : (row : Row) (v w : View) (k l : List ℕ) (m n : ℕ) → k ≡ l → IsForeign row v k m → IsForeign row w l n → (v.binds ≡ w.binds) × (v.is_bound ≡ w.is_bound)
same_foreign row v w k l m n e (inl a) (inl b) = (a.2 ∙ sym b.2, same_bound (IsReadable row) v.is_bound w.is_bound a.3 b.3)
same_foreign row v w k l m n e (inl a) (inr (inl b)) = absurd (other_word k (codes "table") (codes "index") refl a.0 (e ∙ b.0))
same_foreign row v w k l m n e (inl a) (inr (inr b)) = absurd (other_word k (codes "table") (codes "trigger") refl a.0 (e ∙ b.0))
same_foreign row v w k l m n e (inr (inl a)) (inl b) = absurd (other_word k (codes "index") (codes "table") refl a.0 (e ∙ b.0))
same_foreign row v w k l m n e (inr (inl a)) (inr (inl b)) = (a.2 ∙ sym b.2, a.3 ∙ sym b.3)
same_foreign row v w k l m n e (inr (inl a)) (inr (inr b)) = absurd (other_word k (codes "index") (codes "trigger") refl a.0 (e ∙ b.0))
same_foreign row v w k l m n e (inr (inr a)) (inl b) = absurd (other_word k (codes "trigger") (codes "table") refl a.0 (e ∙ b.0))
same_foreign row v w k l m n e (inr (inr a)) (inr (inl b)) = absurd (other_word k (codes "trigger") (codes "index") refl a.0 (e ∙ b.0))
same_foreign row v w k l m n e (inr (inr a)) (inr (inr b)) = (a.2 ∙ sym b.2, a.3 ∙ sym b.3)

same_aside : (row : Row) (v w : View) (k l o u : List ℕ) (m n : ℕ) (f g : Option (List ℕ)) → k ≡ l → o ≡ u → IsAside row v k o m f → IsAside row w l u n g → SameAside v w f g
same_aside row v w k l o u m n None None ek eo a b = record { foreign = refl; sql = same_text _ v.sql w.sql a.3 b.3; binds = a.6 ∙ sym b.6; bound = a.7 ∙ sym b.7 }
same_aside row v w k l o u m n None (Some t) ek eo a b = absurd (not_a_view row w l n b.2 (sym ek ∙ a.0))
same_aside row v w k l o u m n (Some t) None ek eo a b = absurd (not_a_view row v k m a.2 (ek ∙ b.0))
same_aside row v w k l o u m n (Some t) (Some s) ek eo a b =
    let it = same_foreign row v w k l m n ek a.2 b.2 in
    record { foreign = ap Some (sym a.0 ∙ eo ∙ b.0); sql = a.1 ∙ sym b.1; binds = it.0; bound = it.1 }

same_view : (row : Row) (v w : View) → IsViewRow row v → IsViewRow row w → v ≡ w
same_view row v w p q =
    let kind = same_text _ p.kind q.kind p.described.kind_is q.described.kind_is in
    let owner = same_text _ p.owner q.owner p.described.owner_is q.described.owner_is in
    let name = same_text _ v.name w.name p.described.name_is q.described.name_is in
    let tree = same_tree _ v.tree w.tree p.described.id q.described.id in
    let it = same_aside row v w p.kind q.kind p.owner q.owner p.code q.code v.foreign w.foreign kind owner p.aside q.aside in
    ap₂ (λ n t. record v { name = n; tree = t }) name tree
    ∙ ap₂ (λ s f. record w { sql = s; foreign = f; binds = v.binds; is_bound = v.is_bound }) it.sql it.foreign
    ∙ ap₂ (λ b c. record w { binds = b; is_bound = c }) it.binds it.bound

-- trees list one schema, with no condition on it
pub one_of_trees : (a b : Schema) (trees : Trees) → IsSound a trees → IsSound b trees → a ≡ b
one_of_trees a b trees p q =
    let tables : a.tables ≡ b.tables = same_all IsTableRow same_table _ _ _ p.lists.listed.tables q.lists.listed.tables in
    let indexes : a.indexes ≡ b.indexes = same_all (IsIndexRow a.tables) (same_index same_itself a.tables p.lists.listed.named) _ _ _ p.lists.listed.indexes
    (subst (λ ts. AllZip (IsIndexRow ts) (filter is_index_row (trees catalog_tree)) b.indexes) (sym tables) q.lists.listed.indexes) in
    let views : a.views ≡ b.views = same_all IsViewRow same_view _ _ _ p.lists.listed.views q.lists.listed.views in
    let first : a ≡ record b { views = a.views } = ap₂ (λ ts is. record a { tables = ts; indexes = is }) tables indexes in
    first ∙ ap (λ vs. record b { views = vs }) views
