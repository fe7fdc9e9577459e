-- Lists of faults, one element more.
use Rattle.std.proofs.Common.{◌≡◌, ◌∙◌, ◌<◌, ◌+◌, ◌⊎◌, inl, inr, refl, sym, ap, subst, ℕ, suc, List, [], ◌∷◌, ◌++◌, length, Bool, true, false, Option, None, Some, take, drop, get_or}
use Rattle.std.proofs.Common.{◌&&◌, ◌||◌, not, is_some, add-one, drop-cons}
use Rattle.std.proofs.lemmas.List.{take_more}
use Rattle.lpis_lineage.proofs.Common.{list_any, Row, Entry, LineageFault, has_id, is_ended, succeeded, is_row_of, last_live, same_row, fault_before, clashes, faults_but_marks, lineage_row_faults}
use Rattle.lpis_lineage.proofs.Common.{dropped_faults, used_faults}
use Rattle.lpis_lineage.proofs.Common.{first}
use Rattle.lpis_lineage.specs.declared.fault.LineageCode.TheVariants as code
use Rattle.lpis_lineage.specs.declared.fault.LineageFault.TheVariants.{Memory, OfRow, NoRow}
use Rattle.lpis_lineage.specs.Faults.{is_missing, faults_of_row}

-- faults with others behind them: the others alone where there are none, else with the same first fault
pub record Falls (some none others : List LineageFault) : Type 0 where
  pub when_none : none ≡ [] → some ≡ others
  pub when_told : (e : LineageFault) → first none ≡ Some e → first some ≡ Some e

-- `fault_before` before nothing reports what it reports before others
told-falls : (b : Bool) (f : LineageFault) (some none others : List LineageFault) → Falls some none others → Falls (fault_before b f some) (fault_before b f none) others
told-falls true f some none others h = record { when_none = λ e. absurd cc; when_told = λ e t. t }
told-falls false f some none others h = h

falls-none : (others : List LineageFault) → Falls others [] others
falls-none others = record { when_none = λ e. refl; when_told = λ e t. cc t }

row-falls : (last live : List (List ℕ)) (before : List Row) (k : ℕ) (r : Row) (others : List LineageFault)
    → Falls (faults_of_row last live before k r others) (faults_of_row last live before k r []) others
row-falls last live before k r others =
    (told-falls (not (has_id last r.old)) (OfRow code.OldNotLive k) _ _ _ (told-falls (has_id live r.old) (OfRow code.OldStillLive k) _ _ _
    (told-falls (is_missing live r.new) (OfRow code.SuccessorMissing k) _ _ _
    (told-falls (list_any (same_row r) before) (OfRow code.DoubledRow k) _ _ _
    (told-falls (list_any (clashes r) before) (OfRow code.EndingBesideSuccessor k) _ _ _ (falls-none others))))))

told-same : (b c : Bool) (f : LineageFault) (xs ys : List LineageFault) → b ≡ c → xs ≡ ys → fault_before b f xs ≡ fault_before c f ys
told-same b c f xs ys e g = ap (λ (t : Bool). fault_before t f xs) e ∙ ap (λ (l : List LineageFault). fault_before c f l) g

first-append : (xs ys : List LineageFault) (e : LineageFault) → first xs ≡ Some e → first (xs ++ ys) ≡ Some e
first-append [] ys e h = cc h
first-append (x ∷ xs) ys e h = h

-- the rest of a list from an index on is the element there, then the rest from the next index on
pub drop-at : {A : Type 0} (xs : List A) (i : ℕ) (x : A) → i < length xs → x ≡ get_or xs i x → drop i xs ≡ x ∷ drop (i + 1) xs
drop-at {A} xs i x lt is = rw add-one (drop-cons xs i x lt ∙ ap (λ (y : A). y ∷ drop (suc i) xs) (sym is))

-- the elements before an index, with the one there behind them, are those before the next index
pub take-at : {A : Type 0} (xs : List A) (i : ℕ) (x : A) → i < length xs → x ≡ get_or xs i x → take i xs ++ x ∷ [] ≡ take (i + 1) xs
take-at {A} xs i x lt is = ap (λ (y : A). take i xs ++ y ∷ []) is ∙ sym (take_more xs i x lt)

-- the rows, one further
pub rows-step : (last live : List (List ℕ)) (rows : List Row) (i k : ℕ) (r : Row) → i < length rows → r ≡ get_or rows i r → faults_of_row last live (take i rows) k r [] ≡ []
    → lineage_row_faults last live (take i rows) k (drop i rows) ≡ lineage_row_faults last live (take (i + 1) rows) (k + 1) (drop (i + 1) rows)
rows-step last live rows i k r lt is none =
    ap (λ (xs : List Row). lineage_row_faults last live (take i rows) k xs) (drop-at rows i r lt is)
    ∙ (row-falls last live (take i rows) k r _).when_none none
    ∙ ap (λ (xs : List Row). lineage_row_faults last live xs (k + 1) (drop (i + 1) rows)) (take-at rows i r lt is)

-- where a row's first fault is met, if not out of memory, it is the first of the rows from there on
pub rows-stop : (last live : List (List ℕ)) (rows : List Row) (i k : ℕ) (r : Row) (e : LineageFault) → i < length rows → r ≡ get_or rows i r
    → (e ≡ Memory) ⊎ (first (faults_of_row last live (take i rows) k r []) ≡ Some e)
    → (all : List LineageFault) → all ≡ lineage_row_faults last live (take i rows) k (drop i rows) → (e ≡ Memory) ⊎ (first all ≡ Some e)
rows-stop last live rows i k r e lt is (inl m) all eq = inl m
rows-stop last live rows i k r e lt is (inr t) all eq = inr (
    ap first eq ∙ ap (λ (xs : List Row). first (lineage_row_faults last live (take i rows) k xs)) (drop-at rows i r lt is)
    ∙ (row-falls last live (take i rows) k r _).when_told e t)

-- what holds of the rows before an index, with the one there behind them, holds of those before the next
pub seen-next : (rows : List Row) (i : ℕ) (r : Row) (P : List Row → Type 0) → i < length rows → r ≡ get_or rows i r → P (take i rows ++ r ∷ []) → P (take (i + 1) rows)
seen-next rows i r P lt is p = subst P (take-at rows i r lt is) p

-- a set with the same members has the same faults
pub rows-live : (last a b : List (List ℕ)) (before : List Row) (k : ℕ) (rows : List Row) → ((q : List ℕ) → has_id a q ≡ has_id b q)
    → lineage_row_faults last a before k rows ≡ lineage_row_faults last b before k rows
rows-live last a b before k [] e = refl
rows-live last a b before k (r ∷ rs) e =
    (told-same (not (has_id last r.old)) (not (has_id last r.old)) (OfRow code.OldNotLive k) _ _ refl
    (told-same (has_id a r.old) (has_id b r.old) (OfRow code.OldStillLive k) _ _ (e r.old)
    (told-same (is_missing a r.new) (is_missing b r.new) (OfRow code.SuccessorMissing k) _ _ (miss a b e r.new)
    (told-same (list_any (same_row r) before) (list_any (same_row r) before) (OfRow code.DoubledRow k) _ _ refl
    (told-same (list_any (clashes r) before) (list_any (clashes r) before) (OfRow code.EndingBesideSuccessor k) _ _ refl
    (rows-live last a b (before ++ r ∷ []) (k + 1) rs e)))))) where
      miss : (a b : List (List ℕ)) → ((q : List ℕ) → has_id a q ≡ has_id b q) → (o : Option (List ℕ)) → is_missing a o ≡ is_missing b o
      miss a b e None = refl
      miss a b e (Some s) = ap not (e s)

-- sets with the same members leave dropped identifiers the same faults
pub dropped-live : (a b : List (List ℕ)) (rows : List Row) (ids : List (List ℕ)) → ((q : List ℕ) → has_id a q ≡ has_id b q) → dropped_faults a rows ids ≡ dropped_faults b rows ids
dropped-live a b rows [] e = refl
dropped-live a b rows (x ∷ xs) e = told-same (not (has_id a x) && not (list_any (is_row_of x) rows))
    (not (has_id b x) && not (list_any (is_row_of x) rows)) (NoRow x) _ _
    (ap (λ (t : Bool). not t && not (list_any (is_row_of x) rows)) (e x)) (dropped-live a b rows xs e)

-- a row's old identifier has an ending or a successor
of-either : (rows : List Row) (id : List ℕ) → (is_ended rows id || succeeded rows id) ≡ list_any (is_row_of id) rows
of-either [] id = refl
of-either (r ∷ rs) id = by (is_row_of id r) (is_some r.new) _ _ ∙ ap (λ (b : Bool). is_row_of id r || b) (of-either rs id) where
  by : (a b c d : Bool) → (((a && not b) || c) || ((a && b) || d)) ≡ (a || (c || d))
  by true true true d = refl
  by true true false d = refl
  by true false c d = refl
  by false b c d = refl

-- for an ended identifier, whether it is ended is whether it has a row
pub row-then : (rows : List Row) (id : List ℕ) (x : Bool) → x ≡ is_ended rows id → x ≡ true → x ≡ list_any (is_row_of id) rows
row-then rows id x e t = t ∙ sym (ap (λ (b : Bool). b || succeeded rows id) (sym e ∙ t)) ∙ of-either rows id

-- for an identifier that is not ended, whether it has a successor is whether it has a row
pub row-else : (rows : List Row) (id : List ℕ) (x y : Bool) → x ≡ is_ended rows id → x ≡ false → y ≡ succeeded rows id → y ≡ list_any (is_row_of id) rows
row-else rows id x y e f g = g ∙ sym (ap (λ (b : Bool). b || succeeded rows id) (sym e ∙ f)) ∙ of-either rows id

-- where rows and dropped identifiers have no fault, those of used identifiers are left
pub used-faults-left : (h : List Entry) (set live : List (List ℕ)) (rows : List Row)
    → ((q : List ℕ) → has_id set q ≡ has_id live q) → lineage_row_faults (last_live h) set [] 1 rows ≡ []
    → dropped_faults set rows (last_live h) ≡ []
    → faults_but_marks h live rows ≡ used_faults h (last_live h) live
used-faults-left h set live rows alike no-rows none =
    ap (λ (l : List LineageFault). l ++ (dropped_faults live rows (last_live h) ++ used_faults h (last_live h) live)) (sym (rows-live (last_live h) set live [] 1 rows alike) ∙ no-rows)
    ∙ ap (λ (l : List LineageFault). l ++ used_faults h (last_live h) live) (sym (dropped-live set live rows (last_live h) alike) ∙ none)

-- behind no faults, the first of some faults stays the first with others behind it
pub stops-after : (xs ys zs : List LineageFault) (e : LineageFault) → xs ≡ [] → (e ≡ Memory) ⊎ (first ys ≡ Some e) → (e ≡ Memory) ⊎ (first (xs ++ (ys ++ zs)) ≡ Some e)
stops-after xs ys zs e n (inl m) = inl m
stops-after xs ys zs e n (inr t) = inr (ap (λ (l : List LineageFault). first (l ++ (ys ++ zs))) n ∙ first-append ys zs e t)
