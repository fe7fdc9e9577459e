-- What a history answers to a release, and what is known of a release that was added to it.
use Rattle.std.proofs.Common.{◌≡◌, ◌∙◌, ◌++◌, ◌∷◌, [], append_assoc, ◌⊎◌, inl, inr, refl, sym, ap, ap₂, subst, ℕ, List, Bool, Option, Result, Ok, Err, IfOk, flat_map, true}
use Rattle.lpis_run_publish.proofs.Common.{Answer, kind_at, lineage_line}
use Rattle.std.specs.List.{list_any}
use Rattle.std.proofs.lemmas.Bool.{and_parts}
use Rattle.std.proofs.lemmas.List.Concat.{flat_map-cons}
use Rattle.lpis_tables.specs.Ids.{has_id}
use Rattle.lpis_lineage_exact.specs.ExactLineage.{ShapesTurnOnce}
use Rattle.lpis_lineage_exact.specs.Shapes.{shape_named}
use Rattle.lpis_lineage.specs.declared.kind.Kind.{Kind}
use Rattle.lpis_lineage.specs.declared.row.Entry.{Entry}
use Rattle.lpis_lineage.specs.declared.row.Row.{Row}
use Rattle.lpis_lineage.specs.Changes.{Changes, IsChange, dropped}
use Rattle.lpis_lineage.specs.Descendants.{leads}
use Rattle.lpis_lineage.specs.Faults.{faults}
use Rattle.lpis_lineage.specs.Kinds.{kind}
use Rattle.lpis_lineage.specs.Lawful.{IsAnswered}
use Rattle.lpis_lineage.specs.Lineage.{is_row_of, last_live, names_successor}
use Rattle.lpis_lineage.specs.Order.{IsAscending}
use Rattle.lpis_lineage.proofs.Shared.{follows-from-clean, mono, counted-ended}
use Rattle.lpis_run_publish.specs.LineageLines.{is_left_exactly, dropped_lines, published_line}
use Rattle.lpis_run.specs.declared.failure.Failure.{Failure}
use Rattle.lpis_run.specs.declared.failure.Failure.TheVariants.{Memory, Store, StoreMemory}
use Rattle.lpis_run_publish.specs.Publication.{IsContinued, IsPublicationAnswer, IsReleasePublished}
use Rattle.lpis_run.specs.Status.{done}
use Rattle.lpis_run_publish.specs.private.Marked.{is_marked}
use Rattle.lpis_run_publish.proofs.MarkedLemmas.{left-exactly}
use Rattle.lpis_register.specs.Accepting.{IsAccepted}
use Rattle.lpis_register.specs.Holdings.{Candidate, Holdings, candidate_ids}
use Rattle.lpis_register.specs.Publishing.{FollowsHistory}
use Rattle.lpis_register.specs.declared.accepting.Accepted.{Accepted}

-- ---- the lines of a change
same-lines : {A : Type 0} (f g : A → List ℕ) (xs : List A) → ((x : A) → f x ≡ g x) → flat_map f xs ≡ flat_map g xs
same-lines f g [] e = refl
same-lines f g (x ∷ xs) e = flat_map-cons f x xs ∙ ap₂ (λ (a b : List ℕ). a ++ b) (e x) (same-lines f g xs e) ∙ sym (flat_map-cons g x xs)

-- the lines behind a text are those of the identifiers of which a row is marked, whichever test tells them
pub told-lines : (head : List ℕ) (kind_of : List ℕ → Option Kind) (is_exact : List ℕ → Bool) (rows : List Row) (ids : List (List ℕ)) (year : ℕ) (text : List ℕ)
    → ((id : List ℕ) → is_exact id ≡ is_marked rows id) → text ≡ head ++ (flat_map (lineage_line kind_of is_exact) ids ++ published_line year)
    → text ≡ head ++ flat_map (lineage_line kind_of (is_marked rows)) ids ++ published_line year
told-lines head kind_of is_exact rows ids year text marked told =
    let by_row = lineage_line kind_of (is_marked rows) in
    told ∙ ap (λ (t : List ℕ). head ++ (t ++ published_line year))
    (same-lines (lineage_line kind_of is_exact) by_row ids (λ id. ap (λ (b : Bool). lineage_line kind_of (λ _. b) id) (marked id)))
    ∙ sym (append_assoc head (flat_map by_row ids) (published_line year))

-- of rows without a fault, a change has the lines of the identifiers that are dropped
change-lines : (h : List Entry) (live : List (List ℕ)) (rows : List Row) (c : Changes) → faults h live rows ≡ [] → IsChange (last_live h) live rows c
    → flat_map (lineage_line (kind_at c) (is_marked c.rows)) c.dropped_ids ≡ dropped_lines (last_live h) live rows
change-lines h live rows c clean is =
    ap (flat_map (lineage_line (kind_at c) (is_marked c.rows))) is.dropped_are ∙ same-lines _ _ (dropped (last_live h) live) line
  where
    K : List ℕ → Option Kind
    K = kind (last_live h) live rows

    mark : (id : List ℕ) → is_marked c.rows id ≡ is_left_exactly K rows id
    mark id = ap (λ (rs : List Row). is_marked rs id) is.rows_are ∙ sym (left-exactly K rows id (follows-from-clean h live rows clean).marked)

    line : (id : List ℕ) → lineage_line (kind_at c) (is_marked c.rows) id ≡ lineage_line K (is_left_exactly K rows) id
    line id = ap₂ (λ (k : Option Kind) (b : Bool). lineage_line (λ _. k) (λ _. b) id) (is.kinds_are id) (mark id)

-- ---- the answer of a history
answer-parts : {t u : List ℕ} {n m : ℕ} → t ≡ u → n ≡ m → ◌≡◌ {A = Answer} (t, n) (u, m)
answer-parts a b = cc (a, b)

-- what is printed, behind a text, of the change of a release that was accepted is the answer
pub publication-accepted : (head : List ℕ) (c : Candidate) (before : Holdings) (a : Accepted) (change : Changes) (year : ℕ) (text : List ℕ) (status : ℕ) → year ≡ a.writing.year
    → IsAccepted c before a → change ≡ a.writing.change
    → text ≡ head ++ flat_map (lineage_line (kind_at change) (is_marked change.rows)) change.dropped_ids ++ published_line year → status ≡ done
    → IsPublicationAnswer head c before (text, status)
publication-accepted head c before a change year text status of_year made is line is_done =
    let live = candidate_ids c in
    let step = made.prepared.step_is in
    let lines = change-lines before.history live c.rows change step.faultless (subst (IsChange (last_live before.history) live c.rows) (sym is) step.change_is) in
    let said = line ∙ ap₂ (λ (t : List ℕ) (n : ℕ). head ++ t ++ published_line n) lines (of_year ∙ made.prepared.year_is) in
    record { later = made.prepared.later; shown = made.shown; told = answer-parts said is_done }

-- ---- answers of calls
pub both-ok : {A E : Type 0} (r : Result A E) (P Q : A → Type 0) → IfOk r P → IfOk r Q → IfOk r (λ a. P a × Q a)
both-ok (Ok a) P Q p q = (p, q)
both-ok (Err e) P Q p q = tt

-- ---- a release that was published
continued-of : (live : List (List ℕ)) (rows : List Row) (id : List ℕ) → ((s : List ℕ) → list_any (names_successor s) rows ≡ true → has_id live s ≡ true) → IsAnswered rows id → IsContinued live rows id
continued-of live rows id named (inl ending) = inl (counted-ended rows id ending.0)
continued-of live rows id named (inr other) = inr (other.1, λ s is. named s (mono (leads id s) (names_successor s) rows (λ row h. (and_parts (is_row_of id row) (names_successor s row) h).1) is))

-- a release that was accepted is published where it stands at the end of the history and its shapes turn once at most
pub published-accepted : (c : Candidate) (before after : Holdings) (a : Accepted) (change : Changes) → IsAccepted c before a → change ≡ a.writing.change → IsAscending change.dropped_ids
    → FollowsHistory c before.history after → ShapesTurnOnce (shape_named after.shapes) → IsReleasePublished c before after
published-accepted c before after a change made is ascend follows once =
    let live = candidate_ids c in
    let step = made.prepared.step_is in
    let was = subst (IsChange (last_live before.history) live c.rows) (sym is) step.change_is in
    let known = follows-from-clean before.history live c.rows step.faultless in
    record {
      later = made.prepared.later;
      follows = follows;
      once = once;
      exact = made.exact;
      continued = λ id held gone. continued-of live c.rows id known.named (known.answered id held gone);
      unused = λ id i now held. known.not_used id i held now;
      ascend = subst IsAscending was.dropped_are ascend;
    }

-- ---- why the database failed
-- it did not fail where memory ran out
pub memory-no-store : {X : Type 0} (failure : Failure) → (failure ≡ Memory) ⊎ (failure ≡ StoreMemory) → failure ≡ Store → X
memory-no-store failure (inl why) is = absurd (cc (why, is))
memory-no-store failure (inr why) is = absurd (cc (why, is))
