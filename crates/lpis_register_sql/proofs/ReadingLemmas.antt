-- Reading row by row: what was shown of a database, and what a failed query leaves of it.
use Rattle.std.proofs.Common.{◌≡◌, ◌⊎◌, inl, inr, ◌∷◌, [], ◌++◌, List, ℕ, None, Ok, Err, Result, OnErr, OnOk, map, take, sym, subst, ap, ◌∙◌}
use Rattle.std.proofs.lemmas.List.{map-append}
use Rattle.sqlite_value.specs.Order.{Row}
use Rattle.sqlite.specs.Effect.{Database}
use Rattle.sqlite.specs.Clock.{timed}
use Rattle.sqlite.specs.Listing.{understood, reads_listing, IsSourceOf}
use Rattle.sqlite.specs.State.{State, IsUnchanged, IsRolledBack, IsNotRun, IsStatement, FailsToQuery, FailsToShow, Shown, ShowsRows}
use Rattle.sqlite.specs.declared.error.Error.{Error}
use Rattle.sqlite.proofs.Callers.{unchanged_then}
use Rattle.lpis_register_sql.specs.private.Telling.{IsPlainWhere}

-- what is shown of a state is shown of one before it that is the same
pub shown_since : (sql : List ℕ) (params : Row) (old mid new : State) → IsUnchanged old mid → IsPlainWhere old.now.schema sql → (rows : List Row) → Shown sql params mid new rows
    → Shown sql params old new rows
unfolding Shown
shown_since sql params old mid new same plain rows h =
    let c = h.0 in
    let it : IsStatement old sql params c = record { is = subst (λ (d : Database). understood d.schema sql ≡ Ok c) same.0.now_is h.1.is; whole = h.1.whole; given = h.1.given; now = h.1.now } in
    let none : c.returning ≡ None = (plain c it.is).0 in
    let full = timed params c.formats h.1.now in
    let got = subst (ShowsRows mid new sql c full rows) none h.2 in
    let source = subst (λ (d : Database). IsSourceOf (reads_listing d.schema sql) d got.0) same.0.now_is got.1 in
    (c, it, subst (ShowsRows old new sql c full rows) (sym none) (got.0, source, got.2, unchanged_then old mid new same got.3))

-- a plain query that fails changes nothing, or undoes the transaction
pub fails_same : (sql : List ℕ) (params : Row) (old new : State) (e : Error) → IsPlainWhere old.now.schema sql → FailsToQuery sql params old new e → IsUnchanged old new ⊎ IsRolledBack old new
unfolding FailsToQuery IsNotRun
fails_same sql params old new e plain (inl (inl refused)) = inl refused.1
fails_same sql params old new e plain (inl (inr failed)) = inr failed.3
fails_same sql params old new e plain (inr h) =
    let none = (plain h.0 h.1.is).0 in
    let it = subst (FailsToShow old new sql h.0 (timed params h.0.formats h.1.now) e) none h.2 in inl it.3

-- what is known anyway is known where there is an error
pub where_err : {A E P : Type 0} (r : Result A E) → P → OnErr r P
where_err (Ok _) p = tt
where_err (Err _) p = p

-- and where there is an answer
pub where_ok : {A E P : Type 0} (r : Result A E) → P → OnOk r P
where_ok (Ok _) p = p
where_ok (Err _) p = tt

-- and so are its columns
pub one_shown : {X : Type 0} (columns : X → Row) (n : ℕ) (all next : List X) (rows : List Row) (row : Row) (it : X) → next ≡ all ++ it ∷ [] → take n row ≡ columns it
    → map (take n) rows ≡ map columns all → map (take n) (rows ++ row ∷ []) ≡ map columns next
one_shown columns n all next rows row it pushed read so_far =
    map-append (take n) rows (row ∷ []) ∙ ap (λ l. l ++ take n row ∷ []) so_far ∙ ap (λ i. map columns all ++ i ∷ []) read ∙ sym (map-append columns all (it ∷ [])) ∙ ap (map columns) (sym pushed)
