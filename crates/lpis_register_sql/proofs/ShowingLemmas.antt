-- What reading a table by its query leaves.
use Rattle.std.proofs.Common.{[], ◌⊎◌, inl, inr, Ok, Err, Result, IfOk, sym, OnErr, Vec, Global}
use Rattle.lpis_register_sql.proofs.Common.{HasCleanDisk, Error, State, Survives}
use Rattle.sqlite.specs.State.{IsUnchanged, IsRolledBack, CommitsShowing}
use Rattle.lpis_register_sql.specs.StoredTables.{StoredTable, query_of}
use Rattle.lpis_register_sql.specs.private.Telling.{IsPlainWhere}
use Rattle.lpis_register_sql.proofs.AnsweringLemmas.{IsRead, never_left, plain_where}
use Rattle.sqlite.proofs.StateLemmas.{survives_weaker}
use Rattle.lpis_register_sql.specs.Quiet.{LeavesAll}
use Rattle.lpis_register_sql.proofs.StepLemmas.{undone_settled, unchanged_settled}
use Rattle.lpis_register_sql.proofs.UnreadLemmas.{shown_same}
use Rattle.sqlite.specs.Order.{Row}

-- a query reads
pub by_query : {X : Type 0} {old new : State} {r : Result (Vec X Global) Error} (t : StoredTable) (columns : X → Row)
    → (IsPlainWhere old.now.schema (query_of t) → HasCleanDisk new → IfOk r (λ all. IsRead t columns old new all.items))
    → (IsPlainWhere old.now.schema (query_of t) → HasCleanDisk new → OnErr r (IsUnchanged old new ⊎ IsRolledBack old new))
    → Survives old new (CommitsShowing (query_of t) [] old) → LeavesAll old new r
by_query {X = X} {old = old} {new = new} {r = r} t columns ok err survives = read r (ok plain) (err plain)
  where
    plain : IsPlainWhere old.now.schema (query_of t)
    plain = plain_where t old.now.schema

    quiet : Survives old new (λ _. ⊥)
    quiet = survives_weaker old new _ _ (λ _ db may. never_left (query_of t) [] old db plain may) survives

    read : (r : Result (Vec X Global) Error) → (HasCleanDisk new → IfOk r (λ all. IsRead t columns old new all.items))
        → (HasCleanDisk new → OnErr r (IsUnchanged old new ⊎ IsRolledBack old new)) → LeavesAll old new r
    read (Ok all) ok err = record {
      kept = λ clean. let it = ok clean in unchanged_settled old new (shown_same (query_of t) old new it.0 plain it.1);
      same = λ clean up. tt;
      survives = quiet;
    }
    read (Err e) ok err = record {
      kept = λ clean. tt;
      same = λ clean up. elim (err clean) [
        | inl same ↦ unchanged_settled old new same
        | inr undo ↦ undone_settled old old new (λ was. sym was.settled) undo up
      ];
      survives = quiet;
    }
