-- A release that was published, by whichever run: what is printed of it, what it is to the history,
-- and what a run leaves of a register.
use Rattle.std.specs.Prelude.{◌≡◌, ◌≢◌, ◌<◌, ◌⊎◌, ◌++◌, true, false, ℕ, List, IfErr, IfOk, Result}
use Rattle.std.specs.List.{list_any}
use Rattle.sqlite_trees.specs.declared.store.Store.{Ghosts}
use Rattle.lpis_tables.specs.Ids.{has_id}
use Rattle.lpis_lineage.specs.declared.row.Row.{Row}
use Rattle.lpis_lineage.specs.Changes.{dropped}
use Rattle.lpis_lineage.specs.Descendants.{leads}
use Rattle.lpis_lineage.specs.Lineage.{is_ended, holds, last_live, last_year, succeeded}
use Rattle.lpis_lineage.specs.Order.{IsAscending}
use Rattle.lpis_lineage_exact.specs.Asking.{IsShown}
use Rattle.lpis_lineage_exact.specs.ExactLineage.{ShapesTurnOnce}
use Rattle.lpis_lineage_exact.specs.Shapes.{shape_named}
use Rattle.lpis_register.specs.Accepting.{HasExactLineage}
use Rattle.lpis_register.specs.Holdings.{Candidate, Holdings, RegisterState, candidate_ids}
use Rattle.lpis_register.specs.Publishing.{FollowsHistory}
use Rattle.lpis_run.specs.CheckAnswer.{Answer}
use Rattle.lpis_run.specs.declared.answer.Answer.{Answer as Printed}
use Rattle.lpis_run.specs.declared.failure.Failure.{Failure}
use Rattle.lpis_run.specs.declared.failure.Failure.TheVariants.{Memory}
use Rattle.lpis_run.specs.Status.{done}
use Rattle.lpis_run_publish.specs.LineageLines.{dropped_lines, published_line}
use Rattle.lpis_run_publish.specs.Stored.{IsStoreFailure, Stays}

-- ---- text and status
-- what is printed of a release that was published after a history: this text before it, the line of
-- each identifier that it drops, and its year
abbrev pub publication_text : List ℕ → Candidate → Holdings → List ℕ
publication_text head c before =
    head ++ dropped_lines (last_live before.history) (candidate_ids c) c.rows
    ++ published_line c.year

-- a release may follow what a register holds, and that is printed of it
pub record IsPublicationAnswer (head : List ℕ) (c : Candidate) (before : Holdings) (a : Answer)
    : Type 0 where
  pub later : last_year before.history < c.year
  pub shown : IsShown before.history before.shapes c.parcels c.blocks c.rows
  pub told : a ≡ (publication_text head c before, done)

-- ---- the register after
-- the rows give an identifier a written ending, or successors, each of which is in the release
abbrev pub IsContinued : List (List ℕ) → List Row → List ℕ → Type 0
IsContinued live rows id =
    (is_ended rows id ≡ true)
    ⊎ ((succeeded rows id ≡ true) × ((s : List ℕ) → list_any (leads id s) rows ≡ true
    → has_id live s ≡ true))

-- this release was published: a register holds what it held before, and the release
pub record IsReleasePublished (c : Candidate) (before after : Holdings) : Type 0 where
  -- the history is the one before with the release at its end; it is lawful and its rows fit, and
  -- the shapes are those of the release's parcels
  pub later : last_year before.history < c.year
  pub follows : FollowsHistory c before.history after
  -- each of these turns once at most: what the next merges rest on
  pub once : ShapesTurnOnce (shape_named after.shapes)
  -- exact splits and merges are exact, by the shapes that were kept before
  pub exact : HasExactLineage c before
  -- each identifier of the last release that is dropped has successors of this release or a written
  -- ending
  pub continued : (id : List ℕ) → has_id (last_live before.history) id ≡ true
      → has_id (candidate_ids c) id ≡ false → IsContinued (candidate_ids c) c.rows id
  -- no parcel bears an identifier that an earlier release had and the last one had not
  pub unused : (id : List ℕ) (i : ℕ) → has_id (candidate_ids c) id ≡ true
      → holds before.history i id ≡ true → has_id (last_live before.history) id ≡ true
  -- dropped identifiers are reported ascending by bytes
  pub ascend : IsAscending (dropped (last_live before.history) (candidate_ids c))

-- memory ran out, or the database failed
abbrev pub IsMemoryOrStore : Failure → Type 0
IsMemoryOrStore failure = (failure ≡ Memory) ⊎ IsStoreFailure failure

-- what a run that ended so, and was asked to publish one of these releases, leaves of a register:
-- what it holds became another only where one was published, and its database holds that, or it is
-- known why not
pub record PublishLeaves {S : Type 0} (store : Ghosts S) (IsAsked : Candidate → Type 0)
    (old new : RegisterState S) (result : Result Printed Failure) : Type 0 where
  pub same : IfOk result (λ a. a.status ≢ done → new.held ≡ old.held)
  pub failure : IfErr result (λ failure. IsMemoryOrStore failure × (new.held ≡ old.held))
  pub stored : Stays store IsAsked old new result

-- what publishing a release comes to that was accepted, with this text before it
pub record PublishesAccepted {S : Type 0} (store : Ghosts S) (head : List ℕ) (c : Candidate)
    (old new : RegisterState S) (result : Result Printed Failure) : Type 0 where
  pub answer : IfOk result (λ it. IsPublicationAnswer head c old.held (it.text.items, it.status))
  pub published : IfOk result (λ _. IsReleasePublished c old.held new.held)
  pub leaves : PublishLeaves store (λ asked. asked ≡ c) old new result
