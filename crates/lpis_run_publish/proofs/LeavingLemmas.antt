-- What a call that publishes a release leaves of a register and its database.
use Rattle.std.proofs.Common.{◌≡◌, inl, inr, refl, arith, Result, Ok, Err, IfErr}
use Rattle.std.proofs.lemmas.Result.{IfErr-weaker}
use Rattle.sqlite.specs.Held.{state}
use Rattle.sqlite.specs.State.{HasCleanDisk, State, Survives}
use Rattle.sqlite.specs.Tree.{Trees}
use Rattle.sqlite.proofs.StateLemmas.{survives_weaker}
use Rattle.sqlite_trees.specs.declared.store.Store.{Ghosts}
use Rattle.lpis_lineage.specs.Changes.{Changes}
use Rattle.lpis_register.specs.Accepting.{IsAccepted}
use Rattle.lpis_register.specs.Failing.{FailsToStore, HasStoreCause}
use Rattle.lpis_register.specs.Holdings.{Candidate, RegisterState}
use Rattle.lpis_register.specs.Publishing.{FollowsHistory, IsLeftAlone, LeavesRelease, Stores}
use Rattle.lpis_register.specs.Running.{RanReleaseTo, RunsRelease}
use Rattle.lpis_register.specs.declared.accepting.Accepted.{Accepted}
use Rattle.lpis_register.specs.declared.fault.PublishFault.{PublishFault}
use Rattle.lpis_run.specs.declared.answer.Answer.{Answer as Answered}
use Rattle.lpis_run.specs.declared.failure.Failure.{Failure}
use Rattle.lpis_run.specs.declared.failure.Failure.TheVariants.{Memory, Store}
use Rattle.lpis_run.specs.Status.{done}
use Rattle.lpis_run_publish.specs.Publication.{IsMemoryOrStore, PublishLeaves}
use Rattle.lpis_run_publish.specs.Stored.{IsReleaseLeft, IsReleaseStored, IsStoreFailure, SaysOrStays, Stays}

-- ---- crashes
-- where nothing was done, a crash leaves what it left before
nothing_left : (P : Trees → Type 0) (a : State) → Survives a a P
nothing_left P a = record { clean = omega arith; shield = λ s. s; counts = omega arith; limit = refl; closes = λ _ up. inl up; crash = λ _ db may. inl may }

-- what has each of two properties has both
both_left : (a b : State) (P Q R : Trees → Type 0) → ((db : Trees) → P db → Q db → R db) → Survives a b P → Survives a b Q → Survives a b R
both_left a b P Q R f one two = record {
  clean = one.clean;
  shield = one.shield;
  counts = one.counts;
  limit = one.limit;
  closes = one.closes;
  crash = λ clean db may. elim (one.crash clean db may) [
    | inl before ↦ inl before
    | inr p ↦ elim (two.crash clean db may) [ inl before ↦ inl before | inr q ↦ inr (f db p q) ]
  ];
}

-- ---- a register that was not reached
-- the database did not fail where memory ran out
memory-no-store : (failure : Failure) → failure ≡ Memory → IsStoreFailure failure → ⊥
memory-no-store failure why (inl is) = cc (why, is)
memory-no-store failure why (inr is) = cc (why, is)

-- it is as it was, however the call ended, but for a failure of the database
pub stays_untouched : {S A : Type 0} (g : Ghosts S) (Is : Candidate → Type 0) (old : RegisterState S) (r : Result A Failure) → IfErr r (λ failure. IsStoreFailure failure → ⊥) → Stays g Is old old r
stays_untouched g Is old r other = record {
  holds = λ clean up. inr (refl, λ was. (was, refl));
  served = λ other clean. inr (refl, λ was. (was, refl));
  crash = nothing_left (IsReleaseLeft g Is old) (state g old.conn);
  cause = IfErr-weaker r _ _ (λ failure none is. absurd (none is)) other;
}

-- so it is where there is an answer
pub leaves_untouched : {S : Type 0} (g : Ghosts S) (Is : Candidate → Type 0) (old : RegisterState S) (a : Answered) → PublishLeaves g Is old old (Ok a)
leaves_untouched g Is old a = record { same = λ other. refl; failure = tt; stored = stays_untouched g Is old (Ok a) tt }

-- or memory ran out
pub leaves_unreached : {S : Type 0} (g : Ghosts S) (Is : Candidate → Type 0) (old : RegisterState S) (failure : Failure) → failure ≡ Memory → PublishLeaves g Is old old (Err failure)
leaves_unreached g Is old failure why = record { same = tt; failure = (inl why, refl); stored = stays_untouched g Is old (Err failure) (memory-no-store failure why) }

-- ---- what is known of a request is known of a wider one
module _ {S : Type 0} (g : Ghosts S) (P Q : Candidate → Type 0) (wider : (c : Candidate) → P c → Q c) (old new : RegisterState S) where
  says_as : SaysOrStays g P old new → SaysOrStays g Q old new
  says_as says = elim says [
    | inl s ↦ inl (record { candidate = s.candidate; asked = wider s.candidate s.asked; accepted = s.accepted; made = s.made; follows = s.follows; ran = s.ran; says = s.says })
    | inr stays ↦ inr stays
  ]

  left_as : Survives (state g old.conn) (state g new.conn) (IsReleaseLeft g P old) → Survives (state g old.conn) (state g new.conn) (IsReleaseLeft g Q old)
  left_as = survives_weaker (state g old.conn) (state g new.conn) _ _
      (λ clean db s. record { candidate = s.candidate; asked = wider s.candidate s.asked; accepted = s.accepted; made = s.made; ran = s.ran; leaves = s.leaves })

  -- after an end of which no less is known where the database did not fail, and no more where it did
  pub stays_as : {A B : Type 0} (r : Result A Failure) (q : Result B Failure) → (IfErr q (λ failure. IsStoreFailure failure → ⊥) → IfErr r (λ failure. IsStoreFailure failure → ⊥))
      → ((X : Failure → Type 0) → IfErr r (λ failure. IsStoreFailure failure → X failure) → IfErr q (λ failure. IsStoreFailure failure → X failure)) → Stays g P old new r → Stays g Q old new q
  stays_as r q served failed s = record {
    holds = λ clean up. says_as (s.holds clean up);
    served = λ other clean. says_as (s.served (served other) clean);
    crash = left_as s.crash;
    cause = IfErr-weaker q _ _ (λ failure told is. let (c, asked, fails) = told is in (c, wider c asked, fails))
        (failed (λ failure. (c : Candidate) × P c × FailsToStore g c old new (failure ≡ Store)) s.cause);
  }

  pub leaves_as : (r : Result Answered Failure) → PublishLeaves g P old new r → PublishLeaves g Q old new r
  leaves_as r leaves = record { same = leaves.same; failure = leaves.failure; stored = stays_as r r (λ other. other) (λ X told. told) leaves.stored }

-- ---- a release that was accepted
module _ {S : Type 0} (g : Ghosts S) (Is : Candidate → Type 0) (old new : RegisterState S) (c : Candidate) (asked : Is c) (d : Accepted) (made : IsAccepted c old.held d) where
  crashed : Survives (state g old.conn) (state g new.conn) (LeavesRelease c old.held.history) → Survives (state g old.conn) (state g new.conn) (RanReleaseTo g d old)
      → Survives (state g old.conn) (state g new.conn) (IsReleaseLeft g Is old)
  crashed = both_left (state g old.conn) (state g new.conn) (LeavesRelease c old.held.history) (RanReleaseTo g d old) (IsReleaseLeft g Is old)
      (λ db leaves ran. record { candidate = c; asked = asked; accepted = d; made = made; ran = ran; leaves = leaves })

  -- the database holds what was made of the register
  pub leaves_committed : (a : Answered) (change : Changes) → a.status ≡ done → FollowsHistory c old.held.history new.held → Stores g c old new (Ok change)
      → RunsRelease g {E = PublishFault} d old new (Ok change) → PublishLeaves g Is old new (Ok a)
  leaves_committed a change is follows stores runs = record {
    same = λ other. absurd (other is);
    failure = tt;
    stored = record { holds = λ clean up. inl (stored clean); served = λ other clean. inl (stored clean); crash = crashed stores.crash runs.left; cause = tt };
  }
    where
      stored : HasCleanDisk (state g new.conn) → IsReleaseStored g Is old new
      stored clean = record { candidate = c; asked = asked; accepted = d; made = made; follows = follows; ran = runs.ran clean; says = stores.ok clean }

  -- or what it held
  pub leaves_kept : (fault : PublishFault) (failure : Failure) → IsMemoryOrStore failure → new.held ≡ old.held → Stores g c old new (Err fault)
      → RunsRelease g {X = Changes} d old new (Err fault) → ((IsStoreFailure failure → ⊥) → IsLeftAlone g old new) → HasStoreCause g d old new (failure ≡ Store)
      → PublishLeaves g Is old new (Err failure)
  leaves_kept fault failure stopped kept stores runs served cause = record {
    same = tt;
    failure = (stopped, kept);
    stored = record {
      holds = λ clean up. inr (kept, stores.err clean up);
      served = λ other clean. inr (kept, served other);
      crash = crashed stores.crash runs.left;
      cause = λ is. (c, asked, (d, made, cause));
    };
  }

-- a database that was not reached is as it was
pub still_settled : {S : Type 0} (g : Ghosts S) (old new : RegisterState S) → new.conn ≡ old.conn → IsLeftAlone g old new
still_settled g old new same = rw same (λ was. (was, refl))
