-- Statements of a transaction, in turn, and why they stop.
use Rattle.std.proofs.Common.{◌≡◌, ℕ, Bool, true, false, List, [], ◌∷◌, ◌++◌, arith, refl, sym, ap, subst, ◌∙◌, Ok, Err, Result, inl, inr, IsTrue, ◌⊎◌, MatchBool}
use Rattle.std.proofs.Common.{None, IsErrAnd, MatchResult}
use Rattle.std.proofs.lemmas.List.{append_assoc}
use Rattle.std.proofs.Common.{◌≤◌}
use Rattle.sqlite.specs.Held.{Held}
use Rattle.sqlite.specs.State.{IsUnchanged, IsNotRun, ExecutesIn, RunsAlone, Fails, IsStatement, text_of, shows_rows, mode_of}
use Rattle.sqlite.specs.Clock.{timed}
use Rattle.sqlite_disk.specs.Disk.{MoreFaults}
use Rattle.sqlite_resolve.specs.declared.compiled.Compiled.{Compiled}
use Rattle.sqlite_trees.specs.declared.error.StoreError.TheVariants as cause
use Rattle.sqlite_trees.specs.declared.store.Store as store
use Rattle.sqlite.specs.declared.error.Error.TheVariants.{SqliteFailure}
use Rattle.sqlite.specs.declared.error.ErrorCode.TheVariants as code
use Rattle.lpis_register_sql.specs.Within.{Ends, Makes}
use Rattle.lpis_register_sql.proofs.Common.{Error, State, state}
use Rattle.sqlite.specs.State.{ExecutesInside}
use Rattle.lpis_register_sql.proofs.StepLemmas.{quiet_none, quiet_on, ran_open}
use Rattle.lpis_register_sql.specs.Stopping.{BoundStatement, IsRefusedIn, Ran, StopsWithin}
use Rattle.sqlite.specs.Does.{Does}

-- ---- one statement

-- it failed for want of memory, by the disk, or for its row's size
pub failing : (too_big : Type 0) (a b : State) (e : Error) → IsTrue a.is_open → Fails a b too_big e → (e ≡ SqliteFailure code.OutOfMemory) ⊎ (MoreFaults a.faults b.faults ⊎ too_big)
failing too_big a b e up (cause.OutOfMemory, is, why, back, tells) = inl is
failing too_big a b e up (cause.Io, is, why, back, tells) = inr (inl why)
failing too_big a b e up (cause.Corrupt, is, why, back, tells) = inr (inl why)
failing too_big a b e up (cause.Full, is, why, back, tells) = inr (inl why)
failing too_big a b e up (cause.Broken, is, why, back, tells) = absurd cc
failing too_big a b e up (cause.Unstorable, is, why, back, tells) = inr (inr why)

-- an open connection is as it is
pub unchanged : (a : State) → IsTrue a.is_open → IsUnchanged a a
unchanged a up = (
  record { was_open = up; is_open = up; now_is = refl; committed_is = refl; mode = refl },
  record { changes = refl; last_rowid = refl },
  refl,
)

either : {X Y V Z W : Type 0} (b : Bool) → (X → V) → (Y → Z ⊎ W) → MatchBool b X Y → MatchBool b V Z ⊎ W
either true f g x = inl (f x)
either false f g y = g y

-- why a statement of an open transaction is not run
abbrev Fault : State → State → Error → Type 0 → Type 0
Fault a b e too_big = (e ≡ SqliteFailure code.OutOfMemory) ⊎ (MoreFaults a.faults b.faults ⊎ too_big)

not_run : (x : BoundStatement) (a b : State) (e : Error) → IsTrue a.is_open → IsNotRun a b x.sql x.values e → IsNotRun a a x.sql x.values e ⊎ Fault a b e ⊥
unfolding IsNotRun
not_run x a b e up (inl (none, _)) = inl (inl (none, unchanged a up))
not_run x a b e up (inr failed) = inr (failing ⊥ a b e up failed)

alone : (x : BoundStatement) (a b : State) (e : Error) (c : Compiled) (it : IsStatement a x.sql x.values c) → IsTrue a.is_open
    → RunsAlone false a b x.sql c (timed x.values c.formats it.now) (Err e)
    → RunsAlone false a a x.sql c (timed x.values c.formats it.now) (Err e)
    ⊎ Fault a b e (Does a.step_limit (mode_of a) (timed x.values c.formats it.now) a.now (text_of x.sql c) c.returning c.command (Err None))
alone x a b e c it up = either (shows_rows false c) (λ h. (h.0, unchanged a up)) (λ h. elim h [
  | inl refused ↦ inl (inl (refused.0, unchanged a up))
  | inr failed ↦ inr (failing _ a b e up failed)
])

stopped_in : (x : BoundStatement) (a b : State) (e : Error) → IsTrue a.is_open → ExecutesIn false x.sql x.values a b (Err e) → Fault a b e (IsRefusedIn a x)
unfolding ExecutesIn
stopped_in x a b e up (inl none) = elim (not_run x a b e up none) [
  | inl same ↦ inr (inr (inl (e, inl (inl same, inl (unchanged a up)))))
  | inr fault ↦ elim fault [ inl memory ↦ inl memory | inr disk ↦ inr (elim disk [ inl more ↦ inl more | inr never ↦ absurd never ]) ]
]
stopped_in x a b e up (inr (c, it, run)) = elim (alone x a b e c it up run) [
  | inl same ↦ inr (inr (inl (e, inl (inr (c, it, same), inl (unchanged a up)))))
  | inr fault ↦ elim fault [ inl memory ↦ inl memory | inr disk ↦ inr (elim disk [ inl more ↦ inl more | inr large ↦ inr (inr (c, it, large)) ]) ]
]

stopped : (x : BoundStatement) (a b : State) (e : Error) → IsTrue a.is_open → ExecutesInside 0 x.sql x.values a b (Err e) → Fault a b e (IsRefusedIn a x)
stopped x a b e up (inl (run, _)) = stopped_in x a b e up run
stopped x a b e up (inr late) = inr (inr (inl (e, inr (late.0, late.1, unchanged a up))))

-- what was counted before counts too
pub more_faults : (a b c : ℕ) → a ≤ b → MoreFaults b c → MoreFaults a c
more_faults a b c low more = omega arith

-- and what is counted later
pub faults_kept : (a b c : ℕ) → MoreFaults a b → b ≤ c → MoreFaults a c
faults_kept a b c more low = omega arith

module _ {S : Type 0} (g : store.Ghosts S) where
  -- ---- statements in turn

  -- a statement that was run
  pub one_ran : (x : BoundStatement) (a b : Held S) (count : ℕ) → ExecutesInside 0 x.sql x.values (state g a) (state g b) (Ok count) → b.step_limit ≡ a.step_limit → Ran g (x ∷ []) a b
  one_ran x a b count ran same = (b, count, ran, same, refl)

  -- and one that was not
  pub one_stops : (x : BoundStatement) (a b : Held S) (e : Error) → IsTrue (state g a).is_open → ExecutesInside 0 x.sql x.values (state g a) (state g b) (Err e) → StopsWithin g (x ∷ []) a b e
  one_stops x a b e up ran = elim (stopped x (state g a) (state g b) e up ran) [
    | inl memory ↦ inl memory
    | inr disk ↦ inr (elim disk [
      | inl more ↦ inl more
      | inr refused ↦ inr (record { before = []; next = x; after = []; are = refl; reached = a; ran = refl; refused = refused })
    ])
  ]

  ran_then : (xs ys : List BoundStatement) (a b c : Held S) → Ran g xs a b → Ran g ys b c → Ran g (xs ++ ys) a c
  ran_then [] ys a b c r s = subst (λ h. Ran g ys h c) (sym r) s
  ran_then (x ∷ xs) ys a b c (mid, count, ran, same, more) s = (mid, count, ran, same, ran_then xs ys mid b c more s)

  -- where the first of two lists stops, both do
  stops_before : (xs ys : List BoundStatement) (a b : Held S) (e : Error) → StopsWithin g xs a b e → StopsWithin g (xs ++ ys) a b e
  stops_before xs ys a b e (inl memory) = inl memory
  stops_before xs ys a b e (inr (inl more)) = inr (inl more)
  stops_before xs ys a b e (inr (inr s)) = inr (inr (record {
    before = s.before;
    next = s.next;
    after = s.after ++ ys;
    are = ap (λ l. l ++ ys) s.are ∙ append_assoc s.before (s.next ∷ s.after) ys;
    reached = s.reached;
    ran = s.ran;
    refused = s.refused;
  }))

  -- and where the first was run and the second stops
  stops_after : (xs ys : List BoundStatement) (a b c : Held S) (e : Error) → (state g a).faults ≤ (state g b).faults → Ran g xs a b → StopsWithin g ys b c e → StopsWithin g (xs ++ ys) a c e
  stops_after xs ys a b c e low ran (inl memory) = inl memory
  stops_after xs ys a b c e low ran (inr (inl more)) = inr (inl (more_faults (state g a).faults (state g b).faults (state g c).faults low more))
  stops_after xs ys a b c e low ran (inr (inr s)) = inr (inr (record {
    before = xs ++ s.before;
    next = s.next;
    after = s.after;
    are = ap (λ l. xs ++ l) s.are ∙ sym (append_assoc xs s.before (s.next ∷ s.after));
    reached = s.reached;
    ran = ran_then xs s.before a b s.reached ran s.ran;
    refused = s.refused;
  }))

  both_end : (xs ys : List BoundStatement) (a b c : Held S) (r : Result (Unit {0}) Error) → (state g a).faults ≤ (state g b).faults → Ran g xs a b
      → MatchResult r (λ _. Ran g ys b c) (StopsWithin g ys b c) → MatchResult r (λ _. Ran g (xs ++ ys) a c) (StopsWithin g (xs ++ ys) a c)
  both_end xs ys a b c (Ok _) low first more = ran_then xs ys a b c first more
  both_end xs ys a b c (Err e) low first more = stops_after xs ys a b c e low first more

  -- no later call takes a cause away
  pub stops_still : (xs : List BoundStatement) (a b c : Held S) (e : Error) → (state g b).faults ≤ (state g c).faults → StopsWithin g xs a b e → StopsWithin g xs a c e
  stops_still xs a b c e low (inl memory) = inl memory
  stops_still xs a b c e low (inr (inl more)) = inr (inl (faults_kept (state g a).faults (state g b).faults (state g c).faults more low))
  stops_still xs a b c e low (inr (inr stuck)) = inr (inr stuck)

  -- a failure that is handed on
  pub handed_on : (xs : List BoundStatement) (a b : Held S) (e : Error) (r : Result (Unit {0}) Error) → IsErrAnd r (λ x. x ≡ e) → Ends g xs a b (Err e) → Ends g xs a b r
  handed_on xs a b e (Ok _) is h = absurd is
  handed_on xs a b e (Err x) is h = λ clean up within. subst (StopsWithin g xs a b) (sym is) (h clean up within)

module _ {S : Type 0} {g : store.Ghosts S} where
  -- a call that makes no statement
  pub none : {a : Held S} {x : Unit {0}} → Makes g [] a a (Ok x)
  none {a = a} = record { quiet = quiet_none (state g a); ends = λ clean up within. refl }

  -- of two calls in turn each makes its statements
  pub then : {xs ys : List BoundStatement} {a b c : Held S} {x : Unit {0}} {r : Result (Unit {0}) Error} → Makes g xs a b (Ok x) → Makes g ys b c r → Makes g (xs ++ ys) a c r
  then {xs = xs} {ys = ys} {a = a} {b = b} {c = c} {r = r} first more = record {
    quiet = quiet_on (state g a) (state g b) (state g c) first.quiet more.quiet;
    ends = λ clean up within.
        let ran : Ran g xs a b = first.ends (omega (arith, more.quiet.survives.clean)) up within in
        let on = ran_open g xs a b ran up within in both_end g xs ys a b c r first.quiet.survives.counts ran (more.ends clean on.0 on.1);
  }

  -- and where the first of them fails, that is all
  pub fails : {xs : List BoundStatement} (ys : List BoundStatement) {a b : Held S} {e : Error} {r : Result (Unit {0}) Error} → IsErrAnd r (λ x. x ≡ e) → Makes g xs a b (Err e)
      → Makes g (xs ++ ys) a b r
  fails {xs = xs} ys {a = a} {b = b} {e = e} {r = r} is h = record {
    quiet = h.quiet;
    ends = handed_on g (xs ++ ys) a b e r is (λ clean up within. stops_before g xs ys a b e (h.ends clean up within));
  }
