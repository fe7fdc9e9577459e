-- How calls that only read join.
use Rattle.std.proofs.Common.{arith, refl, inl, ◌≡◌, ◌∙◌, Ok, Err, Result}
use Rattle.lpis_register_sql.proofs.Common.{HasCleanDisk, State, Survives}
use Rattle.sqlite.proofs.StateLemmas.{survives_then}
use Rattle.lpis_register_sql.specs.Quiet.{LeavesAll, StaysSettled}
use Rattle.lpis_register_sql.proofs.ReadingLemmas.{where_err, where_ok}

-- what the calls so far have left
pub record Told (a b : State) : Type 0 where
  pub kept : HasCleanDisk b → StaysSettled a b
  pub survives : Survives a b (λ _. ⊥)

-- before the first call
pub nothing_yet : {a : State} → Told a a
nothing_yet = record {
  kept = λ clean was. (was, refl);
  survives = record { clean = omega arith; shield = λ h. h; counts = omega arith; limit = refl; closes = λ clean h. inl h; crash = λ clean db h. inl h };
}

-- one call more: a crash leaves nothing new
still_none : {a b c : State} → Survives a b (λ _. ⊥) → Survives b c (λ _. ⊥) → Survives a c (λ _. ⊥)
still_none {a = a} {b = b} {c = c} one two = survives_then a b c _ _ _ (λ _ db none. none) (λ clean db none. none) one two

-- what stays settled over one call and another
pub settled_then : (a b c : State) → StaysSettled a b → StaysSettled b c → StaysSettled a c
settled_then a b c one two was = let mid = one was in let end = two mid.0 in (end.0, end.1 ∙ mid.1)

-- which answers
pub then : {X E : Type 0} {a b c : State} {x : X} → Told a b → LeavesAll {X = X} {E = E} b c (Ok x) → Told a c
then {a = a} {b = b} {c = c} told reads = record {
  kept = λ clean. let early : HasCleanDisk b = omega (arith, clean, reads.survives.clean) in settled_then a b c (told.kept early) (reads.kept clean);
  survives = still_none told.survives reads.survives;
}

-- or fails
pub then_fails : {X Y D E : Type 0} {a b c : State} {d : D} {r : Result Y E} {Why : E → Type 0} → (e : E) × (r ≡ Err e) × Why e → Told a b → LeavesAll {X = X} b c (Err d) → LeavesAll a c r
then_fails {a = a} {b = b} {c = c} failed told reads = rw failed.1 (record {
  kept = λ clean. tt;
  same = λ clean up. let early : HasCleanDisk b = omega (arith, clean, reads.survives.clean) in settled_then a b c (told.kept early) (reads.same clean up);
  survives = still_none told.survives reads.survives;
})

-- what is made of all that was answered
pub answered : {Y E : Type 0} {a b : State} {y : Y} → Told a b → LeavesAll {X = Y} {E = E} a b (Ok y)
answered told = record { kept = told.kept; same = λ clean up. tt; survives = told.survives }

-- where nothing is called
pub leaves_all : {X E : Type 0} {a : State} (r : Result X E) → LeavesAll a a r
leaves_all {a = a} r = record { kept = λ clean. where_ok r (λ was. (was, refl)); same = λ clean up. where_err r (λ was. (was, refl)); survives = (nothing_yet {a = a}).survives }

-- what is made of an answer leaves what reading it left
pub left_on : {X Y D E : Type 0} {a b : State} {x : X} (r : Result Y E) → LeavesAll {X = X} {E = D} a b (Ok x) → LeavesAll a b r
left_on r reads = record { kept = λ clean. where_ok r (reads.kept clean); same = λ clean up. where_err r (reads.kept clean); survives = reads.survives }

-- and so does another fault for an error
pub err_on : {X Y D E : Type 0} {a b : State} {d : D} {e : E} → LeavesAll {X = X} a b (Err d) → LeavesAll {X = Y} a b (Err e)
err_on reads = record { kept = λ clean. tt; same = reads.same; survives = reads.survives }
