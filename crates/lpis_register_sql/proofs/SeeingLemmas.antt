-- What calls that read one table after the other have shown of one database.
use Rattle.std.proofs.Common.{◌≡◌, ◌∙◌, refl, subst, true, false, Bool, Ok, Err, Result, IsErrAnd, [], Vec, Global, OnOk}
use Rattle.sqlite.specs.Effect.{Database}
use Rattle.sqlite.specs.Order.{Row}
use Rattle.sqlite.proofs.Callers.{unchanged_then}
use Rattle.lpis_register_sql.proofs.Common.{HasCleanDisk, State}
use Rattle.lpis_register_sql.specs.Showing.{Shows, ShowsFound, ShowsTable, StaysSame}
use Rattle.lpis_register_sql.specs.StoredTables.{StoredTable}
use Rattle.lpis_register_sql.proofs.StopLemmas.{unchanged}

-- a state is as it was
pub stays : (a : State) → StaysSame a a
stays a = (refl, λ up. unchanged a up)

-- and so it is after one call and another that leave it so
pub stays_then : (a b c : State) → StaysSame a b → StaysSame b c → StaysSame a c
stays_then a b c one two = (two.0 ∙ one.0, λ up. let first = one.1 up in unchanged_then a b c first (two.1 first.0.is_open))

-- this is shown of the database before the calls, and nothing is changed since
pub record Seen (Says : Database → Type 0) (a b : State) : Type 0 where
  pub so_far : HasCleanDisk b → Says a.now × StaysSame a b

-- before the first call nothing is shown
pub none_seen : {a : State} → Seen (λ db. Unit {0}) a a
none_seen {a = a} = record { so_far = λ clean. (tt, stays a) }

-- one call more
pub see : {Says : Database → Type 0} {X E : Type 0} {More : Database → X → Type 0} {a b c : State} {x : X} → Seen Says a b → (HasCleanDisk c → HasCleanDisk b) → Shows {E = E} More b c (Ok x)
    → Seen (λ db. Says db × More db x) a c
see {More = More} {a = a} {b = b} {c = c} {x = x} before clean more = record {
  so_far = λ late. let p = before.so_far (clean late) in let m = more.ok late in ((p.0, subst (λ db. More db x) p.1.0 m.0), stays_then a b c p.1 m.1);
}

-- what is made of all that was shown
pub seen : {Says : Database → Type 0} {Y E : Type 0} {All : Database → Y → Type 0} {a b : State} {y : Y} → Seen Says a b → ((db : Database) → Says db → All db y) → Shows {E = E} All a b (Ok y)
seen {a = a} before made = record { ok = λ clean. let it = before.so_far clean in (made a.now it.0, it.1) }

-- a call that fails shows nothing
pub unseen : {Y E : Type 0} {All : Database → Y → Type 0} {a b : State} (e : E) (r : Result Y E) → IsErrAnd r (λ x. x ≡ e) → Shows All a b r
unseen e (Ok y) is = absurd is
unseen e (Err x) is = record { ok = λ clean. tt }

-- nor does Ok say anything of it
pub none_ok : {Y E : Type 0} (P : Type 0) (e : E) (r : Result Y E) → IsErrAnd r (λ x. x ≡ e) → OnOk r P
none_ok P e (Ok y) is = absurd is
none_ok P e (Err x) is = tt

-- ---- a table, where it was found

-- it was, and its query shows it
pub found_shown : {X E : Type 0} (found : Bool) (table : StoredTable) (columns : X → Row) (a b : State) (r : Result (Vec X Global) E) → found ≡ true
    → Shows (λ db all. ShowsTable db table columns all.items) a b r → Shows (λ db all. ShowsFound found db table columns all.items) a b r
found_shown found table columns a b r is shows = rw is shows

-- it was not, and there is nothing of it
pub unfound_shown : {X E : Type 0} (found : Bool) (table : StoredTable) (columns : X → Row) (a : State) (all : Vec X Global) → found ≡ false → all.items ≡ []
    → Shows {E = E} (λ db xs. ShowsFound found db table columns xs.items) a a (Ok all)
unfound_shown found table columns a all is none = record { ok = λ clean. rw is (none, stays a) }
