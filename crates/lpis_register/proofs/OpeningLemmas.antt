-- What the steps of an opening do, joined.
use Rattle.std.proofs.Common.{◌≡◌, ◌∙◌, ◌⊎◌, ◌↔◌, ◌&&◌, ap, arith, refl, subst, sym, true≢false, inl, inr, Bool, List, Result, Ok, Err, IsTrue, [], false, true}
use Rattle.std.proofs.lemmas.Bool.{cases_Bool}
use Rattle.sqlite.proofs.StateLemmas.{survives_then}
use Rattle.sqlite.specs.Effect.{Database}
use Rattle.sqlite.specs.Held.{Held}
use Rattle.sqlite.specs.Schema.{Schema}
use Rattle.sqlite_trees.specs.declared.store.Store as store
use Rattle.lpis_register_sql.proofs.Shared.{settled_then, stays, unread_still}
use Rattle.lpis_register_sql.specs.Hiding.{hides_table}
use Rattle.lpis_register_sql.specs.Presence.{AreThere, has_table, is_any, is_whole}
use Rattle.lpis_register_sql.specs.Quiet.{LeavesAll}
use Rattle.lpis_register_sql.specs.StoredTables.{Formats, Lines, Lives, Marks, Spans, StoredTable, Texts, Years, is_read, name_of}
use Rattle.lpis_register_sql.specs.Unread.{IsUnread}
use Rattle.lpis_register_sql.specs.declared.found.Found.{Found}
use Rattle.lpis_register.proofs.Common.{Entry, HasCleanDisk, PublishFault, Shape, State, Survives, Third, Trees, Version, state, survives_weaker}
use Rattle.lpis_register.proofs.FailingLemmas.{or_shut}
use Rattle.lpis_register.proofs.HoldingLemmas.{nothing_done}
use Rattle.lpis_register.proofs.ResultLemmas.{failure_lawful, opening_failure}
use Rattle.lpis_register.proofs.SayingLemmas.{SeesLoaded}
use Rattle.lpis_register.specs.FailingToOpen.{FailsAfterReading}
use Rattle.lpis_register.specs.Faults.{IsOpeningFault}
use Rattle.lpis_register.specs.Opening.{AreOfVersion, LeavesOpened, RanSettlingTo}
use Rattle.lpis_register.specs.Saying.{LeavesSaid, IsWhole, SaysRegister, SaysTables}
use Rattle.lpis_register.specs.declared.fault.PublishFault.TheVariants.{Store}
use Rattle.lpis_register.specs.declared.opening.Loaded.{Loaded}
use Rattle.lpis_register.specs.private.Commits.{Settles}
use Rattle.lpis_register.specs.private.Finding.{TellsFound}
use Rattle.lpis_register.specs.private.Opens.{Opens}

-- where each is found, one is
whole_any : (found : Found) → IsWhole found → is_any found ≡ true
whole_any found whole = rw whole.format refl

whole_is : (found : Found) → IsWhole found → is_whole found ≡ true
whole_is found whole = rw (whole.format, whole.years, whole.spans, whole.lines, whole.texts, whole.marks) refl

-- where all of version 3 are found, so is the one of the version
pub whole_format : (found : Found) → is_whole found ≡ true → found.format ≡ true
whole_format found whole = by found.format found.years found.spans found.lines found.texts found.marks whole
  where
    by : (a b c d e f : Bool) → (((((a && b) && c) && d) && e) && f) ≡ true → a ≡ true
    by true b c d e f is = refl
    by false b c d e f is = absurd cc

all_whole : (found : Found) → is_whole found ≡ true → IsWhole found
all_whole found whole = by found.format found.years found.spans found.lines found.texts found.marks refl refl refl refl refl refl whole
  where
    by : (a b c d e f : Bool) → found.format ≡ a → found.years ≡ b → found.spans ≡ c → found.lines ≡ d → found.texts ≡ e → found.marks ≡ f → (((((a && b) && c) && d) && e) && f) ≡ true → IsWhole found
    by true true true true true true a b c d e f is = record { format = a; years = b; spans = c; lines = d; texts = e; marks = f }
    by _ _ _ _ _ _ a b c d e f is = absurd cc

-- what is not settled so is to be made
pub not_both : (found : Found) (version : Version) (settled : Bool) → (settled ≡ true) ↔ ((version ≡ Third) × (is_whole found ≡ true)) → settled ≡ false → version ≡ Third → is_whole found ≡ false
not_both found version settled both not third = elim (cases_Bool (is_whole found)) [
  | inl whole ↦ absurd (true≢false (sym (both.1 (third, whole)) ∙ not))
  | inr other ↦ other
]

-- where there is no table, none is found
pub nothing_there : (schema : Schema) (found : Found) → schema.tables ≡ [] → AreThere schema found → is_any found ≡ true → ⊥
nothing_there schema found bare there any = true≢false (sym any ∙ by (λ t. there t ∙ ap (λ ts. has_table (record schema { tables = ts }) (name_of t)) bare))
  where
    by : ((t : StoredTable) → is_read found t ≡ false) → is_any found ≡ false
    by each = rw (each Formats, each Years, each Spans, each Lines, each Lives, each Texts, each Marks) refl

-- and the database says the empty history
pub says_nothing : (db : Database) (h : List Entry) (shapes : List Shape) → db.schema.tables ≡ [] → SaysRegister db h shapes → (h ≡ []) × (shapes ≡ [])
says_nothing db h shapes bare (found, there, inl none) = (none.1, none.2)
says_nothing db h shapes bare (found, there, inr it) = absurd (nothing_there db.schema found bare there it.0)

-- where a crash leaves such trees, and such, it leaves those that are both
both_left : (a b : State) (P Q R : Trees → Type 0) → (HasCleanDisk b → (db : Trees) → P db → Q db → R db) → Survives a b P → Survives a b Q → Survives a b R
both_left a b P Q R f one two = record {
  clean = one.clean;
  shield = one.shield;
  counts = one.counts;
  limit = one.limit;
  closes = one.closes;
  crash = λ clean db may. elim (one.crash clean db may) [ inl before ↦ inl before | inr p ↦ elim (two.crash clean db may) [ inl before ↦ inl before | inr q ↦ inr (f clean db p q) ] ];
}

module _ {S : Type 0} (g : store.Ghosts S) where
  -- where a table is there unseen, nothing is done
  pub unseen : (st : Held S) → hides_table st.schema ≡ true → Opens g st st (Err Store)
  unseen st hidden = record {
    opened = tt;
    unopened = record {
      same = λ clean up was. (was, refl);
      refused = λ is. absurd (let e = is in cc);
      seen = λ is. absurd (let e = is in cc);
      untouched = λ is. absurd (let e = is in cc);
      crash = nothing_done (LeavesOpened g st) (state g st);
      kind = tt;
    };
    cause = λ clean is. inr (inl hidden);
  }

  module _ (old : Held S) (found : Found) (there : AreThere old.schema found) (seen : hides_table old.schema ≡ false) where
    -- ---- where no table is there, those of version 3 are made

    module _ (new : Held S) (none : is_any found ≡ false) (told : Loaded) (no_release : told.history ≡ []) (no_shapes : told.shapes.items ≡ []) where
      bare_says : SaysRegister (state g old).now told.history told.shapes.items
      bare_says = (found, there, inl (none, no_release, no_shapes))

      bare_version : AreOfVersion (state g old).now Third told.history told.shapes.items
      bare_version = (found, there, inl (none, refl))

      bare_left : {r : Result (Unit {0}) PublishFault} → Settles g Third told.history told.shapes.items old new r → Survives (state g old) (state g new) (LeavesOpened g old)
      bare_left settles = both_left (state g old) (state g new) _ _ _
          (λ clean db leaves led. record {
            history = told.history;
            shapes = told.shapes.items;
            said = bare_says;
            leaves = leaves;
            ran = (old, stays (state g old), refl, (Third, bare_version, led));
          })
          settles.writes.crash settles.left

      -- which succeeds
      pub bare_opens : (x : Unit {0}) → Settles g Third told.history told.shapes.items old new (Ok x) → Opens g old new (Ok told)
      bare_opens x settles = record {
        opened = record {
          said = λ clean. bare_says;
          says = settles.writes.ok;
          stays = λ clean. (found, there, λ whole. absurd (true≢false (sym (whole_any found whole) ∙ none)));
          whole = settles.whole;
          ran = λ clean. inr (old, stays (state g old), refl, (Third, bare_version, settles.ran clean));
          seen = seen;
          crash = bare_left settles;
        };
        unopened = tt;
        cause = tt;
      }

      -- or fails
      pub bare_fails : (e : PublishFault) → Settles g Third told.history told.shapes.items old new (Err e) → Opens g old new (Err e)
      bare_fails e settles = record {
        opened = tt;
        unopened = record {
          same = settles.writes.err;
          refused = λ is. absurd (failure_lawful e settles.failure is);
          seen = λ is. absurd (failure_lawful e settles.failure is);
          untouched = λ is. absurd (failure_lawful e settles.failure is);
          crash = bare_left settles;
          kind = opening_failure e settles.failure;
        };
        cause = λ clean is. or_shut (state g old).is_open
            (λ up. inr (found, there, inr (none, rw (no_release, no_shapes) at (settles.cause clean up seen is))));
      }

    -- ---- where one is there, they are read

    module _ (any : is_any found ≡ true) where
      -- they are not read, or say nothing
      pub read_not : (mid : Held S) (e : PublishFault) → LeavesAll {X = Loaded × Version} (state g old) (state g mid) (Err e) → SeesLoaded found (state g old) (state g mid) (Err e)
          → TellsFound {X = Loaded × Version} found (state g old) (state g mid) (Err e) → IsOpeningFault e → Opens g old mid (Err e)
      read_not mid e reads sees tells kind = record {
        opened = tt;
        unopened = record {
          same = reads.same;
          refused = λ is clean. let no = sees.refuses clean is in ((found, there, any, no.0), no.1);
          seen = λ is. seen;
          untouched = λ is. reads.survives;
          crash = survives_weaker (state g old) (state g mid) _ _ (λ clean db never. absurd never) reads.survives;
          kind = kind;
        };
        cause = λ clean is. or_shut (state g old).is_open (λ up. inr (found, there, inl (any, inl (tells clean up is))));
      }

      module _ (mid : Held S) (told : Loaded) (version : Version) (reads : LeavesAll {X = Loaded × Version} {E = PublishFault} (state g old) (state g mid) (Ok (told, version)))
          (sees : SeesLoaded found (state g old) (state g mid) (Ok (told, version))) where
        read_says : HasCleanDisk (state g mid) → SaysRegister (state g old).now told.history told.shapes.items
        read_says clean = (found, there, inr (any, version, (sees.shows.ok clean).0))

        read_version : HasCleanDisk (state g mid) → AreOfVersion (state g old).now version told.history told.shapes.items
        read_version clean = (found, there, inr (sees.shows.ok clean).0)

        -- all of version 3 are there, and nothing is done
        pub whole_opens : version ≡ Third → is_whole found ≡ true → (HasCleanDisk (state g mid) → IsTrue (state g old).is_open) → mid.in_transaction ≡ false
            → (IsTrue (state g mid).is_open → (state g mid).now ≡ (state g mid).committed) → Opens g old mid (Ok told)
        whole_opens third all on autocommit settled = record {
          opened = record {
            said = read_says;
            says = λ clean.
                let same = (sees.shows.ok clean).1 in
                let up = (same.1 (on clean)).0.is_open in record {
                  settled = record { is_open = up; autocommit = autocommit; settled = settled up };
                  says = subst (λ db. SaysRegister db told.history told.shapes.items) (sym same.0) (read_says clean);
                };
            stays = λ clean. let it = sees.shows.ok clean in (found, there, λ whole. (version, it.0, λ is. it.1.0));
            whole = λ clean. (
              found,
              subst (λ (d : Database). AreThere d.schema found) (sym (sees.shows.ok clean).1.0) there,
              all_whole found all,
            );
            ran = λ clean. let it = sees.shows.ok clean in
                inl ((found, there, all_whole found all, subst (λ v. SaysTables found (state g old).now v told.history told.shapes.items) third it.0), it.1.0);
            seen = seen;
            crash = survives_weaker (state g old) (state g mid) _ _ (λ clean db never. absurd never) reads.survives;
          };
          unopened = tt;
          cause = tt;
        }

        -- or they are made those of version 3
        module _ (new : Held S) (busy : version ≡ Third → is_whole found ≡ false) where
          settled_left : {r : Result (Unit {0}) PublishFault} → Settles g version told.history told.shapes.items mid new r → Survives (state g old) (state g new) (LeavesOpened g old)
          settled_left settles = survives_then (state g old) (state g mid) (state g new) (λ _. ⊥) (LeavesOpened g old) (LeavesOpened g old) (λ _ db never. absurd never) (λ _ db left. left)
              reads.survives (both_left (state g mid) (state g new) _ _ (LeavesOpened g old) made settles.writes.crash settles.left)
            where
              made : HasCleanDisk (state g new) → (db : Trees) → LeavesSaid told.history told.shapes.items db → RanSettlingTo g version told.history mid db → LeavesOpened g old db
              made clean db leaves led =
                  let at_mid : HasCleanDisk (state g mid) = omega (arith, clean, settles.writes.crash.clean) in record {
                    history = told.history;
                    shapes = told.shapes.items;
                    said = read_says at_mid;
                    leaves = leaves;
                    ran = (mid, (sees.shows.ok at_mid).1, reads.survives.limit, (version, read_version at_mid, led));
                  }

          pub settled_opens : (x : Unit {0}) → Settles g version told.history told.shapes.items mid new (Ok x) → Opens g old new (Ok told)
          settled_opens x settles = record {
            opened = record {
              said = λ clean. read_says (omega (arith, clean, settles.writes.crash.clean));
              says = settles.writes.ok;
              stays = λ clean.
                  let it = sees.shows.ok (omega (arith, clean, settles.writes.crash.clean)) in
                  (found, there, λ whole. (version, it.0, λ third. absurd (true≢false (sym (whole_is found whole) ∙ busy third))));
              whole = settles.whole;
              ran = λ clean.
                  let at_mid : HasCleanDisk (state g mid) = omega (arith, clean, settles.writes.crash.clean) in
                  inr (mid, (sees.shows.ok at_mid).1, reads.survives.limit, (version, read_version at_mid, settles.ran clean));
              seen = seen;
              crash = settled_left settles;
            };
            unopened = tt;
            cause = tt;
          }

          pub settled_fails : (e : PublishFault) → TellsFound {X = Loaded × Version} found (state g old) (state g mid) (Ok (told, version))
              → Settles g version told.history told.shapes.items mid new (Err e) → Opens g old new (Err e)
          settled_fails e tells settles = record {
            opened = tt;
            unopened = record {
              same = λ clean up. settled_then (state g old) (state g mid) (state g new) (reads.kept (omega (arith, clean, settles.writes.crash.clean))) (settles.writes.err clean up);
              refused = λ is. absurd (failure_lawful e settles.failure is);
              seen = λ is. absurd (failure_lawful e settles.failure is);
              untouched = λ is. absurd (failure_lawful e settles.failure is);
              crash = settled_left settles;
              kind = opening_failure e settles.failure;
            };
            cause = λ clean is. or_shut (state g old).is_open (λ up. inr (found, there, inl (any, after clean is up)));
          }
            where
              after : HasCleanDisk (state g new) → e ≡ Store → IsTrue (state g old).is_open → IsUnread found (state g old) (state g new) ⊎ FailsAfterReading g found old new
              after clean is up =
                  let at_mid : HasCleanDisk (state g mid) = omega (arith, clean, settles.writes.crash.clean) in elim (tells at_mid up) [
                    | inr unread ↦ inl (unread_still found (state g old) (state g mid) (state g new) settles.writes.crash.counts unread)
                    | inl same ↦ inr (record {
                      read = mid;
                      unchanged = same;
                      limit = reads.survives.limit;
                      counts = reads.survives.counts;
                      version = version;
                      history = told.history;
                      shapes = told.shapes.items;
                      said = (sees.shows.ok at_mid).0;
                      fails = settles.cause clean same.0.is_open (ap (λ d. hides_table d.schema) same.0.now_is ∙ seen) is;
                    })
                  ]
