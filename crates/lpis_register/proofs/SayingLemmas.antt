-- From what tables show to what they say.
use Rattle.std.proofs.Common.{◌≡◌, inl, inr, Bool, List, Result, Ok, Err, IfOk, IfErr, Vec, Global, subst}
use Rattle.sqlite.specs.declared.error.Error.{Error}
use Rattle.sqlite.specs.Effect.{Database}
use Rattle.lpis_register_rows.specs.Content.{StoredText}
use Rattle.lpis_register_rows.specs.Shapes.{TextsStand, AreLive, ShapesAre}
use Rattle.lpis_register_sql.specs.Showing.{Shows, ShowsRows, ShowsTexts}
use Rattle.lpis_register_sql.specs.declared.found.Found.{Found}
use Rattle.lpis_register_sql.proofs.Shared.{stays_then}
use Rattle.lpis_register.proofs.Common.{Content, Entry, HasCleanDisk, IsFailure, PublishFault, Shape, State, TablesHave, Third, Version}
use Rattle.lpis_lineage.specs.Lineage.{last_live}
use Rattle.lpis_register.proofs.ResultLemmas.{failure_lawful}
use Rattle.lpis_register.specs.Saying.{SaysNoShapes, SaysNoTables, SaysShapes, SaysTables}
use Rattle.lpis_register.specs.declared.opening.Loaded.{Loaded}
use Rattle.lpis_register.specs.private.Finding.{IsTold, SeesFound, SeesHistory, SeesNoHistory, SeesTold}
use Rattle.lpis_register.specs.declared.fault.PublishFault.TheVariants.{Unlawful}

-- a failure shows nothing
pub nothing_seen : {X : Type 0} {Says : Database → X → Type 0} {SaysNo : Database → Type 0} (a b : State) (e : PublishFault) → IsFailure e → SeesFound Says SaysNo a b (Err e)
nothing_seen a b e failure = record { shows = record { ok = λ clean. tt }; refuses = λ clean is. absurd (failure_lawful e failure is) }

-- rows that were read say a history, or none
pub history_seen : (found : Found) (a b : State) (rows : Content) (r : Result (List Entry × Version) PublishFault) → Shows {E = Error} (ShowsRows found) a b (Ok rows)
    → IfOk r (λ it. TablesHave it.1 rows it.0) → IfErr r (λ e. e ≡ Unlawful → (version : Version) (h : List Entry) → TablesHave version rows h → ⊥)
    → SeesFound (SeesHistory found) (SeesNoHistory found) a b r
history_seen found a b rows (Ok it) shows says none = record {
  shows = record { ok = λ clean. let s = shows.ok clean in ((rows, s.0, says), s.1) };
  refuses = λ clean. tt;
}
history_seen found a b rows (Err e) shows says none = record {
  shows = record { ok = λ clean. tt };
  refuses = λ clean is. let s = shows.ok clean in ((rows, s.0, none is), s.1);
}

-- texts that were read are those of shapes, or of none
pub shapes_seen : (found : Found) (a b : State) (h : List Entry) (texts : Vec StoredText Global) (r : Result (Vec Shape Global) PublishFault)
    → Shows {E = Error} (λ db ts. ShowsTexts found db ts.items) a b (Ok texts) → IfOk r (λ shapes. ShapesAre texts.items shapes.items × AreLive (last_live h) shapes.items)
    → IfErr r (λ e. e ≡ Unlawful → TextsStand texts.items (last_live h) → ⊥)
    → SeesFound (λ db shapes. SaysShapes Third found db h shapes.items) (λ db. SaysNoShapes Third found db h) a b r
shapes_seen found a b h texts (Ok shapes) shows are none = record {
  shows = record { ok = λ clean. let s = shows.ok clean in ((texts.items, s.0, are.0, are.1), s.1) };
  refuses = λ clean. tt;
}
shapes_seen found a b h texts (Err e) shows are none = record {
  shows = record { ok = λ clean. tt };
  refuses = λ clean is. let s = shows.ok clean in ((texts.items, s.0, none is), s.1);
}

-- ---- both

-- what is said of tables that were loaded
abbrev pub SeesLoaded : Found → State → State → Result (Loaded × Version) PublishFault → Type 0
SeesLoaded found = SeesFound (λ db (it : Loaded × Version). SaysTables found db it.1 it.0.history it.0.shapes.items) (SaysNoTables found)

-- rows that say none are refused
pub rows_refused : {X : Type 0} {Says : Database → X → Type 0} (found : Found) (a b : State) (e : PublishFault) → SeesFound (SeesHistory found) (SeesNoHistory found) a b (Err e)
    → SeesFound Says (SaysNoTables found) a b (Err e)
rows_refused found a b e sees = record {
  shows = record { ok = λ clean. tt };
  refuses = λ clean is. let no = sees.refuses clean is in (record { content = no.0.0; shown = no.0.1; none = inl no.0.2 }, no.1);
}

-- whether the shapes that are kept beside a history are these, and it is this one
abbrev SeesKept : Found → Version → List Entry → List Entry → List Shape → State → State → Result Bool PublishFault → Type 0
SeesKept found version told h shapes =
    SeesFound (λ db is. (others : List Shape) × SaysShapes version found db told others × IsTold told h others shapes is) (λ db. SaysNoShapes version found db told)

module _ (found : Found) (a b c : State) (h : List Entry) (version : Version) (one : SeesFound (SeesHistory found) (SeesNoHistory found) a b (Ok (h, version)))
    (clean : HasCleanDisk c → HasCleanDisk b) where
  -- so are texts of no such shapes
  pub texts_refused : {X Y : Type 0} {Says : Database → X → Type 0} {SaysAlso : Database → Y → Type 0} (e : PublishFault) → SeesFound Says (λ db. SaysNoShapes version found db h) b c (Err e)
      → SeesFound SaysAlso (SaysNoTables found) a c (Err e)
  texts_refused e two = record {
    shows = record { ok = λ late. tt };
    refuses = λ late is.
        let rows = one.shows.ok (clean late) in
        let no = two.refuses late is in
        (record { content = rows.0.0; shown = rows.0.1; none = inr (version, h, rows.0.2, subst (λ db. SaysNoShapes version found db h) rows.1.0 no.0) }, stays_then a b c rows.1 no.1);
  }

  -- and else it is told whether both are these
  pub told_seen : (k : List Entry) (shapes : List Shape) (r : Result Bool PublishFault) → SeesKept found version h k shapes b c r → SeesTold found k shapes a c r
  told_seen k shapes (Err e) two = texts_refused e two
  told_seen k shapes (Ok is) two = record {
    shows = record {
      ok = λ late.
          let rows = one.shows.ok (clean late) in
          let kept = two.shows.ok late in
          let keeps = subst (λ db. SaysShapes version found db h kept.0.0) rows.1.0 kept.0.1 in
          ((version, h, kept.0.0, record { content = rows.0.0; shown = rows.0.1; says = rows.0.2; keeps = keeps }, kept.0.2), stays_then a b c rows.1 kept.1);
    };
    refuses = λ late. tt;
  }

  -- or both are said
  pub loaded_seen : (told : Loaded) → told.history ≡ h → SeesFound (λ db shapes. SaysShapes version found db h shapes.items) (λ db. SaysNoShapes version found db h) b c (Ok told.shapes)
      → SeesLoaded found a c (Ok (told, version))
  loaded_seen told same two = record {
    shows = record {
      ok = λ late.
          let rows = one.shows.ok (clean late) in
          let shapes = two.shows.ok late in
          let keeps = subst (λ db. SaysShapes version found db h told.shapes.items) rows.1.0 shapes.0 in (
            rw same (record { content = rows.0.0; shown = rows.0.1; says = rows.0.2; keeps = keeps }),
            stays_then a b c rows.1 shapes.1,
          );
    };
    refuses = λ late. tt;
  }
