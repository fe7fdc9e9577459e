-- What the files before the regions say, or the answer to the first of them that has a fault.
use Rattle.std.proofs.Common.{◌≡◌, ◌∙◌, refl, sym, ap, ap₂, subst, inl, inr, IfErr, IfOk, ℕ, List, Option, None, Some, Result, Ok, Err, Vec}
use Rattle.std.specs.Option.{option_map}
use Rattle.std.specs.declared.alloc.Global.{Global}
use Rattle.lpis_points.specs.declared.boxes.Box4.{Box4}
use Rattle.lpis_tables.specs.Classes.{classes_table}
use Rattle.lpis_tables.specs.Faults.{rows_of}
use Rattle.lpis_tables.specs.declared.class.Class.{Class}
use Rattle.lpis_tables.specs.declared.fault.TableFault.{TableFault}
use Rattle.lpis_cert.specs.Contents.{IsCertText}
use Rattle.lpis_cert.specs.Faults.{verdict}
use Rattle.lpis_cert.specs.declared.cert.Cert.{Cert}
use Rattle.lpis_cert.specs.declared.part.ExactBlock.{ExactBlock}
use Rattle.lpis_run.specs.CheckAnswer.{Answer, IsCertAnswer, IsTableAnswer}
use Rattle.lpis_run.specs.Stops.{IsRefusedAs}
use Rattle.lpis_run.specs.declared.stop.Stop.{Stop}
use Rattle.lpis_run.proofs.Shared.{answer-of-text, cert-more, refused-more, table-more}
use Rattle.lpis_country.specs.Tree.{folders}
use Rattle.lpis_run_country.specs.Beginning.{BegunParts, IsBegun, IsUnbegun}
use Rattle.lpis_run.specs.declared.failure.Failure.{Failure}
use Rattle.lpis_run_publish_country.specs.CountryLineage.{AreTablesOf}
use Rattle.lpis_run_publish_country.specs.PublishCountryAnswer.{AreBlocksOf, CountryFiles, IsExactTextAnswer, IsRefusedBefore, PublishCountryInputs}
use Rattle.lpis_run_publish_country.specs.PublishCountryRuns.{StopsAtLineage}
use Rattle.lpis_run_publish_country.specs.declared.inputs.Prepared.{Prepared}
use Rattle.lpis_run_publish_country.specs.declared.unprepared.Unprepared.{Unprepared}
use Rattle.lpis_run_publish_country.specs.declared.unprepared.Unprepared.TheVariants.{Failed, Refused}
use Rattle.lpis_run_publish_country.specs.private.Preparing.{AreRowsOf, AreTablesRefused, AreTablesUnread, IsPrepared}
use Rattle.lpis_run_publish_country.specs.private.Unprepared.{IsUnprepared}

-- ---- the certificate
-- the answer to a certificate with a fault is one whatever follows
blocks-refused : (IsNext : List ExactBlock → Answer → Type 0) (exact : Option (List ℕ)) (a : Answer) → IsExactTextAnswer (λ blocks b. ⊥) exact a → IsExactTextAnswer IsNext exact a
blocks-refused IsNext None a never = absurd never
blocks-refused IsNext (Some text) a is = cert-more (λ c b. ⊥) (λ c. IsNext c.exact) text (verdict text) a (λ c never. absurd never) is

-- the answer to what follows a certificate without a fault
pub blocks_passed : (IsNext : List ExactBlock → Answer → Type 0) (exact : Option (List ℕ)) (blocks : List ExactBlock) (a : Answer) → AreBlocksOf exact blocks → IsNext blocks a
    → IsExactTextAnswer IsNext exact a
blocks_passed IsNext None blocks a is next = subst (λ (l : List ExactBlock). IsNext l a) is next
blocks_passed IsNext (Some text) blocks a (c, spelt, is) next = answer-of-text (λ k. IsNext k.exact) text c a spelt (subst (λ (l : List ExactBlock). IsNext l a) is next)

-- the blocks of a text that was read
pub blocks_read : (exact : Option (Vec ℕ Global)) (text : Vec ℕ Global) (r : Result Cert Stop) → exact ≡ Some text → IfOk r (IsCertText text.items)
    → IfOk r (λ c. AreBlocksOf (option_map (λ v. v.items) exact) c.exact)
blocks_read exact text (Ok c) is spelt = subst (λ (o : Option (Vec ℕ Global)). AreBlocksOf (option_map (λ v. v.items) o) c.exact) (sym is) (c, spelt, refl)
blocks_read exact text (Err stop) is spelt = tt

-- the line of its first fault
pub text_refused : (exact : Option (Vec ℕ Global)) (text : Vec ℕ Global) (r : Result Cert Stop) → exact ≡ Some text
    → IfErr r (IsRefusedAs (IsCertAnswer (λ c a. ⊥) text.items (verdict text.items))) → IfErr r (IsRefusedAs (IsExactTextAnswer (λ blocks a. ⊥) (option_map (λ v. v.items) exact)))
text_refused exact text r is refused =
    subst (λ (o : Option (Vec ℕ Global)). IfErr r (IsRefusedAs (IsExactTextAnswer (λ blocks a. ⊥) (option_map (λ v. v.items) o)))) (sym is) refused

-- ---- before the regions
-- the plan or the classes have a fault
unbegun-refused : (given : CountryFiles) (x : PublishCountryInputs) (a : Answer) → IsUnbegun x.country a → IsRefusedBefore given x a
unbegun-refused given x a (inl fault) = inl fault
unbegun-refused given x a (inr (plan, planned, fault)) = inr (
  plan,
  planned,
  table-more (λ classes b. ⊥) (λ classes. IsExactTextAnswer (λ blocks. AreTablesRefused given.lineages (folders plan)) x.exact) (rows_of classes_table x.country.classes) a
      (λ classes never. absurd never) fault,
)

-- so it is of a step that stops
pub unbegun_stop : (given : CountryFiles) (x : PublishCountryInputs) (stop : Stop) → IsRefusedAs (IsUnbegun x.country) stop → IsRefusedAs (IsRefusedBefore given x) stop
unbegun_stop given x stop is = refused-more (IsUnbegun x.country) (IsRefusedBefore given x) stop (unbegun-refused given x) is

-- they have none, and what follows them is refused
begun-refused : (given : CountryFiles) (x : PublishCountryInputs) (b : BegunParts) (begun : IsBegun x.country b) (a : Answer)
    → IsExactTextAnswer (λ blocks. AreTablesRefused given.lineages (folders begun.plan)) x.exact a → IsRefusedBefore given x a
begun-refused given x b begun a h = inr (
  begun.plan,
  begun.text,
  subst (λ (said : Result (List Class) TableFault). IsTableAnswer (λ classes. IsExactTextAnswer (λ blocks. AreTablesRefused given.lineages (folders begun.plan)) x.exact) said a) (sym begun.table) h,
)

-- the certificate has one
pub cert_stop : (given : CountryFiles) (x : PublishCountryInputs) (b : BegunParts) (stop : Stop) → IsBegun x.country b → IsRefusedAs (IsExactTextAnswer (λ blocks a. ⊥) x.exact) stop
    → IsRefusedAs (IsRefusedBefore given x) stop
cert_stop given x b stop begun is = refused-more (IsExactTextAnswer (λ blocks a. ⊥) x.exact) (IsRefusedBefore given x) stop
    (λ a h. begun-refused given x b begun a (blocks-refused (λ blocks. AreTablesRefused given.lineages (folders begun.plan)) x.exact a h)) is

-- a lineage table has one
tables-refused : (given : CountryFiles) (x : PublishCountryInputs) (told : List ℕ → Option (List ℕ)) (b : BegunParts) (blocks : List ExactBlock) (a : Answer)
    → given.lineages ≡ told → IsBegun x.country b → AreBlocksOf x.exact blocks → AreTablesRefused told (b.names) a → IsRefusedBefore given x a
tables-refused given x told b blocks a same begun of h = begun-refused given x b begun a
    (blocks_passed (λ blocks. AreTablesRefused given.lineages (folders begun.plan)) x.exact blocks a of
    (subst (λ (l : List (List ℕ)). AreTablesRefused given.lineages l a) begun.names_are
    (subst (λ (t : List ℕ → Option (List ℕ)). AreTablesRefused t (b.names) a) (sym same) h)))

-- or was not read
tables-unread : (given : CountryFiles) (x : PublishCountryInputs) (told : List ℕ → Option (List ℕ)) (b : BegunParts) (blocks : List ExactBlock) (f : Failure)
    → given.lineages ≡ told → IsBegun x.country b → AreBlocksOf x.exact blocks → AreTablesUnread told (b.names) f → StopsAtLineage given x f
tables-unread given x told b blocks f same begun of h = inr (
  begun.plan,
  b.classes,
  begun.text,
  begun.table,
  (
    blocks,
    of,
    subst (λ (l : List (List ℕ)). AreTablesUnread given.lineages l f) begun.names_are
        (subst (λ (t : List ℕ → Option (List ℕ)). AreTablesUnread t (b.names) f) (sym same) h),
  ),
)

-- so it is of tables that give no rows
pub tables_unprepared : (given : CountryFiles) (x : PublishCountryInputs) (told : List ℕ → Option (List ℕ)) (b : BegunParts) (blocks : List ExactBlock) (e : Unprepared)
    → given.lineages ≡ told → IsBegun x.country b → AreBlocksOf x.exact blocks
    → IsUnprepared (AreTablesUnread told (b.names)) (AreTablesRefused told (b.names)) e
    → IsUnprepared (StopsAtLineage given x) (IsRefusedBefore given x) e
tables_unprepared given x told b blocks (Failed f) same begun of h = tables-unread given x told b blocks f same begun of h
tables_unprepared given x told b blocks (Refused a) same begun of h = tables-refused given x told b blocks (a.text.items, a.status) same begun of h

-- ---- no fault
abbrev parts-of : List (List ℕ) → List Box4 → List Class → BegunParts
parts-of names tiles classes = record { names = names; tiles = tiles; classes = classes }

-- three lists that are those of before are what was begun
pub handed_back : (a b : BegunParts) → a.names ≡ b.names → a.tiles ≡ b.tiles → a.classes ≡ b.classes → a ≡ b
handed_back a b names tiles classes = ap₂ (λ (n : List (List ℕ)) (t : List Box4). parts-of n t a.classes) names tiles ∙ ap (parts-of b.names b.tiles) classes

-- all of them were read, and have no fault
pub prepared : (given : CountryFiles) (x : PublishCountryInputs) (told : List ℕ → Option (List ℕ)) (b : BegunParts) (p : Prepared) → given.lineages ≡ told → IsBegun x.country b
    → AreBlocksOf x.exact p.cert.exact → AreRowsOf told b.names p.lineage → p.begun ≡ b → IsPrepared given x p
prepared given x told b p same begun of (tables, are, has) is =
    let still : IsBegun x.country p.begun = subst (IsBegun x.country) (sym is) begun in
    record {
      begun = still;
      tables = tables;
      said = record {
        planned = still.text;
        table = still.table;
        of_exact = of;
        of_lineages = subst (λ (l : List (List ℕ)). AreTablesOf given.lineages l tables) (ap (λ (k : BegunParts). k.names) (sym is) ∙ still.names_are)
            (subst (λ (t : List ℕ → Option (List ℕ)). AreTablesOf t b.names tables) (sym same) are);
      };
      has = has;
    }
