-- What a release that may follow needs, and why one is refused.
use Rattle.std.proofs.Common.{◌≢◌, ◌≡◌, ◌∙◌, ◌<◌, ◌⊎◌, inl, inr, ℕ, List, Some, refl, sym, subst, IsPermutation}
use Rattle.lpis_lineage.specs.declared.row.Row.{Row}
use Rattle.lpis_cert.specs.declared.part.ExactBlock.{ExactBlock}
use Rattle.lpis_lineage_exact.specs.declared.asking.AskFault.{AskFault}
use Rattle.lpis_lineage_exact.specs.declared.asking.AskFault.TheVariants as ask
use Rattle.lpis_lineage_exact.specs.Asking.{IsShown, IsUnkept, ShownIsExact, kinds_from}
use Rattle.lpis_lineage_exact.specs.ExactLineage.{IsExactLineage}
use Rattle.lpis_lineage_exact.specs.Shapes.{SoundMapsTurnOnce, shape_named, shapes_in}
use Rattle.lpis_lineage.specs.declared.fault.LineageFault.{LineageFault}
use Rattle.lpis_lineage.specs.declared.fault.LineageFault.TheVariants as lineage
use Rattle.lpis_lineage.specs.Faults.{faults, first}
use Rattle.lpis_lineage.specs.Lineage.{last_year}
use Rattle.lpis_lineage.specs.Steps.{IsStep}
use Rattle.lpis_release.specs.declared.parcel.Parcel.{Parcel}
use Rattle.lpis_release.specs.Release.{parcel_ids}
use Rattle.lpis_register.specs.Accepting.{AreKept, IsAccepted, IsPrepared}
use Rattle.lpis_register.specs.Faults.{IsRefused}
use Rattle.lpis_register.specs.Holdings.{Candidate, Holdings, candidate, candidate_ids}
use Rattle.lpis_register.specs.declared.accepting.Accepted.{Accepted}
use Rattle.lpis_register.specs.declared.fault.PublishFault.TheVariants.{Memory, Lineage, Store, StoreMemory}
use Rattle.lpis_register.specs.Passing.{of_asking, of_lineage}
use Rattle.lpis_register.specs.Answering.{AreOfSoundMap}

-- ---- a fault of a call, as the register tells it

lineage_told : (fault : LineageFault) → (of_lineage fault ≡ Memory) ⊎ (of_lineage fault ≡ Lineage fault)
lineage_told lineage.Memory = inl refl
lineage_told (lineage.OfRow code row) = inr refl
lineage_told (lineage.NoRow id) = inr refl
lineage_told (lineage.UsedBefore id year) = inr refl

-- no fault of a lineage is reported as a failure of the store
pub no_store_lineage : (fault : LineageFault) → (of_lineage fault ≢ Store) × (of_lineage fault ≢ StoreMemory)
no_store_lineage fault = elim (lineage_told fault) [
  | inl memory ↦ (λ is. cc (memory, is), λ is. cc (memory, is))
  | inr told ↦ (λ is. cc (told, is), λ is. cc (told, is))
]

-- no fault of what exact groups ask for is reported as a failure of the store
pub no_store_asking : (fault : AskFault) → (of_asking fault ≢ Store) × (of_asking fault ≢ StoreMemory)
no_store_asking ask.Memory = (λ is. cc is, λ is. cc is)
no_store_asking (ask.NotKept id) = (λ is. cc is, λ is. cc is)

module _ (c : Candidate) (before : Holdings) (later : last_year before.history < c.year) where
  pub refused_lineage : (live : List (List ℕ)) (fault : LineageFault) → live ≡ candidate_ids c → (fault ≡ lineage.Memory) ⊎ (first (faults before.history live c.rows) ≡ Some fault)
      → IsRefused c before (of_lineage fault)
  refused_lineage live fault same (inl is) = subst (λ f. IsRefused c before (of_lineage f)) (sym is) tt
  refused_lineage live fault same (inr is) = elim (lineage_told fault) [
    | inl memory ↦ subst (IsRefused c before) (sym memory) tt
    | inr told ↦ subst (IsRefused c before) (sym told) (later, subst (λ l. first (faults before.history l c.rows) ≡ Some fault) same is)
  ]

  pub refused_asking : (fault : AskFault) → ((id : List ℕ) → fault ≡ ask.NotKept id → IsUnkept before.history before.shapes c.parcels c.rows id) → IsRefused c before (of_asking fault)
  refused_asking ask.Memory unkept = tt
  refused_asking (ask.NotKept id) unkept = (later, unkept id refl)

-- with a step to parcels of a sound map, and their shapes, which are shown their exact groups, they are accepted
module _ (before : Holdings) (parcels : List Parcel) (blocks : List ExactBlock) (rows : List Row) (a : Accepted) (later : last_year before.history < a.writing.year)
    (step : IsStep before.history (parcel_ids parcels) rows a.live a.writing.change a.writing.fresh.items) (kept : AreKept parcels a.writing.shapes.items) where
  prepared : IsPrepared (candidate a.writing.year parcels blocks rows) before.history a
  prepared = record { later = later; year_is = refl; step_is = step; kept_are = kept }

  pub accepted_made : ShownIsExact → SoundMapsTurnOnce → AreOfSoundMap parcels → IsShown before.history before.shapes parcels blocks rows
      → IsAccepted (candidate a.writing.year parcels blocks rows) before a
  accepted_made law turns sound shown = record {
    prepared = prepared;
    shown = shown;
    exact = subst (λ ps. IsExactLineage (kinds_from before.history ps rows) rows (shape_named before.shapes) (shape_named (shapes_in ps))) sound.are
        (law before.history before.shapes sound.map blocks rows sound.sound (subst (λ ps. IsShown before.history before.shapes ps blocks rows) (sym sound.are) shown));
    once = turns sound.map a.writing.shapes.items sound.sound (subst (λ ps. IsPermutation (shapes_in ps) a.writing.shapes.items) (sym sound.are) kept.shapes_are.same);
  }
