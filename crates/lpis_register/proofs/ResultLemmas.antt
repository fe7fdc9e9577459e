-- Results, and the faults in them.
use Rattle.std.proofs.Common.{◌≡◌, ◌⊎◌, inl, inr, refl, sym, subst, Err, Ok, OnOk, Result}
use Rattle.lpis_register.specs.Faults.{IsStoreFault, IsRefused, IsOpeningFault}
use Rattle.lpis_register.specs.Holdings.{Candidate, Holdings}
use Rattle.lpis_register.specs.declared.fault.PublishFault.TheVariants.{Memory, Year, Lineage, NotKept, Exact, Store, StoreMemory, Unknown, Unlawful}
use Rattle.lpis_register.proofs.Common.{IsFailure, PublishFault}

-- a failure is no refusal
pub opening_failure : (e : PublishFault) → IsFailure e → IsOpeningFault e
opening_failure Memory f = tt
opening_failure (Year last) f = f
opening_failure (Lineage fault) f = f
opening_failure (NotKept id) f = f
opening_failure (Exact fault) f = f
opening_failure Store f = tt
opening_failure StoreMemory f = f
opening_failure Unknown f = f
opening_failure Unlawful f = tt

-- a failure is not that rows are unlawful
pub failure_lawful : (e : PublishFault) → IsFailure e → e ≡ Unlawful → ⊥
failure_lawful e f is = subst IsFailure is f

-- a fault of an opening, but for unlawful rows, is a failure
pub lawful_failure : (e : PublishFault) → IsOpeningFault e → (e ≡ Unlawful → ⊥) → IsFailure e
lawful_failure Memory k never = tt
lawful_failure (Year last) k never = k
lawful_failure (Lineage fault) k never = k
lawful_failure (NotKept id) k never = k
lawful_failure (Exact fault) k never = k
lawful_failure Store k never = tt
lawful_failure StoreMemory k never = k
lawful_failure Unknown k never = k
lawful_failure Unlawful k never = never refl

-- what failed beside the call tells nothing of the candidate
pub failure_refused : (c : Candidate) (before : Holdings) (X : Type 0) (e : PublishFault) → IsStoreFault e ⊎ ((e ≡ Memory) × X) → IsRefused c before e
failure_refused c before X e (inl (inl is)) = subst (IsRefused c before) (sym is) tt
failure_refused c before X e (inl (inr is)) = subst (IsRefused c before) (sym is) tt
failure_refused c before X e (inr is) = subst (IsRefused c before) (sym is.0) tt

-- what is known anyway is known where there is an answer
pub where_ok : {A E P : Type 0} (r : Result A E) → P → OnOk r P
where_ok (Ok _) p = p
where_ok (Err _) p = tt
