-- What a reader has given where its input is not taken whole.
use Rattle.std.proofs.Common.{◌≡◌, ◌+◌, ◌-◌, ◌≤◌, ◌<◌, ◌++◌, refl, arith, ℕ, List, Option, length, take}
use Rattle.std.proofs.KnownBytes.{Consumes-trans}
use Rattle.std.proofs.lemmas.List.{length-append, length-take-le}
use Rattle.std.specs.Io.KnownBytes.{Consumes}
use Rattle.lpis_run.specs.declared.reading.ReadFault.TheVariants.{Memory, TooLong}

-- how long what was given is, after a read more
length-given : (bytes buf : List ℕ) (n : ℕ) → n ≤ length buf → length (bytes ++ take n buf) ≡ length bytes + n
length-given bytes buf n fits = rw (length-append bytes (take n buf), length-take-le n buf fits) refl

-- the last read brought more than there is room for
pub given_over : (start now next : Option (List ℕ)) (bytes buf : List ℕ) (n limit : ℕ)
    → Consumes start now bytes → Consumes now next (take n buf) → n ≤ length buf
    → length bytes ≤ limit → limit - length bytes < n
    → (x : List ℕ) × Consumes start next x × ((TooLong ≡ TooLong → limit < length x) × (limit < length x → TooLong ≡ TooLong))
given_over start now next bytes buf n limit h k fits within over =
    let long : limit < length bytes + n = omega arith in
    (bytes ++ take n buf, Consumes-trans start now next bytes (take n buf) h k, ((λ _. rw (length-given bytes buf n fits) long), (λ _. refl)))

-- there was room for what the last read brought, and no memory
pub given_within : (start now next : Option (List ℕ)) (bytes buf : List ℕ) (n limit : ℕ)
    → Consumes start now bytes → Consumes now next (take n buf) → n ≤ length buf
    → length bytes ≤ limit → n ≤ limit - length bytes
    → (x : List ℕ) × Consumes start next x × ((Memory ≡ TooLong → limit < length x) × (limit < length x → Memory ≡ TooLong))
given_within start now next bytes buf n limit h k fits within room = (
  bytes ++ take n buf,
  Consumes-trans start now next bytes (take n buf) h k,
  ((λ e. cc e), (λ over. let long : limit < length bytes + n = (rw (length-given bytes buf n fits) at over) in absurd (omega arith))),
)
