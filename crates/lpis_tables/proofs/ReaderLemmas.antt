-- What a read does to the records that a reader has left.
use Rattle.std.proofs.Common.{◌≡◌, ◌≢◌, ℕ, List, [], ◌∷◌, length, Option, Some, None, true, false, refl, sym, ap, ◌∙◌, Bor, IfSome}
use Rattle.lpis_tables.proofs.Common.{default_config}
use Rattle.csv.specs.Machine.{ends_at_end}
use Rattle.csv.specs.Reading.{ReadRecord, Ready, TookRecord, expected_len, is_flexible, pending_of, reader_state}
use Rattle.csv.specs.declared.parser.State.{State}
use Rattle.lpis_tables.specs.private.Left.{BytesReader, IsBetween, bytes_left, records_at, records_left, Steps}
use Rattle.csv.proofs.ReadFacts.{rows-end}
use Rattle.lpis_tables.proofs.RecordLemmas.{left-none, left-some, shrinks, took_next_record}
use Rattle.lpis_tables.specs.declared.records.Step.TheVariants as step

abbrev slice-rem : Bor (List ℕ) → Option (List ℕ)
slice-rem s = Some s.now

-- what is left of a reader whose bytes are known
left-is : (a : BytesReader) (h : IsBetween a) → records_left a ≡ records_at (reader_state a) (Some h.text)
left-is a h = ap (λ (k : Option (List ℕ)). records_at (reader_state a) k) h.left

-- where a read finds no record, the reader had none left
pub read-ended : (a b : BytesReader) (f : List (List ℕ)) → IsBetween a → ReadRecord slice-rem a b false f → records_left a ≡ []
read-ended a b f h r = left-is a h ∙ left-none (reader_state a) h.text (rows-end slice-rem a b f default_config h.text h.config h.left r)

-- the first record left is the one that a read took
read-took : (a b : BytesReader) (f : List (List ℕ)) → IsBetween a → TookRecord slice-rem a b f
    → (rest : List ℕ) × (records_left a ≡ f ∷ records_at (reader_state b) (Some rest)) × (pending_of (slice-rem b.rdr) b ≡ Some rest) × (ends_at_end (reader_state b) ≡ false)
read-took a b f h r =
    let t = took_next_record a.state b.state h.text (pending_of (slice-rem b.rdr) b) f (rw (h.config, h.left) at r) in
    let between = (shrinks default_config a.state h.text t.0 h.between t.1).1 in
    let first = ap (λ (g : List (List ℕ)). g ∷ records_at t.0.1 (Some t.0.2)) (sym t.2) in
    let next = ap (λ (s : State). f ∷ records_at s (Some t.0.2)) (sym t.3) in
    (t.0.2, left-is a h ∙ left-some a.state h.text t.0 h.between t.1 ∙ first ∙ next, t.4, ap ends_at_end t.3 ∙ between)

settled : (b : BytesReader) (rest : List ℕ) → b.bom_checked ≡ true → pending_of (slice-rem b.rdr) b ≡ Some rest → bytes_left b ≡ Some rest
settled b rest e h = rw e h

-- a read that finds a record takes the first that is left, of the length expected, and stands between two records
pub read-found : (a b : BytesReader) (f : List (List ℕ)) → IsBetween a → ReadRecord slice-rem a b true f → is_flexible b ≡ is_flexible a → Ready b
    → Steps a b step.Record f
read-found a b f h r flex ready =
    let (rest, left, pending, between) = read-took a b f h r.0 in
    let source = settled b rest r.1 pending in
    let lengths = r.5 refl h.strict in (
      record { trim = r.3 ∙ h.trim; ready = ready; config = r.2 ∙ h.config; strict = flex ∙ h.strict; between = between; text = rest; left = source },
      left ∙ ap (λ (k : Option (List ℕ)). f ∷ records_at (reader_state b) k) (sym source),
      lengths.1,
      same (expected_len a) lengths,
    )
  where
    same : (e : Option ℕ) → IfSome e (λ n. b.expected ≡ Some n) × (b.expected ≡ Some (length f)) → IfSome e (λ n. length f ≡ n)
    same None l = tt
    same (Some n) l = let q : Some (length f) ≡ Some n = sym l.1 ∙ l.0 in cc q

-- where a read takes a record of another length than expected, the first record that was left has another length
pub read-uneven : (a b : BytesReader) (f : List (List ℕ)) (n m : ℕ) → IsBetween a → expected_len a ≡ Some n → n ≢ m → TookRecord slice-rem a b f → length f ≡ m
    → (odd : List (List ℕ)) × (more : List (List (List ℕ))) × (records_left a ≡ odd ∷ more) × (k : ℕ) × (expected_len a ≡ Some k) × (length odd ≢ k)
read-uneven a b f n m h expected differs r len =
    let t = read-took a b f h r in
    (f, records_at (reader_state b) (Some t.0), t.1, n, expected, λ e. differs (sym e ∙ len))
