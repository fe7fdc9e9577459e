-- Spans in a history with one release more.
use Rattle.std.proofs.Common.{◌≡◌, ◌∙◌, ◌<◌, ◌≤◌, refl, sym, ap, subst, arith, ℕ, List, [], ◌∷◌, ◌++◌, length, Bool, true, false, Option, None, Some, cond, ◌&&◌, not, filter, is_some}
use Rattle.lpis_lineage.proofs.Common.{option_or, has_id, Row, Entry, Span, entry_at, holds, last_live, last_year, IsLawful, RowsFit, faults, Follows, first_held, last_held, span_between, span_of}
use Rattle.lpis_lineage.proofs.Common.{begun, ended_in}
use Rattle.lpis_lineage.specs.Accepts.{IsReleaseEntry}
use Rattle.lpis_lineage.specs.private.Keeping.{IsHistory, IsNext}
use Rattle.lpis_lineage.proofs.IdentifierLemmas.{in-history, entry-here}
use Rattle.lpis_lineage.proofs.ExtensionLemmas.{last-at, last-some, longer, year-at}
use Rattle.lpis_lineage.proofs.CleanLemmas.{follows-from-clean, held-some}
use Rattle.lpis_lineage.proofs.AcceptingLemmas.{may-follow, to-release}
use Rattle.lpis_lineage.proofs.PickingLemmas.{has-filter}
use Rattle.lpis_lineage.proofs.SpanLemmas.{first-index, last-index}

or-none : (o : Option ℕ) → option_or o None ≡ o
or-none None = refl
or-none (Some x) = refl

or-assoc : (a b c : Option ℕ) → option_or (option_or a b) c ≡ option_or a (option_or b c)
or-assoc None b c = refl
or-assoc (Some x) b c = refl

-- the first, the last and the live ones of the longer history
first-more : (h : List Entry) (e : Entry) (id : List ℕ) → first_held (h ++ e ∷ []) id ≡ option_or (first_held h id) (cond (has_id e.live id) (Some e.year) None)
first-more [] e id = refl
first-more (x ∷ h) e id = ap (λ (o : Option ℕ). cond (has_id x.live id) (Some x.year) o) (first-more h e id)
    ∙ out (has_id x.live id) (first_held h id) (cond (has_id e.live id) (Some e.year) None) where
      out : (b : Bool) (o k : Option ℕ) → cond b (Some x.year) (option_or o k) ≡ option_or (cond b (Some x.year) o) k
      out true o k = refl
      out false o k = refl

last-more : (h : List Entry) (e : Entry) (id : List ℕ) → last_held (h ++ e ∷ []) id ≡ option_or (cond (has_id e.live id) (Some e.year) None) (last_held h id)
last-more [] e id = sym (or-none (cond (has_id e.live id) (Some e.year) None))
last-more (x ∷ h) e id =
    ap (λ (o : Option ℕ). option_or o (cond (has_id x.live id) (Some x.year) None)) (last-more h e id)
    ∙ or-assoc (cond (has_id e.live id) (Some e.year) None) (last_held h id) (cond (has_id x.live id) (Some x.year) None)

-- the last identifiers of a history with one release more are that release's
pub live-more : (h : List Entry) (e : Entry) → last_live (h ++ e ∷ []) ≡ e.live
live-more h e = sym (last-at (h ++ e ∷ []) (length h) (sym (longer h e))) ∙ ap (λ (x : Entry). x.live) (entry-here h e)

-- an identifier without a first release has no last one, and one with a first has a last
pub first-none : (h : List Entry) (id : List ℕ) → first_held h id ≡ None → last_held h id ≡ None
first-none [] id e = refl
first-none (x ∷ h) id e = by (first-none h id) (has_id x.live id) refl e where
  by : (first_held h id ≡ None → last_held h id ≡ None) → (b : Bool) → b ≡ has_id x.live id
      → cond b (Some x.year) (first_held h id) ≡ None
      → option_or (last_held h id) (cond (has_id x.live id) (Some x.year) None) ≡ None
  by ih true eb n = absurd cc
  by ih false eb n = ap (λ (o : Option ℕ). option_or o (cond (has_id x.live id) (Some x.year) None)) (ih n) ∙ ap (λ (t : Bool). cond t (Some x.year) None) (sym eb)

-- an identifier with a first year has a last one
pub first-some : (h : List Entry) (id : List ℕ) → is_some (first_held h id) ≡ true → is_some (last_held h id) ≡ true
first-some h id s = by (first_held h id) refl s where
  by : (o : Option ℕ) → o ≡ first_held h id → is_some o ≡ true → is_some (last_held h id) ≡ true
  by None e s = absurd cc
  by (Some y) e s = let p = first-index h id y (sym e) in held-some h id p.0 p.1

-- the last release is the last that holds a live identifier
pub live-year : (h : List Entry) (id : List ℕ) → has_id (last_live h) id ≡ true → last_held h id ≡ Some (last_year h)
live-year h id was = by (last_held h id) refl where
  by : (o : Option ℕ) → o ≡ last_held h id → o ≡ Some (last_year h)
  by None e = absurd (let p = last-some h id was in let s = held-some h id p.0 p.2 in let n = ap is_some e in cc)
  by (Some z) e =
      let p = last-some h id was in
      let b = last-index h id z (sym e) in
      let le : p.0 ≤ b.0 = b.3 p.0 p.2 in
      let lt : b.0 < length h = in-history h b.0 id b.1 in
      let at : b.0 ≡ p.0 = (let n = p.1 in omega (arith, n, le, lt)) in
      ap Some (b.2 ∙ ap (λ (k : ℕ). (entry_at h k).year) at ∙ year-at h p.0 p.1)

some-eq : (a b : ℕ) → Some a ≡ Some b → a ≡ b
some-eq a b e = cc

calc : (f l : Option ℕ) (was is : Bool) (y last : ℕ)
    → (f ≡ None → l ≡ None) → (f ≡ None → was ≡ false) → (is_some f ≡ true → is_some l ≡ true) → (is ≡ true → is_some f ≡ true → was ≡ true) → (was ≡ true → l ≡ Some last)
    → ended_in (was && not is) last (begun (is && not (is_some (span_between f l was))) y (span_between f l was))
    ≡ span_between (option_or f (cond is (Some y) None)) (option_or (cond is (Some y) None) l) is
calc None l true is y last none gone some used at = absurd (let g = gone refl in cc)
calc None l false false y last none gone some used at = refl
calc (Some f) None was is y last none gone some used at = absurd (let s = some refl in cc)
calc (Some f) (Some l) false true y last none gone some used at = absurd (let u = used refl refl in cc)
calc (Some f) (Some l) true false y last none gone some used at = ap (λ (n : ℕ). Some (record { first = f; last = n })) (sym (some-eq l last (at refl)))
calc _ _ _ _ _ _ _ _ _ _ _ = refl

-- spans after a release that follows: begun where an identifier is new, ended where it is dropped
pub span-more : (h : List Entry) (e : Entry) (id : List ℕ) → Follows h e.live e.rows
    → ended_in (has_id (last_live h) id && not (has_id e.live id)) (last_year h) (begun (has_id e.live id && not (is_some (span_of h id))) e.year (span_of h id)) ≡ span_of (h ++ e ∷ []) id
span-more h e id follows =
    calc (first_held h id) (last_held h id) (has_id (last_live h) id) (has_id e.live id) e.year (last_year h)
    (first-none h id) (λ n. dead n (has_id (last_live h) id) refl) (first-some h id) used (live-year h id)
    ∙ ap (λ (o : Option ℕ). span_between o (option_or (cond (has_id e.live id) (Some e.year) None) (last_held h id)) (has_id e.live id)) (sym (first-more h e id))
    ∙ ap (λ (o : Option ℕ). span_between (first_held (h ++ e ∷ []) id) o (has_id e.live id)) (sym (last-more h e id))
    ∙ ap (λ (l : List (List ℕ)). span_between (first_held (h ++ e ∷ []) id) (last_held (h ++ e ∷ []) id) (has_id l id)) (sym (live-more h e)) where
      dead : first_held h id ≡ None → (b : Bool) → b ≡ has_id (last_live h) id → b ≡ false
      dead n true e = absurd (let y = live-year h id (sym e) in let z = first-none h id n in cc)
      dead n false e = refl

      used : has_id e.live id ≡ true → is_some (first_held h id) ≡ true → has_id (last_live h) id ≡ true
      used here s = by (first_held h id) refl s where
        by : (o : Option ℕ) → o ≡ first_held h id → is_some o ≡ true → has_id (last_live h) id ≡ true
        by None e s = absurd cc
        by (Some y) e s = let p = first-index h id y (sym e) in follows.not_used id p.0 p.1 here

-- the same history
pub history-same : (h new : List Entry) (old spans : List ℕ → Option Span) → IsHistory h old → new ≡ h → ((q : List ℕ) → spans q ≡ old q) → IsHistory new spans
history-same h new old spans keeps n s = record {
  lawful = subst IsLawful (sym n) keeps.lawful;
  fits = subst RowsFit (sym n) keeps.fits;
  spans_are = λ q. s q ∙ keeps.spans_are q ∙ ap (λ (l : List Entry). span_of l q) (sym n);
}

-- a history with a release more that has no fault
pub history-more : (h new : List Entry) (e : Entry) (live : List (List ℕ)) (rows : List Row) (year : ℕ) (fresh gone : List (List ℕ)) (old mid more spans : List ℕ → Option Span)
    → IsHistory h old → IsNext h live rows gone fresh → IsReleaseEntry live rows e → e.year ≡ year → last_year h < year → new ≡ h ++ e ∷ []
    → ((q : List ℕ) → mid q ≡ old q) → ((q : List ℕ) → more q ≡ begun (has_id fresh q) year (mid q)) → ((q : List ℕ) → spans q ≡ ended_in (has_id gone q) (last_year h) (more q)) → IsHistory new spans
history-more h new e live rows year fresh gone old mid more spans keeps next is at later n reserved begins ends =
    let later-year : last_year h < e.year = omega arith in
    let follows : Follows h e.live e.rows = to-release h live rows e is (follows-from-clean h live rows next.faultless) in
    let both = may-follow h live rows keeps.lawful keeps.fits next.faultless e is later-year in
    record {
      lawful = subst IsLawful (sym n) both.0;
      fits = subst RowsFit (sym n) both.1;
      spans_are = λ q.
          ends q ∙ ap (λ (o : Option Span). ended_in (has_id gone q) (last_year h) o) (begins q ∙ ap (λ (o : Option Span). begun (has_id fresh q) year o) (reserved q ∙ keeps.spans_are q))
          ∙ ap (λ (b : Bool). ended_in b (last_year h) (begun (has_id fresh q) year (span_of h q))) (next.gone_are q)
          ∙ ap (λ (b : Bool). ended_in (has_id (last_live h) q && not (has_id live q)) (last_year h) (begun b year (span_of h q))) (next.fresh_are q)
          ∙ ap (λ (b : Bool). ended_in (has_id (last_live h) q && not b) (last_year h) (begun (b && not (is_some (span_of h q))) year (span_of h q))) (sym (is.ids q))
          ∙ ap (λ (y : ℕ). ended_in (has_id (last_live h) q && not (has_id e.live q)) (last_year h) (begun (has_id e.live q && not (is_some (span_of h q))) y (span_of h q))) (sym at)
          ∙ span-more h e q follows ∙ ap (λ (l : List Entry). span_of l q) (sym n);
    }

-- the last year of an identifier that is not live
pub unlive-some : (h : List Entry) (id : List ℕ) (s : Span) → has_id (last_live h) id ≡ false → span_of h id ≡ Some s → Some s.last ≡ last_held h id
unlive-some h id s dead e = by (first_held h id) refl (last_held h id) refl (ap (λ (b : Bool). span_between (first_held h id) (last_held h id) b) (sym dead) ∙ e) where
  by : (f : Option ℕ) → f ≡ first_held h id → (l : Option ℕ) → l ≡ last_held h id → span_between f l false ≡ Some s → Some s.last ≡ l
  by None ef l el e = absurd cc
  by (Some f) ef None el e = absurd cc
  by (Some f) ef (Some l) el e = ap (λ (o : Option Span). last-of o) (sym e) where
    last-of : Option Span → Option ℕ
    last-of None = None
    last-of (Some t) = Some t.last

-- an identifier without a span has no last year
pub unlive-none : (h : List Entry) (id : List ℕ) → span_of h id ≡ None → None ≡ last_held h id
unlive-none h id e = by (first_held h id) refl (last_held h id) refl e where
  by : (f : Option ℕ) → f ≡ first_held h id → (l : Option ℕ) → l ≡ last_held h id → span_between f l (has_id (last_live h) id) ≡ None → None ≡ l
  by None ef l el e = sym (el ∙ first-none h id (sym ef))
  by (Some f) ef None el e = refl
  by (Some f) ef (Some l) el e = absurd cc

-- a span, and the releases that hold its identifier
pub none-held : (h : List Entry) (id : List ℕ) → span_of h id ≡ None → (i : ℕ) → holds h i id ≡ false
none-held h id none i = by (holds h i id) refl where
  by : (b : Bool) → b ≡ holds h i id → b ≡ false
  by true e = absurd (let s = held-some h id i (sym e) in let l = unlive-none h id none in cc)
  by false e = refl

-- some release holds an identifier that has a span
pub some-held : (h : List Entry) (id : List ℕ) (s : Span) → span_of h id ≡ Some s → (i : ℕ) × (holds h i id ≡ true)
some-held h id s e = by (first_held h id) refl (last_held h id) refl e where
  by : (f : Option ℕ) → f ≡ first_held h id → (l : Option ℕ) → l ≡ last_held h id → span_between f l (has_id (last_live h) id) ≡ Some s → (i : ℕ) × (holds h i id ≡ true)
  by None ef l el e = absurd cc
  by (Some y) ef l el e = let p = first-index h id y (sym ef) in (p.0, p.1)
