-- How a read of a record takes the first of the records that are left.
use Rattle.std.proofs.Common.{◌≡◌, ◌≤◌, ◌<◌, ◌+◌, ℕ, List, [], ◌∷◌, length, Option, Some, None, true, false, refl, ap, arith, Bool, suc, add-one, ◌==◌, ◌&&◌, if◌then◌else◌}
use Rattle.lpis_tables.proofs.Common.{default_config}
use Rattle.csv.specs.Machine.{Read, after_end, carriage_return, ends_at_end, ends_with, field_after, fields_after, in_field, is_byte, is_end, line_feed, next_record, start_field, start_record, step}
use Rattle.csv.specs.Reading.{NextIs, ReadsNext, records_from, records_next}
use Rattle.csv.specs.declared.parser.Config.{Config}
use Rattle.csv.specs.declared.parser.State.{State}
use Rattle.csv.specs.declared.parser.Action.{Action}
use Rattle.csv.specs.declared.parser.Terminator.{Terminator}
use Rattle.lpis_tables.specs.private.Left.{records_at}
use Rattle.csv.specs.declared.parser.Terminator.TheVariants as term
use Rattle.csv.specs.declared.parser.State.TheVariants as st

-- a step that ends a record goes to a state in which the end of the text ends none
abbrev pub Good : State × Action → Type 0
Good p = is_end p.1 ≡ true → ends_at_end p.0 ≡ false

good-if : (a : Bool) (p q : State × Action) → Good p → Good q → Good (if a then p else q)
good-if true p q f g = f
good-if false p q f g = g

good-after : (a : Bool) → ends_at_end (if a then st.AfterCr else st.StartRecord) ≡ false
good-after true = refl
good-after false = refl

good-end : (t : Terminator) (c : ℕ) → ends_at_end (after_end t c) ≡ false
good-end term.CRLF c = good-after (c == carriage_return)
good-end (term.Any t) c = refl

good-in_field : (cfg : Config) (c : ℕ) → Good (in_field cfg c)
good-in_field cfg c =
    good-if (c == cfg.delimiter) _ _ (λ h. cc h) (good-if (ends_with cfg.terminator c) _ _ (λ h. good-end cfg.terminator c) (λ h. cc h))

good-start_field : (cfg : Config) (c : ℕ) → Good (start_field cfg c)
good-start_field cfg c = good-if (cfg.quoting && (c == cfg.quote)) _ _ (λ h. cc h) (good-in_field cfg c)

good-start_record : (cfg : Config) (c : ℕ) → Good (start_record cfg c)
good-start_record cfg c =
    good-if (ends_with cfg.terminator c) _ _ (λ h. cc h) (good-if (is_byte cfg.comment c) _ _ (λ h. cc h) (good-start_field cfg c))

good-step : (cfg : Config) (s : State) (c : ℕ) → Good (step cfg s c)
good-step cfg st.StartRecord c = good-start_record cfg c
good-step cfg st.StartField c = good-start_field cfg c
good-step cfg st.InField c = good-in_field cfg c
good-step cfg st.InQuoted c =
    good-if (cfg.quoting && (c == cfg.quote)) _ _ (λ h. cc h) (good-if (cfg.quoting && is_byte cfg.escape c) _ _ (λ h. cc h) (λ h. cc h))
good-step cfg st.InEscape c = λ h. cc h
good-step cfg st.AfterQuote c = good-if (cfg.quoting && cfg.double_quote && (c == cfg.quote)) _ _ (λ h. cc h) (good-in_field cfg c)
good-step cfg st.InComment c = good-if (c == line_feed) _ _ (λ h. cc h) (λ h. cc h)
good-step cfg st.AfterCr c = good-if (c == line_feed) _ _ (λ h. cc h) (good-start_record cfg c)

-- a read leaves no more than the text, between two records
abbrev Leaves : List ℕ → Read → Type 0
Leaves xs p = (length p.2 ≤ length xs) × (ends_at_end p.1 ≡ false)

leaves-at-end : (b : Bool) (q p : Read) → Leaves [] q → (if b then Some q else None) ≡ Some p → Leaves [] p
leaves-at-end true q p h e = let same : q ≡ p = cc e in rw (← same) h
leaves-at-end false q p h e = cc e

leaves : (cfg : Config) (s : State) (fields : List (List ℕ)) (field xs : List ℕ) (p : Read) → next_record cfg s fields field xs ≡ Some p → Leaves xs p
unfolding next_record
leaves cfg s fields field [] p e = leaves-at-end (ends_at_end s) _ p (omega arith, refl) e
leaves cfg s fields field (c ∷ rest) p e = by (is_end (step cfg s c).1) refl (leaves cfg (step cfg s c).0 (fields_after (step cfg s c).1 fields field) (field_after (step cfg s c).1 c field) rest p)
  where
    by : (b : Bool) → is_end (step cfg s c).1 ≡ b
        → (next_record cfg (step cfg s c).0 (fields_after (step cfg s c).1 fields field) (field_after (step cfg s c).1 c field) rest ≡ Some p → Leaves rest p)
        → Leaves (c ∷ rest) p
    by true t more =
        let q : Some (fields_after (step cfg s c).1 fields field, (step cfg s c).0, rest) ≡ Some p = rw t at e in
        let same : (fields_after (step cfg s c).1 fields field, (step cfg s c).0, rest) ≡ p = cc q in
        rw (← same) (omega arith, good-step cfg s c t)
    by false t more = let m = more (rw t at e) in (omega (arith, m.0), m.1)

-- a read between two records leaves less
pub shrinks : (cfg : Config) (s : State) (xs : List ℕ) (p : Read) → ends_at_end s ≡ false → next_record cfg s [] [] xs ≡ Some p
    → (length p.2 < length xs) × (ends_at_end p.1 ≡ false)
unfolding next_record
shrinks cfg s [] p f e = cc (rw f at e)
shrinks cfg s (c ∷ rest) p f e = by (is_end (step cfg s c).1) refl
  where
    by : (b : Bool) → is_end (step cfg s c).1 ≡ b → (length p.2 < length (c ∷ rest)) × (ends_at_end p.1 ≡ false)
    by true t =
        let q : Some (fields_after (step cfg s c).1 [] [], (step cfg s c).0, rest) ≡ Some p = rw t at e in
        let same : (fields_after (step cfg s c).1 [] [], (step cfg s c).0, rest) ≡ p = cc q in
        rw (← same) (omega arith, good-step cfg s c t)
    by false t = let m = leaves cfg _ _ _ rest p (rw t at e) in (omega (arith, m.0), m.1)

-- so many steps are enough
pub enough : (cfg : Config) (n m : ℕ) (s : State) (xs : List ℕ) → ends_at_end s ≡ false → length xs < n → length xs < m
    → records_from cfg n s xs ≡ records_from cfg m s xs
unfolding records_from
enough cfg (suc n) (suc m) s xs f a b = by (next_record cfg s [] [] xs) refl (λ s2 ys g x y. enough cfg n m s2 ys g x y)
  where
    by : (o : Option Read) → next_record cfg s [] [] xs ≡ o
        → ((s2 : State) (ys : List ℕ) → ends_at_end s2 ≡ false → length ys < n → length ys < m → records_from cfg n s2 ys ≡ records_from cfg m s2 ys)
        → records_next (records_from cfg n) o ≡ records_next (records_from cfg m) o
    by None e more = refl
    by (Some p) e more =
        let h = shrinks cfg s xs p f e in
        ap (λ (t : List (List (List ℕ))). p.0 ∷ t) (more p.1 p.2 h.1 (omega (arith, h.0)) (omega (arith, h.0)))
enough cfg _ _ s xs f a b = absurd (omega arith)

-- the records that are left, by the next read
pub left-none : (s : State) (xs : List ℕ) → next_record default_config s [] [] xs ≡ None → records_at s (Some xs) ≡ []
unfolding records_from
left-none s xs e = rw (add-one, e) refl

-- where the next read finds a record, it is the first that is left, and those after it are left by the read
pub left-some : (s : State) (xs : List ℕ) (p : Read) → ends_at_end s ≡ false → next_record default_config s [] [] xs ≡ Some p
    → records_at s (Some xs) ≡ p.0 ∷ records_at p.1 (Some p.2)
unfolding records_from
left-some s xs p f e =
    let h = shrinks default_config s xs p f e in
    rw (add-one, e) (ap (λ (t : List (List (List ℕ))). p.0 ∷ t) (enough default_config (length xs) (length p.2 + 1) p.1 p.2 h.1 h.0 (omega arith)))

-- a read that found a record
next-found : (o : Option Read) (f : List (List ℕ)) (s : State) (z : List ℕ) → NextIs o true f s z → (p : Read) × (o ≡ Some p) × (f ≡ p.0) × (s ≡ p.1) × (z ≡ p.2)
next-found None f s z n = cc n
next-found (Some p) f s z n = (p, refl, n.1, n.2, n.3)

-- a read that took a record took the next one of the text, and left the state and the bytes after it
pub took_next_record : (a b : State) (y : List ℕ) (k : Option (List ℕ)) (f : List (List ℕ)) → ReadsNext default_config a (Some y) k true f b
    → (p : Read) × (next_record default_config a [] [] y ≡ Some p) × (f ≡ p.0) × (b ≡ p.1) × (k ≡ Some p.2)
took_next_record a b y None f h = absurd h
took_next_record a b y (Some z) f h = let n = next-found _ f b z h in (n.0, n.1, n.2, n.3, ap Some n.4)
