-- A text that is read, line by line.
use Rattle.std.proofs.Common.{◌≡◌, ℕ, suc, ◌+◌, ◌-◌, Bool, true, false, cond, ◌&&◌, List, [], ◌∷◌, ◌++◌, length, take, drop, get_or, Option, Some, None, Result, Ok, Err, IfOk, IfErr, MatchResult}
use Rattle.std.proofs.Common.{refl, sym, ap, subst, ◌∙◌, arith, append_assoc, length-append, length-drop, eqb, position}
use Rattle.std.proofs.lemmas.Bool.Decides.{nat_tests}
use Rattle.std.proofs.lemmas.List.{append-nil, take_all}
use Rattle.std.proofs.lemmas.List.Sums.{split_at_first, fails_before_first, passes_at_first}
use Rattle.std.proofs.lemmas.List.Splits.{slice_split_none, slice_split_first}
use Rattle.std.specs.Str.{bytes_eq}
use Rattle.lpis_points.specs.declared.boxes.Box4.{Box4}
use Rattle.lpis_country.specs.declared.draft.Draft.{Draft}
use Rattle.lpis_country.specs.declared.fault.PlanFault.{PlanFault}
use Rattle.lpis_country.specs.declared.fault.PlanFault.TheVariants.{Memory, At}
use Rattle.lpis_country.specs.Tree.{Tree}
use Rattle.lpis_country.specs.CountryText.{TreeLine, tree_line_text, tree_lines, country_head, IsCountryText}
unfoldable use Rattle.lpis_country.specs.CountryText.{tree_lines_text, country_text}
use Rattle.lpis_country.specs.Faults.{Owing, owing_first, is_line_feed, or_line, plan_lines, plan_fault, IsFirstPlanFault}
unfoldable use Rattle.lpis_country.specs.Faults.{owing_with, plan_fault_from, plan_fault_of}
use Rattle.lpis_country.specs.Plans.{PlanParts, IsPlanOf, IsPlan}
use Rattle.lpis_country.specs.private.Drafts.{IsDraftOf, IsDraftWith, IsEnded, IsPlanOfLines, IsReading, PlanFaultFrom, TakesPlanLine, owing_of}
use Rattle.lpis_country.proofs.BegunLemmas.{begun_end}
use Rattle.lpis_country.proofs.FaultLemmas.{split_some, fault_step, head_step, no_fault, text-append}
use Rattle.lpis_country.proofs.LawLemmas.{one_tree}

-- ---- the first line of a text

chosen-some : (k i : ℕ) (b : Bool) → cond b (Some k) None ≡ Some i → (b ≡ true) × (k ≡ i)
chosen-some k i true h = (refl, cc h)
chosen-some k i false h = absurd cc

chosen-none : (k : ℕ) (b : Bool) → cond b (Some k) None ≡ None → b ≡ false
chosen-none k true h = absurd cc
chosen-none k false h = refl

-- the rest, as a slice of the code is seen
rest_is : (xs : List ℕ) (i : ℕ) → take (length xs - (i + 1)) (drop (i + 1) xs) ≡ drop (i + 1) xs
rest_is xs i = grind (arith, take_all, length-drop)

-- a text without a line feed is all one line, with nothing after it
pub no_line_end : (xs : List ℕ) → position is_line_feed xs ≡ None → plan_lines xs ≡ xs ∷ []
no_line_end xs h = grind (arith, slice_split_none, fails_before_first, nat_tests, chosen-none)

is_ten : (b : ℕ) → is_line_feed b ≡ true → b ≡ 10
is_ten b h = grind (arith, nat_tests)

cut_at : (xs : List ℕ) (i : ℕ) → position is_line_feed xs ≡ Some i
    → (plan_lines xs ≡ take i xs ∷ plan_lines (take (length xs - (i + 1)) (drop (i + 1) xs)))
    × (xs ≡ take i xs ++ (get_or xs i 0 ∷ take (length xs - (i + 1)) (drop (i + 1) xs)))
    × (is_line_feed (get_or xs i 0) ≡ true)
cut_at xs i h = grind (arith, slice_split_first, split_at_first, passes_at_first, rest_is, nat_tests, chosen-some)

-- the bytes before the first line feed of a text are its first line, and those after it the rest
pub takes_line : (xs : List ℕ) (i : ℕ) → position is_line_feed xs ≡ Some i → TakesPlanLine xs (take i xs) (take (length xs - (i + 1)) (drop (i + 1) xs))
takes_line xs i h =
    let c = cut_at xs i h in
    let e = is_ten (get_or xs i 0) c.2 in
    record { parts = rw e at c.1; split = c.0 }

-- a text without a whole line
pub no_head : (text : List ℕ) → plan_lines text ≡ text ∷ [] → plan_fault text ≡ Some 1
unfolding plan_fault_of
no_head text e = rw e refl

-- a text that begins with another line
pub other_head : (text line rest : List ℕ) → TakesPlanLine text line rest → bytes_eq line country_head ≡ false → plan_fault text ≡ Some 1
unfolding plan_fault_of
other_head text line rest takes other =
    let cut = takes.split in
    let s = split_some is_line_feed rest in
    let more = s.2 in
    rw (cut, more, other) refl

-- ---- from line to line

-- a draft of no lines that owes the whole country has the whole text still to read, from line 2
pub reading_first : (start : List ℕ) (d : Draft) → owing_of d ≡ owing_first → IsDraftOf [] d → IsReading start start 2 d
unfolding tree_lines_text
reading_first start d owing begun = record { said = []; begun = begun; parts = refl; faults = ap (λ (o : Owing). plan_fault_from 2 o (plan_lines start)) (sym owing); room = omega arith }

-- what comes after a line that stands
pub reading_more : (start rest line after : List ℕ) (n : ℕ) (d e : Draft) → IsReading start rest n d → TakesPlanLine rest line after → Some (owing_of e) ≡ owing_with (owing_of d) line
    → IsDraftWith d line e → IsReading start after (n + 1) e
unfolding tree_lines_text
reading_more start rest line after n d e r takes owing with =
    let more = with r.said r.begun in
    record {
      said = r.said ++ more.0 ∷ [];
      begun = more.2;
      parts = r.parts ∙ ap (λ (w : List ℕ). tree_lines_text r.said ++ w) (takes.parts ∙ ap (λ (w : List ℕ). w ++ (10 ∷ after)) more.1)
          ∙ sym (ap (λ (w : List ℕ). w ++ after) (text-append r.said (more.0 ∷ [])) ∙ append_assoc (tree_lines_text r.said) (tree_line_text more.0 ++ (10 ∷ [])) after
          ∙ ap (λ (w : List ℕ). tree_lines_text r.said ++ w) (append_assoc (tree_line_text more.0) (10 ∷ []) after));
      faults = r.faults ∙ fault_step n (owing_of d) rest line after takes.split ∙ ap (λ (o : Option Owing). or_line n o (λ p. plan_fault_from (n + 1) p (plan_lines after))) (sym owing);
      room = omega (arith, r.room, ap (λ (w : List ℕ). length w) takes.parts, length-append line (10 ∷ after));
    }

-- a line that can't stand
pub reading_fault : (start rest line after : List ℕ) (n : ℕ) (d : Draft) → IsReading start rest n d → TakesPlanLine rest line after → None ≡ owing_with (owing_of d) line
    → plan_fault_from 2 owing_first (plan_lines start) ≡ Some n
reading_fault start rest line after n d r takes owing =
    r.faults ∙ fault_step n (owing_of d) rest line after takes.split ∙ ap (λ (o : Option Owing). or_line n o (λ p. plan_fault_from (n + 1) p (plan_lines after))) (sym owing)

-- nothing is owed, and nothing is left
ended_plan : (said : List TreeLine) (d : Draft) → IsDraftOf said d → d.rooms ≡ [] → (t : Tree) × (tree_lines t ≡ said) × IsPlanOf t (record { names = d.names; tiles = d.tiles.items })
ended_plan said d begun none = begun_end said d.names d.tiles.items (rw none at begun)

made_of : (t : Tree) (p : PlanParts) (names : List (List ℕ)) (tiles : List Box4) → p.names ≡ names → p.tiles ≡ tiles → IsPlanOf t (record { names = names; tiles = tiles }) → IsPlanOf t p
made_of t p names tiles n b h = record { fits = h.fits; names = n ∙ h.names; tiles = b ∙ h.tiles }

-- where the test for the end is true, no room is owed and no text is left
pub nothing_is_left : {A : Type 0} (rooms : List A) (rest : List ℕ) → (eqb (length rooms) 0 && eqb (length rest) 0) ≡ true → (rooms ≡ []) × (rest ≡ [])
nothing_is_left [] [] h = (refl, refl)
nothing_is_left [] (b ∷ rest) h = absurd (some (length rest) h)
  where
    some : (n : ℕ) → eqb (suc n) 0 ≡ true → ⊥
    some n h = grind (arith, nat_tests)
nothing_is_left (r ∷ rooms) rest h = absurd (some (length rooms) (eqb (length rest) 0) h)
  where
    some : (n : ℕ) (t : Bool) → (eqb (suc n) 0 && t) ≡ true → ⊥
    some n t h = grind (arith, nat_tests)

-- what a plan is made of
pub makes_plan : (said : List TreeLine) (d : Draft) (names : List (List ℕ)) → IsDraftOf said d → d.rooms ≡ [] → names ≡ d.names → IsPlan (record { names = names; tiles = d.tiles.items })
makes_plan said d names begun none same = let t = ended_plan said d begun none in (t.0, made_of t.0 (record { names = names; tiles = d.tiles.items }) d.names d.tiles.items same refl t.2)

reading_ends : (start rest : List ℕ) (n : ℕ) (d : Draft) (p : PlanParts) → IsReading start rest n d → IsEnded d rest p → IsPlanOfLines start p
reading_ends start rest n d p r e =
    let t = ended_plan r.said d r.begun e.rooms in (
      t.0,
      made_of t.0 p d.names d.tiles.items e.names e.tiles t.2,
      r.parts ∙ ap (λ (w : List ℕ). tree_lines_text r.said ++ w) e.none ∙ append-nil (tree_lines_text r.said) ∙ sym (ap tree_lines_text t.1),
    )

-- where a reading ends with a plan, this is the plan of all lines from its start
pub reading_done : (r : Result PlanParts PlanFault) (start rest : List ℕ) (n : ℕ) (d : Draft) → IsReading start rest n d → IfOk r (λ p. IsEnded d rest p) → IfOk r (λ p. IsPlanOfLines start p)
reading_done (Ok p) start rest n d r e = reading_ends start rest n d p r e
reading_done (Err f) start rest n d r e = tt

-- something is owed, or something is left
pub end_faults : (n : ℕ) (o : Owing) (rest : List ℕ) → plan_lines rest ≡ rest ∷ [] → (eqb o.owed 0 && eqb (length rest) 0) ≡ false → plan_fault_from n o (plan_lines rest) ≡ Some n
unfolding plan_fault_from
end_faults n o rest last some = rw (last, some) refl

-- ---- the whole text

-- a plan of the lines after the head is that of a tree of which the whole is the text
pub found_plan : (r : Result PlanParts PlanFault) (text rest : List ℕ) → text ≡ country_head ++ (10 ∷ rest)
    → IfOk r (λ p. IsPlanOfLines rest p) → IfOk r (λ p. (t : Tree) × IsCountryText text t × IsPlanOf t p)
unfolding country_text
found_plan (Ok p) text rest e h = (h.0, record { fits = h.1.fits; is = e ∙ ap (λ (w : List ℕ). country_head ++ (10 ∷ w)) h.2 }, h.1)
found_plan (Err f) text rest e h = tt

-- the first fault of what comes after the head is the first fault of the whole text
pub fault_found : (r : Result PlanParts PlanFault) (text rest : List ℕ) → text ≡ country_head ++ (10 ∷ rest)
    → IfErr r (λ f. PlanFaultFrom f 2 owing_first rest) → IfErr r (λ f. IsFirstPlanFault f text)
fault_found (Ok p) text rest e h = tt
fault_found (Err Memory) text rest e h = tt
fault_found (Err (At n)) text rest e h = ap plan_fault e ∙ head_step rest ∙ h

-- a text is read to the plan of its tree alone
pub only_plan : (r : Result PlanParts PlanFault) (text : List ℕ) → IfOk r (λ p. (t : Tree) × IsCountryText text t × IsPlanOf t p) → IfErr r (λ e. IsFirstPlanFault e text)
    → (t : Tree) → IsCountryText text t → MatchResult r (λ p. IsPlanOf t p) (λ e. e ≡ Memory)
only_plan (Ok p) text found fault t h = subst (λ (u : Tree). IsPlanOf u p) (one_tree text found.0 t found.1 h) found.2
only_plan (Err Memory) text found fault t h = refl
only_plan (Err (At n)) text found fault t h = let no = no_fault text t h in cc (no, fault)
