-- What the answers to several words are, one after the other.
use Rattle.std.proofs.Common.{arith, true, false, Option, None, Some, IfSome, IfNone}
use Rattle.std.specs.List.{AllZip}
use Rattle.std.proofs.Common.{take}
use Rattle.std.proofs.Common.{slice_range, ◌≤◌}
use Rattle.std.proofs.Math.ListN.{drop_of_length-le}
use Rattle.std.proofs.lemmas.List.{map-append, take_more}
use Rattle.std.proofs.lemmas.List.Folds.{drop_split}
use Rattle.std.proofs.lemmas.Slice.Zip.{all_zipped_more}
use Rattle.lpis_tables.specs.Ids.{is_id}
use Rattle.lpis_lineage.specs.Tracings.{AreDescendants, AreTraced, reached_by}
use Rattle.lpis_run_publish.specs.private.Tracing.{GoesOn, IsReadAs}
use Rattle.std.proofs.Common.{◌≡◌, ◌∙◌, ◌++◌, ◌∷◌, ◌+◌, ◌<◌, [], add-one, append_assoc, refl, sym, ap, ap₂, subst, zero, suc, ℕ, List, Bor, drop, drop-cons, get_or, if◌then◌else◌, length, map}
use Rattle.std.proofs.Math.Dec.{eqb-suc-zero}
use Rattle.std.proofs.lemmas.List.{append-nil}
use Rattle.lpis_run_publish.proofs.Common.{Answer}
use Rattle.lpis_run.specs.Status.{done}
use Rattle.lpis_lineage.specs.declared.row.Entry.{Entry}
use Rattle.lpis_run_publish.specs.TraceAnswer.{AreTraceAnswers, IsTraceAnswer, status_of_both, trace_line}

-- a status that is not done stays
not-done : (a b : ℕ) → status_of_both (suc a) b ≡ suc a
not-done a b = ap (λ t. if t then b else suc a) (eqb-suc-zero a)

joined-status : (a b c : ℕ) → status_of_both a (status_of_both b c) ≡ status_of_both (status_of_both a b) c
joined-status zero b c = refl
joined-status (suc a) b c = not-done a (status_of_both b c) ∙ sym (ap (λ s. status_of_both s c) (not-done a b) ∙ not-done a c)

last-status : (a : ℕ) → status_of_both a done ≡ a
last-status zero = refl
last-status (suc a) = not-done a done

joined-text : (a line said rest : List ℕ) → a ++ ((line ++ said) ++ rest) ≡ ((a ++ line) ++ said) ++ rest
joined-text a line said rest = sym (ap (λ t. t ++ rest) (append_assoc a line said) ∙ append_assoc a (line ++ said) rest)

one-word : (h : List Entry) (all words : List (List ℕ)) (word text said : List ℕ) (status next : ℕ) → IsTraceAnswer word h (said, next)
    → GoesOn h all (word ∷ words) (text, status) → GoesOn h all words ((text ++ trace_line word) ++ said, status_of_both status next)
one-word h all words word text said status next is so_far rest told =
    subst (AreTraceAnswers all h) (ap₂ (λ (t : List ℕ) (s : ℕ). (t, s)) (joined-text text (trace_line word) said rest.0) (joined-status status next rest.1))
    (so_far ((trace_line word ++ said) ++ rest.0, status_of_both next rest.1) ((said, next), rest, is, told, refl))

-- after one word more, one less is left
pub one-word-more : (h : List Entry) (all left : List (List ℕ)) (words : List (Bor (List ℕ))) (i : ℕ) (d : Bor (List ℕ)) (text new said : List ℕ) (status next both : ℕ)
    → i < length words → GoesOn h all (map (λ w. w.now) (drop i words) ++ left) (text, status)
    → IsTraceAnswer (get_or words i d).now h (said, next) → new ≡ (text ++ trace_line (get_or words i d).now) ++ said → both ≡ status_of_both status next
    → GoesOn h all (map (λ w. w.now) (drop (i + 1) words) ++ left) (new, both)
one-word-more h all left words i d text new said status next both lt so_far told new-is is =
    let cons : drop i words ≡ get_or words i d ∷ drop (i + 1) words = rw add-one (drop-cons words i d lt) in
    let split : map (λ (w : Bor (List ℕ)). w.now) (drop i words) ++ left ≡ (get_or words i d).now ∷ (map (λ (w : Bor (List ℕ)). w.now) (drop (i + 1) words) ++ left) =
    ap (λ (ws : List (Bor (List ℕ))). map (λ (w : Bor (List ℕ)). w.now) ws ++ left) cons in
    let now = subst (λ (ws : List (List ℕ)). GoesOn h all ws (text, status)) split so_far in
    subst (GoesOn h all (map (λ (w : Bor (List ℕ)). w.now) (drop (i + 1) words) ++ left))
    (ap₂ (λ (t : List ℕ) (s : ℕ). (t, s)) (sym new-is) (sym is)) (one-word h _ _ (get_or words i d).now text said status next told now)

-- after all of some words, those behind them are left
pub words-done : (h : List Entry) (all left : List (List ℕ)) (words : List (Bor (List ℕ))) (i : ℕ) (a : Answer) → length words ≤ i
    → GoesOn h all (map (λ w. w.now) (drop i words) ++ left) a → GoesOn h all left a
words-done h all left words i a le so_far =
    subst (λ (ws : List (Bor (List ℕ))). GoesOn h all (map (λ (w : Bor (List ℕ)). w.now) ws ++ left) a) (drop_of_length-le words le) so_far

-- some words, and those behind them
pub in-parts : (h : List Entry) (all : List (List ℕ)) (words : List (Bor (List ℕ))) (at end : ℕ) (a : Answer) → at ≤ end → GoesOn h all (map (λ w. w.now) (drop at words)) a
    → GoesOn h all (map (λ w. w.now) (slice_range words at end) ++ map (λ w. w.now) (drop end words)) a
in-parts h all words at end a le so_far =
    subst (λ (ws : List (List ℕ)). GoesOn h all ws a)
    (ap (map (λ (w : Bor (List ℕ)). w.now)) (drop_split words at end le) ∙ map-append (λ (w : Bor (List ℕ)). w.now) (slice_range words at end) (drop end words)) so_far

-- ---- words read
pub read-as : (word bytes : List ℕ) (o : Option (List ℕ)) → bytes ≡ word → IfSome o (λ id. (id ≡ bytes) × (is_id bytes ≡ true)) → IfNone o (is_id bytes ≡ false) → IsReadAs word o
read-as word bytes None e some none = ap is_id (sym e) ∙ none
read-as word bytes (Some id) e some none = some.0 ∙ e

-- one word more was read
pub read-more : (words : List (Bor (List ℕ))) (i : ℕ) (d : Bor (List ℕ)) (bytes : List ℕ) (o : Option (List ℕ)) (ids new : List (Option (List ℕ))) → i < length words
    → AllZip (λ w id. IsReadAs w.now id) (take i words) ids → bytes ≡ (get_or words i d).now → IfSome o (λ id. (id ≡ bytes) × (is_id bytes ≡ true)) → IfNone o (is_id bytes ≡ false)
    → new ≡ ids ++ o ∷ [] → AllZip (λ w id. IsReadAs w.now id) (take (i + 1) words) new
read-more words i d bytes o ids new lt so_far at some none is =
    let R : Bor (List ℕ) → Option (List ℕ) → Type 0 = λ w id. IsReadAs w.now id in
    subst (AllZip R (take (i + 1) words)) (sym is) (subst (λ ws. AllZip R ws (ids ++ o ∷ [])) (sym (take_more words i d lt))
    (all_zipped_more R (take i words) ids (get_or words i d) o so_far (read-as (get_or words i d).now bytes o at some none)))

any-default : (os : List (Option (List ℕ))) (i : ℕ) (d e : Option (List ℕ)) → i < length os → get_or os i d ≡ get_or os i e
any-default [] i d e lt = absurd (omega (arith, lt))
any-default (o ∷ os) zero d e lt = refl
any-default (o ∷ os) (suc i) d e lt = any-default os i d e (omega (arith, lt))

-- what was read at a place
pub read-at : (words : List (Bor (List ℕ))) (asked : List (Option (List ℕ))) (i : ℕ) (d : Bor (List ℕ)) → AllZip (λ w id. IsReadAs w.now id) words asked → i < length words
    → IsReadAs (get_or words i d).now (get_or asked i None)
read-at [] asked i d all lt = absurd (omega (arith, lt))
read-at (x ∷ words) [] i d all lt = absurd all
read-at (x ∷ words) (o ∷ asked) zero d all lt = all.0
read-at (x ∷ words) (o ∷ asked) (suc i) d all lt = read-at words asked i d all.1 (omega (arith, lt))

-- an identifier that was asked is answered as its word
pub asked-some : (h : List Entry) (asked : List (Option (List ℕ))) (tracing : List (List ℕ × ℕ)) (i : ℕ) (o : Option (List ℕ)) (id word : List ℕ) → i < length asked
    → o ≡ get_or asked i o → o ≡ Some id
    → AreTraced h asked tracing → IsReadAs word (get_or asked i None) → AreDescendants h (reached_by i tracing) id × (id ≡ word)
asked-some h asked tracing i o id word lt at some traced read =
    let here : get_or asked i None ≡ Some id = any-default asked i None o lt ∙ sym at ∙ some in (
      subst (λ (p : Option (List ℕ)). IfSome p (AreDescendants h (reached_by i tracing))) here (traced i lt),
      subst (IsReadAs word) here read,
    )

-- at the end none is left
pub none-is-left : (h : List Entry) (all left : List (List ℕ)) (text : List ℕ) (status : ℕ) → left ≡ [] → GoesOn h all left (text, status) → AreTraceAnswers all h (text, status)
none-is-left h all left text status is so_far =
    subst (AreTraceAnswers all h) (ap₂ (λ (t : List ℕ) (s : ℕ). (t, s)) (append-nil text) (last-status status)) (so_far ([], done) (rw is refl))
