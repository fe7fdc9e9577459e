-- What a writer holds after a part of a text more.
use Rattle.std.proofs.Common.{◌∙◌, ◌+◌, [], sym, subst, ℕ, List, Option, Some, None, take, drop}
use Rattle.lpis_run.proofs.Common.{Appends, appends-more}
use Rattle.std.proofs.Math.Seq.{take-add}
use Rattle.std.proofs.lemmas.List.{append-nil}
use Rattle.std.specs.Io.KnownBytes.{Keeps}

-- what was written, and some bytes more
pub begun_more : (text : List ℕ) (w n : ℕ) (start now next : Option (List ℕ)) → Appends start now (take w text) → Appends now next (take n (drop w text))
    → Appends start next (take (w + n) text)
begun_more text w n start now next first second =
    subst (Appends start next) (sym (take-add w n text)) (appends-more start now next (take w text) (take n (drop w text)) first second)

-- nothing more
pub kept_appends_nothing : (old new : Option (List ℕ)) → Keeps old new → Appends old new []
kept_appends_nothing None new h = tt
kept_appends_nothing (Some xs) None h = h
kept_appends_nothing (Some xs) (Some ys) h = h ∙ sym (append-nil xs)

-- what is kept stays begun
pub begun_kept : (start now next : Option (List ℕ)) (text : List ℕ) → Appends start now text → Keeps now next → Appends start next text
begun_kept start now next text first second =
    subst (Appends start next) (append-nil text) (appends-more start now next text [] first (kept_appends_nothing now next second))
