use Rattle.std.proofs.Common.{◌≡◌, ℕ, ◌+◌, ◌^◌, ◌<◌, List, length, refl, subst}
use Rattle.lpis_cert.specs.private.Drafts.{Opens}
use Rattle.lpis_cert.proofs.OpenLemmas.{broken_text, closed_text, opens_last}
use Rattle.lpis_cert.proofs.reading.read_owned.Goals as goal

pub finish_owned-requires : goal.finish_owned-requires
finish_owned-requires c =
    let rest = c.in_ok-draft.rest in
    let o = subst (λ (bs : List ℕ). Opens bs c.in_ok-draft.draft c.in_ok-draft.count rest.text.now rest.line) c.as_slice.ensures.value c.in_ok-draft.ensures.ok in
    let same : rest.text.now ≡ c.in_ok-part.part.items =
    opens_last c.args.text.items c.in_ok-draft.draft c.in_ok-draft.count _ rest.text.now c.in_ok-part.part.items rest.line o refl c.in_ok-part.ensures in
    subst (λ (bs : List ℕ). rest.line + length bs < 2 ^ 64) same rest.room

pub returns-clause-found : goal.returns-clause-found
returns-clause-found c =
    let rest = c.in_ok-draft.rest in
    let d = c.in_ok-draft.draft in
    let count = c.in_ok-draft.count in
    let o = subst (λ (bs : List ℕ). Opens bs d count rest.text.now rest.line) c.as_slice.ensures.value c.in_ok-draft.ensures.ok in
    let same : rest.text.now ≡ c.in_ok-part.part.items =
    opens_last c.args.text.items d count _ rest.text.now c.in_ok-part.part.items rest.line o refl c.in_ok-part.ensures in
    closed_text c.finish_owned.result c.args.text.items d count c.in_ok-part.part.items rest.line
    (subst (λ (bs : List ℕ). Opens c.args.text.items d count bs rest.line) same o) c.finish_owned.ensures.ok

pub returns-clause-fault : goal.returns-clause-fault
returns-clause-fault c =
    let rest = c.in_ok-draft.rest in
    let d = c.in_ok-draft.draft in
    let count = c.in_ok-draft.count in
    let o = subst (λ (bs : List ℕ). Opens bs d count rest.text.now rest.line) c.as_slice.ensures.value c.in_ok-draft.ensures.ok in
    let same : rest.text.now ≡ c.in_ok-part.part.items =
    opens_last c.args.text.items d count _ rest.text.now c.in_ok-part.part.items rest.line o refl c.in_ok-part.ensures in
    broken_text c.finish_owned.result c.args.text.items d count c.in_ok-part.part.items rest.line
    (subst (λ (bs : List ℕ). Opens c.args.text.items d count bs rest.line) same o) c.finish_owned.ensures.err
