use Rattle.std.proofs.Common.{◌∙◌, [], ap, subst, sym}
use Rattle.std.proofs.lemmas.List.{get_or-map}
use Rattle.std.specs.String.{string_bytes}
use Rattle.lpis_run_country.specs.private.Progressing.{AfterAny, IsUnwritten, IsWritten, setting_at}
use Rattle.lpis_run_country.proofs.passing.pass_at.Goals as goal

pub returns-in-Ok-clause-written : goal.returns-in-Ok-clause-written
returns-in-Ok-clause-written g c = λ before at.
    let is = c.as_str.ensures.value ∙ ap string_bytes c.index.ensures ∙ sym (get_or-map string_bytes c.args.names.now.items c.args.index _ [] c.requires.inside) in
    let texts = g.G.Regions.texts c.args.regions.now in
    let p = c.args.progress.now in
    let q = c.pass-passed.new.progress in
    let old = g.W.Write.contents c.args.out.now in
    let new = g.W.Write.contents c.pass-passed.new.out in
    let told = subst (λ xs. AfterAny (setting_at texts c.args.detail xs p) p (λ s rs. IsWritten s rs c.as_str.result.now q old new c.in-Ok.status)) c.as_slice.ensures.value c.in-Ok.ensures.written in
    subst (λ name. IsWritten (setting_at texts c.args.detail c.args.names.now.items p) before name q old new c.in-Ok.status) is (told before at)

pub returns-in-Err-clause-failure : goal.returns-in-Err-clause-failure
returns-in-Err-clause-failure g c = λ before at.
    let is = c.as_str.ensures.value ∙ ap string_bytes c.index.ensures ∙ sym (get_or-map string_bytes c.args.names.now.items c.args.index _ [] c.requires.inside) in
    let texts = g.G.Regions.texts c.args.regions.now in
    let p = c.args.progress.now in
    let old = g.W.Write.contents c.args.out.now in
    let new = g.W.Write.contents c.pass-passed.new.out in
    let told = subst (λ xs. AfterAny (setting_at texts c.args.detail xs p) p (λ s rs. IsUnwritten s rs c.as_str.result.now old new c.in-Err.failure)) c.as_slice.ensures.value
    c.in-Err.ensures.failure in (
      c.in-Err.failure,
      subst (λ name. IsUnwritten (setting_at texts c.args.detail c.args.names.now.items p) before name old new c.in-Err.failure) is (told before at),
      c.of_region.ensures,
    )
