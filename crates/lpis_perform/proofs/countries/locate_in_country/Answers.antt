use Rattle.std.proofs.Common.{◌∷◌, [], inl, inr, refl, subst}
use Rattle.std.proofs.lemmas.Result.{err_from_is_err_and}
use Rattle.lpis_run.specs.Folders.{top_by, top_named}
use Rattle.lpis_run.specs.Streams.{Known}
use Rattle.lpis_run.specs.declared.failure.Name.TheVariants.{Points}
use Rattle.lpis_run.specs.declared.folder.Top.{Top}
use Rattle.lpis_run_locate.specs.LocateCountryAnswer.{RunsLocateCountry}
use Rattle.lpis_perform.specs.Opening.{bytes_of, texts_of}
use Rattle.lpis_perform.specs.Performance.{points_in}
use Rattle.lpis_perform.proofs.OpeningLemmas.{open_both, stops_behind, stops_first}
use Rattle.lpis_perform.proofs.countries.locate_in_country.Goals as goal

pub returns-in_err-files : goal.returns-in_err-files
returns-in_err-files g c =
    let p = err_from_is_err_and c.from_residual.result c.from_residual.ensures.1 in
    let at = g.M.Machine.standing c.args.machine.now in
    rw (p.1, p.2) (inr (stops_first at (top_named c.args.country.now.top) ((Points, c.args.points.now) ∷ []) _ c.in_err-files.ensures.failure, refl))

pub returns-in_err-points : goal.returns-in_err-points
returns-in_err-points g c =
    let p = err_from_is_err_and c.from_residual-in_err-points.result c.from_residual-in_err-points.ensures.1 in
    let at = g.M.Machine.standing c.args.machine.now in
    rw (p.1, p.2)
    (inr (stops_behind at (top_named c.args.country.now.top) ((Points, c.args.points.now) ∷ []) _ c.in_ok-files.ensures.opened (inl c.in_err-points.ensures.failure), refl))

pub returns : goal.returns
returns g c =
    let at = g.M.Machine.standing c.args.machine.now in
    let run = λ (files : Top Known) (points : Known).
    RunsLocateCountry (texts_of at c.args.country.now.path.now) (points_in files points) (g.W.Write.contents c.args.out.now) (g.W.Write.contents c.run_locate_country.new.out)
    c.run_locate_country.result in
    let of_files = subst (λ (files : Top Known). run files (g.M.File.Read.remaining c.in_ok-points.points)) c.in_ok-files.ensures.given c.run_locate_country.ensures.runs in
    let of_both = subst (run (top_by (bytes_of at) c.args.country.now.top)) c.in_ok-points.ensures.given of_files in
    inl (open_both at (top_named c.args.country.now.top) ((Points, c.args.points.now) ∷ []) c.in_ok-files.ensures.opened (c.in_ok-points.ensures.opened, tt), of_both)
