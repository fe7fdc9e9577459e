use mir.Syntax.{w128}
use mir.Val.{SFits}
use Rattle.std.proofs.Common.{◌++◌, codes, rules, to_z-of_z}
use Rattle.lpis_run.proofs.Common.{appends-more}
use Rattle.lpis_run.specs.Area.{area_text, eligible_text}
use Rattle.lpis_run.specs.Report.{areas_text}
use Rattle.lpis_run.proofs.areas.print_areas.Goals as goal

pub returns : goal.returns
unfolding areas_text
returns g c =
    let area = area_text c.args.areas.area in
    let eligible = eligible_text c.args.areas.weighted in
    let area-fits : SFits w128 c.args.areas.area = search rules in
    let eligible-fits : SFits w128 c.args.areas.weighted = search rules in
    let start = g.W.Write.contents c.args.out.now in
    let first = g.W.Write.contents c.write_all.new.self in
    let second = g.W.Write.contents c.print_area.new.out in
    let third = g.W.Write.contents c.write_all-2.new.self in
    let fourth = g.W.Write.contents c.print_eligible.new.out in
    let last = g.W.Write.contents c.write_all-3.new.self in
    appends-more start fourth last (codes " area " ++ area ++ codes " eligible " ++ eligible) (codes "\n")
    (appends-more start third fourth (codes " area " ++ area ++ codes " eligible ") eligible
    (appends-more start second third (codes " area " ++ area) (codes " eligible ")
    (appends-more start first second (codes " area ") area c.in_ok-write_all.ensures.bytes (rw (to_z-of_z area-fits) at c.in_ok-print_area.ensures))
    c.in_ok-write_all-2.ensures.bytes) (rw (to_z-of_z eligible-fits) at c.in_ok-print_eligible.ensures)) c.in_ok-write_all-3.ensures.bytes
