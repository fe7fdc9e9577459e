use Rattle.lpis_points.proofs.ShiftLemmas.{orient_at-shifted, shifted_off, crossing-shifted}
use Rattle.lpis_points.proofs.laws.shift.the_shifted_point_is_off_every_line_and_crossed_alike.Goals as goal

pub returns : goal.returns
returns c = record { side = orient_at-shifted; off = shifted_off; crossings = crossing-shifted }
