-- How large the numbers get on the way to an area.
use Rattle.std.specs.Prelude.{ℕ, ◌*◌}

-- the limit of a coordinate
abbrev pub ring_coordinate_margin : ℕ
ring_coordinate_margin = 20000000000

-- one coordinate times another
abbrev pub ring_product_margin : ℕ
ring_product_margin = ring_coordinate_margin * ring_coordinate_margin
