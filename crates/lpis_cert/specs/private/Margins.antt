-- How large the numbers of a text get.
use Rattle.std.specs.Prelude.{ℕ}

-- coordinates in millimetres, without their sign
abbrev pub written_margin : ℕ
written_margin = 20000000000
