-- A line as the code has it.
use Rattle.lpis_country.specs.declared.line.Line.{Line}
use Rattle.lpis_country.specs.declared.line.Line.TheVariants.{X, Y, Region}
use Rattle.lpis_country.specs.CountryText.{TreeLine, x_line, y_line, region_line}

abbrev pub line_read : Line → TreeLine
line_read (X c) = x_line c
line_read (Y c) = y_line c
line_read (Region name) = region_line name.now
