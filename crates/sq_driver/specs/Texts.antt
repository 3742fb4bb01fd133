-- The usage line.
use Rattle.std.specs.Prelude.{ℕ, List, codes}

-- the commands and options
unfoldable pub usage_line : List ℕ
usage_line = codes "usage: sq check PROG | fmt PROG | plan PROG MAP MACH | eval PROG MAP MACH DATA | run PROG MAP MACH DATA [order=first|last|seed:N|list:FILE] [trace=yes|no] | demo N | compile PROG MAP MACH | exec PLAN DATA [order=first|last|seed:N|list:FILE] [trace=yes|no] | tune PROG MAP MACH | span PROG MAP MACH COST\n"
