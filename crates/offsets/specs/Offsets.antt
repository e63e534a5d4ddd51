-- What a value of the kind with an offset means. Assumes nothing.
--     whole v          its one number, the sum of the two that it holds
--     row v            that number as a row
--     Gives z r        r is absent exactly where z is above `most` in size, else a value that means z
use Rattle.std.specs.Prelude.{ℤ, ◌+ℤ◌, Option}
use Rattle.kinds.specs.Kinds.{Exact}
use Rattle.kinds.specs.Rows.{Row}
use Rattle.offsets.specs.declared.Offset.{Offset}

abbrev pub whole : Offset → ℤ
whole v = v.number +ℤ v.offset

abbrev pub row : Offset → Row 1
row v = (whole v, tt)

abbrev pub Gives : ℤ → Option Offset → Type 0
Gives z r = Exact 1 row (z, tt) r
