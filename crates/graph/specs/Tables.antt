-- The table of least lengths, and what is read from it. Assumes nothing.
--     Cells k                 for each two pins an optional row: a distance matrix
--     LeastLength k rs u v c  c is the least length of a chain from u to v, absent where there is no chain: the shortest distance
--     ZeroDiagonal k n d      the cell from each of the pins 1 to n to itself is zero
--     Table k n rs d          each cell between pins 1 to n is the least length, and zero from a pin to itself:
--                             the all-pairs shortest distances
--     Agree k n d e           the cells are equal between pins 1 to n
--     no_bounds k             the cells of no records: zero from a pin to itself, else absent
--     negated k c             the opposite, where the cell is there
--     lesser k a b            the lesser of the two; where one is absent, the other
--     greater k a b           the greater of the two; where one is absent, the other
--     length_sum k a b        the sum; absent where one of the two is
--     range_low k d i j       the low end of the range of a pair, −cell(i, j)
--     range_high k d i j      its high end, cell(j, i)
--     InRange k d i j s       s is in the range: by a table, a skew that is possible
--     cut_low k d r           the low end of a record, cut to the range of its pins
--     cut_high k d r          its high end, cut to the range
--     updated k d r           the cells once the record is added: the incremental update of the distances
--     Refused k d r           low is above the range of its pins, or high below it
--     FinalTime k n d v t     t is the least of the cells (u, v) over all pins u
--     CellWithin k limit c    every number of the cell is at most limit in size
--     EndsWithin k limit r    every number of an end of the record is at most limit in size
use Rattle.std.specs.Prelude.{◌≡◌, ℕ, cond, ◌⊎◌, List, Some, None, Option, ◌==◌}
use Rattle.kinds.specs.Rows.{Row, zeros, plus, opposite, order, Le, Within}
use Rattle.std.specs.Option.{option_map}
use Rattle.std.specs.Ordering.{is_le}
use Rattle.graph.specs.Schedules.{Pin, Record, NotAbove, Inside}
use Rattle.graph.specs.Legs.{Step, Chain, length_of}

abbrev pub Cells : ℕ → Type 0
Cells k = ℕ → ℕ → Option (Row k)

abbrev pub LeastLength : (k : ℕ) → List (Record k) → ℕ → ℕ → Option (Row k) → Type 0
LeastLength k rs u v None = (ss : List (Step k)) → Chain k rs u ss v → ⊥
LeastLength k rs u v (Some w) =
    ((ss : List (Step k)) × Chain k rs u ss v × (length_of k ss ≡ w))
    × ((ss : List (Step k)) → Chain k rs u ss v → Le k w (length_of k ss))

abbrev pub ZeroDiagonal : (k n : ℕ) → Cells k → Type 0
ZeroDiagonal k n d = (u : ℕ) → Pin n u → d u u ≡ Some (zeros k)

pub record Table (k n : ℕ) (rs : List (Record k)) (d : Cells k) : Type 0 where
  pub least : (u v : ℕ) → Pin n u → Pin n v → LeastLength k rs u v (d u v)
  pub diagonal : ZeroDiagonal k n d

abbrev pub Agree : (k n : ℕ) → Cells k → Cells k → Type 0
Agree k n d e = (u v : ℕ) → Pin n u → Pin n v → d u v ≡ e u v

abbrev pub no_bounds : (k : ℕ) → Cells k
no_bounds k u v = cond (u == v) (Some (zeros k)) None

abbrev pub negated : (k : ℕ) → Option (Row k) → Option (Row k)
negated k c = option_map (opposite k) c

abbrev pub lesser : (k : ℕ) → Option (Row k) → Option (Row k) → Option (Row k)
lesser k None b = b
lesser k (Some x) None = Some x
lesser k (Some x) (Some y) = Some (cond (is_le (order k x y)) x y)

abbrev pub greater : (k : ℕ) → Option (Row k) → Option (Row k) → Option (Row k)
greater k None b = b
greater k (Some x) None = Some x
greater k (Some x) (Some y) = Some (cond (is_le (order k x y)) y x)

abbrev pub length_sum : (k : ℕ) → Option (Row k) → Option (Row k) → Option (Row k)
length_sum k None b = None
length_sum k (Some x) None = None
length_sum k (Some x) (Some y) = Some (plus k x y)

abbrev pub range_low : (k : ℕ) → Cells k → ℕ → ℕ → Option (Row k)
range_low k d i j = negated k (d i j)

abbrev pub range_high : (k : ℕ) → Cells k → ℕ → ℕ → Option (Row k)
range_high k d i j = d j i

abbrev pub InRange : (k : ℕ) → Cells k → ℕ → ℕ → Row k → Type 0
InRange k d i j s = Inside k (range_low k d i j) (range_high k d i j) s

abbrev pub cut_low : (k : ℕ) → Cells k → Record k → Option (Row k)
cut_low k d r = greater k r.low (range_low k d r.first r.second)

abbrev pub cut_high : (k : ℕ) → Cells k → Record k → Option (Row k)
cut_high k d r = lesser k r.high (range_high k d r.first r.second)

-- with the pins (i, j) and the cut ends x and y: the least of cell(u, v), cell(u, i) − x + cell(j, v)
-- and cell(u, j) + y + cell(i, v); a term with an absent part drops out
abbrev pub updated : (k : ℕ) → Cells k → Record k → Cells k
updated k d r u v =
    lesser k (d u v)
    (lesser k
    (length_sum k (length_sum k (d u r.first) (negated k (cut_low k d r))) (d r.second v))
    (length_sum k (length_sum k (d u r.second) (cut_high k d r)) (d r.first v)))

abbrev pub Refused : (k : ℕ) → Cells k → Record k → Type 0
Refused k d r =
    (NotAbove k r.low (range_high k d r.first r.second) → ⊥)
    ⊎ (NotAbove k (range_low k d r.first r.second) r.high → ⊥)

pub record FinalTime (k n : ℕ) (d : Cells k) (v : ℕ) (t : Row k) : Type 0 where
  pub reached : (u : ℕ) × Pin n u × (d u v ≡ Some t)
  pub least : (u : ℕ) → Pin n u → NotAbove k (Some t) (d u v)

abbrev pub CellWithin : (k : ℕ) → ℕ → Option (Row k) → Type 0
CellWithin k limit None = Unit {0}
CellWithin k limit (Some w) = Within k limit w

abbrev pub EndsWithin : (k : ℕ) → ℕ → Record k → Type 0
EndsWithin k limit r = CellWithin k limit r.low × CellWithin k limit r.high
