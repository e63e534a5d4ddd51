-- Schedules of clock pins and the bounds on their skews. Assumes nothing.
--     Pin n u                 u is one of the pins 1 to n
--     Schedule k              a time for each pin, as a row of k numbers
--     skew k t i j            the time of i less the time of j
--     Record k                a bound on the skew of two pins, by a low end, a high end, both or none: a difference constraint
--     NotAbove k a b          a is not above b, where both are there
--     Inside k low high s     s is neither below low nor above high; an absent end excludes none
--     Meets k t r             the skew of the record's pins is inside its ends: the schedule satisfies the constraint
--     MeetsAll k t rs         the schedule meets each record of the list: it is a solution of the constraints
--     Feasible k rs           some schedule meets them all: the constraints are satisfiable
--     FeasibleWith k rs r     some schedule meets them all and the record r too
--     LeastConflict k rs m    m is the least number such that no schedule meets records 1 to m
--     OnPins k n r            both pins of the record are pins 1 to n; they may be one pin
--     Forward k r             low is not above high, where both are there
use Rattle.std.specs.Prelude.{ℕ, ◌<◌, ◌≤◌, List, take, Some, None, Option}
use Rattle.kinds.specs.Rows.{Row, minus, Le}
use Rattle.std.specs.List.{AllByRecursion}

abbrev pub Pin : ℕ → ℕ → Type 0
Pin n u = (1 ≤ u) × (u ≤ n)

-- only the times of the pins matter; a time may be any row, of any size
abbrev pub Schedule : ℕ → Type 0
Schedule k = ℕ → Row k

abbrev pub skew : (k : ℕ) → Schedule k → ℕ → ℕ → Row k
skew k t i j = minus k (t i) (t j)

pub record Record (k : ℕ) : Type 0 where
  pub first : ℕ
  pub second : ℕ
  pub low : Option (Row k)
  pub high : Option (Row k)

abbrev pub NotAbove : (k : ℕ) → Option (Row k) → Option (Row k) → Type 0
NotAbove k None b = Unit {0}
NotAbove k (Some a) None = Unit {0}
NotAbove k (Some a) (Some b) = Le k a b

abbrev pub Inside : (k : ℕ) → Option (Row k) → Option (Row k) → Row k → Type 0
Inside k low high s = NotAbove k low (Some s) × NotAbove k (Some s) high

abbrev pub Meets : (k : ℕ) → Schedule k → Record k → Type 0
Meets k t r = Inside k r.low r.high (skew k t r.first r.second)

abbrev pub MeetsAll : (k : ℕ) → Schedule k → List (Record k) → Type 0
MeetsAll k t rs = AllByRecursion (Meets k t) rs

abbrev pub Feasible : (k : ℕ) → List (Record k) → Type 0
Feasible k rs = (t : Schedule k) × MeetsAll k t rs

abbrev pub FeasibleWith : (k : ℕ) → List (Record k) → Record k → Type 0
FeasibleWith k rs r = (t : Schedule k) × MeetsAll k t rs × Meets k t r

pub record LeastConflict (k : ℕ) (rs : List (Record k)) (m : ℕ) : Type 0 where
  pub unmet : Feasible k (take m rs) → ⊥
  pub before : (l : ℕ) → l < m → Feasible k (take l rs)

pub record OnPins (k n : ℕ) (r : Record k) : Type 0 where
  pub first_pin : Pin n r.first
  pub second_pin : Pin n r.second

abbrev pub Forward : (k : ℕ) → Record k → Type 0
Forward k r = NotAbove k r.low r.high
