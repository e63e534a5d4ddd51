-- What holds of schedules, chains and tables, each law as one statement. Assumes nothing.
--     Same k rs rs'           the lists have the same records, in any order and however often
--     SameAnswers k n d e     all that is read from the cells between pins 1 to n is the same of d and of e
--     MeetingIsKeepingTheLegs
--         a schedule meets a record exactly when it keeps its legs
--     CellsThatAgreeAreOne
--         cells that agree have one answer in everything: tables, ranges, cuts, refusals, updates, final times
--     TablesAreUnique
--         tables of lists with the same records agree
--     NoRecordsHaveATable
--         of no records the table is zero from a pin to itself, else absent
--     TheUpdateIsTheTable
--         with a record added that is not refused, cells that agree with the formula are the table of the longer list
--     ATableOrALeastConflict
--         any list has a table, or a least conflict, and then the records before that have a table
--     RefusedExactlyWhenNoSchedule
--         given the table, a record is refused exactly when no schedule meets the list and the record
--     TheFirstRefusedIsTheLeastConflict
--         where the records before have a table, one that is refused is where the list first has no schedule
--     ARangeIsWhatSchedulesHave
--         given the table, a row is in the range exactly when some schedule that meets the list has it as skew
--     OneFinalTime
--         where the diagonal is zero, each pin has one final time
--     FinalTimesMeetTheList
--         given the table, the final times meet the list, and none is above zero
--     CellsStayWithin
--         where every end is within a limit, every cell is within n − 1 times the limit
--     NoScheduleExactlyWhenARing
--         no schedule meets a list exactly when it has a ring
--     NoScheduleWithARecordExactlyWhenARing
--         no schedule meets a list and a proposed record exactly when, with the record put before it, the list has a ring
--     ARingHasAtMostNSteps
--         a ring of records on the pins 1 to n has no more steps than pins
use Rattle.std.specs.Prelude.{◌≡◌, ℕ, ◌+◌, ◌-◌, ◌*◌, ◌≤◌, ◌⊎◌, ◌↔◌, List, [], ◌∷◌, ◌++◌, length, take, Some}
use Rattle.kinds.specs.Rows.{Row, zeros, Le}
use Rattle.std.specs.List.{ContainsAt, AllByRecursion}
use Rattle.graph.specs.Schedules.{Pin, Schedule, skew, Record, Meets, MeetsAll, Feasible, FeasibleWith, LeastConflict, OnPins, Forward}
use Rattle.graph.specs.Legs.{Leg, End, leg_of, Keeps, Step, Ring}
use Rattle.graph.specs.Tables.{Cells, ZeroDiagonal, Table, Agree, no_bounds, range_low, range_high, InRange, cut_low, cut_high, updated}
use Rattle.graph.specs.Tables.{Refused, FinalTime, EndsWithin, CellWithin}

abbrev pub Same : (k : ℕ) → List (Record k) → List (Record k) → Type 0
Same k rs rs' = (r : Record k) → ContainsAt rs r ↔ ContainsAt rs' r

pub record SameAnswers (k n : ℕ) (d e : Cells k) : Type 0 where
  pub diagonal : ZeroDiagonal k n d ↔ ZeroDiagonal k n e
  pub table : (rs : List (Record k)) → Table k n rs d ↔ Table k n rs e
  pub range :
      (i j : ℕ) → Pin n i → Pin n j
      → (range_low k d i j ≡ range_low k e i j) × (range_high k d i j ≡ range_high k e i j)
  pub cut : (r : Record k) → OnPins k n r → (cut_low k d r ≡ cut_low k e r) × (cut_high k d r ≡ cut_high k e r)
  pub refusal : (r : Record k) → OnPins k n r → Refused k d r ↔ Refused k e r
  pub update : (r : Record k) → OnPins k n r → Agree k n (updated k d r) (updated k e r)
  pub final : (v : ℕ) (t : Row k) → Pin n v → FinalTime k n d v t ↔ FinalTime k n e v t

abbrev pub MeetingIsKeepingTheLegs : Type 0
MeetingIsKeepingTheLegs =
    (k : ℕ) (t : Schedule k) (r : Record k) → Meets k t r ↔ ((e : End) (g : Leg k) → leg_of k r e ≡ Some g → Keeps k t g)

abbrev pub CellsThatAgreeAreOne : Type 0
CellsThatAgreeAreOne = (k n : ℕ) (d e : Cells k) → Agree k n d e → SameAnswers k n d e

abbrev pub TablesAreUnique : Type 0
TablesAreUnique =
    (k n : ℕ) (rs rs' : List (Record k)) (d d' : Cells k) → Same k rs rs' → Table k n rs d → Table k n rs' d' → Agree k n d d'

abbrev pub NoRecordsHaveATable : Type 0
NoRecordsHaveATable = (k n : ℕ) (d : Cells k) → Agree k n (no_bounds k) d → Table k n [] d

abbrev pub TheUpdateIsTheTable : Type 0
TheUpdateIsTheTable =
    (k n : ℕ) (rs : List (Record k)) (d e : Cells k) (r : Record k)
    → Table k n rs d → OnPins k n r → Forward k r → (Refused k d r → ⊥)
    → Agree k n (updated k d r) e → Table k n (rs ++ r ∷ []) e

abbrev pub ATableOrALeastConflict : Type 0
ATableOrALeastConflict =
    (k n : ℕ) (rs : List (Record k))
    → ((d : Cells k) × Table k n rs d)
    ⊎ ((m : ℕ) × LeastConflict k rs m × ((d : Cells k) × Table k n (take (m - 1) rs) d))

abbrev pub RefusedExactlyWhenNoSchedule : Type 0
RefusedExactlyWhenNoSchedule =
    (k n : ℕ) (rs : List (Record k)) (d : Cells k) (r : Record k)
    → AllByRecursion (OnPins k n) rs → Table k n rs d → OnPins k n r → Forward k r
    → Refused k d r ↔ (FeasibleWith k rs r → ⊥)

abbrev pub TheFirstRefusedIsTheLeastConflict : Type 0
TheFirstRefusedIsTheLeastConflict =
    (k n : ℕ) (rs later : List (Record k)) (d : Cells k) (r : Record k)
    → AllByRecursion (OnPins k n) rs → Table k n rs d → OnPins k n r → Refused k d r
    → LeastConflict k (rs ++ r ∷ later) (length rs + 1)

abbrev pub ARangeIsWhatSchedulesHave : Type 0
ARangeIsWhatSchedulesHave =
    (k n : ℕ) (rs : List (Record k)) (d : Cells k) → AllByRecursion (OnPins k n) rs → Table k n rs d
    → (i j : ℕ) (s : Row k) → Pin n i → Pin n j
    → InRange k d i j s ↔ ((t : Schedule k) × MeetsAll k t rs × (skew k t i j ≡ s))

abbrev pub OneFinalTime : Type 0
OneFinalTime =
    (k n : ℕ) (d : Cells k) → ZeroDiagonal k n d → (v : ℕ) → Pin n v
    → (t : Row k) × FinalTime k n d v t × ((t' : Row k) → FinalTime k n d v t' → t' ≡ t)

abbrev pub FinalTimesMeetTheList : Type 0
FinalTimesMeetTheList =
    (k n : ℕ) (rs : List (Record k)) (d : Cells k) (t : Schedule k) → AllByRecursion (OnPins k n) rs → Table k n rs d
    → ((v : ℕ) → Pin n v → FinalTime k n d v (t v))
    → MeetsAll k t rs × ((v : ℕ) → Pin n v → Le k (t v) (zeros k))

abbrev pub CellsStayWithin : Type 0
CellsStayWithin =
    (k n limit : ℕ) (rs : List (Record k)) (d : Cells k) → AllByRecursion (OnPins k n) rs → AllByRecursion (EndsWithin k limit) rs → Table k n rs d
    → (u v : ℕ) → Pin n u → Pin n v → CellWithin k ((n - 1) * limit) (d u v)

abbrev pub NoScheduleExactlyWhenARing : Type 0
NoScheduleExactlyWhenARing =
    (k : ℕ) (rs : List (Record k)) → (Feasible k rs → ⊥) ↔ ((ss : List (Step k)) × Ring k rs ss)

abbrev pub NoScheduleWithARecordExactlyWhenARing : Type 0
NoScheduleWithARecordExactlyWhenARing =
    (k : ℕ) (rs : List (Record k)) (r : Record k) → (FeasibleWith k rs r → ⊥) ↔ ((ss : List (Step k)) × Ring k (r ∷ rs) ss)

abbrev pub ARingHasAtMostNSteps : Type 0
ARingHasAtMostNSteps =
    (k n : ℕ) (rs : List (Record k)) (ss : List (Step k)) → AllByRecursion (OnPins k n) rs → Ring k rs ss → length ss ≤ n
