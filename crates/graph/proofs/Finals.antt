-- Final times: each pin has one, together they meet the list, and none is above zero. Assumes nothing.
use Rattle.std.proofs.Common.{◌≡◌, ℕ, zero, suc, ◌+◌, ◌<◌, ◌≤◌, ⊎_elim, List, [], ◌∷◌, Some, None, Option, unwrap_or, sym, refl, ap, subst, arith}
use Rattle.std.specs.List.{ContainsAt, AllByRecursion}
use Rattle.std.proofs.ByRecursion.{all_has_itself, All-weaker}
use Rattle.std.proofs.lemmas.Bool.{cases_eq}
use Rattle.kinds.specs.Rows.{Row, zeros, plus, Le}
use Rattle.graph.specs.Schedules.{Pin, Schedule, Record, NotAbove, Meets, MeetsAll, Feasible, OnPins}
use Rattle.graph.specs.Legs.{Leg, End, leg_of, Keeps}
use Rattle.graph.specs.Tables.{Cells, Table, lesser, FinalTime}
use Rattle.graph.specs.Laws.{OneFinalTime, FinalTimesMeetTheList}
use Rattle.kinds.proofs.Rows.{le_antisym, plus_zeros, minus_le_of_plus}
use Rattle.graph.proofs.Lengths.{none_some, AtMost, at_most_some, at_most_row, le_at_most, lesser_cases, at_most_lesser_left, at_most_lesser_right}
use Rattle.graph.proofs.Chains.{each_leg}
use Rattle.graph.proofs.Least.{Reaches, LeastOn, reaches_append, least_reached, least_bound, least_zero}
use Rattle.graph.proofs.Unique.{record_leg_at}
use Rattle.graph.proofs.Keeping.{meets_from_keeps}

-- two facts of each element give a third
pub all_both : {X : Type 0} (P Q R : X → Type 0) → ((x : X) → P x → Q x → R x) → (xs : List X) → AllByRecursion P xs → AllByRecursion Q xs → AllByRecursion R xs
all_both P Q R f [] p q = tt
all_both P Q R f (x ∷ xs) p q = (f x p.0 q.0, all_both P Q R f xs p.1 q.1)

-- one of m numbers from lo on
abbrev pub From : ℕ → ℕ → ℕ → Type 0
From lo m u = (lo ≤ u) × (u < lo + m)

-- both pins of a record are such numbers
abbrev pub Among : {k : ℕ} → ℕ → ℕ → Record k → Type 0
Among lo m r = From lo m r.first × From lo m r.second

module _ (k : ℕ) where
  -- the least of m cells of a column, from row lo on
  abbrev lowest : (ℕ → Option (Row k)) → ℕ → ℕ → Option (Row k)
  lowest c lo zero = None
  lowest c lo (suc m) = lesser k (lowest c lo m) (c (lo + m))

  -- it is one of the cells
  lowest_reached :
      (c : ℕ → Option (Row k)) (lo m : ℕ) (w : Row k) → lowest c lo m ≡ Some w → (u : ℕ) × From lo m u × (c u ≡ Some w)
  lowest_reached c lo zero w e = absurd (none_some w e)
  lowest_reached c lo (suc m) w e =
      ⊎_elim (λ h. let (u, p, g) = lowest_reached c lo m w h in (u, (p.0, omega arith), g))
      (λ h. (lo + m, (omega arith, omega arith), h)) (lesser_cases k (lowest c lo m) (c (lo + m)) w e)

  -- it is at most each of them
  lowest_bound :
      (c : ℕ → Option (Row k)) (lo m u : ℕ) (w : Row k) → From lo m u → AtMost k (c u) w → AtMost k (lowest c lo m) w
  lowest_bound c lo zero u w p h = absurd (omega arith)
  lowest_bound c lo (suc m) u w p h =
      ⊎_elim (λ e. at_most_lesser_right k (lowest c lo m) (c (lo + m)) w (rw (← e) h))
      (λ e. at_most_lesser_left k (lowest c lo m) (c (lo + m)) w (lowest_bound c lo m u w (p.0, omega arith) h)) (cases_eq u (lo + m))

  -- t is a cell of the column, and above none
  abbrev LeastIn : (P : ℕ → Type 0) → (ℕ → Option (Row k)) → Row k → Type 0
  LeastIn P c t = ((u : ℕ) × P u × (c u ≡ Some t)) × ((u : ℕ) → P u → NotAbove k (Some t) (c u))

  -- a column with a cell that is there has a least one
  column_least :
      (c : ℕ → Option (Row k)) (lo m v : ℕ) (o : Row k) → From lo m v → c v ≡ Some o
      → (t : Row k) × (lowest c lo m ≡ Some t) × LeastIn (From lo m) c t
  column_least c lo m v o p e =
      let (t, at-t, l) = at_most_row k (lowest c lo m) o (lowest_bound c lo m v o p (at_most_some k (c v) o e)) in
      (t, at-t, (lowest_reached c lo m t at-t, λ u q. by (c u) u q refl t at-t))
    where
      by : (x : Option (Row k)) (u : ℕ) → From lo m u → c u ≡ x → (t : Row k) → lowest c lo m ≡ Some t → NotAbove k (Some t) x
      by None u q f t at-t = tt
      by (Some x) u q f t at-t =
          let l : AtMost k (lowest c lo m) x = lowest_bound c lo m u x q (at_most_some k (c u) x f) in
          rw at-t at l

  module _
      (P : ℕ → Type 0) (rs : List (Record k)) (d : Cells k) (least : LeastOn k P rs d) (t : Schedule k)
      (times : (v : ℕ) → P v → LeastIn P (λ u. d u v) (t v)) where
    -- the time of a leg's goal is at most the way to its start, with the leg after it
    leg_kept : (r : Record k) → ContainsAt rs r → (e : End) (g : Leg k) → P g.from → P g.to → leg_of k r e ≡ Some g → Keeps k t g
    leg_kept r has e g pf pt h =
        let (u, pu, at-u) = (times g.from pf).0 in
        let (p, at_p) = record_leg_at k rs r e g has h in
        let leg : Reaches k rs g.from g.to g.length =
        (record { number = p; end = e; leg = g } ∷ [], record { taken = (at_p, tt); joined = (refl, refl) }, plus_zeros k g.length) in
        let start : Reaches k rs u g.from (t g.from) =
        least_reached k rs u g.from (d u g.from) (t g.from) (least u g.from pu pf) at-u in
        let way : Reaches k rs u g.to (plus k (t g.from) g.length) =
        reaches_append k rs u g.from g.to (t g.from) g.length start leg in
        let bound : AtMost k (d u g.to) (plus k (t g.from) g.length) =
        least_bound k rs u g.to (d u g.to) (plus k (t g.from) g.length) (least u g.to pu pt) way in
        minus_le_of_plus k (t g.to) (t g.from) g.length
        (le_at_most k (t g.to) (d u g.to) (plus k (t g.from) g.length) ((times g.to pt).1 u pu) bound)

    -- the least of each column, as times, meet each record between the pins
    least_times_meet : (r : Record k) → ContainsAt rs r → P r.first → P r.second → Meets k t r
    least_times_meet r has pi pj =
        meets_from_keeps k t r (λ e g h.
        let ends : P g.from × P g.to = each_leg k (λ x. P x.from × P x.to) r (λ l at-l. (pi, pj)) (λ l at-l. (pj, pi)) e g h in
        leg_kept r has e g ends.0 ends.1 h)

  -- the schedule of the least of each column, the latest of those that meet the list with no time above zero
  abbrev pub latest : Cells k → ℕ → ℕ → Schedule k
  latest d lo m v = unwrap_or (lowest (λ u. d u v) lo m) (zeros k)

  -- it meets all records between the pins of a table
  pub latest_meets :
      (lo m : ℕ) (rs : List (Record k)) (d : Cells k) → LeastOn k (From lo m) rs d → AllByRecursion (Among lo m) rs → MeetsAll k (latest d lo m) rs
  latest_meets lo m rs d least pins =
      all_both (ContainsAt rs) (Among lo m) (Meets k (latest d lo m))
      (λ r has p. least_times_meet (From lo m) rs d least (latest d lo m) times r has p.0 p.1) rs (all_has_itself rs) pins
    where
      times : (v : ℕ) → From lo m v → LeastIn (From lo m) (λ u. d u v) (latest d lo m v)
      times v q =
          let (t, at-t, low) = column_least (λ u. d u v) lo m v (zeros k) q (least_zero k rs v (d v v) (least v v q q)) in
          subst (LeastIn (From lo m) (λ u. d u v)) (sym (ap (λ (c : Option (Row k)). unwrap_or c (zeros k)) at-t)) low

  -- records on the pins 1 to n are among n from 1 on
  pub pins_among : (n : ℕ) (rs : List (Record k)) → AllByRecursion (OnPins k n) rs → AllByRecursion (Among 1 n) rs
  pins_among n rs on =
      All-weaker (OnPins k n) (Among 1 n) (λ r f. (omega (arith, f.first_pin), omega (arith, f.second_pin))) rs on

  -- records on the pins that have a table are met by some schedule
  pub table_feasible : (n : ℕ) (rs : List (Record k)) (d : Cells k) → AllByRecursion (OnPins k n) rs → Table k n rs d → Feasible k rs
  table_feasible n rs d on table =
      (latest d 1 n, latest_meets 1 n rs d (λ u v p q. table.least u v (omega arith) (omega arith)) (pins_among n rs on))

  -- two final times of a pin are one
  final_unique : (n : ℕ) (d : Cells k) (v : ℕ) (s t : Row k) → FinalTime k n d v s → FinalTime k n d v t → s ≡ t
  final_unique n d v s t f g = le_antisym k s t (upto s t f g) (upto t s g f)
    where
      upto : (x y : Row k) → FinalTime k n d v x → FinalTime k n d v y → Le k x y
      upto x y p q = let (u, pu, at-u) = q.reached in le_at_most k x (d u v) y (p.least u pu) (at_most_some k (d u v) y at-u)

-- the least of the column
pub one_final_time : OneFinalTime
one_final_time k n d diagonal v pin =
    let (t, at-t, ((u, p, at-u), low)) = column_least k (λ u. d u v) 1 n v (zeros k) (omega arith) (diagonal v pin) in
    let final : FinalTime k n d v t = record { reached = (u, omega arith, at-u); least = λ x q. low x (omega arith) } in
    (t, final, λ x f. final_unique k n d v x t f final)

-- they are the least of each column, and the diagonal is zero
pub final_times_meet_the_list : FinalTimesMeetTheList
final_times_meet_the_list k n rs d t on table final = (
  all_both (ContainsAt rs) (OnPins k n) (Meets k t)
      (λ r has f. least_times_meet k (Pin n) rs d table.least t (λ v p. ((final v p).reached, (final v p).least)) r has f.first_pin f.second_pin)
      rs (all_has_itself rs) on,
  λ v p. le_at_most k (t v) (d v v) (zeros k) ((final v p).least v p) (at_most_some k (d v v) (zeros k) (table.diagonal v p)),
)
