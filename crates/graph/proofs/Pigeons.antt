-- Pins that stand once each, among 1 to n, are at most n. Assumes nothing.
use Rattle.std.proofs.Common.{ℕ, suc, ◌≤◌, eqb, List, [], ◌∷◌, length, ◌≢◌, ◌≡◌, false, arith}
use Rattle.std.specs.List.{AllByRecursion, IsDistinct}
use Rattle.std.proofs.ByRecursion.{All-weaker}
use Rattle.std.proofs.lemmas.Bool.{ne_eqb}
use Rattle.std.proofs.lemmas.Bool.Decides.{Decides-eqb}
use Rattle.std.proofs.lemmas.List.Elements.{All-contains, All-from_recursion}
use Rattle.std.proofs.lemmas.Map.Made.{is_member-Decides}
use Rattle.std.proofs.lemmas.Map.Steps.{length-le_from_distinct_below}
use Rattle.graph.specs.Schedules.{Pin}
use Rattle.graph.specs.Legs.{NoneTwice}

-- numbers of which none stands twice are distinct by their test
distinct : (us : List ℕ) → NoneTwice us → IsDistinct eqb us
unfolding IsDistinct
distinct [] h = tt
distinct (u ∷ us) h = (All-weaker (λ v. u ≢ v) (λ v. eqb u v ≡ false) (λ v. ne_eqb u v) us h.0, distinct us h.1)

-- with 0 before them the pins are distinct numbers below n + 1
pub pins_at_most : (n : ℕ) (us : List ℕ) → NoneTwice us → AllByRecursion (Pin n) us → length us ≤ n
pins_at_most n us h p =
    let once : NoneTwice (0 ∷ us) = (All-weaker (Pin n) (λ v. 0 ≢ v) (λ v q e. omega arith) us p, h) in
    let upto : AllByRecursion (λ u. u ≤ n) (0 ∷ us) = (omega arith, All-weaker (Pin n) (λ u. u ≤ n) (λ u q. q.1) us p) in
    let few : suc (length us) ≤ suc n =
    length-le_from_distinct_below (0 ∷ us) (suc n) (distinct (0 ∷ us) once)
    (λ q m. let b : q ≤ n = All-contains (λ u. u ≤ n) (0 ∷ us) q (All-from_recursion (λ u. u ≤ n) (0 ∷ us) upto) ((is_member-Decides Decides-eqb (0 ∷ us) q).0 m) in omega arith) in
    omega arith
