-- A number that is saturated to 64 bits is written as the number itself is. Assumes nothing.
use Rattle.std.proofs.Common.{◌≡◌, ℕ, ◌≤◌, List, ℤ, pos, negsuc, nat_abs, Ok, Err, Result, ap, subst, arith}
use Rattle.kinds.specs.Kinds.{ShowsRow, WritesRow, widest}
use Rattle.kinds.specs.declared.time.Unwritten.{Unwritten}
use Rattle.kinds.specs.declared.time.Unwritten.TheVariants.{WrongWidth, TooLarge}
use Rattle.std.specs.Int.{saturate_to_bits}

-- A number whose saturated one is small is that one.
saturated_small : (z : ℤ) → nat_abs (saturate_to_bits 63 z) ≤ widest → saturate_to_bits 63 z ≡ z
saturated_small (pos n) h = ap pos (omega arith)
saturated_small (negsuc n) h = ap negsuc (omega arith)

-- A small number has a small saturated one.
small_saturated : (z : ℤ) → nat_abs z ≤ widest → nat_abs (saturate_to_bits 63 z) ≤ widest
small_saturated (pos n) h = omega arith
small_saturated (negsuc n) h = omega arith

-- To write the saturated number is to write the number.
pub writes_saturated : (z : ℤ) (before after : List ℕ) (r : Result (Unit {0}) Unwritten) → WritesRow 1 (saturate_to_bits 63 z, tt) before after r → WritesRow 1 (z, tt) before after r
writes_saturated z before after (Ok _) h =
    let same = saturated_small z h.0.0 in
    (subst (λ (x : ℤ). (nat_abs x ≤ widest) × Unit {0}) same h.0, subst (λ (x : ℤ). ShowsRow 1 after (x, tt)) same h.1)
writes_saturated z before after (Err WrongWidth) h = h
writes_saturated z before after (Err TooLarge) h = (h.0, h.1, λ w. h.2 (small_saturated z w.0, tt))
