use Rattle.std.proofs.Common.{◌≡◌, pos, ap, ◌∙◌, arith, w64, w8, Fits, to_z, of_z, rules, length-set}
use Rattle.std.proofs.lemmas.Int.{to_z-of_z, to_z_pos}
use Rattle.lines.specs.Causes.{layer_number}
use Rattle.reader.proofs.FaultLines.{not_refused, fault_line}
use Rattle.reader.proofs.fault.write_fault.Goals as goal

pub returns-in_err-write_at : goal.returns-in_err-write_at
returns-in_err-write_at c =
    let number : to_z w64 (of_z w64 c.from.result) ≡ pos c.number.result = to_z-of_z w64 c.from.result (search rules) ∙ c.from.ensures in
    let small : Fits w8 c.number.result = search rules in
    let within = length-set c.args.bytes.now 0 69 in
    absurd (not_refused _ c.number.result _ c.in_err-write_at.ensures.value.1 (omega arith) number (omega arith) (omega (arith, small)))

pub returns-in_err-write_at-2 : goal.returns-in_err-write_at-2
returns-in_err-write_at-2 c =
    let number : to_z w64 (of_z w64 c.from-2.result) ≡ pos c.args.cause = to_z-of_z w64 c.from-2.result (search rules) ∙ c.from-2.ensures in
    let small = c.ranges.cause.fits in
    let first = c.in_ok-write_at.ensures.value in
    absurd (not_refused _ c.args.cause _ c.in_err-write_at-2.ensures.value.1 (omega (arith, first.len, length-set c.args.bytes.now 0 69)) number (omega arith) (omega (arith, small)))

pub returns-in_err-write_at-3 : goal.returns-in_err-write_at-3
returns-in_err-write_at-3 c =
    let number = to_z_pos w64 c.args.line (omega arith) in
    let first = c.in_ok-write_at.ensures.value in
    let second = c.in_ok-write_at-2.ensures.value in
    absurd (not_refused _ c.args.line _ c.in_err-write_at-3.ensures.value.1 (omega (arith, second.len, first.len, length-set c.args.bytes.now 0 69)) number (omega arith) (omega arith))

pub returns : goal.returns
returns c =
    let is-layer : to_z w64 (of_z w64 c.from.result) ≡ pos (layer_number c.args.layer) = to_z-of_z w64 c.from.result (search rules) ∙ c.from.ensures ∙ ap pos c.number.ensures.value in
    let is-cause : to_z w64 (of_z w64 c.from-2.result) ≡ pos c.args.cause = to_z-of_z w64 c.from-2.result (search rules) ∙ c.from-2.ensures in
    let is-line = to_z_pos w64 c.args.line (omega arith) in
    record { value = fault_line (layer_number c.args.layer) c.args.cause c.args.line _ _ _ c.args.bytes.now _ _ _ is-layer is-cause is-line c.if-bytes-ne-WIDTH.false c.in_ok-write_at.ensures.value c.in_ok-write_at-2.ensures.value c.in_ok-write_at-3.ensures.value }
