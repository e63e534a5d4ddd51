use Rattle.std.proofs.Common.{w64, SFits, rules}
use Rattle.offsets.proofs.OffsetWritten.write.Goals as goal
use Rattle.offsets.proofs.Saturated.{writes_saturated}
use Rattle.offsets.specs.Offsets.{whole}
use Rattle.std.proofs.lemmas.Int.{to_z-of_z}

pub returns : goal.returns
returns c =
    let number : SFits w64 c.args.self.number = search rules in
    let offset : SFits w64 c.args.self.offset = search rules in
    let both : SFits w64 c.saturating_add-picoseconds.result = search rules in
    let sum = simp to_z-of_z at c.saturating_add-picoseconds.ensures in
    let written = simp sum at (simp to_z-of_z at c.write.ensures.value) in
    record { value = writes_saturated (whole c.args.self) _ _ c.write.result written }
