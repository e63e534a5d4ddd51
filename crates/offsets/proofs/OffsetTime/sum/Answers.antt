use Rattle.std.proofs.Common.{◌+ℤ◌, SFits, rules}
use mir.Syntax.{w128}
use Rattle.offsets.proofs.OffsetTime.sum.Goals as goal
use Rattle.std.proofs.lemmas.Int.{to_z-of_z}

pub returns : goal.returns
returns c =
    let first : SFits w128 c.from.result = search rules in
    let second : SFits w128 c.from-2.result = search rules in
    let both : SFits w128 (c.from.result +ℤ c.from-2.result) = search rules in
    let given = simp to_z-of_z at c.given.ensures.value in
    record { value = simp (c.from.ensures, c.from-2.ensures) at given }
