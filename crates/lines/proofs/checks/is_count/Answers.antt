use Rattle.std.proofs.Common.{◌≡◌, pos, ap, ◌∙◌, arith, w64, to_z}
use Rattle.std.proofs.lemmas.Int.{to_z_pos}
use Rattle.lines.proofs.Fields.{decides_pin}
use Rattle.lines.proofs.checks.is_count.Goals as goal

pub returns : goal.returns
returns g c =
    let count : to_z w64 c.COUNT.result ≡ pos g.T.Time.COUNT = to_z_pos w64 c.COUNT.result (omega (arith, c.COUNT.ensures, g.met.T.Time.counted)) ∙ ap pos c.COUNT.ensures in
    rw (c.eq.ensures, count) (decides_pin c.args.columns.now c.pin.result (pos g.T.Time.COUNT) _ c.pin.ensures.value)
