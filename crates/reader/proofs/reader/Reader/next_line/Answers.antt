use Rattle.std.proofs.Common.{refl, ap, Some, inr, arith, length-take-le}
use Rattle.std.proofs.lemmas.List.{take_rest}
use Rattle.reader.proofs.Readings.{line_ahead}
use Rattle.reader.specs.Readings.{rest}
use Rattle.reader.proofs.reader.Reader.next_line.Goals as goal

pub returns-in-Ok : goal.returns-in-Ok
returns-in-Ok g c =
    let first = simp take_rest at c.in-Some.ensures in
    record {
      next = record {
        bytes = _;
        ahead = line_ahead c.args.self.now c.in-Some.length c.in_ok-before_lines.ensures first;
        good = simp take_rest at c.in-Ok.ensures.judged;
        text = refl;
        place = omega (arith, length-take-le c.in-Some.length (rest c.args.self.now) (omega (arith, first.within)));
        number = refl;
        last = ap Some c.letter.ensures.value;
      };
    }

pub returns-in-Err : goal.returns-in-Err
returns-in-Err g c =
    let first = simp take_rest at c.in-Some.ensures in
    record {
      next = (
        inr (record {
          bytes = _;
          ahead = line_ahead c.args.self.now c.in-Some.length c.in_ok-before_lines.ensures first;
          faulty = simp take_rest at c.in-Err.ensures.judged;
          number = refl;
        }),
        refl,
      );
    }
