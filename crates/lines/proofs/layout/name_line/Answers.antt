use Rattle.std.proofs.Common.{◌≡◌, ◌∷◌, length, get_or, drop, sym, ap, ◌∙◌, rules}
use Rattle.std.proofs.lemmas.List.{drop_at}
use Rattle.lines.proofs.Layouts.{no_name}
use Rattle.lines.proofs.layout.name_line.Goals as goal

pub returns-in_default : goal.returns-in_default
returns-in_default c k = no_name k c.args.rest.now (λ pin name four same.
    let after : c.in_ok-pin.after.now ≡ 32 ∷ name = c.in_ok-pin.ensures.cases.2 ∙ ap (drop 4) (sym same) ∙ drop_at pin (32 ∷ name) 4 four in
    let some = ap length after in
    let space : get_or c.in_ok-pin.after.now 0 0 ≡ 32 = ap (λ l. get_or l 0 0) after in
    search rules)
