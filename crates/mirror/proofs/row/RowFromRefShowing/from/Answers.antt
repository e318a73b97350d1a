use Rattle.std.proofs.Common.{◌≡◌, map, rules, arith}
use Rattle.mirror.specs.declared.numbers.Place.{Place}
use Rattle.mirror.specs.Codes.{column_in}
use Rattle.mirror.proofs.Lists.{made_back}
use Rattle.mirror.proofs.row.RowFromRefShowing.from.Goals as goal

pub returns : goal.returns
returns c =
    let none : Place = record { kind = 0; byte = 0; field = 0 } in
    let columns : map column_in c.from_fn.result ≡ c.args.showing.now.columns =
    made_back _ _ column_in _ _ 80 (column_in none) none (omega arith) c.from_fn.ensures.items (λ q i y t. search rules) in
    search (rules, columns)
