use Rattle.std.proofs.Common.{◌≡◌, map, rules, arith}
use Rattle.mirror.specs.declared.numbers.Place.{Place}
use Rattle.mirror.specs.Codes.{column_in}
use Rattle.mirror.proofs.Lists.{made}
use Rattle.mirror.proofs.numbers.Row.showing.Goals as goal

pub returns : goal.returns
returns c =
    let none : Place = record { kind = 0; byte = 0; field = 0 } in
    let columns : c.from_fn.result ≡ map column_in c.args.self.now.columns =
    made _ _ column_in _ _ 80 none (omega arith) c.from_fn.ensures.items (λ q i y t. search rules) in
    search (rules, columns)
