use Rattle.std.proofs.Common.{◌≡◌, false, ltb, rules, sym, ap, ◌∙◌}
use Rattle.std.specs.Option.{unwrap_or}
use Rattle.std.proofs.lemmas.Iterator.{YieldsList-from_slice, YieldsList-from_map}
use Rattle.std.proofs.lemmas.Iterator.Adapters.{option_map_id}
use Rattle.std.proofs.lemmas.Iterator.Consumers.{YieldsList-from_filter, min_from_yields_List}
use Rattle.std.proofs.lemmas.Iterator.Search.{find_from_yields_List}
use borrow.Author.Tests.{tests}
use Rattle.source.specs.Stalling.{covers, busy_in}
use Rattle.source.proofs.Scan.{free_if_none, free_below_least}
use Rattle.source.proofs.stalls.stretch_from.Goals as goal

pub returns-in-None : goal.returns-in-None
returns-in-None c =
    let xs = c.args.spans.now in
    let clock = c.args.clock in
    let now : busy_in xs clock ≡ false =
    free_if_none (λ s. s.now) xs clock c.find.result
    (find_from_yields_List (λ s. covers s clock) _ _ c.find.result c.find.ensures.ran (YieldsList-from_slice xs cc) (λ x b q k. search (rules, tests)))
    c.in-None.is in
    let least =
    min_from_yields_List _ c.min.result c.min.ensures.ran (
    YieldsList-from_filter _ (ltb clock) (YieldsList-from_map _ (λ s. s.first) (YieldsList-from_slice xs cc) c.map.ensures.closure (λ x r q k. search rules))
    c.filter-ahead.ensures.closure (λ x b q k. search (rules, tests))
    ) in
    let e = c.unwrap_or.ensures ∙ ap (λ o. unwrap_or o 4294967295) (sym (option_map_id c.min.result) ∙ least) in
    record { now = now; steady = λ t a b. free_below_least xs clock 4294967295 t now a (rw e at b); ahead = λ q. cc q }
