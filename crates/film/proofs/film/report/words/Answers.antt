use Rattle.std.proofs.Common.{rules, tests}
use Rattle.std.proofs.lemmas.Iterator.{items_from_collect, YieldsList-from_slice}
use Rattle.std.proofs.lemmas.Iterator.Consumers.{YieldsList-from_filter_map}
use Rattle.film.specs.FrameRows.{word_of}
use Rattle.film.proofs.Answered.{words_are}
use Rattle.film.proofs.film.report.words.Goals as goal

pub returns : goal.returns
returns c =
    rw (words_are c.args.answers.now)
    (items_from_collect _ c.collect.ensures.ran (YieldsList-from_filter_map _ word_of (YieldsList-from_slice c.args.answers.now cc) c.filter_map.ensures.closure (λ x r q k. search (rules, tests))))
