use Rattle.std.proofs.Common.{rules, tests}
use Rattle.std.proofs.lemmas.Iterator.{YieldsList-from_slice}
use Rattle.std.proofs.lemmas.Iterator.Consumers.{YieldsList-from_copied}
use Rattle.std.proofs.lemmas.Iterator.Search.{find_from_yields_List}
use Rattle.frames.specs.Book.{is_for}
use Rattle.frames.proofs.Sets.{set_found}
use Rattle.frames.proofs.book.senders.Goals as goal

pub returns : goal.returns
returns c =
    let found = find_from_yields_List (is_for c.args.station c.args.round) _ _ c.find.result c.find.ensures.ran
    (YieldsList-from_copied (YieldsList-from_slice c.args.words.now cc)) (λ w b q k. search (rules, tests)) in
    set_found c.find.result _ c.args.words.now c.args.station c.args.round found (rw c.empty.ensures.set at c.map_or.ensures)
