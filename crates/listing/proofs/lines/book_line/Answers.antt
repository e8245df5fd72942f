use Rattle.listing.proofs.Filling.{holds}
use Rattle.listing.proofs.lines.book_line.Goals as goal

pub returns : goal.returns
returns c = holds c.number.new.self _ (rw (c.number.ensures.after, c.word.ensures.after, c.blank-out.ensures))
