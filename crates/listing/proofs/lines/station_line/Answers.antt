use Rattle.listing.proofs.Filling.{holds}
use Rattle.listing.proofs.lines.station_line.Goals as goal

pub returns : goal.returns
returns c = holds c.number-3.new.self _ (rw (
  c.number-3.ensures.after,
  c.word-4.ensures.after,
  c.hull_into.ensures.after,
  c.number-2.ensures.after,
  c.word-3.ensures.after,
  c.word-2.ensures.after,
  c.number.ensures.after,
  c.word.ensures.after,
  c.blank-out.ensures,
  c.stand_word.ensures,
  c.from.ensures,
))
