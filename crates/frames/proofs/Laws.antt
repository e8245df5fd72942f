-- The laws of a book's words hold.
use Rattle.frames.specs.Laws.{BookLaws}
use Rattle.frames.proofs.Entries.{entry_station, entry_round, entry_senders}
use Rattle.frames.proofs.Sets.{zeros_heard, zeros_after, sets_hear}

pub book_laws : BookLaws
book_laws = record {
  station = entry_station;
  round = entry_round;
  senders = entry_senders;
  zeros = zeros_heard;
  zeros_after = zeros_after;
  hear = sets_hear;
}
