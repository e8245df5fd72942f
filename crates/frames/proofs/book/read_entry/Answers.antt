use Rattle.std.proofs.Common.{arith}
use Rattle.frames.proofs.Entries.{entry_again}
use Rattle.frames.proofs.book.read_entry.Goals as goal

pub returns-clause-packs_again : goal.returns-clause-packs_again
returns-clause-packs_again c = entry_again c.args.word (c.station_in.result, c.round_in.result, c.senders_in.result) (omega arith) cc
