use Rattle.std.proofs.Common.{arith}
use Rattle.std.proofs.lemmas.Bool.Decides.{nat_tests}
use Rattle.frames.specs.Book.{entry_word}
use Rattle.frames.proofs.Entries.{entry_back}
use Rattle.frames.proofs.book.pack_entry.Goals as goal

pub returns : goal.returns
unfolding entry_word
returns c = record {
  word = grind (arith, nat_tests);
  reads_back = entry_back c.args.station c.args.round c.args.heard (omega arith) _ (grind (arith, nat_tests));
}
