-- How many words the program has for its pool and its book.
use Rattle.std.specs.Prelude.{◌≡◌, [], length}
use Rattle.third_rule.specs.declared.State.{State}
use Rattle.third_rule.specs.declared.Letter.{Letter}
use Rattle.protocol.specs.World.{World}
use Rattle.schedule.specs.Program.{new_shed}

abbrev pub program_shed : World State Letter
program_shed = new_shed [] []

pub record ProgramWords : Type 0 where
  pub pool : length program_shed.pool ≡ 256
  pub book : length program_shed.book ≡ 1024
