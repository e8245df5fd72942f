-- Worked examples of frames and book entries.
use Rattle.std.specs.Prelude.{◌≡◌, ℕ, List, [], ◌∷◌, Some, None}
use Rattle.stations.specs.Stations.{none, with_station}
use Rattle.third_rule.specs.Third.{third}
use Rattle.last_rule.specs.Last.{last}
use Rattle.frames.specs.Frame.{frame_word, read_frame}
use Rattle.frames.specs.Book.{entry_word}

-- a frame of each rule, and an entry
abbrev pub words : List ℕ
words = 0x0100100070000000 ∷ 0x20004012C0020000 ∷ 0x1001C00000000000 ∷ []

pub record WordExamples : Type 0 where
  pub packed :
      frame_word third (0, 1, 1, record { value = 7 }) ∷ frame_word last (2, 0, 4, record { value = 300; stamp = 1 }) ∷
      entry_word 1 1 (with_station (with_station none 0) 1) ∷ [] ≡ words
  pub third_reads : read_frame third 2 0x0100100070000000 ≡ Some (0, 1, 1, record { value = 7 })
  pub last_reads : read_frame last 3 0x20004012C0020000 ≡ Some (2, 0, 4, record { value = 300; stamp = 1 })
  -- a station that is not there, and low bits that no letter has
  pub no_sender : read_frame last 2 0x20004012C0020000 ≡ None
  pub no_letter : read_frame third 2 0x0100100070000001 ≡ None
