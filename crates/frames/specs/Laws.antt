-- What is known of the words of a book.
use Rattle.std.specs.Prelude.{◌≡◌, ℕ, ◌<◌, ◌≤◌, List, ◌++◌, replicate}
use Rattle.stations.specs.declared.TheConstants.{STATIONS}
use Rattle.stations.specs.declared.StationSet.{StationSet}
use Rattle.stations.specs.Stations.{none, Within}
use Rattle.rules.specs.declared.TheConstants.{LAST_ROUND}
use Rattle.frames.specs.Book.{entry_word, station_in, round_in, senders_in, heard_set, heard_sets, book_heard, hears}

pub record BookLaws : Type 0 where
  -- an entry's word names its station, its round and its senders
  pub station : (p k : ℕ) (heard : StationSet) → Within heard → k ≤ LAST_ROUND → station_in (entry_word p k heard) ≡ p
  pub round : (p k : ℕ) (heard : StationSet) → Within heard → k ≤ LAST_ROUND → round_in (entry_word p k heard) ≡ k
  pub senders : (p k : ℕ) (heard : StationSet) → Within heard → senders_in (entry_word p k heard) ≡ heard
  -- zero words name nobody, and add nobody after others
  pub zeros : (m p k : ℕ) → heard_set (replicate m 0) p k ≡ none
  pub zeros_after : (words : List ℕ) (m p k : ℕ) → heard_set (words ++ replicate m 0) p k ≡ heard_set words p k
  -- whom a station hears by the sets of a round is whom the words name for it
  pub hear : (words : List ℕ) (k p q : ℕ) → p < STATIONS → hears (heard_sets words k) p q ≡ book_heard words p k q
