use Rattle.std.proofs.Common.{◌≡◌, ◌+◌, ◌*◌, ◌≤◌, drop}
use Rattle.stations.specs.declared.TheConstants.{STATIONS}
use Rattle.listing.specs.Reception.{turns_in_book, letters_heard}
use Rattle.listing.proofs.reception.count_turns.Given as goal

abbrev pub invariant-loop-word : goal.invariant-loop-word
invariant-loop-word l =
    (l.turns ≤ l.word-index) × (l.letters ≤ STATIONS * l.turns)
    × (l.turns + turns_in_book l.station (drop l.word-index l.book) ≡ turns_in_book l.station l.book)
    × (l.letters + letters_heard l.station (drop l.word-index l.book) ≡ letters_heard l.station l.book)
