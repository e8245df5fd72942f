-- Book entries survive their words, and words their entries but for the low bits.
use Rattle.std.proofs.Common.{◌≡◌, ℕ, ◌+◌, ◌*◌, ◌/◌, ◌%◌, ◌^◌, ◌<◌, ◌≤◌, true, ◌&&◌, ltb, Some, Option, ap, arith}
use Rattle.std.proofs.lemmas.Bool.{lt-ltb, ltb-true, and_parts}
use Rattle.lists.proofs.Options.{same_some, only}
use Rattle.stations.specs.declared.StationSet.{StationSet}
use Rattle.stations.specs.declared.TheConstants.{STATIONS}
use Rattle.frames.specs.declared.TheConstants.{ROUNDS}
use Rattle.rules.specs.declared.TheConstants.{LAST_ROUND}
use Rattle.stations.specs.Stations.{Within}
use Rattle.frames.specs.Book.{entry_word, packed_entry, station_in, round_in, senders_in, read_entry, EntryBack, EntryAgain}

-- ---- the parts of an entry's word
module _ (p k : ℕ) (heard : StationSet) (small : Within heard) where
  pub entry_station : k ≤ LAST_ROUND → station_in (entry_word p k heard) ≡ p
  unfolding entry_word
  entry_station h = omega arith

  pub entry_round : k ≤ LAST_ROUND → round_in (entry_word p k heard) ≡ k
  unfolding entry_word
  entry_round h = omega arith

  pub entry_senders : senders_in (entry_word p k heard) ≡ heard
  unfolding entry_word
  entry_senders =
      let bits : ((p * ROUNDS + k) * 2 ^ 48 + heard.bits * 2 ^ 32) / 2 ^ 32 % 2 ^ 16 ≡ heard.bits = omega arith in
      ap (λ b. record { bits = b }) bits

  -- ---- both ways
  pub entry_back : (word : Option ℕ) → word ≡ packed_entry p k heard → EntryBack p k heard word
  entry_back word is w e =
      let there = only (ltb p STATIONS && ltb k ROUNDS) (Some (entry_word p k heard)) w (cc) in
      let tests = and_parts (ltb p STATIONS) (ltb k ROUNDS) there.0 in
      let last : k ≤ LAST_ROUND = omega (arith, ltb-true k ROUNDS tests.1) in
      rw (← same_some there.1) (rw (entry_station last, entry_round last, entry_senders))

pub entry_again : (w : ℕ) (e : ℕ × ℕ × StationSet) → w < 2 ^ 64 → e ≡ read_entry w → EntryAgain w e
unfolding entry_word
entry_again w e small is =
    let t0 : ltb (w / 2 ^ 60) STATIONS ≡ true = lt-ltb (w / 2 ^ 60) STATIONS (omega arith) in
    let t1 : ltb ((w / 2 ^ 48) % ROUNDS) ROUNDS ≡ true = lt-ltb ((w / 2 ^ 48) % ROUNDS) ROUNDS (omega arith) in
    let whole : (w / 2 ^ 60 * ROUNDS + (w / 2 ^ 48) % ROUNDS) * 2 ^ 48 + (w / 2 ^ 32) % 2 ^ 16 * 2 ^ 32 ≡ w / 2 ^ 32 * 2 ^ 32 = omega arith in
    rw (is, t0, t1) (ap Some whole)
