-- An accepted crash keeps the invariant.
use Rattle.std.proofs.Common.{ℕ, ◌<◌, List, length, set, refl, arith}
use Rattle.std.proofs.lemmas.Bool.{leb-false, true≢false}
use Rattle.rules.specs.Rule.{Behaviour}
use Rattle.protocol.specs.declared.types.StationRecord.{StationRecord}
use Rattle.protocol.specs.declared.types.Stand.TheVariants.{Down}
use Rattle.protocol.specs.declared.types.Step.TheVariants.{Crash}
use Rattle.protocol.specs.World.{World, station}
use Rattle.protocol.specs.Steps.{step}
use Rattle.protocol.specs.Calls.{crash_tests, with_stations}
use Rattle.protocol.specs.Tally.{Tally, tally_accepted}
use Rattle.protocol.proofs.Change.{station_changed}
use Rattle.protocol.proofs.Invariant.{Inv, Follows, attempted}
use Rattle.protocol.proofs.Outcomes.{none_holds}

module _ {S L : Type 0} (R : Behaviour S L) (values : List ℕ) (B : ℕ) (w : World S L) (t : Tally) (i : Inv R values B w t) where
  pub crashed : (p : ℕ) → Follows R values B (step R w (Crash p)).0 (step R w (Crash p)).1 t (tally_accepted R values t (Crash p))
  unfolding step tally_accepted
  crashed p =
      let s : StationRecord = station w p in
      attempted R values B w (with_stations R w (set w.stations p (record s { stand = Down })))
      _ 0 t t i (λ fine.
      let b = none_holds (crash_tests R w p) fine in
      let h : p < length values = omega (arith, leb-false w.n p (b 2), i.n_is) in
      station_changed R values B w t i p (record s { stand = Down }) w.letters t.notes h
      (λ p' r q e. refl) (λ p' q e l. refl) refl (λ up. absurd (true≢false up)))
