use Rattle.std.proofs.Common.{◌≡◌, ◌++◌, drop, vec_items}
use Rattle.listing.specs.Listing.{refusals_text}
use Rattle.listing.proofs.printer.Report.add_refusals.Given as goal

abbrev pub invariant-loop-step : goal.invariant-loop-step
invariant-loop-step l = vec_items l.out ++ refusals_text (drop l.step-index (vec_items l.self.refused)) ≡ vec_items l.initial.out ++ refusals_text
    (vec_items l.self.refused)
