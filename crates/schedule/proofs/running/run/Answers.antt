use Rattle.std.proofs.Common.{◌≡◌, length, take, vec_items, ap, ◌∙◌, arith}
use Rattle.std.proofs.lemmas.List.{length-take, with_items_is}
use Rattle.std.proofs.lemmas.Result.{err_from_is_err_and}
use Rattle.lists.proofs.Tables.{length_tabulate}
use Rattle.protocol.specs.Calls.{sight_of}
use Rattle.protocol.specs.World.{shut}
use Rattle.shed_core.specs.Of.{world_of}
use Rattle.schedule_text.specs.declared.reader.TheConstants.{FIRST_STEP}
use Rattle.schedule.specs.Program.{refused_from}
use Rattle.listing.specs.Listing.{listing_text}
use Rattle.schedule.proofs.Listed.{not_seen, values_few, book_short, listed}
use Rattle.schedule.proofs.running.run.Goals as goal

pub returns-in_err-stations : goal.returns-in_err-stations
returns-in_err-stations g c =
    let R = g.R.Rule.behaviour c.args.rule.now in
    let a = c.args in
    let p = err_from_is_err_and c.from_residual-in_err-stations.result c.from_residual-in_err-stations.ensures.1 in
    rw (p.1, p.2) (not_seen R (shut a.states.now a.letters.now a.pool.now a.book.now) a.values.now a.steps.now c.in_ok-shed.shed c.conduct.new.buffers
    c.as_mut_slice.result.now c.conduct.new.outcomes c.in_ok-shed.ensures.conducted c.in_err-stations.field-0.0 c.in_err-stations.ensures)

pub invariant_of-report : goal.invariant_of-report
invariant_of-report g c =
    let rule = c.args.rule.now in
    let R = g.R.Rule.behaviour rule in
    let a = c.args in
    let left = c.conduct.new.buffers in
    let new = shut a.states.now a.letters.now a.pool.now a.book.now in
    let shed = c.in_ok-shed.shed in
    let told = c.conduct.new.outcomes in
    let ran = c.in_ok-shed.ensures.conducted in
    let seen = ap length c.in_ok-stations.ensures ∙ length_tabulate (length a.values.now) (sight_of R (world_of shed left)) in
    record {
      few = omega (arith, seen, values_few R new a.values.now a.steps.now shed left c.as_mut_slice.result.now told ran (g.met.R.Rule.interface rule));
      short = omega (
        arith,
        book_short R new a.values.now a.steps.now shed left c.as_mut_slice.result.now told ran,
        length-take c.entries-entries.result left.book.now,
      );
    }

pub returns : goal.returns
returns g c =
    let R = g.R.Rule.behaviour c.args.rule.now in
    let a = c.args in
    let left = c.conduct.new.buffers in
    let made = c.in_ok-outcomes.outcomes in
    let whole : length c.conduct.new.outcomes ≡ made.len = c.conduct.auto.outcomes ∙ c.as_mut_slice.ensures.len in
    let refused = vec_items c.in_ok-refused.refused in
    let stations = vec_items c.in_ok-stations.stations in
    listed R (shut a.states.now a.letters.now a.pool.now a.book.now) a.values.now a.steps.now c.in_ok-shed.shed left
    c.as_mut_slice.result.now c.conduct.new.outcomes c.in_ok-shed.ensures.conducted
    (c.as_mut_slice.ensures.len ∙ c.in_ok-outcomes.ensures.len) refused stations _
    (c.in_ok-refused.ensures ∙ ap (refused_from FIRST_STEP) (c.as_slice.ensures.value ∙ with_items_is made c.conduct.new.outcomes whole))
    c.in_ok-stations.ensures
    (c.in_ok-print.ensures ∙ ap (λ k. listing_text refused stations (take k left.book.now)) c.entries-entries.ensures)
