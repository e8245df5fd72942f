use Rattle.std.proofs.Common.{rules, sym, ap, ◌∙◌}
use Rattle.std.specs.Bool.{then_some}
use Rattle.std.specs.Option.{option_or}
use Rattle.third.proofs.Counted.{winner_quorum}
use Rattle.third_rule.proofs.Moves.{moves}
use Rattle.third.proofs.ThirdRule.next.Goals as goal

pub returns-clause-value : goal.returns-clause-value
returns-clause-value c =
    let best = c.commonest-best in
    let quorum = winner_quorum c.args.n c.args.mailbox.now c.args.state.now.value best.result.0 best.result.1 best.ensures.value best.ensures.count
    (search rules) in
    let shown = c.then_some.ensures ∙ ap (λ t. then_some t best.result.0) c.is_quorum-2.ensures ∙ sym quorum in
    let hull = c.or-hull.ensures ∙ ap (option_or c.args.state.now.hull) shown in
    search (rules, hull)

pub returns-clause-moves : goal.returns-clause-moves
returns-clause-moves c = moves _ _ _ _ _ _ (returns-clause-value c)
