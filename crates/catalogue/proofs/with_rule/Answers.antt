use Rattle.std.proofs.Common.{sym, subst}
use Rattle.catalogue.specs.Catalogue.{behaviour_of, states_of, letters_of}
use Rattle.catalogue.proofs.with_rule.Goals as goal

pub returns-in-Third-clause-does : goal.returns-in-Third-clause-does
returns-in-Third-clause-does g c =
    subst (λ name. g.V.WithRule.promises c.args.visitor (behaviour_of name) (states_of name) (letters_of name) c.with_cells.result)
    (sym c.in-Third.is) c.with_cells.ensures

pub returns-in-Last-clause-does : goal.returns-in-Last-clause-does
returns-in-Last-clause-does g c =
    subst (λ name. g.V.WithRule.promises c.args.visitor (behaviour_of name) (states_of name) (letters_of name) c.with_cells-in-Last.result)
    (sym c.in-Last.is) c.with_cells-in-Last.ensures
