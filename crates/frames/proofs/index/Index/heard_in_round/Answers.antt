use Rattle.std.proofs.Common.{rules, ◌+◌, ◌*◌, get_or, sym, ◌∙◌, arith}
use Rattle.frames.specs.declared.TheConstants.{ROUNDS}
use Rattle.stations.specs.declared.TheConstants.{STATIONS}
use Rattle.lists.proofs.Made.{made_table}
use Rattle.frames.specs.Book.{senders_in}
use Rattle.frames.proofs.Indexed.{sets_indexed, sets_past}
use Rattle.frames.proofs.index.Index.heard_in_round.Goals as goal

pub returns-then-round-ge-ROUNDS : goal.returns-then-round-ge-ROUNDS
returns-then-round-ge-ROUNDS c = λ book _. rw c.empty.ensures.set (sym (sets_past book c.args.round (omega arith)))

pub returns : goal.returns
returns c = λ book index.
    let words = c.args.self.now.words in
    let k = c.args.round in
    made_table _ _ STATIONS (λ p. senders_in (get_or words (p * ROUNDS + k) 0)) (λ p set q l called. search rules) _ c.from_fn.ensures.items
    ∙ sets_indexed words book k index (omega arith)
