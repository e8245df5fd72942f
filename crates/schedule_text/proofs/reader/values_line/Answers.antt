use Rattle.std.proofs.Common.{◌+◌, ◌∷◌, ◌==◌, length, drop, vec_items, sym, ◌∙◌, subst, arith, rules, tests}
use Rattle.std.proofs.lemmas.List.{length_push}
use Rattle.std.proofs.lemmas.Iterator.Consumers.{YieldsList-at, YieldsList-turn, YieldsList-end}
use Rattle.std.proofs.lemmas.Iterator.Splits.{YieldsList-from_slice_split}
use Rattle.schedule_text.proofs.Values.{words, ReadSoFar, values_not_begin, next_word, no_word, bad_word, too_many, one_word_more, all_words_read}
use Rattle.schedule_text.proofs.reader.values_line.Goals as goal
use Rattle.schedule_text.proofs.reader.values_line.Goals.{After-number}

pub returns-in_default : goal.returns-in_default
returns-in_default c = values_not_begin c.args.line.now c.in_default.ensures.cases

-- the loop before the word that it has come to
here : (c : After-number) → ReadSoFar (words c.args.line.now) (vec_items c.loop-digits.values)
    (c.in-Some-digits.digits.now ∷ drop (length c.loop-digits.yielded + 1) (words c.args.line.now))
here c =
    let line = c.args.line.now in
    let numbers = c.in-Some.numbers.now in
    let turn = YieldsList-turn
    (YieldsList-at c.into_iter-digits-iterator.ensures.into_iter_gives
    (YieldsList-from_slice_split _
    (λ b. b == 32) numbers c.split-digits-items.ensures.rest c.split-digits-items.ensures.done c.split-digits-items.ensures.closure
    (λ x r q k. search (rules, tests))))
    c.loop-digits.yielded _ c.loop-digits.yielded_by _ _ c.in-Some-digits.digits c.in-Some-digits.is c.next.ensures.steps in
    subst (ReadSoFar (words line) (vec_items c.loop-digits.values))
    (next_word line numbers c.in-Some.ensures.cases.1 (length c.loop-digits.yielded) c.in-Some-digits.digits.now turn) c.loop-digits.invariant

pub returns-in_default-number : goal.returns-in_default-number
returns-in_default-number c =
    bad_word c.args.line.now c.in-Some.ensures.cases.0 _ _ _ (here (goal.at.returns-in_default-number c).After-number)
    (sym c.in_default-number.is ∙ c.number.ensures)

pub returns-then-len-eq-MAX_VALUES : goal.returns-then-len-eq-MAX_VALUES
returns-then-len-eq-MAX_VALUES c =
    let old = here (goal.at.returns-then-len-eq-MAX_VALUES c).After-number in
    too_many c.args.line.now c.in-Some.ensures.cases.0 (omega (arith, old.count, c.loop-digits.values.ok.0))

pub loop-digits-preserved : goal.loop-digits-preserved
loop-digits-preserved c =
    let line = c.args.line.now in
    let after = one_word_more (words line) _ (vec_items c.push.new.self) _ _ c.in-Some-number.value
    (here (goal.at.loop-digits-preserved c).After-number) c.in-Some-number.ensures (omega (arith, c.loop-digits.values.ok.0)) c.in_ok-push.ensures.items in
    subst (λ n. ReadSoFar (words line) (vec_items c.push.new.self) (drop n (words line)))
    (sym (length_push c.loop-digits.yielded c.in-Some-digits.digits)) after

pub returns : goal.returns
returns c =
    let line = c.args.line.now in
    let numbers = c.in-Some.numbers.now in
    let over = YieldsList-end
    (YieldsList-at c.into_iter-digits-iterator.ensures.into_iter_gives
    (YieldsList-from_slice_split _
    (λ b. b == 32) numbers c.split-digits-items.ensures.rest c.split-digits-items.ensures.done c.split-digits-items.ensures.closure
    (λ x r q k. search (rules, tests))))
    c.loop-digits.yielded _ c.loop-digits.yielded_by _ _ c.in-None.is c.next.ensures.steps in
    all_words_read line c.in-Some.ensures.cases.0 (vec_items c.loop-digits.values)
    (subst (ReadSoFar (words line) (vec_items c.loop-digits.values))
    (no_word line numbers c.in-Some.ensures.cases.1 (length c.loop-digits.yielded) over.1) c.loop-digits.invariant)
