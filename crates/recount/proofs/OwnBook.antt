-- Recount over a shed's own book gives the states of its stations.
use Rattle.std.proofs.Common.{◌≡◌, ℕ, ◌+◌, ◌-◌, ◌^◌, ◌<◌, ◌≤◌, Bool, ltb, List, ◌++◌, map, length, get_or, take, replicate, None, Ok, Result, sym, ap}
use Rattle.std.proofs.Common.{◌∙◌, inl, inr, arith}
use mathlib.Core.Path.{fun_ext}
use lib.ListN.{length-replicate}
use lib.Seq.{take-append-add}
use Rattle.std.proofs.lemmas.List.{take-replicate, take_all, length-map}
use Rattle.std.proofs.lemmas.Bool.{cases_lt}
use Rattle.std.proofs.lemmas.Bool.Decides.{nat_tests}
use Rattle.stations.specs.Stations.{contains}
use Rattle.rules.specs.declared.TheConstants.{LAST_ROUND}
use Rattle.rules.specs.Rule.{Behaviour, Interface, Laws, Ranges, Heard, lockstep}
use Rattle.lists.proofs.Tables.{get_or_written}
use Rattle.frames.specs.Book.{book_heard}
use Rattle.frames.proofs.Laws.{book_laws}
use Rattle.protocol.specs.declared.refusal.Refusal.{Refusal}
use Rattle.protocol.specs.World.{World}
use Rattle.protocol.specs.Refusals.{attempt}
use Rattle.protocol.specs.Steps.{after, refusals}
use Rattle.protocol.specs.Calls.{opened}
use Rattle.protocol.specs.Tally.{Triple, start, tally}
use Rattle.protocol.specs.Guarantee.{Guarantee, entry}
use Rattle.protocol.proofs.Guaranteed.{guaranteed}
use Rattle.recount.specs.Recount.{run_refusal, recounted, RecountBuffers, shortest, recount_call}
use Rattle.recount.specs.Agreeing.{Agrees}

-- of zero words after others, fewer are zero words too
some_zeros : (m j : ℕ) → (i : ℕ) × (take {A = ℕ} m (replicate j 0) ≡ replicate i 0)
some_zeros m j = elim (cases_lt m j) [
  | inl h ↦ (m, take-replicate m j 0 (omega arith))
  | inr h ↦ (j, take_all m (replicate j 0) (omega (arith, length-replicate {A = ℕ} j 0)))
]

-- however many of the zero words after the entries are read, the same senders are named
own_heard : (ws words : List ℕ) (j more : ℕ) → words ≡ take (length ws + more) (ws ++ replicate j 0) → book_heard words ≡ book_heard (ws ++ replicate j 0)
own_heard ws words j more e =
    let z = some_zeros more j in
    let is : words ≡ ws ++ replicate z.0 0 = e ∙ take-append-add ws (replicate j 0) more ∙ ap (λ xs. ws ++ xs) z.1 in
    ap book_heard is ∙ fun_ext (λ p. fun_ext (λ k. ap contains (book_laws.zeros_after ws z.0 p k ∙ sym (book_laws.zeros_after ws j p k))))

-- no reason to refuse
accepts : (most n shortest round : ℕ) → 1 ≤ n → n ≤ most → n ≤ shortest → round ≤ LAST_ROUND → run_refusal most n shortest (ltb LAST_ROUND round) ≡ None
accepts most n shortest round a b c d = grind (arith, nat_tests)

pub agrees :
    {S L : Type 0} (R : Behaviour S L) {letter_fits : L → Bool} → Interface R → Laws R letter_fits → Ranges R letter_fits → (values : List ℕ) →
    ((p : ℕ) → p < length values → get_or values p 0 < 2 ^ 16) →
    (words : List ℕ) (round : ℕ) (b : RecountBuffers S L) (answer : Result ℕ Refusal) (cells : List S) →
    (answer, cells) ≡ recount_call R values words round b → Agrees R values words round b answer cells
unfolding Agrees
agrees {S} {L} R {letter_fits} face laws ranges values small words round b answer cells call fresh calls p fine h own at long =
    let w : World S L = after R (opened R fresh values) calls in
    let ts : List Triple = (tally R values start calls (refusals R (opened R fresh values) calls)).triples in
    let g : Guarantee R values (opened R fresh values) calls = guaranteed R letter_fits face laws ranges fresh values small fine calls in
    let limit : round ≤ LAST_ROUND = omega (arith, at, g.limited p h) in
    let go : run_refusal R.most (length values) (shortest b) (ltb LAST_ROUND round) ≡ None =
    accepts R.most (length values) (shortest b) round g.sized.some g.sized.few long limit in
    let came : ◌≡◌ {A = Result ℕ Refusal × List S} (answer, cells) (Ok round, recounted R values words round b.states) =
    call ∙ ap (λ r. attempt b.states r round (recounted R values words round b.states)) go in
    let count : w.entries + own.0 ≡ length (map entry ts) + own.0 = omega (arith, g.filled, length-map ts entry) in
    let j : ℕ = length (opened R fresh values).book - length ts in
    let book : w.book ≡ map entry ts ++ replicate j 0 = g.recorded in
    let mine : words ≡ take (length (map entry ts) + own.0) (map entry ts ++ replicate j 0) =
    own.1 ∙ ap (λ m. take m w.book) count ∙ ap (take (length (map entry ts) + own.0)) book in
    let same : book_heard words ≡ book_heard w.book = own_heard (map entry ts) words j own.0 mine ∙ sym (ap book_heard book) in (
      ap (λ x. x.0) came,
      λ d.
          ap (λ x. get_or x.1 p d) came
          ∙ get_or_written (length values) (lockstep R values (book_heard words) round) b.states p d h
          ∙ ap (λ (H : Heard). lockstep R values H round p) same
          ∙ ap (λ k. lockstep R values (book_heard w.book) k p) at
          ∙ sym (g.refined p h),
    )
