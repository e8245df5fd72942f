-- The lockstep run, from a round to the next.
use Rattle.std.proofs.Common.{◌≡◌, ℕ, suc, ◌+◌, ◌<◌, ◌≤◌, List, ◌++◌, length, get_or, take, drop, sym, refl, ap, ◌∙◌, add-one, arith}
use Rattle.lists.specs.Lists.{tabulate, written, put}
use Rattle.stations.specs.declared.StationSet.{StationSet}
use Rattle.stations.specs.declared.TheConstants.{STATIONS}
use Rattle.rules.specs.Rule.{Behaviour, next_state, lockstep}
use Rattle.rules.proofs.Runs.{run_laws}
use Rattle.lists.proofs.Tables.{tabulate_same, put_table, take_written, get_or_written, drop_written}
use Rattle.frames.specs.Book.{book_heard, hears, heard_sets}
use Rattle.frames.proofs.Laws.{book_laws}
use Rattle.recount.specs.Recount.{state_in, state_after, Advances, recounted}

-- the states after a round of a lockstep run are those of the run at the round after it
pub advances :
    {S L : Type 0} (R : Behaviour S L) (n k : ℕ) (sets : List StationSet) (states before after : List S) →
    after ≡ written n (state_after R n k sets states) before → Advances R n k sets states before after
unfolding Advances lockstep
advances R n k sets states before after e values H count heard state =
    let same : tabulate n (state_after R n k sets states) ≡ tabulate n (lockstep R values H (suc k)) =
    tabulate_same n _ _ (λ p h.
    let one : state_after R n k sets states p ≡ next_state R n p k (H p k) (lockstep R values H k) =
    (run_laws R).next_same n p k (hears sets p) (H p k) (state_in R n states) (lockstep R values H k) (state p h) (λ q l. heard p q h l) (λ q l _. state q l) in
    let def : lockstep R values H (suc k) p ≡ next_state R n p k (H p k) (lockstep R values H k) =
    ap (λ m. next_state R m p k (H p k) (lockstep R values H k)) count in
    one ∙ sym def) in
    e ∙ ap (λ xs. xs ++ drop n before) same

-- ---- the whole run
module _ {S L : Type 0} (R : Behaviour S L) (values book : List ℕ) where
  abbrev n : ℕ
  n = length values

  abbrev run : ℕ → ℕ → S
  run = lockstep R values (book_heard book)

  -- the first states are the run at round 0
  pub run_none :
      (cells opened : List S) → n ≤ length cells → opened ≡ put cells 0 (tabulate n (λ p. R.first n p (get_or values p 0))) →
      opened ≡ recounted R values book 0 cells
  unfolding lockstep
  run_none cells opened h e = e ∙ put_table n (run 0) cells h

  -- one round more
  pub run_more :
      (k : ℕ) (sets : List StationSet) (cells states scratch next front : List S) → n ≤ STATIONS →
      states ≡ recounted R values book k cells → sets ≡ heard_sets book k →
      next ≡ written n (state_after R n k sets states) scratch → front ≡ take n next →
      front ++ drop n states ≡ recounted R values book (k + 1) cells
  unfolding Advances
  run_more k sets cells states scratch next front few before heard advanced copied =
      let hear : (p q : ℕ) → p < n → q < n → hears sets p q ≡ book_heard book p k q = λ p q l m. rw heard (book_laws.hear book k p q (omega arith)) in
      let state : (p : ℕ) → p < n → state_in R n states p ≡ run k p = λ p l. rw before (get_or_written n (run k) cells p (R.first n p 0) l) in
      let new : next ≡ written n (run (suc k)) scratch = advances R n k sets states scratch next advanced values (book_heard book) refl hear state in
      let ahead : front ≡ tabulate n (run (suc k)) = copied ∙ ap (take n) new ∙ take_written n (run (suc k)) scratch in
      let rest : drop n states ≡ drop n cells = ap (drop n) before ∙ drop_written n (run k) cells in
      rw add-one (ap (λ xs. xs ++ drop n states) ahead ∙ ap (λ xs. tabulate n (run (suc k)) ++ xs) rest)
