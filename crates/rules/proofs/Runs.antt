-- The lockstep run: what it depends on, that its states and letters stay within their ranges, and that hulls stay.
use Rattle.std.proofs.Common.{◌≡◌, ℕ, zero, suc, ◌^◌, ◌<◌, ◌≤◌, Bool, true, T, List, length, get_or, Some, refl, ap, ◌∙◌, subst, inl, inr, arith}
use Rattle.std.proofs.lemmas.Bool.{cases_eq, cases_Bool}
use Rattle.rules.specs.Rule.{Behaviour, Ranges, Stable, Heard, MailFits, letter_heard, mailbox, next_state, lockstep}
use Rattle.rules.specs.Runs.{Known, RunLaws}
use Rattle.lists.proofs.Options.{only}
use Rattle.lists.proofs.Tables.{tabulate_same, at_tabulate}

-- the next state depends on whom the station hears below n, on its own state and on the states of those
next_same :
    {S L : Type 0} (R : Behaviour S L) (n p k : ℕ) (heard heard' : ℕ → Bool) (state state' : ℕ → S) → state p ≡ state' p →
    ((q : ℕ) → q < n → heard q ≡ heard' q) → ((q : ℕ) → q < n → heard' q ≡ true → state q ≡ state' q) →
    next_state R n p k heard state ≡ next_state R n p k heard' state'
next_same {S} {L} R n p k heard heard' state state' own same-heard same-state =
    let letters : mailbox R n p k heard state ≡ mailbox R n p k heard' state' =
    tabulate_same n (letter_heard R n p k heard state) (letter_heard R n p k heard' state') (λ q l. rw (same-heard q l)
    (elim (cases_Bool (heard' q)) [ inl t ↦ rw (same-state q l t) | inr f ↦ rw f ])) in
    ap (λ s. R.next n p k s (mailbox R n p k heard state)) own ∙ ap (R.next n p k (state' p)) letters

module _ {S L : Type 0} (R : Behaviour S L) (values : List ℕ) where
  -- a run with more rounds agrees with the first one wherever that is over
  run_grows :
      (H H' : Heard) (rounds : ℕ → ℕ) → Known H rounds → ((p k q : ℕ) → k < rounds p → H' p k q ≡ H p k q) →
      (k p : ℕ) → k ≤ rounds p → lockstep R values H' k p ≡ lockstep R values H k p
  unfolding lockstep
  run_grows H H' rounds known same zero p h = refl
  run_grows H H' rounds known same (suc k) p h =
      next_same R (length values) p k (H' p k) (H p k) (lockstep R values H' k) (lockstep R values H k)
      (run_grows H H' rounds known same k p (omega arith)) (λ q _. same p k q h) (λ q _ t. run_grows H H' rounds known same k q (known p k q t))

  -- the letters that a station hears are within their ranges if their senders' states are
  mail_fits :
      {fits : L → Bool} (ranges : Ranges R fits) (H : Heard) (k p : ℕ) → ((q : ℕ) → q < length values → T (ranges.state_fits (lockstep R values H k q))) →
      MailFits fits (mailbox R (length values) p k (H p k) (lockstep R values H k))
  mail_fits ranges H k p fits q l e =
      let at = at_tabulate (length values) (letter_heard R (length values) p k (H p k) (lockstep R values H k)) q l e in
      ranges.sent_fits (length values) q k p (lockstep R values H k q) l (fits q at.0) (only (H p k q) _ l at.1).1

  -- every state of a run is within its ranges
  run_fits :
      {fits : L → Bool} (ranges : Ranges R fits) → ((p : ℕ) → p < length values → get_or values p 0 < 2 ^ 16) → (H : Heard) (k p : ℕ) → p < length values →
      T (ranges.state_fits (lockstep R values H k p))
  unfolding lockstep
  run_fits ranges small H zero p h = ranges.first_fits (length values) p (get_or values p 0) (small p h)
  run_fits ranges small H (suc k) p h =
      ranges.next_fits (length values) p k (lockstep R values H k p) (mailbox R (length values) p k (H p k) (lockstep R values H k))
      (run_fits ranges small H k p h)
      (mail_fits ranges H k p (run_fits ranges small H k))

  -- a hull that is shown in a round is shown in every later one
  hull_stays :
      Stable R → (H : Heard) (p x : ℕ) (k m : ℕ) → k ≤ m → R.hull (lockstep R values H k p) ≡ Some x → R.hull (lockstep R values H m p) ≡ Some x
  unfolding lockstep
  hull_stays stable H p x k zero h e = let z : 0 ≡ k = omega arith in rw z e
  hull_stays stable H p x k (suc m) h e = elim (cases_eq k (suc m)) [
    | inl z ↦ subst (λ i. R.hull (lockstep R values H i p) ≡ Some x) z e
    | inr z ↦ stable (length values) p m x (lockstep R values H m p) (mailbox R (length values) p m (H p m) (lockstep R values H m))
        (hull_stays stable H p x k m (omega arith) e)
  ]

pub run_laws : {S L : Type 0} (R : Behaviour S L) → RunLaws R
run_laws R = record {
  next_same = next_same R;
  grows = λ values. run_grows R values;
  fits = λ values letter_fits ranges small. run_fits R values ranges small;
  hull_stays = λ values. hull_stays R values;
}
