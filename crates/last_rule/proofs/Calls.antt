-- What one call of `letter` tells of its sender, and what one call of `next` does in each round of a phase.
use Rattle.std.specs.Prelude.{◌≡◌, ℕ, ◌+◌, ◌*◌, ◌%◌, Bool, true, false, cond, not, ◌||◌, ltb, length, Some, None, Option, ◌==◌, nat_le, nat_lt}
use Rattle.std.specs.Prelude.{slice_index_or, refl}
use Rattle.std.proofs.Common.{sym, ap, subst, ◌∙◌, arith}
use Rattle.std.proofs.lemmas.Bool.{cond_both, cond-true, cond-false, ltb-true, eqb-true, and_parts, not_from_true, eq-eqb, lt-ltb, or_from}
use Rattle.rules.specs.Rule.{outside, Stable}
use Rattle.lists.proofs.Options.{none_some, only, unless}
use Rattle.last_rule.specs.declared.State.{State}
use Rattle.last_rule.specs.declared.Letter.{Letter}
use Rattle.last_rule.specs.Last.{last, phase, coordinator, by_round, stamped, Mailbox, At, heard, latest, committed_to, adopting, readied, commit}
use Rattle.last_rule.specs.Last.{collect, adopt, acknowledge, hull_after, decide, writes}
use Rattle.last_rule.specs.Moves.{VotesForLatest}
use Rattle.last_rule.proofs.Mailboxes.{has_latest}

-- ---- the four rounds of a phase
at_first : {A : Type 0} (k : ℕ) (a b c d : A) → k % 4 ≡ 0 → by_round k a b c d ≡ a
at_first k a b c d e = rw e

at_second : {A : Type 0} (k : ℕ) (a b c d : A) → k % 4 ≡ 1 → by_round k a b c d ≡ b
at_second k a b c d e = rw e

at_third : {A : Type 0} (k : ℕ) (a b c d : A) → k % 4 ≡ 2 → by_round k a b c d ≡ c
at_third k a b c d e = rw e

at_fourth : {A : Type 0} (k : ℕ) (a b c d : A) → k % 4 ≡ 3 → by_round k a b c d ≡ d
at_fourth k a b c d e = rw e

pub by_round_both : {A : Type 0} (P : A → Type 0) (k : ℕ) (a b c d : A) → P a → P b → P c → P d → P (by_round k a b c d)
by_round_both P k a b c d pa pb pc pd =
    cond_both (k % 4 == 0) a _ P (λ _. pa)
    (λ _. cond_both (k % 4 == 1) b _ P (λ _. pb)
    (λ _. cond_both (k % 4 == 2) c d P (λ _. pc) (λ _. pd)))

-- ---- letters
pub letter_is : (v x : ℕ) (l : Letter) → writes v x ≡ Some l → (l.value ≡ v) × (l.stamp ≡ x)
letter_is v x l e = (cc, cc)

-- what a letter tells of its sender p, whose state is s
pub record Sent (n p k : ℕ) (s : State) (l : Letter) : Type 0 where
  pub reported : k % 4 ≡ 0 → (l.value ≡ s.value) × (l.stamp ≡ stamped s.stamp)
  pub proposed : k % 4 ≡ 1 → (s.committed ≡ true) × (l.value ≡ s.vote)
  pub confirmed : k % 4 ≡ 2 → stamped s.stamp ≡ phase k + 1
  pub announced : k % 4 ≡ 3 → (s.ready ≡ true) × (l.value ≡ s.vote)

pub sent : (n p k q : ℕ) (s : State) (l : Letter) → last.letter n p k s q ≡ Some l → Sent n p k s l
sent n p k q s l e =
    let r = unless (outside last.most n p k || nat_le n q) _ l e in
    record {
      reported = λ z. let w = only _ _ l (sym (at_first k _ _ _ _ z) ∙ r.1) in letter_is _ _ l w.1;
      proposed = λ z. let w = only _ _ l (sym (at_second k _ _ _ _ z) ∙ r.1) in ((and_parts _ _ w.0).1, (letter_is _ _ l w.1).0);
      confirmed = λ z. let w = only _ _ l (sym (at_third k _ _ _ _ z) ∙ r.1) in eqb-true _ _ (and_parts _ _ w.0).1;
      announced = λ z. let w = only _ _ l (sym (at_fourth k _ _ _ _ z) ∙ r.1) in ((and_parts _ _ w.0).1, (letter_is _ _ l w.1).0);
    }

-- ---- states
-- a call that is accepted does what its round asks
module _ (n p k : ℕ) (s : State) (m : Mailbox) (accepted : outside last.most n p k ≡ false) (full : length m ≡ n) where
  accepted_next : last.next n p k s m ≡ by_round k (cond (p == coordinator n k) (collect n m s) s) (adopt (phase k) (slice_index_or m (coordinator n k) None) s)
      (cond (p == coordinator n k) (acknowledge n m s) s) (decide (p == coordinator n k) (slice_index_or m (coordinator n k) None) s)
  accepted_next = cond-false _ _ _ (or_from _ _ accepted (not_from_true _ (eq-eqb _ _ full)))

  pub next_first : k % 4 ≡ 0 → last.next n p k s m ≡ cond (p == coordinator n k) (collect n m s) s
  next_first e = accepted_next ∙ at_first k _ _ _ _ e

  pub next_second : k % 4 ≡ 1 → last.next n p k s m ≡ adopt (phase k) (slice_index_or m (coordinator n k) None) s
  next_second e = accepted_next ∙ at_second k _ _ _ _ e

  pub next_third : k % 4 ≡ 2 → last.next n p k s m ≡ cond (p == coordinator n k) (acknowledge n m s) s
  next_third e = accepted_next ∙ at_third k _ _ _ _ e

  pub next_fourth : k % 4 ≡ 3 → last.next n p k s m ≡ decide (p == coordinator n k) (slice_index_or m (coordinator n k) None) s
  next_fourth e = accepted_next ∙ at_fourth k _ _ _ _ e

  next_collects : k % 4 ≡ 0 → p ≡ coordinator n k → last.next n p k s m ≡ collect n m s
  next_collects e mine = next_first e ∙ cond-true _ _ _ (eq-eqb _ _ mine)

-- a coordinator that hears more than half votes for the latest letter
votes_for_latest : (n p k : ℕ) (s : State) (m : Mailbox) → VotesForLatest n p k s m (last.next n p k s m)
votes_for_latest n p k s m accepted full which mine most =
    let w = has_latest m (omega arith) in
    let commits : last.next n p k s m ≡ commit (latest m) s = next_collects n p k s m accepted full which mine ∙ cond-true _ _ _ (lt-ltb _ _ most) in
    (w.0, w.1, w.2, commits ∙ ap (λ o. commit o s) w.3)

pub collecting : (n p k : ℕ) (s : State) (m : Mailbox) (r : State) → r ≡ collect n m s → outside last.most n p k ≡ false → length m ≡ n → k % 4 ≡ 0 →
    p ≡ coordinator n k →
    (r ≡ last.next n p k s m) × VotesForLatest n p k s m r
collecting n p k s m r e accepted full which mine =
    let is : r ≡ last.next n p k s m = e ∙ sym (next_collects n p k s m accepted full which mine) in
    (is, subst (VotesForLatest n p k s m) (sym is) (votes_for_latest n p k s m))

-- what a state can become in a round, whatever the round and the mailbox
pub record Becomes (P : State → Type 0) (s : State) (m : Mailbox) : Type 0 where
  pub same : P s
  pub commits : (q : ℕ) (l : Letter) → At m q l → P (committed_to l.value s)
  pub adopts : (q x : ℕ) (l : Letter) → At m q l → P (adopting l.value x s)
  pub readies : P (readied s)
  pub decides : (coordinates : Bool) (o : Option Letter) → P (decide coordinates o s)

pub by_next : (P : State → Type 0) (n p k : ℕ) (s : State) (m : Mailbox) → Becomes P s m → P (last.next n p k s m)
by_next P n p k s m b =
    let c : ℕ = coordinator n k in
    cond_both (outside last.most n p k || not (length m == n)) s _ P (λ _. b.same)
    (λ _. by_round_both P k _ _ _ _
    (cond_both (p == c) _ s P (λ _. cond_both (nat_lt n (2 * heard m)) _ s P commits (λ _. b.same)) (λ _. b.same))
    (adopted (slice_index_or m c None) refl)
    (cond_both (p == c) _ s P (λ _. cond_both (nat_lt n (2 * heard m)) _ s P (λ _. b.readies) (λ _. b.same)) (λ _. b.same))
    (b.decides (p == c) (slice_index_or m c None)))
  where
    commits : ltb n (2 * heard m) ≡ true → P (commit (latest m) s)
    commits t =
        let w = has_latest m (omega (arith, ltb-true n (2 * heard m) t)) in
        rw w.3 (b.commits w.0 w.1 w.2.there)

    adopted : (o : Option Letter) → slice_index_or m (coordinator n k) None ≡ o → P (adopt (phase k) o s)
    adopted None e = b.same
    adopted (Some l) e = b.adopts (coordinator n k) (phase k + 1) l e

-- a hull that is shown stays
pub stable : Stable last
stable n p k h s m e =
    by_next (λ r. r.hull ≡ Some h) n p k s m (record {
      same = e;
      commits = λ _ _ _. e;
      adopts = λ _ _ _ _. e;
      readies = e;
      decides = λ coordinates o. cond_both coordinates _ _ (λ (r : State). r.hull ≡ Some h) (λ _. still s.hull o e) (λ _. still s.hull o e);
    })
  where
    still : (g : Option ℕ) (o : Option Letter) → g ≡ Some h → hull_after g o ≡ Some h
    still None o none = none_some none
    still (Some a) o same = same
