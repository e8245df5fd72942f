-- What each of a phase's four rounds does to the stations of a lockstep run.
use Rattle.std.specs.Prelude.{◌≡◌, ℕ, suc, ◌+◌, ◌*◌, ◌%◌, ◌<◌, ◌≤◌, Bool, true, false, cond, ◌⊎◌, List, length, is_some, Some, None, Option, ◌==◌}
use Rattle.std.specs.Prelude.{nat_eq, nat_lt, slice_index_or}
use Rattle.std.proofs.Math.Path.{refl}
use Rattle.std.proofs.Common.{sym, subst, ◌∙◌, inl, inr, arith}
use Rattle.std.proofs.lemmas.Bool.{cond_both, eqb-true, eq-eqb, ne_eqb, ltb-true, lt-ltb, le-ltb, lt-leb, or_from, or_left, or_right, cond-true}
use Rattle.rules.specs.declared.TheConstants.{LAST_ROUND}
use Rattle.rules.specs.Rule.{Opening, Heard, lockstep, letter_heard, mailbox, outside}
use Rattle.lists.proofs.Options.{only}
use Rattle.lists.proofs.Tables.{length_tabulate, get_or_tabulate, at_tabulate}
use Rattle.lists.proofs.Counting.{count, no_fewer, count_by_tabulate}
use Rattle.last_rule.specs.declared.State.{State}
use Rattle.last_rule.specs.declared.Letter.{Letter}
use Rattle.last_rule.specs.Last.{last, phase, coordinator, stamped, Mailbox, At, heard, committed_to, adopting, readied, showing, unmarked, commit}
use Rattle.last_rule.specs.Last.{latest, adopt, hull_after}
use Rattle.last_rule.proofs.Mailboxes.{letter_there, has_latest}
use Rattle.last_rule.proofs.Calls.{Sent, sent, next_first, next_second, next_third, next_fourth}

-- a station is committed to v; it is ready to announce v
abbrev pub Committed : State → (v : ℕ) → Type 0
Committed s v = (s.committed ≡ true) × (s.vote ≡ v)

abbrev pub Ready : State → (v : ℕ) → Type 0
Ready s v = (s.ready ≡ true) × (s.vote ≡ v)

-- n stations with these states
module _ (n : ℕ) (S : ℕ → State) where
  -- more than half are heard, and v is the value of one of them whose stamp is the largest
  pub record Vote (v : ℕ) : Type 0 where
    pub hears : ℕ → Bool
    pub most : n < 2 * count n hears
    pub from : ℕ
    pub here : from < n
    pub value : (S from).value ≡ v
    pub largest : (q : ℕ) → q < n → hears q ≡ true → stamped (S q).stamp ≤ stamped (S from).stamp

-- what station p's state becomes in each round of phase f, whose coordinator is f % n
module _ (n f : ℕ) (S : ℕ → State) where
  abbrev pub Collects : (p : ℕ) → State → Type 0
  Collects p s = (s ≡ S p) ⊎ ((p ≡ f % n) × (v : ℕ) × Vote n S v × (s ≡ committed_to v (S p)))

  abbrev pub Adopts : (p : ℕ) → State → Type 0
  Adopts p s = (s ≡ S p) ⊎ ((v : ℕ) × Committed (S (f % n)) v × (s ≡ adopting v (f + 1) (S p)))

  abbrev pub Acknowledges : (p : ℕ) → State → Type 0
  Acknowledges p s = (s ≡ S p) ⊎ ((p ≡ f % n) × (n < 2 * count n (λ q. nat_eq (stamped (S q).stamp) (f + 1))) × (s ≡ readied (S p)))

  abbrev pub Decides : (p : ℕ) → State → Type 0
  Decides p s =
      (h : Option ℕ) × ((h ≡ (S p).hull) ⊎ ((v : ℕ) × Ready (S (f % n)) v × (h ≡ Some v))) ×
      (s ≡ cond (p == f % n) (unmarked (showing h (S p))) (showing h (S p)))

module _ (values : List ℕ) (opening : Opening last values) (H : Heard) where
  abbrev n : ℕ
  n = length values

  abbrev run : ℕ → ℕ → State
  run k p = lockstep last values H k p

  abbrev mail : ℕ → ℕ → Mailbox
  mail k p = mailbox last n p k (H p k) (run k)

  next_is : (k p : ℕ) → run (suc k) p ≡ last.next n p k (run k p) (mail k p)
  unfolding lockstep
  next_is k p = refl

  full : (k p : ℕ) → length (mail k p) ≡ n
  full k p = length_tabulate n _

  accepted : (k p : ℕ) → p < n → k ≤ LAST_ROUND → outside last.most n p k ≡ false
  accepted k p h early =
      let some : 1 ≤ n = opening.some in
      or_from _ _ (or_from _ _ (or_from _ _ (ne_eqb n 0 (λ z. omega arith)) (le-ltb last.most n opening.not_too_many)) (lt-leb n p h))
      (le-ltb LAST_ROUND k early)

  -- a letter in a mailbox was written by its sender
  wrote : (k p q : ℕ) (l : Letter) → At (mail k p) q l → (q < n) × Sent n q k (run k q) l
  wrote k p q l e =
      let a = at_tabulate n (letter_heard last n p k (H p k) (run k)) q l e in
      (a.0, sent n q k p (run k q) l (only (H p k q) _ l a.1).1)

  -- whom p hears in round k
  hears : (k p q : ℕ) → Bool
  hears k p q = is_some (letter_heard last n p k (H p k) (run k) q)

  heard_is : (k p : ℕ) → heard (mail k p) ≡ count n (hears k p)
  unfolding hears
  heard_is k p = count_by_tabulate is_some n (letter_heard last n p k (H p k) (run k))

  heard_letter : (k p q : ℕ) → q < n → hears k p q ≡ true → (l : Letter) × At (mail k p) q l
  unfolding hears
  heard_letter k p q h e =
      let l = letter_there (letter_heard last n p k (H p k) (run k) q) e in
      (l.0, get_or_tabulate n (letter_heard last n p k (H p k) (run k)) q None h ∙ l.1)

  -- first round
  votes : (k p : ℕ) → k % 4 ≡ 0 → p ≡ coordinator n k → n < 2 * heard (mail k p) → Collects n (phase k) (run k) p (commit (latest (mail k p)) (run k p))
  votes k p which mine most =
      let w = has_latest (mail k p) (omega arith) in
      let best = wrote k p w.0 w.1 w.2.there in
      let vote : Vote n (run k) w.1.value = record {
        hears = hears k p;
        most = omega (arith, heard_is k p);
        from = w.0;
        here = best.0;
        value = sym (best.1.reported which).0;
        largest = λ q h e.
            let l = heard_letter k p q h e in
            let other = wrote k p q l.0 l.1 in
            omega (arith, (best.1.reported which).1, (other.1.reported which).1, w.2.largest q l.0 l.1);
      } in
      rw w.3 (inr (mine, w.1.value, vote, refl))

  pub collects : (k p : ℕ) → k ≤ LAST_ROUND → k % 4 ≡ 0 → p < n → Collects n (phase k) (run k) p (run (suc k) p)
  collects k p early which h =
      let P : State → Type 0 = Collects n (phase k) (run k) p in
      subst P (sym (next_is k p ∙ next_first n p k (run k p) (mail k p) (accepted k p h early) (full k p) which))
      (cond_both (p == coordinator n k) _ (run k p) P
      (λ mine. cond_both (nat_lt n (2 * heard (mail k p))) _ (run k p) P (λ most. votes k p which (eqb-true _ _ mine) (ltb-true _ _ most)) (λ _. inl refl))
      (λ _. inl refl))

  -- second round
  pub adopts : (k p : ℕ) → k ≤ LAST_ROUND → k % 4 ≡ 1 → p < n → Adopts n (phase k) (run k) p (run (suc k) p)
  adopts k p early which h =
      subst (Adopts n (phase k) (run k) p) (sym (next_is k p ∙ next_second n p k (run k p) (mail k p) (accepted k p h early) (full k p) which))
      (go (slice_index_or (mail k p) (coordinator n k) None) refl)
    where
      go : (o : Option Letter) → slice_index_or (mail k p) (coordinator n k) None ≡ o → Adopts n (phase k) (run k) p (adopt (phase k) o (run k p))
      go None e = inl refl
      go (Some l) e = let f = (wrote k p (coordinator n k) l e).1.proposed which in inr (l.value, (f.0, sym f.1), refl)

  -- third round
  confirmed : (k p : ℕ) → k % 4 ≡ 2 → n < 2 * heard (mail k p) → n < 2 * count n (λ q. nat_eq (stamped (run k q).stamp) (phase k + 1))
  confirmed k p which most =
      let more = no_fewer n (hears k p) (λ q. nat_eq (stamped (run k q).stamp) (phase k + 1)) (λ q h e.
      let l = heard_letter k p q h e in
      eq-eqb _ _ ((wrote k p q l.0 l.1).1.confirmed which)) in
      omega (arith, heard_is k p)

  pub acknowledges : (k p : ℕ) → k ≤ LAST_ROUND → k % 4 ≡ 2 → p < n → Acknowledges n (phase k) (run k) p (run (suc k) p)
  acknowledges k p early which h =
      let P : State → Type 0 = Acknowledges n (phase k) (run k) p in
      subst P (sym (next_is k p ∙ next_third n p k (run k p) (mail k p) (accepted k p h early) (full k p) which))
      (cond_both (p == coordinator n k) _ (run k p) P
      (λ mine. cond_both (nat_lt n (2 * heard (mail k p))) _ (run k p) P
      (λ most. inr (eqb-true _ _ mine, confirmed k p which (ltb-true _ _ most), refl)) (λ _. inl refl))
      (λ _. inl refl))

  -- fourth round
  pub decides : (k p : ℕ) → k ≤ LAST_ROUND → k % 4 ≡ 3 → p < n → Decides n (phase k) (run k) p (run (suc k) p)
  decides k p early which h =
      subst (Decides n (phase k) (run k) p) (sym (next_is k p ∙ next_fourth n p k (run k p) (mail k p) (accepted k p h early) (full k p) which)) (
        hull_after (run k p).hull (slice_index_or (mail k p) (coordinator n k) None),
        way (run k p).hull (slice_index_or (mail k p) (coordinator n k) None) refl refl,
        refl,
      )
    where
      way : (g : Option ℕ) (o : Option Letter) → (run k p).hull ≡ g → slice_index_or (mail k p) (coordinator n k) None ≡ o →
          (hull_after g o ≡ (run k p).hull) ⊎ ((v : ℕ) × Ready (run k (coordinator n k)) v × (hull_after g o ≡ Some v))
      way (Some a) o e i = inl (sym e)
      way None None e i = inl (sym e)
      way None (Some l) e i = let f = (wrote k p (coordinator n k) l i).1.announced which in inr (l.value, (f.0, sym f.1), refl)

  -- past the last round nothing happens
  pub rests : (k p : ℕ) → LAST_ROUND < k → run (suc k) p ≡ run k p
  rests k p late = next_is k p ∙ cond-true _ _ _ (or_left _ _ (or_right _ _ (lt-ltb LAST_ROUND k late)))
