-- What holds of n stations at a phase's start and after each of its rounds, and why each round carries it on.
use Rattle.std.specs.Prelude.{◌≡◌, ℕ, ◌+◌, ◌*◌, ◌%◌, ◌<◌, ◌≤◌, Some, ◌==◌, nat_eq, nat_lt, refl}
use Rattle.std.proofs.Common.{sym, ap, subst, ◌∙◌, inl, inr, arith}
use Rattle.std.proofs.lemmas.Bool.{eqb-true, eqb-false, lt-ltb, cases_Bool, cond_both, cond-true, cond-false, false≢true}
use Rattle.lists.proofs.Options.{same_some}
use Rattle.lists.proofs.Counting.{count, no_fewer}
use Rattle.last_rule.specs.declared.TheConstants.{LAST_STAMP}
use Rattle.last_rule.specs.declared.State.{State}
use Rattle.last_rule.specs.Last.{stamped}
use Rattle.last_rule.proofs.Locked.{Locked, Keeps, locked_on, vote_locked}
use Rattle.last_rule.proofs.Phase.{Committed, Ready, Vote, Collects, Adopts, Acknowledges, Decides}

-- the states of n stations; `Ours v` says that v is an opening value
module _ (n : ℕ) (Ours : ℕ → Type 0) where
  -- what holds at all times: stamps are at most `top`, values are opening values, and a hull that is shown is locked
  pub record Sound (top : ℕ) (S : ℕ → State) : Type 0 where
    pub stamps : (p : ℕ) → p < n → (S p).stamp ≤ top
    pub values : (p : ℕ) → p < n → Ours (S p).value
    pub hulls : (p a : ℕ) → p < n → (S p).hull ≡ Some a → Locked n S a

  -- when phase f starts, nobody is committed or ready
  pub record Start (f : ℕ) (S : ℕ → State) : Type 0 where
    pub sound : Sound f S
    pub committed : (p v : ℕ) → p < n → Committed (S p) v → ⊥
    pub ready : (p v : ℕ) → p < n → Ready (S p) v → ⊥

  -- after the first round the coordinator may be committed, to an opening value and to every locked one
  pub record Collected (f : ℕ) (S : ℕ → State) : Type 0 where
    pub sound : Sound f S
    pub committed : (p v : ℕ) → p < n → Committed (S p) v → p ≡ f % n
    pub ours : (v : ℕ) → Committed (S (f % n)) v → Ours v
    pub locked : (v a : ℕ) → Committed (S (f % n)) v → Locked n S a → v ≡ a
    pub ready : (p v : ℕ) → p < n → Ready (S p) v → ⊥

  -- after the second round who has the stamp f + 1 has the value that the coordinator is committed to
  pub record Adopted (f : ℕ) (S : ℕ → State) : Type 0 where
    pub sound : Sound (f + 1) S
    pub committed : (p v : ℕ) → p < n → Committed (S p) v → p ≡ f % n
    pub adopted : (p : ℕ) → p < n → (S p).stamp ≡ f + 1 → Committed (S (f % n)) (S p).value
    pub ready : (p v : ℕ) → p < n → Ready (S p) v → ⊥

  -- after the third round the coordinator may be ready, and then its vote is locked
  pub record Acknowledged (f : ℕ) (S : ℕ → State) : Type 0 where
    pub sound : Sound (f + 1) S
    pub committed : (p v : ℕ) → p < n → Committed (S p) v → p ≡ f % n
    pub ready : (p v : ℕ) → p < n → Ready (S p) v → (p ≡ f % n) × Locked n S v

  -- ---- what a round leaves alone
  abbrev Alike : State → State → Type 0
  Alike s t = (t.stamp ≡ s.stamp) × (t.value ≡ s.value) × (t.hull ≡ s.hull)

  same_locked : (S T : ℕ → State) (a : ℕ) → ((p : ℕ) → p < n → Alike (S p) (T p)) → Locked n S a → Locked n T a
  same_locked S T a alike = locked_on n S T a (λ p h. inl ((alike p h).0, (alike p h).1))

  same_sound : (top : ℕ) (S T : ℕ → State) → ((p : ℕ) → p < n → Alike (S p) (T p)) → Sound top S → Sound top T
  same_sound top S T alike s = record {
    stamps = λ p h. omega (arith, (alike p h).0, s.stamps p h);
    values = λ p h. subst Ours (sym (alike p h).1) (s.values p h);
    hulls = λ p a h e. same_locked S T a alike (s.hulls p a h (sym (alike p h).2 ∙ e));
  }

  -- ---- the four rounds of phase f, from the states S to the states T
  module _ (some : 1 ≤ n) (f : ℕ) (S T : ℕ → State) where
    here : f % n < n
    here = omega arith

    -- first round: a coordinator that hears more than half commits to every locked value
    pub collected_from_start : f < LAST_STAMP → ((p : ℕ) → p < n → Collects n f S p (T p)) → Start f S → Collected f T
    collected_from_start early moves start = record {
      sound = same_sound f S T alike start.sound;
      committed = λ p v h c. elim (moves p h) [ inl e ↦ absurd (start.committed p v h (subst (λ s. Committed s v) e c)) | inr w ↦ w.0 ];
      ours = λ v c. let w : Vote n S v = vote v c in subst Ours w.value (start.sound.values w.from w.here);
      locked = λ v a c x. vote_locked n f S v a early start.sound.stamps (vote v c)
          (same_locked T S a (λ p h. let k = alike p h in (sym k.0, sym k.1, sym k.2)) x);
      ready = λ p v h r. elim (moves p h) [
        | inl e ↦ start.ready p v h (subst (λ s. Ready s v) e r)
        | inr w ↦ start.ready p (S p).vote h ((subst (λ s. Ready s v) w.3 r).0, refl)
      ];
    }
      where
        alike : (p : ℕ) → p < n → Alike (S p) (T p)
        alike p h = elim (moves p h) [ inl e ↦ rw e (refl, refl, refl) | inr w ↦ rw w.3 (refl, refl, refl) ]

        vote : (v : ℕ) → Committed (T (f % n)) v → Vote n S v
        vote v c = elim (moves (f % n) here) [
          | inl e ↦ absurd (start.committed (f % n) v here (subst (λ s. Committed s v) e c))
          | inr w ↦ subst (Vote n S) (subst (λ s. Committed s v) w.3 c).1 w.2
        ]

    -- second round: a locked value stays locked, since what is adopted is that value
    pub adopted_from_collected : ((p : ℕ) → p < n → Adopts n f S p (T p)) → Collected f S → Adopted f T
    adopted_from_collected moves s = record {
      sound = record {
        stamps = λ p h. elim (moves p h) [
          | inl e ↦ omega (arith, ap (λ s. s.stamp) e, s.sound.stamps p h)
          | inr w ↦ omega (arith, ap (λ s. s.stamp) w.2)
        ];
        values = λ p h. elim (moves p h) [ inl e ↦ rw e (s.sound.values p h) | inr w ↦ rw w.2 (s.ours w.0 w.1) ];
        hulls = λ p a h e. let x : Locked n S a = s.sound.hulls p a h (shown p a h e) in locked_on n S T a (keeps a x) x;
      };
      committed = λ p v h c. s.committed p v h (before p v h c);
      adopted = λ p h e. elim (moves p h) [
        | inl same ↦ absurd (omega (arith, ap (λ s. s.stamp) same, s.sound.stamps p h))
        | inr w ↦ subst (Committed (T (f % n))) (sym (ap (λ s. s.value) w.2)) (after w.0 w.1)
      ];
      ready = λ p v h r. elim (moves p h) [ inl e ↦ s.ready p v h (subst (λ s. Ready s v) e r) | inr w ↦ s.ready p v h (subst (λ s. Ready s v) w.2 r) ];
    }
      where
        before : (p v : ℕ) → p < n → Committed (T p) v → Committed (S p) v
        before p v h c = elim (moves p h) [ inl e ↦ subst (λ s. Committed s v) e c | inr w ↦ subst (λ s. Committed s v) w.2 c ]

        after : (v : ℕ) → Committed (S (f % n)) v → Committed (T (f % n)) v
        after v c = elim (moves (f % n) here) [ inl e ↦ subst (λ s. Committed s v) (sym e) c | inr w ↦ subst (λ s. Committed s v) (sym w.2) c ]

        shown : (p a : ℕ) → p < n → (T p).hull ≡ Some a → (S p).hull ≡ Some a
        shown p a h e = elim (moves p h) [ inl same ↦ subst (λ s. s.hull ≡ Some a) same e | inr w ↦ subst (λ s. s.hull ≡ Some a) w.2 e ]

        keeps : (a : ℕ) → Locked n S a → (p : ℕ) → p < n → Keeps n a (S p) (T p)
        keeps a x p h = elim (moves p h) [
          | inl e ↦ inl (ap (λ s. s.stamp) e, ap (λ s. s.value) e)
          | inr w ↦ inr (omega (arith, ap (λ s. s.stamp) w.2, s.sound.stamps p h), ap (λ s. s.value) w.2 ∙ s.locked w.0 a w.1 x)
        ]

    -- third round: a coordinator is ready only when more than half have adopted its vote, which is then locked
    pub acknowledged_from_adopted : f < LAST_STAMP → ((p : ℕ) → p < n → Acknowledges n f S p (T p)) → Adopted f S → Acknowledged f T
    acknowledged_from_adopted early moves s = record {
      sound = same_sound (f + 1) S T alike s.sound;
      committed = λ p v h c. elim (moves p h) [ inl e ↦ s.committed p v h (subst (λ s. Committed s v) e c) | inr w ↦ w.0 ];
      ready = λ p v h r. elim (moves p h) [
        | inl e ↦ absurd (s.ready p v h (subst (λ s. Ready s v) e r))
        | inr w ↦ (w.0, same_locked S T v alike (locked v w.1 (subst (λ q. (S q).vote ≡ v) w.0 (subst (λ s. Ready s v) w.2 r).1)))
      ];
    }
      where
        alike : (p : ℕ) → p < n → Alike (S p) (T p)
        alike p h = elim (moves p h) [ inl e ↦ rw e (refl, refl, refl) | inr w ↦ rw w.2 (refl, refl, refl) ]

        locked : (v : ℕ) → n < 2 * count n (λ q. nat_eq (stamped (S q).stamp) (f + 1)) → (S (f % n)).vote ≡ v → Locked n S v
        locked v most vote = record {
          above = f;
          most = omega (
            arith,
            no_fewer n (λ q. nat_eq (stamped (S q).stamp) (f + 1)) (λ q. nat_lt f (S q).stamp)
                (λ q h t. lt-ltb _ _ (omega (arith, eqb-true (stamped (S q).stamp) (f + 1) t))),
          );
          value = λ p h t. sym (s.adopted p h (omega (arith, s.sound.stamps p h))).1 ∙ vote;
        }

    -- fourth round: a hull that is newly shown is a ready coordinator's vote, and no mark is left
    pub start_from_acknowledged : ((p : ℕ) → p < n → Decides n f S p (T p)) → Acknowledged f S → Start (f + 1) T
    start_from_acknowledged moves s = record {
      sound = record {
        stamps = λ p h. omega (arith, (alike p h).0, s.sound.stamps p h);
        values = λ p h. subst Ours (sym (alike p h).1) (s.sound.values p h);
        hulls = λ p a h e. elim (moves p h).1 [
          | inl same ↦ on a (s.sound.hulls p a h (sym same ∙ sym (alike p h).2 ∙ e))
          | inr w ↦ on a (subst (Locked n S) (same_some (sym w.2 ∙ sym (alike p h).2 ∙ e)) (s.ready (f % n) w.0 here w.1).1)
        ];
      };
      committed = λ p v h c. elim (cases_Bool (p == f % n)) [
        | inl mine ↦ false≢true (subst (λ s. Committed s v) ((moves p h).2 ∙ cond-true _ _ _ mine) c).0
        | inr other ↦ eqb-false _ _ other (s.committed p v h (subst (λ s. Committed s v) ((moves p h).2 ∙ cond-false _ _ _ other) c))
      ];
      ready = λ p v h c. elim (cases_Bool (p == f % n)) [
        | inl mine ↦ false≢true (subst (λ s. Ready s v) ((moves p h).2 ∙ cond-true _ _ _ mine) c).0
        | inr other ↦ eqb-false _ _ other (s.ready p v h (subst (λ s. Ready s v) ((moves p h).2 ∙ cond-false _ _ _ other) c)).0
      ];
    }
      where
        alike : (p : ℕ) → (h : p < n) → ((T p).stamp ≡ (S p).stamp) × ((T p).value ≡ (S p).value) × ((T p).hull ≡ (moves p h).0)
        alike p h = rw (moves p h).2 (cond_both (p == f % n) _ _
            (λ (s : State). (s.stamp ≡ (S p).stamp) × (s.value ≡ (S p).value) × (s.hull ≡ (moves p h).0)) (λ _. (refl, refl, refl)) (λ _. (refl, refl, refl)))

        on : (a : ℕ) → Locked n S a → Locked n T a
        on a = locked_on n S T a (λ p h. inl ((alike p h).0, (alike p h).1))
