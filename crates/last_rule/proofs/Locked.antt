-- A value is locked when more than half of the stations hold it so that no later coordinator can vote for another.
use Rattle.std.specs.Prelude.{◌≡◌, ℕ, ◌*◌, ◌<◌, ◌≤◌, ltb, ◌⊎◌}
use Rattle.std.proofs.Common.{sym, ◌∙◌, inl, inr, arith}
use Rattle.std.proofs.lemmas.Bool.{ltb-true, lt-ltb}
use Rattle.lists.proofs.Counting.{count, no_fewer, witness, meet}
use Rattle.last_rule.specs.declared.TheConstants.{LAST_STAMP}
use Rattle.last_rule.specs.declared.State.{State}
use Rattle.last_rule.proofs.Phase.{Vote}

-- n stations
module _ (n : ℕ) where
  -- v is locked: more than half have a stamp above some number, and all who have one have the value v
  pub record Locked (S : ℕ → State) (v : ℕ) : Type 0 where
    pub above : ℕ
    pub most : n < 2 * count n (λ p. ltb above (S p).stamp)
    pub value : (p : ℕ) → p < n → above < (S p).stamp → (S p).value ≡ v

  -- two locked values are one
  pub locked_one : (S : ℕ → State) (a b : ℕ) → Locked S a → Locked S b → a ≡ b
  locked_one S a b x y =
      let w = meet n (λ p. ltb x.above (S p).stamp) (λ p. ltb y.above (S p).stamp) (omega (arith, x.most, y.most)) in
      sym (x.value w.0 w.1 (ltb-true _ _ w.2)) ∙ y.value w.0 w.1 (ltb-true _ _ w.3)

  -- someone has a locked value
  pub locked_held : (S : ℕ → State) (a : ℕ) → Locked S a → (p : ℕ) × (p < n) × ((S p).value ≡ a)
  locked_held S a x =
      let w = witness n (λ p. ltb x.above (S p).stamp) (omega (arith, x.most)) in
      (w.0, w.1, x.value w.0 w.1 (ltb-true _ _ w.2))

  -- a locked value stays locked while stations keep value and stamp, or take it with a stamp that is no lower
  abbrev pub Keeps : (a : ℕ) → State → State → Type 0
  Keeps a s t = ((t.stamp ≡ s.stamp) × (t.value ≡ s.value)) ⊎ ((s.stamp ≤ t.stamp) × (t.value ≡ a))

  pub locked_on : (S T : ℕ → State) (a : ℕ) → ((p : ℕ) → p < n → Keeps a (S p) (T p)) → Locked S a → Locked T a
  locked_on S T a keeps x = record {
    above = x.above;
    most = omega (
      arith,
      x.most,
      no_fewer n (λ p. ltb x.above (S p).stamp) (λ p. ltb x.above (T p).stamp) (λ p h t.
          let before : x.above < (S p).stamp = ltb-true _ _ t in
          lt-ltb _ _ (elim (keeps p h) [ inl k ↦ omega (arith, k.0) | inr k ↦ omega (arith, k.0) ])),
    );
    value = λ p h t. elim (keeps p h) [ inl k ↦ k.1 ∙ x.value p h (omega (arith, k.0)) | inr k ↦ k.1 ];
  }

  -- a vote of a coordinator that hears more than half is every locked value
  pub vote_locked : (f : ℕ) (S : ℕ → State) (v a : ℕ) → f < LAST_STAMP → ((p : ℕ) → p < n → (S p).stamp ≤ f) → Vote n S v → Locked S a → v ≡ a
  vote_locked f S v a early stamps vote x =
      let w = meet n vote.hears (λ p. ltb x.above (S p).stamp) (omega (arith, x.most, vote.most)) in
      let high : x.above < (S vote.from).stamp = omega (
        arith,
        vote.largest w.0 w.1 w.2,
        ltb-true _ _ w.3,
        stamps w.0 w.1,
        stamps vote.from vote.here,
      ) in
      sym vote.value ∙ x.value vote.from vote.here high
