-- OneThirdRule's interface and laws.
use Rattle.std.specs.Prelude.{◌≡◌, ℕ, ◌*◌, ◌^◌, ◌<◌, Bool, true, cond, ◌||◌, T, Some, None, Option, nat_le, nat_lt, slice_index_or, refl}
use Rattle.std.proofs.Common.{ap, subst, arith, ltb→lt, lt→ltb}
use Rattle.std.proofs.lemmas.Bool.{false≢true, ltb-true, eqb-true, ne_eqb, cond_both, cond-true, or_left, or_right, not_from_false}
use Rattle.std.proofs.lemmas.Bool.Decides.{nat_tests}
use Rattle.rules.specs.Rule.{Interface, Laws, Codec, Ranges, Stable, outside}
use Rattle.third_rule.specs.declared.Letter.{Letter}
use Rattle.third_rule.specs.declared.State.{State}
use Rattle.third_rule.specs.Third.{third, letter_fits, says, heard, most_frequent}
use Rattle.lists.proofs.Counting.{found_by}
use Rattle.third_rule.proofs.Mailbox.{winner_heard}
use Rattle.lists.proofs.Options.{holds, unless, same_some}
use Rattle.third_rule.proofs.Agreement.{by_next, third_agreement, third_validity}

-- what a letter carries
sent_value : (b : Bool) (x : ℕ) (l : Letter) → ◌≡◌ {A = Option Letter} (cond b None (Some (record { value = x }))) (Some l) → x ≡ l.value
sent_value b x l e = ap (λ y. y.value) (same_some (unless b _ l e).1)

-- the letter that a place has
letter_said : (o : Option Letter) (v : ℕ) → says v o ≡ true → (l : Letter) × (o ≡ Some l) × (l.value ≡ v)
letter_said None v h = absurd (false≢true h)
letter_said (Some l) v h = (l, refl, eqb-true l.value v h)

abbrev Fits16 : ℕ → Type 0
Fits16 x = T (nat_lt x (2 ^ 16))

pub third_interface : Interface third
third_interface = record {
  most_some = omega arith;
  most_few = omega arith;
  no_letter = λ n p k q s t. cond-true _ _ _ (holds _ t);
  stays = λ n p k s m t. cond-true _ _ _ (or_left _ _ (holds _ t));
  stays_misfit = λ n p k s m h. cond-true _ _ _ (or_right _ _ (not_from_false _ (ne_eqb _ _ h)));
}

pub third_ranges : Ranges third letter_fits
third_ranges = record {
  state_fits = λ s. nat_lt s.value (2 ^ 16);
  first_fits = λ n p v h. lt→ltb v (2 ^ 16) h;
  sent_fits = λ n p k q s l t e. subst Fits16 (sent_value (outside third.most n p k || nat_le n q) s.value l e) t;
  next_fits = λ n p k s m t fits.
      let P : State → Type 0 = λ s. Fits16 s.value in
      let w = most_frequent m s.value in
      by_next P n p k s m t
      (cond_both (nat_lt (2 * n) (3 * heard m)) w s.value Fits16
      (λ u.
      let some : 0 < heard m = omega (arith, ltb-true (2 * n) (3 * heard m) u) in
      let f = found_by (says w) None m (winner_heard m s.value some) in
      let g = letter_said (slice_index_or m f.0 None) w f.2 in
      subst Fits16 g.2 (fits f.0 g.0 g.1))
      (λ _. t));
}

reads_back : (l : Letter) → l.value < 2 ^ 16 → third.unpack (third.pack l) ≡ Some l
reads_back l small = grind (arith, nat_tests)

packs_again : (w : ℕ) (l : Letter) → third.unpack w ≡ Some l → third.pack l ≡ w
packs_again w l e = grind (arith, nat_tests)

third_codec : Codec third letter_fits
third_codec = record {
  small = λ l t. omega (arith, ltb→lt l.value (2 ^ 16) t);
  back = λ l t. reads_back l (ltb→lt l.value (2 ^ 16) t);
  again = packs_again;
}

third_stable : Stable third
third_stable n p k h s m e = let P : State → Type 0 = λ t. t.hull ≡ Some h in by_next P n p k s m e (rw e)

pub third_laws : Laws third letter_fits
third_laws = record { codec = third_codec; stable = third_stable; agreement = third_agreement; validity = third_validity }
