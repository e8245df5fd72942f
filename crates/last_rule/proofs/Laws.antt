-- LastVoting keeps the interface and the four laws of a rule.
use Rattle.std.specs.Prelude.{◌≡◌, ℕ, ◌^◌, ◌<◌, ◌≤◌, Bool, cond, ◌&&◌, ◌||◌, T, Some, None, nat_le, nat_lt, refl}
use Rattle.std.proofs.Common.{◌∙◌, ap, arith, lit≤}
use Rattle.std.proofs.lemmas.Bool.{cond-true, cond_both, lt-ltb, ne_eqb, or_left, or_right, and_from, not_from_false}
use Rattle.rules.specs.Rule.{outside, Interface, Codec, Ranges, Laws, MailFits}
use Rattle.std.proofs.lemmas.Bool.Decides.{nat_tests}
use Rattle.std.proofs.lemmas.Float.{T_from_true}
use Rattle.lists.proofs.Options.{holds, only, unless}
use Rattle.last_rule.specs.declared.TheConstants.{LAST_STAMP}
use Rattle.last_rule.specs.declared.State.{State}
use Rattle.last_rule.specs.declared.Letter.{Letter}
use Rattle.last_rule.specs.Last.{last, letter_fits, Mailbox, writes}
use Rattle.last_rule.proofs.Calls.{letter_is, by_round_both, by_next, stable}
use Rattle.last_rule.proofs.Codec.{reads_back, counts_itself, packs_again}
use Rattle.last_rule.proofs.Agreement.{agreement, validity}

-- ---- ranges
abbrev state_fits : State → Bool
state_fits s = nat_lt s.value (2 ^ 16) && nat_lt s.vote (2 ^ 16)

letter_small : (l : Letter) → T (letter_fits l) → (l.value < 2 ^ 16) × (l.stamp ≤ LAST_STAMP)
letter_small l t = let h = holds _ t in grind (arith, nat_tests)

letter_fit : (l : Letter) → l.value < 2 ^ 16 → l.stamp ≤ LAST_STAMP → T (letter_fits l)
letter_fit l a b = T_from_true _ (grind (arith, nat_tests))

state_small : (s : State) → T (state_fits s) → (s.value < 2 ^ 16) × (s.vote < 2 ^ 16)
state_small s t = let h = holds _ t in grind (arith, nat_tests)

state_fit : {v w : ℕ} → v < 2 ^ 16 → w < 2 ^ 16 → T (nat_lt v (2 ^ 16) && nat_lt w (2 ^ 16))
state_fit a b = T_from_true _ (grind (arith, nat_tests))

sent_fits : (n p k q : ℕ) (s : State) (l : Letter) → T (state_fits s) → last.letter n p k s q ≡ Some l → T (letter_fits l)
sent_fits n p k q s l t e =
    let f = state_small s t in
    by_round_both (λ o. o ≡ Some l → T (letter_fits l)) k _ _ _ _
    (small _ _ _ f.0 (omega arith))
    (small _ _ _ f.1 (omega arith))
    (small _ _ _ (omega arith) (omega arith))
    (small _ _ _ f.1 (omega arith))
    (unless (outside last.most n p k || nat_le n q) _ l e).1
  where
    small : (b : Bool) (v x : ℕ) → v < 2 ^ 16 → x ≤ LAST_STAMP → cond b (writes v x) None ≡ Some l → T (letter_fits l)
    small b v x low high y = let r = letter_is v x l (only b _ l y).1 in letter_fit l (omega (arith, r.0)) (omega (arith, r.1))

next_fits : (n p k : ℕ) (s : State) (m : Mailbox) → T (state_fits s) → MailFits letter_fits m → T (state_fits (last.next n p k s m))
next_fits n p k s m t mail =
    let f = state_small s t in
    by_next (λ r. T (state_fits r)) n p k s m (record {
      same = t;
      commits = λ q l e. state_fit f.0 (letter_small l (mail q l e)).0;
      adopts = λ q x l e. state_fit (letter_small l (mail q l e)).0 f.1;
      readies = t;
      decides = λ coordinates o. cond_both coordinates _ _ (λ (r : State). T (state_fits r)) (λ _. t) (λ _. t);
    })

pub last_interface : Interface last
last_interface = record {
  most_some = lit≤ tt;
  most_few = lit≤ tt;
  no_letter = λ n p k q s t. cond-true _ _ _ (holds _ t);
  stays = λ n p k s m t. cond-true _ _ _ (or_left _ _ (holds _ t));
  stays_misfit = λ n p k s m ne. cond-true _ _ _ (or_right _ _ (not_from_false _ (ne_eqb _ _ ne)));
}

pub last_ranges : Ranges last letter_fits
last_ranges = record {
  state_fits = state_fits;
  first_fits = λ n p v h. T_from_true _ (and_from _ _ (lt-ltb _ _ h) refl);
  sent_fits = sent_fits;
  next_fits = next_fits;
}

-- ---- laws
codec : Codec last letter_fits
codec = record {
  small = λ l t. omega (arith, letter_small l t);
  back = λ l t. let f = letter_small l t in reads_back l f.0 ∙ ap Some (counts_itself l f.1);
  again = packs_again;
}

pub last_laws : Laws last letter_fits
last_laws = record { codec = codec; stable = stable; agreement = agreement; validity = validity }
