-- A number is read from the one text that writes it.
use Rattle.std.proofs.lemmas.Bool.Decides.{nat_tests}
use Rattle.std.proofs.Common.{◌≡◌, ℕ, ◌+◌, ◌-◌, ◌*◌, ◌/◌, ◌%◌, ◌^◌, ◌<◌, ◌≤◌, List, [], ◌∷◌, ◌++◌, Some, decimal, sym, ap, ◌∙◌, inl, inr}
use Rattle.std.proofs.Common.{append_assoc, append-nil, arith}
use Rattle.std.proofs.lemmas.Fmt.{decimal_digit, decimal_step, decimal_by_steps, decimal_nonempty, first_decimal}
use Rattle.std.proofs.lemmas.List.{nil_from_length}
use Rattle.std.proofs.lemmas.Bool.{cases_eq}
use Rattle.schedule_text.specs.Reading.{digits_after, number_in}
use Rattle.schedule_text.specs.Writing.{NumbersReadBack}

digit_step : (v b : ℕ) (bs : List ℕ) → 48 ≤ b → b ≤ 57 → v * 10 + (b - 48) < 2 ^ 16 → digits_after v (b ∷ bs) ≡ digits_after (v * 10 + (b - 48)) bs
digit_step v b bs low high small = grind (arith, nat_tests)

abbrev Scans : ℕ → List ℕ → Type 0
Scans n ds = n < 2 ^ 16 → (rest : List ℕ) → digits_after 0 (ds ++ rest) ≡ digits_after n rest

decimal_scanned : (n : ℕ) → n < 2 ^ 16 → Scans n (decimal n)
decimal_scanned n small = decimal_by_steps Scans
    (λ m low fits rest. let same : 0 * 10 + (48 + m - 48) ≡ m = omega arith in
    digit_step 0 (48 + m) rest (omega arith) (omega arith) (omega arith) ∙ ap (λ v. digits_after v rest) same)
    (λ m ds high before fits rest.
    let b = 48 + m % 10 in
    let same : (m / 10) * 10 + (48 + m % 10 - 48) ≡ m = omega arith in
    ap (digits_after 0) (append_assoc ds (b ∷ []) rest) ∙ before (omega arith) (b ∷ rest)
    ∙ digit_step (m / 10) b rest (omega arith) (omega arith) (omega arith) ∙ ap (λ v. digits_after v rest) same)
    n (omega arith)

pub number_back : (n : ℕ) → n < 2 ^ 16 → number_in (decimal n) ≡ Some n
number_back n small = elim (cases_eq n 0) [
  | inl none ↦ ap number_in (ap decimal none ∙ decimal_digit 0 (omega arith)) ∙ ap (λ (m : ℕ). Some m) (sym none)
  | inr some ↦
      let all : digits_after 0 (decimal n) ≡ Some n = ap (digits_after 0) (sym (append-nil (decimal n))) ∙ decimal_scanned n small small [] in
      let first = first_decimal n (omega arith) (omega arith) in
      grind (arith, nat_tests, all, first, decimal_nonempty n (omega arith))
]

-- what a digit that was read tells
pub record Digit (v b : ℕ) (bs : List ℕ) (n : ℕ) : Type 0 where
  pub low : 48 ≤ b
  pub high : b ≤ 57
  pub small : v * 10 + (b - 48) < 2 ^ 16
  pub rest : digits_after (v * 10 + (b - 48)) bs ≡ Some n

digit_read : (v b : ℕ) (bs : List ℕ) (n : ℕ) → digits_after v (b ∷ bs) ≡ Some n → Digit v b bs n
digit_read v b bs n h = record {
  low = grind (arith, nat_tests);
  high = grind (arith, nat_tests);
  small = grind (arith, nat_tests);
  rest = grind (arith, nat_tests);
}

digits_write : (v : ℕ) (bs : List ℕ) (n : ℕ) → 0 < v → v < 2 ^ 16 → digits_after v bs ≡ Some n → (n < 2 ^ 16) × (decimal n ≡ decimal v ++ bs)
digits_write v [] n some small h = let same : v ≡ n = cc in (omega arith, ap decimal (sym same) ∙ sym (append-nil (decimal v)))
digits_write v (b ∷ bs) n some small h =
    let d = digit_read v b bs n h in
    let w = v * 10 + (b - 48) in
    let later = digits_write w bs n (omega (arith, d.low)) d.small d.rest in
    let front : w / 10 ≡ v = omega (arith, d.low, d.high) in
    let last : 48 + w % 10 ≡ b = omega (arith, d.low, d.high) in
    let step : decimal w ≡ decimal v ++ (b ∷ []) = decimal_step w (omega (arith, d.low)) (omega (arith, d.small))
    ∙ ap (λ m. decimal m ++ ((48 + w % 10) ∷ [])) front ∙ ap (λ m. decimal v ++ (m ∷ [])) last in
    (later.0, later.1 ∙ ap (λ l. l ++ bs) step ∙ append_assoc (decimal v) (b ∷ []) bs)

pub number_only : (bs : List ℕ) (n : ℕ) → number_in bs ≡ Some n → (n < 2 ^ 16) × (decimal n ≡ bs)
number_only [] n h = grind arith
number_only (b ∷ bs) n h =
    let read : digits_after 0 (b ∷ bs) ≡ Some n = grind (arith, nat_tests) in
    let d = digit_read 0 b bs n read in
    let v = 0 * 10 + (b - 48) in
    elim (cases_eq b 48) [
      | inl zeroed ↦
          let empty = nil_from_length bs (grind (arith, nat_tests)) in
          let is : n ≡ 0 = grind (arith, d.rest, empty) in
          (omega arith, ap decimal is ∙ decimal_digit 0 (omega arith) ∙ ap (λ m. m ∷ []) (sym zeroed) ∙ ap (λ l. b ∷ l) (sym empty))
      | inr other ↦
          let later = digits_write v bs n (omega (arith, d.low)) (omega (arith, d.high)) d.rest in
          let byte : 48 + v ≡ b = omega (arith, d.low) in
          (later.0, later.1 ∙ ap (λ l. l ++ bs) (decimal_digit v (omega (arith, d.high)) ∙ ap (λ m. m ∷ []) byte))
    ]

pub numbers_read_back : NumbersReadBack
numbers_read_back = record { back = number_back; only = number_only }
