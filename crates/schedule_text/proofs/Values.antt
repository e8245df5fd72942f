-- The values line, number by number.
use Rattle.std.proofs.lemmas.Grind.{common_steps}
use Rattle.std.proofs.lemmas.Bool.Decides.{nat_tests}
use Rattle.std.proofs.Common.{◌≡◌, ℕ, ◌+◌, ◌<◌, ◌≤◌, Bool, true, false, ◌&&◌, ltb, leb, List, [], ◌∷◌, ◌++◌, ◌==◌, length, get_or, take, drop, Some}
use Rattle.std.proofs.Common.{None, codes, Option, sym, refl, ap, ◌∙◌, subst, arith}
use Rattle.std.specs.List.{slice_split}
use Rattle.std.specs.Str.{bytes_eq}
use Rattle.std.proofs.lemmas.List.{length_push, take-append-drop, drop_more}
use Rattle.std.proofs.Math.Seq.{drop-length}
use Rattle.std.proofs.lemmas.Slice.Eq.{bytes_eq-Decides}
use Rattle.std.proofs.lemmas.Bool.{false≢true}
use Rattle.schedule_text.specs.declared.reader.TheConstants.{MAX_VALUES}
use Rattle.schedule_text.specs.Reading.{pieces, number_in, with_first, numbers_in, values_in, values_line}
use Rattle.schedule_text.specs.Writing.{write_values}
use Rattle.schedule_text.proofs.Cutting.{split_is}
use Rattle.schedule_text.proofs.ReadBack.{pieces_line}
use Rattle.schedule_text.proofs.ReadOnly.{values_only}
use Rattle.schedule_text.proofs.Steps.{some_piece}

-- the words after the first, where that is `values`
abbrev pub words : List ℕ → List (List ℕ)
words line = pieces 32 (drop 7 line)

pub values_begin : (line : List ℕ) → bytes_eq (take 7 line) (codes "values ") ≡ true → values_in (codes "values" ∷ words line) ≡ values_line line
values_begin line e =
    let front = (bytes_eq-Decides (take 7 line) (codes "values ")).0 e in
    ap values_in (sym (pieces_line 32 (codes "values") (drop 7 line) refl)
    ∙ ap (pieces 32) (ap (λ l. l ++ drop 7 line) (sym front) ∙ take-append-drop 7 line))

pub values_not_begin : (line : List ℕ) → bytes_eq (take 7 line) (codes "values ") ≡ false → None ≡ values_line line
values_not_begin line e = by_values (values_line line) refl
  where
    front : (vs : List ℕ) → 0 < length vs → line ≡ write_values vs → take 7 line ≡ codes "values "
    front [] some is = absurd (omega arith)
    front (v ∷ vs) some is = ap (take 7) is

    by_values : (o : Option (List ℕ)) → values_line line ≡ o → None ≡ values_line line
    by_values None f = sym f
    by_values (Some vs) f = let on = values_only line vs f in absurd (false≢true (sym e ∙ ap (λ l. bytes_eq l (codes "values ")) (front vs on.some on.is)))

module _ (line numbers : List ℕ) (e : numbers ≡ drop 7 line) where
  words_split : slice_split (λ b. b == 32) numbers ≡ words line
  words_split = split_is 32 numbers ∙ ap (pieces 32) e

  -- the word that is yielded after n others, and the end
  pub next_word : (n : ℕ) (x : List ℕ) → (n < length (slice_split (λ b. b == 32) numbers)) × (x ≡ get_or (slice_split (λ b. b == 32) numbers) n x) →
      drop n (words line) ≡ x ∷ drop (n + 1) (words line)
  next_word n x turn =
      let there = subst (λ ws. (n < length ws) × (x ≡ get_or ws n x)) words_split turn in
      drop_more (words line) n x there.0 ∙ ap (λ y. y ∷ drop (n + 1) (words line)) (sym there.1)

  pub no_word : (n : ℕ) → n ≡ length (slice_split (λ b. b == 32) numbers) → drop n (words line) ≡ []
  no_word n all = ap (λ m. drop m (words line)) (all ∙ ap length words_split) ∙ drop-length (words line)

-- numbers read before those of the words that are left
abbrev pub append_to : List ℕ → Option (List ℕ) → Option (List ℕ)
append_to xs None = None
append_to xs (Some ys) = Some (xs ++ ys)

pub record ReadSoFar (words : List (List ℕ)) (xs : List ℕ) (ws : List (List ℕ)) : Type 0 where
  pub same : append_to xs (numbers_in ws) ≡ numbers_in words
  pub count : length xs + length ws ≡ length words
  pub few : length xs ≤ MAX_VALUES

appended_with_first : (xs : List ℕ) (n : ℕ) (o : Option (List ℕ)) → append_to xs (with_first (Some n) o) ≡ append_to (xs ++ n ∷ []) o
appended_with_first xs n None = refl
appended_with_first xs n (Some ys) = grind (arith, common_steps)

pub one_word_more : (words : List (List ℕ)) (xs ys : List ℕ) (word : List ℕ) (ws : List (List ℕ)) (n : ℕ) → ReadSoFar words xs (word ∷ ws) →
    Some n ≡ number_in word →
    length xs < MAX_VALUES → ys ≡ xs ++ n ∷ [] → ReadSoFar words ys ws
one_word_more words xs ys word ws n old e room is = let long : length ys ≡ length xs + 1 = ap length is ∙ length_push xs n in record {
  same = grind (arith, is, e, old.same, appended_with_first xs n (numbers_in ws));
  count = omega (arith, old.count);
  few = omega arith;
}

-- a word that writes no number
pub bad_word_no_numbers : (words : List (List ℕ)) (xs : List ℕ) (word : List ℕ) (ws : List (List ℕ)) → ReadSoFar words xs (word ∷ ws) →
    None ≡ number_in word →
    numbers_in words ≡ None
bad_word_no_numbers words xs word ws old e = sym old.same ∙ ap (λ o. append_to xs (with_first o (numbers_in ws))) (sym e)

-- of a line that begins with `values` and a blank
module _ (line : List ℕ) (is : bytes_eq (take 7 line) (codes "values ") ≡ true) where
  few_words : Bool
  few_words = ltb 0 (length (words line)) && leb (length (words line)) MAX_VALUES

  pub bad_word : (xs : List ℕ) (w : List ℕ) (ws : List (List ℕ)) → ReadSoFar (words line) xs (w ∷ ws) → None ≡ number_in w → None ≡ values_line line
  unfolding few_words
  bad_word xs w ws old e = grind (arith, bad_word_no_numbers (words line) xs w ws old e, values_begin line is)

  pub too_many : MAX_VALUES < length (words line) → None ≡ values_line line
  too_many l = grind (arith, nat_tests, values_begin line is)

  pub all_words_read : (xs : List ℕ) → ReadSoFar (words line) xs [] → Some xs ≡ values_line line
  all_words_read xs all = let some = some_piece 32 (drop 7 line) in grind (arith, common_steps, all.same, all.count, all.few, some.2, values_begin line is)
