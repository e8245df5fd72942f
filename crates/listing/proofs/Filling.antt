-- What a line holds, and the lengths of short texts.
use Rattle.std.proofs.Common.{◌≡◌, ℕ, ◌+◌, ◌-◌, ◌^◌, ◌<◌, ◌≤◌, ◌++◌, List, length, drop, replicate, decimal, sym, ap, ◌∙◌, arith}
use Rattle.std.proofs.lemmas.Fmt.{length-decimal-le}
use Rattle.std.proofs.lemmas.Grind.{common_steps}
use Rattle.std.proofs.lemmas.List.{drop-replicate, length-take-le, take-append-drop}
use Rattle.std.proofs.lemmas.Slice.{drop-put_mid}
use borrow.Rule.Slice.PartMut.{put_mid}
use Rattle.protocol.specs.declared.types.Stand.{Stand}
use Rattle.protocol.specs.declared.types.Stand.TheVariants.{Fresh, Listening, Down}
use Rattle.listing.specs.declared.line.TheConstants.{CELLS}
use Rattle.listing.specs.declared.line.Line.{Line}
use Rattle.listing.specs.Lines.{HoldsText, line_text, stand_text}

-- a line's text, and the blanks that its invariant has after it
pub holds : (line : Line) (text : List ℕ) → line_text line ≡ text → HoldsText line text
holds line text e =
    let count : line.filled ≡ length text = sym (length-take-le line.filled line.cells (omega (arith, line.all, line.within))) ∙ ap length e in
    record {
      fits = omega (arith, line.within);
      cells = sym (take-append-drop line.filled line.cells) ∙ ap (λ l. l ++ drop line.filled line.cells) e ∙ ap (λ l. text ++ l) line.blank
          ∙ ap (λ n. text ++ replicate (CELLS - n) 32) count;
      length_is = count;
    }

-- text that is written over the first blanks leaves the others
pub blanks_left : (cells text : List ℕ) (from upto : ℕ) → length cells ≡ CELLS → upto ≡ from + length text → upto ≤ CELLS →
    drop from cells ≡ replicate (CELLS - from) 32 → drop upto (put_mid from (upto - from) cells text) ≡ replicate (CELLS - upto) 32
blanks_left cells text from upto whole is within blank = grind (arith, common_steps, drop-put_mid from (upto - from) cells text, drop-replicate)

pub decimal_20 : (n : ℕ) → n < 2 ^ 64 → length (decimal n) ≤ 20
decimal_20 n fits = length-decimal-le 20 n (omega arith) (omega arith) fits

-- short numbers, and the word for a stand
pub two_digits : (n : ℕ) → n < 100 → length (decimal n) ≤ 2
two_digits n small = length-decimal-le 2 n (omega arith) (omega arith) (omega arith)

pub four_digits : (n : ℕ) → n < 10000 → length (decimal n) ≤ 4
four_digits n small = length-decimal-le 4 n (omega arith) (omega arith) (omega arith)

pub five_digits : (n : ℕ) → n < 2 ^ 16 → length (decimal n) ≤ 5
five_digits n small = length-decimal-le 5 n (omega arith) (omega arith) (omega arith)

pub stand_short : (stand : Stand) → length (stand_text stand) ≤ 5
stand_short Fresh = omega arith
stand_short Listening = omega arith
stand_short Down = omega arith

pub ruleset short = (two_digits, four_digits, five_digits, stand_short)
