-- A packed letter reads back as what it counts as, and a number that unpacks packs to itself.
use Rattle.std.specs.Prelude.{◌≡◌, ℕ, ◌^◌, ◌<◌, ◌≤◌, Some}
use Rattle.std.proofs.Common.{arith}
use Rattle.std.proofs.lemmas.Bool.Decides.{nat_tests}
use Rattle.last_rule.specs.declared.TheConstants.{LAST_STAMP}
use Rattle.last_rule.specs.declared.Letter.{Letter}
use Rattle.last_rule.specs.Last.{last, counted}

pub reads_back : (l : Letter) → l.value < 2 ^ 16 → last.unpack (last.pack l) ≡ Some (counted l)
reads_back l fits = grind (arith, nat_tests)

-- a letter within its range counts as itself
pub counts_itself : (l : Letter) → l.stamp ≤ LAST_STAMP → counted l ≡ l
counts_itself l fits = grind arith

pub packs_again : (w : ℕ) (l : Letter) → last.unpack w ≡ Some l → last.pack l ≡ w
packs_again w l e = grind (arith, nat_tests)
