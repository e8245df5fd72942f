-- The names of the rules as text, that is as lists of bytes.
use Rattle.std.specs.Prelude.{◌≡◌, ℕ, cond, List, Some, None, codes, Option}
use Rattle.std.specs.List.{AllByRecursion}
use Rattle.std.specs.Prelude.{◌≢◌}
use Rattle.std.specs.Str.{bytes_eq}
use Rattle.catalogue.specs.declared.RuleName.{RuleName}
use Rattle.catalogue.specs.declared.RuleName.TheVariants.{Third, Last}

-- the text of a name
abbrev pub text_of : RuleName → List ℕ
text_of Third = codes "third"
text_of Last = codes "last"

-- the numbers in a name are within their ranges; these names have none
abbrev pub NameFits : RuleName → Type 0
NameFits Third = Unit {0}
NameFits Last = Unit {0}

-- the name that the bytes write, or none
abbrev pub name_in : List ℕ → Option RuleName
name_in bytes = cond (bytes_eq bytes (codes "third")) (Some Third) (cond (bytes_eq bytes (codes "last")) (Some Last) None)

-- a name is read from the one text that writes it, and that is of one line
pub record NamesReadBack : Type 0 where
  pub back : (name : RuleName) → NameFits name → name_in (text_of name) ≡ Some name
  pub only : (bytes : List ℕ) (name : RuleName) → name_in bytes ≡ Some name → NameFits name × (text_of name ≡ bytes)
  pub one_line : (name : RuleName) → AllByRecursion (λ b. b ≢ 10) (text_of name)
