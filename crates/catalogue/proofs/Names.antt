-- A name is read from the one text that writes it.
use Rattle.std.proofs.Common.{◌≡◌, ℕ, false, List, Some, None, codes, IsUtf8, sym, refl, subst, arith, rules}
use Rattle.std.proofs.ByRecursion.{IsAscii-from_all}
use Rattle.std.specs.Str.{bytes_eq}
use Rattle.std.specs.List.{AllByRecursion}
use Rattle.std.proofs.lemmas.Slice.Eq.{bytes_eq-Decides}
use Rattle.std.proofs.lemmas.Str.{IsUtf8-from_ascii}
use Rattle.catalogue.specs.declared.RuleName.{RuleName}
use Rattle.catalogue.specs.declared.RuleName.TheVariants.{Third, Last}
use Rattle.catalogue.specs.Names.{text_of, NameFits, name_in, NamesReadBack}

different : (a b : List ℕ) → (a ≡ b → ⊥) → bytes_eq a b ≡ false
different a b apart = grind (arith, (bytes_eq-Decides a b).0)

-- bytes that are the text of no name
no_name : (bytes : List ℕ) → ((name : RuleName) → bytes ≡ text_of name → ⊥) → None ≡ name_in bytes
no_name bytes apart = grind (arith, different bytes (codes "third") (apart Third), different bytes (codes "last") (apart Last))

name_is_text : (name : RuleName) → IsUtf8 (text_of name)
name_is_text Third = IsUtf8-from_ascii (codes "third") (IsAscii-from_all (codes "third") (search rules))
name_is_text Last = IsUtf8-from_ascii (codes "last") (IsAscii-from_all (codes "last") (search rules))

-- bytes that are no text name no rule
pub no_text : (bytes : List ℕ) → (IsUtf8 bytes → ⊥) → None ≡ name_in bytes
no_text bytes wild = no_name bytes (λ name e. wild (subst IsUtf8 (sym e) (name_is_text name)))

written : (bytes : List ℕ) (name : RuleName) → name_in bytes ≡ Some name → text_of name ≡ bytes
written bytes name e = grind (arith, (bytes_eq-Decides bytes (codes "third")).0, (bytes_eq-Decides bytes (codes "last")).0)

fits : (name : RuleName) → NameFits name
fits Third = tt
fits Last = tt

back : (name : RuleName) → name_in (text_of name) ≡ Some name
back Third = refl
back Last = refl

one_line : (name : RuleName) → AllByRecursion (λ b. (b ≡ 10) → ⊥) (text_of name)
one_line Third = search rules
one_line Last = search rules

pub names_read_back : NamesReadBack
names_read_back = record {
  back = λ name fit. back name;
  only = λ bytes name e. (fits name, written bytes name e);
  one_line = one_line;
}
