-- Which written types are past the bounds of signatures (JVMS 4.7.9.1): such a type is not known, as a whole, and asks nothing.
--
-- The readers of signatures take at most 255 signs `[` and `<` that are open at one place, and at most 255 arguments in one list. A
-- written type is spelled as a signature in what a class of the file answers, so the same bounds hold of it; they are told by the syntax,
-- before anything is asked. What counts are the brackets and the lists that stand in the type that results: of `A<X>.B<Y>` the
-- last list, and nothing of what stands behind `? super`. A list that has an argument counts whatever that is, since `?` stands for
-- `java.lang.Object` there; `<>` has none.
use Rattle.std.specs.Prelude.{ℕ, zero, suc, ◌+◌, ◌≤◌, ◌==◌, ◌&&◌, ◌||◌, Bool, true, false, if◌then◌else◌, List, [], length, codes, nat_le, ◌≡◌, refl}
use Rattle.std.specs.List.{list_all}
use Rattle.std.specs.Option.{option_map_or}
use Rattle.pj_tree.specs.Tree.{Tree}
use Rattle.pj_tree.specs.declared.kind.Kind.TheVariants as k
use Rattle.pj_tree.specs.declared.node.Node.{Node}
use Rattle.pj_tree.specs.Kinds.{is_kind}
use Rattle.pj_tree.specs.Words.{words_of, has}
use Rattle.pj_written.specs.Words.{below_child, last_child, own_brackets, without_brackets}

-- the most signs that are open at one place, and the most arguments in one list
pub most_signs : ℕ
most_signs = 255

pub most_signs_is : most_signs ≡ 255
unfolding most_signs
most_signs_is = refl

abbrev pub inner_brackets : Tree → Node → List Node
inner_brackets t n = if is_kind t k.ArrayType n then own_brackets t n else []

-- Of an array type the pairs of brackets in all. The grammar has an array type directly below another one where a parameter of variable arity has an array of arrays.
abbrev pub brackets : Tree → Node → ℕ
brackets t n = if is_kind t k.ArrayType n then length (own_brackets t n) + length (inner_brackets t (without_brackets t n)) else 0

-- what stands before all of its brackets
abbrev pub bare : Tree → Node → Node
bare t n = without_brackets t (without_brackets t n)

module _ (t : Tree) where
  -- The list of type arguments of a class type, with so many signs open inside it: where it has arguments, whether these signs are few, the arguments
  -- are few, and each fits within the list, by how one argument fits.
  abbrev pub listed_fit : ℕ → (Node → Bool) → List Node → Bool
  listed_fit signs argument_fits arguments =
      (length arguments == 0 || nat_le signs most_signs) && (nat_le (length arguments) most_signs && list_all argument_fits arguments)

  -- Whether what a type argument stands for fits, by how a type fits: `? extends X` is X, and every other wildcard fits.
  abbrev pub argument_by : (Node → Bool) → Node → Bool
  argument_by type_fits n =
      if is_kind t k.WildcardType n then (if has (codes "extends") (words_of t n) then option_map_or type_fits (last_child t n) true else true)
      else type_fits n

  -- Whether a type fits where so many signs are open around it, and at most so many lists of arguments stand in one another.
  abbrev pub fits_within : ℕ → ℕ → Node → Bool
  fits_within zero around n = false
  fits_within (suc deep) around n =
      nat_le (around + brackets t n) most_signs
      && listed_fit (around + brackets t n + 1) (argument_by (fits_within deep (around + brackets t n + 1))) (below_child t (bare t n) k.TypeArguments)

  -- More lists in one another than signs may be open do not fit, so this depth is no bound of its own.
  abbrev pub fits : ℕ → Node → Bool
  fits around n = fits_within (most_signs + 1) around n

-- The number by which lists in one another are counted is never reached: with a larger one a type fits just as well.
abbrev pub FitsEnd : Tree → ℕ → Node → Type 0
FitsEnd t around n = (more : ℕ) → most_signs + 1 ≤ more → fits_within t more around n ≡ fits t around n
