-- A result made apart, and what it is made of.
use Rattle.std.specs.Prelude.{◌≡◌, true, Option, Result, Ok, Err, IfOk, OnErr, List, ◌++◌, ℕ, ◌+◌, ◌≤◌, min, length, take}
use Rattle.std.specs.Option.{ForSome, ForNone}
use Rattle.term.specs.Trees.{Tree, words, Formed, depth, found, subtree}
use Rattle.term.specs.Parts.{part_depth}
use Rattle.term.specs.Terms.{max_words, max_depth}
use Rattle.types.specs.Sorts.{Sort}
use Rattle.types.specs.Rules.{Typed}
use Rattle.declarations.specs.Declarations.{context_in, good_declarations}
use Rattle.rules.specs.Steps.{Stepped}
use Rattle.step.specs.declared.rewriting.Rewritten.{Rewritten}
use Rattle.families.specs.declared.writing.Refusal.{Refusal}
use Rattle.families.specs.Writing.{code_of}

-- the words of a typed term, under good declarations
pub record Termed (ds term : List ℕ) : Type 0 where
  pub good : good_declarations ds ≡ true
  pub tree : Tree
  pub sort : Sort
  pub typed : Typed (context_in ds) sort tree
  pub is : words tree ≡ term

-- a place of a term at which a part begins, and the words of one that comes there: where it may be deeper, it is known how deep the part is
pub record Seated (term : List ℕ) (place : ℕ) (old : Option ℕ) (new : List ℕ) : Type 0 where
  pub tree : Tree
  pub is : words tree ≡ term
  pub formed : Formed tree
  pub shallow : depth tree ≤ max_depth
  pub part : Tree
  pub there : subtree tree place ≡ found part
  pub was : ForSome old (λ d. d ≡ depth part)
  pub flat : ForNone old (part_depth new 0 ≤ depth part)

-- a part of it that gives way to a result, whose words stand in the scratch slice as far as they fit
pub record Fresh (term : List ℕ) (place : ℕ) (made : Rewritten) (out : List ℕ) : Type 0 where
  pub tree : Tree
  pub is : words tree ≡ term
  pub short : length term ≤ max_words
  pub formed : Formed tree
  pub shallow : depth tree ≤ max_depth
  pub part : Tree
  pub there : subtree tree place ≡ found part
  pub ends : made.size ≡ length (words part)
  pub was : ForSome made.depth (λ d. d ≡ depth part)
  pub result : Tree
  pub result_formed : Formed result
  pub flat : ForNone made.depth (depth result ≤ depth part)
  pub size : length out ≡ max_words
  pub new_end : made.end ≡ min (length (words result)) (max_words + 1)
  pub written : length (words result) ≤ max_words → take made.end out ≡ words result

-- the code of an answer: 0, or that of the refusal
abbrev pub code_in : Result ℕ Refusal → ℕ
code_in (Ok end) = 0
code_in (Err e) = code_of e

-- and the length of the term that is left: a refusal leaves it as it was
abbrev pub length_in : ℕ → Result ℕ Refusal → ℕ
length_in n (Ok new) = new
length_in n (Err e) = n

-- A step's answer: its code, and where that is 0 the scratch slice begins with the words from the place on, up to the end that is told; else the term is what it was
pub record Made (t : Tree) (y : Stepped) (place : ℕ) (out : List ℕ) (r : Result ℕ Refusal) : Type 0 where
  pub size : length out ≡ max_words
  pub code : code_in r ≡ y.code
  pub fits : IfOk r (λ end. place + end ≤ max_words)
  pub words_are : IfOk r (λ end. words y.tree ≡ take place (words t) ++ take end out)
  pub stays : OnErr r (y.tree ≡ t)
