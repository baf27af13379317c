-- The answer of "the typing of one term", as a function for the code to equal: the relation to believe is `Verdict` below, by the published rules, and `Decided` of `Statements`
-- says that the answer is so. Document 01, "What comes out, by whose doing".
use Rattle.std.specs.Prelude.{◌≡◌, ◌≢◌, true, false, cond, List, [], ◌++◌, ℕ, ◌≤◌, eqb, length, take, replicate}
use Rattle.std.proofs.Math.Option.{Option, some, none as nothing}
use Rattle.term.specs.Parts.{parse, tree_in, part_depth}
use Rattle.term.specs.Terms.{max_words, IsTerm, is_term}
use Rattle.term.specs.Trees.{Tree, words, depth}
use Rattle.typing.specs.declared.terms.Kind as K
use Rattle.typing.specs.declared.terms.Kind.TheVariants as Kinds
use Rattle.typing.specs.declared.terms.Sizes as Z
use Rattle.typing.specs.declared.terms.TermType as T
use Rattle.typing.specs.declared.terms.Typing as A
use Rattle.declarations.specs.Declarations.{context_in, names_in, good_declarations}
use Rattle.types.specs.Rules.{◌⊢◌∶◌}
use Rattle.types.specs.First.{HasSort, FirstUntyped}
use Rattle.types.specs.Strays.{FirstStray, NoStray, stray_of}
use Rattle.types.specs.Sorts.{Sort, index, basis, scalar, ket, bra, operator, IsType}
use Rattle.types.specs.TypeOf.{Inferred, typed, untyped, type_of}

-- a kind by its number, with the lengths that it carries
abbrev pub sizes_of : K.Kind → Z.Sizes
sizes_of Kinds.Scalar = record { number = 0; rows = 0; columns = 0 }
sizes_of (Kinds.Ket n) = record { number = 1; rows = n; columns = 0 }
sizes_of (Kinds.Bra m) = record { number = 2; rows = 0; columns = m }
sizes_of (Kinds.Operator n m) = record { number = 3; rows = n; columns = m }

-- 01: "words of a type behind its indices are zero"
unfoldable pub pad : List ℕ → List ℕ
pad ws = take 63 (ws ++ replicate 63 0)

-- 01: "A type is a record: its kind, which is scalar, ket, bra or operator and carries the index lengths, and the index words beside it"
unfoldable pub type_record : K.Kind → List ℕ → List ℕ → T.TermType
type_record k rows columns = record { kind = k; rows = pad rows; columns = pad columns }

-- 01: "at every code from 1 to 19, a length or depth is 0 and a type is scalar", "A field that a code does not name is 0"
unfoldable pub refuse : ℕ → ℕ → A.Typing
unfolding type_record
refuse code at = record { code = code; side = 0; step = 0; at = at; length = 0; depth = 0; of = type_record Kinds.Scalar [] [] }

-- a typed term of so many words and so deep
unfoldable pub typing : ℕ → ℕ → K.Kind → List ℕ → List ℕ → A.Typing
unfolding type_record
typing n d k rows columns = record { code = 0; side = 0; step = 0; at = 0; length = n; depth = d; of = type_record k rows columns }

-- 01: "10 no type", "11 a side is an index or a basis"
unfoldable pub answer_of : ℕ → ℕ → Inferred → A.Typing
unfolding refuse typing
answer_of n d (untyped k) = refuse 10 k
answer_of n d (typed (index σ)) = refuse 11 0
answer_of n d (typed (basis σ)) = refuse 11 0
answer_of n d (typed scalar) = typing n d Kinds.Scalar [] []
answer_of n d (typed (ket σ)) = typing n d (Kinds.Ket (length (words σ))) (words σ) []
answer_of n d (typed (bra σ)) = typing n d (Kinds.Bra (length (words σ))) [] (words σ)
answer_of n d (typed (operator σ τ)) = typing n d (Kinds.Operator (length (words σ)) (length (words τ))) (words σ) (words τ)

-- 02, CR 1: "a side's 13 tested before its 10; in all else, single step and typing included, 13 is as 10"
unfoldable pub strayed : Option ℕ → A.Typing → A.Typing
unfolding refuse
strayed nothing a = a
strayed (some k) a = refuse 13 k

-- 01: "lent declarations, one work slice and a length. They test 1; 7 for bad declarations; 8, also for a length that is not the term's; 10; 11", with 13 before 10
unfoldable pub typing_of : List ℕ → List ℕ → ℕ → A.Typing
unfolding refuse strayed answer_of good_declarations is_term names_in part_depth stray_of type_of context_in tree_in
typing_of ds ws n =
    cond (eqb (length ws) max_words)
    (cond (good_declarations ds)
    (cond (is_term (names_in ds) ws n)
    (strayed (stray_of 0 0 (tree_in (parse (take n ws)))) (answer_of n (part_depth (take n ws) 0) (type_of (context_in ds) 0 (tree_in (parse (take n ws))))))
    (refuse 8 0))
    (refuse 7 0))
    (refuse 1 0)

-- ---- what an answer means by the published rules
-- the first n words of the slice are a term's, under good declarations
pub record HeldTerm (ds ws : List ℕ) (n : ℕ) (t : Tree) : Type 0 where
  pub size : length ws ≡ max_words
  pub good : good_declarations ds ≡ true
  pub inside : n ≤ length ws
  pub is : words t ≡ take n ws
  pub term : IsTerm (names_in ds) t

-- and the term has a type
pub record TypedTerm (ds ws : List ℕ) (n : ℕ) (t : Tree) (S : Sort) : Type 0 where
  pub size : length ws ≡ max_words
  pub good : good_declarations ds ≡ true
  pub inside : n ≤ length ws
  pub is : words t ≡ take n ws
  pub term : IsTerm (names_in ds) t
  pub is_type : IsType S
  pub rules : context_in ds ⊢ t ∶ S

-- Every answer with what it says, each told apart from those before it. 01: "They test 1; 7 for bad declarations; 8, also for a length that is not the term's; 10; 11"; 02, CR 1: "a side's
-- 13 tested before its 10"
pub data Verdict (ds ws : List ℕ) (n : ℕ) : A.Typing → Type 0 where
  wrong_size : length ws ≢ max_words → Verdict ds ws n (refuse 1 0)
  bad_declarations : length ws ≡ max_words → good_declarations ds ≡ false → Verdict ds ws n (refuse 7 0)
  no_term : length ws ≡ max_words → good_declarations ds ≡ true → ((t : Tree) → HeldTerm ds ws n t → ⊥) → Verdict ds ws n (refuse 8 0)
  stray : {t : Tree} {k : ℕ} → HeldTerm ds ws n t → FirstStray (context_in ds) t k → Verdict ds ws n (refuse 13 k)
  no_sort : {t : Tree} {k : ℕ} → HeldTerm ds ws n t → NoStray (context_in ds) t → (HasSort (context_in ds) t → ⊥) → FirstUntyped (context_in ds) t k → Verdict ds ws n (refuse 10 k)
  no_type : {t : Tree} {S : Sort} → HeldTerm ds ws n t → context_in ds ⊢ t ∶ S → (IsType S → ⊥) → Verdict ds ws n (refuse 11 0)
  a_type : {t : Tree} {S : Sort} → TypedTerm ds ws n t S → Verdict ds ws n (answer_of n (depth t) (typed S))
