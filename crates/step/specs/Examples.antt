-- Document 01, "Examples at the edges": "Those with [p] form one table about the definitions, proved by one statement".
use Rattle.std.specs.Prelude.{◌≡◌, List, [], ◌∷◌, ◌++◌, ℕ, ◌+◌, ◌-◌, ◌*◌, length, replicate}
use Rattle.term.specs.Terms.{max_words}
use Rattle.declarations.specs.Declarations.{size}
use Rattle.declarations.specs.Put.{started, basis_put, variable_put}
use Rattle.typing.specs.declared.terms.Typing.{Typing}
use Rattle.typing.specs.Answers.{typing_of}
use Rattle.lent.specs.declared.steps.Step.{Step}
use Rattle.step.specs.declared.single.Answer.{Answer}
use Rattle.step.specs.Answers.{answer_to, words_left}

-- a token h:a, or h with a = 0
infix 75 ◌⦂◌
abbrev pub ◌⦂◌ : ℕ → ℕ → ℕ
h ⦂ a = h * 256 + a

-- "Declared: basis 0 and 1 of index 1:0; variables 0 ket, 1 operator, 2 scalar, 3 bra, all over 1:0"
unfoldable pub declarations : List ℕ
unfolding started basis_put variable_put
declarations =
    let σ = 1 ⦂ 0 ∷ [] in
    let bases = basis_put (basis_put (started (replicate size 0) 1) σ) σ in
    variable_put (variable_put (variable_put (variable_put bases 1 σ []) 3 σ σ) 0 [] []) 2 σ []

-- a work slice that begins with a term's words
unfoldable pub slice : List ℕ → List ℕ
slice ws = ws ++ replicate (max_words - length ws) 0

-- a rule with i and j, at the start of a term
abbrev pub rule : ℕ → ℕ → ℕ → Step
rule n i j = record { rule = n; place = 0; i = i; j = j }

abbrev pub typing : List ℕ → Typing
typing ws = typing_of declarations (slice ws) (length ws)

abbrev pub answer : Step → List ℕ → Answer
answer s ws = answer_to declarations (slice ws) (length ws) s

-- the step is good, and leaves other words
abbrev pub Gives : Step → List ℕ → List ℕ → Type 0
Gives s ws us = ((answer s ws).code ≡ 0) × (words_left declarations (slice ws) (length ws) s ≡ slice us)

pub record Examples : Type 0 where
  -- "33 on `10 3:0 3:0` gives `6`"; "on `10 3:0 3:1` code 22"
  pub delta_of_one : Gives (rule 33 0 0) (10 ⦂ 0 ∷ 3 ⦂ 0 ∷ 3 ⦂ 0 ∷ []) (6 ⦂ 0 ∷ [])
  pub delta_of_two : (answer (rule 33 0 0) (10 ⦂ 0 ∷ 3 ⦂ 0 ∷ 3 ⦂ 1 ∷ [])).code ≡ 22
  -- "51, i 0, j 1, on `20:2 26:0 26:0` gives `20:1 19 7:2 6 6 26:0`"; "i 1, j 0: 22"
  pub collected : Gives (rule 51 0 1) (20 ⦂ 2 ∷ 26 ⦂ 0 ∷ 26 ⦂ 0 ∷ []) (20 ⦂ 1 ∷ 19 ⦂ 0 ∷ 7 ⦂ 2 ∷ 6 ⦂ 0 ∷ 6 ⦂ 0 ∷ 26 ⦂ 0 ∷ [])
  pub out_of_order : (answer (rule 51 1 0) (20 ⦂ 2 ∷ 26 ⦂ 0 ∷ 26 ⦂ 0 ∷ [])).code ≡ 22
  -- "55, i 0, on `20:2 12 1:0 26:0` gives `20:1 26:0`"; "on `20:1 12 1:0`: 22"
  pub zero_removed : Gives (rule 55 0 0) (20 ⦂ 2 ∷ 12 ⦂ 0 ∷ 1 ⦂ 0 ∷ 26 ⦂ 0 ∷ []) (20 ⦂ 1 ∷ 26 ⦂ 0 ∷ [])
  pub only_zero : (answer (rule 55 0 0) (20 ⦂ 1 ∷ 12 ⦂ 0 ∷ 1 ⦂ 0 ∷ [])).code ≡ 22
  -- "86 on `21 16 3:0 16 3:0` gives `16 4 3:0 3:0`"
  pub pair : Gives (rule 86 0 0) (21 ⦂ 0 ∷ 16 ⦂ 0 ∷ 3 ⦂ 0 ∷ 16 ⦂ 0 ∷ 3 ⦂ 0 ∷ []) (16 ⦂ 0 ∷ 4 ⦂ 0 ∷ 3 ⦂ 0 ∷ 3 ⦂ 0 ∷ [])
  -- "107 on `22 24 26:0 26:3 26:0` gives `19 11 26:3 26:0 26:0`"
  pub outer_times_ket : Gives (rule 107 0 0) (22 ⦂ 0 ∷ 24 ⦂ 0 ∷ 26 ⦂ 0 ∷ 26 ⦂ 3 ∷ 26 ⦂ 0 ∷ []) (19 ⦂ 0 ∷ 11 ⦂ 0 ∷ 26 ⦂ 3 ∷ 26 ⦂ 0 ∷ 26 ⦂ 0 ∷ [])
  -- "43 on `19 5 26:0` gives `12 1:0`"
  pub scaled_by_zero : Gives (rule 43 0 0) (19 ⦂ 0 ∷ 5 ⦂ 0 ∷ 26 ⦂ 0 ∷ []) (12 ⦂ 0 ∷ 1 ⦂ 0 ∷ [])
  -- "170, i 0, on `20:2 26:0 6` is untyped from the start; typing says 10 at 0"
  pub untyped_from_the_start : (answer (rule 170 0 0) (20 ⦂ 2 ∷ 26 ⦂ 0 ∷ 6 ⦂ 0 ∷ [])).code ≡ 10
  pub untyped_sum : ((typing (20 ⦂ 2 ∷ 26 ⦂ 0 ∷ 6 ⦂ 0 ∷ [])).code ≡ 10) × ((typing (20 ⦂ 2 ∷ 26 ⦂ 0 ∷ 6 ⦂ 0 ∷ [])).at ≡ 0)
  -- "`23 26:0 26:1` has no type: 10 at 0"
  pub untyped_product : ((typing (23 ⦂ 0 ∷ 26 ⦂ 0 ∷ 26 ⦂ 1 ∷ [])).code ≡ 10) × ((typing (23 ⦂ 0 ∷ 26 ⦂ 0 ∷ 26 ⦂ 1 ∷ [])).at ≡ 0)
