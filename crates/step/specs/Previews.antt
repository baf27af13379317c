-- The preview of a step. 02, CR 3: "its code and the length, depth and type of what it leaves, with no slice written. Each must agree with taking the step on a copy of the side, refused
-- steps included". Its definition is made of the single step's and typing's own, so that it agrees for every code.
use Rattle.std.specs.Prelude.{◌≡◌, ◌≢◌, List, [], ℕ}
use Rattle.typing.specs.declared.terms.Kind.TheVariants as Kinds
use Rattle.typing.specs.declared.terms.Typing.{Typing}
use Rattle.typing.specs.Answers.{type_record, typing_of}
use Rattle.lent.specs.declared.steps.Step.{Step}
use Rattle.step.specs.Answers.{answer_to, words_left}

-- what typing tells of the copy, once the step was taken on it
abbrev pub typing_after : List ℕ → List ℕ → ℕ → Step → Typing
typing_after ds ws n s = typing_of ds (words_left ds ws n s) (answer_to ds ws n s).length

unfoldable pub preview_of : List ℕ → List ℕ → ℕ → Step → Typing
unfolding answer_to words_left typing_of
preview_of ds ws n s =
    let a = answer_to ds ws n s in
    let t = typing_after ds ws n s in
    record { code = a.code; side = a.side; step = a.step; at = a.at; length = a.length; depth = t.depth; of = t.of }

-- ---- "Each must agree with taking the step on a copy of the side, refused steps included"
pub record Agrees (ds ws : List ℕ) (n : ℕ) (s : Step) (p : Typing) : Type 0 where
  pub code : p.code ≡ (answer_to ds ws n s).code
  pub side : p.side ≡ (answer_to ds ws n s).side
  pub step : p.step ≡ (answer_to ds ws n s).step
  pub at : p.at ≡ (answer_to ds ws n s).at
  pub length : p.length ≡ (answer_to ds ws n s).length
  pub depth : p.depth ≡ (typing_after ds ws n s).depth
  pub type : p.of ≡ (typing_after ds ws n s).of
  -- what a step leaves of a typed term is typed, and so long
  pub typed : (typing_of ds ws n).code ≡ 0 → ((typing_after ds ws n s).code ≡ 0) × ((typing_after ds ws n s).length ≡ p.length) × (p.of ≡ (typing_of ds ws n).of)
  -- 01: "at every code from 1 to 19, a length or depth is 0 and a type is scalar"
  pub none : (typing_of ds ws n).code ≢ 0 → (p.length ≡ 0) × (p.depth ≡ 0) × (p.of ≡ type_record Kinds.Scalar [] [])
