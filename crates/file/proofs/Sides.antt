-- The words that the reader keeps of a file in order: its terms are held in their slices, typed there as the file types them, and its steps are the lent ones.
use mathlib.Core.Path.{◌≡◌, sym, ◌∙◌}
use mathlib.Core.Bool.{true}
use mathlib.Core.List.{List}
use Prim.Native.Nat.{ℕ, ◌≤◌}
use native.Mathlib.Omega.{arith}
use lib.ListN.{length}
use Rattle.term.specs.Trees.{Tree, words}
use Rattle.term.specs.Terms.{max_words, IsTerm, term_words}
use Rattle.term.proofs.TermTest.{term-tree}
use Rattle.types.specs.Sorts.{Sort}
use Rattle.declarations.specs.Declarations.{context_in}
use Rattle.typing.specs.Answers.{HeldTerm, TypedTerm}
use Rattle.rules.specs.Steps.{Sides}
use Rattle.lent.specs.Lent.{moves_in}
use Rattle.format.specs.Files.{File, names_of, context_of, InOrder}
use Rattle.format.specs.Kept.{declarations_of, padded, steps_of}
use Rattle.format.proofs.Declared.{declared, names-declared}
use Rattle.format.proofs.Stepped.{moves_kept}
use Rattle.format.proofs.Padded.{padded-front, padded-size}
use Rattle.step.specs.Derivations.{AllTaken}
use Rattle.step.specs.Alike.{Alike}
use Rattle.file.specs.Files.{TypedSide}

module _ (f : File) (o : InOrder f) where
  pub context : context_in (declarations_of f) ≡ context_of f
  context = (declared f o.declared).context

  -- ---- a side
  held-side : (ws : List ℕ) (t : Tree) → words t ≡ ws → IsTerm (names_of f) t → HeldTerm (declarations_of f) (padded ws) (length ws) t
  held-side ws t e k =
      let short : length ws ≤ max_words = rw e at k.short in
      let size = padded-size ws short in
      record {
        size = size;
        good = (declared f o.declared).good;
        inside = omega arith;
        is = e ∙ sym (padded-front ws);
        term = rw (names-declared f o.declared) k;
      }

  pub side-held : (ws : List ℕ) → term_words (names_of f) ws ≡ true → (t : Tree) × HeldTerm (declarations_of f) (padded ws) (length ws) t
  side-held ws e = let t = term-tree (names_of f) ws e in (t.0, held-side ws t.0 t.1 t.2)

  pub side-typed : {ws : List ℕ} {t : Tree} {S : Sort} → TypedSide f ws t S → TypedTerm (declarations_of f) (padded ws) (length ws) t S
  side-typed {ws} {t} k =
      let h = held-side ws t k.is k.term in
      record { size = h.size; good = h.good; inside = h.inside; is = h.is; term = h.term; is_type = k.is_type; rules = rw context k.rules }

  pub typed-side : (ws : List ℕ) {t : Tree} {S : Sort} → TypedTerm (declarations_of f) (padded ws) (length ws) t S → TypedSide f ws t S
  typed-side ws k =
      record { is = k.is ∙ padded-front ws; term = rw (names-declared f o.declared) at k.term; is_type = k.is_type; rules = rw context at k.rules }

  -- ---- the steps
  pub moves : moves_in (steps_of f) (length f.steps) ≡ f.steps
  moves = moves_kept f o.few_steps

  pub steps-lent : {p q : Sides} → AllTaken (context_of f) p f.steps q → AllTaken (context_in (declarations_of f)) p (moves_in (steps_of f) (length f.steps)) q
  steps-lent a = rw (context, moves) a

  pub lent-steps : {p q : Sides} → AllTaken (context_in (declarations_of f)) p (moves_in (steps_of f) (length f.steps)) q → AllTaken (context_of f) p f.steps q
  lent-steps a = rw (context, moves) at a

  -- ---- what the sides stand for
  pub alike_of : {S : Sort} {t u : Tree} → Alike (context_in (declarations_of f)) S t u → Alike (context_of f) S t u
  alike_of a = rw context at a
