-- The witnesses of what `specs/Statements` says of the rules.
use Rattle.algebra.specs.Semirings.{Arithmetic, StarSemiring}
use Rattle.term.specs.Trees.{Tree}
use Rattle.types.specs.Sorts.{Sort, Context, ◌⊠◌, Short}
use Rattle.types.specs.Rules.{◌⊢◌∶◌, base_prod, WellFormed}
use Rattle.types.proofs.Indices.{index_is}
use Rattle.types.proofs.Replace.{part-typed, inside_well}
use Rattle.rules.specs.Statements.{DecidesStep, AtMostOne, KeepsType, KeepsMeaning}
use Rattle.rules.proofs.AllTypes.{rule-keeps}
use Rattle.rules.proofs.AllMeanings.{rule_means}
use Rattle.rules.proofs.Decided.{complete, sound, unique}
use Rattle.rules.proofs.Good.{every_good}
use Rattle.rules.proofs.Lines.{value}

pub decides : DecidesStep
decides Γ W n r e i j p q f S d = let g = every_good n r e in (sound W r p g f d, complete W g)

pub at_most_one : AtMostOne
at_most_one Γ W n r e i j p q q' x y = unique W {r = r} (every_good n r e) x y

-- a product of indices that has a sort is short: its factors are the indices of that sort
product-short : {Γ : Context} → WellFormed Γ → {σ τ : Tree} {S : Sort} → Γ ⊢ σ ⊠ τ ∶ S → Short (σ ⊠ τ)
product-short W (base_prod a b h) = rw (index_is W a, index_is W b) h

pub keeps-type : KeepsType
keeps-type Γ W n r e i j p q x S d =
    let k = rule-keeps W n r e i j p q S x d in
    (k, λ at σ τ f. product-short (inside_well W q at) (part-typed W q at (σ ⊠ τ) S k f).1)

pub keeps-meaning : {R : Type 0} {𝓐 : Arithmetic R} (𝓡 : StarSemiring 𝓐) → KeepsMeaning 𝓡
unfolding value
keeps-meaning 𝓡 Γ χ W F n r e i j p q x S d = rule_means 𝓡 W F n r e i j p q S x d
