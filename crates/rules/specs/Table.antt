-- The 124 rules as data, by the numbers of document 01 ("The rules by number"), each with its name.
-- Each line is read against source document 002, tables 1 to 11; 180 to 183 against document 02, CR 1; 190 and 191 against CR 7.
use Rattle.std.specs.Prelude.{cond, List, [], ◌∷◌, ℕ, eqb}
use Rattle.std.proofs.Math.Option.{Option, some, none}
use Rattle.term.specs.Heads.{Label, index_product, pair, scalar_zero, scalar_one, scalar_sum, scalar_product, conjugate, delta, dot, zero_ket, zero_bra, zero_operator, identity, basis_ket}
use Rattle.term.specs.Heads.{basis_bra, adjoint, scale, add, tensor, mulk, mulb, outer, mulo, big_sum, bound_basis}
use Rattle.rules.specs.Patterns.{Pattern, #◌, first, second, ◌⟨⟩, ◌⟨◌⟩, ◌⟨◌∣◌⟩}

-- What must hold of the parts in the holes, where the left side does not tell: of what kind that in hole 0 is, 002's "K : K(σ) ⇒" in SCRK0, SCRB0 and SCRO0; that the one in hole 1 does
-- not use the basis that the part binds, in 183; that the one in hole 0 is a variable declared unitary, in 190 and 191
pub data Condition : Type 0 where
  any a_ket a_bra an_operator unused marked : Condition

-- which child is the sum that is spread over: always the same, or child i
pub data Which : Type 0 where
  child : ℕ → Which
  child_i : Which

-- whether a summand is X or a.X
pub data Summand : Type 0 where
  plain scaled : Summand

infix 75 ◌▷◌
infix 75 ◌⇒◌▷◌
pub data Rule : Type 0 where
  -- one equation
  ◌⇒◌▷◌ : Condition → Pattern → Pattern → Rule
  -- a head spreads over its child, a sum: the head, which child, the sum's head, the result's head
  spreading : Label → Which → Label → Label → Rule
  -- child i goes: the parent's head, the child's
  removing : Label → Label → Rule
  -- 5: child i is 0, and so is the product
  absorbing : Rule
  -- 1: child i, of the parent's own head, is merged into it
  merging : Rule
  -- 51 to 54: children i and j become one
  collecting : Summand → Summand → Rule
  -- 170: children i and i + 1 change places
  swapping : Rule
  -- 182: a sum over a basis spreads over its body, a sum
  distributing : Rule

abbrev pub ◌▷◌ : Pattern → Pattern → Rule
l ▷ r = any ⇒ l ▷ r

-- a line: the number, with the name beside it, and the rule
infix 70 ◌∶◌
pub data Line : Type 0 where
  ◌∶◌ : ℕ → Rule → Line

abbrev pub table : List Line
table =
    -- table 1
    1 {- FLATTEN -} ∶ merging ∷
    -- table 2
    2 {- ADDSID -} ∶ scalar_sum ⟨ # 0 ⟩ ▷ # 0 ∷
    3 {- MULSID -} ∶ scalar_product ⟨ # 0 ⟩ ▷ # 0 ∷
    4 {- ADDS0 -} ∶ removing scalar_sum scalar_zero ∷
    5 {- MULS0 -} ∶ absorbing ∷
    6 {- MULS1 -} ∶ removing scalar_product scalar_one ∷
    7 {- MULS2 -} ∶ spreading scalar_product child_i scalar_sum scalar_sum ∷
    -- table 3
    10 {- CONJ0 -} ∶ conjugate ⟨ scalar_zero ⟨⟩ ⟩ ▷ scalar_zero ⟨⟩ ∷
    11 {- CONJ1 -} ∶ conjugate ⟨ scalar_one ⟨⟩ ⟩ ▷ scalar_one ⟨⟩ ∷
    12 {- CONJ2 -} ∶ spreading conjugate (child 0) scalar_sum scalar_sum ∷
    13 {- CONJ3 -} ∶ spreading conjugate (child 0) scalar_product scalar_product ∷
    14 {- CONJ4 -} ∶ conjugate ⟨ conjugate ⟨ # 0 ⟩ ⟩ ▷ # 0 ∷
    15 {- CONJ5 -} ∶ conjugate ⟨ delta ⟨ # 0 ∣ # 1 ⟩ ⟩ ▷ delta ⟨ # 0 ∣ # 1 ⟩ ∷
    16 {- CONJ6 -} ∶ conjugate ⟨ dot ⟨ # 0 ∣ # 1 ⟩ ⟩ ▷ dot ⟨ adjoint ⟨ # 1 ⟩ ∣ adjoint ⟨ # 0 ⟩ ⟩ ∷
    20 {- DOT0 -} ∶ dot ⟨ zero_bra ⟨ # 0 ⟩ ∣ # 1 ⟩ ▷ scalar_zero ⟨⟩ ∷
    21 {- DOT1 -} ∶ dot ⟨ # 0 ∣ zero_ket ⟨ # 1 ⟩ ⟩ ▷ scalar_zero ⟨⟩ ∷
    22 {- DOT2 -} ∶ dot ⟨ scale ⟨ # 0 ∣ # 1 ⟩ ∣ # 2 ⟩ ▷ scalar_product ⟨ # 0 ∣ dot ⟨ # 1 ∣ # 2 ⟩ ⟩ ∷
    23 {- DOT3 -} ∶ dot ⟨ # 0 ∣ scale ⟨ # 1 ∣ # 2 ⟩ ⟩ ▷ scalar_product ⟨ # 1 ∣ dot ⟨ # 0 ∣ # 2 ⟩ ⟩ ∷
    24 {- DOT4 -} ∶ spreading dot (child 0) add scalar_sum ∷
    25 {- DOT5 -} ∶ spreading dot (child 1) add scalar_sum ∷
    26 {- DOT6 -} ∶ dot ⟨ basis_bra ⟨ # 0 ⟩ ∣ basis_ket ⟨ # 1 ⟩ ⟩ ▷ delta ⟨ # 0 ∣ # 1 ⟩ ∷
    27 {- DOT7 -} ∶ dot ⟨ tensor ⟨ # 0 ∣ # 1 ⟩ ∣ basis_ket ⟨ pair ⟨ # 2 ∣ # 3 ⟩ ⟩ ⟩ ▷ scalar_product ⟨ dot ⟨ # 0 ∣ basis_ket ⟨ # 2 ⟩ ⟩ ∣ dot ⟨ # 1 ∣ basis_ket ⟨ # 3 ⟩ ⟩ ⟩ ∷
    28 {- DOT8 -} ∶ dot ⟨ basis_bra ⟨ pair ⟨ # 0 ∣ # 1 ⟩ ⟩ ∣ tensor ⟨ # 2 ∣ # 3 ⟩ ⟩ ▷ scalar_product ⟨ dot ⟨ basis_bra ⟨ # 0 ⟩ ∣ # 2 ⟩ ∣ dot ⟨ basis_bra ⟨ # 1 ⟩ ∣ # 3 ⟩ ⟩ ∷
    29 {- DOT9 -} ∶ dot ⟨ tensor ⟨ # 0 ∣ # 1 ⟩ ∣ tensor ⟨ # 2 ∣ # 3 ⟩ ⟩ ▷ scalar_product ⟨ dot ⟨ # 0 ∣ # 2 ⟩ ∣ dot ⟨ # 1 ∣ # 3 ⟩ ⟩ ∷
    30 {- DOT10 -} ∶ dot ⟨ mulb ⟨ # 0 ∣ # 1 ⟩ ∣ # 2 ⟩ ▷ dot ⟨ # 0 ∣ mulk ⟨ # 1 ∣ # 2 ⟩ ⟩ ∷
    31 {- DOT11 -} ∶ dot ⟨ basis_bra ⟨ pair ⟨ # 0 ∣ # 1 ⟩ ⟩ ∣ mulk ⟨ tensor ⟨ # 2 ∣ # 3 ⟩ ∣ # 4 ⟩ ⟩ ▷ dot ⟨ tensor ⟨ mulb ⟨ basis_bra ⟨ # 0 ⟩ ∣ # 2 ⟩ ∣ mulb ⟨ basis_bra ⟨ # 1 ⟩ ∣ # 3 ⟩ ⟩ ∣ # 4 ⟩ ∷
    32 {- DOT12 -} ∶ dot ⟨ tensor ⟨ # 0 ∣ # 1 ⟩ ∣ mulk ⟨ tensor ⟨ # 2 ∣ # 3 ⟩ ∣ # 4 ⟩ ⟩ ▷ dot ⟨ tensor ⟨ mulb ⟨ # 0 ∣ # 2 ⟩ ∣ mulb ⟨ # 1 ∣ # 3 ⟩ ⟩ ∣ # 4 ⟩ ∷
    33 {- DELTA0 -} ∶ delta ⟨ # 0 ∣ # 0 ⟩ ▷ scalar_one ⟨⟩ ∷
    34 {- DELTA1 -} ∶ delta ⟨ pair ⟨ # 0 ∣ # 1 ⟩ ∣ pair ⟨ # 2 ∣ # 3 ⟩ ⟩ ▷ scalar_product ⟨ delta ⟨ # 0 ∣ # 2 ⟩ ∣ delta ⟨ # 1 ∣ # 3 ⟩ ⟩ ∷
    -- table 4
    40 {- SCR0 -} ∶ scale ⟨ scalar_one ⟨⟩ ∣ # 0 ⟩ ▷ # 0 ∷
    41 {- SCR1 -} ∶ scale ⟨ # 0 ∣ scale ⟨ # 1 ∣ # 2 ⟩ ⟩ ▷ scale ⟨ scalar_product ⟨ # 0 ∣ # 1 ⟩ ∣ # 2 ⟩ ∷
    42 {- SCR2 -} ∶ spreading scale (child 1) add add ∷
    43 {- SCRK0 -} ∶ a_ket ⇒ scale ⟨ scalar_zero ⟨⟩ ∣ # 0 ⟩ ▷ zero_ket ⟨ first 0 ⟩ ∷
    44 {- SCRK1 -} ∶ scale ⟨ # 0 ∣ zero_ket ⟨ # 1 ⟩ ⟩ ▷ zero_ket ⟨ # 1 ⟩ ∷
    45 {- SCRB0 -} ∶ a_bra ⇒ scale ⟨ scalar_zero ⟨⟩ ∣ # 0 ⟩ ▷ zero_bra ⟨ first 0 ⟩ ∷
    46 {- SCRB1 -} ∶ scale ⟨ # 0 ∣ zero_bra ⟨ # 1 ⟩ ⟩ ▷ zero_bra ⟨ # 1 ⟩ ∷
    47 {- SCRO0 -} ∶ an_operator ⇒ scale ⟨ scalar_zero ⟨⟩ ∣ # 0 ⟩ ▷ zero_operator ⟨ first 0 ∣ second 0 ⟩ ∷
    48 {- SCRO1 -} ∶ scale ⟨ # 0 ∣ zero_operator ⟨ # 1 ∣ # 2 ⟩ ⟩ ▷ zero_operator ⟨ # 1 ∣ # 2 ⟩ ∷
    -- table 5
    50 {- ADDID -} ∶ add ⟨ # 0 ⟩ ▷ # 0 ∷
    51 {- ADD0 -} ∶ collecting plain plain ∷
    52 {- ADD1 -} ∶ collecting plain scaled ∷
    53 {- ADD2 -} ∶ collecting scaled plain ∷
    54 {- ADD3 -} ∶ collecting scaled scaled ∷
    55 {- ADDK0 -} ∶ removing add zero_ket ∷
    56 {- ADDB0 -} ∶ removing add zero_bra ∷
    57 {- ADDO0 -} ∶ removing add zero_operator ∷
    -- table 6
    60 {- ADJ0 -} ∶ adjoint ⟨ adjoint ⟨ # 0 ⟩ ⟩ ▷ # 0 ∷
    61 {- ADJ1 -} ∶ adjoint ⟨ scale ⟨ # 0 ∣ # 1 ⟩ ⟩ ▷ scale ⟨ conjugate ⟨ # 0 ⟩ ∣ adjoint ⟨ # 1 ⟩ ⟩ ∷
    62 {- ADJ2 -} ∶ spreading adjoint (child 0) add add ∷
    63 {- ADJ3 -} ∶ adjoint ⟨ tensor ⟨ # 0 ∣ # 1 ⟩ ⟩ ▷ tensor ⟨ adjoint ⟨ # 0 ⟩ ∣ adjoint ⟨ # 1 ⟩ ⟩ ∷
    64 {- ADJK0 -} ∶ adjoint ⟨ zero_bra ⟨ # 0 ⟩ ⟩ ▷ zero_ket ⟨ # 0 ⟩ ∷
    65 {- ADJK1 -} ∶ adjoint ⟨ basis_bra ⟨ # 0 ⟩ ⟩ ▷ basis_ket ⟨ # 0 ⟩ ∷
    66 {- ADJK2 -} ∶ adjoint ⟨ mulb ⟨ # 0 ∣ # 1 ⟩ ⟩ ▷ mulk ⟨ adjoint ⟨ # 1 ⟩ ∣ adjoint ⟨ # 0 ⟩ ⟩ ∷
    67 {- ADJB0 -} ∶ adjoint ⟨ zero_ket ⟨ # 0 ⟩ ⟩ ▷ zero_bra ⟨ # 0 ⟩ ∷
    68 {- ADJB1 -} ∶ adjoint ⟨ basis_ket ⟨ # 0 ⟩ ⟩ ▷ basis_bra ⟨ # 0 ⟩ ∷
    69 {- ADJB2 -} ∶ adjoint ⟨ mulk ⟨ # 0 ∣ # 1 ⟩ ⟩ ▷ mulb ⟨ adjoint ⟨ # 1 ⟩ ∣ adjoint ⟨ # 0 ⟩ ⟩ ∷
    70 {- ADJO0 -} ∶ adjoint ⟨ zero_operator ⟨ # 0 ∣ # 1 ⟩ ⟩ ▷ zero_operator ⟨ # 1 ∣ # 0 ⟩ ∷
    71 {- ADJO1 -} ∶ adjoint ⟨ identity ⟨ # 0 ⟩ ⟩ ▷ identity ⟨ # 0 ⟩ ∷
    72 {- ADJO2 -} ∶ adjoint ⟨ outer ⟨ # 0 ∣ # 1 ⟩ ⟩ ▷ outer ⟨ adjoint ⟨ # 1 ⟩ ∣ adjoint ⟨ # 0 ⟩ ⟩ ∷
    73 {- ADJO3 -} ∶ adjoint ⟨ mulo ⟨ # 0 ∣ # 1 ⟩ ⟩ ▷ mulo ⟨ adjoint ⟨ # 1 ⟩ ∣ adjoint ⟨ # 0 ⟩ ⟩ ∷
    -- table 7
    80 {- TSR0 -} ∶ tensor ⟨ scale ⟨ # 0 ∣ # 1 ⟩ ∣ # 2 ⟩ ▷ scale ⟨ # 0 ∣ tensor ⟨ # 1 ∣ # 2 ⟩ ⟩ ∷
    81 {- TSR1 -} ∶ tensor ⟨ # 0 ∣ scale ⟨ # 1 ∣ # 2 ⟩ ⟩ ▷ scale ⟨ # 1 ∣ tensor ⟨ # 0 ∣ # 2 ⟩ ⟩ ∷
    82 {- TSR2 -} ∶ spreading tensor (child 0) add add ∷
    83 {- TSR3 -} ∶ spreading tensor (child 1) add add ∷
    84 {- TSRK0 -} ∶ tensor ⟨ zero_ket ⟨ # 0 ⟩ ∣ # 1 ⟩ ▷ zero_ket ⟨ index_product ⟨ # 0 ∣ first 1 ⟩ ⟩ ∷
    85 {- TSRK1 -} ∶ tensor ⟨ # 0 ∣ zero_ket ⟨ # 1 ⟩ ⟩ ▷ zero_ket ⟨ index_product ⟨ first 0 ∣ # 1 ⟩ ⟩ ∷
    86 {- TSRK2 -} ∶ tensor ⟨ basis_ket ⟨ # 0 ⟩ ∣ basis_ket ⟨ # 1 ⟩ ⟩ ▷ basis_ket ⟨ pair ⟨ # 0 ∣ # 1 ⟩ ⟩ ∷
    87 {- TSRB0 -} ∶ tensor ⟨ zero_bra ⟨ # 0 ⟩ ∣ # 1 ⟩ ▷ zero_bra ⟨ index_product ⟨ # 0 ∣ first 1 ⟩ ⟩ ∷
    88 {- TSRB1 -} ∶ tensor ⟨ # 0 ∣ zero_bra ⟨ # 1 ⟩ ⟩ ▷ zero_bra ⟨ index_product ⟨ first 0 ∣ # 1 ⟩ ⟩ ∷
    89 {- TSRB2 -} ∶ tensor ⟨ basis_bra ⟨ # 0 ⟩ ∣ basis_bra ⟨ # 1 ⟩ ⟩ ▷ basis_bra ⟨ pair ⟨ # 0 ∣ # 1 ⟩ ⟩ ∷
    90 {- TSRO0 -} ∶ tensor ⟨ # 0 ∣ zero_operator ⟨ # 1 ∣ # 2 ⟩ ⟩ ▷ zero_operator ⟨ index_product ⟨ first 0 ∣ # 1 ⟩ ∣ index_product ⟨ second 0 ∣ # 2 ⟩ ⟩ ∷
    91 {- TSRO1 -} ∶ tensor ⟨ zero_operator ⟨ # 0 ∣ # 1 ⟩ ∣ # 2 ⟩ ▷ zero_operator ⟨ index_product ⟨ # 0 ∣ first 2 ⟩ ∣ index_product ⟨ # 1 ∣ second 2 ⟩ ⟩ ∷
    92 {- TSRO2 -} ∶ tensor ⟨ identity ⟨ # 0 ⟩ ∣ identity ⟨ # 1 ⟩ ⟩ ▷ identity ⟨ index_product ⟨ # 0 ∣ # 1 ⟩ ⟩ ∷
    93 {- TSRO3 -} ∶ tensor ⟨ outer ⟨ # 0 ∣ # 1 ⟩ ∣ outer ⟨ # 2 ∣ # 3 ⟩ ⟩ ▷ outer ⟨ tensor ⟨ # 0 ∣ # 2 ⟩ ∣ tensor ⟨ # 1 ∣ # 3 ⟩ ⟩ ∷
    -- table 8
    100 {- MULK0 -} ∶ mulk ⟨ zero_operator ⟨ # 0 ∣ # 1 ⟩ ∣ # 2 ⟩ ▷ zero_ket ⟨ # 0 ⟩ ∷
    101 {- MULK1 -} ∶ mulk ⟨ # 0 ∣ zero_ket ⟨ # 1 ⟩ ⟩ ▷ zero_ket ⟨ first 0 ⟩ ∷
    102 {- MULK2 -} ∶ mulk ⟨ identity ⟨ # 0 ⟩ ∣ # 1 ⟩ ▷ # 1 ∷
    103 {- MULK3 -} ∶ mulk ⟨ scale ⟨ # 0 ∣ # 1 ⟩ ∣ # 2 ⟩ ▷ scale ⟨ # 0 ∣ mulk ⟨ # 1 ∣ # 2 ⟩ ⟩ ∷
    104 {- MULK4 -} ∶ mulk ⟨ # 0 ∣ scale ⟨ # 1 ∣ # 2 ⟩ ⟩ ▷ scale ⟨ # 1 ∣ mulk ⟨ # 0 ∣ # 2 ⟩ ⟩ ∷
    105 {- MULK5 -} ∶ spreading mulk (child 0) add add ∷
    106 {- MULK6 -} ∶ spreading mulk (child 1) add add ∷
    107 {- MULK7 -} ∶ mulk ⟨ outer ⟨ # 0 ∣ # 1 ⟩ ∣ # 2 ⟩ ▷ scale ⟨ dot ⟨ # 1 ∣ # 2 ⟩ ∣ # 0 ⟩ ∷
    108 {- MULK8 -} ∶ mulk ⟨ mulo ⟨ # 0 ∣ # 1 ⟩ ∣ # 2 ⟩ ▷ mulk ⟨ # 0 ∣ mulk ⟨ # 1 ∣ # 2 ⟩ ⟩ ∷
    109 {- MULK9 -} ∶ mulk ⟨ tensor ⟨ # 0 ∣ # 1 ⟩ ∣ mulk ⟨ tensor ⟨ # 2 ∣ # 3 ⟩ ∣ # 4 ⟩ ⟩ ▷ mulk ⟨ tensor ⟨ mulo ⟨ # 0 ∣ # 2 ⟩ ∣ mulo ⟨ # 1 ∣ # 3 ⟩ ⟩ ∣ # 4 ⟩ ∷
    110 {- MULK10 -} ∶ mulk ⟨ tensor ⟨ # 0 ∣ # 1 ⟩ ∣ basis_ket ⟨ pair ⟨ # 2 ∣ # 3 ⟩ ⟩ ⟩ ▷ tensor ⟨ mulk ⟨ # 0 ∣ basis_ket ⟨ # 2 ⟩ ⟩ ∣ mulk ⟨ # 1 ∣ basis_ket ⟨ # 3 ⟩ ⟩ ⟩ ∷
    111 {- MULK11 -} ∶ mulk ⟨ tensor ⟨ # 0 ∣ # 1 ⟩ ∣ tensor ⟨ # 2 ∣ # 3 ⟩ ⟩ ▷ tensor ⟨ mulk ⟨ # 0 ∣ # 2 ⟩ ∣ mulk ⟨ # 1 ∣ # 3 ⟩ ⟩ ∷
    -- table 9
    120 {- MULB0 -} ∶ mulb ⟨ # 0 ∣ zero_operator ⟨ # 1 ∣ # 2 ⟩ ⟩ ▷ zero_bra ⟨ # 2 ⟩ ∷
    121 {- MULB1 -} ∶ mulb ⟨ zero_bra ⟨ # 0 ⟩ ∣ # 1 ⟩ ▷ zero_bra ⟨ second 1 ⟩ ∷
    122 {- MULB2 -} ∶ mulb ⟨ # 0 ∣ identity ⟨ # 1 ⟩ ⟩ ▷ # 0 ∷
    123 {- MULB3 -} ∶ mulb ⟨ scale ⟨ # 0 ∣ # 1 ⟩ ∣ # 2 ⟩ ▷ scale ⟨ # 0 ∣ mulb ⟨ # 1 ∣ # 2 ⟩ ⟩ ∷
    124 {- MULB4 -} ∶ mulb ⟨ # 0 ∣ scale ⟨ # 1 ∣ # 2 ⟩ ⟩ ▷ scale ⟨ # 1 ∣ mulb ⟨ # 0 ∣ # 2 ⟩ ⟩ ∷
    125 {- MULB5 -} ∶ spreading mulb (child 0) add add ∷
    126 {- MULB6 -} ∶ spreading mulb (child 1) add add ∷
    127 {- MULB7 -} ∶ mulb ⟨ # 0 ∣ outer ⟨ # 1 ∣ # 2 ⟩ ⟩ ▷ scale ⟨ dot ⟨ # 0 ∣ # 1 ⟩ ∣ # 2 ⟩ ∷
    128 {- MULB8 -} ∶ mulb ⟨ # 0 ∣ mulo ⟨ # 1 ∣ # 2 ⟩ ⟩ ▷ mulb ⟨ mulb ⟨ # 0 ∣ # 1 ⟩ ∣ # 2 ⟩ ∷
    129 {- MULB9 -} ∶ mulb ⟨ mulb ⟨ # 0 ∣ tensor ⟨ # 1 ∣ # 2 ⟩ ⟩ ∣ tensor ⟨ # 3 ∣ # 4 ⟩ ⟩ ▷ mulb ⟨ # 0 ∣ mulo ⟨ tensor ⟨ # 1 ∣ # 2 ⟩ ∣ tensor ⟨ # 3 ∣ # 4 ⟩ ⟩ ⟩ ∷
    130 {- MULB10 -} ∶ mulb ⟨ basis_bra ⟨ pair ⟨ # 0 ∣ # 1 ⟩ ⟩ ∣ tensor ⟨ # 2 ∣ # 3 ⟩ ⟩ ▷ tensor ⟨ mulb ⟨ basis_bra ⟨ # 0 ⟩ ∣ # 2 ⟩ ∣ mulb ⟨ basis_bra ⟨ # 1 ⟩ ∣ # 3 ⟩ ⟩ ∷
    131 {- MULB11 -} ∶ mulb ⟨ tensor ⟨ # 0 ∣ # 1 ⟩ ∣ tensor ⟨ # 2 ∣ # 3 ⟩ ⟩ ▷ tensor ⟨ mulb ⟨ # 0 ∣ # 2 ⟩ ∣ mulb ⟨ # 1 ∣ # 3 ⟩ ⟩ ∷
    -- table 10
    140 {- OUTER0 -} ∶ outer ⟨ zero_ket ⟨ # 0 ⟩ ∣ # 1 ⟩ ▷ zero_operator ⟨ # 0 ∣ first 1 ⟩ ∷
    141 {- OUTER1 -} ∶ outer ⟨ # 0 ∣ zero_bra ⟨ # 1 ⟩ ⟩ ▷ zero_operator ⟨ first 0 ∣ # 1 ⟩ ∷
    142 {- OUTER2 -} ∶ outer ⟨ scale ⟨ # 0 ∣ # 1 ⟩ ∣ # 2 ⟩ ▷ scale ⟨ # 0 ∣ outer ⟨ # 1 ∣ # 2 ⟩ ⟩ ∷
    143 {- OUTER3 -} ∶ outer ⟨ # 0 ∣ scale ⟨ # 1 ∣ # 2 ⟩ ⟩ ▷ scale ⟨ # 1 ∣ outer ⟨ # 0 ∣ # 2 ⟩ ⟩ ∷
    144 {- OUTER4 -} ∶ spreading outer (child 0) add add ∷
    145 {- OUTER5 -} ∶ spreading outer (child 1) add add ∷
    -- table 11
    150 {- MULO0 -} ∶ mulo ⟨ zero_operator ⟨ # 0 ∣ # 1 ⟩ ∣ # 2 ⟩ ▷ zero_operator ⟨ # 0 ∣ second 2 ⟩ ∷
    151 {- MULO1 -} ∶ mulo ⟨ # 0 ∣ zero_operator ⟨ # 1 ∣ # 2 ⟩ ⟩ ▷ zero_operator ⟨ first 0 ∣ # 2 ⟩ ∷
    152 {- MULO2 -} ∶ mulo ⟨ identity ⟨ # 0 ⟩ ∣ # 1 ⟩ ▷ # 1 ∷
    153 {- MULO3 -} ∶ mulo ⟨ # 0 ∣ identity ⟨ # 1 ⟩ ⟩ ▷ # 0 ∷
    154 {- MULO4 -} ∶ mulo ⟨ outer ⟨ # 0 ∣ # 1 ⟩ ∣ # 2 ⟩ ▷ outer ⟨ # 0 ∣ mulb ⟨ # 1 ∣ # 2 ⟩ ⟩ ∷
    155 {- MULO5 -} ∶ mulo ⟨ # 0 ∣ outer ⟨ # 1 ∣ # 2 ⟩ ⟩ ▷ outer ⟨ mulk ⟨ # 0 ∣ # 1 ⟩ ∣ # 2 ⟩ ∷
    156 {- MULO6 -} ∶ mulo ⟨ scale ⟨ # 0 ∣ # 1 ⟩ ∣ # 2 ⟩ ▷ scale ⟨ # 0 ∣ mulo ⟨ # 1 ∣ # 2 ⟩ ⟩ ∷
    157 {- MULO7 -} ∶ mulo ⟨ # 0 ∣ scale ⟨ # 1 ∣ # 2 ⟩ ⟩ ▷ scale ⟨ # 1 ∣ mulo ⟨ # 0 ∣ # 2 ⟩ ⟩ ∷
    158 {- MULO8 -} ∶ spreading mulo (child 0) add add ∷
    159 {- MULO9 -} ∶ spreading mulo (child 1) add add ∷
    160 {- MULO10 -} ∶ mulo ⟨ mulo ⟨ # 0 ∣ # 1 ⟩ ∣ # 2 ⟩ ▷ mulo ⟨ # 0 ∣ mulo ⟨ # 1 ∣ # 2 ⟩ ⟩ ∷
    161 {- MULO11 -} ∶ mulo ⟨ tensor ⟨ # 0 ∣ # 1 ⟩ ∣ tensor ⟨ # 2 ∣ # 3 ⟩ ⟩ ▷ tensor ⟨ mulo ⟨ # 0 ∣ # 2 ⟩ ∣ mulo ⟨ # 1 ∣ # 3 ⟩ ⟩ ∷
    162 {- MULO12 -} ∶ mulo ⟨ tensor ⟨ # 0 ∣ # 1 ⟩ ∣ mulo ⟨ tensor ⟨ # 2 ∣ # 3 ⟩ ∣ # 4 ⟩ ⟩ ▷ mulo ⟨ tensor ⟨ mulo ⟨ # 0 ∣ # 2 ⟩ ∣ mulo ⟨ # 1 ∣ # 3 ⟩ ⟩ ∣ # 4 ⟩ ∷
    -- our own
    170 {- SWAP -} ∶ swapping ∷
    -- sums over a basis
    180 {- SUM0 -} ∶ big_sum ⟨ # 0 ∣ scalar_zero ⟨⟩ ⟩ ▷ scalar_zero ⟨⟩ ∷
    181 {- SUM1 -} ∶ big_sum ⟨ # 0 ∣ outer ⟨ basis_ket ⟨ bound_basis 0 ⟨⟩ ⟩ ∣ basis_bra ⟨ bound_basis 0 ⟨⟩ ⟩ ⟩ ⟩ ▷ identity ⟨ # 0 ⟩ ∷
    182 {- SUM2 -} ∶ distributing ∷
    183 {- SUM3 -} ∶ unused ⇒ big_sum ⟨ # 0 ∣ delta ⟨ # 1 ∣ bound_basis 0 ⟨⟩ ⟩ ⟩ ▷ scalar_one ⟨⟩ ∷
    -- operators declared unitary
    190 {- UNIT0 -} ∶ marked ⇒ mulo ⟨ adjoint ⟨ # 0 ⟩ ∣ # 0 ⟩ ▷ identity ⟨ second 0 ⟩ ∷
    191 {- UNIT1 -} ∶ marked ⇒ mulo ⟨ # 0 ∣ adjoint ⟨ # 0 ⟩ ⟩ ▷ identity ⟨ first 0 ⟩ ∷
    []

-- the rule of a number, if there is one
abbrev pub find : ℕ → List Line → Option Rule
find n [] = none
find n ((k ∶ r) ∷ ls) = cond (eqb n k) (some r) (find n ls)

unfoldable pub rule_of : ℕ → Option Rule
rule_of n = find n table
