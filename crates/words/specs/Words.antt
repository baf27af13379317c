-- Runs of words as such: clearing, copying and comparing them.
use Rattle.std.specs.Prelude.{◌≡◌, Bool, true, false, cond, ◌&&◌, List, [], ◌∷◌, ◌++◌, ℕ, suc, ◌+◌, ◌-◌, ◌≤◌, min, eqb, leb, length, take, drop, replicate}

-- 01: "zeros behind the term". The words below an offset as they are, and zeros from there on
unfoldable pub cleared : List ℕ → ℕ → List ℕ
cleared ws at = take at ws ++ replicate (length ws - at) 0

-- `src` laid over the front of `dst`: as many words as both have
unfoldable pub overlaid : List ℕ → List ℕ → List ℕ
overlaid dst src = take (length dst) src ++ drop (length src) dst

-- 01, code 30: "the first offset where they differ". How many words agree from the front; the shorter's length where it is a prefix of the other
unfoldable pub agreeing : List ℕ → List ℕ → ℕ
agreeing [] bs = 0
agreeing (a ∷ as') [] = 0
agreeing (a ∷ as') (b ∷ bs) = cond (eqb a b) (suc (agreeing as' bs)) 0

-- two runs are the same word by word
unfoldable pub same_words : List ℕ → List ℕ → Bool
same_words [] [] = true
same_words [] (w ∷ ws) = false
same_words (v ∷ vs) [] = false
same_words (v ∷ vs) (w ∷ ws) = eqb v w && same_words vs ws

-- `src` laid over `dst` from an offset on, where there is room for all of it
unfoldable pub laid : List ℕ → ℕ → List ℕ → List ℕ
laid dst at src = cond (leb (at + length src) (length dst)) (take at dst ++ (src ++ drop (at + length src) dst)) dst

-- What appending comes to: `src` stands behind the first `at` words of `out`, or there was no room for it, and the end is past the slice's
pub record Added (out : List ℕ) (at : ℕ) (src out' : List ℕ) (e : ℕ) : Type 0 where
  pub size : length out' ≡ length out
  pub end : e ≡ min (at + length src) (length out + 1)
  pub front : at + length src ≤ length out → take (at + length src) out' ≡ take at out ++ src
