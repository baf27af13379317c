-- The row of whole parts against the words of trees: each undoes the other.
use mathlib.Core.Path.{◌≡◌, refl, sym, ◌∙◌, ap}
use mathlib.Core.List.{List, [], ◌∷◌, ◌++◌, append_assoc, append-nil}
use Prim.Native.Nat.{ℕ, zero, suc, ◌+◌, ◌<◌}
use native.Mathlib.Omega.{arith}
use lib.ListN.{length}
use Rattle.term.specs.Heads.{Label, word, Reading, unread, labelled, read}
use Rattle.term.specs.Trees.{Tree, Forest, node, none, ◌▹◌, count, ◌⧺◌, words, words*, Formed, Formed*}
use Rattle.term.specs.Parts.{Cut, short, cut, behind, chop, plant, grow, parse}
use Rattle.term.proofs.Readings.{word_read}

-- ---- forests
pub ⧺-none : (f : Forest) → f ⧺ none ≡ f
unfolding ◌⧺◌
⧺-none none = refl
⧺-none (t ▹ f) = ap (λ (g : Forest). t ▹ g) (⧺-none f)

pub ⧺-assoc : (f g h : Forest) → (f ⧺ g) ⧺ h ≡ f ⧺ (g ⧺ h)
unfolding ◌⧺◌
⧺-assoc none g h = refl
⧺-assoc (t ▹ f) g h = ap (λ (k : Forest). t ▹ k) (⧺-assoc f g h)

pub count-⧺ : (f g : Forest) → count (f ⧺ g) ≡ count f + count g
unfolding ◌⧺◌ count
count-⧺ none g = omega arith
count-⧺ (t ▹ f) g = omega (arith, count-⧺ f g)

pub words*-⧺ : (f g : Forest) → words* (f ⧺ g) ≡ words* f ++ words* g
unfolding ◌⧺◌ words*
words*-⧺ none g = refl
words*-⧺ (t ▹ f) g = rw (words*-⧺ f g, append_assoc)

pub Formed*-⧺ : (f g : Forest) → Formed* (f ⧺ g) → Formed* f × Formed* g
unfolding ◌⧺◌ Formed*
Formed*-⧺ none g h = (tt, h)
Formed*-⧺ (t ▹ f) g h = let r = Formed*-⧺ f g h.1 in ((h.0, r.0), r.1)

-- a tree has at least one word
pub some_words : (t : Tree) → 0 < length (words t)
unfolding words
some_words (node l cs) = omega arith

-- ---- taking children off the front
pub chop-⧺ : (f g : Forest) → chop (count f) (f ⧺ g) ≡ cut f g
unfolding ◌⧺◌ count chop
chop-⧺ none g = refl
chop-⧺ (t ▹ f) g = rw (chop-⧺ f g)

-- the two answers of `chop`, each with what it says of the row
pub data Chopped (n : ℕ) (f : Forest) : Cut → Type 0 where
  too_few : count f < n → Chopped n f short
  taken : (a b : Forest) → f ≡ a ⧺ b → count a ≡ n → Chopped n f (cut a b)

chopped_more : {n : ℕ} {f : Forest} {c : Cut} (t : Tree) → Chopped n f c → Chopped (suc n) (t ▹ f) (behind t c)
unfolding ◌⧺◌ count behind
chopped_more t (too_few h) = too_few (omega arith)
chopped_more t (taken a b e h) = taken (t ▹ a) b (rw e) (rw h)

pub chopped : (n : ℕ) (f : Forest) → Chopped n f (chop n f)
unfolding ◌⧺◌ count chop
chopped zero f = taken none f refl refl
chopped (suc n) none = too_few (omega arith)
chopped (suc n) (t ▹ f) = chopped_more t (chopped n f)

-- the two answers of `parse` at a word: no whole part begins there, and why; or one does
pub data Grown (w : ℕ) (f : Forest) : Forest → Type 0 where
  unread-word : read w ≡ unread → Grown w f none
  words-short : (l : Label) (n : ℕ) → read w ≡ labelled l n → count f < n → Grown w f none
  planted : (l : Label) (a b : Forest) → read w ≡ labelled l (count a) → f ≡ a ⧺ b → Grown w f (node l a ▹ b)

grown_by : {w : ℕ} {f : Forest} {l : Label} {n : ℕ} {c : Cut} → read w ≡ labelled l n → Chopped n f c → Grown w f (plant l c)
unfolding plant
grown_by r (too_few h) = words-short _ _ r h
grown_by {l} r (taken a b e h) = planted l a b (rw h r) e

grown_read : (w : ℕ) (f : Forest) (r : Reading) → read w ≡ r → Grown w f (grow r f)
unfolding grow
grown_read w f unread e = unread-word e
grown_read w f (labelled l n) e = grown_by e (chopped n f)

pub grown : (w : ℕ) (ws : List ℕ) → Grown w (parse ws) (parse (w ∷ ws))
unfolding parse
grown w ws = grown_read w (parse ws) (read w) refl

-- ---- `parse` undoes `words`
pub parse-node : (w : ℕ) (l : Label) (cs : Forest) → read w ≡ labelled l (count cs) → (vs : List ℕ) (g : Forest) → parse vs ≡ cs ⧺ g → parse (w ∷ vs) ≡ node l cs ▹ g
unfolding parse grow plant
parse-node w l cs h vs g e = rw (h, e, chop-⧺)

mutual
  unfolding words ◌⧺◌ Formed

  pub parse-words : (t : Tree) → Formed t → (ws : List ℕ) → parse (words t ++ ws) ≡ t ▹ parse ws
  parse-words (node l cs) h ws = parse-node (word l (count cs)) l cs h.0 (words* cs ++ ws) (parse ws) (parse-words* cs h.1 ws)

  pub parse-words* : (f : Forest) → Formed* f → (ws : List ℕ) → parse (words* f ++ ws) ≡ f ⧺ parse ws
  parse-words* none h ws = refl
  parse-words* (t ▹ f) h ws = rw append_assoc (parse-words t h.0 (words* f ++ ws) ∙ ap (λ (g : Forest). t ▹ g) (parse-words* f h.1 ws))

-- ---- what `parse` accepts is `words` of its result, up to the first word at which no whole part begins
pub record Parsed (ws : List ℕ) (f : Forest) : Type 0 where
  pub rest : List ℕ
  pub whole : words* f ++ rest ≡ ws
  pub stops : parse rest ≡ none
  pub formed : Formed* f

accepted-more : {w : ℕ} {ws : List ℕ} {f g : Forest} → parse (w ∷ ws) ≡ g → Parsed ws f → Grown w f g → Parsed (w ∷ ws) g
unfolding words Formed
accepted-more {w} {ws} e r (unread-word h) = record { rest = w ∷ ws; whole = refl; stops = e; formed = tt }
accepted-more {w} {ws} e r (words-short l n h k) = record { rest = w ∷ ws; whole = refl; stops = e; formed = tt }
accepted-more {w} {ws} e r (planted l a b h k) =
    let v = word_read w l (count a) h in
    let p : Formed* (a ⧺ b) = rw k at r.formed in
    let q = Formed*-⧺ a b p in
    let s : words* a ++ words* b ≡ words* (a ⧺ b) = sym (words*-⧺ a b) in
    record { rest = r.rest; whole = cc r.whole; stops = r.stops; formed = ((rw v h, q.0), q.1) }

pub accepted : (ws : List ℕ) → Parsed ws (parse ws)
unfolding words Formed parse
accepted [] = record { rest = []; whole = refl; stops = refl; formed = tt }
accepted (w ∷ ws) = accepted-more refl (accepted ws) (grown w ws)

-- a row's own words are that row
pub parse-all : (f : Forest) → Formed* f → parse (words* f) ≡ f
unfolding parse
parse-all f h = cc (parse-words* f h [], append-nil (words* f), ⧺-none f)

-- a tree's own words are a row of that one tree
pub parse-tree : (t : Tree) → Formed t → parse (words t) ≡ t ▹ none
unfolding parse
parse-tree t h = rw append-nil at (parse-words t h [])

-- a whole part is no proper prefix of another
pub prefix_free : (t u : Tree) → Formed t → Formed u → (r s : List ℕ) → words t ++ r ≡ words u ++ s → t ≡ u
prefix_free t u h k r s e = let p = sym (parse-words t h r) ∙ ap parse e ∙ parse-words u k s in cc
