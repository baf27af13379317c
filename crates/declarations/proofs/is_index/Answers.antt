-- One word is an index by itself; of more words each condition of the definition is tested.
use mathlib.Core.Path.{sym, ◌∙◌}
use native.Mathlib.Omega.{arith}
use borrow.Author.Tests.{lt-ltb, le-leb, lt-leb, eq-eqb, ne_eqb}
use lib.ListN.{length}
use Rattle.term.specs.Parts.{part}
use Rattle.declarations.specs.Declarations.{is_index}
use Rattle.declarations.proofs.Entries.{one_index}
use Rattle.declarations.proofs.is_index.Goals as goal
use Rattle.declarations.proofs.is_index.Goals.{then-ws-eq0-via-then-ws-eq0, then-ws-eq0-via-else-ws-eq0+then-ws-gt63}

pub returns-else-ws-ne-INDEX_PRODUCT : goal.returns-else-ws-ne-INDEX_PRODUCT
returns-else-ws-ne-INDEX_PRODUCT c = let e = c.if-ws-ne-INDEX_PRODUCT.false in rw (eq-eqb _ _ e) (sym (one_index _ _ (omega arith) ∙ rw (eq-eqb _ _ e)))

pub returns-then-ws-eq0 : goal.returns-then-ws-eq0
unfolding is_index
returns-then-ws-eq0 c = elim c.then-ws-eq0.branch [
  | then-ws-eq0-via-then-ws-eq0 w ↦ rw w.if-ws-eq0.true
  | then-ws-eq0-via-else-ws-eq0+then-ws-gt63 w ↦ rw (lt-ltb 0 (length c.args.ws.now) (omega arith), lt-leb _ _ w.if-ws-gt63.true)
]

pub returns-then-part_end-ws : goal.returns-then-part_end-ws
unfolding is_index
returns-then-part_end-ws c =
    let ws = c.args.ws.now in
    rw (lt-ltb 0 (length ws) (omega arith), le-leb (length ws) 63 (omega arith), eq-eqb (length (part ws 0)) (length ws) (omega arith)) c.are_index_words.ensures

pub returns-else-part_end-ws : goal.returns-else-part_end-ws
unfolding is_index
returns-else-part_end-ws c =
    let ws = c.args.ws.now in
    rw (lt-ltb 0 (length ws) (omega arith), le-leb (length ws) 63 (omega arith), ne_eqb (length (part ws 0)) (length ws) λ e. c.if-part_end-ws.false (omega arith)) (ne_eqb _ _ c.if-part_end-ws.false)
