-- The invariant: so many children are passed, and child `i` is what it is among the rest.
use Rattle.families.proofs.Walk.{Walked}
use Rattle.families.proofs.children.Part.child.Given as goal

abbrev pub invariant-loop : goal.invariant-loop
invariant-loop l = Walked l.self.words.now l.i l.n l.start l.counter
