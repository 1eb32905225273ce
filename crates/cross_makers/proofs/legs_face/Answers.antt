-- `cross_makers::legs_face` meets its contract.
use borrow.Author.Tests.{eq-eqb, ne_eqb}
use Rattle.cross_makers.proofs.Candidates.{last-faces}
use Rattle.cross_makers.proofs.legs_face.Goals as goal

pub returns-then-c-s : goal.returns-then-c-s
returns-then-c-s c = simp (ne_eqb _ _ c.if-c-s.true)

pub returns-then-c-opposite_of : goal.returns-then-c-opposite_of
returns-then-c-opposite_of c =
    simp (eq-eqb _ _ c.if-c-s.false, ← c.opposite_of.ensures, ne_eqb _ _ c.if-c-opposite_of.true)

pub returns-then-c-q : goal.returns-then-c-q
returns-then-c-q c =
    simp (eq-eqb _ _ c.if-c-s.false, ← c.opposite_of.ensures, eq-eqb _ _ c.if-c-opposite_of.false, ne_eqb _ _ c.if-c-q.true)

pub returns-then-c-t : goal.returns-then-c-t
returns-then-c-t c =
    simp (
      eq-eqb _ _ c.if-c-s.false,
      ← c.opposite_of.ensures,
      eq-eqb _ _ c.if-c-opposite_of.false,
      eq-eqb _ _ c.if-c-q.false,
      ne_eqb _ _ c.if-c-t.true,
    )

pub returns-then-c-opposite_of-2 : goal.returns-then-c-opposite_of-2
returns-then-c-opposite_of-2 c =
    simp (
      eq-eqb _ _ c.if-c-s.false,
      ← c.opposite_of.ensures,
      eq-eqb _ _ c.if-c-opposite_of.false,
      eq-eqb _ _ c.if-c-q.false,
      eq-eqb _ _ c.if-c-t.false,
      ← c.opposite_of-2.ensures,
      ne_eqb _ _ c.if-c-opposite_of-2.true,
    )

pub returns : goal.returns
returns c =
    last-faces _ _ _ _ _ _ _ _ _ _ _ _ _ c.if-c-s.false c.opposite_of.ensures c.if-c-opposite_of.false c.if-c-q.false c.if-c-t.false
    c.opposite_of-2.ensures c.if-c-opposite_of-2.false
