use Rattle.std.proofs.Common.{inl, inr, refl, arith}
use Rattle.reach.proofs.Advances.{expands_two}
use Rattle.reach.proofs.search.expand.Goals as goal

pub mark-requires-in-Two : goal.mark-requires-in-Two
mark-requires-in-Two g c =
    let less = c.in-Two.ensures.within _ (inl refl) in
    record { inside = omega arith; small = omega (arith, c.requires.small) }

pub mark-requires-in-Two-2 : goal.mark-requires-in-Two-2
mark-requires-in-Two-2 g c =
    let less = c.in-Two.ensures.within _ (inr refl) in
    record { inside = omega arith; small = omega (arith, c.requires.small) }

pub returns-in-Two-clause-all : goal.returns-in-Two-clause-all
returns-in-Two-clause-all g c = expands_two c.in-Two.ensures c.mark-in-Two.ensures.marked c.mark-in-Two-2.ensures.marked
