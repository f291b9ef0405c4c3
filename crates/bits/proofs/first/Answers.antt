use Rattle.std.proofs.Common.{inl, inr, arith}
use Rattle.std.proofs.lemmas.Bool.{cases_lt}
use Rattle.bits.proofs.Scans.{passes_rest, place_within, place_left, none_left}
use Rattle.bits.proofs.first.Goals as goal

pub overflow_add-found : goal.overflow_add-found
overflow_add-found c = let within = place_within c.loop-k.k c.left.type_inv c.left.ensures c.if-rest-gt0.true in omega arith

pub returns-then-found-size : goal.returns-then-found-size
returns-then-found-size c = record {
  from = omega arith;
  below = c.if-found-size.true;
  left = place_left c.loop-k.k c.left.type_inv c.left.ensures c.if-rest-gt0.true;
  none = λ j low high. elim (cases_lt j c.loop-k.k) [
    | inl before ↦ c.loop-k.invariant.1 j low before
    | inr on ↦ none_left c.loop-k.k c.left.type_inv c.left.ensures c.if-rest-gt0.true j on high
  ];
}

pub returns-else-found-size : goal.returns-else-found-size
returns-else-found-size c = λ j low high. elim (cases_lt j c.loop-k.k) [
  | inl before ↦ c.loop-k.invariant.1 j low before
  | inr on ↦ none_left c.loop-k.k c.left.type_inv c.left.ensures c.if-rest-gt0.true j on (omega arith)
]

pub loop-k-preserved : goal.loop-k-preserved
loop-k-preserved c = (
  omega arith,
  λ j low high. elim (cases_lt j c.loop-k.k) [
    | inl before ↦ c.loop-k.invariant.1 j low before
    | inr on ↦ passes_rest c.loop-k.k c.left.type_inv c.left.ensures (omega arith) j on (omega arith)
  ],
)
