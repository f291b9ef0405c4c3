-- Which nodes are reached from which, along the edges of a graph.

-- `Reach E a b`: some edges of E, one after the other, lead from a to b.
pub data Reach {A : Type 0} (E : A → A → Type 0) : A → A → Type 0 where
  here : {a : A} → Reach E a a
  step : {a b c : A} → E a b → Reach E b c → Reach E a c
