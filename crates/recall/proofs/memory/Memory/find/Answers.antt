use Rattle.std.proofs.Common.{◌≡◌, take, Option, Some, None, IfSome, MatchOption, IsSomeAnd, ap, ◌∙◌, arith, rules}
use borrow.Author.Tests.{tests}
use Rattle.recall.proofs.Rows.{found}
use Rattle.recall.proofs.memory.Memory.find.Goals as goal

match_some : {X : Type 0} {B C : X → Type 0} (A : Type 0) (o : Option X) → MatchOption o A B → ((x : X) → B x → C x) → IfSome o C
match_some A None m h = tt
match_some A (Some x) m h = h x m

at_some : {X Y : Type 0} {P Q : X → Type 0} (o : Option X) → IsSomeAnd o P → IfSome o Q → ((x : X) → P x → Q x → Y) → Y
at_some None p q h = absurd p
at_some (Some x) p q h = h x p q

pub returns : goal.returns
returns c =
    let (p, from, m) = c.position.ensures.runs in
    let size = ap (λ s. s.size) from ∙ c.chunks.ensures.size in
    let front = ap (λ s. s.rest.now) from ∙ c.chunks.ensures.rest ∙ c.split_at.ensures.front in
    let (bounded, whole, each) = c.chunks.ensures.runs p p.seen (omega (arith, size)) in
    match_some _ c.position.result m (λ k h. at_some (p.at k) (h.1 (λ a r f' called. search (rules, tests))).0 (each k) (λ x yes part.
    let same : x.now ≡ take c.slot_words-words.result c.split_at.result.1.now = search (rules, tests) in
    found c.slot_words-words.ensures size (omega (arith, c.split_at.ensures.back_len)) front (same ∙ ap (take c.slot_words-words.result) c.split_at.ensures.back) part.1 part.2.0
    ))
