-- The numbers of answers, and what the exported calls promise: there is an answer of which the number is returned, and it is
-- one that the call of the same name promises.
use Rattle.std.specs.Prelude.{◌≡◌, ℕ, List, Ok, Err}
use Rattle.views.specs.declared.judging.Judged.{Judged}
use Rattle.views.specs.declared.judging.Judged.TheVariants.{Plain, Unclear, NoView, Few}
use Rattle.views.specs.declared.made.Refused.TheVariants.{Muddy, NoSuch, NoSource, NoLook, Full, Small}
use Rattle.views.specs.Judged.{JudgedPost}
use Rattle.views.specs.Made.{Made, ShownPost, MadePost}
use Rattle.views.specs.Put.{PutPost}

abbrev pub judged_number : Judged → ℕ
judged_number Plain = 0
judged_number Unclear = 1
judged_number NoView = 2
judged_number Few = 3

abbrev pub made_number : Made → ℕ
made_number (Ok n) = 0
made_number (Err Muddy) = 1
made_number (Err NoSuch) = 2
made_number (Err NoSource) = 3
made_number (Err NoLook) = 4
made_number (Err Full) = 5
made_number (Err Small) = 6

-- What `written` is after an answer: how many bytes were written at done, and otherwise what it was.
abbrev pub written_after : Made → ℕ → ℕ
written_after (Ok n) was = n
written_after (Err why) was = was

-- The number r is that of an answer which judging the view s with w work words promises.
pub record JudgeAnswers (s : List ℕ) (w r : ℕ) : Type 0 where
  pub answer : Judged
  pub number : r ≡ judged_number answer
  pub promised : JudgedPost s w answer

-- The same of a call that writes: n is what `written` was, and n' what it is then.
pub record Tells (P : Made → Type 0) (n n' r : ℕ) : Type 0 where
  pub answer : Made
  pub number : r ≡ made_number answer
  pub written : n' ≡ written_after answer n
  pub promised : P answer

abbrev pub ShowAnswers : List ℕ → List ℕ → List ℕ → List ℕ → ℕ → ℕ → ℕ → ℕ → Type 0
ShowAnswers s a o o' w n n' r = Tells (ShownPost s a o o' w) n n' r

abbrev pub MakeAnswers : List ℕ → List ℕ → List ℕ → List ℕ → ℕ → ℕ → ℕ → ℕ → Type 0
MakeAnswers s b o o' w n n' r = Tells (MadePost s b o o' w) n n' r

-- The source comes before the look.
abbrev pub PutAnswers : List ℕ → List ℕ → List ℕ → List ℕ → List ℕ → ℕ → ℕ → ℕ → ℕ → Type 0
PutAnswers s a b o o' w n n' r = Tells (PutPost s a b o o' w) n n' r
