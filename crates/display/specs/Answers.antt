-- What a function answers that writes a text.
use Rattle.std.specs.Prelude.{List, ℕ, length, Result}
use Rattle.rules.specs.Answers.{answer}
use Rattle.rules.specs.declared.refusal.Refusal.{Refusal}
use Rattle.lent.specs.Lists.{list_refusal}

-- written into a lent buffer: its arguments' refusal, 13 where the text does not fit, or its length
unfoldable pub written : ℕ → List ℕ → List ℕ → Result ℕ Refusal
written refused out text = answer (list_refusal refused out text) (length text)
