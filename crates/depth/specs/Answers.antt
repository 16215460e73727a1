-- A depth with the strict verdict, or the refusal where that is not 0.
use Rattle.std.specs.Prelude.{ℕ, Result}
use Rattle.rules.specs.Answers.{answer}
use Rattle.rules.specs.declared.Verdict.{Verdict}
use Rattle.rules.specs.declared.refusal.Refusal.{Refusal}
use Rattle.depth.specs.declared.front.DepthAnswer.{DepthAnswer}

abbrev pub depth_answer : ℕ → ℕ → Verdict → Result DepthAnswer Refusal
depth_answer refused n v = answer refused (record { depth = n; verdict = v })
