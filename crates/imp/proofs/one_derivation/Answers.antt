use Rattle.imp.proofs.Unique.{one_a, one_b, one, same_end, same_derivation, same_steps}
use Rattle.imp.proofs.one_derivation.Goals as goal

pub returns : goal.returns
returns c = λ A w. record {
  of_expression = λ a σ. one_a A σ a;
  of_test = λ b σ. one_b A σ b;
  of_command = one A w;
  end = λ c σ τ υ d e. same_end A w d e;
  derivation = λ c σ τ. same_derivation A w;
  count = λ c σ τ υ d e. same_steps A w d e;
}
