use Rattle.imp.proofs.Forward.{forward}
use Rattle.imp.proofs.Backward.{backward}
use Rattle.imp.proofs.derivations_are_runs.Goals as goal

pub returns : goal.returns
returns c = λ A w. record {
  run = λ c σ τ d. forward A w d;
  derivation = λ c σ τ n p r. backward A w p r;
}
