use Rattle.imp.proofs.Joined.{join, part}
use Rattle.imp.proofs.joined_runs.Goals as goal

pub returns : goal.returns
returns c = λ A w. record {
  join = λ cs σ τ n r. join A w r;
  part = λ cs σ τ m r. part A w cs r;
}
