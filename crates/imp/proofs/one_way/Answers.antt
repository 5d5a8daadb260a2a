use Rattle.imp.proofs.Next.{one_next, skip_rests}
use Rattle.imp.proofs.Trace.{same_place, through, same_run}
use Rattle.imp.proofs.one_way.Goals as goal

pub returns : goal.returns
returns c = λ A w. record {
  one_next = λ c d e σ τ υ s t. one_next A w s t;
  skip_rests = λ c σ τ s. skip_rests A w s;
  after = λ m c d e σ τ υ r s. same_place A w r s;
  through = λ m n c e σ υ h r. through A w m h r;
  one_end = λ m n c σ τ υ r s. same_run A w r s;
}
