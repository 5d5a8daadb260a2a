use Rattle.imp.proofs.Next.{given, none, unfinished}
use Rattle.imp.proofs.Stuck.{cause, sound, held}
use Rattle.imp.proofs.Trace.{never_ends}
use Rattle.imp.proofs.next_decides.Goals as goal

pub returns : goal.returns
returns c = λ A w. record {
  sound = λ c d σ τ h. sound A w h;
  complete = λ c d σ τ s. given A w s;
  stuck = λ c σ h n. held A w h n;
  rests = λ e c σ k. (none A w k, unfinished A w k);
  one_cause = λ e f c σ k l. cause A w k l;
  never_ends = λ m n e c d σ τ υ r k s. never_ends A w r k s;
}
