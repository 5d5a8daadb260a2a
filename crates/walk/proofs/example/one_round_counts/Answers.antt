use Rattle.std.proofs.Common.{refl}
use Rattle.imp.specs.Large.EvalA.{NUM, VAR, SUM}
use Rattle.imp.specs.Large.EvalB.{LESS}
use Rattle.imp.specs.Large.EvalC.{ASSGN, SEQ, WHILE-F, WHILE-T}
use Rattle.walk.proofs.example.one_round_counts.Goals as goal

pub returns : goal.returns
returns c = λ w σ h. (SEQ (ASSGN (NUM refl) h) (WHILE-T (LESS (VAR refl) (NUM refl) refl) (ASSGN (SUM (VAR refl) (NUM refl) refl) h) (WHILE-F (LESS (VAR refl) (NUM refl) refl))), refl)
