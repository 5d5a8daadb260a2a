use Rattle.stepping.proofs.tree.Expression.TheLaws.{the_size}
use Rattle.walk.proofs.show.NamedExpressionDisplay.+fmt.Given as goal

abbrev pub decreases-fmt : goal.decreases-fmt
decreases-fmt g l = the_size l.self.now.phrase.now
