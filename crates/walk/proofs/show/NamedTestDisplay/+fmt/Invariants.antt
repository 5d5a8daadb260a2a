use Rattle.stepping.proofs.tree.Test.TheLaws.{the_size}
use Rattle.walk.proofs.show.NamedTestDisplay.+fmt.Given as goal

abbrev pub decreases-fmt : goal.decreases-fmt
decreases-fmt g l = the_size l.self.now.phrase.now
