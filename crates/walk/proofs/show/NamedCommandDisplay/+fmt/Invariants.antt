use Rattle.stepping.proofs.tree.Command.TheLaws.{the_size}
use Rattle.walk.proofs.show.NamedCommandDisplay.+fmt.Given as goal

abbrev pub decreases-fmt : goal.decreases-fmt
decreases-fmt g l = the_size l.self.now.phrase.now
