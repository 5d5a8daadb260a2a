use Rattle.stepping.specs.Trees.{command_of}
use Rattle.walk.proofs.Walks.{Reached}
use Rattle.walk.proofs.walk.Given as goal

abbrev pub invariant-loop-steps : goal.invariant-loop-steps
invariant-loop-steps g l = Reached (command_of l.initial.configuration.command) l.initial.configuration.numbers (command_of l.configuration.command) l.configuration.numbers l.steps-counter
