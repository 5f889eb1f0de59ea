use Rattle.session.specs.Stages.{left}
use Rattle.session.proofs.tests.read_commands.Given as goal

abbrev pub decreases-loop-rest : goal.decreases-loop-rest
decreases-loop-rest l = left l.reader
