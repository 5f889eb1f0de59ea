use Rattle.session.proofs.OneReading.{one_reading}
use Rattle.session.proofs.Running.{readers_give}
use Rattle.session.proofs.laws.one_reading.Goals as goal

pub returns-clause-one : goal.returns-clause-one
returns-clause-one c = one_reading

pub returns-clause-given : goal.returns-clause-given
returns-clause-given c = readers_give
